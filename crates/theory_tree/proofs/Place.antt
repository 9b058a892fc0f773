-- A new row among the rows of a leaf.
-- Assumes nothing.
use mathlib.Core.Path.{◌≡◌, refl, sym, ap, ◌∙◌}
use mathlib.Core.Bool.{Bool, true, false, ◌&&◌, ◌||◌}
use mathlib.Core.List.{List, [], ◌∷◌, ◌++◌}
use Prim.Native.Nat.{ℕ, ◌≤◌, ◌<◌}
use native.Mathlib.Omega.{arith}
use native.Mathlib.Nat.{le_trans}
use lib.Dec.{eqb, ltb}
use borrow.Author.Tests.{eq-eqb, ne_eqb, ltb-true, ltb-false, eqb-true, eqb-false}
use Rattle.leaf.specs.Rows.{Row}
use Rattle.theory_tree.specs.Shape.{All, KeysIn, Sorted, NotAfter}
use Rattle.theory_tree.specs.Versions.{of_version}
use Rattle.theory_tree.proofs.Workers.{after}
use Rattle.theory_tree.proofs.Contexts.{place}
use Rattle.theory_tree.proofs.Lists.{all_app, all_left, all_right, all_map}

pub le_cells : (x y z : Row) → NotAfter x y → NotAfter y z → NotAfter x z
le_cells x y z h g = let a = h.0 in let b = g.0 in (le_trans a b, λ e. le_trans (h.1 (omega arith)) (g.1 (omega arith)))

-- what `after` says: y is behind x and is of another key or creator
abbrev pub Past : Row → Row → Type 0
Past x y = NotAfter x y × (of_version x.key x.creator y ≡ false)

pub after_true : (x y : Row) → after x y ≡ true → Past x y
after_true x y = go (ltb x.key y.key) refl (eqb x.key y.key) refl (ltb x.creator y.creator) refl
  where
    go : (a : Bool) → ltb x.key y.key ≡ a → (b : Bool) → eqb x.key y.key ≡ b → (c : Bool) → ltb x.creator y.creator ≡ c
        → a || (b && c) ≡ true → Past x y
    go true ea b eb c ec h = let l : x.key < y.key = ltb-true x.key y.key ea in
        ((omega arith, λ e. absurd (omega arith)), rw (ne_eqb y.key x.key (λ e. omega arith)))
    go false ea true eb true ec h = let l : x.creator < y.creator = ltb-true x.creator y.creator ec in
        let k : x.key ≡ y.key = eqb-true x.key y.key eb in
        ((omega arith, λ e. omega arith), rw (eq-eqb y.key x.key (sym k), ne_eqb y.creator x.creator (λ e. omega arith)))
    go false ea true eb false ec h = absurd (let z : ◌≡◌ {A = ℕ} 0 1 = cc in omega arith)
    go false ea false eb c ec h = absurd (let z : ◌≡◌ {A = ℕ} 0 1 = cc in omega arith)

pub after_false : (x y : Row) → after x y ≡ false → NotAfter y x
after_false x y = go (ltb x.key y.key) refl (eqb x.key y.key) refl (ltb x.creator y.creator) refl
  where
    go : (a : Bool) → ltb x.key y.key ≡ a → (b : Bool) → eqb x.key y.key ≡ b → (c : Bool) → ltb x.creator y.creator ≡ c
        → a || (b && c) ≡ false → NotAfter y x
    go true ea b eb c ec h = absurd (let z : ◌≡◌ {A = ℕ} 0 1 = cc in omega arith)
    go false ea true eb true ec h = absurd (let z : ◌≡◌ {A = ℕ} 0 1 = cc in omega arith)
    go false ea true eb false ec h = (ltb-false x.key y.key ea, λ e. ltb-false x.creator y.creator ec)
    go false ea false eb c ec h = (ltb-false x.key y.key ea, λ e. absurd (eqb-false x.key y.key eb (sym e)))

-- one behind x and not of its key and creator: so is all behind that one
pub past_on : (x y z : Row) → Past x y → NotAfter y z → Past x z
past_on x y z h g = (le_cells x y z h.0 g, go (eqb z.key x.key) refl (eqb z.creator x.creator) refl)
  where
    go : (a : Bool) → eqb z.key x.key ≡ a → (b : Bool) → eqb z.creator x.creator ≡ b → eqb z.key x.key && eqb z.creator x.creator ≡ false
    go true ea true eb =
        let k : z.key ≡ x.key = eqb-true z.key x.key ea in
        let c : z.creator ≡ x.creator = eqb-true z.creator x.creator eb in
        let m : x.key ≤ y.key = h.0.0 in
        let n : y.key ≤ z.key = g.0 in
        let k' : y.key ≡ x.key = omega arith in
        let d : y.creator ≤ z.creator = g.1 (omega arith) in
        let e : x.creator ≤ y.creator = h.0.1 (sym k') in
        let c' : y.creator ≡ x.creator = omega arith in
        let z : true ≡ false = sym (rw (eq-eqb y.key x.key k', eq-eqb y.creator x.creator c')) ∙ h.1 in
        absurd (let z : ◌≡◌ {A = ℕ} 0 1 = cc in omega arith)
    go true ea false eb = rw (ea, eb)
    go false ea b eb = rw ea

pub record Placed (x : Row) (cs : List Row) : Type 0 where
  pub pre : List Row
  pub post : List Row
  pub old : cs ≡ pre ++ post
  pub new : place x cs ≡ pre ++ (x ∷ post)
  pub before : All (λ y. NotAfter y x) pre
  pub behind : All (Past x) post

pub placed : (x : Row) (cs : List Row) → Sorted cs → Placed x cs
placed x [] s = record { pre = []; post = []; old = refl; new = refl; before = tt; behind = tt }
placed x (y ∷ ys) s = go (after x y) refl (placed x ys s.1)
  where
    go : (c : Bool) → after x y ≡ c → Placed x ys → Placed x (y ∷ ys)
    go true e r = let h : Past x y = after_true x y e in
        record {
          pre = [];
          post = y ∷ ys;
          old = refl;
          new = rw e;
          before = tt;
          behind = (h, all_map (NotAfter y) (Past x) (λ z. past_on x y z h) ys s.0);
        }
    go false e r = record {
      pre = y ∷ r.pre;
      post = r.post;
      old = ap (λ l. y ∷ l) r.old;
      new = rw e (ap (λ l. y ∷ l) r.new);
      before = (after_false x y e, r.before);
      behind = r.behind;
    }

-- sorted lists and ++
pub srt_left : (a b : List Row) → Sorted (a ++ b) → Sorted a
srt_left [] b h = tt
srt_left (x ∷ xs) b h = (all_left (NotAfter x) xs b h.0, srt_left xs b h.1)

pub srt_right : (a b : List Row) → Sorted (a ++ b) → Sorted b
srt_right [] b h = h
srt_right (x ∷ xs) b h = srt_right xs b h.1

pub srt_mid : (x : Row) (a b : List Row) → Sorted (a ++ b) → All (λ y. NotAfter y x) a → All (NotAfter x) b → Sorted (a ++ (x ∷ b))
srt_mid x [] b h p q = (q, h)
srt_mid x (y ∷ ys) b h p q =
    (all_app (NotAfter y) ys (x ∷ b) (all_left (NotAfter y) ys b h.0) (p.0, all_right (NotAfter y) ys b h.0), srt_mid x ys b h.1 p.1 q)

pub place_srt : (x : Row) (cs : List Row) → Sorted cs → Sorted (place x cs)
place_srt x cs s = let r : Placed x cs = placed x cs s in
    rw r.new (srt_mid x r.pre r.post (rw r.old at s) r.before (all_map (Past x) (NotAfter x) (λ y h. h.0) r.post r.behind))

pub btw_mid : (lo hi : ℕ) (x : Row) (a b : List Row) → lo ≤ x.key → x.key ≤ hi → KeysIn lo hi (a ++ b) → All (λ y. NotAfter y x) a
    → All (NotAfter x) b → KeysIn lo hi (a ++ (x ∷ b))
btw_mid lo hi x [] [] l g h p q = (l, g)
btw_mid lo hi x [] (y ∷ ys) l g h p q = (l, (q.0.0, h.1))
btw_mid lo hi x (y ∷ ys) b l g h p q = (h.0, btw_mid y.key hi x ys b p.0.0 g h.1 p.1 q)

pub place_btw : (lo hi : ℕ) (x : Row) (cs : List Row) → lo ≤ x.key → x.key ≤ hi → KeysIn lo hi cs → Sorted cs → KeysIn lo hi (place x cs)
place_btw lo hi x cs l g h s = let r : Placed x cs = placed x cs s in
    rw r.new (btw_mid lo hi x r.pre r.post l g (rw r.old at h) r.before (all_map (Past x) (NotAfter x) (λ y k. k.0) r.post r.behind))
