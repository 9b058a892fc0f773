-- The steps of an entry: a separator and a page go behind a child, the page above has room or divides, the tree gets a new top.
-- Assumes nothing.
use mathlib.Core.Path.{◌≡◌, refl, sym, ap, ◌∙◌, subst}
use mathlib.Core.Bool.{Bool, true, false, ◌||◌}
use Rattle.store.specs.Pick.{pick}
use Rattle.theory_tree.specs.Pages.{Page, inner_page, Pages, with_page}
use Rattle.theory_tree.specs.Shape.{Shape, leaf, node, pair, pages_in, head, rest, first, Holds, All, NoneTwice, IsTree}
use mathlib.Core.List.Memᴰ
use mathlib.Core.List.{List, [], ◌∷◌, ◌++◌, append_assoc, append-nil, map-append, Memᴰ}
use Prim.Native.Nat.{ℕ, suc, ◌≤◌, ◌<◌}
use native.Mathlib.Omega.{arith}
use lib.ListN.{length, length-append, take, drop, get_or}
use lib.Seq.{take_at, drop_at, get_or_at}
use lib.Dec.{eqb}
use borrow.Author.Tests.{eq-eqb, ne_eqb, eqb-true, le-leb, lt-leb}
use Rattle.theory_tree.proofs.Workers.{set_par, roots, reparent}
use Rattle.theory_tree.proofs.Contexts.{Ctx, top, in_l, in_r, under, plug, pre_g, post_g, par_c, nxt_c, HoldsC, Cut, cut, up}
use Rattle.theory_tree.proofs.Entries.{ins_after, kids}
use Rattle.theory_tree.proofs.Lists.{all_app, all_left, all_right, all_map, Out, nd_left, nd_right, nd_apart, nd_join, out_fresh}
use Rattle.theory_tree.proofs.Frame.{with_page-same, with_page-other, Agree, agree_with_page, agree_trans, agree_reparent, roots_all, out-flip, frame, frame_with_page, adopt}
use Rattle.theory_tree.proofs.Zip.{plug_rep}
use Rattle.theory_tree.proofs.Cuts.{Half, half}

pub rep_c_frame : (w v : Pages) (P N : ℕ) (c : Ctx) (h : ℕ) (r : List (ℕ × ℕ)) (l : ℕ) → Agree w v (pre_g c) → Agree w v (post_g c)
    → HoldsC w P N c h r l → HoldsC v P N c h r l
rep_c_frame w v P N top h r l a b g = tt
rep_c_frame w v P N (in_l k t c) h r l a b g = (
  frame w v (par_c P c) (nxt_c N c) t (all_left (λ p. v p ≡ w p) (pages_in t) (post_g c) b) g.0,
  rep_c_frame w v P N c h (r ++ ((k, head t) ∷ rest t)) l a (all_right (λ p. v p ≡ w p) (pages_in t) (post_g c) b) g.1,
)
rep_c_frame w v P N (in_r t k c) h r l a b g = (
  frame w v (par_c P c) l t (all_right (λ p. v p ≡ w p) (pre_g c) (pages_in t) a) g.0,
  rep_c_frame w v P N c (head t) (rest t ++ ((k, h) ∷ r)) (first t) (all_left (λ p. v p ≡ w p) (pre_g c) (pages_in t) a) b g.1,
)
rep_c_frame w v P N (under p c) h r l a b g = (
  g.0,
  (all_right (λ p. v p ≡ w p) (pre_g c) (p ∷ []) a).0 ∙ g.1,
  rep_c_frame w v P N c p [] l (all_left (λ p. v p ≡ w p) (pre_g c) (p ∷ []) a) b g.2,
)

-- the children's page numbers
pub roots_is : (t : Shape) → roots t ≡ kids (head t) (rest t)
roots_is (leaf p cs) = refl
roots_is (node p f) = refl
roots_is (pair a k b) = rw (map-append, roots_is a, roots_is b)

pub mem_all : {A : Type 0} (Q : A → Type 0) (a : A) (l : List A) → Memᴰ a l → All Q l → Q a
mem_all Q a l (Memᴰ.head e) h = subst Q (sym e) h.0
mem_all Q a l (Memᴰ.tail {xs = xs} m) h = mem_all Q a xs m h.1

-- l is a child
abbrev pub has : ℕ → ℕ → List (ℕ × ℕ) → Bool
has l h [] = eqb h l
has l h (x ∷ r) = eqb h l || has l x.1 r

pub ins_left : (l : ℕ) (e : ℕ × ℕ) (h : ℕ) (r t : List (ℕ × ℕ)) → has l h r ≡ true → ins_after l e h (r ++ t) ≡ ins_after l e h r ++ t
ins_left l e h [] [] q = rw q
ins_left l e h [] (x ∷ t) q = rw q
ins_left l e h (x ∷ r) t q = go (eqb h l) refl (ins_left l e x.1 r t)
  where
    go : (a : Bool) → eqb h l ≡ a → (has l x.1 r ≡ true → ins_after l e x.1 (r ++ t) ≡ ins_after l e x.1 r ++ t)
        → pick a (e ∷ x ∷ (r ++ t)) (x ∷ ins_after l e x.1 (r ++ t)) ≡ pick a (e ∷ x ∷ r) (x ∷ ins_after l e x.1 r) ++ t
    go true ea i = refl
    go false ea i = ap (λ m. x ∷ m) (i (rw ea at q))

pub has_left : (l h : ℕ) (r t : List (ℕ × ℕ)) → has l h r ≡ true → has l h (r ++ t) ≡ true
has_left l h [] [] q = q
has_left l h [] (x ∷ t) q = rw q
has_left l h (x ∷ r) t q = go (eqb h l) refl (has_left l x.1 r t)
  where
    go : (a : Bool) → eqb h l ≡ a → (has l x.1 r ≡ true → has l x.1 (r ++ t) ≡ true) → a || has l x.1 (r ++ t) ≡ true
    go true ea i = refl
    go false ea i = i (rw ea at q)

pub ins_right : (l : ℕ) (e : ℕ × ℕ) (h₀ : ℕ) (r₀ : List (ℕ × ℕ)) (k h : ℕ) (r : List (ℕ × ℕ)) → Out l (kids h₀ r₀)
    → ins_after l e h₀ (r₀ ++ ((k, h) ∷ r)) ≡ r₀ ++ ((k, h) ∷ ins_after l e h r)
ins_right l e h₀ [] k h r o = rw (ne_eqb h₀ l (λ q. o.0 (sym q)))
ins_right l e h₀ (x ∷ r₀) k h r o = rw (ne_eqb h₀ l (λ q. o.0 (sym q))) (ap (λ m. x ∷ m) (ins_right l e x.1 r₀ k h r o.1))

pub has_right : (l h₀ : ℕ) (r₀ : List (ℕ × ℕ)) (k h : ℕ) (r : List (ℕ × ℕ)) → Out l (kids h₀ r₀) → has l h r ≡ true → has l h₀ (r₀ ++ ((k, h) ∷ r)) ≡ true
has_right l h₀ [] k h r o q = rw (ne_eqb h₀ l (λ z. o.0 (sym z))) q
has_right l h₀ (x ∷ r₀) k h r o q = rw (ne_eqb h₀ l (λ z. o.0 (sym z))) (has_right l x.1 r₀ k h r o.1 q)

-- s' is s with e behind the child l
pub record Ins (l : ℕ) (e : ℕ × ℕ) (s s' : Shape) : Type 0 where
  pub heads : head s' ≡ head s
  pub firsts : first s' ≡ first s
  pub rests : ins_after l e (head s) (rest s) ≡ rest s'
  pub child : has l (head s) (rest s) ≡ true
  pub mine : Memᴰ l (pages_in s')

pub ins_in_l : (l : ℕ) (e : ℕ × ℕ) (s s' : Shape) (k : ℕ) (b : Shape) → Ins l e s s' → Ins l e (pair s k b) (pair s' k b)
ins_in_l l e s s' k b i = record {
  heads = i.heads;
  firsts = i.firsts;
  rests = ins_left l e (head s) (rest s) ((k, head b) ∷ rest b) i.child ∙ rw i.rests;
  child = has_left l (head s) (rest s) ((k, head b) ∷ rest b) i.child;
  mine = Memᴰ.append_left (pages_in b) i.mine;
}

pub ins_in_r : (l : ℕ) (e : ℕ × ℕ) (a : Shape) (k : ℕ) (s s' : Shape) → Out l (pages_in a) → Ins l e s s' → Ins l e (pair a k s) (pair a k s')
ins_in_r l e a k s s' o i =
    let o' : Out l (kids (head a) (rest a)) = rw roots_is at (roots_all (λ y. l ≡ y → ⊥) a o) in
    record {
      heads = refl;
      firsts = refl;
      rests = ins_right l e (head a) (rest a) k (head s) (rest s) o' ∙ rw (i.rests, i.heads);
      child = has_right l (head a) (rest a) k (head s) (rest s) o' i.child;
      mine = Memᴰ.append_right (pages_in a) i.mine;
    }

-- the entry is one more child; it and l are among the children, and are two
pub ins_length : (l : ℕ) (e : ℕ × ℕ) (h : ℕ) (r : List (ℕ × ℕ)) → has l h r ≡ true → length (ins_after l e h r) ≡ suc (length r)
ins_length l e h [] q = rw q
ins_length l e h (x ∷ r) q = go (eqb h l) refl (ins_length l e x.1 r)
  where
    go : (a : Bool) → eqb h l ≡ a → (has l x.1 r ≡ true → length (ins_after l e x.1 r) ≡ suc (length r))
        → length (pick a (e ∷ x ∷ r) (x ∷ ins_after l e x.1 r)) ≡ suc (suc (length r))
    go true ea i = refl
    go false ea i = ap suc (i (rw ea at q))

pub ins_kids : (Q : ℕ → Type 0) (l : ℕ) (e : ℕ × ℕ) (h : ℕ) (r : List (ℕ × ℕ)) → has l h r ≡ true → All Q (kids h (ins_after l e h r)) → Q l × Q e.1
ins_kids Q l e h [] q a = let b : All Q (kids h (e ∷ [])) = rw q at a in (subst Q (eqb-true h l q) b.0, b.1.0)
ins_kids Q l e h (x ∷ r) q a = go (eqb h l) refl a (ins_kids Q l e x.1 r)
  where
    go : (b : Bool) → eqb h l ≡ b → All Q (kids h (pick b (e ∷ x ∷ r) (x ∷ ins_after l e x.1 r)))
        → (has l x.1 r ≡ true → All Q (kids x.1 (ins_after l e x.1 r)) → Q l × Q e.1) → Q l × Q e.1
    go true eb m i = (subst Q (eqb-true h l eb) m.0, m.1.0)
    go false eb m i = i (rw eb at q) m.1

pub ins_apart : (l : ℕ) (e : ℕ × ℕ) (h : ℕ) (r : List (ℕ × ℕ)) → has l h r ≡ true → NoneTwice (kids h (ins_after l e h r)) → l ≡ e.1 → ⊥
ins_apart l e h [] q d z = let b : NoneTwice (kids h (e ∷ [])) = rw q at d in b.0.0 (eqb-true h l q ∙ z)
ins_apart l e h (x ∷ r) q d z = go (eqb h l) refl d (ins_apart l e x.1 r)
  where
    go : (b : Bool) → eqb h l ≡ b → NoneTwice (kids h (pick b (e ∷ x ∷ r) (x ∷ ins_after l e x.1 r)))
        → (has l x.1 r ≡ true → NoneTwice (kids x.1 (ins_after l e x.1 r)) → l ≡ e.1 → ⊥) → ⊥
    go true eb m i = m.0.0 (eqb-true h l eb ∙ z)
    go false eb m i = i (rw eb at q) m.1 z

-- no child twice, and each linked to the page above
pub roots_distinct : (t : Shape) → NoneTwice (pages_in t) → NoneTwice (roots t)
roots_distinct (leaf p cs) d = d
roots_distinct (node p f) d = (tt, tt)
roots_distinct (pair a k b) d =
    nd_join (roots a) (roots b) (roots_distinct a (nd_left (pages_in a) (pages_in b) d)) (roots_distinct b (nd_right (pages_in a) (pages_in b) d))
    (roots_all (λ x. Out x (roots b)) a
    (all_map (λ x. Out x (pages_in b)) (λ x. Out x (roots b)) (λ x o. roots_all (λ y. x ≡ y → ⊥) b o) (pages_in a) (nd_apart (pages_in a) (pages_in b) d)))

pub roots_linked : (w : Pages) (par nxt : ℕ) (t : Shape) → Holds w par nxt t → All (λ q. w q ≡ set_par par (w q)) (roots t)
roots_linked w par nxt (leaf p cs) h = (h ∙ sym (ap (set_par par) h), tt)
roots_linked w par nxt (node p f) h = (h.1 ∙ sym (ap (set_par par) h.1), tt)
roots_linked w par nxt (pair a k b) h =
    all_app (λ q. w q ≡ set_par par (w q)) (roots a) (roots b) (roots_linked w par (first b) a h.0) (roots_linked w par nxt b h.1)

-- a new top over the run s
pub grow_rep : (w : Pages) (N : ℕ) (s : Shape) (u : ℕ) → NoneTwice (pages_in s) → All (λ p. p < u) (pages_in s) → Holds w 0 N s
    → Holds (reparent u (roots s) (with_page w u (inner_page 0 0 (head s) (rest s)))) 0 N (node u s)
grow_rep w N s u d b h =
    let x : Page = inner_page 0 0 (head s) (rest s) in
    let o : Out u (pages_in s) = out_fresh u (pages_in s) b in
    let z : All (λ p. Out p (u ∷ [])) (roots s) =
    roots_all (λ p. Out p (u ∷ [])) s (all_map (λ y. u ≡ y → ⊥) (λ p. Out p (u ∷ [])) (λ p n. ((λ q. n (sym q)), tt)) (pages_in s) o) in
    (0, (agree_reparent u (roots s) (u ∷ []) (with_page w u x) z).0 ∙ with_page-same w u x, adopt u (with_page w u x) 0 N s d (frame_with_page w u x 0 N s o h))

-- the page p becomes p over l and u over r
abbrev pub dv : Pages → ℕ → ℕ → ℕ → ℕ → Shape → Shape → Pages
dv w p u par j l r = reparent u (roots r) (with_page (with_page w p (inner_page par j (head l) (rest l))) u (inner_page par 0 (head r) (rest r)))

-- the lists of the two halves, as a page that divides is cut; u is none of the pages that move
pub record Halves (p u : ℕ) (s : Shape) (x : Cut) : Type 0 where
  pub lefts : take 255 (rest s) ≡ rest x.left
  pub middle : get_or (rest s) 255 (0, 0) ≡ (x.mid, head x.right)
  pub rights : drop 256 (rest s) ≡ rest x.right
  pub heads : head s ≡ head x.left
  pub moving : roots x.right ≡ kids (head x.right) (rest x.right)
  pub other : p ≡ u → ⊥
  pub fresh : Out u (roots x.right)

pub halves : (p u : ℕ) (s : Shape) (x : Cut) → Half s x → p < u → All (λ q. q < u) (pages_in s) → Halves p u s x
halves p u s x o pu b =
    let q : rest s ≡ rest x.left ++ ((x.mid, head x.right) ∷ rest x.right) = o.alike.rests in
    let b' : All (λ q. q < u) (pages_in x.left ++ pages_in x.right) = rw o.alike.pagess at b in
    record {
      lefts = ap (take 255) q ∙ take_at (rest x.left) ((x.mid, head x.right) ∷ rest x.right) 255 o.count;
      middle = ap (λ m. get_or m 255 (0, 0)) q ∙ get_or_at (rest x.left) (x.mid, head x.right) (rest x.right) (0, 0) 255 o.count;
      rights = ap (drop 256) (q ∙ sym (append_assoc (rest x.left) ((x.mid, head x.right) ∷ []) (rest x.right)))
          ∙ drop_at (rest x.left ++ ((x.mid, head x.right) ∷ [])) (rest x.right) 256
          (length-append (rest x.left) ((x.mid, head x.right) ∷ []) ∙ omega (arith, o.count));
      heads = o.alike.heads;
      moving = roots_is x.right;
      other = λ e. omega arith;
      fresh = roots_all (λ q. u ≡ q → ⊥) x.right (out_fresh u (pages_in x.right) (all_right (λ q. q < u) (pages_in x.left) (pages_in x.right) b'));
    }

module _ (w : Pages) (p u par j : ℕ) (l r : Shape) where
  pub dv_agree : (z : List ℕ) → Out p z → Out u z → All (λ x. Out x z) (pages_in r) → Agree w (dv w p u par j l r) z
  dv_agree z op ou or =
      let x : Page = inner_page par j (head l) (rest l) in
      let y : Page = inner_page par 0 (head r) (rest r) in
      agree_trans w (with_page (with_page w p x) u y) (dv w p u par j l r) z
      (agree_trans w (with_page w p x) (with_page (with_page w p x) u y) z (agree_with_page w p x z op) (agree_with_page (with_page w p x) u y z ou))
      (agree_reparent u (roots r) z (with_page (with_page w p x) u y) (roots_all (λ x. Out x z) r or))

  pub dv_rep : (nxt m : ℕ) → (p ≡ u → ⊥) → Out p (pages_in l) → Out p (pages_in r) → Out u (pages_in l) → Out u (pages_in r)
      → All (λ x. Out x (pages_in l)) (pages_in r) → NoneTwice (pages_in r)
      → Holds w p (first r) l → Holds w p nxt r → Holds (dv w p u par j l r) par nxt (pair (node p l) m (node u r))
  dv_rep nxt m pu pl pr ul ur rl d hl hr =
      let x : Page = inner_page par j (head l) (rest l) in
      let y : Page = inner_page par 0 (head r) (rest r) in
      let v : Pages = with_page (with_page w p x) u y in
      let one : (q : ℕ) → Out q (pages_in r) → Agree v (dv w p u par j l r) (q ∷ []) =
      λ q o. agree_reparent u (roots r) (q ∷ []) v
      (roots_all (λ x. Out x (q ∷ [])) r (all_map (λ z. q ≡ z → ⊥) (λ x. Out x (q ∷ [])) (λ z n. ((λ e. n (sym e)), tt)) (pages_in r) o)) in (
        (
          j,
          (one p pr).0 ∙ with_page-other (with_page w p x) u p y (λ e. pu (sym e)) ∙ with_page-same w p x,
          frame w (dv w p u par j l r) p (first r) l (dv_agree (pages_in l) pl ul rl) hl,
        ),
        (
          0,
          (one u ur).0 ∙ with_page-same (with_page w p x) u y,
          adopt u v p nxt r d (frame_with_page (with_page w p x) u y p nxt r ur (frame_with_page w p x p nxt r pr hr)),
        ),
      )

-- one more number, in the middle
pub nd_insert : (u : ℕ) (a b : List ℕ) → NoneTwice (a ++ b) → Out u a → Out u b → NoneTwice (a ++ (u ∷ b))
nd_insert u [] b d oa ob = (ob, d)
nd_insert u (x ∷ xs) b d oa ob = (
  all_app (λ y. x ≡ y → ⊥) xs (u ∷ b) (all_left (λ y. x ≡ y → ⊥) xs b d.0) ((λ e. oa.0 (sym e)), all_right (λ y. x ≡ y → ⊥) xs b d.0),
  nd_insert u xs b d.1 oa.1 ob,
)

-- what the distinct pages before, at, in and behind a hole give
pub record Parts (g : List ℕ) (p : ℕ) (l r o : List ℕ) : Type 0 where
  pub pg : Out p g
  pub pl : Out p l
  pub pr : Out p r
  pub po : Out p o
  pub rl : All (λ x. Out x l) r
  pub rg : All (λ x. Out x g) r
  pub ro : All (λ x. Out x o) r
  pub dr : NoneTwice r

pub parts : (g : List ℕ) (p : ℕ) (l r o : List ℕ) → NoneTwice (g ++ (p ∷ (l ++ (r ++ o)))) → Parts g p l r o
parts g p l r o d =
    let a : All (λ x. Out x (p ∷ (l ++ (r ++ o)))) g = nd_apart g (p ∷ (l ++ (r ++ o))) d in
    let d₁ : NoneTwice (p ∷ (l ++ (r ++ o))) = nd_right g (p ∷ (l ++ (r ++ o))) d in
    let d₂ : NoneTwice (r ++ o) = nd_right l (r ++ o) d₁.1 in
    let q : All (λ y. p ≡ y → ⊥) (r ++ o) = all_right (λ y. p ≡ y → ⊥) l (r ++ o) d₁.0 in
    record {
      pg = all_map (λ x. Out x (p ∷ (l ++ (r ++ o)))) (λ y. p ≡ y → ⊥) (λ x h e. h.0 (sym e)) g a;
      pl = all_left (λ y. p ≡ y → ⊥) l (r ++ o) d₁.0;
      pr = all_left (λ y. p ≡ y → ⊥) r o q;
      po = all_right (λ y. p ≡ y → ⊥) r o q;
      rl = out-flip l r (all_map (λ x. Out x (r ++ o)) (λ x. Out x r) (λ x h. all_left (λ y. x ≡ y → ⊥) r o h) l (nd_apart l (r ++ o) d₁.1));
      rg = out-flip g r (all_map (λ x. Out x (p ∷ (l ++ (r ++ o)))) (λ x. Out x r)
          (λ x h. all_left (λ y. x ≡ y → ⊥) r o (all_right (λ y. x ≡ y → ⊥) l (r ++ o) h.1)) g a);
      ro = nd_apart r o d₂;
      dr = nd_left r o d₂;
    }

-- a new page between l and r
pub nd_seam : (g : List ℕ) (p : ℕ) (l : List ℕ) (u : ℕ) (r o : List ℕ) → NoneTwice (g ++ (p ∷ (l ++ (r ++ o)))) → Out u (g ++ (p ∷ (l ++ (r ++ o))))
    → NoneTwice (g ++ (((p ∷ l) ++ (u ∷ r)) ++ o))
nd_seam g p l u r o d f =
    let e : g ++ (p ∷ (l ++ (r ++ o))) ≡ (g ++ (p ∷ l)) ++ (r ++ o) = simp append_assoc in
    let f' : Out u ((g ++ (p ∷ l)) ++ (r ++ o)) = rw e at f in
    let n : NoneTwice ((g ++ (p ∷ l)) ++ (u ∷ (r ++ o))) =
    nd_insert u (g ++ (p ∷ l)) (r ++ o) (rw e at d) (all_left (λ z. u ≡ z → ⊥) (g ++ (p ∷ l)) (r ++ o) f') (all_right (λ z. u ≡ z → ⊥) (g ++ (p ∷ l)) (r ++ o) f') in
    simp append_assoc (simp append_assoc at n)

pub all_seam : (P : ℕ → Type 0) (g : List ℕ) (p : ℕ) (l : List ℕ) (u : ℕ) (r o : List ℕ) → All P (g ++ (p ∷ (l ++ (r ++ o)))) → P u
    → All P (g ++ (((p ∷ l) ++ (u ∷ r)) ++ o))
all_seam P g p l u r o d f =
    let e : g ++ (p ∷ (l ++ (r ++ o))) ≡ (g ++ (p ∷ l)) ++ (r ++ o) = simp append_assoc in
    let d' : All P ((g ++ (p ∷ l)) ++ (r ++ o)) = rw e at d in
    let n : All P ((g ++ (p ∷ l)) ++ (u ∷ (r ++ o))) =
    all_app P (g ++ (p ∷ l)) (u ∷ (r ++ o)) (all_left P (g ++ (p ∷ l)) (r ++ o) d') (f, all_right P (g ++ (p ∷ l)) (r ++ o) d') in
    simp append_assoc (simp append_assoc at n)

pub below_more : (u : ℕ) (l : List ℕ) → All (λ p. p < u) l → All (λ p. p < suc u) l
below_more u l = all_map (λ p. p < u) (λ p. p < suc u) (λ p h. omega arith) l

pub tree-rest : (s : Shape) → IsTree s → rest s ≡ []
tree-rest (leaf p cs) h = refl
tree-rest (node p f) h = refl
tree-rest (pair a k b) h = absurd h

-- the page p has room
pub room-rep : (N : ℕ) (c : Ctx) (w : Pages) (p j : ℕ) (s : Shape) → HoldsC w 0 N c p [] (first s) → Holds w p (nxt_c N c) s
    → NoneTwice (pre_g c ++ (p ∷ (pages_in s ++ post_g c))) → Holds (with_page w p (inner_page (par_c 0 c) j (head s) (rest s))) 0 N (plug c (node p s))
room-rep N c w p j s g h d =
    let x : Page = inner_page (par_c 0 c) j (head s) (rest s) in
    let m : Parts (pre_g c) p [] (pages_in s) (post_g c) = parts (pre_g c) p [] (pages_in s) (post_g c) d in
    plug_rep (with_page w p x) 0 N c (node p s)
    (rep_c_frame w (with_page w p x) 0 N c p [] (first s) (agree_with_page w p x (pre_g c) m.pg) (agree_with_page w p x (post_g c) m.po) g)
    (j, with_page-same w p x, frame_with_page w p x p (nxt_c N c) s m.pr h)

pub plug_head : (c : Ctx) (s s' : Shape) → head s ≡ head s' → head (plug c s) ≡ head (plug c s')
plug_head top s s' e = e
plug_head (in_l k y c) s s' e = plug_head c (pair s k y) (pair s' k y) e
plug_head (in_r x k c) s s' e = plug_head c (pair x k s) (pair x k s') refl
plug_head (under p c) s s' e = plug_head c (node p s) (node p s') refl

-- ---- the steps of an entry

-- `up` at a page that has room, and at one that has not
pub up_room : (p : ℕ) (c : Ctx) (s : Shape) (u : ℕ) → length (rest s) ≤ 510 → up (under p c) s u ≡ record { shape = plug c (node p s); used = u; grew = 0 }
up_room p c s u h = rw (le-leb (length (rest s)) 510 h)

pub up_half : (p : ℕ) (c : Ctx) (s : Shape) (u : ℕ) → 510 < length (rest s)
    → up (under p c) s u ≡ up c (pair (node p (cut 255 s).left) (cut 255 s).mid (node u (cut 255 s).right)) (suc u)
up_half p c s u h = rw (lt-leb (length (rest s)) 510 h)

-- the pool w holds the run s', the run s with e behind its child l, in the place of s; the pages above still speak of s, and
-- the pages from u on are free
pub record Entry (N : ℕ) (c : Ctx) (w : Pages) (s s' : Shape) (l : ℕ) (e : ℕ × ℕ) (u : ℕ) : Type 0 where
  pub tree : IsTree (plug c s)
  pub ins : Ins l e s s'
  pub above : HoldsC w 0 N c (head s) (rest s) (first s)
  pub here : Holds w (par_c 0 c) (nxt_c N c) s'
  pub distinct : NoneTwice (pre_g c ++ (pages_in s' ++ post_g c))
  pub below : All (λ p. p < u) (pre_g c ++ (pages_in s' ++ post_g c))

module _ {N : ℕ} {c : Ctx} {w : Pages} {s s' : Shape} {l : ℕ} {e : ℕ × ℕ} {u : ℕ} where
  pub entry_in_l : {k : ℕ} {b : Shape} → Entry N (in_l k b c) w s s' l e u → Entry N c w (pair s k b) (pair s' k b) l e u
  entry_in_l {k} {b} f = record {
    tree = f.tree;
    ins = ins_in_l l e s s' k b f.ins;
    above = f.above.1;
    here = (f.here, f.above.0);
    distinct = rw (append_assoc (pages_in s') (pages_in b) (post_g c)) f.distinct;
    below = rw (append_assoc (pages_in s') (pages_in b) (post_g c)) f.below;
  }

  pub entry_in_r : {a : Shape} {k : ℕ} → Entry N (in_r a k c) w s s' l e u → Entry N c w (pair a k s) (pair a k s') l e u
  entry_in_r {a} {k} f =
      let d : NoneTwice (pre_g c ++ (pages_in a ++ (pages_in s' ++ post_g c))) = rw append_assoc at f.distinct in
      let o : All (λ y. Out y (pages_in s' ++ post_g c)) (pages_in a) = nd_apart (pages_in a) (pages_in s' ++ post_g c) (nd_right (pre_g c) (pages_in a ++ (pages_in s' ++ post_g c)) d) in
      let o' : All (λ y. Out y (pages_in a)) (pages_in s') =
      out-flip (pages_in a) (pages_in s') (all_map (λ y. Out y (pages_in s' ++ post_g c)) (λ y. Out y (pages_in s'))
      (λ y m. all_left (λ z. y ≡ z → ⊥) (pages_in s') (post_g c) m) (pages_in a) o) in
      record {
        tree = f.tree;
        ins = ins_in_r l e a k s s' (mem_all (λ y. Out y (pages_in a)) l (pages_in s') f.ins.mine o') f.ins;
        above = f.above.1;
        here = (rw f.ins.firsts f.above.0, f.here);
        distinct = rw (append_assoc (pages_in a) (pages_in s') (post_g c)) d;
        below = rw (append_assoc (pages_in a) (pages_in s') (post_g c)) (rw append_assoc at f.below);
      }

-- the page l and the page n entered behind it: two pages below u, both linked to q
pub record Both (w : Pages) (q l n u : ℕ) : Type 0 where
  pub old_below : l < u
  pub new-below : n < u
  pub apart : n ≡ l → ⊥
  pub old_linked : w l ≡ set_par q (w l)
  pub new-linked : w n ≡ set_par q (w n)

-- what the page p above the run says, and how it stands to them
pub record OnPage (c : Ctx) (w : Pages) (s s' : Shape) (l : ℕ) (e : ℕ × ℕ) (u p : ℕ) : Type 0 where
  pub next : ℕ
  pub is : w p ≡ inner_page (par_c 0 c) next (head s) (rest s)
  pub child : has l (head s) (rest s) ≡ true
  pub heads : head s' ≡ head s
  pub rests : ins_after l e (head s) (rest s) ≡ rest s'
  pub count : length (rest s') ≡ suc (length (rest s))
  pub both : Both w p l e.1 u
  pub page-below : p < u
  pub old_page : l ≡ p → ⊥
  pub new-page : e.1 ≡ p → ⊥

-- no page above: the run is one page
pub record OnTop (N : ℕ) (w : Pages) (s s' : Shape) (l : ℕ) (e : ℕ × ℕ) (u : ℕ) : Type 0 where
  pub old_is : l ≡ head s
  pub alone : rest s ≡ []
  pub both : Both w 0 l e.1 u
  pub rep : Holds (reparent u (l ∷ e.1 ∷ []) (with_page w u (inner_page 0 0 l (e ∷ [])))) 0 N (node u s')

-- what all of the run's own pages have, l and the new page have
pub ins_own : (Q : ℕ → Type 0) (l : ℕ) (e : ℕ × ℕ) (s s' : Shape) → Ins l e s s' → All Q (roots s') → Q l × Q e.1
ins_own Q l e s s' i h = ins_kids Q l e (head s) (rest s) i.child (rw (roots_is s', i.heads, sym i.rests) at h)

module _ {N : ℕ} {c : Ctx} {w : Pages} {s s' : Shape} {l : ℕ} {e : ℕ × ℕ} {u : ℕ} where
  pub entry_both : Entry N c w s s' l e u → Both w (par_c 0 c) l e.1 u
  entry_both f =
      let i : Ins l e s s' = f.ins in
      let d : NoneTwice (pages_in s') = nd_left (pages_in s') (post_g c) (nd_right (pre_g c) (pages_in s' ++ post_g c) f.distinct) in
      let b : All (λ q. q < u) (pages_in s') = all_left (λ q. q < u) (pages_in s') (post_g c) (all_right (λ q. q < u) (pre_g c) (pages_in s' ++ post_g c) f.below) in
      let d' : NoneTwice (kids (head s) (ins_after l e (head s) (rest s))) = rw (roots_is s', i.heads, sym i.rests) at (roots_distinct s' d) in
      let low : (l < u) × (e.1 < u) = ins_own (λ q. q < u) l e s s' i (roots_all (λ q. q < u) s' b) in
      let tied : (w l ≡ set_par (par_c 0 c) (w l)) × (w e.1 ≡ set_par (par_c 0 c) (w e.1)) =
      ins_own (λ q. w q ≡ set_par (par_c 0 c) (w q)) l e s s' i (roots_linked w (par_c 0 c) (nxt_c N c) s' f.here) in
      record {
        old_below = low.0;
        new-below = low.1;
        apart = λ z. ins_apart l e (head s) (rest s) i.child d' (sym z);
        old_linked = tied.0;
        new-linked = tied.1;
      }

module _ {N : ℕ} {c : Ctx} {w : Pages} {s s' : Shape} {l : ℕ} {e : ℕ × ℕ} {u p : ℕ} where
  -- p, the pages of the run and those behind it are below u
  entry_below : Entry N (under p c) w s s' l e u → (p < u) × All (λ q. q < u) (pages_in s' ++ post_g c)
  entry_below f =
      let b : All (λ q. q < u) (pre_g c ++ (p ∷ (pages_in s' ++ post_g c))) = rw append_assoc at f.below in
      all_right (λ q. q < u) (pre_g c) (p ∷ (pages_in s' ++ post_g c)) b

  pub entry_page : Entry N (under p c) w s s' l e u → OnPage c w s s' l e u p
  entry_page f =
      let i : Ins l e s s' = f.ins in
      let o : Out p (pages_in s') = (parts (pre_g c) p [] (pages_in s') (post_g c) (rw append_assoc at f.distinct)).pr in
      let off : (p ≡ l → ⊥) × (p ≡ e.1 → ⊥) = ins_own (λ q. p ≡ q → ⊥) l e s s' i (roots_all (λ q. p ≡ q → ⊥) s' o) in
      record {
        next = f.above.0;
        is = f.above.1;
        child = i.child;
        heads = i.heads;
        rests = i.rests;
        count = ap length (sym i.rests) ∙ ins_length l e (head s) (rest s) i.child;
        both = entry_both f;
        page-below = (entry_below f).0;
        old_page = λ z. off.0 (sym z);
        new-page = λ z. off.1 (sym z);
      }

  pub entry_room : (j : ℕ) → Entry N (under p c) w s s' l e u → Holds (with_page w p (inner_page (par_c 0 c) j (head s') (rest s'))) 0 N (plug c (node p s'))
  entry_room j f = room-rep N c w p j s' (rw f.ins.firsts f.above.2) f.here (rw append_assoc at f.distinct)

  pub entry_halves : Entry N (under p c) w s s' l e u → 510 < length (rest s') → Halves p u s' (cut 255 s')
  entry_halves f h = halves p u s' (cut 255 s') (half s' (lt-leb (length (rest s')) 510 h))
      (entry_below f).0 (all_left (λ q. q < u) (pages_in s') (post_g c) (entry_below f).1)

  pub entry_half : (j : ℕ) → Entry N (under p c) w s s' l e u → 510 < length (rest s')
      → Entry N c (dv w p u (par_c 0 c) j (cut 255 s').left (cut 255 s').right) (node p s)
      (pair (node p (cut 255 s').left) (cut 255 s').mid (node u (cut 255 s').right)) p ((cut 255 s').mid, u) (suc u)
  entry_half j f h =
      let o : Half s' (cut 255 s') = half s' (lt-leb (length (rest s')) 510 h) in
      let x : Shape = (cut 255 s').left in
      let y : Shape = (cut 255 s').right in
      let v : Pages = dv w p u (par_c 0 c) j x y in
      let d : NoneTwice (pre_g c ++ (p ∷ (pages_in x ++ (pages_in y ++ post_g c)))) = simp (o.alike.pagess, append_assoc) at f.distinct in
      let b : All (λ p. p < u) (pre_g c ++ (p ∷ (pages_in x ++ (pages_in y ++ post_g c)))) = simp (o.alike.pagess, append_assoc) at f.below in
      let g : Out u (pre_g c ++ (p ∷ (pages_in x ++ (pages_in y ++ post_g c)))) = out_fresh u (pre_g c ++ (p ∷ (pages_in x ++ (pages_in y ++ post_g c)))) b in
      let m : Parts (pre_g c) p (pages_in x) (pages_in y) (post_g c) = parts (pre_g c) p (pages_in x) (pages_in y) (post_g c) d in
      let gg : Out u (pre_g c) = all_left (λ z. u ≡ z → ⊥) (pre_g c) (p ∷ (pages_in x ++ (pages_in y ++ post_g c))) g in
      let g₁ : Out u (p ∷ (pages_in x ++ (pages_in y ++ post_g c))) = all_right (λ z. u ≡ z → ⊥) (pre_g c) (p ∷ (pages_in x ++ (pages_in y ++ post_g c))) g in
      let gx : Out u (pages_in x) = all_left (λ z. u ≡ z → ⊥) (pages_in x) (pages_in y ++ post_g c) g₁.1 in
      let g₂ : Out u (pages_in y ++ post_g c) = all_right (λ z. u ≡ z → ⊥) (pages_in x) (pages_in y ++ post_g c) g₁.1 in
      let gy : Out u (pages_in y) = all_left (λ z. u ≡ z → ⊥) (pages_in y) (post_g c) g₂ in
      let go : Out u (post_g c) = all_right (λ z. u ≡ z → ⊥) (pages_in y) (post_g c) g₂ in
      let hs : Holds w p (first y) x × Holds w p (nxt_c N c) y = o.alike.reps w p (nxt_c N c) f.here in
      record {
        tree = f.tree;
        ins = record { heads = refl; firsts = sym o.alike.firsts ∙ f.ins.firsts; rests = rw (eq-eqb p p refl); child = eq-eqb p p refl; mine = Memᴰ.head refl };
        above = rep_c_frame w v 0 N c p [] (first s) (dv_agree w p u (par_c 0 c) j x y (pre_g c) m.pg gg m.rg)
            (dv_agree w p u (par_c 0 c) j x y (post_g c) m.po go m.ro) f.above.2;
        here = dv_rep w p u (par_c 0 c) j x y (nxt_c N c) (cut 255 s').mid (λ z. g₁.0 (sym z)) m.pl m.pr gx gy m.rl m.dr hs.0 hs.1;
        distinct = nd_seam (pre_g c) p (pages_in x) u (pages_in y) (post_g c) d g;
        below = all_seam (λ p. p < suc u) (pre_g c) p (pages_in x) u (pages_in y) (post_g c) (below_more u (pre_g c ++ (p ∷ (pages_in x ++ (pages_in y ++ post_g c)))) b) (omega arith);
      }

module _ {N : ℕ} {w : Pages} {s s' : Shape} {l : ℕ} {e : ℕ × ℕ} {u : ℕ} where
  pub entry_top : Entry N top w s s' l e u → OnTop N w s s' l e u
  entry_top f =
      let i : Ins l e s s' = f.ins in
      let z : rest s ≡ [] = tree-rest s f.tree in
      let q : head s ≡ l = eqb-true (head s) l (rw z at i.child) in
      let q' : head s' ≡ l = i.heads ∙ q in
      let r : rest s' ≡ e ∷ [] = sym i.rests ∙ rw (z, q, eq-eqb l l refl) in
      let k : roots s' ≡ l ∷ e.1 ∷ [] = roots_is s' ∙ rw (q', r) in
      let same : reparent u (roots s') (with_page w u (inner_page 0 0 (head s') (rest s'))) ≡ reparent u (l ∷ e.1 ∷ []) (with_page w u (inner_page 0 0 l (e ∷ []))) =
      rw (k, r, q') in
      record {
        old_is = sym q;
        alone = z;
        both = entry_both f;
        rep = subst (λ v. Holds v 0 N (node u s')) same (grow_rep w N s' u (rw append-nil at f.distinct) (rw append-nil at f.below) f.here);
      }
