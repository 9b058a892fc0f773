-- The links between the leaves keep the pages of a sound tree apart: a leaf is as many links from the end as leaves stand
-- after it, a page as many steps from its first leaf as levels are below it. Assumes nothing.
use Rattle.std.proofs.Common.{Ok, Err}
use mathlib.Core.Path.{◌≡◌, refl, sym, ap, ◌∙◌, subst}
use mathlib.Core.Bool.{Bool, true, false, not, ◌&&◌, ◌||◌, or-true, false≢true}
use mathlib.Core.List.{List, [], ◌∷◌, ◌++◌}
use mathlib.Core.Logic.{◌⊎◌, inl, inr, ⊎_elim}
use Prim.Native.Nat.{ℕ, zero, suc, ◌+◌, ◌≤◌, ◌<◌}
use native.Mathlib.Numerals.{add-one}
use native.Mathlib.Omega.{arith}
use lib.Dec.{leb, ltb, eqb}
use lib.ListN.{length}
use borrow.Author.Tests.{eqb-true, eq-eqb, ne_eqb, not-true}
use Rattle.store.specs.Pick.{pick}
use Rattle.page.specs.Page.{page}
use Rattle.page.specs.Header.{node_type, parent_of, next_leaf, cell_count}
use Rattle.inner.specs.Inner.{key_at, child_at, keys_from, children_from, keys_of, children_of, never_falls, judge_inner}
use Rattle.row.specs.Fault.{structural}
use Rattle.mvcc.specs.Lists.{mem}
use Rattle.leaf.specs.Cells.{cells, fold_cells, judge_cells, judge_leaf, on_judged}
use Rattle.tree.specs.Descend.{on_inner}
use Rattle.tree_check.specs.Check.{within, all_within, cells_within, sound_leaf, sound_inner, sound_kids, sound_tree, each_of, leaves_of, pages_of, leaves_linked}
use Rattle.tree.specs.Distinct.{distinct}
use Rattle.tree_check.specs.Steps.CheckFacts.{LinksPart}
use Rattle.store.proofs.Tests.{and_both}

-- ---- lists without a number twice

or_either : (a b : Bool) → (a || b) ≡ true → (a ≡ true) ⊎ (b ≡ true)
or_either true b e = inl refl
or_either false b e = inr e

mem_cons : (x y : ℕ) (ys : List ℕ) → mem x (y ∷ ys) ≡ true → (y ≡ x) ⊎ (mem x ys ≡ true)
unfolding mem
mem_cons x y ys e = ⊎_elim (λ (h : eqb y x ≡ true). inl (eqb-true y x h)) (λ (h : mem x ys ≡ true). inr h) (or_either (eqb y x) (mem x ys) e)

mem-none : (x : ℕ) → mem x [] ≡ true → ⊥
unfolding mem
mem-none x e = false≢true e

mem-here : (x : ℕ) (ys : List ℕ) → mem x (x ∷ ys) ≡ true
unfolding mem
mem-here x ys = rw (eq-eqb x x refl)

mem-there : (x y : ℕ) (ys : List ℕ) → mem x ys ≡ true → mem x (y ∷ ys) ≡ true
unfolding mem
mem-there x y ys e = rw e (or-true (eqb y x))

mem-left : (x : ℕ) (a b : List ℕ) → mem x a ≡ true → mem x (a ++ b) ≡ true
mem-left x [] b e = absurd (mem-none x e)
mem-left x (y ∷ ys) b e =
    ⊎_elim (λ (h : y ≡ x). subst (λ (z : ℕ). mem x (z ∷ (ys ++ b)) ≡ true) (sym h) (mem-here x (ys ++ b)))
    (λ (h : mem x ys ≡ true). mem-there x y (ys ++ b) (mem-left x ys b h))
    (mem_cons x y ys e)

mem-right : (x : ℕ) (a b : List ℕ) → mem x b ≡ true → mem x (a ++ b) ≡ true
mem-right x [] b e = e
mem-right x (y ∷ ys) b e = mem-there x y (ys ++ b) (mem-right x ys b e)

mem-either : (x : ℕ) (a b : List ℕ) → mem x (a ++ b) ≡ true → (mem x a ≡ true) ⊎ (mem x b ≡ true)
mem-either x [] b e = inr e
mem-either x (y ∷ ys) b e =
    ⊎_elim (λ (h : y ≡ x). inl (subst (λ (z : ℕ). mem x (z ∷ ys) ≡ true) (sym h) (mem-here x ys)))
    (λ (h : mem x (ys ++ b) ≡ true).
    ⊎_elim (λ (i : mem x ys ≡ true). inl (mem-there x y ys i)) (λ (i : mem x b ≡ true). inr i) (mem-either x ys b h))
    (mem_cons x y (ys ++ b) e)

distinct_cons : (x : ℕ) (xs : List ℕ) → (mem x xs ≡ true → ⊥) → distinct xs ≡ true → distinct (x ∷ xs) ≡ true
unfolding distinct
distinct_cons x xs h d = by_test (mem x xs) refl
  where
    by_test : (b : Bool) → mem x xs ≡ b → (not b && distinct xs) ≡ true
    by_test true e = absurd (h e)
    by_test false e = d

distinct_head : (x : ℕ) (xs : List ℕ) → distinct (x ∷ xs) ≡ true → mem x xs ≡ true → ⊥
unfolding distinct
distinct_head x xs d m =
    false≢true (sym (not-true (mem x xs) (and_both (not (mem x xs)) (distinct xs) d).0) ∙ m)

distinct_tail : (x : ℕ) (xs : List ℕ) → distinct (x ∷ xs) ≡ true → distinct xs ≡ true
unfolding distinct
distinct_tail x xs d = (and_both (not (mem x xs)) (distinct xs) d).1

-- two lists that stand one after the other in such a list
record Parted (a b : List ℕ) : Type 0 where
  left : distinct a ≡ true
  right : distinct b ≡ true
  apart : (x : ℕ) → mem x a ≡ true → mem x b ≡ true → ⊥

parted : (a b : List ℕ) → distinct (a ++ b) ≡ true → Parted a b
unfolding distinct
parted [] b d = record { left = refl; right = d; apart = λ x m n. mem-none x m }
parted (x ∷ xs) b d =
    let r = parted xs b (distinct_tail x (xs ++ b) d) in
    let no = distinct_head x (xs ++ b) d in
    record {
      left = distinct_cons x xs (λ m. no (mem-left x xs b m)) r.left;
      right = r.right;
      apart = λ y m n.
          ⊎_elim (λ (h : x ≡ y). no (mem-right x xs b (subst (λ (z : ℕ). mem z b ≡ true) (sym h) n))) (λ (h : mem y xs ≡ true). r.apart y h n) (mem_cons y x xs m);
    }

joined : (a b : List ℕ) → Parted a b → distinct (a ++ b) ≡ true
joined [] b r = r.right
joined (x ∷ xs) b r =
    let rest : Parted xs b = record { left = distinct_tail x xs r.left; right = r.right; apart = λ y m n. r.apart y (mem-there y x xs m) n } in
    distinct_cons x (xs ++ b)
    (λ m. ⊎_elim (distinct_head x xs r.left) (r.apart x (mem-here x xs)) (mem-either x xs b m))
    (joined xs b rest)

-- ---- the leaves

-- how many links lead from page p to the end, counted up to n
unfoldable far : (n : ℕ) → List ℕ → (p : ℕ) → ℕ
far zero s p = 0
far (suc n) s p = pick (eqb (next_leaf (page s p)) 0) 0 (suc (far n s (next_leaf (page s p))))

record Linked (s : List ℕ) (x y : ℕ) (ys : List ℕ) : Type 0 where
  next : next_leaf (page s x) ≡ y
  no_first : eqb y 0 ≡ false
  rest : leaves_linked s (y ∷ ys) ≡ true

linked-is : (s : List ℕ) (x y : ℕ) (ys : List ℕ) → leaves_linked s (x ∷ (y ∷ ys)) ≡ true → Linked s x y ys
unfolding leaves_linked
linked-is s x y ys e =
    let a = and_both (eqb (next_leaf (page s x)) y) (not (eqb y 0) && leaves_linked s (y ∷ ys)) e in
    let b = and_both (not (eqb y 0)) (leaves_linked s (y ∷ ys)) a.1 in
    record { next = eqb-true (next_leaf (page s x)) y a.0; no_first = not-true (eqb y 0) b.0; rest = b.1 }

far_is : (s : List ℕ) (xs : List ℕ) (x n : ℕ) → length xs ≤ n → leaves_linked s (x ∷ xs) ≡ true → far n s x ≡ length xs
unfolding far leaves_linked
far_is s [] x zero h e = refl
far_is s [] x (suc n) h e = rw e
far_is s (y ∷ ys) x zero h e = absurd (omega arith)
far_is s (y ∷ ys) x (suc n) h e =
    let l = linked-is s x y ys e in
    rw (l.next, l.no_first) (ap suc (far_is s ys y n (omega arith) l.rest))

far_later : (s : List ℕ) (xs : List ℕ) (x n y : ℕ) → length xs ≤ n → leaves_linked s (x ∷ xs) ≡ true → mem y xs ≡ true → far n s y < length xs
far_later s [] x n y h e m = absurd (mem-none y m)
far_later s (z ∷ zs) x n y h e m =
    let l = linked-is s x z zs e in
    ⊎_elim (λ (i : z ≡ y). let f = far_is s zs z n (omega arith) l.rest in subst (λ (w : ℕ). far n s w < suc (length zs)) i (omega arith))
    (λ (i : mem y zs ≡ true). let f = far_later s zs z n y (omega arith) l.rest i in omega arith)
    (mem_cons y z zs m)

linked_tail : (s : List ℕ) (x : ℕ) (xs : List ℕ) → leaves_linked s (x ∷ xs) ≡ true → leaves_linked s xs ≡ true
unfolding leaves_linked
linked_tail s x [] e = refl
linked_tail s x (y ∷ ys) e = (linked-is s x y ys e).rest

-- no leaf stands twice in the chain
linked-distinct : (s l : List ℕ) → leaves_linked s l ≡ true → distinct l ≡ true
unfolding distinct
linked-distinct s [] e = refl
linked-distinct s (x ∷ xs) e =
    distinct_cons x xs
    (λ m. let a = far_is s xs x (length xs) (omega arith) e in let b = far_later s xs x (length xs) x (omega arith) e m in omega arith)
    (linked-distinct s xs (linked_tail s x xs e))

-- ---- lists of children

-- P of each
abbrev Each : (ℕ → Type 0) → List ℕ → Type 0
Each P [] = Unit
Each P (c ∷ cs) = P c × Each P cs

each_map : {P Q : ℕ → Type 0} → ((c : ℕ) → P c → Q c) → (cs : List ℕ) → Each P cs → Each Q cs
each_map f [] h = tt
each_map f (c ∷ cs) h = (f c h.0, each_map f cs h.1)

-- x stands in what f gives for one of them, and what g gives for that one stands in what g gives for all
record Of (f g : ℕ → List ℕ) (P : ℕ → Type 0) (cs : List ℕ) (x : ℕ) : Type 0 where
  child : ℕ
  here : mem x (f child) ≡ true
  fact : P child
  among : (y : ℕ) → mem y (g child) ≡ true → mem y (each_of g cs) ≡ true

of_each : (f g : ℕ → List ℕ) {P : ℕ → Type 0} (cs : List ℕ) (x : ℕ) → Each P cs → mem x (each_of f cs) ≡ true → Of f g P cs x
unfolding each_of
of_each f g [] x h m = absurd (mem-none x m)
of_each f g {P} (c ∷ cs) x h m =
    ⊎_elim (λ (i : mem x (f c) ≡ true). first i) (λ (i : mem x (each_of f cs) ≡ true). later (of_each f g cs x h.1 i))
    (mem-either x (f c) (each_of f cs) m)
  where
    first : mem x (f c) ≡ true → Of f g P (c ∷ cs) x
    first i = record { child = c; here = i; fact = h.0; among = λ y. mem-left y (g c) (each_of g cs) }

    later : Of f g P cs x → Of f g P (c ∷ cs) x
    later o = record { child = o.child; here = o.here; fact = o.fact; among = λ y n. mem-right y (g c) (each_of g cs) (o.among y n) }

-- g's lists are distinct from child to child, so f's are, if each number in one of f's leads into that one of g's
record Leads (f g : ℕ → List ℕ) (lead : ℕ → ℕ) (c : ℕ) : Type 0 where
  alone : distinct (g c) ≡ true → distinct (f c) ≡ true
  into : (x : ℕ) → mem x (f c) ≡ true → mem (lead x) (g c) ≡ true

distinct_each : (f g : ℕ → List ℕ) (lead : ℕ → ℕ) (cs : List ℕ) → Each (Leads f g lead) cs → distinct (each_of g cs) ≡ true → distinct (each_of f cs) ≡ true
unfolding each_of distinct
distinct_each f g lead [] h d = refl
distinct_each f g lead (c ∷ cs) h d =
    let r = parted (g c) (each_of g cs) d in
    let s : Parted (f c) (each_of f cs) = record {
      left = h.0.alone r.left;
      right = distinct_each f g lead cs h.1 r.right;
      apart = λ x m n. let o = of_each f g cs x h.1 n in r.apart (lead x) (h.0.into x m) (o.among (lead x) (o.fact.into x o.here));
    } in
    joined (f c) (each_of f cs) s

-- ---- sound pages

leaf_type : (used parent p lo hi : ℕ) (s : List ℕ) → sound_leaf s used parent p lo hi ≡ true → eqb (node_type (page s p)) 0 ≡ false
unfolding sound_leaf cells_within judge_leaf
leaf_type used parent p lo hi s e =
    let a = and_both (ltb p used) (eqb (parent_of (page s p)) parent && cells_within (page s p) lo hi p) e in
    let b = and_both (eqb (parent_of (page s p)) parent) (cells_within (page s p) lo hi p) a.1 in
    by_type (eqb (node_type (page s p)) 1) refl b.1
  where
    by_type : (b : Bool) → eqb (node_type (page s p)) 1 ≡ b
        → on_judged (λ e. fold_cells (λ b c. b && within lo hi c.key) true (cells (page s p))) (λ f. false)
        (pick b (judge_cells (page s p) p 0 0 (cell_count (page s p)) 12) (Err (structural p)))
        ≡ true
        → eqb (node_type (page s p)) 0 ≡ false
    by_type true t q = let n = eqb-true (node_type (page s p)) 1 t in ne_eqb (node_type (page s p)) 0 (λ z. omega arith)
    by_type false t q = absurd (false≢true q)

inner_type : (used parent p lo hi : ℕ) (s : List ℕ) → sound_inner s used parent p lo hi ≡ true → eqb (node_type (page s p)) 0 ≡ true
unfolding sound_inner judge_inner
inner_type used parent p lo hi s e =
    let a = and_both (ltb p used) (eqb (parent_of (page s p)) parent && on_inner (λ n. all_within lo hi (keys_of (page s p))) (λ f. false) (judge_inner (page s p) p)) e in
    let b = and_both (eqb (parent_of (page s p)) parent) (on_inner (λ n. all_within lo hi (keys_of (page s p))) (λ f. false) (judge_inner (page s p) p)) a.1 in
    by_type (eqb (node_type (page s p)) 0) b.1
  where
    by_type : (b : Bool)
        → on_inner (λ n. all_within lo hi (keys_of (page s p))) (λ f. false)
        (pick (b && (leb 1 (cell_count (page s p)) && (leb (cell_count (page s p)) 510 && never_falls 0 (keys_of (page s p)))))
        (Ok (cell_count (page s p)))
        (Err (structural p)))
        ≡ true
        → b ≡ true
    by_type true q = refl
    by_type false q = q

-- a page that is sound under some bounds
abbrev SoundAt : (k used : ℕ) → List ℕ → (parent c : ℕ) → Type 0
SoundAt k used s parent c = (lo : ℕ) × (hi : ℕ) × (sound_tree s used k parent c lo hi ≡ true)

sound_each : (f : ℕ → ℕ → ℕ → Bool) (pg : List ℕ) (n i lo hi : ℕ) → sound_kids f lo hi (keys_from pg i n) (children_from pg i (suc n)) ≡ true
    → Each (λ c. (lo : ℕ) × (hi : ℕ) × (f c lo hi ≡ true)) (children_from pg i (suc n))
unfolding sound_kids keys_from children_from
sound_each f pg zero i lo hi e = ((lo, hi, e), tt)
sound_each f pg (suc n) i lo hi e =
    let a = and_both (f (child_at pg i) lo (key_at pg i)) (sound_kids f (key_at pg i) hi (keys_from pg (i + 1) n) (children_from pg (i + 1) (suc n))) e in (
      (lo, key_at pg i, a.0),
      sound_each f pg n (i + 1) (key_at pg i) hi a.1,
    )

-- the first child and the others
abbrev others : List ℕ → List ℕ
others pg = children_from pg 1 (cell_count pg)

pub children-count : (pg : List ℕ) → children_of pg ≡ children_from pg 0 (suc (cell_count pg))
children-count pg = rw add-one

children_are : (pg : List ℕ) → children_of pg ≡ child_at pg 0 ∷ others pg
unfolding children_from
children_are pg = children-count pg

record SoundPage (k used : ℕ) (s : List ℕ) (p : ℕ) : Type 0 where
  is_inner : eqb (node_type (page s p)) 0 ≡ true
  kids : Each (SoundAt k used s p) (children_of (page s p))
  first : SoundAt k used s p (child_at (page s p) 0)

sound_page : (k used : ℕ) (s : List ℕ) (parent p lo hi : ℕ) → sound_tree s used (suc k) parent p lo hi ≡ true → SoundPage k used s p
unfolding sound_tree
sound_page k used s parent p lo hi e =
    let a = and_both (sound_inner s used parent p lo hi) (sound_kids (sound_tree s used k p) lo hi (keys_of (page s p)) (children_of (page s p))) e in
    let all : Each (SoundAt k used s p) (children_of (page s p)) =
    rw (children-count (page s p)) (sound_each (sound_tree s used k p) (page s p) (cell_count (page s p)) 0 lo hi (rw (children-count (page s p)) at a.1)) in
    record { is_inner = inner_type used parent p lo hi s a.0; kids = all; first = (subst (Each (SoundAt k used s p)) (children_are (page s p)) all).0 }

-- ---- the way to a page's first leaf

-- from page p: where it ends, and how many steps it has, counted up to n
unfoldable lead : (n : ℕ) → List ℕ → (p : ℕ) → ℕ
lead zero s p = p
lead (suc n) s p = pick (eqb (node_type (page s p)) 0) (lead n s (child_at (page s p) 0)) p

unfoldable deep : (n : ℕ) → List ℕ → (p : ℕ) → ℕ
deep zero s p = 0
deep (suc n) s p = pick (eqb (node_type (page s p)) 0) (suc (deep n s (child_at (page s p) 0))) 0

record Led (n k : ℕ) (s : List ℕ) (p : ℕ) : Type 0 where
  level : deep n s p ≡ k
  inside : mem (lead n s p) (leaves_of s k p) ≡ true

module _ (used : ℕ) (s : List ℕ) where
  led : (n k parent p lo hi : ℕ) → k ≤ n → sound_tree s used k parent p lo hi ≡ true → Led n k s p
  unfolding lead deep leaves_of each_of sound_tree
  led zero zero parent p lo hi h e = record { level = refl; inside = mem-here p [] }
  led (suc n) zero parent p lo hi h e =
      let t = leaf_type used parent p lo hi s e in
      record { level = rw t; inside = rw t (mem-here p []) }
  led zero (suc k) parent p lo hi h e = absurd (omega arith)
  led (suc n) (suc k) parent p lo hi h e =
      let q = sound_page k used s parent p lo hi e in
      let c = child_at (page s p) 0 in
      let r = led n k p c q.first.0 q.first.1 (omega arith) q.first.2 in
      record {
        level = rw q.is_inner (ap suc r.level);
        inside = rw (q.is_inner, children_are (page s p)) (mem-left (lead n s c) (leaves_of s k c) (each_of (leaves_of s k) (others (page s p))) r.inside);
      }

  -- a page of the subtree: not higher than its top, and its first leaf is one of the subtree's
  record Under (n k p q : ℕ) : Type 0 where
    low : deep n s q ≤ k
    inside : mem (lead n s q) (leaves_of s k p) ≡ true

  under : (n k parent p lo hi q : ℕ) → k ≤ n → sound_tree s used k parent p lo hi ≡ true → mem q (pages_of s k p) ≡ true → Under n k p q
  unfolding leaves_of pages_of
  under n zero parent p lo hi q h e m =
      let l = led n zero parent p lo hi h e in
      ⊎_elim (λ (i : p ≡ q). subst (λ (x : ℕ). Under n zero p x) i (record { low = omega arith; inside = l.inside })) (λ (i : mem q [] ≡ true). absurd (mem-none q i))
      (mem_cons q p [] m)
  under n (suc k) parent p lo hi q h e m =
      let l = led n (suc k) parent p lo hi h e in
      ⊎_elim (λ (i : p ≡ q). subst (λ (x : ℕ). Under n (suc k) p x) i (record { low = omega arith; inside = l.inside }))
      (λ (i : mem q (each_of (pages_of s k) (children_of (page s p))) ≡ true).
      let o = of_each (pages_of s k) (leaves_of s k) (children_of (page s p)) q (sound_page k used s parent p lo hi e).kids i in
      let u = under n k p o.child o.fact.0 o.fact.1 q (omega arith) o.fact.2 o.here in
      record { low = omega arith; inside = o.among (lead n s q) u.inside })
      (mem_cons q p (each_of (pages_of s k) (children_of (page s p))) m)

  pages_part : (n k parent p lo hi : ℕ) → k ≤ n → sound_tree s used k parent p lo hi ≡ true → distinct (leaves_of s k p) ≡ true → distinct (pages_of s k p) ≡ true
  unfolding leaves_of pages_of
  pages_part n zero parent p lo hi h e d = d
  pages_part n (suc k) parent p lo hi h e d =
      let cs = children_of (page s p) in
      let kids = (sound_page k used s parent p lo hi e).kids in
      let down : (c : ℕ) → SoundAt k used s p c → Leads (pages_of s k) (leaves_of s k) (lead n s) c
      = λ c f. record {
        alone = pages_part n k p c f.0 f.1 (omega arith) f.2;
        into = λ q m. (under n k p c f.0 f.1 q (omega arith) f.2 m).inside;
      } in
      distinct_cons p (each_of (pages_of s k) cs)
      (λ m.
      let o = of_each (pages_of s k) (leaves_of s k) cs p kids m in
      let u = under n k p o.child o.fact.0 o.fact.1 p (omega arith) o.fact.2 o.here in
      let l = led n (suc k) parent p lo hi h e in
      omega arith)
      (distinct_each (pages_of s k) (leaves_of s k) (lead n s) cs (each_map down cs kids) d)

pub links_part : LinksPart
links_part k used root s e l = pages_part used s k k 0 root 0 4294967295 (omega arith) e (linked-distinct s (leaves_of s k root) l)
