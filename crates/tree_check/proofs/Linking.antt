-- The walk that judges a tree from its last leaf to its first says yes exactly where the tree is well-formed. Assumes
-- nothing.
use Rattle.std.proofs.Common.{Option, Some, None}
use mathlib.Core.Path.{◌≡◌, refl, sym, ap, ◌∙◌}
use mathlib.Core.Bool.{Bool, true, false, not, ◌&&◌, and_assoc, and-true, and-false, and_comm}
use mathlib.Core.List.{List, [], ◌∷◌, ◌++◌, append-nil, append_assoc}
use Prim.Native.Nat.{ℕ, zero, suc, ◌+◌, ◌<◌}
use native.Mathlib.Nat.{zero-add, add-zero}
use native.Mathlib.Omega.{arith}
use lib.Dec.{eqb}
use lib.ListN.{length, length-append}
use Rattle.store.specs.Pick.{pick}
use Rattle.page.specs.Page.{page}
use Rattle.page.specs.Header.{next_leaf, cell_count}
use Rattle.inner.specs.Inner.{key_at, child_at, keys_from, children_from, keys_of, children_of}
use Rattle.tree_check.specs.Check.{sound_inner, sound_kids, sound_tree, each_of, leaves_of, pages_of, leaves_linked, well_at}
use Rattle.tree_check.specs.Steps.Check.{on_first, kids_of, check_of, is_first}
use Rattle.tree.specs.Distinct.{distinct}
use Rattle.tree_check.specs.Steps.CheckFacts.{CheckIsWell}
use Rattle.tree_check.proofs.Parting.{children-count, links_part}

-- ---- a stretch of the chain

-- as `leaves_linked`, but the last leaf links to `next`
unfoldable linked_to : List ℕ → (next : ℕ) → List ℕ → Bool
linked_to s next [] = true
linked_to s next (x ∷ []) = eqb (next_leaf (page s x)) next
linked_to s next (x ∷ (y ∷ ys)) = eqb (next_leaf (page s x)) y && (not (eqb y 0) && linked_to s next (y ∷ ys))

linked_all : (s l : List ℕ) → linked_to s 0 l ≡ leaves_linked s l
unfolding linked_to leaves_linked
linked_all s [] = refl
linked_all s (x ∷ []) = refl
linked_all s (x ∷ (y ∷ ys)) = rw (linked_all s (y ∷ ys))

-- the first leaf
abbrev front : List ℕ → ℕ
front [] = 0
front (x ∷ xs) = x

front_append : (a b : List ℕ) → 0 < length a → front (a ++ b) ≡ front a
front_append [] b h = absurd (omega arith)
front_append (x ∷ xs) b h = refl

linked_cons : (s : List ℕ) (next x : ℕ) (b : List ℕ) → 0 < length b → linked_to s next (x ∷ b) ≡ (eqb (next_leaf (page s x)) (front b) && (not (eqb (front b) 0) && linked_to s next b))
unfolding linked_to
linked_cons s next x [] h = absurd (omega arith)
linked_cons s next x (y ∷ ys) h = refl

and_three : (a b c d : Bool) → (a && (b && (c && d))) ≡ ((a && (b && c)) && d)
and_three true true c d = refl
and_three true false c d = refl
and_three false b c d = refl

linked-append : (s : List ℕ) (next : ℕ) (a b : List ℕ) → 0 < length a → 0 < length b
    → linked_to s next (a ++ b) ≡ (linked_to s (front b) a && (not (eqb (front b) 0) && linked_to s next b))
unfolding linked_to
linked-append s next [] b h g = absurd (omega arith)
linked-append s next (x ∷ []) b h g = linked_cons s next x b g
linked-append s next (x ∷ (y ∷ ys)) b h g =
    ap (λ (r : Bool). eqb (next_leaf (page s x)) y && (not (eqb y 0) && r)) (linked-append s next (y ∷ ys) b (omega arith) g)
    ∙ and_three (eqb (next_leaf (page s x)) y) (not (eqb y 0)) (linked_to s (front b) (y ∷ ys)) (not (eqb (front b) 0) && linked_to s next b)

-- ---- the children, with one more at the end

pub each_append : (f : ℕ → List ℕ) (a b : List ℕ) → each_of f (a ++ b) ≡ each_of f a ++ each_of f b
unfolding each_of
each_append f [] b = refl
each_append f (c ∷ cs) b = rw (each_append f cs b) (sym (append_assoc (f c) (each_of f cs) (each_of f b)))

pub each_one : (f : ℕ → List ℕ) (c : ℕ) → each_of f (c ∷ []) ≡ f c
unfolding each_of
each_one f c = append-nil (f c)

pub children-last : (pg : List ℕ) (n i : ℕ) → children_from pg i (suc n) ≡ children_from pg i n ++ (child_at pg (i + n) ∷ [])
unfolding children_from
children-last pg zero i = rw add-zero
children-last pg (suc n) i = let e : i + suc n ≡ i + 1 + n = omega arith in rw e (ap (λ (l : List ℕ). child_at pg i ∷ l) (children-last pg n (i + 1)))

sound_last : (f : ℕ → ℕ → ℕ → Bool) (pg : List ℕ) (j i lo hi : ℕ)
    → sound_kids f lo hi (keys_from pg i (suc j)) (children_from pg i (suc (suc j)))
    ≡ (sound_kids f lo (key_at pg (i + j)) (keys_from pg i j) (children_from pg i (suc j)) && f (child_at pg (i + suc j)) (key_at pg (i + j)) hi)
unfolding sound_kids keys_from children_from
sound_last f pg zero i lo hi = rw add-zero
sound_last f pg (suc j) i lo hi =
    let e : i + suc j ≡ i + 1 + j = omega arith in
    let e₁ : i + suc (suc j) ≡ i + 1 + suc j = omega arith in
    let by : ℕ → ℕ → Bool = λ a b. sound_kids f lo (key_at pg a) (keys_from pg i (suc j)) (children_from pg i (suc (suc j))) && f (child_at pg b) (key_at pg a) hi in
    ap (λ (r : Bool). f (child_at pg i) lo (key_at pg i) && r) (sound_last f pg j (i + 1) (key_at pg i) hi)
    ∙ sym (and_assoc (f (child_at pg i) lo (key_at pg i)) (sound_kids f (key_at pg i) (key_at pg (i + 1 + j)) (keys_from pg (i + 1) j) (children_from pg (i + 1) (suc j))) (f (child_at pg (i + 1 + suc j)) (key_at pg (i + 1 + j)) hi))
    ∙ sym (ap (λ (a : ℕ). by a (i + suc (suc j))) e ∙ ap (λ (b : ℕ). by (i + 1 + j) b) e₁)

-- ---- what the walk says of a subtree

abbrev told : (ok : Bool) → List ℕ → Option ℕ
told ok leaves = pick ok (Some (front leaves)) None

first-pick : (t : Bool) (q : ℕ) (g : ℕ → Option ℕ) → on_first g None (pick t (Some q) None) ≡ pick t (g q) None
first-pick true q g = refl
first-pick false q g = refl

pick_picks : (t z u : Bool) (v : Option ℕ) → pick t (pick z None (pick u v None)) None ≡ pick (t && (not z && u)) v None
pick_picks true true u v = refl
pick_picks true false u v = refl
pick_picks false z u v = refl

and_order : (b a y x z : Bool) → ((b && x) && (z && (a && y))) ≡ ((a && b) && (y && (z && x)))
and_order false a y x z = rw (and-false a)
and_order true false y x z = rw (and-false z) (and-false x)
and_order true true false x z = rw (and-false z) (and-false x)
and_order true true true x z = rw (and-true z) (and_comm x z)

leaves_some : (k : ℕ) (s : List ℕ) (p : ℕ) → 0 < length (leaves_of s k p)
unfolding leaves_of each_of children_from
leaves_some zero s p = omega arith
leaves_some (suc k) s p = rw (children-count (page s p), length-append) (let h = leaves_some k s (child_at (page s p) 0) in omega arith)

-- the children, where f judges each as S and the links of its leaves L say
module _ (s pg : List ℕ) (f : ℕ → ℕ → ℕ → ℕ → Option ℕ) (S : ℕ → ℕ → ℕ → Bool) (L : ℕ → List ℕ) (some : (c : ℕ) → 0 < length (L c)) (judged : (c lo hi next : ℕ) → f c lo hi next ≡ told (S c lo hi && linked_to s next (L c)) (L c)) where
  each_some : (j : ℕ) → 0 < length (each_of L (children_from pg 0 (suc j)))
  unfolding each_of children_from
  each_some j = rw length-append (let h = some (child_at pg 0) in omega arith)

  each_last : (j : ℕ) → each_of L (children_from pg 0 (suc (suc j))) ≡ each_of L (children_from pg 0 (suc j)) ++ L (child_at pg (suc j))
  each_last j = rw (children-last pg (suc j) 0, zero-add, each_append, each_one)

  kids_first : (lo hi next : ℕ) → told (S (child_at pg 0) lo hi && linked_to s next (L (child_at pg 0))) (L (child_at pg 0))
      ≡ told (sound_kids S lo hi (keys_from pg 0 0) (children_from pg 0 1) && linked_to s next (each_of L (children_from pg 0 1))) (each_of L (children_from pg 0 1))
  unfolding sound_kids keys_from children_from
  kids_first lo hi next = rw (each_one L (child_at pg 0))

  kids_more : (j lo hi next : ℕ) → told (
      (sound_kids S lo (key_at pg j) (keys_from pg 0 j) (children_from pg 0 (suc j)) && S (child_at pg (suc j)) (key_at pg j) hi)
      && (linked_to s (front (L (child_at pg (suc j)))) (each_of L (children_from pg 0 (suc j))) && (not (eqb (front (L (child_at pg (suc j)))) 0) && linked_to s next (L (child_at pg (suc j))))))
      (each_of L (children_from pg 0 (suc j)))
      ≡ told (sound_kids S lo hi (keys_from pg 0 (suc j)) (children_from pg 0 (suc (suc j))) && linked_to s next (each_of L (children_from pg 0 (suc (suc j)))))
      (each_of L (children_from pg 0 (suc (suc j))))
  kids_more j lo hi next =
      let c = child_at pg (suc j) in
      let P = each_of L (children_from pg 0 (suc j)) in
      let sl = simp zero-add at (sound_last S pg j 0 lo hi) in
      rw (each_last j, linked-append s next P (L c) (each_some j) (some c), front_append P (L c) (each_some j), sl)

  kids_told : (j lo hi next : ℕ) → kids_of pg f lo j hi next
      ≡ told (sound_kids S lo hi (keys_from pg 0 j) (children_from pg 0 (suc j)) && linked_to s next (each_of L (children_from pg 0 (suc j)))) (each_of L (children_from pg 0 (suc j)))
  unfolding kids_of
  kids_told zero lo hi next = judged (child_at pg 0) lo hi next ∙ kids_first lo hi next
  kids_told (suc j) lo hi next =
      let c = child_at pg (suc j) in
      let P = each_of L (children_from pg 0 (suc j)) in
      let A = sound_kids S lo (key_at pg j) (keys_from pg 0 j) (children_from pg 0 (suc j)) in
      let B = S c (key_at pg j) hi in
      let X = linked_to s next (L c) in
      let Y = linked_to s (front (L c)) P in
      ap (λ (v : Option ℕ). on_first (λ q. pick (eqb q 0) None (kids_of pg f lo j (key_at pg j) q)) None v) (judged c (key_at pg j) hi next)
      ∙ (first-pick (B && X) (front (L c)) (λ q. pick (eqb q 0) None (kids_of pg f lo j (key_at pg j) q))
      ∙ (ap (λ (v : Option ℕ). pick (B && X) (pick (eqb (front (L c)) 0) None v) None) (kids_told j lo (key_at pg j) (front (L c)))
      ∙ (pick_picks (B && X) (eqb (front (L c)) 0) (A && Y) (Some (front P))
      ∙ (ap (λ (t : Bool). told t P) (and_order B A Y X (not (eqb (front (L c)) 0)))
      ∙ kids_more j lo hi next))))

pick_and : (a b c : Bool) (v : Option ℕ) → pick a (pick (b && c) v None) None ≡ pick ((a && b) && c) v None
pick_and true b c v = refl
pick_and false b c v = refl

-- the walk says whether the subtree is sound and its leaves are linked up to next, and which leaf is its first
check-told : (used : ℕ) (s : List ℕ) (k parent p lo hi next : ℕ)
    → check_of s used k parent p lo hi next ≡ told (sound_tree s used k parent p lo hi && linked_to s next (leaves_of s k p)) (leaves_of s k p)
unfolding check_of sound_tree leaves_of linked_to
check-told used s zero parent p lo hi next = refl
check-told used s (suc k) parent p lo hi next =
    let all = kids_told s (page s p) (check_of s used k p) (sound_tree s used k p) (leaves_of s k) (leaves_some k s) (check-told used s k p) (cell_count (page s p)) lo hi next in
    let L = each_of (leaves_of s k) (children_of (page s p)) in
    ap (λ (v : Option ℕ). pick (sound_inner s used parent p lo hi) v None) (rw (← children-count (page s p)) at all)
    ∙ pick_and (sound_inner s used parent p lo hi) (sound_kids (sound_tree s used k p) lo hi (keys_of (page s p)) (children_of (page s p))) (linked_to s next L) (Some (front L))

is-first : (t : Bool) (q : ℕ) → is_first (pick t (Some q) None) ≡ t
is-first true q = refl
is-first false q = refl

and_given : (a b c : Bool) → (a ≡ true → b ≡ true → c ≡ true) → (a && b) ≡ (a && (b && c))
and_given true true c h = sym (h refl refl)
and_given true false c h = refl
and_given false b c h = refl

pub check-is_well : CheckIsWell
unfolding well_at
check-is_well k used root s =
    let L = leaves_of s k root in
    let S = sound_tree s used k 0 root 0 4294967295 in
    ap is_first (check-told used s k 0 root 0 4294967295 0)
    ∙ (is-first (S && linked_to s 0 L) (front L)
    ∙ (ap (λ (b : Bool). S && b) (linked_all s L)
    ∙ and_given S (leaves_linked s L) (distinct (pages_of s k root)) (links_part k used root s)))
