-- The place of a new cell splits the cells of a judged leaf: it is past the last cell that is not after the new one's
-- key and creator. Assumes nothing.
use mathlib.Core.Path.{◌≡◌, refl, sym, ap, ◌∙◌}
use mathlib.Core.Bool.{Bool, true, false, ◌&&◌, ◌||◌}
use mathlib.Core.List.{List, [], ◌∷◌}
use mathlib.Core.Logic.{◌⊎◌, inl, inr, ⊎_elim}
use Prim.Native.Nat.{ℕ, suc, ◌+◌, ◌≤◌, ◌<◌}
use native.Mathlib.Omega.{arith}
use lib.Dec.{ltb, leb, eqb}
use borrow.Author.Tests.{ltb-true, ltb-false, leb-true, leb-false, eqb-true, eqb-false, lt-leb}
use lib.ListN.{take, drop, take-append-drop}
use Rattle.store.proofs.PartLaws.{le_or_lt}
use Rattle.row.specs.declared.Cell.{Cell}
use Rattle.leaf.specs.Cells.{cells, fold_cells, in_order}
use Rattle.leaf.specs.Place.{place_step, place_of}
use Rattle.leaf.specs.RowFacts.{Sound}
use Rattle.leaf.specs.declared.place.Place.{Place}
use Rattle.leaf.proofs.Walking.{order_more, order_same}
use Rattle.leaf.proofs.Rowing.{end_of}
use Rattle.leaf.proofs.Chain.{Rising, judged-leaf, Split, split_at}

module _ (k₀ c₀ k c : ℕ) where
  order_is : in_order k₀ c₀ k c ≡ true → (k₀ < k) ⊎ ((k₀ ≡ k) × (c₀ ≤ c))
  unfolding in_order
  order_is h = by_tests (ltb k₀ k) (eqb k₀ k) (leb c₀ c) refl refl refl h
    where
      by_tests : (a b d : Bool) → ltb k₀ k ≡ a → eqb k₀ k ≡ b → leb c₀ c ≡ d → (a || (b && d)) ≡ true → (k₀ < k) ⊎ ((k₀ ≡ k) × (c₀ ≤ c))
      by_tests true b d u v w q = inl (ltb-true k₀ k u)
      by_tests false true true u v w q = inr (eqb-true k₀ k v, leb-true c₀ c w)
      by_tests false true false u v w q = absurd (let z : ◌≡◌ {A = ℕ} 0 1 = cc in omega arith)
      by_tests false false d u v w q = absurd (let z : ◌≡◌ {A = ℕ} 0 1 = cc in omega arith)

  order_not : in_order k₀ c₀ k c ≡ false → (k < k₀) ⊎ ((k₀ ≡ k) × (c < c₀))
  unfolding in_order
  order_not h = by_tests (ltb k₀ k) (eqb k₀ k) (leb c₀ c) refl refl refl h
    where
      by_tests : (a b d : Bool) → ltb k₀ k ≡ a → eqb k₀ k ≡ b → leb c₀ c ≡ d → (a || (b && d)) ≡ false → (k < k₀) ⊎ ((k₀ ≡ k) × (c < c₀))
      by_tests true b d u v w q = absurd (let z : ◌≡◌ {A = ℕ} 0 1 = cc in omega arith)
      by_tests false true true u v w q = absurd (let z : ◌≡◌ {A = ℕ} 0 1 = cc in omega arith)
      by_tests false true false u v w q = inr (eqb-true k₀ k v, leb-false c₀ c w)
      by_tests false false d u v w q =
          let l = ltb-false k₀ k u in
          ⊎_elim (λ (o : k₀ ≤ k). absurd (eqb-false k₀ k v (omega arith))) (λ (o : k < k₀). inl o) (le_or_lt k₀ k)

-- what is before a cell is before a later one
order-later : (k₀ c₀ k₁ c₁ k c : ℕ) → in_order k₀ c₀ k₁ c₁ ≡ true → in_order k₀ c₀ k c ≡ false → in_order k₁ c₁ k c ≡ false
order-later k₀ c₀ k₁ c₁ k c h g =
    ⊎_elim
    (λ (a : k₀ < k₁). ⊎_elim (λ (b : k < k₀). less (omega arith)) (λ (b : (k₀ ≡ k) × (c < c₀)). less (omega arith)) (order_not k₀ c₀ k c g))
    (λ (a : (k₀ ≡ k₁) × (c₀ ≤ c₁)). ⊎_elim (λ (b : k < k₀). less (omega arith)) (λ (b : (k₀ ≡ k) × (c < c₀)). same (omega arith) (omega arith)) (order_not k₀ c₀ k c g))
    (order_is k₀ c₀ k₁ c₁ h)
  where
    less : k < k₁ → in_order k₁ c₁ k c ≡ false
    less o = sym (order_more k₁ c₁ k c (omega arith) (λ e. omega arith))

    same : k₁ ≡ k → c < c₁ → in_order k₁ c₁ k c ≡ false
    same e o = sym (order_same k₁ c₁ k c e) ∙ lt-leb c₁ c o

-- past the last cell that is not after key k and creator c, the place stays
module _ (k c : ℕ) where
  place-stays : (k₀ c₀ : ℕ) (here : Place) (cs : List Cell) → in_order k₀ c₀ k c ≡ false → Rising k₀ c₀ cs → fold_cells (place_step k c) here cs ≡ here
  unfolding fold_cells
  place-stays k₀ c₀ here [] h r = refl
  place-stays k₀ c₀ here (x ∷ xs) h r =
      let f = order-later k₀ c₀ x.key x.version.creator k c r.0 h in
      rw f (place-stays x.key x.version.creator here xs f r.1)

  -- so it is after some cells from the first on
  record Placed (at j : ℕ) (cs : List Cell) : Type 0 where
    count : ℕ
    there : fold_cells (place_step k c) (record { at = at; before = j }) cs ≡ record { at = end_of at (take count cs); before = j + count }

  placed : (k₀ c₀ at j : ℕ) (cs : List Cell) → Rising k₀ c₀ cs → Placed at j cs
  unfolding fold_cells end_of
  placed k₀ c₀ at j [] r = record { count = 0; there = ap (λ (i : ℕ). record { at = at; before = i }) (omega arith) }
  placed k₀ c₀ at j (x ∷ xs) r = by_order (in_order x.key x.version.creator k c) refl (placed x.key x.version.creator x.next (j + 1) xs r.1)
    where
      by_order : (b : Bool) → in_order x.key x.version.creator k c ≡ b → Placed x.next (j + 1) xs → Placed at j (x ∷ xs)
      by_order true e p =
          let i : j + 1 + p.count ≡ j + suc p.count = omega arith in
          record { count = suc p.count; there = rw (e, ← i) p.there }
      by_order false e p =
          let i : j ≡ j + 0 = omega arith in
          record { count = 0; there = rw e (place-stays x.key x.version.creator (record { at = at; before = j }) xs e r.1 ∙ ap (λ (z : ℕ). record { at = at; before = z }) i) }

-- the place of a new cell of key k and creator c splits the cells
pub record PlaceSplit (pg : List ℕ) (e k c : ℕ) : Type 0 where
  pub count : ℕ
  pub here : place_of k c (cells pg) ≡ record { at = end_of 12 (take count (cells pg)); before = count }
  pub split : Split pg e (take count (cells pg)) (drop count (cells pg))

pub place_split : (pg : List ℕ) (e k c : ℕ) → Sound pg e → PlaceSplit pg e k c
unfolding place_of
place_split pg e k c sound =
    let cs = cells pg in
    let p = placed k c 0 0 12 0 cs (judged-leaf 0 pg e sound.judged).rising in
    let z : 0 + p.count ≡ p.count = omega arith in
    record { count = p.count; here = p.there ∙ rw z; split = split_at pg e (take p.count cs) (drop p.count cs) sound (sym (take-append-drop p.count cs)) }
