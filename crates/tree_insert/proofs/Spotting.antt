-- Where a new version goes: the leaf that the descent comes to is in use and a leaf, it is judged, and the place is between
-- two of its cells. Assumes nothing.
use Rattle.std.proofs.Common.{Result, Ok, Err}
use mathlib.Core.Path.{◌≡◌, refl, sym, ap, ◌∙◌}
use mathlib.Core.Bool.{Bool, true, false}
use mathlib.Core.List.{List, [], ◌∷◌}
use Prim.Native.Nat.{ℕ, zero, suc, ◌+◌, ◌*◌, ◌≤◌, ◌<◌}
use native.Mathlib.Omega.{arith}
use borrow.Author.Tests.{ltb-true, eqb-true}
use lib.Dec.{ltb, eqb}
use lib.ListN.{length, take}
use Rattle.store.specs.Pick.{pick}
use Rattle.store.specs.Le.{AreBytes}
use Rattle.page.specs.Page.{page}
use Rattle.page.specs.Header.{node_type, cell_count}
use Rattle.row.specs.declared.Cell.{Cell}
use Rattle.row.specs.declared.Fault.{Fault}
use Rattle.inner.specs.Inner.{judge_inner}
use Rattle.row.specs.Fault.{structural}
use Rattle.leaf.specs.Cells.{cells, fold_cells, in_order, judge_leaf, on_judged}
use Rattle.leaf.specs.Place.{place_step, place_of, place_leaf}
use Rattle.leaf.specs.RowFacts.{Sound}
use Rattle.leaf.specs.declared.place.Place.{Place}
use Rattle.tree.specs.Descend.{on_inner, child_of, descend_of, on_leaf}
use Rattle.tree.specs.declared.Route.{Route}
use Rattle.tree_insert.specs.Spot.{spot_in, spot_of}
use Rattle.tree_insert.specs.declared.Spot.{Spot}
use Rattle.page.proofs.PageLaws.{length-page}
use Rattle.leaf.proofs.Bytes.{bytes-page}
use Rattle.leaf.proofs.Rowing.{end_of}
use Rattle.leaf.proofs.Chain.{chain-cells, judged-leaf, chain-few}
use Rattle.leaf.proofs.Placed.{PlaceSplit, place_split}
use Rattle.leaf.proofs.Choosing.{any_page}

-- ---- the leaf that a descent comes to

pub record LeafIn (used p : ℕ) (s : List ℕ) : Type 0 where
  pub in_use : p < used
  pub kind : node_type (page s p) ≡ 1

module _ (route : Route) (used : ℕ) (s : List ℕ) where
  here-is : (p q : ℕ) (rest : Result ℕ Fault) → (rest ≡ Ok q → LeafIn used q s)
      → pick (ltb p used) (pick (eqb (node_type (page s p)) 1) (Ok p) rest) (Err (structural p)) ≡ Ok q → LeafIn used q s
  here-is p q rest ih e = by_tests (ltb p used) (eqb (node_type (page s p)) 1) refl refl e
    where
      by_tests : (a b : Bool) → ltb p used ≡ a → eqb (node_type (page s p)) 1 ≡ b → pick a (pick b (Ok p) rest) (Err (structural p)) ≡ Ok q → LeafIn used q s
      by_tests true true u v w =
          let same : p ≡ q = cc in
          rw (← same) (record { in_use = ltb-true p used u; kind = eqb-true (node_type (page s p)) 1 v })
      by_tests true false u v w = ih w
      by_tests false b u v w = absurd (cc)

  pub leaf_in : (k p : ℕ) {q : ℕ} → descend_of s used p route k ≡ Ok q → LeafIn used q s
  unfolding descend_of
  leaf_in zero p {q} e = here-is p q (Err (structural p)) (λ w. absurd (cc)) e
  leaf_in (suc k) p {q} e = here-is p q (on_inner (λ n. descend_of s used (child_of s p n route) route k) (λ f. Err f) (judge_inner (page s p) p)) (by_inner (judge_inner (page s p) p) (λ n. leaf_in k (child_of s p n route))) e
    where
      by_inner : (j : Result ℕ Fault) → ((n : ℕ) → descend_of s used (child_of s p n route) route k ≡ Ok q → LeafIn used q s)
          → on_inner (λ n. descend_of s used (child_of s p n route) route k) (λ f. Err f) j ≡ Ok q → LeafIn used q s
      by_inner (Ok n) ih w = ih n w
      by_inner (Err f) ih w = absurd (cc)

-- ---- the spot

-- no more cells stand before the place than there are
place-among : (k c : ℕ) (here : Place) (cs : List Cell) → (fold_cells (place_step k c) here cs).before ≤ here.before + length cs
unfolding fold_cells
place-among k c here [] = omega arith
place-among k c here (x ∷ xs) = by_order (in_order x.key x.version.creator k c) (λ y. place-among k c y xs)
  where
    by_order : (b : Bool) → ((y : Place) → (fold_cells (place_step k c) y xs).before ≤ y.before + length xs)
        → (fold_cells (place_step k c) (pick b (record { at = x.next; before = here.before + 1 }) here) xs).before ≤ here.before + suc (length xs)
    by_order true ih = omega (arith, ih (record { at = x.next; before = here.before + 1 }))
    by_order false ih = omega (arith, ih here)

-- what a judgement says of the place
pub record PlaceIs (pg : List ℕ) (p k c : ℕ) (x : Place) (e : ℕ) : Type 0 where
  pub judged : judge_leaf pg p ≡ Ok e
  pub place : x ≡ place_of k c (cells pg)

pub place_is : (pg : List ℕ) (p k c : ℕ) {x : Place} {e : ℕ} → place_leaf pg p k c ≡ Ok (x, e) → PlaceIs pg p k c x e
unfolding place_leaf
place_is pg p k c {x} {e} h = by_judged (judge_leaf pg p) refl h
  where
    by_judged : (j : Result ℕ Fault) → judge_leaf pg p ≡ j → on_judged {A = Result (Place × ℕ) Fault} (λ n. Ok (place_of k c (cells pg), n)) (λ f. Err f) j ≡ Ok (x, e) → PlaceIs pg p k c x e
    by_judged (Ok n) q w =
        let t : ◌≡◌ {A = Place × ℕ} (place_of k c (cells pg), n) (x, e) = cc in
        let same : n ≡ e = ap (λ (y : Place × ℕ). y.1) t in
        let at : place_of k c (cells pg) ≡ x = ap (λ (y : Place × ℕ). y.0) t in
        record { judged = rw (← same) q; place = sym at }
    by_judged (Err f) q w = absurd (cc)

pub record SpotIs (used key creator : ℕ) (s : List ℕ) (x : Spot) : Type 0 where
  pub in_use : x.leaf < used
  pub there : x.leaf * 4096 + 4096 ≤ length s
  pub kind : node_type (page s x.leaf) ≡ 1
  pub sound : Sound (page s x.leaf) x.end
  pub split : PlaceSplit (page s x.leaf) x.end key creator
  pub place : x.place ≡ record { at = end_of 12 (take split.count (cells (page s x.leaf))); before = split.count }
  pub low : 12 ≤ x.place.at
  pub inside : x.place.at ≤ x.end
  pub within : x.end ≤ 4096
  pub among : x.place.before ≤ cell_count (page s x.leaf)
  pub few : cell_count (page s x.leaf) < 16384

-- what is told of the leaf and of the place in it
record Told (used key creator : ℕ) (s : List ℕ) (x : Spot) : Type 0 where
  leaf : LeafIn used x.leaf s
  placed : PlaceIs (page s x.leaf) x.leaf key creator x.place x.end

told : (used root key creator : ℕ) (s : List ℕ) (x : Spot) → spot_of s used root key creator ≡ Ok x → Told used key creator s x
unfolding spot_of
told used root key creator s x e = by_way (descend_of s used root (Route.Insert key) 3) refl e
  where
    by_place : (p : ℕ) (r : Result (Place × ℕ) Fault) → LeafIn used p s → place_leaf (page s p) p key creator ≡ r → spot_in p r ≡ Ok x → Told used key creator s x
    by_place p (Ok (here, n)) l q w =
        let same : record { leaf = p; place = here; end = n } ≡ x = cc in
        rw (← same) (record { leaf = l; placed = place_is (page s p) p key creator q })
    by_place p (Err f) l q w = absurd (cc)

    by_way : (d : Result ℕ Fault) → descend_of s used root (Route.Insert key) 3 ≡ d
        → on_leaf (λ p. spot_in p (place_leaf (page s p) p key creator)) (λ f. Err f) d ≡ Ok x → Told used key creator s x
    by_way (Ok p) q w = by_place p (place_leaf (page s p) p key creator) (leaf_in (Route.Insert key) used s 3 root q) refl w
    by_way (Err f) q w = absurd (cc)

pub spot_is : (used root key creator : ℕ) (s : List ℕ) (x : Spot) → AreBytes s → used * 4096 ≤ length s → spot_of s used root key creator ≡ Ok x
    → SpotIs used key creator s x
unfolding place_of
spot_is used root key creator s x B room e =
    let t = told used root key creator s x e in
    let pg = page s x.leaf in
    let low : x.leaf < used = t.leaf.in_use in
    let long : x.leaf * 4096 + 4096 ≤ length s = omega arith in
    let sound : Sound pg x.end = record { bytes = bytes-page x.leaf s B; whole = length-page x.leaf s long; judged = any_page x.leaf 0 x.end pg t.placed.judged } in
    let p = place_split pg x.end key creator sound in
    let all = judged-leaf 0 pg x.end sound.judged in
    let place = t.placed.place ∙ p.here in
    let at : x.place.at ≡ end_of 12 (take p.count (cells pg)) = ap (λ (y : Place). y.at) place in
    let i = p.split in
    record {
      in_use = low;
      there = long;
      kind = t.leaf.kind;
      sound = sound;
      split = p;
      place = place;
      low = rw at i.low;
      inside = rw at i.high;
      within = i.within;
      among = rw t.placed.place (omega (arith, place-among key creator (record { at = 12; before = 0 }) (cells pg), all.count));
      few = omega (arith, chain-few pg 12 (cells pg) (chain-cells pg (cell_count pg) 12), all.count, all.end, i.within);
    }
