-- The cut of a leaf with one cell stamped is between two cells: the sizes before it, its own and the sizes after it add up to
-- the cut's bytes, so that both sides are those of a division. Assumes nothing.
use Rattle.std.proofs.Common.{Option, Some, None}
use mathlib.Core.Path.{◌≡◌, refl, sym, ap, ◌∙◌, subst}
use mathlib.Core.Bool.{Bool, true, false}
use mathlib.Core.List.{List, [], ◌∷◌, ◌++◌}
use mathlib.Core.Logic.{⊎_elim}
use Prim.Native.Nat.{ℕ, suc, ◌+◌, ◌-◌, ◌≤◌, ◌<◌}
use native.Mathlib.Omega.{arith}
use lib.Dec.{ltb}
use lib.ListN.{length, take, length-append, length-map}
use Rattle.store.specs.Pick.{pick}
use Rattle.page.specs.Header.{cell_count}
use Rattle.row.specs.Write.{stamp_len}
use Rattle.row.specs.declared.Cell.{Cell}
use Rattle.leaf.specs.Cells.{cells_of}
use Rattle.leaf.specs.Place.{larger_side, better_cut, no_cut, cut_step, cut_after, cut_of, sizes_of, cut_leaf, cut_fits}
use Rattle.leaf.specs.CutFacts.{sum, Between, BestCut}
use Rattle.leaf.specs.declared.place.Cut.{Cut}
use Rattle.tree_stamp.specs.Stamp.{longer, bytes_stamped, cut_stamped}
use Rattle.tree_stamp.specs.Steps.Stamp.{StampCutStands}
use Rattle.tree_stamp.specs.declared.Target.{Target}
use Rattle.store.proofs.PartLaws.{le_or_lt}
use Rattle.leaf.proofs.CutFacts.{cut_is-best, sum-append, sum-take, sum_front, sum_past, between_append, fits-is}
use Rattle.leaf.proofs.Chain.{chain_back}
use Rattle.tree_stamp.proofs.Meeting.{Stands}
use Rattle.tree_stamp.proofs.Sums.{sizes_sum, sizes_between}

-- one cell alone is not cut
cut_alone : (t m : ℕ) (xs ys : List ℕ) → length xs ≡ 0 → length ys ≡ 0 → (cut_of t (xs ++ (m ∷ ys))).cells ≡ 0
unfolding cut_of cut_after cut_step better_cut
cut_alone t m [] [] h k = by_test (ltb (larger_side t no_cut) (larger_side t no_cut))
  where
    by_test : (b : Bool) → (pick b no_cut no_cut).cells ≡ 0
    by_test true = refl
    by_test false = refl
cut_alone t m [] (y ∷ ys) h k = absurd (omega arith)
cut_alone t m (x ∷ xs) ys h k = absurd (omega arith)

-- only a cell without a stamp gets longer
pub longer-live : (c : Cell) → 0 < longer c → (c.version.stamp ≡ None) × (longer c ≡ 8)
longer-live c h = by_stamp c.version.stamp refl h
  where
    by_stamp : (x : Option ℕ) → c.version.stamp ≡ x → 0 < 9 - stamp_len x → (c.version.stamp ≡ None) × (longer c ≡ 8)
    by_stamp None e l = (e, rw e)
    by_stamp (Some d) e l = absurd (omega arith)

module _ (t : Target) (pg : List ℕ) (short : length pg ≤ 4096) (is : Stands pg t.cell t.beside) (over : 4084 < bytes_stamped t) where
  abbrev pub m : ℕ
  m = t.cell.next - t.cell.at + longer t.cell

  abbrev pub xs : List ℕ
  xs = sizes_of is.first

  abbrev pub ys : List ℕ
  ys = sizes_of is.rest

  abbrev pub all : List ℕ
  all = xs ++ (m ∷ ys)

  pub live : (t.cell.version.stamp ≡ None) × (longer t.cell ≡ 8)
  live = longer-live t.cell (omega (arith, is.within))

  sizes_are : sizes_of (cells_of pg t.beside.before 12) ++ (m ∷ sizes_of (cells_of pg (cell_count pg - (t.beside.before + 1)) t.cell.next)) ≡ all
  sizes_are =
      let n : cell_count pg - (t.beside.before + 1) ≡ length is.rest = omega (arith, is.count) in
      rw (n, ← is.before, chain_back pg 12 is.first is.chain, chain_back pg t.cell.next is.rest is.chain_on)

  first-sum : 12 + sum xs ≡ t.cell.at
  first-sum = sizes_sum pg 12 is.first is.chain ∙ is.at

  rest_sum : t.cell.next + sum ys ≡ t.beside.end
  rest_sum = sizes_sum pg t.cell.next is.rest is.chain_on ∙ is.end

  pub whole_sum : bytes_stamped t ≡ sum all
  whole_sum = omega (arith, sum-append xs (m ∷ ys), first-sum, rest_sum, is.low, is.size, is.inside, live.1)

  first-long : length xs ≡ t.beside.before
  first-long = length-map is.first (λ c. c.next - c.at) ∙ is.before

  rest-long : length ys ≡ length is.rest
  rest-long = length-map is.rest (λ c. c.next - c.at)

  all_long : length all ≡ length xs + suc (length ys)
  all_long = length-append xs (m ∷ ys)

  pub cut_is : cut_stamped pg t ≡ cut_of (sum all) all
  unfolding cut_leaf
  cut_is = rw (sizes_are, whole_sum)

  module _ (fits : cut_fits (bytes_stamped t) (cut_stamped pg t) ≡ true) where
    abbrev cut : Cut
    cut = cut_stamped pg t

    sides : (1 ≤ cut.cells) × (larger_side (bytes_stamped t) cut ≤ 4084)
    sides = fits-is (bytes_stamped t) cut fits

    two_cells : 2 ≤ length all
    two_cells =
        ⊎_elim
        (λ (h : 2 ≤ length all). h)
        (λ (h : length all < 2).
        let none = cut_alone (sum all) m xs ys (omega (arith, all_long)) (omega (arith, all_long)) in
        absurd (omega (arith, sides.0, ap (λ (x : Cut). x.cells) cut_is)))
        (le_or_lt 2 (length all))

    all_between : Between 1 4096 all
    all_between =
        between_append 1 4096 xs (m ∷ ys) (sizes_between pg short 12 is.first is.chain)
        (omega (arith, is.size), omega (arith, is.low, is.inside, is.within, live.1), sizes_between pg short t.cell.next is.rest is.chain_on)

    cut_chosen : BestCut all cut
    cut_chosen = subst (BestCut all) (sym cut_is) (cut_is-best all 4096 two_cells all_between)

    cut_bytes : cut.bytes ≡ sum (take cut.cells all)
    cut_bytes = ap (λ (x : Cut). x.bytes) cut_chosen.place

    pub cut_stands : StampCutStands t (cell_count pg) cut pg
    cut_stands =
        let n = all_long in
        let f = first-long in
        let r = rest-long in
        let a = first-sum in
        let b = rest_sum in
        let w = whole_sum in
        let d = live.1 in
        let i = cut_bytes in
        let side = sides.1 in
        record {
          there = is.there;
          live = live.0;
          low = is.low;
          inside = is.inside;
          within = is.within;
          few = omega (arith, is.few);
          cells = omega (arith, cut_chosen.right, is.count);
          left = omega arith;
          right = omega (arith, is.low, is.size, is.inside);
          whole = omega (arith, sum-take cut.cells all, is.low, is.size, is.inside);
          before = λ h. omega (arith, sum_front cut.cells xs (m ∷ ys) (omega arith));
          after = λ h. omega (arith, sum_past cut.cells xs m ys (omega arith), is.size);
        }
