-- The cells of a leaf are a chain, each standing where the one before it ends; of a judged leaf all are there, in order,
-- and a chain that is split splits the page's bytes. Assumes nothing.
use Rattle.row.specs.declared.CellFault.{CellFault}
use Rattle.std.proofs.Common.{Result, Ok, Err}
use mathlib.Core.Path.{◌≡◌, refl, sym, ap, ◌∙◌, subst}
use mathlib.Core.Bool.{Bool, true, false}
use mathlib.Core.List.{List, [], ◌∷◌, ◌++◌, map}
use Prim.Native.Nat.{ℕ, zero, suc, ◌+◌, ◌-◌, ◌*◌, ◌≤◌}
use native.Mathlib.Omega.{arith}
use lib.Dec.{eqb}
use lib.ListN.{length}
use Rattle.store.specs.Pick.{pick}
use Rattle.store.specs.Le.{AreBytes}
use Rattle.store.specs.Part.{part}
use Rattle.page.specs.Header.{node_type, cell_count}
use Rattle.row.specs.Read.{cell_at}
use Rattle.row.specs.declared.Cell.{Cell}
use Rattle.leaf.specs.Cells.{Step, on_cell, cells_of, cells, in_order, step_of, on_step, judge_cells, judge_leaf}
use Rattle.row.specs.Fault.{structural}
use Rattle.leaf.specs.Rows.{AllFit, row_of, rows_bytes}
use Rattle.leaf.specs.RowFacts.{Sound}
use Rattle.store.proofs.PartLaws.{length_part, part_add}
use Rattle.row.proofs.Exact.{read_is-written, cell_placed}
use Rattle.leaf.proofs.Walking.{step-cell}
use Rattle.leaf.proofs.Rowing.{end_of, rows-bytes}

-- ---- chains

-- cells that stand one after another from `at` on
abbrev pub Chain : List ℕ → ℕ → List Cell → Type 0
Chain s at [] = Unit
Chain s at (c ∷ cs) = (cell_at s at ≡ Ok c) × Chain s c.next cs

module _ (s : List ℕ) where
  pub chain-cells : (n at : ℕ) → Chain s at (cells_of s n at)
  unfolding cells_of
  chain-cells zero at = tt
  chain-cells (suc n) at = by_read (cell_at s at) refl (λ c. chain-cells n c.next)
    where
      by_read : (r : Result Cell CellFault) → cell_at s at ≡ r → ((c : Cell) → Chain s c.next (cells_of s n c.next)) → Chain s at (on_cell (λ c. c ∷ cells_of s n c.next) (λ kind. []) r)
      by_read (Err kind) e ih = tt
      by_read (Ok c) e ih = (e, ih c)

  pub chain_back : (at : ℕ) (cs : List Cell) → Chain s at cs → cells_of s (length cs) at ≡ cs
  unfolding cells_of
  chain_back at [] h = refl
  chain_back at (c ∷ cs) h = rw (h.0, chain_back c.next cs h.1)

  pub chain_left : (at : ℕ) (xs ys : List Cell) → Chain s at (xs ++ ys) → Chain s at xs
  chain_left at [] ys h = tt
  chain_left at (x ∷ xs) ys h = (h.0, chain_left x.next xs ys h.1)

  pub chain-right : (at : ℕ) (xs ys : List Cell) → Chain s at (xs ++ ys) → Chain s (end_of at xs) ys
  unfolding end_of
  chain-right at [] ys h = h
  chain-right at (x ∷ xs) ys h = chain-right x.next xs ys h.1

  pub chain_grows : (at : ℕ) (cs : List Cell) → Chain s at cs → at ≤ end_of at cs
  unfolding end_of
  chain_grows at [] h = omega arith
  chain_grows at (c ∷ cs) h =
      let p = cell_placed s at c h.0 in
      omega (arith, chain_grows c.next cs h.1)

  pub chain-few : (at : ℕ) (cs : List Cell) → Chain s at cs → at + 19 * length cs ≤ end_of at cs
  unfolding end_of
  chain-few at [] h = omega arith
  chain-few at (c ∷ cs) h =
      let p = cell_placed s at c h.0 in
      omega (arith, chain-few c.next cs h.1)

  pub chain-inside : (at : ℕ) (cs : List Cell) → at ≤ length s → Chain s at cs → end_of at cs ≤ length s
  unfolding end_of
  chain-inside at [] h k = h
  chain-inside at (c ∷ cs) h k = chain-inside c.next cs (cell_placed s at c k.0).inside k.1

  chain-bytes : AreBytes s → (at : ℕ) (cs : List Cell) → Chain s at cs → part at (end_of at cs - at) s ≡ rows_bytes (map (row_of s) cs)
  chain-bytes B at cs h = let e = chain_back at cs h in rw e at (rows-bytes s B (length cs) at)

  pub chain_fits : AreBytes s → (at : ℕ) (cs : List Cell) → Chain s at cs → AllFit (map (row_of s) cs)
  chain_fits B at [] h = tt
  chain_fits B at (c ∷ cs) h =
      let w = read_is-written s at c B h.0 in
      let p = cell_placed s at c h.0 in (
        record {
          key = w.key_fits;
          creator = w.creator_fits;
          stamp = w.stamp_fits;
          pointer = w.pointer_fits;
          body = rw (length_part c.version.start c.version.len s (omega arith)) w.few;
        },
        chain_fits B c.next cs h.1,
      )

pub end-append : (at : ℕ) (xs ys : List Cell) → end_of at (xs ++ ys) ≡ end_of (end_of at xs) ys
unfolding end_of
end-append at [] ys = refl
end-append at (x ∷ xs) ys = end-append x.next xs ys

-- ---- a judged leaf

-- none is before the one before it, by key, then creator; the first not before k with c
abbrev pub Rising : (k c : ℕ) → List Cell → Type 0
Rising k c [] = Unit
Rising k c (x ∷ xs) = (in_order k c x.key x.version.creator ≡ true) × Rising x.key x.version.creator xs

-- all n cells are there, in order, and they end at e
pub record AllThere (s : List ℕ) (k c n at e : ℕ) : Type 0 where
  pub count : length (cells_of s n at) ≡ n
  pub end : end_of at (cells_of s n at) ≡ e
  pub rising : Rising k c (cells_of s n at)

pub judged_all : (s : List ℕ) (p k c n at e : ℕ) → judge_cells s p k c n at ≡ Ok e → AllThere s k c n at e
unfolding judge_cells cells_of end_of
judged_all s p k c zero at e h = record { count = refl; end = cc; rising = tt }
judged_all s p k c (suc n) at e h = by_step (step_of s p k c at) refl (λ x. judged_all s p x.key x.version.creator n x.next e) h
  where
    by_step : (r : Step) → step_of s p k c at ≡ r
        → ((x : Cell) → judge_cells s p x.key x.version.creator n x.next ≡ Ok e → AllThere s x.key x.version.creator n x.next e)
        → on_step (λ x. judge_cells s p x.key x.version.creator n x.next) (λ f. Err f) r ≡ Ok e → AllThere s k c (suc n) at e
    by_step (Step.Bad f) q ih w = absurd (let z : ◌≡◌ {A = ℕ} 0 1 = cc in omega arith)
    by_step (Step.Got x) q ih w =
        let t = step-cell s p k c at (sym q) refl in
        let i = ih x w in
        let u : cells_of s (suc n) at ≡ x ∷ cells_of s n x.next = rw t.0 in
        record { count = rw u (ap suc i.count); end = rw u i.end; rising = rw u (t.1, i.rising) }

pub judged-leaf : (p : ℕ) (pg : List ℕ) (e : ℕ) → judge_leaf pg p ≡ Ok e → AllThere pg 0 0 (cell_count pg) 12 e
unfolding judge_leaf
judged-leaf p pg e h = by_type (eqb (node_type pg) 1) h
  where
    by_type : (b : Bool) → pick b (judge_cells pg p 0 0 (cell_count pg) 12) (Err (structural p)) ≡ Ok e → AllThere pg 0 0 (cell_count pg) 12 e
    by_type true w = judged_all pg p 0 0 (cell_count pg) 12 e w
    by_type false w = absurd (let z : ◌≡◌ {A = ℕ} 0 1 = cc in omega arith)

-- the page's bytes, where its cells are split into xs and ys
pub record Split (pg : List ℕ) (e : ℕ) (xs ys : List Cell) : Type 0 where
  pub low : 12 ≤ end_of 12 xs
  pub high : end_of 12 xs ≤ e
  pub within : e ≤ 4096
  pub front : part 0 (end_of 12 xs) pg ≡ part 0 12 pg ++ rows_bytes (map (row_of pg) xs)
  pub back : part (end_of 12 xs) (e - end_of 12 xs) pg ≡ rows_bytes (map (row_of pg) ys)

pub split_at : (pg : List ℕ) (e : ℕ) (xs ys : List Cell) → Sound pg e → cells pg ≡ xs ++ ys → Split pg e xs ys
split_at pg e xs ys sound h =
    let there = judged-leaf 0 pg e sound.judged in
    let all : Chain pg 12 (xs ++ ys) = subst (Chain pg 12) h (chain-cells pg (cell_count pg) 12) in
    let l = chain_left pg 12 xs ys all in
    let r = chain-right pg 12 xs ys all in
    let ends : end_of (end_of 12 xs) ys ≡ e = sym (end-append 12 xs ys) ∙ (sym (ap (end_of 12) h) ∙ there.end) in
    let low : 12 ≤ end_of 12 xs = chain_grows pg 12 xs l in
    let high : end_of 12 xs ≤ e = rw (← ends) (chain_grows pg (end_of 12 xs) ys r) in
    let within : e ≤ 4096 = omega (arith, sound.whole, chain-inside pg 12 (xs ++ ys) (omega (arith, sound.whole)) all, end-append 12 xs ys) in
    let i : end_of 12 xs ≡ 12 + (end_of 12 xs - 12) = omega arith in
    let z : 0 + 12 ≡ 12 = omega arith in
    record {
      low = low;
      high = high;
      within = within;
      front = ap (λ (k : ℕ). part 0 k pg) i ∙ (part_add 0 12 (end_of 12 xs - 12) pg ∙ rw (z, chain-bytes pg sound.bytes 12 xs l));
      back = rw ends at (chain-bytes pg sound.bytes (end_of 12 xs) ys r);
    }
