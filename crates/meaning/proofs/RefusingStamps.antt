-- A stamp is never Undividable: the leaf of what a lookup found was full to 4084 bytes at most, and the stamped cell, as long
-- as it may be, still fits a page alone. Assumes nothing.
use Rattle.std.proofs.Common.{Ok}
use mathlib.Core.Path.{◌≡◌, sym, ap, ◌∙◌}
use mathlib.Core.Bool.{true}
use mathlib.Core.List.{List, [], ◌∷◌}
use Prim.Native.Nat.{ℕ, ◌+◌, ◌≤◌, ◌<◌}
use native.Mathlib.Omega.{arith}
use borrow.Author.Tests.{ltb-true}
use lib.Dec.{ltb}
use lib.ListN.{length}
use Rattle.store.specs.Le.{AreBytes}
use Rattle.page.specs.Page.{page}
use Rattle.page.specs.declared.pool.State.{State}
use Rattle.row.specs.Write.{stamp_len}
use Rattle.row.specs.declared.Cell.{Cell}
use Rattle.leaf.specs.Place.{sizes_of, cut_fits}
use Rattle.leaf.specs.CutFacts.{Between}
use Rattle.tree_room.specs.declared.Planned.{Planned}
use Rattle.tree_stamp.specs.Target.{target_of}
use Rattle.tree_stamp.specs.Steps.Target.{CellMet}
use Rattle.tree_stamp.specs.Stamp.{bytes_stamped, cut_stamped, stamp_plan}
use Rattle.tree_stamp.specs.declared.Target.{Target}
use Rattle.page.proofs.PageLaws.{page_short}
use Rattle.row.proofs.Exact.{read_is-written, cell_placed}
use Rattle.row.proofs.Writing.{pointer_len_lem}
use Rattle.leaf.proofs.CutFacts.{stamp_divides, between_append}
use Rattle.leaf.proofs.Chain.{Chain}
use Rattle.leaf.proofs.Bytes.{bytes-page}
use Rattle.tree_room.proofs.Keeping.{planned-is}
use Rattle.tree_stamp.proofs.Meeting.{Stands, target_stands}
use Rattle.tree_stamp.proofs.Cutting.{m, xs, ys, all, live, whole_sum, cut_is}

-- a cell has 19 bytes at least, and a page has 4084 for its cells
sizes_bound : (pg : List ℕ) → length pg ≤ 4096 → (at : ℕ) (cs : List Cell) → 12 ≤ at → Chain pg at cs → Between 19 4084 (sizes_of cs)
sizes_bound pg short at [] low h = tt
sizes_bound pg short at (c ∷ cs) low h =
    let p = cell_placed pg at c h.0 in
    let here = p.here in
    let size : at + 19 ≤ c.next = omega (arith, p.past_head, p.whole) in
    (omega arith, omega (arith, p.inside), sizes_bound pg short c.next cs (omega arith) h.1)

module _ (t : Target) (pg : List ℕ) (B : AreBytes pg) (short : length pg ≤ 4096) (is : Stands pg t.cell t.beside) (over : 4084 < bytes_stamped t) where
  -- "A cell is .. at most 33 plus data", and data 4051 at most
  one-fits : m t pg short is over ≤ 4084
  one-fits =
      let w = read_is-written pg t.cell.at t.cell B is.there in
      let next = ap (λ (x : Cell). x.next) w.place in
      let one : stamp_len t.cell.version.stamp ≡ 1 = ap stamp_len (live t pg short is over).0 in
      omega (arith, w.few, pointer_len_lem t.cell.version.pointer, (live t pg short is over).1)

  all_between : Between 19 4084 (all t pg short is over)
  all_between =
      between_append 19 4084 (xs t pg short is over) (m t pg short is over ∷ ys t pg short is over) (sizes_bound pg short 12 is.first (omega arith) is.chain)
      (omega (arith, is.size), one-fits, sizes_bound pg short t.cell.next is.rest (omega (arith, is.low, is.size)) is.chain_on)

  stamp_cuts : cut_fits (bytes_stamped t) (cut_stamped pg t) ≡ true
  stamp_cuts =
      let sum_is_lem = whole_sum t pg short is over in
      rw (cut_is t pg short is over, sum_is_lem) (stamp_divides (all t pg short is over) all_between (omega arith) (omega (arith, is.within, (live t pg short is over).1)))

-- so its plan has a cut that fits
module _ (s : List ℕ) (st : State) (B : AreBytes s) (t : Target) (met : CellMet st.used t.leaf t.cell s)
    (is : t ≡ target_of (page s t.leaf) t.leaf t.cell) where
  pub plan_cuts : {plan : Planned} → stamp_plan s st t ≡ Ok plan → plan.over ≡ true → cut_fits (bytes_stamped t) plan.cut ≡ true
  unfolding stamp_plan
  plan_cuts e o =
      let pg = page s t.leaf in
      let b = ltb 4084 (bytes_stamped t) in
      let p = planned-is st t.leaf b (cut_stamped pg t) s e in
      let more : b ≡ true = sym p.same ∙ o in
      rw (p.at_cut more)
      (stamp_cuts t pg (bytes-page t.leaf s B) (page_short t.leaf s) (target_stands st.used s t met is) (ltb-true 4084 (bytes_stamped t) more))
