-- What a walk over a leaf looks for (document 01, section 4): the newest visible version of a key, a conflict among its
-- versions, and the run of its cells. Each is a fold over the leaf's cells, after the leaf was judged.
use Rattle.std.specs.Prelude.{Option, Some, None, Result, Ok, Err, Bool, ◌&&◌, ◌||◌, List, ℕ, ◌+◌, ltb, eqb}
use Rattle.row.specs.declared.Fault.{Fault}
use Rattle.store.specs.Pick.{pick}
use Rattle.mvcc.specs.Rules.{visible, conflicting, claim_conflicting}
use Rattle.row.specs.declared.Cell.{Cell}
use Rattle.leaf.specs.Cells.{cells, fold_cells, judge_leaf, on_judged, has_larger}
use Rattle.leaf.specs.declared.find.Run.{Run}
use Rattle.mvcc.specs.Snapshot.{Snapshot}
use Rattle.page.specs.Header.{header_size}

-- the best version so far, with its page
abbrev pub Best : Type 0
Best = Option (ℕ × Cell)

-- "Lookup and stamp choose the largest visible creator; on a tie the last in chain order": of the best so far and a
-- visible version of the key in page p
abbrev pub later : ℕ → Best → Cell → Best
later p None c = Some (p, c)
later p (Some (q, o)) c = pick (ltb c.version.creator o.version.creator) (Some (q, o)) (Some (p, c))

unfoldable pub newest : (p key : ℕ) → Snapshot → (ℕ → ℕ) → Best → Cell → Best
newest p key sn st best c =
    pick (eqb c.key key && visible sn st c.version.creator c.version.stamp) (later p best c) best

-- the best after this leaf, and whether the leaf holds a larger key, so that the search ends here
unfoldable pub find_leaf : List ℕ → (p key : ℕ) → Snapshot → (ℕ → ℕ) → Best → Result (Best × Bool) Fault
find_leaf pg p key sn st best =
    on_judged (λ e. Ok (fold_cells (newest p key sn st) best (cells pg), has_larger key (cells pg))) (λ f. Err f) (judge_leaf pg p)

-- the conflict test of one version: the ported one, or claim's own
abbrev pub test_of : Snapshot → (ℕ → ℕ) → (claiming : Bool) → (seen creator : ℕ) → Option ℕ → Bool
test_of sn st claiming seen creator stamp = pick claiming (claim_conflicting sn st seen creator stamp) (conflicting sn seen creator stamp)

-- "if some version of the key ..": found so far, or this one
unfoldable pub joined : (key : ℕ) → Snapshot → (ℕ → ℕ) → (claiming : Bool) → (seen : ℕ) → Bool → Cell → Bool
joined key sn st claiming seen found c =
    found || (eqb c.key key && test_of sn st claiming seen c.version.creator c.version.stamp)

unfoldable pub test_leaf : List ℕ → (p key : ℕ) → Snapshot → (ℕ → ℕ) → (claiming : Bool) → (seen : ℕ) → Bool → Result (Bool × Bool) Fault
test_leaf pg p key sn st claiming seen found =
    on_judged (λ e. Ok (fold_cells (joined key sn st claiming seen) found (cells pg), has_larger key (cells pg))) (λ f. Err f) (judge_leaf pg p)

-- the run of a key's cells, which stand together: where it starts and ends, and how many they are. Cells of a smaller key
-- move both ends.
unfoldable pub run_past : ℕ → Run → (k next : ℕ) → Run
run_past key here k next =
    pick (ltb k key) (record { from = next; to = next; count = 0 })
    (pick (eqb k key) (record { from = here.from; to = next; count = here.count + 1 }) here)

unfoldable pub running : ℕ → Run → Cell → Run
running key here c = run_past key here c.key c.next

unfoldable pub run_leaf : List ℕ → (p key : ℕ) → Result (Run × ℕ × Bool) Fault
run_leaf pg p key =
    on_judged (λ e. Ok (fold_cells (running key) (record { from = header_size; to = header_size; count = 0 }) (cells pg), e, has_larger key (cells pg))) (λ f. Err f) (judge_leaf pg p)
