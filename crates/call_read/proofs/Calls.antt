-- What a lookup that finds says of the cell. Assumes nothing.
use Rattle.std.proofs.Common.{Some, None, Result, Ok, Err}
use mathlib.Core.Path.{◌≡◌, refl, sym, ◌∙◌}
use mathlib.Core.Bool.{Bool, true, false}
use mathlib.Core.List.{List}
use Prim.Native.Nat.{ℕ, ◌≤◌}
use Rattle.store.specs.Pick.{pick}
use Rattle.page.specs.Pool.{good_pool}
use Rattle.page.specs.declared.pool.State.{State}
use Rattle.row.specs.declared.Fault.{Fault}
use Rattle.row.specs.declared.Cell.{Cell}
use Rattle.mvcc.specs.Snapshot.{lookup, good_statuses, Snapshot, Statuses, good_snapshot}
use Rattle.leaf.specs.Find.{Best}
use Rattle.tree.specs.Lookup.{best_in_tree}
use Rattle.call_answers.specs.declared.Refused.{Refused}
use Rattle.call_answers.specs.declared.Refusal.{Refusal}
use Rattle.call_answers.specs.Answer.{refusal_of}
use Rattle.call_read.specs.Find.{looked_best, find_visible_run}
use Rattle.tree.proofs.Looking.{found_in, start_small}

module _ (s : List ℕ) (state : State) (key : ℕ) (sn : Snapshot) (ss : Statuses) where
  pub run_small : {r : Result (ℕ × Cell) Refused} {p : ℕ} {c : Cell} → r ≡ find_visible_run s state key sn ss → r ≡ Ok (p, c) → c.version.start ≤ 4096
  unfolding find_visible_run
  run_small {r} {p} {c} e q = by_tests (good_pool s state) (good_snapshot sn) (good_statuses ss) (sym e ∙ q)
    where
      by_best : (b : Result Best Fault) → best_in_tree s state.used state.root key sn (lookup ss) ≡ b → looked_best b ≡ Ok (p, c) → c.version.start ≤ 4096
      by_best (Ok (Some (q, d))) t u =
          let v : Ok (Some (q, d)) ≡ Ok (Some (p, c)) = cc in
          start_small s state.used p c (found_in sn (lookup ss) state.used state.root key s (t ∙ v))
      by_best (Ok None) t u = absurd (cc)
      by_best (Err f) t u = absurd (cc)

      by_tests : (x y z : Bool)
          → pick x
          (pick y (pick z (looked_best (best_in_tree s state.used state.root key sn (lookup ss))) (Err (refusal_of Refusal.BadStatuses))) (Err (refusal_of Refusal.BadSnapshot)))
          (Err (refusal_of Refusal.BadPool))
          ≡ Ok (p, c)
          → c.version.start ≤ 4096
      by_tests true true true u = by_best (best_in_tree s state.used state.root key sn (lookup ss)) refl u
      by_tests true true false u = absurd (cc)
      by_tests true false z u = absurd (cc)
      by_tests false y z u = absurd (cc)
