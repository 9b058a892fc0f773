-- The facts of specs/FindFacts: a lookup's walk chooses the largest creator, the last on a tie, and a judgement's yes is
-- the same for any page number. Assumes nothing.
use Rattle.std.proofs.Common.{Some, None, Ok, Err}
use mathlib.Core.Path.{◌≡◌, refl, sym}
use mathlib.Core.Bool.{Bool, true, false, ◌&&◌}
use mathlib.Core.List.{List, [], ◌∷◌, ◌++◌, append_assoc, append-nil}
use Prim.Native.Nat.{ℕ, zero, suc, ◌≤◌, ◌<◌}
use native.Mathlib.Omega.{arith}
use borrow.Author.Tests.{ltb-true, ltb-false, eq-eqb, eqb-true}
use lib.Dec.{ltb, eqb}
use Rattle.store.specs.Pick.{pick}
use Rattle.mvcc.specs.Rules.{visible}
use Rattle.page.specs.Header.{node_type, cell_count}
use Rattle.row.specs.declared.Cell.{Cell}
use Rattle.leaf.specs.Cells.{Step, fold_cells, step_of, on_step, judge_cells, judge_leaf}
use Rattle.row.specs.Fault.{structural}
use Rattle.leaf.specs.Find.{later, newest, Best}
use Rattle.leaf.specs.FindFacts.{Candidate, EachCandidate, ChosenCell, ChosenBy, LookupChooses, AnyPage}
use Rattle.mvcc.specs.Snapshot.{Snapshot}
use Rattle.leaf.proofs.Walking.{step-cell, step_in}

-- ---- what a lookup chooses

module _ (sn : Snapshot) (st : ℕ → ℕ) (key : ℕ) where
  abbrev Seen : Cell → Type 0
  Seen c = Candidate key sn st c

  abbrev Each : (Cell → Type 0) → List Cell → Type 0
  Each P cs = EachCandidate key sn st P cs

  each_append : (P : Cell → Type 0) (xs ys : List Cell) → Each P xs → Each P ys → Each P (xs ++ ys)
  each_append P [] ys a b = b
  each_append P (x ∷ xs) ys a b = (a.0, each_append P xs ys a.1 b)

  each_weaker : (P Q : Cell → Type 0) → ((x : Cell) → P x → Q x) → (xs : List Cell) → Each P xs → Each Q xs
  each_weaker P Q f [] a = tt
  each_weaker P Q f (x ∷ xs) a = (λ s. f x (a.0 s), each_weaker P Q f xs a.1)

  -- a cell is a candidate by the walk's own test, or is none
  abbrev test : Cell → Bool
  test c = eqb c.key key && visible sn st c.version.creator c.version.stamp

  test_yes : (c : Cell) → test c ≡ true → Seen c
  test_yes c t = by_key (eqb c.key key) refl t
    where
      by_key : (b : Bool) → eqb c.key key ≡ b → (b && visible sn st c.version.creator c.version.stamp) ≡ true → Seen c
      by_key true e q = record { of_the_key = eqb-true c.key key e; seen = q }
      by_key false e q = absurd (let z : ◌≡◌ {A = ℕ} 0 1 = cc in omega arith)

  test_no : (c : Cell) → test c ≡ false → Seen c → ⊥
  test_no c t s =
      let k = eq-eqb c.key key s.of_the_key in
      let v = s.seen in
      absurd (let z : ◌≡◌ {A = ℕ} 0 1 = cc in omega arith)

  -- a cell after the chosen one that does not displace it
  stays : (cs : List Cell) (o c : Cell) → ChosenCell key sn st cs o → (Seen c → c.version.creator < o.version.creator) → ChosenCell key sn st (cs ++ (c ∷ [])) o
  stays cs o c ch h =
      record {
        before = ch.before;
        after = ch.after ++ (c ∷ []);
        there = rw ch.there (simp append_assoc);
        candidate = ch.candidate;
        none_larger = ch.none_larger;
        last = each_append (λ x. x.version.creator < o.version.creator) ch.after (c ∷ []) ch.last (h, tt);
      }

  -- a candidate that displaces what was chosen before it
  displaces : (cs : List Cell) (c : Cell) → Seen c → Each (λ x. x.version.creator ≤ c.version.creator) cs → ChosenCell key sn st (cs ++ (c ∷ [])) c
  displaces cs c s a = record { before = cs; after = []; there = refl; candidate = s; none_larger = a; last = tt }

  below : (cs : List Cell) (o c : Cell) → ChosenCell key sn st cs o → o.version.creator ≤ c.version.creator → Each (λ x. x.version.creator ≤ c.version.creator) cs
  below cs o c ch h =
      rw ch.there
      (each_append (λ x. x.version.creator ≤ c.version.creator) ch.before (o ∷ ch.after)
      (each_weaker (λ x. x.version.creator ≤ o.version.creator) (λ x. x.version.creator ≤ c.version.creator) (λ x l. omega arith) ch.before ch.none_larger)
      (λ s. h, each_weaker (λ x. x.version.creator < o.version.creator) (λ x. x.version.creator ≤ c.version.creator) (λ x l. omega arith) ch.after ch.last))

  module _ (p : ℕ) where
    abbrev By : List Cell → Best → Type 0
    By cs best = ChosenBy p key sn st cs best

    -- one step of the walk
    passed : (cs : List Cell) (best : Best) (c : Cell) → (Seen c → ⊥) → By cs best → By (cs ++ (c ∷ [])) best
    passed cs None c z b = each_append (λ x. ⊥) cs (c ∷ []) b (z, tt)
    passed cs (Some (q, o)) c z b = (b.0, stays cs o c b.1 (λ s. absurd (z s)))

    taken : (cs : List Cell) (best : Best) (c : Cell) → Seen c → By cs best → By (cs ++ (c ∷ [])) (later p best c)
    taken cs None c s b = (refl, displaces cs c s (each_weaker (λ x. ⊥) (λ x. x.version.creator ≤ c.version.creator) (λ x z. absurd z) cs b))
    taken cs (Some (q, o)) c s b = by_creator (ltb c.version.creator o.version.creator) refl
      where
        by_creator : (t : Bool) → ltb c.version.creator o.version.creator ≡ t → By (cs ++ (c ∷ [])) (pick t (Some (q, o)) (Some (p, c)))
        by_creator true e = (b.0, stays cs o c b.1 (λ z. ltb-true _ _ e))
        by_creator false e = (refl, displaces cs c s (below cs o c b.1 (ltb-false _ _ e)))

    step : (cs : List Cell) (best : Best) (c : Cell) → By cs best → By (cs ++ (c ∷ [])) (newest p key sn st best c)
    unfolding newest
    step cs best c b = by_test (test c) refl
      where
        by_test : (t : Bool) → test c ≡ t → By (cs ++ (c ∷ [])) (pick t (later p best c) best)
        by_test true e = taken cs best c (test_yes c e) b
        by_test false e = passed cs best c (test_no c e) b

    walk_chooses : (rest cs : List Cell) (best : Best) → By cs best → By (cs ++ rest) (fold_cells (newest p key sn st) best rest)
    unfolding fold_cells
    walk_chooses [] cs best b = rw append-nil b
    walk_chooses (c ∷ rest) cs best b = rw append_assoc at (walk_chooses rest (cs ++ (c ∷ [])) (newest p key sn st best c) (step cs best c b))

pub lookup_chooses : LookupChooses
lookup_chooses sn st p key cs = walk_chooses sn st key p cs [] None tt

-- ---- any page number

cells_any : (p q e : ℕ) (s : List ℕ) (k c n at : ℕ) → judge_cells s p k c n at ≡ Ok e → judge_cells s q k c n at ≡ Ok e
unfolding judge_cells
cells_any p q e s k c zero at j = j
cells_any p q e s k c (suc n) at j = by_step (step_of s p k c at) refl j (λ x. cells_any p q e s x.key x.version.creator n x.next)
  where
    by_step : (r : Step) → step_of s p k c at ≡ r → on_step (λ x. judge_cells s p x.key x.version.creator n x.next) (λ f. Err f) r ≡ Ok e
        → ((x : Cell) → judge_cells s p x.key x.version.creator n x.next ≡ Ok e → judge_cells s q x.key x.version.creator n x.next ≡ Ok e)
        → on_step (λ x. judge_cells s q x.key x.version.creator n x.next) (λ f. Err f) (step_of s q k c at) ≡ Ok e
    by_step (Step.Bad f) t j ih = absurd (let z : ◌≡◌ {A = ℕ} 0 1 = cc in omega arith)
    by_step (Step.Got x) t j ih = let u = step-cell s p k c at (sym t) refl in rw (← step_in s q k c at (sym u.0) refl (sym u.1) refl) (ih x j)

pub any_page : AnyPage
unfolding judge_leaf
any_page p q e pg j = by_type (eqb (node_type pg) 1) j
  where
    by_type : (b : Bool) → pick b (judge_cells pg p 0 0 (cell_count pg) 12) (Err (structural p)) ≡ Ok e
        → pick b (judge_cells pg q 0 0 (cell_count pg) 12) (Err (structural q)) ≡ Ok e
    by_type true i = cells_any p q e pg 0 0 (cell_count pg) 12 i
    by_type false i = absurd (let z : ◌≡◌ {A = ℕ} 0 1 = cc in omega arith)
