-- The page numbers of a tree (document 01, section 2): "a page, then its children's subtrees from the last child to the
-- first, a page already listed skipped, but one that is its own ancestor is BadTree; no leaf cells are read". Section 3:
-- page number, type, 1 to 510 non-decreasing keys, 4 levels.
use Rattle.call_answers.specs.Answer.{faulty, written, Written}
use Rattle.std.specs.Prelude.{Option, Some, None, Result, Ok, Err, Bool, List, [], ◌∷◌, ◌++◌, ℕ, zero, suc, ◌+◌, ltb, eqb}
use Rattle.call_answers.specs.declared.Refused.{Refused}
use Rattle.store.specs.Le.{bytes_le}
use Rattle.store.specs.Pick.{pick}
use Rattle.page.specs.Page.{page}
use Rattle.page.specs.Header.{node_type, node_leaf}
use Rattle.row.specs.Write.{record_bytes}
use Rattle.row.specs.declared.Fault.{Fault}
use Rattle.mvcc.specs.Lists.{mem}
use Rattle.inner.specs.Inner.{child_at, judge_inner}
use Rattle.row.specs.Fault.{structural}
use Rattle.tree.specs.Descend.{on_inner}
use Rattle.list_records.specs.Listed.{fitted}

-- what is to be done with page p, k levels above the last, under the pages `up`: a fault; nothing, if it is listed; or it
-- is listed, and so many children are visited. Own ancestor comes before already listed.
unfoldable pub top_at : List ℕ → (used k : ℕ) → (up : List ℕ) → (listed : Bool) → (p : ℕ) → Result (Option ℕ) Fault
top_at s used k up listed p =
    pick (ltb p used)
    (pick (mem p up) (Err (structural p))
    (pick listed (Ok None)
    (pick (eqb (node_type (page s p)) node_leaf) (Ok (Some 0))
    (pick (eqb k 0) (Err (structural p)) (on_inner (λ n. Ok (Some (n + 1))) (λ f. Err f) (judge_inner (page s p) p))))))
    (Err (structural p))

abbrev pub on_top : {A : Type 0} → (ℕ → A) → A → (Fault → A) → Result (Option ℕ) Fault → A
on_top list skip bad (Ok (Some m)) = list m
on_top list skip bad (Ok None) = skip
on_top list skip bad (Err f) = bad f

abbrev pub on_told : {A B : Type 0} → (A → B) → (Fault → B) → Result A Fault → B
on_told good bad (Ok a) = good a
on_told good bad (Err f) = bad f

-- the first j children, the last of them first; f visits one
unfoldable pub visit_kids : {L : Type 0} → List ℕ → (L → ℕ → Result L Fault) → (j : ℕ) → L → Result L Fault
visit_kids pg f zero l = Ok l
visit_kids pg f (suc j) l = on_told (λ m. visit_kids pg f j m) (λ e. Err e) (f l (child_at pg j))

-- the walk from page p, k levels above the last, on a log: whether it has a page, and how a page is added
unfoldable pub visiting : {L : Type 0} → List ℕ → (used : ℕ) → (L → ℕ → Bool) → (ℕ → L → L) → (k : ℕ) → (up : List ℕ) → L → (p : ℕ) → Result L Fault
visiting s used has add zero up l p = on_top (λ m. Ok (add p l)) (Ok l) (λ f. Err f) (top_at s used 0 up (has l p) p)
visiting s used has add (suc k) up l p =
    on_top (λ m. visit_kids (page s p) (visiting s used has add k (up ++ (p ∷ []))) m (add p l)) (Ok l) (λ f. Err f) (top_at s used (suc k) up (has l p) p)

-- the log is the list of page numbers
unfoldable pub numbers_of : List ℕ → (used root : ℕ) → Result (List ℕ) Fault
numbers_of s used root = visiting s used (λ l p. mem p l) (λ p l. l ++ (p ∷ [])) 3 [] [] root

-- "Page numbers are listed alike, kind 5 and the u32"
unfoldable pub number_records : List ℕ → List ℕ
number_records [] = []
number_records (p ∷ ps) = record_bytes 5 (bytes_le 4 p) ++ number_records ps

unfoldable pub numbers_tree : (s : List ℕ) → (used root : ℕ) → (out : List ℕ) → Written (Result ℕ Refused)
numbers_tree s used root out = on_told (λ l. fitted (number_records l) out) (λ f. written (Err (faulty f)) out) (numbers_of s used root)
