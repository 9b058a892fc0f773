-- The fields of a page, a separator and a page entered behind a child, and the pages above a hole, nearest first.
-- Assumes nothing.
use Prim.Native.Nat.{ℕ}
use Rattle.store.specs.Pick.{pick}
use Rattle.theory_tree.specs.Pages.{Page, leaf_page, inner_page, no_page}
use mathlib.Core.List.{List, [], ◌∷◌, map}
use lib.Dec.{eqb}
use Rattle.theory_tree.proofs.Contexts.{Ctx, top, in_l, in_r, under}

abbrev pub par_of : Page → ℕ
par_of (leaf_page par nxt cs) = par
par_of (inner_page par j h r) = par
par_of no_page = 0

abbrev pub next_of : Page → ℕ
next_of (leaf_page par nxt cs) = nxt
next_of (inner_page par j h r) = j
next_of no_page = 0

abbrev pub head_of : Page → ℕ
head_of (leaf_page par nxt cs) = 0
head_of (inner_page par j h r) = h
head_of no_page = 0

abbrev pub rest_of : Page → List (ℕ × ℕ)
rest_of (leaf_page par nxt cs) = []
rest_of (inner_page par j h r) = r
rest_of no_page = []

-- e goes directly behind the child l
abbrev pub ins_after : ℕ → ℕ × ℕ → ℕ → List (ℕ × ℕ) → List (ℕ × ℕ)
ins_after l e h [] = pick (eqb h l) (e ∷ []) []
ins_after l e h (x ∷ r) = pick (eqb h l) (e ∷ x ∷ r) (x ∷ ins_after l e x.1 r)

abbrev pub kids : ℕ → List (ℕ × ℕ) → List ℕ
kids h r = h ∷ map (λ x. x.1) r

abbrev pub path : Ctx → List ℕ
path top = []
path (in_l k b c) = path c
path (in_r a k c) = path c
path (under p c) = p ∷ path c
