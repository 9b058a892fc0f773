-- Where a new version goes (document 01, section 5: "after equals of its key and creator"), and where an overfull leaf
-- is cut ("where the larger side is smallest; the earliest cut wins. Both sides are nonempty"). A cut is a value.
use Rattle.std.specs.Prelude.{Result, Ok, Err, Bool, ◌&&◌, List, [], ◌∷◌, ◌++◌, map, ℕ, ◌+◌, ◌-◌, max, ltb, leb}
use Rattle.row.specs.declared.Fault.{Fault}
use Rattle.store.specs.Pick.{pick}
use Rattle.row.specs.declared.Cell.{Cell}
use Rattle.leaf.specs.Cells.{cells_of, cells, fold_cells, in_order, judge_leaf, on_judged}
use Rattle.leaf.specs.declared.place.Place.{Place}
use Rattle.leaf.specs.declared.place.Cut.{Cut}
use Rattle.leaf.specs.declared.place.Cutting.{Cutting}
use Rattle.page.specs.Header.{header_size, leaf_room}

-- past a cell of key k₁ and creator c₁ that is not after key k and creator c, and ends at next; no other moves the place
abbrev pub past_cell : (k c : ℕ) → Place → (k₁ c₁ next : ℕ) → Place
past_cell k c here k₁ c₁ next = pick (in_order k₁ c₁ k c) (record { at = next; before = here.before + 1 }) here

abbrev pub place_step : (k c : ℕ) → Place → Cell → Place
place_step k c here x = past_cell k c here x.key x.version.creator x.next

-- the offset past the last such cell, and how many cells stand before it; cells start at 12
unfoldable pub place_of : (k c : ℕ) → List Cell → Place
place_of k c cs = fold_cells (place_step k c) (record { at = header_size; before = 0 }) cs

-- the place in page p, after its judgement, and where its cells end
unfoldable pub place_leaf : List ℕ → (p k c : ℕ) → Result (Place × ℕ) Fault
place_leaf pg p k c = on_judged (λ e. Ok (place_of k c (cells pg), e)) (λ f. Err f) (judge_leaf pg p)

-- the larger side of a cut, of t bytes in all
abbrev pub larger_side : ℕ → Cut → ℕ
larger_side t cut = max cut.bytes (t - cut.bytes)

-- of an earlier cut and a later one: the later only if its larger side is smaller
unfoldable pub better_cut : ℕ → Cut → Cut → Cut
better_cut t earlier later = pick (ltb (larger_side t later) (larger_side t earlier)) later earlier

-- one more cell, of x bytes: a cut before it is a choice; to start with there is none, and all bytes are on one side
abbrev pub no_cut : Cut
no_cut = record { cells = 0; bytes = 0 }

unfoldable pub cut_step : ℕ → Cutting → ℕ → Cutting
cut_step t here x = record { left = record { cells = here.left.cells + 1; bytes = here.left.bytes + x }; best = better_cut t here.best here.left }

-- the cut of a leaf with cells of these sizes, t bytes in all
unfoldable pub cut_after : ℕ → Cutting → List ℕ → Cutting
cut_after t here [] = here
cut_after t here (x ∷ xs) = cut_after t (cut_step t here x) xs

abbrev pub uncut : Cutting
uncut = record { left = no_cut; best = no_cut }

unfoldable pub cut_of : ℕ → List ℕ → Cut
cut_of t sizes = (cut_after t uncut sizes).best

-- the sizes of cells
abbrev pub sizes_of : List Cell → List ℕ
sizes_of cs = map (λ c. c.next - c.at) cs

-- of a leaf, t bytes in all, in which a cell of m bytes stands after the first `before` cells, and `after` cells follow from b on
unfoldable pub cut_leaf : List ℕ → (t before b after m : ℕ) → Cut
cut_leaf pg t before b after m = cut_of t (sizes_of (cells_of pg before header_size) ++ (m ∷ sizes_of (cells_of pg after b)))

-- both sides hold cells and fit a page; otherwise the leaf is Undividable
unfoldable pub cut_fits : ℕ → Cut → Bool
cut_fits t cut = leb 1 cut.cells && leb (larger_side t cut) leaf_room
