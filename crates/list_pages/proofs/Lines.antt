-- The pages above a page, as a part of an array of four. Assumes nothing.
use mathlib.Core.Path.{◌≡◌, refl, sym, ap, ◌∙◌}
use mathlib.Core.Bool.{Bool}
use mathlib.Core.List.{List, [], ◌∷◌, ◌++◌}
use Prim.Native.Nat.{ℕ, suc, ◌+◌, ◌<◌}
use native.Mathlib.Omega.{arith}
use lib.Dec.{eqb}
use lib.ListN.{length, take, set}
use lib.Seq.{set_split}
use Rattle.std.specs.List.{list_any}
use Rattle.store.specs.Part.{part, put}
use Rattle.mvcc.specs.Lists.{mem}
use Rattle.list_pages.specs.Steps.Table.{line_of, line_with}
use Rattle.tree.specs.declared.climb.Path.{Path}
use Rattle.store.proofs.PutLaws.{put_def, part_thru}

-- ---- a page among those above

mem_any : (p : ℕ) (l : List ℕ) → list_any (λ y. eqb y p) l ≡ mem p l
unfolding mem
mem_any p [] = refl
mem_any p (y ∷ ys) = rw (mem_any p ys)

pub above-is : (path : Path) (p : ℕ) {b : Bool} → b ≡ list_any (λ y. eqb y p) (take path.len path.pages) → b ≡ mem p (line_of path)
unfolding part
above-is path p e = e ∙ mem_any p (take path.len path.pages)

-- ---- a line by value

-- an element stored is one put there
set-put : (a v : ℕ) (s : List ℕ) → a < length s → set s a v ≡ put a (v ∷ []) s
set-put a v s h =
    let e : a + 1 ≡ suc a = omega arith in
    set_split s a v h ∙ sym (put_def a (v ∷ []) s ∙ rw e)

pub longer-done : (line : Path) (p : ℕ) → line.len < length line.pages
    → ◌≡◌ {A = Path} (record { pages = set line.pages line.len p; len = line.len + 1 }) (line_with line p)
longer-done line p h = rw (set-put line.len p line.pages h)

pub line-longer : (line r : Path) (p : ℕ) → line.len < length line.pages → r ≡ line_with line p → line_of r ≡ line_of line ++ (p ∷ [])
line-longer line r p h e =
    ap line_of e ∙ part_thru line.len (p ∷ []) line.pages (omega arith) (line.len + 1) refl
