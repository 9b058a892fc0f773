-- What is proved of internal pages: the edits say on lists of keys and children what section 5 says.
use Rattle.std.specs.Prelude.{◌≡◌, List, [], ◌∷◌, ◌++◌, ℕ, ◌+◌, ◌≤◌, ◌<◌, length, take, drop, get_or}
use Rattle.store.specs.Le.{AreBytes}
use Rattle.store.specs.Part.{zeros}
use Rattle.page.specs.Header.{cell_count, next_leaf}
use Rattle.inner.specs.Inner.{keys_of, children_of, max_keys}
use Rattle.inner.specs.Route.{search_route, insert_route}
use Rattle.inner_edit.specs.Edit.{with_entry, left_half, middle_key, right_half, top_page, kept_keys}

-- x put in at place i
abbrev pub insert_at : ℕ → ℕ → List ℕ → List ℕ
insert_at i x xs = take i xs ++ (x ∷ drop i xs)

-- a page as it is read: 4096 bytes
abbrev pub IsPage : List ℕ → Type 0
IsPage pg = AreBytes pg × (length pg ≡ 4096)

-- a pair that is entered after child i stands there, and bytes 8 to 11 stay
abbrev pub EntryEnters : Type 0
EntryEnters =
    (pg : List ℕ) (i sep child : ℕ) → IsPage pg → sep < 4294967296 → child < 4294967296 → i ≤ cell_count pg → cell_count pg < max_keys
    → (keys_of (with_entry i sep child pg) ≡ insert_at i sep (keys_of pg))
    × (children_of (with_entry i sep child pg) ≡ insert_at (i + 1) child (children_of pg))
    × (next_leaf (with_entry i sep child pg) ≡ next_leaf pg)

-- P3: 510 keys fit, 511 do not; then 255 stay, the middle goes up, 255 go right
abbrev pub HalvesDivide : Type 0
HalvesDivide =
    (pg : List ℕ) (i sep child : ℕ) → IsPage pg → sep < 4294967296 → child < 4294967296 → i ≤ max_keys → cell_count pg ≡ max_keys
    → (keys_of (left_half i sep child pg) ≡ take kept_keys (insert_at i sep (keys_of pg)))
    × (middle_key i sep child pg ≡ get_or (insert_at i sep (keys_of pg)) kept_keys 0)
    × (keys_of (right_half i sep child pg (zeros 4096)) ≡ drop 256 (insert_at i sep (keys_of pg)))
    × (children_of (left_half i sep child pg) ≡ take 256 (insert_at (i + 1) child (children_of pg)))
    × (children_of (right_half i sep child pg (zeros 4096)) ≡ drop 256 (insert_at (i + 1) child (children_of pg)))

abbrev pub TopHasTwo : Type 0
TopHasTwo =
    (left sep right : ℕ) → left < 4294967296 → sep < 4294967296 → right < 4294967296
    → (keys_of (top_page left sep right (zeros 4096)) ≡ sep ∷ []) × (children_of (top_page left sep right (zeros 4096)) ≡ left ∷ right ∷ [])

-- on a separator equal to the key search goes left and insertion right
abbrev pub EqualParts : Type 0
EqualParts = (key : ℕ) (ks : List ℕ) → (search_route key (key ∷ ks) ≡ 0) × (1 ≤ insert_route key (key ∷ ks))
