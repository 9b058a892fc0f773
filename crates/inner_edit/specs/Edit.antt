-- Edits of internal pages (document 01, section 5; btree.rs, insert_in_parent and split_internal): a separator and
-- child entered, the page with 511 keys divided, a new top, and parent links. "Writing an internal page zeroes bytes 12
-- to 4095 .. and sets the count; bytes 8 to 11 stay" (section 2).
use Rattle.std.specs.Prelude.{List, ◌++◌, ℕ, zero, suc, ◌+◌, ◌*◌}
use Rattle.store.specs.Le.{bytes_le, put_at}
use Rattle.store.specs.Part.{part, pad, spliced}
use Rattle.page.specs.Page.{page, set_page}
use Rattle.page.specs.Header.{with_is_root, with_parent, with_count, cell_count, header_size}
use Rattle.page.specs.Key.{flip, key_bytes, rank_at}
use Rattle.inner.specs.Inner.{child_at}

-- a separator and the child right of it
abbrev pub pair_bytes : (sep child : ℕ) → List ℕ
pair_bytes sep child = key_bytes sep ++ bytes_le 4 child

-- the page's bytes with that pair directly after child i
unfoldable pub entered : (i sep child : ℕ) → List ℕ → List ℕ
entered i sep child pg = spliced (16 + 8 * i) (16 + 8 * i) (16 + 8 * cell_count pg) (pair_bytes sep child) pg

-- the page with the pair entered; it has room for it
unfoldable pub with_entry : (i sep child : ℕ) → List ℕ → List ℕ
with_entry i sep child pg = with_count (cell_count pg + 1) (pad 4096 (entered i sep child pg))

-- 255 keys and 256 children stay and end at byte 2056; the middle key stands there; 2044 bytes from 2060 on go right
abbrev pub kept_keys : ℕ
kept_keys = 255

abbrev pub kept_end : ℕ
kept_end = 2056

abbrev pub moved_start : ℕ
moved_start = 2060

abbrev pub moved_bytes : ℕ
moved_bytes = 2044

-- "An internal page with 511 keys keeps 255 left, sends the middle up, and has 255 right": of a page with 510 keys and a
-- pair entered after child i
unfoldable pub left_half : (i sep child : ℕ) → List ℕ → List ℕ
left_half i sep child pg = with_count kept_keys (pad 4096 (part 0 kept_end (entered i sep child pg)))

unfoldable pub middle_key : (i sep child : ℕ) → List ℕ → ℕ
middle_key i sep child pg = rank_at (entered i sep child pg) kept_end

-- fresh is the new page's bytes: zeros
unfoldable pub right_half : (i sep child : ℕ) → List ℕ → List ℕ → List ℕ
right_half i sep child pg fresh = with_count kept_keys (pad 4096 (part 0 header_size fresh ++ part moved_start moved_bytes (entered i sep child pg)))

-- the new top over two children, in a page of zeros
unfoldable pub top_page : (left sep right : ℕ) → List ℕ → List ℕ
top_page left sep right pg = put_at 4 (put_at 4 (put_at 4 (with_count 1 (with_is_root 1 pg)) 12 left) 16 (flip sep)) 20 right

-- children i, i + 1, .., i + n - 1 of page p get the parent q, in that order
unfoldable pub adopted : (n i p q : ℕ) → List ℕ → List ℕ
adopted zero i p q s = s
adopted (suc n) i p q s = adopted n (i + 1) p q (set_page (child_at (page s p) i) (with_parent q (page s (child_at (page s p) i))) s)
