-- A leaf that is written from rows, and one that is divided over two pages, as pages as values. Assumes nothing.
use mathlib.Core.Path.{◌≡◌, sym, ap, ap₂, ◌∙◌}
use mathlib.Core.List.{List, ◌++◌}
use Prim.Native.Nat.{ℕ, ◌+◌, ◌-◌, ◌≤◌, ◌<◌}
use native.Mathlib.Omega.{arith}
use lib.ListN.{length, length-replicate}
use Rattle.store.specs.Le.{AreBytes}
use Rattle.store.specs.Part.{part, zeros}
use Rattle.page.specs.Page.{page, set_page}
use Rattle.page.specs.Header.{node_type, parent_of, cell_count, next_leaf, with_node_type, with_next_leaf}
use Rattle.leaf.specs.Rows.{Row, AllFit, rows_bytes, write_rows}
use Rattle.leaf.specs.declared.place.Cut.{Cut}
use Rattle.leaf_divide.specs.Divide.{left_leaf, right_leaf, divided}
use Rattle.tree_grow.specs.Steps.Safe.{There}
use Rattle.theory_tree.specs.Pages.{Page, Pages, leaf_page, with_page}
use Rattle.theory_tree.specs.View.{said, view}
use Rattle.store.proofs.LeLaws.{length-put_at, le_at_lt, le_at-put_at, le_at-put_at_above}
use Rattle.page.proofs.PageLaws.{length-page, length-set_page}
use Rattle.leaf.proofs.Bytes.{bytes-page}
use Rattle.leaf.proofs.RowFacts.{rows_are_read, rows_few}
use Rattle.leaf_divide.proofs.DivideFacts.{divide_divides}
use Rattle.theory_tree.proofs.Says.{leaf-said, leaf_says}
use Rattle.theory_stores.proofs.Keeping.{zero_number, bytes-append, bytes-field, bytes-pad, bytes-set-page}
use Rattle.theory_stores.proofs.Making.{made_long, made_count, made_below, length_headed, headed_field}
use Rattle.theory_stores.proofs.Viewing.{view-page, view-set, said-next}
use Rattle.store.proofs.PartLaws.{bytes-part}

-- ---- rows written

module _ (rs : List Row) (pg : List ℕ) (len : length pg ≡ 4096) (few : length (rows_bytes rs) ≤ 4084) where
  fits : length (part 0 12 pg ++ rows_bytes rs) ≤ 4096
  fits = omega (arith, length_headed pg (rows_bytes rs) len)

  pub rows_long : length (write_rows rs pg) ≡ 4096
  unfolding write_rows
  rows_long = made_long (length rs) (part 0 12 pg ++ rows_bytes rs) fits

  pub rows-count : cell_count (write_rows rs pg) ≡ length rs
  unfolding write_rows
  rows-count = made_count (length rs) (part 0 12 pg ++ rows_bytes rs) fits (omega (arith, rows_few rs))

  pub rows_parent : parent_of (write_rows rs pg) ≡ parent_of pg
  unfolding write_rows
  rows_parent =
      made_below (length rs) (part 0 12 pg ++ rows_bytes rs) fits 4 2 (omega arith) (omega (arith, length_headed pg (rows_bytes rs) len))
      ∙ headed_field pg (rows_bytes rs) len 4 2 (omega arith)

pub said-rows : (rs : List Row) (pg : List ℕ) → length pg ≡ 4096 → node_type pg ≡ 1 → AllFit rs → length (rows_bytes rs) ≤ 4084
    → said (write_rows rs pg) ≡ leaf_page (parent_of pg) (next_leaf pg) rs
said-rows rs pg len type fit few =
    let r = rows_are_read rs pg len fit few in
    let n = rows-count rs pg len few in
    leaf-said (write_rows rs pg) (r.1 ∙ type) (ap length r.0 ∙ sym n) ∙ rw (r.0, rows_parent rs pg len few, r.2)

-- ---- a leaf divided

-- the right side starts as a leaf of zeros
abbrev blank : List ℕ
blank = with_node_type 1 (zeros 4096)

blank_long : length blank ≡ 4096
blank_long = length-put_at 1 (zeros 4096) 0 1 ∙ length-replicate {A = ℕ} 4096 0

said_blank : (rs : List Row) → AllFit rs → length (rows_bytes rs) ≤ 4084 → said (write_rows rs blank) ≡ leaf_page 0 0 rs
said_blank rs fit few =
    let zs : length (zeros 4096) ≡ 4096 = length-replicate {A = ℕ} 4096 0 in
    said-rows rs blank blank_long (le_at-put_at 1 (zeros 4096) 0 1 (omega arith) (omega arith)) fit few
    ∙ rw (le_at-put_at_above 4 1 (zeros 4096) 0 1 2 (omega arith), le_at-put_at_above 4 1 (zeros 4096) 0 1 8 (omega arith), zero_number 4 4096 2, zero_number 4 4096 8)

-- where page p of s is divided between left and right, and page q is fresh
abbrev pub cut_after : List Row → Cut
cut_after left = record { cells = length left; bytes = length (rows_bytes left) }

abbrev pub divided_rows : (p q : ℕ) → (left right : List Row) → List ℕ → List ℕ
divided_rows p q left right s = divided p q (length (left ++ right)) (cut_after left) (part 0 12 (page s p) ++ rows_bytes (left ++ right)) s

module _ (p q : ℕ) (s : List ℕ) (left right : List Row) (here : There p s) (there : There q s) (fresh : page s q ≡ zeros 4096)
    (few-left : length (rows_bytes left) ≤ 4084) (few-right : length (rows_bytes right) ≤ 4084) where
  len : length (page s p) ≡ 4096
  len = length-page p s here

  abbrev v : List ℕ
  v = part 0 12 (page s p) ++ rows_bytes (left ++ right)

  left_is : left_leaf q (cut_after left) v ≡ with_next_leaf q (write_rows left (page s p))
  left_is = (divide_divides (page s p) left right q 0 len few-left few-right).0

  right_is : (next : ℕ) → right_leaf next (length (left ++ right)) (cut_after left) v (page s q) ≡ with_next_leaf next (write_rows right blank)
  right_is next = rw fresh (divide_divides (page s p) left right q next len few-left few-right).1

  left-long : length (left_leaf q (cut_after left) v) ≡ 4096
  left-long = rw left_is (length-put_at 4 (write_rows left (page s p)) 8 q ∙ rows_long left (page s p) len few-left)

  right-long : (next : ℕ) → length (right_leaf next (length (left ++ right)) (cut_after left) v (page s q)) ≡ 4096
  right-long next = rw (right_is next) (length-put_at 4 (write_rows right blank) 8 next ∙ rows_long right blank blank_long few-right)

  beside : length (set_page q (right_leaf (next_leaf (page s p)) (length (left ++ right)) (cut_after left) v (page s q)) s) ≡ length s
  beside = length-set_page q (right_leaf (next_leaf (page s p)) (length (left ++ right)) (cut_after left) v (page s q)) s there (right-long (next_leaf (page s p)))

  pub divided-long : length (divided_rows p q left right s) ≡ length s
  unfolding divided
  divided-long = length-set_page p (left_leaf q (cut_after left) v) (set_page q _ s) (rw beside here) left-long ∙ beside

  pub view-divided : (par next : ℕ) (old : List Row) → AreBytes s → q < 4294967296 → view s p ≡ leaf_page par next old → AllFit left → AllFit right
      → view (divided_rows p q left right s) ≡ with_page (with_page (view s) q (leaf_page 0 next right)) p (leaf_page par q left)
  unfolding divided
  view-divided par next old B low e fit_left fit_right =
      let l = leaf_says (page s p) (sym (view-page p s) ∙ e) in
      let small : next_leaf (page s p) < 4294967296 = le_at_lt 4 (page s p) 8 (bytes-page p s B) in
      let x : said (left_leaf q (cut_after left) v) ≡ leaf_page par q left =
      rw left_is
      (said-next q (write_rows left (page s p)) par next left (rows_long left (page s p) len few-left) low
      (said-rows left (page s p) len l.type fit_left few-left ∙ rw (l.parent, l.next))) in
      let y : said (right_leaf (next_leaf (page s p)) (length (left ++ right)) (cut_after left) v (page s q)) ≡ leaf_page 0 next right =
      rw (right_is (next_leaf (page s p)))
      (said-next (next_leaf (page s p)) (write_rows right blank) 0 0 right (rows_long right blank blank_long few-right) small (said_blank right fit_right few-right)
      ∙ rw l.next) in
      view-set p (left_leaf q (cut_after left) v) (set_page q _ s) (rw beside here) left-long
      ∙ ap₂ (λ (w : Pages) (z : Page). with_page w p z) (view-set q _ s there (right-long (next_leaf (page s p))) ∙ ap (with_page (view s) q) y) x

-- v is of bytes where the rows' data is
pub bytes-divided : (p q n : ℕ) (cut : Cut) (v s : List ℕ) → AreBytes v → AreBytes s → AreBytes (divided p q n cut v s)
unfolding divided left_leaf right_leaf
bytes-divided p q n cut v s h B =
    let k = 12 + cut.bytes in
    bytes-set-page p _ _
    (bytes-field 4 _ 8 q (bytes-field 2 _ 6 cut.cells (bytes-pad 4096 (part 0 k v) (bytes-part 0 k v h))))
    (bytes-set-page q _ s
    (bytes-field 4 _ 8 (next_leaf (page s p)) (bytes-field 2 _ 6 (n - cut.cells) (bytes-pad 4096 _
    (bytes-append (part 0 12 (with_node_type 1 (page s q))) (part k (length v - k) v)
    (bytes-part 0 12 _ (bytes-field 1 (page s q) 0 1 (bytes-page q s B)))
    (bytes-part k (length v - k) v h)))))
    B)
