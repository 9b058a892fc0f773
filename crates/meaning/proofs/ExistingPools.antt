-- Pools that are built page by page, by the laws of stores and not by computing on their bytes: each page says what it was
-- made to say, and a pool is no BadPool. Assumes nothing.
use Rattle.std.proofs.Common.{None}
use mathlib.Core.Path.{◌≡◌, refl, sym, ap, ◌∙◌}
use mathlib.Core.List.{List, [], ◌∷◌, ◌++◌}
use Prim.Native.Nat.{ℕ, ◌+◌, ◌*◌, ◌/◌, ◌≤◌, ◌<◌}
use native.Mathlib.Omega.{arith}
use lib.ListN.{length, length-replicate}
use borrow.Author.Tests.{le-leb}
use Rattle.store.specs.Le.{AreBytes}
use Rattle.store.specs.Part.{part, pad, zeros}
use Rattle.page.specs.Header.{node_type, parent_of, next_leaf, with_node_type, with_is_root, with_parent, with_next_leaf}
use Rattle.page.specs.Key.{flip}
use Rattle.page.specs.Page.{set_page}
use Rattle.page.specs.declared.pool.State.{State}
use Rattle.leaf.specs.Rows.{Row, AllFit, row_bytes, rows_bytes, write_rows}
use Rattle.inner_edit.specs.Edit.{top_page}
use Rattle.page.specs.Pool.{grown}
use Rattle.theory_tree.specs.Pages.{Page, leaf_page, inner_page, Pages, with_page}
use Rattle.theory_tree.specs.View.{said, view}
use Rattle.theory_tree.specs.Shape.{Shape, WellFormed}
use Rattle.meaning.specs.Trees.{TreeIn}
use Rattle.meaning.specs.Meant.{live_row}
use Rattle.store.proofs.LeLaws.{length-put_at, le_at-put_at, le_at-put_at_above}
use Rattle.page.proofs.PageLaws.{length-set_page, length-zeros}
use Rattle.page.proofs.PoolLaws.{pool_in_use}
use Rattle.leaf.proofs.Rowing.{length-rows}
use Rattle.theory_tree.proofs.Workers.{set_par}
use Rattle.theory_stores.proofs.Keeping.{bytes_more, bytes-none, bytes-append, bytes-zeros, bytes-field, bytes-pad, bytes-set-page, bytes-cell}
use Rattle.theory_stores.proofs.Viewing.{view-set, said_parent, said-root}
use Rattle.theory_stores.proofs.Rowing.{rows_long, said-rows}
use Rattle.theory_stores.proofs.Entering.{top_long, said_top}
use Rattle.store.proofs.PartLaws.{bytes-part}

-- ---- pages

-- a page of bytes that says x
pub record Made (x : Page) : Type 0 where
  pub bytes : List ℕ
  pub long : length bytes ≡ 4096
  pub are : AreBytes bytes
  pub says : said bytes ≡ x

-- the header of a leaf over zeros
module _ (par nxt : ℕ) (p : par < 4294967296) (n : nxt < 4294967296) where
  abbrev linked : List ℕ
  linked = with_next_leaf nxt (zeros 4096)

  abbrev under : List ℕ
  under = with_parent par linked

  abbrev header : List ℕ
  header = with_node_type 1 under

  header_long : length header ≡ 4096
  header_long = rw (length-put_at, length-put_at, length-put_at) length-zeros

  header_bytes : AreBytes header
  header_bytes = bytes-field 1 under 0 1 (bytes-field 4 linked 2 par (bytes-field 4 (zeros 4096) 8 nxt (bytes-zeros 4096)))

  header_type : node_type header ≡ 1
  header_type = le_at-put_at 1 under 0 1 (rw (length-put_at, length-put_at) (omega (arith, length-zeros))) (omega arith)

  header_parent : parent_of header ≡ par
  header_parent = le_at-put_at_above 4 1 under 0 1 2 (omega arith) ∙ le_at-put_at 4 linked 2 par (rw length-put_at (omega (arith, length-zeros))) p

  header_next : next_leaf header ≡ nxt
  header_next =
      le_at-put_at_above 4 1 under 0 1 8 (omega arith) ∙ le_at-put_at_above 4 4 linked 2 par 8 (omega arith) ∙ le_at-put_at 4 (zeros 4096) 8 nxt (omega (arith, length-zeros)) n

  -- a leaf with these rows; top is its is-root byte
  pub leaf_made : (top : ℕ) (rs : List Row) → AllFit rs → AreBytes (rows_bytes rs) → length (rows_bytes rs) ≤ 4084 → Made (leaf_page par nxt rs)
  unfolding write_rows
  leaf_made top rs fit are few =
      record {
        bytes = with_is_root top (write_rows rs header);
        long = length-put_at 1 (write_rows rs header) 1 top ∙ rows_long rs header header_long few;
        are = bytes-field 1 (write_rows rs header) 1 top
            (bytes-field 2 (pad 4096 (part 0 12 header ++ rows_bytes rs)) 6 (length rs)
            (bytes-pad 4096 (part 0 12 header ++ rows_bytes rs) (bytes-append (part 0 12 header) (rows_bytes rs) (bytes-part 0 12 header header_bytes) are)));
        says = said-root top (write_rows rs header) ∙ said-rows rs header header_long header_type fit few ∙ rw (header_parent, header_next);
      }

bytes_over : (left sep right : ℕ) → AreBytes (top_page left sep right (zeros 4096))
unfolding top_page
bytes_over left sep right =
    bytes-field 4 _ 20 right (bytes-field 4 _ 16 (flip sep) (bytes-field 4 _ 12 left (bytes-field 2 _ 6 1 (bytes-field 1 _ 1 1 (bytes-zeros 4096)))))

-- an internal page over two children
pub inner_made : (top par left sep right : ℕ) → par < 4294967296 → left < 4294967296 → sep < 4294967296 → right < 4294967296
    → Made (inner_page par 0 left ((sep, right) ∷ []))
inner_made top par left sep right p l s r =
    record {
      bytes = with_is_root top (with_parent par over);
      long = rw (length-put_at, length-put_at) over_long;
      are = bytes-field 1 (with_parent par over) 1 top (bytes-field 4 over 2 par over_bytes);
      says = said-root top (with_parent par over) ∙ said_parent par over (over_bytes, over_long) p ∙ ap (set_par par) (said_top left sep right l s r);
    }
  where
    over : List ℕ
    over = top_page left sep right (zeros 4096)

    over_long : length over ≡ 4096
    over_long = top_long left sep right (zeros 4096) length-zeros

    over_bytes : AreBytes over
    over_bytes = bytes_over left sep right

-- ---- a leaf of one row

-- a version of two bytes, with the creator 5
abbrev pub row_for : ℕ → Row
row_for key = live_row key 5 (1 ∷ 2 ∷ [])

row_bytes_lem : (key : ℕ) → AreBytes (rows_bytes (row_for key ∷ []))
unfolding rows_bytes
row_bytes_lem key =
    let body : AreBytes (1 ∷ 2 ∷ []) = bytes_more 1 (2 ∷ []) (omega arith) (bytes_more 2 [] (omega arith) bytes-none) in
    bytes-append (row_bytes (row_for key)) [] (bytes-cell key 5 None None (1 ∷ 2 ∷ []) body) bytes-none

row_few : (key : ℕ) → length (rows_bytes (row_for key ∷ [])) ≤ 4084
unfolding rows_bytes
row_few key = omega (arith, length-rows (row_for key) [])

pub row_made : (top par nxt key : ℕ) → par < 4294967296 → nxt < 4294967296 → key < 4294967296 → Made (leaf_page par nxt (row_for key ∷ []))
row_made top par nxt key p n k =
    leaf_made par nxt p n top (row_for key ∷ []) (record { key = k; creator = omega arith; stamp = tt; pointer = tt; body = omega arith }, tt) (row_bytes_lem key)
    (row_few key)

-- ---- pools

-- n pages that hold w
pub record Pool (n : ℕ) (w : Pages) : Type 0 where
  pub bytes : List ℕ
  pub long : length bytes ≡ n * 4096
  pub are : AreBytes bytes
  pub says : view bytes ≡ w

pub blank_pool : (n : ℕ) → Pool n (view (zeros (n * 4096)))
blank_pool n = record { bytes = zeros (n * 4096); long = length-replicate {A = ℕ} (n * 4096) 0; are = bytes-zeros (n * 4096); says = refl }

pub with_made : {n : ℕ} {w : Pages} {x : Page} (p : ℕ) → p < n → Made x → Pool n w → Pool n (with_page w p x)
with_made {n} {w} {x} p h m s =
    let there : p * 4096 + 4096 ≤ length s.bytes = omega (arith, s.long) in
    record {
      bytes = set_page p m.bytes s.bytes;
      long = length-set_page p m.bytes s.bytes there m.long ∙ s.long;
      are = bytes-set-page p m.bytes s.bytes m.are s.are;
      says = view-set p m.bytes s.bytes there m.long ∙ rw (s.says, m.says);
    }

-- a tree in such a pool
pub pool-tree : {n : ℕ} {w : Pages} (s : Pool n w) (st : State) (t : Shape) → 1 ≤ n → n ≤ 65536 → st.used ≤ n → WellFormed w st.root st.used t
    → TreeIn (grown s.bytes st) t
pool-tree {n} {w} s st t some few used f =
    let l = s.long in
    let whole : length s.bytes / 4096 ≡ n = omega arith in
    record {
      bytes = s.are;
      good = sym (pool_in_use s.bytes st (omega arith) (omega arith) (omega arith)) ∙ le-leb st.used (length s.bytes / 4096) (omega arith);
      formed = rw s.says f;
    }
