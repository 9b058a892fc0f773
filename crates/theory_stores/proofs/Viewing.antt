-- Stores of whole pages and of header fields as stores of pages as values. Assumes nothing.
use mathlib.Core.Path.{◌≡◌, refl, sym, ap, ◌∙◌, fun_ext}
use mathlib.Core.Bool.{Bool, true, false, ◌&&◌}
use mathlib.Core.List.{List, [], ◌∷◌}
use Prim.Native.Nat.{ℕ, ◌+◌, ◌*◌, ◌≤◌, ◌<◌}
use native.Mathlib.Omega.{arith}
use borrow.Author.Tests.{eqb-true, eqb-false}
use lib.Dec.{leb, eqb}
use lib.ListN.{length, length-replicate}
use Rattle.store.specs.Pick.{pick}
use Rattle.store.specs.Part.{zeros}
use Rattle.page.specs.Page.{page, set_page}
use Rattle.page.specs.Header.{node_type, parent_of, cell_count, next_leaf, with_is_root, with_parent, with_next_leaf}
use Rattle.page.specs.Pool.{with_fresh, next_page}
use Rattle.page.specs.declared.pool.State.{State}
use Rattle.leaf.specs.Rows.{Row, rows}
use Rattle.inner.specs.Inner.{child_at}
use Rattle.inner_edit.specs.Facts.{IsPage}
use Rattle.tree_grow.specs.Grow.{linked, linked_both}
use Rattle.tree_grow.specs.Steps.Safe.{There}
use Rattle.theory_tree.specs.Pages.{Page, leaf_page, inner_page, no_page, Pages, with_page}
use Rattle.theory_tree.specs.View.{entries_of, said, view}
use Rattle.store.proofs.LeLaws.{length-put_at, le_at-put_at, le_at-put_at-below, le_at-put_at_above}
use Rattle.page.proofs.PageLaws.{length-page, page-set_page, page-set_page-other}
use Rattle.tree_grow.proofs.Likeness.{like_linked, like_there}
use Rattle.theory_tree.proofs.Workers.{set_par, reparent}
use Rattle.theory_tree.proofs.Says.{leaf-said, leaf_says}
use Rattle.theory_stores.proofs.Keeping.{zero_number}
use Rattle.theory_stores.proofs.Tails.{Tail, tail_field, tail_rows, tail_child, tail_entries}

-- ---- a page in the pool

pub view-page : (p : ℕ) (s : List ℕ) → view s p ≡ said (page s p)
unfolding view
view-page p s = refl

pub view-set : (p : ℕ) (x s : List ℕ) → p * 4096 + 4096 ≤ length s → length x ≡ 4096 → view (set_page p x s) ≡ with_page (view s) p (said x)
unfolding view with_page
view-set p x s fits len = fun_ext (λ q. by_page q (eqb q p) refl)
  where
    by_page : (q : ℕ) (b : Bool) → eqb q p ≡ b → said (page (set_page p x s) q) ≡ pick b (said x) (said (page s q))
    by_page q true e = ap said (ap (λ (k : ℕ). page (set_page p x s) k) (eqb-true q p e) ∙ page-set_page p x s fits len)
    by_page q false e = ap said (page-set_page-other p x s fits len q (eqb-false q p e))

-- a page put in twice
-- ---- what a page says, by its fields

unfoldable shaped : (kind count par nxt h : ℕ) → List Row → List (ℕ × ℕ) → Page
shaped kind count par nxt h rs es =
    pick (eqb kind 1 && eqb (length rs) count) (leaf_page par nxt rs) (pick (eqb kind 0 && (leb 1 count && leb count 510)) (inner_page par nxt h es) no_page)

said_shaped : (pg : List ℕ) → said pg ≡ shaped (node_type pg) (cell_count pg) (parent_of pg) (next_leaf pg) (child_at pg 0) (rows pg) (entries_of pg)
unfolding said shaped
said_shaped pg = refl

shaped_parent : (q kind count par nxt h : ℕ) (rs : List Row) (es : List (ℕ × ℕ)) → shaped kind count q nxt h rs es ≡ set_par q (shaped kind count par nxt h rs es)
unfolding shaped
shaped_parent q kind count par nxt h rs es = by_kind (eqb kind 1 && eqb (length rs) count) (eqb kind 0 && (leb 1 count && leb count 510))
  where
    by_kind : (a b : Bool) → pick a (leaf_page q nxt rs) (pick b (inner_page q nxt h es) no_page)
        ≡ set_par q (pick a (leaf_page par nxt rs) (pick b (inner_page par nxt h es) no_page))
    by_kind true b = refl
    by_kind false true = refl
    by_kind false false = refl

-- a header field is stored that is neither the node type nor the count
said_header : (x pg : List ℕ) → Tail 12 x pg → node_type x ≡ node_type pg → cell_count x ≡ cell_count pg
    → said x ≡ shaped (node_type pg) (cell_count pg) (parent_of x) (next_leaf x) (child_at pg 0) (rows pg) (entries_of pg)
said_header x pg same kind count =
    let r : rows x ≡ rows pg = tail_rows x pg same count in
    let e : entries_of x ≡ entries_of pg = tail_entries x pg same count in
    let c : child_at x 0 ≡ child_at pg 0 = tail_child x pg same 0 in
    said_shaped x ∙ rw (r, e, c, kind, count)

-- ---- header fields

parent_said : (q : ℕ) (pg : List ℕ) → length pg ≡ 4096 → q < 4294967296 → said (with_parent q pg) ≡ set_par q (said pg)
parent_said q pg len h =
    said_header (with_parent q pg) pg (tail_field 4 pg 2 q (omega arith)) (le_at-put_at-below 1 4 pg 2 q 0 (omega arith)) (le_at-put_at_above 2 4 pg 2 q 6 (omega arith))
    ∙ rw (le_at-put_at 4 pg 2 q (omega arith) h, le_at-put_at_above 4 4 pg 2 q 8 (omega arith))
    (shaped_parent q (node_type pg) (cell_count pg) (parent_of pg) (next_leaf pg) (child_at pg 0) (rows pg) (entries_of pg))
    ∙ ap (set_par q) (sym (said_shaped pg))

pub said_parent : (q : ℕ) (pg : List ℕ) → IsPage pg → q < 4294967296 → said (with_parent q pg) ≡ set_par q (said pg)
said_parent q pg is h = parent_said q pg is.1 h

pub said-root : (v : ℕ) (pg : List ℕ) → said (with_is_root v pg) ≡ said pg
said-root v pg =
    said_header (with_is_root v pg) pg (tail_field 1 pg 1 v (omega arith)) (le_at-put_at-below 1 1 pg 1 v 0 (omega arith)) (le_at-put_at_above 2 1 pg 1 v 6 (omega arith))
    ∙ rw (le_at-put_at_above 4 1 pg 1 v 2 (omega arith), le_at-put_at_above 4 1 pg 1 v 8 (omega arith)) (sym (said_shaped pg))

pub said-next : (q : ℕ) (pg : List ℕ) (par nxt : ℕ) (rs : List Row) → length pg ≡ 4096 → q < 4294967296 → said pg ≡ leaf_page par nxt rs
    → said (with_next_leaf q pg) ≡ leaf_page par q rs
said-next q pg par nxt rs len h e =
    let l = leaf_says pg e in
    let x = with_next_leaf q pg in
    let count : cell_count x ≡ cell_count pg = le_at-put_at-below 2 4 pg 8 q 6 (omega arith) in
    let r : rows x ≡ rs = tail_rows x pg (tail_field 4 pg 8 q (omega arith)) count ∙ l.rows_are in
    let p : parent_of x ≡ par = le_at-put_at-below 4 4 pg 8 q 2 (omega arith) ∙ l.parent in
    let n : next_leaf x ≡ q = le_at-put_at 4 pg 8 q (omega arith) h in
    leaf-said x (le_at-put_at-below 1 4 pg 8 q 0 (omega arith) ∙ l.type) (rw (r, count) l.count) ∙ rw (r, p, n)

-- ---- parent links in the pool

pub view-linked : (c q : ℕ) (s : List ℕ) → There c s → q < 4294967296 → view (linked c q s) ≡ with_page (view s) c (set_par q (view s c))
view-linked c q s h l =
    view-set c (with_parent q (page s c)) s h (length-put_at 4 (page s c) 2 q ∙ length-page c s h)
    ∙ ap (with_page (view s) c) (parent_said q (page s c) (length-page c s h) l ∙ ap (set_par q) (sym (view-page c s)))

pub view-linked_both : (old new q : ℕ) (s : List ℕ) → There old s → There new s → q < 4294967296
    → view (linked_both old new q s) ≡ reparent q (old ∷ new ∷ []) (view s)
view-linked_both old new q s h k l =
    view-linked new q (linked old q s) (like_there new (like_linked old q s h) k) l
    ∙ ap (λ (w : Pages). with_page w new (set_par q (w new))) (view-linked old q s h l)

-- ---- a fresh page

pub said-zeros : said (zeros 4096) ≡ no_page
unfolding shaped
said-zeros = said_shaped (zeros 4096) ∙ rw (zero_number 1 4096 0, zero_number 2 4096 6)

pub view_fresh : (s : List ℕ) (st : State) → There st.used s → view (with_fresh s st) ≡ with_page (view s) st.used no_page
unfolding with_fresh next_page
view_fresh s st h = view-set st.used (zeros 4096) s h (length-replicate {A = ℕ} 4096 0) ∙ ap (with_page (view s) st.used) said-zeros
