-- What a page's view tells of its bytes, and the other way round. Assumes nothing.
use mathlib.Core.Path.{◌≡◌, refl, sym, ap, ◌∙◌}
use mathlib.Core.Bool.{Bool, true, false, ◌&&◌}
use mathlib.Core.List.{List, [], ◌∷◌, map}
use Prim.Native.Nat.{ℕ, zero, suc, ◌+◌, ◌≤◌}
use native.Mathlib.Omega.{arith}
use native.Mathlib.Numerals.{add-one}
use lib.Dec.{leb, eqb}
use lib.ListN.{length}
use borrow.Author.Tests.{eq-eqb, ne_eqb, le-leb, leb-true, eqb-true}
use Rattle.store.specs.Pick.{pick}
use Rattle.page.specs.Header.{node_type, parent_of, cell_count, next_leaf}
use Rattle.leaf.specs.Rows.{Row, rows}
use Rattle.inner.specs.Inner.{key_at, child_at, keys_from, children_from, keys_of, children_of}
use Rattle.theory_tree.specs.Pages.{Page, leaf_page, inner_page, no_page}
use Rattle.theory_tree.specs.View.{entries_from, entries_of, is_leaf_page, is_inner_page, said}
use Rattle.theory_tree.proofs.Entries.{par_of, next_of, head_of, rest_of, kids}
use Rattle.store.proofs.Tests.{and_both}

-- 1 a leaf, 2 an internal page, 0 neither
abbrev pub kind_of : Page → ℕ
kind_of (leaf_page par nxt rs) = 1
kind_of (inner_page par j h r) = 2
kind_of no_page = 0

abbrev pub leaf_rows : Page → List Row
leaf_rows (leaf_page par nxt rs) = rs
leaf_rows (inner_page par j h r) = []
leaf_rows no_page = []

pub record LeafSays (pg : List ℕ) (par nxt : ℕ) (rs : List Row) : Type 0 where
  pub type : node_type pg ≡ 1
  pub parent : parent_of pg ≡ par
  pub next : next_leaf pg ≡ nxt
  pub rows_are : rows pg ≡ rs
  pub count : length rs ≡ cell_count pg

pub record InnerSays (pg : List ℕ) (par j h : ℕ) (r : List (ℕ × ℕ)) : Type 0 where
  pub type : node_type pg ≡ 0
  pub parent : parent_of pg ≡ par
  pub next : next_leaf pg ≡ j
  pub low : 1 ≤ cell_count pg
  pub high : cell_count pg ≤ 510
  pub child : child_at pg 0 ≡ h
  pub entries : entries_of pg ≡ r

-- ---- both ways

pub leaf-said : (pg : List ℕ) → node_type pg ≡ 1 → length (rows pg) ≡ cell_count pg → said pg ≡ leaf_page (parent_of pg) (next_leaf pg) (rows pg)
unfolding said
leaf-said pg t n = rw (eq-eqb (node_type pg) 1 t, eq-eqb (length (rows pg)) (cell_count pg) n)

pub inner_said : (pg : List ℕ) → node_type pg ≡ 0 → 1 ≤ cell_count pg → cell_count pg ≤ 510
    → said pg ≡ inner_page (parent_of pg) (next_leaf pg) (child_at pg 0) (entries_of pg)
unfolding said
inner_said pg t low high =
    rw (ne_eqb (node_type pg) 1 (λ e. let z : ◌≡◌ {A = ℕ} 0 1 = sym t ∙ e in omega arith), eq-eqb (node_type pg) 0 t, le-leb 1 (cell_count pg) low, le-leb (cell_count pg) 510 high)

pub leaf_says : (pg : List ℕ) {par nxt : ℕ} {rs : List Row} → said pg ≡ leaf_page par nxt rs → LeafSays pg par nxt rs
unfolding said
leaf_says pg {par} {nxt} {rs} e = go (is_leaf_page pg) refl (is_inner_page pg) e
  where
    go : (a : Bool) → is_leaf_page pg ≡ a → (b : Bool)
        → pick a (leaf_page (parent_of pg) (next_leaf pg) (rows pg)) (pick b (inner_page (parent_of pg) (next_leaf pg) (child_at pg 0) (entries_of pg)) no_page) ≡ leaf_page par nxt rs
        → LeafSays pg par nxt rs
    go true h b q =
        record {
          type = eqb-true (node_type pg) 1 (and_both (eqb (node_type pg) 1) (eqb (length (rows pg)) (cell_count pg)) h).0;
          parent = ap par_of q;
          next = ap next_of q;
          rows_are = ap leaf_rows q;
          count = ap (λ (x : Page). length (leaf_rows x)) (sym q) ∙ eqb-true (length (rows pg)) (cell_count pg) (and_both (eqb (node_type pg) 1) (eqb (length (rows pg)) (cell_count pg)) h).1;
        }
    go false h true q = absurd (let z : ◌≡◌ {A = ℕ} 2 1 = ap kind_of q in omega arith)
    go false h false q = absurd (let z : ◌≡◌ {A = ℕ} 0 1 = ap kind_of q in omega arith)

pub inner_says : (pg : List ℕ) {par j h : ℕ} {r : List (ℕ × ℕ)} → said pg ≡ inner_page par j h r → InnerSays pg par j h r
unfolding said
inner_says pg {par} {j} {h} {r} e = go (is_leaf_page pg) (is_inner_page pg) refl e
  where
    go : (a b : Bool) → is_inner_page pg ≡ b
        → pick a (leaf_page (parent_of pg) (next_leaf pg) (rows pg)) (pick b (inner_page (parent_of pg) (next_leaf pg) (child_at pg 0) (entries_of pg)) no_page) ≡ inner_page par j h r
        → InnerSays pg par j h r
    go true b k q = absurd (let z : ◌≡◌ {A = ℕ} 1 2 = ap kind_of q in omega arith)
    go false false k q = absurd (let z : ◌≡◌ {A = ℕ} 0 2 = ap kind_of q in omega arith)
    go false true k q =
        let b = and_both (eqb (node_type pg) 0) (leb 1 (cell_count pg) && leb (cell_count pg) 510) k in
        let b' = and_both (leb 1 (cell_count pg)) (leb (cell_count pg) 510) b.1 in
        record {
          type = eqb-true (node_type pg) 0 b.0;
          parent = ap par_of q;
          next = ap next_of q;
          low = leb-true 1 (cell_count pg) b'.0;
          high = leb-true (cell_count pg) 510 b'.1;
          child = ap head_of q;
          entries = ap rest_of q;
        }

-- ---- its keys and children as lists

pub entries_length : (i n : ℕ) (pg : List ℕ) → length (entries_from pg i n) ≡ n
unfolding entries_from
entries_length i zero pg = refl
entries_length i (suc n) pg = ap suc (entries_length (i + 1) n pg)

pub entries_keys : (i n : ℕ) (pg : List ℕ) → map (λ (x : ℕ × ℕ). x.0) (entries_from pg i n) ≡ keys_from pg i n
unfolding entries_from keys_from
entries_keys i zero pg = refl
entries_keys i (suc n) pg = ap (λ ks. key_at pg i ∷ ks) (entries_keys (i + 1) n pg)

pub entries_children : (i n : ℕ) (pg : List ℕ) → map (λ (x : ℕ × ℕ). x.1) (entries_from pg i n) ≡ children_from pg (i + 1) n
unfolding entries_from children_from
entries_children i zero pg = refl
entries_children i (suc n) pg = ap (λ cs. child_at pg (i + 1) ∷ cs) (entries_children (i + 1) n pg)

-- ---- the keys and children of an internal page, by its entries

pub entries_of_lem : (pg : List ℕ) → keys_of pg ≡ map (λ (x : ℕ × ℕ). x.0) (entries_of pg)
entries_of_lem pg = sym (entries_keys 0 (cell_count pg) pg)

pub kids_of_lem : (pg : List ℕ) → children_of pg ≡ kids (child_at pg 0) (entries_of pg)
unfolding children_from
kids_of_lem pg = rw (add-one (cell_count pg)) (ap (λ (l : List ℕ). child_at pg 0 ∷ l) (sym (entries_children 0 (cell_count pg) pg)))
