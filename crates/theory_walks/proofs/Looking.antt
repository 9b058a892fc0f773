-- What lookup and the conflict test answer on a tree: the version that is chosen among all of the chain, where it stands,
-- and whether some version of the key meets the test. Assumes nothing.
use Rattle.std.proofs.Common.{Some, None, Ok, Option}
use mathlib.Core.Path.{◌≡◌, refl, sym, ap, ◌∙◌, subst}
use mathlib.Core.Bool.{Bool, true, false, ◌&&◌, ◌||◌, or_assoc, or-false}
use mathlib.Core.List.{List, [], ◌∷◌, ◌++◌, append-nil, append_assoc, map, map-append}
use mathlib.Core.Logic.{◌⊎◌, inl, inr}
use Prim.Native.Nat.{ℕ, ◌<◌}
use native.Mathlib.Omega.{arith}
use lib.Dec.{ltb, eqb}
use borrow.Author.Tests.{lt-ltb, le-ltb, ltb-true, ltb-false, eqb-true}
use Rattle.store.specs.Pick.{pick}
use Rattle.page.specs.Page.{page}
use Rattle.row.specs.declared.Cell.{Cell}
use Rattle.mvcc.specs.Rules.{visible}
use Rattle.leaf.specs.Cells.{cells, fold_cells, judge_leaf, has_larger}
use Rattle.leaf.specs.Find.{later, newest, find_leaf, test_of, joined, test_leaf, Best}
use Rattle.leaf.specs.Rows.{Row, row_of, rows, of_key}
use Rattle.tree.specs.Chain.{stop, go, seen_best, look_best, best_along, seen_test, look_test, test_along}
use Rattle.tree.specs.Lookup.{best_in_tree, test_in_tree}
use Rattle.theory_tree.specs.View.{view}
use Rattle.theory_tree.specs.Shape.{Shape, leaf, chain, All, WellFormed}
use Rattle.theory_tree.specs.Versions.{arrivals, when, better, merge, best}
use Rattle.mvcc.specs.Snapshot.{Snapshot}
use Rattle.theory_tree.proofs.Workers.{flat, larger}
use Rattle.theory_tree.proofs.Contexts.{Ctx, top, plug, pre_c, post_c, Loc}
use Rattle.theory_tree.proofs.Lists.{all_app}
use Rattle.theory_tree.proofs.Zip.{plug_chain}
use Rattle.theory_tree.proofs.Abs.{some?}
use Rattle.theory_tree.proofs.Walk.{locs, cellss, locs_plug}
use Rattle.theory_walks.proofs.Descending.{descend_search}
use Rattle.theory_walks.proofs.Walking.{AtLeaf, InTree, at_leaves, Trailed, locs_trailed, locs_chain, gather, gather_chain, walk-key}
use Rattle.store.proofs.Tests.{and_both}

-- ---- a leaf's cells and its rows

larger_from : (key : ℕ) (pg : List ℕ) (b : Bool) (cs : List Cell) → fold_cells (λ (d : Bool) (c : Cell). d || ltb key c.key) b cs ≡ (b || larger key (map (row_of pg) cs))
unfolding fold_cells
larger_from key pg b [] = sym (or-false b)
larger_from key pg b (c ∷ cs) = larger_from key pg (b || ltb key c.key) cs ∙ or_assoc b (ltb key c.key) (larger key (map (row_of pg) cs))

pub larger_is : (key : ℕ) (pg : List ℕ) → has_larger key (cells pg) ≡ larger key (rows pg)
unfolding has_larger
larger_is key pg = larger_from key pg false (cells pg)

-- ---- the choice of two lists

merge_none : (o : Option Row) → merge o None ≡ o
merge_none None = refl
merge_none (Some x) = refl

merge_assoc : (a b c : Option Row) → merge (merge a b) c ≡ merge a (merge b c)
merge_assoc None b c = refl
merge_assoc (Some x) None c = refl
merge_assoc (Some x) (Some y) None = merge_none (better x (Some y))
merge_assoc (Some x) (Some y) (Some z) = by_less (ltb x.creator y.creator) refl (ltb y.creator z.creator) refl
  where
    by_less : (a : Bool) → ltb x.creator y.creator ≡ a → (b : Bool) → ltb y.creator z.creator ≡ b
        → merge (pick a (Some y) (Some x)) (Some z) ≡ better x (pick b (Some z) (Some y))
    by_less true e true g =
        let l = ltb-true x.creator y.creator e in
        let m = ltb-true y.creator z.creator g in
        rw (g, lt-ltb x.creator z.creator (omega arith))
    by_less true e false g = rw (g, e)
    by_less false e true g = refl
    by_less false e false g =
        let l = ltb-false x.creator y.creator e in
        let m = ltb-false y.creator z.creator g in
        rw (e, le-ltb x.creator z.creator (omega arith))

pub best_app : (v : Row → Bool) (k : ℕ) (xs ys : List Row) → best v k (xs ++ ys) ≡ merge (best v k ys) (best v k xs)
best_app v k [] ys = sym (merge_none (best v k ys))
best_app v k (x ∷ xs) ys =
    let o = when (of_key k x && v x) x in
    ap (λ (a : Option Row). merge a o) (best_app v k xs ys) ∙ merge_assoc (best v k ys) (best v k xs) o

-- ---- lookup

-- the row that was found
abbrev pub row_in : List ℕ → Best → Option Row
row_in s None = None
row_in s (Some (p, c)) = Some (row_of (page s p) c)

-- the cell c of page p, of the key and seen by v: its leaf in the tree and its place there; behind it in the chain v sees
-- none of its key and creator
pub record Standing (v : Row → Bool) (key : ℕ) (s : List ℕ) (t : Shape) (p : ℕ) (c : Cell) : Type 0 where
  pub ctx : Ctx
  pub rows : List Row
  pub is : t ≡ plug ctx (leaf p rows)
  pub before : List Cell
  pub after : List Cell
  pub cells_are : cells (page s p) ≡ before ++ (c ∷ after)
  pub rows_are : rows ≡ map (row_of (page s p)) (before ++ (c ∷ after))
  pub of_the_key : of_key key (row_of (page s p) c) ≡ true
  pub seen : v (row_of (page s p) c) ≡ true
  pub last : All (λ (z : Row). v z ≡ false) (arrivals key c.version.creator (map (row_of (page s p)) after ++ post_c ctx))

-- the chain is split there
pub standing_chain : (v : Row → Bool) (key : ℕ) (s : List ℕ) (t : Shape) (p : ℕ) (c : Cell) (r : Standing v key s t p c)
    → chain t ≡ (pre_c r.ctx ++ map (row_of (page s p)) r.before) ++ (row_of (page s p) c ∷ (map (row_of (page s p)) r.after ++ post_c r.ctx))
standing_chain v key s t p c r =
    let g = row_of (page s p) in
    let e : r.rows ≡ map g r.before ++ (g c ∷ map g r.after) = r.rows_are ∙ map-append g r.before (c ∷ r.after) in
    ap chain r.is ∙ (plug_chain r.ctx (leaf p r.rows) ∙ rw e (simp append_assoc))

-- the candidates have smaller creators
abbrev Less : (Row → Bool) → ℕ → ℕ → List Row → Type 0
Less v key n rs = All (λ (r : Row). (of_key key r && v r) ≡ true → r.creator < n) rs

less_last : (v : Row → Bool) (key n : ℕ) (rs : List Row) → Less v key n rs → All (λ (z : Row). v z ≡ false) (arrivals key n rs)
less_last v key n [] h = tt
less_last v key n (r ∷ rs) h = by_key (of_key key r) refl (eqb r.creator n) refl (v r) refl (less_last v key n rs h.1)
  where
    by_key : (a : Bool) → of_key key r ≡ a → (b : Bool) → eqb r.creator n ≡ b → (d : Bool) → v r ≡ d → All (λ (z : Row). v z ≡ false) (arrivals key n rs)
        → All (λ (z : Row). v z ≡ false) (pick (a && b) (r ∷ arrivals key n rs) (arrivals key n rs))
    by_key false ea b eb d ed i = i
    by_key true ea false eb d ed i = i
    by_key true ea true eb false ed i = (ed, i)
    by_key true ea true eb true ed i = absurd (let l : r.creator < n = h.0 (rw (ea, ed)) in let q : r.creator ≡ n = eqb-true r.creator n eb in omega arith)

module _ (sn : Snapshot) (st : ℕ → ℕ) (key : ℕ) where
  abbrev pub seen_by : Row → Bool
  seen_by r = visible sn st r.creator r.stamp

  abbrev pub step_best : Best → ℕ → List ℕ → Best
  step_best b p pg = fold_cells (newest p key sn st) b (cells pg)

  says_best : (a : Best) (p : ℕ) (pg : List ℕ) (e : ℕ) → judge_leaf pg p ≡ Ok e
      → look_best key sn st a p pg ≡ pick (larger key (rows pg)) (stop (step_best a p pg)) (go (step_best a p pg))
  unfolding find_leaf
  says_best a p pg e j = rw (j, larger_is key pg) (by_end (fold_cells (newest p key sn st) a (cells pg)) (larger key (rows pg)))
    where
      by_end : (b : Best) (l : Bool) → seen_best (Ok (b, l)) ≡ pick l (stop b) (go b)
      by_end b true = refl
      by_end b false = refl

  fold_skips : (p : ℕ) (pg : List ℕ) (cs : List Cell) (a : Best) → All (λ (r : Row). of_key key r ≡ false) (map (row_of pg) cs)
      → fold_cells (newest p key sn st) a cs ≡ a
  unfolding fold_cells newest
  fold_skips p pg [] a o = refl
  fold_skips p pg (c ∷ cs) a o = rw o.0 (fold_skips p pg cs a o.1)

  -- one cell more
  newest_row : (s : List ℕ) (p : ℕ) (b : Best) (c : Cell)
      → row_in s (newest p key sn st b c) ≡ merge (when (of_key key (row_of (page s p) c) && seen_by (row_of (page s p) c)) (row_of (page s p) c)) (row_in s b)
  unfolding newest
  newest_row s p b c = by_test (eqb c.key key && visible sn st c.version.creator c.version.stamp) b
    where
      by_less : (x : Bool) (q : ℕ) (o : Cell) → row_in s (pick x (Some (q, o)) (Some (p, c))) ≡ pick x (Some (row_of (page s q) o)) (Some (row_of (page s p) c))
      by_less true q o = refl
      by_less false q o = refl

      by_test : (x : Bool) (b : Best) → row_in s (pick x (later p b c) b) ≡ merge (when x (row_of (page s p) c)) (row_in s b)
      by_test true None = refl
      by_test true (Some (q, o)) = by_less (ltb c.version.creator o.version.creator) q o
      by_test false b = refl

  fold_row : (s : List ℕ) (p : ℕ) (cs : List Cell) (b : Best)
      → row_in s (fold_cells (newest p key sn st) b cs) ≡ merge (best seen_by key (map (row_of (page s p)) cs)) (row_in s b)
  unfolding fold_cells
  fold_row s p [] b = refl
  fold_row s p (c ∷ cs) b =
      let r = row_of (page s p) c in
      fold_row s p cs (newest p key sn st b c)
      ∙ (ap (merge (best seen_by key (map (row_of (page s p)) cs))) (newest_row s p b c)
      ∙ sym (merge_assoc (best seen_by key (map (row_of (page s p)) cs)) (when (of_key key r && seen_by r) r) (row_in s b)))

  gather_row : (s : List ℕ) (used : ℕ) (ls : List Loc) (b : Best) → All (AtLeaf s used) ls
      → row_in s (gather step_best s b ls) ≡ merge (best seen_by key (flat (cellss ls))) (row_in s b)
  gather_row s used [] b h = refl
  gather_row s used (l ∷ ls) b h =
      let here : row_in s (step_best b l.page (page s l.page)) ≡ merge (best seen_by key l.cells) (row_in s b) =
      fold_row s l.page (cells (page s l.page)) b ∙ ap (λ (rs : List Row). merge (best seen_by key rs) (row_in s b)) h.0.says.rows_are in
      gather_row s used ls (step_best b l.page (page s l.page)) h.1
      ∙ (ap (merge (best seen_by key (flat (cellss ls)))) here
      ∙ (sym (merge_assoc (best seen_by key (flat (cellss ls))) (best seen_by key l.cells) (row_in s b))
      ∙ ap (λ (o : Option Row). merge o (row_in s b)) (sym (best_app seen_by key l.cells (flat (cellss ls))))))

  -- ---- where it stands

  -- c was the best before rs, and stays it
  abbrev Stays : Best → ℕ → Cell → List Row → Type 0
  Stays b q c rs = (b ≡ Some (q, c)) × Less seen_by key c.version.creator rs

  -- c is among cs
  record InCells (pg : List ℕ) (c : Cell) (cs : List Cell) : Type 0 where
    before : List Cell
    after : List Cell
    is : cs ≡ before ++ (c ∷ after)
    of_the_key : of_key key (row_of pg c) ≡ true
    seen : seen_by (row_of pg c) ≡ true
    less : Less seen_by key c.version.creator (map (row_of pg) after)

  abbrev test : List ℕ → Cell → Bool
  test pg c = of_key key (row_of pg c) && seen_by (row_of pg c)

  first_cell : (pg : List ℕ) (d c : Cell) (cs : List Cell) → d ≡ c → test pg d ≡ true → Less seen_by key c.version.creator (map (row_of pg) cs) → InCells pg c (d ∷ cs)
  first_cell pg d c cs e t h =
      let b = and_both (of_key key (row_of pg c)) (seen_by (row_of pg c)) (rw e at t) in
      record { before = []; after = cs; is = ap (λ (x : Cell). x ∷ cs) e; of_the_key = b.0; seen = b.1; less = h }

  cells_chosen : (p : ℕ) (pg : List ℕ) (cs : List Cell) (b : Best) (q : ℕ) (c : Cell) → fold_cells (newest p key sn st) b cs ≡ Some (q, c)
      → Stays b q c (map (row_of pg) cs) ⊎ ((q ≡ p) × InCells pg c cs)
  unfolding fold_cells newest
  cells_chosen p pg [] b q c e = inl (e, tt)
  cells_chosen p pg (d ∷ cs) b q c e = by_rest (cells_chosen p pg cs (pick (test pg d) (later p b d) b) q c e)
    where
      by_less : (x : Bool) (r : ℕ) (o : Cell) → ltb d.version.creator o.version.creator ≡ x → test pg d ≡ true → ◌≡◌ {A = Best} (pick x (Some (r, o)) (Some (p, d))) (Some (q, c))
          → Less seen_by key c.version.creator (map (row_of pg) cs) → Stays (Some (r, o)) q c (map (row_of pg) (d ∷ cs)) ⊎ ((q ≡ p) × InCells pg c (d ∷ cs))
      by_less true r o l t u h = let v : ◌≡◌ {A = ℕ × Cell} (r, o) (q, c) = cc in let w : o ≡ c = ap (λ (x : ℕ × Cell). x.1) v in inl (u, ((λ z. rw w at (ltb-true d.version.creator o.version.creator l)), h))
      by_less false r o l t u h =
          let v : ◌≡◌ {A = ℕ × Cell} (p, d) (q, c) = cc in
          let w : d ≡ c = ap (λ (x : ℕ × Cell). x.1) v in
          let y : q ≡ p = sym (ap (λ (x : ℕ × Cell). x.0) v) in
          inr (y, first_cell pg d c cs w t h)

      by_test : (x : Bool) → test pg d ≡ x → (b : Best) → pick x (later p b d) b ≡ Some (q, c) → Less seen_by key c.version.creator (map (row_of pg) cs)
          → Stays b q c (map (row_of pg) (d ∷ cs)) ⊎ ((q ≡ p) × InCells pg c (d ∷ cs))
      by_test false t b u h = inl (u, ((λ z. absurd (let y : ◌≡◌ {A = ℕ} 0 1 = cc in omega arith)), h))
      by_test true t None u h =
          let v : ◌≡◌ {A = ℕ × Cell} (p, d) (q, c) = cc in
          let w : d ≡ c = ap (λ (x : ℕ × Cell). x.1) v in
          let y : q ≡ p = sym (ap (λ (x : ℕ × Cell). x.0) v) in
          inr (y, first_cell pg d c cs w t h)
      by_test true t (Some (r, o)) u h = by_less (ltb d.version.creator o.version.creator) r o refl t u h

      by_rest : Stays (pick (test pg d) (later p b d) b) q c (map (row_of pg) cs) ⊎ ((q ≡ p) × InCells pg c cs)
          → Stays b q c (map (row_of pg) (d ∷ cs)) ⊎ ((q ≡ p) × InCells pg c (d ∷ cs))
      by_rest (inl w) = by_test (test pg d) refl b w.0 w.1
      by_rest (inr w) =
          let i = w.1 in
          inr (w.0, record { before = d ∷ i.before; after = i.after; is = ap (λ (l : List Cell). d ∷ l) i.is; of_the_key = i.of_the_key; seen = i.seen; less = i.less })

  module _ (s : List ℕ) (used : ℕ) (t : Shape) where
    stands_here : (l : Loc) (ls : List Loc) (q : ℕ) (c : Cell) → InTree t l → AtLeaf s used l → post_c l.ctx ≡ flat (cellss ls) ++ [] → q ≡ l.page
        → InCells (page s l.page) c (cells (page s l.page)) → Less seen_by key c.version.creator (flat (cellss ls)) → Standing seen_by key s t q c
    stands_here l ls q c e a z y i h =
        let pg = page s l.page in
        let n = c.version.creator in
        let back : Less seen_by key n (map (row_of pg) i.after ++ post_c l.ctx) =
        all_app (λ (r : Row). (of_key key r && seen_by r) ≡ true → r.creator < n) (map (row_of pg) i.after) (post_c l.ctx) i.less (rw (z, append-nil) h) in
        subst (λ (x : ℕ). Standing seen_by key s t x c) (sym y)
        (record {
          ctx = l.ctx;
          rows = l.cells;
          is = sym e;
          before = i.before;
          after = i.after;
          cells_are = i.is;
          rows_are = sym a.says.rows_are ∙ ap (map (row_of pg)) i.is;
          of_the_key = i.of_the_key;
          seen = i.seen;
          last = less_last seen_by key n (map (row_of pg) i.after ++ post_c l.ctx) back;
        })

    leaves_chosen : (ls : List Loc) (b : Best) (q : ℕ) (c : Cell) → All (InTree t) ls → All (AtLeaf s used) ls → Trailed [] ls → gather step_best s b ls ≡ Some (q, c)
        → Stays b q c (flat (cellss ls)) ⊎ Standing seen_by key s t q c
    leaves_chosen [] b q c i a z e = inl (e, tt)
    leaves_chosen (l ∷ ls) b q c i a z e = by_rest (leaves_chosen ls (step_best b l.page (page s l.page)) q c i.1 a.1 z.1 e)
      where
        by_cells : Less seen_by key c.version.creator (flat (cellss ls))
            → Stays b q c (rows (page s l.page)) ⊎ ((q ≡ l.page) × InCells (page s l.page) c (cells (page s l.page)))
            → Stays b q c (l.cells ++ flat (cellss ls)) ⊎ Standing seen_by key s t q c
        by_cells h (inl w) =
            let n = c.version.creator in
            inl (w.0, all_app (λ (r : Row). (of_key key r && seen_by r) ≡ true → r.creator < n) l.cells (flat (cellss ls)) (rw a.0.says.rows_are at w.1) h)
        by_cells h (inr w) = inr (stands_here l ls q c i.0 a.0 z.0 w.0 w.1 h)

        by_rest : Stays (step_best b l.page (page s l.page)) q c (flat (cellss ls)) ⊎ Standing seen_by key s t q c
            → Stays b q c (l.cells ++ flat (cellss ls)) ⊎ Standing seen_by key s t q c
        by_rest (inl w) = by_cells w.1 (cells_chosen l.page (page s l.page) (cells (page s l.page)) b q c w.0)
        by_rest (inr w) = inr w

  -- ---- on a tree

  abbrev pub StandsBy : List ℕ → Shape → Best → Type 0
  StandsBy s t None = Unit {0}
  StandsBy s t (Some (p, c)) = Standing seen_by key s t p c

  pub record BestIs (s : List ℕ) (root used : ℕ) (t : Shape) : Type 0 where
    pub found : Best
    pub told : best_in_tree s used root key sn st ≡ Ok found
    pub row : row_in s found ≡ best seen_by key (chain t)
    pub stands : StandsBy s t found

  module _ (s : List ℕ) (root used : ℕ) (t : Shape) (f : WellFormed (view s) root used t) where
    leaves : All (AtLeaf s used) (locs t top)
    leaves = at_leaves s root used t f (locs t top) (locs_plug t top)

    pub best-told : best_in_tree s used root key sn st ≡ Ok (gather step_best s None (locs t top))
    unfolding best_in_tree best_along
    best-told =
        rw (
          descend_search s root used t f key,
          walk-key (look_best key sn st) key step_best says_best (λ a p pg e j o. fold_skips p pg (cells pg) a o) s root used t f None,
        )

    pub best-is : BestIs s root used t
    best-is =
        record {
          found = gather step_best s None (locs t top);
          told = best-told;
          row = gather_row s used (locs t top) None leaves ∙ (merge_none (best seen_by key (flat (cellss (locs t top)))) ∙ ap (best seen_by key) (locs_chain t top));
          stands = by_found (gather step_best s None (locs t top)) refl;
        }
      where
        of_two : (p : ℕ) (c : Cell) → Stays None p c (flat (cellss (locs t top))) ⊎ Standing seen_by key s t p c → Standing seen_by key s t p c
        of_two p c (inl w) = absurd (let e = w.0 in let z : ◌≡◌ {A = ℕ} 0 1 = cc in omega arith)
        of_two p c (inr w) = w

        by_found : (b : Best) → gather step_best s None (locs t top) ≡ b → StandsBy s t b
        by_found None e = tt
        by_found (Some (p, c)) e = of_two p c (leaves_chosen s used t (locs t top) None p c (locs_plug t top) leaves (locs_trailed t top) e)

-- ---- the conflict test

some_app : (q : Row → Bool) (xs ys : List Row) → some? q (xs ++ ys) ≡ (some? q xs || some? q ys)
some_app q [] ys = refl
some_app q (x ∷ xs) ys = ap (λ (b : Bool). q x || b) (some_app q xs ys) ∙ sym (or_assoc (q x) (some? q xs) (some? q ys))

module _ (claiming : Bool) (sn : Snapshot) (st : ℕ → ℕ) (seen key : ℕ) where
  abbrev pub meets : Row → Bool
  meets r = of_key key r && test_of sn st claiming seen r.creator r.stamp

  abbrev pub step_test : Bool → ℕ → List ℕ → Bool
  step_test b p pg = fold_cells (joined key sn st claiming seen) b (cells pg)

  says_test : (a : Bool) (p : ℕ) (pg : List ℕ) (e : ℕ) → judge_leaf pg p ≡ Ok e
      → look_test key sn st claiming seen a p pg ≡ pick (larger key (rows pg)) (stop (step_test a p pg)) (go (step_test a p pg))
  unfolding test_leaf
  says_test a p pg e j = rw (j, larger_is key pg) (by_end (fold_cells (joined key sn st claiming seen) a (cells pg)) (larger key (rows pg)))
    where
      by_end : (b l : Bool) → seen_test (Ok (b, l)) ≡ pick l (stop b) (go b)
      by_end b true = refl
      by_end b false = refl

  fold_some : (pg : List ℕ) (cs : List Cell) (a : Bool) → fold_cells (joined key sn st claiming seen) a cs ≡ (a || some? meets (map (row_of pg) cs))
  unfolding fold_cells joined
  fold_some pg [] a = sym (or-false a)
  fold_some pg (c ∷ cs) a =
      fold_some pg cs (a || (eqb c.key key && test_of sn st claiming seen c.version.creator c.version.stamp))
      ∙ or_assoc a (eqb c.key key && test_of sn st claiming seen c.version.creator c.version.stamp) (some? meets (map (row_of pg) cs))

  none-meets : (rs : List Row) → All (λ (r : Row). of_key key r ≡ false) rs → some? meets rs ≡ false
  none-meets [] o = refl
  none-meets (r ∷ rs) o = rw o.0 (none-meets rs o.1)

  pub test_is : (s : List ℕ) (root used : ℕ) (t : Shape) → WellFormed (view s) root used t
      → test_in_tree s used root key sn st claiming seen ≡ Ok (some? meets (chain t))
  unfolding test_in_tree test_along
  test_is s root used t f =
      rw (
        descend_search s root used t f key,
        walk-key (look_test key sn st claiming seen) key step_test says_test
            (λ a p pg e j o. fold_some pg (cells pg) a ∙ (ap (λ (b : Bool). a || b) (none-meets (rows pg) o) ∙ or-false a)) s root used t f false,
      )
      (ap (λ (b : Bool). Ok b)
      (gather_chain step_test s used (λ a rs. a || some? meets rs) (λ a p pg e j. fold_some pg (cells pg) a) or-false
      (λ a xs ys. ap (λ (b : Bool). a || b) (some_app meets xs ys) ∙ sym (or_assoc a (some? meets xs) (some? meets ys)))
      t (at_leaves s root used t f (locs t top) (locs_plug t top)) false))
