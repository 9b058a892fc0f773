-- Leaves of a tree that are changed in place, one after another: each change sees its page as it was, and the tree afterwards is
-- the one with the rows of its leaves changed. Assumes nothing.
use Rattle.std.proofs.Common.{Ok}
use mathlib.Core.Path.{◌≡◌, refl, sym, ap, ◌∙◌, subst}
use mathlib.Core.Bool.{Bool, true, false}
use mathlib.Core.List.{List, [], ◌∷◌, ◌++◌, map, append-nil}
use Prim.Native.Nat.{ℕ, zero, suc, ◌*◌, ◌≤◌, ◌<◌}
use native.Mathlib.Omega.{arith}
use native.Mathlib.Nat.{le_trans}
use lib.ListN.{length}
use Rattle.store.specs.Pick.{pick}
use Rattle.store.specs.Le.{AreBytes}
use Rattle.store.specs.Part.{part}
use Rattle.page.specs.Page.{page, set_page}
use Rattle.page.specs.Header.{node_type, parent_of, next_leaf}
use Rattle.row.specs.declared.Cell.{Cell}
use Rattle.leaf.specs.Cells.{cells, judge_leaf}
use Rattle.leaf.specs.Rows.{Row, AllFit, row_of, rows, row_bytes, rows_bytes, write_rows}
use Rattle.leaf.specs.RowFacts.{Sound}
use Rattle.tree_grow.specs.Steps.Safe.{There}
use Rattle.theory_tree.specs.Pages.{Pages, leaf_page, inner_page}
use Rattle.theory_tree.specs.View.{said, view}
use Rattle.theory_tree.specs.Shape.{Shape, leaf, node, pair, pages_in, head, rest, first, Holds, All, NoneTwice, Bounded, WellFormed}
use Rattle.page.proofs.PageLaws.{length-page, length-set_page, page-set_page, page-set_page-other}
use Rattle.leaf.proofs.Bytes.{bytes-page}
use Rattle.leaf.proofs.Choosing.{any_page}
use Rattle.leaf.proofs.Chain.{split_at}
use Rattle.leaf.proofs.RowFacts.{rows_fill}
use Rattle.theory_tree.proofs.Says.{kind_of, leaf-said}
use Rattle.theory_tree.proofs.Contexts.{Ctx, top, in_l, in_r, under, par_c, nxt_c, Loc}
use Rattle.theory_tree.proofs.Lists.{all_app, all_left, all_right, all_map, Out, nd_left, nd_right, nd_apart}
use Rattle.theory_tree.proofs.Seek.{leaf_of}
use Rattle.theory_tree.proofs.Walk.{locs, froms, locs_plug, froms_plug, head_page, Linked, locs_head, locs_linked, froms_linked, Nz, NzTail, froms_nz, held}
use Rattle.theory_tree.proofs.Search.{froms_head}
use Rattle.theory_tree.proofs.Pigeon.{pigeon, locs_count, froms_count}
use Rattle.theory_tree.proofs.Map.{map_s, on_leaf, Keeps, map_wf}
use Rattle.theory_stores.proofs.Keeping.{bytes-none, bytes-append, bytes-field, bytes-pad, bytes-set-page, bytes-cell}
use Rattle.store.proofs.PartLaws.{bytes-part}
use Rattle.theory_stores.proofs.Viewing.{view-page}
use Rattle.theory_stores.proofs.Rowing.{rows_long, said-rows}
use Rattle.theory_walks.proofs.Walking.{AtLeaf, at_leaves, locs_later, before, up_to, gather}

-- ---- leaves apart from each other

abbrev Apart : ℕ → List Loc → Type 0
Apart q ls = All (λ (l : Loc). q ≡ l.page → ⊥) ls

abbrev Distinct : List Loc → Type 0
Distinct [] = Unit {0}
Distinct (l ∷ ls) = Apart l.page ls × Distinct ls

all_two : {A : Type 0} (P Q R : A → Type 0) → ((x : A) → P x → Q x → R x) → (xs : List A) → All P xs → All Q xs → All R xs
all_two P Q R f [] g h = tt
all_two P Q R f (x ∷ xs) g h = (f x g.0 h.0, all_two P Q R f xs g.1 h.1)

apart-flip : (xs ys : List Loc) → All (λ (l : Loc). Apart l.page ys) xs → All (λ (l : Loc). Apart l.page xs) ys
apart-flip xs [] h = tt
apart-flip xs (y ∷ ys) h = (
  all_map (λ (l : Loc). Apart l.page (y ∷ ys)) (λ (l : Loc). y.page ≡ l.page → ⊥) (λ l o e. o.0 (sym e)) xs h,
  apart-flip xs ys (all_map (λ (l : Loc). Apart l.page (y ∷ ys)) (λ (l : Loc). Apart l.page ys) (λ l o. o.1) xs h),
)

distinct_app : (xs ys : List Loc) → Distinct xs → Distinct ys → All (λ (l : Loc). Apart l.page ys) xs → Distinct (xs ++ ys)
distinct_app [] ys d e a = e
distinct_app (x ∷ xs) ys d e a = (all_app (λ (l : Loc). x.page ≡ l.page → ⊥) xs ys d.0 a.0, distinct_app xs ys d.1 e a.1)

distinct-left : (xs ys : List Loc) → Distinct (xs ++ ys) → Distinct xs
distinct-left [] ys d = tt
distinct-left (x ∷ xs) ys d = (all_left (λ (l : Loc). x.page ≡ l.page → ⊥) xs ys d.0, distinct-left xs ys d.1)

distinct-right : (xs ys : List Loc) → Distinct (xs ++ ys) → Distinct ys
distinct-right [] ys d = d
distinct-right (x ∷ xs) ys d = distinct-right xs ys d.1

distinct_apart : (xs ys : List Loc) → Distinct (xs ++ ys) → All (λ (l : Loc). Apart l.page ys) xs
distinct_apart [] ys d = tt
distinct_apart (x ∷ xs) ys d = (all_right (λ (l : Loc). x.page ≡ l.page → ⊥) xs ys d.0, distinct_apart xs ys d.1)

-- the leaves of a tree are among its pages
locs_each : (P : ℕ → Type 0) (t : Shape) (c : Ctx) → All P (pages_in t) → All (λ (l : Loc). P l.page) (locs t c)
locs_each P (leaf p rs) c h = h
locs_each P (node p f) c h = locs_each P f (under p c) h.1
locs_each P (pair a k b) c h =
    all_app (λ (l : Loc). P l.page) (locs a (in_l k b c)) (locs b (in_r a k c)) (locs_each P a (in_l k b c) (all_left P (pages_in a) (pages_in b) h))
    (locs_each P b (in_r a k c) (all_right P (pages_in a) (pages_in b) h))

locs_distinct : (t : Shape) (c : Ctx) → NoneTwice (pages_in t) → Distinct (locs t c)
locs_distinct (leaf p rs) c d = (tt, tt)
locs_distinct (node p f) c d = locs_distinct f (under p c) d.1
locs_distinct (pair a k b) c d =
    let bs = locs b (in_r a k c) in
    distinct_app (locs a (in_l k b c)) bs (locs_distinct a (in_l k b c) (nd_left (pages_in a) (pages_in b) d)) (locs_distinct b (in_r a k c) (nd_right (pages_in a) (pages_in b) d))
    (locs_each (λ (x : ℕ). Apart x bs) a (in_l k b c)
    (all_map (λ (x : ℕ). Out x (pages_in b)) (λ (x : ℕ). Apart x bs) (λ x o. locs_each (λ (y : ℕ). x ≡ y → ⊥) b (in_r a k c) o) (pages_in a) (nd_apart (pages_in a) (pages_in b) d)))

-- those that a search meets are the last ones
froms_distinct : (k lo hi : ℕ) (t : Shape) (c : Ctx) → Bounded lo hi t → NoneTwice (pages_in t) → Distinct (froms k t c)
froms_distinct k lo hi t c b d =
    let i = before k lo hi t c b in
    distinct-right i.passed (froms k t c) (subst Distinct i.is (locs_distinct t c d))

-- what holds of its leaves and of its internal pages holds of all its pages
each_page : (P : ℕ → Type 0) (w : Pages) (par nxt : ℕ) (t : Shape) (c : Ctx) → ((p q j h : ℕ) (r : List (ℕ × ℕ)) → w p ≡ inner_page q j h r → P p) → Holds w par nxt t
    → All (λ (l : Loc). P l.page) (locs t c) → All P (pages_in t)
each_page P w par nxt (leaf p rs) c i h a = a
each_page P w par nxt (node p f) c i h a = (i p par h.0 (head f) (rest f) h.1, each_page P w p nxt f (under p c) i h.2 a)
each_page P w par nxt (pair a k b) c i h g =
    let xs = locs a (in_l k b c) in
    let ys = locs b (in_r a k c) in
    all_app P (pages_in a) (pages_in b) (each_page P w par (first b) a (in_l k b c) i h.0 (all_left (λ (l : Loc). P l.page) xs ys g))
    (each_page P w par nxt b (in_r a k c) i h.1 (all_right (λ (l : Loc). P l.page) xs ys g))

-- ---- leaves changed, one after another

-- the page pg, which was judged as page p, its cells ending at e
pub record LeafIs (p e : ℕ) (pg : List ℕ) : Type 0 where
  pub type : node_type pg ≡ 1
  pub judged : judge_leaf pg p ≡ Ok e
  pub sound : Sound pg e

-- the pool is of bytes and has the pages in use
pub record PoolHas (used : ℕ) (s : List ℕ) : Type 0 where
  pub bytes : AreBytes s
  pub room : used * 4096 ≤ length s

module _ (used : ℕ) (s : List ℕ) (l : Loc) (h : PoolHas used s) (a : AtLeaf s used l) where
  leaf-there : There l.page s
  leaf-there = omega (arith, h.room, a.in_use)

  leaf-is : LeafIs l.page a.end (page s l.page)
  leaf-is =
      record {
        type = a.says.type;
        judged = a.judged;
        sound =
            record {
              bytes = bytes-page l.page s h.bytes;
              whole = length-page l.page s leaf-there;
              judged = any_page l.page 0 a.end (page s l.page) a.judged;
            };
      }

-- a row whose data is bytes, as those that are read are; what is written with such rows is bytes
abbrev pub HasBytes : Row → Type 0
HasBytes r = AreBytes r.body

read_bytes : (pg : List ℕ) → AreBytes pg → (cs : List Cell) → All HasBytes (map (row_of pg) cs)
read_bytes pg B [] = tt
read_bytes pg B (c ∷ cs) = (bytes-part c.version.start c.version.len pg B, read_bytes pg B cs)

bytes-rows : (rs : List Row) → All HasBytes rs → AreBytes (rows_bytes rs)
unfolding rows_bytes
bytes-rows [] h = bytes-none
bytes-rows (r ∷ rs) h = bytes-append (row_bytes r) (rows_bytes rs) (bytes-cell r.key r.creator r.stamp r.pointer r.body h.0) (bytes-rows rs h.1)

bytes-written : (rs : List Row) (pg : List ℕ) → All HasBytes rs → AreBytes pg → AreBytes (write_rows rs pg)
unfolding write_rows
bytes-written rs pg h B = bytes-field 2 _ 6 (length rs) (bytes-pad 4096 _ (bytes-append (part 0 12 pg) (rows_bytes rs) (bytes-part 0 12 pg B) (bytes-rows rs h)))

-- x is the leaf pg with its rows changed by f
pub record Changed (f : List Row → List Row) (pg x : List ℕ) : Type 0 where
  pub bytes : AreBytes x
  pub long : length x ≡ 4096
  pub says : said x ≡ leaf_page (parent_of pg) (next_leaf pg) (f (rows pg))

module _ (f : List Row → List Row) (p e : ℕ) (pg : List ℕ) (is : LeafIs p e pg) where
  -- a leaf that stays, and one that is written anew with rows that take no more room
  pub unchanged : f (rows pg) ≡ rows pg → Changed f pg pg
  unchanged q =
      record {
        bytes = is.sound.bytes;
        long = is.sound.whole;
        says = leaf-said pg is.type (rows_fill pg e is.sound).1 ∙ ap (leaf_page (parent_of pg) (next_leaf pg)) (sym q);
      }

  pub rewritten : (All HasBytes (rows pg) → All HasBytes (f (rows pg))) → (AllFit (rows pg) → AllFit (f (rows pg))) → length (rows_bytes (f (rows pg))) ≤ length (rows_bytes (rows pg))
      → Changed f pg (write_rows (f (rows pg)) pg)
  rewritten keeps fit short =
      let within = (split_at pg e (cells pg) [] is.sound (sym (append-nil (cells pg)))).within in
      let fill = rows_fill pg e is.sound in
      let few : length (rows_bytes (f (rows pg))) ≤ 4084 = omega (arith, within, fill.0) in
      record {
        bytes = bytes-written (f (rows pg)) pg (keeps (read_bytes pg is.sound.bytes (cells pg))) is.sound.bytes;
        long = rows_long (f (rows pg)) pg is.sound.whole few;
        says = said-rows (f (rows pg)) pg is.sound.whole is.type (fit fill.2) few;
      }

-- ---- walks, and pages that stay

gather_off : {A : Type 0} (step : A → ℕ → List ℕ → A) (s s' : List ℕ) (a : A) (ls : List Loc) → All (λ (l : Loc). page s' l.page ≡ page s l.page) ls
    → gather step s' a ls ≡ gather step s a ls
gather_off step s s' a [] e = refl
gather_off step s s' a (l ∷ ls) e = rw e.0 (gather_off step s s' (step a l.page (page s l.page)) ls e.1)

up_to_each : (P : Loc → Type 0) (ends : List Row → Bool) (ls : List Loc) → All P ls → All P (up_to ends ls)
up_to_each P ends [] h = tt
up_to_each P ends (l ∷ ls) h = (h.0, by_end (ends l.cells) (up_to_each P ends ls h.1))
  where
    by_end : (b : Bool) → All P (up_to ends ls) → All P (pick b [] (up_to ends ls))
    by_end true i = tt
    by_end false i = i

module _ (f : List Row → List Row) (change : ℕ → List ℕ → List ℕ) (changes : (p e : ℕ) (pg : List ℕ) → LeafIs p e pg → Changed f pg (change p pg)) where
  -- page p, and all of ls
  abbrev pub changed_at : ℕ → List ℕ → List ℕ
  changed_at p s = set_page p (change p (page s p)) s

  abbrev pub changed : List Loc → List ℕ → List ℕ
  changed [] s = s
  changed (l ∷ ls) s = changed ls (changed_at l.page s)

  module _ (used : ℕ) where
    module _ (s : List ℕ) (l : Loc) (h : PoolHas used s) (a : AtLeaf s used l) where
      made : Changed f (page s l.page) (change l.page (page s l.page))
      made = changes l.page a.end (page s l.page) (leaf-is used s l h a)

      long_at : length (changed_at l.page s) ≡ length s
      long_at = length-set_page l.page (change l.page (page s l.page)) s (leaf-there used s l h a) made.long

      has_at : PoolHas used (changed_at l.page s)
      has_at = record { bytes = bytes-set-page l.page (change l.page (page s l.page)) s made.bytes h.bytes; room = rw long_at h.room }

      page_at_lem : page (changed_at l.page s) l.page ≡ change l.page (page s l.page)
      page_at_lem = page-set_page l.page (change l.page (page s l.page)) s (leaf-there used s l h a) made.long

      page_off : (q : ℕ) → (q ≡ l.page → ⊥) → page (changed_at l.page s) q ≡ page s q
      page_off = page-set_page-other l.page (change l.page (page s l.page)) s (leaf-there used s l h a) made.long

      -- the leaves that are left stand as they stood
      leaf_off : (k : Loc) → AtLeaf s used k → (l.page ≡ k.page → ⊥) → AtLeaf (changed_at l.page s) used k
      leaf_off k b o =
          let e : page (changed_at l.page s) k.page ≡ page s k.page = page_off k.page (λ q. o (sym q)) in
          record { says = rw e b.says; in_use = b.in_use; end = b.end; judged = rw e b.judged }

      leaves_off : (ls : List Loc) → All (AtLeaf s used) ls → Apart l.page ls → All (AtLeaf (changed_at l.page s) used) ls
      leaves_off = all_two (AtLeaf s used) (λ (k : Loc). l.page ≡ k.page → ⊥) (AtLeaf (changed_at l.page s) used) leaf_off

    record After (ls : List Loc) (s : List ℕ) : Type 0 where
      has : PoolHas used (changed ls s)
      long : length (changed ls s) ≡ length s
      met : All (λ (l : Loc). page (changed ls s) l.page ≡ change l.page (page s l.page)) ls
      else : (q : ℕ) → Apart q ls → page (changed ls s) q ≡ page s q

    after : (ls : List Loc) (s : List ℕ) → PoolHas used s → Distinct ls → All (AtLeaf s used) ls → After ls s
    after [] s h d a = record { has = h; long = refl; met = tt; else = λ q o. refl }
    after (l ∷ ls) s h d a =
        let t = changed_at l.page s in
        let i = after ls t (has_at s l h a.0) d.1 (leaves_off s l h a.0 ls a.1 d.0) in
        record {
          has = i.has;
          long = i.long ∙ long_at s l h a.0;
          met = (
            i.else l.page d.0 ∙ page_at_lem s l h a.0,
            all_two (λ (k : Loc). l.page ≡ k.page → ⊥) (λ (k : Loc). page (changed ls t) k.page ≡ change k.page (page t k.page))
                (λ (k : Loc). page (changed ls t) k.page ≡ change k.page (page s k.page))
                (λ k o e. e ∙ ap (change k.page) (page_off s l h a.0 k.page (λ q. o (sym q)))) ls d.0 i.met,
          );
          else = λ q o. i.else q o.1 ∙ page_off s l h a.0 q o.0;
        }

  -- ---- the tree afterwards

  pub record Mapped (s s' : List ℕ) (root used : ℕ) (t : Shape) : Type 0 where
    pub bytes : AreBytes s'
    pub long : length s' ≡ length s
    pub holds : WellFormed (view s') root used (map_s f t)

  module _ (s : List ℕ) (root used : ℕ) (t : Shape) (w : WellFormed (view s) root used t) (h : PoolHas used s) where
    abbrev OnLeaf : List ℕ → ℕ → Type 0
    OnLeaf s' p = view s' p ≡ on_leaf f (view s p)

    abbrev HeldAt : Loc → Type 0
    HeldAt l = view s l.page ≡ leaf_page (par_c 0 l.ctx) (nxt_c 0 l.ctx) l.cells

    -- a leaf that is met, and one that is not and whose rows stay
    view-met : (s' : List ℕ) (l : Loc) → AtLeaf s used l × HeldAt l → page s' l.page ≡ change l.page (page s l.page) → OnLeaf s' l.page
    view-met s' l b e =
        let a = b.0 in
        let m = changes l.page a.end (page s l.page) (leaf-is used s l h a) in
        let v = b.1 in
        view-page l.page s' ∙ (ap said e ∙ (m.says ∙ rw (v, a.says.parent, a.says.next, a.says.rows_are)))

    view_off : (s' : List ℕ) (l : Loc) → HeldAt l × (f l.cells ≡ l.cells) → page s' l.page ≡ page s l.page → OnLeaf s' l.page
    view_off s' l b e =
        let v = b.0 in
        let q = b.1 in
        view-page l.page s' ∙ (ap said e ∙ (sym (view-page l.page s) ∙ rw (v, q)))

    views_off : (s' : List ℕ) (met ls : List Loc) → ((q : ℕ) → Apart q met → page s' q ≡ page s q) → All (λ (l : Loc). Apart l.page met) ls → All HeldAt ls
        → All (λ (l : Loc). f l.cells ≡ l.cells) ls → All (λ (l : Loc). OnLeaf s' l.page) ls
    views_off s' met ls stays a v q =
        all_two (λ (l : Loc). HeldAt l × (f l.cells ≡ l.cells)) (λ (l : Loc). Apart l.page met) (λ (l : Loc). OnLeaf s' l.page)
        (λ l b o. view_off s' l b (stays l.page o)) ls
        (all_two HeldAt (λ (l : Loc). f l.cells ≡ l.cells) (λ (l : Loc). HeldAt l × (f l.cells ≡ l.cells)) (λ l x y. (x, y)) ls v q) a

    -- of all leaves those of met are changed, and the others' rows are as f leaves them
    pub mapped : Keeps f → (passed met left : List Loc) → locs t top ≡ passed ++ (met ++ left) → All (λ (l : Loc). f l.cells ≡ l.cells) passed
        → All (λ (l : Loc). f l.cells ≡ l.cells) left → Mapped s (changed met s) root used t
    mapped keeps passed met left is before behind =
        let s' = changed met s in
        let split : (P : Loc → Type 0) → All P (locs t top) → All P passed × (All P met × All P left) = λ P g.
        let g' : All P (passed ++ (met ++ left)) = subst (All P) is g in
        let g'' = all_right P passed (met ++ left) g' in
        (all_left P passed (met ++ left) g', (all_left P met left g'', all_right P met left g'')) in
        let leaves = split (AtLeaf s used) (at_leaves s root used t w (locs t top) (locs_plug t top)) in
        let helds = split HeldAt (held (view s) t (locs t top) w.rep (locs_plug t top)) in
        let d : Distinct (passed ++ (met ++ left)) = subst Distinct is (locs_distinct t top w.distinct) in
        let d' = distinct-right passed (met ++ left) d in
        let r = after used met s h (distinct-left met left d') leaves.1.0 in
        let to-met = all_map (λ (l : Loc). Apart l.page (met ++ left)) (λ (l : Loc). Apart l.page met)
        (λ l o. all_left (λ (k : Loc). l.page ≡ k.page → ⊥) met left o) passed (distinct_apart passed (met ++ left) d) in
        let from-met = apart-flip met left (distinct_apart met left d') in
        let these =
        all_two (λ (l : Loc). AtLeaf s used l × HeldAt l) (λ (l : Loc). page s' l.page ≡ change l.page (page s l.page)) (λ (l : Loc). OnLeaf s' l.page)
        (λ l b e. view-met s' l b e) met
        (all_two (AtLeaf s used) HeldAt (λ (l : Loc). AtLeaf s used l × HeldAt l) (λ l x y. (x, y)) met leaves.1.0 helds.1.0) r.met in
        let each : All (λ (l : Loc). OnLeaf s' l.page) (locs t top) =
        subst (All (λ (l : Loc). OnLeaf s' l.page)) (sym is)
        (all_app (λ (l : Loc). OnLeaf s' l.page) passed (met ++ left) (views_off s' met passed r.else to-met helds.0 before)
        (all_app (λ (l : Loc). OnLeaf s' l.page) met left these (views_off s' met left r.else from-met helds.1.1 behind))) in
        let inner : (p q j k : ℕ) (e : List (ℕ × ℕ)) → view s p ≡ inner_page q j k e → OnLeaf s' p = λ p q j k e v.
        let apart : Apart p met =
        all_map HeldAt (λ (l : Loc). p ≡ l.page → ⊥)
        (λ l u z. absurd (let y : ◌≡◌ {A = ℕ} 2 1 = sym (ap kind_of v) ∙ (ap (λ (x : ℕ). kind_of (view s x)) z ∙ ap kind_of u) in omega arith)) met helds.1.0 in
        view-page p s' ∙ (ap said (r.else p apart) ∙ (sym (view-page p s) ∙ rw v)) in
        record {
          bytes = r.has.bytes;
          long = r.long;
          holds = map_wf f keeps (view s) (view s') root used t (each_page (OnLeaf s') (view s) 0 0 t top inner w.rep each) w;
        }

  -- ---- the walk that changes

  -- m pages at most; it gathers by step, says at its end what done says, and ends by a leaf's rows or with the chain
  module _ {A B : Type 0} (used : ℕ) (walk : ℕ → A → ℕ → List ℕ → B) (done : A → List ℕ → B) (ends : List Row → Bool) (step : A → ℕ → List ℕ → A)
      (last : (m : ℕ) (a : A) (p e : ℕ) (s : List ℕ) → p < used → LeafIs p e (page s p) → ends (rows (page s p)) ≡ true
      → walk (suc m) a p s ≡ done (step a p (page s p)) (changed_at p s))
      (end : (m : ℕ) (a : A) (p e : ℕ) (s : List ℕ) → p < used → LeafIs p e (page s p) → ends (rows (page s p)) ≡ false → next_leaf (page s p) ≡ 0
      → walk (suc m) a p s ≡ done (step a p (page s p)) (changed_at p s))
      (on : (m : ℕ) (a : A) (p e n : ℕ) (s : List ℕ) → p < used → LeafIs p e (page s p) → ends (rows (page s p)) ≡ false → next_leaf (page s p) ≡ n → (n ≡ 0 → ⊥)
      → walk (suc m) a p s ≡ walk m (step a p (page s p)) n (changed_at p s)) where
    walk_list : (m : ℕ) (a : A) (l : Loc) (ls : List Loc) (s : List ℕ) → length ls < m → PoolHas used s → Distinct (l ∷ ls) → All (AtLeaf s used) (l ∷ ls)
        → Linked 0 0 (l ∷ ls) → Nz ls → walk m a l.page s ≡ done (gather step s a (up_to ends (l ∷ ls))) (changed (up_to ends (l ∷ ls)) s)
    walk_list zero a l ls s n h d g k o = absurd (omega arith)
    walk_list (suc m) a l ls s n h d g k o = by_end (ends l.cells) ls n d g.1 k o (ap ends g.0.says.rows_are) (walk_list m)
      where
        by_end : (x : Bool) (ls : List Loc) → length ls < suc m → Distinct (l ∷ ls) → All (AtLeaf s used) ls → Linked 0 0 (l ∷ ls) → Nz ls
            → ends (rows (page s l.page)) ≡ x
            → ((b : A) (l' : Loc) (ls' : List Loc) (s' : List ℕ) → length ls' < m → PoolHas used s' → Distinct (l' ∷ ls') → All (AtLeaf s' used) (l' ∷ ls')
            → Linked 0 0 (l' ∷ ls') → Nz ls' → walk m b l'.page s' ≡ done (gather step s' b (up_to ends (l' ∷ ls'))) (changed (up_to ends (l' ∷ ls')) s'))
            → walk (suc m) a l.page s
            ≡ done (gather step s (step a l.page (page s l.page)) (pick x [] (up_to ends ls))) (changed (pick x [] (up_to ends ls)) (changed_at l.page s))
        by_end true ls n d a' k o e ih = last m a l.page g.0.end s g.0.in_use (leaf-is used s l h g.0) e
        by_end false [] n d a' k o e ih = end m a l.page g.0.end s g.0.in_use (leaf-is used s l h g.0) e (g.0.says.next ∙ k.0)
        by_end false (l' ∷ ls') n d a' k o e ih =
            let t = changed_at l.page s in
            let rest = up_to ends (l' ∷ ls') in
            let b = step a l.page (page s l.page) in
            let stays : All (λ (j : Loc). page t j.page ≡ page s j.page) rest =
            up_to_each (λ (j : Loc). page t j.page ≡ page s j.page) ends (l' ∷ ls')
            (all_map (λ (j : Loc). l.page ≡ j.page → ⊥) (λ (j : Loc). page t j.page ≡ page s j.page)
            (λ j o. page_off used s l h g.0 j.page (λ q. o (sym q))) (l' ∷ ls') d.0) in
            on m a l.page g.0.end l'.page s g.0.in_use (leaf-is used s l h g.0) e (g.0.says.next ∙ k.0) o.0
            ∙ (ih b l' ls' t (let z : suc (length ls') < suc m = n in omega arith)
            (has_at used s l h g.0) d.1 (leaves_off used s l h g.0 (l' ∷ ls') a' d.0) k.1 o.1
            ∙ ap (λ (x : A). done x (changed rest t)) (gather_off step s t b rest stays))

    walk_from : (m p : ℕ) (a : A) (ls : List Loc) (s : List ℕ) → length ls ≤ m → ((z : ℕ) → head_page ls z ≡ p) → PoolHas used s → Distinct ls → All (AtLeaf s used) ls
        → Linked 0 0 ls → NzTail ls → walk m a p s ≡ done (gather step s a (up_to ends ls)) (changed (up_to ends ls) s)
    walk_from m p a [] s n e h d g k o = absurd (let z : ◌≡◌ {A = ℕ} 0 1 = e 0 ∙ sym (e 1) in omega arith)
    walk_from m p a (l ∷ ls) s n e h d g k o = ap (λ (q : ℕ). walk m a q s) (sym (e 0)) ∙ walk_list m a l ls s n h d g k o

    module _ (s : List ℕ) (root : ℕ) (t : Shape) (w : WellFormed (view s) root used t) (h : PoolHas used s) where
      few : length (pages_in t) ≤ used
      few = pigeon used (pages_in t) w.distinct w.below

      -- from where search for a key comes to, and from the first leaf
      pub change_search : (key : ℕ) (a : A)
          → walk used a (leaf_of key t) s ≡ done (gather step s a (up_to ends (froms key t top))) (changed (up_to ends (froms key t top)) s)
      change_search key a =
          walk_from used (leaf_of key t) a (froms key t top) s (le_trans (froms_count key t top) few) (froms_head key t top) h
          (froms_distinct key 0 4294967295 t top w.bounds w.distinct)
          (at_leaves s root used t w (froms key t top) (froms_plug key t top)) (froms_linked 0 key t top) (froms_nz key t top w.later)

      pub change_first : (a : A) → walk used a (first t) s ≡ done (gather step s a (up_to ends (locs t top))) (changed (up_to ends (locs t top)) s)
      change_first a =
          walk_from used (first t) a (locs t top) s (le_trans (locs_count t top) few) (locs_head t top) h (locs_distinct t top w.distinct)
          (at_leaves s root used t w (locs t top) (locs_plug t top)) (locs_linked 0 t top) (locs_later s root used t w)
