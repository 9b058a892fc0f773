-- A leaf that divides, and all that follows above it, changes pages of its tree and pages that it takes, and no other page in use.
-- Assumes nothing.
use mathlib.Core.Path.{◌≡◌, refl, sym, ap, ◌∙◌, subst}
use mathlib.Core.Bool.{Bool, true, false, ◌||◌}
use mathlib.Core.List.{List, [], ◌∷◌, ◌++◌, append_assoc}
use mathlib.Core.Logic.{◌⊎◌, inl, inr, ⊎_elim}
use Prim.Native.Nat.{ℕ, zero, suc, ◌+◌, ◌*◌, ◌≤◌, ◌<◌}
use native.Mathlib.Numerals.{add-one}
use native.Mathlib.Omega.{arith}
use borrow.Author.Tests.{eqb-true, eqb-false}
use lib.Dec.{eqb}
use lib.ListN.{length, take, drop, get_or, length-append, take-append-drop}
use Rattle.store.specs.Le.{AreBytes}
use Rattle.store.specs.Part.{part, zeros, pad}
use Rattle.store.specs.Pick.{pick}
use Rattle.page.specs.Header.{node_type, cell_count, with_is_root, with_parent}
use Rattle.page.specs.Key.{rank_at}
use Rattle.page.specs.Page.{page, set_page}
use Rattle.page.specs.Pool.{next_page, allocated, with_fresh, Grown, grown}
use Rattle.page.specs.declared.pool.State.{State}
use Rattle.mvcc.specs.Lists.{mem}
use Rattle.leaf.specs.Rows.{Row, rows_bytes}
use Rattle.leaf_divide.specs.Divide.{divided}
use Rattle.inner.specs.Inner.{key_at, child_at, children_from, children_of}
use Rattle.inner_edit.specs.Edit.{entered, with_entry, left_half, middle_key, right_half, top_page, adopted}
use Rattle.inner_edit.specs.Facts.{insert_at, IsPage}
use Rattle.tree.specs.Climb.{path_of}
use Rattle.tree_grow.specs.Grow.{linked, linked_both, top_over, place_in, halved, moved_to, relinked, top_in, pin_of, enter_of, kept_root, settled}
use Rattle.tree_grow.specs.Steps.PlanFacts.{LeafDivided}
use Rattle.tree_grow.specs.Steps.Safe.{There, Free}
use Rattle.tree_room.specs.Up.{divided_up}
use Rattle.tree_room.specs.declared.Planned.{Planned}
use Rattle.theory_tree.specs.Pages.{leaf_page, inner_page, Pages}
use Rattle.theory_tree.specs.Shape.{Shape, leaf, node, pair, pages_in, head, rest, first, All, WellFormed}
use Rattle.theory_tree.specs.View.{said, view}
use Rattle.store.proofs.LeLaws.{length-put_at, le_at-put_at}
use Rattle.store.proofs.PartLaws.{le_or_lt, length_part}
use Rattle.store.proofs.SeamLaws.{length-pad, part_left, part-whole}
use Rattle.page.proofs.KeyLaws.{flip_less}
use Rattle.page.proofs.PageLaws.{length-page, length-set_page, page-set_page, page-set_page-other, length-zeros}
use Rattle.leaf.proofs.Bytes.{bytes-page}
use Rattle.leaf.proofs.Rowing.{rows_append}
use Rattle.inner_edit.proofs.Dividing.{length-right, middle_less}
use Rattle.inner_edit.proofs.Facts.{halves_divide}
use Rattle.inner_edit.proofs.Lists.{children_read, read_ext}
use Rattle.tree_grow.proofs.Halving.{left-long, right-long}
use Rattle.tree_grow.proofs.Likeness.{Alike, alike_eq, alike_trans, alike_parent, alike_root, alike_children, Like, like_refl, like_trans, like_linked, like_both}
use Rattle.tree_grow.proofs.Pinning.{relink_inner, relink-leaf, keep_zero, keep_same, keep_pinned}
use Rattle.tree_grow.proofs.Entering.{enter_top, enter-room, enter_over}
use Rattle.tree_grow.proofs.Stepping.{fresh_long, fresh_here, fresh_other, halved-root, halved-used, top_used, top_length, top_other, top_right}
use Rattle.tree_room.proofs.Keeping.{divided-leaf}
use Rattle.theory_tree.proofs.Contexts.{Ctx, top, in_l, in_r, under, plug, pre_g, post_g, par_c, nxt_c, HoldsC, cut, Grown as Raised, up}
use Rattle.theory_tree.proofs.Enter.{Entry, Both, OnPage, OnTop, Parts, dv, has, ins_own, parts, rep_c_frame, roots_is, entry_in_l, entry_in_r, entry_page, entry_half, entry_top, up_room, up_half}
use Rattle.theory_tree.proofs.Entries.{ins_after, kids, path}
use Rattle.theory_tree.proofs.Frame.{Agree, roots_all, out-flip}
use Rattle.theory_tree.proofs.Leaf.{leaf_pool, entry_leaf}
use Rattle.theory_tree.proofs.Lists.{all_app, all_left, all_right, all_map, Out, mem-out}
use Rattle.theory_tree.proofs.Pin.{tree_pages}
use Rattle.theory_tree.proofs.Says.{InnerSays, leaf_says, inner_says}
use Rattle.theory_tree.proofs.Zip.{plug_pages, unplug_rep}
use Rattle.theory_stores.proofs.Entering.{says_children, says_count, place_in_lem, entry_long, moved_all, top_long, top_in_long}
use Rattle.theory_stores.proofs.Keeping.{bytes-zeros, bytes-field, bytes-set-page}
use Rattle.theory_stores.proofs.Making.{length_headed}
use Rattle.theory_stores.proofs.Rowing.{cut_after, bytes-divided}
use Rattle.theory_stores.proofs.Stepping.{halved-length, halved-bytes}
use Rattle.theory_stores.proofs.Viewing.{view-page}
use Rattle.theory_grow.proofs.Growing.{up_more}
use Rattle.tree_room.proofs.Rooming.{path_above}
use Rattle.theory_grow.proofs.Settling.{used_after, divided_tree}

-- ---- lists

all_both : (P Q : ℕ → Type 0) (l : List ℕ) → All P l → All Q l → All (λ q. P q × Q q) l
all_both P Q [] g h = tt
all_both P Q (x ∷ xs) g h = ((g.0, h.0), all_both P Q xs g.1 h.1)

all_cut : (P : ℕ → Type 0) (n : ℕ) (l : List ℕ) → All P l → All P (take n l) × All P (drop n l)
all_cut P n l h =
    let g : All P (take n l ++ drop n l) = rw (take-append-drop n l) h in
    (all_left P (take n l) (drop n l) g, all_right P (take n l) (drop n l) g)

all_insert : (P : ℕ → Type 0) (i x : ℕ) (l : List ℕ) → All P l → P x → All P (insert_at i x l)
all_insert P i x l h p = let c = all_cut P i l h in all_app P (take i l) (x ∷ drop i l) c.0 (p, c.1)

-- what holds of all children holds of the child l; and of those there were before e was put behind l
has_kid : (P : ℕ → Type 0) (l h : ℕ) (r : List (ℕ × ℕ)) → has l h r ≡ true → All P (kids h r) → P l
has_kid P l h [] q a = subst P (eqb-true h l q) a.0
has_kid P l h (y ∷ r) q a = by_first (eqb h l) refl q (has_kid P l y.1 r)
  where
    by_first : (b : Bool) → eqb h l ≡ b → (b || has l y.1 r) ≡ true → (has l y.1 r ≡ true → All P (kids y.1 r) → P l) → P l
    by_first true e z ih = subst P (eqb-true h l e) a.0
    by_first false e z ih = ih z a.1

kids_before : (P : ℕ → Type 0) (l : ℕ) (e : ℕ × ℕ) (h : ℕ) (r : List (ℕ × ℕ)) → All P (kids h (ins_after l e h r)) → All P (kids h r)
kids_before P l e h [] a = (a.0, tt)
kids_before P l e h (y ∷ r) a = by_first (eqb h l) a (kids_before P l e y.1 r)
  where
    by_first : (b : Bool) → All P (kids h (pick b (e ∷ y ∷ r) (y ∷ ins_after l e y.1 r))) → (All P (kids y.1 (ins_after l e y.1 r)) → All P (kids y.1 r))
        → All P (kids h (y ∷ r))
    by_first true z ih = (z.0, z.1.1)
    by_first false z ih = (z.0, ih z.1)

-- ---- stores to pages other than x, in a pool of n bytes

right-count : (i sep new : ℕ) (pg zs : List ℕ) → length pg ≡ 4096 → cell_count pg ≡ 510 → i ≤ 510 → length zs ≡ 4096 → cell_count (right_half i sep new pg zs) ≡ 255
unfolding right_half
right-count i sep new pg zs len full in₀ whole =
    let y = part 0 12 zs ++ part 2060 2044 (entered i sep new pg) in
    let l : length y ≡ 2056 = rw (length-append, length_part 0 12 zs (omega arith), length-right i sep new pg len full in₀) in
    le_at-put_at 2 (pad 4096 y) 6 255 (rw (length-pad 4096 y (omega arith)) (omega arith)) (omega arith)

module _ (x n : ℕ) where
  -- page q is there, and is not x
  abbrev Off : ℕ → Type 0
  Off q = (q * 4096 + 4096 ≤ n) × (x ≡ q → ⊥)

  linked_off : (c q : ℕ) (s : List ℕ) → length s ≡ n → Off c → page (linked c q s) x ≡ page s x
  linked_off c q s e o =
      let h : There c s = rw e o.0 in
      page-set_page-other c (with_parent q (page s c)) s h (length-put_at 4 (page s c) 2 q ∙ length-page c s h) x o.1

  both_off : (old new q : ℕ) (s : List ℕ) → length s ≡ n → Off old → Off new → page (linked_both old new q s) x ≡ page s x
  both_off old new q s e o m =
      linked_off new q (linked old q s) ((like_linked old q s (rw e o.0)).long ∙ e) m ∙ linked_off old q s e o

  adopted_off : (m i p q : ℕ) (s : List ℕ) → length s ≡ n → All Off (children_from (page s p) i m) → Like (adopted m i p q s) s × (page (adopted m i p q s) x ≡ page s x)
  unfolding adopted children_from
  adopted_off zero i p q s e h = (like_refl, refl)
  adopted_off (suc m) i p q s e h =
      let c = child_at (page s p) i in
      let t = linked c q s in
      let like = like_linked c q s (rw e h.0.0) in
      let same : children_from (page t p) (i + 1) m ≡ children_from (page s p) (i + 1) m =
      rw (children_read m (i + 1) (page t p), children_read m (i + 1) (page s p))
      (read_ext (child_at (page t p)) (child_at (page s p)) m (i + 1) (i + 1) (λ k l. (like.each p).child (i + 1 + k))) in
      let ih = adopted_off m (i + 1) p q t (like.long ∙ e) (subst (All Off) (sym same) h.1) in
      (like_trans ih.0 like, ih.1 ∙ linked_off c q s e h.0)

  -- an internal page r has no child x, and its children are there
  abbrev Clear : ℕ → List ℕ → Type 0
  Clear r s = node_type (page s r) ≡ 0 → All Off (children_of (page s r))

  clear_alike : (r y : ℕ) (s t : List ℕ) → Alike (page t y) (page s r) → Clear r s → Clear y t
  clear_alike r y s t a c k = rw (alike_children a) (c (sym a.kind ∙ k))

  relinked_off : (z : ℕ) (s : List ℕ) → length s ≡ n → Clear z s → (length (relinked z s) ≡ n) × (page (relinked z s) x ≡ page s x)
  relinked_off z s e c = by_kind (eqb (node_type (page s z)) 0) refl
    where
      by_kind : (b : Bool) → eqb (node_type (page s z)) 0 ≡ b → (length (relinked z s) ≡ n) × (page (relinked z s) x ≡ page s x)
      by_kind true k =
          let q = eqb-true (node_type (page s z)) 0 k in
          let a = adopted_off (cell_count (page s z) + 1) 0 z z s e (c q) in
          rw (← (relink_inner z s refl refl refl q refl)) (a.0.long ∙ e, a.1)
      by_kind false k = rw (← (relink-leaf z s refl refl refl (eqb-false (node_type (page s z)) 0 k))) (e, refl)

  -- ---- page p divides

  module _ (p i sep new : ℕ) (g : Grown) (long : length g.pool ≡ n) (B : AreBytes g.pool) (free : Free g) (less : p < g.state.used) (in₀ : i ≤ 510)
      (full : cell_count (page g.pool p) ≡ 510) (sep_fits : sep < 4294967296) (new-fits : new < 4294967296)
      (kids_off : All Off (children_of (page g.pool p))) (new_off : Off new) where
    abbrev here : List ℕ
    here = page g.pool p

    abbrev s₀ : List ℕ
    s₀ = with_fresh g.pool g.state

    abbrev half_l : List ℕ
    half_l = left_half i sep new here

    abbrev half_r : List ℕ
    half_r = right_half i sep new here (zeros 4096)

    abbrev s₁ : List ℕ
    s₁ = set_page g.state.used half_r s₀

    abbrev s₂ : List ℕ
    s₂ = set_page p half_l s₁

    halved_is : (halved p i sep new g).pool ≡ adopted 256 0 g.state.used g.state.used s₂
    unfolding halved next_page
    halved_is = rw (fresh_other g.pool g.state free.1 p (λ e. omega arith), fresh_here g.pool g.state free.1)

    here-long : length here ≡ 4096
    here-long = length-page p g.pool (omega (arith, free.1))

    l_long : length half_l ≡ 4096
    l_long = left-long i sep new here here-long full in₀

    r_long : length half_r ≡ 4096
    r_long = right-long i sep new here here-long full in₀ (zeros 4096) length-zeros

    s₀_long : length s₀ ≡ n
    s₀_long = fresh_long g.pool g.state free.1 ∙ long

    next-there : There g.state.used s₀
    next-there = omega (arith, s₀_long, long, free.1)

    s₁_long : length s₁ ≡ n
    s₁_long = length-set_page g.state.used half_r s₀ next-there r_long ∙ s₀_long

    p_there : There p s₁
    p_there = omega (arith, s₁_long, long, free.1)

    s₂_long : length s₂ ≡ n
    s₂_long = length-set_page p half_l s₁ p_there l_long ∙ s₁_long

    -- the children with the new one among them
    all_off : All Off (insert_at (i + 1) new (children_of here))
    all_off = all_insert Off (i + 1) new (children_of here) kids_off new_off

    right_off : All Off (children_from half_r 0 256)
    right_off =
        let h = halves_divide here i sep new (bytes-page p g.pool B, here-long) sep_fits new-fits in₀ full in
        let c : cell_count half_r + 1 ≡ 256 = omega (arith, right-count i sep new here (zeros 4096) here-long full in₀ length-zeros) in
        rw c at (subst (All Off) (sym h.4) (all_cut Off 256 (insert_at (i + 1) new (children_of here)) all_off).1)

    right_at : page s₂ g.state.used ≡ half_r
    right_at = page-set_page-other p half_l s₁ p_there l_long g.state.used (λ e. omega arith) ∙ page-set_page g.state.used half_r s₀ next-there r_long

    adopts : Like (adopted 256 0 g.state.used g.state.used s₂) s₂ × (page (adopted 256 0 g.state.used g.state.used s₂) x ≡ page s₂ x)
    adopts = adopted_off 256 0 g.state.used g.state.used s₂ s₂_long (rw right_at right_off)

    halved_off : x < g.state.used → (x ≡ p → ⊥) → page (halved p i sep new g).pool x ≡ page g.pool x
    halved_off low ne =
        ap (λ (t : List ℕ). page t x) halved_is
        ∙ adopts.1
        ∙ page-set_page-other p half_l s₁ p_there l_long x ne
        ∙ page-set_page-other g.state.used half_r s₀ next-there r_long x (λ e. omega arith)
        ∙ fresh_other g.pool g.state free.1 x (λ e. omega arith)

    halved_clear : Clear p (halved p i sep new g).pool
    halved_clear k =
        let h = halves_divide here i sep new (bytes-page p g.pool B, here-long) sep_fits new-fits in₀ full in
        let same : children_of (page (halved p i sep new g).pool p) ≡ children_of half_l =
        ap (λ (s : List ℕ). children_of (page s p)) halved_is ∙ alike_children (adopts.0.each p) ∙ ap children_of (page-set_page p half_l s₁ p_there l_long) in
        subst (All Off) (sym (same ∙ h.3)) (all_cut Off 256 (insert_at (i + 1) new (children_of here)) all_off).0

  -- ---- the root grows

  top_off : (old sep new : ℕ) (g : Grown) → length g.pool ≡ n → Free g → Off old → Off new → x < g.state.used
      → page (top_over old sep new g).pool x ≡ page g.pool x
  unfolding top_over next_page
  top_off old sep new g long free o m low =
      let t = g.state.used in
      let s = with_fresh g.pool g.state in
      let y = top_page old sep new (page s t) in
      let ls : length s ≡ length g.pool = fresh_long g.pool g.state free.1 in
      let h : There t s = rw ls free.1 in
      let ly : length y ≡ 4096 = top_long old sep new (page s t) (length-page t s h) in
      both_off old new t (set_page t y s) (length-set_page t y s h ly ∙ ls ∙ long) o m
      ∙ page-set_page-other t y s h ly x (λ e. omega arith)
      ∙ fresh_other g.pool g.state free.1 x (λ e. omega arith)

  -- ---- a root keeps its number

  pin_off : (fixed : ℕ) (g : Grown) → length g.pool ≡ n → Free g → fixed < g.state.used → Clear fixed g.pool → Off (child_at (page g.pool g.state.root) 1)
      → x < g.state.used → (x ≡ fixed → ⊥) → page (pin_of fixed g).pool x ≡ page g.pool x
  unfolding pin_of next_page
  pin_off fixed g long free less clear m low ne =
      let z = g.state.used in
      let s = with_fresh g.pool g.state in
      let y = with_parent fixed (with_is_root 0 (page s fixed)) in
      let ls : length s ≡ n = fresh_long g.pool g.state free.1 ∙ long in
      let h : There z s = omega (arith, ls, long, free.1) in
      let ly : length y ≡ 4096 =
      length-put_at 4 (with_is_root 0 (page s fixed)) 2 fixed ∙ length-put_at 1 (page s fixed) 1 0 ∙ length-page fixed s (omega arith) in
      let s₁ = moved_to fixed z s in
      let l₁ : length s₁ ≡ n = length-set_page z y s h ly ∙ ls in
      let image : Alike (page s₁ z) (page g.pool fixed) =
      alike_trans (alike_eq (page-set_page z y s h ly))
      (alike_trans (alike_parent fixed (with_is_root 0 (page s fixed)))
      (alike_trans (alike_root 0 (page s fixed)) (alike_eq (fresh_other g.pool g.state free.1 fixed (λ e. omega arith))))) in
      let links = relinked_off z s₁ l₁ (clear_alike fixed z g.pool s₁ image clear) in
      let s₂ = relinked z s₁ in
      let sep = key_at (page g.pool g.state.root) 0 in
      let new = child_at (page g.pool g.state.root) 1 in
      let w = top_in z sep new (page s₂ fixed) in
      let l₂ : length s₂ ≡ n = links.0 in
      let f : There fixed s₂ = omega (arith, l₂, ls, h) in
      let lw : length w ≡ 4096 = top_in_long z sep new (page s₂ fixed) (length-page fixed s₂ f) in
      both_off z new fixed (set_page fixed w s₂) (length-set_page fixed w s₂ f lw ∙ l₂) (omega (arith, ls, h), λ e. omega arith) m
      ∙ page-set_page-other fixed w s₂ f lw x ne
      ∙ links.1
      ∙ page-set_page-other z y s h ly x (λ e. omega arith)
      ∙ fresh_other g.pool g.state free.1 x (λ e. omega arith)

  -- ---- what is kept all the way up

  -- the root of h is a new top, and the old root r can be relocated
  abbrev Pins : ℕ → Grown → Type 0
  Pins r h = Clear r h.pool × Off (child_at (page h.pool h.state.root) 1)

  -- from g, where the page l has divided, to h with the tree y
  record Stays (l r : ℕ) (g h : Grown) (y : Raised) : Type 0 where
    same : page h.pool x ≡ page g.pool x
    long : length h.pool ≡ n
    used-is : h.state.used ≡ y.used
    grows : Clear l g.pool → (h.state.root ≡ g.state.root) ⊎ ((y.grew ≡ 1) × Pins r h)

-- what is proved here, of a context. The pages w need not be those of the pool: of these only the pages above count.
abbrev Enters : (x n : ℕ) → Ctx → (s s' : Shape) → (l : ℕ) → Type 0
Enters x n c s s' l =
    (g : Grown) (w : Pages) (m sep new : ℕ) → length g.pool ≡ n → sep < 4294967296 → Entry 0 c w s s' l (m, new) g.state.used
    → HoldsC (view g.pool) 0 0 c (head s) (rest s) (first s) → AreBytes g.pool
    → (up c s' g.state.used).used * 4096 ≤ n → (up c s' g.state.used).used ≤ 65536 → x < g.state.used → (x ≡ new → ⊥) → Out x (pages_in (plug c s))
    → Stays x n l (head (plug c s)) g (enter_of (path c) l sep new g) (up c s' g.state.used)

-- ---- no page above

over_stays : (x n : ℕ) (s s' : Shape) (l : ℕ) → Enters x n top s s' l
over_stays x n s s' l g w m sep new long low f above B room few h ne out =
    let t : OnTop 0 w s s' l (m, new) g.state.used = entry_top f in
    let b : Both w 0 l new g.state.used = t.both in
    let lu : l < g.state.used = b.old_below in
    let nu : new < g.state.used = b.new-below in
    let free : Free g = (omega arith, omega (arith, long)) in
    let e : l ≡ head s = t.old_is in
    let o : x ≡ l → ⊥ = rw e (rw (tree_pages s f.tree) at out).0 in
    subst (λ (k : Grown). Stays x n l (head s) g k (up top s' g.state.used)) (enter_top [] l sep new g refl)
    (record {
      same = top_off x n l sep new g long free (omega arith, o) (omega arith, ne) h;
      long = top_length l sep new g free lu nu ∙ long;
      used-is = top_used l sep new g free lu nu ∙ add-one g.state.used;
      grows = λ k. inr (
        refl,
        (
          clear_alike x n l (head s) g.pool (top_over l sep new g).pool (rw (← e) (top_other l sep new g free lu nu l lu)) k,
          rw (top_right l sep new g free lu nu) (omega arith, ne),
        ),
      );
    })

-- ---- a page above

module _ (n : ℕ) (c : Ctx) (g : Grown) (w : Pages) (s s' : Shape) (l m sep new p : ℕ) (long : length g.pool ≡ n) (low : sep < 4294967296)
    (f : Entry 0 (under p c) w s s' l (m, new) g.state.used) (above : HoldsC (view g.pool) 0 0 (under p c) (head s) (rest s) (first s)) (B : AreBytes g.pool)
    (room : g.state.used * 4096 ≤ n) (few : g.state.used ≤ 65536) where
  abbrev u : ℕ
  u = g.state.used

  abbrev pg : List ℕ
  pg = page g.pool p

  abbrev spot : ℕ
  spot = place_in pg l

  o : OnPage c w s s' l (m, new) u p
  o = entry_page f

  p_low : p < u
  p_low = o.page-below

  n_low : new < u
  n_low = o.both.new-below

  there : (q : ℕ) → q < u → q * 4096 + 4096 ≤ n
  there q h = omega arith

  p_here : There p g.pool
  p_here = rw long (there p p_low)

  n_here : There new g.pool
  n_here = rw long (there new n_low)

  n_fits : new < 4294967296
  n_fits = omega (arith, n_low)

  is : view g.pool p ≡ inner_page (par_c 0 c) above.0 (head s) (rest s)
  is = above.1

  says : InnerSays pg (par_c 0 c) above.0 (head s) (rest s)
  says = inner_says pg (sym (view-page p g.pool) ∙ is)

  whole : IsPage pg
  whole = (bytes-page p g.pool B, length-page p g.pool p_here)

  kids_are : children_of pg ≡ kids (head s) (rest s)
  kids_are = says_children pg (par_c 0 c) above.0 (head s) (rest s) says

  count : length (rest s) ≡ cell_count pg
  count = says_count pg (par_c 0 c) above.0 (head s) (rest s) says

  -- what holds of all pages of s' holds of the children of p, and of new
  of_run : (P : ℕ → Type 0) → All P (pages_in s') → All P (kids (head s) (rest s)) × P new
  of_run P h =
      let a = roots_all P s' h in
      (kids_before P l (m, new) (head s) (rest s) (rw (roots_is s', f.ins.heads, sym f.ins.rests) at a), (ins_own P l (m, new) s s' f.ins a).1)

  split : Parts (pre_g c) p [] (pages_in s') (post_g c)
  split = parts (pre_g c) p [] (pages_in s') (post_g c) (rw append_assoc at f.distinct)

  below : All (λ q. q < u) (pre_g c ++ (p ∷ (pages_in s' ++ post_g c)))
  below = rw append_assoc at f.below

  below-run : All (λ q. q < u) (pages_in s' ++ post_g c)
  below-run = (all_right (λ q. q < u) (pre_g c) (p ∷ (pages_in s' ++ post_g c)) below).1

  kids_low : All (λ q. q < u) (kids (head s) (rest s))
  kids_low = (of_run (λ q. q < u) (all_left (λ q. q < u) (pages_in s') (post_g c) below-run)).0

  -- x is in use, and neither p, nor new, nor a child of p
  abbrev Beside : ℕ → Type 0
  Beside x = (x < u) × (x ≡ p → ⊥) × (x ≡ new → ⊥) × Out x (kids (head s) (rest s))

  module _ (x : ℕ) (h : Beside x) where
    new_off : Off x n new
    new_off = (there new n_low, h.2)

    kids_off : All (Off x n) (kids (head s) (rest s))
    kids_off =
        all_both (λ q. q * 4096 + 4096 ≤ n) (λ q. x ≡ q → ⊥) (kids (head s) (rest s))
        (all_map (λ q. q < u) (λ q. q * 4096 + 4096 ≤ n) there (kids (head s) (rest s)) kids_low) h.3

    old_off : Off x n l
    old_off = has_kid (Off x n) l (head s) (rest s) o.child kids_off

    -- it has room
    joined : length (rest s) < 510 → Stays x n l (head (plug c (node p s))) g (enter_of (p ∷ path c) l sep new g) (up (under p c) s' u)
    joined small =
        let y = with_entry spot sep new pg in
        let ly : length y ≡ 4096 =
        entry_long spot l sep new pg (par_c 0 c) above.0 (head s) (rest s) whole says refl o.child low n_fits (rw (← count) small) in
        let t = set_page p y g.pool in
        let lt : length t ≡ n = length-set_page p y g.pool p_here ly ∙ long in
        rw (
          ← (enter-room (p ∷ path c) (path c) p l sep new g.pool g.state refl refl refl refl (rw (← count) small) refl),
          up_room p c s' u (omega (arith, o.count)),
        )
        (record {
          same = both_off x n l new p t lt old_off new_off ∙ page-set_page-other p y g.pool p_here ly x h.1;
          long = (like_both l new p t (rw lt old_off.0) (rw lt new_off.0)).long ∙ lt;
          used-is = refl;
          grows = λ k. inl refl;
        })

  -- it divides, with one more page
  module _ (full : 510 ≤ length (rest s)) (free : Free g) where
    abbrev t₁ : List ℕ
    t₁ = linked new p g.pool

    abbrev g₁ : Grown
    g₁ = grown t₁ g.state

    abbrev g₂ : Grown
    g₂ = halved p spot sep new g₁

    abbrev key : ℕ
    key = middle_key spot sep new (page t₁ p)

    t₁_long : length t₁ ≡ n
    t₁_long = (like_linked new p g.pool n_here).long ∙ long

    t₁_bytes : AreBytes t₁
    t₁_bytes = bytes-set-page new _ g.pool (bytes-field 4 (page g.pool new) 2 p (bytes-page new g.pool B)) B

    free₁ : Free g₁
    free₁ = (free.0, omega (arith, t₁_long, long, free.1))

    pg-same : page t₁ p ≡ pg
    pg-same = linked_off p n new p g.pool long (there new n_low, λ e. o.new-page (sym e))

    is₁ : view t₁ p ≡ inner_page (par_c 0 c) above.0 (head s) (rest s)
    is₁ = view-page p t₁ ∙ rw pg-same (sym (view-page p g.pool) ∙ is)

    exact : length (rest s) ≡ 510
    exact = omega (arith, full, count, says.high)

    over : 510 < length (rest s')
    over = omega (arith, full, o.count)

    place₁ : spot ≡ place_in (page t₁ p) l
    place₁ = rw pg-same

    in₀ : spot ≤ 510
    in₀ = omega (arith, place_in_lem spot l sep new pg (par_c 0 c) above.0 (head s) (rest s) whole says refl o.child low n_fits, count, exact)

    full₁ : cell_count (page t₁ p) ≡ 510
    full₁ = rw pg-same (sym count ∙ exact)

    going : All (λ q. There q t₁) (kids (get_or (ins_after l (sep, new) (head s) (rest s)) 255 (0, 0)).1 (drop 256 (ins_after l (sep, new) (head s) (rest s))))
    going =
        moved_all l (sep, new) (λ q. There q t₁) (head s) (rest s) o.child exact
        (all_map (λ q. q < u) (λ q. There q t₁) (λ q h. rw t₁_long (there q h)) (kids (head s) (rest s)) kids_low) (rw t₁_long (there new n_low))

    long₂ : length g₂.pool ≡ n
    long₂ =
        halved-length p spot l sep new g₁ (par_c 0 c) above.0 (head s) (rest s) t₁_bytes free₁ p_low is₁ place₁ o.child exact low n_fits going ∙ t₁_long

    bytes₂ : AreBytes g₂.pool
    bytes₂ = halved-bytes p spot l sep new g₁ (par_c 0 c) above.0 (head s) (rest s) t₁_bytes free₁ p_low is₁ place₁ o.child exact low n_fits going

    used₂ : g₂.state.used ≡ suc u
    used₂ = halved-used p spot sep new g₁ ∙ add-one u

    module _ (x : ℕ) (h : Beside x) where
      kids_off₁ : All (Off x n) (children_of (page t₁ p))
      kids_off₁ = rw (pg-same, kids_are) (kids_off x h)

      same₂ : page g₂.pool x ≡ page g.pool x
      same₂ =
          halved_off x n p spot sep new g₁ t₁_long t₁_bytes free₁ p_low in₀ full₁ low n_fits kids_off₁ (new_off x h) h.0 h.1
          ∙ linked_off x n new p g.pool long (new_off x h)

      clear₂ : Clear x n p g₂.pool
      clear₂ = halved_clear x n p spot sep new g₁ t₁_long t₁_bytes free₁ p_low in₀ full₁ low n_fits kids_off₁ (new_off x h)

    -- the pages around the run, and what those above say of it, stay
    stay : (z : List ℕ) → All (λ q. q < u) z → Out p z → All (λ q. Out q (pages_in s')) z → Agree (view g.pool) (view g₂.pool) z
    stay [] b e d = tt
    stay (q ∷ z) b e d =
        let r = of_run (λ k. q ≡ k → ⊥) d.0 in
        (view-page q g₂.pool ∙ ap said (same₂ q (b.0, (λ k. e.0 (sym k)), r.1, r.0)) ∙ sym (view-page q g.pool), stay z b.1 e.1 d.1)

    above₂ : HoldsC (view g₂.pool) 0 0 c p [] (first s)
    above₂ =
        rep_c_frame (view g.pool) (view g₂.pool) 0 0 c p [] (first s)
        (stay (pre_g c) (all_left (λ q. q < u) (pre_g c) (p ∷ (pages_in s' ++ post_g c)) below) split.pg (out-flip (pages_in s') (pre_g c) split.rg))
        (stay (post_g c) (all_right (λ q. q < u) (pages_in s') (post_g c) below-run) split.po (out-flip (pages_in s') (post_g c) split.ro))
        above.2

    abbrev over_it : Shape
    over_it = pair (node p (cut 255 s').left) (cut 255 s').mid (node u (cut 255 s').right)

    enters : enter_of (path c) p key u g₂ ≡ enter_of (p ∷ path c) l sep new g
    unfolding next_page
    enters = enter_over (p ∷ path c) (path c) p l sep new g.pool g.state refl refl refl refl (omega (arith, full, count)) refl

    -- what is left is the same one level up
    halves : (x : ℕ) → Beside x → Out x (pages_in (plug c (node p s))) → (up c over_it (suc u)).used * 4096 ≤ n → (up c over_it (suc u)).used ≤ 65536
        → Enters x n c (node p s) over_it p → Stays x n l (head (plug c (node p s))) g (enter_of (p ∷ path c) l sep new g) (up (under p c) s' u)
    halves x h out room₂ few₂ again =
        let x-low : x < u = h.0 in
        let r : Stays x n p (head (plug c (node p s))) g₂ (enter_of (path c) p key u g₂) (up c over_it (suc u)) =
        subst (λ (k : ℕ). Stays x n p (head (plug c (node p s))) g₂ (enter_of (path c) p key u g₂) (up c over_it k)) used₂
        (again g₂ (dv w p u (par_c 0 c) above.0 (cut 255 s').left (cut 255 s').right) (cut 255 s').mid key u long₂ (middle_less spot sep new (page t₁ p))
        (rw used₂ (entry_half above.0 f over)) above₂ bytes₂ (rw used₂ room₂) (rw used₂ few₂) (rw used₂ (omega arith)) (λ e. omega arith) out) in
        rw (← enters, up_half p c s' u over)
        (record {
          same = r.same ∙ same₂ x h;
          long = r.long;
          used-is = r.used-is;
          grows = λ k. ⊎_elim (λ e. inl (e ∙ halved-root p spot sep new g₁)) (λ e. inr e) (r.grows (clear₂ x h));
        })

  -- a page that is not in the tree is beside
  outside : (x : ℕ) → x < u → (x ≡ new → ⊥) → Out x (pages_in (plug c (node p s))) → Beside x
  outside x h ne out =
      let r = all_right (λ q. x ≡ q → ⊥) (pre_g c) (p ∷ (pages_in s ++ post_g c)) (rw (plug_pages c (node p s)) at out) in
      (h, r.0, ne, subst (Out x) (roots_is s) (roots_all (λ q. x ≡ q → ⊥) s (all_left (λ q. x ≡ q → ⊥) (pages_in s) (post_g c) r.1)))

-- ---- all the way up

enter-stays : (x n : ℕ) (c : Ctx) (s s' : Shape) (l : ℕ) → Enters x n c s s' l
enter-stays x n top s s' l g w m sep new long low f above B room few h ne out = over_stays x n s s' l g w m sep new long low f above B room few h ne out
enter-stays x n (in_l k b c) s s' l g w m sep new long low f above B room few h ne out =
    enter-stays x n c (pair s k b) (pair s' k b) l g w m sep new long low (entry_in_l f) above.1 B room few h ne out
enter-stays x n (in_r a k c) s s' l g w m sep new long low f above B room few h ne out =
    enter-stays x n c (pair a k s) (pair a k s') l g w m sep new long low (entry_in_r f) above.1 B room few h ne out
enter-stays x n (under p c) s s' l g w m sep new long low f above B room few h ne out =
    by_size (le_or_lt 510 (length (rest s)))
    (enter-stays x n c (node p s) (pair (node p (cut 255 s').left) (cut 255 s').mid (node g.state.used (cut 255 s').right)) p)
  where
    u : ℕ
    u = g.state.used

    raised : Shape
    raised = pair (node p (cut 255 s').left) (cut 255 s').mid (node u (cut 255 s').right)

    more : u ≤ (up (under p c) s' u).used
    more = up_more (under p c) s' u

    room₀ : u * 4096 ≤ n
    room₀ = omega (arith, more, room)

    few₀ : u ≤ 65536
    few₀ = omega (arith, more, few)

    by_size : (510 ≤ length (rest s)) ⊎ (length (rest s) < 510) → Enters x n c (node p s) raised p
        → Stays x n l (head (plug c (node p s))) g (enter_of (p ∷ path c) l sep new g) (up (under p c) s' u)
    by_size (inr small) again =
        joined n c g w s s' l m sep new p long low f above B room₀ few₀ x (outside n c g w s s' l m sep new p long low f above B room₀ few₀ x h ne out) small
    by_size (inl full) again =
        let e : up (under p c) s' u ≡ up c raised (suc u) = up_half p c s' u (omega (arith, (entry_page f).count)) in
        let room₁ : (up c raised (suc u)).used * 4096 ≤ n = subst (λ (y : Raised). y.used * 4096 ≤ n) e room in
        let few₁ : (up c raised (suc u)).used ≤ 65536 = subst (λ (y : Raised). y.used ≤ 65536) e few in
        let i : suc u ≤ (up c raised (suc u)).used = up_more c raised (suc u) in
        halves n c g w s s' l m sep new p long low f above B room₀ few₀ full (omega arith, omega (arith, long)) x
        (outside n c g w s s' l m sep new p long low f above B room₀ few₀ x h ne out) out room₁ few₁ again

-- ---- a leaf divides, and all that follows

module _ (s : List ℕ) (root used : ℕ) (c : Ctx) (p : ℕ) (rs left : List Row) (z : Row) (right : List Row) (k : ℕ) (v : List ℕ)
    (f : WellFormed (view s) root used (plug c (leaf p rs))) (B : AreBytes s) (Bv : AreBytes v)
    (few-left : length (rows_bytes left) ≤ 4084) (few-right : length (rows_bytes (z ∷ right)) ≤ 4084) (v-is : v ≡ part 0 12 (page s p) ++ rows_bytes (left ++ (z ∷ right)))
    (room : used_after root (divided_tree c p used left z right) * 4096 ≤ length s) (few : used_after root (divided_tree c p used left z right) ≤ 65536) where
  abbrev st : State
  st = record { root = root; used = used }

  abbrev two : Shape
  two = pair (leaf p left) z.key (leaf used (z ∷ right))

  abbrev tree : Raised
  tree = divided_tree c p used left z right

  more : suc used ≤ tree.used
  more = up_more c two (suc used)

  used-there : There used s
  used-there = omega (arith, more, room)

  in_use : All (λ q. q < used) (pre_g c ++ (p ∷ post_g c))
  in_use = rw (plug_pages c (leaf p rs)) at f.below

  after-low : All (λ q. q < used) (p ∷ post_g c)
  after-low = all_right (λ q. q < used) (pre_g c) (p ∷ post_g c) in_use

  around : Parts (pre_g c) p [] [] (post_g c)
  around = parts (pre_g c) p [] [] (post_g c) (rw (plug_pages c (leaf p rs)) at f.distinct)

  held : HoldsC (view s) 0 0 c p [] p × (view s p ≡ leaf_page (par_c 0 c) (nxt_c 0 c) rs)
  held = unplug_rep (view s) 0 0 c (leaf p rs) f.rep

  root_is : head (plug c (leaf p rs)) ≡ root
  root_is = f.root_is

  -- ---- the leaf divides

  abbrev pool₁ : List ℕ
  pool₁ = divided p used k (cut_after left) v (with_fresh s st)

  leaf-long : length (page s p) ≡ 4096
  leaf-long = length-page p s (omega (arith, used-there, after-low.0))

  v_long : length v ≡ 12 + (length (rows_bytes left) + length (rows_bytes (z ∷ right)))
  v_long =
      ap (λ (l : List ℕ). length l) v-is
      ∙ length_headed (page s p) (rows_bytes (left ++ (z ∷ right))) leaf-long
      ∙ rw (rows_append left (z ∷ right), length-append (rows_bytes left) (rows_bytes (z ∷ right)))

  leaf_divides : LeafDivided s st p (grown (divided p (next_page s st) k (cut_after left) v (with_fresh s st)) (allocated s st).state)
  leaf_divides =
      let h : length (part 0 12 (page s p)) ≡ 12 = length_part 0 12 (page s p) (omega (arith, leaf-long)) in
      divided-leaf s st p k (cut_after left) v after-low.0 used-there (leaf_says (page s p) (sym (view-page p s) ∙ held.1)).type
      (rw v-is (part_left 0 12 (part 0 12 (page s p)) (rows_bytes (left ++ (z ∷ right))) (omega (arith, h)) ∙ part-whole 12 (part 0 12 (page s p)) h))
      few-left
      (omega (arith, v_long))
      (omega (arith, v_long))

  long₁ : length pool₁ ≡ length s
  unfolding next_page
  long₁ = leaf_divides.long

  same₁ : (q : ℕ) → q < used → (q ≡ p → ⊥) → page pool₁ q ≡ page s q
  unfolding next_page
  same₁ = leaf_divides.same

  kind₁ : node_type (page pool₁ p) ≡ 1
  unfolding next_page
  kind₁ = leaf_divides.leaf

  bytes₁ : AreBytes pool₁
  unfolding with_fresh
  bytes₁ = bytes-divided p used k (cut_after left) v _ Bv (bytes-set-page (next_page s st) (zeros 4096) s (bytes-zeros 4096) B)

  around_same : (l : List ℕ) → All (λ q. q < used) l → Out p l → Agree (view s) (view pool₁) l
  around_same l b e =
      all_map (λ q. (q < used) × (p ≡ q → ⊥)) (λ q. view pool₁ q ≡ view s q)
      (λ q h. view-page q pool₁ ∙ ap said (same₁ q h.0 (λ d. h.1 (sym d))) ∙ sym (view-page q s)) l (all_both (λ q. q < used) (λ q. p ≡ q → ⊥) l b e)

  above₁ : HoldsC (view pool₁) 0 0 c p [] p
  above₁ =
      rep_c_frame (view s) (view pool₁) 0 0 c p [] p (around_same (pre_g c) (all_left (λ q. q < used) (pre_g c) (p ∷ post_g c) in_use) around.pg)
      (around_same (post_g c) after-low.1 around.po) held.0

  -- ---- its right side is entered above, and the root keeps its number

  abbrev h₁ : Grown
  h₁ = grown pool₁ (record { root = root; used = suc used })

  abbrev h₂ : Grown
  h₂ = enter_of (path c) p (rank_at (page pool₁ used) 12) used h₁

  up_is : (plan : Planned) → plan.path ≡ path_of (p ∷ path c) → plan.cut ≡ cut_after left → divided_up plan p k v (grown s st) ≡ kept_root root h₂
  unfolding divided_up settled next_page allocated
  up_is plan path_is cut_is = rw (path_is, path_above p (path c), cut_is, add-one used)

  module _ (x : ℕ) (low : x < used) (out : Out x (pages_in (plug c (leaf p rs)))) where
    outs : Out x (pre_g c ++ (p ∷ post_g c))
    outs = rw (plug_pages c (leaf p rs)) at out

    off_leaf : page pool₁ x ≡ page s x
    off_leaf = same₁ x low (all_right (λ q. x ≡ q → ⊥) (pre_g c) (p ∷ post_g c) outs).0

    off_root : x ≡ root → ⊥
    off_root = rw (← root_is) (rw (tree_pages (plug c (leaf p rs)) f.tree) at out).0

    entered_off : Stays x (length s) p (head (plug c (leaf p rs))) h₁ h₂ tree
    entered_off =
        enter-stays x (length s) c (leaf p rs) two p h₁ (leaf_pool (view s) c p used left (z ∷ right)) z.key (rank_at (page pool₁ used) 12) used long₁ (flip_less _)
        (entry_leaf (view s) root used c p rs left (z ∷ right) z.key f) above₁ bytes₁ (omega (arith, room)) (omega (arith, few)) (omega arith) (λ e. omega arith) out

    all_off_root : page (kept_root root h₂).pool x ≡ page s x
    all_off_root = by_root (eqb root 0) refl (eqb h₂.state.root root) refl
      where
        pinned : eqb root 0 ≡ false → (h₂.state.root ≡ root → ⊥) → (h₂.state.root ≡ root) ⊎ ((tree.grew ≡ 1) × Pins x (length s) (head (plug c (leaf p rs))) h₂)
            → page (pin_of root h₂).pool x ≡ page h₂.pool x
        pinned e ne (inl i) = absurd (ne i)
        pinned e ne (inr i) =
            let last : used_after root tree ≡ suc h₂.state.used = rw (e, i.0) (add-one tree.used ∙ ap suc (sym entered_off.used-is)) in
            let low-root : root < used =
            subst (λ (q : ℕ). q < used) root_is (rw (tree_pages (plug c (leaf p rs)) f.tree) at f.below).0 in
            let total = entered_off.long in
            let used-is = entered_off.used-is in
            pin_off x (length s) root h₂ total (omega (arith, last, few), omega (arith, last, room)) (omega (arith, more))
            (subst (λ (q : ℕ). Clear x (length s) q h₂.pool) root_is i.1.0) i.1.1 (omega (arith, more)) off_root

        by_root : (a : Bool) → eqb root 0 ≡ a → (b : Bool) → eqb h₂.state.root root ≡ b → page (kept_root root h₂).pool x ≡ page s x
        by_root true e b eq = rw (← (keep_zero root h₂.pool h₂.state (eqb-true root 0 e))) (entered_off.same ∙ off_leaf)
        by_root false e true eq =
            rw (← (keep_same root h₂.pool h₂.state (eqb-false root 0 e) (eqb-true h₂.state.root root eq))) (entered_off.same ∙ off_leaf)
        by_root false e false eq =
            let ne = eqb-false h₂.state.root root eq in
            let top_is = entered_off.grows (λ d. absurd (let i : ◌≡◌ {A = ℕ} 1 0 = sym kind₁ ∙ d in omega arith)) in
            rw (← (keep_pinned root h₂.pool h₂.state (eqb-false root 0 e) ne refl)) (pinned e ne top_is ∙ entered_off.same ∙ off_leaf)

-- the leaf p of the tree t divides as planned: v is what it would hold
pub divided-up_elsewhere : (s : List ℕ) (root used : ℕ) (t : Shape) (c : Ctx) (p : ℕ) (rs left : List Row) (z : Row) (right : List Row)
    (plan : Planned) (n : ℕ) (v : List ℕ) → t ≡ plug c (leaf p rs) → WellFormed (view s) root used t → AreBytes s → AreBytes v
    → length (rows_bytes left) ≤ 4084 → length (rows_bytes (z ∷ right)) ≤ 4084 → v ≡ part 0 12 (page s p) ++ rows_bytes (left ++ (z ∷ right))
    → plan.path ≡ path_of (p ∷ path c) → plan.cut ≡ record { cells = length left; bytes = length (rows_bytes left) }
    → used_after root (divided_tree c p used left z right) * 4096 ≤ length s → used_after root (divided_tree c p used left z right) ≤ 65536
    → (x : ℕ) → x < used → mem x (pages_in t) ≡ false → page (divided_up plan p n v (grown s (record { root = root; used = used }))).pool x ≡ page s x
divided-up_elsewhere s root used t c p rs left z right plan n v t_is f B Bv few-left few-right v-is path_is cut_is room few x low out =
    let f₁ : WellFormed (view s) root used (plug c (leaf p rs)) = subst (λ (y : Shape). WellFormed (view s) root used y) t_is f in
    rw (up_is s root used c p rs left z right n v f₁ B Bv few-left few-right v-is room few plan path_is cut_is)
    (all_off_root s root used c p rs left z right n v f₁ B Bv few-left few-right v-is room few x low (mem-out x (pages_in (plug c (leaf p rs))) (rw t_is at out)))
