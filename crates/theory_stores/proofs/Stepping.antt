-- The steps upward from a page that was divided, as steps on pages as values, and what each keeps. Assumes nothing.
use mathlib.Core.Path.{◌≡◌, refl, sym, ap, ap₂, ◌∙◌, subst}
use mathlib.Core.Bool.{Bool, true, false}
use mathlib.Core.List.{List, [], ◌∷◌}
use Prim.Native.Nat.{ℕ, zero, suc, ◌+◌, ◌≤◌, ◌<◌}
use native.Mathlib.Omega.{arith}
use borrow.Author.Tests.{eqb-true, eqb-false}
use lib.Dec.{eqb}
use lib.ListN.{length, drop, take, get_or, length-drop}
use Rattle.store.specs.Le.{AreBytes}
use Rattle.store.specs.Part.{part, pad, zeros}
use Rattle.page.specs.Page.{page, set_page}
use Rattle.page.specs.Header.{cell_count, next_leaf, with_node_type, with_is_root, with_parent}
use Rattle.page.specs.Key.{flip, key_bytes}
use Rattle.page.specs.Pool.{next_page, with_fresh, Grown}
use Rattle.page.specs.declared.pool.State.{State}
use Rattle.inner.specs.Inner.{key_at, child_at, children_from}
use Rattle.inner_edit.specs.Edit.{pair_bytes, entered, with_entry, left_half, right_half, top_page, adopted}
use Rattle.inner_edit.specs.Facts.{IsPage}
use Rattle.tree_grow.specs.Grow.{linked, linked_both, top_over, place_in, joined_to, halved, relinked, top_in, pin_of}
use Rattle.tree_grow.specs.Steps.Safe.{There, Free}
use Rattle.theory_tree.specs.Pages.{Page, leaf_page, inner_page, no_page, Pages, with_page}
use Rattle.theory_tree.specs.Shape.{All}
use Rattle.theory_tree.specs.View.{entries_from, said, view}
use Rattle.store.proofs.LeLaws.{length-put_at, le_at_lt, le_at-put_at_above}
use Rattle.page.proofs.KeyLaws.{flip_less}
use Rattle.page.proofs.PageLaws.{length-page, length-set_page, page-set_page, page-set_page-other, length-zeros}
use Rattle.leaf.proofs.Bytes.{bytes-page}
use Rattle.inner_edit.proofs.Lists.{children_read, read_ext}
use Rattle.tree_grow.proofs.Likeness.{like_linked, like_both}
use Rattle.tree_grow.proofs.Halving.{left-long, right-long}
use Rattle.tree_grow.proofs.Stepping.{fresh_long, fresh_here, fresh_other}
use Rattle.tree_grow.proofs.Pinning.{relink_inner, relink-leaf}
use Rattle.theory_tree.proofs.Workers.{set_par, reparent}
use Rattle.theory_tree.proofs.Entries.{next_of, ins_after, kids}
use Rattle.theory_tree.proofs.Enter.{has, ins_length}
use Rattle.theory_tree.proofs.Frame.{with_page-same}
use Rattle.theory_tree.proofs.Lists.{all_map}
use Rattle.theory_tree.proofs.Pin.{under?, moved}
use Rattle.theory_tree.proofs.Says.{InnerSays, leaf_says, inner_says}
use Rattle.theory_tree.proofs.Links.{set_twice}
use Rattle.theory_stores.proofs.Keeping.{bytes-append, bytes-zeros, bytes-number, bytes-field, bytes-pad, bytes-spliced, bytes-set-page}
use Rattle.theory_stores.proofs.Viewing.{view-page, view-set, said_parent, said-root, view-linked, view-linked_both, view_fresh}
use Rattle.theory_stores.proofs.Entering.{says_children, says_count, place_in_lem, entry_long, said_entry, said-left, said-right, top_long, said_top, top_in_long, said_top_in}
use Rattle.store.proofs.PartLaws.{bytes-part}

-- ---- bytes of the pages that are made

bytes-entered : (i sep new : ℕ) (pg : List ℕ) → AreBytes pg → AreBytes (entered i sep new pg)
unfolding entered
bytes-entered i sep new pg B =
    bytes-spliced _ _ _ (pair_bytes sep new) pg (bytes-append (key_bytes sep) _ (bytes-number 4 (flip sep)) (bytes-number 4 new)) B

bytes_entry : (i sep new : ℕ) (pg : List ℕ) → AreBytes pg → AreBytes (with_entry i sep new pg)
unfolding with_entry
bytes_entry i sep new pg B = bytes-field 2 _ 6 _ (bytes-pad 4096 (entered i sep new pg) (bytes-entered i sep new pg B))

bytes_left : (i sep new : ℕ) (pg : List ℕ) → AreBytes pg → AreBytes (left_half i sep new pg)
unfolding left_half
bytes_left i sep new pg B = bytes-field 2 _ 6 255 (bytes-pad 4096 _ (bytes-part 0 2056 (entered i sep new pg) (bytes-entered i sep new pg B)))

bytes-right : (i sep new : ℕ) (pg fresh : List ℕ) → AreBytes pg → AreBytes fresh → AreBytes (right_half i sep new pg fresh)
unfolding right_half
bytes-right i sep new pg fresh B Z =
    bytes-field 2 _ 6 255
    (bytes-pad 4096 _
    (bytes-append (part 0 12 fresh) _ (bytes-part 0 12 fresh Z) (bytes-part 2060 2044 (entered i sep new pg) (bytes-entered i sep new pg B))))

bytes_top : (left sep right : ℕ) (pg : List ℕ) → AreBytes pg → AreBytes (top_page left sep right pg)
unfolding top_page
bytes_top left sep right pg B =
    bytes-field 4 _ 20 right (bytes-field 4 _ 16 (flip sep) (bytes-field 4 _ 12 left (bytes-field 2 _ 6 1 (bytes-field 1 pg 1 1 B))))

bytes_fresh : (s : List ℕ) (st : State) → AreBytes s → AreBytes (with_fresh s st)
unfolding with_fresh
bytes_fresh s st B = bytes-set-page (next_page s st) (zeros 4096) s (bytes-zeros 4096) B

pub bytes-linked : (c q : ℕ) (s : List ℕ) → AreBytes s → AreBytes (linked c q s)
bytes-linked c q s B = bytes-set-page c _ s (bytes-field 4 (page s c) 2 q (bytes-page c s B)) B

-- ---- parent links, one after another

all_there : (s t ks : List ℕ) → length t ≡ length s → All (λ c. There c s) ks → All (λ c. There c t) ks
all_there s t ks e = all_map (λ c. There c s) (λ c. There c t) (λ c h. rw e h) ks

-- t is s with the parent q in the pages ks
pub record Adopts (q : ℕ) (ks s t : List ℕ) : Type 0 where
  pub views : view t ≡ reparent q ks (view s)
  pub long : length t ≡ length s
  pub bytes : AreBytes s → AreBytes t
  pub next : (x : ℕ) → next_leaf (page t x) ≡ next_leaf (page s x)

adopts_none : (q : ℕ) (s : List ℕ) → Adopts q [] s s
adopts_none q s = record { views = refl; long = refl; bytes = λ b. b; next = λ x. refl }

linked-next : (c q : ℕ) (s : List ℕ) → There c s → (x : ℕ) → next_leaf (page (linked c q s) x) ≡ next_leaf (page s x)
linked-next c q s h x = by_page (eqb x c) refl
  where
    len : length (with_parent q (page s c)) ≡ 4096
    len = length-put_at 4 (page s c) 2 q ∙ length-page c s h

    by_page : (b : Bool) → eqb x c ≡ b → next_leaf (page (linked c q s) x) ≡ next_leaf (page s x)
    by_page true e = rw (eqb-true x c e, page-set_page c (with_parent q (page s c)) s h len) (le_at-put_at_above 4 4 (page s c) 2 q 8 (omega arith))
    by_page false e = ap next_leaf (page-set_page-other c (with_parent q (page s c)) s h len x (eqb-false x c e))

children-same : (a b : List ℕ) → ((k : ℕ) → child_at a k ≡ child_at b k) → (n i : ℕ) → children_from a i n ≡ children_from b i n
children-same a b h n i = rw (children_read n i a, children_read n i b) (read_ext (child_at a) (child_at b) n i i (λ k l. h (i + k)))

adopts_from : (n i p q : ℕ) (s : List ℕ) → q < 4294967296 → All (λ c. There c s) (children_from (page s p) i n)
    → Adopts q (children_from (page s p) i n) s (adopted n i p q s)
unfolding adopted children_from
adopts_from zero i p q s l h = adopts_none q s
adopts_from (suc n) i p q s l h =
    let c = child_at (page s p) i in
    let t = linked c q s in
    let like = like_linked c q s h.0 in
    let same : children_from (page t p) (i + 1) n ≡ children_from (page s p) (i + 1) n = children-same (page t p) (page s p) (like.each p).child n (i + 1) in
    let there : All (λ x. There x t) (children_from (page t p) (i + 1) n) =
    subst (λ (ks : List ℕ). All (λ x. There x t) ks) (sym same) (all_there s t (children_from (page s p) (i + 1) n) like.long h.1) in
    let ih = adopts_from n (i + 1) p q t l there in
    record {
      views = ih.views ∙ ap₂ (λ (ks : List ℕ) (w : Pages). reparent q ks w) same (view-linked c q s h.0 l);
      long = ih.long ∙ like.long;
      bytes = λ b. ih.bytes (bytes-linked c q s b);
      next = λ x. ih.next x ∙ linked-next c q s h.0 x;
    }

pub adopts : (n i p q : ℕ) (ks s : List ℕ) → q < 4294967296 → children_from (page s p) i n ≡ ks → All (λ c. There c s) ks → Adopts q ks s (adopted n i p q s)
adopts n i p q ks s l e h =
    subst (λ (cs : List ℕ). Adopts q cs s (adopted n i p q s)) e (adopts_from n i p q s l (subst (λ (cs : List ℕ). All (λ c. There c s) cs) (sym e) h))

-- ---- page p has room

module _ (p old sep new : ℕ) (g : Grown) (par j h : ℕ) (r : List (ℕ × ℕ)) (B : AreBytes g.pool)
    (p_there : There p g.pool) (old-there : There old g.pool) (new-there : There new g.pool)
    (is : view g.pool p ≡ inner_page par j h r) (child : has old h r ≡ true) (few : length r < 510)
    (p_fits : p < 4294967296) (sep_fits : sep < 4294967296) (new-fits : new < 4294967296) where
  abbrev pg : List ℕ
  pg = page g.pool p

  abbrev entry : List ℕ
  entry = with_entry (place_in pg old) sep new pg

  whole : IsPage pg
  whole = (bytes-page p g.pool B, length-page p g.pool p_there)

  says : InnerSays pg par j h r
  says = inner_says pg (sym (view-page p g.pool) ∙ is)

  room : cell_count pg < 510
  room = rw (← (says_count pg par j h r says)) few

  long : length entry ≡ 4096
  long = entry_long (place_in pg old) old sep new pg par j h r whole says refl child sep_fits new-fits room

  stored_long : length (set_page p entry g.pool) ≡ length g.pool
  stored_long = length-set_page p entry g.pool p_there long

  pub view-joined : view (joined_to p old sep new g).pool ≡ reparent p (old ∷ new ∷ []) (with_page (view g.pool) p (inner_page par j h (ins_after old (sep, new) h r)))
  unfolding joined_to
  view-joined =
      view-linked_both old new p (set_page p entry g.pool) (rw stored_long old-there) (rw stored_long new-there) p_fits
      ∙ ap (reparent p (old ∷ new ∷ []))
      (view-set p entry g.pool p_there long
      ∙ ap (with_page (view g.pool) p) (said_entry (place_in pg old) old sep new pg par j h r whole says refl child sep_fits new-fits room))

  pub joined_length : length (joined_to p old sep new g).pool ≡ length g.pool
  unfolding joined_to
  joined_length = (like_both old new p (set_page p entry g.pool) (rw stored_long old-there) (rw stored_long new-there)).long ∙ stored_long

  pub joined_bytes : AreBytes (joined_to p old sep new g).pool
  unfolding joined_to
  joined_bytes = bytes-linked new p _ (bytes-linked old p _ (bytes-set-page p entry g.pool (bytes_entry _ sep new pg whole.0) B))

-- ---- page p has 510 keys

module _ (p i old sep new : ℕ) (g : Grown) (par j h : ℕ) (r : List (ℕ × ℕ)) (B : AreBytes g.pool) (free : Free g) (less : p < g.state.used)
    (is : view g.pool p ≡ inner_page par j h r) (place : i ≡ place_in (page g.pool p) old) (child : has old h r ≡ true) (full : length r ≡ 510)
    (sep_fits : sep < 4294967296) (new-fits : new < 4294967296)
    (moved-there : All (λ c. There c g.pool) (kids (get_or (ins_after old (sep, new) h r) 255 (0, 0)).1 (drop 256 (ins_after old (sep, new) h r)))) where
  abbrev R : List (ℕ × ℕ)
  R = ins_after old (sep, new) h r

  abbrev u : ℕ
  u = g.state.used

  abbrev here : List ℕ
  here = page g.pool p

  abbrev goes : List ℕ
  goes = kids (get_or R 255 (0, 0)).1 (drop 256 R)

  abbrev s₀ : List ℕ
  s₀ = with_fresh g.pool g.state

  abbrev left : List ℕ
  left = left_half i sep new here

  abbrev right : List ℕ
  right = right_half i sep new here (zeros 4096)

  abbrev s₁ : List ℕ
  s₁ = set_page u right s₀

  abbrev s₂ : List ℕ
  s₂ = set_page p left s₁

  whole₂ : IsPage here
  whole₂ = (bytes-page p g.pool B, length-page p g.pool (omega (arith, free.1)))

  says₂ : InnerSays here par j h r
  says₂ = inner_says here (sym (view-page p g.pool) ∙ is)

  full₂ : cell_count here ≡ 510
  full₂ = sym (says_count here par j h r says₂) ∙ full

  in₀ : i ≤ 510
  in₀ = rw (← full₂) (place_in_lem i old sep new here par j h r whole₂ says₂ place child sep_fits new-fits)

  halved_is : (halved p i sep new g).pool ≡ adopted 256 0 u u s₂
  unfolding halved next_page
  halved_is = rw (fresh_other g.pool g.state free.1 p (λ e. omega arith), fresh_here g.pool g.state free.1)

  s₀_long : length s₀ ≡ length g.pool
  s₀_long = fresh_long g.pool g.state free.1

  u_there : There u s₀
  u_there = rw s₀_long free.1

  l_long : length left ≡ 4096
  l_long = left-long i sep new here whole₂.1 full₂ in₀

  r_long : length right ≡ 4096
  r_long = right-long i sep new here whole₂.1 full₂ in₀ (zeros 4096) length-zeros

  s₁_long : length s₁ ≡ length g.pool
  s₁_long = length-set_page u right s₀ u_there r_long ∙ s₀_long

  p_there₂ : There p s₁
  p_there₂ = omega (arith, s₁_long, free.1)

  s₂_long : length s₂ ≡ length g.pool
  s₂_long = length-set_page p left s₁ p_there₂ l_long ∙ s₁_long

  said_r : said right ≡ inner_page 0 0 (get_or R 255 (0, 0)).1 (drop 256 R)
  said_r = said-right i old sep new here par j h r whole₂ says₂ place child sep_fits new-fits full₂

  right_there : page s₂ u ≡ right
  right_there = page-set_page-other p left s₁ p_there₂ l_long u (λ e. omega arith) ∙ page-set_page u right s₀ u_there r_long

  right_kids : children_from right 0 256 ≡ goes
  right_kids =
      let says = inner_says right said_r in
      let n : cell_count right ≡ 255 =
      sym (says_count right 0 0 _ (drop 256 R) says) ∙ (length-drop 256 R ∙ omega (arith, ins_length old (sep, new) h r child)) in
      rw n at (says_children right 0 0 _ (drop 256 R) says)

  all_adopted : Adopts u goes s₂ (adopted 256 0 u u s₂)
  all_adopted = adopts 256 0 u u goes s₂ (omega (arith, free.0)) (rw right_there right_kids) (all_there g.pool s₂ goes s₂_long moved-there)

  view_split : view s₂ ≡ with_page (with_page (view g.pool) u (inner_page 0 0 (get_or R 255 (0, 0)).1 (drop 256 R))) p (inner_page par j h (take 255 R))
  view_split =
      view-set p left s₁ p_there₂ l_long
      ∙ ap₂ (λ (w : Pages) (x : Page). with_page w p x)
      (view-set u right s₀ u_there r_long
      ∙ ap₂ (λ (w : Pages) (x : Page). with_page w u x) (view_fresh g.pool g.state free.1) said_r
      ∙ set_twice (view g.pool) u no_page _)
      (said-left i old sep new here par j h r whole₂ says₂ place child sep_fits new-fits full₂)

  pub view-halved : view (halved p i sep new g).pool
      ≡ reparent g.state.used (kids (get_or (ins_after old (sep, new) h r) 255 (0, 0)).1 (drop 256 (ins_after old (sep, new) h r)))
      (with_page
      (with_page (view g.pool) g.state.used (inner_page 0 0 (get_or (ins_after old (sep, new) h r) 255 (0, 0)).1 (drop 256 (ins_after old (sep, new) h r))))
      p (inner_page par j h (take 255 (ins_after old (sep, new) h r))))
  view-halved = ap view halved_is ∙ all_adopted.views ∙ ap (reparent u goes) view_split

  pub halved-length : length (halved p i sep new g).pool ≡ length g.pool
  halved-length = ap (λ (s : List ℕ). length s) halved_is ∙ all_adopted.long ∙ s₂_long

  pub halved-bytes : AreBytes (halved p i sep new g).pool
  halved-bytes =
      subst AreBytes (sym halved_is)
      (all_adopted.bytes
      (bytes-set-page p left s₁ (bytes_left i sep new here whole₂.0)
      (bytes-set-page u right s₀ (bytes-right i sep new here (zeros 4096) whole₂.0 (bytes-zeros 4096)) (bytes_fresh g.pool g.state B))))

-- ---- the root grows

module _ (old sep new : ℕ) (g : Grown) (free : Free g) (old-there : There old g.pool) (new-there : There new g.pool)
    (old-fits : old < 4294967296) (sep_fits : sep < 4294967296) (new-fits : new < 4294967296) where
  abbrev top : List ℕ
  top = top_page old sep new (zeros 4096)

  abbrev t₀ : List ℕ
  t₀ = with_fresh g.pool g.state

  abbrev t₁ : List ℕ
  t₁ = set_page g.state.used top t₀

  top_is : (top_over old sep new g).pool ≡ linked_both old new g.state.used t₁
  unfolding top_over next_page
  top_is = rw (fresh_here g.pool g.state free.1)

  t₀_long : length t₀ ≡ length g.pool
  t₀_long = fresh_long g.pool g.state free.1

  t_there : There g.state.used t₀
  t_there = rw t₀_long free.1

  t_long : length top ≡ 4096
  t_long = top_long old sep new (zeros 4096) length-zeros

  t₁_long : length t₁ ≡ length g.pool
  t₁_long = length-set_page g.state.used top t₀ t_there t_long ∙ t₀_long

  pub view_top : view (top_over old sep new g).pool
      ≡ reparent g.state.used (old ∷ new ∷ []) (with_page (view g.pool) g.state.used (inner_page 0 0 old ((sep, new) ∷ [])))
  view_top =
      ap view top_is
      ∙ view-linked_both old new g.state.used t₁ (rw t₁_long old-there) (rw t₁_long new-there) (omega (arith, free.0))
      ∙ ap (reparent g.state.used (old ∷ new ∷ []))
      (view-set g.state.used top t₀ t_there t_long
      ∙ ap₂ (λ (w : Pages) (x : Page). with_page w g.state.used x) (view_fresh g.pool g.state free.1) (said_top old sep new old-fits sep_fits new-fits)
      ∙ set_twice (view g.pool) g.state.used no_page _)

  pub topped-length : length (top_over old sep new g).pool ≡ length g.pool
  topped-length =
      ap (λ (s : List ℕ). length s) top_is ∙ (like_both old new g.state.used t₁ (rw t₁_long old-there) (rw t₁_long new-there)).long ∙ t₁_long

  pub topped-bytes : AreBytes g.pool → AreBytes (top_over old sep new g).pool
  topped-bytes B =
      subst AreBytes (sym top_is)
      (bytes-linked new g.state.used _
      (bytes-linked old g.state.used t₁
      (bytes-set-page g.state.used top t₀ (bytes_top old sep new (zeros 4096) (bytes-zeros 4096)) (bytes_fresh g.pool g.state B))))

-- ---- a root keeps its number

-- the children of an internal page z are linked to it; a leaf has none
pub relinks : (z : ℕ) (s : List ℕ) → z < 4294967296 → (view s z ≡ no_page → ⊥) → All (λ c. There c s) (under? (view s z)) → Adopts z (under? (view s z)) s (relinked z s)
relinks z s l some there = by_page (view s z) refl some there
  where
    by_page : (x : Page) → view s z ≡ x → (x ≡ no_page → ⊥) → All (λ c. There c s) (under? x) → Adopts z (under? x) s (relinked z s)
    by_page (leaf_page par nxt rs) e n h =
        let t = leaf_says (page s z) (sym (view-page z s) ∙ e) in
        subst (λ (x : List ℕ). Adopts z [] s x) (relink-leaf z s refl refl refl (λ k. let a : ◌≡◌ {A = ℕ} 0 1 = sym k ∙ t.type in omega arith)) (adopts_none z s)
    by_page (inner_page par j h r) e n a =
        let t = inner_says (page s z) (sym (view-page z s) ∙ e) in
        subst (λ (x : List ℕ). Adopts z (kids h r) s x) (relink_inner z s refl refl refl t.type refl)
        (adopts (cell_count (page s z) + 1) 0 z z (kids h r) s l (says_children (page s z) par j h r t) a)
    by_page no_page e n a = absurd (n refl)

under_set_par : (q : ℕ) (x : Page) → under? (set_par q x) ≡ under? x
under_set_par q (leaf_page par nxt rs) = refl
under_set_par q (inner_page par j h r) = refl
under_set_par q no_page = refl

set_par_some : (q : ℕ) (x : Page) → (x ≡ no_page → ⊥) → set_par q x ≡ no_page → ⊥
set_par_some q (leaf_page par nxt rs) n e = let z : ◌≡◌ {A = ℕ} 0 1 = cc in omega arith
set_par_some q (inner_page par j h r) n e = let z : ◌≡◌ {A = ℕ} 0 1 = cc in omega arith
set_par_some q no_page n e = n refl

next-is-said : (pg : List ℕ) → (said pg ≡ no_page → ⊥) → next_leaf pg ≡ next_of (said pg)
next-is-said pg n = by_page (said pg) refl n
  where
    by_page : (x : Page) → said pg ≡ x → (x ≡ no_page → ⊥) → next_leaf pg ≡ next_of x
    by_page (leaf_page par nxt rs) e n = (leaf_says pg e).next
    by_page (inner_page par j h r) e n = (inner_says pg e).next
    by_page no_page e n = absurd (n refl)

first_entry : (n : ℕ) (pg : List ℕ) (e : ℕ × ℕ) (r : List (ℕ × ℕ)) → entries_from pg 0 n ≡ e ∷ r → (key_at pg 0 ≡ e.0) × (child_at pg 1 ≡ e.1)
unfolding entries_from
first_entry zero pg e r q = absurd (let z : ◌≡◌ {A = ℕ} 0 1 = cc in omega arith)
first_entry (suc n) pg e r q = (ap (λ (l : List (ℕ × ℕ)). (get_or l 0 (0, 0)).0) q, ap (λ (l : List (ℕ × ℕ)). (get_or l 0 (0, 0)).1) q)

key_less : (pg : List ℕ) (i : ℕ) → key_at pg i < 4294967296
unfolding key_at
key_less _ _ = flip_less _

child_less : (pg : List ℕ) (i : ℕ) → AreBytes pg → child_at pg i < 4294967296
unfolding child_at
child_less pg i B = le_at_lt 4 pg _ B

module _ (fixed sep new : ℕ) (g : Grown) (par j h : ℕ) (r : List (ℕ × ℕ)) (B : AreBytes g.pool) (free : Free g) (less : fixed < g.state.used)
    (is : view g.pool g.state.root ≡ inner_page par j h ((sep, new) ∷ r)) (new-there : There new g.pool) (some : view g.pool fixed ≡ no_page → ⊥)
    (kids_there : All (λ c. There c g.pool) (under? (view g.pool fixed))) where
  abbrev z : ℕ
  z = g.state.used

  abbrev root_page : List ℕ
  root_page = page g.pool g.state.root

  entry_is : (key_at root_page 0 ≡ sep) × (child_at root_page 1 ≡ new)
  entry_is = first_entry (cell_count root_page) root_page (sep, new) r (inner_says root_page (sym (view-page g.state.root g.pool) ∙ is)).entries

  sep_low : sep < 4294967296
  sep_low = rw (← entry_is.0) (key_less root_page 0)

  new-low : new < 4294967296
  new-low = rw (← entry_is.1) (child_less root_page 1 (bytes-page g.state.root g.pool B))

  fixed_low : fixed < 4294967296
  fixed_low = omega (arith, free.0)

  z_low : z < 4294967296
  z_low = omega (arith, free.0)

  abbrev z₀ : List ℕ
  z₀ = with_fresh g.pool g.state

  abbrev image : List ℕ
  image = with_parent fixed (with_is_root 0 (page g.pool fixed))

  abbrev z₁ : List ℕ
  z₁ = set_page z image z₀

  abbrev z₂ : List ℕ
  z₂ = relinked z z₁

  abbrev z₃ : List ℕ
  z₃ = set_page fixed (top_in z sep new (page z₂ fixed)) z₂

  fixed_same : page z₀ fixed ≡ page g.pool fixed
  fixed_same = fresh_other g.pool g.state free.1 fixed (λ e. omega arith)

  pin_is : (pin_of fixed g).pool ≡ linked_both z new fixed z₃
  unfolding pin_of next_page
  pin_is = rw (fixed_same, entry_is.0, entry_is.1)

  z₀_long : length z₀ ≡ length g.pool
  z₀_long = fresh_long g.pool g.state free.1

  z_there : There z z₀
  z_there = rw z₀_long free.1

  fixed_long : length (page g.pool fixed) ≡ 4096
  fixed_long = length-page fixed g.pool (omega (arith, free.1))

  image-long : length image ≡ 4096
  image-long = rw (length-put_at, length-put_at) fixed_long

  image-bytes : AreBytes (with_is_root 0 (page g.pool fixed))
  image-bytes = bytes-field 1 (page g.pool fixed) 1 0 (bytes-page fixed g.pool B)

  z₁_long : length z₁ ≡ length g.pool
  z₁_long = length-set_page z image z₀ z_there image-long ∙ z₀_long

  z₁_bytes : AreBytes z₁
  z₁_bytes = bytes-set-page z image z₀ (bytes-field 4 (with_is_root 0 (page g.pool fixed)) 2 fixed image-bytes) (bytes_fresh g.pool g.state B)

  said-image : said image ≡ set_par fixed (view g.pool fixed)
  said-image =
      said_parent fixed (with_is_root 0 (page g.pool fixed)) (image-bytes, length-put_at 1 (page g.pool fixed) 1 0 ∙ fixed_long) fixed_low
      ∙ ap (set_par fixed) (said-root 0 (page g.pool fixed) ∙ sym (view-page fixed g.pool))

  view-image : view z₁ ≡ with_page (view g.pool) z (set_par fixed (view g.pool fixed))
  view-image =
      view-set z image z₀ z_there image-long
      ∙ ap₂ (λ (w : Pages) (x : Page). with_page w z x) (view_fresh g.pool g.state free.1) said-image
      ∙ set_twice (view g.pool) z no_page _

  at_z : view z₁ z ≡ set_par fixed (view g.pool fixed)
  at_z = ap (λ (w : Pages). w z) view-image ∙ with_page-same (view g.pool) z _

  under_z : under? (view z₁ z) ≡ under? (view g.pool fixed)
  under_z = ap under? at_z ∙ under_set_par fixed (view g.pool fixed)

  relinked-is : Adopts z (under? (view g.pool fixed)) z₁ z₂
  relinked-is =
      subst (λ (ks : List ℕ). Adopts z ks z₁ z₂) under_z
      (relinks z z₁ z_low (λ e. set_par_some fixed (view g.pool fixed) some (sym at_z ∙ e))
      (subst (λ (ks : List ℕ). All (λ c. There c z₁) ks) (sym under_z) (all_there g.pool z₁ (under? (view g.pool fixed)) z₁_long kids_there)))

  view-moved : view z₂ ≡ moved (view g.pool) fixed z
  view-moved = relinked-is.views ∙ ap (reparent z (under? (view g.pool fixed))) view-image

  z₂_long : length z₂ ≡ length g.pool
  z₂_long = relinked-is.long ∙ z₁_long

  fixed_there : There fixed z₂
  fixed_there = omega (arith, z₂_long, free.1)

  pg-long : length (page z₂ fixed) ≡ 4096
  pg-long = length-page fixed z₂ fixed_there

  next_kept : next_leaf (page z₂ fixed) ≡ next_of (view g.pool fixed)
  next_kept =
      relinked-is.next fixed
      ∙ ap next_leaf (page-set_page-other z image z₀ z_there image-long fixed (λ e. omega arith) ∙ fixed_same)
      ∙ (next-is-said (page g.pool fixed) (λ e. some (view-page fixed g.pool ∙ e)) ∙ ap next_of (sym (view-page fixed g.pool)))

  in_long : length (top_in z sep new (page z₂ fixed)) ≡ 4096
  in_long = top_in_long z sep new (page z₂ fixed) pg-long

  z₃_long : length z₃ ≡ length g.pool
  z₃_long = length-set_page fixed (top_in z sep new (page z₂ fixed)) z₂ fixed_there in_long ∙ z₂_long

  pub view_pin : view (pin_of fixed g).pool
      ≡ reparent fixed (g.state.used ∷ new ∷ [])
      (with_page (moved (view g.pool) fixed g.state.used) fixed (inner_page 0 (next_of (view g.pool fixed)) g.state.used ((sep, new) ∷ [])))
  view_pin =
      ap view pin_is
      ∙ view-linked_both z new fixed z₃ (rw z₃_long free.1) (rw z₃_long new-there) fixed_low
      ∙ ap (reparent fixed (z ∷ new ∷ []))
      (view-set fixed (top_in z sep new (page z₂ fixed)) z₂ fixed_there in_long
      ∙ ap₂ (λ (w : Pages) (x : Page). with_page w fixed x) view-moved
      (said_top_in z sep new (page z₂ fixed) pg-long z_low sep_low new-low ∙ ap (λ (k : ℕ). inner_page 0 k z ((sep, new) ∷ [])) next_kept))

  pub pinned_length : length (pin_of fixed g).pool ≡ length g.pool
  pinned_length = ap (λ (s : List ℕ). length s) pin_is ∙ (like_both z new fixed z₃ (rw z₃_long free.1) (rw z₃_long new-there)).long ∙ z₃_long

  pub pinned_bytes : AreBytes (pin_of fixed g).pool
  pinned_bytes =
      let C : AreBytes z₂ = relinked-is.bytes z₁_bytes in
      let H : AreBytes (with_parent 0 (with_node_type 0 (pad 4096 (part 0 12 (page z₂ fixed))))) =
      bytes-field 4 _ 2 0 (bytes-field 1 _ 0 0 (bytes-pad 4096 _ (bytes-part 0 12 (page z₂ fixed) (bytes-page fixed z₂ C)))) in
      subst AreBytes (sym pin_is) (bytes-linked new fixed _ (bytes-linked z fixed z₃ (bytes-set-page fixed _ z₂ (bytes_top z sep new _ H) C)))
