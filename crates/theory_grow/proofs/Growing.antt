-- A separator and a page entered above a page that was divided, in the bytes of the pool: it then holds the tree that grew.
-- Assumes nothing.
use mathlib.Core.Path.{◌≡◌, refl, sym, ap, ◌∙◌, subst}
use mathlib.Core.Bool.{Bool, true, false}
use mathlib.Core.List.{List, [], ◌∷◌, ◌++◌}
use mathlib.Core.Logic.{◌⊎◌, inl, inr}
use Prim.Native.Nat.{ℕ, suc, ◌*◌, ◌≤◌, ◌<◌}
use native.Mathlib.Numerals.{add-one}
use native.Mathlib.Omega.{arith}
use borrow.Author.Tests.{lt-ltb, le-ltb, lt-leb}
use lib.Dec.{leb}
use lib.ListN.{length, drop, get_or}
use Rattle.store.specs.Le.{AreBytes}
use Rattle.store.specs.Pick.{pick}
use Rattle.page.specs.Page.{page}
use Rattle.page.specs.Header.{cell_count}
use Rattle.page.specs.Pool.{next_page, Grown, grown}
use Rattle.inner_edit.specs.Edit.{middle_key}
use Rattle.tree_grow.specs.Grow.{linked, top_over, place_in, joined_to, halved, enter_of}
use Rattle.tree_grow.specs.Steps.Safe.{There, Free}
use Rattle.theory_tree.specs.Pages.{Page, inner_page, Pages, with_page}
use Rattle.theory_tree.specs.Shape.{Shape, node, pair, pages_in, head, rest, Holds, All}
use Rattle.theory_tree.specs.View.{view}
use Rattle.store.proofs.PartLaws.{le_or_lt}
use Rattle.page.proofs.PageLaws.{length-page}
use Rattle.leaf.proofs.Bytes.{bytes-page}
use Rattle.tree_grow.proofs.Entering.{enter_top}
use Rattle.tree_grow.proofs.Likeness.{like_linked, alike_place}
use Rattle.tree_grow.proofs.Stepping.{halved-root, halved-used, top_root, top_used}
use Rattle.theory_tree.proofs.Workers.{set_par, roots, reparent}
use Rattle.theory_tree.proofs.Contexts.{Ctx, top, in_l, in_r, under, plug, pre_g, post_g, par_c, Cut, cut, Grown as Raised, up}
use Rattle.theory_tree.proofs.Cuts.{Half, half}
use Rattle.theory_tree.proofs.Entries.{ins_after, kids, path}
use Rattle.theory_tree.proofs.Enter.{Entry, Both, OnPage, OnTop, Halves, entry_in_l, entry_in_r, entry_page, entry_room, entry_half, entry_halves, entry_top, up_room, up_half, plug_head}
use Rattle.theory_tree.proofs.Frame.{with_page-other, roots_all}
use Rattle.theory_tree.proofs.Links.{link_room, link_half, link_top}
use Rattle.theory_tree.proofs.Lists.{all_left, all_right, all_map}
use Rattle.theory_tree.proofs.Says.{InnerSays, inner_says}
use Rattle.theory_stores.proofs.Viewing.{view-page, view-linked}
use Rattle.theory_stores.proofs.Entering.{says_count, mid}
use Rattle.theory_stores.proofs.Stepping.{bytes-linked, view-joined, joined_length, joined_bytes, view-halved, halved-length, halved-bytes, view_top, topped-length, topped-bytes}
use Rattle.inner_edit.proofs.Dividing.{middle_less}

-- the pool h holds the tree y, with L bytes as before
pub record Grew (L : ℕ) (h : Grown) (y : Raised) : Type 0 where
  pub holds : Holds (view h.pool) 0 0 y.shape
  pub root_is : h.state.root ≡ head y.shape
  pub used-is : h.state.used ≡ y.used
  pub bytes : AreBytes h.pool
  pub long : length h.pool ≡ L

-- the pages in use do not get fewer
pub up_more : (c : Ctx) (s : Shape) (u : ℕ) → u ≤ (up c s u).used
up_more top s u = omega arith
up_more (in_l k b c) s u = up_more c (pair s k b) u
up_more (in_r a k c) s u = up_more c (pair a k s) u
up_more (under p c) s u =
    by_size (leb (length (rest s)) 510) (up_more c (pair (node p (cut 255 s).left) (cut 255 s).mid (node u (cut 255 s).right)) (suc u))
  where
    more : Raised
    more = up c (pair (node p (cut 255 s).left) (cut 255 s).mid (node u (cut 255 s).right)) (suc u)

    by_size : (x : Bool) → suc u ≤ more.used → u ≤ (pick x (record { shape = plug c (node p s); used = u; grew = 0 }) more).used
    by_size true i = omega arith
    by_size false i = omega arith

-- page n gets the parent q
abbrev pub tied : Pages → (n q : ℕ) → Pages
tied w n q = with_page w n (set_par q (w n))

-- what is proved here, of a context
abbrev Enters : Ctx → (s s' : Shape) → (l : ℕ) → Type 0
Enters c s s' l =
    (g : Grown) (sep new : ℕ) → g.state.root ≡ head (plug c s) → sep < 4294967296
    → Entry 0 c (tied (view g.pool) new (par_c 0 c)) s s' l (sep, new) g.state.used
    → AreBytes g.pool → (up c s' g.state.used).used * 4096 ≤ length g.pool → (up c s' g.state.used).used ≤ 65536
    → Grew (length g.pool) (enter_of (path c) l sep new g) (up c s' g.state.used)

-- ---- no page above

enter_over : (g : Grown) (s s' : Shape) (l sep new : ℕ) → sep < 4294967296 → Entry 0 top (tied (view g.pool) new 0) s s' l (sep, new) g.state.used
    → AreBytes g.pool → suc g.state.used * 4096 ≤ length g.pool → suc g.state.used ≤ 65536
    → Grew (length g.pool) (top_over l sep new g) (up top s' g.state.used)
enter_over g s s' l sep new low f B room few =
    let w : Pages = view g.pool in
    let u : ℕ = g.state.used in
    let t : OnTop 0 (tied w new 0) s s' l (sep, new) u = entry_top f in
    let b : Both (tied w new 0) 0 l new u = t.both in
    let lu : l < u = b.old_below in
    let nu : new < u = b.new-below in
    let there : (x : ℕ) → x < u → There x g.pool = λ x h. omega arith in
    let here : There u g.pool = omega arith in
    let is : view (top_over l sep new g).pool ≡ reparent u (l ∷ new ∷ []) (with_page (tied w new 0) u (inner_page 0 0 l ((sep, new) ∷ []))) =
    view_top l sep new g (few, here) (there l lu) (there new nu) (omega arith) low (omega arith)
    ∙ link_top w u 0 l new (inner_page 0 0 l ((sep, new) ∷ [])) b.apart (λ z. omega arith) in
    record {
      holds = subst (λ (v : Pages). Holds v 0 0 (node u s')) (sym is) t.rep;
      root_is = top_root l sep new g (few, here) lu nu;
      used-is = top_used l sep new g (few, here) lu nu ∙ add-one u;
      bytes = topped-bytes l sep new g (few, here) (there l lu) (there new nu) (omega arith) low (omega arith) B;
      long = topped-length l sep new g (few, here) (there l lu) (there new nu) (omega arith) low (omega arith);
    }

-- ---- a page above

module _ (ps : List ℕ) (p old sep new : ℕ) (g : Grown) where
  enter-joined : cell_count (page g.pool p) < 510 → enter_of (p ∷ ps) old sep new g ≡ joined_to p old sep new g
  unfolding enter_of
  enter-joined h = rw (lt-ltb (cell_count (page g.pool p)) 510 h)

  enter-halved : 510 ≤ cell_count (page g.pool p)
      → enter_of (p ∷ ps) old sep new g
      ≡ enter_of ps p (middle_key (place_in (page g.pool p) old) sep new (page (linked new p g.pool) p)) g.state.used
      (halved p (place_in (page g.pool p) old) sep new (grown (linked new p g.pool) g.state))
  unfolding enter_of next_page
  enter-halved h = rw (le-ltb (cell_count (page g.pool p)) 510 h)

joined-state : (p old sep new : ℕ) (g : Grown) → (joined_to p old sep new g).state ≡ g.state
unfolding joined_to
joined-state p old sep new g = refl

module _ (c : Ctx) (g : Grown) (s s' : Shape) (l sep new p : ℕ) (low : sep < 4294967296)
    (f : Entry 0 (under p c) (tied (view g.pool) new p) s s' l (sep, new) g.state.used)
    (B : AreBytes g.pool) (room : g.state.used * 4096 ≤ length g.pool) (few : g.state.used ≤ 65536) where
  abbrev u : ℕ
  u = g.state.used

  abbrev w : Pages
  w = view g.pool

  abbrev w₁ : Pages
  w₁ = tied w new p

  o : OnPage c w₁ s s' l (sep, new) u p
  o = entry_page f

  b : Both w₁ p l new u
  b = o.both

  there : (x : ℕ) → x < u → There x g.pool
  there x h = omega arith

  p_low : p < u
  p_low = o.page-below

  l_low : l < u
  l_low = b.old_below

  n_low : new < u
  n_low = b.new-below

  p_fits : p < 4294967296
  p_fits = omega (arith, p_low)

  n_fits : new < 4294967296
  n_fits = omega (arith, n_low)

  is : w p ≡ inner_page (par_c 0 c) o.next (head s) (rest s)
  is = sym (with_page-other w new p (set_par p (w new)) o.new-page) ∙ o.is

  at_old : w₁ l ≡ w l
  at_old = with_page-other w new l (set_par p (w new)) b.apart

  says : InnerSays (page g.pool p) (par_c 0 c) o.next (head s) (rest s)
  says = inner_says (page g.pool p) (sym (view-page p g.pool) ∙ is)

  count : length (rest s) ≡ cell_count (page g.pool p)
  count = says_count (page g.pool p) (par_c 0 c) o.next (head s) (rest s) says

  longer : length (rest s') ≡ suc (length (rest s))
  longer = o.count

  -- it has room
  joined : g.state.root ≡ head (plug c (node p s)) → length (rest s) < 510 → Grew (length g.pool) (enter_of (p ∷ path c) l sep new g) (up (under p c) s' u)
  joined rt small =
      let x : Page = inner_page (par_c 0 c) o.next (head s') (rest s') in
      let par : ℕ = par_c 0 c in
      rw (enter-joined (path c) p l sep new g (rw (← count) small), up_room p c s' u (omega (arith, longer)))
      (record {
        holds = rw (
          view-joined p l sep new g par o.next (head s) (rest s) B (there p p_low) (there l l_low) (there new n_low) is o.child small p_fits low n_fits,
          o.rests,
          sym o.heads,
          link_room w p l new x o.new-page o.old_page (sym at_old ∙ b.old_linked ∙ ap (set_par p) at_old),
        ) (entry_room o.next f);
        root_is = ap (λ z. z.root) (joined-state p l sep new g) ∙ rt ∙ plug_head c (node p s) (node p s') refl;
        used-is = ap (λ z. z.used) (joined-state p l sep new g);
        bytes = joined_bytes p l sep new g par o.next (head s) (rest s) B (there p p_low) (there l l_low) (there new n_low) is o.child small p_fits low n_fits;
        long = joined_length p l sep new g par o.next (head s) (rest s) B (there p p_low) (there l l_low) (there new n_low) is o.child small p_fits low n_fits;
      })

  -- it divides, with one more page
  module _ (full : 510 ≤ length (rest s)) (free : u < 65536) (next-there : There u g.pool) where
    abbrev s₁ : List ℕ
    s₁ = linked new p g.pool

    abbrev g₁ : Grown
    g₁ = grown s₁ g.state

    abbrev i : ℕ
    i = place_in (page g.pool p) l

    s₁_long : length s₁ ≡ length g.pool
    s₁_long = (like_linked new p g.pool (there new n_low)).long

    s₁_bytes : AreBytes s₁
    s₁_bytes = bytes-linked new p g.pool B

    free₁ : Free g₁
    free₁ = (free, rw s₁_long next-there)

    view₁ : view s₁ ≡ w₁
    view₁ = view-linked new p g.pool (there new n_low) p_fits

    is₁ : view s₁ p ≡ inner_page (par_c 0 c) o.next (head s) (rest s)
    is₁ = ap (λ (v : Pages). v p) view₁ ∙ o.is

    place₁ : i ≡ place_in (page s₁ p) l
    place₁ = sym (alike_place l ((like_linked new p g.pool (there new n_low)).each p))

    exact : length (rest s) ≡ 510
    exact = omega (arith, full, count, says.high)

    over : 510 < length (rest s')
    over = omega (arith, full, longer)

    abbrev y : Cut
    y = cut 255 s'

    hv : Halves p u s' y
    hv = entry_halves f over

    abbrev R : List (ℕ × ℕ)
    R = ins_after l (sep, new) (head s) (rest s)

    going : kids (get_or R 255 (0, 0)).1 (drop 256 R) ≡ roots y.right
    going = rw (o.rests, hv.middle, hv.rights, hv.moving)

    -- the pages of the run are in use
    run-low : All (λ q. q < u) (pages_in s')
    run-low = all_left (λ q. q < u) (pages_in s') (post_g c) (all_right (λ q. q < u) (pre_g (under p c)) (pages_in s' ++ post_g c) f.below)

    right-low : All (λ q. q < u) (roots y.right)
    right-low =
        let e : Half s' y = half s' (lt-leb (length (rest s')) 510 over) in
        roots_all (λ q. q < u) y.right (all_right (λ q. q < u) (pages_in y.left) (pages_in y.right) (rw e.alike.pagess at run-low))

    right_there : All (λ q. There q s₁) (kids (get_or R 255 (0, 0)).1 (drop 256 R))
    right_there =
        subst (λ (ks : List ℕ). All (λ q. There q s₁) ks) (sym going)
        (all_map (λ q. q < u) (λ q. There q s₁) (λ q h. omega (arith, s₁_long, there q h)) (roots y.right) right-low)

    abbrev g₂ : Grown
    g₂ = halved p i sep new g₁

    view₂ : view g₂.pool
        ≡ reparent u (roots y.right) (with_page (with_page w₁ u (inner_page 0 0 (head y.right) (rest y.right))) p
        (inner_page (par_c 0 c) o.next (head y.left) (rest y.left)))
    view₂ =
        view-halved p i l sep new g₁ (par_c 0 c) o.next (head s) (rest s) s₁_bytes free₁ p_low is₁ place₁ o.child exact low n_fits right_there
        ∙ rw (going, view₁, o.rests, hv.middle, hv.rights, hv.lefts, sym o.heads, hv.heads)

    abbrev key : ℕ
    key = middle_key i sep new (page s₁ p)

    key-is : key ≡ y.mid
    key-is =
        mid i l sep new (page s₁ p) (par_c 0 c) o.next (head s) (rest s)
        (bytes-page p s₁ s₁_bytes, length-page p s₁ (rw s₁_long (there p p_low)))
        (inner_says (page s₁ p) (sym (view-page p s₁) ∙ is₁)) place₁ o.child low n_fits
        (sym (says_count (page s₁ p) (par_c 0 c) o.next (head s) (rest s) (inner_says (page s₁ p) (sym (view-page p s₁) ∙ is₁))) ∙ exact)
        ∙ rw (o.rests, hv.middle)

    abbrev over_it : Shape
    over_it = pair (node p y.left) y.mid (node u y.right)

    entry₂ : Entry 0 c (tied (view g₂.pool) u (par_c 0 c)) (node p s) over_it p (key, u) (suc u)
    entry₂ =
        subst (λ (m : ℕ). Entry 0 c (tied (view g₂.pool) u (par_c 0 c)) (node p s) over_it p (m, u) (suc u)) (sym key-is)
        (subst (λ (z : Pages). Entry 0 c z (node p s) over_it p (y.mid, u) (suc u))
        (sym (link_half w₁ p u (par_c 0 c) (head y.right) (rest y.right) (inner_page (par_c 0 c) o.next (head y.left) (rest y.left)) (roots y.right)
        hv.other hv.fresh (view g₂.pool) view₂))
        (entry_half o.next f over))

    long₂ : length g₂.pool ≡ length g.pool
    long₂ =
        halved-length p i l sep new g₁ (par_c 0 c) o.next (head s) (rest s) s₁_bytes free₁ p_low is₁ place₁ o.child exact low n_fits right_there
        ∙ s₁_long

    bytes₂ : AreBytes g₂.pool
    bytes₂ = halved-bytes p i l sep new g₁ (par_c 0 c) o.next (head s) (rest s) s₁_bytes free₁ p_low is₁ place₁ o.child exact low n_fits right_there

    used₂ : g₂.state.used ≡ suc u
    used₂ = halved-used p i sep new g₁ ∙ add-one u

    -- what is left is the same one level up
    halves : g.state.root ≡ head (plug c (node p s)) → (up c over_it (suc u)).used * 4096 ≤ length g.pool → (up c over_it (suc u)).used ≤ 65536
        → Enters c (node p s) over_it p → Grew (length g.pool) (enter_of (p ∷ path c) l sep new g) (up (under p c) s' u)
    halves rt room₂ few₂ again =
        let h : Grew (length g₂.pool) (enter_of (path c) p key u g₂) (up c over_it g₂.state.used) =
        again g₂ key u (halved-root p i sep new g₁ ∙ rt) (middle_less i sep new (page s₁ p)) (rw used₂ entry₂) bytes₂ (rw (used₂, long₂) room₂) (rw used₂ few₂) in
        rw (enter-halved (path c) p l sep new g (omega (arith, full, count)), up_half p c s' u over)
        (subst (λ (n : ℕ). Grew n (enter_of (path c) p key u g₂) (up c over_it (suc u))) long₂
        (subst (λ (n : ℕ). Grew (length g₂.pool) (enter_of (path c) p key u g₂) (up c over_it n)) used₂ h))

-- ---- all the way up

pub enter_holds : (c : Ctx) (g : Grown) (s s' : Shape) (l sep new : ℕ) → g.state.root ≡ head (plug c s) → sep < 4294967296
    → Entry 0 c (with_page (view g.pool) new (set_par (par_c 0 c) (view g.pool new))) s s' l (sep, new) g.state.used
    → AreBytes g.pool → (up c s' g.state.used).used * 4096 ≤ length g.pool → (up c s' g.state.used).used ≤ 65536
    → Grew (length g.pool) (enter_of (path c) l sep new g) (up c s' g.state.used)
enter_holds top g s s' l sep new rt low f B room few =
    subst (λ (h : Grown). Grew (length g.pool) h (up top s' g.state.used)) (enter_top [] l sep new g refl) (enter_over g s s' l sep new low f B room few)
enter_holds (in_l k b c) g s s' l sep new rt low f B room few = enter_holds c g (pair s k b) (pair s' k b) l sep new rt low (entry_in_l f) B room few
enter_holds (in_r a k c) g s s' l sep new rt low f B room few = enter_holds c g (pair a k s) (pair a k s') l sep new rt low (entry_in_r f) B room few
enter_holds (under p c) g s s' l sep new rt low f B room few =
    by_size (le_or_lt 510 (length (rest s)))
    (λ h. enter_holds c h (node p s) (pair (node p (cut 255 s').left) (cut 255 s').mid (node g.state.used (cut 255 s').right)) p)
  where
    u : ℕ
    u = g.state.used

    raised : Shape
    raised = pair (node p (cut 255 s').left) (cut 255 s').mid (node u (cut 255 s').right)

    more : u ≤ (up (under p c) s' u).used
    more = up_more (under p c) s' u

    room₀ : u * 4096 ≤ length g.pool
    room₀ = omega (arith, more, room)

    few₀ : u ≤ 65536
    few₀ = omega (arith, more, few)

    by_size : (510 ≤ length (rest s)) ⊎ (length (rest s) < 510) → Enters c (node p s) raised p
        → Grew (length g.pool) (enter_of (p ∷ path c) l sep new g) (up (under p c) s' u)
    by_size (inr small) again = joined c g s s' l sep new p low f B room₀ few₀ rt small
    by_size (inl full) again =
        let e : up (under p c) s' u ≡ up c raised (suc u) = up_half p c s' u (omega (arith, (entry_page f).count)) in
        let room₁ : (up c raised (suc u)).used * 4096 ≤ length g.pool = subst (λ (y : Raised). y.used * 4096 ≤ length g.pool) e room in
        let few₁ : (up c raised (suc u)).used ≤ 65536 = subst (λ (y : Raised). y.used ≤ 65536) e few in
        let m : suc u ≤ (up c raised (suc u)).used = up_more c raised (suc u) in
        halves c g s s' l sep new p low f B room₀ few₀ full (omega arith) (omega arith) rt room₁ few₁ again
