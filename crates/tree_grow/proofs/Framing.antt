-- The theorems of specs/PlanFacts.antt: a climb finds pages that stand one above another, and where the plan finds the
-- children in use and the pages asked for are left, every store above the division is inside the pool. Assumes nothing.
use Rattle.std.proofs.Common.{Result, Ok, Err}
use Rattle.row.specs.declared.Fault.{Fault}
use mathlib.Core.Path.{◌≡◌, refl, sym, ◌∙◌, subst}
use mathlib.Core.Bool.{Bool, true, false, ◌||◌}
use mathlib.Core.List.{List, [], ◌∷◌, ◌++◌}
use mathlib.Core.Logic.{⊎_elim}
use Prim.Native.Nat.{ℕ, zero, suc, ◌+◌, ◌-◌, ◌≤◌, ◌<◌}
use native.Mathlib.Omega.{arith}
use borrow.Author.Tests.{lt-ltb, eq-eqb, ne_eqb, ltb-true, ltb-false, eqb-true}
use lib.Dec.{ltb, eqb, eqb-suc-suc}
use lib.ListN.{length, get_or}
use Rattle.store.specs.Pick.{pick}
use Rattle.mvcc.specs.Lists.{mem}
use Rattle.page.specs.Page.{page}
use Rattle.page.specs.Header.{cell_count}
use Rattle.page.specs.Pool.{next_page, Grown, grown}
use Rattle.inner.specs.Inner.{child_at, children_from}
use Rattle.row.specs.Fault.{structural}
use Rattle.inner_edit.specs.Edit.{left_half, middle_key}
use Rattle.tree.specs.Climb.{climb_of, up}
use Rattle.tree_grow.specs.Grow.{linked, place_in, top_over, joined_to, halved, enter_of}
use Rattle.tree_grow.specs.Steps.Safe.{Free, HalvedSafe, EnterSafe, PinSafe, Stands}
use Rattle.tree_grow.specs.Plan.{full_pages, division_of, pages_asked, first_moved, relinks_in, keeps_number, relinks, in_use, on_links, plan_of}
use Rattle.tree_grow.specs.Steps.PlanFacts.{ClimbStands, Room, PlanIsSafe}
use Rattle.store.proofs.PartLaws.{le_or_lt}
use Rattle.page.proofs.PageLaws.{length-page}
use Rattle.tree.proofs.Climbing.{Rises, climb_risen, path_is}
use Rattle.tree.proofs.Ways.{inner_is}
use Rattle.tree_grow.proofs.Likeness.{Alike, alike_eq, alike_trans, alike_place, Like, like_linked}
use Rattle.tree_grow.proofs.Halving.{left_below, left-count}
use Rattle.tree_grow.proofs.Stepping.{next-is, halved_safe, halved-long, halved-here, halved-other, halved-root, halved-used, Ready, top_root, top_used, top_length, top_other, top_right, ready_alike, pin_safe}

-- ---- what stands

-- the last of old and the pages above it is the root
abbrev Ends : (root old : ℕ) → List ℕ → Type 0
Ends root old [] = old ≡ root
Ends root old (p ∷ ps) = Ends root p ps

not_mem : (x : ℕ) (l : List ℕ) → ((j : ℕ) → j < length l → get_or l j 0 ≡ x → ⊥) → mem x l ≡ false
unfolding mem
not_mem x [] h = refl
not_mem x (y ∷ ys) h = rw (ne_eqb y x (h 0 (omega arith)), not_mem x ys (λ j l. h (suc j) (omega arith)))

mem-first : (x : ℕ) (l : List ℕ) → mem x (x ∷ l) ≡ true
unfolding mem
mem-first x l = rw (eq-eqb x x refl)

mem-later : (x y : ℕ) (l : List ℕ) → mem x l ≡ true → mem x (y ∷ l) ≡ true
unfolding mem
mem-later x y l h = by_test (eqb y x)
  where
    by_test : (b : Bool) → (b || mem x l) ≡ true
    by_test true = refl
    by_test false = h

module _ (used root : ℕ) (s : List ℕ) where
  rises-end : (p : ℕ) (l : List ℕ) → Rises used root p s l → Ends root p l
  rises-end p [] r = r.0
  rises-end p (q ∷ qs) r = rises-end q qs r.2

  rises_stand : (p : ℕ) (l : List ℕ) → p < used → Rises used root p s l
      → ((i j : ℕ) → i < j → j < suc (length l) → get_or (p ∷ l) j 0 ≡ get_or (p ∷ l) i 0 → ⊥) → Stands used p l s
  unfolding Stands
  rises_stand p [] h r apart = h
  rises_stand p (q ∷ qs) h r apart =
      let held = r.1 in
      let is = inner_is q (page s q) refl held.judged in (
        h,
        not_mem p (q ∷ qs) (λ j l. apart 0 (suc j) (omega arith) (omega arith)),
        rw is.count is.few,
        rw is.count held.place,
        rises_stand q qs held.in_use r.2 (λ i j a b. apart (suc i) (suc j) (omega arith) (omega arith)),
      )

module _ (used : ℕ) (s : List ℕ) where
  stands_low : (old : ℕ) (ps : List ℕ) → Stands used old ps s → old < used
  unfolding Stands
  stands_low old [] h = h
  stands_low old (p ∷ ps) h = h.0

  stands_in : (x old : ℕ) (ps : List ℕ) → Stands used old ps s → mem x ps ≡ true → x < used
  unfolding Stands mem
  stands_in x old [] h e = absurd (cc)
  stands_in x old (p ∷ ps) h e = by_test (stands_in x p ps h.4) (eqb p x) refl e
    where
      by_test : (mem x ps ≡ true → x < used) → (b : Bool) → eqb p x ≡ b → (b || mem x ps) ≡ true → x < used
      by_test ih true q u = let f = eqb-true p x q in rw (← f) (stands_low p ps h.4)
      by_test ih false q u = ih u

  stands_apart : (x old : ℕ) (ps : List ℕ) → Stands used old ps s → mem x ps ≡ true → x ≡ old → ⊥
  unfolding Stands mem
  stands_apart x old [] h e q = cc
  stands_apart x old (p ∷ ps) h e q = let n = h.1 in cc

module _ (used root p : ℕ) (s ps : List ℕ) (e : climb_of s used root p 3 ≡ up (p ∷ ps)) where
  risen : Rises used root p s ps
  risen = let r = climb_risen used root s 3 p e in let t = r.is in let same : ps ≡ r.above = cc in subst (λ (l : List ℕ). Rises used root p s l) (sym same) r.rises

pub climb_stands : ClimbStands
climb_stands used root p s ps h e = rises_stand used root s p ps h (risen used root p s ps e) (path_is used root p s h e).apart

-- ---- what the plan says

in_use_cons : (used c : ℕ) (cs : List ℕ) → in_use used (c ∷ cs) ≡ Ok tt → (c < used) × (in_use used cs ≡ Ok tt)
unfolding in_use
in_use_cons used c cs e = by_test (ltb c used) refl e
  where
    by_test : (b : Bool) → ltb c used ≡ b → pick b (in_use used cs) (Err (structural c)) ≡ Ok tt → (c < used) × (in_use used cs ≡ Ok tt)
    by_test true q u = (ltb-true c used q, u)
    by_test false q u = absurd (cc)

in_use_both : (used : ℕ) (xs ys : List ℕ) → in_use used (xs ++ ys) ≡ Ok tt → (in_use used xs ≡ Ok tt) × (in_use used ys ≡ Ok tt)
unfolding in_use
in_use_both used [] ys e = (refl, e)
in_use_both used (x ∷ xs) ys e =
    let h = in_use_cons used x (xs ++ ys) e in
    let k = in_use_both used xs ys h.1 in
    (rw (lt-ltb x used h.0) k.0, k.1)

in_use_child : (used n i : ℕ) (pg : List ℕ) → in_use used (children_from pg i n) ≡ Ok tt → (k : ℕ) → i ≤ k → k < i + n → child_at pg k < used
unfolding children_from
in_use_child used zero i pg e k h l = absurd (omega arith)
in_use_child used (suc n) i pg e k h l =
    let c = in_use_cons used (child_at pg i) (children_from pg (i + 1) n) e in
    ⊎_elim
    (λ (a : k ≤ i). let f : k ≡ i = omega arith in rw f c.0)
    (λ (a : i < k). in_use_child used n (i + 1) pg c.1 k (omega arith) (omega arith))
    (le_or_lt k i)

plan_links : (used old : ℕ) (ps s : List ℕ) → plan_of s used old ps ≡ Ok (division_of ps s) → in_use used (relinks s old ps) ≡ Ok tt
unfolding plan_of
plan_links used old ps s e = by_links (in_use used (relinks s old ps)) e
  where
    by_links : (l : Result Unit Fault) → on_links (Ok (division_of ps s)) (λ f. Err f) l ≡ Ok (division_of ps s) → l ≡ Ok tt
    by_links (Ok _) u = refl
    by_links (Err f) u = absurd (cc)

-- a page for the top, and one more for a root other than 0
asked_top : (root : ℕ) (s : List ℕ) → pages_asked root (division_of [] s) ≡ pick (eqb root 0) 1 2
unfolding pages_asked division_of full_pages
asked_top root s = omega arith

asked_some : (root : ℕ) (s : List ℕ) → 1 ≤ pages_asked root (division_of [] s)
asked_some root s = rw (asked_top root s) (by_test (eqb root 0))
  where
    by_test : (b : Bool) → 1 ≤ pick b 1 2
    by_test true = omega arith
    by_test false = omega arith

asked_two : (root : ℕ) (s : List ℕ) → (root ≡ 0 → ⊥) → pages_asked root (division_of [] s) ≡ 2
asked_two root s h = asked_top root s ∙ rw (ne_eqb root 0 h)

module _ (old p : ℕ) (ps s : List ℕ) (full : cell_count (page s p) ≡ 510) where
  asked_step : (root : ℕ) → pages_asked root (division_of (p ∷ ps) s) ≡ suc (pages_asked root (division_of ps s))
  unfolding pages_asked division_of full_pages
  asked_step root = rw (eq-eqb (cell_count (page s p)) 510 full, eqb-suc-suc (full_pages ps s) (length ps)) (omega arith)

  relinks-step : relinks s old (p ∷ ps) ≡ relinks_in (page s p) (place_in (page s p) old) (keeps_number p ps) ++ relinks s p ps
  unfolding relinks
  relinks-step = rw (eq-eqb (cell_count (page s p)) 510 full)

module _ (used i : ℕ) (pg : List ℕ) (b : Bool) (links : in_use used (relinks_in pg i b) ≡ Ok tt) where
  moved-used : (k : ℕ) → first_moved i ≤ k → k < 511 → child_at pg k < used
  unfolding relinks_in
  moved-used k h l =
      let e = (in_use_both used (children_from pg (first_moved i) (511 - first_moved i)) (pick b (children_from pg 0 (first_moved i)) []) links).0 in
      in_use_child used (511 - first_moved i) (first_moved i) pg e k h (omega arith)

  kept_used : b ≡ true → (k : ℕ) → k < first_moved i → child_at pg k < used
  unfolding relinks_in
  kept_used t k h =
      let e = (in_use_both used (children_from pg (first_moved i) (511 - first_moved i)) (pick b (children_from pg 0 (first_moved i)) []) links).1 in
      in_use_child used (first_moved i) 0 pg (rw t at e) k (omega arith) (omega arith)

-- ---- the pages above, while those below them divide

-- s is the pool before; g is where the page new, not in use before, is to be entered above old
record Stage (s : List ℕ) (used root old : ℕ) (ps : List ℕ) (new : ℕ) (g : Grown) : Type 0 where
  stands : Stands used old ps s
  alike : (x : ℕ) → mem x ps ≡ true → Alike (page g.pool x) (page s x)
  links : in_use used (relinks s old ps) ≡ Ok tt
  ends : Ends root old ps
  later : used ≤ new
  fresh : new < g.state.used
  same : g.state.root ≡ root
  room : Room (pages_asked root (division_of ps s)) g
  ready : (root ≡ 0 → ⊥) → ps ≡ [] → Ready old g.pool

module _ (s : List ℕ) (used root : ℕ) where
  -- a page above has 510 keys
  module _ (old p : ℕ) (ps : List ℕ) (sep new : ℕ) (g : Grown) (st : Stage s used root old (p ∷ ps) new g) (full : cell_count (page g.pool p) ≡ 510) where
    abbrev i : ℕ
    i = place_in (page g.pool p) old

    abbrev g₁ : Grown
    g₁ = grown (linked new p g.pool) g.state

    here : Alike (page g.pool p) (page s p)
    here = st.alike p (mem-first p ps)

    full_before : cell_count (page s p) ≡ 510
    full_before = sym here.count ∙ full

    stands_up : Stands used p ps s
    unfolding Stands
    stands_up = st.stands.4

    place : i ≤ 510
    unfolding Stands
    place = rw (alike_place old here) (omega (arith, st.stands.3, full_before))

    links_here : (in_use used (relinks_in (page s p) (place_in (page s p) old) (keeps_number p ps)) ≡ Ok tt) × (in_use used (relinks s p ps) ≡ Ok tt)
    links_here =
        in_use_both used (relinks_in (page s p) (place_in (page s p) old) (keeps_number p ps)) (relinks s p ps) (rw (relinks-step old p ps s full_before) at st.links)

    asked : pages_asked root (division_of (p ∷ ps) s) ≡ suc (pages_asked root (division_of ps s))
    asked = asked_step old p ps s full_before root

    like : Like g₁.pool g.pool
    like = like_linked new p g.pool (omega (arith, st.fresh, st.room.1))

    child_same : (k : ℕ) → child_at (page g₁.pool p) k ≡ child_at (page s p) k
    child_same k = (like.each p).child k ∙ here.child k

    free : Free g₁
    free = (omega (arith, st.room.0, asked), rw like.long (omega (arith, st.room.1, asked)))

    low : p < g.state.used
    low = omega (arith, stands_low used s p ps stands_up, st.later, st.fresh)

    full₁ : cell_count (page g₁.pool p) ≡ 510
    full₁ = (like.each p).count ∙ full

    moved : (k : ℕ) → first_moved i ≤ k → k < 511 → child_at (page g₁.pool p) k < g.state.used
    moved k =
        rw (alike_place old here, child_same k) (λ h l.
        omega (arith, moved-used used (place_in (page s p) old) (page s p) (keeps_number p ps) links_here.0 k h l, st.later, st.fresh))

    step_safe : HalvedSafe p i sep new g₁
    step_safe = halved_safe p i sep new g₁ free low place full₁ st.fresh moved

    long : length (halved p i sep new g₁).pool ≡ length g.pool
    long = halved-long p i sep new g₁ free low place full₁ st.fresh moved ∙ like.long

    -- where it is the root, its children that stay are in use
    step-ready : (root ≡ 0 → ⊥) → ps ≡ [] → Ready p (halved p i sep new g₁).pool
    step-ready z none kind =
        let a = halved-here p i sep new g₁ free low place full₁ st.fresh moved in
        let len : length (page g₁.pool p) ≡ 4096 = length-page p g₁.pool (omega (arith, free.1, low)) in
        let c : cell_count (page (halved p i sep new g₁).pool p) ≡ 255 = a.count ∙ left-count i sep new (page g₁.pool p) len full₁ place in
        let e : p ≡ root = rw none at st.ends in
        let t : keeps_number p ps ≡ true = rw (none, e, ne_eqb root 0 z) in
        let kept : (k : ℕ) → k < first_moved i → child_at (page g₁.pool p) k < g.state.used =
        λ k. rw (alike_place old here, child_same k) (λ h.
        omega (arith, kept_used used (place_in (page s p) old) (page s p) (keeps_number p ps) links_here.0 t k h, st.later, st.fresh)) in (
          omega arith,
          λ k h.
              let b : child_at (left_half i sep new (page g₁.pool p)) k < g.state.used =
              left_below i sep new (page g₁.pool p) len full₁ place g.state.used st.fresh (omega (arith, free.0)) kept k (omega arith) in
              rw (a.child k, long) (omega (arith, st.room.1, asked)),
        )

    step_stage : Stage s used root p ps (next_page g₁.pool g₁.state) (halved p i sep new g₁)
    step_stage =
        record {
          stands = stands_up;
          alike = λ x h.
              let l = stands_in used s x p ps stands_up h in
              alike_trans (halved-other p i sep new g₁ free low place full₁ st.fresh moved x (omega (arith, st.later, st.fresh)) (stands_apart used s x p ps stands_up h))
              (alike_trans (like.each x) (st.alike x (mem-later x p ps h)));
          links = links_here.1;
          ends = st.ends;
          later = rw next-is (omega (arith, st.later, st.fresh));
          fresh = rw (next-is, halved-used) (omega arith);
          same = halved-root p i sep new g₁ ∙ st.same;
          room = rw (halved-used, long) (omega (arith, st.room.0, asked), omega (arith, st.room.1, asked));
          ready = step-ready;
        }

  -- ---- the root grows

  module _ (old sep new : ℕ) (g : Grown) (st : Stage s used root old [] new g) where
    top_free : Free g
    top_free = let a = asked_some root s in (omega (arith, st.room.0), omega (arith, st.room.1))

    old_low : old < g.state.used
    old_low = omega (arith, stands_low used s old [] st.stands, st.later, st.fresh)

    top_pin : (root ≡ 0 → ⊥) → PinSafe root (top_over old sep new g)
    top_pin z =
        let two = asked_two root s z in
        let t = top_over old sep new g in
        let n = top_used old sep new g top_free old_low st.fresh in
        let r = top_root old sep new g top_free old_low st.fresh in
        let l = top_length old sep new g top_free old_low st.fresh in
        let e : old ≡ root = st.ends in
        let a = top_other old sep new g top_free old_low st.fresh root (rw e at old_low) in
        let ready : Ready root g.pool = rw e at (st.ready z refl) in
        pin_safe root t
        (omega (arith, st.room.0), omega (arith, st.room.1))
        (omega (arith, old_low))
        (omega (arith, st.room.1))
        (rw (top_right old sep new g top_free old_low st.fresh) (omega (arith, st.room.1, st.fresh)))
        (ready_alike root root g.pool t.pool l a ready)

  -- ---- all the way up

  abbrev Pins : Grown → Type 0
  Pins g = (g.state.root ≡ root → ⊥) → PinSafe root g

  -- of two ways only the one that moves the root matters
  pins_pick : (b : Bool) (x y : Grown) → x.state.root ≡ root → (b ≡ false → Pins y) → Pins (pick b x y)
  pins_pick true x y e h ne = absurd (ne e)
  pins_pick false x y e h ne = h refl ne

  joined-root : (p old sep new : ℕ) (g : Grown) → (joined_to p old sep new g).state.root ≡ g.state.root
  unfolding joined_to
  joined-root p old sep new g = refl

  abbrev Above : (ps : List ℕ) (old sep new : ℕ) → Grown → Type 0
  Above ps old sep new g = EnterSafe ps old sep new g × ((root ≡ 0 → ⊥) → Pins (enter_of ps old sep new g))

  above_top : (old sep new : ℕ) (g : Grown) → Stage s used root old [] new g → Above [] old sep new g
  unfolding EnterSafe enter_of
  above_top old sep new g st =
      let low = old_low old sep new g st in
      let free = top_free old sep new g st in
      ((omega (arith, free.1), omega (arith, free.1, st.fresh), free), λ z ne. top_pin old sep new g st z)

  above_step : (p : ℕ) (ps : List ℕ) (old sep new : ℕ) (g : Grown) → Stage s used root old (p ∷ ps) new g
      → (cell_count (page g.pool p) ≡ 510
      → Above ps p (middle_key (place_in (page g.pool p) old) sep new (page (linked new p g.pool) p)) (next_page (linked new p g.pool) g.state)
      (halved p (place_in (page g.pool p) old) sep new (grown (linked new p g.pool) g.state)))
      → Above (p ∷ ps) old sep new g
  unfolding EnterSafe enter_of Stands
  above_step p ps old sep new g st on =
      let h = st.stands in
      let a = st.alike p (mem-first p ps) in
      let low = stands_low used s p ps h.4 in
      let few : cell_count (page g.pool p) ≤ 510 = rw a.count h.2 in (
        (
          omega (arith, h.0, st.later, st.fresh, st.room.1),
          omega (arith, st.fresh, st.room.1),
          omega (arith, low, st.later, st.fresh, st.room.1),
          few,
          rw (alike_place old a, a.count) h.3,
          λ e. (step_safe old p ps sep new g st e, (on e).0),
        ),
        λ z. pins_pick (ltb (cell_count (page g.pool p)) 510) _ _ (joined-root p old sep new g ∙ st.same) (λ f.
            let n = ltb-false (cell_count (page g.pool p)) 510 f in
            (on (omega arith)).1 z),
      )

  above : (ps : List ℕ) (old sep new : ℕ) (g : Grown) → Stage s used root old ps new g → Above ps old sep new g
  above [] old sep new g st = above_top old sep new g st
  above (p ∷ ps) old sep new g st = above_step p ps old sep new g st (λ e. above ps p _ _ _ (step_stage old p ps sep new g st e))

pub plan_is_safe : PlanIsSafe
plan_is_safe s st p sep ps g low kind climb plan leaf room =
    let stands = climb_stands st.used st.root p s ps low climb in
    let n = leaf.used in
    let a =
    above s st.used st.root ps p sep st.used g
    (record {
      stands = stands;
      alike = λ x h. alike_eq (leaf.same x (stands_in st.used s x p ps stands h) (stands_apart st.used s x p ps stands h));
      links = plan_links st.used p ps s plan;
      ends = rises-end st.used st.root s p ps (risen st.used st.root p s ps climb);
      later = omega arith;
      fresh = omega arith;
      same = leaf.root;
      room = room;
      ready = λ z e k. absurd (let l = leaf.leaf in omega arith);
    }) in
    record { enters = a.0; keeps = a.1 }
