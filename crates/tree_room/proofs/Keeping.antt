-- What a plan is good for, where it leaves room: what it says of the climb and of the pages above, that the pool with its
-- leaf divided has no other page changed, and that every store above the division is inside the pool. Assumes nothing.
use Rattle.std.proofs.Common.{Result, Ok, Err}
use mathlib.Core.Path.{◌≡◌, refl, sym, ap, ◌∙◌, subst}
use mathlib.Core.Bool.{Bool, true, false, and-eq-true_iff}
use mathlib.Core.List.{List, [], ◌∷◌, ◌++◌}
use Prim.Native.Nat.{ℕ, suc, ◌+◌, ◌-◌, ◌*◌, ◌/◌, ◌≤◌, ◌<◌}
use native.Mathlib.Omega.{arith}
use borrow.Author.Tests.{leb-true}
use lib.Dec.{leb, eqb}
use lib.ListN.{length, length-append}
use Rattle.store.specs.Pick.{pick}
use Rattle.store.specs.Part.{part, pad}
use Rattle.page.specs.Page.{page, set_page}
use Rattle.page.specs.Header.{node_type, cell_count, next_leaf, with_node_type, with_count}
use Rattle.page.specs.Pool.{good_pool, next_page, allocated, with_fresh, Grown, grown}
use Rattle.page.specs.Key.{rank_at}
use Rattle.page.specs.declared.pool.State.{State}
use Rattle.page.specs.declared.pool.Allocated.{Allocated}
use Rattle.row.specs.declared.Fault.{Fault}
use Rattle.call_answers.specs.declared.Refusal.{Refusal}
use Rattle.leaf.specs.Place.{larger_side, cut_fits}
use Rattle.leaf.specs.declared.place.Cut.{Cut}
use Rattle.tree.specs.Climb.{climb_of, climbed}
use Rattle.tree.specs.declared.climb.Path.{Path}
use Rattle.leaf_divide.specs.Divide.{left_leaf, right_leaf, divided}
use Rattle.tree_grow.specs.Path.{page_at, pages_above}
use Rattle.tree_grow.specs.Grow.{settled}
use Rattle.tree_grow.specs.Steps.Safe.{There, AboveSafe}
use Rattle.tree_grow.specs.Plan.{full_pages, division_of, pages_asked, relinks, in_use, on_links, plan_of}
use Rattle.tree_grow.specs.Steps.PlanFacts.{LeafDivided}
use Rattle.tree_grow.specs.declared.plan.Division.{Division}
use Rattle.tree_room.specs.Room.{on_climbed, on_plan, fitting, dividing, leaf_plan, grows_too_deep, room_of}
use Rattle.tree_room.specs.Up.{divided_up}
use Rattle.tree_room.specs.declared.Planned.{Planned}
use Rattle.store.proofs.LeLaws.{length-put_at, le_at-put_at-below}
use Rattle.store.proofs.PartLaws.{length_part, le_at-same, part-part}
use Rattle.store.proofs.SeamLaws.{length-pad, part-pad}
use Rattle.page.proofs.PageLaws.{length-page, length-set_page, page-set_page-other}
use Rattle.page.proofs.PoolLaws.{pool-is}
use Rattle.leaf_divide.proofs.Dividing.{both_left}
use Rattle.tree_grow.proofs.Stepping.{next-is, fresh_long, fresh_other}
use Rattle.tree_grow.proofs.Framing.{plan_is_safe}
use Rattle.tree_room.proofs.Rooming.{Climbs, climb_climbs}

-- ---- the leaf has divided

-- v is what the leaf p would hold, n cells
module _ (s : List ℕ) (st : State) (p n : ℕ) (cut : Cut) (v : List ℕ) (low : p < st.used) (there : There st.used s) (kind : node_type (page s p) ≡ 1)
    (head : part 0 12 v ≡ part 0 12 (page s p)) (left-fits : cut.bytes ≤ 4084) (inside : 12 + cut.bytes ≤ length v) (right-fits : length v ≤ 4096 + cut.bytes) where
  left-long : (q : ℕ) → length (left_leaf q cut v) ≡ 4096
  unfolding left_leaf
  left-long q =
      let x = pad 4096 (part 0 (12 + cut.bytes) v) in
      length-put_at 4 (with_count cut.cells x) 8 q
      ∙ length-put_at 2 x 6 cut.cells
      ∙ length-pad 4096 (part 0 (12 + cut.bytes) v) (rw (length_part 0 (12 + cut.bytes) v (omega arith)) (omega arith))

  left_kind : (q : ℕ) → node_type (left_leaf q cut v) ≡ 1
  unfolding left_leaf
  left_kind q =
      let y = part 0 (12 + cut.bytes) v in
      let x = pad 4096 y in
      let l = length_part 0 (12 + cut.bytes) v (omega arith) in
      le_at-put_at-below 1 4 (with_count cut.cells x) 8 q 0 (omega arith)
      ∙ le_at-put_at-below 1 2 x 6 cut.cells 0 (omega arith)
      ∙ le_at-same 1 0 0 x (page s p)
      (part-pad 4096 0 1 y (omega arith)
      ∙ part-part 0 (12 + cut.bytes) 0 1 v (omega arith)
      ∙ sym (part-part 0 12 0 1 v (omega arith))
      ∙ ap (part 0 1) head
      ∙ part-part 0 12 0 1 (page s p) (omega arith))
      ∙ kind

  right-long : (next : ℕ) (fresh : List ℕ) → length fresh ≡ 4096 → length (right_leaf next n cut v fresh) ≡ 4096
  unfolding right_leaf
  right-long next fresh len =
      let hd = part 0 12 (with_node_type 1 fresh) in
      let k = length v - (12 + cut.bytes) in
      let y = hd ++ part (12 + cut.bytes) k v in
      let lh : length hd ≡ 12 = length_part 0 12 (with_node_type 1 fresh) (rw (length-put_at 1 fresh 0 1) (omega arith)) in
      let ly : length y ≡ 12 + k = length-append hd (part (12 + cut.bytes) k v) ∙ rw (lh, length_part (12 + cut.bytes) k v (omega arith)) in
      length-put_at 4 (with_count (n - cut.cells) (pad 4096 y)) 8 next
      ∙ length-put_at 2 (pad 4096 y) 6 (n - cut.cells)
      ∙ length-pad 4096 y (omega arith)

  abbrev new : ℕ
  new = next_page s st

  abbrev pool₁ : List ℕ
  pool₁ = with_fresh s st

  abbrev right_side : List ℕ
  right_side = right_leaf (next_leaf (page pool₁ p)) n cut v (page pool₁ new)

  new_is : new ≡ st.used
  new_is = next-is s st

  new-there : There new pool₁
  new-there = rw (new_is, fresh_long s st there) there

  rl : length right_side ≡ 4096
  rl = right-long (next_leaf (page pool₁ p)) (page pool₁ new) (length-page new pool₁ new-there)

  abbrev pool₂ : List ℕ
  pool₂ = set_page new right_side pool₁

  pool₂_long : length pool₂ ≡ length s
  pool₂_long = length-set_page new right_side pool₁ new-there rl ∙ fresh_long s st there

  p_there : There p pool₂
  p_there = omega (arith, pool₂_long)

  pub divided-leaf : LeafDivided s st p (grown (divided p (next_page s st) n cut v (with_fresh s st)) (allocated s st).state)
  unfolding divided allocated
  divided-leaf =
      record {
        long = length-set_page p (left_leaf new cut v) pool₂ p_there (left-long new) ∙ pool₂_long;
        same = λ x h ne.
            page-set_page-other p (left_leaf new cut v) pool₂ p_there (left-long new) x ne
            ∙ page-set_page-other new right_side pool₁ new-there rl x (λ e. omega (arith, new_is))
            ∙ fresh_other s st there x (λ e. omega arith);
        leaf = ap node_type (both_left p new (left_leaf new cut v) right_side pool₁ (omega (arith, new_is)) new-there (left-long new) rl) ∙ left_kind new;
        root = refl;
        used = refl;
      }

-- ---- what a plan says

full_few : (ps s : List ℕ) → full_pages ps s ≤ length ps
unfolding full_pages
full_few [] s = omega arith
full_few (p ∷ ps) s = by_test (full_few ps s) (eqb (cell_count (page s p)) 510)
  where
    by_test : full_pages ps s ≤ length ps → (b : Bool) → pick b (suc (full_pages ps s)) 0 ≤ suc (length ps)
    by_test h true = omega arith
    by_test h false = omega arith

division_few : (ps s : List ℕ) → (division_of ps s).full ≤ length ps
unfolding division_of
division_few ps s = full_few ps s

plan_division : (used old : ℕ) (ps s : List ℕ) {d : Division} → plan_of s used old ps ≡ Ok d → d ≡ division_of ps s
unfolding plan_of
plan_division used old ps s {d} e = by_links (in_use used (relinks s old ps)) e
  where
    by_links : (l : Result Unit Fault) → on_links (Ok (division_of ps s)) (λ f. Err f) l ≡ Ok d → d ≡ division_of ps s
    by_links (Ok _) u = cc
    by_links (Err f) u = absurd (cc)

-- page p, overfull or not, with that cut, has that plan
pub record PlannedIs (st : State) (p : ℕ) (over : Bool) (cut : Cut) (s : List ℕ) (plan : Planned) : Type 0 where
  pub same : plan.over ≡ over
  pub climbs : Climbs st p s plan.path
  pub few : plan.above.full ≤ 4
  pub at_cut : over ≡ true → plan.cut ≡ cut
  pub plans : over ≡ true → plan_of s st.used p (pages_above plan.path 0) ≡ Ok plan.above
  pub divides : over ≡ true → plan.above ≡ division_of (pages_above plan.path 0) s

module _ (st : State) (p : ℕ) (over : Bool) (cut : Cut) (s : List ℕ) where
  fits-is : {path : Path} → over ≡ false → Climbs st p s path → PlannedIs st p over cut s (fitting path)
  fits-is o h =
      record {
        same = sym o;
        climbs = h;
        few = omega arith;
        at_cut = λ e. absurd (cc);
        plans = λ e. absurd (cc);
        divides = λ e. absurd (cc);
      }

  divides_is : {path : Path} {d : Division} → over ≡ true → Climbs st p s path → plan_of s st.used (page_at path 0) (pages_above path 0) ≡ Ok d
      → PlannedIs st p over cut s (dividing path cut d)
  divides_is {path} {d} o h e =
      let f = rw h.first at e in
      let g = plan_division st.used p (pages_above path 0) s f in
      record {
        same = sym o;
        climbs = h;
        few = rw g (omega (arith, division_few (pages_above path 0) s, h.above, h.four));
        at_cut = λ e. refl;
        plans = λ e. f;
        divides = λ e. g;
      }

  abbrev plan₀ : Path → Result Division Fault
  plan₀ path = plan_of s st.used (page_at path 0) (pages_above path 0)

  abbrev onward : Path → Result Division Fault → Result Planned Fault
  onward path d = on_plan (λ a. Ok (dividing path cut a)) (λ f. Err f) d

  module _ {plan : Planned} where
    told : {x : Planned} → ◌≡◌ {A = Result Planned Fault} (Ok x) (Ok plan) → PlannedIs st p over cut s x → PlannedIs st p over cut s plan
    told {x} u = let e : x ≡ plan = cc in subst (λ (y : Planned). PlannedIs st p over cut s y) e

    by_plan : {path : Path} → Climbs st p s path → over ≡ true → (d : Result Division Fault) → plan₀ path ≡ d → onward path d ≡ Ok plan → PlannedIs st p over cut s plan
    by_plan h o (Ok d) g u = told u (divides_is o h g)
    by_plan h o (Err f) g u = absurd (cc)

    by_over : {path : Path} → Climbs st p s path → (b : Bool) → over ≡ b → pick b (onward path (plan₀ path)) (Ok (fitting path)) ≡ Ok plan → PlannedIs st p over cut s plan
    by_over {path} h true o u = by_plan h o (plan₀ path) refl u
    by_over h false o u = told u (fits-is o h)

    by_climb : (c : Result Path Fault) → c ≡ climbed (climb_of s st.used st.root p 3)
        → on_climbed (λ path. pick over (onward path (plan₀ path)) (Ok (fitting path))) (λ f. Err f) c ≡ Ok plan
        → PlannedIs st p over cut s plan
    by_climb (Ok path) climb u = by_over (climb_climbs st p s climb refl) over refl u
    by_climb (Err f) climb u = absurd (cc)

  pub planned-is : {plan : Planned} → leaf_plan s st p over cut ≡ Ok plan → PlannedIs st p over cut s plan
  unfolding leaf_plan
  planned-is e = by_climb (climbed (climb_of s st.used st.root p 3)) refl e

-- ---- the room

-- a leaf of t bytes that divides so has room in a pool of so many pages
pub record RoomIs (pages : ℕ) (st : State) (t : ℕ) (x : Planned) : Type 0 where
  pub cuts : cut_fits t x.cut ≡ true
  pub some : 1 ≤ x.cut.cells
  pub left : x.cut.bytes ≤ 4084
  pub right : t ≤ 4084 + x.cut.bytes
  pub asked : st.used + 1 + pages_asked st.root x.above ≤ pages

cut_sides : (t : ℕ) (cut : Cut) → cut_fits t cut ≡ true → (1 ≤ cut.cells) × (cut.bytes ≤ 4084) × (t ≤ 4084 + cut.bytes)
unfolding cut_fits
cut_sides t cut e =
    let a = (and-eq-true_iff (leb 1 cut.cells) (leb (larger_side t cut) 4084)).0 e in
    let b = leb-true (larger_side t cut) 4084 a.1 in
    (leb-true 1 cut.cells a.0, omega arith, omega arith)

pub room-is : (pages : ℕ) (st : State) (t : ℕ) (x : Planned) → room_of pages st t x ≡ Ok tt → x.over ≡ true → RoomIs pages st t x
unfolding room_of
room-is pages st t x e o =
    by_tests (cut_fits t x.cut) refl (grows_too_deep x) (leb (st.used + 1 + pages_asked st.root x.above) pages) refl (rw o at e)
  where
    by_tests : (a : Bool) → cut_fits t x.cut ≡ a → (b c : Bool) → leb (st.used + 1 + pages_asked st.root x.above) pages ≡ c
        → ◌≡◌ {A = Result Unit Refusal} (pick a (pick b (Err Refusal.TooDeep) (pick c (Ok tt) (Err Refusal.NoPages))) (Err Refusal.Undividable)) (Ok tt) → RoomIs pages st t x
    by_tests true f false true l u =
        let k = cut_sides t x.cut f in
        record { cuts = f; some = k.0; left = k.1; right = k.2; asked = leb-true (st.used + 1 + pages_asked st.root x.above) pages l }
    by_tests true f false false l u = absurd (cc)
    by_tests true f true c l u = absurd (cc)
    by_tests false f b c l u = absurd (cc)

-- in a good pool
pub record RoomLeft (s : List ℕ) (st : State) (x : Planned) : Type 0 where
  pub few : st.used < 65536
  pub there : There st.used s
  pub all_few : st.used + 1 + pages_asked st.root x.above ≤ 65536
  pub all_there : (st.used + 1 + pages_asked st.root x.above) * 4096 ≤ length s

pub room-left : (s : List ℕ) (st : State) (t : ℕ) (x : Planned) → good_pool s st ≡ true → room_of (length s / 4096) st t x ≡ Ok tt → x.over ≡ true → RoomLeft s st x
room-left s st t x good e o =
    let g = pool-is s st good in
    let a = (room-is (length s / 4096) st t x e o).asked in
    let f = g.few in
    record { few = omega arith; there = omega arith; all_few = omega arith; all_there = omega arith }

-- ---- all together

pub planned_safe : (s : List ℕ) (st : State) (p t : ℕ) (cut : Cut) (plan : Planned) (sep : ℕ) (g : Grown) → good_pool s st ≡ true → p < st.used
    → node_type (page s p) ≡ 1 → leaf_plan s st p true cut ≡ Ok plan → room_of (length s / 4096) st t plan ≡ Ok tt → LeafDivided s st p g
    → AboveSafe st.root p sep st.used (pages_above plan.path 0) g
planned_safe s st p t cut plan sep g good low kind e room leaf =
    let is = planned-is st p true cut s e in
    let d = is.divides refl in
    let left = room-left s st t plan good room is.same in
    let n = leaf.used in
    let l = leaf.long in
    plan_is_safe s st p sep (pages_above plan.path 0) g low kind is.climbs.way (rw d at (is.plans refl)) leaf
    (rw (← d) (omega (arith, left.all_few), omega (arith, left.all_there)))

-- ---- the stores of a leaf that divides

-- v, of t bytes and the header, is what the leaf p would hold; a is what was handed out, u the pool with the leaf divided
module _ (s : List ℕ) (st : State) (p n t : ℕ) (cut : Cut) (v : List ℕ) {plan : Planned} (good : good_pool s st ≡ true) (low : p < st.used) (kind : node_type (page s p) ≡ 1)
    (plans : leaf_plan s st p true cut ≡ Ok plan) (room : room_of (length s / 4096) st t plan ≡ Ok tt) (head : part 0 12 v ≡ part 0 12 (page s p))
    (size : length v ≡ 12 + t) (inside : plan.cut.bytes ≤ t)
    {a : Allocated} {s₁ u : List ℕ} (given : a ≡ allocated s st) (fresh : s₁ ≡ with_fresh s st) (divides : u ≡ divided p a.page n plan.cut v s₁) where
  is : PlannedIs st p true cut s plan
  is = planned-is st p true cut s plans

  fits : RoomIs (length s / 4096) st t plan
  fits = room-is (length s / 4096) st t plan room is.same

  free : RoomLeft s st plan
  free = room-left s st t plan good room is.same

  page-is : a.page ≡ next_page s st
  unfolding allocated
  page-is = ap (λ (x : Allocated). x.page) given

  done : grown u a.state ≡ grown (divided p (next_page s st) n plan.cut v (with_fresh s st)) (allocated s st).state
  done = rw (divides, page-is, fresh, given)

  leaf : LeafDivided s st p (grown u a.state)
  leaf =
      rw done
      (divided-leaf s st p n plan.cut v low free.there kind head fits.left (omega arith) (omega (arith, fits.right)))

  -- what `settle` asks for
  pub up_asks : (0 < plan.path.len) × (plan.path.len ≤ 4) × There a.page u
      × AboveSafe a.state.root (page_at plan.path 0) (rank_at (page u a.page) 12) a.page (pages_above plan.path 0) (grown u a.state)
  up_asks =
      let long : length u ≡ length s = leaf.long in
      let root : a.state.root ≡ st.root = leaf.root in
      let q : a.page ≡ st.used = page-is ∙ next-is s st in (
        is.climbs.some,
        is.climbs.four,
        omega (arith, free.there),
        subst (λ (x : ℕ). AboveSafe x (page_at plan.path 0) (rank_at (page u a.page) 12) a.page (pages_above plan.path 0) (grown u a.state)) (sym root)
            (rw (is.climbs.first, q) (planned_safe s st p t cut plan (rank_at (page u st.used) 12) (grown u a.state) good low kind plans room leaf)),
      )

  -- and what it does
  pub up_done : {w : List ℕ} {r : State} → grown w r ≡ settled (pages_above plan.path 0) (page_at plan.path 0) a.page (grown u a.state)
      → grown w r ≡ divided_up plan p n v (grown s st)
  unfolding divided_up
  up_done e = e ∙ rw (done, page-is, is.climbs.first)
