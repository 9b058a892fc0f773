-- The walk along the chain of a tree, said once for every walk: it meets leaves that are judged good, never a fault, and
-- gathers over them up to a leaf that ends it, or to the end of the chain. Assumes nothing.
use Rattle.std.proofs.Common.{Ok}
use mathlib.Core.Path.{◌≡◌, refl, sym, ap, ◌∙◌, subst}
use mathlib.Core.Bool.{Bool, true, false}
use mathlib.Core.List.{List, [], ◌∷◌, ◌++◌, append_assoc}
use Prim.Native.Nat.{ℕ, zero, suc, ◌≤◌, ◌<◌}
use native.Mathlib.Omega.{arith}
use native.Mathlib.Nat.{le_trans}
use lib.Dec.{leb}
use lib.ListN.{length}
use borrow.Author.Tests.{le-leb, leb-false, ne_eqb}
use Rattle.store.specs.Pick.{pick}
use Rattle.page.specs.Page.{page}
use Rattle.leaf.specs.Cells.{judge_leaf}
use Rattle.leaf.specs.Rows.{Row, rows, of_key}
use Rattle.tree.specs.Chain.{Seen, stop, go, along}
use Rattle.theory_tree.specs.View.{view}
use Rattle.theory_tree.specs.Shape.{Shape, leaf, node, pair, chain, pages_in, first, All, KeysIn, Bounded, WellFormed}
use Rattle.tree.proofs.Ways.{along-last, along-end, along_on}
use Rattle.theory_tree.proofs.Says.{LeafSays}
use Rattle.theory_tree.proofs.Workers.{flat, from, larger}
use Rattle.theory_tree.proofs.Contexts.{Ctx, top, in_l, in_r, under, plug, pre_g, post_c, post_g, par_c, nxt_c, Loc}
use Rattle.theory_tree.proofs.Lists.{all_app, all_left, all_right, all_map}
use Rattle.theory_tree.proofs.Zip.{plug_pages, unplug_bnd, unplug_rep}
use Rattle.theory_tree.proofs.Order.{btw_right, btw_below, bnd_chain, leaves_chain, Found, found, larger_after}
use Rattle.theory_tree.proofs.Seek.{leaf_of}
use Rattle.theory_tree.proofs.Walk.{here, locs, froms, cellss, locs_plug, froms_plug, locs_cells, froms_cells, head_page, Linked, locs_head, locs_linked, froms_linked, Nz, NzTail, froms_nz}
use Rattle.theory_tree.proofs.Search.{froms_head}
use Rattle.theory_tree.proofs.Pigeon.{pigeon, locs_count, froms_count}
use Rattle.theory_walks.proofs.Paging.{leaf_at, judged-leaf_of}

-- ---- the leaves of a tree

-- a leaf with its context, as the pool has it
pub record AtLeaf (s : List ℕ) (used : ℕ) (l : Loc) : Type 0 where
  pub says : LeafSays (page s l.page) (par_c 0 l.ctx) (nxt_c 0 l.ctx) l.cells
  pub in_use : l.page < used
  pub end : ℕ
  pub judged : judge_leaf (page s l.page) l.page ≡ Ok end

abbrev pub InTree : Shape → Loc → Type 0
InTree t l = plug l.ctx (here l) ≡ t

module _ (s : List ℕ) (root used : ℕ) (t : Shape) (f : WellFormed (view s) root used t) where
  pub at_leaf : (l : Loc) → InTree t l → AtLeaf s used l
  at_leaf l e =
      let v = (unplug_rep (view s) 0 0 l.ctx (here l) (rw e f.rep)).1 in
      let b = (unplug_bnd 0 4294967295 l.ctx (here l) (rw e f.bounds)).1 in
      let u : All (λ p. p < used) (pre_g l.ctx ++ (l.page ∷ post_g l.ctx)) = rw (← plug_pages l.ctx (here l), e) f.below in
      let j = judged-leaf_of s l.page (par_c 0 l.ctx) (nxt_c 0 l.ctx) l.cells v b.1 in
      record {
        says = leaf_at s l.page (par_c 0 l.ctx) (nxt_c 0 l.ctx) l.cells v;
        in_use = (all_right (λ p. p < used) (pre_g l.ctx) (l.page ∷ post_g l.ctx) u).0;
        end = j.0;
        judged = j.1;
      }

  pub at_leaves : (ls : List Loc) → All (InTree t) ls → All (AtLeaf s used) ls
  at_leaves ls = all_map (InTree t) (AtLeaf s used) at_leaf ls

-- search for the smallest key meets every leaf
pub froms_zero : (t : Shape) (c : Ctx) → froms 0 t c ≡ locs t c
froms_zero (leaf p rs) c = refl
froms_zero (node p f) c = froms_zero f (under p c)
froms_zero (pair a k b) c = rw (le-leb 0 k (omega arith), froms_zero a (in_l k b c))

pub locs_later : (s : List ℕ) (root used : ℕ) (t : Shape) → WellFormed (view s) root used t → NzTail (locs t top)
locs_later s root used t f = subst NzTail (froms_zero t top) (froms_nz 0 t top f.later)

-- what stands in the chain behind each leaf
abbrev pub Trailed : List Row → List Loc → Type 0
Trailed z [] = Unit {0}
Trailed z (l ∷ ls) = (post_c l.ctx ≡ flat (cellss ls) ++ z) × Trailed z ls

cells_app : (xs ys : List Loc) → flat (cellss (xs ++ ys)) ≡ flat (cellss xs) ++ flat (cellss ys)
cells_app [] ys = refl
cells_app (l ∷ xs) ys = ap (λ (r : List Row). l.cells ++ r) (cells_app xs ys) ∙ sym (append_assoc l.cells (flat (cellss xs)) (flat (cellss ys)))

pub locs_chain : (t : Shape) (c : Ctx) → flat (cellss (locs t c)) ≡ chain t
locs_chain t c = ap flat (locs_cells t c) ∙ leaves_chain t

trailed_app : (z : List Row) (xs ys : List Loc) → Trailed (flat (cellss ys) ++ z) xs → Trailed z ys → Trailed z (xs ++ ys)
trailed_app z [] ys h g = g
trailed_app z (l ∷ xs) ys h g =
    (h.0 ∙ (sym (append_assoc (flat (cellss xs)) (flat (cellss ys)) z) ∙ ap (λ (r : List Row). r ++ z) (sym (cells_app xs ys))), trailed_app z xs ys h.1 g)

pub locs_trailed : (t : Shape) (c : Ctx) → Trailed (post_c c) (locs t c)
locs_trailed (leaf p rs) c = (refl, tt)
locs_trailed (node p f) c = locs_trailed f (under p c)
locs_trailed (pair a k b) c =
    trailed_app (post_c c) (locs a (in_l k b c)) (locs b (in_r a k c)) (rw (locs_chain b (in_r a k c)) (locs_trailed a (in_l k b c))) (locs_trailed b (in_r a k c))

-- ---- what a search does not meet

each_flat : (P : Row → Type 0) (ls : List Loc) → All P (flat (cellss ls)) → All (λ (l : Loc). All P l.cells) ls
each_flat P [] h = tt
each_flat P (l ∷ ls) h = (all_left P l.cells (flat (cellss ls)) h, each_flat P ls (all_right P l.cells (flat (cellss ls)) h))

-- the leaves up to the first that ends the walk
abbrev pub up_to : (List Row → Bool) → List Loc → List Loc
up_to ends [] = []
up_to ends (l ∷ ls) = l ∷ pick (ends l.cells) [] (up_to ends ls)

pub up_to_end : (ls : List Loc) → up_to (λ rs. false) ls ≡ ls
up_to_end [] = refl
up_to_end (l ∷ ls) = ap (λ (r : List Loc). l ∷ r) (up_to_end ls)

abbrev pub Without : ℕ → List Loc → Type 0
Without k ls = All (λ (l : Loc). All (λ (r : Row). of_key k r ≡ false) l.cells) ls

without : (k : ℕ) (P : Row → Type 0) → ((r : Row) → P r → r.key ≡ k → ⊥) → (ls : List Loc) → All P (flat (cellss ls)) → Without k ls
without k P f ls h = each_flat (λ (r : Row). of_key k r ≡ false) ls (all_map P (λ (r : Row). of_key k r ≡ false) (λ r m. ne_eqb r.key k (f r m)) (flat (cellss ls)) h)

-- leaves before the search's hold smaller keys
pub record Before (k : ℕ) (t : Shape) (c : Ctx) : Type 0 where
  pub passed : List Loc
  pub is : locs t c ≡ passed ++ froms k t c
  pub none : Without k passed

pub before : (k lo hi : ℕ) (t : Shape) (c : Ctx) → Bounded lo hi t → Before k t c
before k lo hi (leaf p rs) c b = record { passed = []; is = refl; none = tt }
before k lo hi (node p f) c b = let r = before k lo hi f (under p c) b in record { passed = r.passed; is = r.is; none = r.none }
before k lo hi (pair a s g) c b = by_left (leb k s) refl (before k lo s a (in_l s g c) b.0) (before k s hi g (in_r a s c) b.1)
  where
    by_left : (x : Bool) → leb k s ≡ x → Before k a (in_l s g c) → Before k g (in_r a s c) → Before k (pair a s g) c
    by_left true e ra rb =
        record {
          passed = ra.passed;
          is = rw e (ap (λ (r : List Loc). r ++ locs g (in_r a s c)) ra.is ∙ append_assoc ra.passed (froms k a (in_l s g c)) (locs g (in_r a s c)));
          none = ra.none;
        }
    by_left false e ra rb =
        let l : s < k = leb-false k s e in
        let small : All (λ (r : Row). r.key < k) (chain a) =
        all_map (λ (r : Row). r.key ≤ s) (λ (r : Row). r.key < k) (λ r m. omega arith) (chain a) (btw_below lo s (chain a) (bnd_chain lo s a b.0)) in
        record {
          passed = locs a (in_l s g c) ++ rb.passed;
          is = rw e (ap (λ (r : List Loc). locs a (in_l s g c) ++ r) rb.is ∙ sym (append_assoc (locs a (in_l s g c)) rb.passed (froms k g (in_r a s c))));
          none = all_app (λ (l : Loc). All (λ (r : Row). of_key k r ≡ false) l.cells) (locs a (in_l s g c)) rb.passed
              (without k (λ (r : Row). r.key < k) (λ r m e. omega arith) (locs a (in_l s g c)) (rw (locs_chain a (in_l s g c)) small)) rb.none;
        }

-- leaves behind one that ends the search hold larger keys
record Behind (k : ℕ) (ls : List Loc) : Type 0 where
  left : List Loc
  is : ls ≡ up_to (larger k) ls ++ left
  none : Without k left

behind : (k lo hi : ℕ) (ls : List Loc) → KeysIn lo hi (flat (cellss ls)) → Behind k ls
behind k lo hi [] b = record { left = []; is = refl; none = tt }
behind k lo hi (l ∷ ls) b = by_end (larger k l.cells) refl (behind k lo hi ls (btw_right lo hi l.cells (flat (cellss ls)) b))
  where
    by_end : (x : Bool) → larger k l.cells ≡ x → Behind k ls → Behind k (l ∷ ls)
    by_end true e r =
        let large : All (λ (r : Row). k < r.key) (flat (cellss ls)) = larger_after k lo hi l.cells (flat (cellss ls)) b e in
        record { left = ls; is = rw e; none = without k (λ (r : Row). k < r.key) (λ r m q. omega arith) ls large }
    by_end false e r = record { left = r.left; is = rw e (ap (λ (x : List Loc). l ∷ x) r.is); none = r.none }

-- what is met of all leaves
pub record Around (k : ℕ) (t : Shape) : Type 0 where
  pub passed : List Loc
  pub left : List Loc
  pub is : locs t top ≡ passed ++ (up_to (larger k) (froms k t top) ++ left)
  pub none_before : Without k passed
  pub none_behind : Without k left

pub around : (k lo hi : ℕ) (t : Shape) → Bounded lo hi t → Around k t
around k lo hi t b =
    let q = before k lo hi t top b in
    let w : flat (cellss (froms k t top)) ≡ flat (from k t) = ap flat (froms_cells k t top) in
    let d : Found k t = found k lo hi t b in
    let keys : KeysIn lo hi (flat (from k t)) = btw_right lo hi d.pre (flat (from k t)) (rw d.all at (bnd_chain lo hi t b)) in
    let r = behind k lo hi (froms k t top) (rw w keys) in
    record {
      passed = q.passed;
      left = r.left;
      is = q.is ∙ ap (λ (x : List Loc). q.passed ++ x) r.is;
      none_before = q.none;
      none_behind = r.none;
    }

-- ---- gathering over leaves

abbrev pub gather : {A : Type 0} → (A → ℕ → List ℕ → A) → List ℕ → A → List Loc → A
gather step s a [] = a
gather step s a (l ∷ ls) = gather step s (step a l.page (page s l.page)) ls

pub gather_app : {A : Type 0} (step : A → ℕ → List ℕ → A) (s : List ℕ) (a : A) (xs ys : List Loc) → gather step s a (xs ++ ys) ≡ gather step s (gather step s a xs) ys
gather_app step s a [] ys = refl
gather_app step s a (l ∷ xs) ys = gather_app step s (step a l.page (page s l.page)) xs ys

module _ {A : Type 0} (step : A → ℕ → List ℕ → A) (s : List ℕ) (used : ℕ) where
  -- a step that passes over leaves without the key gathers nothing from them
  module _ (k : ℕ) (skips : (a : A) (p : ℕ) (pg : List ℕ) (e : ℕ) → judge_leaf pg p ≡ Ok e → All (λ (r : Row). of_key k r ≡ false) (rows pg) → step a p pg ≡ a) where
    gather_skip : (a : A) (ls : List Loc) → All (AtLeaf s used) ls → Without k ls → gather step s a ls ≡ a
    gather_skip a [] h o = refl
    gather_skip a (l ∷ ls) h o =
        let e : step a l.page (page s l.page) ≡ a = skips a l.page (page s l.page) h.0.end h.0.judged (rw h.0.says.rows_are o.0) in
        rw e (gather_skip a ls h.1 o.1)

    pub gather_around : (t : Shape) → All (AtLeaf s used) (locs t top) → Around k t → (a : A)
        → gather step s a (up_to (larger k) (froms k t top)) ≡ gather step s a (locs t top)
    gather_around t h r a =
        let m = up_to (larger k) (froms k t top) in
        let g : All (AtLeaf s used) (r.passed ++ (m ++ r.left)) = subst (All (AtLeaf s used)) r.is h in
        let gl = all_left (AtLeaf s used) r.passed (m ++ r.left) g in
        let gr = all_right (AtLeaf s used) m r.left (all_right (AtLeaf s used) r.passed (m ++ r.left) g) in
        sym
        (ap (gather step s a) r.is
        ∙ (gather_app step s a r.passed (m ++ r.left)
        ∙ (ap (λ (x : A). gather step s x (m ++ r.left)) (gather_skip a r.passed gl r.none_before)
        ∙ (gather_app step s a m r.left ∙ gather_skip (gather step s a m) r.left gr r.none_behind))))

  -- a step that folds a leaf's rows folds those of the chain
  module _ (g : A → List Row → A) (folds : (a : A) (p : ℕ) (pg : List ℕ) (e : ℕ) → judge_leaf pg p ≡ Ok e → step a p pg ≡ g a (rows pg))
      (none : (a : A) → g a [] ≡ a) (both : (a : A) (xs ys : List Row) → g a (xs ++ ys) ≡ g (g a xs) ys) where
    pub gather_rows : (a : A) (ls : List Loc) → All (AtLeaf s used) ls → gather step s a ls ≡ g a (flat (cellss ls))
    gather_rows a [] h = sym (none a)
    gather_rows a (l ∷ ls) h =
        let e : step a l.page (page s l.page) ≡ g a l.cells = folds a l.page (page s l.page) h.0.end h.0.judged ∙ ap (g a) h.0.says.rows_are in
        gather_rows (step a l.page (page s l.page)) ls h.1 ∙ (ap (λ (x : A). g x (flat (cellss ls))) e ∙ sym (both a l.cells (flat (cellss ls))))

    pub gather_chain : (t : Shape) → All (AtLeaf s used) (locs t top) → (a : A) → gather step s a (locs t top) ≡ g a (chain t)
    gather_chain t h a = gather_rows a (locs t top) h ∙ ap (g a) (locs_chain t top)

-- ---- the walk

-- look answers by the leaf's rows whether the walk ends there, and gathers by step
module _ {A : Type 0} (look : A → ℕ → List ℕ → Seen A) (ends : List Row → Bool) (step : A → ℕ → List ℕ → A)
    (says : (a : A) (p : ℕ) (pg : List ℕ) (e : ℕ) → judge_leaf pg p ≡ Ok e → look a p pg ≡ pick (ends (rows pg)) (stop (step a p pg)) (go (step a p pg)))
    (s : List ℕ) (used : ℕ) where
  walk_list : (m : ℕ) (a : A) (l : Loc) (ls : List Loc) → length ls < m → All (AtLeaf s used) (l ∷ ls) → Linked 0 0 (l ∷ ls) → Nz ls
      → along s used l.page look m a ≡ Ok (gather step s a (up_to ends (l ∷ ls)))
  walk_list zero a l ls n h k o = absurd (omega arith)
  walk_list (suc m) a l ls n h k o =
      by_end (ends l.cells) ls n h.1 k o
      (rw h.0.says.rows_are at (says a l.page (page s l.page) h.0.end h.0.judged))
      (walk_list m)
    where
      by_end : (x : Bool) (ls : List Loc) → length ls < suc m → All (AtLeaf s used) ls → Linked 0 0 (l ∷ ls) → Nz ls
          → look a l.page (page s l.page) ≡ pick x (stop (step a l.page (page s l.page))) (go (step a l.page (page s l.page)))
          → ((b : A) (l' : Loc) (ls' : List Loc) → length ls' < m → All (AtLeaf s used) (l' ∷ ls') → Linked 0 0 (l' ∷ ls') → Nz ls'
          → along s used l'.page look m b ≡ Ok (gather step s b (up_to ends (l' ∷ ls'))))
          → along s used l.page look (suc m) a ≡ Ok (gather step s (step a l.page (page s l.page)) (pick x [] (up_to ends ls)))
      by_end true ls n g k o e ih = sym (along-last look used a l.page s h.0.in_use refl (suc m) (omega arith) e)
      by_end false [] n g k o e ih = sym (along-end look used a l.page s h.0.in_use refl (suc m) (omega arith) e refl (h.0.says.next ∙ k.0))
      by_end false (l' ∷ ls') n g k o e ih =
          let q : l'.page ≡ _ = sym (h.0.says.next ∙ k.0) in
          sym (along_on look used a l.page s h.0.in_use refl (suc m) refl e q o.0)
          ∙ ih (step a l.page (page s l.page)) l' ls' (let z : suc (length ls') < suc m = n in omega arith) g k.1 o.1

  walk_from : (m p : ℕ) (a : A) (ls : List Loc) → length ls ≤ m → ((z : ℕ) → head_page ls z ≡ p) → All (AtLeaf s used) ls → Linked 0 0 ls → NzTail ls
      → along s used p look m a ≡ Ok (gather step s a (up_to ends ls))
  walk_from m p a [] n e h k o = absurd (let z : ◌≡◌ {A = ℕ} 0 1 = e 0 ∙ sym (e 1) in omega arith)
  walk_from m p a (l ∷ ls) n e h k o = ap (λ (q : ℕ). along s used q look m a) (sym (e 0)) ∙ walk_list m a l ls n h k o

  module _ (root : ℕ) (t : Shape) (f : WellFormed (view s) root used t) where
    few : length (pages_in t) ≤ used
    few = pigeon used (pages_in t) f.distinct f.below

    -- from where search for a key comes to, and from the first leaf
    pub walk_search : (key : ℕ) (a : A) → along s used (leaf_of key t) look used a ≡ Ok (gather step s a (up_to ends (froms key t top)))
    walk_search key a =
        walk_from used (leaf_of key t) a (froms key t top) (le_trans (froms_count key t top) few) (froms_head key t top)
        (at_leaves s root used t f (froms key t top) (froms_plug key t top)) (froms_linked 0 key t top) (froms_nz key t top f.later)

    pub walk_first : (a : A) → along s used (first t) look used a ≡ Ok (gather step s a (up_to ends (locs t top)))
    walk_first a =
        walk_from used (first t) a (locs t top) (le_trans (locs_count t top) few) (locs_head t top)
        (at_leaves s root used t f (locs t top) (locs_plug t top)) (locs_linked 0 t top) (locs_later s root used t f)

-- ---- the two kinds of walks

-- until a leaf holds a larger key, by a step that passes over leaves without the key: it gathers what all leaves give
module _ {A : Type 0} (look : A → ℕ → List ℕ → Seen A) (key : ℕ) (step : A → ℕ → List ℕ → A)
    (says : (a : A) (p : ℕ) (pg : List ℕ) (e : ℕ) → judge_leaf pg p ≡ Ok e → look a p pg ≡ pick (larger key (rows pg)) (stop (step a p pg)) (go (step a p pg)))
    (skips : (a : A) (p : ℕ) (pg : List ℕ) (e : ℕ) → judge_leaf pg p ≡ Ok e → All (λ (r : Row). of_key key r ≡ false) (rows pg) → step a p pg ≡ a)
    (s : List ℕ) (root used : ℕ) (t : Shape) (f : WellFormed (view s) root used t) where
  pub walk-key : (a : A) → along s used (leaf_of key t) look used a ≡ Ok (gather step s a (locs t top))
  walk-key a =
      walk_search look (larger key) step says s used root t f key a
      ∙ ap (λ (x : A). Ok x) (gather_around step s used key skips t (at_leaves s root used t f (locs t top) (locs_plug t top)) (around key 0 4294967295 t f.bounds) a)

-- to the end of the chain
module _ {A : Type 0} (look : A → ℕ → List ℕ → Seen A) (step : A → ℕ → List ℕ → A)
    (says : (a : A) (p : ℕ) (pg : List ℕ) (e : ℕ) → judge_leaf pg p ≡ Ok e → look a p pg ≡ go (step a p pg))
    (s : List ℕ) (root used : ℕ) (t : Shape) (f : WellFormed (view s) root used t) where
  pub walk_all : (a : A) → along s used (first t) look used a ≡ Ok (gather step s a (locs t top))
  walk_all a = walk_first look (λ rs. false) step says s used root t f a ∙ ap (λ (ls : List Loc). Ok (gather step s a ls)) (up_to_end (locs t top))
