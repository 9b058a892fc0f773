-- Remove and vacuum store to leaves of their tree, and so change no other page. Assumes nothing.
use Rattle.std.proofs.Common.{Result, Ok, Err}
use Rattle.row.specs.declared.Fault.{Fault}
use mathlib.Core.Path.{◌≡◌, refl, sym, ap, ◌∙◌, subst}
use mathlib.Core.Bool.{Bool, true, false}
use mathlib.Core.List.{List, [], ◌∷◌, ◌++◌, map, map-append}
use mathlib.Core.Logic.{◌⊎◌, inl, inr}
use Prim.Native.Nat.{ℕ, zero, suc, ◌*◌, ◌≤◌, ◌<◌}
use native.Mathlib.Omega.{arith}
use lib.Dec.{leb, eqb}
use lib.ListN.{length}
use borrow.Author.Tests.{eqb-true, eqb-false}
use Rattle.store.specs.Le.{AreBytes}
use Rattle.store.specs.Pick.{pick}
use Rattle.page.specs.Header.{next_leaf}
use Rattle.page.specs.Page.{page, set_page}
use Rattle.page.specs.Pool.{good_pool}
use Rattle.page.specs.declared.pool.State.{State}
use Rattle.mvcc.specs.Lists.{mem}
use Rattle.mvcc.specs.Snapshot.{lookup, good_statuses, Statuses}
use Rattle.leaf.specs.Rows.{rows}
use Rattle.call_answers.specs.Answer.{Ended, Outcome}
use Rattle.call_clean.specs.Remove.{count_along, removed_along, remove_call}
use Rattle.call_clean.specs.Vacuum.{judged_along, vacuumed_along, vacuum_call}
use Rattle.tree_grow.specs.Steps.Safe.{There}
use Rattle.theory_tree.specs.View.{view}
use Rattle.theory_tree.specs.Shape.{Shape, leaf, node, pair, pages_in, first, All, NoneTwice, WellFormed}
use Rattle.page.proofs.PageLaws.{length-page, length-set_page, page-set_page-other}
use Rattle.page.proofs.PoolLaws.{pool-is}
use Rattle.leaf.proofs.Bytes.{bytes-page}
use Rattle.leaf.proofs.Choosing.{any_page}
use Rattle.call_clean.proofs.Calls.{remove-pool, remove-ill, remove-done, remove-call, vacuum-pool, vacuum-statuses, vacuum-ill, vacuum-done, vacuum-call}
use Rattle.call_clean.proofs.Storing.{remove-none, vacuum-none}
use Rattle.theory_tree.proofs.Contexts.{Ctx, top, in_l, in_r, under, nxt_c, Loc}
use Rattle.theory_tree.proofs.Lists.{all_app, all_left, all_right, all_map, Out, nd_left, nd_right, nd_apart, nd_join, mem-out}
use Rattle.theory_tree.proofs.Search.{froms_head}
use Rattle.theory_tree.proofs.Seek.{leaf_of}
use Rattle.theory_tree.proofs.Walk.{locs, froms, froms_plug, head_page, locs_head, Linked, froms_linked}
use Rattle.theory_tree.proofs.Workers.{larger}
use Rattle.theory_walks.proofs.Descending.{descend_search, descend-first}
use Rattle.theory_walks.proofs.Walking.{AtLeaf, at_leaves, froms_zero}
use Rattle.theory_clean.proofs.Changing.{LeafIs}
use Rattle.theory_clean.proofs.Removing.{cleared, clears, clear_last, clear_end, clear_on}
use Rattle.theory_clean.proofs.Vacuuming.{swept, sweeps, step, sweep-end, sweep_on}

-- ---- the leaves that a search meets

abbrev numbers : List Loc → List ℕ
numbers ls = map (λ (l : Loc). l.page) ls

-- they are pages of the tree, and none twice
met_each : (P : ℕ → Type 0) (k : ℕ) (t : Shape) (c : Ctx) → All P (pages_in t) → All P (numbers (froms k t c))
met_each P k (leaf p rs) c h = h
met_each P k (node p f) c h = met_each P k f (under p c) h.1
met_each P k (pair a s b) c h =
    let hb = all_right P (pages_in a) (pages_in b) h in
    by_left (leb k s) (met_each P k a (in_l s b c) (all_left P (pages_in a) (pages_in b) h)) (met_each P k b (in_r a s c) hb)
    (subst (λ (ls : List Loc). All P (numbers ls)) (froms_zero b (in_r a s c)) (met_each P 0 b (in_r a s c) hb))
  where
    xs : List Loc
    xs = froms k a (in_l s b c)

    ys : List Loc
    ys = locs b (in_r a s c)

    by_left : (z : Bool) → All P (numbers xs) → All P (numbers (froms k b (in_r a s c))) → All P (numbers ys) → All P (numbers (pick z (xs ++ ys) (froms k b (in_r a s c))))
    by_left true i j l = rw (map-append (λ (l : Loc). l.page) xs ys) (all_app P (numbers xs) (numbers ys) i l)
    by_left false i j l = j

met_once : (k : ℕ) (t : Shape) (c : Ctx) → NoneTwice (pages_in t) → NoneTwice (numbers (froms k t c))
met_once k (leaf p rs) c d = d
met_once k (node p f) c d = met_once k f (under p c) d.1
met_once k (pair a s b) c d =
    let db = nd_right (pages_in a) (pages_in b) d in
    by_left (leb k s) (met_once k a (in_l s b c) (nd_left (pages_in a) (pages_in b) d)) (met_once k b (in_r a s c) db)
    (subst (λ (ls : List Loc). NoneTwice (numbers ls)) (froms_zero b (in_r a s c)) (met_once 0 b (in_r a s c) db))
  where
    xs : List Loc
    xs = froms k a (in_l s b c)

    ys : List Loc
    ys = locs b (in_r a s c)

    off : (x : ℕ) → Out x (pages_in b) → Out x (numbers ys)
    off x o = subst (λ (ls : List Loc). Out x (numbers ls)) (froms_zero b (in_r a s c)) (met_each (λ y. x ≡ y → ⊥) 0 b (in_r a s c) o)

    apart : All (λ x. Out x (numbers ys)) (numbers xs)
    apart =
        met_each (λ x. Out x (numbers ys)) k a (in_l s b c) (all_map (λ x. Out x (pages_in b)) (λ x. Out x (numbers ys)) off (pages_in a) (nd_apart (pages_in a) (pages_in b) d))

    by_left : (z : Bool) → NoneTwice (numbers xs) → NoneTwice (numbers (froms k b (in_r a s c))) → NoneTwice (numbers ys)
        → NoneTwice (numbers (pick z (xs ++ ys) (froms k b (in_r a s c))))
    by_left true i j l = rw (map-append (λ (l : Loc). l.page) xs ys) (nd_join (numbers xs) (numbers ys) i l apart)
    by_left false i j l = j

first-is : (t : Shape) → leaf_of 0 t ≡ first t
first-is t = sym (froms_head 0 t top 0) ∙ ap (λ (ls : List Loc). head_page ls 0) (froms_zero t top) ∙ locs_head t top 0

-- ---- a walk along them that stores

-- the leaf l as the pool s has it
record Leaf (used : ℕ) (s : List ℕ) (l : Loc) : Type 0 where
  low : l.page < used
  there : There l.page s
  next : next_leaf (page s l.page) ≡ nxt_c 0 l.ctx
  end : ℕ
  is : LeafIs l.page end (page s l.page)

leaf_of_lem : (used : ℕ) (s : List ℕ) → AreBytes s → used * 4096 ≤ length s → (l : Loc) → AtLeaf s used l → Leaf used s l
leaf_of_lem used s B room l a =
    let h : There l.page s = omega (arith, room, a.in_use) in
    record {
      low = a.in_use;
      there = h;
      next = a.says.next;
      end = a.end;
      is =
          record {
            type = a.says.type;
            judged = a.judged;
            sound =
                record {
                  bytes = bytes-page l.page s B;
                  whole = length-page l.page s h;
                  judged = any_page l.page 0 a.end (page s l.page) a.judged;
                };
          };
    }

-- after a store to another page
leaves_stay : (used p : ℕ) (y s : List ℕ) → There p s → length y ≡ 4096 → (ls : List Loc) → All (Leaf used s) ls → Out p (numbers ls) → All (Leaf used (set_page p y s)) ls
leaves_stay used p y s h len [] a o = tt
leaves_stay used p y s h len (l ∷ ls) a o =
    let e : page (set_page p y s) l.page ≡ page s l.page = page-set_page-other p y s h len l.page (λ q. o.0 (sym q)) in
    let b = a.0 in
    let long = length-set_page p y s h len in
    (record { low = b.low; there = rw long b.there; next = rw e b.next; end = b.end; is = rw e b.is }, leaves_stay used p y s h len ls a.1 o.1)

module _ {A : Type 0} (used : ℕ) (walk : ℕ → A → ℕ → List ℕ → List ℕ) where
  -- one leaf of the walk: it is stored, and the walk ends or goes on to the next
  record Turn (m : ℕ) (a : A) (p : ℕ) (s : List ℕ) : Type 0 where
    made : List ℕ
    long : length made ≡ 4096
    ends : (walk (suc m) a p s ≡ set_page p made s)
        ⊎ ((b : A) × (next_leaf (page s p) ≡ 0 → ⊥) × (walk (suc m) a p s ≡ walk m b (next_leaf (page s p)) (set_page p made s)))

  module _ (none : (a : A) (p : ℕ) (s : List ℕ) → walk 0 a p s ≡ s)
      (turns : (m : ℕ) (a : A) (p e : ℕ) (s : List ℕ) → p < used → LeafIs p e (page s p) → Turn m a p s) where
    along_off : (x m : ℕ) (a : A) (l : Loc) (ls : List Loc) (s : List ℕ) → NoneTwice (numbers (l ∷ ls)) → All (Leaf used s) (l ∷ ls) → Linked 0 0 (l ∷ ls)
        → Out x (numbers (l ∷ ls)) → page (walk m a l.page s) x ≡ page s x
    along_off x zero a l ls s d h k o = ap (λ (t : List ℕ). page t x) (none a l.page s)
    along_off x (suc m) a l ls s d h k o = by_end t.ends ls d h.1 k o (along_off x m)
      where
        t : Turn m a l.page s
        t = turns m a l.page h.0.end s h.0.low h.0.is

        s₁ : List ℕ
        s₁ = set_page l.page t.made s

        off : (x ≡ l.page → ⊥) → page s₁ x ≡ page s x
        off = page-set_page-other l.page t.made s h.0.there t.long x

        by_end : (walk (suc m) a l.page s ≡ s₁)
            ⊎ ((b : A) × (next_leaf (page s l.page) ≡ 0 → ⊥) × (walk (suc m) a l.page s ≡ walk m b (next_leaf (page s l.page)) s₁))
            → (ls : List Loc) → NoneTwice (numbers (l ∷ ls)) → All (Leaf used s) ls → Linked 0 0 (l ∷ ls) → Out x (numbers (l ∷ ls))
            → ((b : A) (l' : Loc) (ls' : List Loc) (s' : List ℕ) → NoneTwice (numbers (l' ∷ ls')) → All (Leaf used s') (l' ∷ ls') → Linked 0 0 (l' ∷ ls')
            → Out x (numbers (l' ∷ ls')) → page (walk m b l'.page s') x ≡ page s' x)
            → page (walk (suc m) a l.page s) x ≡ page s x
        by_end (inl e) ls d g k o ih = ap (λ (t : List ℕ). page t x) e ∙ off o.0
        by_end (inr e) [] d g k o ih = absurd (e.1 (h.0.next ∙ k.0))
        by_end (inr e) (l' ∷ ls') d g k o ih =
            ap (λ (t : List ℕ). page t x) (e.2 ∙ ap (λ (q : ℕ). walk m e.0 q s₁) (h.0.next ∙ k.0))
            ∙ ih e.0 l' ls' s₁ d.1 (leaves_stay used l.page t.made s h.0.there t.long (l' ∷ ls') g d.0) k.1 o.1
            ∙ off o.0

    from_off : (x m p : ℕ) (a : A) (ls : List Loc) (s : List ℕ) → ((z : ℕ) → head_page ls z ≡ p) → NoneTwice (numbers ls) → All (Leaf used s) ls → Linked 0 0 ls
        → Out x (numbers ls) → page (walk m a p s) x ≡ page s x
    from_off x m p a [] s e d h k o = absurd (let z : ◌≡◌ {A = ℕ} 0 1 = e 0 ∙ sym (e 1) in omega arith)
    from_off x m p a (l ∷ ls) s e d h k o = ap (λ (q : ℕ). page (walk m a q s) x) (sym (e 0)) ∙ along_off x m a l ls s d h k o

    -- from where search for a key comes to
    search_off : (s : List ℕ) (root : ℕ) (t : Shape) → WellFormed (view s) root used t → AreBytes s → used * 4096 ≤ length s → (key m : ℕ) (a : A)
        → (x : ℕ) → Out x (pages_in t) → page (walk m a (leaf_of key t) s) x ≡ page s x
    search_off s root t w B room key m a x o =
        let ls = froms key t top in
        from_off x m (leaf_of key t) a ls s (froms_head key t top) (met_once key t top w.distinct)
        (all_map (AtLeaf s used) (Leaf used s) (leaf_of_lem used s B room) ls (at_leaves s root used t w ls (froms_plug key t top))) (froms_linked 0 key t top)
        (met_each (λ q. x ≡ q → ⊥) key t top o)

-- ---- remove

module _ (key : ℕ) where
  abbrev removal : (used : ℕ) → ℕ → Unit {0} → ℕ → List ℕ → List ℕ
  removal used m a p s = removed_along s used p key m

  remove_turns : (used m : ℕ) (a : Unit {0}) (p e : ℕ) (s : List ℕ) → p < used → LeafIs p e (page s p) → Turn used (removal used) m a p s
  remove_turns used m a p e s low is =
      record {
        made = cleared key p (page s p);
        long = (clears key p e (page s p) is).long;
        ends = by_end (larger key (rows (page s p))) refl (eqb (next_leaf (page s p)) 0) refl;
      }
    where
      after : List ℕ
      after = set_page p (cleared key p (page s p)) s

      by_end : (b : Bool) → larger key (rows (page s p)) ≡ b → (z : Bool) → eqb (next_leaf (page s p)) 0 ≡ z
          → (removed_along s used p key (suc m) ≡ after)
          ⊎ (Unit {0} × (next_leaf (page s p) ≡ 0 → ⊥) × (removed_along s used p key (suc m) ≡ removed_along after used (next_leaf (page s p)) key m))
      by_end true l z q = inl (clear_last key used m p e s low is l)
      by_end false l true q = inl (clear_end key used m p e s low is l (eqb-true (next_leaf (page s p)) 0 q))
      by_end false l false q = let ne = eqb-false (next_leaf (page s p)) 0 q in inr (tt, ne, clear_on key used m p e s low is (next_leaf (page s p)) l refl ne)

-- no page outside the tree changes, whatever the answer
pub remove_elsewhere : (s : List ℕ) (st : State) (t : Shape) → AreBytes s → WellFormed (view s) st.root st.used t → (key : ℕ)
    → (x : ℕ) → x < st.used → mem x (pages_in t) ≡ false → page (remove_call s st key).pool x ≡ page s x
remove_elsewhere s st t B w key x low out = by_pool (good_pool s st) refl
  where
    pool_of : {e : Ended (Outcome ℕ)} → e ≡ remove_call s st key → page e.pool x ≡ page s x → page (remove_call s st key).pool x ≡ page s x
    pool_of q h = ap (λ (e : Ended (Outcome ℕ)). page e.pool x) (sym q) ∙ h

    by_count : good_pool s st ≡ true → (c : Result ℕ Fault) → c ≡ count_along s st.used (leaf_of key t) key → page (remove_call s st key).pool x ≡ page s x
    by_count good (Ok n) q =
        pool_of (remove-call s st key refl (remove-done s st key refl good refl (descend_search s st.root st.used t w key) q refl refl) refl)
        (search_off st.used (removal key st.used) (λ a p y. sym (remove-none st.used key p y 0 (omega arith))) (remove_turns key st.used)
        s st.root t w B (pool-is s st good).room key st.used tt x (mem-out x (pages_in t) out))
    by_count good (Err f) q =
        pool_of (remove-call s st key refl (remove-ill s st key refl good refl (descend_search s st.root st.used t w key) q refl refl) refl) refl

    by_pool : (b : Bool) → b ≡ good_pool s st → page (remove_call s st key).pool x ≡ page s x
    by_pool true q = by_count (sym q) (count_along s st.used (leaf_of key t) key) refl
    by_pool false q = pool_of (remove-call s st key refl (remove-pool s st key q refl refl) refl) refl

-- ---- vacuum

module _ (st : ℕ → ℕ) (bound : ℕ) where
  abbrev sweeping : (used : ℕ) → ℕ → ℕ → ℕ → List ℕ → List ℕ
  sweeping used m d p s = (vacuumed_along s used p st bound m d).pool

  vacuum_turns : (used m d p e : ℕ) (s : List ℕ) → p < used → LeafIs p e (page s p) → Turn used (sweeping used) m d p s
  vacuum_turns used m d p e s low is =
      record { made = swept st bound p (page s p); long = (sweeps st bound p e (page s p) is).long; ends = by_end (eqb (next_leaf (page s p)) 0) refl }
    where
      after : List ℕ
      after = set_page p (swept st bound p (page s p)) s

      by_end : (z : Bool) → eqb (next_leaf (page s p)) 0 ≡ z
          → (sweeping used (suc m) d p s ≡ after)
          ⊎ ((b : ℕ) × (next_leaf (page s p) ≡ 0 → ⊥) × (sweeping used (suc m) d p s ≡ sweeping used m b (next_leaf (page s p)) after))
      by_end true q = inl (ap (λ (r : Ended ℕ). r.pool) (sweep-end st bound used m d p e s low is (eqb-true (next_leaf (page s p)) 0 q)))
      by_end false q =
          let ne = eqb-false (next_leaf (page s p)) 0 q in
          inr (step st bound d p (page s p), ne, ap (λ (r : Ended ℕ). r.pool) (sweep_on st bound used m d p e s low is (next_leaf (page s p)) refl ne))

-- no page outside the tree changes, whatever the status list and the answer
pub vacuum_elsewhere : (s : List ℕ) (st : State) (t : Shape) → AreBytes s → WellFormed (view s) st.root st.used t → (bound : ℕ) (ss : Statuses)
    → (x : ℕ) → x < st.used → mem x (pages_in t) ≡ false → page (vacuum_call s st ss bound).pool x ≡ page s x
vacuum_elsewhere s st t B w bound ss x low out = by_pool (good_pool s st) refl
  where
    pool_of : {e : Ended (Outcome ℕ)} → e ≡ vacuum_call s st ss bound → page e.pool x ≡ page s x → page (vacuum_call s st ss bound).pool x ≡ page s x
    pool_of q h = ap (λ (e : Ended (Outcome ℕ)). page e.pool x) (sym q) ∙ h

    swept : good_pool s st ≡ true → page (vacuumed_along s st.used (first t) (lookup ss) bound st.used 0).pool x ≡ page s x
    swept good =
        rw (← (first-is t))
        (search_off st.used (sweeping (lookup ss) bound st.used)
        (λ d p y. ap (λ (r : Ended ℕ). r.pool) (sym (vacuum-none (lookup ss) bound st.used d p y 0 (omega arith))))
        (vacuum_turns (lookup ss) bound st.used) s st.root t w B (pool-is s st good).room 0 st.used 0 x (mem-out x (pages_in t) out))

    by_chain : good_pool s st ≡ true → good_statuses ss ≡ true → (c : Result Unit Fault) → c ≡ judged_along s st.used (first t)
        → page (vacuum_call s st ss bound).pool x ≡ page s x
    by_chain good listed (Ok tt) q =
        pool_of (vacuum-call s st bound ss
        (vacuum-done s st bound ss refl good refl listed refl (descend-first s st.root st.used t w) q refl refl) refl) (swept good)
    by_chain good listed (Err f) q =
        pool_of (vacuum-call s st bound ss
        (vacuum-ill s st bound ss refl good refl listed refl (descend-first s st.root st.used t w) q refl refl) refl) refl

    by_list : good_pool s st ≡ true → (b : Bool) → b ≡ good_statuses ss → page (vacuum_call s st ss bound).pool x ≡ page s x
    by_list good true q = by_chain good (sym q) (judged_along s st.used (first t)) refl
    by_list good false q = pool_of (vacuum-call s st bound ss (vacuum-statuses s st bound ss refl good q refl refl) refl) refl

    by_pool : (b : Bool) → b ≡ good_pool s st → page (vacuum_call s st ss bound).pool x ≡ page s x
    by_pool true q = by_list (sym q) (good_statuses ss) refl
    by_pool false q = pool_of (vacuum-call s st bound ss (vacuum-pool s st bound ss q refl refl) refl) refl
