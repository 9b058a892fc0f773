-- Remove on a well-formed tree: it drops every version of its key and counts them, and the tree with the other rows is
-- well-formed. Assumes nothing.
use Rattle.std.proofs.Common.{Ok}
use mathlib.Core.Path.{◌≡◌, refl, sym, ap, ◌∙◌}
use mathlib.Core.Bool.{Bool, true, false, not}
use mathlib.Core.List.{List}
use Prim.Native.Nat.{ℕ, suc, ◌+◌, ◌-◌, ◌<◌}
use native.Mathlib.Omega.{arith}
use lib.Dec.{eqb}
use lib.ListN.{length, length-append}
use borrow.Author.Tests.{eqb-true}
use Rattle.store.specs.Pick.{pick}
use Rattle.store.specs.Le.{AreBytes}
use Rattle.page.specs.Page.{page}
use Rattle.page.specs.Header.{next_leaf}
use Rattle.page.specs.Pool.{good_pool}
use Rattle.page.specs.declared.pool.State.{State}
use Rattle.leaf.specs.Cells.{judge_leaf}
use Rattle.leaf.specs.Rows.{Row, rows, write_rows, only, of_key}
use Rattle.tree.specs.Chain.{stop, go}
use Rattle.call_answers.specs.Answer.{done, ended}
use Rattle.call_clean.specs.Remove.{held_rows, removed_leaf, look_held, count_along, removed_along, remove_call}
use Rattle.theory_tree.specs.View.{view}
use Rattle.theory_tree.specs.Shape.{Shape, chain, All, WellFormed}
use Rattle.page.proofs.PoolLaws.{pool-is}
use Rattle.leaf.proofs.Filtering.{filt_app, only-others, only-fits, only_short}
use Rattle.call_clean.proofs.Storing.{remove-last, remove-end, remove_on}
use Rattle.call_clean.proofs.Calls.{remove-done, remove-call}
use Rattle.theory_tree.proofs.Workers.{larger}
use Rattle.theory_tree.proofs.Contexts.{top, Loc}
use Rattle.theory_tree.proofs.Lists.{all_map}
use Rattle.theory_tree.proofs.Map.{map_s, filt_all, filt_keeps, filt_chain}
use Rattle.theory_tree.proofs.Order.{filt_none}
use Rattle.theory_tree.proofs.Seek.{leaf_of}
use Rattle.theory_tree.proofs.Walk.{locs, froms, locs_plug}
use Rattle.theory_walks.proofs.Descending.{descend_search}
use Rattle.theory_walks.proofs.Looking.{larger_is}
use Rattle.theory_walks.proofs.Walking.{at_leaves, up_to, around, gather_chain, walk-key}
use Rattle.theory_clean.proofs.Changing.{LeafIs, PoolHas, HasBytes, Changed, unchanged, rewritten, changed_at, changed, Mapped, mapped, change_search}

module _ (key : ℕ) where
  -- the rows of other keys
  abbrev others_of : List Row → List Row
  others_of rs = only (λ (x : Row). not (of_key key x)) rs

  -- ---- the count

  abbrev step : ℕ → ℕ → List ℕ → ℕ
  step n p pg = n + length (held_rows pg key)

  count_says : (n p : ℕ) (pg : List ℕ) (e : ℕ) → judge_leaf pg p ≡ Ok e → look_held key n p pg ≡ pick (larger key (rows pg)) (stop (step n p pg)) (go (step n p pg))
  count_says n p pg e j = rw (j, larger_is key pg)

  count_skips : (n p : ℕ) (pg : List ℕ) (e : ℕ) → judge_leaf pg p ≡ Ok e → All (λ (r : Row). of_key key r ≡ false) (rows pg) → step n p pg ≡ n
  count_skips n p pg e j o =
      let z : length (only (of_key key) (rows pg)) ≡ 0 = ap length (filt_none (of_key key) (rows pg) o) in
      omega arith

  module _ (s : List ℕ) (root used : ℕ) (t : Shape) (w : WellFormed (view s) root used t) where
    counted : count_along s used (leaf_of key t) key ≡ Ok (length (only (of_key key) (chain t)))
    unfolding count_along
    counted =
        rw (walk-key (look_held key) key step count_says count_skips s root used t w 0)
        (ap (λ (n : ℕ). Ok n)
        (gather_chain step s used (λ n rs. n + length (only (of_key key) rs)) (λ n p pg e j. refl) (λ n. omega arith)
        (λ n xs ys. omega (arith, ap length (filt_app (of_key key) xs ys), length-append (only (of_key key) xs) (only (of_key key) ys)))
        t (at_leaves s root used t w (locs t top) (locs_plug t top)) 0
        ∙ omega arith))

  -- ---- the stores

  -- a leaf without its rows of the key
  abbrev pub cleared : ℕ → List ℕ → List ℕ
  cleared p pg = removed_leaf pg key

  pub clears : (p e : ℕ) (pg : List ℕ) → LeafIs p e pg → Changed others_of pg (cleared p pg)
  unfolding removed_leaf
  clears p e pg is = by_count (eqb (length (held_rows pg key)) 0) refl
    where
      others : Row → Bool
      others x = not (of_key key x)

      by_count : (b : Bool) → eqb (length (held_rows pg key)) 0 ≡ b → Changed others_of pg (pick b pg (write_rows (others_of (rows pg)) pg))
      by_count true q = unchanged others_of p e pg is (only-others (of_key key) (rows pg) (eqb-true (length (held_rows pg key)) 0 q))
      by_count false q = rewritten others_of p e pg is (filt_all HasBytes others (rows pg)) (only-fits others (rows pg)) (only_short others (rows pg))

  module _ (used m p e : ℕ) (s : List ℕ) (low : p < used) (is : LeafIs p e (page s p)) where
    pub clear_last : larger key (rows (page s p)) ≡ true → removed_along s used p key (suc m) ≡ changed_at others_of cleared clears p s
    clear_last l = sym (remove-last used key p s low is.judged refl (larger_is key (page s p)) (suc m) (omega arith) l)

    pub clear_end : larger key (rows (page s p)) ≡ false → next_leaf (page s p) ≡ 0 → removed_along s used p key (suc m) ≡ changed_at others_of cleared clears p s
    clear_end l z = sym (remove-end used key p s low is.judged refl (larger_is key (page s p)) refl (suc m) (omega arith) l z)

    pub clear_on : (n : ℕ) → larger key (rows (page s p)) ≡ false → next_leaf (page s p) ≡ n → (n ≡ 0 → ⊥)
        → removed_along s used p key (suc m) ≡ removed_along (changed_at others_of cleared clears p s) used n key m
    clear_on n l q z =
        sym (remove_on used key p s low is.judged refl (larger_is key (page s p)) (sym q) (suc m) {k = m} refl l z)

  module _ (s : List ℕ) (root used : ℕ) (t : Shape) (w : WellFormed (view s) root used t) (h : PoolHas used s) where
    abbrev met : List Loc
    met = up_to (larger key) (froms key t top)

    removed : removed_along s used (leaf_of key t) key used ≡ changed others_of cleared clears met s
    removed =
        change_search others_of cleared clears {A = Unit {0}} {B = List ℕ} used (λ m a p x. removed_along x used p key m) (λ a x. x) (larger key) (λ a p pg. a)
        (λ m a p e x low is l. clear_last used m p e x low is l) (λ m a p e x low is l z. clear_end used m p e x low is l z)
        (λ m a p e n x low is l q z. clear_on used m p e x low is n l q z) s root t w h key tt

    others_stay : (ls : List Loc) → All (λ (l : Loc). All (λ (r : Row). of_key key r ≡ false) l.cells) ls → All (λ (l : Loc). others_of l.cells ≡ l.cells) ls
    others_stay =
        all_map (λ (l : Loc). All (λ (r : Row). of_key key r ≡ false) l.cells) (λ (l : Loc). others_of l.cells ≡ l.cells) (λ l o. only-others (of_key key) l.cells (ap length (filt_none (of_key key) l.cells o)))

    tree_of : Mapped others_of cleared clears s (changed others_of cleared clears met s) root used t
    tree_of =
        let r = around key 0 4294967295 t w.bounds in
        mapped others_of cleared clears s root used t w h (filt_keeps (λ (x : Row). not (of_key key x))) r.passed met r.left r.is
        (others_stay r.passed r.none_before) (others_stay r.left r.none_behind)

-- ---- the call

pub record Removes (s : List ℕ) (st : State) (key : ℕ) (t : Shape) : Type 0 where
  pub pool : List ℕ
  pub tree : Shape
  pub answer : remove_call s st key ≡ ended (done (length (only (of_key key) (chain t)))) pool
  pub bytes : AreBytes pool
  pub long : length pool ≡ length s
  pub holds : WellFormed (view pool) st.root st.used tree
  pub rows_are : chain tree ≡ only (λ (x : Row). not (of_key key x)) (chain t)

pub remove_does : (s : List ℕ) (st : State) (t : Shape) → AreBytes s → good_pool s st ≡ true → WellFormed (view s) st.root st.used t → (key : ℕ) → Removes s st key t
remove_does s st t B good w key =
    let h : PoolHas st.used s = record { bytes = B; room = (pool-is s st good).room } in
    let m = tree_of key s st.root st.used t w h in
    let run =
    remove-done s st key refl good refl (descend_search s st.root st.used t w key) refl (counted key s st.root st.used t w)
    (sym (removed key s st.root st.used t w h)) in
    record {
      pool = changed (others_of key) (cleared key) (clears key) (met key s st.root st.used t w h) s;
      tree = map_s (others_of key) t;
      answer = sym (remove-call s st key refl run refl);
      bytes = m.bytes;
      long = m.long;
      holds = m.holds;
      rows_are = filt_chain (λ (x : Row). not (of_key key x)) t;
    }
