-- Pages and parent links stored in one order or in another: the same pool.
-- Assumes nothing.
use mathlib.Core.Path.{◌≡◌, refl, sym, ap, ◌∙◌, fun_ext}
use mathlib.Core.Bool.{Bool, true, false}
use mathlib.Core.List.{List, [], ◌∷◌}
use Prim.Native.Nat.{ℕ}
use lib.Dec.{eqb}
use borrow.Author.Tests.{eqb-true}
use Rattle.store.specs.Pick.{pick}
use Rattle.theory_tree.specs.Pages.{Page, leaf_page, inner_page, no_page, Pages, with_page}
use Rattle.theory_tree.proofs.Workers.{set_par, reparent}
use Rattle.theory_tree.proofs.Lists.{Out}
use Rattle.theory_tree.proofs.Frame.{with_page-same, with_page-other}

pub set_twice : (w : Pages) (p : ℕ) (x y : Page) → with_page (with_page w p x) p y ≡ with_page w p y
unfolding with_page
set_twice w p x y = fun_ext (λ q. go q (eqb q p))
  where
    go : (q : ℕ) (b : Bool) → pick b y (pick b x (w q)) ≡ pick b y (w q)
    go q true = refl
    go q false = refl

pub set_swap : (w : Pages) (p q : ℕ) (x y : Page) → (p ≡ q → ⊥) → with_page (with_page w p x) q y ≡ with_page (with_page w q y) p x
unfolding with_page
set_swap w p q x y n = fun_ext (λ r. go r (eqb r p) refl (eqb r q) refl)
  where
    go : (r : ℕ) (a : Bool) → eqb r p ≡ a → (b : Bool) → eqb r q ≡ b → pick b y (pick a x (w r)) ≡ pick a x (pick b y (w r))
    go r true ea true eb = absurd (n (sym (eqb-true r p ea) ∙ eqb-true r q eb))
    go r true ea false eb = refl
    go r false ea b eb = refl

pub set_same : (w : Pages) (p : ℕ) → with_page w p (w p) ≡ w
unfolding with_page
set_same w p = fun_ext (λ q. go q (eqb q p) refl)
  where
    go : (q : ℕ) (b : Bool) → eqb q p ≡ b → pick b (w p) (w q) ≡ w q
    go q true e = ap w (sym (eqb-true q p e))
    go q false e = refl

pub par_twice : (q r : ℕ) (x : Page) → set_par q (set_par r x) ≡ set_par q x
par_twice q r (leaf_page par nxt cs) = refl
par_twice q r (inner_page par j h rs) = refl
par_twice q r no_page = refl

-- a page just stored gets its parent
pub link_new : (w : Pages) (n q : ℕ) (x : Page) → with_page (with_page w n x) n (set_par q (with_page w n x n)) ≡ with_page w n (set_par q x)
link_new w n q x = ap (λ y. with_page (with_page w n x) n (set_par q y)) (with_page-same w n x) ∙ set_twice w n x (set_par q x)

-- a page that is not among those linked may as well be stored after
pub link_apart : (q : ℕ) (ks : List ℕ) (w : Pages) (p : ℕ) (x : Page) → Out p ks → reparent q ks (with_page w p x) ≡ with_page (reparent q ks w) p x
link_apart q [] w p x o = refl
link_apart q (k ∷ ks) w p x o =
    ap (reparent q ks) (ap (λ y. with_page (with_page w p x) k (set_par q y)) (with_page-other w p k x o.0) ∙ set_swap w p k x (set_par q (w k)) o.0)
    ∙ link_apart q ks (with_page w k (set_par q (w k))) p x o.1

-- page p is stored, and its children l, linked to p before, and n are linked to it
pub link_room : (w : Pages) (p l n : ℕ) (x : Page) → (n ≡ p → ⊥) → (l ≡ p → ⊥) → w l ≡ set_par p (w l)
    → reparent p (l ∷ n ∷ []) (with_page w p x) ≡ with_page (with_page w n (set_par p (w n))) p x
link_room w p l n x np lp e =
    let v : Pages = with_page w p x in
    let atl : v l ≡ w l = with_page-other w p l x (λ z. lp (sym z)) in
    let kept : with_page v l (set_par p (v l)) ≡ v = ap (with_page v l) (ap (set_par p) atl ∙ sym e ∙ sym atl) ∙ set_same v l in
    ap (reparent p (n ∷ [])) kept ∙ ap (λ y. with_page v n (set_par p y)) (with_page-other w p n x (λ z. np (sym z)))
    ∙ set_swap w p n x (set_par p (w n)) (λ z. np (sym z))

-- the right half is stored before the left one and gets its parent last, or the other way round
pub link_half : (w : Pages) (p u q h : ℕ) (r : List (ℕ × ℕ)) (x : Page) (ks : List ℕ) → (p ≡ u → ⊥) → Out u ks
    → (v : Pages) → v ≡ reparent u ks (with_page (with_page w u (inner_page 0 0 h r)) p x)
    → with_page v u (set_par q (v u)) ≡ reparent u ks (with_page (with_page w p x) u (inner_page q 0 h r))
link_half w p u q h r x ks pu o v e =
    let y : Page = inner_page 0 0 h r in
    let w₁ : Pages = with_page w p x in
    let is : v ≡ with_page (reparent u ks w₁) u y =
    e ∙ ap (reparent u ks) (set_swap w u p y x (λ z. pu (sym z))) ∙ link_apart u ks w₁ u y o in
    ap (λ (t : Pages). with_page t u (set_par q (t u))) is ∙ link_new (reparent u ks w₁) u q y ∙ sym (link_apart u ks w₁ u (inner_page q 0 h r) o)

-- a new top u over l and n, whatever parent n had
pub link_top : (w : Pages) (u q l n : ℕ) (x : Page) → (n ≡ l → ⊥) → (n ≡ u → ⊥)
    → reparent u (l ∷ n ∷ []) (with_page w u x) ≡ reparent u (l ∷ n ∷ []) (with_page (with_page w n (set_par q (w n))) u x)
link_top w u q l n x nl nu =
    let v : Pages = with_page w u x in
    let y : Page = set_par q (w n) in
    let v₁ : Pages = reparent u (l ∷ []) v in
    let atn : v₁ n ≡ w n = with_page-other v l n (set_par u (v l)) (λ z. nl (sym z)) ∙ with_page-other w u n x (λ z. nu (sym z)) in
    let linked : reparent u (l ∷ []) (with_page (with_page w n y) u x) ≡ with_page v₁ n y =
    ap (reparent u (l ∷ [])) (set_swap w n u y x nu) ∙ link_apart u (l ∷ []) v n y (nl, tt) in
    ap (λ z. with_page v₁ n (set_par u z)) atn
    ∙ sym (ap (reparent u (n ∷ [])) linked ∙ link_new v₁ n u y ∙ ap (with_page v₁ n) (par_twice u q (w n)))
