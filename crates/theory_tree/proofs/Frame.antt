-- What a store to the pool leaves of a run.
-- Assumes nothing.
use mathlib.Core.Path.{◌≡◌, refl, sym, ap, ◌∙◌, subst}
use mathlib.Core.List.{List, [], ◌∷◌, ◌++◌}
use Prim.Native.Nat.{ℕ}
use borrow.Author.Tests.{eq-eqb, ne_eqb}
use Rattle.theory_tree.specs.Pages.{Page, Pages, with_page}
use Rattle.theory_tree.specs.Shape.{Shape, leaf, node, pair, pages_in, first, Holds, All, NoneTwice}
use Rattle.theory_tree.proofs.Workers.{set_par, roots, reparent}
use Rattle.theory_tree.proofs.Lists.{all_app, all_left, all_right, all_map, Out, nd_left, nd_right, nd_apart}

pub with_page-same : (w : Pages) (p : ℕ) (x : Page) → with_page w p x p ≡ x
unfolding with_page
with_page-same w p x = rw (eq-eqb p p refl)

pub with_page-other : (w : Pages) (p q : ℕ) (x : Page) → (p ≡ q → ⊥) → with_page w p x q ≡ w q
unfolding with_page
with_page-other w p q x h = rw (ne_eqb q p (λ e. h (sym e)))

abbrev pub Agree : Pages → Pages → List ℕ → Type 0
Agree w v l = All (λ p. v p ≡ w p) l

pub agree_with_page : (w : Pages) (p : ℕ) (x : Page) (l : List ℕ) → Out p l → Agree w (with_page w p x) l
agree_with_page w p x = all_map (λ y. p ≡ y → ⊥) (λ q. with_page w p x q ≡ w q) (λ q. with_page-other w p q x)

-- a run stays held when other pages change
pub frame : (w v : Pages) (par nxt : ℕ) (t : Shape) → Agree w v (pages_in t) → Holds w par nxt t → Holds v par nxt t
frame w v par nxt (leaf p cs) g h = g.0 ∙ h
frame w v par nxt (node p f) g h = (h.0, g.0 ∙ h.1, frame w v p nxt f g.1 h.2)
frame w v par nxt (pair a k b) g h = (
  frame w v par (first b) a (all_left (λ p. v p ≡ w p) (pages_in a) (pages_in b) g) h.0,
  frame w v par nxt b (all_right (λ p. v p ≡ w p) (pages_in a) (pages_in b) g) h.1,
)

pub frame_with_page : (w : Pages) (q : ℕ) (x : Page) (par nxt : ℕ) (t : Shape) → Out q (pages_in t) → Holds w par nxt t → Holds (with_page w q x) par nxt t
frame_with_page w q x par nxt t o h = frame w (with_page w q x) par nxt t (agree_with_page w q x (pages_in t) o) h

pub agree_trans : (u v w : Pages) (l : List ℕ) → Agree u v l → Agree v w l → Agree u w l
agree_trans u v w [] g h = tt
agree_trans u v w (x ∷ xs) g h = (h.0 ∙ g.0, agree_trans u v w xs g.1 h.1)

pub agree_same : (w : Pages) (l : List ℕ) → Agree w w l
agree_same w [] = tt
agree_same w (x ∷ xs) = (refl, agree_same w xs)

pub agree_reparent : (q : ℕ) (ps l : List ℕ) (w : Pages) → All (λ p. Out p l) ps → Agree w (reparent q ps w) l
agree_reparent q [] l w o = agree_same w l
agree_reparent q (p ∷ ps) l w o =
    let v : Pages = with_page w p (set_par q (w p)) in
    agree_trans w v (reparent q ps v) l (agree_with_page w p (set_par q (w p)) l o.0) (agree_reparent q ps l v o.1)

pub roots_all : (P : ℕ → Type 0) (t : Shape) → All P (pages_in t) → All P (roots t)
roots_all P (leaf p cs) h = h
roots_all P (node p f) h = (h.0, tt)
roots_all P (pair a k b) h =
    all_app P (roots a) (roots b) (roots_all P a (all_left P (pages_in a) (pages_in b) h)) (roots_all P b (all_right P (pages_in a) (pages_in b) h))

pub reparent_app : (q : ℕ) (a b : List ℕ) (w : Pages) → reparent q (a ++ b) w ≡ reparent q b (reparent q a w)
reparent_app q [] b w = refl
reparent_app q (x ∷ xs) b w = reparent_app q xs b (with_page w x (set_par q (w x)))

-- x is apart from all of l, each way round
pub out-flip : (xs ys : List ℕ) → All (λ x. Out x ys) xs → All (λ y. Out y xs) ys
out-flip xs [] h = tt
out-flip xs (y ∷ ys) h = (
  all_map (λ x. Out x (y ∷ ys)) (λ x. y ≡ x → ⊥) (λ x o e. o.0 (sym e)) xs h,
  out-flip xs ys (all_map (λ x. Out x (y ∷ ys)) (λ x. Out x ys) (λ x o. o.1) xs h),
)

-- a new parent for a whole run
pub adopt : (q : ℕ) (w : Pages) (par nxt : ℕ) (t : Shape) → NoneTwice (pages_in t) → Holds w par nxt t → Holds (reparent q (roots t) w) q nxt t
adopt q w par nxt (leaf p cs) d h = with_page-same w p (set_par q (w p)) ∙ ap (set_par q) h
adopt q w par nxt (node p f) d h =
    (h.0, with_page-same w p (set_par q (w p)) ∙ ap (set_par q) h.1, frame_with_page w p (set_par q (w p)) p nxt f d.0 h.2)
adopt q w par nxt (pair a k b) d h =
    let apart : All (λ x. Out x (pages_in b)) (pages_in a) = nd_apart (pages_in a) (pages_in b) d in
    let w₁ : Pages = reparent q (roots a) w in
    let to_b : Agree w w₁ (pages_in b) = agree_reparent q (roots a) (pages_in b) w (roots_all (λ x. Out x (pages_in b)) a apart) in
    let to_a : Agree w₁ (reparent q (roots b) w₁) (pages_in a) =
    agree_reparent q (roots b) (pages_in a) w₁ (roots_all (λ x. Out x (pages_in a)) b (out-flip (pages_in a) (pages_in b) apart)) in
    subst (λ v. Holds v q nxt (pair a k b)) (sym (reparent_app q (roots a) (roots b) w)) (
      frame w₁ (reparent q (roots b) w₁) q (first b) a to_a (adopt q w par (first b) a (nd_left (pages_in a) (pages_in b) d) h.0),
      adopt q w₁ par nxt b (nd_right (pages_in a) (pages_in b) d) (frame w w₁ par nxt b to_b h.1),
    )
