-- Pages, levels and the root of a tree that grew.
-- Assumes nothing.
use mathlib.Core.Path.{◌≡◌, refl, sym, ◌∙◌, subst}
use mathlib.Core.Bool.{Bool, true, false}
use Rattle.store.specs.Pick.{pick}
use Rattle.theory_tree.specs.Shape.{Shape, node, pair, pages_in, rest, Deep, All, NoneTwice, IsTree}
use mathlib.Core.List.{List, ◌∷◌, ◌++◌, append_assoc, append-nil}
use Prim.Native.Nat.{ℕ, suc, ◌+◌, ◌<◌}
use native.Mathlib.Omega.{arith}
use native.Mathlib.Nat.{add-zero}
use lib.ListN.{length}
use lib.Dec.{leb}
use Rattle.theory_tree.proofs.Contexts.{Ctx, top, in_l, in_r, under, plug, pre_g, post_g, DeepC, high, cut, Grown, up}
use Rattle.theory_tree.proofs.Lists.{out_fresh}
use Rattle.theory_tree.proofs.Zip.{plug_pages}
use Rattle.theory_tree.proofs.Cuts.{Half, half, plug_lvl}
use Rattle.theory_tree.proofs.Enter.{nd_seam, all_seam, below_more}

pub record Fresh (s : Shape) (u : ℕ) : Type 0 where
  pub distinct : NoneTwice (pages_in s)
  pub below : All (λ p. p < u) (pages_in s)

pub up_fresh : (c : Ctx) (s : Shape) (u : ℕ) → NoneTwice (pre_g c ++ (pages_in s ++ post_g c)) → All (λ p. p < u) (pre_g c ++ (pages_in s ++ post_g c))
    → Fresh (up c s u).shape (up c s u).used
up_fresh top s u d b =
    let b' : All (λ p. p < u) (pages_in s) = rw append-nil at b in
    record { distinct = (out_fresh u (pages_in s) b', rw append-nil at d); below = (omega arith, below_more u (pages_in s) b') }
up_fresh (in_l k y c) s u d b = up_fresh c (pair s k y) u (rw (append_assoc (pages_in s) (pages_in y) (post_g c)) d) (rw (append_assoc (pages_in s) (pages_in y) (post_g c)) b)
up_fresh (in_r x k c) s u d b =
    up_fresh c (pair x k s) u (rw (append_assoc (pages_in x) (pages_in s) (post_g c)) (rw append_assoc at d)) (rw (append_assoc (pages_in x) (pages_in s) (post_g c)) (rw append_assoc at b))
up_fresh (under p c) s u d b =
    go (leb (length (rest s)) 510) refl (up_fresh c (pair (node p (cut 255 s).left) (cut 255 s).mid (node u (cut 255 s).right)) (suc u))
  where
    more : Grown
    more = up c (pair (node p (cut 255 s).left) (cut 255 s).mid (node u (cut 255 s).right)) (suc u)

    go : (x : Bool) → leb (length (rest s)) 510 ≡ x
        → (NoneTwice (pre_g c ++ (((p ∷ pages_in (cut 255 s).left) ++ (u ∷ pages_in (cut 255 s).right)) ++ post_g c))
        → All (λ p. p < suc u) (pre_g c ++ (((p ∷ pages_in (cut 255 s).left) ++ (u ∷ pages_in (cut 255 s).right)) ++ post_g c)) → Fresh more.shape more.used)
        → Fresh (pick x (record { shape = plug c (node p s); used = u; grew = 0 }) more).shape
        (pick x (record { shape = plug c (node p s); used = u; grew = 0 }) more).used
    go true q i = record { distinct = rw (plug_pages c (node p s)) (rw append_assoc at d); below = rw (plug_pages c (node p s)) (rw append_assoc at b) }
    go false q i =
        let o : Half s (cut 255 s) = half s q in
        let x : Shape = (cut 255 s).left in
        let y : Shape = (cut 255 s).right in
        let d₁ : NoneTwice (pre_g c ++ (p ∷ (pages_in x ++ (pages_in y ++ post_g c)))) = simp (o.alike.pagess, append_assoc) at d in
        let b₁ : All (λ p. p < u) (pre_g c ++ (p ∷ (pages_in x ++ (pages_in y ++ post_g c)))) = simp (o.alike.pagess, append_assoc) at b in
        let l : List ℕ = pre_g c ++ (p ∷ (pages_in x ++ (pages_in y ++ post_g c))) in
        i (nd_seam (pre_g c) p (pages_in x) u (pages_in y) (post_g c) d₁ (out_fresh u l b₁))
        (all_seam (λ p. p < suc u) (pre_g c) p (pages_in x) u (pages_in y) (post_g c) (below_more u l b₁) (omega arith))

pub up_lvl : (n : ℕ) (c : Ctx) (s : Shape) (u : ℕ) → DeepC n c → Deep n s → Deep (n + high c + (up c s u).grew) (up c s u).shape
up_lvl n top s u g h = (n, (let e : n + 0 + 1 ≡ suc n = omega arith in e), h)
up_lvl n (in_l k y c) s u g h = up_lvl n c (pair s k y) u g.1 (h, g.0)
up_lvl n (in_r x k c) s u g h = up_lvl n c (pair x k s) u g.1 (g.0, h)
up_lvl n (under p c) s u g h =
    go (leb (length (rest s)) 510) refl (up_lvl (suc n) c (pair (node p (cut 255 s).left) (cut 255 s).mid (node u (cut 255 s).right)) (suc u) g)
  where
    more : Grown
    more = up c (pair (node p (cut 255 s).left) (cut 255 s).mid (node u (cut 255 s).right)) (suc u)

    shift : (m : ℕ) → suc n + high c + m ≡ n + suc (high c) + m
    shift m = omega arith

    go : (x : Bool) → leb (length (rest s)) 510 ≡ x
        → (Deep (suc n) (pair (node p (cut 255 s).left) (cut 255 s).mid (node u (cut 255 s).right)) → Deep (suc n + high c + more.grew) more.shape)
        → Deep (n + suc (high c) + (pick x (record { shape = plug c (node p s); used = u; grew = 0 }) more).grew)
        (pick x (record { shape = plug c (node p s); used = u; grew = 0 }) more).shape
    go true q i = subst (λ m. Deep m (plug c (node p s))) (sym (add-zero (suc n + high c)) ∙ shift 0) (plug_lvl (suc n) c (node p s) g (n, refl, h))
    go false q i =
        let hs : Deep n (cut 255 s).left × Deep n (cut 255 s).right = (half s q).alike.lvls n h in
        subst (λ m. Deep m more.shape) (shift more.grew) (i ((n, refl, hs.0), (n, refl, hs.1)))

-- one tree, as long as the hole's was
pub plug_tree : (c : Ctx) (s s' : Shape) → (IsTree s → IsTree s') → IsTree (plug c s) → IsTree (plug c s')
plug_tree top s s' f t = f t
plug_tree (in_l k y c) s s' f t = plug_tree c (pair s k y) (pair s' k y) (λ z. z) t
plug_tree (in_r x k c) s s' f t = plug_tree c (pair x k s) (pair x k s') (λ z. z) t
plug_tree (under p c) s s' f t = plug_tree c (node p s) (node p s') (λ z. tt) t

pub up-tree : (c : Ctx) (s s' : Shape) (u : ℕ) → IsTree (plug c s) → IsTree (up c s' u).shape
up-tree top s s' u t = tt
up-tree (in_l k y c) s s' u t = up-tree c (pair s k y) (pair s' k y) u t
up-tree (in_r x k c) s s' u t = up-tree c (pair x k s) (pair x k s') u t
up-tree (under p c) s s' u t =
    go (leb (length (rest s')) 510) (up-tree c (node p s) (pair (node p (cut 255 s').left) (cut 255 s').mid (node u (cut 255 s').right)) (suc u) t)
  where
    more : Grown
    more = up c (pair (node p (cut 255 s').left) (cut 255 s').mid (node u (cut 255 s').right)) (suc u)

    go : (x : Bool) → IsTree more.shape → IsTree (pick x (record { shape = plug c (node p s'); used = u; grew = 0 }) more).shape
    go true i = plug_tree c (node p s) (node p s') (λ z. tt) t
    go false i = i
