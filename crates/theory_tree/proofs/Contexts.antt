-- A tree with a hole, the steps from the hole upward: what surrounds the run in it, and how a longer run divides the pages above.
-- Assumes nothing.
use mathlib.Core.Path.{◌≡◌}
use Prim.Native.Nat.{ℕ, suc, ◌+◌, ◌-◌, ◌≤◌}
use Rattle.store.specs.Pick.{pick}
use Rattle.leaf.specs.Rows.{Row}
use Rattle.theory_tree.specs.Pages.{inner_page, Pages}
use Rattle.theory_tree.specs.Shape.{Shape, leaf, node, pair, chain, pages_in, head, rest, first, Holds, Deep, Bounded, Sized, LaterNotZero}
use mathlib.Core.List.{List, [], ◌∷◌, ◌++◌}
use lib.ListN.{length}
use lib.Dec.{leb, ltb, eqb}
use Rattle.theory_tree.proofs.Workers.{after}

pub data Ctx : Type 0 where
  top : Ctx
  in_l : ℕ → Shape → Ctx → Ctx
  in_r : Shape → ℕ → Ctx → Ctx
  under : ℕ → Ctx → Ctx

abbrev pub plug : Ctx → Shape → Shape
plug top t = t
plug (in_l k b c) t = plug c (pair t k b)
plug (in_r a k c) t = plug c (pair a k t)
plug (under p c) t = plug c (node p t)

abbrev pub pre_c : Ctx → List Row
pre_c top = []
pre_c (in_l k b c) = pre_c c
pre_c (in_r a k c) = pre_c c ++ chain a
pre_c (under p c) = pre_c c

abbrev pub post_c : Ctx → List Row
post_c top = []
post_c (in_l k b c) = chain b ++ post_c c
post_c (in_r a k c) = post_c c
post_c (under p c) = post_c c

abbrev pub pre_g : Ctx → List ℕ
pre_g top = []
pre_g (in_l k b c) = pre_g c
pre_g (in_r a k c) = pre_g c ++ pages_in a
pre_g (under p c) = pre_g c ++ (p ∷ [])

abbrev pub post_g : Ctx → List ℕ
post_g top = []
post_g (in_l k b c) = pages_in b ++ post_g c
post_g (in_r a k c) = post_g c
post_g (under p c) = post_g c

-- the largest key
abbrev pub top_key : ℕ
top_key = 4294967295

-- the hole's bounds
abbrev pub lo_c : ℕ → Ctx → ℕ
lo_c lo top = lo
lo_c lo (in_l k b c) = lo_c lo c
lo_c lo (in_r a k c) = k
lo_c lo (under p c) = lo_c lo c

abbrev pub hi_c : ℕ → Ctx → ℕ
hi_c hi top = hi
hi_c hi (in_l k b c) = k
hi_c hi (in_r a k c) = hi_c hi c
hi_c hi (under p c) = hi_c hi c

abbrev pub BoundedC : ℕ → ℕ → Ctx → Type 0
BoundedC lo hi top = Unit {0}
BoundedC lo hi (in_l k b c) = Bounded k (hi_c hi c) b × BoundedC lo hi c
BoundedC lo hi (in_r a k c) = Bounded (lo_c lo c) k a × BoundedC lo hi c
BoundedC lo hi (under p c) = BoundedC lo hi c

-- the hole's parent and the leaf that follows it
abbrev pub par_c : ℕ → Ctx → ℕ
par_c P top = P
par_c P (in_l k b c) = par_c P c
par_c P (in_r a k c) = par_c P c
par_c P (under p c) = p

abbrev pub nxt_c : ℕ → Ctx → ℕ
nxt_c N top = N
nxt_c N (in_l k b c) = first b
nxt_c N (in_r a k c) = nxt_c N c
nxt_c N (under p c) = nxt_c N c

-- the pool holds the context of a run with the head h, the rest r and the first leaf l
abbrev pub HoldsC : Pages → ℕ → ℕ → Ctx → ℕ → List (ℕ × ℕ) → ℕ → Type 0
HoldsC w P N top h r l = Unit {0}
HoldsC w P N (in_l k b c) h r l = Holds w (par_c P c) (nxt_c N c) b × HoldsC w P N c h (r ++ ((k, head b) ∷ rest b)) l
HoldsC w P N (in_r a k c) h r l = Holds w (par_c P c) l a × HoldsC w P N c (head a) (rest a ++ ((k, h) ∷ r)) (first a)
HoldsC w P N (under p c) h r l = (j : ℕ) × (w p ≡ inner_page (par_c P c) j h r) × HoldsC w P N c p [] l

-- the way of an insertion: left only on key < separator
pub record Loc : Type 0 where
  pub ctx : Ctx
  pub page : ℕ
  pub cells : List Row

abbrev pub loc : ℕ → Shape → Ctx → Loc
loc k (leaf p cs) c = record { ctx = c; page = p; cells = cs }
loc k (node p f) c = loc k f (under p c)
loc k (pair a s b) c = pick (ltb k s) (loc k a (in_l s b c)) (loc k b (in_r a s c))

-- x among rows in order, behind its equals of key and creator
abbrev pub place : Row → List Row → List Row
place x [] = x ∷ []
place x (y ∷ ys) = pick (after x y) (x ∷ y ∷ ys) (y ∷ place x ys)

-- a run cut at its separator number i
pub record Cut : Type 0 where
  pub left : Shape
  pub mid : ℕ
  pub right : Shape

abbrev pub cut_l : ℕ → Shape → Cut → Cut
cut_l k b s = record { left = s.left; mid = s.mid; right = pair s.right k b }

abbrev pub cut_r : Shape → ℕ → Cut → Cut
cut_r a k s = record { left = pair a k s.left; mid = s.mid; right = s.right }

abbrev pub cut : ℕ → Shape → Cut
cut i (leaf p cs) = record { left = leaf p cs; mid = 0; right = leaf p cs }
cut i (node p f) = record { left = node p f; mid = 0; right = node p f }
cut i (pair a k b) =
    pick (ltb i (length (rest a))) (cut_l k b (cut i a))
    (pick (eqb i (length (rest a))) (record { left = a; mid = k; right = b }) (cut_r a k (cut (i - suc (length (rest a))) b)))

pub record Grown : Type 0 where
  pub shape : Shape
  pub used : ℕ
  pub grew : ℕ

-- the run s, one separator longer than before, goes into the hole; overfull pages divide upward, the new pages are those from u
-- on, and a tree that divides at its root gets a new top
abbrev pub up : Ctx → Shape → ℕ → Grown
up top s u = record { shape = node u s; used = suc u; grew = 1 }
up (in_l k b c) s u = up c (pair s k b) u
up (in_r a k c) s u = up c (pair a k s) u
up (under p c) s u =
    pick (leb (length (rest s)) 510) (record { shape = plug c (node p s); used = u; grew = 0 })
    (up c (pair (node p (cut 255 s).left) (cut 255 s).mid (node u (cut 255 s).right)) (suc u))

-- the hole's level and sizes
abbrev pub DeepC : ℕ → Ctx → Type 0
DeepC n top = Unit {0}
DeepC n (in_l k b c) = Deep n b × DeepC n c
DeepC n (in_r a k c) = Deep n a × DeepC n c
DeepC n (under p c) = DeepC (suc n) c

-- the levels above the hole
abbrev pub high : Ctx → ℕ
high top = 0
high (in_l k b c) = high c
high (in_r a k c) = high c
high (under p c) = suc (high c)

-- sizes, where the hole's run has n separators
abbrev pub SizedC : ℕ → Ctx → Type 0
SizedC n top = n ≡ 0
SizedC n (in_l k b c) = Sized b × SizedC (n + suc (length (rest b))) c
SizedC n (in_r a k c) = Sized a × SizedC (length (rest a) + suc n) c
SizedC n (under p c) = (1 ≤ n) × (n ≤ 510) × SizedC 0 c

-- page 0, where the hole's first leaf is l
abbrev pub LaterNotZeroC : ℕ → Ctx → Type 0
LaterNotZeroC l top = Unit {0}
LaterNotZeroC l (in_l k b c) = (first b ≡ 0 → ⊥) × LaterNotZero b × LaterNotZeroC l c
LaterNotZeroC l (in_r a k c) = (l ≡ 0 → ⊥) × LaterNotZero a × LaterNotZeroC (first a) c
LaterNotZeroC l (under p c) = LaterNotZeroC l c
