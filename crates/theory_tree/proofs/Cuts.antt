-- Runs that differ in their brackets alone, and the cut of a run; division upward keeps the chain, bounds, levels and sizes.
-- Assumes nothing.
use mathlib.Core.Path.{◌≡◌, refl, sym, ap, ◌∙◌, subst}
use mathlib.Core.Bool.{Bool, true, false}
use Rattle.store.specs.Pick.{pick}
use Rattle.theory_tree.specs.Pages.{Pages}
use Rattle.theory_tree.specs.Shape.{Shape, leaf, node, pair, chain, pages_in, head, rest, first, Holds, Deep, Bounded, Sized, LaterNotZero}
use mathlib.Core.List.{◌∷◌, ◌++◌, append_assoc, append-nil}
use Prim.Native.Nat.{ℕ, suc, ◌+◌, ◌-◌, ◌≤◌, ◌<◌}
use native.Mathlib.Omega.{arith}
use native.Mathlib.Nat.{add-zero}
use lib.ListN.{length, length-append}
use lib.Dec.{eqb, leb, ltb}
use borrow.Author.Tests.{leb-true, leb-false, ltb-true, ltb-false, eqb-true, eqb-false}
use Rattle.theory_tree.proofs.Contexts.{Ctx, top, in_l, in_r, under, plug, pre_c, post_c, lo_c, hi_c, BoundedC, Cut, cut, cut_l, cut_r, Grown, up, DeepC, SizedC, high, LaterNotZeroC}
use Rattle.theory_tree.proofs.Zip.{plug_chain, plug_bnd}

pub record Alike (s t : Shape) : Type 0 where
  pub chains : chain s ≡ chain t
  pub pagess : pages_in s ≡ pages_in t
  pub heads : head s ≡ head t
  pub rests : rest s ≡ rest t
  pub firsts : first s ≡ first t
  pub reps : (w : Pages) (par nxt : ℕ) → Holds w par nxt s → Holds w par nxt t
  pub bnds : (lo hi : ℕ) → Bounded lo hi s → Bounded lo hi t
  pub lvls : (n : ℕ) → Deep n s → Deep n t
  pub smalls : Sized s → Sized t
  pub nzs : LaterNotZero s → LaterNotZero t

pub alike_same : (t : Shape) → Alike t t
alike_same t = record {
  chains = refl;
  pagess = refl;
  heads = refl;
  rests = refl;
  firsts = refl;
  reps = λ w par nxt h. h;
  bnds = λ lo hi h. h;
  lvls = λ n h. h;
  smalls = λ h. h;
  nzs = λ h. h;
}

pub alike_trans : (s t u : Shape) → Alike s t → Alike t u → Alike s u
alike_trans s t u a b = record {
  chains = a.chains ∙ b.chains;
  pagess = a.pagess ∙ b.pagess;
  heads = a.heads ∙ b.heads;
  rests = a.rests ∙ b.rests;
  firsts = a.firsts ∙ b.firsts;
  reps = λ w par nxt h. b.reps w par nxt (a.reps w par nxt h);
  bnds = λ lo hi h. b.bnds lo hi (a.bnds lo hi h);
  lvls = λ n h. b.lvls n (a.lvls n h);
  smalls = λ h. b.smalls (a.smalls h);
  nzs = λ h. b.nzs (a.nzs h);
}

pub alike_left : (a a' : Shape) (k : ℕ) (b : Shape) → Alike a a' → Alike (pair a k b) (pair a' k b)
alike_left a a' k b e = record {
  chains = rw e.chains;
  pagess = rw e.pagess;
  heads = e.heads;
  rests = rw e.rests;
  firsts = e.firsts;
  reps = λ w par nxt h. (e.reps w par (first b) h.0, h.1);
  bnds = λ lo hi h. (e.bnds lo k h.0, h.1);
  lvls = λ n h. (e.lvls n h.0, h.1);
  smalls = λ h. (e.smalls h.0, h.1);
  nzs = λ h. (e.nzs h.0, h.1, h.2);
}

pub alike_right : (a : Shape) (k : ℕ) (b b' : Shape) → Alike b b' → Alike (pair a k b) (pair a k b')
alike_right a k b b' e = record {
  chains = rw e.chains;
  pagess = rw e.pagess;
  heads = refl;
  rests = rw (e.rests, e.heads);
  firsts = refl;
  reps = λ w par nxt h. (rw e.firsts at h.0, e.reps w par nxt h.1);
  bnds = λ lo hi h. (h.0, e.bnds k hi h.1);
  lvls = λ n h. (h.0, e.lvls n h.1);
  smalls = λ h. (h.0, e.smalls h.1);
  nzs = λ h. (h.0, (λ z. h.1 (e.firsts ∙ z)), e.nzs h.2);
}

pub rotate : (a : Shape) (k : ℕ) (b : Shape) (m : ℕ) (c : Shape) → Alike (pair (pair a k b) m c) (pair a k (pair b m c))
rotate a k b m c = record {
  chains = append_assoc (chain a) (chain b) (chain c);
  pagess = append_assoc (pages_in a) (pages_in b) (pages_in c);
  heads = refl;
  rests = append_assoc (rest a) ((k, head b) ∷ rest b) ((m, head c) ∷ rest c);
  firsts = refl;
  reps = λ w par nxt h. (h.0.0, (h.0.1, h.1));
  bnds = λ lo hi h. (h.0.0, (h.0.1, h.1));
  lvls = λ n h. (h.0.0, (h.0.1, h.1));
  smalls = λ h. (h.0.0, (h.0.1, h.1));
  nzs = λ h. (h.0.0, h.0.1, (h.0.2, h.1, h.2));
}

pub rotate' : (a : Shape) (k : ℕ) (b : Shape) (m : ℕ) (c : Shape) → Alike (pair a k (pair b m c)) (pair (pair a k b) m c)
rotate' a k b m c = record {
  chains = sym (append_assoc (chain a) (chain b) (chain c));
  pagess = sym (append_assoc (pages_in a) (pages_in b) (pages_in c));
  heads = refl;
  rests = sym (append_assoc (rest a) ((k, head b) ∷ rest b) ((m, head c) ∷ rest c));
  firsts = refl;
  reps = λ w par nxt h. ((h.0, h.1.0), h.1.1);
  bnds = λ lo hi h. ((h.0, h.1.0), h.1.1);
  lvls = λ n h. ((h.0, h.1.0), h.1.1);
  smalls = λ h. ((h.0, h.1.0), h.1.1);
  nzs = λ h. ((h.0, h.1, h.2.0), h.2.1, h.2.2);
}

abbrev pub joined : Cut → Shape
joined s = pair s.left s.mid s.right

pub record CutOk (i : ℕ) (t : Shape) (s : Cut) : Type 0 where
  pub alike : Alike t (joined s)
  pub count : length (rest s.left) ≡ i

pub cut_ok : (i : ℕ) (t : Shape) → i < length (rest t) → CutOk i t (cut i t)
cut_ok i (leaf p cs) h = absurd (let z : i < 0 = h in omega arith)
cut_ok i (node p f) h = absurd (let z : i < 0 = h in omega arith)
cut_ok i (pair a k b) h =
    go (ltb i (length (rest a))) refl (eqb i (length (rest a))) refl (cut_ok i a) (cut_ok (i - suc (length (rest a))) b)
  where
    n : ℕ
    n = length (rest a)

    total : length (rest a ++ ((k, head b) ∷ rest b)) ≡ length (rest a) + suc (length (rest b))
    total = length-append (rest a) ((k, head b) ∷ rest b)

    go : (x : Bool) → ltb i (length (rest a)) ≡ x → (y : Bool) → eqb i (length (rest a)) ≡ y
        → (i < length (rest a) → CutOk i a (cut i a))
        → (i - suc (length (rest a)) < length (rest b) → CutOk (i - suc (length (rest a))) b (cut (i - suc (length (rest a))) b))
        → CutOk i (pair a k b) (pick x (cut_l k b (cut i a)) (pick y (record { left = a; mid = k; right = b }) (cut_r a k (cut (i - suc (length (rest a))) b))))
    go true ex y ey l r =
        let o : CutOk i a (cut i a) = l (ltb-true i (length (rest a)) ex) in
        record {
          alike = alike_trans (pair a k b) (pair (joined (cut i a)) k b) (joined (cut_l k b (cut i a)))
              (alike_left a (joined (cut i a)) k b o.alike) (rotate (cut i a).left (cut i a).mid (cut i a).right k b);
          count = o.count;
        }
    go false ex true ey l r = record { alike = alike_same (pair a k b); count = sym (eqb-true i (length (rest a)) ey) }
    go false ex false ey l r =
        let d : length (rest a) ≤ i = ltb-false i (length (rest a)) ex in
        let e : i ≡ length (rest a) → ⊥ = eqb-false i (length (rest a)) ey in
        let j : ℕ = i - suc (length (rest a)) in
        let o : CutOk j b (cut j b) = r (omega (arith, total)) in
        record {
          alike = alike_trans (pair a k b) (pair a k (joined (cut j b))) (joined (cut_r a k (cut j b)))
              (alike_right a k b (joined (cut j b)) o.alike) (rotate' a k (cut j b).left (cut j b).mid (cut j b).right);
          count = length-append (rest a) ((k, head (cut j b).left) ∷ rest (cut j b).left) ∙ omega (arith, o.count);
        }

-- a run with more than 510 separators, cut in the middle
abbrev pub Half : Shape → Cut → Type 0
Half s x = CutOk 255 s x

pub half : (s : Shape) → leb (length (rest s)) 510 ≡ false → Half s (cut 255 s)
half s e = cut_ok 255 s (let h : 510 < length (rest s) = leb-false (length (rest s)) 510 e in omega arith)

pub up-chain : (c : Ctx) (s : Shape) (u : ℕ) → chain (up c s u).shape ≡ pre_c c ++ (chain s ++ post_c c)
up-chain top s u = sym (append-nil (chain s))
up-chain (in_l k b c) s u = up-chain c (pair s k b) u ∙ simp append_assoc
up-chain (in_r a k c) s u = up-chain c (pair a k s) u ∙ simp append_assoc
up-chain (under p c) s u =
    go (leb (length (rest s)) 510) refl (up-chain c (pair (node p (cut 255 s).left) (cut 255 s).mid (node u (cut 255 s).right)) (suc u))
  where
    more : Grown
    more = up c (pair (node p (cut 255 s).left) (cut 255 s).mid (node u (cut 255 s).right)) (suc u)

    go : (x : Bool) → leb (length (rest s)) 510 ≡ x
        → chain more.shape ≡ pre_c c ++ ((chain (cut 255 s).left ++ chain (cut 255 s).right) ++ post_c c)
        → chain (pick x (record { shape = plug c (node p s); used = u; grew = 0 }) more).shape ≡ pre_c c ++ (chain s ++ post_c c)
    go true e i = plug_chain c (node p s)
    go false e i = i ∙ ap (λ l. pre_c c ++ (l ++ post_c c)) (sym (half s e).alike.chains)

pub up_bnd : (lo hi : ℕ) (c : Ctx) (s : Shape) (u : ℕ) → BoundedC lo hi c → Bounded (lo_c lo c) (hi_c hi c) s → Bounded lo hi (up c s u).shape
up_bnd lo hi top s u g h = h
up_bnd lo hi (in_l k b c) s u g h = up_bnd lo hi c (pair s k b) u g.1 (h, g.0)
up_bnd lo hi (in_r a k c) s u g h = up_bnd lo hi c (pair a k s) u g.1 (g.0, h)
up_bnd lo hi (under p c) s u g h =
    go (leb (length (rest s)) 510) refl (up_bnd lo hi c (pair (node p (cut 255 s).left) (cut 255 s).mid (node u (cut 255 s).right)) (suc u) g)
  where
    more : Grown
    more = up c (pair (node p (cut 255 s).left) (cut 255 s).mid (node u (cut 255 s).right)) (suc u)

    go : (x : Bool) → leb (length (rest s)) 510 ≡ x → (Bounded (lo_c lo c) (hi_c hi c) (joined (cut 255 s)) → Bounded lo hi more.shape)
        → Bounded lo hi (pick x (record { shape = plug c (node p s); used = u; grew = 0 }) more).shape
    go true e i = plug_bnd lo hi c (node p s) g h
    go false e i = i ((half s e).alike.bnds (lo_c lo c) (hi_c hi c) h)

pub plug_lvl : (n : ℕ) (c : Ctx) (t : Shape) → DeepC n c → Deep n t → Deep (n + high c) (plug c t)
plug_lvl n top t g h = rw add-zero h
plug_lvl n (in_l k b c) t g h = plug_lvl n c (pair t k b) g.1 (h, g.0)
plug_lvl n (in_r a k c) t g h = plug_lvl n c (pair a k t) g.1 (g.0, h)
plug_lvl n (under p c) t g h =
    subst (λ m. Deep m (plug c (node p t))) (let e : suc n + high c ≡ n + suc (high c) = omega arith in e) (plug_lvl (suc n) c (node p t) g (n, refl, h))

pub plug_small : (c : Ctx) (t : Shape) → SizedC (length (rest t)) c → Sized t → Sized (plug c t)
plug_small top t g h = h
plug_small (in_l k b c) t g h = plug_small c (pair t k b) (rw (length-append (rest t) ((k, head b) ∷ rest b)) g.1) (h, g.0)
plug_small (in_r a k c) t g h = plug_small c (pair a k t) (rw (length-append (rest a) ((k, head t) ∷ rest t)) g.1) (g.0, h)
plug_small (under p c) t g h = plug_small c (node p t) g.2 (g.0, g.1, h)

-- the hole's run has one separator more than the pages above it count
pub up_small : (n : ℕ) (c : Ctx) (s : Shape) (u : ℕ) → length (rest s) ≡ suc n → SizedC n c → Sized s → Sized (up c s u).shape
up_small n top s u e g h = let z : n ≡ 0 = g in (omega arith, omega arith, h)
up_small n (in_l k b c) s u e g h = up_small (n + suc (length (rest b))) c (pair s k b) u (length-append (rest s) ((k, head b) ∷ rest b) ∙ omega arith) g.1 (h, g.0)
up_small n (in_r a k c) s u e g h = up_small (length (rest a) + suc n) c (pair a k s) u (length-append (rest a) ((k, head s) ∷ rest s) ∙ omega arith) g.1 (g.0, h)
up_small n (under p c) s u e g h =
    go (leb (length (rest s)) 510) refl (up_small 0 c (pair (node p (cut 255 s).left) (cut 255 s).mid (node u (cut 255 s).right)) (suc u) refl g.2)
  where
    more : Grown
    more = up c (pair (node p (cut 255 s).left) (cut 255 s).mid (node u (cut 255 s).right)) (suc u)

    go : (x : Bool) → leb (length (rest s)) 510 ≡ x
        → (Sized (pair (node p (cut 255 s).left) (cut 255 s).mid (node u (cut 255 s).right)) → Sized more.shape)
        → Sized (pick x (record { shape = plug c (node p s); used = u; grew = 0 }) more).shape
    go true q i = plug_small c (node p s) g.2 (omega arith, leb-true (length (rest s)) 510 q, h)
    go false q i =
        let o : Half s (cut 255 s) = half s q in
        let l : length (rest (cut 255 s).left) ≡ 255 = o.count in
        let t : length (rest s) ≡ length (rest (cut 255 s).left) + suc (length (rest (cut 255 s).right)) =
        ap length o.alike.rests ∙ length-append (rest (cut 255 s).left) (((cut 255 s).mid, head (cut 255 s).right) ∷ rest (cut 255 s).right) in
        let b : n ≤ 510 = g.1 in
        let a : 510 < length (rest s) = leb-false (length (rest s)) 510 q in
        let sm : Sized (cut 255 s).left × Sized (cut 255 s).right = o.alike.smalls h in
        i ((omega arith, omega arith, sm.0), (omega arith, omega arith, sm.1))

pub plug_nz : (c : Ctx) (t : Shape) → LaterNotZeroC (first t) c → LaterNotZero t → LaterNotZero (plug c t)
plug_nz top t g h = h
plug_nz (in_l k b c) t g h = plug_nz c (pair t k b) g.2 (h, g.0, g.1)
plug_nz (in_r a k c) t g h = plug_nz c (pair a k t) g.2 (g.1, g.0, h)
plug_nz (under p c) t g h = plug_nz c (node p t) g h

pub unplug_nz : (c : Ctx) (t : Shape) → LaterNotZero (plug c t) → LaterNotZeroC (first t) c × LaterNotZero t
unplug_nz top t h = (tt, h)
unplug_nz (in_l k b c) t h = let r = unplug_nz c (pair t k b) h in ((r.1.1, r.1.2, r.0), r.1.0)
unplug_nz (in_r a k c) t h = let r = unplug_nz c (pair a k t) h in ((r.1.1, r.1.0, r.0), r.1.2)
unplug_nz (under p c) t h = unplug_nz c (node p t) h

pub up_nz : (c : Ctx) (s : Shape) (u : ℕ) → LaterNotZeroC (first s) c → LaterNotZero s → LaterNotZero (up c s u).shape
up_nz top s u g h = h
up_nz (in_l k b c) s u g h = up_nz c (pair s k b) u g.2 (h, g.0, g.1)
up_nz (in_r a k c) s u g h = up_nz c (pair a k s) u g.2 (g.1, g.0, h)
up_nz (under p c) s u g h =
    go (leb (length (rest s)) 510) refl (up_nz c (pair (node p (cut 255 s).left) (cut 255 s).mid (node u (cut 255 s).right)) (suc u))
  where
    more : Grown
    more = up c (pair (node p (cut 255 s).left) (cut 255 s).mid (node u (cut 255 s).right)) (suc u)

    go : (x : Bool) → leb (length (rest s)) 510 ≡ x → (LaterNotZeroC (first (cut 255 s).left) c → LaterNotZero (joined (cut 255 s)) → LaterNotZero more.shape)
        → LaterNotZero (pick x (record { shape = plug c (node p s); used = u; grew = 0 }) more).shape
    go true e i = plug_nz c (node p s) g h
    go false e i = i (rw (half s e).alike.firsts at g) ((half s e).alike.nzs h)
