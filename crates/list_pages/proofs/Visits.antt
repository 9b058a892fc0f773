-- The walk, step by step: the ways a visit goes, the children that are left to visit, and how many pages it lists at most.
-- Assumes nothing.
use Rattle.std.proofs.Common.{Option, Some, None, Result, Ok, Err}
use mathlib.Core.Path.{◌≡◌, refl, sym, ◌∙◌}
use mathlib.Core.List.{List, [], ◌∷◌, ◌++◌}
use Prim.Native.Nat.{ℕ, zero, suc, ◌+◌, ◌-◌, ◌*◌, ◌≤◌, ◌<◌, zero-le}
use native.Mathlib.Nat.{zero-mul, suc-mul, mul-le-mul_right}
use native.Mathlib.Omega.{arith}
use Rattle.page.specs.Page.{page}
use Rattle.row.specs.declared.Fault.{Fault}
use Rattle.inner.specs.Inner.{child_at}
use Rattle.list_pages.specs.Numbers.{top_at, on_top, on_told, visit_kids, visiting}
use Rattle.list_pages.specs.Steps.Table.{bit_at, noted, Log, log_of, visit_of, LogEnds, cap_of}
use Rattle.list_pages.proofs.Tops.{PageIs, page-is}

-- ---- how a walk ends

module _ (seen out : List ℕ) (x : Result Log Fault) where
  pub ended_bad : {f : Fault} → Err f ≡ x → LogEnds (Err f) seen out x
  ended_bad e = rw (← e) refl

  pub ended-ok : {n : ℕ} → Ok (log_of n seen out) ≡ x → LogEnds (Ok n) seen out x
  ended-ok e = rw (← e) refl

pub told_bad : (seen out : List ℕ) (r : Result ℕ Fault) (x : Result Log Fault) {f : Fault} → LogEnds r seen out x → r ≡ Err f → x ≡ Err f
told_bad seen out (Ok n) x h e = absurd (cc)
told_bad seen out (Err g) (Ok l) h e = absurd h
told_bad seen out (Err g) (Err f) h e = cc

pub told-ok : (seen out : List ℕ) (r : Result ℕ Fault) (x : Result Log Fault) {n : ℕ} → LogEnds r seen out x → r ≡ Ok n → x ≡ Ok (log_of n seen out)
told-ok seen out (Err g) x h e = absurd (cc)
told-ok seen out (Ok n) (Err f) h e = absurd h
told-ok seen out (Ok n) (Ok l) h e = cc

-- ---- one visit

-- the first j children of a page, the last of them first, each visited
unfoldable pub kids_of : (k used : ℕ) → List ℕ → (up : List ℕ) → (j : ℕ) → List ℕ → Log → Result Log Fault
kids_of k used s up j pg l = visit_kids pg (visiting s used (λ m q. bit_at m.seen q) noted k up) j l

module _ (used : ℕ) (s up : List ℕ) (l : Log) (p : ℕ) where
  pub visit_bad : (k : ℕ) {t : Result (Option ℕ) Fault} {f : Fault} → t ≡ top_at s used k up (bit_at l.seen p) p → t ≡ Err f → Err f ≡ visit_of s used k up l p
  unfolding visit_of visiting
  visit_bad zero e q = rw (sym e ∙ q)
  visit_bad (suc k) e q = rw (sym e ∙ q)

  pub visit_skip : (k : ℕ) {t : Result (Option ℕ) Fault} → t ≡ top_at s used k up (bit_at l.seen p) p → t ≡ (Ok None) → Ok l ≡ visit_of s used k up l p
  unfolding visit_of visiting
  visit_skip zero e q = rw (sym e ∙ q)
  visit_skip (suc k) e q = rw (sym e ∙ q)

  pub visit-page : (k : ℕ) {t : Result (Option ℕ) Fault} {m : ℕ} {v : List ℕ} {l₁ : Log} → t ≡ top_at s used k up (bit_at l.seen p) p → t ≡ Ok (Some m) → v ≡ up ++ (p ∷ []) → l₁ ≡ noted p l
      → kids_of (k - 1) used s v m (page s p) l₁ ≡ visit_of s used k up l p
  unfolding visit_of visiting kids_of visit_kids
  visit-page zero {t} {m} e q w n =
      let i = page-is zero used s up (bit_at l.seen p) p e q in
      let z : m ≡ 0 = omega arith in
      rw (sym e ∙ q, z, n)
  visit-page (suc k) e q w n =
      let z : suc k - 1 ≡ k = omega arith in
      rw (sym e ∙ q, z, w, n)

-- ---- the children left

module _ (k used : ℕ) (s up pg : List ℕ) (l : Log) where
  pub kids_end : (j : ℕ) → j ≤ 0 → Ok l ≡ kids_of k used s up j pg l
  unfolding kids_of visit_kids
  kids_end zero h = refl
  kids_end (suc j) h = absurd (omega arith)

  module _ {g : List ℕ} {q : ℕ} (here : g ≡ pg) where
    pub kids_bad : (j : ℕ) {f : Fault} → 0 < j → q ≡ child_at g (j - 1) → visit_of s used k up l q ≡ Err f → Err f ≡ kids_of k used s up j pg l
    unfolding kids_of visit_kids visit_of
    kids_bad zero h c e = absurd (omega arith)
    kids_bad (suc j) h c e =
        let z : suc j - 1 ≡ j = omega arith in
        rw (rw (c, here, z) at e)

    pub kids_on : (j : ℕ) {l₁ : Log} → 0 < j → q ≡ child_at g (j - 1) → visit_of s used k up l q ≡ Ok l₁
        → kids_of k used s up (j - 1) pg l₁ ≡ kids_of k used s up j pg l
    unfolding kids_of visit_kids visit_of
    kids_on zero h c e = absurd (omega arith)
    kids_on (suc j) h c e =
        let z : suc j - 1 ≡ j = omega arith in
        rw (rw (c, here, z) at e, z)

-- ---- how many pages are listed

-- how many stand in the log; 0 after a fault
abbrev told_count : Result Log Fault → ℕ
told_count (Ok l) = l.count
told_count (Err f) = 0

noted-count : (p : ℕ) (l : Log) → (noted p l).count ≡ l.count + 1
unfolding noted
noted-count p l = refl

kids_count : (f : Log → ℕ → Result Log Fault) (c : ℕ) → ((l : Log) (q : ℕ) → told_count (f l q) ≤ l.count + c) → (j : ℕ) (pg : List ℕ) (l : Log)
    → told_count (visit_kids pg f j l) ≤ l.count + j * c
unfolding visit_kids
kids_count f c h zero pg l = omega arith
kids_count f c h (suc j) pg l = by_told (f l (child_at pg j)) (h l (child_at pg j)) (λ m. kids_count f c h j pg m)
  where
    by_told : (t : Result Log Fault) → told_count t ≤ l.count + c → ((m : Log) → told_count (visit_kids pg f j m) ≤ m.count + j * c)
        → told_count (on_told (λ m. visit_kids pg f j m) (λ e. Err e) t) ≤ l.count + suc j * c
    by_told (Ok m) a b = omega (arith, b m, suc-mul j c)
    by_told (Err e) a b = zero-le

visit-count : (k used : ℕ) (s up : List ℕ) (l : Log) (p : ℕ) → told_count (visiting s used (λ m q. bit_at m.seen q) noted k up l p) ≤ l.count + cap_of k
unfolding visiting cap_of
visit-count zero used s up l p = by_top (top_at s used 0 up (bit_at l.seen p) p)
  where
    by_top : (t : Result (Option ℕ) Fault) → told_count (on_top (λ m. Ok (noted p l)) (Ok l) (λ f. Err f) t) ≤ l.count + 1
    by_top (Ok (Some m)) = omega (arith, noted-count p l)
    by_top (Ok None) = omega arith
    by_top (Err f) = zero-le
visit-count (suc k) used s up l p =
    by_top (top_at s used (suc k) up (bit_at l.seen p) p) refl (kids_count (visiting s used (λ m q. bit_at m.seen q) noted k (up ++ (p ∷ []))) (cap_of k) (λ m q. visit-count k used s (up ++ (p ∷ [])) m q))
  where
    by_top : (t : Result (Option ℕ) Fault) → t ≡ top_at s used (suc k) up (bit_at l.seen p) p
        → ((j : ℕ) (pg : List ℕ) (m : Log) → told_count (visit_kids pg (visiting s used (λ m q. bit_at m.seen q) noted k (up ++ (p ∷ []))) j m) ≤ m.count + j * cap_of k)
        → told_count (on_top (λ m. visit_kids (page s p) (visiting s used (λ m q. bit_at m.seen q) noted k (up ++ (p ∷ []))) m (noted p l)) (Ok l) (λ f. Err f) t)
        ≤ l.count + (1 + 511 * cap_of k)
    by_top (Ok (Some m)) e h =
        let i = page-is (suc k) used s up (bit_at l.seen p) p e refl in
        omega (arith, h m (page s p) (noted p l), noted-count p l, mul-le-mul_right (cap_of k) i.few)
    by_top (Ok None) e h = omega arith
    by_top (Err f) e h = zero-le

pub visit_grows : (k used : ℕ) (s up : List ℕ) (l : Log) (p : ℕ) {l₁ : Log} → visit_of s used k up l p ≡ Ok l₁ → l₁.count ≤ l.count + cap_of k
unfolding visit_of
visit_grows k used s up l p e = rw e at (visit-count k used s up l p)

pub cap_some : (k : ℕ) → 0 < cap_of k
unfolding cap_of
cap_some zero = omega arith
cap_some (suc k) = omega arith

-- what j children may still add
unfoldable pub room : (j k : ℕ) → ℕ
room j k = j * cap_of k

pub room_start : (k count : ℕ) {used p m : ℕ} → PageIs k used p m → count + cap_of k ≤ 4294967296 → count + 1 + room m (k - 1) ≤ 4294967296
unfolding room cap_of
room_start zero count {used} {p} {m} i h =
    let z : m ≡ 0 = omega arith in
    rw (z, zero-mul) (omega arith)
room_start (suc k) count i h =
    let z : suc k - 1 ≡ k = omega arith in
    rw z (omega (arith, mul-le-mul_right (cap_of k) i.few))

pub room-step : (j k : ℕ) → 0 < j → room j k ≡ room (j - 1) k + cap_of k
unfolding room
room-step zero k h = absurd (omega arith)
room-step (suc j) k h =
    let z : suc j - 1 ≡ j = omega arith in
    rw z (suc-mul j (cap_of k))
