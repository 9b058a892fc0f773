-- Laws of pages. Assumes nothing.
use mathlib.Core.Path.{◌≡◌, refl, sym, ap, ◌∙◌}
use mathlib.Core.List.{List}
use mathlib.Core.Logic.{⊎_elim}
use Prim.Native.Nat.{ℕ, ◌+◌, ◌-◌, ◌*◌, ◌/◌, ◌%◌, ◌≤◌, ◌<◌}
use native.Mathlib.Omega.{arith}
use lib.ListN.{length, get_or, drop, length-take, length-replicate}
use borrow.Rule.Slice.PartMut.{mid_of, put_mid}
use Rattle.store.specs.Le.{le_at, put_at}
use Rattle.store.specs.Part.{part, put, zeros}
use Rattle.page.specs.Page.{page, set_page}
use Rattle.store.proofs.PartLaws.{lent, back, le_or_lt, length_part, le_at-part, length-splice, part-splice, part-splice-below, part-splice_above, put_at-splice, splice-splice, splice-part, splice-within, part-part, get_d_part}

-- what `&pool[a..e]` and `&mut pool[a..e]` lend, with `let a = p * 4096; let e = a + 4096;`
pub lent_page : (p : ℕ) (s : List ℕ) → mid_of (p * 4096) (p * 4096 + 4096 - p * 4096) s ≡ page s p
unfolding page
lent_page p s = lent (p * 4096) 4096 s

-- what the pool is when a `&mut` part has come back as y
pub back_page : (p : ℕ) (s y : List ℕ) → put_mid (p * 4096) (p * 4096 + 4096 - p * 4096) s y ≡ set_page p y s
unfolding set_page
back_page p s y = back (p * 4096) 4096 s y

pub page_short : (p : ℕ) (s : List ℕ) → length (page s p) ≤ 4096
unfolding page part
page_short p s = omega (arith, length-take 4096 (drop (p * 4096) s))

pub length-page : (p : ℕ) (s : List ℕ) → p * 4096 + 4096 ≤ length s → length (page s p) ≡ 4096
unfolding page
length-page p s = length_part (p * 4096) 4096 s

module _ (p : ℕ) (x s : List ℕ) (fits : p * 4096 + 4096 ≤ length s) (len : length x ≡ 4096) where
  pub length-set_page : length (set_page p x s) ≡ length s
  unfolding set_page
  length-set_page = length-splice (p * 4096) 4096 x s fits len

  pub page-set_page : page (set_page p x s) p ≡ x
  unfolding page set_page
  page-set_page = part-splice (p * 4096) 4096 x s fits len

  pub page-set_page-other : (q : ℕ) → (q ≡ p → ⊥) → page (set_page p x s) q ≡ page s q
  unfolding page set_page
  page-set_page-other q ne =
      ⊎_elim
      (λ (h : p ≤ q). part-splice_above (p * 4096) 4096 x s fits len (q * 4096) 4096 (omega arith))
      (λ (h : q < p). part-splice-below (p * 4096) 4096 x s fits len (q * 4096) 4096 (omega arith))
      (le_or_lt p q)

-- a field of a page, read or written in the pool
pub le_at-page : (w p : ℕ) (s : List ℕ) (b : ℕ) → b + w ≤ 4096 → le_at w s (p * 4096 + b) ≡ le_at w (page s p) b
unfolding page
le_at-page w p s b h = sym (le_at-part w (p * 4096) 4096 s b h)

pub put_at-page : (w p : ℕ) (s : List ℕ) (b x : ℕ) → p * 4096 + 4096 ≤ length s → b + w ≤ 4096 → put_at w s (p * 4096 + b) x ≡ set_page p (put_at w (page s p) b x) s
unfolding page set_page
put_at-page w p s b x = put_at-splice w (p * 4096) 4096 s b x

-- and a part of a page
pub part-page : (p b n : ℕ) (s : List ℕ) → b + n ≤ 4096 → part (p * 4096 + b) n s ≡ part b n (page s p)
unfolding page
part-page p b n s h = sym (part-part (p * 4096) 4096 b n s h)

pub put-page : (p b : ℕ) (x s : List ℕ) → p * 4096 + 4096 ≤ length s → b + length x ≤ 4096 → put (p * 4096 + b) x s ≡ set_page p (put b x (page s p)) s
unfolding page set_page put
put-page p b x s fits h = sym (splice-within (p * 4096) 4096 b (length x) x s fits h refl)

pub set_page-set_page : (p : ℕ) (x y s : List ℕ) → p * 4096 + 4096 ≤ length s → length x ≡ 4096 → set_page p y (set_page p x s) ≡ set_page p y s
unfolding set_page
set_page-set_page p x y s = splice-splice (p * 4096) 4096 x y s

pub set_page-page : (p : ℕ) (s : List ℕ) → set_page p (page s p) s ≡ s
unfolding set_page page
set_page-page p s = splice-part (p * 4096) 4096 s

pub get_d-page : (s : List ℕ) (i : ℕ) → get_or s i 0 ≡ get_or (page s (i / 4096)) (i % 4096) 0
unfolding page
get_d-page s i =
    let e : i ≡ i / 4096 * 4096 + i % 4096 = omega arith in
    ap (λ (k : ℕ). get_or s k 0) e ∙ sym (get_d_part (i / 4096 * 4096) 4096 s (i % 4096) (omega arith))

pub length-zeros : length (zeros 4096) ≡ 4096
length-zeros = length-replicate {A = ℕ} 4096 0
