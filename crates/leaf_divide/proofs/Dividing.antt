-- Laws of a leaf divided over two pages: what was moved to the right side and what was kept on the left, with the edit
-- done on one of them, are the two sides of the leaf as it would be; and the pool by its two pages. Assumes nothing.
use Rattle.std.proofs.Common.{Some, None, Ok}
use mathlib.Core.Path.{◌≡◌, refl, sym, ap, ◌∙◌}
use mathlib.Core.List.{List, [], ◌++◌, append_assoc}
use Prim.Native.Nat.{ℕ, ◌+◌, ◌-◌, ◌*◌, ◌≤◌, ◌<◌}
use native.Mathlib.Omega.{arith}
use lib.ListN.{length, take, drop, length-append, length-drop, length-replicate, replicate-append-replicate, take-append-drop}
use lib.Seq.{length-take-le, take-append-le, take-append-add, drop-append-le, drop-append-add, take_at, drop_at, take_all}
use Rattle.store.specs.Le.{AreBytes, le_at, bytes_le, put_at}
use Rattle.store.specs.Part.{part, put, zeros, pad, spliced}
use Rattle.page.specs.Page.{page, set_page}
use Rattle.page.specs.Header.{next_leaf, with_node_type, with_count, with_next_leaf}
use Rattle.row.specs.Read.{cell_at}
use Rattle.row.specs.Write.{cell_size, cell_bytes}
use Rattle.row.specs.declared.Cell.{Cell}
use Rattle.leaf.specs.declared.place.Cut.{Cut}
use Rattle.leaf_divide.specs.Divide.{left_leaf, right_leaf, divided}
use Rattle.store.proofs.LeLaws.{length-bytes_le, length-put_at, le_at-put_at-below}
use Rattle.store.proofs.PartLaws.{length_part, le_at-same, part-part, part_add}
use Rattle.store.proofs.PutLaws.{put_def, put-splice, length-put, put_at-put, part-put_above, length-spliced}
use Rattle.store.proofs.SeamLaws.{part_left, part_right, part-whole, spliced-before, spliced-new, spliced-after, length-pad, part-pad, put-zeros}
use Rattle.page.proofs.PageLaws.{length-page, length-set_page, page-set_page, page-set_page-other, le_at-page, put_at-page, part-page, put-page, set_page-set_page}
use Rattle.row.proofs.Writing.{length-cell}
use Rattle.leaf.proofs.Bytes.{bytes-page}
use Rattle.leaf_edit.proofs.Editing.{spliced-is, grown, stamp-grown, body_of, cell-ends, cell-bytes}

-- ---- zeros

part-zeros : (a n k : ℕ) → a + n ≤ k → part a n (zeros k) ≡ zeros n
unfolding part
part-zeros a n k h =
    let r = k - a - n in
    let e : k ≡ a + (n + r) = omega arith in
    rw (
      e,
      ← replicate-append-replicate {A = ℕ} a (n + r) 0,
      drop_at (zeros a) (zeros (n + r)) a (length-replicate {A = ℕ} a 0),
      ← replicate-append-replicate {A = ℕ} n r 0,
    )
    (take_at (zeros n) (zeros r) n (length-replicate {A = ℕ} n 0))

-- a store where only zeros follow
put_fresh : (n a : ℕ) (x s : List ℕ) → length s ≡ n → a + length x ≤ n → part a (n - a) s ≡ zeros (n - a) → put a x s ≡ pad n (part 0 a s ++ x)
unfolding pad part
put_fresh n a x s len h z =
    let k = n - (a + length x) in
    let l : length (take a s ++ x) ≡ a + length x = rw (length-append, length-take-le a s (omega arith)) in
    let t : part (a + length x) k s ≡ zeros k = sym (part-part a (n - a) (length x) k s (omega arith)) ∙ ap (part (length x) k) z ∙ part-zeros (length x) k (n - a) (omega arith) in
    let w : drop (a + length x) s ≡ zeros k = sym (take_all k (drop (a + length x) s) (rw length-drop (omega arith))) ∙ t in
    rw (put_def, w, l) (simp append_assoc)

-- ---- bytes that were moved behind others, and bytes that were kept

module _ (n h c k : ℕ) (hd s : List ℕ) (lh : length hd ≡ h) (fits : c + k ≤ length s) where
  lm : length (hd ++ part c k s) ≡ h + k
  lm = rw (length-append, length_part c k s (omega arith), lh)

  moved-head : part 0 h (pad n (hd ++ part c k s)) ≡ hd
  moved-head = part-pad n 0 h (hd ++ part c k s) (omega (arith, lm)) ∙ part_left 0 h hd (part c k s) (omega arith) ∙ part-whole h hd lh

  -- what stood at j stands at i
  pub moved : (i j m : ℕ) → h ≤ i → j + h ≡ c + i → j + m ≤ c + k → part i m (pad n (hd ++ part c k s)) ≡ part j m s
  moved i j m in₀ e in₁ =
      let f : c + (i - h) ≡ j = omega arith in
      part-pad n i m (hd ++ part c k s) (omega (arith, lm))
      ∙ part_right (i - h) m i hd (part c k s) (omega arith)
      ∙ rw f at (part-part c k (i - h) m s (omega arith))

-- the two sides, cut at c, of a body with the bytes from a up to b replaced by x
module _ (a b e c : ℕ) (x s : List ℕ) (in₀ : a ≤ b) (in₁ : b ≤ e) (in₂ : e ≤ length s) where
  lv : length (spliced a b e x s) ≡ a + length x + (e - b)
  lv = length-spliced a b e x s in₀ in₁ in₂

  -- x falls on the right side: it is put in where the bytes from c to e were moved to
  right_kept : c ≤ a → part 0 c (spliced a b e x s) ≡ part 0 c s
  right_kept h = spliced-before a b e x s in₀ in₁ in₂ 0 c (omega arith)

  right_edited : (n h : ℕ) (hd : List ℕ) (a' b' e' : ℕ) → length hd ≡ h → c ≤ a → a' + c ≡ h + a → b' + c ≡ h + b → e' + c ≡ h + e
      → spliced a' b' e' x (pad n (hd ++ part c (e - c) s)) ≡ hd ++ part c (length (spliced a b e x s) - c) (spliced a b e x s)
  right_edited n h hd a' b' e' lh k ea eb ee =
      let r = pad n (hd ++ part c (e - c) s) in
      let i : a' ≡ h + (a - c) = omega arith in
      let j : e' - b' ≡ e - b = omega arith in
      let m : length (spliced a b e x s) - c ≡ (a - c) + (length x + (e - b)) = omega (arith, lv) in
      let f : c + (a - c) ≡ a = omega arith in
      let left : part 0 a' r ≡ hd ++ part c (a - c) s
      = rw (i, part_add 0 h (a - c) r, moved-head n h c (e - c) hd s lh (omega arith), moved n h c (e - c) hd s lh (omega arith) (0 + h) c (a - c) (omega arith) (omega arith) (omega arith)) in
      let right : part b' (e' - b') r ≡ part b (e - b) s = rw j (moved n h c (e - c) hd s lh (omega arith) b' b (e - b) (omega arith) (omega arith) (omega arith)) in
      rw (
        spliced-is a' b' e' x r,
        left,
        right,
        m,
        part_add c (a - c) (length x + (e - b)) (spliced a b e x s),
        f,
        part_add a (length x) (e - b) (spliced a b e x s),
        spliced-before a b e x s in₀ in₁ in₂ c (a - c) (omega arith),
        spliced-new a b e x s in₀ in₁ in₂ a (length x) refl refl,
        spliced-after a b e x s in₀ in₁ in₂ b (a + length x) (e - b) (omega arith) (omega arith) (omega arith),
      )
      (simp append_assoc)

  -- x falls on the left side, of which the bytes up to c' were kept
  module _ (c' : ℕ) (in₃ : b ≤ c') (in₄ : c' ≤ e) (at_c : c + b ≡ a + length x + c') where
    left_edited : (n : ℕ) → spliced a b c' x (pad n (part 0 c' s)) ≡ part 0 c (spliced a b e x s)
    left_edited n =
        let i : c ≡ a + (length x + (c' - b)) = omega arith in
        let z : 0 + a ≡ a = omega arith in
        rw (
          spliced-is a b c' x (pad n (part 0 c' s)),
          moved n 0 0 c' [] s refl (omega arith) 0 0 a (omega arith) (omega arith) (omega arith),
          moved n 0 0 c' [] s refl (omega arith) b b (c' - b) (omega arith) (omega arith) (omega arith),
          i,
          part_add 0 a (length x + (c' - b)) (spliced a b e x s),
          z,
          part_add a (length x) (c' - b) (spliced a b e x s),
          spliced-before a b e x s in₀ in₁ in₂ 0 a (omega arith),
          spliced-new a b e x s in₀ in₁ in₂ a (length x) refl refl,
          spliced-after a b e x s in₀ in₁ in₂ b (a + length x) (c' - b) (omega arith) (omega arith) (omega arith),
        )

    left-moved : part c (length (spliced a b e x s) - c) (spliced a b e x s) ≡ part c' (e - c') s
    left-moved =
        let m : length (spliced a b e x s) - c ≡ e - c' = omega (arith, lv) in
        rw m (spliced-after a b e x s in₀ in₁ in₂ c' c (e - c') in₃ (omega arith) (omega arith))

-- ---- a pool by two of its pages

put-left : (a : ℕ) (x u t : List ℕ) → a + length x ≤ length u → put a x (u ++ t) ≡ put a x u ++ t
put-left a x u t h =
    put_def a x (u ++ t)
    ∙ rw (take-append-le a u t (omega arith), drop-append-le (a + length x) u t h, put_def a x u) (simp append_assoc)

put_right : (k n : ℕ) (x u t : List ℕ) → n ≡ length u + k → put n x (u ++ t) ≡ u ++ put k x t
put_right k n x u t e =
    let f : length u + k + length x ≡ length u + (k + length x) = omega arith in
    put_def n x (u ++ t)
    ∙ rw (e, f, take-append-add u t k, drop-append-add u t (k + length x), put_def k x t) (simp append_assoc)

put_comm : (a b : ℕ) (x y s : List ℕ) → a + length x ≤ b → b ≤ length s → put b y (put a x s) ≡ put a x (put b y s)
put_comm a b x y s h k =
    let c = a + length x in
    let u = take c s in
    let t = drop c s in
    let lu : length u ≡ c = length-take-le c s (omega arith) in
    let lp : length (put a x u) ≡ c = length-put a x u (omega arith) ∙ lu in
    let j : b ≡ length (put a x u) + (b - c) = omega arith in
    let i : b ≡ length u + (b - c) = omega arith in
    rw (← take-append-drop c s, put-left a x u t (omega arith), put_right (b - c) b y (put a x u) t j, put_right (b - c) b y u t i, put-left a x u (put (b - c) y t) (omega arith))

module _ (p q : ℕ) (x y s : List ℕ) (less : p < q) (fits : q * 4096 + 4096 ≤ length s) (lx : length x ≡ 4096) (ly : length y ≡ 4096) where
  fits_p : p * 4096 + 4096 ≤ length (set_page q y s)
  fits_p = omega (arith, length-set_page q y s fits ly)

  pub both_left : page (set_page p x (set_page q y s)) p ≡ x
  both_left = page-set_page p x (set_page q y s) fits_p lx

  pub both_right : page (set_page p x (set_page q y s)) q ≡ y
  both_right = page-set_page-other p x (set_page q y s) fits_p lx q (λ e. omega arith) ∙ page-set_page q y s fits ly

  pub left_again : (z : List ℕ) → set_page p z (set_page p x (set_page q y s)) ≡ set_page p z (set_page q y s)
  left_again z = set_page-set_page p x z (set_page q y s) fits_p lx

  set_page_comm : (z : List ℕ) → length z ≡ 4096 → set_page q z (set_page p x s) ≡ set_page p x (set_page q z s)
  unfolding set_page
  set_page_comm z lz =
      rw (
        ← put-splice (p * 4096) 4096 x s lx,
        ← put-splice (q * 4096) 4096 z (put (p * 4096) x s) lz,
        ← put-splice (q * 4096) 4096 z s lz,
        ← put-splice (p * 4096) 4096 x (put (q * 4096) z s) lx,
      )
      (put_comm (p * 4096) (q * 4096) x z s (omega arith) (omega arith))

  pub right_again : (z : List ℕ) → length z ≡ 4096 → set_page q z (set_page p x (set_page q y s)) ≡ set_page p x (set_page q z s)
  right_again z lz = rw (← set_page_comm y ly) (set_page-set_page q y z (set_page p x s) (omega (arith, length-set_page p x s (omega arith) lx)) ly ∙ set_page_comm z lz)

-- ---- the stores of part_leaf and of link_leaves

-- counts k and r, and the links
abbrev pub linked : (p q k r : ℕ) → List ℕ → List ℕ
linked p q k r s = set_page p (with_next_leaf q (with_count k (page s p))) (set_page q (with_next_leaf (next_leaf (page s p)) (with_count r (page s q))) s)

-- what page p keeps, and what moves to page q
abbrev pub kept : (p c : ℕ) → List ℕ → List ℕ
kept p c s = pad 4096 (part 0 c (page s p))

abbrev pub moved_over : (p q c e : ℕ) → List ℕ → List ℕ
moved_over p q c e s = pad 4096 (part 0 12 (with_node_type 1 (page s q)) ++ part c (e - c) (page s p))

abbrev pub parted : (p q c e : ℕ) → List ℕ → List ℕ
parted p q c e s = set_page p (kept p c s) (set_page q (moved_over p q c e s) s)

module _ (p q c e : ℕ) (s : List ℕ) (less : p < q) (fits : q * 4096 + 4096 ≤ length s) where
  len_q : length (page s q) ≡ 4096
  len_q = length-page q s fits

  len_p : length (page s p) ≡ 4096
  len_p = length-page p s (omega arith)

  -- a fresh page that has become a leaf
  fresh_zeros : (n : ℕ) → n ≡ 4096 → page s q ≡ zeros n → part 12 (n - 12) (with_node_type 1 (page s q)) ≡ zeros (n - 12)
  fresh_zeros n i z =
      rw (put_at-put 1 0 1 (page s q) (omega (arith, len_q)), part-put_above 0 (bytes_le 1 1) (page s q) (omega arith) 12 (n - 12) (rw length-bytes_le (omega arith)))
      (ap (part 12 (n - 12)) z ∙ part-zeros 12 (n - 12) n (omega arith))

  len_leaf : length (with_node_type 1 (page s q)) ≡ 4096
  len_leaf = length-put_at 1 (page s q) 0 1 ∙ len_q

  module _ (in₀ : 12 ≤ c) (in₁ : c ≤ e) (in₂ : e ≤ 4096) where
    length_kept : length (kept p c s) ≡ 4096
    length_kept = length-pad 4096 (part 0 c (page s p)) (rw (length_part 0 c (page s p) (omega (arith, len_p))) (omega arith))

    length_moved : length (moved_over p q c e s) ≡ 4096
    length_moved =
        length-pad 4096 (part 0 12 (with_node_type 1 (page s q)) ++ part c (e - c) (page s p))
        (rw (length-append, length_part 0 12 (with_node_type 1 (page s q)) (omega (arith, len_leaf)), length_part c (e - c) (page s p) (omega (arith, len_p))) (omega arith))

    pub part-done : {s₁ s₂ s₃ : List ℕ} → page s q ≡ zeros 4096 → s₁ ≡ put_at 1 s (q * 4096) 1 → s₂ ≡ put (q * 4096 + 12) (part (p * 4096 + c) (e - c) s₁) s₁
        → s₃ ≡ put (p * 4096 + c) (zeros (p * 4096 + 4096 - (p * 4096 + c))) s₂ → s₃ ≡ parted p q c e s
    part-done {s₁} {s₂} {s₃} z f g k =
        let leaf = with_node_type 1 (page s q) in
        let t = part c (e - c) (page s p) in
        let i : q * 4096 + 0 ≡ q * 4096 = omega arith in
        let f₁ : s₁ ≡ set_page q leaf s = f ∙ rw i at (put_at-page 1 q s 0 1 fits (omega arith)) in
        let lt : length t ≡ e - c = length_part c (e - c) (page s p) (omega (arith, len_p)) in
        let l₁ : length (set_page q leaf s) ≡ length s = length-set_page q leaf s fits len_leaf in
        let p₁ : page (set_page q leaf s) p ≡ page s p = page-set_page-other q leaf s fits len_leaf p (λ o. omega arith) in
        let t₁ : part (p * 4096 + c) (e - c) (set_page q leaf s) ≡ t = part-page p c (e - c) (set_page q leaf s) (omega arith) ∙ ap (part c (e - c)) p₁ in
        let g₁ : s₂ ≡ set_page q (moved_over p q c e s) s
        = g ∙ rw (f₁, t₁, put-page q 12 t (set_page q leaf s) (omega arith) (omega arith), page-set_page q leaf s fits len_leaf, set_page-set_page q leaf (put 12 t leaf) s fits len_leaf, put_fresh 4096 12 t leaf len_leaf (omega arith) (fresh_zeros 4096 refl z)) in
        let l₂ : length (set_page q (moved_over p q c e s) s) ≡ length s = length-set_page q (moved_over p q c e s) s fits length_moved in
        let p₂ : page (set_page q (moved_over p q c e s) s) p ≡ page s p = page-set_page-other q (moved_over p q c e s) s fits length_moved p (λ o. omega arith) in
        let j : p * 4096 + 4096 - (p * 4096 + c) ≡ 4096 - c = omega arith in
        k
        ∙ rw (
          g₁,
          j,
          put-page p c (zeros (4096 - c)) (set_page q (moved_over p q c e s) s) (omega arith) (rw length-replicate (omega arith)),
          p₂,
          put-zeros 4096 c (page s p) len_p (omega arith),
        )

-- count and link of a page, stored in the pool
two_fields : (p k v : ℕ) (s : List ℕ) → p * 4096 + 4096 ≤ length s
    → put_at 4 (put_at 2 s (p * 4096 + 6) k) (p * 4096 + 8) v ≡ set_page p (with_next_leaf v (with_count k (page s p))) s
two_fields p k v s fits =
    let x = with_count k (page s p) in
    let lx : length x ≡ 4096 = length-put_at 2 (page s p) 6 k ∙ length-page p s fits in
    rw (
      put_at-page 2 p s 6 k fits (omega arith),
      put_at-page 4 p (set_page p x s) 8 v (omega (arith, length-set_page p x s fits lx)) (omega arith),
      page-set_page p x s fits lx,
      set_page-set_page p x (with_next_leaf v x) s fits lx,
    )

pub link_done : (p q k r : ℕ) (s : List ℕ) {s₁ s₂ s₃ s₄ : List ℕ} {next : ℕ} → p < q → q * 4096 + 4096 ≤ length s → s₁ ≡ put_at 2 s (q * 4096 + 6) r
    → next ≡ le_at 4 s₁ (p * 4096 + 8) → s₂ ≡ put_at 4 s₁ (q * 4096 + 8) next → s₃ ≡ put_at 2 s₂ (p * 4096 + 6) k → s₄ ≡ put_at 4 s₃ (p * 4096 + 8) q
    → s₄ ≡ linked p q k r s
link_done p q k r s {s₁} {s₂} {s₃} {s₄} {next} less fits e₁ e₂ e₃ e₄ e₅ =
    let y = with_next_leaf (next_leaf (page s p)) (with_count r (page s q)) in
    let ly : length y ≡ 4096 = length-put_at 4 (with_count r (page s q)) 8 (next_leaf (page s p)) ∙ length-put_at 2 (page s q) 6 r ∙ length-page q s fits in
    let n : next ≡ next_leaf (page s p) = e₂ ∙ rw (e₁, le_at-put_at-below 4 2 s (q * 4096 + 6) r (p * 4096 + 8) (omega arith)) (le_at-page 4 p s 8 (omega arith)) in
    let f : s₂ ≡ set_page q y s = e₃ ∙ rw (e₁, n) (two_fields q r (next_leaf (page s p)) s fits) in
    e₅
    ∙ rw (e₄, f, two_fields p k q (set_page q y s) (omega (arith, length-set_page q y s fits ly)), page-set_page-other q y s fits ly p (λ o. omega arith))

-- ---- the division

module _ (p q n a b e : ℕ) (cut : Cut) (x s : List ℕ) (less : p < q) (fits : q * 4096 + 4096 ≤ length s) (in₀ : 12 ≤ a) (in₁ : a ≤ b) (in₂ : b ≤ e) (in₃ : e ≤ 4096)
    (left-fits : 12 + cut.bytes ≤ 4096) (right-fits : a + length x + (e - b) ≤ 4096 + cut.bytes) (inside : 12 + cut.bytes ≤ a + length x + (e - b)) where
  in_page : e ≤ length (page s p)
  in_page = omega (arith, len_p p q 0 0 s less fits)

  -- the leaf as it would be, and its sides
  abbrev overfull : List ℕ
  overfull = spliced a b e x (page s p)

  length_overfull : length overfull ≡ a + length x + (e - b)
  length_overfull = length-spliced a b e x (page s p) in₁ in₂ in_page

  abbrev left_side : List ℕ
  left_side = pad 4096 (part 0 (12 + cut.bytes) overfull)

  abbrev right_side : List ℕ
  right_side = pad 4096 (part 0 12 (with_node_type 1 (page s q)) ++ part (12 + cut.bytes) (length overfull - (12 + cut.bytes)) overfull)

  length-left : length left_side ≡ 4096
  length-left = length-pad 4096 (part 0 (12 + cut.bytes) overfull) (rw (length_part 0 (12 + cut.bytes) overfull (omega (arith, length_overfull))) (omega arith))

  length-right : length right_side ≡ 4096
  length-right =
      length-pad 4096 (part 0 12 (with_node_type 1 (page s q)) ++ part (12 + cut.bytes) (length overfull - (12 + cut.bytes)) overfull)
      (rw (
        length-append,
        length_part 0 12 (with_node_type 1 (page s q)) (omega (arith, len_leaf p q 0 0 s less fits)),
        length_part (12 + cut.bytes) (length overfull - (12 + cut.bytes)) overfull (omega (arith, length_overfull)),
      )
      (omega (arith, length_overfull)))

  -- bytes 8 to 11 are those of page p
  next-same : next_leaf left_side ≡ next_leaf (page s p)
  next-same =
      le_at-same 4 8 8 left_side (page s p)
      (moved 4096 0 0 (12 + cut.bytes) [] overfull refl (omega (arith, length_overfull)) 8 8 4 (omega arith) (omega arith) (omega arith)
      ∙ spliced-before a b e x (page s p) in₁ in₂ in_page 8 4 (omega arith))

  -- both sides with counts and links
  sides_linked : {s₂ s₃ : List ℕ} → s₂ ≡ set_page p left_side (set_page q right_side s)
      → s₃ ≡ linked p q cut.cells (n - cut.cells) s₂
      → s₃ ≡ divided p q n cut overfull s
  unfolding divided left_leaf right_leaf
  sides_linked e₂ e₃ =
      let y = with_next_leaf (next_leaf (page s p)) (with_count (n - cut.cells) right_side) in
      let ly : length y ≡ 4096 = length-put_at 4 (with_count (n - cut.cells) right_side) 8 (next_leaf (page s p)) ∙ length-put_at 2 right_side 6 (n - cut.cells) ∙ length-right in
      e₃
      ∙ rw (
        e₂,
        both_left p q left_side right_side s less fits length-left length-right,
        both_right p q left_side right_side s less fits length-left length-right,
        next-same,
        right_again p q left_side right_side s less fits length-left length-right y ly,
        left_again p q left_side y s less fits length-left ly (with_next_leaf q (with_count cut.cells left_side)),
      )

  -- the edit done on the right side, or on the left
  pub right-done : {s₁ y s₃ : List ℕ} (a' b' e' : ℕ) → 12 + cut.bytes ≤ a → a' + cut.bytes ≡ a → b' + cut.bytes ≡ b → e' + cut.bytes ≡ e
      → s₁ ≡ parted p q (12 + cut.bytes) e s
      → y ≡ pad 4096 (spliced a' b' e' x (page s₁ q))
      → s₃ ≡ linked p q cut.cells (n - cut.cells) (set_page q y s₁)
      → s₃ ≡ divided p q n cut overfull s
  right-done {s₁} {y} {s₃} a' b' e' h ea eb ee e₁ f e₃ =
      let c = 12 + cut.bytes in
      let k = kept p c s in
      let m = moved_over p q c e s in
      let lk = length_kept p q c e s less fits (omega arith) (omega arith) in₃ in
      let lm = length_moved p q c e s less fits (omega arith) (omega arith) in₃ in
      let hd = part 0 12 (with_node_type 1 (page s q)) in
      let lh : length hd ≡ 12 = length_part 0 12 (with_node_type 1 (page s q)) (omega (arith, len_leaf p q 0 0 s less fits)) in
      let f₁ : y ≡ right_side
      = f ∙ rw (e₁, both_right p q k m s less fits lk lm, right_edited a b e c x (page s p) in₁ in₂ in_page 4096 12 hd a' b' e' lh h (omega arith) (omega arith) (omega arith)) in
      let k₁ : k ≡ left_side = sym (ap (pad 4096) (right_kept a b e c x (page s p) in₁ in₂ in_page h)) in
      let e₂ : set_page q y s₁ ≡ set_page p left_side (set_page q right_side s)
      = rw (f₁, e₁, right_again p q k m s less fits lk lm right_side length-right, k₁) in
      sides_linked e₂ e₃

  pub left-done : {s₁ y s₃ : List ℕ} (c : ℕ) → b ≤ c → c ≤ e → 12 + cut.bytes + b ≡ a + length x + c
      → s₁ ≡ parted p q c e s
      → y ≡ pad 4096 (spliced a b c x (page s₁ p))
      → s₃ ≡ linked p q cut.cells (n - cut.cells) (set_page p y s₁)
      → s₃ ≡ divided p q n cut overfull s
  left-done {s₁} {y} {s₃} c h₀ h₁ ec e₁ f e₃ =
      let k = kept p c s in
      let m = moved_over p q c e s in
      let lk = length_kept p q c e s less fits (omega arith) (omega arith) in₃ in
      let lm = length_moved p q c e s less fits (omega arith) (omega arith) in₃ in
      let hd = part 0 12 (with_node_type 1 (page s q)) in
      let f₁ : y ≡ left_side
      = f ∙ rw (e₁, both_left p q k m s less fits lk lm, left_edited a b e (12 + cut.bytes) x (page s p) in₁ in₂ in_page c h₀ h₁ ec 4096) in
      let m₁ : m ≡ right_side = sym (ap (λ (z : List ℕ). pad 4096 (hd ++ z)) (left-moved a b e (12 + cut.bytes) x (page s p) in₁ in₂ in_page c h₀ h₁ ec)) in
      let e₂ : set_page p y s₁ ≡ set_page p left_side (set_page q right_side s)
      = rw (f₁, e₁, left_again p q k m s less fits lk lm left_side, m₁) in
      sides_linked e₂ e₃

-- ---- a stamp

module _ (p q n e d : ℕ) (cut : Cut) (c : Cell) (s : List ℕ) (less : p < q) (fits : q * 4096 + 4096 ≤ length s) (B : AreBytes s)
    (got : cell_at (page s p) c.at ≡ Ok c) (live : c.version.stamp ≡ None) (in₀ : 12 ≤ c.at) (in₁ : c.next ≤ e) (in₂ : e ≤ 4096) where
  abbrev stamped : List ℕ
  stamped = cell_bytes c.key c.version.creator (Some d) c.version.pointer (body_of c (page s p))

  abbrev size : ℕ
  size = cell_size None c.version.pointer (length (body_of c (page s p)))

  ends : c.next ≡ c.at + size
  ends = cell-ends c (page s p) (bytes-page p s B) got live

  grows : length stamped ≡ size + 8
  grows = length-cell c.key c.version.creator (Some d) c.version.pointer (body_of c (page s p)) ∙ omega arith

  pub stamp-right-done : {s₁ y s₃ : List ℕ} (a' e' m : ℕ) → 12 + cut.bytes ≤ c.at → e + 8 ≤ 4096 + cut.bytes → a' + cut.bytes ≡ c.at → e' + cut.bytes ≡ e → m ≡ c.next - c.at
      → s₁ ≡ parted p q (12 + cut.bytes) e s
      → y ≡ grown a' e' m d (page s₁ q)
      → s₃ ≡ linked p q cut.cells (n - cut.cells) (set_page q y s₁)
      → s₃ ≡ divided p q n cut (spliced c.at c.next e stamped (page s p)) s
  stamp-right-done {s₁} {y} {s₃} a' e' m h h₁ ea ee em e₁ f e₃ =
      let u = ends in
      let w = grows in
      let lm = length_moved p q (12 + cut.bytes) e s less fits (omega arith) (omega arith) in₂ in
      let lk = length_kept p q (12 + cut.bytes) e s less fits (omega arith) (omega arith) in₂ in
      let r = both_right p q (kept p (12 + cut.bytes) s) (moved_over p q (12 + cut.bytes) e s) s less fits lk lm in
      let q₁ : page s₁ q ≡ moved_over p q (12 + cut.bytes) e s = ap (λ (t : List ℕ). page t q) e₁ ∙ r in
      let hd = part 0 12 (with_node_type 1 (page s q)) in
      let lh : length hd ≡ 12 = length_part 0 12 (with_node_type 1 (page s q)) (omega (arith, len_leaf p q 0 0 s less fits)) in
      let there : part a' size (page s₁ q) ≡ cell_bytes c.key c.version.creator None c.version.pointer (body_of c (page s p))
      = rw q₁ (moved 4096 12 (12 + cut.bytes) (e - (12 + cut.bytes)) hd (page s p) lh (omega (arith, len_p p q 0 0 s less fits)) a' c.at size (omega arith) (omega arith) (omega arith)
      ∙ cell-bytes c (page s p) (bytes-page p s B) got live) in
      let g = stamp-grown a' e' c.key c.version.creator d c.version.pointer (body_of c (page s p)) (page s₁ q) (rw q₁ lm) m (omega arith) (omega arith) (omega arith) there in
      right-done p q n c.at c.next e cut stamped s less fits in₀ (omega arith) in₁ in₂ (omega arith) (omega arith) (omega arith) a' (a' + size) e' h ea (omega arith) ee e₁ (f ∙ g) e₃

  pub stamp-left-done : {s₁ y s₃ : List ℕ} (mid m : ℕ) → c.next ≤ mid → mid ≤ e → mid + 8 ≤ 4096 → 12 + cut.bytes ≡ mid + 8 → m ≡ c.next - c.at
      → s₁ ≡ parted p q mid e s
      → y ≡ grown c.at mid m d (page s₁ p)
      → s₃ ≡ linked p q cut.cells (n - cut.cells) (set_page p y s₁)
      → s₃ ≡ divided p q n cut (spliced c.at c.next e stamped (page s p)) s
  stamp-left-done {s₁} {y} {s₃} mid m h h₁ h₂ ec em e₁ f e₃ =
      let u = ends in
      let w = grows in
      let lm = length_moved p q mid e s less fits (omega arith) h₁ in₂ in
      let lk = length_kept p q mid e s less fits (omega arith) h₁ in₂ in
      let p₁ : page s₁ p ≡ kept p mid s = ap (λ (t : List ℕ). page t p) e₁ ∙ both_left p q (kept p mid s) (moved_over p q mid e s) s less fits lk lm in
      let there : part c.at size (page s₁ p) ≡ cell_bytes c.key c.version.creator None c.version.pointer (body_of c (page s p))
      = rw p₁ (moved 4096 0 0 mid [] (page s p) refl (omega (arith, len_p p q 0 0 s less fits)) c.at c.at size (omega arith) (omega arith) (omega arith)
      ∙ cell-bytes c (page s p) (bytes-page p s B) got live) in
      let g = stamp-grown c.at mid c.key c.version.creator d c.version.pointer (body_of c (page s p)) (page s₁ p) (rw p₁ lk) m (omega arith) h₂ (omega arith) there in
      let g₁ : y ≡ pad 4096 (spliced c.at c.next mid stamped (page s₁ p)) = f ∙ rw u g in
      left-done p q n c.at c.next e cut stamped s less fits in₀ (omega arith) in₁ in₂ (omega arith) (omega arith) (omega arith) mid h h₁ (omega arith) e₁ g₁ e₃
