-- Edits of an internal page as edits of its children and separators: a pair entered, the two halves, and a new top.
-- Assumes nothing.
use mathlib.Core.Path.{◌≡◌, refl, sym, ap, ap₂, ◌∙◌, subst}
use mathlib.Core.Bool.{Bool, true, false}
use mathlib.Core.List.{List, [], ◌∷◌, ◌++◌, map}
use Prim.Native.Nat.{ℕ, zero, suc, ◌+◌, ◌*◌, ◌≤◌, ◌<◌}
use native.Mathlib.Nat.{zero-add}
use native.Mathlib.Numerals.{add-one}
use native.Mathlib.Omega.{arith}
use lib.Dec.{eqb}
use lib.ListN.{length, take, drop, get_or, length-map, length-replicate, get_or-map}
use lib.Seq.{drop-cons}
use Rattle.store.specs.Pick.{pick}
use Rattle.store.specs.Le.{le_at, put_at}
use Rattle.store.specs.Part.{part, pad, zeros}
use Rattle.page.specs.Header.{node_type, parent_of, cell_count, next_leaf, with_node_type, with_is_root, with_parent, with_count}
use Rattle.page.specs.Key.{flip}
use Rattle.inner.specs.Inner.{key_at, child_at, keys_from, children_from, keys_of, children_of}
use Rattle.inner.specs.Route.{first_where, child_place}
use Rattle.inner_edit.specs.Edit.{entered, with_entry, left_half, middle_key, right_half, top_page}
use Rattle.inner_edit.specs.Facts.{insert_at, IsPage}
use Rattle.tree_grow.specs.Grow.{place_in, top_in}
use Rattle.theory_tree.specs.Pages.{inner_page}
use Rattle.theory_tree.specs.View.{entries_of, said}
use Rattle.theory_tree.specs.Shape.{All}
use Rattle.store.proofs.LeLaws.{length-put_at, le_at-put_at, le_at-put_at-below, le_at-put_at_above}
use Rattle.store.proofs.PartLaws.{length_part, le_at-part, le_at-same}
use Rattle.store.proofs.SeamLaws.{length-pad, part-pad}
use Rattle.page.proofs.KeyLaws.{flip-flip, flip_less}
use Rattle.inner_edit.proofs.Editing.{length-entered, entered-before}
use Rattle.inner_edit.proofs.Dividing.{length-left, length-right}
use Rattle.inner_edit.proofs.Facts.{entry_enters, halves_divide}
use Rattle.theory_tree.proofs.Entries.{ins_after, kids}
use Rattle.theory_tree.proofs.Enter.{has, ins_length}
use Rattle.theory_tree.proofs.Says.{InnerSays, inner_said, entries_length, entries_of_lem, kids_of_lem}
use Rattle.theory_stores.proofs.Keeping.{zero_number}
use Rattle.theory_stores.proofs.Making.{made_long, made_count, made_below, made_above, length_headed, headed_field}

-- the keys and the children of entries
abbrev pub seps : List (ℕ × ℕ) → List ℕ
seps r = map (λ (x : ℕ × ℕ). x.0) r

abbrev pub ends : List (ℕ × ℕ) → List ℕ
ends r = map (λ (x : ℕ × ℕ). x.1) r

-- ---- entries are what their keys and children are

pairs_same : (a b : List (ℕ × ℕ)) → seps a ≡ seps b → ends a ≡ ends b → a ≡ b
pairs_same [] [] k c = refl
pairs_same [] (y ∷ b) k c = absurd (let z : ◌≡◌ {A = ℕ} 0 1 = cc in omega arith)
pairs_same (x ∷ a) [] k c = absurd (let z : ◌≡◌ {A = ℕ} 0 1 = cc in omega arith)
pairs_same (x ∷ a) (y ∷ b) k c =
    let e : x.0 ≡ y.0 = ap (λ (l : List ℕ). get_or l 0 0) k in
    let f : x.1 ≡ y.1 = ap (λ (l : List ℕ). get_or l 0 0) c in
    ap₂ (λ (z : ℕ × ℕ) (l : List (ℕ × ℕ)). z ∷ l) (ap₂ (λ (m n : ℕ). (m, n)) e f) (pairs_same a b (ap (drop 1) k) (ap (drop 1) c))

-- an internal page, by its keys and children
pub inner_made : (x : List ℕ) (par j h : ℕ) (r : List (ℕ × ℕ)) → node_type x ≡ 0 → parent_of x ≡ par → next_leaf x ≡ j → 1 ≤ cell_count x → cell_count x ≤ 510
    → keys_of x ≡ seps r → children_of x ≡ kids h r → said x ≡ inner_page par j h r
inner_made x par j h r type parent next low high keys children =
    let c : kids (child_at x 0) (entries_of x) ≡ kids h r = sym (kids_of_lem x) ∙ children in
    let first : child_at x 0 ≡ h = ap (λ (l : List ℕ). get_or l 0 0) c in
    let rest : entries_of x ≡ r = pairs_same (entries_of x) r (sym (entries_of_lem x) ∙ keys) (ap (drop 1) c) in
    inner_said x type low high ∙ rw (parent, next, first, rest)

-- and the other way round
module _ (pg : List ℕ) (par j h : ℕ) (r : List (ℕ × ℕ)) (says : InnerSays pg par j h r) where
  pub says_keys : keys_of pg ≡ seps r
  says_keys = entries_of_lem pg ∙ ap seps says.entries

  pub says_children : children_of pg ≡ kids h r
  says_children = kids_of_lem pg ∙ rw (says.child, says.entries)

  pub says_count : length r ≡ cell_count pg
  says_count = sym (ap (λ (l : List (ℕ × ℕ)). length l) says.entries) ∙ entries_length 0 (cell_count pg) pg

-- ---- lists

map-take : (f : ℕ × ℕ → ℕ) (n : ℕ) (l : List (ℕ × ℕ)) → take n (map f l) ≡ map f (take n l)
map-take f zero l = refl
map-take f (suc n) [] = refl
map-take f (suc n) (x ∷ l) = ap (λ (m : List ℕ). f x ∷ m) (map-take f n l)

map-drop : (f : ℕ × ℕ → ℕ) (n : ℕ) (l : List (ℕ × ℕ)) → drop n (map f l) ≡ map f (drop n l)
map-drop f zero l = refl
map-drop f (suc n) [] = refl
map-drop f (suc n) (x ∷ l) = map-drop f n l

-- the children from the 256th on
kids_drop : (h : ℕ) (r : List (ℕ × ℕ)) → 255 < length r → drop 256 (kids h r) ≡ kids (get_or r 255 (0, 0)).1 (drop 256 r)
kids_drop h r more =
    drop-cons (ends r) 255 0 (rw length-map more)
    ∙ ap₂ (λ (c : ℕ) (l : List ℕ). c ∷ l) (get_or-map (λ (y : ℕ × ℕ). y.1) r 255 (0, 0)) (map-drop (λ y. y.1) 256 r)

all_drop : (P : ℕ → Type 0) (n : ℕ) (l : List ℕ) → All P l → All P (drop n l)
all_drop P zero l a = a
all_drop P (suc n) [] a = tt
all_drop P (suc n) (x ∷ l) a = all_drop P n l a.1

-- ---- a pair behind the child old, in entries and in lists of keys and children

module _ (old : ℕ) (e : ℕ × ℕ) where
  pub place-low : (h : ℕ) (r : List (ℕ × ℕ)) → has old h r ≡ true → child_place old (kids h r) ≤ length r
  unfolding first_where
  place-low h [] q = rw q (omega arith)
  place-low h (x ∷ r) q = by_first (eqb h old) refl (place-low x.1 r)
    where
      by_first : (b : Bool) → eqb h old ≡ b → (has old x.1 r ≡ true → first_where (λ c. eqb c old) (kids x.1 r) ≤ length r)
          → pick b 0 (suc (first_where (λ c. eqb c old) (kids x.1 r))) ≤ suc (length r)
      by_first true a ih = omega arith
      by_first false a ih = omega (arith, ih (rw a at q))

  ins_keys : (h : ℕ) (r : List (ℕ × ℕ)) → has old h r ≡ true → insert_at (child_place old (kids h r)) e.0 (seps r) ≡ seps (ins_after old e h r)
  unfolding first_where
  ins_keys h [] q = rw q
  ins_keys h (x ∷ r) q = by_first (eqb h old) refl (ins_keys x.1 r)
    where
      by_first : (b : Bool) → eqb h old ≡ b
          → (has old x.1 r ≡ true → insert_at (first_where (λ c. eqb c old) (kids x.1 r)) e.0 (seps r) ≡ seps (ins_after old e x.1 r))
          → insert_at (pick b 0 (suc (first_where (λ c. eqb c old) (kids x.1 r)))) e.0 (x.0 ∷ seps r) ≡ seps (pick b (e ∷ x ∷ r) (x ∷ ins_after old e x.1 r))
      by_first true a ih = refl
      by_first false a ih = ap (λ (l : List ℕ). x.0 ∷ l) (ih (rw a at q))

  ins_kids : (h : ℕ) (r : List (ℕ × ℕ)) → has old h r ≡ true → insert_at (suc (child_place old (kids h r))) e.1 (kids h r) ≡ kids h (ins_after old e h r)
  unfolding first_where
  ins_kids h [] q = rw q
  ins_kids h (x ∷ r) q = by_first (eqb h old) refl (ins_kids x.1 r)
    where
      by_first : (b : Bool) → eqb h old ≡ b
          → (has old x.1 r ≡ true → insert_at (suc (first_where (λ c. eqb c old) (kids x.1 r))) e.1 (kids x.1 r) ≡ kids x.1 (ins_after old e x.1 r))
          → insert_at (suc (pick b 0 (suc (first_where (λ c. eqb c old) (kids x.1 r))))) e.1 (h ∷ x.1 ∷ ends r)
          ≡ kids h (pick b (e ∷ x ∷ r) (x ∷ ins_after old e x.1 r))
      by_first true a ih = refl
      by_first false a ih = ap (λ (l : List ℕ). h ∷ l) (ih (rw a at q))

  ins_all : (P : ℕ → Type 0) (h : ℕ) (r : List (ℕ × ℕ)) → All P (kids h r) → P e.1 → All P (kids h (ins_after old e h r))
  ins_all P h [] a q = by_first (eqb h old)
    where
      by_first : (b : Bool) → All P (kids h (pick b (e ∷ []) []))
      by_first true = (a.0, (q, tt))
      by_first false = a
  ins_all P h (x ∷ r) a q = by_first (eqb h old) (ins_all P x.1 r a.1 q)
    where
      by_first : (b : Bool) → All P (kids x.1 (ins_after old e x.1 r)) → All P (kids h (pick b (e ∷ x ∷ r) (x ∷ ins_after old e x.1 r)))
      by_first true ih = (a.0, (q, a.1))
      by_first false ih = (a.0, ih)

  -- what holds of all children and of the new one holds of those that go
  pub moved_all : (P : ℕ → Type 0) (h : ℕ) (r : List (ℕ × ℕ)) → has old h r ≡ true → length r ≡ 510 → All P (kids h r) → P e.1
      → All P (kids (get_or (ins_after old e h r) 255 (0, 0)).1 (drop 256 (ins_after old e h r)))
  moved_all P h r q full a n =
      subst (λ (l : List ℕ). All P l) (kids_drop h (ins_after old e h r) (omega (arith, ins_length old e h r q)))
      (all_drop P 256 (kids h (ins_after old e h r)) (ins_all P h r a n))

-- ---- a page with room

module _ (i old sep new : ℕ) (pg : List ℕ) (par j h : ℕ) (r : List (ℕ × ℕ)) (is : IsPage pg) (says : InnerSays pg par j h r) (place : i ≡ place_in pg old)
    (child : has old h r ≡ true) (sep_fits : sep < 4294967296) (new-fits : new < 4294967296) where
  place_is : i ≡ child_place old (kids h r)
  place_is = place ∙ ap (child_place old) (says_children pg par j h r says)

  pub place_in_lem : i ≤ cell_count pg
  place_in_lem = rw (place_is, ← (says_count pg par j h r says)) (place-low old (sep, new) h r child)

  keys_after : insert_at i sep (keys_of pg) ≡ seps (ins_after old (sep, new) h r)
  keys_after = rw (place_is, says_keys pg par j h r says) (ins_keys old (sep, new) h r child)

  kids_after : insert_at (i + 1) new (children_of pg) ≡ kids h (ins_after old (sep, new) h r)
  kids_after = rw (place_is, add-one (child_place old (kids h r)), says_children pg par j h r says) (ins_kids old (sep, new) h r child)

  -- the bytes with the pair entered
  length-after : length (entered i sep new pg) ≡ 24 + 8 * cell_count pg
  length-after = length-entered i sep new pg is.1 says.high place_in_lem

  header_after : (w b : ℕ) → b + w ≤ 12 → le_at w (entered i sep new pg) b ≡ le_at w pg b
  header_after w b l = le_at-same w b b (entered i sep new pg) pg (entered-before i sep new pg is.1 says.high place_in_lem b w (omega arith))

  pub entry_long : cell_count pg < 510 → length (with_entry i sep new pg) ≡ 4096
  unfolding with_entry
  entry_long few = made_long (cell_count pg + 1) (entered i sep new pg) (omega (arith, length-after))

  pub said_entry : cell_count pg < 510 → said (with_entry i sep new pg) ≡ inner_page par j h (ins_after old (sep, new) h r)
  unfolding with_entry
  said_entry few =
      let x = entered i sep new pg in
      let fits : length x ≤ 4096 = omega (arith, length-after) in
      let n = cell_count pg + 1 in
      let all = entry_enters pg i sep new is sep_fits new-fits place_in_lem few in
      let count : cell_count (with_count n (pad 4096 x)) ≡ n = made_count n x fits (omega arith) in
      inner_made (with_count n (pad 4096 x)) par j h (ins_after old (sep, new) h r)
      (made_below n x fits 1 0 (omega arith) (omega (arith, length-after)) ∙ header_after 1 0 (omega arith) ∙ says.type)
      (made_below n x fits 4 2 (omega arith) (omega (arith, length-after)) ∙ header_after 4 2 (omega arith) ∙ says.parent)
      (all.2 ∙ says.next)
      (omega arith)
      (omega arith)
      (all.0 ∙ keys_after)
      (all.1 ∙ kids_after)

  -- ---- a full one

  module _ (full : cell_count pg ≡ 510) where
    abbrev R : List (ℕ × ℕ)
    R = ins_after old (sep, new) h r

    in₀ : i ≤ 510
    in₀ = omega (arith, place_in_lem)

    more : 255 < length R
    more = omega (arith, ins_length old (sep, new) h r child, says_count pg par j h r says)

    left-bytes : length (part 0 2056 (entered i sep new pg)) ≡ 2056
    left-bytes = length-left i sep new pg is.1 full in₀

    left_header : (w b : ℕ) → b + w ≤ 12 → le_at w (part 0 2056 (entered i sep new pg)) b ≡ le_at w pg b
    left_header w b l =
        le_at-part w 0 2056 (entered i sep new pg) b (omega arith) ∙ ap (le_at w (entered i sep new pg)) (zero-add b) ∙ header_after w b l

    pub said-left : said (left_half i sep new pg) ≡ inner_page par j h (take 255 R)
    unfolding left_half
    said-left =
        let x = part 0 2056 (entered i sep new pg) in
        let fits : length x ≤ 4096 = omega (arith, left-bytes) in
        let all = halves_divide pg i sep new is sep_fits new-fits in₀ full in
        let count : cell_count (with_count 255 (pad 4096 x)) ≡ 255 = made_count 255 x fits (omega arith) in
        inner_made (with_count 255 (pad 4096 x)) par j h (take 255 R)
        (made_below 255 x fits 1 0 (omega arith) (omega (arith, left-bytes)) ∙ left_header 1 0 (omega arith) ∙ says.type)
        (made_below 255 x fits 4 2 (omega arith) (omega (arith, left-bytes)) ∙ left_header 4 2 (omega arith) ∙ says.parent)
        (made_above 255 x fits 4 8 (omega arith) (omega (arith, left-bytes)) ∙ left_header 4 8 (omega arith) ∙ says.next)
        (omega arith)
        (omega arith)
        (all.0 ∙ ap (take 255) keys_after ∙ map-take (λ y. y.0) 255 R)
        (all.3 ∙ ap (take 256) kids_after ∙ ap (λ (l : List ℕ). h ∷ l) (map-take (λ y. y.1) 255 R))

    pub mid : middle_key i sep new pg ≡ (get_or R 255 (0, 0)).0
    mid =
        (halves_divide pg i sep new is sep_fits new-fits in₀ full).1
        ∙ ap (λ (l : List ℕ). get_or l 255 0) keys_after
        ∙ get_or-map (λ (y : ℕ × ℕ). y.0) R 255 (0, 0)

    right-bytes : length (part 0 12 (zeros 4096) ++ part 2060 2044 (entered i sep new pg)) ≡ 2056
    right-bytes =
        length_headed (zeros 4096) (part 2060 2044 (entered i sep new pg)) (length-replicate {A = ℕ} 4096 0)
        ∙ rw (length-right i sep new pg is.1 full in₀)

    right_header : (w b : ℕ) → b + w ≤ 12 → le_at w (part 0 12 (zeros 4096) ++ part 2060 2044 (entered i sep new pg)) b ≡ 0
    right_header w b l =
        headed_field (zeros 4096) (part 2060 2044 (entered i sep new pg)) (length-replicate {A = ℕ} 4096 0) w b l ∙ zero_number w 4096 b

    pub said-right : said (right_half i sep new pg (zeros 4096)) ≡ inner_page 0 0 (get_or R 255 (0, 0)).1 (drop 256 R)
    unfolding right_half
    said-right =
        let x = part 0 12 (zeros 4096) ++ part 2060 2044 (entered i sep new pg) in
        let fits : length x ≤ 4096 = omega (arith, right-bytes) in
        let all = halves_divide pg i sep new is sep_fits new-fits in₀ full in
        let count : cell_count (with_count 255 (pad 4096 x)) ≡ 255 = made_count 255 x fits (omega arith) in
        inner_made (with_count 255 (pad 4096 x)) 0 0 (get_or R 255 (0, 0)).1 (drop 256 R)
        (made_below 255 x fits 1 0 (omega arith) (omega (arith, right-bytes)) ∙ right_header 1 0 (omega arith))
        (made_below 255 x fits 4 2 (omega arith) (omega (arith, right-bytes)) ∙ right_header 4 2 (omega arith))
        (made_above 255 x fits 4 8 (omega arith) (omega (arith, right-bytes)) ∙ right_header 4 8 (omega arith))
        (omega arith)
        (omega arith)
        (all.2 ∙ ap (drop 256) keys_after ∙ map-drop (λ y. y.0) 256 R)
        (all.4 ∙ ap (drop 256) kids_after ∙ kids_drop h R more)

-- ---- a new top

-- over the bytes z of an internal page
module _ (left sep right : ℕ) (z : List ℕ) (len : length z ≡ 4096) where
  abbrev one : List ℕ
  one = with_count 1 (with_is_root 1 z)

  abbrev two : List ℕ
  two = put_at 4 one 12 left

  abbrev three : List ℕ
  three = put_at 4 two 16 (flip sep)

  pub top_long : length (top_page left sep right z) ≡ 4096
  unfolding top_page
  top_long = rw (length-put_at, length-put_at, length-put_at, length-put_at, length-put_at) len

  one-long : length one ≡ 4096
  one-long = rw (length-put_at, length-put_at) len

  -- fields before the children
  top_header : (w b : ℕ) → b + w ≤ 12 → le_at w (top_page left sep right z) b ≡ le_at w one b
  unfolding top_page
  top_header w b h =
      le_at-put_at-below w 4 three 20 right b (omega arith) ∙ le_at-put_at-below w 4 two 16 (flip sep) b (omega arith) ∙ le_at-put_at-below w 4 one 12 left b (omega arith)

  top_type : node_type (top_page left sep right z) ≡ node_type z
  top_type = top_header 1 0 (omega arith) ∙ le_at-put_at-below 1 2 (with_is_root 1 z) 6 1 0 (omega arith) ∙ le_at-put_at-below 1 1 z 1 1 0 (omega arith)

  top_parent : parent_of (top_page left sep right z) ≡ parent_of z
  top_parent = top_header 4 2 (omega arith) ∙ le_at-put_at-below 4 2 (with_is_root 1 z) 6 1 2 (omega arith) ∙ le_at-put_at_above 4 1 z 1 1 2 (omega arith)

  top_next : next_leaf (top_page left sep right z) ≡ next_leaf z
  top_next = top_header 4 8 (omega arith) ∙ le_at-put_at_above 4 2 (with_is_root 1 z) 6 1 8 (omega arith) ∙ le_at-put_at_above 4 1 z 1 1 8 (omega arith)

  top_count : cell_count (top_page left sep right z) ≡ 1
  top_count = top_header 2 6 (omega arith) ∙ le_at-put_at 2 (with_is_root 1 z) 6 1 (rw length-put_at (omega arith)) (omega arith)

  top_key : sep < 4294967296 → key_at (top_page left sep right z) 0 ≡ sep
  unfolding top_page key_at
  top_key s =
      let l : length two ≡ 4096 = length-put_at 4 one 12 left ∙ one-long in
      ap flip (le_at-put_at-below 4 4 three 20 right 16 (omega arith) ∙ le_at-put_at 4 two 16 (flip sep) (omega arith) (flip_less sep)) ∙ flip-flip sep s

  top_left : left < 4294967296 → child_at (top_page left sep right z) 0 ≡ left
  unfolding top_page child_at
  top_left l =
      le_at-put_at-below 4 4 three 20 right 12 (omega arith)
      ∙ le_at-put_at-below 4 4 two 16 (flip sep) 12 (omega arith)
      ∙ le_at-put_at 4 one 12 left (omega (arith, one-long)) l

  top_right : right < 4294967296 → child_at (top_page left sep right z) 1 ≡ right
  unfolding top_page child_at
  top_right r = le_at-put_at 4 three 20 right (rw (length-put_at, length-put_at) (omega (arith, one-long))) r

  pub said_over : node_type z ≡ 0 → left < 4294967296 → sep < 4294967296 → right < 4294967296
      → said (top_page left sep right z) ≡ inner_page (parent_of z) (next_leaf z) left ((sep, right) ∷ [])
  unfolding keys_from children_from
  said_over type l s r =
      let count = top_count in
      inner_made (top_page left sep right z) (parent_of z) (next_leaf z) left ((sep, right) ∷ []) (top_type ∙ type) top_parent top_next
      (omega arith)
      (omega arith)
      (rw (count, top_key s))
      (rw (count, top_left l, top_right r))

-- in a page of zeros
pub said_top : (left sep right : ℕ) → left < 4294967296 → sep < 4294967296 → right < 4294967296
    → said (top_page left sep right (zeros 4096)) ≡ inner_page 0 0 left ((sep, right) ∷ [])
said_top left sep right l s r =
    said_over left sep right (zeros 4096) (length-replicate {A = ℕ} 4096 0) (zero_number 1 4096 0) l s r ∙ rw (zero_number 4 4096 2, zero_number 4 4096 8)

-- in the page of a root that keeps its number
module _ (left sep right : ℕ) (pg : List ℕ) (len : length pg ≡ 4096) where
  abbrev bare : List ℕ
  bare = pad 4096 (part 0 12 pg)

  abbrev typed : List ℕ
  typed = with_node_type 0 bare

  head-long : length (part 0 12 pg) ≡ 12
  head-long = length_part 0 12 pg (omega arith)

  bare_long : length bare ≡ 4096
  bare_long = length-pad 4096 (part 0 12 pg) (omega (arith, head-long))

  ready-long : length (with_parent 0 typed) ≡ 4096
  ready-long = rw (length-put_at, length-put_at) bare_long

  bare_next : next_leaf (with_parent 0 typed) ≡ next_leaf pg
  bare_next =
      le_at-put_at_above 4 4 typed 2 0 8 (omega arith)
      ∙ le_at-put_at_above 4 1 bare 0 0 8 (omega arith)
      ∙ le_at-same 4 8 8 bare (part 0 12 pg) (part-pad 4096 8 4 (part 0 12 pg) (omega (arith, head-long)))
      ∙ le_at-part 4 0 12 pg 8 (omega arith)

  pub top_in_long : length (top_in left sep right pg) ≡ 4096
  top_in_long = top_long left sep right (with_parent 0 typed) ready-long

  pub said_top_in : left < 4294967296 → sep < 4294967296 → right < 4294967296 → said (top_in left sep right pg) ≡ inner_page 0 (next_leaf pg) left ((sep, right) ∷ [])
  said_top_in l s r =
      let type : node_type (with_parent 0 typed) ≡ 0 =
      le_at-put_at-below 1 4 typed 2 0 0 (omega arith) ∙ le_at-put_at 1 bare 0 0 (omega (arith, bare_long)) (omega arith) in
      let parent : parent_of (with_parent 0 typed) ≡ 0 = le_at-put_at 4 typed 2 0 (rw length-put_at (omega (arith, bare_long))) (omega arith) in
      said_over left sep right (with_parent 0 typed) ready-long type l s r ∙ rw (parent, bare_next)
