-- What the stores of an answer leave in the lent words, and what each call then gives. Assumes nothing.
use Rattle.std.proofs.Common.{Option, Some, None}
use Rattle.std.specs.Bool.{then_some}
use mathlib.Core.Path.{◌≡◌, refl, ap, ◌∙◌}
use mathlib.Core.Bool.{Bool, true, false}
use mathlib.Core.List.{List, [], ◌∷◌, ◌++◌, append_assoc}
use Prim.Native.Nat.{ℕ, ◌+◌, ◌<◌}
use native.Mathlib.Numerals.{add-one}
use native.Mathlib.Omega.{arith}
use lib.ListN.{length, set, length-append}
use lib.Seq.{set_split}
use Rattle.store.specs.Part.{put}
use Rattle.store.specs.Pick.{pick}
use Rattle.page.specs.declared.pool.State.{State}
use Rattle.row.specs.declared.Pointer.{Pointer}
use Rattle.row.specs.declared.Version.{Version}
use Rattle.call_answers.specs.Answer.{written, Written, Outcome}
use Rattle.call_read.specs.Find.{find_visible_call, find_call}
use Rattle.call_read.specs.Conflict.{conflict_call}
use Rattle.call_read.specs.Listings.{versions_of_call}
use Rattle.call_read.specs.Scan.{scan_visible_call}
use Rattle.port.specs.Words.{stamp_words, pointer_words, version_words, state_words, flag_words, count_words, Called, called, given, called_list, given_list}
use Rattle.mvcc.specs.Snapshot.{Statuses, snapshot}
use Rattle.store.proofs.PutLaws.{put_def, put-after_at, length-put}

-- ---- stores of words

pub set-put : (i v : ℕ) (s : List ℕ) → i < length s → set s i v ≡ put i (v ∷ []) s
set-put i v s h = set_split s i v h ∙ rw (put_def, add-one)

-- a word right after those stored
set_after : (a i v : ℕ) (x s : List ℕ) → i ≡ a + length x → i < length s → set (put a x s) i v ≡ put a (x ++ (v ∷ [])) s
set_after a i v x s e h =
    let l : length (put a x s) ≡ length s = length-put a x s (omega arith) in
    set-put i v (put a x s) (omega arith) ∙ put-after_at a i x (v ∷ []) s (omega arith) e

pub two-words : (i j v w : ℕ) (s : List ℕ) → j ≡ i + 1 → j < length s → set (set s i v) j w ≡ put i (v ∷ w ∷ []) s
two-words i j v w s e h = rw (set-put i v s (omega arith)) (set_after i j w (v ∷ []) s e h)

three-words : (i j k u v w : ℕ) (s : List ℕ) → j ≡ i + 1 → k ≡ i + 2 → k < length s → set (set (set s i u) j v) k w ≡ put i (u ∷ v ∷ w ∷ []) s
three-words i j k u v w s e f h = rw (two-words i j u v s e (omega arith)) (set_after i k w (u ∷ v ∷ []) s f h)

-- ---- a value that is there or not, by a flag

pub then_is : {A : Type 0} (b : Bool) (x : A) → then_some b x ≡ pick b (Some x) None
then_is true x = refl
then_is false x = refl

-- ---- a version

module _ (s : List ℕ) (room : length s ≡ 8) where
  pub stamp-absent : {x : Option ℕ} → x ≡ None → set (set s 1 0) 2 0 ≡ put 1 (stamp_words x) s
  stamp-absent e = two-words 1 2 0 0 s refl (omega arith) ∙ rw e

  pub stamp_by : {x : Option ℕ} {tx : ℕ} → x ≡ Some tx → set (set s 1 1) 2 tx ≡ put 1 (stamp_words x) s
  stamp_by {x} {tx} e = two-words 1 2 1 tx s refl (omega arith) ∙ rw e

  pub pointer-absent : {x : Option Pointer} → x ≡ None → set (set (set s 3 0) 4 0) 5 0 ≡ put 3 (pointer_words x) s
  pointer-absent e = three-words 3 4 5 0 0 0 s refl refl (omega arith) ∙ rw e

  pub pointer_at : {x : Option Pointer} {p : Pointer} → x ≡ Some p → set (set (set s 3 1) 4 p.page) 5 p.slot ≡ put 3 (pointer_words x) s
  pointer_at {x} {p} e = three-words 3 4 5 1 p.page p.slot s refl refl (omega arith) ∙ rw e

length-stamp : (x : Option ℕ) → length (stamp_words x) ≡ 2
length-stamp None = refl
length-stamp (Some t) = refl

length-pointer : (x : Option Pointer) → length (pointer_words x) ≡ 3
length-pointer None = refl
length-pointer (Some p) = refl

pub version_words_lem : (v : Version) (s : List ℕ) {s₁ s₂ : List ℕ} → length s ≡ 8 → s₁ ≡ put 1 (stamp_words v.stamp) (set s 0 v.creator)
    → s₂ ≡ put 3 (pointer_words v.pointer) s₁ → set (set s₂ 6 v.start) 7 v.len ≡ put 0 (version_words v) s
version_words_lem v s {s₁} {s₂} h e q =
    let C = v.creator ∷ [] in
    let S = stamp_words v.stamp in
    let P = pointer_words v.pointer in
    let D = v.start ∷ v.len ∷ [] in
    let m : length S ≡ 2 = length-stamp v.stamp in
    let n : length P ≡ 3 = length-pointer v.pointer in
    let l₁ : length (C ++ S) ≡ 3 = rw (length-append, m) in
    let l₂ : length ((C ++ S) ++ P) ≡ 6 = rw (length-append, l₁, n) in
    let f₁ : s₁ ≡ put 0 (C ++ S) s = e ∙ rw (set-put 0 v.creator s (omega arith)) (put-after_at 0 1 C S s (omega arith) refl) in
    let f₂ : s₂ ≡ put 0 ((C ++ S) ++ P) s = q ∙ rw f₁ (put-after_at 0 3 (C ++ S) P s (omega arith) (omega arith)) in
    let l₃ : length s₂ ≡ length s = rw f₂ (length-put 0 ((C ++ S) ++ P) s (omega arith)) in
    let f₃ : put 6 D s₂ ≡ put 0 (((C ++ S) ++ P) ++ D) s = rw f₂ (put-after_at 0 6 ((C ++ S) ++ P) D s (omega arith) (omega arith)) in
    let a : ((C ++ S) ++ P) ++ D ≡ C ++ (S ++ (P ++ D)) = simp append_assoc in
    two-words 6 7 v.start v.len s₂ refl (omega arith) ∙ f₃ ∙ ap (λ (x : List ℕ). put 0 x s) a

-- ---- other values

pub flag_put : (s : List ℕ) (b : Bool) (w : ℕ) → length s ≡ 8 → w ≡ pick b 1 0 → set s 0 w ≡ put 0 (flag_words b) s
flag_put s b w h q = rw (q, set-put 0 (pick b 1 0) s (omega arith))

pub state_put : (s : List ℕ) (st : State) → length s ≡ 8 → set (set s 0 st.root) 1 st.used ≡ put 0 (state_words st) s
state_put s st h = two-words 0 1 st.root st.used s refl (omega arith)

pub count_put : (s : List ℕ) (n : ℕ) → length s ≡ 8 → set s 0 n ≡ put 0 (count_words n) s
count_put s n h = set-put 0 n s (omega arith)

-- ---- what a call gives

-- the outcome that was given is the outcome of the definition
pub passed : {A : Type 0} (w : A → List ℕ) {o p : Outcome A} {x : Called} (old : List ℕ) → x ≡ given w o old → o ≡ p → x ≡ given w p old
passed w old e q = e ∙ rw q

-- the same of a listing, with the output that it left
pub passed_list : {o : Outcome ℕ} {w : Written (Outcome ℕ)} {n : ℕ} {t out : List ℕ} (old : List ℕ) → called n t ≡ given count_words o old → written o out ≡ w
    → called_list n t out ≡ given_list w old
passed_list {o} {w} {n} {t} {out} old e q = ap (λ (x : Called). called_list x.number x.words out) e ∙ ap (λ (x : Written (Outcome ℕ)). given_list x old) q

-- ---- a call asked with an equal key and an equal current transaction

module _ (s : List ℕ) (st : State) {k l : ℕ} {x y : Option ℕ} (key : k ≡ l) (cur : x ≡ y) where
  pub visible_asked : (xmax : ℕ) (active : List ℕ) (ss : Statuses) → find_visible_call s st k (snapshot xmax active x) ss ≡ find_visible_call s st l (snapshot xmax active y) ss
  visible_asked xmax active ss = rw (key, cur)

  pub find_asked : (ss : Statuses) → find_call s st k x ss ≡ find_call s st l y ss
  find_asked ss = rw (key, cur)

  pub conflict_asked : (seen xmax : ℕ) (active : List ℕ) → conflict_call s st k (snapshot xmax active x) seen ≡ conflict_call s st l (snapshot xmax active y) seen
  conflict_asked seen xmax active = rw (key, cur)

module _ (s : List ℕ) (st : State) (out : List ℕ) where
  pub versions_asked : {k l : ℕ} → k ≡ l → versions_of_call s st k out ≡ versions_of_call s st l out
  versions_asked key = rw key

  pub scan_asked : {x y : Option ℕ} (xmax : ℕ) (active : List ℕ) (ss : Statuses) → x ≡ y
      → scan_visible_call s st (snapshot xmax active x) ss out ≡ scan_visible_call s st (snapshot xmax active y) ss out
  scan_asked xmax active ss cur = rw cur
