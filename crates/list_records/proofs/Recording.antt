-- A record is written by three stores. Assumes nothing.
use mathlib.Core.Path.{◌≡◌, ap, ◌∙◌}
use mathlib.Core.List.{List, ◌++◌, append_assoc}
use Prim.Native.Nat.{ℕ, ◌+◌, ◌≤◌}
use native.Mathlib.Omega.{arith}
use lib.ListN.{length, length-append}
use Rattle.store.specs.Le.{bytes_le, put_at}
use Rattle.store.specs.Part.{put}
use Rattle.row.specs.Write.{record_bytes}
use Rattle.store.proofs.LeLaws.{length-bytes_le}
use Rattle.store.proofs.PutLaws.{put_at-put, put-field, put-after_at}

pub record-written : (o kind : ℕ) (x s : List ℕ) {s₁ s₂ r : List ℕ} → o + (6 + length x) ≤ length s → s₁ ≡ put_at 4 s o (length x + 2) → s₂ ≡ put_at 2 s₁ (o + 4) kind
    → r ≡ put (o + 6) x s₂
    → r ≡ put o (record_bytes kind x) s
unfolding record_bytes
record-written o kind x s h e₁ e₂ e₃ =
    let n : length x + 2 ≡ 2 + length x = omega arith in
    let l : o + 4 ≡ o + length (bytes_le 4 (2 + length x)) = rw length-bytes_le in
    let m : o + 6 ≡ o + length (bytes_le 4 (2 + length x) ++ bytes_le 2 kind) = rw (length-append, length-bytes_le, length-bytes_le) in
    e₃
    ∙ rw (e₂, e₁, n, put_at-put 4 o (2 + length x) s (omega arith), put-field 2 o (o + 4) kind (bytes_le 4 (2 + length x)) s l (omega arith), put-after_at o (o + 6) (bytes_le 4 (2 + length x) ++ bytes_le 2 kind) x s (omega arith) m)
    (ap (λ (y : List ℕ). put o y s) (append_assoc (bytes_le 4 (2 + length x)) (bytes_le 2 kind) x))
