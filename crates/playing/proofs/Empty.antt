-- The empty hold-back queue: zeros alone. Assumes nothing.
use Prim.Native.Nat.{ℕ, ◌+◌, ◌-◌, ◌≤◌}
use native.Mathlib.Omega.{arith}
use mathlib.Core.Path.{◌≡◌, sym, ap, ◌∙◌}
use mathlib.Core.List.{[], ◌++◌}
use lib.ListN.{length, take, replicate, length-replicate, replicate-append-replicate}
use lib.Seq.{take-append_seam}
use Rattle.model.specs.Setup.{Setup, holdback_length}
use Rattle.model.specs.Holdback.{encode_holdback}
use Rattle.model.specs.Tick.{holdback_size}
use Rattle.splice.specs.Bytes.{zeros}
use Rattle.holdback.proofs.Changes.{all-cleared, cleared-empty}

take-zeros : (n m : ℕ) → n ≤ m → take n (replicate m 0) ≡ zeros n
take-zeros n m h =
    let all : n + (m - n) ≡ m = omega arith in
    let whole : zeros n ++ zeros (m - n) ≡ zeros m = replicate-append-replicate n (m - n) 0 ∙ ap zeros all in
    ap (take n) (sym whole)
    ∙ ap (λ (k : ℕ). take k (zeros n ++ zeros (m - n))) (sym (length-replicate {A = ℕ} n 0))
    ∙ take-append_seam (zeros n) (zeros (m - n))

zeros-are : (s : Setup) → zeros (holdback_size s) ≡ encode_holdback (holdback_size s) []
unfolding holdback_length
zeros-are s =
    let n : ℕ = holdback_size s in
    let long : length (zeros n) ≡ n = length-replicate {A = ℕ} n 0 in
    ap zeros (sym long)
    ∙ sym (all-cleared (zeros n))
    ∙ cleared-empty (zeros n) (omega arith)
    ∙ ap (λ (k : ℕ). encode_holdback k []) long

pub queue-empty : (s : Setup) (n m : ℕ) → n ≡ holdback_size s → n ≤ m → take n (replicate m 0) ≡ encode_holdback (holdback_size s) []
queue-empty s n m e h = take-zeros n m h ∙ ap zeros e ∙ zeros-are s

pub empty-long : (s : Setup) → length (encode_holdback (holdback_size s) []) ≡ holdback_size s
empty-long s = ap length (sym (zeros-are s)) ∙ length-replicate {A = ℕ} (holdback_size s) 0
