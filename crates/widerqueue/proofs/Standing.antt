-- Frames of any form that stand in a buffer, each well-formed by a test of its bytes: they are written there from the front on.
-- Assumes nothing.
use Prim.Native.Nat.{ℕ, zero, suc, ◌+◌, ◌-◌, ◌≤◌}
use native.Mathlib.Omega.{arith}
use mathlib.Core.Path.{◌≡◌, sym, ap, ap₂, ◌∙◌}
use mathlib.Core.Bool.{Bool, true, ◌&&◌}
use mathlib.Core.List.{List, ◌∷◌, ◌++◌, append_assoc}
use lib.ListN.{length, take, drop, length-drop, length-map, take-append-drop}
use lib.Seq.{drop-drop, take-add, length-take-le}
use Rattle.laws.specs.Lists.{every, joined, overlay}
use Rattle.laws.proofs.Numbers.{and_left, and_right}
use Rattle.model.specs.Frame.{Frame, two_bytes, two_at, encode}
use Rattle.model.specs.Holdback.{cut_by, encode_frames}
use Rattle.lemmas.specs.Standing.{left_by, end_by}
use Rattle.lemmas.proofs.RoundTrip.{length-cut-by}
use Rattle.lemmas.proofs.FrameWalk.{bytes_by, next_by, cut-more, left-more, end_none, end_more, end_low}
use Rattle.holdback.proofs.RoundTrip.{Bytes, front-two}
use Rattle.holdback.proofs.Frames.{bytes_take, bytes_drop}

-- ---- the frames before one, itself, and those behind it

pub cut-split : (end : List ℕ → ℕ) (b : List ℕ) (i k n at : ℕ) → n ≡ i + suc k
    → cut_by end n (drop at b)
    ≡ cut_by end i (drop at b) ++ (bytes_by end b (end_by end b at i) ∷ cut_by end k (drop (next_by end b (end_by end b at i)) b))
unfolding cut_by end_by
cut-split end b i k zero at e = absurd (omega arith)
cut-split end b zero k (suc n) at e =
    let same : n ≡ k = omega arith in
    ap (λ (m : ℕ). cut_by end (suc m) (drop at b)) same ∙ cut-more end b at k
cut-split end b (suc i) k (suc n) at e =
    cut-more end b at n
    ∙ ap (λ (l : List (List ℕ)). bytes_by end b at ∷ l) (cut-split end b i k n (next_by end b at) (omega arith))
    ∙ ap (λ (l : List (List ℕ)). l ++ (bytes_by end b (end_by end b (next_by end b at) i) ∷ cut_by end k (drop (next_by end b (end_by end b (next_by end b at) i)) b)))
    (sym (cut-more end b at i))

-- ---- their bytes

module _ (end : List ℕ → ℕ) (decode : List ℕ → Frame) (test : List ℕ → Bool) (back : (l : List ℕ) → Bytes l → test l ≡ true → encode (decode l) ≡ l) where
  joined-left : (b : List ℕ) → Bytes b → (at k : ℕ) → every test (cut_by end k (drop at b)) ≡ true
      → joined encode (left_by end decode b at k) ≡ take (end_by end b at k - at) (drop at b)
  unfolding joined cut_by every
  joined-left b bytes at zero each =
      let e : 0 ≡ end_by end b at 0 - at = omega (arith, end_none end b at) in
      ap (λ (n : ℕ). take n (drop at b)) e
  joined-left b bytes at (suc k) each =
      let size : ℕ = end (drop at b) in
      let next : ℕ = next_by end b at in
      let two : (test (bytes_by end b at) && every test (cut_by end k (drop next b))) ≡ true = both b at k each in
      let own : encode (decode (bytes_by end b at)) ≡ bytes_by end b at =
      back (bytes_by end b at) (bytes_take size (drop at b) (bytes_drop at b bytes)) (and_left (test (bytes_by end b at)) _ two) in
      let all : size + (end_by end b next k - next) ≡ end_by end b at (suc k) - at = omega (arith, end_low end b next k, end_more end b at k) in
      ap (joined encode) (left-more end decode b at k)
      ∙ ap₂ ◌++◌ own (joined-left b bytes next k (and_right (test (bytes_by end b at)) _ two) ∙ ap (take (end_by end b next k - next)) (sym (drop-drop size at b)))
      ∙ sym (take-add size (end_by end b next k - next) (drop at b))
      ∙ ap (λ (n : ℕ). take n (drop at b)) all
    where
      both : (b : List ℕ) (at k : ℕ) → every test (cut_by end (suc k) (drop at b)) ≡ true → (test (bytes_by end b at) && every test (cut_by end k (drop (next_by end b at) b))) ≡ true
      both b at k h = sym (ap (every test) (cut-more end b at k)) ∙ h

  module _ (b : List ℕ) (bytes : Bytes b) (two : 2 ≤ length b) where
    -- where the first k of them end
    pub written_at : (k : ℕ) → every test (cut_by end k (drop 2 b)) ≡ true → end_by end b 2 k ≤ length b
        → end_by end b 2 k ≡ length (encode_frames (left_by end decode b 2 k))
    unfolding encode_frames two_bytes
    written_at k each inside =
        let long : length (joined encode (left_by end decode b 2 k)) ≡ end_by end b 2 k - 2 =
        ap length (joined-left b bytes 2 k each) ∙ length-take-le (end_by end b 2 k - 2) (drop 2 b) (omega (arith, length-drop 2 b)) in
        omega (arith, end_low end b 2 k)

    -- all of them, as they are written
    pub written-front : every test (cut_by end (two_at b 0) (drop 2 b)) ≡ true → end_by end b 2 (two_at b 0) ≤ length b
        → b ≡ overlay (encode_frames (left_by end decode b 2 (two_at b 0))) b
    unfolding overlay encode_frames
    written-front each inside =
        let n : ℕ = two_at b 0 in
        let q : List Frame = left_by end decode b 2 n in
        let stop : ℕ = end_by end b 2 n in
        let number : length q ≡ n = length-map (cut_by end n (drop 2 b)) decode ∙ length-cut-by end n (drop 2 b) in
        let behind : drop (stop - 2) (drop 2 b) ≡ drop (length (encode_frames q)) b =
        drop-drop (stop - 2) 2 b
        ∙ ap (λ (m : ℕ). drop m b) (let e : 2 + (stop - 2) ≡ length (encode_frames q) = omega (arith, written_at n each inside, end_low end b 2 n) in e) in
        sym (take-append-drop 2 b)
        ∙ ap₂ ◌++◌ (front-two b bytes two ∙ ap two_bytes (sym number)) (sym (take-append-drop (stop - 2) (drop 2 b)) ∙ ap₂ ◌++◌ (sym (joined-left b bytes 2 n each)) behind)
        ∙ sym (append_assoc (two_bytes (length q)) (joined encode q) (drop (length (encode_frames q)) b))
