-- 02, 2.9: where an engine's frame ends among other bytes, and how long what it holds is written.
-- Assumes nothing.
use Prim.Native.Nat.{ℕ, ◌+◌, ◌≤◌, ◌<◌}
use native.Mathlib.Omega.{arith}
use mathlib.Core.Path.{◌≡◌, sym, ◌∙◌}
use mathlib.Core.Bool.{true}
use mathlib.Core.List.{List}
use lib.ListN.{length, take, get_or, length-take}
use lib.Seq.{get_or-drop, get_or-take}
use Rattle.model.specs.Setup.{width}
use Rattle.model.specs.Frame.{payload_count_at, frame_end}
use Rattle.model.specs.Long.{six_on, long_encode, long_frame_end, long_formed, long_decode, longest_long}
use Rattle.lemmas.proofs.RoundTrip.{later-wide, later-payload}
use Rattle.lemmas.proofs.LongFrames.{long-formed-from, length-long}

-- the length of a well-formed frame: its counts say it, and it has its bounds
pub record LongSize (epsilon : ℕ) (s : List ℕ) : Type 0 where
  pub ends : length s ≡ long_frame_end epsilon s
  pub shortest : 13 + width epsilon ≤ length s
  pub longest : length s ≤ longest_long epsilon

pub long-size : (epsilon : ℕ) (s : List ℕ) → long_formed epsilon s ≡ true → LongSize epsilon s
unfolding long_frame_end frame_end payload_count_at longest_long
long-size epsilon s h =
    let o = long-formed-from epsilon s h in
    record {
      ends = omega (arith, o.later.size);
      shortest = omega (arith, o.later.size);
      longest = omega (arith, o.later.size, o.later.third);
    }

-- where a frame ends is told by one byte
end_by_lem : (epsilon : ℕ) (a b : List ℕ) → get_or (six_on a) (payload_count_at epsilon) 0 ≡ get_or (six_on b) (payload_count_at epsilon) 0 → long_frame_end epsilon a ≡ long_frame_end epsilon b
unfolding long_frame_end frame_end
end_by_lem epsilon a b e = rw e

pub long-end-past : (epsilon : ℕ) (t : List ℕ) → 6 + payload_count_at epsilon < long_frame_end epsilon t
unfolding long_frame_end frame_end
long-end-past epsilon t = omega arith

-- so the front up to there ends there too
pub long-end-front : (epsilon : ℕ) (t : List ℕ) → long_frame_end epsilon (take (long_frame_end epsilon t) t) ≡ long_frame_end epsilon t
long-end-front epsilon t =
    let e : ℕ = long_frame_end epsilon t in
    end_by_lem epsilon (take e t) t
    (get_or-drop 6 (take e t) (payload_count_at epsilon) 0
    ∙ get_or-take e t (6 + payload_count_at epsilon) 0 (long-end-past epsilon t)
    ∙ sym (get_or-drop 6 t (payload_count_at epsilon) 0))

-- and where it is well-formed, it ends within the bytes
pub long-end-inside : (epsilon : ℕ) (t : List ℕ) → long_formed epsilon (take (long_frame_end epsilon t) t) ≡ true → long_frame_end epsilon t ≤ length t
long-end-inside epsilon t h =
    let e : ℕ = long_frame_end epsilon t in
    omega (arith, (long-size epsilon (take e t) h).ends, long-end-front epsilon t, length-take e t)

-- what a well-formed frame holds is written as long as it was, whatever its bytes are
module _ (epsilon : ℕ) (s : List ℕ) (formed : long_formed epsilon s ≡ true) where
  pub long-decoded-wide : length (long_decode epsilon s).stamp.kn ≡ width epsilon
  unfolding long_decode
  long-decoded-wide = later-wide epsilon (six_on s) (long-formed-from epsilon s formed).later

  pub long-decoded-length : length (long_encode (long_decode epsilon s)) ≡ length s
  unfolding long_decode
  long-decoded-length =
      let o = long-formed-from epsilon s formed in
      omega (arith, length-long epsilon (long_decode epsilon s) long-decoded-wide, long-decoded-wide, later-payload epsilon (six_on s) o.later, o.later.size)
