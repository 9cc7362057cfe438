-- A queue of well-formed frames of both widths, in its bytes.
-- Assumes nothing.
use Prim.Native.Nat.{ℕ, ◌+◌, ◌≤◌, ◌<◌}
use native.Mathlib.Omega.{arith}
use mathlib.Core.Path.{◌≡◌, refl, sym, ap, ◌∙◌}
use mathlib.Core.Bool.{true}
use mathlib.Core.List.{List}
use lib.Dec.{ltb, leb, eqb}
use lib.ListN.{length, take, drop, get_or}
use lib.Seq.{get_or-take}
use borrow.Author.Tests.{lt-ltb, eqb-true}
use Rattle.laws.specs.Lists.{every, overlay}
use Rattle.laws.proofs.Numbers.{and_right}
use Rattle.laws.proofs.Lists.{every-of-index, every_take}
use Rattle.model.specs.Setup.{width}
use Rattle.model.specs.Frame.{Frame, two_at, encode, well_formed, frame_end, payload_count_at}
use Rattle.model.specs.Question.{first_no}
use Rattle.model.specs.Holdback.{cut_by, encode_frames}
use Rattle.model.specs.Schedule.{Schedule}
use Rattle.model.specs.Wider.{half_in, wider_formed, wider_decode, wider_end, wider_frame_questions, wider_held_bytes, wider_held, wider_passes}
use Rattle.lemmas.specs.Standing.{left_by, end_by, StandingBy}
use Rattle.lemmas.proofs.RoundTrip.{none-no}
use Rattle.lemmas.proofs.FrameWalk.{stand, cut-take, left-take}
use Rattle.lemmas.proofs.WideFrames.{wide-encode, length-wide-held}
use Rattle.holdback.specs.Queue.{Written}
use Rattle.holdback.proofs.RoundTrip.{Bytes}
use Rattle.holdback.proofs.Frames.{formed-inside}
use Rattle.widerqueue.specs.Queue.{Spans}
use Rattle.widerqueue.proofs.Standing.{written_at, written-front}

-- ---- one frame

end-far : (half : ℕ) (l : List ℕ) → 4 < frame_end half l
unfolding frame_end payload_count_at
end-far half l = omega arith

-- its own bytes say its width
half-own : (g : Schedule) (l : List ℕ) → half_in g (take (wider_end g l) l) ≡ half_in g l
unfolding wider_end
half-own g l = rw (get_or-take (frame_end (half_in g l) l) l 4 0 (end-far (half_in g l) l))

-- it ends within what it stands in
pub wide-inside : (g : Schedule) (l : List ℕ) → wider_formed g (take (wider_end g l) l) ≡ true → wider_end g l ≤ length l
unfolding wider_formed wider_end
wide-inside g l h =
    formed-inside (half_in g l) l (sym (ap (λ (half : ℕ). well_formed half (take (frame_end (half_in g l) l) l)) (half-own g l)) ∙ h)

pub bytes_small : (s : List ℕ) → Bytes s → every (λ b. ltb b 256) s ≡ true
bytes_small s bytes = every-of-index (λ b. ltb b 256) s 0 (λ i below. lt-ltb (get_or s i 0) 256 (bytes i))

pub wide_back : (g : Schedule) (l : List ℕ) → Bytes l → wider_formed g l ≡ true → encode (wider_decode g l) ≡ l
wide_back g l bytes h = wide-encode g l (bytes_small l bytes) h

-- what passes 10 to 12 is well-formed
pub passes-formed : (g : Schedule) (l : List ℕ) → wider_passes g l ≡ true → wider_formed g l ≡ true
unfolding wider_passes wider_frame_questions
passes-formed g l h = (none-no (wider_formed g l) 9 _ (eqb-true (first_no (wider_frame_questions g l)) 0 h)).0

-- its counts end within it
pub formed-counts : (g : Schedule) (l : List ℕ) → wider_formed g l ≡ true → payload_count_at (half_in g l) ≤ length l
unfolding wider_formed well_formed frame_end
formed-counts g l h =
    let half : ℕ = half_in g l in
    let later = and_right (eqb (get_or l 0 0) 3) _ h in
    let size : length l ≡ payload_count_at half + 1 + get_or l (payload_count_at half) 0 =
    eqb-true (length l) (payload_count_at half + 1 + get_or l (payload_count_at half) 0) (and_right (leb (get_or l (payload_count_at half) 0) 32) _ (and_right (eqb (get_or l 4 0) (1 + width half)) _ later)) in
    omega arith

-- ---- all of them

-- the frames from a front on
pub held-left : (g : Schedule) (b : List ℕ) → wider_held g b ≡ left_by (wider_end g) (wider_decode g) b 2 (two_at b 0)
unfolding wider_held wider_held_bytes
held-left g b = refl

pub held-take : (g : Schedule) (b : List ℕ) (k : ℕ) → k ≤ two_at b 0 → take k (wider_held g b) ≡ left_by (wider_end g) (wider_decode g) b 2 k
unfolding wider_held wider_held_bytes
held-take g b k h = left-take (wider_end g) (wider_decode g) k (two_at b 0) (drop 2 b) h

module _ (g : Schedule) (b : List ℕ) (formed : every (wider_formed g) (wider_held_bytes g b) ≡ true) (two : 2 ≤ length b) where
  stand-formed : StandingBy (wider_end g) (wider_formed g) b 2 (two_at b 0)
  unfolding wider_held_bytes
  stand-formed = stand (wider_end g) (wider_formed g) (wide-inside g) b 2 (two_at b 0) two formed

  some-formed : (k : ℕ) → k ≤ two_at b 0 → every (wider_formed g) (cut_by (wider_end g) k (drop 2 b)) ≡ true
  unfolding wider_held_bytes
  some-formed k h =
      sym (ap (every (wider_formed g)) (cut-take (wider_end g) k (two_at b 0) (drop 2 b) h)) ∙ every_take (wider_formed g) k (wider_held_bytes g b) formed

  stand-some : (k : ℕ) → k ≤ two_at b 0 → StandingBy (wider_end g) (wider_formed g) b 2 k
  stand-some k h = stand (wider_end g) (wider_formed g) (wide-inside g) b 2 k two (some-formed k h)

  -- where frame k starts, and all of them as they are written
  pub starts-written : Bytes b → (k : ℕ) → k ≤ two_at b 0 → end_by (wider_end g) b 2 k ≡ length (encode_frames (take k (wider_held g b)))
  starts-written bytes k h =
      written_at (wider_end g) (wider_decode g) (wider_formed g) (wide_back g) b bytes two k (some-formed k h) (stand-some k h).inside
      ∙ ap (λ (q : List Frame). length (encode_frames q)) (sym (held-take g b k h))

  pub front-written : Bytes b → b ≡ overlay (encode_frames (wider_held g b)) b
  unfolding wider_held_bytes
  front-written bytes =
      written-front (wider_end g) (wider_decode g) (wider_formed g) (wide_back g) b bytes two formed stand-formed.inside
      ∙ ap (λ (q : List Frame). overlay (encode_frames q) b) (sym (held-left g b))

-- what a change is told of a queue, as the changes of any frames want it
pub spans-written : {g : Schedule} {b : List ℕ} {count stop index at : ℕ} → Spans g b count stop index at → Bytes b → Written (wider_held g b) b count stop index at
spans-written {g} {b} known bytes =
    record {
      front = front-written g b known.formed known.two bytes;
      count-is = known.count-is ∙ sym (length-wide-held g b);
      ends = known.ends;
      inside = known.inside;
      starts = known.starts;
    }
