-- The frames of a delivery, by their positions, and their give lines. Assumes nothing.
use Prim.Native.Nat.{ℕ, zero, suc, ◌+◌, ◌-◌, ◌≤◌, ◌<◌}
use mathlib.Core.Path.{◌≡◌, refl, ap}
use mathlib.Core.Bool.{true, false, ◌&&◌}
use mathlib.Core.List.{List, [], ◌++◌, map}
use native.Mathlib.Omega.{arith}
use lib.Dec.{leb}
use lib.ListN.{length, take, drop, get_or, length-append, length-drop}
use lib.Seq.{take_all, get_or-drop, drop-drop}
use borrow.Author.Tests.{le-leb, lt-leb, leb-true}
use Rattle.laws.specs.Lists.{every}
use Rattle.laws.proofs.Numbers.{same_test, and_left, and_right}
use Rattle.model.specs.Setup.{Setup, in_limits, width}
use Rattle.model.specs.Frame.{Frame, two_at, payload_count_at, frame_end, decode}
use Rattle.model.specs.Holdback.{cut_frames, cut_by, held_bytes, held, passes}
use Rattle.model.specs.Comparison.{Comparison, compared}
use Rattle.lemmas.proofs.Comparing.{same-reason}
use Rattle.trace.specs.Text.{give_line, give_text, give_after, gives_after, gives_of, give_lines, frame_bytes, frame_from}
use Rattle.trace.specs.Views.{Two}

-- ---- the frame at a position

-- all that stands from a position on
pub all_from : (s : List ℕ) (at : ℕ) → take (length s) (drop at s) ≡ drop at s
all_from s at = take_all (length s) (drop at s) (simp length-drop (omega arith))

-- the frame has at most 512 bytes
pub end-most : (epsilon : ℕ) (s : List ℕ) (at : ℕ) → epsilon ≤ 16 → ((i : ℕ) → get_or s i 0 < 256) → frame_end epsilon (drop at s) ≤ 512
unfolding frame_end payload_count_at width
end-most epsilon s at h bytes =
    omega (arith, get_or-drop at s (payload_count_at epsilon) 0, bytes (at + payload_count_at epsilon))

pub decoded : (epsilon : ℕ) (s : List ℕ) (at : ℕ) (frame : List ℕ) → frame ≡ frame_bytes epsilon s at → decode epsilon frame ≡ frame_from epsilon s at
unfolding frame_from
decoded epsilon s at frame e = ap (decode epsilon) e

-- its give line after that of another, of what stands in its bytes
pub give_at : (s : Setup) (v : ℕ) (bytes : List ℕ) (last at station r : ℕ) (frame payload : List ℕ) (c : Comparison)
    → c ≡ compared s v (frame_from s.epsilon bytes last) (frame_from s.epsilon bytes at)
    → frame ≡ frame_bytes s.epsilon bytes at → station ≡ (decode s.epsilon frame).station → r ≡ (decode s.epsilon frame).stamp.r
    → payload ≡ (decode s.epsilon frame).payload
    → give_text station r payload c.reason ≡ give_after s v (frame_from s.epsilon bytes last) (frame_from s.epsilon bytes at)
unfolding give_after give_line
give_at s v bytes last at station r frame payload c ec e f g h =
    let here : decode s.epsilon frame ≡ frame_from s.epsilon bytes at = decoded s.epsilon bytes at frame e in
    rw (f, g, h, here, ec)

-- ... and its payload is no longer than they are
pub payload-most : (epsilon : ℕ) (frame payload : List ℕ) → payload ≡ (decode epsilon frame).payload → length payload ≤ length frame
unfolding decode
payload-most epsilon frame payload e = omega (arith, ap length e, length-drop (payload_count_at epsilon + 1) frame)

-- ---- the give lines of the frames from a position on

module _ (s : Setup) (v : ℕ) (bytes : List ℕ) where
  abbrev at_position : ℕ → Frame
  at_position at = frame_from s.epsilon bytes at

  -- one for each of `k` frames, the first after that of the frame at `last`
  unfoldable pub give_lines_from : ℕ → ℕ → ℕ → List ℕ
  give_lines_from k last at = gives_after s v (at_position last) (map (decode s.epsilon) (cut_frames s.epsilon k (drop at bytes)))

  -- the first frame has a dash, and so it would have after itself
  first-itself : (k : ℕ) → gives_of s v (map (decode s.epsilon) (cut_frames s.epsilon k (drop 2 bytes))) ≡ give_lines_from k 2 2
  unfolding give_lines_from cut_frames cut_by gives_of gives_after give_after frame_from frame_bytes
  first-itself zero = refl
  first-itself (suc k) =
      rw (same-reason s v (decode s.epsilon (take (frame_end s.epsilon (drop 2 bytes)) (drop 2 bytes))))

  pub give_all : give_lines s v bytes ≡ give_lines_from (two_at bytes 0) 2 2
  unfolding give_lines held held_bytes
  give_all = first-itself (two_at bytes 0)

  pub give-none : (k last at : ℕ) → k ≡ 0 → give_lines_from k last at ≡ []
  unfolding give_lines_from cut_frames cut_by gives_after
  give-none k last at e = rw e

  pub give-one : (left k last at next : ℕ) → left ≡ suc k → next ≡ at + frame_end s.epsilon (drop at bytes)
      → give_lines_from left last at ≡ give_after s v (at_position last) (at_position at) ++ give_lines_from k at next
  unfolding give_lines_from cut_frames cut_by gives_after frame_from frame_bytes
  give-one left k last at next e f = rw (e, f, ← drop-drop (frame_end s.epsilon (drop at bytes)) at bytes)

  -- ---- each of them passes 10 to 12

  pub record Passing (k last at : ℕ) : Type 0 where
    pub rest : every (passes s) (cut_frames s.epsilon k (drop at bytes)) ≡ true
    pub latest : 0 < k → passes s (frame_bytes s.epsilon bytes last) ≡ true

  passing-head : (left k at : ℕ) → left ≡ suc k → every (passes s) (cut_frames s.epsilon left (drop at bytes)) ≡ true
      → (passes s (frame_bytes s.epsilon bytes at) && every (passes s) (cut_frames s.epsilon k (drop (frame_end s.epsilon (drop at bytes)) (drop at bytes)))) ≡ true
  unfolding cut_frames cut_by every frame_bytes
  passing-head left k at e h = rw e at h

  pub passing-here : (left k last at : ℕ) → left ≡ suc k → Passing left last at → passes s (frame_bytes s.epsilon bytes at) ≡ true
  passing-here left k last at e p = and_left (passes s (frame_bytes s.epsilon bytes at)) _ (passing-head left k at e p.rest)

  pub passing-start : (k : ℕ) → k ≡ two_at bytes 0 → every (passes s) (held_bytes s.epsilon bytes) ≡ true → Passing k 2 2
  unfolding held_bytes
  passing-start k e h =
      let all : every (passes s) (cut_frames s.epsilon k (drop 2 bytes)) ≡ true = rw e h in
      record {
        rest = all;
        latest = λ some. and_left (passes s (frame_bytes s.epsilon bytes 2)) _ (passing-head k (k - 1) 2 (omega arith) all);
      }

  pub passing-next : (left k last at next : ℕ) → left ≡ suc k → next ≡ at + frame_end s.epsilon (drop at bytes) → Passing left last at → Passing k at next
  passing-next left k last at next e f p =
      record {
        rest = rw (f, ← drop-drop (frame_end s.epsilon (drop at bytes)) at bytes) (and_right (passes s (frame_bytes s.epsilon bytes at)) _ (passing-head left k at e p.rest));
        latest = λ some. passing-here left k last at e p;
      }

  pub two-of : in_limits s ≡ true → v < s.modulus → (left k last at : ℕ) → left ≡ suc k → Passing left last at → Two s v bytes last at
  two-of limits below left k last at e p =
      record {
        limits = limits;
        below = below;
        last-passes = p.latest (omega arith);
        passes-here = passing-here left k last at e p;
      }

-- ---- whether so many bytes are enough for them

pub fit-one : (line rest : List ℕ) (size room : ℕ) → size ≡ length line → size ≤ room → leb (length (line ++ rest)) room ≡ leb (length rest) (room - size)
fit-one line rest size room e h =
    same_test (leb (length (line ++ rest)) room) (leb (length rest) (room - size))
    (λ t. le-leb (length rest) (room - size) (omega (arith, leb-true (length (line ++ rest)) room t, length-append line rest)))
    (λ t. le-leb (length (line ++ rest)) room (omega (arith, leb-true (length rest) (room - size) t, length-append line rest)))

pub fit-not : (line rest : List ℕ) (size room : ℕ) → size ≡ length line → room < size → leb (length (line ++ rest)) room ≡ false
fit-not line rest size room e h = lt-leb (length (line ++ rest)) room (omega (arith, length-append line rest))
