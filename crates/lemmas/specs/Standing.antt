-- Frames that stand one after the other in a buffer, whatever their form: `end` says where the frame at the front of some bytes ends, and `decode`
-- what the bytes of a frame hold.
-- Assumes nothing.
use Rattle.std.specs.Prelude.{ℕ, zero, suc, ◌+◌, ◌≤◌, ◌≡◌, Bool, true, List, map, length, drop}
use Rattle.laws.specs.Lists.{every}
use Rattle.model.specs.Frame.{Frame}
use Rattle.model.specs.Holdback.{cut_by}

-- the frames that stand from a position on, so many of them
abbrev pub left_by : (List ℕ → ℕ) → (List ℕ → Frame) → List ℕ → ℕ → ℕ → List Frame
left_by end decode buffer at left = map decode (cut_by end left (drop at buffer))

-- and where they end
unfoldable pub end_by : (List ℕ → ℕ) → List ℕ → ℕ → ℕ → ℕ
end_by end buffer at zero = at
end_by end buffer at (suc left) = end_by end buffer (at + end (drop at buffer)) left

-- so many frames stand from a position on: the test holds of the bytes of each, and they end within the buffer
pub record StandingBy (end : List ℕ → ℕ) (test : List ℕ → Bool) (buffer : List ℕ) (at left : ℕ) : Type 0 where
  pub each : every test (cut_by end left (drop at buffer)) ≡ true
  pub inside : end_by end buffer at left ≤ length buffer
