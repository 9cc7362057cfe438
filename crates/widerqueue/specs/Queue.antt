-- 02, 2.10: how the frames of a hold-back queue (01: the shelf) with frames of both widths stand in its bytes, and how two of them are ordered.
-- Assumes nothing.
use Rattle.std.specs.Prelude.{ℕ, ◌≤◌, ◌≡◌, Bool, true, List, ltb, length, take}
use Rattle.laws.specs.Lists.{every, leading}
use Rattle.laws.specs.Lex.{lex_compare, is_less}
use Rattle.model.specs.Frame.{Frame, two_at}
use Rattle.model.specs.Holdback.{encode_frames}
use Rattle.model.specs.Schedule.{Schedule}
use Rattle.model.specs.Wider.{wider_formed, wider_key, wider_due, wider_held_bytes, wider_held}

-- so many frames, and where they end
pub record Extent (g : Schedule) (queue : List ℕ) (count end : ℕ) : Type 0 where
  pub count-is : count ≡ two_at queue 0
  pub end_is : end ≡ length (encode_frames (wider_held g queue))

-- what a change of a queue is told of it: each frame is well-formed, how many there are and where they end, and frame `index`, or the end, and
-- where it starts
pub record Spans (g : Schedule) (queue : List ℕ) (count end index at : ℕ) : Type 0 where
  pub formed : every (wider_formed g) (wider_held_bytes g queue) ≡ true
  pub two : 2 ≤ length queue
  pub count-is : count ≡ two_at queue 0
  pub ends : end ≡ length (encode_frames (wider_held g queue))
  pub inside : index ≤ count
  pub starts : at ≡ length (encode_frames (take index (wider_held g queue)))

-- a place in a queue: so many frames stand before it, and where it stands
pub record Stands (g : Schedule) (queue : List ℕ) (place index at : ℕ) : Type 0 where
  pub frames : index ≡ place
  pub starts : at ≡ length (encode_frames (take index (wider_held g queue)))

-- the first of two frames comes before the second, each with its r at a reading
unfoldable pub comes_before : Schedule → ℕ → Frame → ℕ → Frame → Bool
comes_before g x a y b = is_less (lex_compare (wider_key g x a) (wider_key g y b))

-- how many frames at the front of a queue are due before a limit, which is a reading near v as their due clocks are
abbrev pub frames_before : Schedule → ℕ → ℕ → List ℕ → ℕ
frames_before g v limit queue = leading (λ f. ltb (wider_due g v f) limit) (wider_held g queue)
