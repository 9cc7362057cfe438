-- Question 12 by the limits of v beside the questions by a frame's own width.
-- Assumes nothing.
use Rattle.std.specs.Prelude.{ℕ, zero, suc, ◌-◌, Bool, cond, List, take, get_or}
use Rattle.model.specs.Schedule.{Schedule}
use Rattle.model.specs.Question.{first_no, frame_questions}
use Rattle.model.specs.Wider.{wider_end}
use Rattle.pairs.specs.Views.{pair_of}

-- 12 of a frame to which 10 to 12 by its own width gave a number: a stamp that is sound there is sound here where its c is close enough
abbrev pub close_by : ℕ → Bool → ℕ
close_by zero close = cond close 0 12
close_by (suc k) close = suc k

-- 10 to 12 by its own width, of the frame at the front of a window
abbrev pub side_number : Schedule → List ℕ → ℕ
side_number g w = first_no (frame_questions (pair_of g (get_or w 4 0 - 1)) (take (wider_end g w) w))
