-- 02, 2.2 with both pairs: what is due before v, the front of a sound queue, and what stands on the queue and in its table once it has left.
-- Assumes nothing.
use Rattle.std.specs.Prelude.{ℕ, ◌+◌, ◌-◌, ◌≡◌, true, not, List, length}
use Rattle.laws.specs.Lists.{select, overlay}
use Rattle.model.specs.Frame.{Frame, two_at}
use Rattle.model.specs.Holdback.{encode_frames}
use Rattle.model.specs.Schedule.{Schedule, modulus_of, own_limits}
use Rattle.model.specs.Wider.{wider_held, wider_sound_holdback, wider_due_before}
use Rattle.holdback.specs.Sound.{Recent}
use Rattle.holdback.specs.Seen.{seen_table}

-- the queue is sound for v by some least due clock that a call can allow
pub record SoundBy (g : Schedule) (v : ℕ) (queue : List ℕ) : Type 0 where
  pub least : ℕ
  pub recent : Recent (own_limits g) least
  pub sound : wider_sound_holdback g v least queue ≡ true

-- the frames of a queue that are due before v, and the others
abbrev pub overdue_frames : Schedule → ℕ → List ℕ → List Frame
overdue_frames g v queue = select (wider_due_before g v) (wider_held g queue)

abbrev pub other_frames : Schedule → ℕ → List ℕ → List Frame
other_frames g v queue = select (λ f. not (wider_due_before g v f)) (wider_held g queue)

-- what handing them out leaves: their number, and where they end in the delivery; the queue, its table, and the delivery
pub record Released (g : Schedule) (v : ℕ) (queue delivery : List ℕ) (index at : ℕ) (queue' table' delivery' : List ℕ) : Type 0 where
  pub number : index ≡ length (overdue_frames g v queue)
  pub ends : at ≡ length (encode_frames (overdue_frames g v queue))
  pub queue-is : queue' ≡ overlay (encode_frames (other_frames g v queue)) queue
  pub held-is : wider_held g queue' ≡ other_frames g v queue
  pub sound : wider_sound_holdback g v (modulus_of g) queue' ≡ true
  pub count-is : two_at queue' 0 ≡ two_at queue 0 - index
  pub stop_is : length (encode_frames (wider_held g queue')) + at ≡ length (encode_frames (wider_held g queue)) + 2
  pub table_is : table' ≡ seen_table (own_limits g) v (other_frames g v queue)
  pub given : delivery' ≡ overlay (encode_frames (overdue_frames g v queue)) delivery
