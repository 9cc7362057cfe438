-- 02, 2.2: what is due before v, the front of a sound queue, and what stands on the queue and in its tables once it has left.
-- Assumes nothing.
use Rattle.std.specs.Prelude.{◌≡◌, ℕ, ◌+◌, ◌-◌, true, not, List, length}
use Rattle.laws.specs.Lists.{select, overlay}
use Rattle.model.specs.Setup.{Setup}
use Rattle.model.specs.Frame.{Frame, two_at}
use Rattle.model.specs.Holdback.{held, sound_holdback, encode_frames}
use Rattle.model.specs.Tick.{due_before}
use Rattle.holdback.specs.Queue.{frame_start, end_of}
use Rattle.holdback.specs.Sound.{Recent}
use Rattle.holdback.specs.Seen.{seen_table}
use Rattle.holdback.specs.Starts.{starts_of}

-- the queue is sound for v by some least due clock that a call can allow
pub record SoundBy (s : Setup) (v : ℕ) (queue : List ℕ) : Type 0 where
  pub least : ℕ
  pub recent : Recent s least
  pub sound : sound_holdback s v least queue ≡ true

-- the table of starts is that of the queue
abbrev pub Tabled : Setup → ℕ → List ℕ → List ℕ → Type 0
Tabled s v queue starts = starts ≡ starts_of s v queue

-- the frames of a queue that are due before v, and the others
abbrev pub overdue_frames : Setup → ℕ → List ℕ → List Frame
overdue_frames s v queue = select (due_before s v) (held s.epsilon queue)

abbrev pub other_frames : Setup → ℕ → List ℕ → List Frame
other_frames s v queue = select (λ f. not (due_before s v f)) (held s.epsilon queue)

-- how many are due before v, and where the others start
pub record OverdueFront (s : Setup) (v : ℕ) (queue : List ℕ) (index at : ℕ) : Type 0 where
  pub number : index ≡ length (overdue_frames s v queue)
  pub starts : at ≡ frame_start s.epsilon queue index

-- the buffer once they have left: the others from its front on, and of the bytes behind the frames those that are not needed stay as they were
abbrev pub released_buffer : Setup → ℕ → List ℕ → List ℕ
released_buffer s v queue = overlay (encode_frames (other_frames s v queue)) queue

-- what is left of the queue, with its tables: no due clock is before v
pub record Left (s : Setup) (v : ℕ) (queue : List ℕ) (index : ℕ) (queue' table' starts' : List ℕ) : Type 0 where
  pub queue-is : queue' ≡ released_buffer s v queue
  pub table_is : table' ≡ seen_table s v (other_frames s v queue)
  pub starts_is : starts' ≡ starts_of s v queue'

-- what handing them out leaves: their number, and where they end in the delivery; the queue, its tables, and the delivery
pub record Released (s : Setup) (v : ℕ) (queue delivery : List ℕ) (index at : ℕ) (queue' table' starts' delivery' : List ℕ) : Type 0 where
  pub number : index ≡ length (overdue_frames s v queue)
  pub ends : at ≡ length (encode_frames (overdue_frames s v queue))
  pub queue-is : queue' ≡ released_buffer s v queue
  pub held-is : held s.epsilon queue' ≡ other_frames s v queue
  pub sound : sound_holdback s v s.modulus queue' ≡ true
  pub count-is : two_at queue' 0 ≡ two_at queue 0 - index
  pub stop_is : end_of s.epsilon queue' + at ≡ end_of s.epsilon queue + 2
  pub table_is : table' ≡ seen_table s v (other_frames s v queue)
  pub starts_is : starts' ≡ starts_of s v queue'
  pub given : delivery' ≡ overlay (encode_frames (overdue_frames s v queue)) delivery
