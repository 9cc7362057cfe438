-- Soundness of an engine's hold-back queue (02, 2.9: its shelf), frame by frame; and what opening it for a tick makes of it.
-- Assumes nothing.
use Rattle.std.specs.Prelude.{ℕ, ◌+◌, ◌≡◌, Bool, true, false, ◌&&◌, cond, List, [], length, take, drop}
use Rattle.laws.specs.Lists.{every, apart}
use Rattle.model.specs.Setup.{Setup}
use Rattle.model.specs.Holdback.{cut_by, same_origin}
use Rattle.model.specs.Long.{long_frame_end, long_decode, long_held, long_passes, long_not_early, long_not_expired, long_sound_holdback, long_encode_holdback}
use Rattle.longqueue.specs.Queue.{end_from, Extent}

-- what is asked of a frame's time
unfoldable pub timely : Setup → ℕ → ℕ → List ℕ → Bool
timely s v least bytes =
    long_not_early s v (long_decode s.epsilon bytes) && long_not_expired s least (long_decode s.epsilon bytes)

-- what is asked of a frame alone
unfoldable pub fits : Setup → ℕ → ℕ → List ℕ → Bool
fits s v least bytes = long_passes s bytes && timely s v least bytes

-- where the frame at a position ends, 0 where it does not fit
unfoldable pub fitting_end : Setup → ℕ → ℕ → List ℕ → ℕ → ℕ
fitting_end s v least b at =
    cond (fits s v least (take (long_frame_end s.epsilon (drop at b)) (drop at b))) (at + long_frame_end s.epsilon (drop at b)) 0

-- where so many frames from a position on end, 0 where one of them does not fit
unfoldable pub fitting_ends : Setup → ℕ → ℕ → List ℕ → ℕ → ℕ → ℕ
fitting_ends s v least b at left =
    cond (every (fits s v least) (cut_by (long_frame_end s.epsilon) left (drop at b))) (end_from s.epsilon b at left) 0

-- what the walks answer: sound or not, how many frames and where they end, of an unsound queue as of an empty one
pub record Walked (s : Setup) (v least : ℕ) (queue : List ℕ) (sound : Bool) (count end : ℕ) : Type 0 where
  pub sound-is : sound ≡ long_sound_holdback s v least queue
  pub known : sound ≡ true → Extent s queue count end
  pub unsound : sound ≡ false → (count ≡ 0) × (end ≡ 2)

-- 01, tick 1: "An unsound shelf is emptied": the queue before and after it, the repair, how many frames there are, and where they end
pub record Opening (s : Setup) (v least : ℕ) (queue opened : List ℕ) (repair count end : ℕ) : Type 0 where
  pub repair-is : repair ≡ cond (long_sound_holdback s v least queue) 0 2
  pub opened-is : opened ≡ cond (long_sound_holdback s v least queue) queue (long_encode_holdback (length queue) [])
  pub held-is : long_held s.epsilon opened ≡ cond (long_sound_holdback s v least queue) (long_held s.epsilon queue) []
  pub known : Extent s opened count end
  pub single : apart same_origin (long_held s.epsilon opened) ≡ true
