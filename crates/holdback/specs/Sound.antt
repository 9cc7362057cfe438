-- What 01's soundness of a shelf asks of one frame, given the frames before it.
-- Assumes nothing.
use Rattle.std.specs.Prelude.{◌≡◌, ℕ, zero, suc, ◌+◌, ◌-◌, ◌<◌, ◌≤◌, Bool, true, false, cond, not, ◌&&◌, List, [], length, nat_le}
use Rattle.laws.specs.Lists.{tab, any}
use Rattle.model.specs.Setup.{Setup, depth}
use Rattle.model.specs.Timestamp.{sum}
use Rattle.model.specs.Frame.{Frame, two_at, decode}
use Rattle.model.specs.Order.{reading_of, before, due}
use Rattle.model.specs.Holdback.{passes, not_early, not_expired, same_origin, sound_holdback}
use Rattle.model.specs.Tick.{opening_queue, holdback_size}
use Rattle.timestamp.specs.declared.ordering.Rank.{Rank}
use Rattle.holdback.specs.declared.keys.Key.{Key}
use Rattle.holdback.specs.declared.soundness.Judged.{Judged}
use Rattle.holdback.specs.declared.soundness.Walk.{Walk}
use Rattle.holdback.specs.Queue.{frame_start, bytes_at, frame_at}
use Rattle.holdback.specs.Keys.{key_of, no_key}
use Rattle.holdback.specs.Seen.{seen_table}
use Rattle.holdback.specs.Starts.{starts_of, all_front}

-- of a frame alone: it passes 10 to 12, is not early, and not expired by the least due clock that is allowed
unfoldable pub fits : Setup → ℕ → ℕ → List ℕ → Bool
fits s v least bytes =
    passes s bytes && (not_early s v (decode s.epsilon bytes) && not_expired s v least (decode s.epsilon bytes))

-- "strictly in order": frame k of a queue comes after the one before it
unfoldable pub follows : Setup → ℕ → List ℕ → ℕ → Bool
follows s v queue zero = true
follows s v queue (suc k) =
    before s v (frame_at s.epsilon queue k) (frame_at s.epsilon queue (suc k))

-- "no station and r twice": none of the frames before it has its station and r
unfoldable pub is_new : Setup → List ℕ → ℕ → Bool
is_new s queue k = not (any (same_origin (frame_at s.epsilon queue k)) (tab k (frame_at s.epsilon queue)))

-- all that is asked of frame k
unfoldable pub frame_sound : Setup → ℕ → ℕ → List ℕ → ℕ → Bool
frame_sound s v least queue k = fits s v least (bytes_at s.epsilon queue k) && (follows s v queue k && is_new s queue k)

-- "each sum at most ε − 1 past v", and its due clock not before the least allowed, of a frame with that rank
unfoldable pub timely : Setup → ℕ → Rank → Bool
timely s least rank =
    nat_le (sum rank.reading rank.c) (s.modulus + (s.epsilon - 1)) && nat_le least (due s rank.reading rank.c)

-- 02, 2.2: the last clock lies at most ε before v, so the least due clock allowed, as a reading, in which v stands at B, less than ε; and it
-- is not past the one after v, which a poll allows
pub record Recent (s : Setup) (least : ℕ) : Type 0 where
  pub late : s.modulus + 1 ≤ least + s.epsilon
  pub close : least ≤ s.modulus + 1

-- of a frame that is not sound
abbrev pub unsound : Judged
unsound = record { end = 0; key = no_key }

-- where frame i ends and its key, if it is sound
unfoldable pub judged_at : Setup → ℕ → ℕ → List ℕ → ℕ → Judged
judged_at s v least queue i =
    cond (frame_sound s v least queue i) (record { end = frame_start s.epsilon queue (suc i); key = key_of s v (frame_at s.epsilon queue i) }) unsound

-- the key of the frame before frame i
unfoldable pub last_key : Setup → ℕ → List ℕ → ℕ → Key
last_key s v queue zero = no_key
last_key s v queue (suc k) = key_of s v (frame_at s.epsilon queue k)

-- r + c of a frame, with r read near v
pub record Summed (s : Setup) (v : ℕ) (f : Frame) (r : ℕ) : Type 0 where
  pub is_sum : r ≡ reading_of s v f + f.stamp.c
  pub small : r < 131072

-- a walk over a queue that has found its first i frames sound: frame i starts at `at`, the one before it has the key `last`, and the table of
-- origins has those of the frames so far
pub record Walking (s : Setup) (v least : ℕ) (queue table : List ℕ) (i : ℕ) (last : Key) (at : ℕ) : Type 0 where
  pub room : holdback_size s ≤ length queue
  pub starts : at ≡ frame_start s.epsilon queue i
  pub last-is : last ≡ last_key s v queue i
  pub each : (k : ℕ) → k < i → frame_sound s v least queue k ≡ true
  pub table_is : table ≡ seen_table s v (tab i (frame_at s.epsilon queue))

-- where it begins: the count is in its bound, the table of origins is empty, and the table of starts is that of an empty queue
pub record Starting (s : Setup) (v : ℕ) (queue table starts : List ℕ) (count : ℕ) : Type 0 where
  pub room : holdback_size s ≤ length queue
  pub count-is : count ≡ two_at queue 0
  pub few : count ≤ depth s.n s.epsilon s.delta
  pub empty : table ≡ seen_table s v []
  pub all-front : starts ≡ all_front

-- what the walk over an unsound queue answers: the number of frames of an empty one, and where they end
abbrev pub emptied : Walk
emptied = record { sound = false; count = 0; end = 2 }

-- what the walk over a whole queue answers, and the tables of origins and of starts that it leaves
pub record Walked (s : Setup) (v least : ℕ) (queue : List ℕ) (sound : Bool) (count stop : ℕ) (table starts : List ℕ) : Type 0 where
  pub sound-is : sound ≡ sound_holdback s v least queue
  pub count-is : count ≡ cond (sound_holdback s v least queue) (two_at queue 0) 0
  pub stop_is : stop ≡ cond (sound_holdback s v least queue) (frame_start s.epsilon queue (two_at queue 0)) 2
  pub table_is : table ≡ seen_table s v (opening_queue s v least queue)
  pub starts_is : starts ≡ cond (sound_holdback s v least queue) (starts_of s v queue) all_front
