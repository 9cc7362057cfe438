-- 02, 2.10: what 01's soundness of a shelf asks of one frame, given the frames before it, by both pairs of limits.
-- Assumes nothing.
use Rattle.std.specs.Prelude.{ℕ, suc, ◌+◌, ◌-◌, ◌≤◌, ◌<◌, ◌≡◌, Bool, true, ◌&&◌, not, cond, List, [], ◌∷◌, map, leb, length, take, drop}
use Rattle.laws.specs.Lists.{every, any, chained, apart}
use Rattle.model.specs.Frame.{Frame}
use Rattle.model.specs.Holdback.{cut_by, same_origin, not_early, encode_frames}
use Rattle.model.specs.Schedule.{Schedule, modulus_of, own_limits, due_along}
use Rattle.model.specs.Wider.{wider_reading, wider_before, wider_decode, wider_end, wider_passes, wider_not_expired, wider_sound_holdback, wider_opening_queue}
use Rattle.lemmas.specs.Standing.{left_by, end_by}
use Rattle.holdback.specs.Seen.{slot_of, seen_table}
use Rattle.widerqueue.specs.declared.soundness.Judged.{Judged}
use Rattle.widerqueue.specs.declared.soundness.Last.{Last}

-- of a frame alone: it passes 10 to 12, is not early, and not expired by the least due clock that is allowed
unfoldable pub fits : Schedule → ℕ → ℕ → List ℕ → Bool
fits g v least bytes =
    wider_passes g bytes && (not_early (own_limits g) v (wider_decode g bytes) && wider_not_expired g v least (wider_decode g bytes))

-- "strictly in order": the last of the frames before it, if there is one, comes before it
unfoldable pub follows : Schedule → ℕ → List Frame → Frame → Bool
follows g v [] f = true
follows g v (a ∷ []) f = wider_before g v a f
follows g v (a ∷ (b ∷ l)) f = follows g v (b ∷ l) f

-- all that is asked of a frame behind others, "no station and r twice" last
unfoldable pub frame_sound : Schedule → ℕ → ℕ → List Frame → List ℕ → Bool
frame_sound g v least ahead bytes =
    fits g v least bytes && (follows g v ahead (wider_decode g bytes) && not (any (same_origin (wider_decode g bytes)) ahead))

-- "each sum at most ε − 1 past v" by the limits of v, and its due clock not before the least allowed, of a frame with that sum
unfoldable pub timely : Schedule → ℕ → ℕ → Bool
timely g least total = leb total (modulus_of g + ((own_limits g).epsilon - 1)) && leb least (due_along g total)

-- the bytes of a frame that starts somewhere, and where it ends
abbrev pub bytes_from : Schedule → List ℕ → ℕ → List ℕ
bytes_from g queue at = take (wider_end g (drop at queue)) (drop at queue)

-- the first i frames of a queue, and where frame i starts
abbrev pub frames_to : Schedule → List ℕ → ℕ → List Frame
frames_to g queue i = left_by (wider_end g) (wider_decode g) queue 2 i

abbrev pub start_of : Schedule → List ℕ → ℕ → ℕ
start_of g queue i = end_by (wider_end g) queue 2 i

-- what soundness asks of frames that stand one after the other, by the bytes of each
unfoldable pub sound_parts : Schedule → ℕ → ℕ → List (List ℕ) → Bool
sound_parts g v least parts =
    every (wider_passes g) parts
    && (chained (wider_before g v) (map (wider_decode g) parts) && (apart same_origin (map (wider_decode g) parts)
    && (every (not_early (own_limits g) v) (map (wider_decode g) parts) && every (wider_not_expired g v least) (map (wider_decode g) parts))))

-- frame i
abbrev pub frame_at : Schedule → List ℕ → ℕ → Frame
frame_at g queue i = wider_decode g (bytes_from g queue (start_of g queue i))

-- of a frame that is not sound
abbrev pub unsound : Judged
unsound = record { end = 0; reading = 0; slot = 0 }

-- where frame i ends, its reading, and its place in the table of origins, if it is sound
unfoldable pub judged_at : Schedule → ℕ → ℕ → List ℕ → ℕ → Judged
judged_at g v least queue i =
    cond (frame_sound g v least (frames_to g queue i) (bytes_from g queue (start_of g queue i)))
    (record {
      end = start_of g queue (suc i);
      reading = wider_reading g v (frame_at g queue i);
      slot = slot_of (own_limits g) v (frame_at g queue i);
    })
    unsound

-- a walk over a queue that has found its first i frames sound: frame i starts at `at`, the one before it is `last`, and the table of origins
-- has those of the frames so far
pub record Walking (g : Schedule) (v least : ℕ) (queue table : List ℕ) (i : ℕ) (last : Last) (at : ℕ) : Type 0 where
  pub starts : at ≡ start_of g queue i
  pub inside : at ≤ length queue
  pub sound : sound_parts g v least (cut_by (wider_end g) i (drop 2 queue)) ≡ true
  pub last-at : 0 < i → last.at ≡ start_of g queue (i - 1)
  pub last-reads : 0 < i → last.reading ≡ wider_reading g v (frame_at g queue (i - 1))
  pub table_is : table ≡ seen_table (own_limits g) v (frames_to g queue i)

-- what the walk answers, and the table of origins that it leaves: of an unsound queue as of an empty one
pub record Walked (g : Schedule) (v least : ℕ) (queue : List ℕ) (sound : Bool) (count stop : ℕ) (table : List ℕ) : Type 0 where
  pub sound-is : sound ≡ wider_sound_holdback g v least queue
  pub count-is : count ≡ length (wider_opening_queue g v least queue)
  pub stop_is : stop ≡ length (encode_frames (wider_opening_queue g v least queue))
  pub table_is : table ≡ seen_table (own_limits g) v (wider_opening_queue g v least queue)
