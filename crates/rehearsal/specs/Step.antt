-- 02, 2.8, "Rehearse the whole yard": what it reads, from bytes to the tick of a station. A byte that is missing reads as 0.
use Rattle.std.specs.Prelude.{ℕ, zero, suc, ◌+◌, ◌*◌, Bool, not, List, [], ◌∷◌, ◌++◌, map, leb, ltb, eqb, length, take, drop, get_or}
use Rattle.laws.specs.Lists.{tab, every, joined}
use Rattle.model.specs.Frame.{two_at}
use Rattle.model.specs.Question.{ask, first_no}
use Rattle.trace.specs.Trace.{count_length, tick_count, batch_at}

-- 02: "n, ε, δ, B": a setup without an own number
abbrev pub group_setup_length : ℕ
group_setup_length = 5

-- 02: "at most 1,000 steps"
abbrev pub most_steps : ℕ
most_steps = 1000

-- 02: "A trace of more steps … gets 5"; and one that is cut before the count's end. 0 for a count of steps that is taken
unfoldable pub steps_number : List ℕ → ℕ
steps_number s = first_no (ask (leb count_length (length s)) 5 ∷ ask (leb (tick_count s) most_steps) 5 ∷ [])

-- ---- one step, at the start of `s`

-- 02: "per step the station"
unfoldable pub station_of : List ℕ → ℕ
station_of s = get_or s 0 0

-- 02: "then clock, send and ticket as in replay's"
unfoldable pub tick_part : List ℕ → List ℕ
tick_part s = drop 1 s

-- 02: "then a one-byte count of earlier frames it hears"
unfoldable pub heard_at : List ℕ → ℕ
heard_at s = 1 + batch_at (tick_part s)

unfoldable pub heard_count : List ℕ → ℕ
heard_count s = get_or s (heard_at s) 0

-- 02: "each the two-byte number, from 1, of the step that sent it"
unfoldable pub heard_number : List ℕ → ℕ → ℕ
heard_number s i = two_at s (heard_at s + 1 + 2 * i)

unfoldable pub heard_numbers : List ℕ → List ℕ
heard_numbers s = tab (heard_count s) (heard_number s)

-- where the step ends, by the counts in `s`. Where `s` is cut short, this is still the least length that the whole step can have
unfoldable pub step_end : List ℕ → ℕ
step_end s = heard_at s + 1 + 2 * heard_count s

-- the length of the longest step: a ticket of 255 bytes, and 255 frames heard
abbrev pub longest_step : ℕ
longest_step = 771

-- ---- what it hears. `sent` has for each earlier step the frame that it sent, no bytes if none

-- the frame of the step with that number
abbrev pub frame_by : List (List ℕ) → ℕ → List ℕ
frame_by sent zero = []
frame_by sent (suc k) = get_or sent k []

-- an earlier step, and one that sent a frame
unfoldable pub is_sent : List (List ℕ) → ℕ → Bool
is_sent sent number = not (eqb (length (frame_by sent number)) 0)

-- 02: "A trace … whose station is not below n, or that hears a frame not yet sent, gets 5"; and so does one that is cut. 0 for a step whose
-- tick can be called
unfoldable pub step_number : ℕ → List (List ℕ) → List ℕ → ℕ
step_number n sent s =
    first_no
    (ask (eqb (step_end s) (length s)) 5
    ∷ ask (ltb (station_of s) n) 5
    ∷ ask (every (is_sent sent) (heard_numbers s)) 5
    ∷ [])

-- 01: "A bundle is a one-byte count, then for each entry a one-byte length and its bytes"
abbrev pub batch_with : List (List ℕ) → List ℕ
batch_with frames = length frames ∷ joined (λ (f : List ℕ). length f ∷ f) frames

unfoldable pub heard_frames : List (List ℕ) → List ℕ → List (List ℕ)
heard_frames sent s = map (frame_by sent) (heard_numbers s)

-- the step as a tick of replay's: clock, send and ticket, and a bundle of the frames that it hears
unfoldable pub tick_with : List (List ℕ) → List ℕ → List ℕ
tick_with sent s = take (batch_at (tick_part s)) (tick_part s) ++ batch_with (heard_frames sent s)
