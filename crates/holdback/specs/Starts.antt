-- Starts: where a search for the place of a frame starts, by the frame's sum.
-- Assumes nothing.
use Rattle.std.specs.Prelude.{◌≡◌, ℕ, zero, suc, ◌+◌, ◌-◌, ◌*◌, ◌<◌, max, cond, ltb, List, length, replicate, nat_lt, slice_index}
use Rattle.laws.specs.Lists.{tab, leading}
use Rattle.model.specs.Setup.{Setup}
use Rattle.model.specs.Frame.{Frame}
use Rattle.model.specs.Order.{sum_due, due, due_near}
use Rattle.model.specs.Holdback.{held}
use Rattle.timestamp.specs.declared.ordering.Rank.{Rank}
use Rattle.holdback.specs.Queue.{frame_start}

-- an entry is so many times a number of frames, and where the next one starts, which is less
abbrev pub start_unit : ℕ
start_unit = 131072

-- every entry is below
abbrev pub start_limit : ℕ
start_limit = 2147483648

-- places in the table of starts
abbrev pub start_entries : ℕ
start_entries = 97

-- those that a setup uses: a place for each sum of the frames that are not due before v, which are δ + 2ε at most, and one for the end
abbrev pub used_entries : Setup → ℕ
used_entries s = s.delta + 2 * s.epsilon + 1

-- the entry for the front: no frames, and the first one starts behind the count
abbrev pub front : ℕ
front = 2

-- the table of starts of an empty queue
abbrev pub all_front : List ℕ
all_front = replicate start_entries front

-- the place for a sum: how far its due clock lies past v, which reads B
unfoldable pub rank_wait : Setup → Rank → ℕ
rank_wait s rank = due s rank.reading rank.c - s.modulus

-- the places up to that of a sum: none where it is due before v
unfoldable pub entries_to : Setup → ℕ → ℕ
entries_to s total = sum_due s total + 1 - s.modulus

-- the place for the sum of a frame
unfoldable pub sum_wait : Setup → ℕ → Frame → ℕ
sum_wait s v f = due_near s v f - s.modulus

-- how many frames stand at the front of a queue that are due before v, or whose sums have places below k
abbrev pub frames_below : Setup → ℕ → List ℕ → ℕ → ℕ
frames_below s v queue k = leading (λ f. ltb (due_near s v f) (s.modulus + k)) (held s.epsilon queue)

-- the entry for place k: those frames, and where the next one, or the end, starts
unfoldable pub start_of : Setup → ℕ → List ℕ → ℕ → ℕ
start_of s v queue k =
    frames_below s v queue k * start_unit + frame_start s.epsilon queue (frames_below s v queue k)

-- the table of starts of a queue; the places that are not used have the front
unfoldable pub starts_of : Setup → ℕ → List ℕ → List ℕ
starts_of s v queue = tab start_entries (λ k. cond (nat_lt k (used_entries s)) (start_of s v queue k) front)

-- the table with the places from one up to, not including, another changed
unfoldable pub changed : (ℕ → ℕ) → ℕ → ℕ → List ℕ → List ℕ
changed f from to starts =
    tab start_entries (λ k. cond (nat_lt k from) (slice_index starts k) (cond (nat_lt k to) (f (slice_index starts k)) (slice_index starts k)))

-- one entry in all of them
abbrev pub filled : ℕ → ℕ → ℕ → List ℕ → List ℕ
filled m from to starts = changed (λ _. m) from to starts

-- a step added to each of them
abbrev pub moved_starts : ℕ → ℕ → ℕ → List ℕ → List ℕ
moved_starts from to step starts = changed (λ m. m + step) from to starts

-- a step taken from each below a place
abbrev pub lowered_starts : ℕ → ℕ → List ℕ → List ℕ
lowered_starts to step starts = changed (λ m. m - step) 0 to starts

-- the largest of the front and the entries below a place
unfoldable pub highest : List ℕ → ℕ → ℕ
highest starts zero = front
highest starts (suc k) = max (highest starts k) (slice_index starts k)

-- the table with each place below one raised to the largest entry up to it
unfoldable pub spread_starts : ℕ → List ℕ → List ℕ
spread_starts to starts = tab start_entries (λ k. cond (nat_lt k to) (highest starts (suc k)) (slice_index starts k))

-- numbers with which entries are moved
pub record Moving (starts : List ℕ) (step : ℕ) : Type 0 where
  pub long : length starts ≡ start_entries
  pub each : (k : ℕ) → k < start_entries → slice_index starts k < start_limit
  pub small : step < start_limit
