-- The table of origins: for each station and each reading that a frame of a sound queue can have a bit, whether such a frame is there.
-- Assumes nothing.
use Rattle.std.specs.Prelude.{ℕ, zero, suc, ◌+◌, ◌-◌, ◌*◌, ◌/◌, ◌%◌, ◌^◌, ◌<◌, ◌≤◌, Bool, cond, List, ◌==◌, nat_eq, slice_index, slice_set}
use Rattle.laws.specs.Lists.{tab, any}
use Rattle.model.specs.Setup.{Setup}
use Rattle.model.specs.Frame.{Frame}
use Rattle.model.specs.Order.{reading_of}
use Rattle.timestamp.specs.declared.ordering.Rank.{Rank}
use Rattle.holdback.specs.Queue.{rank_of}

-- places for one station: as many as the δ + 4ε readings from the least, which lies δ + 3ε behind v
abbrev row_length : ℕ
row_length = 128

-- places in a word of the table, a bit for each
abbrev pub word_length : ℕ
word_length = 64

-- words for the places of 16 stations
abbrev pub table_length : ℕ
table_length = 32

-- a frame that has a place
pub record Placeable (s : Setup) (v : ℕ) (f : Frame) : Type 0 where
  pub station-below : f.station < s.n
  pub r-below : f.stamp.r < s.modulus
  pub not-before : s.modulus ≤ reading_of s v f + (s.delta + 3 * s.epsilon)

-- the rank of such a frame
pub record Within (s : Setup) (rank : Rank) : Type 0 where
  pub station-below : rank.station < s.n
  pub not-before : s.modulus ≤ rank.reading + (s.delta + 3 * s.epsilon)
  pub not-past : rank.reading < s.modulus + s.epsilon

-- the place for a station and a reading; v reads B
abbrev pub rank_slot : Setup → Rank → ℕ
rank_slot s rank = rank.station * row_length + (rank.reading + (s.delta + 3 * s.epsilon) - s.modulus)

-- the place for a frame's
unfoldable pub slot_of : Setup → ℕ → Frame → ℕ
slot_of s v f = rank_slot s (rank_of s v f)

-- n bits as one number, the first the lowest
unfoldable pub bits_of : ℕ → (ℕ → Bool) → ℕ
bits_of zero f = 0
bits_of (suc n) f = cond (f 0) 1 0 + 2 * bits_of n (λ k. f (suc k))

-- the words in which the places are marked of which the test holds: place i is bit i % 64 of word i / 64
unfoldable pub table_of : (ℕ → Bool) → List ℕ
table_of p = tab table_length (λ w. bits_of word_length (λ k. p (w * word_length + k)))

-- the place of each frame of the queue is marked
unfoldable pub seen_table : Setup → ℕ → List Frame → List ℕ
seen_table s v queue = table_of (λ i. any (λ f. nat_eq (slot_of s v f) i) queue)

-- a place is marked
unfoldable pub has_mark : List ℕ → ℕ → Bool
has_mark table i = slice_index table (i / word_length) / 2 ^ (i % word_length) % 2 == 1

-- the table of origins with a place marked, which was not
unfoldable pub with_mark : List ℕ → ℕ → List ℕ
with_mark table i = slice_set table (i / word_length) (slice_index table (i / word_length) + 2 ^ (i % word_length))

-- the table of origins with a place not marked, which was
unfoldable pub without_mark : List ℕ → ℕ → List ℕ
without_mark table i = slice_set table (i / word_length) (slice_index table (i / word_length) - 2 ^ (i % word_length))

-- a frame's place is marked
unfoldable pub is_marked : Setup → ℕ → Frame → List ℕ → Bool
is_marked s v f table = has_mark table (slot_of s v f)

-- the table of origins with a frame's place marked
unfoldable pub marked : Setup → ℕ → Frame → List ℕ → List ℕ
marked s v f table = with_mark table (slot_of s v f)
