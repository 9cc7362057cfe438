-- 02, 2.4: what is shown of the comparison. Assumes nothing.
use Rattle.std.specs.Prelude.{ℕ, ◌+◌, ◌-◌, ◌%◌, ◌≤◌, ◌<◌, ◌≡◌, true, get_or}
use Rattle.model.specs.Setup.{Setup, in_limits}
use Rattle.model.specs.Timestamp.{sum}
use Rattle.model.specs.Frame.{Frame}
use Rattle.model.specs.Order.{reading_of, counts_down, key_near, compare_frames}
use Rattle.model.specs.Comparison.{Reason, by_sum, by_count, by_station, by_r, by_nothing, count_clock, compared}

-- 02: "The order itself is the old one"
abbrev pub OldOrder : Type 0
OldOrder = (s : Setup) (v : ℕ) (f g : Frame) → (compared s v f g).order ≡ compare_frames s v f g

abbrev pub sum_near : Setup → ℕ → Frame → ℕ
sum_near s v f = sum (reading_of s v f) f.stamp.c

-- 01: the count at offset c − k, of those that the order looks at
abbrev pub count_down : Setup → Frame → ℕ → ℕ
count_down s f k = get_or (counts_down s.epsilon f.stamp) k 0

-- a count decided, at that clock: the sums agree, and so do the counts before it
pub record CountDecided (s : Setup) (v : ℕ) (f g : Frame) (clock : ℕ) : Type 0 where
  pub k : ℕ
  pub among : k < s.epsilon
  pub clock-is : clock ≡ count_clock s v (sum_near s v f) k
  pub sums : sum_near s v f ≡ sum_near s v g
  pub earlier : (i : ℕ) → i < k → count_down s f i ≡ count_down s g i
  pub differ : count_down s f k ≡ count_down s g k → ⊥

-- sums and counts agree
pub record Level (s : Setup) (v : ℕ) (f g : Frame) : Type 0 where
  pub sums : sum_near s v f ≡ sum_near s v g
  pub counts : (i : ℕ) → i < s.epsilon → count_down s f i ≡ count_down s g i

-- what a reason says: all that 01's order looks at before it agrees, and it does not
abbrev pub Decided : Setup → ℕ → Frame → Frame → Reason → Type 0
Decided s v f g by_sum = sum_near s v f ≡ sum_near s v g → ⊥
Decided s v f g (by_count clock) = CountDecided s v f g clock
Decided s v f g by_station = Level s v f g × (f.station ≡ g.station → ⊥)
Decided s v f g by_r = Level s v f g × ((f.station ≡ g.station) × (reading_of s v f ≡ reading_of s v g → ⊥))
Decided s v f g by_nothing = key_near s v f ≡ key_near s v g

-- 02: "what decided: sum, the count at a given clock, station, r, or nothing where all agree"
abbrev pub TrueReason : Type 0
TrueReason = (s : Setup) (v : ℕ) (f g : Frame) → Decided s v f g (compared s v f g).reason

-- the clock of a count is sum − k modulo B, of a frame that was sent at the true clock R and is read near the true clock v
abbrev pub TrueClock : Type 0
TrueClock =
    (s : Setup) (v R k : ℕ) (f : Frame) → in_limits s ≡ true → f.stamp.r ≡ R % s.modulus → R < v + s.epsilon
    → v + s.epsilon ≤ R + s.modulus → k < s.epsilon → k ≤ R + f.stamp.c
    → count_clock s (v % s.modulus) (sum_near s (v % s.modulus) f) k ≡ (R + f.stamp.c - k) % s.modulus
