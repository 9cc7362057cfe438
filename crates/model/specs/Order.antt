-- 01, "Order of two stamps, first difference decides", and the clock at which a frame is due. Clocks are read near v.
use Prim.Native.Nat.{ℕ, ◌+◌, ◌-◌, ◌%◌, Ordering}
use Rattle.std.specs.Prelude.{Bool, List, [], ◌∷◌, ◌++◌}
use Rattle.laws.specs.Lists.{tab}
use Rattle.laws.specs.Lex.{lex_compare, first_difference, is_less}
use Rattle.model.specs.Setup.{Setup}
use Rattle.model.specs.Timestamp.{Timestamp, count_at, sum, near}
use Rattle.model.specs.Frame.{Frame}

-- the reading of a frame's r near v
unfoldable pub reading_of : Setup → ℕ → Frame → ℕ
reading_of s v f = near s.epsilon s.modulus v f.stamp.r

-- 01: "count at offset c; at c − 1; and so on to c − ε + 1 (ε counts)"; r stands at ε, so that no clock is negative
unfoldable pub counts_down : ℕ → Timestamp → List ℕ
counts_down epsilon t = tab epsilon (λ k. count_at epsilon epsilon t.kn (epsilon + t.c - k))

-- 01: "sum; count at offset c; … ; station number; r", with r at a reading, by ε
unfoldable pub key_by : ℕ → ℕ → Frame → List ℕ
key_by epsilon reading f = sum reading f.stamp.c ∷ (counts_down epsilon f.stamp ++ (f.station ∷ reading ∷ []))

-- the same in a group
unfoldable pub key : Setup → ℕ → Frame → List ℕ
key s reading f = key_by s.epsilon reading f

-- 01: the order of two stamps, each r read near v
unfoldable pub key_near : Setup → ℕ → Frame → List ℕ
key_near s v f = key s (reading_of s v f) f

-- 01: "first difference decides"
unfoldable pub compare_frames : Setup → ℕ → Frame → Frame → Ordering
compare_frames s v f g = lex_compare (key_near s v f) (key_near s v g)

-- the first comes before the second
unfoldable pub before : Setup → ℕ → Frame → Frame → Bool
before s v f g = is_less (compare_frames s v f g)

-- 01: "The comparison ends at the first count that differs": the place in the keys that decides
unfoldable pub decided_at : Setup → ℕ → Frame → Frame → ℕ
decided_at s v f g = first_difference (key_near s v f) (key_near s v g)

-- 01: "sum + δ + ε (its due clock)", of a sum
abbrev pub sum_due : Setup → ℕ → ℕ
sum_due s total = total + s.delta + s.epsilon

-- the same at a reading
unfoldable pub due : Setup → ℕ → ℕ → ℕ
due s reading c = sum_due s (sum reading c)

-- with r read near v
unfoldable pub due_near : Setup → ℕ → Frame → ℕ
due_near s v f = due s (reading_of s v f) f.stamp.c

-- the clock, modulo B, of a reading near v, which reads B
unfoldable pub reading_clock : Setup → ℕ → ℕ → ℕ
reading_clock s v reading = (v + reading) % s.modulus
