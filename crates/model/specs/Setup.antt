-- 01, "The yard and its words": the group of nodes and its limits; the lengths that follow from them.
use Rattle.std.specs.Prelude.{ℕ, ◌+◌, ◌*◌, Bool, ◌&&◌, leb, ltb}
use Rattle.laws.specs.Lists.{within}

-- 01: the setup, "a parameter of each call", without the own number: that is one node's, and these are the group's (01: the yard's).
-- n is the number of nodes (01: stations)
pub record Setup : Type 0 where
  pub n : ℕ
  -- 01: ε, the drift limit
  pub epsilon : ℕ
  -- 01: δ, the delay limit
  pub delta : ℕ
  -- 01: B
  pub modulus : ℕ

-- 01: "B from 6ε + δ + 1"
unfoldable pub least_modulus : ℕ → ℕ → ℕ
least_modulus epsilon delta = 6 * epsilon + delta + 1

-- 01: "Limits: n 1..16, ε 1..16, δ 0..64, B from 6ε + δ + 1 to 65,535"
unfoldable pub in_limits : Setup → Bool
in_limits s =
    within 1 16 s.n && (within 1 16 s.epsilon && (leb s.delta 64
    && within (least_modulus s.epsilon s.delta) 65535 s.modulus))

-- 01: "own number below n"
unfoldable pub is_member : Setup → ℕ → Bool
is_member s own = ltb own s.n

-- 01: "2ε counts"
unfoldable pub width : ℕ → ℕ
width epsilon = 2 * epsilon

-- the counts of the widest timestamp: 2ε at ε 16
abbrev pub widest : ℕ
widest = 32

-- 01: "A ticket is 0 to 32 bytes"; here the payload
abbrev pub longest_payload : ℕ
longest_payload = 32

-- 01: "Longest: 39 + 2ε bytes"
unfoldable pub longest_frame : ℕ → ℕ
longest_frame epsilon = 39 + width epsilon

-- 01: "n(δ + 3ε) frames"
unfoldable pub depth : ℕ → ℕ → ℕ → ℕ
depth n epsilon delta = n * (delta + 3 * epsilon)

-- the same in a group
abbrev pub depth_of : Setup → ℕ
depth_of s = depth s.n s.epsilon s.delta

-- 01: a shelf's "length is exactly 2 + (39 + 2ε) × n × (δ + 3ε)"
unfoldable pub holdback_length : ℕ → ℕ → ℕ → ℕ
holdback_length n epsilon delta = 2 + longest_frame epsilon * depth n epsilon delta

-- 01: "the verdict buffer 255"
abbrev pub verdict_length : ℕ
verdict_length = 255
