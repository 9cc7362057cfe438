-- 02, 2.10, "Wider limits in mid season": two pairs of limits, the clock at which a yard goes from one to the other, and what goes by it.
use Rattle.std.specs.Prelude.{ℕ, ◌+◌, ◌-◌, Bool, ◌&&◌, cond, leb, ltb, eqb}
use Rattle.model.specs.Setup.{Setup, in_limits, is_member, width}
use Rattle.model.specs.Timestamp.{ahead}
use Rattle.model.specs.Order.{sum_due}
use Rattle.model.specs.Question.{Question, ask}

-- 02: "At an agreed clock V the yard goes from ε, δ to limits ε' ≥ ε, δ' ≥ δ": which limits hold at which clock. The same at every clock, or
-- one pair before V and the other from V on. V stands here among the clocks that are spoken of: true ones, or readings near v, which reads B
pub data Schedule : Type 0 where
  steady : Setup → Schedule
  widening : Setup → Setup → ℕ → Schedule

-- the limits of a clock
abbrev pub limits_at : Schedule → ℕ → Setup
limits_at (steady s) clock = s
limits_at (widening before after change) clock = cond (ltb clock change) before after

-- B, the same for both pairs
abbrev pub modulus_of : Schedule → ℕ
modulus_of (steady s) = s.modulus
modulus_of (widening before after change) = before.modulus

-- 02: "shelves and buffers have the new sizes from a station's first call with both pairs"
abbrev pub widest_of : Schedule → Setup
widest_of (steady s) = s
widest_of (widening before after change) = after

-- ---- what a call is given

-- 02: "The setup carries both pairs, V below B (else 1), and a mark": what stands beside the old setup
pub record Wider : Type 0 where
  -- 02: ε'
  pub epsilon : ℕ
  -- 02: δ'
  pub delta : ℕ
  -- 02: V, modulo B
  pub change : ℕ
  -- 02: the mark: 1 where it is set, 0 where not
  pub marked : ℕ

-- the new pair, in the same yard
abbrev pub wider_setup : Setup → Wider → Setup
wider_setup s w = record { n = s.n; epsilon = w.epsilon; delta = w.delta; modulus = s.modulus }

-- 02: "with B in its limits for both", "V below B (else 1)"; a mark is 0 or 1
unfoldable pub both_in_limits : Setup → Wider → Bool
both_in_limits s w = in_limits s && (in_limits (wider_setup s w) && (ltb w.change s.modulus && leb w.marked 1))

-- 1, with the own number
unfoldable pub ask_both : Setup → Wider → ℕ → Question
ask_both s w own = ask (both_in_limits s w && is_member s own) 1

-- 02: "(Number 19 when ε' or δ' is smaller than the old, asked after 1.)"
unfoldable pub ask_wider : Setup → Wider → Question
ask_wider s w = ask (leb s.epsilon w.epsilon && leb s.delta w.delta) 19

-- 02: "a mark set once the clock is at or past V"
abbrev pub is_marked : Wider → Bool
is_marked w = eqb w.marked 1

-- 02: "Unmarked, V lies (V − v) modulo B ahead, 0 meaning B"
unfoldable pub change_ahead : ℕ → ℕ → ℕ → ℕ
change_ahead modulus v change = cond (eqb (ahead modulus v change) 0) modulus (ahead modulus v change)

-- 02: "marked, (v − V) modulo B behind"
unfoldable pub change_behind : ℕ → ℕ → ℕ → ℕ
change_behind modulus v change = ahead modulus change v

-- V as a reading near v, which reads B
unfoldable pub change_near : ℕ → ℕ → Wider → ℕ
change_near modulus v w =
    cond (is_marked w) (modulus - change_behind modulus v w.change) (modulus + change_ahead modulus v w.change)

-- the two pairs are one
unfoldable pub same_pairs : Setup → Wider → Bool
same_pairs s w = eqb w.epsilon s.epsilon && eqb w.delta s.delta

-- the schedule of a call for v, in readings. (With equal pairs it is the plain setup's; Steady shows that this changes nothing.)
unfoldable pub along : Setup → Wider → ℕ → Schedule
along s w v = cond (same_pairs s w) (steady s) (widening s (wider_setup s w) (change_near s.modulus v w))

-- 02: "A tick uses the limits of its own clock", v, which reads B
abbrev pub own_limits : Schedule → Setup
own_limits g = limits_at g (modulus_of g)

-- the same by the mark alone, for the words of 2.1, which have no clock
abbrev pub side_of : Setup → Wider → Setup
side_of s w = cond (is_marked w) (wider_setup s w) s

-- ---- widths

-- 02: "both widths are read always"; "the width is part of a frame's contents": half of it, by the number of counts. Any number but the
-- wider one goes with the old pair, so that 10 refuses it
abbrev pub half_of : Schedule → ℕ → ℕ
half_of (steady s) count = s.epsilon
half_of (widening before after change) count = cond (eqb count (width after.epsilon)) after.epsilon before.epsilon

-- 02: "Tables are narrow if their r is before V": half the width of tables whose r lies a step before v
abbrev pub tables_half : Schedule → ℕ → ℕ
tables_half g step = (limits_at g (modulus_of g - step)).epsilon

-- ---- the due clock and the comparison

-- 02: a frame's "sum + δ + ε … lies before V"
unfoldable pub old_due : Setup → ℕ → ℕ → Bool
old_due before change total = ltb (sum_due before total) change

-- 02: "A frame is due at sum + δ + ε if that lies before V, else at sum + δ' + ε'"
abbrev pub due_along : Schedule → ℕ → ℕ
due_along (steady s) total = sum_due s total
due_along (widening before after change) total = cond (old_due before change total) (sum_due before total) (sum_due after total)

-- 02: "Frames due before V compare ε counts, all others ε' counts". (The new due clock of all others is not before the old one, so not before V.)
abbrev pub compared_along : Schedule → ℕ → ℕ
compared_along (steady s) total = s.epsilon
compared_along (widening before after change) total = cond (old_due before change total) before.epsilon after.epsilon
