-- What the code's pairs of limits say in the model's terms.
-- Assumes nothing.
use Rattle.std.specs.Prelude.{ℕ, ◌*◌, ◌≤◌, ◌≡◌, cond, eqb}
use Rattle.model.specs.Setup as setups
use Rattle.model.specs.Setup.{width}
use Rattle.model.specs.Schedule.{Schedule, steady, widening, wider_setup, change_near}
use Rattle.model.specs.Schedule as schedules
use Rattle.lemmas.proofs.Schedules.{Widens}
use Rattle.setup.specs.Views.{setup_of}
use Rattle.pairs.specs.declared.both.Wider.{Wider}
use Rattle.pairs.specs.declared.limits.Pairs.{Pairs}

-- 02: what stands beside the old setup
abbrev pub wider_of : Wider → schedules.Wider
wider_of w = record { epsilon = w.epsilon; delta = w.delta; change = w.change; marked = w.marked }

-- 02: "from ε, δ to limits ε' ≥ ε, δ' ≥ δ", at V
abbrev pub schedule_of : Pairs → Schedule
schedule_of p = widening (setup_of p.before) (setup_of p.after) p.change

-- both are in their limits, and the second is as wide or wider
abbrev pub Paired : Pairs → Type 0
Paired p = Widens (setup_of p.before) (setup_of p.after)

-- the pair whose 2ε so many counts are: its ε is model's half_of
abbrev pub pair_of : Schedule → ℕ → setups.Setup
pair_of (steady s) count = s
pair_of (widening before after change) count = cond (eqb count (width after.epsilon)) after before

-- the pairs of a setup for a tick at v
pub record Near (p : Pairs) (s : setups.Setup) (w : schedules.Wider) (v : ℕ) : Type 0 where
  pub schedule : schedule_of p ≡ widening s (wider_setup s w) (change_near s.modulus v w)
  pub change-most : p.change ≤ 2 * s.modulus
