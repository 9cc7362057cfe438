-- What the code's values say in the terms of `Trace`, and what the give lines ask.
-- Assumes nothing.
use Rattle.std.specs.Prelude.{ℕ, ◌<◌, ◌≡◌, true, List}
use Rattle.laws.specs.Lists.{every}
use Rattle.model.specs.Setup.{Setup, in_limits}
use Rattle.model.specs.Holdback.{held_bytes, passes}
use Rattle.trace.specs.Text.{frame_bytes}
use Rattle.setup.specs.Views.{setup_of}
use Rattle.trace.specs.Trace as traces
use Rattle.trace.specs.declared.parse.NodeSetup.{NodeSetup}

-- the group's setup, and a node's own number
abbrev pub node_setup_of : NodeSetup → traces.NodeSetup
node_setup_of s = record { setup = setup_of s.setup; own = s.own }

-- a tick's delivery: the setup is in its limits, the clock below B, and each frame passes 10 to 12
pub record Given (s : Setup) (v : ℕ) (delivery : List ℕ) : Type 0 where
  pub limits : in_limits s ≡ true
  pub below : v < s.modulus
  pub frames : every (passes s) (held_bytes s.epsilon delivery) ≡ true

-- two of its frames, by where they start
pub record Two (s : Setup) (v : ℕ) (delivery : List ℕ) (last at : ℕ) : Type 0 where
  pub limits : in_limits s ≡ true
  pub below : v < s.modulus
  pub last-passes : passes s (frame_bytes s.epsilon delivery last) ≡ true
  pub passes-here : passes s (frame_bytes s.epsilon delivery at) ≡ true
