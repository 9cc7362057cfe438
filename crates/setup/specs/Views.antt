-- What the code's setup says in the model's terms.
-- Assumes nothing.
use Rattle.model.specs.Setup as setups
use Rattle.setup.specs.declared.limits.Setup.{Setup}

-- 01: the setup, without the own number
abbrev pub setup_of : Setup → setups.Setup
setup_of s = record { n = s.n; epsilon = s.epsilon; delta = s.delta; modulus = s.modulus }
