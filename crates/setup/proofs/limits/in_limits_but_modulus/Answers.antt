-- `setup::limits::in_limits_but_modulus` meets its contract: each test that fails is one of the limits, and the delay limit decides the rest.
-- Assumes nothing.
use native.Mathlib.Omega.{arith}
use Rattle.setup.proofs.InLimits.{past-limit, delta-decides}
use Rattle.setup.proofs.limits.in_limits_but_modulus.Goals as goal

pub returns-then-setup-lt1 : goal.returns-then-setup-lt1
returns-then-setup-lt1 c = past-limit _ (λ l. omega arith)

pub returns-then-setup-gt16 : goal.returns-then-setup-gt16
returns-then-setup-gt16 c = past-limit _ (λ l. omega arith)

pub returns-then-setup-lt1-2 : goal.returns-then-setup-lt1-2
returns-then-setup-lt1-2 c = past-limit _ (λ l. omega arith)

pub returns-then-setup-gt16-2 : goal.returns-then-setup-gt16-2
returns-then-setup-gt16-2 c = past-limit _ (λ l. omega arith)

pub returns : goal.returns
returns c = delta-decides _ (λ h. record { n_pos = omega arith; n-most = omega arith; epsilon-pos = omega arith; epsilon-most = omega arith; delta-most = h })
