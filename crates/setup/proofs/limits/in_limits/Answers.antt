-- `setup::limits::in_limits` meets its contract: B is judged behind the other limits.
-- Assumes nothing.
use mathlib.Core.Bool.{true}
use mathlib.Core.Path.{◌≡◌, sym, ◌∙◌}
use native.Mathlib.Omega.{arith}
use borrow.Author.Tests.{not-true, not-false, le-leb, lt-leb}
use Rattle.laws.specs.Lists.{within}
use Rattle.lemmas.proofs.Bounds.{LongLimits}
use Rattle.lemmas.proofs.Questions.{long-limits-from}
use Rattle.model.specs.Setup.{least_modulus}
use Rattle.model.specs.Long.{long_limits}
use Rattle.setup.specs.Views.{setup_of}
use Rattle.setup.proofs.InLimits.{modulus-last}
use Rattle.setup.proofs.limits.in_limits.Goals.{Else-not-in_limits_but_modulus}
use Rattle.setup.proofs.limits.in_limits.Goals as goal

-- the other limits, once they are asked
others : (c : Else-not-in_limits_but_modulus) → long_limits (setup_of c.args.setup) ≡ true
others c = sym c.in_limits_but_modulus.ensures ∙ not-false c.in_limits_but_modulus.result c.if-not-in_limits_but_modulus.false-raw

limits : (c : Else-not-in_limits_but_modulus) → LongLimits (setup_of c.args.setup)
limits c = long-limits-from (setup_of c.args.setup) (others c)

pub returns-then-not-in_limits_but_modulus : goal.returns-then-not-in_limits_but_modulus
returns-then-not-in_limits_but_modulus c = sym (modulus-last (setup_of c.args.setup)
    ∙ rw (sym c.in_limits_but_modulus.ensures ∙ not-true c.in_limits_but_modulus.result c.if-not-in_limits_but_modulus.true-raw))

pub overflow_mul-setup : goal.overflow_mul-setup
overflow_mul-setup c = let l = limits (goal.at.overflow_mul-setup c).Else-not-in_limits_but_modulus in omega arith

pub overflow_add-setup : goal.overflow_add-setup
overflow_add-setup c = let l = limits (goal.at.overflow_add-setup c).Else-not-in_limits_but_modulus in omega arith

pub overflow_add-setup-2 : goal.overflow_add-setup-2
overflow_add-setup-2 c = let l = limits (goal.at.overflow_add-setup-2 c).Else-not-in_limits_but_modulus in omega arith

pub returns-then-setup : goal.returns-then-setup
unfolding within least_modulus
returns-then-setup c =
    let s = setup_of c.args.setup in
    sym (modulus-last s ∙ rw (others (goal.at.returns-then-setup c).Else-not-in_limits_but_modulus, lt-leb (least_modulus s.epsilon s.delta) s.modulus (omega (arith, c.if-setup.true))))

pub returns : goal.returns
unfolding within least_modulus
returns c =
    let s = setup_of c.args.setup in
    sym (modulus-last s ∙ rw (others (goal.at.returns c).Else-not-in_limits_but_modulus, le-leb (least_modulus s.epsilon s.delta) s.modulus (omega (arith, c.if-setup.false))))
