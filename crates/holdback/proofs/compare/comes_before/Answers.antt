-- `holdback::compare::comes_before` meets its contract: the comparison of the two keys answers First. Assumes nothing.
use Rattle.std.proofs.Common.{refl}
use denote.Enum.Declared
use Rattle.timestamp.proofs.Ordered.{Tags}
use Rattle.holdback.proofs.Testing.{is-before, not-before}
use borrow.Enum.Refused.{opened}
use Rattle.holdback.proofs.compare.comes_before.Goals as goal

abbrev tags : Tags
tags =
    record {
      tag = Declared.tag_of Rattle.timestamp.specs.contracts.ordering.Comparison.the_type;
      at_first = λ _. refl;
      at_second = λ _. refl;
      at-alike = refl;
    }

pub returns-in_default : goal.returns-in_default
returns-in_default c = not-before tags c.args.epsilon c.args.f c.args.g c.args.kf.now c.args.kg.now c.compare_ranked-comparison.result c.compare_ranked-comparison.ensures (opened c.in_default.in_default-own.keys2)

pub returns : goal.returns
returns c = is-before tags c.args.epsilon c.args.f c.args.g c.args.kf.now c.args.kg.now c.compare_ranked-comparison.result c.compare_ranked-comparison.ensures c.in-First.in-First-own.keys1
