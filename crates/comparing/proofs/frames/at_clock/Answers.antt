-- `comparing::frames::at_clock` meets its contract: a count is named by its clock, other reasons stay. Assumes nothing.
use mathlib.Core.Path.{refl}
use denote.Enum.Declared
use Rattle.setup.specs.Views.{setup_of}
use Rattle.model.specs.Comparison.{count_clock}
use Rattle.comparing.proofs.Naming.{Tags, stays, named, counted-count}
use borrow.Enum.Refused.{opened}
use Rattle.comparing.proofs.frames.at_clock.Goals as goal

abbrev tags : Tags
tags = record { tag = Declared.tag_of Rattle.timestamp.specs.contracts.ordering.Reason.the_type; at_count = λ _. refl }

pub returns-in_default : goal.returns-in_default
returns-in_default c =
    let a = c.args in
    stays tags (count_clock (setup_of a.setup) a.clock a.sum) a.reason (opened c.in_default.in_default-own.keys2)

pub count_clock-requires : goal.count_clock-requires
count_clock-requires c = record { setup_value = c.requires.setup_value; k_le_sum = (counted-count c.args.sum c.args.reason c.in-Count.k c.in-Count.is c.requires.counted.0, c.requires.counted.1) }

pub returns : goal.returns
returns c =
    let a = c.args in
    named (count_clock (setup_of a.setup) a.clock a.sum) a.reason c.in-Count.k c.count_clock.result c.in-Count.is c.count_clock.ensures
