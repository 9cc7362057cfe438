-- `holdback::timing::reading_of` meets its contract: a reading is `near` at the r that the frame has. Assumes nothing.
use Rattle.std.proofs.Common.{ap, ◌∙◌, arith}
use Rattle.setup.specs.Views.{setup_of}
use Rattle.lemmas.proofs.Questions.{limits-from}
use Rattle.model.specs.Timestamp.{near}
use Rattle.model.specs.Order.{reading_of}
use Rattle.holdback.proofs.timing.reading_of.Goals as goal

pub near-requires : goal.near-requires
near-requires c =
    let limits = limits-from (setup_of c.args.setup) c.requires.setup_value.0 in
    let r = c.r_of.ensures c.args.setup.epsilon in
    omega arith

pub returns : goal.returns
unfolding reading_of
returns c = c.near.ensures ∙ ap (near c.args.setup.epsilon c.args.setup.modulus c.args.clock) (c.r_of.ensures c.args.setup.epsilon)
