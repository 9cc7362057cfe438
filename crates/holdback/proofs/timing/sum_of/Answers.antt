-- `holdback::timing::sum_of` meets its contract: a reading and c, both bounded. Assumes nothing.
use Rattle.std.proofs.Common.{arith}
use Rattle.setup.specs.Views.{setup_of}
use Rattle.lemmas.proofs.Questions.{limits-from}
use Rattle.holdback.proofs.RoundTrip.{passing}
use Rattle.holdback.proofs.Testing.{summed}
use Rattle.holdback.proofs.timing.sum_of.Goals as goal

pub reading_of-requires : goal.reading_of-requires
reading_of-requires c = record { setup_value = c.requires.setup_value; frame_bound = (passing (setup_of c.args.setup) c.args.frame.now c.requires.frame_value).r-below }

pub overflow_add-result : goal.overflow_add-result
overflow_add-result c =
    let limits = limits-from (setup_of c.args.setup) c.requires.setup_value.0 in
    let total = summed (setup_of c.args.setup) c.args.clock c.args.frame.now c.reading_of.result c.c_of.result limits c.requires.frame_value c.reading_of.ensures (c.c_of.ensures c.args.setup.epsilon) in
    omega (arith, total.small)

pub returns : goal.returns
returns c =
    let limits = limits-from (setup_of c.args.setup) c.requires.setup_value.0 in
    summed (setup_of c.args.setup) c.args.clock c.args.frame.now c.reading_of.result c.c_of.result limits c.requires.frame_value c.reading_of.ensures (c.c_of.ensures c.args.setup.epsilon)
