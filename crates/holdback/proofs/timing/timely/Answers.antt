-- `holdback::timing::timely` meets its contract: one test for both ends. Assumes nothing.
use Rattle.setup.specs.Views.{setup_of}
use Rattle.lemmas.proofs.Questions.{limits-from}
use Rattle.holdback.proofs.Testing.{timely-by}
use Rattle.std.proofs.Common.{rules}
use Rattle.holdback.proofs.timing.timely.Goals as goal

pub returns : goal.returns
returns c =
    let s = setup_of c.args.setup in
    let own = c.sum_due-due in
    let last = c.sum_due in
    timely-by s c.args.least c.args.rank (limits-from s c.requires.setup_value.0) c.requires.setup_value.1 c.requires.reading_bound c.wrapping_sub_u64.result own.result last.result (search rules) own.ensures last.ensures c.wrapping_sub_u64.ensures.value
