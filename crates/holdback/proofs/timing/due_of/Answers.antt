-- `holdback::timing::due_of` meets its contract. Assumes nothing.
use Rattle.std.proofs.Common.{◌∙◌, arith}
use Rattle.setup.specs.Views.{setup_of}
use Rattle.lemmas.proofs.Questions.{limits-from}
use Rattle.model.specs.Frame.{decode}
use Rattle.holdback.proofs.Testing.{due-summed}
use Rattle.holdback.proofs.timing.due_of.Goals as goal

pub returns : goal.returns
returns c =
    let total = c.sum_of in
    let limits = limits-from (setup_of c.args.setup) c.requires.setup_value.0 in (
      c.sum_due.ensures ∙ due-summed (setup_of c.args.setup) c.args.clock (decode c.args.setup.epsilon c.args.frame.now) total.result total.ensures,
      omega (arith, c.sum_due.ensures, total.ensures.small, limits.delta-most, limits.epsilon-most),
    )
