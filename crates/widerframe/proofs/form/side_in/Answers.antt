-- `widerframe::form::side_in` meets its contract. Assumes nothing.
use mathlib.Core.Path.{ap, ◌∙◌}
use Rattle.pairs.specs.Views.{schedule_of, pair_of}
use Rattle.widerframe.proofs.form.side_in.Goals as goal

pub returns : goal.returns
returns c =
    let a = c.args in
    c.side_of.ensures ∙ ap (pair_of (schedule_of a.p)) c.count_in.ensures
