-- `pairs::limits::tables_half` meets its contract. Assumes nothing.
use mathlib.Core.Path.{ap, ◌∙◌}
use Rattle.model.specs.Setup.{Setup}
use Rattle.model.specs.Schedule.{limits_at}
use Rattle.pairs.specs.Views.{schedule_of}
use Rattle.pairs.proofs.limits.tables_half.Goals as goal

pub returns : goal.returns
returns c =
    let a = c.args in
    ap (λ (s : Setup). s.epsilon) (c.limits_at-limits.ensures ∙ ap (limits_at (schedule_of a.p)) c.past.ensures)
