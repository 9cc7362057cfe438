-- `widercomparing::call::check_frames` meets its contract. Assumes nothing.
use mathlib.Core.Path.{sym, ◌∙◌}
use Rattle.pairs.specs.Views.{schedule_of}
use Rattle.widercomparing.proofs.Asking.{first-no, second-left}
use Rattle.widercomparing.proofs.call.check_frames.Goals as goal

pub returns-then-number-ne0 : goal.returns-then-number-ne0
returns-then-number-ne0 c =
    let a = c.args in
    first-no (schedule_of a.p) a.first.now a.second.now c.check-number.result c.check-number.ensures c.if-number-ne0.true

pub returns : goal.returns
returns c =
    let a = c.args in
    c.check.ensures ∙ sym (second-left (schedule_of a.p) a.first.now a.second.now (sym c.check-number.ensures ∙ c.if-number-ne0.false))
