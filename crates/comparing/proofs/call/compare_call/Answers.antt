-- `comparing::call::compare_call` meets its contract. Assumes nothing.
use mathlib.Core.Path.{◌∙◌, sym, ap}
use Rattle.setup.specs.Views.{setup_of}
use Rattle.model.specs.Comparison.{compare_by}
use Rattle.comparing.proofs.Asking.{all-passed, call-refused, call-accepted}
use Rattle.comparing.proofs.call.compare_call.Goals as goal

pub returns-then-number-ne0 : goal.returns-then-number-ne0
returns-then-number-ne0 c =
    let a = c.args in
    c.refused.ensures
    ∙ call-refused (setup_of a.setup) a.own a.clock a.first.now a.second.now c.check_compare-number.result c.check_compare-number.ensures c.if-number-ne0.true

pub compare_frames-requires : goal.compare_frames-requires
compare_frames-requires c =
    let a = c.args in
    let p = all-passed (setup_of a.setup) a.own a.clock a.first.now a.second.now (sym c.check_compare-number.ensures ∙ c.if-number-ne0.false) in
    record { setup_value = (p.limits, p.below); f_value = (p.first_passes, p.second-passes) }

pub returns : goal.returns
returns c =
    let a = c.args in
    c.numbers_of.ensures
    ∙ (ap (compare_by 0) c.compare_frames.ensures
    ∙ call-accepted (setup_of a.setup) a.own a.clock a.first.now a.second.now (sym c.if-number-ne0.false ∙ c.check_compare-number.ensures))
