-- `widerframe::form::check_side` meets its contract: by the count of the second section. Assumes nothing.
use mathlib.Core.Path.{sym, ◌∙◌}
use native.Mathlib.Omega.{arith}
use Rattle.lemmas.proofs.Questions.{limits-to}
use Rattle.setup.specs.Views.{setup_of}
use Rattle.widerframe.proofs.Widths.{side_after, side_before}
use Rattle.widerframe.proofs.form.check_side.Goals as goal

pub check_window-requires : goal.check_window-requires
check_window-requires c = record { setup_value = (limits-to (setup_of c.args.p.after) c.requires.paired.0.new, c.requires.before_value.1); epsilon_in_bounds = c.requires.paired.1 }

pub returns-then-count_in-p : goal.returns-then-count_in-p
returns-then-count_in-p c =
    let a = c.args in
    c.check_window.ensures
    ∙ side_after (setup_of a.p.before) (setup_of a.p.after) a.p.change a.w.now (sym c.count_in.ensures ∙ c.if-count_in-p.true)

pub check_window-requires-2 : goal.check_window-requires-2
check_window-requires-2 c = record { setup_value = (limits-to (setup_of c.args.p.before) c.requires.paired.0.old, c.requires.before_value.0); epsilon_in_bounds = omega (arith, c.requires.paired.0.epsilon, c.requires.paired.1) }

pub returns : goal.returns
returns c =
    let a = c.args in
    c.check_window-2.ensures
    ∙ side_before (setup_of a.p.before) (setup_of a.p.after) a.p.change a.w.now (λ e. c.if-count_in-p.false (c.count_in.ensures ∙ e))
