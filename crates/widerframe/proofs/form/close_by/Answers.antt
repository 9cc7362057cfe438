-- `widerframe::form::close_by` meets its contract. Assumes nothing.
use mathlib.Core.Path.{ap}
use Prim.Native.Nat.{◌≤◌, ◌<◌}
use native.Mathlib.Omega.{arith}
use borrow.Author.Tests.{lt-ltb, le-ltb}
use Rattle.model.specs.Setup.{Setup}
use Rattle.model.specs.Schedule.{own_limits}
use Rattle.pairs.specs.Views.{schedule_of}
use Rattle.widerframe.proofs.Widths.{close-no}
use Rattle.widerframe.proofs.form.close_by.Goals as goal

pub returns-then-number-ne0 : goal.returns-then-number-ne0
returns-then-number-ne0 c = close-no c.args.number _ c.if-number-ne0.true

pub returns-then-own-c : goal.returns-then-own-c
returns-then-own-c c =
    let a = c.args in
    let own = (own_limits (schedule_of a.p)).epsilon in
    let far : own ≤ a.c = omega (arith, ap (λ (s : Setup). s.epsilon) c.own_limits-own.ensures, c.if-own-c.true) in
    rw (c.if-number-ne0.false, le-ltb a.c own far)

pub returns : goal.returns
returns c =
    let a = c.args in
    let own = (own_limits (schedule_of a.p)).epsilon in
    let close : a.c < own = omega (arith, ap (λ (s : Setup). s.epsilon) c.own_limits-own.ensures, c.if-own-c.false) in
    rw (c.if-number-ne0.false, lt-ltb a.c own close)
