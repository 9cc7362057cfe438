-- `longframe::reader::read` meets its contract. Assumes nothing.
use mathlib.Core.Bool.{true}
use mathlib.Core.Path.{◌≡◌, ◌∙◌, sym}
use Rattle.lemmas.proofs.Bounds.{LongLimits}
use Rattle.model.specs.Long.{long_formed}
use Rattle.longframe.proofs.Asking.{read-passed, read-accepted, read-refused}
use Rattle.setup.specs.Views.{setup_of}
use Rattle.longframe.proofs.reader.read.Goals.{Else-number-ne0}
use Rattle.longframe.proofs.reader.read.Goals as goal

-- what an accepted frame has
accepted : (c : Else-number-ne0) → let a = c.args in (LongLimits (setup_of a.setup)) × (long_formed a.setup.epsilon a.frame.now ≡ true)
accepted c =
    let a = c.args in
    read-passed (setup_of a.setup) a.own a.frame.now (sym c.check_read-number.ensures ∙ c.if-number-ne0.false)

pub returns-then-number-ne0 : goal.returns-then-number-ne0
returns-then-number-ne0 c =
    let a = c.args in
    rw (read-refused (setup_of a.setup) a.own a.frame.now c.check_read-number.result c.check_read-number.ensures c.if-number-ne0.true)
    c.refused.ensures

pub stamp_of-stamp-requires : goal.stamp_of-stamp-requires
stamp_of-stamp-requires c = ((accepted (goal.at.stamp_of-stamp-requires c).Else-number-ne0).0.epsilon-most, (accepted (goal.at.stamp_of-stamp-requires c).Else-number-ne0).1)

pub returns : goal.returns
returns c =
    let a = c.args in
    rw (read-accepted (setup_of a.setup) a.own a.frame.now c.check_read-number.result c.check_read-number.ensures c.if-number-ne0.false)
    (cc (c.station_of.ensures a.setup.epsilon, c.stamp_of-stamp.ensures))
