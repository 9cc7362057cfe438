-- `frame::reader::read` meets its contract. Assumes nothing.
use mathlib.Core.Bool.{true}
use mathlib.Core.Path.{◌≡◌, ◌∙◌, sym}
use Rattle.lemmas.proofs.Questions.{limits-from}
use Rattle.model.specs.Frame.{well_formed}
use Rattle.model.specs.Setup.{in_limits}
use Rattle.frame.proofs.Asking.{read-passed, read-accepted, read-refused}
use Rattle.setup.specs.Views.{setup_of}
use Rattle.frame.proofs.reader.read.Goals.{Else-number-ne0}
use Rattle.frame.proofs.reader.read.Goals as goal

-- what an accepted frame has
accepted : (c : Else-number-ne0) → (in_limits (setup_of c.args.setup) ≡ true) × (well_formed c.args.setup.epsilon c.args.frame.now ≡ true)
accepted c = read-passed (setup_of c.args.setup) c.args.own c.args.frame.now (sym c.check_read-number.ensures ∙ c.if-number-ne0.false)

pub returns-then-number-ne0 : goal.returns-then-number-ne0
returns-then-number-ne0 c =
    rw (read-refused (setup_of c.args.setup) c.args.own c.args.frame.now c.check_read-number.result c.check_read-number.ensures c.if-number-ne0.true)
    c.refused.ensures

pub stamp_of-stamp-requires : goal.stamp_of-stamp-requires
stamp_of-stamp-requires c = ((limits-from (setup_of c.args.setup) (accepted (goal.at.stamp_of-stamp-requires c).Else-number-ne0).0).epsilon-most, (accepted (goal.at.stamp_of-stamp-requires c).Else-number-ne0).1)

pub returns : goal.returns
returns c =
    rw (read-accepted (setup_of c.args.setup) c.args.own c.args.frame.now c.check_read-number.result c.check_read-number.ensures c.if-number-ne0.false)
    (cc (c.station_of.ensures c.args.setup.epsilon, c.stamp_of-stamp.ensures))
