-- `frame::reader::payload_of` meets its contract. Assumes nothing.
use mathlib.Core.Bool.{true}
use mathlib.Core.Path.{◌≡◌, ◌∙◌, sym, ap}
use native.Mathlib.Omega.{arith}
use Rattle.lemmas.proofs.RoundTrip.{Formed, formed-from}
use Rattle.model.specs.Frame.{well_formed}
use Rattle.model.specs.Setup.{in_limits, width}
use Rattle.frame.proofs.Asking.{read-passed, read-accepted, read-refused, payload-part}
use Rattle.setup.specs.Views.{setup_of}
use Rattle.model.specs.Codec.{ReadAnswer}
use Rattle.frame.proofs.reader.payload_of.Goals.{Else-check_read-ne0}
use Rattle.frame.proofs.reader.payload_of.Goals as goal

-- what an accepted frame has
accepted : (c : Else-check_read-ne0) → (in_limits (setup_of c.args.setup) ≡ true) × (well_formed c.args.setup.epsilon c.args.frame.now ≡ true)
accepted c = read-passed (setup_of c.args.setup) c.args.own c.args.frame.now (sym c.check_read.ensures ∙ c.if-check_read-ne0.false)

pub returns-then-check_read-ne0 : goal.returns-then-check_read-ne0
returns-then-check_read-ne0 c = sym (ap (λ (a : ReadAnswer). a.payload) (read-refused (setup_of c.args.setup) c.args.own c.args.frame.now c.check_read.result c.check_read.ensures c.if-check_read-ne0.true))

pub slice_bounds-result-count : goal.slice_bounds-result-count
unfolding width
slice_bounds-result-count c = let w : Formed c.args.setup.epsilon c.args.frame.now = formed-from c.args.setup.epsilon c.args.frame.now (accepted (goal.at.slice_bounds-result-count c).Else-check_read-ne0).1 in omega arith

pub slice_bounds-result-start : goal.slice_bounds-result-start
unfolding width
slice_bounds-result-start c = let w : Formed c.args.setup.epsilon c.args.frame.now = formed-from c.args.setup.epsilon c.args.frame.now (accepted (goal.at.slice_bounds-result-start c).Else-check_read-ne0).1 in omega arith

pub returns : goal.returns
returns c = payload-part c.args.setup.epsilon c.args.frame.now ∙ sym (ap (λ (a : ReadAnswer). a.payload) (read-accepted (setup_of c.args.setup) c.args.own c.args.frame.now c.check_read.result c.check_read.ensures c.if-check_read-ne0.false))
