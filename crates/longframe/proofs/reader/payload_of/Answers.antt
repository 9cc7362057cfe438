-- `longframe::reader::payload_of` meets its contract. Assumes nothing.
use mathlib.Core.Path.{◌∙◌, sym, ap}
use mathlib.Core.List.{List}
use Prim.Native.Nat.{ℕ}
use Rattle.model.specs.Frame.{decode}
use Rattle.model.specs.Long.{long_decode}
use Rattle.longframe.proofs.Asking.{read-passed, read-accepted, read-refused}
use Rattle.setup.specs.Views.{setup_of}
use Rattle.model.specs.Codec.{ReadAnswer}
use Rattle.longframe.proofs.reader.payload_of.Goals as goal

pub returns-then-check_read-ne0 : goal.returns-then-check_read-ne0
returns-then-check_read-ne0 c =
    let a = c.args in
    sym (ap (λ (r : ReadAnswer). r.payload) (read-refused (setup_of a.setup) a.own a.frame.now c.check_read.result c.check_read.ensures c.if-check_read-ne0.true))

pub payload_part-requires : goal.payload_part-requires
payload_part-requires c =
    let a = c.args in
    (read-passed (setup_of a.setup) a.own a.frame.now (sym c.check_read.ensures ∙ c.if-check_read-ne0.false)).0.epsilon-most

pub returns : goal.returns
unfolding long_decode
returns c =
    let a = c.args in
    c.payload_part.ensures ∙ ap (λ (l : List ℕ). (decode a.setup.epsilon l).payload) c.six_on.ensures
    ∙ sym (ap (λ (r : ReadAnswer). r.payload) (read-accepted (setup_of a.setup) a.own a.frame.now c.check_read.result c.check_read.ensures c.if-check_read-ne0.false))
