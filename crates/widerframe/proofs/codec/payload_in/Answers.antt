-- `widerframe::codec::payload_in` meets its contract. Assumes nothing.
use Prim.Native.Nat.{◌-◌}
use mathlib.Core.Path.{◌≡◌, sym, ap, ◌∙◌}
use mathlib.Core.List.{[], ◌∷◌}
use lib.ListN.{get_or}
use Rattle.model.specs.Question.{first_no}
use Rattle.model.specs.Schedule.{Schedule, ask_both, ask_wider}
use Rattle.model.specs.WiderCalls.{pairs_of, ReadInAnswer}
use Rattle.setup.specs.Views.{setup_of}
use Rattle.pairs.specs.Views.{wider_of, pair_of}
use Rattle.widerframe.proofs.Codecs.{read-in-refused, payload-in-side}
use Rattle.widerframe.proofs.codec.payload_in.Goals.{After-side_in, Else-check_both-ne0}
use Rattle.widerframe.proofs.codec.payload_in.Goals as goal

-- 1 and 19 got a yes, and the pair that has the width
passed : (c : Else-check_both-ne0) → let a = c.args in 0 ≡ first_no (ask_both (setup_of a.setup) (wider_of a.wider) a.own ∷ ask_wider (setup_of a.setup) (wider_of a.wider) ∷ [])
passed c = sym c.if-check_both-ne0.false ∙ c.check_both.ensures

side : (c : After-side_in) → let a = c.args in
    setup_of c.side_in.result ≡ pair_of (pairs_of (setup_of a.setup) (wider_of a.wider)) (get_or a.frame.now 4 0 - 1)
side c =
    let a = c.args in
    c.side_in.ensures ∙ ap (λ (g : Schedule). pair_of g (get_or a.frame.now 4 0 - 1)) c.pairs_of.ensures

pub returns-then-check_both-ne0 : goal.returns-then-check_both-ne0
returns-then-check_both-ne0 c =
    let a = c.args in
    sym (ap (λ (r : ReadInAnswer). r.payload)
    (read-in-refused (setup_of a.setup) (wider_of a.wider) a.own a.frame.now c.check_both.result c.check_both.ensures c.if-check_both-ne0.true))

pub returns : goal.returns
returns c =
    let a = c.args in
    c.payload_of.ensures
    ∙ sym (payload-in-side (setup_of a.setup) (wider_of a.wider) a.own a.frame.now (passed (goal.at.returns c).Else-check_both-ne0) (setup_of c.side_in.result) (side (goal.at.returns c).After-side_in))
