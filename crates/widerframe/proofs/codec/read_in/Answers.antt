-- `widerframe::codec::read_in` meets its contract: behind 1 and 19 it is the plain reader of the pair that has the width. Assumes nothing.
use Prim.Native.Nat.{◌-◌}
use mathlib.Core.Path.{◌≡◌, refl, sym, ap, ◌∙◌}
use mathlib.Core.Bool.{false}
use mathlib.Core.List.{[], ◌∷◌}
use lib.Dec.{ltb}
use lib.ListN.{get_or}
use Rattle.model.specs.Codec.{ReadAnswer}
use Rattle.model.specs.Question.{first_no}
use Rattle.model.specs.Schedule.{Schedule, ask_both, ask_wider}
use Rattle.model.specs.WiderCalls.{pairs_of}
use Rattle.setup.specs.Views.{setup_of}
use Rattle.pairs.specs.Views.{wider_of, pair_of}
use Rattle.widerframe.proofs.Codecs.{with_width, read-in-refused, read-in-side}
use Rattle.widerframe.proofs.codec.read_in.Goals.{After-side_in-side, Else-number-ne0}
use Rattle.widerframe.proofs.codec.read_in.Goals as goal

-- 1 and 19 got a yes, and the pair that has the width
passed : (c : Else-number-ne0) → let a = c.args in 0 ≡ first_no (ask_both (setup_of a.setup) (wider_of a.wider) a.own ∷ ask_wider (setup_of a.setup) (wider_of a.wider) ∷ [])
passed c = sym c.if-number-ne0.false ∙ c.check_both-number.ensures

side : (c : After-side_in-side) → let a = c.args in
    setup_of c.side_in-side.result ≡ pair_of (pairs_of (setup_of a.setup) (wider_of a.wider)) (get_or a.frame.now 4 0 - 1)
side c =
    let a = c.args in
    c.side_in-side.ensures ∙ ap (λ (g : Schedule). pair_of g (get_or a.frame.now 4 0 - 1)) c.pairs_of.ensures

pub returns-then-number-ne0 : goal.returns-then-number-ne0
returns-then-number-ne0 c =
    let a = c.args in
    rw (read-in-refused (setup_of a.setup) (wider_of a.wider) a.own a.frame.now c.check_both-number.result c.check_both-number.ensures c.if-number-ne0.true)
    (ap (with_width false) c.refused-none.ensures)

pub returns-then-contents-ne0 : goal.returns-then-contents-ne0
returns-then-contents-ne0 c =
    let a = c.args in
    let answer = c.read-contents in
    let number = ap (λ (r : ReadAnswer). r.number) answer.ensures in
    rw (read-in-side (setup_of a.setup) (wider_of a.wider) a.own a.frame.now (passed (goal.at.returns-then-contents-ne0 c).Else-number-ne0) (setup_of c.side_in-side.result) (side (goal.at.returns-then-contents-ne0 c).After-side_in-side)
    false (λ z. absurd (c.if-contents-ne0.true (number ∙ z))) (λ z. refl))
    (ap (with_width false) answer.ensures)

pub returns : goal.returns
returns c =
    let a = c.args in
    let answer = c.read-contents in
    let number = ap (λ (r : ReadAnswer). r.number) answer.ensures in
    let wide = ltb a.setup.epsilon c.side_in-side.result.epsilon in
    rw (read-in-side (setup_of a.setup) (wider_of a.wider) a.own a.frame.now (passed (goal.at.returns c).Else-number-ne0) (setup_of c.side_in-side.result) (side (goal.at.returns c).After-side_in-side)
    wide (λ z. refl) (λ z. absurd (z (sym number ∙ c.if-contents-ne0.false))))
    (ap (with_width wide) answer.ensures)
