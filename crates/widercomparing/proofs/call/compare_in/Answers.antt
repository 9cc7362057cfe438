-- `widercomparing::call::compare_in` meets its contract: one question after the other; equal pairs are one. Assumes nothing.
use mathlib.Core.Path.{◌≡◌, sym, ap, ◌∙◌}
use mathlib.Core.List.{[], ◌∷◌, ◌++◌}
use native.Mathlib.Omega.{arith}
use Rattle.lemmas.proofs.WiderCall.{BothPairs}
use Rattle.model.specs.Question.{first_no}
use Rattle.model.specs.Comparison.{compare_by}
use Rattle.model.specs.Schedule.{Schedule, ask_both, ask_wider, modulus_of}
use Rattle.model.specs.Wider.{wider_decode, wider_frame_questions}
use Rattle.model.specs.WiderCalls.{wider_compared}
use Rattle.setup.specs.Views.{setup_of}
use Rattle.pairs.specs.Views.{wider_of}
use Rattle.pairs.proofs.Sides.{asked-from, near-good, near-along}
use Rattle.widercomparing.proofs.Asking.{call-refused, call-equal, clock-refused, clock-left}
use Rattle.widercomparing.proofs.call.compare_in.Goals.{Else-number-ne0}
use Rattle.widercomparing.proofs.call.compare_in.Goals as goal

-- 1 and 19 got a yes
passed : (c : Else-number-ne0) → let a = c.args in 0 ≡ first_no (ask_both (setup_of a.setup) (wider_of a.wider) a.own ∷ ask_wider (setup_of a.setup) (wider_of a.wider) ∷ [])
passed c = sym c.if-number-ne0.false ∙ c.check_both-number.ensures

both : (c : Else-number-ne0) → let a = c.args in BothPairs (setup_of a.setup) (wider_of a.wider)
both c = let a = c.args in (asked-from (setup_of a.setup) (wider_of a.wider) a.own (passed c)).both

pub returns-then-number-ne0 : goal.returns-then-number-ne0
returns-then-number-ne0 c =
    let a = c.args in
    c.refused.ensures
    ∙ call-refused (setup_of a.setup) (wider_of a.wider) a.own a.clock a.first.now a.second.now c.check_both-number.result c.check_both-number.ensures c.if-number-ne0.true

pub returns-then-same_pairs : goal.returns-then-same_pairs
returns-then-same_pairs c =
    let a = c.args in
    c.compare_call.ensures
    ∙ call-equal (setup_of a.setup) (wider_of a.wider) a.own a.clock a.first.now a.second.now (both (goal.at.returns-then-same_pairs c).Else-number-ne0) (sym c.same_pairs.ensures ∙ c.if-same_pairs.true)

pub returns-then-setup-clock : goal.returns-then-setup-clock
returns-then-setup-clock c =
    let a = c.args in
    c.refused-then-setup-clock.ensures
    ∙ clock-refused (setup_of a.setup) (wider_of a.wider) a.own a.clock a.first.now a.second.now (passed (goal.at.returns-then-setup-clock c).Else-number-ne0) c.if-setup-clock.true

pub pairs_near-requires : goal.pairs_near-requires
pairs_near-requires c = (both (goal.at.pairs_near-requires c).Else-number-ne0, c.if-setup-clock.false)

pub compare_pairs-requires : goal.compare_pairs-requires
compare_pairs-requires c =
    let a = c.args in (
      near-good c.pairs_near.result (setup_of a.setup) (wider_of a.wider) a.clock (both (goal.at.compare_pairs-requires c).Else-number-ne0) c.pairs_near.ensures,
      omega (arith, ap modulus_of c.pairs_near.ensures.schedule, c.if-setup-clock.false),
    )

pub returns : goal.returns
returns c =
    let a = c.args in
    let s = setup_of a.setup in
    let w = wider_of a.wider in
    let differ = sym c.same_pairs.ensures ∙ c.if-same_pairs.false in
    c.compare_pairs.ensures
    ∙ (ap (λ (g : Schedule). compare_by (first_no (wider_frame_questions g a.first.now ++ wider_frame_questions g a.second.now)) (wider_compared g a.clock (wider_decode g a.first.now) (wider_decode g a.second.now)))
    (near-along c.pairs_near.result s w a.clock differ c.pairs_near.ensures)
    ∙ clock-left s w a.own a.clock a.first.now a.second.now (passed (goal.at.returns c).Else-number-ne0) c.if-setup-clock.false)
