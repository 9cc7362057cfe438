-- `rehearsal::step::rehearse_step` meets its contract. Assumes nothing.
use mathlib.Core.Path.{ap, ◌∙◌}
use native.Mathlib.Omega.{arith}
use Rattle.setup.specs.Views.{setup_of}
use Rattle.playing.specs.Playing.{among, run_numbers}
use Rattle.rehearsal.specs.Group.{Stepped}
use Rattle.rehearsal.specs.Standing.{outcome_of, outcome_by, left_of}
use Rattle.rehearsal.specs.declared.step.Rehearsed.{Rehearsed}
use Rattle.rehearsal.proofs.OneStep.{called_is, not-called-is, left-called, left-not-called, step-among}
use Rattle.rehearsal.proofs.step.rehearse_step.Goals as goal

pub returns-then-number-ne0 : goal.returns-then-number-ne0
returns-then-number-ne0 c =
    let a = c.args in
    let s = setup_of a.setup in
    record {
      text_after = ap (λ (r : Rehearsed). left_of r a.holdbacks.now a.slots.now a.text.now) c.not_called.ensures
          ∙ left-not-called s a.group a.holdbacks.now a.slots.now a.bytes.now c.step_number-number.result a.text.now c.step_number-number.ensures c.if-number-ne0.true;
      text_after_2 = ap (λ (r : Rehearsed). outcome_of s r a.holdbacks.now a.slots.now a.text.now) c.not_called.ensures
          ∙ not-called-is s a.group a.holdbacks.now a.slots.now a.bytes.now c.step_number-number.result a.text.now c.step_number-number.ensures c.if-number-ne0.true;
      standing_2 = rw c.not_called.ensures c.requires.standing;
      heard_bound = rw c.not_called.ensures (omega arith);
      number_value = rw c.not_called.ensures (ap (among run_numbers) c.step_number-number.ensures ∙ step-among _ _ a.bytes.now);
    }

pub returns : goal.returns
returns c =
    let a = c.args in
    record {
      text_after =
          c.call_step.ensures.text_after
          ∙ left-called (setup_of a.setup) a.group a.holdbacks.now a.slots.now a.bytes.now a.text.now c.step_number-number.ensures c.if-number-ne0.false;
      text_after_2 =
          c.call_step.ensures.text_after_2
          ∙ ap (λ (one : Stepped). outcome_by one a.text.now)
          (called_is (setup_of a.setup) a.group a.holdbacks.now a.slots.now a.bytes.now c.step_number-number.ensures c.if-number-ne0.false);
      standing_2 = c.call_step.ensures.standing;
      heard_bound = c.call_step.ensures.heard_bound;
      number_value = c.call_step.ensures.number_value;
    }
