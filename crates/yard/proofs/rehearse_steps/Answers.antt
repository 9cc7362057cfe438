-- `yard::rehearse_steps` meets its contract. The invariant of its loop: what the steps so far left is that of taking them one by one. Assumes nothing.
use Prim.Native.Nat.{ℕ, suc, ◌≤◌, ◌<◌}
use native.Mathlib.Omega.{arith}
use mathlib.Core.Path.{◌≡◌, refl, sym, ap, subst, ◌∙◌}
use mathlib.Core.List.{List, [], ◌∷◌, ◌++◌}
use lib.ListN.{length, take, drop, length-append}
use lib.Seq.{length-take-le}
use borrow.Author.Rules.{rules}
use Rattle.setup.specs.Views.{setup_of}
use Rattle.playing.specs.Playing.{among, run_numbers}
use Rattle.playing.proofs.Refusals.{end-among}
use Rattle.rehearsal.specs.Step.{longest_step}
use Rattle.rehearsal.specs.Standing.{group_of, new_rehearsal}
use Rattle.rehearsal.specs.declared.step.Rehearsal.{Rehearsal}
use Rattle.rehearsal.proofs.OneStep.{steps_next, outcome-within}
use Rattle.rehearsal.proofs.Beginning.{group-new, stands-new}
use Rattle.rehearsal.proofs.Figuring.{figures-start}
use Rattle.yard.proofs.Running.{Turned, turned_none, turned-next, buffers-none, buffers-next, ran_to, ran-all}
use Rattle.yard.specs.Running.{buffers_of, buffers_by}
use Rattle.yard.proofs.rehearse_steps.Given.{Over}
use Rattle.yard.proofs.rehearse_steps.Goals.{After-note_verdicts-noted, After-rehearse_step-one}
use Rattle.yard.proofs.rehearse_steps.Goals as goal

-- the bytes of the steps with this one
abbrev came-now : (g : Over) → After-rehearse_step-one g → List (List ℕ)
came-now g p = p.loop-group.invariant.came ++ (take p.read_step-used.result p.read_step-used.new.bytes ∷ [])

-- the step is the next
next : (g : Over) (c : After-note_verdicts-noted g)
    → Turned (setup_of c.args.setup) c.rehearse_step-one.result.number c.rehearse_step-one.result.group c.note_verdicts-noted.result
    c.rehearse_step-one.new.holdbacks c.rehearse_step-one.new.slots (c.loop-group.invariant.came ++ (take c.read_step-used.result c.read_step-used.new.bytes ∷ []))
next g c =
    turned-next (setup_of c.args.setup) c.loop-group.group c.rehearse_step-one.result c.loop-group.figures c.note_verdicts-noted.result c.loop-group.holdbacks c.loop-group.slots _ c.loop-group.text _ _ _ c.loop-group.invariant.came
    c.loop-group.invariant.turned c.loop-group.invariant.count c.rehearse_step-one.ensures.text_after_2 c.note_verdicts-noted.ensures

-- and was not refused
good : (g : Over) (c : After-note_verdicts-noted g) → c.rehearse_step-one.result.number ≡ 0
    → Turned (setup_of c.args.setup) 0 c.rehearse_step-one.result.group c.note_verdicts-noted.result
    c.rehearse_step-one.new.holdbacks c.rehearse_step-one.new.slots (c.loop-group.invariant.came ++ (take c.read_step-used.result c.read_step-used.new.bytes ∷ []))
good g c e =
    subst
    (λ (n : ℕ).
    Turned (setup_of c.args.setup) n c.rehearse_step-one.result.group c.note_verdicts-noted.result
    c.rehearse_step-one.new.holdbacks c.rehearse_step-one.new.slots (c.loop-group.invariant.came ++ (take c.read_step-used.result c.read_step-used.new.bytes ∷ [])))
    e (next g c)

-- how many steps came
came-long : (g : Over) (p : After-rehearse_step-one g) → length (came-now g p) ≡ suc p.loop-group.group.steps
came-long g p =
    omega (
      arith,
      length-append p.loop-group.invariant.came (take p.read_step-used.result p.read_step-used.new.bytes ∷ []),
      p.loop-group.invariant.count,
    )

less : (g : Over) (p : After-rehearse_step-one g) → p.loop-group.group.steps < p.args.steps
less g p = p.loop-group-test.true

few : (g : Over) (p : After-rehearse_step-one g) → length (came-now g p) ≤ p.args.steps
few g p = omega (arith, came-long g p, less g p)

-- where it was not refused the group has one more
one_more : (g : Over) (p : After-rehearse_step-one g) → p.rehearse_step-one.result.number ≡ 0 → p.rehearse_step-one.result.group.steps ≡ suc p.loop-group.group.steps
one_more g p e = steps_next (setup_of p.args.setup) p.loop-group.group p.rehearse_step-one.result p.loop-group.holdbacks p.loop-group.slots _ p.loop-group.text _ _ _ p.rehearse_step-one.ensures.text_after_2 e

-- every byte, with this step
buffers-now : (g : Over) (p : After-rehearse_step-one g)
    → buffers_of p.rehearse_step-one.result.group p.rehearse_step-one.new.holdbacks p.rehearse_step-one.new.slots p.rehearse_step-one.new.text
    ≡ buffers_by (setup_of p.args.setup) (buffers_of new_rehearsal p.args.holdbacks.now p.args.slots.now p.args.text.now) (came-now g p)
buffers-now g p = buffers-next (setup_of p.args.setup) p.loop-group.group p.rehearse_step-one.result p.loop-group.holdbacks p.loop-group.slots _ p.loop-group.text _ _ _ _ p.loop-group.invariant.came p.loop-group.invariant.buffers p.rehearse_step-one.ensures.text_after

past-now : (g : Over) (p : After-rehearse_step-one g) → drop longest_step p.read_step-used.new.bytes ≡ drop longest_step p.args.bytes.now
past-now g p = p.read_step-used.ensures.rest_unchanged ∙ p.loop-group.invariant.past

-- the buffers are as long as they were
queues-long : (g : Over) (p : After-rehearse_step-one g) → length p.rehearse_step-one.new.holdbacks ≡ length p.args.holdbacks.now
queues-long g p = p.rehearse_step-one.auto.holdbacks ∙ p.loop-group.invariant.same-queues

slots-long : (g : Over) (p : After-rehearse_step-one g) → length p.rehearse_step-one.new.slots ≡ length p.args.slots.now
slots-long g p = p.rehearse_step-one.auto.slots ∙ p.loop-group.invariant.same-slots

bytes-long : (g : Over) (p : After-rehearse_step-one g) → length p.read_step-used.new.bytes ≡ length p.args.bytes.now
bytes-long g p = p.read_step-used.auto.bytes ∙ p.loop-group.invariant.same_bytes

text-long : (g : Over) (p : After-rehearse_step-one g) → length p.rehearse_step-one.new.text ≡ length p.args.text.now
text-long g p = p.rehearse_step-one.auto.text ∙ p.loop-group.invariant.same_text

-- its lines stand in the text
within : (g : Over) (p : After-rehearse_step-one g) → p.rehearse_step-one.result.size ≤ length p.rehearse_step-one.new.text
within g p = outcome-within _ _ _ p.rehearse_step-one.ensures.text_after_2

-- and its verdicts in their buffer
heard-within : (g : Over) (p : After-rehearse_step-one g) → p.rehearse_step-one.result.heard ≤ length p.rehearse_step-one.result.verdicts
heard-within g p =
    let long : length p.rehearse_step-one.result.verdicts ≡ 255 = search (rules, p.rehearse_step-one.type_inv) in
    omega (arith, p.rehearse_step-one.ensures.heard_bound)

pub loop-group-init : goal.loop-group-init
loop-group-init g c =
    let a = c.args in
    let s = setup_of a.setup in
    record {
      came = [];
      turned =
          turned_none s _ _ _ _
          (ap (λ (y : Rehearsal). group_of s y a.holdbacks.now a.slots.now) c.new_group-group.ensures ∙ group-new s a.holdbacks.now a.slots.now c.requires.usable.limits c.requires.empty)
          (sym figures-start);
      buffers = buffers-none s c.new_group-group.result new_rehearsal a.holdbacks.now a.slots.now a.text.now c.new_group-group.ensures;
      past = refl;
      standing = rw c.new_group-group.ensures (stands-new s a.holdbacks.now a.slots.now c.requires.usable.limits c.requires.usable.small c.requires.queues c.requires.size);
      count = ap (λ (y : Rehearsal). y.steps) (sym c.new_group-group.ensures);
      most = omega (arith, ap (λ (y : Rehearsal). y.steps) c.new_group-group.ensures);
      same-queues = refl;
      same-slots = refl;
      same_bytes = refl;
      same_text = refl;
    }

pub read_step-used-requires : goal.read_step-used-requires
read_step-used-requires g c = omega (arith, c.requires.space, c.loop-group.invariant.same_bytes)

pub slice_bounds-rehearse_step-end : goal.slice_bounds-rehearse_step-end
slice_bounds-rehearse_step-end g c = c.read_step-used.ensures.came.within

pub slice_bounds-rehearse_step-end-in-loop-group : goal.slice_bounds-rehearse_step-end-in-loop-group
slice_bounds-rehearse_step-end-in-loop-group g c = sym (length-take-le _ _ c.read_step-used.ensures.came.within)

pub rehearse_step-one-requires : goal.rehearse_step-one-requires
rehearse_step-one-requires g c = record { standing = c.loop-group.invariant.standing; steps_bound = (omega (arith, c.requires.few, c.loop-group-test.true), omega (arith, c.requires.room, c.loop-group.invariant.same_text)) }

pub slice_bounds-verdicts-end : goal.slice_bounds-verdicts-end
slice_bounds-verdicts-end g c = heard-within g (goal.at.slice_bounds-verdicts-end g c).After-rehearse_step-one

pub slice_bounds-note_verdicts-end : goal.slice_bounds-note_verdicts-end
slice_bounds-note_verdicts-end g c = sym (length-take-le _ _ (heard-within g (goal.at.slice_bounds-note_verdicts-end g c).After-rehearse_step-one))

pub overflow_add-group : goal.overflow_add-group
overflow_add-group g c = omega (arith, less g (goal.at.overflow_add-group g c).After-rehearse_step-one, c.requires.few)

pub shape_of-holdbacks-then-one-ne0 : goal.shape_of-holdbacks-then-one-ne0
shape_of-holdbacks-then-one-ne0 g c = queues-long g (goal.at.shape_of-holdbacks-then-one-ne0 g c).After-rehearse_step-one

pub shape_of-slots-then-one-ne0 : goal.shape_of-slots-then-one-ne0
shape_of-slots-then-one-ne0 g c = slots-long g (goal.at.shape_of-slots-then-one-ne0 g c).After-rehearse_step-one

pub shape_of-bytes-then-one-ne0 : goal.shape_of-bytes-then-one-ne0
shape_of-bytes-then-one-ne0 g c = bytes-long g (goal.at.shape_of-bytes-then-one-ne0 g c).After-rehearse_step-one

pub shape_of-text-then-one-ne0 : goal.shape_of-text-then-one-ne0
shape_of-text-then-one-ne0 g c = text-long g (goal.at.shape_of-text-then-one-ne0 g c).After-rehearse_step-one

pub returns-then-one-ne0 : goal.returns-then-one-ne0
returns-then-one-ne0 g c = record { ran = ran_to _ _ _ _ _ _ _ _ _ _ (next g (goal.at.returns-then-one-ne0 g c).After-note_verdicts-noted) (few g (goal.at.returns-then-one-ne0 g c).After-rehearse_step-one) (buffers-now g (goal.at.returns-then-one-ne0 g c).After-rehearse_step-one); bytes_unchanged = past-now g (goal.at.returns-then-one-ne0 g c).After-rehearse_step-one; number_value = c.rehearse_step-one.ensures.number_value }

pub slice_bounds-write_all-end : goal.slice_bounds-write_all-end
slice_bounds-write_all-end g c = within g (goal.at.slice_bounds-write_all-end g c).After-rehearse_step-one

pub slice_bounds-write_all-end-in-loop-group : goal.slice_bounds-write_all-end-in-loop-group
slice_bounds-write_all-end-in-loop-group g c = sym (length-take-le _ _ (within g (goal.at.slice_bounds-write_all-end-in-loop-group g c).After-rehearse_step-one))

pub shape_of-holdbacks-then-is_err : goal.shape_of-holdbacks-then-is_err
shape_of-holdbacks-then-is_err g c = queues-long g (goal.at.shape_of-holdbacks-then-is_err g c).After-rehearse_step-one

pub shape_of-slots-then-is_err : goal.shape_of-slots-then-is_err
shape_of-slots-then-is_err g c = slots-long g (goal.at.shape_of-slots-then-is_err g c).After-rehearse_step-one

pub shape_of-bytes-then-is_err : goal.shape_of-bytes-then-is_err
shape_of-bytes-then-is_err g c = bytes-long g (goal.at.shape_of-bytes-then-is_err g c).After-rehearse_step-one

pub shape_of-text-then-is_err : goal.shape_of-text-then-is_err
shape_of-text-then-is_err g c = text-long g (goal.at.shape_of-text-then-is_err g c).After-rehearse_step-one

pub returns-then-is_err : goal.returns-then-is_err
returns-then-is_err g c = record { ran = ran_to _ _ _ _ _ _ _ _ _ _ (good g (goal.at.returns-then-is_err g c).After-note_verdicts-noted c.if-one-ne0.false) (few g (goal.at.returns-then-is_err g c).After-rehearse_step-one) (buffers-now g (goal.at.returns-then-is_err g c).After-rehearse_step-one); bytes_unchanged = past-now g (goal.at.returns-then-is_err g c).After-rehearse_step-one; number_value = ap (among run_numbers) (sym c.if-one-ne0.false) ∙ c.rehearse_step-one.ensures.number_value }

pub loop-group-smaller : goal.loop-group-smaller
loop-group-smaller g c = omega (arith, one_more g (goal.at.loop-group-smaller g c).After-rehearse_step-one c.if-one-ne0.false, less g (goal.at.loop-group-smaller g c).After-rehearse_step-one)

pub loop-group-preserved : goal.loop-group-preserved
loop-group-preserved g c =
    record {
      came = came-now g (goal.at.loop-group-preserved g c).After-rehearse_step-one;
      turned = good g (goal.at.loop-group-preserved g c).After-note_verdicts-noted c.if-one-ne0.false;
      buffers = buffers-now g (goal.at.loop-group-preserved g c).After-rehearse_step-one;
      past = past-now g (goal.at.loop-group-preserved g c).After-rehearse_step-one;
      standing = c.rehearse_step-one.ensures.standing_2;
      count = came-long g (goal.at.loop-group-preserved g c).After-rehearse_step-one ∙ sym (one_more g (goal.at.loop-group-preserved g c).After-rehearse_step-one c.if-one-ne0.false);
      most = omega (arith, one_more g (goal.at.loop-group-preserved g c).After-rehearse_step-one c.if-one-ne0.false, less g (goal.at.loop-group-preserved g c).After-rehearse_step-one);
      same-queues = queues-long g (goal.at.loop-group-preserved g c).After-rehearse_step-one;
      same-slots = slots-long g (goal.at.loop-group-preserved g c).After-rehearse_step-one;
      same_bytes = bytes-long g (goal.at.loop-group-preserved g c).After-rehearse_step-one;
      same_text = text-long g (goal.at.loop-group-preserved g c).After-rehearse_step-one;
    }

pub finish-requires : goal.finish-requires
finish-requires g c = omega (arith, c.requires.room, c.loop-group.invariant.same_text)

pub shape_of-holdbacks : goal.shape_of-holdbacks
shape_of-holdbacks g c = c.loop-group.invariant.same-queues

pub shape_of-slots : goal.shape_of-slots
shape_of-slots g c = c.loop-group.invariant.same-slots

pub shape_of-bytes : goal.shape_of-bytes
shape_of-bytes g c = c.loop-group.invariant.same_bytes

pub shape_of-text : goal.shape_of-text
shape_of-text g c = c.finish.auto.text ∙ c.loop-group.invariant.same_text

pub returns : goal.returns
returns g c = record { ran = ran-all _ _ _ _ _ _ _ _ _ _ _ c.loop-group.invariant.turned (omega (arith, c.loop-group.invariant.count, c.loop-group.invariant.most, c.loop-group-test.false)) c.loop-group.invariant.buffers c.finish.ensures; bytes_unchanged = c.loop-group.invariant.past; number_value = ap (among run_numbers) c.finish.ensures.number_is ∙ end-among c.finish.ensures.more }
