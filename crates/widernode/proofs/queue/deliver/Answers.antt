-- `widernode::queue::deliver` meets its contract. Assumes nothing.
use Prim.Native.Nat.{ℕ, ◌+◌}
use native.Mathlib.Omega.{arith}
use mathlib.Core.Path.{◌∙◌, ap}
use mathlib.Core.Bool.{not}
use lib.ListN.{length}
use Rattle.laws.specs.Lists.{select}
use Rattle.laws.proofs.Lists.{select-length-le}
use Rattle.model.specs.Holdback.{encode_holdback}
use Rattle.model.specs.Schedule.{modulus_of, own_limits}
use Rattle.model.specs.Wider.{wider_held, wider_due_now}
use Rattle.lemmas.proofs.Queue.{both-few}
use Rattle.lemmas.proofs.Schedules.{limits-good}
use Rattle.setup.specs.Views.{setup_of}
use Rattle.pairs.specs.Views.{schedule_of}
use Rattle.node.proofs.Places.{size-two}
use Rattle.widernode.proofs.Places.{sound-few, depth-most}
use Rattle.widernode.proofs.queue.deliver.Goals as goal

pub cut_due-requires : goal.cut_due-requires
cut_due-requires c = record { paired = (c.requires.timed.good, c.requires.timed.below); buf_value = (c.requires.sound, (size-two (setup_of c.args.p.after) (length c.args.holdback.now) c.requires.size, c.requires.extent)); p_in_bounds = c.requires.room; spans = (c.requires.before, c.requires.few) }

pub overflow_add-result : goal.overflow_add-result
overflow_add-result c =
    let g = schedule_of c.args.p in
    omega (
      arith,
      c.requires.few,
      both-few (own_limits g),
      depth-most (own_limits g) (limits-good g c.requires.timed.good (modulus_of g)),
      sound-few g c.args.clock (modulus_of g) c.args.holdback.now c.requires.sound,
      select-length-le (wider_due_now g c.args.clock) (wider_held g c.args.holdback.now),
      c.cut_due.ensures.value,
    )

pub returns : goal.returns
returns c =
    let g = schedule_of c.args.p in
    record {
      count-is = ap (λ (n : ℕ). c.args.overdue.index + n) c.cut_due.ensures.value;
      kept = c.cut_due.ensures.buf_after ∙ ap (λ (n : ℕ). encode_holdback n (select (λ f. not (wider_due_now g c.args.clock f)) (wider_held g c.args.holdback.now))) c.requires.size;
      given = c.cut_due.ensures.delivery_after;
    }
