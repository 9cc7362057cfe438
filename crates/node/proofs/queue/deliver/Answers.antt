-- `node::queue::deliver` meets its contract. Assumes nothing.
use Prim.Native.Nat.{ℕ, ◌+◌, ◌≤◌}
use native.Mathlib.Omega.{arith}
use mathlib.Core.Path.{sym, ◌∙◌, ap}
use mathlib.Core.Bool.{not}
use lib.ListN.{length}
use Rattle.laws.specs.Lists.{select}
use Rattle.model.specs.Holdback.{held, encode_holdback}
use Rattle.model.specs.Tick.{due_now}
use Rattle.lemmas.proofs.Questions.{limits-from}
use Rattle.holdback.specs.Queue.{frame_start}
use Rattle.setup.specs.Views.{setup_of}
use Rattle.node.proofs.Places.{size-two, both_small}
use Rattle.node.proofs.queue.deliver.Goals.{Start}
use Rattle.node.proofs.queue.deliver.Goals as goal

two : (c : Start) → 2 ≤ length c.args.holdback.now
two c = size-two (setup_of c.args.setup) (length c.args.holdback.now) c.requires.0.size

pub cut_due-requires : goal.cut_due-requires
cut_due-requires c = record { setup_value = (c.requires.0.timed.limits, c.requires.0.timed.below); buf_value = (c.requires.0.sound, (two (goal.at.cut_due-requires c).Start, c.requires.0.extent.count-is)); tabled = c.requires.1; end_value = (c.requires.0.extent.ends ∙ ap (frame_start c.args.setup.epsilon c.args.holdback.now) (sym c.requires.0.extent.count-is), c.requires.0.room); spans = (c.requires.0.before, c.requires.0.few) }

pub overflow_add-result : goal.overflow_add-result
overflow_add-result c =
    let s = setup_of c.args.setup in
    omega (
      arith,
      both_small s c.args.clock c.args.holdback.now (due_now s c.args.clock) c.args.overdue.index c.cut_due.result (limits-from s c.requires.0.timed.limits) c.requires.0.sound c.requires.0.few c.cut_due.ensures.value,
    )

pub returns : goal.returns
returns c =
    record {
      count-is = ap (λ (n : ℕ). c.args.overdue.index + n) c.cut_due.ensures.value;
      kept =
          c.cut_due.ensures.buf_after
          ∙ ap (λ (n : ℕ). encode_holdback n (select (λ f. not (due_now (setup_of c.args.setup) c.args.clock f)) (held c.args.setup.epsilon c.args.holdback.now))) c.requires.0.size;
      given = c.cut_due.ensures.delivery_after;
    }
