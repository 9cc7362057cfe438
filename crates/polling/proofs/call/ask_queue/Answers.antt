-- `polling::call::ask_queue` meets its contract: the walk is the tick's, with every due clock past v. Assumes nothing.
use Prim.Native.Nat.{◌+◌}
use native.Mathlib.Omega.{arith}
use mathlib.Core.Path.{◌≡◌, ◌∙◌, sym, ap}
use borrow.Author.Tests.{not-true, not-false}
use borrow.Author.Rules.{rules}
use mathlib.Core.Bool.{true}
use Rattle.model.specs.Holdback.{sound_holdback}
use Rattle.model.specs.Poll.{poll_by}
use Rattle.setup.specs.Views.{setup_of}
use Rattle.holdback.proofs.Judging.{sound-lower}
use Rattle.polling.proofs.Asking.{size-two, polled-unsound, polled-sound, polled-count}
use Rattle.lemmas.proofs.Questions.{limits-from}
use Rattle.polling.proofs.call.ask_queue.Goals.{Else-not-walk}
use Rattle.polling.proofs.call.ask_queue.Goals as goal

pub sound-walk-requires : goal.sound-walk-requires
sound-walk-requires c = record { setup_value = (c.requires.setup_value.0, (c.requires.setup_value.1.0, record { late = omega (arith, (limits-from (setup_of c.args.setup) c.requires.setup_value.0).epsilon-pos); close = omega arith })); setup_in_bounds = (omega (arith, c.requires.holdback_len), (search rules, search rules)) }

pub returns-then-not-walk : goal.returns-then-not-walk
returns-then-not-walk c =
    let walk = c.sound-walk in
    c.nothing.ensures
    ∙ polled-unsound (setup_of c.args.setup) c.args.clock c.args.d c.args.holdback.now
    (sym walk.ensures.sound-is ∙ not-true walk.result.sound c.if-not-walk.true)

-- the walk has found it sound
sound-walk : (c : Else-not-walk) → sound_holdback (setup_of c.args.setup) c.args.clock (c.args.setup.modulus + 1) c.args.holdback.now ≡ true
sound-walk c = sym c.sound-walk.ensures.sound-is ∙ not-false c.sound-walk.result.sound c.if-not-walk.false

pub tell-requires : goal.tell-requires
tell-requires c =
    let s = setup_of c.args.setup in
    let walk = c.sound-walk.ensures in
    let sound = sound-walk (goal.at.tell-requires c).Else-not-walk in record {
      setup_value = c.requires.setup_value;
      holdback_value = (
        sound-lower s c.args.clock (s.modulus + 1) c.args.holdback.now sound s.modulus (omega arith),
        (size-two s c.args.holdback.now c.requires.holdback_len, polled-count s c.args.clock c.args.holdback.now sound walk.count-is),
      );
    }

pub returns : goal.returns
returns c =
    let s = setup_of c.args.setup in
    c.tell.ensures ∙ ap (poll_by 0 s c.args.clock c.args.d) (sym (polled-sound s c.args.clock c.args.holdback.now (sound-walk (goal.at.returns c).Else-not-walk)))
