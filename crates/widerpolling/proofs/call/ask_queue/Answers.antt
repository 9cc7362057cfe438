-- `widerpolling::call::ask_queue` meets its contract: the walk is the tick's, with every due clock past v. Assumes nothing.
use Prim.Native.Nat.{ℕ, ◌+◌}
use native.Mathlib.Omega.{arith}
use mathlib.Core.Path.{◌≡◌, ◌∙◌, sym}
use mathlib.Core.Bool.{true}
use mathlib.Core.List.{List}
use borrow.Author.Tests.{not-true, not-false}
use Rattle.model.specs.Frame.{two_at}
use Rattle.model.specs.Schedule.{Schedule, modulus_of, widest_of}
use Rattle.model.specs.Wider.{wider_sound_holdback}
use Rattle.pairs.specs.Views.{schedule_of}
use Rattle.widerqueue.specs.Overdue.{SoundBy}
use Rattle.widerqueue.proofs.Walks.{size-two}
use Rattle.widerpolling.proofs.Asking.{recent-past, polled-unsound, polled-count, within-number, told}
use borrow.Author.Rules.{rules}
use Rattle.widerpolling.proofs.call.ask_queue.Goals.{Else-not-walk}
use Rattle.widerpolling.proofs.call.ask_queue.Goals as goal

pub sound-walk-requires : goal.sound-walk-requires
sound-walk-requires c = record { paired = (c.requires.paired.0, (c.requires.paired.1.0, recent-past (schedule_of c.args.p) c.requires.paired.0)); p_in_bounds = (omega (arith, c.requires.holdback_len), search rules) }

pub returns-then-not-walk : goal.returns-then-not-walk
returns-then-not-walk c =
    c.nothing.ensures
    ∙ polled-unsound (schedule_of c.args.p) c.args.clock c.args.d c.args.holdback.now
    (sym c.sound-walk.ensures.sound-is ∙ not-true c.sound-walk.result.sound c.if-not-walk.true)

-- the walk has found it sound
module _ (c : Else-not-walk) where
  abbrev g : Schedule
  g = schedule_of c.args.p

  abbrev b : List ℕ
  b = c.args.holdback.now

  sound : wider_sound_holdback g c.args.clock (modulus_of g + 1) b ≡ true
  sound = sym c.sound-walk.ensures.sound-is ∙ not-false c.sound-walk.result.sound c.if-not-walk.false

  sound-by : SoundBy g c.args.clock b
  sound-by = record { least = modulus_of g + 1; recent = recent-past g c.requires.paired.0; sound = sound }

  counted : c.sound-walk.result.count ≡ two_at b 0
  counted = polled-count g c.args.clock b sound c.sound-walk.ensures.count-is

pub next_due-next-requires : goal.next_due-next-requires
next_due-next-requires c = record { paired = (c.requires.paired.0, c.requires.paired.1.0); sound_by = (sound-by (goal.at.next_due-next-requires c).Else-not-walk, (size-two (widest_of (g (goal.at.next_due-next-requires c).Else-not-walk)) (omega (arith, c.requires.holdback_len)), counted (goal.at.next_due-next-requires c).Else-not-walk)) }

pub overflow_add-least-2 : goal.overflow_add-least-2
overflow_add-least-2 c = omega (arith, c.requires.paired.1.1, c.requires.paired.0.old.modulus-most)

pub front_before-within-requires : goal.front_before-within-requires
front_before-within-requires c = record { paired = (c.requires.paired.0, c.requires.paired.1.0); sound_by = (sound-by (goal.at.front_before-within-requires c).Else-not-walk, (size-two (widest_of (g (goal.at.front_before-within-requires c).Else-not-walk)) (omega (arith, c.requires.holdback_len)), counted (goal.at.front_before-within-requires c).Else-not-walk)) }

pub returns : goal.returns
returns c =
    told (g (goal.at.returns c).Else-not-walk) c.args.clock c.args.d (b (goal.at.returns c).Else-not-walk) (sound (goal.at.returns c).Else-not-walk) c.next_due-next.ensures
    (within-number (g (goal.at.returns c).Else-not-walk) c.requires.paired.0 c.args.clock (modulus_of (g (goal.at.returns c).Else-not-walk) + 1) (b (goal.at.returns c).Else-not-walk) (sound (goal.at.returns c).Else-not-walk) c.args.d c.front_before-within.ensures.frames)
