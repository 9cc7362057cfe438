-- `rehearsal::ticks::put_entry` meets its contract. Assumes nothing.
use mathlib.Core.Path.{◌≡◌, ◌∙◌}
use native.Mathlib.Omega.{arith}
use Rattle.text.proofs.Putting.{put_as, room_as}
use Rattle.rehearsal.specs.Step.{frame_by}
use Rattle.rehearsal.specs.Views.{sent_of, entry_of}
use Rattle.rehearsal.proofs.Entries.{number-some, number-earlier, slot-entry}
use Rattle.rehearsal.proofs.ticks.put_entry.Goals.{After-part}
use Rattle.rehearsal.proofs.ticks.put_entry.Goals as goal

-- what is written is the entry
entry-is : (c : After-part)
    → c.part.result.now ≡ entry_of (frame_by (sent_of c.args.steps c.args.slots.now) c.args.number)
entry-is c = c.part.ensures ∙ slot-entry c.requires.kept.0 c.args.number c.requires.kept.1 c.sent_size-size.result c.sent_size-size.ensures.0

pub overflow_sub-number : goal.overflow_sub-number
overflow_sub-number c =
    let some = number-some c.requires.kept.0 c.args.number c.requires.kept.1 in
    omega arith

pub overflow_mul-number : goal.overflow_mul-number
overflow_mul-number c = omega (arith, c.requires.kept.0.most, number-earlier c.requires.kept.0 c.args.number c.requires.kept.1)

pub put_word-requires : goal.put_word-requires
put_word-requires c = room_as c.args.out.now c.args.at (entry-is (goal.at.put_word-requires c).After-part) c.requires.number_in_bounds

pub returns : goal.returns
returns c = put_as (entry-is (goal.at.returns c).After-part) c.put_word.ensures
