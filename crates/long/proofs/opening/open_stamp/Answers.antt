-- `long::opening::open_stamp` meets its contract. Assumes nothing.
use Prim.Native.Nat.{◌-◌, ◌≤◌}
use native.Mathlib.Omega.{arith}
use mathlib.Core.Path.{◌≡◌, sym, ◌∙◌, ap}
use mathlib.Core.Bool.{Bool, true}
use borrow.Author.Tests.{not-true, not-false}
use Rattle.model.specs.Timestamp.{sound_beside, trimmed}
use Rattle.model.specs.Long.{long_tables_sound}
use Rattle.lemmas.proofs.Bounds.{LongLimits}
use Rattle.lemmas.proofs.Questions.{long-limits-from}
use Rattle.setup.specs.Views.{setup_of}
use Rattle.timestamp.specs.Views.{stamp_of}
use Rattle.long.proofs.Tables.{tables-steps, stamp-replaced, stamp-stepped}
use Rattle.long.proofs.opening.open_stamp.Goals.{After-sound_beside, Else-not-sound_beside, Start}
use Rattle.long.proofs.opening.open_stamp.Goals as goal

limits : (c : Start) → LongLimits (setup_of c.args.setup)
limits c = long-limits-from (setup_of c.args.setup) c.requires.limits

pub sound_beside-requires : goal.sound_beside-requires
sound_beside-requires c = let l = limits (goal.at.sound_beside-requires c).Start in (l.n_pos, (l.n-most, (l.epsilon-pos, l.epsilon-most)))

-- the tables judged
sound : (c : After-sound_beside) → c.sound_beside.result ≡ long_tables_sound (setup_of c.args.setup) c.args.clock (stamp_of c.args.tables)
unfolding long_tables_sound
sound c =
    c.sound_beside.ensures
    ∙ ap (λ (timely : Bool). sound_beside timely c.args.setup.n c.args.setup.epsilon (trimmed c.args.setup.epsilon (stamp_of c.args.tables))) c.clock_sound-timely.ensures

pub returns-then-not-sound_beside : goal.returns-then-not-sound_beside
returns-then-not-sound_beside c =
    stamp-replaced (setup_of c.args.setup) c.args.clock (stamp_of c.args.tables) (stamp_of c.replaced-stamp.result)
    (sym (sound (goal.at.returns-then-not-sound_beside c).After-sound_beside) ∙ not-true c.sound_beside.result c.if-not-sound_beside.true-raw) (c.replaced-stamp.ensures c.args.setup.epsilon (limits (goal.at.returns-then-not-sound_beside c).Start).epsilon-most)

-- they are sound, and so the step is 1 to ε
judged : (c : Else-not-sound_beside) → long_tables_sound (setup_of c.args.setup) c.args.clock (stamp_of c.args.tables) ≡ true
judged c = sym (sound c.before) ∙ not-false c.sound_beside.result c.if-not-sound_beside.false-raw

steps : (c : Else-not-sound_beside) → (1 ≤ c.args.clock - c.args.tables.r) × (c.args.clock - c.args.tables.r ≤ c.args.setup.epsilon)
steps c = tables-steps (setup_of c.args.setup) c.args.clock (stamp_of c.args.tables) (judged c)

pub overflow_sub-k : goal.overflow_sub-k
overflow_sub-k c = omega (arith, steps (goal.at.overflow_sub-k c).Else-not-sound_beside)

pub step-stamp-requires : goal.step-stamp-requires
step-stamp-requires c = ((steps (goal.at.step-stamp-requires c).Else-not-sound_beside).1, (limits (goal.at.step-stamp-requires c).Start).epsilon-most)

pub overflow_add-result : goal.overflow_add-result
overflow_add-result c = omega (arith, c.requires.below)

pub overflow_sub-result : goal.overflow_sub-result
overflow_sub-result c = omega (arith, steps (goal.at.overflow_sub-result c).Else-not-sound_beside)

pub returns : goal.returns
returns c = stamp-stepped (setup_of c.args.setup) c.args.clock (stamp_of c.args.tables) (stamp_of c.step-stamp.result) (judged (goal.at.returns c).Else-not-sound_beside) c.step-stamp.ensures
