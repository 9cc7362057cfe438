-- `longframe::form::check` meets its contract. Assumes nothing.
use Prim.Native.Nat.{◌≤◌, ◌<◌}
use mathlib.Core.List.{[], ◌∷◌}
use mathlib.Core.Bool.{true}
use mathlib.Core.Path.{◌≡◌, ◌∙◌, sym, ap}
use native.Mathlib.Omega.{arith}
use lib.ListN.{length}
use borrow.Author.Tests.{not-true, not-false}
use Rattle.frame.proofs.Asking.{station-no, r-no, in-range, stamp-no, stamp-sound}
use Rattle.longframe.proofs.Asking.{form-no, form-right, clock-there, counts-there, counts-wide, counts-sound}
use Rattle.lemmas.proofs.Bounds.{LongLimits}
use Rattle.lemmas.proofs.Questions.{long-limits-from}
use Rattle.setup.specs.Views.{setup_of}
use Rattle.model.specs.Question.{first_no, ask_stamp}
use Rattle.model.specs.Frame.{counts_of, decode}
use Rattle.model.specs.Long.{long_bound, plainly, six_on, long_formed, long_decode, long_frame_questions}
use Rattle.model.specs.Timestamp.{sound_timestamp}
use Rattle.longframe.proofs.form.check.Lts.View as view
use Rattle.longframe.proofs.form.check.Goals.{After-counts_part, After-sound_counts, Else-n-station_of, Else-not-well_formed, Else-r_of-ge-BOUND, Start}
use Rattle.longframe.proofs.form.check.Goals as goal

limits : (c : Start) → LongLimits (setup_of c.args.setup)
limits c = long-limits-from (setup_of c.args.setup) c.requires

-- what the first three tests leave
form : (c : Else-not-well_formed) → let a = c.args in long_formed a.setup.epsilon a.frame.now ≡ true
form c = sym c.well_formed-2.ensures ∙ not-false c.well_formed-2.result c.if-not-well_formed.false-raw

station : (c : Else-n-station_of) → let a = c.args in (long_decode a.setup.epsilon a.frame.now).station < a.setup.n
station c = omega (arith, c.station_of.ensures c.args.setup.epsilon)

clock : (c : Else-r_of-ge-BOUND) → let a = c.args in (long_decode a.setup.epsilon a.frame.now).stamp.r < long_bound
clock c = omega (arith, c.r_of.ensures c.args.setup.epsilon)

asked : (c : Else-r_of-ge-BOUND) → let a = c.args in
    first_no (long_frame_questions (setup_of a.setup) a.frame.now) ≡ first_no (ask_stamp (plainly (setup_of a.setup)) (long_decode a.setup.epsilon a.frame.now) ∷ [])
asked c =
    let a = c.args in
    form-right (setup_of a.setup) a.frame.now (form (view.up-Else-not-well_formed _ _ _ c.before.before.before.before.before))
    ∙ in-range (plainly (setup_of a.setup)) (long_decode a.setup.epsilon a.frame.now) (ask_stamp (plainly (setup_of a.setup)) (long_decode a.setup.epsilon a.frame.now) ∷ []) (station (view.up-Else-n-station_of _ _ _ c.before.before.before)) (clock c)

-- the counts, as they are lent
counts : (c : After-counts_part) → let a = c.args in
    c.counts_part.result.now ≡ counts_of a.setup.epsilon (six_on a.frame.now)
counts c =
    let a = c.args in
    c.counts_part.ensures ∙ ap (counts_of a.setup.epsilon) c.six_on-later.ensures

sound : (c : After-sound_counts) → let a = c.args in
    sound_timestamp a.setup.n a.setup.epsilon (long_decode a.setup.epsilon a.frame.now).stamp ≡ c.sound_counts.result
sound c =
    let a = c.args in
    sym (c.sound_counts.ensures
    ∙ counts-sound a.setup.n a.setup.epsilon c.c_of-c.result a.frame.now c.counts_part.result.now
    (c.c_of-c.ensures a.setup.epsilon ∙ ap (λ l. (decode a.setup.epsilon l).stamp.c) c.six_on-later.ensures)
    (counts (view.up-After-counts_part _ _ _ c.before.before)))

pub well_formed-requires : goal.well_formed-requires
well_formed-requires c = (limits (goal.at.well_formed-requires c).Start).epsilon-most

pub returns-then-not-well_formed : goal.returns-then-not-well_formed
returns-then-not-well_formed c =
    let a = c.args in
    sym (form-no (setup_of a.setup) a.frame.now (sym c.well_formed-2.ensures ∙ not-true c.well_formed-2.result c.if-not-well_formed.true-raw))

pub returns-then-n-station_of : goal.returns-then-n-station_of
returns-then-n-station_of c =
    let a = c.args in
    let h : a.setup.n ≤ (long_decode a.setup.epsilon a.frame.now).station = omega (arith, c.station_of.ensures a.setup.epsilon) in
    sym (form-right (setup_of a.setup) a.frame.now (form (goal.at.returns-then-n-station_of c).Else-not-well_formed) ∙ station-no (plainly (setup_of a.setup)) _ _ h)

pub r_of-requires : goal.r_of-requires
r_of-requires c =
    let a = c.args in
    clock-there a.setup.epsilon a.frame.now (form (goal.at.r_of-requires c).Else-not-well_formed)

pub returns-then-r_of-ge-BOUND : goal.returns-then-r_of-ge-BOUND
returns-then-r_of-ge-BOUND c =
    let a = c.args in
    let h : long_bound ≤ (long_decode a.setup.epsilon a.frame.now).stamp.r = omega (arith, c.r_of.ensures a.setup.epsilon) in
    sym (form-right (setup_of a.setup) a.frame.now (form (goal.at.returns-then-r_of-ge-BOUND c).Else-not-well_formed) ∙ r-no (plainly (setup_of a.setup)) _ _ (station (goal.at.returns-then-r_of-ge-BOUND c).Else-n-station_of) h)

pub counts_part-requires : goal.counts_part-requires
counts_part-requires c = ((limits (goal.at.counts_part-requires c).Start).epsilon-most, rw c.six_on-later.ensures (counts-there c.args.setup.epsilon c.args.frame.now (form (goal.at.counts_part-requires c).Else-not-well_formed)))

pub sound_counts-requires : goal.sound_counts-requires
sound_counts-requires c = (
  (limits (goal.at.sound_counts-requires c).Start).n-most,
  (
    (limits (goal.at.sound_counts-requires c).Start).epsilon-pos,
    (
      (limits (goal.at.sound_counts-requires c).Start).epsilon-most,
      ap length (counts (goal.at.sound_counts-requires c).After-counts_part) ∙ counts-wide c.args.setup.epsilon c.args.frame.now (form (goal.at.sound_counts-requires c).Else-not-well_formed),
    ),
  ),
)

pub returns-then-not-sound_counts : goal.returns-then-not-sound_counts
returns-then-not-sound_counts c =
    let a = c.args in
    sym (asked (goal.at.returns-then-not-sound_counts c).Else-r_of-ge-BOUND ∙ stamp-no (plainly (setup_of a.setup)) (long_decode a.setup.epsilon a.frame.now) [] (sound (goal.at.returns-then-not-sound_counts c).After-sound_counts ∙ not-true c.sound_counts.result c.if-not-sound_counts.true-raw))

pub returns : goal.returns
unfolding first_no
returns c =
    let a = c.args in
    sym (asked (goal.at.returns c).Else-r_of-ge-BOUND ∙ stamp-sound (plainly (setup_of a.setup)) (long_decode a.setup.epsilon a.frame.now) [] (sound (goal.at.returns c).After-sound_counts ∙ not-false c.sound_counts.result c.if-not-sound_counts.false-raw))
