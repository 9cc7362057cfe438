-- `frame::form::check` meets its contract. Assumes nothing.
use Prim.Native.Nat.{◌≤◌, ◌<◌}
use mathlib.Core.List.{[], ◌∷◌}
use mathlib.Core.Bool.{true}
use mathlib.Core.Path.{◌≡◌, ◌∙◌, sym}
use native.Mathlib.Omega.{arith}
use borrow.Author.Tests.{not-true, not-false}
use Rattle.frame.proofs.Asking.{form-no, form-right, station-no, r-no, in-range, stamp-no, stamp-sound, counts-long, counts-sound}
use Rattle.lemmas.proofs.Bounds.{Limits}
use Rattle.lemmas.proofs.Questions.{limits-from}
use Rattle.lemmas.proofs.RoundTrip.{Formed, formed-from}
use Rattle.setup.specs.Views.{setup_of}
use Rattle.model.specs.Question.{first_no, frame_questions, ask_stamp}
use Rattle.model.specs.Frame.{well_formed, decode}
use Rattle.model.specs.Setup.{width}
use Rattle.model.specs.Timestamp.{sound_timestamp}
use Rattle.frame.proofs.form.check.Lts.View as view
use Rattle.frame.proofs.form.check.Goals.{After-sound_counts, Else-modulus-r_of, Else-n-station_of, Else-not-well_formed, Start}
use Rattle.frame.proofs.form.check.Goals as goal

limits : (c : Start) → Limits (setup_of c.args.setup)
limits c = limits-from (setup_of c.args.setup) c.requires

-- what the first three tests leave
form : (c : Else-not-well_formed) → let a = c.args in well_formed a.setup.epsilon a.frame.now ≡ true
form c = sym c.well_formed-2.ensures ∙ not-false c.well_formed-2.result c.if-not-well_formed.false-raw

station : (c : Else-n-station_of) → let a = c.args in (decode a.setup.epsilon a.frame.now).station < a.setup.n
station c = omega (arith, c.station_of.ensures c.args.setup.epsilon)

clock : (c : Else-modulus-r_of) → let a = c.args in (decode a.setup.epsilon a.frame.now).stamp.r < a.setup.modulus
clock c = omega (arith, c.r_of.ensures c.args.setup.epsilon)

asked : (c : Else-modulus-r_of) → let a = c.args in
    first_no (frame_questions (setup_of a.setup) a.frame.now) ≡ first_no (ask_stamp (setup_of a.setup) (decode a.setup.epsilon a.frame.now) ∷ [])
asked c =
    let a = c.args in
    form-right (setup_of a.setup) a.frame.now (form (view.up-Else-not-well_formed _ _ _ c.before.before.before.before.before))
    ∙ in-range (setup_of a.setup) (decode a.setup.epsilon a.frame.now) (ask_stamp (setup_of a.setup) (decode a.setup.epsilon a.frame.now) ∷ []) (station (view.up-Else-n-station_of _ _ _ c.before.before.before)) (clock c)

sound : (c : After-sound_counts) → let a = c.args in
    sound_timestamp a.setup.n a.setup.epsilon (decode a.setup.epsilon a.frame.now).stamp ≡ c.sound_counts.result
sound c =
    let a = c.args in
    sym (c.sound_counts.ensures ∙ counts-sound a.setup.n a.setup.epsilon c.c_of-c.result a.frame.now (c.c_of-c.ensures a.setup.epsilon))

pub well_formed-requires : goal.well_formed-requires
well_formed-requires c = (limits (goal.at.well_formed-requires c).Start).epsilon-most

pub returns-then-not-well_formed : goal.returns-then-not-well_formed
returns-then-not-well_formed c =
    let a = c.args in
    sym (form-no (setup_of a.setup) a.frame.now (sym c.well_formed-2.ensures ∙ not-true c.well_formed-2.result c.if-not-well_formed.true-raw))

pub returns-then-n-station_of : goal.returns-then-n-station_of
returns-then-n-station_of c =
    let a = c.args in
    let h : a.setup.n ≤ (decode a.setup.epsilon a.frame.now).station = omega (arith, c.station_of.ensures a.setup.epsilon) in
    sym (form-right (setup_of a.setup) a.frame.now (form (goal.at.returns-then-n-station_of c).Else-not-well_formed) ∙ station-no (setup_of a.setup) _ _ h)

pub returns-then-modulus-r_of : goal.returns-then-modulus-r_of
returns-then-modulus-r_of c =
    let a = c.args in
    let h : a.setup.modulus ≤ (decode a.setup.epsilon a.frame.now).stamp.r = omega (arith, c.r_of.ensures a.setup.epsilon) in
    sym (form-right (setup_of a.setup) a.frame.now (form (goal.at.returns-then-modulus-r_of c).Else-not-well_formed) ∙ r-no (setup_of a.setup) _ _ (station (goal.at.returns-then-modulus-r_of c).Else-n-station_of) h)

pub overflow_mul-epsilon : goal.overflow_mul-epsilon
overflow_mul-epsilon c = let l = limits (goal.at.overflow_mul-epsilon c).Start in omega arith

pub overflow_add-epsilon : goal.overflow_add-epsilon
overflow_add-epsilon c = let l = limits (goal.at.overflow_add-epsilon c).Start in omega arith

pub slice_bounds-sound_counts-end : goal.slice_bounds-sound_counts-end
unfolding width
slice_bounds-sound_counts-end c =
    let a = c.args in
    let f : Formed a.setup.epsilon a.frame.now = formed-from a.setup.epsilon a.frame.now (form (goal.at.slice_bounds-sound_counts-end c).Else-not-well_formed) in
    omega arith

pub sound_counts-requires : goal.sound_counts-requires
sound_counts-requires c = ((limits (goal.at.sound_counts-requires c).Start).n-most, ((limits (goal.at.sound_counts-requires c).Start).epsilon-pos, ((limits (goal.at.sound_counts-requires c).Start).epsilon-most, counts-long c.args.setup.epsilon c.args.frame.now (form (goal.at.sound_counts-requires c).Else-not-well_formed))))

pub returns-then-not-sound_counts : goal.returns-then-not-sound_counts
returns-then-not-sound_counts c =
    let a = c.args in
    sym (asked (goal.at.returns-then-not-sound_counts c).Else-modulus-r_of ∙ stamp-no (setup_of a.setup) (decode a.setup.epsilon a.frame.now) [] (sound (goal.at.returns-then-not-sound_counts c).After-sound_counts ∙ not-true c.sound_counts.result c.if-not-sound_counts.true-raw))

pub returns : goal.returns
unfolding first_no
returns c =
    let a = c.args in
    sym (asked (goal.at.returns c).Else-modulus-r_of ∙ stamp-sound (setup_of a.setup) (decode a.setup.epsilon a.frame.now) [] (sound (goal.at.returns c).After-sound_counts ∙ not-false c.sound_counts.result c.if-not-sound_counts.false-raw))
