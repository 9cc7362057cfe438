-- 02, 2.9: what is promised of an engine's call, and of a list of calls of stations and engines, makes its tests true, so a test that computes
-- to false refutes it; and every definition of these tests and of an engine, opened at once.
-- Assumes nothing.
use Prim.Native.Nat.{ℕ, suc}
use mathlib.Core.Path.{◌≡◌, refl, ap, ◌∙◌}
use mathlib.Core.Bool.{Bool, true, false}
use mathlib.Core.List.{List, [], ◌∷◌}
use mathlib.Core.Option.{some}
use lib.ListN.{take, get_elem?}
use borrow.Author.Tests.{eq-eqb, le-leb}
use Rattle.laws.proofs.Numbers.{clash, and_intro}
use Rattle.laws.proofs.Lists.{every-tab, same_list-refl, same_list-eq}
use Rattle.model.specs.Setup.{Setup}
use Rattle.model.specs.Frame.{Frame}
use Rattle.model.specs.Tick.{Input, Output}
use Rattle.model.specs.Run.{Node, Call, Done, is_event, run_from, at_start}
use Rattle.model.specs.Long.{long_limits, ask_long_setup, low_first, number_at, long_encode, long_frame_end, long_formed, long_decode, long_frame_questions, longest_long, long_read, long_write_questions, long_write_frame, long_before, long_due, long_holdback_size, long_held_bytes, long_held, long_passes, long_not_early, long_not_expired, long_sound_holdback, long_encode_frames, long_encode_holdback, ask_long_early, ask_held, long_place_questions, long_questions, long_judge, long_hear_one, long_hear, long_absorb_all, long_call_questions, long_clock_sound, long_tables_sound, long_least_due, long_holdback_sound, long_repair, long_opening_stamp, long_opened, long_heard, long_new_stamp, long_sent, long_due_by, long_delivered, long_kept, long_acceptance, long_tick}
use Rattle.theory.specs.Premises.{good_start, largest_clock, keeps, all_fresh, none_stale}
use Rattle.theory.specs.Demand2.{has_width}
use Rattle.theory.specs.LongAny.{long_heard_before, AnyLong, Demand2Long, long_fits}
use Rattle.theory.specs.LongClocks.{LongGroup, long_batch, long_input, long_of, long_acted, long_all, long_fresh, long_start, ends_below, holds_few, reduced_stamp, reduced_long, narrowed, narrowed_delivery, SameLong, LongMatched, LongClocks}
use Rattle.violations.specs.Engines.{engine_verdict_test, engine_repair_test, engine_taken_test, engine_delivery_test, engine_order_test, engine_sent_test, engine_kept_test, engine_bounded_test, engine_few_test, engine_test}
use Rattle.violations.specs.Engines.{LongTest, long_same_number, long_same_repair, long_same_verdicts, long_same_taken, long_same_tables, long_same_frames, long_same_frames_read, long_same_delivered, long_same_delivery, same_frame, long_same_held, long_same_all, beside_by, beside_test}
use Rattle.violations.proofs.Refuting.{implies-intro, same_each-eq, every-at, every-step, same_frames-eq, same_timestamp-eq}
use Rattle.violations.proofs.Telling.{telling}

module _ (i : Input) (p : AnyLong i) where
  pub engine-verdict : engine_verdict_test i ≡ true
  unfolding engine_verdict_test
  engine-verdict = every-at _ _ (λ k entry e. eq-eqb _ _ (p.verdict k entry e))

  pub engine-repair : engine_repair_test i ≡ true
  unfolding engine_repair_test
  engine-repair = eq-eqb _ _ p.repair

  pub engine-taken : engine_taken_test i ≡ true
  unfolding engine_taken_test
  engine-taken = eq-eqb _ _ p.taken

  pub engine-delivery : engine_delivery_test i ≡ true
  unfolding engine_delivery_test
  engine-delivery = and_intro (eq-eqb _ _ p.delivered) (same_frames-eq p.delivery)

  pub engine-order : engine_order_test i ≡ true
  unfolding engine_order_test
  engine-order = p.ordered

  pub engine-sent : engine_sent_test i ≡ true
  unfolding engine_sent_test
  engine-sent = and_intro (eq-eqb _ _ p.sent) (same_list-eq p.outgoing)

  pub engine-kept : engine_kept_test i ≡ true
  unfolding engine_kept_test
  engine-kept = same_list-eq p.delivery_kept.behind

  pub engine-bounded : engine_bounded_test i ≡ true
  unfolding engine_bounded_test
  engine-bounded = every-step _ i.setup.epsilon (λ k one few. and_intro (p.bounded k one few) (p.bounded_queue k one few))

  pub engine-few : engine_few_test i ≡ true
  unfolding engine_few_test
  engine-few = every-tab _ _ (λ k. k) (λ k below. le-leb _ _ (p.few k))

pub refute-long :
    (test : Input → Bool) → ((i : Input) → AnyLong i → test i ≡ true) → (i : Input) → (long_tick i).answer.number ≡ 0
    → test i ≡ false → Demand2Long → ⊥
refute-long test right i accepted wrong demand = clash (right i (demand i accepted)) wrong

-- a list of calls: the promises make their tests true
same-frame : (f : Frame) → same_frame f f ≡ true
unfolding same_frame
same-frame f =
    and_intro (eq-eqb f.station f.station refl) (and_intro (same_timestamp-eq refl) (same_list-refl f.payload))

module _ (s : Setup) (d : Done) (o : Output) (p : SameLong s d o) where
  pub long-number : long_same_number s d o ≡ true
  unfolding long_same_number
  long-number = eq-eqb _ _ p.number

  pub long-repair : long_same_repair s d o ≡ true
  unfolding long_same_repair
  long-repair = eq-eqb _ _ p.repair

  pub long-verdicts : long_same_verdicts s d o ≡ true
  unfolding long_same_verdicts
  long-verdicts = same_list-eq p.verdicts

  pub long-taken : long_same_taken s d o ≡ true
  unfolding long_same_taken
  long-taken = eq-eqb _ _ p.taken

  pub long-tables : long_same_tables s d o ≡ true
  unfolding long_same_tables
  long-tables = same_timestamp-eq p.tables

  pub long-frames : long_same_frames s d o ≡ true
  unfolding long_same_frames
  long-frames = same_list-eq p.frames

  pub long-frames-read : long_same_frames_read s d o ≡ true
  unfolding long_same_frames_read
  long-frames-read = same_list-eq p.frames_read

  pub long-delivered : long_same_delivered s d o ≡ true
  unfolding long_same_delivered
  long-delivered = eq-eqb _ _ p.delivered

  pub long-delivery : long_same_delivery s d o ≡ true
  unfolding long_same_delivery
  long-delivery = same_list-eq p.deliveries

  pub long-held : long_same_held s d o ≡ true
  unfolding long_same_held
  long-held = same_each-eq same_frame same-frame p.delivered_frames

module _ (test : LongTest) (right : (s : Setup) (d : Done) (o : Output) → SameLong s d o → test s d o ≡ true) (s : Setup) where
  beside-matched : (workbench : LongGroup) (d : Done) → LongMatched s workbench d → beside_by test s d (long_of (is_event d) workbench d) ≡ true
  beside-matched workbench d (o, is, m) = ap (beside_by test s d) is ∙ right s d o m

  beside-true :
      (workbench : LongGroup) (past : List Done)
      → ((j : ℕ) (d : Done) → get_elem? past j ≡ some d → is_event d ≡ true → LongMatched s (long_all workbench (take j past)) d)
      → beside_test test s workbench past ≡ true
  unfolding beside_test long_all
  beside-true workbench [] h = refl
  beside-true workbench (d ∷ ds) h =
      and_intro (implies-intro (is_event d) _ (λ a. beside-matched workbench d (h 0 d refl a)))
      (beside-true (long_acted workbench d) ds (λ j d' at a. h (suc j) d' at a))

  pub refute-clocks :
      (nodes : List Node) (calls : List Call) → good_start s nodes ≡ true → all_fresh s nodes ≡ true
      → keeps s (largest_clock nodes) (at_start nodes) calls ≡ true → none_stale (run_from (at_start nodes) calls).past ≡ true
      → ends_below (run_from (at_start nodes) calls).past ≡ true → holds_few (at_start nodes) calls ≡ true
      → beside_test test s (long_start s nodes) (run_from (at_start nodes) calls).past ≡ false → LongClocks → ⊥
  refute-clocks nodes calls good fresh kept sent ends few wrong demand =
      clash (beside-true (long_start s nodes) (run_from (at_start nodes) calls).past (demand s nodes calls good fresh kept sent ends few)) wrong

unfoldable pub engines : Unit {0}
unfolding long_limits ask_long_setup low_first number_at long_encode long_frame_end long_formed long_decode long_frame_questions longest_long long_read long_write_questions long_write_frame long_before long_due long_holdback_size long_held_bytes long_held long_passes long_not_early long_not_expired long_sound_holdback long_encode_frames long_encode_holdback ask_long_early ask_held long_place_questions long_questions long_judge long_hear_one long_hear long_absorb_all long_call_questions long_clock_sound long_tables_sound long_least_due long_holdback_sound long_repair long_opening_stamp long_opened long_heard long_new_stamp long_sent long_due_by long_delivered long_kept long_acceptance long_tick has_width long_heard_before long_fits engine_verdict_test engine_repair_test engine_taken_test engine_delivery_test engine_order_test engine_sent_test engine_kept_test engine_bounded_test engine_few_test engine_test long_batch long_input long_acted long_all long_fresh long_start ends_below holds_few reduced_stamp reduced_long narrowed narrowed_delivery long_same_number long_same_repair long_same_verdicts long_same_taken long_same_tables long_same_frames long_same_frames_read long_same_delivered long_same_delivery same_frame long_same_held long_same_all beside_test telling
engines = tt
