-- The writer with both pairs (02, 2.10) makes of a message what the plain one makes with the limits of its clock.
-- Assumes nothing.
use Prim.Native.Nat.{ℕ, ◌%◌, ◌≤◌, ◌<◌}
use native.Mathlib.Omega.{arith}
use native.Mathlib.Nat.{mod-lt}
use mathlib.Core.Path.{◌≡◌, refl, sym, ap, subst, ◌∙◌}
use mathlib.Core.Logic.{inl, inr}
use mathlib.Core.Bool.{Bool, true, false, ◌&&◌, cond}
use mathlib.Core.List.{List}
use lib.Dec.{leb}
use lib.ListN.{length}
use borrow.Author.Tests.{le-leb, lt-leb, lt-ltb, le-ltb}
use Rattle.laws.proofs.Numbers.{lt-or-ge, and_intro}
use Rattle.model.specs.Setup.{Setup, longest_payload, is_member}
use Rattle.model.specs.Frame.{Frame, encode}
use Rattle.model.specs.Question.{first_no, ask_range}
use Rattle.model.specs.Codec.{ask_payload, frame_of, write_by}
use Rattle.model.specs.Schedule.{Schedule, steady, widening, limits_at, Wider, wider_setup, both_in_limits, ask_both, ask_wider}
use Rattle.model.specs.Wider.{sound_within}
use Rattle.model.specs.WiderCalls.{written_half, write_in_questions, write_in}
use Rattle.model.specs.Run.{Done, sends}
use Rattle.theory.specs.Demand3.{new_timestamp, written}
use Rattle.theory.specs.Changeover.{wider_for}
use Rattle.theory.specs.Through.{written_along}
use Rattle.lemmas.proofs.Bounds.{Limits}
use Rattle.lemmas.proofs.Questions.{limits-to, setup-to}
use Rattle.lemmas.proofs.Schedules.{Good as GoodSchedule, Widens, limits-good, limits-modulus, limits-n}
use Rattle.lemmas.proofs.WideFrames.{within-to}
use Rattle.theory.proofs.Readers.{written-to}
use Rattle.theory.proofs.World.{event_frame, CallEvent}

-- a frame in the bounds of the two pairs, of a half width, that fits
writes :
    (s : Setup) (w : Wider) (own half : ℕ) (f : Frame) (buffer : List ℕ) → (both_in_limits s w && is_member s own) ≡ true
    → (leb s.epsilon w.epsilon && leb s.delta w.delta) ≡ true → length f.payload ≤ longest_payload → f.station < s.n → f.stamp.r < s.modulus
    → sound_within s.n half half f.stamp ≡ true → length (encode f) ≤ length buffer → first_no (write_in_questions s w own half f buffer) ≡ 0
unfolding write_in_questions ask_both ask_wider ask_payload ask_range first_no
writes s w own half f buffer setup larger short station r sound fits =
    rw (
      setup,
      larger,
      le-leb (length f.payload) longest_payload short,
      lt-ltb f.station s.n station,
      lt-ltb f.stamp.r s.modulus r,
      sound,
      le-leb (length (encode f)) (length buffer) fits,
    )

-- the pairs of a changeover, as a call for v carries them
module _ (before after : Setup) (change v : ℕ) (good : Widens before after) where
  abbrev w : Wider
  w = wider_for (record { before = before; after = after; change = change }) v

  wider-limits : Limits (wider_setup before w)
  unfolding wider_for
  wider-limits =
      let new = good.new in
      record {
        n_pos = good.old.n_pos;
        n-most = good.old.n-most;
        epsilon-pos = new.epsilon-pos;
        epsilon-most = new.epsilon-most;
        delta-most = new.delta-most;
        modulus-least = omega (arith, new.modulus-least, good.modulus);
        modulus-most = good.old.modulus-most;
      }

  marked-bit : w.marked ≤ 1
  unfolding wider_for
  marked-bit = go (leb change v)
    where
      go : (b : Bool) → cond b 1 0 ≤ 1
      go true = omega arith
      go false = omega arith

  change-below : w.change < before.modulus
  unfolding wider_for
  change-below =
      let pos : 0 < before.modulus = omega (arith, good.old.modulus-least) in
      mod-lt change pos

  in-limits : both_in_limits before w ≡ true
  unfolding both_in_limits
  in-limits =
      and_intro (limits-to before good.old)
      (and_intro (limits-to (wider_setup before w) wider-limits) (and_intro (lt-ltb w.change before.modulus change-below) (le-leb w.marked 1 marked-bit)))

  larger : (leb before.epsilon w.epsilon && leb before.delta w.delta) ≡ true
  unfolding wider_for
  larger = and_intro (le-leb before.epsilon after.epsilon good.epsilon) (le-leb before.delta after.delta good.delta)

  -- the half width that the writer is told is that of the clock
  told : written_half before w (leb change v) ≡ (limits_at (widening before after change) v).epsilon
  unfolding wider_for
  told =
      elim (lt-or-ge v change) [
        | inl h ↦ rw (lt-ltb v change h, lt-leb change v h) refl
        | inr h ↦ rw (le-ltb v change h, le-leb change v h) refl
      ]

-- a message
module _ (before after : Setup) (change : ℕ) (good : Widens before after) (d : Done) (ev : CallEvent (widening before after change) d) (sent : sends d ≡ true) where
  abbrev g : Schedule
  g = widening before after change

  abbrev s : Setup
  s = limits_at g d.clock

  abbrev f : Frame
  f = event_frame g d

  abbrev pairs : Wider
  pairs = w before after change d.clock good

  own_below : d.own < s.n
  own_below =
      let h : f.station < s.n = ev.frame.station-below in
      unfold event_frame frame_of in h

  same-n : s.n ≡ before.n
  same-n = limits-n g good d.clock ∙ good.n

  same-stamp : new_timestamp before d ≡ new_timestamp s d
  unfolding new_timestamp
  same-stamp =
      ap (λ (B : ℕ). record { r = d.clock % B; c = d.output.answer.tables.c; kn = d.output.answer.tables.kn }) (sym (limits-modulus g good d.clock))

  same-frame : frame_of (written_half before pairs (leb change d.clock)) d.own (new_timestamp before d) d.call.payload ≡ f
  unfolding event_frame
  same-frame = λ i. frame_of (told before after change d.clock good i) d.own (same-stamp i) d.call.payload

  accepted : first_no (write_in_questions before pairs d.own s.epsilon f d.call.outgoing) ≡ 0
  unfolding is_member
  accepted =
      writes before pairs d.own s.epsilon f d.call.outgoing
      (and_intro (in-limits before after change d.clock good) (lt-ltb d.own before.n (omega (arith, own_below, same-n))))
      (larger before after change d.clock good) ev.frame.short (omega (arith, ev.frame.station-below, same-n))
      (omega (arith, ev.frame.r-below, limits-modulus g good d.clock))
      (subst (λ (n : ℕ). sound_within n s.epsilon s.epsilon f.stamp ≡ true) same-n
      (within-to s.n s.epsilon s.epsilon f.stamp ev.frame.sound ev.frame.sound.close))
      (ev.fits sent)

  written_both : written_along g d ≡ write_by 0 f d.call.outgoing
  unfolding write_in
  written_both =
      (λ i. write_by (first_no (write_in_questions before pairs d.own (told before after change d.clock good i) (same-frame i) d.call.outgoing)) (same-frame i) d.call.outgoing)
      ∙ ap (λ (k : ℕ). write_by k f d.call.outgoing) accepted

  written-plain : written s d ≡ write_by 0 f d.call.outgoing
  unfolding written event_frame
  written-plain =
      written-to s d.own f d.call.outgoing (setup-to s d.own (limits-good g good d.clock) own_below) ev.frame (ev.fits sent)

pub written-along :
    (g : Schedule) → GoodSchedule g → (d : Done) → CallEvent g d → sends d ≡ true → written_along g d ≡ written (limits_at g d.clock) d
written-along (steady s) good d ev sent = refl
written-along (widening before after change) good d ev sent =
    written_both before after change good d ev sent ∙ sym (written-plain before after change good d ev sent)
