-- 02, 2.10: the tick with both pairs of limits from its parts: what is opened, heard, counted, sent and delivered is the model's tick. Assumes
-- nothing.
use Prim.Native.Nat.{ℕ, zero, suc, ◌+◌, ◌≤◌}
use native.Mathlib.Omega.{arith}
use mathlib.Core.Path.{◌≡◌, refl, sym, ap, ap₂, subst, ◌∙◌}
use mathlib.Core.Bool.{true, false, cond}
use mathlib.Core.List.{List}
use lib.ListN.{length, get_or}
use Rattle.laws.specs.Lists.{overlay}
use Rattle.model.specs.Setup.{width, longest_frame}
use Rattle.model.specs.Timestamp.{Timestamp, trimmed, widened, count_own}
use Rattle.model.specs.Batch.{batch_entries}
use Rattle.model.specs.Question.{first_no}
use Rattle.model.specs.Tick.{Input, refusal, holdback_size, tick}
use Rattle.model.specs.Schedule.{Schedule, widest_of, modulus_of, own_limits, Wider, same_pairs, along}
use Rattle.model.specs.Wider.{wider_sound_holdback, wider_least, wider_holdback_sound, wider_repair, wider_opening_stamp, wider_opening, wider_opened, wider_heard, wider_heard_stamp, wider_new_stamp, wider_sent, wider_delivered_of, wider_kept_of, wider_acceptance, wider_absorb_all, wider_call_questions, tick_in}
use Rattle.model.proofs.EqualCalls.{tick-equal}
use Rattle.lemmas.proofs.Bounds.{Limits, Opened}
use Rattle.lemmas.proofs.Schedules.{limits-good, limits-modulus, limits-widest}
use Rattle.lemmas.proofs.WiderTick.{opening-stamp-along, absorb-all-along, heard-numbers-along, new-left-along, new-clock-along}
use Rattle.lemmas.proofs.WiderCall.{tick-in-by}
use Rattle.frame.specs.Lay.{Room}
use Rattle.node.specs.States.{AttendedWith, Sent, bytes_to_send}
use Rattle.node.proofs.Finish.{places-trimmed, places-narrow, places-own, places-sent, places-room, accepted-with}
use Rattle.widernode.specs.Views.{questions_for}
use Rattle.widernode.specs.States.{StampOpened, Attending, attended_all, AttendedQueue, absorbed_for, Accepted}
use Rattle.widernode.proofs.Calls.{call-both, same-equal}
use Rattle.widernode.proofs.Tables.{stamp-trimmed, stamp-narrow}

-- ---- an accepted call

module _ (g : Schedule) (i : Input) (a : Accepted g i.own i.clock i.holdback i.batch i.payload i.outgoing i.verdicts i.delivery) where
  limits : Limits (own_limits g)
  limits = limits-good g a.timed.good (modulus_of g)

  -- the least due clock of its tables
  abbrev call_least : ℕ
  call_least = wider_least g i.clock i.tables

  heard-opened : Opened (own_limits g).n (own_limits g).epsilon (wider_heard_stamp g i)
  unfolding wider_heard_stamp
  heard-opened =
      rw (heard-numbers-along g a.timed.good i)
      (absorb-all-along g a.timed.good i.clock (wider_opening g i.clock (wider_opened g i)) (wider_opening_stamp g i.clock i.tables) (batch_entries i.batch)
      (opening-stamp-along g a.timed.good i.clock i.tables))

  heard-same : attended_all false g i.clock call_least i.batch i.holdback ≡ wider_heard g i
  unfolding wider_heard wider_opened questions_for
  heard-same = refl

  module _ {t₁ : Timestamp} {least repair : ℕ} (o : StampOpened g i.clock i.tables t₁ least repair) where
    pub call-attending : Attending g t₁ i.batch i.holdback i.verdicts i.delivery
    call-attending =
        record {
          size = a.size;
          hearing = record { narrow = stamp-narrow g i.clock i.tables a.timed.good o; exact = a.exact; room = a.verdicts-room };
          delivery-room = a.delivery-room;
        }

    pub call-stamp : {t₂ : Timestamp}
        → t₂ ≡ widened (absorbed_for false g i.clock (trimmed (own_limits g).epsilon t₁) (batch_entries i.batch) (attended_all false g i.clock least i.batch i.holdback).verdicts)
        → t₂ ≡ widened (wider_heard_stamp g i)
    unfolding wider_heard_stamp absorbed_for wider_heard wider_opened questions_for
    call-stamp e =
        e
        ∙ ap₂ (λ (x : Timestamp) (l : ℕ). widened (wider_absorb_all g i.clock x (batch_entries i.batch) (attended_all false g i.clock l i.batch i.holdback).verdicts))
        (stamp-trimmed g i.clock i.tables a.timed.good o) o.least-is

    -- the repair of both
    pub call-repair : {emptied : ℕ} → emptied ≡ cond (wider_sound_holdback g i.clock least i.holdback) 0 2 → repair + emptied ≡ wider_repair g i.clock i.tables i.holdback
    unfolding wider_repair wider_holdback_sound
    call-repair e = rw (o.repaired, e, o.least-is)

    -- what it shares with an observer's, in the tick's terms
    pub call-queue : {emptied took delivered : ℕ} {buffer verdicts delivery : List ℕ}
        → AttendedQueue false g i.clock least i.batch i.holdback i.verdicts i.delivery emptied took delivered buffer verdicts delivery
        → AttendedWith (wider_holdback_sound g i.clock i.tables i.holdback) (wider_heard g i) (wider_delivered_of g i) (wider_kept_of g i) (holdback_size (widest_of g)) i.verdicts i.delivery emptied took delivered buffer verdicts delivery
    unfolding wider_holdback_sound wider_heard wider_opened wider_delivered_of wider_kept_of questions_for
    call-queue {emptied} {took} {delivered} {buffer} {verdicts} {delivery} q =
        subst (λ (l : ℕ). AttendedQueue false g i.clock l i.batch i.holdback i.verdicts i.delivery emptied took delivered buffer verdicts delivery) o.least-is q

  -- the own event fits
  pub own_room : {t : Timestamp} {epsilon : ℕ} → epsilon ≡ (own_limits g).epsilon → t ≡ widened (wider_heard_stamp g i) → get_or t.kn epsilon 0 ≤ 254
  own_room {t} e h = rw e (places-own (own_limits g).epsilon (wider_heard_stamp g i) limits.epsilon-most heard-opened.wide h (own_limits g).n limits.n-most heard-opened)

  pub heard-narrow : {t : Timestamp} {epsilon : ℕ} → epsilon ≡ (own_limits g).epsilon → t ≡ widened (wider_heard_stamp g i) → t ≡ widened (trimmed epsilon t)
  heard-narrow {t} e h = rw e (places-narrow (own_limits g).epsilon (wider_heard_stamp g i) limits.epsilon-most heard-opened.wide h)

  -- the new stamp
  pub own-count-is : {t t' : Timestamp} {epsilon : ℕ} → epsilon ≡ (own_limits g).epsilon → t ≡ widened (wider_heard_stamp g i)
      → t' ≡ widened (count_own epsilon i.clock (trimmed epsilon t)) → t' ≡ widened (wider_new_stamp g i)
  unfolding wider_new_stamp
  own-count-is {t} e h d =
      d ∙ ap (λ (n : ℕ). widened (count_own n i.clock (trimmed n t))) e
      ∙ ap (λ (x : Timestamp). widened (count_own (own_limits g).epsilon i.clock x)) (places-trimmed (own_limits g).epsilon (wider_heard_stamp g i) limits.epsilon-most heard-opened.wide h)

  new-wide : length (wider_new_stamp g i).kn ≡ width (own_limits g).epsilon
  new-wide = (new-left-along g a.timed.good i).sound.wide

  -- it can be sent
  pub send-room : {t : Timestamp} {epsilon : ℕ} → epsilon ≡ (own_limits g).epsilon → t ≡ widened (wider_new_stamp g i) → Room epsilon i.own t i.payload i.outgoing
  unfolding longest_frame width
  send-room {t} e h =
      rw e
      (places-room (own_limits g).epsilon i.own (wider_new_stamp g i) i.payload i.outgoing h limits.epsilon-most (omega (arith, a.own_below, limits.n-most))
      (omega (arith, new-clock-along g a.timed.good i, a.timed.below, limits-modulus g a.timed.good (modulus_of g), limits.modulus-most))
      (new-left-along g a.timed.good i).sound.close a.payload-short (omega (arith, a.outgoing-room, (limits-widest g a.timed.good (modulus_of g)).0)))

  sent-same : {t : Timestamp} {epsilon : ℕ} → epsilon ≡ (own_limits g).epsilon → t ≡ widened (wider_new_stamp g i) → bytes_to_send epsilon i.own t i.send i.payload ≡ wider_sent g i
  unfolding wider_sent
  sent-same {t} e h =
      ap (λ (n : ℕ). bytes_to_send n i.own t i.send i.payload) e
      ∙ places-sent (own_limits g).epsilon (wider_new_stamp g i) limits.epsilon-most new-wide h i.own i.send i.payload

  -- all of it
  pub accepted-output : {t' : Timestamp} {emptied took delivered : ℕ} {buffer verdicts delivery : List ℕ} {repair size epsilon : ℕ} {outgoing : List ℕ} → epsilon ≡ (own_limits g).epsilon
      → AttendedWith (wider_holdback_sound g i.clock i.tables i.holdback) (wider_heard g i) (wider_delivered_of g i) (wider_kept_of g i) (holdback_size (widest_of g)) i.verdicts i.delivery emptied took delivered buffer verdicts delivery
      → t' ≡ widened (wider_new_stamp g i) → repair ≡ wider_repair g i.clock i.tables i.holdback
      → Sent epsilon i.own t' i.send i.payload i.outgoing size outgoing
      → record {
        answer = record { number = 0; tables = t'; repair = repair; taken = took; delivered = delivered; sent = size };
        holdback = buffer;
        outgoing = outgoing;
        verdicts = verdicts;
        delivery = delivery;
      } ≡ wider_acceptance g i
  unfolding wider_acceptance
  accepted-output e h own e-repair sent =
      let sent_is = sent-same e own in
      accepted-with i (wider_new_stamp g i) (wider_repair g i.clock i.tables i.holdback) (wider_sent g i) h own e-repair
      (sent.long ∙ ap length sent_is) (sent.bytes ∙ ap (λ (l : List ℕ). overlay l i.outgoing) sent_is)

-- ---- the tick

pub refused-output : (w : Wider) (i : Input) (number : ℕ) → number ≡ first_no (wider_call_questions w i) → (number ≡ 0 → ⊥) → refusal i number ≡ tick_in w i
refused-output w i zero e h = absurd (h refl)
refused-output w i (suc k) e h = sym (tick-in-by w i (suc k) (sym e))

-- with equal pairs it is the plain one
pub equal-output : (w : Wider) (i : Input) → first_no (wider_call_questions w i) ≡ 0 → same_pairs i.setup w ≡ true → tick i ≡ tick_in w i
equal-output w i e same = sym (tick-equal w i (same-equal i.setup w same (call-both w i e)))

pub wider-output : (w : Wider) (i : Input) {g : Schedule} → first_no (wider_call_questions w i) ≡ 0 → g ≡ along i.setup w i.clock → wider_acceptance g i ≡ tick_in w i
wider-output w i e s = ap (λ (x : Schedule). wider_acceptance x i) s ∙ sym (tick-in-by w i 0 e)
