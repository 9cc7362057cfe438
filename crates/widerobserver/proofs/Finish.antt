-- 02, 2.10: an observer's call with both pairs of limits from its parts: what it shares with a node is the model's call. Assumes nothing.
use Prim.Native.Nat.{ℕ, zero, suc, ◌+◌}
use mathlib.Core.Path.{◌≡◌, refl, sym, ap, ap₂, subst, ◌∙◌}
use mathlib.Core.Bool.{Bool, true, cond}
use mathlib.Core.List.{List}
use lib.ListN.{length-replicate}
use Rattle.model.specs.Setup.{Setup, width}
use Rattle.model.specs.Timestamp.{Timestamp, widened, replaced, clock_step, sound_clock}
use Rattle.model.specs.Question.{first_no}
use Rattle.model.specs.Tick.{least_at}
use Rattle.model.specs.Observer.{Listening, not_listened, listen}
use Rattle.model.specs.Schedule.{Schedule, own_limits, Wider, same_pairs, along}
use Rattle.model.specs.WiderCalls.{listen_in_questions, wider_last_sound, wider_observer_least, wider_observer_repair, wider_observer_opened, wider_observer_heard, wider_observer_delivered, wider_observer_kept, wider_listened, listen_in}
use Rattle.model.proofs.EqualCalls.{listen-equal}
use Rattle.lemmas.proofs.WiderCall.{listen-in-by}
use Rattle.node.specs.States.{LastClock, ClockOpened}
use Rattle.node.proofs.Finish.{places-narrow}
use Rattle.observer.proofs.Finish.{heeded-with}
use Rattle.widernode.specs.Views.{questions_for}
use Rattle.widernode.specs.States.{Attending, AttendedQueue}
use Rattle.widernode.proofs.Calls.{same-equal}
use Rattle.widernode.proofs.Times.{Own}
use Rattle.widerobserver.specs.States.{Heeded}
use Rattle.widerobserver.proofs.Calls.{call-both}

module _ (g : Schedule) (i : Listening) {s : Setup} (o : Own g s) where
  -- a stamp with no counts
  pub call-attending : {t : Timestamp} → Heeded g i.clock i.holdback i.batch i.verdicts i.delivery → t ≡ widened (replaced s.epsilon i.clock)
      → Attending g t i.batch i.holdback i.verdicts i.delivery
  unfolding replaced
  call-attending {t} h e =
      record {
        size = h.size;
        hearing =
            record {
              narrow =
                  places-narrow (own_limits g).epsilon (replaced (own_limits g).epsilon i.clock) o.limits.epsilon-most (length-replicate (width (own_limits g).epsilon) 0)
                  (e ∙ ap (λ (n : ℕ). widened (replaced n i.clock)) o.epsilon);
              exact = h.exact;
              room = h.verdicts-room;
            };
        delivery-room = h.delivery-room;
      }

  -- ---- the last clock

  module _ {sound : Bool} (e : sound ≡ sound_clock s.epsilon s.modulus i.clock i.last) where
    sound-is : sound ≡ wider_last_sound g i
    unfolding wider_last_sound
    sound-is = e ∙ (λ j. sound_clock (o.epsilon j) (o.modulus j) i.clock i.last)

    pub last-judged : LastClock s i.clock sound i.last
    last-judged = record { judged = λ h. sym e ∙ h }

    module _ {least repair : ℕ} (c : ClockOpened s i.clock sound i.last least repair) where
      least-is : least ≡ wider_observer_least g i
      unfolding wider_observer_least
      least-is = c.least-is ∙ (λ j. least_at (o.modulus j) (sound-is j) (clock_step (o.modulus j) i.last i.clock))

      repair-is : repair ≡ cond (wider_last_sound g i) 0 1
      repair-is = c.repaired ∙ ap (λ (b : Bool). cond b 0 1) sound-is

      -- ---- an accepted call

      pub accepted-output :
          {emptied took delivered : ℕ} {buffer verdicts delivery : List ℕ}
          → AttendedQueue true g i.clock least i.batch i.holdback i.verdicts i.delivery emptied took delivered buffer verdicts delivery
          → record {
            number = 0;
            repair = repair + emptied;
            taken = took;
            delivered = delivered;
            last = i.clock;
            holdback = buffer;
            verdicts = verdicts;
            delivery = delivery;
          } ≡ wider_listened g i
      unfolding wider_listened wider_observer_repair wider_observer_kept wider_observer_delivered wider_observer_heard wider_observer_opened questions_for
      accepted-output {emptied} {took} {delivered} {buffer} {verdicts} {delivery} given =
          let h : AttendedQueue true g i.clock (wider_observer_least g i) i.batch i.holdback i.verdicts i.delivery emptied took delivered buffer verdicts delivery =
          subst (λ (l : ℕ). AttendedQueue true g i.clock l i.batch i.holdback i.verdicts i.delivery emptied took delivered buffer verdicts delivery) least-is given in
          heeded-with i.clock (ap₂ (λ (a b : ℕ). a + b) repair-is h.repaired) h

-- ---- the call

pub refused-output : (w : Wider) (i : Listening) (number : ℕ) → number ≡ first_no (listen_in_questions w i) → (number ≡ 0 → ⊥) → not_listened i number ≡ listen_in w i
refused-output w i zero e h = absurd (h refl)
refused-output w i (suc k) e h = sym (listen-in-by w i (suc k) (sym e))

-- with equal pairs it is the plain one
pub equal-output : (w : Wider) (i : Listening) → first_no (listen_in_questions w i) ≡ 0 → same_pairs i.setup w ≡ true → listen i ≡ listen_in w i
equal-output w i e same = sym (listen-equal w i (same-equal i.setup w same (call-both w i e)))

pub wider-output : (w : Wider) (i : Listening) {g : Schedule} → first_no (listen_in_questions w i) ≡ 0 → g ≡ along i.setup w i.clock → wider_listened g i ≡ listen_in w i
wider-output w i e s = ap (λ (x : Schedule). wider_listened x i) s ∙ sym (listen-in-by w i 0 e)
