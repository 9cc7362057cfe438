-- An observer's call from its parts: what it shares with a node is the model's call. Assumes nothing.
use Prim.Native.Nat.{ℕ, zero, suc, ◌+◌, ◌≤◌}
use mathlib.Core.Path.{◌≡◌, refl, sym, ap, ap₂, subst, ◌∙◌}
use mathlib.Core.Bool.{Bool, true, cond}
use mathlib.Core.List.{List}
use lib.ListN.{length, length-replicate}
use Rattle.laws.specs.Lists.{overlay}
use Rattle.model.specs.Setup.{width, verdict_length}
use Rattle.model.specs.Timestamp.{Timestamp, widened, replaced, clock_step, sound_clock}
use Rattle.model.specs.Frame.{Frame}
use Rattle.model.specs.Batch.{exact_batch}
use Rattle.model.specs.Holdback.{encode_frames, encode_holdback}
use Rattle.model.specs.Question.{first_no}
use Rattle.model.specs.Judge.{Heard}
use Rattle.model.specs.Tick.{holdback_size, least_after, taken_count}
use Rattle.model.specs.Observer.{Listening, Listened, listen_questions, not_listened, last_sound, observer_least, observer_repair, observer_opened, observer_heard, observer_delivered, observer_kept, listened, listen}
use Rattle.lemmas.proofs.Bounds.{Limits}
use Rattle.lemmas.proofs.Questions.{limits-from}
use Rattle.lemmas.proofs.OneListening.{listen-by}
use Rattle.node.specs.Views.{questions_for}
use Rattle.node.proofs.Finish.{places-narrow}
use Rattle.observer.proofs.Calls.{Sized, sized-passed, sized-asked}
use Rattle.node.specs.States.{Timed, LastClock, ClockOpened, Attending, AttendedWith, AttendedQueue}

-- what an accepted call has passed
pub record Call (i : Listening) : Type 0 where
  pub timed : Timed i.setup i.clock
  pub limits : Limits i.setup
  pub size : length i.holdback ≡ holdback_size i.setup
  pub exact : exact_batch i.batch ≡ true
  pub verdicts-room : verdict_length ≤ length i.verdicts
  pub delivery-room : holdback_size i.setup ≤ length i.delivery

pub call-passed : (i : Listening) → first_no (listen_questions i) ≡ 0 → Call i
call-passed i e =
    let (inside, asked) = sized-asked i e in
    let z : Sized i.setup i = sized-passed i.setup i asked in
    record {
      timed = record { limits = inside; below = z.below };
      limits = limits-from i.setup inside;
      size = z.size;
      exact = z.exact;
      verdicts-room = z.verdicts-room;
      delivery-room = z.delivery-room;
    }

-- a stamp with no counts
pub call-attending : (i : Listening) {t : Timestamp} → Call i → t ≡ widened (replaced i.setup.epsilon i.clock) → Attending i.setup t i.batch i.holdback i.verdicts i.delivery
unfolding replaced
call-attending i c e =
    record {
      size = c.size;
      hearing =
          record {
            narrow = places-narrow i.setup.epsilon (replaced i.setup.epsilon i.clock) c.limits.epsilon-most (length-replicate (width i.setup.epsilon) 0) e;
            exact = c.exact;
            room = c.verdicts-room;
          };
      delivery-room = c.delivery-room;
    }

-- a call from its parts, whatever the frames' widths
pub heeded-with : (clock : ℕ) {verdicts₀ delivery₀ : List ℕ} {sound : Bool} {heard : Heard} {handed stays : List Frame} {room emptied took delivered : ℕ} {buffer verdicts delivery : List ℕ} {repair repair₀ : ℕ}
    → repair ≡ repair₀ → AttendedWith sound heard handed stays room verdicts₀ delivery₀ emptied took delivered buffer verdicts delivery
    → ◌≡◌ {A = Listened}
    (record { number = 0; repair = repair; taken = took; delivered = delivered; last = clock; holdback = buffer; verdicts = verdicts; delivery = delivery })
    (record {
      number = 0;
      repair = repair₀;
      taken = taken_count heard.verdicts;
      delivered = length handed;
      last = clock;
      holdback = encode_holdback room stays;
      verdicts = overlay heard.verdicts verdicts₀;
      delivery = overlay (encode_frames handed) delivery₀;
    })
heeded-with clock e h = rw (e, h.taken_is, h.count-is, h.kept, h.numbers, h.given)

-- ---- the last clock

module _ (i : Listening) {sound : Bool} (e : sound ≡ sound_clock i.setup.epsilon i.setup.modulus i.clock i.last) where
  pub last-judged : LastClock i.setup i.clock sound i.last
  last-judged = record { judged = λ h. sym e ∙ h }

  module _ {least repair : ℕ} (o : ClockOpened i.setup i.clock sound i.last least repair) where
    least-is : least ≡ observer_least i
    unfolding observer_least last_sound
    least-is = o.least-is ∙ ap (λ (b : Bool). least_after i.setup b (clock_step i.setup.modulus i.last i.clock)) e

    repair-is : repair ≡ cond (last_sound i) 0 1
    unfolding last_sound
    repair-is = o.repaired ∙ ap (λ (b : Bool). cond b 0 1) e

    -- ---- an accepted call

    pub accepted-output :
        first_no (listen_questions i) ≡ 0 → {emptied took delivered : ℕ} {buffer verdicts delivery : List ℕ}
        → AttendedQueue true i.setup i.clock least i.batch i.holdback i.verdicts i.delivery emptied took delivered buffer verdicts delivery
        → record {
          number = 0;
          repair = repair + emptied;
          taken = took;
          delivered = delivered;
          last = i.clock;
          holdback = buffer;
          verdicts = verdicts;
          delivery = delivery;
        } ≡ listen i
    unfolding listened observer_repair observer_kept observer_delivered observer_heard observer_opened questions_for
    accepted-output none {emptied} {took} {delivered} {buffer} {verdicts} {delivery} given =
        let h : AttendedQueue true i.setup i.clock (observer_least i) i.batch i.holdback i.verdicts i.delivery emptied took delivered buffer verdicts delivery =
        subst (λ (l : ℕ). AttendedQueue true i.setup i.clock l i.batch i.holdback i.verdicts i.delivery emptied took delivered buffer verdicts delivery) least-is given in
        heeded-with i.clock (ap₂ (λ (a b : ℕ). a + b) repair-is h.repaired) h ∙ sym (listen-by i 0 none)

-- ---- a refused call

pub refused-output : (i : Listening) (number : ℕ) → number ≡ first_no (listen_questions i) → (number ≡ 0 → ⊥) → not_listened i number ≡ listen i
refused-output i zero e h = absurd (h refl)
refused-output i (suc k) e h = sym (listen-by i (suc k) (sym e))
