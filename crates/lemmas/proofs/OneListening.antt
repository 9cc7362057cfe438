-- One accepted call of an observer.
-- Assumes nothing.
use Prim.Native.Nat.{ℕ, zero, suc, ◌+◌, ◌-◌, ◌%◌, ◌≤◌, ◌<◌}
use native.Mathlib.Omega.{arith}
use mathlib.Core.Path.{◌≡◌, refl, sym, ap, ◌∙◌}
use mathlib.Core.Bool.{Bool, true, false, cond}
use mathlib.Core.List.{List, map}
use mathlib.Core.Option.{some}
use lib.Dec.{ltb}
use lib.ListN.{length, take, get_or, get_elem?}
use borrow.Author.Tests.{ltb-true, lt-ltb, le-leb}
use Rattle.laws.specs.Lists.{within, overlay}
use Rattle.laws.proofs.Numbers.{and_intro, and_right, within-high}
use Rattle.model.specs.Setup.{in_limits}
use Rattle.model.specs.Timestamp.{clock_step, sound_clock}
use Rattle.model.specs.Frame.{encode}
use Rattle.model.specs.Batch.{batch_entries}
use Rattle.model.specs.Holdback.{held_bytes, sound_holdback, encode_frames, encode_holdback}
use Rattle.model.specs.Question.{first_no}
use Rattle.model.specs.Judge.{hear, observer_questions}
use Rattle.model.specs.Tick.{holdback_size, opening_in}
use Rattle.model.specs.Observer.{Listening, Listened, listen_questions, not_listened, last_sound, observer_least, observer_opened, observer_heard, observer_delivered, observer_kept, listened, listen_by, listen}
use Rattle.lemmas.proofs.Bounds.{Limits}
use Rattle.lemmas.proofs.Questions.{first-yes, other-yes, limits-from}
use Rattle.lemmas.proofs.Queue.{observed-passed}
use Rattle.lemmas.proofs.Receiving.{step-later, Receiving, receive-sound, receive-bytes, receive-verdict, receive-front}

-- the call by the number of the first question that gets a no
pub listen-by : (i : Listening) (k : ℕ) → first_no (listen_questions i) ≡ k → listen i ≡ listen_by k i
unfolding listen
listen-by i k e = ap (λ (m : ℕ). listen_by m i) e

pub not-listened-number : (i : Listening) (k : ℕ) → (not_listened i k).number ≡ k
unfolding not_listened
not-listened-number i k = refl

-- no question gets a no
pub listen-no-fails : (i : Listening) → (listen i).number ≡ 0 → first_no (listen_questions i) ≡ 0
listen-no-fails i h = go (first_no (listen_questions i)) refl
  where
    go : (k : ℕ) → first_no (listen_questions i) ≡ k → k ≡ 0
    go zero e = refl
    go (suc k) e = sym (not-listened-number i (suc k)) ∙ (sym (ap (λ (o : Listened). o.number) (listen-by i (suc k) e)) ∙ h)

-- what an accepted call has passed
pub record Heeded (i : Listening) : Type 0 where
  pub limits : Limits i.setup
  pub clock-below : i.clock < i.setup.modulus
  pub accepted : listen i ≡ listened i

pub listen-passes : (i : Listening) → first_no (listen_questions i) ≡ 0 → Heeded i
unfolding listen_questions
listen-passes i e =
    let e₁ = other-yes (in_limits i.setup) 0 _ e in
    record {
      limits = limits-from i.setup (first-yes (in_limits i.setup) 0 _ e);
      clock-below = ltb-true i.clock i.setup.modulus (first-yes (ltb i.clock i.setup.modulus) 1 _ e₁);
      accepted = listen-by i 0 e;
    }

pub listen-accepted : (i : Listening) → (listen i).number ≡ 0 → Heeded i
listen-accepted i h = listen-passes i (listen-no-fails i h)

-- the least due clock allowed lies less than ε before v
least-near : (i : Listening) → Limits i.setup → i.setup.modulus + 1 ≤ observer_least i + i.setup.epsilon
unfolding observer_least last_sound
least-near i limits = go (last_sound i) refl
  where
    go : (b : Bool) → last_sound i ≡ b → i.setup.modulus + 1 ≤ cond b (i.setup.modulus + 1 - clock_step i.setup.modulus i.last i.clock) i.setup.modulus + i.setup.epsilon
    go true e =
        let few : clock_step i.setup.modulus i.last i.clock ≤ i.setup.epsilon =
        within-high 1 i.setup.epsilon (clock_step i.setup.modulus i.last i.clock) (and_right (ltb i.last i.setup.modulus) _ e) in
        omega (arith, few, limits.modulus-least)
    go false e = omega (arith, limits.epsilon-pos)

-- what it shares with a tick
pub listen-receiving : (i : Listening) → Heeded i → Receiving i.setup i.clock (observer_least i) (observer_questions i.setup i.clock)
listen-receiving i a =
    record {
      limits = a.limits;
      below = a.clock-below;
      near = least-near i a.limits;
      places = λ queue bytes e. observed-passed i.setup i.clock queue bytes a.limits e;
    }

-- the answer and the buffers
pub last-is : (i : Listening) → Heeded i → (listen i).last ≡ i.clock
unfolding listened
last-is i a = ap (λ (o : Listened). o.last) a.accepted

pub listen-holdback : (i : Listening) → Heeded i → (listen i).holdback ≡ encode_holdback (holdback_size i.setup) (observer_kept i)
unfolding listened
listen-holdback i a = ap (λ (o : Listened). o.holdback) a.accepted

pub listen-delivery : (i : Listening) → Heeded i → (listen i).delivery ≡ overlay (encode_frames (observer_delivered i)) i.delivery
unfolding listened
listen-delivery i a = ap (λ (o : Listened). o.delivery) a.accepted

pub listen-verdicts : (i : Listening) → Heeded i → (listen i).verdicts ≡ overlay (observer_heard i).verdicts i.verdicts
unfolding listened
listen-verdicts i a = ap (λ (o : Listened). o.verdicts) a.accepted

-- the last clock that it leaves is sound for every next clock 1 to ε ahead
pub last-next : (i : Listening) (k : ℕ) → Heeded i → 1 ≤ k → k ≤ i.setup.epsilon → sound_clock i.setup.epsilon i.setup.modulus ((i.clock + k) % i.setup.modulus) (listen i).last ≡ true
unfolding within
last-next i k a pos few =
    rw (last-is i a, step-later i.setup i.clock k a.limits a.clock-below few)
    (and_intro (lt-ltb i.clock i.setup.modulus a.clock-below) (and_intro (le-leb 1 k pos) (le-leb k i.setup.epsilon few)))

-- and so is the shelf
pub listen-stays : (i : Listening) (k : ℕ) → Heeded i → k ≤ i.setup.epsilon → sound_holdback i.setup ((i.clock + k) % i.setup.modulus) (i.setup.modulus + 1 - k) (listen i).holdback ≡ true
unfolding observer_kept observer_heard observer_opened
listen-stays i k a few =
    ap (λ (x : List ℕ). sound_holdback i.setup ((i.clock + k) % i.setup.modulus) (i.setup.modulus + 1 - k) x) (listen-holdback i a)
    ∙ receive-sound i.setup i.clock (observer_least i) (observer_questions i.setup i.clock) i.holdback (batch_entries i.batch) (listen-receiving i a) k few

-- what it wrote
pub listen-bytes : (i : Listening) → Heeded i → held_bytes i.setup.epsilon (listen i).delivery ≡ map encode (observer_delivered i)
unfolding observer_delivered observer_heard observer_opened
listen-bytes i a =
    ap (held_bytes i.setup.epsilon) (listen-delivery i a)
    ∙ receive-bytes i.setup i.clock (observer_least i) (observer_questions i.setup i.clock) i.holdback (batch_entries i.batch) (listen-receiving i a) i.delivery

pub listen-verdict :
    (i : Listening) → Heeded i → (k : ℕ) (entry : List ℕ) → get_elem? (batch_entries i.batch) k ≡ some entry
    → get_or (listen i).verdicts k 0
    ≡ first_no (observer_questions i.setup i.clock
    (hear i.setup i.clock (observer_questions i.setup i.clock) (opening_in i.setup i.clock (observer_opened i)) (take k (batch_entries i.batch))).queue entry)
unfolding observer_heard observer_opened
listen-verdict i a k entry e =
    ap (λ (l : List ℕ). get_or l k 0) (listen-verdicts i a)
    ∙ receive-verdict i.setup i.clock (observer_least i) (observer_questions i.setup i.clock) i.holdback (batch_entries i.batch) i.verdicts k entry e

pub listen-front : (i : Listening) → Heeded i → take (length (batch_entries i.batch)) (listen i).verdicts ≡ (observer_heard i).verdicts
unfolding observer_heard observer_opened
listen-front i a =
    ap (take (length (batch_entries i.batch))) (listen-verdicts i a)
    ∙ receive-front i.setup i.clock (observer_least i) (observer_questions i.setup i.clock) i.holdback (batch_entries i.batch) i.verdicts
