-- A call k clocks after an accepted one, with what that left, a tick or an observer's call; and one that takes no frame. Assumes nothing.
use Prim.Native.Nat.{ℕ, zero, suc, ◌+◌, ◌-◌, ◌%◌, ◌≤◌}
use native.Mathlib.Omega.{arith}
use mathlib.Core.Path.{◌≡◌, refl, sym, ap, ◌∙◌}
use mathlib.Core.Bool.{not}
use mathlib.Core.List.{List, [], ◌∷◌}
use lib.ListN.{length, length-append}
use borrow.Author.Tests.{ne_eqb}
use Rattle.laws.specs.Lists.{select, fold_left}
use Rattle.model.specs.Setup.{Setup}
use Rattle.model.specs.Timestamp.{Timestamp, widened, clock_step, sound_clock}
use Rattle.model.specs.Frame.{Frame, decode}
use Rattle.model.specs.Holdback.{encode_holdback}
use Rattle.model.specs.Question.{first_no}
use Rattle.model.specs.Judge.{Asking, Heard, verdict_by, judge, hear_by, hear, hear_one, place_for}
use Rattle.model.specs.Tick.{Input, holdback_size, step_of, least_after, least_due, opening_queue, opening_in, due_before, taken_count, due_now, tick}
use Rattle.model.specs.Observer.{Listening, listen}
use Rattle.lemmas.proofs.Hearing.{numbers_by}
use Rattle.lemmas.proofs.Receiving.{step-later, numbers_of, hear-verdicts, Receiving, receive_opened, receive_heard, receive_delivered, receive_kept, receive-held, receive-sound}
use Rattle.lemmas.proofs.OneTick.{Accepted, new-r, tables-are, tables-next}
use Rattle.lemmas.proofs.OneListening.{Heeded, last-is, last-next}

-- the least due clock that it allows: after a tick
module _ (i : Input) (k : ℕ) (a : Accepted i) (pos : 1 ≤ k) (few : k ≤ i.setup.epsilon) where
  abbrev later : ℕ
  later = (i.clock + k) % i.setup.modulus

  r-left : (tick i).answer.tables.r ≡ i.clock
  unfolding widened
  r-left = ap (λ (t : Timestamp). t.r) (tables-are i a) ∙ new-r i

  step-next : step_of i.setup later (tick i).answer.tables ≡ k
  unfolding step_of
  step-next = ap (λ (r : ℕ). clock_step i.setup.modulus r later) r-left ∙ step-later i.setup i.clock k a.limits a.clock-below few

  pub least-next : least_due i.setup later (tick i).answer.tables ≡ i.setup.modulus + 1 - k
  unfolding least_due
  least-next = rw (tables-next i k a pos few, step-next) refl

-- and after an observer's call
module _ (i : Listening) (k : ℕ) (a : Heeded i) (pos : 1 ≤ k) (few : k ≤ i.setup.epsilon) where
  abbrev clock-next : ℕ
  clock-next = (i.clock + k) % i.setup.modulus

  last_step : clock_step i.setup.modulus (listen i).last clock-next ≡ k
  last_step = ap (λ (r : ℕ). clock_step i.setup.modulus r clock-next) (last-is i a) ∙ step-later i.setup i.clock k a.limits a.clock-below few

  pub last-least :
      least_after i.setup (sound_clock i.setup.epsilon i.setup.modulus clock-next (listen i).last) (clock_step i.setup.modulus (listen i).last clock-next)
      ≡ i.setup.modulus + 1 - k
  last-least = rw (last-next i k a pos few, last_step) refl

-- verdicts of which none is 0
none-taken : (number : ℕ) (verdicts : List ℕ) → taken_count (number ∷ verdicts) ≡ 0 → (number ≡ 0 → ⊥) × (taken_count verdicts ≡ 0)
unfolding taken_count select
none-taken zero verdicts e = absurd (omega arith)
none-taken (suc k) verdicts e = ((λ z. omega arith), rw (ne_eqb (suc k) 0 (λ z. omega arith)) at e)

-- a hearing that takes no frame leaves the queue as it was
pub hear-none :
    (s : Setup) (v : ℕ) (asking : Asking) (h : Heard) (entries : List (List ℕ)) → taken_count (numbers_of s v asking h entries) ≡ 0
    → (hear s v asking h entries).queue ≡ h.queue
unfolding hear fold_left numbers_by hear_one judge
hear-none s v asking h [] e = refl
hear-none s v asking h (bytes ∷ rest) e =
    let none = none-taken (first_no (asking h.queue bytes)) (numbers_of s v asking (hear_one s v asking h bytes) rest) e in
    hear-none s v asking (hear_one s v asking h bytes) rest none.1 ∙ one none.0
  where
    f : Frame
    f = decode s.epsilon bytes

    one : (first_no (asking h.queue bytes) ≡ 0 → ⊥) → (hear_one s v asking h bytes).queue ≡ h.queue
    one = go (first_no (asking h.queue bytes))
      where
        go : (k : ℕ) → (k ≡ 0 → ⊥) → (hear_by (verdict_by k (place_for s v h.queue f)) f h).queue ≡ h.queue
        go zero n = absurd (n refl)
        go (suc k) n = refl

-- a call's shelf and bundle
module _ (s : Setup) (v least : ℕ) (asking : Asking) (holdback : List ℕ) (entries : List (List ℕ)) where
  abbrev given : Heard
  given = opening_in s v (receive_opened s v least asking holdback entries)

  -- the next call opens the queue as it was left
  pub receive-next :
      Receiving s v least asking → (k : ℕ) → k ≤ s.epsilon
      → opening_queue s ((v + k) % s.modulus) (s.modulus + 1 - k) (encode_holdback (holdback_size s) (receive_kept s v least asking holdback entries))
      ≡ receive_kept s v least asking holdback entries
  unfolding opening_queue
  receive-next receiving k few =
      rw (receive-sound s v least asking holdback entries receiving k few) (receive-held s v least asking holdback entries receiving)

  -- one that takes no frame hands out, of the queue that it opens, what is due before v, and at v
  pub receive-quiet :
      taken_count (receive_heard s v least asking holdback entries).verdicts ≡ 0
      → length (receive_delivered s v least asking holdback entries)
      ≡ length (select (due_before s v) (receive_opened s v least asking holdback entries))
      + length (select (due_now s v) (select (λ f. not (due_before s v f)) (receive_opened s v least asking holdback entries)))
  receive-quiet e =
      length-append (select (due_before s v) (receive_opened s v least asking holdback entries)) (select (due_now s v) (receive_heard s v least asking holdback entries).queue)
      ∙ ap (λ (queue : List Frame). length (select (due_before s v) (receive_opened s v least asking holdback entries)) + length (select (due_now s v) queue))
      (hear-none s v asking given entries (ap taken_count (sym (hear-verdicts s v asking given entries)) ∙ e))
