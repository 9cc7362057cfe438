-- Demand 2 from any state: verdicts, figures and bounds of every accepted call, a station's and an observer's.
-- Assumes nothing.
use Prim.Native.Nat.{ℕ, ◌+◌}
use mathlib.Core.Path.{◌≡◌, ap, ◌∙◌, sym}
use mathlib.Core.Bool.{cond}
use mathlib.Core.List.{List}
use lib.ListN.{length, take}
use Rattle.model.specs.Setup.{Setup}
use Rattle.model.specs.Timestamp.{trimmed, sound_clock, sound_tables}
use Rattle.model.specs.Batch.{batch_entries}
use Rattle.model.specs.Holdback.{sound_holdback}
use Rattle.model.specs.Judge.{Asking, judge_questions, observer_questions}
use Rattle.model.specs.Tick.{Input, Output, tables_sound, least_due, holdback_sound, repair_of, opened_queue, heard_of, delivered_of, taken_count, acceptance, tick}
use Rattle.model.specs.Observer.{Listening, Listened, last_sound, observer_least, observer_repair, observer_opened, observer_heard, observer_delivered, listened, listen}
use Rattle.theory.specs.NeverFull.{NeverFull}
use Rattle.theory.specs.Demand2.{heard_before, Demand2Any, observed_before, Demand2Observer}
use Rattle.lemmas.proofs.Receiving.{Receiving, receive_heard, receive-bound, receive-room}
use Rattle.lemmas.proofs.OneTick.{Accepted, accepted-call, tick-receiving, tables-next, holdback-stays, verdict-byte, verdicts-front, sent_is, delivered-bytes, sent-bytes}
use Rattle.lemmas.proofs.OneListening.{Heeded, listen-accepted, listen-receiving, last-is, last-next, listen-stays, listen-bytes, listen-verdict, listen-front}

-- 02, 2.7: by whatever is asked, the queue before each entry is never full
never-full :
    (s : Setup) (v least : ℕ) (asking : Asking) (holdback : List ℕ) (entries : List (List ℕ)) → Receiving s v least asking
    → NeverFull s (λ k. receive_heard s v least asking holdback (take k entries))
never-full s v least asking holdback entries receiving =
    record {
      spare = λ k. receive-room s v least asking holdback (take k entries) receiving;
      most = λ k. receive-bound s v least asking holdback (take k entries) receiving;
    }

taken_is : (i : Input) → Accepted i → (tick i).answer.taken ≡ taken_count (heard_of i).verdicts
unfolding acceptance
taken_is i a = ap (λ (o : Output). o.answer.taken) a.accepted

repair-is :
    (i : Input) → Accepted i
    → (tick i).answer.repair
    ≡ cond (sound_tables i.setup.n i.setup.epsilon i.setup.modulus i.clock (trimmed i.setup.epsilon i.tables)) 0 1
    + cond (sound_holdback i.setup i.clock (least_due i.setup i.clock i.tables) i.holdback) 0 2
unfolding acceptance repair_of tables_sound holdback_sound
repair-is i a = ap (λ (o : Output). o.answer.repair) a.accepted

delivered-is : (i : Input) → Accepted i → (tick i).answer.delivered ≡ length (delivered_of i)
unfolding acceptance
delivered-is i a = ap (λ (o : Output). o.answer.delivered) a.accepted

pub demand2-any : Demand2Any
unfolding heard_before tables_sound opened_queue
demand2-any i h =
    let a = accepted-call i h in
    record {
      verdict = λ k entry e. verdict-byte i a k entry e;
      repair = repair-is i a;
      taken = taken_is i a ∙ ap taken_count (sym (verdicts-front i a));
      delivered = delivered-is i a;
      delivery = delivered-bytes i a;
      sent = sent_is i a;
      outgoing = sent-bytes i a;
      bounded = λ k pos few. tables-next i k a pos few;
      bounded_queue = λ k pos few. holdback-stays i k a few;
      never_full =
          never-full i.setup i.clock (least_due i.setup i.clock i.tables) (judge_questions i.setup i.clock) i.holdback
          (batch_entries i.batch) (tick-receiving i a);
    }

-- 02, 2.6: an observer's
taken-listened : (i : Listening) → Heeded i → (listen i).taken ≡ taken_count (observer_heard i).verdicts
unfolding listened
taken-listened i a = ap (λ (o : Listened). o.taken) a.accepted

repair-listened :
    (i : Listening) → Heeded i
    → (listen i).repair
    ≡ cond (sound_clock i.setup.epsilon i.setup.modulus i.clock i.last) 0 1
    + cond (sound_holdback i.setup i.clock (observer_least i) i.holdback) 0 2
unfolding listened observer_repair last_sound
repair-listened i a = ap (λ (o : Listened). o.repair) a.accepted

delivered-listened : (i : Listening) → Heeded i → (listen i).delivered ≡ length (observer_delivered i)
unfolding listened
delivered-listened i a = ap (λ (o : Listened). o.delivered) a.accepted

pub demand2-observer : Demand2Observer
unfolding observed_before observer_opened
demand2-observer i h =
    let a = listen-accepted i h in
    record {
      verdict = λ k entry e. listen-verdict i a k entry e;
      repair = repair-listened i a;
      taken = taken-listened i a ∙ ap taken_count (sym (listen-front i a));
      delivered = delivered-listened i a;
      delivery = listen-bytes i a;
      last = last-is i a;
      bounded = λ k pos few. last-next i k a pos few;
      bounded_queue = λ k pos few. listen-stays i k a few;
      never_full =
          never-full i.setup i.clock (observer_least i) (observer_questions i.setup i.clock) i.holdback (batch_entries i.batch)
          (listen-receiving i a);
    }
