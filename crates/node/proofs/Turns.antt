-- The hearing loop at a node, the half that goes on the queue. Assumes nothing.
use Prim.Native.Nat.{ℕ, ◌+◌, ◌≤◌, ◌<◌}
use mathlib.Core.Path.{◌≡◌, sym, ap, ◌∙◌}
use mathlib.Core.Bool.{Bool, true}
use mathlib.Core.List.{List, [], ◌∷◌, ◌++◌}
use lib.ListN.{length, take, drop, set}
use Rattle.model.specs.Setup.{Setup}
use Rattle.model.specs.Frame.{decode}
use Rattle.model.specs.Batch.{exact_batch}
use Rattle.model.specs.Question.{first_no}
use Rattle.model.specs.Holdback.{held, encode_frames}
use Rattle.model.specs.Judge.{Heard, Verdict, taken, refused, judge, hear_by, hear_one, hear}
use Rattle.lemmas.proofs.Receiving.{hear-one-verdict}
use Rattle.holdback.proofs.RoundTrip.{Bytes}
use Rattle.batch.specs.Walk.{count_of, entry_at, next_at}
use Rattle.node.specs.Views.{questions_for}
use Rattle.node.specs.States.{Queued, Extent, Enqueued, heard_all, HeardQueue}
use Rattle.node.proofs.Verdicts.{refused-number}
use Rattle.node.proofs.Places.{size-two, queue-own, frames-longer}
use Rattle.node.proofs.HearTurns.{Hearer, sofar, hear-start, Adding, written_last, LaidTurning, laid-refused, laid-taken, laid_end}

-- hearing one entry, by what is asked
abbrev pub hearer : Bool → Setup → ℕ → Hearer
hearer listens s v = hear_one s v (questions_for listens s v)

-- this half of the loop's invariant, at entry i, whose length stands at `at`
pub record QueueTurning (listens : Bool) (s : Setup) (v : ℕ) (batch buffer₀ verdicts₀ : List ℕ) (took count stop at i : ℕ) (buffer table starts verdicts : List ℕ) : Type 0 where
  pub turn : LaidTurning (hearer listens s v) (held s.epsilon) encode_frames batch buffer₀ verdicts₀ took at i buffer verdicts
  pub queued : Queued s v buffer table starts
  pub extent : Extent s.epsilon buffer count stop

pub queue-start : {listens : Bool} {s : Setup} {v count stop : ℕ} {batch buffer table starts verdicts : List ℕ} → Bytes buffer → exact_batch batch ≡ true → Queued s v buffer table starts → Extent s.epsilon buffer count stop
    → QueueTurning listens s v batch buffer verdicts 0 count stop 1 0 buffer table starts verdicts
queue-start {listens} {s} {v} {batch} {buffer} clean exact q extent =
    record {
      turn = record { heard = hear-start exact; laid = queue-own s v s.modulus buffer clean (size-two s (length buffer) q.size) q.sound };
      queued = q;
      extent = extent;
    }

-- one entry heard, by its verdict
heard-by : (listens : Bool) (s : Setup) (v : ℕ) (h : Heard) (bytes : List ℕ) (verdict : Verdict) → judge s v (questions_for listens s v) h.queue bytes ≡ verdict
    → hearer listens s v h bytes ≡ hear_by verdict (decode s.epsilon bytes) h
unfolding hear_one
heard-by listens s v h bytes verdict e = ap (λ (d : Verdict). hear_by d (decode s.epsilon bytes) h) e

-- one turn: the entry's bytes are judged, and the next entry stands at `at'`
module _ {listens : Bool} {s : Setup} {v : ℕ} {batch buffer₀ verdicts₀ : List ℕ} {took count stop at i : ℕ} {buffer table starts verdicts : List ℕ}
    (u : QueueTurning listens s v batch buffer₀ verdicts₀ took count stop at i buffer table starts verdicts) (more : i < count_of batch) (few : count_of batch ≤ length verdicts₀)
    {bytes : List ℕ} {at' : ℕ} (entry : bytes ≡ entry_at batch at) (step : at' ≡ next_at batch at) where
  abbrev now : Heard
  now = sofar (held s.epsilon buffer) (take i verdicts)

  pub queue-refused : {number x : ℕ} → judge s v (questions_for listens s v) (held s.epsilon buffer) bytes ≡ refused number → x ≡ number
      → QueueTurning listens s v batch buffer₀ verdicts₀ took count stop at' (i + 1) buffer table starts (set verdicts i x)
  queue-refused {number} {x} e same =
      record {
        turn =
            laid-refused u.turn more few entry step (λ z. refused-number s v (questions_for listens s v) (held s.epsilon buffer) bytes number e (sym same ∙ z))
            (heard-by listens s v now bytes (refused number) e ∙ ap (λ (k : ℕ). sofar (held s.epsilon buffer) (take i verdicts ++ (k ∷ []))) (sym same));
        queued = u.queued;
        extent = u.extent;
      }

  pub queue-taken : {place : ℕ} {buffer' table' starts' : List ℕ} → judge s v (questions_for listens s v) (held s.epsilon buffer) bytes ≡ taken place
      → Enqueued s v place bytes buffer count stop buffer' table' starts'
      → QueueTurning listens s v batch buffer₀ verdicts₀ (took + 1) (count + 1) (stop + length bytes) at' (i + 1) buffer' table' starts' (set verdicts i 0)
  queue-taken {place} e k =
      record {
        turn =
            laid-taken u.turn more few entry step (heard-by listens s v now bytes (taken place) e) k.queue k.buffer-is
            (frames-longer place (decode s.epsilon bytes) (held s.epsilon buffer));
        queued = k.queued;
        extent = k.extent;
      }

-- the verdicts of all entries have the one that was written last at its place
hearer-adds : (listens : Bool) (s : Setup) (v : ℕ) → Adding (hearer listens s v)
hearer-adds listens s v h bytes =
    (first_no (questions_for listens s v h.queue bytes) ∷ [], hear-one-verdict s v (questions_for listens s v) h bytes)

pub queue-written : {listens : Bool} {s : Setup} {v : ℕ} {batch buffer₀ verdicts₀ : List ℕ} {took count stop at : ℕ} {buffer table starts : List ℕ} (verdicts : List ℕ) (i x : ℕ)
    → QueueTurning listens s v batch buffer₀ verdicts₀ took count stop at (i + 1) buffer table starts (set verdicts i x) → i < length verdicts
    → drop i (heard_all listens s v batch buffer₀).verdicts ≡ x ∷ drop (i + 1) (heard_all listens s v batch buffer₀).verdicts
unfolding hear
queue-written {listens} {s} {v} verdicts i x u inside = written_last (hearer-adds listens s v) verdicts i x u.turn.heard inside

pub queue-end : {listens : Bool} {s : Setup} {v : ℕ} {batch buffer₀ verdicts₀ : List ℕ} {took count stop at i : ℕ} {buffer table starts verdicts : List ℕ}
    → QueueTurning listens s v batch buffer₀ verdicts₀ took count stop at i buffer table starts verdicts → count_of batch ≤ i → count_of batch ≤ length verdicts₀
    → HeardQueue listens s v batch buffer₀ verdicts₀ took count stop buffer table starts verdicts
unfolding hear
queue-end u h few = record { queued = u.queued; extent = u.extent; buffers = laid_end u.turn h few }
