-- 02, 2.10: the hearing loop, turn by turn, with frames of both widths: what goes on the queue, and what goes into the stamp. Assumes nothing.
use Prim.Native.Nat.{ℕ, ◌+◌, ◌≤◌, ◌<◌}
use native.Mathlib.Omega.{arith}
use mathlib.Core.Path.{◌≡◌, sym, ap, ◌∙◌}
use mathlib.Core.Bool.{Bool, true, cond}
use mathlib.Core.List.{List, [], ◌∷◌, ◌++◌}
use lib.ListN.{length, take, drop, set}
use Rattle.model.specs.Setup.{width}
use Rattle.model.specs.Timestamp.{Timestamp, trimmed, widened}
use Rattle.model.specs.Frame.{Frame}
use Rattle.model.specs.Batch.{exact_batch, batch_entries}
use Rattle.model.specs.Question.{first_no}
use Rattle.model.specs.Holdback.{encode_frames}
use Rattle.model.specs.Judge.{Heard, Verdict, taken, refused, hear_by}
use Rattle.model.specs.Schedule.{Schedule, widest_of, modulus_of, own_limits}
use Rattle.model.specs.Wider.{frame_half, wider_decode, wider_reading, wider_held, wider_judge, wider_hear_one, wider_hear, wider_absorb_by, wider_absorb_all}
use Rattle.lemmas.proofs.Counts.{absorbed-wide}
use Rattle.lemmas.proofs.WiderReceiving.{heard-verdict-along}
use Rattle.lemmas.proofs.WiderTick.{absorb-taken, absorb-skipped}
use Rattle.holdback.proofs.RoundTrip.{Bytes}
use Rattle.batch.specs.Walk.{count_of, entry_at, next_at}
use Rattle.node.proofs.Places.{size-two}
use Rattle.node.proofs.HearTurns.{Hearer, sofar, hear-start, Adding, written_last, LaidTurning, laid-refused, laid-taken, laid_end}
use Rattle.node.proofs.StampTurns.{Share, StampTurning, listening, listening-refused, listening-wide, listening-taken, listening-end}
use Rattle.widerqueue.specs.Queue.{Extent}
use Rattle.widernode.specs.Views.{questions_for}
use Rattle.widernode.specs.States.{Queued, Enqueued, heard_all, HeardQueue, absorbed_for}
use Rattle.widernode.proofs.Verdicts.{refused-number}
use Rattle.widernode.proofs.Places.{queue-own, insert-long}

-- hearing one entry, by what is asked
abbrev pub hearer : Bool → Schedule → ℕ → Hearer
hearer listens g v = wider_hear_one g v (questions_for listens g v)

-- this half of the loop's invariant, at entry i, whose length stands at `at`
pub record QueueTurning (listens : Bool) (g : Schedule) (v : ℕ) (batch buffer₀ verdicts₀ : List ℕ) (took count stop at i : ℕ) (buffer table verdicts : List ℕ) : Type 0 where
  pub turn : LaidTurning (hearer listens g v) (wider_held g) encode_frames batch buffer₀ verdicts₀ took at i buffer verdicts
  pub queued : Queued g v buffer table
  pub extent : Extent g buffer count stop

pub queue-start : {listens : Bool} {g : Schedule} {v count stop : ℕ} {batch buffer table verdicts : List ℕ} → Bytes buffer → exact_batch batch ≡ true → Queued g v buffer table → Extent g buffer count stop
    → QueueTurning listens g v batch buffer verdicts 0 count stop 1 0 buffer table verdicts
queue-start {listens} {g} {v} {batch} {buffer} clean exact q extent =
    record {
      turn = record { heard = hear-start exact; laid = queue-own g v (modulus_of g) buffer q.sound clean (size-two (widest_of g) (length buffer) q.size) };
      queued = q;
      extent = extent;
    }

-- one entry heard, by its verdict
heard-by : (listens : Bool) (g : Schedule) (v : ℕ) (h : Heard) (bytes : List ℕ) (verdict : Verdict) → wider_judge g v (questions_for listens g v) h.queue bytes ≡ verdict
    → hearer listens g v h bytes ≡ hear_by verdict (wider_decode g bytes) h
unfolding wider_hear_one
heard-by listens g v h bytes verdict e = ap (λ (d : Verdict). hear_by d (wider_decode g bytes) h) e

-- one turn: the entry's bytes are judged, and the next entry stands at `at'`
module _ {listens : Bool} {g : Schedule} {v : ℕ} {batch buffer₀ verdicts₀ : List ℕ} {took count stop at i : ℕ} {buffer table verdicts : List ℕ}
    (u : QueueTurning listens g v batch buffer₀ verdicts₀ took count stop at i buffer table verdicts) (more : i < count_of batch) (few : count_of batch ≤ length verdicts₀)
    {bytes : List ℕ} {at' : ℕ} (entry : bytes ≡ entry_at batch at) (step : at' ≡ next_at batch at) where
  abbrev now : Heard
  now = sofar (wider_held g buffer) (take i verdicts)

  pub queue-refused : {number x : ℕ} → wider_judge g v (questions_for listens g v) (wider_held g buffer) bytes ≡ refused number → x ≡ number
      → QueueTurning listens g v batch buffer₀ verdicts₀ took count stop at' (i + 1) buffer table (set verdicts i x)
  queue-refused {number} {x} e same =
      record {
        turn =
            laid-refused u.turn more few entry step (λ z. refused-number g v (questions_for listens g v) (wider_held g buffer) bytes number e (sym same ∙ z))
            (heard-by listens g v now bytes (refused number) e ∙ ap (λ (k : ℕ). sofar (wider_held g buffer) (take i verdicts ++ (k ∷ []))) (sym same));
        queued = u.queued;
        extent = u.extent;
      }

  pub queue-taken : {place : ℕ} {buffer' table' : List ℕ} → wider_judge g v (questions_for listens g v) (wider_held g buffer) bytes ≡ taken place
      → Enqueued g v place bytes buffer count stop buffer' table'
      → QueueTurning listens g v batch buffer₀ verdicts₀ (took + 1) (count + 1) (stop + length bytes) at' (i + 1) buffer' table' (set verdicts i 0)
  queue-taken {place} e k =
      record {
        turn =
            laid-taken u.turn more few entry step (heard-by listens g v now bytes (taken place) e) k.queue k.buffer-is
            (omega (arith, insert-long place (wider_decode g bytes) (wider_held g buffer)));
        queued = k.queued;
        extent = k.extent;
      }

-- the verdicts of all entries have the one that was written last at its place
hearer-adds : (listens : Bool) (g : Schedule) (v : ℕ) → Adding (hearer listens g v)
hearer-adds listens g v h bytes =
    (first_no (questions_for listens g v h.queue bytes) ∷ [], heard-verdict-along g v (questions_for listens g v) h bytes)

pub queue-written : {listens : Bool} {g : Schedule} {v : ℕ} {batch buffer₀ verdicts₀ : List ℕ} {took count stop at : ℕ} {buffer table : List ℕ} (verdicts : List ℕ) (i x : ℕ)
    → QueueTurning listens g v batch buffer₀ verdicts₀ took count stop at (i + 1) buffer table (set verdicts i x) → i < length verdicts
    → drop i (heard_all listens g v batch buffer₀).verdicts ≡ x ∷ drop (i + 1) (heard_all listens g v batch buffer₀).verdicts
unfolding wider_hear
queue-written {listens} {g} {v} verdicts i x u inside = written_last (hearer-adds listens g v) verdicts i x u.turn.heard inside

pub queue-end : {listens : Bool} {g : Schedule} {v : ℕ} {batch buffer₀ verdicts₀ : List ℕ} {took count stop at i : ℕ} {buffer table verdicts : List ℕ}
    → QueueTurning listens g v batch buffer₀ verdicts₀ took count stop at i buffer table verdicts → count_of batch ≤ i → count_of batch ≤ length verdicts₀
    → HeardQueue listens g v batch buffer₀ verdicts₀ took count stop buffer table verdicts
unfolding wider_hear
queue-end u h few = record { queued = u.queued; extent = u.extent; buffers = laid_end u.turn h few }

-- ---- what goes into the stamp

-- a frame's share
abbrev frame_share : Schedule → ℕ → Share
frame_share g v x bytes t = wider_absorb_by g x v (wider_decode g bytes) t

abbrev pub share : Bool → Schedule → ℕ → Share
share listens g v = listening listens (frame_share g v)

module _ (listens : Bool) (g : Schedule) (v : ℕ) where
  pub share-refused : (x : ℕ) (bytes : List ℕ) (t : Timestamp) → (x ≡ 0 → ⊥) → share listens g v x bytes t ≡ t
  share-refused x bytes t h = listening-refused listens (frame_share g v) x bytes t (λ k. absorb-skipped g k v (wider_decode g bytes) t) h

  pub share-wide : (bytes : List ℕ) (t : Timestamp) → length (share listens g v 0 bytes (trimmed (own_limits g).epsilon t)).kn ≡ width (own_limits g).epsilon
  share-wide bytes t =
      let f : Frame = wider_decode g bytes in
      listening-wide listens (frame_share g v) (own_limits g).epsilon bytes t
      (ap (λ (x : Timestamp). length x.kn) (absorb-taken g v f (trimmed (own_limits g).epsilon t))
      ∙ absorbed-wide (own_limits g).epsilon (frame_half g f) (modulus_of g) (wider_reading g v f) (trimmed (own_limits g).epsilon t) f.stamp)

  pub share-taken :
      (bytes : List ℕ) (t : Timestamp) {t' : Timestamp} → t ≡ widened (trimmed (own_limits g).epsilon t)
      → t' ≡ cond listens t (widened (wider_absorb_by g 0 v (wider_decode g bytes) (trimmed (own_limits g).epsilon t)))
      → t' ≡ widened (share listens g v 0 bytes (trimmed (own_limits g).epsilon t))
  share-taken bytes t narrow e = listening-taken listens (frame_share g v) (own_limits g).epsilon bytes t narrow e

  pub share-end : {t₀ : Timestamp} {batch numbers : List ℕ} {t : Timestamp} {at i : ℕ} → StampTurning (share listens g v) (own_limits g).epsilon t₀ batch numbers t at i → count_of batch ≤ i
      → t ≡ widened (absorbed_for listens g v (trimmed (own_limits g).epsilon t₀) (batch_entries batch) numbers)
  unfolding absorbed_for wider_absorb_all
  share-end u h = listening-end listens (frame_share g v) u h
