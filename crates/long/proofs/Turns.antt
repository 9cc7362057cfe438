-- 02, 2.9: the hearing loop at an engine, turn by turn: what is held, and what is absorbed. Assumes nothing.
use Prim.Native.Nat.{ℕ, zero, suc, ◌+◌, ◌≤◌, ◌<◌}
use native.Mathlib.Omega.{arith}
use mathlib.Core.Path.{◌≡◌, refl, sym, ap, subst, ◌∙◌}
use mathlib.Core.Bool.{true}
use mathlib.Core.List.{List, [], ◌∷◌, ◌++◌}
use lib.ListN.{length, take, drop, set}
use Rattle.laws.specs.Lists.{apart, overlay}
use Rattle.laws.proofs.Lists.{insert_at-end}
use Rattle.laws.proofs.Sorted.{apart-insert_at}
use Rattle.model.specs.Setup.{Setup, width}
use Rattle.model.specs.Timestamp.{Timestamp, trimmed, widened}
use Rattle.model.specs.Frame.{Frame}
use Rattle.model.specs.Batch.{exact_batch, batch_entries}
use Rattle.model.specs.Question.{first_no}
use Rattle.model.specs.Holdback.{same_origin}
use Rattle.model.specs.Long.{long_decode, long_held, long_encode_frames, long_questions, long_judge, long_hear_one, long_hear, long_absorb_by, long_absorb_all}
use Rattle.lemmas.proofs.Counts.{absorb-wide}
use Rattle.lemmas.proofs.Queue.{origin-sym}
use Rattle.lemmas.proofs.LongTick.{long-taken, long-one-verdict}
use Rattle.batch.specs.Walk.{count_of, entry_at, next_at}
use Rattle.longqueue.specs.Queue.{Extent}
use Rattle.node.proofs.HearTurns.{sofar, hear-start, Adding, written_last, LaidTurning, laid-refused, laid-taken, laid_end}
use Rattle.node.proofs.StampTurns.{Share, StampTurning, stamp-end}
use Rattle.long.specs.States.{Holding, heard_with, HeardQueue}

-- ---- what is held

-- this half of the loop's invariant, at entry i, whose length stands at `at`
pub record QueueTurning (s : Setup) (v : ℕ) (batch buffer₀ verdicts₀ : List ℕ) (took count stop at i : ℕ) (buffer verdicts : List ℕ) : Type 0 where
  pub turn : LaidTurning (long_hear_one s v) (long_held s.epsilon) long_encode_frames batch buffer₀ verdicts₀ took at i buffer verdicts
  pub holding : Holding s buffer count stop

pub queue-start : {s : Setup} {v count stop : ℕ} {batch buffer verdicts : List ℕ} → exact_batch batch ≡ true → Holding s buffer count stop
    → QueueTurning s v batch buffer verdicts 0 count stop 1 0 buffer verdicts
queue-start exact holding = record { turn = record { heard = hear-start exact; laid = holding.extent.written }; holding = holding }

-- one entry heard, by its number
refused-one : (s : Setup) (v : ℕ) (queue : List Frame) (done bytes : List ℕ) (x : ℕ) → x ≡ first_no (long_questions s v queue bytes) → (x ≡ 0 → ⊥)
    → long_hear_one s v (sofar queue done) bytes ≡ sofar queue (done ++ (x ∷ []))
unfolding long_hear_one long_judge
refused-one s v queue done bytes zero e h = absurd (h refl)
refused-one s v queue done bytes (suc k) e h = rw (← e) refl

taken-one : (s : Setup) (v : ℕ) (queue : List Frame) (done bytes : List ℕ) → 0 ≡ first_no (long_questions s v queue bytes)
    → long_hear_one s v (sofar queue done) bytes ≡ sofar (queue ++ (long_decode s.epsilon bytes ∷ [])) (done ++ (0 ∷ []))
unfolding long_hear_one long_judge
taken-one s v queue done bytes e = rw (← e, insert_at-end (long_decode s.epsilon bytes) queue) refl

-- one turn: the entry's bytes are judged, and the next entry stands at `at'`
module _ {s : Setup} {v : ℕ} {batch buffer₀ verdicts₀ : List ℕ} {took count stop at i : ℕ} {buffer verdicts : List ℕ}
    (u : QueueTurning s v batch buffer₀ verdicts₀ took count stop at i buffer verdicts) (more : i < count_of batch) (few : count_of batch ≤ length verdicts₀)
    {bytes : List ℕ} {at' : ℕ} (entry : bytes ≡ entry_at batch at) (step : at' ≡ next_at batch at) where
  pub queue-refused : {x : ℕ} → x ≡ first_no (long_questions s v (long_held s.epsilon buffer) bytes) → (x ≡ 0 → ⊥)
      → QueueTurning s v batch buffer₀ verdicts₀ took count stop at' (i + 1) buffer (set verdicts i x)
  queue-refused {x} e h =
      record {
        turn = laid-refused u.turn more few entry step h (refused-one s v (long_held s.epsilon buffer) (take i verdicts) bytes x e h);
        holding = u.holding;
      }

  pub queue-taken : {buffer' : List ℕ} {x : ℕ} → x ≡ 0 → 1 ≤ s.epsilon → 0 ≡ first_no (long_questions s v (long_held s.epsilon buffer) bytes)
      → buffer' ≡ overlay (long_encode_frames (long_held s.epsilon buffer ++ (long_decode s.epsilon bytes ∷ []))) buffer
      → long_held s.epsilon buffer' ≡ long_held s.epsilon buffer ++ (long_decode s.epsilon bytes ∷ [])
      → Extent s buffer' (count + 1) (stop + length bytes)
      → QueueTurning s v batch buffer₀ verdicts₀ (took + 1) (count + 1) (stop + length bytes) at' (i + 1) buffer' (set verdicts i x)
  queue-taken {buffer'} {x} zeros some e put held extent =
      let queue : List Frame = long_held s.epsilon buffer in
      let f : Frame = long_decode s.epsilon bytes in
      let new = (long-taken s v queue bytes some (sym e)).new in
      let size : length (long_encode_frames (queue ++ (f ∷ []))) ≡ stop + length bytes = sym (extent.end_is ∙ ap (λ (q : List Frame). length (long_encode_frames q)) held) in
      subst (λ (k : ℕ). QueueTurning s v batch buffer₀ verdicts₀ (took + 1) (count + 1) (stop + length bytes) at' (i + 1) buffer' (set verdicts i k)) (sym zeros)
      record {
        turn =
            laid-taken u.turn more few entry step (taken-one s v queue (take i verdicts) bytes e) held put (omega (arith, size, u.holding.extent.end_is));
        holding =
            record {
              extent = extent;
              single =
                  ap (apart same_origin) (held ∙ sym (insert_at-end f queue))
                  ∙ apart-insert_at same_origin origin-sym (length queue) f queue new u.holding.single;
            };
      }

-- the verdicts of all entries have the one that was written last at its place
hearer-adds : (s : Setup) (v : ℕ) → Adding (long_hear_one s v)
hearer-adds s v h bytes = (first_no (long_questions s v h.queue bytes) ∷ [], long-one-verdict s v h bytes)

pub queue-written : {s : Setup} {v : ℕ} {batch buffer₀ verdicts₀ : List ℕ} {took count stop at : ℕ} {buffer : List ℕ} (verdicts : List ℕ) (i x : ℕ)
    → QueueTurning s v batch buffer₀ verdicts₀ took count stop at (i + 1) buffer (set verdicts i x) → i < length verdicts
    → drop i (heard_with s v (long_held s.epsilon buffer₀) batch).verdicts ≡ x ∷ drop (i + 1) (heard_with s v (long_held s.epsilon buffer₀) batch).verdicts
unfolding long_hear
queue-written {s} {v} verdicts i x u inside = written_last (hearer-adds s v) verdicts i x u.turn.heard inside

pub queue-end : {s : Setup} {v : ℕ} {batch buffer₀ verdicts₀ : List ℕ} {took count stop at i : ℕ} {buffer verdicts : List ℕ}
    → QueueTurning s v batch buffer₀ verdicts₀ took count stop at i buffer verdicts → count_of batch ≤ i → count_of batch ≤ length verdicts₀
    → HeardQueue s v batch buffer₀ verdicts₀ took count stop buffer verdicts
unfolding long_hear
queue-end u h few = record { holding = u.holding; buffers = laid_end u.turn h few }

-- ---- what is absorbed

-- an entry's share of the stamp
abbrev pub share : Setup → ℕ → Share
share s v number bytes t = long_absorb_by number s v (long_decode s.epsilon bytes) t

pub share-refused : (s : Setup) (v x : ℕ) (bytes : List ℕ) (t : Timestamp) → (x ≡ 0 → ⊥) → share s v x bytes t ≡ t
share-refused s v zero bytes t h = absurd (h refl)
share-refused s v (suc k) bytes t h = refl

pub share-wide : (s : Setup) (v : ℕ) (bytes : List ℕ) (t : Timestamp) → length (share s v 0 bytes t).kn ≡ width s.epsilon
share-wide s v bytes t =
    let f : Frame = long_decode s.epsilon bytes in
    absorb-wide s.epsilon v f.stamp.r t f.stamp

pub share-end : (s : Setup) (v : ℕ) {t₀ : Timestamp} {batch numbers : List ℕ} {t : Timestamp} {at i : ℕ} → StampTurning (share s v) s.epsilon t₀ batch numbers t at i → count_of batch ≤ i
    → t ≡ widened (long_absorb_all s v (trimmed s.epsilon t₀) (batch_entries batch) numbers)
unfolding long_absorb_all
share-end s v u h = stamp-end u h
