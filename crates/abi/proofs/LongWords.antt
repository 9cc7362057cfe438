-- 02, 2.9: what an engine reads, writes and answers fits in one number. Assumes nothing.
use Prim.Native.Nat.{ℕ, zero, suc, ◌+◌, ◌<◌}
use native.Mathlib.Omega.{arith}
use mathlib.Core.Path.{◌≡◌, refl, sym, ap, ◌∙◌}
use mathlib.Core.List.{List, ◌∷◌}
use lib.ListN.{length, get_or}
use borrow.Author.Tests.{eq-eqb}
use Rattle.model.specs.Setup.{Setup, width}
use Rattle.model.specs.Timestamp.{Timestamp, widened}
use Rattle.model.specs.Frame.{payload_count_at}
use Rattle.model.specs.Batch.{batch_entries}
use Rattle.model.specs.Question.{first_no}
use Rattle.model.specs.Codec.{read_by, frame_of}
use Rattle.model.specs.Tick.{Input, Output, refusal, taken_count}
use Rattle.model.specs.Long.{plainly, ask_long_setup, six_on, long_encode, long_decode, long_frame_questions, long_passes, long_read, long_write_questions, long_write_frame, long_write, long_questions, long_hear_one, long_hear, long_opened, long_heard, long_new_stamp, long_sent, long_delivered, long_call_questions, long_acceptance, long_tick}
use Rattle.lemmas.proofs.Bounds.{FrameOk}
use Rattle.lemmas.proofs.Questions.{other-yes}
use Rattle.lemmas.proofs.RoundTrip.{later-payload}
use Rattle.lemmas.proofs.Hearing.{all-length}
use Rattle.lemmas.proofs.LongFrames.{LongFormed, long-formed-from, long-passes-decode}
use Rattle.lemmas.proofs.LongTick.{LongPassed, long-passed, long-one-verdict, long-left, delivered-few}
use Rattle.longframe.specs.Lay.{LongRoom}
use Rattle.longframe.proofs.Asking.{valid, read-passed, room_of, length-frame}
use Rattle.abi.proofs.Words.{Fair, fair-by, read-number-by, written_small, Small, taken-few, sent-few}

-- ---- its reader

pub long-read-is : (s : Setup) (own : ℕ) (bytes : List ℕ) → long_read s own bytes ≡ read_by (first_no (ask_long_setup s own ∷ long_frame_questions s bytes)) (long_decode s.epsilon bytes)
unfolding long_read
long-read-is s own bytes = refl

pub long-fair : (s : Setup) (own : ℕ) (bytes : List ℕ) → (long_read s own bytes).number ≡ 0 → Fair (6 + (payload_count_at s.epsilon + 1)) bytes (long_read s own bytes)
unfolding long_read ask_long_setup long_passes long_decode payload_count_at width
long-fair s own bytes e =
    let f = long_decode s.epsilon bytes in
    let q : first_no (ask_long_setup s own ∷ long_frame_questions s bytes) ≡ 0 = sym (read-number-by (first_no (ask_long_setup s own ∷ long_frame_questions s bytes)) f) ∙ e in
    let (limits, formed) = read-passed s own bytes q in
    let rest : first_no (long_frame_questions s bytes) ≡ 0 = other-yes (valid s own) 0 (long_frame_questions s bytes) q in
    let ok : FrameOk (plainly s) f = long-passes-decode s bytes limits.epsilon-pos (eq-eqb (first_no (long_frame_questions s bytes)) 0 rest) in
    let o : LongFormed s.epsilon bytes = long-formed-from s.epsilon bytes formed in
    let size = later-payload s.epsilon (six_on bytes) o.later in
    fair-by (6 + (payload_count_at s.epsilon + 1)) s.n s.epsilon bytes f (long_read s own bytes) (ap (λ (m : ℕ). read_by m f) q) limits.n-most limits.epsilon-most
    ok.station-below ok.sound.close ok.short (omega (arith, limits.epsilon-most)) (omega (arith, o.long, o.later.size, size))

-- ---- its writer

pub long-write-small : (s : Setup) (own station : ℕ) (t : Timestamp) (payload buffer : List ℕ) → (long_write s own station t payload buffer).size < 65536
unfolding long_write_frame
long-write-small s own station t payload buffer =
    let f = frame_of s.epsilon station t payload in
    written_small (first_no (long_write_questions s own f buffer)) (long_encode f) buffer
    (λ q.
    let room : LongRoom s.epsilon station t payload buffer = room_of s own station t payload buffer q in
    omega (arith, length-frame s.epsilon station t payload, room.narrow, room.payload-fits))

-- ---- its tick

tick-number : (i : Input) (k : ℕ) → first_no (long_call_questions i) ≡ k → (long_tick i).answer.number ≡ k
unfolding long_tick long_acceptance refusal
tick-number i zero q = rw q
tick-number i (suc k) q = rw q

pub tick-refused : (i : Input) (k : ℕ) → first_no (long_call_questions i) ≡ suc k → long_tick i ≡ refusal i (suc k)
unfolding long_tick
tick-refused i k q = rw q

tick-accepted : (i : Input) → first_no (long_call_questions i) ≡ 0 → long_tick i ≡ long_acceptance i
unfolding long_tick
tick-accepted i q = rw q

pub refused-long : (i : Input) → ((long_tick i).answer.number ≡ 0 → ⊥) → long_tick i ≡ refusal i (long_tick i).answer.number
refused-long i h = go (first_no (long_call_questions i)) refl
  where
    go : (k : ℕ) → first_no (long_call_questions i) ≡ k → long_tick i ≡ refusal i (long_tick i).answer.number
    go zero q = absurd (h (tick-number i 0 q))
    go (suc k) q = tick-refused i k q ∙ ap (refusal i) (sym (tick-number i (suc k) q))

pub long-answer-small : (i : Input) (o : Output) → o ≡ long_tick i → o.answer.number ≡ 0 → get_or i.batch 0 0 < 256 → Small o.answer
unfolding long_acceptance widened long_heard long_hear long_sent
long-answer-small i o same zero_number byte =
    let s = i.setup in
    let v = i.clock in
    let e : (long_tick i).answer.number ≡ 0 = sym (ap (λ (x : Output). x.answer.number) same) ∙ zero_number in
    let q : first_no (long_call_questions i) ≡ 0 = sym (tick-number i (first_no (long_call_questions i)) refl) ∙ e in
    let p : LongPassed i = long-passed i q in
    let is : o ≡ long_acceptance i = same ∙ tick-accepted i q in
    let left = long-left i p.limits in
    let heard = all-length (long_questions s v) (long_hear_one s v) (long-one-verdict s v) (long_opened i) (batch_entries i.batch) in
    let taken_is : o.answer.taken ≡ taken_count (long_heard i).verdicts = ap (λ (x : Output). x.answer.taken) is in
    let sent_is : o.answer.sent ≡ length (long_sent i) = ap (λ (x : Output). x.answer.sent) is in
    let delivered-is : o.answer.delivered ≡ length (long_delivered i) = ap (λ (x : Output). x.answer.delivered) is in
    let c-is : o.answer.tables.c ≡ (long_new_stamp i).c = ap (λ (x : Output). x.answer.tables.c) is in
    let long = length-frame s.epsilon i.own (long_new_stamp i) i.payload in
    record {
      taken-small = omega (arith, taken-few (long_heard i).verdicts i.batch heard p.exact byte);
      sent-small = omega (arith, sent-few i.send (long_encode (frame_of s.epsilon i.own (long_new_stamp i) i.payload)) (omega (arith, long, p.payload-short, p.limits.epsilon-most)));
      delivered-small = omega (arith, delivered-few i p.limits.epsilon-pos);
      c-small = omega (arith, left.sound.close, p.limits.epsilon-most);
    }
