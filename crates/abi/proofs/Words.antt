-- Tables in bytes and answers in one number: round trips and bounds. Assumes nothing.
use Prim.Native.Nat.{ℕ, zero, suc, ◌+◌, ◌*◌, ◌-◌, ◌≤◌, ◌<◌}
use native.Mathlib.Omega.{arith}
use native.Mathlib.Nat.{zero-add}
use native.Mathlib.Numerals.{add-one}
use mathlib.Core.Path.{◌≡◌, refl, sym, ap, ap₂, subst, ◌∙◌}
use mathlib.Core.Bool.{Bool, true, false, ◌&&◌, cond}
use mathlib.Core.List.{List, [], ◌∷◌, ◌++◌, append-nil}
use lib.Dec.{eqb}
use lib.ListN.{length, take, drop, get_or, set, length-append, length-drop, drop_of_length-le, take-append-drop}
use lib.Seq.{take_all, length-take-le, drop-cons}
use borrow.Author.Tests.{eq-eqb, ne_eqb}
use Rattle.laws.specs.Lists.{padded, select}
use Rattle.laws.proofs.Lists.{select-length-le}
use Rattle.model.specs.Setup.{Setup, in_limits, is_member, width, longest_payload}
use Rattle.model.specs.Timestamp.{Timestamp, widened, count_own}
use Rattle.model.specs.Frame.{Frame, two_bytes, two_at, encode, decode, payload_count_at}
use Rattle.model.specs.Batch.{exact_batch, batch_entries}
use Rattle.model.specs.Question.{first_no, ask_setup, frame_questions}
use Rattle.model.specs.Codec.{ReadAnswer, read_questions, read_by, read, frame_of, write_questions, written_by, write_frame, write}
use Rattle.model.specs.Tick.{Input, Answer, Output, call_questions, refusal, opening, heard_of, new_stamp, sent_bytes, taken_count, delivered_of, acceptance, tick}
use Rattle.model.specs.Judge.{judge_questions, observer_questions}
use Rattle.model.specs.Long.{number_at}
use Rattle.model.specs.Observer.{Listening, Listened, listen_questions, not_listened, observer_least, observer_opened, observer_heard, observer_delivered, listened, listen}
use Rattle.lemmas.proofs.Bounds.{Limits, Sound, FrameOk}
use Rattle.lemmas.proofs.Questions.{setup-from, first-yes, other-yes, read_number}
use Rattle.model.specs.Holdback.{passes}
use Rattle.lemmas.proofs.RoundTrip.{formed-from, passes-decode, passes-formed}
use Rattle.lemmas.proofs.LongFrames.{low-number}
use Rattle.lemmas.proofs.Receiving.{hear-length, receive-length, receive-small}
use Rattle.lemmas.proofs.OneTick.{Accepted, accepted-call, no-question-fails, tick-by, new-sound, delivered-most}
use Rattle.lemmas.proofs.OneListening.{Heeded, listen-by, listen-no-fails, listen-accepted, listen-receiving}
use Rattle.splice.specs.Bytes.{pasted}
use Rattle.splice.proofs.Laws.{set-pasted, pasted-right}
use Rattle.batch.specs.Walk.{count_of}
use Rattle.batch.proofs.Walk.{batch-count}
use Rattle.holdback.proofs.RoundTrip.{Bytes, front-two}
use Rattle.node.proofs.Finish.{Call, call-passed}
use Rattle.observer.proofs.Finish as heeding
use Rattle.frame.proofs.Asking.{room_of, by-refused}
use Rattle.frame.proofs.Laying.{length-frame}
use Rattle.frame.specs.Lay.{Room}
use Rattle.frame.specs.Answers.{refused_read}
use Rattle.polling.specs.declared.front.Next.{Next}
use Rattle.polling.specs.declared.front.Next.TheVariants.{At}
use Rattle.polling.specs.Answers.{SmallNext, next_of}
use Rattle.abi.specs.Packing.{tables_at, tables_in, long_tables_in, tables_behind, tables_bytes, long_tables_bytes, packed_answer, packed_read_with, read_tables_with, packed_with, returned, packed_listened, packed_listening, returned_listening}

-- ---- the tables

padded-full : (n : ℕ) (l : List ℕ) → length l ≡ n → padded n l ≡ l
unfolding padded
padded-full n l e =
    let none : n - length l ≡ 0 = omega arith in
    rw none (append-nil l)

-- c and the counts as they are read behind r
pub tables-read : (at r c : ℕ) (s kn : List ℕ) → at + 33 ≡ length s → c ≡ get_or s at 0 → kn ≡ padded 32 (take 32 (drop (at + 1) s))
    → record { r = r; c = c; kn = kn } ≡ tables_at at r s
tables-read at r c s kn long ec ek =
    let all : length (take 32 (drop (at + 1) s)) ≡ 32 = length-take-le 32 (drop (at + 1) s) (omega (arith, length-drop (at + 1) s)) in
    rw (ec, ek, padded-full 32 (take 32 (drop (at + 1) s)) all)

-- and as they are written
pub one_then : (l : List ℕ) (at x : ℕ) (s : List ℕ) → at < length l → pasted (set l at x) (at + 1) s ≡ pasted l at (x ∷ s)
one_then l at x s h =
    ap (λ (k : List ℕ). pasted k (at + 1) s) (set-pasted l at x h) ∙ pasted-right l at (x ∷ []) (at + 1) refl s (omega arith)

-- bytes that fill their buffer
pasted-all : (s x : List ℕ) → length x ≡ length s → pasted s 0 x ≡ x
unfolding pasted
pasted-all s x e =
    let none : drop (0 + length x) s ≡ [] = drop_of_length-le s {i = 0 + length x} (omega arith) in
    rw none (append-nil x)

pub tables-written : (at : ℕ) (s l₁ l₂ r : List ℕ) (t : Timestamp) → at + 33 ≡ length s → length r ≡ at → length t.kn ≡ 32
    → l₁ ≡ pasted s 0 r → l₂ ≡ pasted l₁ at (t.c ∷ t.kn) → l₂ ≡ tables_behind r t
tables-written at s l₁ l₂ r t long er wide e₁ e₂ =
    e₂
    ∙ (ap (λ (l : List ℕ). pasted l at (t.c ∷ t.kn)) e₁
    ∙ (pasted-right s 0 r at (omega arith) (t.c ∷ t.kn) (omega arith)
    ∙ pasted-all s (r ++ (t.c ∷ t.kn)) (omega (arith, length-append r (t.c ∷ t.kn)))))

-- tables that were read from bytes, written back
tables-back : (at r : ℕ) (s : List ℕ) → at + 33 ≡ length s → tables_behind (take at s) (tables_at at r s) ≡ s
tables-back at r s long =
    let counts : take 32 (drop (at + 1) s) ≡ drop (suc at) s = take_all 32 (drop (at + 1) s) (omega (arith, length-drop (at + 1) s)) ∙ ap (λ (k : ℕ). drop k s) (add-one at) in
    let rest : get_or s at 0 ∷ take 32 (drop (at + 1) s) ≡ drop at s = ap (λ (l : List ℕ). get_or s at 0 ∷ l) counts ∙ sym (drop-cons s at 0 (omega arith)) in
    ap (λ (l : List ℕ). take at s ++ l) rest ∙ take-append-drop at s

pub tables-same : (s : List ℕ) → length s ≡ 35 → Bytes s → tables_bytes (tables_in s) ≡ s
unfolding tables_bytes tables_in
tables-same s long bytes =
    ap (λ (l : List ℕ). tables_behind l (tables_in s)) (sym (front-two s bytes (omega arith))) ∙ tables-back 2 (two_at s 0) s (omega arith)

pub long-tables-same : (s : List ℕ) → length s ≡ 41 → Bytes s → long_tables_bytes (long_tables_in s) ≡ s
unfolding long_tables_bytes long_tables_in
long-tables-same s long bytes =
    ap (λ (l : List ℕ). tables_behind l (long_tables_in s)) (low-number 8 s 0 (λ i h. bytes i) (omega arith)) ∙ tables-back 8 (number_at 8 s 0) s (omega arith)

-- ---- a tick's answer, a station's or an engine's

-- what its numbers are below
pub record Small (a : Answer) : Type 0 where
  pub taken-small : a.taken < 256
  pub sent-small : a.sent < 256
  pub delivered-small : a.delivered < 65536
  pub c-small : a.tables.c < 256

-- as many verdicts as the batch has entries
pub taken-few : (verdicts batch : List ℕ) → length verdicts ≡ length (batch_entries batch) → exact_batch batch ≡ true → get_or batch 0 0 < 256 → taken_count verdicts < 256
unfolding count_of taken_count
taken-few verdicts batch heard exact byte =
    let entries : length (batch_entries batch) ≡ get_or batch 0 0 = batch-count batch exact in
    omega (arith, select-length-le (λ x. eqb x 0) verdicts)

-- what may be sent is short
pub sent-few : (send : Bool) (bytes : List ℕ) → length bytes < 256 → length (cond send bytes []) < 256
sent-few true bytes h = h
sent-few false bytes h = omega arith

-- a refused call gives back the number alone, and its tables and buffers
module _ (bytes : Timestamp → List ℕ) (i : Input) (o out : Output) (e : o ≡ out) where
  pub refused-packed : (s : List ℕ) → bytes i.tables ≡ s → ((out.answer.number ≡ 0 → ⊥) → out ≡ refusal i out.answer.number) → (o.answer.number ≡ 0 → ⊥)
      → returned o.answer.number s o.holdback o.outgoing o.verdicts o.delivery ≡ packed_with bytes out
  unfolding refusal packed_answer
  refused-packed s back refused h =
      let is : o ≡ refusal i o.answer.number = e ∙ (refused (λ z. h (ap (λ (x : Output). x.answer.number) e ∙ z)) ∙ ap (λ (x : Output). refusal i x.answer.number) (sym e)) in
      let plain : o.answer.number ≡ packed_answer (refusal i o.answer.number).answer = omega arith in
      ap₂ (λ (w : ℕ) (l : List ℕ). returned w l o.holdback o.outgoing o.verdicts o.delivery)
      (plain ∙ ap (λ (x : Output). packed_answer x.answer) (sym is))
      (sym back ∙ ap (λ (x : Output). bytes x.answer.tables) (sym is))
      ∙ ap (packed_with bytes) e

  -- an accepted one
  pub accepted-packed : (word : ℕ) (tables : List ℕ) → word ≡ packed_answer o.answer → tables ≡ bytes o.answer.tables
      → returned word tables o.holdback o.outgoing o.verdicts o.delivery ≡ packed_with bytes out
  accepted-packed word tables ew et =
      ap₂ (λ (w : ℕ) (l : List ℕ). returned w l o.holdback o.outgoing o.verdicts o.delivery) ew et ∙ ap (packed_with bytes) e

-- ---- a station's

pub refused-tick : (i : Input) → ((tick i).answer.number ≡ 0 → ⊥) → tick i ≡ refusal i (tick i).answer.number
unfolding refusal acceptance
refused-tick i h = go (first_no (call_questions i)) refl
  where
    go : (k : ℕ) → first_no (call_questions i) ≡ k → tick i ≡ refusal i (tick i).answer.number
    go zero q = absurd (h (ap (λ (o : Output). o.answer.number) (tick-by i 0 q)))
    go (suc k) q = tick-by i (suc k) q ∙ ap (refusal i) (sym (ap (λ (o : Output). o.answer.number) (tick-by i (suc k) q)))

pub answer-small : (i : Input) (o : Output) → o ≡ tick i → o.answer.number ≡ 0 → get_or i.batch 0 0 < 256 → Small o.answer × (o.answer.tables.r < 65536)
unfolding acceptance widened new_stamp count_own heard_of sent_bytes
answer-small i o same zero_number byte =
    let e : (tick i).answer.number ≡ 0 = sym (ap (λ (x : Output). x.answer.number) same) ∙ zero_number in
    let a : Accepted i = accepted-call i e in
    let c : Call i = call-passed i (no-question-fails i e) in
    let is : o ≡ acceptance i = same ∙ a.accepted in
    let sound : Sound i.setup.n i.setup.epsilon (new_stamp i) = new-sound i a in
    let heard = hear-length i.setup i.clock (judge_questions i.setup i.clock) (opening i) (batch_entries i.batch) ∙ zero-add (length (batch_entries i.batch)) in
    let taken_is : o.answer.taken ≡ taken_count (heard_of i).verdicts = ap (λ (x : Output). x.answer.taken) is in
    let sent_is : o.answer.sent ≡ length (sent_bytes i) = ap (λ (x : Output). x.answer.sent) is in
    let delivered-is : o.answer.delivered ≡ length (delivered_of i) = ap (λ (x : Output). x.answer.delivered) is in
    let r-is : o.answer.tables.r ≡ i.clock = ap (λ (x : Output). x.answer.tables.r) is in
    let c-is : o.answer.tables.c ≡ (new_stamp i).c = ap (λ (x : Output). x.answer.tables.c) is in
    let long = length-frame i.setup.epsilon i.own (new_stamp i) i.payload in (
      record {
        taken-small = omega (arith, taken-few (heard_of i).verdicts i.batch heard c.exact byte);
        sent-small = omega (arith, sent-few i.send (encode (frame_of i.setup.epsilon i.own (new_stamp i) i.payload)) (omega (arith, long, a.payload-short, a.limits.epsilon-most)));
        delivered-small = omega (arith, delivered-most i a);
        c-small = omega (arith, sound.close, a.limits.epsilon-most);
      },
      omega (arith, a.clock-below, a.limits.modulus-most),
    )

-- ---- an observer's answer

-- its last clock, written and read back
pub last_written : (s l : List ℕ) (x : ℕ) → length s ≡ 2 → l ≡ pasted s 0 (two_bytes x) → l ≡ two_bytes x
unfolding two_bytes
last_written s l x long e = e ∙ pasted-all s (two_bytes x) (omega arith)

pub last-same : (s : List ℕ) → length s ≡ 2 → Bytes s → two_bytes (two_at s 0) ≡ s
last-same s long bytes = sym (front-two s bytes (omega arith)) ∙ take_all 2 s (omega arith)

-- what its numbers are below
pub record SmallListened (o : Listened) : Type 0 where
  pub taken-small : o.taken < 256
  pub delivered-small : o.delivered < 65536
  pub last-small : o.last < 65536

pub listened-small : (i : Listening) (o : Listened) → o ≡ listen i → o.number ≡ 0 → get_or i.batch 0 0 < 256 → SmallListened o
unfolding listened count_of observer_heard observer_opened observer_delivered taken_count
listened-small i o same zero_number byte =
    let e : (listen i).number ≡ 0 = sym (ap (λ (x : Listened). x.number) same) ∙ zero_number in
    let a : Heeded i = listen-accepted i e in
    let exact = (heeding.call-passed i (listen-no-fails i e)).exact in
    let is : o ≡ listened i = same ∙ a.accepted in
    let taken_is : o.taken ≡ length (select (λ x. eqb x 0) (observer_heard i).verdicts) = ap (λ (x : Listened). x.taken) is in
    let taken-le = select-length-le (λ x. eqb x 0) (observer_heard i).verdicts in
    let heard = receive-length i.setup i.clock (observer_least i) (observer_questions i.setup i.clock) i.holdback (batch_entries i.batch) in
    let entries : length (batch_entries i.batch) ≡ get_or i.batch 0 0 = batch-count i.batch exact in
    let delivered-is : o.delivered ≡ length (observer_delivered i) = ap (λ (x : Listened). x.delivered) is in
    let last-is : o.last ≡ i.clock = ap (λ (x : Listened). x.last) is in
    record {
      taken-small = omega arith;
      delivered-small = omega (arith, receive-small i.setup i.clock (observer_least i) (observer_questions i.setup i.clock) i.holdback (batch_entries i.batch) (listen-receiving i a));
      last-small = omega (arith, a.clock-below, a.limits.modulus-most);
    }

-- a refused call gives back the number alone, and its last clock and buffers
module _ (i : Listening) (o out : Listened) (e : o ≡ out) where
  pub refused-listening : (s : List ℕ) → two_bytes i.last ≡ s → ((out.number ≡ 0 → ⊥) → out ≡ not_listened i out.number) → (o.number ≡ 0 → ⊥)
      → returned_listening o.number s o.holdback o.verdicts o.delivery ≡ packed_listening out
  unfolding packed_listening not_listened packed_listened
  refused-listening s back refused h =
      let is : o ≡ not_listened i o.number = e ∙ (refused (λ z. h (ap (λ (x : Listened). x.number) e ∙ z)) ∙ ap (λ (x : Listened). not_listened i x.number) (sym e)) in
      let plain : o.number ≡ packed_listened (not_listened i o.number) = omega arith in
      ap₂ (λ (w : ℕ) (l : List ℕ). returned_listening w l o.holdback o.verdicts o.delivery)
      (plain ∙ ap packed_listened (sym is)) (sym back ∙ ap (λ (x : Listened). two_bytes x.last) (sym is))
      ∙ ap packed_listening e

  -- an accepted one
  pub accepted-listening : (word : ℕ) (last : List ℕ) → word ≡ packed_listened o → last ≡ two_bytes o.last
      → returned_listening word last o.holdback o.verdicts o.delivery ≡ packed_listening out
  unfolding packed_listening
  accepted-listening word last ew el =
      ap₂ (λ (w : ℕ) (l : List ℕ). returned_listening w l o.holdback o.verdicts o.delivery) ew el ∙ ap packed_listening e

pub refused-listen : (i : Listening) → ((listen i).number ≡ 0 → ⊥) → listen i ≡ not_listened i (listen i).number
unfolding not_listened listened
refused-listen i h = go (first_no (listen_questions i)) refl
  where
    go : (k : ℕ) → first_no (listen_questions i) ≡ k → listen i ≡ not_listened i (listen i).number
    go zero q = absurd (h (ap (λ (o : Listened). o.number) (listen-by i 0 q)))
    go (suc k) q = listen-by i (suc k) q ∙ ap (not_listened i) (sym (ap (λ (o : Listened). o.number) (listen-by i (suc k) q)))

-- ---- a reader's answer, a station's or an engine's

-- what an accepted frame has, whose payload starts at that place
pub record Fair (at : ℕ) (bytes : List ℕ) (a : ReadAnswer) : Type 0 where
  pub station-small : a.station < 256
  pub c-small : a.stamp.c < 256
  pub front-short : at < 65536
  pub payload-short : length a.payload ≤ longest_payload
  pub place : length bytes ≡ at + length a.payload

-- from what its frame is
pub fair-by :
    (at n epsilon : ℕ) (bytes : List ℕ) (f : Frame) (a : ReadAnswer) → a ≡ read_by 0 f → n ≤ 16 → epsilon ≤ 16 → f.station < n → f.stamp.c < epsilon
    → length f.payload ≤ longest_payload → at < 65536 → length bytes ≡ at + length f.payload → Fair at bytes a
unfolding widened
fair-by at n epsilon bytes f a is hn he member close short front place =
    let station-is = ap (λ (x : ReadAnswer). x.station) is in
    let c-is = ap (λ (x : ReadAnswer). x.stamp.c) is in
    let payload-is = ap (λ (x : ReadAnswer). length x.payload) is in
    record { station-small = omega arith; c-small = omega arith; front-short = front; payload-short = omega arith; place = omega arith }

-- a reader's answer is by the number of the first no
pub read-number-by : (k : ℕ) (f : Frame) → (read_by k f).number ≡ k
read-number-by zero f = refl
read-number-by (suc k) f = refl

module _ (at : ℕ) (bytes : Timestamp → List ℕ) (a : ReadAnswer) where
  -- a refused one
  pub refused-reading : (k : ℕ) (f : Frame) (tables : List ℕ) → a ≡ read_by k f → (a.number ≡ 0 → ⊥) → (a.number ≡ packed_read_with at a) × (tables ≡ read_tables_with bytes a tables)
  refused-reading k f tables is h =
      let plain : a ≡ refused_read k = is ∙ by-refused k f (λ z. h (ap (λ (x : ReadAnswer). x.number) is ∙ (read-number-by k f ∙ z))) in
      let station-is = ap (λ (x : ReadAnswer). x.station) plain in
      let payload-is : length a.payload ≡ 0 = ap (λ (x : ReadAnswer). length x.payload) plain in
      (rw (ne_eqb a.number 0 h) (omega arith), rw (ne_eqb a.number 0 h))

  -- an accepted one
  pub accepted-word : (station size place : ℕ) → a.number ≡ 0 → station ≡ a.station → place ≡ at → size ≡ length a.payload
      → 256 * (station + 256 * (place + 65536 * size)) ≡ packed_read_with at a
  accepted-word station size place e es ea ep = rw (eq-eqb a.number 0 e) (omega (arith, e, es, ea, ep))

  pub accepted-tables : (tables tables' : List ℕ) → a.number ≡ 0 → tables' ≡ bytes a.stamp → tables' ≡ read_tables_with bytes a tables
  accepted-tables tables tables' e h = rw (eq-eqb a.number 0 e) h

-- ---- a station's

pub fair : (s : Setup) (own : ℕ) (bytes : List ℕ) → (read s own bytes).number ≡ 0 → Fair (payload_count_at s.epsilon + 1) bytes (read s own bytes) × ((read s own bytes).stamp.r < 65536)
unfolding read_questions ask_setup read widened passes decode payload_count_at width
fair s own bytes e =
    let q = read_number s own bytes e in
    let valid : Bool = in_limits s && is_member s own in
    let lim : Limits s = (setup-from s own (first-yes valid 0 (frame_questions s bytes) q)).0 in
    let rest : first_no (frame_questions s bytes) ≡ 0 = other-yes valid 0 (frame_questions s bytes) q in
    let passed : passes s bytes ≡ true = eq-eqb (first_no (frame_questions s bytes)) 0 rest in
    let f = decode s.epsilon bytes in
    let ok : FrameOk s f = passes-decode s bytes lim passed in
    let shape = formed-from s.epsilon bytes (passes-formed s bytes passed) in
    let is : read s own bytes ≡ read_by 0 f = ap (λ (m : ℕ). read_by m f) q in
    let long : length f.payload ≡ length bytes - (payload_count_at s.epsilon + 1) = length-drop (payload_count_at s.epsilon + 1) bytes in
    let r-is = ap (λ (a : ReadAnswer). a.stamp.r) is in (
      fair-by (payload_count_at s.epsilon + 1) s.n s.epsilon bytes f (read s own bytes) is lim.n-most lim.epsilon-most ok.station-below ok.sound.close ok.short
          (omega (arith, lim.epsilon-most)) (omega arith),
      omega (arith, ok.r-below, lim.modulus-most),
    )

pub read_is : (s : Setup) (own : ℕ) (bytes : List ℕ) → read s own bytes ≡ read_by (first_no (read_questions s own bytes)) (decode s.epsilon bytes)
unfolding read
read_is s own bytes = refl

-- ---- a writer's answer

pub written_small : (k : ℕ) (bytes buffer : List ℕ) → (k ≡ 0 → length bytes < 65536) → (written_by k bytes buffer).size < 65536
written_small zero bytes buffer h = h refl
written_small (suc k) bytes buffer h = omega arith

pub write-small : (s : Setup) (own station : ℕ) (t : Timestamp) (payload buffer : List ℕ) → (write s own station t payload buffer).size < 65536
unfolding write_frame
write-small s own station t payload buffer =
    written_small (first_no (write_questions s own station t payload buffer)) (encode (frame_of s.epsilon station t payload)) buffer
    (λ q.
    let room : Room s.epsilon station t payload buffer = room_of s own station t payload buffer q in
    omega (arith, length-frame s.epsilon station t payload, room.narrow, room.payload-fits))

-- ---- the poll's answer

-- a next clock that fits in two bytes
pub small-clock : (next : Next) (clock : ℕ) → next ≡ At clock → SmallNext (next_of next) → clock < 65536
small-clock next clock e h = subst (λ (x : Next). SmallNext (next_of x)) e h
