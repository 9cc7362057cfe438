-- 02, 2.9: the engine's tick from its parts: what is opened, heard, handed out, counted and sent is the model's. Assumes nothing.
use Prim.Native.Nat.{ℕ, zero, suc, ◌+◌, ◌≤◌}
use native.Mathlib.Omega.{arith}
use mathlib.Core.Path.{◌≡◌, refl, sym, ap, ap₂, ◌∙◌}
use mathlib.Core.Bool.{Bool, true, false, cond}
use mathlib.Core.List.{List, []}
use lib.ListN.{length, get_or}
use Rattle.laws.specs.Lists.{overlay}
use Rattle.laws.proofs.Lists.{get_or-padded}
use Rattle.model.specs.Setup.{Setup, width, widest}
use Rattle.model.specs.Timestamp.{Timestamp, trimmed, widened, count_own}
use Rattle.model.specs.Frame.{Frame}
use Rattle.model.specs.Batch.{batch_entries}
use Rattle.model.specs.Question.{first_no}
use Rattle.model.specs.Codec.{frame_of}
use Rattle.model.specs.Judge.{Heard}
use Rattle.model.specs.Tick.{Input, taken_count, refusal}
use Rattle.model.specs.Long.{long_encode, longest_long, long_holdback_size, long_held, long_sound_holdback, long_encode_frames, long_encode_holdback, long_absorb_all, long_call_questions, long_holdback_sound, long_repair, long_opening_stamp, long_opened, long_heard, long_new_stamp, long_sent, long_delivered, long_kept, long_acceptance, long_tick_by, long_tick}
use Rattle.lemmas.proofs.Questions.{long-limits-to}
use Rattle.lemmas.proofs.Counts.{count-zero, trimmed-same, trimmed-widened}
use Rattle.lemmas.proofs.LongTick.{LongPassed, long-passed, long-opening, long_heard_stamp, long-absorbed, long-left}
use Rattle.longframe.specs.Lay.{LongRoom, LongLaid}
use Rattle.long.specs.States.{Timed, StampOpened, opened_frames, heard_with, HeardQueue, HeardStamp, Attending, attended_all, due_frames, kept_frames, AttendedQueue, AttendedStamp, bytes_to_send, Sent}

-- ---- the queue opened, the batch heard, and what is due handed out

module _ (s : Setup) (v least : ℕ) (buffer buffer₁ : List ℕ) (opened : long_held s.epsilon buffer₁ ≡ opened_frames s v least buffer) where
  all : (batch : List ℕ) → heard_with s v (long_held s.epsilon buffer₁) batch ≡ attended_all s v least batch buffer
  all batch = ap (λ (q : List Frame). heard_with s v q batch) opened

  pub attended-stamp : {batch : List ℕ} {t₁ t₂ : Timestamp} → HeardStamp s v t₁ batch buffer₁ t₂ → AttendedStamp s v least t₁ batch buffer t₂
  attended-stamp {batch} {t₁} g =
      record { stamp = g.stamp ∙ ap (λ (h : Heard). widened (long_absorb_all s v (trimmed s.epsilon t₁) (batch_entries batch) h.verdicts)) (all batch) }

  pub attended-queue :
      {batch verdicts delivery : List ℕ} {emptied took count stop delivered : ℕ} {buffer₂ verdicts₂ buffer₃ delivery₃ : List ℕ}
      → emptied ≡ cond (long_sound_holdback s v least buffer) 0 2 → HeardQueue s v batch buffer₁ verdicts took count stop buffer₂ verdicts₂
      → delivered ≡ length (due_frames s v (long_held s.epsilon buffer₂))
      → delivery₃ ≡ overlay (long_encode_frames (due_frames s v (long_held s.epsilon buffer₂))) delivery
      → buffer₃ ≡ long_encode_holdback (length buffer₂) (kept_frames s v (long_held s.epsilon buffer₂))
      → AttendedQueue s v least batch buffer verdicts delivery emptied took delivered buffer₃ verdicts₂ delivery₃
  attended-queue {batch} {verdicts} {delivery} {buffer₂ = buffer₂} repaired g number given kept =
      let queue-is : long_held s.epsilon buffer₂ ≡ (attended_all s v least batch buffer).queue = g.buffers.queue ∙ ap (λ (h : Heard). h.queue) (all batch) in
      record {
        repaired = repaired;
        taken_is = g.buffers.taken_is ∙ ap (λ (h : Heard). taken_count h.verdicts) (all batch);
        count-is = number ∙ ap (λ (q : List Frame). length (due_frames s v q)) queue-is;
        kept =
            kept ∙ ap₂ (λ (n : ℕ) (q : List Frame). long_encode_holdback n (kept_frames s v q)) g.holding.extent.sized queue-is;
        numbers = g.buffers.numbers ∙ ap (λ (h : Heard). overlay h.verdicts verdicts) (all batch);
        given = given ∙ ap (λ (q : List Frame). overlay (long_encode_frames (due_frames s v q)) delivery) queue-is;
      }

-- ---- an accepted call

pub call-timed : (i : Input) → LongPassed i → Timed i.setup i.clock
call-timed i p = record { limits = long-limits-to i.setup p.limits; below = p.clock-below }

-- the opened stamp is the model's, and its places past the 2ε counts are 0
module _ (i : Input) {t₁ : Timestamp} {least repair : ℕ} (p : LongPassed i) (o : StampOpened i.setup i.clock i.tables t₁ least repair) where
  opening-is : t₁ ≡ widened (long_opening_stamp i)
  unfolding long_opening_stamp
  opening-is = o.stamp

  stamp-trimmed : trimmed i.setup.epsilon t₁ ≡ long_opening_stamp i
  stamp-trimmed =
      ap (trimmed i.setup.epsilon) opening-is
      ∙ trimmed-widened i.setup.epsilon (long_opening_stamp i) p.limits.epsilon-most (long-opening i p.limits).opened.wide

  pub call-attending : Attending i.setup t₁ i.batch i.holdback i.verdicts i.delivery
  call-attending =
      record {
        size = p.holdback-sized;
        hearing = record { narrow = opening-is ∙ ap widened (sym stamp-trimmed); exact = p.exact; room = p.verdicts-room };
        delivery-room = p.delivery-room;
      }

  heard-same : attended_all i.setup i.clock least i.batch i.holdback ≡ long_heard i
  unfolding long_heard long_opened long_holdback_sound
  heard-same = ap (λ (l : ℕ). attended_all i.setup i.clock l i.batch i.holdback) o.least-is

  pub call-stamp : {t₂ : Timestamp} → AttendedStamp i.setup i.clock least t₁ i.batch i.holdback t₂ → t₂ ≡ widened (long_heard_stamp i)
  call-stamp a =
      a.stamp
      ∙ ap₂ (λ (t : Timestamp) (h : Heard). widened (long_absorb_all i.setup i.clock t (batch_entries i.batch) h.verdicts)) stamp-trimmed heard-same

  pub call-repair : {emptied : ℕ} → emptied ≡ cond (long_sound_holdback i.setup i.clock least i.holdback) 0 2 → repair + emptied ≡ long_repair i
  unfolding long_repair long_holdback_sound
  call-repair e = rw (o.repaired, e, o.least-is)

-- the own event fits
pub own_room : (i : Input) {t : Timestamp} → LongPassed i → t ≡ widened (long_heard_stamp i) → get_or t.kn i.setup.epsilon 0 ≤ 254
unfolding widened
own_room i {t} p h =
    let same : get_or t.kn i.setup.epsilon 0 ≡ get_or (long_heard_stamp i).kn i.setup.epsilon 0 =
    ap (λ (x : Timestamp). get_or x.kn i.setup.epsilon 0) h ∙ get_or-padded widest (long_heard_stamp i).kn i.setup.epsilon in
    omega (arith, count-zero (long_heard_stamp i).kn i.setup.epsilon, (long-absorbed i p.limits).opened.most i.setup.epsilon, p.limits.n-most)

-- the stamp that has absorbed what was taken, and its places past the 2ε counts, which are 0
heard-trimmed : (i : Input) {t : Timestamp} → LongPassed i → t ≡ widened (long_heard_stamp i) → trimmed i.setup.epsilon t ≡ long_heard_stamp i
heard-trimmed i p h = ap (trimmed i.setup.epsilon) h ∙ trimmed-widened i.setup.epsilon (long_heard_stamp i) p.limits.epsilon-most (long-absorbed i p.limits).opened.wide

pub heard-narrow : (i : Input) {t : Timestamp} → LongPassed i → t ≡ widened (long_heard_stamp i) → t ≡ widened (trimmed i.setup.epsilon t)
heard-narrow i p h = h ∙ ap widened (sym (heard-trimmed i p h))

-- the new stamp
pub own-counted : (i : Input) {t t' : Timestamp} → LongPassed i → t ≡ widened (long_heard_stamp i) → t' ≡ widened (count_own i.setup.epsilon i.clock (trimmed i.setup.epsilon t)) → t' ≡ widened (long_new_stamp i)
unfolding long_new_stamp
own-counted i p h e = e ∙ ap (λ (x : Timestamp). widened (count_own i.setup.epsilon i.clock x)) (heard-trimmed i p h)

-- it can be sent
pub send-room : (i : Input) (t : Timestamp) → LongPassed i → t ≡ widened (long_new_stamp i) → LongRoom i.setup.epsilon i.own t i.payload i.outgoing
unfolding widened longest_long width
send-room i t p e =
    let c-is : t.c ≡ (long_new_stamp i).c = ap (λ (x : Timestamp). x.c) e in
    record {
      narrow = p.limits.epsilon-most;
      station-fits = omega (arith, p.own_below, p.limits.n-most);
      c-fits = omega (arith, (long-left i p.limits).sound.close, p.limits.epsilon-most);
      payload-fits = omega (arith, p.payload-short);
      room = omega (arith, p.payload-short, p.outgoing-room);
    }

sent-same : (i : Input) (t : Timestamp) → LongPassed i → t ≡ widened (long_new_stamp i) → bytes_to_send i.setup.epsilon i.own t i.send i.payload ≡ long_sent i
unfolding bytes_to_send long_sent frame_of
sent-same i t p e =
    let wide = (long-left i p.limits).sound.wide in
    let kept : trimmed i.setup.epsilon t ≡ long_new_stamp i =
    ap (trimmed i.setup.epsilon) e ∙ trimmed-widened i.setup.epsilon (long_new_stamp i) p.limits.epsilon-most wide in
    let same : trimmed i.setup.epsilon t ≡ trimmed i.setup.epsilon (long_new_stamp i) = kept ∙ sym (trimmed-same i.setup.epsilon (long_new_stamp i) wide) in
    ap (λ (x : Timestamp). cond i.send (long_encode (record { station = i.own; stamp = x; payload = i.payload })) []) same

-- ---- the tick

-- by the number of the first question that gets a no
tick-by : (i : Input) (k : ℕ) → first_no (long_call_questions i) ≡ k → long_tick i ≡ long_tick_by k i
unfolding long_tick
tick-by i k e = ap (λ (m : ℕ). long_tick_by m i) e

-- all of it
pub accepted-output : (i : Input) → first_no (long_call_questions i) ≡ 0 → {t₁ t' : Timestamp} {least opened emptied took delivered : ℕ} {buffer verdicts delivery : List ℕ} {size : ℕ} {outgoing : List ℕ}
    → StampOpened i.setup i.clock i.tables t₁ least opened
    → AttendedQueue i.setup i.clock least i.batch i.holdback i.verdicts i.delivery emptied took delivered buffer verdicts delivery
    → t' ≡ widened (long_new_stamp i) → Sent i.setup.epsilon i.own t' i.send i.payload i.outgoing size outgoing
    → record {
      answer = record { number = 0; tables = t'; repair = opened + emptied; taken = took; delivered = delivered; sent = size };
      holdback = buffer;
      outgoing = outgoing;
      verdicts = verdicts;
      delivery = delivery;
    } ≡ long_tick i
unfolding long_acceptance long_delivered long_kept
accepted-output i e {t₁} {t'} {least} {opened} {emptied} {took} {delivered} {buffer} {verdicts} {delivery} {size} {outgoing} o h own sent =
    let p : LongPassed i = long-passed i e in
    let heard = heard-same i p o in
    let sent_is = sent-same i t' p own in
    let e-repair : opened + emptied ≡ long_repair i = call-repair i p o h.repaired in
    let e-taken : took ≡ taken_count (long_heard i).verdicts = h.taken_is ∙ ap (λ (x : Heard). taken_count x.verdicts) heard in
    let e-delivered : delivered ≡ length (long_delivered i) = h.count-is ∙ ap (λ (x : Heard). length (due_frames i.setup i.clock x.queue)) heard in
    let e-sent : size ≡ length (long_sent i) = sent.long ∙ ap length sent_is in
    let e-holdback : buffer ≡ long_encode_holdback (long_holdback_size i.setup) (long_kept i) = h.kept ∙ ap (λ (x : Heard). long_encode_holdback (long_holdback_size i.setup) (kept_frames i.setup i.clock x.queue)) heard in
    let e-outgoing : outgoing ≡ overlay (long_sent i) i.outgoing = sent.bytes ∙ ap (λ (l : List ℕ). overlay l i.outgoing) sent_is in
    let e-verdicts : verdicts ≡ overlay (long_heard i).verdicts i.verdicts = h.numbers ∙ ap (λ (x : Heard). overlay x.verdicts i.verdicts) heard in
    let e-delivery : delivery ≡ overlay (long_encode_frames (long_delivered i)) i.delivery = h.given ∙ ap (λ (x : Heard). overlay (long_encode_frames (due_frames i.setup i.clock x.queue)) i.delivery) heard in
    rw (own, e-repair, e-taken, e-delivered, e-sent, e-holdback, e-outgoing, e-verdicts, e-delivery) (sym (tick-by i 0 e))

-- a refused call
pub refused-output : (i : Input) (number : ℕ) → number ≡ first_no (long_call_questions i) → (number ≡ 0 → ⊥) → refusal i number ≡ long_tick i
refused-output i zero e h = absurd (h refl)
refused-output i (suc k) e h = sym (tick-by i (suc k) (sym e))

-- ---- sending

module _ (epsilon own : ℕ) (t : Timestamp) (send : Bool) (payload buffer : List ℕ) where
  pub none-sent : send ≡ false → Sent epsilon own t send payload buffer 0 buffer
  unfolding bytes_to_send overlay
  none-sent h = record { long = rw h; bytes = rw h }

  pub one-sent : (size : ℕ) (buffer' : List ℕ) → send ≡ true → LongLaid size buffer' (frame_of epsilon own t payload) buffer → Sent epsilon own t send payload buffer size buffer'
  unfolding bytes_to_send
  one-sent size buffer' h l = record { long = rw h l.long; bytes = rw h l.bytes }
