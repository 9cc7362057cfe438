-- 02, 2.9: an engine from any state: verdicts, figures, bounds and buffers of every accepted call.
-- Assumes nothing.
use Prim.Native.Nat.{ℕ, ◌≤◌}
use native.Mathlib.Omega.{arith}
use mathlib.Core.Path.{◌≡◌, sym, ap, ◌∙◌}
use mathlib.Core.Bool.{Bool, true, false, ◌&&◌, cond}
use mathlib.Core.List.{List, [], map}
use mathlib.Core.Option.{some}
use lib.ListN.{length, take, get_or, get_elem?}
use borrow.Author.Tests.{lt-ltb}
use Rattle.laws.specs.Lists.{overlay}
use Rattle.laws.proofs.Numbers.{and_intro}
use Rattle.laws.proofs.Lists.{length-overlay, take-overlay, drop-overlay}
use Rattle.model.specs.Setup.{is_member}
use Rattle.model.specs.Timestamp.{Timestamp, trimmed, widened}
use Rattle.model.specs.Frame.{Frame}
use Rattle.model.specs.Batch.{batch_entries}
use Rattle.model.specs.Question.{first_no}
use Rattle.model.specs.Codec.{frame_of}
use Rattle.model.specs.Tick.{Input, Output, taken_count}
use Rattle.model.specs.Long.{plainly, long_limits, ask_long_setup, long_encode, long_decode, long_formed, long_frame_questions, long_read, longest_long, long_holdback_size, long_held_bytes, long_held, long_encode_frames, long_encode_holdback, long_questions, long_hear_one, long_hear, long_holdback_sound, long_repair, long_opened, long_heard, long_new_stamp, long_sent, long_delivered, long_kept, long_acceptance, long_tick}
use Rattle.theory.specs.Demand2.{are_bytes}
use Rattle.theory.specs.LongAny.{long_heard_before, Overlaid, Demand2Long}
use Rattle.lemmas.proofs.Bounds.{FrameOk}
use Rattle.lemmas.proofs.Questions.{long-limits-to}
use Rattle.lemmas.proofs.Counts.{trimmed-same}
use Rattle.lemmas.proofs.Hearing.{batch-few, all-length, all-front, all-verdict}
use Rattle.lemmas.proofs.LongFrames.{length-long, long-held-bytes, long-held-frames, long-fits, long-size}
use Rattle.lemmas.proofs.LongTick.{LongPassed, long-passed, long-one-verdict, opened-holds, hears-holds, long-left, long-new-r, long-tables-next, delivered-of, delivered-all, delivered-ok, delivered-few, delivered-ordered, kept-holds, kept-held, kept-sound}
use Rattle.theory.proofs.Demand1.{demand1-long}
use Rattle.theory.proofs.Readers.{read_made}
use Rattle.theory.proofs.LongReaders.{long-coding}

-- what is laid over a buffer that has room
overlaid : (new old : List ℕ) → length new ≤ length old → Overlaid (length new) old (overlay new old)
overlaid new old fits = record { size = length-overlay new old fits; behind = drop-overlay new old }

module _ (i : Input) (p : LongPassed i) (accepted : long_tick i ≡ long_acceptance i) where
  pos : 1 ≤ i.setup.epsilon
  pos = p.limits.epsilon-pos

  -- the answer and the buffers
  repair-is : (long_tick i).answer.repair ≡ long_repair i
  unfolding long_acceptance
  repair-is = ap (λ (o : Output). o.answer.repair) accepted

  tables-are : (long_tick i).answer.tables ≡ widened (long_new_stamp i)
  unfolding long_acceptance
  tables-are = ap (λ (o : Output). o.answer.tables) accepted

  taken_is : (long_tick i).answer.taken ≡ taken_count (long_heard i).verdicts
  unfolding long_acceptance
  taken_is = ap (λ (o : Output). o.answer.taken) accepted

  delivered-is : (long_tick i).answer.delivered ≡ length (long_delivered i)
  unfolding long_acceptance
  delivered-is = ap (λ (o : Output). o.answer.delivered) accepted

  sent_is : (long_tick i).answer.sent ≡ length (long_sent i)
  unfolding long_acceptance
  sent_is = ap (λ (o : Output). o.answer.sent) accepted

  holdback-is : (long_tick i).holdback ≡ long_encode_holdback (long_holdback_size i.setup) (long_kept i)
  unfolding long_acceptance
  holdback-is = ap (λ (o : Output). o.holdback) accepted

  outgoing-is : (long_tick i).outgoing ≡ overlay (long_sent i) i.outgoing
  unfolding long_acceptance
  outgoing-is = ap (λ (o : Output). o.outgoing) accepted

  verdicts-are : (long_tick i).verdicts ≡ overlay (long_heard i).verdicts i.verdicts
  unfolding long_acceptance
  verdicts-are = ap (λ (o : Output). o.verdicts) accepted

  delivery-is : (long_tick i).delivery ≡ overlay (long_encode_frames (long_delivered i)) i.delivery
  unfolding long_acceptance
  delivery-is = ap (λ (o : Output). o.delivery) accepted

  -- the verdicts
  verdict-is :
      (k : ℕ) (entry : List ℕ) → get_elem? (batch_entries i.batch) k ≡ some entry
      → get_or (long_tick i).verdicts k 0 ≡ first_no (long_questions i.setup i.clock (long_heard_before i k).queue entry)
  unfolding long_heard_before long_heard long_hear
  verdict-is k entry e =
      ap (λ (l : List ℕ). get_or l k 0) verdicts-are
      ∙ all-verdict (long_questions i.setup i.clock) (long_hear_one i.setup i.clock) (long-one-verdict i.setup i.clock) (long_opened i) (batch_entries i.batch) i.verdicts k entry e

  verdicts-front : take (length (batch_entries i.batch)) (long_tick i).verdicts ≡ (long_heard i).verdicts
  unfolding long_heard long_hear
  verdicts-front =
      ap (take (length (batch_entries i.batch))) verdicts-are
      ∙ all-front (long_questions i.setup i.clock) (long_hear_one i.setup i.clock) (long-one-verdict i.setup i.clock) (long_opened i) (batch_entries i.batch) i.verdicts

  verdicts-length : length (long_heard i).verdicts ≡ length (batch_entries i.batch)
  unfolding long_heard long_hear
  verdicts-length =
      all-length (long_questions i.setup i.clock) (long_hear_one i.setup i.clock) (long-one-verdict i.setup i.clock) (long_opened i) (batch_entries i.batch)

  few-before : (k : ℕ) → length (long_heard_before i k).queue ≤ 64
  unfolding long_heard_before
  few-before k =
      (hears-holds i.setup i.clock (record { queue = long_opened i; verdicts = [] }) (take k (batch_entries i.batch)) pos (opened-holds i pos)).few

  -- the frame
  abbrev frame : Frame
  frame = frame_of i.setup.epsilon i.own (long_new_stamp i) i.payload

  stamp-kept : trimmed i.setup.epsilon (long_new_stamp i) ≡ long_new_stamp i
  stamp-kept = trimmed-same i.setup.epsilon (long_new_stamp i) (long-left i p.limits).sound.wide

  frame-ok : FrameOk (plainly i.setup) frame
  unfolding frame_of
  frame-ok =
      rw stamp-kept
      (record {
        station-below = p.own_below;
        r-below = rw (long-new-r i) p.clock-below;
        sound = (long-left i p.limits).sound;
        short = p.payload-short;
      })

  sent-fits : length (long_sent i) ≤ length i.outgoing
  unfolding long_sent longest_long
  sent-fits = go i.send
    where
      go : (b : Bool) → length (cond b (long_encode frame) []) ≤ length i.outgoing
      go true = omega (arith, length-long i.setup.epsilon frame frame-ok.sound.wide, frame-ok.sound.wide, frame-ok.short, p.outgoing-room)
      go false = omega arith

  outgoing-front : take (long_tick i).answer.sent (long_tick i).outgoing ≡ long_sent i
  outgoing-front = rw (sent_is, outgoing-is) (take-overlay (long_sent i) i.outgoing)

  sent-read :
      i.send ≡ true
      → long_read i.setup i.own (take (long_tick i).answer.sent (long_tick i).outgoing)
      ≡ record { number = 0; station = i.own; stamp = (long_tick i).answer.tables; payload = i.payload }
  unfolding long_read ask_long_setup long_frame_questions frame_of long_sent is_member
  sent-read e =
      let s = i.setup in
      let valid : (long_limits s && is_member s i.own) ≡ true = and_intro (long-limits-to s p.limits) (lt-ltb i.own s.n p.own_below) in
      let there : take (long_tick i).answer.sent (long_tick i).outgoing ≡ long_encode frame = outgoing-front ∙ ap (λ (b : Bool). cond b (long_encode frame) []) e in
      ap (long_read s i.own) there
      ∙ (read_made (plainly s) (long_limits s && is_member s i.own) (long_formed s.epsilon) (long_decode s.epsilon) long_encode (long-coding s i.own) frame valid frame-ok
      ∙ ap (λ (t : Timestamp). record { number = 0; station = i.own; stamp = t; payload = i.payload }) (ap widened stamp-kept ∙ sym tables-are))

  -- what is handed out, and what is left
  left_is : long_held i.setup.epsilon (long_tick i).holdback ≡ long_kept i
  left_is = ap (long_held i.setup.epsilon) holdback-is ∙ kept-held i pos

  delivered-bytes : long_held_bytes i.setup.epsilon (long_tick i).delivery ≡ map long_encode (long_delivered i)
  unfolding overlay
  delivered-bytes = ap (long_held_bytes i.setup.epsilon) delivery-is ∙ long-held-bytes i.setup (long_delivered i) (delivered-ok i pos) _

  delivered-frames : long_held i.setup.epsilon (long_tick i).delivery ≡ long_delivered i
  unfolding overlay
  delivered-frames = ap (long_held i.setup.epsilon) delivery-is ∙ long-held-frames i.setup (long_delivered i) (delivered-ok i pos) _

  delivery-fits : length (long_encode_frames (long_delivered i)) ≤ length i.delivery
  delivery-fits = omega (arith, long-fits i.setup (long_delivered i) (delivered-ok i pos) (delivered-few i pos), p.delivery-room)

pub demand2-long : Demand2Long
unfolding long_repair long_holdback_sound
demand2-long i h =
    let z = sym (demand1-long i).number ∙ h in
    let p = long-passed i z in
    let a = (demand1-long i).accepted z in
    let first = p.limits.epsilon-pos in
    record {
      verdict = verdict-is i p a;
      repair = repair-is i p a;
      taken = taken_is i p a ∙ ap taken_count (sym (verdicts-front i p a));
      delivered = delivered-is i p a;
      delivery = delivered-bytes i p a;
      delivered_frames = delivered-frames i p a;
      due = delivered-of i first;
      all_due = delivered-all i first;
      ordered = delivered-ordered i first;
      left = left_is i p a;
      sent = sent_is i p a;
      outgoing = outgoing-front i p a;
      sent_read = sent-read i p a;
      bounded = λ k one few. rw (tables-are i p a) (long-tables-next i k p one few);
      bounded_queue = λ k one few. rw (holdback-is i p a) (kept-sound i first k);
      few = few-before i p a;
      few_left = rw (left_is i p a) (kept-holds i first).few;
      holdback = holdback-is i p a ∙ ap (long_encode_holdback (long_holdback_size i.setup)) (sym (left_is i p a));
      holdback_sized =
          ap length (holdback-is i p a)
          ∙ (long-size i.setup (long_kept i) (kept-holds i first).frames (kept-holds i first).few ∙ sym p.holdback-sized);
      outgoing_kept = rw (sent_is i p a, outgoing-is i p a) (overlaid (long_sent i) i.outgoing (sent-fits i p a));
      delivery_kept = rw (delivery-is i p a) (overlaid (long_encode_frames (long_delivered i)) i.delivery (delivery-fits i p a));
      verdicts_kept = λ bytes.
          rw (verdicts-are i p a, ← verdicts-length i p a)
          (overlaid (long_heard i).verdicts i.verdicts (omega (arith, verdicts-length i p a, batch-few i.batch (unfold are_bytes in bytes), p.verdicts-room)));
    }
