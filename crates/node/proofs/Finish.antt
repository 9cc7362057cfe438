-- The tick from its parts: what is opened, heard, count-is, sent and delivered is the model's tick. Assumes nothing.
use Prim.Native.Nat.{ℕ, zero, suc, ◌+◌, ◌*◌, ◌≤◌, ◌<◌}
use native.Mathlib.Omega.{arith}
use mathlib.Core.Path.{◌≡◌, refl, sym, ap, ap₂, subst, ◌∙◌}
use mathlib.Core.Bool.{Bool, true, false, cond}
use mathlib.Core.List.{List, []}
use lib.ListN.{length, get_or}
use Rattle.laws.specs.Lists.{overlay}
use Rattle.laws.proofs.Numbers.{and_left}
use Rattle.laws.proofs.Lists.{get_or-padded}
use Rattle.model.specs.Setup.{Setup, in_limits, width, widest, verdict_length}
use Rattle.model.specs.Timestamp.{Timestamp, trimmed, widened, clock_step, step, replaced, count_own}
use Rattle.model.specs.Frame.{Frame, encode}
use Rattle.model.specs.Batch.{exact_batch, batch_entries}
use Rattle.model.specs.Holdback.{sound_holdback, encode_frames, encode_holdback}
use Rattle.model.specs.Question.{first_no}
use Rattle.model.specs.Codec.{frame_of}
use Rattle.model.specs.Judge.{Heard, absorb_all}
use Rattle.model.specs.Tick.{Input, holdback_size, call_questions, refusal, tables_sound, step_of, least_after, least_due, holdback_sound, repair_of, opening_stamp, opened_queue, overdue_of, heard_of, heard_stamp, new_stamp, sent_bytes, delivered_of, kept_of, accepted_with, acceptance, tick}
use Rattle.lemmas.proofs.Bounds.{Limits, Opened}
use Rattle.lemmas.proofs.Counts.{count-zero, tables-clock, trimmed-same, trimmed-widened}
use Rattle.lemmas.proofs.OneTick.{Accepted, passes-questions, tick-by, opening-stamp, absorbing-end, new-sound}
use Rattle.frame.specs.Lay.{Room, Laid}
use Rattle.node.proofs.Calls.{Sized, sized-passed, sized-asked}
use Rattle.node.specs.Views.{questions_for}
use Rattle.node.specs.States.{Timed, LastClock, ClockOpened, StampOpened, absorbed_for, Sent, bytes_to_send, Attending, attended_all, AttendedWith, AttendedQueue, AttendedStamp}

-- ---- the tables opened

module _ (s : Setup) (v : ℕ) (t : Timestamp) where
  -- sound tables have a sound clock
  pub tables-last : {sound : Bool} → sound ≡ tables_sound s v t → LastClock s v sound t.r
  unfolding tables_sound trimmed
  tables-last e = record { judged = λ h. tables-clock s.n s.epsilon s.modulus v (trimmed s.epsilon t) (sym e ∙ h) }

  module _ {sound : Bool} {least repair : ℕ} (e : sound ≡ tables_sound s v t) (o : ClockOpened s v sound t.r least repair) where
    stamp-opened : {t' : Timestamp} → t' ≡ widened (opening_stamp s v t) → StampOpened s v t t' least repair
    unfolding least_due step_of
    stamp-opened h =
        record {
          stamp = h;
          least-is = o.least-is ∙ ap (λ (b : Bool). least_after s b (clock_step s.modulus t.r v)) e;
          recent = o.recent;
          repaired = o.repaired ∙ ap (λ (b : Bool). cond b 0 1) e;
        }

    pub stamp-sound : (t' : Timestamp) {k : ℕ} → sound ≡ true → k ≡ clock_step s.modulus t.r v → t' ≡ widened (step k v (trimmed s.epsilon t)) → StampOpened s v t t' least repair
    unfolding opening_stamp step_of
    stamp-sound t' h steps d =
        stamp-opened (d ∙ ap (λ (k : ℕ). widened (step k v (trimmed s.epsilon t))) steps ∙ rw (sym e ∙ h))

    pub stamp-replaced : (t' : Timestamp) → sound ≡ false → t' ≡ widened (replaced s.epsilon v) → StampOpened s v t t' least repair
    unfolding opening_stamp
    stamp-replaced t' h d = stamp-opened (d ∙ rw (sym e ∙ h))

  opened-kept : Limits s → trimmed s.epsilon (widened (opening_stamp s v t)) ≡ opening_stamp s v t
  opened-kept lim = trimmed-widened s.epsilon (opening_stamp s v t) lim.epsilon-most (opening-stamp s v t lim).opened.wide

  module _ {t₁ : Timestamp} {least repair : ℕ} (lim : Limits s) (o : StampOpened s v t t₁ least repair) where
    pub stamp-trimmed : trimmed s.epsilon t₁ ≡ opening_stamp s v t
    stamp-trimmed = ap (trimmed s.epsilon) o.stamp ∙ opened-kept lim

    -- the places past the 2ε counts are 0
    pub stamp-narrow : t₁ ≡ widened (trimmed s.epsilon t₁)
    stamp-narrow = o.stamp ∙ ap widened (sym stamp-trimmed)

pub repair-small : (a b : ℕ) (p q : Bool) → a ≡ cond p 0 1 → b ≡ cond q 0 2 → a + b ≤ 3
repair-small a b true true e f = omega arith
repair-small a b true false e f = omega arith
repair-small a b false true e f = omega arith
repair-small a b false false e f = omega arith

-- ---- an accepted call

-- what it has passed
pub record Call (i : Input) : Type 0 where
  pub limits-test : in_limits i.setup ≡ true
  pub accepted : Accepted i
  pub size : length i.holdback ≡ holdback_size i.setup
  pub exact : exact_batch i.batch ≡ true
  pub verdicts-room : verdict_length ≤ length i.verdicts
  pub delivery-room : holdback_size i.setup ≤ length i.delivery

pub call-passed : (i : Input) → first_no (call_questions i) ≡ 0 → Call i
call-passed i e =
    let (valid, asked) = sized-asked i e in
    let z : Sized i.setup i = sized-passed i.setup i asked in
    record {
      limits-test = and_left (in_limits i.setup) _ valid;
      accepted = passes-questions i e;
      size = z.size;
      exact = z.exact;
      verdicts-room = z.verdicts-room;
      delivery-room = z.delivery-room;
    }

pub call-timed : (i : Input) → Call i → Timed i.setup i.clock
call-timed i c = record { limits = c.limits-test; below = c.accepted.clock-below }

pub call-attending : (i : Input) {t₁ : Timestamp} {least repair : ℕ} → Call i → StampOpened i.setup i.clock i.tables t₁ least repair
    → Attending i.setup t₁ i.batch i.holdback i.verdicts i.delivery
call-attending i c o =
    record {
      size = c.size;
      hearing = record { narrow = stamp-narrow i.setup i.clock i.tables c.accepted.limits o; exact = c.exact; room = c.verdicts-room };
      delivery-room = c.delivery-room;
    }

-- the least due clock of its tables
abbrev pub call_least : Input → ℕ
call_least i = least_due i.setup i.clock i.tables

heard-same : (i : Input) → attended_all false i.setup i.clock (call_least i) i.batch i.holdback ≡ heard_of i
unfolding heard_of opened_queue questions_for
heard-same i = refl

-- what it shares with an observer's, by the name of the least due clock
pub call-queue : (i : Input) {t₁ : Timestamp} {least repair emptied took delivered : ℕ} {buffer verdicts delivery : List ℕ} → StampOpened i.setup i.clock i.tables t₁ least repair
    → AttendedQueue false i.setup i.clock least i.batch i.holdback i.verdicts i.delivery emptied took delivered buffer verdicts delivery
    → AttendedQueue false i.setup i.clock (call_least i) i.batch i.holdback i.verdicts i.delivery emptied took delivered buffer verdicts delivery
call-queue i {t₁} {least} {repair} {emptied} {took} {delivered} {buffer} {verdicts} {delivery} o q =
    subst (λ (l : ℕ). AttendedQueue false i.setup i.clock l i.batch i.holdback i.verdicts i.delivery emptied took delivered buffer verdicts delivery) o.least-is q

pub call-stamp : (i : Input) {t₁ t₂ : Timestamp} {least repair : ℕ} → Call i → StampOpened i.setup i.clock i.tables t₁ least repair
    → AttendedStamp false i.setup i.clock least t₁ i.batch i.holdback t₂ → t₂ ≡ widened (heard_stamp i)
unfolding heard_stamp absorbed_for
call-stamp i {t₁} {t₂} {least} c o h =
    h.stamp
    ∙ ap₂ (λ (x : Timestamp) (l : ℕ). widened (absorb_all i.setup i.clock x (batch_entries i.batch) (attended_all false i.setup i.clock l i.batch i.holdback).verdicts))
    (stamp-trimmed i.setup i.clock i.tables c.accepted.limits o) o.least-is
    ∙ ap (λ (y : Heard). widened (absorb_all i.setup i.clock (opening_stamp i.setup i.clock i.tables) (batch_entries i.batch) y.verdicts)) (heard-same i)

-- the repair of both
pub call-repair : (i : Input) {t₁ : Timestamp} {least repair emptied : ℕ} → StampOpened i.setup i.clock i.tables t₁ least repair
    → emptied ≡ cond (sound_holdback i.setup i.clock least i.holdback) 0 2 → repair + emptied ≡ repair_of i.setup i.clock i.tables i.holdback
unfolding repair_of holdback_sound
call-repair i o e = rw (o.repaired, e, o.least-is)

-- ---- a stamp of 2ε counts in the code's places

module _ (epsilon : ℕ) (x : Timestamp) {t : Timestamp} (small : epsilon ≤ 16) (wide : length x.kn ≡ width epsilon) (places : t ≡ widened x) where
  pub places-trimmed : trimmed epsilon t ≡ x
  places-trimmed = ap (trimmed epsilon) places ∙ trimmed-widened epsilon x small wide

  -- the places past the counts are 0
  pub places-narrow : t ≡ widened (trimmed epsilon t)
  places-narrow = places ∙ ap widened (sym places-trimmed)

  -- the own event fits
  pub places-own : (n : ℕ) → n ≤ 16 → Opened n epsilon x → get_or t.kn epsilon 0 ≤ 254
  unfolding widened
  places-own n few o =
      let same : get_or t.kn epsilon 0 ≡ get_or x.kn epsilon 0 = ap (λ (y : Timestamp). get_or y.kn epsilon 0) places ∙ get_or-padded widest x.kn epsilon in
      omega (arith, count-zero x.kn epsilon, o.most epsilon)

  -- the frame that is sent carries it
  pub places-sent : (own : ℕ) (send : Bool) (payload : List ℕ) → bytes_to_send epsilon own t send payload ≡ cond send (encode (frame_of epsilon own x payload)) []
  unfolding bytes_to_send frame_of
  places-sent own send payload =
      ap (λ (y : Timestamp). cond send (encode (record { station = own; stamp = y; payload = payload })) [])
      (places-trimmed ∙ sym (trimmed-same epsilon x wide))

-- it can be sent: each number fits its bytes, and there is room
pub places-room : (epsilon own : ℕ) {t : Timestamp} (x : Timestamp) (payload outgoing : List ℕ) → t ≡ widened x → epsilon ≤ 16 → own < 16 → x.r < 65536 → x.c < epsilon
    → length payload ≤ 32 → 39 + 2 * epsilon ≤ length outgoing → Room epsilon own t payload outgoing
unfolding widened
places-room epsilon own {t} x payload outgoing places small few r-below close short room =
    let r-is : t.r ≡ x.r = ap (λ (y : Timestamp). y.r) places in
    let c-is : t.c ≡ x.c = ap (λ (y : Timestamp). y.c) places in
    record {
      narrow = small;
      station-fits = omega arith;
      r-fits = omega arith;
      c-fits = omega arith;
      payload-fits = omega arith;
      room = omega arith;
    }

-- ---- the same in a call

pub own_room : (i : Input) {t : Timestamp} → Call i → t ≡ widened (heard_stamp i) → get_or t.kn i.setup.epsilon 0 ≤ 254
own_room i c h =
    let lim = c.accepted.limits in
    let o = (absorbing-end i c.accepted).opened in
    places-own i.setup.epsilon (heard_stamp i) lim.epsilon-most o.wide h i.setup.n lim.n-most o

heard-trimmed : (i : Input) {t : Timestamp} → Call i → t ≡ widened (heard_stamp i) → trimmed i.setup.epsilon t ≡ heard_stamp i
heard-trimmed i c h = places-trimmed i.setup.epsilon (heard_stamp i) c.accepted.limits.epsilon-most (absorbing-end i c.accepted).opened.wide h

pub heard-narrow : (i : Input) {t : Timestamp} → Call i → t ≡ widened (heard_stamp i) → t ≡ widened (trimmed i.setup.epsilon t)
heard-narrow i c h = h ∙ ap widened (sym (heard-trimmed i c h))

-- the new stamp
pub own-count-is : (i : Input) {t t' : Timestamp} → Call i → t ≡ widened (heard_stamp i) → t' ≡ widened (count_own i.setup.epsilon i.clock (trimmed i.setup.epsilon t)) → t' ≡ widened (new_stamp i)
unfolding new_stamp
own-count-is i c h e = e ∙ ap (λ (x : Timestamp). widened (count_own i.setup.epsilon i.clock x)) (heard-trimmed i c h)

-- it can be sent
pub send-room : (i : Input) (t : Timestamp) → Call i → t ≡ widened (new_stamp i) → Room i.setup.epsilon i.own t i.payload i.outgoing
unfolding new_stamp count_own
send-room i t c e =
    let lim = c.accepted.limits in
    places-room i.setup.epsilon i.own (new_stamp i) i.payload i.outgoing e lim.epsilon-most (omega (arith, c.accepted.own_below, lim.n-most))
    (omega (arith, c.accepted.clock-below, lim.modulus-most)) (new-sound i c.accepted).close c.accepted.payload-short c.accepted.outgoing-room

sent-same : (i : Input) (t : Timestamp) → Call i → t ≡ widened (new_stamp i) → bytes_to_send i.setup.epsilon i.own t i.send i.payload ≡ sent_bytes i
unfolding sent_bytes
sent-same i t c e =
    places-sent i.setup.epsilon (new_stamp i) c.accepted.limits.epsilon-most (new-sound i c.accepted).wide e i.own i.send i.payload

-- an accepted call from its parts, whatever the frames' widths
pub accepted-with : (i : Input) (stamp : Timestamp) (repair₀ : ℕ) (bytes : List ℕ) {sound : Bool} {heard : Heard} {handed stays : List Frame} {room : ℕ}
    {t' : Timestamp} {emptied took delivered : ℕ} {buffer verdicts delivery : List ℕ} {repair size : ℕ} {outgoing : List ℕ}
    → AttendedWith sound heard handed stays room i.verdicts i.delivery emptied took delivered buffer verdicts delivery
    → t' ≡ widened stamp → repair ≡ repair₀ → size ≡ length bytes → outgoing ≡ overlay bytes i.outgoing
    → record {
      answer = record { number = 0; tables = t'; repair = repair; taken = took; delivered = delivered; sent = size };
      holdback = buffer;
      outgoing = outgoing;
      verdicts = verdicts;
      delivery = delivery;
    } ≡ accepted_with i repair₀ stamp heard.verdicts bytes handed (encode_frames handed) (encode_holdback room stays)
accepted-with i stamp repair₀ bytes h e-tables e-repair e-size e-outgoing =
    rw (e-tables, e-repair, h.taken_is, h.count-is, e-size, h.kept, e-outgoing, h.numbers, h.given)

-- what it shares with an observer's, in the tick's terms
call-attended : (i : Input) {emptied took delivered : ℕ} {buffer verdicts delivery : List ℕ}
    → AttendedQueue false i.setup i.clock (call_least i) i.batch i.holdback i.verdicts i.delivery emptied took delivered buffer verdicts delivery
    → AttendedWith (holdback_sound i.setup i.clock i.tables i.holdback) (heard_of i) (delivered_of i) (kept_of i) (holdback_size i.setup) i.verdicts i.delivery emptied took delivered buffer verdicts delivery
unfolding holdback_sound heard_of opened_queue overdue_of delivered_of kept_of questions_for
call-attended i h = h

-- all of it
pub accepted-output : (i : Input) → first_no (call_questions i) ≡ 0 → {t' : Timestamp} {emptied took delivered : ℕ} {buffer verdicts delivery : List ℕ} {repair size : ℕ} {outgoing : List ℕ}
    → AttendedQueue false i.setup i.clock (call_least i) i.batch i.holdback i.verdicts i.delivery emptied took delivered buffer verdicts delivery
    → t' ≡ widened (new_stamp i) → repair ≡ repair_of i.setup i.clock i.tables i.holdback
    → Sent i.setup.epsilon i.own t' i.send i.payload i.outgoing size outgoing
    → record {
      answer = record { number = 0; tables = t'; repair = repair; taken = took; delivered = delivered; sent = size };
      holdback = buffer;
      outgoing = outgoing;
      verdicts = verdicts;
      delivery = delivery;
    } ≡ tick i
unfolding acceptance delivered_of kept_of
accepted-output i e {t'} h own e-repair sent =
    let sent_is = sent-same i t' (call-passed i e) own in
    accepted-with i (new_stamp i) (repair_of i.setup i.clock i.tables i.holdback) (sent_bytes i) (call-attended i h) own e-repair
    (sent.long ∙ ap length sent_is) (sent.bytes ∙ ap (λ (l : List ℕ). overlay l i.outgoing) sent_is)
    ∙ sym (tick-by i 0 e)

-- ---- a refused call

pub refused-output : (i : Input) (number : ℕ) → number ≡ first_no (call_questions i) → (number ≡ 0 → ⊥) → refusal i number ≡ tick i
refused-output i zero e h = absurd (h refl)
refused-output i (suc k) e h = sym (tick-by i (suc k) (sym e))

-- ---- sending

module _ (epsilon own : ℕ) (t : Timestamp) (send : Bool) (payload buffer : List ℕ) where
  pub none-sent : send ≡ false → Sent epsilon own t send payload buffer 0 buffer
  unfolding bytes_to_send overlay
  none-sent h = record { long = rw h; bytes = rw h }

  pub one-sent : (size : ℕ) (buffer' : List ℕ) → send ≡ true → Laid size buffer' (frame_of epsilon own t payload) buffer → Sent epsilon own t send payload buffer size buffer'
  unfolding bytes_to_send
  one-sent size buffer' h l = record { long = rw h l.long; bytes = rw h l.bytes }
