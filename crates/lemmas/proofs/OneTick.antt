-- One accepted tick, in terms of frames and timestamps.
-- Assumes nothing.
use Prim.Native.Nat.{ℕ, zero, suc, ◌+◌, ◌*◌, ◌-◌, ◌%◌, ◌≤◌, ◌<◌}
use native.Mathlib.Omega.{arith}
use mathlib.Core.Path.{◌≡◌, refl, sym, ap, ◌∙◌}
use mathlib.Core.Bool.{Bool, true, false, ◌&&◌, cond}
use mathlib.Core.List.{List, [], ◌∷◌, ◌++◌, map, Memᴰ}
use mathlib.Core.Option.{some}
use lib.Dec.{leb, ltb, eqb}
use lib.ListN.{length, take, get_or, get_elem?, length-append}
use borrow.Author.Tests.{leb-true, ltb-true}
use Rattle.laws.specs.Lists.{select, overlay}
use Rattle.laws.proofs.Numbers.{and_left}
use Rattle.laws.proofs.Lists.{take-overlay, select-append}
use Rattle.laws.proofs.Sorted.{Sorted}
use Rattle.model.specs.Setup.{Setup, width, longest_frame, in_limits, is_member, depth}
use Rattle.model.specs.Timestamp.{Timestamp, sum, counts_from, at_most, trimmed, step, widened, replaced, absorb, count_own, clock_step, sound_clock, sound_beside, sound_tables}
use Rattle.model.specs.Order.{reading_of, key_near}
use Rattle.model.specs.Frame.{Frame, encode, decode}
use Rattle.model.specs.Batch.{batch_entries, exact_batch}
use Rattle.model.specs.Holdback.{held_bytes, held, not_early, sound_holdback, encode_frames, encode_holdback}
use Rattle.model.specs.Question.{ask_setup, first_no}
use Rattle.model.specs.Codec.{ask_payload}
use Rattle.model.specs.Judge.{Heard, hear, hear_one, judge_questions, absorb_by, absorb_all}
use Rattle.model.specs.Tick.{Input, Output, holdback_size, roomy, call_questions, tables_sound, step_of, least_due, opening_stamp, opened_queue, overdue_of, opening, heard_of, heard_stamp, new_stamp, sent_bytes, taken_count, delivered_of, kept_of, acceptance, refusal, tick_by, tick}
use Rattle.lemmas.proofs.Bounds.{Limits, Sound, Opened, FrameOk, QueueOk}
use Rattle.lemmas.proofs.Questions.{first-yes, other-yes, setup-from}
use Rattle.lemmas.proofs.Counts.{Left, clock-steps, tables_step, beside-clock, beside-left, left-tables, opened-step, opened-replaced, opened-absorb, own-left, trimmed-wide, trimmed-widened}
use Rattle.lemmas.proofs.Reading.{near-high}
use Rattle.lemmas.proofs.Queue.{Passed, judged-passed, judged-counts, QueueLeft}
use Rattle.lemmas.proofs.Hearing.{fold-stamp}
use Rattle.lemmas.proofs.Receiving.{numbers_of, hear-verdicts, step-later, Receiving, receive-opened, receive-heard, receive-kept, receive-held, receive-size, receive-sound, receive-frames, receive-sorted, receive-fewest, receive-few, receive-small, receive-bytes, receive-verdict, receive-front}

-- the tick by the number of the first question that gets a no
pub tick-by : (i : Input) (k : ℕ) → first_no (call_questions i) ≡ k → tick i ≡ tick_by k i
unfolding tick
tick-by i k e = ap (λ (m : ℕ). tick_by m i) e

-- what an accepted call has passed
pub record Accepted (i : Input) : Type 0 where
  pub limits : Limits i.setup
  pub own_below : i.own < i.setup.n
  pub clock-below : i.clock < i.setup.modulus
  pub payload-short : length i.payload ≤ 32
  pub outgoing-room : 39 + 2 * i.setup.epsilon ≤ length i.outgoing
  pub accepted : tick i ≡ acceptance i

pub refusal-number : (i : Input) (k : ℕ) → (refusal i k).answer.number ≡ k
unfolding refusal
refusal-number i k = refl

-- no question gets a no
pub no-question-fails : (i : Input) → (tick i).answer.number ≡ 0 → first_no (call_questions i) ≡ 0
no-question-fails i h = go (first_no (call_questions i)) refl
  where
    go : (k : ℕ) → first_no (call_questions i) ≡ k → k ≡ 0
    go zero e = refl
    go (suc k) e = sym (refusal-number i (suc k)) ∙ (sym (ap (λ (o : Output). o.answer.number) (tick-by i (suc k) e)) ∙ h)

pub passes-questions : (i : Input) → first_no (call_questions i) ≡ 0 → Accepted i
unfolding call_questions ask_setup ask_payload roomy longest_frame width
passes-questions i e =
    let e₁ = other-yes (in_limits i.setup && is_member i.setup i.own) 0 _ e in
    let e₂ = other-yes (ltb i.clock i.setup.modulus) 1 _ e₁ in
    let e₃ = other-yes (eqb (length i.holdback) (holdback_size i.setup)) 2 _ e₂ in
    let e₄ = other-yes (leb (length i.payload) 32) 3 _ e₃ in
    let e₅ = other-yes (exact_batch i.batch) 4 _ e₄ in
    record {
      limits = (setup-from i.setup i.own (first-yes (in_limits i.setup && is_member i.setup i.own) 0 _ e)).0;
      own_below = (setup-from i.setup i.own (first-yes (in_limits i.setup && is_member i.setup i.own) 0 _ e)).1;
      clock-below = ltb-true i.clock i.setup.modulus (first-yes (ltb i.clock i.setup.modulus) 1 _ e₁);
      payload-short = leb-true (length i.payload) 32 (first-yes (leb (length i.payload) 32) 3 _ e₃);
      outgoing-room =
          leb-true (39 + 2 * i.setup.epsilon) (length i.outgoing) (and_left _ _ (first-yes (roomy i) 5 _ e₅));
      accepted = tick-by i 0 e;
    }

pub accepted-call : (i : Input) → (tick i).answer.number ≡ 0 → Accepted i
accepted-call i h = passes-questions i (no-question-fails i h)

-- the stamp during a tick, before its own event is counted
pub record Absorbing (s : Setup) (v : ℕ) (t : Timestamp) : Type 0 where
  pub opened : Opened s.n s.epsilon t
  pub r-is : t.r ≡ v

-- the step of sound tables is 1 to ε
pub step-bounds : (s : Setup) (v : ℕ) (tables : Timestamp) → tables_sound s v tables ≡ true → (1 ≤ step_of s v tables) × (step_of s v tables ≤ s.epsilon)
unfolding tables_sound step_of trimmed
step-bounds s v tables e = tables_step s.n s.epsilon s.modulus v (trimmed s.epsilon tables) e

-- so the least due clock allowed lies less than ε before v, and not past it
pub least-bounds : (s : Setup) (v : ℕ) (tables : Timestamp) → Limits s → (least_due s v tables ≤ s.modulus) × (s.modulus + 1 ≤ least_due s v tables + s.epsilon)
unfolding least_due
least-bounds s v tables limits = go (tables_sound s v tables) refl
  where
    go : (b : Bool) → tables_sound s v tables ≡ b → (cond b (s.modulus + 1 - step_of s v tables) s.modulus ≤ s.modulus) × (s.modulus + 1 ≤ cond b (s.modulus + 1 - step_of s v tables) s.modulus + s.epsilon)
    go true e =
        let steps = step-bounds s v tables e in
        (omega (arith, steps.0), omega (arith, steps.1, limits.modulus-least))
    go false e = (omega arith, omega (arith, limits.epsilon-pos))

-- tick 1 and 2, by the test of the tables' clock and by the step, which is 1 to ε where that holds
pub opening-any :
    (s : Setup) (v k : ℕ) (clock : Bool) (tables : Timestamp) → 1 ≤ s.n → 1 ≤ s.epsilon → (clock ≡ true → (1 ≤ k) × (k ≤ s.epsilon))
    → Absorbing s v
    (cond (sound_beside clock s.n s.epsilon (trimmed s.epsilon tables)) (step k v (trimmed s.epsilon tables)) (replaced s.epsilon v))
unfolding width
opening-any s v k clock tables n_pos epsilon-pos steps = go (sound_beside clock s.n s.epsilon own) refl
  where
    own : Timestamp
    own = trimmed s.epsilon tables

    go : (b : Bool) → sound_beside clock s.n s.epsilon own ≡ b → Absorbing s v (cond b (step k v own) (replaced s.epsilon v))
    go true e =
        let (pos, few) = steps (beside-clock clock s.n s.epsilon own e) in
        record {
          opened =
              opened-step s.n s.epsilon k v own n_pos pos (omega (arith, few))
              (beside-left clock s.n s.epsilon own epsilon-pos (trimmed-wide s.epsilon tables) e);
          r-is = unfold step in refl;
        }
    go false e = record { opened = opened-replaced s.n s.epsilon v n_pos epsilon-pos; r-is = unfold replaced in refl }

pub opening-stamp : (s : Setup) (v : ℕ) (tables : Timestamp) → Limits s → Absorbing s v (opening_stamp s v tables)
unfolding opening_stamp tables_sound sound_tables step_of trimmed
opening-stamp s v tables limits =
    opening-any s v (clock_step s.modulus tables.r v) (sound_clock s.epsilon s.modulus v tables.r) tables limits.n_pos limits.epsilon-pos
    (clock-steps s.epsilon s.modulus v tables.r)

-- the half that goes into the stamp: one frame that is taken
pub absorbing-taken :
    (s : Setup) (v : ℕ) (queue : List Frame) (t : Timestamp) (f : Frame) → Limits s → Absorbing s v t → Passed s v queue f
    → at_most (s.n - 1) (counts_from s.epsilon (reading_of s v f) f.stamp.kn s.modulus) ≡ true
    → Absorbing s v (absorb_by 0 s v f t)
unfolding absorb reading_of not_early
absorbing-taken s v queue t f lim hg p counts =
    record {
      opened =
          opened-absorb s.n s.epsilon s.modulus (reading_of s v f) t f.stamp lim.n_pos lim.epsilon-pos
          hg.opened p.frame.sound
          (near-high s.epsilon s.modulus v f.stamp.r lim.epsilon-pos (omega (arith, lim.modulus-least, lim.epsilon-pos)))
          (leb-true (sum (reading_of s v f) f.stamp.c) (s.modulus + (s.epsilon - 1)) p.early) counts;
      r-is = hg.r-is;
    }

pub absorbing-one :
    (s : Setup) (v : ℕ) (queue : List Frame) (t : Timestamp) (bytes : List ℕ) → Limits s → Absorbing s v t
    → Absorbing s v (absorb_by (first_no (judge_questions s v queue bytes)) s v (decode s.epsilon bytes) t)
absorbing-one s v queue t bytes lim hg = go (first_no (judge_questions s v queue bytes)) refl
  where
    go : (k : ℕ) → first_no (judge_questions s v queue bytes) ≡ k → Absorbing s v (absorb_by k s v (decode s.epsilon bytes) t)
    go zero e = absorbing-taken s v queue t (decode s.epsilon bytes) lim hg (judged-passed s v queue bytes lim e) (judged-counts s v queue bytes lim e)
    go (suc k) e = hg

pub absorbing-all :
    (s : Setup) (v : ℕ) (h : Heard) (t : Timestamp) (entries : List (List ℕ)) → Limits s → Absorbing s v t
    → Absorbing s v (absorb_all s v t entries (numbers_of s v (judge_questions s v) h entries))
unfolding absorb_all
absorbing-all s v h t entries lim hg =
    fold-stamp (judge_questions s v) (hear_one s v (judge_questions s v)) (λ number bytes u. absorb_by number s v (decode s.epsilon bytes) u) (Absorbing s v)
    (λ queue bytes u p. absorbing-one s v queue u bytes lim p) h t entries hg

-- the half that goes on the queue: what the call shares with an observer's
pub tick-receiving : (i : Input) → Accepted i → Receiving i.setup i.clock (least_due i.setup i.clock i.tables) (judge_questions i.setup i.clock)
tick-receiving i a =
    record {
      limits = a.limits;
      below = a.clock-below;
      near = (least-bounds i.setup i.clock i.tables a.limits).1;
      places = λ queue bytes e. judged-passed i.setup i.clock queue bytes a.limits e;
    }

-- the queue as the call found it, or emptied
pub opened-ok : (i : Input) → Accepted i → QueueOk i.setup i.clock (least_due i.setup i.clock i.tables) (opened_queue i)
unfolding opened_queue
opened-ok i a =
    receive-opened i.setup i.clock (least_due i.setup i.clock i.tables) (judge_questions i.setup i.clock) i.holdback (batch_entries i.batch) (tick-receiving i a)

pub hearing-end : (i : Input) → Accepted i → QueueOk i.setup i.clock i.setup.modulus (heard_of i).queue
unfolding heard_of opened_queue
hearing-end i a =
    receive-heard i.setup i.clock (least_due i.setup i.clock i.tables) (judge_questions i.setup i.clock) i.holdback (batch_entries i.batch) (tick-receiving i a)

pub heard-verdicts : (i : Input) → (heard_of i).verdicts ≡ numbers_of i.setup i.clock (judge_questions i.setup i.clock) (opening i) (batch_entries i.batch)
unfolding heard_of
heard-verdicts i = hear-verdicts i.setup i.clock (judge_questions i.setup i.clock) (opening i) (batch_entries i.batch)

pub absorbing-end : (i : Input) → Accepted i → Absorbing i.setup i.clock (heard_stamp i)
unfolding heard_stamp
absorbing-end i a =
    rw (heard-verdicts i)
    (absorbing-all i.setup i.clock (opening i) (opening_stamp i.setup i.clock i.tables) (batch_entries i.batch) a.limits
    (opening-stamp i.setup i.clock i.tables a.limits))

-- the new stamp
pub new-left : (i : Input) → Accepted i → Left i.setup.n i.setup.epsilon (new_stamp i)
unfolding new_stamp
new-left i a =
    own-left i.setup.n i.setup.epsilon i.clock (heard_stamp i) a.limits.n_pos a.limits.epsilon-pos (absorbing-end i a).opened

pub new-sound : (i : Input) → Accepted i → Sound i.setup.n i.setup.epsilon (new_stamp i)
new-sound i a = (new-left i a).sound

pub new-r : (i : Input) → (new_stamp i).r ≡ i.clock
unfolding new_stamp count_own
new-r i = refl

pub new-tables : (i : Input) (k : ℕ) → Accepted i → 1 ≤ k → k ≤ i.setup.epsilon → sound_tables i.setup.n i.setup.epsilon i.setup.modulus ((i.clock + k) % i.setup.modulus) (new_stamp i) ≡ true
new-tables i k a pos few =
    left-tables i.setup.n i.setup.epsilon i.setup.modulus (new_stamp i) (new-left i a) (rw (new-r i) a.clock-below)
    ((i.clock + k) % i.setup.modulus) k (rw (new-r i) (step-later i.setup i.clock k a.limits a.clock-below few)) pos few

-- what stays on the queue, at the tick's own clock
pub kept-left : (i : Input) → Accepted i → QueueLeft i.setup i.clock 0 (kept_of i)
unfolding kept_of heard_of opened_queue
kept-left i a =
    receive-kept i.setup i.clock (least_due i.setup i.clock i.tables) (judge_questions i.setup i.clock) i.holdback (batch_entries i.batch) (tick-receiving i a)

-- the answer's tables and buffers, of an accepted call
pub tables-are : (i : Input) → Accepted i → (tick i).answer.tables ≡ widened (new_stamp i)
unfolding acceptance
tables-are i a = ap (λ (o : Output). o.answer.tables) a.accepted

pub holdback-is : (i : Input) → Accepted i → (tick i).holdback ≡ encode_holdback (holdback_size i.setup) (kept_of i)
unfolding acceptance
holdback-is i a = ap (λ (o : Output). o.holdback) a.accepted

pub delivery-is : (i : Input) → Accepted i → (tick i).delivery ≡ overlay (encode_frames (delivered_of i)) i.delivery
unfolding acceptance
delivery-is i a = ap (λ (o : Output). o.delivery) a.accepted

pub outgoing-is : (i : Input) → Accepted i → (tick i).outgoing ≡ overlay (sent_bytes i) i.outgoing
unfolding acceptance
outgoing-is i a = ap (λ (o : Output). o.outgoing) a.accepted

pub sent_is : (i : Input) → Accepted i → (tick i).answer.sent ≡ length (sent_bytes i)
unfolding acceptance
sent_is i a = ap (λ (o : Output). o.answer.sent) a.accepted

pub verdicts-are : (i : Input) → Accepted i → (tick i).verdicts ≡ overlay (heard_of i).verdicts i.verdicts
unfolding acceptance
verdicts-are i a = ap (λ (o : Output). o.verdicts) a.accepted

-- the tables that it leaves, by their counts
pub own-next : (i : Input) → Accepted i → trimmed i.setup.epsilon (tick i).answer.tables ≡ new_stamp i
own-next i a =
    ap (trimmed i.setup.epsilon) (tables-are i a)
    ∙ trimmed-widened i.setup.epsilon (new_stamp i) a.limits.epsilon-most (new-sound i a).wide

-- sound for every next clock 1 to ε ahead
pub tables-next : (i : Input) (k : ℕ) → Accepted i → 1 ≤ k → k ≤ i.setup.epsilon → tables_sound i.setup ((i.clock + k) % i.setup.modulus) (tick i).answer.tables ≡ true
unfolding tables_sound
tables-next i k a pos few = rw (own-next i a) (new-tables i k a pos few)

-- the frames of the shelf that a tick leaves
pub kept-held : (i : Input) → Accepted i → held i.setup.epsilon (tick i).holdback ≡ kept_of i
unfolding kept_of heard_of opened_queue
kept-held i a =
    ap (held i.setup.epsilon) (holdback-is i a)
    ∙ receive-held i.setup i.clock (least_due i.setup i.clock i.tables) (judge_questions i.setup i.clock) i.holdback (batch_entries i.batch) (tick-receiving i a)

-- and its length
pub holdback-sized : (i : Input) → Accepted i → length (tick i).holdback ≡ holdback_size i.setup
unfolding kept_of heard_of opened_queue
holdback-sized i a =
    ap length (holdback-is i a)
    ∙ receive-size i.setup i.clock (least_due i.setup i.clock i.tables) (judge_questions i.setup i.clock) i.holdback (batch_entries i.batch) (tick-receiving i a)

-- the shelf that a tick leaves is sound for every next clock 1 to ε ahead, each frame due after the tick's own
pub holdback-stays : (i : Input) (k : ℕ) → Accepted i → k ≤ i.setup.epsilon → sound_holdback i.setup ((i.clock + k) % i.setup.modulus) (i.setup.modulus + 1 - k) (tick i).holdback ≡ true
unfolding kept_of heard_of opened_queue
holdback-stays i k a few =
    ap (λ (x : List ℕ). sound_holdback i.setup ((i.clock + k) % i.setup.modulus) (i.setup.modulus + 1 - k) x) (holdback-is i a)
    ∙ receive-sound i.setup i.clock (least_due i.setup i.clock i.tables) (judge_questions i.setup i.clock) i.holdback (batch_entries i.batch) (tick-receiving i a) k few

-- what it wrote
pub delivered-frames : (i : Input) → Accepted i → (f : Frame) → Memᴰ f (delivered_of i) → FrameOk i.setup f
unfolding delivered_of overdue_of heard_of opened_queue
delivered-frames i a =
    receive-frames i.setup i.clock (least_due i.setup i.clock i.tables) (judge_questions i.setup i.clock) i.holdback (batch_entries i.batch) (tick-receiving i a)

-- it is in order
pub delivered-sorted : (i : Input) → Accepted i → Sorted (key_near i.setup i.clock) (delivered_of i)
unfolding delivered_of overdue_of heard_of opened_queue
delivered-sorted i a =
    receive-sorted i.setup i.clock (least_due i.setup i.clock i.tables) (judge_questions i.setup i.clock) i.holdback (batch_entries i.batch) (tick-receiving i a)

-- n(3ε − 2) frames at most
pub delivered-fewest : (i : Input) → Accepted i → length (delivered_of i) ≤ i.setup.n * (2 * i.setup.epsilon - 2) + i.setup.n * i.setup.epsilon
unfolding delivered_of overdue_of heard_of opened_queue
delivered-fewest i a =
    receive-fewest i.setup i.clock (least_due i.setup i.clock i.tables) (judge_questions i.setup i.clock) i.holdback (batch_entries i.batch) (tick-receiving i a)

-- so a hand-out always has room
pub delivered-few : (i : Input) → Accepted i → length (delivered_of i) ≤ depth i.setup.n i.setup.epsilon i.setup.delta
unfolding delivered_of overdue_of heard_of opened_queue
delivered-few i a =
    receive-few i.setup i.clock (least_due i.setup i.clock i.tables) (judge_questions i.setup i.clock) i.holdback (batch_entries i.batch) (tick-receiving i a)

pub delivered-most : (i : Input) → Accepted i → length (delivered_of i) < 65536
unfolding delivered_of overdue_of heard_of opened_queue
delivered-most i a =
    receive-small i.setup i.clock (least_due i.setup i.clock i.tables) (judge_questions i.setup i.clock) i.holdback (batch_entries i.batch) (tick-receiving i a)

pub delivered-bytes : (i : Input) → Accepted i → held_bytes i.setup.epsilon (tick i).delivery ≡ map encode (delivered_of i)
unfolding delivered_of overdue_of heard_of opened_queue
delivered-bytes i a =
    ap (held_bytes i.setup.epsilon) (delivery-is i a)
    ∙ receive-bytes i.setup i.clock (least_due i.setup i.clock i.tables) (judge_questions i.setup i.clock) i.holdback (batch_entries i.batch) (tick-receiving i a) i.delivery

pub sent-bytes : (i : Input) → Accepted i → take (tick i).answer.sent (tick i).outgoing ≡ sent_bytes i
sent-bytes i a = rw (sent_is i a, outgoing-is i a) (take-overlay (sent_bytes i) i.outgoing)

-- a frame more is taken
pub taken_more : (verdicts : List ℕ) → taken_count (verdicts ++ (0 ∷ [])) ≡ taken_count verdicts + 1
unfolding taken_count select
taken_more verdicts = ap length (select-append (λ x. eqb x 0) verdicts (0 ∷ [])) ∙ length-append (select (λ x. eqb x 0) verdicts) (0 ∷ [])

pub verdict-byte : (i : Input) → Accepted i → (k : ℕ) (entry : List ℕ) → get_elem? (batch_entries i.batch) k ≡ some entry → get_or (tick i).verdicts k 0 ≡ first_no (judge_questions i.setup i.clock (hear i.setup i.clock (judge_questions i.setup i.clock) (opening i) (take k (batch_entries i.batch))).queue entry)
unfolding heard_of opened_queue
verdict-byte i a k entry e =
    ap (λ (l : List ℕ). get_or l k 0) (verdicts-are i a)
    ∙ receive-verdict i.setup i.clock (least_due i.setup i.clock i.tables) (judge_questions i.setup i.clock) i.holdback (batch_entries i.batch) i.verdicts k entry e

-- the verdicts stand at the front of their buffer
pub verdicts-front : (i : Input) → Accepted i → take (length (batch_entries i.batch)) (tick i).verdicts ≡ (heard_of i).verdicts
unfolding heard_of opened_queue
verdicts-front i a =
    ap (take (length (batch_entries i.batch))) (verdicts-are i a)
    ∙ receive-front i.setup i.clock (least_due i.setup i.clock i.tables) (judge_questions i.setup i.clock) i.holdback (batch_entries i.batch) i.verdicts
