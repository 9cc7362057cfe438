-- Calls with one plain setup, where the limits are steady: what a station's call comes to, by the plain definitions.
-- Assumes nothing.
use Prim.Native.Nat.{ℕ, suc, ◌%◌, ◌<◌}
use mathlib.Core.Path.{◌≡◌, refl, sym, ap, ap₂, subst, ◌∙◌}
use mathlib.Core.Bool.{Bool, true, false, not}
use mathlib.Core.List.{List, []}
use mathlib.Core.Option.{Option}
use borrow.Author.Tests.{eqb-true}
use Rattle.laws.specs.Lists.{insert_at, select, overlay}
use Rattle.laws.proofs.Numbers.{clash, cond-true, cond-false}
use Rattle.laws.proofs.Sorted.{Sorted}
use Rattle.model.specs.Setup.{Setup}
use Rattle.model.specs.Timestamp.{trimmed, step}
use Rattle.model.specs.Frame.{Frame, decode}
use Rattle.model.specs.Order.{key_near}
use Rattle.model.specs.Batch.{batch_entries}
use Rattle.model.specs.Question.{first_no}
use Rattle.model.specs.Holdback.{held, sound_holdback, encode_frames, encode_holdback}
use Rattle.model.specs.Judge.{Asking, Heard, hear, hear_one, judge, judge_questions, place_for, absorb_all}
use Rattle.model.specs.Tick.{Output, Input, holdback_size, least_due, opening_stamp, opening_queue, opening_in, opened_queue, overdue_of, heard_of, heard_stamp, new_stamp, delivered_of, kept_of, repair_of, holdback_sound, tables_sound, tick}
use Rattle.model.specs.Schedule.{steady, Wider}
use Rattle.model.specs.Wider.{wider_new_stamp, wider_sound_holdback, wider_opening_queue, wider_due_before}
use Rattle.model.specs.Run.{Node, Call, Done, World, input_of, is_accepted, output_of, done_of, node_after, schedule_by, schedule_of, lengthened}
use Rattle.model.proofs.ComputingWider.{computing_wider}
use Rattle.lemmas.proofs.Bounds.{Limits, Sound}
use Rattle.lemmas.proofs.Receiving.{Receiving, numbers_of, receive_heard, receive_delivered, receive_kept, receive-held, receive-sorted, hear-verdicts}
use Rattle.lemmas.proofs.OneCall.{lengthened-none, plain-output}
use Rattle.lemmas.proofs.OneTick.{Accepted, accepted-call, tick-receiving, new-sound, delivery-is, holdback-is}
use Rattle.lemmas.proofs.Agreeing.{agrees-steady}
use Rattle.theory.proofs.HearLoop.{QueueLoop}
use Rattle.theory.proofs.Entries.{state_at}
use Rattle.theory.proofs.Event as event
use Rattle.theory.proofs.Opening as opening
use Rattle.theory.proofs.World.{least_by, event_frame, Memory, Tables, Called, Due-call, Ticks, Legal}

-- such a call is one along the steady schedule, and finds its node as it is
pub called-plain : (s : Setup) (node : Node) (call : Call) {v : ℕ} → Due-call s node call v → Called (steady s) (steady s) node node call v
called-plain s node call {v} c =
    record {
      accepted = c.accepted;
      along-is = unfold schedule_of in (ap₂ (λ (w : Option Wider) (t : Setup). schedule_by w t call.clock) c.wider-is c.setup-is);
      found-is = ap (λ (spare : List ℕ). lengthened spare node) c.spare-is ∙ lengthened-none node;
      own_is = c.own_is;
      clock-is = c.clock-is;
      turn = c.turn;
      step-pos = c.step-pos;
      step-few = c.step-few;
      agrees = agrees-steady s v;
    }

-- one that keeps the premises
pub record PlainLegal (s : Setup) (floor : ℕ) (w : World) (call : Call) (node : Node) (v : ℕ) : Type 0 where
  pub called : Due-call s node call v
  pub along : Legal (steady s) (steady s) floor w call node node v

-- one entry, by its verdict, whatever is asked
pub hear-taken :
    (s : Setup) (v : ℕ) (asking : Asking) (h : Heard) (bytes : List ℕ) → first_no (asking h.queue bytes) ≡ 0
    → (hear_one s v asking h bytes).queue ≡ insert_at (place_for s v h.queue (decode s.epsilon bytes)) (decode s.epsilon bytes) h.queue
unfolding hear_one judge
hear-taken s v asking h bytes e = rw e refl

pub hear-refused :
    (s : Setup) (v : ℕ) (asking : Asking) (h : Heard) (bytes : List ℕ) (k : ℕ) → first_no (asking h.queue bytes) ≡ suc k
    → (hear_one s v asking h bytes).queue ≡ h.queue
unfolding hear_one judge
hear-refused s v asking h bytes k e = rw e refl

-- a station's call is a tick
pub output-tick : (s : Setup) (node : Node) (call : Call) {v : ℕ} → Ticks s node call v → output_of node call ≡ tick (input_of node call)
output-tick s node call c = plain-output node call c.due.wider-is c.due.spare-is ∙ cond-false _ (tick (input_of node call)) c.station

pub accepted-input : (s : Setup) (node : Node) (call : Call) {v : ℕ} → Ticks s node call v → Accepted (input_of node call)
unfolding is_accepted
accepted-input s node call c =
    accepted-call (input_of node call) (eqb-true _ _ (subst (λ (o : Output). is_accepted o ≡ true) (output-tick s node call c) c.due.accepted))

pub setup-at : (s : Setup) (node : Node) (call : Call) {v : ℕ} → Due-call s node call v → (input_of node call).setup ≡ s
unfolding input_of
setup-at s node call c = c.setup-is

pub clock-at : (s : Setup) (node : Node) (call : Call) {v : ℕ} → Due-call s node call v → (input_of node call).clock ≡ v % s.modulus
unfolding input_of
clock-at s node call c = c.clock-is

limits-at : (s : Setup) (node : Node) (call : Call) {v : ℕ} → Ticks s node call v → Limits s
limits-at s node call c = subst (λ (t : Setup). Limits t) (setup-at s node call c.due) (accepted-input s node call c).limits

pub sound-at : (s : Setup) (node : Node) (call : Call) {v : ℕ} → Ticks s node call v → Sound s.n s.epsilon (new_stamp (input_of node call))
sound-at s node call c =
    subst (λ (t : Setup). Sound t.n t.epsilon (new_stamp (input_of node call))) (setup-at s node call c.due)
    (new-sound (input_of node call) (accepted-input s node call c))

pub own-below-at : (s : Setup) (node : Node) (call : Call) {v : ℕ} → Ticks s node call v → node.own < s.n
unfolding input_of
own-below-at s node call c =
    subst (λ (o : ℕ). o < s.n) (c.due.own_is c.station)
    (subst (λ (t : Setup). call.own < t.n) c.due.setup-is (accepted-input s node call c).own_below)

-- the new stamp, along the steady schedule
new-steady : (i : Input) → wider_new_stamp (steady i.setup) i ≡ new_stamp i
unfolding computing_wider
new-steady i = refl

new-plain : (s : Setup) (node : Node) (call : Call) {v : ℕ} → Due-call s node call v → wider_new_stamp (steady s) (input_of node call) ≡ new_stamp (input_of node call)
new-plain s node call c =
    ap (λ (t : Setup). wider_new_stamp (steady t) (input_of node call)) (sym (setup-at s node call c)) ∙ new-steady (input_of node call)

pub event-stamp : (s : Setup) (node : Node) (call : Call) {v : ℕ} → Ticks s node call v → (event_frame (steady s) (done_of node call)).stamp ≡ new_stamp (input_of node call)
event-stamp s node call c =
    event.event-stamp (steady s) (steady s) node node call (limits-at s node call c) (called-plain s node call c.due) c.station ∙ new-plain s node call c.due

pub leaves-tables : (s : Setup) (node : Node) (call : Call) {v : ℕ} → Ticks s node call v → trimmed s.epsilon (node_after node call.step (output_of node call)).tables ≡ new_stamp (input_of node call)
leaves-tables s node call c =
    event.leaves-tables (steady s) (steady s) node node call (limits-at s node call c) (called-plain s node call c.due) c.station ∙ new-plain s node call c.due

-- ---- its board, in a call for v

abbrev pub least_plain : Setup → ℕ → Node → ℕ
least_plain s v node = least_due s (v % s.modulus) node.tables

abbrev pub opened_plain : Setup → ℕ → Node → List Frame
opened_plain s v node = opening_queue s (v % s.modulus) (least_plain s v node) node.holdback

abbrev pub start_plain : Setup → ℕ → Node → Heard
start_plain s v node = opening_in s (v % s.modulus) (opened_plain s v node)

abbrev pub heard_plain : Setup → ℕ → Node → Call → Heard
heard_plain s v node call =
    receive_heard s (v % s.modulus) (least_plain s v node) (judge_questions s (v % s.modulus)) node.holdback (batch_entries call.batch)

abbrev pub delivered_plain : Setup → ℕ → Node → Call → List Frame
delivered_plain s v node call =
    receive_delivered s (v % s.modulus) (least_plain s v node) (judge_questions s (v % s.modulus)) node.holdback (batch_entries call.batch)

abbrev pub kept_plain : Setup → ℕ → Node → Call → List Frame
kept_plain s v node call =
    receive_kept s (v % s.modulus) (least_plain s v node) (judge_questions s (v % s.modulus)) node.holdback (batch_entries call.batch)

module _ (s : Setup) (node : Node) (call : Call) {v : ℕ} (c : Ticks s node call v) where
  abbrev i : Input
  i = input_of node call

  pub receive-at : Receiving s (v % s.modulus) (least_plain s v node) (judge_questions s (v % s.modulus))
  receive-at =
      let receiving : Receiving call.setup call.clock (least_due call.setup call.clock node.tables) (judge_questions call.setup call.clock) =
      unfold input_of in (tick-receiving (input_of node call) (accepted-input s node call c)) in
      rw (c.due.setup-is, c.due.clock-is) at receiving

  pub heard_all_lem : heard_of (input_of node call) ≡ hear s (v % s.modulus) (judge_questions s (v % s.modulus)) (start_plain s v node) (batch_entries call.batch)
  unfolding heard_of opened_queue input_of
  heard_all_lem = rw (c.due.setup-is, c.due.clock-is) refl

  pub absorbed-all :
      heard_stamp (input_of node call)
      ≡ absorb_all s (v % s.modulus) (opening_stamp s (v % s.modulus) node.tables) (batch_entries call.batch)
      (numbers_of s (v % s.modulus) (judge_questions s (v % s.modulus)) (start_plain s v node) (batch_entries call.batch))
  absorbed-all =
      unfold heard_stamp input_of in (
      ap₂ (λ (t : Setup) (u : ℕ). absorb_all t u (opening_stamp t u node.tables) (batch_entries call.batch) (heard_of (input_of node call)).verdicts) c.due.setup-is c.due.clock-is
      )
      ∙ ap (absorb_all s (v % s.modulus) (opening_stamp s (v % s.modulus) node.tables) (batch_entries call.batch))
      (ap (λ (h : Heard). h.verdicts) heard_all_lem ∙ hear-verdicts s (v % s.modulus) (judge_questions s (v % s.modulus)) (start_plain s v node) (batch_entries call.batch))

  pub delivery-here : (output_of node call).delivery ≡ overlay (encode_frames (delivered_plain s v node call)) call.delivery
  delivery-here =
      ap (λ (o : Output). o.delivery) (output-tick s node call c)
      ∙ (delivery-is (input_of node call) (accepted-input s node call c)
      ∙ unfold delivered_of overdue_of heard_of opened_queue input_of in (rw (c.due.setup-is, c.due.clock-is) refl))

  pub holdback-here : (output_of node call).holdback ≡ encode_holdback (holdback_size s) (kept_plain s v node call)
  holdback-here =
      ap (λ (o : Output). o.holdback) (output-tick s node call c)
      ∙ (holdback-is (input_of node call) (accepted-input s node call c)
      ∙ unfold kept_of heard_of opened_queue input_of in (rw (c.due.setup-is, c.due.clock-is) refl))

  pub delivers-sorted : Sorted (key_near s (v % s.modulus)) (delivered_plain s v node call)
  delivers-sorted = receive-sorted s (v % s.modulus) (least_plain s v node) (judge_questions s (v % s.modulus)) node.holdback (batch_entries call.batch) receive-at

  leaves-bytes : (node_after node call.step (output_of node call)).holdback ≡ (output_of node call).holdback
  unfolding node_after
  leaves-bytes = cond-true (output_of node call).holdback node.holdback c.due.accepted

  pub leaves-queue : held s.epsilon (node_after node call.step (output_of node call)).holdback ≡ kept_plain s v node call
  leaves-queue =
      ap (held s.epsilon) (leaves-bytes ∙ holdback-here)
      ∙ receive-held s (v % s.modulus) (least_plain s v node) (judge_questions s (v % s.modulus)) node.holdback (batch_entries call.batch) receive-at

  -- what the call before left is opened as it is
  module _ (memory : Memory (steady s) node) (tables : Tables (steady s) node) where
    limits : Limits s
    limits = limits-at s node call c

    called : Called (steady s) (steady s) node node call v
    called = called-plain s node call c.due

    pub opens-tables : opening_stamp s (v % s.modulus) node.tables ≡ step call.step (v % s.modulus) (trimmed s.epsilon node.tables)
    unfolding computing_wider
    opens-tables = opening.opens-tables (steady s) (steady s) node node call v limits limits called memory tables

    sound-tables : tables_sound s (v % s.modulus) node.tables ≡ true
    unfolding computing_wider
    sound-tables = opening.sound-tables (steady s) (steady s) node node call v limits limits called memory tables

    sound-holdback : sound_holdback s (v % s.modulus) (least_plain s v node) node.holdback ≡ true
    unfolding computing_wider
    sound-holdback =
        go node.listens c.station
        (opening.sound-holdback (steady s) (steady s) node node call v limits limits called memory (λ station. tables) (λ f m. refl))
      where
        go : (b : Bool) → b ≡ false → wider_sound_holdback (steady s) (v % s.modulus) (least_by b (steady s) (v % s.modulus) node.tables) node.holdback ≡ true
            → sound_holdback s (v % s.modulus) (least_plain s v node) node.holdback ≡ true
        go false e h = h
        go true e h = absurd (clash refl e)

    pub opens-holdback : opened_plain s v node ≡ held s.epsilon node.holdback
    unfolding opening_queue
    opens-holdback = cond-true (held s.epsilon node.holdback) [] sound-holdback

    -- nothing is mended
    pub opens-calm : repair_of s (v % s.modulus) node.tables node.holdback ≡ 0
    unfolding repair_of holdback_sound
    opens-calm = rw (sound-tables, sound-holdback)

  -- what hearing starts from, along the steady schedule
  pub start_plain_lem :
      (floor from : ℕ) (past : List Done) (heard : ℕ → Bool) → QueueLoop (steady s) (steady s) floor from past v heard (state_at (steady s) v node call 0).queue
      → QueueLoop (steady s) (steady s) floor from past v heard (start_plain s v node).queue
  unfolding computing_wider state_at
  start_plain_lem floor from past heard loop =
      go node.listens c.station loop
    where
      go :
          (b : Bool) → b ≡ false
          → QueueLoop (steady s) (steady s) floor from past v heard
          (select (λ f. not (wider_due_before (steady s) (v % s.modulus) f)) (wider_opening_queue (steady s) (v % s.modulus) (least_by b (steady s) (v % s.modulus) node.tables) node.holdback))
          → QueueLoop (steady s) (steady s) floor from past v heard (start_plain s v node).queue
      go false e x = x
      go true e x = absurd (clash refl e)
