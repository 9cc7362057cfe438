-- 02, 2.9: one accepted call of a station, and the same call of an engine: the engine does what the published program does, with clocks as they are.
-- Assumes nothing.
use Prim.Native.Nat.{ℕ, ◌+◌, ◌-◌, ◌/◌, ◌%◌, ◌≤◌, ◌<◌}
use native.Mathlib.Omega.{arith}
use native.Mathlib.Nat.{zero-add}
use mathlib.Core.Path.{◌≡◌, refl, sym, ap, ap₂, subst, ◌∙◌}
use mathlib.Core.Bool.{Bool, true, false, ◌&&◌, not, cond}
use mathlib.Core.List.Memᴰ
use mathlib.Core.List.{List, [], ◌∷◌, ◌++◌, map, Memᴰ}
use mathlib.Core.Option.{Option, some}
use lib.ListN.{length, take, drop, get_elem?, replicate, length-append, length-map, length-replicate}
use borrow.Author.Tests.{le-leb, lt-ltb, eq-eqb}
use Rattle.laws.specs.Lists.{every, select, sort_by, apart, joined, overlay, padded}
use Rattle.laws.proofs.Numbers.{and_intro, cond-true, within-intro}
use Rattle.laws.proofs.Lists.{every-mem, every-of-mem, every_map, select-all, take-overlay, map-map, mem-of-map, mem-of-select}
use Rattle.laws.proofs.Sorted.{Sorted, sorted-of-chained, apart-map}
use Rattle.laws.proofs.InsertionSort.{length-sort_by, mem-of-sort_by}
use Rattle.model.specs.Setup.{Setup, width, is_member, verdict_length, longest_payload}
use Rattle.model.specs.Timestamp.{Timestamp, trimmed, widened, step, replaced, count_own, sum}
use Rattle.model.specs.Frame.{Frame, section, two_bytes, two_at, later_sections, encode}
use Rattle.model.specs.Order.{reading_of, key_near, compare_frames, before, due}
use Rattle.model.specs.Codec.{ask_payload, frame_of}
use Rattle.model.specs.Batch.{exact_batch, batch_entries}
use Rattle.model.specs.Holdback.{same_origin, not_early, held, encode_frames}
use Rattle.model.specs.Question.{first_no}
use Rattle.model.specs.Judge.{Heard, judge_questions, absorb_all}
use Rattle.model.specs.Tick.{Input, Output, opening_stamp, opened_queue, heard_of, taken_count, accepted_with}
use Rattle.model.specs.Published.{Message, Process, rank, same_message, next_event, event_of, deliverable_by, in_order, buffered, delivered_at, advanced, message_of, message_due}
use Rattle.model.specs.Run.{Node, Call, World, input_of, done_of}
use Rattle.model.specs.Long.{long_bound, plainly, long_limits, ask_long_setup, low_first, long_encode, longest_long, long_most, long_holdback_size, long_held_bytes, long_held, long_passes, long_not_early, long_not_expired, long_due, long_sound_holdback, long_encode_frames, long_encode_holdback, long_hear, long_absorb_all, long_call_questions, long_clock_sound, long_tables_sound, long_least_due, long_holdback_sound, long_repair, long_opening_stamp, long_opened, long_before, long_due_by, long_heard, long_new_stamp, long_sent, long_delivered, long_kept, long_acceptance, long_tick_by, long_tick}
use Rattle.theory.specs.Demand2.{reduced, reduced_frame, verdicts_on, Outcome, outcome_of, SameAs}
use Rattle.theory.specs.LongClocks.{Engine, long_entry, long_batch, long_input, reduced_stamp, reduced_long, rewritten, narrowed, narrowed_delivery, SameLong}
use Rattle.lemmas.proofs.Bounds.{Limits, Sound, FrameOk}
use Rattle.lemmas.proofs.Counts.{Left, left-beside, trimmed-widened, trimmed-same}
use Rattle.lemmas.proofs.Queue.{early_from}
use Rattle.lemmas.proofs.LongFrames.{number-low, clock-fits, long-decode-encode, long-passes-encode, long-held-bytes, long-held-frames, long-size, long-count, batch-ends, batch-entries}
use Rattle.lemmas.proofs.LongStamps.{at_clock, step-moved, own-moved}
use Rattle.lemmas.proofs.Receiving.{numbers_of, hear-verdicts, hear-length, receive-opened, receive-small}
use Rattle.model.specs.Schedule.{steady}
use Rattle.theory.proofs.World.{Good, Ticks}
use Rattle.theory.proofs.Event.{done-clock}
use Rattle.theory.proofs.Plain.{PlainLegal, accepted-input, sound-at, own-below-at, least_plain, opened_plain, start_plain, receive-at, heard_all_lem}
use Rattle.theory.proofs.Readers.{held-delivery}
use Rattle.theory.proofs.PublishedEvent.{ReadsTrue, event-wide}
use Rattle.theory.proofs.PublishedQueue.{SameMembers, order_same}
use Rattle.theory.proofs.PublishedRun.{SentAs, RankedSent, Twin, one_rank, copied-ok}
use Rattle.theory.proofs.PublishedCall.{heard_here, new_here, ticks, limits, tables-sound, open-stamp, open-queue, next, news-here, all-reads, all-sent, all-ranked, rest-queue, heard-event, taken-are, verdicts-heard, delivered-is, same-as, stamp-is as station-stamp}
use Rattle.theory.proofs.LongHear.{plain_stamp, plain_frame, long_bytes, plain-sound, plain_ok, long_entries, long-hears, long-absorbs}
use Rattle.theory.proofs.LongQueue.{long-delivered, long_kept_lem}

-- the engine of a process
abbrev pub engine_of : Setup → Process → Engine
engine_of s p =
    record { tables = widened (plain_stamp p.last); holdback = long_encode_holdback (long_holdback_size s) (map plain_frame p.buffer) }

-- what comes of a call in which the process has an outcome
abbrev pub long_outcome : Setup → Input → Outcome → Output
long_outcome s i o =
    accepted_with i 0 (plain_stamp o.last) o.verdicts (cond i.send (long_encode (plain_frame o.message)) []) (map plain_frame o.delivered)
    (long_encode_frames (map plain_frame o.delivered)) (long_encode_holdback (long_holdback_size s) (map plain_frame o.buffer))

-- the bytes of an engine's frame, and of its hand-out, as a station's
narrow-frame : (modulus : ℕ) (f : Frame) → f.stamp.r < long_bound → narrowed modulus (long_encode f) ≡ encode (reduced_long modulus f)
unfolding narrowed long_encode section low_first encode two_bytes reduced_long reduced_stamp
narrow-frame modulus f below =
    ap (λ (r : ℕ). 3 ∷ f.station ∷ r % modulus % 256 ∷ r % modulus / 256 ∷ later_sections f)
    (number-low 8 f.stamp.r (f.station ∷ []) (later_sections f) (clock-fits f.stamp.r below))

narrow-frames :
    (modulus : ℕ) (queue : List Frame) → ((f : Frame) → Memᴰ f queue → f.stamp.r < long_bound)
    → joined (narrowed modulus) (map long_encode queue) ≡ joined encode (map (reduced_long modulus) queue)
unfolding joined
narrow-frames modulus [] below = refl
narrow-frames modulus (f ∷ queue) below =
    ap₂ ◌++◌ (narrow-frame modulus f (below f (Memᴰ.head refl))) (narrow-frames modulus queue (λ g t. below g (Memᴰ.tail t)))

narrow-count :
    (modulus : ℕ) (queue : List Frame) (rest : List ℕ) → take 2 (long_encode_frames queue ++ rest) ≡ two_bytes (length (map (reduced_long modulus) queue))
unfolding long_encode_frames two_bytes
narrow-count modulus queue rest = ap two_bytes (sym (length-map queue (reduced_long modulus)))

narrow-delivery :
    (s : Setup) (queue : List Frame) (old : List ℕ) → ((f : Frame) → Memᴰ f queue → FrameOk (plainly s) f)
    → narrowed_delivery s (overlay (long_encode_frames queue) old) ≡ encode_frames (map (reduced_long s.modulus) queue)
unfolding narrowed_delivery overlay encode_frames
narrow-delivery s queue old ok =
    let rest : List ℕ = drop (length (long_encode_frames queue)) old in
    ap₂ ◌++◌ (narrow-count s.modulus queue rest)
    (ap (joined (narrowed s.modulus)) (long-held-bytes s queue ok rest) ∙ narrow-frames s.modulus queue (λ f t. (ok f t).r-below))

module _ (s : Setup) (w : World) (sent : List (Option Message)) (call : Call) (node : Node) (v : ℕ) (p : Process)
    (good : Good (steady s) 0 0 w) (legal : PlainLegal s 0 w call node v) (sent-as : SentAs s w.past sent) (ranked : RankedSent s w.past sent)
    (twin : Twin s w.past sent call.node node p) (station : node.listens ≡ false)
    (now-below : v < long_bound) (below : (k : ℕ) (m : Message) → get_elem? sent k ≡ some (some m) → m.event.r < long_bound)
    (few : length (opened_queue (input_of node call)) + taken_count (heard_of (input_of node call)).verdicts ≤ long_most) where
  -- the call, with what the premises say of it
  abbrev pub here : Input
  here =
      record {
        setup = s;
        own = p.number;
        clock = v;
        tables = widened (plain_stamp p.last);
        holdback = long_encode_holdback (long_holdback_size s) (map plain_frame p.buffer);
        batch = long_batch (map long_bytes sent) call.sources;
        send = call.send;
        payload = call.payload;
        outgoing = replicate (longest_long s.epsilon) 0;
        verdicts = replicate verdict_length 0;
        delivery = replicate (long_holdback_size s) 0;
      }

  abbrev pub outcome : Outcome
  outcome = outcome_of deliverable_by s sent p v call

  own_is : call.own ≡ p.number
  own_is = legal.called.own_is station ∙ sym twin.number

  pub input-is : (engines : List Engine) → long_input (record { engines = engines; sent = map long_bytes sent }) (engine_of s p) (done_of node call) ≡ here
  unfolding long_input
  input-is engines =
      let setup-is : (done_of node call).call.setup ≡ s = unfold done_of in legal.called.setup-is in
      let own : (done_of node call).call.own ≡ p.number = unfold done_of in own_is in
      let clock-is : (done_of node call).clock ≡ v = done-clock legal.along.called in
      let sources : (done_of node call).call.sources ≡ call.sources = unfold done_of in refl in
      let send : (done_of node call).call.send ≡ call.send = unfold done_of in refl in
      let payload : (done_of node call).call.payload ≡ call.payload = unfold done_of in refl in
      λ i. record {
        setup = setup-is i;
        own = own i;
        clock = clock-is i;
        tables = widened (plain_stamp p.last);
        holdback = long_encode_holdback (long_holdback_size s) (map plain_frame p.buffer);
        batch = long_batch (map long_bytes sent) (sources i);
        send = send i;
        payload = payload i;
        outgoing = replicate (longest_long (setup-is i).epsilon) 0;
        verdicts = replicate verdict_length 0;
        delivery = replicate (long_holdback_size (setup-is i)) 0;
      }

  -- of the call before
  in-limits : Limits s
  in-limits = limits s w sent call node v p good legal sent-as ranked twin station

  ticking : Ticks s node call v
  ticking = ticks s w sent call node v p good legal sent-as ranked twin station

  messages-ok : (m : Message) → Memᴰ m (p.buffer ++ new_here sent call p) → FrameOk (plainly s) (plain_frame m)
  messages-ok m t =
      let (k, at) = all-sent s w sent call node v p good legal sent-as ranked twin station m t in
      plain_ok s m (copied-ok s w sent good sent-as k m at) (below k m at)

  messages-read : (m : Message) → Memᴰ m (p.buffer ++ new_here sent call p) → ReadsTrue s.epsilon s.modulus v m.event.r
  messages-read = all-reads s w sent call node v p good legal sent-as ranked twin station

  one-message :
      (m m' : Message) → Memᴰ m (p.buffer ++ new_here sent call p) → Memᴰ m' (p.buffer ++ new_here sent call p)
      → rank s.epsilon m ≡ rank s.epsilon m' → m ≡ m'
  one-message m m' t t' e =
      let (k, at) = all-sent s w sent call node v p good legal sent-as ranked twin station m t in
      let (l, at') = all-sent s w sent call node v p good legal sent-as ranked twin station m' t' in
      one_rank s w sent good sent-as ranked k l m m' at at' e

  -- as many frames are on the station's shelf as messages in the buffer
  opened-sorted : Sorted (key_near s (v % s.modulus)) (opened_plain s v node)
  unfolding before compare_frames
  opened-sorted =
      sorted-of-chained (key_near s (v % s.modulus)) (opened_plain s v node)
      (receive-opened s (v % s.modulus) (least_plain s v node) (judge_questions s (v % s.modulus)) node.holdback (batch_entries call.batch) (receive-at s node call (ticks s w sent call node v p good legal sent-as ranked twin station))).ordered

  opened-same : opened_queue (input_of node call) ≡ opened_plain s v node
  unfolding opened_queue input_of
  opened-same = rw (legal.called.setup-is, legal.called.clock-is) refl

  opened-length : length (opened_queue (input_of node call)) ≡ length p.buffer
  unfolding in_order
  opened-length =
      let every_one : select (λ (m : Message). true) p.buffer ≡ p.buffer = select-all (λ (m : Message). true) p.buffer (every-of-mem (λ (m : Message). true) p.buffer (λ m t. refl)) in
      let frames =
      order_same s v p.buffer (λ m t. messages-read m (Memᴰ.append_left (new_here sent call p) t)) twin.single
      (λ m m' t t' e. all-ranked s w sent call node v p good legal sent-as ranked twin station m m' (Memᴰ.append_left (new_here sent call p) t) (Memᴰ.append_left (new_here sent call p) t') e)
      (λ (m : Message). true) (opened_plain s v node) opened-sorted
      (subst (λ (l : List Message). SameMembers s.modulus (opened_plain s v node) l) (sym every_one) (open-queue s w sent call node v p good legal sent-as ranked twin station)) in
      ap length (opened-same ∙ frames)
      ∙ (length-map (in_order s.epsilon (select (λ (m : Message). true) p.buffer)) (reduced_frame s.modulus)
      ∙ (length-sort_by _ (select (λ (m : Message). true) p.buffer) ∙ ap length every_one))

  all-few : length (p.buffer ++ new_here sent call p) ≤ long_most
  all-few =
      omega (
        arith,
        few,
        opened-length,
        taken-are s w sent call node v p good legal sent-as ranked twin station,
        length-append p.buffer (new_here sent call p),
      )

  held-few : length p.buffer ≤ long_most
  held-few = omega (arith, few, opened-length)

  step_is : v - p.last.r ≡ call.step
  step_is =
      let e : p.last.r + call.step ≡ v = next s w sent call node v p good legal sent-as ranked twin station in
      omega arith

  frames-ok : (f : Frame) → Memᴰ f (map plain_frame p.buffer) → FrameOk (plainly s) f
  frames-ok f t =
      let (m, there, e) = mem-of-map plain_frame p.buffer t in
      subst (λ (g : Frame). FrameOk (plainly s) g) (sym e) (messages-ok m (Memᴰ.append_left (new_here sent call p) there))

  -- no question gets a no
  entries-are : batch_entries here.batch ≡ long_entries sent call.sources
  unfolding batch_entries long_batch
  entries-are = batch-entries (long_entry (map long_bytes sent)) call.sources

  payload-short : length call.payload ≤ 32
  payload-short = unfold input_of in (accepted-input s node call ticking).payload-short

  setup-in : (long_limits s && is_member s p.number) ≡ true
  unfolding long_limits is_member
  setup-in =
      and_intro
      (and_intro (within-intro in-limits.n_pos in-limits.n-most)
      (and_intro (within-intro in-limits.epsilon-pos in-limits.epsilon-most) (le-leb s.delta 64 in-limits.delta-most)))
      (lt-ltb p.number s.n (rw twin.number (own-below-at s node call ticking)))

  batch-exact : exact_batch here.batch ≡ true
  unfolding exact_batch long_batch
  batch-exact = batch-ends (long_entry (map long_bytes sent)) call.sources

  accepted : first_no (long_call_questions here) ≡ 0
  unfolding long_call_questions ask_long_setup ask_payload first_no
  accepted =
      rw (
        setup-in,
        lt-ltb v long_bound now-below,
        eq-eqb (length here.holdback) (long_holdback_size s) (long-size s (map plain_frame p.buffer) frames-ok (omega (arith, held-few, length-map p.buffer plain_frame))),
        le-leb (length call.payload) longest_payload payload-short,
        batch-exact,
        le-leb (longest_long s.epsilon) (length here.outgoing) (omega (arith, length-replicate {A = ℕ} (longest_long s.epsilon) 0)),
        le-leb (long_holdback_size s) (length here.delivery) (omega (arith, length-replicate {A = ℕ} (long_holdback_size s) 0)),
      ) refl

  -- the tables are sound
  left : Left s.n s.epsilon (plain_stamp p.last)
  unfolding reduced
  left =
      let l : Left s.n s.epsilon (reduced s.modulus p.last) =
      subst (λ (t : Timestamp). Left s.n s.epsilon t) twin.stamp (tables-sound s w sent call node v p good legal sent-as ranked twin station station) in
      record { sound = plain-sound s.n s.epsilon s.modulus p.last l.sound; room = l.room }

  back_is : trimmed s.epsilon (widened (plain_stamp p.last)) ≡ plain_stamp p.last
  back_is = trimmed-widened s.epsilon (plain_stamp p.last) in-limits.epsilon-most twin.wide

  clock-sound : long_clock_sound s.epsilon v p.last.r ≡ true
  unfolding long_clock_sound
  clock-sound =
      let below-now : p.last.r < long_bound = omega (arith, now-below, next s w sent call node v p good legal sent-as ranked twin station) in
      and_intro (lt-ltb p.last.r long_bound below-now)
      (within-intro {lo = 1} {hi = s.epsilon} {x = v - p.last.r} (omega (arith, step_is, legal.called.step-pos)) (omega (arith, step_is, legal.called.step-few)))

  sound-here : long_tables_sound s v here.tables ≡ true
  unfolding long_tables_sound widened
  sound-here = rw back_is (left-beside (long_clock_sound s.epsilon v p.last.r) s.n s.epsilon (plain_stamp p.last) left clock-sound)

  opens-stamp : long_opening_stamp here ≡ at_clock v (opening_stamp s (v % s.modulus) node.tables)
  unfolding long_opening_stamp widened reduced
  opens-stamp =
      cond-true (step (v - p.last.r) v (trimmed s.epsilon here.tables)) (replaced s.epsilon v) sound-here
      ∙ (ap₂ (λ (k : ℕ) (t : Timestamp). step k v t) step_is back_is
      ∙ (step-moved call.step v (v % s.modulus) p.last.r (reduced s.modulus p.last)
      ∙ ap (at_clock v) (sym (open-stamp s w sent call node v p good legal sent-as ranked twin station))))

  -- the shelf is sound
  held-is : long_held s.epsilon here.holdback ≡ map plain_frame p.buffer
  unfolding long_encode_holdback padded
  held-is =
      long-held-frames s (map plain_frame p.buffer) frames-ok
      (replicate (long_holdback_size s - length (long_encode_frames (map plain_frame p.buffer))) 0)

  bytes-are : long_held_bytes s.epsilon here.holdback ≡ map long_encode (map plain_frame p.buffer)
  unfolding long_encode_holdback padded
  bytes-are =
      long-held-bytes s (map plain_frame p.buffer) frames-ok
      (replicate (long_holdback_size s - length (long_encode_frames (map plain_frame p.buffer))) 0)

  count-is : two_at here.holdback 0 ≡ length (map plain_frame p.buffer)
  unfolding long_encode_holdback padded
  count-is =
      long-count (map plain_frame p.buffer) (replicate (long_holdback_size s - length (long_encode_frames (map plain_frame p.buffer))) 0)

  not-early : (m : Message) → Memᴰ m p.buffer → long_not_early s v (plain_frame m) ≡ true
  unfolding long_not_early sum reading_of reduced_frame reduced
  not-early m t =
      let there = (open-queue s w sent call node v p good legal sent-as ranked twin station).back m t in
      let opened = receive-opened s (v % s.modulus) (least_plain s v node) (judge_questions s (v % s.modulus)) node.holdback (batch_entries call.batch) (receive-at s node call (ticks s w sent call node v p good legal sent-as ranked twin station)) in
      let early = early_from s (v % s.modulus) (reduced_frame s.modulus m) (every-mem (not_early s (v % s.modulus)) opened.early there) in
      le-leb (m.event.r + m.event.c) (v + (s.epsilon - 1))
      (omega (arith, early, messages-read m (Memᴰ.append_left (new_here sent call p) t)))

  not-expired : (m : Message) → Memᴰ m p.buffer → long_not_expired s (long_least_due s v here.tables) (plain_frame m) ≡ true
  unfolding long_not_expired long_least_due long_due due sum widened
  not-expired m t =
      let later : node.clock < message_due s.epsilon s.delta m = twin.undue m t in
      rw sound-here
      (le-leb (v + 1 - (v - p.last.r)) (message_due s.epsilon s.delta m)
      (omega (arith, step_is, later, twin.clock-is, next s w sent call node v p good legal sent-as ranked twin station)))

  apart-here : apart same_origin (map plain_frame p.buffer) ≡ true
  unfolding same_origin same_message
  apart-here = apart-map same_origin plain_frame p.buffer ∙ twin.single

  all_pass : every (long_passes s) (long_held_bytes s.epsilon here.holdback) ≡ true
  all_pass =
      rw bytes-are
      (every_map (long_passes s) long_encode (map plain_frame p.buffer)
      ∙ every-of-mem (λ (f : Frame). long_passes s (long_encode f)) (map plain_frame p.buffer) (λ f t. long-passes-encode s f (frames-ok f t)))

  all_held : (test : Frame → Bool) → ((m : Message) → Memᴰ m p.buffer → test (plain_frame m) ≡ true) → every test (long_held s.epsilon here.holdback) ≡ true
  all_held test each = rw held-is (every_map test plain_frame p.buffer ∙ every-of-mem (λ (m : Message). test (plain_frame m)) p.buffer each)

  holdback-stays : long_holdback_sound here ≡ true
  unfolding long_holdback_sound long_sound_holdback
  holdback-stays =
      let single-here : apart same_origin (long_held s.epsilon here.holdback) ≡ true = rw held-is apart-here in
      and_intro (le-leb (two_at here.holdback 0) long_most (omega (arith, count-is, held-few, length-map p.buffer plain_frame)))
      (and_intro all_pass
      (and_intro single-here
      (and_intro (all_held (long_not_early s v) not-early) (all_held (long_not_expired s (long_least_due s v here.tables)) not-expired))))

  opened-is : long_opened here ≡ map plain_frame p.buffer
  unfolding long_opened
  opened-is = cond-true (long_held s.epsilon here.holdback) [] holdback-stays ∙ held-is

  repair-is : long_repair here ≡ 0
  unfolding long_repair
  repair-is = rw (sound-here, holdback-stays) refl

  -- what is heard
  numbers-are :
      numbers_of s (v % s.modulus) (judge_questions s (v % s.modulus)) (start_plain s v node) (batch_entries call.batch)
      ≡ verdicts_on p.received (heard_here sent call)
  numbers-are =
      sym (hear-verdicts s (v % s.modulus) (judge_questions s (v % s.modulus)) (start_plain s v node) (batch_entries call.batch))
      ∙ (sym (ap (λ (h : Heard). h.verdicts) (heard_all_lem s node call ticking)) ∙ verdicts-heard s w sent call node v p good legal sent-as ranked twin station)

  heard-is : long_heard here ≡ record { queue = map plain_frame (p.buffer ++ new_here sent call p); verdicts = verdicts_on p.received (heard_here sent call) }
  unfolding long_heard
  heard-is =
      ap₂ (λ (q : List Frame) (entries : List (List ℕ)). long_hear s v (record { queue = q; verdicts = [] }) entries) opened-is entries-are
      ∙ (long-hears s v sent in-limits below p.buffer []
      (news-here s w sent call node v p good legal sent-as ranked twin station) (rest-queue s w sent call node v p good legal sent-as ranked twin station)
      (λ m t. messages-read m (Memᴰ.append_left (new_here sent call p) t)) all-few
      ∙ ap (λ (ns : List ℕ). record { queue = map plain_frame (p.buffer ++ new_here sent call p); verdicts = ns }) numbers-are)

  -- the new stamp is the new event
  stamp-is : long_new_stamp here ≡ plain_stamp (event_of s.epsilon v p (heard_here sent call))
  unfolding long_new_stamp event_of next_event reduced
  stamp-is =
      ap (count_own s.epsilon v)
      (ap₂ (λ (t : Timestamp) (entries : List (List ℕ)). long_absorb_all s v t entries (long_heard here).verdicts) opens-stamp entries-are
      ∙ (ap (long_absorb_all s v (at_clock v (opening_stamp s (v % s.modulus) node.tables)) (long_entries sent call.sources))
      (ap (λ (h : Heard). h.verdicts) heard-is ∙ sym numbers-are)
      ∙ long-absorbs s v sent in-limits below (opening_stamp s (v % s.modulus) node.tables) (news-here s w sent call node v p good legal sent-as ranked twin station)))
      ∙ (own-moved s.epsilon v (v % s.modulus) v (absorb_all s (v % s.modulus) (opening_stamp s (v % s.modulus) node.tables) (batch_entries call.batch) (numbers_of s (v % s.modulus) (judge_questions s (v % s.modulus)) (start_plain s v node) (batch_entries call.batch)))
      ∙ ap (at_clock v) (heard-event s w sent call node v p good legal sent-as ranked twin station))

  sent_is : long_sent here ≡ cond call.send (long_encode (plain_frame (message_of s.epsilon v p (heard_here sent call) call.payload))) []
  unfolding long_sent frame_of message_of
  sent_is =
      ap (λ (t : Timestamp). cond call.send (long_encode (record { station = p.number; stamp = t; payload = call.payload })) [])
      (ap (trimmed s.epsilon) stamp-is
      ∙ trimmed-same s.epsilon (plain_stamp (event_of s.epsilon v p (heard_here sent call))) event-width)
    where
      event-width : length (event_of s.epsilon v p (heard_here sent call)).kn ≡ width s.epsilon
      event-width = unfold event_of in (event-wide s.epsilon v (p.last ∷ map (λ (m : Message). m.event) (new_here sent call p)))

  delivered-long : long_delivered here ≡ map plain_frame (delivered_at deliverable_by s.epsilon s.delta v p (heard_here sent call))
  unfolding long_delivered delivered_at buffered
  delivered-long =
      ap (λ (h : Heard). sort_by (long_before s) (select (long_due_by s v) h.queue)) heard-is ∙ long-delivered s v (p.buffer ++ new_here sent call p) one-message

  kept-long : long_kept here ≡ map plain_frame (advanced deliverable_by s.epsilon s.delta v p (heard_here sent call)).buffer
  unfolding long_kept advanced buffered
  kept-long = ap (λ (h : Heard). select (λ f. not (long_due_by s v f)) h.queue) heard-is ∙ long_kept_lem s v (p.buffer ++ new_here sent call p)

  -- the whole call
  pub long-tick : long_tick here ≡ long_outcome s here outcome
  unfolding long_tick long_acceptance outcome_of
  long-tick =
      let verdicts = ap (λ (h : Heard). h.verdicts) heard-is in
      ap (λ (k : ℕ). long_tick_by k here) accepted
      ∙ (λ i.
      accepted_with here (repair-is i) (stamp-is i) (verdicts i) (sent_is i) (delivered-long i) (long_encode_frames (delivered-long i))
      (long_encode_holdback (long_holdback_size s) (kept-long i)))

  -- what is the same in the station's call
  abbrev delivered : List Message
  delivered = delivered_at deliverable_by s.epsilon s.delta v p (heard_here sent call)

  delivered-ok : (m : Message) → Memᴰ m (delivered_at deliverable_by s.epsilon s.delta v p (heard_here sent call)) → FrameOk (plainly s) (plain_frame m)
  unfolding delivered_at buffered in_order
  delivered-ok m t =
      messages-ok m
      (mem-of-select (deliverable_by s.epsilon s.delta v) (p.buffer ++ new_here sent call p)
      (mem-of-sort_by _ (select (deliverable_by s.epsilon s.delta v) (p.buffer ++ new_here sent call p)) t)).0

  given-ok : (f : Frame) → Memᴰ f (map plain_frame delivered) → FrameOk (plainly s) f
  given-ok f t =
      let (m, there, e) = mem-of-map plain_frame delivered t in
      subst (λ (g : Frame). FrameOk (plainly s) g) (sym e) (delivered-ok m there)

  verdicts-long : length (verdicts_on p.received (heard_here sent call)) ≡ length call.sources
  verdicts-long =
      ap length (sym (verdicts-heard s w sent call node v p good legal sent-as ranked twin station))
      ∙ (ap (λ (h : Heard). length h.verdicts) (heard_all_lem s node call ticking)
      ∙ (hear-length s (v % s.modulus) (judge_questions s (v % s.modulus)) (start_plain s v node) (batch_entries call.batch)
      ∙ (zero-add (length (batch_entries call.batch)) ∙ legal.along.lengths)))

  front_same : (old old' : List ℕ) (k : ℕ) (l : List ℕ) → length l ≡ k → take k (overlay l old) ≡ take k (overlay l old')
  front_same old old' k l e =
      ap (λ (n : ℕ). take n (overlay l old)) (sym e) ∙ (take-overlay l old ∙ (sym (take-overlay l old') ∙ ap (λ (n : ℕ). take n (overlay l old')) e))

  rewritten-back :
      (m : Message) → FrameOk (plainly s) (plain_frame m) → (b : Bool)
      → cond b (encode (reduced_frame s.modulus m)) [] ≡ rewritten s (cond b (long_encode (plain_frame m)) [])
  unfolding long_encode section reduced_long reduced_stamp reduced_frame reduced
  rewritten-back m ok false = refl
  rewritten-back m ok true =
      ap (λ (f : Frame). encode (reduced_long s.modulus f)) (sym (long-decode-encode s.epsilon (plain_frame m) ok.sound.wide ok.r-below))

  narrowed-back :
      (m : Message) → FrameOk (plainly s) (plain_frame m) → (b : Bool)
      → cond b (encode (reduced_frame s.modulus m)) [] ≡ narrowed s.modulus (cond b (long_encode (plain_frame m)) [])
  unfolding narrowed reduced_long reduced_stamp reduced_frame reduced
  narrowed-back m ok false = refl
  narrowed-back m ok true = sym (narrow-frame s.modulus (plain_frame m) ok.r-below)

  message-ok : FrameOk (plainly s) (plain_frame (message_of s.epsilon v p (heard_here sent call) call.payload))
  unfolding message_of
  message-ok =
      record {
        station-below = rw twin.number (own-below-at s node call ticking);
        r-below = unfold event_of next_event in now-below;
        sound =
            plain-sound s.n s.epsilon s.modulus (event_of s.epsilon v p (heard_here sent call))
            (subst (λ (t : Timestamp). Sound s.n s.epsilon t) (station-stamp s w sent call node v p good legal sent-as ranked twin station) (sound-at s node call ticking));
        short = payload-short;
      }

  given-station :
      (old : List ℕ)
      → held s.epsilon (overlay (encode_frames (map (reduced_frame s.modulus) (delivered_at deliverable_by s.epsilon s.delta v p (heard_here sent call)))) old)
      ≡ map (reduced_frame s.modulus) (delivered_at deliverable_by s.epsilon s.delta v p (heard_here sent call))
  unfolding reduced_frame reduced
  given-station old =
      held-delivery s.epsilon (map (reduced_frame s.modulus) delivered) old
      (λ f t.
      let (m, there, e) = mem-of-map (reduced_frame s.modulus) delivered t in
      subst (λ (g : Frame). length g.stamp.kn ≡ width s.epsilon) (sym e) (delivered-ok m there).sound.wide)
      (subst (λ (l : List Frame). length l < 65536) (delivered-is s w sent call node v p good legal sent-as ranked twin station)
      (receive-small s (v % s.modulus) (least_plain s v node) (judge_questions s (v % s.modulus)) node.holdback (batch_entries call.batch) (receive-at s node call (ticks s w sent call node v p good legal sent-as ranked twin station))))

  given-engine :
      (old : List ℕ)
      → long_held s.epsilon (overlay (long_encode_frames (map plain_frame (delivered_at deliverable_by s.epsilon s.delta v p (heard_here sent call)))) old)
      ≡ map plain_frame (delivered_at deliverable_by s.epsilon s.delta v p (heard_here sent call))
  unfolding overlay
  given-engine old =
      long-held-frames s (map plain_frame delivered) given-ok (drop (length (long_encode_frames (map plain_frame delivered))) old)

  same_here : SameAs s (outcome_of deliverable_by s sent p v call) (done_of node call)
  same_here =
      subst (λ (n : ℕ). SameAs s (outcome_of deliverable_by s sent p n call) (done_of node call)) (done-clock legal.along.called)
      (same-as s w sent call node v p good legal sent-as ranked twin station)

  pub same-long : SameLong s (done_of node call) (long_outcome s here outcome)
  unfolding outcome_of
  same-long =
      let d = done_of node call in
      let same = same_here in
      let send-is : d.call.send ≡ call.send = unfold done_of in refl in
      let sources-are : d.call.sources ≡ call.sources = unfold done_of in refl in
      let verdicts = verdicts_on p.received (heard_here sent call) in
      let message = message_of s.epsilon v p (heard_here sent call) call.payload in
      let sent-bytes : List ℕ = cond d.call.send (encode (reduced_frame s.modulus message)) [] in
      let tables-narrow : widened (reduced s.modulus outcome.last) ≡ reduced_stamp s.modulus (widened (plain_stamp outcome.last)) =
      unfold widened reduced reduced_stamp in refl in
      let narrow-again : map (reduced_long s.modulus) (map plain_frame delivered) ≡ map (reduced_frame s.modulus) delivered =
      unfold reduced_long reduced_stamp reduced_frame reduced in (map-map (reduced_long s.modulus) plain_frame delivered) in
      let engine-bytes : List ℕ = cond call.send (long_encode (plain_frame message)) [] in
      let station-sent : take d.output.answer.sent d.output.outgoing ≡ cond call.send (encode (reduced_frame s.modulus message)) [] =
      ap₂ take same.sent same.outgoing
      ∙ (take-overlay sent-bytes d.call.outgoing ∙ ap (λ (b : Bool). cond b (encode (reduced_frame s.modulus message)) []) send-is) in
      record {
        number = refl;
        repair = sym same.repair;
        verdicts =
            front_same here.verdicts d.call.verdicts (length d.call.sources) verdicts (verdicts-long ∙ ap length (sym sources-are))
            ∙ ap (take (length d.call.sources)) (sym same.verdicts);
        taken =
            ap taken_count (sym (verdicts-heard s w sent call node v p good legal sent-as ranked twin station))
            ∙ (taken-are s w sent call node v p good legal sent-as ranked twin station ∙ sym same.taken);
        tables = same.tables ∙ tables-narrow;
        frames = station-sent ∙ (narrowed-back message message-ok call.send ∙ ap (narrowed s.modulus) (sym (take-overlay engine-bytes here.outgoing)));
        frames_read = station-sent ∙ (rewritten-back message message-ok call.send ∙ ap (rewritten s) (sym (take-overlay engine-bytes here.outgoing)));
        delivered = length-map delivered plain_frame ∙ sym same.delivered;
        deliveries =
            same.delivery
            ∙ ap (λ (l : List ℕ). overlay l d.call.delivery)
            (ap encode_frames (sym narrow-again) ∙ sym (narrow-delivery s (map plain_frame delivered) here.delivery given-ok));
        delivered_frames =
            ap (held s.epsilon) same.delivery
            ∙ (given-station d.call.delivery
            ∙ (sym narrow-again ∙ ap (map (reduced_long s.modulus)) (sym (given-engine here.delivery))));
      }
