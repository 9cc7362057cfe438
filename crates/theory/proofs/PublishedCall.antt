-- One accepted call: what the tick makes of its node is what the published program makes of its process.
-- Assumes nothing.
use Prim.Native.Nat.{ℕ, ◌+◌, ◌%◌, ◌≤◌, ◌<◌}
use native.Mathlib.Omega.{arith}
use native.Mathlib.Nat.{zero-add}
use mathlib.Core.Path.{◌≡◌, refl, sym, ap, ap₂, subst, ◌∙◌}
use mathlib.Core.Logic.{◌⊎◌, inl, inr}
use mathlib.Core.Bool.{Bool, true, false, ◌||◌, not, cond, or-false}
use mathlib.Core.List.{List, [], ◌∷◌, ◌++◌, map}
use mathlib.Core.List.Memᴰ
use mathlib.Core.List.{Memᴰ}
use mathlib.Core.Option.{Option, some}
use lib.Dec.{leb, ltb}
use lib.ListN.{length, get_elem?, length-map}
use borrow.Author.Tests.{leb-false, eq-eqb}
use Rattle.laws.specs.Lists.{any, select, apart, overlay}
use Rattle.laws.proofs.Numbers.{clash, true-or-false, or_left, or_right, or_cases, false-of-no, false_of_not}
use Rattle.laws.proofs.Lists.{get_elem?-lt, get_elem?-append, get_elem?-snoc-cases, mem-of-map, mem-of-select}
use Rattle.laws.proofs.Sorted.{less_by, Sorted, sorted-of-chained, sorted-select, apart-append, apart-select}
use Rattle.model.specs.Setup.{Setup}
use Rattle.model.specs.Timestamp.{Timestamp, step, count_own, trimmed, widened}
use Rattle.model.specs.Frame.{Frame, encode}
use Rattle.model.specs.Order.{key_near, compare_frames, before}
use Rattle.model.specs.Codec.{frame_of}
use Rattle.model.specs.Batch.{batch_entries}
use Rattle.model.specs.Holdback.{encode_frames, encode_holdback}
use Rattle.model.specs.Judge.{Heard, judge_questions, absorb_all}
use Rattle.model.specs.Tick.{Output, holdback_size, opening_stamp, opened_queue, overdue_of, repair_of, heard_of, new_stamp, sent_bytes, due_before, due_now, delivered_of, taken_count, acceptance}
use Rattle.model.specs.Published.{Event, Message, Process, known, rank, same_message, new_ones, next_event, event_of, deliverable_by, in_order, buffered, delivered_at, advanced, message_of, message_due}
use Rattle.model.specs.Run.{Node, Call, Done, World, input_of, output_of, done_of, node_after}
use Rattle.theory.specs.Demand2.{reduced, reduced_frame, messages_heard, verdicts_on, outcome_of, SameAs}
use Rattle.theory.specs.Demand3.{is_from, heard_in}
use Rattle.lemmas.proofs.Counts.{trimmed-same}
use Rattle.lemmas.proofs.Bounds.{Limits, Sound}
use Rattle.lemmas.proofs.Receiving.{numbers_of, receive-heard}
use Rattle.lemmas.proofs.OneTick.{tables-are, outgoing-is, sent_is, verdicts-are}
use Rattle.model.specs.Schedule.{steady}
use Rattle.theory.proofs.World.{Memory, Tables, LeftAt, NodeOk, event_frame, heard_at, Good, Ticks}
use Rattle.theory.proofs.Event.{done-clock, after-clock}
use Rattle.theory.proofs.Entries.{heard_to}
use Rattle.theory.proofs.Plain.{PlainLegal, output-tick, accepted-input, setup-at, clock-at, sound-at, leaves-tables, event-stamp as plain-event-stamp, least_plain, opened_plain, start_plain, heard_plain, delivered_plain, kept_plain, receive-at, heard_all_lem, absorbed-all, delivery-here, holdback-here, delivers-sorted, leaves-queue, opens-tables, opens-holdback, opens-calm, start_plain_lem}
use Rattle.theory.proofs.Fresh.{settles-fresh}
use Rattle.theory.proofs.Promises.{around, unreached, entry-at, queue-at}
use Rattle.theory.proofs.PublishedEvent.{ReadsTrue, absorb_events, event-stamp, event-wide, Knows, knows-refl, knows-trans, next-knows, next_more}
use Rattle.theory.proofs.PublishedQueue.{before_same, SameMembers, members-select, delivered-members, kept-members, order_same, rank-before}
use Rattle.theory.proofs.PublishedHear.{SeenIs, News, same_self, news-stamp, news-queue, news-taken, news-from, news-all, news-sent, news-apart, news-verdicts}
use Rattle.theory.proofs.PublishedRun.{SentAs, RankedSent, Waits, Twin, heard-snoc, grown-at, waits-reads, waits-next, told, one_rank, copied-ok, news-of}

-- the messages heard in a call, and the new ones among them
abbrev pub heard_here : List (Option Message) → Call → List Message
heard_here sent call = messages_heard sent call.sources

abbrev pub new_here : List (Option Message) → Call → Process → List Message
new_here sent call p = new_ones p.received (messages_heard sent call.sources)

-- the calls heard, said another way
seen_same : (sent : List (Option Message)) (heard heard' : ℕ → Bool) (seen : List Message) → ((k : ℕ) → heard' k ≡ heard k) → SeenIs sent heard seen → SeenIs sent heard' seen
seen_same sent heard heard' seen same is =
    record {
      into = λ m t. let (k, at, e) = is.into m t in (k, at, same k ∙ e);
      back = λ k m at e. is.back k m at (sym (same k) ∙ e);
    }

module _ (s : Setup) (w : World) (sent : List (Option Message)) (call : Call) (node : Node) (v : ℕ) (p : Process)
    (good : Good (steady s) 0 0 w) (legal : PlainLegal s 0 w call node v) (sent-as : SentAs s w.past sent) (ranked : RankedSent s w.past sent)
    (twin : Twin s w.past sent call.node node p) (station : node.listens ≡ false) where
  pub ticks : Ticks s node call v
  ticks = record { due = legal.called; station = station }

  pub limits : Limits s
  limits = good.group.limits call.node node legal.along.at

  -- no node is as it was before its first call
  left_here : LeftAt (steady s) 0 0 w call.node node
  left_here = go (good.node call.node node legal.along.at)
    where
      go : NodeOk (steady s) 0 0 w call.node node → LeftAt (steady s) 0 0 w call.node node
      go (inl old) = absurd (omega (arith, old.early, limits.epsilon-pos))
      go (inr left) = left

  memory : Memory (steady s) node
  memory = left_here.memory

  pub tables-sound : node.listens ≡ false → Tables (steady s) node
  tables-sound x = (left_here.stamp x).tables

  -- the node and its process at v
  pub open-stamp : opening_stamp s (v % s.modulus) node.tables ≡ step call.step (v % s.modulus) (reduced s.modulus p.last)
  open-stamp =
      opens-tables s node call ticks memory (tables-sound station)
      ∙ ap (step call.step (v % s.modulus)) twin.stamp

  pub open-queue : SameMembers s.modulus (opened_plain s v node) p.buffer
  open-queue = rw (opens-holdback s node call ticks memory (tables-sound station)) twin.queue

  open-waits : (m : Message) → Memᴰ m p.buffer → Waits s v m
  open-waits m t =
      subst (λ (x : ℕ). Waits s x m) (sym legal.called.turn)
      (waits-next s node.clock call.step m legal.called.step-few (twin.undue m t) (twin.waiting m t))

  pub next : p.last.r + call.step ≡ v
  next = ap (λ (x : ℕ). x + call.step) twin.clock-is ∙ sym legal.called.turn

  heard-start : (k : ℕ) → heard_to w.past call 0 k ≡ heard_at w.past call.node k
  unfolding any
  heard-start k = or-false (heard_at w.past call.node k)

  pub news-here : News s v sent (heard_to w.past call 0) (start_plain s v node) (batch_entries call.batch) call.sources (new_here sent call p)
  news-here =
      news-of s w sent good sent-as v (around (steady s) (steady s) 0 0 (settles-fresh (steady s)) w call node node v good legal.along) (unreached (steady s) (steady s) 0 0 (settles-fresh (steady s)) w call node node v good legal.along station)
      (batch_entries call.batch) call.sources (heard_to w.past call 0) (start_plain s v node) p.received
      (start_plain_lem s node call ticks 0 0 w.past (heard_to w.past call 0) (queue-at (steady s) (steady s) 0 0 (settles-fresh (steady s)) w call node node v good legal.along 0 (omega arith)))
      (seen_same sent (heard_at w.past call.node) (heard_to w.past call 0) p.received heard-start twin.received) legal.along.lengths
      (entry-at (steady s) (steady s) 0 0 (settles-fresh (steady s)) w call node node v good legal.along)

  -- the new messages
  new-undue : (m : Message) → Memᴰ m (new_here sent call p) → v ≤ message_due s.epsilon s.delta m
  new-undue m t =
      let (k, bytes, a, first, there) = news-from s v sent news-here m t in
      omega (arith, a.not_late)

  new-waits : (m : Message) → Memᴰ m (new_here sent call p) → Waits s v m
  unfolding reduced_frame reduced
  new-waits m t =
      let (k, bytes, a, first, there) = news-from s v sent news-here m t in
      record { close = a.frame.sound.close; not-ahead = a.not-ahead; not-long-due = omega (arith, new-undue m t, limits.epsilon-pos) }

  -- buffered and new
  abbrev all : List Message
  all = p.buffer ++ new_here sent call p

  all-waits : (m : Message) → Memᴰ m all → Waits s v m
  all-waits m t = elim (Memᴰ.append_cases p.buffer t) [ inl q ↦ open-waits m q | inr q ↦ new-waits m q ]

  -- after a step of one nothing that the process holds is due before v
  pub none-expired : call.step ≡ 1 → (m : Message) → Memᴰ m (buffered p (heard_here sent call)) → v ≤ message_due s.epsilon s.delta m
  unfolding buffered
  none-expired one m t =
      elim (Memᴰ.append_cases p.buffer t) [
        | inl q ↦ omega (arith, twin.undue m q, legal.called.turn, one)
        | inr q ↦ new-undue m q
      ]

  pub all-reads : (m : Message) → Memᴰ m all → ReadsTrue s.epsilon s.modulus v m.event.r
  all-reads m t = waits-reads s v m limits (all-waits m t)

  pub all-sent : (m : Message) → Memᴰ m all → (k : ℕ) × (get_elem? sent k ≡ some (some m))
  all-sent m t =
      elim (Memᴰ.append_cases p.buffer t) [
        | inl q ↦ let (k, at, e) = twin.received.into m (twin.from-received m q) in (k, at)
        | inr q ↦ let (k, bytes, a, first, there) = news-from s v sent news-here m q in (k, a.at)
      ]

  all-single : apart same_message all ≡ true
  all-single =
      apart-append same_message p.buffer (new_here sent call p) twin.single
      (news-apart s v sent (told s w sent good sent-as) news-here)
      (λ x y m n.
      let (k, at, old) = twin.received.into x (twin.from-received x m) in
      let (j, bytes, a, first, there) = news-from s v sent news-here y n in
      false-of-no (same_message x y)
      (λ q.
      clash old
      (ap (heard_at w.past call.node) (told s w sent good sent-as k j x y at a.at q) ∙ (sym (heard-start j) ∙ first))))

  pub all-ranked : (m m' : Message) → Memᴰ m all → Memᴰ m' all → rank s.epsilon m ≡ rank s.epsilon m' → same_message m m' ≡ true
  all-ranked m m' t t' e =
      let (k, at) = all-sent m t in
      let (l, at') = all-sent m' t' in
      let same : m ≡ m' = one_rank s w sent good sent-as ranked k l m m' at at' e in
      subst (λ (x : Message). same_message m x ≡ true) same (same_self m)

  -- what hearing makes of the stamp, with the own event counted, is the new event
  pub heard-event :
      count_own s.epsilon (v % s.modulus)
      (absorb_all s (v % s.modulus) (opening_stamp s (v % s.modulus) node.tables) (batch_entries call.batch) (numbers_of s (v % s.modulus) (judge_questions s (v % s.modulus)) (start_plain s v node) (batch_entries call.batch)))
      ≡ reduced s.modulus (event_of s.epsilon v p (heard_here sent call))
  unfolding event_of
  heard-event =
      ap (count_own s.epsilon (v % s.modulus)) (news-stamp s v sent (opening_stamp s (v % s.modulus) node.tables) news-here)
      ∙ (ap (λ (t : Timestamp). count_own s.epsilon (v % s.modulus) (absorb_events s.epsilon s.modulus (v % s.modulus) t new-events)) open-stamp
      ∙ event-stamp s.epsilon s.modulus v call.step few p.last new-events twin.wide next new-reads)
    where
      few : call.step ≤ s.epsilon
      few = legal.called.step-few

      new-events : List Event
      new-events = map (λ (m : Message). m.event) (new_here sent call p)

      new-reads : (e : Event) → Memᴰ e new-events → ReadsTrue s.epsilon s.modulus v e.r
      new-reads e t =
          let (m, there, is) = mem-of-map (λ (x : Message). x.event) (new_here sent call p) t in
          rw is (all-reads m (Memᴰ.append_right p.buffer there))

  -- so the new stamp is
  pub stamp-is : new_stamp (input_of node call) ≡ reduced s.modulus (event_of s.epsilon v p (heard_here sent call))
  unfolding new_stamp
  stamp-is =
      ap (count_own (input_of node call).setup.epsilon (input_of node call).clock) (absorbed-all s node call ticks)
      ∙ (ap₂ (λ (t : Setup) (u : ℕ). count_own t.epsilon u
      (absorb_all s (v % s.modulus) (opening_stamp s (v % s.modulus) node.tables) (batch_entries call.batch) (numbers_of s (v % s.modulus) (judge_questions s (v % s.modulus)) (start_plain s v node) (batch_entries call.batch))))
      (setup-at s node call legal.called) (clock-at s node call legal.called)
      ∙ heard-event)

  pub rest-queue : SameMembers s.modulus (start_plain s v node).queue (select (λ m. not (ltb (message_due s.epsilon s.delta m) v)) p.buffer)
  rest-queue =
      members-select s.modulus (λ f. not (due_before s (v % s.modulus) f)) (λ m. not (ltb (message_due s.epsilon s.delta m) v)) (opened_plain s v node) p.buffer open-queue
      (λ m t. ap not (before_same s v m (all-reads m (Memᴰ.append_left (new_here sent call p) t))))

  queue-is : SameMembers s.modulus (heard_plain s v node call).queue (select (λ m. not (ltb (message_due s.epsilon s.delta m) v)) p.buffer ++ new_here sent call p)
  queue-is =
      (news-queue s v sent (select (λ m. not (ltb (message_due s.epsilon s.delta m) v)) p.buffer) news-here rest-queue)

  queue-sorted : Sorted (key_near s (v % s.modulus)) (heard_plain s v node call).queue
  unfolding before compare_frames
  queue-sorted =
      sorted-of-chained (key_near s (v % s.modulus)) (heard_plain s v node call).queue
      (receive-heard s (v % s.modulus) (least_plain s v node) (judge_questions s (v % s.modulus)) node.holdback (batch_entries call.batch) (receive-at s node call ticks)).ordered

  pub delivered-is :
      delivered_plain s v node call ≡ map (reduced_frame s.modulus) (delivered_at deliverable_by s.epsilon s.delta v p (heard_here sent call))
  unfolding delivered_at buffered
  delivered-is =
      order_same s v all all-reads all-single all-ranked (deliverable_by s.epsilon s.delta v) (delivered_plain s v node call) (delivers-sorted s node call ticks)
      (delivered-members s v (opened_plain s v node) (heard_plain s v node call).queue p.buffer (new_here sent call p) all-reads new-undue open-queue queue-is)

  kept-is : SameMembers s.modulus (kept_plain s v node call) (select (λ m. not (deliverable_by s.epsilon s.delta v m)) all)
  kept-is = kept-members s v (opened_plain s v node) (heard_plain s v node call).queue p.buffer (new_here sent call p) all-reads new-undue open-queue queue-is

  pub kept-are :
      kept_plain s v node call
      ≡ map (reduced_frame s.modulus) (in_order s.epsilon (advanced deliverable_by s.epsilon s.delta v p (heard_here sent call)).buffer)
  unfolding advanced buffered
  kept-are =
      order_same s v all all-reads all-single all-ranked (λ m. not (deliverable_by s.epsilon s.delta v m)) (kept_plain s v node call)
      (sorted-select (key_near s (v % s.modulus)) (λ f. not (due_now s (v % s.modulus) f)) (heard_plain s v node call).queue queue-sorted) kept-is

  -- the message is the frame
  pub frame_is :
      reduced_frame s.modulus (message_of s.epsilon v p (heard_here sent call) call.payload) ≡ event_frame (steady s) (done_of node call)
  unfolding reduced_frame message_of event_frame frame_of done_of
  frame_is =
      let stamps : reduced s.modulus (event_of s.epsilon v p (heard_here sent call)) ≡ (event_frame (steady s) (done_of node call)).stamp =
      sym stamp-is ∙ sym (plain-event-stamp s node call ticks) in
      λ i. record { station = twin.number i; stamp = stamps i; payload = call.payload }

  -- what is sent
  sent-frame :
      frame_of s.epsilon node.own (new_stamp (input_of node call)) call.payload
      ≡ reduced_frame s.modulus (message_of s.epsilon v p (heard_here sent call) call.payload)
  unfolding reduced_frame message_of frame_of
  sent-frame =
      let stamps : trimmed s.epsilon (new_stamp (input_of node call)) ≡ reduced s.modulus (event_of s.epsilon v p (heard_here sent call)) =
      trimmed-same s.epsilon (new_stamp (input_of node call)) (sound-at s node call ticks).wide ∙ stamp-is in
      λ i. record { station = sym twin.number i; stamp = stamps i; payload = call.payload }

  sent-are :
      sent_bytes (input_of node call)
      ≡ cond call.send (encode (reduced_frame s.modulus (message_of s.epsilon v p (heard_here sent call) call.payload))) []
  unfolding sent_bytes input_of
  sent-are =
      ap₂ (λ (t : Setup) (o : ℕ). cond call.send (encode (frame_of t.epsilon o (new_stamp (input_of node call)) call.payload)) []) legal.called.setup-is (legal.called.own_is station)
      ∙ ap (λ (f : Frame). cond call.send (encode f) []) sent-frame

  no-repair : repair_of (input_of node call).setup (input_of node call).clock (input_of node call).tables (input_of node call).holdback ≡ 0
  unfolding input_of
  no-repair = rw (legal.called.setup-is, legal.called.clock-is) (opens-calm s node call ticks memory (tables-sound station))

  pub taken-are : taken_count (heard_of (input_of node call)).verdicts ≡ length (new_here sent call p)
  unfolding taken_count select
  taken-are =
      ap (λ (h : Heard). taken_count h.verdicts) (heard_all_lem s node call ticks)
      ∙ (news-taken s v sent news-here ∙ zero-add (length (new_here sent call p)))

  pub verdicts-heard : (heard_of (input_of node call)).verdicts ≡ verdicts_on p.received (heard_here sent call)
  verdicts-heard =
      ap (λ (h : Heard). h.verdicts) (heard_all_lem s node call ticks)
      ∙ news-verdicts s v sent p.received (told s w sent good sent-as) news-here
      (seen_same sent (heard_at w.past call.node) (heard_to w.past call 0) p.received heard-start twin.received)

  delivered-length : length (delivered_of (input_of node call)) ≡ length (delivered_plain s v node call)
  unfolding delivered_of overdue_of heard_of opened_queue input_of
  delivered-length = rw (legal.called.setup-is, legal.called.clock-is) refl

  pub same-as : SameAs s (outcome_of deliverable_by s sent p (done_of node call).clock call) (done_of node call)
  unfolding outcome_of done_of acceptance input_of
  same-as =
      let i = input_of node call in
      let a = accepted-input s node call ticks in
      let out = output-tick s node call ticks in
      subst (λ (n : ℕ). SameAs s (outcome_of deliverable_by s sent p n call) (done_of node call)) (sym (done-clock legal.along.called))
      (record {
        tables = ap (λ (o : Output). o.answer.tables) out ∙ (tables-are i a ∙ ap widened stamp-is);
        repair = ap (λ (o : Output). o.answer.repair) (out ∙ a.accepted) ∙ no-repair;
        taken = ap (λ (o : Output). o.answer.taken) (out ∙ a.accepted) ∙ taken-are;
        verdicts = ap (λ (o : Output). o.verdicts) out ∙ (verdicts-are i a ∙ ap (λ (l : List ℕ). overlay l call.verdicts) verdicts-heard);
        holdback = holdback-here s node call ticks ∙ ap (encode_holdback (holdback_size s)) kept-are;
        outgoing = ap (λ (o : Output). o.outgoing) out ∙ (outgoing-is i a ∙ ap (λ (l : List ℕ). overlay l call.outgoing) sent-are);
        sent = ap (λ (o : Output). o.answer.sent) out ∙ (sent_is i a ∙ ap length sent-are);
        delivery = delivery-here s node call ticks ∙ ap (λ (l : List Frame). overlay (encode_frames l) call.delivery) delivered-is;
        delivered =
            ap (λ (o : Output). o.answer.delivered) (out ∙ a.accepted)
            ∙ (delivered-length ∙ (ap length delivered-is ∙ length-map (delivered_at deliverable_by s.epsilon s.delta v p (heard_here sent call)) (reduced_frame s.modulus)));
      })

  -- the new event
  abbrev new-event : Event
  new-event = event_of s.epsilon v p (heard_here sent call)

  new-clock : new-event.r ≡ v
  unfolding event_of next_event
  new-clock = refl

  new-knows : Knows p.last new-event
  unfolding event_of
  new-knows =
      next-knows s.epsilon v p.last (map (λ (m : Message). m.event) (new_here sent call p)) limits.epsilon-pos twin.wide (omega (arith, next))

  new-more : known p.last (v + s.epsilon) < known new-event (v + s.epsilon)
  unfolding event_of
  new-more =
      next_more s.epsilon v p.last (map (λ (m : Message). m.event) (new_here sent call p)) limits.epsilon-pos twin.wide (omega (arith, next))

  -- what its node sent before, the new event knows of
  new-knows-sent : (k : ℕ) (m : Message) (d : Done) → get_elem? sent k ≡ some (some m) → get_elem? w.past k ≡ some d → d.node ≡ call.node → Knows m.event new-event
  new-knows-sent k m d at d-at here =
      knows-trans m.event p.last new-event (omega (arith, new-clock, next)) (twin.knows k m d at d-at here) new-knows

  -- its message comes after those that its node sent before
  pub ranked-last :
      (k : ℕ) (m m' : Message) (d : Done) → m'.event ≡ new-event
      → get_elem? sent k ≡ some (some m) → get_elem? w.past k ≡ some d → d.node ≡ call.node → less_by (rank s.epsilon) m m' ≡ true
  unfolding reduced_frame
  ranked-last k m m' d e at d-at here =
      rank-before s.n s.epsilon s.modulus m m' (copied-ok s w sent good sent-as k m at).sound
      (subst (λ (x : Event). Sound s.n s.epsilon (reduced s.modulus x)) (sym e)
      (subst (λ (t : Timestamp). Sound s.n s.epsilon t) stamp-is (sound-at s node call ticks)))
      (subst (λ (x : Event). Knows m.event x) (sym e) (new-knows-sent k m d at d-at here))
      (subst (λ (x : Event). known m.event (x.r + s.epsilon) < known x (x.r + s.epsilon)) (sym e) more)
    where
      more : known m.event (new-event.r + s.epsilon) < known new-event (new-event.r + s.epsilon)
      more =
          subst (λ (n : ℕ). known m.event (n + s.epsilon) < known new-event (n + s.epsilon)) (sym new-clock)
          (omega (arith, new-more, (twin.knows k m d at d-at here).counts (v + s.epsilon) (omega (arith, next))))

  heard-here : (k : ℕ) → heard_at (w.past ++ (done_of node call ∷ [])) call.node k ≡ (heard_at w.past call.node k || any (is_from k) call.sources)
  heard-here k =
      heard-snoc w.past (done_of node call) call.node k
      ∙ ap (λ (b : Bool). heard_at w.past call.node k || b) (unfold heard_in done_of in (rw (legal.called.accepted, eq-eqb call.node call.node refl) refl))

  seen_next :
      (x : Option Message) → SeenIs (sent ++ (x ∷ [])) (heard_at (w.past ++ (done_of node call ∷ [])) call.node) (p.received ++ new_here sent call p)
  seen_next x =
      record {
        into = λ m t.
            elim (Memᴰ.append_cases p.received t) [
              | inl q ↦ let (k, at, e) = twin.received.into m q in (k, grown-at sent x k at, heard-here k ∙ or_left (any (is_from k) call.sources) e)
              | inr q ↦
                  let (k, bytes, a, first, there) = news-from s v sent news-here m q in
                  (k, grown-at sent x k a.at, heard-here k ∙ or_right (heard_at w.past call.node k) there)
            ];
        back = λ k m at e. back k m at (or_cases (heard_at w.past call.node k) (any (is_from k) call.sources) (sym (heard-here k) ∙ e));
      }
    where
      known-before : (k : ℕ) (m : Message) → k < length sent → get_elem? (sent ++ (x ∷ [])) k ≡ some (some m) → get_elem? sent k ≡ some (some m)
      known-before k m h at = sym (get_elem?-append sent (x ∷ []) k h) ∙ at

      back :
          (k : ℕ) (m : Message) → get_elem? (sent ++ (x ∷ [])) k ≡ some (some m)
          → (heard_at w.past call.node k ≡ true) ⊎ (any (is_from k) call.sources ≡ true) → Memᴰ m (p.received ++ new_here sent call p)
      back k m at (inl h) =
          Memᴰ.append_left (new_here sent call p)
          (twin.received.back k m (known-before k m (omega (arith, good.heard-before call.node k h, sent-as.same_length)) at) h)
      back k m at (inr h) =
          let at_old : get_elem? sent k ≡ some (some m) = known-before k m (news-sent s v sent news-here k h) at in
          elim (true-or-false (heard_at w.past call.node k)) [
            | inl e ↦ Memᴰ.append_left (new_here sent call p) (twin.received.back k m at_old e)
            | inr e ↦ Memᴰ.append_right p.received (news-all s v sent news-here k m at_old (heard-start k ∙ e) h)
          ]

  kept-later : (m : Message) → Memᴰ m (select (λ m. not (deliverable_by s.epsilon s.delta v m)) all) → v < message_due s.epsilon s.delta m
  unfolding deliverable_by
  kept-later m t =
      leb-false (message_due s.epsilon s.delta m) v (false_of_not (leb (message_due s.epsilon s.delta m) v) (mem-of-select (λ m. not (deliverable_by s.epsilon s.delta v m)) all t).1)

  kept-waits : (m : Message) → Memᴰ m (select (λ m. not (deliverable_by s.epsilon s.delta v m)) all) → Waits s v m
  kept-waits m t = all-waits m (mem-of-select (λ m. not (deliverable_by s.epsilon s.delta v m)) all t).0

  kept-received :
      (m : Message) → Memᴰ m (select (λ m. not (deliverable_by s.epsilon s.delta v m)) all) → Memᴰ m (p.received ++ new_here sent call p)
  kept-received m t =
      elim (Memᴰ.append_cases p.buffer (mem-of-select (λ m. not (deliverable_by s.epsilon s.delta v m)) all t).0) [
        | inl q ↦ Memᴰ.append_left (new_here sent call p) (twin.from-received m q)
        | inr q ↦ Memᴰ.append_right p.received q
      ]

  -- the node and the process after the call
  pub twin-moves :
      (x : Option Message) → ((m : Message) → x ≡ some m → m.event ≡ new-event)
      → Twin s (w.past ++ (done_of node call ∷ [])) (sent ++ (x ∷ [])) call.node (node_after node call.step (output_of node call))
      (advanced deliverable_by s.epsilon s.delta v p (heard_here sent call))
  unfolding advanced buffered
  twin-moves x x-is =
      record {
        number = unfold node_after in twin.number;
        clock-is = new-clock ∙ sym (after-clock legal.along.called);
        wide = unfold event_of in (event-wide s.epsilon v (p.last ∷ map (λ (m : Message). m.event) (new_here sent call p)));
        stamp = leaves-tables s node call ticks ∙ stamp-is;
        queue =
            subst (λ (l : List Frame). SameMembers s.modulus l (select (λ m. not (deliverable_by s.epsilon s.delta v m)) all))
            (sym (leaves-queue s node call ticks)) kept-is;
        single = apart-select same_message (λ m. not (deliverable_by s.epsilon s.delta v m)) all all-single;
        waiting = λ m t. subst (λ (n : ℕ). Waits s n m) (sym (after-clock legal.along.called)) (kept-waits m t);
        undue = λ m t. subst (λ (n : ℕ). n < message_due s.epsilon s.delta m) (sym (after-clock legal.along.called)) (kept-later m t);
        from-received = kept-received;
        received = seen_next x;
        knows = λ k m d at d-at here.
            elim (get_elem?-snoc-cases sent x k at) [
              | inl q ↦
                  new-knows-sent k m d q
                  (sym (get_elem?-append w.past (done_of node call ∷ []) k (omega (arith, get_elem?-lt sent k q, sent-as.same_length))) ∙ d-at) here
              | inr q ↦ subst (λ (e : Event). Knows e new-event) (sym (x-is m (sym q.1))) (knows-refl new-event)
            ];
      }
