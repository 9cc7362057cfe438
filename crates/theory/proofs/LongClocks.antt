-- 02, 2.9: on every list of calls that keeps the premises an engine with long clocks does, call for call, what the station does.
-- Assumes nothing.
use Prim.Native.Nat.{ℕ, ◌+◌, ◌≤◌, ◌<◌}
use native.Mathlib.Omega.{arith}
use mathlib.Core.Path.{◌≡◌, refl, sym, ap, ap₂, subst, ◌∙◌}
use mathlib.Core.Logic.{◌⊎◌, inl, inr}
use mathlib.Core.Bool.{Bool, true, false, ◌||◌, not, cond}
use mathlib.Core.List.{List, [], ◌∷◌, ◌++◌, map, map-append}
use mathlib.Core.Option.{Option, none, some}
use lib.Dec.{leb, ltb}
use lib.ListN.{length, take, set, get_elem?}
use borrow.Author.Tests.{leb-true, ltb-true}
use Rattle.laws.specs.Lists.{every}
use Rattle.laws.proofs.Numbers.{ap-cond, clash, true-or-false, and_left, and_right, or_cases, false_of_not}
use Rattle.laws.proofs.Lists.{every-mem, get_elem?-mem, get_elem?-last, get_elem?-map, map-map, map-ext, map-set, take-overlay}
use Rattle.model.specs.Setup.{Setup}
use Rattle.model.specs.Timestamp.{Timestamp, fresh, widened}
use Rattle.model.specs.Published.{Message, Process, initial, started, deliverable_by, advanced, message_of}
use Rattle.model.specs.Run.{Node, Call, Done, World, is_accepted, input_of, output_of, done_of, act, run_from, at_start, is_event}
use Rattle.model.specs.Tick.{Input, Output, opened_queue, heard_of, taken_count}
use Rattle.model.specs.Long.{long_bound, long_most, long_encode, long_holdback_size, long_encode_holdback, long_tick}
use Rattle.theory.specs.Premises.{largest_clock, allowed, keeps, none_stale}
use Rattle.theory.specs.Demand2.{Published, reduced, outcome_of, publish, publish_all, published_start}
use Rattle.theory.specs.LongClocks.{Engine, LongGroup, long_output, long_after, long_of, long_acted, long_all, long_fresh, long_start, ends_below, few_in, holds_few, LongMatched, LongClocks}
use Rattle.lemmas.proofs.LongStamps.{at_clock}
use Rattle.theory.proofs.World.{act-is}
use Rattle.theory.proofs.Fresh.{every-before, none-stale-before}
use Rattle.theory.proofs.PublishedEvent.{initial-stamp}
use Rattle.theory.proofs.PublishedRun.{Paired, grown-at}
use Rattle.theory.proofs.PublishedCall.{heard_here}
use Rattle.theory.proofs.PublishedStart.{paired-fresh}
use Rattle.theory.proofs.Demand2.{sent_here, published, publish-idle, publish-snoc, Acting, OneMore, one_more, EachEvent, each_snoc, each_none}
use Rattle.theory.proofs.LongHear.{plain_stamp, plain_frame, long_bytes}
use Rattle.theory.proofs.LongCall.{engine_of, long_outcome, here, input-is, long-tick, same-long}

-- the engines that do what the published program does
abbrev image_of : Setup → Published → LongGroup
image_of s u = record { engines = map (engine_of s) u.processes; sent = map long_bytes u.sent }

-- a call that is no event is made of no engine
image-idle : (s : Setup) (u : Published) (d : Done) → is_event d ≡ false → long_acted (image_of s u) d ≡ image_of s (publish deliverable_by s u d)
unfolding long_acted
image-idle s u d idle =
    ap (λ (b : Bool). long_after (image_of s u) d (long_of b (image_of s u) d)) idle
    ∙ (ap (λ (l : List (List ℕ)). record { engines = map (engine_of s) u.processes; sent = l }) (sym (map-append long_bytes u.sent (none ∷ [])))
    ∙ ap (image_of s) (sym (publish-idle s u d idle)))

-- an accepted call of a station
module _ (s : Setup) (w : World) (u : Published) (call : Call) (node : Node) (paired : Paired s w u) (acting : Acting s w u call node (done_of node call).clock)
    (made : is_event (done_of node call) ≡ true) (ends : ends_below (act w call).past ≡ true)
    (holds : few_in call (get_elem? w.nodes call.node) ≡ true) where
  abbrev v : ℕ
  v = (done_of node call).clock

  abbrev p : Process
  p = acting.process

  past_is : (act w call).past ≡ w.past ++ (done_of node call ∷ [])
  past_is = ap (λ (y : World). y.past) (act-is w call node acting.legal.along.at)

  clock-below : (k : ℕ) (d : Done) → get_elem? (w.past ++ (done_of node call ∷ [])) k ≡ some d → d.clock < long_bound
  unfolding ends_below
  clock-below k d at =
      ltb-true d.clock long_bound
      (every-mem (λ (e : Done). ltb e.clock long_bound) (subst (λ (l : List Done). every (λ (e : Done). ltb e.clock long_bound) l ≡ true) past_is ends)
      (get_elem?-mem (w.past ++ (done_of node call ∷ [])) k at))

  now-below : v < long_bound
  now-below = clock-below (length w.past) (done_of node call) (get_elem?-last w.past (done_of node call))

  sent-below : (k : ℕ) (m : Message) → get_elem? u.sent k ≡ some (some m) → m.event.r < long_bound
  sent-below k m at =
      let (d, d-at, sends-d, copy) = paired.sent-as.only k m at in
      omega (arith, copy.clock-is, clock-below k d (grown-at w.past (done_of node call) k d-at))

  few : length (opened_queue (input_of node call)) + taken_count (heard_of (input_of node call)).verdicts ≤ long_most
  few =
      let held : ℕ = length (opened_queue (input_of node call)) + taken_count (heard_of (input_of node call)).verdicts in
      let test : (not (is_accepted (output_of node call)) || (node.listens || leb held long_most)) ≡ true =
      subst (λ (o : Option Node). few_in call o ≡ true) acting.legal.along.at holds in
      elim (or_cases (not (is_accepted (output_of node call))) (node.listens || leb held long_most) test) [
        | inl q ↦ absurd (clash acting.legal.called.accepted (false_of_not (is_accepted (output_of node call)) q))
        | inr q ↦
            elim (or_cases node.listens (leb held long_most) q) [
              | inl l ↦ absurd (clash l acting.station)
              | inr l ↦ leb-true held long_most l
            ]
      ]

  abbrev input-here : Input
  input-here =
      here s w u.sent call node v p paired.good acting.legal paired.sent-as paired.ranked acting.twin acting.station now-below sent-below few

  abbrev output-here : Output
  output-here = long_outcome s input-here (outcome_of deliverable_by s u.sent p v call)

  engine-at : get_elem? (map (engine_of s) u.processes) (done_of node call).node ≡ some (engine_of s p)
  engine-at = unfold done_of in (get_elem?-map (engine_of s) u.processes call.node acting.at)

  long_of_lem : long_of (is_event (done_of node call)) (image_of s u) (done_of node call) ≡ some output-here
  long_of_lem =
      ap (λ (b : Bool). long_of b (image_of s u) (done_of node call)) made
      ∙ (ap (long_output (image_of s u) (done_of node call)) engine-at
      ∙ ap {A = Output} some
      (ap long_tick
      (input-is s w u.sent call node v p paired.good acting.legal paired.sent-as paired.ranked acting.twin acting.station now-below sent-below few
      (map (engine_of s) u.processes))
      ∙ long-tick s w u.sent call node v p paired.good acting.legal paired.sent-as paired.ranked acting.twin acting.station now-below sent-below few))

  pub matched : LongMatched s (image_of s u) (done_of node call)
  matched = (
    output-here,
    long_of_lem,
    same-long s w u.sent call node v p paired.good acting.legal paired.sent-as paired.ranked acting.twin acting.station now-below sent-below few,
  )

  abbrev after : Process
  after = advanced deliverable_by s.epsilon s.delta v p (heard_here u.sent call)

  publishes :
      publish deliverable_by s u (done_of node call)
      ≡ record { processes = set u.processes call.node after; sent = u.sent ++ (sent_here s u.sent call v p ∷ []) }
  publishes = published s w u call node v paired acting.legal p acting.at acting.twin acting.station

  -- the engine after the call is that of the process after it
  engines-are :
      set (map (engine_of s) u.processes) (done_of node call).node (record { tables = output-here.answer.tables; holdback = output-here.holdback })
      ≡ map (engine_of s) (set u.processes call.node after)
  unfolding outcome_of advanced done_of
  engines-are = sym (map-set (engine_of s) u.processes call.node after)

  message-bytes : cond call.send (long_encode (plain_frame (message_of s.epsilon v p (heard_here u.sent call) call.payload))) [] ≡ long_bytes (sent_here s u.sent call v p)
  message-bytes = sym (ap-cond long_bytes call.send (some (message_of s.epsilon v p (heard_here u.sent call) call.payload)) none)

  sent-are :
      map long_bytes u.sent ++ (take output-here.answer.sent output-here.outgoing ∷ [])
      ≡ map long_bytes (u.sent ++ (sent_here s u.sent call v p ∷ []))
  unfolding outcome_of
  sent-are =
      ap (λ (l : List ℕ). map long_bytes u.sent ++ (l ∷ []))
      (take-overlay (cond call.send (long_encode (plain_frame (message_of s.epsilon v p (heard_here u.sent call) call.payload))) []) input-here.outgoing ∙ message-bytes)
      ∙ sym (map-append long_bytes u.sent (sent_here s u.sent call v p ∷ []))

  pub image-moves : long_acted (image_of s u) (done_of node call) ≡ image_of s (publish deliverable_by s u (done_of node call))
  unfolding long_acted
  image-moves =
      ap (long_after (image_of s u) (done_of node call)) long_of_lem
      ∙ (ap₂ (λ (es : List Engine) (l : List (List ℕ)). record { engines = es; sent = l }) engines-are sent-are ∙ ap (image_of s) (sym publishes))

-- the engines beside the published program, after the calls made
pub record Alongside (s : Setup) (start : Published) (engines : LongGroup) (w : World) : Type 0 where
  paired : Paired s w (publish_all deliverable_by s start w.past)
  image : long_all engines w.past ≡ image_of s (publish_all deliverable_by s start w.past)
  matching : EachEvent (λ l d. LongMatched s (long_all engines l) d) w.past

long-snoc : (past : List Done) (workbench : LongGroup) (d : Done) → long_all workbench (past ++ (d ∷ [])) ≡ long_acted (long_all workbench past) d
unfolding long_all
long-snoc [] workbench d = refl
long-snoc (a ∷ past) workbench d = long-snoc past (long_acted workbench a) d

-- one call more
one-alongside :
    (s : Setup) (x : ℕ) (start : Published) (engines : LongGroup) (w : World) (call : Call) → Alongside s start engines w → allowed s x w call ≡ true
    → none_stale (act w call).past ≡ true → ends_below (act w call).past ≡ true → few_in call (get_elem? w.nodes call.node) ≡ true
    → Alongside s start engines (act w call)
one-alongside s x start engines w call before ok none_old ends holds =
    by_kind (true-or-false (is_event (done_of more.node call)))
  where
    u : Published
    u = publish_all deliverable_by s start w.past

    more : OneMore s w (publish_all deliverable_by s start w.past) call
    more = one_more s x w (publish_all deliverable_by s start w.past) call before.paired ok none_old

    grown :
        long_acted (image_of s (publish_all deliverable_by s start w.past)) (done_of more.node call)
        ≡ image_of s (publish deliverable_by s (publish_all deliverable_by s start w.past) (done_of more.node call))
        → (is_event (done_of more.node call) ≡ true → LongMatched s (image_of s (publish_all deliverable_by s start w.past)) (done_of more.node call))
        → Alongside s start engines (act w call)
    grown image last =
        let d = done_of more.node call in
        let past_is : (act w call).past ≡ w.past ++ (d ∷ []) = ap (λ (y : World). y.past) (act-is w call more.node more.at) in
        let published-is : publish_all deliverable_by s start (act w call).past ≡ publish deliverable_by s (publish_all deliverable_by s start w.past) d =
        ap (publish_all deliverable_by s start) past_is ∙ publish-snoc s w.past start d in
        record {
          paired = subst (Paired s (act w call)) (sym published-is) more.paired;
          image =
              ap (long_all engines) past_is
              ∙ (long-snoc w.past engines d
              ∙ (ap (λ (y : LongGroup). long_acted y d) before.image ∙ (image ∙ ap (image_of s) (sym published-is))));
          matching =
              subst (EachEvent (λ l e. LongMatched s (long_all engines l) e)) (sym past_is)
              (each_snoc (λ l e. LongMatched s (long_all engines l) e) w.past d before.matching
              (λ made. subst (λ (y : LongGroup). LongMatched s y d) (sym before.image) (last made)));
        }

    by_kind : (is_event (done_of more.node call) ≡ true) ⊎ (is_event (done_of more.node call) ≡ false) → Alongside s start engines (act w call)
    by_kind (inl made) =
        let acting = more.acting made in
        grown (image-moves s w u call more.node before.paired acting made ends holds)
        (λ again. matched s w u call more.node before.paired acting made ends holds)
    by_kind (inr idle) =
        grown (image-idle s u (done_of more.node call) idle) (λ made. absurd (clash made idle))

ends-before : (calls : List Call) (w : World) → ends_below (run_from w calls).past ≡ true → ends_below w.past ≡ true
unfolding ends_below
ends-before calls w h = every-before (λ (d : Done). ltb d.clock long_bound) calls w h

all-alongside :
    (s : Setup) (x : ℕ) (start : Published) (engines : LongGroup) (calls : List Call) (w : World) → Alongside s start engines w → keeps s x w calls ≡ true
    → none_stale (run_from w calls).past ≡ true → ends_below (run_from w calls).past ≡ true → holds_few w calls ≡ true
    → Alongside s start engines (run_from w calls)
unfolding run_from keeps holds_few
all-alongside s x start engines [] w before kept none_old ends holds = before
all-alongside s x start engines (call ∷ calls) w before kept none_old ends holds =
    all-alongside s x start engines calls (act w call)
    (one-alongside s x start engines w call before (and_left (allowed s x w call) (keeps s x (act w call) calls) kept) (none-stale-before calls (act w call) none_old)
    (ends-before calls (act w call) ends) (and_left (few_in call (get_elem? w.nodes call.node)) (holds_few (act w call) calls) holds))
    (and_right (allowed s x w call) (keeps s x (act w call) calls) kept) none_old ends
    (and_right (few_in call (get_elem? w.nodes call.node)) (holds_few (act w call) calls) holds)

-- fresh engines are those of fresh processes
fresh-engine : (s : Setup) (node : Node) → long_fresh s node ≡ engine_of s (started s.epsilon node.own node.clock)
unfolding long_fresh started
fresh-engine s node =
    let stamp : plain_stamp (initial s.epsilon node.clock) ≡ fresh s.epsilon node.clock =
    unfold initial fresh reduced in (ap (at_clock node.clock) (initial-stamp s.epsilon s.modulus node.clock)) in
    ap (λ (t : Timestamp). record { tables = widened t; holdback = long_encode_holdback (long_holdback_size s) [] }) (sym stamp)

start-image : (s : Setup) (nodes : List Node) → long_start s nodes ≡ image_of s (published_start s nodes)
unfolding long_start published_start
start-image s nodes =
    ap (λ (es : List Engine). record { engines = es; sent = [] })
    (map-ext (long_fresh s) (λ (node : Node). engine_of s (started s.epsilon node.own node.clock)) nodes (λ node t. fresh-engine s node)
    ∙ sym (map-map (engine_of s) (λ (node : Node). started s.epsilon node.own node.clock) nodes))

pub long-clocks : LongClocks
unfolding at_start publish_all long_all
long-clocks s nodes calls start all-fresh kept none_old ends holds =
    (all-alongside s (largest_clock nodes) (published_start s nodes) (long_start s nodes) calls (at_start nodes)
    (record {
      paired = paired-fresh s nodes start all-fresh;
      image = start-image s nodes;
      matching = each_none (λ l d. LongMatched s (long_all (long_start s nodes) l) d);
    })
    kept none_old ends holds).matching
