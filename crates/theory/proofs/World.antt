-- What holds of all nodes and calls while a list of calls is run: from the clock `floor` on counts are right, and from the clock `from` on messages are covered.
-- Nodes are stations and observers; stamps, and calls that are events, are stations' alone.
-- Demand 3 has floor X + δ + 2ε and from X + δ + 3ε; from fresh nodes both are 0.
-- All of it goes by a schedule g of limits among true clocks (02, 2.10), which is a steady one where there is one setup; a call has a schedule l of
-- its own, in readings near its clock.
-- Assumes nothing.
use Prim.Native.Nat.{Ordering}
use Prim.Native.Nat.{ℕ, ◌+◌, ◌%◌, ◌≤◌, ◌<◌}
use mathlib.Core.Path.{◌≡◌, ap, ◌∙◌}
use mathlib.Core.Bool.{Bool, true, false, ◌&&◌, ◌||◌, not, cond}
use mathlib.Core.List.{List, [], ◌∷◌, ◌++◌, map, Memᴰ}
use mathlib.Core.Logic.{◌⊎◌, inl, inr}
use mathlib.Core.Option.{Option, none, some}
use lib.Dec.{leb}
use lib.ListN.{length, take, get_or, set, get_elem?}
use Rattle.laws.specs.Lists.{any, select, sort_by}
use Rattle.laws.specs.Lex.{lex_compare}
use Rattle.laws.proofs.Numbers.{and_intro, and_left, and_right, false_of_not, not_of_false}
use Rattle.laws.proofs.Lists.{count_of, get_elem?-lt, get_elem?-set-same, get_elem?-set-other}
use Rattle.model.specs.Setup.{Setup}
use Rattle.model.specs.Timestamp.{Timestamp, count_at, clock_step, sound_clock, trimmed}
use Rattle.model.specs.Frame.{Frame, encode}
use Rattle.model.specs.Batch.{batch_entries}
use Rattle.model.specs.Holdback.{encode_frames}
use Rattle.model.specs.Codec.{frame_of}
use Rattle.model.specs.Judge.{Asking}
use Rattle.model.specs.Tick.{least_at as least_from}
use Rattle.model.specs.Schedule.{Schedule, limits_at, modulus_of, widest_of, own_limits, due_along}
use Rattle.model.specs.Wider.{frame_half, wider_key, wider_held_bytes, wider_questions, wider_observer_questions, wider_least, wider_opening_queue, wider_due_before}
use Rattle.model.specs.Run.{Node, Source, sent_by, stale, Call, Done, World, is_accepted, lengthened, output_of, schedule_of, done_of, node_after, act, act_on, is_event, sends, message_bytes, message_frame}
use Rattle.theory.specs.Premises.{clock_at}
use Rattle.theory.specs.Demand3.{covered, is_from, heard_in, new_timestamp, written}
use Rattle.theory.specs.Through.{earlier_along, due_here_along, covered_along}
use Rattle.lemmas.proofs.Bounds.{Sound, FrameOk}
use Rattle.lemmas.proofs.Counts.{Left}
use Rattle.lemmas.proofs.Schedules.{Good as GoodSchedule}
use Rattle.lemmas.proofs.Agreeing.{Agrees}
use Rattle.lemmas.proofs.Positions.{place_at, QueuePlaced}

-- the frame of an accepted call, sent or not, with the limits of its clock
unfoldable pub event_frame : Schedule → Done → Frame
event_frame g d = frame_of (limits_at g d.clock).epsilon d.own (new_timestamp (limits_at g d.clock) d) d.call.payload

unfoldable pub event_key : Schedule → Done → List ℕ
event_key g d = wider_key g d.clock (event_frame g d)

-- its due clock
abbrev pub event_due : Schedule → Done → ℕ
event_due g d = due_along g (d.clock + (event_frame g d).stamp.c)

-- how many stations have reached a clock: an observer "is not counted in n"
unfoldable pub reached : List Node → ℕ → ℕ
reached nodes x = count_of (λ node. not node.listens && leb x node.clock) nodes

-- the 2ε counts of a timestamp at R are right from the floor on: nobody is counted who has not reached that clock
abbrev pub Bounded : ℕ → ℕ → List Node → ℕ → List ℕ → Type 0
Bounded epsilon floor nodes R kn = (x : ℕ) → floor ≤ x → count_at epsilon R kn x ≤ reached nodes x

-- what the timestamp f at R knows of the clocks from v on is known to t at v, each with counts of its own half width
pub record Under (half R : ℕ) (f : Timestamp) (epsilon v : ℕ) (t : Timestamp) : Type 0 where
  pub sums : R + f.c ≤ v + t.c
  pub counts : (x : ℕ) → v ≤ x → count_at half R f.kn x ≤ count_at epsilon v t.kn x

-- the message of call k has been heard at a node
unfoldable pub heard_at : List Done → ℕ → ℕ → Bool
heard_at past node k = any (heard_in node k) past

-- a frame in the queue of a node, at v: its sum lies below the floor, or it is a message that was heard. By its place, in which v stands at B + v
abbrev pub Explained : Schedule → ℕ → List Done → (ℕ → Bool) → ℕ → Frame → Type 0
Explained g floor past heard v f =
    (place_at g v f + f.stamp.c < modulus_of g + floor)
    ⊎ ((k : ℕ) × (m : Done) × (get_elem? past k ≡ some m) × (sends m ≡ true) × (heard k ≡ true) × (f ≡ event_frame g m)
    × (place_at g v f ≡ modulus_of g + m.clock))

abbrev pub AllExplained : Schedule → ℕ → List Done → (ℕ → Bool) → ℕ → List Frame → Type 0
AllExplained g floor past heard v queue = (f : Frame) → Memᴰ f queue → Explained g floor past heard v f

pub explained-more :
    (g : Schedule) (floor : ℕ) (past : List Done) (heard heard' : ℕ → Bool) (v : ℕ) (f : Frame) → ((j : ℕ) → heard j ≡ true → heard' j ≡ true)
    → Explained g floor past heard v f → Explained g floor past heard' v f
explained-more g floor past heard heard' v f more (inl h) = inl h
explained-more g floor past heard heard' v f more (inr x) = inr (x.0, x.1, x.2, x.3, more x.0 x.4, x.5, x.6)

-- each covered message that was heard and is not yet due before v lies in the queue
abbrev pub AllPresent : Schedule → ℕ → List Done → (ℕ → Bool) → ℕ → List Frame → Type 0
AllPresent g from past heard v queue =
    (k : ℕ) (m : Done) → get_elem? past k ≡ some m → covered from m ≡ true → heard k ≡ true → v ≤ event_due g m → Memᴰ (event_frame g m) queue

-- and each that is due after v: such lie there once those due by v are delivered
abbrev pub AllWaiting : Schedule → ℕ → List Done → (ℕ → Bool) → ℕ → List Frame → Type 0
AllWaiting g from past heard v queue =
    (k : ℕ) (m : Done) → get_elem? past k ≡ some m → covered from m ≡ true → heard k ≡ true → v < event_due g m → Memᴰ (event_frame g m) queue

-- an accepted call of a station, by itself
pub record CallEvent (g : Schedule) (d : Done) : Type 0 where
  pub frame : FrameOk (limits_at g d.clock) (event_frame g d)
  pub r-is : (event_frame g d).stamp.r ≡ d.clock % modulus_of g
  pub bytes : sends d ≡ true → message_bytes d ≡ encode (event_frame g d)
  pub message : sends d ≡ true → message_frame d ≡ event_frame g d
  pub fits : sends d ≡ true → length (encode (event_frame g d)) ≤ length d.call.outgoing
  pub writer :
      sends d ≡ true
      → ((written (limits_at g d.clock) d).number ≡ 0) × (d.output.answer.sent ≡ (written (limits_at g d.clock) d).size)
      × (d.output.outgoing ≡ (written (limits_at g d.clock) d).buffer)

-- the node that made a call
pub record Maker (nodes : List Node) (d : Done) : Type 0 where
  pub node : Node
  pub at : get_elem? nodes d.node ≡ some node
  pub kind-is : node.listens ≡ d.listens
  pub own_is : node.own ≡ d.own
  pub clock-is : d.clock ≤ node.clock

-- an accepted call of a station, among all
pub record Settled (g : Schedule) (floor : ℕ) (nodes : List Node) (d : Done) : Type 0 where
  pub event : CallEvent g d
  pub maker : Maker nodes d
  pub bounded : Bounded (limits_at g d.clock).epsilon floor nodes d.clock (event_frame g d).stamp.kn

-- the call d of a node is its last accepted one or comes before that, and what the last one knew is known to the stamp t at v
pub record Passed-on (g : Schedule) (d : Done) (v : ℕ) (t : Timestamp) : Type 0 where
  pub last : Done
  pub sound : Sound (limits_at g last.clock).n (limits_at g last.clock).epsilon (event_frame g last).stamp
  pub comes : (d ≡ last) ⊎ (lex_compare (event_key g d) (event_key g last) ≡ Ordering.lt)
  pub under : Under (limits_at g last.clock).epsilon last.clock (event_frame g last).stamp (limits_at g v).epsilon v t

-- the nodes alone: no clock is more than the ε of another's limits ahead of that other
pub record Group (g : Schedule) (nodes : List Node) : Type 0 where
  pub limits : (i : ℕ) (node : Node) → get_elem? nodes i ≡ some node → GoodSchedule g
  pub distinct :
      (i j : ℕ) (a b : Node) → get_elem? nodes i ≡ some a → get_elem? nodes j ≡ some b → a.listens ≡ false → b.listens ≡ false → a.own ≡ b.own
      → i ≡ j
  pub together : (i j : ℕ) (a b : Node) → get_elem? nodes i ≡ some a → get_elem? nodes j ≡ some b → a.clock ≤ b.clock + (limits_at g b.clock).epsilon
  pub few : count_of (λ node. not node.listens) nodes ≤ (widest_of g).n

-- what a node asks of a frame in a call for the clock u, and the least due clock that its shelf may have: as an observer or as a station
abbrev pub asking_by : Bool → Schedule → ℕ → Asking
asking_by true l u = wider_observer_questions l u
asking_by false l u = wider_questions l u

abbrev pub least_by : Bool → Schedule → ℕ → Timestamp → ℕ
least_by true l u tables =
    least_from (modulus_of l) (sound_clock (own_limits l).epsilon (modulus_of l) u tables.r) (clock_step (modulus_of l) tables.r u)
least_by false l u tables = wider_least l u tables

abbrev pub asking_at : Schedule → ℕ → Node → Asking
asking_at l v node = asking_by node.listens l (v % modulus_of l)

abbrev pub least_at : Schedule → ℕ → Node → ℕ
least_at l v node = least_by node.listens l (v % modulus_of l) node.tables

-- the queue with which a call for v starts, as found or emptied, and what of it is not due before v
abbrev pub opened_at : Schedule → ℕ → Node → List Frame
opened_at l v node = wider_opening_queue l (v % modulus_of l) (least_at l v node) node.holdback

abbrev pub overdue_at : Schedule → ℕ → Node → List Frame
overdue_at l v node = select (wider_due_before l (v % modulus_of l)) (opened_at l v node)

abbrev pub rest_at : Schedule → ℕ → Node → List Frame
rest_at l v node = select (λ f. not (wider_due_before l (v % modulus_of l) f)) (opened_at l v node)

-- what a call of node i for v starts from, its clock before that being `last`: the queue as found or emptied, with what is due before v
pub record OpensQueue (g : Schedule) (floor from : ℕ) (w : World) (i last v : ℕ) (queue : List Frame) : Type 0 where
  pub members : AllExplained g floor w.past (heard_at w.past i) v queue
  -- a frame there that is covered, of the true clock R, is due past `last`
  pub later : (f : Frame) (R : ℕ) → Memᴰ f queue → place_at g v f ≡ modulus_of g + R → from ≤ R → last < due_along g (R + f.stamp.c)
  pub waiting : AllWaiting g from w.past (heard_at w.past i) last queue

-- and the stamp, of a station
pub record OpensStamp (g : Schedule) (floor : ℕ) (w : World) (i v : ℕ) (t : Timestamp) : Type 0 where
  pub bounded : Bounded (limits_at g v).epsilon floor w.nodes v t.kn
  pub passed_on : (k : ℕ) (d : Done) → get_elem? w.past k ≡ some d → is_event d ≡ true → d.node ≡ i → Passed-on g d v t

-- what a call leaves in its node's memory, at the node's own clock: the last clock, and a shelf of frames, with whatever stands behind them. It does
-- not say which setup the call had: of the frames their places among true clocks are said
pub record Memory (g : Schedule) (node : Node) : Type 0 where
  pub r-is : node.tables.r ≡ node.clock % modulus_of g
  pub queue : List Frame
  pub rest : List ℕ
  pub bytes : node.holdback ≡ encode_frames queue ++ rest
  pub placed : QueuePlaced g node.clock queue

-- and sound tables, of a station
abbrev pub Tables : Schedule → Node → Type 0
Tables g node =
    Left (limits_at g node.clock).n (limits_at g node.clock).epsilon (trimmed (limits_at g node.clock).epsilon node.tables)

-- a station's stamp as its last accepted call left it
pub record LeftStamp (g : Schedule) (floor : ℕ) (w : World) (i : ℕ) (node : Node) : Type 0 where
  pub tables : Tables g node
  pub bounded : Bounded (limits_at g node.clock).epsilon floor w.nodes node.clock (trimmed (limits_at g node.clock).epsilon node.tables).kn
  pub passed_on :
      (k : ℕ) (d : Done) → get_elem? w.past k ≡ some d → is_event d ≡ true → d.node ≡ i
      → Passed-on g d node.clock (trimmed (limits_at g node.clock).epsilon node.tables)

-- a node as its last accepted call left it; a fresh node is one too
pub record LeftAt (g : Schedule) (floor from : ℕ) (w : World) (i : ℕ) (node : Node) : Type 0 where
  pub memory : Memory g node
  pub members : AllExplained g floor w.past (heard_at w.past i) node.clock memory.queue
  pub waiting : AllWaiting g from w.past (heard_at w.past i) node.clock memory.queue
  pub stamp : node.listens ≡ false → LeftStamp g floor w i node

-- a node that has made no accepted call yet: its memory is whatever it was, and what it opens at its first one lies below the floor
pub record Untouched (g : Schedule) (floor : ℕ) (w : World) (i : ℕ) (node : Node) : Type 0 where
  pub early : node.clock + (widest_of g).epsilon + (widest_of g).epsilon ≤ floor
  pub unheard : (k : ℕ) → heard_at w.past i k ≡ false
  pub uncalled : (k : ℕ) (d : Done) → get_elem? w.past k ≡ some d → is_event d ≡ true → d.node ≡ i → ⊥

-- one node among all, between its calls
abbrev pub NodeOk : Schedule → ℕ → ℕ → World → ℕ → Node → Type 0
NodeOk g floor from w i node = Untouched g floor w i node ⊎ LeftAt g floor from w i node

-- every call, refused ones too, was made by a node that is an observer or not, as it says
abbrev pub AllKinds : List Node → List Done → Type 0
AllKinds nodes past = (k : ℕ) (d : Done) → get_elem? past k ≡ some d → (node : Node) × (get_elem? nodes d.node ≡ some node) × (node.listens ≡ d.listens)

-- the invariant
pub record Good (g : Schedule) (floor from : ℕ) (w : World) : Type 0 where
  pub group : Group g w.nodes
  pub node : (i : ℕ) (a : Node) → get_elem? w.nodes i ≡ some a → NodeOk g floor from w i a
  pub calls : (k : ℕ) (d : Done) → get_elem? w.past k ≡ some d → is_event d ≡ true → Settled g floor w.nodes d
  pub unique : (k l : ℕ) (a b : Done) → get_elem? w.past k ≡ some a → get_elem? w.past l ≡ some b → is_event a ≡ true → is_event b ≡ true → a.own ≡ b.own → a.clock ≡ b.clock → k ≡ l
  pub kinds : AllKinds w.nodes w.past
  pub heard-before : (i k : ℕ) → heard_at w.past i k ≡ true → k < length w.past

-- an entry's message: heard while its sender's clock is at most the δ of its own clock past it
pub record SentEntry (g : Schedule) (past : List Done) (nodes : List Node) (entry : List ℕ) (k : ℕ) : Type 0 where
  pub message : Done
  pub at : get_elem? past k ≡ some message
  pub sent : sends message ≡ true
  pub bytes : entry ≡ message_bytes message
  pub near_by : clock_at (get_elem? nodes message.node) ≤ message.clock + (limits_at g message.clock).delta

-- what one entry may be, in a call for v
abbrev pub EntryOk : Schedule → ℕ → List Done → List Node → ℕ → List ℕ → Source → Type 0
EntryOk g floor past nodes v entry (sent_by k) = SentEntry g past nodes entry k
EntryOk g floor past nodes v entry stale = v + (limits_at g v).epsilon ≤ floor

-- a node's call for v, with the schedule l of its setup, and the node as the call finds it: accepted, and 1 to ε after the node's clock by the limits of
-- v, where its setup says what holds in the yard
pub record Called (g l : Schedule) (node found : Node) (call : Call) (v : ℕ) : Type 0 where
  pub accepted : is_accepted (output_of node call) ≡ true
  pub along-is : schedule_of call ≡ l
  pub found-is : lengthened call.spare node ≡ found
  pub own_is : node.listens ≡ false → call.own ≡ node.own
  pub clock-is : call.clock ≡ v % modulus_of l
  pub turn : v ≡ node.clock + call.step
  pub step-pos : 1 ≤ call.step
  pub step-few : call.step ≤ (limits_at g v).epsilon
  pub agrees : Agrees g v l

-- with one plain setup s, which has no wider pair, and a shelf as long as it was left
pub record Due-call (s : Setup) (node : Node) (call : Call) (v : ℕ) : Type 0 where
  pub accepted : is_accepted (output_of node call) ≡ true
  pub wider-is : call.wider ≡ none
  pub spare-is : call.spare ≡ []
  pub setup-is : call.setup ≡ s
  pub own_is : node.listens ≡ false → call.own ≡ node.own
  pub clock-is : call.clock ≡ v % s.modulus
  pub turn : v ≡ node.clock + call.step
  pub step-pos : 1 ≤ call.step
  pub step-few : call.step ≤ s.epsilon

-- a station's
pub record Ticks (s : Setup) (node : Node) (call : Call) (v : ℕ) : Type 0 where
  pub due : Due-call s node call v
  pub station : node.listens ≡ false

-- a call with the schedule l takes the frames that the call before left for as wide as they are
abbrev pub AsWide : Schedule → Schedule → ℕ → World → ℕ → Node → Type 0
AsWide g l floor w i node =
    (memory : Memory g node) → AllExplained g floor w.past (heard_at w.past i) node.clock memory.queue → (f : Frame)
    → Memᴰ f memory.queue → frame_half l f ≡ frame_half g f

-- an accepted call of a node that keeps the premises
pub record Legal (g l : Schedule) (floor : ℕ) (w : World) (call : Call) (node found : Node) (v : ℕ) : Type 0 where
  pub at : get_elem? w.nodes call.node ≡ some node
  pub called : Called g l node found call v
  -- its first one, or one that opens what the call before left
  pub widths : Untouched g floor w call.node node ⊎ AsWide g l floor w call.node node
  pub together :
      (i j : ℕ) (a b : Node) → get_elem? (act w call).nodes i ≡ some a → get_elem? (act w call).nodes j ≡ some b
      → a.clock ≤ b.clock + (limits_at g b.clock).epsilon
  pub lengths : length (batch_entries call.batch) ≡ length call.sources
  pub entry : (e : ℕ) (bytes : List ℕ) (o : Source) → get_elem? (batch_entries call.batch) e ≡ some bytes → get_elem? call.sources e ≡ some o → EntryOk g floor w.past (act w call).nodes v bytes o

-- the nodes after a call of one of them
abbrev pub nodes_after : List Node → Call → Node → List Node
nodes_after nodes call node = set nodes call.node (node_after node call.step (output_of node call))

pub act-is :
    (w : World) (call : Call) (node : Node) → get_elem? w.nodes call.node ≡ some node
    → act w call ≡ record { nodes = nodes_after w.nodes call node; past = w.past ++ (done_of node call ∷ []) }
unfolding act
act-is w call node at = ap (λ (o : Option Node). act_on o w call) at

-- the one that made it, and the others
pub after-at : (nodes : List Node) (call : Call) (node : Node) → get_elem? nodes call.node ≡ some node → get_elem? (nodes_after nodes call node) call.node ≡ some (node_after node call.step (output_of node call))
after-at nodes call node at = get_elem?-set-same nodes call.node (node_after node call.step (output_of node call)) (get_elem?-lt nodes call.node at)

pub after-other : (nodes : List Node) (call : Call) (node : Node) (j : ℕ) → (call.node ≡ j → ⊥) → get_elem? (nodes_after nodes call node) j ≡ get_elem? nodes j
after-other nodes call node j ne = get_elem?-set-other nodes call.node j (node_after node call.step (output_of node call)) ne

-- their clocks keep the drift limit
pub after-together :
    (g l : Schedule) (floor : ℕ) (w : World) (call : Call) (node found : Node) (v : ℕ) → Legal g l floor w call node found v
    → (i j : ℕ) (a b : Node) → get_elem? (nodes_after w.nodes call node) i ≡ some a → get_elem? (nodes_after w.nodes call node) j ≡ some b
    → a.clock ≤ b.clock + (limits_at g b.clock).epsilon
after-together g l floor w call node found v legal i j a b p q =
    let e = ap (λ (u : World). u.nodes) (act-is w call node legal.at) in
    legal.together i j a b (ap (λ (x : List Node). get_elem? x i) e ∙ p) (ap (λ (x : List Node). get_elem? x j) e ∙ q)

-- only an accepted call sends, and only a station's
pub sends-event : (m : Done) → sends m ≡ true → is_event m ≡ true
unfolding sends
sends-event m e = and_left (is_event m) m.call.send e

pub event-accepted : (m : Done) → is_event m ≡ true → is_accepted m.output ≡ true
unfolding is_event
event-accepted m e = and_left (is_accepted m.output) (not m.listens) e

pub event-kind : (m : Done) → is_event m ≡ true → m.listens ≡ false
unfolding is_event
event-kind m e = false_of_not m.listens (and_right (is_accepted m.output) (not m.listens) e)

pub event-of : (m : Done) → is_accepted m.output ≡ true → m.listens ≡ false → is_event m ≡ true
unfolding is_event
event-of m acc station = and_intro acc (not_of_false station)

-- what is promised of one accepted call, given the calls before it
pub record Kept (g : Schedule) (from : ℕ) (past : List Done) (d : Done) : Type 0 where
  pub event : is_event d ≡ true → CallEvent g d
  pub hearing :
      (e k : ℕ) (m : Done) → get_elem? d.call.sources e ≡ some (sent_by k) → get_elem? past k ≡ some m → covered from m ≡ true
      → get_or d.output.verdicts e 0 ≡ cond (heard_at past d.node k || any (is_from k) (take e d.call.sources)) 16 0
  pub delivering :
      select (covered_along g from d.clock) (wider_held_bytes g d.output.delivery)
      ≡ map message_bytes (sort_by (earlier_along g) (due_here_along g from (past ++ (d ∷ [])) d.node d.last d.clock))
  pub later :
      is_event d ≡ true → (k : ℕ) (a : Done) → get_elem? past k ≡ some a → is_event a ≡ true → a.node ≡ d.node
      → lex_compare (event_key g a) (event_key g d) ≡ Ordering.lt
  pub takes :
      is_event d ≡ true → (e k : ℕ) (m : Done) → get_elem? d.call.sources e ≡ some (sent_by k) → get_elem? past k ≡ some m → get_or d.output.verdicts e 0 ≡ 0
      → lex_compare (event_key g m) (event_key g d) ≡ Ordering.lt
  pub sent-before :
      (e k : ℕ) → get_elem? d.call.sources e ≡ some (sent_by k) → (m : Done) × (get_elem? past k ≡ some m) × (sends m ≡ true)

abbrev pub AllKept : Schedule → ℕ → List Done → Type 0
AllKept g from past =
    (j : ℕ) (d : Done) → get_elem? past j ≡ some d → is_accepted d.output ≡ true → Kept g from (take j past) d
