-- 01, "Premises of demands 2 and 3" and "Demand 3 in full": stations, lists of calls, and what a call does to the stations.
use Rattle.std.specs.Prelude.{ℕ, ◌+◌, Bool, ◌&&◌, not, cond, List, [], ◌∷◌, ◌++◌, eqb, take, set}
use Rattle.std.proofs.Math.Option.{Option, none, some}
use Rattle.std.proofs.Math.ListN.{get_elem?}
use Rattle.model.specs.Setup.{Setup}
use Rattle.model.specs.Timestamp.{Timestamp}
use Rattle.model.specs.Frame.{Frame}
use Rattle.model.specs.Tick.{Input, Output, tick}
use Rattle.model.specs.Observer.{Listening, Listened, listen}
use Rattle.model.specs.Schedule.{Schedule, steady, Wider, along}
use Rattle.model.specs.Wider.{wider_decode, tick_in}
use Rattle.model.specs.WiderCalls.{listen_in}

-- 01: a station: its own number, its true clock, the tables and the shelf that its call before left. 02, 2.6: or a board that only
-- listens, an observer, which has no own number, and of the tables r alone, its last clock
pub record Node : Type 0 where
  -- 02, 2.6: it is an observer
  pub listens : Bool
  -- 01: the own number
  pub own : ℕ
  -- 01: the true clock
  pub clock : ℕ
  pub tables : Timestamp
  -- 01: the shelf
  pub holdback : List ℕ

-- 01: "Each bundle entry of an accepted call comes from one earlier call, or is an older frame of any bytes" (here: stale).
-- An earlier call is named by its position in the list
pub data Source : Type 0 where
  sent_by : ℕ → Source
  stale : Source

-- one call in the list: which node's it is (its position), its arguments but for the tables and the shelf, and where its entries come from.
-- An observer's call has no use for the own number, for what is to be sent and for the outgoing buffer
pub record Call : Type 0 where
  pub node : ℕ
  pub setup : Setup
  -- 02, 2.10: the wider pair, where the setup carries both
  pub wider : Option Wider
  -- 02, 2.10: the bytes by which the shelf is longer than the call before left it, where it gets its new size: any bytes
  pub spare : List ℕ
  -- 01: the own number
  pub own : ℕ
  -- 01: the clock modulo B
  pub clock : ℕ
  -- 02, 2.2: by how many ticks the true clock moves in this call
  pub step : ℕ
  -- 01: the bundle, and where each of its entries comes from
  pub batch : List ℕ
  pub sources : List Source
  -- 01: whether a ticket is to be sent, and the ticket
  pub send : Bool
  pub payload : List ℕ
  -- 01: the outgoing, the verdict and the hand-out buffer
  pub outgoing : List ℕ
  pub verdicts : List ℕ
  pub delivery : List ℕ

-- 02, 2.10: "shelves and buffers have the new sizes from a station's first call with both pairs": a node as such a call finds it
unfoldable pub lengthened : List ℕ → Node → Node
lengthened spare node =
    record {
      listens = node.listens;
      own = node.own;
      clock = node.clock;
      tables = node.tables;
      holdback = node.holdback ++ spare;
    }

-- 01: "given its station's tables and shelf"
unfoldable pub input_of : Node → Call → Input
input_of node call =
    record {
      setup = call.setup;
      own = call.own;
      clock = call.clock;
      tables = node.tables;
      holdback = node.holdback;
      batch = call.batch;
      send = call.send;
      payload = call.payload;
      outgoing = call.outgoing;
      verdicts = call.verdicts;
      delivery = call.delivery;
    }

-- 02, 2.6: the arguments of an observer's call
unfoldable pub listening_of : Node → Call → Listening
listening_of node call =
    record {
      setup = call.setup;
      clock = call.clock;
      last = node.tables.r;
      holdback = node.holdback;
      batch = call.batch;
      verdicts = call.verdicts;
      delivery = call.delivery;
    }

-- what came of an observer's call, in the form of a tick's output: it sends nothing
unfoldable pub listened_output : Node → Call → Listened → Output
listened_output node call o =
    record {
      answer =
          record {
            number = o.number;
            tables = record { r = o.last; c = node.tables.c; kn = node.tables.kn };
            repair = o.repair;
            taken = o.taken;
            delivered = o.delivered;
            sent = 0;
          };
      holdback = o.holdback;
      outgoing = call.outgoing;
      verdicts = o.verdicts;
      delivery = o.delivery;
    }

-- 01: a call is accepted if its answer's number is 0
unfoldable pub is_accepted : Output → Bool
is_accepted o = eqb o.answer.number 0

-- a call that has been made: by which node (its position, whether it is an observer, and its own number), the node's true clock before it
-- and after it (which a refused call does not move), the call, and what came of it
pub record Done : Type 0 where
  pub node : ℕ
  pub listens : Bool
  pub own : ℕ
  pub last : ℕ
  pub clock : ℕ
  pub call : Call
  pub output : Output

-- all stations, and the calls made so far, in their order: an earlier call is named by its position
pub record World : Type 0 where
  pub nodes : List Node
  pub past : List Done

-- 01: "a clock moves to v in its call for v, not before", by the call's step; a refused call "moves no clock"
unfoldable pub moved_clock : Output → ℕ → ℕ → ℕ
moved_clock o step clock = cond (is_accepted o) (clock + step) clock

-- a node after its call; a refused call "leaves both" tables and shelf, the shelf as the call before left it
unfoldable pub node_after : Node → ℕ → Output → Node
node_after node step o =
    record {
      listens = node.listens;
      own = node.own;
      clock = moved_clock o step node.clock;
      tables = o.answer.tables;
      holdback = cond (is_accepted o) o.holdback node.holdback;
    }

-- what comes of a call to a node, with one pair of limits or with both
abbrev pub output_by : Option Wider → Node → Call → Output
output_by none node call = cond node.listens (listened_output node call (listen (listening_of node call))) (tick (input_of node call))
output_by (some w) node call =
    cond node.listens (listened_output node call (listen_in w (listening_of node call))) (tick_in w (input_of node call))

unfoldable pub output_of : Node → Call → Output
output_of node call = output_by call.wider (lengthened call.spare node) call

-- the limits of a call, as readings near its clock
abbrev pub schedule_by : Option Wider → Setup → ℕ → Schedule
schedule_by none s v = steady s
schedule_by (some w) s v = along s w v

unfoldable pub schedule_of : Call → Schedule
schedule_of call = schedule_by call.wider call.setup call.clock

-- the record of a call to a node
unfoldable pub done_of : Node → Call → Done
done_of node call =
    record {
      node = call.node;
      listens = node.listens;
      own = node.own;
      last = node.clock;
      clock = moved_clock (output_of node call) call.step node.clock;
      call = call;
      output = output_of node call;
    }

-- the same, given the node that the call names: that node changes, no other
abbrev pub act_on : Option Node → World → Call → World
act_on none w call = w
act_on (some node) w call =
    record {
      nodes = set w.nodes call.node (node_after node call.step (output_of node call));
      past = w.past ++ (done_of node call ∷ []);
    }

-- what a call does to the stations and to the calls made; a call to no node does nothing
unfoldable pub act : World → Call → World
act w call = act_on (get_elem? w.nodes call.node) w call

-- the stations before any call
unfoldable pub at_start : List Node → World
at_start nodes = record { nodes = nodes; past = [] }

-- what a whole list of calls makes of the stations
unfoldable pub run_from : World → List Call → World
run_from w [] = w
run_from w (call ∷ calls) = run_from (act w call) calls

-- 01: "every tick is exactly one event": an accepted call of a station. 02, 2.6: an observer's is none
unfoldable pub is_event : Done → Bool
is_event d = is_accepted d.output && not d.listens

-- 01: "A message is the outgoing frame of an accepted call with a ticket to send"; an observer "sends nothing"
unfoldable pub sends : Done → Bool
sends d = is_event d && d.call.send

-- the bytes of that frame
unfoldable pub message_bytes : Done → List ℕ
message_bytes d = take d.output.answer.sent d.output.outgoing

-- what that frame holds; 02, 2.10: "the width is part of a frame's contents"
unfoldable pub message_frame : Done → Frame
message_frame d = wider_decode (schedule_of d.call) (message_bytes d)
