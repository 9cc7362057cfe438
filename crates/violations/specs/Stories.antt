-- Stories: short lists of calls, told so that they are the same under any definition of the tick. A scene names its node and what it sends and
-- hears, and by how many ticks its clock moves; a message is heard by the bytes that its call sent.
use Rattle.std.specs.Prelude.{ℕ, ◌+◌, ◌-◌, ◌*◌, ◌/◌, ◌%◌, Bool, true, false, cond, List, [], ◌∷◌, ◌++◌, map, length, replicate, get_or}
use Rattle.std.proofs.Math.Option.{Option, none, some}
use Rattle.std.proofs.Math.ListN.{get_elem?}
use Rattle.laws.specs.Lists.{joined, tab}
use Rattle.model.specs.Setup.{Setup}
use Rattle.model.specs.Timestamp.{Timestamp}
use Rattle.model.specs.Frame.{encode}
use Rattle.model.specs.Tick.{Input, holdback_size}
use Rattle.model.specs.Observer.{Listening}
use Rattle.model.specs.Schedule.{Wider}
use Rattle.model.specs.Ledger.{press_payload}
use Rattle.model.specs.Run.{Node, Source, sent_by, stale, Call, Done, World, input_of, listening_of, act, at_start, run_from, message_bytes}
use Rattle.theory.specs.Premises.{clock_at}

-- n 2, ε 1, δ 1 and the least B
abbrev pub group : Setup
group = record { n = 2; epsilon = 1; delta = 1; modulus = 8 }

-- the same with ε 2
abbrev pub wide_group : Setup
wide_group = record { n = 2; epsilon = 2; delta = 1; modulus = 14 }

-- an entry of a batch: the message of the call at a position, or an older frame
pub data StoryEntry : Type 0 where
  message : ℕ → StoryEntry
  stale_frame : List ℕ → StoryEntry

-- one call of a story
pub record Scene : Type 0 where
  pub node : ℕ
  pub step : ℕ
  pub send : Bool
  pub payload : List ℕ
  pub hears : List StoryEntry

abbrev pub sent_bytes_of : Option Done → List ℕ
sent_bytes_of none = []
sent_bytes_of (some d) = message_bytes d

abbrev pub entry_bytes : List Done → StoryEntry → List ℕ
entry_bytes past (message k) = sent_bytes_of (get_elem? past k)
entry_bytes past (stale_frame bytes) = bytes

abbrev pub entry_source : StoryEntry → Source
entry_source (message k) = sent_by k
entry_source (stale_frame bytes) = stale

abbrev pub batch_with : List (List ℕ) → List ℕ
batch_with entries = length entries ∷ joined (λ bytes. length bytes ∷ bytes) entries

-- a call for a clock, to which the node's moves by a step, with one pair of limits or with both, spare bytes, and buffers of some setup's sizes
abbrev pub calling_in : Setup → Option Wider → List ℕ → Setup → ℕ → ℕ → ℕ → Bool → List ℕ → List (List ℕ) → List Source → Call
calling_in s wider spare sizes node step clock send payload entries sources =
    record {
      node = node;
      setup = s;
      wider = wider;
      spare = spare;
      own = node;
      clock = clock % s.modulus;
      step = step;
      batch = batch_with entries;
      sources = sources;
      send = send;
      payload = payload;
      outgoing = replicate 71 3;
      verdicts = replicate 255 3;
      delivery = replicate (holdback_size sizes) 3;
    }

-- a plain one
abbrev pub calling : Setup → ℕ → ℕ → ℕ → Bool → List ℕ → List (List ℕ) → List Source → Call
calling s node step clock send payload entries sources = calling_in s none [] s node step clock send payload entries sources

-- the call that a scene makes
abbrev pub call_with : Setup → World → Scene → Call
call_with s w scene =
    calling s scene.node scene.step (clock_at (get_elem? w.nodes scene.node) + scene.step) scene.send scene.payload
    (map (entry_bytes w.past) scene.hears) (map entry_source scene.hears)

-- the calls of a story
unfoldable pub calls_from : Setup → World → List Scene → List Call
calls_from s w [] = []
calls_from s w (scene ∷ scenes) = call_with s w scene ∷ calls_from s (act w (call_with s w scene)) scenes

-- a call of which nothing is sent and heard, with a step
abbrev pub nudged : ℕ → ℕ → Scene
nudged step node = record { node = node; step = step; send = false; payload = []; hears = [] }

-- with a step of one
abbrev pub quiet : ℕ → Scene
quiet node = nudged 1 node

abbrev pub hearing : ℕ → List StoryEntry → Scene
hearing node entries = record { node = node; step = 1; send = false; payload = []; hears = entries }

-- a call that sends one byte and hears these
abbrev pub sending : ℕ → ℕ → List StoryEntry → Scene
sending node byte entries = record { node = node; step = 1; send = true; payload = byte ∷ []; hears = entries }

-- a frame's bytes
abbrev pub bytes_of : ℕ → ℕ → ℕ → List ℕ → List ℕ → List ℕ
bytes_of station r c kn payload =
    encode (record { station = station; stamp = record { r = r; c = c; kn = kn }; payload = payload })

-- fresh tables, with nonsense past the 2ε counts
abbrev pub fresh_tables : ℕ → Timestamp
fresh_tables clock = record { r = clock; c = 0; kn = 0 ∷ 1 ∷ replicate 30 255 }

abbrev pub wide_tables : ℕ → Timestamp
wide_tables clock = record { r = clock; c = 0; kn = 0 ∷ 0 ∷ 1 ∷ 0 ∷ replicate 28 255 }

-- a node with such tables at its clock, with nonsense behind the count of the shelf
abbrev pub node_with : Setup → (ℕ → Timestamp) → ℕ → ℕ → Node
node_with s tables own clock =
    record {
      listens = false;
      own = own;
      clock = clock;
      tables = tables clock;
      holdback = 0 ∷ 0 ∷ replicate (holdback_size s - 2) 170;
    }

abbrev pub fresh_node : ℕ → ℕ → Node
fresh_node own clock = node_with group fresh_tables own clock

-- every story but two starts from these: X is 6, older frames may be heard up to 8, messages are covered from 10 on
abbrev pub fresh_nodes : List Node
fresh_nodes = fresh_node 0 5 ∷ fresh_node 1 6 ∷ []

abbrev pub calls_of : List Scene → List Call
calls_of scenes = calls_from group (at_start fresh_nodes) scenes

abbrev pub past_of : List Scene → List Done
past_of scenes = (run_from (at_start fresh_nodes) (calls_of scenes)).past

-- both nodes come to clock 9
abbrev pub quiet_until9 : List Scene
quiet_until9 = quiet 0 ∷ quiet 0 ∷ quiet 1 ∷ quiet 1 ∷ quiet 0 ∷ quiet 0 ∷ quiet 1 ∷ []

-- The story that most of them break. Node 1 sends at 10, and node 0 at 10 because of it; both hear both, some again, and deliver them at 12,
-- the cause first. Then node 1 hears a message of node 0 as late as it can be heard, in the call for its due clock
abbrev pub cause_and_effect : List Scene
cause_and_effect =
    quiet_until9
    ++ (sending 1 66 [] ∷ sending 0 65 (message 7 ∷ []) ∷ hearing 0 (message 7 ∷ message 8 ∷ [])
    ∷ hearing 1 (message 8 ∷ message 7 ∷ message 8 ∷ [])
    ∷ sending 0 67 [] ∷ quiet 1 ∷ quiet 0 ∷ quiet 1 ∷ hearing 1 (message 11 ∷ []) ∷ [])

-- a message of node 1 at 10 is heard at 13, its sender being 2 past it
abbrev pub heard_too_late : List Scene
heard_too_late =
    quiet_until9
    ++ (sending 1 66 [] ∷ quiet 0 ∷ quiet 1 ∷ quiet 0 ∷ quiet 1 ∷ quiet 0 ∷ hearing 0 (message 7 ∷ []) ∷ [])

-- node 1 sends at 11, two clocks ahead of node 0, which hears it at 10
abbrev pub drifted_apart : List Scene
drifted_apart = quiet_until9 ++ (quiet 1 ∷ sending 1 66 [] ∷ hearing 0 (message 8 ∷ []) ∷ [])

-- an older frame that claims two events at 9 and one at 10 is heard at 10 by node 0, whose message then counts two events at 10, before
-- node 1 has come there
abbrev pub haunted_at10 : List Scene
haunted_at10 =
    quiet_until9 ++ (sending 0 65 (stale_frame (bytes_of 1 2 0 (2 ∷ 1 ∷ []) (9 ∷ [])) ∷ []) ∷ hearing 1 (message 7 ∷ []) ∷ [])

-- the same at 8, the last clock at which older frames may be heard, by node 1
abbrev pub haunted_at8 : List Scene
haunted_at8 =
    quiet 0 ∷ quiet 1 ∷ quiet 0 ∷ sending 1 65 (stale_frame (bytes_of 0 0 0 (2 ∷ 1 ∷ []) (9 ∷ [])) ∷ []) ∷ hearing 0 (message 3 ∷ []) ∷ []

-- an older frame of node 1, heard at 6
abbrev pub stale_heard : List Scene
stale_heard = hearing 0 (stale_frame (bytes_of 1 6 0 (0 ∷ 1 ∷ []) (9 ∷ [])) ∷ []) ∷ []

-- node 0 starts with a frame on its shelf that it delivers at 6
abbrev pub held_frame : List ℕ
held_frame = bytes_of 1 4 0 (0 ∷ 1 ∷ []) (9 ∷ [])

abbrev pub holding_nodes : List Node
holding_nodes =
    record {
      listens = false;
      own = 0;
      clock = 5;
      tables = record { r = 5; c = 0; kn = 0 ∷ 1 ∷ replicate 30 0 };
      holdback = 1 ∷ 0 ∷ (held_frame ++ replicate (holdback_size group - (2 + length held_frame)) 0);
    }
    ∷ fresh_node 1 6 ∷ []

abbrev pub holding_calls : List Call
holding_calls = calls_from group (at_start holding_nodes) (quiet 0 ∷ [])

-- with ε 2, nodes at the same clocks: older frames may be heard up to 9, messages are covered from 13 on
abbrev pub wide_nodes : List Node
wide_nodes = node_with wide_group wide_tables 0 5 ∷ node_with wide_group wide_tables 1 6 ∷ []

-- node 1 sends at 14, and node 0 at 14 because of it, and again at 15. What is due at 17 node 0 delivers there, node 1, which goes from 16 to 18, at 18,
-- and then what is due at 18. Most steps are of 2
abbrev pub stepped_past : List Scene
stepped_past =
    nudged 2 0 ∷ nudged 2 1 ∷ nudged 2 0 ∷ nudged 2 1 ∷ nudged 2 0 ∷ nudged 2 1 ∷ nudged 2 0
    ∷ record { node = 1; step = 2; send = true; payload = 66 ∷ []; hears = [] }
    ∷ sending 0 65 (message 7 ∷ []) ∷ sending 0 67 (message 7 ∷ message 8 ∷ [])
    ∷ hearing 1 (message 8 ∷ message 7 ∷ message 8 ∷ []) ∷ hearing 1 (message 9 ∷ [])
    ∷ nudged 2 0 ∷ nudged 2 1 ∷ []

abbrev pub wide_calls : List Call
wide_calls = calls_from wide_group (at_start wide_nodes) stepped_past

abbrev pub wide_past : List Done
wide_past = (run_from (at_start wide_nodes) wide_calls).past

-- a step of ε + 1, and one of 0
abbrev pub stepped_too_far : List Scene
stepped_too_far = nudged 2 0 ∷ []

abbrev pub not_stepped : List Scene
not_stepped = nudged 0 0 ∷ []

-- 02, 2.6: an observer with its last clock right, and nonsense for counts
abbrev pub observer_with : Setup → ℕ → List ℕ → Node
observer_with s clock frames =
    record {
      listens = true;
      own = 0;
      clock = clock;
      tables = record { r = clock; c = 9; kn = replicate 32 77 };
      holdback = frames ++ replicate (holdback_size s - length frames) 170;
    }

-- two stations and an observer behind them, node 2: X is 6 again
abbrev pub watched_nodes : List Node
watched_nodes = fresh_node 0 6 ∷ fresh_node 1 6 ∷ observer_with group 5 (0 ∷ 0 ∷ []) ∷ []

abbrev pub watched_calls : List Scene → List Call
watched_calls scenes = calls_from group (at_start watched_nodes) scenes

abbrev pub watched_past : List Scene → List Done
watched_past scenes = (run_from (at_start watched_nodes) (watched_calls scenes)).past

-- all three come to clock 9
abbrev pub watched_until9 : List Scene
watched_until9 = quiet 2 ∷ quiet 0 ∷ quiet 1 ∷ quiet 2 ∷ quiet 0 ∷ quiet 1 ∷ quiet 2 ∷ quiet 0 ∷ quiet 1 ∷ quiet 2 ∷ []

-- node 0 sends at 10, and node 1 at 10 because of it, with two events at 10: the observer hears that in its call for 10, and delivers both at 12
abbrev pub all_ahead : List Scene
all_ahead =
    watched_until9
    ++ (sending 0 65 [] ∷ sending 1 66 (message 10 ∷ []) ∷ hearing 2 (message 11 ∷ message 10 ∷ message 11 ∷ [])
    ∷ hearing 0 (message 11 ∷ []) ∷ quiet 1 ∷ quiet 2 ∷ quiet 0 ∷ quiet 1 ∷ quiet 2 ∷ [])

-- node 0 sends at 11, two clocks ahead of the observer, which hears it at 10
abbrev pub left_behind : List Scene
left_behind = watched_until9 ++ (quiet 0 ∷ quiet 1 ∷ sending 0 66 [] ∷ hearing 2 (message 12 ∷ []) ∷ [])

-- at 10 the observer hears an older frame of node 0 for clock 10, and then the message of that clock
abbrev pub forestalled : List Scene
forestalled =
    watched_until9
    ++ (hearing 2 (stale_frame (bytes_of 0 2 0 (0 ∷ 1 ∷ []) (9 ∷ [])) ∷ []) ∷ sending 0 65 [] ∷ quiet 1 ∷ hearing 2 (message 11 ∷ []) ∷ [])

-- the observer starts with a frame on its shelf
abbrev pub holding_watched : List Node
holding_watched = fresh_node 0 6 ∷ fresh_node 1 6 ∷ observer_with group 5 (1 ∷ 0 ∷ held_frame) ∷ []

-- with ε 2: T is 13. Node 0 sends at 14; that is due at 17, and the observer goes from 16 to 18
abbrev pub wide_watched : List Node
wide_watched = node_with wide_group wide_tables 0 6 ∷ node_with wide_group wide_tables 1 6 ∷ observer_with wide_group 5 (0 ∷ 0 ∷ []) ∷ []

abbrev pub watched_steps : List Call
watched_steps =
    calls_from wide_group (at_start wide_watched)
    (nudged 2 2 ∷ nudged 2 0 ∷ nudged 2 1 ∷ nudged 2 2 ∷ nudged 2 0 ∷ nudged 2 1 ∷ nudged 2 2 ∷ nudged 2 0 ∷ nudged 2 1 ∷ nudged 2 2
    ∷ record { node = 0; step = 2; send = true; payload = 66 ∷ []; hears = [] } ∷ nudged 2 1 ∷ hearing 2 (message 10 ∷ [])
    ∷ nudged 2 0 ∷ nudged 2 1 ∷ nudged 2 2 ∷ nudged 2 2 ∷ [])

abbrev pub watched_stepped : List Done
watched_stepped = (run_from (at_start wide_watched) watched_steps).past

-- 02, 2.11: damage in every memory. Node 0 has tables of nonsense, node 1 tables that were never written by a tick but look sound, the observer, node 2, a
-- last clock of B or more, and all have shelves of nonsense. X is 6 again
abbrev pub damaged_watched : List Node
damaged_watched =
    damaged false 0 6 (record { r = 6; c = 9; kn = replicate 32 77 }) ∷ damaged false 1 6 (record { r = 6; c = 0; kn = 1 ∷ 1 ∷ replicate 30 255 })
    ∷ damaged true 0 5 (record { r = 77; c = 9; kn = replicate 32 77 }) ∷ []
  where
    damaged : Bool → ℕ → ℕ → Timestamp → Node
    damaged listens own clock tables =
        record { listens = listens; own = own; clock = clock; tables = tables; holdback = replicate (holdback_size group) 170 }

-- a press ticket
abbrev pub press : ℕ → ℕ → ℕ → List ℕ
press bale pounds grower = press_payload (record { bale = bale; pounds = pounds; grower = grower })

-- a call that sends a ticket and hears these
abbrev pub ticketing : ℕ → List ℕ → List StoryEntry → Scene
ticketing node payload entries = record { node = node; step = 1; send = true; payload = payload; hears = entries }

-- the observer alone hears an older frame that has bale 7. Then node 1 sends a ticket of bale 7 at 10, node 0 another one of it because of that, and one of
-- bale 8 at 11, and node 1 one of another kind. All three hear all four, in other orders, and hand the first two out at 12, the others at 13, the observer last
abbrev pub ticketed : List Scene
ticketed =
    (hearing 2 (stale_frame (bytes_of 1 6 0 (0 ∷ 1 ∷ []) (press 7 1 5)) ∷ []) ∷ quiet 0 ∷ quiet 1 ∷ quiet 2 ∷ quiet 0 ∷ quiet 1 ∷ quiet 2 ∷ quiet 0
    ∷ quiet 1 ∷ quiet 2 ∷ [])
    ++ (ticketing 1 (press 7 487 3) [] ∷ ticketing 0 (press 7 488 4) (message 10 ∷ []) ∷ hearing 2 (message 11 ∷ message 10 ∷ message 11 ∷ [])
    ∷ ticketing 0 (press 8 1 4) (message 11 ∷ []) ∷ ticketing 1 (65 ∷ []) (message 13 ∷ message 11 ∷ message 10 ∷ [])
    ∷ hearing 2 (message 14 ∷ message 13 ∷ []) ∷ hearing 0 (message 13 ∷ message 14 ∷ []) ∷ hearing 1 (message 14 ∷ []) ∷ quiet 2 ∷ quiet 0 ∷ quiet 1
    ∷ quiet 2 ∷ [])

abbrev pub ticket_calls : List Scene → List Call
ticket_calls scenes = calls_from group (at_start damaged_watched) scenes

abbrev pub ticket_world : List Scene → World
ticket_world scenes = run_from (at_start damaged_watched) (ticket_calls scenes)

-- the observers' calls of a list
abbrev pub listening_to : Option Node → Call → List Listening
listening_to none call = []
listening_to (some node) call = cond node.listens (listening_of node call ∷ []) []

unfoldable pub listenings_from : World → List Call → List Listening
listenings_from w [] = []
listenings_from w (call ∷ calls) = listening_to (get_elem? w.nodes call.node) call ++ listenings_from (act w call) calls

-- a call for clock 7 of an observer whose shelf has a frame twice
abbrev pub unsound_holdback : Listening
unsound_holdback = listening_of (observer_with group 6 (2 ∷ 0 ∷ (held_twice ++ held_twice))) (calling group 0 1 7 false [] [] [])
  where
    held_twice : List ℕ
    held_twice = bytes_of 1 6 0 (0 ∷ 1 ∷ []) (9 ∷ [])

-- the inputs of the stations' calls of a list
abbrev pub input_to : Option Node → Call → List Input
input_to none call = []
input_to (some node) call = cond node.listens [] (input_of node call ∷ [])

unfoldable pub inputs_from : World → List Call → List Input
inputs_from w [] = []
inputs_from w (call ∷ calls) = input_to (get_elem? w.nodes call.node) call ++ inputs_from (act w call) calls

-- those of a story
abbrev pub inputs_of : List Scene → List Input
inputs_of scenes = inputs_from (at_start fresh_nodes) (calls_of scenes)

-- a quiet call for clock 7 of a node with these tables and this shelf
abbrev pub damaged_input : Timestamp → List ℕ → Input
damaged_input tables holdback =
    input_of (record { listens = false; own = 0; clock = 6; tables = tables; holdback = holdback }) (calling group 0 1 7 false [] [] [])

-- tables of nonsense
abbrev pub unsound_tables : Input
unsound_tables = damaged_input (record { r = 6; c = 9; kn = replicate 32 77 }) (replicate (holdback_size group) 0)

-- a shelf with a frame twice
abbrev pub unsound_queue : Input
unsound_queue =
    damaged_input (record { r = 6; c = 0; kn = 0 ∷ 1 ∷ replicate 30 0 })
    (2 ∷ 0 ∷ (twice ++ (twice ++ replicate (holdback_size group - (2 + (length twice + length twice))) 0)))
  where
    twice : List ℕ
    twice = bytes_of 1 6 0 (0 ∷ 1 ∷ []) (9 ∷ [])

-- 02, 2.7: a call for clock 7 that hears a frame of each of n stations at 5, 6 and 7
abbrev pub packing : ℕ → List (List ℕ)
packing n = tab (3 * n) (λ k. bytes_of (k / 3) (5 + k % 3) 0 (0 ∷ 1 ∷ []) [])

abbrev pub packed_call : Setup → Call
packed_call s = calling s 0 1 7 false [] (packing s.n) (map (λ bytes. stale) (packing s.n))

-- of a node: its shelf, which is for eight, then has all six that it can have
abbrev pub packed : Input
packed = input_of (fresh_node 0 6) (packed_call group)

-- a group of one
abbrev pub alone_group : ℕ → Setup
alone_group epsilon = record { n = 1; epsilon = epsilon; delta = 1; modulus = 6 * epsilon + 2 }

-- of an observer there: its shelf, which is for four, then has all three that it can have
abbrev pub packed_alone : Listening
packed_alone = listening_of (observer_with (alone_group 1) 6 (0 ∷ 0 ∷ [])) (packed_call (alone_group 1))

-- a call for clock 7, after 5, of an observer there with ε 2: its shelf has all seven frames that it is for, and the first two are due at 6
abbrev pub packed_overdue : Listening
packed_overdue = listening_of (observer_with (alone_group 2) 5 (7 ∷ 0 ∷ frames)) (calling (alone_group 2) 0 2 7 false [] [] [])
  where
    frames : List ℕ
    frames = bytes_of 0 2 1 (0 ∷ 0 ∷ 0 ∷ 1 ∷ []) [] ++ joined (λ r. bytes_of 0 r 0 (0 ∷ 0 ∷ 1 ∷ 0 ∷ []) []) (3 ∷ 4 ∷ 5 ∷ 6 ∷ 7 ∷ 8 ∷ [])

-- the input of one call of the story that most of them break
abbrev pub input_at : ℕ → Input
input_at k = get_or (inputs_of cause_and_effect) k unsound_tables
