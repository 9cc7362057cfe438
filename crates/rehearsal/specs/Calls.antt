-- 02, 2.8: "The run must equal the same calls made one by one." The calls that a trace stands for, and what is shown of them.
use Rattle.std.specs.Prelude.{ℕ, zero, suc, ◌-◌, ◌≡◌, Bool, true, false, cond, List, [], ◌∷◌, ◌++◌, map, eqb, length, take, drop, get_or, replicate}
use Rattle.std.proofs.Math.Option.{none, some}
use Rattle.std.proofs.Math.ListN.{get_elem?}
use Rattle.laws.specs.Lists.{tab, every, joined}
use Rattle.model.specs.Setup.{Setup, verdict_length}
use Rattle.model.specs.Timestamp.{clock_step}
use Rattle.model.specs.Question.{ask, first_no}
use Rattle.model.specs.Holdback.{encode_holdback}
use Rattle.model.specs.Tick.{Answer, holdback_size}
use Rattle.model.specs.Run.{Node, sent_by, Call, Done, World, is_accepted, message_bytes, act, at_start, run_from}
use Rattle.trace.specs.Text.{tick_lines}
use Rattle.trace.specs.Trace.{largest_holdback, trace_setup, setup_number, count_length, tick_count, end_number, one_before, clock_of, send_of, payload_of, tick_number}
use Rattle.trace.specs.Replay.{stopped, fresh_before}
use Rattle.rehearsal.specs.Step.{group_setup_length, steps_number, station_of, tick_part, heard_numbers, step_number, batch_with, heard_frames, tick_with, step_end}
use Rattle.rehearsal.specs.Group.{Player, Group, new_group, labelled, Stepped, stepped}
use Rattle.rehearsal.specs.Closing.{figure_lines}
use Rattle.rehearsal.specs.Rehearsal.{group_setup, rehearsal}

-- the bytes of `k` steps, one after the other
unfoldable pub steps_in : ℕ → List ℕ → List (List ℕ)
steps_in zero bytes = []
steps_in (suc k) bytes = take (step_end bytes) bytes ∷ steps_in k (drop (step_end bytes) bytes)

-- the first step of a station, as a tick of replay's; no bytes if it has none
unfoldable pub first_tick : ℕ → List (List ℕ) → List ℕ
first_tick j [] = []
first_tick j (bytes ∷ rest) = cond (eqb (station_of bytes) j) (tick_part bytes) (first_tick j rest)

-- 02: "Each station starts fresh one before its first clock, shelf empty"
unfoldable pub node_at : Setup → List (List ℕ) → ℕ → Node
node_at s steps j =
    record {
      listens = false;
      own = j;
      clock = one_before s.modulus (clock_of (first_tick j steps));
      tables = fresh_before (record { setup = s; own = j }) (first_tick j steps);
      holdback = encode_holdback (holdback_size s) [];
    }

unfoldable pub group_nodes : Setup → List (List ℕ) → List Node
group_nodes s steps = tab s.n (node_at s steps)

-- the clock of a station's tables; 0 of no station
unfoldable pub last_clock : World → ℕ → ℕ
last_clock w j = get_or (map (λ (node : Node). node.tables.r) w.nodes) j 0

-- the call of a step: its station's, with the frames that the calls it names have sent
unfoldable pub call_for : Setup → World → List ℕ → Call
call_for s w bytes =
    record {
      node = station_of bytes;
      setup = s;
      wider = none;
      spare = [];
      own = station_of bytes;
      clock = clock_of (tick_part bytes);
      step = clock_step s.modulus (last_clock w (station_of bytes)) (clock_of (tick_part bytes));
      batch = batch_with (heard_frames (map message_bytes w.past) bytes);
      sources = map (λ (number : ℕ). sent_by (number - 1)) (heard_numbers bytes);
      send = send_of (tick_part bytes);
      payload = payload_of (tick_part bytes);
      outgoing = replicate 71 0;
      verdicts = replicate verdict_length 0;
      delivery = replicate largest_holdback 0;
    }

-- the calls of the steps, each with what those before it have left
unfoldable pub calls_for : Setup → World → List (List ℕ) → List Call
calls_for s w [] = []
calls_for s w (bytes ∷ rest) = call_for s w bytes ∷ calls_for s (act w (call_for s w bytes)) rest

-- the group before the steps, as the list of calls has it
unfoldable pub group_start : Setup → List (List ℕ) → World
group_start s steps = at_start (group_nodes s steps)

-- "the same calls made one by one"
unfoldable pub made_of : Setup → List (List ℕ) → World
made_of s steps = run_from (group_start s steps) (calls_for s (group_start s steps) steps)

-- the lines of a call that was made, and the verdicts of the frames that it heard
unfoldable pub done_lines : Done → List ℕ
done_lines d =
    let o : Answer = d.output.answer in
    labelled d.call.node
    (tick_lines d.call.clock o.repair o.tables.c o.taken o.sent o.delivered d.call.setup d.output.delivery)

unfoldable pub done_verdicts : Done → List ℕ
done_verdicts d = take (length d.call.sources) d.output.verdicts

-- the number that it was answered with
abbrev pub done_number : Done → ℕ
done_number d = d.output.answer.number

-- a call that is refused has no lines
unfoldable pub call_lines : Done → List ℕ
call_lines d = cond (is_accepted d.output) (done_lines d) []

-- ---- the calls of the steps, made one by one until one is refused

-- the steps that were called, the stations with the calls made, and 0, or the number of the refusal at which it stopped
pub record CallRun : Type 0 where
  pub called : List (List ℕ)
  pub world : World
  pub number : ℕ

-- a no ends it: nothing more is called
abbrev pub unless_refused : ℕ → World → CallRun → CallRun
unless_refused zero w more = more
unless_refused (suc k) w more = record { called = []; world = w; number = suc k }

-- a step that is called, and those behind it
abbrev pub called_first : List ℕ → CallRun → CallRun
called_first bytes more = record { called = bytes ∷ more.called; world = more.world; number = more.number }

-- what the latest call was answered with; 0 where there was none
unfoldable pub latest_number : World → ℕ
latest_number w = get_or (map done_number w.past) (length w.past - 1) 0

-- a step can be refused before its call, with 5: it is no step of this group, or it is none of replay's ticks, by its send byte. Otherwise its
-- call is made, which can be refused too, and those behind it are called only if it was not
unfoldable pub calls_made : Setup → World → List (List ℕ) → CallRun
calls_made s w [] = record { called = []; world = w; number = 0 }
calls_made s w (bytes ∷ rest) =
    let sent : List (List ℕ) = map message_bytes w.past in
    let next : World = act w (call_for s w bytes) in
    unless_refused (step_number s.n sent bytes) w
    (unless_refused (tick_number (tick_with sent bytes)) w
    (called_first bytes (unless_refused (latest_number next) next (calls_made s next rest))))

-- the run of the calls of a trace's steps
unfoldable pub run_of : Setup → List (List ℕ) → CallRun
run_of s steps = calls_made s (group_start s steps) steps

-- ---- the rehearsal, step by step

-- what each of the steps comes to, and the group after them
unfoldable pub stepped_all : Setup → Group → List (List ℕ) → List Stepped
stepped_all s group [] = []
stepped_all s group (bytes ∷ rest) = stepped s group bytes ∷ stepped_all s (stepped s group bytes).group rest

unfoldable pub group_by : Setup → Group → List (List ℕ) → Group
group_by s group [] = group
group_by s group (bytes ∷ rest) = group_by s (stepped s group bytes).group rest

-- the number of the first that is refused; 0 where none is
unfoldable pub refused_with : List Stepped → ℕ
refused_with all = first_no (map (λ (one : Stepped). ask (eqb one.number 0) one.number) all)

-- none of them is refused
unfoldable pub unrefused : Setup → List (List ℕ) → Bool
unrefused s steps = every (λ (one : Stepped). eqb one.number 0) (stepped_all s (new_group s) steps)

-- a station of the group, and the node of the list that it is: what its tables were before its first tick says nothing
pub record SamePlayer (player : Player) (node : Node) : Type 0 where
  pub holdback : player.holdback ≡ node.holdback
  pub tables : (player.ticks ≡ 0 → ⊥) → player.tables ≡ node.tables

-- what the rehearsal of these steps comes to, and the calls made: number for number, line for line, and in what they leave
pub record SameCalls (s : Setup) (steps : List (List ℕ)) (w : World) : Type 0 where
  pub numbers : map (λ (one : Stepped). one.number) (stepped_all s (new_group s) steps) ≡ map done_number w.past
  pub text : joined (λ (one : Stepped). one.text) (stepped_all s (new_group s) steps) ≡ joined call_lines w.past
  pub verdicts : map (λ (one : Stepped). one.verdicts) (stepped_all s (new_group s) steps) ≡ map done_verdicts w.past
  pub sent : (group_by s (new_group s) steps).sent ≡ map message_bytes w.past
  pub stations :
      (j : ℕ) (player : Player) (node : Node) → get_elem? (group_by s (new_group s) steps).stations j ≡ some player
      → get_elem? w.nodes j ≡ some node → SamePlayer player node

-- the rehearsal of these steps, and a run of their calls
pub record SameRun (s : Setup) (steps : List (List ℕ)) (run : CallRun) : Type 0 where
  -- the steps that were called are the first of them, and their calls were made one by one
  pub behind : List (List ℕ)
  pub opening : run.called ++ behind ≡ steps
  pub made : run.world ≡ run_from (group_start s steps) (calls_for s (group_start s steps) run.called)
  pub same : SameCalls s run.called run.world
  -- it stops with the number of the first step that is refused
  pub number : refused_with (stepped_all s (new_group s) steps) ≡ run.number

-- 02: "The run must equal the same calls made one by one", of any steps, refused or not
abbrev pub RunByCalls : Type 0
RunByCalls =
    (s : Setup) (steps : List (List ℕ)) → SameRun s steps (run_of s steps)

-- what stands behind `k` steps
unfoldable pub behind_steps : ℕ → List ℕ → List ℕ
behind_steps zero bytes = bytes
behind_steps (suc k) bytes = behind_steps k (drop (step_end bytes) bytes)

-- the text of `k` steps by their calls: the lines of the calls made, then the line of the refusal and nothing behind it, or the closing lines
unfoldable pub calls_text : Setup → ℕ → List ℕ → List ℕ
calls_text s k bytes =
    let run : CallRun = run_of s (steps_in k bytes) in
    joined call_lines run.world.past
    ++ stopped run.number (stopped (end_number (length (behind_steps k bytes))) (figure_lines (map done_verdicts run.world.past)))

-- the whole text of any trace: where its setup or its count of steps is refused, nothing is called
abbrev pub TextOfRun : Type 0
TextOfRun =
    (bytes : List ℕ)
    → rehearsal bytes
    ≡ stopped (setup_number group_setup_length (group_setup bytes))
    (stopped (steps_number (drop group_setup_length bytes))
    (calls_text (trace_setup (group_setup bytes)).setup (tick_count (drop group_setup_length bytes)) (drop count_length (drop group_setup_length bytes))))

-- ---- where nothing is refused

-- every step is called, and every call accepted
pub record AllCalls (s : Setup) (steps : List (List ℕ)) : Type 0 where
  pub run : run_of s steps ≡ record { called = steps; world = made_of s steps; number = 0 }
  pub accepted : every (λ (d : Done). is_accepted d.output) (made_of s steps).past ≡ true
  pub text : joined (λ (one : Stepped). one.text) (stepped_all s (new_group s) steps) ≡ joined done_lines (made_of s steps).past
  pub same : SameCalls s steps (made_of s steps)

-- of any steps of which none is refused
abbrev pub ByCalls : Type 0
ByCalls =
    (s : Setup) (steps : List (List ℕ)) → unrefused s steps ≡ true → AllCalls s steps

-- a trace of which nothing is refused
pub record Unrefused (bytes : List ℕ) (s : Setup) (steps : List (List ℕ)) : Type 0 where
  pub setup : setup_number group_setup_length (group_setup bytes) ≡ 0
  pub setup-is : s ≡ (trace_setup (group_setup bytes)).setup
  pub count : steps_number (drop group_setup_length bytes) ≡ 0
  pub steps-are : steps ≡ steps_in (tick_count (drop group_setup_length bytes)) (drop count_length (drop group_setup_length bytes))
  pub all : unrefused s steps ≡ true
  pub end : end_number (length (behind_steps (tick_count (drop group_setup_length bytes)) (drop count_length (drop group_setup_length bytes)))) ≡ 0

-- the whole text of such a trace: the lines of the calls, and the closing lines of their verdicts
abbrev pub TextByCalls : Type 0
TextByCalls =
    (bytes : List ℕ) (s : Setup) (steps : List (List ℕ)) → Unrefused bytes s steps
    → rehearsal bytes ≡ joined done_lines (made_of s steps).past ++ figure_lines (map done_verdicts (made_of s steps).past)
