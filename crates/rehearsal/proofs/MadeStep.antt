-- One step of the rehearsal, and the same call made to the same stations. Assumes nothing.
use Prim.Native.Nat.{ℕ, zero, suc, ◌<◌}
use native.Mathlib.Omega.{arith}
use mathlib.Core.Path.{◌≡◌, refl, sym, ap, subst, ◌∙◌}
use mathlib.Core.Bool.{false, cond}
use mathlib.Core.List.{List, [], ◌∷◌, ◌++◌, map, map-append}
use mathlib.Core.Logic.{⊎_elim}
use mathlib.Core.Option.{Option, some, some-injective}
use lib.Dec.{eqb, ltb}
use lib.ListN.{length, take, get_or, set, get_elem?, length-set, length-map}
use borrow.Author.Tests.{eqb-true, ltb-true, eq-eqb, ne_eqb}
use Rattle.laws.proofs.Numbers.{eq-or-ne, cond-true, cond-false}
use Rattle.laws.proofs.Lists.{length-tab, get_elem?-in, get_elem?-set-same, get_elem?-set-other}
use Rattle.model.specs.Setup.{Setup}
use Rattle.model.specs.Timestamp.{Timestamp}
use Rattle.model.specs.Tick.{Input, Output, tick}
use Rattle.model.specs.Run.{Node, Call, Done, World, input_of, is_accepted, output_of, done_of, node_after, act_on, act, message_bytes}
use Rattle.lemmas.proofs.Questions.{first-yes, other-yes}
use Rattle.lemmas.proofs.OneCall.{plain-output, left-holdback}
use Rattle.trace.specs.Text.{lines_of}
use Rattle.trace.specs.Trace.{NodeSetup, clock_of, send_of, payload_of, batch_of, tick_number}
use Rattle.trace.specs.Replay.{Turn, call_of, text_by, called_turn, turn_by, turn, fresh_before, tables_at, turn_at}
use Rattle.rehearsal.specs.Step.{station_of, tick_part, heard_count, heard_numbers, step_end, step_number, batch_with, heard_frames, tick_with}
use Rattle.rehearsal.specs.Group.{Player, Group, new_player, labelled_from, labelled, Stepped, step_turn, player_after, group_after, called_step, step_by, stepped}
use Rattle.rehearsal.specs.Calls.{first_tick, node_at, call_for, done_lines, done_verdicts, done_number, call_lines}
use Rattle.rehearsal.proofs.MadeTick.{made-clock, made-send, made-payload, made-batch}

-- a station of the group, and the node that it is in the list of calls, before the steps still to come
pub record Alike (s : Setup) (steps : List (List ℕ)) (j : ℕ) (player : Player) (node : Node) : Type 0 where
  pub station : node.listens ≡ false
  pub holdback : player.holdback ≡ node.holdback
  -- 02: "Each station starts fresh one before its first clock"
  pub first : player.ticks ≡ 0 → fresh_before (record { setup = s; own = j }) (first_tick j steps) ≡ node.tables
  pub later : (player.ticks ≡ 0 → ⊥) → player.tables ≡ node.tables

-- the group, and the stations with the calls made so far
pub record Same (s : Setup) (steps : List (List ℕ)) (group : Group) (w : World) : Type 0 where
  pub players : length group.stations ≡ s.n
  pub nodes : length w.nodes ≡ s.n
  pub sent : group.sent ≡ map message_bytes w.past
  pub alike :
      (j : ℕ) (player : Player) (node : Node) → get_elem? group.stations j ≡ some player → get_elem? w.nodes j ≡ some node
      → Alike s steps j player node

-- what a step leaves, and its call
pub record Made (s : Setup) (rest : List (List ℕ)) (one : Stepped) (w after : World) : Type 0 where
  pub done : Done
  pub past : after.past ≡ w.past ++ (done ∷ [])
  pub number : one.number ≡ done_number done
  pub text : one.text ≡ call_lines done
  pub verdicts : one.verdicts ≡ done_verdicts done
  pub same : Same s rest one.group after

-- ---- the call of a step

-- what a call comes to, as a turn
abbrev turn_from : Input → Turn
turn_from i =
    record {
      number = (tick i).answer.number;
      tables = (tick i).answer.tables;
      holdback = (tick i).holdback;
      sent = (tick i).answer.sent;
      outgoing = (tick i).outgoing;
      verdicts = (tick i).verdicts;
      text = text_by (tick i).answer.number (lines_of i (tick i));
    }

called-from : (s : NodeSetup) (tables : Timestamp) (holdback bytes : List ℕ) → called_turn s tables holdback bytes ≡ turn_from (call_of s tables holdback bytes)
unfolding called_turn
called-from s tables holdback bytes = refl

-- a call by its arguments
call_from :
    (s : Setup) (w : World) (bytes : List ℕ) (node : Node) {tables : Timestamp} {holdback : List ℕ} (one : List ℕ) → tables ≡ node.tables
    → holdback ≡ node.holdback → clock_of one ≡ clock_of (tick_part bytes) → batch_of one ≡ batch_with (heard_frames (map message_bytes w.past) bytes)
    → send_of one ≡ send_of (tick_part bytes) → payload_of one ≡ payload_of (tick_part bytes)
    → call_of (record { setup = s; own = station_of bytes }) tables holdback one ≡ input_of node (call_for s w bytes)
unfolding call_of input_of call_for
call_from s w bytes node one t h c b d p = rw (t, h, c, b, d, p)

-- a step that is refused before its call
pub step-halted : (s : Setup) (group : Group) (bytes : List ℕ) (m : ℕ) → step_number s.n group.sent bytes ≡ suc m
    → stepped s group bytes ≡ record { number = suc m; group = group; verdicts = []; text = [] }
unfolding stepped
step-halted s group bytes m e = ap (λ (k : ℕ). step_by k s group bytes) e

step-called : (s : Setup) (group : Group) (bytes : List ℕ) → step_number s.n group.sent bytes ≡ 0 → stepped s group bytes ≡ called_step s group bytes (step_turn s group bytes)
unfolding stepped
step-called s group bytes e = ap (λ (k : ℕ). step_by k s group bytes) e

-- and one that is none of replay's ticks
pub tick-halted : (s : Setup) (group : Group) (bytes : List ℕ) (m : ℕ) → step_number s.n group.sent bytes ≡ 0 → tick_number (tick_with group.sent bytes) ≡ suc m
    → ((stepped s group bytes).number ≡ suc m) × ((stepped s group bytes).text ≡ [])
unfolding called_step step_turn turn_at turn labelled labelled_from
tick-halted s group bytes m e h =
    let mine : NodeSetup = record { setup = s; own = station_of bytes } in
    let player : Player = get_or group.stations (station_of bytes) (new_player s) in
    let made : List ℕ = tick_with group.sent bytes in
    let turned : step_turn s group bytes ≡ turn_by (suc m) mine (tables_at player.ticks mine player.tables made) player.holdback made
    = ap (λ (k : ℕ). turn_by k mine (tables_at player.ticks mine player.tables made) player.holdback made) h in
    let is : stepped s group bytes ≡ called_step s group bytes (turn_by (suc m) mine (tables_at player.ticks mine player.tables made) player.holdback made)
    = step-called s group bytes e ∙ ap (called_step s group bytes) turned in
    (ap (λ (one : Stepped). one.number) is, ap (λ (one : Stepped). one.text) is)

-- a text that is there for a call that is not refused, with its label
labelled_by : (own k : ℕ) (lines : List ℕ) → labelled own (text_by k lines) ≡ cond (eqb k 0) (labelled own lines) []
unfolding labelled labelled_from
labelled_by own zero lines = refl
labelled_by own (suc k) lines = sym (cond-false (labelled own lines) [] (ne_eqb (suc k) 0 (λ e. omega (arith, e))))

module _ (s : Setup) (group : Group) (w : World) (bytes : List ℕ) (rest : List (List ℕ)) (before : Same s (bytes ∷ rest) group w)
    (is-step : step_number s.n group.sent bytes ≡ 0) (is-tick : tick_number (tick_with group.sent bytes) ≡ 0) where
  abbrev own : ℕ
  own = station_of bytes

  abbrev mine : NodeSetup
  mine = record { setup = s; own = own }

  abbrev player : Player
  player = get_or group.stations own (new_player s)

  abbrev node : Node
  node = get_or w.nodes own (node_at s [] 0)

  abbrev batch : List ℕ
  batch = tick_with group.sent bytes

  abbrev tables : Timestamp
  tables = tables_at player.ticks mine player.tables batch

  abbrev call : Call
  call = call_for s w bytes

  step_is : stepped s group bytes ≡ called_step s group bytes (step_turn s group bytes)
  step_is = step-called s group bytes is-step

  turn_is : step_turn s group bytes ≡ turn_from (call_of mine tables player.holdback batch)
  unfolding step_turn turn_at turn
  turn_is = ap (λ (k : ℕ). turn_by k mine tables player.holdback batch) is-tick ∙ called-from mine tables player.holdback batch

  whole : step_end bytes ≡ length bytes
  unfolding step_number
  whole = eqb-true (step_end bytes) (length bytes) (first-yes (eqb (step_end bytes) (length bytes)) 4 _ is-step)

  below : own < s.n
  unfolding step_number
  below = ltb-true own s.n (first-yes (ltb own s.n) 4 _ (other-yes (eqb (step_end bytes) (length bytes)) 4 _ is-step))

  -- ---- the station that it names

  player-at : get_elem? group.stations own ≡ some player
  player-at = get_elem?-in group.stations own (new_player s) (omega (arith, below, before.players))

  node_at_lem : get_elem? w.nodes own ≡ some node
  node_at_lem = get_elem?-in w.nodes own (node_at s [] 0) (omega (arith, below, before.nodes))

  alike : Alike s (bytes ∷ rest) own player node
  alike = before.alike own player node player-at node_at_lem

  fresh-same : fresh_before mine batch ≡ fresh_before mine (first_tick own (bytes ∷ rest))
  unfolding fresh_before first_tick
  fresh-same = rw (eq-eqb own own refl, made-clock group.sent bytes whole)

  tables-same : tables ≡ node.tables
  unfolding tables_at
  tables-same =
      ⊎_elim
      (λ e. cond-true (fresh_before mine batch) player.tables (eq-eqb player.ticks 0 e) ∙ fresh-same ∙ alike.first e)
      (λ h. cond-false (fresh_before mine batch) player.tables (ne_eqb player.ticks 0 h) ∙ alike.later h)
      (eq-or-ne player.ticks 0)

  -- ---- so the call is the same

  input-same : call_of mine tables player.holdback batch ≡ input_of node call
  input-same =
      call_from s w bytes node batch tables-same alike.holdback (made-clock group.sent bytes whole)
      (made-batch group.sent bytes whole is-tick ∙ ap (λ (sent : List (List ℕ)). batch_with (heard_frames sent bytes)) before.sent)
      (made-send group.sent bytes whole) (made-payload group.sent bytes whole)

  turn-same : step_turn s group bytes ≡ turn_from (input_of node call)
  turn-same = turn_is ∙ ap turn_from input-same

  output-is : output_of node call ≡ tick (input_of node call)
  output-is =
      plain-output node call (unfold call_for in refl) (unfold call_for in refl) ∙ cond-false _ (tick (input_of node call)) alike.station

  -- ---- what the call leaves

  abbrev done : Done
  done = done_of node call

  abbrev node_then : Node
  node_then = node_after node call.step (output_of node call)

  abbrev player_then : Player
  player_then = player_after player (turn_from (input_of node call))

  abbrev world_then : World
  world_then = record { nodes = set w.nodes own node_then; past = w.past ++ (done ∷ []) }

  abbrev group_then : Group
  group_then = record { stations = set group.stations own player_then; sent = group.sent ++ (message_bytes done ∷ []) }

  act-is : act w call ≡ world_then
  unfolding act call_for
  act-is = ap (λ (o : Option Node). act_on o w call) node_at_lem

  group-is : (stepped s group bytes).group ≡ group_then
  unfolding called_step group_after done_of message_bytes
  group-is =
      ap (λ (one : Stepped). one.group) step_is
      ∙ ap (group_after s group bytes) turn-same
      ∙ ap (λ (o : Output). record { stations = set group.stations own player_then; sent = group.sent ++ (take o.answer.sent o.outgoing ∷ []) })
      (sym output-is)

  same_then : Alike s rest own player_then node_then
  unfolding player_after node_after input_of
  same_then =
      record {
        station = alike.station;
        holdback =
            sym (left-holdback (input_of node call))
            ∙ ap (λ (o : Output). cond (is_accepted o) o.holdback node.holdback) (sym output-is);
        first = λ e. absurd (omega arith);
        later = λ h. ap (λ (o : Output). o.answer.tables) (sym output-is);
      }

  -- another station keeps what it has, and this step is none of its
  same-other : (j : ℕ) (p : Player) (a : Node) → (own ≡ j → ⊥) → Alike s (bytes ∷ rest) j p a → Alike s rest j p a
  unfolding first_tick
  same-other j p a h old =
      record {
        station = old.station;
        holdback = old.holdback;
        first = λ e. ap (fresh_before (record { setup = s; own = j })) (sym passed) ∙ old.first e;
        later = old.later;
      }
    where
      passed : first_tick j (bytes ∷ rest) ≡ first_tick j rest
      passed = cond-false (tick_part bytes) (first_tick j rest) (ne_eqb own j h)

  alike_then :
      (j : ℕ) (p : Player) (a : Node) → get_elem? (set group.stations own player_then) j ≡ some p
      → get_elem? (set w.nodes own node_then) j ≡ some a → Alike s rest j p a
  alike_then j p a p-at a_at =
      ⊎_elim
      (λ e.
      let p-is : player_then ≡ p
      = some-injective player_then p
      (sym (get_elem?-set-same group.stations own player_then (omega (arith, below, before.players)))
      ∙ ap (get_elem? (set group.stations own player_then)) e ∙ p-at) in
      let a-is : node_then ≡ a
      = some-injective node_then a
      (sym (get_elem?-set-same w.nodes own node_then (omega (arith, below, before.nodes))) ∙ ap (get_elem? (set w.nodes own node_then)) e ∙ a_at) in
      subst (λ (k : ℕ). Alike s rest k p a) e
      (subst (λ (q : Player). Alike s rest own q a) p-is (subst (λ (b : Node). Alike s rest own player_then b) a-is same_then)))
      (λ h.
      same-other j p a h
      (before.alike j p a (sym (get_elem?-set-other group.stations own j player_then h) ∙ p-at)
      (sym (get_elem?-set-other w.nodes own j node_then h) ∙ a_at)))
      (eq-or-ne own j)

  same_after : Same s rest group_then world_then
  same_after =
      record {
        players = length-set group.stations own player_then ∙ before.players;
        nodes = length-set w.nodes own node_then ∙ before.nodes;
        sent =
            ap (λ (sent : List (List ℕ)). sent ++ (message_bytes done ∷ [])) before.sent ∙ sym (map-append message_bytes w.past (done ∷ []));
        alike = alike_then;
      }

  -- ---- its lines, and the verdicts of what it heard

  lines_are : cond (eqb (output_of node call).answer.number 0) (labelled own (lines_of (input_of node call) (output_of node call))) [] ≡ call_lines done
  unfolding call_lines is_accepted done_lines done_of lines_of input_of call_for
  lines_are = refl

  text-is : (stepped s group bytes).text ≡ call_lines done
  unfolding called_step
  text-is =
      ap (λ (one : Stepped). one.text) step_is
      ∙ ap (λ (one : Turn). labelled own one.text) turn-same
      ∙ ap (λ (o : Output). labelled own (text_by o.answer.number (lines_of (input_of node call) o))) (sym output-is)
      ∙ labelled_by own (output_of node call).answer.number (lines_of (input_of node call) (output_of node call))
      ∙ lines_are

  number_is : (stepped s group bytes).number ≡ done_number done
  unfolding called_step done_of
  number_is =
      ap (λ (one : Stepped). one.number) step_is
      ∙ ap (λ (one : Turn). one.number) turn-same
      ∙ ap (λ (o : Output). o.answer.number) (sym output-is)

  heard-are : heard_count bytes ≡ length call.sources
  unfolding call_for heard_numbers
  heard-are = sym (length-map (heard_numbers bytes) _ ∙ length-tab (heard_count bytes) _)

  verdicts-are : (stepped s group bytes).verdicts ≡ done_verdicts done
  unfolding called_step done_verdicts done_of
  verdicts-are =
      ap (λ (one : Stepped). one.verdicts) step_is
      ∙ ap (λ (one : Turn). take (heard_count bytes) one.verdicts) turn-same
      ∙ ap (λ (o : Output). take (heard_count bytes) o.verdicts) (sym output-is)
      ∙ ap (λ (k : ℕ). take k (output_of node call).verdicts) heard-are

  pub step-made : Made s rest (stepped s group bytes) w (act w call)
  step-made =
      record {
        done = done;
        past = ap (λ (x : World). x.past) act-is;
        number = number_is;
        text = text-is;
        verdicts = verdicts-are;
        same = subst (Same s rest (stepped s group bytes).group) (sym act-is) (subst (λ (y : Group). Same s rest y world_then) (sym group-is) same_after);
      }
