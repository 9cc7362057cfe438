-- 02, 2.8: a trace of two stations, computed from the definitions: nothing of it is refused, so the premises of `by-calls` and `text-by-calls`
-- can be met. And traces that are refused, with what is called of them. Assumes nothing.
use Prim.Native.Nat.{ℕ, ◌+◌}
use mathlib.Core.Path.{◌≡◌, refl, sym, ◌∙◌}
use mathlib.Core.List.{List, [], ◌∷◌, ◌++◌, map}
use Rattle.laws.specs.Lists.{joined}
use Rattle.model.specs.Setup.{Setup}
use Rattle.model.specs.Run.{lengthened, input_of, is_accepted, moved_clock, node_after, output_of, done_of, act, at_start, message_bytes}
use Rattle.model.proofs.Computing.{computing}
use Rattle.text.specs.Text.{glyph, digits, count_by, digit_count, decimal, field}
use Rattle.trace.specs.Text.{hex_byte, fields, flag, tick_line, payload_text, payload_tail, reason_tail, give_text, give_line, give_after, gives_after, gives_of, give_lines, tick_lines, lines_of, refused_line}
use Rattle.trace.specs.Trace.{
  trace_setup,
  setup_number,
  tick_count,
  end_number,
  one_before,
  clock_of,
  send_byte,
  payload_size,
  payload_of,
  batch_at,
  entries_size,
  tick_end,
  batch_of,
  tick_number,
  send_of,
}
use Rattle.trace.specs.Replay.{call_of, called_turn, turn, fresh_before, tables_at, turn_at}
use Rattle.rehearsal.specs.Step.{steps_number, station_of, tick_part, heard_at, heard_count, heard_number, heard_numbers, step_end, is_sent, step_number, heard_frames, tick_with}
use Rattle.rehearsal.specs.Group.{new_player, new_group, labelled_from, labelled, step_turn, player_after, group_after, called_step, stepped}
use Rattle.rehearsal.specs.Closing.{refused_in, first_refused, figure_line, figure_lines}
use Rattle.rehearsal.specs.Rehearsal.{rehearse_steps, rehearse_from, group_setup, rehearsal}
use Rattle.rehearsal.specs.Calls.{steps_in, first_tick, node_at, group_nodes, last_clock, call_for, group_start, made_of, done_lines, done_verdicts, done_number, latest_number, calls_made, run_of, stepped_all, unrefused, behind_steps, Unrefused}
use Rattle.rehearsal.proofs.AllCalls.{text-by-calls}

-- every definition of the rehearsal, opened at once
unfoldable rehearsing : Unit {0}
unfolding computing glyph digits count_by digit_count decimal field hex_byte fields flag tick_line payload_text payload_tail reason_tail give_text give_line give_after gives_after gives_of give_lines tick_lines lines_of refused_line trace_setup setup_number tick_count end_number one_before clock_of send_byte payload_size payload_of batch_at entries_size tick_end batch_of tick_number send_of call_of called_turn turn fresh_before tables_at turn_at steps_number station_of tick_part heard_at heard_count heard_number heard_numbers step_end is_sent step_number heard_frames tick_with new_player new_group labelled_from labelled step_turn player_after group_after called_step stepped refused_in first_refused figure_line figure_lines rehearse_steps rehearse_from group_setup rehearsal steps_in stepped_all unrefused behind_steps
rehearsing = tt

-- and every one of the calls that it stands for
unfoldable calling : Unit {0}
unfolding lengthened input_of is_accepted moved_clock node_after output_of done_of act at_start message_bytes first_tick node_at group_nodes last_clock call_for group_start latest_number calls_made run_of
calling = tt

-- n 2, ε 2, δ 1, B 14
abbrev setup : Setup
setup = record { n = 2; epsilon = 2; delta = 1; modulus = 14 }

-- a station that is ahead sends ticket 41, hexadecimal
abbrev first : List ℕ
first = 1 ∷ 2 ∷ 0 ∷ 1 ∷ 1 ∷ 65 ∷ 0 ∷ []

-- the other hears it and sends ticket 42, likewise
abbrev second : List ℕ
second = 0 ∷ 1 ∷ 0 ∷ 1 ∷ 1 ∷ 66 ∷ 1 ∷ 1 ∷ 0 ∷ []

-- both are heard by the first, its own back
abbrev third : List ℕ
third = 1 ∷ 3 ∷ 0 ∷ 0 ∷ 0 ∷ 2 ∷ 2 ∷ 0 ∷ 1 ∷ 0 ∷ []

-- the other steps by 2; it hears its own back, and the first again: 16
abbrev fourth : List ℕ
fourth = 0 ∷ 3 ∷ 0 ∷ 0 ∷ 0 ∷ 2 ∷ 2 ∷ 0 ∷ 1 ∷ 0 ∷ []

-- a step of 2, to the clock at which both are due
abbrev fifth : List ℕ
fifth = 1 ∷ 5 ∷ 0 ∷ 0 ∷ 0 ∷ 0 ∷ []

-- so does the other, and hears its own too late: 13
abbrev sixth : List ℕ
sixth = 0 ∷ 5 ∷ 0 ∷ 0 ∷ 0 ∷ 1 ∷ 2 ∷ 0 ∷ []

abbrev steps : List (List ℕ)
steps = first ∷ second ∷ third ∷ fourth ∷ fifth ∷ sixth ∷ []

-- the setup, six steps
abbrev sample : List ℕ
sample = 2 ∷ 2 ∷ 1 ∷ 14 ∷ 0 ∷ 6 ∷ 0 ∷ joined (λ (bytes : List ℕ). bytes) steps

-- its lines, each with its end, and the closing lines: `13 6`, `16 4`, otherwise a dash
abbrev text : List ℕ
text =
    49 ∷ 32 ∷ 116 ∷ 105 ∷ 99 ∷ 107 ∷ 32 ∷ 50 ∷ 32 ∷ 109 ∷ 101 ∷ 110 ∷ 100 ∷ 32 ∷ 48 ∷ 32 ∷ 99 ∷ 32 ∷ 48 ∷ 32 ∷ 116 ∷ 111 ∷ 111 ∷ 107 ∷ 32 ∷ 48 ∷ 32 ∷ 115 ∷ 101 ∷ 110 ∷ 116 ∷ 32 ∷ 49 ∷ 32 ∷ 103 ∷ 97 ∷ 118 ∷ 101 ∷ 32 ∷ 48 ∷ 10 ∷ 48 ∷ 32 ∷ 116 ∷ 105 ∷ 99 ∷ 107 ∷ 32 ∷ 49 ∷ 32 ∷ 109 ∷ 101 ∷ 110 ∷ 100 ∷ 32 ∷ 48 ∷ 32 ∷ 99 ∷ 32 ∷ 49 ∷ 32 ∷ 116 ∷ 111 ∷ 111 ∷ 107 ∷ 32 ∷ 49 ∷ 32 ∷ 115 ∷ 101 ∷ 110 ∷ 116 ∷ 32 ∷ 49 ∷ 32 ∷ 103 ∷ 97 ∷ 118 ∷ 101 ∷ 32 ∷ 48 ∷ 10 ∷ 49 ∷ 32 ∷ 116 ∷ 105 ∷ 99 ∷ 107 ∷ 32 ∷ 51 ∷ 32 ∷ 109 ∷ 101 ∷ 110 ∷ 100 ∷ 32 ∷ 48 ∷ 32 ∷ 99 ∷ 32 ∷ 48 ∷ 32 ∷ 116 ∷ 111 ∷ 111 ∷ 107 ∷ 32 ∷ 50 ∷ 32 ∷ 115 ∷ 101 ∷ 110 ∷ 116 ∷ 32 ∷ 48 ∷ 32 ∷ 103 ∷ 97 ∷ 118 ∷ 101 ∷ 32 ∷ 48 ∷ 10 ∷ 48 ∷ 32 ∷ 116 ∷ 105 ∷ 99 ∷ 107 ∷ 32 ∷ 51 ∷ 32 ∷ 109 ∷ 101 ∷ 110 ∷ 100 ∷ 32 ∷ 48 ∷ 32 ∷ 99 ∷ 32 ∷ 48 ∷ 32 ∷ 116 ∷ 111 ∷ 111 ∷ 107 ∷ 32 ∷ 49 ∷ 32 ∷ 115 ∷ 101 ∷ 110 ∷ 116 ∷ 32 ∷ 48 ∷ 32 ∷ 103 ∷ 97 ∷ 118 ∷ 101 ∷ 32 ∷ 48 ∷ 10 ∷ 49 ∷ 32 ∷ 116 ∷ 105 ∷ 99 ∷ 107 ∷ 32 ∷ 53 ∷ 32 ∷ 109 ∷ 101 ∷ 110 ∷ 100 ∷ 32 ∷ 48 ∷ 32 ∷ 99 ∷ 32 ∷ 48 ∷ 32 ∷ 116 ∷ 111 ∷ 111 ∷ 107 ∷ 32 ∷ 48 ∷ 32 ∷ 115 ∷ 101 ∷ 110 ∷ 116 ∷ 32 ∷ 48 ∷ 32 ∷ 103 ∷ 97 ∷ 118 ∷ 101 ∷ 32 ∷ 50 ∷ 10 ∷ 49 ∷ 32 ∷ 103 ∷ 105 ∷ 118 ∷ 101 ∷ 32 ∷ 49 ∷ 32 ∷ 50 ∷ 32 ∷ 52 ∷ 49 ∷ 32 ∷ 45 ∷ 10 ∷ 49 ∷ 32 ∷ 103 ∷ 105 ∷ 118 ∷ 101 ∷ 32 ∷ 48 ∷ 32 ∷ 49 ∷ 32 ∷ 52 ∷ 50 ∷ 32 ∷ 99 ∷ 111 ∷ 117 ∷ 110 ∷ 116 ∷ 32 ∷ 49 ∷ 10 ∷ 48 ∷ 32 ∷ 116 ∷ 105 ∷ 99 ∷ 107 ∷ 32 ∷ 53 ∷ 32 ∷ 109 ∷ 101 ∷ 110 ∷ 100 ∷ 32 ∷ 48 ∷ 32 ∷ 99 ∷ 32 ∷ 48 ∷ 32 ∷ 116 ∷ 111 ∷ 111 ∷ 107 ∷ 32 ∷ 48 ∷ 32 ∷ 115 ∷ 101 ∷ 110 ∷ 116 ∷ 32 ∷ 48 ∷ 32 ∷ 103 ∷ 97 ∷ 118 ∷ 101 ∷ 32 ∷ 50 ∷ 10 ∷ 48 ∷ 32 ∷ 103 ∷ 105 ∷ 118 ∷ 101 ∷ 32 ∷ 49 ∷ 32 ∷ 50 ∷ 32 ∷ 52 ∷ 49 ∷ 32 ∷ 45 ∷ 10 ∷ 48 ∷ 32 ∷ 103 ∷ 105 ∷ 118 ∷ 101 ∷ 32 ∷ 48 ∷ 32 ∷ 49 ∷ 32 ∷ 52 ∷ 50 ∷ 32 ∷ 99 ∷ 111 ∷ 117 ∷ 110 ∷ 116 ∷ 32 ∷ 49 ∷ 10 ∷ 49 ∷ 48 ∷ 32 ∷ 45 ∷ 10 ∷ 49 ∷ 49 ∷ 32 ∷ 45 ∷ 10 ∷ 49 ∷ 50 ∷ 32 ∷ 45 ∷ 10 ∷ 49 ∷ 51 ∷ 32 ∷ 54 ∷ 10 ∷ 49 ∷ 52 ∷ 32 ∷ 45 ∷ 10 ∷ 49 ∷ 53 ∷ 32 ∷ 45 ∷ 10 ∷ 49 ∷ 54 ∷ 32 ∷ 52 ∷ 10 ∷ []

pub sample-text : rehearsal sample ≡ text
unfolding rehearsing
sample-text = refl

pub sample-unrefused : Unrefused sample setup steps
unfolding rehearsing
sample-unrefused = record { setup = refl; setup-is = refl; count = refl; steps-are = refl; all = refl; end = refl }

-- so the text of this run is that of the calls made one by one
pub sample-by-calls : text ≡ joined done_lines (made_of setup steps).past ++ figure_lines (map done_verdicts (made_of setup steps).past)
sample-by-calls = sym sample-text ∙ text-by-calls sample setup steps sample-unrefused

-- ---- refusals

abbrev refused : ℕ → List ℕ
refused digit = 114 ∷ 101 ∷ 102 ∷ 117 ∷ 115 ∷ 101 ∷ 100 ∷ 32 ∷ (48 + digit) ∷ 10 ∷ []

-- the line of station 0's tick 1, without a frame sent and with one
abbrev quiet : List ℕ
quiet =
    48 ∷ 32 ∷ 116 ∷ 105 ∷ 99 ∷ 107 ∷ 32 ∷ 49 ∷ 32 ∷ 109 ∷ 101 ∷ 110 ∷ 100 ∷ 32 ∷ 48 ∷ 32 ∷ 99 ∷ 32 ∷ 48 ∷ 32 ∷ 116 ∷ 111 ∷ 111 ∷ 107 ∷ 32 ∷ 48 ∷ 32 ∷ 115 ∷ 101 ∷ 110 ∷ 116 ∷ 32 ∷ 48 ∷ 32 ∷ 103 ∷ 97 ∷ 118 ∷ 101 ∷ 32 ∷ 48 ∷ 10 ∷ []

abbrev loud : List ℕ
loud =
    48 ∷ 32 ∷ 116 ∷ 105 ∷ 99 ∷ 107 ∷ 32 ∷ 49 ∷ 32 ∷ 109 ∷ 101 ∷ 110 ∷ 100 ∷ 32 ∷ 48 ∷ 32 ∷ 99 ∷ 32 ∷ 48 ∷ 32 ∷ 116 ∷ 111 ∷ 111 ∷ 107 ∷ 32 ∷ 48 ∷ 32 ∷ 115 ∷ 101 ∷ 110 ∷ 116 ∷ 32 ∷ 49 ∷ 32 ∷ 103 ∷ 97 ∷ 118 ∷ 101 ∷ 32 ∷ 48 ∷ 10 ∷ []

abbrev dashes : List ℕ
dashes =
    49 ∷ 48 ∷ 32 ∷ 45 ∷ 10 ∷ 49 ∷ 49 ∷ 32 ∷ 45 ∷ 10 ∷ 49 ∷ 50 ∷ 32 ∷ 45 ∷ 10 ∷ 49 ∷ 51 ∷ 32 ∷ 45 ∷ 10 ∷ 49 ∷ 52 ∷ 32 ∷ 45 ∷ 10 ∷ 49 ∷ 53 ∷ 32 ∷ 45 ∷ 10 ∷ 49 ∷ 54 ∷ 32 ∷ 45 ∷ 10 ∷ []

-- station 0 sends at clock 1; then its clock is not below B, or the station not below n; and it would go on
abbrev sends : List ℕ
sends = 0 ∷ 1 ∷ 0 ∷ 1 ∷ 0 ∷ 0 ∷ []

abbrev late : List ℕ
late = 0 ∷ 14 ∷ 0 ∷ 0 ∷ 0 ∷ 0 ∷ []

abbrev foreign : List ℕ
foreign = 2 ∷ 2 ∷ 0 ∷ 0 ∷ 0 ∷ 0 ∷ []

abbrev after : List ℕ
after = 0 ∷ 2 ∷ 0 ∷ 0 ∷ 0 ∷ 0 ∷ []

pub record Refusals : Type 0 where
  -- 02: "A trace of more steps" than 1,000; "whose station is not below n"
  pub many-steps : rehearsal (2 ∷ 2 ∷ 1 ∷ 14 ∷ 0 ∷ 233 ∷ 3 ∷ []) ≡ refused 5
  pub no-station : rehearsal (2 ∷ 2 ∷ 1 ∷ 14 ∷ 0 ∷ 1 ∷ 0 ∷ 2 ∷ 1 ∷ 0 ∷ 0 ∷ 0 ∷ 0 ∷ []) ≡ refused 5
  -- "or that hears a frame not yet sent": 0, its own, and one of a step that sent nothing
  pub hears-0 : rehearsal (2 ∷ 2 ∷ 1 ∷ 14 ∷ 0 ∷ 1 ∷ 0 ∷ 0 ∷ 1 ∷ 0 ∷ 0 ∷ 0 ∷ 1 ∷ 0 ∷ 0 ∷ []) ≡ refused 5
  pub hears-itself : rehearsal (2 ∷ 2 ∷ 1 ∷ 14 ∷ 0 ∷ 1 ∷ 0 ∷ 0 ∷ 1 ∷ 0 ∷ 1 ∷ 0 ∷ 1 ∷ 1 ∷ 0 ∷ []) ≡ refused 5
  pub hears-nothing : rehearsal (2 ∷ 2 ∷ 1 ∷ 14 ∷ 0 ∷ 2 ∷ 0 ∷ 0 ∷ 1 ∷ 0 ∷ 0 ∷ 0 ∷ 0 ∷ 1 ∷ 1 ∷ 0 ∷ 0 ∷ 0 ∷ 1 ∷ 1 ∷ 0 ∷ []) ≡ quiet ++ refused 5
  pub hears-later : rehearsal (2 ∷ 2 ∷ 1 ∷ 14 ∷ 0 ∷ 2 ∷ 0 ∷ 0 ∷ 1 ∷ 0 ∷ 1 ∷ 0 ∷ 0 ∷ 1 ∷ 1 ∷ 0 ∷ 0 ∷ 0 ∷ 1 ∷ 2 ∷ 0 ∷ []) ≡ loud ++ refused 5
  -- "All else is as in replay"
  pub small-modulus : rehearsal (2 ∷ 2 ∷ 1 ∷ 13 ∷ 0 ∷ []) ≡ refused 1
  pub cut-setup : rehearsal (2 ∷ 2 ∷ 1 ∷ 14 ∷ []) ≡ refused 5
  pub no-count : rehearsal (2 ∷ 2 ∷ 1 ∷ 14 ∷ 0 ∷ 1 ∷ []) ≡ refused 5
  pub cut_step : rehearsal (2 ∷ 2 ∷ 1 ∷ 14 ∷ 0 ∷ 1 ∷ 0 ∷ 0 ∷ 1 ∷ 0 ∷ 0 ∷ 0 ∷ 1 ∷ 1 ∷ []) ≡ refused 5
  pub bad-send : rehearsal (2 ∷ 2 ∷ 1 ∷ 14 ∷ 0 ∷ 1 ∷ 0 ∷ 0 ∷ 1 ∷ 0 ∷ 2 ∷ 0 ∷ 0 ∷ []) ≡ refused 5
  pub late-clock : rehearsal (2 ∷ 2 ∷ 1 ∷ 14 ∷ 0 ∷ 1 ∷ 0 ∷ 0 ∷ 14 ∷ 0 ∷ 0 ∷ 0 ∷ 0 ∷ []) ≡ refused 2
  pub overlong : rehearsal (2 ∷ 2 ∷ 1 ∷ 14 ∷ 0 ∷ 0 ∷ 0 ∷ 9 ∷ []) ≡ refused 5
  -- the lines up to there, and nothing behind: a call that is refused, a step that is refused before its call, each with a step behind it
  pub late-second : rehearsal (2 ∷ 2 ∷ 1 ∷ 14 ∷ 0 ∷ 3 ∷ 0 ∷ sends ++ (late ++ after)) ≡ loud ++ refused 2
  pub foreign-second : rehearsal (2 ∷ 2 ∷ 1 ∷ 14 ∷ 0 ∷ 3 ∷ 0 ∷ sends ++ (foreign ++ after)) ≡ loud ++ refused 5
  -- "seven lines after an unrefused run", of no steps
  pub no_steps : rehearsal (2 ∷ 2 ∷ 1 ∷ 14 ∷ 0 ∷ 0 ∷ 0 ∷ []) ≡ dashes

pub refusals : Refusals
unfolding rehearsing
refusals =
    record {
      many-steps = refl;
      no-station = refl;
      hears-0 = refl;
      hears-itself = refl;
      hears-nothing = refl;
      hears-later = refl;
      small-modulus = refl;
      cut-setup = refl;
      no-count = refl;
      cut_step = refl;
      bad-send = refl;
      late-clock = refl;
      overlong = refl;
      late-second = refl;
      foreign-second = refl;
      no_steps = refl;
    }

-- by their calls: the call that is refused is the last one made; a step that is refused before its call is not called
pub record Stops : Type 0 where
  pub by_call : (run_of setup (sends ∷ late ∷ after ∷ [])).called ≡ sends ∷ late ∷ []
  pub by-call-with : (run_of setup (sends ∷ late ∷ after ∷ [])).number ≡ 2
  pub by-call-answered : map done_number (run_of setup (sends ∷ late ∷ after ∷ [])).world.past ≡ 0 ∷ 2 ∷ []
  pub before-call : (run_of setup (sends ∷ foreign ∷ after ∷ [])).called ≡ sends ∷ []
  pub before-call-with : (run_of setup (sends ∷ foreign ∷ after ∷ [])).number ≡ 5

pub stops : Stops
unfolding rehearsing calling
stops = record { by_call = refl; by-call-with = refl; by-call-answered = refl; before-call = refl; before-call-with = refl }
