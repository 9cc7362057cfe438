-- 01, "The replay program": its sample with the endings of 02, 2.4, computed from the definitions. Assumes nothing.
use Prim.Native.Nat.{ℕ, ◌+◌}
use mathlib.Core.Path.{◌≡◌, refl}
use mathlib.Core.List.{List, [], ◌∷◌, ◌++◌}
use Rattle.model.proofs.Computing.{computing}
use Rattle.text.specs.Text.{glyph, digits, count_by, digit_count, decimal, field}
use Rattle.trace.specs.Text.{hex_byte, fields, flag, tick_line, payload_text, payload_tail, reason_tail, give_text, give_line, give_after, gives_after, gives_of, give_lines, tick_lines, lines_of, refused_line}
use Rattle.trace.specs.Trace.{
  trace_setup,
  setup_number,
  tick_count,
  count_number,
  end_number,
  one_before,
  clock_of,
  send_byte,
  payload_size,
  payload_of,
  batch_at,
  entries_size,
  tick_end,
  batch_of,
  tick_number,
  send_of,
}
use Rattle.trace.specs.Replay.{call_of, called_turn, turn, fresh_before, tables_at, turn_at, begun, replay_ticks, replay_from, replay}

-- "n 2, ε 2, δ 1, B 14", "Own number 0", five ticks
abbrev setup : List ℕ
setup = 2 ∷ 2 ∷ 1 ∷ 14 ∷ 0 ∷ 0 ∷ 5 ∷ 0 ∷ []

-- "tick 1 hears A (ticket 41, hexadecimal) and sends ticket 42, likewise"
abbrev first : List ℕ
first = 1 ∷ 0 ∷ 1 ∷ 1 ∷ 66 ∷ 1 ∷ 12 ∷ 3 ∷ 1 ∷ 2 ∷ 0 ∷ 5 ∷ 0 ∷ 1 ∷ 1 ∷ 1 ∷ 0 ∷ 1 ∷ 65 ∷ []

-- "tick 2 hears that frame back"
abbrev second : List ℕ
second = 2 ∷ 0 ∷ 0 ∷ 0 ∷ 1 ∷ 12 ∷ 3 ∷ 0 ∷ 1 ∷ 0 ∷ 5 ∷ 1 ∷ 0 ∷ 1 ∷ 2 ∷ 1 ∷ 1 ∷ 66 ∷ []

-- "ticks 3 to 5 are empty"
abbrev empty : ℕ → List ℕ
empty clock = clock ∷ 0 ∷ 0 ∷ 0 ∷ 0 ∷ []

abbrev sample : List ℕ
sample = setup ++ (first ++ (second ++ (empty 3 ++ (empty 4 ++ empty 5))))

-- its lines, each with its end
abbrev text : List ℕ
text =
    116 ∷ 105 ∷ 99 ∷ 107 ∷ 32 ∷ 49 ∷ 32 ∷ 109 ∷ 101 ∷ 110 ∷ 100 ∷ 32 ∷ 48 ∷ 32 ∷ 99 ∷ 32 ∷ 49 ∷ 32 ∷ 116 ∷ 111 ∷ 111 ∷ 107 ∷ 32 ∷ 49 ∷ 32 ∷ 115 ∷ 101 ∷ 110 ∷ 116 ∷ 32 ∷ 49 ∷ 32 ∷ 103 ∷ 97 ∷ 118 ∷ 101 ∷ 32 ∷ 48 ∷ 10 ∷ 116 ∷ 105 ∷ 99 ∷ 107 ∷ 32 ∷ 50 ∷ 32 ∷ 109 ∷ 101 ∷ 110 ∷ 100 ∷ 32 ∷ 48 ∷ 32 ∷ 99 ∷ 32 ∷ 48 ∷ 32 ∷ 116 ∷ 111 ∷ 111 ∷ 107 ∷ 32 ∷ 49 ∷ 32 ∷ 115 ∷ 101 ∷ 110 ∷ 116 ∷ 32 ∷ 48 ∷ 32 ∷ 103 ∷ 97 ∷ 118 ∷ 101 ∷ 32 ∷ 48 ∷ 10 ∷ 116 ∷ 105 ∷ 99 ∷ 107 ∷ 32 ∷ 51 ∷ 32 ∷ 109 ∷ 101 ∷ 110 ∷ 100 ∷ 32 ∷ 48 ∷ 32 ∷ 99 ∷ 32 ∷ 48 ∷ 32 ∷ 116 ∷ 111 ∷ 111 ∷ 107 ∷ 32 ∷ 48 ∷ 32 ∷ 115 ∷ 101 ∷ 110 ∷ 116 ∷ 32 ∷ 48 ∷ 32 ∷ 103 ∷ 97 ∷ 118 ∷ 101 ∷ 32 ∷ 48 ∷ 10 ∷ 116 ∷ 105 ∷ 99 ∷ 107 ∷ 32 ∷ 52 ∷ 32 ∷ 109 ∷ 101 ∷ 110 ∷ 100 ∷ 32 ∷ 48 ∷ 32 ∷ 99 ∷ 32 ∷ 48 ∷ 32 ∷ 116 ∷ 111 ∷ 111 ∷ 107 ∷ 32 ∷ 48 ∷ 32 ∷ 115 ∷ 101 ∷ 110 ∷ 116 ∷ 32 ∷ 48 ∷ 32 ∷ 103 ∷ 97 ∷ 118 ∷ 101 ∷ 32 ∷ 48 ∷ 10 ∷ 116 ∷ 105 ∷ 99 ∷ 107 ∷ 32 ∷ 53 ∷ 32 ∷ 109 ∷ 101 ∷ 110 ∷ 100 ∷ 32 ∷ 48 ∷ 32 ∷ 99 ∷ 32 ∷ 48 ∷ 32 ∷ 116 ∷ 111 ∷ 111 ∷ 107 ∷ 32 ∷ 48 ∷ 32 ∷ 115 ∷ 101 ∷ 110 ∷ 116 ∷ 32 ∷ 48 ∷ 32 ∷ 103 ∷ 97 ∷ 118 ∷ 101 ∷ 32 ∷ 50 ∷ 10 ∷ 103 ∷ 105 ∷ 118 ∷ 101 ∷ 32 ∷ 49 ∷ 32 ∷ 50 ∷ 32 ∷ 52 ∷ 49 ∷ 32 ∷ 45 ∷ 10 ∷ 103 ∷ 105 ∷ 118 ∷ 101 ∷ 32 ∷ 48 ∷ 32 ∷ 49 ∷ 32 ∷ 52 ∷ 50 ∷ 32 ∷ 99 ∷ 111 ∷ 117 ∷ 110 ∷ 116 ∷ 32 ∷ 49 ∷ 10 ∷ []

pub sample-text : replay sample ≡ text
unfolding computing glyph digits count_by digit_count decimal hex_byte field fields flag tick_line payload_text payload_tail reason_tail give_text give_line give_after gives_after gives_of give_lines tick_lines lines_of refused_line trace_setup setup_number tick_count count_number end_number one_before clock_of send_byte payload_size payload_of batch_at entries_size tick_end batch_of tick_number send_of call_of called_turn turn fresh_before tables_at turn_at begun replay_ticks replay_from replay
sample-text = refl

-- "B 13 gets 1"; a cut setup gets 5, and so do a trace cut in a tick, one that is overlong, and a send byte of 2
abbrev refused : ℕ → List ℕ
refused digit = 114 ∷ 101 ∷ 102 ∷ 117 ∷ 115 ∷ 101 ∷ 100 ∷ 32 ∷ (48 + digit) ∷ 10 ∷ []

pub record Refusals : Type 0 where
  pub small-modulus : replay (2 ∷ 2 ∷ 1 ∷ 13 ∷ 0 ∷ 0 ∷ []) ≡ refused 1
  pub cut-setup : replay (2 ∷ 2 ∷ 1 ∷ 14 ∷ 0 ∷ []) ≡ refused 5
  pub no-count : replay (2 ∷ 2 ∷ 1 ∷ 14 ∷ 0 ∷ 0 ∷ 1 ∷ []) ≡ refused 5
  pub cut-tick : replay (2 ∷ 2 ∷ 1 ∷ 14 ∷ 0 ∷ 0 ∷ 1 ∷ 0 ∷ 1 ∷ 0 ∷ []) ≡ refused 5
  pub bad-send : replay (2 ∷ 2 ∷ 1 ∷ 14 ∷ 0 ∷ 0 ∷ 1 ∷ 0 ∷ 1 ∷ 0 ∷ 2 ∷ 0 ∷ 0 ∷ []) ≡ refused 5
  pub overlong : replay (2 ∷ 2 ∷ 1 ∷ 14 ∷ 0 ∷ 0 ∷ 0 ∷ 0 ∷ 9 ∷ []) ≡ refused 5
  pub no-ticks : replay (2 ∷ 2 ∷ 1 ∷ 14 ∷ 0 ∷ 0 ∷ 0 ∷ 0 ∷ []) ≡ []
  pub late-clock : replay (2 ∷ 2 ∷ 1 ∷ 14 ∷ 0 ∷ 0 ∷ 1 ∷ 0 ∷ 14 ∷ 0 ∷ 0 ∷ 0 ∷ 0 ∷ []) ≡ refused 2

pub refusals : Refusals
unfolding computing glyph digits count_by digit_count decimal hex_byte field fields flag tick_line payload_text payload_tail reason_tail give_text give_line give_after gives_after gives_of give_lines tick_lines lines_of refused_line trace_setup setup_number tick_count count_number end_number one_before clock_of send_byte payload_size payload_of batch_at entries_size tick_end batch_of tick_number send_of call_of called_turn turn fresh_before tables_at turn_at begun replay_ticks replay_from replay
refusals = record { small-modulus = refl; cut-setup = refl; no-count = refl; cut-tick = refl; bad-send = refl; overlong = refl; no-ticks = refl; late-clock = refl }
