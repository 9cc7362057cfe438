-- What playing one tick asks of its arguments, and what it leaves. Assumes nothing.
use Rattle.std.specs.Prelude.{ℕ, ◌≤◌, ◌≡◌, Bool, true, List, [], ◌∷◌, eqb, length, replicate}
use Rattle.laws.specs.Lists.{any, overlay}
use Rattle.model.specs.Setup.{verdict_length}
use Rattle.model.specs.Timestamp.{Timestamp}
use Rattle.model.specs.Tick.{holdback_size}
use Rattle.timestamp.specs.Views.{stamp_of}
use Rattle.node.specs.declared.ticking.Answer.{Answer}
use Rattle.stations.specs.declared.Station.{Station}
use Rattle.trace.specs.Trace.{NodeSetup, is_valid, largest_holdback}
use Rattle.trace.specs.Replay.{Turn}
use Rattle.trace.specs.declared.lines.TickNumbers.{TickNumbers}
use Rattle.playing.specs.declared.Played.{Played}

-- a setup with which the ticks can start
pub record Ready (s : NodeSetup) : Type 0 where
  pub valid : is_valid s ≡ true
  pub small : holdback_size s.setup ≤ largest_holdback

-- enough for the lines of any tick
abbrev pub text_room : ℕ
text_room = 131072

-- the buffers of a tick: the hold-back queue (01: shelf) has its exact length, and its lines have room
pub record Prepared (s : NodeSetup) (holdback text : List ℕ) : Type 0 where
  pub ready : Ready s
  pub size : length holdback ≡ holdback_size s.setup
  pub room : text_room ≤ length text

-- a tick that is refused has no lines, sends nothing and judges nothing
abbrev pub refused_by : ℕ → Station → Played
refused_by number station =
    record {
      number = number;
      station = station;
      size = 0;
      sent = 0;
      outgoing = replicate 71 0;
      verdicts = replicate verdict_length 0;
    }

-- what the tick line says of a call's answer
abbrev pub figures_by : ℕ → Answer → TickNumbers
figures_by clock a =
    record {
      clock = clock;
      repair = a.repair;
      c = a.tables.c;
      taken = a.taken;
      sent = a.sent;
      delivered = a.delivered;
    }

-- what playing a tick answers, and the buffers as it left them
pub record Result : Type 0 where
  pub number : ℕ
  pub tables : Timestamp
  pub size : ℕ
  pub sent : ℕ
  pub outgoing : List ℕ
  pub verdicts : List ℕ
  pub holdback : List ℕ
  pub text : List ℕ

abbrev pub result_of : Played → List ℕ → List ℕ → Result
result_of p holdback text =
    record {
      number = p.number;
      tables = stamp_of p.station.tables;
      size = p.size;
      sent = p.sent;
      outgoing = p.outgoing;
      verdicts = p.verdicts;
      holdback = holdback;
      text = text;
    }

-- a turn, with its lines in a buffer: bytes beyond them stay
unfoldable pub result_by : Turn → List ℕ → Result
result_by t text =
    record {
      number = t.number;
      tables = t.tables;
      size = length t.text;
      sent = t.sent;
      outgoing = t.outgoing;
      verdicts = t.verdicts;
      holdback = t.holdback;
      text = overlay t.text text;
    }

-- `x` is one of the numbers
unfoldable pub among : List ℕ → ℕ → Bool
among numbers x = any (eqb x) numbers

-- what a tick can be refused with, or 0: a refusal for a clock (2), for a payload (4), or for the form of the trace (5)
abbrev pub run_numbers : List ℕ
run_numbers = 0 ∷ 2 ∷ 4 ∷ 5 ∷ []

-- what a whole trace can stop with: also a refusal for the setup
abbrev pub replay_numbers : List ℕ
replay_numbers = 1 ∷ run_numbers
