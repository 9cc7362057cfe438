-- 02, 2.8: the stations of a group, and what a step does.
use Rattle.std.specs.Prelude.{ℕ, zero, suc, Bool, true, cond, List, [], ◌∷◌, ◌++◌, eqb, take, get_or, set, replicate}
use Rattle.text.specs.Text.{decimal, space}
use Rattle.model.specs.Setup.{Setup}
use Rattle.model.specs.Timestamp.{Timestamp, replaced, widened}
use Rattle.model.specs.Holdback.{encode_holdback}
use Rattle.model.specs.Tick.{holdback_size}
use Rattle.trace.specs.Replay.{Turn, turn_at}
use Rattle.rehearsal.specs.Step.{station_of, heard_count, step_number, tick_with}

-- a station: how many ticks it has had, and what the latest left
pub record Player : Type 0 where
  pub ticks : ℕ
  pub tables : Timestamp
  -- 01: the shelf
  pub holdback : List ℕ

-- 02: "The yard's stations stand in one list"; and the frame that each step has sent, no bytes if none
pub record Group : Type 0 where
  pub stations : List Player
  pub sent : List (List ℕ)

-- 02: "shelf empty". The tables are not looked at before its first tick, which starts fresh
unfoldable pub new_player : Setup → Player
new_player s =
    record {
      ticks = 0;
      tables = widened (replaced s.epsilon 0);
      holdback = encode_holdback (holdback_size s) [];
    }

unfoldable pub new_group : Setup → Group
new_group s = record { stations = replicate s.n (new_player s); sent = [] }

-- 02: "Tick and give lines are replay's, each after its station and a space": the label stands before the first byte of each line
unfoldable pub labelled_from : Bool → List ℕ → List ℕ → List ℕ
labelled_from starts label [] = []
labelled_from starts label (b ∷ rest) = cond starts label [] ++ (b ∷ labelled_from (eqb b 10) label rest)

unfoldable pub labelled : ℕ → List ℕ → List ℕ
labelled station text = labelled_from true (decimal station ++ space) text

-- what a step comes to: 0 or the number of its refusal, the group after it, the verdicts of the frames that it heard, and its lines
pub record Stepped : Type 0 where
  pub number : ℕ
  pub group : Group
  pub verdicts : List ℕ
  pub text : List ℕ

-- the tick of a step: replay's, of its station, with what the latest left it
unfoldable pub step_turn : Setup → Group → List ℕ → Turn
step_turn s group bytes =
    let player : Player = get_or group.stations (station_of bytes) (new_player s) in
    turn_at player.ticks (record { setup = s; own = station_of bytes }) player.tables player.holdback (tick_with group.sent bytes)

-- the station after its tick
unfoldable pub player_after : Player → Turn → Player
player_after player one = record { ticks = suc player.ticks; tables = one.tables; holdback = one.holdback }

-- 02: "a step changes exactly one of them"
unfoldable pub group_after : Setup → Group → List ℕ → Turn → Group
group_after s group bytes one =
    record {
      stations = set group.stations (station_of bytes) (player_after (get_or group.stations (station_of bytes) (new_player s)) one);
      sent = group.sent ++ (take one.sent one.outgoing ∷ []);
    }

unfoldable pub called_step : Setup → Group → List ℕ → Turn → Stepped
called_step s group bytes one =
    record {
      number = one.number;
      group = group_after s group bytes one;
      verdicts = take (heard_count bytes) one.verdicts;
      text = labelled (station_of bytes) one.text;
    }

-- bytes that are no step of this group are not called
abbrev pub step_by : ℕ → Setup → Group → List ℕ → Stepped
step_by zero s group bytes = called_step s group bytes (step_turn s group bytes)
step_by (suc k) s group bytes = record { number = suc k; group = group; verdicts = []; text = [] }

-- one step
unfoldable pub stepped : Setup → Group → List ℕ → Stepped
stepped s group bytes = step_by (step_number s.n group.sent bytes) s group bytes
