-- What the code keeps of a group, in the terms of `Group`, and what a step asks of it and leaves. Assumes nothing.
use Rattle.std.specs.Prelude.{ℕ, zero, suc, ◌*◌, ◌≤◌, ◌<◌, ◌≡◌, true, List, [], length, take, get_or, set, replicate}
use Rattle.laws.specs.Lists.{tab, overlay}
use Rattle.model.specs.Setup.{Setup, in_limits, widest, verdict_length}
use Rattle.model.specs.Timestamp.{Timestamp}
use Rattle.model.specs.Tick.{holdback_size}
use Rattle.splice.specs.Bytes.{pasted, part}
use Rattle.timestamp.specs.Views.{stamp_of}
use Rattle.stations.specs.declared.Station.{Station}
use Rattle.trace.specs.Trace.{largest_holdback}
use Rattle.trace.specs.Replay.{Turn}
use Rattle.playing.specs.Playing.{text_room}
use Rattle.rehearsal.specs.Step.{station_of, heard_count, step_number}
use Rattle.rehearsal.specs.Group.{Player, Group, labelled, Stepped, step_turn, called_step}
use Rattle.rehearsal.specs.Views.{sent_of, Kept, with_frame}
use Rattle.rehearsal.specs.declared.step.Rehearsal.{Rehearsal}
use Rattle.rehearsal.specs.declared.step.Rehearsed.{Rehearsed}

-- a station, with its hold-back queue (01: shelf)
abbrev pub player_of : Station → List ℕ → Player
player_of one holdback = record { ticks = one.ticks; tables = stamp_of one.tables; holdback = holdback }

-- what stands at a place of the list that there is not
abbrev pub no_station : Station
no_station = record { ticks = 0; tables = record { r = 0; c = 0; kn = [] } }

abbrev pub station_at : Rehearsal → ℕ → Station
station_at y j = get_or y.stations j no_station

-- the hold-back queues stand one after the other: that of station `j`
unfoldable pub queue_of : Setup → List ℕ → ℕ → List ℕ
queue_of s holdbacks j = part holdbacks (j * holdback_size s) (holdback_size s)

-- the list has places for the most stations that there can be; the first n of them are the group's
unfoldable pub players_of : Setup → List Station → List ℕ → List Player
players_of s stations holdbacks = tab s.n (λ j. player_of (get_or stations j no_station) (queue_of s holdbacks j))

unfoldable pub group_of : Setup → Rehearsal → List ℕ → List ℕ → Group
group_of s y holdbacks slots = record { stations = players_of s y.stations holdbacks; sent = sent_of y.steps slots }

-- a group in which no step was called
abbrev pub new_rehearsal : Rehearsal
new_rehearsal =
    record {
      stations = replicate 16 (record { ticks = 0; tables = record { r = 0; c = 0; kn = replicate widest 0 } });
      steps = 0;
    }

-- one station replaced, and a step more
abbrev pub moved_by : Rehearsal → ℕ → Station → Rehearsal
moved_by y at one = record { stations = set y.stations at one; steps = suc y.steps }

-- a group whose steps can be called: a setup with which the ticks can start, a hold-back queue for each station, and the frames of the steps so
-- far. No station has had more ticks than there were steps
pub record Standing (s : Setup) (y : Rehearsal) (holdbacks slots : List ℕ) : Type 0 where
  pub limits : in_limits s ≡ true
  pub small : holdback_size s ≤ largest_holdback
  pub queues : s.n * holdback_size s ≤ length holdbacks
  pub kept : Kept y.steps slots
  pub places : length y.stations ≡ 16
  pub ticks : (j : ℕ) → j < 16 → (station_at y j).ticks ≤ y.steps

-- there can be a step more, and the bytes are one
pub record Called (s : Setup) (y : Rehearsal) (holdbacks slots bytes : List ℕ) : Type 0 where
  pub standing : Standing s y holdbacks slots
  pub most : y.steps < 1000
  pub good : step_number s.n (sent_of y.steps slots) bytes ≡ 0

-- what the tick of a station asks
pub record Lent (s : Setup) (at : ℕ) (holdbacks lines : List ℕ) : Type 0 where
  pub limits : in_limits s ≡ true
  pub small : holdback_size s ≤ largest_holdback
  pub queues : s.n * holdback_size s ≤ length holdbacks
  pub member : at < s.n
  pub room : text_room ≤ length lines

-- a step that is called
abbrev pub called_by : Setup → Group → List ℕ → Stepped
called_by s group bytes = called_step s group bytes (step_turn s group bytes)

-- what a step answers, and the group and the text as it left them
pub record Outcome : Type 0 where
  pub number : ℕ
  pub group : Group
  pub verdicts : List ℕ
  pub size : ℕ
  pub text : List ℕ

abbrev pub outcome_of : Setup → Rehearsed → List ℕ → List ℕ → List ℕ → Outcome
outcome_of s r holdbacks slots text =
    record {
      number = r.number;
      group = group_of s r.group holdbacks slots;
      verdicts = take r.heard r.verdicts;
      size = r.size;
      text = text;
    }

-- a step, with its lines in a buffer: bytes beyond them stay
unfoldable pub outcome_by : Stepped → List ℕ → Outcome
outcome_by one text =
    record {
      number = one.number;
      group = one.group;
      verdicts = one.verdicts;
      size = length one.text;
      text = overlay one.text text;
    }

-- what a step answers that is not called
abbrev pub not_called_by : ℕ → Rehearsal → Rehearsed
not_called_by number group = record { number = number; group = group; heard = 0; verdicts = replicate verdict_length 0; size = 0 }

-- ---- every byte that a step leaves

-- a station that has had so many ticks, with the tables that the latest left
abbrev pub station_by : ℕ → Timestamp → Station
station_by ticks tables = record { ticks = ticks; tables = record { r = tables.r; c = tables.c; kn = tables.kn } }

-- what a step answers that is called: of the list one station is replaced, and all verdict bytes are the tick's
abbrev pub answer_by : Rehearsal → List ℕ → Turn → Rehearsed
answer_by y bytes one =
    record {
      number = one.number;
      group = moved_by y (station_of bytes) (station_by (suc (station_at y (station_of bytes)).ticks) one.tables);
      heard = heard_count bytes;
      verdicts = one.verdicts;
      size = length (labelled (station_of bytes) one.text);
    }

-- what a step answers, and the buffers that it was lent, as it left them
pub record Left : Type 0 where
  pub answer : Rehearsed
  pub holdbacks : List ℕ
  pub slots : List ℕ
  pub text : List ℕ

abbrev pub left_of : Rehearsed → List ℕ → List ℕ → List ℕ → Left
left_of answer holdbacks slots text = record { answer = answer; holdbacks = holdbacks; slots = slots; text = text }

-- a step that is called writes the hold-back queue of its station, the entry of its frame and its lines; every other byte stays
unfoldable pub left_called : Setup → Rehearsal → List ℕ → List ℕ → List ℕ → List ℕ → Turn → Left
left_called s y holdbacks slots bytes text one =
    left_of (answer_by y bytes one) (pasted holdbacks (station_of bytes * holdback_size s) one.holdback)
    (with_frame slots y.steps (take one.sent one.outgoing)) (overlay (labelled (station_of bytes) one.text) text)

-- bytes that are no step of this group are not called: every byte stays
abbrev pub left_by : ℕ → Setup → Rehearsal → List ℕ → List ℕ → List ℕ → List ℕ → Left
left_by zero s y holdbacks slots bytes text =
    left_called s y holdbacks slots bytes text (step_turn s (group_of s y holdbacks slots) bytes)
left_by (suc k) s y holdbacks slots bytes text = left_of (not_called_by (suc k) y) holdbacks slots text

-- one step
unfoldable pub step_left : Setup → Rehearsal → List ℕ → List ℕ → List ℕ → List ℕ → Left
step_left s y holdbacks slots bytes text = left_by (step_number s.n (sent_of y.steps slots) bytes) s y holdbacks slots bytes text
