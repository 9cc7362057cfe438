-- What the functions of the program ask of their arguments, and what they leave. Assumes nothing.
use Rattle.std.specs.Prelude.{ℕ, zero, suc, ◌≤◌, ◌<◌, ◌≡◌, List, [], ◌∷◌, length}
use Rattle.model.specs.Holdback.{encode_holdback}
use Rattle.model.specs.Tick.{holdback_size}
use Rattle.timestamp.specs.Views.{stamp_of}
use Rattle.trace.specs.Trace.{NodeSetup, longest_tick, end_number}
use Rattle.trace.specs.Replay.{Turn, turn_at, begun}
use Rattle.playing.specs.Playing.{Ready, text_room}
use Rattle.replay.specs.declared.Progress.{Progress}

-- the buffers before the first tick: 01: "shelf empty", room for a tick's bytes, and for its lines
pub record Begun (s : NodeSetup) (holdback bytes text : List ℕ) : Type 0 where
  pub ready : Ready s
  pub empty : holdback ≡ encode_holdback (holdback_size s.setup) []
  pub space : longest_tick ≤ length bytes
  pub room : text_room ≤ length text

-- from `before` the ticks whose bytes are listed lead to `after`: each is called with what the one before left, and none after a refusal. `i` ticks came before
unfoldable pub ByTurns : NodeSetup → ℕ → Turn → List (List ℕ) → Turn → Type 0
ByTurns s i before [] after = before ≡ after
ByTurns s i before (bytes ∷ rest) after =
    (before.number ≡ 0) × ByTurns s (suc i) (turn_at i s before.tables before.holdback bytes) rest after

-- the first of two numbers that is not 0
abbrev pub first_of : ℕ → ℕ → ℕ
first_of zero y = y
first_of (suc x) y = suc x

-- what the ticks come to, whatever bytes came: those of each tick, and how many more after the last
pub record Ran (s : NodeSetup) (ticks : ℕ) (p : Progress) (holdback : List ℕ) : Type 0 where
  pub came : List (List ℕ)
  pub more : ℕ
  pub last : Turn
  pub turns : ByTurns s 0 (begun s) came last
  pub count : p.station.ticks ≡ length came
  pub most : p.station.ticks ≤ ticks
  pub number : p.number ≡ first_of last.number (end_number more)
  pub looked : p.station.ticks < ticks → more ≡ 0
  pub tables : stamp_of p.station.tables ≡ last.tables
  pub queue : holdback ≡ last.holdback
