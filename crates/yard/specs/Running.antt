-- What the functions of the program ask of their arguments, and what they leave. Assumes nothing.
use Rattle.std.specs.Prelude.{ℕ, ◌*◌, ◌≤◌, ◌<◌, ◌≡◌, Bool, true, false, List, [], ◌∷◌, map, length}
use Rattle.laws.specs.Lists.{overlay}
use Rattle.model.specs.Setup.{Setup, in_limits}
use Rattle.model.specs.Holdback.{encode_holdback}
use Rattle.model.specs.Tick.{holdback_size}
use Rattle.trace.specs.Trace.{largest_holdback, end_number}
use Rattle.playing.specs.Playing.{text_room}
use Rattle.rehearsal.specs.Step.{most_steps, longest_step}
use Rattle.rehearsal.specs.Group.{new_group, Stepped, stepped}
use Rattle.rehearsal.specs.Calls.{stepped_all}
use Rattle.rehearsal.specs.Views.{figures_of, figures_text}
use Rattle.rehearsal.specs.Standing.{queue_of, group_of, new_rehearsal, Left, step_left}
use Rattle.rehearsal.specs.declared.step.Rehearsal.{Rehearsal}
use Rattle.yard.specs.declared.Progress.{Progress}

-- a setup with which the ticks of every station can start
pub record Usable (s : Setup) : Type 0 where
  pub limits : in_limits s ≡ true
  pub small : holdback_size s ≤ largest_holdback

-- before the first step: 02: "shelf empty", a slot for each step, room for a step's bytes, and for its lines
pub record Begun (s : Setup) (steps : ℕ) (holdbacks slots bytes text : List ℕ) : Type 0 where
  pub usable : Usable s
  pub few : steps ≤ most_steps
  pub queues : s.n * holdback_size s ≤ length holdbacks
  pub empty : (j : ℕ) → j < s.n → queue_of s holdbacks j ≡ encode_holdback (holdback_size s) []
  pub size : length slots ≡ 72000
  pub space : longest_step ≤ length bytes
  pub room : 4 * text_room ≤ length text

-- before the first step nothing is refused
unfoldable pub begun_group : Setup → Stepped
begun_group s = record { number = 0; group = new_group s; verdicts = []; text = [] }

-- from `before` the steps whose bytes are listed lead to `after`: each is taken in the group that the one before left, and none after a refusal
unfoldable pub BySteps : Setup → Stepped → List (List ℕ) → Stepped → Type 0
BySteps s before [] after = before ≡ after
BySteps s before (bytes ∷ rest) after = (before.number ≡ 0) × BySteps s (stepped s before.group bytes) rest after

-- the verdicts of each step
unfoldable pub verdicts_by : Setup → List (List ℕ) → List (List ℕ)
verdicts_by s came = map (λ (one : Stepped). one.verdicts) (stepped_all s (new_group s) came)

-- all that stands between two steps: what is kept of the group, and the buffers that each step is lent
pub record Buffers : Type 0 where
  pub group : Rehearsal
  pub holdbacks : List ℕ
  pub slots : List ℕ
  pub text : List ℕ

abbrev pub buffers_of : Rehearsal → List ℕ → List ℕ → List ℕ → Buffers
buffers_of group holdbacks slots text = record { group = group; holdbacks = holdbacks; slots = slots; text = text }

-- every byte of it after a step
unfoldable pub buffers_after : Setup → Buffers → List ℕ → Buffers
buffers_after s b bytes =
    let left : Left = step_left s b.group b.holdbacks b.slots bytes b.text in
    buffers_of left.answer.group left.holdbacks left.slots left.text

-- and after several, one after the other
unfoldable pub buffers_by : Setup → Buffers → List (List ℕ) → Buffers
buffers_by s b [] = b
buffers_by s b (bytes ∷ rest) = buffers_by s (buffers_after s b bytes) rest

-- where the closing lines are made, they stand at the start of the text
abbrev pub closed_by : Bool → List ℕ → Buffers → Buffers
closed_by true figures b = buffers_of b.group b.holdbacks b.slots (overlay (figures_text figures) b.text)
closed_by false figures b = b

-- what the steps come to, whatever bytes came: those of each step, and how many more after the last; and whether the closing lines were made, as
-- they are not where lines could not be written
pub record Ran (s : Setup) (steps : ℕ) (p : Progress) (holdbacks₀ slots₀ text₀ holdbacks slots text : List ℕ) : Type 0 where
  pub came : List (List ℕ)
  pub more : ℕ
  pub closed : Bool
  pub last : Stepped
  pub turns : BySteps s (begun_group s) came last
  pub most : length came ≤ steps
  pub refused : (last.number ≡ 0 → ⊥) → p.number ≡ last.number
  pub ended : last.number ≡ 0 → p.number ≡ end_number more
  pub looked : length came < steps → more ≡ 0
  pub closes : closed ≡ true → (p.number ≡ 0) × (length came ≡ steps)
  pub group : group_of s p.group holdbacks slots ≡ last.group
  pub figures : p.figures ≡ figures_of (verdicts_by s came)
  -- every byte
  pub buffers : buffers_of p.group holdbacks slots text ≡ closed_by closed p.figures (buffers_by s (buffers_of new_rehearsal holdbacks₀ slots₀ text₀) came)

-- the end of a trace, whatever came: how many bytes more, and the closing lines where there are none
pub record Ended (figures before after : List ℕ) (number : ℕ) : Type 0 where
  pub more : ℕ
  pub number_is : number ≡ end_number more
  pub lines : number ≡ 0 → after ≡ overlay (figures_text figures) before
  pub stays : (number ≡ 0 → ⊥) → after ≡ before
