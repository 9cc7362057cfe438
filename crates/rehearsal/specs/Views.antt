-- What the code's buffers and numbers say in the terms of `Step`, `Group` and `Closing`. Assumes nothing.
use Rattle.std.specs.Prelude.{ℕ, zero, suc, ◌+◌, ◌*◌, ◌-◌, ◌≤◌, ◌<◌, ◌≡◌, Bool, true, ◌&&◌, cond, List, [], ◌∷◌, ◌++◌, map, eqb, length, take, drop, get_or, set}
use Rattle.std.proofs.Math.Option.{Option, none, some}
use Rattle.laws.specs.Lists.{tab, within, every, joined}
use Rattle.splice.specs.Bytes.{pasted}
use Rattle.text.specs.Text.{decimal, space}
use Rattle.rehearsal.specs.Step.{heard_numbers, step_end, is_sent}
use Rattle.rehearsal.specs.Closing.{first_refused, figure_line, check_numbers}

-- ---- the frames sent: a slot of 72 bytes for each step, a length byte and the frame; 0 where it sent none

-- the frame of slot `k`, which is that of step k + 1
unfoldable pub slot_frame : List ℕ → ℕ → List ℕ
slot_frame slots k = take (get_or slots (72 * k) 0) (drop (72 * k + 1) slots)

-- those of the first `steps` steps
unfoldable pub sent_of : ℕ → List ℕ → List (List ℕ)
sent_of steps slots = tab steps (slot_frame slots)

-- the slots of the first `steps` steps are filled
pub record Kept (steps : ℕ) (slots : List ℕ) : Type 0 where
  pub room : length slots ≡ 72000
  pub most : steps ≤ 1000
  pub sizes : (k : ℕ) → k < steps → get_or slots (72 * k) 0 ≤ 71

-- an entry of a batch: a length byte, and the frame
abbrev pub entry_of : List ℕ → List ℕ
entry_of frame = length frame ∷ frame

-- the slots, with the frame of slot `k`
unfoldable pub with_frame : List ℕ → ℕ → List ℕ → List ℕ
with_frame slots k frame = pasted slots (72 * k) (entry_of frame)

-- a step that can be made a tick of: it is whole, and each frame that it hears was sent
pub record Playable (sent : List (List ℕ)) (s : List ℕ) : Type 0 where
  pub whole : step_end s ≡ length s
  pub hears : every (is_sent sent) (heard_numbers s) ≡ true

-- the length of the longest tick that a step becomes: a ticket of 255 bytes, and 255 frames of 71
abbrev pub longest_turn : ℕ
longest_turn = 18620

-- ---- a text with a label before each line

-- 02: "its station and a space"
abbrev pub label_of : ℕ → List ℕ
label_of station = decimal station ++ space

-- a byte of the text, after the label where it starts a line
abbrev pub labelled_byte : Bool → ℕ → ℕ → List ℕ
labelled_byte starts station byte = cond starts (label_of station) [] ++ (byte ∷ [])

-- ---- the closing lines' numbers: one for each check number, 0 for none

abbrev pub figure_of : Option ℕ → ℕ
figure_of none = 0
figure_of (some k) = k

abbrev pub as_figure : ℕ → Option ℕ
as_figure zero = none
as_figure (suc k) = some (suc k)

unfoldable pub figures_of : List (List ℕ) → List ℕ
figures_of steps = map (λ number. figure_of (first_refused number steps)) check_numbers

-- what a verdict of the step with that number does to them: only the first refusal by a check counts
unfoldable pub noted : ℕ → List ℕ → ℕ → List ℕ
noted step figures number =
    cond (within 10 16 number && eqb (get_or figures (number - 10) 0) 0) (set figures (number - 10) step) figures

unfoldable pub noted_all : ℕ → List ℕ → List ℕ → List ℕ
noted_all step figures [] = figures
noted_all step figures (number ∷ rest) = noted_all step (noted step figures number) rest

-- the lines of the figures
unfoldable pub figures_text : List ℕ → List ℕ
figures_text figures = joined (λ number. figure_line number (as_figure (get_or figures (number - 10) 0))) check_numbers
