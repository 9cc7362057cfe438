-- 02, 2.8: the text that the program `yard` writes for the bytes that it reads. No contract can say what a program reads and writes; this is
-- what it is built from.
use Rattle.std.specs.Prelude.{ℕ, zero, suc, List, [], ◌∷◌, ◌++◌, length, take, drop}
use Rattle.model.specs.Setup.{Setup}
use Rattle.trace.specs.Trace.{trace_setup, setup_number, count_length, tick_count, end_number}
use Rattle.trace.specs.Replay.{stopped}
use Rattle.rehearsal.specs.Step.{group_setup_length, steps_number, step_end}
use Rattle.rehearsal.specs.Group.{Group, new_group, Stepped, stepped}
use Rattle.rehearsal.specs.Closing.{figure_lines}

-- the lines of `k` steps; `verdicts` has those of the steps before them. 02: "seven lines after an unrefused run"
unfoldable pub rehearse_steps : Setup → ℕ → Group → List (List ℕ) → List ℕ → List ℕ
rehearse_steps s zero group verdicts bytes = stopped (end_number (length bytes)) (figure_lines verdicts)
rehearse_steps s (suc k) group verdicts bytes =
    let one : Stepped = stepped s group (take (step_end bytes) bytes) in
    one.text
    ++ stopped one.number (rehearse_steps s k one.group (verdicts ++ (one.verdicts ∷ [])) (drop (step_end bytes) bytes))

-- all that follows the setup
unfoldable pub rehearse_from : Setup → List ℕ → List ℕ
rehearse_from s bytes = stopped (steps_number bytes) (rehearse_steps s (tick_count bytes) (new_group s) [] (drop count_length bytes))

-- the setup's bytes; the own number, which is not there, reads as 0
unfoldable pub group_setup : List ℕ → List ℕ
group_setup bytes = take group_setup_length bytes

-- 02: "All else is as in replay": the setup is judged once read
unfoldable pub rehearsal : List ℕ → List ℕ
rehearsal bytes =
    stopped (setup_number group_setup_length (group_setup bytes)) (rehearse_from (trace_setup (group_setup bytes)).setup (drop group_setup_length bytes))
