-- What reading a step as it comes rests on: whoever reads up to where it ends so far never reads past the step, and a step that is whole stays so.
-- So the definition of the whole program is what reading step by step gives. Assumes nothing.
use Prim.Native.Nat.{ℕ, suc, ◌+◌, ◌≤◌, ◌<◌}
use mathlib.Core.Path.{◌≡◌, sym, ap, ◌∙◌}
use mathlib.Core.List.{List, [], ◌∷◌, ◌++◌}
use mathlib.Core.Logic.{⊎_elim}
use native.Mathlib.Omega.{arith}
use lib.ListN.{length, get_or, get_or-append, get_or-eq_default}
use lib.Seq.{take_all, take-append_seam, drop-append_seam}
use borrow.Author.Tests.{ne_eqb}
use Rattle.laws.proofs.Numbers.{lt-or-ge}
use Rattle.model.specs.Setup.{Setup}
use Rattle.model.specs.Question.{first_no}
use Rattle.trace.specs.Text.{refused_line}
use Rattle.trace.specs.Replay.{stopped}
use Rattle.rehearsal.specs.Step.{heard_at, heard_count, step_end, step_number}
use Rattle.rehearsal.specs.Group.{Group, stepped}
use Rattle.rehearsal.specs.Rehearsal.{rehearse_steps}
use Rattle.rehearsal.proofs.Steps.{heard-at-is, step-end-is}

-- ---- a step, of which the first bytes are there

at_same : (s t : List ℕ) → 4 < length s → heard_at (s ++ t) ≡ heard_at s
at_same s t h = heard-at-is (s ++ t) ∙ ap (λ (n : ℕ). 5 + n) (get_or-append s t 0 4 h) ∙ sym (heard-at-is s)

-- the count of the frames heard is there
count_same : (s t : List ℕ) → 4 < length s → heard_at s < length s → heard_count (s ++ t) ≡ heard_count s
unfolding heard_count
count_same s t h k = ap (λ (i : ℕ). get_or (s ++ t) i 0) (at_same s t h) ∙ get_or-append s t 0 (heard_at s) k

-- it is not
count_none : (s : List ℕ) → length s ≤ heard_at s → heard_count s ≡ 0
unfolding heard_count
count_none s h = get_or-eq_default s 0 {n = heard_at s} h

-- what it has so far belongs to the step, whatever comes
pub never-past : (s t : List ℕ) → step_end s ≤ step_end (s ++ t)
never-past s t =
    ⊎_elim
    (λ there.
    ⊎_elim (λ counted. omega (arith, step-end-is s, step-end-is (s ++ t), at_same s t there, count_same s t there counted))
    (λ none. omega (arith, step-end-is s, step-end-is (s ++ t), at_same s t there, count_none s none))
    (lt-or-ge (heard_at s) (length s)))
    (λ short.
    let none : get_or s 4 0 ≡ 0 = get_or-eq_default s 0 {n = 4} short in
    let least : heard_at s ≡ 5 = omega (arith, heard-at-is s) in
    omega (arith, step-end-is s, step-end-is (s ++ t), heard-at-is (s ++ t), count_none s (omega arith)))
    (lt-or-ge 4 (length s))

-- with all of it there, where it ends
pub stays-whole : (s t : List ℕ) → step_end s ≤ length s → step_end (s ++ t) ≡ step_end s
stays-whole s t h =
    let there : 4 < length s = omega (arith, step-end-is s, heard-at-is s) in
    omega (arith, step-end-is s, step-end-is (s ++ t), at_same s t there, count_same s t there (omega (arith, step-end-is s)))

-- ---- so the lines of a trace are those of its steps, read one by one

-- the next step is there, whole
pub next-whole : (s : Setup) (k : ℕ) (group : Group) (verdicts : List (List ℕ)) (mine rest : List ℕ) → step_end mine ≡ length mine
    → rehearse_steps s (suc k) group verdicts (mine ++ rest)
    ≡ (stepped s group mine).text
    ++ stopped (stepped s group mine).number
    (rehearse_steps s k (stepped s group mine).group (verdicts ++ ((stepped s group mine).verdicts ∷ [])) rest)
unfolding rehearse_steps
next-whole s k group verdicts mine rest e =
    let ends : step_end (mine ++ rest) ≡ length mine = stays-whole mine rest (omega arith) ∙ e in
    rw (ends, take-append_seam mine rest, drop-append_seam mine rest)

cut-number : (n : ℕ) (sent : List (List ℕ)) (mine : List ℕ) → length mine < step_end mine → step_number n sent mine ≡ 5
unfolding step_number first_no
cut-number n sent mine h = rw (ne_eqb (step_end mine) (length mine) (λ e. omega arith))

-- the trace ends in it
pub next-cut : (s : Setup) (k : ℕ) (group : Group) (verdicts : List (List ℕ)) (mine : List ℕ) → length mine < step_end mine
    → rehearse_steps s (suc k) group verdicts mine ≡ refused_line 5
unfolding rehearse_steps stepped
next-cut s k group verdicts mine h = rw (take_all (step_end mine) mine (omega arith), cut-number s.n group.sent mine h)
