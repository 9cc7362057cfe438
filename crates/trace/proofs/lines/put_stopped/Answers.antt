-- `trace::lines::put_stopped` meets its contract. Assumes nothing.
use Prim.Native.Nat.{ℕ, zero, suc, ◌+◌, ◌≤◌}
use native.Mathlib.Omega.{arith}
use mathlib.Core.Path.{◌≡◌, refl, ap, ◌∙◌}
use mathlib.Core.List.{List, []}
use lib.ListN.{length}
use Rattle.text.specs.Text.{Put}
use Rattle.trace.specs.Text.{refused_line, text_written, text_end}
use Rattle.trace.specs.Replay.{stopped}
use Rattle.text.proofs.Putting.{put-nothing}
use Rattle.trace.proofs.Putting.{put-end, put_written}
use Rattle.trace.proofs.lines.put_stopped.Goals as goal

-- nothing
none : (l : List ℕ) (number : ℕ) → number ≡ 0 → Put l 0 (stopped number []) l 0
none l zero e = put-nothing l 0
none l (suc k) e = absurd (omega (arith, e))

short : (l : List ℕ) (number : ℕ) → number ≡ 0 → 0 + length (stopped number []) ≤ length l
short l zero e = omega arith
short l (suc k) e = absurd (omega (arith, e))

-- the line
line : (number : ℕ) → (number ≡ 0 → ⊥) → refused_line number ≡ stopped number []
line zero h = absurd (h refl)
line (suc k) h = refl

pub returns-then-number-eq0 : goal.returns-then-number-eq0
returns-then-number-eq0 c =
    let args = c.args in
    record { value = put-end (short args.buf.now args.number c.if-number-eq0.true) (none args.buf.now args.number c.if-number-eq0.true); buf_after = put_written (short args.buf.now args.number c.if-number-eq0.true) (none args.buf.now args.number c.if-number-eq0.true) }

pub returns : goal.returns
returns c =
    let args = c.args in
    let same = line args.number c.if-number-eq0.false in
    record { value = c.put_refused.ensures.value ∙ ap (text_end args.buf.now 0) same; buf_after = c.put_refused.ensures.buf_after ∙ ap (text_written args.buf.now 0) same }
