-- A step's bytes: what stands where, and where it ends. Assumes nothing.
use Prim.Native.Nat.{ℕ, ◌+◌, ◌*◌, ◌≤◌, ◌<◌}
use mathlib.Core.Path.{◌≡◌, refl, ap, ◌∙◌}
use mathlib.Core.List.{List}
use native.Mathlib.Omega.{arith}
use lib.ListN.{length, get_or}
use lib.Seq.{get_or-drop}
use borrow.Author.Tests.{le-leb, lt-leb}
use Rattle.model.specs.Frame.{two_at}
use Rattle.model.specs.Question.{first_no}
use Rattle.trace.specs.Trace.{tick_count, batch_at, payload_size}
use Rattle.rehearsal.specs.Step.{steps_number, tick_part, heard_at, heard_count, heard_number, step_end}

-- ---- the count of steps, judged

pub count_cut : (s : List ℕ) → length s < 2 → 5 ≡ steps_number s
unfolding steps_number first_no
count_cut s h = rw (lt-leb 2 (length s) h)

pub count-large : (s : List ℕ) (count : ℕ) → count ≡ tick_count s → 2 ≤ length s → 1000 < count → 5 ≡ steps_number s
unfolding steps_number first_no
count-large s count e h k = rw (le-leb 2 (length s) h, lt-leb (tick_count s) 1000 (omega arith))

pub count-good : (s : List ℕ) (count : ℕ) → count ≡ tick_count s → 2 ≤ length s → count ≤ 1000 → 0 ≡ steps_number s
unfolding steps_number first_no
count-good s count e h k = rw (le-leb 2 (length s) h, le-leb (tick_count s) 1000 (omega arith))

-- ---- where the count of the frames heard stands, what it is, and where the step ends

pub heard-at-is : (s : List ℕ) → heard_at s ≡ 5 + get_or s 4 0
unfolding heard_at batch_at payload_size tick_part
heard-at-is s = omega (arith, get_or-drop 1 s 3 0)

pub heard-count-is : (s : List ℕ) (at count : ℕ) → at ≡ heard_at s → count ≡ get_or s at 0 → count ≡ heard_count s
unfolding heard_count
heard-count-is s at count e h = h ∙ ap (λ (i : ℕ). get_or s i 0) e

pub heard-number-is : (s : List ℕ) (at i number : ℕ) → at ≡ heard_at s → number ≡ two_at s (at + 1 + 2 * i) → number ≡ heard_number s i
unfolding heard_number
heard-number-is s at i number e h = h ∙ ap (λ (k : ℕ). two_at s (k + 1 + 2 * i)) e

pub step-end-is : (s : List ℕ) → step_end s ≡ heard_at s + 1 + 2 * heard_count s
unfolding step_end
step-end-is s = refl
