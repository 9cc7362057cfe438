-- The words of a reason, case by case. Assumes nothing.
use Prim.Native.Nat.{ℕ, ◌+◌, ◌≤◌}
use native.Mathlib.Omega.{arith}
use mathlib.Core.Path.{◌≡◌, sym, ap}
use mathlib.Core.List.{List}
use lib.ListN.{length}
use Rattle.timestamp.specs.declared.ordering.Reason.{Reason}
use Rattle.timestamp.specs.declared.ordering.Comparison.{Comparison}
use Rattle.timestamp.specs.Ranks.{reason_of, comparison_of}
use Rattle.text.specs.Text.{digit_count, field}
use Rattle.text.proofs.Putting.{length-field}
use Rattle.trace.specs.Text.{count_word, reason_text}

-- of a reason that is told
pub words_are : {r q : Reason} → r ≡ q → reason_text (reason_of q) ≡ reason_text (reason_of r)
words_are e = sym (ap (λ (x : Reason). reason_text (reason_of x)) e)

pub decided-words : {o p : Comparison} → o ≡ p → reason_text (comparison_of p).reason ≡ reason_text (comparison_of o).reason
decided-words e = sym (ap (λ (x : Comparison). reason_text (comparison_of x).reason) e)

-- how long they are
pub count-size : (clock n : ℕ) (text : List ℕ) → field count_word clock ≡ text → n ≡ digit_count clock → n ≤ 20 → (7 + n ≡ length text) × (7 + n ≤ 27)
count-size clock n text e d most = (omega (arith, ap length e, length-field count_word clock), omega arith)
