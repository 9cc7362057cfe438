-- `text::digits::digit_count` meets its contract. Assumes nothing.
use mathlib.Core.Path.{sym}
use native.Mathlib.Omega.{arith}
use Rattle.text.proofs.Numerals.{digit_count-power}
use Rattle.text.proofs.digits.digit_count.Goals as goal

pub returns : goal.returns
returns c = (sym (digit_count-power c.ilog10.result c.args.x (omega arith) (omega arith)), omega arith)
