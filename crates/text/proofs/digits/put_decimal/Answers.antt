-- `text::digits::put_decimal` meets its contract. Assumes nothing.
use Rattle.text.proofs.Putting.{put-digits-decimal}
use Rattle.text.proofs.Numerals.{length-decimal}
use native.Mathlib.Omega.{arith}
use Rattle.text.proofs.digits.put_decimal.Goals as goal

pub put_digits-requires : goal.put_digits-requires
put_digits-requires c = omega (arith, length-decimal c.args.x)

pub returns : goal.returns
returns c = put-digits-decimal c.args.at c.digit_count-count.result c.args.x c.digit_count-count.ensures.0 c.put_digits.ensures
