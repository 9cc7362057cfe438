-- `text::digits::put_digits` meets its contract. The invariant of its loop: the last digits are pasted, and those left are the first ones, of the rest. Assumes nothing.
use Prim.Native.Nat.{suc, ◌-◌}
use mathlib.Core.Path.{◌≡◌, sym, ◌∙◌}
use lib.Seq.{take_all}
use native.Mathlib.Omega.{arith}
use Rattle.splice.proofs.Laws.{starts, grows-left, ends}
use Rattle.text.specs.Text.{digits}
use Rattle.text.proofs.Numerals.{length_digits, front-last, front-before}
use Rattle.text.proofs.digits.put_digits.Goals as goal

pub loop-i-init : goal.loop-i-init
loop-i-init c =
    let args = c.args in
    let size = length_digits args.base args.count args.x in (
      starts args.buf.now args.at (digits args.base args.count args.x) args.count (omega arith) (omega arith),
      take_all args.count (digits args.base args.count args.x) (omega arith),
    )

pub loop-i-preserved : goal.loop-i-preserved
loop-i-preserved c =
    let args = c.args in
    let all = digits args.base args.count args.x in
    let e : c.loop-i.i ≡ suc (c.loop-i.i - 1) = omega arith in (
      grows-left c.loop-i.invariant.0
          (c.glyph_of.ensures ∙ sym (front-last args.base all c.loop-i.i c.loop-i.rest c.loop-i.invariant.1 (c.loop-i.i - 1) e))
          (omega arith),
      front-before args.base all c.loop-i.i c.loop-i.rest c.loop-i.invariant.1 (c.loop-i.i - 1) e,
    )

pub returns : goal.returns
returns c =
    let args = c.args in
    let size = length_digits args.base args.count args.x in
    ends c.loop-i.invariant.0 (omega arith) (omega arith)
