-- `splice::part` meets its contract. Assumes nothing.
use Prim.Native.Nat.{◌+◌, ◌-◌}
use mathlib.Core.Path.{◌≡◌, sym, ap, ◌∙◌}
use lib.ListN.{length, take, drop, length-drop, drop_of_length-le}
use lib.Seq.{take_all, take-nil}
use native.Mathlib.Omega.{arith}
use Rattle.splice.proofs.part.Goals as goal

pub returns-then-s-from : goal.returns-then-s-from
returns-then-s-from c =
    let args = c.args in
    sym (ap (take args.size) (drop_of_length-le args.s.now {i = args.from} (omega arith)) ∙ take-nil args.size)

pub returns-then-s-from-2 : goal.returns-then-s-from-2
returns-then-s-from-2 c =
    let args = c.args in
    let size = length-drop args.from args.s.now in
    take_all (length args.s.now - args.from) (drop args.from args.s.now) (omega arith)
    ∙ sym (take_all args.size (drop args.from args.s.now) (omega arith))

pub returns : goal.returns
returns c =
    let args = c.args in
    let e : args.from + args.size - args.from ≡ args.size = omega arith in
    rw e
