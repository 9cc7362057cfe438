-- `abi::packing::pack_next` meets its contract: case by case. Assumes nothing.
use native.Mathlib.Omega.{arith}
use mathlib.Core.Path.{sym, ap}
use Rattle.polling.specs.declared.front.Next.{Next}
use Rattle.polling.specs.Answers.{next_of}
use Rattle.abi.specs.Packing.{next_bits}
use Rattle.abi.proofs.Words.{small-clock}
use Rattle.abi.proofs.packing.pack_next.Goals as goal

pub overflow_mul-result : goal.overflow_mul-result
overflow_mul-result c = omega (arith, small-clock c.args.next c.in-At.clock c.in-At.is c.requires)

pub overflow_add-result : goal.overflow_add-result
overflow_add-result c = omega (arith, small-clock c.args.next c.in-At.clock c.in-At.is c.requires)

pub returns-in-At : goal.returns-in-At
returns-in-At c = (
  sym (ap (λ (next : Next). next_bits (next_of next)) c.in-At.is),
  omega (arith, small-clock c.args.next c.in-At.clock c.in-At.is c.requires),
)
