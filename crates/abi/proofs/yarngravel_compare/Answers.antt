-- `abi::yarngravel_compare` meets its contract. Assumes nothing.
use native.Mathlib.Omega.{arith}
use mathlib.Core.Path.{◌∙◌, ap}
use Rattle.model.specs.Comparison.{CompareAnswer}
use Rattle.comparing.proofs.Asking.{call-small}
use Rattle.abi.specs.Packing.{setup_by, packed_comparison}
use Rattle.abi.proofs.yarngravel_compare.Goals as goal

pub pack_compared-requires : goal.pack_compared-requires
pack_compared-requires c =
    let a = c.args in
    omega (
      arith,
      ap (λ (x : CompareAnswer). x.clock) c.compare_call-compared.ensures,
      call-small (setup_by a.n a.epsilon a.delta a.modulus) a.own a.clock a.first.now a.second.now,
    )

pub returns : goal.returns
returns c = c.pack_compared.ensures ∙ ap packed_comparison c.compare_call-compared.ensures
