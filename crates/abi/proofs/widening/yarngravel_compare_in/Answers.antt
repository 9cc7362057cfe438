-- `abi::yarngravel_compare_in` meets its contract. Assumes nothing.
use Prim.Native.Nat.{ℕ}
use native.Mathlib.Omega.{arith}
use mathlib.Core.Path.{◌≡◌, ◌∙◌, ap}
use Rattle.model.specs.Setup.{Setup}
use Rattle.model.specs.Schedule.{Wider}
use Rattle.model.specs.Comparison.{CompareAnswer}
use Rattle.model.specs.WiderCalls.{compare_in}
use Rattle.setup.specs.Views.{setup_of}
use Rattle.pairs.specs.Views.{wider_of}
use Rattle.abi.specs.Packing.{packed_comparison}
use Rattle.abi.specs.Both.{setup_in, own_in, wider_in}
use Rattle.abi.proofs.Both.{compared-small-in}
use Rattle.abi.proofs.widening.yarngravel_compare_in.Goals.{After-compare_in-compared}
use Rattle.abi.proofs.widening.yarngravel_compare_in.Goals as goal

-- the answer, from the numbers
made : (c : After-compare_in-compared) → let a = c.args in
    (x : CompareAnswer) → x ≡ compare_in (setup_of c.setup_of-before.result) (wider_of c.wider_of-wider.result) c.own_of-own.result a.clock a.first.now a.second.now
    → x ≡ compare_in (setup_in a.setup.now) (wider_in a.setup.now) (own_in a.setup.now) a.clock a.first.now a.second.now
made c x e =
    let a = c.args in
    e
    ∙ (ap (λ (s : Setup). compare_in s (wider_of c.wider_of-wider.result) c.own_of-own.result a.clock a.first.now a.second.now) c.setup_of-before.ensures
    ∙ (ap (λ (w : Wider). compare_in (setup_in a.setup.now) w c.own_of-own.result a.clock a.first.now a.second.now) c.wider_of-wider.ensures
    ∙ ap (λ (k : ℕ). compare_in (setup_in a.setup.now) (wider_in a.setup.now) k a.clock a.first.now a.second.now) c.own_of-own.ensures))

pub pack_compared-requires : goal.pack_compared-requires
pack_compared-requires c =
    let a = c.args in
    omega (
      arith,
      ap (λ (x : CompareAnswer). x.clock) (made (goal.at.pack_compared-requires c).After-compare_in-compared _ c.compare_in-compared.ensures),
      compared-small-in (setup_in a.setup.now) (wider_in a.setup.now) (own_in a.setup.now) a.clock a.first.now a.second.now,
    )

pub returns : goal.returns
returns c = c.pack_compared.ensures ∙ ap packed_comparison (made (goal.at.returns c).After-compare_in-compared _ c.compare_in-compared.ensures)
