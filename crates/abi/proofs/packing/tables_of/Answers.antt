-- `abi::packing::tables_of` meets its contract. Assumes nothing.
use Prim.Native.Nat.{ℕ}
use native.Mathlib.Omega.{arith}
use mathlib.Core.Path.{◌≡◌, ◌∙◌, ap}
use Rattle.timestamp.specs.Views.{stamp_of}
use Rattle.abi.specs.Packing.{tables_at, tables_in, tables_bytes}
use Rattle.abi.proofs.Words.{tables-same}
use Rattle.abi.proofs.packing.tables_of.Goals.{After-tables_at}
use Rattle.abi.proofs.packing.tables_of.Goals as goal

there : (c : After-tables_at) → stamp_of c.tables_at.result ≡ tables_in c.args.s.now
unfolding tables_in
there c = c.tables_at.ensures ∙ ap (λ (r : ℕ). tables_at 2 r c.args.s.now) c.two_at.ensures

pub returns : goal.returns
returns c = record { result_value = there (goal.at.returns c).After-tables_at; result_value_2 = ap tables_bytes (there (goal.at.returns c).After-tables_at) ∙ tables-same c.args.s.now c.requires (λ i. omega (arith, c.shared_slice_known-1.given i)) }
