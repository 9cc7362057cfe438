-- `abi::packing::long_tables_of` meets its contract. Assumes nothing.
use Prim.Native.Nat.{ℕ}
use native.Mathlib.Omega.{arith}
use mathlib.Core.Path.{◌≡◌, ◌∙◌, ap}
use Rattle.splice.proofs.Laws.{low-first-number}
use Rattle.timestamp.specs.Views.{stamp_of}
use Rattle.abi.specs.Packing.{tables_at, long_tables_in, long_tables_bytes}
use Rattle.abi.proofs.Words.{long-tables-same}
use Rattle.abi.proofs.packing.long_tables_of.Goals.{After-tables_at}
use Rattle.abi.proofs.packing.long_tables_of.Goals as goal

there : (c : After-tables_at) → stamp_of c.tables_at.result ≡ long_tables_in c.args.s.now
unfolding long_tables_in
there c =
    let s = c.args.s.now in
    c.tables_at.ensures ∙ ap (λ (r : ℕ). tables_at 8 r s) (c.eight_at.ensures ∙ low-first-number 8 s 0)

pub returns : goal.returns
returns c = record { result_value = there (goal.at.returns c).After-tables_at; result_value_2 = ap long_tables_bytes (there (goal.at.returns c).After-tables_at) ∙ long-tables-same c.args.s.now c.requires (λ i. omega (arith, c.shared_slice_known-1.given i)) }
