-- `abi::packing::last_of` meets its contract. Assumes nothing.
use native.Mathlib.Omega.{arith}
use mathlib.Core.Path.{◌∙◌, ap}
use Rattle.model.specs.Frame.{two_bytes}
use Rattle.abi.proofs.Words.{last-same}
use Rattle.abi.proofs.packing.last_of.Goals as goal

pub two_at-requires : goal.two_at-requires
two_at-requires c = omega arith

pub returns : goal.returns
returns c = (c.two_at.ensures, ap two_bytes c.two_at.ensures ∙ last-same c.args.bytes.now c.requires (λ i. omega (arith, c.shared_slice_known-1.given i)))
