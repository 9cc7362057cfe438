-- `abi::packing::tables_at` meets its contract. Assumes nothing.
use native.Mathlib.Omega.{arith}
use mathlib.Core.Path.{refl}
use lib.ListN.{get_or}
use Rattle.abi.proofs.Words.{tables-read}
use Rattle.abi.proofs.packing.tables_at.Goals as goal

pub overflow_cast-c : goal.overflow_cast-c
overflow_cast-c c = omega (arith, c.shared_slice_known-2-1.given c.args.at)

pub returns : goal.returns
returns c =
    let a = c.args in
    tables-read a.at a.r (get_or a.s.now a.at 0) a.s.now c.counts_of-kn.result c.requires refl c.counts_of-kn.ensures
