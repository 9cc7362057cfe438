-- `abi::packing::put_tables_at` meets its contract. Assumes nothing.
use native.Mathlib.Omega.{arith}
use mathlib.Core.Path.{◌≡◌, ◌∙◌}
use lib.ListN.{length, length-set}
use borrow.Author.Rules.{rules}
use Rattle.abi.proofs.Words.{one_then}
use Rattle.abi.proofs.packing.put_tables_at.Goals.{Start}
use Rattle.abi.proofs.packing.put_tables_at.Goals as goal

long : (c : Start) → length c.args.stamp.kn ≡ 32
long c = search rules

pub copy_into-requires : goal.copy_into-requires
copy_into-requires c = simp length-set (omega (arith, c.requires.0, long (goal.at.copy_into-requires c).Start))

pub shape_of-s : goal.shape_of-s
shape_of-s c = c.copy_into.auto.dst ∙ simp length-set

pub returns : goal.returns
returns c = c.copy_into.ensures ∙ one_then c.args.s.now c.args.at c.args.stamp.c c.args.stamp.kn (omega (arith, c.requires.0))
