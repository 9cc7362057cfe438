-- `abi::packing::put_long_tables` meets its contract. Assumes nothing.
use native.Mathlib.Omega.{arith}
use mathlib.Core.Path.{◌≡◌, refl}
use lib.ListN.{length}
use borrow.Author.Rules.{rules}
use Rattle.timestamp.specs.Views.{stamp_of}
use Rattle.model.specs.Long.{low_first}
use Rattle.abi.specs.Packing.{long_tables_bytes}
use Rattle.abi.proofs.Words.{tables-written}
use Rattle.abi.proofs.packing.put_long_tables.Goals.{Start}
use Rattle.abi.proofs.packing.put_long_tables.Goals as goal

long : (c : Start) → length c.args.stamp.kn ≡ 32
long c = search rules

pub returns : goal.returns
unfolding long_tables_bytes low_first
returns c = tables-written 8 c.args.s.now c.put_u64.new.buf c.put_tables_at.new.s (low_first 8 c.args.stamp.r) (stamp_of c.args.stamp) (omega (arith, c.requires.s_len)) refl (long (goal.at.returns c).Start) c.put_u64.ensures c.put_tables_at.ensures
