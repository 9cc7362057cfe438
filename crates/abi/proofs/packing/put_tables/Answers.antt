-- `abi::packing::put_tables` meets its contract. Assumes nothing.
use native.Mathlib.Omega.{arith}
use mathlib.Core.Path.{◌≡◌, refl}
use lib.ListN.{length}
use borrow.Author.Rules.{rules}
use Rattle.timestamp.specs.Views.{stamp_of}
use Rattle.model.specs.Frame.{two_bytes}
use Rattle.abi.specs.Packing.{tables_bytes}
use Rattle.abi.proofs.Words.{tables-written}
use Rattle.abi.proofs.packing.put_tables.Goals.{Start}
use Rattle.abi.proofs.packing.put_tables.Goals as goal

long : (c : Start) → length c.args.stamp.kn ≡ 32
long c = search rules

pub returns : goal.returns
unfolding tables_bytes two_bytes
returns c = tables-written 2 c.args.s.now c.put_u16.new.buf c.put_tables_at.new.s (two_bytes c.args.stamp.r) (stamp_of c.args.stamp) (omega (arith, c.requires.s_len)) refl (long (goal.at.returns c).Start) c.put_u16.ensures c.put_tables_at.ensures
