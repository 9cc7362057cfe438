-- `playing::tables_at` meets its contract. Assumes nothing.
use Prim.Native.Nat.{ℕ}
use mathlib.Core.Path.{ap, ◌∙◌}
use native.Mathlib.Omega.{arith}
use borrow.Author.Tests.{eq-eqb, ne_eqb}
use Rattle.model.specs.Timestamp.{widened, fresh}
use Rattle.lemmas.proofs.Questions.{setup-from}
use Rattle.setup.specs.Views.{setup_of}
use Rattle.trace.specs.Trace.{one_before}
use Rattle.trace.specs.Replay.{tables_at, fresh_before}
use Rattle.playing.proofs.tables_at.Goals as goal

pub returns-then-i-gt0 : goal.returns-then-i-gt0
unfolding tables_at
returns-then-i-gt0 c = rw (ne_eqb c.args.i 0 (omega arith))

pub fresh-requires : goal.fresh-requires
fresh-requires c =
    let limits = (setup-from (setup_of c.args.node.setup) c.args.node.own c.requires.valid).0 in
    (limits.epsilon-pos, limits.epsilon-most)

pub returns : goal.returns
unfolding tables_at fresh_before
returns c =
    let setup = c.args.node.setup in
    rw (eq-eqb c.args.i 0 (omega arith))
    (c.fresh.ensures
    ∙ ap (λ (clock : ℕ). widened (fresh setup.epsilon clock)) (c.one_before-clock.ensures ∙ ap (one_before setup.modulus) c.read_call-call.ensures.1.0))
