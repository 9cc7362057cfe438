-- `longqueue::soundness::sound` meets its contract: the count, each frame alone, then the origins. Assumes nothing.
use native.Mathlib.Omega.{arith}
use mathlib.Core.Path.{sym, ◌∙◌}
use Rattle.laws.proofs.Numbers.{false_of_not, true_of_not}
use Rattle.setup.specs.Views.{setup_of}
use Rattle.lemmas.proofs.Questions.{long-limits-from}
use Rattle.longqueue.proofs.Judging.{walked_many, walked-unfit, walked-twice, walked-sound, all-stand}
use Rattle.longqueue.proofs.soundness.sound.Goals as goal

pub returns-then-count-gt-MOST : goal.returns-then-count-gt-MOST
returns-then-count-gt-MOST c = walked_many (setup_of c.args.setup) c.args.clock c.args.least c.args.buf.now _ c.two_at-count.ensures c.if-count-gt-MOST.true

pub returns-then-end-eq0 : goal.returns-then-end-eq0
returns-then-end-eq0 c = walked-unfit (setup_of c.args.setup) c.args.clock c.args.least c.args.buf.now _ c.two_at-count.ensures _ c.all_fit-end.ensures c.if-end-eq0.true

pub all_apart-requires : goal.all_apart-requires
all_apart-requires c = record { epsilon_bound = (long-limits-from (setup_of c.args.setup) c.requires.setup_value.0).epsilon-most; standing = all-stand (setup_of c.args.setup) c.args.clock c.args.least c.args.buf.now _ c.two_at-count.ensures _ c.all_fit-end.ensures c.if-end-eq0.false c.requires.buf_len }

pub returns-then-not-all_apart : goal.returns-then-not-all_apart
returns-then-not-all_apart c = walked-twice (setup_of c.args.setup) c.args.clock c.args.least c.args.buf.now _ c.two_at-count.ensures (sym c.all_apart.ensures ∙ false_of_not _ c.if-not-all_apart.true-raw)

pub returns : goal.returns
returns c = walked-sound (setup_of c.args.setup) c.args.clock c.args.least c.args.buf.now _ c.two_at-count.ensures _ c.all_fit-end.ensures (λ i. omega (arith, c.shared_slice_known-1.given i)) c.requires.buf_len (omega (arith, c.if-count-gt-MOST.false)) c.if-end-eq0.false (sym c.all_apart.ensures ∙ true_of_not _ c.if-not-all_apart.false-raw)
