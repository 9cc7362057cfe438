-- `observer::listening::listen` meets its contract. Assumes nothing.
use mathlib.Core.Path.{sym, ◌∙◌}
use Rattle.model.specs.Observer.{Listening, not_listened}
use Rattle.observer.specs.Views.{listen_input}
use Rattle.observer.proofs.Finish.{refused-output}
use Rattle.observer.proofs.listening.listen.Goals.{Start}
use Rattle.observer.proofs.listening.listen.Goals as goal

abbrev input : Start → Listening
input c = listen_input c.args.setup c.args.clock c.args.last c.args.holdback.now c.args.batch.now c.args.verdicts.now c.args.delivery.now

pub returns-then-number-ne0 : goal.returns-then-number-ne0
unfolding not_listened
returns-then-number-ne0 c = refused-output (input (goal.at.returns-then-number-ne0 c).Start) c.check_listen-number.result (c.check_listen-number.ensures c.args.last) c.if-number-ne0.true

pub heed-requires : goal.heed-requires
heed-requires c = sym (c.check_listen-number.ensures c.args.last) ∙ c.if-number-ne0.false

pub returns : goal.returns
returns c = c.heed.ensures
