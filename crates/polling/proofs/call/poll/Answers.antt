-- `polling::call::poll` meets its contract. Assumes nothing.
use mathlib.Core.Path.{◌∙◌, sym}
use borrow.Author.Rules.{rules}
use Rattle.setup.specs.Views.{setup_of}
use Rattle.polling.proofs.Asking.{all-passed, poll-refused, poll-accepted}
use Rattle.polling.proofs.call.poll.Goals as goal

pub returns-then-number-ne0 : goal.returns-then-number-ne0
returns-then-number-ne0 c =
    let a = c.args in
    let asked = c.check_poll-number in
    c.nothing.ensures ∙ poll-refused (setup_of a.setup) a.own a.clock a.holdback.now a.d asked.result asked.ensures c.if-number-ne0.true

pub ask_queue-requires : goal.ask_queue-requires
ask_queue-requires c =
    let a = c.args in
    let p = all-passed (setup_of a.setup) a.own a.clock a.holdback.now (sym c.check_poll-number.ensures ∙ c.if-number-ne0.false) in
    record { setup_value = (p.limits, (p.below, search rules)); holdback_len = p.size }

pub returns : goal.returns
returns c =
    let a = c.args in
    c.ask_queue.ensures
    ∙ poll-accepted (setup_of a.setup) a.own a.clock a.holdback.now a.d (sym c.if-number-ne0.false ∙ c.check_poll-number.ensures)
