-- `widerobserver::listening::listen_in` meets its contract. Assumes nothing.
use mathlib.Core.Path.{◌≡◌, sym, ◌∙◌, subst}
use Rattle.model.specs.Question.{first_no}
use Rattle.model.specs.Observer.{Listening, not_listened}
use Rattle.model.specs.Schedule.{Schedule, along}
use Rattle.model.specs.WiderCalls.{listen_in_questions}
use Rattle.setup.specs.Views.{setup_of}
use Rattle.observer.specs.Views.{listen_input}
use Rattle.pairs.specs.Views.{wider_of, schedule_of}
use Rattle.pairs.proofs.Sides.{near-along}
use Rattle.widerobserver.specs.States.{Heeded}
use Rattle.widerobserver.proofs.Calls.{call-both, call_below, call-heeded}
use Rattle.widerobserver.proofs.Finish.{refused-output, equal-output, wider-output}
use Rattle.widerobserver.proofs.listening.listen_in.Goals.{After-pairs_near-p, Else-number-ne0, Start}
use Rattle.widerobserver.proofs.listening.listen_in.Goals as goal

abbrev input : Start → Listening
input c = listen_input c.args.setup c.args.clock c.args.last c.args.holdback.now c.args.batch.now c.args.verdicts.now c.args.delivery.now

pub returns-then-number-ne0 : goal.returns-then-number-ne0
unfolding not_listened
returns-then-number-ne0 c = refused-output (wider_of c.args.wider) (input (goal.at.returns-then-number-ne0 c).Start) c.check_listen-number.result (c.check_listen-number.ensures c.args.last) c.if-number-ne0.true

-- no question got a no
none : (c : Else-number-ne0) → first_no (listen_in_questions (wider_of c.args.wider) (input c.before.before.before.before.before.before.before)) ≡ 0
none c = sym (c.check_listen-number.ensures c.args.last) ∙ c.if-number-ne0.false

pub returns-then-same_pairs : goal.returns-then-same_pairs
returns-then-same_pairs c = c.listen.ensures ∙ equal-output (wider_of c.args.wider) (input (goal.at.returns-then-same_pairs c).Start) (none (goal.at.returns-then-same_pairs c).Else-number-ne0) (sym c.same_pairs.ensures ∙ c.if-same_pairs.true)

pub pairs_near-p-requires : goal.pairs_near-p-requires
pairs_near-p-requires c = (call-both (wider_of c.args.wider) (input (goal.at.pairs_near-p-requires c).Start) (none (goal.at.pairs_near-p-requires c).Else-number-ne0), call_below (wider_of c.args.wider) (input (goal.at.pairs_near-p-requires c).Start) (none (goal.at.pairs_near-p-requires c).Else-number-ne0))

-- the pairs are the model's
pairs : (c : After-pairs_near-p) → schedule_of c.pairs_near-p.result ≡ along (setup_of c.args.setup) (wider_of c.args.wider) c.args.clock
pairs c = near-along c.pairs_near-p.result (setup_of c.args.setup) (wider_of c.args.wider) c.args.clock (sym c.same_pairs.ensures ∙ c.if-same_pairs.false) c.pairs_near-p.ensures

pub heed-requires : goal.heed-requires
heed-requires c =
    subst (λ (g : Schedule). Heeded g c.args.clock c.args.holdback.now c.args.batch.now c.args.verdicts.now c.args.delivery.now)
    (sym (pairs (goal.at.heed-requires c).After-pairs_near-p)) (call-heeded (wider_of c.args.wider) (input (goal.at.heed-requires c).Start) (none (goal.at.heed-requires c).Else-number-ne0))

pub returns : goal.returns
returns c = c.heed.ensures c.args.setup ∙ wider-output (wider_of c.args.wider) (input (goal.at.returns c).Start) (none (goal.at.returns c).Else-number-ne0) (pairs (goal.at.returns c).After-pairs_near-p)
