-- `widernode::ticking::tick_passed` meets its contract. Assumes nothing.
use mathlib.Core.Path.{◌≡◌, sym, ◌∙◌, subst}
use Rattle.model.specs.Tick.{Input}
use Rattle.model.specs.Schedule.{Schedule, along}
use Rattle.setup.specs.Views.{setup_of}
use Rattle.node.specs.Views.{call_input}
use Rattle.pairs.specs.Views.{wider_of, schedule_of}
use Rattle.pairs.proofs.Sides.{near-along}
use Rattle.widernode.specs.States.{Accepted}
use Rattle.widernode.proofs.Calls.{call-both, call_below, call-accepted}
use Rattle.widernode.proofs.Finish.{equal-output, wider-output}
use Rattle.widernode.proofs.ticking.tick_passed.Goals.{After-pairs_near-p, Start}
use Rattle.widernode.proofs.ticking.tick_passed.Goals as goal

abbrev input : Start → Input
input c = call_input c.args.setup c.args.own c.args.clock c.args.tables c.args.holdback.now c.args.batch.now c.args.send c.args.payload.now c.args.outgoing.now c.args.verdicts.now c.args.delivery.now

pub returns-then-same_pairs : goal.returns-then-same_pairs
returns-then-same_pairs c = c.tick.ensures ∙ equal-output (wider_of c.args.wider) (input (goal.at.returns-then-same_pairs c).Start) c.requires (sym c.same_pairs.ensures ∙ c.if-same_pairs.true)

pub pairs_near-p-requires : goal.pairs_near-p-requires
pairs_near-p-requires c = (call-both (wider_of c.args.wider) (input (goal.at.pairs_near-p-requires c).Start) c.requires, call_below (wider_of c.args.wider) (input (goal.at.pairs_near-p-requires c).Start) c.requires)

-- the pairs are the model's
pairs : (c : After-pairs_near-p) → schedule_of c.pairs_near-p.result ≡ along (setup_of c.args.setup) (wider_of c.args.wider) c.args.clock
pairs c = near-along c.pairs_near-p.result (setup_of c.args.setup) (wider_of c.args.wider) c.args.clock (sym c.same_pairs.ensures ∙ c.if-same_pairs.false) c.pairs_near-p.ensures

pub accept-requires : goal.accept-requires
accept-requires c =
    subst (λ (g : Schedule). Accepted g c.args.own c.args.clock c.args.holdback.now c.args.batch.now c.args.payload.now c.args.outgoing.now c.args.verdicts.now c.args.delivery.now)
    (sym (pairs (goal.at.accept-requires c).After-pairs_near-p)) (call-accepted (wider_of c.args.wider) (input (goal.at.accept-requires c).Start) c.requires)

pub returns : goal.returns
returns c = c.accept.ensures c.args.setup ∙ wider-output (wider_of c.args.wider) (input (goal.at.returns c).Start) c.requires (pairs (goal.at.returns c).After-pairs_near-p)
