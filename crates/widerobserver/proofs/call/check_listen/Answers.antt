-- `widerobserver::call::check_listen` meets its contract. Assumes nothing.
use Prim.Native.Nat.{ℕ}
use mathlib.Core.Path.{◌≡◌, sym, ap, ◌∙◌}
use mathlib.Core.List.{[], ◌∷◌}
use Rattle.model.specs.Setup.{Setup, in_limits}
use Rattle.model.specs.Question.{ask, first_no}
use Rattle.model.specs.Observer.{Listening}
use Rattle.model.specs.Schedule.{both_in_limits, ask_wider}
use Rattle.lemmas.proofs.Questions.{limits-to}
use Rattle.setup.specs.Views.{setup_of}
use Rattle.observer.specs.Views.{listen_input, sized_listening}
use Rattle.pairs.specs.Views.{wider_of}
use Rattle.pairs.proofs.Sides.{pairs-passed}
use Rattle.widerobserver.proofs.Calls.{both-no, sized-left}
use Rattle.widerobserver.proofs.call.check_listen.Goals.{Else-number-ne0, Start}
use Rattle.widerobserver.proofs.call.check_listen.Goals as goal

abbrev input : Start → ℕ → Listening
input c last = listen_input c.args.setup c.args.clock last c.args.holdback.now c.args.batch.now c.args.verdicts.now c.args.delivery.now

-- 1 and 19 get a yes
yes : (c : Else-number-ne0) → first_no (ask (both_in_limits (setup_of c.args.setup) (wider_of c.args.wider)) 1 ∷ ask_wider (setup_of c.args.setup) (wider_of c.args.wider) ∷ []) ≡ 0
yes c = sym c.check_pairs-number.ensures ∙ c.if-number-ne0.false

pub returns-then-number-ne0 : goal.returns-then-number-ne0
returns-then-number-ne0 c = λ last. both-no (wider_of c.args.wider) (input (goal.at.returns-then-number-ne0 c).Start last) c.check_pairs-number.result c.check_pairs-number.ensures c.if-number-ne0.true

pub check_sized-requires : goal.check_sized-requires
check_sized-requires c = ap in_limits c.wider_setup-widest.ensures ∙ limits-to _ (pairs-passed (setup_of c.args.setup) (wider_of c.args.wider) [] (yes (goal.at.check_sized-requires c).Else-number-ne0)).0.widens.new

pub returns : goal.returns
returns c =
    λ last.
    sized-left (wider_of c.args.wider) (input (goal.at.returns c).Start last) c.check_sized.result (yes (goal.at.returns c).Else-number-ne0)
    (c.check_sized.ensures c.args.setup last ∙ ap (λ (s : Setup). first_no (sized_listening s (input (goal.at.returns c).Start last))) c.wider_setup-widest.ensures)
