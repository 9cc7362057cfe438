-- `widerpolling::call::poll_both` meets its contract: 2 and 3 by the wider sizes, then the shelf by both pairs. Assumes nothing.
use Prim.Native.Nat.{ℕ, ◌<◌}
use native.Mathlib.Omega.{arith}
use mathlib.Core.Path.{◌≡◌, ◌∙◌, sym, ap, subst}
use mathlib.Core.Bool.{true}
use mathlib.Core.List.{List}
use lib.ListN.{length}
use Rattle.model.specs.Setup.{Setup, in_limits}
use Rattle.model.specs.Question.{first_no}
use Rattle.model.specs.Schedule.{Schedule, Wider, modulus_of, widest_of, wider_setup, along}
use Rattle.model.specs.Tick.{holdback_size, holdback_questions}
use Rattle.model.specs.WiderCalls.{wider_polled_queue, wider_poll_by}
use Rattle.lemmas.proofs.Questions.{limits-to}
use Rattle.setup.specs.Views.{setup_of}
use Rattle.pairs.specs.Views.{wider_of}
use Rattle.pairs.proofs.Sides.{near-good, near-along}
use Rattle.widerpolling.proofs.Asking.{along-widest, behind-refused, sizes-passed}
use Rattle.widerpolling.proofs.call.poll_both.Lts.View as view
use Rattle.widerpolling.proofs.call.poll_both.Goals.{After-check_holdback-number, Else-number-ne0}
use Rattle.widerpolling.proofs.call.poll_both.Goals as goal

pub check_holdback-number-requires : goal.check_holdback-number-requires
check_holdback-number-requires c =
    let wide = wider_setup (setup_of c.args.setup) (wider_of c.args.wider) in
    subst (λ (u : Setup). in_limits u ≡ true) (sym c.wider_setup-after.ensures) (limits-to wide c.requires.0.widens.new)

-- 2 and 3 by the wider sizes
module _ (c : After-check_holdback-number) where
  abbrev s : Setup
  s = setup_of c.args.setup

  abbrev w : Wider
  w = wider_of c.args.wider

  abbrev v : ℕ
  v = c.args.clock

  abbrev b : List ℕ
  b = c.args.holdback.now

  asked : c.check_holdback-number.result ≡ first_no (holdback_questions (widest_of (along s w v)) v b)
  asked =
      c.check_holdback-number.ensures
      ∙ ap (λ (u : Setup). first_no (holdback_questions u v b)) (c.wider_setup-after.ensures ∙ sym (along-widest s w v c.requires.1.0))

pub returns-then-number-ne0 : goal.returns-then-number-ne0
returns-then-number-ne0 c =
    c.nothing.ensures
    ∙ behind-refused (along (s (goal.at.returns-then-number-ne0 c).After-check_holdback-number) (w (goal.at.returns-then-number-ne0 c).After-check_holdback-number) (v (goal.at.returns-then-number-ne0 c).After-check_holdback-number)) (v (goal.at.returns-then-number-ne0 c).After-check_holdback-number) c.args.d (wider_polled_queue (along (s (goal.at.returns-then-number-ne0 c).After-check_holdback-number) (w (goal.at.returns-then-number-ne0 c).After-check_holdback-number) (v (goal.at.returns-then-number-ne0 c).After-check_holdback-number)) (v (goal.at.returns-then-number-ne0 c).After-check_holdback-number) (b (goal.at.returns-then-number-ne0 c).After-check_holdback-number)) c.check_holdback-number.result (asked (goal.at.returns-then-number-ne0 c).After-check_holdback-number) c.if-number-ne0.true

-- a call that has passed them
passed : (c : Else-number-ne0) → (v (view.up-After-check_holdback-number _ _ _ _ c.before.before) < (s (view.up-After-check_holdback-number _ _ _ _ c.before.before)).modulus) × (length (b (view.up-After-check_holdback-number _ _ _ _ c.before.before)) ≡ holdback_size (wider_setup (s (view.up-After-check_holdback-number _ _ _ _ c.before.before)) (w (view.up-After-check_holdback-number _ _ _ _ c.before.before))))
passed c = sizes-passed (s (view.up-After-check_holdback-number _ _ _ _ c.before.before)) (setup_of c.wider_setup-after.result) (w (view.up-After-check_holdback-number _ _ _ _ c.before.before)) (v (view.up-After-check_holdback-number _ _ _ _ c.before.before)) (b (view.up-After-check_holdback-number _ _ _ _ c.before.before)) c.wider_setup-after.ensures (sym c.check_holdback-number.ensures ∙ c.if-number-ne0.false)

pub pairs_near-p-requires : goal.pairs_near-p-requires
pairs_near-p-requires c = (c.requires.0, (passed (goal.at.pairs_near-p-requires c).Else-number-ne0).0)

pub ask_queue-requires : goal.ask_queue-requires
ask_queue-requires c =
    record {
      paired = (
        near-good c.pairs_near-p.result (s (goal.at.ask_queue-requires c).After-check_holdback-number) (w (goal.at.ask_queue-requires c).After-check_holdback-number) (v (goal.at.ask_queue-requires c).After-check_holdback-number) c.requires.0 c.pairs_near-p.ensures,
        (omega (arith, (passed (goal.at.ask_queue-requires c).Else-number-ne0).0, ap modulus_of c.pairs_near-p.ensures.schedule), c.requires.1.1),
      );
      holdback_len = (passed (goal.at.ask_queue-requires c).Else-number-ne0).1 ∙ ap (λ (g : Schedule). holdback_size (widest_of g)) (sym c.pairs_near-p.ensures.schedule);
    }

pub returns : goal.returns
returns c =
    let d = c.args.d in
    let none = sym c.if-number-ne0.false ∙ asked (goal.at.returns c).After-check_holdback-number in
    c.ask_queue.ensures
    ∙ ap (λ (g : Schedule). wider_poll_by 0 g (v (goal.at.returns c).After-check_holdback-number) d (wider_polled_queue g (v (goal.at.returns c).After-check_holdback-number) (b (goal.at.returns c).After-check_holdback-number))) (near-along c.pairs_near-p.result (s (goal.at.returns c).After-check_holdback-number) (w (goal.at.returns c).After-check_holdback-number) (v (goal.at.returns c).After-check_holdback-number) c.requires.1.0 c.pairs_near-p.ensures)
    ∙ ap (λ (m : ℕ). wider_poll_by m (along (s (goal.at.returns c).After-check_holdback-number) (w (goal.at.returns c).After-check_holdback-number) (v (goal.at.returns c).After-check_holdback-number)) (v (goal.at.returns c).After-check_holdback-number) d (wider_polled_queue (along (s (goal.at.returns c).After-check_holdback-number) (w (goal.at.returns c).After-check_holdback-number) (v (goal.at.returns c).After-check_holdback-number)) (v (goal.at.returns c).After-check_holdback-number) (b (goal.at.returns c).After-check_holdback-number))) none
