-- The same of calls with both pairs of limits (02, 2.10). Assumes nothing.
use Prim.Native.Nat.{ℕ}
use mathlib.Core.Path.{◌≡◌, refl, ap, ◌∙◌}
use mathlib.Core.Bool.{true, ◌&&◌}
use mathlib.Core.List.{List}
use native.Mathlib.Omega.{arith}
use lib.Dec.{leb, eqb, ltb}
use lib.ListN.{length, get_or}
use Rattle.laws.specs.Lists.{within, every}
use Rattle.laws.proofs.Numbers.{and_left}
use Rattle.model.specs.Setup.{in_limits, is_member}
use Rattle.model.specs.Frame.{Frame}
use Rattle.model.specs.Batch.{exact_batch, batch_entries}
use Rattle.model.specs.Question.{first_no, ask_form, ask_range, ask_stamp}
use Rattle.model.specs.Codec.{ask_payload}
use Rattle.model.specs.Judge.{ask_late, ask_early, ask_repeat}
use Rattle.model.specs.Tick.{Input, holdback_size}
use Rattle.model.specs.Observer.{Listening}
use Rattle.model.specs.Schedule.{Schedule, steady, widening, Wider, widest_of, both_in_limits, ask_both, ask_wider, along}
use Rattle.model.specs.Wider.{wider_frame_questions, wider_ask_counts, wider_place_questions, wider_observer_place_questions, wider_questions, wider_observer_questions, wider_hear, wider_least, wider_opened, wider_heard, sized_questions, wider_call_questions, tick_in}
use Rattle.model.specs.WiderCalls.{listen_in_questions, wider_observer_least, wider_observer_opened, wider_observer_heard, listen_in}
use Rattle.model.specs.Verdicts.{given}
use Rattle.lemmas.proofs.Questions.{first-yes, other-yes}
use Rattle.lemmas.proofs.WiderReceiving.{length-along, verdict-along}
use Rattle.lemmas.proofs.WiderCall.{tick-in-passes, accepted-in, verdicts-in, listen-in-passes, heeded-in, listened-verdicts-in}
use Rattle.verdicts.specs.Judging.{queue_at, judged_number, tick_in_judging, listen_in_judging}
use Rattle.verdicts.proofs.Given.{given-first}
use Rattle.verdicts.proofs.Judged.{Judged}

-- every judgement gives one of the numbers
wider-given : (g : Schedule) (v : ℕ) (queue : List Frame) (bytes : List ℕ) → given (first_no (wider_questions g v queue bytes)) ≡ true
unfolding wider_questions wider_frame_questions wider_place_questions wider_ask_counts ask_form ask_range ask_stamp ask_late ask_early ask_repeat every given within
wider-given (steady s) v queue bytes = given-first (wider_questions (steady s) v queue bytes) refl
wider-given (widening before after change) v queue bytes = given-first (wider_questions (widening before after change) v queue bytes) refl

wider-observed-given : (g : Schedule) (v : ℕ) (queue : List Frame) (bytes : List ℕ) → given (first_no (wider_observer_questions g v queue bytes)) ≡ true
unfolding wider_observer_questions wider_frame_questions wider_observer_place_questions ask_form ask_range ask_stamp ask_late ask_early ask_repeat every given within
wider-observed-given (steady s) v queue bytes = given-first (wider_observer_questions (steady s) v queue bytes) refl
wider-observed-given (widening before after change) v queue bytes = given-first (wider_observer_questions (widening before after change) v queue bytes) refl

-- a tick
pub tick-in-asked : (w : Wider) (i : Input) → first_no (wider_call_questions w i) ≡ 0 → (in_limits i.setup ≡ true) × (exact_batch i.batch ≡ true)
unfolding wider_call_questions sized_questions ask_both ask_wider ask_payload both_in_limits
tick-in-asked w i e =
    let s = i.setup in
    let size = widest_of (along i.setup w i.clock) in
    let e₁ = other-yes _ 0 _ e in
    let e₂ = other-yes (leb s.epsilon w.epsilon && leb s.delta w.delta) 18 _ e₁ in
    let e₃ = other-yes (ltb i.clock size.modulus) 1 _ e₂ in
    let e₄ = other-yes (eqb (length i.holdback) (holdback_size size)) 2 _ e₃ in
    let e₅ = other-yes (leb (length i.payload) 32) 3 _ e₄ in
    (and_left (in_limits s) _ (and_left _ (is_member s i.own) (first-yes _ 0 _ e)), first-yes (exact_batch i.batch) 4 _ e₅)

module _ (w : Wider) (i : Input) where
  abbrev g : Schedule
  g = along i.setup w i.clock

  pub tick-in-judged : (tick_in w i).answer.number ≡ 0 → Judged (tick_in_judging w i)
  tick-in-judged ok =
      let a = accepted-in w i ok in
      let least = wider_least g i.clock i.tables in
      let asking = wider_questions g i.clock in
      record {
        exact = (tick-in-asked w i (tick-in-passes w i ok)).1;
        heard = (wider_heard g i).verdicts;
        buffer = i.verdicts;
        wrote = verdicts-in w i a;
        as_many = unfold wider_heard wider_opened in omega (arith, length-along g i.clock least asking i.holdback (batch_entries i.batch));
        byte =
            λ position entry e.
            ap (λ (l : List ℕ). get_or l position 0) (verdicts-in w i a)
            ∙ (unfold wider_heard wider_opened wider_hear judged_number queue_at in
            verdict-along g i.clock least asking i.holdback (batch_entries i.batch) i.verdicts position entry e);
        known = wider-given g i.clock;
      }

-- an observer's call
pub listen-in-asked : (w : Wider) (i : Listening) → first_no (listen_in_questions w i) ≡ 0 → (in_limits i.setup ≡ true) × (exact_batch i.batch ≡ true)
unfolding listen_in_questions ask_wider both_in_limits
listen-in-asked w i e =
    let s = i.setup in
    let size = widest_of (along i.setup w i.clock) in
    let e₁ = other-yes _ 0 _ e in
    let e₂ = other-yes (leb s.epsilon w.epsilon && leb s.delta w.delta) 18 _ e₁ in
    let e₃ = other-yes (ltb i.clock size.modulus) 1 _ e₂ in
    let e₄ = other-yes (eqb (length i.holdback) (holdback_size size)) 2 _ e₃ in
    (and_left (in_limits s) _ (first-yes _ 0 _ e), first-yes (exact_batch i.batch) 4 _ e₄)

module _ (w : Wider) (i : Listening) where
  abbrev g' : Schedule
  g' = along i.setup w i.clock

  pub listen-in-judged : (listen_in w i).number ≡ 0 → Judged (listen_in_judging w i)
  listen-in-judged ok =
      let a = heeded-in w i ok in
      let least = wider_observer_least g' i in
      let asking = wider_observer_questions g' i.clock in
      record {
        exact = (listen-in-asked w i (listen-in-passes w i ok)).1;
        heard = (wider_observer_heard g' i).verdicts;
        buffer = i.verdicts;
        wrote = listened-verdicts-in w i a;
        as_many = unfold wider_observer_heard wider_observer_opened in omega (arith, length-along g' i.clock least asking i.holdback (batch_entries i.batch));
        byte =
            λ position entry e.
            ap (λ (l : List ℕ). get_or l position 0) (listened-verdicts-in w i a)
            ∙ (unfold wider_observer_heard wider_observer_opened wider_hear judged_number queue_at in
            verdict-along g' i.clock least asking i.holdback (batch_entries i.batch) i.verdicts position entry e);
        known = wider-observed-given g' i.clock;
      }
