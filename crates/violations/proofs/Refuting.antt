-- Each promise makes its test true, so a test that computes to false refutes the demand. Nothing here looks into a definition of the tick
-- or of the premises: it holds under any edit of them.
-- Assumes nothing.
use Prim.Native.Nat.{ℕ, zero, suc, ◌+◌, ◌≤◌}
use native.Mathlib.Omega.{arith}
use native.Mathlib.Nat.{zero-add, add-zero, suc-add, add-suc}
use mathlib.Core.Path.{◌≡◌, refl, sym, ap, subst, ◌∙◌}
use mathlib.Core.Logic.{◌⊎◌, inl, inr}
use mathlib.Core.Bool.{Bool, true, false, ◌&&◌, ◌||◌, not, cond}
use mathlib.Core.List.{List, [], ◌∷◌}
use mathlib.Core.List.Memᴰ
use mathlib.Core.List.{Memᴰ}
use mathlib.Core.Option.{Option, none, some, some-injective, none-ne-some}
use lib.Dec.{ltb, eqb}
use lib.ListN.{take, get_or, get_elem?}
use borrow.Author.Tests.{eqb-true, eq-eqb, ltb-true, lt-ltb, le-leb}
use Rattle.laws.specs.Lists.{any, same_list}
use Rattle.laws.proofs.Numbers.{true-or-false, clash, and_intro, and_left, and_right, or_cases, cond-true, cond-false}
use Rattle.laws.proofs.Lists.{every-of-mem, every-tab, any-mem, mem-get_elem?, same_list-refl, same_list-eq}
use Rattle.model.specs.Setup.{Setup}
use Rattle.model.specs.Timestamp.{Timestamp}
use Rattle.model.specs.Batch.{batch_entries}
use Rattle.model.specs.Codec.{WriteAnswer}
use Rattle.model.specs.Schedule.{Schedule}
use Rattle.model.specs.Judge.{Heard}
use Rattle.model.specs.Published.{Condition, deliverable, deliverable_by}
use Rattle.model.specs.Tick.{Input, tick}
use Rattle.model.specs.Observer.{Listening, listen}
use Rattle.model.specs.Run.{Node, Source, sent_by, stale, Call, Done, World, is_accepted, is_event, run_from, at_start}
use Rattle.theory.specs.NeverFull.{NeverFull}
use Rattle.theory.specs.Premises.{good_start, largest_clock, keeps, same_timestamp, all_fresh, none_stale, steps_of_one}
use Rattle.theory.specs.Demand2.{heard_before, AnyState, Demand2Any, observed_before, AnyObserver, Demand2Observer, Published, Outcome, outcome_of, publish, publish_all, published_start, SameAs, Matched, Demand2Fresh, Demand2Ones}
use Rattle.theory.specs.Demand3.{covered_from, covered, is_from, heard_in, earlier, written, Leads, later, takes, on, Promised, Demand3, Demand3Fresh}
use Rattle.theory.specs.Charges.{heard_and_due, SameHeard, Charges}
use Rattle.theory.specs.Changeover.{Changeover, along_all, Phase, frozen_until, keeps_through, starts_through, fresh_through}
use Rattle.theory.specs.Through.{earlier_along, written_along, PromisedAlong, covered_through, Demand3Through, Demand3FreshThrough}
use Rattle.violations.specs.Tests.{every_from, any_from, same_each, implies, same_frames, sends_right, sending_test, verdict_right, entry_right, hears_right, hearing_test, delivers_right, delivering_test, later_than, takes_from, step_to, causes_right, cause_right, causality_test, sending_along, hearing_along, delivering_along, causality_along, same_heard_test, shown_test}
use Rattle.violations.specs.Tests.{verdict_test, taken_test, delivered_test, delivery_test, sent_test, outgoing_test, repair_test, every_step, bounded_test, bounded_queue_test, room_before, never_full_test}
use Rattle.violations.specs.Tests.{observed_test, observer_taken_test, observer_delivered_test, observer_delivery_test, observer_repair_test, last_test, last_bounded_test, observer_queue_test, observer_never_full_test}
use Rattle.violations.specs.Tests.{FreshTest, same_tables, same_repair, same_taken, same_verdicts, same_holdback, same_outgoing, same_sent, same_delivery, same_delivered, matched_by, fresh_test}

pub implies-intro : (a b : Bool) → (a ≡ true → b ≡ true) → implies a b ≡ true
implies-intro true b h = h refl
implies-intro false b h = refl

same : {a b : ℕ} → a ≡ b → eqb a b ≡ true
same {a} {b} e = eq-eqb a b e

module _ {A : Type 0} where
  same_each-refl : (test : A → A → Bool) → ((x : A) → test x x ≡ true) → (a : List A) → same_each test a a ≡ true
  unfolding same_each
  same_each-refl test right [] = refl
  same_each-refl test right (x ∷ a) = and_intro (right x) (same_each-refl test right a)

  pub same_each-eq : (test : A → A → Bool) → ((x : A) → test x x ≡ true) → {a b : List A} → a ≡ b → same_each test a b ≡ true
  same_each-eq test right {a} {b} e = rw e (same_each-refl test right b)

pub same_frames-eq : {a b : List (List ℕ)} → a ≡ b → same_frames a b ≡ true
same_frames-eq e = same_each-eq same_list same_list-refl e

on-by-one : (i k : ℕ) → suc i + k ≡ i + suc k
on-by-one i k = suc-add i k ∙ sym (add-suc i k)

module _ {A : Type 0} where
  every-from : (p : ℕ → A → Bool) (i : ℕ) (l : List A) → ((k : ℕ) (x : A) → get_elem? l k ≡ some x → p (i + k) x ≡ true) → every_from p i l ≡ true
  unfolding every_from
  every-from p i [] h = refl
  every-from p i (x ∷ l) h =
      and_intro (sym (ap (λ (n : ℕ). p n x) (add-zero i)) ∙ h 0 x refl)
      (every-from p (suc i) l (λ k y e. ap (λ (n : ℕ). p n y) (on-by-one i k) ∙ h (suc k) y e))

  pub every-at : (p : ℕ → A → Bool) (l : List A) → ((k : ℕ) (x : A) → get_elem? l k ≡ some x → p k x ≡ true) → every_from p 0 l ≡ true
  every-at p l h = every-from p 0 l (λ k x e. ap (λ (n : ℕ). p n x) (zero-add k) ∙ h k x e)

  any-from : (p : ℕ → A → Bool) (i : ℕ) (l : List A) → any_from p i l ≡ true → (k : ℕ) × (x : A) × (get_elem? l k ≡ some x) × (p (i + k) x ≡ true)
  unfolding any_from
  any-from p i [] h = absurd (clash h refl)
  any-from p i (x ∷ l) h =
      elim (or_cases (p i x) (any_from p (suc i) l) h) [
        | inl e ↦ (0, x, refl, ap (λ (n : ℕ). p n x) (add-zero i) ∙ e)
        | inr e ↦
            let r = any-from p (suc i) l e in
            (suc r.0, r.1, r.2, sym (ap (λ (n : ℕ). p n r.1) (on-by-one i r.0)) ∙ r.3)
      ]

  any_at : (p : ℕ → A → Bool) (l : List A) → any_from p 0 l ≡ true → (k : ℕ) × (x : A) × (get_elem? l k ≡ some x) × (p k x ≡ true)
  any_at p l h =
      let r = any-from p 0 l h in
      (r.0, r.1, r.2, sym (ap (λ (n : ℕ). p n r.1) (zero-add r.0)) ∙ r.3)

-- one step leads on
from_is : (i : ℕ) (o : Source) → is_from i o ≡ true → o ≡ sent_by i
unfolding is_from
from_is i (sent_by k) h = ap sent_by (sym (eqb-true i k h))
from_is i stale h = absurd (clash h refl)

later-leads : (past : List Done) (i j : ℕ) (b : Done) → get_elem? past j ≡ some b → later_than j b i (get_elem? past i) ≡ true → Leads past i j
later-leads past i j b is h = go (get_elem? past i) refl h
  where
    go : (o : Option Done) → get_elem? past i ≡ o → later_than j b i o ≡ true → Leads past i j
    go none at t = absurd (clash t refl)
    go (some a) at t =
        later (ltb-true i j (and_left (ltb i j) (eqb a.node b.node) t)) at is
        (eqb-true a.node b.node (and_right (ltb i j) (eqb a.node b.node) t))

takes-leads : (past : List Done) (i j : ℕ) (b : Done) → get_elem? past j ≡ some b → takes_from b i ≡ true → Leads past i j
takes-leads past i j b is h = go (any_at takes_at b.call.sources (and_right (is_accepted b.output) (any_from takes_at 0 b.call.sources) h))
  where
    takes_at : ℕ → Source → Bool
    takes_at e o = is_from i o && eqb (get_or b.output.verdicts e 0) 0

    go : (e : ℕ) × (o : Source) × (get_elem? b.call.sources e ≡ some o) × (takes_at e o ≡ true) → Leads past i j
    go (e, o, at, t) =
        takes e is (and_left (is_accepted b.output) (any_from takes_at 0 b.call.sources) h)
        (at ∙ ap some (from_is i o (and_left (is_from i o) (eqb (get_or b.output.verdicts e 0) 0) t)))
        (eqb-true (get_or b.output.verdicts e 0) 0 (and_right (is_from i o) (eqb (get_or b.output.verdicts e 0) 0) t))

step-leads : (past : List Done) (i j : ℕ) (b : Done) → get_elem? past j ≡ some b → step_to past j b i ≡ true → Leads past i j
step-leads past i j b is h =
    elim (or_cases (later_than j b i (get_elem? past i)) (takes_from b i) h) [
      | inl t ↦ later-leads past i j b is t
      | inr t ↦ takes-leads past i j b is t
    ]

-- Demand 3: what is promised of one call makes its test true
sent-right :
    (writer : Done → WriteAnswer) (from : ℕ) (d : Done)
    → (covered from d ≡ true → ((writer d).number ≡ 0) × (d.output.answer.sent ≡ (writer d).size) × (d.output.outgoing ≡ (writer d).buffer))
    → sends_right writer from d ≡ true
sent-right writer from d h =
    implies-intro (covered from d) _ (λ c.
    let right = h c in
    and_intro (same right.0) (and_intro (same right.1) (same_list-eq right.2)))

delivered-right :
    (d : Done) (handed expected : List (List ℕ)) → (is_accepted d.output ≡ true → handed ≡ expected) → delivers_right d handed expected ≡ true
delivered-right d handed expected h = implies-intro (is_accepted d.output) _ (λ a. same_frames-eq (h a))

module _ (from : ℕ) (past : List Done) where
  -- what is promised of the verdict on an entry
  abbrev Verdicts : ℕ → Done → Type 0
  Verdicts j d =
      (e k : ℕ) (m : Done) → get_elem? d.call.sources e ≡ some (sent_by k) → get_elem? past k ≡ some m → covered from m ≡ true
      → get_or d.output.verdicts e 0
      ≡ cond (any (heard_in d.node k) (take j past) || any (is_from k) (take e d.call.sources)) 16 0

  entry-true :
      (j : ℕ) (d : Done) → Verdicts j d → (e : ℕ) (o : Source) → get_elem? d.call.sources e ≡ some o → entry_right from past j d e o ≡ true
  entry-true j d h e (sent_by k) is = go (get_elem? past k) refl
    where
      go : (m : Option Done) → get_elem? past k ≡ m → verdict_right from past j d e k m ≡ true
      go none is-k = refl
      go (some m) is-k = implies-intro (covered from m) _ (λ c. same (h e k m is is-k c))
  entry-true j d h e stale is = refl

  heard-right : (j : ℕ) (d : Done) → (is_accepted d.output ≡ true → Verdicts j d) → hears_right from past j d ≡ true
  heard-right j d h =
      implies-intro (is_accepted d.output) _ (λ a. every-at (entry_right from past j d) d.call.sources (entry-true j d (h a)))

-- by the order of two messages
module _ (first : Done → Done → Bool) (from : ℕ) (past : List Done)
    (right : (i j : ℕ) (a b : Done) → Leads past i j → get_elem? past i ≡ some a → get_elem? past j ≡ some b → covered from a ≡ true
    → covered from b ≡ true → first a b ≡ true) where
  -- a call and the positions that it leads to so far
  causes-true :
      (i : ℕ) (a : Done) → get_elem? past i ≡ some a → covered from a ≡ true
      → (led : List ℕ) → ((k : ℕ) → Memᴰ k led → (k ≡ i) ⊎ Leads past i k)
      → (j : ℕ) (bs : List Done) → ((l : ℕ) (b : Done) → get_elem? bs l ≡ some b → get_elem? past (j + l) ≡ some b)
      → causes_right first from past a led j bs ≡ true
  unfolding causes_right
  causes-true i a at c led leads j [] h = refl
  causes-true i a at c led leads j (b ∷ bs) h =
      elim (true-or-false (any (step_to past j b) led)) [
        | inl e ↦
            let led-here = lead e in
            cond-true _ _ e ∙ and_intro (implies-intro (covered from b) _ (λ c'. right i j a b led-here at here c c'))
            (causes-true i a at c (j ∷ led) (λ k m. elim (Memᴰ.cases_cons m) [
              | inl q ↦ inr (subst (Leads past i) (sym q) led-here)
              | inr q ↦ leads k q
            ]) (suc j) bs rest)
        | inr e ↦ cond-false _ _ e ∙ causes-true i a at c led leads (suc j) bs rest
      ]
    where
      rest : (l : ℕ) (b' : Done) → get_elem? bs l ≡ some b' → get_elem? past (suc j + l) ≡ some b'
      rest l b' q = ap (get_elem? past) (on-by-one j l) ∙ h (suc l) b' q

      here : get_elem? past j ≡ some b
      here = sym (ap (get_elem? past) (add-zero j)) ∙ h 0 b refl

      lead : any (step_to past j b) led ≡ true → Leads past i j
      lead e = go (any-mem (step_to past j b) led e)
        where
          go : (k : ℕ) × Memᴰ k led × (step_to past j b k ≡ true) → Leads past i j
          go (k, m, t) =
              elim (leads k m) [
                | inl q ↦ subst (λ (n : ℕ). Leads past n j) q (step-leads past k j b here t)
                | inr q ↦ on q (step-leads past k j b here t)
              ]

  cause-right : (i : ℕ) (a : Done) → get_elem? past i ≡ some a → cause_right first from past i a ≡ true
  cause-right i a at =
      implies-intro (covered from a) _ (λ c.
      causes-true i a at c (i ∷ []) (λ k m. elim (Memᴰ.cases_cons m) [
        | inl q ↦ inl q
        | inr q ↦ absurd (Memᴰ.not-nil q)
      ]) 0 past (λ l b q. ap (get_elem? past) (zero-add l) ∙ q))

-- Demand 3: the promises make their tests true
module _ (s : Setup) (from : ℕ) (past : List Done) (p : Promised s from past) where
  pub sending-true : sending_test s from past ≡ true
  unfolding sending_test
  sending-true =
      every-of-mem (sends_right (written s) from) past (λ d m.
      let at = mem-get_elem? m in
      sent-right (written s) from d (p.sending at.0 d at.1))

  pub hearing-true : hearing_test s from past ≡ true
  unfolding hearing_test
  hearing-true = every-at (hears_right from past) past (λ j d at. heard-right from past j d (p.hearing j d at))

  pub delivering-true : delivering_test s from past ≡ true
  unfolding delivering_test
  delivering-true = every-at _ past (λ j d at. delivered-right d _ _ (p.delivering j d at))

  pub causality-true : causality_test s from past ≡ true
  unfolding causality_test
  causality-true = every-at _ past (cause-right (earlier s) from past p.causality)

-- 02, 2.10: and so by a schedule
module _ (g : Schedule) (from : ℕ) (past : List Done) (p : PromisedAlong g from past) where
  pub sending-along : sending_along g from past ≡ true
  unfolding sending_along
  sending-along =
      every-of-mem (sends_right (written_along g) from) past (λ d m.
      let at = mem-get_elem? m in
      sent-right (written_along g) from d (p.sending at.0 d at.1))

  pub hearing-along : hearing_along g from past ≡ true
  unfolding hearing_along
  hearing-along = every-at (hears_right from past) past (λ j d at. heard-right from past j d (p.hearing j d at))

  pub delivering-along : delivering_along g from past ≡ true
  unfolding delivering_along
  delivering-along = every-at _ past (λ j d at. delivered-right d _ _ (p.delivering j d at))

  pub causality-along : causality_along g from past ≡ true
  unfolding causality_along
  causality-along = every-at _ past (cause-right (earlier_along g) from past p.causality)

-- a test of the list that the promises make true and that is false refutes demand 3
module _ (test : Setup → ℕ → List Done → Bool) (right : (s : Setup) (from : ℕ) (past : List Done) → Promised s from past → test s from past ≡ true)
    (s : Setup) (nodes : List Node) (calls : List Call) where
  pub refute-promised :
      good_start s nodes ≡ true → keeps s (largest_clock nodes) (at_start nodes) calls ≡ true
      → test s (covered_from s (largest_clock nodes)) (run_from (at_start nodes) calls).past ≡ false → Demand3 → ⊥
  refute-promised good kept wrong demand =
      clash (right s (covered_from s (largest_clock nodes)) (run_from (at_start nodes) calls).past (demand s nodes calls good kept)) wrong

  -- or what it says from a fresh start
  pub refute-start :
      good_start s nodes ≡ true → all_fresh s nodes ≡ true → keeps s (largest_clock nodes) (at_start nodes) calls ≡ true
      → none_stale (run_from (at_start nodes) calls).past ≡ true → test s 0 (run_from (at_start nodes) calls).past ≡ false → Demand3Fresh → ⊥
  refute-start good fresh kept sent wrong demand =
      clash (right s 0 (run_from (at_start nodes) calls).past (demand s nodes calls good fresh kept sent)) wrong

-- 02, 2.11: what a test says of each message
every-there : {A : Type 0} (p : ℕ → A → Bool) (i : ℕ) (l : List A) → every_from p i l ≡ true → (k : ℕ) (x : A) → get_elem? l k ≡ some x → p (i + k) x ≡ true
unfolding every_from
every-there p i [] h k x e = absurd (none-ne-some x e)
every-there p i (y ∷ l) h zero x e =
    ap (λ (n : ℕ). p n x) (add-zero i) ∙ ap (p i) (sym (some-injective y x e)) ∙ and_left (p i y) (every_from p (suc i) l) h
every-there p i (y ∷ l) h (suc k) x e =
    ap (λ (n : ℕ). p n x) (sym (on-by-one i k)) ∙ every-there p (suc i) l (and_right (p i y) (every_from p (suc i) l) h) k x e

same_truth_lem : (c x y : Bool) → implies c (cond x y (not y)) ≡ true → c ≡ true → x ≡ y
same_truth_lem true true y h c = sym h
same_truth_lem true false true h c = absurd (clash h refl)
same_truth_lem true false false h c = refl
same_truth_lem false x y h c = absurd (clash c refl)

module _ (s : Setup) (from : ℕ) (w : World) (a b : ℕ) where
  pub same-heard : same_heard_test s from w a b ≡ true → SameHeard s from w a b
  unfolding same_heard_test
  same-heard test k m e =
      same_truth_lem (covered from m) (heard_and_due s w a k m) (heard_and_due s w b k m)
      (sym (ap (λ (n : ℕ). implies (covered from m) (cond (heard_and_due s w a n m) (heard_and_due s w b n m) (not (heard_and_due s w b n m)))) (zero-add k))
      ∙ every-there _ 0 w.past test k m e)

-- of two boards that heard the same and showed other frames
pub refute-charges :
    (s : Setup) (nodes : List Node) (calls : List Call) (a b : ℕ) → good_start s nodes ≡ true
    → keeps s (largest_clock nodes) (at_start nodes) calls ≡ true
    → same_heard_test s (covered_from s (largest_clock nodes)) (run_from (at_start nodes) calls) a b ≡ true
    → shown_test s (covered_from s (largest_clock nodes)) (run_from (at_start nodes) calls).past a b ≡ false → Charges → ⊥
unfolding shown_test
refute-charges s nodes calls a b good kept heard wrong charges =
    clash
    (same_frames-eq
    (charges s nodes calls good kept a b 0 [] [] (same-heard s (covered_from s (largest_clock nodes)) (run_from (at_start nodes) calls) a b heard)
    (record { size = refl; bales = refl })).shown)
    wrong

-- or, through V, what 2.10 says
module _ (test : Schedule → ℕ → List Done → Bool) (right : (g : Schedule) (from : ℕ) (past : List Done) → PromisedAlong g from past → test g from past ≡ true)
    (y : Changeover) (nodes : List Node) (phases : List Phase) (calls : List Call) where
  pub refute-through :
      starts_through y phases nodes ≡ true
      → keeps_through y (largest_clock nodes) (frozen_until y (largest_clock nodes)) phases (at_start nodes) calls ≡ true
      → test (along_all y) (covered_through y (largest_clock nodes)) (run_from (at_start nodes) calls).past ≡ false → Demand3Through → ⊥
  refute-through good kept wrong demand =
      clash (right (along_all y) (covered_through y (largest_clock nodes)) (run_from (at_start nodes) calls).past (demand y nodes phases calls good kept)) wrong

  pub refute-fresh-through :
      starts_through y phases nodes ≡ true → fresh_through y nodes ≡ true
      → keeps_through y (largest_clock nodes) 0 phases (at_start nodes) calls ≡ true → none_stale (run_from (at_start nodes) calls).past ≡ true
      → test (along_all y) 0 (run_from (at_start nodes) calls).past ≡ false → Demand3FreshThrough → ⊥
  refute-fresh-through good fresh kept sent wrong demand =
      clash (right (along_all y) 0 (run_from (at_start nodes) calls).past (demand y nodes phases calls good fresh kept sent)) wrong

-- what holds of every step is true of all of them
pub every-step : (p : ℕ → Bool) (epsilon : ℕ) → ((k : ℕ) → 1 ≤ k → k ≤ epsilon → p k ≡ true) → every_step p epsilon ≡ true
every-step p epsilon h = every-tab p epsilon (λ k. k + 1) (λ k below. h (k + 1) (omega arith) (omega arith))

-- 02, 2.7: what holds before each entry is true before all of them
room-true : (s : Setup) (entries : List (List ℕ)) (before : ℕ → Heard) → NeverFull s before → room_before s entries before ≡ true
room-true s entries before p = every-tab _ _ (λ k. k) (λ k below. and_intro (lt-ltb _ _ (p.spare k)) (le-leb _ _ (p.most k)))

-- Demand 2 from any state: the promises make their tests true
module _ (i : Input) (p : AnyState i) where
  pub verdict-true : verdict_test i ≡ true
  unfolding verdict_test
  verdict-true = every-at _ _ (λ k entry e. same (p.verdict k entry e))

  pub taken_true : taken_test i ≡ true
  unfolding taken_test
  taken_true = same p.taken

  pub delivered-true : delivered_test i ≡ true
  unfolding delivered_test
  delivered-true = same p.delivered

  pub delivery-true : delivery_test i ≡ true
  unfolding delivery_test
  delivery-true = same_frames-eq p.delivery

  pub sent-true : sent_test i ≡ true
  unfolding sent_test
  sent-true = same p.sent

  pub outgoing-true : outgoing_test i ≡ true
  unfolding outgoing_test
  outgoing-true = same_list-eq p.outgoing

  pub repair-true : repair_test i ≡ true
  unfolding repair_test
  repair-true = same p.repair

  pub bounded-true : bounded_test i ≡ true
  unfolding bounded_test
  bounded-true = every-step _ i.setup.epsilon p.bounded

  pub bounded_queue-true : bounded_queue_test i ≡ true
  unfolding bounded_queue_test
  bounded_queue-true = every-step _ i.setup.epsilon p.bounded_queue

  pub never_full-true : never_full_test i ≡ true
  unfolding never_full_test
  never_full-true = room-true i.setup (batch_entries i.batch) (heard_before i) p.never_full

pub refute-any :
    (test : Input → Bool) → ((i : Input) → AnyState i → test i ≡ true) → (i : Input) → (tick i).answer.number ≡ 0
    → test i ≡ false → Demand2Any → ⊥
refute-any test right i accepted wrong demand = clash (right i (demand i accepted)) wrong

-- of an observer's call
module _ (i : Listening) (p : AnyObserver i) where
  pub observed-true : observed_test i ≡ true
  unfolding observed_test
  observed-true = every-at _ _ (λ k entry e. same (p.verdict k entry e))

  pub observer-taken-true : observer_taken_test i ≡ true
  unfolding observer_taken_test
  observer-taken-true = same p.taken

  pub observer-delivered-true : observer_delivered_test i ≡ true
  unfolding observer_delivered_test
  observer-delivered-true = same p.delivered

  pub observer-delivery-true : observer_delivery_test i ≡ true
  unfolding observer_delivery_test
  observer-delivery-true = same_frames-eq p.delivery

  pub observer-repair-true : observer_repair_test i ≡ true
  unfolding observer_repair_test
  observer-repair-true = same p.repair

  pub last-true : last_test i ≡ true
  unfolding last_test
  last-true = same p.last

  pub last-bounded-true : last_bounded_test i ≡ true
  unfolding last_bounded_test
  last-bounded-true = every-step _ i.setup.epsilon p.bounded

  pub observer-queue-true : observer_queue_test i ≡ true
  unfolding observer_queue_test
  observer-queue-true = every-step _ i.setup.epsilon p.bounded_queue

  pub observer-never-full-true : observer_never_full_test i ≡ true
  unfolding observer_never_full_test
  observer-never-full-true = room-true i.setup (batch_entries i.batch) (observed_before i) p.never_full

pub refute-observer :
    (test : Listening → Bool) → ((i : Listening) → AnyObserver i → test i ≡ true) → (i : Listening) → (listen i).number ≡ 0
    → test i ≡ false → Demand2Observer → ⊥
refute-observer test right i accepted wrong demand = clash (right i (demand i accepted)) wrong

-- Demand 2 from fresh stations: the promises make their tests true
pub same_timestamp-eq : {t u : Timestamp} → t ≡ u → same_timestamp t u ≡ true
unfolding same_timestamp
same_timestamp-eq {t} {u} e =
    and_intro (same (ap (λ (a : Timestamp). a.r) e))
    (and_intro (same (ap (λ (a : Timestamp). a.c) e)) (same_list-eq (ap (λ (a : Timestamp). a.kn) e)))

module _ (s : Setup) (o : Outcome) (d : Done) (p : SameAs s o d) where
  pub tables-same : same_tables s o d ≡ true
  unfolding same_tables
  tables-same = same_timestamp-eq p.tables

  pub repair-same : same_repair s o d ≡ true
  unfolding same_repair
  repair-same = same p.repair

  pub taken-same : same_taken s o d ≡ true
  unfolding same_taken
  taken-same = same p.taken

  pub verdicts-same : same_verdicts s o d ≡ true
  unfolding same_verdicts
  verdicts-same = same_list-eq p.verdicts

  pub holdback-same : same_holdback s o d ≡ true
  unfolding same_holdback
  holdback-same = same_list-eq p.holdback

  pub outgoing-same : same_outgoing s o d ≡ true
  unfolding same_outgoing
  outgoing-same = same_list-eq p.outgoing

  pub sent-same : same_sent s o d ≡ true
  unfolding same_sent
  sent-same = same p.sent

  pub delivery-same : same_delivery s o d ≡ true
  unfolding same_delivery
  delivery-same = same_list-eq p.delivery

  pub delivered-same : same_delivered s o d ≡ true
  unfolding same_delivered
  delivered-same = same p.delivered

module _ (test : FreshTest) (right : (s : Setup) (o : Outcome) (d : Done) → SameAs s o d → test s o d ≡ true) (s : Setup) where
  matched-true : (delcond : Condition) (w : Published) (d : Done) → Matched delcond s w d → matched_by test delcond s w d (get_elem? w.processes d.node) ≡ true
  matched-true delcond w d (p, is, m) =
      ap (matched_by test delcond s w d) is ∙ right s (outcome_of delcond s w.sent p d.clock d.call) d m

  fresh-true :
      (delcond : Condition) (w : Published) (past : List Done)
      → ((j : ℕ) (d : Done) → get_elem? past j ≡ some d → is_event d ≡ true → Matched delcond s (publish_all delcond s w (take j past)) d)
      → fresh_test test delcond s w past ≡ true
  unfolding fresh_test publish_all
  fresh-true delcond w [] h = refl
  fresh-true delcond w (d ∷ ds) h =
      and_intro (implies-intro (is_event d) _ (λ a. matched-true delcond w d (h 0 d refl a)))
      (fresh-true delcond (publish delcond s w d) ds (λ j d' at a. h (suc j) d' at a))

  pub refute-fresh :
      (nodes : List Node) (calls : List Call) → good_start s nodes ≡ true → all_fresh s nodes ≡ true
      → keeps s (largest_clock nodes) (at_start nodes) calls ≡ true → none_stale (run_from (at_start nodes) calls).past ≡ true
      → fresh_test test deliverable_by s (published_start s nodes) (run_from (at_start nodes) calls).past ≡ false → Demand2Fresh → ⊥
  refute-fresh nodes calls good fresh kept sent wrong demand =
      clash (fresh-true deliverable_by (published_start s nodes) (run_from (at_start nodes) calls).past (demand s nodes calls good fresh kept sent)) wrong

  -- and where all steps are one, with Equation 4.11's program
  pub refute-ones :
      (nodes : List Node) (calls : List Call) → good_start s nodes ≡ true → all_fresh s nodes ≡ true
      → keeps s (largest_clock nodes) (at_start nodes) calls ≡ true → none_stale (run_from (at_start nodes) calls).past ≡ true
      → steps_of_one (run_from (at_start nodes) calls).past ≡ true
      → fresh_test test deliverable s (published_start s nodes) (run_from (at_start nodes) calls).past ≡ false → Demand2Ones → ⊥
  refute-ones nodes calls good fresh kept sent ones wrong demand =
      clash (fresh-true deliverable (published_start s nodes) (run_from (at_start nodes) calls).past (demand s nodes calls good fresh kept sent ones)) wrong
