-- 02, 2.14: each of its promises makes its test true, so a test that computes to false refutes it. Nothing here looks into a definition of the tick or of
-- the premises: it holds under any edit of them.
-- Assumes nothing.
use Prim.Native.Nat.{ℕ, zero, suc, ◌+◌, ◌<◌}
use native.Mathlib.Omega.{arith}
use native.Mathlib.Nat.{zero-add, add-zero, suc-add, add-suc}
use mathlib.Core.Path.{◌≡◌, refl, sym, ap, ◌∙◌}
use mathlib.Core.Logic.{◌⊎◌, inl, inr}
use mathlib.Core.Bool.{Bool, true, false, ◌&&◌, ◌||◌}
use mathlib.Core.List.{List, [], ◌∷◌}
use mathlib.Core.Option.{some}
use lib.Dec.{leb, ltb, eqb}
use lib.ListN.{get_elem?}
use borrow.Author.Tests.{leb-true, lt-ltb, eq-eqb}
use Rattle.laws.specs.Lists.{any}
use Rattle.laws.proofs.Numbers.{clash, and_intro, and_left, and_right, or_left, or_right}
use Rattle.model.specs.Setup.{Setup}
use Rattle.model.specs.Schedule.{Schedule, steady}
use Rattle.model.specs.Run.{Node, Call, Done, World, is_accepted, at_start, run_from}
use Rattle.theory.specs.Premises.{good_start, largest_clock, clock_at, keeps}
use Rattle.theory.specs.Demand3.{covered_from, covered, heard_in}
use Rattle.theory.specs.Changeover.{Changeover, along_all, Phase, frozen_until, keeps_through, starts_through}
use Rattle.theory.specs.Through.{covered_through}
use Rattle.theory.specs.Showing.{shown_by, ShownAt, steps_up_to, shown_until, Showing, Shows, ShowsThrough}
use Rattle.violations.specs.Tests.{any_from}
use Rattle.violations.specs.Showing.{shown_test, shown_where, heard_there, far_below, far_from, far_test, soon_at, soon_test}
use Rattle.violations.proofs.Refuting.{implies-intro, same_frames-eq, every-at}
use Rattle.violations.proofs.Telling.{telling}

-- what the tests of 2.14 are made of, opened with all else
unfoldable pub showing : Unit {0}
unfolding shown_by steps_up_to shown_until shown_test far_test soon_test telling
showing = tt

module _ {A : Type 0} where
  any-in : (p : ℕ → A → Bool) (i : ℕ) (l : List A) (k : ℕ) {x : A} → get_elem? l k ≡ some x → p (i + k) x ≡ true → any_from p i l ≡ true
  unfolding any_from
  any-in p i [] k e h = let z : ◌≡◌ {A = ℕ} 0 1 = cc in absurd (omega arith)
  any-in p i (y ∷ l) zero {x} e h =
      let same : y ≡ x = cc in
      or_left (any_from p (suc i) l) (ap (λ (z : A). p i z) same ∙ (ap (λ (n : ℕ). p n x) (sym (add-zero i)) ∙ h))
  any-in p i (y ∷ l) (suc k) {x} e h =
      or_right (p i y) (any-in p (suc i) l k e (ap (λ (n : ℕ). p n x) (suc-add i k ∙ sym (add-suc i k)) ∙ h))

  -- what holds of an element at its position holds of some
  any-there : (p : ℕ → A → Bool) (l : List A) (k : ℕ) {x : A} → get_elem? l k ≡ some x → p k x ≡ true → any_from p 0 l ≡ true
  any-there p l k {x} e h = any-in p 0 l k e (ap (λ (n : ℕ). p n x) (zero-add k) ∙ h)

-- what is shown in a call, of which a test is true, is shown somewhere
shown-where :
    (test : ℕ → Done → ℕ → Bool) (g : Schedule) (from : ℕ) (past : List Done) (node : ℕ) (m : Done) (i : ℕ) (a : Done) (p : ℕ)
    → ShownAt g from past node m i a p → test i a p ≡ true → shown_where test g from past node m ≡ true
shown-where test g from past node m i a p shown h =
    any-there _ past i shown.at (and_intro shown.accepted (and_intro (eq-eqb a.node node shown.board)
    (any-there _ (shown_by g from past i a) p shown.place
    (and_intro (eq-eqb m.node m.node refl) (and_intro (eq-eqb m.clock m.clock refl) h)))))

first-true : (i p j q : ℕ) → (i < j) ⊎ ((i ≡ j) × (p < q)) → (ltb i j || (eqb i j && ltb p q)) ≡ true
first-true i p j q (inl h) = or_left (eqb i j && ltb p q) (lt-ltb i j h)
first-true i p j q (inr h) = or_right (ltb i j) (and_intro (eq-eqb i j h.0) (lt-ltb p q h.1))

-- the promises make their tests true
module _ (g : Schedule) (from : ℕ) (w : World) (p : Showing g from w) where
  pub shown-true : shown_test g from w ≡ true
  unfolding shown_test
  shown-true = every-at _ w.past (λ j d at. implies-intro (is_accepted d.output) _ (λ accepted. same_frames-eq (p.delivering j d at accepted)))

  far_from_lem :
      (j : ℕ) (d : Done) → get_elem? w.past j ≡ some d → is_accepted d.output ≡ true
      → (q : ℕ) (m' : Done) → get_elem? (shown_by g from w.past j d) q ≡ some m'
      → (k : ℕ) (m : Done) → get_elem? w.past k ≡ some m → far_from g from w.past j d q m' k m ≡ true
  far_from_lem j d at accepted q m' place k m m-at =
      implies-intro (covered from m && (heard_there w.past d.node k && far_below g m m')) _ (λ h.
      let rest = and_right (covered from m) (heard_there w.past d.node k && far_below g m m') h in
      let before =
      p.far d.node k m m' m-at (and_left (covered from m) _ h) (and_left (heard_there w.past d.node k) (far_below g m m') rest)
      (leb-true _ _ (and_right (heard_there w.past d.node k) (far_below g m m') rest))
      j d q (record { at = at; accepted = accepted; board = refl; place = place }) in
      shown-where (λ i a place'. ltb i j || (eqb i j && ltb place' q)) g from w.past d.node m before.call before.done before.place
      before.shown (first-true before.call before.place j q before.first))

  pub far-true : far_test g from w ≡ true
  unfolding far_test
  far-true =
      every-at _ w.past (λ j d at. implies-intro (is_accepted d.output) _ (λ accepted.
      every-at _ (shown_by g from w.past j d) (λ q m' place. every-at _ w.past (far_from_lem j d at accepted q m' place))))

  soon-at :
      (most node : ℕ) → steps_up_to node most w.past ≡ true → (k : ℕ) (m : Done) → get_elem? w.past k ≡ some m → soon_at most g from w node k m ≡ true
  soon-at most node few k m m-at =
      implies-intro (covered from m && (any (heard_in node k) w.past && leb (shown_until g most m) (clock_at (get_elem? w.nodes node)))) _ (λ h.
      let rest = and_right (covered from m) (any (heard_in node k) w.past && leb (shown_until g most m) (clock_at (get_elem? w.nodes node))) h in
      let sooner =
      p.soon node most k m few m-at (and_left (covered from m) _ h)
      (and_left (any (heard_in node k) w.past) (leb (shown_until g most m) (clock_at (get_elem? w.nodes node))) rest)
      (leb-true (shown_until g most m) (clock_at (get_elem? w.nodes node))
      (and_right (any (heard_in node k) w.past) (leb (shown_until g most m) (clock_at (get_elem? w.nodes node))) rest)) in
      shown-where (λ i a place. ltb a.clock (shown_until g most m)) g from w.past node m sooner.call sooner.done sooner.place
      sooner.shown (lt-ltb sooner.done.clock (shown_until g most m) sooner.sooner))

pub soon-true : (most : ℕ) (g : Schedule) (from : ℕ) (w : World) → Showing g from w → soon_test most g from w ≡ true
unfolding soon_test
soon-true most g from w p =
    every-at _ w.nodes (λ node a at. implies-intro (steps_up_to node most w.past) _ (λ few.
    every-at _ w.past (soon-at g from w p most node few)))

-- a test of the list that the promises make true and that is false refutes 2.14, with one pair
module _ (test : Schedule → ℕ → World → Bool) (right : (g : Schedule) (from : ℕ) (w : World) → Showing g from w → test g from w ≡ true) where
  pub refute-shows :
      (s : Setup) (nodes : List Node) (calls : List Call) → good_start s nodes ≡ true → keeps s (largest_clock nodes) (at_start nodes) calls ≡ true
      → test (steady s) (covered_from s (largest_clock nodes)) (run_from (at_start nodes) calls) ≡ false → Shows → ⊥
  refute-shows s nodes calls good kept wrong shows =
      clash (right (steady s) (covered_from s (largest_clock nodes)) (run_from (at_start nodes) calls) (shows s nodes calls good kept)) wrong

  -- or through V
  pub refute-shows-through :
      (y : Changeover) (nodes : List Node) (phases : List Phase) (calls : List Call) → starts_through y phases nodes ≡ true
      → keeps_through y (largest_clock nodes) (frozen_until y (largest_clock nodes)) phases (at_start nodes) calls ≡ true
      → test (along_all y) (covered_through y (largest_clock nodes)) (run_from (at_start nodes) calls) ≡ false → ShowsThrough → ⊥
  refute-shows-through y nodes phases calls good kept wrong shows =
      clash (right (along_all y) (covered_through y (largest_clock nodes)) (run_from (at_start nodes) calls) (shows y nodes phases calls good kept)) wrong
