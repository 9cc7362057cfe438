-- The numbers that a tick can be refused with, and those that what stands around the ticks of a trace can. Assumes nothing.
use Prim.Native.Nat.{ℕ, zero, suc, ◌+◌, ◌*◌, ◌≤◌, ◌<◌}
use native.Mathlib.Omega.{arith}
use mathlib.Core.Path.{◌≡◌, refl, ap}
use mathlib.Core.Bool.{Bool, true, false, ◌&&◌}
use mathlib.Core.List.{List, [], ◌∷◌}
use Rattle.laws.specs.Lists.{any}
use Rattle.laws.proofs.Numbers.{clash, and_left, and_intro, or_right}
use Rattle.model.specs.Setup.{in_limits, is_member, width, longest_frame}
use Rattle.model.specs.Timestamp.{Timestamp}
use Rattle.model.specs.Question.{Question, ask, first_no, ask_setup}
use Rattle.model.specs.Codec.{ask_payload}
use Rattle.model.specs.Tick.{Input, Output, holdback_size, roomy, call_questions, refusal, acceptance, tick}
use Rattle.lemmas.proofs.Questions.{first-yes, other-yes, setup-from}
use Rattle.lemmas.proofs.OneTick.{tick-by}
use Rattle.trace.specs.Trace.{NodeSetup, is_valid, trace_setup, setup_number, count_number, end_number, tick_number, largest_holdback}
use Rattle.trace.specs.Replay.{call_of, called_turn, turn_by, turn}
use borrow.Author.Tests.{leb-true, le-leb, lt-ltb, eq-eqb}
use lib.Dec.{leb, eqb}
use lib.ListN.{length}
use Rattle.playing.specs.Playing.{Ready, among, run_numbers, replay_numbers}

-- one of the numbers, where the number of each question that can get a no is one
pub first-among : (numbers : List ℕ) (holds : Bool) (k : ℕ) (qs : List Question) → (holds ≡ false → among numbers k ≡ true)
    → among numbers (first_no qs) ≡ true → among numbers (first_no (ask holds k ∷ qs)) ≡ true
unfolding first_no
first-among numbers true k qs h rest = rest
first-among numbers false k qs h rest = h refl

pub none-no : first_no [] ≡ 0
unfolding first_no
none-no = refl

-- a setup of so many bytes
pub setup-among : (size : ℕ) (bytes : List ℕ) → among replay_numbers (setup_number size bytes) ≡ true
unfolding among any setup_number
setup-among size bytes =
    first-among replay_numbers _ 5 _ (λ _. refl)
    (first-among replay_numbers _ 1 _ (λ _. refl) (first-among replay_numbers _ 1 _ (λ _. refl) (ap (among replay_numbers) none-no)))

-- a count of ticks, and what follows the last tick
pub count-among : (bytes : List ℕ) → among run_numbers (count_number bytes) ≡ true
unfolding among any count_number
count-among bytes = first-among run_numbers _ 5 _ (λ _. refl) (ap (among run_numbers) none-no)

pub end-among : (more : ℕ) → among run_numbers (end_number more) ≡ true
unfolding among any end_number
end-among more = first-among run_numbers _ 5 _ (λ _. refl) (ap (among run_numbers) none-no)

-- what the ticks stop with, the whole trace stops with
pub run-among : (x : ℕ) → among run_numbers x ≡ true → among replay_numbers x ≡ true
unfolding among any
run-among x h = or_right (eqb x 1) h

-- a setup that is not refused
pub setup-ready : (size : ℕ) (bytes : List ℕ) → setup_number size bytes ≡ 0 → Ready (trace_setup bytes)
unfolding setup_number
setup-ready size bytes e =
    let e₁ = other-yes (leb size (length bytes)) 4 _ e in
    let e₂ = other-yes (is_valid (trace_setup bytes)) 0 _ e₁ in
    record {
      valid = first-yes (is_valid (trace_setup bytes)) 0 _ e₁;
      small = leb-true (holdback_size (trace_setup bytes).setup) largest_holdback (first-yes (leb (holdback_size (trace_setup bytes).setup) largest_holdback) 0 _ e₂);
    }

-- with it the ticks of any station of the group can start
pub ready-member : (s : NodeSetup) (own : ℕ) → Ready s → own < s.setup.n → Ready (record { setup = s.setup; own = own })
unfolding is_member
ready-member s own ready h =
    record {
      valid = and_intro (and_left (in_limits s.setup) (is_member s.setup s.own) ready.valid) (lt-ltb own s.setup.n h);
      small = ready.small;
    }

-- of the questions of a call only 2, 4 and 5 are open
call-among : (i : Input) → (in_limits i.setup && is_member i.setup i.own) ≡ true → eqb (length i.holdback) (holdback_size i.setup) ≡ true → roomy i ≡ true
    → among run_numbers (first_no (call_questions i)) ≡ true
unfolding among any call_questions ask_setup ask_payload
call-among i limits size room =
    first-among run_numbers _ 1 _ (λ h. absurd (clash limits h))
    (first-among run_numbers _ 2 _ (λ _. refl)
    (first-among run_numbers _ 3 _ (λ h. absurd (clash size h))
    (first-among run_numbers _ 4 _ (λ _. refl)
    (first-among run_numbers _ 5 _ (λ _. refl)
    (first-among run_numbers _ 6 _ (λ h. absurd (clash room h)) (ap (among run_numbers) none-no))))))

-- what a call answers is the number of the first no
pub answer-number : (i : Input) → (tick i).answer.number ≡ first_no (call_questions i)
unfolding refusal acceptance
answer-number i = go (first_no (call_questions i)) refl
  where
    go : (k : ℕ) → first_no (call_questions i) ≡ k → (tick i).answer.number ≡ k
    go zero e = ap (λ (o : Output). o.answer.number) (tick-by i zero e)
    go (suc k) e = ap (λ (o : Output). o.answer.number) (tick-by i (suc k) e)

module _ (s : NodeSetup) (tables : Timestamp) (holdback bytes : List ℕ) (ready : Ready s) (size : length holdback ≡ holdback_size s.setup) where
  -- the buffers that are lent have room
  lent-room : roomy (call_of s tables holdback bytes) ≡ true
  unfolding roomy call_of longest_frame width
  lent-room =
      let wide : 39 + 2 * s.setup.epsilon ≤ 71 = omega (arith, (setup-from s.setup s.own ready.valid).0.epsilon-most) in
      and_intro (le-leb (39 + 2 * s.setup.epsilon) 71 wide) (and_intro refl (le-leb (holdback_size s.setup) largest_holdback ready.small))

  pub turn-among : among run_numbers (turn s tables holdback bytes).number ≡ true
  unfolding among any turn called_turn tick_number call_of
  turn-among = go (tick_number bytes) (first-among run_numbers _ 5 _ (λ _. refl) (first-among run_numbers _ 5 _ (λ _. refl) (ap (among run_numbers) none-no)))
    where
      i : Input
      i = call_of s tables holdback bytes

      go : (k : ℕ) → among run_numbers k ≡ true → among run_numbers (turn_by k s tables holdback bytes).number ≡ true
      go zero h = rw (answer-number i) (call-among i ready.valid (eq-eqb (length holdback) (holdback_size s.setup) size) lent-room)
      go (suc k) h = h
