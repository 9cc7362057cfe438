-- The questions of the poll, and its answer by the first no. Assumes nothing.
use Prim.Native.Nat.{ℕ, zero, suc, ◌+◌, ◌≤◌, ◌<◌}
use native.Mathlib.Omega.{arith}
use native.Mathlib.Nat.{mod-lt}
use mathlib.Core.Path.{◌≡◌, refl, sym, ap, ◌∙◌}
use mathlib.Core.Bool.{Bool, true, false, ◌&&◌, cond}
use mathlib.Core.List.{List, [], ◌∷◌}
use mathlib.Core.Option.{Option, none, some, map}
use lib.Dec.{ltb, eqb}
use lib.ListN.{length}
use borrow.Author.Tests.{lt-ltb, eq-eqb}
use Rattle.laws.specs.Lists.{select}
use Rattle.laws.proofs.Numbers.{and_left}
use Rattle.laws.proofs.Lists.{select-length-le}
use Rattle.model.specs.Setup.{Setup, in_limits, is_member, holdback_length}
use Rattle.model.specs.Frame.{Frame, two_at}
use Rattle.model.specs.Order.{reading_clock}
use Rattle.model.specs.Question.{ask, first_no, ask_setup}
use Rattle.model.specs.Holdback.{held, sound_holdback}
use Rattle.model.specs.Tick.{holdback_size, holdback_questions, opening_queue}
use Rattle.model.specs.Poll.{poll_questions, polled_queue, soonest_due, next_due, due_within, number_within, poll_by, poll}
use Rattle.lemmas.proofs.Bounds.{Limits}
use Rattle.lemmas.proofs.Questions.{limits-from, first-yes, other-yes, yes-cons, no-cons, holdback-passed}
use Rattle.lemmas.proofs.Queue.{opening-queue, queue-room, depth_small}
use Rattle.polling.specs.Answers.{SmallNext}
use Rattle.polling.proofs.Fronts.{next-none}

-- a shelf of its length has its count
pub size-two : (s : Setup) (holdback : List ℕ) → length holdback ≡ holdback_size s → 2 ≤ length holdback
unfolding holdback_length
size-two s holdback e = omega (arith, e)

module _ (s : Setup) (own v : ℕ) (holdback : List ℕ) where
  abbrev valid : Bool
  valid = in_limits s && is_member s own

  pub setup-no : valid ≡ false → 1 ≡ first_no (poll_questions s own v holdback)
  unfolding poll_questions ask_setup
  setup-no h = sym (no-cons valid 1 (holdback_questions s v holdback) h)

  pub holdback-asked : valid ≡ true → first_no (holdback_questions s v holdback) ≡ first_no (poll_questions s own v holdback)
  unfolding poll_questions ask_setup
  holdback-asked h = sym (yes-cons valid 1 (holdback_questions s v holdback) h)

  pub questions-passed : valid ≡ true → v < s.modulus → length holdback ≡ holdback_size s → 0 ≡ first_no (poll_questions s own v holdback)
  unfolding first_no
  questions-passed h below size =
      sym (yes-cons (ltb v s.modulus) 2 (ask (eqb (length holdback) (holdback_size s)) 3 ∷ []) (lt-ltb v s.modulus below)
      ∙ yes-cons (eqb (length holdback) (holdback_size s)) 3 [] (eq-eqb (length holdback) (holdback_size s) size))
      ∙ holdback-asked h

  -- what a poll that is not refused has
  pub record Passed : Type 0 where
    pub limits : in_limits s ≡ true
    pub below : v < s.modulus
    pub size : length holdback ≡ holdback_size s

  pub all-passed : first_no (poll_questions s own v holdback) ≡ 0 → Passed
  unfolding poll_questions ask_setup
  all-passed e =
      let rest = holdback-passed s v holdback (other-yes valid 0 (holdback_questions s v holdback) e) in
      record { limits = and_left (in_limits s) (is_member s own) (first-yes valid 0 (holdback_questions s v holdback) e); below = rest.0; size = rest.1 }

  module _ (d : ℕ) where
    -- a refused poll answers the number alone
    pub poll-refused : (k : ℕ) → k ≡ first_no (poll_questions s own v holdback) → (k ≡ 0 → ⊥) → record { number = k; next = none; within = 0 } ≡ poll s own v d holdback
    unfolding poll
    poll-refused zero e h = absurd (h refl)
    poll-refused (suc k) e h = ap (λ (m : ℕ). poll_by m s v d (polled_queue s v holdback)) e

    pub poll-accepted : 0 ≡ first_no (poll_questions s own v holdback) → poll_by 0 s v d (polled_queue s v holdback) ≡ poll s own v d holdback
    unfolding poll
    poll-accepted e = ap (λ (m : ℕ). poll_by m s v d (polled_queue s v holdback)) e

-- an unsound shelf, and a sound one
pub polled-unsound : (s : Setup) (v d : ℕ) (holdback : List ℕ) → sound_holdback s v (s.modulus + 1) holdback ≡ false → record { number = 0; next = none; within = 0 } ≡ poll_by 0 s v d (polled_queue s v holdback)
unfolding polled_queue opening_queue number_within select
polled-unsound s v d holdback e = rw (e, next-none s v) refl

pub polled-sound : (s : Setup) (v : ℕ) (holdback : List ℕ) → sound_holdback s v (s.modulus + 1) holdback ≡ true → polled_queue s v holdback ≡ held s.epsilon holdback
unfolding polled_queue opening_queue
polled-sound s v holdback e = rw e refl

-- the walk's count, of a sound one
pub polled-count : (s : Setup) (v : ℕ) (holdback : List ℕ) {count : ℕ} → sound_holdback s v (s.modulus + 1) holdback ≡ true
    → count ≡ cond (sound_holdback s v (s.modulus + 1) holdback) (two_at holdback 0) 0 → count ≡ two_at holdback 0
polled-count s v holdback e count-is = count-is ∙ rw e refl

-- ---- the answer's numbers are below 65,536

next_small : (s : Setup) (v : ℕ) (queue : List Frame) → Limits s → SmallNext (next_due s v queue)
unfolding next_due reading_clock
next_small s v queue limits = go (soonest_due s v queue)
  where
    go : (o : Option ℕ) → SmallNext (map (reading_clock s v) o)
    go none = tt
    go (some d) =
        let some-clock : 0 < s.modulus = omega (arith, limits.modulus-least) in
        omega (arith, mod-lt (v + d) some-clock, limits.modulus-most)

number_small : (s : Setup) (v d : ℕ) (holdback : List ℕ) → Limits s → v < s.modulus → number_within s v d (polled_queue s v holdback) < 65536
unfolding number_within polled_queue
number_small s v d holdback limits below =
    let queue = opening_queue s v (s.modulus + 1) holdback in
    omega (
      arith,
      select-length-le (due_within s v d) queue,
      queue-room s v (s.modulus + 1) queue limits below (omega arith) (opening-queue s v (s.modulus + 1) holdback limits),
      depth_small s limits,
    )

pub poll-small : (s : Setup) (own v d : ℕ) (holdback : List ℕ) → SmallNext (poll s own v d holdback).next × ((poll s own v d holdback).within < 65536)
unfolding poll
poll-small s own v d holdback = go (first_no (poll_questions s own v holdback)) refl
  where
    go : (k : ℕ) → first_no (poll_questions s own v holdback) ≡ k → SmallNext (poll_by k s v d (polled_queue s v holdback)).next × ((poll_by k s v d (polled_queue s v holdback)).within < 65536)
    go zero e =
        let p = all-passed s own v holdback e in
        let limits = limits-from s p.limits in
        (next_small s v (polled_queue s v holdback) limits, number_small s v d holdback limits p.below)
    go (suc k) e = (tt, omega arith)
