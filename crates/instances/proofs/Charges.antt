-- 02, 2.11, over demand 3: the premises of `charges-alike` can be met, by a list from damage in every memory, on which two boards have ledgers alike; and the
-- charges that come of it, by computation.
-- Assumes nothing.
use Prim.Native.Nat.{ℕ}
use mathlib.Core.Path.{◌≡◌, refl, sym, ◌∙◌}
use mathlib.Core.Bool.{Bool, true, false}
use mathlib.Core.List.{List, [], ◌∷◌, ◌++◌, map}
use lib.ListN.{replicate}
use Rattle.model.specs.Ledger.{press_of, is_press, charge_of, charged_bytes, charged_at, bales_in, charged_in, with_charge, sound_press, is_charged, press_questions, charge_questions, charged_by, charge_call, ledger_after, charges_of, told_of, Alike, total_of, total_call}
use Rattle.model.specs.Run.{Done, at_start}
use Rattle.theory.specs.Premises.{good_start, largest_clock, keeps}
use Rattle.theory.specs.Charges.{payloads_on, ChargedAlike}
use Rattle.theory.proofs.Charges.{charges-alike}
use Rattle.violations.specs.Stories.{group, damaged_watched, press, ticketed, ticket_calls, ticket_world}
use Rattle.violations.specs.Tests.{same_heard_test}
use Rattle.violations.proofs.Refuting.{same-heard}
use Rattle.violations.proofs.Telling.{telling}

-- every definition of a charge, opened at once
unfoldable charging : Unit {0}
unfolding press_of is_press charge_of charged_bytes charged_at bales_in charged_in with_charge sound_press is_charged press_questions charge_questions charged_by charge_call ledger_after charges_of total_of total_call telling
charging = tt

abbrev past : List Done
past = (ticket_world ticketed).past

-- X is 6, and T is 10
pub tickets-start : good_start group damaged_watched ≡ true
unfolding telling
tickets-start = refl

pub tickets-keep : keeps group (largest_clock damaged_watched) (at_start damaged_watched) (ticket_calls ticketed) ≡ true
unfolding telling
tickets-keep = refl

-- node 0 and the observer heard the same covered messages
pub tickets-heard : same_heard_test group 10 (ticket_world ticketed) 0 2 ≡ true
unfolding telling
tickets-heard = refl

-- two ledgers that hold bale 5, with other nonsense behind it
abbrev ledger_with : ℕ → List ℕ
ledger_with byte = 1 ∷ 0 ∷ (charged_bytes (record { bale = 5; grower = 3; charge = 100 }) ++ replicate 5110 byte)

abbrev ours : List ℕ
ours = ledger_with 170

abbrev theirs : List ℕ
theirs = ledger_with 0

ledgers-alike : Alike ours theirs
unfolding charging
ledgers-alike = record { size = refl; bales = refl }

-- so they charge alike, at 12.50 a hundred pounds
pub charged-alike : ChargedAlike group 10 past 0 2 1250 ours theirs
unfolding telling
charged-alike =
    charges-alike group damaged_watched (ticket_calls ticketed) tickets-start tickets-keep 0 2 1250 ours theirs
    (same-heard group 10 (ticket_world ticketed) 0 2 tickets-heard) ledgers-alike

-- the tickets that node 0 has shown, in their order; the older frame that the observer alone heard is not among them
pub tickets-told : payloads_on group 10 0 past ≡ press 7 487 3 ∷ press 7 488 4 ∷ press 8 1 4 ∷ (65 ∷ []) ∷ []
unfolding telling
tickets-told = refl

-- what each was answered: bale 7 is charged once, the second ticket of it gets 21, and the last passes
abbrev answers : List (ℕ × (Bool × ℕ))
answers = (0, (true, 6088)) ∷ (21, (false, 0)) ∷ (0, (true, 13)) ∷ (0, (false, 0)) ∷ []

pub charged-here : map told_of (charges_of 1250 ours (payloads_on group 10 0 past)) ≡ answers
unfolding charging
charged-here = refl

pub charged-there : map told_of (charges_of 1250 theirs (payloads_on group 10 2 past)) ≡ answers
charged-there = sym charged-alike.answers ∙ charged-here

-- the growers' totals
pub totals-here :
    map (λ grower. (total_call grower (ledger_after 1250 ours (payloads_on group 10 0 past))).total) (3 ∷ 4 ∷ 5 ∷ []) ≡ 6188 ∷ 13 ∷ 0 ∷ []
unfolding charging
totals-here = refl
