-- 02, 2.11: charges, computed from the definitions. Assumes nothing.
use Prim.Native.Nat.{ℕ}
use mathlib.Core.Path.{◌≡◌, refl}
use mathlib.Core.Bool.{cond}
use mathlib.Core.List.{List, [], ◌∷◌, ◌++◌, map}
use lib.ListN.{length, take, replicate}
use Rattle.model.proofs.Computing.{computing}
use Rattle.model.specs.Ledger.{Press, press_payload, press_of, is_press, charge_of, Charged, ledger_size, charged_bytes, charged_at, bales_in, charged_in, with_charge, sound_press, is_charged, press_questions, charge_questions, ChargeAnswer, charged_by, charge_call, ledger_after, charges_of, total_of, total_call}

-- 02: "487 pounds at 1,250 is 6,088": 6,087.5. Below a half, at it and above it; no rate, the largest charge, and the least pounds
pub charges-hold :
    ◌≡◌ {A = List ℕ}
    (charge_of 1250 487 ∷ charge_of 49 1 ∷ charge_of 50 1 ∷ charge_of 51 1 ∷ charge_of 149 1 ∷ charge_of 150 1 ∷ charge_of 0 1000 ∷ charge_of 60000 1000 ∷ charge_of 60000 1 ∷ [])
    (6088 ∷ 0 ∷ 1 ∷ 1 ∷ 1 ∷ 2 ∷ 0 ∷ 600000 ∷ 600 ∷ [])
unfolding charge_of
charges-hold = refl

-- a press ticket
abbrev press : ℕ → ℕ → ℕ → List ℕ
press bale pounds grower = press_payload (record { bale = bale; pounds = pounds; grower = grower })

-- its bytes, and what stands in them
pub press-holds :
    ◌≡◌ {A = List (List ℕ)}
    (press 67305985 487 513 ∷ (let p : Press = press_of (press 67305985 487 513) in p.bale ∷ p.pounds ∷ p.grower ∷ []) ∷ [])
    ((9 ∷ 2 ∷ 1 ∷ 2 ∷ 3 ∷ 4 ∷ 231 ∷ 1 ∷ 1 ∷ 2 ∷ []) ∷ (67305985 ∷ 487 ∷ 513 ∷ []) ∷ [])
unfolding computing press_payload press_of
press-holds = refl

-- an empty ledger
abbrev empty : List ℕ
empty = replicate ledger_size 0

-- number, whether the ledger got an entry, charge
abbrev figures : ChargeAnswer → List ℕ
figures a = a.number ∷ cond a.entered 1 0 ∷ a.charge ∷ []

-- the same bale twice, and ill-made; another grower's, passes, and refusals
abbrev day : List (List ℕ)
day =
    press 7 487 3 ∷ press 7 488 3 ∷ press 7 0 3 ∷ press 8 1 4 ∷ press 9 1000 3 ∷ [] ∷ (2 ∷ []) ∷ (9 ∷ 3 ∷ []) ∷ (9 ∷ 2 ∷ []) ∷ press 10 0 3 ∷ press 10 1001 3
    ∷ (press 10 1 3 ++ (0 ∷ [])) ∷ (8 ∷ 2 ∷ 10 ∷ 0 ∷ 0 ∷ 0 ∷ 1 ∷ 0 ∷ 3 ∷ 0 ∷ []) ∷ replicate 33 2 ∷ []

-- bale, grower, charge
abbrev entries : List ℕ → List (List ℕ)
entries ledger = map (λ (e : Charged). e.bale ∷ e.grower ∷ e.charge ∷ []) (charged_in ledger)

-- what each ticket gets at 1,250, and what the ledger holds then, in bytes and as numbers
pub day-holds :
    ◌≡◌ {A = List (List ℕ)}
    (map figures (charges_of 1250 empty day)
    ++ (let after : List ℕ = ledger_after 1250 empty day in
    take 34 after ∷ (length after ∷ total_of 3 (charged_in after) ∷ total_of 4 (charged_in after) ∷ total_of 5 (charged_in after) ∷ []) ∷ entries after))
    ((0 ∷ 1 ∷ 6088 ∷ []) ∷ (21 ∷ 0 ∷ 0 ∷ []) ∷ (20 ∷ 0 ∷ 0 ∷ []) ∷ (0 ∷ 1 ∷ 13 ∷ []) ∷ (0 ∷ 1 ∷ 12500 ∷ []) ∷ (0 ∷ 0 ∷ 0 ∷ []) ∷ (0 ∷ 0 ∷ 0 ∷ []) ∷ (0 ∷ 0 ∷ 0 ∷ []) ∷ (20 ∷ 0 ∷ 0 ∷ [])
    ∷ (20 ∷ 0 ∷ 0 ∷ []) ∷ (20 ∷ 0 ∷ 0 ∷ []) ∷ (20 ∷ 0 ∷ 0 ∷ []) ∷ (20 ∷ 0 ∷ 0 ∷ []) ∷ (4 ∷ 0 ∷ 0 ∷ [])
    ∷ (3 ∷ 0 ∷ 7 ∷ 0 ∷ 0 ∷ 0 ∷ 3 ∷ 0 ∷ 200 ∷ 23 ∷ 0 ∷ 0 ∷ 8 ∷ 0 ∷ 0 ∷ 0 ∷ 4 ∷ 0 ∷ 13 ∷ 0 ∷ 0 ∷ 0 ∷ 9 ∷ 0 ∷ 0 ∷ 0 ∷ 3 ∷ 0 ∷ 212 ∷ 48 ∷ 0 ∷ 0 ∷ 0 ∷ 0 ∷ [])
    ∷ (5122 ∷ 18588 ∷ 13 ∷ 0 ∷ [])
    ∷ (7 ∷ 3 ∷ 6088 ∷ []) ∷ (8 ∷ 4 ∷ 13 ∷ []) ∷ (9 ∷ 3 ∷ 12500 ∷ []) ∷ [])
unfolding computing press_payload press_of is_press charge_of charged_bytes charged_at bales_in charged_in with_charge sound_press is_charged press_questions charge_questions charged_by charge_call ledger_after charges_of total_of
day-holds = refl

-- with rate 0 a bale is charged too; a rate above 60,000 is asked about first, then the ledger's length; a count above 512 reads as 512
pub edges-hold :
    ◌≡◌ {A = List (List ℕ)}
    (map figures (charges_of 0 empty (press 7 487 3 ∷ press 7 487 3 ∷ []))
    ++ (figures (charge_call 60000 (press 7 487 3) []) ∷ figures (charge_call 60001 (replicate 33 2) []) ∷ figures (charge_call 60000 (replicate 33 2) [])
    ∷ ((total_call 3 []).number ∷ (total_call 3 empty).number ∷ []) ∷ (bales_in (0 ∷ 2 ∷ []) ∷ bales_in (1 ∷ 2 ∷ []) ∷ bales_in (255 ∷ 255 ∷ []) ∷ bales_in (255 ∷ 1 ∷ []) ∷ []) ∷ []))
    ((0 ∷ 1 ∷ 0 ∷ []) ∷ (21 ∷ 0 ∷ 0 ∷ []) ∷ (3 ∷ 0 ∷ 0 ∷ []) ∷ (1 ∷ 0 ∷ 0 ∷ []) ∷ (3 ∷ 0 ∷ 0 ∷ []) ∷ (3 ∷ 0 ∷ []) ∷ (512 ∷ 512 ∷ 512 ∷ 511 ∷ []) ∷ [])
unfolding computing press_payload press_of is_press charge_of charged_bytes charged_at bales_in charged_in with_charge sound_press is_charged press_questions charge_questions charged_by charge_call charges_of total_of total_call
edges-hold = refl
