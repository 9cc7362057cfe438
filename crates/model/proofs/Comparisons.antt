-- 02, 2.4: comparisons, computed from the definitions. n 2, ε 2, δ 1, B 14; counts from offset −2. Assumes nothing.
use Prim.Native.Nat.{ℕ}
use mathlib.Core.Path.{◌≡◌, refl}
use mathlib.Core.List.{List, [], ◌∷◌}
use Rattle.model.proofs.Computing.{computing}
use Rattle.model.specs.Setup.{Setup}
use Rattle.model.specs.Frame.{Frame, encode}
use Rattle.model.specs.Comparison.{order_number, reason_number, reason_clock, compared, CompareAnswer, compare_call}

abbrev usual : Setup
usual = record { n = 2; epsilon = 2; delta = 1; modulus = 14 }

abbrev frame : ℕ → ℕ → ℕ → List ℕ → Frame
frame station r c kn = record { station = station; stamp = record { r = r; c = c; kn = kn }; payload = [] }

-- 01's A, and the frame that is sent in the tick that hears it
abbrev A : Frame
A = frame 1 2 0 (1 ∷ 1 ∷ 1 ∷ 0 ∷ [])

abbrev S : Frame
S = frame 0 1 1 (0 ∷ 1 ∷ 2 ∷ 1 ∷ [])

-- which is first (2 they are alike), what decided, and the count's clock
abbrev told : ℕ → Frame → Frame → List ℕ
told v f g =
    order_number (compared usual v f g).order ∷ reason_number (compared usual v f g).reason ∷ reason_clock (compared usual v f g).reason ∷ []

pub comparisons-hold :
    ◌≡◌ {A = List (List ℕ)}
    -- ★b, both ways: the second count, at clock 1
    (told 1 A S ∷ told 1 S A
    -- the sums 2 and 3; at v 1, r 3 reads 12 behind
    ∷ told 2 A (frame 0 3 0 (1 ∷ 1 ∷ 1 ∷ 0 ∷ [])) ∷ told 1 A (frame 0 3 0 (1 ∷ 1 ∷ 1 ∷ 0 ∷ []))
    -- the stations 1 and 0
    ∷ told 1 A (frame 0 2 0 (1 ∷ 1 ∷ 1 ∷ 0 ∷ []))
    -- r 2 and r 1, with the same sum, and the same counts for its clocks
    ∷ told 1 A (frame 1 1 1 (0 ∷ 0 ∷ 1 ∷ 1 ∷ []))
    -- alike: the count at offset −2 is not looked at
    ∷ told 1 A (frame 1 2 0 (0 ∷ 1 ∷ 1 ∷ 0 ∷ []))
    -- at v 0, r 13 is one behind: the second count is at clock 12
    ∷ told 0 (frame 0 13 0 (1 ∷ 1 ∷ 1 ∷ 0 ∷ [])) (frame 0 13 0 (1 ∷ 0 ∷ 1 ∷ 0 ∷ []))
    -- at v 13, r 0 is one ahead: the first count is at clock 0, the second at clock 13
    ∷ told 13 (frame 0 0 0 (1 ∷ 1 ∷ 1 ∷ 0 ∷ [])) (frame 0 0 0 (1 ∷ 1 ∷ 2 ∷ 0 ∷ []))
    ∷ told 13 (frame 0 0 0 (1 ∷ 0 ∷ 1 ∷ 0 ∷ [])) (frame 0 0 0 (1 ∷ 1 ∷ 1 ∷ 0 ∷ [])) ∷ [])
    ((0 ∷ 2 ∷ 1 ∷ []) ∷ (1 ∷ 2 ∷ 1 ∷ []) ∷ (0 ∷ 1 ∷ 0 ∷ []) ∷ (1 ∷ 1 ∷ 0 ∷ []) ∷ (1 ∷ 3 ∷ 0 ∷ []) ∷ (1 ∷ 4 ∷ 0 ∷ []) ∷ (2 ∷ 0 ∷ 0 ∷ []) ∷ (1 ∷ 2 ∷ 12 ∷ [])
    ∷ (0 ∷ 2 ∷ 0 ∷ []) ∷ (0 ∷ 2 ∷ 13 ∷ []) ∷ [])
unfolding computing
comparisons-hold = refl

-- the call: accepted, and refused by 1, 2, and 10 to 12 of the first frame, then of the second
abbrev answer : ℕ → ℕ → ℕ → ℕ → CompareAnswer
answer number order reason clock = record { number = number; order = order; reason = reason; clock = clock }

-- its stamp is not sound
abbrev unsound : Frame
unsound = frame 1 2 0 (1 ∷ 1 ∷ 0 ∷ 0 ∷ [])

pub calls-hold :
    ◌≡◌ {A = List CompareAnswer}
    (compare_call usual 0 1 (encode A) (encode S) ∷ compare_call usual 2 14 [] [] ∷ compare_call usual 0 14 [] [] ∷ compare_call usual 0 1 [] (encode unsound)
    ∷ compare_call usual 0 1 (encode (frame 2 2 0 (1 ∷ 1 ∷ 1 ∷ 0 ∷ []))) [] ∷ compare_call usual 0 1 (encode unsound) [] ∷ compare_call usual 0 1 (encode A) []
    ∷ compare_call usual 0 1 (encode A) (encode unsound) ∷ [])
    (answer 0 0 2 1 ∷ answer 1 0 0 0 ∷ answer 2 0 0 0 ∷ answer 10 0 0 0 ∷ answer 11 0 0 0 ∷ answer 12 0 0 0 ∷ answer 10 0 0 0 ∷ answer 12 0 0 0 ∷ [])
unfolding computing
calls-hold = refl
