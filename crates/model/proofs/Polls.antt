-- 02, 2.5: polls, computed from the definitions. n 2, ε 2, δ 1, B 14. Assumes nothing.
use Prim.Native.Nat.{ℕ}
use mathlib.Core.Path.{◌≡◌, refl}
use mathlib.Core.Bool.{false}
use mathlib.Core.List.{List, [], ◌∷◌, ◌++◌, map}
use mathlib.Core.Option.{Option, none, some}
use lib.ListN.{replicate}
use Rattle.model.proofs.Computing.{computing}
use Rattle.model.specs.Setup.{Setup}
use Rattle.model.specs.Timestamp.{Timestamp, widened, fresh}
use Rattle.model.specs.Frame.{Frame}
use Rattle.model.specs.Holdback.{encode_holdback}
use Rattle.model.specs.Tick.{Output, holdback_size, tick}
use Rattle.model.specs.Poll.{PollAnswer, poll}

abbrev usual : Setup
usual = record { n = 2; epsilon = 2; delta = 1; modulus = 14 }

-- a frame with c 0: it is due at r + 3
abbrev frame : ℕ → ℕ → Frame
frame station r = record { station = station; stamp = record { r = r; c = 0; kn = 1 ∷ 1 ∷ 1 ∷ 0 ∷ [] }; payload = [] }

-- a poll of station 0 at v, with these frames on the shelf
abbrev asked : ℕ → ℕ → List Frame → PollAnswer
asked v d queue = poll usual 0 v d (encode_holdback (holdback_size usual) queue)

abbrev answer : ℕ → Option ℕ → ℕ → PollAnswer
answer number next within = record { number = number; next = next; within = within }

pub polls-hold :
    ◌≡◌ {A = List PollAnswer}
    -- an empty shelf
    (asked 4 65535 []
    -- due at 5, 5 and 6, after the tick at 4: none at 4, two at 5, all at 6, and no more later
    ∷ asked 4 0 (frame 0 2 ∷ frame 1 2 ∷ frame 0 3 ∷ []) ∷ asked 4 1 (frame 0 2 ∷ frame 1 2 ∷ frame 0 3 ∷ [])
    ∷ asked 4 2 (frame 0 2 ∷ frame 1 2 ∷ frame 0 3 ∷ []) ∷ asked 4 65535 (frame 0 2 ∷ frame 1 2 ∷ frame 0 3 ∷ [])
    -- "every due clock past v": after the tick at 5 a frame due at 5 makes the shelf unsound
    ∷ asked 5 65535 (frame 0 2 ∷ frame 0 3 ∷ [])
    -- and so does one that is out of order
    ∷ asked 4 65535 (frame 0 3 ∷ frame 0 2 ∷ [])
    -- around the wrap: after the tick at 12, due at 13 and at 0
    ∷ asked 12 2 (frame 0 10 ∷ frame 0 11 ∷ []) ∷ asked 12 2 (frame 0 11 ∷ []) ∷ asked 13 1 (frame 0 11 ∷ frame 0 12 ∷ [])
    -- refused by 1, 2 and 3
    ∷ poll usual 2 14 0 [] ∷ poll usual 0 14 0 [] ∷ poll usual 0 4 0 [] ∷ [])
    (answer 0 none 0
    ∷ answer 0 (some 5) 0 ∷ answer 0 (some 5) 2 ∷ answer 0 (some 5) 3 ∷ answer 0 (some 5) 3
    ∷ answer 0 none 0
    ∷ answer 0 none 0
    ∷ answer 0 (some 13) 2 ∷ answer 0 (some 0) 1 ∷ answer 0 (some 0) 1
    ∷ answer 1 none 0 ∷ answer 2 none 0 ∷ answer 3 none 0 ∷ [])
unfolding computing
polls-hold = refl

-- a silent tick of station 0 for a clock, with these tables and this shelf
abbrev silent : ℕ → Timestamp → List ℕ → Output
silent clock tables holdback =
    tick
    (record {
      setup = usual;
      own = 0;
      clock = clock;
      tables = tables;
      holdback = holdback;
      batch = 0 ∷ [];
      send = false;
      payload = [];
      outgoing = replicate 71 1;
      verdicts = replicate 255 1;
      delivery = replicate (holdback_size usual) 1;
    })

-- the tick for 4, and those for 5 and for 6 with what it left
abbrev left : Output
left = silent 4 (widened (fresh 2 3)) (encode_holdback (holdback_size usual) (frame 0 2 ∷ frame 1 2 ∷ frame 0 3 ∷ []))

abbrev after : ℕ → Output
after clock = silent clock left.answer.tables left.holdback

-- all three are accepted and take nothing, and the poll at 4 for 1 and for 2 has said how many the later ones hand out
pub foretold :
    ◌≡◌ {A = List (List ℕ)}
    (map (λ (o : Output). o.answer.number ∷ o.answer.taken ∷ o.answer.delivered ∷ []) (left ∷ after 5 ∷ after 6 ∷ [])
    ++ (((poll usual 0 4 1 left.holdback).within ∷ (poll usual 0 4 2 left.holdback).within ∷ []) ∷ []))
    ((0 ∷ 0 ∷ 0 ∷ []) ∷ (0 ∷ 0 ∷ 2 ∷ []) ∷ (0 ∷ 0 ∷ 3 ∷ []) ∷ (2 ∷ 3 ∷ []) ∷ [])
unfolding computing
foretold = refl
