-- 02, 2.6: calls of an observer, computed from the definitions. n 2, ε 2, δ 1, B 14. Assumes nothing.
use Prim.Native.Nat.{ℕ}
use mathlib.Core.Path.{◌≡◌, refl}
use mathlib.Core.List.{List, [], ◌∷◌, map}
use lib.ListN.{length, take, replicate}
use Rattle.laws.specs.Lists.{joined}
use Rattle.model.proofs.Computing.{computing}
use Rattle.model.specs.Setup.{Setup}
use Rattle.model.specs.Frame.{Frame, encode}
use Rattle.model.specs.Holdback.{held, held_bytes, encode_holdback}
use Rattle.model.specs.Question.{first_no}
use Rattle.model.specs.Judge.{judge_questions, observer_questions}
use Rattle.model.specs.Tick.{holdback_size}
use Rattle.model.specs.Observer.{Listening, Listened, listen}

abbrev usual : Setup
usual = record { n = 2; epsilon = 2; delta = 1; modulus = 14 }

-- a frame of a station, with its ticket
abbrev frame : ℕ → ℕ → ℕ → List ℕ → Frame
frame station r c kn = record { station = station; stamp = record { r = r; c = c; kn = kn }; payload = 0x41 ∷ [] }

-- r and the sum are 2, due at 5
abbrev A : Frame
A = frame 1 2 0 (1 ∷ 1 ∷ 1 ∷ 0 ∷ [])

-- one that is due at 4
abbrev overdue : Frame
overdue = frame 0 1 0 (1 ∷ 1 ∷ 1 ∷ 0 ∷ [])

-- a call for a clock, with this last clock, this shelf and this bundle; buffers of ones
abbrev call : ℕ → ℕ → List Frame → List (List ℕ) → Listening
call clock last queue entries =
    record {
      setup = usual;
      clock = clock;
      last = last;
      holdback = encode_holdback (holdback_size usual) queue;
      batch = length entries ∷ joined (λ bytes. length bytes ∷ bytes) entries;
      verdicts = replicate 255 1;
      delivery = replicate (holdback_size usual) 1;
    }

-- number, mend, frames taken and handed out, the last clock, and the first verdicts
abbrev figures : ℕ → Listened → List ℕ
figures many o = o.number ∷ o.repair ∷ o.taken ∷ o.delivered ∷ o.last ∷ take many o.verdicts

-- an empty shelf and nothing to hear: the last clock, and what is mended. It moves to v
pub last-clocks :
    map (λ (i : Listening). figures 0 (listen i))
    -- the last clock one and ε before v, and around the wrap
    (call 1 0 [] [] ∷ call 2 0 [] [] ∷ call 1 13 [] []
    -- a step of 0 and of ε + 1, and a last clock that is B or more
    ∷ call 1 1 [] [] ∷ call 3 0 [] [] ∷ call 1 14 [] [] ∷ call 1 65535 [] [] ∷ [])
    ≡ (0 ∷ 0 ∷ 0 ∷ 0 ∷ 1 ∷ []) ∷ (0 ∷ 0 ∷ 0 ∷ 0 ∷ 2 ∷ []) ∷ (0 ∷ 0 ∷ 0 ∷ 0 ∷ 1 ∷ [])
    ∷ (0 ∷ 1 ∷ 0 ∷ 0 ∷ 1 ∷ []) ∷ (0 ∷ 1 ∷ 0 ∷ 0 ∷ 3 ∷ []) ∷ (0 ∷ 1 ∷ 0 ∷ 0 ∷ 1 ∷ []) ∷ (0 ∷ 1 ∷ 0 ∷ 0 ∷ 1 ∷ []) ∷ []
unfolding computing
last-clocks = refl

-- the shelf: due at 4 and 5, at clock 5
pub queues :
    map (λ (i : Listening). figures 0 (listen i))
    -- after 3 both go out; after 4 what is due at 4 makes the shelf unsound; so it does where the last clock is mended
    (call 5 3 (overdue ∷ A ∷ []) [] ∷ call 5 4 (overdue ∷ A ∷ []) [] ∷ call 5 14 (overdue ∷ A ∷ []) []
    -- where it is mended what is due at v is kept, and goes out
    ∷ call 5 4 (A ∷ []) [] ∷ call 5 14 (A ∷ []) [] ∷ [])
    ≡ (0 ∷ 0 ∷ 0 ∷ 2 ∷ 5 ∷ []) ∷ (0 ∷ 2 ∷ 0 ∷ 0 ∷ 5 ∷ []) ∷ (0 ∷ 3 ∷ 0 ∷ 0 ∷ 5 ∷ [])
    ∷ (0 ∷ 0 ∷ 0 ∷ 1 ∷ 5 ∷ []) ∷ (0 ∷ 1 ∷ 0 ∷ 1 ∷ 5 ∷ []) ∷ []
unfolding computing
queues = refl

-- what is handed out, byte for byte, in order
pub given-frames : held_bytes 2 (listen (call 5 3 (overdue ∷ A ∷ []) [])).delivery ≡ encode overdue ∷ encode A ∷ []
unfolding computing
given-frames = refl

-- frames at clock 1: "all n stations may be ahead of it": 2 at clock 1, which is v (★h), and 2 at clock 2
abbrev ahead : List Frame
ahead = frame 1 2 0 (1 ∷ 2 ∷ 1 ∷ 0 ∷ []) ∷ frame 0 2 0 (1 ∷ 1 ∷ 2 ∷ 0 ∷ []) ∷ []

-- a station refuses them by 15; an observer takes them
pub all-ahead :
    (map (λ (f : Frame). first_no (judge_questions usual 1 [] (encode f))) ahead
    ∷ map (λ (f : Frame). first_no (observer_questions usual 1 [] (encode f))) ahead
    ∷ figures 2 (listen (call 1 0 [] (map encode ahead))) ∷ [])
    ≡ (15 ∷ 15 ∷ []) ∷ (0 ∷ 0 ∷ []) ∷ (0 ∷ 0 ∷ 2 ∷ 0 ∷ 1 ∷ 0 ∷ 0 ∷ []) ∷ []
unfolding computing
all-ahead = refl

-- both lie on the shelf, in order
pub all-kept : held 2 (listen (call 1 0 [] (map encode ahead))).holdback ≡ ahead
unfolding computing
all-kept = refl

-- its other questions: a scrap, a station that is not below n, an unsound stamp (★i), 12 behind (★g), too early (★f), and A, twice
pub questions :
    figures 7 (listen (call 1 0 [] ((1 ∷ 2 ∷ []) ∷ map encode
    (frame 2 2 0 (1 ∷ 1 ∷ 1 ∷ 0 ∷ []) ∷ frame 1 2 0 (1 ∷ 1 ∷ 0 ∷ 0 ∷ []) ∷ frame 1 3 0 (1 ∷ 1 ∷ 1 ∷ 0 ∷ []) ∷ frame 1 2 1 (1 ∷ 1 ∷ 1 ∷ 1 ∷ [])
    ∷ A ∷ A ∷ []))))
    ≡ 0 ∷ 0 ∷ 1 ∷ 0 ∷ 1 ∷ 10 ∷ 11 ∷ 12 ∷ 13 ∷ 14 ∷ 0 ∷ 16 ∷ []
unfolding computing
questions = refl

-- a call of which nothing is right, and then ever more
abbrev wrong : ℕ → ℕ → List ℕ → List ℕ → List ℕ → Listening
wrong n clock holdback batch verdicts =
    record {
      setup = record { n = n; epsilon = 2; delta = 1; modulus = 14 };
      clock = clock;
      last = 9;
      holdback = holdback;
      batch = batch;
      verdicts = verdicts;
      delivery = [];
    }

-- "It asks 1 without the own number, 2, 3, 5, and 6 without the outgoing buffer": the number alone, and the last clock as given
pub refusals :
    map (λ (i : Listening). figures 1 (listen i))
    (wrong 0 14 [] [] (7 ∷ []) ∷ wrong 2 14 [] [] (7 ∷ []) ∷ wrong 2 1 [] [] (7 ∷ []) ∷ wrong 2 1 (replicate (holdback_size usual) 0) [] (7 ∷ [])
    ∷ wrong 2 1 (replicate (holdback_size usual) 0) (0 ∷ []) (7 ∷ []) ∷ wrong 2 1 (replicate (holdback_size usual) 0) (0 ∷ []) (replicate 255 7) ∷ [])
    ≡ map (λ k. k ∷ 0 ∷ 0 ∷ 0 ∷ 9 ∷ 7 ∷ []) (1 ∷ 2 ∷ 3 ∷ 5 ∷ 6 ∷ 6 ∷ [])
unfolding computing
refusals = refl
