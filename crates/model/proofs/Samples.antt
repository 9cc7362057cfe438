-- 01, "Sample judgements" and the sample of "The replay program", computed from the definitions.
-- Assumes nothing.
use Prim.Native.Nat.{ℕ, ◌+◌, ◌-◌}
use mathlib.Core.Path.{◌≡◌, refl}
use Rattle.model.proofs.Computing.{computing}
use mathlib.Core.Bool.{Bool, true, false}
use mathlib.Core.List.{List, [], ◌∷◌, ◌++◌, map}
use lib.Dec.{leb, ltb}
use lib.ListN.{length, take, set, replicate}
use Rattle.laws.specs.Lists.{every, chained, apart}
use Rattle.model.specs.Setup.{Setup, depth}
use Rattle.model.specs.Timestamp.{Timestamp, sum, widened, near, fresh}
use Rattle.model.specs.Frame.{Frame, two_at, encode, decode}
use Rattle.model.specs.Order.{reading_of, before, decided_at, due_near}
use Rattle.model.specs.Holdback.{held_bytes, held, same_origin, passes, not_early, not_expired, encode_holdback}
use Rattle.model.specs.Judge.{verdict_number, verdict_place, judge_questions, judge}
use Rattle.model.specs.Tick.{Input, Output, holdback_size, least_due, opening, tick}

-- "n 2, ε 2, δ 1, B 14 unless said"
abbrev usual : Setup
usual = record { n = 2; epsilon = 2; delta = 1; modulus = 14 }

-- ★l: "n 1, ε 1, δ 0, B 7"
abbrev single : Setup
single = record { n = 1; epsilon = 1; delta = 0; modulus = 7 }

-- n stations with ε 3, δ 0, B 19
abbrev wide : ℕ → Setup
wide n = record { n = n; epsilon = 3; delta = 0; modulus = 19 }

abbrev stamp : ℕ → ℕ → List ℕ → Timestamp
stamp r c kn = record { r = r; c = c; kn = kn }

-- a frame of station 1 with the ticket 41, hexadecimal
abbrev frame : ℕ → ℕ → List ℕ → Frame
frame r c kn = record { station = 1; stamp = stamp r c kn; payload = 0x41 ∷ [] }

-- "station 1, r 2, c 0, counts 1,1,1,0 (frame A)"
abbrev A : Frame
A = frame 2 0 (1 ∷ 1 ∷ 1 ∷ 0 ∷ [])

-- a call with buffers of ones, as long as they must be
abbrev call : Setup → ℕ → Timestamp → List ℕ → Bool → List ℕ → List ℕ → Input
call s clock tables holdback send payload batch =
    record {
      setup = s;
      own = 0;
      clock = clock;
      tables = tables;
      holdback = holdback;
      batch = batch;
      send = send;
      payload = payload;
      outgoing = replicate 71 1;
      verdicts = replicate 255 1;
      delivery = replicate (holdback_size s) 1;
    }

-- a batch of one frame
abbrev one : List ℕ → List ℕ
one bytes = 1 ∷ (length bytes ∷ bytes)

-- an empty batch
abbrev silent : List ℕ
silent = 0 ∷ []

-- the tick of ★a and of the replay's first line
abbrev first : Output
first =
    tick (call usual 1 (widened (fresh 2 0)) (replicate (holdback_size usual) 0) true (0x42 ∷ []) (one (encode A)))

-- the frame that it sends
abbrev S : Frame
S = decode 2 (take first.answer.sent first.outgoing)

-- the clock that a reading near v stands for
abbrev clock_of : ℕ → ℕ → ℕ
clock_of v reading = reading + v - 14

-- the verdict's number of a frame at v with an empty shelf
abbrev verdict_at : ℕ → Frame → List ℕ
verdict_at v f = verdict_number (judge usual v (judge_questions usual v) [] (encode f)) ∷ []

abbrev one-if : Bool → ℕ
one-if true = 1
one-if false = 0

-- the first 2ε counts of an answer's tables, after its mend and c
abbrev outcome : ℕ → Output → List ℕ
outcome w o = o.answer.repair ∷ o.answer.tables.c ∷ take w o.answer.tables.kn

-- a case: what the definitions give, and what 01 says
pub record Case : Type 0 where
  pub computed : List ℕ
  pub stated : List ℕ

abbrev says : List ℕ → List ℕ → Case
says computed stated = record { computed = computed; stated = stated }

-- the ★ cases, a to l, and the step
pub stars : List Case
stars =
    -- ★a: A is taken; "tables c 1, counts 0,1,2,1"
    says (first.answer.taken ∷ outcome 4 first) (1 ∷ 0 ∷ 1 ∷ 0 ∷ 1 ∷ 2 ∷ 1 ∷ [])
    -- ★b: "A and the frame sent at that tick both have sum 2; A is first, by the second count" (place 2 of the key, after the sum and a count)
    ∷ says
    (clock_of 1 (sum (reading_of usual 1 A) A.stamp.c) ∷ clock_of 1 (sum (reading_of usual 1 S) S.stamp.c) ∷ one-if (before usual 1 A S) ∷ decided_at usual 1 A S ∷ [])
    (2 ∷ 2 ∷ 1 ∷ 2 ∷ [])
    -- ★c: "Both are due at 5"
    ∷ says (clock_of 1 (due_near usual 1 A) ∷ clock_of 1 (due_near usual 1 S) ∷ []) (5 ∷ 5 ∷ [])
    -- ★d: "At v 5, r 2 with A's c and counts is taken"
    ∷ says (verdict_at 5 A) (0 ∷ [])
    -- ★e: "r 1 gets 13"
    ∷ says (verdict_at 5 (frame 1 0 A.stamp.kn)) (13 ∷ [])
    -- ★f: "At v 1, r 2, c 1, counts 1,1,1,1 gets 14"
    ∷ says (verdict_at 1 (frame 2 1 (1 ∷ 1 ∷ 1 ∷ 1 ∷ []))) (14 ∷ [])
    -- ★g: "r 3, c 0, A's counts gets 13 (12 behind)"
    ∷ says (verdict_at 1 (frame 3 0 A.stamp.kn) ++ ((14 - near 2 14 1 3) ∷ [])) (13 ∷ 12 ∷ [])
    -- ★h: "At v 1, r 2, c 0, counts 1,2,1,0 gets 15"
    ∷ says (verdict_at 1 (frame 2 0 (1 ∷ 2 ∷ 1 ∷ 0 ∷ []))) (15 ∷ [])
    -- ★i: "c 0, counts 1,1,0,0 gets 12"
    ∷ says (verdict_at 1 (frame 2 0 (1 ∷ 1 ∷ 0 ∷ 0 ∷ []))) (12 ∷ [])
    -- ★j: "At v 0, r 13 is one behind"
    ∷ says ((14 - near 2 14 0 13) ∷ []) (1 ∷ [])
    -- ★k under 02's 2.2, a step above ε: tables with r 2 at clock 5 are replaced, mend 1, c 0 and no count but the own event's
    ∷ says (outcome 4 (tick (call usual 5 (widened (fresh 2 2)) (replicate (holdback_size usual) 0) false [] silent)))
    (1 ∷ 0 ∷ 0 ∷ 0 ∷ 1 ∷ 0 ∷ [])
    -- "A step of 1 to ε is no longer damage (★k's step of 2 isn't)": tables with r 3 at clock 5 stay, and their counts move by two
    ∷ says (outcome 4 (tick (call usual 5 (widened (fresh 2 3)) (replicate (holdback_size usual) 0) false [] silent)))
    (0 ∷ 0 ∷ 1 ∷ 0 ∷ 1 ∷ 0 ∷ [])
    -- "c drops by the step": ★a's tables at clock 3, where c was 1
    ∷ says (outcome 4 (tick (call usual 3 first.answer.tables (replicate (holdback_size usual) 0) false [] silent)))
    (0 ∷ 0 ∷ 2 ∷ 1 ∷ 1 ∷ 0 ∷ [])
    -- the same with ε 3, where c was 2: it is 0 after a step of 2
    ∷ says (outcome 6 (tick (call (wide 2) 5 (widened (stamp 3 2 (0 ∷ 0 ∷ 0 ∷ 1 ∷ 0 ∷ 1 ∷ []))) (replicate (holdback_size (wide 2)) 0) false [] silent)))
    (0 ∷ 0 ∷ 0 ∷ 1 ∷ 0 ∷ 2 ∷ 0 ∷ 0 ∷ [])
    -- a step of 0 "still replaces the tables"
    ∷ says (outcome 4 (tick (call usual 5 (widened (fresh 2 5)) (replicate (holdback_size usual) 0) false [] silent)))
    (1 ∷ 0 ∷ 0 ∷ 0 ∷ 1 ∷ 0 ∷ [])
    -- ★l: "n 1, ε 1, δ 0, B 7, fresh at 0, empty tick 1: counts 1,1"
    ∷ says (outcome 2 (tick (call single 1 (widened (fresh 1 0)) (replicate (holdback_size single) 0) false [] silent)))
    (0 ∷ 0 ∷ 1 ∷ 1 ∷ [])
    ∷ []

-- every ★ case is as 01 and 02 say
pub stars-hold : map (λ (k : Case). k.computed) stars ≡ map (λ (k : Case). k.stated) stars
unfolding stars computing
stars-hold = refl

-- "The replay program": each tick line as clock, mend, c, took, sent (1 or 0), gave
abbrev line : ℕ → Output → List ℕ
line clock o =
    clock ∷ o.answer.repair ∷ o.answer.tables.c ∷ o.answer.taken ∷ one-if (ltb 0 o.answer.sent) ∷ o.answer.delivered ∷ []

-- a tick after another of the same station, sending nothing
abbrev next : ℕ → Output → List ℕ → Output
next clock o batch = tick (call usual clock o.answer.tables o.holdback false [] batch)

-- "tick 2 hears that frame back; ticks 3 to 5 are empty"
abbrev second : Output
second = next 2 first (one (take first.answer.sent first.outgoing))

abbrev third : Output
third = next 3 second silent

abbrev fourth : Output
fourth = next 4 third silent

abbrev fifth : Output
fifth = next 5 fourth silent

-- a give line: station, r, ticket
abbrev given : Frame → List ℕ
given f = f.station ∷ f.stamp.r ∷ f.payload

-- the sample's seven lines
pub replay-holds :
    ◌≡◌ {A = List (List ℕ)} (line 1 first ∷ line 2 second ∷ line 3 third ∷ line 4 fourth ∷ line 5 fifth ∷ map given (held 2 fifth.delivery))
    ((1 ∷ 0 ∷ 1 ∷ 1 ∷ 1 ∷ 0 ∷ []) ∷ (2 ∷ 0 ∷ 0 ∷ 1 ∷ 0 ∷ 0 ∷ []) ∷ (3 ∷ 0 ∷ 0 ∷ 0 ∷ 0 ∷ 0 ∷ []) ∷ (4 ∷ 0 ∷ 0 ∷ 0 ∷ 0 ∷ 0 ∷ [])
    ∷ (5 ∷ 0 ∷ 0 ∷ 0 ∷ 0 ∷ 2 ∷ []) ∷ (1 ∷ 2 ∷ 0x41 ∷ []) ∷ (0 ∷ 1 ∷ 0x42 ∷ []) ∷ [])
unfolding computing
replay-holds = refl

-- "B 13 gets 1; ticket of 33 gets 4"
pub refusals-hold :
    ◌≡◌ {A = List ℕ} ((tick (call (record { n = 2; epsilon = 2; delta = 1; modulus = 13 }) 1 (widened (fresh 2 0)) (replicate (holdback_size usual) 0) false [] silent)).answer.number
    ∷ (tick (call usual 1 (widened (fresh 2 0)) (replicate (holdback_size usual) 0) false (replicate 33 0) silent)).answer.number ∷ [])
    (1 ∷ 4 ∷ [])
unfolding computing
refusals-hold = refl

-- a shelf of these frames
abbrev stored : List Frame → List ℕ
stored queue = encode_holdback (holdback_size usual) queue

-- a silent tick at a clock, from fresh tables at a clock before it, with these frames on the shelf
abbrev holding : ℕ → ℕ → List Frame → Output
holding before clock queue = tick (call usual clock (widened (fresh 2 before)) (stored queue) false [] silent)

-- A with another count: the same station and r
abbrev A' : Frame
A' = frame 2 0 (1 ∷ 2 ∷ 1 ∷ 0 ∷ [])

-- a frame due one clock after A
abbrev L : Frame
L = frame 3 0 (1 ∷ 1 ∷ 1 ∷ 0 ∷ [])

-- an output's mend, how many are taken, and how many handed out
abbrev tallies : Output → List ℕ
tallies o = o.answer.repair ∷ o.answer.taken ∷ o.answer.delivered ∷ []

-- a frame of a group of one with ε 3, whose shelf is for nine frames; its one event is at r + c
abbrev alone : ℕ → ℕ → Frame
alone r c = record { station = 0; stamp = stamp r c (set (replicate 6 0) (3 + c) 1); payload = [] }

-- frames of r 2 to 7, of which the first four are due before 9; and of r 9 to 11
abbrev lower-six : List Frame
lower-six = alone 2 2 ∷ alone 3 1 ∷ alone 4 0 ∷ alone 5 0 ∷ alone 6 0 ∷ alone 7 0 ∷ []

abbrev upper-three : List Frame
upper-three = alone 9 0 ∷ alone 10 0 ∷ alone 11 0 ∷ []

-- its tick at 9 with a step of 3, with these frames on the shelf and this batch
abbrev crowd : List Frame → List ℕ → Input
crowd queue batch = call (wide 1) 9 (widened (fresh 3 6)) (encode_holdback (holdback_size (wide 1)) queue) false [] batch

-- the mend, how many are taken, how many handed out
abbrev crowded : List Frame → List ℕ → List ℕ
crowded queue batch = tallies (tick (crowd queue batch))

-- the frames on the shelf when that tick judges its first frame
abbrev met : List Frame → List Frame
met queue = (opening (crowd queue silent)).queue

-- the mend of such a tick, and the clauses of "It is sound if" that the shelf meets (1) or not (0): at most n(δ + 3ε) frames;
-- 10 to 12; in order; no station and r twice; each sum not past v + ε − 1; each due clock past the clock of the tables
abbrev judged : ℕ → ℕ → List Frame → List ℕ
judged before-it v queue =
    (holding before-it v queue).answer.repair
    ∷ one-if (leb (two_at (stored queue) 0) (depth 2 2 1))
    ∷ one-if (every (passes usual) (held_bytes 2 (stored queue)))
    ∷ one-if (chained (before usual v) (held 2 (stored queue)))
    ∷ one-if (apart same_origin (held 2 (stored queue)))
    ∷ one-if (every (not_early usual v) (held 2 (stored queue)))
    ∷ one-if (every (not_expired usual v (least_due usual v (widened (fresh 2 before-it)))) (held 2 (stored queue)))
    ∷ []

-- the mend of a tick, its c and counts, and how many frames it leaves on the shelf
abbrev repaired : Output → List ℕ
repaired o = outcome 4 o ++ (two_at o.holdback 0 ∷ [])

-- what a shelf must be: each shelf with mend 2 fails the clause that it is for, and no other, but for the one that holds the same
-- frame twice; what each mend leaves; and when a frame is handed out.
-- (The others leave room for n(δ + 4ε − 2) frames, which is n(δ + 3ε) where ε is 2: the first clause has a group with ε 3.)
pub queues : List Case
queues =
    -- A before the frame sent at ★a's tick
    says (judged 0 1 (A ∷ S ∷ [])) (0 ∷ 1 ∷ 1 ∷ 1 ∷ 1 ∷ 1 ∷ 1 ∷ [])
    -- "pass 10 to 12": ★i's frame
    ∷ says (judged 0 1 (frame 2 0 (1 ∷ 1 ∷ 0 ∷ 0 ∷ []) ∷ [])) (2 ∷ 1 ∷ 0 ∷ 1 ∷ 1 ∷ 1 ∷ 1 ∷ [])
    -- "in order"
    ∷ says (judged 0 1 (S ∷ A ∷ [])) (2 ∷ 1 ∷ 1 ∷ 0 ∷ 1 ∷ 1 ∷ 1 ∷ [])
    -- "strictly": the same frame twice, which is also the same station and r
    ∷ says (judged 0 1 (A ∷ A ∷ [])) (2 ∷ 1 ∷ 1 ∷ 0 ∷ 0 ∷ 1 ∷ 1 ∷ [])
    -- "no station and r twice", though in order
    ∷ says (judged 0 1 (A ∷ A' ∷ [])) (2 ∷ 1 ∷ 1 ∷ 1 ∷ 0 ∷ 1 ∷ 1 ∷ [])
    -- "each sum at most ε − 1 past v": ★f's frame
    ∷ says (judged 0 1 (frame 2 1 (1 ∷ 1 ∷ 1 ∷ 1 ∷ []) ∷ [])) (2 ∷ 1 ∷ 1 ∷ 1 ∷ 1 ∷ 0 ∷ 1 ∷ [])
    -- "each sum + δ + ε not before v"
    ∷ says (judged 5 6 (A ∷ [])) (2 ∷ 1 ∷ 1 ∷ 1 ∷ 1 ∷ 1 ∷ 0 ∷ [])
    -- a frame is handed out in the tick for its due clock, and not before
    ∷ says ((holding 3 4 (A ∷ [])).answer.delivered ∷ (holding 4 5 (A ∷ [])).answer.delivered ∷ []) (0 ∷ 1 ∷ [])
    -- 02, 2.2: after a step of 2 a frame due at the clock that was passed is handed out, one due at the last clock is not sound
    ∷ says (judged 4 6 (A ∷ [])) (0 ∷ 1 ∷ 1 ∷ 1 ∷ 1 ∷ 1 ∷ 1 ∷ [])
    ∷ says ((holding 4 6 (A ∷ [])).answer.delivered ∷ (holding 5 7 (A ∷ [])).answer.delivered ∷ (holding 5 7 (A ∷ [])).answer.repair ∷ []) (1 ∷ 0 ∷ 2 ∷ [])
    -- "both make one hand-out": first what was due at 5, then what is due at 6
    ∷ says ((holding 4 6 (A ∷ L ∷ [])).answer.delivered ∷ map (λ f. f.stamp.r) (held 2 (holding 4 6 (A ∷ L ∷ [])).delivery)) (2 ∷ 2 ∷ 3 ∷ [])
    -- "When the tables themselves are replaced, no due clock before v is accepted"
    ∷ says (repaired (holding 3 6 (A ∷ [])) ++ repaired (holding 3 6 (L ∷ []))) (3 ∷ 0 ∷ 0 ∷ 0 ∷ 1 ∷ 0 ∷ 0 ∷ 1 ∷ 0 ∷ 0 ∷ 0 ∷ 1 ∷ 0 ∷ 0 ∷ [])
    -- "at most n(δ + 3ε) frames": nine, and one that is heard
    ∷ says (crowded (lower-six ++ upper-three) (one (encode (alone 8 0)))) (0 ∷ 1 ∷ 5 ∷ [])
    -- one more, in a shelf that meets every other clause
    ∷ says (crowded (lower-six ++ (alone 8 0 ∷ upper-three)) silent) (2 ∷ 0 ∷ 0 ∷ [])
    -- "Frames whose due clock lies before v go out before the bundle is judged": of nine five are left, of which two come before the one
    -- that is heard. (A repeat of one that went out gets 13 before 16, so the place alone shows this.)
    ∷ says
    (length (met (lower-six ++ upper-three))
    ∷ verdict_place (judge (wide 1) 9 (judge_questions (wide 1) 9) (met (lower-six ++ upper-three)) (encode (alone 8 0))) ∷ [])
    (5 ∷ 2 ∷ [])
    -- 02, 2.7: with r from 4 to 11 none is due before 9: n(δ + 3ε − 1) frames, and never more when a frame is judged
    ∷ says (length (met (alone 4 2 ∷ alone 5 1 ∷ alone 6 0 ∷ alone 7 0 ∷ alone 8 0 ∷ upper-three)) ∷ []) (8 ∷ [])
    -- "The shelf keeps its length": 2 + (39 + 2 × 2) × 2 × (1 + 3 × 2)
    ∷ says (holdback_size usual ∷ []) (604 ∷ [])
    -- mend 1: tables of another clock are replaced, and a sound shelf stays: A is still there. Mend, c, counts, the shelf's count
    ∷ says (repaired (holding 3 1 (A ∷ []))) (1 ∷ 0 ∷ 0 ∷ 0 ∷ 1 ∷ 0 ∷ 1 ∷ [])
    -- mend 2: an unsound shelf is emptied, and sound tables keep their counts, one offset further down
    ∷ says (repaired (holding 0 1 (S ∷ A ∷ []))) (2 ∷ 0 ∷ 0 ∷ 1 ∷ 1 ∷ 0 ∷ 0 ∷ [])
    -- "both, mend 3"
    ∷ says (repaired (holding 3 1 (S ∷ A ∷ []))) (3 ∷ 0 ∷ 0 ∷ 0 ∷ 1 ∷ 0 ∷ 0 ∷ [])
    -- "Handing out before the bundle of that tick is judged" goes wrong: A is heard and handed out at 5
    ∷ says
    ((tick (call usual 5 (widened (fresh 2 4)) (stored []) false [] (one (encode A)))).answer.delivered ∷ []) (1 ∷ [])
    ∷ []

pub queues-hold : map (λ (k : Case). k.computed) queues ≡ map (λ (k : Case). k.stated) queues
unfolding queues computing
queues-hold = refl
