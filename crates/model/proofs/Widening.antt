-- 02, 2.10: calls with two pairs of limits, computed from the definitions. n 2, ε 2 and 3, δ 1 and 2, B 21, V 10; narrow counts from offset −2,
-- wide ones from −3. Assumes nothing.
use Prim.Native.Nat.{ℕ, ◌+◌, ◌-◌}
use mathlib.Core.Path.{◌≡◌, refl}
use mathlib.Core.Bool.{Bool, true, false}
use mathlib.Core.List.{List, [], ◌∷◌, ◌++◌, map}
use mathlib.Core.Option.{Option, none, some}
use lib.ListN.{length, take, replicate}
use Rattle.model.proofs.ComputingWider.{computing_wider}
use Rattle.model.specs.Setup.{Setup}
use Rattle.model.specs.Timestamp.{Timestamp, widened, fresh}
use Rattle.model.specs.Frame.{Frame, two_at, encode}
use Rattle.model.specs.Comparison.{CompareAnswer, order_number, reason_number, reason_clock}
use Rattle.model.specs.Holdback.{encode_holdback}
use Rattle.model.specs.Judge.{verdict_number}
use Rattle.model.specs.Tick.{Input, Output, holdback_size}
use Rattle.model.specs.Observer.{Listened}
use Rattle.model.specs.Poll.{PollAnswer}
use Rattle.model.specs.Schedule.{Wider, change_near, along, own_limits, side_of}
use Rattle.model.specs.Wider.{wider_due, wider_held, wider_questions, wider_judge, tick_in}
use Rattle.model.specs.WiderCalls.{listen_in, poll_in, wider_compared, compare_in, read_in, write_in, fresh_in}

abbrev narrow : Setup
narrow = record { n = 2; epsilon = 2; delta = 1; modulus = 21 }

abbrev wide : Setup
wide = record { n = 2; epsilon = 3; delta = 2; modulus = 21 }

-- the wider pair beside it, unmarked (0) and marked (1)
abbrev mark : ℕ → Wider
mark marked = record { epsilon = 3; delta = 2; change = 10; marked = marked }

abbrev stamp : ℕ → ℕ → List ℕ → Timestamp
stamp r c kn = record { r = r; c = c; kn = kn }

abbrev frame : ℕ → ℕ → ℕ → List ℕ → Frame
frame station r c kn = record { station = station; stamp = stamp r c kn; payload = 0x41 ∷ [] }

-- frames with one count, at their r
abbrev slim : ℕ → Frame
slim r = frame 1 r 0 (0 ∷ 0 ∷ 1 ∷ 0 ∷ [])

abbrev broad : ℕ → Frame
broad r = frame 1 r 0 (0 ∷ 0 ∷ 0 ∷ 1 ∷ 0 ∷ 0 ∷ [])

-- a shelf of the wider pair's length
abbrev stored : List Frame → List ℕ
stored queue = encode_holdback (holdback_size wide) queue

-- a call with buffers of the wider pair's lengths
abbrev call : ℕ → Timestamp → List ℕ → Bool → List ℕ → Input
call clock tables holdback send batch =
    record {
      setup = narrow;
      own = 0;
      clock = clock;
      tables = tables;
      holdback = holdback;
      batch = batch;
      send = send;
      payload = 0x42 ∷ [];
      outgoing = replicate 45 1;
      verdicts = replicate 255 1;
      delivery = replicate 992 1;
    }

-- a silent tick with a mark for a clock, from tables, with these frames on the shelf
abbrev silent : ℕ → ℕ → Timestamp → List Frame → Output
silent marked clock tables queue = tick_in (mark marked) (call clock (widened tables) (stored queue) false (0 ∷ []))

-- mend, c, and so many counts
abbrev outcome : ℕ → Output → List ℕ
outcome w o = o.answer.repair ∷ o.answer.tables.c ∷ take w o.answer.tables.kn

-- "Unmarked, V lies (V − v) modulo B ahead, 0 meaning B; marked, (v − V) modulo B behind": V as a reading, v at 21
pub changes-hold :
    ◌≡◌ {A = List ℕ}
    (change_near 21 9 (mark 0) ∷ change_near 21 10 (mark 0) ∷ change_near 21 11 (mark 0) ∷ change_near 21 10 (mark 1) ∷ change_near 21 12 (mark 1) ∷ change_near 21 9 (mark 1) ∷ [])
    (22 ∷ 42 ∷ 41 ∷ 21 ∷ 19 ∷ 1 ∷ [])
unfolding computing_wider
changes-hold = refl

-- "Tables are narrow if their r is before V"; "A tick uses the limits of its own clock": mend, c and counts
pub tables-hold :
    ◌≡◌ {A = List (List ℕ)}
    -- V crossed by a step of 1, from narrow tables, into a marked call with (v − V) modulo B 0; and by a step of 3, the wider ε
    (outcome 7 (silent 1 10 (fresh 2 9) []) ∷ outcome 7 (silent 1 12 (fresh 2 9) [])
    -- a step of 3 before V replaces the tables
    ∷ outcome 7 (silent 0 8 (fresh 2 5) [])
    -- unmarked, at V modulo B: V is B ahead, the old limits hold
    ∷ outcome 7 (silent 0 10 (fresh 2 9) [])
    -- past V with r at V and after it: wide
    ∷ outcome 7 (silent 1 12 (fresh 3 10) []) ∷ outcome 7 (silent 1 12 (fresh 3 11) [])
    -- and with r before it: what lies behind the 2ε counts is ignored
    ∷ outcome 7 (silent 1 12 (stamp 9 1 (0 ∷ 0 ∷ 1 ∷ 1 ∷ 9 ∷ 9 ∷ [])) [])
    -- one before V is narrow also where the call is for a clock ε past it
    ∷ outcome 7 (silent 1 11 (fresh 2 9) []) ∷ [])
    ((0 ∷ 0 ∷ 0 ∷ 0 ∷ 1 ∷ 1 ∷ 0 ∷ 0 ∷ 0 ∷ []) ∷ (0 ∷ 0 ∷ 1 ∷ 0 ∷ 0 ∷ 1 ∷ 0 ∷ 0 ∷ 0 ∷ [])
    ∷ (1 ∷ 0 ∷ 0 ∷ 0 ∷ 1 ∷ 0 ∷ 0 ∷ 0 ∷ 0 ∷ [])
    ∷ (0 ∷ 0 ∷ 0 ∷ 1 ∷ 1 ∷ 0 ∷ 0 ∷ 0 ∷ 0 ∷ [])
    ∷ (0 ∷ 0 ∷ 0 ∷ 1 ∷ 0 ∷ 1 ∷ 0 ∷ 0 ∷ 0 ∷ []) ∷ (0 ∷ 0 ∷ 0 ∷ 0 ∷ 1 ∷ 1 ∷ 0 ∷ 0 ∷ 0 ∷ [])
    ∷ (0 ∷ 0 ∷ 1 ∷ 1 ∷ 0 ∷ 1 ∷ 0 ∷ 0 ∷ 0 ∷ [])
    ∷ (0 ∷ 0 ∷ 0 ∷ 1 ∷ 0 ∷ 1 ∷ 0 ∷ 0 ∷ 0 ∷ []) ∷ [])
unfolding computing_wider
tables-hold = refl

-- the due clock of a frame with this r and c, at v
abbrev due_at : ℕ → ℕ → Frame → ℕ
due_at marked v f = wider_due (along narrow (mark marked) v) v f + v - 21

-- "A frame is due at sum + δ + ε if that lies before V, else at sum + δ' + ε'": 6 is the last sum that is due before V, from both sides of
-- it, whatever the frame's width and its sender's side
pub dues-hold :
    ◌≡◌ {A = List ℕ}
    (due_at 0 9 (slim 6) ∷ due_at 0 9 (slim 7) ∷ due_at 0 9 (slim 9) ∷ due_at 0 9 (broad 10) ∷ due_at 0 9 (frame 1 5 1 (0 ∷ 0 ∷ 1 ∷ 1 ∷ []))
    ∷ due_at 0 9 (frame 1 6 1 (0 ∷ 0 ∷ 1 ∷ 1 ∷ []))
    ∷ due_at 1 10 (slim 6) ∷ due_at 1 10 (slim 7) ∷ due_at 1 10 (slim 9) ∷ due_at 1 10 (broad 10) ∷ due_at 1 12 (slim 7) ∷ due_at 1 12 (broad 7)
    -- unmarked, V B ahead: the old due clock
    ∷ due_at 0 10 (slim 7) ∷ [])
    (9 ∷ 12 ∷ 14 ∷ 15 ∷ 9 ∷ 12 ∷ 9 ∷ 12 ∷ 14 ∷ 15 ∷ 12 ∷ 12 ∷ 10 ∷ [])
unfolding computing_wider
dues-hold = refl

-- which is first, what decided, and the count's clock
abbrev told : ℕ → ℕ → Frame → Frame → List ℕ
told marked v a b =
    let g = along narrow (mark marked) v in
    order_number (wider_compared g v a b).order ∷ reason_number (wider_compared g v a b).reason ∷ reason_clock (wider_compared g v a b).reason ∷ []

-- "Frames due before V compare ε counts, all others ε' counts"
pub comparisons-hold :
    ◌≡◌ {A = List (List ℕ)}
    -- of sum 6 two counts, then the stations; of sum 7 a third one, at clock 5; on both sides of V
    (told 0 9 (frame 0 6 0 (1 ∷ 1 ∷ 1 ∷ 0 ∷ [])) (frame 1 6 0 (0 ∷ 1 ∷ 1 ∷ 0 ∷ []))
    ∷ told 0 9 (frame 0 7 0 (1 ∷ 1 ∷ 1 ∷ 0 ∷ [])) (frame 1 7 0 (0 ∷ 1 ∷ 1 ∷ 0 ∷ []))
    ∷ told 1 10 (frame 0 6 0 (1 ∷ 1 ∷ 1 ∷ 0 ∷ [])) (frame 1 6 0 (0 ∷ 1 ∷ 1 ∷ 0 ∷ []))
    ∷ told 1 10 (frame 0 7 0 (1 ∷ 1 ∷ 1 ∷ 0 ∷ [])) (frame 1 7 0 (0 ∷ 1 ∷ 1 ∷ 0 ∷ []))
    -- a narrow and a wide frame of sum 10: the count at clock 8, by both
    ∷ told 1 10 (frame 0 9 1 (1 ∷ 1 ∷ 1 ∷ 1 ∷ [])) (frame 1 10 0 (0 ∷ 0 ∷ 1 ∷ 1 ∷ 0 ∷ 0 ∷ []))
    -- the sums 6 and 7, with other numbers of counts
    ∷ told 1 10 (slim 7) (slim 6) ∷ [])
    ((0 ∷ 3 ∷ 0 ∷ []) ∷ (1 ∷ 2 ∷ 5 ∷ []) ∷ (0 ∷ 3 ∷ 0 ∷ []) ∷ (1 ∷ 2 ∷ 5 ∷ []) ∷ (1 ∷ 2 ∷ 8 ∷ []) ∷ (1 ∷ 1 ∷ 0 ∷ []) ∷ [])
unfolding computing_wider
comparisons-hold = refl

-- the verdict's number of a frame at v with an empty shelf
abbrev verdict_at : ℕ → ℕ → Frame → ℕ
verdict_at marked v f =
    let g = along narrow (mark marked) v in
    verdict_number (wider_judge g v (wider_questions g v) [] (encode f))

pub verdicts-hold :
    ◌≡◌ {A = List ℕ}
    -- "both widths are read always": a narrow frame past V, a wide one before it, and a width that is neither
    (verdict_at 1 10 (slim 9) ∷ verdict_at 0 9 (broad 10) ∷ verdict_at 0 9 (frame 1 9 0 (0 ∷ 1 ∷ [])) ∷ verdict_at 1 10 (frame 1 9 0 (0 ∷ 0 ∷ 0 ∷ 0 ∷ 1 ∷ 0 ∷ 0 ∷ 0 ∷ []))
    -- 12 by the limits of v: c 2 in a wide frame, before V and past it; in a narrow one the count at offset 2 is missing
    ∷ verdict_at 0 9 (frame 1 8 2 (0 ∷ 0 ∷ 0 ∷ 1 ∷ 0 ∷ 1 ∷ [])) ∷ verdict_at 1 10 (frame 1 10 2 (0 ∷ 0 ∷ 0 ∷ 1 ∷ 0 ∷ 1 ∷ [])) ∷ verdict_at 1 10 (frame 1 9 2 (0 ∷ 0 ∷ 1 ∷ 1 ∷ []))
    -- 13: r 5 behind, due at 12 and at 9: "a frame heard that is due before v gets 13"
    ∷ verdict_at 1 12 (slim 7) ∷ verdict_at 1 11 (slim 6) ∷ verdict_at 1 13 (slim 7)
    -- 13 by the old δ + ε before V
    ∷ verdict_at 0 9 (slim 6) ∷ verdict_at 0 9 (slim 5)
    -- near, by the limits of v: r 2 past it reads 19 behind before V
    ∷ verdict_at 0 8 (broad 10) ∷ verdict_at 1 10 (broad 12)
    -- 14, likewise: a sum 2 and 3 past it
    ∷ verdict_at 0 8 (frame 1 9 1 (0 ∷ 0 ∷ 1 ∷ 1 ∷ [])) ∷ verdict_at 1 10 (frame 1 11 1 (0 ∷ 0 ∷ 0 ∷ 1 ∷ 1 ∷ 0 ∷ [])) ∷ verdict_at 1 10 (frame 1 11 2 (0 ∷ 0 ∷ 0 ∷ 1 ∷ 0 ∷ 1 ∷ []))
    -- 15 by the frame's own counts: a full count at v in a wide frame, at offset −1
    ∷ verdict_at 0 9 (frame 1 10 0 (0 ∷ 0 ∷ 2 ∷ 1 ∷ 0 ∷ 0 ∷ [])) ∷ verdict_at 0 9 (frame 1 10 0 (0 ∷ 2 ∷ 1 ∷ 1 ∷ 0 ∷ 0 ∷ [])) ∷ [])
    (0 ∷ 0 ∷ 10 ∷ 10 ∷ 12 ∷ 0 ∷ 12 ∷ 0 ∷ 13 ∷ 13 ∷ 0 ∷ 13 ∷ 13 ∷ 0 ∷ 14 ∷ 0 ∷ 14 ∷ 15 ∷ 0 ∷ [])
unfolding computing_wider
verdicts-hold = refl

-- "missing counts being 0": of ε 1 and 3 a narrow frame has no count for the clock two before its r
abbrev single : Setup
single = record { n = 2; epsilon = 1; delta = 1; modulus = 21 }

abbrev missing : Frame → Frame → List ℕ
missing a b =
    let g = along single (mark 1) 10 in
    order_number (wider_compared g 10 a b).order ∷ reason_number (wider_compared g 10 a b).reason ∷ reason_clock (wider_compared g 10 a b).reason ∷ []

pub missing-hold :
    ◌≡◌ {A = List (List ℕ)}
    (missing (frame 1 9 0 (1 ∷ 1 ∷ [])) (frame 0 9 0 (0 ∷ 1 ∷ 1 ∷ 1 ∷ 0 ∷ 0 ∷ [])) ∷ missing (frame 1 9 0 (1 ∷ 1 ∷ [])) (frame 0 9 0 (1 ∷ 0 ∷ 1 ∷ 1 ∷ 0 ∷ 0 ∷ [])) ∷ [])
    ((0 ∷ 2 ∷ 7 ∷ []) ∷ (1 ∷ 3 ∷ 0 ∷ []) ∷ [])
unfolding computing_wider
missing-hold = refl

-- ---- a station goes through V, its tables and its shelf carried over

-- a batch of these frames
abbrev batch : List Frame → List ℕ
batch frames = length frames ∷ joined_bytes frames
  where
    joined_bytes : List Frame → List ℕ
    joined_bytes [] = []
    joined_bytes (f ∷ rest) = (length (encode f) ∷ encode f) ++ joined_bytes rest

-- at 9, unmarked, it hears frames of sum 6, due at once, of sum 7, due at 12, and a wide one of r 10, due at 15, and sends
abbrev ninth : Output
ninth = tick_in (mark 0) (call 9 (widened (fresh 2 8)) (stored []) true (batch (slim 6 ∷ slim 7 ∷ broad 10 ∷ [])))

-- the next, over V, marked, with a step of 3; it hears a narrow frame, and the first one again
abbrev twelfth : Output
twelfth = tick_in (mark 1) (call 12 ninth.answer.tables ninth.holdback true (batch (frame 0 9 1 (0 ∷ 0 ∷ 1 ∷ 1 ∷ []) ∷ slim 6 ∷ slim 7 ∷ [])))

-- and at 15, where both that are left are due: the wide one is first, by the count at clock 9
abbrev fifteenth : Output
fifteenth = tick_in (mark 1) (call 15 twelfth.answer.tables twelfth.holdback false (0 ∷ []))

-- mend, taken, handed out, on the shelf, and how long the frame sent is: 7 + 2ε counts + 1
abbrev line : Output → List ℕ
line o = o.answer.repair ∷ o.answer.taken ∷ o.answer.delivered ∷ two_at o.holdback 0 ∷ o.answer.sent ∷ []

-- station, r, and how many counts
abbrev given : Frame → List ℕ
given f = f.station ∷ f.stamp.r ∷ length f.stamp.kn ∷ []

abbrev given_to : ℕ → ℕ → Output → List (List ℕ)
given_to marked v o = map given (wider_held (along narrow (mark marked) v) o.delivery)

pub passage-holds :
    ◌≡◌ {A = List (List ℕ)}
    ((line ninth ∷ outcome 6 ninth ∷ take 3 ninth.verdicts ∷ given_to 0 9 ninth)
    ++ ((line twelfth ∷ outcome 6 twelfth ∷ take 3 twelfth.verdicts ∷ given_to 1 12 twelfth)
    ++ (line fifteenth ∷ outcome 6 fifteenth ∷ given_to 1 15 fifteenth)))
    (((0 ∷ 3 ∷ 1 ∷ 2 ∷ 12 ∷ []) ∷ (0 ∷ 1 ∷ 1 ∷ 1 ∷ 1 ∷ 1 ∷ 0 ∷ 0 ∷ []) ∷ (0 ∷ 0 ∷ 0 ∷ []) ∷ (1 ∷ 6 ∷ 4 ∷ []) ∷ [])
    ++ (((0 ∷ 1 ∷ 1 ∷ 2 ∷ 14 ∷ []) ∷ (0 ∷ 0 ∷ 1 ∷ 1 ∷ 0 ∷ 1 ∷ 0 ∷ 0 ∷ []) ∷ (0 ∷ 13 ∷ 16 ∷ []) ∷ (1 ∷ 7 ∷ 4 ∷ []) ∷ [])
    ++ ((0 ∷ 0 ∷ 2 ∷ 0 ∷ 0 ∷ []) ∷ (0 ∷ 0 ∷ 1 ∷ 0 ∷ 0 ∷ 1 ∷ 0 ∷ 0 ∷ []) ∷ (1 ∷ 10 ∷ 6 ∷ []) ∷ (0 ∷ 9 ∷ 4 ∷ []) ∷ [])))
unfolding computing_wider
passage-holds = refl

-- ---- questions

-- a silent call at 9 with these pairs, V, mark, own number, clock and lengths
abbrev asked : Setup → Wider → ℕ → ℕ → ℕ → ℕ → ℕ → ℕ
asked s w own clock size outgoing delivery =
    (tick_in w
    (record {
      setup = s;
      own = own;
      clock = clock;
      tables = widened (fresh 2 8);
      holdback = replicate size 0;
      batch = 0 ∷ [];
      send = false;
      payload = [];
      outgoing = replicate outgoing 0;
      verdicts = replicate 255 0;
      delivery = replicate delivery 0;
    })
    ).answer.number

abbrev pair : ℕ → ℕ → ℕ → ℕ → Wider
pair epsilon delta change marked = record { epsilon = epsilon; delta = delta; change = change; marked = marked }

pub questions-hold :
    ◌≡◌ {A = List ℕ}
    -- accepted; "V below B (else 1)"; a mark of 2; the own number; B 20 is in its limits for the old pair and not for the wider one
    (asked narrow (pair 3 2 10 0) 0 9 992 45 992 ∷ asked narrow (pair 3 2 21 0) 0 9 992 45 992 ∷ asked narrow (pair 3 2 10 2) 0 9 992 45 992
    ∷ asked narrow (pair 3 2 10 0) 2 9 992 45 992 ∷ asked (record { n = 2; epsilon = 2; delta = 1; modulus = 20 }) (pair 3 2 10 0) 0 9 992 45 992
    -- "Number 19 when ε' or δ' is smaller than the old, asked after 1", and before 2
    ∷ asked narrow (pair 1 2 10 0) 0 9 992 45 992 ∷ asked narrow (pair 3 0 10 0) 0 9 992 45 992 ∷ asked narrow (pair 1 2 21 0) 0 9 992 45 992
    ∷ asked narrow (pair 1 2 10 0) 0 21 992 45 992
    -- 2; then 3 and 6 by the wider pair, also before V
    ∷ asked narrow (pair 3 2 10 0) 0 21 992 45 992 ∷ asked narrow (pair 3 2 10 0) 0 9 604 45 992 ∷ asked narrow (pair 3 2 10 1) 0 9 604 45 992
    ∷ asked narrow (pair 3 2 10 0) 0 9 992 44 992 ∷ asked narrow (pair 3 2 10 0) 0 9 992 45 991
    -- equal pairs: the plain sizes
    ∷ asked narrow (pair 2 1 10 0) 0 9 604 43 604 ∷ asked narrow (pair 2 1 10 1) 0 9 992 45 992 ∷ [])
    (0 ∷ 1 ∷ 1 ∷ 1 ∷ 1 ∷ 19 ∷ 19 ∷ 1 ∷ 19 ∷ 2 ∷ 3 ∷ 3 ∷ 6 ∷ 6 ∷ 0 ∷ 3 ∷ [])
unfolding computing_wider
questions-hold = refl

-- ---- the other calls

-- a listener's call: its number, mend, taken, handed out, last clock
abbrev listened : ℕ → ℕ → ℕ → ℕ → List Frame → List Frame → List ℕ
listened marked clock last size queue heard =
    let o : Listened =
    listen_in (mark marked)
    (record {
      setup = narrow;
      clock = clock;
      last = last;
      holdback = encode_holdback size queue;
      batch = batch heard;
      verdicts = replicate 255 1;
      delivery = replicate 992 1;
    })
    in
    o.number ∷ o.repair ∷ o.taken ∷ o.delivered ∷ o.last ∷ []

-- "A listener changes setups as a station does"
pub listeners-hold :
    ◌≡◌ {A = List (List ℕ)}
    -- a step of 3 over V, and before it; what is due at 12 is carried over
    (listened 1 12 9 992 (slim 7 ∷ []) (slim 9 ∷ []) ∷ listened 0 8 5 992 [] []
    -- a frame that 15 would refuse; the old length
    ∷ listened 0 9 8 992 [] (frame 1 10 0 (0 ∷ 0 ∷ 2 ∷ 1 ∷ 0 ∷ 0 ∷ []) ∷ []) ∷ listened 0 9 8 604 [] [] ∷ [])
    ((0 ∷ 0 ∷ 1 ∷ 1 ∷ 12 ∷ []) ∷ (0 ∷ 1 ∷ 0 ∷ 0 ∷ 8 ∷ []) ∷ (0 ∷ 0 ∷ 1 ∷ 0 ∷ 9 ∷ []) ∷ (3 ∷ 0 ∷ 0 ∷ 0 ∷ 8 ∷ []) ∷ [])
unfolding computing_wider
listeners-hold = refl

abbrev polled : ℕ → ℕ → ℕ → List Frame → PollAnswer
polled marked v d queue = poll_in narrow (mark marked) 0 v d (stored queue)

abbrev answer : ℕ → Option ℕ → ℕ → PollAnswer
answer number next within = record { number = number; next = next; within = within }

-- sums 6 and 7 are due at 9 and 12
pub polls-hold :
    ◌≡◌ {A = List PollAnswer}
    (polled 0 8 1 (slim 6 ∷ slim 7 ∷ []) ∷ polled 0 8 3 (slim 6 ∷ slim 7 ∷ []) ∷ polled 0 8 4 (slim 6 ∷ slim 7 ∷ []) ∷ polled 0 9 2 (slim 7 ∷ []) ∷ polled 1 10 2 (slim 7 ∷ [])
    -- due at 9, not past it
    ∷ polled 0 9 2 (slim 6 ∷ slim 7 ∷ [])
    ∷ poll_in narrow (pair 1 2 10 0) 0 9 2 [] ∷ poll_in narrow (mark 0) 0 9 2 (replicate 604 0) ∷ [])
    (answer 0 (some 9) 1 ∷ answer 0 (some 9) 1 ∷ answer 0 (some 9) 2 ∷ answer 0 (some 12) 0 ∷ answer 0 (some 12) 1 ∷ answer 0 none 0 ∷ answer 19 none 0 ∷ answer 3 none 0 ∷ [])
unfolding computing_wider
polls-hold = refl

-- a wide frame with c 2
abbrev far : Frame
far = frame 1 8 2 (0 ∷ 0 ∷ 0 ∷ 1 ∷ 0 ∷ 1 ∷ [])

abbrev compared : ℕ → ℕ → Frame → Frame → List ℕ
compared marked v a b =
    let o : CompareAnswer = compare_in narrow (mark marked) 0 v (encode a) (encode b) in
    o.number ∷ o.order ∷ o.reason ∷ o.clock ∷ []

-- the comparison judges 12 as a tick there
pub compared-hold :
    ◌≡◌ {A = List (List ℕ)}
    (compared 0 9 (frame 0 7 0 (1 ∷ 1 ∷ 1 ∷ 0 ∷ [])) (frame 1 7 0 (0 ∷ 1 ∷ 1 ∷ 0 ∷ [])) ∷ compared 0 9 (slim 7) far ∷ compared 1 10 (slim 7) far ∷ compared 0 21 (slim 7) far ∷ [])
    ((0 ∷ 1 ∷ 2 ∷ 5 ∷ []) ∷ (12 ∷ 0 ∷ 0 ∷ 0 ∷ []) ∷ (0 ∷ 0 ∷ 1 ∷ 0 ∷ []) ∷ (2 ∷ 0 ∷ 0 ∷ 0 ∷ []) ∷ [])
unfolding computing_wider
compared-hold = refl

abbrev one-if : Bool → ℕ
one-if true = 1
one-if false = 0

-- number, whether it is wide, station, r, c, and the first counts
abbrev read_back : ℕ → List ℕ → List ℕ
read_back marked bytes =
    let o = read_in narrow (mark marked) 0 bytes in
    o.number ∷ one-if o.wide ∷ o.station ∷ o.stamp.r ∷ o.stamp.c ∷ take 7 o.stamp.kn

-- number, size, and the front of the buffer
abbrev written : Bool → ℕ → Timestamp → List ℕ
written wide most t =
    let o = write_in narrow (mark 0) 0 1 wide t (7 ∷ []) (replicate 20 9) in
    o.number ∷ o.size ∷ take most o.buffer

-- "reader and writer alone judge 12 by the frame's width", whatever the mark
pub alone-hold :
    ◌≡◌ {A = List (List ℕ)}
    (read_back 0 (encode far) ∷ read_back 1 (encode far) ∷ read_back 1 (encode (slim 9)) ∷ read_back 1 (encode (frame 1 9 2 (0 ∷ 0 ∷ 1 ∷ 1 ∷ []))) ∷ read_back 1 (encode (frame 1 9 0 (0 ∷ 1 ∷ [])))
    ∷ written true 15 (widened far.stamp) ∷ written false 13 (stamp 9 0 (0 ∷ 0 ∷ 1 ∷ 0 ∷ 9 ∷ 9 ∷ [])) ∷ written false 1 (widened far.stamp) ∷ [])
    ((0 ∷ 1 ∷ 1 ∷ 8 ∷ 2 ∷ 0 ∷ 0 ∷ 0 ∷ 1 ∷ 0 ∷ 1 ∷ 0 ∷ []) ∷ (0 ∷ 1 ∷ 1 ∷ 8 ∷ 2 ∷ 0 ∷ 0 ∷ 0 ∷ 1 ∷ 0 ∷ 1 ∷ 0 ∷ []) ∷ (0 ∷ 0 ∷ 1 ∷ 9 ∷ 0 ∷ 0 ∷ 0 ∷ 1 ∷ 0 ∷ 0 ∷ 0 ∷ 0 ∷ [])
    ∷ (12 ∷ 0 ∷ 0 ∷ 0 ∷ 0 ∷ 0 ∷ 0 ∷ 0 ∷ 0 ∷ 0 ∷ 0 ∷ 0 ∷ []) ∷ (10 ∷ 0 ∷ 0 ∷ 0 ∷ 0 ∷ 0 ∷ 0 ∷ 0 ∷ 0 ∷ 0 ∷ 0 ∷ 0 ∷ [])
    ∷ (0 ∷ 14 ∷ 3 ∷ 1 ∷ 8 ∷ 0 ∷ 7 ∷ 2 ∷ 0 ∷ 0 ∷ 0 ∷ 1 ∷ 0 ∷ 1 ∷ 1 ∷ 7 ∷ 9 ∷ [])
    ∷ (0 ∷ 12 ∷ 3 ∷ 1 ∷ 9 ∷ 0 ∷ 5 ∷ 0 ∷ 0 ∷ 0 ∷ 1 ∷ 0 ∷ 1 ∷ 7 ∷ 9 ∷ []) ∷ (12 ∷ 0 ∷ 9 ∷ []) ∷ [])
unfolding computing_wider
alone-hold = refl

-- fresh tables, of the width of their clock; the limits for the words, by the mark
pub fresh-hold : ◌≡◌ {A = List Timestamp} (fresh_in narrow (mark 0) 9 ∷ fresh_in narrow (mark 1) 10 ∷ []) (fresh 2 9 ∷ fresh 3 10 ∷ [])
unfolding computing_wider
fresh-hold = refl

pub sides-hold : ◌≡◌ {A = List Setup} (side_of narrow (mark 0) ∷ side_of narrow (mark 1) ∷ own_limits (along narrow (mark 0) 9) ∷ own_limits (along narrow (mark 1) 10) ∷ []) (narrow ∷ wide ∷ narrow ∷ wide ∷ [])
unfolding computing_wider
sides-hold = refl
