-- 02, 2.9, "An engine with long clocks": "a plain station whose clocks and stamps are 64-bit and never reduced, with up to 64 held messages in
-- the order heard and a search through all of them at hand-out"; "all else is as a station's". A clock is read as the number that it is.
use Rattle.std.specs.Prelude.{ℕ, zero, suc, ◌+◌, ◌-◌, ◌*◌, ◌/◌, ◌%◌, ◌^◌, Bool, ◌&&◌, not, cond, List, [], ◌∷◌, ◌++◌, map, leb, ltb, eqb, length, drop, get_or}
use Rattle.laws.specs.Lists.{within, every, select, sort_by, apart, fold_left, padded}
use Rattle.laws.specs.Lex.{lex_compare, is_less}
use Rattle.model.specs.Setup.{Setup, is_member, width, verdict_length}
use Rattle.model.specs.Timestamp.{Timestamp, trimmed, sound_beside, replaced, step, count_own}
use Rattle.model.specs.Frame.{Frame, section, two_at, later_sections, frame_end, later_formed, decode}
use Rattle.model.specs.Question.{Question, ask, first_no, ask_range, ask_stamp}
use Rattle.model.specs.Codec.{ask_payload, ReadAnswer, read_by, frame_of, WriteAnswer, written_by}
use Rattle.model.specs.Batch.{exact_batch, batch_entries}
use Rattle.model.specs.Order.{key, due}
use Rattle.model.specs.Holdback.{cut_by, same_origin, not_early_at, frames_by}
use Rattle.model.specs.Judge.{ask_late_at, ask_counts_at, ask_repeat, Verdict, verdict_by, Heard, hear_by, absorb_at, absorb_each}
use Rattle.model.specs.Tick.{Input, Output, refusal, least_at, accepted_with}

-- ---- the setup

-- 02: "A clock from 2^63 up gets 2, such an r 11"
abbrev pub long_bound : ℕ
long_bound = 2 ^ 63

-- 02: "its setup has no B": whatever stands there, the bound of all clocks takes its place, and nothing is reduced by it
abbrev pub plainly : Setup → Setup
plainly s = record { n = s.n; epsilon = s.epsilon; delta = s.delta; modulus = long_bound }

-- 01: "Limits: n 1..16, ε 1..16, δ 0..64"
unfoldable pub long_limits : Setup → Bool
long_limits s = within 1 16 s.n && (within 1 16 s.epsilon && leb s.delta 64)

-- 1, with the own number
unfoldable pub ask_long_setup : Setup → ℕ → Question
ask_long_setup s own = ask (long_limits s && is_member s own) 1

-- ---- its frame

-- a number in k bytes, low first
unfoldable pub low_first : ℕ → ℕ → List ℕ
low_first zero x = []
low_first (suc k) x = x % 256 ∷ low_first k (x / 256)

-- the number of k bytes at a position
unfoldable pub number_at : ℕ → List ℕ → ℕ → ℕ
number_at zero s at = 0
number_at (suc k) s at = get_or s at 0 + 256 * number_at k s (at + 1)

-- 02: "Its frames' first section is 9 (station, r in eight bytes, low first)"; the others are a station's
unfoldable pub long_encode : Frame → List ℕ
long_encode f = section (f.station ∷ low_first 8 f.stamp.r) ++ later_sections f

-- the first section is six bytes longer than a station's: from there on a frame stands as a station's stands
abbrev pub six_on : List ℕ → List ℕ
six_on s = drop 6 s

unfoldable pub long_frame_end : ℕ → List ℕ → ℕ
long_frame_end epsilon s = 6 + frame_end epsilon (six_on s)

-- 10: "Are the three counts right, and is nothing left over?"
unfoldable pub long_formed : ℕ → List ℕ → Bool
long_formed epsilon s = eqb (get_or s 0 0) 9 && later_formed epsilon (six_on s)

-- what a well-formed frame holds
unfoldable pub long_decode : ℕ → List ℕ → Frame
long_decode epsilon s =
    record {
      station = get_or s 1 0;
      stamp = record { r = number_at 8 s 2; c = (decode epsilon (six_on s)).stamp.c; kn = (decode epsilon (six_on s)).stamp.kn };
      payload = (decode epsilon (six_on s)).payload;
    }

-- 10 to 12
unfoldable pub long_frame_questions : Setup → List ℕ → List Question
long_frame_questions s bytes =
    ask (long_formed s.epsilon bytes) 10
    ∷ ask_range (plainly s) (long_decode s.epsilon bytes)
    ∷ ask_stamp (plainly s) (long_decode s.epsilon bytes)
    ∷ []

-- 02: "lengths follow": the longest frame
unfoldable pub longest_long : ℕ → ℕ
longest_long epsilon = 45 + width epsilon

-- ---- reader and writer alone

unfoldable pub long_read : Setup → ℕ → List ℕ → ReadAnswer
long_read s own bytes =
    read_by (first_no (ask_long_setup s own ∷ long_frame_questions s bytes)) (long_decode s.epsilon bytes)

unfoldable pub long_write_questions : Setup → ℕ → Frame → List ℕ → List Question
long_write_questions s own f buffer =
    ask_long_setup s own ∷ ask_payload f.payload ∷ ask_range (plainly s) f ∷ ask_stamp (plainly s) f
    ∷ ask (leb (length (long_encode f)) (length buffer)) 6 ∷ []

unfoldable pub long_write_frame : Setup → ℕ → Frame → List ℕ → WriteAnswer
long_write_frame s own f buffer = written_by (first_no (long_write_questions s own f buffer)) (long_encode f) buffer

-- the writer, of a station, a stamp and a ticket, into its buffer
abbrev pub long_write : Setup → ℕ → ℕ → Timestamp → List ℕ → List ℕ → WriteAnswer
long_write s own station t payload buffer = long_write_frame s own (frame_of s.epsilon station t payload) buffer

-- ---- the order and the due clock

-- 01: the order of two stamps
unfoldable pub long_before : Setup → Frame → Frame → Bool
long_before s f g = is_less (lex_compare (key s f.stamp.r f) (key s g.stamp.r g))

-- 01: "sum + δ + ε (its due clock)"
unfoldable pub long_due : Setup → Frame → ℕ
long_due s f = due s f.stamp.r f.stamp.c

-- ---- its shelf

-- 02: "up to 64 held messages"
abbrev pub long_most : ℕ
long_most = 64

-- 02: "its shelf is for 64", "lengths follow"
unfoldable pub long_holdback_size : Setup → ℕ
long_holdback_size s = 2 + longest_long s.epsilon * long_most

unfoldable pub long_held_bytes : ℕ → List ℕ → List (List ℕ)
long_held_bytes epsilon s = cut_by (long_frame_end epsilon) (two_at s 0) (drop 2 s)

unfoldable pub long_held : ℕ → List ℕ → List Frame
long_held epsilon s = map (long_decode epsilon) (long_held_bytes epsilon s)

unfoldable pub long_passes : Setup → List ℕ → Bool
long_passes s bytes = eqb (first_no (long_frame_questions s bytes)) 0

-- 01: "each sum at most ε − 1 past v"
unfoldable pub long_not_early : Setup → ℕ → Frame → Bool
long_not_early s v f = not_early_at s v f.stamp.r f

-- 02, 2.2: not before the least due clock that is allowed
unfoldable pub long_not_expired : Setup → ℕ → Frame → Bool
long_not_expired s least f = leb least (long_due s f)

-- 01: "It is sound if …"; 02: "not judged for order"
unfoldable pub long_sound_holdback : Setup → ℕ → ℕ → List ℕ → Bool
long_sound_holdback s v least bytes =
    leb (two_at bytes 0) long_most && (every (long_passes s) (long_held_bytes s.epsilon bytes)
    && (apart same_origin (long_held s.epsilon bytes)
    && (every (long_not_early s v) (long_held s.epsilon bytes) && every (long_not_expired s least) (long_held s.epsilon bytes))))

unfoldable pub long_encode_frames : List Frame → List ℕ
long_encode_frames queue = frames_by long_encode queue

unfoldable pub long_encode_holdback : ℕ → List Frame → List ℕ
long_encode_holdback size queue = padded size (long_encode_frames queue)

-- ---- judging and hearing

-- 14
unfoldable pub ask_long_early : Setup → ℕ → Frame → Question
ask_long_early s v f = ask (long_not_early s v f) 14

-- 02: "Number 18 when a 65th message would be held, after 16"
unfoldable pub ask_held : List Frame → Question
ask_held queue = ask (ltb (length queue) long_most) 18

-- 13 to 16, and 18
unfoldable pub long_place_questions : Setup → ℕ → List Frame → Frame → List Question
long_place_questions s v queue f =
    ask_late_at s v f.stamp.r ∷ ask_long_early s v f ∷ ask_counts_at s v f.stamp.r f ∷ ask_repeat queue f ∷ ask_held queue ∷ []

unfoldable pub long_questions : Setup → ℕ → List Frame → List ℕ → List Question
long_questions s v queue bytes =
    long_frame_questions s bytes ++ long_place_questions s v queue (long_decode s.epsilon bytes)

-- one frame's verdict; 02: held "in the order heard", so a taken frame's place is behind the last
unfoldable pub long_judge : Setup → ℕ → List Frame → List ℕ → Verdict
long_judge s v queue bytes = verdict_by (first_no (long_questions s v queue bytes)) (length queue)

unfoldable pub long_hear_one : Setup → ℕ → Heard → List ℕ → Heard
long_hear_one s v h bytes = hear_by (long_judge s v h.queue bytes) (long_decode s.epsilon bytes) h

unfoldable pub long_hear : Setup → ℕ → Heard → List (List ℕ) → Heard
long_hear s v h entries = fold_left (long_hear_one s v) h entries

-- 01, tick 3: of taken frames, "both placed relative to v"
abbrev pub long_absorb_by : ℕ → Setup → ℕ → Frame → Timestamp → Timestamp
long_absorb_by number s v f t = absorb_at number s.epsilon v f.stamp.r f.stamp t

unfoldable pub long_absorb_all : Setup → ℕ → Timestamp → List (List ℕ) → List ℕ → Timestamp
long_absorb_all s v t entries numbers =
    absorb_each (λ number bytes u. long_absorb_by number s v (long_decode s.epsilon bytes) u) t entries numbers

-- ---- one tick

-- 1 to 6
unfoldable pub long_call_questions : Input → List Question
long_call_questions i =
    ask_long_setup i.setup i.own
    ∷ ask (ltb i.clock long_bound) 2
    ∷ ask (eqb (length i.holdback) (long_holdback_size i.setup)) 3
    ∷ ask_payload i.payload
    ∷ ask (exact_batch i.batch) 5
    ∷ ask (leb (longest_long i.setup.epsilon) (length i.outgoing)
    && (leb verdict_length (length i.verdicts) && leb (long_holdback_size i.setup) (length i.delivery))) 6
    ∷ []

-- 02, 2.2: "A step of 1 to ε", from the r of the tables
unfoldable pub long_clock_sound : ℕ → ℕ → ℕ → Bool
long_clock_sound epsilon v r = ltb r long_bound && within 1 epsilon (v - r)

unfoldable pub long_tables_sound : Setup → ℕ → Timestamp → Bool
long_tables_sound s v tables =
    sound_beside (long_clock_sound s.epsilon v tables.r) s.n s.epsilon (trimmed s.epsilon tables)

-- the least due clock that the shelf may have
unfoldable pub long_least_due : Setup → ℕ → Timestamp → ℕ
long_least_due s v tables = least_at v (long_tables_sound s v tables) (v - tables.r)

unfoldable pub long_holdback_sound : Input → Bool
long_holdback_sound i =
    long_sound_holdback i.setup i.clock (long_least_due i.setup i.clock i.tables) i.holdback

unfoldable pub long_repair : Input → ℕ
long_repair i = cond (long_tables_sound i.setup i.clock i.tables) 0 1 + cond (long_holdback_sound i) 0 2

-- tick 1 and 2
unfoldable pub long_opening_stamp : Input → Timestamp
long_opening_stamp i =
    cond (long_tables_sound i.setup i.clock i.tables)
    (step (i.clock - i.tables.r) i.clock (trimmed i.setup.epsilon i.tables))
    (replaced i.setup.epsilon i.clock)

unfoldable pub long_opened : Input → List Frame
long_opened i = cond (long_holdback_sound i) (long_held i.setup.epsilon i.holdback) []

-- tick 3. What is due before v is held until the hand-out too: so no more than 64 are ever handed out, and 13 refuses what has the origin of one
unfoldable pub long_heard : Input → Heard
long_heard i =
    long_hear i.setup i.clock (record { queue = long_opened i; verdicts = [] }) (batch_entries i.batch)

-- tick 4
unfoldable pub long_new_stamp : Input → Timestamp
long_new_stamp i =
    count_own i.setup.epsilon i.clock
    (long_absorb_all i.setup i.clock (long_opening_stamp i) (batch_entries i.batch) (long_heard i).verdicts)

-- tick 5
unfoldable pub long_sent : Input → List ℕ
long_sent i = cond i.send (long_encode (frame_of i.setup.epsilon i.own (long_new_stamp i) i.payload)) []

-- tick 6; 02, 2.2: due at v or before
unfoldable pub long_due_by : Setup → ℕ → Frame → Bool
long_due_by s v f = leb (long_due s f) v

-- 02: "a search through all of them at hand-out". In the order of two stamps what is due before v comes before what is due at v
unfoldable pub long_delivered : Input → List Frame
long_delivered i = sort_by (long_before i.setup) (select (long_due_by i.setup i.clock) (long_heard i).queue)

unfoldable pub long_kept : Input → List Frame
long_kept i = select (λ f. not (long_due_by i.setup i.clock f)) (long_heard i).queue

-- an accepted call
unfoldable pub long_acceptance : Input → Output
long_acceptance i =
    accepted_with i (long_repair i) (long_new_stamp i) (long_heard i).verdicts (long_sent i) (long_delivered i) (long_encode_frames (long_delivered i))
    (long_encode_holdback (long_holdback_size i.setup) (long_kept i))

-- what comes of a call, by the number of the first no
abbrev pub long_tick_by : ℕ → Input → Output
long_tick_by zero i = long_acceptance i
long_tick_by (suc k) i = refusal i (suc k)

unfoldable pub long_tick : Input → Output
long_tick i = long_tick_by (first_no (long_call_questions i)) i
