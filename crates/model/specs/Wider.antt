-- 02, 2.10: one tick with two pairs of limits. What 2.10 does not speak of is the tick's own, of the limits of its clock.
use Rattle.std.specs.Prelude.{ℕ, zero, suc, ◌+◌, ◌-◌, max, Bool, ◌&&◌, not, cond, List, [], ◌∷◌, ◌++◌, map, leb, ltb, eqb, length, drop, get_or}
use Rattle.laws.specs.Lists.{tab, every, select, leading, chained, apart, fold_left}
use Rattle.laws.specs.Lex.{lex_compare, is_less}
use Rattle.model.specs.Setup.{Setup, width, depth_of, longest_frame}
use Rattle.model.specs.Timestamp.{Timestamp, count_at, counts_from, sum, at_most, sound_clock, sound_beside, trimmed, replaced, step, count_own}
use Rattle.model.specs.Frame.{Frame, two_at, encode, frame_end, well_formed, decode}
use Rattle.model.specs.Order.{reading_of}
use Rattle.model.specs.Batch.{exact_batch, batch_entries}
use Rattle.model.specs.Question.{Question, ask, first_no, ask_range}
use Rattle.model.specs.Codec.{ask_payload, frame_of}
use Rattle.model.specs.Holdback.{cut_by, same_origin, not_early, encode_frames, encode_holdback}
use Rattle.model.specs.Judge.{Asking, ask_late, ask_early, ask_repeat, Verdict, verdict_by, Heard, hear_by, absorb_by, absorb_each}
use Rattle.model.specs.Tick.{Input, Output, refusal, delivery_roomy, holdback_questions, holdback_size, step_of, least_at, accepted_with}
use Rattle.model.specs.Schedule.{Schedule, steady, widening, modulus_of, widest_of, Wider, ask_both, ask_wider, along, own_limits, half_of, tables_half, due_along, compared_along}

-- ---- frames of both widths

-- 02: "both widths are read always": half the width of the frame that begins here, by the count of its second section
abbrev pub half_in : Schedule → List ℕ → ℕ
half_in g bytes = half_of g (get_or bytes 4 0 - 1)

-- 10, what a frame holds, and where it ends
unfoldable pub wider_formed : Schedule → List ℕ → Bool
wider_formed g bytes = well_formed (half_in g bytes) bytes

unfoldable pub wider_decode : Schedule → List ℕ → Frame
wider_decode g bytes = decode (half_in g bytes) bytes

unfoldable pub wider_end : Schedule → List ℕ → ℕ
wider_end g bytes = frame_end (half_in g bytes) bytes

-- 02: "the width is part of a frame's contents"
abbrev pub frame_half : Schedule → Frame → ℕ
frame_half g f = half_of g (length f.stamp.kn)

-- 01: "A stamp is sound if c ≤ ε − 1, each count ≤ n, the count at offset c is at least 1, and all counts above offset c are 0", where ε is
-- given, and the stamp has counts of its own half width; 02: "missing counts being 0"
unfoldable pub sound_within : ℕ → ℕ → ℕ → Timestamp → Bool
sound_within n epsilon half t =
    leb t.c (epsilon - 1) && (at_most n t.kn && (leb 1 (count_at half 0 t.kn t.c)
    && at_most 0 (counts_from half 0 t.kn (t.c + 1))))

-- 10 to 12, by an ε
abbrev pub questions_within : Schedule → Setup → ℕ → List ℕ → List Question
questions_within g s epsilon bytes =
    ask (wider_formed g bytes) 10
    ∷ ask_range s (wider_decode g bytes)
    ∷ ask (sound_within s.n epsilon (frame_half g (wider_decode g bytes)) (wider_decode g bytes).stamp) 12
    ∷ []

-- 02: "A tick uses the limits of its own clock"
unfoldable pub wider_frame_questions : Schedule → List ℕ → List Question
wider_frame_questions g bytes = questions_within g (own_limits g) (own_limits g).epsilon bytes

-- ---- the order and the due clock

-- r read near v, by the limits of v
abbrev pub wider_reading : Schedule → ℕ → Frame → ℕ
wider_reading g v f = reading_of (own_limits g) v f

-- 01: "count at offset c; at c − 1; and so on", so many of them, of a stamp with counts of a half width; r stands so far that no clock is negative
unfoldable pub counts_down_by : ℕ → ℕ → Timestamp → List ℕ
counts_down_by most half t = tab most (λ k. count_at half most t.kn (most + t.c - k))

-- 01: "sum; count at offset c; … ; station number; r"; 02: as many counts as frames of this sum compare
unfoldable pub wider_key : Schedule → ℕ → Frame → List ℕ
wider_key g reading f =
    sum reading f.stamp.c
    ∷ (counts_down_by (compared_along g (sum reading f.stamp.c)) (frame_half g f) f.stamp ++ (f.station ∷ reading ∷ []))

unfoldable pub wider_key_near : Schedule → ℕ → Frame → List ℕ
wider_key_near g v f = wider_key g (wider_reading g v f) f

-- the first comes before the second
unfoldable pub wider_before : Schedule → ℕ → Frame → Frame → Bool
wider_before g v a b = is_less (lex_compare (wider_key_near g v a) (wider_key_near g v b))

-- the due clock of a frame, as a reading
unfoldable pub wider_due : Schedule → ℕ → Frame → ℕ
wider_due g v f = due_along g (sum (wider_reading g v f) f.stamp.c)

-- ---- the shelf

unfoldable pub wider_held_bytes : Schedule → List ℕ → List (List ℕ)
wider_held_bytes g s = cut_by (wider_end g) (two_at s 0) (drop 2 s)

unfoldable pub wider_held : Schedule → List ℕ → List Frame
wider_held g s = map (wider_decode g) (wider_held_bytes g s)

unfoldable pub wider_passes : Schedule → List ℕ → Bool
wider_passes g bytes = eqb (first_no (wider_frame_questions g bytes)) 0

unfoldable pub wider_not_expired : Schedule → ℕ → ℕ → Frame → Bool
wider_not_expired g v least f = leb least (wider_due g v f)

-- 01: "It is sound if …", by the limits of v
unfoldable pub wider_sound_holdback : Schedule → ℕ → ℕ → List ℕ → Bool
wider_sound_holdback g v least bytes =
    leb (two_at bytes 0) (depth_of (own_limits g)) && (every (wider_passes g) (wider_held_bytes g bytes)
    && (chained (wider_before g v) (wider_held g bytes) && (apart same_origin (wider_held g bytes)
    && (every (not_early (own_limits g) v) (wider_held g bytes) && every (wider_not_expired g v least) (wider_held g bytes)))))

-- 01, tick 1: "An unsound shelf is emptied"
unfoldable pub wider_opening_queue : Schedule → ℕ → ℕ → List ℕ → List Frame
wider_opening_queue g v least holdback = cond (wider_sound_holdback g v least holdback) (wider_held g holdback) []

-- 02, 2.2: due before v, which reads B; and due at v
unfoldable pub wider_due_before : Schedule → ℕ → Frame → Bool
wider_due_before g v f = ltb (wider_due g v f) (modulus_of g)

unfoldable pub wider_due_now : Schedule → ℕ → Frame → Bool
wider_due_now g v f = eqb (wider_due g v f) (modulus_of g)

-- what goes out before the bundle is judged, what hearing starts from, what is handed out, and what stays
abbrev pub wider_overdue : Schedule → ℕ → List Frame → List Frame
wider_overdue g v queue = select (wider_due_before g v) queue

abbrev pub wider_opening : Schedule → ℕ → List Frame → Heard
wider_opening g v queue = record { queue = select (λ f. not (wider_due_before g v f)) queue; verdicts = [] }

abbrev pub wider_delivered : Schedule → ℕ → List Frame → List Frame → List Frame
wider_delivered g v overdue queue = overdue ++ select (wider_due_now g v) queue

abbrev pub wider_kept : Schedule → ℕ → List Frame → List Frame
wider_kept g v queue = select (λ f. not (wider_due_now g v f)) queue

-- ---- judging and hearing

-- 01, 13: "Is r at most δ + ε behind v?"; 02: "a frame heard that is due before v gets 13". (With one pair the first says the second.)
unfoldable pub not_late_along : Schedule → ℕ → Frame → Bool
not_late_along g v f =
    leb (modulus_of g) (wider_reading g v f + ((own_limits g).delta + (own_limits g).epsilon)) && not (wider_due_before g v f)

abbrev pub wider_ask_late : Schedule → ℕ → Frame → Question
wider_ask_late (steady s) v f = ask_late s v f
wider_ask_late (widening before after change) v f = ask (not_late_along (widening before after change) v f) 13

-- 01, 15: "Is each count for clock v or later at most n − 1?", by the frame's own counts
unfoldable pub wider_ask_counts : Schedule → ℕ → Frame → Question
wider_ask_counts g v f =
    ask (at_most ((own_limits g).n - 1) (counts_from (frame_half g f) (wider_reading g v f) f.stamp.kn (modulus_of g))) 15

-- 13 to 16, and an observer's, without 15
unfoldable pub wider_place_questions : Schedule → ℕ → List Frame → Frame → List Question
wider_place_questions g v queue f =
    wider_ask_late g v f ∷ ask_early (own_limits g) v f ∷ wider_ask_counts g v f ∷ ask_repeat queue f ∷ []

unfoldable pub wider_observer_place_questions : Schedule → ℕ → List Frame → Frame → List Question
wider_observer_place_questions g v queue f = wider_ask_late g v f ∷ ask_early (own_limits g) v f ∷ ask_repeat queue f ∷ []

-- 10 to 16
unfoldable pub wider_questions : Schedule → ℕ → List Frame → List ℕ → List Question
wider_questions g v queue bytes = wider_frame_questions g bytes ++ wider_place_questions g v queue (wider_decode g bytes)

unfoldable pub wider_observer_questions : Schedule → ℕ → List Frame → List ℕ → List Question
wider_observer_questions g v queue bytes = wider_frame_questions g bytes ++ wider_observer_place_questions g v queue (wider_decode g bytes)

-- 01: "places count from 0"
unfoldable pub wider_place : Schedule → ℕ → List Frame → Frame → ℕ
wider_place g v queue f = leading (λ other. wider_before g v other f) queue

unfoldable pub wider_judge : Schedule → ℕ → Asking → List Frame → List ℕ → Verdict
wider_judge g v asking queue bytes = verdict_by (first_no (asking queue bytes)) (wider_place g v queue (wider_decode g bytes))

unfoldable pub wider_hear_one : Schedule → ℕ → Asking → Heard → List ℕ → Heard
wider_hear_one g v asking h bytes = hear_by (wider_judge g v asking h.queue bytes) (wider_decode g bytes) h

unfoldable pub wider_hear : Schedule → ℕ → Asking → Heard → List (List ℕ) → Heard
wider_hear g v asking h entries = fold_left (wider_hear_one g v asking) h entries

-- 01, tick 3: "c and each count become the larger of own and frame's, both placed relative to v"; 02: the frame has counts of its own half
-- width, "missing counts being 0"
unfoldable pub absorb_wide : ℕ → ℕ → ℕ → Timestamp → ℕ → Timestamp → Timestamp
absorb_wide epsilon half modulus t reading f =
    record {
      r = t.r;
      c = max t.c (sum reading f.c - modulus);
      kn = tab (width epsilon) (λ i. max (count_at epsilon (modulus + epsilon) t.kn (modulus + i)) (count_at half (reading + epsilon) f.kn (modulus + i)));
    }

-- of a taken frame; "a no skips it"
abbrev pub absorb_taken : ℕ → Schedule → ℕ → Frame → Timestamp → Timestamp
absorb_taken zero g v f t = absorb_wide (own_limits g).epsilon (frame_half g f) (modulus_of g) t (wider_reading g v f) f.stamp
absorb_taken (suc k) g v f t = t

abbrev pub wider_absorb_by : Schedule → ℕ → ℕ → Frame → Timestamp → Timestamp
wider_absorb_by (steady s) number v f t = absorb_by number s v f t
wider_absorb_by (widening before after change) number v f t = absorb_taken number (widening before after change) v f t

unfoldable pub wider_absorb_all : Schedule → ℕ → Timestamp → List (List ℕ) → List ℕ → Timestamp
wider_absorb_all g v t entries numbers =
    absorb_each (λ number bytes u. wider_absorb_by g number v (wider_decode g bytes) u) t entries numbers

-- ---- one tick

-- 02, 2.2: the step from the r of the tables to v
abbrev pub wider_step_of : Schedule → ℕ → Timestamp → ℕ
wider_step_of g v tables = step_of (own_limits g) v tables

-- 02: "Tables are narrow if their r is before V": the counts that tables have
abbrev pub wider_tables : Schedule → ℕ → Timestamp → Timestamp
wider_tables g v tables = trimmed (tables_half g (wider_step_of g v tables)) tables

-- 01: "sound for a new clock v", by their own counts; how far r may lie before v is a limit of v
unfoldable pub wider_tables_sound : Schedule → ℕ → Timestamp → Bool
wider_tables_sound g v tables =
    sound_beside (sound_clock (own_limits g).epsilon (modulus_of g) v tables.r) (own_limits g).n
    (tables_half g (wider_step_of g v tables)) (wider_tables g v tables)

-- the least due clock that the shelf may have
unfoldable pub wider_least : Schedule → ℕ → Timestamp → ℕ
wider_least g v tables = least_at (modulus_of g) (wider_tables_sound g v tables) (wider_step_of g v tables)

unfoldable pub wider_holdback_sound : Schedule → ℕ → Timestamp → List ℕ → Bool
wider_holdback_sound g v tables holdback = wider_sound_holdback g v (wider_least g v tables) holdback

unfoldable pub wider_repair : Schedule → ℕ → Timestamp → List ℕ → ℕ
wider_repair g v tables holdback = cond (wider_tables_sound g v tables) 0 1 + cond (wider_holdback_sound g v tables holdback) 0 2

-- 02, 2.2: "c drops by the step and counts move down by it", from counts of one half width into those of another: "missing counts being 0"
unfoldable pub step_into : ℕ → ℕ → ℕ → ℕ → Timestamp → Timestamp
step_into epsilon half k v t =
    record { r = v; c = t.c - k; kn = tab (width epsilon) (λ i. count_at half epsilon t.kn (k + i)) }

abbrev pub wider_step : Schedule → ℕ → ℕ → Timestamp → Timestamp
wider_step (steady s) k v t = step k v t
wider_step (widening before after change) k v t =
    step_into (own_limits (widening before after change)).epsilon (tables_half (widening before after change) k) k v t

-- tick 1 and 2
unfoldable pub wider_opening_stamp : Schedule → ℕ → Timestamp → Timestamp
wider_opening_stamp g v tables =
    cond (wider_tables_sound g v tables) (wider_step g (wider_step_of g v tables) v (wider_tables g v tables)) (replaced (own_limits g).epsilon v)

unfoldable pub wider_opened : Schedule → Input → List Frame
wider_opened g i = wider_opening_queue g i.clock (wider_least g i.clock i.tables) i.holdback

-- tick 3
unfoldable pub wider_heard : Schedule → Input → Heard
wider_heard g i = wider_hear g i.clock (wider_questions g i.clock) (wider_opening g i.clock (wider_opened g i)) (batch_entries i.batch)

unfoldable pub wider_heard_stamp : Schedule → Input → Timestamp
wider_heard_stamp g i =
    wider_absorb_all g i.clock (wider_opening_stamp g i.clock i.tables) (batch_entries i.batch) (wider_heard g i).verdicts

-- tick 4
unfoldable pub wider_new_stamp : Schedule → Input → Timestamp
wider_new_stamp g i = count_own (own_limits g).epsilon i.clock (wider_heard_stamp g i)

-- tick 5; 02: "Stations before V write narrow frames, later ones wide"
unfoldable pub wider_sent : Schedule → Input → List ℕ
wider_sent g i = cond i.send (encode (frame_of (own_limits g).epsilon i.own (wider_new_stamp g i) i.payload)) []

-- tick 6
unfoldable pub wider_delivered_of : Schedule → Input → List Frame
wider_delivered_of g i = wider_delivered g i.clock (wider_overdue g i.clock (wider_opened g i)) (wider_heard g i).queue

unfoldable pub wider_kept_of : Schedule → Input → List Frame
wider_kept_of g i = wider_kept g i.clock (wider_heard g i).queue

-- an accepted call
unfoldable pub wider_acceptance : Schedule → Input → Output
wider_acceptance g i =
    accepted_with i (wider_repair g i.clock i.tables i.holdback) (wider_new_stamp g i) (wider_heard g i).verdicts (wider_sent g i)
    (wider_delivered_of g i) (encode_frames (wider_delivered_of g i)) (encode_holdback (holdback_size (widest_of g)) (wider_kept_of g i))

-- 2 to 6, by the setup that gives the sizes
unfoldable pub sized_questions : Setup → Input → List Question
sized_questions s i =
    holdback_questions s i.clock i.holdback
    ++ (ask_payload i.payload ∷ ask (exact_batch i.batch) 5
    ∷ ask (leb (longest_frame s.epsilon) (length i.outgoing) && delivery_roomy s i.verdicts i.delivery) 6 ∷ [])

-- 1, 19, then 2 to 6: "shelves and buffers have the new sizes from a station's first call with both pairs"
unfoldable pub wider_call_questions : Wider → Input → List Question
wider_call_questions w i =
    ask_both i.setup w i.own ∷ ask_wider i.setup w
    ∷ sized_questions (widest_of (along i.setup w i.clock)) i

-- what comes of a call, by the number of the first no
abbrev pub wider_tick_by : ℕ → Schedule → Input → Output
wider_tick_by zero g i = wider_acceptance g i
wider_tick_by (suc k) g i = refusal i (suc k)

-- a tick with both pairs: the old one in its setup, and the wider one beside it
unfoldable pub tick_in : Wider → Input → Output
tick_in w i = wider_tick_by (first_no (wider_call_questions w i)) (along i.setup w i.clock) i
