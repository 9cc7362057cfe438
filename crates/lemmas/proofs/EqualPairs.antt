-- 02, 2.10: a widening between equal pairs, wherever V stands, does what a steady schedule does. Assumes nothing.
use Prim.Native.Nat.{ℕ, zero, suc, ◌+◌, ◌-◌, ◌≤◌}
use native.Mathlib.Omega.{arith}
use mathlib.Core.Path.{◌≡◌, refl, sym, ap, ◌∙◌}
use mathlib.Core.Bool.{Bool, true, false, ◌&&◌, not, cond}
use mathlib.Core.Option
use mathlib.Core.List.{List, [], ◌∷◌, ◌++◌, map}
use lib.Dec.{leb, ltb, eqb}
use lib.ListN.{length, drop, get_or}
use borrow.Author.Tests.{le-ltb, leb-true}
use Rattle.laws.specs.Lists.{every, select, leading, chained, apart, fold_left, placed_at, overlay, smallest}
use Rattle.laws.specs.Lex.{lex_compare, is_less}
use Rattle.laws.proofs.Lists.{eq-tab}
use Rattle.model.specs.Setup.{Setup, width, depth_of}
use Rattle.model.specs.Timestamp.{Timestamp, count_at, counts_from, sum, at_most, clock_step, sound_clock, sound_beside, sound_tables, trimmed, replaced, shift, step, absorb, count_own}
use Rattle.model.specs.Frame.{Frame, two_at, encode, decode, frame_end, well_formed}
use Rattle.model.specs.Order.{reading_of, reading_clock}
use Rattle.model.specs.Comparison.{compare_keys, count_clock, at_clocks}
use Rattle.model.specs.Batch.{batch_entries}
use Rattle.model.specs.Question.{ask, first_no, ask_range}
use Rattle.model.specs.Codec.{frame_of}
use Rattle.model.specs.Holdback.{cut_by, same_origin, not_early, encode_frames, encode_holdback}
use Rattle.model.specs.Judge.{ask_late, ask_early, ask_repeat, verdict_by, hear_by, absorb_each}
use Rattle.model.specs.Tick.{Input, holdback_size, step_of, least_at, taken_count, accepted_with}
use Rattle.model.specs.Observer.{Listening}
use Rattle.model.specs.Schedule.{Schedule, steady, widening, limits_at, own_limits, half_of, tables_half, old_due, due_along, compared_along}
use Rattle.model.specs.Wider.{wider_formed, wider_decode, wider_end, sound_within, wider_frame_questions, counts_down_by, wider_key, wider_key_near, wider_before, wider_due, wider_held_bytes, wider_held, wider_passes, wider_not_expired, wider_sound_holdback, wider_opening_queue, wider_due_before, wider_due_now, not_late_along, wider_ask_late, wider_ask_counts, wider_place_questions, wider_observer_place_questions, wider_questions, wider_observer_questions, wider_place, wider_judge, wider_hear_one, wider_hear, absorb_wide, wider_absorb_by, wider_absorb_all, wider_tables_sound, wider_least, wider_holdback_sound, wider_repair, step_into, wider_opening_stamp, wider_opened, wider_heard, wider_heard_stamp, wider_new_stamp, wider_sent, wider_delivered_of, wider_kept_of, wider_acceptance}
use Rattle.model.specs.WiderCalls.{wider_last_sound, wider_observer_least, wider_observer_repair, wider_observer_opened, wider_observer_heard, wider_observer_delivered, wider_observer_kept, wider_listened, wider_polled_queue, wider_soonest_due, wider_next_due, wider_due_within, wider_number_within, wider_poll_by, wider_compared}
use Rattle.lemmas.proofs.Counts.{count-zero, count_index, shift-at, length_shift, trimmed-wide, tables_step}

cond_same : {A : Type 0} (b : Bool) (x : A) → cond b x x ≡ x
cond_same true x = refl
cond_same false x = refl

module _ (s : Setup) (change : ℕ) where
  -- two pairs that are one, and the one
  abbrev twice : Schedule
  twice = widening s s change

  abbrev once : Schedule
  once = steady s

  -- ---- what a schedule gives

  limits-same : (x : ℕ) → limits_at twice x ≡ s
  limits-same x = cond_same (ltb x change) s

  abbrev own : own_limits twice ≡ s
  own = limits-same s.modulus

  half-same : (count : ℕ) → half_of twice count ≡ s.epsilon
  half-same count = cond_same (eqb count (width s.epsilon)) s.epsilon

  tables-half-same : (k : ℕ) → tables_half twice k ≡ s.epsilon
  tables-half-same k = ap (λ (u : Setup). u.epsilon) (limits-same (s.modulus - k))

  due-along-same : (x : ℕ) → due_along twice x ≡ due_along once x
  due-along-same x = cond_same (old_due s change x) (x + s.delta + s.epsilon)

  compared_same : (x : ℕ) → compared_along twice x ≡ s.epsilon
  compared_same x = cond_same (old_due s change x) s.epsilon

  -- ---- frames

  formed-same : wider_formed twice ≡ wider_formed once
  unfolding wider_formed
  formed-same = λ j bytes. well_formed (half-same (get_or bytes 4 0 - 1) j) bytes

  decode-same : wider_decode twice ≡ wider_decode once
  unfolding wider_decode
  decode-same = λ j bytes. decode (half-same (get_or bytes 4 0 - 1) j) bytes

  end_same : wider_end twice ≡ wider_end once
  unfolding wider_end
  end_same = λ j bytes. frame_end (half-same (get_or bytes 4 0 - 1) j) bytes

  questions-same : wider_frame_questions twice ≡ wider_frame_questions once
  unfolding wider_frame_questions
  questions-same = λ j bytes.
      ask (formed-same j bytes) 10
      ∷ ask_range (own j) (decode-same j bytes)
      ∷ ask (sound_within (own j).n (own j).epsilon (half-same (length (decode-same j bytes).stamp.kn) j) (decode-same j bytes).stamp) 12
      ∷ []

  -- ---- order and due clock

  key-same : wider_key_near twice ≡ wider_key_near once
  unfolding wider_key_near wider_key
  key-same = λ j v f.
      sum (reading_of (own j) v f) f.stamp.c
      ∷ (counts_down_by (compared_same (sum (reading_of (own j) v f) f.stamp.c) j) (half-same (length f.stamp.kn) j) f.stamp
      ++ (f.station ∷ reading_of (own j) v f ∷ []))

  before_same : wider_before twice ≡ wider_before once
  unfolding wider_before
  before_same = λ j v a b. is_less (lex_compare (key-same j v a) (key-same j v b))

  due-same : wider_due twice ≡ wider_due once
  unfolding wider_due
  due-same = λ j v f. due-along-same (sum (reading_of (own j) v f) f.stamp.c) j

  -- ---- the shelf

  held-bytes-same : wider_held_bytes twice ≡ wider_held_bytes once
  unfolding wider_held_bytes
  held-bytes-same = λ j bytes. cut_by (end_same j) (two_at bytes 0) (drop 2 bytes)

  held_same : wider_held twice ≡ wider_held once
  unfolding wider_held
  held_same = λ j bytes. map (decode-same j) (held-bytes-same j bytes)

  holdback-same : wider_sound_holdback twice ≡ wider_sound_holdback once
  unfolding wider_sound_holdback wider_passes wider_not_expired
  holdback-same = λ j v least bytes.
      leb (two_at bytes 0) (depth_of (own j)) && (every (λ b. eqb (first_no (questions-same j b)) 0) (held-bytes-same j bytes)
      && (chained (before_same j v) (held_same j bytes) && (apart same_origin (held_same j bytes)
      && (every (not_early (own j) v) (held_same j bytes) && every (λ f. leb least (due-same j v f)) (held_same j bytes)))))

  opening-same : wider_opening_queue twice ≡ wider_opening_queue once
  unfolding wider_opening_queue
  opening-same = λ j v least bytes. cond (holdback-same j v least bytes) (held_same j bytes) []

  due-before-same : wider_due_before twice ≡ wider_due_before once
  unfolding wider_due_before
  due-before-same = λ j v f. ltb (due-same j v f) s.modulus

  due-now-same : wider_due_now twice ≡ wider_due_now once
  unfolding wider_due_now
  due-now-same = λ j v f. eqb (due-same j v f) s.modulus

  -- ---- judging: with one pair what is not late is not due before v

  not_late : (reading c : ℕ) → (leb s.modulus (reading + (s.delta + s.epsilon)) && not (ltb (reading + c + s.delta + s.epsilon) s.modulus)) ≡ leb s.modulus (reading + (s.delta + s.epsilon))
  not_late reading c = go (leb s.modulus (reading + (s.delta + s.epsilon))) refl
    where
      go : (b : Bool) → leb s.modulus (reading + (s.delta + s.epsilon)) ≡ b → (b && not (ltb (reading + c + s.delta + s.epsilon) s.modulus)) ≡ b
      go true e =
          let h = leb-true s.modulus (reading + (s.delta + s.epsilon)) e in
          rw (le-ltb (reading + c + s.delta + s.epsilon) s.modulus (omega (arith, h)))
      go false e = refl

  late-same : (v : ℕ) (f : Frame) → wider_ask_late twice v f ≡ wider_ask_late once v f
  unfolding not_late_along wider_due_before wider_due ask_late sum
  late-same v f =
      (λ j.
      ask (leb s.modulus (reading_of (own j) v f + ((own j).delta + (own j).epsilon))
      && not (ltb (due-along-same (reading_of (own j) v f + f.stamp.c) j) s.modulus)) 13)
      ∙ ap (λ (b : Bool). ask b 13) (not_late (reading_of s v f) f.stamp.c)

  counts_same : wider_ask_counts twice ≡ wider_ask_counts once
  unfolding wider_ask_counts
  counts_same = λ j v f.
      ask (at_most ((own j).n - 1) (counts_from (half-same (length f.stamp.kn) j) (reading_of (own j) v f) f.stamp.kn s.modulus)) 15

  judged-same : wider_questions twice ≡ wider_questions once
  unfolding wider_questions wider_place_questions
  judged-same = λ j v queue bytes.
      questions-same j bytes
      ++ (late-same v (decode-same j bytes) j ∷ ask_early (own j) v (decode-same j bytes) ∷ counts_same j v (decode-same j bytes) ∷ ask_repeat queue (decode-same j bytes) ∷ [])

  observed-same : wider_observer_questions twice ≡ wider_observer_questions once
  unfolding wider_observer_questions wider_observer_place_questions
  observed-same = λ j v queue bytes.
      questions-same j bytes ++ (late-same v (decode-same j bytes) j ∷ ask_early (own j) v (decode-same j bytes) ∷ ask_repeat queue (decode-same j bytes) ∷ [])

  hear-same : wider_hear twice ≡ wider_hear once
  unfolding wider_hear wider_hear_one wider_judge wider_place
  hear-same = λ j v asking h entries.
      fold_left (λ x bytes. hear_by (verdict_by (first_no (asking x.queue bytes)) (leading (λ other. before_same j v other (decode-same j bytes)) x.queue)) (decode-same j bytes) x) h entries

  -- ---- the stamp

  absorb-same : (number v : ℕ) (f : Frame) (t : Timestamp) → wider_absorb_by twice number v f t ≡ wider_absorb_by once number v f t
  unfolding absorb_wide absorb
  absorb-same zero v f t = λ j. absorb_wide (own j).epsilon (half-same (length f.stamp.kn) j) s.modulus t (reading_of (own j) v f) f.stamp
  absorb-same (suc k) v f t = refl

  absorb-all-same : wider_absorb_all twice ≡ wider_absorb_all once
  unfolding wider_absorb_all
  absorb-all-same = λ j v t entries numbers. absorb_each (λ number bytes u. absorb-same number v (decode-same j bytes) u j) t entries numbers

  tables-same : wider_tables_sound twice ≡ wider_tables_sound once
  unfolding wider_tables_sound
  tables-same = λ j v t.
      sound_beside (sound_clock (own j).epsilon s.modulus v t.r) (own j).n (tables-half-same (step_of (own j) v t) j)
      (trimmed (tables-half-same (step_of (own j) v t) j) t)

  least-same : wider_least twice ≡ wider_least once
  unfolding wider_least
  least-same = λ j v t. least_at s.modulus (tables-same j v t) (step_of (own j) v t)

  -- tables that are sound are stepped by no more than ε, and then both steps place every count alike
  step_same : (k v : ℕ) (t : Timestamp) → length t.kn ≡ width s.epsilon → k ≤ s.epsilon → step_into s.epsilon s.epsilon k v t ≡ step k v t
  unfolding step_into step count_at
  step_same k v t wide few =
      ap (λ (l : List ℕ). record { r = v; c = t.c - k; kn = l })
      (sym (eq-tab (shift k t.kn) (width s.epsilon) (λ i. placed_at s.epsilon t.kn (k + i + s.epsilon)) 0
      (length_shift k t.kn (unfold width in (omega (arith, wide, few))) ∙ wide) (λ i h. one i)))
    where
      one : (i : ℕ) → get_or (shift k t.kn) i 0 ≡ placed_at s.epsilon t.kn (k + i + s.epsilon)
      one i = sym (count-zero (shift k t.kn) i) ∙ (shift-at k t.kn i ∙ sym (count_index s.epsilon t.kn (k + i + s.epsilon) (k + i) (omega arith)))

  few-steps : (v : ℕ) (t : Timestamp) → wider_tables_sound once v t ≡ true → step_of s v t ≤ s.epsilon
  unfolding wider_tables_sound sound_tables step_of trimmed
  few-steps v t e = (tables_step s.n s.epsilon s.modulus v (trimmed s.epsilon t) e).1

  stamp-same : (v : ℕ) (t : Timestamp) → wider_opening_stamp twice v t ≡ wider_opening_stamp once v t
  unfolding wider_opening_stamp
  stamp-same v t =
      (λ j.
      cond (tables-same j v t)
      (step_into (own j).epsilon (tables-half-same (step_of (own j) v t) j) (step_of (own j) v t) v (trimmed (tables-half-same (step_of (own j) v t) j) t))
      (replaced (own j).epsilon v))
      ∙ go (wider_tables_sound once v t) refl
    where
      go :
          (b : Bool) → wider_tables_sound once v t ≡ b
          → cond b (step_into s.epsilon s.epsilon (step_of s v t) v (trimmed s.epsilon t)) (replaced s.epsilon v)
          ≡ cond b (step (step_of s v t) v (trimmed s.epsilon t)) (replaced s.epsilon v)
      go true e = step_same (step_of s v t) v (trimmed s.epsilon t) (trimmed-wide s.epsilon t) (few-steps v t e)
      go false e = refl

  -- ---- an accepted tick

  opened-same : wider_opened twice ≡ wider_opened once
  unfolding wider_opened
  opened-same = λ j i. opening-same j i.clock (least-same j i.clock i.tables) i.holdback

  heard-same : wider_heard twice ≡ wider_heard once
  unfolding wider_heard
  heard-same = λ j i.
      hear-same j i.clock (judged-same j i.clock)
      (record { queue = select (λ f. not (due-before-same j i.clock f)) (opened-same j i); verdicts = [] }) (batch_entries i.batch)

  new-stamp-same : (i : Input) → wider_new_stamp twice i ≡ wider_new_stamp once i
  unfolding wider_new_stamp wider_heard_stamp
  new-stamp-same i = λ j.
      count_own (own j).epsilon i.clock
      (absorb-all-same j i.clock (stamp-same i.clock i.tables j) (batch_entries i.batch) (heard-same j i).verdicts)

  delivered-same : wider_delivered_of twice ≡ wider_delivered_of once
  unfolding wider_delivered_of
  delivered-same = λ j i.
      select (due-before-same j i.clock) (opened-same j i) ++ select (due-now-same j i.clock) (heard-same j i).queue

  pub tick-same : (i : Input) → wider_acceptance twice i ≡ wider_acceptance once i
  unfolding wider_acceptance wider_repair wider_holdback_sound wider_sent wider_kept_of
  tick-same i = λ j.
      accepted_with i
      (cond (tables-same j i.clock i.tables) 0 1 + cond (holdback-same j i.clock (least-same j i.clock i.tables) i.holdback) 0 2)
      (new-stamp-same i j) (heard-same j i).verdicts
      (cond i.send (encode (frame_of (own j).epsilon i.own (new-stamp-same i j) i.payload)) [])
      (delivered-same j i) (encode_frames (delivered-same j i))
      (encode_holdback (holdback_size s) (select (λ f. not (due-now-same j i.clock f)) (heard-same j i).queue))

  -- ---- the other calls

  observer-least-same : (i : Listening) → wider_observer_least twice i ≡ wider_observer_least once i
  unfolding wider_observer_least wider_last_sound
  observer-least-same i = λ j.
      least_at s.modulus (sound_clock (own j).epsilon s.modulus i.clock i.last) (clock_step s.modulus i.last i.clock)

  observer-opened-same : (i : Listening) → wider_observer_opened twice i ≡ wider_observer_opened once i
  unfolding wider_observer_opened
  observer-opened-same i = λ j. opening-same j i.clock (observer-least-same i j) i.holdback

  observer-heard-same : (i : Listening) → wider_observer_heard twice i ≡ wider_observer_heard once i
  unfolding wider_observer_heard
  observer-heard-same i = λ j.
      hear-same j i.clock (observed-same j i.clock)
      (record { queue = select (λ f. not (due-before-same j i.clock f)) (observer-opened-same i j); verdicts = [] }) (batch_entries i.batch)

  observer-delivered-same : (i : Listening) → wider_observer_delivered twice i ≡ wider_observer_delivered once i
  unfolding wider_observer_delivered
  observer-delivered-same i = λ j.
      select (due-before-same j i.clock) (observer-opened-same i j) ++ select (due-now-same j i.clock) (observer-heard-same i j).queue

  pub listen-same : (i : Listening) → wider_listened twice i ≡ wider_listened once i
  unfolding wider_listened wider_observer_repair wider_last_sound wider_observer_kept
  listen-same i = λ j.
      record {
        number = 0;
        repair =
            cond (sound_clock (own j).epsilon s.modulus i.clock i.last) 0 1
            + cond (holdback-same j i.clock (observer-least-same i j) i.holdback) 0 2;
        taken = taken_count (observer-heard-same i j).verdicts;
        delivered = length (observer-delivered-same i j);
        last = i.clock;
        holdback = encode_holdback (holdback_size s) (select (λ f. not (due-now-same j i.clock f)) (observer-heard-same i j).queue);
        verdicts = overlay (observer-heard-same i j).verdicts i.verdicts;
        delivery = overlay (encode_frames (observer-delivered-same i j)) i.delivery;
      }

  pub poll-same : (v d : ℕ) (holdback : List ℕ) → wider_poll_by 0 twice v d (wider_polled_queue twice v holdback) ≡ wider_poll_by 0 once v d (wider_polled_queue once v holdback)
  unfolding wider_polled_queue wider_next_due wider_soonest_due wider_number_within wider_due_within
  poll-same v d holdback = λ j.
      record {
        number = 0;
        next = Option.map (reading_clock (own j) v) (smallest (map (due-same j v) (opening-same j v (s.modulus + 1) holdback)));
        within = length (select (λ f. leb (due-same j v f) (s.modulus + d)) (opening-same j v (s.modulus + 1) holdback));
      }

  pub compare_same : (v : ℕ) (a b : Frame) → wider_compared twice v a b ≡ wider_compared once v a b
  unfolding wider_compared
  compare_same v a b = λ j.
      at_clocks (count_clock (own j) v (sum (reading_of (own j) v a) a.stamp.c))
      (compare_keys (compared_same (sum (reading_of (own j) v a) a.stamp.c) j) (key-same j v a) (key-same j v b))
