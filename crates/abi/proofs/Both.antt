-- Answers of the calls with both pairs of limits in one number: bounds. Assumes nothing.
use Prim.Native.Nat.{ℕ, zero, suc, ◌+◌, ◌-◌, ◌≤◌, ◌<◌}
use native.Mathlib.Omega.{arith}
use native.Mathlib.Nat.{mod-lt}
use mathlib.Core.Path.{◌≡◌, refl, sym, ap, subst, ◌∙◌}
use mathlib.Core.Bool.{Bool, true, false, ◌&&◌, cond}
use mathlib.Core.List.{List, [], ◌∷◌, ◌++◌}
use mathlib.Core.Logic.{inl, inr}
use mathlib.Core.Option.{Option, none, some, map}
use lib.Dec.{leb, ltb, eqb}
use lib.ListN.{length, get_or}
use borrow.Author.Tests.{leb-true, ltb-true, lt-ltb, le-ltb}
use Rattle.laws.proofs.Numbers.{and_left, eq-or-ne, lt-or-ge}
use Rattle.laws.proofs.Lists.{select-length-le}
use Rattle.model.specs.Setup.{Setup, is_member, longest_frame, width, depth_of}
use Rattle.model.specs.Timestamp.{Timestamp, sum, widened}
use Rattle.model.specs.Frame.{Frame, two_at, encode, payload_count_at}
use Rattle.model.specs.Order.{reading_clock}
use Rattle.model.specs.Comparison.{Reason, by_sum, by_count, by_station, by_r, by_nothing, compare_keys, count_clock, clocked, reason_clock, compare_by}
use Rattle.model.specs.Batch.{exact_batch, batch_entries}
use Rattle.model.specs.Question.{Question, ask, first_no}
use Rattle.model.specs.Codec.{ReadAnswer, read_by, read, WriteAnswer, frame_of, ask_payload}
use Rattle.model.specs.Tick.{Input, Output, refusal, taken_count, holdback_size, holdback_questions}
use Rattle.model.specs.Observer.{Listening, Listened, not_listened}
use Rattle.model.specs.Schedule.{Schedule, Wider, wider_setup, both_in_limits, ask_both, ask_wider, along, modulus_of, own_limits, widest_of, compared_along}
use Rattle.model.specs.Wider.{wider_frame_questions, wider_decode, wider_reading, wider_key_near, wider_held, wider_sound_holdback, wider_opening_queue, wider_questions, wider_observer_questions, wider_least, wider_heard, wider_new_stamp, wider_sent, wider_delivered_of, wider_opened, wider_acceptance, sized_questions, wider_call_questions, tick_in}
use Rattle.model.specs.WiderCalls.{listen_in_questions, wider_observer_least, wider_observer_heard, wider_observer_opened, wider_observer_delivered, wider_listened, listen_in, poll_in_questions, wider_polled_queue, wider_soonest_due, wider_next_due, wider_due_within, wider_number_within, wider_poll_by, poll_in, compare_in_questions, wider_compared, compare_in, pairs_of, is_wide, ReadInAnswer, read_in_questions, read_in_by, read_in, write_in, fresh_in_questions}
use Rattle.lemmas.proofs.Bounds.{Limits}
use Rattle.lemmas.proofs.Questions.{first-yes, other-yes, yes-cons}
use Rattle.lemmas.proofs.Queue.{depth_small}
use Rattle.lemmas.proofs.Schedules.{limits-good}
use Rattle.lemmas.proofs.WideFrames.{length-wide-held}
use Rattle.lemmas.proofs.WiderReceiving.{length-along, few-delivered}
use Rattle.lemmas.proofs.WiderTick.{new-left-along, new-clock-along}
use Rattle.lemmas.proofs.WiderCall.{BothPairs, both-from, along-good, AcceptedIn, accepted-in, tick-in-by, tick-in-passes, tick-along-good, tick-receiving-along, HeededIn, heeded-in, listen-in-by, listen-in-passes, listen-along-good, listen-receiving-along}
use Rattle.frame.proofs.Laying.{length-frame}
use Rattle.polling.specs.Answers.{SmallNext}
use Rattle.pairs.specs.Views.{pair_of}
use Rattle.widerframe.proofs.Codecs.{with_width, read-in-side, write-in-refused, write-in-side}
use Rattle.abi.specs.Packing.{tables_bytes, packed_read_with, read_tables}
use Rattle.abi.specs.Both.{contents_of, half_read, packed_read_in, read_tables_in}
use Rattle.abi.proofs.Words.{Small, taken-few, sent-few, SmallListened, Fair, fair, refused-reading, write-small}

-- ---- a tick's

-- its batch ends after its last entry
exact-in : (w : Wider) (i : Input) → first_no (wider_call_questions w i) ≡ 0 → exact_batch i.batch ≡ true
unfolding wider_call_questions sized_questions ask_both ask_wider ask_payload is_member longest_frame width
exact-in w i e =
    let size = widest_of (along i.setup w i.clock) in
    let e₁ = other-yes (both_in_limits i.setup w && ltb i.own i.setup.n) 0 _ e in
    let e₂ = other-yes (leb i.setup.epsilon w.epsilon && leb i.setup.delta w.delta) 18 _ e₁ in
    let e₃ = other-yes (ltb i.clock size.modulus) 1 _ e₂ in
    let e₄ = other-yes (eqb (length i.holdback) (holdback_size size)) 2 _ e₃ in
    let e₅ = other-yes (leb (length i.payload) 32) 3 _ e₄ in
    first-yes (exact_batch i.batch) 4 _ e₅

pub refused-tick-in : (w : Wider) (i : Input) → ((tick_in w i).answer.number ≡ 0 → ⊥) → tick_in w i ≡ refusal i (tick_in w i).answer.number
unfolding refusal wider_acceptance
refused-tick-in w i h = go (first_no (wider_call_questions w i)) refl
  where
    go : (k : ℕ) → first_no (wider_call_questions w i) ≡ k → tick_in w i ≡ refusal i (tick_in w i).answer.number
    go zero q = absurd (h (ap (λ (o : Output). o.answer.number) (tick-in-by w i 0 q)))
    go (suc k) q = tick-in-by w i (suc k) q ∙ ap (refusal i) (sym (ap (λ (o : Output). o.answer.number) (tick-in-by w i (suc k) q)))

pub answer-small-in : (w : Wider) (i : Input) (o : Output) → o ≡ tick_in w i → o.answer.number ≡ 0 → get_or i.batch 0 0 < 256 → Small o.answer × (o.answer.tables.r < 65536)
unfolding wider_acceptance widened wider_heard wider_sent wider_delivered_of wider_opened
answer-small-in w i o same zero_number byte =
    let e : (tick_in w i).answer.number ≡ 0 = sym (ap (λ (x : Output). x.answer.number) same) ∙ zero_number in
    let a : AcceptedIn w i = accepted-in w i e in
    let g : Schedule = along i.setup w i.clock in
    let lim : Limits (own_limits g) = limits-good g (tick-along-good w i a) (modulus_of g) in
    let is : o ≡ wider_acceptance g i = same ∙ a.accepted in
    let taken_is : o.answer.taken ≡ taken_count (wider_heard g i).verdicts = ap (λ (x : Output). x.answer.taken) is in
    let sent_is : o.answer.sent ≡ length (wider_sent g i) = ap (λ (x : Output). x.answer.sent) is in
    let delivered-is : o.answer.delivered ≡ length (wider_delivered_of g i) = ap (λ (x : Output). x.answer.delivered) is in
    let r-is : o.answer.tables.r ≡ (wider_new_stamp g i).r = ap (λ (x : Output). x.answer.tables.r) is in
    let c-is : o.answer.tables.c ≡ (wider_new_stamp g i).c = ap (λ (x : Output). x.answer.tables.c) is in
    let heard = length-along g i.clock (wider_least g i.clock i.tables) (wider_questions g i.clock) i.holdback (batch_entries i.batch) in
    let few = few-delivered g i.clock (wider_least g i.clock i.tables) (wider_questions g i.clock) i.holdback (batch_entries i.batch) (tick-receiving-along w i a) in
    let long = length-frame (own_limits g).epsilon i.own (wider_new_stamp g i) i.payload in
    let left = new-left-along g (tick-along-good w i a) i in (
      record {
        taken-small = omega (arith, taken_is, taken-few (wider_heard g i).verdicts i.batch heard (exact-in w i (tick-in-passes w i e)) byte);
        sent-small = omega (arith, sent_is, sent-few i.send (encode (frame_of (own_limits g).epsilon i.own (wider_new_stamp g i) i.payload)) (omega (arith, long, a.payload-short, lim.epsilon-most)));
        delivered-small = omega (arith, delivered-is, few, depth_small (own_limits g) lim);
        c-small = omega (arith, c-is, left.sound.close, lim.epsilon-most);
      },
      omega (arith, r-is, new-clock-along g (tick-along-good w i a) i, a.clock-below, a.both.widens.old.modulus-most),
    )

-- ---- an observer's

exact-listen-in : (w : Wider) (i : Listening) → first_no (listen_in_questions w i) ≡ 0 → exact_batch i.batch ≡ true
unfolding listen_in_questions ask_wider
exact-listen-in w i e =
    let size = widest_of (along i.setup w i.clock) in
    let e₁ = other-yes (both_in_limits i.setup w) 0 _ e in
    let e₂ = other-yes (leb i.setup.epsilon w.epsilon && leb i.setup.delta w.delta) 18 _ e₁ in
    let e₃ = other-yes (ltb i.clock size.modulus) 1 _ e₂ in
    let e₄ = other-yes (eqb (length i.holdback) (holdback_size size)) 2 _ e₃ in
    first-yes (exact_batch i.batch) 4 _ e₄

pub refused-listen-in : (w : Wider) (i : Listening) → ((listen_in w i).number ≡ 0 → ⊥) → listen_in w i ≡ not_listened i (listen_in w i).number
unfolding not_listened wider_listened
refused-listen-in w i h = go (first_no (listen_in_questions w i)) refl
  where
    go : (k : ℕ) → first_no (listen_in_questions w i) ≡ k → listen_in w i ≡ not_listened i (listen_in w i).number
    go zero q = absurd (h (ap (λ (o : Listened). o.number) (listen-in-by w i 0 q)))
    go (suc k) q = listen-in-by w i (suc k) q ∙ ap (not_listened i) (sym (ap (λ (o : Listened). o.number) (listen-in-by w i (suc k) q)))

pub listened-small-in : (w : Wider) (i : Listening) (o : Listened) → o ≡ listen_in w i → o.number ≡ 0 → get_or i.batch 0 0 < 256 → SmallListened o
unfolding wider_listened wider_observer_heard wider_observer_opened wider_observer_delivered
listened-small-in w i o same zero_number byte =
    let e : (listen_in w i).number ≡ 0 = sym (ap (λ (x : Listened). x.number) same) ∙ zero_number in
    let a : HeededIn w i = heeded-in w i e in
    let g : Schedule = along i.setup w i.clock in
    let lim : Limits (own_limits g) = limits-good g (listen-along-good w i a) (modulus_of g) in
    let is : o ≡ wider_listened g i = same ∙ a.accepted in
    let taken_is : o.taken ≡ taken_count (wider_observer_heard g i).verdicts = ap (λ (x : Listened). x.taken) is in
    let delivered-is : o.delivered ≡ length (wider_observer_delivered g i) = ap (λ (x : Listened). x.delivered) is in
    let last-is : o.last ≡ i.clock = ap (λ (x : Listened). x.last) is in
    let heard = length-along g i.clock (wider_observer_least g i) (wider_observer_questions g i.clock) i.holdback (batch_entries i.batch) in
    let few = few-delivered g i.clock (wider_observer_least g i) (wider_observer_questions g i.clock) i.holdback (batch_entries i.batch) (listen-receiving-along w i a) in
    record {
      taken-small = omega (arith, taken_is, taken-few (wider_observer_heard g i).verdicts i.batch heard (exact-listen-in w i (listen-in-passes w i e)) byte);
      delivered-small = omega (arith, delivered-is, few, depth_small (own_limits g) lim);
      last-small = omega (arith, last-is, a.clock-below, a.both.widens.old.modulus-most);
    }

-- ---- the poll's, and the comparison's

-- a call that asks 1 and 19 first, and has passed them
asked-both : (s : Setup) (w : Wider) (own : ℕ) (rest : List Question) → first_no (ask_both s w own ∷ ask_wider s w ∷ rest) ≡ 0 → BothPairs s w
unfolding ask_both ask_wider
asked-both s w own rest e =
    both-from s w (and_left _ _ (first-yes (both_in_limits s w && is_member s own) 0 _ e))
    (first-yes (leb s.epsilon w.epsilon && leb s.delta w.delta) 18 _ (other-yes (both_in_limits s w && is_member s own) 0 _ e))

poll-both : (s : Setup) (w : Wider) (own v : ℕ) (holdback : List ℕ) → first_no (poll_in_questions s w own v holdback) ≡ 0 → BothPairs s w
unfolding poll_in_questions
poll-both s w own v holdback e = asked-both s w own (holdback_questions (widest_of (along s w v)) v holdback) e

compare-both : (s : Setup) (w : Wider) (own v : ℕ) (first second : List ℕ) → first_no (compare_in_questions s w own v first second) ≡ 0 → BothPairs s w
unfolding compare_in_questions
compare-both s w own v first second e =
    asked-both s w own (ask (ltb v s.modulus) 2 ∷ (wider_frame_questions (along s w v) first ++ wider_frame_questions (along s w v) second)) e

own-limits : (s : Setup) (w : Wider) (v : ℕ) → BothPairs s w → Limits (own_limits (along s w v))
own-limits s w v both = limits-good (along s w v) (along-good s w v both) (modulus_of (along s w v))

-- a clock modulo B has two bytes
clock-small : (s : Setup) (v x : ℕ) → Limits s → reading_clock s v x < 65536
unfolding reading_clock
clock-small s v x lim =
    let some-clock : 0 < s.modulus = omega (arith, lim.modulus-least) in
    omega (arith, mod-lt (v + x) some-clock, lim.modulus-most)

polled-few : (s : Setup) (w : Wider) (v : ℕ) (holdback : List ℕ) → BothPairs s w → length (wider_polled_queue (along s w v) v holdback) < 65536
unfolding wider_polled_queue wider_opening_queue wider_sound_holdback
polled-few s w v holdback both = go (wider_sound_holdback g v (modulus_of g + 1) holdback) refl
  where
    g : Schedule
    g = along s w v

    go : (b : Bool) → wider_sound_holdback g v (modulus_of g + 1) holdback ≡ b → length (cond b (wider_held g holdback) []) < 65536
    go true sound =
        let few : two_at holdback 0 ≤ depth_of (own_limits g) = leb-true (two_at holdback 0) (depth_of (own_limits g)) (and_left (leb (two_at holdback 0) (depth_of (own_limits g))) _ sound) in
        omega (arith, few, length-wide-held g holdback, depth_small (own_limits g) (own-limits s w v both))
    go false sound = omega arith

pub poll-small-in : (s : Setup) (w : Wider) (own v d : ℕ) (holdback : List ℕ) → SmallNext (poll_in s w own v d holdback).next × ((poll_in s w own v d holdback).within < 65536)
unfolding poll_in
poll-small-in s w own v d holdback = go (first_no (poll_in_questions s w own v holdback)) refl
  where
    g : Schedule
    g = along s w v

    next_small : BothPairs s w → (o : Option ℕ) → SmallNext (map (reading_clock (own_limits g) v) o)
    next_small both none = tt
    next_small both (some x) = clock-small (own_limits g) v x (own-limits s w v both)

    go : (k : ℕ) → first_no (poll_in_questions s w own v holdback) ≡ k
        → SmallNext (wider_poll_by k g v d (wider_polled_queue g v holdback)).next × ((wider_poll_by k g v d (wider_polled_queue g v holdback)).within < 65536)
    go zero e =
        let both : BothPairs s w = poll-both s w own v holdback e in (
          unfold wider_next_due in (next_small both (wider_soonest_due g v (wider_polled_queue g v holdback))),
          unfold wider_number_within in (omega (arith, polled-few s w v holdback both, select-length-le (wider_due_within g v d) (wider_polled_queue g v holdback))),
        )
    go (suc k) e = (tt, omega arith)

pub compared-small-in : (s : Setup) (w : Wider) (own v : ℕ) (first second : List ℕ) → (compare_in s w own v first second).clock < 65536
unfolding compare_in wider_compared
compared-small-in s w own v first second = go (first_no (compare_in_questions s w own v first second)) refl
  where
    g : Schedule
    g = along s w v

    a : Frame
    a = wider_decode g first

    total : ℕ
    total = sum (wider_reading g v a) a.stamp.c

    clock : BothPairs s w → (r : Reason) → reason_clock (clocked (count_clock (own_limits g) v total) r) < 65536
    clock both by_sum = omega arith
    clock both (by_count k) = unfold count_clock in (clock-small (own_limits g) v (total - k) (own-limits s w v both))
    clock both by_station = omega arith
    clock both by_r = omega arith
    clock both by_nothing = omega arith

    go : (k : ℕ) → first_no (compare_in_questions s w own v first second) ≡ k → (compare_by k (wider_compared g v a (wider_decode g second))).clock < 65536
    go zero e = clock (compare-both s w own v first second e) (compare_keys (compared_along g total) (wider_key_near g v a) (wider_key_near g v (wider_decode g second))).reason
    go (suc k) e = omega arith

-- ---- fresh tables

pub fresh-both : (s : Setup) (w : Wider) (own clock : ℕ) (s' : Setup) (w' : Wider) → s' ≡ s → w' ≡ w → first_no (fresh_in_questions s w own clock) ≡ 0 → BothPairs s' w'
unfolding fresh_in_questions
fresh-both s w own clock s' w' es ew e =
    subst (λ (x : Wider). BothPairs s' x) (sym ew) (subst (λ (x : Setup). BothPairs x w) (sym es) (asked-both s w own (ask (ltb clock s.modulus) 2 ∷ []) e))

pub fresh-clock : (s : Setup) (w : Wider) (own clock : ℕ) → first_no (fresh_in_questions s w own clock) ≡ 0 → clock < 65536
unfolding fresh_in_questions ask_both ask_wider
fresh-clock s w own clock e =
    let both : BothPairs s w = fresh-both s w own clock s w refl refl e in
    let rest = other-yes (leb s.epsilon w.epsilon && leb s.delta w.delta) 18 _ (other-yes (both_in_limits s w && is_member s own) 0 _ e) in
    omega (arith, ltb-true clock s.modulus (first-yes (ltb clock s.modulus) 1 _ rest), both.widens.old.modulus-most)

-- ---- the reader's

no-questions : first_no [] ≡ 0
unfolding first_no
no-questions = refl

-- its bit 48
pub bit-most : (wide : Bool) → cond wide 281474976710656 0 ≤ 281474976710656
bit-most true = omega arith
bit-most false = omega arith

module _ (s : Setup) (w : Wider) (own : ℕ) (bytes : List ℕ) where
  abbrev found : ReadInAnswer
  found = read_in s w own bytes

  -- by the number of the first no
  read-in-by : found ≡ read_in_by (first_no (read_in_questions s w own bytes)) (is_wide s (pairs_of s w) (wider_decode (pairs_of s w) bytes)) (wider_decode (pairs_of s w) bytes)
  unfolding read_in
  read-in-by = refl

  in-number : (k : ℕ) (wide : Bool) (f : Frame) → (read_in_by k wide f).number ≡ k
  in-number zero wide f = refl
  in-number (suc k) wide f = refl

  in-contents : (k : ℕ) (wide : Bool) (f : Frame) → contents_of (read_in_by k wide f) ≡ read_by k f
  in-contents zero wide f = refl
  in-contents (suc k) wide f = refl

  in-narrow : (k : ℕ) (wide : Bool) (f : Frame) → (k ≡ 0 → ⊥) → (read_in_by k wide f).wide ≡ false
  in-narrow zero wide f h = absurd (h refl)
  in-narrow (suc k) wide f h = refl

  -- a refused one
  pub refused-read-in : (tables : List ℕ) → (found.number ≡ 0 → ⊥) → (found.number ≡ packed_read_in s w found) × (tables ≡ read_tables_in found tables)
  unfolding packed_read_in read_tables_in read_tables
  refused-read-in tables h =
      let g : Schedule = pairs_of s w in
      let f : Frame = wider_decode g bytes in
      let k : ℕ = first_no (read_in_questions s w own bytes) in
      let is : contents_of found ≡ read_by k f = ap contents_of read-in-by ∙ in-contents k (is_wide s g f) f in
      let narrow : found.wide ≡ false = ap (λ (a : ReadInAnswer). a.wide) read-in-by ∙ in-narrow k (is_wide s g f) f (λ z. h (ap (λ (a : ReadInAnswer). a.number) read-in-by ∙ (in-number k (is_wide s g f) f ∙ z))) in
      let plain = refused-reading (payload_count_at (half_read s w found) + 1) tables_bytes (contents_of found) k f tables is h in
      (plain.0 ∙ (let more : packed_read_with (payload_count_at (half_read s w found) + 1) (contents_of found) ≡ packed_read_with (payload_count_at (half_read s w found) + 1) (contents_of found) + cond found.wide 281474976710656 0 = rw narrow (omega arith) in more), plain.1)

  -- an accepted one
  module _ (zero_number : found.number ≡ 0) where
    asked : 0 ≡ first_no (ask_both s w own ∷ ask_wider s w ∷ [])
    unfolding read_in_questions ask_both ask_wider
    asked =
        let all : first_no (read_in_questions s w own bytes) ≡ 0 = sym (in-number (first_no (read_in_questions s w own bytes)) (is_wide s (pairs_of s w) (wider_decode (pairs_of s w) bytes)) (wider_decode (pairs_of s w) bytes)) ∙ (sym (ap (λ (a : ReadInAnswer). a.number) read-in-by) ∙ zero_number) in
        let first = first-yes (both_in_limits s w && is_member s own) 0 _ all in
        let second = first-yes (leb s.epsilon w.epsilon && leb s.delta w.delta) 18 _ (other-yes (both_in_limits s w && is_member s own) 0 _ all) in
        sym (yes-cons (both_in_limits s w && is_member s own) 1 (ask_wider s w ∷ []) first ∙ (yes-cons (leb s.epsilon w.epsilon && leb s.delta w.delta) 19 [] second ∙ no-questions))

    abbrev side : Setup
    side = pair_of (pairs_of s w) (get_or bytes 4 0 - 1)

    -- the plain reader of its side accepts it
    side-accepts : (read side own bytes).number ≡ 0
    side-accepts =
        elim (eq-or-ne (read side own bytes).number 0) [
          | inl z ↦ z
          | inr h ↦ sym (ap (λ (a : ReadInAnswer). a.number) (read-in-side s w own bytes asked side refl false (λ z. absurd (h z)) (λ _. refl))) ∙ zero_number
        ]

    found-is : found ≡ with_width (ltb s.epsilon side.epsilon) (read side own bytes)
    found-is = read-in-side s w own bytes asked side refl (ltb s.epsilon side.epsilon) (λ _. refl) (λ h. absurd (h side-accepts))

    half_is : half_read s w found ≡ side.epsilon
    half_is = ap (half_read s w) found-is ∙ go (eqb (get_or bytes 4 0 - 1) (width w.epsilon)) refl
      where
        grows : s.epsilon ≤ w.epsilon
        grows = (asked-both s w own [] (sym asked)).widens.epsilon

        go : (b : Bool) → eqb (get_or bytes 4 0 - 1) (width w.epsilon) ≡ b
            → cond (ltb s.epsilon (cond b (wider_setup s w) s).epsilon) w.epsilon s.epsilon ≡ (cond b (wider_setup s w) s).epsilon
        go true e =
            elim (lt-or-ge s.epsilon w.epsilon) [
              | inl h ↦ rw (lt-ltb s.epsilon w.epsilon h)
              | inr h ↦ rw (le-ltb s.epsilon w.epsilon h) (omega (arith, grows))
            ]
        go false e = rw (le-ltb s.epsilon s.epsilon (omega arith))

    pub fair-in : Fair (payload_count_at (half_read s w found) + 1) bytes (contents_of found) × (found.stamp.r < 65536)
    fair-in =
        let plain = fair side own bytes side-accepts in
        let same : contents_of found ≡ read side own bytes = ap contents_of found-is in (
          subst (λ (half : ℕ). Fair (payload_count_at half + 1) bytes (contents_of found)) (sym half_is) (subst (Fair (payload_count_at side.epsilon + 1) bytes) (sym same) plain.0),
          omega (arith, plain.1, ap (λ (a : ReadAnswer). a.stamp.r) same),
        )

-- ---- the writer's

pub write-in-small : (s : Setup) (w : Wider) (own station : ℕ) (wide : Bool) (t : Timestamp) (payload buffer : List ℕ) → (write_in s w own station wide t payload buffer).size < 65536
write-in-small s w own station wide t payload buffer =
    elim (eq-or-ne (first_no (ask_both s w own ∷ ask_wider s w ∷ [])) 0) [
      | inl z ↦ omega (arith, ap (λ (a : WriteAnswer). a.size) (write-in-side s w own (sym z) station wide t payload buffer), write-small (cond wide (wider_setup s w) s) own station t payload buffer)
      | inr h ↦ omega (arith, ap (λ (a : WriteAnswer). a.size) (write-in-refused s w own station wide t payload buffer (first_no (ask_both s w own ∷ ask_wider s w ∷ [])) refl h))
    ]
