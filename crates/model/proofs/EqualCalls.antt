-- 02, 2.10: calls with both pairs, where these are equal, are the plain ones: with V below B and a mark of 0 or 1, which are asked about.
-- Assumes nothing.
use Prim.Native.Nat.{ℕ, zero, suc, ◌-◌, ◌≤◌, ◌<◌}
use native.Mathlib.Omega.{arith}
use mathlib.Core.Path.{◌≡◌, refl, ap, ◌∙◌}
use mathlib.Core.Bool.{Bool, true, false, ◌&&◌, cond}
use mathlib.Core.List.{List, [], ◌∷◌, ◌++◌}
use lib.Dec.{leb, ltb, eqb}
use lib.ListN.{length, get_or}
use borrow.Author.Tests.{le-leb, le-ltb, lt-ltb, eq-eqb}
use Rattle.laws.proofs.Numbers.{and_intro}
use Rattle.model.specs.Setup.{Setup, width, in_limits}
use Rattle.model.specs.Timestamp.{Timestamp, sound_timestamp, fresh}
use Rattle.model.specs.Frame.{Frame, encode, decode, well_formed}
use Rattle.model.specs.Comparison.{compare_questions, compare_by, compare_call}
use Rattle.model.specs.Batch.{exact_batch}
use Rattle.model.specs.Question.{Question, ask, first_no, ask_setup, ask_form, ask_range, ask_stamp, frame_questions}
use Rattle.model.specs.Codec.{ask_payload, read_questions, ReadAnswer, read_by, read, frame_of, write_frame_questions, write_by, write_frame, write}
use Rattle.model.specs.Tick.{Input, delivery_roomy, holdback_questions, call_questions, roomy, tick_by, tick}
use Rattle.model.specs.Observer.{Listening, listen_questions, listen_by, listen}
use Rattle.model.specs.Poll.{poll_questions, poll_by, polled_queue, poll}
use Rattle.model.specs.Schedule.{Schedule, steady, widening, widest_of, Wider, wider_setup, both_in_limits, ask_both, ask_wider, same_pairs, along, own_limits, half_of}
use Rattle.model.specs.Wider.{wider_formed, wider_decode, sound_within, wider_frame_questions, sized_questions, wider_call_questions, wider_tick_by, tick_in}
use Rattle.model.specs.WiderCalls.{wider_listen_by, listen_in_questions, listen_in, wider_polled_queue, wider_poll_by, poll_in_questions, poll_in, wider_compared, compare_in_questions, compare_in, pairs_of, read_in_questions, ReadInAnswer, read_in_by, read_in, written_half, write_in_questions, write_in, fresh_in}
use Rattle.model.proofs.Steady.{decode-steady, questions-steady, compared-steady, polled-steady, next-steady, within-steady, tick-steady, listen-steady}

cond_same : {A : Type 0} (b : Bool) (x : A) → cond b x x ≡ x
cond_same true x = refl
cond_same false x = refl

-- pairs that are equal
pub record Equal (s : Setup) (w : Wider) : Type 0 where
  pub epsilon : w.epsilon ≡ s.epsilon
  pub delta : w.delta ≡ s.delta
  pub below : w.change < s.modulus
  pub mark : w.marked ≤ 1

module _ (s : Setup) (w : Wider) (equal : Equal s w) where
  setup-equal : wider_setup s w ≡ s
  setup-equal = λ j. record { n = s.n; epsilon = equal.epsilon j; delta = equal.delta j; modulus = s.modulus }

  pub along-equal : (v : ℕ) → along s w v ≡ steady s
  unfolding along same_pairs
  along-equal v = rw (eq-eqb w.epsilon s.epsilon equal.epsilon, eq-eqb w.delta s.delta equal.delta)

  both_equal : both_in_limits s w ≡ in_limits s
  unfolding both_in_limits
  both_equal = rw (setup-equal, lt-ltb w.change s.modulus equal.below, le-leb w.marked 1 equal.mark) (twice-and (in_limits s))
    where
      twice-and : (b : Bool) → (b && (b && true)) ≡ b
      twice-and true = refl
      twice-and false = refl

  wider-yes : (leb s.epsilon w.epsilon && leb s.delta w.delta) ≡ true
  wider-yes = and_intro (le-leb s.epsilon w.epsilon (omega (arith, equal.epsilon))) (le-leb s.delta w.delta (omega (arith, equal.delta)))

  -- 1 as with one pair, with the own number and without, and 19 gets a yes
  first-equal : (own : ℕ) (qs : List Question) → first_no (ask_both s w own ∷ ask_wider s w ∷ qs) ≡ first_no (ask_setup s own ∷ qs)
  unfolding first_no ask_both ask_wider ask_setup
  first-equal own qs = rw (both_equal, wider-yes)

  first-listen-equal : (qs : List Question) → first_no (ask (both_in_limits s w) 1 ∷ ask_wider s w ∷ qs) ≡ first_no (ask (in_limits s) 1 ∷ qs)
  unfolding first_no ask_wider
  first-listen-equal qs = rw (both_equal, wider-yes)

  poll-by : (k v d : ℕ) (holdback : List ℕ) → wider_poll_by k (steady s) v d (wider_polled_queue (steady s) v holdback) ≡ poll_by k s v d (polled_queue s v holdback)
  poll-by zero v d holdback = λ j.
      record { number = 0; next = next-steady s j v (polled-steady s j v holdback); within = within-steady s j v d (polled-steady s j v holdback) }
  poll-by (suc k) v d holdback = refl

  pub poll-equal : (own v d : ℕ) (holdback : List ℕ) → poll_in s w own v d holdback ≡ poll s own v d holdback
  unfolding poll_in poll poll_in_questions poll_questions
  poll-equal own v d holdback =
      (λ j.
      wider_poll_by (first_no (ask_both s w own ∷ ask_wider s w ∷ holdback_questions (widest_of (along-equal v j)) v holdback)) (along-equal v j) v d
      (wider_polled_queue (along-equal v j) v holdback))
      ∙ (ap (λ (k : ℕ). wider_poll_by k (steady s) v d (wider_polled_queue (steady s) v holdback)) (first-equal own (holdback_questions s v holdback))
      ∙ poll-by (first_no (ask_setup s own ∷ holdback_questions s v holdback)) v d holdback)

  pub compare-equal : (own v : ℕ) (first second : List ℕ) → compare_in s w own v first second ≡ compare_call s own v first second
  unfolding compare_in compare_call compare_in_questions compare_questions
  compare-equal own v first second =
      (λ j.
      compare_by (first_no (ask_both s w own ∷ ask_wider s w ∷ ask (ltb v s.modulus) 2 ∷ (wider_frame_questions (along-equal v j) first ++ wider_frame_questions (along-equal v j) second)))
      (wider_compared (along-equal v j) v (wider_decode (along-equal v j) first) (wider_decode (along-equal v j) second)))
      ∙ (ap (λ (k : ℕ). compare_by k (wider_compared (steady s) v (wider_decode (steady s) first) (wider_decode (steady s) second)))
      (first-equal own (ask (ltb v s.modulus) 2 ∷ (wider_frame_questions (steady s) first ++ wider_frame_questions (steady s) second)))
      ∙ (λ j.
      compare_by (first_no (ask_setup s own ∷ ask (ltb v s.modulus) 2 ∷ (questions-steady s j first ++ questions-steady s j second)))
      (compared-steady s j v (decode-steady s j first) (decode-steady s j second))))

  pub fresh-equal : (clock : ℕ) → fresh_in s w clock ≡ fresh s.epsilon clock
  unfolding fresh_in
  fresh-equal clock = λ j. fresh (own_limits (along-equal clock j)).epsilon clock

  -- reader and writer alone
  pairs-half : (count : ℕ) → half_of (pairs_of s w) count ≡ s.epsilon
  pairs-half count = (λ j. half_of (widening s (setup-equal j) w.change) count) ∙ cond_same (eqb count (width s.epsilon)) s.epsilon

  frame-equal : (bytes : List ℕ) → wider_decode (pairs_of s w) bytes ≡ decode s.epsilon bytes
  unfolding wider_decode
  frame-equal bytes = λ j. decode (pairs-half (get_or bytes 4 0 - 1) j) bytes

  read-questions-equal : (own : ℕ) (bytes : List ℕ) → first_no (read_in_questions s w own bytes) ≡ first_no (read_questions s own bytes)
  unfolding read_in_questions read_questions frame_questions ask_form ask_stamp wider_formed sound_within sound_timestamp
  read-questions-equal own bytes =
      first-equal own _
      ∙ (λ j.
      first_no (ask_setup s own ∷ ask (well_formed (pairs-half (get_or bytes 4 0 - 1) j) bytes) 10 ∷ ask_range s (frame-equal bytes j)
      ∷ ask (sound_within s.n (pairs-half (length (frame-equal bytes j).stamp.kn) j) (pairs-half (length (frame-equal bytes j).stamp.kn) j) (frame-equal bytes j).stamp) 12 ∷ []))

  -- the reader says beside it that the frame is not wide
  abbrev not_wide : ReadAnswer → ReadInAnswer
  not_wide a = record { number = a.number; wide = false; station = a.station; stamp = a.stamp; payload = a.payload }

  read-by : (k : ℕ) (f : Frame) → read_in_by k false f ≡ not_wide (read_by k f)
  read-by zero f = refl
  read-by (suc k) f = refl

  pub read-equal : (own : ℕ) (bytes : List ℕ) → read_in s w own bytes ≡ not_wide (read s own bytes)
  unfolding read_in read
  read-equal own bytes =
      (λ j. read_in_by (read-questions-equal own bytes j) (ltb s.epsilon (pairs-half (length (frame-equal bytes j).stamp.kn) j)) (frame-equal bytes j))
      ∙ (ap (λ (b : Bool). read_in_by (first_no (read_questions s own bytes)) b (decode s.epsilon bytes)) (le-ltb s.epsilon s.epsilon (omega arith))
      ∙ read-by (first_no (read_questions s own bytes)) (decode s.epsilon bytes))

  written-half : (wide : Bool) → written_half s w wide ≡ s.epsilon
  written-half true = equal.epsilon
  written-half false = refl

  pub write-equal :
      (own station : ℕ) (wide : Bool) (t : Timestamp) (payload buffer : List ℕ)
      → write_in s w own station wide t payload buffer ≡ write s own station t payload buffer
  unfolding write_in write_frame write_in_questions write_frame_questions ask_stamp sound_within sound_timestamp
  write-equal own station wide t payload buffer =
      (λ j.
      let half : ℕ = written-half wide j in
      let f : Frame = frame_of half station t payload in
      write_by (first_no (ask_both s w own ∷ ask_wider s w ∷ ask_payload f.payload ∷ ask_range s f ∷ ask (sound_within s.n half half f.stamp) 12
      ∷ ask (leb (length (encode f)) (length buffer)) 6 ∷ [])) f buffer)
      ∙ ap (λ (k : ℕ). write_by k (frame_of s.epsilon station t payload) buffer) (first-equal own _)

-- a tick
tick-by : (k : ℕ) (i : Input) → wider_tick_by k (steady i.setup) i ≡ tick_by k i
tick-by zero i = tick-steady i
tick-by (suc k) i = refl

pub tick-equal : (w : Wider) (i : Input) → Equal i.setup w → tick_in w i ≡ tick i
unfolding tick_in tick wider_call_questions call_questions sized_questions roomy
tick-equal w i equal =
    (λ j.
    wider_tick_by (first_no (ask_both i.setup w i.own ∷ ask_wider i.setup w ∷ sized_questions (widest_of (along-equal i.setup w equal i.clock j)) i))
    (along-equal i.setup w equal i.clock j) i)
    ∙ (ap (λ (k : ℕ). wider_tick_by k (steady i.setup) i) (first-equal i.setup w equal i.own (sized_questions i.setup i))
    ∙ tick-by (first_no (call_questions i)) i)

-- an observer's call
listen-by : (k : ℕ) (i : Listening) → wider_listen_by k (steady i.setup) i ≡ listen_by k i
listen-by zero i = listen-steady i
listen-by (suc k) i = refl

pub listen-equal : (w : Wider) (i : Listening) → Equal i.setup w → listen_in w i ≡ listen i
unfolding listen_in listen listen_in_questions listen_questions
listen-equal w i equal =
    (λ j.
    let g : Schedule = along-equal i.setup w equal i.clock j in
    wider_listen_by (first_no (ask (both_in_limits i.setup w) 1 ∷ ask_wider i.setup w
    ∷ (holdback_questions (widest_of g) i.clock i.holdback ++ (ask (exact_batch i.batch) 5 ∷ ask (delivery_roomy (widest_of g) i.verdicts i.delivery) 6 ∷ [])))) g i)
    ∙ (ap (λ (k : ℕ). wider_listen_by k (steady i.setup) i)
    (first-listen-equal i.setup w equal
    (holdback_questions i.setup i.clock i.holdback ++ (ask (exact_batch i.batch) 5 ∷ ask (delivery_roomy i.setup i.verdicts i.delivery) 6 ∷ [])))
    ∙ listen-by (first_no (listen_questions i)) i)
