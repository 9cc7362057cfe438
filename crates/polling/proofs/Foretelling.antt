-- The poll is about all that a call has left, and foretells the next one: one proof for a station's ticks and for an observer's calls.
-- Assumes nothing.
use Prim.Native.Nat.{ℕ, ◌+◌, ◌-◌, ◌%◌, ◌≤◌, ◌<◌}
use native.Mathlib.Omega.{arith}
use native.Mathlib.Nat.{mod-eq_of_lt, add-zero}
use mathlib.Core.Path.{◌≡◌, refl, sym, ap, subst, ◌∙◌}
use mathlib.Core.Bool.{true, ◌||◌, not}
use mathlib.Core.Logic.{◌⊎◌, inl, inr}
use mathlib.Core.List.{List, Memᴰ}
use lib.Dec.{leb, ltb, eqb}
use lib.ListN.{length}
use borrow.Author.Tests.{le-leb, lt-leb, lt-ltb, le-ltb, eq-eqb, ne_eqb}
use Rattle.laws.specs.Lists.{select}
use Rattle.laws.proofs.Numbers.{lt-or-ge}
use Rattle.laws.proofs.Lists.{select-either}
use Rattle.model.specs.Setup.{Setup}
use Rattle.model.specs.Timestamp.{Timestamp, sum}
use Rattle.model.specs.Frame.{Frame}
use Rattle.model.specs.Order.{reading_of, due, due_near}
use Rattle.model.specs.Batch.{batch_entries}
use Rattle.model.specs.Holdback.{held, sound_holdback, encode_holdback}
use Rattle.model.specs.Judge.{Asking, judge_questions, observer_questions}
use Rattle.model.specs.Tick.{Input, Output, holdback_size, least_due, opening_queue, opened_queue, overdue_of, heard_of, delivered_of, kept_of, taken_count, due_before, due_now, acceptance, tick}
use Rattle.model.specs.Observer.{Listening, Listened, last_sound, observer_least, observer_opened, observer_heard, observer_delivered, observer_kept, listened, listen}
use Rattle.model.specs.Poll.{PollAnswer, due_within, number_within, poll_by, poll}
use Rattle.lemmas.proofs.Receiving.{Receiving, receive_opened, receive_heard, receive_delivered, receive_kept, receive-kept, receive-held, receive-size, receive-sound}
use Rattle.lemmas.proofs.OneTick.{accepted-call, tick-receiving, holdback-is}
use Rattle.lemmas.proofs.OneListening.{listen-accepted, listen-receiving, listen-holdback}
use Rattle.lemmas.proofs.NextCall.{least-next, last-least, receive-next, receive-quiet}
use Rattle.lemmas.proofs.Queue.{QueueLeft, left-moved}
use Rattle.lemmas.proofs.Questions.{setup-to}
use Rattle.polling.specs.Statements.{NodeCall, tick_call, listen_call, Told, PollsWhatIsLeft, PollsWhatObserversLeave, Follows, PollForetells, PollForetellsObservers}
use Rattle.polling.proofs.Asking.{poll-accepted, questions-passed, polled-sound}

-- an accepted call, by the least due clock that it allowed: what it asked, and what it heard; and that it left and answered what comes of these
record Attended (A : Type 0) (c : NodeCall A) (least : ℕ) : Type 0 where
  asking : Asking
  entries : List (List ℕ)
  receiving : Receiving c.setup c.clock least asking
  kept-is : c.kept ≡ receive_kept c.setup c.clock least asking c.holdback entries
  left_is : c.holdback_left ≡ encode_holdback (holdback_size c.setup) (receive_kept c.setup c.clock least asking c.holdback entries)
  taken_is : c.taken ≡ taken_count (receive_heard c.setup c.clock least asking c.holdback entries).verdicts
  delivered-is : c.delivered ≡ length (receive_delivered c.setup c.clock least asking c.holdback entries)

-- k clocks later a frame is due before or at that clock exactly if it was due within k ticks
module _ (s : Setup) (v v' k : ℕ) (f : Frame) (moved : reading_of s v' f + k ≡ reading_of s v f) where
  due-moved : due_near s v' f + k ≡ due_near s v f
  unfolding due_near due sum
  due-moved = omega (arith, moved)

  pub due-then : due_within s v k f ≡ (due_before s v' f || due_now s v' f)
  unfolding due_within due_before due_now
  due-then = go (lt-or-ge (due_near s v' f) s.modulus) (lt-or-ge s.modulus (due_near s v' f))
    where
      go :
          (due_near s v' f < s.modulus) ⊎ (s.modulus ≤ due_near s v' f) → (s.modulus < due_near s v' f) ⊎ (due_near s v' f ≤ s.modulus)
          → leb (due_near s v f) (s.modulus + k) ≡ (ltb (due_near s v' f) s.modulus || eqb (due_near s v' f) s.modulus)
      go (inl l) m =
          rw (lt-ltb (due_near s v' f) s.modulus l, le-leb (due_near s v f) (s.modulus + k) (omega (arith, due-moved))) refl
      go (inr l) (inl m) =
          rw (le-ltb (due_near s v' f) s.modulus l, ne_eqb (due_near s v' f) s.modulus (λ e. omega arith), lt-leb (due_near s v f) (s.modulus + k) (omega (arith, due-moved))) refl
      go (inr l) (inr m) =
          let same : due_near s v' f ≡ s.modulus = omega arith in
          rw (le-ltb (due_near s v' f) s.modulus l, eq-eqb (due_near s v' f) s.modulus same, le-leb (due_near s v f) (s.modulus + k) (omega (arith, due-moved))) refl

-- what a call counts as due by its clock, of what the call before it left
abbrev due_by : Setup → ℕ → List Frame → ℕ
due_by s v queue = length (select (due_before s v) queue) + length (select (due_now s v) (select (λ f. not (due_before s v f)) queue))

module _ (A : Type 0) (c : NodeCall A) (least : ℕ) (a : Attended A c least) where
  abbrev s : Setup
  s = c.setup

  abbrev frames : List Frame
  frames = receive_kept s c.clock least a.asking c.holdback a.entries

  same-clock : (c.clock + 0) % s.modulus ≡ c.clock
  same-clock = ap (λ (v : ℕ). v % s.modulus) (add-zero c.clock) ∙ mod-eq_of_lt a.receiving.below

  whole : s.modulus + 1 - 0 ≡ s.modulus + 1
  whole = omega arith

  left-sound : sound_holdback s c.clock (s.modulus + 1) c.holdback_left ≡ true
  left-sound =
      ap (sound_holdback s c.clock (s.modulus + 1)) a.left_is
      ∙ subst (λ (v : ℕ). sound_holdback s v (s.modulus + 1) (encode_holdback (holdback_size s) frames) ≡ true) same-clock
      (subst (λ (lowest : ℕ). sound_holdback s ((c.clock + 0) % s.modulus) lowest (encode_holdback (holdback_size s) frames) ≡ true) whole
      (receive-sound s c.clock least a.asking c.holdback a.entries a.receiving 0 (omega arith)))

  left-size : length c.holdback_left ≡ holdback_size s
  left-size = ap length a.left_is ∙ receive-size s c.clock least a.asking c.holdback a.entries a.receiving

  left-told : (own d : ℕ) → own < s.n → poll s own c.clock d c.holdback_left ≡ poll_by 0 s c.clock d c.kept
  left-told own d below =
      sym (poll-accepted s own c.clock c.holdback_left d (questions-passed s own c.clock c.holdback_left (setup-to s own a.receiving.limits below) a.receiving.below left-size))
      ∙ ap (poll_by 0 s c.clock d)
      (polled-sound s c.clock c.holdback_left left-sound
      ∙ (ap (held s.epsilon) a.left_is ∙ receive-held s c.clock least a.asking c.holdback a.entries a.receiving ∙ sym a.kept-is))

  told : (own d : ℕ) → own < s.n → Told A c own d
  told own d below = record { sound = left-sound; answer = left-told own d below }

  -- k clocks later
  module _ (k : ℕ) (few : k ≤ s.epsilon) where
    abbrev later : ℕ
    later = (c.clock + k) % s.modulus

    moved : (f : Frame) → Memᴰ f frames → reading_of s later f + k ≡ reading_of s c.clock f
    moved f m =
        left-moved s c.clock 0 k frames a.receiving.limits (omega (arith, few))
        (subst (λ (v : ℕ). QueueLeft s v 0 frames) (sym (mod-eq_of_lt a.receiving.below)) (receive-kept s c.clock least a.asking c.holdback a.entries a.receiving)) f m
        ∙ ap (λ (v : ℕ). reading_of s v f) (mod-eq_of_lt a.receiving.below)

    -- as many are due before or at the later clock as within k ticks
    due-by-then : due_by s later frames ≡ number_within s c.clock k frames
    unfolding number_within
    due-by-then =
        select-either (due_before s later) (due_now s later) (due_within s c.clock k) frames
        (λ f m. due-then s c.clock later k f (moved f m))

    -- the next call opens these frames
    left-opened : opening_queue s later (s.modulus + 1 - k) c.holdback_left ≡ frames
    left-opened =
        ap (opening_queue s later (s.modulus + 1 - k)) a.left_is
        ∙ receive-next s c.clock least a.asking c.holdback a.entries a.receiving k few

-- so the call that follows, where its least due clock is the one after this clock
module _ (A : Type 0) (i j : NodeCall A) (k least next : ℕ) (a : Attended A i least) (b : Attended A j next) (f : Follows A i j k) (few : k ≤ i.setup.epsilon) (next-is : next ≡ i.setup.modulus + 1 - k) where
  opened-then : receive_opened j.setup j.clock next b.asking j.holdback b.entries ≡ frames A i least a
  opened-then = rw (f.setup, f.clock, f.holdback, next-is) (left-opened A i least a k few)

  number-then : due_by j.setup j.clock (receive_opened j.setup j.clock next b.asking j.holdback b.entries) ≡ number_within i.setup i.clock k i.kept
  number-then =
      ap (due_by j.setup j.clock) opened-then
      ∙ (ap (λ (s : Setup). due_by s j.clock (frames A i least a)) f.setup
      ∙ (ap (λ (v : ℕ). due_by i.setup v (frames A i least a)) f.clock
      ∙ (due-by-then A i least a k few ∙ ap (number_within i.setup i.clock k) (sym a.kept-is))))

  foretold : (own : ℕ) → own < i.setup.n → j.taken ≡ 0 → j.delivered ≡ (poll i.setup own i.clock k i.holdback_left).within
  foretold own below quiet =
      b.delivered-is
      ∙ (receive-quiet j.setup j.clock next b.asking j.holdback b.entries (sym b.taken_is ∙ quiet)
      ∙ (number-then ∙ sym (ap (λ (p : PollAnswer). p.within) (left-told A i least a own k below))))

-- a station's tick
tick-attended : (i : Input) → (tick i).answer.number ≡ 0 → Attended Timestamp (tick_call i) (least_due i.setup i.clock i.tables)
unfolding kept_of heard_of opened_queue acceptance delivered_of overdue_of
tick-attended i e =
    let a = accepted-call i e in
    record {
      asking = judge_questions i.setup i.clock;
      entries = batch_entries i.batch;
      receiving = tick-receiving i a;
      kept-is = refl;
      left_is = holdback-is i a;
      taken_is = ap (λ (o : Output). o.answer.taken) a.accepted;
      delivered-is = ap (λ (o : Output). o.answer.delivered) a.accepted;
    }

pub polls-what-is-left : PollsWhatIsLeft
polls-what-is-left i d e = told Timestamp (tick_call i) (least_due i.setup i.clock i.tables) (tick-attended i e) i.own d (accepted-call i e).own_below

tick-follows : (i j : Input) (k : ℕ) → (tick i).answer.number ≡ 0 → Follows Timestamp (tick_call i) (tick_call j) k → 1 ≤ k → k ≤ i.setup.epsilon → least_due j.setup j.clock j.tables ≡ i.setup.modulus + 1 - k
tick-follows i j k e f pos few = rw (f.setup, f.clock, f.given) (least-next i k (accepted-call i e) pos few)

pub poll-foretells : PollForetells
poll-foretells i j k e e' f pos few =
    foretold Timestamp (tick_call i) (tick_call j) k (least_due i.setup i.clock i.tables) (least_due j.setup j.clock j.tables) (tick-attended i e) (tick-attended j e') f few (tick-follows i j k e f pos few) i.own (accepted-call i e).own_below

-- an observer's call
listen-attended : (i : Listening) → (listen i).number ≡ 0 → Attended ℕ (listen_call i) (observer_least i)
unfolding observer_kept observer_heard observer_opened observer_delivered listened
listen-attended i e =
    let a = listen-accepted i e in
    record {
      asking = observer_questions i.setup i.clock;
      entries = batch_entries i.batch;
      receiving = listen-receiving i a;
      kept-is = refl;
      left_is = listen-holdback i a;
      taken_is = ap (λ (o : Listened). o.taken) a.accepted;
      delivered-is = ap (λ (o : Listened). o.delivered) a.accepted;
    }

pub polls-what-observers-leave : PollsWhatObserversLeave
polls-what-observers-leave i own d below e = told ℕ (listen_call i) (observer_least i) (listen-attended i e) own d below

listen-follows : (i j : Listening) (k : ℕ) → (listen i).number ≡ 0 → Follows ℕ (listen_call i) (listen_call j) k → 1 ≤ k → k ≤ i.setup.epsilon → observer_least j ≡ i.setup.modulus + 1 - k
unfolding observer_least last_sound
listen-follows i j k e f pos few = rw (f.setup, f.clock, f.given) (last-least i k (listen-accepted i e) pos few)

pub poll-foretells-observers : PollForetellsObservers
poll-foretells-observers i j own k below e e' f pos few =
    foretold ℕ (listen_call i) (listen_call j) k (observer_least i) (observer_least j) (listen-attended i e) (listen-attended j e') f few (listen-follows i j k e f pos few) own below
