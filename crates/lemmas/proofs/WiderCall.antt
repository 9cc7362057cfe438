-- 02, 2.10: an accepted call with both pairs, a tick or a listener's: what it has passed, and what its answer and buffers are.
-- Assumes nothing.
use Prim.Native.Nat.{ℕ, zero, suc, ◌+◌, ◌*◌, ◌≤◌, ◌<◌}
use native.Mathlib.Omega.{arith}
use mathlib.Core.Path.{◌≡◌, refl, sym, ap, ◌∙◌}
use mathlib.Core.Bool.{Bool, true, false, ◌&&◌, cond}
use lib.Dec.{leb, ltb, eqb}
use lib.ListN.{length}
use borrow.Author.Tests.{leb-true, ltb-true}
use Rattle.laws.specs.Lists.{overlay}
use Rattle.laws.proofs.Numbers.{and_left, and_right}
use Rattle.model.specs.Setup.{Setup, width, longest_frame, in_limits, is_member}
use Rattle.model.specs.Timestamp.{Timestamp, clock_step, sound_clock, widened}
use Rattle.model.specs.Batch.{exact_batch, batch_entries}
use Rattle.model.specs.Question.{first_no}
use Rattle.model.specs.Codec.{ask_payload}
use Rattle.model.specs.Holdback.{encode_holdback}
use Rattle.model.specs.Tick.{Input, Output, holdback_size, step_of, least_at, delivery_roomy}
use Rattle.model.specs.Observer.{Listening, Listened}
use Rattle.model.specs.Schedule.{Schedule, steady, widening, modulus_of, widest_of, Wider, wider_setup, both_in_limits, ask_both, ask_wider, change_near, same_pairs, along, own_limits, tables_half}
use Rattle.model.specs.Wider.{wider_held, wider_questions, wider_observer_questions, wider_step_of, wider_tables, wider_tables_sound, wider_least, wider_opened, wider_heard, wider_new_stamp, wider_kept_of, sized_questions, wider_call_questions, wider_acceptance, wider_tick_by, tick_in}
use Rattle.model.specs.WiderCalls.{listen_in_questions, wider_last_sound, wider_observer_least, wider_observer_opened, wider_observer_heard, wider_observer_kept, wider_listened, wider_listen_by, listen_in}
use Rattle.lemmas.proofs.Questions.{first-yes, other-yes, limits-from}
use Rattle.lemmas.proofs.Counts.{clock-steps, beside-clock}
use Rattle.lemmas.proofs.OneTick.{refusal-number}
use Rattle.lemmas.proofs.OneListening.{not-listened-number}
use Rattle.lemmas.proofs.Schedules.{Widens, Good, limits-good, limits-modulus}
use Rattle.lemmas.proofs.WiderQueue.{LeftAlong, judged-along, observed-along}
use Rattle.lemmas.proofs.WiderReceiving.{ReceivingAlong, queue-kept, kept-held, kept-size}

-- ---- the setup

-- a setup that has passed 1 and 19
pub record BothPairs (s : Setup) (w : Wider) : Type 0 where
  pub widens : Widens s (wider_setup s w)
  pub change-below : w.change < s.modulus
  pub marked-bit : w.marked ≤ 1

pub both-from : (s : Setup) (w : Wider) → both_in_limits s w ≡ true → (leb s.epsilon w.epsilon && leb s.delta w.delta) ≡ true → BothPairs s w
unfolding both_in_limits
both-from s w limits wide =
    let rest = and_right (in_limits s) _ limits in
    let last = and_right (in_limits (wider_setup s w)) _ rest in
    record {
      widens =
          record {
            n = refl;
            modulus = refl;
            epsilon = leb-true s.epsilon w.epsilon (and_left _ _ wide);
            delta = leb-true s.delta w.delta (and_right (leb s.epsilon w.epsilon) _ wide);
            old = limits-from s (and_left _ _ limits);
            new = limits-from (wider_setup s w) (and_left _ _ rest);
          };
      change-below = ltb-true w.change s.modulus (and_left _ _ last);
      marked-bit = leb-true w.marked 1 (and_right (ltb w.change s.modulus) _ last);
    }

-- its schedule is one of limits that are in 01's
pub along-good : (s : Setup) (w : Wider) (v : ℕ) → BothPairs s w → Good (along s w v)
unfolding along
along-good s w v both = go (same_pairs s w)
  where
    go : (b : Bool) → Good (cond b (steady s) (widening s (wider_setup s w) (change_near s.modulus v w)))
    go true = both.widens.old
    go false = both.widens

pub along-modulus : (s : Setup) (w : Wider) (v : ℕ) → modulus_of (along s w v) ≡ s.modulus
unfolding along
along-modulus s w v = go (same_pairs s w)
  where
    go : (b : Bool) → modulus_of (cond b (steady s) (widening s (wider_setup s w) (change_near s.modulus v w))) ≡ s.modulus
    go true = refl
    go false = refl

pub along-widest-modulus : (s : Setup) (w : Wider) (v : ℕ) → (widest_of (along s w v)).modulus ≡ s.modulus
unfolding along
along-widest-modulus s w v = go (same_pairs s w)
  where
    go : (b : Bool) → (widest_of (cond b (steady s) (widening s (wider_setup s w) (change_near s.modulus v w)))).modulus ≡ s.modulus
    go true = refl
    go false = refl

-- ---- a tick

pub tick-in-by : (w : Wider) (i : Input) (k : ℕ) → first_no (wider_call_questions w i) ≡ k → tick_in w i ≡ wider_tick_by k (along i.setup w i.clock) i
unfolding tick_in
tick-in-by w i k e = ap (λ (m : ℕ). wider_tick_by m (along i.setup w i.clock) i) e

-- no question gets a no
pub tick-in-passes : (w : Wider) (i : Input) → (tick_in w i).answer.number ≡ 0 → first_no (wider_call_questions w i) ≡ 0
tick-in-passes w i h = go (first_no (wider_call_questions w i)) refl
  where
    go : (k : ℕ) → first_no (wider_call_questions w i) ≡ k → k ≡ 0
    go zero e = refl
    go (suc k) e = sym (refusal-number i (suc k)) ∙ (sym (ap (λ (o : Output). o.answer.number) (tick-in-by w i (suc k) e)) ∙ h)

-- what an accepted call has passed
pub record AcceptedIn (w : Wider) (i : Input) : Type 0 where
  pub both : BothPairs i.setup w
  pub own_below : i.own < i.setup.n
  pub clock-below : i.clock < i.setup.modulus
  pub payload-short : length i.payload ≤ 32
  pub outgoing-room : 39 + 2 * (widest_of (along i.setup w i.clock)).epsilon ≤ length i.outgoing
  pub accepted : tick_in w i ≡ wider_acceptance (along i.setup w i.clock) i

pub passes-both : (w : Wider) (i : Input) → first_no (wider_call_questions w i) ≡ 0 → AcceptedIn w i
unfolding wider_call_questions sized_questions ask_both ask_wider ask_payload is_member longest_frame width
passes-both w i e =
    let s = i.setup in
    let size = widest_of (along i.setup w i.clock) in
    let asked = first-yes (both_in_limits s w && ltb i.own s.n) 0 _ e in
    let e₁ = other-yes (both_in_limits s w && ltb i.own s.n) 0 _ e in
    let wide = first-yes (leb s.epsilon w.epsilon && leb s.delta w.delta) 18 _ e₁ in
    let e₂ = other-yes (leb s.epsilon w.epsilon && leb s.delta w.delta) 18 _ e₁ in
    let below : i.clock < size.modulus = ltb-true i.clock size.modulus (first-yes (ltb i.clock size.modulus) 1 _ e₂) in
    let e₃ = other-yes (ltb i.clock size.modulus) 1 _ e₂ in
    let e₄ = other-yes (eqb (length i.holdback) (holdback_size size)) 2 _ e₃ in
    let e₅ = other-yes (leb (length i.payload) 32) 3 _ e₄ in
    let e₆ = other-yes (exact_batch i.batch) 4 _ e₅ in
    record {
      both = both-from s w (and_left _ _ asked) wide;
      own_below = ltb-true i.own s.n (and_right (both_in_limits s w) _ asked);
      clock-below = omega (arith, below, along-widest-modulus s w i.clock);
      payload-short = leb-true (length i.payload) 32 (first-yes (leb (length i.payload) 32) 3 _ e₄);
      outgoing-room =
          leb-true (39 + 2 * size.epsilon) (length i.outgoing)
          (and_left _ _ (first-yes (leb (39 + 2 * size.epsilon) (length i.outgoing) && delivery_roomy size i.verdicts i.delivery) 5 _ e₆));
      accepted = tick-in-by w i 0 e;
    }

pub accepted-in : (w : Wider) (i : Input) → (tick_in w i).answer.number ≡ 0 → AcceptedIn w i
accepted-in w i h = passes-both w i (tick-in-passes w i h)

-- the least due clock that a last clock at most ε before v allows lies less than ε before v
pub least-any : (B most k : ℕ) (sound : Bool) → 1 ≤ most → most ≤ B → (sound ≡ true → k ≤ most) → B + 1 ≤ least_at B sound k + most
least-any B most k true pos small few = omega (arith, few refl)
least-any B most k false pos small few = omega arith

pub own-small : (g : Schedule) → Good g → (own_limits g).epsilon ≤ modulus_of g
own-small g good =
    let limits = limits-good g good (modulus_of g) in
    omega (arith, limits.modulus-least, limits-modulus g good (modulus_of g))

pub least-near-along : (g : Schedule) → Good g → (v : ℕ) (tables : Timestamp) → modulus_of g + 1 ≤ wider_least g v tables + (own_limits g).epsilon
unfolding wider_least wider_tables_sound step_of
least-near-along g good v tables =
    least-any (modulus_of g) (own_limits g).epsilon (wider_step_of g v tables) (wider_tables_sound g v tables) (limits-good g good (modulus_of g)).epsilon-pos (own-small g good)
    (λ sound.
    let clock = sound_clock (own_limits g).epsilon (modulus_of g) v tables.r in
    let steps =
    clock-steps (own_limits g).epsilon (modulus_of g) v tables.r
    (beside-clock clock (own_limits g).n (tables_half g (wider_step_of g v tables)) (wider_tables g v tables) sound) in
    omega (arith, steps.1, ap (λ (B : ℕ). clock_step B tables.r v) (limits-modulus g good (modulus_of g))))

-- an accepted tick, by its schedule
module _ (w : Wider) (i : Input) (a : AcceptedIn w i) where
  abbrev pub tick_along : Schedule
  tick_along = along i.setup w i.clock

  pub tick-along-good : Good tick_along
  tick-along-good = along-good i.setup w i.clock a.both

  -- the half that goes on the queue
  pub tick-receiving-along : ReceivingAlong tick_along i.clock (wider_least tick_along i.clock i.tables) (wider_questions tick_along i.clock)
  tick-receiving-along =
      record {
        good = tick-along-good;
        below = omega (arith, a.clock-below, along-modulus i.setup w i.clock);
        near = least-near-along tick_along tick-along-good i.clock i.tables;
        places = λ queue bytes e. (judged-along tick_along tick-along-good i.clock queue bytes e).0;
      }

  -- the answer's tables and buffers
  pub tables-in : (tick_in w i).answer.tables ≡ widened (wider_new_stamp tick_along i)
  unfolding wider_acceptance
  tables-in = ap (λ (o : Output). o.answer.tables) a.accepted

  pub holdback-in : (tick_in w i).holdback ≡ encode_holdback (holdback_size (widest_of tick_along)) (wider_kept_of tick_along i)
  unfolding wider_acceptance
  holdback-in = ap (λ (o : Output). o.holdback) a.accepted

  pub verdicts-in : (tick_in w i).verdicts ≡ overlay (wider_heard tick_along i).verdicts i.verdicts
  unfolding wider_acceptance
  verdicts-in = ap (λ (o : Output). o.verdicts) a.accepted

  -- the frames of the shelf that it leaves, and its length
  pub kept_in_lem : LeftAlong tick_along i.clock (wider_kept_of tick_along i)
  unfolding wider_kept_of wider_heard wider_opened
  kept_in_lem = queue-kept tick_along i.clock (wider_least tick_along i.clock i.tables) (wider_questions tick_along i.clock) i.holdback (batch_entries i.batch) tick-receiving-along

  pub held_in : wider_held tick_along (tick_in w i).holdback ≡ wider_kept_of tick_along i
  unfolding wider_kept_of wider_heard wider_opened
  held_in =
      ap (wider_held tick_along) holdback-in
      ∙ kept-held tick_along i.clock (wider_least tick_along i.clock i.tables) (wider_questions tick_along i.clock) i.holdback (batch_entries i.batch) tick-receiving-along

  pub size_in : length (tick_in w i).holdback ≡ holdback_size (widest_of tick_along)
  unfolding wider_kept_of wider_heard wider_opened
  size_in =
      ap length holdback-in
      ∙ kept-size tick_along i.clock (wider_least tick_along i.clock i.tables) (wider_questions tick_along i.clock) i.holdback (batch_entries i.batch) tick-receiving-along

-- ---- a listener's call

pub listen-in-by : (w : Wider) (i : Listening) (k : ℕ) → first_no (listen_in_questions w i) ≡ k → listen_in w i ≡ wider_listen_by k (along i.setup w i.clock) i
unfolding listen_in
listen-in-by w i k e = ap (λ (m : ℕ). wider_listen_by m (along i.setup w i.clock) i) e

pub listen-in-passes : (w : Wider) (i : Listening) → (listen_in w i).number ≡ 0 → first_no (listen_in_questions w i) ≡ 0
listen-in-passes w i h = go (first_no (listen_in_questions w i)) refl
  where
    go : (k : ℕ) → first_no (listen_in_questions w i) ≡ k → k ≡ 0
    go zero e = refl
    go (suc k) e = sym (not-listened-number i (suc k)) ∙ (sym (ap (λ (o : Listened). o.number) (listen-in-by w i (suc k) e)) ∙ h)

pub record HeededIn (w : Wider) (i : Listening) : Type 0 where
  pub both : BothPairs i.setup w
  pub clock-below : i.clock < i.setup.modulus
  pub accepted : listen_in w i ≡ wider_listened (along i.setup w i.clock) i

pub heeds-both : (w : Wider) (i : Listening) → first_no (listen_in_questions w i) ≡ 0 → HeededIn w i
unfolding listen_in_questions ask_wider
heeds-both w i e =
    let s = i.setup in
    let size = widest_of (along i.setup w i.clock) in
    let e₁ = other-yes (both_in_limits s w) 0 _ e in
    let e₂ = other-yes (leb s.epsilon w.epsilon && leb s.delta w.delta) 18 _ e₁ in
    let below : i.clock < size.modulus = ltb-true i.clock size.modulus (first-yes (ltb i.clock size.modulus) 1 _ e₂) in
    record {
      both = both-from s w (first-yes (both_in_limits s w) 0 _ e) (first-yes (leb s.epsilon w.epsilon && leb s.delta w.delta) 18 _ e₁);
      clock-below = omega (arith, below, along-widest-modulus s w i.clock);
      accepted = listen-in-by w i 0 e;
    }

pub heeded-in : (w : Wider) (i : Listening) → (listen_in w i).number ≡ 0 → HeededIn w i
heeded-in w i h = heeds-both w i (listen-in-passes w i h)

module _ (w : Wider) (i : Listening) (a : HeededIn w i) where
  abbrev pub listen_along : Schedule
  listen_along = along i.setup w i.clock

  pub listen-along-good : Good listen_along
  listen-along-good = along-good i.setup w i.clock a.both

  listen-near : modulus_of listen_along + 1 ≤ wider_observer_least listen_along i + (own_limits listen_along).epsilon
  unfolding wider_observer_least wider_last_sound
  listen-near =
      least-any (modulus_of listen_along) (own_limits listen_along).epsilon (clock_step (modulus_of listen_along) i.last i.clock) (wider_last_sound listen_along i)
      (limits-good listen_along listen-along-good (modulus_of listen_along)).epsilon-pos (own-small listen_along listen-along-good)
      (λ sound. (clock-steps (own_limits listen_along).epsilon (modulus_of listen_along) i.clock i.last sound).1)

  pub listen-receiving-along : ReceivingAlong listen_along i.clock (wider_observer_least listen_along i) (wider_observer_questions listen_along i.clock)
  listen-receiving-along =
      record {
        good = listen-along-good;
        below = omega (arith, a.clock-below, along-modulus i.setup w i.clock);
        near = listen-near;
        places = λ queue bytes e. observed-along listen_along listen-along-good i.clock queue bytes e;
      }

  -- the last clock, the shelf and the verdicts that it leaves
  pub last-in : (listen_in w i).last ≡ i.clock
  unfolding wider_listened
  last-in = ap (λ (o : Listened). o.last) a.accepted

  pub listened-holdback-in : (listen_in w i).holdback ≡ encode_holdback (holdback_size (widest_of listen_along)) (wider_observer_kept listen_along i)
  unfolding wider_listened
  listened-holdback-in = ap (λ (o : Listened). o.holdback) a.accepted

  pub listened-verdicts-in : (listen_in w i).verdicts ≡ overlay (wider_observer_heard listen_along i).verdicts i.verdicts
  unfolding wider_listened
  listened-verdicts-in = ap (λ (o : Listened). o.verdicts) a.accepted

  pub listened-kept-in : LeftAlong listen_along i.clock (wider_observer_kept listen_along i)
  unfolding wider_observer_kept wider_observer_heard wider_observer_opened
  listened-kept-in =
      queue-kept listen_along i.clock (wider_observer_least listen_along i) (wider_observer_questions listen_along i.clock) i.holdback (batch_entries i.batch) listen-receiving-along

  pub listened-held-in : wider_held listen_along (listen_in w i).holdback ≡ wider_observer_kept listen_along i
  unfolding wider_observer_kept wider_observer_heard wider_observer_opened
  listened-held-in =
      ap (wider_held listen_along) listened-holdback-in
      ∙ kept-held listen_along i.clock (wider_observer_least listen_along i) (wider_observer_questions listen_along i.clock) i.holdback (batch_entries i.batch) listen-receiving-along

  pub listened-size-in : length (listen_in w i).holdback ≡ holdback_size (widest_of listen_along)
  unfolding wider_observer_kept wider_observer_heard wider_observer_opened
  listened-size-in =
      ap length listened-holdback-in
      ∙ kept-size listen_along i.clock (wider_observer_least listen_along i) (wider_observer_questions listen_along i.clock) i.holdback (batch_entries i.batch) listen-receiving-along
