-- 02, 2.10: from any state, of an accepted call with both pairs: verdict, mend, figures, hand-out, and bounds for every next clock.
-- Assumes nothing.
use Prim.Native.Nat.{ℕ, ◌+◌, ◌-◌, ◌%◌, ◌≤◌, ◌<◌}
use native.Mathlib.Omega.{arith}
use native.Mathlib.Nat.{mod-eq_of_lt}
use mathlib.Core.Path.{◌≡◌, refl, sym, ap, subst, ◌∙◌}
use mathlib.Core.Bool.{Bool, true, false, cond}
use mathlib.Core.List.{List}
use lib.Dec.{leb, eqb}
use lib.ListN.{length, take, get_or}
use Rattle.laws.specs.Lists.{overlay, padded}
use Rattle.laws.proofs.Lists.{take-overlay}
use Rattle.model.specs.Setup.{Setup}
use Rattle.model.specs.Timestamp.{Timestamp, clock_step, sound_clock, widened}
use Rattle.model.specs.Frame.{Frame}
use Rattle.model.specs.Batch.{batch_entries}
use Rattle.model.specs.Judge.{Asking}
use Rattle.model.specs.Tick.{Input, Output, holdback_size, taken_count}
use Rattle.model.specs.Observer.{Listening, Listened}
use Rattle.model.specs.Holdback.{encode_frames, encode_holdback}
use Rattle.model.specs.Schedule.{Schedule, steady, modulus_of, widest_of, Wider, is_marked, change_near, same_pairs, along, own_limits}
use Rattle.model.specs.Wider.{wider_held_bytes, wider_sound_holdback, wider_questions, wider_observer_questions, wider_tables_sound, wider_least, wider_opened, wider_heard, wider_new_stamp, wider_sent, wider_delivered_of, wider_kept_of, wider_holdback_sound, wider_repair, wider_acceptance, tick_in}
use Rattle.model.specs.WiderCalls.{wider_last_sound, wider_observer_least, wider_observer_repair, wider_observer_opened, wider_observer_heard, wider_observer_delivered, wider_observer_kept, wider_listened, listen_in}
use Rattle.lemmas.proofs.Reading.{step-true}
use Rattle.lemmas.proofs.Counts.{clock-sound}
use Rattle.lemmas.proofs.Schedules.{Good, Aligned, limits-aligned, limits-good, limits-modulus}
use Rattle.lemmas.proofs.WiderQueue.{LeftAlong}
use Rattle.lemmas.proofs.WiderReceiving.{ReceivingAlong, heard_along, verdict-along, front-along, heard-bound, heard-room, bytes-delivered}
use Rattle.lemmas.proofs.Carried.{moved-follows, holdback-moved}
use Rattle.lemmas.proofs.WiderTick.{new-left-along, new-clock-along, tables-carried, half-moved-on}
use Rattle.lemmas.proofs.WiderCall.{BothPairs, along-good, along-modulus, AcceptedIn, accepted-in, tick-receiving-along, tables-in, holdback-in, verdicts-in, kept_in_lem, HeededIn, heeded-in, listen-receiving-along, last-in, listened-holdback-in, listened-verdicts-in, listened-kept-in}
use Rattle.lemmas.proofs.NextWider.{along-next}
use Rattle.theory.specs.NeverFull.{NeverFull}
use Rattle.theory.specs.WiderAny.{marked_later, NextClock, next_along, heard_before_in, AnyStateIn, Demand2In, observed_before_in, AnyListenIn, Demand2ListenIn}

-- ---- the next call

-- two schedules of one pair are one
aligned-steady : (s : Setup) (k : ℕ) → Aligned k 0 (steady s) (steady s)
aligned-steady s k = record { moved = refl }

module _ (s : Setup) (w : Wider) (v k : ℕ) (both : BothPairs s w) (below : v < s.modulus) (next : NextClock s w v k) where
  later-mark : is_marked (marked_later s w v k) ≡ leb (change_near s.modulus v w) (s.modulus + k)
  unfolding marked_later
  later-mark = go (leb (change_near s.modulus v w) (s.modulus + k))
    where
      go : (b : Bool) → eqb (cond b 1 0) 1 ≡ b
      go true = refl
      go false = refl

  -- its schedule is this one's, with all readings k less
  next-aligned : Aligned k 0 (next_along s w v k) (along s w v)
  next-aligned = go (same_pairs s w) refl
    where
      go : (b : Bool) → same_pairs s w ≡ b → Aligned k 0 (next_along s w v k) (along s w v)
      go true e = unfold along same_pairs marked_later in (rw e (aligned-steady s k))
      go false e =
          unfold marked_later in
          (along-next s w (marked_later s w v k) v k below both.change-below (next.before-next e) refl refl refl later-mark)

  next_both : BothPairs s (marked_later s w v k)
  unfolding marked_later
  next_both = record { widens = both.widens; change-below = both.change-below; marked-bit = go (leb (change_near s.modulus v w) (s.modulus + k)) }
    where
      go : (b : Bool) → cond b 1 0 ≤ 1
      go true = omega arith
      go false = omega arith

  next-good : Good (next_along s w v k)
  next-good = along-good s (marked_later s w v k) ((v + k) % s.modulus) next_both

  this-good : Good (along s w v)
  this-good = along-good s w v both

  next-few : k ≤ (own_limits (next_along s w v k)).epsilon
  next-few =
      subst (λ (u : Setup). k ≤ u.epsilon)
      (sym (limits-aligned k 0 (next_along s w v k) (along s w v) next-aligned (modulus_of (next_along s w v k)) (s.modulus + k)
      (omega (arith, along-modulus s (marked_later s w v k) ((v + k) % s.modulus)))))
      next.step-few

  this-below : v < modulus_of (along s w v)
  this-below = omega (arith, below, along-modulus s w v)

  next_small : k ≤ modulus_of (along s w v)
  next_small =
      let limits = limits-good (next_along s w v k) next-good (modulus_of (next_along s w v k)) in
      omega (
        arith,
        next-few,
        limits.modulus-least,
        limits-modulus (next_along s w v k) next-good (modulus_of (next_along s w v k)),
        along-modulus s (marked_later s w v k) ((v + k) % s.modulus),
        along-modulus s w v,
      )

  -- a shelf that was left is sound there
  next-holdback :
      (size : ℕ) (queue : List Frame) → LeftAlong (along s w v) v queue
      → wider_sound_holdback (next_along s w v k) ((v + k) % s.modulus) (s.modulus + 1 - k) (encode_holdback size queue) ≡ true
  unfolding encode_holdback padded
  next-holdback size queue left =
      subst (λ (B : ℕ). wider_sound_holdback (next_along s w v k) ((v + k) % s.modulus) (B + 1 - k) (encode_holdback size queue) ≡ true)
      (along-modulus s (marked_later s w v k) ((v + k) % s.modulus))
      (subst
      (λ (B : ℕ). wider_sound_holdback (next_along s w v k) ((v + k) % B) (modulus_of (next_along s w v k) + 1 - k) (encode_holdback size queue) ≡ true)
      (along-modulus s w v)
      (holdback-moved (along s w v) (next_along s w v k) v k this-good next-good next-aligned queue _ this-below next-few left))

  -- so are tables, and a last clock
  next-tables :
      (i : Input) → i.clock ≡ v
      → wider_tables_sound (next_along s w v k) ((v + k) % s.modulus) (widened (wider_new_stamp (along s w v) i)) ≡ true
  next-tables i clock =
      subst (λ (B : ℕ). wider_tables_sound (next_along s w v k) ((v + k) % B) (widened (wider_new_stamp (along s w v) i)) ≡ true) (along-modulus s w v)
      (tables-carried (along s w v) (next_along s w v k) v k this-good next-good
      (moved-follows (along s w v) (next_along s w v k) v k this-good next-good next-aligned) this-below next.step-pos next-few
      (wider_new_stamp (along s w v) i) (new-clock-along (along s w v) this-good i ∙ clock) (new-left-along (along s w v) this-good i)
      (half-moved-on (along s w v) (next_along s w v k) k next-aligned next_small))

  next_last : sound_clock (own_limits (next_along s w v k)).epsilon s.modulus ((v + k) % s.modulus) v ≡ true
  next_last =
      let limits = limits-good (next_along s w v k) next-good (modulus_of (next_along s w v k)) in
      let large : k < s.modulus =
      omega (
        arith,
        next-few,
        limits.modulus-least,
        limits.epsilon-pos,
        limits-modulus (next_along s w v k) next-good (modulus_of (next_along s w v k)),
        along-modulus s (marked_later s w v k) ((v + k) % s.modulus),
      ) in
      clock-sound (own_limits (next_along s w v k)).epsilon s.modulus ((v + k) % s.modulus) v k below
      (ap (λ (x : ℕ). clock_step s.modulus x ((v + k) % s.modulus)) (sym (mod-eq_of_lt below)) ∙ step-true s.modulus v k large)
      next.step-pos next-few

-- 02, 2.7: by whatever is asked, the queue before each entry is never full
never-full-along :
    (g : Schedule) (v least : ℕ) (asking : Asking) (holdback : List ℕ) (entries : List (List ℕ)) → ReceivingAlong g v least asking
    → NeverFull (own_limits g) (λ k. heard_along g v least asking holdback (take k entries))
never-full-along g v least asking holdback entries receiving =
    record {
      spare = λ k. heard-room g v least asking holdback (take k entries) receiving;
      most = λ k. heard-bound g v least asking holdback (take k entries) receiving;
    }

-- ---- a tick

module _ (w : Wider) (i : Input) (a : AcceptedIn w i) where
  abbrev g : Schedule
  g = along i.setup w i.clock

  abbrev least : ℕ
  least = wider_least g i.clock i.tables

  repair-in :
      (tick_in w i).answer.repair
      ≡ cond (wider_tables_sound g i.clock i.tables) 0 1 + cond (wider_sound_holdback g i.clock least i.holdback) 0 2
  unfolding wider_acceptance wider_repair wider_holdback_sound
  repair-in = ap (λ (o : Output). o.answer.repair) a.accepted

  taken_in : (tick_in w i).answer.taken ≡ taken_count (wider_heard g i).verdicts
  unfolding wider_acceptance
  taken_in = ap (λ (o : Output). o.answer.taken) a.accepted

  delivered-in : (tick_in w i).answer.delivered ≡ length (wider_delivered_of g i)
  unfolding wider_acceptance
  delivered-in = ap (λ (o : Output). o.answer.delivered) a.accepted

  delivery-in : (tick_in w i).delivery ≡ overlay (encode_frames (wider_delivered_of g i)) i.delivery
  unfolding wider_acceptance
  delivery-in = ap (λ (o : Output). o.delivery) a.accepted

  sent-in : (tick_in w i).answer.sent ≡ length (wider_sent g i)
  unfolding wider_acceptance
  sent-in = ap (λ (o : Output). o.answer.sent) a.accepted

  outgoing-in : (tick_in w i).outgoing ≡ overlay (wider_sent g i) i.outgoing
  unfolding wider_acceptance
  outgoing-in = ap (λ (o : Output). o.outgoing) a.accepted

  any-state-in : AnyStateIn w i g
  unfolding heard_before_in wider_heard wider_opened wider_delivered_of
  any-state-in =
      record {
        verdict = λ k entry e.
            ap (λ (l : List ℕ). get_or l k 0) (verdicts-in w i a)
            ∙ verdict-along g i.clock least (wider_questions g i.clock) i.holdback (batch_entries i.batch) i.verdicts k entry e;
        repair = repair-in;
        taken =
            taken_in
            ∙ ap taken_count
            (sym
            (ap (take (length (batch_entries i.batch))) (verdicts-in w i a)
            ∙ front-along g i.clock least (wider_questions g i.clock) i.holdback (batch_entries i.batch) i.verdicts));
        delivered = delivered-in;
        delivery =
            ap (wider_held_bytes g) delivery-in
            ∙ bytes-delivered g i.clock least (wider_questions g i.clock) i.holdback (batch_entries i.batch) (tick-receiving-along w i a) i.delivery;
        sent = sent-in;
        outgoing = rw (sent-in, outgoing-in) (take-overlay (wider_sent g i) i.outgoing);
        bounded = λ k next.
            subst (λ (t : Timestamp). wider_tables_sound (next_along i.setup w i.clock k) ((i.clock + k) % i.setup.modulus) t ≡ true) (sym (tables-in w i a))
            (next-tables i.setup w i.clock k a.both a.clock-below next i refl);
        bounded_queue = λ k next.
            subst
            (λ (s : List ℕ). wider_sound_holdback (next_along i.setup w i.clock k) ((i.clock + k) % i.setup.modulus) (i.setup.modulus + 1 - k) s ≡ true)
            (sym (holdback-in w i a))
            (next-holdback i.setup w i.clock k a.both a.clock-below next (holdback_size (widest_of g)) (wider_kept_of g i) (kept_in_lem w i a));
        never_full =
            never-full-along g i.clock least (wider_questions g i.clock) i.holdback (batch_entries i.batch) (tick-receiving-along w i a);
      }

pub demand2-in : Demand2In
demand2-in w i h = any-state-in w i (accepted-in w i h)

-- ---- a listener's call

module _ (w : Wider) (i : Listening) (a : HeededIn w i) where
  abbrev l : Schedule
  l = along i.setup w i.clock

  listen-repair-in :
      (listen_in w i).repair
      ≡ cond (sound_clock (own_limits l).epsilon (modulus_of l) i.clock i.last) 0 1 + cond (wider_sound_holdback l i.clock (wider_observer_least l i) i.holdback) 0 2
  unfolding wider_listened wider_observer_repair wider_last_sound
  listen-repair-in = ap (λ (o : Listened). o.repair) a.accepted

  listen-taken-in : (listen_in w i).taken ≡ taken_count (wider_observer_heard l i).verdicts
  unfolding wider_listened
  listen-taken-in = ap (λ (o : Listened). o.taken) a.accepted

  listen-delivered-in : (listen_in w i).delivered ≡ length (wider_observer_delivered l i)
  unfolding wider_listened
  listen-delivered-in = ap (λ (o : Listened). o.delivered) a.accepted

  listen-delivery-in : (listen_in w i).delivery ≡ overlay (encode_frames (wider_observer_delivered l i)) i.delivery
  unfolding wider_listened
  listen-delivery-in = ap (λ (o : Listened). o.delivery) a.accepted

  any-listen-in : AnyListenIn w i l
  unfolding observed_before_in wider_observer_heard wider_observer_opened wider_observer_delivered
  any-listen-in =
      record {
        verdict = λ k entry e.
            ap (λ (bytes : List ℕ). get_or bytes k 0) (listened-verdicts-in w i a)
            ∙ verdict-along l i.clock (wider_observer_least l i) (wider_observer_questions l i.clock) i.holdback (batch_entries i.batch) i.verdicts k entry e;
        repair = listen-repair-in;
        taken =
            listen-taken-in
            ∙ ap taken_count
            (sym
            (ap (take (length (batch_entries i.batch))) (listened-verdicts-in w i a)
            ∙ front-along l i.clock (wider_observer_least l i) (wider_observer_questions l i.clock) i.holdback (batch_entries i.batch) i.verdicts));
        delivered = listen-delivered-in;
        delivery =
            ap (wider_held_bytes l) listen-delivery-in
            ∙ bytes-delivered l i.clock (wider_observer_least l i) (wider_observer_questions l i.clock) i.holdback (batch_entries i.batch) (listen-receiving-along w i a)
            i.delivery;
        last = last-in w i a;
        bounded = λ k next.
            subst
            (λ (r : ℕ). sound_clock (own_limits (next_along i.setup w i.clock k)).epsilon i.setup.modulus ((i.clock + k) % i.setup.modulus) r ≡ true)
            (sym (last-in w i a)) (next_last i.setup w i.clock k a.both a.clock-below next);
        bounded_queue = λ k next.
            subst
            (λ (s : List ℕ). wider_sound_holdback (next_along i.setup w i.clock k) ((i.clock + k) % i.setup.modulus) (i.setup.modulus + 1 - k) s ≡ true)
            (sym (listened-holdback-in w i a))
            (next-holdback i.setup w i.clock k a.both a.clock-below next (holdback_size (widest_of l)) (wider_observer_kept l i) (listened-kept-in w i a));
        never_full =
            never-full-along l i.clock (wider_observer_least l i) (wider_observer_questions l i.clock) i.holdback (batch_entries i.batch) (listen-receiving-along w i a);
      }

pub demand2-listen-in : Demand2ListenIn
demand2-listen-in w i h = any-listen-in w i (heeded-in w i h)
