-- Hearing the entries of a batch one after the other, among all nodes: the half that goes on the queue, and the half that goes into the stamp.
-- Assumes nothing.
use Prim.Native.Nat.{ℕ, zero, suc, ◌+◌, ◌-◌, ◌*◌, ◌%◌, ◌≤◌, ◌<◌}
use native.Mathlib.Omega.{arith}
use mathlib.Core.Path.{◌≡◌, refl, sym, ap, subst, ◌∙◌}
use mathlib.Core.Logic.{◌⊎◌, inl, inr}
use mathlib.Core.Bool.{Bool, true, false, ◌||◌, cond}
use mathlib.Core.List.{List, Memᴰ}
use mathlib.Core.Option.{some}
use lib.Dec.{leb, eqb}
use lib.ListN.{get_elem?}
use Rattle.laws.specs.Lists.{any, insert_at, placed_at}
use borrow.Author.Tests.{leb-true, le-leb, eqb-true, eq-eqb}
use Rattle.laws.proofs.Numbers.{lt-or-ge, clash, and_intro, and_left, and_right, or_left, or_right, or_cases, false-of-no}
use Rattle.laws.proofs.Lists.{any-of-mem, any-of-false, mem-of-insert_at, mem-insert_at-old, mem-insert_at-new}
use Rattle.model.specs.Codec.{frame_of}
use Rattle.model.specs.Setup.{Setup, width}
use Rattle.model.specs.Timestamp.{Timestamp, count_at, counts_from, at_most}
use Rattle.model.specs.Frame.{Frame}
use Rattle.model.specs.Order.{reading_of}
use Rattle.model.specs.Holdback.{same_origin, not_early}
use Rattle.model.specs.Question.{first_no}
use Rattle.model.specs.Judge.{Asking, Heard}
use Rattle.model.specs.Schedule.{Schedule, limits_at, modulus_of, widest_of, own_limits, half_of, due_along}
use Rattle.model.specs.Wider.{wider_decode, frame_half, wider_reading, wider_questions, wider_observer_questions, wider_place, wider_judge, wider_hear_one, absorb_wide, wider_absorb_by}
use Rattle.model.specs.Run.{Node, Source, sent_by, stale, Done, sends, message_bytes}
use Rattle.theory.specs.Demand3.{covered, is_from}
use Rattle.lemmas.proofs.Bounds.{Sound, Opened}
use Rattle.lemmas.proofs.Counts.{count-moved, sound-top, at-most-past-to, absorbed-wide}
use Rattle.lemmas.proofs.Queue.{early_from, early-to}
use Rattle.lemmas.proofs.Schedules.{Good as GoodSchedule, limits-good, limits-modulus, limits-n, limits-grow}
use Rattle.lemmas.proofs.WideFrames.{FrameWithin, HasWidth, wide-decode}
use Rattle.lemmas.proofs.WiderQueue.{QueueAlong, PassedAlong, PlacesAlong, judged-along, observed-along, along-judged, along-observed, take-along}
use Rattle.lemmas.proofs.WiderTick.{absorb-taken, absorb-skipped, absorb-one-along}
use Rattle.lemmas.proofs.Agreeing.{Agrees}
use Rattle.lemmas.proofs.Positions.{place_at, reads}
use Rattle.theory.proofs.Event.{event-reads}
use Rattle.theory.proofs.Due.{due-reads}
use Rattle.theory.proofs.Stamps.{early-bounded, absorb-bounded, absorb-under, under-absorb}
use Rattle.theory.proofs.World.{event_frame, event_due, reached, Bounded, Under, Explained, AllExplained, explained-more, AllPresent, CallEvent}

-- from `from` on a message is heard at the floor or later
abbrev pub Settles : Schedule → ℕ → ℕ → Type 0
Settles g floor from = (floor ≤ from) × ((v R : ℕ) → from ≤ R → R < v + (limits_at g v).epsilon → floor ≤ v)

-- the message of call k, heard in a call for v
pub record Arrival (g : Schedule) (floor : ℕ) (nodes : List Node) (past : List Done) (v k : ℕ) (m : Done) : Type 0 where
  pub at : get_elem? past k ≡ some m
  pub sent : sends m ≡ true
  pub event : CallEvent g m
  pub bounded : Bounded (limits_at g m.clock).epsilon floor nodes m.clock (event_frame g m).stamp.kn
  pub not-ahead : m.clock < v + (limits_at g v).epsilon
  pub not_late : v ≤ m.clock + (limits_at g v).delta + (limits_at g v).epsilon
  pub undue : v ≤ event_due g m

abbrev pub Entry : Schedule → ℕ → List Node → List Done → ℕ → List ℕ → Source → Type 0
Entry g floor nodes past v bytes (sent_by k) = (m : Done) × Arrival g floor nodes past v k m × (bytes ≡ message_bytes m)
Entry g floor nodes past v bytes stale = v + (limits_at g v).epsilon ≤ floor

-- who hears at v, with the schedule l: no clock is ε or more ahead of v, and no two calls sent one message
pub record Around (g l : Schedule) (nodes : List Node) (past : List Done) (v : ℕ) : Type 0 where
  pub limits : GoodSchedule g
  pub good : GoodSchedule l
  pub agrees : Agrees g v l
  pub below : v % modulus_of l < modulus_of l
  pub none_ahead : (x : ℕ) → 1 ≤ reached nodes x → x < v + (limits_at g v).epsilon
  pub unique :
      (k j : ℕ) (a b : Done) → get_elem? past k ≡ some a → get_elem? past j ≡ some b → sends a ≡ true → sends b ≡ true
      → a.own ≡ b.own → a.clock ≡ b.clock → k ≡ j

-- a station has not reached v, as is the one that hears: so no count for v or later is full
abbrev pub Unreached : Schedule → List Node → ℕ → Type 0
Unreached g nodes v = (x : ℕ) → v ≤ x → reached nodes x < (widest_of g).n

-- the queue half: the queue is sound, and holds of the covered messages those heard that are not yet due
pub record QueueLoop (g l : Schedule) (floor from : ℕ) (past : List Done) (v : ℕ) (heard : ℕ → Bool) (queue : List Frame) : Type 0 where
  pub sound : QueueAlong l (v % modulus_of l) (modulus_of l) queue
  pub members : AllExplained g floor past heard v queue
  pub present : AllPresent g from past heard v queue

-- the stamp half: the counts are right, and what the opening stamp knew is known
pub record StampLoop (l : Schedule) (floor : ℕ) (nodes : List Node) (v : ℕ) (opening t : Timestamp) : Type 0 where
  pub opened : Opened (own_limits l).n (own_limits l).epsilon t
  pub bounded : Bounded (own_limits l).epsilon floor nodes v t.kn
  pub wider : (half R : ℕ) (f : Timestamp) → Under half R f (own_limits l).epsilon v opening → Under half R f (own_limits l).epsilon v t

-- one entry, by its verdict, whatever is asked
hear-taken :
    (l : Schedule) (u : ℕ) (asking : Asking) (h : Heard) (bytes : List ℕ) → first_no (asking h.queue bytes) ≡ 0
    → (wider_hear_one l u asking h bytes).queue ≡ insert_at (wider_place l u h.queue (wider_decode l bytes)) (wider_decode l bytes) h.queue
unfolding wider_hear_one wider_judge
hear-taken l u asking h bytes e = rw e refl

hear-refused :
    (l : Schedule) (u : ℕ) (asking : Asking) (h : Heard) (bytes : List ℕ) (k : ℕ) → first_no (asking h.queue bytes) ≡ suc k
    → (wider_hear_one l u asking h bytes).queue ≡ h.queue
unfolding wider_hear_one wider_judge
hear-refused l u asking h bytes k e = rw e refl

zero-or-suc : (x : ℕ) → (x ≡ 0) ⊎ ((k : ℕ) × (x ≡ suc k))
zero-or-suc zero = inl refl
zero-or-suc (suc k) = inr (k, refl)

pub covered-sends : (from : ℕ) (m : Done) → covered from m ≡ true → sends m ≡ true
unfolding covered
covered-sends from m e = and_left (sends m) (leb from m.clock) e

pub covered-from : (from : ℕ) (m : Done) → covered from m ≡ true → from ≤ m.clock
unfolding covered
covered-from from m e = leb-true from m.clock (and_right (sends m) (leb from m.clock) e)

pub covered_of : (from : ℕ) (m : Done) → sends m ≡ true → from ≤ m.clock → covered from m ≡ true
unfolding covered
covered_of from m e h = and_intro e (le-leb from m.clock h)

pub some_inj : {A : Type 0} {x y : A} → some x ≡ some y → x ≡ y
some_inj e = cc

pub event-station : (g : Schedule) (m : Done) → (event_frame g m).station ≡ m.own
unfolding event_frame frame_of
event-station g m = refl

same_self : (f : Frame) → same_origin f f ≡ true
unfolding same_origin
same_self f = and_intro (eq-eqb f.station f.station refl) (eq-eqb f.stamp.r f.stamp.r refl)

same-station : (f g : Frame) → same_origin f g ≡ true → f.station ≡ g.station
unfolding same_origin
same-station f g e = eqb-true _ _ (and_left (eqb f.station g.station) (eqb f.stamp.r g.stamp.r) e)

same-reading : (s : Setup) (v : ℕ) (f g : Frame) → same_origin f g ≡ true → reading_of s v f ≡ reading_of s v g
unfolding same_origin reading_of
same-reading s v f g e =
    rw (eqb-true f.stamp.r g.stamp.r (and_right (eqb f.station g.station) (eqb f.stamp.r g.stamp.r) e)) refl

-- frames of one station and r stand at one place
same_place : (g : Schedule) (v : ℕ) (a b : Frame) → same_origin a b ≡ true → place_at g v a ≡ place_at g v b
same_place g v a b e = ap (λ (x : ℕ). x + v) (same-reading (limits_at g v) (v % modulus_of g) a b e)

module _ (g l : Schedule) (floor from : ℕ) (settles : Settles g floor from) (nodes : List Node) (past : List Done) (v : ℕ) (around : Around g l nodes past v) where
  abbrev u : ℕ
  u = v % modulus_of l

  abbrev E : ℕ
  E = (limits_at g v).epsilon

  own-epsilon : (own_limits l).epsilon ≡ E
  own-epsilon = ap (λ (s : Setup). s.epsilon) around.agrees.own

  own-delta : (own_limits l).delta ≡ (limits_at g v).delta
  own-delta = ap (λ (s : Setup). s.delta) around.agrees.own

  own-modulus : (own_limits l).modulus ≡ modulus_of l
  own-modulus = limits-modulus l around.good (modulus_of l)

  large : 6 * E + (limits_at g v).delta + 1 ≤ modulus_of g
  large = omega (arith, (limits-good g around.limits v).modulus-least, limits-modulus g around.limits v)

  some-epsilon : 1 ≤ E
  some-epsilon = (limits-good g around.limits v).epsilon-pos

  -- the place of an arriving message is that of its true clock
  pub arrival-reading : (k : ℕ) (m : Done) → Arrival g floor nodes past v k m → place_at g v (event_frame g m) ≡ modulus_of g + m.clock
  arrival-reading k m a = event-reads g v m around.limits a.event a.not-ahead (omega (arith, large, a.not_late))

  -- so the call reads it there
  arrival-reads : (k : ℕ) (m : Done) → Arrival g floor nodes past v k m → wider_reading l u (event_frame g m) + v ≡ modulus_of l + m.clock
  arrival-reads k m a = omega (arith, arrival-reading k m a, reads g l v around.agrees (event_frame g m), around.agrees.modulus)

  -- 14
  pub arrival-close : (k : ℕ) (m : Done) → Arrival g floor nodes past v k m → covered from m ≡ true → m.clock + (event_frame g m).stamp.c < v + E
  unfolding count_at
  arrival-close k m a f =
      let R : ℕ = m.clock in
      let h : ℕ = (limits_at g R).epsilon in
      elim (lt-or-ge (R + (event_frame g m).stamp.c) floor) [
        | inl k ↦
            let b : floor ≤ v = settles.1 v R (covered-from from m f) a.not-ahead in
            omega (arith, some-epsilon)
        | inr k ↦
            let c : 1 ≤ reached nodes (R + (event_frame g m).stamp.c) =
            omega (arith, sound-top (limits_at g R).n h R (event_frame g m).stamp a.event.frame.sound, a.bounded (R + (event_frame g m).stamp.c) k) in
            around.none_ahead (R + (event_frame g m).stamp.c) c
      ]

  -- 16: a covered message's frame lies in the queue exactly if it was heard
  pub arrival-new :
      (heard : ℕ → Bool) (queue : List Frame) → AllExplained g floor past heard v queue → (k : ℕ) (m : Done) → Arrival g floor nodes past v k m
      → covered from m ≡ true → heard k ≡ false → any (same_origin (event_frame g m)) queue ≡ false
  arrival-new heard queue members k m a f no-k =
      any-of-false (same_origin (event_frame g m)) queue (λ b mem. false-of-no (same_origin (event_frame g m) b) (λ same. clashes b same (members b mem)))
    where
      stands : (b : Frame) → same_origin (event_frame g m) b ≡ true → place_at g v b ≡ modulus_of g + m.clock
      stands b same = sym (same_place g v (event_frame g m) b same) ∙ arrival-reading k m a

      clashes : (b : Frame) → same_origin (event_frame g m) b ≡ true → Explained g floor past heard v b → ⊥
      clashes b same (inl h) = omega (arith, stands b same, covered-from from m f, settles.0)
      clashes b same (inr x) =
          let c : m.clock ≡ x.1.clock = omega (arith, stands b same, x.6) in
          let o : m.own ≡ x.1.own = sym (event-station g m) ∙ (same-station (event_frame g m) b same ∙ (ap (λ (y : Frame). y.station) x.5 ∙ event-station g x.1)) in
          let q : k ≡ x.0 = around.unique k x.0 m x.1 a.at x.2 a.sent x.3 o c in
          clash (ap heard q ∙ x.4) no-k

  -- the same as the judge asks
  pub arrival-late : (k : ℕ) (m : Done) → Arrival g floor nodes past v k m → modulus_of l ≤ wider_reading l u (event_frame g m) + ((own_limits l).delta + (own_limits l).epsilon)
  arrival-late k m a = omega (arith, arrival-reads k m a, a.not_late, own-epsilon, own-delta)

  pub arrival-early : (k : ℕ) (m : Done) → Arrival g floor nodes past v k m → covered from m ≡ true → not_early (own_limits l) u (event_frame g m) ≡ true
  arrival-early k m a f =
      early-to (own_limits l) u (event_frame g m) (omega (arith, arrival-reads k m a, arrival-close k m a f, own-epsilon, own-modulus))

  -- 02, 2.10: nor is it due before v
  arrival-due : (k : ℕ) (m : Done) → Arrival g floor nodes past v k m → covered from m ≡ true → modulus_of l ≤ due_along l (wider_reading l u (event_frame g m) + (event_frame g m).stamp.c)
  arrival-due k m a f =
      omega (
        arith,
        due-reads g l v around.agrees m.clock (event_frame g m) (arrival-reading k m a) (arrival-close k m a f) (omega (arith, a.not_late, some-epsilon)),
        a.undue,
      )

  -- it has the width of its clock
  arrival-half : (k : ℕ) (m : Done) → Arrival g floor nodes past v k m → frame_half l (event_frame g m) ≡ (limits_at g m.clock).epsilon
  arrival-half k m a = ap (half_of l) a.event.frame.sound.wide ∙ around.agrees.half m.clock a.not-ahead a.not_late

  arrival-wide : (k : ℕ) (m : Done) → Arrival g floor nodes past v k m → HasWidth l (event_frame g m)
  arrival-wide k m a = a.event.frame.sound.wide ∙ ap width (sym (arrival-half k m a))

  pub arrival-decoded : (k : ℕ) (m : Done) → Arrival g floor nodes past v k m → wider_decode l (message_bytes m) ≡ event_frame g m
  arrival-decoded k m a = ap (wider_decode l) (a.event.bytes a.sent) ∙ wide-decode l (event_frame g m) (arrival-wide k m a)

  same-n : (x : ℕ) → (limits_at g x).n ≡ (own_limits l).n
  same-n x = limits-n g around.limits x ∙ (sym (limits-n g around.limits v) ∙ ap (λ (s : Setup). s.n) (sym around.agrees.own))

  -- in the call's limits, of n counts
  arrival-sound : (k : ℕ) (m : Done) → Arrival g floor nodes past v k m → Sound (own_limits l).n (frame_half l (event_frame g m)) (event_frame g m).stamp
  arrival-sound k m a =
      subst (λ (h : ℕ). Sound (own_limits l).n h (event_frame g m).stamp) (sym (arrival-half k m a))
      (subst (λ (n : ℕ). Sound n (limits_at g m.clock).epsilon (event_frame g m).stamp) (same-n m.clock) a.event.frame.sound)

  -- 10 to 12: a wide one too, in a call whose limits are narrow, as it is not early
  arrival-frame : (k : ℕ) (m : Done) → Arrival g floor nodes past v k m → covered from m ≡ true → FrameWithin l (own_limits l) (event_frame g m)
  arrival-frame k m a f =
      record {
        station-below = omega (arith, a.event.frame.station-below, same-n m.clock);
        r-below = omega (arith, a.event.frame.r-below, limits-modulus g around.limits m.clock, own-modulus, around.agrees.modulus);
        wide = arrival-wide k m a;
        sound = arrival-sound k m a;
        close =
            elim (lt-or-ge m.clock v) [
              | inl h ↦ omega (arith, a.event.frame.sound.close, (limits-grow g around.limits m.clock v (omega arith)).0, own-epsilon)
              | inr h ↦ omega (arith, arrival-close k m a f, own-epsilon)
            ];
        short = a.event.frame.short;
      }

  -- its frame is on the queue exactly if it was heard
  arrival-any :
      (heard : ℕ → Bool) (queue : List Frame) → QueueLoop g l floor from past v heard queue → (k : ℕ) (m : Done) → Arrival g floor nodes past v k m
      → covered from m ≡ true → any (same_origin (event_frame g m)) queue ≡ heard k
  arrival-any heard queue loop k m a f = go (heard k) refl
    where
      go : (b : Bool) → heard k ≡ b → any (same_origin (event_frame g m)) queue ≡ b
      go true e = any-of-mem (same_origin (event_frame g m)) (loop.present k m a.at f e a.undue) (same_self (event_frame g m))
      go false e = arrival-new heard queue loop.members k m a f e

  -- what is asked takes a covered message once, and nothing that would make the queue unsound
  pub record TakesOnce (asking : Asking) : Type 0 where
    pub places : PlacesAlong l u asking
    pub verdict :
        (heard : ℕ → Bool) (queue : List Frame) → QueueLoop g l floor from past v heard queue → (k : ℕ) (m : Done) → Arrival g floor nodes past v k m
        → covered from m ≡ true → first_no (asking queue (message_bytes m)) ≡ cond (heard k) 16 0

  -- 10 to 16 are such questions, where 15 can be answered
  module _ (unreached : Unreached g nodes v) where
    -- 15
    pub arrival-room :
        (k : ℕ) (m : Done) → Arrival g floor nodes past v k m → covered from m ≡ true
        → at_most ((own_limits l).n - 1) (counts_from (frame_half l (event_frame g m)) (wider_reading l u (event_frame g m)) (event_frame g m).stamp.kn (modulus_of l)) ≡ true
    unfolding count_at
    arrival-room k m a f =
        rw (arrival-half k m a)
        (at-most-past-to ((own_limits l).n - 1) half (wider_reading l u (event_frame g m)) (event_frame g m).stamp.kn (modulus_of l) each)
      where
        half : ℕ
        half = (limits_at g m.clock).epsilon

        settled : floor ≤ v
        settled = settles.1 v m.clock (covered-from from m f) a.not-ahead

        each : (x : ℕ) → modulus_of l + half ≤ x → placed_at (wider_reading l u (event_frame g m)) (event_frame g m).stamp.kn x ≤ (own_limits l).n - 1
        each x h =
            let y : ℕ = v + x - (modulus_of l + half) in
            omega (
              arith,
              count-moved (wider_reading l u (event_frame g m)) m.clock (event_frame g m).stamp.kn x (y + half) (omega (arith, arrival-reads k m a)),
              a.bounded y (omega (arith, settled)),
              unreached y (omega arith),
              same-n v,
              limits-n g around.limits v,
            )

    pub loop-verdict :
        (heard : ℕ → Bool) (queue : List Frame) → QueueLoop g l floor from past v heard queue → (k : ℕ) (m : Done) → Arrival g floor nodes past v k m
        → covered from m ≡ true → first_no (wider_questions l u queue (message_bytes m)) ≡ cond (heard k) 16 0
    loop-verdict heard queue loop k m a f =
        ap (λ (b : List ℕ). first_no (wider_questions l u queue b)) (a.event.bytes a.sent)
        ∙ (along-judged l u queue (event_frame g m) (arrival-frame k m a f) (arrival-late k m a) (arrival-due k m a f) (arrival-early k m a f) (arrival-room k m a f)
        ∙ ap (λ (b : Bool). cond b 16 0) (arrival-any heard queue loop k m a f))

    pub judged-once : TakesOnce (wider_questions l u)
    judged-once = record { places = λ queue bytes e. (judged-along l around.good u queue bytes e).0; verdict = loop-verdict }

  -- 02, 2.6: and so are an observer's, wherever the stations are
  observed-verdict :
      (heard : ℕ → Bool) (queue : List Frame) → QueueLoop g l floor from past v heard queue → (k : ℕ) (m : Done) → Arrival g floor nodes past v k m
      → covered from m ≡ true → first_no (wider_observer_questions l u queue (message_bytes m)) ≡ cond (heard k) 16 0
  observed-verdict heard queue loop k m a f =
      ap (λ (b : List ℕ). first_no (wider_observer_questions l u queue b)) (a.event.bytes a.sent)
      ∙ (along-observed l u queue (event_frame g m) (arrival-frame k m a f) (arrival-late k m a) (arrival-due k m a f) (arrival-early k m a f)
      ∙ ap (λ (b : Bool). cond b 16 0) (arrival-any heard queue loop k m a f))

  pub observed-once : TakesOnce (wider_observer_questions l u)
  observed-once = record { places = λ queue bytes e. observed-along l around.good u queue bytes e; verdict = observed-verdict }

  -- the queue half, by whatever is asked
  module _ (asking : Asking) (once : TakesOnce asking) where
    -- a refused entry leaves all as it was
    queue-keep :
        (heard heard' : ℕ → Bool) (h : Heard) (bytes : List ℕ) (k : ℕ) → QueueLoop g l floor from past v heard h.queue
        → first_no (asking h.queue bytes) ≡ suc k
        → ((j : ℕ) → heard j ≡ true → heard' j ≡ true)
        → ((j : ℕ) (m : Done) → get_elem? past j ≡ some m → covered from m ≡ true → heard' j ≡ true → heard j ≡ true)
        → QueueLoop g l floor from past v heard' (wider_hear_one l u asking h bytes).queue
    queue-keep heard heard' h bytes k loop e more back =
        subst (QueueLoop g l floor from past v heard') (sym (hear-refused l u asking h bytes k e))
        (record {
          sound = loop.sound;
          members = λ f mem. explained-more g floor past heard heard' v f more (loop.members f mem);
          present = λ j m at fol hd un. loop.present j m at fol (back j m at fol hd) un;
        })

    queue-new :
        (heard heard' : ℕ → Bool) (h : Heard) (bytes : List ℕ) (f : Frame) → QueueLoop g l floor from past v heard h.queue
        → first_no (asking h.queue bytes) ≡ 0 → wider_decode l bytes ≡ f
        → ((j : ℕ) → heard j ≡ true → heard' j ≡ true)
        → ((j : ℕ) (m : Done) → get_elem? past j ≡ some m → covered from m ≡ true → heard' j ≡ true → (heard j ≡ true) ⊎ (event_frame g m ≡ f))
        → Explained g floor past heard' v f
        → QueueLoop g l floor from past v heard' (wider_hear_one l u asking h bytes).queue
    queue-new heard heard' h bytes f loop e d more back new =
        subst (QueueLoop g l floor from past v heard') (sym queue-is)
        (record {
          sound =
              subst (λ (b : Frame). QueueAlong l u (modulus_of l) (insert_at (wider_place l u h.queue b) b h.queue)) d
              (take-along l around.good u h.queue (wider_decode l bytes) around.below loop.sound (once.places h.queue bytes e));
          members = members;
          present = present;
        })
      where
        place : ℕ
        place = wider_place l u h.queue f

        queue-is : (wider_hear_one l u asking h bytes).queue ≡ insert_at place f h.queue
        queue-is =
            hear-taken l u asking h bytes e
            ∙ ap (λ (b : Frame). insert_at (wider_place l u h.queue b) b h.queue) d

        members : AllExplained g floor past heard' v (insert_at place f h.queue)
        members b mem =
            elim (mem-of-insert_at place f h.queue mem) [
              | inl q ↦ subst (λ (y : Frame). Explained g floor past heard' v y) (sym q) new
              | inr q ↦ explained-more g floor past heard heard' v b more (loop.members b q)
            ]

        present : AllPresent g from past heard' v (insert_at place f h.queue)
        present j m at fol hd un =
            elim (back j m at fol hd) [
              | inl q ↦ mem-insert_at-old place f (loop.present j m at fol q un)
              | inr q ↦ subst (λ (y : Frame). Memᴰ y (insert_at place f h.queue)) (sym q) (mem-insert_at-new place f h.queue)
            ]

    -- one entry
    pub queue-one :
        (heard heard' : ℕ → Bool) (h : Heard) (bytes : List ℕ) (o : Source) → QueueLoop g l floor from past v heard h.queue
        → Entry g floor nodes past v bytes o → ((j : ℕ) → heard' j ≡ (heard j || is_from j o))
        → QueueLoop g l floor from past v heard' (wider_hear_one l u asking h bytes).queue
    unfolding is_from
    queue-one heard heard' h bytes stale loop early is =
        elim (zero-or-suc (first_no (asking h.queue bytes))) [
          | inl e ↦ queue-new heard heard' h bytes (wider_decode l bytes) loop e refl more (λ j m at fol hd. inl (back j hd)) (inl (below e))
          | inr e ↦ queue-keep heard heard' h bytes e.0 loop e.1 more (λ j m at fol hd. back j hd)
        ]
      where
        more : (j : ℕ) → heard j ≡ true → heard' j ≡ true
        more j t = is j ∙ or_left false t

        back : (j : ℕ) → heard' j ≡ true → heard j ≡ true
        back j t =
            elim (or_cases (heard j) false (sym (is j) ∙ t)) [
              | inl q ↦ q
              | inr q ↦ absurd (clash q refl)
            ]

        below : first_no (asking h.queue bytes) ≡ 0 → place_at g v (wider_decode l bytes) + (wider_decode l bytes).stamp.c < modulus_of g + floor
        below e =
            omega (
              arith,
              early_from (own_limits l) u (wider_decode l bytes) (once.places h.queue bytes e).early,
              early,
              some-epsilon,
              own-epsilon,
              own-modulus,
              around.agrees.modulus,
              reads g l v around.agrees (wider_decode l bytes),
            )
    queue-one heard heard' h bytes (sent_by k) loop entry is =
        subst (λ (b : List ℕ). QueueLoop g l floor from past v heard' (wider_hear_one l u asking h b).queue) (sym entry.2)
        (elim (zero-or-suc (first_no (asking h.queue (message_bytes m)))) [
          | inl e ↦ queue-new heard heard' h (message_bytes m) (event_frame g m) loop e (arrival-decoded k m a) more taken (inr (k, m, a.at, a.sent, here, refl, arrival-reading k m a))
          | inr e ↦ queue-keep heard heard' h (message_bytes m) e.0 loop e.1 more (kept e.0 e.1)
        ])
      where
        m : Done
        m = entry.0

        a : Arrival g floor nodes past v k m
        a = entry.1

        more : (j : ℕ) → heard j ≡ true → heard' j ≡ true
        more j t = is j ∙ or_left (eqb j k) t

        here : heard' k ≡ true
        here = is k ∙ or_right (heard k) (eq-eqb k k refl)

        same : (j : ℕ) (m' : Done) → get_elem? past j ≡ some m' → j ≡ k → m' ≡ m
        same j m' at e = some_inj (sym at ∙ (ap (get_elem? past) e ∙ a.at))

        back : (j : ℕ) → heard' j ≡ true → (heard j ≡ true) ⊎ (j ≡ k)
        back j t =
            elim (or_cases (heard j) (eqb j k) (sym (is j) ∙ t)) [
              | inl q ↦ inl q
              | inr q ↦ inr (eqb-true j k q)
            ]

        taken : (j : ℕ) (m' : Done) → get_elem? past j ≡ some m' → covered from m' ≡ true → heard' j ≡ true → (heard j ≡ true) ⊎ (event_frame g m' ≡ event_frame g m)
        taken j m' at fol hd =
            elim (back j hd) [
              | inl q ↦ inl q
              | inr q ↦ inr (ap (event_frame g) (same j m' at q))
            ]

        kept : (x : ℕ) → first_no (asking h.queue (message_bytes m)) ≡ suc x
            → (j : ℕ) (m' : Done) → get_elem? past j ≡ some m' → covered from m' ≡ true → heard' j ≡ true → heard j ≡ true
        kept x e j m' at fol hd =
            elim (back j hd) [
              | inl q ↦ q
              | inr q ↦ ap heard q ∙ was (heard k) refl (subst (λ (y : Done). covered from y ≡ true) (same j m' at q) fol)
            ]
          where
            was : (b : Bool) → heard k ≡ b → covered from m ≡ true → heard k ≡ true
            was true p f = p
            was false p f =
                let z : suc x ≡ 0 = sym e ∙ (once.verdict heard h.queue loop k m a f ∙ ap (λ (b : Bool). cond b 16 0) p) in
                let bad : ⊥ = omega arith in
                absurd bad

  -- the stamp half: a taken frame has passed 14
  taken-close :
      (k : ℕ) (m : Done) (queue : List Frame) → Arrival g floor nodes past v k m
      → first_no (wider_questions l u queue (message_bytes m)) ≡ 0 → m.clock + (event_frame g m).stamp.c < v + (own_limits l).epsilon
  taken-close k m queue a e =
      let p : PassedAlong l u queue (event_frame g m) =
      subst (λ (f : Frame). PassedAlong l u queue f) (arrival-decoded k m a) (judged-along l around.good u queue (message_bytes m) e).0 in
      omega (arith, arrival-reads k m a, some-epsilon, own-epsilon, own-modulus, early_from (own_limits l) u (event_frame g m) p.early)

  -- and is known from then on
  pub stamp-takes :
      (queue : List Frame) (t : Timestamp) (k : ℕ) (m : Done) → Arrival g floor nodes past v k m
      → first_no (wider_questions l u queue (message_bytes m)) ≡ 0
      → Under (limits_at g m.clock).epsilon m.clock (event_frame g m).stamp (own_limits l).epsilon v
      (wider_absorb_by l (first_no (wider_questions l u queue (message_bytes m))) u (wider_decode l (message_bytes m)) t)
  stamp-takes queue t k m a e =
      rw (e, arrival-decoded k m a)
      (subst (λ (x : Timestamp). Under (limits_at g m.clock).epsilon m.clock (event_frame g m).stamp (own_limits l).epsilon v x) (sym (absorb-taken l u (event_frame g m) t))
      (rw (arrival-half k m a)
      (absorb-under (limits_at g m.clock).n (own_limits l).epsilon (limits_at g m.clock).epsilon (modulus_of l) v (wider_reading l u (event_frame g m)) m.clock t
      (event_frame g m).stamp a.event.frame.sound (arrival-reads k m a) (taken-close k m queue a e))))

  -- a frame taken into the stamp
  abbrev absorbed : List ℕ → Timestamp → Timestamp
  absorbed bytes t =
      absorb_wide (own_limits l).epsilon (frame_half l (wider_decode l bytes)) (modulus_of l) t (wider_reading l u (wider_decode l bytes)) (wider_decode l bytes).stamp

  stamp-taken :
      (opening t : Timestamp) (bytes : List ℕ) (o : Source) → StampLoop l floor nodes v opening t → Entry g floor nodes past v bytes o
      → Opened (own_limits l).n (own_limits l).epsilon (absorbed bytes t) → StampLoop l floor nodes v opening (absorbed bytes t)
  stamp-taken opening t bytes o loop entry opened =
      record {
        opened = opened;
        bounded = bounded o entry;
        wider = λ half R f known.
            under-absorb (own_limits l).epsilon (frame_half l (wider_decode l bytes)) (modulus_of l) v (wider_reading l u (wider_decode l bytes)) half R f t
            (wider_decode l bytes).stamp loop.opened.wide (loop.wider half R f known);
      }
    where
      bounded : (o : Source) → Entry g floor nodes past v bytes o → Bounded (own_limits l).epsilon floor nodes v (absorbed bytes t).kn
      bounded stale early =
          early-bounded (own_limits l).epsilon floor nodes v (absorbed bytes t).kn
          (absorbed-wide (own_limits l).epsilon (frame_half l (wider_decode l bytes)) (modulus_of l) (wider_reading l u (wider_decode l bytes)) t (wider_decode l bytes).stamp)
          (omega (arith, early, own-epsilon))
      bounded (sent_by k) (m, a, e) =
          rw (e, arrival-decoded k m a, arrival-half k m a)
          (absorb-bounded (own_limits l).epsilon (limits_at g m.clock).epsilon (modulus_of l) floor nodes v (wider_reading l u (event_frame g m)) m.clock t
          (event_frame g m).stamp (arrival-reads k m a) loop.bounded a.bounded)

  -- one entry, by its verdict's number
  stamp-by :
      (opening t : Timestamp) (bytes : List ℕ) (o : Source) (number : ℕ) → StampLoop l floor nodes v opening t → Entry g floor nodes past v bytes o
      → Opened (own_limits l).n (own_limits l).epsilon (wider_absorb_by l number u (wider_decode l bytes) t)
      → StampLoop l floor nodes v opening (wider_absorb_by l number u (wider_decode l bytes) t)
  stamp-by opening t bytes o (suc k) loop entry opened = subst (StampLoop l floor nodes v opening) (sym (absorb-skipped l k u (wider_decode l bytes) t)) loop
  stamp-by opening t bytes o zero loop entry opened =
      let e = absorb-taken l u (wider_decode l bytes) t in
      subst (StampLoop l floor nodes v opening) (sym e)
      (stamp-taken opening t bytes o loop entry (subst (Opened (own_limits l).n (own_limits l).epsilon) e opened))

  pub stamp-one :
      (queue : List Frame) (opening t : Timestamp) (bytes : List ℕ) (o : Source) → StampLoop l floor nodes v opening t → Entry g floor nodes past v bytes o
      → StampLoop l floor nodes v opening (wider_absorb_by l (first_no (wider_questions l u queue bytes)) u (wider_decode l bytes) t)
  stamp-one queue opening t bytes o loop entry =
      stamp-by opening t bytes o (first_no (wider_questions l u queue bytes)) loop entry
      (absorb-one-along l around.good u queue bytes t loop.opened)
