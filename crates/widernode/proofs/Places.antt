-- 02, 2.10: the queue's buffer within a tick, with frames of both widths: that one more frame fits, and what taking, opening and emptying leave.
-- Assumes nothing.
use Prim.Native.Nat.{ℕ, ◌+◌, ◌*◌, ◌-◌, ◌≤◌, ◌<◌}
use native.Mathlib.Nat.{mul-le-mul_right}
use native.Mathlib.Omega.{arith}
use mathlib.Core.Path.{◌≡◌, refl, sym, ap, ap₂, ◌∙◌}
use mathlib.Core.Bool.{Bool, true, false, not}
use mathlib.Core.List.Memᴰ
use mathlib.Core.List.{List, [], ◌∷◌, Memᴰ}
use lib.Dec.{leb}
use lib.ListN.{length, drop}
use borrow.Author.Tests.{leb-true, le-leb}
use Rattle.laws.proofs.Numbers.{and_left, and_right}
use Rattle.laws.specs.Lists.{every, select, overlay, insert_at, chained, apart}
use Rattle.laws.proofs.Lists.{every-mono, leading_le, length-insert_at, length-overlay, select-length-le, mem-of-select}
use Rattle.model.specs.Setup.{Setup, depth, depth_of, longest_frame, holdback_length}
use Rattle.model.specs.Frame.{Frame, two_at, two_bytes, encode}
use Rattle.model.specs.Holdback.{cut_by, encode_frames, encode_holdback}
use Rattle.model.specs.Tick.{holdback_size}
use Rattle.model.specs.Schedule.{Schedule, widest_of, modulus_of, own_limits}
use Rattle.model.specs.Wider.{wider_formed, wider_decode, wider_held_bytes, wider_held, wider_passes, wider_before, wider_sound_holdback, wider_opening_queue, wider_due_before, wider_place}
use Rattle.lemmas.proofs.Bounds.{Limits}
use Rattle.lemmas.proofs.RoundTrip.{length-frames}
use Rattle.lemmas.proofs.Schedules.{Good, limits-good, limits-modulus, widest-good}
use Rattle.lemmas.proofs.WideFrames.{FrameWithin, wide-held, wide-holdback, length-wide-held, wide_fits, length-wide-holdback}
use Rattle.lemmas.proofs.WiderQueue.{QueueAlong, PassedAlong, sound-along, take-along, room-along, depth-widest, bytes-along}
use Rattle.holdback.specs.Seen.{Placeable, seen_table, is_marked, marked}
use Rattle.holdback.proofs.RoundTrip.{Bytes}
use Rattle.holdback.proofs.Placed.{length-joined-insert}
use Rattle.holdback.proofs.Seen.{seen-insert}
use Rattle.node.proofs.Places.{size-two, size_small}
use Rattle.widerqueue.specs.Queue.{Extent, Spans}
use Rattle.widerqueue.specs.Sound.{Walked}
use Rattle.widerqueue.specs.Overdue.{Released}
use Rattle.widernode.specs.Views.{questions_for}
use Rattle.widernode.specs.States.{Timed, Queued, Taking, kept_buffer, QueueJudged, overdue_ones, OverdueGiven, QueueOpened}
use Rattle.widerqueue.proofs.Forms.{passes-formed, wide_back, front-written}
use Rattle.widernode.proofs.Times.{Given, given}
use Rattle.widernode.proofs.Verdicts.{taken-passed, taken-readable, asked-passed, late-placeable, marked-is}

-- ---- a sound queue

module _ (g : Schedule) (v least : ℕ) (buffer : List ℕ) (h : wider_sound_holdback g v least buffer ≡ true) where
  pub sound-formed : every (wider_formed g) (wider_held_bytes g buffer) ≡ true
  unfolding wider_sound_holdback
  sound-formed =
      let h₁ = and_right (leb (two_at buffer 0) (depth_of (own_limits g))) _ h in
      every-mono (wider_passes g) (wider_formed g) (wider_held_bytes g buffer) (λ b. passes-formed g b) (and_left _ _ h₁)

  pub sound-few : length (wider_held g buffer) ≤ depth_of (own_limits g)
  unfolding wider_sound_holdback
  sound-few =
      omega (arith, length-wide-held g buffer, leb-true (two_at buffer 0) (depth_of (own_limits g)) (and_left (leb (two_at buffer 0) (depth_of (own_limits g))) _ h))

  -- its bytes are its frames, and what stands behind them
  pub queue-own : Bytes buffer → 2 ≤ length buffer → buffer ≡ overlay (encode_frames (wider_held g buffer)) buffer
  queue-own clean two = front-written g buffer sound-formed two clean

-- frames that are no more than a sound queue may have, in a buffer
pub frames-long : (g : Schedule) (queue : List Frame) → Good g → ((f : Frame) → Memᴰ f queue → FrameWithin g (own_limits g) f) → length queue ≤ depth_of (own_limits g)
    → length (encode_frames queue) ≤ holdback_size (widest_of g)
unfolding encode_frames holdback_length
frames-long g queue good ok few =
    length-frames encode queue (longest_frame (widest_of g).epsilon) (depth_of (widest_of g)) (λ f m. wide_fits g (own_limits g) f good (ok f m)) (omega (arith, depth-widest g good))

-- one frame more is so many bytes more
pub insert-long : (place : ℕ) (f : Frame) (queue : List Frame) → length (encode_frames (insert_at place f queue)) ≡ length (encode_frames queue) + length (encode f)
unfolding encode_frames two_bytes
insert-long place f queue = omega (arith, length-joined-insert place f queue)

pub depth-most : (s : Setup) → Limits s → depth_of s ≤ 1792
unfolding depth
depth-most s lim =
    let most : s.n * (s.delta + 3 * s.epsilon) ≤ 16 * (s.delta + 3 * s.epsilon) = mul-le-mul_right (s.delta + 3 * s.epsilon) lim.n-most in
    omega (arith, lim.epsilon-most, lim.delta-most)

-- ---- a frame that is to be taken

-- what is known of it and of the buffer
pub record Known (g : Schedule) (v : ℕ) (buffer : List ℕ) (place : ℕ) (bytes : List ℕ) : Type 0 where
  pub limits : Limits (own_limits g)
  pub same : (own_limits g).modulus ≡ modulus_of g
  pub facts : Given g v bytes
  pub passed : PassedAlong g v (wider_held g buffer) (wider_decode g bytes)
  pub place_is : wider_place g v (wider_held g buffer) (wider_decode g bytes) ≡ place
  pub two : 2 ≤ length buffer
  pub formed : every (wider_formed g) (wider_held_bytes g buffer) ≡ true
  pub inside : place ≤ two_at buffer 0
  pub ok : QueueAlong g v (modulus_of g) (wider_held g buffer)
  pub few : two_at buffer 0 < 1792
  pub placeable : Placeable (own_limits g) v (wider_decode g bytes)

pub known : {g : Schedule} {v : ℕ} {buffer table : List ℕ} {place at : ℕ} {bytes : List ℕ} → Taking g v buffer place at bytes → Queued g v buffer table → Known g v buffer place bytes
unfolding wider_place
known {g} {v} {buffer} {table} {place} {at} {bytes} t q =
    let good = t.timed.good in
    let lim : Limits (own_limits g) = limits-good g good (modulus_of g) in
    let queue : List Frame = wider_held g buffer in
    let ok : QueueAlong g v (modulus_of g) queue = sound-along g good v (modulus_of g) buffer q.sound in
    let both = taken-passed g v (questions_for t.listens g v) queue bytes place t.judged in
    let passed : PassedAlong g v queue (wider_decode g bytes) = asked-passed t.listens g v queue bytes good both.0 in
    let long : length queue ≡ two_at buffer 0 = length-wide-held g buffer in
    record {
      limits = lim;
      same = limits-modulus g good (modulus_of g);
      facts = given g v bytes (taken-readable t.listens g v queue bytes place t.timed t.judged);
      passed = passed;
      place_is = both.1;
      two = size-two (widest_of g) (length buffer) q.size;
      formed = sound-formed g v (modulus_of g) buffer q.sound;
      inside = omega (arith, both.1, leading_le (λ a. wider_before g v a (wider_decode g bytes)) queue, long);
      ok = ok;
      few = omega (arith, long, room-along g good v (modulus_of g) queue t.timed.below (omega arith) (omega arith) ok, depth-most (own_limits g) lim);
      placeable = late-placeable g v (wider_decode g bytes) good passed.frame passed.late;
    }

module _ {g : Schedule} {v : ℕ} {buffer table : List ℕ} {place at : ℕ} {bytes : List ℕ} (t : Taking g v buffer place at bytes) (q : Queued g v buffer table) where
  abbrev k : Known g v buffer place bytes
  k = known t q

  abbrev more : List Frame
  more = insert_at place (wider_decode g bytes) (wider_held g buffer)

  more-ok : QueueAlong g v (modulus_of g) more
  more-ok = rw (← k.place_is) (take-along g t.timed.good v (wider_held g buffer) (wider_decode g bytes) t.timed.below k.ok k.passed)

  more_room : length more < depth_of (own_limits g)
  more_room = room-along g t.timed.good v (modulus_of g) more t.timed.below (omega arith) (omega arith) more-ok

  more-long : length (encode_frames more) ≤ length buffer
  more-long = omega (arith, frames-long g more t.timed.good more-ok.frames (omega (arith, more_room)), q.size)

  -- 16: its origin has no mark yet
  pub unmarked : is_marked (own_limits g) v (wider_decode g bytes) table ≡ false
  unmarked = marked-is g v buffer table (wider_decode g bytes) t.timed q k.placeable ∙ k.passed.new

  -- what placing it is told
  pub spans : {count stop : ℕ} → Extent g buffer count stop → Spans g buffer count stop place at
  spans e =
      record {
        formed = k.formed;
        two = k.two;
        count-is = e.count-is;
        ends = e.end_is;
        inside = omega (arith, k.inside, e.count-is);
        starts = t.starts;
      }

  module _ (bytes-clean : Bytes bytes) where
    own-bytes : length (encode (wider_decode g bytes)) ≡ length bytes
    own-bytes = ap length (wide_back g bytes bytes-clean k.facts.formed)

    -- it fits
    pub fits : {count stop : ℕ} → Extent g buffer count stop → stop + length bytes ≤ length buffer
    fits e = omega (arith, more-long, insert-long place (wider_decode g bytes) (wider_held g buffer), own-bytes, e.end_is)

    -- what taking it leaves
    module _ {buffer' : List ℕ} (e : buffer' ≡ overlay (encode_frames more) buffer) where
      pub more-held : wider_held g buffer' ≡ more
      unfolding overlay
      more-held = ap (wider_held g) e ∙ wide-held g more (λ f m. (more-ok.frames f m).wide) (drop (length (encode_frames more)) buffer)

      pub more-extent : {count stop : ℕ} → Extent g buffer count stop → Extent g buffer' (count + 1) (stop + length bytes)
      more-extent old =
          record {
            count-is = omega (arith, old.count-is, length-insert_at place (wider_decode g bytes) (wider_held g buffer), length-wide-held g buffer, ap length more-held, length-wide-held g buffer');
            end_is = omega (arith, old.end_is, insert-long place (wider_decode g bytes) (wider_held g buffer), own-bytes, ap (λ (l : List Frame). length (encode_frames l)) more-held);
          }

      pub more-queued : {table' : List ℕ} → table' ≡ marked (own_limits g) v (wider_decode g bytes) table → Queued g v buffer' table'
      unfolding overlay
      more-queued h =
          record {
            size = ap length e ∙ (length-overlay (encode_frames more) buffer more-long ∙ q.size);
            sound = ap (wider_sound_holdback g v (modulus_of g)) e ∙ bytes-along g t.timed.good v (modulus_of g) more (drop (length (encode_frames more)) buffer) (omega (arith, more_room)) more-ok;
            table_is =
                h ∙ (ap (marked (own_limits g) v (wider_decode g bytes)) q.table_is
                ∙ (seen-insert (own_limits g) v k.limits (omega (arith, t.timed.below, k.same)) (wider_held g buffer) place (wider_decode g bytes) k.placeable
                (ap (is_marked (own_limits g) v (wider_decode g bytes)) (sym q.table_is) ∙ unmarked)
                ∙ sym (ap (seen_table (own_limits g) v) more-held)));
          }

-- ---- no frames

module _ (g : Schedule) (v least : ℕ) (buffer : List ℕ) (none : two_at buffer 0 ≡ 0) where
  pub held_none : wider_held g buffer ≡ []
  held_none = nil (wider_held g buffer) (length-wide-held g buffer ∙ none)
    where
      nil : (l : List Frame) → length l ≡ 0 → l ≡ []
      nil [] e = refl
      nil (x ∷ l) e = absurd (omega arith)

  pub sound_none : wider_sound_holdback g v least buffer ≡ true
  unfolding wider_sound_holdback wider_held_bytes cut_by every chained apart
  sound_none = rw (none, held_none, le-leb 0 (depth_of (own_limits g)) (omega arith))

  pub opening-none : wider_opening_queue g v least buffer ≡ []
  unfolding wider_opening_queue
  opening-none = rw (sound_none, held_none)

-- ---- the queue opened

module _ (g : Schedule) (v least : ℕ) (buffer : List ℕ) (t : Timed g v) (size : length buffer ≡ holdback_size (widest_of g)) {sound : Bool} {count stop : ℕ} {table : List ℕ}
    (w : Walked g v least buffer sound count stop table) where
  pub judged-sound : wider_sound_holdback g v least buffer ≡ true → QueueJudged g v least buffer 0 count stop buffer table
  unfolding wider_opening_queue kept_buffer
  judged-sound h =
      let opening : wider_opening_queue g v least buffer ≡ wider_held g buffer = rw h in
      record {
        repaired = rw h;
        size = size;
        sound = h;
        table_is = w.table_is ∙ ap (seen_table (own_limits g) v) opening;
        extent =
            record {
              count-is = w.count-is ∙ ap length opening ∙ length-wide-held g buffer;
              end_is = w.stop_is ∙ ap (λ (l : List Frame). length (encode_frames l)) opening;
            };
        buffer-is = rw h;
        queue = sym opening;
      }

  pub judged-empty : {buffer' : List ℕ} → wider_sound_holdback g v least buffer ≡ false → buffer' ≡ encode_holdback (length buffer) [] → QueueJudged g v least buffer 2 count stop buffer' table
  unfolding wider_opening_queue kept_buffer
  judged-empty {buffer'} h b =
      let opening : wider_opening_queue g v least buffer ≡ [] = rw h in
      let b' : buffer' ≡ encode_holdback (holdback_size (widest_of g)) [] = b ∙ ap (λ (n : ℕ). encode_holdback n []) size in
      let empty : wider_held g buffer' ≡ [] = ap (wider_held g) b' ∙ wide-holdback g [] (λ f m. absurd (Memᴰ.not-nil m)) (holdback_size (widest_of g)) in
      let none : two_at buffer' 0 ≡ 0 = sym (length-wide-held g buffer') ∙ ap length empty in
      record {
        repaired = rw h;
        size = ap length b' ∙ length-wide-holdback g (own_limits g) [] t.good (λ f m. absurd (Memᴰ.not-nil m)) (omega arith);
        sound = sound_none g v least buffer' none;
        table_is = w.table_is ∙ ap (seen_table (own_limits g) v) (opening ∙ sym empty);
        extent =
            record {
              count-is = w.count-is ∙ ap length opening ∙ sym none;
              end_is = w.stop_is ∙ ap (λ (l : List Frame). length (encode_frames l)) (opening ∙ sym empty);
            };
        buffer-is = rw h b;
        queue = empty ∙ sym opening;
      }

-- judged, and without what is overdue
module _ {g : Schedule} {v least : ℕ} {buffer : List ℕ} {repair count stop : ℕ} {buffer₁ table₁ : List ℕ} (t : Timed g v) (q : QueueJudged g v least buffer repair count stop buffer₁ table₁)
    {delivery : List ℕ} {index at : ℕ} {buffer₂ table₂ delivery₂ : List ℕ} (r : Released g v buffer₁ delivery index at buffer₂ table₂ delivery₂) where
  judged-ok : QueueAlong g v least (wider_held g buffer₁)
  judged-ok = sound-along g t.good v least buffer₁ q.sound

  judged-long : length (encode_frames (wider_held g buffer₁)) ≤ holdback_size (widest_of g)
  judged-long = frames-long g (wider_held g buffer₁) t.good judged-ok.frames (sound-few g v least buffer₁ q.sound)

  abbrev others : List Frame
  others = select (λ f. not (wider_due_before g v f)) (wider_held g buffer₁)

  others-long : length (encode_frames others) ≤ length buffer₁
  others-long =
      omega (
        arith,
        q.size,
        frames-long g others t.good (λ f m. judged-ok.frames f (mem-of-select (λ a. not (wider_due_before g v a)) (wider_held g buffer₁) m).0)
            (omega (arith, select-length-le (λ f. not (wider_due_before g v f)) (wider_held g buffer₁), sound-few g v least buffer₁ q.sound)),
      )

  pub opened : QueueOpened g v least buffer repair (count - index) (stop + 2 - at) buffer₂ table₂
  opened =
      record {
        repaired = q.repaired;
        queued =
            record {
              size = ap length r.queue-is ∙ (length-overlay (encode_frames others) buffer₁ others-long ∙ q.size);
              sound = r.sound;
              table_is = r.table_is ∙ sym (ap (seen_table (own_limits g) v) r.held-is);
            };
        extent =
            record {
              count-is = ap (λ (n : ℕ). n - index) q.extent.count-is ∙ sym r.count-is;
              end_is = omega (arith, q.extent.end_is, r.stop_is);
            };
        buffer-is = r.queue-is ∙ ap₂ (λ (l : List Frame) (b : List ℕ). overlay (encode_frames (select (λ f. not (wider_due_before g v f)) l)) b) q.queue q.buffer-is;
        queue = r.held-is ∙ ap (select (λ f. not (wider_due_before g v f))) q.queue;
      }

  pub overdue-given : OverdueGiven g v least buffer delivery index at delivery₂
  overdue-given =
      let same : select (wider_due_before g v) (wider_held g buffer₁) ≡ overdue_ones g v least buffer = ap (select (wider_due_before g v)) q.queue in
      record {
        number = r.number ∙ ap length same;
        ends = r.ends ∙ ap (λ (l : List Frame). length (encode_frames l)) same;
        given = r.given ∙ ap (λ (l : List Frame). overlay (encode_frames l) delivery) same;
      }

  -- the figures are in reach
  pub opened-fits : (index ≤ count) × ((at ≤ stop + 2) × (stop ≤ 127234))
  opened-fits = (
    omega (arith, q.extent.count-is, r.number, select-length-le (wider_due_before g v) (wider_held g buffer₁), length-wide-held g buffer₁),
    (omega (arith, q.extent.end_is, r.stop_is), omega (arith, q.extent.end_is, judged-long, size_small (widest_of g) (widest-good g t.good))),
  )
