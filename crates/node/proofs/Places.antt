-- The queue's buffer within a tick: that one more frame fits, and what taking, opening and emptying leave. Assumes nothing.
use Prim.Native.Nat.{ℕ, ◌+◌, ◌*◌, ◌-◌, ◌≤◌, ◌<◌}
use native.Mathlib.Nat.{mul-le-mul_right, mul_comm, add-mul, one-mul}
use native.Mathlib.Omega.{arith}
use mathlib.Core.Path.{◌≡◌, refl, sym, ap, ap₂, ◌∙◌}
use mathlib.Core.Bool.{Bool, true, false, not, cond}
use mathlib.Core.List.{List, [], ◌++◌, Memᴰ}
use lib.Dec.{leb}
use lib.ListN.{length, take, drop}
use Rattle.laws.proofs.Numbers.{and_left, and_right}
use Rattle.laws.specs.Lists.{every, select, joined, overlay, insert_at}
use Rattle.laws.proofs.Lists.{every-mem, every-of-mem, leading_le, length-insert_at, length-overlay, overlay-own, length-joined-le, select-length-le}
use Rattle.model.specs.Setup.{Setup, width, depth, longest_frame, holdback_length}
use Rattle.model.specs.Frame.{Frame, two_at, two_bytes, well_formed, encode, decode}
use Rattle.model.specs.Timestamp.{sum}
use Rattle.model.specs.Order.{before, due, due_near}
use Rattle.model.specs.Holdback.{held_bytes, held, passes, sound_holdback, encode_frames, encode_holdback}
use Rattle.model.specs.Question.{first_no, frame_questions}
use Rattle.model.specs.Judge.{place_for}
use Rattle.model.specs.Tick.{holdback_size, opening_queue, due_before}
use Rattle.lemmas.proofs.Bounds.{Limits, FrameOk, QueueOk}
use Rattle.lemmas.proofs.Questions.{limits-from}
use Rattle.lemmas.proofs.RoundTrip.{formed-from, form-passed, passes-formed, held-frames, held-holdback, frame-fits, length-holdback}
use Rattle.lemmas.proofs.Queue.{Passed, sound-queue, queue-none, queue-take, queue-room, frames-sound, queue-sound, both-few, depth_small}
use Rattle.setup.proofs.InLimits.{frames-most}
use Rattle.holdback.specs.Overdue.{overdue_frames, released_buffer, Released}
use Rattle.holdback.specs.Queue.{frame_start, end_of, Spans}
use Rattle.holdback.specs.Seen.{Placeable, seen_table, is_marked, marked}
use Rattle.holdback.specs.Sound as sounds
use Rattle.holdback.specs.Starts.{start_unit, used_entries, all_front, sum_wait, starts_of, Moving, moved_starts}
use Rattle.holdback.proofs.RoundTrip.{Bytes}
use Rattle.holdback.proofs.Frames.{held-tab, take-start, start-zero, start-within, start-most}
use Rattle.holdback.proofs.Changes.{formed-frames, length-held}
use Rattle.holdback.proofs.Releasing.{released-long}
use Rattle.holdback.proofs.Placed.{Wide, length-joined-insert, start-before, start-behind, end-behind}
use Rattle.holdback.proofs.Started.{starts_none, spans-small, moving, moved-table}
use Rattle.holdback.proofs.Judging.{sound-few}
use Rattle.holdback.proofs.Seen.{seen-insert}
use Rattle.node.specs.Views.{questions_for}
use Rattle.node.specs.States.{Timed, Queued, Extent, Taking, kept_buffer, QueueJudged, overdue_ones, OverdueGiven, QueueOpened}
use Rattle.node.proofs.Verdicts.{taken-passed, asked-form, asked-passed, fits-when, late-placeable, marked-is}

-- ---- a sound queue

pub sound-formed : (s : Setup) (v least : ℕ) (buffer : List ℕ) → sound_holdback s v least buffer ≡ true → every (well_formed s.epsilon) (held_bytes s.epsilon buffer) ≡ true
unfolding sound_holdback
sound-formed s v least buffer h =
    let h₁ = and_right (leb (two_at buffer 0) (depth s.n s.epsilon s.delta)) _ h in
    let p : every (passes s) (held_bytes s.epsilon buffer) ≡ true = and_left (every (passes s) (held_bytes s.epsilon buffer)) _ h₁ in
    every-of-mem (well_formed s.epsilon) (held_bytes s.epsilon buffer) (λ b m. passes-formed s b (every-mem (passes s) p m))

pub size-two : (s : Setup) (n : ℕ) → n ≡ holdback_size s → 2 ≤ n
unfolding holdback_length
size-two s n e = omega arith

-- it is short enough for any figure of it
pub size_small : (s : Setup) → Limits s → holdback_size s ≤ 127234
unfolding holdback_length
size_small s lim =
    omega (arith, frames-most (longest_frame s.epsilon) (depth s.n s.epsilon s.delta) s.n s.epsilon s.delta refl refl lim.n-most lim.epsilon-most lim.delta-most)

pub frames-long : (s : Setup) (queue : List Frame) → Limits s → ((f : Frame) → Memᴰ f queue → FrameOk s f) → length queue ≤ depth s.n s.epsilon s.delta → length (encode_frames queue) ≤ holdback_size s
unfolding encode_frames two_bytes holdback_length
frames-long s queue limits ok few =
    let one : (f : Frame) → Memᴰ f queue → length (encode f) ≤ longest_frame s.epsilon = λ f m. frame-fits s f (ok f m) in
    let all : length (joined encode queue) ≤ length queue * longest_frame s.epsilon = length-joined-le encode queue (longest_frame s.epsilon) one in
    let d = depth s.n s.epsilon s.delta in
    omega (arith, mul-le-mul_right (longest_frame s.epsilon) few, mul_comm d (longest_frame s.epsilon))

-- how many are handed out: at most all of them, and those before
pub both_small : (s : Setup) (v : ℕ) (buffer : List ℕ) (p : Frame → Bool) (index due : ℕ) → Limits s → sound_holdback s v s.modulus buffer ≡ true → index ≤ s.n * (2 * s.epsilon - 2)
    → due ≡ length (select p (held s.epsilon buffer)) → index + due < 131072
both_small s v buffer p index due limits sound few e =
    omega (
      arith,
      both-few s,
      depth_small s limits,
      select-length-le p (held s.epsilon buffer),
      length-held s.epsilon buffer,
      sound-few s v s.modulus buffer sound,
    )

-- ---- the bytes of a queue are its frames, and what stands behind them

pub queue-own : (s : Setup) (v least : ℕ) (buffer : List ℕ) → Bytes buffer → 2 ≤ length buffer → sound_holdback s v least buffer ≡ true
    → buffer ≡ overlay (encode_frames (held s.epsilon buffer)) buffer
unfolding encode_frames
queue-own s v least buffer clean two h =
    let epsilon : ℕ = s.epsilon in
    let n : ℕ = two_at buffer 0 in
    let ok = formed-frames epsilon buffer (sound-formed s v least buffer h) in
    let front : take (end_of epsilon buffer) buffer ≡ encode_frames (held epsilon buffer) =
    take-start epsilon buffer clean n two ok ∙ sym (ap₂ (λ (k : ℕ) (q : List Frame). two_bytes k ++ joined encode q) (length-held epsilon buffer) (held-tab epsilon buffer)) in
    sym (overlay-own (end_of epsilon buffer) buffer (start-within epsilon buffer n two ok)) ∙ ap (λ (l : List ℕ). overlay l buffer) front

pub frames-longer : (place : ℕ) (f : Frame) (queue : List Frame) → length (encode_frames queue) ≤ length (encode_frames (insert_at place f queue))
unfolding encode_frames two_bytes
frames-longer place f queue = omega (arith, length-joined-insert place f queue)

-- ---- a frame that is to be taken

-- what is known of it and of the buffer
pub record Known (s : Setup) (v : ℕ) (buffer : List ℕ) (place : ℕ) (bytes : List ℕ) : Type 0 where
  pub limits : Limits s
  pub below : v < s.modulus
  pub passed : Passed s v (held s.epsilon buffer) (decode s.epsilon bytes)
  pub place_is : place_for s v (held s.epsilon buffer) (decode s.epsilon bytes) ≡ place
  pub two : 2 ≤ length buffer
  pub formed : every (well_formed s.epsilon) (held_bytes s.epsilon buffer) ≡ true
  pub inside : place ≤ two_at buffer 0
  pub form : well_formed s.epsilon bytes ≡ true
  pub ok : QueueOk s v s.modulus (held s.epsilon buffer)
  pub few : two_at buffer 0 < 1792
  pub placeable : Placeable s v (decode s.epsilon bytes)
  pub fit : sounds.fits s v s.modulus bytes ≡ true

pub known : {s : Setup} {v : ℕ} {buffer : List ℕ} {place at : ℕ} {bytes : List ℕ} → Taking s v buffer place at bytes → Known s v buffer place bytes
unfolding place_for frame_questions depth
known {s} {v} {buffer} {place} {at} {bytes} t =
    let lim : Limits s = limits-from s t.timed.limits in
    let queue : List Frame = held s.epsilon buffer in
    let ok : QueueOk s v s.modulus queue = sound-queue s v s.modulus buffer lim t.sound in
    let both = taken-passed s v (questions_for t.listens s v) queue bytes place t.judged in
    let passed : Passed s v queue (decode s.epsilon bytes) = asked-passed t.listens s v queue bytes lim both.0 in
    let form : first_no (frame_questions s bytes) ≡ 0 = asked-form t.listens s v queue bytes both.0 in
    let long : length queue ≡ two_at buffer 0 = length-held s.epsilon buffer in
    let room : length queue < depth s.n s.epsilon s.delta = queue-room s v s.modulus queue lim t.timed.below (omega arith) ok in
    let most : s.n * (s.delta + 3 * s.epsilon) ≤ 16 * (s.delta + 3 * s.epsilon) = mul-le-mul_right (s.delta + 3 * s.epsilon) lim.n-most in
    record {
      limits = lim;
      below = t.timed.below;
      passed = passed;
      place_is = both.1;
      two = size-two s (length buffer) t.size;
      formed = sound-formed s v s.modulus buffer t.sound;
      inside = omega (arith, both.1, leading_le (λ g. before s v g (decode s.epsilon bytes)) queue, long);
      form = form-passed s bytes [] form;
      ok = ok;
      few = omega (arith, long, room, most, lim.epsilon-most, lim.delta-most);
      placeable = late-placeable s v (decode s.epsilon bytes) passed.frame passed.late;
      fit = fits-when s v bytes form passed.late passed.early;
    }

module _ {s : Setup} {v : ℕ} {buffer : List ℕ} {place at : ℕ} {bytes : List ℕ} (t : Taking s v buffer place at bytes) where
  abbrev k : Known s v buffer place bytes
  k = known t

  longest : length bytes ≤ longest_frame s.epsilon
  unfolding longest_frame width
  longest = let shape = formed-from s.epsilon bytes k.form in omega arith

  pub short : length bytes ≤ 71
  unfolding longest_frame width
  short = omega (arith, longest, k.limits.epsilon-most)

  -- one more frame fits
  pub fits : frame_start s.epsilon buffer (two_at buffer 0) + length bytes ≤ length buffer
  unfolding holdback_length
  fits =
      let queue : List Frame = held s.epsilon buffer in
      let size : length buffer ≡ 2 + longest_frame s.epsilon * depth s.n s.epsilon s.delta = t.size in
      let room : length queue < depth s.n s.epsilon s.delta = queue-room s v s.modulus queue k.limits k.below (omega arith) k.ok in
      let one : two_at buffer 0 + 1 ≤ depth s.n s.epsilon s.delta = omega (arith, length-held s.epsilon buffer) in
      let many : (two_at buffer 0 + 1) * longest_frame s.epsilon ≤ depth s.n s.epsilon s.delta * longest_frame s.epsilon = mul-le-mul_right (longest_frame s.epsilon) one in
      omega (
        arith,
        longest,
        start-most s.epsilon buffer (two_at buffer 0) (formed-frames s.epsilon buffer k.formed),
        mul_comm (depth s.n s.epsilon s.delta) (longest_frame s.epsilon),
        add-mul (two_at buffer 0) 1 (longest_frame s.epsilon),
        one-mul (longest_frame s.epsilon),
      )

  -- the starts can be moved
  pub movable : {starts : List ℕ} → starts ≡ starts_of s v buffer → Moving starts (start_unit + length bytes)
  movable e = moving s v s.modulus buffer k.limits t.sound e (omega (arith, short))

  -- 16: its origin has no mark yet
  pub unmarked : {table starts : List ℕ} → Queued s v buffer table starts → is_marked s v (decode s.epsilon bytes) table ≡ false
  unmarked {table} {starts} q = marked-is s v buffer table starts (decode s.epsilon bytes) t.timed q k.placeable ∙ k.passed.new

  -- what placing it is told
  pub spans : {count stop : ℕ} → Extent s.epsilon buffer count stop → Spans s.epsilon buffer count stop place at
  spans e =
      record {
        formed = k.formed;
        two = k.two;
        count-is = e.count-is;
        ends = e.ends ∙ ap (frame_start s.epsilon buffer) (sym e.count-is);
        inside = omega (arith, k.inside, e.count-is);
        starts = t.starts;
      }

  abbrev more : List Frame
  more = insert_at place (decode s.epsilon bytes) (held s.epsilon buffer)

  more-ok : QueueOk s v s.modulus more
  more-ok = rw (← k.place_is) (queue-take s v (held s.epsilon buffer) (decode s.epsilon bytes) k.limits k.below k.ok k.passed)

  more_room : length more < depth s.n s.epsilon s.delta
  more_room = queue-room s v s.modulus more k.limits k.below (omega arith) more-ok

  -- what taking it leaves
  module _ {buffer' : List ℕ} (e : buffer' ≡ overlay (encode_frames more) buffer) where
    pub more-held : held s.epsilon buffer' ≡ more
    unfolding overlay
    more-held =
        ap (held s.epsilon) e
        ∙ held-frames s.epsilon more (drop (length (encode_frames more)) buffer) (λ g m. (more-ok.frames g m).sound.wide) (omega (arith, more_room, depth_small s k.limits))

    module _ (clean : Bytes buffer) (bytes-clean : Bytes bytes) where
      here : Spans s.epsilon buffer (two_at buffer 0) (end_of s.epsilon buffer) place at
      here = spans (record { count-is = refl; ends = refl })

      wide : Wide s.epsilon more
      wide g m = (more-ok.frames g m).sound.wide

      pub more-extent : {count stop : ℕ} → Extent s.epsilon buffer count stop → Extent s.epsilon buffer' (count + 1) (stop + length bytes)
      more-extent old =
          let one = length-insert_at place (decode s.epsilon bytes) (held s.epsilon buffer) in
          record {
            count-is = omega (arith, old.count-is, one, length-held s.epsilon buffer, ap length more-held, length-held s.epsilon buffer');
            ends = ap (λ (n : ℕ). n + length bytes) old.ends ∙ sym (end-behind here clean bytes bytes-clean k.form wide buffer' e);
          }

      more-starts : {sum to : ℕ} {starts starts' : List ℕ} → starts ≡ starts_of s v buffer → sum ≡ sum_wait s v (decode s.epsilon bytes) → to ≡ used_entries s
          → starts' ≡ moved_starts (sum + 1) to (start_unit + length bytes) starts → starts' ≡ starts_of s v buffer'
      unfolding place_for due_near due sum
      more-starts {starts} old own used moved =
          let late : s.modulus ≤ due_near s v (decode s.epsilon bytes) = omega (arith, k.passed.late) in
          moved-table s v buffer buffer' (decode s.epsilon bytes) place (length bytes) late k.place_is more-held
          (start-before here clean bytes bytes-clean k.form wide buffer' e) (start-behind here clean bytes bytes-clean k.form wide buffer' e)
          k.limits old (moved ∙ ap₂ (λ (n m : ℕ). moved_starts (n + 1) m (start_unit + length bytes) starts) own used)

      pub more-queued : {sum to : ℕ} {table table' starts starts' : List ℕ} → Queued s v buffer table starts → table' ≡ marked s v (decode s.epsilon bytes) table
          → sum ≡ sum_wait s v (decode s.epsilon bytes) → to ≡ used_entries s → starts' ≡ moved_starts (sum + 1) to (start_unit + length bytes) starts → Queued s v buffer' table' starts'
      unfolding overlay
      more-queued old h' own used moved =
          let long : length (encode_frames more) ≤ length buffer = omega (arith, frames-long s more k.limits more-ok.frames (omega (arith, more_room)), t.size) in
          record {
            size = ap length e ∙ (length-overlay (encode_frames more) buffer long ∙ t.size);
            sound = ap (sound_holdback s v s.modulus) e ∙ frames-sound s v s.modulus more (drop (length (encode_frames more)) buffer) k.limits (omega (arith, more_room)) more-ok;
            table_is =
                h' ∙ (ap (marked s v (decode s.epsilon bytes)) old.table_is ∙ (seen-insert s v k.limits k.below (held s.epsilon buffer) place (decode s.epsilon bytes) k.placeable (ap (is_marked s v (decode s.epsilon bytes)) (sym old.table_is) ∙ unmarked old) ∙ sym (ap (seen_table s v) more-held)));
            starts_is = more-starts old.starts_is own used moved;
          }

-- ---- the queue opened

module _ (s : Setup) (v least : ℕ) (buffer : List ℕ) (t : Timed s v) (near : sounds.Recent s least) (size : length buffer ≡ holdback_size s) where
  pub judged-sound : {count stop : ℕ} {table starts : List ℕ} → sound_holdback s v least buffer ≡ true → count ≡ cond (sound_holdback s v least buffer) (two_at buffer 0) 0 → stop ≡ cond (sound_holdback s v least buffer) (end_of s.epsilon buffer) 2 → table ≡ seen_table s v (opening_queue s v least buffer)
      → starts ≡ cond (sound_holdback s v least buffer) (starts_of s v buffer) all_front → QueueJudged s v least buffer 0 count stop buffer table starts
  unfolding opening_queue kept_buffer
  judged-sound h count-is ends e m =
      record {
        repaired = rw h;
        size = size;
        sound = record { least = least; recent = near; sound = h };
        table_is = rw h at e;
        starts_is = rw h at m;
        extent = record { count-is = rw h at count-is; ends = rw h at ends };
        buffer-is = rw h;
        queue = rw h;
      }

  pub judged-empty : {count stop : ℕ} {buffer' table starts : List ℕ} → sound_holdback s v least buffer ≡ false → count ≡ cond (sound_holdback s v least buffer) (two_at buffer 0) 0 → stop ≡ cond (sound_holdback s v least buffer) (end_of s.epsilon buffer) 2 → table ≡ seen_table s v (opening_queue s v least buffer)
      → starts ≡ cond (sound_holdback s v least buffer) (starts_of s v buffer) all_front → buffer' ≡ encode_holdback (length buffer) [] → QueueJudged s v least buffer 2 count stop buffer' table starts
  unfolding opening_queue kept_buffer
  judged-empty {count} {stop} {buffer'} h count-is ends e m b =
      let lim : Limits s = limits-from s t.limits in
      let none : (f : Frame) → Memᴰ f [] → length f.stamp.kn ≡ width s.epsilon = λ f m. ((queue-none s v least).frames f m).sound.wide in
      let b' : buffer' ≡ encode_holdback (holdback_size s) [] = b ∙ ap (λ (n : ℕ). encode_holdback n []) size in
      let empty : held s.epsilon buffer' ≡ [] = ap (held s.epsilon) b' ∙ held-holdback s.epsilon (holdback_size s) [] none (omega arith) in
      let none-held : two_at buffer' 0 ≡ 0 = sym (length-held s.epsilon buffer') ∙ ap length empty in
      record {
        repaired = rw h;
        size = ap length b' ∙ length-holdback s [] lim (queue-none s v least).frames (omega arith);
        sound =
            record {
              least = least;
              recent = near;
              sound = ap (sound_holdback s v least) b' ∙ queue-sound s v least [] lim (omega arith) (queue-none s v least);
            };
        table_is = rw h at e ∙ sym (ap (seen_table s v) empty);
        starts_is = rw h at m ∙ starts_none s v buffer' empty;
        extent =
            record {
              count-is = rw h at count-is ∙ sym none-held;
              ends = rw h at ends ∙ sym (ap (frame_start s.epsilon buffer') none-held ∙ start-zero s.epsilon buffer');
            };
        buffer-is = rw h b;
        queue = rw h empty;
      }

-- judged, and without what is overdue
module _ {s : Setup} {v least : ℕ} {buffer : List ℕ} {repair count stop : ℕ} {buffer₁ table₁ starts₁ : List ℕ} (t : Timed s v) (q : QueueJudged s v least buffer repair count stop buffer₁ table₁ starts₁)
    {delivery : List ℕ} {index at : ℕ} {buffer₂ table₂ starts₂ delivery₂ : List ℕ} (r : Released s v buffer₁ delivery index at buffer₂ table₂ starts₂ delivery₂) where
  pub opened : QueueOpened s v least buffer repair (count - index) (stop + 2 - at) buffer₂ table₂ starts₂
  opened =
      record {
        repaired = q.repaired;
        queued =
            record {
              size = ap length r.queue-is ∙ released-long s v buffer₁ (limits-from s t.limits) q.sound q.size ∙ q.size;
              sound = r.sound;
              table_is = r.table_is ∙ sym (ap (seen_table s v) r.held-is);
              starts_is = r.starts_is;
            };
        extent =
            record {
              count-is = ap (λ (n : ℕ). n - index) q.extent.count-is ∙ sym r.count-is;
              ends = omega (arith, q.extent.ends, r.stop_is);
            };
        buffer-is = r.queue-is ∙ ap (released_buffer s v) q.buffer-is;
        queue = r.held-is ∙ ap (select (λ f. not (due_before s v f))) q.queue;
      }

  pub overdue-given : OverdueGiven s v least buffer delivery index at delivery₂
  overdue-given =
      let same : overdue_frames s v buffer₁ ≡ overdue_ones s v least buffer = ap (select (due_before s v)) q.queue in
      record {
        number = r.number ∙ ap length same;
        ends = r.ends ∙ ap (λ (l : List Frame). length (encode_frames l)) same;
        given = r.given ∙ ap (λ (l : List Frame). overlay (encode_frames l) delivery) same;
      }

  -- the figures are in reach
  pub opened-fits : (index ≤ count) × ((at ≤ stop + 2) × (stop < start_unit))
  opened-fits = (omega (arith, q.extent.count-is, r.number, select-length-le (due_before s v) (held s.epsilon buffer₁), length-held s.epsilon buffer₁), (omega (arith, q.extent.ends, r.stop_is), small))
    where
      small : stop < start_unit
      small =
          let known = q.sound in
          rw q.extent.ends
          (spans-small s buffer₁ (two_at buffer₁ 0) (limits-from s t.limits) (sound-few s v known.least buffer₁ known.sound)
          (formed-frames s.epsilon buffer₁ (sound-formed s v known.least buffer₁ known.sound))).1
