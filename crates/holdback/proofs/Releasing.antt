-- 02, 2.2: what is due before v is the front of a sound queue, where the entry for the first place of the table of starts ends; once it has left,
-- its marks are gone, and the entries are each lower by it.
-- Assumes nothing.
use Rattle.std.proofs.Common.{◌≡◌, ℕ, zero, suc, ◌+◌, ◌-◌, ◌*◌, ◌<◌, ◌≤◌, Bool, true, false, not, eqb, ltb, List, [], ◌∷◌, ◌++◌, length, get_or, take, drop, sym, refl, ap, ◌∙◌, ap₂, inl, inr, zero-le, le_of_suc-le-suc, not-suc-le-zero, add-zero, zero-add, add-one, arith, length-append, length-drop, length-take-le, drop-cons, drop-drop, take-add, ltb-true, le-ltb, lt-ltb}
use mathlib.Core.List.{Memᴰ}
use Rattle.laws.specs.Lists.{any, every, apart, leading, joined, overlay}
use Rattle.laws.proofs.Numbers.{true-or-false, and_left, and_right, false_of_not}
use Rattle.laws.proofs.Lists.{length-tab, get_or-tab, leading_le, select-length-le, joined-append, every-mono, any-ext, index-of-mem, mem-of-drop, length-overlay}
use Rattle.model.specs.Setup.{Setup, depth, longest_frame, holdback_length}
use Rattle.model.specs.Frame.{Frame, two_bytes, two_at, encode, decode, frame_end, well_formed}
use Rattle.model.specs.Order.{due_near}
use Rattle.model.specs.Holdback.{cut_frames, cut_by, held_bytes, held, passes, same_origin, sound_holdback, encode_frames}
use Rattle.model.specs.Tick.{due_before, holdback_size}
use Rattle.timestamp.specs.declared.ordering.Rank.{Rank}
use Rattle.splice.specs.Bytes.{pasted}
use Rattle.lemmas.proofs.Bounds.{Limits, QueueOk}
use Rattle.lemmas.proofs.RoundTrip as trips
use Rattle.lemmas.proofs.Queue.{sound-queue, queue-rest, depth_small, bytes-sound, frames-sound}
use Rattle.holdback.specs.Queue.{frame_start, bytes_at, frame_at, rank_of, Spans, Stands}
use Rattle.holdback.specs.Sound.{Recent}
use Rattle.holdback.specs.Seen.{Placeable, Within, table_length, rank_slot, slot_of, seen_table, has_mark, without_mark, is_marked}
use Rattle.holdback.specs.Starts.{start_unit, used_entries, frames_below, start_of, starts_of, lowered_starts}
use Rattle.holdback.specs.Overdue.{SoundBy, overdue_frames, other_frames, OverdueFront, released_buffer, Left, Released}
use Rattle.holdback.proofs.RoundTrip.{Bytes, passing}
use Rattle.lemmas.proofs.FrameWalk.{lent, Seeking, seek-starts, seek-turns}
use Rattle.holdback.proofs.Frames.{start-zero, held-tab}
use Rattle.holdback.proofs.Judging.{fitting, frame-fits, sound-few, sound-passes, sound-ordered, sound-single, sound-frames, sound-formed}
use Rattle.holdback.proofs.Searching.{sound-stand, seek-frame}
use Rattle.holdback.proofs.Seen.{fitting-placeable, within, rank-slot, same-slot, seen-own, seen-less, length_seen}
use Rattle.holdback.proofs.Order.{overdue-prefix, overdue-rest}
use Rattle.holdback.proofs.Started.{changed-long, changed-at, changed-past, starts-at, starts-past, starts_by, spans-small, leading-mono}
use Rattle.holdback.proofs.Changes.{Pieces, pieces, written_over, length-held}
use Rattle.holdback.proofs.Placed.{written_start}

-- ---- the front

module _ (s : Setup) (v least : ℕ) (queue : List ℕ) (sound : sound_holdback s v least queue ≡ true) where
  abbrev frames : List Frame
  frames = held s.epsilon queue

  -- the entry for the first place counts them
  pub overdue-below : frames_below s v queue 0 ≡ leading (due_before s v) frames
  unfolding due_before
  overdue-below = ap (λ (m : ℕ). leading (λ f. ltb (due_near s v f) m) frames) (add-zero s.modulus)

  pub overdue-number : frames_below s v queue 0 ≡ length (overdue_frames s v queue)
  overdue-number =
      overdue-below
      ∙ sym (length-take-le (leading (due_before s v) frames) frames (leading_le (due_before s v) frames))
      ∙ ap length (sym (overdue-prefix s v frames (sound-ordered s v least queue sound)))

  pub overdue-first : take (length (overdue_frames s v queue)) frames ≡ overdue_frames s v queue
  overdue-first =
      ap (λ (n : ℕ). take n frames) (sym overdue-number ∙ overdue-below) ∙ sym (overdue-prefix s v frames (sound-ordered s v least queue sound))

  pub overdue-others : drop (length (overdue_frames s v queue)) frames ≡ other_frames s v queue
  overdue-others =
      ap (λ (n : ℕ). drop n frames) (sym overdue-number ∙ overdue-below) ∙ sym (overdue-rest s v frames (sound-ordered s v least queue sound))

  -- and says where the others start
  pub overdue-front : {index at : ℕ} → Stands s.epsilon queue (frames_below s v queue 0) index at → OverdueFront s v queue index at
  overdue-front stands = record { number = stands.frames ∙ overdue-number; starts = stands.starts }

-- ---- the marks

pub apart-drop : (i : ℕ) (l : List Frame) → apart same_origin l ≡ true → apart same_origin (drop i l) ≡ true
unfolding apart
apart-drop zero l h = h
apart-drop (suc i) [] h = refl
apart-drop (suc i) (x ∷ l) h = apart-drop i l (and_right (not (any (same_origin x) l)) (apart same_origin l) h)

-- a walk over the front that has taken the marks of i frames away
pub record Unmarking (s : Setup) (v least : ℕ) (b table : List ℕ) (index i at : ℕ) : Type 0 where
  pub sound : sound_holdback s v least b ≡ true
  pub seek : Seeking (frame_end s.epsilon) (decode s.epsilon) (passes s) (λ _. true) b 2 (two_at b 0) i at
  pub table_is : table ≡ seen_table s v (drop i (held s.epsilon b))
  pub most : i ≤ index

pub unmarking-starts : {s : Setup} {v least : ℕ} {b table : List ℕ} {index : ℕ} → sound_holdback s v least b ≡ true → 2 ≤ length b → table ≡ seen_table s v (held s.epsilon b) → Unmarking s v least b table index 0 2
unmarking-starts {s} {v} {least} {b} sound two e =
    record { sound = sound; seek = seek-starts (sound-stand s v least b sound two refl); table_is = e; most = zero-le }

module _ {s : Setup} {v least : ℕ} {b table : List ℕ} {index i at : ℕ} (walk : Unmarking s v least b table index i at) (more : i < two_at b 0)
    (limits : Limits s) (below : v < s.modulus) (near : Recent s least) where
  abbrev own : Frame
  own = frame_at s.epsilon b i

  placeable-at : (k : ℕ) → k < two_at b 0 → Placeable s v (frame_at s.epsilon b k)
  unfolding frame_at
  placeable-at k h =
      fitting-placeable s v least (bytes_at s.epsilon b k) near (fitting s v least (bytes_at s.epsilon b k) (frame-fits s v least b k (sound-frames s v least b walk.sound k h)))

  placeable-of : (g : Frame) → Memᴰ g (held s.epsilon b) → Placeable s v g
  placeable-of g m =
      let frame : ℕ → Frame = frame_at s.epsilon b in
      let r = index-of-mem (frame 0) (rw (held-tab s.epsilon b) at m) in
      let l : r.0 < two_at b 0 = rw (length-tab (two_at b 0) frame) at r.1 in
      let e : frame r.0 ≡ g = sym (get_or-tab (two_at b 0) frame r.0 (frame 0) l) ∙ r.2 in
      rw (← e) (placeable-at r.0 l)

  front : drop i (held s.epsilon b) ≡ own ∷ drop (suc i) (held s.epsilon b)
  front =
      let frame : ℕ → Frame = frame_at s.epsilon b in
      drop-cons (held s.epsilon b) i (frame 0) (omega (arith, length-held s.epsilon b))
      ∙ ap (λ (g : Frame). g ∷ drop (suc i) (held s.epsilon b)) (ap (λ (l : List Frame). get_or l i (frame 0)) (held-tab s.epsilon b) ∙ get_or-tab (two_at b 0) frame i (frame 0) more)

  -- no later frame has its place
  alone : any (λ g. eqb (slot_of s v g) (slot_of s v own)) (drop (suc i) (held s.epsilon b)) ≡ false
  unfolding apart
  alone =
      any-ext (λ g. eqb (slot_of s v g) (slot_of s v own)) (same_origin own) (drop (suc i) (held s.epsilon b))
      (λ g m. same-slot s v limits below own g (placeable-at i more) (placeable-of g (mem-of-drop (suc i) (held s.epsilon b) m)))
      ∙ false_of_not (any (same_origin own) (drop (suc i) (held s.epsilon b)))
      (and_left (not (any (same_origin own) (drop (suc i) (held s.epsilon b)))) (apart same_origin (drop (suc i) (held s.epsilon b)))
      (rw front at (apart-drop i (held s.epsilon b) (sound-single s v least b walk.sound))))

  module _ {size : ℕ} (es : size ≡ frame_end s.epsilon (lent b at)) (rank : Rank) (er : rank ≡ rank_of s v (decode s.epsilon (take (at + size - at) (drop at b)))) where
    own-rank : rank ≡ rank_of s v own
    own-rank = er ∙ ap (rank_of s v) (seek-frame s walk.seek es)

    pub unmarking-within : Within s rank
    unmarking-within = within s v limits below own rank (placeable-at i more) own-rank

    marks : table ≡ seen_table s v (own ∷ drop (suc i) (held s.epsilon b))
    marks = walk.table_is ∙ ap (seen_table s v) front

    pub unmarking-there : has_mark table (rank_slot s rank) ≡ true
    unfolding any is_marked
    unmarking-there =
        ap₂ has_mark marks (rank-slot s v own rank own-rank)
        ∙ seen-own s v limits below (drop (suc i) (held s.epsilon b)) (own ∷ drop (suc i) (held s.epsilon b)) own (λ p. refl) (placeable-at i more)

    pub unmarking-turns : (l : List ℕ) → i < index → l ≡ without_mark table (rank_slot s rank) → Unmarking s v least b l index (i + 1) (at + size)
    unfolding any
    unmarking-turns l few e =
        record {
          sound = walk.sound;
          seek = seek-turns walk.seek more es {t = true} refl refl;
          table_is =
              e ∙ ap₂ without_mark marks (rank-slot s v own rank own-rank)
              ∙ seen-less s v limits below (drop (suc i) (held s.epsilon b)) (own ∷ drop (suc i) (held s.epsilon b)) own (λ p. refl) (placeable-at i more) alone
              ∙ ap (λ (n : ℕ). seen_table s v (drop n (held s.epsilon b))) (sym (add-one i));
          most = omega arith;
        }

pub unmarking-long : {s : Setup} {v least : ℕ} {b table : List ℕ} {index i at : ℕ} → Unmarking s v least b table index i at → length table ≡ table_length
unmarking-long {s} {v} {b} {i} walk = ap length walk.table_is ∙ length_seen s v (drop i (held s.epsilon b))

pub unmarking-ends : {s : Setup} {v least : ℕ} {b table : List ℕ} {index i at : ℕ} → Unmarking s v least b table index i at → index ≤ i → table ≡ seen_table s v (drop index (held s.epsilon b))
unmarking-ends {s} {v} {b} {index} {i} walk h =
    let e : i ≡ index = omega (arith, walk.most) in
    walk.table_is ∙ ap (λ (n : ℕ). seen_table s v (drop n (held s.epsilon b))) e

-- ---- the others

two-more : (n : ℕ) → 2 + n ≡ suc (suc n)
two-more n = omega arith

leading-drop : (p : Frame → Bool) (e : ℕ) (l : List Frame) → e ≤ leading p l → leading p l ≡ e + leading p (drop e l)
unfolding leading
leading-drop p zero l h = sym (zero-add (leading p l))
leading-drop p (suc e) [] h = absurd (not-suc-le-zero h)
leading-drop p (suc e) (x ∷ l) h =
    elim (true-or-false (p x)) [
      | inl t ↦ rw t (omega (arith, leading-drop p e l (le_of_suc-le-suc (rw t at h))))
      | inr t ↦ absurd (not-suc-le-zero (rw t at h))
    ]

module _ (s : Setup) (v least : ℕ) (b : List ℕ) (sound : sound_holdback s v least b ≡ true) (limits : Limits s) (clean : Bytes b) (two : 2 ≤ length b) where
  abbrev index : ℕ
  index = length (overdue_frames s v b)

  abbrev others : List Frame
  others = other_frames s v b

  pub index_in : index ≤ two_at b 0
  index_in = omega (arith, select-length-le (due_before s v) (held s.epsilon b), length-held s.epsilon b)

  pub others-number : length others ≡ two_at b 0 - index
  others-number =
      ap length (sym (overdue-others s v least b sound)) ∙ length-drop index (held s.epsilon b) ∙ ap (λ (n : ℕ). n - index) (length-held s.epsilon b)

  others-few : length others ≤ depth s.n s.epsilon s.delta
  others-few = omega (arith, others-number, sound-few s v least b sound)

  -- no due clock is before v
  others-ok : QueueOk s v s.modulus others
  others-ok = queue-rest s v least (held s.epsilon b) (sound-queue s v least b limits sound)

  parts : (i : ℕ) → i ≤ two_at b 0 → Pieces s.epsilon b i
  parts i h = pieces s.epsilon b clean two (sound-formed s v least b (two_at b 0) (λ k l. sound-frames s v least b sound k l)) i h

  start-old : (i : ℕ) → i ≤ two_at b 0 → frame_start s.epsilon b i ≡ 2 + length (joined encode (take i (held s.epsilon b)))
  start-old i h = (parts i h).front

  -- where they end in a delivery
  pub overdue-ends : frame_start s.epsilon b index ≡ length (encode_frames (overdue_frames s v b))
  unfolding encode_frames two_bytes
  overdue-ends = start-old index index_in ∙ ap (λ (l : List Frame). 2 + length (joined encode l)) (overdue-first s v least b sound) ∙ two-more (length (joined encode (overdue_frames s v b)))

  pub overdue-small : (index ≤ 1792) × (frame_start s.epsilon b index < start_unit)
  overdue-small =
      spans-small s b index limits (omega (arith, index_in, sound-few s v least b sound))
      (sound-formed s v least b index (λ k l. sound-frames s v least b sound k (omega (arith, index_in))))

  pub overdue-spans : {count stop at front : ℕ} → count ≡ two_at b 0 → stop ≡ frame_start s.epsilon b count → OverdueFront s v b front at → Spans s.epsilon b count stop front at
  overdue-spans count-is ends overdue =
      record {
        formed = every-mono (passes s) (well_formed s.epsilon) (held_bytes s.epsilon b) (λ x h. (passing s x h).well) (sound-passes s v least b sound);
        two = two;
        count-is = count-is;
        ends = ends;
        inside = omega (arith, overdue.number, index_in);
        starts = overdue.starts;
      }

  -- once they have left
  module _ (b' : List ℕ) (left : b' ≡ released_buffer s v b) where
    pub left-held : held s.epsilon b' ≡ others
    unfolding overlay
    left-held =
        ap (held s.epsilon) left
        ∙ trips.held-frames s.epsilon others _ (λ f m. (others-ok.frames f m).sound.wide) (omega (arith, others-few, depth_small s limits))

    pub left-count : two_at b' 0 ≡ two_at b 0 - index
    unfolding overlay
    left-count = ap (λ (l : List ℕ). two_at l 0) left ∙ trips.two-at-encode others _ ∙ others-number

    pub left-sound : sound_holdback s v s.modulus b' ≡ true
    unfolding overlay
    left-sound = ap (sound_holdback s v s.modulus) left ∙ frames-sound s v s.modulus others _ limits others-few others-ok

    pub start_left : (i : ℕ) → i ≤ two_at b 0 - index → frame_start s.epsilon b' i + frame_start s.epsilon b index ≡ frame_start s.epsilon b (index + i) + 2
    unfolding overlay
    start_left i h =
        let q : List Frame = held s.epsilon b in
        let x : List ℕ = joined encode (take index q) in
        let y : List ℕ = joined encode (take i others) in
        let more : joined encode (take (index + i) q) ≡ x ++ y =
        ap (joined encode) (take-add index i q ∙ ap (λ (l : List Frame). take index q ++ take i l) (overdue-others s v least b sound)) ∙ joined-append encode (take index q) (take i others) in
        let new : frame_start s.epsilon b' i ≡ 2 + length y =
        ap (λ (l : List ℕ). frame_start s.epsilon l i) left ∙ written_start s.epsilon others _ (λ f m. (others-ok.frames f m).sound.wide) i (omega (arith, others-number)) in
        omega (arith, new, start-old index index_in, start-old (index + i) (omega (arith, index_in)), ap length more, length-append x y)

    -- each entry is lower by them
    pub start-lowered : (k : ℕ) → start_of s v b k ≡ start_of s v b' k + (index * start_unit + (frame_start s.epsilon b index - 2))
    unfolding start_of
    start-lowered k =
        let p : Frame → Bool = λ f. ltb (due_near s v f) (s.modulus + k) in
        let q : List Frame = held s.epsilon b in
        let low : index ≤ leading p q =
        rw (← overdue-number s v least b sound) (leading-mono (λ f. ltb (due_near s v f) (s.modulus + 0)) p q (λ f e. lt-ltb (due_near s v f) (s.modulus + k) (omega (arith, ltb-true (due_near s v f) (s.modulus + 0) e)))) in
        let fewer : leading p q ≡ index + frames_below s v b' k =
        leading-drop p index q low ∙ ap (λ (l : List Frame). index + leading p l) (overdue-others s v least b sound ∙ sym left-held) in
        let most : frames_below s v b' k ≤ two_at b 0 - index =
        omega (arith, leading_le p (held s.epsilon b'), length-held s.epsilon b', left-count) in
        rw fewer (omega (arith, start_left (frames_below s v b' k) most, start-old index index_in))

    pub starts-left : {starts l : List ℕ} → starts ≡ starts_of s v b → l ≡ lowered_starts (used_entries s) (index * start_unit + (frame_start s.epsilon b index - 2)) starts → l ≡ starts_of s v b'
    starts-left {starts} old e =
        let step : ℕ = index * start_unit + (frame_start s.epsilon b index - 2) in
        let to : ℕ = used_entries s in
        starts_by s v b' (changed-long (λ m. m - step) 0 starts to e)
        (λ k a h. changed-at (λ m. m - step) 0 starts to e k h ∙ rw (starts-at s v b limits old k a, le-ltb k 0 zero-le, lt-ltb k to a) (omega (arith, start-lowered k)))
        (λ k a h. changed-past (λ m. m - step) 0 starts to e k a h ∙ starts-past s v b old k a h)

  -- where there are none, nothing changes
  module _ (none : index ≡ 0) where
    pub none-held : held s.epsilon b ≡ others
    none-held = sym (ap (λ (n : ℕ). drop n (held s.epsilon b)) none) ∙ overdue-others s v least b sound

    pub none-leave : b ≡ released_buffer s v b
    none-leave = written_over s.epsilon b 0 (parts 0 zero-le) ∙ ap (λ (l : List Frame). overlay (encode_frames l) b) none-held

    pub none-sound : sound_holdback s v s.modulus b ≡ true
    none-sound =
        bytes-sound s v s.modulus b (omega (arith, length-held s.epsilon b, sound-few s v least b sound)) (sound-passes s v least b sound)
        (rw none-held others-ok)

-- ---- all together

module _ {s : Setup} {v : ℕ} {b : List ℕ} {front at : ℕ} (sound : SoundBy s v b) (limits : Limits s) (clean : Bytes b) (two : 2 ≤ length b) (overdue : OverdueFront s v b front at) where
  at-ends : at ≡ length (encode_frames (overdue_frames s v b))
  at-ends = overdue.starts ∙ ap (frame_start s.epsilon b) overdue.number ∙ overdue-ends s v sound.least b sound.sound limits clean two

  pub released-none : {table starts d d' : List ℕ} → front ≡ 0 → table ≡ seen_table s v (held s.epsilon b) → starts ≡ starts_of s v b
      → d' ≡ overlay (encode_frames (overdue_frames s v b)) d → Released s v b d front at b table starts d'
  released-none zero_is marks tabled given =
      let none : length (overdue_frames s v b) ≡ 0 = sym overdue.number ∙ zero_is in
      let same = none-held s v sound.least b sound.sound limits clean two none in
      record {
        number = overdue.number;
        ends = at-ends;
        queue-is = none-leave s v sound.least b sound.sound limits clean two none;
        held-is = same;
        sound = none-sound s v sound.least b sound.sound limits clean two none;
        count-is = omega arith;
        stop_is = omega (arith, overdue.starts ∙ ap (frame_start s.epsilon b) zero_is, start-zero s.epsilon b);
        table_is = marks ∙ ap (seen_table s v) same;
        starts_is = tabled;
        given = given;
      }

  pub released-some : {b' table' starts' d d' : List ℕ} → Left s v b front b' table' starts'
      → d' ≡ overlay (encode_frames (overdue_frames s v b)) d → Released s v b d front at b' table' starts' d'
  released-some {b'} left given =
      let n : ℕ = length (overdue_frames s v b) in
      let inside = index_in s v sound.least b sound.sound limits clean two in
      let counted = left-count s v sound.least b sound.sound limits clean two b' left.queue-is in
      let all : n + (two_at b 0 - n) ≡ two_at b 0 = omega arith in
      let stop = start_left s v sound.least b sound.sound limits clean two b' left.queue-is (two_at b 0 - n) (omega arith) in
      record {
        number = overdue.number;
        ends = at-ends;
        queue-is = left.queue-is;
        held-is = left-held s v sound.least b sound.sound limits clean two b' left.queue-is;
        sound = left-sound s v sound.least b sound.sound limits clean two b' left.queue-is;
        count-is = counted ∙ ap (λ (m : ℕ). two_at b 0 - m) (sym overdue.number);
        stop_is =
            ap₂ ◌+◌ (ap (frame_start s.epsilon b') counted) (overdue.starts ∙ ap (frame_start s.epsilon b) overdue.number)
            ∙ stop ∙ ap (λ (m : ℕ). frame_start s.epsilon b m + 2) all;
        table_is = left.table_is;
        starts_is = left.starts_is;
        given = given;
      }

-- the buffer keeps its length
pub released-long : (s : Setup) (v : ℕ) (b : List ℕ) → Limits s → SoundBy s v b → length b ≡ holdback_size s → length (released_buffer s v b) ≡ length b
unfolding encode_frames holdback_length
released-long s v b limits sound size =
    length-overlay (encode_frames (other_frames s v b)) b
    (rw size (trips.length-frames encode (other_frames s v b) (longest_frame s.epsilon) (depth s.n s.epsilon s.delta) (λ f m. trips.frame-fits s f (others-ok.frames f m)) few))
  where
    others-ok : QueueOk s v s.modulus (other_frames s v b)
    others-ok = queue-rest s v sound.least (held s.epsilon b) (sound-queue s v sound.least b limits sound.sound)

    few : length (other_frames s v b) ≤ depth s.n s.epsilon s.delta
    few = omega (arith, select-length-le (λ f. not (due_before s v f)) (held s.epsilon b), length-held s.epsilon b, sound-few s v sound.least b sound.sound)

-- ---- the delivery

-- one that is begun has no frame yet
module _ (epsilon : ℕ) (d a : List ℕ) (long : 2 ≤ length d) (begun : a ≡ pasted d 0 (two_bytes 0)) where
  written-front : a ≡ two_bytes 0 ++ drop 2 d
  unfolding pasted two_bytes
  written-front = begun ∙ refl

  no_frames_lem : two_at a 0 ≡ 0
  unfolding two_bytes two_at
  no_frames_lem = ap (λ (l : List ℕ). two_at l 0) written-front ∙ refl

  pub begun-spans : Spans epsilon a 0 2 0 2
  unfolding held_bytes cut_frames cut_by every two_bytes
  begun-spans =
      record {
        formed = rw no_frames_lem refl;
        two = rw written-front (omega (arith, length-append (two_bytes 0) (drop 2 d)));
        count-is = sym no_frames_lem;
        ends = sym (start-zero epsilon a);
        inside = zero-le;
        starts = sym (start-zero epsilon a);
      }

  begun-held : held epsilon a ≡ []
  unfolding held held_bytes cut_frames cut_by
  begun-held = rw no_frames_lem refl

  -- what is then written hides it
  pub begun-given : {l : List ℕ} (q q' : List Frame) → q' ≡ q → l ≡ overlay (encode_frames (held epsilon a ++ q')) a → l ≡ overlay (encode_frames q) d
  unfolding overlay encode_frames two_bytes
  begun-given q q' same e =
      e ∙ ap₂ (λ (g h : List Frame). overlay (encode_frames (g ++ h)) a) begun-held same
      ∙ ap (λ (l : List ℕ). encode_frames q ++ l) (ap (drop (length (encode_frames q))) written-front ∙ drop-drop (length (joined encode q)) 2 d ∙ ap (λ (n : ℕ). drop n d) (two-more (length (joined encode q))))
