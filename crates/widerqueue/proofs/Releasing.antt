-- 02, 2.2 with both pairs: what is due before v is the front of a sound queue; once it has left, its marks are gone.
-- Assumes nothing.
use Prim.Native.Nat.{ℕ, suc, ◌+◌, ◌-◌, ◌≤◌, ◌<◌, zero-le}
use native.Mathlib.Nat.{sub-zero}
use native.Mathlib.Omega.{arith}
use mathlib.Core.Path.{◌≡◌, refl, sym, ap, ap₂, ◌∙◌}
use mathlib.Core.Bool.{Bool, true, false, not}
use mathlib.Core.List.{List, [], ◌∷◌, ◌++◌, Memᴰ}
use lib.Dec.{eqb}
use lib.ListN.{length, take, drop, length-append, length-drop, take-append-drop}
use lib.Seq.{length-take-le, drop-drop}
use Rattle.laws.specs.Lists.{any, apart, leading, select, joined, overlay}
use Rattle.laws.proofs.Numbers.{and_left, false_of_not}
use Rattle.laws.proofs.Lists.{leading_le, joined-append, any-ext, mem-of-drop}
use Rattle.model.specs.Setup.{Setup}
use Rattle.model.specs.Frame.{Frame, two_bytes, two_at, encode, decode}
use Rattle.model.specs.Holdback.{same_origin, encode_frames}
use Rattle.model.specs.Schedule.{Schedule, modulus_of, own_limits}
use Rattle.model.specs.Wider.{wider_decode, wider_end, wider_passes, wider_held, wider_sound_holdback}
use Rattle.splice.specs.Bytes.{pasted}
use Rattle.lemmas.specs.Standing.{left_by}
use Rattle.lemmas.proofs.Bounds.{Limits}
use Rattle.lemmas.proofs.RoundTrip.{two-at-encode}
use Rattle.lemmas.proofs.FrameWalk.{lent, lent_is, bytes_by, next_by, left-more, Seeking, seek-starts, seek-turns}
use Rattle.lemmas.proofs.Schedules.{Good}
use Rattle.lemmas.proofs.WideFrames.{length-wide-held, wide-held}
use Rattle.lemmas.proofs.WiderQueue.{QueueAlong, sound-along, rest-along, bytes-along}
use Rattle.timestamp.specs.declared.ordering.Rank.{Rank}
use Rattle.holdback.specs.Queue.{rank_of, Written}
use Rattle.holdback.specs.Sound.{Recent}
use Rattle.holdback.specs.Seen.{Placeable, Within, table_length, rank_slot, slot_of, seen_table, has_mark, without_mark, is_marked}
use Rattle.holdback.proofs.RoundTrip.{Bytes}
use Rattle.holdback.proofs.Seen.{within, rank-slot, same-slot, seen-own, seen-less, length_seen}
use Rattle.holdback.proofs.Releasing.{apart-drop}
use Rattle.widerqueue.specs.Queue.{Extent, Stands}
use Rattle.widerqueue.specs.Overdue.{SoundBy, overdue_frames, other_frames, Released}
use Rattle.widerqueue.proofs.Shared.{own-good, own-modulus, rank_same}
use Rattle.widerqueue.proofs.Forms.{held-left}
use Rattle.widerqueue.proofs.Queues.{sound-few, sound-stand, sound-placeable}
use Rattle.widerqueue.proofs.Fronts.{due_under, under-prefix, under_rest, before-under}

-- ---- the marks

-- a walk over the front that has taken the marks of i frames away
pub record Unmarking (g : Schedule) (v least : ℕ) (b table : List ℕ) (index i at : ℕ) : Type 0 where
  pub sound : wider_sound_holdback g v least b ≡ true
  pub seek : Seeking (wider_end g) (wider_decode g) (wider_passes g) (λ _. true) b 2 (two_at b 0) i at
  pub table_is : table ≡ seen_table (own_limits g) v (drop i (wider_held g b))
  pub rest-is : left_by (wider_end g) (wider_decode g) b at (two_at b 0 - i) ≡ drop i (wider_held g b)
  pub most : i ≤ index

pub unmarking-starts : {g : Schedule} {v least : ℕ} {b table : List ℕ} {index : ℕ} → wider_sound_holdback g v least b ≡ true → 2 ≤ length b → table ≡ seen_table (own_limits g) v (wider_held g b) → Unmarking g v least b table index 0 2
unmarking-starts {g} {v} {least} {b} sound two e =
    record { sound = sound; seek = seek-starts (sound-stand g v least b sound two refl); table_is = e; rest-is = ap (left_by (wider_end g) (wider_decode g) b 2) (sub-zero (two_at b 0)) ∙ sym (held-left g b); most = zero-le }

-- the bytes of a frame, by where it ends in what is lent
pub part-is : (end : List ℕ → ℕ) (b : List ℕ) (at size : ℕ) → size ≡ end (lent b at) → take (at + size - at) (drop at b) ≡ bytes_by end b at
part-is end b at size e =
    let n : at + size - at ≡ end (drop at b) = omega (arith, e ∙ ap end (lent_is b at)) in
    ap (λ (k : ℕ). take k (drop at b)) n

next-is : (end : List ℕ → ℕ) (b : List ℕ) (at size : ℕ) → size ≡ end (lent b at) → at + size ≡ next_by end b at
next-is end b at size e = ap (λ (n : ℕ). at + n) (e ∙ ap end (lent_is b at))

tail_of : (i : ℕ) (l t : List Frame) (x : Frame) → drop i l ≡ x ∷ t → drop (i + 1) l ≡ t
tail_of i l t x e = sym (drop-drop 1 i l) ∙ ap (drop 1) e

module _ {g : Schedule} {v least : ℕ} {b table : List ℕ} {index i at : ℕ} (walk : Unmarking g v least b table index i at) (more : i < two_at b 0)
    (good : Good g) (below : v < modulus_of g) (near : Recent (own_limits g) least) where
  abbrev s : Setup
  s = own_limits g

  abbrev own : Frame
  own = wider_decode g (bytes_by (wider_end g) b at)

  abbrev later : List Frame
  later = left_by (wider_end g) (wider_decode g) b (next_by (wider_end g) b at) (two_at b 0 - (i + 1))

  limits : Limits s
  limits = own-good g good

  low : v < s.modulus
  low = omega (arith, own-modulus g good)

  front : drop i (wider_held g b) ≡ own ∷ later
  front =
      sym walk.rest-is
      ∙ ap (left_by (wider_end g) (wider_decode g) b at) (let n : two_at b 0 - i ≡ suc (two_at b 0 - (i + 1)) = omega arith in n)
      ∙ left-more (wider_end g) (wider_decode g) b at (two_at b 0 - (i + 1))

  placeable-of : (f : Frame) → Memᴰ f (own ∷ later) → Placeable s v f
  placeable-of f m = sound-placeable g v least b walk.sound good near f (mem-of-drop i (wider_held g b) (rw (← front) at m))

  -- no later frame has its place
  alone : any (λ f. eqb (slot_of s v f) (slot_of s v own)) later ≡ false
  unfolding apart
  alone =
      any-ext (λ f. eqb (slot_of s v f) (slot_of s v own)) (same_origin own) later
      (λ f m. same-slot s v limits low own f (placeable-of own (Memᴰ.head refl)) (placeable-of f (Memᴰ.tail m)))
      ∙ false_of_not (any (same_origin own) later)
      (and_left (not (any (same_origin own) later)) (apart same_origin later)
      (rw front at (apart-drop i (wider_held g b) (sound-along g good v least b walk.sound).single)))

  module _ {size : ℕ} (es : size ≡ wider_end g (lent b at)) (u : Setup) (eu : u ≡ own_limits g) (rank : Rank)
      (er : rank ≡ rank_of u v (decode u.epsilon (take (at + size - at) (drop at b)))) where
    own-rank : rank ≡ rank_of s v own
    own-rank =
        er ∙ rank_same g u eu v (take (at + size - at) (drop at b)) ∙ ap (λ (l : List ℕ). rank_of s v (wider_decode g l)) (part-is (wider_end g) b at size es)

    pub unmarking-within : Within u rank
    unmarking-within = rw eu (within s v limits low own rank (placeable-of own (Memᴰ.head refl)) own-rank)

    marks : table ≡ seen_table s v (own ∷ later)
    marks = walk.table_is ∙ ap (seen_table s v) front

    slot_is : rank_slot u rank ≡ slot_of s v own
    slot_is = ap (λ (w : Setup). rank_slot w rank) eu ∙ rank-slot s v own rank own-rank

    pub unmarking-there : has_mark table (rank_slot u rank) ≡ true
    unfolding any is_marked
    unmarking-there =
        ap₂ has_mark marks slot_is ∙ seen-own s v limits low later (own ∷ later) own (λ p. refl) (placeable-of own (Memᴰ.head refl))

    pub unmarking-turns : (l : List ℕ) → i < index → l ≡ without_mark table (rank_slot u rank) → Unmarking g v least b l index (i + 1) (at + size)
    unfolding any
    unmarking-turns l few e =
        record {
          sound = walk.sound;
          seek = seek-turns walk.seek more es {t = true} refl refl;
          table_is =
              e ∙ ap₂ without_mark marks slot_is
              ∙ seen-less s v limits low later (own ∷ later) own (λ p. refl) (placeable-of own (Memᴰ.head refl)) alone
              ∙ ap (seen_table s v) (sym (tail_of i (wider_held g b) later own front));
          rest-is =
              ap (λ (n : ℕ). left_by (wider_end g) (wider_decode g) b n (two_at b 0 - (i + 1))) (next-is (wider_end g) b at size es)
              ∙ sym (tail_of i (wider_held g b) later own front);
          most = omega arith;
        }

pub unmarking-long : {g : Schedule} {v least : ℕ} {b table : List ℕ} {index i at : ℕ} → Unmarking g v least b table index i at → length table ≡ table_length
unmarking-long {g} {v} {b} {i} walk = ap length walk.table_is ∙ length_seen (own_limits g) v (drop i (wider_held g b))

pub unmarking-ends : {g : Schedule} {v least : ℕ} {b table : List ℕ} {index i at : ℕ} → Unmarking g v least b table index i at → index ≤ i → table ≡ seen_table (own_limits g) v (drop index (wider_held g b))
unmarking-ends {g} {v} {b} {index} {i} walk h =
    let e : i ≡ index = omega (arith, walk.most) in
    walk.table_is ∙ ap (λ (n : ℕ). seen_table (own_limits g) v (drop n (wider_held g b))) e

-- ---- all together

module _ {g : Schedule} {v : ℕ} {b : List ℕ} {count stop index at : ℕ} (good : Good g) (sound : SoundBy g v b) (bytes : Bytes b)
    (extent : Extent g b count stop) (stands : Stands g b (leading (due_under g v (modulus_of g)) (wider_held g b)) index at) where
  abbrev all : List Frame
  all = wider_held g b

  opened : QueueAlong g v sound.least all
  opened = sound-along g good v sound.least b sound.sound

  pub overdue-first : take index all ≡ overdue_frames g v b
  overdue-first =
      ap (λ (n : ℕ). take n all) stands.frames
      ∙ sym (under-prefix g good v all opened.ordered (modulus_of g)) ∙ ap (λ (p : Frame → Bool). select p all) (sym (before-under g v))

  pub overdue-others : drop index all ≡ other_frames g v b
  overdue-others =
      ap (λ (n : ℕ). drop n all) stands.frames
      ∙ sym (under_rest g good v all opened.ordered (modulus_of g)) ∙ ap (λ (p : Frame → Bool). select (λ f. not (p f)) all) (sym (before-under g v))

  index_in : index ≤ length all
  index_in = omega (arith, stands.frames, leading_le (due_under g v (modulus_of g)) all)

  overdue-number : index ≡ length (overdue_frames g v b)
  overdue-number = sym (length-take-le index all index_in) ∙ ap length overdue-first

  others-number : length (other_frames g v b) ≡ two_at b 0 - index
  others-number = ap length (sym overdue-others) ∙ length-drop index all ∙ ap (λ (n : ℕ). n - index) (length-wide-held g b)

  others-ok : QueueAlong g v (modulus_of g) (other_frames g v b)
  others-ok = rest-along g good v sound.least all opened

  at-is : at ≡ length (encode_frames (overdue_frames g v b))
  at-is = stands.starts ∙ ap (λ (q : List Frame). length (encode_frames q)) overdue-first

  both_long : length (encode_frames (other_frames g v b)) + at ≡ length (encode_frames all) + 2
  unfolding encode_frames two_bytes
  both_long =
      let whole : joined encode all ≡ joined encode (overdue_frames g v b) ++ joined encode (other_frames g v b) =
      ap (joined encode) (sym (take-append-drop index all)) ∙ joined-append encode (take index all) (drop index all)
      ∙ ap₂ (λ (x y : List Frame). joined encode x ++ joined encode y) overdue-first overdue-others in
      omega (arith, at-is, ap length whole, length-append (joined encode (overdue_frames g v b)) (joined encode (other_frames g v b)))

  module _ {b' : List ℕ} (left : b' ≡ overlay (encode_frames (drop index all)) b) where
    queue-left : b' ≡ overlay (encode_frames (other_frames g v b)) b
    queue-left = left ∙ ap (λ (q : List Frame). overlay (encode_frames q) b) overdue-others

    held-left' : wider_held g b' ≡ other_frames g v b
    unfolding overlay
    held-left' = ap (wider_held g) queue-left ∙ wide-held g (other_frames g v b) (λ f m. (others-ok.frames f m).wide) _

    sound-left : wider_sound_holdback g v (modulus_of g) b' ≡ true
    unfolding overlay
    sound-left =
        ap (wider_sound_holdback g v (modulus_of g)) queue-left
        ∙ bytes-along g good v (modulus_of g) (other_frames g v b) _ (omega (arith, others-number, sound-few g v sound.least b sound.sound)) others-ok

    count_left : two_at b' 0 ≡ two_at b 0 - index
    unfolding overlay
    count_left = ap (λ (l : List ℕ). two_at l 0) queue-left ∙ two-at-encode (other_frames g v b) _ ∙ others-number

    pub released : (d : List ℕ) {table' d' : List ℕ} → table' ≡ seen_table (own_limits g) v (drop index all) → d' ≡ overlay (encode_frames (overdue_frames g v b)) d
        → Released g v b d index at b' table' d'
    released d marks given =
        record {
          number = overdue-number;
          ends = at-is;
          queue-is = queue-left;
          held-is = held-left';
          sound = sound-left;
          count-is = count_left;
          stop_is = ap (λ (q : List Frame). length (encode_frames q) + at) held-left' ∙ both_long;
          table_is = marks ∙ ap (seen_table (own_limits g) v) overdue-others;
          given = given;
        }

-- ---- a delivery that is begun has no frame yet

module _ (d a : List ℕ) (long : 2 ≤ length d) (begun : a ≡ pasted d 0 (two_bytes 0)) where
  begun-front : a ≡ two_bytes 0 ++ drop 2 d
  unfolding pasted two_bytes
  begun-front = begun ∙ refl

  pub begun-written : Written [] a 0 2 0 2
  unfolding encode_frames joined overlay two_bytes
  begun-written =
      record {
        front = begun-front ∙ sym (ap (λ (l : List ℕ). overlay (encode_frames []) l) begun-front);
        count-is = refl;
        ends = refl;
        inside = zero-le;
        starts = refl;
      }

  -- what is then written hides it
  pub begun-given : {l : List ℕ} (q q' : List Frame) → q' ≡ q → l ≡ overlay (encode_frames ([] ++ q')) a → l ≡ overlay (encode_frames q) d
  unfolding overlay encode_frames two_bytes
  begun-given q q' same e =
      e ∙ ap (λ (h : List Frame). overlay (encode_frames h) a) same
      ∙ ap (λ (l : List ℕ). encode_frames q ++ l)
      (ap (drop (length (encode_frames q))) begun-front ∙ drop-drop (length (joined encode q)) 2 d ∙ ap (λ (n : ℕ). drop n d) (let two : 2 + length (joined encode q) ≡ suc (suc (length (joined encode q))) = omega arith in two))
