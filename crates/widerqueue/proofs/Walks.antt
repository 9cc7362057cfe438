-- The walk over the frames of a queue: one frame judged, one turn, the end.
-- Assumes nothing.
use Prim.Native.Nat.{ℕ, suc, ◌+◌, ◌-◌, ◌*◌, ◌≤◌, ◌<◌}
use native.Mathlib.Numerals.{add-one}
use native.Mathlib.Omega.{arith}
use mathlib.Core.Path.{◌≡◌, refl, sym, ap, ap₂, subst, ◌∙◌}
use mathlib.Core.Bool.{Bool, true, false, ◌||◌}
use mathlib.Core.List.Memᴰ
use mathlib.Core.List.{List, [], ◌∷◌, ◌++◌, Memᴰ}
use lib.Dec.{eqb}
use lib.ListN.{length, take, drop, get_or, replicate, length-drop}
use lib.Seq.{take_all}
use borrow.Author.Tests.{lt-leb}
use Rattle.laws.specs.Lists.{any, every, joined}
use Rattle.laws.proofs.Numbers.{clash, and-false, and_left, and_right, false-of-no}
use Rattle.laws.proofs.Lists.{any_append, every-mem}
use Rattle.model.specs.Setup.{Setup, depth_of, holdback_length}
use Rattle.model.specs.Tick.{holdback_size}
use Rattle.model.specs.Frame.{Frame, two_bytes, two_at}
use Rattle.model.specs.Question.{first_no}
use Rattle.model.specs.Holdback.{cut_by, same_origin, not_early, encode_frames}
use Rattle.model.specs.Schedule.{Schedule, modulus_of, own_limits}
use Rattle.model.specs.Wider.{half_in, wider_reading, wider_decode, wider_end, wider_passes, wider_before, wider_frame_questions, wider_not_expired, wider_held_bytes, wider_held, wider_sound_holdback, wider_opening_queue}
use Rattle.lemmas.specs.Standing.{end_by}
use Rattle.lemmas.proofs.Bounds.{Limits}
use Rattle.lemmas.proofs.FrameWalk.{lent, lent_is, next_by, end-last, end_low}
use Rattle.lemmas.proofs.Schedules.{Good}
use Rattle.lemmas.proofs.WideFrames.{FrameWithin, length-wide-held}
use Rattle.timestamp.specs.declared.ordering.Rank.{Rank}
use Rattle.holdback.specs.declared.soundness.Walk.{Walk}
use Rattle.holdback.specs.Queue.{rank_of}
use Rattle.holdback.specs.Sound.{Recent, emptied}
use Rattle.holdback.specs.Seen.{Placeable, Within, table_length, word_length, rank_slot, slot_of, seen_table, has_mark, with_mark, is_marked, marked}
use Rattle.holdback.proofs.RoundTrip.{Bytes}
use Rattle.holdback.proofs.Frames as frames
use Rattle.holdback.proofs.Seen.{within, rank_below, rank-slot, seen_at, seen_more, seen_none, length_seen}
use Rattle.widerqueue.specs.declared.soundness.Judged.{Judged}
use Rattle.widerqueue.specs.declared.soundness.Last.{Last}
use Rattle.widerqueue.specs.Sound.{fits, follows, frame_sound, sound_parts, bytes_from, frames_to, frame_at, start_of, unsound, judged_at, Walking, Walked}
use Rattle.widerqueue.proofs.Shared.{own-good, own-modulus}
use Rattle.widerqueue.proofs.Forms.{wide-inside, passes-formed, held-left, starts-written}
use Rattle.widerqueue.proofs.Orders.{half-most, within-own}
use Rattle.widerqueue.proofs.Parts.{Behind, parts_from, parts_none, parts-sound, sound-parts, behind-from, frame-at, frame-more, frames-last, follows-last}
use Rattle.widerqueue.proofs.Queues.{placeable, sound-formed}

-- ---- what the tests of one frame say

-- not sound where a test fails
module _ (g : Schedule) (v least : ℕ) (ahead : List Frame) (bytes : List ℕ) where
  pub unfit-sound : fits g v least bytes ≡ false → frame_sound g v least ahead bytes ≡ false
  unfolding frame_sound
  unfit-sound h = rw h

  pub unpassed-sound : wider_passes g bytes ≡ false → frame_sound g v least ahead bytes ≡ false
  unfolding frame_sound fits
  unpassed-sound h = rw h

  pub unordered-sound : follows g v ahead (wider_decode g bytes) ≡ false → frame_sound g v least ahead bytes ≡ false
  unfolding frame_sound
  unordered-sound h = rw h (and-false (fits g v least bytes))

  pub repeated-sound : any (same_origin (wider_decode g bytes)) ahead ≡ true → frame_sound g v least ahead bytes ≡ false
  unfolding frame_sound
  repeated-sound h = rw (h, and-false (follows g v ahead (wider_decode g bytes))) (and-false (fits g v least bytes))

  pub all_sound : fits g v least bytes ≡ true → follows g v ahead (wider_decode g bytes) ≡ true → any (same_origin (wider_decode g bytes)) ahead ≡ false → frame_sound g v least ahead bytes ≡ true
  unfolding frame_sound
  all_sound f o n = rw (f, o, n)

-- what 10 to 12 answer
pub passes-by : (g : Schedule) (bytes : List ℕ) (r : ℕ) → r ≡ first_no (wider_frame_questions g bytes) → eqb r 0 ≡ wider_passes g bytes
unfolding wider_passes
passes-by g bytes r e = ap (λ (n : ℕ). eqb n 0) e

-- ---- one frame judged

module _ (g : Schedule) (v least : ℕ) (b : List ℕ) (i : ℕ) where
  pub judged-no : frame_sound g v least (frames_to g b i) (bytes_from g b (start_of g b i)) ≡ false → unsound ≡ judged_at g v least b i
  unfolding judged_at
  judged-no h = rw h

  pub judged-yes : {end reading slot : ℕ} → frame_sound g v least (frames_to g b i) (bytes_from g b (start_of g b i)) ≡ true
      → end ≡ start_of g b (suc i) → reading ≡ wider_reading g v (frame_at g b i) → slot ≡ slot_of (own_limits g) v (frame_at g b i)
      → record { end = end; reading = reading; slot = slot } ≡ judged_at g v least b i
  unfolding judged_at
  judged-yes h e r s = rw (h, e, r, s)

  -- a frame that is judged so
  pub record Right (judged : Judged) : Type 0 where
    pub sound : frame_sound g v least (frames_to g b i) (bytes_from g b (start_of g b i)) ≡ true
    pub end_is : judged.end ≡ start_of g b (suc i)
    pub reading-is : judged.reading ≡ wider_reading g v (frame_at g b i)
    pub slot_is : judged.slot ≡ slot_of (own_limits g) v (frame_at g b i)

  -- where the next one starts is past 0
  start-past : (k : ℕ) → 0 < start_of g b k
  start-past k = omega (arith, end_low (wider_end g) b 2 k)

  pub judged-bad : (judged : Judged) → judged ≡ judged_at g v least b i → judged.end ≡ 0 → frame_sound g v least (frames_to g b i) (bytes_from g b (start_of g b i)) ≡ false
  unfolding judged_at
  judged-bad judged e z = false-of-no _ (λ h. absurd (omega (arith, start-past (suc i), at-end h)))
    where
      at-end : frame_sound g v least (frames_to g b i) (bytes_from g b (start_of g b i)) ≡ true → start_of g b (suc i) ≡ judged.end
      at-end h = sym (ap (λ (j : Judged). j.end) e ∙ rw h refl)

  pub judged-good : (judged : Judged) → judged ≡ judged_at g v least b i → (judged.end ≡ 0 → ⊥) → Right judged
  unfolding judged_at
  judged-good judged e some = go (frame_sound g v least (frames_to g b i) (bytes_from g b (start_of g b i))) refl
    where
      go : (t : Bool) → frame_sound g v least (frames_to g b i) (bytes_from g b (start_of g b i)) ≡ t → Right judged
      go false h = absurd (some (ap (λ (j : Judged). j.end) e ∙ rw h refl))
      go true h =
          record {
            sound = h;
            end_is = ap (λ (j : Judged). j.end) e ∙ rw h refl;
            reading-is = ap (λ (j : Judged). j.reading) e ∙ rw h refl;
            slot_is = ap (λ (j : Judged). j.slot) e ∙ rw h refl;
          }

-- ---- the walk

-- one more at the end
any_last : (p : Frame → Bool) (l : List Frame) (f : Frame) → any p (l ++ (f ∷ [])) ≡ (p f || any p l)
unfolding any
any_last p l f = any_append p l (f ∷ []) ∙ turned (any p l) (p f)
  where
    turned : (x y : Bool) → (x || (y || false)) ≡ (y || x)
    turned true true = refl
    turned true false = refl
    turned false true = refl
    turned false false = refl

pub walk-starts : {g : Schedule} {v least : ℕ} {b table : List ℕ} {last : Last} → 2 ≤ length b → table ≡ replicate table_length 0 → Walking g v least b table 0 last 2
unfolding cut_by end_by
walk-starts {g} {v} {least} two empty =
    record {
      starts = refl;
      inside = two;
      sound = parts_none g v least;
      last-at = λ h. absurd (omega arith);
      last-reads = λ h. absurd (omega arith);
      table_is = empty ∙ seen_none (own_limits g) v;
    }

pub table-long : {g : Schedule} {v least : ℕ} {b table : List ℕ} {i : ℕ} {last : Last} {at : ℕ} → Walking g v least b table i last at → length table ≡ table_length
table-long {g} {v} {b} {i} walk = ap length walk.table_is ∙ length_seen (own_limits g) v (frames_to g b i)

module _ {g : Schedule} {v least : ℕ} {b table : List ℕ} {i : ℕ} {last : Last} {at : ℕ} (walk : Walking g v least b table i last at) where
  abbrev own : List ℕ
  own = bytes_from g b (start_of g b i)

  -- its bytes, and where it ends
  pub own-bytes : {size : ℕ} → size ≡ wider_end g (lent b at) → take (at + size - at) (drop at b) ≡ own
  own-bytes {size} e =
      let n : at + size - at ≡ wider_end g (drop at b) = omega (arith, e ∙ ap (wider_end g) (lent_is b at)) in
      ap (λ (k : ℕ). take k (drop at b)) n ∙ ap (bytes_from g b) walk.starts

  pub own-next : {size : ℕ} → size ≡ wider_end g (lent b at) → at + size ≡ start_of g b (suc i)
  own-next {size} e =
      ap (λ (n : ℕ). at + n) (e ∙ ap (wider_end g) (lent_is b at)) ∙ ap (next_by (wider_end g) b) walk.starts ∙ sym (end-last (wider_end g) b 2 i)

  -- one that ends past the buffer does not pass 10 to 12
  pub past-passes : {size : ℕ} → size ≡ wider_end g (lent b at) → length b < at + size → wider_passes g own ≡ false
  past-passes {size} e h =
      false-of-no (wider_passes g own)
      (λ t.
      let there : drop at b ≡ drop (start_of g b i) b = ap (λ (n : ℕ). drop n b) walk.starts in
      let inside : wider_end g (drop at b) ≤ length (drop at b) = rw there (wide-inside g (drop (start_of g b i) b) (passes-formed g own t)) in
      omega (arith, e ∙ ap (wider_end g) (lent_is b at), length-drop at b, walk.inside))

  module _ (good : Good g) (below : v < modulus_of g) (recent : Recent (own_limits g) least) where
    abbrev s : Setup
    s = own_limits g

    limits : Limits s
    limits = own-good g good

    low : v < s.modulus
    low = omega (arith, own-modulus g good)

    -- each frame so far has a place
    placed-ahead : (f : Frame) → Memᴰ f (frames_to g b i) → Placeable s v f
    placed-ahead f m =
        let p = parts_from g v least (cut_by (wider_end g) i (drop 2 b)) walk.sound in
        one f (Memᴰ.of_map (wider_decode g) (cut_by (wider_end g) i (drop 2 b)) m) p.passing (every-mem (wider_not_expired g v least) p.expired m)
      where
        one : (f : Frame) → (a : List ℕ) × Memᴰ a (cut_by (wider_end g) i (drop 2 b)) × (wider_decode g a ≡ f) → every (wider_passes g) (cut_by (wider_end g) i (drop 2 b)) ≡ true → wider_not_expired g v least f ≡ true → Placeable s v f
        one f t p e = placeable g good v least f recent (subst (FrameWithin g s) t.2 (within-own g good t.0 (every-mem (wider_passes g) p t.1))) e

    -- and the next one, if it fits
    pub placed-own : fits g v least own ≡ true → Placeable s v (frame_at g b i)
    unfolding fits
    placed-own h =
        placeable g good v least (frame_at g b i) recent (within-own g good own (and_left (wider_passes g own) _ h))
        (and_right (not_early s v (wider_decode g own)) _ (and_right (wider_passes g own) _ h))

    -- 16 is one look-up
    pub seen-own : {slot : ℕ} → fits g v least own ≡ true → slot ≡ slot_of s v (frame_at g b i) → has_mark table slot ≡ any (same_origin (frame_at g b i)) (frames_to g b i)
    unfolding is_marked
    seen-own {slot} h e =
        ap₂ has_mark walk.table_is e ∙ seen_at s v limits low (frames_to g b i) (frame_at g b i) placed-ahead (placed-own h)

    -- one turn
    module _ {judged : Judged} (right : Right g v least b i judged) where
      behind : Behind g v least (frames_to g b i) own
      behind = behind-from g v least (frames_to g b i) own right.sound

      own-fits : fits g v least own ≡ true
      unfolding frame_sound
      own-fits = and_left (fits g v least own) _ right.sound

      pub judged-slot : judged.slot < table_length * word_length
      unfolding slot_of
      judged-slot = rw right.slot_is (rank_below s limits (rank_of s v (frame_at g b i)) (within s v limits low (frame_at g b i) (rank_of s v (frame_at g b i)) (placed-own own-fits) refl))

      pub judged-new : has_mark table judged.slot ≡ false
      judged-new = seen-own own-fits right.slot_is ∙ behind.new

      pub next-inside : judged.end ≤ length b
      next-inside =
          let start : ℕ = start_of g b i in
          let inside : wider_end g (drop start b) ≤ length (drop start b) = wide-inside g (drop start b) (passes-formed g own behind.passed) in
          omega (arith, right.end_is, end-last (wider_end g) b 2 i, length-drop start b, walk.inside, walk.starts)

      pub walk-turns : (l : List ℕ) → l ≡ with_mark table judged.slot → Walking g v least b l (i + 1) (record { at = at; reading = judged.reading }) judged.end
      unfolding marked is_marked any
      walk-turns l e =
          let one : i + 1 ≡ suc i = add-one i in
          let back : i + 1 - 1 ≡ i = omega arith in
          record {
            starts = right.end_is ∙ ap (start_of g b) (sym one);
            inside = next-inside;
            sound = ap (λ (n : ℕ). sound_parts g v least (cut_by (wider_end g) n (drop 2 b))) one ∙ frame-more g v least b i walk.sound right.sound;
            last-at = λ h. walk.starts ∙ ap (start_of g b) (sym back);
            last-reads = λ h. right.reading-is ∙ ap (λ (n : ℕ). wider_reading g v (frame_at g b n)) (sym back);
            table_is =
                e ∙ ap₂ with_mark walk.table_is right.slot_is
                ∙ seen_more s v limits low (frames_to g b i) (frames_to g b i ++ (frame_at g b i ∷ [])) (frame_at g b i) (λ p. any_last p (frames_to g b i) (frame_at g b i))
                (placed-own own-fits) (sym (ap (λ (t : List ℕ). has_mark t (slot_of s v (frame_at g b i))) walk.table_is) ∙ ap (has_mark table) (sym right.slot_is) ∙ judged-new)
                ∙ ap (seen_table s v) (sym (frames-last g b i) ∙ ap (frames_to g b) (sym one));
          }

-- ---- the answer

pub walked-no : {g : Schedule} {v least : ℕ} {b table : List ℕ} {walk : Walk} → walk ≡ emptied → wider_sound_holdback g v least b ≡ false → table ≡ replicate table_length 0
    → Walked g v least b walk.sound walk.count walk.end table
unfolding wider_opening_queue encode_frames two_bytes joined
walked-no {g} {v} {least} {b} e h empty =
    record {
      sound-is = ap (λ (w : Walk). w.sound) e ∙ sym h;
      count-is = ap (λ (w : Walk). w.count) e ∙ rw h refl;
      stop_is = ap (λ (w : Walk). w.end) e ∙ rw h refl;
      table_is = empty ∙ seen_none (own_limits g) v ∙ rw h refl;
    }

-- a frame that is not sound makes the queue unsound, and so do too many
pub walk-fails : (g : Schedule) (v least : ℕ) (b : List ℕ) (i : ℕ) → i < two_at b 0 → frame_sound g v least (frames_to g b i) (bytes_from g b (start_of g b i)) ≡ false → wider_sound_holdback g v least b ≡ false
unfolding wider_held_bytes
walk-fails g v least b i l h =
    false-of-no (wider_sound_holdback g v least b) (λ t. clash (frame-at g v least b i (two_at b 0) l (sound-parts g v least b t).1) h)

pub too_many : (g : Schedule) (v least : ℕ) (b : List ℕ) → depth_of (own_limits g) < two_at b 0 → wider_sound_holdback g v least b ≡ false
unfolding wider_sound_holdback
too_many g v least b h = rw (lt-leb (two_at b 0) (depth_of (own_limits g)) h)

all_held : {g : Schedule} {v least : ℕ} {b table : List ℕ} {i : ℕ} {last : Last} {at : ℕ} → Walking g v least b table i last at → i ≡ two_at b 0 → sound_parts g v least (wider_held_bytes g b) ≡ true
unfolding wider_held_bytes
all_held {g} {v} {least} {b} walk e = sym (ap (λ (n : ℕ). sound_parts g v least (cut_by (wider_end g) n (drop 2 b))) e) ∙ walk.sound

opened-sound : (g : Schedule) (v least : ℕ) (b : List ℕ) → wider_sound_holdback g v least b ≡ true → wider_opening_queue g v least b ≡ wider_held g b
unfolding wider_opening_queue
opened-sound g v least b h = rw h

-- all of them are sound
pub walked-yes : {g : Schedule} {v least : ℕ} {b table : List ℕ} {i : ℕ} {last : Last} {at count : ℕ} → Walking g v least b table i last at → Bytes b → 2 ≤ length b
    → count ≡ two_at b 0 → count ≤ depth_of (own_limits g) → i ≡ count → Walked g v least b true count at table
walked-yes {g} {v} {least} {b} {table} {i} {last} {at} {count} walk bytes two count-is few all =
    record {
      sound-is = sym whole;
      count-is = count-is ∙ sym (ap length opened ∙ length-wide-held g b);
      stop_is =
          walk.starts ∙ ap (start_of g b) number ∙ starts-written g b (sound-formed g v least b whole) two bytes (two_at b 0) (omega arith)
          ∙ ap (λ (q : List Frame). length (encode_frames q)) (take-all-held ∙ sym opened);
      table_is = walk.table_is ∙ ap (seen_table (own_limits g) v) (ap (frames_to g b) number ∙ sym (held-left g b) ∙ sym opened);
    }
  where
    number : i ≡ two_at b 0
    number = all ∙ count-is

    whole : wider_sound_holdback g v least b ≡ true
    whole = parts-sound g v least b (omega arith) (all_held walk number)

    opened : wider_opening_queue g v least b ≡ wider_held g b
    opened = opened-sound g v least b whole

    take-all-held : take (two_at b 0) (wider_held g b) ≡ wider_held g b
    take-all-held = take_all (two_at b 0) (wider_held g b) (omega (arith, length-wide-held g b))

-- ---- in order

pub order-none : (g : Schedule) (v : ℕ) (b : List ℕ) (i : ℕ) (f : Frame) → i ≡ 0 → true ≡ follows g v (frames_to g b i) f
unfolding cut_by follows
order-none g v b i f e = sym (ap (λ (n : ℕ). follows g v (frames_to g b n) f) e)

module _ {g : Schedule} {v least : ℕ} {b table : List ℕ} {i : ℕ} {last : Last} {at : ℕ} (walk : Walking g v least b table i last at) (some : 0 < i) where
  one_more : suc (i - 1) ≡ i
  one_more = omega arith

  -- the frame before it ends where it starts
  last-ends : at ≡ next_by (wider_end g) b last.at
  last-ends =
      walk.starts ∙ ap (start_of g b) (sym one_more) ∙ end-last (wider_end g) b 2 (i - 1) ∙ ap (next_by (wider_end g) b) (sym (walk.last-at some))

  pub last-low : last.at ≤ at
  last-low = omega (arith, last-ends)

  pub last-bytes : take (at - last.at) (drop last.at b) ≡ bytes_from g b (start_of g b (i - 1))
  last-bytes =
      let n : at - last.at ≡ wider_end g (drop last.at b) = omega (arith, last-ends) in
      ap (λ (k : ℕ). take k (drop last.at b)) n ∙ ap (bytes_from g b) (walk.last-at some)

  pub last-passes : wider_passes g (take (at - last.at) (drop last.at b)) ≡ true
  last-passes =
      ap (wider_passes g) last-bytes
      ∙ (behind-from g v least (frames_to g b (i - 1)) (bytes_from g b (start_of g b (i - 1))) (frame-at g v least b (i - 1) i (omega arith) walk.sound)).passed

  -- it comes after that one
  pub order-last : (f : Frame) → wider_before g v (frame_at g b (i - 1)) f ≡ follows g v (frames_to g b i) f
  order-last f =
      sym (follows-last g v (frames_to g b (i - 1)) (frame_at g b (i - 1)) f) ∙ ap (λ (l : List Frame). follows g v l f) (sym (frames-last g b (i - 1)) ∙ ap (frames_to g b) one_more)

module _ {g : Schedule} {v least : ℕ} {b table : List ℕ} {i : ℕ} {last : Last} {at : ℕ} (walk : Walking g v least b table i last at) where
  -- where it ends itself, and its bytes
  own-ends : {next : ℕ} → next ≡ start_of g b (i + 1) → next ≡ next_by (wider_end g) b at
  own-ends e = e ∙ ap (start_of g b) (add-one i) ∙ end-last (wider_end g) b 2 i ∙ ap (next_by (wider_end g) b) (sym walk.starts)

  pub own-low : {next : ℕ} → next ≡ start_of g b (i + 1) → at ≤ next
  own-low e = omega (arith, own-ends e)

  pub own-part : {next : ℕ} → next ≡ start_of g b (i + 1) → take (next - at) (drop at b) ≡ bytes_from g b at
  own-part {next} e =
      let n : next - at ≡ wider_end g (drop at b) = omega (arith, own-ends e) in
      ap (λ (k : ℕ). take k (drop at b)) n

  pub own-frame : wider_decode g (bytes_from g b at) ≡ frame_at g b i
  own-frame = ap (λ (n : ℕ). wider_decode g (bytes_from g b n)) walk.starts

-- ---- what its place in the table of origins asks

pub own-within : {g : Schedule} {v least : ℕ} {b table : List ℕ} {i : ℕ} {last : Last} {at : ℕ} (walk : Walking g v least b table i last at) (good : Good g) (below : v < modulus_of g) (recent : Recent (own_limits g) least)
    → fits g v least (bytes_from g b (start_of g b i)) ≡ true → (u : Setup) → u ≡ own_limits g → (rank : Rank) → rank ≡ rank_of (own_limits g) v (frame_at g b i) → Within u rank
own-within {g} {v} {least} {b} {table} {i} walk good below recent fit u e rank er =
    let low : v < (own_limits g).modulus = omega (arith, own-modulus g good) in
    rw e (within (own_limits g) v (own-good g good) low (frame_at g b i) rank (placed-own walk good below recent fit) er)

pub own-slot : (g : Schedule) (v : ℕ) (f : Frame) (u : Setup) → u ≡ own_limits g → (rank : Rank) → rank ≡ rank_of (own_limits g) v f → rank_slot u rank ≡ slot_of (own_limits g) v f
own-slot g v f u e rank er = ap (λ (w : Setup). rank_slot w rank) e ∙ rank-slot (own_limits g) v f rank er

-- where a frame ends lies near its start, whatever its bytes are
pub end-small : (g : Schedule) → Good g → (l : List ℕ) → Bytes l → wider_end g l < 512
unfolding wider_end
end-small g good l bytes = frames.end-small (half_in g l) l (half-most g good (get_or l 4 0 - 1)) bytes

-- a buffer of a shelf's size has room for the count
pub size-two : (s : Setup) {n : ℕ} → holdback_size s ≤ n → 2 ≤ n
unfolding holdback_length
size-two s h = omega arith
