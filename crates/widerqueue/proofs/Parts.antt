-- Soundness of frames that stand one after the other: one more behind them, and one among others.
-- Assumes nothing.
use Prim.Native.Nat.{ℕ, suc, ◌-◌, ◌≤◌, ◌<◌}
use native.Mathlib.Omega.{arith}
use mathlib.Core.Path.{◌≡◌, refl, sym, ap, ◌∙◌}
use mathlib.Core.Bool.{true, false}
use mathlib.Core.List.Memᴰ
use mathlib.Core.List.{List, [], ◌∷◌, ◌++◌, map, map-append}
use lib.Dec.{leb}
use lib.ListN.{drop}
use borrow.Author.Tests.{leb-true, le-leb}
use Rattle.laws.specs.Lists.{any, every, chained, apart}
use Rattle.laws.proofs.Numbers.{and_intro, and_left, and_right, false_of_not, not_of_false}
use Rattle.laws.proofs.Lists.{every-append-intro, every-append-right, any_false, any-of-false}
use Rattle.laws.proofs.Sorted.{apart-append, apart-across}
use Rattle.model.specs.Setup.{depth_of}
use Rattle.model.specs.Frame.{Frame, two_at}
use Rattle.model.specs.Holdback.{cut_by, same_origin, not_early}
use Rattle.model.specs.Schedule.{Schedule, own_limits}
use Rattle.model.specs.Wider.{wider_decode, wider_end, wider_passes, wider_before, wider_not_expired, wider_held_bytes, wider_held, wider_sound_holdback}
use Rattle.lemmas.proofs.FrameWalk.{next_by}
use Rattle.lemmas.proofs.Queue.{origin-sym}
use Rattle.widerqueue.specs.Sound.{fits, follows, frame_sound, sound_parts, bytes_from, frames_to, start_of}
use Rattle.widerqueue.proofs.Standing.{cut-split}

-- ---- in order

module _ (g : Schedule) (v : ℕ) where
  chained_more : (l : List Frame) (f : Frame) → chained (wider_before g v) l ≡ true → follows g v l f ≡ true → chained (wider_before g v) (l ++ (f ∷ [])) ≡ true
  unfolding chained follows
  chained_more [] f h k = refl
  chained_more (a ∷ []) f h k = and_intro k refl
  chained_more (a ∷ (b ∷ l)) f h k = and_intro (and_left (wider_before g v a b) _ h) (chained_more (b ∷ l) f (and_right (wider_before g v a b) _ h) k)

  chained-at : (l : List Frame) (f : Frame) (rest : List Frame) → chained (wider_before g v) (l ++ (f ∷ rest)) ≡ true → follows g v l f ≡ true
  unfolding chained follows
  chained-at [] f rest h = refl
  chained-at (a ∷ []) f rest h = and_left (wider_before g v a f) _ h
  chained-at (a ∷ (b ∷ l)) f rest h = chained-at (b ∷ l) f rest (and_right (wider_before g v a b) _ h)

  -- behind the last of some
  pub follows-last : (l : List Frame) (a f : Frame) → follows g v (l ++ (a ∷ [])) f ≡ wider_before g v a f
  unfolding follows
  follows-last [] a f = refl
  follows-last (x ∷ []) a f = refl
  follows-last (x ∷ (y ∷ l)) a f = follows-last (y ∷ l) a f

-- ---- no origin twice

apart_more : (l : List Frame) (f : Frame) → apart same_origin l ≡ true → any (same_origin f) l ≡ false → apart same_origin (l ++ (f ∷ [])) ≡ true
unfolding apart any
apart_more l f h new =
    apart-append same_origin l (f ∷ []) h refl
    (λ x y m n. rw (Memᴰ.eq_of_singleton n) (origin-sym x f ∙ any_false (same_origin f) new m))

apart-at : (l : List Frame) (f : Frame) (rest : List Frame) → apart same_origin (l ++ (f ∷ rest)) ≡ true → any (same_origin f) l ≡ false
apart-at l f rest h =
    any-of-false (same_origin f) l (λ x m. origin-sym f x ∙ apart-across same_origin l (f ∷ rest) h m (Memᴰ.head refl))

-- ---- all that soundness asks

pub record Parts (g : Schedule) (v least : ℕ) (parts : List (List ℕ)) : Type 0 where
  pub passing : every (wider_passes g) parts ≡ true
  pub ordered : chained (wider_before g v) (map (wider_decode g) parts) ≡ true
  pub single : apart same_origin (map (wider_decode g) parts) ≡ true
  pub early : every (not_early (own_limits g) v) (map (wider_decode g) parts) ≡ true
  pub expired : every (wider_not_expired g v least) (map (wider_decode g) parts) ≡ true

module _ (g : Schedule) (v least : ℕ) where
  pub parts_from : (parts : List (List ℕ)) → sound_parts g v least parts ≡ true → Parts g v least parts
  unfolding sound_parts
  parts_from parts h =
      let queue : List Frame = map (wider_decode g) parts in
      let h₂ = and_right (every (wider_passes g) parts) _ h in
      let h₃ = and_right (chained (wider_before g v) queue) _ h₂ in
      let h₄ = and_right (apart same_origin queue) _ h₃ in
      record {
        passing = and_left _ _ h;
        ordered = and_left _ _ h₂;
        single = and_left _ _ h₃;
        early = and_left _ _ h₄;
        expired = and_right (every (not_early (own_limits g) v) queue) _ h₄;
      }

  parts-to : (parts : List (List ℕ)) → Parts g v least parts → sound_parts g v least parts ≡ true
  unfolding sound_parts
  parts-to parts p =
      and_intro p.passing (and_intro p.ordered (and_intro p.single (and_intro p.early p.expired)))

  pub parts_none : sound_parts g v least [] ≡ true
  unfolding sound_parts every chained apart
  parts_none = refl

  -- a queue whose frames are so is sound, and the other way round
  pub parts-sound : (b : List ℕ) → two_at b 0 ≤ depth_of (own_limits g) → sound_parts g v least (wider_held_bytes g b) ≡ true → wider_sound_holdback g v least b ≡ true
  unfolding wider_sound_holdback wider_held sound_parts
  parts-sound b few h = and_intro (le-leb (two_at b 0) (depth_of (own_limits g)) few) h

  pub sound-parts : (b : List ℕ) → wider_sound_holdback g v least b ≡ true → (two_at b 0 ≤ depth_of (own_limits g)) × (sound_parts g v least (wider_held_bytes g b) ≡ true)
  unfolding wider_sound_holdback wider_held sound_parts
  sound-parts b h =
      (leb-true (two_at b 0) (depth_of (own_limits g)) (and_left _ _ h), and_right (leb (two_at b 0) (depth_of (own_limits g))) _ h)

  -- what is asked of a frame behind others
  pub record Behind (ahead : List Frame) (bytes : List ℕ) : Type 0 where
    pub passed : wider_passes g bytes ≡ true
    pub early : not_early (own_limits g) v (wider_decode g bytes) ≡ true
    pub expired : wider_not_expired g v least (wider_decode g bytes) ≡ true
    pub after : follows g v ahead (wider_decode g bytes) ≡ true
    pub new : any (same_origin (wider_decode g bytes)) ahead ≡ false

  pub behind-from : (ahead : List Frame) (bytes : List ℕ) → frame_sound g v least ahead bytes ≡ true → Behind ahead bytes
  unfolding frame_sound fits
  behind-from ahead bytes h =
      let f : Frame = wider_decode g bytes in
      let fit = and_left (fits g v least bytes) _ h in
      let rest = and_right (fits g v least bytes) _ h in
      let times = and_right (wider_passes g bytes) _ fit in
      record {
        passed = and_left _ _ fit;
        early = and_left _ _ times;
        expired = and_right (not_early (own_limits g) v f) _ times;
        after = and_left _ _ rest;
        new = false_of_not (any (same_origin f) ahead) (and_right (follows g v ahead f) _ rest);
      }

  pub behind-to : (ahead : List Frame) (bytes : List ℕ) → Behind ahead bytes → frame_sound g v least ahead bytes ≡ true
  unfolding frame_sound fits
  behind-to ahead bytes p = and_intro (and_intro p.passed (and_intro p.early p.expired)) (and_intro p.after (not_of_false p.new))

  -- one more
  pub sound_more : (parts : List (List ℕ)) (bytes : List ℕ) → sound_parts g v least parts ≡ true → frame_sound g v least (map (wider_decode g) parts) bytes ≡ true
      → sound_parts g v least (parts ++ (bytes ∷ [])) ≡ true
  unfolding every
  sound_more parts bytes h k =
      let queue : List Frame = map (wider_decode g) parts in
      let f : Frame = wider_decode g bytes in
      let p = parts_from parts h in
      let o = behind-from queue bytes k in
      let all : map (wider_decode g) (parts ++ (bytes ∷ [])) ≡ queue ++ (f ∷ []) = map-append (wider_decode g) parts (bytes ∷ []) in
      parts-to (parts ++ (bytes ∷ []))
      (record {
        passing = every-append-intro (wider_passes g) parts (bytes ∷ []) p.passing (and_intro o.passed refl);
        ordered = rw all (chained_more g v queue f p.ordered o.after);
        single = rw all (apart_more queue f p.single o.new);
        early = rw all (every-append-intro (not_early (own_limits g) v) queue (f ∷ []) p.early (and_intro o.early refl));
        expired = rw all (every-append-intro (wider_not_expired g v least) queue (f ∷ []) p.expired (and_intro o.expired refl));
      })

  -- one among others
  pub sound-at : (parts : List (List ℕ)) (bytes : List ℕ) (rest : List (List ℕ)) → sound_parts g v least (parts ++ (bytes ∷ rest)) ≡ true
      → frame_sound g v least (map (wider_decode g) parts) bytes ≡ true
  unfolding every
  sound-at parts bytes rest h =
      let queue : List Frame = map (wider_decode g) parts in
      let f : Frame = wider_decode g bytes in
      let behind : List Frame = map (wider_decode g) rest in
      let p = parts_from (parts ++ (bytes ∷ rest)) h in
      let all : map (wider_decode g) (parts ++ (bytes ∷ rest)) ≡ queue ++ (f ∷ behind) = map-append (wider_decode g) parts (bytes ∷ rest) in
      behind-to queue bytes
      (record {
        passed = and_left (wider_passes g bytes) _ (every-append-right (wider_passes g) parts (bytes ∷ rest) p.passing);
        early = and_left (not_early (own_limits g) v f) _ (every-append-right (not_early (own_limits g) v) queue (f ∷ behind) (rw all at p.early));
        expired = and_left (wider_not_expired g v least f) _ (every-append-right (wider_not_expired g v least) queue (f ∷ behind) (rw all at p.expired));
        after = chained-at g v queue f behind (rw all at p.ordered);
        new = apart-at queue f behind (rw all at p.single);
      })

  -- ---- the same of the frames of a queue

  parts-split : (b : List ℕ) (i n : ℕ) → i < n
      → cut_by (wider_end g) n (drop 2 b) ≡ cut_by (wider_end g) i (drop 2 b) ++ (bytes_from g b (start_of g b i) ∷ cut_by (wider_end g) (n - suc i) (drop (next_by (wider_end g) b (start_of g b i)) b))
  parts-split b i n h = cut-split (wider_end g) b i (n - suc i) n 2 (omega arith)

  pub cut-last : (b : List ℕ) (i : ℕ) → cut_by (wider_end g) (suc i) (drop 2 b) ≡ cut_by (wider_end g) i (drop 2 b) ++ (bytes_from g b (start_of g b i) ∷ [])
  unfolding cut_by
  cut-last b i = cut-split (wider_end g) b i 0 (suc i) 2 (omega arith)

  -- frame i of so many that are sound
  pub frame-at : (b : List ℕ) (i n : ℕ) → i < n → sound_parts g v least (cut_by (wider_end g) n (drop 2 b)) ≡ true
      → frame_sound g v least (frames_to g b i) (bytes_from g b (start_of g b i)) ≡ true
  frame-at b i n h sound =
      sound-at (cut_by (wider_end g) i (drop 2 b)) (bytes_from g b (start_of g b i)) (cut_by (wider_end g) (n - suc i) (drop (next_by (wider_end g) b (start_of g b i)) b))
      (sym (ap (sound_parts g v least) (parts-split b i n h)) ∙ sound)

  -- and frame i behind i that are
  pub frame-more : (b : List ℕ) (i : ℕ) → sound_parts g v least (cut_by (wider_end g) i (drop 2 b)) ≡ true → frame_sound g v least (frames_to g b i) (bytes_from g b (start_of g b i)) ≡ true
      → sound_parts g v least (cut_by (wider_end g) (suc i) (drop 2 b)) ≡ true
  frame-more b i sound own =
      ap (sound_parts g v least) (cut-last b i) ∙ sound_more (cut_by (wider_end g) i (drop 2 b)) (bytes_from g b (start_of g b i)) sound own

pub frames-last : (g : Schedule) (b : List ℕ) (i : ℕ) → frames_to g b (suc i) ≡ frames_to g b i ++ (wider_decode g (bytes_from g b (start_of g b i)) ∷ [])
frames-last g b i =
    ap (map (wider_decode g)) (cut-last g 0 0 b i) ∙ map-append (wider_decode g) (cut_by (wider_end g) i (drop 2 b)) (bytes_from g b (start_of g b i) ∷ [])
