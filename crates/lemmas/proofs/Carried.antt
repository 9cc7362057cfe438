-- 02, 2.10: "Carry tables and shelf over without emptying either". A shelf that one call leaves is sound for the next, from any state, where the second has the
-- first's pairs, at a clock k later. (Where the setups differ it is carried by places among true clocks: Positions.) Assumes nothing.
use Prim.Native.Nat.{ℕ, ◌+◌, ◌-◌, ◌*◌, ◌%◌, ◌≤◌, ◌<◌}
use native.Mathlib.Omega.{arith}
use native.Mathlib.Nat.{mod-eq_of_lt}
use mathlib.Core.Path.{◌≡◌, refl, sym, ap, ap₂, subst, ◌∙◌}
use mathlib.Core.Logic.{inl, inr}
use mathlib.Core.Bool.{true}
use mathlib.Core.List.{List, [], ◌∷◌, ◌++◌, Memᴰ}
use lib.ListN.{length}
use Rattle.laws.specs.Lex.{lex_compare}
use Rattle.laws.proofs.Numbers.{eq-or-ne, lt-or-gt}
use Rattle.laws.proofs.Lists.{every-of-mem}
use Rattle.laws.proofs.Lex.{lex-head-lt, lex-head-gt, lex-shift}
use Rattle.laws.proofs.Sorted.{sorted-rekey}
use Rattle.model.specs.Setup.{Setup, width, depth_of}
use Rattle.model.specs.Timestamp.{sum, near}
use Rattle.model.specs.Frame.{Frame}
use Rattle.model.specs.Order.{reading_of}
use Rattle.model.specs.Holdback.{not_early, encode_frames}
use Rattle.model.specs.Schedule.{Schedule, limits_at, modulus_of, own_limits, due_along, compared_along}
use Rattle.model.specs.Wider.{frame_half, wider_reading, counts_down_by, wider_key, wider_key_near, wider_not_expired, wider_sound_holdback}
use Rattle.lemmas.proofs.Bounds.{Sound}
use Rattle.lemmas.proofs.Reading.{near-later}
use Rattle.lemmas.proofs.Queue.{early-to}
use Rattle.lemmas.proofs.Schedules.{Good, limits-good, limits-modulus, limits-n, limits-grow, due-window, Aligned, limits-aligned, due-aligned, compared-aligned, half-aligned, modulus-aligned, widest-aligned, near-wider}
use Rattle.lemmas.proofs.WiderQueue.{QueueAlong, LeftAlong, ordered-along, along-ordered, expired-along, length-down-by, depth-grows, left-room-along, bytes-along}
use Rattle.lemmas.proofs.WideFrames.{FrameWithin}

-- keys with sums and readings k less, and the same counts, are in the same order; where the sums differ, so may the numbers of counts
pub lower : (k x x' a a' y y' : ℕ) (m m' : List ℕ) → (x ≡ x' → length m ≡ length m')
    → lex_compare ((x + k) ∷ (m ++ (a ∷ (y + k) ∷ []))) ((x' + k) ∷ (m' ++ (a' ∷ (y' + k) ∷ [])))
    ≡ lex_compare (x ∷ (m ++ (a ∷ y ∷ []))) (x' ∷ (m' ++ (a' ∷ y' ∷ [])))
lower k x x' a a' y y' m m' same =
    elim (eq-or-ne x x') [
      | inl e ↦ lex-shift k x x' a a' y y' m m' (same e)
      | inr e ↦
          elim (lt-or-gt x x' e) [
            | inl h ↦ lex-head-lt (x + k) (x' + k) _ _ (omega arith) ∙ sym (lex-head-lt x x' _ _ h)
            | inr h ↦ lex-head-gt (x + k) (x' + k) _ _ (omega arith) ∙ sym (lex-head-gt x x' _ _ h)
          ]
    ]

-- ---- what carries a shelf over

-- the limits of the next call: the same group, as wide or wider
pub record Follows (l l' : Schedule) : Type 0 where
  pub n : (own_limits l').n ≡ (own_limits l).n
  pub modulus : modulus_of l' ≡ modulus_of l
  pub epsilon : (own_limits l).epsilon ≤ (own_limits l').epsilon
  pub delta : (own_limits l).delta ≤ (own_limits l').delta

-- a frame that was left at v, k clocks later, at v': all that the shelf's soundness looks at is what it was
pub record Kept (l l' : Schedule) (v v' k : ℕ) (f : Frame) : Type 0 where
  pub reading : wider_reading l' v' f + k ≡ wider_reading l v f
  pub half : frame_half l' f ≡ frame_half l f
  pub due : due_along l' (wider_reading l' v' f + f.stamp.c) + k ≡ due_along l (wider_reading l v f + f.stamp.c)
  pub compared : compared_along l' (wider_reading l' v' f + f.stamp.c) ≡ compared_along l (wider_reading l v f + f.stamp.c)

-- a key by its parts
abbrev pub key_with : ℕ → ℕ → ℕ → ℕ → Frame → List ℕ
key_with most half total reading f = total ∷ (counts_down_by most half f.stamp ++ (f.station ∷ reading ∷ []))

module _ (l l' : Schedule) (v v' k : ℕ) where
  -- its sum, where the frame is on the shelf later
  abbrev later_sum : Frame → ℕ
  later_sum f = wider_reading l' v' f + f.stamp.c

  kept-sum : (f : Frame) → Kept l l' v v' k f → wider_reading l v f + f.stamp.c ≡ later_sum f + k
  kept-sum f p = omega (arith, p.reading)

  kept-key :
      (f : Frame) → Kept l l' v v' k f
      → wider_key_near l v f ≡ key_with (compared_along l' (later_sum f)) (frame_half l' f) (later_sum f + k) (wider_reading l' v' f + k) f
  unfolding wider_key_near wider_key sum
  kept-key f p = λ i. key_with (sym p.compared i) (sym p.half i) (kept-sum f p i) (sym p.reading i) f

  later-key : (f : Frame) → wider_key_near l' v' f ≡ key_with (compared_along l' (later_sum f)) (frame_half l' f) (later_sum f) (wider_reading l' v' f) f
  unfolding wider_key_near wider_key sum
  later-key f = refl

  kept-order :
      (a b : Frame) → Kept l l' v v' k a → Kept l l' v v' k b
      → lex_compare (wider_key_near l v a) (wider_key_near l v b) ≡ lex_compare (wider_key_near l' v' a) (wider_key_near l' v' b)
  kept-order a b p q =
      ap₂ lex_compare (kept-key a p) (kept-key b q)
      ∙ (lower k (later_sum a) (later_sum b) a.station b.station (wider_reading l' v' a) (wider_reading l' v' b)
      (counts_down_by (compared_along l' (later_sum a)) (frame_half l' a) a.stamp) (counts_down_by (compared_along l' (later_sum b)) (frame_half l' b) b.stamp) same
      ∙ sym (ap₂ lex_compare (later-key a) (later-key b)))
    where
      same :
          later_sum a ≡ later_sum b
          → length (counts_down_by (compared_along l' (later_sum a)) (frame_half l' a) a.stamp) ≡ length (counts_down_by (compared_along l' (later_sum b)) (frame_half l' b) b.stamp)
      same e =
          length-down-by (compared_along l' (later_sum a)) (frame_half l' a) a.stamp
          ∙ (ap (compared_along l') e ∙ sym (length-down-by (compared_along l' (later_sum b)) (frame_half l' b) b.stamp))

  kept_frame : (f : Frame) → Good l → Good l' → Follows l l' → Kept l l' v v' k f → FrameWithin l (own_limits l) f → FrameWithin l' (own_limits l') f
  kept_frame f good good' follows p ok =
      record {
        station-below = subst (λ (n : ℕ). f.station < n) (sym follows.n) ok.station-below;
        r-below = omega (arith, ok.r-below, follows.modulus, limits-modulus l good (modulus_of l), limits-modulus l' good' (modulus_of l'));
        wide = ok.wide ∙ ap width (sym p.half);
        sound = subst (λ (n : ℕ). Sound n (frame_half l' f) f.stamp) (sym follows.n) (subst (λ (h : ℕ). Sound (own_limits l).n h f.stamp) (sym p.half) ok.sound);
        close = omega (arith, ok.close, follows.epsilon);
        short = ok.short;
      }

  -- the shelf is sound there, where the least due clock allowed is the one after v
  pub holdback-carried :
      (queue : List Frame) → Good l → Good l' → Follows l l' → ((f : Frame) → Memᴰ f queue → Kept l l' v v' k f) → LeftAlong l v queue
      → QueueAlong l' v' (modulus_of l' + 1 - k) queue
  holdback-carried queue good good' follows kept left =
      record {
        frames = λ f m. kept_frame f good good' follows (kept f m) (left.frames f m);
        ordered =
            along-ordered l' v' queue
            (sorted-rekey (wider_key_near l v) (wider_key_near l' v') queue (λ a b m h. kept-order a b (kept a m) (kept b h)) (ordered-along l v queue left.ordered));
        single = left.single;
        early =
            every-of-mem (not_early (own_limits l') v') queue
            (λ f m.
            early-to (own_limits l') v' f
            (omega (arith, left.early f m, (kept f m).reading, follows.modulus, follows.epsilon, limits-modulus l' good' (modulus_of l'))));
        expired =
            every-of-mem (wider_not_expired l' v' (modulus_of l' + 1 - k)) queue
            (λ f m. expired-along l' v' (modulus_of l' + 1 - k) f (omega (arith, left.later f m, (kept f m).due, follows.modulus)));
      }

  -- and so are its bytes, whatever stands behind them: it was not full, and the next limits leave as much room or more
  follows-depth : Follows l l' → depth_of (own_limits l) ≤ depth_of (own_limits l')
  follows-depth follows = depth-grows (own_limits l) (own_limits l') (sym follows.n) follows.epsilon follows.delta

  pub bytes-carried :
      (queue : List Frame) (rest : List ℕ) → Good l → Good l' → Follows l l' → v < modulus_of l → LeftAlong l v queue → QueueAlong l' v' (modulus_of l' + 1 - k) queue
      → wider_sound_holdback l' v' (modulus_of l' + 1 - k) (encode_frames queue ++ rest) ≡ true
  bytes-carried queue rest good good' follows below left ok =
      bytes-along l' good' v' (modulus_of l' + 1 - k) queue rest (omega (arith, left-room-along l good v queue below left, follows-depth follows)) ok

-- ---- the reading of a frame that was left

-- near v by one ε, and k clocks later by one that is as large or larger
pub near-kept :
    (epsilon wider B v k r : ℕ) → 1 ≤ epsilon → epsilon ≤ wider → wider < B → r < B → v < B → wider + k ≤ near epsilon B v r
    → near wider B ((v + k) % B) r + k ≡ near epsilon B v r
near-kept epsilon wider B v k r e more b hr hv far =
    let here : near epsilon B (v % B) r ≡ near epsilon B v r = ap (λ (u : ℕ). near epsilon B u r) (mod-eq_of_lt hv) in
    let later : near epsilon B ((v + k) % B) r + k ≡ near epsilon B (v % B) r = near-later epsilon B v k r e (omega arith) hr (omega arith) in
    let wide : near wider B ((v + k) % B) r ≡ near epsilon B ((v + k) % B) r = near-wider epsilon wider B ((v + k) % B) r e more (omega arith) (omega arith) in
    omega arith

-- a reading by B
reading-near : (g : Schedule) → Good g → (v : ℕ) (f : Frame) → wider_reading g v f ≡ near (own_limits g).epsilon (modulus_of g) v f.stamp.r
unfolding reading_of
reading-near g good v f = ap (λ (B : ℕ). near (own_limits g).epsilon B v f.stamp.r) (limits-modulus g good (modulus_of g))

-- what is due after v was sent not long before it
pub left_far :
    (g : Schedule) (v : ℕ) (f : Frame) → Good g → FrameWithin g (own_limits g) f → modulus_of g < due_along g (wider_reading g v f + f.stamp.c)
    → modulus_of g + 2 ≤ wider_reading g v f + ((own_limits g).delta + 2 * (own_limits g).epsilon)
left_far g v f good ok later =
    let w = due-window g good (modulus_of g) (modulus_of g + 1) (wider_reading g v f + f.stamp.c) (omega arith) (omega arith) in
    omega (arith, w, ok.close)

module _ (l l' : Schedule) (v k : ℕ) (good : Good l) (good' : Good l') (follows : Follows l l') (below : v < modulus_of l) (few : k ≤ (own_limits l').epsilon) where
  pub reading-kept :
      (f : Frame) → FrameWithin l (own_limits l) f → modulus_of l < due_along l (wider_reading l v f + f.stamp.c)
      → wider_reading l' ((v + k) % modulus_of l) f + k ≡ wider_reading l v f
  reading-kept f ok later =
      let lim = limits-good l good (modulus_of l) in
      let lim' = limits-good l' good' (modulus_of l') in
      let old : wider_reading l v f ≡ near (own_limits l).epsilon (modulus_of l) v f.stamp.r = reading-near l good v f in
      let new : wider_reading l' ((v + k) % modulus_of l) f ≡ near (own_limits l').epsilon (modulus_of l) ((v + k) % modulus_of l) f.stamp.r =
      reading-near l' good' ((v + k) % modulus_of l) f ∙ ap (λ (B : ℕ). near (own_limits l').epsilon B ((v + k) % modulus_of l) f.stamp.r) follows.modulus in
      let far = left_far l v f good ok later in
      let large : 6 * (own_limits l').epsilon + (own_limits l').delta + 1 ≤ modulus_of l =
      omega (arith, lim'.modulus-least, limits-modulus l' good' (modulus_of l'), follows.modulus) in
      ap (λ (x : ℕ). x + k) new
      ∙ (near-kept (own_limits l).epsilon (own_limits l').epsilon (modulus_of l) v k f.stamp.r lim.epsilon-pos follows.epsilon (omega (arith, large))
      (omega (arith, ok.r-below, limits-modulus l good (modulus_of l))) below
      (omega (arith, old, far, few, large, follows.epsilon, follows.delta))
      ∙ sym old)

-- ---- with one setup

-- both pairs again, or one: the next schedule is this one, k clocks later
module _ (l l' : Schedule) (v k : ℕ) (good : Good l) (good' : Good l') (aligned : Aligned k 0 l' l) where
  pub moved-follows : Follows l l'
  moved-follows =
      let same : own_limits l' ≡ limits_at l (modulus_of l' + k) = limits-aligned k 0 l' l aligned (modulus_of l') (modulus_of l' + k) (omega arith) in
      let more = limits-grow l good (modulus_of l) (modulus_of l' + k) (omega (arith, modulus-aligned k 0 l' l aligned)) in
      record {
        n = limits-n l' good' (modulus_of l') ∙ (ap (λ (s : Setup). s.n) (widest-aligned k 0 l' l aligned) ∙ sym (limits-n l good (modulus_of l)));
        modulus = modulus-aligned k 0 l' l aligned;
        epsilon = subst (λ (s : Setup). (own_limits l).epsilon ≤ s.epsilon) (sym same) more.0;
        delta = subst (λ (s : Setup). (own_limits l).delta ≤ s.delta) (sym same) more.1;
      }

  pub moved-kept : (f : Frame) (v' : ℕ) → wider_reading l' v' f + k ≡ wider_reading l v f → Kept l l' v v' k f
  moved-kept f v' e =
      let x : ℕ = wider_reading l' v' f + f.stamp.c in
      let y : ℕ = wider_reading l v f + f.stamp.c in
      let there : x + k ≡ y + 0 = omega arith in
      record {
        reading = e;
        half = ap (λ (h : ℕ → ℕ). h (length f.stamp.kn)) (half-aligned k 0 l' l aligned);
        due = omega (arith, due-aligned k 0 l' l aligned x y there);
        compared = compared-aligned k 0 l' l aligned x y there;
      }

  pub carried-moved :
      (queue : List Frame) → v < modulus_of l → k ≤ (own_limits l').epsilon → LeftAlong l v queue
      → QueueAlong l' ((v + k) % modulus_of l) (modulus_of l' + 1 - k) queue
  carried-moved queue below few left =
      holdback-carried l l' v ((v + k) % modulus_of l) k queue good good' moved-follows
      (λ f m. moved-kept f ((v + k) % modulus_of l) (reading-kept l l' v k good good' moved-follows below few f (left.frames f m) (left.later f m))) left

  -- 02: "Carry … shelf over without emptying"
  pub holdback-moved :
      (queue : List Frame) (rest : List ℕ) → v < modulus_of l → k ≤ (own_limits l').epsilon → LeftAlong l v queue
      → wider_sound_holdback l' ((v + k) % modulus_of l) (modulus_of l' + 1 - k) (encode_frames queue ++ rest) ≡ true
  holdback-moved queue rest below few left =
      bytes-carried l l' v ((v + k) % modulus_of l) k queue rest good good' moved-follows below left (carried-moved queue below few left)
