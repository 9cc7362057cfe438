-- 02, 2.10: a shelf between two calls, said among true clocks: what a call leaves, whichever setup it has, and what the next one opens, whichever
-- setup that has. A frame stands at the place of its reading plus the call's true clock. So v stands at B + v, a place is a number also where the
-- frame is damage that would be older than the clock 0, and all clocks of the schedule are B more. Assumes nothing.
use Prim.Native.Nat.{ℕ, ◌+◌, ◌-◌, ◌*◌, ◌%◌, ◌≤◌, ◌<◌}
use native.Mathlib.Omega.{arith}
use native.Mathlib.Nat.{mod-lt, mod-add-mod}
use mathlib.Core.Path.{◌≡◌, refl, sym, ap, ap₂, subst, ◌∙◌}
use mathlib.Core.Bool.{true}
use mathlib.Core.List.Memᴰ
use mathlib.Core.List.{List, [], ◌++◌, Memᴰ}
use lib.ListN.{length}
use Rattle.laws.specs.Lists.{apart}
use Rattle.laws.specs.Lex.{lex_compare}
use Rattle.laws.proofs.Lists.{every-mem, every-of-mem}
use Rattle.laws.proofs.Sorted.{Sorted, pairwise, sorted-rekey}
use Rattle.model.specs.Setup.{Setup, width, depth, depth_of}
use Rattle.model.specs.Timestamp.{sum, near}
use Rattle.model.specs.Frame.{Frame}
use Rattle.model.specs.Order.{reading_of}
use Rattle.model.specs.Holdback.{same_origin, not_early, encode_frames}
use Rattle.model.specs.Schedule.{Schedule, limits_at, modulus_of, own_limits, due_along, compared_along}
use Rattle.model.specs.Wider.{frame_half, wider_reading, counts_down_by, wider_key, wider_key_near, wider_held, wider_not_expired, wider_sound_holdback}
use Rattle.lemmas.proofs.Bounds.{Limits, Sound}
use Rattle.lemmas.proofs.Queue.{early_from, early-to}
use Rattle.lemmas.proofs.Schedules.{Good, limits-good, limits-modulus, limits-n, limits-grow, limits-moved, moved_by, half-moved, compared-moved, good-moved, due-window}
use Rattle.lemmas.proofs.WideFrames.{FrameWithin, wide-held}
use Rattle.lemmas.proofs.WiderQueue.{QueueAlong, LeftAlong, ordered-along, along-ordered, expired-along, along-expired, length-down-by, few-along, bytes-along}
use Rattle.lemmas.proofs.Carried.{lower, key_with, near-kept}
use Rattle.lemmas.proofs.Agreeing.{Agrees}

-- r read near the true clock v, by the limits of v
abbrev pub read_at : Schedule → ℕ → Frame → ℕ
read_at g v f = reading_of (limits_at g v) (v % modulus_of g) f

-- the place of a frame on a shelf of a node whose clock is v
abbrev pub place_at : Schedule → ℕ → Frame → ℕ
place_at g v f = read_at g v f + v

-- the schedule, and the order of two stamps, among places
abbrev pub placed : Schedule → Schedule
placed g = moved_by (modulus_of g) g

abbrev pub placed_key : Schedule → ℕ → Frame → List ℕ
placed_key g v f = wider_key (placed g) (place_at g v f) f

-- a shelf as a call for v leaves it
pub record QueuePlaced (g : Schedule) (v : ℕ) (queue : List Frame) : Type 0 where
  pub frames : (f : Frame) → Memᴰ f queue → FrameWithin g (limits_at g v) f
  pub sorted : Sorted (placed_key g v) queue
  pub single : apart same_origin queue ≡ true
  pub early : (f : Frame) → Memᴰ f queue → place_at g v f + f.stamp.c < modulus_of g + v + (limits_at g v).epsilon
  pub later : (f : Frame) → Memᴰ f queue → modulus_of g + v < due_along (placed g) (place_at g v f + f.stamp.c)

pub placed-none : (g : Schedule) (v : ℕ) → QueuePlaced g v []
unfolding apart pairwise
placed-none g v =
    record {
      frames = λ f m. absurd (Memᴰ.not-nil m);
      sorted = refl;
      single = refl;
      early = λ f m. absurd (Memᴰ.not-nil m);
      later = λ f m. absurd (Memᴰ.not-nil m);
    }

-- messages stand there as among their true clocks
pub placed-order :
    (g : Schedule) (v R R' : ℕ) (a b : Frame) → place_at g v a ≡ modulus_of g + R → place_at g v b ≡ modulus_of g + R'
    → lex_compare (placed_key g v a) (placed_key g v b) ≡ lex_compare (wider_key g R a) (wider_key g R' b)
unfolding wider_key sum
placed-order g v R R' a b e e' =
    ap₂ lex_compare (key a R e) (key b R' e')
    ∙ lower (modulus_of g) (R + a.stamp.c) (R' + b.stamp.c) a.station b.station R R'
    (counts_down_by (compared_along g (R + a.stamp.c)) (frame_half g a) a.stamp) (counts_down_by (compared_along g (R' + b.stamp.c)) (frame_half g b) b.stamp) same
  where
    key : (f : Frame) (x : ℕ) → place_at g v f ≡ modulus_of g + x → placed_key g v f ≡ key_with (compared_along g (x + f.stamp.c)) (frame_half g f) (x + f.stamp.c + modulus_of g) (x + modulus_of g) f
    key f x h =
        let there : place_at g v f ≡ x + modulus_of g = omega (arith, h) in
        let total : place_at g v f + f.stamp.c ≡ x + f.stamp.c + modulus_of g = omega (arith, h) in
        let most : compared_along (placed g) (place_at g v f + f.stamp.c) ≡ compared_along g (x + f.stamp.c) =
        ap (compared_along (placed g)) total ∙ compared-moved (modulus_of g) g (x + f.stamp.c) in
        let half : frame_half (placed g) f ≡ frame_half g f = ap (λ (y : ℕ → ℕ). y (length f.stamp.kn)) (half-moved (modulus_of g) g) in
        λ i. key_with (most i) (half i) (total i) (there i) f

    same :
        R + a.stamp.c ≡ R' + b.stamp.c
        → length (counts_down_by (compared_along g (R + a.stamp.c)) (frame_half g a) a.stamp) ≡ length (counts_down_by (compared_along g (R' + b.stamp.c)) (frame_half g b) b.stamp)
    same q =
        length-down-by (compared_along g (R + a.stamp.c)) (frame_half g a) a.stamp
        ∙ (ap (compared_along g) q ∙ sym (length-down-by (compared_along g (R' + b.stamp.c)) (frame_half g b) b.stamp))

-- a frame's reading in the window of a call
pub record Seen (g l : Schedule) (u : ℕ) (f : Frame) : Type 0 where
  pub hi : wider_reading l u f + f.stamp.c < modulus_of l + (own_limits l).epsilon
  pub lo : modulus_of l < wider_reading l u f + f.stamp.c + (own_limits l).delta + 2 * (own_limits l).epsilon
  pub half : frame_half l f ≡ frame_half g f

-- ---- a call for v, by its own schedule

module _ (g l : Schedule) (v : ℕ) (agrees : Agrees g v l) where
  abbrev u : ℕ
  u = v % modulus_of l

  -- the reading of a frame in the call is that near v
  pub reads : (f : Frame) → read_at g v f ≡ wider_reading l u f
  reads f =
      ap (λ (s : Setup). reading_of s (v % modulus_of g) f) (sym agrees.own) ∙ ap (λ (B : ℕ). reading_of (own_limits l) (v % B) f) (sym agrees.modulus)

  abbrev total : Frame → ℕ
  total f = wider_reading l u f + f.stamp.c

  seen-due : (f : Frame) → Seen g l u f → due_along l (total f) + v ≡ due_along (placed g) (place_at g v f + f.stamp.c)
  seen-due f p =
      let e : total f + v ≡ place_at g v f + f.stamp.c = omega (arith, reads f) in
      agrees.due (total f) (subst (λ (s : Setup). total f < modulus_of l + s.epsilon) agrees.own p.hi) (subst (λ (s : Setup). modulus_of l < total f + s.delta + 2 * s.epsilon) agrees.own p.lo)
      ∙ (ap (λ (B : ℕ). due_along (moved_by B g) (total f + v)) agrees.modulus ∙ ap (due_along (placed g)) e)

  seen-compared : (f : Frame) → Seen g l u f → compared_along l (total f) ≡ compared_along (placed g) (place_at g v f + f.stamp.c)
  seen-compared f p =
      let e : total f + v ≡ place_at g v f + f.stamp.c = omega (arith, reads f) in
      agrees.compared (total f) (subst (λ (s : Setup). total f < modulus_of l + s.epsilon) agrees.own p.hi) (subst (λ (s : Setup). modulus_of l < total f + s.delta + 2 * s.epsilon) agrees.own p.lo)
      ∙ (ap (λ (B : ℕ). compared_along (moved_by B g) (total f + v)) agrees.modulus ∙ ap (compared_along (placed g)) e)

  -- the order of the call is that of places
  seen_key : (f : Frame) → Seen g l u f → placed_key g v f ≡ key_with (compared_along l (total f)) (frame_half l f) (total f + v) (wider_reading l u f + v) f
  unfolding wider_key sum
  seen_key f p =
      let e : place_at g v f + f.stamp.c ≡ total f + v = omega (arith, reads f) in
      let half : frame_half (placed g) f ≡ frame_half l f = ap (λ (h : ℕ → ℕ). h (length f.stamp.kn)) (half-moved (modulus_of g) g) ∙ sym p.half in
      λ i. key_with (sym (seen-compared f p) i) (half i) (e i) (ap (λ (x : ℕ). x + v) (reads f) i) f

  pub seen-order : (a b : Frame) → Seen g l u a → Seen g l u b → lex_compare (wider_key_near l u a) (wider_key_near l u b) ≡ lex_compare (placed_key g v a) (placed_key g v b)
  unfolding wider_key_near wider_key sum
  seen-order a b p q =
      sym (
      ap₂ lex_compare (seen_key a p) (seen_key b q)
      ∙ lower v (total a) (total b) a.station b.station (wider_reading l u a) (wider_reading l u b)
      (counts_down_by (compared_along l (total a)) (frame_half l a) a.stamp) (counts_down_by (compared_along l (total b)) (frame_half l b) b.stamp) same
      )
    where
      same :
          total a ≡ total b
          → length (counts_down_by (compared_along l (total a)) (frame_half l a) a.stamp) ≡ length (counts_down_by (compared_along l (total b)) (frame_half l b) b.stamp)
      same e =
          length-down-by (compared_along l (total a)) (frame_half l a) a.stamp
          ∙ (ap (compared_along l) e ∙ sym (length-down-by (compared_along l (total b)) (frame_half l b) b.stamp))

  -- a frame of a sound queue, with a least due clock less than ε before v
  pub seen-in :
      (least : ℕ) (queue : List Frame) → Good l → modulus_of l + 1 ≤ least + (own_limits l).epsilon → QueueAlong l u least queue → (f : Frame) → Memᴰ f queue → Seen g l u f
  seen-in least queue good far ok f m =
      let limits = limits-good l good (modulus_of l) in
      let due : least ≤ due_along l (total f) = along-expired l u least f (every-mem (wider_not_expired l u least) ok.expired m) in
      let x : ℕ = modulus_of l + 1 - (own_limits l).epsilon in
      let window : x ≤ total f + (own_limits l).delta + (own_limits l).epsilon = due-window l good (modulus_of l) x (total f) (omega arith) (omega arith) in
      record {
        hi = omega (arith, early_from (own_limits l) u f (every-mem (not_early (own_limits l) u) ok.early m), limits.epsilon-pos, limits-modulus l good (modulus_of l));
        lo = omega (arith, window);
        half = agrees.halves (length f.stamp.kn) (ok.frames f m).wide;
      }

  -- ---- what it leaves

  pub placed-left : (queue : List Frame) → Good l → LeftAlong l u queue → QueuePlaced g v queue
  placed-left queue good left =
      record {
        frames = λ f m. frame f (seen f m) (left.frames f m);
        sorted =
            sorted-rekey (wider_key_near l u) (placed_key g v) queue (λ a b m h. seen-order a b (seen a m) (seen b h)) (ordered-along l u queue left.ordered);
        single = left.single;
        early = λ f m. omega (arith, (seen f m).hi, reads f, agrees.modulus, ap (λ (s : Setup). s.epsilon) agrees.own);
        later = λ f m. omega (arith, left.later f m, seen-due f (seen f m), agrees.modulus);
      }
    where
      limits : Limits (own_limits l)
      limits = limits-good l good (modulus_of l)

      seen : (f : Frame) → Memᴰ f queue → Seen g l u f
      seen f m =
          let window = due-window l good (modulus_of l) (modulus_of l + 1) (total f) (omega arith) (let h : modulus_of l + 1 ≤ due_along l (total f) = omega (arith, left.later f m) in h) in
          record {
            hi = omega (arith, left.early f m, limits.epsilon-pos);
            lo = omega (arith, window, limits.epsilon-pos);
            half = agrees.halves (length f.stamp.kn) (left.frames f m).wide;
          }

      frame : (f : Frame) → Seen g l u f → FrameWithin l (own_limits l) f → FrameWithin g (limits_at g v) f
      frame f p ok =
          subst (λ (s : Setup). FrameWithin g s f) agrees.own
          (record {
            station-below = ok.station-below;
            r-below = ok.r-below;
            wide = ok.wide ∙ ap width p.half;
            sound = subst (λ (h : ℕ). Sound (own_limits l).n h f.stamp) p.half ok.sound;
            close = ok.close;
            short = ok.short;
          })

-- ---- what is opened k clocks later, where the call takes the frames for as wide as they are

module _ (g l : Schedule) (last v k : ℕ) (good : Good g) (good-l : Good l) (agrees : Agrees g v l) (turn : v ≡ last + k) (pos : 1 ≤ k) (few : k ≤ (limits_at g v).epsilon)
    (queue : List Frame) (left : QueuePlaced g last queue)
  where
    abbrev B : ℕ
    B = modulus_of g

    more : ((limits_at g last).epsilon ≤ (limits_at g v).epsilon) × ((limits_at g last).delta ≤ (limits_at g v).delta)
    more = limits-grow g good last v (omega arith)

    large : 6 * (limits_at g v).epsilon + (limits_at g v).delta + 1 ≤ B
    large = omega (arith, (limits-good g good v).modulus-least, limits-modulus g good v)

    some : 1 ≤ (limits_at g last).epsilon
    some = (limits-good g good last).epsilon-pos

    -- a sum that is due past the clock before lies in the window of that clock's limits
    window : (f : Frame) → Memᴰ f queue → B + 1 ≤ read_at g last f + f.stamp.c + (limits_at g last).delta + (limits_at g last).epsilon
    window f m =
        let x : ℕ = place_at g last f + f.stamp.c in
        let due : B + last + 1 ≤ due_along (placed g) x = omega (arith, left.later f m) in
        let here : limits_at (placed g) (last + B) ≡ limits_at g last = limits-moved B g last in
        let h : B + last + 1 ≤ x + (limits_at (placed g) (last + B)).delta + (limits_at (placed g) (last + B)).epsilon =
        due-window (placed g) (good-moved B g good) (last + B) (B + last + 1) x (omega arith) due in
        omega (arith, h, ap (λ (s : Setup). s.delta) here, ap (λ (s : Setup). s.epsilon) here)

    -- it stays at its place
    pub place_kept : (f : Frame) → Memᴰ f queue → place_at g v f ≡ place_at g last f
    unfolding reading_of
    place_kept f m =
        let ok = left.frames f m in
        let below : last % B < B = mod-lt last (omega (arith, large)) in
        let at : (last % B + k) % B ≡ v % B = mod-add-mod last B k ∙ ap (λ (x : ℕ). x % B) (sym turn) in
        let old : read_at g last f ≡ near (limits_at g last).epsilon B (last % B) f.stamp.r =
        ap (λ (y : ℕ). near (limits_at g last).epsilon y (last % B) f.stamp.r) (limits-modulus g good last) in
        let new : read_at g v f ≡ near (limits_at g v).epsilon B ((last % B + k) % B) f.stamp.r =
        ap (λ (y : ℕ). near (limits_at g v).epsilon y (v % B) f.stamp.r) (limits-modulus g good v) ∙ ap (λ (y : ℕ). near (limits_at g v).epsilon B y f.stamp.r) (sym at) in
        let kept : near (limits_at g v).epsilon B ((last % B + k) % B) f.stamp.r + k ≡ near (limits_at g last).epsilon B (last % B) f.stamp.r =
        near-kept (limits_at g last).epsilon (limits_at g v).epsilon B (last % B) k f.stamp.r some more.0 (omega (arith, large))
        (omega (arith, ok.r-below, limits-modulus g good last)) below
        (omega (arith, old, window f m, ok.close, large, more.0, more.1, few)) in
        omega (arith, old, new, kept, turn)

    module _ (widths : (f : Frame) → Memᴰ f queue → frame_half l f ≡ frame_half g f) where
      seen-later : (f : Frame) → Memᴰ f queue → Seen g l (v % modulus_of l) f
      seen-later f m =
          record {
            hi = omega (arith, reads g l v agrees f, place_kept f m, left.early f m, more.0, agrees.modulus, ap (λ (s : Setup). s.epsilon) agrees.own, turn);
            lo =
                omega (
                  arith,
                  reads g l v agrees f,
                  place_kept f m,
                  window f m,
                  more.0,
                  more.1,
                  few,
                  turn,
                  agrees.modulus,
                  ap (λ (s : Setup). s.epsilon) agrees.own,
                  ap (λ (s : Setup). s.delta) agrees.own,
                );
            half = widths f m;
          }

      frame-later : (f : Frame) → Memᴰ f queue → FrameWithin l (own_limits l) f
      frame-later f m =
          let ok = left.frames f m in
          subst (λ (s : Setup). FrameWithin l s f) (sym agrees.own)
          (record {
            station-below = omega (arith, ok.station-below, limits-n g good last, limits-n g good v);
            r-below = omega (arith, ok.r-below, limits-modulus g good last, limits-modulus g good v);
            wide = ok.wide ∙ ap width (sym (widths f m));
            sound =
                subst (λ (n : ℕ). Sound n (frame_half l f) f.stamp) (limits-n g good last ∙ sym (limits-n g good v))
                (subst (λ (h : ℕ). Sound (limits_at g last).n h f.stamp) (sym (widths f m)) ok.sound);
            close = omega (arith, ok.close, more.0);
            short = ok.short;
          })

      same-order :
          (a b : Frame) → Memᴰ a queue → Memᴰ b queue
          → lex_compare (placed_key g last a) (placed_key g last b) ≡ lex_compare (wider_key_near l (v % modulus_of l) a) (wider_key_near l (v % modulus_of l) b)
      same-order a b m h =
          ap₂ (λ (x y : ℕ). lex_compare (wider_key (placed g) x a) (wider_key (placed g) y b)) (sym (place_kept a m)) (sym (place_kept b h))
          ∙ sym (seen-order g l v agrees a b (seen-later a m) (seen-later b h))

      pub placed-opens : QueueAlong l (v % modulus_of l) (modulus_of l + 1 - k) queue
      placed-opens =
          record {
            frames = frame-later;
            ordered =
                along-ordered l (v % modulus_of l) queue
                (sorted-rekey (placed_key g last) (wider_key_near l (v % modulus_of l)) queue same-order left.sorted);
            single = left.single;
            early =
                every-of-mem (not_early (own_limits l) (v % modulus_of l)) queue
                (λ f m.
                early-to (own_limits l) (v % modulus_of l) f
                (omega (arith, (seen-later f m).hi, limits-modulus l good-l (modulus_of l))));
            expired =
                every-of-mem (wider_not_expired l (v % modulus_of l) (modulus_of l + 1 - k)) queue
                (λ f m.
                expired-along l (v % modulus_of l) (modulus_of l + 1 - k) f
                (omega (
                  arith,
                  left.later f m,
                  seen-due g l v agrees f (seen-later f m),
                  ap (λ (x : ℕ). due_along (placed g) (x + f.stamp.c)) (place_kept f m),
                  agrees.modulus,
                  turn,
                )));
          }

      -- it is not full, by the limits of v
      pub placed-room : length queue ≤ depth_of (own_limits l)
      unfolding depth
      placed-room =
          few-along l good-l (v % modulus_of l) (modulus_of l + 1 - k) queue (modulus_of l + 2 - ((limits_at g last).delta + 2 * (limits_at g last).epsilon) - k)
          ((own_limits l).delta + 3 * (own_limits l).epsilon) (mod-lt v (omega (arith, large, agrees.modulus))) placed-opens
          (λ f m. omega (arith, reads g l v agrees f, place_kept f m, window f m, (left.frames f m).close, agrees.modulus, turn))
          (λ f m.
          omega (
            arith,
            reads g l v agrees f,
            place_kept f m,
            left.early f m,
            more.0,
            more.1,
            some,
            large,
            few,
            turn,
            agrees.modulus,
            ap (λ (s : Setup). s.epsilon) agrees.own,
            ap (λ (s : Setup). s.delta) agrees.own,
          ))

      -- so the bytes of these frames, with whatever stands behind them, are opened as these frames
      pub placed-bytes : (rest : List ℕ) → wider_sound_holdback l (v % modulus_of l) (modulus_of l + 1 - k) (encode_frames queue ++ rest) ≡ true
      placed-bytes rest = bytes-along l good-l (v % modulus_of l) (modulus_of l + 1 - k) queue rest placed-room placed-opens

      pub placed-held : (rest : List ℕ) → wider_held l (encode_frames queue ++ rest) ≡ queue
      placed-held rest = wide-held l queue (λ f m. (frame-later f m).wide) rest
