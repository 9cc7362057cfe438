-- A sound queue of frames of both widths: for a walk over its frames, a search among them, and a change of it.
-- Assumes nothing.
use Prim.Native.Nat.{ℕ, ◌+◌, ◌≤◌}
use native.Mathlib.Omega.{arith}
use mathlib.Core.Path.{◌≡◌, sym, ap, ◌∙◌}
use mathlib.Core.Bool.{Bool, true}
use mathlib.Core.List.{List, Memᴰ}
use lib.ListN.{length, take}
use Rattle.laws.specs.Lists.{every, leading}
use Rattle.laws.proofs.Lists.{every-mono, every-mem, leading_le}
use Rattle.model.specs.Setup.{depth, depth_of}
use Rattle.model.specs.Frame.{Frame, two_at}
use Rattle.model.specs.Schedule.{Schedule, modulus_of, own_limits}
use Rattle.model.specs.Wider.{wider_reading, wider_formed, wider_decode, wider_end, wider_passes, wider_not_expired, wider_held_bytes, wider_held, wider_sound_holdback}
use Rattle.lemmas.specs.Standing.{left_by, StandingBy}
use Rattle.lemmas.proofs.FrameWalk.{stand, Seeking}
use Rattle.lemmas.proofs.Schedules.{Good, due-window}
use Rattle.lemmas.proofs.WideFrames.{FrameWithin, length-wide-held}
use Rattle.lemmas.proofs.WiderQueue.{sound-along, along-expired}
use Rattle.setup.proofs.InLimits.{depth-most}
use Rattle.holdback.specs.Sound.{Recent}
use Rattle.holdback.specs.Seen.{Placeable}
use Rattle.holdback.proofs.RoundTrip.{Bytes}
use Rattle.widerqueue.specs.Queue.{Extent, Spans, Stands}
use Rattle.widerqueue.proofs.Shared.{own-good, own-modulus}
use Rattle.widerqueue.proofs.Forms.{wide-inside, passes-formed, held-left, starts-written}
use Rattle.widerqueue.proofs.Parts.{Parts, parts_from, sound-parts}

-- a frame that a sound queue can have has a place in the table of origins
pub placeable : (g : Schedule) (good : Good g) (v least : ℕ) (f : Frame) → Recent (own_limits g) least → FrameWithin g (own_limits g) f → wider_not_expired g v least f ≡ true → Placeable (own_limits g) v f
placeable g good v least f recent ok late =
    record {
      station-below = ok.station-below;
      r-below = ok.r-below;
      not-before =
          omega (
            arith,
            due-window g good (modulus_of g) least (wider_reading g v f + f.stamp.c) (omega (arith, recent.close, own-modulus g good)) (along-expired g v least f late),
            ok.close,
            recent.late,
          );
    }

module _ (g : Schedule) (v least : ℕ) (b : List ℕ) (sound : wider_sound_holdback g v least b ≡ true) where
  sound-each : Parts g v least (wider_held_bytes g b)
  sound-each = parts_from g v least (wider_held_bytes g b) (sound-parts g v least b sound).1

  pub sound-few : two_at b 0 ≤ depth_of (own_limits g)
  sound-few = (sound-parts g v least b sound).0

  pub count_small : Good g → two_at b 0 ≤ 1792
  unfolding depth
  count_small good =
      let limits = own-good g good in
      omega (arith, sound-few, depth-most (own_limits g).n (own_limits g).epsilon (own_limits g).delta limits.n-most limits.epsilon-most limits.delta-most)

  pub sound-formed : every (wider_formed g) (wider_held_bytes g b) ≡ true
  sound-formed = every-mono (wider_passes g) (wider_formed g) (wider_held_bytes g b) (passes-formed g) sound-each.passing

  -- its frames stand in it
  pub sound-stand : {count : ℕ} → 2 ≤ length b → count ≡ two_at b 0 → StandingBy (wider_end g) (wider_passes g) b 2 count
  unfolding wider_held_bytes
  sound-stand {count} two e =
      stand (wider_end g) (wider_passes g) (λ l h. wide-inside g l (passes-formed g (take (wider_end g l) l) h)) b 2 count two (rw e sound-each.passing)

  -- where a search has come to
  pub seek-place : {p : Frame → Bool} {count i at : ℕ} → Bytes b → 2 ≤ length b → count ≡ two_at b 0 → Seeking (wider_end g) (wider_decode g) (wider_passes g) p b 2 count i at
      → i ≡ leading p (left_by (wider_end g) (wider_decode g) b 2 count) → Stands g b (leading p (wider_held g b)) i at
  seek-place {p} {count} {i} bytes two count-is seek e =
      let same : i ≡ leading p (wider_held g b) = e ∙ ap (λ (n : ℕ). leading p (left_by (wider_end g) (wider_decode g) b 2 n)) count-is ∙ ap (leading p) (sym (held-left g b)) in
      record {
        frames = same;
        starts = seek.starts ∙ starts-written g b sound-formed two bytes i (omega (arith, leading_le p (wider_held g b), length-wide-held g b));
      }

  -- what a change is told
  pub place-spans : (p : Frame → Bool) {count stop index at : ℕ} → 2 ≤ length b → Extent g b count stop → Stands g b (leading p (wider_held g b)) index at → Spans g b count stop index at
  place-spans p two extent stands =
      record {
        formed = sound-formed;
        two = two;
        count-is = extent.count-is;
        ends = extent.end_is;
        inside = omega (arith, stands.frames, leading_le p (wider_held g b), length-wide-held g b, extent.count-is);
        starts = stands.starts;
      }

  -- each frame has a place in the table of origins
  pub sound-placeable : Good g → Recent (own_limits g) least → (f : Frame) → Memᴰ f (wider_held g b) → Placeable (own_limits g) v f
  sound-placeable good recent f m =
      let ok = sound-along g good v least b sound in
      placeable g good v least f recent (ok.frames f m) (every-mem (wider_not_expired g v least) ok.expired m)

-- v is a least due clock that a call can allow
pub recent-now : (g : Schedule) → Good g → Recent (own_limits g) (modulus_of g)
recent-now g good =
    record { late = omega (arith, own-modulus g good, (own-good g good).epsilon-pos); close = omega (arith, own-modulus g good) }
