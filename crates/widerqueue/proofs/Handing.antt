-- What is due at v fits behind what is handed out already.
-- Assumes nothing.
use Prim.Native.Nat.{ℕ, ◌+◌, ◌-◌, ◌*◌, ◌≤◌, ◌<◌}
use native.Mathlib.Omega.{arith}
use native.Mathlib.Nat.{mul-add, mul-le-mul_left}
use mathlib.Core.Path.{◌≡◌, sym, ap, subst, ◌∙◌}
use mathlib.Core.Bool.{true, not}
use mathlib.Core.List.Memᴰ
use mathlib.Core.List.{List, Memᴰ}
use lib.ListN.{length, take, drop}
use lib.Seq.{length-take-le}
use Rattle.laws.specs.Lists.{every, leading, select}
use Rattle.laws.proofs.Lists.{every-mem, leading_le, mem-of-take}
use Rattle.model.specs.Setup.{Setup, width, longest_frame, holdback_length}
use Rattle.model.specs.Frame.{Frame, encode}
use Rattle.model.specs.Holdback.{encode_frames}
use Rattle.model.specs.Schedule.{Schedule, modulus_of, widest_of, own_limits}
use Rattle.model.specs.Tick.{holdback_size}
use Rattle.model.specs.Wider.{frame_half, wider_formed, wider_decode, wider_held_bytes, wider_held, wider_sound_holdback, wider_due_now}
use Rattle.lemmas.proofs.Queue.{both-few, depth_small}
use Rattle.lemmas.proofs.RoundTrip.{length-encode, length-frames}
use Rattle.lemmas.proofs.Schedules.{Good}
use Rattle.lemmas.proofs.WideFrames.{half-one, half-some, formed-wide, length-wide-held}
use Rattle.lemmas.proofs.WiderQueue.{QueueAlong, sound-along, due-few-along, depth-widest}
use Rattle.widerqueue.specs.Queue.{Spans, Stands}
use Rattle.widerqueue.proofs.Shared.{own-good}
use Rattle.widerqueue.proofs.Queues.{sound-formed}
use Rattle.widerqueue.proofs.Fronts.{due_under, now-prefix, now-rest, now-number}

-- a frame of either width has the longest length at most
formed-fits : (g : Schedule) → Good g → (bytes : List ℕ) → wider_formed g bytes ≡ true → length (encode (wider_decode g bytes)) ≤ longest_frame (widest_of g).epsilon
unfolding longest_frame width
formed-fits g good bytes h =
    let f : Frame = wider_decode g bytes in
    omega (arith, length-encode f, (formed-wide g bytes h).0, (formed-wide g bytes h).1, (half-some g good (frame_half g f) (half-one g (length f.stamp.kn))).1)

-- so many of them end at most so far
pub held-ends : (g : Schedule) → Good g → (b : List ℕ) (k most : ℕ) → every (wider_formed g) (wider_held_bytes g b) ≡ true → length (take k (wider_held g b)) ≤ most
    → length (encode_frames (take k (wider_held g b))) ≤ 2 + longest_frame (widest_of g).epsilon * most
unfolding encode_frames wider_held
held-ends g good b k most formed few =
    length-frames encode (take k (wider_held g b)) (longest_frame (widest_of g).epsilon) most
    (λ f m. one f (Memᴰ.of_map (wider_decode g) (wider_held_bytes g b) (mem-of-take k (wider_held g b) m))) few
  where
    one : (f : Frame) → (a : List ℕ) × Memᴰ a (wider_held_bytes g b) × (wider_decode g a ≡ f) → length (encode f) ≤ longest_frame (widest_of g).epsilon
    one f t = subst (λ (x : Frame). length (encode x) ≤ longest_frame (widest_of g).epsilon) t.2 (formed-fits g good t.0 (every-mem (wider_formed g) formed t.1))

module _ (g : Schedule) (good : Good g) (v : ℕ) (b : List ℕ) (sound : wider_sound_holdback g v (modulus_of g) b ≡ true) {index at : ℕ}
    (stands : Stands g b (leading (due_under g v (modulus_of g + 1)) (wider_held g b)) index at) where
  ok : QueueAlong g v (modulus_of g) (wider_held g b)
  ok = sound-along g good v (modulus_of g) b sound

  index_in : index ≤ length (wider_held g b)
  index_in = omega (arith, stands.frames, leading_le (due_under g v (modulus_of g + 1)) (wider_held g b))

  pub due-number : index ≡ length (select (wider_due_now g v) (wider_held g b))
  due-number = stands.frames ∙ now-number g good v (wider_held g b) ok

  pub due-room : {d : List ℕ} {before stop : ℕ} → v < modulus_of g → Spans g d before stop before stop → before ≤ (own_limits g).n * (2 * (own_limits g).epsilon - 2)
      → holdback_size (widest_of g) ≤ length d → (stop + (at - 2) ≤ length d) × (before + index < 65536)
  unfolding holdback_length
  due-room {d} {before} {stop} below given few long =
      let s : Setup = own_limits g in
      let L : ℕ = longest_frame (widest_of g).epsilon in
      let mine : index ≤ s.n * s.epsilon = omega (arith, due-number, due-few-along g good v (wider_held g b) below ok) in
      let here : at ≤ 2 + L * (s.n * s.epsilon) =
      rw stands.starts (held-ends g good b index (s.n * s.epsilon) (sound-formed g v (modulus_of g) b sound) (omega (arith, length-take-le index (wider_held g b) index_in))) in
      let there : stop ≤ 2 + L * (s.n * (2 * s.epsilon - 2)) =
      rw given.starts
      (held-ends g good d before (s.n * (2 * s.epsilon - 2)) given.formed
      (omega (arith, length-take-le before (wider_held g d) (let all : before ≤ length (wider_held g d) = omega (arith, length-wide-held g d, given.count-is) in all)))) in (
        omega (
          arith,
          long,
          mul-add L (s.n * (2 * s.epsilon - 2)) (s.n * s.epsilon),
          mul-le-mul_left L (both-few s),
          mul-le-mul_left L (depth-widest g good),
        ),
        omega (arith, few, mine, both-few s, depth_small s (own-good g good)),
      )

  -- what is due is the front, and the rest is not
  pub due-taken : take index (wider_held g b) ≡ select (wider_due_now g v) (wider_held g b)
  due-taken = ap (λ (n : ℕ). take n (wider_held g b)) stands.frames ∙ sym (now-prefix g good v (wider_held g b) ok)

  pub due-left : drop index (wider_held g b) ≡ select (λ f. not (wider_due_now g v f)) (wider_held g b)
  due-left = ap (λ (n : ℕ). drop n (wider_held g b)) stands.frames ∙ sym (now-rest g good v (wider_held g b) ok)
