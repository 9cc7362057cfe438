-- What a sound queue gives to a change of it, and what of it is due.
-- Assumes nothing.
use Rattle.std.proofs.Common.{◌≡◌, ℕ, ◌+◌, ◌-◌, ◌*◌, ◌<◌, ◌≤◌, Bool, true, not, List, length, take, drop, sym, ap, ◌∙◌, mul-le-mul_right, mul_comm, add-mul, arith, length-take-le}
use Rattle.laws.specs.Lists.{select, leading}
use Rattle.laws.proofs.Lists.{every-mono, leading_le}
use Rattle.model.specs.Setup.{Setup, depth, longest_frame, holdback_length}
use Rattle.model.specs.Frame.{Frame, two_at, well_formed}
use Rattle.model.specs.Holdback.{held_bytes, held, passes, sound_holdback}
use Rattle.model.specs.Tick.{due_now, holdback_size}
use Rattle.model.specs.Poll.{due_within}
use Rattle.lemmas.proofs.Bounds.{Limits}
use Rattle.lemmas.proofs.Queue.{sound-queue, due-few, both-few, depth_small}
use Rattle.setup.proofs.InLimits.{depth-most}
use Rattle.holdback.specs.Queue.{frame_start, Spans, Stands}
use Rattle.holdback.proofs.RoundTrip.{passing}
use Rattle.holdback.proofs.Judging.{sound-few, sound-passes, sound-ordered, sound-expired, sound-frames, sound-formed}
use Rattle.holdback.proofs.Changes.{formed-frames, length-held}
use Rattle.holdback.proofs.Frames.{FormedUpTo, start-most}
use Rattle.holdback.proofs.Order.{due-prefix, due-rest}

module _ (s : Setup) (v least : ℕ) (b : List ℕ) (sound : sound_holdback s v least b ≡ true) where
  pub count_small : (count : ℕ) → Limits s → count ≡ two_at b 0 → count ≤ 1792
  unfolding depth
  count_small count limits e =
      omega (arith, sound-few s v least b sound, depth-most s.n s.epsilon s.delta limits.n-most limits.epsilon-most limits.delta-most)

  pub sound-spans : (p : Frame → Bool) (count stop index at : ℕ) → 2 ≤ length b → count ≡ two_at b 0 → stop ≡ frame_start s.epsilon b count
      → Stands s.epsilon b (leading p (held s.epsilon b)) index at → Spans s.epsilon b count stop index at
  sound-spans p count stop index at two count-is ends stands =
      record {
        formed = every-mono (passes s) (well_formed s.epsilon) (held_bytes s.epsilon b) (λ x h. (passing s x h).well) (sound-passes s v least b sound);
        two = two;
        count-is = count-is;
        ends = ends;
        inside = omega (arith, stands.frames, leading_le p (held s.epsilon b), length-held s.epsilon b);
        starts = stands.starts;
      }

module _ (s : Setup) (v : ℕ) (b : List ℕ) (sound : sound_holdback s v s.modulus b ≡ true)
    (index at : ℕ) (stands : Stands s.epsilon b (leading (due_within s v 0) (held s.epsilon b)) index at) where
  pub due-taken : take index (held s.epsilon b) ≡ select (due_now s v) (held s.epsilon b)
  due-taken =
      ap (λ (n : ℕ). take n (held s.epsilon b)) stands.frames
      ∙ sym (due-prefix s v (held s.epsilon b) (sound-ordered s v s.modulus b sound) (sound-expired s v s.modulus b sound))

  pub due-left : drop index (held s.epsilon b) ≡ select (λ f. not (due_now s v f)) (held s.epsilon b)
  due-left =
      ap (λ (n : ℕ). drop n (held s.epsilon b)) stands.frames
      ∙ sym (due-rest s v (held s.epsilon b) (sound-ordered s v s.modulus b sound) (sound-expired s v s.modulus b sound))

  pub due-number : index ≡ length (select (due_now s v) (held s.epsilon b))
  due-number =
      let le : index ≤ length (held s.epsilon b) = omega (arith, stands.frames, leading_le (due_within s v 0) (held s.epsilon b)) in
      sym (length-take-le index (held s.epsilon b) le) ∙ ap length due-taken

  -- it fits behind what is handed out already
  pub due-room : {d : List ℕ} {before stop : ℕ} → Limits s → v < s.modulus → Spans s.epsilon d before stop before stop → before ≤ s.n * (2 * s.epsilon - 2)
      → holdback_size s ≤ length d → (stop + (at - 2) ≤ length d) × (before + index < 65536)
  unfolding holdback_length
  due-room {d} {before} {stop} limits below given few long =
      let L : ℕ = longest_frame s.epsilon in
      let mine : index ≤ s.n * s.epsilon = omega (arith, due-number, due-few s v (held s.epsilon b) limits below (sound-queue s v s.modulus b limits sound)) in
      let formed : FormedUpTo s.epsilon b index =
      sound-formed s v s.modulus b index
      (λ i h. sound-frames s v s.modulus b sound i (omega (arith, stands.frames, leading_le (due_within s v 0) (held s.epsilon b), length-held s.epsilon b))) in
      let formed-d : FormedUpTo s.epsilon d before = λ i h. formed-frames s.epsilon d given.formed i (omega (arith, given.count-is)) in (
        omega (
          arith,
          long,
          stands.starts,
          given.ends,
          start-most s.epsilon b index formed,
          start-most s.epsilon d before formed-d,
          mul-le-mul_right L few,
          mul-le-mul_right L mine,
          add-mul (s.n * (2 * s.epsilon - 2)) (s.n * s.epsilon) L,
          mul-le-mul_right L (both-few s),
          mul_comm L (depth s.n s.epsilon s.delta),
        ),
        omega (arith, few, mine, both-few s, depth_small s limits),
      )
