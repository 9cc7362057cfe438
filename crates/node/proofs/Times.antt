-- The questions 13 to 15 of a frame, one by one, as the code asks them; 15 not where one only listens. Assumes nothing.
use Prim.Native.Nat.{ℕ, ◌+◌, ◌-◌, ◌≤◌, ◌<◌}
use native.Mathlib.Omega.{arith}
use mathlib.Core.Path.{◌≡◌, sym, ap, ◌∙◌}
use mathlib.Core.Bool.{Bool, true, false, cond}
use mathlib.Core.List.{List, [], ◌∷◌}
use lib.ListN.{length, take, drop}
use lib.Seq.{take_all}
use borrow.Author.Tests.{le-leb, lt-leb}
use Rattle.model.specs.Setup.{Setup}
use Rattle.model.specs.Timestamp.{counts_from, sum, at_most}
use Rattle.model.specs.Frame.{Frame, well_formed, counts_of, payload_count_at, decode}
use Rattle.model.specs.Order.{reading_of}
use Rattle.model.specs.Question.{ask, first_no, frame_questions, ask_form}
use Rattle.model.specs.Holdback.{passes}
use Rattle.lemmas.proofs.Bounds.{Limits, FrameOk}
use Rattle.lemmas.proofs.Questions.{first-yes, yes-cons, no-cons, limits-from}
use Rattle.lemmas.proofs.RoundTrip.{formed-from, passes-decode}
use Rattle.lemmas.proofs.Counts.{counts-from-drop}
use Rattle.lemmas.proofs.Queue.{reading-high}
use Rattle.node.specs.Views.{time_questions_at}
use Rattle.node.specs.States.{Readable, Askable}

module _ (listens : Bool) (s : Setup) (at reading : ℕ) (f : Frame) where
  pub late-no : reading + (s.delta + s.epsilon) < at → 13 ≡ first_no (time_questions_at listens s at reading f)
  unfolding time_questions_at first_no
  late-no h = rw (lt-leb at (reading + (s.delta + s.epsilon)) h)

  module _ (h1 : at ≤ reading + (s.delta + s.epsilon)) where
    pub early-no : at + (s.epsilon - 1) < reading + f.stamp.c → 14 ≡ first_no (time_questions_at listens s at reading f)
    unfolding time_questions_at sum first_no
    early-no h =
        rw (le-leb at (reading + (s.delta + s.epsilon)) h1, lt-leb (reading + f.stamp.c) (at + (s.epsilon - 1)) h)

    module _ (h2 : reading + f.stamp.c ≤ at + (s.epsilon - 1)) where
      counts-left : first_no (time_questions_at listens s at reading f) ≡ first_no (cond listens [] (ask (at_most (s.n - 1) (counts_from s.epsilon reading f.stamp.kn at)) 15 ∷ []))
      unfolding time_questions_at sum first_no
      counts-left =
          rw (le-leb at (reading + (s.delta + s.epsilon)) h1, le-leb (reading + f.stamp.c) (at + (s.epsilon - 1)) h2)

      pub counts-unasked : listens ≡ true → 0 ≡ first_no (time_questions_at listens s at reading f)
      unfolding first_no
      counts-unasked l = sym (counts-left ∙ rw l)

      module _ (l : listens ≡ false) where
        counts-asked : first_no (time_questions_at listens s at reading f) ≡ first_no (ask (at_most (s.n - 1) (counts_from s.epsilon reading f.stamp.kn at)) 15 ∷ [])
        counts-asked = counts-left ∙ rw l

        pub counts-no : at_most (s.n - 1) (counts_from s.epsilon reading f.stamp.kn at) ≡ false → 15 ≡ first_no (time_questions_at listens s at reading f)
        counts-no h = sym (counts-asked ∙ no-cons _ 15 [] h)

        pub times-right : at_most (s.n - 1) (counts_from s.epsilon reading f.stamp.kn at) ≡ true → 0 ≡ first_no (time_questions_at listens s at reading f)
        unfolding first_no
        times-right h = sym (counts-asked ∙ yes-cons _ 15 [] h)

-- the counts for a clock and those after it, where they stand in the frame's part
pub counts-there : (epsilon reading clock : ℕ) (bytes counts : List ℕ) → counts ≡ counts_of epsilon bytes → reading ≤ clock + epsilon
    → drop (clock + epsilon - reading) (take (length counts) counts) ≡ counts_from epsilon reading (decode epsilon bytes).stamp.kn clock
unfolding decode
counts-there epsilon reading clock bytes counts e h =
    ap (drop (clock + epsilon - reading)) (take_all (length counts) counts (omega arith) ∙ e)
    ∙ sym (counts-from-drop epsilon reading (counts_of epsilon bytes) clock (clock + epsilon - reading) (omega arith))

-- what a frame that has passed 10 to 12 gives
pub record Given (s : Setup) (v : ℕ) (bytes : List ℕ) : Type 0 where
  pub limits : Limits s
  pub below : v < s.modulus
  pub frame : FrameOk s (decode s.epsilon bytes)
  pub r-below : (decode s.epsilon bytes).stamp.r < s.modulus
  pub c-below : (decode s.epsilon bytes).stamp.c < s.epsilon
  pub long : payload_count_at s.epsilon ≤ length bytes
  pub high : reading_of s v (decode s.epsilon bytes) < s.modulus + s.epsilon

pub given : (s : Setup) (v : ℕ) (bytes : List ℕ) → Readable s v bytes → Given s v bytes
unfolding frame_questions ask_form passes payload_count_at
given s v bytes p =
    let lim : Limits s = limits-from s p.timed.limits in
    let ok : FrameOk s (decode s.epsilon bytes) = passes-decode s bytes lim (rw p.passed) in
    let form : well_formed s.epsilon bytes ≡ true = first-yes (well_formed s.epsilon bytes) 9 _ p.passed in
    record {
      limits = lim;
      below = p.timed.below;
      frame = ok;
      r-below = ok.r-below;
      c-below = ok.sound.close;
      long = omega (arith, (formed-from s.epsilon bytes form).size);
      high = reading-high s v (decode s.epsilon bytes) lim;
    }

-- and so 13 to 15 can be asked of it, with its r read near v, which reads B
pub askable : (s : Setup) (v reading : ℕ) (bytes : List ℕ) → Readable s v bytes → reading ≡ reading_of s v (decode s.epsilon bytes) → Askable s s.modulus reading bytes
askable s v reading bytes p e =
    let g : Given s v bytes = given s v bytes p in
    record {
      n_pos = g.limits.n_pos;
      epsilon-pos = g.limits.epsilon-pos;
      epsilon-most = g.limits.epsilon-most;
      delta-most = g.limits.delta-most;
      clock-fits = omega (arith, g.limits.modulus-most);
      reading-fits = omega (arith, g.high, g.limits.modulus-most, g.limits.epsilon-most);
      c-below = g.c-below;
      long = g.long;
    }
