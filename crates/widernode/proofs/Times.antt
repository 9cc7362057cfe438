-- 02, 2.10: the questions 13 to 15 of a frame, one by one, as the code asks them; 15 not where one only listens. Assumes nothing.
use Prim.Native.Nat.{ℕ, ◌+◌, ◌-◌, ◌≤◌, ◌<◌}
use native.Mathlib.Omega.{arith}
use mathlib.Core.Path.{◌≡◌, refl, sym, ap, ◌∙◌}
use mathlib.Core.Logic.{inl, inr}
use mathlib.Core.Bool.{Bool, true, false, cond}
use mathlib.Core.List.{List, [], ◌∷◌}
use lib.ListN.{length, take, drop}
use lib.Seq.{take_all}
use borrow.Author.Tests.{le-leb, lt-leb, lt-ltb, le-ltb}
use Rattle.laws.specs.Lists.{placed_at}
use Rattle.laws.proofs.Numbers.{lt-or-ge, same_test}
use Rattle.model.specs.Setup.{Setup, width}
use Rattle.model.specs.Timestamp.{Timestamp, counts_from, sum, at_most}
use Rattle.model.specs.Frame.{Frame, counts_of, payload_count_at, decode}
use Rattle.model.specs.Question.{Question, ask, first_no}
use Rattle.model.specs.Schedule.{Schedule, modulus_of, own_limits, due_along}
use Rattle.model.specs.Wider.{half_in, frame_half, wider_formed, wider_decode, wider_reading, wider_passes, absorb_wide}
use Rattle.lemmas.proofs.Bounds.{Limits}
use Rattle.lemmas.proofs.Questions.{yes-cons, no-cons}
use Rattle.lemmas.proofs.Counts.{count-below, count_index, at-most-from, at-most-to, at-most-past, at-most-past-to, counts-from-drop}
use Rattle.lemmas.proofs.Queue.{reading-high}
use Rattle.lemmas.proofs.Schedules.{Good, limits-good, limits-modulus, widest-good}
use Rattle.lemmas.proofs.WideFrames.{half-one, half-some, has_width_lem, FrameWithin, passes-wide}
use Rattle.timestamp.specs.Views.{of_counts}
use Rattle.node.proofs.StampTurns.{counts-wide}
use Rattle.widernode.specs.Views.{few_counts, time_questions}
use Rattle.widernode.specs.States.{Readable}
use Rattle.widerqueue.proofs.Forms.{passes-formed, formed-counts}

-- the limits of v as the code has them
pub record Own (g : Schedule) (s : Setup) : Type 0 where
  pub limits : Limits (own_limits g)
  pub n : s.n ≡ (own_limits g).n
  pub epsilon : s.epsilon ≡ (own_limits g).epsilon
  pub delta : s.delta ≡ (own_limits g).delta
  pub modulus : s.modulus ≡ modulus_of g
  pub same : (own_limits g).modulus ≡ modulus_of g

pub own-facts : (g : Schedule) → Good g → {s : Setup} → s ≡ own_limits g → Own g s
own-facts g good e =
    let same = limits-modulus g good (modulus_of g) in
    record {
      limits = limits-good g good (modulus_of g);
      n = ap (λ (u : Setup). u.n) e;
      epsilon = ap (λ (u : Setup). u.epsilon) e;
      delta = ap (λ (u : Setup). u.delta) e;
      modulus = ap (λ (u : Setup). u.modulus) e ∙ same;
      same = same;
    }

-- ---- 13 and 14, and whether 15 is asked

module _ (listens : Bool) (g : Schedule) (reading : ℕ) (f : Frame) {s : Setup} (o : Own g s) where
  abbrev asked : List Question
  asked = time_questions listens g reading f

  pub late-no : reading + (s.delta + s.epsilon) < s.modulus → 13 ≡ first_no asked
  unfolding time_questions first_no
  late-no h = rw (lt-leb (modulus_of g) (reading + ((own_limits g).delta + (own_limits g).epsilon)) (omega (arith, o)))

  module _ (h1 : s.modulus ≤ reading + (s.delta + s.epsilon)) where
    timely : modulus_of g ≤ reading + ((own_limits g).delta + (own_limits g).epsilon)
    timely = omega (arith, o)

    pub due-no : {due : ℕ} → due ≡ due_along g (reading + f.stamp.c) → due < s.modulus → 13 ≡ first_no asked
    unfolding time_questions sum first_no
    due-no e h =
        rw (
          le-leb (modulus_of g) (reading + ((own_limits g).delta + (own_limits g).epsilon)) timely,
          lt-ltb (due_along g (reading + f.stamp.c)) (modulus_of g) (omega (arith, o, e)),
        )

    module _ {due : ℕ} (e : due ≡ due_along g (reading + f.stamp.c)) (h2 : s.modulus ≤ due) where
      undue : modulus_of g ≤ due_along g (reading + f.stamp.c)
      undue = omega (arith, o, e)

      pub early-no : s.modulus + (s.epsilon - 1) < reading + f.stamp.c → 14 ≡ first_no asked
      unfolding time_questions sum first_no
      early-no h =
          rw (
            le-leb (modulus_of g) (reading + ((own_limits g).delta + (own_limits g).epsilon)) timely,
            le-ltb (due_along g (reading + f.stamp.c)) (modulus_of g) undue,
            lt-leb (reading + f.stamp.c) ((own_limits g).modulus + ((own_limits g).epsilon - 1)) (omega (arith, o)),
          )

      module _ (h3 : reading + f.stamp.c ≤ s.modulus + (s.epsilon - 1)) where
        counts-left : first_no asked ≡ first_no (cond listens [] (ask (few_counts g reading f) 15 ∷ []))
        unfolding time_questions sum first_no
        counts-left =
            rw (
              le-leb (modulus_of g) (reading + ((own_limits g).delta + (own_limits g).epsilon)) timely,
              le-ltb (due_along g (reading + f.stamp.c)) (modulus_of g) undue,
              le-leb (reading + f.stamp.c) ((own_limits g).modulus + ((own_limits g).epsilon - 1)) (omega (arith, o)),
            )

        pub counts-unasked : listens ≡ true → 0 ≡ first_no asked
        unfolding first_no
        counts-unasked l = sym (counts-left ∙ rw l)

        pub counts-no : listens ≡ false → few_counts g reading f ≡ false → 15 ≡ first_no asked
        counts-no l h = sym (counts-left ∙ rw l (no-cons (few_counts g reading f) 15 [] h))

        pub times-right : listens ≡ false → few_counts g reading f ≡ true → 0 ≡ first_no asked
        unfolding first_no
        times-right l h = sym (counts-left ∙ rw l (yes-cons (few_counts g reading f) 15 [] h))

-- ---- 15: the counts for v and later, which may all be past v

at-most-behind : (bound half reading : ℕ) (kn : List ℕ) (clock : ℕ) → clock + half < reading → at_most bound kn ≡ at_most bound (counts_from half reading kn clock)
at-most-behind bound half reading kn clock h =
    same_test (at_most bound kn) (at_most bound (counts_from half reading kn clock))
    (λ t. at-most-past-to bound half reading kn clock (λ x le. placed t x))
    (λ t. at-most-to bound kn (λ i. rw (← count_index reading kn (reading + i) i refl) (at-most-past bound half reading kn clock t (reading + i) (omega arith))))
  where
    placed : at_most bound kn ≡ true → (x : ℕ) → placed_at reading kn x ≤ bound
    placed t x =
        elim (lt-or-ge x reading) [
          | inl below ↦ rw (count-below reading kn x below) (omega arith)
          | inr past ↦ rw (count_index reading kn x (x - reading) (omega arith)) (at-most-from bound kn t (x - reading))
        ]

pub at-most-drop : (bound half reading : ℕ) (kn : List ℕ) (clock : ℕ) → at_most bound (drop (clock + half - reading) kn) ≡ at_most bound (counts_from half reading kn clock)
at-most-drop bound half reading kn clock =
    elim (lt-or-ge (clock + half) reading) [
      | inl h ↦ (let zeros : clock + half - reading ≡ 0 = omega arith in rw zeros (at-most-behind bound half reading kn clock h))
      | inr h ↦ ap (at_most bound) (sym (counts-from-drop half reading kn clock (clock + half - reading) (omega arith)))
    ]

-- ---- what a frame that has passed 10 to 12 gives

pub record Given (g : Schedule) (v : ℕ) (bytes : List ℕ) : Type 0 where
  pub passes : wider_passes g bytes ≡ true
  pub formed : wider_formed g bytes ≡ true
  pub frame : FrameWithin g (own_limits g) (wider_decode g bytes)
  pub half_is : frame_half g (wider_decode g bytes) ≡ half_in g bytes
  pub half-most : half_in g bytes ≤ 16
  pub long : payload_count_at (half_in g bytes) ≤ length bytes
  pub limits : Limits (own_limits g)
  pub same : (own_limits g).modulus ≡ modulus_of g
  pub high : wider_reading g v (wider_decode g bytes) < modulus_of g + (own_limits g).epsilon

pub given : (g : Schedule) (v : ℕ) (bytes : List ℕ) → Readable g v bytes → Given g v bytes
unfolding wider_passes width wider_decode decode
given g v bytes r =
    let good = r.timed.good in
    let own : Limits (own_limits g) = limits-good g good (modulus_of g) in
    let passed : wider_passes g bytes ≡ true = rw r.passed in
    let form = passes-formed g bytes passed in
    let long = formed-counts g bytes form in
    let half : ℕ = half_in g bytes in
    let same = limits-modulus g good (modulus_of g) in
    record {
      passes = passed;
      formed = form;
      frame = passes-wide g bytes good own.epsilon-pos passed;
      half_is = (has_width_lem g half (wider_decode g bytes) (half-one g _) (counts-wide half bytes long)).0;
      half-most = omega (arith, (half-some g good half (half-one g _)).1, (widest-good g good).epsilon-most);
      long = long;
      limits = own;
      same = same;
      high = omega (arith, reading-high (own_limits g) v (wider_decode g bytes) own, same);
    }

-- its counts where they stand in it
pub counts-asked : (g : Schedule) (v reading : ℕ) (bytes counts : List ℕ) {bound : ℕ} → Given g v bytes → bound ≡ (own_limits g).n - 1 → counts ≡ counts_of (half_in g bytes) bytes
    → at_most bound (drop (modulus_of g + half_in g bytes - reading) (take (length counts) counts)) ≡ few_counts g reading (wider_decode g bytes)
unfolding wider_decode decode
counts-asked g v reading bytes counts {bound} h e same =
    ap (λ (l : List ℕ). at_most bound (drop (modulus_of g + half_in g bytes - reading) l)) (take_all (length counts) counts (omega arith) ∙ same)
    ∙ at-most-drop bound (half_in g bytes) reading (counts_of (half_in g bytes) bytes) (modulus_of g)
    ∙ rw (e, h.half_is)

-- and in what is absorbed; its r is not looked at
pub counts-absorbed : (g : Schedule) (epsilon half at reading : ℕ) (t : Timestamp) (bytes counts : List ℕ) (c : ℕ) → half ≡ half_in g bytes → c ≡ (wider_decode g bytes).stamp.c → counts ≡ counts_of half bytes
    → absorb_wide epsilon half at t reading (of_counts c counts) ≡ absorb_wide epsilon (half_in g bytes) at t reading (wider_decode g bytes).stamp
unfolding absorb_wide wider_decode decode
counts-absorbed g epsilon half at reading t bytes counts c eh ec e = rw (ec, e, eh)
