-- One plain way to walk the frames that stand in a buffer, whatever their form: the start, one turn, the end; and a search among them.
-- Assumes nothing.
use Prim.Native.Nat.{ℕ, zero, suc, ◌+◌, ◌-◌, ◌≤◌, ◌<◌}
use native.Mathlib.Numerals.{add-one}
use native.Mathlib.Omega.{arith}
use mathlib.Core.Path.{◌≡◌, refl, sym, ap, ap₂, subst, ◌∙◌}
use mathlib.Core.Bool.{Bool, true, false, ◌&&◌, not}
use mathlib.Core.List.{List, [], ◌∷◌, map}
use lib.ListN.{length, take, drop, length-drop}
use lib.Seq.{drop-drop, take_all}
use Rattle.laws.specs.Lists.{every, leading}
use Rattle.laws.proofs.Numbers.{and_left, and_right, false_of_not, true_of_not}
use Rattle.laws.proofs.Lists.{every-mono}
use Rattle.model.specs.Frame.{Frame}
use Rattle.model.specs.Holdback.{cut_by}
use Rattle.lemmas.specs.Standing.{left_by, end_by, StandingBy}

-- the bytes from a position on, as the code lends them
abbrev pub lent : List ℕ → ℕ → List ℕ
lent b at = take (length b - at) (drop at b)

pub lent_is : (b : List ℕ) (at : ℕ) → lent b at ≡ drop at b
lent_is b at = take_all (length b - at) (drop at b) (omega (arith, length-drop at b))

-- the bytes of the frame at a position
abbrev pub bytes_by : (List ℕ → ℕ) → List ℕ → ℕ → List ℕ
bytes_by end b at = take (end (drop at b)) (drop at b)

-- where it ends
abbrev pub next_by : (List ℕ → ℕ) → List ℕ → ℕ → ℕ
next_by end b at = at + end (drop at b)

-- ---- one frame more

module _ (end : List ℕ → ℕ) (b : List ℕ) where
  pub cut-more : (at k : ℕ) → cut_by end (suc k) (drop at b) ≡ bytes_by end b at ∷ cut_by end k (drop (next_by end b at) b)
  unfolding cut_by
  cut-more at k = ap (λ (l : List ℕ). bytes_by end b at ∷ cut_by end k l) (drop-drop (end (drop at b)) at b)

  pub end_none : (at : ℕ) → end_by end b at 0 ≡ at
  unfolding end_by
  end_none at = refl

  pub end_more : (at k : ℕ) → end_by end b at (suc k) ≡ end_by end b (next_by end b at) k
  unfolding end_by
  end_more at k = refl

  -- behind the last
  pub end-last : (at k : ℕ) → end_by end b at (suc k) ≡ next_by end b (end_by end b at k)
  unfolding end_by
  end-last at zero = refl
  end-last at (suc k) = end-last (next_by end b at) k

  pub end_low : (at k : ℕ) → at ≤ end_by end b at k
  unfolding end_by
  end_low at zero = omega arith
  end_low at (suc k) = omega (arith, end_low (next_by end b at) k)

-- the first of the frames from a position on, and the others
pub left-more : (end : List ℕ → ℕ) (decode : List ℕ → Frame) (b : List ℕ) (at k : ℕ)
    → left_by end decode b at (suc k) ≡ decode (bytes_by end b at) ∷ left_by end decode b (next_by end b at) k
left-more end decode b at k = ap (map decode) (cut-more end b at k)

-- fewer of them
pub cut-take : (end : List ℕ → ℕ) (k n : ℕ) (s : List ℕ) → k ≤ n → take k (cut_by end n s) ≡ cut_by end k s
unfolding cut_by
cut-take end zero n s h = refl
cut-take end (suc k) zero s h = absurd (omega arith)
cut-take end (suc k) (suc n) s h = ap (λ (l : List (List ℕ)). take (end s) s ∷ l) (cut-take end k n (drop (end s) s) (omega arith))

pub left-take : (end : List ℕ → ℕ) (decode : List ℕ → Frame) (k n : ℕ) (s : List ℕ) → k ≤ n → take k (map decode (cut_by end n s)) ≡ map decode (cut_by end k s)
unfolding cut_by
left-take end decode zero n s h = refl
left-take end decode (suc k) zero s h = absurd (omega arith)
left-take end decode (suc k) (suc n) s h =
    ap (λ (l : List Frame). decode (take (end s) s) ∷ l) (left-take end decode k n (drop (end s) s) (omega arith))

module _ {end : List ℕ → ℕ} {test : List ℕ → Bool} {b : List ℕ} {at k : ℕ} (stands : StandingBy end test b at (suc k)) where
  both : (test (bytes_by end b at) && every test (cut_by end k (drop (next_by end b at) b))) ≡ true
  unfolding every
  both = sym (ap (every test) (cut-more end b at k)) ∙ stands.each

  first_holds : test (bytes_by end b at) ≡ true
  first_holds = and_left (test (bytes_by end b at)) _ both

  first-inside : (next_by end b at ≤ end_by end b at (suc k)) × (end_by end b at (suc k) ≤ length b)
  first-inside = (omega (arith, end_low end b (next_by end b at) k, end_more end b at k), stands.inside)

  others-stand : StandingBy end test b (next_by end b at) k
  others-stand =
      record {
        each = and_right (test (bytes_by end b at)) _ both;
        inside = rw (← end_more end b at k) stands.inside;
      }

-- ---- what makes them stand: a test that only bytes pass which end as they say

module _ (end : List ℕ → ℕ) (test : List ℕ → Bool) (fits : (l : List ℕ) → test (take (end l) l) ≡ true → end l ≤ length l) where
  cut_inside : (b : List ℕ) (at k : ℕ) → at ≤ length b → every test (cut_by end k (drop at b)) ≡ true → end_by end b at k ≤ length b
  unfolding end_by every
  cut_inside b at zero h each = h
  cut_inside b at (suc k) h each =
      let two = sym (ap (every test) (cut-more end b at k)) ∙ each in
      let ends = fits (drop at b) (and_left (test (bytes_by end b at)) _ two) in
      cut_inside b (next_by end b at) k (omega (arith, length-drop at b)) (and_right (test (bytes_by end b at)) _ two)

  pub stand : (b : List ℕ) (at k : ℕ) → at ≤ length b → every test (cut_by end k (drop at b)) ≡ true → StandingBy end test b at k
  stand b at k h each = record { each = each; inside = cut_inside b at k h each }

-- a weaker test
pub stand-weaker : {end : List ℕ → ℕ} {p q : List ℕ → Bool} {b : List ℕ} {at k : ℕ} → ((l : List ℕ) → p l ≡ true → q l ≡ true) → StandingBy end p b at k → StandingBy end q b at k
stand-weaker {end} {p} {q} {b} {at} {k} h stands =
    record { each = every-mono p q (cut_by end k (drop at b)) h stands.each; inside = stands.inside }

-- ---- a walk: it has come to `at`, from where on so many frames are left, and P holds of them

pub record Walk (end : List ℕ → ℕ) (decode : List ℕ → Frame) (test : List ℕ → Bool) (P : List Frame → Type 0) (b : List ℕ) (at left : ℕ) : Type 0 where
  pub stands : StandingBy end test b at left
  pub holds : P (left_by end decode b at left)

module _ {end : List ℕ → ℕ} {decode : List ℕ → Frame} {test : List ℕ → Bool} {P : List Frame → Type 0} {b : List ℕ} {at left : ℕ} (walk : Walk end decode test P b at left) where
  -- none is left
  pub walk_ends : left ≤ 0 → P []
  unfolding cut_by
  walk_ends h =
      let e : left ≡ 0 = omega arith in
      subst P (ap (left_by end decode b at) e) walk.holds

  -- one turn: `lent` is what stands from `at` on, `size` where the frame there ends in it
  module _ (more : 0 < left) where
    one_more : left ≡ suc (left - 1)
    one_more = omega arith

    stands-more : StandingBy end test b at (suc (left - 1))
    stands-more = rw (← one_more) walk.stands

    pub walk_inside : at ≤ length b
    walk_inside = omega (arith, first-inside stands-more)

    module _ {size : ℕ} (ends : size ≡ end (lent b at)) where
      size_is : size ≡ end (drop at b)
      size_is = ends ∙ ap end (lent_is b at)

      pub walk-on : at + size ≡ next_by end b at
      walk-on = ap (λ (n : ℕ). at + n) size_is

      pub walk-next : at + size ≤ length b
      walk-next = omega (arith, first-inside stands-more, walk-on)

      part-is : take (at + size - at) (drop at b) ≡ bytes_by end b at
      part-is = let e : at + size - at ≡ end (drop at b) = omega (arith, size_is) in ap (λ (n : ℕ). take n (drop at b)) e

      -- the test holds of its bytes
      pub walk-passes : test (take (at + size - at) (drop at b)) ≡ true
      walk-passes = ap test part-is ∙ first_holds stands-more

      -- it is the first of those left
      pub walk_meets : P (decode (take (at + size - at) (drop at b)) ∷ left_by end decode b (at + size) (left - 1))
      walk_meets =
          subst P
          (ap (left_by end decode b at) one_more
          ∙ left-more end decode b at (left - 1)
          ∙ ap₂ (λ (l : List ℕ) (n : ℕ). decode l ∷ left_by end decode b n (left - 1)) (sym part-is) (sym walk-on))
          walk.holds

      -- and the others stand behind it
      pub walk-rest : StandingBy end test b (at + size) (left - 1)
      walk-rest = rw walk-on (others-stand stands-more)

-- ---- a search for the first frame of which a test does not hold

-- from `from` on, where `count` frames stand, it has passed i, of which it holds, and the next one starts at `at`
pub record Seeking (end : List ℕ → ℕ) (decode : List ℕ → Frame) (test : List ℕ → Bool) (p : Frame → Bool) (b : List ℕ) (from count i at : ℕ) : Type 0 where
  pub left : ℕ
  pub number : i + left ≡ count
  pub starts : at ≡ end_by end b from i
  pub walk : Walk end decode test (λ l. leading p (left_by end decode b from count) ≡ i + leading p l) b at left

pub seek-starts : {end : List ℕ → ℕ} {decode : List ℕ → Frame} {test : List ℕ → Bool} {p : Frame → Bool} {b : List ℕ} {from count : ℕ}
    → StandingBy end test b from count → Seeking end decode test p b from count 0 from
seek-starts {end} {b} {from} {count} stands =
    record { left = count; number = omega arith; starts = sym (end_none end b from); walk = record { stands = stands; holds = omega arith } }

leading-yes : (p : Frame → Bool) (f : Frame) (l : List Frame) → p f ≡ true → leading p (f ∷ l) ≡ suc (leading p l)
unfolding leading
leading-yes p f l h = rw h

leading-no : (p : Frame → Bool) (f : Frame) (l : List Frame) → p f ≡ false → leading p (f ∷ l) ≡ 0
unfolding leading
leading-no p f l h = rw h

module _ {end : List ℕ → ℕ} {decode : List ℕ → Frame} {test : List ℕ → Bool} {p : Frame → Bool} {b : List ℕ} {from count i at : ℕ} (seek : Seeking end decode test p b from count i at) where
  -- it holds of all
  pub seek-ends : count ≤ i → i ≡ leading p (left_by end decode b from count)
  unfolding leading
  seek-ends h =
      let e : leading p (left_by end decode b from count) ≡ i + 0 = walk_ends seek.walk (omega (arith, seek.number)) in
      omega arith

  module _ (more : i < count) where
    some_left : 0 < seek.left
    some_left = omega (arith, seek.number)

    pub seek-inside : at ≤ length b
    seek-inside = walk_inside seek.walk some_left

    module _ {size : ℕ} (ends : size ≡ end (lent b at)) where
      pub seek-next : at + size ≤ length b
      seek-next = walk-next seek.walk some_left ends

      pub seek-passes : test (take (at + size - at) (drop at b)) ≡ true
      seek-passes = walk-passes seek.walk some_left ends

      -- the test t of the frame
      module _ {t : Bool} (tested : t ≡ p (decode (take (at + size - at) (drop at b)))) where
        abbrev own : Frame
        own = decode (take (at + size - at) (drop at b))

        abbrev others : List Frame
        others = left_by end decode b (at + size) (seek.left - 1)

        pub seek-stops : not t ≡ true → i ≡ leading p (left_by end decode b from count)
        seek-stops n =
            omega (arith, walk_meets seek.walk some_left ends, leading-no p own others (sym tested ∙ false_of_not t n))

        pub seek-turns : not t ≡ false → Seeking end decode test p b from count (i + 1) (at + size)
        seek-turns n =
            record {
              left = seek.left - 1;
              number = omega (arith, seek.number);
              starts =
                  walk-on seek.walk some_left ends ∙ ap (next_by end b) seek.starts
                  ∙ sym (end-last end b from i) ∙ ap (end_by end b from) (sym (add-one i));
              walk =
                  record {
                    stands = walk-rest seek.walk some_left ends;
                    holds = omega (arith, walk_meets seek.walk some_left ends, leading-yes p own others (sym tested ∙ true_of_not t n));
                  };
            }

-- one that starts past frames of which the test holds
module _ {end : List ℕ → ℕ} {test : List ℕ → Bool} (decode : List ℕ → Frame) (p : Frame → Bool) (b : List ℕ) where
  past : (i k count from : ℕ) → i + k ≡ count → StandingBy end test b from count → every p (take i (left_by end decode b from count)) ≡ true
      → StandingBy end test b (end_by end b from i) k × (leading p (left_by end decode b from count) ≡ i + leading p (left_by end decode b (end_by end b from i) k))
  unfolding end_by every
  past zero k count from e stands each =
      let same : count ≡ k = omega arith in
      (subst (λ (n : ℕ). StandingBy end test b from n) same stands, ap (λ (n : ℕ). leading p (left_by end decode b from n)) same ∙ omega arith)
  past (suc i) k zero from e stands each = absurd (omega arith)
  past (suc i) k (suc count) from e stands each =
      let first : Frame = decode (bytes_by end b from) in
      let two : (p first && every p (take i (left_by end decode b (next_by end b from) count))) ≡ true =
      subst (λ (l : List Frame). every p (take (suc i) l) ≡ true) (left-more end decode b from count) each in
      let (there, same) = past i k count (next_by end b from) (omega arith) (others-stand stands) (and_right (p first) _ two) in
      let more : leading p (left_by end decode b from (suc count)) ≡ suc (leading p (left_by end decode b (next_by end b from) count)) =
      ap (leading p) (left-more end decode b from count) ∙ leading-yes p first _ (and_left (p first) _ two) in
      (there, omega (arith, more, same))

  pub seek-from : (count from i at : ℕ) → StandingBy end test b from count → i ≤ count → every p (take i (left_by end decode b from count)) ≡ true → at ≡ end_by end b from i
      → Seeking end decode test p b from count i at
  seek-from count from i at stands most each at-is =
      let (there, same) = past i (count - i) count from (omega arith) stands each in
      record { left = count - i; number = omega arith; starts = at-is; walk = record { stands = rw at-is there; holds = rw at-is same } }
