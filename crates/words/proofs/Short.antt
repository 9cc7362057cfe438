-- 02: "A line is at most 29 bytes". Assumes nothing.
use Prim.Native.Nat.{ℕ, ◌+◌, ◌-◌, ◌≤◌}
use mathlib.Core.Path.{◌≡◌}
use mathlib.Core.Bool.{Bool, true, false, cond}
use mathlib.Core.List.{List, [], ◌∷◌, map}
use native.Mathlib.Omega.{arith}
use lib.Dec.{eqb}
use lib.ListN.{length, length-append}
use Rattle.model.specs.Setup.{Setup}
use Rattle.model.specs.Verdicts.{given}
use Rattle.lemmas.proofs.Bounds.{Limits}
use Rattle.lemmas.proofs.Questions.{limits-from}
use Rattle.text.specs.Text.{decimal, digit_count}
use Rattle.text.proofs.Numerals.{length-decimal, digit_count-le}
use Rattle.words.specs.Words.{range_word, stamp_word, late_word, early_word, count_word, dash, rule_word, word_of, rule_limits_of, or_dash, parts_of, spaced, line_of}
use Rattle.words.specs.Statements.{ShortLines}
use Rattle.verdicts.proofs.Given.{given-all}

-- a part and the space before it
length-spaced : (part : List ℕ) (rest : List (List ℕ)) → length (spaced (part ∷ rest)) ≡ 1 + length part + length (spaced rest)
unfolding spaced
length-spaced part rest = simp length-append (omega arith)

-- of a number, by a bound on its digits
spaced-decimal : (k x : ℕ) (rest : List (List ℕ)) → digit_count x ≤ k → length (spaced (decimal x ∷ rest)) ≤ 1 + k + length (spaced rest)
spaced-decimal k x rest h = omega (arith, length-spaced (decimal x) rest, length-decimal x)

or-dash-most : (k number x : ℕ) → digit_count x ≤ k → 1 ≤ k → length (or_dash number x) ≤ k
unfolding or_dash
or-dash-most k number x h one = go (eqb number 10)
  where
    go : (b : Bool) → length (cond b dash (decimal x)) ≤ k
    go true = one
    go false = omega (arith, length-decimal x)

-- the word, its limits and the newline
module _ (s : Setup) (lim : Limits s) where
  -- the end of a line, by the word and its limits
  abbrev tail : ℕ → ℕ
  tail number = length (spaced (word_of number ∷ map decimal (rule_limits_of s number)))

  two-limits : (word : List ℕ) (x y : ℕ) → length word ≤ 5 → digit_count x ≤ 2 → digit_count y ≤ 5 → length (spaced (word ∷ decimal x ∷ decimal y ∷ [])) ≤ 16
  unfolding spaced
  two-limits word x y h p q =
      omega (arith, length-spaced word (decimal x ∷ decimal y ∷ []), spaced-decimal 2 x (decimal y ∷ []) p, spaced-decimal 5 y [] q)

  one-limit : (word : List ℕ) (x : ℕ) → length word ≤ 5 → digit_count x ≤ 4 → length (spaced (word ∷ decimal x ∷ [])) ≤ 16
  unfolding spaced
  one-limit word x h p = omega (arith, length-spaced word (decimal x ∷ []), spaced-decimal 4 x [] p)

  tail-most : (number : ℕ) → given number ≡ true → tail number ≤ 16
  unfolding word_of rule_word rule_limits_of spaced
  tail-most number g =
      given-all (λ x. tail x ≤ 16)
      (omega arith)
      (omega arith)
      (two-limits range_word s.n s.modulus (omega arith) (digit_count-le 1 s.n (omega (arith, lim.n-most))) (digit_count-le 4 s.modulus (omega (arith, lim.modulus-most))))
      (two-limits stamp_word s.n (s.epsilon - 1) (omega arith) (digit_count-le 1 s.n (omega (arith, lim.n-most))) (digit_count-le 4 (s.epsilon - 1) (omega (arith, lim.epsilon-most))))
      (one-limit late_word (s.delta + s.epsilon) (omega arith) (digit_count-le 3 (s.delta + s.epsilon) (omega (arith, lim.delta-most, lim.epsilon-most))))
      (one-limit early_word (s.epsilon - 1) (omega arith) (digit_count-le 3 (s.epsilon - 1) (omega (arith, lim.epsilon-most))))
      (one-limit count_word (s.n - 1) (omega arith) (digit_count-le 3 (s.n - 1) (omega (arith, lim.n-most))))
      (omega arith)
      number
      g

pub short-lines : ShortLines
unfolding line_of parts_of
short-lines s position number f within g place station r =
    let rest : List (List ℕ) = word_of number ∷ map decimal (rule_limits_of s number) in
    let whole : length (line_of s position number f) ≡ length (decimal position) + length (spaced (parts_of s number f))
    = length-append (decimal position) (spaced (parts_of s number f)) in
    let first : length (spaced (parts_of s number f)) ≡ 1 + length (or_dash number f.station) + length (spaced (or_dash number f.stamp.r ∷ rest))
    = length-spaced (or_dash number f.station) (or_dash number f.stamp.r ∷ rest) in
    let second : length (spaced (or_dash number f.stamp.r ∷ rest)) ≡ 1 + length (or_dash number f.stamp.r) + length (spaced rest)
    = length-spaced (or_dash number f.stamp.r) rest in
    let third : length (spaced rest) ≤ 16 = tail-most s (limits-from s within) number g in
    omega (
      arith,
      length-decimal position,
      digit_count-le 2 position (omega arith),
      or-dash-most 3 number f.station (digit_count-le 2 f.station (omega arith)) (omega arith),
      or-dash-most 5 number f.stamp.r (digit_count-le 4 f.stamp.r (omega arith)) (omega arith),
    )
