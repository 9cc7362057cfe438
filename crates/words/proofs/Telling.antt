-- 02: "Two judgements that differ in place, rule or, past 10, station or r must never give the same line". Assumes nothing.
use Prim.Native.Nat.{ℕ, ◌≤◌, ◌<◌}
use mathlib.Core.Path.{◌≡◌, refl, sym, ap, ap₂, ◌∙◌}
use mathlib.Core.Bool.{Bool, true, false, cond}
use mathlib.Core.List.{List, [], ◌∷◌, ◌++◌, map}
use native.Mathlib.Omega.{arith}
use lib.Dec.{eqb, ltb}
use lib.ListN.{get_or}
use borrow.Author.Tests.{ltb-true, ne_eqb}
use Rattle.laws.specs.Lists.{every, same_list}
use Rattle.laws.proofs.Numbers.{and_intro, and_left, and_right}
use Rattle.model.specs.Setup.{Setup}
use Rattle.model.specs.Frame.{Frame}
use Rattle.model.specs.Verdicts.{given}
use Rattle.text.specs.Text.{decimal}
use Rattle.text.proofs.Decimals.{decimal_injective, decimal-plain}
use Rattle.words.specs.Words.{taken_word, form_word, range_word, stamp_word, late_word, early_word, count_word, dash, rule_word, word_of, rule_limits_of, or_dash, parts_of, spaced, line_of}
use Rattle.words.specs.Statements.{TellingLines}
use Rattle.verdicts.proofs.Given.{given-all}

-- ---- a line tells its parts

-- a part has neither spaces nor ends of lines
abbrev plain : List ℕ → Bool
plain part = every (ltb 32) part

-- what follows a part begins with one of the two
low-head : (parts : List (List ℕ)) (x : ℕ) (l : List ℕ) → spaced parts ≡ x ∷ l → x ≤ 32
unfolding spaced
low-head [] x l e = let same : 10 ≡ x = cc in omega arith
low-head (part ∷ rest) x l e = let same : 32 ≡ x = cc in omega arith

high-head : (x : ℕ) (l : List ℕ) → plain (x ∷ l) ≡ true → 32 < x
unfolding every
high-head x l h = ltb-true 32 x (and_left (ltb 32 x) (plain l) h)

plain-rest : (x : ℕ) (l : List ℕ) → plain (x ∷ l) ≡ true → plain l ≡ true
unfolding every
plain-rest x l h = and_right (ltb 32 x) (plain l) h

cut-same : (a b : List ℕ) (ps qs : List (List ℕ)) → plain a ≡ true → plain b ≡ true → a ++ spaced ps ≡ b ++ spaced qs → (a ≡ b) × (spaced ps ≡ spaced qs)
cut-same [] [] ps qs h k e = (refl, e)
cut-same [] (y ∷ b) ps qs h k e = absurd (omega (arith, low-head ps y (b ++ spaced qs) e, high-head y b k))
cut-same (x ∷ a) [] ps qs h k e = absurd (omega (arith, low-head qs x (a ++ spaced ps) (sym e), high-head x a h))
cut-same (x ∷ a) (y ∷ b) ps qs h k e =
    let head : x ≡ y = cc in
    let tail : a ++ spaced ps ≡ b ++ spaced qs = cc in
    let rest = cut-same a b ps qs (plain-rest x a h) (plain-rest y b k) tail in (
      ap₂ (λ (z : ℕ) (l : List ℕ). z ∷ l) head rest.0,
      rest.1,
    )

parts_same : (ps qs : List (List ℕ)) → every plain ps ≡ true → every plain qs ≡ true → spaced ps ≡ spaced qs → ps ≡ qs
unfolding spaced every
parts_same [] [] h k e = refl
parts_same [] (q ∷ qs) h k e = let no_line : ◌≡◌ {A = ℕ} 10 32 = cc in absurd (omega arith)
parts_same (p ∷ ps) [] h k e = let no_line : ◌≡◌ {A = ℕ} 32 10 = cc in absurd (omega arith)
parts_same (p ∷ ps) (q ∷ qs) h k e =
    let tail : p ++ spaced ps ≡ q ++ spaced qs = cc in
    let cut = cut-same p q ps qs (and_left (plain p) (every plain ps) h) (and_left (plain q) (every plain qs) k) tail in
    ap₂ (λ (r : List ℕ) (rs : List (List ℕ)). r ∷ rs) cut.0
    (parts_same ps qs (and_right (plain p) (every plain ps) h) (and_right (plain q) (every plain qs) k) cut.1)

-- ---- its parts are plain

plain_word : (number : ℕ) → given number ≡ true → plain (word_of number) ≡ true
unfolding word_of rule_word every
plain_word number g = given-all (λ x. plain (word_of x) ≡ true) refl refl refl refl refl refl refl refl number g

plain-or-dash : (number x : ℕ) → plain (or_dash number x) ≡ true
unfolding or_dash every
plain-or-dash number x = go (eqb number 10)
  where
    go : (b : Bool) → plain (cond b dash (decimal x)) ≡ true
    go true = refl
    go false = decimal-plain x

plain-decimals : (l : List ℕ) → every plain (map decimal l) ≡ true
unfolding every
plain-decimals [] = refl
plain-decimals (x ∷ l) = and_intro (decimal-plain x) (plain-decimals l)

plain-parts : (s : Setup) (number : ℕ) (f : Frame) → given number ≡ true → every plain (parts_of s number f) ≡ true
unfolding parts_of every
plain-parts s number f g =
    and_intro (plain-or-dash number f.station)
    (and_intro (plain-or-dash number f.stamp.r) (and_intro (plain_word number g) (plain-decimals (rule_limits_of s number))))

-- ---- a word tells its number

-- the number read back
number_by : List ℕ → ℕ
number_by word =
    cond (same_list word taken_word) 0 (cond (same_list word form_word) 10 (cond (same_list word range_word) 11
    (cond (same_list word stamp_word) 12 (cond (same_list word late_word) 13 (cond (same_list word early_word) 14
    (cond (same_list word count_word) 15 16))))))

number-back : (number : ℕ) → given number ≡ true → number_by (word_of number) ≡ number
unfolding number_by word_of rule_word same_list
number-back number g = given-all (λ x. number_by (word_of x) ≡ x) refl refl refl refl refl refl refl refl number g

-- past 10 a number tells itself
or-dash-tells : (number x y : ℕ) → (number ≡ 10 → ⊥) → or_dash number x ≡ or_dash number y → x ≡ y
unfolding or_dash
or-dash-tells number x y h e = decimal_injective x y (rw (ne_eqb number 10 h) at e)

-- ---- the line

pub telling-lines : TellingLines
unfolding line_of parts_of
telling-lines s s' position position' number number' f f' g g' e =
    let cut = cut-same (decimal position) (decimal position') (parts_of s number f) (parts_of s' number' f') (decimal-plain position) (decimal-plain position') e in
    let parts : parts_of s number f ≡ parts_of s' number' f'
    = parts_same (parts_of s number f) (parts_of s' number' f') (plain-parts s number f g) (plain-parts s' number' f' g') cut.1 in
    let word : word_of number ≡ word_of number' = ap (λ (l : List (List ℕ)). get_or l 2 []) parts in
    let rule : number ≡ number' = sym (number-back number g) ∙ (ap number_by word ∙ number-back number' g') in
    record {
      same-position = decimal_injective position position' cut.0;
      same_number = rule;
      same-station = λ h. or-dash-tells number f.station f'.station h
          (ap (λ (l : List (List ℕ)). get_or l 0 []) parts ∙ ap (λ (k : ℕ). or_dash k f'.station) (sym rule));
      same-r = λ h. or-dash-tells number f.stamp.r f'.stamp.r h
          (ap (λ (l : List (List ℕ)). get_or l 1 []) parts ∙ ap (λ (k : ℕ). or_dash k f'.stamp.r) (sym rule));
    }
