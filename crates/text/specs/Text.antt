-- Numbers and words as bytes: ASCII codes. A name in quotes is the text of which a list has the codes. Assumes nothing.
use Rattle.std.specs.Prelude.{ℕ, zero, suc, ◌+◌, ◌/◌, ◌%◌, ◌≡◌, cond, List, [], ◌∷◌, ◌++◌, ltb, length}
use Rattle.splice.specs.Bytes.{pasted}

-- a digit below 16: "0" to "9", then "a" to "f"
unfoldable pub glyph : ℕ → ℕ
glyph d = cond (ltb d 10) (48 + d) (87 + d)

-- the last `k` digits of `x` in a base, the most significant first
unfoldable pub digits : ℕ → ℕ → ℕ → List ℕ
digits base zero x = []
digits base (suc k) x = digits base k (x / base) ++ (glyph (x % base) ∷ [])

-- how many digits `x` has in decimal, counted up to `steps + 1`
unfoldable pub count_by : ℕ → ℕ → ℕ
count_by zero x = 1
count_by (suc steps) x = cond (ltb x 10) 1 (suc (count_by steps (x / 10)))

-- all of them, since `x` has at most `x + 1`
unfoldable pub digit_count : ℕ → ℕ
digit_count x = count_by x x

-- 01: "Numbers print in decimal"; no zeros in front
unfoldable pub decimal : ℕ → List ℕ
decimal x = digits 10 (digit_count x) x

-- " "
abbrev pub space : List ℕ
space = 32 ∷ []

-- the end of a line
abbrev pub newline : List ℕ
newline = 10 ∷ []

-- a word, and a number after it
unfoldable pub field : List ℕ → ℕ → List ℕ
field word x = word ++ decimal x

-- a text was put into a buffer at a position, and ends at `end`
pub record Put (buffer : List ℕ) (at : ℕ) (text after : List ℕ) (end : ℕ) : Type 0 where
  pub bytes : after ≡ pasted buffer at text
  pub ends : end ≡ at + length text
