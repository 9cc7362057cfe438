-- Lines of words, computed from the definitions. Assumes nothing.
use Prim.Native.Nat.{ℕ}
use mathlib.Core.Path.{◌≡◌, refl}
use mathlib.Core.List.{List, [], ◌∷◌}
use lib.ListN.{length}
use Rattle.model.specs.Setup.{Setup}
use Rattle.model.specs.Frame.{Frame}
use Rattle.text.specs.Text.{glyph, digits, count_by, digit_count, decimal}
use Rattle.words.specs.Words.{rule_word, word_of, rule_limits_of, or_dash, parts_of, spaced, line_of, longest_line}

-- a setup whose n and B are as long as they can be
abbrev widest : Setup
widest = record { n = 16; epsilon = 16; delta = 64; modulus = 65535 }

-- a frame whose station and r are so too
abbrev farthest : Frame
farthest = record { station = 255; stamp = record { r = 65535; c = 0; kn = [] }; payload = [] }

-- "254 255 65535 range 16 65535" and a newline
abbrev long_text : List ℕ
long_text = 50 ∷ 53 ∷ 52 ∷ 32 ∷ 50 ∷ 53 ∷ 53 ∷ 32 ∷ 54 ∷ 53 ∷ 53 ∷ 51 ∷ 53 ∷ 32 ∷ 114 ∷ 97 ∷ 110 ∷ 103 ∷ 101 ∷ 32 ∷ 49 ∷ 54 ∷ 32 ∷ 54 ∷ 53 ∷ 53 ∷ 51 ∷ 53 ∷ 10 ∷ []

-- one line has 29 bytes
pub long-line : line_of widest 254 11 farthest ≡ long_text
unfolding glyph digits count_by digit_count decimal rule_word word_of rule_limits_of or_dash parts_of spaced line_of
long-line = refl

pub long-size : length long_text ≡ longest_line
long-size = refl
