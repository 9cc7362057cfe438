-- A text with a label before each of its lines, written byte by byte. Assumes nothing.
use Prim.Native.Nat.{ℕ, suc, ◌+◌, ◌*◌, ◌≤◌, ◌<◌}
use mathlib.Core.Path.{◌≡◌, refl, sym, ap, ◌∙◌}
use mathlib.Core.Bool.{Bool, true, false, cond}
use mathlib.Core.List.{List, [], ◌∷◌, ◌++◌, append_assoc}
use native.Mathlib.Numerals.{add-one}
use native.Mathlib.Omega.{arith}
use lib.Dec.{eqb}
use lib.ListN.{length, drop, get_or, set, length-append, drop_of_length-le}
use lib.Seq.{drop-cons}
use Rattle.splice.proofs.Laws.{set-pasted}
use Rattle.text.specs.Text.{Put, decimal, space}
use Rattle.text.proofs.Numerals.{length-decimal, digit_count-le}
use Rattle.rehearsal.specs.Group.{labelled_from, labelled}
use Rattle.rehearsal.specs.Views.{label_of, labelled_byte}

-- a byte stored is a text of one byte
pub put-stored : (l : List ℕ) (at b : ℕ) → at < length l → Put l at (b ∷ []) (set l at b) (at + 1)
put-stored l at b h = record { bytes = set-pasted l at b h; ends = refl }

pub byte-plain : (starts : Bool) (station b : ℕ) → starts ≡ false → labelled_byte starts station b ≡ b ∷ []
byte-plain starts station b e = rw e

pub byte-first : (starts : Bool) (station b : ℕ) → starts ≡ true → labelled_byte starts station b ≡ label_of station ++ (b ∷ [])
byte-first starts station b e = rw e

-- ---- what is left of the text

pub label-all : (station : ℕ) (text : List ℕ) → labelled station text ≡ labelled_from true (label_of station) (drop 0 text)
unfolding labelled
label-all station text = refl

pub label-turn : (starts : Bool) (station : ℕ) (text : List ℕ) (i : ℕ) → i < length text
    → labelled_from starts (label_of station) (drop i text)
    ≡ labelled_byte starts station (get_or text i 0) ++ labelled_from (eqb (get_or text i 0) 10) (label_of station) (drop (i + 1) text)
unfolding labelled_from
label-turn starts station text i h =
    ap (labelled_from starts (label_of station)) (drop-cons text i 0 h)
    ∙ sym (append_assoc (cond starts (label_of station) []) (get_or text i 0 ∷ []) (labelled_from (eqb (get_or text i 0) 10) (label_of station) (drop (suc i) text)))
    ∙ ap (λ (k : ℕ). labelled_byte starts station (get_or text i 0) ++ labelled_from (eqb (get_or text i 0) 10) (label_of station) (drop k text)) (sym (add-one i))

pub label-end : (starts : Bool) (station : ℕ) (text : List ℕ) (i : ℕ) → length text ≤ i → labelled_from starts (label_of station) (drop i text) ≡ []
unfolding labelled_from
label-end starts station text i h = ap (labelled_from starts (label_of station)) (drop_of_length-le text {i = i} h)

-- ---- how long it can be

label-most : (station : ℕ) → station < 100 → length (label_of station) ≤ 3
label-most station h =
    rw (length-append (decimal station) space, length-decimal station) (omega (arith, digit_count-le 1 station h))

first-most : (starts : Bool) (label : List ℕ) → length label ≤ 3 → length (cond starts label []) ≤ 3
first-most true label h = h
first-most false label h = omega arith

from-most : (starts : Bool) (label text : List ℕ) → length label ≤ 3 → length (labelled_from starts label text) ≤ 4 * length text
unfolding labelled_from
from-most starts label [] h = omega arith
from-most starts label (b ∷ rest) h =
    rw (length-append (cond starts label []) (b ∷ labelled_from (eqb b 10) label rest))
    (omega (arith, first-most starts label h, from-most (eqb b 10) label rest h))

pub labelled-most : (station : ℕ) (text : List ℕ) → station < 100 → length (labelled station text) ≤ 4 * length text
unfolding labelled
labelled-most station text h = from-most true (label_of station) text (label-most station h)
