-- The parts of the lines: where there is room for them, how long they are, and the loop that writes a payload. Assumes nothing.
use Prim.Native.Nat.{ℕ, zero, suc, ◌+◌, ◌*◌, ◌≤◌, ◌<◌}
use mathlib.Core.Path.{◌≡◌, refl, sym, ap, ◌∙◌}
use mathlib.Core.Bool.{Bool, true, false, cond}
use mathlib.Core.List.{List, [], ◌∷◌, ◌++◌}
use native.Mathlib.Numerals.{add-one}
use native.Mathlib.Omega.{arith}
use lib.Dec.{leb}
use lib.ListN.{length, take, get_or, length-append}
use lib.Seq.{take-suc, take_all}
use borrow.Author.Tests.{leb-true, le-leb, lt-leb, eq-eqb, ne_eqb}
use Rattle.laws.specs.Lists.{joined}
use Rattle.laws.proofs.Lists.{joined-append}
use Rattle.splice.specs.Bytes.{pasted}
use Rattle.model.specs.Comparison.{Reason}
use Rattle.text.specs.Text.{Put, digits, digit_count}
use Rattle.trace.specs.Text.{hex_byte, fields, flag, tick_line, payload_text, payload_tail, reason_text, reason_tail, give_text, refused_line, text_written, text_end}
use Rattle.text.proofs.Numerals.{length_digits, digit_count-small}
use Rattle.text.proofs.Putting.{put-nothing, put_then, put-length, put_as, length-field}

-- ---- where there is room for a text, and where not

pub put_written : {l m : List ℕ} {at e : ℕ} {text : List ℕ} → at + length text ≤ length l → Put l at text m e → m ≡ text_written l at text
unfolding text_written
put_written {l} {m} {at} {e} {text} h p = rw (le-leb (at + length text) (length l) h) p.bytes

pub put-end : {l m : List ℕ} {at e : ℕ} {text : List ℕ} → at + length text ≤ length l → Put l at text m e → e ≡ text_end l at text
unfolding text_end
put-end {l} {m} {at} {e} {text} h p = rw (le-leb (at + length text) (length l) h) p.ends

pub none_written : (l : List ℕ) (at : ℕ) (text : List ℕ) → length l < at + length text → l ≡ text_written l at text
unfolding text_written
none_written l at text h = rw (lt-leb (at + length text) (length l) h)

pub none_end : (l : List ℕ) (at : ℕ) (text : List ℕ) → length l < at + length text → 0 ≡ text_end l at text
unfolding text_end
none_end l at text h = rw (lt-leb (at + length text) (length l) h)

-- where a text ends that was written into a buffer, or not
pub end-within : (l : List ℕ) (at : ℕ) (text : List ℕ) → text_end l at text ≤ length l
unfolding text_end
end-within l at text = go (leb (at + length text) (length l)) refl
  where
    go : (b : Bool) → leb (at + length text) (length l) ≡ b → cond b (at + length text) 0 ≤ length l
    go true e = leb-true (at + length text) (length l) e
    go false e = omega arith

-- ---- the parts of a line, and how long they are

length_fields : (first : List ℕ) (x : ℕ) (second : List ℕ) (y : ℕ) (third : List ℕ) (z : ℕ)
    → length (fields first x second y third z) ≡ length first + digit_count x + (length second + digit_count y) + (length third + digit_count z)
unfolding fields
length_fields first x second y third z = simp (length-append, length-field) (omega arith)

flag-digits : (sent : ℕ) → digit_count (flag sent) ≡ 1
unfolding flag
flag-digits zero = digit_count-small 0 (omega arith)
flag-digits (suc sent) = rw (ne_eqb (suc sent) 0 (omega arith)) (digit_count-small 1 (omega arith))

pub length-tick : (clock repair c taken sent delivered : ℕ)
    → 34 + (digit_count clock + digit_count repair + digit_count c) + digit_count taken + digit_count delivered
    ≡ length (tick_line clock repair c taken sent delivered)
unfolding tick_line
length-tick clock repair c taken sent delivered = simp (length-append, length_fields, flag-digits) (omega arith)

pub length-refused : (number : ℕ) → 9 + digit_count number ≡ length (refused_line number)
unfolding refused_line
length-refused number = simp (length-append, length-field) (omega arith)

pub length-give : (station r : ℕ) (payload : List ℕ) (reason : Reason)
    → 8 + digit_count station + digit_count r + length (payload_text payload) + length (reason_text reason) ≡ length (give_text station r payload reason)
unfolding give_text payload_tail reason_tail
length-give station r payload reason = simp (length-append, length-field) (omega arith)

-- ---- the payload

pub length-hex : (s : List ℕ) → length (joined hex_byte s) ≡ 2 * length s
unfolding joined hex_byte
length-hex [] = refl
length-hex (x ∷ s) = simp (length-append, length_digits) (omega (arith, length-hex s))

pub payload-empty : (s : List ℕ) → length s ≡ 0 → payload_text s ≡ 45 ∷ []
unfolding payload_text
payload-empty s h = rw (eq-eqb (length s) 0 h)

pub payload-hex : (s : List ℕ) → (length s ≡ 0 → ⊥) → payload_text s ≡ joined hex_byte s
unfolding payload_text
payload-hex s h = rw (ne_eqb (length s) 0 h)

-- a loop that writes two digits a byte: so far those of the first `i` bytes
pub record Hexing (l : List ℕ) (at : ℕ) (s : List ℕ) (i : ℕ) (cur : List ℕ) (end : ℕ) : Type 0 where
  pub room : at + 2 * length s ≤ length l
  pub within : i ≤ length s
  pub end_is : end ≡ at + 2 * i
  pub so_far : Put l at (joined hex_byte (take i s)) cur end
  pub as_long : length cur ≡ length l

pub hex-starts : (l : List ℕ) (at : ℕ) (s : List ℕ) → at + length (joined hex_byte s) ≤ length l → Hexing l at s 0 l at
unfolding joined
hex-starts l at s h =
    record {
      room = omega (arith, length-hex s);
      within = omega arith;
      end_is = omega arith;
      so_far = put-nothing l at;
      as_long = refl;
    }

pub hex-turn : {l : List ℕ} {at : ℕ} {s : List ℕ} {i : ℕ} {cur : List ℕ} {end : ℕ} → Hexing l at s i cur end → i < length s
    → {next : List ℕ} → next ≡ pasted cur end (digits 16 2 (get_or s i 0)) → Hexing l at s (i + 1) next (end + 2)
unfolding joined hex_byte digits
hex-turn {l} {at} {s} {i} {cur} {end} now h {next} e =
    let more : Put cur end (hex_byte (get_or s i 0) ++ []) next (end + 2) = record { bytes = e; ends = refl } in
    let text : joined hex_byte (take i s) ++ (hex_byte (get_or s i 0) ++ []) ≡ joined hex_byte (take (i + 1) s)
    = sym (rw (add-one i, take-suc s i 0 h) (joined-append hex_byte (take i s) (get_or s i 0 ∷ []))) in
    record {
      room = now.room;
      within = omega arith;
      end_is = omega (arith, now.end_is);
      so_far = put_as text (put_then (omega (arith, now.end_is, now.room)) now.so_far more);
      as_long = put-length (omega (arith, now.end_is, now.room, now.as_long)) more ∙ now.as_long;
    }

pub hex-ends : {l : List ℕ} {at : ℕ} {s : List ℕ} {i : ℕ} {cur : List ℕ} {end : ℕ} → Hexing l at s i cur end → length s ≤ i
    → Put l at (joined hex_byte s) cur end
hex-ends {l} {at} {s} {i} now h = put_as (ap (joined hex_byte) (take_all i s h)) now.so_far
