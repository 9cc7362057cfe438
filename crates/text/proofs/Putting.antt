-- One text written after another: what is still to be written of a whole text, and what was written. Assumes nothing.
use Prim.Native.Nat.{ℕ, ◌+◌, ◌≤◌}
use mathlib.Core.Path.{◌≡◌, sym, ap, subst, ◌∙◌}
use mathlib.Core.List.{List, [], ◌++◌}
use native.Mathlib.Nat.{add-zero}
use native.Mathlib.Omega.{arith}
use lib.ListN.{length, length-append}
use Rattle.splice.specs.Bytes.{pasted}
use Rattle.splice.proofs.Laws.{pasted-nil, pasted-right, length-pasted}
use Rattle.text.specs.Text.{Put, digits, digit_count, decimal, field}
use Rattle.text.proofs.Numerals.{length-decimal}

-- nothing written
pub put-nothing : (l : List ℕ) (at : ℕ) → Put l at [] l at
put-nothing l at = record { bytes = sym (pasted-nil l at); ends = sym (add-zero at) }

-- one text, then another
pub put_then : {l m n : List ℕ} {at e f : ℕ} {a b : List ℕ} → at ≤ length l → Put l at a m e → Put m e b n f → Put l at (a ++ b) n f
put_then {l} {m} {n} {at} {e} {f} {a} {b} h p q =
    record {
      bytes = q.bytes ∙ ap (λ (r : List ℕ). pasted r e b) p.bytes ∙ pasted-right l at a e p.ends b h;
      ends = simp length-append (omega (arith, p.ends, q.ends));
    }

-- the buffer is as long as it was
pub put-length : {l m : List ℕ} {at e : ℕ} {a : List ℕ} → at + length a ≤ length l → Put l at a m e → length m ≡ length l
put-length {l} {m} {at} {e} {a} h p = ap length p.bytes ∙ length-pasted l at a h

-- the same text
pub put_as : {l m : List ℕ} {at e : ℕ} {a b : List ℕ} → a ≡ b → Put l at a m e → Put l at b m e
put_as {l} {m} {at} {e} q p = subst (λ (t : List ℕ). Put l at t m e) q p

pub room_as : (l : List ℕ) (at : ℕ) {a b : List ℕ} → a ≡ b → at + length b ≤ length l → at + length a ≤ length l
room_as l at q h = subst (λ (t : List ℕ). at + length t ≤ length l) (sym q) h

-- ---- of a whole text at a position of `l`, `b` is still to be written, at `e` of `m`

pub record Ahead (l : List ℕ) (at : ℕ) (whole m : List ℕ) (e : ℕ) (b : List ℕ) : Type 0 where
  pub room : e + length b ≤ length m
  pub done : {n : List ℕ} {f : ℕ} → Put m e b n f → Put l at whole n f

-- all of it
pub ahead : (l : List ℕ) (at : ℕ) (whole : List ℕ) → at + length whole ≤ length l → Ahead l at whole l at whole
ahead l at whole h = record { room = h; done = λ p. p }

-- the same text
pub ahead-as : {l : List ℕ} {at : ℕ} {whole m : List ℕ} {e : ℕ} {a b : List ℕ} → a ≡ b → Ahead l at whole m e a → Ahead l at whole m e b
ahead-as {l} {at} {whole} {m} {e} q h = subst (λ (t : List ℕ). Ahead l at whole m e t) q h

module _ {l : List ℕ} {at : ℕ} {whole m : List ℕ} {e : ℕ} (a b : List ℕ) (so_far : Ahead l at whole m e (a ++ b)) where
  -- the next part has room
  pub ahead-first : e + length a ≤ length m
  ahead-first = omega (arith, so_far.room, length-append a b)

  -- and was written
  pub ahead-next : {m' : List ℕ} {e' : ℕ} → Put m e a m' e' → Ahead l at whole m' e' b
  ahead-next {m'} {e'} p =
      record {
        room = omega (arith, so_far.room, length-append a b, put-length ahead-first p, p.ends);
        done = λ q. so_far.done (put_then (omega (arith, ahead-first)) p q);
      }

-- ---- the parts of a line, and how long they are

pub put-digits-decimal : {l m : List ℕ} (at count x : ℕ) → count ≡ digit_count x → m ≡ pasted l at (digits 10 count x) → Put l at (decimal x) m (at + count)
unfolding decimal
put-digits-decimal {l} {m} at count x e p =
    record {
      bytes = p ∙ ap (λ (n : ℕ). pasted l at (digits 10 n x)) e;
      ends = ap (λ (n : ℕ). at + n) (e ∙ sym (length-decimal x));
    }

pub length-field : (word : List ℕ) (x : ℕ) → length (field word x) ≡ length word + digit_count x
unfolding field
length-field word x = simp (length-append, length-decimal)
