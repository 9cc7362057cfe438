-- A tick's bytes: where it ends, and what it asks for; the setup. Assumes nothing.
use Prim.Native.Nat.{ℕ, suc, ◌+◌, ◌-◌, ◌≤◌, ◌<◌}
use mathlib.Core.Path.{◌≡◌, sym, ap, ◌∙◌}
use mathlib.Core.Bool.{true, false}
use mathlib.Core.List.{List}
use native.Mathlib.Nat.{add-zero}
use native.Mathlib.Omega.{arith}
use lib.Dec.{eqb}
use lib.ListN.{length, take, drop, get_or}
use lib.Seq.{get_or-drop, drop-drop}
use borrow.Author.Tests.{le-leb, lt-leb, eq-eqb, ne_eqb}
use Rattle.model.specs.Frame.{two_at}
use Rattle.model.specs.Question.{first_no}
use Rattle.model.specs.Tick.{holdback_size}
use Rattle.trace.specs.Trace.{
  NodeSetup,
  is_valid,
  trace_setup,
  setup_number,
  clock_of,
  send_byte,
  payload_size,
  batch_at,
  batch_of,
  entries_size,
  tick_end,
  tick_number,
  send_of,
}

-- ---- a two-byte number

pub two-small : (s : List ℕ) (at : ℕ) → ((i : ℕ) → get_or s i 0 < 256) → two_at s at < 65536
unfolding two_at
two-small s at bytes = omega (arith, bytes at, bytes (at + 1))

-- ---- where a tick ends

pub entries-start : (s : List ℕ) (b left : ℕ) → b ≡ get_or s 3 0 → left ≡ get_or s (4 + b) 0
    → tick_end s ≡ 4 + b + 1 + entries_size left (drop (4 + b + 1) s)
unfolding tick_end batch_at payload_size
entries-start s b left h k = rw (k, h)

-- one entry more
pub entries-turn : (s : List ℕ) (end left k b : ℕ) → left ≡ suc k → b ≡ get_or s end 0
    → end + entries_size left (drop end s) ≡ end + (1 + b) + entries_size k (drop (end + (1 + b)) s)
unfolding entries_size
entries-turn s end left k b e h =
    let here : get_or (drop end s) 0 0 ≡ b = get_or-drop end s 0 0 ∙ ap (λ (i : ℕ). get_or s i 0) (add-zero end) ∙ sym h in
    rw (e, entries_size, here, drop-drop (1 + b) end s) (omega arith)

pub entries-end : (s : List ℕ) (end left : ℕ) → left ≡ 0 → end + entries_size left (drop end s) ≡ end
unfolding entries_size
entries-end s end left e = rw e (add-zero end)

-- ---- the batch is the rest of the tick

pub batch-from : (s : List ℕ) (b : ℕ) → b ≡ get_or s 3 0 → 4 + b ≤ tick_end s
unfolding tick_end batch_at payload_size
batch-from s b h = rw h (omega arith)

pub batch-part : (s : List ℕ) (b end : ℕ) → b ≡ get_or s 3 0 → end ≡ tick_end s → take (end - (4 + b)) (drop (4 + b) s) ≡ batch_of s
unfolding batch_of batch_at payload_size
batch-part s b end h k = rw (k, h)

-- ---- what a tick's bytes ask for

pub call-cut : (s : List ℕ) (end : ℕ) → end ≡ tick_end s → (end ≡ length s → ⊥) → 5 ≡ tick_number s
unfolding tick_number first_no
call-cut s end e h = rw (ne_eqb (tick_end s) (length s) (λ k. h (e ∙ k)))

pub call-bad : (s : List ℕ) (end send : ℕ) → end ≡ tick_end s → end ≡ length s → send ≡ get_or s 2 0 → 1 < send → 5 ≡ tick_number s
unfolding tick_number first_no send_byte
call-bad s end send e h g k = rw (eq-eqb (tick_end s) (length s) (sym e ∙ h), lt-leb (get_or s 2 0) 1 (omega arith))

pub call-good : (s : List ℕ) (end send : ℕ) → end ≡ tick_end s → end ≡ length s → send ≡ get_or s 2 0 → send ≤ 1 → 0 ≡ tick_number s
unfolding tick_number first_no send_byte
call-good s end send e h g k = rw (eq-eqb (tick_end s) (length s) (sym e ∙ h), le-leb (get_or s 2 0) 1 (omega arith))

pub clock-is : (s : List ℕ) {clock : ℕ} → clock ≡ two_at s 0 → clock ≡ clock_of s
unfolding clock_of
clock-is s e = e

pub send-flag : (s : List ℕ) (send : ℕ) → send ≡ get_or s 2 0 → eqb send 1 ≡ send_of s
unfolding send_of send_byte
send-flag s send e = rw e

-- ---- the setup, judged

module _ (size : ℕ) (s : List ℕ) where
  pub setup-cut : length s < size → 5 ≡ setup_number size s
  unfolding setup_number first_no
  setup-cut h = rw (lt-leb size (length s) h)

  pub setup-out : size ≤ length s → is_valid (trace_setup s) ≡ false → 1 ≡ setup_number size s
  unfolding setup_number first_no
  setup-out h k = rw (le-leb size (length s) h, k)

  pub setup-large : size ≤ length s → is_valid (trace_setup s) ≡ true → 65536 < holdback_size (trace_setup s).setup → 1 ≡ setup_number size s
  unfolding setup_number first_no
  setup-large h k g = rw (le-leb size (length s) h, k, lt-leb (holdback_size (trace_setup s).setup) 65536 g)

  pub setup-good : size ≤ length s → is_valid (trace_setup s) ≡ true → holdback_size (trace_setup s).setup ≤ 65536 → 0 ≡ setup_number size s
  unfolding setup_number first_no
  setup-good h k g = rw (le-leb size (length s) h, k, le-leb (holdback_size (trace_setup s).setup) 65536 g)

pub setup-read : (s : List ℕ) {n epsilon delta modulus own : ℕ} → n ≡ get_or s 0 0 → epsilon ≡ get_or s 1 0 → delta ≡ get_or s 2 0 → modulus ≡ two_at s 3 → own ≡ get_or s 5 0
    → ◌≡◌ {A = NodeSetup} (record { setup = record { n = n; epsilon = epsilon; delta = delta; modulus = modulus }; own = own }) (trace_setup s)
unfolding trace_setup
setup-read s a b c d e = rw (a, b, c, d, e)
