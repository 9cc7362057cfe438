-- The tick of replay's that a step is turned into has the step's clock, send and payload, and its batch is that of the frames heard.
-- Assumes nothing.
use Prim.Native.Nat.{ℕ, ◌+◌, ◌-◌, ◌*◌, ◌≤◌, ◌<◌}
use native.Mathlib.Omega.{arith}
use mathlib.Core.Path.{◌≡◌, sym, ap, ap₂, ◌∙◌}
use mathlib.Core.List.{List, ◌++◌}
use lib.Dec.{eqb}
use lib.ListN.{length, take, drop, get_or, length-append, length-drop, get_or-append}
use lib.Seq.{length-take-le, take_all, drop-append-le, take_at, drop_at, get_or-take}
use borrow.Author.Tests.{eqb-true}
use Rattle.laws.proofs.Lists.{drop-take}
use Rattle.model.specs.Frame.{two_at}
use Rattle.lemmas.proofs.Questions.{first-yes}
use Rattle.trace.specs.Trace.{clock_of, send_byte, payload_size, payload_of, batch_at, tick_end, batch_of, tick_number, send_of}
use Rattle.rehearsal.specs.Step.{tick_part, heard_at, step_end, batch_with, heard_frames, tick_with}

-- the bytes before the batch, with another batch behind them
module _ (front batch : List ℕ) (long : batch_at front ≤ length front) where
  abbrev joint : List ℕ
  joint = take (batch_at front) front ++ batch

  size : length (take (batch_at front) front) ≡ batch_at front
  size = length-take-le (batch_at front) front long

  byte-same : (i : ℕ) → i < batch_at front → get_or joint i 0 ≡ get_or front i 0
  byte-same i h = get_or-append (take (batch_at front) front) batch 0 i (omega (arith, size)) ∙ get_or-take (batch_at front) front i 0 h

  head-same : (i : ℕ) → i < 4 → get_or joint i 0 ≡ get_or front i 0
  unfolding batch_at
  head-same i h = byte-same i (omega arith)

  joint-clock : clock_of joint ≡ clock_of front
  unfolding clock_of two_at
  joint-clock = ap₂ (λ (a b : ℕ). a + 256 * b) (head-same 0 (omega arith)) (head-same 1 (omega arith))

  joint-send : send_of joint ≡ send_of front
  unfolding send_of send_byte
  joint-send = ap (λ (b : ℕ). eqb b 1) (head-same 2 (omega arith))

  joint-size : payload_size joint ≡ payload_size front
  unfolding payload_size
  joint-size = head-same 3 (omega arith)

  joint-at : batch_at joint ≡ batch_at front
  unfolding batch_at
  joint-at = ap (λ (b : ℕ). 4 + b) joint-size

  joint-payload : payload_of joint ≡ payload_of front
  unfolding payload_of batch_at
  joint-payload =
      let k : ℕ = payload_size front in
      let there : length (take (4 + k) front) ≡ 4 + k = size in
      ap (λ (n : ℕ). take n (drop 4 joint)) joint-size
      ∙ ap (take k) (drop-append-le 4 (take (4 + k) front) batch (omega (arith, there)) ∙ ap (λ (l : List ℕ). l ++ batch) (drop-take 4 k front))
      ∙ take_at (take k (drop 4 front)) batch k (length-take-le k (drop 4 front) (omega (arith, length-drop 4 front, long)))

  joint-batch : tick_end joint ≡ length joint → batch_of joint ≡ batch
  unfolding batch_of
  joint-batch e =
      ap (take (tick_end joint - batch_at joint)) (drop_at (take (batch_at front) front) batch (batch_at joint) (size ∙ sym joint-at))
      ∙ take_all (tick_end joint - batch_at joint) batch (omega (arith, e, size, joint-at, length-append (take (batch_at front) front) batch))

-- the tick of a step that is whole
module _ (sent : List (List ℕ)) (s : List ℕ) (whole : step_end s ≡ length s) where
  long : batch_at (tick_part s) ≤ length (tick_part s)
  unfolding step_end heard_at tick_part
  long = omega (arith, length-drop 1 s, whole)

  pub made-clock : clock_of (tick_with sent s) ≡ clock_of (tick_part s)
  unfolding tick_with
  made-clock = joint-clock (tick_part s) (batch_with (heard_frames sent s)) long

  pub made-send : send_of (tick_with sent s) ≡ send_of (tick_part s)
  unfolding tick_with
  made-send = joint-send (tick_part s) (batch_with (heard_frames sent s)) long

  pub made-payload : payload_of (tick_with sent s) ≡ payload_of (tick_part s)
  unfolding tick_with
  made-payload = joint-payload (tick_part s) (batch_with (heard_frames sent s)) long

  -- all of it is one tick, so its batch is the rest of it
  pub made-batch : tick_number (tick_with sent s) ≡ 0 → batch_of (tick_with sent s) ≡ batch_with (heard_frames sent s)
  unfolding tick_with tick_number
  made-batch e =
      joint-batch (tick_part s) (batch_with (heard_frames sent s)) long
      (eqb-true (tick_end (tick_with sent s)) (length (tick_with sent s)) (first-yes (eqb (tick_end (tick_with sent s)) (length (tick_with sent s))) 4 _ e))
