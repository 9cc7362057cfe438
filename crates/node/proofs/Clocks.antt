-- The last clock of a call, and the least due clock after it. Assumes nothing.
use Prim.Native.Nat.{ℕ, ◌+◌, ◌-◌, ◌≤◌, ◌<◌}
use native.Mathlib.Omega.{arith}
use mathlib.Core.Path.{◌≡◌, ap, ◌∙◌}
use mathlib.Core.Bool.{Bool, true, false}
use lib.Dec.{ltb}
use borrow.Author.Tests.{ltb-true}
use Rattle.laws.proofs.Numbers.{and_left}
use Rattle.model.specs.Setup.{Setup}
use Rattle.model.specs.Timestamp.{clock_step, sound_clock}
use Rattle.lemmas.proofs.Bounds.{Limits}
use Rattle.lemmas.proofs.Counts.{clock-steps}
use Rattle.node.specs.States.{ClockOpened}

module _ (s : Setup) (v : ℕ) (last : ℕ) (lim : Limits s) where
  pub clock-below : sound_clock s.epsilon s.modulus v last ≡ true → last < s.modulus
  clock-below h = ltb-true last s.modulus (and_left (ltb last s.modulus) _ h)

  pub clock-far : sound_clock s.epsilon s.modulus v last ≡ true → {k : ℕ} → k ≡ clock_step s.modulus last v → (1 ≤ k) × (k ≤ s.epsilon)
  clock-far h steps = rw steps (clock-steps s.epsilon s.modulus v last h)

  pub clock-sound : {sound : Bool} {k : ℕ} → sound ≡ true → sound_clock s.epsilon s.modulus v last ≡ true → k ≡ clock_step s.modulus last v → ClockOpened s v sound last (s.modulus + 1 - k) 0
  clock-sound {sound} {k} e h steps =
      record {
        least-is = ap (λ (n : ℕ). s.modulus + 1 - n) steps ∙ rw e;
        recent = omega (arith, clock-far h steps, lim.modulus-least);
        repaired = rw e;
      }

  pub clock-unsound : {sound : Bool} → sound ≡ false → ClockOpened s v sound last s.modulus 1
  clock-unsound e = record { least-is = rw e; recent = omega (arith, lim.epsilon-pos); repaired = rw e }
