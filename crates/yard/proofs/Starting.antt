-- What stands before the steps of a trace: the setup, the count of steps, and the buffers. Assumes nothing.
use Prim.Native.Nat.{ℕ, ◌*◌, ◌≤◌}
use native.Mathlib.Omega.{arith}
use native.Mathlib.Nat.{mul-le-mul_right}
use mathlib.Core.Path.{◌≡◌, refl, ap, ◌∙◌}
use mathlib.Core.Bool.{true}
use mathlib.Core.List.{List, [], ◌∷◌}
use lib.Dec.{leb}
use lib.ListN.{length, length-replicate}
use borrow.Author.Tests.{leb-true}
use Rattle.laws.specs.Lists.{any}
use Rattle.laws.proofs.Numbers.{and_left}
use Rattle.model.specs.Setup.{Setup, in_limits, is_member}
use Rattle.model.specs.Question.{ask}
use Rattle.model.specs.Tick.{holdback_size}
use Rattle.lemmas.proofs.Questions.{first-yes, other-yes, limits-from}
use Rattle.trace.specs.Trace.{NodeSetup, count_length, tick_count}
use Rattle.splice.specs.Bytes.{zeros}
use Rattle.playing.specs.Playing.{Ready, text_room, among, run_numbers}
use Rattle.playing.proofs.Refusals.{first-among, none-no}
use Rattle.rehearsal.specs.Step.{most_steps, steps_number, longest_step}
use Rattle.rehearsal.proofs.Beginning.{queues-empty}
use Rattle.yard.specs.Running.{Usable, Begun}

-- a setup that is not refused
pub ready-usable : (s : NodeSetup) → Ready s → Usable s.setup
ready-usable s ready =
    record { limits = and_left (in_limits s.setup) (is_member s.setup s.own) ready.valid; small = ready.small }

-- the hold-back queues of all stations have room
pub queues-fit : (s : Setup) → Usable s → s.n * holdback_size s ≤ 1048576
queues-fit s u = omega (arith, mul-le-mul_right (holdback_size s) (limits-from s u.limits).n-most, u.small)

-- a count of steps
pub steps-among : (bytes : List ℕ) → among run_numbers (steps_number bytes) ≡ true
unfolding among any steps_number
steps-among bytes = first-among run_numbers _ 5 _ (λ _. refl) (first-among run_numbers _ 5 _ (λ _. refl) (ap (among run_numbers) none-no))

pub steps-few : (bytes : List ℕ) (steps : ℕ) → steps ≡ tick_count bytes → steps_number bytes ≡ 0 → steps ≤ most_steps
unfolding steps_number
steps-few bytes steps e h =
    omega (
      arith,
      e,
      leb-true (tick_count bytes) most_steps
          (first-yes (leb (tick_count bytes) most_steps) 4 [] (other-yes (leb count_length (length bytes)) 4 (ask (leb (tick_count bytes) most_steps) 5 ∷ []) h)),
    )

-- buffers of zeros that are long enough
pub begun-with : (s : Setup) (steps held kept read lines : ℕ) → Usable s → steps ≤ most_steps → s.n * holdback_size s ≤ held → kept ≡ 72000 → longest_step ≤ read → 4 * text_room ≤ lines
    → Begun s steps (zeros held) (zeros kept) (zeros read) (zeros lines)
begun-with s steps held kept read lines u few queues size space room =
    record {
      usable = u;
      few = few;
      queues = omega (arith, length-replicate {A = ℕ} held 0);
      empty = λ j h. queues-empty s held j queues h;
      size = length-replicate {A = ℕ} kept 0 ∙ size;
      space = omega (arith, length-replicate {A = ℕ} read 0);
      room = omega (arith, length-replicate {A = ℕ} lines 0);
    }
