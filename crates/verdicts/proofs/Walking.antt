-- A walk over a batch beside its verdicts, turn by turn. Assumes nothing.
use Prim.Native.Nat.{ℕ, suc, ◌+◌, ◌-◌, ◌<◌}
use mathlib.Core.Path.{◌≡◌, sym, ap, ◌∙◌}
use mathlib.Core.Bool.{true}
use mathlib.Core.List.{List, [], ◌∷◌}
use native.Mathlib.Nat.{add-zero}
use native.Mathlib.Omega.{arith}
use lib.ListN.{length, take, drop, get_or, length-take}
use lib.Seq.{get_or-take, get_or-drop, drop-drop}
use Rattle.laws.proofs.Lists.{every-index}
use Rattle.model.specs.Batch.{exact_batch, batch_entries}
use Rattle.model.specs.Verdicts.{given}
use Rattle.batch.specs.Walk.{count_of, entry_at, next_at}
use Rattle.batch.proofs.Walk.{walked, batch-walked, batch-count}
use Rattle.verdicts.specs.Fit.{VerdictsFit}

-- at an entry, whose length stands at `at`, the walk goes on at it and the others
pub record Walking (batch : List ℕ) (position at : ℕ) : Type 0 where
  pub left : ℕ
  pub counted : count_of batch ≡ position + left
  pub rest : walked left batch at ≡ drop position (batch_entries batch)

pub walking_start : {batch : List ℕ} → exact_batch batch ≡ true → Walking batch 0 1
walking_start {batch} e = record { left = count_of batch; counted = omega arith; rest = batch-walked batch e }

-- at one more entry
module _ {batch : List ℕ} {position at : ℕ} (here : Walking batch position at) (more : position < count_of batch) where
  front : entry_at batch at ∷ walked (here.left - 1) batch (next_at batch at) ≡ drop position (batch_entries batch)
  unfolding walked
  front =
      let e : here.left ≡ suc (here.left - 1) = omega (arith, here.counted) in
      ap (λ (m : ℕ). walked m batch at) (sym e) ∙ here.rest

  -- its bytes are those where the walk is
  pub walking-entry : entry_at batch at ≡ get_or (batch_entries batch) position []
  walking-entry =
      ap (λ (l : List (List ℕ)). get_or l 0 []) front
      ∙ (get_or-drop position (batch_entries batch) 0 [] ∙ ap (λ (m : ℕ). get_or (batch_entries batch) m []) (add-zero position))

  pub walking-turn : {at' : ℕ} → at' ≡ next_at batch at → Walking batch (position + 1) at'
  walking-turn step =
      record {
        left = here.left - 1;
        counted = omega (arith, here.counted);
        rest =
            ap (λ (m : ℕ). walked (here.left - 1) batch m) step
            ∙ (ap (drop 1) front ∙ drop-drop 1 position (batch_entries batch));
      }

-- a judgement gave the verdict at a position, where all questions got a yes
pub verdict-given : {batch verdicts : List ℕ} → VerdictsFit batch verdicts → (position : ℕ) → position < count_of batch → given (get_or verdicts position 0) ≡ true
verdict-given {batch} {verdicts} ok position more =
    let below : position < length (batch_entries batch) = omega (arith, batch-count batch ok.exact) in
    let small : position < length (take (length (batch_entries batch)) verdicts)
    = omega (arith, length-take (length (batch_entries batch)) verdicts, ok.enough) in
    rw (← get_or-take (length (batch_entries batch)) verdicts position 0 below)
    (every-index given (take (length (batch_entries batch)) verdicts) 0 ok.all-given position small)
