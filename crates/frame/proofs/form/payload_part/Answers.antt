-- `frame::form::payload_part` meets its contract. Assumes nothing.
use Prim.Native.Nat.{ℕ, ◌+◌, ◌*◌}
use mathlib.Core.Path.{◌≡◌, ◌∙◌}
use mathlib.Core.List.{List}
use native.Mathlib.Omega.{arith}
use lib.ListN.{length, take, drop, length-drop}
use lib.Seq.{take_all}
use Rattle.model.specs.Frame.{decode, payload_count_at}
use Rattle.model.specs.Setup.{width}
use Rattle.frame.proofs.form.payload_part.Goals as goal

-- the payload is what stands after its count
after-count : (epsilon : ℕ) (s : List ℕ) → take (length s) (drop (7 + 2 * epsilon) s) ≡ (decode epsilon s).payload
unfolding decode payload_count_at width
after-count epsilon s =
    let e : 6 + 2 * epsilon + 1 ≡ 7 + 2 * epsilon = omega arith in
    rw e (take_all (length s) (drop (7 + 2 * epsilon) s) (simp length-drop (omega arith)))

pub returns : goal.returns
returns c = c.part.ensures ∙ after-count c.args.epsilon c.args.s.now
