-- One call of a list. With a plain setup, and a shelf as long as it was left, what comes of it is what comes of the plain tick, or of an
-- observer's plain call; a refused tick leaves the shelf as it is.
-- Assumes nothing.
use Prim.Native.Nat.{ℕ, zero, suc}
use mathlib.Core.Path.{◌≡◌, refl, ap, ap₂, ◌∙◌}
use mathlib.Core.Bool.{cond}
use mathlib.Core.List.{List, [], append-nil}
use mathlib.Core.Option.{Option, none}
use lib.Dec.{eqb-suc-zero}
use Rattle.model.specs.Question.{first_no}
use Rattle.model.specs.Tick.{Input, call_questions, refusal, acceptance, tick_by, tick}
use Rattle.model.specs.Schedule.{Wider}
use Rattle.model.specs.Run.{Node, Call, lengthened, is_accepted, output_by, output_of}

-- a shelf that is no longer is the one that was left
pub lengthened-none : (node : Node) → lengthened [] node ≡ node
unfolding lengthened
lengthened-none node =
    ap (λ (l : List ℕ). record { listens = node.listens; own = node.own; clock = node.clock; tables = node.tables; holdback = l })
    (append-nil node.holdback)

pub plain-output : (node : Node) (call : Call) → call.wider ≡ none → call.spare ≡ [] → output_of node call ≡ output_by none node call
unfolding output_of
plain-output node call plain short =
    ap₂ (λ (w : Option Wider) (spare : List ℕ). output_by w (lengthened spare node) call) plain short
    ∙ ap (λ (a : Node). output_by none a call) (lengthened-none node)

pub left-holdback : (i : Input) → cond (is_accepted (tick i)) (tick i).holdback i.holdback ≡ (tick i).holdback
unfolding tick is_accepted refusal acceptance
left-holdback i = go (first_no (call_questions i))
  where
    go : (k : ℕ) → cond (is_accepted (tick_by k i)) (tick_by k i).holdback i.holdback ≡ (tick_by k i).holdback
    go zero = refl
    go (suc k) = rw (eqb-suc-zero k) refl
