-- `longframe::form::frame_end` meets its contract. Assumes nothing.
use mathlib.Core.Path.{◌≡◌, ◌∙◌, ap}
use Prim.Native.Nat.{◌+◌, ◌*◌}
use native.Mathlib.Omega.{arith}
use lib.Seq.{get_or-drop}
use Rattle.model.specs.Frame.{frame_end, payload_count_at}
use Rattle.model.specs.Setup.{width}
use Rattle.model.specs.Long.{six_on, long_frame_end}
use Rattle.longframe.proofs.form.frame_end.Goals.{After-frame_end}
use Rattle.longframe.proofs.form.frame_end.Goals as goal

-- where the later sections say that it ends
there : (c : After-frame_end) → c.frame_end.result ≡ frame_end c.args.epsilon (six_on c.args.s.now)
there c = c.frame_end.ensures ∙ ap (frame_end c.args.epsilon) c.six_on.ensures

pub overflow_add-result : goal.overflow_add-result
unfolding frame_end payload_count_at width
overflow_add-result c =
    let at = 6 + 2 * c.args.epsilon in
    omega (arith, there (goal.at.overflow_add-result c).After-frame_end, c.requires, get_or-drop 6 c.args.s.now at 0, c.shared_slice_known-1.given (6 + at))

pub returns : goal.returns
unfolding long_frame_end
returns c = rw (there (goal.at.returns c).After-frame_end)
