-- `trace::lines::next_frame` meets its contract. Assumes nothing.
use Prim.Native.Nat.{◌≤◌}
use mathlib.Core.Path.{◌≡◌, ap, ◌∙◌}
use native.Mathlib.Omega.{arith}
use lib.ListN.{drop}
use Rattle.model.specs.Frame.{frame_end}
use Rattle.trace.proofs.Giving.{end-most}
use Rattle.trace.proofs.lines.next_frame.Goals.{After-frame_end}
use Rattle.trace.proofs.lines.next_frame.Goals as goal

ends : (c : After-frame_end) → c.frame_end.result ≡ frame_end c.args.epsilon (drop c.args.at c.args.delivery.now)
ends c =
    let args = c.args in
    c.frame_end.ensures ∙ ap (frame_end args.epsilon) c.rest_at-rest.ensures

most : (c : After-frame_end) → c.frame_end.result ≤ 512
most c =
    let args = c.args in
    omega (arith, ends c, end-most args.epsilon args.delivery.now args.at c.requires.1 (λ i. omega (arith, c.shared_slice_known-1.given i)))

pub overflow_add-result : goal.overflow_add-result
overflow_add-result c = omega (arith, most (goal.at.overflow_add-result c).After-frame_end)

pub returns : goal.returns
returns c = (omega (arith, ends (goal.at.returns c).After-frame_end), omega (arith, most (goal.at.returns c).After-frame_end))
