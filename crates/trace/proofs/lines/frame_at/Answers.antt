-- `trace::lines::frame_at` meets its contract. Assumes nothing.
use Prim.Native.Nat.{ℕ, ◌≤◌}
use mathlib.Core.Path.{◌≡◌, ap, ap₂, ◌∙◌}
use mathlib.Core.List.{List}
use native.Mathlib.Omega.{arith}
use lib.ListN.{length, take, drop, length-take}
use Rattle.model.specs.Frame.{frame_end}
use Rattle.trace.specs.Text.{frame_bytes}
use Rattle.trace.proofs.Giving.{end-most}
use Rattle.trace.proofs.lines.frame_at.Goals.{After-frame_end}
use Rattle.trace.proofs.lines.frame_at.Goals as goal

ends : (c : After-frame_end) → c.frame_end.result ≡ frame_end c.args.epsilon (drop c.args.at c.args.delivery.now)
ends c = c.frame_end.ensures ∙ ap (frame_end c.args.epsilon) c.rest_at-rest.ensures

most : (c : After-frame_end) → c.frame_end.result ≤ 512
most c =
    let args = c.args in
    omega (arith, ends c, end-most args.epsilon args.delivery.now args.at c.requires (λ i. omega (arith, c.shared_slice_known-1.given i)))

pub returns : goal.returns
unfolding frame_bytes
returns c = (
  c.part.ensures ∙ ap₂ (λ (n : ℕ) (l : List ℕ). take n (drop 0 l)) (ends (goal.at.returns c).After-frame_end) c.rest_at-rest.ensures,
  omega (arith, ap (λ (l : List ℕ). length l) c.part.ensures, length-take c.frame_end.result (drop 0 c.rest_at-rest.result.now), most (goal.at.returns c).After-frame_end),
)
