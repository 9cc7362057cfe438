-- `trace::lines::put_gives` meets its contract. The invariant of its loop: the give lines from the next frame on are still to be written, and these frames
-- pass 10 to 12. Assumes nothing.
use Prim.Native.Nat.{ℕ, suc, ◌+◌, ◌-◌}
use mathlib.Core.Path.{◌≡◌, refl, sym, ap, ◌∙◌}
use native.Mathlib.Omega.{arith}
use lib.ListN.{drop}
use Rattle.model.specs.Frame.{frame_end}
use Rattle.lemmas.proofs.Questions.{limits-from}
use Rattle.setup.specs.Views.{setup_of}
use Rattle.text.specs.Text.{Put}
use Rattle.trace.specs.Text.{give_after, give_lines, frame_from}
use Rattle.text.proofs.Putting.{ahead, ahead-first, ahead-next, ahead-as, put-nothing, put-length}
use Rattle.trace.proofs.Giving.{give_lines_from, give_all, give-none, give-one, passing-start, passing-next, two-of}
use Rattle.trace.proofs.Ticks.{two-small}
use Rattle.trace.proofs.lines.put_gives.Goals.{After-loop-left}
use Rattle.trace.proofs.lines.put_gives.Goals as goal

-- nothing is left
all-put : (c : After-loop-left)
    → Put c.args.buf.now c.args.from (give_lines (setup_of c.args.setup) c.args.clock c.args.delivery.now) c.loop-left.buf c.loop-left.end
all-put c =
    let a = c.args in
    let none = give-none (setup_of a.setup) a.clock a.delivery.now c.loop-left.left c.loop-left.last c.loop-left.at (omega arith) in
    (ahead-as none c.loop-left.invariant.0).done (put-nothing c.loop-left.buf c.loop-left.end)

pub two_at-left-requires : goal.two_at-left-requires
two_at-left-requires c = omega arith

pub loop-left-init : goal.loop-left-init
loop-left-init c =
    let s = setup_of c.args.setup in
    let v = c.args.clock in
    let bytes = c.args.delivery.now in (
      ahead-as (give_all s v bytes ∙ ap (λ (k : ℕ). give_lines_from s v bytes k 2 2) (sym c.two_at-left.ensures))
          (ahead c.args.buf.now c.args.from (give_lines s v bytes) c.requires.1),
      (
        passing-start s v bytes c.two_at-left.result c.two_at-left.ensures c.requires.0.frames,
        omega (arith, c.two_at-left.ensures, two-small bytes 0 (λ i. omega (arith, c.shared_slice_known-1.given i))),
      ),
    )

pub put_give_at-end-requires : goal.put_give_at-end-requires
put_give_at-end-requires c =
    let a = c.args in
    let s = setup_of a.setup in
    let bytes = a.delivery.now in
    let next = c.loop-left.at + frame_end a.setup.epsilon (drop c.loop-left.at bytes) in
    let e : c.loop-left.left ≡ suc (c.loop-left.left - 1) = omega arith in
    let lines = give-one s a.clock bytes c.loop-left.left (c.loop-left.left - 1) c.loop-left.last c.loop-left.at next e refl in record {
      two = two-of s a.clock bytes c.requires.0.limits c.requires.0.below c.loop-left.left (c.loop-left.left - 1) c.loop-left.last c.loop-left.at e c.loop-left.invariant.1.0;
      at_in_bounds = ahead-first (give_after s a.clock (frame_from a.setup.epsilon bytes c.loop-left.last) (frame_from a.setup.epsilon bytes c.loop-left.at)) (give_lines_from s a.clock bytes (c.loop-left.left - 1) c.loop-left.at next)
          (ahead-as lines c.loop-left.invariant.0);
    }

pub next_frame-at-requires : goal.next_frame-at-requires
next_frame-at-requires c = (omega arith, (limits-from (setup_of c.args.setup) c.requires.0.limits).epsilon-most)

pub overflow_sub-left : goal.overflow_sub-left
overflow_sub-left c = omega arith

pub loop-left-smaller : goal.loop-left-smaller
loop-left-smaller c = omega arith

pub loop-left-preserved : goal.loop-left-preserved
loop-left-preserved c =
    let a = c.args in
    let s = setup_of a.setup in
    let bytes = a.delivery.now in
    let e : c.loop-left.left ≡ suc (c.loop-left.left - 1) = omega arith in
    let lines = give-one s a.clock bytes c.loop-left.left (c.loop-left.left - 1) c.loop-left.last c.loop-left.at c.next_frame-at.result e c.next_frame-at.ensures.0 in (
      ahead-next (give_after s a.clock (frame_from a.setup.epsilon bytes c.loop-left.last) (frame_from a.setup.epsilon bytes c.loop-left.at)) (give_lines_from s a.clock bytes (c.loop-left.left - 1) c.loop-left.at c.next_frame-at.result)
          (ahead-as lines c.loop-left.invariant.0) c.put_give_at-end.ensures,
      (passing-next s a.clock bytes c.loop-left.left (c.loop-left.left - 1) c.loop-left.last c.loop-left.at c.next_frame-at.result e c.next_frame-at.ensures.0 c.loop-left.invariant.1.0, omega (arith, c.next_frame-at.ensures.1)),
    )

pub shape_of-buf : goal.shape_of-buf
shape_of-buf c = put-length c.requires.1 (all-put (goal.at.shape_of-buf c).After-loop-left)

pub returns : goal.returns
returns c = all-put (goal.at.returns c).After-loop-left
