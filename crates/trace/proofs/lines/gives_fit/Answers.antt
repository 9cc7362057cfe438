-- `trace::lines::gives_fit` meets its contract. The invariant of its loop: the lines that are left fit the room that is left exactly if all fit, and
-- the frames that are left pass 10 to 12. Assumes nothing.
use Prim.Native.Nat.{ℕ, suc, ◌+◌, ◌-◌}
use mathlib.Core.Path.{◌≡◌, refl, sym, ap, ◌∙◌}
use mathlib.Core.List.{List}
use native.Mathlib.Omega.{arith}
use lib.Dec.{leb}
use lib.ListN.{length, drop}
use borrow.Author.Tests.{le-leb}
use Rattle.model.specs.Frame.{frame_end}
use Rattle.lemmas.proofs.Questions.{limits-from}
use Rattle.setup.specs.Views.{setup_of}
use Rattle.trace.specs.Text.{give_after, frame_from}
use Rattle.trace.proofs.Giving.{give_lines_from, give_all, give-none, give-one, passing-start, passing-next, two-of, fit-one, fit-not}
use Rattle.trace.proofs.Ticks.{two-small}
use Rattle.trace.proofs.lines.gives_fit.Goals as goal

pub two_at-left-requires : goal.two_at-left-requires
two_at-left-requires c = omega arith

pub loop-left-init : goal.loop-left-init
loop-left-init c =
    let s = setup_of c.args.setup in
    let v = c.args.clock in
    let bytes = c.args.delivery.now in (
      ap (λ (l : List ℕ). leb (length l) c.args.room) (give_all s v bytes ∙ ap (λ (k : ℕ). give_lines_from s v bytes k 2 2) (sym c.two_at-left.ensures)),
      (
        passing-start s v bytes c.two_at-left.result c.two_at-left.ensures c.requires.frames,
        omega (arith, c.two_at-left.ensures, two-small bytes 0 (λ i. omega (arith, c.shared_slice_known-1.given i))),
      ),
    )

pub give_size-size-requires : goal.give_size-size-requires
give_size-size-requires c =
    let e : c.loop-left.left ≡ suc (c.loop-left.left - 1) = omega arith in
    two-of (setup_of c.args.setup) c.args.clock c.args.delivery.now c.requires.limits c.requires.below c.loop-left.left (c.loop-left.left - 1) c.loop-left.last c.loop-left.at e c.loop-left.invariant.1.0

pub returns-then-room_left-size : goal.returns-then-room_left-size
returns-then-room_left-size c =
    let a = c.args in
    let s = setup_of a.setup in
    let bytes = a.delivery.now in
    let next = c.loop-left.at + frame_end a.setup.epsilon (drop c.loop-left.at bytes) in
    let e : c.loop-left.left ≡ suc (c.loop-left.left - 1) = omega arith in
    let lines = give-one s a.clock bytes c.loop-left.left (c.loop-left.left - 1) c.loop-left.last c.loop-left.at next e refl in
    sym
    (c.loop-left.invariant.0
    ∙ ap (λ (l : List ℕ). leb (length l) c.loop-left.room_left) lines
    ∙ fit-not (give_after s a.clock (frame_from a.setup.epsilon bytes c.loop-left.last) (frame_from a.setup.epsilon bytes c.loop-left.at)) (give_lines_from s a.clock bytes (c.loop-left.left - 1) c.loop-left.at next)
    c.give_size-size.result c.loop-left.room_left c.give_size-size.ensures c.if-room_left-size.true)

pub next_frame-at-requires : goal.next_frame-at-requires
next_frame-at-requires c = (omega arith, (limits-from (setup_of c.args.setup) c.requires.limits).epsilon-most)

pub overflow_sub-left : goal.overflow_sub-left
overflow_sub-left c = omega arith

pub loop-left-smaller : goal.loop-left-smaller
loop-left-smaller c = omega arith

pub loop-left-preserved : goal.loop-left-preserved
loop-left-preserved c =
    let a = c.args in
    let s = setup_of a.setup in
    let bytes = a.delivery.now in
    let e : c.loop-left.left ≡ suc (c.loop-left.left - 1) = omega arith in
    let lines = give-one s a.clock bytes c.loop-left.left (c.loop-left.left - 1) c.loop-left.last c.loop-left.at c.next_frame-at.result e c.next_frame-at.ensures.0 in (
      c.loop-left.invariant.0
          ∙ ap (λ (l : List ℕ). leb (length l) c.loop-left.room_left) lines
          ∙ fit-one (give_after s a.clock (frame_from a.setup.epsilon bytes c.loop-left.last) (frame_from a.setup.epsilon bytes c.loop-left.at)) (give_lines_from s a.clock bytes (c.loop-left.left - 1) c.loop-left.at c.next_frame-at.result)
          c.give_size-size.result c.loop-left.room_left c.give_size-size.ensures c.if-room_left-size.false,
      (passing-next s a.clock bytes c.loop-left.left (c.loop-left.left - 1) c.loop-left.last c.loop-left.at c.next_frame-at.result e c.next_frame-at.ensures.0 c.loop-left.invariant.1.0, omega (arith, c.next_frame-at.ensures.1)),
    )

pub returns : goal.returns
returns c =
    let a = c.args in
    sym
    (c.loop-left.invariant.0
    ∙ ap (λ (l : List ℕ). leb (length l) c.loop-left.room_left) (give-none (setup_of a.setup) a.clock a.delivery.now c.loop-left.left c.loop-left.last c.loop-left.at (omega arith))
    ∙ le-leb 0 c.loop-left.room_left (omega arith))
