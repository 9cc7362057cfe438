-- `holdback::starts::fill` meets its contract. The invariant of the loop: the places so far have the entry, and the others as they were. Assumes nothing.
use Rattle.std.proofs.Common.{◌≡◌, length, sym, refl, ◌∙◌, arith}
use Rattle.holdback.specs.Starts.{start_entries}
use Rattle.holdback.proofs.Started.{changed-starts, changed-long, changed-turns, changed-ends}
use Rattle.holdback.proofs.starts.fill.Goals.{At-loop-k}
use Rattle.holdback.proofs.starts.fill.Goals as goal

pub loop-k-init : goal.loop-k-init
loop-k-init c = let start = c in (changed-starts (λ _. start.args.start) start.args.from start.args.starts.now start.requires.0, (omega arith, omega arith))

module _ (c : At-loop-k) where
  long : length c.loop-k.starts ≡ start_entries
  long = changed-long (λ _. c.args.start) c.args.from c.args.starts.now c.loop-k.k c.loop-k.invariant.0

pub offset_bounds-starts-k : goal.offset_bounds-starts-k
offset_bounds-starts-k c = omega arith

pub bounds-starts-k : goal.bounds-starts-k
bounds-starts-k c = omega (arith, long (goal.at.bounds-starts-k c).At-loop-k)

pub overflow_add-k : goal.overflow_add-k
overflow_add-k c = omega arith

pub loop-k-smaller : goal.loop-k-smaller
loop-k-smaller c = omega arith

pub loop-k-preserved : goal.loop-k-preserved
loop-k-preserved c =
    let loop = c.loop-k in
    (changed-turns (λ _. c.args.start) c.args.from c.args.starts.now loop.k c.args.start loop.invariant.1.0 loop.invariant.0 refl, (omega arith, omega arith))

pub shape_of-starts : goal.shape_of-starts
shape_of-starts c = long (goal.at.shape_of-starts c).At-loop-k ∙ sym c.requires.0

pub returns : goal.returns
returns c =
    let loop = c.loop-k in
    changed-ends (λ _. c.args.start) c.args.from c.args.starts.now loop.k c.args.to c.loop-k-test.false loop.invariant.1.1 loop.invariant.0
