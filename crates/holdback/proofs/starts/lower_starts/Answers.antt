-- `holdback::starts::lower_starts` meets its contract. The invariant of the loop: the entries so far are lowered, and the others as they were. Assumes nothing.
use Rattle.std.proofs.Common.{◌≡◌, ℕ, ◌-◌, ◌<◌, length, get_or, sym, ap, ◌∙◌, arith}
use Rattle.holdback.specs.Starts.{start_entries}
use Rattle.holdback.proofs.Started.{changed-starts, changed-long, changed-next, changed-turns, changed-ends}
use Rattle.holdback.proofs.starts.lower_starts.Goals.{At-loop-k, In-loop-k}
use Rattle.holdback.proofs.starts.lower_starts.Goals as goal

pub loop-k-init : goal.loop-k-init
loop-k-init c = (changed-starts (λ m. m - c.args.amount) 0 c.args.starts.now c.requires.starts_len.0, omega arith)

-- a place is there, and as it was
module _ (c : At-loop-k) where
  abbrev move : ℕ → ℕ
  move m = m - c.args.amount

  long : length c.loop-k.starts ≡ start_entries
  long = changed-long move 0 c.args.starts.now c.loop-k.k c.loop-k.invariant.0

inside : (c : In-loop-k) → c.loop-k.k < start_entries
inside c = omega (arith, c.loop-k-test.true, c.requires.starts_len.1)

next : (c : In-loop-k) → get_or c.loop-k.starts c.loop-k.k 0 ≡ get_or c.args.starts.now c.loop-k.k 0
next c = changed-next (move c.before) 0 c.args.starts.now c.loop-k.k (inside c) c.loop-k.invariant.0

pub offset_bounds-starts-k : goal.offset_bounds-starts-k
offset_bounds-starts-k c = omega arith

pub bounds-starts-k : goal.bounds-starts-k
bounds-starts-k c = omega (arith, long (goal.at.bounds-starts-k c).At-loop-k, inside (goal.at.bounds-starts-k c).In-loop-k)

pub overflow_sub-starts : goal.overflow_sub-starts
overflow_sub-starts c = omega (arith, next (goal.at.overflow_sub-starts c).In-loop-k, c.requires.by_index c.loop-k.k c.loop-k-test.true)

pub bounds-starts-k-in-loop-k : goal.bounds-starts-k-in-loop-k
bounds-starts-k-in-loop-k c = omega (arith, long (goal.at.bounds-starts-k-in-loop-k c).At-loop-k, inside (goal.at.bounds-starts-k-in-loop-k c).In-loop-k)

pub overflow_add-k : goal.overflow_add-k
overflow_add-k c = omega arith

pub loop-k-smaller : goal.loop-k-smaller
loop-k-smaller c = omega arith

pub loop-k-preserved : goal.loop-k-preserved
loop-k-preserved c =
    let loop = c.loop-k in
    (changed-turns (move (goal.at.loop-k-preserved c).At-loop-k) 0 c.args.starts.now loop.k _ (omega arith) loop.invariant.0 (ap (move (goal.at.loop-k-preserved c).At-loop-k) (next (goal.at.loop-k-preserved c).In-loop-k)), omega arith)

pub shape_of-starts : goal.shape_of-starts
shape_of-starts c = long (goal.at.shape_of-starts c).At-loop-k ∙ sym c.requires.starts_len.0

pub returns : goal.returns
returns c = changed-ends (move (goal.at.returns c).At-loop-k) 0 c.args.starts.now c.loop-k.k c.args.to c.loop-k-test.false (omega (arith, c.loop-k.invariant.1)) c.loop-k.invariant.0
