-- `holdback::starts::spread` meets its contract. The invariant of the loop: the places so far have the largest entry up to them, the others are as they were, and `end` is the largest so far. Assumes nothing.
use Rattle.std.proofs.Common.{◌≡◌, ℕ, suc, ◌<◌, length, get_or, sym, ap, ◌∙◌, add-one, arith}
use Rattle.holdback.specs.Starts.{start_entries, highest, spread_starts}
use Rattle.holdback.proofs.Started.{highest-none, highest-next, spread-long, spread-past, spread-starts, spread-turns}
use Rattle.holdback.proofs.starts.spread.Goals.{After-larger-end, At-loop-k, In-loop-k}
use Rattle.holdback.proofs.starts.spread.Goals as goal

pub loop-k-init : goal.loop-k-init
loop-k-init c = (spread-starts c.args.starts.now c.requires.0, (highest-none c.args.starts.now, omega arith))

module _ (c : At-loop-k) where
  long : length c.loop-k.starts ≡ start_entries
  long = spread-long c.args.starts.now c.loop-k.k c.loop-k.invariant.0

-- a place is there, and as it was
inside : (c : In-loop-k) → c.loop-k.k < start_entries
inside c = omega (arith, c.loop-k-test.true, c.requires.1)

next : (c : In-loop-k) → get_or c.loop-k.starts c.loop-k.k 0 ≡ get_or c.args.starts.now c.loop-k.k 0
next c = spread-past c.args.starts.now c.loop-k.k c.loop-k.invariant.0 c.loop-k.k (omega arith) (inside c)

pub offset_bounds-starts-k : goal.offset_bounds-starts-k
offset_bounds-starts-k c = omega (arith, inside (c))

pub bounds-starts-k : goal.bounds-starts-k
bounds-starts-k c = omega (arith, long (goal.at.bounds-starts-k c).At-loop-k, inside (goal.at.bounds-starts-k c).In-loop-k)

-- the largest entry with this one
raised : (c : After-larger-end) → c.larger-end.result ≡ highest c.args.starts.now (suc c.loop-k.k)
raised c = highest-next c.args.starts.now c.loop-k.k c.loop-k.invariant.1.0 (next c.before.before) c.larger-end.ensures

pub offset_bounds-starts-k-in-loop-k : goal.offset_bounds-starts-k-in-loop-k
offset_bounds-starts-k-in-loop-k c = omega (arith, inside (goal.at.offset_bounds-starts-k-in-loop-k c).In-loop-k)

pub bounds-starts-k-in-loop-k : goal.bounds-starts-k-in-loop-k
bounds-starts-k-in-loop-k c = omega (arith, long (goal.at.bounds-starts-k-in-loop-k c).At-loop-k, inside (goal.at.bounds-starts-k-in-loop-k c).In-loop-k)

pub overflow_add-k : goal.overflow_add-k
overflow_add-k c = omega (arith, inside (goal.at.overflow_add-k c).In-loop-k)

pub loop-k-smaller : goal.loop-k-smaller
loop-k-smaller c = omega (arith, c.loop-k-test.true)

pub loop-k-preserved : goal.loop-k-preserved
loop-k-preserved c =
    let loop = c.loop-k in
    let largest = raised (c) in (
      spread-turns c.args.starts.now loop.k _ loop.invariant.0 largest,
      (largest ∙ ap (highest c.args.starts.now) (sym (add-one loop.k)), omega (arith, c.loop-k-test.true)),
    )

pub shape_of-starts : goal.shape_of-starts
shape_of-starts c = long (goal.at.shape_of-starts c).At-loop-k ∙ sym c.requires.0

pub returns : goal.returns
returns c =
    let loop = c.loop-k in
    let e : loop.k ≡ c.args.to = omega (arith, c.loop-k-test.false, loop.invariant.1.1) in
    loop.invariant.0 ∙ ap (λ (k : ℕ). spread_starts k c.args.starts.now) e
