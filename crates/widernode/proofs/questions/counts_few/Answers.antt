-- `widernode::questions::counts_few` meets its contract. Assumes nothing.
use Prim.Native.Nat.{ℕ, ◌+◌, ◌-◌}
use native.Mathlib.Omega.{arith}
use mathlib.Core.Path.{sym, ap, ◌∙◌}
use mathlib.Core.List.{List}
use lib.ListN.{length, take, drop}
use Rattle.model.specs.Timestamp.{at_most}
use Rattle.model.specs.Frame.{counts_of, payload_count_at}
use Rattle.lemmas.proofs.Schedules.{limits-n}
use Rattle.pairs.specs.Views.{schedule_of}
use Rattle.widernode.proofs.Times.{Given, given, counts-asked}
use Rattle.widernode.proofs.questions.counts_few.Goals.{Start}
use Rattle.widernode.proofs.questions.counts_few.Goals as goal

facts : (c : Start) → Given (schedule_of c.args.p) c.args.clock c.args.frame.now
facts c = given (schedule_of c.args.p) c.args.clock c.args.frame.now c.requires.0

pub counts_part-counts-requires : goal.counts_part-counts-requires
counts_part-counts-requires c = let h = facts (goal.at.counts_part-counts-requires c).Start in (omega (arith, c.half_in-half.ensures, h.half-most), omega (arith, ap payload_count_at c.half_in-half.ensures, h.long))

pub overflow_add-p : goal.overflow_add-p
overflow_add-p c = let h = facts (goal.at.overflow_add-p c).Start in omega (arith, c.half_in-half.ensures, h.half-most, h.limits.modulus-most, h.same)

pub returns : goal.returns
returns c =
    let g = schedule_of c.args.p in
    let counts : List ℕ = c.counts_part-counts.result.now in
    c.counts_at_most.ensures
    ∙ (ap (λ (n : ℕ). at_most (c.args.p.before.n - 1) (drop n (take (length counts) counts))) (c.past-from.ensures ∙ ap (λ (h : ℕ). c.args.p.before.modulus + h - c.args.reading) c.half_in-half.ensures)
    ∙ counts-asked g c.args.clock c.args.reading c.args.frame.now counts (facts (goal.at.returns c).Start) (ap (λ (n : ℕ). n - 1) (sym c.requires.0.timed.good.n ∙ sym (limits-n g c.requires.0.timed.good c.args.p.before.modulus)))
    (c.counts_part-counts.ensures ∙ ap (λ (h : ℕ). counts_of h c.args.frame.now) c.half_in-half.ensures))
