-- `widercomparing::call::compare_pairs` meets its contract. Assumes nothing.
use Prim.Native.Nat.{ℕ}
use mathlib.Core.Path.{sym, ap, ap₂, ◌∙◌}
use Rattle.model.specs.Comparison.{Comparison, compare_by}
use Rattle.model.specs.Wider.{wider_decode}
use Rattle.model.specs.WiderCalls.{wider_compared}
use Rattle.pairs.specs.Views.{schedule_of}
use Rattle.widercomparing.proofs.Asking.{both-pass, by-refused}
use Rattle.widercomparing.proofs.call.compare_pairs.Goals as goal

pub returns-then-number-ne0 : goal.returns-then-number-ne0
returns-then-number-ne0 c =
    let a = c.args in
    let g = schedule_of a.p in
    let both = wider_compared g a.clock (wider_decode g a.first.now) (wider_decode g a.second.now) in
    c.refused.ensures
    ∙ (by-refused c.check_frames-number.result both c.if-number-ne0.true ∙ ap (λ (k : ℕ). compare_by k both) c.check_frames-number.ensures)

pub compare_wide-requires : goal.compare_wide-requires
compare_wide-requires c = record { paired = c.requires; f_value = both-pass (schedule_of c.args.p) c.args.first.now c.args.second.now (sym c.check_frames-number.ensures ∙ c.if-number-ne0.false) }

pub returns : goal.returns
returns c =
    c.numbers_of.ensures
    ∙ ap₂ (λ (k : ℕ) (o : Comparison). compare_by k o) (sym c.if-number-ne0.false ∙ c.check_frames-number.ensures) c.compare_wide.ensures
