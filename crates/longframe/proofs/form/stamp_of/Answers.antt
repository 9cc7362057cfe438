-- `longframe::form::stamp_of` meets its contract. Assumes nothing.
use Prim.Native.Nat.{ℕ, ◌*◌}
use mathlib.Core.List.{List}
use mathlib.Core.Path.{◌≡◌, ◌∙◌, ap}
use native.Mathlib.Omega.{arith}
use lib.ListN.{length, take, drop, get_or}
use Rattle.laws.specs.Lists.{padded}
use Rattle.timestamp.specs.Views.{stamp_of}
use Rattle.model.specs.Frame.{counts_of, decode}
use Rattle.model.specs.Long.{six_on, long_decode, number_at}
use Rattle.model.specs.Timestamp.{widened}
use Rattle.longframe.proofs.Asking.{clock-there, counts-there, counts-wide, counts-taken}
use Rattle.longframe.proofs.form.stamp_of.Goals.{After-counts_part}
use Rattle.longframe.proofs.form.stamp_of.Goals as goal

-- the counts, as they are lent
counts : (c : After-counts_part) → c.counts_part.result.now ≡ counts_of c.args.epsilon (six_on c.args.s.now)
counts c = c.counts_part.ensures ∙ ap (counts_of c.args.epsilon) c.six_on-later.ensures

pub counts_part-requires : goal.counts_part-requires
counts_part-requires c = (c.requires.0, rw c.six_on-later.ensures (counts-there c.args.epsilon c.args.s.now c.requires.1))

pub counts_of-kn-requires : goal.counts_of-kn-requires
counts_of-kn-requires c =
    let wide : length c.counts_part.result.now ≡ 2 * c.args.epsilon = ap length (counts (goal.at.counts_of-kn-requires c).After-counts_part) ∙ counts-wide c.args.epsilon c.args.s.now c.requires.1 in
    (omega arith, omega (arith, c.requires.0))

pub r_of-r-requires : goal.r_of-r-requires
r_of-r-requires c = clock-there c.args.epsilon c.args.s.now c.requires.1

pub returns : goal.returns
unfolding widened long_decode decode
returns c =
    let epsilon = c.args.epsilon in
    let s = c.args.s.now in
    let r-is : c.r_of-r.result ≡ number_at 8 s 2 = c.r_of-r.ensures epsilon in
    let c-is : c.c_of-c.result ≡ get_or (six_on s) 5 0 = c.c_of-c.ensures epsilon ∙ ap (λ (l : List ℕ). get_or l 5 0) c.six_on-later.ensures in
    let kn-is : c.counts_of-kn.result ≡ padded 32 (counts_of epsilon (six_on s)) =
    c.counts_of-kn.ensures
    ∙ ap (λ (l : List ℕ). padded 32 (take (2 * epsilon) (drop 0 l))) (counts (goal.at.returns c).After-counts_part) ∙ ap (padded 32) (counts-taken epsilon (six_on s)) in
    ap (λ (x : ℕ). stamp_of (record { r = x; c = c.c_of-c.result; kn = c.counts_of-kn.result })) r-is
    ∙ (ap (λ (x : ℕ). stamp_of (record { r = number_at 8 s 2; c = x; kn = c.counts_of-kn.result })) c-is
    ∙ ap (λ (x : List ℕ). stamp_of (record { r = number_at 8 s 2; c = get_or (six_on s) 5 0; kn = x })) kn-is)
