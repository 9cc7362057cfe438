-- `longqueue::origins::same_origin` meets its contract: the stations, then r. Assumes nothing.
use mathlib.Core.Path.{ap₂, ◌∙◌}
use native.Mathlib.Omega.{arith}
use lib.Dec.{eqb}
use Rattle.model.specs.Long.{long_decode}
use Rattle.longqueue.proofs.Searching.{origin-other, origin-by-r}
use Rattle.longqueue.proofs.origins.same_origin.Goals as goal

pub returns-then-station_of : goal.returns-then-station_of
returns-then-station_of c = λ epsilon.
    origin-other (long_decode epsilon c.args.f.now) (long_decode epsilon c.args.g.now)
    (λ e. omega (arith, c.station_of.ensures epsilon, c.station_of-2.ensures epsilon))

pub returns : goal.returns
returns c = λ epsilon.
    let first = c.station_of.ensures epsilon in
    let second = c.station_of-2.ensures epsilon in
    ap₂ eqb (c.r_of.ensures epsilon) (c.r_of-2.ensures epsilon)
    ∙ origin-by-r (long_decode epsilon c.args.f.now) (long_decode epsilon c.args.g.now) (omega arith)
