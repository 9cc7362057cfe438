-- `abi::counting::yarngravel_figures` meets its contract. Assumes nothing.
use mathlib.Core.Path.{ap}
use Rattle.model.specs.Figures.{FiguresAnswer}
use Rattle.abi.proofs.counting.yarngravel_figures.Goals as goal

pub returns : goal.returns
returns c = record { value = ap (λ (a : FiguresAnswer). a.number) c.keep_figures.ensures; figures_after = ap (λ (a : FiguresAnswer). a.figures) c.keep_figures.ensures }
