-- `comparing::frames::at_clocks` meets its contract: case by case. Assumes nothing.
use Rattle.setup.specs.Views.{setup_of}
use Rattle.model.specs.Comparison.{count_clock}
use Rattle.comparing.proofs.Naming.{counted-first, counted-second, named-first, named-second, named-alike}
use Rattle.comparing.proofs.frames.at_clocks.Goals as goal

pub at_clock-requires : goal.at_clock-requires
at_clock-requires c = record { setup_value = c.requires.setup_value; counted = (counted-first c.args.comparison c.in-First.reason c.args.sum c.in-First.is c.requires.counted.0, c.requires.counted.1) }

pub at_clock-requires-in-Second : goal.at_clock-requires-in-Second
at_clock-requires-in-Second c = record { setup_value = c.requires.setup_value; counted = (counted-second c.args.comparison c.in-Second.reason c.args.sum c.in-Second.is c.requires.counted.0, c.requires.counted.1) }

pub returns-in-First : goal.returns-in-First
returns-in-First c =
    let a = c.args in
    named-first a.comparison c.in-First.reason (count_clock (setup_of a.setup) a.clock a.sum) c.at_clock.result c.at_clock.ensures c.in-First.is

pub returns-in-Second : goal.returns-in-Second
returns-in-Second c =
    let a = c.args in
    named-second a.comparison c.in-Second.reason (count_clock (setup_of a.setup) a.clock a.sum) c.at_clock-in-Second.result c.at_clock-in-Second.ensures c.in-Second.is

pub returns-in-Alike : goal.returns-in-Alike
returns-in-Alike c =
    let a = c.args in
    named-alike a.comparison (count_clock (setup_of a.setup) a.clock a.sum) c.in-Alike.is
