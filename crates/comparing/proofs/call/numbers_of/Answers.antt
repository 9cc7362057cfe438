-- `comparing::call::numbers_of` meets its contract: case by case. Assumes nothing.
use Rattle.comparing.proofs.Naming.{numbers-first, numbers-second, numbers-alike}
use Rattle.comparing.proofs.call.numbers_of.Goals as goal

pub returns-in-First : goal.returns-in-First
returns-in-First c = numbers-first c.args.comparison c.in-First.reason c.in-First.is c.reason_number.ensures c.reason_clock.ensures

pub returns-in-Second : goal.returns-in-Second
returns-in-Second c = numbers-second c.args.comparison c.in-Second.reason c.in-Second.is c.reason_number-in-Second.ensures c.reason_clock-in-Second.ensures

pub returns-in-Alike : goal.returns-in-Alike
returns-in-Alike c = numbers-alike c.args.comparison c.in-Alike.is
