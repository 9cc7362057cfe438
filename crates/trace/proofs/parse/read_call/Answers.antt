-- `trace::parse::read_call` meets its contract. Assumes nothing.
use Rattle.trace.proofs.Ticks.{clock-is, send-flag}
use Rattle.trace.proofs.parse.read_call.Goals as goal

pub returns : goal.returns
returns c = (c.tick_number.ensures, (clock-is _ c.two_at.ensures, send-flag _ _ c.byte_at.ensures))
