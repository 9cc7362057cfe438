-- `trace::reasons::reason_size` meets its contract. Assumes nothing.
use Rattle.trace.proofs.Wording.{words_are, count-size}
use Rattle.trace.proofs.reasons.reason_size.Goals as goal

pub returns-in-Count : goal.returns-in-Count
returns-in-Count c = count-size c.in-Count.clock c.digit_count.result _ (words_are c.in-Count.is) c.digit_count.ensures.0 c.digit_count.ensures.1
