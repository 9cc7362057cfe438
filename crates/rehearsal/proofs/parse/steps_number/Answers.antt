-- `rehearsal::parse::steps_number` meets its contract. Assumes nothing.
use Rattle.rehearsal.proofs.Steps.{count_cut, count-large, count-good}
use Rattle.rehearsal.proofs.parse.steps_number.Goals as goal

pub returns-then-s-lt-COUNT_LENGTH : goal.returns-then-s-lt-COUNT_LENGTH
returns-then-s-lt-COUNT_LENGTH c = count_cut c.args.s.now c.if-s-lt-COUNT_LENGTH.true

pub returns-then-tick_count-gt-MOST_STEPS : goal.returns-then-tick_count-gt-MOST_STEPS
returns-then-tick_count-gt-MOST_STEPS c = count-large c.args.s.now c.tick_count.result c.tick_count.ensures c.if-s-lt-COUNT_LENGTH.false c.if-tick_count-gt-MOST_STEPS.true

pub returns : goal.returns
returns c = count-good c.args.s.now c.tick_count.result c.tick_count.ensures c.if-s-lt-COUNT_LENGTH.false c.if-tick_count-gt-MOST_STEPS.false
