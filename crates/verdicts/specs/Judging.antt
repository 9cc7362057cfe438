-- The judgements of a call, a tick or an observer's call: those of which its verdict buffer has the numbers. Assumes nothing.
use Rattle.std.specs.Prelude.{ℕ, List, take}
use Rattle.laws.specs.Lists.{fold_left}
use Rattle.model.specs.Setup.{Setup}
use Rattle.model.specs.Frame.{Frame}
use Rattle.model.specs.Batch.{batch_entries}
use Rattle.model.specs.Question.{first_no}
use Rattle.model.specs.Judge.{Asking, Heard, hear_one, judge_questions, observer_questions}
use Rattle.model.specs.Tick.{Input, opening_in, opening, tick}
use Rattle.model.specs.Observer.{Listening, observer_opened, listen}
use Rattle.model.specs.Schedule.{Wider, along}
use Rattle.model.specs.Wider.{wider_questions, wider_observer_questions, wider_hear_one, wider_opening, wider_opened, tick_in}
use Rattle.model.specs.WiderCalls.{wider_observer_opened, listen_in}

-- a call that judges a batch: what it asks of a frame, how it hears one, what its hearing starts from, and the verdict buffer that it leaves
pub record Judging : Type 0 where
  pub setup : Setup
  pub asking : Asking
  pub hearing : Heard → List ℕ → Heard
  pub opening : Heard
  pub batch : List ℕ
  pub verdicts : List ℕ

-- the shelved frames when it judges the entry at a position
unfoldable pub queue_at : Judging → ℕ → List Frame
queue_at j position = (fold_left j.hearing j.opening (take position (batch_entries j.batch))).queue

-- the number of the first question about that entry that gets a no; 0 where it is taken
unfoldable pub judged_number : Judging → ℕ → List ℕ → ℕ
judged_number j position entry = first_no (j.asking (queue_at j position) entry)

-- of a tick
abbrev pub tick_judging : Input → Judging
tick_judging i =
    record {
      setup = i.setup;
      asking = judge_questions i.setup i.clock;
      hearing = hear_one i.setup i.clock (judge_questions i.setup i.clock);
      opening = opening i;
      batch = i.batch;
      verdicts = (tick i).verdicts;
    }

-- 02, 2.6: of an observer's call, which asks by its own questions, "not 15"
abbrev pub listen_judging : Listening → Judging
listen_judging i =
    record {
      setup = i.setup;
      asking = observer_questions i.setup i.clock;
      hearing = hear_one i.setup i.clock (observer_questions i.setup i.clock);
      opening = opening_in i.setup i.clock (observer_opened i);
      batch = i.batch;
      verdicts = (listen i).verdicts;
    }

-- 02, 2.10: of a tick with both pairs of limits, by its schedule
abbrev pub tick_in_judging : Wider → Input → Judging
tick_in_judging w i =
    record {
      setup = i.setup;
      asking = wider_questions (along i.setup w i.clock) i.clock;
      hearing = wider_hear_one (along i.setup w i.clock) i.clock (wider_questions (along i.setup w i.clock) i.clock);
      opening = wider_opening (along i.setup w i.clock) i.clock (wider_opened (along i.setup w i.clock) i);
      batch = i.batch;
      verdicts = (tick_in w i).verdicts;
    }

-- and of an observer's call with both
abbrev pub listen_in_judging : Wider → Listening → Judging
listen_in_judging w i =
    record {
      setup = i.setup;
      asking = wider_observer_questions (along i.setup w i.clock) i.clock;
      hearing = wider_hear_one (along i.setup w i.clock) i.clock (wider_observer_questions (along i.setup w i.clock) i.clock);
      opening = wider_opening (along i.setup w i.clock) i.clock (wider_observer_opened (along i.setup w i.clock) i);
      batch = i.batch;
      verdicts = (listen_in w i).verdicts;
    }
