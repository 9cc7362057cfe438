-- The tick's answer in the model's terms.
-- Assumes nothing.
use Rattle.std.specs.Prelude.{List, ℕ}
use Rattle.model.specs.Tick.{Output}
use Rattle.model.specs.Tick as ticks
use Rattle.timestamp.specs.declared.stamp.Timestamp.{Timestamp}
use Rattle.timestamp.specs.Views.{stamp_of}
use Rattle.node.specs.declared.attending.Attended.{Attended}
use Rattle.node.specs.declared.ticking.Answer.{Answer}

abbrev pub answer_of : Answer → ticks.Answer
answer_of a =
    record {
      number = a.number;
      tables = stamp_of a.tables;
      repair = a.repair;
      taken = a.taken;
      delivered = a.delivered;
      sent = a.sent;
    }

-- the answer, and the buffers as the call left them
abbrev pub call_output : Answer → List ℕ → List ℕ → List ℕ → List ℕ → Output
call_output a holdback outgoing verdicts delivery =
    record {
      answer = answer_of a;
      holdback = holdback;
      outgoing = outgoing;
      verdicts = verdicts;
      delivery = delivery;
    }

-- where there is nothing to do: the stamp as it was, and all else 0
abbrev pub passed_over : Timestamp → Attended
passed_over t = record { stamp = t; repair = 0; taken = 0; delivered = 0 }
