-- 01, "The replay program": the text that it writes for the bytes that it reads. No contract can say what a program reads and writes; this is what it is built from.
use Rattle.std.specs.Prelude.{ℕ, zero, suc, cond, List, [], ◌++◌, eqb, length, take, drop, replicate}
use Rattle.model.specs.Setup.{verdict_length}
use Rattle.model.specs.Timestamp.{Timestamp, fresh, replaced, widened}
use Rattle.model.specs.Holdback.{encode_holdback}
use Rattle.model.specs.Tick.{Input, Output, holdback_size, tick}
use Rattle.trace.specs.Text.{lines_of, refused_line}
use Rattle.trace.specs.Trace.{
  NodeSetup,
  setup_length,
  largest_holdback,
  trace_setup,
  setup_number,
  count_length,
  tick_count,
  count_number,
  end_number,
  one_before,
  clock_of,
  payload_of,
  batch_of,
  send_of,
  tick_end,
  tick_number,
}

-- the call of a tick's bytes, with the tables and the hold-back queue as they stand, and buffers of zeros that have room for any setup
unfoldable pub call_of : NodeSetup → Timestamp → List ℕ → List ℕ → Input
call_of s tables holdback bytes =
    record {
      setup = s.setup;
      own = s.own;
      clock = clock_of bytes;
      tables = tables;
      holdback = holdback;
      batch = batch_of bytes;
      send = send_of bytes;
      payload = payload_of bytes;
      outgoing = replicate 71 0;
      verdicts = replicate verdict_length 0;
      delivery = replicate largest_holdback 0;
    }

-- what a tick comes to: 0 or the number of its refusal, what it leaves, what it sends, the verdicts, and its lines
pub record Turn : Type 0 where
  pub number : ℕ
  pub tables : Timestamp
  pub holdback : List ℕ
  -- how long the frame is that is sent, 0 if none, and the buffer in which it stands
  pub sent : ℕ
  pub outgoing : List ℕ
  pub verdicts : List ℕ
  pub text : List ℕ

-- the lines of a call that is not refused
abbrev pub text_by : ℕ → List ℕ → List ℕ
text_by zero lines = lines
text_by (suc k) lines = []

unfoldable pub called_turn : NodeSetup → Timestamp → List ℕ → List ℕ → Turn
called_turn s tables holdback bytes =
    let i : Input = call_of s tables holdback bytes in
    let o : Output = tick i in
    record {
      number = o.answer.number;
      tables = o.answer.tables;
      holdback = o.holdback;
      sent = o.answer.sent;
      outgoing = o.outgoing;
      verdicts = o.verdicts;
      text = text_by o.answer.number (lines_of i o);
    }

-- nothing is called: the buffers are zeros still
abbrev pub not_called : ℕ → Timestamp → List ℕ → Turn
not_called number tables holdback =
    record {
      number = number;
      tables = tables;
      holdback = holdback;
      sent = 0;
      outgoing = replicate 71 0;
      verdicts = replicate verdict_length 0;
      text = [];
    }

-- bytes that are not one tick are not called
abbrev pub turn_by : ℕ → NodeSetup → Timestamp → List ℕ → List ℕ → Turn
turn_by zero s tables holdback bytes = called_turn s tables holdback bytes
turn_by (suc k) s tables holdback bytes = not_called (suc k) tables holdback

-- 01: "each tick is read whole, called, and its lines printed"
unfoldable pub turn : NodeSetup → Timestamp → List ℕ → List ℕ → Turn
turn s tables holdback bytes = turn_by (tick_number bytes) s tables holdback bytes

-- 01: "On a refusal it prints `refused` and the number, and stops"
abbrev pub stopped : ℕ → List ℕ → List ℕ
stopped zero rest = rest
stopped (suc k) rest = refused_line (suc k)

-- 01: "It starts fresh one before the first clock"; the bytes are the first tick's
unfoldable pub fresh_before : NodeSetup → List ℕ → Timestamp
fresh_before s bytes = widened (fresh s.setup.epsilon (one_before s.setup.modulus (clock_of bytes)))

-- the tables with which a tick starts that has `i` ticks before it: the first starts fresh, a later one has those that the one before left
unfoldable pub tables_at : ℕ → NodeSetup → Timestamp → List ℕ → Timestamp
tables_at i s tables bytes = cond (eqb i 0) (fresh_before s bytes) tables

-- a tick that has `i` ticks before it
unfoldable pub turn_at : ℕ → NodeSetup → Timestamp → List ℕ → List ℕ → Turn
turn_at i s tables holdback bytes = turn s (tables_at i s tables bytes) holdback bytes

-- 01: "shelf empty": what is there before the first tick. Its tables are not looked at
unfoldable pub begun : NodeSetup → Turn
begun s = not_called 0 (widened (replaced s.setup.epsilon 0)) (encode_holdback (holdback_size s.setup) [])

-- the lines of `k` ticks that have `i` before them, of which `last` is the latest
unfoldable pub replay_ticks : NodeSetup → ℕ → ℕ → Turn → List ℕ → List ℕ
replay_ticks s i zero last bytes = stopped (end_number (length bytes)) []
replay_ticks s i (suc k) last bytes =
    let one : Turn = turn_at i s last.tables last.holdback (take (tick_end bytes) bytes) in
    one.text ++ stopped one.number (replay_ticks s (suc i) k one (drop (tick_end bytes) bytes))

-- all that follows the setup
unfoldable pub replay_from : NodeSetup → List ℕ → List ℕ
replay_from s bytes = stopped (count_number bytes) (replay_ticks s 0 (tick_count bytes) (begun s) (drop count_length bytes))

-- 01: "The setup is judged once read"
unfoldable pub replay : List ℕ → List ℕ
replay bytes = stopped (setup_number setup_length bytes) (replay_from (trace_setup bytes) (drop setup_length bytes))
