-- Demand 2: from any state, the codec, and from fresh stations.
use Rattle.std.specs.Prelude.{ℕ, ◌+◌, ◌-◌, ◌%◌, ◌≤◌, ◌<◌, ◌≡◌, Bool, true, false, cond, List, [], ◌∷◌, ◌++◌, map, ltb, eqb, length, take, drop, get_or, set, replicate}
use Rattle.std.proofs.Math.Option.{Option, none, some}
use Rattle.std.proofs.Math.ListN.{get_elem?}
use Rattle.laws.specs.Lists.{every, any, overlay}
use Rattle.model.specs.Setup.{Setup, width}
use Rattle.model.specs.Timestamp.{Timestamp, trimmed, widened, sound_clock, sound_tables}
use Rattle.model.specs.Frame.{Frame, encode, well_formed}
use Rattle.model.specs.Batch.{batch_entries}
use Rattle.model.specs.Holdback.{held_bytes, held, sound_holdback, encode_frames, encode_holdback}
use Rattle.model.specs.Question.{first_no}
use Rattle.model.specs.Codec.{ReadAnswer, WriteAnswer, read, write}
use Rattle.model.specs.Judge.{Asking, Heard, hear, judge_questions, observer_questions}
use Rattle.model.specs.Tick.{Input, holdback_size, least_due, opening, opening_in, sent_bytes, delivered_of, taken_count, tick}
use Rattle.model.specs.Observer.{Listening, observer_least, observer_opened, observer_delivered, listen}
use Rattle.model.specs.Published.{Event, Message, Process, Condition, deliverable, deliverable_by, in_order, same_message, new_ones, event_of, message_of, delivered_at, advanced, started}
use Rattle.model.specs.Run.{Node, Source, sent_by, stale, Call, Done, is_event, run_from, at_start}
use Rattle.theory.specs.NeverFull.{NeverFull}
use Rattle.theory.specs.Premises.{good_start, largest_clock, keeps, all_fresh, none_stale, steps_of_one}

-- what a tick has heard before its entry k
unfoldable pub heard_before : Input → ℕ → Heard
heard_before i k =
    hear i.setup i.clock (judge_questions i.setup i.clock) (opening i) (take k (batch_entries i.batch))

-- "each verdict is the number of the first check failed", or 0: one byte a frame, asked of the shelf as it is at that moment
abbrev pub FirstFailed : Asking → (ℕ → Heard) → List (List ℕ) → List ℕ → Type 0
FirstFailed asking before entries verdicts =
    (k : ℕ) (entry : List ℕ) → get_elem? entries k ≡ some entry → get_or verdicts k 0 ≡ first_no (asking (before k).queue entry)

-- From any state, of an accepted call
pub record AnyState (i : Input) : Type 0 where
  pub verdict : FirstFailed (judge_questions i.setup i.clock) (heard_before i) (batch_entries i.batch) (tick i).verdicts
  -- "(mend 1)", "(mend 2; both, mend 3)": 1 exactly if the tables are unsound for this clock, 2 exactly if the shelf is, after them, else 0
  pub repair :
      (tick i).answer.repair
      ≡ cond (sound_tables i.setup.n i.setup.epsilon i.setup.modulus i.clock (trimmed i.setup.epsilon i.tables)) 0 1
      + cond (sound_holdback i.setup i.clock (least_due i.setup i.clock i.tables) i.holdback) 0 2
  -- "the figures count what they say": taken counts the 0s, handed out the frames of the hand-out
  pub taken : (tick i).answer.taken ≡ taken_count (take (length (batch_entries i.batch)) (tick i).verdicts)
  pub delivered : (tick i).answer.delivered ≡ length (delivered_of i)
  -- and these are, byte for byte, the frames that are due
  pub delivery : held_bytes i.setup.epsilon (tick i).delivery ≡ map encode (delivered_of i)
  -- "outgoing length (0 if none)": the bytes of the frame sent, none where nothing is to be sent
  pub sent : (tick i).answer.sent ≡ length (sent_bytes i)
  pub outgoing : take (tick i).answer.sent (tick i).outgoing ≡ sent_bytes i
  -- "Stamps stay within their bounds after every tick": the tables are sound for every next clock 1 to ε ahead
  pub bounded :
      (k : ℕ) → 1 ≤ k → k ≤ i.setup.epsilon
      → sound_tables i.setup.n i.setup.epsilon i.setup.modulus ((i.clock + k) % i.setup.modulus)
      (trimmed i.setup.epsilon (tick i).answer.tables) ≡ true
  -- and so is the shelf, with each stamp on it: "each frame is due after the last clock", which lies k before the next
  pub bounded_queue :
      (k : ℕ) → 1 ≤ k → k ≤ i.setup.epsilon
      → sound_holdback i.setup ((i.clock + k) % i.setup.modulus) (i.setup.modulus + 1 - k) (tick i).holdback ≡ true
  -- 02, 2.7: it has a place for every frame that is judged
  pub never_full : NeverFull i.setup (heard_before i)

-- Demand 2 from any state, of every accepted call
abbrev pub Demand2Any : Type 0
Demand2Any = (i : Input) → (tick i).answer.number ≡ 0 → AnyState i

-- 02, 2.6: what an observer's call has heard before its entry k
unfoldable pub observed_before : Listening → ℕ → Heard
observed_before i k =
    hear i.setup i.clock (observer_questions i.setup i.clock) (opening_in i.setup i.clock (observer_opened i)) (take k (batch_entries i.batch))

-- From any state, of an accepted call of an observer: the same, by its own questions, for its last clock in place of the tables
pub record AnyObserver (i : Listening) : Type 0 where
  pub verdict : FirstFailed (observer_questions i.setup i.clock) (observed_before i) (batch_entries i.batch) (listen i).verdicts
  -- 1 exactly if the last clock is unsound for this clock, 2 exactly if the shelf is, after it, else 0
  pub repair :
      (listen i).repair
      ≡ cond (sound_clock i.setup.epsilon i.setup.modulus i.clock i.last) 0 1
      + cond (sound_holdback i.setup i.clock (observer_least i) i.holdback) 0 2
  pub taken : (listen i).taken ≡ taken_count (take (length (batch_entries i.batch)) (listen i).verdicts)
  pub delivered : (listen i).delivered ≡ length (observer_delivered i)
  pub delivery : held_bytes i.setup.epsilon (listen i).delivery ≡ map encode (observer_delivered i)
  -- the last clock is this call's, and sound for every next clock 1 to ε ahead
  pub last : (listen i).last ≡ i.clock
  pub bounded :
      (k : ℕ) → 1 ≤ k → k ≤ i.setup.epsilon
      → sound_clock i.setup.epsilon i.setup.modulus ((i.clock + k) % i.setup.modulus) (listen i).last ≡ true
  -- and so is the shelf
  pub bounded_queue :
      (k : ℕ) → 1 ≤ k → k ≤ i.setup.epsilon
      → sound_holdback i.setup ((i.clock + k) % i.setup.modulus) (i.setup.modulus + 1 - k) (listen i).holdback ≡ true
  pub never_full : NeverFull i.setup (observed_before i)

-- of every accepted call of an observer
abbrev pub Demand2Observer : Type 0
Demand2Observer = (i : Listening) → (listen i).number ≡ 0 → AnyObserver i

-- bytes: numbers below 256
unfoldable pub are_bytes : List ℕ → Bool
are_bytes bytes = every (λ b. ltb b 256) bytes

-- a frame of 2ε counts
unfoldable pub has_width : ℕ → Frame → Bool
has_width epsilon f = eqb (length f.stamp.kn) (width epsilon)

-- a codec: its reader and its writer, and how it lays down a shelf and a hand-out
pub record Codec : Type 0 where
  pub epsilon : ℕ
  pub read : List ℕ → ReadAnswer
  pub write : ℕ → Timestamp → List ℕ → List ℕ → WriteAnswer
  -- the frames that it can lay down, and the bytes that it takes for a frame's
  pub fits : Frame → Bool
  pub formed : List ℕ → Bool
  -- the frames of a shelf or a hand-out, by their bytes, and what these hold
  pub cut : List ℕ → List (List ℕ)
  pub held : List ℕ → List Frame
  -- the hand-out of frames, and the shelf of this length
  pub delivery : List Frame → List ℕ
  pub holdback : ℕ → List Frame → List ℕ
  pub size : ℕ
  -- a shelf is sound for a clock, with the least due clock allowed
  pub sound : ℕ → ℕ → List ℕ → Bool

-- "the codec round-trips": the frame, the shelf and the hand-out
pub record RoundTrips (c : Codec) : Type 0 where
  -- a written frame reads back the same; the places past the 2ε counts come back 0
  pub frame_read :
      (station : ℕ) (t : Timestamp) (payload buffer : List ℕ) → (c.write station t payload buffer).number ≡ 0
      → c.read (take (c.write station t payload buffer).size (c.write station t payload buffer).buffer)
      ≡ record { number = 0; station = station; stamp = widened (trimmed c.epsilon t); payload = payload }
  -- an accepted frame is the one that the writer makes of its contents, in any buffer that is long enough
  pub frame_written :
      (bytes buffer : List ℕ) → are_bytes bytes ≡ true → (c.read bytes).number ≡ 0 → length bytes ≤ length buffer
      → c.write (c.read bytes).station (c.read bytes).stamp (c.read bytes).payload buffer
      ≡ record { number = 0; size = length bytes; buffer = overlay bytes buffer }
  -- a shelf holds the frames of which it was made
  pub holdback_read :
      (size : ℕ) (queue : List Frame) → every c.fits queue ≡ true → length queue < 65536 → c.held (c.holdback size queue) ≡ queue
  -- a sound shelf with zeros behind its frames is what is made of these frames
  pub holdback_written :
      (v least : ℕ) (bytes : List ℕ) → length bytes ≡ c.size → are_bytes bytes ≡ true → c.sound v least bytes ≡ true
      → drop (length (c.delivery (c.held bytes))) bytes ≡ replicate (c.size - length (c.delivery (c.held bytes))) 0
      → c.holdback c.size (c.held bytes) ≡ bytes
  -- a hand-out holds the frames of which it was made, whatever the buffer held
  pub delivery_read :
      (queue : List Frame) (old : List ℕ) → every c.fits queue ≡ true → length queue < 65536
      → c.held (overlay (c.delivery queue) old) ≡ queue
  -- bytes that hold well-formed frames begin with the hand-out that is made of these frames
  pub delivery_written :
      (bytes : List ℕ) → 2 ≤ length bytes → are_bytes bytes ≡ true → every c.formed (c.cut bytes) ≡ true
      → overlay (c.delivery (c.held bytes)) bytes ≡ bytes

-- a station's
abbrev pub station_codec : Setup → ℕ → Codec
station_codec s own =
    record {
      epsilon = s.epsilon;
      read = read s own;
      write = λ station t payload buffer. write s own station t payload buffer;
      fits = has_width s.epsilon;
      formed = well_formed s.epsilon;
      cut = held_bytes s.epsilon;
      held = held s.epsilon;
      delivery = encode_frames;
      holdback = encode_holdback;
      size = holdback_size s;
      sound = sound_holdback s;
    }

-- Demand 2, the codec, of every setup and own number
abbrev pub Demand2Codec : Type 0
Demand2Codec = (s : Setup) (own : ℕ) → RoundTrips (station_codec s own)

-- The published program, run over the same calls: the process of each station, and for each call made the message that it sent, if any
pub record Published : Type 0 where
  pub processes : List Process
  pub sent : List (Option Message)

-- the message that an entry is from, if it is from one, before the rest
abbrev pub messages_from : Option (Option Message) → List Message → List Message
messages_from none rest = rest
messages_from (some none) rest = rest
messages_from (some (some m)) rest = m ∷ rest

-- the messages that the entries of a call come from, in the bundle's order
unfoldable pub messages_heard : List (Option Message) → List Source → List Message
messages_heard sent [] = []
messages_heard sent (sent_by k ∷ os) = messages_from (get_elem? sent k) (messages_heard sent os)
messages_heard sent (stale ∷ os) = messages_heard sent os

-- 01: "verdict 0" for a message that is new to the process, 16 for a repeat, which it passes over; in the order heard
unfoldable pub verdicts_on : List Message → List Message → List ℕ
verdicts_on seen [] = []
verdicts_on seen (m ∷ ms) = cond (any (same_message m) seen) (16 ∷ verdicts_on seen ms) (0 ∷ verdicts_on (m ∷ seen) ms)

-- what one call makes of a process of the published program: the messages that are new to it and the verdicts on all that it hears,
-- its event, the message that it would send with the call's payload, what it delivers, and what it still holds
pub record Outcome : Type 0 where
  pub new_messages : List Message
  pub verdicts : List ℕ
  pub last : Event
  pub message : Message
  pub delivered : List Message
  pub buffer : List Message

-- the same for a call for a clock, with the messages that its entries come from, by a condition of delivery
unfoldable pub outcome_of : Condition → Setup → List (Option Message) → Process → ℕ → Call → Outcome
outcome_of delcond s sent p clock call =
    record {
      new_messages = new_ones p.received (messages_heard sent call.sources);
      verdicts = verdicts_on p.received (messages_heard sent call.sources);
      last = event_of s.epsilon clock p (messages_heard sent call.sources);
      message = message_of s.epsilon clock p (messages_heard sent call.sources) call.payload;
      delivered = delivered_at delcond s.epsilon s.delta clock p (messages_heard sent call.sources);
      buffer = (advanced delcond s.epsilon s.delta clock p (messages_heard sent call.sources)).buffer;
    }

-- an accepted call is an event of its process, a refused one is none, nor is an observer's
abbrev pub publish_on : Condition → Setup → Published → Done → Bool → Option Process → Published
publish_on delcond s w d event none = record { processes = w.processes; sent = w.sent ++ (none ∷ []) }
publish_on delcond s w d false (some p) = record { processes = w.processes; sent = w.sent ++ (none ∷ []) }
publish_on delcond s w d true (some p) =
    record {
      processes =
          set w.processes d.node
          (advanced delcond s.epsilon s.delta d.clock p (messages_heard w.sent d.call.sources));
      sent = w.sent ++ (cond d.call.send (some (outcome_of delcond s w.sent p d.clock d.call).message) none ∷ []);
    }

-- what a call makes of the published program
unfoldable pub publish : Condition → Setup → Published → Done → Published
publish delcond s w d = publish_on delcond s w d (is_event d) (get_elem? w.processes d.node)

-- what a list of calls makes of it
unfoldable pub publish_all : Condition → Setup → Published → List Done → Published
publish_all delcond s w [] = w
publish_all delcond s w (d ∷ ds) = publish_all delcond s (publish delcond s w d) ds

-- the published program's processes, fresh at the stations' clocks; that of an observer has no event
unfoldable pub published_start : Setup → List Node → Published
published_start s nodes =
    record { processes = map (λ (node : Node). started s.epsilon node.own node.clock) nodes; sent = [] }

-- "reduced modulo B": the timestamp of an event
unfoldable pub reduced : ℕ → Event → Timestamp
reduced modulus e = record { r = e.r % modulus; c = e.c; kn = e.kn }

-- "reduced modulo B": the frame of a message
unfoldable pub reduced_frame : ℕ → Message → Frame
reduced_frame modulus m = record { station = m.sender; stamp = reduced modulus m.event; payload = m.content }

-- "every tick does exactly what the published program does with clocks that never wrap, reduced modulo B"
pub record SameAs (s : Setup) (o : Outcome) (d : Done) : Type 0 where
  -- the tables are the stamp of the process's event, and there was nothing to mend
  pub tables : d.output.answer.tables ≡ widened (reduced s.modulus o.last)
  pub repair : d.output.answer.repair ≡ 0
  -- each message heard is taken once: "the published program passes over a repeat"
  pub taken : d.output.answer.taken ≡ length o.new_messages
  -- the verdict bytes: 0 for what is new to the process, 16 for a repeat; "Bytes beyond those written stay"
  pub verdicts : d.output.verdicts ≡ overlay o.verdicts d.call.verdicts
  -- the shelf is what the process still holds, in order, then zeros
  pub holdback :
      d.output.holdback
      ≡ encode_holdback (holdback_size s) (map (reduced_frame s.modulus) (in_order s.epsilon o.buffer))
  -- the outgoing frame is the process's message, if a ticket is to be sent
  pub outgoing :
      d.output.outgoing
      ≡ overlay (cond d.call.send (encode (reduced_frame s.modulus o.message)) []) d.call.outgoing
  pub sent :
      d.output.answer.sent ≡ length (cond d.call.send (encode (reduced_frame s.modulus o.message)) [])
  -- the hand-out is what the process delivers
  pub delivery :
      d.output.delivery ≡ overlay (encode_frames (map (reduced_frame s.modulus) o.delivered)) d.call.delivery
  pub delivered : d.output.answer.delivered ≡ length o.delivered

-- the process of the call's station, as the calls before it left it, does the same
abbrev pub Matched : Condition → Setup → Published → Done → Type 0
Matched delcond s w d =
    (p : Process) × (get_elem? w.processes d.node ≡ some p) × SameAs s (outcome_of delcond s w.sent p d.clock d.call) d

-- the published program after the first j calls
abbrev pub published_after : Condition → Setup → List Node → List Call → ℕ → Published
published_after delcond s nodes calls j =
    publish_all delcond s (published_start s nodes) (take j (run_from (at_start nodes) calls).past)

-- From fresh stations: of every accepted call of a station in the list, which may have observers too. 02, 2.2: the published program "that delivers at the first event at or past"
abbrev pub Demand2Fresh : Type 0
Demand2Fresh =
    (s : Setup) (nodes : List Node) (calls : List Call) → good_start s nodes ≡ true → all_fresh s nodes ≡ true
    → keeps s (largest_clock nodes) (at_start nodes) calls ≡ true → none_stale (run_from (at_start nodes) calls).past ≡ true
    → (j : ℕ) (d : Done) → get_elem? (run_from (at_start nodes) calls).past j ≡ some d → is_event d ≡ true
    → Matched deliverable_by s (published_after deliverable_by s nodes calls j) d

-- Where all steps are one this is Equation 4.11's program: both have done the same after any number of these calls
abbrev pub OneProgram : Type 0
OneProgram =
    (s : Setup) (nodes : List Node) (calls : List Call) → good_start s nodes ≡ true → all_fresh s nodes ≡ true
    → keeps s (largest_clock nodes) (at_start nodes) calls ≡ true → none_stale (run_from (at_start nodes) calls).past ≡ true
    → steps_of_one (run_from (at_start nodes) calls).past ≡ true
    → (j : ℕ) → published_after deliverable s nodes calls j ≡ published_after deliverable_by s nodes calls j

-- and so every tick does what Equation 4.11's program does, as 01 has it
abbrev pub Demand2Ones : Type 0
Demand2Ones =
    (s : Setup) (nodes : List Node) (calls : List Call) → good_start s nodes ≡ true → all_fresh s nodes ≡ true
    → keeps s (largest_clock nodes) (at_start nodes) calls ≡ true → none_stale (run_from (at_start nodes) calls).past ≡ true
    → steps_of_one (run_from (at_start nodes) calls).past ≡ true
    → (j : ℕ) (d : Done) → get_elem? (run_from (at_start nodes) calls).past j ≡ some d → is_event d ≡ true
    → Matched deliverable s (published_after deliverable s nodes calls j) d
