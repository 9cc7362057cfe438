-- The published program, with clocks that never wrap: 000, section 4, Figure 2 and Equations 4.1 and 4.11 (002: Figure 1 and `less`).
-- It shares nothing with the tick but the plain tools on lists. As in 01 the window is −ε ≤ t < ε.
-- A clock w is named by w + ε, so that no offset is negative.
use Rattle.std.specs.Prelude.{ℕ, ◌+◌, ◌-◌, Bool, ◌&&◌, not, cond, List, [], ◌∷◌, ◌++◌, map, leb, eqb, get_or, set}
use Rattle.laws.specs.Lists.{tab, any, select, sort_by, largest}
use Rattle.laws.specs.Lex.{lex_compare, is_less}

-- ⟨r, c, kn⟩, the timestamp of an event; entry i of kn is kn[i − ε]
pub record Event : Type 0 where
  pub r : ℕ
  pub c : ℕ
  pub kn : List ℕ

-- a message carries the timestamp of its sending
pub record Message : Type 0 where
  pub sender : ℕ
  pub event : Event
  pub content : List ℕ

-- a process: the timestamp of its last event, the buffered messages, and all that it has received
pub record Process : Type 0 where
  pub number : ℕ
  pub last : Event
  pub buffer : List Message
  pub received : List Message

-- kn[t] where r + t is the clock named w, "0 if t < −ε or t ≥ ε"
unfoldable pub known : Event → ℕ → ℕ
known e w = cond (leb e.r w) (get_or e.kn (w - e.r) 0) 0

-- "r + c − rt"
unfoldable pub beyond : ℕ → Event → ℕ
beyond rt e = e.r + e.c - rt

-- "Initially": kn[0] is 1, every other entry 0
unfoldable pub initial : ℕ → ℕ → Event
initial epsilon rt = record { r = rt; c = 0; kn = tab (epsilon + epsilon) (λ i. cond (eqb i epsilon) 1 0) }

-- "c := max(0, r.j + c.j − rt.j, r.m + c.m − rt.j)", over every message received
unfoldable pub event_c : ℕ → List Event → ℕ
event_c rt causes = largest (map (beyond rt) causes)

-- "kn[t] := max(0, kn.j[t + rt.j − r.j], kn.m[t + rt.j − r.m])"
unfoldable pub event_kn : ℕ → ℕ → List Event → List ℕ
event_kn epsilon rt causes = tab (epsilon + epsilon) (λ i. largest (map (λ e. known e (rt + i)) causes))

-- "kn[0] := kn[0] + 1"
unfoldable pub counted : ℕ → List ℕ → List ℕ
counted epsilon kn = set kn epsilon (get_or kn epsilon 0 + 1)

-- an event at rt after the events that caused it: the last one of the process and the sendings of the messages received.
-- A local or send event has received none
unfoldable pub next_event : ℕ → ℕ → List Event → Event
next_event epsilon rt causes =
    record { r = rt; c = event_c rt causes; kn = counted epsilon (event_kn epsilon rt causes) }

-- Equation 4.1: ⟨r + c, kn[c], kn[c − 1], …, kn[c − ε + 1], j⟩
unfoldable pub rank : ℕ → Message → List ℕ
rank epsilon m =
    (m.event.r + m.event.c)
    ∷ (tab epsilon (λ k. get_or m.event.kn (epsilon + m.event.c - k) 0) ++ (m.sender ∷ []))

-- `less`: lexicographic comparison
unfoldable pub less : ℕ → Message → Message → Bool
less epsilon m m' = is_less (lex_compare (rank epsilon m) (rank epsilon m'))

-- "r.m + c.m + δ + ε", the due clock of a message
abbrev pub message_due : ℕ → ℕ → Message → ℕ
message_due epsilon delta m = m.event.r + m.event.c + delta + epsilon

-- Equation 4.11: delcond(m, j) = (rt.j = r.m + c.m + δ + ε)
unfoldable pub deliverable : ℕ → ℕ → ℕ → Message → Bool
deliverable epsilon delta rt m = eqb rt (message_due epsilon delta m)

-- 02, 2.2: "A message is handed out at the first tick at or past its due clock": a clock that moves by more than one may pass r + c + δ + ε.
-- (What is delivered leaves the buffer, so the first such event delivers it.)
unfoldable pub deliverable_by : ℕ → ℕ → ℕ → Message → Bool
deliverable_by epsilon delta rt m = leb (message_due epsilon delta m) rt

-- such a condition: ε, δ, the clock of the event, the message
abbrev pub Condition : Type 0
Condition = ℕ → ℕ → ℕ → Message → Bool

-- messages put in the order of `less`
unfoldable pub in_order : ℕ → List Message → List Message
in_order epsilon messages = sort_by (less epsilon) messages

-- a process sends one message at a clock, so sender and r tell a message
unfoldable pub same_message : Message → Message → Bool
same_message m m' = eqb m.sender m'.sender && eqb m.event.r m'.event.r

-- 01: "the published program passes over a repeat": what is new among the messages heard
unfoldable pub new_ones : List Message → List Message → List Message
new_ones seen [] = []
new_ones seen (m ∷ ms) = cond (any (same_message m) seen) (new_ones seen ms) (m ∷ new_ones (m ∷ seen) ms)

-- the event of a clock at which these messages are heard
unfoldable pub event_of : ℕ → ℕ → Process → List Message → Event
event_of epsilon rt p messages =
    next_event epsilon rt (p.last ∷ map (λ (m : Message). m.event) (new_ones p.received messages))

-- the messages that a process holds once it has heard these
unfoldable pub buffered : Process → List Message → List Message
buffered p messages = p.buffer ++ new_ones p.received messages

-- what it delivers then, at rt, by a condition; in the order of `less` what was due before comes first
unfoldable pub delivered_at : Condition → ℕ → ℕ → ℕ → Process → List Message → List Message
delivered_at delcond epsilon delta rt p messages = in_order epsilon (select (delcond epsilon delta rt) (buffered p messages))

-- the process after a clock at which it heard these messages
unfoldable pub advanced : Condition → ℕ → ℕ → ℕ → Process → List Message → Process
advanced delcond epsilon delta rt p messages =
    record {
      number = p.number;
      last = event_of epsilon rt p messages;
      buffer = select (λ m. not (delcond epsilon delta rt m)) (buffered p messages);
      received = p.received ++ new_ones p.received messages;
    }

-- the message that it sends at such a clock
unfoldable pub message_of : ℕ → ℕ → Process → List Message → List ℕ → Message
message_of epsilon rt p messages content =
    record { sender = p.number; event = event_of epsilon rt p messages; content = content }

-- a process at its start
unfoldable pub started : ℕ → ℕ → ℕ → Process
started epsilon number rt = record { number = number; last = initial epsilon rt; buffer = []; received = [] }
