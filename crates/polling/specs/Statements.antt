-- 02, 2.5: what is shown of the poll and of the calls before and after it, a station's ticks or an observer's calls. Assumes nothing.
use Rattle.std.specs.Prelude.{ℕ, ◌+◌, ◌%◌, ◌≤◌, ◌<◌, ◌≡◌, true, List}
use Rattle.model.specs.Setup.{Setup}
use Rattle.model.specs.Timestamp.{Timestamp}
use Rattle.model.specs.Frame.{Frame}
use Rattle.model.specs.Holdback.{sound_holdback}
use Rattle.model.specs.Tick.{Input, kept_of, tick}
use Rattle.model.specs.Observer.{Listening, observer_kept, listen}
use Rattle.model.specs.Poll.{next_due, number_within, poll}

-- a call for v: what it is given and what it leaves of all that is kept between calls, A beside the shelf; the frames that stay on the shelf; and
-- what it answers
pub record NodeCall (A : Type 0) : Type 0 where
  pub setup : Setup
  pub clock : ℕ
  pub given : A
  pub left : A
  -- 01: the shelf
  pub holdback : List ℕ
  pub holdback_left : List ℕ
  pub kept : List Frame
  pub number : ℕ
  pub taken : ℕ
  pub delivered : ℕ

-- a station keeps its tables
abbrev pub tick_call : Input → NodeCall Timestamp
tick_call i =
    record {
      setup = i.setup;
      clock = i.clock;
      given = i.tables;
      left = (tick i).answer.tables;
      holdback = i.holdback;
      holdback_left = (tick i).holdback;
      kept = kept_of i;
      number = (tick i).answer.number;
      taken = (tick i).answer.taken;
      delivered = (tick i).answer.delivered;
    }

-- 02, 2.6: an observer "keeps its last clock"
abbrev pub listen_call : Listening → NodeCall ℕ
listen_call i =
    record {
      setup = i.setup;
      clock = i.clock;
      given = i.last;
      left = (listen i).last;
      holdback = i.holdback;
      holdback_left = (listen i).holdback;
      kept = observer_kept i;
      number = (listen i).number;
      taken = (listen i).taken;
      delivered = (listen i).delivered;
    }

-- what the poll at v makes of the shelf that a call for v has left: it is sound for it, and the answer is about every frame on it
pub record Told (A : Type 0) (i : NodeCall A) (own d : ℕ) : Type 0 where
  pub sound : sound_holdback i.setup i.clock (i.setup.modulus + 1) i.holdback_left ≡ true
  pub answer :
      poll i.setup own i.clock d i.holdback_left
      ≡ record { number = 0; next = next_due i.setup i.clock i.kept; within = number_within i.setup i.clock d i.kept }

-- after any accepted tick for v the shelf is sound for the poll at v
abbrev pub PollsWhatIsLeft : Type 0
PollsWhatIsLeft = (i : Input) (d : ℕ) → (tick i).answer.number ≡ 0 → Told Timestamp (tick_call i) i.own d

-- and so it is after an observer's call. An observer has no own number; the poll asks for one, and any below n will do
abbrev pub PollsWhatObserversLeave : Type 0
PollsWhatObserversLeave = (i : Listening) (own d : ℕ) → own < i.setup.n → (listen i).number ≡ 0 → Told ℕ (listen_call i) own d

-- j is the call k clocks after i, with what i left
pub record Follows (A : Type 0) (i j : NodeCall A) (k : ℕ) : Type 0 where
  pub setup : j.setup ≡ i.setup
  pub clock : j.clock ≡ (i.clock + k) % i.setup.modulus
  pub given : j.given ≡ i.left
  pub holdback : j.holdback ≡ i.holdback_left

-- the poll foretells the next call: one for v + k, k from 1 to ε, that takes no frame hands out as many as the poll at v gives for k
abbrev pub Foretells : (A : Type 0) → ℕ → ℕ → NodeCall A → NodeCall A → Type 0
Foretells A own k i j =
    i.number ≡ 0 → j.number ≡ 0 → Follows A i j k → 1 ≤ k → k ≤ i.setup.epsilon
    → j.taken ≡ 0 → j.delivered ≡ (poll i.setup own i.clock k i.holdback_left).within

-- of a station
abbrev pub PollForetells : Type 0
PollForetells = (i j : Input) (k : ℕ) → Foretells Timestamp i.own k (tick_call i) (tick_call j)

-- of an observer
abbrev pub PollForetellsObservers : Type 0
PollForetellsObservers = (i j : Listening) (own k : ℕ) → own < i.setup.n → Foretells ℕ own k (listen_call i) (listen_call j)
