-- 01, "The replay program": what it reads, from bytes to the arguments of a call. A byte that is missing reads as 0.
use Rattle.std.specs.Prelude.{ℕ, zero, suc, ◌+◌, ◌-◌, Bool, ◌&&◌, cond, List, [], ◌∷◌, leb, eqb, length, take, drop, get_or}
use Rattle.model.specs.Setup.{Setup, in_limits, is_member}
use Rattle.model.specs.Frame.{two_at}
use Rattle.model.specs.Question.{ask, first_no}
use Rattle.model.specs.Tick.{holdback_size}

-- ---- the setup

-- 01: "n, ε, δ, B (two bytes), own number"
abbrev pub setup_length : ℕ
setup_length = 6

-- the group's setup, and a node's own number
pub record NodeSetup : Type 0 where
  pub setup : Setup
  pub own : ℕ

unfoldable pub trace_setup : List ℕ → NodeSetup
trace_setup s =
    record {
      setup = record { n = get_or s 0 0; epsilon = get_or s 1 0; delta = get_or s 2 0; modulus = two_at s 3 };
      own = get_or s 5 0;
    }

-- both are in their limits
abbrev pub is_valid : NodeSetup → Bool
is_valid s = in_limits s.setup && is_member s.setup s.own

-- 01: "a shelf above 65,536 bytes"; here the hold-back queue
abbrev pub largest_holdback : ℕ
largest_holdback = 65536

-- 01: "A cut … trace … gets 5"; "a shelf above 65,536 bytes counts as setup 1". 0 for a setup of that many bytes with which the ticks can
-- start
unfoldable pub setup_number : ℕ → List ℕ → ℕ
setup_number size s =
    first_no
    (ask (leb size (length s)) 5
    ∷ ask (is_valid (trace_setup s)) 1
    ∷ ask (leb (holdback_size (trace_setup s).setup) largest_holdback) 1
    ∷ [])

-- 01: "a two-byte count of ticks"
abbrev pub count_length : ℕ
count_length = 2

unfoldable pub tick_count : List ℕ → ℕ
tick_count s = two_at s 0

-- 01: "A cut … trace … gets 5": 0 where the count of ticks is there
unfoldable pub count_number : List ℕ → ℕ
count_number s = first_no (ask (leb count_length (length s)) 5 ∷ [])

-- 01: "A … overlong trace … gets 5", by how many bytes more there are after the last tick
unfoldable pub end_number : ℕ → ℕ
end_number more = first_no (ask (eqb more 0) 5 ∷ [])

-- 01: "It starts fresh one before the first clock": modulo B, where the clock is below B
unfoldable pub one_before : ℕ → ℕ → ℕ
one_before modulus clock = cond (eqb clock 0) (modulus - 1) (clock - 1)

-- ---- one tick, at the start of `s`
-- 01: "per tick the clock (two bytes), 1 or 0 for send, a ticket count and ticket (not sent on 0), a bundle"

unfoldable pub clock_of : List ℕ → ℕ
clock_of s = two_at s 0

unfoldable pub send_byte : List ℕ → ℕ
send_byte s = get_or s 2 0

-- 01: a "ticket count"; here the payload
unfoldable pub payload_size : List ℕ → ℕ
payload_size s = get_or s 3 0

unfoldable pub payload_of : List ℕ → List ℕ
payload_of s = take (payload_size s) (drop 4 s)

-- where the batch (01: bundle) starts
unfoldable pub batch_at : List ℕ → ℕ
batch_at s = 4 + payload_size s

-- how many bytes the next `k` entries of a batch take up, by the length bytes in `s`; a length that is not there counts as 0
unfoldable pub entries_size : ℕ → List ℕ → ℕ
entries_size zero s = 0
entries_size (suc k) s = 1 + get_or s 0 0 + entries_size k (drop (1 + get_or s 0 0) s)

-- where the tick ends, by the length bytes in `s`. Where `s` is cut short, this is still the least length that the whole tick can have
unfoldable pub tick_end : List ℕ → ℕ
tick_end s = batch_at s + 1 + entries_size (get_or s (batch_at s) 0) (drop (batch_at s + 1) s)

-- the length of the longest tick: a payload of 255 bytes, and a batch of 255 entries of 255 bytes each
abbrev pub longest_tick : ℕ
longest_tick = 65540

unfoldable pub batch_of : List ℕ → List ℕ
batch_of s = take (tick_end s - batch_at s) (drop (batch_at s) s)

-- 01: "A cut or overlong trace, or a send byte other than 0 or 1, gets 5": 0 where `s` is one tick
unfoldable pub tick_number : List ℕ → ℕ
tick_number s = first_no (ask (eqb (tick_end s) (length s)) 5 ∷ ask (leb (send_byte s) 1) 5 ∷ [])

-- 01: "1 or 0 for send"
unfoldable pub send_of : List ℕ → Bool
send_of s = eqb (send_byte s) 1
