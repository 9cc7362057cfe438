-- 02, 2.13: what is shown of the figures. Assumes nothing.
use Rattle.std.specs.Prelude.{ℕ, ◌-◌, ◌≤◌, ◌<◌, ◌≡◌, Bool, true, cond, List, [], eqb, ltb, length, drop, get_or}
use Rattle.laws.specs.Lists.{tab, every, select, joined, fold_left}
use Rattle.model.specs.Batch.{batch_entries}
use Rattle.model.specs.Tick.{Input, tick}
use Rattle.model.specs.Observer.{Listening, listen}
use Rattle.model.specs.Schedule.{Wider}
use Rattle.model.specs.Wider.{tick_in}
use Rattle.model.specs.WiderCalls.{listen_in}
use Rattle.model.specs.Figures.{column_of, columns_of, times_in, figure_columns, last_ticks, figures_size, total_at, empty_figures, keep_figures}
use Rattle.verdicts.specs.Judging.{Judging, judged_number, tick_judging, listen_judging, tick_in_judging, listen_in_judging}

-- 02: "the last 256 … (or all, if fewer)"
unfoldable pub latest : {A : Type 0} → List A → List A
latest l = drop (length l - last_ticks) l

-- 02: "must equal a fresh count over those ticks": in each column, how many frames of the last of them are counted there
abbrev pub FreshOver : {A : Type 0} → (A → List ℕ) → List A → List ℕ → Type 0
FreshOver counted calls figures =
    (column : ℕ) → column < figure_columns → total_at figures column ≡ times_in (joined counted (latest calls)) column

-- what is lent are bytes
abbrev pub of_bytes : List ℕ → Bool
of_bytes lent = every (λ x. ltb x 256) lent

-- ---- any calls of the figures

-- what one is handed beside the figures
pub record Report : Type 0 where
  pub n : ℕ
  pub batch : List ℕ
  pub verdicts : List ℕ

-- the figures after it, whatever it answers
unfoldable pub after_report : List ℕ → Report → List ℕ
after_report figures c = (keep_figures c.n c.batch c.verdicts figures).figures

-- it is accepted, on figures of the right length
unfoldable pub accepted : Report → Bool
accepted c = eqb (keep_figures c.n c.batch c.verdicts empty_figures).number 0

-- where each of its frames is counted
unfoldable pub counted_in : Report → List ℕ
counted_in c = columns_of c.n (batch_entries c.batch) c.verdicts

-- 02: "from empty figures on": after any list of calls the totals are a fresh count over the accepted ones, whatever n each has
abbrev pub CountsFromEmpty : Type 0
CountsFromEmpty =
    (calls : List Report) → every (λ c. of_bytes c.batch) calls ≡ true
    → FreshOver counted_in (select accepted calls) (fold_left after_report empty_figures calls)

-- from any bytes they are once 256 calls were accepted: by then they were counted afresh, and every row is one of theirs
abbrev pub CountsFromAnyBytes : Type 0
CountsFromAnyBytes =
    (figures : List ℕ) (calls : List Report) → length figures ≡ figures_size → of_bytes figures ≡ true
    → every (λ c. of_bytes c.batch) calls ≡ true → last_ticks ≤ length (select accepted calls)
    → FreshOver counted_in (select accepted calls) (fold_left after_report figures calls)

-- ---- the calls of a board

-- a tick or, 2.6, a listener's call, and, 2.10, either with both pairs of limits, from any state, sound or to be mended: the limits of one call need
-- not be those of the one before
pub data JudgingCall : Type 0 where
  by_tick : Input → JudgingCall
  by_listener : Listening → JudgingCall
  by_tick_in : Wider → Input → JudgingCall
  by_listener_in : Wider → Listening → JudgingCall

-- its judgements
abbrev pub judging_of : JudgingCall → Judging
judging_of (by_tick i) = tick_judging i
judging_of (by_listener i) = listen_judging i
judging_of (by_tick_in w i) = tick_in_judging w i
judging_of (by_listener_in w i) = listen_in_judging w i

-- what it answers
abbrev pub number_of : JudgingCall → ℕ
number_of (by_tick i) = (tick i).answer.number
number_of (by_listener i) = (listen i).number
number_of (by_tick_in w i) = (tick_in w i).answer.number
number_of (by_listener_in w i) = (listen_in w i).number

unfoldable pub is_accepted : JudgingCall → Bool
is_accepted c = eqb (number_of c) 0

-- what the figures are handed after it
abbrev pub report_of : JudgingCall → Report
report_of c = record { n = (judging_of c).setup.n; batch = (judging_of c).batch; verdicts = (judging_of c).verdicts }

-- 02: "A frame refused by 10 or with a station not below n …": where the entry at a position is counted by its judgement, not by a verdict byte
unfoldable pub judged_column : Judging → List (List ℕ) → ℕ → ℕ
judged_column j entries position =
    column_of j.setup.n (judged_number j position (get_or entries position [])) (get_or (get_or entries position []) 1 0)

-- 02: "how many of its frames were taken and how many refused": of all entries
unfoldable pub judged_in : JudgingCall → List ℕ
judged_in c = tab (length (batch_entries (judging_of c).batch)) (judged_column (judging_of c) (batch_entries (judging_of c).batch))

-- the figures after an accepted call are called with its batch and verdicts, after a refused one not at all
unfoldable pub after_call : List ℕ → JudgingCall → List ℕ
after_call figures c = cond (is_accepted c) (after_report figures (report_of c)) figures

-- an accepted call's figures are accepted, and count its own judgements, from any state
pub record Counted (c : JudgingCall) : Type 0 where
  pub taken_in : accepted (report_of c) ≡ true
  pub as-judged : counted_in (report_of c) ≡ judged_in c

abbrev pub CountsOwnJudgements : Type 0
CountsOwnJudgements = (c : JudgingCall) → is_accepted c ≡ true → Counted c

-- 02: "For each station keep, from empty figures on, over its yard's last 256 accepted ticks (or all, if fewer), how many of its frames were taken
-- and how many refused … A mended tick counts like any other; swapping limits under 2.10 doesn't clear them"
abbrev pub CountsTicks : Type 0
CountsTicks =
    (calls : List JudgingCall) → every (λ c. of_bytes (judging_of c).batch) calls ≡ true
    → FreshOver judged_in (select is_accepted calls) (fold_left after_call empty_figures calls)

-- and from any bytes after 256 of them
abbrev pub CountsTicksFromAnyBytes : Type 0
CountsTicksFromAnyBytes =
    (figures : List ℕ) (calls : List JudgingCall) → length figures ≡ figures_size → of_bytes figures ≡ true
    → every (λ c. of_bytes (judging_of c).batch) calls ≡ true → last_ticks ≤ length (select is_accepted calls)
    → FreshOver judged_in (select is_accepted calls) (fold_left after_call figures calls)
