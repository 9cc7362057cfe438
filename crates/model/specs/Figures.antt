-- 02, 2.13: "How well do we hear each other?", kept by one call after each accepted tick, or listener's call, with its batch and verdicts.
use Rattle.std.specs.Prelude.{ℕ, zero, suc, ◌+◌, ◌*◌, ◌-◌, ◌%◌, ◌||◌, cond, List, [], ◌∷◌, ◌++◌, leb, eqb, length, take, drop, get_or, set, replicate}
use Rattle.laws.specs.Lists.{tab, within, select, joined}
use Rattle.model.specs.Frame.{two_bytes, two_at}
use Rattle.model.specs.Batch.{batch_entries}
use Rattle.model.specs.Question.{Question, ask, first_no}
use Rattle.model.specs.Verdicts.{verdict_questions}

-- 02: "For each station … how many of its frames were taken and how many refused under each of 11 to 16": seven figures, the taken first
unfoldable pub figure_of : ℕ → ℕ
figure_of number = cond (eqb number 0) 0 (number - 10)

-- 02: "a line of its own", behind those of 16 stations
abbrev pub own_column : ℕ
own_column = 112

-- all columns
abbrev pub figure_columns : ℕ
figure_columns = 113

-- 02: "A frame refused by 10 or with a station not below n goes to a line of its own": the column in which a judged frame is counted
unfoldable pub column_of : ℕ → ℕ → ℕ → ℕ
column_of n number station = cond (eqb number 10 || leb n station) own_column (7 * station + figure_of number)

-- the column of the entry at a position, by the verdict buffer. A frame's station is its byte 1; a missing byte reads as 0
unfoldable pub column_at : ℕ → List (List ℕ) → List ℕ → ℕ → ℕ
column_at n entries verdicts position = column_of n (get_or verdicts position 0) (get_or (get_or entries position []) 1 0)

-- the columns of all entries of a batch
unfoldable pub columns_of : ℕ → List (List ℕ) → List ℕ → List ℕ
columns_of n entries verdicts = tab (length entries) (column_at n entries verdicts)

-- 02: "how many": the frames that are counted in a column
unfoldable pub times_in : List ℕ → ℕ → ℕ
times_in columns column = length (select (eqb column) columns)

-- a tick's row: how many of its frames are counted in each column
unfoldable pub row_of : List ℕ → List ℕ
row_of columns = tab figure_columns (times_in columns)

-- 02: "its yard's last 256 accepted ticks"
abbrev pub last_ticks : ℕ
last_ticks = 256

-- 02: what is kept "as ticks come and go"
pub record Figures : Type 0 where
  -- where the next tick's row goes
  pub position : ℕ
  -- what is told of each column
  pub totals : List ℕ
  -- a row of each of the last ticks
  pub rows : List (List ℕ)

-- 02: "a fresh count over those ticks": in a column, over all rows
unfoldable pub fresh_total : List (List ℕ) → ℕ → ℕ
fresh_total [] column = 0
fresh_total (row ∷ rows) column = get_or row column 0 + fresh_total rows column

-- 02: "as ticks come and go": in a column, what a tick that goes had there is taken off, and what the one that comes has is added. A total is two bytes
unfoldable pub moved_total : ℕ → ℕ → ℕ → ℕ
moved_total total goes comes = (total + (65536 - goes) + comes) % 65536

-- the position goes on, and is 0 again after 256 ticks
unfoldable pub next_position : ℕ → ℕ
next_position position = (position + 1) % last_ticks

-- the tick's row takes the place of the one at the position, the totals follow; where the position is 0 again they are counted afresh
unfoldable pub kept_row : Figures → List ℕ → Figures
kept_row f row =
    let rows : List (List ℕ) = set f.rows f.position row in
    record {
      position = next_position f.position;
      totals =
          tab figure_columns (λ column. cond (eqb (next_position f.position) 0) (fresh_total rows column)
          (moved_total (get_or f.totals column 0) (get_or (get_or f.rows f.position []) column 0) (get_or row column 0)));
      rows = rows;
    }

-- rows that stand one behind the other
unfoldable pub rows_in : ℕ → List ℕ → List (List ℕ)
rows_in zero s = []
rows_in (suc k) s = take figure_columns s ∷ rows_in k (drop figure_columns s)

-- where they stand: behind the position, one byte, and the totals, two bytes each
abbrev pub rows_at : ℕ
rows_at = 227

abbrev pub figures_size : ℕ
figures_size = 29155

-- the figures that stand in bytes
unfoldable pub total_at : List ℕ → ℕ → ℕ
total_at s column = two_at s (1 + 2 * column)

unfoldable pub figures_in : List ℕ → Figures
figures_in s = record { position = get_or s 0 0; totals = tab figure_columns (total_at s); rows = rows_in last_ticks (drop rows_at s) }

-- and their bytes
unfoldable pub figures_bytes : Figures → List ℕ
figures_bytes f = f.position ∷ (joined two_bytes f.totals ++ joined (λ row. row) f.rows)

-- 02: "from empty figures on"
unfoldable pub empty_figures : List ℕ
empty_figures = replicate figures_size 0

-- what is asked: 1 for n alone, 3 for the figures' length, then 5 and 6 as of the words
unfoldable pub figures_questions : ℕ → List ℕ → List ℕ → List ℕ → List Question
figures_questions n batch verdicts figures =
    ask (within 1 16 n) 1 ∷ ask (eqb (length figures) figures_size) 3 ∷ verdict_questions batch verdicts

-- what is answered: the number of the first no, and the figures after the call
pub record FiguresAnswer : Type 0 where
  pub number : ℕ
  pub figures : List ℕ

-- by that number: a refusal "is the number alone"
abbrev pub figures_by : ℕ → List ℕ → List ℕ → FiguresAnswer
figures_by zero row figures = record { number = 0; figures = figures_bytes (kept_row (figures_in figures) row) }
figures_by (suc k) row figures = record { number = suc k; figures = figures }

-- the call
unfoldable pub keep_figures : ℕ → List ℕ → List ℕ → List ℕ → FiguresAnswer
keep_figures n batch verdicts figures =
    figures_by (first_no (figures_questions n batch verdicts figures)) (row_of (columns_of n (batch_entries batch) verdicts)) figures
