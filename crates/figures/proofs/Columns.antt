-- Where a frame is counted, and a row, entry by entry. Assumes nothing.
use Prim.Native.Nat.{ℕ, ◌+◌, ◌*◌, ◌-◌, ◌≤◌, ◌<◌}
use native.Mathlib.Numerals.{add-one}
use native.Mathlib.Omega.{arith}
use mathlib.Core.Path.{◌≡◌, refl, ap, ◌∙◌}
use mathlib.Core.Bool.{Bool, true, false, cond}
use mathlib.Core.List.{List, [], ◌∷◌, ◌++◌}
use mathlib.Core.Logic.{⊎_elim}
use lib.Dec.{eqb}
use lib.ListN.{length, get_or, set, replicate, length-append}
use borrow.Author.Tests.{eq-eqb, ne_eqb, le-leb, lt-leb}
use Rattle.laws.specs.Lists.{tab, select}
use Rattle.laws.proofs.Numbers.{eq-or-ne}
use Rattle.laws.proofs.Lists.{length-tab, get_or-tab, tab-ext, tab-suc, replicate-tab, set-tab, select-append, select-length-le}
use Rattle.model.specs.Batch.{exact_batch, batch_entries}
use Rattle.model.specs.Verdicts.{given}
use Rattle.model.specs.Figures.{figure_of, own_column, figure_columns, column_of, column_at, columns_of, times_in, row_of}
use Rattle.batch.specs.Walk.{count_of, entry_at, next_at}
use Rattle.batch.proofs.Walk.{batch-count}
use Rattle.verdicts.specs.Fit.{VerdictsFit}
use Rattle.verdicts.proofs.Given.{given-all}
use Rattle.verdicts.proofs.Walking.{Walking, walking_start, walking-entry, walking-turn}

-- ---- the figure and the column of a verdict

pub figure-low : (number : ℕ) → number < 10 → 0 ≡ figure_of number
unfolding figure_of
figure-low number h = ⊎_elim (λ e. rw (eq-eqb number 0 e)) (λ e. rw (ne_eqb number 0 e) (omega arith)) (eq-or-ne number 0)

pub figure-high : (number : ℕ) → 10 ≤ number → number - 10 ≡ figure_of number
unfolding figure_of
figure-high number h = rw (ne_eqb number 0 (λ e. absurd (omega arith)))

figure-most : (number : ℕ) → given number ≡ true → figure_of number ≤ 6
unfolding figure_of
figure-most number g =
    given-all (λ x. figure_of x ≤ 6) (omega arith) (omega arith) (omega arith) (omega arith) (omega arith) (omega arith) (omega arith) (omega arith) number g

module _ (n number station : ℕ) where
  pub own-by-10 : number ≡ 10 → own_column ≡ column_of n number station
  unfolding column_of
  own-by-10 e = rw (eq-eqb number 10 e)

  module _ (h : number ≡ 10 → ⊥) where
    pub own-by-station : n ≤ station → own_column ≡ column_of n number station
    unfolding column_of
    own-by-station k = rw (ne_eqb number 10 h, le-leb n station k)

    pub its-column : station < n → 7 * station + figure_of number ≡ column_of n number station
    unfolding column_of
    its-column k = rw (ne_eqb number 10 h, lt-leb n station k)

pub column-small : (n number station : ℕ) → n ≤ 16 → given number ≡ true → station < n → 7 * station + figure_of number < figure_columns
column-small n number station h g k = omega (arith, figure-most number g)

-- ---- how many are counted in a column

pub times-most : (columns : List ℕ) (column : ℕ) → times_in columns column ≤ length columns
unfolding times_in
times-most columns column = select-length-le (eqb column) columns

pub times-append : (a b : List ℕ) (column : ℕ) → times_in (a ++ b) column ≡ times_in a column + times_in b column
unfolding times_in
times-append a b column = ap length (select-append (eqb column) a b) ∙ length-append (select (eqb column) a) (select (eqb column) b)

times-one : (p column : ℕ) → times_in (p ∷ []) column ≡ cond (eqb column p) 1 0
unfolding times_in select
times-one p column = go (eqb column p)
  where
    go : (b : Bool) → length (cond b (p ∷ []) []) ≡ cond b 1 0
    go true = refl
    go false = refl

-- one more
more-there : (columns : List ℕ) (p column : ℕ) → p < figure_columns
    → cond (eqb column p) (get_or (row_of columns) p 0 + 1) (times_in columns column) ≡ times_in (columns ++ (p ∷ [])) column
unfolding row_of
more-there columns p column h =
    ⊎_elim
    (λ e.
    let one : times_in (p ∷ []) column ≡ 1 = times-one p column ∙ rw (eq-eqb column p e) in
    let both : times_in (columns ++ (p ∷ [])) column ≡ times_in columns column + times_in (p ∷ []) column = times-append columns (p ∷ []) column in
    let same : times_in columns column ≡ times_in columns p = ap (times_in columns) e in
    rw (eq-eqb column p e, get_or-tab figure_columns (times_in columns) p 0 h) (omega arith))
    (λ e.
    let none : times_in (p ∷ []) column ≡ 0 = times-one p column ∙ rw (ne_eqb column p e) in
    let both : times_in (columns ++ (p ∷ [])) column ≡ times_in columns column + times_in (p ∷ []) column = times-append columns (p ∷ []) column in
    rw (ne_eqb column p e) (omega arith))
    (eq-or-ne column p)

pub row_more : (columns : List ℕ) (p : ℕ) → p < figure_columns → set (row_of columns) p (get_or (row_of columns) p 0 + 1) ≡ row_of (columns ++ (p ∷ []))
unfolding row_of
row_more columns p h =
    set-tab figure_columns (times_in columns) p (get_or (row_of columns) p 0 + 1)
    ∙ tab-ext figure_columns (λ j. cond (eqb j p) (get_or (row_of columns) p 0 + 1) (times_in columns j)) (times_in (columns ++ (p ∷ []))) (λ j k. more-there columns p j h)

pub length-row : (columns : List ℕ) → length (row_of columns) ≡ figure_columns
unfolding row_of
length-row columns = length-tab figure_columns (times_in columns)

row-none : replicate figure_columns 0 ≡ row_of []
unfolding row_of times_in select
row-none = replicate-tab figure_columns 0

-- ---- the loop: the entries before a position are counted

module _ (n : ℕ) (batch verdicts : List ℕ) where
  abbrev columns_to : ℕ → List ℕ
  columns_to position = tab position (column_at n (batch_entries batch) verdicts)

  pub record Rowing (position at : ℕ) (row : List ℕ) : Type 0 where
    pub walk : Walking batch position at
    pub so_far : row ≡ row_of (columns_to position)

  pub rowing_start : exact_batch batch ≡ true → Rowing 0 1 (replicate figure_columns 0)
  unfolding tab
  rowing_start e = record { walk = walking_start e; so_far = row-none }

  module _ {position at : ℕ} {row : List ℕ} (here : Rowing position at row) where
    -- no column has more than were counted
    pub rowing-few : (column : ℕ) → column < figure_columns → get_or row column 0 ≤ position
    unfolding row_of
    rowing-few column h =
        rw (here.so_far, get_or-tab figure_columns (times_in (columns_to position)) column 0 h)
        (omega (arith, times-most (columns_to position) column, length-tab position (column_at n (batch_entries batch) verdicts)))

    -- one entry more, of the bytes where the walk is
    pub rowing-turn :
        position < count_of batch → {at' column : ℕ} (bytes : List ℕ) → bytes ≡ entry_at batch at
        → column ≡ column_of n (get_or verdicts position 0) (get_or bytes 1 0) → column < figure_columns → at' ≡ next_at batch at
        → Rowing (position + 1) at' (set row column (get_or row column 0 + 1))
    rowing-turn more {at'} {column} bytes e there small step =
        let its : column ≡ column_at n (batch_entries batch) verdicts position
        = unfold column_at in there ∙ ap (λ (b : List ℕ). column_of n (get_or verdicts position 0) (get_or b 1 0)) (e ∙ walking-entry here.walk more) in
        record {
          walk = walking-turn here.walk more step;
          so_far =
              ap (λ (r : List ℕ). set r column (get_or r column 0 + 1)) here.so_far
              ∙ (row_more (columns_to position) column small
              ∙ rw (add-one position, tab-suc position (column_at n (batch_entries batch) verdicts), its));
        }

    pub rowing-end : VerdictsFit batch verdicts → count_of batch ≤ position → row ≡ row_of (columns_of n (batch_entries batch) verdicts)
    unfolding columns_of
    rowing-end ok done =
        let all : position ≡ length (batch_entries batch) = omega (arith, here.walk.counted, batch-count batch ok.exact) in
        here.so_far ∙ ap (λ (k : ℕ). row_of (columns_to k)) all
