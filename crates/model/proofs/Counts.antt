-- 02, 2.13: where frames are counted, rows and figures, computed from the definitions. Assumes nothing.
use Prim.Native.Nat.{ℕ}
use mathlib.Core.Path.{◌≡◌, refl}
use mathlib.Core.List.{List, [], ◌∷◌, map}
use lib.ListN.{get_or}
use Rattle.laws.specs.Lists.{tab, within, every, select}
use Rattle.model.specs.Question.{first_no}
use Rattle.model.specs.Batch.{ends_after, exact_batch, entries_of, batch_entries}
use Rattle.model.specs.Verdicts.{given, verdict_questions}
use Rattle.model.specs.Figures.{Figures, figure_of, column_of, column_at, columns_of, times_in, row_of, fresh_total, moved_total, next_position, kept_row, figures_questions}

-- with n 3: station 0's frame taken, station 2's refused by 11 to 16; refused by 10; of station 3 and of 255, taken or refused
pub columns-hold :
    ◌≡◌ {A = List ℕ}
    (column_of 3 0 0 ∷ column_of 3 11 2 ∷ column_of 3 12 2 ∷ column_of 3 13 2 ∷ column_of 3 14 2 ∷ column_of 3 15 2 ∷ column_of 3 16 2
    ∷ column_of 3 10 2 ∷ column_of 3 11 3 ∷ column_of 3 0 3 ∷ column_of 3 16 255 ∷ column_of 16 16 15 ∷ [])
    (0 ∷ 15 ∷ 16 ∷ 17 ∷ 18 ∷ 19 ∷ 20 ∷ 112 ∷ 112 ∷ 112 ∷ 112 ∷ 111 ∷ [])
unfolding column_of figure_of
columns-hold = refl

-- the entries of a batch: station 1 taken twice and late once, no bytes refused by 10, station 9 by 11; a missing station reads as 0
abbrev heard : List (List ℕ)
heard = (3 ∷ 1 ∷ []) ∷ (3 ∷ 1 ∷ []) ∷ (3 ∷ 1 ∷ []) ∷ [] ∷ (3 ∷ 9 ∷ []) ∷ (3 ∷ []) ∷ []

pub row-holds :
    columns_of 2 heard (0 ∷ 13 ∷ 0 ∷ 10 ∷ 11 ∷ 16 ∷ 99 ∷ []) ≡ 7 ∷ 10 ∷ 7 ∷ 112 ∷ 112 ∷ 6 ∷ []
unfolding tab columns_of column_at column_of figure_of
row-holds = refl

pub row-counted :
    map (λ (column : ℕ). get_or (row_of (7 ∷ 10 ∷ 7 ∷ 112 ∷ 112 ∷ 6 ∷ [])) column 99) (6 ∷ 7 ∷ 8 ∷ 10 ∷ 111 ∷ 112 ∷ 113 ∷ [])
    ≡ 1 ∷ 2 ∷ 0 ∷ 1 ∷ 0 ∷ 2 ∷ 99 ∷ []
unfolding tab row_of times_in select
row-counted = refl

-- a total that a row leaves and another joins; one that would fall below 0 wraps, and so does one past 65,535; the position after 0, 254 and 255
pub moves-hold :
    moved_total 9 4 1 ∷ moved_total 3 4 0 ∷ moved_total 65535 0 2 ∷ next_position 0 ∷ next_position 254 ∷ next_position 255 ∷ [] ≡ 6 ∷ 65535 ∷ 1 ∷ 1 ∷ 255 ∷ 0 ∷ []
unfolding moved_total next_position
moves-hold = refl

-- figures with wrong totals, of which three rows are looked at: a row put at position 1, and one at 255, where they are counted afresh
abbrev rows : List (List ℕ)
rows = (1 ∷ 2 ∷ []) ∷ (3 ∷ 4 ∷ []) ∷ (5 ∷ 6 ∷ []) ∷ []

abbrev kept : ℕ → Figures
kept position = kept_row (record { position = position; totals = 10 ∷ 20 ∷ []; rows = rows }) (7 ∷ 1 ∷ [])

abbrev looked : Figures → List (List ℕ)
looked f = (f.position ∷ get_or f.totals 0 0 ∷ get_or f.totals 1 0 ∷ []) ∷ f.rows

pub keeps-hold :
    ◌≡◌ {A = List (List (List ℕ))}
    (looked (kept 1) ∷ looked (kept 255) ∷ [])
    (((2 ∷ 14 ∷ 17 ∷ []) ∷ (1 ∷ 2 ∷ []) ∷ (7 ∷ 1 ∷ []) ∷ (5 ∷ 6 ∷ []) ∷ [])
    ∷ ((0 ∷ 9 ∷ 12 ∷ []) ∷ (1 ∷ 2 ∷ []) ∷ (3 ∷ 4 ∷ []) ∷ (5 ∷ 6 ∷ []) ∷ [])
    ∷ [])
unfolding tab kept_row moved_total next_position fresh_total
keeps-hold = refl

-- asked: n of 0 and 17; figures of another length before a batch that does not end; fewer verdicts than entries; a verdict of 17, one of 16, and one of
-- 9 that is no entry's
pub questions-hold :
    first_no (figures_questions 0 [] [] []) ∷ first_no (figures_questions 17 [] [] []) ∷ first_no (figures_questions 16 [] [] (0 ∷ [])) ∷ first_no (verdict_questions [] [])
    ∷ first_no (verdict_questions (1 ∷ 0 ∷ []) []) ∷ first_no (verdict_questions (1 ∷ 0 ∷ []) (17 ∷ [])) ∷ first_no (verdict_questions (1 ∷ 0 ∷ []) (16 ∷ []))
    ∷ first_no (verdict_questions (1 ∷ 0 ∷ []) (10 ∷ 9 ∷ [])) ∷ [] ≡ 1 ∷ 1 ∷ 3 ∷ 5 ∷ 6 ∷ 6 ∷ 0 ∷ 0 ∷ []
unfolding first_no figures_questions verdict_questions given within every ends_after exact_batch entries_of batch_entries
questions-hold = refl
