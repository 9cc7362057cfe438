-- From empty figures on, and from any bytes after 256 accepted calls, the totals are a fresh count over the last of them. Assumes nothing.
use Prim.Native.Nat.{ℕ, zero, suc, ◌+◌, ◌*◌, ◌-◌, ◌≤◌, ◌<◌}
use native.Mathlib.Omega.{arith}
use mathlib.Core.Path.{◌≡◌, refl, sym, ap, ◌∙◌}
use mathlib.Core.Bool.{true, false}
use mathlib.Core.List.{List, [], ◌∷◌, ◌++◌, map}
use mathlib.Core.Logic.{⊎_elim}
use lib.Dec.{eqb, ltb}
use lib.ListN.{length, take, drop, get_or, length-append, length-take, length-drop, length-map, length-replicate, take-append-drop}
use lib.Seq.{drop-append-le, drop-append-add, get_or-take, get_or-drop, length-take-le}
use borrow.Author.Tests.{eq-eqb, lt-ltb, ltb-true, eqb-true}
use Rattle.laws.specs.Lists.{tab, within, every, select, joined, fold_left}
use Rattle.laws.proofs.Numbers.{and_left, and_right, and_intro, true-or-false, lt-or-ge, clash}
use Rattle.laws.proofs.Lists.{length-tab, get_or-tab, every-tab, every-index, every-of-index, every_take, every_drop, select_yes, select_no, get_or-zeros}
use Rattle.model.specs.Frame.{two_at}
use Rattle.model.specs.Batch.{batch_entries}
use Rattle.model.specs.Question.{ask, first_no}
use Rattle.model.specs.Verdicts.{verdict_questions}
use Rattle.model.specs.Figures.{Figures, FiguresAnswer, figure_columns, last_ticks, rows_at, figures_size, rows_in, total_at, column_at, columns_of, times_in, row_of, fresh_total, figures_in, figures_bytes, empty_figures, kept_row, figures_questions, figures_by, keep_figures}
use Rattle.lemmas.proofs.Hearing.{batch-few}
use Rattle.figures.specs.Statements.{latest, of_bytes, Report, after_report, accepted, counted_in, CountsFromEmpty, CountsFromAnyBytes}
use Rattle.figures.proofs.Rows.{length-rows, fitting}
use Rattle.figures.proofs.Bytes.{figures-back, length-figures}
use Rattle.figures.proofs.Columns.{times-most, times-append}
use Rattle.figures.proofs.Asking.{asked, row, by_number}
use Rattle.figures.proofs.Window.{fresh-append, Sound, Right, in_order, fresh-in-order, kept-sound, all_right, all-order, come-right}

-- ---- rows of calls

row-fitting : (columns : List ℕ) → length columns ≤ 255 → fitting (row_of columns) ≡ true
unfolding fitting row_of
row-fitting columns h =
    and_intro (eq-eqb (length (tab figure_columns (times_in columns))) figure_columns (length-tab figure_columns (times_in columns)))
    (every-tab (λ x. ltb x 256) figure_columns (times_in columns) (λ i k. lt-ltb (times_in columns i) 256 (omega (arith, times-most columns i))))

abbrev row_from : Report → List ℕ
row_from c = row_of (counted_in c)

report-fitting : (c : Report) → of_bytes c.batch ≡ true → fitting (row_from c) ≡ true
unfolding counted_in columns_of
report-fitting c h =
    row-fitting (counted_in c)
    (omega (
      arith,
      batch-few c.batch h,
      length-tab (length (batch_entries c.batch)) (column_at c.n (batch_entries c.batch) c.verdicts),
    ))

all-fitting : (calls : List Report) → every (λ c. of_bytes c.batch) calls ≡ true → every fitting (map row_from (select accepted calls)) ≡ true
unfolding every select
all-fitting [] h = refl
all-fitting (c ∷ calls) h =
    let rest = all-fitting calls (and_right (of_bytes c.batch) (every (λ d. of_bytes d.batch) calls) h) in
    ⊎_elim
    (λ yes. rw yes (and_intro (report-fitting c (and_left (of_bytes c.batch) (every (λ d. of_bytes d.batch) calls) h)) rest))
    (λ no. rw no rest)
    (true-or-false (accepted c))

-- ---- one call, on figures of the right length

pub record Good (s : List ℕ) : Type 0 where
  pub size : length s ≡ figures_size
  pub sound : Sound (figures_in s)

number_is : (k : ℕ) (r s : List ℕ) → (figures_by k r s).number ≡ k
number_is zero r s = refl
number_is (suc k) r s = refl

asked-alike : (n : ℕ) (batch verdicts a b : List ℕ) → length a ≡ length b → asked n batch verdicts a ≡ asked n batch verdicts b
unfolding figures_questions
asked-alike n batch verdicts a b e =
    ap (λ (m : ℕ). first_no (ask (within 1 16 n) 1 ∷ ask (eqb m figures_size) 3 ∷ verdict_questions batch verdicts)) e

pub length-empty : length empty_figures ≡ figures_size
unfolding empty_figures
length-empty = length-replicate {A = ℕ} figures_size 0

module _ (c : Report) where
  abbrev asked_on : List ℕ → ℕ
  asked_on s = asked c.n c.batch c.verdicts s

  pub answers : (s : List ℕ) → (keep_figures c.n c.batch c.verdicts s).number ≡ asked_on s
  answers s =
      ap (λ (a : FiguresAnswer). a.number) (by_number c.n c.batch c.verdicts s (asked_on s) refl)
      ∙ number_is (asked_on s) (row_from' s) s
    where
      row_from' : List ℕ → List ℕ
      row_from' s = row c.n c.batch c.verdicts s

  module _ (s : List ℕ) (size : length s ≡ figures_size) where
    same_number : asked_on s ≡ asked_on empty_figures
    same_number = asked-alike c.n c.batch c.verdicts s empty_figures (size ∙ sym length-empty)

    after-accepted : accepted c ≡ true → after_report s c ≡ figures_bytes (kept_row (figures_in s) (row_from c))
    unfolding accepted after_report counted_in
    after-accepted a =
        let none : asked_on s ≡ 0 = same_number ∙ (sym (answers empty_figures) ∙ eqb-true (keep_figures c.n c.batch c.verdicts empty_figures).number 0 a) in
        ap (λ (o : FiguresAnswer). o.figures) (by_number c.n c.batch c.verdicts s 0 none)

    after-refused : accepted c ≡ false → after_report s c ≡ s
    unfolding accepted after_report
    after-refused a = go (asked_on s) refl
      where
        go : (k : ℕ) → asked_on s ≡ k → (keep_figures c.n c.batch c.verdicts s).figures ≡ s
        go zero e =
            absurd
            (clash (eq-eqb (keep_figures c.n c.batch c.verdicts empty_figures).number 0 (answers empty_figures ∙ (sym same_number ∙ e))) a)
        go (suc k) e = ap (λ (o : FiguresAnswer). o.figures) (by_number c.n c.batch c.verdicts s (suc k) e)

-- the bytes of sound figures
bytes_good : (f : Figures) → Sound f → Good (figures_bytes f)
bytes_good f s =
    record {
      size = length-figures f s.totals s.rows s.fit;
      sound = rw (figures-back f s.totals s.rows s.fit) s;
    }

-- ---- a list of calls

reports :
    (s : List ℕ) (calls : List Report) → Good s → every (λ c. of_bytes c.batch) calls ≡ true
    → figures_in (fold_left after_report s calls) ≡ fold_left kept_row (figures_in s) (map row_from (select accepted calls))
unfolding fold_left every
reports s [] g h = unfold select in refl
reports s (c ∷ calls) g h =
    let one : of_bytes c.batch ≡ true = and_left (of_bytes c.batch) (every (λ d. of_bytes d.batch) calls) h in
    let rest : every (λ d. of_bytes d.batch) calls ≡ true = and_right (of_bytes c.batch) (every (λ d. of_bytes d.batch) calls) h in
    let kept : Figures = kept_row (figures_in s) (row_from c) in
    let sound : Sound kept = kept-sound (figures_in s) g.sound (row_from c) (report-fitting c one) in
    ⊎_elim
    (λ yes.
    ap (λ (b : List ℕ). figures_in (fold_left after_report b calls)) (after-accepted c s g.size yes)
    ∙ (reports (figures_bytes kept) calls (bytes_good kept sound) rest
    ∙ (ap (λ (f : Figures). fold_left kept_row f (map row_from (select accepted calls))) (figures-back kept sound.totals sound.rows sound.fit)
    ∙ ap (λ (l : List Report). fold_left kept_row (figures_in s) (map row_from l)) (sym (select_yes accepted c calls yes)))))
    (λ no.
    ap (λ (b : List ℕ). figures_in (fold_left after_report b calls)) (after-refused c s g.size no)
    ∙ (reports s calls g rest ∙ ap (λ (l : List Report). fold_left kept_row (figures_in s) (map row_from l)) (sym (select_no accepted c calls no))))
    (true-or-false (accepted c))

-- ---- the last of them

module _ {A : Type 0} where
  drop-map : {B : Type 0} (f : A → B) (k : ℕ) (l : List A) → drop k (map f l) ≡ map f (drop k l)
  drop-map f zero l = refl
  drop-map f (suc k) [] = refl
  drop-map f (suc k) (x ∷ l) = drop-map f k l

  pub latest-map : {B : Type 0} (f : A → B) (l : List A) → latest (map f l) ≡ map f (latest l)
  unfolding latest
  latest-map f l = ap (λ (k : ℕ). drop (k - last_ticks) (map f l)) (length-map l f) ∙ drop-map f (length l - last_ticks) l

  -- a count over rows is one over what they count
  fresh-times : (f : A → List ℕ) (l : List A) (column : ℕ) → column < figure_columns → fresh_total (map (λ x. row_of (f x)) l) column ≡ times_in (joined f l) column
  unfolding fresh_total joined
  fresh-times f [] column h = unfold times_in select in refl
  fresh-times f (x ∷ l) column h =
      let rest = fresh-times f l column h in
      let here : get_or (row_of (f x)) column 0 ≡ times_in (f x) column = unfold row_of in get_or-tab figure_columns (times_in (f x)) column 0 h in
      let both = times-append (f x) (joined f l) column in
      omega arith

-- the window over 256 rows and those that came
module _ (old rows : List (List ℕ)) (size : length old ≡ last_ticks) where
  window-full : last_ticks ≤ length rows → drop (length rows) (old ++ rows) ≡ latest rows
  unfolding latest
  window-full h =
      let e : length rows ≡ length old + (length rows - last_ticks) = omega arith in
      ap (λ (k : ℕ). drop k (old ++ rows)) e ∙ drop-append-add old rows (length rows - last_ticks)

  window-open : length rows ≤ last_ticks → drop (length rows) (old ++ rows) ≡ drop (length rows) old ++ latest rows
  unfolding latest
  window-open h =
      let e : 0 ≡ length rows - last_ticks = omega arith in
      drop-append-le (length rows) old rows (omega arith) ∙ ap (λ (k : ℕ). drop (length rows) old ++ drop k rows) e

totals-in : (s : List ℕ) (column : ℕ) → column < figure_columns → get_or (figures_in s).totals column 0 ≡ total_at s column
unfolding figures_in
totals-in s column h = get_or-tab figure_columns (total_at s) column 0 h

-- right totals are those of the last rows
module _ (s : List ℕ) (g : Good s) (calls : List Report) (few : every (λ c. of_bytes c.batch) calls ≡ true) where
  abbrev came : List (List ℕ)
  came = map row_from (select accepted calls)

  abbrev ended : Figures
  ended = fold_left kept_row (figures_in s) came

  fits_all : every fitting came ≡ true
  fits_all = all-fitting calls few

  long_order : length (in_order (figures_in s)) ≡ last_ticks
  long_order =
      let f : Figures = figures_in s in
      omega (
        arith,
        length-append (drop f.position f.rows) (take f.position f.rows),
        length-drop f.position f.rows,
        length-take f.position f.rows,
        g.sound.position,
        g.sound.rows,
      )

  told : Right ended → (column : ℕ) → column < figure_columns
      → total_at (fold_left after_report s calls) column ≡ fresh_total (drop (length came) (in_order (figures_in s) ++ came)) column
  told right column h =
      sym (totals-in (fold_left after_report s calls) column h)
      ∙ (ap (λ (f : Figures). get_or f.totals column 0) (reports s calls g few)
      ∙ (right column h
      ∙ (sym (fresh-in-order ended column)
      ∙ ap (λ (l : List (List ℕ)). fresh_total l column) (all-order (figures_in s) came g.sound fits_all))))

  counts : (column : ℕ) → column < figure_columns → fresh_total (latest came) column ≡ times_in (joined counted_in (latest (select accepted calls))) column
  counts column h =
      ap (λ (l : List (List ℕ)). fresh_total l column) (latest-map row_from (select accepted calls))
      ∙ fresh-times counted_in (latest (select accepted calls)) column h

-- ---- from empty figures

all-zero : (i : ℕ) → get_or empty_figures i 0 ≡ 0
unfolding empty_figures
all-zero i = get_or-zeros figures_size i

zero-rows : (k : ℕ) (s : List ℕ) (column : ℕ) → ((i : ℕ) → get_or s i 0 ≡ 0) → column < figure_columns → fresh_total (rows_in k s) column ≡ 0
unfolding rows_in fresh_total
zero-rows zero s column z h = refl
zero-rows (suc k) s column z h =
    let rest = zero-rows k (drop figure_columns s) column (λ i. get_or-drop figure_columns s i 0 ∙ z (figure_columns + i)) h in
    let here : get_or (take figure_columns s) column 0 ≡ 0 = get_or-take figure_columns s column 0 h ∙ z column in
    omega arith

-- ---- from any bytes

rows_fit : (k : ℕ) (s : List ℕ) → figure_columns * k ≤ length s → every (λ x. ltb x 256) s ≡ true → every fitting (rows_in k s) ≡ true
unfolding rows_in every fitting
rows_fit zero s h b = refl
rows_fit (suc k) s h b =
    and_intro
    (and_intro (eq-eqb (length (take figure_columns s)) figure_columns (length-take-le figure_columns s (omega arith)))
    (every_take (λ x. ltb x 256) figure_columns s b))
    (rows_fit k (drop figure_columns s) (omega (arith, length-drop figure_columns s)) (every_drop (λ x. ltb x 256) figure_columns s b))

pub any-good : (s : List ℕ) → length s ≡ figures_size → every (λ x. ltb x 256) s ≡ true → Good s
any-good s h b =
    record {
      size = h;
      sound =
          unfold figures_in in
          record {
            position = ltb-true (get_or s 0 0) 256 (every-index (λ x. ltb x 256) s 0 b 0 (omega arith));
            totals = length-tab figure_columns (total_at s);
            rows = length-rows last_ticks (drop rows_at s);
            fit = rows_fit last_ticks (drop rows_at s) (omega (arith, length-drop rows_at s)) (every_drop (λ x. ltb x 256) rows_at s b);
          };
    }

pub empty-good : Good empty_figures
empty-good =
    any-good empty_figures length-empty
    (every-of-index (λ x. ltb x 256) empty_figures 0 (λ i h. rw (all-zero i) (lt-ltb 0 256 (omega arith))))

zero-total : (column : ℕ) → total_at empty_figures column ≡ 0
unfolding total_at two_at
zero-total column = rw (all-zero (1 + 2 * column), all-zero (1 + 2 * column + 1))

empty-rows : (column : ℕ) → column < figure_columns → fresh_total (figures_in empty_figures).rows column ≡ 0
unfolding figures_in
empty-rows column h = zero-rows last_ticks (drop rows_at empty_figures) column (λ i. get_or-drop rows_at empty_figures i 0 ∙ all-zero (rows_at + i)) h

empty_right : Right (figures_in empty_figures)
empty_right column h = totals-in empty_figures column h ∙ (zero-total column ∙ sym (empty-rows column h))

-- ---- the theorems

pub counts-from-any-bytes : CountsFromAnyBytes
counts-from-any-bytes figures calls size bytes few many column h =
    let g : Good figures = any-good figures size bytes in
    let long : length (map row_from (select accepted calls)) ≡ length (select accepted calls) = length-map (select accepted calls) row_from in
    let right : Right (fold_left kept_row (figures_in figures) (map row_from (select accepted calls)))
    = come-right (figures_in figures) (map row_from (select accepted calls)) g.sound (all-fitting calls few) (omega arith) in
    told figures g calls few right column h
    ∙ (ap (λ (l : List (List ℕ)). fresh_total l column)
    (window-full (in_order (figures_in figures)) (map row_from (select accepted calls)) (long_order figures g calls few) (omega arith))
    ∙ counts figures g calls few column h)

pub counts-from-empty : CountsFromEmpty
counts-from-empty calls few column h =
    told empty_figures empty-good calls few (all_right (figures_in empty_figures) came-all empty-good.sound (all-fitting calls few) empty_right) column h
    ∙ (⊎_elim part whole (lt-or-ge (length came-all) last_ticks) ∙ counts empty_figures empty-good calls few column h)
  where
    came-all : List (List ℕ)
    came-all = map row_from (select accepted calls)

    old : List (List ℕ)
    old = in_order (figures_in empty_figures)

    long : length old ≡ last_ticks
    long = long_order empty_figures empty-good calls few

    -- as long as there are rows of empty figures left
    part : length came-all < last_ticks → fresh_total (drop (length came-all) (old ++ came-all)) column ≡ fresh_total (latest came-all) column
    part k =
        let none : fresh_total old column ≡ 0 = fresh-in-order (figures_in empty_figures) column ∙ empty-rows column h in
        let halves = fresh-append (take (length came-all) old) (drop (length came-all) old) column in
        let same : fresh_total (take (length came-all) old ++ drop (length came-all) old) column ≡ fresh_total old column
        = ap (λ (l : List (List ℕ)). fresh_total l column) (take-append-drop (length came-all) old) in
        let both = fresh-append (drop (length came-all) old) (latest came-all) column in
        ap (λ (l : List (List ℕ)). fresh_total l column) (window-open old came-all long (omega arith)) ∙ omega arith

    whole : last_ticks ≤ length came-all → fresh_total (drop (length came-all) (old ++ came-all)) column ≡ fresh_total (latest came-all) column
    whole k = ap (λ (l : List (List ℕ)). fresh_total l column) (window-full old came-all long k)
