-- The figures in bytes: what a call leaves, as the code writes it, and what stands there read again. Assumes nothing.
use Prim.Native.Nat.{ℕ, zero, suc, ◌+◌, ◌*◌, ◌≤◌, ◌<◌}
use native.Mathlib.Omega.{arith}
use mathlib.Core.Path.{◌≡◌, refl, sym, ap, ap₂, ◌∙◌}
use mathlib.Core.Bool.{true, cond}
use mathlib.Core.List.{List, [], ◌∷◌, ◌++◌}
use lib.Dec.{eqb}
use lib.ListN.{length, drop, get_or, set, length-append, length-drop}
use lib.Seq.{drop_at, take_all, get_or-drop}
use borrow.Author.Tests.{eq-eqb, ne_eqb}
use Rattle.laws.specs.Lists.{tab, every, joined}
use Rattle.laws.proofs.Numbers.{and_left, and_right}
use Rattle.laws.proofs.Lists.{length-tab, get_or-tab, tab-ext, eq-tab}
use Rattle.model.specs.Frame.{two_bytes, two_at}
use Rattle.model.specs.Figures.{Figures, figure_columns, last_ticks, rows_at, figures_size, rows_in, total_at, figures_in, figures_bytes, fresh_total, moved_total, next_position, kept_row}
use Rattle.splice.specs.Bytes.{pasted}
use Rattle.splice.proofs.Laws.{length-pasted}
use Rattle.figures.proofs.Rows.{pasted-behind, drop-front, row-entry, rows-joined, rows-put, fitting, fitting-long, rows_back}

-- ---- the totals, two bytes each

pub length-twos : (l : List ℕ) → length (joined two_bytes l) ≡ 2 * length l
unfolding joined two_bytes
length-twos [] = refl
length-twos (x ∷ l) = let rest = length-twos l in omega arith

pub length-tab-twos : (k : ℕ) (f : ℕ → ℕ) → length (joined two_bytes (tab k f)) ≡ 2 * k
length-tab-twos k f = length-twos (tab k f) ∙ ap (λ (m : ℕ). 2 * m) (length-tab k f)

length-all : (rows : List (List ℕ)) → every fitting rows ≡ true → length (joined (λ row. row) rows) ≡ figure_columns * length rows
unfolding joined every
length-all [] h = refl
length-all (row ∷ rows) h =
    let long : length row ≡ figure_columns = fitting-long row (and_left (fitting row) (every fitting rows) h) in
    let rest = length-all rows (and_right (fitting row) (every fitting rows) h) in
    let both : length (row ++ joined (λ r. r) rows) ≡ length row + length (joined (λ r. r) rows) = length-append row (joined (λ r. r) rows) in
    omega arith

two_back : (l rest : List ℕ) (i : ℕ) → i < length l → two_at (joined two_bytes l ++ rest) (2 * i) ≡ get_or l i 0
unfolding joined two_bytes two_at
two_back [] rest i h = absurd (omega arith)
two_back (x ∷ l) rest zero h = omega arith
two_back (x ∷ l) rest (suc i) h =
    let e : 2 * suc i ≡ suc (suc (2 * i)) = omega arith in
    let f : 2 * suc i + 1 ≡ suc (suc (2 * i + 1)) = omega arith in
    let bytes : List ℕ = joined two_bytes (x ∷ l) ++ rest in
    ap₂ (λ (a b : ℕ). get_or bytes a 0 + 256 * get_or bytes b 0) e f ∙ two_back l rest i (omega arith)

-- ---- the whole: position, totals, rows

module _ (f : Figures) (t : length f.totals ≡ figure_columns) where
  abbrev bytes : List ℕ
  bytes = f.position ∷ (joined two_bytes f.totals ++ joined (λ row. row) f.rows)

  total-back : (column : ℕ) → column < figure_columns → get_or f.totals column 0 ≡ total_at bytes column
  unfolding total_at two_at
  total-back column h =
      let e : 1 + 2 * column ≡ suc (2 * column) = omega arith in
      let g : 1 + 2 * column + 1 ≡ suc (2 * column + 1) = omega arith in
      sym
      (ap₂ (λ (a b : ℕ). get_or bytes a 0 + 256 * get_or bytes b 0) e g
      ∙ (unfold two_at in two_back f.totals (joined (λ row. row) f.rows) column (omega arith)))

  rows_behind : drop rows_at bytes ≡ joined (λ row. row) f.rows
  rows_behind =
      drop_at (f.position ∷ joined two_bytes f.totals) (joined (λ row. row) f.rows) rows_at (omega (arith, length-twos f.totals))

  -- what stands in the bytes of figures is these
  pub figures-back : length f.rows ≡ last_ticks → every fitting f.rows ≡ true → figures_in (figures_bytes f) ≡ f
  unfolding figures_in figures_bytes
  figures-back k r =
      let rows : rows_in last_ticks (drop rows_at bytes) ≡ f.rows
      = ap (rows_in last_ticks) rows_behind ∙ (ap (λ (m : ℕ). rows_in m (joined (λ row. row) f.rows)) (sym k) ∙ rows_back f.rows r) in
      let totals : tab figure_columns (total_at bytes) ≡ f.totals = sym (eq-tab f.totals figure_columns (total_at bytes) 0 t total-back) in
      ap₂ (λ (a : List ℕ) (b : List (List ℕ)). record { position = f.position; totals = a; rows = b }) totals rows

  -- and they are as long as they should be
  pub length-figures : length f.rows ≡ last_ticks → every fitting f.rows ≡ true → length (figures_bytes f) ≡ figures_size
  unfolding figures_bytes
  length-figures k r =
      let behind : length (joined two_bytes f.totals ++ joined (λ row. row) f.rows) ≡ length (joined two_bytes f.totals) + length (joined (λ row. row) f.rows)
      = length-append (joined two_bytes f.totals) (joined (λ row. row) f.rows) in
      omega (arith, length-twos f.totals, length-all f.rows r)

-- ---- as the code writes them

pieces : (y : ℕ) (s T : List ℕ) → length T ≡ 226 → pasted (y ∷ s) 1 T ≡ (y ∷ T) ++ drop rows_at (y ∷ s)
unfolding pasted
pieces y s T t = let e : 1 + length T ≡ rows_at = omega arith in ap (λ (m : ℕ). y ∷ (T ++ drop m (y ∷ s))) e

-- the totals over the old ones, and the position
headed : (s T : List ℕ) (x : ℕ) → 0 < length s → length T ≡ 226 → set (pasted s 1 T) 0 x ≡ x ∷ (T ++ drop rows_at s)
headed [] T x h t = absurd (omega arith)
headed (y ∷ s) T x h t = ap (λ (l : List ℕ). set l 0 x) (pieces y s T t)

-- the totals first, then a row, then the position
laid-first :
    (s T row : List ℕ) (at x : ℕ) → 0 < length s → length T ≡ 226
    → set (pasted (pasted s 1 T) (rows_at + at) row) 0 x ≡ x ∷ (T ++ pasted (drop rows_at s) at row)
laid-first [] T row at x h t = absurd (omega arith)
laid-first (y ∷ s) T row at x h t =
    ap (λ (l : List ℕ). set (pasted l (rows_at + at) row) 0 x) (pieces y s T t)
    ∙ ap (λ (l : List ℕ). set l 0 x) (pasted-behind (y ∷ T) (drop rows_at (y ∷ s)) row (rows_at + at) at (omega arith))

-- a row first
laid-last :
    (s T row : List ℕ) (at x : ℕ) → length s ≡ figures_size → rows_at + at + length row ≤ figures_size → length T ≡ 226
    → set (pasted (pasted s (rows_at + at) row) 1 T) 0 x ≡ x ∷ (T ++ pasted (drop rows_at s) at row)
laid-last s T row at x h r t =
    headed (pasted s (rows_at + at) row) T x (omega (arith, length-pasted s (rows_at + at) row (omega arith))) t
    ∙ ap (λ (l : List ℕ). x ∷ (T ++ l)) (drop-front rows_at at s row (omega arith))

-- ---- a row put in the place of the one at the position

module _ (s row : List ℕ) (h : length s ≡ figures_size) (l : length row ≡ figure_columns) (small : get_or s 0 0 < last_ticks) where
  abbrev p : ℕ
  p = get_or s 0 0

  abbrev R : List ℕ
  R = drop rows_at s

  abbrev rows : List (List ℕ)
  rows = set (rows_in last_ticks R) p row

  abbrev at : ℕ
  at = figure_columns * p

  room : length R ≡ 28928
  room = omega (arith, length-drop rows_at s)

  put : rows_in last_ticks (pasted R at row) ≡ rows
  put = rows-put last_ticks p R row small (omega (arith, room)) l

  rows-after : pasted R at row ≡ joined (λ r. r) rows
  rows-after =
      sym
      (ap (joined (λ r. r)) (sym put)
      ∙ (rows-joined last_ticks (pasted R at row)
      ∙ take_all (figure_columns * last_ticks) (pasted R at row) (omega (arith, length-pasted R at row (omega (arith, room)), room))))

  -- by any totals that are the definition's
  kept-is :
      (totals : ℕ → ℕ) (next : ℕ) → next ≡ next_position p
      → ((column : ℕ) → column < figure_columns → totals column ≡ cond (eqb (next_position p) 0) (fresh_total rows column)
      (moved_total (get_or (tab figure_columns (total_at s)) column 0) (get_or (get_or (rows_in last_ticks R) p []) column 0) (get_or row column 0)))
      → next ∷ (joined two_bytes (tab figure_columns totals) ++ pasted R at row) ≡ figures_bytes (kept_row (figures_in s) row)
  unfolding figures_bytes kept_row figures_in
  kept-is totals next e same =
      ap₂ ◌∷◌ e (ap₂ ◌++◌ (ap (joined two_bytes) (tab-ext figure_columns totals _ same)) rows-after)

  wraps : p ≡ 255 → next_position p ≡ 0
  unfolding next_position
  wraps z = omega arith

  goes_on : (p ≡ 255 → ⊥) → next_position p ≡ p + 1
  unfolding next_position
  goes_on e = omega arith

  -- at the last position: the row, and the totals counted afresh
  pub kept-afresh :
      p ≡ 255
      → set (pasted (pasted s (rows_at + at) row) 1 (joined two_bytes (tab figure_columns (fresh_total (rows_in last_ticks (drop rows_at (pasted s (rows_at + at) row))))))) 0 0
      ≡ figures_bytes (kept_row (figures_in s) row)
  kept-afresh e =
      let afresh : List (List ℕ) = rows_in last_ticks (drop rows_at (pasted s (rows_at + at) row)) in
      let same : afresh ≡ rows = ap (rows_in last_ticks) (drop-front rows_at at s row (omega arith)) ∙ put in
      laid-last s (joined two_bytes (tab figure_columns (fresh_total afresh))) row at 0 h (omega arith) (length-tab-twos figure_columns (fresh_total afresh))
      ∙ kept-is (fresh_total afresh) 0 (sym (wraps e)) (λ column k. rw (eq-eqb (next_position p) 0 (wraps e)) (ap (λ (r : List (List ℕ)). fresh_total r column) same))

  -- at any other: the totals moved, and the row
  pub kept-moved :
      (p ≡ 255 → ⊥)
      → set (pasted (pasted s 1 (joined two_bytes (tab figure_columns (λ column. moved_total (total_at s column) (get_or s (rows_at + at + column) 0) (get_or row column 0))))) (rows_at + at) row) 0 (p + 1)
      ≡ figures_bytes (kept_row (figures_in s) row)
  kept-moved e =
      let totals : ℕ → ℕ = λ column. moved_total (total_at s column) (get_or s (rows_at + at + column) 0) (get_or row column 0) in
      laid-first s (joined two_bytes (tab figure_columns totals)) row at (p + 1) (omega arith) (length-tab-twos figure_columns totals)
      ∙ kept-is totals (p + 1) (sym (goes_on e)) (λ column k. same column k)
    where
      there : (column : ℕ) → column < figure_columns → get_or (get_or (rows_in last_ticks R) p []) column 0 ≡ get_or s (rows_at + at + column) 0
      there column k =
          let m : rows_at + (at + column) ≡ rows_at + at + column = omega arith in
          row-entry last_ticks p R column small k ∙ (get_or-drop rows_at s (at + column) 0 ∙ ap (λ (i : ℕ). get_or s i 0) m)

      same : (column : ℕ) → column < figure_columns
          → moved_total (total_at s column) (get_or s (rows_at + at + column) 0) (get_or row column 0)
          ≡ cond (eqb (next_position p) 0) (fresh_total rows column)
          (moved_total (get_or (tab figure_columns (total_at s)) column 0) (get_or (get_or (rows_in last_ticks R) p []) column 0) (get_or row column 0))
      same column k =
          rw (
            ne_eqb (next_position p) 0 (λ z. absurd (omega (arith, goes_on e, z))),
            get_or-tab figure_columns (total_at s) column 0 k,
            there column k,
          )

  -- as the calls of the code say it
  pub put-afresh :
      {Y X : List ℕ} → Y ≡ pasted s (rows_at + at) row → X ≡ pasted Y 1 (joined two_bytes (tab figure_columns (fresh_total (rows_in last_ticks (drop rows_at Y)))))
      → p ≡ 255 → set X 0 0 ≡ figures_bytes (kept_row (figures_in s) row)
  put-afresh e f last =
      ap (λ (l : List ℕ). set l 0 0)
      (f ∙ ap (λ (y : List ℕ). pasted y 1 (joined two_bytes (tab figure_columns (fresh_total (rows_in last_ticks (drop rows_at y)))))) e)
      ∙ kept-afresh last

  pub put-moved :
      {Y X : List ℕ}
      → Y ≡ pasted s 1 (joined two_bytes (tab figure_columns (λ column. moved_total (total_at s column) (get_or s (rows_at + at + column) 0) (get_or row column 0))))
      → X ≡ pasted Y (rows_at + at) row → (p ≡ 255 → ⊥) → set X 0 (p + 1) ≡ figures_bytes (kept_row (figures_in s) row)
  put-moved e f other = ap (λ (l : List ℕ). set l 0 (p + 1)) (f ∙ ap (λ (y : List ℕ). pasted y (rows_at + at) row) e) ∙ kept-moved other
