-- What calls do to the rows and totals: the rows in their order are a window that each call moves on by one, and the totals are a fresh count over
-- them, once they were one. Assumes nothing.
use Prim.Native.Nat.{ℕ, zero, suc, ◌+◌, ◌*◌, ◌≤◌, ◌<◌}
use native.Mathlib.Numerals.{add-one}
use native.Mathlib.Omega.{arith}
use mathlib.Core.Path.{◌≡◌, refl, sym, ap, ap₂, ◌∙◌}
use mathlib.Core.Bool.{Bool, true, false, cond}
use mathlib.Core.List.{List, [], ◌∷◌, ◌++◌, append_assoc, append-nil}
use mathlib.Core.Logic.{⊎_elim}
use lib.Dec.{eqb, ltb}
use lib.ListN.{length, take, drop, get_or, set, length-append, length-drop, length-set, take-append-drop}
use lib.Seq.{drop-set-lt, take-suc-set, drop-append-le, drop-drop, drop-length, take-length}
use borrow.Author.Tests.{eq-eqb, ltb-true}
use Rattle.laws.specs.Lists.{every, fold_left}
use Rattle.laws.proofs.Numbers.{and_left, and_right, and_intro, lt-or-ge, eq-or-ne}
use Rattle.laws.proofs.Lists.{length-tab, get_or-tab}
use Rattle.model.specs.Figures.{Figures, figure_columns, last_ticks, fresh_total, moved_total, next_position, kept_row}
use Rattle.figures.proofs.Rows.{fitting}

-- ---- a fresh count

pub fresh-append : (a b : List (List ℕ)) (column : ℕ) → fresh_total (a ++ b) column ≡ fresh_total a column + fresh_total b column
unfolding fresh_total
fresh-append [] b column = omega arith
fresh-append (row ∷ a) b column = let rest = fresh-append a b column in omega arith

small-entry : (row : List ℕ) (i : ℕ) → every (λ x. ltb x 256) row ≡ true → get_or row i 0 < 256
unfolding every
small-entry [] i h = omega arith
small-entry (x ∷ row) zero h = ltb-true x 256 (and_left (ltb x 256) (every (λ y. ltb y 256) row) h)
small-entry (x ∷ row) (suc i) h = small-entry row i (and_right (ltb x 256) (every (λ y. ltb y 256) row) h)

fitting-entry : (row : List ℕ) (i : ℕ) → fitting row ≡ true → get_or row i 0 < 256
unfolding fitting
fitting-entry row i h = small-entry row i (and_right (eqb (length row) figure_columns) (every (λ x. ltb x 256) row) h)

fresh-most : (rows : List (List ℕ)) (column : ℕ) → every fitting rows ≡ true → fresh_total rows column ≤ 255 * length rows
unfolding fresh_total every
fresh-most [] column h = omega arith
fresh-most (row ∷ rows) column h =
    let rest = fresh-most rows column (and_right (fitting row) (every fitting rows) h) in
    let here = fitting-entry row column (and_left (fitting row) (every fitting rows) h) in
    omega arith

-- one row for another
fresh_set :
    (rows : List (List ℕ)) (i : ℕ) (row : List ℕ) (column : ℕ) → i < length rows
    → fresh_total (set rows i row) column + get_or (get_or rows i []) column 0 ≡ fresh_total rows column + get_or row column 0
unfolding fresh_total
fresh_set [] i row column h = absurd (omega arith)
fresh_set (r ∷ rows) zero row column h = omega arith
fresh_set (r ∷ rows) (suc i) row column h = let rest = fresh_set rows i row column (omega arith) in omega arith

every_set : (rows : List (List ℕ)) (i : ℕ) (row : List ℕ) → every fitting rows ≡ true → fitting row ≡ true → every fitting (set rows i row) ≡ true
unfolding every
every_set [] i row h k = h
every_set (r ∷ rows) zero row h k = and_intro k (and_right (fitting r) (every fitting rows) h)
every_set (r ∷ rows) (suc i) row h k =
    and_intro (and_left (fitting r) (every fitting rows) h) (every_set rows i row (and_right (fitting r) (every fitting rows) h) k)

-- ---- figures whose rows and position are in their limits

pub record Sound (f : Figures) : Type 0 where
  pub position : f.position < last_ticks
  pub totals : length f.totals ≡ figure_columns
  pub rows : length f.rows ≡ last_ticks
  pub fit : every fitting f.rows ≡ true

-- the totals are a fresh count over the rows
abbrev pub Right : Figures → Type 0
Right f = (column : ℕ) → column < figure_columns → get_or f.totals column 0 ≡ fresh_total f.rows column

-- the rows, the oldest first
abbrev pub in_order : Figures → List (List ℕ)
in_order f = drop f.position f.rows ++ take f.position f.rows

pub fresh-in-order : (f : Figures) (column : ℕ) → fresh_total (in_order f) column ≡ fresh_total f.rows column
fresh-in-order f column =
    let ahead = fresh-append (drop f.position f.rows) (take f.position f.rows) column in
    let whole = fresh-append (take f.position f.rows) (drop f.position f.rows) column in
    let same : fresh_total (take f.position f.rows ++ drop f.position f.rows) column ≡ fresh_total f.rows column
    = ap (λ (l : List (List ℕ)). fresh_total l column) (take-append-drop f.position f.rows) in
    omega arith

module _ {A : Type 0} where
  -- an element put in, and the start moved on by it
  slide :
      (l : List A) (p : ℕ) (x : A) → p < length l
      → drop (suc p) (set l p x) ++ take (suc p) (set l p x) ≡ drop 1 (drop p l ++ take p l) ++ (x ∷ [])
  slide l p x h =
      ap₂ ◌++◌ (drop-set-lt (suc p) l p x (omega arith)) (take-suc-set l p x h)
      ∙ (sym (append_assoc (drop (suc p) l) (take p l) (x ∷ []))
      ∙ ap (λ (m : List A). m ++ (x ∷ []))
      (sym
      (drop-append-le 1 (drop p l) (take p l) (omega (arith, length-drop p l))
      ∙ ap (λ (m : List A). m ++ take p l) (drop-drop 1 p l ∙ ap (λ (k : ℕ). drop k l) (add-one p)))))

  -- past the last column is the first
  around : (l : List A) (k : ℕ) → k ≡ length l → drop 0 l ++ take 0 l ≡ drop k l ++ take k l
  around l k e = append-nil l ∙ rw (e, drop-length l, take-length l)

-- ---- one call

module _ (f : Figures) (s : Sound f) (row : List ℕ) (r : fitting row ≡ true) where
  abbrev rows : List (List ℕ)
  rows = set f.rows f.position row

  next_small : next_position f.position < last_ticks
  unfolding next_position
  next_small = omega arith

  pub kept-sound : Sound (kept_row f row)
  unfolding kept_row
  kept-sound =
      record {
        position = next_small;
        totals = length-tab figure_columns _;
        rows = length-set f.rows f.position row ∙ s.rows;
        fit = every_set f.rows f.position row s.fit r;
      }

  goes_on : suc f.position < last_ticks → next_position f.position ≡ suc f.position
  unfolding next_position
  goes_on h = omega arith

  wraps : last_ticks ≤ suc f.position → next_position f.position ≡ 0
  unfolding next_position
  wraps h = omega (arith, s.position)

  -- the oldest row goes, and the new one is the last
  pub kept-order : in_order (kept_row f row) ≡ drop 1 (in_order f) ++ (row ∷ [])
  unfolding kept_row
  kept-order =
      ⊎_elim
      (λ inside. ap (λ (k : ℕ). drop k rows ++ take k rows) (goes_on inside) ∙ slide f.rows f.position row (omega (arith, s.position, s.rows)))
      (λ last.
      ap (λ (k : ℕ). drop k rows ++ take k rows) (wraps last)
      ∙ (around rows (suc f.position) (omega (arith, s.position, s.rows, length-set f.rows f.position row))
      ∙ slide f.rows f.position row (omega (arith, s.position, s.rows))))
      (lt-or-ge (suc f.position) last_ticks)

  -- the total in a column, moved
  moved : (column : ℕ) → column < figure_columns → get_or f.totals column 0 ≡ fresh_total f.rows column
      → moved_total (get_or f.totals column 0) (get_or (get_or f.rows f.position []) column 0) (get_or row column 0) ≡ fresh_total rows column
  unfolding moved_total
  moved column h e =
      let there : f.position < length f.rows = omega (arith, s.position, s.rows) in
      let change = fresh_set f.rows f.position row column there in
      let most = fresh-most rows column (every_set f.rows f.position row s.fit r) in
      let before = fresh-most f.rows column s.fit in
      let comes = fitting-entry row column r in
      let long : length rows ≡ last_ticks = length-set f.rows f.position row ∙ s.rows in
      omega (arith, s.rows)

  -- right totals stay right
  pub kept-right : Right f → Right (kept_row f row)
  unfolding kept_row
  kept-right right column h = get_or-tab figure_columns _ column 0 h ∙ either (eqb (next_position f.position) 0)
    where
      either : (b : Bool) → cond b (fresh_total rows column) (moved_total (get_or f.totals column 0) (get_or (get_or f.rows f.position []) column 0) (get_or row column 0)) ≡ fresh_total rows column
      either true = refl
      either false = moved column h (right column h)

  -- and they are right where the position is 0 again
  pub wrapped-right : next_position f.position ≡ 0 → Right (kept_row f row)
  unfolding kept_row
  wrapped-right e column h = get_or-tab figure_columns _ column 0 h ∙ rw (eq-eqb (next_position f.position) 0 e)

-- ---- a list of calls

pub all_right : (f : Figures) (rows : List (List ℕ)) → Sound f → every fitting rows ≡ true → Right f → Right (fold_left kept_row f rows)
unfolding fold_left every
all_right f [] s h right = right
all_right f (row ∷ rows) s h right =
    let one : fitting row ≡ true = and_left (fitting row) (every fitting rows) h in
    all_right (kept_row f row) rows (kept-sound f s row one) (and_right (fitting row) (every fitting rows) h) (kept-right f s row one right)

-- the last rows are a window over those that were there and those that came
pub all-order :
    (f : Figures) (rows : List (List ℕ)) → Sound f → every fitting rows ≡ true → in_order (fold_left kept_row f rows) ≡ drop (length rows) (in_order f ++ rows)
unfolding fold_left every
all-order f [] s h = sym (append-nil (in_order f))
all-order f (row ∷ rows) s h =
    let one : fitting row ≡ true = and_left (fitting row) (every fitting rows) h in
    let behind : length (in_order f) ≡ length (drop f.position f.rows) + length (take f.position f.rows)
    = length-append (drop f.position f.rows) (take f.position f.rows) in
    let some : 1 ≤ length (in_order f)
    = omega (arith, length-drop f.position f.rows, s.position, s.rows) in
    let e : 1 + length rows ≡ suc (length rows) = omega arith in
    all-order (kept_row f row) rows (kept-sound f s row one) (and_right (fitting row) (every fitting rows) h)
    ∙ (ap (λ (l : List (List ℕ)). drop (length rows) (l ++ rows)) (kept-order f s row one)
    ∙ (ap (drop (length rows)) (append_assoc (drop 1 (in_order f)) (row ∷ []) rows ∙ sym (drop-append-le 1 (in_order f) (row ∷ rows) some))
    ∙ (drop-drop (length rows) 1 (in_order f ++ (row ∷ rows)) ∙ ap (λ (k : ℕ). drop k (in_order f ++ (row ∷ rows))) e)))

farther : (p next k : ℕ) → next ≡ next_position p → p < last_ticks → last_ticks ≤ p + suc k → (next_position p ≡ 0 → ⊥) → last_ticks ≤ next + k
unfolding next_position
farther p next k e small far n = omega arith

kept-position : (f : Figures) (row : List ℕ) → (kept_row f row).position ≡ next_position f.position
unfolding kept_row
kept-position f row = refl

-- once the position was 0 again the totals are right, whatever they were
pub come-right :
    (f : Figures) (rows : List (List ℕ)) → Sound f → every fitting rows ≡ true → last_ticks ≤ f.position + length rows → Right (fold_left kept_row f rows)
unfolding fold_left every
come-right f [] s h far = absurd (omega (arith, s.position))
come-right f (row ∷ rows) s h far =
    let one : fitting row ≡ true = and_left (fitting row) (every fitting rows) h in
    let rest : every fitting rows ≡ true = and_right (fitting row) (every fitting rows) h in
    let next : Sound (kept_row f row) = kept-sound f s row one in
    ⊎_elim
    (λ zero-again. all_right (kept_row f row) rows next rest (wrapped-right f s row one zero-again))
    (λ not_yet.
    come-right (kept_row f row) rows next rest
    (farther f.position (kept_row f row).position (length rows) (kept-position f row) s.position far not_yet))
    (eq-or-ne (next_position f.position) 0)
