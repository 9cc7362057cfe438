-- Rows that stand one behind the other, and a row put in the place of one of them. Assumes nothing.
use Prim.Native.Nat.{ℕ, zero, suc, ◌+◌, ◌*◌, ◌≤◌, ◌<◌, zero-le}
use native.Mathlib.Nat.{add_assoc}
use native.Mathlib.Omega.{arith}
use mathlib.Core.Path.{◌≡◌, refl, sym, ap, ap₂, ◌∙◌}
use mathlib.Core.Bool.{Bool, true, ◌&&◌}
use mathlib.Core.List.{List, [], ◌∷◌, ◌++◌, append_assoc}
use lib.Dec.{eqb, ltb}
use lib.ListN.{length, take, drop, get_or, set, take-append-drop, length-drop}
use lib.Seq.{take-append-add, drop-append-add, length-take-le, drop_at, take_at, drop-drop, take-add, get_or-take, get_or-drop}
use borrow.Author.Tests.{eqb-true}
use Rattle.laws.specs.Lists.{every, joined}
use Rattle.laws.proofs.Numbers.{and_left, and_right}
use Rattle.model.specs.Figures.{figure_columns, rows_in, fresh_total}
use Rattle.splice.specs.Bytes.{pasted}
use Rattle.splice.proofs.Laws.{take-pasted, take-pasted-through, drop-pasted-after}

-- ---- a part pasted behind others

pub pasted-behind : (a b s : List ℕ) (n k : ℕ) → n ≡ length a + k → pasted (a ++ b) n s ≡ a ++ pasted b k s
unfolding pasted
pasted-behind a b s n k e =
    rw (
      e,
      take-append-add a b k,
      add_assoc (length a) k (length s),
      drop-append-add a b (k + length s),
      append_assoc a (take k b) (s ++ drop (k + length s) b),
    )

pub drop-front : (a k : ℕ) (s row : List ℕ) → a ≤ length s → drop a (pasted s (a + k) row) ≡ pasted (drop a s) k row
drop-front a k s row h =
    ap (λ (l : List ℕ). drop a (pasted l (a + k) row)) (sym (take-append-drop a s))
    ∙ (ap (drop a) (pasted-behind (take a s) (drop a s) row (a + k) k (omega (arith, length-take-le a s h)))
    ∙ drop_at (take a s) (pasted (drop a s) k row) a (length-take-le a s h))

-- ---- rows

pub length-rows : (k : ℕ) (s : List ℕ) → length (rows_in k s) ≡ k
unfolding rows_in
length-rows zero s = refl
length-rows (suc k) s = ap suc (length-rows k (drop figure_columns s))

-- one of them
pub row_at : (k i : ℕ) (s : List ℕ) → i < k → get_or (rows_in k s) i [] ≡ take figure_columns (drop (figure_columns * i) s)
unfolding rows_in
row_at zero i s h = absurd (omega arith)
row_at (suc k) zero s h = refl
row_at (suc k) (suc i) s h =
    let e : figure_columns + figure_columns * i ≡ figure_columns * suc i = omega arith in
    row_at k i (drop figure_columns s) (omega arith)
    ∙ ap (take figure_columns) (drop-drop (figure_columns * i) figure_columns s ∙ ap (λ (m : ℕ). drop m s) e)

-- what stands in a column of it
pub row-entry : (k i : ℕ) (s : List ℕ) (column : ℕ) → i < k → column < figure_columns → get_or (get_or (rows_in k s) i []) column 0 ≡ get_or s (figure_columns * i + column) 0
row-entry k i s column h p =
    ap (λ (row : List ℕ). get_or row column 0) (row_at k i s h)
    ∙ (get_or-take figure_columns (drop (figure_columns * i) s) column 0 p ∙ get_or-drop (figure_columns * i) s column 0)

-- all of them
pub rows-joined : (k : ℕ) (s : List ℕ) → joined (λ row. row) (rows_in k s) ≡ take (figure_columns * k) s
unfolding rows_in joined
rows-joined zero s = refl
rows-joined (suc k) s =
    let e : figure_columns + figure_columns * k ≡ figure_columns * suc k = omega arith in
    ap (λ (l : List ℕ). take figure_columns s ++ l) (rows-joined k (drop figure_columns s))
    ∙ (sym (take-add figure_columns (figure_columns * k) s) ∙ ap (λ (m : ℕ). take m s) e)

-- a row put in the place of one
pub rows-put :
    (k p : ℕ) (s row : List ℕ) → p < k → figure_columns * k ≤ length s → length row ≡ figure_columns
    → rows_in k (pasted s (figure_columns * p) row) ≡ set (rows_in k s) p row
unfolding rows_in
rows-put zero p s row h r l = absurd (omega arith)
rows-put (suc k) zero s row h r l =
    ap₂ ◌∷◌ (take-pasted-through s 0 row zero-le figure_columns (omega arith))
    (ap (rows_in k) (drop-pasted-after s 0 row zero-le figure_columns (omega arith)))
rows-put (suc k) (suc p) s row h r l =
    let e : figure_columns * suc p ≡ figure_columns + figure_columns * p = omega arith in
    ap₂ ◌∷◌ (take-pasted s (figure_columns * suc p) row (omega arith) figure_columns (omega arith))
    (ap (rows_in k) (ap (λ (m : ℕ). drop figure_columns (pasted s m row)) e ∙ drop-front figure_columns (figure_columns * p) s row (omega arith))
    ∙ rows-put k p (drop figure_columns s) row (omega arith) (omega (arith, length-drop figure_columns s)) l)

-- a fresh count over one row more
pub fresh-more :
    (k : ℕ) (s : List ℕ) (column : ℕ) → column < figure_columns
    → fresh_total (rows_in (suc k) s) column ≡ fresh_total (rows_in k s) column + get_or s (figure_columns * k + column) 0
unfolding rows_in fresh_total
fresh-more zero s column h =
    let row : get_or (take figure_columns s) column 0 ≡ get_or s column 0 = get_or-take figure_columns s column 0 h in
    let e : figure_columns * 0 + column ≡ column = omega arith in
    let there : get_or s (figure_columns * 0 + column) 0 ≡ get_or s column 0 = ap (λ (m : ℕ). get_or s m 0) e in
    omega arith
fresh-more (suc k) s column h =
    let more = fresh-more k (drop figure_columns s) column h in
    let e : figure_columns + (figure_columns * k + column) ≡ figure_columns * suc k + column = omega arith in
    let there : get_or (drop figure_columns s) (figure_columns * k + column) 0 ≡ get_or s (figure_columns * suc k + column) 0
    = get_or-drop figure_columns s (figure_columns * k + column) 0 ∙ ap (λ (m : ℕ). get_or s m 0) e in
    omega arith

-- ---- rows of the right length, of bytes

unfoldable pub fitting : List ℕ → Bool
fitting row = eqb (length row) figure_columns && every (λ x. ltb x 256) row

pub fitting-long : (row : List ℕ) → fitting row ≡ true → length row ≡ figure_columns
unfolding fitting
fitting-long row h = eqb-true (length row) figure_columns (and_left (eqb (length row) figure_columns) (every (λ x. ltb x 256) row) h)

-- they are had again from their bytes
pub rows_back : (rows : List (List ℕ)) → every fitting rows ≡ true → rows_in (length rows) (joined (λ row. row) rows) ≡ rows
unfolding rows_in joined every
rows_back [] h = refl
rows_back (row ∷ rows) h =
    let long : length row ≡ figure_columns = fitting-long row (and_left (fitting row) (every fitting rows) h) in
    ap₂ ◌∷◌ (take_at row (joined (λ r. r) rows) figure_columns long)
    (ap (rows_in (length rows)) (drop_at row (joined (λ r. r) rows) figure_columns long) ∙ rows_back rows (and_right (fitting row) (every fitting rows) h))
