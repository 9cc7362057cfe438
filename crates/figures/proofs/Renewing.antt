-- The totals written one by one, whatever they are; and a fresh count, row by row. Assumes nothing.
use Prim.Native.Nat.{ℕ, suc, ◌+◌, ◌*◌, ◌≤◌, ◌<◌}
use native.Mathlib.Nat.{add-zero}
use native.Mathlib.Numerals.{add-one}
use native.Mathlib.Omega.{arith}
use mathlib.Core.Path.{◌≡◌, refl, sym, ap, ◌∙◌}
use mathlib.Core.List.{List, [], ◌∷◌, ◌++◌, append-nil}
use lib.ListN.{length, drop, get_or}
use lib.Seq.{get_or-drop}
use Rattle.laws.specs.Lists.{tab, joined}
use Rattle.laws.proofs.Lists.{tab-suc, joined-append}
use Rattle.model.specs.Frame.{two_bytes, two_at}
use Rattle.model.specs.Figures.{figure_columns, figures_size, rows_at, rows_in, total_at, fresh_total}
use Rattle.splice.specs.Bytes.{pasted}
use Rattle.splice.proofs.Laws.{pasted-nil, length-pasted, pasted-right, drop-pasted-after}
use Rattle.figures.proofs.Rows.{fresh-more}
use Rattle.figures.proofs.Bytes.{length-tab-twos}

-- a loop that writes the totals of the first columns, given by a function
pub record Renewing (new : ℕ → ℕ) (old : List ℕ) (column : ℕ) (cur : List ℕ) : Type 0 where
  pub within : column ≤ figure_columns
  pub so_far : cur ≡ pasted old 1 (joined two_bytes (tab column new))
  pub as_long : length cur ≡ length old

pub renewing-start : (new : ℕ → ℕ) (old : List ℕ) → Renewing new old 0 old
unfolding tab joined
renewing-start new old = record { within = omega arith; so_far = sym (pasted-nil old 1); as_long = refl }

-- one total more
snoc : (new : ℕ → ℕ) (column : ℕ) → joined two_bytes (tab column new) ++ two_bytes (new column) ≡ joined two_bytes (tab (column + 1) new)
unfolding joined
snoc new column =
    rw (add-one column, tab-suc column new, joined-append two_bytes (tab column new) (new column ∷ []))
    (ap (λ (l : List ℕ). joined two_bytes (tab column new) ++ l) (sym (append-nil (two_bytes (new column)))))

module _ {new : ℕ → ℕ} {old : List ℕ} {column : ℕ} {cur : List ℕ} (here : Renewing new old column cur) (size : length old ≡ figures_size) where
  -- what stands behind what is written is as it was
  behind : (i : ℕ) → 1 + 2 * column ≤ i → drop i cur ≡ drop i old
  behind i h =
      ap (drop i) here.so_far
      ∙ drop-pasted-after old 1 (joined two_bytes (tab column new)) (omega arith) i (omega (arith, length-tab-twos column new))

  pub still : (i : ℕ) → 1 + 2 * column ≤ i → get_or cur i 0 ≡ get_or old i 0
  still i h =
      ap (λ (m : ℕ). get_or cur m 0) (sym (add-zero i))
      ∙ (sym (get_or-drop i cur 0 0)
      ∙ (ap (λ (l : List ℕ). get_or l 0 0) (behind i h) ∙ (get_or-drop i old 0 0 ∙ ap (λ (m : ℕ). get_or old m 0) (add-zero i))))

  pub still-rows : drop rows_at cur ≡ drop rows_at old
  still-rows = behind rows_at (omega (arith, here.within))

  pub still-total : total_at cur column ≡ total_at old column
  unfolding total_at two_at
  still-total =
      rw (still (1 + 2 * column) (omega arith), still (1 + 2 * column + 1) (omega arith))

  -- one more
  pub renewing-turn : {x : ℕ} {next : List ℕ} → column < figure_columns → x ≡ new column → next ≡ pasted cur (1 + 2 * column) (two_bytes x) → Renewing new old (column + 1) next
  unfolding two_bytes
  renewing-turn {x} {next} h e f =
      let long : length (joined two_bytes (tab column new)) ≡ 2 * column = length-tab-twos column new in
      let one : joined two_bytes (tab column new) ++ two_bytes x ≡ joined two_bytes (tab (column + 1) new)
      = ap (λ (y : ℕ). joined two_bytes (tab column new) ++ two_bytes y) e ∙ snoc new column in
      record {
        within = omega arith;
        so_far =
            f
            ∙ (ap (λ (l : List ℕ). pasted l (1 + 2 * column) (two_bytes x)) here.so_far
            ∙ (pasted-right old 1 (joined two_bytes (tab column new)) (1 + 2 * column) (omega arith) (two_bytes x) (omega arith)
            ∙ ap (pasted old 1) one));
        as_long = ap length f ∙ (length-pasted cur (1 + 2 * column) (two_bytes x) (omega (arith, here.as_long)) ∙ here.as_long);
      }

  pub renewing-end : figure_columns ≤ column → cur ≡ pasted old 1 (joined two_bytes (tab figure_columns new))
  renewing-end h =
      let e : column ≡ figure_columns = omega (arith, here.within) in
      here.so_far ∙ ap (λ (k : ℕ). pasted old 1 (joined two_bytes (tab k new))) e

-- ---- a fresh count, row by row

pub record Summing (s : List ℕ) (column k total : ℕ) : Type 0 where
  pub so_far : total ≡ fresh_total (rows_in k (drop rows_at s)) column
  pub most : total ≤ 255 * k
  pub within : k ≤ 256

pub summing_start : (s : List ℕ) (column : ℕ) → Summing s column 0 0
unfolding rows_in fresh_total
summing_start s column = record { so_far = refl; most = omega arith; within = omega arith }

pub summing-turn :
    {s : List ℕ} {column k total byte : ℕ} → Summing s column k total → column < figure_columns → k < 256
    → byte ≡ get_or s (rows_at + figure_columns * k + column) 0 → byte < 256 → Summing s column (k + 1) (total + byte)
summing-turn {s} {column} {k} {total} {byte} here h more e small =
    let m : rows_at + (figure_columns * k + column) ≡ rows_at + figure_columns * k + column = omega arith in
    let there : get_or (drop rows_at s) (figure_columns * k + column) 0 ≡ byte
    = get_or-drop rows_at s (figure_columns * k + column) 0 ∙ (ap (λ (i : ℕ). get_or s i 0) m ∙ sym e) in
    let next : fresh_total (rows_in (suc k) (drop rows_at s)) column ≡ fresh_total (rows_in k (drop rows_at s)) column + get_or (drop rows_at s) (figure_columns * k + column) 0
    = fresh-more k (drop rows_at s) column h in
    record {
      so_far = rw (add-one k) (omega (arith, here.so_far));
      most = omega (arith, here.most);
      within = omega arith;
    }

pub summing-end : {s : List ℕ} {column k total : ℕ} → Summing s column k total → 256 ≤ k
    → (total ≡ fresh_total (rows_in 256 (drop rows_at s)) column) × (total < 65536)
summing-end {s} {column} {k} here h =
    let e : k ≡ 256 = omega (arith, here.within) in
    (here.so_far ∙ ap (λ (m : ℕ). fresh_total (rows_in m (drop rows_at s)) column) e, omega (arith, here.most))
