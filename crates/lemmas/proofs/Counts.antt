-- What a tick does to the counts, by true clocks. The clock w is named w + ε, so that none is negative: the count of a timestamp at the true
-- clock R for the clock w, count_at ε R kn w, is what stands at w + ε where kn is laid down from R on, placed_at R kn (w + ε).
-- Assumes nothing.
use Prim.Native.Nat.{ℕ, ◌+◌, ◌-◌, ◌≤◌, ◌<◌, max}
use native.Mathlib.Omega.{arith}
use mathlib.Core.Path.{◌≡◌, refl, sym, ap, subst, ◌∙◌}
use mathlib.Core.Logic.{◌⊎◌, inl, inr}
use mathlib.Core.Bool.{Bool, true, ◌&&◌}
use mathlib.Core.List.{List, ◌++◌}
use lib.ListN.{length, drop, get_or, set, replicate, length-append, length-drop, length-set, length-replicate, get_or-eq_default}
use lib.Dec.{leb, ltb}
use lib.Seq.{get_or-drop, get_or-set_same, get_or-set_other}
use borrow.Author.Tests.{le-leb, lt-leb, leb-true, lt-ltb, ltb-true}
use Rattle.laws.specs.Lists.{within, tab, placed_at, padded}
use Rattle.laws.proofs.Numbers.{lt-or-ge, eq-or-ne, and_intro, and_left, and_right}
use Rattle.laws.proofs.Lists.{length-tab, get_or-tab, get_or-tab-out, tab-get_or, tab-ext, every-index, every-of-index, get_or-zeros, get_or-append-zeros, get_or-padded}
use Rattle.model.specs.Setup.{width, widest}
use Rattle.model.specs.Timestamp.{Timestamp, count_at, counts_from, sum, at_most, sound_timestamp, clock_step, sound_tables, shift, step, replaced, absorb, count_own, trimmed, widened, fresh, sound_clock, sound_beside}
use Rattle.model.specs.Order.{counts_down}
use Rattle.model.specs.Wider.{absorb_wide, step_into}
use Rattle.lemmas.proofs.Bounds.{Sound, Opened}

-- counts outside the window read 0
pub count-below : (R : ℕ) (kn : List ℕ) (w : ℕ) → w < R → placed_at R kn w ≡ 0
unfolding placed_at
count-below R kn w h = rw (lt-leb R w h)

pub count_past : (R : ℕ) (kn : List ℕ) (w : ℕ) → R + length kn ≤ w → placed_at R kn w ≡ 0
unfolding placed_at
count_past R kn w h =
    let k : R ≤ w = omega arith in
    let p : length kn ≤ w - R = omega arith in
    rw (le-leb R w k) (get_or-eq_default kn 0 p)

-- the count at a place of the list
pub count-zero : (kn : List ℕ) (i : ℕ) → placed_at 0 kn i ≡ get_or kn i 0
unfolding placed_at
count-zero kn i =
    let e : i - 0 ≡ i = omega arith in
    rw (le-leb 0 i (omega arith), e)

pub count-inside : (R : ℕ) (kn : List ℕ) (i : ℕ) → placed_at R kn (R + i) ≡ placed_at 0 kn i
unfolding placed_at
count-inside R kn i =
    let k : R ≤ R + i = omega arith in
    let e : R + i - R ≡ i = omega arith in
    rw (le-leb R (R + i) k, e) (sym (count-zero kn i))

-- where the clock is known to stand in the window or past it
pub count_index : (R : ℕ) (kn : List ℕ) (w i : ℕ) → w ≡ R + i → placed_at R kn w ≡ placed_at 0 kn i
count_index R kn w i e = rw e (count-inside R kn i)

-- a sound timestamp counts nothing past its sum, and something at it
pub sound-past : (n epsilon R : ℕ) (t : Timestamp) → Sound n epsilon t → (w : ℕ) → R + t.c + epsilon < w → placed_at R t.kn w ≡ 0
sound-past n epsilon R t s w h =
    count_index R t.kn w (w - R) (omega arith) ∙ s.above (w - R) (omega arith)

pub sound-top : (n epsilon R : ℕ) (t : Timestamp) → Sound n epsilon t → 1 ≤ placed_at R t.kn (R + t.c + epsilon)
sound-top n epsilon R t s = rw (count_index R t.kn (R + t.c + epsilon) (epsilon + t.c) (omega arith)) s.top

-- no count of a sound timestamp is above n
pub sound-most : (n epsilon R : ℕ) (t : Timestamp) → Sound n epsilon t → (w : ℕ) → placed_at R t.kn w ≤ n
sound-most n epsilon R t s w =
    elim (lt-or-ge w R) [
      | inl h ↦ rw (count-below R t.kn w h) (omega arith)
      | inr h ↦ rw (count_index R t.kn w (w - R) (omega arith)) (s.most (w - R))
    ]

-- one and the same count, seen from two clocks
pub count-moved : (R R' : ℕ) (kn : List ℕ) (w w' : ℕ) → R + w' ≡ R' + w → placed_at R kn w ≡ placed_at R' kn w'
count-moved R R' kn w w' e =
    elim (lt-or-ge w R) [
      | inl h ↦ count-below R kn w h ∙ sym (count-below R' kn w' (omega arith))
      | inr h ↦ count_index R kn w (w - R) (omega arith) ∙ sym (count_index R' kn w' (w - R) (omega arith))
    ]

-- the test of a bound, as facts and back
pub at-most-from : (bound : ℕ) (kn : List ℕ) → at_most bound kn ≡ true → (i : ℕ) → placed_at 0 kn i ≤ bound
unfolding at_most
at-most-from bound kn h i =
    rw (count-zero kn i)
    (elim (lt-or-ge i (length kn)) [
      | inl k ↦ leb-true (get_or kn i 0) bound (every-index (λ x. leb x bound) kn 0 h i k)
      | inr k ↦ rw (get_or-eq_default kn 0 k) (omega arith)
    ])

pub at-most-to : (bound : ℕ) (kn : List ℕ) → ((i : ℕ) → placed_at 0 kn i ≤ bound) → at_most bound kn ≡ true
unfolding at_most
at-most-to bound kn f =
    every-of-index (λ x. leb x bound) kn 0 (λ i h. le-leb (get_or kn i 0) bound (rw (count-zero kn i) at (f i)))

-- the same of the counts for a clock and those after it
pub at-most-past : (bound epsilon R : ℕ) (kn : List ℕ) (clock : ℕ) → at_most bound (counts_from epsilon R kn clock) ≡ true → (x : ℕ) → clock + epsilon ≤ x → placed_at R kn x ≤ bound
unfolding counts_from count_at
at-most-past bound epsilon R kn clock h x le =
    elim (lt-or-ge (x - (clock + epsilon)) (R + length kn - (clock + epsilon))) [
      | inl k ↦
          let e : clock + (x - (clock + epsilon)) + epsilon ≡ x = omega arith in
          rw (count-zero, get_or-tab (R + length kn - (clock + epsilon)) (λ j. placed_at R kn (clock + j + epsilon)) (x - (clock + epsilon)) 0 k, e) at
          (at-most-from bound (tab (R + length kn - (clock + epsilon)) (λ j. placed_at R kn (clock + j + epsilon))) h (x - (clock + epsilon)))
      | inr k ↦ rw (count_past R kn x (omega arith)) (omega arith)
    ]

pub at-most-past-to : (bound epsilon R : ℕ) (kn : List ℕ) (clock : ℕ) → ((x : ℕ) → clock + epsilon ≤ x → placed_at R kn x ≤ bound) → at_most bound (counts_from epsilon R kn clock) ≡ true
unfolding counts_from count_at
at-most-past-to bound epsilon R kn clock f =
    at-most-to bound (tab (R + length kn - (clock + epsilon)) (λ j. placed_at R kn (clock + j + epsilon))) one
  where
    one : (i : ℕ) → placed_at 0 (tab (R + length kn - (clock + epsilon)) (λ j. placed_at R kn (clock + j + epsilon))) i ≤ bound
    one i =
        rw (count-zero (tab (R + length kn - (clock + epsilon)) (λ j. placed_at R kn (clock + j + epsilon))) i)
        (elim (lt-or-ge i (R + length kn - (clock + epsilon))) [
          | inl k ↦ rw (get_or-tab (R + length kn - (clock + epsilon)) (λ j. placed_at R kn (clock + j + epsilon)) i 0 k) (f (clock + i + epsilon) (omega arith))
          | inr k ↦ rw (get_or-tab-out (R + length kn - (clock + epsilon)) (λ j. placed_at R kn (clock + j + epsilon)) i 0 k) (omega arith)
        ])

-- they are the rest of the list from the place i on, where that place is for the clock
pub counts-from-drop : (epsilon R : ℕ) (kn : List ℕ) (clock i : ℕ) → clock + epsilon ≡ R + i → counts_from epsilon R kn clock ≡ drop i kn
unfolding counts_from count_at
counts-from-drop epsilon R kn clock i e =
    let long : R + length kn - (clock + epsilon) ≡ length kn - i = omega arith in
    rw long
    (tab-ext (length kn - i) (λ j. placed_at R kn (clock + j + epsilon)) (λ j. get_or (drop i kn) j 0) (λ j k. one j)
    ∙ tab-get_or (length kn - i) (drop i kn) 0 (length-drop i kn))
  where
    one : (j : ℕ) → placed_at R kn (clock + j + epsilon) ≡ get_or (drop i kn) j 0
    one j = count_index R kn (clock + j + epsilon) (i + j) (omega arith) ∙ (count-zero kn (i + j) ∙ sym (get_or-drop i kn j 0))

-- and the same ones, seen from two clocks
pub counts-from-moved : (epsilon R R' : ℕ) (kn : List ℕ) (w w' : ℕ) → R + w' ≡ R' + w → counts_from epsilon R kn w ≡ counts_from epsilon R' kn w'
unfolding counts_from count_at
counts-from-moved epsilon R R' kn w w' e =
    let long : R + length kn - (w + epsilon) ≡ R' + length kn - (w' + epsilon) = omega arith in
    ap (λ (n : ℕ). tab n (λ k. placed_at R kn (w + k + epsilon))) long
    ∙ tab-ext (R' + length kn - (w' + epsilon)) (λ k. placed_at R kn (w + k + epsilon)) (λ k. placed_at R' kn (w' + k + epsilon))
    (λ k h. count-moved R R' kn (w + k + epsilon) (w' + k + epsilon) (omega arith))

-- the tests as facts, both ways
pub sound-from : (n epsilon : ℕ) (t : Timestamp) → 1 ≤ epsilon → length t.kn ≡ width epsilon → sound_timestamp n epsilon t ≡ true → Sound n epsilon t
unfolding sound_timestamp count_at
sound-from n epsilon t e w h =
    let rest : (at_most n t.kn && (leb 1 (placed_at 0 t.kn (t.c + epsilon)) && at_most 0 (counts_from epsilon 0 t.kn (t.c + 1)))) ≡ true =
    and_right (leb t.c (epsilon - 1)) _ h in
    let last : (leb 1 (placed_at 0 t.kn (t.c + epsilon)) && at_most 0 (counts_from epsilon 0 t.kn (t.c + 1))) ≡ true =
    and_right (at_most n t.kn) _ rest in
    let near : t.c ≤ epsilon - 1 = leb-true t.c (epsilon - 1) (and_left _ _ h) in
    let same : t.c + epsilon ≡ epsilon + t.c = omega arith in
    record {
      wide = w;
      close = omega arith;
      most = at-most-from n t.kn (and_left _ _ rest);
      top = subst (λ (x : ℕ). 1 ≤ placed_at 0 t.kn x) same (leb-true 1 (placed_at 0 t.kn (t.c + epsilon)) (and_left _ _ last));
      above = λ i k.
          let z : placed_at 0 t.kn i ≤ 0 =
          at-most-past 0 epsilon 0 t.kn (t.c + 1) (and_right (leb 1 (placed_at 0 t.kn (t.c + epsilon))) _ last) i (omega arith) in
          omega arith;
    }

pub sound-to : (n epsilon : ℕ) (t : Timestamp) → Sound n epsilon t → sound_timestamp n epsilon t ≡ true
unfolding sound_timestamp count_at
sound-to n epsilon t s =
    let same : epsilon + t.c ≡ t.c + epsilon = omega arith in
    and_intro (le-leb t.c (epsilon - 1) (omega arith)) (and_intro (at-most-to n t.kn s.most)
    (and_intro (le-leb 1 (placed_at 0 t.kn (t.c + epsilon)) (subst (λ (x : ℕ). 1 ≤ placed_at 0 t.kn x) same s.top))
    (at-most-past-to 0 epsilon 0 t.kn (t.c + 1) (λ i h. let z : placed_at 0 t.kn i ≡ 0 = s.above i (omega arith) in omega arith))))

-- the last clock, of tables or of an observer: it is below B, and lies 1 to ε before v
pub clock-steps : (epsilon B v r : ℕ) → sound_clock epsilon B v r ≡ true → (1 ≤ clock_step B r v) × (clock_step B r v ≤ epsilon)
unfolding within
clock-steps epsilon B v r h =
    let w = and_right (ltb r B) (leb 1 (clock_step B r v) && leb (clock_step B r v) epsilon) h in
    (leb-true 1 (clock_step B r v) (and_left _ _ w), leb-true (clock_step B r v) epsilon (and_right (leb 1 (clock_step B r v)) _ w))

pub clock-sound : (epsilon B v r k : ℕ) → r < B → clock_step B r v ≡ k → 1 ≤ k → k ≤ epsilon → sound_clock epsilon B v r ≡ true
unfolding within
clock-sound epsilon B v r k below e pos few = and_intro (lt-ltb r B below) (rw e (and_intro (le-leb 1 k pos) (le-leb k epsilon few)))

-- the tests that tables pass: of their stamp, of their clock, whatever it is, and of the counts past it
beside-rest : (clock : Bool) (n epsilon : ℕ) (t : Timestamp) → sound_beside clock n epsilon t ≡ true → (clock && at_most (n - 1) (counts_from epsilon 0 t.kn 1)) ≡ true
beside-rest clock n epsilon t h = and_right (sound_timestamp n epsilon t) _ h

pub beside-clock : (clock : Bool) (n epsilon : ℕ) (t : Timestamp) → sound_beside clock n epsilon t ≡ true → clock ≡ true
beside-clock clock n epsilon t h = and_left clock _ (beside-rest clock n epsilon t h)

beside-sound : (clock : Bool) (n epsilon : ℕ) (t : Timestamp) → sound_beside clock n epsilon t ≡ true → sound_timestamp n epsilon t ≡ true
beside-sound clock n epsilon t h = and_left (sound_timestamp n epsilon t) _ h

-- no count of sound tables past their clock is full
beside-room : (clock : Bool) (n epsilon : ℕ) (t : Timestamp) → sound_beside clock n epsilon t ≡ true → (i : ℕ) → epsilon < i → placed_at 0 t.kn i ≤ n - 1
beside-room clock n epsilon t h i k =
    at-most-past (n - 1) epsilon 0 t.kn 1 (and_right clock _ (beside-rest clock n epsilon t h)) i (omega arith)

pub tables-clock : (n epsilon B v : ℕ) (t : Timestamp) → sound_tables n epsilon B v t ≡ true → sound_clock epsilon B v t.r ≡ true
unfolding sound_tables
tables-clock n epsilon B v t h = beside-clock (sound_clock epsilon B v t.r) n epsilon t h

-- the step of sound tables is 1 to ε
pub tables_step : (n epsilon B v : ℕ) (t : Timestamp) → sound_tables n epsilon B v t ≡ true → (1 ≤ clock_step B t.r v) × (clock_step B t.r v ≤ epsilon)
tables_step n epsilon B v t h = clock-steps epsilon B v t.r (tables-clock n epsilon B v t h)

pub tables-below : (n epsilon B v : ℕ) (t : Timestamp) → sound_tables n epsilon B v t ≡ true → t.r < B
tables-below n epsilon B v t h = ltb-true t.r B (and_left (ltb t.r B) _ (tables-clock n epsilon B v t h))

pub trimmed-wide : (epsilon : ℕ) (t : Timestamp) → length (trimmed epsilon t).kn ≡ width epsilon
unfolding trimmed
trimmed-wide epsilon t = length-tab (width epsilon) (λ i. get_or t.kn i 0)

pub trimmed-widened : (epsilon : ℕ) (t : Timestamp) → epsilon ≤ 16 → length t.kn ≡ width epsilon → trimmed epsilon (widened t) ≡ t
unfolding trimmed widened
trimmed-widened epsilon t h w =
    let e : tab (width epsilon) (λ i. get_or (padded widest t.kn) i 0) ≡ t.kn =
    tab-ext (width epsilon) (λ i. get_or (padded widest t.kn) i 0) (λ i. get_or t.kn i 0) (λ i k. get_or-padded widest t.kn i)
    ∙ tab-get_or (width epsilon) t.kn 0 w in
    λ i. record { r = t.r; c = t.c; kn = e i }

pub trimmed-same : (epsilon : ℕ) (t : Timestamp) → length t.kn ≡ width epsilon → trimmed epsilon t ≡ t
unfolding trimmed
trimmed-same epsilon t w = ap (λ (l : List ℕ). record { r = t.r; c = t.c; kn = l }) (tab-get_or (width epsilon) t.kn 0 w)

-- the counts in the order of two timestamps
pub length-down : (epsilon : ℕ) (t : Timestamp) → length (counts_down epsilon t) ≡ epsilon
unfolding counts_down
length-down epsilon t = length-tab epsilon (λ k. count_at epsilon epsilon t.kn (epsilon + t.c - k))

-- with r at 0
pub down-counts : (epsilon : ℕ) (t : Timestamp) → counts_down epsilon t ≡ tab epsilon (λ k. placed_at 0 t.kn (epsilon + t.c - k))
unfolding counts_down count_at
down-counts epsilon t =
    tab-ext epsilon (λ k. placed_at epsilon t.kn (epsilon + t.c - k + epsilon)) (λ k. placed_at 0 t.kn (epsilon + t.c - k))
    (λ k h. count-moved epsilon 0 t.kn (epsilon + t.c - k + epsilon) (epsilon + t.c - k) (omega arith))

-- the same by the places of the list
pub down-places : (epsilon : ℕ) (t : Timestamp) → counts_down epsilon t ≡ tab epsilon (λ k. get_or t.kn (epsilon + t.c - k) 0)
down-places epsilon t =
    down-counts epsilon t
    ∙ tab-ext epsilon (λ k. placed_at 0 t.kn (epsilon + t.c - k)) (λ k. get_or t.kn (epsilon + t.c - k) 0)
    (λ k h. count-zero t.kn (epsilon + t.c - k))

-- counts k offsets further down
pub shift-at : (k : ℕ) (kn : List ℕ) (i : ℕ) → placed_at 0 (shift k kn) i ≡ placed_at 0 kn (k + i)
unfolding shift
shift-at k kn i =
    count-zero (drop k kn ++ replicate k 0) i
    ∙ (get_or-append-zeros (drop k kn) k i ∙ (get_or-drop k kn i 0 ∙ sym (count-zero kn (k + i))))

pub length_shift : (k : ℕ) (kn : List ℕ) → k ≤ length kn → length (shift k kn) ≡ length kn
unfolding shift
length_shift k kn h =
    omega (arith, length-append (drop k kn) (replicate k 0), length-drop k kn, length-replicate {A = ℕ} k 0)

-- what sound tables are at their own clock: a sound timestamp, with no full count past it
pub record Left (n epsilon : ℕ) (t : Timestamp) : Type 0 where
  pub sound : Sound n epsilon t
  pub room : (i : ℕ) → epsilon < i → placed_at 0 t.kn i ≤ n - 1

pub beside-left : (clock : Bool) (n epsilon : ℕ) (t : Timestamp) → 1 ≤ epsilon → length t.kn ≡ width epsilon → sound_beside clock n epsilon t ≡ true → Left n epsilon t
beside-left clock n epsilon t e w h =
    record { sound = sound-from n epsilon t e w (beside-sound clock n epsilon t h); room = beside-room clock n epsilon t h }

-- tick 1 and 2, with a step of k
pub opened-step : (n epsilon k v : ℕ) (t : Timestamp) → 1 ≤ n → 1 ≤ k → k ≤ width epsilon → Left n epsilon t → Opened n epsilon (step k v t)
unfolding step width
opened-step n epsilon k v t n_pos pos most left =
    let s : Sound n epsilon t = left.sound in
    record {
      wide = length_shift k t.kn (omega (arith, s.wide)) ∙ s.wide;
      close = omega (arith, s.close);
      most = λ i. rw (shift-at k t.kn i) (s.most (k + i));
      room = λ i h. rw (shift-at k t.kn i) (let z : placed_at 0 t.kn (k + i) ≤ n - 1 = left.room (k + i) (omega arith) in omega arith);
      top =
          elim (lt-or-ge k t.c) [
            | inl h ↦
                let j : k + (epsilon + (t.c - k)) ≡ epsilon + t.c = omega arith in
                inr (rw (shift-at k t.kn (epsilon + (t.c - k)), j) s.top)
            | inr h ↦ inl (omega arith)
          ];
      above = λ i h. shift-at k t.kn i ∙ s.above (k + i) (omega arith);
    }

-- the same into another half width, of tables that have fewer counts or as many (02, 2.10): what is missing is 0
pub into-at :
    (epsilon half k v : ℕ) (t : Timestamp) (i : ℕ) → length t.kn ≡ width half → half ≤ epsilon
    → placed_at 0 (step_into epsilon half k v t).kn i ≡ placed_at epsilon t.kn (k + i + half)
unfolding step_into count_at width
into-at epsilon half k v t i wide more =
    count-zero (tab (width epsilon) (λ j. placed_at epsilon t.kn (k + j + half))) i
    ∙ elim (lt-or-ge i (width epsilon)) [
      | inl h ↦ get_or-tab (width epsilon) (λ j. placed_at epsilon t.kn (k + j + half)) i 0 h
      | inr h ↦
          get_or-tab-out (width epsilon) (λ j. placed_at epsilon t.kn (k + j + half)) i 0 h
          ∙ sym (count_past epsilon t.kn (k + i + half) (omega arith))
    ]

pub opened-into : (n epsilon half k v : ℕ) (t : Timestamp) → 1 ≤ n → 1 ≤ k → half ≤ epsilon → Left n half t → Opened n epsilon (step_into epsilon half k v t)
unfolding step_into count_at
opened-into n epsilon half k v t n_pos pos more left =
    let s : Sound n half t = left.sound in
    let at : (i : ℕ) → placed_at 0 (step_into epsilon half k v t).kn i ≡ placed_at epsilon t.kn (k + i + half) = λ i. into-at epsilon half k v t i s.wide more in
    record {
      wide = length-tab (width epsilon) (λ j. placed_at epsilon t.kn (k + j + half));
      close = omega (arith, s.close);
      most = λ i. rw (at i) (sound-most n half epsilon t s (k + i + half));
      room = λ i h.
          rw (at i, count_index epsilon t.kn (k + i + half) (k + i + half - epsilon) (omega arith))
          (let z : placed_at 0 t.kn (k + i + half - epsilon) ≤ n - 1 = left.room (k + i + half - epsilon) (omega arith) in omega arith);
      top =
          elim (lt-or-ge k t.c) [
            | inl h ↦
                inr (rw (at (epsilon + (t.c - k)), count_index epsilon t.kn (k + (epsilon + (t.c - k)) + half) (half + t.c) (omega arith)) s.top)
            | inr h ↦ inl (omega arith)
          ];
      above = λ i h. at i ∙ sound-past n half epsilon t s (k + i + half) (omega arith);
    }

count_zeros : (width i : ℕ) → placed_at 0 (replicate width 0) i ≡ 0
count_zeros width i = count-zero (replicate width 0) i ∙ get_or-zeros width i

pub opened-replaced : (n epsilon v : ℕ) → 1 ≤ n → 1 ≤ epsilon → Opened n epsilon (replaced epsilon v)
unfolding replaced
opened-replaced n epsilon v n_pos e =
    record {
      wide = length-replicate (width epsilon) 0;
      close = omega arith;
      most = λ i. rw (count_zeros (width epsilon) i) (omega arith);
      room = λ i k. rw (count_zeros (width epsilon) i) (omega arith);
      top = inl refl;
      above = λ i k. count_zeros (width epsilon) i;
    }

-- a step of k moves no count to another clock
pub step_count : (k x v : ℕ) (t : Timestamp) (w : ℕ) → x + k ≤ w → placed_at (x + k) (step k v t).kn w ≡ placed_at x t.kn w
unfolding step
step_count k x v t w h =
    count_index (x + k) (shift k t.kn) w (w - (x + k)) (omega arith) ∙ shift-at k t.kn (w - (x + k))
    ∙ sym (count_index x t.kn w (k + (w - (x + k))) (omega arith))

pub replaced-count : (epsilon R v w : ℕ) → placed_at R (replaced epsilon v).kn w ≡ 0
unfolding replaced
replaced-count epsilon R v w =
    elim (lt-or-ge w R) [
      | inl h ↦ count-below R (replicate (width epsilon) 0) w h
      | inr h ↦
          count_index R (replicate (width epsilon) 0) w (w - R) (omega arith) ∙ count_zeros (width epsilon) (w - R)
    ]

-- tick 3, of a frame with counts of its own half width (02, 2.10); with one width for both it is `absorb`
module _ (epsilon half B reading : ℕ) (t f : Timestamp) where
  -- what the frame says of the clock at a place
  abbrev pub heard_count : ℕ → ℕ
  heard_count i = placed_at (reading + epsilon) f.kn (B + i + half)

  abbrev pub absorbed : Timestamp
  absorbed = absorb_wide epsilon half B t reading f

  pub absorbed-at : (i : ℕ) → i < width epsilon → placed_at 0 absorbed.kn i ≡ max (placed_at 0 t.kn i) (heard_count i)
  unfolding absorb_wide count_at
  absorbed-at i h =
      count-zero (tab (width epsilon) (λ j. max (placed_at (B + epsilon) t.kn (B + j + epsilon)) (heard_count j))) i
      ∙ (get_or-tab (width epsilon) (λ j. max (placed_at (B + epsilon) t.kn (B + j + epsilon)) (heard_count j)) i 0 h
      ∙ rw (count-moved (B + epsilon) 0 t.kn (B + i + epsilon) i (omega arith)))

  absorbed-out : (i : ℕ) → width epsilon ≤ i → placed_at 0 absorbed.kn i ≡ 0
  unfolding absorb_wide count_at
  absorbed-out i h =
      count-zero (tab (width epsilon) (λ j. max (placed_at (B + epsilon) t.kn (B + j + epsilon)) (heard_count j))) i
      ∙ get_or-tab-out (width epsilon) (λ j. max (placed_at (B + epsilon) t.kn (B + j + epsilon)) (heard_count j)) i 0 h

  -- a bound on both is one on the larger
  absorbed-bound : (bound i : ℕ) → placed_at 0 t.kn i ≤ bound → heard_count i ≤ bound → placed_at 0 absorbed.kn i ≤ bound
  absorbed-bound bound i p q =
      elim (lt-or-ge i (width epsilon)) [
        | inl h ↦ rw (absorbed-at i h) (omega arith)
        | inr h ↦ rw (absorbed-out i h) (omega arith)
      ]

  -- with the frame's reading at its true clock R and v at the true clock v; the clock w is named by w + ε in the stamp, by w + half in the frame
  pub absorbed-count :
      (v R : ℕ) → reading + v ≡ B + R → (w : ℕ) → v ≤ w + epsilon → w < v + epsilon
      → count_at epsilon v absorbed.kn w ≡ max (count_at epsilon v t.kn w) (count_at half R f.kn w)
  unfolding count_at width
  absorbed-count v R e w lo hi =
      let i : ℕ = w + epsilon - v in
      count_index v absorbed.kn (w + epsilon) i (omega arith)
      ∙ absorbed-at i (omega arith)
      ∙ rw (count_index v t.kn (w + epsilon) i (omega arith), count-moved (reading + epsilon) R f.kn (B + i + half) (w + half) (omega arith))

  pub absorbed-sum : (v R : ℕ) → reading + v ≡ B + R → v + absorbed.c ≡ max (v + t.c) (max v (R + f.c))
  unfolding absorb_wide sum
  absorbed-sum v R e = omega arith

  pub absorbed-wide : length absorbed.kn ≡ width epsilon
  unfolding absorb_wide count_at
  absorbed-wide = length-tab (width epsilon) (λ j. max (placed_at (B + epsilon) t.kn (B + j + epsilon)) (heard_count j))

  absorbed-close : 1 ≤ epsilon → t.c < epsilon → sum reading f.c ≤ B + (epsilon - 1) → absorbed.c < epsilon
  unfolding absorb_wide sum
  absorbed-close e close early = omega arith

  absorbed-above : (i : ℕ) → epsilon + absorbed.c < i → max t.c (reading + f.c - B) < i - epsilon
  unfolding absorb_wide sum
  absorbed-above i h = omega arith

  -- the larger of the two sums still has a count, if it is past v
  absorbed-top :
      (n : ℕ) → 1 ≤ epsilon → Opened n epsilon t → Sound n half f → sum reading f.c ≤ B + (epsilon - 1)
      → (absorbed.c ≡ 0) ⊎ (1 ≤ placed_at 0 absorbed.kn (epsilon + absorbed.c))
  unfolding sum width
  absorbed-top n e o s early =
      elim (lt-or-ge t.c (reading + f.c - B)) [
        | inl h ↦
            let q : absorbed.c ≡ reading + f.c - B = unfold absorb_wide sum in (omega arith) in
            inr (rw (q, absorbed-at (epsilon + (reading + f.c - B)) (omega arith))
            (let z : 1 ≤ heard_count (epsilon + (reading + f.c - B)) =
            rw (count_index (reading + epsilon) f.kn (B + (epsilon + (reading + f.c - B)) + half) (half + f.c) (omega arith)) s.top in
            omega arith))
        | inr h ↦
            let q : absorbed.c ≡ t.c = unfold absorb_wide sum in (omega arith) in
            elim o.top [
              | inl k ↦ inl (q ∙ k)
              | inr k ↦ inr (rw (q, absorbed-at (epsilon + t.c) (omega arith)) (omega arith))
            ]
      ]

  -- questions 12, 14 and 15 keep the stamp open (reading is near v, which reads B)
  pub absorbed-opened :
      (n : ℕ) → 1 ≤ n → 1 ≤ epsilon → Opened n epsilon t → Sound n half f → sum reading f.c ≤ B + (epsilon - 1)
      → at_most (n - 1) (counts_from half reading f.kn B) ≡ true → Opened n epsilon absorbed
  absorbed-opened n n_pos e o s early full =
      record {
        wide = absorbed-wide;
        close = absorbed-close e o.close early;
        most = λ i. absorbed-bound n i (o.most i) (sound-most n half (reading + epsilon) f s (B + i + half));
        room = λ i k.
            let own : placed_at 0 t.kn i < n = o.room i k in
            let heard : placed_at reading f.kn (B + (i - epsilon) + half) ≤ n - 1 =
            at-most-past (n - 1) half reading f.kn B full (B + (i - epsilon) + half) (omega arith) in
            let here : heard_count i ≡ placed_at reading f.kn (B + (i - epsilon) + half) =
            count-moved (reading + epsilon) reading f.kn (B + i + half) (B + (i - epsilon) + half) (omega arith) in
            let z : placed_at 0 absorbed.kn i ≤ n - 1 = absorbed-bound (n - 1) i (omega arith) (omega arith) in
            omega arith;
        top = absorbed-top n e o s early;
        above = λ i k.
            let c : max t.c (reading + f.c - B) < i - epsilon = absorbed-above i k in
            let z : placed_at 0 absorbed.kn i ≤ 0 =
            absorbed-bound 0 i
            (rw (o.above i (omega arith)) (omega arith))
            (rw (sound-past n half (reading + epsilon) f s (B + i + half) (omega arith)) (omega arith)) in
            omega arith;
      }

-- with one width for both
module _ (epsilon B reading : ℕ) (t f : Timestamp) where
  pub absorb-at : (i : ℕ) → i < width epsilon → placed_at 0 (absorb epsilon B t reading f).kn i ≡ max (placed_at 0 t.kn i) (placed_at reading f.kn (B + i))
  unfolding absorb absorb_wide
  absorb-at i h =
      absorbed-at epsilon epsilon B reading t f i h
      ∙ ap (λ (x : ℕ). max (placed_at 0 t.kn i) x) (count-moved (reading + epsilon) reading f.kn (B + i + epsilon) (B + i) (omega arith))

  pub absorb-wide : length (absorb epsilon B t reading f).kn ≡ width epsilon
  unfolding absorb absorb_wide
  absorb-wide = absorbed-wide epsilon epsilon B reading t f

pub opened-absorb : (n epsilon B reading : ℕ) (t f : Timestamp) → 1 ≤ n → 1 ≤ epsilon → Opened n epsilon t → Sound n epsilon f → reading < B + epsilon → sum reading f.c ≤ B + (epsilon - 1) → at_most (n - 1) (counts_from epsilon reading f.kn B) ≡ true → Opened n epsilon (absorb epsilon B t reading f)
unfolding absorb absorb_wide
opened-absorb n epsilon B reading t f n_pos e o s hi early full = absorbed-opened epsilon epsilon B reading t f n n_pos e o s early full

-- the list with the count at a place one higher: the others, and that one
pub own_at : (kn : List ℕ) (i j : ℕ) → (j ≡ i → ⊥) → placed_at 0 (set kn i (get_or kn i 0 + 1)) j ≡ placed_at 0 kn j
own_at kn i j ne =
    count-zero (set kn i (get_or kn i 0 + 1)) j ∙ (get_or-set_other kn i j (get_or kn i 0 + 1) 0 ne ∙ sym (count-zero kn j))

own-here : (kn : List ℕ) (i : ℕ) → i < length kn → placed_at 0 (set kn i (get_or kn i 0 + 1)) i ≡ placed_at 0 kn i + 1
own-here kn i h =
    count-zero (set kn i (get_or kn i 0 + 1)) i
    ∙ (get_or-set_same kn i (get_or kn i 0 + 1) 0 h ∙ ap (λ (x : ℕ). x + 1) (sym (count-zero kn i)))

-- tick 4
pub own-count : (epsilon v x : ℕ) (t : Timestamp) → length t.kn ≡ width epsilon → 1 ≤ epsilon → (w : ℕ) → (w ≡ v + epsilon → ⊥) → placed_at v (count_own epsilon x t).kn w ≡ placed_at v t.kn w
unfolding count_own
own-count epsilon v x t wide e w ne =
    elim (lt-or-ge w v) [
      | inl h ↦ count-below v (set t.kn epsilon (get_or t.kn epsilon 0 + 1)) w h ∙ sym (count-below v t.kn w h)
      | inr h ↦
          count_index v (set t.kn epsilon (get_or t.kn epsilon 0 + 1)) w (w - v) (omega arith)
          ∙ own_at t.kn epsilon (w - v) (λ q. ne (omega arith)) ∙ sym (count_index v t.kn w (w - v) (omega arith))
    ]

pub own-count-here : (epsilon v x : ℕ) (t : Timestamp) → length t.kn ≡ width epsilon → 1 ≤ epsilon → placed_at v (count_own epsilon x t).kn (v + epsilon) ≡ placed_at v t.kn (v + epsilon) + 1
unfolding count_own width
own-count-here epsilon v x t wide e =
    count-inside v (set t.kn epsilon (get_or t.kn epsilon 0 + 1)) epsilon
    ∙ own-here t.kn epsilon (omega arith)
    ∙ ap (λ (n : ℕ). n + 1) (sym (count-inside v t.kn epsilon))

pub own-sound : (n epsilon v : ℕ) (t : Timestamp) → 1 ≤ epsilon → Opened n epsilon t → Sound n epsilon (count_own epsilon v t)
unfolding count_own width
own-sound n epsilon v t e o =
    let same : placed_at 0 (set t.kn epsilon (get_or t.kn epsilon 0 + 1)) epsilon ≡ placed_at 0 t.kn epsilon + 1 =
    own-here t.kn epsilon (omega arith) in
    record {
      wide = length-set t.kn epsilon (get_or t.kn epsilon 0 + 1) ∙ o.wide;
      close = o.close;
      most = λ i.
          elim (eq-or-ne i epsilon) [
            | inl q ↦ rw (q, same) (let z : placed_at 0 t.kn epsilon < n = o.room epsilon (omega arith) in omega arith)
            | inr q ↦ rw (own_at t.kn epsilon i q) (o.most i)
          ];
      top =
          elim (eq-or-ne (epsilon + t.c) epsilon) [
            | inl q ↦ rw (q, same) (omega arith)
            | inr q ↦ rw (own_at t.kn epsilon (epsilon + t.c) q) (elim o.top [ inl k ↦ absurd (q (omega arith)) | inr k ↦ k ])
          ];
      above = λ i k.
          own_at t.kn epsilon i (λ q. omega arith) ∙ o.above i k;
    }

-- what a tick leaves: a sound timestamp with no full count past its clock
pub own-left : (n epsilon v : ℕ) (t : Timestamp) → 1 ≤ n → 1 ≤ epsilon → Opened n epsilon t → Left n epsilon (count_own epsilon v t)
own-left n epsilon v t n_pos e o =
    record {
      sound = own-sound n epsilon v t e o;
      room = unfold count_own in (λ i k. rw (own_at t.kn epsilon i (λ q. omega arith)) (let z : placed_at 0 t.kn i < n = o.room i (omega arith) in omega arith));
    }

-- such tables are sound where their clock is
pub left-beside : (clock : Bool) (n epsilon : ℕ) (t : Timestamp) → Left n epsilon t → clock ≡ true → sound_beside clock n epsilon t ≡ true
left-beside clock n epsilon t left sound =
    and_intro (sound-to n epsilon t left.sound) (and_intro sound
    (at-most-past-to (n - 1) epsilon 0 t.kn 1 (λ i k. left.room i (omega arith))))

-- that is for the clocks 1 to ε after theirs
pub left-tables : (n epsilon B : ℕ) (t : Timestamp) → Left n epsilon t → t.r < B → (v k : ℕ) → clock_step B t.r v ≡ k → 1 ≤ k → k ≤ epsilon → sound_tables n epsilon B v t ≡ true
unfolding sound_tables
left-tables n epsilon B t left below v k e pos few =
    left-beside (sound_clock epsilon B v t.r) n epsilon t left (clock-sound epsilon B v t.r k below e pos few)

-- fresh tables are replaced ones after their own event
pub fresh-own : (epsilon clock : ℕ) → fresh epsilon clock ≡ count_own epsilon clock (replaced epsilon clock)
unfolding fresh count_own replaced
fresh-own epsilon clock = rw (get_or-zeros (width epsilon) epsilon)

-- fresh tables
pub fresh-left : (n epsilon clock : ℕ) → 1 ≤ n → 1 ≤ epsilon → Left n epsilon (fresh epsilon clock)
fresh-left n epsilon clock n_pos e =
    rw (fresh-own epsilon clock) (own-left n epsilon clock (replaced epsilon clock) n_pos e (opened-replaced n epsilon clock n_pos e))
