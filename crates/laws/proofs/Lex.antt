-- Laws of the lexicographic order: it is a strict total order, and the first difference decides it.
-- Assumes nothing.
use Prim.Native.Nat.{ℕ, zero, suc, ◌+◌, ◌*◌, ◌/◌, ◌^◌, ◌≤◌, ◌<◌, zero-le, suc-le-suc, compare, Ordering}
use native.Mathlib.Omega.{arith}
use native.Mathlib.Nat.{suc_inj, not-suc-le-zero, le_of_suc-le-suc, add-zero, add-suc, mul_comm, mul_assoc, pow-zero, pow-suc, div-one, div-div-eq-div-mul}
use mathlib.Core.Bool.{true}
use mathlib.Core.List.{List, [], ◌∷◌, ◌++◌}
use mathlib.Core.Logic.{◌⊎◌, inl, inr}
use mathlib.Core.Path.{◌≡◌, refl, sym, ap, ap₂, ◌∙◌}
use lib.ListN.{length, get_or}
use borrow.Author.Tests.{eq-eqb, ne_eqb}
use Rattle.laws.specs.Lists.{tab}
use Rattle.laws.specs.Lex.{or_else, is_less, lex_compare, first_difference, number_of}
use Rattle.laws.proofs.Lists.{length-tab, tab-suc}
use Rattle.laws.proofs.Numbers.{lt-or-ge, eq-or-ne, clash}
use Rattle.laws.proofs.Numbers.{compare-lt, compare-gt, compare-eq, compare-add}

-- the answer with the two sides exchanged
abbrev pub flipped : Ordering → Ordering
flipped Ordering.lt = Ordering.gt
flipped Ordering.eq = Ordering.eq
flipped Ordering.gt = Ordering.lt

pub ordering-cases : (o : Ordering) → (o ≡ Ordering.lt) ⊎ ((o ≡ Ordering.eq) ⊎ (o ≡ Ordering.gt))
ordering-cases Ordering.lt = inl refl
ordering-cases Ordering.eq = inr (inl refl)
ordering-cases Ordering.gt = inr (inr refl)

-- no answer is two answers
pub lt-not-eq : {o : Ordering} → o ≡ Ordering.lt → o ≡ Ordering.eq → ⊥
lt-not-eq p q = let z : ◌≡◌ {A = ℕ} 0 1 = cc in omega arith

pub lt-not-gt : {o : Ordering} → o ≡ Ordering.lt → o ≡ Ordering.gt → ⊥
lt-not-gt p q = let z : ◌≡◌ {A = ℕ} 0 1 = cc in omega arith

pub eq-not-gt : {o : Ordering} → o ≡ Ordering.eq → o ≡ Ordering.gt → ⊥
eq-not-gt p q = let z : ◌≡◌ {A = ℕ} 0 1 = cc in omega arith

pub is_less-lt : (o : Ordering) → is_less o ≡ true → o ≡ Ordering.lt
is_less-lt Ordering.lt e = refl
is_less-lt Ordering.eq e = absurd (clash e refl)
is_less-lt Ordering.gt e = absurd (clash e refl)

pub lt-is_less : {o : Ordering} → o ≡ Ordering.lt → is_less o ≡ true
lt-is_less e = ap is_less e

pub compare-flip : (x y : ℕ) → compare y x ≡ flipped (compare x y)
compare-flip x y =
    elim (lt-or-ge x y) [
      | inl h ↦ compare-gt h ∙ sym (ap flipped (compare-lt h))
      | inr h ↦
          elim (lt-or-ge y x) [
            | inl k ↦ compare-lt k ∙ sym (ap flipped (compare-gt k))
            | inr k ↦
                let e : x ≡ y = omega arith in
                compare-eq (sym e) ∙ sym (ap flipped (compare-eq e))
          ]
    ]

or_else-flip : (o q : Ordering) → or_else (flipped o) (flipped q) ≡ flipped (or_else o q)
or_else-flip Ordering.lt q = refl
or_else-flip Ordering.eq q = refl
or_else-flip Ordering.gt q = refl

pub or_else-assoc : (o q r : Ordering) → or_else (or_else o q) r ≡ or_else o (or_else q r)
or_else-assoc Ordering.lt q r = refl
or_else-assoc Ordering.eq q r = refl
or_else-assoc Ordering.gt q r = refl

-- the head decides, unless it is the same
pub lex-head-lt : (x y : ℕ) (a b : List ℕ) → x < y → lex_compare (x ∷ a) (y ∷ b) ≡ Ordering.lt
unfolding lex_compare
lex-head-lt x y a b h = rw (compare-lt h)

pub lex-head-gt : (x y : ℕ) (a b : List ℕ) → y < x → lex_compare (x ∷ a) (y ∷ b) ≡ Ordering.gt
unfolding lex_compare
lex-head-gt x y a b h = rw (compare-gt h)

pub lex-head-eq : (x y : ℕ) (a b : List ℕ) → x ≡ y → lex_compare (x ∷ a) (y ∷ b) ≡ lex_compare a b
unfolding lex_compare
lex-head-eq x y a b h = rw (compare-eq h)

-- how a list comes before another
pub lex-lt-cases : (x y : ℕ) (a b : List ℕ) → lex_compare (x ∷ a) (y ∷ b) ≡ Ordering.lt → (x < y) ⊎ ((x ≡ y) × (lex_compare a b ≡ Ordering.lt))
lex-lt-cases x y a b h =
    elim (lt-or-ge x y) [
      | inl k ↦ inl k
      | inr k ↦
          elim (eq-or-ne x y) [
            | inl e ↦ inr (e, sym (lex-head-eq x y a b e) ∙ h)
            | inr n ↦ absurd (lt-not-gt h (lex-head-gt x y a b (omega arith)))
          ]
    ]

-- a strict total order
pub lex-refl : (l : List ℕ) → lex_compare l l ≡ Ordering.eq
unfolding lex_compare
lex-refl [] = refl
lex-refl (x ∷ l) = lex-head-eq x x l l refl ∙ lex-refl l

pub lex-flip : (a b : List ℕ) → lex_compare b a ≡ flipped (lex_compare a b)
unfolding lex_compare
lex-flip [] [] = refl
lex-flip [] (y ∷ b) = refl
lex-flip (x ∷ a) [] = refl
lex-flip (x ∷ a) (y ∷ b) =
    rw (compare-flip x y, lex-flip a b) (or_else-flip (compare x y) (lex_compare a b))

pub lex-eq : (a b : List ℕ) → lex_compare a b ≡ Ordering.eq → a ≡ b
unfolding lex_compare
lex-eq [] [] h = refl
lex-eq [] (y ∷ b) h = absurd (lt-not-eq refl h)
lex-eq (x ∷ a) [] h = absurd (eq-not-gt h refl)
lex-eq (x ∷ a) (y ∷ b) h =
    elim (eq-or-ne x y) [
      | inl e ↦ ap₂ ◌∷◌ e (lex-eq a b (sym (lex-head-eq x y a b e) ∙ h))
      | inr n ↦
          elim (lt-or-ge x y) [
            | inl k ↦ absurd (lt-not-eq (lex-head-lt x y a b k) h)
            | inr k ↦ absurd (eq-not-gt h (lex-head-gt x y a b (omega arith)))
          ]
    ]

pub lex-lt-of-gt : (a b : List ℕ) → lex_compare a b ≡ Ordering.gt → lex_compare b a ≡ Ordering.lt
lex-lt-of-gt a b h = lex-flip a b ∙ ap flipped h

pub lex_irrefl : (a : List ℕ) → lex_compare a a ≡ Ordering.lt → ⊥
lex_irrefl a h = lt-not-eq h (lex-refl a)

pub lex-trans : (a b c : List ℕ) → lex_compare a b ≡ Ordering.lt → lex_compare b c ≡ Ordering.lt → lex_compare a c ≡ Ordering.lt
unfolding lex_compare
lex-trans a [] [] h k = absurd (lt-not-eq k refl)
lex-trans [] [] (z ∷ c) h k = refl
lex-trans (x ∷ a) [] (z ∷ c) h k = absurd (lt-not-gt h refl)
lex-trans a (y ∷ b) [] h k = absurd (lt-not-gt k refl)
lex-trans [] (y ∷ b) (z ∷ c) h k = refl
lex-trans (x ∷ a) (y ∷ b) (z ∷ c) h k =
    go (lex-lt-cases x y a b h) (lex-lt-cases y z b c k)
    (λ (p : lex_compare a b ≡ Ordering.lt) (q : lex_compare b c ≡ Ordering.lt). lex-trans a b c p q)
  where
    go : (x < y) ⊎ ((x ≡ y) × (lex_compare a b ≡ Ordering.lt)) → (y < z) ⊎ ((y ≡ z) × (lex_compare b c ≡ Ordering.lt)) → (lex_compare a b ≡ Ordering.lt → lex_compare b c ≡ Ordering.lt → lex_compare a c ≡ Ordering.lt) → lex_compare (x ∷ a) (z ∷ c) ≡ Ordering.lt
    go (inl p) (inl q) f = lex-head-lt x z a c (omega arith)
    go (inl p) (inr q) f = lex-head-lt x z a c (omega arith)
    go (inr p) (inl q) f = lex-head-lt x z a c (omega arith)
    go (inr p) (inr q) f = lex-head-eq x z a c (p.0 ∙ q.0) ∙ f p.1 q.1

pub lex-total : (a b : List ℕ) → (lex_compare a b ≡ Ordering.lt) ⊎ ((a ≡ b) ⊎ (lex_compare b a ≡ Ordering.lt))
lex-total a b =
    elim (ordering-cases (lex_compare a b)) [
      | inl h ↦ inl h
      | inr h ↦ elim h [ inl e ↦ inr (inl (lex-eq a b e)) | inr g ↦ inr (inr (lex-lt-of-gt a b g)) ]
    ]

-- lists that begin with parts of one length
pub lex-append : (a b c d : List ℕ) → length a ≡ length b → lex_compare (a ++ c) (b ++ d) ≡ or_else (lex_compare a b) (lex_compare c d)
unfolding lex_compare
lex-append [] [] c d e = refl
lex-append [] (y ∷ b) c d e = absurd (omega arith)
lex-append (x ∷ a) [] c d e = absurd (omega arith)
lex-append (x ∷ a) (y ∷ b) c d e =
    rw (lex-append a b c d (suc_inj e)) (sym (or_else-assoc (compare x y) (lex_compare a b) (lex_compare c d)))

-- the same added to the first and to the last number of both lists changes nothing
pub lex-shift : (k x x' a a' y y' : ℕ) (m m' : List ℕ) → length m ≡ length m'
    → lex_compare ((x + k) ∷ (m ++ (a ∷ (y + k) ∷ []))) ((x' + k) ∷ (m' ++ (a' ∷ (y' + k) ∷ [])))
    ≡ lex_compare (x ∷ (m ++ (a ∷ y ∷ []))) (x' ∷ (m' ++ (a' ∷ y' ∷ [])))
unfolding lex_compare
lex-shift k x x' a a' y y' m m' e =
    rw (compare-add x x' k, lex-append m m' (a ∷ (y + k) ∷ []) (a' ∷ (y' + k) ∷ []) e, lex-append m m' (a ∷ y ∷ []) (a' ∷ y' ∷ []) e, compare-add y y' k)

-- no greater up to j, and less at j: less as a whole
pub lex-dominated : (a b : List ℕ) (j : ℕ) → ((i : ℕ) → i < j → get_or a i 0 ≤ get_or b i 0) → get_or a j 0 < get_or b j 0 → lex_compare a b ≡ Ordering.lt
unfolding lex_compare
lex-dominated [] [] j f h = absurd (omega arith)
lex-dominated [] (y ∷ b) j f h = refl
lex-dominated (x ∷ a) [] j f h = absurd (omega arith)
lex-dominated (x ∷ a) (y ∷ b) zero f h = lex-head-lt x y a b h
lex-dominated (x ∷ a) (y ∷ b) (suc j) f h =
    let l : x ≤ y = f 0 (suc-le-suc zero-le) in
    let r : lex_compare a b ≡ Ordering.lt = lex-dominated a b j (λ i t. f (suc i) (suc-le-suc t)) h in
    elim (lt-or-ge x y) [
      | inl k ↦ lex-head-lt x y a b k
      | inr k ↦ lex-head-eq x y a b (omega arith) ∙ r
    ]

-- before the first difference the lists are the same
pub first_difference-before : (a b : List ℕ) (i : ℕ) → i < first_difference a b → get_or a i 0 ≡ get_or b i 0
unfolding first_difference
first_difference-before [] b i h = absurd (not-suc-le-zero h)
first_difference-before (x ∷ a) [] i h = absurd (not-suc-le-zero h)
first_difference-before (x ∷ a) (y ∷ b) zero h =
    elim (eq-or-ne x y) [
      | inl e ↦ e
      | inr n ↦ absurd (not-suc-le-zero (rw (ne_eqb x y n) at h))
    ]
first_difference-before (x ∷ a) (y ∷ b) (suc i) h =
    elim (eq-or-ne x y) [
      | inl e ↦ first_difference-before a b i (le_of_suc-le-suc (rw (eq-eqb x y e) at h))
      | inr n ↦ absurd (not-suc-le-zero (rw (ne_eqb x y n) at h))
    ]

-- and there they differ
pub first_difference-at : (a b : List ℕ) → length a ≡ length b → first_difference a b < length a → get_or a (first_difference a b) 0 ≡ get_or b (first_difference a b) 0 → ⊥
unfolding first_difference
first_difference-at [] b e h q = not-suc-le-zero h
first_difference-at (x ∷ a) [] e h q = omega arith
first_difference-at (x ∷ a) (y ∷ b) e h q =
    elim (eq-or-ne x y) [
      | inl s ↦ first_difference-at a b (suc_inj e) (le_of_suc-le-suc (rw (eq-eqb x y s) at h)) (rw (eq-eqb x y s) at q)
      | inr n ↦ n (rw (ne_eqb x y n) at q)
    ]

-- it decides the order
pub lex-first_difference : (a b : List ℕ) → length a ≡ length b → first_difference a b < length a → lex_compare a b ≡ compare (get_or a (first_difference a b) 0) (get_or b (first_difference a b) 0)
unfolding first_difference
lex-first_difference [] b e h = absurd (not-suc-le-zero h)
lex-first_difference (x ∷ a) [] e h = absurd (omega arith)
lex-first_difference (x ∷ a) (y ∷ b) e h =
    elim (eq-or-ne x y) [
      | inl s ↦ rw (eq-eqb x y s) (lex-head-eq x y a b s ∙ lex-first_difference a b (suc_inj e) (le_of_suc-le-suc (rw (eq-eqb x y s) at h)))
      | inr n ↦
          rw (ne_eqb x y n)
          (elim (lt-or-ge x y) [
            | inl k ↦ lex-head-lt x y a b k ∙ sym (compare-lt k)
            | inr k ↦ let g : y < x = omega arith in lex-head-gt x y a b g ∙ sym (compare-gt g)
          ])
    ]

-- the same digits make the same number
pub number-ext : (n : ℕ) (f g : ℕ → ℕ) → ((k : ℕ) → k < n → f k ≡ g k) → number_of n f ≡ number_of n g
unfolding number_of
number-ext zero f g h = refl
number-ext (suc n) f g h =
    let l : n < suc n = omega arith in
    ap₂ (λ (a b : ℕ). a * 256 + b) (number-ext n f g (λ k t. h k (omega arith))) (h n l)

-- digits of which one number is made are the same where the numbers are
pub number_same : (n : ℕ) (f g : ℕ → ℕ) → ((k : ℕ) → f k < 256) → ((k : ℕ) → g k < 256) → number_of n f ≡ number_of n g → tab n f ≡ tab n g
unfolding number_of tab
number_same zero f g p q e = refl
number_same (suc n) f g p q e =
    let h : number_of n f ≡ number_of n g = omega (arith, p n, q n) in
    let d : f n ≡ g n = omega (arith, h) in
    tab-suc n f ∙ (ap₂ (λ (l : List ℕ) (x : ℕ). l ++ (x ∷ [])) (number_same n f g p q h) d ∙ sym (tab-suc n g))

-- digits that make the smaller number come first
pub number-less : (n : ℕ) (f g : ℕ → ℕ) → ((k : ℕ) → f k < 256) → ((k : ℕ) → g k < 256) → number_of n f < number_of n g → lex_compare (tab n f) (tab n g) ≡ Ordering.lt
unfolding number_of
number-less zero f g p q h = absurd (omega arith)
number-less (suc n) f g p q h =
    let whole : lex_compare (tab (suc n) f) (tab (suc n) g) ≡ or_else (lex_compare (tab n f) (tab n g)) (lex_compare (f n ∷ []) (g n ∷ [])) =
    ap₂ lex_compare (tab-suc n f) (tab-suc n g) ∙ lex-append (tab n f) (tab n g) (f n ∷ []) (g n ∷ []) (length-tab n f ∙ sym (length-tab n g)) in
    elim (lt-or-ge (number_of n f) (number_of n g)) [
      | inl l ↦ whole ∙ ap (λ (o : Ordering). or_else o (lex_compare (f n ∷ []) (g n ∷ []))) (number-less n f g p q l)
      | inr l ↦
          let e : number_of n f ≡ number_of n g = omega (arith, p n, q n) in
          let d : f n < g n = omega (arith, e) in
          whole
          ∙ (ap (λ (o : Ordering). or_else o (lex_compare (f n ∷ []) (g n ∷ [])))
          (ap (λ (l : List ℕ). lex_compare l (tab n g)) (number_same n f g p q e) ∙ lex-refl (tab n g))
          ∙ lex-head-lt (f n) (g n) [] [] d)
    ]

-- the number of the first digits is what is left where those behind them are divided off
pub number-front : (a b : ℕ) (f : ℕ → ℕ) → ((k : ℕ) → f k < 256) → number_of (a + b) f / 256 ^ b ≡ number_of a f
unfolding number_of
number-front a zero f p = rw (add-zero a, pow-zero 256) (div-one (number_of a f))
number-front a (suc b) f p =
    let last : (number_of (a + b) f * 256 + f (a + b)) / 256 ≡ number_of (a + b) f = omega (arith, p (a + b)) in
    rw (add-suc a b, pow-suc 256 b, mul_comm (256 ^ b) 256)
    (sym (div-div-eq-div-mul (number_of (a + b) f * 256 + f (a + b)) 256 (256 ^ b)) ∙ (ap (λ (x : ℕ). x / 256 ^ b) last ∙ number-front a b f p))

-- the digits behind the first make a number of their own
pub number-split : (a b : ℕ) (f : ℕ → ℕ) → number_of (a + b) f ≡ number_of a f * 256 ^ b + number_of b (λ k. f (a + k))
unfolding number_of
number-split a zero f = rw (add-zero a, pow-zero 256) (omega arith)
number-split a (suc b) f =
    rw (add-suc a b, pow-suc 256 b, number-split a b f, sym (mul_assoc (number_of a f) (256 ^ b) 256)) (omega arith)
