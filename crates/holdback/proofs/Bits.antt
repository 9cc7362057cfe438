-- Bits as one number, and the table of origins as words of them: a bit looked up, set, taken away.
-- Assumes nothing.
use Rattle.std.proofs.Common.{◌≡◌, ℕ, zero, suc, ◌+◌, ◌-◌, ◌*◌, ◌/◌, ◌%◌, ◌^◌, ◌<◌, ◌≤◌, Bool, true, false, cond, eqb, List, length, get_or, set, replicate, sym, refl, ap, ◌∙◌, ap₂, inl, inr, le_of_suc-le-suc, not-suc-le-zero, mod-eq_of_lt, one-mul, div-one, arith, eq-eqb, ne_eqb, eqb-true}
use native.Mathlib.Nat.{pow-succ', div-div-eq-div-mul, div-eq_of_lt, pow-le-pow_right}
use Rattle.laws.proofs.Numbers.{clash, lt-or-ge, eq-or-ne}
use Rattle.laws.proofs.Lists.{length-tab, get_or-tab, set-tab, tab-ext, replicate-tab}
use Rattle.holdback.specs.Seen.{word_length, table_length, bits_of, table_of, has_mark, with_mark, without_mark}

-- a bit past the lowest one
next_bit : (w k : ℕ) → w / 2 ^ suc k ≡ w / 2 / 2 ^ k
next_bit w k = ap (λ (n : ℕ). w / n) (pow-succ' 2 k) ∙ sym (div-div-eq-div-mul w 2 (2 ^ k))

low_bit : (b : Bool) → cond b 1 0 < 2
low_bit true = omega arith
low_bit false = omega arith

halved : (b : Bool) (x : ℕ) → (cond b 1 0 + 2 * x) / 2 ≡ x
halved b x = omega (arith, low_bit b)

bits-ext : (n : ℕ) (f g : ℕ → Bool) → ((k : ℕ) → k < n → f k ≡ g k) → bits_of n f ≡ bits_of n g
unfolding bits_of
bits-ext zero f g e = refl
bits-ext (suc n) f g e =
    ap₂ (λ (b : Bool) (x : ℕ). cond b 1 0 + 2 * x) (e 0 (omega arith)) (bits-ext n (λ k. f (suc k)) (λ k. g (suc k)) (λ k h. e (suc k) (omega arith)))

no_bits : (n : ℕ) → bits_of n (λ _. false) ≡ 0
unfolding bits_of
no_bits zero = refl
no_bits (suc n) = omega (arith, no_bits n)

-- bit k
bit_at : (n : ℕ) (f : ℕ → Bool) (k : ℕ) → k < n → bits_of n f / 2 ^ k % 2 ≡ cond (f k) 1 0
unfolding bits_of
bit_at zero f k h = absurd (not-suc-le-zero h)
bit_at (suc n) f zero h =
    ap (λ (m : ℕ). m % 2) (div-one (cond (f 0) 1 0 + 2 * bits_of n (λ k. f (suc k)))) ∙ omega (arith, low_bit (f 0))
bit_at (suc n) f (suc k) h =
    ap (λ (m : ℕ). m % 2) (next_bit (cond (f 0) 1 0 + 2 * bits_of n (λ k. f (suc k))) k ∙ ap (λ (m : ℕ). m / 2 ^ k) (halved (f 0) (bits_of n (λ k. f (suc k)))))
    ∙ bit_at n (λ k. f (suc k)) k (le_of_suc-le-suc h)

-- bit k set, which was not
bit-set : (n : ℕ) (f g : ℕ → Bool) (k : ℕ) → k < n → f k ≡ false → g k ≡ true → ((j : ℕ) → (j ≡ k → ⊥) → f j ≡ g j) → bits_of n f + 2 ^ k ≡ bits_of n g
unfolding bits_of
bit-set zero f g k h off on e = absurd (not-suc-le-zero h)
bit-set (suc n) f g zero h off on e =
    let rest : bits_of n (λ k. f (suc k)) ≡ bits_of n (λ k. g (suc k)) = bits-ext n (λ k. f (suc k)) (λ k. g (suc k)) (λ k _. e (suc k) (λ z. omega arith)) in
    rw (off, on) (omega (arith, rest))
bit-set (suc n) f g (suc k) h off on e =
    let rest = bit-set n (λ k. f (suc k)) (λ k. g (suc k)) k (le_of_suc-le-suc h) off on (λ j d. e (suc j) (λ z. d (omega arith))) in
    rw (e 0 (λ z. omega arith)) (omega (arith, rest, pow-succ' 2 k))

-- there is room for a bit that is not set
bit-room : (n w k : ℕ) → k < n → w < 2 ^ n → eqb (w / 2 ^ k % 2) 1 ≡ false → w + 2 ^ k < 2 ^ n
bit-room zero w k h low off = absurd (not-suc-le-zero h)
bit-room (suc n) w zero h low off =
    let even : w % 2 ≡ 1 → ⊥ = λ e. clash (eq-eqb (w / 2 ^ 0 % 2) 1 (ap (λ (m : ℕ). m % 2) (div-one w) ∙ e)) off in
    omega (arith, even, pow-succ' 2 n)
bit-room (suc n) w (suc k) h low off =
    let rest = bit-room n (w / 2) k (le_of_suc-le-suc h) (omega (arith, pow-succ' 2 n)) (ap (λ (m : ℕ). eqb (m % 2) 1) (sym (next_bit w k)) ∙ off) in
    omega (arith, rest, pow-succ' 2 n, pow-succ' 2 k)

-- a bit that is set
bit-there : (w k : ℕ) → eqb (w / 2 ^ k % 2) 1 ≡ true → 2 ^ k ≤ w
bit-there w k on =
    elim (lt-or-ge w (2 ^ k)) [
      | inl l ↦ absurd (omega (arith, div-eq_of_lt l, eqb-true (w / 2 ^ k % 2) 1 on))
      | inr l ↦ l
    ]

-- 1 shifted up to bit k of a word
shifted : (k : ℕ) → k < word_length → 1 * 2 ^ k % 2 ^ word_length ≡ 2 ^ k
shifted k h =
    let most : k ≤ 63 = omega arith in
    let low : 2 ^ k ≤ 2 ^ 63 = pow-le-pow_right (omega arith) most in
    ap (λ (n : ℕ). n % 2 ^ word_length) (one-mul (2 ^ k)) ∙ mod-eq_of_lt (omega arith)

-- ---- tables of them

-- a mark is 1
one-is : (t : Bool) → eqb (cond t 1 0) 1 ≡ t
one-is true = refl
one-is false = refl

abbrev words_of : (ℕ → Bool) → ℕ → ℕ
words_of p w = bits_of word_length (λ k. p (w * word_length + k))

pub length-table : (p : ℕ → Bool) → length (table_of p) ≡ table_length
unfolding table_of
length-table p = length-tab table_length (words_of p)

pub no-marks : replicate table_length 0 ≡ table_of (λ _. false)
unfolding table_of
no-marks = replicate-tab table_length 0 ∙ tab-ext table_length (λ _. 0) (words_of (λ _. false)) (λ w h. sym (no_bits word_length))

module _ (i : ℕ) (inside : i < table_length * word_length) where
  -- which bit of which word
  place_is : i / word_length * word_length + i % word_length ≡ i
  place_is = omega arith

  word_at : (p : ℕ → Bool) → get_or (table_of p) (i / word_length) 0 ≡ words_of p (i / word_length)
  unfolding table_of
  word_at p = get_or-tab table_length (words_of p) (i / word_length) 0 (omega arith)

  -- the look-up
  pub table-has : (p : ℕ → Bool) → has_mark (table_of p) i ≡ p i
  unfolding has_mark
  table-has p =
      ap (λ (n : ℕ). eqb (n / 2 ^ (i % word_length) % 2) 1) (word_at p)
      ∙ ap (λ (n : ℕ). eqb n 1) (bit_at word_length (λ k. p (i / word_length * word_length + k)) (i % word_length) (omega arith))
      ∙ one-is (p (i / word_length * word_length + i % word_length)) ∙ ap p place_is

  -- the word of place i changed to what it is in another table
  word-changed : (p q : ℕ → Bool) (x : ℕ) → x ≡ words_of q (i / word_length) → ((w : ℕ) → (w ≡ i / word_length → ⊥) → words_of p w ≡ words_of q w)
      → set (table_of p) (i / word_length) x ≡ table_of q
  unfolding table_of
  word-changed p q x new old =
      set-tab table_length (words_of p) (i / word_length) x
      ∙ tab-ext table_length (λ w. cond (eqb w (i / word_length)) x (words_of p w)) (words_of q)
      (λ w h. elim (eq-or-ne w (i / word_length)) [
        | inl e ↦ rw (eq-eqb w (i / word_length) e) (new ∙ ap (words_of q) (sym e))
        | inr d ↦ rw (ne_eqb w (i / word_length) d) (old w d)
      ])

  -- two tests that differ at one place
  module _ (p q : ℕ → Bool) (off : p i ≡ false) (on : q i ≡ true) (same : (j : ℕ) → (j ≡ i → ⊥) → p j ≡ q j) where
    word_set : words_of p (i / word_length) + 2 ^ (i % word_length) ≡ words_of q (i / word_length)
    word_set =
        bit-set word_length (λ k. p (i / word_length * word_length + k)) (λ k. q (i / word_length * word_length + k)) (i % word_length) (omega arith) (ap p place_is ∙ off) (ap q place_is ∙ on)
        (λ j d. same (i / word_length * word_length + j) (λ e. d (omega arith)))

    other_word : (w : ℕ) → (w ≡ i / word_length → ⊥) → words_of p w ≡ words_of q w
    other_word w d =
        bits-ext word_length (λ k. p (w * word_length + k)) (λ k. q (w * word_length + k)) (λ k h. same (w * word_length + k) (λ e. d (omega arith)))

    pub table-with : with_mark (table_of p) i ≡ table_of q
    unfolding with_mark
    table-with =
        word-changed p q (get_or (table_of p) (i / word_length) 0 + 2 ^ (i % word_length)) (omega (arith, word_at p, word_set)) other_word

    pub table-without : without_mark (table_of q) i ≡ table_of p
    unfolding without_mark
    table-without =
        word-changed q p (get_or (table_of q) (i / word_length) 0 - 2 ^ (i % word_length)) (omega (arith, word_at q, word_set)) (λ w d. sym (other_word w d))

-- ---- as the code goes

module _ (table : List ℕ) (i : ℕ) where
  -- 1 shifted up to the place's bit
  abbrev mark : ℕ
  mark = 1 * 2 ^ (i % word_length) % 2 ^ word_length

  mark-is : mark ≡ 2 ^ (i % word_length)
  mark-is = shifted (i % word_length) (omega arith)

  pub mark-fits : get_or table (i / word_length) 0 < 2 ^ word_length → has_mark table i ≡ false → get_or table (i / word_length) 0 + mark < 2 ^ word_length
  unfolding has_mark
  mark-fits low off = omega (arith, mark-is, bit-room word_length (get_or table (i / word_length) 0) (i % word_length) (omega arith) low off)

  pub mark-there : has_mark table i ≡ true → mark ≤ get_or table (i / word_length) 0
  unfolding has_mark
  mark-there on = omega (arith, mark-is, bit-there (get_or table (i / word_length) 0) (i % word_length) on)

  pub mark_set : set table (i / word_length) (get_or table (i / word_length) 0 + mark) ≡ with_mark table i
  unfolding with_mark
  mark_set = ap (λ (n : ℕ). set table (i / word_length) (get_or table (i / word_length) 0 + n)) mark-is

  pub mark-cleared : set table (i / word_length) (get_or table (i / word_length) 0 - mark) ≡ without_mark table i
  unfolding without_mark
  mark-cleared = ap (λ (n : ℕ). set table (i / word_length) (get_or table (i / word_length) 0 - n)) mark-is
