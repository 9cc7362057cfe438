-- The newest counts decide an order: where the sums are the same and the numbers that they make differ, the frame with the smaller one comes before.
-- Assumes nothing.
use Rattle.std.proofs.Common.{◌≡◌, ℕ, zero, suc, ◌+◌, ◌-◌, ◌*◌, ◌^◌, ◌<◌, ◌≤◌, ltb, List, [], ◌∷◌, ◌++◌, drop, sym, ap, ◌∙◌, ap₂, inl, inr, pow-suc, arith, take-append-drop, le-ltb, lt-ltb}
use Prim.Native.Nat.{Ordering}
use native.Mathlib.Nat.{min-le_left, min-le_right, pow-le-pow_right}
use Rattle.laws.specs.Lists.{tab, placed_at}
use Rattle.laws.specs.Lex.{or_else, is_less, lex_compare, number_of}
use Rattle.laws.proofs.Numbers.{lt-or-ge}
use Rattle.laws.proofs.Lists.{length-tab, take-tab}
use Rattle.laws.proofs.Lex.{flipped, lex-append, lex-flip, lex-refl, lex-head-lt, lex-head-eq, number-ext, number_same, number-less, number-split}
use Rattle.model.specs.Timestamp.{sum}
use Rattle.model.specs.Order.{counts_down, key_by}
use Rattle.lemmas.proofs.Counts.{count-zero, down-counts}
use Rattle.timestamp.specs.declared.ordering.Rank.{Rank}
use Rattle.timestamp.specs.Ranks.{ranked_frame}
use Rattle.timestamp.specs.Views.{of_counts}
use Rattle.frame.specs.Newest.{taken, newest_from}
use Rattle.holdback.specs.Queue.{rank_before}
use Rattle.holdback.proofs.RoundTrip.{Bytes}

-- the counts of a list, from offset c down
abbrev down : ℕ → ℕ → List ℕ → ℕ → ℕ
down epsilon c kn j = placed_at 0 kn (epsilon + c - j)

down-small : (epsilon c : ℕ) (kn : List ℕ) → Bytes kn → (j : ℕ) → down epsilon c kn j < 256
down-small epsilon c kn p j = rw (count-zero kn (epsilon + c - j)) (p (epsilon + c - j))

-- a frame's newest counts, and those behind the first eight
newest-down : (epsilon c : ℕ) (kn : List ℕ) → newest_from epsilon c 0 kn ≡ number_of (taken epsilon 0) (down epsilon c kn)
unfolding newest_from
newest-down epsilon c kn =
    number-ext (taken epsilon 0) (λ j. placed_at 0 kn (epsilon + c - 0 - j)) (down epsilon c kn)
    (λ j _. let e : epsilon + c - 0 - j ≡ epsilon + c - j = omega arith in ap (placed_at 0 kn) e)

older-down : (epsilon c : ℕ) (kn : List ℕ) → newest_from epsilon c 8 kn ≡ number_of (taken epsilon 8) (λ j. down epsilon c kn (8 + j))
unfolding newest_from
older-down epsilon c kn =
    number-ext (taken epsilon 8) (λ j. placed_at 0 kn (epsilon + c - 8 - j)) (λ j. down epsilon c kn (8 + j))
    (λ j _. let e : epsilon + c - 8 - j ≡ epsilon + c - (8 + j) = omega arith in ap (placed_at 0 kn) e)

-- numbers of counts that are not the largest have a next one
top_below : (n : ℕ) (f : ℕ → ℕ) → ((k : ℕ) → f k ≤ 254) → number_of (suc n) f + 2 ≤ 256 ^ suc n
unfolding number_of
top_below zero f h = omega (arith, h 0)
top_below (suc n) f h = let r = top_below n f h in rw (pow-suc 256 (suc n)) (omega (arith, r, h (suc n)))

number-roomy : (n : ℕ) (f : ℕ → ℕ) → ((k : ℕ) → f k ≤ 254) → n ≤ 8 → number_of n f + 1 < 2 ^ 64
unfolding number_of
number-roomy zero f h few = omega arith
number-roomy (suc n) f h few =
    let some : 0 < 256 = omega arith in
    let most : 256 ^ suc n ≤ 256 ^ 8 = pow-le-pow_right some few in
    omega (arith, top_below n f h, most)

pub newest-roomy : (epsilon c k : ℕ) (kn : List ℕ) → ((i : ℕ) → placed_at 0 kn i ≤ 16) → newest_from epsilon c k kn + 1 < 2 ^ 64
unfolding newest_from
newest-roomy epsilon c k kn small =
    number-roomy (taken epsilon k) (λ j. placed_at 0 kn (epsilon + c - k - j)) (λ j. omega (arith, small (epsilon + c - k - j))) (min-le_left 8 (epsilon - k))

-- where there are none
pub none-older : (epsilon c : ℕ) (kn : List ℕ) → epsilon ≤ 8 → newest_from epsilon c 8 kn ≡ 0
unfolding newest_from number_of
none-older epsilon c kn h =
    let e : taken epsilon 8 ≡ 0 = omega arith in
    ap (λ (n : ℕ). number_of n (λ j. placed_at 0 kn (epsilon + c - 8 - j))) e

-- a number before both
ltb-behind : (n x y : ℕ) → ltb x y ≡ ltb (n + x) (n + y)
ltb-behind n x y =
    elim (lt-or-ge x y) [
      | inl h ↦ let l : n + x < n + y = omega arith in lt-ltb x y h ∙ sym (lt-ltb (n + x) (n + y) l)
      | inr h ↦ let l : n + y ≤ n + x = omega arith in le-ltb x y h ∙ sym (le-ltb (n + x) (n + y) l)
    ]

-- lists of digits of which the first m make the smaller number
tabs-less : (m n : ℕ) (f g : ℕ → ℕ) → m ≤ n → ((k : ℕ) → f k < 256) → ((k : ℕ) → g k < 256) → number_of m f < number_of m g → lex_compare (tab n f) (tab n g) ≡ Ordering.lt
tabs-less m n f g h p q l =
    ap₂ lex_compare (sym (take-append-drop m (tab n f))) (sym (take-append-drop m (tab n g)))
    ∙ (ap₂ (λ (a b : List ℕ). lex_compare (a ++ drop m (tab n f)) (b ++ drop m (tab n g))) (take-tab m n f h) (take-tab m n g h)
    ∙ (lex-append (tab m f) (tab m g) (drop m (tab n f)) (drop m (tab n g)) (length-tab m f ∙ sym (length-tab m g))
    ∙ ap (λ (o : Ordering). or_else o (lex_compare (drop m (tab n f)) (drop m (tab n g)))) (number-less m f g p q l)))

-- a key that comes before
abbrev key_of : ℕ → Rank → List ℕ → List ℕ
key_of epsilon f kf = key_by epsilon f.reading (ranked_frame f kf)

sum_less : (epsilon : ℕ) (f g : Rank) (kf kg : List ℕ) → f.reading + f.c < g.reading + g.c → lex_compare (key_of epsilon f kf) (key_of epsilon g kg) ≡ Ordering.lt
unfolding key_by sum
sum_less epsilon f g kf kg h =
    lex-head-lt (f.reading + f.c) (g.reading + g.c) (counts_down epsilon (of_counts f.c kf) ++ (f.station ∷ f.reading ∷ [])) (counts_down epsilon (of_counts g.c kg) ++ (g.station ∷ g.reading ∷ [])) h

counts-less :
    (m epsilon : ℕ) (f g : Rank) (kf kg : List ℕ) → Bytes kf → Bytes kg → m ≤ epsilon → f.reading + f.c ≡ g.reading + g.c
    → number_of m (down epsilon f.c kf) < number_of m (down epsilon g.c kg) → lex_compare (key_of epsilon f kf) (key_of epsilon g kg) ≡ Ordering.lt
unfolding key_by sum
counts-less m epsilon f g kf kg p q wide same less =
    rw (down-counts epsilon (of_counts f.c kf), down-counts epsilon (of_counts g.c kg))
    (lex-head-eq (f.reading + f.c) (g.reading + g.c) (tab epsilon (down epsilon f.c kf) ++ (f.station ∷ f.reading ∷ [])) (tab epsilon (down epsilon g.c kg) ++ (g.station ∷ g.reading ∷ [])) same
    ∙ (lex-append (tab epsilon (down epsilon f.c kf)) (tab epsilon (down epsilon g.c kg)) (f.station ∷ f.reading ∷ []) (g.station ∷ g.reading ∷ [])
    (length-tab epsilon (down epsilon f.c kf) ∙ sym (length-tab epsilon (down epsilon g.c kg)))
    ∙ ap (λ (o : Ordering). or_else o (lex_compare (f.station ∷ f.reading ∷ []) (g.station ∷ g.reading ∷ [])))
    (tabs-less m epsilon (down epsilon f.c kf) (down epsilon g.c kg) wide (down-small epsilon f.c kf p) (down-small epsilon g.c kg q) less)))

-- one of two keys comes before the other by numbers that differ
says :
    (a b : List ℕ) (x y : ℕ) → (x ≡ y → ⊥) → (x < y → lex_compare a b ≡ Ordering.lt) → (y < x → lex_compare b a ≡ Ordering.lt)
    → ltb x y ≡ is_less (lex_compare a b)
says a b x y n less more =
    elim (lt-or-ge x y) [
      | inl h ↦ lt-ltb x y h ∙ sym (ap is_less (less h))
      | inr h ↦
          let l : y < x = omega arith in
          le-ltb x y h ∙ sym (ap is_less (lex-flip b a ∙ ap flipped (more l)))
    ]

-- ---- the tests as the code makes them

module _ (epsilon : ℕ) (f : Rank) (kf : List ℕ) (g : Rank) (kg : List ℕ) where
  pub sums-say : (f.reading + f.c ≡ g.reading + g.c → ⊥) → ltb (f.reading + f.c) (g.reading + g.c) ≡ rank_before epsilon f kf g kg
  unfolding rank_before
  sums-say n =
      says (key_of epsilon f kf) (key_of epsilon g kg) (f.reading + f.c) (g.reading + g.c) n (sum_less epsilon f g kf kg) (sum_less epsilon g f kg kf)

  module _ (p : Bytes kf) (q : Bytes kg) (same : f.reading + f.c ≡ g.reading + g.c) where
    -- the first m counts, of which there are ε
    counts-say :
        (m : ℕ) → m ≤ epsilon → (number_of m (down epsilon f.c kf) ≡ number_of m (down epsilon g.c kg) → ⊥)
        → ltb (number_of m (down epsilon f.c kf)) (number_of m (down epsilon g.c kg)) ≡ rank_before epsilon f kf g kg
    unfolding rank_before
    counts-say m wide n =
        says (key_of epsilon f kf) (key_of epsilon g kg) (number_of m (down epsilon f.c kf)) (number_of m (down epsilon g.c kg)) n
        (counts-less m epsilon f g kf kg p q wide same) (counts-less m epsilon g f kg kf q p wide (sym same))

    module _ {x y : ℕ} (ex : x ≡ newest_from epsilon f.c 0 kf) (ey : y ≡ newest_from epsilon g.c 0 kg) where
      numbers-f : x ≡ number_of (taken epsilon 0) (down epsilon f.c kf)
      numbers-f = ex ∙ newest-down epsilon f.c kf

      numbers-g : y ≡ number_of (taken epsilon 0) (down epsilon g.c kg)
      numbers-g = ey ∙ newest-down epsilon g.c kg

      pub newest-say : (x ≡ y → ⊥) → ltb x y ≡ rank_before epsilon f kf g kg
      newest-say n =
          ap₂ ltb numbers-f numbers-g
          ∙ counts-say (taken epsilon 0) (omega (arith, min-le_right 8 (epsilon - 0))) (λ e. n (numbers-f ∙ (e ∙ sym numbers-g)))

      pub older-say : (z w : ℕ) → x ≡ y → z ≡ newest_from epsilon f.c 8 kf → w ≡ newest_from epsilon g.c 8 kg → (z ≡ w → ⊥) → ltb z w ≡ rank_before epsilon f kf g kg
      older-say z w e ez ew n =
          elim (lt-or-ge 8 epsilon) [
            | inl h ↦
                let m : ℕ = taken epsilon 8 in
                let wide : 8 + m ≤ epsilon = omega (arith, min-le_right 8 (epsilon - 8)) in
                let eight : taken epsilon 0 ≡ 8 = omega arith in
                let front : number_of 8 (down epsilon g.c kg) ≡ number_of 8 (down epsilon f.c kf) =
                ap (λ (n : ℕ). number_of n (down epsilon g.c kg)) (sym eight) ∙ (sym numbers-g ∙ (sym e ∙ numbers-f)) ∙ ap (λ (n : ℕ). number_of n (down epsilon f.c kf)) eight in
                let all : ℕ = number_of 8 (down epsilon f.c kf) * 256 ^ m in
                let of-f : all + z ≡ number_of (8 + m) (down epsilon f.c kf) =
                ap (λ (n : ℕ). all + n) (ez ∙ older-down epsilon f.c kf) ∙ sym (number-split 8 m (down epsilon f.c kf)) in
                let of-g : all + w ≡ number_of (8 + m) (down epsilon g.c kg) =
                ap₂ (λ (k n : ℕ). k * 256 ^ m + n) (sym front) (ew ∙ older-down epsilon g.c kg) ∙ sym (number-split 8 m (down epsilon g.c kg)) in
                ltb-behind all z w ∙ (ap₂ ltb of-f of-g
                ∙ counts-say (8 + m) wide (λ t. let s : all + z ≡ all + w = of-f ∙ (t ∙ sym of-g) in n (omega arith)))
            | inr h ↦ absurd (n (ez ∙ (none-older epsilon f.c kf h ∙ sym (ew ∙ none-older epsilon g.c kg h))))
          ]

    -- where the counts are the same, what follows them decides
    keys-alike : tab epsilon (down epsilon f.c kf) ≡ tab epsilon (down epsilon g.c kg)
        → lex_compare (key_of epsilon f kf) (key_of epsilon g kg) ≡ lex_compare (f.station ∷ f.reading ∷ []) (g.station ∷ g.reading ∷ [])
    unfolding key_by sum
    keys-alike e =
        rw (down-counts epsilon (of_counts f.c kf), down-counts epsilon (of_counts g.c kg))
        (lex-head-eq (f.reading + f.c) (g.reading + g.c) (tab epsilon (down epsilon f.c kf) ++ (f.station ∷ f.reading ∷ [])) (tab epsilon (down epsilon g.c kg) ++ (g.station ∷ g.reading ∷ [])) same
        ∙ (lex-append (tab epsilon (down epsilon f.c kf)) (tab epsilon (down epsilon g.c kg)) (f.station ∷ f.reading ∷ []) (g.station ∷ g.reading ∷ [])
        (length-tab epsilon (down epsilon f.c kf) ∙ sym (length-tab epsilon (down epsilon g.c kg)))
        ∙ ap (λ (o : Ordering). or_else o (lex_compare (f.station ∷ f.reading ∷ []) (g.station ∷ g.reading ∷ [])))
        (ap (λ (l : List ℕ). lex_compare l (tab epsilon (down epsilon g.c kg))) e ∙ lex-refl (tab epsilon (down epsilon g.c kg)))))

    counts-alike : tab epsilon (down epsilon f.c kf) ≡ tab epsilon (down epsilon g.c kg)
        → is_less (lex_compare (f.station ∷ f.reading ∷ []) (g.station ∷ g.reading ∷ [])) ≡ rank_before epsilon f kf g kg
    unfolding rank_before
    counts-alike e = sym (ap is_less (keys-alike e))

    -- so where all the numbers are
    pub alike-say : epsilon ≤ 16 → newest_from epsilon f.c 0 kf ≡ newest_from epsilon g.c 0 kg → newest_from epsilon f.c 8 kf ≡ newest_from epsilon g.c 8 kg
        → is_less (lex_compare (f.station ∷ f.reading ∷ []) (g.station ∷ g.reading ∷ [])) ≡ rank_before epsilon f kf g kg
    alike-say narrow en eo =
        counts-alike (elim (lt-or-ge 8 epsilon) [
          | inl h ↦
              let m : ℕ = taken epsilon 8 in
              let whole : 8 + m ≡ epsilon = omega arith in
              let eight : taken epsilon 0 ≡ 8 = omega arith in
              let older : number_of m (λ j. down epsilon f.c kf (8 + j)) ≡ number_of m (λ j. down epsilon g.c kg (8 + j)) = sym (older-down epsilon f.c kf) ∙ (eo ∙ older-down epsilon g.c kg) in
              let whole-number : number_of (8 + m) (down epsilon f.c kf) ≡ number_of (8 + m) (down epsilon g.c kg) =
              number-split 8 m (down epsilon f.c kf) ∙ (ap₂ (λ (k n : ℕ). k * 256 ^ m + n) (number-of eight en) older ∙ sym (number-split 8 m (down epsilon g.c kg))) in
              number_same epsilon (down epsilon f.c kf) (down epsilon g.c kg) (down-small epsilon f.c kf p) (down-small epsilon g.c kg q)
              (ap (λ (n : ℕ). number_of n (down epsilon f.c kf)) (sym whole) ∙ (whole-number ∙ ap (λ (n : ℕ). number_of n (down epsilon g.c kg)) whole))
          | inr h ↦
              let all : taken epsilon 0 ≡ epsilon = omega arith in
              number_same epsilon (down epsilon f.c kf) (down epsilon g.c kg) (down-small epsilon f.c kf p) (down-small epsilon g.c kg q) (number-of all en)
        ])
      where
        number-of : {m : ℕ} → taken epsilon 0 ≡ m → newest_from epsilon f.c 0 kf ≡ newest_from epsilon g.c 0 kg → number_of m (down epsilon f.c kf) ≡ number_of m (down epsilon g.c kg)
        number-of {m} t e =
            ap (λ (n : ℕ). number_of n (down epsilon f.c kf)) (sym t) ∙ (sym (newest-down epsilon f.c kf) ∙ (e ∙ newest-down epsilon g.c kg)) ∙ ap (λ (n : ℕ). number_of n (down epsilon g.c kg)) t
