-- Lists in the lexicographic order of a key, lists with no two elements alike, and how long the latter can be.
-- Assumes nothing.
use Prim.Native.Nat.{ℕ, zero, suc, ◌+◌, ◌*◌, ◌-◌, ◌≤◌, ◌<◌, zero-le, suc-le-suc}
use native.Mathlib.Omega.{arith}
use native.Mathlib.Nat.{add-zero, add-suc, suc-add, not-suc-le-zero, le_of_suc-le-suc, mul-le-mul_right, suc-mul}
use mathlib.Core.Bool.{Bool, true, false, ◌&&◌, not}
use mathlib.Core.List.{List, [], ◌∷◌, ◌++◌, map}
use mathlib.Core.List.Memᴰ
use mathlib.Core.List.{Memᴰ}
use mathlib.Core.Logic.{◌⊎◌, inl, inr}
use mathlib.Core.Path.{◌≡◌, refl, sym, ap, ap₂, ◌∙◌}
use mathlib.Core.Option.{some}
use lib.Dec.{eqb}
use lib.ListN.{length, take, drop, get_or, get_elem?, take-append-drop}
use lib.Seq.{take-append_seam}
use borrow.Author.Tests.{eqb-true, eqb-false, eq-eqb, ne_eqb}
use Rattle.laws.specs.Lists.{every, any, select, select_from, leading, insert_at, chained, apart}
use Rattle.laws.specs.Lex.{is_less, lex_compare}
use Rattle.laws.proofs.Numbers.{lt-or-ge, true-or-false, clash, and_intro, and_left, and_right, not-of-true, not_of_false, false_of_not, false-of-no}
use Rattle.laws.proofs.Lists.{every-index, every-of-index, every-mem, every-of-mem, every-mono, every-mono-mem, every_take, every-select, every-append-intro, every-append-right, every-insert_at, every_map, every-ext}
use Rattle.laws.proofs.Lists.{any_false, any-of-false, any-map, mem-of-take, mem-of-drop, mem-of-select, select-all, select-none, mem-of-select_from}
use Rattle.laws.proofs.Lex.{is_less-lt, lt-is_less, lex_irrefl, lex-trans, lex-total}

module _ {A : Type 0} where
  -- every element stands in the relation to each later one
  unfoldable pub pairwise : (A → A → Bool) → List A → Bool
  pairwise r [] = true
  pairwise r (x ∷ xs) = every (r x) xs && pairwise r xs

  -- the first comes before the second in the order of the key
  abbrev pub less_by : (A → List ℕ) → A → A → Bool
  less_by key x y = is_less (lex_compare (key x) (key y))

  -- strictly in the order of the key
  abbrev pub Sorted : (A → List ℕ) → List A → Type 0
  Sorted key l = pairwise (less_by key) l ≡ true

module _ {A : Type 0} (r : A → A → Bool) where
  pub pairwise_cons : (x : A) (l : List A) → every (r x) l ≡ true → pairwise r l ≡ true → pairwise r (x ∷ l) ≡ true
  unfolding pairwise
  pairwise_cons x l h k = and_intro h k

  pub pairwise-head : (x : A) (l : List A) → pairwise r (x ∷ l) ≡ true → every (r x) l ≡ true
  unfolding pairwise
  pairwise-head x l h = and_left (every (r x) l) (pairwise r l) h

  pub pairwise-tail : (x : A) (l : List A) → pairwise r (x ∷ l) ≡ true → pairwise r l ≡ true
  unfolding pairwise
  pairwise-tail x l h = and_right (every (r x) l) (pairwise r l) h

  pub pairwise-index : (l : List A) (d : A) → pairwise r l ≡ true → (i j : ℕ) → i < j → j < length l → r (get_or l i d) (get_or l j d) ≡ true
  pairwise-index [] d h i j k t = absurd (not-suc-le-zero t)
  pairwise-index (x ∷ l) d h i zero k t = absurd (not-suc-le-zero k)
  pairwise-index (x ∷ l) d h zero (suc j) k t = every-index (r x) l d (pairwise-head x l h) j (le_of_suc-le-suc t)
  pairwise-index (x ∷ l) d h (suc i) (suc j) k t =
      pairwise-index l d (pairwise-tail x l h) i j (le_of_suc-le-suc k) (le_of_suc-le-suc t)

  pub pairwise-of-index : (l : List A) (d : A) → ((i j : ℕ) → i < j → j < length l → r (get_or l i d) (get_or l j d) ≡ true) → pairwise r l ≡ true
  unfolding pairwise
  pairwise-of-index [] d f = refl
  pairwise-of-index (x ∷ l) d f =
      and_intro (every-of-index (r x) l d (λ j t. f 0 (suc j) (suc-le-suc zero-le) (suc-le-suc t)))
      (pairwise-of-index l d (λ i j k t. f (suc i) (suc j) (suc-le-suc k) (suc-le-suc t)))

  pub pairwise-select : (p : A → Bool) (l : List A) → pairwise r l ≡ true → pairwise r (select p l) ≡ true
  unfolding select pairwise
  pairwise-select p [] h = refl
  pairwise-select p (x ∷ l) h =
      let t : pairwise r (select p l) ≡ true = pairwise-select p l (pairwise-tail x l h) in
      elim (true-or-false (p x)) [
        | inl e ↦ rw e (and_intro (every-select (r x) p l (pairwise-head x l h)) t)
        | inr e ↦ rw e t
      ]

  pub pairwise_take : (k : ℕ) (l : List A) → pairwise r l ≡ true → pairwise r (take k l) ≡ true
  unfolding pairwise
  pairwise_take zero l h = refl
  pairwise_take (suc k) [] h = refl
  pairwise_take (suc k) (x ∷ l) h =
      and_intro (every_take (r x) k l (pairwise-head x l h)) (pairwise_take k l (pairwise-tail x l h))

  pub pairwise_drop : (k : ℕ) (l : List A) → pairwise r l ≡ true → pairwise r (drop k l) ≡ true
  pairwise_drop zero l h = h
  pairwise_drop (suc k) [] h = h
  pairwise_drop (suc k) (x ∷ l) h = pairwise_drop k l (pairwise-tail x l h)

  pub pairwise_append : (a b : List A) → pairwise r a ≡ true → pairwise r b ≡ true → ((x y : A) → Memᴰ x a → Memᴰ y b → r x y ≡ true) → pairwise r (a ++ b) ≡ true
  unfolding pairwise
  pairwise_append [] b h k f = k
  pairwise_append (x ∷ a) b h k f =
      and_intro
      (every-append-intro (r x) a b (pairwise-head x a h) (every-of-mem (r x) b (λ y m. f x y (Memᴰ.head refl) m)))
      (pairwise_append a b (pairwise-tail x a h) k (λ y z m n. f y z (Memᴰ.tail m) n))

  pub pairwise-across : (a b : List A) {x y : A} → pairwise r (a ++ b) ≡ true → Memᴰ x a → Memᴰ y b → r x y ≡ true
  pairwise-across [] b h m n = absurd (Memᴰ.not-nil m)
  pairwise-across (z ∷ a) b {x} {y} h m n =
      elim (Memᴰ.cases_cons m) [
        | inl e ↦ rw e (every-mem (r z) (every-append-right (r z) a b (pairwise-head z (a ++ b) h)) n)
        | inr t ↦ pairwise-across a b (pairwise-tail z (a ++ b) h) t n
      ]

  -- an element put in between those before it and those after it
  pub pairwise-insert_at : (i : ℕ) (x : A) (l : List A) → every (λ y. r y x) (take i l) ≡ true → every (r x) (drop i l) ≡ true → pairwise r l ≡ true → pairwise r (insert_at i x l) ≡ true
  unfolding insert_at
  pairwise-insert_at i x l h k t =
      pairwise_append (take i l) (x ∷ drop i l) (pairwise_take i l t) (pairwise_cons x (drop i l) k (pairwise_drop i l t))
      (λ y z m n.
      elim (Memᴰ.cases_cons n) [
        | inl e ↦ rw e (every-mem (λ (w : A). r w x) h m)
        | inr q ↦ pairwise-across (take i l) (drop i l) (rw (take-append-drop i l) t) m q
      ])

  -- the elements that pass at their positions, where any two of them stand in the relation
  pub pairwise-select_from : (p : ℕ → A → Bool) (i : ℕ) (l : List A) → ((j k : ℕ) (x y : A) → j < k → get_elem? l j ≡ some x → get_elem? l k ≡ some y → p (i + j) x ≡ true → p (i + k) y ≡ true → r x y ≡ true) → pairwise r (select_from p i l) ≡ true
  unfolding select_from pairwise
  pairwise-select_from p i [] f = refl
  pairwise-select_from p i (z ∷ l) f =
      let rest : pairwise r (select_from p (suc i) l) ≡ true =
      pairwise-select_from p (suc i) l
      (λ j k x y h a b c d.
      f (suc j) (suc k) x y (suc-le-suc h) a b (rw (add-suc i j, ← suc-add i j) c) (rw (add-suc i k, ← suc-add i k) d))
      in
      elim (true-or-false (p i z)) [
        | inl e ↦
            let c : p (i + 0) z ≡ true = rw (add-zero i) e in
            rw e
            (and_intro
            (every-of-mem (r z) (select_from p (suc i) l)
            (λ y m.
            let t = mem-of-select_from p (suc i) l m in
            let d : p (i + suc t.0) y ≡ true = rw (add-suc i t.0, ← suc-add i t.0) t.2 in
            f 0 (suc t.0) z y (suc-le-suc zero-le) refl t.1 c d))
            rest)
        | inr e ↦ rw e rest
      ]

  -- neighbours, where the relation is transitive
  pub chained-of-pairwise : (l : List A) → pairwise r l ≡ true → chained r l ≡ true
  unfolding chained every pairwise
  chained-of-pairwise [] h = refl
  chained-of-pairwise (x ∷ []) h = refl
  chained-of-pairwise (x ∷ (y ∷ l)) h =
      and_intro (and_left (r x y) (every (r x) l) (pairwise-head x (y ∷ l) h)) (chained-of-pairwise (y ∷ l) (pairwise-tail x (y ∷ l) h))

  pub pairwise-of-chained : ((x y z : A) → r x y ≡ true → r y z ≡ true → r x z ≡ true) → (l : List A) → chained r l ≡ true → pairwise r l ≡ true
  unfolding chained every pairwise
  pairwise-of-chained f [] h = refl
  pairwise-of-chained f (x ∷ []) h = refl
  pairwise-of-chained f (x ∷ (y ∷ l)) h =
      let a : r x y ≡ true = and_left (r x y) (chained r (y ∷ l)) h in
      let t : pairwise r (y ∷ l) ≡ true = pairwise-of-chained f (y ∷ l) (and_right (r x y) (chained r (y ∷ l)) h) in
      and_intro (and_intro a (every-mono (r y) (r x) l (λ z e. f x y z a e) (pairwise-head y l t))) t

module _ {A : Type 0} where
  pub pairwise-ext : (r s : A → A → Bool) (l : List A) → ((x y : A) → Memᴰ x l → Memᴰ y l → r x y ≡ s x y) → pairwise r l ≡ pairwise s l
  unfolding pairwise
  pairwise-ext r s [] f = refl
  pairwise-ext r s (x ∷ l) f =
      ap₂ ◌&&◌ (every-ext (r x) (s x) l (λ y m. f x y (Memᴰ.head refl) (Memᴰ.tail m)))
      (pairwise-ext r s l (λ y z m n. f y z (Memᴰ.tail m) (Memᴰ.tail n)))

  pub pairwise-mono : (r s : A → A → Bool) (l : List A) → ((x y : A) → Memᴰ x l → Memᴰ y l → r x y ≡ true → s x y ≡ true) → pairwise r l ≡ true → pairwise s l ≡ true
  unfolding pairwise
  pairwise-mono r s [] f h = refl
  pairwise-mono r s (x ∷ l) f h =
      and_intro
      (every-mono-mem (r x) (s x) l (λ y m. f x y (Memᴰ.head refl) (Memᴰ.tail m)) (pairwise-head r x l h))
      (pairwise-mono r s l (λ y z m n. f y z (Memᴰ.tail m) (Memᴰ.tail n)) (pairwise-tail r x l h))

  pub pairwise_map : {B : Type 0} (r : A → A → Bool) (f : B → A) (l : List B) → pairwise r (map f l) ≡ pairwise (λ x y. r (f x) (f y)) l
  unfolding pairwise
  pairwise_map r f [] = refl
  pairwise_map r f (x ∷ l) = ap₂ ◌&&◌ (every_map (r (f x)) f l) (pairwise_map r f l)

-- the order of a key
module _ {A : Type 0} (key : A → List ℕ) where
  pub less-irrefl : (x : A) → less_by key x x ≡ true → ⊥
  less-irrefl x h = lex_irrefl (key x) (is_less-lt (lex_compare (key x) (key x)) h)

  pub less-trans : (x y z : A) → less_by key x y ≡ true → less_by key y z ≡ true → less_by key x z ≡ true
  less-trans x y z h k =
      lt-is_less
      (lex-trans (key x) (key y) (key z) (is_less-lt (lex_compare (key x) (key y)) h) (is_less-lt (lex_compare (key y) (key z)) k))

  pub less-asym : (x y : A) → less_by key x y ≡ true → less_by key y x ≡ true → ⊥
  less-asym x y h k = less-irrefl x (less-trans x y x h k)

  pub less-total : (x y : A) → (less_by key x y ≡ true) ⊎ ((key x ≡ key y) ⊎ (less_by key y x ≡ true))
  less-total x y =
      elim (lex-total (key x) (key y)) [
        | inl h ↦ inl (lt-is_less h)
        | inr h ↦ elim h [ inl e ↦ inr (inl e) | inr g ↦ inr (inr (lt-is_less g)) ]
      ]

  pub less-not-same-key : (x y : A) → less_by key x y ≡ true → key x ≡ key y → ⊥
  less-not-same-key x y h e = lex_irrefl (key y) (is_less-lt (lex_compare (key y) (key y)) (rw e at h))

  -- the other comes first, where this one does not and the keys differ
  pub less_other : (x y : A) → less_by key x y ≡ false → (key x ≡ key y → ⊥) → less_by key y x ≡ true
  less_other x y h n =
      elim (less-total x y) [
        | inl e ↦ absurd (clash e h)
        | inr t ↦ elim t [ inl e ↦ absurd (n e) | inr g ↦ g ]
      ]

  pub sorted-of-chained : (l : List A) → chained (less_by key) l ≡ true → Sorted key l
  sorted-of-chained l h = pairwise-of-chained (less_by key) less-trans l h

  pub chained-of-sorted : (l : List A) → Sorted key l → chained (less_by key) l ≡ true
  chained-of-sorted l h = chained-of-pairwise (less_by key) l h

  pub sorted-select : (p : A → Bool) (l : List A) → Sorted key l → Sorted key (select p l)
  sorted-select p l h = pairwise-select (less_by key) p l h

  pub sorted_tail : (x : A) (l : List A) → Sorted key (x ∷ l) → Sorted key l
  sorted_tail x l h = pairwise-tail (less_by key) x l h

  -- a new element goes behind those that come before it
  pub sorted_insert : (f : A) (l : List A) → Sorted key l → ((x : A) → Memᴰ x l → key x ≡ key f → ⊥) → Sorted key (insert_at (leading (λ g. less_by key g f) l) f l)
  unfolding leading insert_at pairwise every
  sorted_insert f [] h n = refl
  sorted_insert f (x ∷ l) h n = go (true-or-false (less_by key x f)) (sorted_insert f l (sorted_tail x l h) (λ y m. n y (Memᴰ.tail m)))
    where
      after : every (less_by key x) l ≡ true
      after = pairwise-head (less_by key) x l h

      go : (less_by key x f ≡ true) ⊎ (less_by key x f ≡ false) → Sorted key (insert_at (leading (λ g. less_by key g f) l) f l) → Sorted key (insert_at (leading (λ g. less_by key g f) (x ∷ l)) f (x ∷ l))
      go (inl e) t =
          rw e
          (and_intro (every-insert_at (less_by key x) (leading (λ g. less_by key g f) l) f l ∙ and_intro e after) t)
      go (inr e) t =
          let b : less_by key f x ≡ true = less_other x f e (n x (Memᴰ.head refl)) in
          rw e
          (and_intro (and_intro b (every-mono (less_by key x) (less_by key f) l (λ z q. less-trans f x z b q) after)) h)

  -- the elements decide a sorted list
  pub sorted-unique : (a b : List A) → Sorted key a → Sorted key b → ((x : A) → Memᴰ x a → Memᴰ x b) → ((x : A) → Memᴰ x b → Memᴰ x a) → a ≡ b
  sorted-unique [] [] h k f g = refl
  sorted-unique [] (y ∷ b) h k f g = absurd (Memᴰ.not-nil (g y (Memᴰ.head refl)))
  sorted-unique (x ∷ a) [] h k f g = absurd (Memᴰ.not-nil (f x (Memᴰ.head refl)))
  sorted-unique (x ∷ a) (y ∷ b) h k f g =
      ap₂ ◌∷◌ first
      (sorted-unique a b (sorted_tail x a h) (sorted_tail y b k) (λ z m. into z m (Memᴰ.cases_cons (f z (Memᴰ.tail m))))
      (λ z m. back z m (Memᴰ.cases_cons (g z (Memᴰ.tail m)))))
    where
      pick : (x ≡ y) ⊎ Memᴰ x b → (y ≡ x) ⊎ Memᴰ y a → x ≡ y
      pick (inl e) q = e
      pick (inr m) (inl e) = sym e
      pick (inr m) (inr n) =
          absurd (less-asym x y (every-mem (less_by key x) (pairwise-head (less_by key) x a h) n) (every-mem (less_by key y) (pairwise-head (less_by key) y b k) m))

      first : x ≡ y
      first = pick (Memᴰ.cases_cons (f x (Memᴰ.head refl))) (Memᴰ.cases_cons (g y (Memᴰ.head refl)))

      into : (z : A) → Memᴰ z a → (z ≡ y) ⊎ Memᴰ z b → Memᴰ z b
      into z m (inl e) =
          let q : less_by key x z ≡ true = every-mem (less_by key x) (pairwise-head (less_by key) x a h) m in
          absurd (less-not-same-key x z q (ap key (first ∙ sym e)))
      into z m (inr n) = n

      back : (z : A) → Memᴰ z b → (z ≡ x) ⊎ Memᴰ z a → Memᴰ z a
      back z m (inl e) =
          let q : less_by key y z ≡ true = every-mem (less_by key y) (pairwise-head (less_by key) y b k) m in
          absurd (less-not-same-key y z q (ap key (sym first ∙ sym e)))
      back z m (inr n) = n

  -- a test that holds of whatever comes before an element of which it holds is passed by a first part
  none_after : (p : A → Bool) (x : A) (l : List A) → Sorted key (x ∷ l) → ((y z : A) → Memᴰ y (x ∷ l) → Memᴰ z (x ∷ l) → p y ≡ true → less_by key z y ≡ true → p z ≡ true) → p x ≡ false → any p l ≡ false
  none_after p x l h f e =
      any-of-false p l
      (λ y m.
      false-of-no (p y)
      (λ t.
      clash
      (f y x (Memᴰ.tail m) (Memᴰ.head refl) t (every-mem (less_by key x) (pairwise-head (less_by key) x l h) m)) e))

  pub select-prefix : (p : A → Bool) (l : List A) → Sorted key l → ((y z : A) → Memᴰ y l → Memᴰ z l → p y ≡ true → less_by key z y ≡ true → p z ≡ true) → select p l ≡ take (leading p l) l
  unfolding select leading
  select-prefix p [] h f = refl
  select-prefix p (x ∷ l) h f =
      elim (true-or-false (p x)) [
        | inl e ↦
            rw (e)
            (ap₂ ◌∷◌ refl (select-prefix p l (sorted_tail x l h) (λ y z m n. f y z (Memᴰ.tail m) (Memᴰ.tail n))))
        | inr e ↦ rw (e) (select-none p l (none_after p x l h f e))
      ]

  pub select-suffix : (p : A → Bool) (l : List A) → Sorted key l → ((y z : A) → Memᴰ y l → Memᴰ z l → p y ≡ true → less_by key z y ≡ true → p z ≡ true) → select (λ x. not (p x)) l ≡ drop (leading p l) l
  unfolding select leading
  select-suffix p [] h f = refl
  select-suffix p (x ∷ l) h f =
      elim (true-or-false (p x)) [
        | inl e ↦ rw (e) (select-suffix p l (sorted_tail x l h) (λ y z m n. f y z (Memᴰ.tail m) (Memᴰ.tail n)))
        | inr e ↦
            rw (e)
            (ap₂ ◌∷◌ refl
            (select-all (λ (y : A). not (p y)) l
            (every-of-mem (λ (y : A). not (p y)) l (λ y m. not_of_false (any_false p (none_after p x l h f e) m)))))
      ]

module _ {A : Type 0} where
  -- another key that compares the elements in the same way
  pub sorted-rekey : (key key' : A → List ℕ) (l : List A) → ((x y : A) → Memᴰ x l → Memᴰ y l → lex_compare (key x) (key y) ≡ lex_compare (key' x) (key' y)) → Sorted key l → Sorted key' l
  sorted-rekey key key' l f h =
      sym (pairwise-ext (less_by key) (less_by key') l (λ x y m n. ap is_less (f x y m n))) ∙ h

  pub sorted-map : {B : Type 0} (key : A → List ℕ) (f : B → A) (l : List B) → Sorted (λ x. key (f x)) l → Sorted key (map f l)
  sorted-map key f l h = pairwise_map (less_by key) f l ∙ h

-- no two elements alike
module _ {A : Type 0} (same : A → A → Bool) where
  not-any : (p : A → Bool) (l : List A) → not (any p l) ≡ every (λ x. not (p x)) l
  unfolding any every
  not-any p [] = refl
  not-any p (x ∷ l) =
      elim (true-or-false (p x)) [
        | inl e ↦ rw e
        | inr e ↦ rw e (not-any p l)
      ]

  pub apart-pairwise : (l : List A) → apart same l ≡ pairwise (λ x y. not (same x y)) l
  unfolding apart pairwise
  apart-pairwise [] = refl
  apart-pairwise (x ∷ l) = ap₂ ◌&&◌ (not-any (same x) l) (apart-pairwise l)

  pub pairwise-of-apart : (l : List A) → apart same l ≡ true → pairwise (λ x y. not (same x y)) l ≡ true
  pairwise-of-apart l h = sym (apart-pairwise l) ∙ h

  pub apart-of-pairwise : (l : List A) → pairwise (λ x y. not (same x y)) l ≡ true → apart same l ≡ true
  apart-of-pairwise l h = apart-pairwise l ∙ h

  pub apart-head : (x : A) (l : List A) → apart same (x ∷ l) ≡ true → any (same x) l ≡ false
  unfolding apart
  apart-head x l h = false_of_not (any (same x) l) (and_left (not (any (same x) l)) (apart same l) h)

  pub apart-tail : (x : A) (l : List A) → apart same (x ∷ l) ≡ true → apart same l ≡ true
  unfolding apart
  apart-tail x l h = and_right (not (any (same x) l)) (apart same l) h

  pub apart_cons : (x : A) (l : List A) → any (same x) l ≡ false → apart same l ≡ true → apart same (x ∷ l) ≡ true
  unfolding apart
  apart_cons x l h k = and_intro (not_of_false h) k

  pub apart-index : (l : List A) (d : A) → apart same l ≡ true → (i j : ℕ) → i < j → j < length l → same (get_or l i d) (get_or l j d) ≡ false
  apart-index l d h i j k t =
      false_of_not (same (get_or l i d) (get_or l j d)) (pairwise-index (λ x y. not (same x y)) l d (pairwise-of-apart l h) i j k t)

  pub apart-select : (p : A → Bool) (l : List A) → apart same l ≡ true → apart same (select p l) ≡ true
  apart-select p l h = apart-of-pairwise (select p l) (pairwise-select (λ x y. not (same x y)) p l (pairwise-of-apart l h))

  -- where alike is symmetric, a new element may be put in anywhere
  pub apart-insert_at : ((x y : A) → same x y ≡ same y x) → (i : ℕ) (f : A) (l : List A) → any (same f) l ≡ false → apart same l ≡ true → apart same (insert_at i f l) ≡ true
  apart-insert_at s i f l e h =
      apart-of-pairwise (insert_at i f l)
      (pairwise-insert_at (λ x y. not (same x y)) i f l
      (every-of-mem (λ (y : A). not (same y f)) (take i l)
      (λ y m. not_of_false (s y f ∙ any_false (same f) e (mem-of-take i l m))))
      (every-of-mem (λ (y : A). not (same f y)) (drop i l) (λ y m. not_of_false (any_false (same f) e (mem-of-drop i l m))))
      (pairwise-of-apart l h))

  pub apart-map : {B : Type 0} (f : B → A) (l : List B) → apart same (map f l) ≡ apart (λ x y. same (f x) (f y)) l
  unfolding apart
  apart-map f [] = refl
  apart-map f (x ∷ l) = ap₂ (λ (a b : Bool). not a && b) (any-map (same (f x)) f l) (apart-map f l)

  pub apart-append : (a b : List A) → apart same a ≡ true → apart same b ≡ true → ((x y : A) → Memᴰ x a → Memᴰ y b → same x y ≡ false) → apart same (a ++ b) ≡ true
  apart-append a b h k f =
      apart-of-pairwise (a ++ b)
      (pairwise_append (λ x y. not (same x y)) a b (pairwise-of-apart a h) (pairwise-of-apart b k) (λ x y m n. not_of_false (f x y m n)))

  pub apart-front : (a b : List A) → apart same (a ++ b) ≡ true → apart same a ≡ true
  apart-front a b h =
      apart-of-pairwise a
      (rw (take-append_seam a b) at (pairwise_take (λ x y. not (same x y)) (length a) (a ++ b) (pairwise-of-apart (a ++ b) h)))

  pub apart-across : (a b : List A) {x y : A} → apart same (a ++ b) ≡ true → Memᴰ x a → Memᴰ y b → same x y ≡ false
  apart-across a b {x} {y} h m n =
      false_of_not (same x y) (pairwise-across (λ x y. not (same x y)) a b (pairwise-of-apart (a ++ b) h) m n)

-- how many there can be
module _ {A : Type 0} where
  pub select-split-length : (p : A → Bool) (l : List A) → length (select p l) + length (select (λ x. not (p x)) l) ≡ length l
  unfolding select
  select-split-length p [] = refl
  select-split-length p (x ∷ l) =
      let t : length (select p l) + length (select (λ x. not (p x)) l) ≡ length l = select-split-length p l in
      elim (true-or-false (p x)) [
        | inl e ↦ rw (e) (omega arith)
        | inr e ↦ rw (e) (omega arith)
      ]

  at_most_one : (r : A → A → Bool) (l : List A) → pairwise r l ≡ true → ((x y : A) → Memᴰ x l → Memᴰ y l → r x y ≡ false) → length l ≤ 1
  unfolding pairwise every
  at_most_one r [] h f = zero-le
  at_most_one r (x ∷ []) h f = suc-le-suc zero-le
  at_most_one r (x ∷ (y ∷ l)) h f =
      absurd
      (clash (and_left (r x y) (every (r x) l) (pairwise-head r x (y ∷ l) h)) (f x y (Memᴰ.head refl) (Memᴰ.tail (Memᴰ.head refl))))

  -- elements with distinct numbers below n are at most n
  pub pigeonhole : (c : A → ℕ) (n : ℕ) (l : List A) → ((x : A) → Memᴰ x l → c x < n) → pairwise (λ x y. not (eqb (c x) (c y))) l ≡ true → length l ≤ n
  pigeonhole c zero [] f h = zero-le
  pigeonhole c zero (x ∷ l) f h = absurd (not-suc-le-zero (f x (Memᴰ.head refl)))
  pigeonhole c (suc n) l f h =
      let top : A → Bool = λ x. eqb (c x) n in
      let one : length (select top l) ≤ 1 =
      at_most_one (λ x y. not (eqb (c x) (c y))) (select top l) (pairwise-select (λ x y. not (eqb (c x) (c y))) top l h)
      (λ x y m k.
      not-of-true
      (eq-eqb (c x) (c y) (eqb-true (c x) n (mem-of-select top l m).1 ∙ sym (eqb-true (c y) n (mem-of-select top l k).1))))
      in
      let rest : length (select (λ x. not (top x)) l) ≤ n =
      pigeonhole c n (select (λ x. not (top x)) l)
      (λ x m.
      let q : eqb (c x) n ≡ false = false_of_not (top x) (mem-of-select (λ (y : A). not (top y)) l m).1 in
      omega (arith, f x (mem-of-select (λ (y : A). not (top y)) l m).0, eqb-false (c x) n q))
      (pairwise-select (λ x y. not (eqb (c x) (c y))) (λ x. not (top x)) l h)
      in
      omega (arith, select-split-length top l)

  -- no two elements with the same pair of numbers, the one below n, the other among m from lo on: at most n m elements
  pub pigeonhole-pairs : (same : A → A → Bool) (a b : A → ℕ) (n lo m : ℕ) (l : List A) → apart same l ≡ true
      → ((x y : A) → Memᴰ x l → Memᴰ y l → a x ≡ a y → b x ≡ b y → same x y ≡ true)
      → ((x : A) → Memᴰ x l → a x < n) → ((x : A) → Memᴰ x l → lo ≤ b x) → ((x : A) → Memᴰ x l → b x < lo + m) → length l ≤ n * m
  pigeonhole-pairs same a b n lo m l h f fa fl fb =
      pigeonhole (λ x. a x * m + (b x - lo)) (n * m) l
      (λ x t.
      let k : suc (a x) * m ≤ n * m = mul-le-mul_right m (fa x t) in
      omega (arith, suc-mul (a x) m, fl x t, fb x t))
      (pairwise-mono (λ x y. not (same x y)) (λ x y. not (eqb (a x * m + (b x - lo)) (a y * m + (b y - lo)))) l
      (λ x y t u e.
      not_of_false
      (ne_eqb (a x * m + (b x - lo)) (a y * m + (b y - lo))
      (λ q. clash (one_place x y t u q) (false_of_not (same x y) e))))
      (pairwise-of-apart same l h))
    where
      one_place : (x y : A) → Memᴰ x l → Memᴰ y l → a x * m + (b x - lo) ≡ a y * m + (b y - lo) → same x y ≡ true
      one_place x y t u q = go (lt-or-ge (a x) (a y)) (lt-or-ge (a y) (a x))
        where
          go : (a x < a y) ⊎ (a y ≤ a x) → (a y < a x) ⊎ (a x ≤ a y) → same x y ≡ true
          go (inl k) j =
              let w : suc (a x) * m ≤ a y * m = mul-le-mul_right m k in
              absurd (omega (arith, suc-mul (a x) m, fl x t, fb x t))
          go (inr k) (inl j) =
              let w : suc (a y) * m ≤ a x * m = mul-le-mul_right m j in
              absurd (omega (arith, suc-mul (a y) m, fl y u, fb y u))
          go (inr k) (inr j) =
              let e : a x ≡ a y = omega arith in
              let w : a x * m ≡ a y * m = ap (λ (i : ℕ). i * m) e in
              f x y t u e (omega (arith, fl x t, fl y u))
