-- Laws of the tools on lists.
-- Assumes nothing.
use Prim.Native.Nat.{ℕ, zero, suc, ◌+◌, ◌*◌, ◌-◌, ◌≤◌, ◌<◌, min, zero-le, suc-le-suc}
use native.Mathlib.Omega.{arith}
use native.Mathlib.Nat.{suc_inj, not-suc-le-zero, le_of_suc-le-suc, zero-add, add-zero, suc-add, add-suc, suc-mul}
use mathlib.Core.Bool.{Bool, true, false, ◌&&◌, ◌||◌, not, cond}
use mathlib.Core.List.{List, [], ◌∷◌, ◌++◌, map, append_assoc}
use mathlib.Core.List.{Memᴰ}
use mathlib.Core.Logic.{◌⊎◌, inl, inr}
use mathlib.Core.Option.{none, some, Option-elim}
use mathlib.Core.Path.{◌≡◌, refl, sym, ap, ap₂, ◌∙◌}
use lib.Dec.{leb, eqb, eqb-zero-suc, eqb-suc-zero, eqb-suc-suc}
use lib.ListN.{length, take, drop, get_or, set, replicate, get_elem?}
use lib.ListN.{length-append, length-drop, length-replicate, take-append-drop, get_or-eq_default}
use borrow.Author.Tests.{eqb-true, eq-eqb, leb-true}
use lib.Seq.{take-nil, length-take-le, take-append_seam, drop-append_seam, drop-append-add, drop-drop}
use Rattle.laws.specs.Lists.{tab, every, any, select, select_from, same_list, leading, insert_at, overlay, fold_left, joined, largest, smallest, padded}
use Rattle.laws.proofs.Numbers.{lt-or-ge, true-or-false, clash, and_intro, and_left, and_right, or_left, or_right, or_cases, or-false-left, or-false-right, false-of-no}

module _ {A : Type 0} where
  -- membership
  pub mem-get_or : (l : List A) (i : ℕ) (d : A) → i < length l → Memᴰ (get_or l i d) l
  mem-get_or [] i d h = absurd (not-suc-le-zero h)
  mem-get_or (x ∷ xs) zero d h = mathlib.Core.List.Memᴰ.head refl
  mem-get_or (x ∷ xs) (suc i) d h = mathlib.Core.List.Memᴰ.tail (mem-get_or xs i d (le_of_suc-le-suc h))

  pub index-of-mem : {x : A} {l : List A} (d : A) → Memᴰ x l → (i : ℕ) × (i < length l) × (get_or l i d ≡ x)
  index-of-mem d (mathlib.Core.List.Memᴰ.head e) = (0, suc-le-suc zero-le, sym e)
  index-of-mem d (mathlib.Core.List.Memᴰ.tail m) =
      let r = index-of-mem d m in (suc r.0, suc-le-suc r.1, r.2)

  pub mem-of-take : (k : ℕ) (l : List A) {x : A} → Memᴰ x (take k l) → Memᴰ x l
  mem-of-take zero l m = absurd (mathlib.Core.List.Memᴰ.not-nil m)
  mem-of-take (suc k) [] m = m
  mem-of-take (suc k) (y ∷ l) m =
      elim (mathlib.Core.List.Memᴰ.cases_cons m) [
        | inl e ↦ mathlib.Core.List.Memᴰ.head e
        | inr t ↦ mathlib.Core.List.Memᴰ.tail (mem-of-take k l t)
      ]

  pub mem-of-drop : (k : ℕ) (l : List A) {x : A} → Memᴰ x (drop k l) → Memᴰ x l
  mem-of-drop zero l m = m
  mem-of-drop (suc k) [] m = m
  mem-of-drop (suc k) (y ∷ l) m = mathlib.Core.List.Memᴰ.tail (mem-of-drop k l m)

  -- the first places dropped of a longer beginning
  pub drop-take : (k m : ℕ) (l : List A) → drop k (take (k + m) l) ≡ take m (drop k l)
  drop-take zero m l = ap (λ (n : ℕ). take n l) (zero-add m)
  drop-take (suc k) m [] = ap (drop (suc k)) (take-nil (suc k + m)) ∙ sym (take-nil m)
  drop-take (suc k) m (x ∷ l) = ap (λ (n : ℕ). drop (suc k) (take n (x ∷ l))) (suc-add k m) ∙ drop-take k m l

  -- n entries made by a function
  pub length-tab : (n : ℕ) (f : ℕ → A) → length (tab n f) ≡ n
  unfolding tab
  length-tab zero f = refl
  length-tab (suc n) f = ap suc (length-tab n _)

  pub get_or-tab : (n : ℕ) (f : ℕ → A) (i : ℕ) (d : A) → i < n → get_or (tab n f) i d ≡ f i
  unfolding tab
  get_or-tab zero f i d h = absurd (not-suc-le-zero h)
  get_or-tab (suc n) f zero d h = refl
  get_or-tab (suc n) f (suc i) d h = get_or-tab n (λ j. f (suc j)) i d (le_of_suc-le-suc h)

  pub get_or-tab-out : (n : ℕ) (f : ℕ → A) (i : ℕ) (d : A) → n ≤ i → get_or (tab n f) i d ≡ d
  get_or-tab-out n f i d h = get_or-eq_default (tab n f) d {n = i} (rw length-tab h)

  pub tab-ext : (n : ℕ) (f g : ℕ → A) → ((i : ℕ) → i < n → f i ≡ g i) → tab n f ≡ tab n g
  unfolding tab
  tab-ext zero f g h = refl
  tab-ext (suc n) f g h =
      ap₂ ◌∷◌ (h 0 (suc-le-suc zero-le)) (tab-ext n (λ i. f (suc i)) (λ i. g (suc i)) (λ i k. h (suc i) (suc-le-suc k)))

  -- a list is the table of its entries
  pub eq-tab : (l : List A) (n : ℕ) (f : ℕ → A) (d : A) → length l ≡ n → ((i : ℕ) → i < n → get_or l i d ≡ f i) → l ≡ tab n f
  unfolding tab
  eq-tab [] zero f d e h = refl
  eq-tab [] (suc n) f d e h = absurd (omega arith)
  eq-tab (x ∷ xs) zero f d e h = absurd (omega arith)
  eq-tab (x ∷ xs) (suc n) f d e h =
      ap₂ ◌∷◌ (h 0 (suc-le-suc zero-le)) (eq-tab xs n (λ i. f (suc i)) d (suc_inj e) (λ i k. h (suc i) (suc-le-suc k)))

  pub tab-take : (w : ℕ) (l : List A) (d : A) → w ≤ length l → tab w (λ i. get_or l i d) ≡ take w l
  unfolding tab
  tab-take zero l d h = refl
  tab-take (suc w) [] d h = absurd (not-suc-le-zero h)
  tab-take (suc w) (x ∷ xs) d h = ap₂ ◌∷◌ refl (tab-take w xs d (le_of_suc-le-suc h))

  pub tab-get_or : (w : ℕ) (l : List A) (d : A) → length l ≡ w → tab w (λ i. get_or l i d) ≡ l
  tab-get_or w l d e = sym (eq-tab l w (λ i. get_or l i d) d e (λ i h. refl))

  pub take-tab : (k n : ℕ) (f : ℕ → A) → k ≤ n → take k (tab n f) ≡ tab k f
  unfolding tab
  take-tab zero n f h = refl
  take-tab (suc k) zero f h = absurd (not-suc-le-zero h)
  take-tab (suc k) (suc n) f h = ap₂ ◌∷◌ refl (take-tab k n (λ i. f (suc i)) (le_of_suc-le-suc h))

  pub tab-suc : (n : ℕ) (f : ℕ → A) → tab (suc n) f ≡ tab n f ++ (f n ∷ [])
  unfolding tab
  tab-suc zero f = refl
  tab-suc (suc n) f = ap₂ ◌∷◌ refl (tab-suc n (λ i. f (suc i)))

  pub replicate-tab : (n : ℕ) (a : A) → replicate n a ≡ tab n (λ i. a)
  unfolding tab
  replicate-tab zero a = refl
  replicate-tab (suc n) a = ap₂ ◌∷◌ refl (replicate-tab n a)

  pub set-tab : (n : ℕ) (f : ℕ → A) (i : ℕ) (a : A) → set (tab n f) i a ≡ tab n (λ j. cond (eqb j i) a (f j))
  unfolding tab
  set-tab zero f i a = refl
  set-tab (suc n) f zero a =
      ap₂ ◌∷◌ refl (tab-ext n (λ j. f (suc j)) (λ j. cond (eqb (suc j) 0) a (f (suc j))) (λ j h. rw eqb-suc-zero))
  set-tab (suc n) f (suc i) a =
      ap₂ ◌∷◌ (rw eqb-zero-suc)
      (set-tab n (λ j. f (suc j)) i a
      ∙ tab-ext n (λ j. cond (eqb j i) a (f (suc j))) (λ j. cond (eqb (suc j) (suc i)) a (f (suc j))) (λ j h. rw eqb-suc-suc))

  -- a test that holds of every element
  pub every-index : (p : A → Bool) (l : List A) (d : A) → every p l ≡ true → (i : ℕ) → i < length l → p (get_or l i d) ≡ true
  unfolding every
  every-index p [] d h i k = absurd (not-suc-le-zero k)
  every-index p (x ∷ xs) d h zero k = and_left (p x) (every p xs) h
  every-index p (x ∷ xs) d h (suc i) k = every-index p xs d (and_right (p x) (every p xs) h) i (le_of_suc-le-suc k)

  pub every-of-index : (p : A → Bool) (l : List A) (d : A) → ((i : ℕ) → i < length l → p (get_or l i d) ≡ true) → every p l ≡ true
  unfolding every
  every-of-index p [] d h = refl
  every-of-index p (x ∷ xs) d h =
      and_intro (h 0 (suc-le-suc zero-le)) (every-of-index p xs d (λ i k. h (suc i) (suc-le-suc k)))

  pub every-mem : (p : A → Bool) {x : A} {l : List A} → every p l ≡ true → Memᴰ x l → p x ≡ true
  unfolding every
  every-mem p h (mathlib.Core.List.Memᴰ.head {x = y} {xs} e) = rw e (and_left (p y) (every p xs) h)
  every-mem p h (mathlib.Core.List.Memᴰ.tail {x = y} {xs} m) = every-mem p (and_right (p y) (every p xs) h) m

  pub every-of-mem : (p : A → Bool) (l : List A) → ((x : A) → Memᴰ x l → p x ≡ true) → every p l ≡ true
  unfolding every
  every-of-mem p [] h = refl
  every-of-mem p (x ∷ xs) h =
      and_intro (h x (mathlib.Core.List.Memᴰ.head refl)) (every-of-mem p xs (λ y m. h y (mathlib.Core.List.Memᴰ.tail m)))

  pub every-mono-mem : (p q : A → Bool) (l : List A) → ((x : A) → Memᴰ x l → p x ≡ true → q x ≡ true) → every p l ≡ true → every q l ≡ true
  every-mono-mem p q l f h = every-of-mem q l (λ x m. f x m (every-mem p h m))

  pub every-mono : (p q : A → Bool) (l : List A) → ((x : A) → p x ≡ true → q x ≡ true) → every p l ≡ true → every q l ≡ true
  every-mono p q l f h = every-mono-mem p q l (λ x m. f x) h

  pub every_append : (p : A → Bool) (a b : List A) → every p (a ++ b) ≡ (every p a && every p b)
  unfolding every
  every_append p [] b = refl
  every_append p (x ∷ a) b =
      elim (true-or-false (p x)) [
        | inl e ↦ rw e (every_append p a b)
        | inr e ↦ rw e
      ]

  pub every-append-intro : (p : A → Bool) (a b : List A) → every p a ≡ true → every p b ≡ true → every p (a ++ b) ≡ true
  every-append-intro p a b h k = every_append p a b ∙ and_intro h k

  pub every-append-left : (p : A → Bool) (a b : List A) → every p (a ++ b) ≡ true → every p a ≡ true
  every-append-left p a b h = and_left (every p a) (every p b) (sym (every_append p a b) ∙ h)

  pub every-append-right : (p : A → Bool) (a b : List A) → every p (a ++ b) ≡ true → every p b ≡ true
  every-append-right p a b h = and_right (every p a) (every p b) (sym (every_append p a b) ∙ h)

  pub every_take : (p : A → Bool) (k : ℕ) (l : List A) → every p l ≡ true → every p (take k l) ≡ true
  every_take p k l h = every-of-mem p (take k l) (λ x m. every-mem p h (mem-of-take k l m))

  pub every_drop : (p : A → Bool) (k : ℕ) (l : List A) → every p l ≡ true → every p (drop k l) ≡ true
  every_drop p k l h = every-of-mem p (drop k l) (λ x m. every-mem p h (mem-of-drop k l m))

  pub every-tab : (p : A → Bool) (n : ℕ) (f : ℕ → A) → ((i : ℕ) → i < n → p (f i) ≡ true) → every p (tab n f) ≡ true
  unfolding every tab
  every-tab p zero f h = refl
  every-tab p (suc n) f h =
      and_intro (h 0 (suc-le-suc zero-le)) (every-tab p n (λ i. f (suc i)) (λ i k. h (suc i) (suc-le-suc k)))

  -- a test that holds of some element
  pub any-of-mem : (p : A → Bool) {x : A} {l : List A} → Memᴰ x l → p x ≡ true → any p l ≡ true
  unfolding any
  any-of-mem p (mathlib.Core.List.Memᴰ.head {x = y} {xs} e) h = or_left (any p xs) (rw e at h)
  any-of-mem p (mathlib.Core.List.Memᴰ.tail {x = y} {xs} m) h = or_right (p y) (any-of-mem p m h)

  pub any-mem : (p : A → Bool) (l : List A) → any p l ≡ true → (x : A) × Memᴰ x l × (p x ≡ true)
  unfolding any
  any-mem p [] h = absurd (clash h refl)
  any-mem p (y ∷ xs) h =
      elim (or_cases (p y) (any p xs) h) [
        | inl e ↦ (y, mathlib.Core.List.Memᴰ.head refl, e)
        | inr e ↦ let r = any-mem p xs e in (r.0, mathlib.Core.List.Memᴰ.tail r.1, r.2)
      ]

  pub any_false : (p : A → Bool) {l : List A} {x : A} → any p l ≡ false → Memᴰ x l → p x ≡ false
  any_false p {l} {x} h m = false-of-no (p x) (λ e. clash (any-of-mem p m e) h)

  pub any-of-false : (p : A → Bool) (l : List A) → ((x : A) → Memᴰ x l → p x ≡ false) → any p l ≡ false
  any-of-false p l h = false-of-no (any p l) (λ e. let r = any-mem p l e in clash r.2 (h r.0 r.1))

  pub any_append : (p : A → Bool) (a b : List A) → any p (a ++ b) ≡ (any p a || any p b)
  unfolding any
  any_append p [] b = refl
  any_append p (x ∷ a) b =
      elim (true-or-false (p x)) [
        | inl e ↦ rw e
        | inr e ↦ rw e (any_append p a b)
      ]

  pub any-ext : (p q : A → Bool) (l : List A) → ((x : A) → Memᴰ x l → p x ≡ q x) → any p l ≡ any q l
  unfolding any
  any-ext p q [] h = refl
  any-ext p q (x ∷ xs) h = ap₂ ◌||◌ (h x (mathlib.Core.List.Memᴰ.head refl)) (any-ext p q xs (λ y m. h y (mathlib.Core.List.Memᴰ.tail m)))

  pub every-ext : (p q : A → Bool) (l : List A) → ((x : A) → Memᴰ x l → p x ≡ q x) → every p l ≡ every q l
  unfolding every
  every-ext p q [] h = refl
  every-ext p q (x ∷ xs) h = ap₂ ◌&&◌ (h x (mathlib.Core.List.Memᴰ.head refl)) (every-ext p q xs (λ y m. h y (mathlib.Core.List.Memᴰ.tail m)))

  -- the elements that pass
  pub select_yes : (p : A → Bool) (x : A) (l : List A) → p x ≡ true → select p (x ∷ l) ≡ x ∷ select p l
  unfolding select
  select_yes p x l e = rw e

  pub select_no : (p : A → Bool) (x : A) (l : List A) → p x ≡ false → select p (x ∷ l) ≡ select p l
  unfolding select
  select_no p x l e = rw e

  pub mem-select : (p : A → Bool) {x : A} {l : List A} → Memᴰ x l → p x ≡ true → Memᴰ x (select p l)
  mem-select p (mathlib.Core.List.Memᴰ.head {x = y} {xs} e) h = rw (select_yes p y xs (rw e at h)) (mathlib.Core.List.Memᴰ.head e)
  mem-select p (mathlib.Core.List.Memᴰ.tail {x = y} {xs} m) h =
      let r = mem-select p m h in
      elim (true-or-false (p y)) [
        | inl e ↦ rw (select_yes p y xs e) (mathlib.Core.List.Memᴰ.tail r)
        | inr e ↦ rw (select_no p y xs e) r
      ]

  pub mem-of-select : (p : A → Bool) (l : List A) {x : A} → Memᴰ x (select p l) → Memᴰ x l × (p x ≡ true)
  unfolding select
  mem-of-select p [] m = absurd (mathlib.Core.List.Memᴰ.not-nil m)
  mem-of-select p (y ∷ l) {x} m = go (true-or-false (p y)) (λ (t : Memᴰ x (select p l)). mem-of-select p l t)
    where
      go : (p y ≡ true) ⊎ (p y ≡ false) → (Memᴰ x (select p l) → Memᴰ x l × (p x ≡ true)) → Memᴰ x (y ∷ l) × (p x ≡ true)
      go (inl e) f =
          elim (mathlib.Core.List.Memᴰ.cases_cons (rw (select_yes p y l e) at m)) [
            | inl q ↦ (mathlib.Core.List.Memᴰ.head q, rw q e)
            | inr t ↦ (mathlib.Core.List.Memᴰ.tail (f t).0, (f t).1)
          ]
      go (inr e) f = let r = f (rw (select_no p y l e) at m) in (mathlib.Core.List.Memᴰ.tail r.0, r.1)

  pub select-append : (p : A → Bool) (a b : List A) → select p (a ++ b) ≡ select p a ++ select p b
  unfolding select
  select-append p [] b = refl
  select-append p (x ∷ a) b =
      elim (true-or-false (p x)) [
        | inl e ↦ rw e (ap₂ ◌∷◌ refl (select-append p a b))
        | inr e ↦ rw e (select-append p a b)
      ]

  pub select-all : (p : A → Bool) (l : List A) → every p l ≡ true → select p l ≡ l
  unfolding every select
  select-all p [] h = refl
  select-all p (x ∷ xs) h =
      rw (and_left (p x) (every p xs) h) (ap₂ ◌∷◌ refl (select-all p xs (and_right (p x) (every p xs) h)))

  pub select-none : (p : A → Bool) (l : List A) → any p l ≡ false → select p l ≡ []
  unfolding any select
  select-none p [] h = refl
  select-none p (x ∷ xs) h =
      rw (or-false-left (p x) (any p xs) h) (select-none p xs (or-false-right (p x) (any p xs) h))

  pub select-ext : (p q : A → Bool) (l : List A) → ((x : A) → Memᴰ x l → p x ≡ q x) → select p l ≡ select q l
  unfolding select
  select-ext p q [] h = refl
  select-ext p q (x ∷ l) h =
      ap₂ (λ (b : Bool) (r : List A). cond b (x ∷ r) r) (h x (mathlib.Core.List.Memᴰ.head refl)) (select-ext p q l (λ y m. h y (mathlib.Core.List.Memᴰ.tail m)))

  -- those of the one kind, and those of the other among the rest, are those of either
  pub select-either :
      (p q r : A → Bool) (l : List A) → ((x : A) → Memᴰ x l → r x ≡ (p x || q x))
      → length (select p l) + length (select q (select (λ x. not (p x)) l)) ≡ length (select r l)
  unfolding select
  select-either p q r [] h = refl
  select-either p q r (x ∷ l) h =
      go (p x) (q x) (r x) (h x (mathlib.Core.List.Memᴰ.head refl)) refl (select-either p q r l (λ y m. h y (mathlib.Core.List.Memᴰ.tail m)))
    where
      rest : List A
      rest = select (λ y. not (p y)) l

      go :
          (a b c : Bool) → c ≡ (a || b) → q x ≡ b → length (select p l) + length (select q rest) ≡ length (select r l)
          → length (cond a (x ∷ select p l) (select p l)) + length (select q (cond (not a) (x ∷ rest) rest))
          ≡ length (cond c (x ∷ select r l) (select r l))
      go true b c e f k = rw e (omega (arith, k))
      go false true c e f k = rw (e, f) (omega (arith, k))
      go false false c e f k = rw (e, f) k

  pub select-length-le : (p : A → Bool) (l : List A) → length (select p l) ≤ length l
  unfolding select
  select-length-le p [] = zero-le
  select-length-le p (x ∷ xs) =
      let r : length (select p xs) ≤ length xs = select-length-le p xs in
      elim (true-or-false (p x)) [
        | inl e ↦ rw e (suc-le-suc r)
        | inr e ↦ rw e (omega arith)
      ]

  pub every-select : (p q : A → Bool) (l : List A) → every p l ≡ true → every p (select q l) ≡ true
  every-select p q l h = every-of-mem p (select q l) (λ x m. every-mem p h (mem-of-select q l m).0)

  -- the first elements that pass
  pub leading_le : (p : A → Bool) (l : List A) → leading p l ≤ length l
  unfolding leading
  leading_le p [] = zero-le
  leading_le p (x ∷ xs) =
      let r : leading p xs ≤ length xs = leading_le p xs in
      elim (true-or-false (p x)) [
        | inl e ↦ rw e (omega arith)
        | inr e ↦ rw e (omega arith)
      ]

  pub every-leading : (p : A → Bool) (l : List A) → every p (take (leading p l) l) ≡ true
  unfolding leading every
  every-leading p [] = refl
  every-leading p (x ∷ xs) =
      elim (true-or-false (p x)) [
        | inl e ↦ rw (e, e) (every-leading p xs)
        | inr e ↦ rw e
      ]

  pub leading-stops : (p : A → Bool) (l : List A) (d : A) → leading p l < length l → p (get_or l (leading p l) d) ≡ false
  unfolding leading
  leading-stops p [] d h = absurd (not-suc-le-zero h)
  leading-stops p (x ∷ xs) d h =
      elim (true-or-false (p x)) [
        | inl e ↦ rw e (leading-stops p xs d (le_of_suc-le-suc (rw e at h)))
        | inr e ↦ rw (e, e)
      ]

  pub leading-ext : (p q : A → Bool) (l : List A) → ((x : A) → Memᴰ x l → p x ≡ q x) → leading p l ≡ leading q l
  unfolding leading
  leading-ext p q [] h = refl
  leading-ext p q (x ∷ l) h =
      ap₂ (λ (b : Bool) (k : ℕ). cond b (suc k) 0) (h x (mathlib.Core.List.Memᴰ.head refl)) (leading-ext p q l (λ y m. h y (mathlib.Core.List.Memᴰ.tail m)))

  -- a count that has the two properties of leading is leading
  pub leading_unique : (p : A → Bool) (l : List A) (k : ℕ) (d : A) → k ≤ length l → every p (take k l) ≡ true → (k < length l → p (get_or l k d) ≡ false) → leading p l ≡ k
  unfolding leading every
  leading_unique p [] zero d h e f = refl
  leading_unique p [] (suc k) d h e f = absurd (not-suc-le-zero h)
  leading_unique p (x ∷ xs) zero d h e f = rw (f (suc-le-suc zero-le))
  leading_unique p (x ∷ xs) (suc k) d h e f =
      rw (and_left (p x) (every p (take k xs)) e)
      (ap suc
      (leading_unique p xs k d (le_of_suc-le-suc h) (and_right (p x) (every p (take k xs)) e) (λ t. f (suc-le-suc t))))

  -- an element put in
  pub length-insert_at : (i : ℕ) (x : A) (l : List A) → length (insert_at i x l) ≡ suc (length l)
  unfolding insert_at
  length-insert_at zero x l = refl
  length-insert_at (suc i) x [] = refl
  length-insert_at (suc i) x (y ∷ l) = ap suc (length-insert_at i x l)

  pub get_or-insert_at : (i : ℕ) (x : A) (l : List A) (d : A) → i ≤ length l → get_or (insert_at i x l) i d ≡ x
  unfolding insert_at
  get_or-insert_at zero x l d h = refl
  get_or-insert_at (suc i) x [] d h = absurd (not-suc-le-zero h)
  get_or-insert_at (suc i) x (y ∷ l) d h = get_or-insert_at i x l d (le_of_suc-le-suc h)

  pub insert_at-end : (x : A) (l : List A) → insert_at (length l) x l ≡ l ++ (x ∷ [])
  unfolding insert_at
  insert_at-end x [] = refl
  insert_at-end x (y ∷ l) = ap₂ ◌∷◌ refl (insert_at-end x l)

  pub mem-insert_at-new : (i : ℕ) (x : A) (l : List A) → Memᴰ x (insert_at i x l)
  unfolding insert_at
  mem-insert_at-new i x l = mathlib.Core.List.Memᴰ.append_right (take i l) (mathlib.Core.List.Memᴰ.head refl)

  pub mem-insert_at-old : (i : ℕ) (x : A) {l : List A} {y : A} → Memᴰ y l → Memᴰ y (insert_at i x l)
  unfolding insert_at
  mem-insert_at-old zero x m = mathlib.Core.List.Memᴰ.tail m
  mem-insert_at-old (suc i) x (mathlib.Core.List.Memᴰ.head e) = mathlib.Core.List.Memᴰ.head e
  mem-insert_at-old (suc i) x (mathlib.Core.List.Memᴰ.tail m) = mathlib.Core.List.Memᴰ.tail (mem-insert_at-old i x m)

  pub mem-of-insert_at : (i : ℕ) (x : A) (l : List A) {y : A} → Memᴰ y (insert_at i x l) → (y ≡ x) ⊎ Memᴰ y l
  unfolding insert_at
  mem-of-insert_at i x l m =
      elim (mathlib.Core.List.Memᴰ.append_cases (take i l) m) [
        | inl a ↦ inr (mem-of-take i l a)
        | inr b ↦ elim (mathlib.Core.List.Memᴰ.cases_cons b) [ inl e ↦ inl e | inr c ↦ inr (mem-of-drop i l c) ]
      ]

  pub every-insert_at : (p : A → Bool) (i : ℕ) (x : A) (l : List A) → every p (insert_at i x l) ≡ (p x && every p l)
  unfolding insert_at every
  every-insert_at p zero x l = refl
  every-insert_at p (suc i) x [] = refl
  every-insert_at p (suc i) x (y ∷ l) = ap (λ (b : Bool). p y && b) (every-insert_at p i x l) ∙ go (p y) (p x) (every p l)
    where
      go : (a b c : Bool) → (a && (b && c)) ≡ (b && (a && c))
      go true b c = refl
      go false true c = refl
      go false false c = refl

  pub any-insert_at : (p : A → Bool) (i : ℕ) (x : A) (l : List A) → any p (insert_at i x l) ≡ (p x || any p l)
  unfolding insert_at any
  any-insert_at p zero x l = refl
  any-insert_at p (suc i) x [] = refl
  any-insert_at p (suc i) x (y ∷ l) = ap (λ (b : Bool). p y || b) (any-insert_at p i x l) ∙ go (p y) (p x) (any p l)
    where
      go : (a b c : Bool) → (a || (b || c)) ≡ (b || (a || c))
      go true true c = refl
      go true false c = refl
      go false b c = refl

  -- new laid over the front of old
  pub length-overlay : (new old : List A) → length new ≤ length old → length (overlay new old) ≡ length old
  unfolding overlay
  length-overlay new old h = omega (arith, length-append new (drop (length new) old), length-drop (length new) old)

  pub take-overlay : (new old : List A) → take (length new) (overlay new old) ≡ new
  unfolding overlay
  take-overlay new old = take-append_seam new (drop (length new) old)

  pub drop-overlay : (new old : List A) → drop (length new) (overlay new old) ≡ drop (length new) old
  unfolding overlay
  drop-overlay new old = drop-append_seam new (drop (length new) old)

  pub overlay-own : (n : ℕ) (l : List A) → n ≤ length l → overlay (take n l) l ≡ l
  unfolding overlay
  overlay-own n l h = ap (λ (k : ℕ). take n l ++ drop k l) (length-take-le n l h) ∙ take-append-drop n l

  -- what is laid over a shorter one hides it
  pub overlay-hides : (a b l : List A) → length b ≤ length a → overlay a (overlay b l) ≡ overlay a l
  unfolding overlay
  overlay-hides a b l h =
      let n : ℕ = length a - length b in
      let e : length a ≡ length b + n = omega arith in
      ap (λ (r : List A). a ++ r)
      (ap (λ (k : ℕ). drop k (b ++ drop (length b) l)) e ∙ drop-append-add b (drop (length b) l) n ∙ drop-drop n (length b) l ∙ ap (λ (k : ℕ). drop k l) (sym e))

  -- elements by position
  pub get_elem?-append : (l r : List A) (i : ℕ) → i < length l → get_elem? (l ++ r) i ≡ get_elem? l i
  get_elem?-append [] r i h = absurd (not-suc-le-zero h)
  get_elem?-append (x ∷ l) r zero h = refl
  get_elem?-append (x ∷ l) r (suc i) h = get_elem?-append l r i (le_of_suc-le-suc h)

  pub get_elem?-seam : (l : List A) (x : A) (r : List A) → get_elem? (l ++ (x ∷ r)) (length l) ≡ some x
  get_elem?-seam [] x r = refl
  get_elem?-seam (y ∷ l) x r = get_elem?-seam l x r

  pub get_elem?-last : (l : List A) (x : A) → get_elem? (l ++ (x ∷ [])) (length l) ≡ some x
  get_elem?-last l x = get_elem?-seam l x []

  pub get_elem?-out : (l : List A) (i : ℕ) → length l ≤ i → get_elem? l i ≡ none
  get_elem?-out [] i h = refl
  get_elem?-out (x ∷ l) zero h = absurd (not-suc-le-zero h)
  get_elem?-out (x ∷ l) (suc i) h = get_elem?-out l i (le_of_suc-le-suc h)

  pub get_elem?-in : (l : List A) (i : ℕ) (d : A) → i < length l → get_elem? l i ≡ some (get_or l i d)
  get_elem?-in [] i d h = absurd (not-suc-le-zero h)
  get_elem?-in (x ∷ l) zero d h = refl
  get_elem?-in (x ∷ l) (suc i) d h = get_elem?-in l i d (le_of_suc-le-suc h)

  pub get_elem?-lt : (l : List A) (i : ℕ) {x : A} → get_elem? l i ≡ some x → i < length l
  get_elem?-lt l i {x} e = go (lt-or-ge i (length l))
    where
      go : (i < length l) ⊎ (length l ≤ i) → i < length l
      go (inl h) = h
      go (inr h) =
          let q : get_elem? l i ≡ none = get_elem?-out l i h in
          let z : ◌≡◌ {A = ℕ} 0 1 = cc in omega arith

  pub get_elem?-get_or : (l : List A) (i : ℕ) (d : A) {x : A} → get_elem? l i ≡ some x → get_or l i d ≡ x
  get_elem?-get_or l i d {x} e =
      let q : get_elem? l i ≡ some (get_or l i d) = get_elem?-in l i d (get_elem?-lt l i e) in cc

  pub get_elem?-mem : (l : List A) (i : ℕ) {x : A} → get_elem? l i ≡ some x → Memᴰ x l
  get_elem?-mem l i {x} e = rw (get_elem?-get_or l i x e) at (mem-get_or l i x (get_elem?-lt l i e))

  pub mem-get_elem? : {x : A} {l : List A} → Memᴰ x l → (i : ℕ) × (get_elem? l i ≡ some x)
  mem-get_elem? (mathlib.Core.List.Memᴰ.head e) = (0, ap some (sym e))
  mem-get_elem? (mathlib.Core.List.Memᴰ.tail m) = let r = mem-get_elem? m in (suc r.0, r.1)

  pub get_elem?-set-same : (l : List A) (i : ℕ) (a : A) → i < length l → get_elem? (set l i a) i ≡ some a
  get_elem?-set-same [] i a h = absurd (not-suc-le-zero h)
  get_elem?-set-same (x ∷ l) zero a h = refl
  get_elem?-set-same (x ∷ l) (suc i) a h = get_elem?-set-same l i a (le_of_suc-le-suc h)

  pub get_elem?-set-other : (l : List A) (i j : ℕ) (a : A) → (i ≡ j → ⊥) → get_elem? (set l i a) j ≡ get_elem? l j
  get_elem?-set-other [] i j a h = refl
  get_elem?-set-other (x ∷ l) zero zero a h = absurd (h refl)
  get_elem?-set-other (x ∷ l) zero (suc j) a h = refl
  get_elem?-set-other (x ∷ l) (suc i) zero a h = refl
  get_elem?-set-other (x ∷ l) (suc i) (suc j) a h = get_elem?-set-other l i j a (λ e. h (ap suc e))

  -- one element more at the end
  pub get_elem?-snoc-cases : (l : List A) (x : A) (i : ℕ) {y : A} → get_elem? (l ++ (x ∷ [])) i ≡ some y → (get_elem? l i ≡ some y) ⊎ ((i ≡ length l) × (y ≡ x))
  get_elem?-snoc-cases l x i {y} e = go (lt-or-ge i (length l))
    where
      go : (i < length l) ⊎ (length l ≤ i) → (get_elem? l i ≡ some y) ⊎ ((i ≡ length l) × (y ≡ x))
      go (inl h) = inl (sym (get_elem?-append l (x ∷ []) i h) ∙ e)
      go (inr h) =
          let q : i ≡ length l = omega (arith, get_elem?-lt (l ++ (x ∷ [])) i e, length-append l (x ∷ [])) in
          let s : get_elem? (l ++ (x ∷ [])) (length l) ≡ some x = get_elem?-last l x in
          let t : get_elem? (l ++ (x ∷ [])) (length l) ≡ some y = rw q at e in
          inr (q, cc)

  -- the elements that pass at their position
  pub select_from-yes : (p : ℕ → A → Bool) (i : ℕ) (x : A) (l : List A) → p i x ≡ true → select_from p i (x ∷ l) ≡ x ∷ select_from p (suc i) l
  unfolding select_from
  select_from-yes p i x l e = rw e

  pub select_from-no : (p : ℕ → A → Bool) (i : ℕ) (x : A) (l : List A) → p i x ≡ false → select_from p i (x ∷ l) ≡ select_from p (suc i) l
  unfolding select_from
  select_from-no p i x l e = rw e

  pub mem-select_from : (p : ℕ → A → Bool) (i : ℕ) (l : List A) (k : ℕ) {x : A} → get_elem? l k ≡ some x → p (i + k) x ≡ true → Memᴰ x (select_from p i l)
  mem-select_from p i [] k {x} e h = let z : ◌≡◌ {A = ℕ} 0 1 = cc in absurd (omega arith)
  mem-select_from p i (y ∷ l) zero {x} e h =
      let q : x ≡ y = cc in
      let t : p i y ≡ true = rw (add-zero i, q) at h in
      rw (select_from-yes p i y l t) (mathlib.Core.List.Memᴰ.head q)
  mem-select_from p i (y ∷ l) (suc k) {x} e h =
      let r : Memᴰ x (select_from p (suc i) l) = mem-select_from p (suc i) l k e (rw (suc-add, ← add-suc i k) h) in
      elim (true-or-false (p i y)) [
        | inl t ↦ rw (select_from-yes p i y l t) (mathlib.Core.List.Memᴰ.tail r)
        | inr t ↦ rw (select_from-no p i y l t) r
      ]

  pub mem-of-select_from : (p : ℕ → A → Bool) (i : ℕ) (l : List A) {x : A} → Memᴰ x (select_from p i l) → (k : ℕ) × (get_elem? l k ≡ some x) × (p (i + k) x ≡ true)
  unfolding select_from
  mem-of-select_from p i [] m = absurd (mathlib.Core.List.Memᴰ.not-nil m)
  mem-of-select_from p i (y ∷ l) {x} m =
      go (true-or-false (p i y)) (λ (t : Memᴰ x (select_from p (suc i) l)). later (mem-of-select_from p (suc i) l t))
    where
      Found : Type 0
      Found = (k : ℕ) × (get_elem? (y ∷ l) k ≡ some x) × (p (i + k) x ≡ true)

      later : (k : ℕ) × (get_elem? l k ≡ some x) × (p (suc i + k) x ≡ true) → Found
      later r = (suc r.0, r.1, rw (add-suc, ← suc-add) r.2)

      go : (p i y ≡ true) ⊎ (p i y ≡ false) → (Memᴰ x (select_from p (suc i) l) → Found) → Found
      go (inl e) f =
          elim (mathlib.Core.List.Memᴰ.cases_cons (rw (select_from-yes p i y l e) at m)) [
            | inl q ↦ (0, ap some (sym q), rw (add-zero i, q) e)
            | inr t ↦ f t
          ]
      go (inr e) f = f (rw (select_from-no p i y l e) at m)

  pub mem-select_from-zero : (p : ℕ → A → Bool) (l : List A) (k : ℕ) {x : A} → get_elem? l k ≡ some x → p k x ≡ true → Memᴰ x (select_from p 0 l)
  mem-select_from-zero p l k e h = mem-select_from p 0 l k e (rw (zero-add k) h)

  pub mem-of-select_from-zero : (p : ℕ → A → Bool) (l : List A) {x : A} → Memᴰ x (select_from p 0 l) → (k : ℕ) × (get_elem? l k ≡ some x) × (p k x ≡ true)
  mem-of-select_from-zero p l {x} m =
      let r = mem-of-select_from p 0 l m in
      let t : p r.0 x ≡ true = rw (zero-add r.0) at r.2 in (r.0, r.1, t)

  -- how many elements pass
  unfoldable pub count_of : (A → Bool) → List A → ℕ
  count_of p l = length (select p l)

  pub count_of-yes : (p : A → Bool) (x : A) (l : List A) → p x ≡ true → count_of p (x ∷ l) ≡ suc (count_of p l)
  unfolding count_of
  count_of-yes p x l e = ap length (select_yes p x l e)

  pub count_of-no : (p : A → Bool) (x : A) (l : List A) → p x ≡ false → count_of p (x ∷ l) ≡ count_of p l
  unfolding count_of
  count_of-no p x l e = ap length (select_no p x l e)

  -- a narrower test counts no more, and less where an element fails it alone
  pub count_of-under : (p q : A → Bool) (l : List A) → ((x : A) → p x ≡ true → q x ≡ true) → count_of p l ≤ count_of q l
  unfolding count_of select
  count_of-under p q [] h = omega arith
  count_of-under p q (x ∷ l) h = go (true-or-false (p x)) (true-or-false (q x)) (count_of-under p q l h)
    where
      go : (p x ≡ true) ⊎ (p x ≡ false) → (q x ≡ true) ⊎ (q x ≡ false) → count_of p l ≤ count_of q l → count_of p (x ∷ l) ≤ count_of q (x ∷ l)
      go (inl k) m r = rw (count_of-yes p x l k, count_of-yes q x l (h x k)) (suc-le-suc r)
      go (inr k) (inl m) r = rw (count_of-no p x l k, count_of-yes q x l m) (omega arith)
      go (inr k) (inr m) r = rw (count_of-no p x l k, count_of-no q x l m) r

  pub count_of-among : (p q : A → Bool) {x : A} {l : List A} → ((y : A) → p y ≡ true → q y ≡ true) → Memᴰ x l → p x ≡ false → q x ≡ true → count_of p l < count_of q l
  count_of-among p q h (mathlib.Core.List.Memᴰ.head {x = y} {xs} e) bad good =
      rw (count_of-no p y xs (rw e at bad), count_of-yes q y xs (rw e at good)) (suc-le-suc (count_of-under p q xs h))
  count_of-among p q h (mathlib.Core.List.Memᴰ.tail {x = y} {xs} m) bad good = go (true-or-false (p y)) (true-or-false (q y)) (count_of-among p q h m bad good)
    where
      go : (p y ≡ true) ⊎ (p y ≡ false) → (q y ≡ true) ⊎ (q y ≡ false) → count_of p xs < count_of q xs → count_of p (y ∷ xs) < count_of q (y ∷ xs)
      go (inl k) n r = rw (count_of-yes p y xs k, count_of-yes q y xs (h y k)) (suc-le-suc r)
      go (inr k) (inl n) r = rw (count_of-no p y xs k, count_of-yes q y xs n) (omega arith)
      go (inr k) (inr n) r = rw (count_of-no p y xs k, count_of-no q y xs n) r

  -- one element changed
  pub count_of-set-same : (p : A → Bool) (l : List A) (i : ℕ) (a d : A) → p (get_or l i d) ≡ p a → count_of p (set l i a) ≡ count_of p l
  unfolding count_of select
  count_of-set-same p [] i a d e = refl
  count_of-set-same p (x ∷ l) zero a d e = go (true-or-false (p a))
    where
      go : (p a ≡ true) ⊎ (p a ≡ false) → count_of p (a ∷ l) ≡ count_of p (x ∷ l)
      go (inl k) = count_of-yes p a l k ∙ sym (count_of-yes p x l (e ∙ k))
      go (inr k) = count_of-no p a l k ∙ sym (count_of-no p x l (e ∙ k))
  count_of-set-same p (x ∷ l) (suc i) a d e = go (true-or-false (p x)) (count_of-set-same p l i a d e)
    where
      go : (p x ≡ true) ⊎ (p x ≡ false) → count_of p (set l i a) ≡ count_of p l → count_of p (x ∷ set l i a) ≡ count_of p (x ∷ l)
      go (inl k) r = count_of-yes p x (set l i a) k ∙ ap suc r ∙ sym (count_of-yes p x l k)
      go (inr k) r = count_of-no p x (set l i a) k ∙ r ∙ sym (count_of-no p x l k)

  pub count_of-set-gain : (p : A → Bool) (l : List A) (i : ℕ) (a d : A) → i < length l → p (get_or l i d) ≡ false → p a ≡ true → count_of p (set l i a) ≡ suc (count_of p l)
  count_of-set-gain p [] i a d h e f = absurd (not-suc-le-zero h)
  count_of-set-gain p (x ∷ l) zero a d h e f = count_of-yes p a l f ∙ ap suc (sym (count_of-no p x l e))
  count_of-set-gain p (x ∷ l) (suc i) a d h e f =
      go (true-or-false (p x)) (count_of-set-gain p l i a d (le_of_suc-le-suc h) e f)
    where
      go : (p x ≡ true) ⊎ (p x ≡ false) → count_of p (set l i a) ≡ suc (count_of p l) → count_of p (x ∷ set l i a) ≡ suc (count_of p (x ∷ l))
      go (inl k) r = count_of-yes p x (set l i a) k ∙ ap suc (r ∙ sym (count_of-yes p x l k))
      go (inr k) r = count_of-no p x (set l i a) k ∙ r ∙ ap suc (sym (count_of-no p x l k))

module _ {A B : Type 0} where
  -- maps
  pub mem-map : (f : A → B) {x : A} {l : List A} → Memᴰ x l → Memᴰ (f x) (map f l)
  mem-map f (mathlib.Core.List.Memᴰ.head e) = mathlib.Core.List.Memᴰ.head (ap f e)
  mem-map f (mathlib.Core.List.Memᴰ.tail m) = mathlib.Core.List.Memᴰ.tail (mem-map f m)

  pub mem-of-map : (f : A → B) (l : List A) {y : B} → Memᴰ y (map f l) → (x : A) × Memᴰ x l × (y ≡ f x)
  mem-of-map f [] m = absurd (mathlib.Core.List.Memᴰ.not-nil m)
  mem-of-map f (x ∷ l) m =
      elim (mathlib.Core.List.Memᴰ.cases_cons m) [
        | inl e ↦ (x, mathlib.Core.List.Memᴰ.head refl, e)
        | inr t ↦ let r = mem-of-map f l t in (r.0, mathlib.Core.List.Memᴰ.tail r.1, r.2)
      ]

  pub map-ext : (f g : A → B) (l : List A) → ((x : A) → Memᴰ x l → f x ≡ g x) → map f l ≡ map g l
  map-ext f g [] h = refl
  map-ext f g (x ∷ l) h = ap₂ ◌∷◌ (h x (mathlib.Core.List.Memᴰ.head refl)) (map-ext f g l (λ y m. h y (mathlib.Core.List.Memᴰ.tail m)))

  pub map-tab : (g : A → B) (n : ℕ) (f : ℕ → A) → map g (tab n f) ≡ tab n (λ i. g (f i))
  unfolding tab
  map-tab g zero f = refl
  map-tab g (suc n) f = ap₂ ◌∷◌ refl (map-tab g n (λ i. f (suc i)))

  pub every_map : (p : B → Bool) (f : A → B) (l : List A) → every p (map f l) ≡ every (λ x. p (f x)) l
  unfolding every
  every_map p f [] = refl
  every_map p f (x ∷ l) = ap (λ (b : Bool). p (f x) && b) (every_map p f l)

  pub select-map : (p : B → Bool) (f : A → B) (l : List A) → select p (map f l) ≡ map f (select (λ x. p (f x)) l)
  unfolding select
  select-map p f [] = refl
  select-map p f (x ∷ l) =
      elim (true-or-false (p (f x))) [
        | inl e ↦ rw e (ap₂ ◌∷◌ refl (select-map p f l))
        | inr e ↦ rw e (select-map p f l)
      ]

  pub any-map : (p : B → Bool) (f : A → B) (l : List A) → any p (map f l) ≡ any (λ x. p (f x)) l
  unfolding any
  any-map p f [] = refl
  any-map p f (x ∷ l) = ap (λ (b : Bool). p (f x) || b) (any-map p f l)

  pub leading-map : (p : B → Bool) (f : A → B) (l : List A) → leading p (map f l) ≡ leading (λ x. p (f x)) l
  unfolding leading
  leading-map p f [] = refl
  leading-map p f (x ∷ l) = ap (λ (k : ℕ). cond (p (f x)) (suc k) 0) (leading-map p f l)

  pub insert_at-map : (f : A → B) (i : ℕ) (x : A) (l : List A) → insert_at i (f x) (map f l) ≡ map f (insert_at i x l)
  unfolding insert_at
  insert_at-map f zero x l = refl
  insert_at-map f (suc i) x [] = refl
  insert_at-map f (suc i) x (y ∷ l) = ap₂ ◌∷◌ refl (insert_at-map f i x l)

  pub map-set : (f : A → B) (l : List A) (i : ℕ) (x : A) → map f (set l i x) ≡ set (map f l) i (f x)
  map-set f [] i x = refl
  map-set f (y ∷ l) zero x = refl
  map-set f (y ∷ l) (suc i) x = ap₂ ◌∷◌ refl (map-set f l i x)

  pub get_elem?-map : (f : A → B) (l : List A) (i : ℕ) {x : A} → get_elem? l i ≡ some x → get_elem? (map f l) i ≡ some (f x)
  get_elem?-map f [] i {x} e = let z : ◌≡◌ {A = ℕ} 0 1 = cc in absurd (omega arith)
  get_elem?-map f (y ∷ l) zero {x} e = let q : y ≡ x = cc in ap {B = _} some (ap f q)
  get_elem?-map f (y ∷ l) (suc i) e = get_elem?-map f l i e

  -- lists one after the other
  pub joined-append : (f : A → List B) (a b : List A) → joined f (a ++ b) ≡ joined f a ++ joined f b
  unfolding joined
  joined-append f [] b = refl
  joined-append f (x ∷ a) b = rw (joined-append f a b, append_assoc)

  -- folds one after the other
  pub fold_left-append : (f : B → A → B) (x : B) (a b : List A) → fold_left f x (a ++ b) ≡ fold_left f (fold_left f x a) b
  unfolding fold_left
  fold_left-append f x [] b = refl
  fold_left-append f x (y ∷ a) b = fold_left-append f (f x y) a b

  -- by the first k elements and the others
  pub joined-halves : (f : A → List B) (k : ℕ) (l : List A) → joined f l ≡ joined f (take k l) ++ joined f (drop k l)
  joined-halves f k l = ap (joined f) (sym (take-append-drop k l)) ∙ joined-append f (take k l) (drop k l)

  pub joined-insert_at : (f : A → List B) (i : ℕ) (x : A) (l : List A) → joined f (insert_at i x l) ≡ joined f (take i l) ++ (f x ++ joined f (drop i l))
  unfolding joined insert_at
  joined-insert_at f i x l = joined-append f (take i l) (x ∷ drop i l)

  -- pieces of at most one length
  pub length-joined-le : (f : A → List B) (l : List A) (k : ℕ) → ((x : A) → Memᴰ x l → length (f x) ≤ k) → length (joined f l) ≤ length l * k
  unfolding joined
  length-joined-le f [] k h = zero-le
  length-joined-le f (x ∷ l) k h =
      let r : length (joined f l) ≤ length l * k = length-joined-le f l k (λ y m. h y (mathlib.Core.List.Memᴰ.tail m)) in
      omega (arith, length-append (f x) (joined f l), h x (mathlib.Core.List.Memᴰ.head refl), suc-mul (length l) k)

module _ {A B C : Type 0} where
  pub map-map : (g : B → C) (f : A → B) (l : List A) → map g (map f l) ≡ map (λ x. g (f x)) l
  map-map g f [] = refl
  map-map g f (x ∷ l) = ap₂ ◌∷◌ refl (map-map g f l)

-- the largest number
pub largest-mem : {x : ℕ} {l : List ℕ} → Memᴰ x l → x ≤ largest l
unfolding largest
largest-mem (mathlib.Core.List.Memᴰ.head {x = y} {xs} e) = omega arith
largest-mem (mathlib.Core.List.Memᴰ.tail {x = y} {xs} m) = omega (arith, largest-mem m)

pub largest-le : (l : List ℕ) (b : ℕ) → ((x : ℕ) → Memᴰ x l → x ≤ b) → largest l ≤ b
unfolding largest
largest-le [] b h = zero-le
largest-le (x ∷ l) b h = omega (arith, h x (mathlib.Core.List.Memᴰ.head refl), largest-le l b (λ y m. h y (mathlib.Core.List.Memᴰ.tail m)))

-- the smallest of some numbers is not below what none of them is below
pub smallest-least : (low x : ℕ) (l : List ℕ) → low ≤ x → every (leb low) l ≡ true → low ≤ Option-elim (smallest l) x (min x)
unfolding smallest every Option-elim
smallest-least low x [] h e = h
smallest-least low x (y ∷ l) h e = omega (arith, smallest-least low y l (leb-true low y (and_left (leb low y) _ e)) (and_right (leb low y) _ e))

-- a number that is not above any of the others is the smallest
pub smallest-first : (x : ℕ) (l : List ℕ) → every (leb x) l ≡ true → smallest (x ∷ l) ≡ some x
unfolding smallest every Option-elim
smallest-first x [] e = refl
smallest-first x (y ∷ l) e =
    let least = smallest-least x y l (leb-true x y (and_left (leb x y) _ e)) (and_right (leb x y) _ e) in
    ap some (omega (arith, least))

module _ {A : Type 0} where
  pub largest-map-mem : (f : A → ℕ) {l : List A} {x : A} → Memᴰ x l → f x ≤ largest (map f l)
  largest-map-mem f m = largest-mem (mem-map f m)

-- the test that two lists are the same
pub same_list-true : (a b : List ℕ) → same_list a b ≡ true → a ≡ b
unfolding same_list
same_list-true [] [] h = refl
same_list-true [] (y ∷ b) h = absurd (clash h refl)
same_list-true (x ∷ a) [] h = absurd (clash h refl)
same_list-true (x ∷ a) (y ∷ b) h =
    ap₂ ◌∷◌ (eqb-true x y (and_left (eqb x y) (same_list a b) h)) (same_list-true a b (and_right (eqb x y) (same_list a b) h))

pub same_list-refl : (a : List ℕ) → same_list a a ≡ true
unfolding same_list
same_list-refl [] = refl
same_list-refl (x ∷ a) = and_intro (eq-eqb x x refl) (same_list-refl a)

pub same_list-eq : {a b : List ℕ} → a ≡ b → same_list a b ≡ true
same_list-eq {a} {b} e = rw e (same_list-refl b)

-- zeros up to n places
pub length-padded : (n : ℕ) (l : List ℕ) → length l ≤ n → length (padded n l) ≡ n
unfolding padded
length-padded n l h = omega (arith, length-append l (replicate (n - length l) 0), length-replicate {A = ℕ} (n - length l) 0)

pub get_or-zeros : (n i : ℕ) → ◌≡◌ {A = ℕ} (get_or (replicate n 0) i 0) 0
get_or-zeros zero i = refl
get_or-zeros (suc n) zero = refl
get_or-zeros (suc n) (suc i) = get_or-zeros n i

pub get_or-append-zeros : (l : List ℕ) (n i : ℕ) → get_or (l ++ replicate n 0) i 0 ≡ get_or l i 0
get_or-append-zeros [] n i = get_or-zeros n i
get_or-append-zeros (x ∷ l) n zero = refl
get_or-append-zeros (x ∷ l) n (suc i) = get_or-append-zeros l n i

pub get_or-padded : (n : ℕ) (l : List ℕ) (i : ℕ) → get_or (padded n l) i 0 ≡ get_or l i 0
unfolding padded
get_or-padded n l i = get_or-append-zeros l (n - length l) i
