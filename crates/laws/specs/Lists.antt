-- Tools on lists and tests that every crate uses. Nothing here speaks of document 01.
-- Assumes nothing.
use Rattle.std.specs.Prelude.{ℕ, zero, suc, ◌-◌, max, min, Bool, true, false, ◌&&◌, ◌||◌, not, cond, List, [], ◌∷◌, ◌++◌, length, take, drop, get_or, replicate, leb, eqb}
use Rattle.std.proofs.Math.Option.{Option, none, some, Option-elim}

-- lo ≤ x ≤ hi
unfoldable pub within : ℕ → ℕ → ℕ → Bool
within lo hi x = leb lo x && leb x hi

module _ {A : Type 0} where
  -- n entries, of which the one at i is f i
  unfoldable pub tab : ℕ → (ℕ → A) → List A
  tab zero f = []
  tab (suc n) f = f 0 ∷ tab n (λ i. f (suc i))

  -- the test holds of every element
  unfoldable pub every : (A → Bool) → List A → Bool
  every p [] = true
  every p (x ∷ xs) = p x && every p xs

  -- the test holds of some element
  unfoldable pub any : (A → Bool) → List A → Bool
  any p [] = false
  any p (x ∷ xs) = p x || any p xs

  -- the elements of which the test holds, in their order
  unfoldable pub select : (A → Bool) → List A → List A
  select p [] = []
  select p (x ∷ xs) = cond (p x) (x ∷ select p xs) (select p xs)

  -- how many elements stand before the first that fails the test
  unfoldable pub leading : (A → Bool) → List A → ℕ
  leading p [] = 0
  leading p (x ∷ xs) = cond (p x) (suc (leading p xs)) 0

  -- the list with x put in at position i
  unfoldable pub insert_at : ℕ → A → List A → List A
  insert_at i x l = take i l ++ (x ∷ drop i l)

  -- every element stands in the relation to the one after it
  unfoldable pub chained : (A → A → Bool) → List A → Bool
  chained p [] = true
  chained p (x ∷ []) = true
  chained p (x ∷ (y ∷ ys)) = p x y && chained p (y ∷ ys)

  -- no two elements are alike
  unfoldable pub apart : (A → A → Bool) → List A → Bool
  apart same [] = true
  apart same (x ∷ xs) = not (any (same x) xs) && apart same xs

  -- the elements put in order, one after the other, each after those that come before it
  unfoldable pub sort_by : (A → A → Bool) → List A → List A
  sort_by less [] = []
  sort_by less (x ∷ xs) =
      let rest : List A = sort_by less xs in
      insert_at (leading (λ y. less y x) rest) x rest

  -- the elements of which the test holds at their position, counted from i
  unfoldable pub select_from : (ℕ → A → Bool) → ℕ → List A → List A
  select_from p i [] = []
  select_from p i (x ∷ xs) = cond (p i x) (x ∷ select_from p (suc i) xs) (select_from p (suc i) xs)

  -- new at the front of old's place, the rest of old as it was
  unfoldable pub overlay : List A → List A → List A
  overlay new old = new ++ drop (length new) old

module _ {A B : Type 0} where
  -- what the elements make of x, one after the other
  unfoldable pub fold_left : (B → A → B) → B → List A → B
  fold_left f x [] = x
  fold_left f x (y ∷ rest) = fold_left f (f x y) rest

  -- the lists that f makes of the elements, one after the other
  unfoldable pub joined : (A → List B) → List A → List B
  joined f [] = []
  joined f (x ∷ xs) = f x ++ joined f xs

-- the largest of the numbers, 0 of none
unfoldable pub largest : List ℕ → ℕ
largest [] = 0
largest (x ∷ xs) = max x (largest xs)

-- the smallest of the numbers, if there are any
unfoldable pub smallest : List ℕ → Option ℕ
smallest [] = none
smallest (x ∷ xs) = some (Option-elim (smallest xs) x (min x))

-- the two lists are the same
unfoldable pub same_list : List ℕ → List ℕ → Bool
same_list [] [] = true
same_list [] (y ∷ ys) = false
same_list (x ∷ xs) [] = false
same_list (x ∷ xs) (y ∷ ys) = eqb x y && same_list xs ys

-- the entry at i of a list that is laid down from a place on, 0 outside it
unfoldable pub placed_at : ℕ → List ℕ → ℕ → ℕ
placed_at from l i = cond (leb from i) (get_or l (i - from) 0) 0

-- the list, then zeros up to n places
unfoldable pub padded : ℕ → List ℕ → List ℕ
padded n l = l ++ replicate (n - length l) 0
