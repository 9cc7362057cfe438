-- Laws of numbers, of their comparison, of tests and of remainders.
-- Assumes nothing.
use Prim.Native.Nat.{ℕ, zero, suc, ◌+◌, ◌*◌, ◌-◌, ◌/◌, ◌%◌, ◌≤◌, ◌<◌, zero-le, suc-le-suc}
use Prim.Native.Nat.{Ordering}
use Prim.Native.Nat.{compare}
use Prim.Native.Nat.compare
use native.Mathlib.Omega.{arith}
use native.Mathlib.Nat.{suc_inj, suc-ne-zero, not-suc-le-zero, le_of_suc-le-suc, add-zero, add-suc}
use native.Mathlib.Nat.{mul-suc, mul-le-mul_left, div-add-mod, mod-lt, mod-add-mod, mod-eq_of_lt, add-mul-mod_self_left}
use mathlib.Core.Bool.{Bool, true, false, ◌&&◌, ◌||◌, not, cond, true≢false}
use mathlib.Core.Logic.{◌⊎◌, inl, inr}
use mathlib.Core.Path.{◌≡◌, refl, sym, ap, ◌∙◌}
use lib.Dec.{leb, eqb}
use borrow.Author.Tests.{eqb-true, leb-true, le-leb, lt-leb, eq-eqb}
use Rattle.laws.specs.Lists.{within}

-- cases on numbers
pub lt-or-ge : (a b : ℕ) → (a < b) ⊎ (b ≤ a)
lt-or-ge a zero = inr zero-le
lt-or-ge zero (suc b) = inl (suc-le-suc zero-le)
lt-or-ge (suc a) (suc b) =
    elim (lt-or-ge a b) [
      | inl h ↦ inl (suc-le-suc h)
      | inr h ↦ inr (suc-le-suc h)
    ]

pub eq-or-ne : (a b : ℕ) → (a ≡ b) ⊎ (a ≡ b → ⊥)
eq-or-ne zero zero = inl refl
eq-or-ne zero (suc b) = inr (λ e. suc-ne-zero b (sym e))
eq-or-ne (suc a) zero = inr (suc-ne-zero a)
eq-or-ne (suc a) (suc b) =
    elim (eq-or-ne a b) [
      | inl h ↦ inl (ap suc h)
      | inr h ↦ inr (λ e. h (suc_inj e))
    ]

pub lt-or-gt : (a b : ℕ) → (a ≡ b → ⊥) → (a < b) ⊎ (b < a)
lt-or-gt a b n = elim (lt-or-ge a b) [ inl h ↦ inl h | inr h ↦ inr (omega arith) ]

-- what compare says
pub compare_refl : (a : ℕ) → compare a a ≡ Ordering.eq
compare_refl zero = compare.zero-zero
compare_refl (suc a) = compare.suc-suc a a ∙ compare_refl a

pub compare-lt : {a b : ℕ} → a < b → compare a b ≡ Ordering.lt
compare-lt {a} {b = zero} h = absurd (not-suc-le-zero h)
compare-lt {a = zero} {b = suc b} h = compare.zero-suc b
compare-lt {a = suc a} {b = suc b} h = compare.suc-suc a b ∙ compare-lt (le_of_suc-le-suc h)

pub compare-gt : {a b : ℕ} → b < a → compare a b ≡ Ordering.gt
compare-gt {a = zero} {b} h = absurd (not-suc-le-zero h)
compare-gt {a = suc a} {b = zero} h = compare.suc-zero a
compare-gt {a = suc a} {b = suc b} h = compare.suc-suc a b ∙ compare-gt (le_of_suc-le-suc h)

pub compare-eq : {a b : ℕ} → a ≡ b → compare a b ≡ Ordering.eq
compare-eq {a} {b} e = rw (← e) (compare_refl a)

-- the same added on both sides changes nothing
pub compare-add : (x y k : ℕ) → compare (x + k) (y + k) ≡ compare x y
compare-add x y zero = rw (add-zero x, add-zero y)
compare-add x y (suc k) = rw (add-suc x k, add-suc y k, compare.suc-suc) (compare-add x y k)

-- tests
pub true-or-false : (b : Bool) → (b ≡ true) ⊎ (b ≡ false)
true-or-false true = inl refl
true-or-false false = inr refl

-- a test that is true and false
pub clash : {b : Bool} → b ≡ true → b ≡ false → ⊥
clash p q = true≢false (sym p ∙ q)

pub and_intro : {a b : Bool} → a ≡ true → b ≡ true → (a && b) ≡ true
and_intro p q = rw (p, q)

pub and_left : (a b : Bool) → (a && b) ≡ true → a ≡ true
and_left true b h = refl
and_left false b h = h

pub and_right : (a b : Bool) → (a && b) ≡ true → b ≡ true
and_right true b h = h
and_right false b h = absurd (clash h refl)

pub and-true : (b : Bool) → (b && true) ≡ b
and-true true = refl
and-true false = refl

pub and-false : (b : Bool) → (b && false) ≡ false
and-false true = refl
and-false false = refl

pub and-false-cases : (a b : Bool) → (a && b) ≡ false → (a ≡ false) ⊎ (b ≡ false)
and-false-cases true b h = inr h
and-false-cases false b h = inl refl

pub or_left : {a : Bool} (b : Bool) → a ≡ true → (a || b) ≡ true
or_left b p = rw p

pub or_right : (a : Bool) {b : Bool} → b ≡ true → (a || b) ≡ true
or_right true q = refl
or_right false q = q

pub or_cases : (a b : Bool) → (a || b) ≡ true → (a ≡ true) ⊎ (b ≡ true)
or_cases true b h = inl refl
or_cases false b h = inr h

pub or-false-left : (a b : Bool) → (a || b) ≡ false → a ≡ false
or-false-left true b h = h
or-false-left false b h = refl

pub or-false-right : (a b : Bool) → (a || b) ≡ false → b ≡ false
or-false-right true b h = absurd (clash refl h)
or-false-right false b h = h

pub or-false-intro : {a b : Bool} → a ≡ false → b ≡ false → (a || b) ≡ false
or-false-intro p q = rw (p, q)

pub not-of-true : {b : Bool} → b ≡ true → not b ≡ false
not-of-true p = rw p

pub not_of_false : {b : Bool} → b ≡ false → not b ≡ true
not_of_false p = rw p

pub true_of_not : (b : Bool) → not b ≡ false → b ≡ true
true_of_not true h = refl
true_of_not false h = sym h

pub false_of_not : (b : Bool) → not b ≡ true → b ≡ false
false_of_not true h = sym h
false_of_not false h = refl

-- a test that cannot be true is false
pub false-of-no : (b : Bool) → (b ≡ true → ⊥) → b ≡ false
false-of-no true h = absurd (h refl)
false-of-no false h = refl

-- two tests that follow from one another are equal
pub same_test : (a b : Bool) → (a ≡ true → b ≡ true) → (b ≡ true → a ≡ true) → a ≡ b
same_test true b f g = sym (f refl)
same_test false true f g = g refl
same_test false false f g = refl

-- picking by a test
pub cond-true {ℓ} : {A : Type ℓ} {b : Bool} (x y : A) → b ≡ true → cond b x y ≡ x
cond-true x y p = rw p

pub cond-false {ℓ} : {A : Type ℓ} {b : Bool} (x y : A) → b ≡ false → cond b x y ≡ y
cond-false x y p = rw p

pub cond_same {ℓ} : {A : Type ℓ} (b : Bool) (x : A) → cond b x x ≡ x
cond_same true x = refl
cond_same false x = refl

pub ap-cond {ℓ κ} : {A : Type ℓ} {B : Type κ} (f : A → B) (b : Bool) (x y : A) → f (cond b x y) ≡ cond b (f x) (f y)
ap-cond f true x y = refl
ap-cond f false x y = refl

-- eqb is symmetric
pub eqb-sym : (a b : ℕ) → eqb a b ≡ eqb b a
eqb-sym a b =
    same_test (eqb a b) (eqb b a) (λ h. eq-eqb b a (sym (eqb-true a b h))) (λ h. eq-eqb a b (sym (eqb-true b a h)))

-- two numbers compare as two others that lie as far apart
pub leb-moved : (a b c d : ℕ) → a + d ≡ c + b → leb a b ≡ leb c d
leb-moved a b c d e =
    elim (lt-or-ge b a) [
      | inl h ↦ lt-leb a b h ∙ sym (lt-leb c d (omega arith))
      | inr h ↦ le-leb a b h ∙ sym (le-leb c d (omega arith))
    ]

-- lo ≤ x ≤ hi
pub within-high : (lo hi x : ℕ) → within lo hi x ≡ true → x ≤ hi
unfolding within
within-high lo hi x h = leb-true x hi (and_right (leb lo x) (leb x hi) h)

pub within_low : (lo hi x : ℕ) → within lo hi x ≡ true → lo ≤ x
unfolding within
within_low lo hi x h = leb-true lo x (and_left (leb lo x) (leb x hi) h)

pub within-intro : {lo hi x : ℕ} → lo ≤ x → x ≤ hi → within lo hi x ≡ true
unfolding within
within-intro {lo} {hi} {x} h k = and_intro (le-leb lo x h) (le-leb x hi k)

-- remainders
pub mod-add-left : (a b B : ℕ) → (a % B + b) % B ≡ (a + b) % B
mod-add-left a b B = mod-add-mod a B b

-- two numbers of one window as long as the divisor, with the same remainder, are equal
pub eq-in-window : (B a b : ℕ) → a ≤ b → b < a + B → a % B ≡ b % B → a ≡ b
eq-in-window B a b le lt e = go (lt-or-ge (a / B) (b / B))
  where
    go : (a / B < b / B) ⊎ (b / B ≤ a / B) → a ≡ b
    go (inl h) =
        let m : B * suc (a / B) ≤ B * (b / B) = mul-le-mul_left B h in
        omega (arith, div-add-mod a B, div-add-mod b B, mul-suc B (a / B))
    go (inr h) =
        let m : B * (b / B) ≤ B * (a / B) = mul-le-mul_left B h in
        omega (arith, div-add-mod a B, div-add-mod b B)

-- the distance from v ahead to r, told by the remainders
pub ahead-ge : (B v r : ℕ) → v ≤ r → r < v + B → (r % B + (B - v % B)) % B ≡ r - v
ahead-ge B v r le lt =
    mod-add-mod r B (B - v % B) ∙ ap (λ (n : ℕ). n % B) split ∙ add-mul-mod_self_left (r - v) B (suc (v / B))
    ∙ mod-eq_of_lt (omega arith)
  where
    split : r + (B - v % B) ≡ r - v + B * suc (v / B)
    split =
        let m : v % B < B = mod-lt v (omega arith) in
        omega (arith, div-add-mod v B, mul-suc B (v / B))

-- and where v lies past r, by at most B
pub ahead-lt : (B v r : ℕ) → r < v → v ≤ r + B → (r % B + (B - v % B)) % B ≡ B - (v - r)
ahead-lt B v r lt le =
    mod-add-mod r B (B - v % B) ∙ ap (λ (n : ℕ). n % B) split ∙ add-mul-mod_self_left (B - (v - r)) B (v / B)
    ∙ mod-eq_of_lt (omega arith)
  where
    split : r + (B - v % B) ≡ B - (v - r) + B * (v / B)
    split =
        let m : v % B < B = mod-lt v (omega arith) in
        omega (arith, div-add-mod v B)
