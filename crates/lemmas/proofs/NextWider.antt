-- 02, 2.10: the call after a call with both pairs, from any state: V stands where it stood, and the mark is the one that is right there.
-- Assumes nothing.
use Prim.Native.Nat.{ℕ, ◌+◌, ◌-◌, ◌%◌, ◌≤◌, ◌<◌}
use native.Mathlib.Omega.{arith}
use native.Mathlib.Nat.{mod-eq_of_lt, add-mod_right}
use mathlib.Core.Path.{◌≡◌, refl, sym, ap, subst, ◌∙◌}
use mathlib.Core.Bool.{Bool, true, false, cond}
use mathlib.Core.Logic.{◌⊎◌, inl, inr}
use lib.Dec.{leb, eqb}
use borrow.Author.Tests.{leb-true, leb-false, eq-eqb, ne_eqb}
use Rattle.laws.proofs.Numbers.{lt-or-ge, eq-or-ne}
use Rattle.model.specs.Setup.{Setup}
use Rattle.model.specs.Timestamp.{ahead}
use Rattle.model.specs.Schedule.{Wider, is_marked, change_ahead, change_behind, change_near, along}
use Rattle.lemmas.proofs.Reading.{ahead-below}
use Rattle.lemmas.proofs.Schedules.{Aligned, ChangeAt, along-later}

-- a number that is c or one or two B more, modulo B
mod-is : (B c x : ℕ) → c < B → (x ≡ c) ⊎ ((x ≡ c + B) ⊎ (x ≡ c + B + B)) → x % B ≡ c
mod-is B c x below (inl e) = ap (λ (y : ℕ). y % B) e ∙ mod-eq_of_lt below
mod-is B c x below (inr (inl e)) = ap (λ (y : ℕ). y % B) e ∙ (add-mod_right c B ∙ mod-eq_of_lt below)
mod-is B c x below (inr (inr e)) = ap (λ (y : ℕ). y % B) e ∙ (add-mod_right (c + B) B ∙ (add-mod_right c B ∙ mod-eq_of_lt below))

-- how far one clock lies ahead of another, of clocks below B
ahead-sum : (B v r : ℕ) → v < B → r < B → (ahead B v r + v ≡ r) ⊎ (ahead B v r + v ≡ r + B)
unfolding ahead
ahead-sum B v r below-v below-r =
    elim (lt-or-ge r v) [
      | inl h ↦
          let e : (r + (B - v)) % B ≡ r + (B - v) = mod-eq_of_lt (omega arith) in
          inr (omega (arith, e))
      | inr h ↦
          let e : (r + (B - v)) % B ≡ r - v = mod-is B (r - v) (r + (B - v)) (omega arith) (inr (inl (omega arith))) in
          inl (omega (arith, e))
    ]

-- V as a reading, turned back into the V that a setup carries
near-reduced : (B v : ℕ) (w : Wider) → v < B → w.change < B → (change_near B v w + v) % B ≡ w.change
unfolding change_near change_ahead change_behind
near-reduced B v w below change-below = go (is_marked w)
  where
    a : ℕ
    a = ahead B v w.change

    unmarked : (b : ℕ) → (a ≡ 0 → b ≡ B) → ((a ≡ 0 → ⊥) → b ≡ a) → (B + b + v) % B ≡ w.change
    unmarked b none some =
        elim (eq-or-ne a 0) [
          | inl z ↦
              elim (ahead-sum B v w.change below change-below) [
                | inl e ↦ mod-is B w.change (B + b + v) change-below (inr (inr (omega (arith, none z, z, e))))
                | inr e ↦ absurd (omega (arith, z, e))
              ]
          | inr z ↦
              elim (ahead-sum B v w.change below change-below) [
                | inl e ↦ mod-is B w.change (B + b + v) change-below (inr (inl (omega (arith, some z, e))))
                | inr e ↦ mod-is B w.change (B + b + v) change-below (inr (inr (omega (arith, some z, e))))
              ]
        ]

    go : (m : Bool) → (cond m (B - ahead B w.change v) (B + cond (eqb a 0) B a) + v) % B ≡ w.change
    go true =
        let small : ahead B w.change v < B = ahead-below B w.change v (omega arith) in
        elim (ahead-sum B w.change v change-below below) [
          | inl e ↦ mod-is B w.change (B - ahead B w.change v + v) change-below (inr (inl (omega (arith, e, small))))
          | inr e ↦ mod-is B w.change (B - ahead B w.change v + v) change-below (inl (omega (arith, e, small)))
        ]
    go false = unmarked (cond (eqb a 0) B a) (λ z. rw (eq-eqb a 0 z)) (λ z. rw (ne_eqb a 0 z))

-- where V stands among readings, by the mark
near-range : (B v : ℕ) (w : Wider) → 0 < B → (is_marked w ≡ false → (B < change_near B v w) × (change_near B v w ≤ B + B)) × (is_marked w ≡ true → (1 ≤ change_near B v w) × (change_near B v w ≤ B))
unfolding change_near change_ahead change_behind
near-range B v w pos = (
  λ e. rw e (past (ahead B v w.change) (ahead-below B v w.change pos)),
  λ e. rw e (let small : ahead B w.change v < B = ahead-below B w.change v pos in (omega arith, omega arith)),
)
  where
    past : (x : ℕ) → x < B → (B < B + cond (eqb x 0) B x) × (B + cond (eqb x 0) B x ≤ B + B)
    past x small =
        elim (eq-or-ne x 0) [
          | inl z ↦ rw (eq-eqb x 0 z) (omega arith, omega arith)
          | inr z ↦ rw (ne_eqb x 0 z) (omega arith, omega arith)
        ]

-- so v and V stand in some place among true clocks: v at v + B
pub change-placed : (B v : ℕ) (w : Wider) → v < B → w.change < B → ChangeAt B (v + B) (change_near B v w + v) w
change-placed B v w below change-below =
    let range = near-range B v w (omega arith) in
    record {
      reduced = sym (near-reduced B v w below change-below);
      unmarked = λ e. let r = range.0 e in (omega (arith, r.0), omega (arith, r.1));
      marked = λ e. let r = range.1 e in (omega (arith, r.1), omega (arith, r.0));
    }

-- and k clocks later V stands in the same place, with the mark that is right there
pub change-later :
    (B v k : ℕ) (w w' : Wider) → v < B → w.change < B → k < change_near B v w → w'.change ≡ w.change
    → is_marked w' ≡ leb (change_near B v w) (B + k) → ChangeAt B (v + B + k) (change_near B v w + v) w'
change-later B v k w w' below change-below reach same mark =
    record { reduced = same ∙ sym (near-reduced B v w below change-below); unmarked = unmarked; marked = marked }
  where
    most : change_near B v w ≤ B + B
    most = go (is_marked w) refl
      where
        go : (b : Bool) → is_marked w ≡ b → change_near B v w ≤ B + B
        go true e = let r = (near-range B v w (omega arith)).1 e in omega (arith, r.1)
        go false e = ((near-range B v w (omega arith)).0 e).1

    unmarked : is_marked w' ≡ false → (v + B + k < change_near B v w + v) × (change_near B v w + v ≤ v + B + k + B)
    unmarked e =
        let h : B + k < change_near B v w = leb-false (change_near B v w) (B + k) (sym mark ∙ e) in
        (omega arith, omega (arith, most))

    marked : is_marked w' ≡ true → (change_near B v w + v ≤ v + B + k) × (v + B + k < change_near B v w + v + B)
    marked e =
        let h : change_near B v w ≤ B + k = leb-true (change_near B v w) (B + k) (sym mark ∙ e) in
        (omega arith, omega (arith, reach))

-- so the next call's schedule is this one's, with all readings k less
pub along-next :
    (s : Setup) (w w' : Wider) (v k : ℕ) → v < s.modulus → w.change < s.modulus → k < change_near s.modulus v w
    → w'.epsilon ≡ w.epsilon → w'.delta ≡ w.delta → w'.change ≡ w.change → is_marked w' ≡ leb (change_near s.modulus v w) (s.modulus + k)
    → Aligned k 0 (along s w' ((v + k) % s.modulus)) (along s w v)
along-next s w w' v k below change-below reach epsilon delta change mark =
    let B : ℕ = s.modulus in
    let here : (v + B) % B ≡ v = add-mod_right v B ∙ mod-eq_of_lt below in
    let there : (v + B + k) % B ≡ (v + k) % B = ap (λ (x : ℕ). x % B) (let e : v + B + k ≡ v + k + B = omega arith in e) ∙ add-mod_right (v + k) B in
    subst (λ (x : ℕ). Aligned k 0 (along s w' ((v + k) % B)) (along s w x)) here
    (subst (λ (x : ℕ). Aligned k 0 (along s w' x) (along s w ((v + B) % B))) there
    (along-later s w w' (v + B) k (change_near B v w + v) (omega arith) epsilon delta
    (change-placed B v w below change-below) (change-later B v k w w' below change-below reach change mark)))
