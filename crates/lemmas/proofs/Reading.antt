-- Reading a modular clock near v.
-- Assumes nothing.
use Prim.Native.Nat.{ℕ, zero, suc, ◌+◌, ◌-◌, ◌%◌, ◌≤◌, ◌<◌}
use native.Mathlib.Omega.{arith}
use native.Mathlib.Nat.{mod-lt, mod-eq_of_lt, mod-add-mod, mod_self, add-mod_right, add-zero}
use mathlib.Core.Path.{◌≡◌, sym, ap, ◌∙◌}
use mathlib.Core.Logic.{◌⊎◌, inl, inr}
use borrow.Author.Tests.{le-leb, lt-leb}
use Rattle.laws.proofs.Numbers.{lt-or-ge, eq-in-window, ahead-ge, ahead-lt}
use Rattle.model.specs.Timestamp.{ahead, clock_step, near}

-- the distance ahead is a remainder
pub ahead-below : (B v r : ℕ) → 0 < B → ahead B v r < B
unfolding ahead
ahead-below B v r h = mod-lt (r + (B - v)) h

-- the step between two true clocks that are less than B apart
pub step-true : (B x k : ℕ) → k < B → clock_step B (x % B) ((x + k) % B) ≡ k
unfolding clock_step ahead
step-true B x k h = ahead-ge B x (x + k) (omega arith) (omega arith) ∙ (let e : x + k - x ≡ k = omega arith in e)

-- a reading by the distance ahead
pub near-ahead : (epsilon B v r : ℕ) → 1 ≤ epsilon → ahead B v r < epsilon → near epsilon B v r ≡ B + ahead B v r
unfolding near
near-ahead epsilon B v r e h =
    let k : ahead B v r ≤ epsilon - 1 = omega arith in rw (le-leb (ahead B v r) (epsilon - 1) k)

pub near-behind : (epsilon B v r : ℕ) → 1 ≤ epsilon → 0 < B → epsilon ≤ ahead B v r → near epsilon B v r ≡ ahead B v r
unfolding near
near-behind epsilon B v r e b h =
    let k : epsilon - 1 < ahead B v r = omega arith in
    let m : ahead B v r < B = ahead-below B v r b in
    rw (lt-leb (ahead B v r) (epsilon - 1) k) (omega arith)

-- a clock u ahead is read at B + u, one further ahead at u
data Reads (epsilon B u reading : ℕ) : Type 0 where
  read-ahead : u < epsilon → reading ≡ B + u → Reads epsilon B u reading
  read_behind : epsilon ≤ u → reading ≡ u → Reads epsilon B u reading

near-reads : (epsilon B v r : ℕ) → 1 ≤ epsilon → 0 < B → Reads epsilon B (ahead B v r) (near epsilon B v r)
near-reads epsilon B v r e b =
    elim (lt-or-ge (ahead B v r) epsilon) [
      | inl h ↦ read-ahead h (near-ahead epsilon B v r e h)
      | inr h ↦ read_behind h (near-behind epsilon B v r e b h)
    ]

-- every reading lies below B + epsilon
pub near-high : (epsilon B v r : ℕ) → 1 ≤ epsilon → epsilon < B → near epsilon B v r < B + epsilon
near-high epsilon B v r e b = go (near-reads epsilon B v r e (omega arith)) (ahead-below B v r (omega arith))
  where
    go : Reads epsilon B (ahead B v r) (near epsilon B v r) → ahead B v r < B → near epsilon B v r < B + epsilon
    go (read-ahead h q) m = omega arith
    go (read_behind h q) m = omega arith

-- and none below epsilon
pub near-low : (epsilon B v r : ℕ) → 1 ≤ epsilon → epsilon < B → epsilon ≤ near epsilon B v r
near-low epsilon B v r e b = go (near-reads epsilon B v r e (omega arith))
  where
    go : Reads epsilon B (ahead B v r) (near epsilon B v r) → epsilon ≤ near epsilon B v r
    go (read-ahead h q) = omega arith
    go (read_behind h q) = omega arith

-- the reading of a true clock R near a true clock v, where R is less than ε ahead and at most B − ε behind
pub near-true : (epsilon B v R : ℕ) → 1 ≤ epsilon → epsilon < B → R < v + epsilon → v + epsilon ≤ R + B → near epsilon B (v % B) (R % B) + v ≡ B + R
unfolding ahead
near-true epsilon B v R e b hi lo = go (near-reads epsilon B (v % B) (R % B) e (omega arith)) (lt-or-ge R v)
  where
    go :
        Reads epsilon B (ahead B (v % B) (R % B)) (near epsilon B (v % B) (R % B)) → (R < v) ⊎ (v ≤ R)
        → near epsilon B (v % B) (R % B) + v ≡ B + R
    go (read-ahead h q) (inl k) = omega (arith, ahead-lt B v R k (omega arith))
    go (read-ahead h q) (inr k) = omega (arith, ahead-ge B v R k (omega arith))
    go (read_behind h q) (inl k) = omega (arith, ahead-lt B v R k (omega arith))
    go (read_behind h q) (inr k) = omega (arith, ahead-ge B v R k (omega arith))

-- one clock later the distance is one less, modulo B
ahead-next : (B v r : ℕ) → 0 < B → (ahead B ((v + 1) % B) r + 1) % B ≡ ahead B (v % B) r
unfolding ahead
ahead-next B v r b =
    mod-add-mod (r + (B - (v + 1) % B)) B 1
    ∙ elim (lt-or-ge (v % B + 1) B) [
      | inl h ↦
          let e : (v + 1) % B ≡ v % B + 1 = sym (mod-add-mod v B 1) ∙ mod-eq_of_lt h in
          ap (λ (n : ℕ). n % B) (omega arith)
      | inr h ↦
          let m : v % B < B = mod-lt v b in
          let q : v % B + 1 ≡ B = omega arith in
          let e : (v + 1) % B ≡ 0 = sym (mod-add-mod v B 1) ∙ ap (λ (n : ℕ). n % B) q ∙ mod_self B in
          let w : r + (B - (v + 1) % B) + 1 ≡ r + (B - v % B) + B = omega arith in
          ap (λ (n : ℕ). n % B) w ∙ add-mod_right (r + (B - v % B)) B
    ]

-- the two distances: one less, or from 0 round to B − 1
ahead-steps : (B v r : ℕ) → 0 < B → (ahead B (v % B) r ≡ ahead B ((v + 1) % B) r + 1) ⊎ ((ahead B (v % B) r ≡ 0) × (ahead B ((v + 1) % B) r + 1 ≡ B))
ahead-steps B v r b =
    elim (lt-or-ge (ahead B ((v + 1) % B) r + 1) B) [
      | inl h ↦ inl (sym (ahead-next B v r b) ∙ mod-eq_of_lt h)
      | inr h ↦
          let m : ahead B ((v + 1) % B) r < B = ahead-below B ((v + 1) % B) r b in
          let q : ahead B ((v + 1) % B) r + 1 ≡ B = omega arith in
          inr (sym (ahead-next B v r b) ∙ ap (λ (n : ℕ). n % B) q ∙ mod_self B, q)
    ]

-- one clock later every reading is one less, but for the last one
near_next : (epsilon B v r : ℕ) → 1 ≤ epsilon → epsilon < B → r < B → epsilon < near epsilon B (v % B) r → near epsilon B ((v + 1) % B) r + 1 ≡ near epsilon B (v % B) r
near_next epsilon B v r e b h l =
    go (near-reads epsilon B (v % B) r e (omega arith)) (near-reads epsilon B ((v + 1) % B) r e (omega arith))
    (ahead-steps B v r (omega arith))
  where
    go :
        Reads epsilon B (ahead B (v % B) r) (near epsilon B (v % B) r)
        → Reads epsilon B (ahead B ((v + 1) % B) r) (near epsilon B ((v + 1) % B) r)
        → (ahead B (v % B) r ≡ ahead B ((v + 1) % B) r + 1) ⊎ ((ahead B (v % B) r ≡ 0) × (ahead B ((v + 1) % B) r + 1 ≡ B))
        → near epsilon B ((v + 1) % B) r + 1 ≡ near epsilon B (v % B) r
    go (read-ahead h q) (read-ahead h' q') (inl s) = omega arith
    go (read-ahead h q) (read-ahead h' q') (inr s) = omega arith
    go (read-ahead h q) (read_behind h' q') (inl s) = omega arith
    go (read-ahead h q) (read_behind h' q') (inr s) = omega arith
    go (read_behind h q) (read-ahead h' q') (inl s) = omega arith
    go (read_behind h q) (read-ahead h' q') (inr s) = omega arith
    go (read_behind h q) (read_behind h' q') (inl s) = omega arith
    go (read_behind h q) (read_behind h' q') (inr s) = omega arith

-- k clocks later every reading that is high enough is k less
pub near-later : (epsilon B v k r : ℕ) → 1 ≤ epsilon → epsilon < B → r < B → epsilon + k ≤ near epsilon B (v % B) r → near epsilon B ((v + k) % B) r + k ≡ near epsilon B (v % B) r
near-later epsilon B v zero r e b h l = rw (add-zero v) (add-zero (near epsilon B (v % B) r))
near-later epsilon B v (suc k) r e b h l =
    let before : near epsilon B ((v + k) % B) r + k ≡ near epsilon B (v % B) r = near-later epsilon B v k r e b h (omega arith) in
    let last : near epsilon B ((v + k + 1) % B) r + 1 ≡ near epsilon B ((v + k) % B) r = near_next epsilon B (v + k) r e b h (omega arith) in
    let same : v + suc k ≡ v + k + 1 = omega arith in
    rw same (omega arith)

-- readings tell modular clocks apart
pub near-injective : (epsilon B v r r' : ℕ) → 1 ≤ epsilon → epsilon < B → v < B → r < B → r' < B → near epsilon B v r ≡ near epsilon B v r' → r ≡ r'
unfolding ahead
near-injective epsilon B v r r' e b hv hr hr' equal =
    let same : ahead B v r ≡ ahead B v r' =
    go (near-reads epsilon B v r e (omega arith)) (near-reads epsilon B v r' e (omega arith))
    (ahead-below B v r (omega arith)) (ahead-below B v r' (omega arith)) in
    elim (lt-or-ge r r') [
      | inl k ↦
          let w : r + (B - v) ≡ r' + (B - v) = eq-in-window B (r + (B - v)) (r' + (B - v)) (omega arith) (omega arith) same in
          omega arith
      | inr k ↦
          let w : r' + (B - v) ≡ r + (B - v) = eq-in-window B (r' + (B - v)) (r + (B - v)) (omega arith) (omega arith) (sym same) in
          omega arith
    ]
  where
    go :
        Reads epsilon B (ahead B v r) (near epsilon B v r) → Reads epsilon B (ahead B v r') (near epsilon B v r')
        → ahead B v r < B → ahead B v r' < B → ahead B v r ≡ ahead B v r'
    go (read-ahead h q) (read-ahead h' q') m m' = omega arith
    go (read-ahead h q) (read_behind h' q') m m' = omega arith
    go (read_behind h q) (read-ahead h' q') m m' = omega arith
    go (read_behind h q) (read_behind h' q') m m' = omega arith
