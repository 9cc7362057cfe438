-- 02, 2.9: a stamp with a long clock. Of c and the counts a tick makes the same, whatever the clocks are, where they lie as far apart.
-- Assumes nothing.
use Prim.Native.Nat.{ℕ, ◌+◌, ◌-◌, max}
use native.Mathlib.Omega.{arith}
use mathlib.Core.Path.{◌≡◌, refl, ap₂}
use Rattle.laws.proofs.Lists.{tab-ext}
use Rattle.model.specs.Setup.{width}
use Rattle.model.specs.Timestamp.{Timestamp, count_at, sum, step, absorb, count_own}
use Rattle.lemmas.proofs.Counts.{count-moved}

-- the same c and counts at another clock
abbrev pub at_clock : ℕ → Timestamp → Timestamp
at_clock v t = record { r = v; c = t.c; kn = t.kn }

pub step-moved : (k v x r : ℕ) (t : Timestamp) → step k v (at_clock r t) ≡ at_clock v (step k x t)
unfolding step
step-moved k v x r t = refl

pub own-moved : (epsilon v x r : ℕ) (t : Timestamp) → count_own epsilon v (at_clock r t) ≡ at_clock v (count_own epsilon x t)
unfolding count_own
own-moved epsilon v x r t = refl

pub absorb-moved :
    (epsilon v v' x x' a b : ℕ) (t f : Timestamp) → x + v' ≡ x' + v
    → absorb epsilon v (at_clock a t) x (at_clock b f) ≡ at_clock a (absorb epsilon v' t x' f)
unfolding absorb sum count_at
absorb-moved epsilon v v' x x' a b t f e =
    let c-is : max t.c (x + f.c - v) ≡ max t.c (x' + f.c - v') = omega arith in
    let kn-is =
    tab-ext (width epsilon)
    (λ i. max (count_at epsilon (v + epsilon) t.kn (v + i)) (count_at epsilon (x + epsilon) f.kn (v + i)))
    (λ i. max (count_at epsilon (v' + epsilon) t.kn (v' + i)) (count_at epsilon (x' + epsilon) f.kn (v' + i)))
    (λ i h.
    ap₂ max (count-moved (v + epsilon) (v' + epsilon) t.kn (v + i + epsilon) (v' + i + epsilon) (omega arith))
    (count-moved (x + epsilon) (x' + epsilon) f.kn (v + i + epsilon) (v' + i + epsilon) (omega arith))) in
    λ i. record { r = a; c = c-is i; kn = kn-is i }
