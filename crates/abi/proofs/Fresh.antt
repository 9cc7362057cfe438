-- A call that makes what a station, an observer or an engine starts with: refused by 1, by 2, or accepted. Assumes nothing.
use Prim.Native.Nat.{ℕ, ◌≤◌, ◌<◌}
use mathlib.Core.Path.{◌≡◌}
use mathlib.Core.Bool.{Bool, true, false}
use mathlib.Core.List.{List}
use borrow.Author.Tests.{lt-ltb, le-ltb, eq-eqb, ne_eqb}
use Rattle.model.specs.Question.{ask, first_no}
use Rattle.abi.specs.Fresh.{start_number, start_bytes}

module _ (valid : Bool) (bound clock : ℕ) (made kept : List ℕ) where
  -- the number, and what it leaves
  abbrev number : ℕ
  number = start_number (ask valid 1) bound clock

  pub start-setup : valid ≡ false → (1 ≡ number) × (kept ≡ start_bytes number made kept)
  unfolding first_no
  start-setup h = (rw h, rw h)

  module _ (h : valid ≡ true) where
    pub start-clock : bound ≤ clock → (2 ≡ number) × (kept ≡ start_bytes number made kept)
    unfolding first_no
    start-clock k = (rw (h, le-ltb clock bound k), rw (h, le-ltb clock bound k))

    pub start-accepted : clock < bound → (0 ≡ number) × (made ≡ start_bytes number made kept)
    unfolding first_no
    start-accepted k = (rw (h, lt-ltb clock bound k), rw (h, lt-ltb clock bound k))

-- a start by the number of the first no
pub not-started : (number : ℕ) (made kept : List ℕ) → (number ≡ 0 → ⊥) → kept ≡ start_bytes number made kept
not-started number made kept h = rw (ne_eqb number 0 h)

pub started : (number : ℕ) (made kept : List ℕ) → number ≡ 0 → made ≡ start_bytes number made kept
started number made kept h = rw (eq-eqb number 0 h)
