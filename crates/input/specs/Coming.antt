-- What was read of a part of a trace that says itself where it ends. Assumes nothing.
use Rattle.std.specs.Prelude.{ℕ, ◌≤◌, ◌≡◌, List, length, take, drop}

-- no byte past the end, which `end_of` tells from the bytes that are there, and what stands behind it stays
pub record Came (end_of : List ℕ → ℕ) (before after : List ℕ) (used : ℕ) : Type 0 where
  pub within : used ≤ length after
  pub inside : used ≤ end_of (take used after)
  pub behind : drop (end_of (take used after)) after ≡ drop (end_of (take used after)) before
