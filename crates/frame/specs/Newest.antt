-- The newest counts of a frame as numbers. Assumes nothing.
use Rattle.std.specs.Prelude.{ℕ, ◌+◌, ◌-◌, min, List}
use Rattle.laws.specs.Lists.{placed_at}
use Rattle.laws.specs.Lex.{number_of}

-- how many of the ε newest counts one number takes, from the k-th newest on: eight at most
abbrev pub taken : ℕ → ℕ → ℕ
taken epsilon k = min 8 (epsilon - k)

-- these counts, from offset c − k down, as one number
unfoldable pub newest_from : ℕ → ℕ → ℕ → List ℕ → ℕ
newest_from epsilon c k kn = number_of (taken epsilon k) (λ j. placed_at 0 kn (epsilon + c - k - j))
