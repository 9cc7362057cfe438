-- What decides the order of two frames of a queue, as four numbers.
-- Assumes nothing.
use Rattle.std.specs.Prelude.{ℕ, ◌+◌, ◌^◌, ◌<◌, Bool, List, [], ◌∷◌}
use Rattle.laws.specs.Lex.{lex_compare, is_less}
use Rattle.model.specs.Setup.{Setup}
use Rattle.model.specs.Frame.{Frame}
use Rattle.timestamp.specs.declared.ordering.Rank.{Rank}
use Rattle.frame.specs.Newest.{newest_from}
use Rattle.holdback.specs.declared.keys.Key.{Key}
use Rattle.holdback.specs.Queue.{rank_of}
use Rattle.holdback.specs.Seen.{rank_slot}

-- of a frame with that rank and those counts: its sum, its eight newest counts and those behind them as a number each, and its place in the
-- table of origins, which tells its station and then its r
abbrev pub key_at : Setup → Rank → List ℕ → Key
key_at s rank kn =
    record {
      sum = rank.reading + rank.c;
      newest = newest_from s.epsilon rank.c 0 kn;
      older = newest_from s.epsilon rank.c 8 kn;
      slot = rank_slot s rank;
    }

-- of a frame, with its r read near v
abbrev pub key_of : Setup → ℕ → Frame → Key
key_of s v f = key_at s (rank_of s v f) f.stamp.kn

-- where there is no frame
abbrev pub no_key : Key
no_key = record { sum = 0; newest = 0; older = 0; slot = 0 }

-- the numbers in their order
abbrev pub numbers_of : Key → List ℕ
numbers_of k = k.sum ∷ k.newest ∷ k.older ∷ k.slot ∷ []

-- the first of two keys is the smaller
unfoldable pub key_less : Key → Key → Bool
key_less f g = is_less (lex_compare (numbers_of f) (numbers_of g))

-- one more than each of its numbers is a number too
pub record Roomy (k : Key) : Type 0 where
  pub sum_below : k.sum + 1 < 2 ^ 64
  pub newest-below : k.newest + 1 < 2 ^ 64
  pub older-below : k.older + 1 < 2 ^ 64
  pub slot-below : k.slot + 1 < 2 ^ 64
