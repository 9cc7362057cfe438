-- The batch (01: the bundle) by positions: the entry whose length stands at a position, and the position after it.
-- `proofs/Walk.antt` shows that they give the entries of `model`. Assumes nothing.
use Rattle.std.specs.Prelude.{ℕ, ◌+◌, min, List, length, take, drop, get_or}
use Rattle.batch.specs.declared.EntrySpan.{EntrySpan}
use Rattle.batch.specs.declared.walker.Walker.{Walker}

-- how many entries the batch says that it has
unfoldable pub count_of : List ℕ → ℕ
count_of s = get_or s 0 0

-- the bytes of the entry at a position; none past the end
unfoldable pub entry_at : List ℕ → ℕ → List ℕ
entry_at s at = take (get_or s at 0) (drop (at + 1) s)

-- the position after it, not past the end
unfoldable pub next_at : List ℕ → ℕ → ℕ
next_at s at = min (at + 1 + get_or s at 0) (length s)

-- where that entry starts and ends
unfoldable pub entry_span_at : List ℕ → ℕ → EntrySpan
entry_span_at s at = record { start = min (at + 1) (length s); end = next_at s at }

-- the walker at the next entry
abbrev pub moved_on : Walker → Walker
moved_on w = record { src = w.src; at = next_at w.src.now w.at }
