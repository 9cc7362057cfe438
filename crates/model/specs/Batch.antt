-- 01: "A bundle is a one-byte count, then for each entry a one-byte length and its bytes." Here the batch.
use Rattle.std.specs.Prelude.{ℕ, zero, suc, Bool, true, false, ◌&&◌, List, [], ◌∷◌, leb, length, take, drop}

-- the bytes end exactly after k entries
unfoldable pub ends_after : ℕ → List ℕ → Bool
ends_after zero [] = true
ends_after zero (x ∷ rest) = false
ends_after (suc k) [] = false
ends_after (suc k) (size ∷ rest) = leb size (length rest) && ends_after k (drop size rest)

-- 01: "Does the bundle end exactly after its last entry (one of no bytes: no)?"
unfoldable pub exact_batch : List ℕ → Bool
exact_batch [] = false
exact_batch (count ∷ rest) = ends_after count rest

-- the bytes of k entries
unfoldable pub entries_of : ℕ → List ℕ → List (List ℕ)
entries_of zero s = []
entries_of (suc k) [] = []
entries_of (suc k) (size ∷ rest) = take size rest ∷ entries_of k (drop size rest)

-- the entries of a batch, each the bytes of one frame
unfoldable pub batch_entries : List ℕ → List (List ℕ)
batch_entries [] = []
batch_entries (count ∷ rest) = entries_of count rest
