-- What the clauses of `src/` cite: a list of bytes with some of them replaced, moved, cleared, inserted or cut out.
-- Each says the whole list, so that what stays as it was is said too. Assumes nothing.
use Rattle.std.specs.Prelude.{ℕ, ◌+◌, ◌-◌, List, ◌++◌, length, take, drop, replicate}

-- l with s in the place of as many of its bytes, from index `at` on
unfoldable pub pasted : List ℕ → ℕ → List ℕ → List ℕ
pasted l at s = take at l ++ (s ++ drop (at + length s) l)

-- the n bytes of l from index `from` on
abbrev pub part : List ℕ → ℕ → ℕ → List ℕ
part l from n = take n (drop from l)

-- the bytes from index k on of the first `used` bytes of l
abbrev pub used_from : List ℕ → ℕ → ℕ → List ℕ
used_from l used k = part l k (used - k)

-- n zero bytes
abbrev pub zeros : ℕ → List ℕ
zeros n = replicate n 0

-- l with 0 at each index from `from` up to, not including, `to`
abbrev pub cleared : List ℕ → ℕ → ℕ → List ℕ
cleared l from to = pasted l from (zeros (to - from))

-- l, of which the first `used` bytes are in use, with s put in before index `at`: the used bytes after it move right, over as many free ones
unfoldable pub inserted : List ℕ → ℕ → ℕ → List ℕ → List ℕ
inserted l used at s = take at l ++ (s ++ (used_from l used at ++ drop (used + length s) l))

-- l, of which the first `used` bytes are in use, without the n bytes from index `at` on: the used bytes after them move left, and zeros fill the place that is freed
unfoldable pub cut_out : List ℕ → ℕ → ℕ → ℕ → List ℕ
cut_out l used at n = take at l ++ (used_from l used (at + n) ++ (zeros n ++ drop used l))
