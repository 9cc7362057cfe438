-- What reading a tick as it comes rests on: whoever reads up to where it ends so far never reads past the tick, and a tick that is whole stays so.
-- So the definition of the whole program is what reading tick by tick gives. Assumes nothing.
use Prim.Native.Nat.{ℕ, zero, suc, ◌+◌, ◌≤◌, ◌<◌}
use mathlib.Core.Path.{◌≡◌, refl, sym, ap, ◌∙◌}
use mathlib.Core.List.{List, [], ◌∷◌, ◌++◌}
use mathlib.Core.Logic.{⊎_elim}
use native.Mathlib.Omega.{arith}
use lib.ListN.{length, drop, get_or, length-drop, get_or-append, get_or-eq_default, drop_of_length-le}
use lib.Seq.{drop-append-le, take_all, take-append_seam, drop-append_seam}
use Rattle.laws.proofs.Numbers.{lt-or-ge}
use Rattle.trace.proofs.Ticks.{call-cut}
use Rattle.trace.specs.Text.{refused_line}
use Rattle.trace.specs.Replay.{Turn, stopped, turn, turn_at, replay_ticks}
use Rattle.trace.specs.Trace.{NodeSetup, entries_size, payload_size, batch_at, tick_end}

-- ---- `k` entries, of which the first bytes are there

entries-one : (k : ℕ) (s : List ℕ) → entries_size (suc k) s ≡ 1 + get_or s 0 0 + entries_size k (drop (1 + get_or s 0 0) s)
unfolding entries_size
entries-one k s = refl

-- a length byte each, at least
entries-least : (k : ℕ) (t : List ℕ) → k ≤ entries_size k t
unfolding entries_size
entries-least zero t = omega arith
entries-least (suc k) t =
    let rest : k ≤ entries_size k (drop (1 + get_or t 0 0) t) = entries-least k (drop (1 + get_or t 0 0) t) in
    omega (arith, entries-one k t)

entries_none : (k : ℕ) → entries_size k [] ≡ k
unfolding entries_size
entries_none zero = refl
entries_none (suc k) = let rest : entries_size k [] ≡ k = entries_none k in omega (arith, entries-one k [])

-- with more bytes there, no fewer
entries-more : (k : ℕ) (s t : List ℕ) → entries_size k s ≤ entries_size k (s ++ t)
unfolding entries_size
entries-more zero s t = omega arith
entries-more (suc k) [] t = omega (arith, entries_none (suc k), entries-least (suc k) t)
entries-more (suc k) (x ∷ s) t =
    ⊎_elim
    (λ short.
    let none : drop (1 + x) (x ∷ s) ≡ [] = drop_of_length-le (x ∷ s) {i = 1 + x} (omega arith) in
    omega (arith, entries-one k (x ∷ s), entries-one k (x ∷ (s ++ t)), ap (entries_size k) none, entries_none k, entries-least k (drop (1 + x) (x ∷ (s ++ t)))))
    (λ long.
    let rest : entries_size k (drop (1 + x) (x ∷ s)) ≤ entries_size k (drop (1 + x) (x ∷ s) ++ t) = entries-more k (drop (1 + x) (x ∷ s)) t in
    omega (arith, entries-one k (x ∷ s), entries-one k (x ∷ (s ++ t)), ap (entries_size k) (drop-append-le (1 + x) (x ∷ s) t long)))
    (lt-or-ge (length (x ∷ s)) (1 + x))

-- where all are there, just as many
entries-same : (k : ℕ) (s t : List ℕ) → entries_size k s ≤ length s → entries_size k (s ++ t) ≡ entries_size k s
unfolding entries_size
entries-same zero s t h = refl
entries-same (suc k) [] t h = let no_room : ⊥ = omega (arith, entries_none (suc k)) in absurd no_room
entries-same (suc k) (x ∷ s) t h =
    let long : 1 + x ≤ length (x ∷ s) = omega (arith, entries-one k (x ∷ s)) in
    let rest : entries_size k (drop (1 + x) (x ∷ s) ++ t) ≡ entries_size k (drop (1 + x) (x ∷ s))
    = entries-same k (drop (1 + x) (x ∷ s)) t (omega (arith, entries-one k (x ∷ s), length-drop (1 + x) (x ∷ s))) in
    omega (arith, entries-one k (x ∷ s), entries-one k (x ∷ (s ++ t)), ap (entries_size k) (drop-append-le (1 + x) (x ∷ s) t long), rest)

-- ---- a tick, of which the first bytes are there

tick_is : (s : List ℕ) → tick_end s ≡ batch_at s + 1 + entries_size (get_or s (batch_at s) 0) (drop (batch_at s + 1) s)
unfolding tick_end
tick_is s = refl

batch-is : (s : List ℕ) → batch_at s ≡ 4 + get_or s 3 0
unfolding batch_at payload_size
batch-is s = refl

-- nothing of the entries is there
tick-none : (s : List ℕ) → length s ≤ batch_at s → tick_end s ≡ batch_at s + 1
tick-none s h =
    tick_is s
    ∙ rw (get_or-eq_default s 0 {n = batch_at s} h, drop_of_length-le s {i = batch_at s + 1} (omega arith), entries_none 0)
    (omega arith)

batch-same : (s t : List ℕ) → 3 < length s → batch_at (s ++ t) ≡ batch_at s
batch-same s t h = batch-is (s ++ t) ∙ ap (λ (n : ℕ). 4 + n) (get_or-append s t 0 3 h) ∙ sym (batch-is s)

-- the count of the entries is there
tick-there : (s t : List ℕ) → 3 < length s → batch_at s < length s
    → tick_end (s ++ t) ≡ batch_at s + 1 + entries_size (get_or s (batch_at s) 0) (drop (batch_at s + 1) s ++ t)
tick-there s t h k =
    tick_is (s ++ t)
    ∙ rw (batch-same s t h, get_or-append s t 0 (batch_at s) k, drop-append-le (batch_at s + 1) s t (omega arith))

-- what it has so far belongs to the tick, whatever comes
pub never-past : (s t : List ℕ) → tick_end s ≤ tick_end (s ++ t)
never-past s t =
    ⊎_elim
    (λ there.
    ⊎_elim
    (λ counted. omega (arith, tick_is s, tick-there s t there counted, entries-more (get_or s (batch_at s) 0) (drop (batch_at s + 1) s) t))
    (λ none. omega (arith, tick-none s none, tick_is (s ++ t), batch-same s t there))
    (lt-or-ge (batch_at s) (length s)))
    (λ short.
    let none : get_or s 3 0 ≡ 0 = get_or-eq_default s 0 {n = 3} short in
    let least : batch_at s ≡ 4 = omega (arith, batch-is s) in
    omega (arith, tick-none s (omega arith), tick_is (s ++ t), batch-is (s ++ t)))
    (lt-or-ge 3 (length s))

-- with all of it there, where it ends
pub stays-whole : (s t : List ℕ) → tick_end s ≤ length s → tick_end (s ++ t) ≡ tick_end s
stays-whole s t h =
    tick-there s t (omega (arith, tick_is s, batch-is s)) (omega (arith, tick_is s))
    ∙ ap (λ (n : ℕ). batch_at s + 1 + n)
    (entries-same (get_or s (batch_at s) 0) (drop (batch_at s + 1) s) t (omega (arith, tick_is s, length-drop (batch_at s + 1) s)))
    ∙ sym (tick_is s)

-- ---- so the lines of a trace are those of its ticks, read one by one

-- the next tick is there, whole
pub next-whole : (s : NodeSetup) (i k : ℕ) (last : Turn) (mine rest : List ℕ) → tick_end mine ≡ length mine
    → replay_ticks s i (suc k) last (mine ++ rest)
    ≡ (turn_at i s last.tables last.holdback mine).text
    ++ stopped (turn_at i s last.tables last.holdback mine).number (replay_ticks s (suc i) k (turn_at i s last.tables last.holdback mine) rest)
unfolding replay_ticks
next-whole s i k last mine rest e =
    let ends : tick_end (mine ++ rest) ≡ length mine = stays-whole mine rest (omega arith) ∙ e in
    rw (ends, take-append_seam mine rest, drop-append_seam mine rest)

-- the trace ends in it
pub next-cut : (s : NodeSetup) (i k : ℕ) (last : Turn) (mine : List ℕ) → length mine < tick_end mine → replay_ticks s i (suc k) last mine ≡ refused_line 5
unfolding replay_ticks turn_at turn
next-cut s i k last mine h =
    rw (take_all (tick_end mine) mine (omega arith), ← call-cut mine (tick_end mine) refl (λ e. omega arith))
