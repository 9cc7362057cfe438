-- One event of the published program and the tick's stamp: the same c and the same counts.
-- Assumes nothing.
use Prim.Native.Nat.{ℕ, ◌+◌, ◌-◌, ◌%◌, ◌≤◌, ◌<◌, max}
use native.Mathlib.Omega.{arith}
use mathlib.Core.Path.{◌≡◌, refl, sym, ap, ◌∙◌}
use mathlib.Core.Logic.{inl, inr}
use mathlib.Core.Bool.{cond}
use mathlib.Core.List.{List, [], ◌∷◌, map, Memᴰ}
use lib.ListN.{length, drop, get_or, set, replicate, length-append, length-drop, length-set, length-replicate}
use lib.Dec.{eqb}
use lib.Seq.{get_or-set_same, get_or-set_other}
use Rattle.laws.specs.Lists.{tab, largest, placed_at}
use Rattle.laws.proofs.Numbers.{lt-or-ge, eq-or-ne}
use Rattle.laws.proofs.Lists.{tab-ext, eq-tab, length-tab, get_or-tab, replicate-tab, set-tab, largest-map-mem}
use Rattle.model.specs.Setup.{width}
use Rattle.model.specs.Timestamp.{Timestamp, sum, near, shift, step, absorb, count_own, fresh}
use Rattle.model.specs.Published.{Event, known, beyond, initial, event_c, event_kn, counted, next_event}
use Rattle.theory.specs.Demand2.{reduced}
use Rattle.lemmas.proofs.Counts.{count-zero, count_index, count_past, count-moved, absorb-at, absorb-wide, shift-at}

-- what the tick makes of a stamp by taking these events' timestamps in turn, their clocks read near v
unfoldable pub absorb_events : ℕ → ℕ → ℕ → Timestamp → List Event → Timestamp
absorb_events epsilon B v t [] = t
absorb_events epsilon B v t (e ∷ es) = absorb_events epsilon B v (absorb epsilon B t (near epsilon B v (e.r % B)) (reduced B e)) es

-- the clock of an event, read near v, is its true clock
abbrev pub ReadsTrue : ℕ → ℕ → ℕ → ℕ → Type 0
ReadsTrue epsilon B v r = near epsilon B (v % B) (r % B) + v ≡ B + r

pub known-count : (e : Event) (w : ℕ) → known e w ≡ placed_at e.r e.kn w
unfolding known placed_at
known-count e w = refl

twice : (epsilon : ℕ) → width epsilon ≡ epsilon + epsilon
unfolding width
twice epsilon = omega arith

module _ (epsilon B v : ℕ) where
  absorb-event-c :
      (t : Timestamp) (e : Event) → ReadsTrue epsilon B v e.r
      → (absorb epsilon B t (near epsilon B (v % B) (e.r % B)) (reduced B e)).c ≡ max t.c (beyond v e)
  unfolding absorb sum beyond reduced
  absorb-event-c t e h = omega arith

  absorb-event-at :
      (t : Timestamp) (e : Event) → ReadsTrue epsilon B v e.r → (i : ℕ) → i < width epsilon
      → placed_at 0 (absorb epsilon B t (near epsilon B (v % B) (e.r % B)) (reduced B e)).kn i ≡ max (placed_at 0 t.kn i) (known e (v + i))
  unfolding reduced
  absorb-event-at t e h i k =
      absorb-at epsilon B (near epsilon B (v % B) (e.r % B)) t (reduced B e) i k
      ∙ rw (count-moved (near epsilon B (v % B) (e.r % B)) e.r e.kn (B + i) (v + i) (omega arith), known-count e (v + i))

  absorb-all-r : (t : Timestamp) (es : List Event) → (absorb_events epsilon B (v % B) t es).r ≡ t.r
  unfolding absorb_events absorb
  absorb-all-r t [] = refl
  absorb-all-r t (e ∷ es) = absorb-all-r (absorb epsilon B t (near epsilon B (v % B) (e.r % B)) (reduced B e)) es

  absorb-all-c :
      (t : Timestamp) (es : List Event) → ((e : Event) → Memᴰ e es → ReadsTrue epsilon B v e.r)
      → (absorb_events epsilon B (v % B) t es).c ≡ max t.c (largest (map (beyond v) es))
  unfolding absorb_events largest
  absorb-all-c t [] h = omega arith
  absorb-all-c t (e ∷ es) h =
      let t' = absorb epsilon B t (near epsilon B (v % B) (e.r % B)) (reduced B e) in
      let one : t'.c ≡ max t.c (beyond v e) = absorb-event-c t e (h e (Memᴰ.head refl)) in
      let rest : (absorb_events epsilon B (v % B) t' es).c ≡ max t'.c (largest (map (beyond v) es)) =
      absorb-all-c t' es (λ x m. h x (Memᴰ.tail m)) in
      omega arith

  absorb-all-kn :
      (t : Timestamp) (es : List Event) → length t.kn ≡ width epsilon
      → ((e : Event) → Memᴰ e es → ReadsTrue epsilon B v e.r)
      → (absorb_events epsilon B (v % B) t es).kn ≡ tab (width epsilon) (λ i. max (placed_at 0 t.kn i) (largest (map (λ e. known e (v + i)) es)))
  unfolding absorb_events largest
  absorb-all-kn t [] wide h =
      eq-tab t.kn (width epsilon) (λ i. max (placed_at 0 t.kn i) 0) 0 wide (λ i k. let z : placed_at 0 t.kn i ≡ get_or t.kn i 0 = count-zero t.kn i in omega arith)
  absorb-all-kn t (e ∷ es) wide h =
      let t' = absorb epsilon B t (near epsilon B (v % B) (e.r % B)) (reduced B e) in
      absorb-all-kn t' es (absorb-wide epsilon B (near epsilon B (v % B) (e.r % B)) t (reduced B e)) (λ x m. h x (Memᴰ.tail m))
      ∙ tab-ext (width epsilon) (λ i. max (placed_at 0 t'.kn i) (largest (map (λ x. known x (v + i)) es)))
      (λ i. max (placed_at 0 t.kn i) (max (known e (v + i)) (largest (map (λ x. known x (v + i)) es))))
      (λ i k.
      let one : placed_at 0 t'.kn i ≡ max (placed_at 0 t.kn i) (known e (v + i)) = absorb-event-at t e (h e (Memᴰ.head refl)) i k in
      omega arith)

  -- k clocks after the last event, by a step of at most ε
  module _ (k : ℕ) (few : k ≤ epsilon) where
    -- the step of the last event's timestamp is the last event as a cause
    step-event-c : (last : Event) → last.r + k ≡ v → (step k (v % B) (reduced B last)).c ≡ beyond v last
    unfolding step reduced beyond
    step-event-c last e = omega arith

    step-event-at : (last : Event) → last.r + k ≡ v → (i : ℕ) → placed_at 0 (step k (v % B) (reduced B last)).kn i ≡ known last (v + i)
    unfolding step reduced
    step-event-at last e i =
        shift-at k last.kn i ∙ sym (known-count last (v + i) ∙ count_index last.r last.kn (v + i) (k + i) (omega arith))

    step-event-wide : (last : Event) → length last.kn ≡ width epsilon → length (step k (v % B) (reduced B last)).kn ≡ width epsilon
    unfolding step reduced shift width
    step-event-wide last wide = omega (arith, length-append (drop k last.kn) (replicate k 0), length-drop k last.kn, length-replicate {A = ℕ} k 0)

    causes-c :
        (last : Event) (es : List Event) → last.r + k ≡ v → ((e : Event) → Memᴰ e es → ReadsTrue epsilon B v e.r)
        → (absorb_events epsilon B (v % B) (step k (v % B) (reduced B last)) es).c ≡ event_c v (last ∷ es)
    unfolding event_c largest
    causes-c last es next reads =
        let all = absorb-all-c (step k (v % B) (reduced B last)) es reads in
        let one = step-event-c last next in
        omega arith

    causes-kn :
        (last : Event) (es : List Event) → length last.kn ≡ width epsilon → last.r + k ≡ v
        → ((e : Event) → Memᴰ e es → ReadsTrue epsilon B v e.r)
        → (absorb_events epsilon B (v % B) (step k (v % B) (reduced B last)) es).kn ≡ event_kn epsilon v (last ∷ es)
    unfolding event_kn largest
    causes-kn last es wide next reads =
        let t = step k (v % B) (reduced B last) in
        absorb-all-kn t es (step-event-wide last wide) reads
        ∙ (ap (λ (n : ℕ). tab n (λ i. max (placed_at 0 t.kn i) (largest (map (λ x. known x (v + i)) es)))) (twice epsilon)
        ∙ tab-ext (epsilon + epsilon) (λ i. max (placed_at 0 t.kn i) (largest (map (λ x. known x (v + i)) es)))
        (λ i. max (known last (v + i)) (largest (map (λ x. known x (v + i)) es)))
        (λ i k. ap (λ (n : ℕ). max n (largest (map (λ x. known x (v + i)) es))) (step-event-at last next i)))

    -- before the own event is counted
    pub causes-stamp :
        (last : Event) (es : List Event) → length last.kn ≡ width epsilon → last.r + k ≡ v
        → ((e : Event) → Memᴰ e es → ReadsTrue epsilon B v e.r)
        → absorb_events epsilon B (v % B) (step k (v % B) (reduced B last)) es
        ≡ record { r = v % B; c = event_c v (last ∷ es); kn = event_kn epsilon v (last ∷ es) }
    unfolding step
    causes-stamp last es wide next reads =
        let r-is = absorb-all-r (step k (v % B) (reduced B last)) es in
        let c-is = causes-c last es next reads in
        let kn-is = causes-kn last es wide next reads in
        λ i. record { r = r-is i; c = c-is i; kn = kn-is i }

    -- and after it
    pub event-stamp :
        (last : Event) (es : List Event) → length last.kn ≡ width epsilon → last.r + k ≡ v
        → ((e : Event) → Memᴰ e es → ReadsTrue epsilon B v e.r)
        → count_own epsilon (v % B) (absorb_events epsilon B (v % B) (step k (v % B) (reduced B last)) es) ≡ reduced B (next_event epsilon v (last ∷ es))
    unfolding count_own reduced next_event counted
    event-stamp last es wide next reads = rw (causes-stamp last es wide next reads)

-- the counts of an event
pub event-wide : (epsilon v : ℕ) (causes : List Event) → length (next_event epsilon v causes).kn ≡ width epsilon
unfolding next_event counted event_kn
event-wide epsilon v causes =
    length-set (tab (epsilon + epsilon) (λ i. largest (map (λ e. known e (v + i)) causes))) epsilon _
    ∙ (length-tab (epsilon + epsilon) (λ i. largest (map (λ e. known e (v + i)) causes)) ∙ sym (twice epsilon))

-- the first event
pub initial-stamp : (epsilon B x : ℕ) → reduced B (initial epsilon x) ≡ fresh epsilon (x % B)
unfolding reduced initial fresh
initial-stamp epsilon B x =
    let kn-is : tab {A = ℕ} (epsilon + epsilon) (λ i. cond (eqb i epsilon) 1 0) ≡ set (replicate (width epsilon) 0) epsilon 1 =
    sym (ap (λ (l : List ℕ). set l epsilon 1) (replicate-tab {A = ℕ} (width epsilon) 0 ∙ ap (λ (n : ℕ). tab {A = ℕ} n (λ i. 0)) (twice epsilon))
    ∙ set-tab {A = ℕ} (epsilon + epsilon) (λ i. 0) epsilon 1) in
    λ i. record { r = x % B; c = 0; kn = kn-is i }

pub initial-wide : (epsilon x : ℕ) → length (initial epsilon x).kn ≡ width epsilon
unfolding initial
initial-wide epsilon x = length-tab {A = ℕ} (epsilon + epsilon) (λ i. cond (eqb i epsilon) 1 0) ∙ sym (twice epsilon)

-- what the first event knows is known to the second
pub record Knows (e e' : Event) : Type 0 where
  pub sums : e.r + e.c ≤ e'.r + e'.c
  pub counts : (w : ℕ) → e'.r < w → known e w ≤ known e' w

pub knows-refl : (e : Event) → Knows e e
knows-refl e = record { sums = omega arith; counts = λ w h. omega arith }

pub knows-trans : (e e' e'' : Event) → e'.r ≤ e''.r → Knows e e' → Knows e' e'' → Knows e e''
knows-trans e e' e'' le k k' =
    record {
      sums = omega arith;
      counts = λ w h. omega (arith, k.counts w (omega arith), k'.counts w h);
    }

known_past : (epsilon : ℕ) (e : Event) (w : ℕ) → length e.kn ≡ width epsilon → e.r + width epsilon ≤ w → known e w ≡ 0
known_past epsilon e w wide h = known-count e w ∙ count_past e.r e.kn w (omega arith)

-- a cause's counts, in the counts of its effect
caused-at :
    (epsilon v : ℕ) (causes : List Event) (e : Event) → Memᴰ e causes → (i : ℕ) → i < width epsilon
    → known e (v + i) ≤ get_or (event_kn epsilon v causes) i 0
unfolding event_kn
caused-at epsilon v causes e m i h =
    rw (get_or-tab (epsilon + epsilon) (λ i. largest (map (λ x. known x (v + i)) causes)) i 0 (omega (arith, twice epsilon)))
    (largest-map-mem (λ x. known x (v + i)) m)

next-at :
    (epsilon v : ℕ) (causes : List Event) (i : ℕ) → known (next_event epsilon v causes) (v + i) ≡ get_or (counted epsilon (event_kn epsilon v causes)) i 0
unfolding next_event
next-at epsilon v causes i = known-count (next_event epsilon v causes) (v + i) ∙ (count_index v (counted epsilon (event_kn epsilon v causes)) (v + i) i refl ∙ count-zero (counted epsilon (event_kn epsilon v causes)) i)

kn-length : (epsilon v : ℕ) (causes : List Event) → length (event_kn epsilon v causes) ≡ width epsilon
unfolding event_kn
kn-length epsilon v causes = length-tab (epsilon + epsilon) (λ i. largest (map (λ x. known x (v + i)) causes)) ∙ sym (twice epsilon)

-- counting the own event lowers no count, and raises the one for the own clock
counted-more : (epsilon : ℕ) (kn : List ℕ) (i : ℕ) → length kn ≡ width epsilon → i < width epsilon → get_or kn i 0 ≤ get_or (counted epsilon kn) i 0
unfolding counted
counted-more epsilon kn i wide h =
    elim (eq-or-ne i epsilon) [
      | inl q ↦ rw (q, get_or-set_same kn epsilon (get_or kn epsilon 0 + 1) 0 (omega arith)) (omega arith)
      | inr q ↦ rw (get_or-set_other kn epsilon i (get_or kn epsilon 0 + 1) 0 q) (omega arith)
    ]

counted-own : (epsilon : ℕ) (kn : List ℕ) → length kn ≡ width epsilon → 1 ≤ epsilon → get_or (counted epsilon kn) epsilon 0 ≡ get_or kn epsilon 0 + 1
unfolding counted width
counted-own epsilon kn wide e = get_or-set_same kn epsilon (get_or kn epsilon 0 + 1) 0 (omega arith)

module _ (epsilon v : ℕ) (last : Event) (es : List Event) (pos : 1 ≤ epsilon) (wide : length last.kn ≡ width epsilon) (later : last.r ≤ v) where
  -- a process's next event knows what its last one knew
  pub next-knows : Knows last (next_event epsilon v (last ∷ es))
  next-knows = record { sums = sums; counts = counts }
    where
      sums : last.r + last.c ≤ (next_event epsilon v (last ∷ es)).r + (next_event epsilon v (last ∷ es)).c
      sums = unfold next_event event_c largest beyond in (omega arith)

      inside : (w i : ℕ) → w ≡ v + i → i < width epsilon → known last w ≤ known (next_event epsilon v (last ∷ es)) w
      inside w i q h =
          rw (q, next-at epsilon v (last ∷ es) i)
          (omega (arith, caused-at epsilon v (last ∷ es) last (Memᴰ.head refl) i h, counted-more epsilon (event_kn epsilon v (last ∷ es)) i (kn-length epsilon v (last ∷ es)) h))

      counts : (w : ℕ) → (next_event epsilon v (last ∷ es)).r < w → known last w ≤ known (next_event epsilon v (last ∷ es)) w
      counts w h =
          let past : v < w = unfold next_event in h in
          elim (lt-or-ge (w - v) (width epsilon)) [
            | inl k ↦ inside w (w - v) (omega arith) k
            | inr k ↦ rw (known_past epsilon last w wide (omega arith)) (omega arith)
          ]

  -- and one event more at its own clock
  pub next_more : known last (v + epsilon) < known (next_event epsilon v (last ∷ es)) (v + epsilon)
  next_more =
      rw (next-at epsilon v (last ∷ es) epsilon, counted-own epsilon (event_kn epsilon v (last ∷ es)) (kn-length epsilon v (last ∷ es)) pos)
      (let below : epsilon < width epsilon = unfold width in (omega arith) in
      omega (arith, caused-at epsilon v (last ∷ es) last (Memᴰ.head refl) epsilon below))
