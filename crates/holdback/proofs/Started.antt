-- The table of starts: changed place by place, filled by the walk, moved as a frame is put at its place; and a search that starts at an entry.
-- Assumes nothing.
use Rattle.std.proofs.Common.{◌≡◌, ℕ, zero, suc, ◌+◌, ◌-◌, ◌*◌, ◌/◌, ◌%◌, ◌<◌, ◌≤◌, max, Bool, true, false, cond, eqb, ltb, ◌⊎◌, List, [], ◌∷◌, length, get_or, take, set, sym, refl, ap, ◌∙◌, ap₂, inl, inr, zero-le, le_of_suc-le-suc, not-suc-le-zero, mul-le-mul, arith, get_or-set_other, get_or-set_same, ltb-true, le-ltb, lt-ltb, eq-eqb, ne_eqb, leb-true}
use lib.Dec.{leb-suc-suc}
use lib.ListN.{get_or-replicate}
use Rattle.laws.specs.Lists.{every, leading, insert_at}
use Rattle.laws.proofs.Numbers.{lt-or-ge, eq-or-ne, true-or-false, cond_same}
use Rattle.laws.proofs.Lists.{length-tab, get_or-tab, tab-get_or, eq-tab, tab-ext, set-tab, replicate-tab, leading_le, leading-ext, every-mono, every-leading}
use Rattle.model.specs.Setup.{Setup, width, longest_frame, depth}
use Rattle.model.specs.Timestamp.{sum}
use Rattle.model.specs.Frame.{Frame, two_at, decode, frame_end}
use Rattle.model.specs.Order.{due, due_near, before}
use Rattle.model.specs.Holdback.{held, passes, sound_holdback, not_early, not_expired}
use Rattle.model.specs.Poll.{due_within}
use Rattle.lemmas.specs.Standing.{left_by, end_by}
use Rattle.lemmas.proofs.Bounds.{Limits}
use Rattle.lemmas.proofs.FrameWalk.{Seeking, seek-from}
use Rattle.setup.proofs.InLimits.{depth-most}
use Rattle.holdback.specs.Queue.{frame_start, frame_at, Stands}
use Rattle.holdback.specs.Sound.{fits, follows, frame_sound}
use Rattle.holdback.specs.Starts.{start_unit, start_limit, start_entries, used_entries, front, all_front, sum_wait, frames_below, start_of, starts_of, changed, filled, highest, spread_starts, moved_starts, Moving}
use Rattle.holdback.proofs.Frames.{start-zero, start-most, leading-held, FormedUpTo}
use Rattle.holdback.proofs.Judging.{fitting, frame-follows, sound-few, sound-frames, sound-formed}
use Rattle.holdback.proofs.Searching.{start-by, sound-stand, stand-held}
use Rattle.holdback.proofs.Order.{due-first, due-before}
use Rattle.holdback.proofs.Changes.{length-held}

-- ---- a table with some of its places changed

module _ (f : ℕ → ℕ) (from : ℕ) (starts : List ℕ) where
  abbrev changed_at : ℕ → ℕ → ℕ
  changed_at to k = cond (ltb k from) (get_or starts k 0) (cond (ltb k to) (f (get_or starts k 0)) (get_or starts k 0))

  pub changed-at : (to : ℕ) {l : List ℕ} → l ≡ changed f from to starts → (k : ℕ) → k < start_entries → get_or l k 0 ≡ changed_at to k
  unfolding changed
  changed-at to e k h = ap (λ (m : List ℕ). get_or m k 0) e ∙ get_or-tab start_entries (changed_at to) k 0 h

  -- the places from `to` on are as they were
  pub changed-past : (to : ℕ) {l : List ℕ} → l ≡ changed f from to starts → (k : ℕ) → to ≤ k → k < start_entries → get_or l k 0 ≡ get_or starts k 0
  changed-past to e k past h = changed-at to e k h ∙ rw (le-ltb k to past) (cond_same (ltb k from) (get_or starts k 0))

  pub changed-long : (to : ℕ) {l : List ℕ} → l ≡ changed f from to starts → length l ≡ start_entries
  unfolding changed
  changed-long to e = ap length e ∙ length-tab start_entries (changed_at to)

  none_yet : (k : ℕ) → (k < from) ⊎ (from ≤ k) → get_or starts k 0 ≡ changed_at from k
  none_yet k (inl h) = rw (lt-ltb k from h)
  none_yet k (inr h) = rw (le-ltb k from h)

  pub changed-starts : length starts ≡ start_entries → starts ≡ changed f from from starts
  unfolding changed
  changed-starts long =
      sym (tab-get_or start_entries starts 0 long)
      ∙ tab-ext start_entries (λ k. get_or starts k 0) (changed_at from) (λ k h. none_yet k (lt-or-ge k from))

  -- the next place is as it was
  pub changed-next : {l : List ℕ} (i : ℕ) → i < start_entries → l ≡ changed f from i starts → get_or l i 0 ≡ get_or starts i 0
  changed-next i h e = changed-at i e i h ∙ rw (le-ltb i i (omega arith)) (cond_same (ltb i from) (get_or starts i 0))

  -- two ends that tell the same places
  same-places : (i j k : ℕ) → (from ≤ k → k < i → k < j) → (from ≤ k → k < j → k < i) → changed_at i k ≡ changed_at j k
  same-places i j k there back = go (lt-or-ge k from)
    where
      by : from ≤ k → (k < i) ⊎ (i ≤ k) → (k < j) ⊎ (j ≤ k) → ltb k i ≡ ltb k j
      by g (inl a) (inl b) = lt-ltb k i a ∙ sym (lt-ltb k j b)
      by g (inl a) (inr b) = absurd (omega (arith, there g a))
      by g (inr a) (inl b) = absurd (omega (arith, back g b))
      by g (inr a) (inr b) = le-ltb k i a ∙ sym (le-ltb k j b)

      go : (k < from) ⊎ (from ≤ k) → changed_at i k ≡ changed_at j k
      go (inl h) = rw (lt-ltb k from h)
      go (inr h) = rw (by h (lt-or-ge k i) (lt-or-ge k j))

  one_more : (i k : ℕ) → from ≤ i → (k ≡ i) ⊎ (k ≡ i → ⊥) → cond (eqb k i) (f (get_or starts i 0)) (changed_at i k) ≡ changed_at (i + 1) k
  one_more i k h (inl e) = rw (eq-eqb k i e, le-ltb k from (omega arith), lt-ltb k (i + 1) (omega arith), e)
  one_more i k h (inr n) = rw (ne_eqb k i n) (same-places i (i + 1) k (λ g l. omega arith) (λ g l. omega (arith, n)))

  pub changed-turns : {l : List ℕ} (i x : ℕ) → from ≤ i → l ≡ changed f from i starts → x ≡ f (get_or starts i 0) → set l i x ≡ changed f from (i + 1) starts
  unfolding changed
  changed-turns i x h e same =
      ap₂ (λ (m : List ℕ) (y : ℕ). set m i y) e same
      ∙ set-tab start_entries (changed_at i) i (f (get_or starts i 0))
      ∙ tab-ext start_entries (λ k. cond (eqb k i) (f (get_or starts i 0)) (changed_at i k)) (changed_at (i + 1)) (λ k _. one_more i k h (eq-or-ne k i))

  pub changed-ends : {l : List ℕ} (i to : ℕ) → to ≤ i → i ≤ from + (to - from) → l ≡ changed f from i starts → l ≡ changed f from to starts
  unfolding changed
  changed-ends i to low high e =
      e ∙ tab-ext start_entries (changed_at i) (changed_at to) (λ k _. same-places i to k (λ g l. omega arith) (λ g l. omega arith))

pub all-front : (starts : List ℕ) {l : List ℕ} → l ≡ filled front 0 start_entries starts → l ≡ all_front
unfolding changed
all-front starts e =
    e
    ∙ tab-ext start_entries (λ k. cond (ltb k 0) (get_or starts k 0) (cond (ltb k start_entries) front (get_or starts k 0))) (λ k. front) (λ k h. rw (le-ltb k 0 (omega arith), lt-ltb k start_entries h))
    ∙ sym (replicate-tab start_entries front)

-- ---- a table whose entries are spread

-- what is not there yet does not count
pub highest-before : (starts : List ℕ) (p x n : ℕ) → n ≤ p → highest (set starts p x) n ≡ highest starts n
unfolding highest
highest-before starts p x zero h = refl
highest-before starts p x (suc n) h =
    ap₂ max (highest-before starts p x n (omega arith)) (get_or-set_other starts p n x 0 (λ e. omega arith))

-- the largest entry counts from its place on
pub highest-set : (starts : List ℕ) (p x n : ℕ) → p < length starts → p < n → highest starts n ≤ x → highest (set starts p x) n ≡ x
unfolding highest
highest-set starts p x zero inside h low = absurd (not-suc-le-zero h)
highest-set starts p x (suc n) inside h low = go (highest-set starts p x n inside) (lt-or-ge p n)
  where
    go : (p < n → highest starts n ≤ x → highest (set starts p x) n ≡ x) → (p < n) ⊎ (n ≤ p) → max (highest (set starts p x) n) (get_or (set starts p x) n 0) ≡ x
    go rest (inl l) = omega (arith, low, rest l (omega (arith, low)), get_or-set_other starts p n x 0 (λ e. omega arith))
    go rest (inr l) =
        let e : n ≡ p = omega arith in
        let here : get_or (set starts p x) n 0 ≡ x = ap (λ (m : ℕ). get_or (set starts p x) m 0) e ∙ get_or-set_same starts p x 0 inside in
        omega (arith, low, here, highest-before starts p x n l)

pub highest-front : (starts : List ℕ) → starts ≡ all_front → (n : ℕ) → n ≤ start_entries → highest starts n ≡ front
unfolding highest
highest-front starts e zero h = refl
highest-front starts e (suc n) h =
    ap₂ max (highest-front starts e n (omega arith)) (ap (λ (l : List ℕ). get_or l n 0) e ∙ get_or-replicate start_entries n front 0 (omega arith)) ∙ refl

pub highest-none : (starts : List ℕ) → front ≡ highest starts 0
unfolding highest
highest-none starts = refl

pub highest-next : (starts : List ℕ) (k : ℕ) {e m x : ℕ} → e ≡ highest starts k → m ≡ get_or starts k 0 → x ≡ max e m → x ≡ highest starts (suc k)
unfolding highest
highest-next starts k e m x = x ∙ ap₂ max e m

module _ (starts : List ℕ) where
  abbrev spread_at : ℕ → ℕ → ℕ
  spread_at to k = cond (ltb k to) (highest starts (suc k)) (get_or starts k 0)

  spread_at_lem : (to : ℕ) {l : List ℕ} → l ≡ spread_starts to starts → (k : ℕ) → k < start_entries → get_or l k 0 ≡ spread_at to k
  unfolding spread_starts
  spread_at_lem to e k h = ap (λ (m : List ℕ). get_or m k 0) e ∙ get_or-tab start_entries (spread_at to) k 0 h

  pub spread-long : (to : ℕ) {l : List ℕ} → l ≡ spread_starts to starts → length l ≡ start_entries
  unfolding spread_starts
  spread-long to e = ap length e ∙ length-tab start_entries (spread_at to)

  pub spread-below : (to : ℕ) {l : List ℕ} → l ≡ spread_starts to starts → (k : ℕ) → k < to → k < start_entries → get_or l k 0 ≡ highest starts (suc k)
  spread-below to e k a h = spread_at_lem to e k h ∙ rw (lt-ltb k to a)

  -- the places from `to` on are as they were
  pub spread-past : (to : ℕ) {l : List ℕ} → l ≡ spread_starts to starts → (k : ℕ) → to ≤ k → k < start_entries → get_or l k 0 ≡ get_or starts k 0
  spread-past to e k a h = spread_at_lem to e k h ∙ rw (le-ltb k to a)

  pub spread-starts : length starts ≡ start_entries → starts ≡ spread_starts 0 starts
  unfolding spread_starts
  spread-starts long =
      sym (tab-get_or start_entries starts 0 long)
      ∙ tab-ext start_entries (λ k. get_or starts k 0) (spread_at 0) (λ k _. rw (le-ltb k 0 zero-le))

  spread-more : (i k : ℕ) → (k ≡ i) ⊎ (k ≡ i → ⊥) → (k < i) ⊎ (i ≤ k) → cond (eqb k i) (highest starts (suc i)) (spread_at i k) ≡ spread_at (i + 1) k
  spread-more i k (inl e) _ = rw (eq-eqb k i e, lt-ltb k (i + 1) (omega arith), e)
  spread-more i k (inr n) (inl l) = rw (ne_eqb k i n, lt-ltb k i l, lt-ltb k (i + 1) (omega arith))
  spread-more i k (inr n) (inr l) = rw (ne_eqb k i n, le-ltb k i l, le-ltb k (i + 1) (omega (arith, n)))

  pub spread-turns : {l : List ℕ} (i x : ℕ) → l ≡ spread_starts i starts → x ≡ highest starts (suc i) → set l i x ≡ spread_starts (i + 1) starts
  unfolding spread_starts
  spread-turns i x e same =
      ap₂ (λ (m : List ℕ) (y : ℕ). set m i y) e same
      ∙ set-tab start_entries (spread_at i) i (highest starts (suc i))
      ∙ tab-ext start_entries (λ k. cond (eqb k i) (highest starts (suc i)) (spread_at i k)) (spread_at (i + 1)) (λ k _. spread-more i k (eq-or-ne k i) (lt-or-ge k i))

-- ---- places of sums

-- the table has room for them
pub used-most : (s : Setup) → Limits s → used_entries s ≤ start_entries
used-most s limits = omega (arith, limits.epsilon-most, limits.delta-most)

module _ (s : Setup) (v least : ℕ) where
  pub place_inside : Limits s → (bytes : List ℕ) → fits s v least bytes ≡ true → due_near s v (decode s.epsilon bytes) + 1 < s.modulus + used_entries s
  unfolding not_early due_near due sum
  place_inside limits bytes h =
      let f : Frame = decode s.epsilon bytes in
      let early = leb-true _ (s.modulus + (s.epsilon - 1)) (fitting s v least bytes h).early in
      omega (arith, early, limits.epsilon-pos)

  -- the place of the sum of a frame that is not due before v
  pub place_at_lem : s.modulus ≤ least → (bytes : List ℕ) → fits s v least bytes ≡ true → s.modulus + sum_wait s v (decode s.epsilon bytes) ≡ due_near s v (decode s.epsilon bytes)
  unfolding sum_wait not_expired
  place_at_lem late bytes h = omega (arith, leb-true least _ (fitting s v least bytes h).expired)

  -- due clocks do not fall in a queue in order
  pub sums-rise : (b : List ℕ) (i : ℕ) → ((k : ℕ) → k < i + 1 → frame_sound s v least b k ≡ true) → (j : ℕ) → j < i + 1
      → due_near s v (frame_at s.epsilon b j) ≤ due_near s v (frame_at s.epsilon b i)
  unfolding follows
  sums-rise b zero each j h = let e : j ≡ 0 = omega arith in rw e (omega arith)
  sums-rise b (suc i) each j h =
      let step = due-first s v (frame_at s.epsilon b i) (frame_at s.epsilon b (suc i)) (frame-follows s v least b (suc i) (each (suc i) (omega arith))) in
      go (sums-rise b i (λ k l. each k (omega arith)) j) step (lt-or-ge j (i + 1))
    where
      go : (j < i + 1 → due_near s v (frame_at s.epsilon b j) ≤ due_near s v (frame_at s.epsilon b i))
          → due_near s v (frame_at s.epsilon b i) ≤ due_near s v (frame_at s.epsilon b (suc i))
          → (j < i + 1) ⊎ (i + 1 ≤ j)
          → due_near s v (frame_at s.epsilon b j) ≤ due_near s v (frame_at s.epsilon b (suc i))
      go r t (inl l) = omega (arith, r l)
      go r t (inr l) = let e : j ≡ suc i = omega arith in rw e (omega arith)

-- ---- the table of starts of a queue

module _ (s : Setup) (v : ℕ) (queue : List ℕ) where
  abbrev entry_at : ℕ → ℕ
  entry_at k = cond (ltb k (used_entries s)) (start_of s v queue k) front

  pub starts-long : {l : List ℕ} → l ≡ starts_of s v queue → length l ≡ start_entries
  unfolding starts_of
  starts-long e = ap length e ∙ length-tab start_entries entry_at

  entry-at : {l : List ℕ} → l ≡ starts_of s v queue → (k : ℕ) → k < start_entries → get_or l k 0 ≡ entry_at k
  unfolding starts_of
  entry-at e k h = ap (λ (l : List ℕ). get_or l k 0) e ∙ get_or-tab start_entries entry_at k 0 h

  pub starts-at : Limits s → {l : List ℕ} → l ≡ starts_of s v queue → (k : ℕ) → k < used_entries s → get_or l k 0 ≡ start_of s v queue k
  starts-at limits e k h = entry-at e k (omega (arith, used-most s limits)) ∙ rw (lt-ltb k (used_entries s) h)

  pub starts-past : {l : List ℕ} → l ≡ starts_of s v queue → (k : ℕ) → used_entries s ≤ k → k < start_entries → get_or l k 0 ≡ front
  starts-past e k past h = entry-at e k h ∙ rw (le-ltb k (used_entries s) past)

  pub starts_by : {l : List ℕ} → length l ≡ start_entries → ((k : ℕ) → k < used_entries s → k < start_entries → get_or l k 0 ≡ start_of s v queue k)
      → ((k : ℕ) → used_entries s ≤ k → k < start_entries → get_or l k 0 ≡ front) → l ≡ starts_of s v queue
  unfolding starts_of
  starts_by {l} long each past = eq-tab l start_entries entry_at 0 long (λ k h. go k h (lt-or-ge k (used_entries s)))
    where
      go : (k : ℕ) → k < start_entries → (k < used_entries s) ⊎ (used_entries s ≤ k) → get_or l k 0 ≡ entry_at k
      go k h (inl a) = each k a h ∙ rw (lt-ltb k (used_entries s) a)
      go k h (inr a) = past k a h ∙ rw (le-ltb k (used_entries s) a)

  below-most : (k : ℕ) → frames_below s v queue k ≤ two_at queue 0
  below-most k = omega (arith, leading_le (λ f. ltb (due_near s v f) (s.modulus + k)) (held s.epsilon queue), length-held s.epsilon queue)

  -- those due at most d ticks after v are those whose sums have places below d + 1
  pub below-within : (d : ℕ) → frames_below s v queue (d + 1) ≡ leading (due_within s v d) (held s.epsilon queue)
  unfolding due_within
  below-within d =
      let next : s.modulus + (d + 1) ≡ suc (s.modulus + d) = omega arith in
      leading-ext (λ f. ltb (due_near s v f) (s.modulus + (d + 1))) (due_within s v d) (held s.epsilon queue)
      (λ f _. ap (ltb (due_near s v f)) next ∙ leb-suc-suc (due_near s v f) (s.modulus + d))

  -- the entry of frame i, or of the end
  pub start-at : {i at : ℕ} (k : ℕ) → at ≡ frame_start s.epsilon queue i → i ≤ two_at queue 0
      → ((j : ℕ) → j < i → due_near s v (frame_at s.epsilon queue j) < s.modulus + k) → (i < two_at queue 0 → s.modulus + k ≤ due_near s v (frame_at s.epsilon queue i))
      → i * start_unit + at ≡ start_of s v queue k
  unfolding start_of
  start-at {i} {at} k starts most smaller larger =
      let frame : ℕ → Frame = frame_at s.epsilon queue in
      let e : frames_below s v queue k ≡ i =
      leading-held (λ f. ltb (due_near s v f) (s.modulus + k)) s.epsilon queue i most (λ j h. lt-ltb (due_near s v (frame j)) (s.modulus + k) (smaller j h)) (λ h. le-ltb (due_near s v (frame i)) (s.modulus + k) (larger h)) in
      rw (e, starts)

  -- the entries of an empty queue
  pub starts_none : held s.epsilon queue ≡ [] → all_front ≡ starts_of s v queue
  unfolding starts_of start_of leading
  starts_none none =
      replicate-tab start_entries front
      ∙ tab-ext start_entries (λ _. front) entry_at (λ k _. rw (none, start-zero s.epsilon queue) (sym (cond_same (ltb k (used_entries s)) front)))

-- ---- how large they are

-- a number of frames, and where they end
pub spans-small : (s : Setup) (queue : List ℕ) (i : ℕ) → Limits s → i ≤ depth s.n s.epsilon s.delta → FormedUpTo s.epsilon queue i → (i ≤ 1792) × (frame_start s.epsilon queue i < start_unit)
unfolding depth longest_frame width
spans-small s queue i limits few formed =
    let most : i ≤ 1792 = omega (arith, depth-most s.n s.epsilon s.delta limits.n-most limits.epsilon-most limits.delta-most) in
    let wide : longest_frame s.epsilon ≤ 71 = omega (arith, limits.epsilon-most) in
    let all : i * longest_frame s.epsilon ≤ 1792 * 71 = mul-le-mul most wide in
    (most, omega (arith, start-most s.epsilon queue i formed))

module _ (s : Setup) (v least : ℕ) (queue : List ℕ) (limits : Limits s) (sound : sound_holdback s v least queue ≡ true) where
  below-small : (k : ℕ) → (frames_below s v queue k ≤ 1792) × (frame_start s.epsilon queue (frames_below s v queue k) < start_unit)
  below-small k =
      let i : ℕ = frames_below s v queue k in
      spans-small s queue i limits (omega (arith, below-most s v queue k, sound-few s v least queue sound)) (sound-formed s v least queue i (λ j l. sound-frames s v least queue sound j (omega (arith, below-most s v queue k))))

  pub moving : {step : ℕ} {starts : List ℕ} → starts ≡ starts_of s v queue → step < start_limit → Moving starts step
  unfolding start_of
  moving {step} {starts} e small =
      record { long = starts-long s v queue e; each = λ k h. go k h (lt-or-ge k (used_entries s)); small = small }
    where
      go : (k : ℕ) → k < start_entries → (k < used_entries s) ⊎ (used_entries s ≤ k) → get_or starts k 0 < start_limit
      go k h (inl a) = omega (arith, starts-at s v queue limits e k a, below-small k)
      go k h (inr a) = omega (arith, starts-past s v queue e k a h)

  -- an entry taken apart
  pub start-parts : (k m : ℕ) → m ≡ start_of s v queue k → (m / start_unit ≡ frames_below s v queue k) × (m % start_unit ≡ frame_start s.epsilon queue (frames_below s v queue k))
  unfolding start_of
  start-parts k m e = let low = (below-small k).1 in (omega arith, omega arith)

  pub start-stands : (k m : ℕ) → m ≡ start_of s v queue k → Stands s.epsilon queue (frames_below s v queue k) (m / start_unit) (m % start_unit)
  start-stands k m e =
      let parts = start-parts k m e in
      record { frames = parts.0; starts = parts.1 ∙ ap (frame_start s.epsilon queue) (sym parts.0) }

  -- a search that starts at an entry, for a frame that is not due before v
  pub start-leads : {count m : ℕ} (k : ℕ) (f : Frame) → 2 ≤ length queue → count ≡ two_at queue 0 → m ≡ start_of s v queue k → s.modulus + k ≡ due_near s v f
      → Seeking (frame_end s.epsilon) (decode s.epsilon) (passes s) (λ g. before s v g f) queue 2 count (m / start_unit) (m % start_unit)
  start-leads {count} {m} k f two count-is e own =
      let i : ℕ = frames_below s v queue k in
      let index : m / start_unit ≡ i = (start-parts k m e).0 in
      let next : m % start_unit ≡ frame_start s.epsilon queue i = (start-parts k m e).1 in
      let ahead : every (λ g. before s v g f) (take (m / start_unit) (left_by (frame_end s.epsilon) (decode s.epsilon) queue 2 count)) ≡ true =
      ap₂ (λ (n : ℕ) (l : List Frame). every (λ g. before s v g f) (take n l)) index (stand-held s.epsilon queue count-is)
      ∙ every-mono (λ g. ltb (due_near s v g) (s.modulus + k)) (λ g. before s v g f) (take i (held s.epsilon queue))
      (λ g h. due-before s v g f (omega (arith, ltb-true (due_near s v g) (s.modulus + k) h, own)))
      (every-leading (λ g. ltb (due_near s v g) (s.modulus + k)) (held s.epsilon queue)) in
      seek-from (decode s.epsilon) (λ g. before s v g f) queue count 2 (m / start_unit) (m % start_unit) (sound-stand s v least queue sound two count-is)
      (omega (arith, below-most s v queue k)) ahead (next ∙ start-by s.epsilon queue i ∙ ap (end_by (frame_end s.epsilon) queue 2) (sym index))

-- ---- a frame put at its place

module _ {A : Type 0} where
  -- a property that another has too
  pub leading-mono : (p q : A → Bool) (l : List A) → ((x : A) → p x ≡ true → q x ≡ true) → leading p l ≤ leading q l
  unfolding leading
  leading-mono p q [] f = zero-le
  leading-mono p q (x ∷ l) f =
      let r : leading p l ≤ leading q l = leading-mono p q l f in
      elim (true-or-false (p x)) [
        | inl e ↦ rw (e, f x e) (omega arith)
        | inr e ↦ rw e zero-le
      ]

  leading-stays : (p : A → Bool) (i : ℕ) (x : A) (l : List A) → leading p l ≤ i → p x ≡ false → leading p (insert_at i x l) ≡ leading p l
  unfolding leading insert_at
  leading-stays p zero x l h e = rw e (omega arith)
  leading-stays p (suc i) x [] h e = rw e
  leading-stays p (suc i) x (y ∷ l) h e =
      elim (true-or-false (p y)) [
        | inl t ↦ rw t (ap suc (leading-stays p i x l (le_of_suc-le-suc (rw t at h)) e))
        | inr t ↦ rw t
      ]

  leading-grows : (p : A → Bool) (i : ℕ) (x : A) (l : List A) → i ≤ leading p l → p x ≡ true → leading p (insert_at i x l) ≡ suc (leading p l)
  unfolding leading insert_at
  leading-grows p zero x l h e = rw e
  leading-grows p (suc i) x [] h e = absurd (not-suc-le-zero h)
  leading-grows p (suc i) x (y ∷ l) h e =
      elim (true-or-false (p y)) [
        | inl t ↦ rw t (ap suc (leading-grows p i x l (le_of_suc-le-suc (rw t at h)) e))
        | inr t ↦ absurd (not-suc-le-zero (rw t at h))
      ]

module _ (s : Setup) (v : ℕ) (queue queue' : List ℕ) (f : Frame) (place size : ℕ) (late : s.modulus ≤ due_near s v f)
    (place_is : leading (λ g. before s v g f) (held s.epsilon queue) ≡ place)
    (held-is : held s.epsilon queue' ≡ insert_at place f (held s.epsilon queue))
    (ahead : (i : ℕ) → i ≤ place → frame_start s.epsilon queue' i ≡ frame_start s.epsilon queue i)
    (behind : (i : ℕ) → place ≤ i → i ≤ two_at queue 0 → frame_start s.epsilon queue' (suc i) ≡ frame_start s.epsilon queue i + size) where
  -- an entry for a sum that is not larger stands before the place, and stays
  entry-stays : (k : ℕ) → s.modulus + k ≤ due_near s v f → start_of s v queue k ≡ start_of s v queue' k
  unfolding start_of
  entry-stays k h =
      let below : Frame → Bool = λ g. ltb (due_near s v g) (s.modulus + k) in
      let low : frames_below s v queue k ≤ place =
      rw (← place_is) (leading-mono below (λ g. before s v g f) (held s.epsilon queue) (λ g l. due-before s v g f (omega (arith, ltb-true (due_near s v g) (s.modulus + k) l)))) in
      let e : frames_below s v queue' k ≡ frames_below s v queue k =
      ap (leading below) held-is ∙ leading-stays below place f (held s.epsilon queue) low (le-ltb (due_near s v f) (s.modulus + k) h) in
      rw e (ap (λ (n : ℕ). frames_below s v queue k * start_unit + n) (sym (ahead (frames_below s v queue k) low)))

  -- one for a larger sum stands behind it, and moves
  entry-moves : (k : ℕ) → due_near s v f < s.modulus + k → start_of s v queue k + (start_unit + size) ≡ start_of s v queue' k
  unfolding start_of
  entry-moves k h =
      let below : Frame → Bool = λ g. ltb (due_near s v g) (s.modulus + k) in
      let i : ℕ = frames_below s v queue k in
      let high : place ≤ i =
      rw (← place_is) (leading-mono (λ g. before s v g f) below (held s.epsilon queue) (λ g l. lt-ltb (due_near s v g) (s.modulus + k) (omega (arith, due-first s v g f l)))) in
      let e : frames_below s v queue' k ≡ suc i =
      ap (leading below) held-is ∙ leading-grows below place f (held s.epsilon queue) high (lt-ltb (due_near s v f) (s.modulus + k) h) in
      rw e (omega (arith, behind i high (below-most s v queue k)))

  own-place : s.modulus + sum_wait s v f ≡ due_near s v f
  unfolding sum_wait
  own-place = omega (arith, late)

  pub moved-table : Limits s → {starts l : List ℕ} → starts ≡ starts_of s v queue → l ≡ moved_starts (sum_wait s v f + 1) (used_entries s) (start_unit + size) starts → l ≡ starts_of s v queue'
  moved-table limits {starts} {l} old e =
      let from : ℕ = sum_wait s v f + 1 in
      let to : ℕ = used_entries s in
      let move : ℕ → ℕ = λ m. m + (start_unit + size) in
      starts_by s v queue' (changed-long move from starts to e)
      (λ k a h. changed-at move from starts to e k h ∙ rw (starts-at s v queue limits old k a, lt-ltb k to a) (go k (lt-or-ge k from)))
      (λ k a h. changed-past move from starts to e k a h ∙ starts-past s v queue old k a h)
    where
      go : (k : ℕ) → (k < sum_wait s v f + 1) ⊎ (sum_wait s v f + 1 ≤ k) → cond (ltb k (sum_wait s v f + 1)) (start_of s v queue k) (start_of s v queue k + (start_unit + size)) ≡ start_of s v queue' k
      go k (inl a) = rw (lt-ltb k (sum_wait s v f + 1) a) (entry-stays k (omega (arith, own-place)))
      go k (inr a) = rw (le-ltb k (sum_wait s v f + 1) a) (entry-moves k (omega (arith, own-place)))
