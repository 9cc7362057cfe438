-- The buffer of a process and the hold-back queue: the same members, delivered in the same order.
-- Assumes nothing.
use Prim.Native.Nat.{Ordering}
use Prim.Native.Nat.{ℕ, suc, ◌+◌, ◌-◌, ◌%◌, ◌≤◌, ◌<◌}
use native.Mathlib.Omega.{arith}
use mathlib.Core.Path.{◌≡◌, sym, ap, ◌∙◌}
use mathlib.Core.Logic.{◌⊎◌, inl, inr}
use mathlib.Core.Bool.{Bool, true, not}
use mathlib.Core.List.{List, [], ◌∷◌, ◌++◌, map, append_assoc}
use mathlib.Core.List.Memᴰ
use mathlib.Core.List.{Memᴰ}
use lib.Dec.{leb, ltb, eqb}
use lib.ListN.{length, get_or, length-append}
use lib.Seq.{get_or-append_seam}
use borrow.Author.Tests.{leb-true, leb-false, le-leb, lt-leb, ltb-true, ltb-false, lt-ltb, le-ltb, eqb-true, eqb-false, eq-eqb, ne_eqb}
use Rattle.laws.specs.Lists.{tab, select, sort_by, apart}
use Rattle.laws.specs.Lex.{is_less, lex_compare}
use Rattle.laws.proofs.Numbers.{lt-or-ge, eq-or-ne, not_of_false, false_of_not}
use Rattle.laws.proofs.Lists.{length-tab, mem-select, mem-of-select, mem-map, mem-of-map}
use Rattle.laws.proofs.Lex.{is_less-lt, lt-is_less, lex-head-lt, lex-head-eq, lex-lt-cases, lex-append}
use Rattle.laws.proofs.Sorted.{pairwise-mono, less_by, Sorted, sorted-map, sorted-unique, apart-select}
use Rattle.laws.proofs.InsertionSort.{mem-sort_by, mem-of-sort_by, sorted-sort_by}
use Rattle.model.specs.Setup.{Setup}
use Rattle.model.specs.Timestamp.{count_at, sum}
use Rattle.model.specs.Frame.{Frame}
use Rattle.model.specs.Order.{reading_of, key_by, key, key_near, counts_down, due, due_near}
use Rattle.model.specs.Tick.{due_before, due_now}
use Rattle.model.specs.Published.{Event, Message, known, rank, less, deliverable_by, in_order, same_message, message_due}
use Rattle.theory.specs.Demand2.{reduced, reduced_frame}
use Rattle.lemmas.proofs.Bounds.{Sound}
use Rattle.lemmas.proofs.Counts.{length-down, down-places}
use Rattle.theory.proofs.Cause.{counts-down-first}
use Rattle.theory.proofs.PublishedEvent.{ReadsTrue, Knows, known-count}

-- general: one more place behind the last does not change which list comes first, and readings move both sums alike
key-of-rank :
    (x y v B R R' c c' p q : ℕ) (a b : List ℕ) → length a ≡ length b → x + v ≡ B + R → y + v ≡ B + R'
    → lex_compare ((R + c) ∷ (a ++ (p ∷ []))) ((R' + c') ∷ (b ++ (q ∷ []))) ≡ Ordering.lt
    → lex_compare ((x + c) ∷ (a ++ (p ∷ x ∷ []))) ((y + c') ∷ (b ++ (q ∷ y ∷ []))) ≡ Ordering.lt
key-of-rank x y v B R R' c c' p q a b same ex ey h =
    elim (lex-lt-cases (R + c) (R' + c') (a ++ (p ∷ [])) (b ++ (q ∷ [])) h) [
      | inl k ↦ lex-head-lt (x + c) (y + c') (a ++ (p ∷ x ∷ [])) (b ++ (q ∷ y ∷ [])) (omega arith)
      | inr k ↦
          let e : R + c ≡ R' + c' = k.0 in
          let sides : length (a ++ (p ∷ [])) ≡ length (b ++ (q ∷ [])) = omega (arith, length-append a (p ∷ []), length-append b (q ∷ [])) in
          lex-head-eq (x + c) (y + c') (a ++ (p ∷ x ∷ [])) (b ++ (q ∷ y ∷ [])) (omega arith)
          ∙ rw (← append_assoc a (p ∷ []) (x ∷ []), ← append_assoc b (q ∷ []) (y ∷ []))
          (lex-append (a ++ (p ∷ [])) (b ++ (q ∷ [])) (x ∷ []) (y ∷ []) sides ∙ rw k.1)
    ]

-- a rank, by the counts of the reduced timestamp
rank_is : (epsilon B : ℕ) (m : Message) → rank epsilon m ≡ (m.event.r + m.event.c) ∷ (counts_down epsilon (reduced B m.event) ++ (m.sender ∷ []))
unfolding rank reduced
rank_is epsilon B m =
    ap (λ (l : List ℕ). (m.event.r + m.event.c) ∷ (l ++ (m.sender ∷ []))) (sym (down-places epsilon (reduced B m.event)))

-- the order of the ranks is the order of the frames, with clocks that are read as far from v as they lie
pub less-keys :
    (s : Setup) (v B x x' : ℕ) (m m' : Message) → x + v ≡ B + m.event.r → x' + v ≡ B + m'.event.r → less_by (rank s.epsilon) m m' ≡ true
    → is_less (lex_compare (key s x (reduced_frame s.modulus m)) (key s x' (reduced_frame s.modulus m'))) ≡ true
unfolding key key_by sum reduced_frame reduced
less-keys s v B x x' m m' t t' h =
    lt-is_less
    (key-of-rank x x' v B m.event.r m'.event.r m.event.c m'.event.c
    m.sender m'.sender (counts_down s.epsilon (reduced s.modulus m.event)) (counts_down s.epsilon (reduced s.modulus m'.event))
    (length-down s.epsilon (reduced s.modulus m.event) ∙ sym (length-down s.epsilon (reduced s.modulus m'.event))) t t'
    (rw (rank_is s.epsilon s.modulus m, rank_is s.epsilon s.modulus m') at (is_less-lt (lex_compare (rank s.epsilon m) (rank s.epsilon m')) h)))

less-frames :
    (s : Setup) (v : ℕ) (m m' : Message) → ReadsTrue s.epsilon s.modulus v m.event.r → ReadsTrue s.epsilon s.modulus v m'.event.r
    → less_by (rank s.epsilon) m m' ≡ true
    → less_by (key_near s (v % s.modulus)) (reduced_frame s.modulus m) (reduced_frame s.modulus m') ≡ true
unfolding key_near reading_of reduced_frame reduced
less-frames s v m m' t t' h =
    less-keys s v s.modulus (reading_of s (v % s.modulus) (reduced_frame s.modulus m)) (reading_of s (v % s.modulus) (reduced_frame s.modulus m')) m m' t t' h

-- due before v, and at v, both ways of saying it
due-reads : (s : Setup) (v : ℕ) (m : Message) → ReadsTrue s.epsilon s.modulus v m.event.r → due_near s (v % s.modulus) (reduced_frame s.modulus m) + v ≡ s.modulus + message_due s.epsilon s.delta m
unfolding due_near due sum reading_of reduced_frame reduced
due-reads s v m t = omega arith

pub before_same : (s : Setup) (v : ℕ) (m : Message) → ReadsTrue s.epsilon s.modulus v m.event.r → due_before s (v % s.modulus) (reduced_frame s.modulus m) ≡ ltb (message_due s.epsilon s.delta m) v
unfolding due_before
before_same s v m t =
    elim (lt-or-ge (message_due s.epsilon s.delta m) v) [
      | inl q ↦ lt-ltb (due_near s (v % s.modulus) (reduced_frame s.modulus m)) s.modulus (omega (arith, due-reads s v m t)) ∙ sym (lt-ltb (message_due s.epsilon s.delta m) v q)
      | inr q ↦ le-ltb (due_near s (v % s.modulus) (reduced_frame s.modulus m)) s.modulus (omega (arith, due-reads s v m t)) ∙ sym (le-ltb (message_due s.epsilon s.delta m) v q)
    ]

pub now-same : (s : Setup) (v : ℕ) (m : Message) → ReadsTrue s.epsilon s.modulus v m.event.r → due_now s (v % s.modulus) (reduced_frame s.modulus m) ≡ eqb (message_due s.epsilon s.delta m) v
unfolding due_now
now-same s v m t =
    elim (eq-or-ne (message_due s.epsilon s.delta m) v) [
      | inl q ↦ eq-eqb (due_near s (v % s.modulus) (reduced_frame s.modulus m)) s.modulus (omega (arith, due-reads s v m t)) ∙ sym (eq-eqb (message_due s.epsilon s.delta m) v q)
      | inr q ↦
          ne_eqb (due_near s (v % s.modulus) (reduced_frame s.modulus m)) s.modulus (λ z. q (omega (arith, due-reads s v m t)))
          ∙ sym (ne_eqb (message_due s.epsilon s.delta m) v q)
    ]

-- the queue holds the frames of the buffered messages and no others
pub record SameMembers (B : ℕ) (queue : List Frame) (buffer : List Message) : Type 0 where
  pub into : (f : Frame) → Memᴰ f queue → (m : Message) × Memᴰ m buffer × (f ≡ reduced_frame B m)
  pub back : (m : Message) → Memᴰ m buffer → Memᴰ (reduced_frame B m) queue

pub members-select :
    (B : ℕ) (p : Frame → Bool) (q : Message → Bool) (queue : List Frame) (buffer : List Message) → SameMembers B queue buffer
    → ((m : Message) → Memᴰ m buffer → p (reduced_frame B m) ≡ q m) → SameMembers B (select p queue) (select q buffer)
members-select B p q queue buffer same agree =
    record {
      into = λ f m.
          let (in-queue, yes-p) = mem-of-select p queue m in
          let (x, in_Buffer, e) = same.into f in-queue in
          (x, mem-select q in_Buffer (sym (agree x in_Buffer) ∙ (sym (ap p e) ∙ yes-p)), e);
      back = λ x m.
          let (in_Buffer, yes-q) = mem-of-select q buffer m in
          mem-select p (same.back x in_Buffer) (agree x in_Buffer ∙ yes-q);
    }

members-append :
    (B : ℕ) (a b : List Frame) (x y : List Message) → SameMembers B a x → SameMembers B b y → SameMembers B (a ++ b) (x ++ y)
members-append B a b x y p q =
    record {
      into = λ f m.
          elim (Memᴰ.append_cases a m) [
            | inl h ↦ let (z, there, e) = p.into f h in (z, Memᴰ.append_left y there, e)
            | inr h ↦ let (z, there, e) = q.into f h in (z, Memᴰ.append_right x there, e)
          ];
      back = λ z m.
          elim (Memᴰ.append_cases x m) [
            | inl h ↦ Memᴰ.append_left b (p.back z h)
            | inr h ↦ Memᴰ.append_right a (q.back z h)
          ];
    }

-- the same messages, listed otherwise
members_alike :
    (B : ℕ) (queue : List Frame) (x y : List Message) → ((m : Message) → Memᴰ m x → Memᴰ m y) → ((m : Message) → Memᴰ m y → Memᴰ m x)
    → SameMembers B queue x → SameMembers B queue y
members_alike B queue x y to from same =
    record {
      into = λ f m. let (z, there, e) = same.into f m in (z, to z there, e);
      back = λ z m. same.back z (from z m);
    }

-- a process holds the messages of its buffer and the new ones, none of which is due before v; of these frames the queue holds those of the buffer
-- that are not due before v, and the new ones
module _ (s : Setup) (v : ℕ) (opened queue : List Frame) (buffer fresh : List Message)
    (reads : (m : Message) → Memᴰ m (buffer ++ fresh) → ReadsTrue s.epsilon s.modulus v m.event.r)
    (undue : (m : Message) → Memᴰ m fresh → v ≤ message_due s.epsilon s.delta m)
    (old : SameMembers s.modulus opened buffer)
    (all : SameMembers s.modulus queue (select (λ m. not (ltb (message_due s.epsilon s.delta m) v)) buffer ++ fresh)) where
  abbrev rest : List Message
  rest = select (λ m. not (ltb (message_due s.epsilon s.delta m) v)) buffer ++ fresh

  -- what is not due before v
  rest-late : (m : Message) → Memᴰ m rest → Memᴰ m (buffer ++ fresh) × (v ≤ message_due s.epsilon s.delta m)
  rest-late m t =
      elim (Memᴰ.append_cases (select (λ m. not (ltb (message_due s.epsilon s.delta m) v)) buffer) t) [
        | inl q ↦
            let (there, un) = mem-of-select (λ m. not (ltb (message_due s.epsilon s.delta m) v)) buffer q in
            (Memᴰ.append_left fresh there, ltb-false (message_due s.epsilon s.delta m) v (false_of_not (ltb (message_due s.epsilon s.delta m) v) un))
        | inr q ↦ (Memᴰ.append_right buffer q, undue m q)
      ]

  late-rest : (m : Message) → Memᴰ m (buffer ++ fresh) → v ≤ message_due s.epsilon s.delta m → Memᴰ m rest
  late-rest m t h =
      elim (Memᴰ.append_cases buffer t) [
        | inl q ↦ Memᴰ.append_left fresh (mem-select (λ m. not (ltb (message_due s.epsilon s.delta m) v)) q (not_of_false (le-ltb (message_due s.epsilon s.delta m) v h)))
        | inr q ↦ Memᴰ.append_right (select (λ m. not (ltb (message_due s.epsilon s.delta m) v)) buffer) q
      ]

  now-agrees : (m : Message) → Memᴰ m rest → due_now s (v % s.modulus) (reduced_frame s.modulus m) ≡ eqb (message_due s.epsilon s.delta m) v
  now-agrees m t = now-same s v m (reads m (rest-late m t).0)

  -- what is delivered
  pub delivered-members :
      SameMembers s.modulus (select (due_before s (v % s.modulus)) opened ++ select (due_now s (v % s.modulus)) queue)
      (select (deliverable_by s.epsilon s.delta v) (buffer ++ fresh))
  unfolding deliverable_by
  delivered-members =
      members_alike s.modulus (select (due_before s (v % s.modulus)) opened ++ select (due_now s (v % s.modulus)) queue)
      (select (λ m. ltb (message_due s.epsilon s.delta m) v) buffer ++ select (λ m. eqb (message_due s.epsilon s.delta m) v) rest)
      (select (deliverable_by s.epsilon s.delta v) (buffer ++ fresh))
      (λ m t.
      elim (Memᴰ.append_cases (select (λ m. ltb (message_due s.epsilon s.delta m) v) buffer) t) [
        | inl q ↦
            let (there, h) = mem-of-select (λ m. ltb (message_due s.epsilon s.delta m) v) buffer q in
            mem-select (deliverable_by s.epsilon s.delta v) (Memᴰ.append_left fresh there) (le-leb (message_due s.epsilon s.delta m) v (omega (arith, ltb-true (message_due s.epsilon s.delta m) v h)))
        | inr q ↦
            let (there, h) = mem-of-select (λ m. eqb (message_due s.epsilon s.delta m) v) rest q in
            mem-select (deliverable_by s.epsilon s.delta v) (rest-late m there).0 (le-leb (message_due s.epsilon s.delta m) v (omega (arith, eqb-true (message_due s.epsilon s.delta m) v h)))
      ])
      (λ m t.
      let (there, h) = mem-of-select (deliverable_by s.epsilon s.delta v) (buffer ++ fresh) t in
      let by : message_due s.epsilon s.delta m ≤ v = leb-true (message_due s.epsilon s.delta m) v h in
      elim (lt-or-ge (message_due s.epsilon s.delta m) v) [
        | inl q ↦ Memᴰ.append_left (select (λ m. eqb (message_due s.epsilon s.delta m) v) rest) (mem-select (λ m. ltb (message_due s.epsilon s.delta m) v) (buffered m there q) (lt-ltb (message_due s.epsilon s.delta m) v q))
        | inr q ↦ Memᴰ.append_right (select (λ m. ltb (message_due s.epsilon s.delta m) v) buffer) (mem-select (λ m. eqb (message_due s.epsilon s.delta m) v) (late-rest m there q) (eq-eqb (message_due s.epsilon s.delta m) v (omega arith)))
      ])
      (members-append s.modulus (select (due_before s (v % s.modulus)) opened) (select (due_now s (v % s.modulus)) queue)
      (select (λ m. ltb (message_due s.epsilon s.delta m) v) buffer) (select (λ m. eqb (message_due s.epsilon s.delta m) v) rest)
      (members-select s.modulus (due_before s (v % s.modulus)) (λ m. ltb (message_due s.epsilon s.delta m) v) opened buffer old (λ m t. before_same s v m (reads m (Memᴰ.append_left fresh t))))
      (members-select s.modulus (due_now s (v % s.modulus)) (λ m. eqb (message_due s.epsilon s.delta m) v) queue rest all now-agrees))
    where
      buffered : (m : Message) → Memᴰ m (buffer ++ fresh) → message_due s.epsilon s.delta m < v → Memᴰ m buffer
      buffered m t h =
          elim (Memᴰ.append_cases buffer t) [
            | inl q ↦ q
            | inr q ↦ absurd (omega (arith, undue m q))
          ]

  -- what is kept
  pub kept-members :
      SameMembers s.modulus (select (λ f. not (due_now s (v % s.modulus) f)) queue)
      (select (λ m. not (deliverable_by s.epsilon s.delta v m)) (buffer ++ fresh))
  unfolding deliverable_by
  kept-members =
      members_alike s.modulus (select (λ f. not (due_now s (v % s.modulus) f)) queue) (select (λ m. not (eqb (message_due s.epsilon s.delta m) v)) rest)
      (select (λ m. not (deliverable_by s.epsilon s.delta v m)) (buffer ++ fresh))
      (λ m t.
      let (there, h) = mem-of-select (λ m. not (eqb (message_due s.epsilon s.delta m) v)) rest t in
      let ne = eqb-false (message_due s.epsilon s.delta m) v (false_of_not (eqb (message_due s.epsilon s.delta m) v) h) in
      mem-select (λ m. not (deliverable_by s.epsilon s.delta v m)) (rest-late m there).0
      (not_of_false (lt-leb (message_due s.epsilon s.delta m) v (omega (arith, ne, (rest-late m there).1)))))
      (λ m t.
      let (there, h) = mem-of-select (λ m. not (deliverable_by s.epsilon s.delta v m)) (buffer ++ fresh) t in
      let later : v < message_due s.epsilon s.delta m = leb-false (message_due s.epsilon s.delta m) v (false_of_not (leb (message_due s.epsilon s.delta m) v) h) in
      mem-select (λ m. not (eqb (message_due s.epsilon s.delta m) v)) (late-rest m there (omega arith)) (not_of_false (ne_eqb (message_due s.epsilon s.delta m) v (λ e. omega arith))))
      (members-select s.modulus (λ f. not (due_now s (v % s.modulus) f)) (λ m. not (eqb (message_due s.epsilon s.delta m) v)) queue rest all (λ m t. ap not (now-agrees m t)))

-- frames in order, and the messages that a test chooses of those held: where the members are the same, the order is too
module _ (s : Setup) (v : ℕ) (held : List Message)
    (reads : (m : Message) → Memᴰ m held → ReadsTrue s.epsilon s.modulus v m.event.r)
    (single : apart same_message held ≡ true)
    (ranked : (m m' : Message) → Memᴰ m held → Memᴰ m' held → rank s.epsilon m ≡ rank s.epsilon m' → same_message m m' ≡ true)
    (q : Message → Bool) where
  chosen : List Message
  chosen = select q held

  from-held : (m : Message) → Memᴰ m (sort_by (less_by (rank s.epsilon)) chosen) → Memᴰ m held
  unfolding chosen
  from-held m h = (mem-of-select q held (mem-of-sort_by (less_by (rank s.epsilon)) chosen h)).0

  frames-sorted : Sorted (key_near s (v % s.modulus)) (map (reduced_frame s.modulus) (sort_by (less_by (rank s.epsilon)) chosen))
  unfolding chosen
  frames-sorted =
      sorted-map (key_near s (v % s.modulus)) (reduced_frame s.modulus) (sort_by (less_by (rank s.epsilon)) chosen)
      (pairwise-mono (less_by (rank s.epsilon)) (less_by (λ m. key_near s (v % s.modulus) (reduced_frame s.modulus m)))
      (sort_by (less_by (rank s.epsilon)) chosen)
      (λ x y m n h. less-frames s v x y (reads x (from-held x m)) (reads y (from-held y n)) h)
      (sorted-sort_by (rank s.epsilon) same_message chosen (apart-select same_message q held single)
      (λ x y m n e. ranked x y (mem-of-select q held m).0 (mem-of-select q held n).0 e)))

  pub order_same :
      (frames : List Frame) → Sorted (key_near s (v % s.modulus)) frames → SameMembers s.modulus frames (select q held)
      → frames ≡ map (reduced_frame s.modulus) (in_order s.epsilon (select q held))
  unfolding in_order less chosen
  order_same frames sorted same =
      sorted-unique (key_near s (v % s.modulus)) frames (map (reduced_frame s.modulus) (sort_by (less_by (rank s.epsilon)) chosen)) sorted frames-sorted
      (λ f m.
      let (x, there, e) = same.into f m in
      rw e (mem-map (reduced_frame s.modulus) (mem-sort_by (less_by (rank s.epsilon)) there)))
      (λ f m.
      let (x, in_order, e) = mem-of-map (reduced_frame s.modulus) (sort_by (less_by (rank s.epsilon)) chosen) m in
      rw e (same.back x (mem-of-sort_by (less_by (rank s.epsilon)) chosen in_order)))

counts-first :
    (n epsilon B : ℕ) (e e' : Event) → Sound n epsilon (reduced B e) → Sound n epsilon (reduced B e') → e.r + e.c ≡ e'.r + e'.c
    → Knows e e' → known e (e'.r + epsilon) < known e' (e'.r + epsilon)
    → lex_compare (counts_down epsilon (reduced B e)) (counts_down epsilon (reduced B e')) ≡ Ordering.lt
unfolding reduced count_at
counts-first n epsilon B e e' o o' q k more =
    counts-down-first n epsilon e.r e'.r (reduced B e) (reduced B e') o o' q
    (λ x h. rw (known-count e (x + epsilon), known-count e' (x + epsilon)) at (k.counts (x + epsilon) (omega (arith, o'.close))))
    (rw (known-count e (e'.r + epsilon), known-count e' (e'.r + epsilon)) at more)

-- of two messages the one that the other's sender knew of comes first
pub rank-before :
    (n epsilon B : ℕ) (m m' : Message) → Sound n epsilon (reduced B m.event) → Sound n epsilon (reduced B m'.event)
    → Knows m.event m'.event → known m.event (m'.event.r + epsilon) < known m'.event (m'.event.r + epsilon)
    → less_by (rank epsilon) m m' ≡ true
rank-before n epsilon B m m' o o' k more =
    lt-is_less {o = lex_compare (rank epsilon m) (rank epsilon m')} (rw (rank_is epsilon B m, rank_is epsilon B m') (go (lt-or-ge (m.event.r + m.event.c) (m'.event.r + m'.event.c))))
  where
    go :
        (m.event.r + m.event.c < m'.event.r + m'.event.c) ⊎ (m'.event.r + m'.event.c ≤ m.event.r + m.event.c)
        → lex_compare ((m.event.r + m.event.c) ∷ (counts_down epsilon (reduced B m.event) ++ (m.sender ∷ [])))
        ((m'.event.r + m'.event.c) ∷ (counts_down epsilon (reduced B m'.event) ++ (m'.sender ∷ []))) ≡ Ordering.lt
    go (inl h) = lex-head-lt (m.event.r + m.event.c) (m'.event.r + m'.event.c) _ _ h
    go (inr h) =
        let q : m.event.r + m.event.c ≡ m'.event.r + m'.event.c = omega (arith, k.sums) in
        lex-head-eq (m.event.r + m.event.c) (m'.event.r + m'.event.c) _ _ q
        ∙ (lex-append (counts_down epsilon (reduced B m.event)) (counts_down epsilon (reduced B m'.event)) (m.sender ∷ []) (m'.sender ∷ [])
        (length-down epsilon (reduced B m.event) ∙ sym (length-down epsilon (reduced B m'.event)))
        ∙ rw (counts-first n epsilon B m.event m'.event o o' q k more))

-- messages of one rank have one sender
pub rank-sender : (epsilon : ℕ) (m m' : Message) → rank epsilon m ≡ rank epsilon m' → m.sender ≡ m'.sender
unfolding rank
rank-sender epsilon m m' e =
    sym (at-end m) ∙ (ap (λ (l : List ℕ). get_or l (suc epsilon) 0) e ∙ at-end m')
  where
    at-end : (x : Message) → get_or (rank epsilon x) (suc epsilon) 0 ≡ x.sender
    at-end x =
        let down = tab epsilon (λ k. get_or x.event.kn (epsilon + x.event.c - k) 0) in
        ap (λ (i : ℕ). get_or (down ++ (x.sender ∷ [])) i 0) (sym (length-tab epsilon (λ k. get_or x.event.kn (epsilon + x.event.c - k) 0)))
        ∙ get_or-append_seam down x.sender [] 0
