-- Two boards that heard the same covered messages charge them alike: what a board has shown is, after each call, the covered messages that it heard and
-- that have come due there, in the order of two stamps. Assumes nothing.
use Prim.Native.Nat.{ℕ, suc, ◌+◌, ◌≤◌, ◌<◌}
use native.Mathlib.Omega.{arith}
use native.Mathlib.Nat.{zero-add}
use mathlib.Core.Path.{◌≡◌, refl, sym, ap, ap₂, subst, ◌∙◌}
use mathlib.Core.Logic.{◌⊎◌, inl, inr}
use mathlib.Core.Bool.{Bool, true, false, ◌&&◌, ◌||◌, not, cond}
use mathlib.Core.List.Memᴰ
use mathlib.Core.List.{List, [], ◌∷◌, ◌++◌, map, map-append, append-nil, append_assoc, Memᴰ}
use mathlib.Core.Option.{Option, none, some}
use lib.Dec.{leb, eqb}
use lib.ListN.{length, take, get_or, get_elem?, set, length-set, length-append}
use lib.Seq.{take_at}
use borrow.Author.Tests.{leb-true, le-leb, lt-leb, lt-ltb, le-ltb, eqb-true, eq-eqb, ne_eqb}
use Rattle.laws.specs.Lists.{every, any, select, select_from, leading, insert_at, sort_by, joined, same_list}
use Rattle.laws.specs.Lex.{is_less}
use Rattle.laws.proofs.Numbers.{eq-or-ne, lt-or-ge, true-or-false, clash, and_left, and_right, and-false, or_cases, within_low, false_of_not, false-of-no, or-false-intro, cond_same}
use Rattle.laws.proofs.Lists.{any_append, every-mem, joined-append, get_elem?-seam, get_elem?-lt, get_elem?-in, get_elem?-mem, get_elem?-set-same, get_elem?-set-other, get_elem?-snoc-cases}
use Rattle.laws.proofs.InsertionSort.{mem-of-sort_by}
use Rattle.laws.proofs.Lex.{lt-is_less, lex-head-lt, lex-head-gt}
use Rattle.model.specs.Setup.{Setup}
use Rattle.model.specs.Timestamp.{sum}
use Rattle.model.specs.Frame.{decode}
use Rattle.model.specs.Order.{key_by, key, due}
use Rattle.model.specs.Batch.{batch_entries}
use Rattle.model.specs.Holdback.{held_bytes}
use Rattle.model.specs.Ledger.{ledger_after, charges_of, told_of, Alike, total_call}
use Rattle.model.specs.Run.{Node, Source, sent_by, stale, Call, Done, World, is_accepted, moved_clock, node_after, output_of, done_of, act_on, act, at_start, run_from, sends, message_bytes, message_frame}
use Rattle.theory.specs.Premises.{together, largest_clock, stale_until, clock_at, heard_in_time, entries_allowed, one_setup, plain_call, true_clock, step_allowed, hears_allowed, accepted_well, allowed_for, allowed, keeps}
use Rattle.theory.specs.Demand3.{covered_from, covered, is_from, heard_in, due_clock, due_in, message_key, earlier, due_here, covered_frame, Promised}
use Rattle.theory.specs.Charges.{shown_in, shown_on, payloads_on, heard_and_due, AllChargedAlike, Charges, ChargesFresh}
use Rattle.lemmas.proofs.Ledgers.{after-alike, answers-alike, totals-alike}
use Rattle.theory.proofs.Demand3.{demand3, demand3-fresh}

-- ---- lists with positions

module _ {A : Type 0} where
  -- of every element and its position, counted from i
  AllFrom : (ℕ → A → Type 0) → ℕ → List A → Type 0
  AllFrom Q i [] = Unit {0}
  AllFrom Q i (x ∷ l) = Q i x × AllFrom Q (suc i) l

  all_from : (Q : ℕ → A → Type 0) (i : ℕ) (l : List A) → ((k : ℕ) (x : A) → get_elem? l k ≡ some x → Q (i + k) x) → AllFrom Q i l
  unfolding AllFrom
  all_from Q i [] h = tt
  all_from Q i (x ∷ l) h =
      let here : i + 0 ≡ i = omega arith in (
        subst (λ (n : ℕ). Q n x) here (h 0 x refl),
        all_from Q (suc i) l (λ k y e. let next : i + suc k ≡ suc i + k = omega arith in subst (λ (n : ℕ). Q n y) next (h (suc k) y e)),
      )

  selected-same : (p q : ℕ → A → Bool) (i : ℕ) (l : List A) → AllFrom (λ k x. p k x ≡ q k x) i l → select_from p i l ≡ select_from q i l
  unfolding AllFrom select_from
  selected-same p q i [] h = refl
  selected-same p q i (x ∷ l) h = rw (h.0, selected-same p q (suc i) l h.1)

  -- a last element that is not selected
  selected-front : (p : ℕ → A → Bool) (i : ℕ) (l : List A) (x : A) → p (i + length l) x ≡ false → select_from p i (l ++ (x ∷ [])) ≡ select_from p i l
  unfolding select_from
  selected-front p i [] x h =
      let here : i + 0 ≡ i = omega arith in
      let none : p i x ≡ false = sym (ap (λ (n : ℕ). p n x) here) ∙ h in
      rw none
  selected-front p i (y ∷ l) x h =
      let next : suc i + length l ≡ i + suc (length l) = omega arith in
      rw (selected-front p (suc i) l x (ap (λ (n : ℕ). p n x) next ∙ h))

  -- put in before all of b, where none of b comes first
  insert-left : (p : A → Bool) (a b : List A) (x : A) → ((y : A) → Memᴰ y b → p y ≡ false) → insert_at (leading p (a ++ b)) x (a ++ b) ≡ insert_at (leading p a) x a ++ b
  unfolding leading insert_at
  insert-left p [] [] x h = refl
  insert-left p [] (y ∷ b) x h = rw (h y (Memᴰ.head refl))
  insert-left p (y ∷ a) b x h = go (p y) (insert-left p a b x h)
    where
      go :
          (t : Bool) → insert_at (leading p (a ++ b)) x (a ++ b) ≡ insert_at (leading p a) x a ++ b
          → insert_at (cond t (suc (leading p (a ++ b))) 0) x (y ∷ (a ++ b)) ≡ insert_at (cond t (suc (leading p a)) 0) x (y ∷ a) ++ b
      go true e = ap (λ (l : List A). y ∷ l) e
      go false e = refl

  -- behind all of a, where all of a comes first
  insert-right : (p : A → Bool) (a b : List A) (x : A) → ((y : A) → Memᴰ y a → p y ≡ true) → insert_at (leading p (a ++ b)) x (a ++ b) ≡ a ++ insert_at (leading p b) x b
  unfolding leading insert_at
  insert-right p [] b x h = refl
  insert-right p (y ∷ a) b x h = rw (h y (Memᴰ.head refl)) (ap (λ (l : List A). y ∷ l) (insert-right p a b x (λ z m. h z (Memᴰ.tail m))))

  -- what has a figure up to a bound, and what has a larger one
  module _ (figure : A → ℕ) (bound : ℕ) where
    -- an element is in both parts' selections as it is in the whole
    pub record Parted (p lo hi : ℕ → A → Bool) (k : ℕ) (x : A) : Type 0 where
      pub low : figure x ≤ bound → (lo k x ≡ p k x) × (hi k x ≡ false)
      pub high : bound < figure x → (lo k x ≡ false) × (hi k x ≡ p k x)

    low-figure : (p lo hi : ℕ → A → Bool) (i : ℕ) (l : List A) → AllFrom (Parted p lo hi) i l → (x : A) → Memᴰ x (select_from lo i l) → figure x ≤ bound
    unfolding AllFrom select_from
    low-figure p lo hi i [] h x m = absurd (Memᴰ.not-nil m)
    low-figure p lo hi i (y ∷ l) h x m = go (lo i y) refl (lt-or-ge bound (figure y)) m (λ n. low-figure p lo hi (suc i) l h.1 x n)
      where
        go : (t : Bool) → lo i y ≡ t → (bound < figure y) ⊎ (figure y ≤ bound) → Memᴰ x (cond t (y ∷ select_from lo (suc i) l) (select_from lo (suc i) l)) → (Memᴰ x (select_from lo (suc i) l) → figure x ≤ bound) → figure x ≤ bound
        go false e c n rest = rest n
        go true e (inl c) n rest = absurd (clash e (h.0.high c).0)
        go true e (inr c) n rest =
            elim (Memᴰ.cases_cons n) [
              | inl same ↦ rw same c
              | inr n' ↦ rest n'
            ]

    high-figure : (p lo hi : ℕ → A → Bool) (i : ℕ) (l : List A) → AllFrom (Parted p lo hi) i l → (x : A) → Memᴰ x (select_from hi i l) → bound < figure x
    unfolding AllFrom select_from
    high-figure p lo hi i [] h x m = absurd (Memᴰ.not-nil m)
    high-figure p lo hi i (y ∷ l) h x m = go (hi i y) refl (lt-or-ge bound (figure y)) m (λ n. high-figure p lo hi (suc i) l h.1 x n)
      where
        go : (t : Bool) → hi i y ≡ t → (bound < figure y) ⊎ (figure y ≤ bound) → Memᴰ x (cond t (y ∷ select_from hi (suc i) l) (select_from hi (suc i) l)) → (Memᴰ x (select_from hi (suc i) l) → bound < figure x) → bound < figure x
        go false e c n rest = rest n
        go true e (inr c) n rest = absurd (clash e (h.0.low c).1)
        go true e (inl c) n rest =
            elim (Memᴰ.cases_cons n) [
              | inl same ↦ rw same c
              | inr n' ↦ rest n'
            ]

    -- they are sorted by themselves
    module _ (less : A → A → Bool) (parts : (x y : A) → figure x ≤ bound → bound < figure y → (less x y ≡ true) × (less y x ≡ false)) where
      sorted-parts : (p lo hi : ℕ → A → Bool) (i : ℕ) (l : List A) → AllFrom (Parted p lo hi) i l → sort_by less (select_from p i l) ≡ sort_by less (select_from lo i l) ++ sort_by less (select_from hi i l)
      unfolding AllFrom select_from sort_by
      sorted-parts p lo hi i [] h = refl
      sorted-parts p lo hi i (x ∷ l) h = go (p i x) refl (lt-or-ge bound (figure x)) (sorted-parts p lo hi (suc i) l h.1)
        where
          go :
              (t : Bool) → p i x ≡ t → (bound < figure x) ⊎ (figure x ≤ bound) → sort_by less (select_from p (suc i) l) ≡ sort_by less (select_from lo (suc i) l) ++ sort_by less (select_from hi (suc i) l)
              → sort_by less (cond (p i x) (x ∷ select_from p (suc i) l) (select_from p (suc i) l))
              ≡ sort_by less (cond (lo i x) (x ∷ (select_from lo (suc i) l)) (select_from lo (suc i) l)) ++ sort_by less (cond (hi i x) (x ∷ (select_from hi (suc i) l)) (select_from hi (suc i) l))
          go true t (inl c) e =
              rw (t, (h.0.high c).0, (h.0.high c).1 ∙ t, e)
              (insert-right (λ (y : A). less y x) (sort_by less (select_from lo (suc i) l)) (sort_by less (select_from hi (suc i) l)) x (λ y m. (parts y x (low-figure p lo hi (suc i) l h.1 y (mem-of-sort_by less (select_from lo (suc i) l) m)) c).0))
          go true t (inr c) e =
              rw (t, (h.0.low c).1, (h.0.low c).0 ∙ t, e)
              (insert-left (λ (y : A). less y x) (sort_by less (select_from lo (suc i) l)) (sort_by less (select_from hi (suc i) l)) x (λ y m. (parts x y c (high-figure p lo hi (suc i) l h.1 y (mem-of-sort_by less (select_from hi (suc i) l) m))).1))
          go false t (inl c) e = rw (t, (h.0.high c).0, (h.0.high c).1 ∙ t) e
          go false t (inr c) e = rw (t, (h.0.low c).1, (h.0.low c).0 ∙ t) e

-- ---- the order of two stamps goes by the due clock first

due-before : (s : Setup) (m m' : Done) → due_clock s m < due_clock s m' → (earlier s m m' ≡ true) × (earlier s m' m ≡ false)
unfolding due_clock due earlier message_key key key_by
due-before s m m' h =
    let first : sum m.clock (message_frame m).stamp.c < sum m'.clock (message_frame m').stamp.c = omega arith in
    (lt-is_less (lex-head-lt _ _ _ _ first), ap is_less (lex-head-gt _ _ _ _ first))

-- two nodes' clocks
drift : (epsilon : ℕ) (nodes : List Node) → together epsilon nodes ≡ true → (i j : ℕ) {a b : Node} → get_elem? nodes i ≡ some a → get_elem? nodes j ≡ some b
    → clock_at (get_elem? nodes i) ≤ clock_at (get_elem? nodes j) + epsilon
unfolding together
drift epsilon nodes h i j {a} {b} p q =
    let apart : a.clock ≤ b.clock + epsilon =
    leb-true a.clock (b.clock + epsilon)
    (every-mem (λ (y : Node). leb a.clock (y.clock + epsilon)) (every-mem (λ (z : Node). every (λ (y : Node). leb z.clock (y.clock + epsilon)) nodes) h (get_elem?-mem nodes i p)) (get_elem?-mem nodes j q)) in
    omega (arith, ap clock_at p, ap clock_at q)

some_same : {A : Type 0} {x y : A} → ◌≡◌ {A = Option A} (some x) (some y) → x ≡ y
some_same e = cc

or_nothing : (b : Bool) → (b || false) ≡ b
or_nothing true = refl
or_nothing false = refl

-- what an accepted call shows
shown-accepted : (s : Setup) (from : ℕ) (d : Done) → is_accepted d.output ≡ true → shown_in s from d ≡ select (covered_frame s from d.clock) (held_bytes s.epsilon d.output.delivery)
unfolding shown_in
shown-accepted s from d e = rw e

-- ---- what is heard comes in time

-- the call that an entry comes from: its frame was heard while its sender's clock was at most δ past the sending
abbrev HeardFrom : Setup → List Done → List Node → ℕ → Type 0
HeardFrom s past nodes k = (m : Done) × (get_elem? past k ≡ some m) × (clock_at (get_elem? nodes m.node) ≤ m.clock + s.delta)

heard-from : (s : Setup) (past : List Done) (nodes : List Node) (entry : List ℕ) (k : ℕ) (o : Option Done) → get_elem? past k ≡ o → heard_in_time s nodes entry o ≡ true → HeardFrom s past nodes k
heard-from s past nodes entry k none at h = absurd (clash h refl)
heard-from s past nodes entry k (some m) at h = (
  m,
  at,
  leb-true (clock_at (get_elem? nodes m.node)) (m.clock + s.delta) (and_right (same_list entry (message_bytes m)) _ (and_right (sends m) _ h)),
)

entries_from :
    (s : Setup) (x : ℕ) (past : List Done) (nodes : List Node) (v : ℕ) (entries : List (List ℕ)) (sources : List Source)
    → entries_allowed s x past nodes v entries sources ≡ true → (k : ℕ) → any (is_from k) sources ≡ true → HeardFrom s past nodes k
unfolding entries_allowed any is_from
entries_from s x past nodes v [] [] h k e = absurd (clash e refl)
entries_from s x past nodes v [] (o ∷ os) h k e = absurd (clash h refl)
entries_from s x past nodes v (b ∷ bs) [] h k e = absurd (clash e refl)
entries_from s x past nodes v (b ∷ bs) (stale ∷ os) h k e = entries_from s x past nodes v bs os (and_right (leb v (stale_until s x)) (entries_allowed s x past nodes v bs os) h) k e
entries_from s x past nodes v (b ∷ bs) (sent_by j ∷ os) h k e =
    elim (or_cases (eqb k j) (any (is_from k) os) e) [
      | inl same ↦
          let k-is : k ≡ j = eqb-true k j same in
          heard-from s past nodes b k (get_elem? past k) refl
          (ap (λ (i : ℕ). heard_in_time s nodes b (get_elem? past i)) k-is ∙ and_left (heard_in_time s nodes b (get_elem? past j)) _ h)
      | inr more ↦ entries_from s x past nodes v bs os (and_right (heard_in_time s nodes b (get_elem? past j)) _ h) k more
    ]

-- ---- what the boards have shown, after so many calls

pub record Shown (s : Setup) (from : ℕ) (w : World) : Type 0 where
  -- nothing is heard before it is sent
  pub known : (i k : ℕ) → any (heard_in i k) w.past ≡ true → k < length w.past
  pub makers : (k : ℕ) (m : Done) → get_elem? w.past k ≡ some m → m.node < length w.nodes
  pub shown :
      (i : ℕ) → shown_on s from i w.past
      ≡ map message_bytes (sort_by (earlier s) (select_from (λ k m. covered from m && heard_and_due s w i k m) 0 w.past))

module _ (s : Setup) (x from : ℕ) (w : World) (call : Call) (node : Node) (at : get_elem? w.nodes call.node ≡ some node) (so_far : Shown s from w) where
  abbrev d : Done
  d = done_of node call

  abbrev i : ℕ
  i = call.node

  abbrev nodes' : List Node
  nodes' = set w.nodes i (node_after node call.step (output_of node call))

  abbrev past' : List Done
  past' = w.past ++ (d ∷ [])

  abbrev after : World
  after = record { nodes = nodes'; past = past' }

  abbrev n : ℕ
  n = length w.past

  act-after : act w call ≡ after
  unfolding act
  act-after = ap (λ (o : Option Node). act_on o w call) at

  made_by : d.node ≡ i
  unfolding done_of
  made_by = refl

  mine : get_elem? nodes' i ≡ some (node_after node call.step (output_of node call))
  mine = get_elem?-set-same w.nodes i (node_after node call.step (output_of node call)) (get_elem?-lt w.nodes i at)

  my-clock : clock_at (get_elem? nodes' i) ≡ d.clock
  unfolding done_of node_after
  my-clock = ap clock_at mine

  same_length : length nodes' ≡ length w.nodes
  same_length = length-set w.nodes i (node_after node call.step (output_of node call))

  -- the newest call adds to what was heard
  heard-more : (j k : ℕ) → any (heard_in j k) past' ≡ (any (heard_in j k) w.past || heard_in j k d)
  unfolding any
  heard-more j k = any_append (heard_in j k) w.past (d ∷ []) ∙ ap (λ (b : Bool). any (heard_in j k) w.past || b) (or_nothing (heard_in j k d))

  unheard-yet : (j : ℕ) → any (heard_in j n) w.past ≡ false
  unheard-yet j = false-of-no (any (heard_in j n) w.past) (λ h. omega (arith, so_far.known j n h))

  -- the list of what a board has shown grows by what the call shows on it
  shown-more : (j : ℕ) → shown_on s from j past' ≡ shown_on s from j w.past ++ cond (eqb i j) (shown_in s from d) []
  unfolding shown_on joined done_of
  shown-more j =
      let piece : Done → List (List ℕ) = λ e. cond (eqb e.node j) (shown_in s from e) [] in
      joined-append piece w.past (d ∷ []) ∙ ap (λ (l : List (List ℕ)). joined piece w.past ++ l) (append-nil (piece d))

  -- what is selected of all calls for a board
  abbrev chosen : World → ℕ → ℕ → Done → Bool
  chosen u j k m = covered from m && heard_and_due s u j k m

  -- a message that no board heard is not selected
  unchosen : (j k : ℕ) (m : Done) → any (heard_in j k) past' ≡ false → chosen after j k m ≡ false
  unfolding heard_and_due
  unchosen j k m e = rw (e, and-false (leb (due_clock s m) (clock_at (get_elem? nodes' j))), and-false (covered from m))

  -- ---- a board for which it is no accepted call
  module _ (j : ℕ) (quiet : (is_accepted d.output ≡ false) ⊎ (i ≡ j → ⊥)) where
    nothing-heard : (k : ℕ) → heard_in j k d ≡ false
    unfolding heard_in done_of
    nothing-heard k = go quiet
      where
        go : (is_accepted d.output ≡ false) ⊎ (i ≡ j → ⊥) → (is_accepted (output_of node call) && (eqb i j && any (is_from k) call.sources)) ≡ false
        go (inl e) = rw e
        go (inr ne) = rw (ne_eqb i j ne, and-false (is_accepted (output_of node call)))

    heard-same : (k : ℕ) → any (heard_in j k) past' ≡ any (heard_in j k) w.past
    heard-same k = heard-more j k ∙ ap (λ (b : Bool). any (heard_in j k) w.past || b) (nothing-heard k) ∙ or_nothing (any (heard_in j k) w.past)

    nothing-shown : cond (eqb i j) (shown_in s from d) [] ≡ []
    unfolding shown_in done_of
    nothing-shown = go quiet
      where
        go : (is_accepted d.output ≡ false) ⊎ (i ≡ j → ⊥) → cond (eqb i j) (shown_in s from d) [] ≡ []
        go (inl e) = rw e (cond_same (eqb i j) [])
        go (inr ne) = rw (ne_eqb i j ne)

    stays : is_accepted d.output ≡ false → d.clock ≡ node.clock
    unfolding done_of moved_clock
    stays e = rw e

    clock-same : clock_at (get_elem? nodes' j) ≡ clock_at (get_elem? w.nodes j)
    clock-same = go (eq-or-ne i j)
      where
        refused : (is_accepted d.output ≡ false) ⊎ (i ≡ j → ⊥) → i ≡ j → is_accepted d.output ≡ false
        refused (inl e) same = e
        refused (inr ne) same = absurd (ne same)

        go : (i ≡ j) ⊎ (i ≡ j → ⊥) → clock_at (get_elem? nodes' j) ≡ clock_at (get_elem? w.nodes j)
        go (inl same) =
            ap (λ (k : ℕ). clock_at (get_elem? nodes' k)) (sym same) ∙ my-clock ∙ stays (refused quiet same)
            ∙ sym (ap clock_at at) ∙ ap (λ (k : ℕ). clock_at (get_elem? w.nodes k)) same
        go (inr ne) = ap clock_at (get_elem?-set-other w.nodes i j (node_after node call.step (output_of node call)) ne)

    quiet-shown : shown_on s from j past' ≡ map message_bytes (sort_by (earlier s) (select_from (chosen after j) 0 past'))
    unfolding heard_and_due
    quiet-shown =
        shown-more j ∙ ap (λ (l : List (List ℕ)). shown_on s from j w.past ++ l) nothing-shown ∙ append-nil (shown_on s from j w.past)
        ∙ so_far.shown j
        ∙ ap (λ (l : List Done). map message_bytes (sort_by (earlier s) l))
        (sym
        (selected-front (chosen after j) 0 w.past d
        (ap (λ (k : ℕ). chosen after j k d) (zero-add n) ∙ unchosen j n d (heard-same n ∙ unheard-yet j))
        ∙ selected-same (chosen after j) (chosen w j) 0 w.past
        (all_from (λ k m. chosen after j k m ≡ chosen w j k m) 0 w.past
        (λ k m _. ap₂ (λ (c : ℕ) (b : Bool). covered from m && (leb (due_clock s m) c && b)) clock-same (heard-same (0 + k))))))

  -- ---- the board whose accepted call it is
  module _ (accepted : is_accepted d.output ≡ true) (well : accepted_well s x w call d ≡ true)
      (delivering : shown_in s from d ≡ map message_bytes (sort_by (earlier s) (due_here s from past' i node.clock d.clock))) where
    step-fact : 1 ≤ call.step
    unfolding accepted_well step_allowed
    step-fact =
        within_low 1 s.epsilon call.step
        (and_left (step_allowed s call) _ (and_right (true_clock s call d) _ (and_right (one_setup s call d) _ (and_right (plain_call call) _ well))))

    rest-well : (together s.epsilon (act w call).nodes && hears_allowed s x w call d) ≡ true
    unfolding accepted_well
    rest-well = and_right (step_allowed s call) _ (and_right (true_clock s call d) _ (and_right (one_setup s call d) _ (and_right (plain_call call) _ well)))

    close : together s.epsilon nodes' ≡ true
    close = sym (ap (λ (u : World). together s.epsilon u.nodes) act-after) ∙ and_left (together s.epsilon (act w call).nodes) _ rest-well

    hears : entries_allowed s x w.past nodes' d.clock (batch_entries call.batch) call.sources ≡ true
    unfolding hears_allowed
    hears =
        sym (ap (λ (u : World). entries_allowed s x w.past u.nodes d.clock (batch_entries call.batch) call.sources) act-after)
        ∙ and_right (together s.epsilon (act w call).nodes) _ rest-well

    later : d.clock ≡ node.clock + call.step
    unfolding done_of moved_clock
    later = rw accepted

    -- what it hears is not past its due clock
    in-time : (k : ℕ) → heard_in i k d ≡ true → (m : Done) × (get_elem? w.past k ≡ some m) × (d.clock ≤ due_clock s m)
    unfolding heard_in done_of due_clock due sum
    in-time k h =
        let (m, here, near) = entries_from s x w.past nodes' d.clock (batch_entries call.batch) call.sources hears k
        (and_right (eqb i i) _ (and_right (is_accepted (output_of node call)) _ h)) in
        let member : m.node < length nodes' = omega (arith, same_length, so_far.makers k m here) in
        let sender : get_elem? nodes' m.node ≡ some (get_or nodes' m.node node) = get_elem?-in nodes' m.node node member in
        let apart : clock_at (get_elem? nodes' i) ≤ clock_at (get_elem? nodes' m.node) + s.epsilon = drift s.epsilon nodes' close i m.node mine sender in
        (m, here, omega (arith, near, apart, my-clock))

    known-here : (k : ℕ) → heard_in i k d ≡ true → k < n
    known-here k h = get_elem?-lt w.past k (in-time k h).1

    none-newer : any (heard_in i n) past' ≡ false
    none-newer =
        heard-more i n
        ∙ or-false-intro (unheard-yet i) (false-of-no (heard_in i n d) (λ h. omega (arith, known-here n h)))

    -- what had come due before, and what comes due in this call
    abbrev lo : ℕ → Done → Bool
    lo k m = chosen w i k m

    abbrev hi : ℕ → Done → Bool
    hi k m = covered from m && (due_in s node.clock d.clock m && any (heard_in i k) past')

    abbrev all : ℕ → Done → Bool
    all k m = chosen after i k m

    parted : (k : ℕ) (m : Done) → get_elem? w.past k ≡ some m → Parted (due_clock s) node.clock all lo hi k m
    unfolding heard_and_due due_in
    parted k m here =
        record {
          low =
              λ e.
              let by-then : leb (due_clock s m) (clock_at (get_elem? nodes' i)) ≡ true = le-leb (due_clock s m) (clock_at (get_elem? nodes' i)) (omega (arith, my-clock, later)) in
              let before : leb (due_clock s m) (clock_at (get_elem? w.nodes i)) ≡ true = le-leb (due_clock s m) (clock_at (get_elem? w.nodes i)) (omega (arith, ap clock_at at)) in
              let not-now : heard_in i k d ≡ false = false-of-no (heard_in i k d) (λ h. too-late k m here e h) in
              let same : any (heard_in i k) past' ≡ any (heard_in i k) w.past =
              heard-more i k ∙ ap (λ (b : Bool). any (heard_in i k) w.past || b) not-now ∙ or_nothing (any (heard_in i k) w.past) in
              (rw (by-then, before, same), rw (le-ltb node.clock (due_clock s m) e, and-false (covered from m)));
          high =
              λ e.
              let not-before : leb (due_clock s m) (clock_at (get_elem? w.nodes i)) ≡ false = lt-leb (due_clock s m) (clock_at (get_elem? w.nodes i)) (omega (arith, ap clock_at at)) in
              (rw (not-before, and-false (covered from m)), rw (lt-ltb node.clock (due_clock s m) e, my-clock));
        }
      where
        too-late : (k : ℕ) (m : Done) → get_elem? w.past k ≡ some m → due_clock s m ≤ node.clock → heard_in i k d ≡ true → ⊥
        too-late k m here e h =
            let (m', here', late) = in-time k h in
            let same : m ≡ m' = some_same (sym here ∙ here') in
            omega (arith, ap (due_clock s) same, later, step-fact)

    turn-shown : shown_on s from i past' ≡ map message_bytes (sort_by (earlier s) (select_from all 0 past'))
    unfolding due_here
    turn-shown =
        let front : (p : ℕ → Done → Bool) → p n d ≡ false → select_from p 0 past' ≡ select_from p 0 w.past =
        λ p e. selected-front p 0 w.past d (ap (λ (k : ℕ). p k d) (zero-add n) ∙ e) in
        let new : hi n d ≡ false = rw (none-newer, and-false (due_in s node.clock d.clock d), and-false (covered from d)) in
        shown-more i
        ∙ ap (λ (b : Bool). shown_on s from i w.past ++ cond b (shown_in s from d) []) (eq-eqb i i refl)
        ∙ ap₂ ◌++◌ (so_far.shown i) (delivering ∙ ap (λ (l : List Done). map message_bytes (sort_by (earlier s) l)) (front hi new))
        ∙ sym (map-append message_bytes (sort_by (earlier s) (select_from lo 0 w.past)) (sort_by (earlier s) (select_from hi 0 w.past)))
        ∙ ap (map message_bytes)
        (sym
        (sorted-parts (due_clock s) node.clock (earlier s) (λ a b e f. due-before s a b (omega arith)) all lo hi 0 w.past
        (all_from (Parted (due_clock s) node.clock all lo hi) 0 w.past
        (λ k m here. subst (λ (j : ℕ). Parted (due_clock s) node.clock all lo hi j m) (sym (zero-add k)) (parted k m here)))))
        ∙ ap (λ (l : List Done). map message_bytes (sort_by (earlier s) l)) (sym (front all (unchosen i n d none-newer)))

  -- ---- any board, after any call that is allowed
  module _ (well : is_accepted d.output ≡ true → accepted_well s x w call d ≡ true)
      (delivering : is_accepted d.output ≡ true → shown_in s from d ≡ map message_bytes (sort_by (earlier s) (due_here s from past' i node.clock d.clock))) where
    known-now : (j k : ℕ) → heard_in j k d ≡ true → k < n
    known-now j k h =
        let accepted : is_accepted d.output ≡ true = unfold heard_in in (and_left (is_accepted d.output) _ h) in
        let receiving : i ≡ j = unfold heard_in done_of in (eqb-true i j (and_left (eqb i j) _ (and_right (is_accepted d.output) _ h))) in
        known-here accepted (well accepted) (delivering accepted) k (ap (λ (b : ℕ). heard_in b k d) receiving ∙ h)

    shown-after : (j : ℕ) → shown_on s from j past' ≡ map message_bytes (sort_by (earlier s) (select_from (chosen after j) 0 past'))
    shown-after j = go (true-or-false (is_accepted d.output)) (eq-or-ne i j)
      where
        go : (is_accepted d.output ≡ true) ⊎ (is_accepted d.output ≡ false) → (i ≡ j) ⊎ (i ≡ j → ⊥) → shown_on s from j past' ≡ map message_bytes (sort_by (earlier s) (select_from (chosen after j) 0 past'))
        go (inr e) c = quiet-shown j (inl e)
        go (inl e) (inr ne) = quiet-shown j (inr ne)
        go (inl e) (inl same) =
            subst (λ (b : ℕ). shown_on s from b past' ≡ map message_bytes (sort_by (earlier s) (select_from (chosen after b) 0 past'))) same (turn-shown e (well e) (delivering e))

    shown-call : Shown s from after
    shown-call =
        record {
          known =
              λ j k h. elim (or_cases (any (heard_in j k) w.past) (heard_in j k d) (sym (heard-more j k) ∙ h)) [
                | inl before ↦ omega (arith, length-append w.past (d ∷ []), so_far.known j k before)
                | inr now ↦ omega (arith, length-append w.past (d ∷ []), known-now j k now)
              ];
          makers =
              λ k m here. elim (get_elem?-snoc-cases w.past d k here) [
                | inl before ↦ omega (arith, same_length, so_far.makers k m before)
                | inr (last, same) ↦ omega (arith, same_length, ap (λ (e : Done). e.node) same, made_by, get_elem?-lt w.nodes i at)
              ];
          shown = shown-after;
        }

-- ---- the whole list

-- calls are added to those made
act-grows : (w : World) (call : Call) → (more : List Done) × ((act w call).past ≡ w.past ++ more)
unfolding act
act-grows w call = go (get_elem? w.nodes call.node)
  where
    go : (o : Option Node) → (more : List Done) × ((act_on o w call).past ≡ w.past ++ more)
    go none = ([], sym (append-nil w.past))
    go (some node) = (done_of node call ∷ [], refl)

run-grows : (calls : List Call) (w : World) → (more : List Done) × ((run_from w calls).past ≡ w.past ++ more)
unfolding run_from
run-grows [] w = ([], sym (append-nil w.past))
run-grows (call ∷ calls) w =
    let (more, e) = run-grows calls (act w call) in
    let (one, f) = act-grows w call in
    (one ++ more, e ∙ ap (λ (l : List Done). l ++ more) f ∙ append_assoc w.past one more)

-- an accepted call keeps the premises
call-well :
    (s : Setup) (x : ℕ) (w : World) (call : Call) (node : Node) → get_elem? w.nodes call.node ≡ some node → allowed s x w call ≡ true
    → is_accepted (done_of node call).output ≡ true → accepted_well s x w call (done_of node call) ≡ true
unfolding allowed
call-well s x w call node at h accepted =
    let either : (not (is_accepted (done_of node call).output) || accepted_well s x w call (done_of node call)) ≡ true = sym (ap (allowed_for s x w call) at) ∙ h in
    elim (or_cases (not (is_accepted (done_of node call).output)) (accepted_well s x w call (done_of node call)) either) [
      | inl refused ↦ absurd (clash accepted (false_of_not (is_accepted (done_of node call).output) refused))
      | inr well ↦ well
    ]

-- a call that is allowed is some node's
call-node : (s : Setup) (x : ℕ) (w : World) (call : Call) → allowed s x w call ≡ true → (node : Node) × (get_elem? w.nodes call.node ≡ some node)
unfolding allowed
call-node s x w call h = go (get_elem? w.nodes call.node) refl
  where
    go : (o : Option Node) → get_elem? w.nodes call.node ≡ o → (node : Node) × (get_elem? w.nodes call.node ≡ some node)
    go none at = absurd (clash (sym (ap (allowed_for s x w call) at) ∙ h) refl)
    go (some node) at = (node, at)

call-shown :
    (s : Setup) (x from : ℕ) (w : World) (call : Call) → Shown s from w → allowed s x w call ≡ true
    → (all more : List Done) → all ≡ (act w call).past ++ more → Promised s from all → Shown s from (act w call)
call-shown s x from w call so_far h all more grown promised =
    let (node, at) = call-node s x w call h in
    let d : Done = done_of node call in
    let n : ℕ = length w.past in
    let is : act w call ≡ after s x from w call node at so_far = act-after s x from w call node at so_far in
    let whole : all ≡ w.past ++ (d ∷ []) ++ more = grown ∙ ap (λ (u : World). u.past ++ more) is in
    let here : get_elem? all n ≡ some d =
    ap (λ (l : List Done). get_elem? l n) (whole ∙ append_assoc w.past (d ∷ []) more) ∙ get_elem?-seam w.past d more in
    let front : take (n + 1) all ≡ w.past ++ (d ∷ []) = ap (take (n + 1)) whole ∙ take_at (w.past ++ (d ∷ [])) more (n + 1) (length-append w.past (d ∷ [])) in
    subst (Shown s from) (sym is)
    (shown-call s x from w call node at so_far (call-well s x w call node at h)
    (λ accepted.
    shown-accepted s from d accepted ∙ promised.delivering n d here accepted
    ∙ ap (λ (l : List Done). map message_bytes (sort_by (earlier s) (due_here s from l d.node d.last d.clock))) front
    ∙ (unfold done_of in refl)))

run-shown : (s : Setup) (x from : ℕ) (calls : List Call) (w : World) → Shown s from w → keeps s x w calls ≡ true → Promised s from (run_from w calls).past → Shown s from (run_from w calls)
unfolding keeps run_from
run-shown s x from [] w so_far h promised = so_far
run-shown s x from (call ∷ calls) w so_far h promised =
    let (more, grown) = run-grows calls (act w call) in
    run-shown s x from calls (act w call) (call-shown s x from w call so_far (and_left (allowed s x w call) _ h) (run_from (act w call) calls).past more grown promised)
    (and_right (allowed s x w call) _ h) promised

none-shown : (s : Setup) (from : ℕ) (nodes : List Node) → Shown s from (at_start nodes)
unfolding at_start shown_on joined select_from sort_by any
none-shown s from nodes =
    record {
      known = λ i k h. absurd (clash h refl);
      makers = λ k m here. absurd (omega (arith, get_elem?-lt [] k here));
      shown = λ i. refl;
    }

-- two boards of one list
shown-alike : (s : Setup) (from : ℕ) (w : World) → Shown s from w → AllChargedAlike s from w
shown-alike s from w so_far a b rate ours theirs heard alike =
    let frames : shown_on s from a w.past ≡ shown_on s from b w.past =
    so_far.shown a
    ∙ ap (λ (l : List Done). map message_bytes (sort_by (earlier s) l))
    (selected-same (λ k m. covered from m && heard_and_due s w a k m) (λ k m. covered from m && heard_and_due s w b k m) 0 w.past
    (all_from (λ k m. (covered from m && heard_and_due s w a k m) ≡ (covered from m && heard_and_due s w b k m)) 0 w.past (λ k m here. same k m here (covered from m) refl)))
    ∙ sym (so_far.shown b) in
    let tickets : payloads_on s from a w.past ≡ payloads_on s from b w.past = ap (map (λ (bytes : List ℕ). (decode s.epsilon bytes).payload)) frames in
    record {
      shown = frames;
      answers =
          answers-alike rate (payloads_on s from a w.past) alike
          ∙ ap (λ (l : List (List ℕ)). map told_of (charges_of rate theirs l)) tickets;
      ledgers = subst (λ (l : List (List ℕ)). Alike (ledger_after rate ours (payloads_on s from a w.past)) (ledger_after rate theirs l)) tickets (after-alike rate (payloads_on s from a w.past) alike);
      totals =
          λ grower.
          totals-alike grower (after-alike rate (payloads_on s from a w.past) alike)
          ∙ ap (λ (l : List (List ℕ)). total_call grower (ledger_after rate theirs l)) tickets;
    }
  where
    same : (k : ℕ) (m : Done) → get_elem? w.past k ≡ some m → (t : Bool) → covered from m ≡ t → (covered from m && heard_and_due s w a (0 + k) m) ≡ (covered from m && heard_and_due s w b (0 + k) m)
    same k m here false t = rw t
    same k m here true t = rw (t, zero-add k) (heard k m here t)

pub charges-alike : Charges
charges-alike s nodes calls good kept =
    shown-alike s (covered_from s (largest_clock nodes)) (run_from (at_start nodes) calls)
    (run-shown s (largest_clock nodes) (covered_from s (largest_clock nodes)) calls (at_start nodes) (none-shown s (covered_from s (largest_clock nodes)) nodes) kept (demand3 s nodes calls good kept))

pub charges-alike-fresh : ChargesFresh
charges-alike-fresh s nodes calls good fresh kept sent =
    shown-alike s 0 (run_from (at_start nodes) calls)
    (run-shown s (largest_clock nodes) 0 calls (at_start nodes) (none-shown s 0 nodes) kept (demand3-fresh s nodes calls good fresh kept sent))
