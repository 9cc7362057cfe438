-- 02, 2.14: far enough apart, and soon enough. Each message that a board hears comes due at a clock that the board reaches in one of its calls, which hands it
-- out; a smaller sum comes due sooner.
-- Assumes nothing.
use Prim.Native.Nat.{ℕ, suc, ◌+◌, ◌≤◌, ◌<◌}
use native.Mathlib.Omega.{arith}
use mathlib.Core.Path.{◌≡◌, refl, sym, ap, subst, ◌∙◌}
use mathlib.Core.Logic.{◌⊎◌, inl, inr}
use mathlib.Core.Bool.{Bool, true, false, ◌&&◌, ◌||◌, not, cond}
use mathlib.Core.List.{List, [], ◌∷◌, ◌++◌, Memᴰ}
use mathlib.Core.Option.{some}
use lib.Dec.{leb, ltb, eqb}
use lib.ListN.{length, take, get_or, get_elem?}
use borrow.Author.Tests.{leb-true, le-leb, lt-ltb, ltb-true, eqb-true, eq-eqb}
use Rattle.laws.specs.Lists.{every, any, select_from, leading, insert_at, sort_by}
use Rattle.laws.specs.Lex.{lex_compare, is_less}
use Rattle.laws.proofs.Numbers.{lt-or-ge, eq-or-ne, clash, and_intro, and_left, and_right, not_of_false, false_of_not, false-of-no}
use Rattle.laws.proofs.Lists.{get_elem?-lt, get_elem?-in, get_elem?-get_or, get_elem?-mem, mem-get_elem?, get_elem?-append, get_elem?-seam, get_elem?-snoc-cases, every-mem, every-of-mem, every-insert_at, any-mem, any-of-mem, mem-select_from-zero, mem-of-select_from-zero}
use Rattle.laws.proofs.Lex.{is_less-lt, lt-is_less, lex_irrefl, lex-trans, lex-total, lex-head-lt}
use Rattle.laws.proofs.Sorted.{pairwise, less_by, pairwise_cons, pairwise-head, pairwise-tail, pairwise-index}
use Rattle.laws.proofs.InsertionSort.{mem-sort_by, mem-of-sort_by}
use Rattle.model.specs.Schedule.{Schedule, steady, widest_of, due_along}
use Rattle.model.specs.Timestamp.{sum}
use Rattle.model.specs.Frame.{Frame}
use Rattle.model.specs.Wider.{wider_key}
use Rattle.model.specs.Batch.{batch_entries}
use Rattle.model.specs.Run.{Node, Source, sent_by, stale, Call, Done, World, is_accepted, moved_clock, node_after, output_of, done_of, act, at_start, run_from, sends, message_bytes}
use Rattle.theory.specs.Premises.{clock_at}
use Rattle.theory.specs.Demand3.{covered, is_from, heard_in}
use Rattle.theory.specs.Through.{due_clock_along, due_in_along, message_key_along, earlier_along, due_here_along, PromisedAlong}
use Rattle.theory.specs.Showing.{shown_by, ShownAt, FarApart, steps_up_to, shown_until, SoonEnough, Showing, Shows, ShowsFresh, ShowsThrough, ShowsFreshThrough}
use Rattle.lemmas.proofs.Schedules.{Good as GoodSchedule, due-later, limits-widest}
use Rattle.theory.proofs.HearLoop.{Settles, Arrival, covered-sends, some_inj}
use Rattle.theory.proofs.World.{event_frame, event_due, Good, Legal, AllKept, nodes_after, act-is, after-at, after-other, sends-event}
use Rattle.theory.proofs.Due.{due-most}
use Rattle.theory.proofs.Along.{due-clock}
use Rattle.theory.proofs.Promises.{entry-at}
use Rattle.theory.proofs.Stabilize.{Allowed, Legals, step-all}
use Rattle.theory.proofs.Demand3.{Runs, none_kept, run-promises, runs-plain, runs-fresh}
use Rattle.theory.proofs.Through.{runs-through, runs-fresh-through}
use Rattle.theory.specs.Through.{covered_through}
use Rattle.theory.specs.Changeover.{along_all}
use Rattle.theory.proofs.Chains.{in_take, of-take}

-- ---- places in a sorted list

module _ {A : Type 0} (key : A → List ℕ) where
  -- no later element comes before an earlier one
  abbrev Weakly : List A → Type 0
  Weakly l = pairwise (λ x y. not (less_by key y x)) l ≡ true

  less-never-back : (x y : A) → less_by key x y ≡ true → not (less_by key y x) ≡ true
  less-never-back x y h =
      not_of_false (false-of-no (less_by key y x)
      (λ k. lex_irrefl (key x) (lex-trans (key x) (key y) (key x) (is_less-lt (lex_compare (key x) (key y)) h) (is_less-lt (lex_compare (key y) (key x)) k))))

  -- what is not before y, where y is not before x, is not before x
  not-before-through : (x y z : A) → less_by key y x ≡ false → not (less_by key z y) ≡ true → not (less_by key z x) ≡ true
  not-before-through x y z first second =
      not_of_false (false-of-no (less_by key z x) (λ k.
      elim (lex-total (key y) (key z)) [
        | inl h ↦ clash (lt-is_less (lex-trans (key y) (key z) (key x) h (is_less-lt (lex_compare (key z) (key x)) k))) first
        | inr (inl e) ↦ clash (ap (λ (s : List ℕ). is_less (lex_compare s (key x))) e ∙ k) first
        | inr (inr h) ↦ clash (lt-is_less h) (false_of_not (less_by key z y) second)
      ]))

  weakly-insert : (x : A) (l : List A) → Weakly l → Weakly (insert_at (leading (λ y. less_by key y x) l) x l)
  unfolding leading insert_at pairwise every
  weakly-insert x [] h = refl
  weakly-insert x (y ∷ l) h = go (less_by key y x) refl (weakly-insert x l (pairwise-tail (λ a b. not (less_by key b a)) y l h))
    where
      go : (t : Bool) → less_by key y x ≡ t → Weakly (insert_at (leading (λ z. less_by key z x) l) x l) → Weakly (insert_at (cond t (suc (leading (λ z. less_by key z x) l)) 0) x (y ∷ l))
      go true e rest =
          pairwise_cons (λ a b. not (less_by key b a)) y (insert_at (leading (λ z. less_by key z x) l) x l)
          (every-insert_at (λ b. not (less_by key b y)) (leading (λ z. less_by key z x) l) x l ∙ and_intro (less-never-back y x e) (pairwise-head (λ a b. not (less_by key b a)) y l h))
          rest
      go false e rest =
          pairwise_cons (λ a b. not (less_by key b a)) x (y ∷ l)
          (and_intro (not_of_false e)
          (every-of-mem (λ b. not (less_by key b x)) l
          (λ z m. not-before-through x y z e (every-mem (λ b. not (less_by key b y)) (pairwise-head (λ a b. not (less_by key b a)) y l h) m))))
          h

  weakly-sorted : (l : List A) → Weakly (sort_by (less_by key) l)
  unfolding sort_by pairwise
  weakly-sorted [] = refl
  weakly-sorted (x ∷ l) = weakly-insert x (sort_by (less_by key) l) (weakly-sorted l)

  -- so the smaller key has the earlier place
  earlier-place :
      (l : List A) (p q : ℕ) {x y : A} → get_elem? (sort_by (less_by key) l) p ≡ some x → get_elem? (sort_by (less_by key) l) q ≡ some y → less_by key x y ≡ true → p < q
  earlier-place l p q {x} {y} x-at y-at h =
      elim (lt-or-ge p q) [
        | inl first ↦ first
        | inr late ↦ absurd (go (eq-or-ne p q) late)
      ]
    where
      sorted : List A
      sorted = sort_by (less_by key) l

      go : (p ≡ q) ⊎ (p ≡ q → ⊥) → q ≤ p → ⊥
      go (inl e) late =
          let same : x ≡ y = some_inj (sym x-at ∙ (ap (get_elem? sorted) e ∙ y-at)) in
          lex_irrefl (key y) (is_less-lt (lex_compare (key y) (key y)) (subst (λ (z : A). less_by key z y ≡ true) same h))
      go (inr ne) late =
          let before : q < p = omega arith in
          let back : not (less_by key (get_or sorted p y) (get_or sorted q y)) ≡ true =
          pairwise-index (λ a b. not (less_by key b a)) sorted y (weakly-sorted l) q p before (get_elem?-lt sorted p x-at) in
          let px : get_or sorted p y ≡ x = get_elem?-get_or sorted p y x-at in
          let qy : get_or sorted q y ≡ y = get_elem?-get_or sorted q y y-at in
          let back' : not (less_by key x y) ≡ true = subst (λ (z : A). not (less_by key x z) ≡ true) qy (subst (λ (z : A). not (less_by key z (get_or sorted q y)) ≡ true) px back) in
          clash h (false_of_not (less_by key x y) back')

-- ---- what a list of calls keeps, beside the invariant of demand 3

-- a node's accepted call, not before the one at position h, in which its clock comes to a clock
pub record Reaching (past : List Done) (node h clock : ℕ) : Type 0 where
  pub call : ℕ
  pub done : Done
  pub at : get_elem? past call ≡ some done
  pub accepted : is_accepted done.output ≡ true
  pub mine : done.node ≡ node
  pub later : h ≤ call
  pub before : done.last < clock
  pub reached : clock ≤ done.clock

-- a message that is heard in the call at position h for v: it was sent before, and is not due before v
pub record Heeded (g : Schedule) (past : List Done) (h v k : ℕ) : Type 0 where
  pub message : Done
  pub at : get_elem? past k ≡ some message
  pub sent-before : k < h
  pub undue : v ≤ event_due g message

-- an accepted call moves its node's clock by its step; what it hears; a clock that a node comes to lies in one of its calls; and these follow one another
pub record Moves (g : Schedule) (w : World) : Type 0 where
  pub steps : (h : ℕ) (d : Done) → get_elem? w.past h ≡ some d → is_accepted d.output ≡ true → (1 ≤ d.call.step) × (d.clock ≡ d.last + d.call.step)
  pub heeds :
      (h : ℕ) (d : Done) → get_elem? w.past h ≡ some d → is_accepted d.output ≡ true → (e k : ℕ) → get_elem? d.call.sources e ≡ some (sent_by k)
      → Heeded g w.past h d.clock k
  pub comes :
      (h : ℕ) (d : Done) → get_elem? w.past h ≡ some d → is_accepted d.output ≡ true → (clock : ℕ) → d.last < clock
      → clock ≤ clock_at (get_elem? w.nodes d.node) → Reaching w.past d.node h clock
  pub behind : (h : ℕ) (d : Done) → get_elem? w.past h ≡ some d → is_accepted d.output ≡ true → d.clock ≤ clock_at (get_elem? w.nodes d.node)
  pub ordered :
      (h j : ℕ) (a d : Done) → get_elem? w.past h ≡ some a → get_elem? w.past j ≡ some d → is_accepted a.output ≡ true → is_accepted d.output ≡ true
      → a.node ≡ d.node → h < j → a.clock ≤ d.last

-- what holds of a call still holds with one more behind it
module _ (past : List Done) (d : Done) where
  still : (k : ℕ) {m : Done} → get_elem? past k ≡ some m → get_elem? (past ++ (d ∷ [])) k ≡ some m
  still k at = get_elem?-append past (d ∷ []) k (get_elem?-lt past k at) ∙ at

  still-heeded : (g : Schedule) (h v k : ℕ) → Heeded g past h v k → Heeded g (past ++ (d ∷ [])) h v k
  still-heeded g h v k x = record { message = x.message; at = still k x.at; sent-before = x.sent-before; undue = x.undue }

  still-reaching : (node h clock : ℕ) → Reaching past node h clock → Reaching (past ++ (d ∷ [])) node h clock
  still-reaching node h clock x =
      record {
        call = x.call;
        done = x.done;
        at = still x.call x.at;
        accepted = x.accepted;
        mine = x.mine;
        later = x.later;
        before = x.before;
        reached = x.reached;
      }

  newest : get_elem? (past ++ (d ∷ [])) (length past) ≡ some d
  newest = get_elem?-seam past d []

module _ (g : Schedule) (floor from : ℕ) (settles : Settles g floor from) (w : World) (call : Call) (node : Node) (at : get_elem? w.nodes call.node ≡ some node) (moves : Moves g w) where
  abbrev d : Done
  d = done_of node call

  abbrev past' : List Done
  past' = w.past ++ (d ∷ [])

  abbrev nodes' : List Node
  nodes' = nodes_after w.nodes call node

  my-clock : clock_at (get_elem? nodes' call.node) ≡ d.clock
  unfolding done_of node_after
  my-clock = ap clock_at (after-at w.nodes call node at)

  other-clock : (j : ℕ) → (call.node ≡ j → ⊥) → clock_at (get_elem? nodes' j) ≡ clock_at (get_elem? w.nodes j)
  other-clock j ne = ap clock_at (after-other w.nodes call node j ne)

  -- of an older call, where the newest moves no clock past what its node had, or moves it in a call that reaches the clock
  older-comes :
      ((clock : ℕ) → node.clock < clock → clock ≤ d.clock → (h : ℕ) → h ≤ length w.past → Reaching past' call.node h clock)
      → (h : ℕ) (a : Done) → get_elem? w.past h ≡ some a → is_accepted a.output ≡ true → (clock : ℕ) → a.last < clock
      → clock ≤ clock_at (get_elem? nodes' a.node) → Reaching past' a.node h clock
  older-comes last_one h a a_at acc clock un reach = go (eq-or-ne call.node a.node)
    where
      same-node : call.node ≡ a.node → (clock ≤ node.clock) ⊎ (node.clock < clock) → Reaching past' a.node h clock
      same-node e (inl had) =
          let here : clock_at (get_elem? w.nodes a.node) ≡ node.clock = ap (λ (i : ℕ). clock_at (get_elem? w.nodes i)) (sym e) ∙ ap clock_at at in
          still-reaching w.past d a.node h clock (moves.comes h a a_at acc clock un (omega (arith, here)))
      same-node e (inr more) =
          let there : clock_at (get_elem? nodes' a.node) ≡ d.clock = ap (λ (i : ℕ). clock_at (get_elem? nodes' i)) (sym e) ∙ my-clock in
          let room : h < length w.past = get_elem?-lt w.past h a_at in
          subst (λ (i : ℕ). Reaching past' i h clock) e (last_one clock more (omega (arith, there)) h (omega arith))

      go : (call.node ≡ a.node) ⊎ (call.node ≡ a.node → ⊥) → Reaching past' a.node h clock
      go (inl e) = same-node e (elim (lt-or-ge node.clock clock) [ inl m ↦ inr m | inr m ↦ inl m ])
      go (inr ne) = still-reaching w.past d a.node h clock (moves.comes h a a_at acc clock un (omega (arith, other-clock a.node ne)))

  older-behind : node.clock ≤ d.clock → (h : ℕ) (a : Done) → get_elem? w.past h ≡ some a → is_accepted a.output ≡ true → a.clock ≤ clock_at (get_elem? nodes' a.node)
  older-behind grows h a a_at acc = go (eq-or-ne call.node a.node)
    where
      go : (call.node ≡ a.node) ⊎ (call.node ≡ a.node → ⊥) → a.clock ≤ clock_at (get_elem? nodes' a.node)
      go (inl e) =
          let had : clock_at (get_elem? w.nodes a.node) ≡ node.clock = ap (λ (i : ℕ). clock_at (get_elem? w.nodes i)) (sym e) ∙ ap clock_at at in
          let has : clock_at (get_elem? nodes' a.node) ≡ d.clock = ap (λ (i : ℕ). clock_at (get_elem? nodes' i)) (sym e) ∙ my-clock in
          omega (arith, moves.behind h a a_at acc, had, has, grows)
      go (inr ne) = omega (arith, moves.behind h a a_at acc, other-clock a.node ne)

  -- a refused call
  module _ (refused : is_accepted (output_of node call) ≡ false) where
    not-accepted : is_accepted d.output ≡ true → ⊥
    unfolding done_of
    not-accepted acc = clash acc refused

    stays : d.clock ≡ node.clock
    unfolding done_of moved_clock
    stays = rw refused

    split : (h : ℕ) {a : Done} → get_elem? past' h ≡ some a → is_accepted a.output ≡ true → get_elem? w.past h ≡ some a
    split h {a} a_at acc =
        elim (get_elem?-snoc-cases w.past d h a_at) [
          | inl q ↦ q
          | inr q ↦ absurd (not-accepted (subst (λ (x : Done). is_accepted x.output ≡ true) q.1 acc))
        ]

    moves-refused : Moves g (record { nodes = nodes'; past = past' })
    moves-refused =
        record {
          steps = λ h a a_at acc. moves.steps h a (split h a_at acc) acc;
          heeds = λ h a a_at acc e k o-at. still-heeded w.past d g h a.clock k (moves.heeds h a (split h a_at acc) acc e k o-at);
          comes = λ h a a_at acc clock un reach. older-comes (λ c more up h' le. absurd (let bad : ⊥ = omega (arith, stays) in bad)) h a (split h a_at acc) acc clock un reach;
          behind = λ h a a_at acc. older-behind (omega (arith, stays)) h a (split h a_at acc) acc;
          ordered = λ h j a b a_at b_at acc acc' same first. moves.ordered h j a b (split h a_at acc) (split j b_at acc') acc acc' same first;
        }

  -- an accepted one
  module _ (l : Schedule) (found : Node) (good : Good g floor from w) (legal : Legal g l floor w call node found d.clock) where
    is-accepted : is_accepted d.output ≡ true
    unfolding done_of
    is-accepted = legal.called.accepted

    last-is : d.last ≡ node.clock
    unfolding done_of
    last-is = refl

    call-is : d.call ≡ call
    unfolding done_of
    call-is = refl

    node-is : d.node ≡ call.node
    unfolding done_of
    node-is = refl

    stepped : (1 ≤ d.call.step) × (d.clock ≡ d.last + d.call.step)
    unfolding done_of
    stepped = (legal.called.step-pos, legal.called.turn)

    -- it reaches what lies past its last clock
    newest-reaches : (clock : ℕ) → node.clock < clock → clock ≤ d.clock → (h : ℕ) → h ≤ length w.past → Reaching past' call.node h clock
    newest-reaches clock more up h le =
        record {
          call = length w.past;
          done = d;
          at = newest w.past d;
          accepted = is-accepted;
          mine = node-is;
          later = le;
          before = omega (arith, last-is, more);
          reached = up;
        }

    newest-heeds : (e k : ℕ) → get_elem? call.sources e ≡ some (sent_by k) → Heeded g past' (length w.past) d.clock k
    newest-heeds e k o-at = go (entry-at g l floor from settles w call node found d.clock good legal e bytes (sent_by k) bytes-at o-at)
      where
        bytes : List ℕ
        bytes = get_or (batch_entries call.batch) e []

        bytes-at : get_elem? (batch_entries call.batch) e ≡ some bytes
        bytes-at = get_elem?-in (batch_entries call.batch) e [] (let in-sources : e < length call.sources = get_elem?-lt call.sources e o-at in omega (arith, legal.lengths))

        go : (m : Done) × Arrival g floor w.nodes w.past d.clock k m × (bytes ≡ message_bytes m) → Heeded g past' (length w.past) d.clock k
        go (m, arrival, rest) =
            record { message = m; at = still w.past d k arrival.at; sent-before = get_elem?-lt w.past k arrival.at; undue = arrival.undue }

    moves-accepted : Moves g (record { nodes = nodes'; past = past' })
    moves-accepted =
        record {
          steps = λ h a a_at acc. elim (get_elem?-snoc-cases w.past d h a_at) [
            | inl q ↦ moves.steps h a q acc
            | inr q ↦ subst (λ (x : Done). (1 ≤ x.call.step) × (x.clock ≡ x.last + x.call.step)) (sym q.1) stepped
          ];
          heeds = λ h a a_at acc e k o-at. elim (get_elem?-snoc-cases w.past d h a_at) [
            | inl q ↦ still-heeded w.past d g h a.clock k (moves.heeds h a q acc e k o-at)
            | inr q ↦ heeds-last h a q.0 q.1 e k o-at
          ];
          comes = λ h a a_at acc clock un reach. elim (get_elem?-snoc-cases w.past d h a_at) [
            | inl q ↦ older-comes newest-reaches h a q acc clock un reach
            | inr q ↦ comes-last h a q.0 q.1 clock un reach
          ];
          behind = λ h a a_at acc. elim (get_elem?-snoc-cases w.past d h a_at) [
            | inl q ↦ older-behind grows h a q acc
            | inr q ↦ subst (λ (x : Done). x.clock ≤ clock_at (get_elem? nodes' x.node)) (sym q.1) (omega (arith, my-clock, ap (λ (i : ℕ). clock_at (get_elem? nodes' i)) node-is))
          ];
          ordered = λ h j a b a_at b_at acc acc' same first. elim (get_elem?-snoc-cases w.past d j b_at) [
            | inl q ↦ moves.ordered h j a b (front h a_at (let room : j < length w.past = get_elem?-lt w.past j q in omega arith)) q acc acc' same first
            | inr q ↦ ordered-last h a b (front h a_at (omega (arith, q.0))) acc same q.1
          ];
        }
      where
        grows : node.clock ≤ d.clock
        grows = omega (arith, stepped.1, last-is)

        front : (h : ℕ) {a : Done} → get_elem? past' h ≡ some a → h < length w.past → get_elem? w.past h ≡ some a
        front h a_at room = sym (get_elem?-append w.past (d ∷ []) h room) ∙ a_at

        ordered-last : (h : ℕ) (a b : Done) → get_elem? w.past h ≡ some a → is_accepted a.output ≡ true → a.node ≡ b.node → b ≡ d → a.clock ≤ b.last
        ordered-last h a b a_at acc same is-d =
            let mine : a.node ≡ call.node = same ∙ (ap (λ (x : Done). x.node) is-d ∙ node-is) in
            let had : clock_at (get_elem? w.nodes a.node) ≡ node.clock = ap (λ (i : ℕ). clock_at (get_elem? w.nodes i)) mine ∙ ap clock_at at in
            omega (arith, moves.behind h a a_at acc, had, ap (λ (x : Done). x.last) is-d, last-is)

        heeds-last : (h : ℕ) (a : Done) → h ≡ length w.past → a ≡ d → (e k : ℕ) → get_elem? a.call.sources e ≡ some (sent_by k) → Heeded g past' h a.clock k
        heeds-last h a here same e k o-at =
            subst (λ (n : ℕ). Heeded g past' n a.clock k) (sym here)
            (subst (λ (x : Done). Heeded g past' (length w.past) x.clock k) (sym same)
            (newest-heeds e k (ap (λ (c : Call). get_elem? c.sources e) (sym call-is) ∙ (ap (λ (x : Done). get_elem? x.call.sources e) (sym same) ∙ o-at))))

        comes-last : (h : ℕ) (a : Done) → h ≡ length w.past → a ≡ d → (clock : ℕ) → a.last < clock → clock ≤ clock_at (get_elem? nodes' a.node) → Reaching past' a.node h clock
        comes-last h a here same clock un reach =
            let mine : a.node ≡ call.node = ap (λ (x : Done). x.node) same ∙ node-is in
            let past-last : node.clock < clock = omega (arith, un, ap (λ (x : Done). x.last) same, last-is) in
            let there : clock_at (get_elem? nodes' a.node) ≡ d.clock = ap (λ (i : ℕ). clock_at (get_elem? nodes' i)) mine ∙ my-clock in
            subst (λ (i : ℕ). Reaching past' i h clock) (sym mine) (newest-reaches clock past-last (omega (arith, there, reach)) h (omega (arith, here)))

-- ---- along the whole list

module _ (g : Schedule) (floor from : ℕ) (settles : Settles g floor from) where
  one_more : (w : World) (call : Call) → Good g floor from w → Moves g w → Allowed g floor from settles w call → Moves g (act w call)
  one_more w call good moves (node, at, inl refused) = subst (Moves g) (sym (act-is w call node at)) (moves-refused g floor from settles w call node at moves refused)
  one_more w call good moves (node, at, inr (l, found, legal)) =
      subst (Moves g) (sym (act-is w call node at)) (moves-accepted g floor from settles w call node at moves l found good legal)

  all-moves : (calls : List Call) (w : World) → Good g floor from w → AllKept g from w.past → Moves g w → Legals g floor from settles w calls
      → Good g floor from (run_from w calls) × Moves g (run_from w calls)
  unfolding run_from Legals
  all-moves [] w good kept moves legals = (good, moves)
  all-moves (call ∷ calls) w good kept moves legals =
      let r = step-all g floor from settles w call good kept legals.0 in
      all-moves calls (act w call) r.0 r.1 (one_more w call good moves legals.0) legals.1

no-moves : (g : Schedule) (nodes : List Node) → Moves g (at_start nodes)
unfolding at_start
no-moves g nodes =
    record {
      steps = λ h d at acc. absurd (nothing h at);
      heeds = λ h d at acc e k o-at. absurd (nothing h at);
      comes = λ h d at acc clock un reach. absurd (nothing h at);
      behind = λ h d at acc. absurd (nothing h at);
      ordered = λ h j a d a_at d-at acc acc' same first. absurd (nothing h a_at);
    }
  where
    nothing : (h : ℕ) {d : Done} → get_elem? [] h ≡ some d → ⊥
    nothing h at = let z : h < 0 = get_elem?-lt [] h at in omega arith

-- ---- what a board hands out

module _ (g : Schedule) (floor from : ℕ) (w : World) (good : Good g floor from w) (moves : Moves g w) where
  limits : (k : ℕ) (m : Done) → get_elem? w.past k ≡ some m → sends m ≡ true → GoodSchedule g
  limits k m at sent = let mk = (good.calls k m at (sends-event m sent)).maker in good.group.limits m.node mk.node mk.at

  due-is : (k : ℕ) (m : Done) → get_elem? w.past k ≡ some m → sends m ≡ true → due_clock_along g m ≡ event_due g m
  unfolding sum
  due-is k m at sent = due-clock g m ∙ ap (λ (f : Frame). due_along g (m.clock + f.stamp.c)) ((good.calls k m at (sends-event m sent)).event.message sent)

  -- the sum of a message lies less than ε past its clock
  sum_near_lem : (k : ℕ) (m : Done) → get_elem? w.past k ≡ some m → sends m ≡ true → (event_frame g m).stamp.c < (widest_of g).epsilon
  sum_near_lem k m at sent =
      omega (arith, (good.calls k m at (sends-event m sent)).event.frame.sound.close, (limits-widest g (limits k m at sent) m.clock).0)

  -- the call in which it was heard
  pub record HeardAt (node k : ℕ) (m : Done) : Type 0 where
    pub call : ℕ
    pub done : Done
    pub at : get_elem? w.past call ≡ some done
    pub accepted : is_accepted done.output ≡ true
    pub mine : done.node ≡ node
    pub heard : heard_in node k done ≡ true
    pub sent-before : k < call
    pub undue : done.clock ≤ event_due g m

  from-source : (k : ℕ) (o : Source) → is_from k o ≡ true → o ≡ sent_by k
  unfolding is_from
  from-source k (sent_by j) e = ap sent_by (sym (eqb-true k j e))
  from-source k stale e = absurd (clash e refl)

  heard-at : (node k : ℕ) (m : Done) → get_elem? w.past k ≡ some m → any (heard_in node k) w.past ≡ true → HeardAt node k m
  unfolding heard_in
  heard-at node k m m-at heard =
      let r = any-mem (heard_in node k) w.past heard in
      let position = mem-get_elem? r.1 in
      let acc = and_left (is_accepted r.0.output) (eqb r.0.node node && any (is_from k) r.0.call.sources) r.2 in
      let rest = and_right (is_accepted r.0.output) (eqb r.0.node node && any (is_from k) r.0.call.sources) r.2 in
      let source = any-mem (is_from k) r.0.call.sources (and_right (eqb r.0.node node) (any (is_from k) r.0.call.sources) rest) in
      let place = mem-get_elem? source.1 in
      let heeded = moves.heeds position.0 r.0 position.1 acc place.0 k (place.1 ∙ ap some (from-source k source.0 source.2)) in
      let same : heeded.message ≡ m = some_inj (sym heeded.at ∙ m-at) in
      record {
        call = position.0;
        done = r.0;
        at = position.1;
        accepted = acc;
        mine = eqb-true r.0.node node (and_left (eqb r.0.node node) (any (is_from k) r.0.call.sources) rest);
        heard = r.2;
        sent-before = heeded.sent-before;
        undue = subst (λ (x : Done). r.0.clock ≤ event_due g x) same heeded.undue;
      }

  -- a message that is heard, in the call that comes to its due clock
  pub record OnBoard (node : ℕ) (m : Done) : Type 0 where
    pub call : ℕ
    pub done : Done
    pub place : ℕ
    pub shown : ShownAt g from w.past node m call done place
    pub before : done.last < event_due g m
    pub reached : event_due g m ≤ done.clock

  on-board :
      (node k : ℕ) (m : Done) → get_elem? w.past k ≡ some m → covered from m ≡ true → any (heard_in node k) w.past ≡ true
      → event_due g m ≤ clock_at (get_elem? w.nodes node) → OnBoard node m
  on-board node k m m-at cov heard due =
      let x = heard-at node k m m-at heard in
      let stepped = moves.steps x.call x.done x.at x.accepted in
      let due-here : event_due g m ≤ clock_at (get_elem? w.nodes x.done.node) = subst (λ (i : ℕ). event_due g m ≤ clock_at (get_elem? w.nodes i)) (sym x.mine) due in
      go x (moves.comes x.call x.done x.at x.accepted (event_due g m) (omega (arith, x.undue, stepped.0, stepped.1)) due-here)
    where
      sent : sends m ≡ true
      sent = covered-sends from m cov

      go : (x : HeardAt node k m) → Reaching w.past x.done.node x.call (event_due g m) → OnBoard node m
      go x y = shown-there (mem-get_elem? (mem-sort_by (earlier_along g) listed))
        where
          front : List Done
          front = take (y.call + 1) w.past

          test : ℕ → Done → Bool
          test i n = covered from n && (due_in_along g y.done.last y.done.clock n && any (heard_in y.done.node i) front)

          board : y.done.node ≡ node
          board = y.mine ∙ x.mine

          due_in_lem : due_in_along g y.done.last y.done.clock m ≡ true
          due_in_lem =
              unfold due_in_along in (
              and_intro (lt-ltb y.done.last (due_clock_along g m) (omega (arith, due-is k m m-at sent, y.before)))
              (le-leb (due_clock_along g m) y.done.clock (omega (arith, due-is k m m-at sent, y.reached)))
              )

          heard-there : any (heard_in y.done.node k) front ≡ true
          heard-there =
              any-of-mem (heard_in y.done.node k) (get_elem?-mem front x.call (in_take (y.call + 1) w.past x.call (omega (arith, y.later)) x.at))
              (subst (λ (i : ℕ). heard_in i k x.done ≡ true) (sym board) x.heard)

          listed : Memᴰ m (due_here_along g from front y.done.node y.done.last y.done.clock)
          listed =
              unfold due_here_along in (
              mem-select_from-zero test front k (in_take (y.call + 1) w.past k (omega (arith, y.later, x.sent-before)) m-at)
              (and_intro cov (and_intro due_in_lem heard-there))
              )

          shown-there : (p : ℕ) × (get_elem? (sort_by (earlier_along g) (due_here_along g from front y.done.node y.done.last y.done.clock)) p ≡ some m) → OnBoard node m
          shown-there (p, at) =
              record {
                call = y.call;
                done = y.done;
                place = p;
                shown = record { at = y.at; accepted = y.accepted; board = board; place = unfold shown_by in at };
                before = y.before;
                reached = y.reached;
              }

  -- what a call hands out is covered, and due in it
  pub record Listed (m : Done) (d : Done) : Type 0 where
    pub position : ℕ
    pub at : get_elem? w.past position ≡ some m
    pub sent : sends m ≡ true
    pub before : d.last < event_due g m
    pub reached : event_due g m ≤ d.clock

  due-bounds : (last v : ℕ) (m : Done) → due_in_along g last v m ≡ true → (last < due_clock_along g m) × (due_clock_along g m ≤ v)
  unfolding due_in_along
  due-bounds last v m h = (
    ltb-true last (due_clock_along g m) (and_left (ltb last (due_clock_along g m)) (leb (due_clock_along g m) v) h),
    leb-true (due_clock_along g m) v (and_right (ltb last (due_clock_along g m)) (leb (due_clock_along g m) v) h),
  )

  listed_at : (node : ℕ) (m : Done) (j : ℕ) (d : Done) (q : ℕ) → ShownAt g from w.past node m j d q → Listed m d
  listed_at node m j d q shown =
      let r : (k : ℕ) × (get_elem? front k ≡ some m) × (test k m ≡ true) = mem-of-select_from-zero test front selected in
      let at : get_elem? w.past r.0 ≡ some m = of-take (j + 1) w.past r.0 r.1 in
      let sent : sends m ≡ true = covered-sends from m (and_left (covered from m) (due_in_along g d.last d.clock m && any (heard_in d.node r.0) front) r.2) in
      let due = and_left (due_in_along g d.last d.clock m) (any (heard_in d.node r.0) front) (and_right (covered from m) (due_in_along g d.last d.clock m && any (heard_in d.node r.0) front) r.2) in
      record {
        position = r.0;
        at = at;
        sent = sent;
        before = omega (arith, (due-bounds d.last d.clock m due).0, due-is r.0 m at sent);
        reached = omega (arith, (due-bounds d.last d.clock m due).1, due-is r.0 m at sent);
      }
    where
      front : List Done
      front = take (j + 1) w.past

      test : ℕ → Done → Bool
      test i n = covered from n && (due_in_along g d.last d.clock n && any (heard_in d.node i) front)

      placed : get_elem? (sort_by (earlier_along g) (due_here_along g from front d.node d.last d.clock)) q ≡ some m
      placed = unfold shown_by in shown.place

      selected : Memᴰ m (select_from test 0 front)
      selected =
          unfold due_here_along in (
          mem-of-sort_by (earlier_along g) (due_here_along g from front d.node d.last d.clock)
          (get_elem?-mem (sort_by (earlier_along g) (due_here_along g from front d.node d.last d.clock)) q placed)
          )

  -- ---- the two promises

  -- the sum of the first is smaller
  sooner-due :
      (k k' : ℕ) (m m' : Done) → get_elem? w.past k ≡ some m → get_elem? w.past k' ≡ some m' → sends m ≡ true → sends m' ≡ true
      → m.clock + (widest_of g).epsilon ≤ m'.clock → (m.clock + (event_frame g m).stamp.c < m'.clock + (event_frame g m').stamp.c) × (event_due g m < event_due g m')
  sooner-due k k' m m' at at' sent sent' far =
      let smaller : m.clock + (event_frame g m).stamp.c < m'.clock + (event_frame g m').stamp.c = omega (arith, sum_near_lem k m at sent) in
      (smaller, due-later g (limits k m at sent) (m.clock + (event_frame g m).stamp.c) (m'.clock + (event_frame g m').stamp.c) smaller)

  earlier-is :
      (k k' : ℕ) (m m' : Done) → get_elem? w.past k ≡ some m → get_elem? w.past k' ≡ some m' → sends m ≡ true → sends m' ≡ true
      → m.clock + (event_frame g m).stamp.c < m'.clock + (event_frame g m').stamp.c → less_by (message_key_along g) m m' ≡ true
  unfolding message_key_along wider_key sum
  earlier-is k k' m m' at at' sent sent' smaller =
      rw ((good.calls k m at (sends-event m sent)).event.message sent, (good.calls k' m' at' (sends-event m' sent')).event.message sent')
      (lt-is_less (lex-head-lt _ _ _ _ smaller))

  far_apart : FarApart g from w.past
  far_apart node k m m' m-at cov heard far j d q shown =
      let x = listed_at node m' j d q shown in
      let sent : sends m ≡ true = covered-sends from m cov in
      let first = sooner-due k x.position m m' m-at x.at sent x.sent far in
      let reach : event_due g m ≤ clock_at (get_elem? w.nodes node) =
      subst (λ (i : ℕ). event_due g m ≤ clock_at (get_elem? w.nodes i)) shown.board (omega (arith, first.1, x.reached, moves.behind j d shown.at shown.accepted)) in
      let out = on-board node k m m-at cov heard reach in
      record {
        call = out.call;
        done = out.done;
        place = out.place;
        shown = out.shown;
        first = go x sent out first.0 first.1 (lt-or-ge j out.call) (eq-or-ne out.call j);
      }
    where
      go :
          Listed m' d → sends m ≡ true → (out : OnBoard node m) → m.clock + (event_frame g m).stamp.c < m'.clock + (event_frame g m').stamp.c
          → event_due g m < event_due g m' → (j < out.call) ⊎ (out.call ≤ j) → (out.call ≡ j) ⊎ (out.call ≡ j → ⊥)
          → (out.call < j) ⊎ ((out.call ≡ j) × (out.place < q))
      go x sent out smaller sooner (inl late) e =
          let after : d.clock ≤ out.done.last =
          moves.ordered j out.call d out.done shown.at out.shown.at shown.accepted out.shown.accepted (shown.board ∙ sym out.shown.board) late in
          absurd (omega (arith, after, out.before, sooner, x.reached))
      go x sent out smaller sooner (inr early) (inr ne) = inl (omega arith)
      go x sent out smaller sooner (inr early) (inl e) = inr (e, place-first)
        where
          same : out.done ≡ d
          same = some_inj (sym out.shown.at ∙ (ap (get_elem? w.past) e ∙ shown.at))

          here : List Done
          here = due_here_along g from (take (j + 1) w.past) d.node d.last d.clock

          mine : get_elem? (sort_by (less_by (message_key_along g)) here) out.place ≡ some m
          mine =
              unfold shown_by earlier_along in (
              subst (λ (i : ℕ). get_elem? (shown_by g from w.past i d) out.place ≡ some m) e
              (subst (λ (a : Done). get_elem? (shown_by g from w.past out.call a) out.place ≡ some m) same out.shown.place)
              )

          theirs : get_elem? (sort_by (less_by (message_key_along g)) here) q ≡ some m'
          theirs = unfold shown_by earlier_along in shown.place

          place-first : out.place < q
          place-first = earlier-place (message_key_along g) here out.place q mine theirs (earlier-is k x.position m m' m-at x.at sent x.sent smaller)

  -- a step of a board that takes none above `most` ticks
  few-ticks : (node most : ℕ) → steps_up_to node most w.past ≡ true → (i : ℕ) (a : Done) → get_elem? w.past i ≡ some a → is_accepted a.output ≡ true → a.node ≡ node → a.call.step ≤ most
  unfolding steps_up_to
  few-ticks node most few i a at acc mine =
      let one : (not (is_accepted a.output && eqb a.node node) || leb a.call.step most) ≡ true =
      every-mem (λ (x : Done). not (is_accepted x.output && eqb x.node node) || leb x.call.step most) few (get_elem?-mem w.past i at) in
      leb-true a.call.step most (rw (acc, eq-eqb a.node node mine) at one)

  soon-enough : SoonEnough g from w
  unfolding shown_until
  soon-enough node most k m few m-at cov heard reach =
      let sent : sends m ≡ true = covered-sends from m cov in
      let latest : event_due g m ≤ m.clock + (event_frame g m).stamp.c + (widest_of g).delta + (widest_of g).epsilon =
      due-most g (limits k m m-at sent) (m.clock + (event_frame g m).stamp.c) in
      let near = sum_near_lem k m m-at sent in
      let out = on-board node k m m-at cov heard (omega (arith, latest, near, reach)) in
      let stepped = moves.steps out.call out.done out.shown.at out.shown.accepted in
      let ticks = few-ticks node most few out.call out.done out.shown.at out.shown.accepted out.shown.board in
      record {
        call = out.call;
        done = out.done;
        place = out.place;
        shown = out.shown;
        sooner = omega (arith, out.before, latest, near, stepped.0, stepped.1, ticks);
      }

  showing-all : PromisedAlong g from w.past → Showing g from w
  showing-all promised = record { delivering = λ j d at acc. unfold shown_by in (promised.delivering j d at acc); far = far_apart; soon = soon-enough }

-- ---- of every list of demand 3

run-shows : (g : Schedule) (floor from : ℕ) (nodes : List Node) (calls : List Call) → Runs g floor from nodes calls → Showing g from (run_from (at_start nodes) calls)
run-shows g floor from nodes calls runs =
    let r = all-moves g floor from runs.right calls (at_start nodes) runs.start (none_kept g from nodes) (no-moves g nodes) runs.legal in
    showing-all g floor from (run_from (at_start nodes) calls) r.0 r.1 (run-promises g floor from nodes calls runs)

pub shows : Shows
shows s nodes calls start kept = run-shows (steady s) _ _ nodes calls (runs-plain s nodes calls start kept)

pub shows-fresh : ShowsFresh
shows-fresh s nodes calls start fresh kept none_old = run-shows (steady s) _ _ nodes calls (runs-fresh s nodes calls start fresh kept none_old)

pub shows-through : ShowsThrough
unfolding covered_through
shows-through y nodes phases calls start kept = run-shows (along_all y) _ _ nodes calls (runs-through y nodes phases calls start kept)

pub shows-fresh-through : ShowsFreshThrough
shows-fresh-through y nodes phases calls start fresh kept none_old = run-shows (along_all y) _ _ nodes calls (runs-fresh-through y nodes phases calls start fresh kept none_old)
