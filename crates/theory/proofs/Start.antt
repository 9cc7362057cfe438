-- The tests of the premises as facts: the nodes at the start, and each call that is allowed.
-- Assumes nothing.
use Prim.Native.Nat.{ℕ, zero, suc, ◌+◌, ◌%◌, ◌≤◌, ◌<◌}
use native.Mathlib.Omega.{arith}
use mathlib.Core.Path.{◌≡◌, refl, sym, ap, subst, ◌∙◌}
use mathlib.Core.Logic.{◌⊎◌, inl, inr}
use mathlib.Core.Bool.{Bool, true, false, ◌&&◌, ◌||◌, not}
use mathlib.Core.List.{List, [], ◌∷◌, Memᴰ}
use mathlib.Core.Option.{Option, none, some}
use lib.Dec.{leb, ltb, eqb}
use lib.ListN.{length, get_or, get_elem?}
use borrow.Author.Tests.{leb-true, ltb-true, eqb-true, eq-eqb}
use Rattle.laws.specs.Lists.{within, every, any, select, same_list}
use Rattle.laws.proofs.Numbers.{eq-or-ne, lt-or-gt, clash, and_intro, and_left, and_right, or_cases, false_of_not, not_of_false}
use Rattle.laws.proofs.Lists.{count_of, every-mem, mem-of-select, get_elem?-mem, get_elem?-lt, get_elem?-get_or, largest-map-mem, same_list-true}
use Rattle.laws.proofs.Sorted.{pairwise-ext, pairwise-of-apart, apart-index, apart-select, pigeonhole}
use Rattle.model.specs.Setup.{Setup, in_limits, is_member, holdback_length}
use Rattle.model.specs.Batch.{batch_entries}
use Rattle.model.specs.Tick.{holdback_size}
use Rattle.model.specs.Schedule.{Schedule, steady, widest_of, Wider}
use Rattle.model.specs.Run.{Node, Source, sent_by, stale, Call, Done, World, is_accepted, output_of, done_of, moved_clock, act, at_start, sends, message_bytes}
use Rattle.theory.specs.Premises.{same_setup, together, distinct, valid_for, exact_holdback, good_start, largest_clock, stale_until, heard_in_time, entry_allowed, entries_allowed, one_setup, is_plain, plain_call, true_clock, step_allowed, hears_allowed, accepted_well, allowed_for, allowed}
use Rattle.lemmas.proofs.Questions.{limits-from}
use Rattle.lemmas.proofs.Bounds.{Limits}
use Rattle.theory.proofs.Reach.{is_station}
use Rattle.theory.proofs.World.{heard_at, Group, Good, SentEntry, EntryOk, Due-call}
use Rattle.theory.proofs.Plain.{PlainLegal, called-plain}

-- the nodes, by the tests
pub together-fact : (epsilon : ℕ) (nodes : List Node) → together epsilon nodes ≡ true → (i j : ℕ) (a b : Node) → get_elem? nodes i ≡ some a → get_elem? nodes j ≡ some b → a.clock ≤ b.clock + epsilon
unfolding together
together-fact epsilon nodes h i j a b p q =
    leb-true a.clock (b.clock + epsilon)
    (every-mem (λ y. leb a.clock (y.clock + epsilon)) (every-mem (λ x. every (λ y. leb x.clock (y.clock + epsilon)) nodes) h (get_elem?-mem nodes i p)) (get_elem?-mem nodes j q))

abbrev same_station : Node → Node → Bool
same_station a b = not a.listens && (not b.listens && eqb a.own b.own)

pub distinct-fact :
    (nodes : List Node) → distinct nodes ≡ true → (i j : ℕ) (a b : Node) → get_elem? nodes i ≡ some a → get_elem? nodes j ≡ some b
    → a.listens ≡ false → b.listens ≡ false → a.own ≡ b.own → i ≡ j
unfolding distinct
distinct-fact nodes h i j a b p q x y o =
    elim (eq-or-ne i j) [
      | inl e ↦ e
      | inr ne ↦ elim (lt-or-gt i j ne) [
        | inl k ↦ absurd (apart-here i j a b k p q x y o)
        | inr k ↦ absurd (apart-here j i b a k q p y x (sym o))
      ]
    ]
  where
    apart-here : (i j : ℕ) (a b : Node) → i < j → get_elem? nodes i ≡ some a → get_elem? nodes j ≡ some b → a.listens ≡ false → b.listens ≡ false → a.own ≡ b.own → ⊥
    apart-here i j a b k p q x y o =
        let e : same_station (get_or nodes i a) (get_or nodes j a) ≡ false = apart-index same_station nodes a h i j k (get_elem?-lt nodes j q) in
        let same : same_station a b ≡ true = and_intro (not_of_false x) (and_intro (not_of_false y) (eq-eqb a.own b.own o)) in
        clash same (rw (get_elem?-get_or nodes i a p, get_elem?-get_or nodes j a q) at e)

-- no more stations than n
pub stations-few :
    (s : Setup) (nodes : List Node) → distinct nodes ≡ true → ((node : Node) → Memᴰ node nodes → node.listens ≡ false → node.own < s.n)
    → count_of is_station nodes ≤ s.n
unfolding distinct count_of
stations-few s nodes h below =
    pigeonhole (λ (node : Node). node.own) s.n (select is_station nodes)
    (λ node m. let r = mem-of-select is_station nodes m in below node r.0 (false_of_not node.listens r.1))
    (sym (pairwise-ext (λ x y. not (same_station x y)) (λ x y. not (eqb x.own y.own)) (select is_station nodes) alike)
    ∙ pairwise-of-apart same_station (select is_station nodes) (apart-select same_station is_station nodes h))
  where
    alike : (x y : Node) → Memᴰ x (select is_station nodes) → Memᴰ y (select is_station nodes) → not (same_station x y) ≡ not (eqb x.own y.own)
    alike x y m k = rw ((mem-of-select is_station nodes m).1, (mem-of-select is_station nodes k).1) refl

pub group-start : (s : Setup) (nodes : List Node) → good_start s nodes ≡ true → Group (steady s) nodes
unfolding good_start valid_for exact_holdback is_member
group-start s nodes h =
    record {
      limits = λ i node at. (valid node (get_elem?-mem nodes i at)).0;
      distinct = distinct-fact nodes apart-nodes;
      together = together-fact s.epsilon nodes (and_left (together s.epsilon nodes) lengths rest);
      few = stations-few s nodes apart-nodes (λ node mem station. (valid node mem).1 station);
    }
  where
    lengths : Bool
    lengths = every (λ node. eqb (length node.holdback) (holdback_size s)) nodes

    tests : (distinct nodes && (together s.epsilon nodes && lengths)) ≡ true
    tests = and_right (every (valid_for s) nodes) (distinct nodes && (together s.epsilon nodes && lengths)) h

    apart-nodes : distinct nodes ≡ true
    apart-nodes = and_left (distinct nodes) (together s.epsilon nodes && lengths) tests

    rest : (together s.epsilon nodes && lengths) ≡ true
    rest = and_right (distinct nodes) (together s.epsilon nodes && lengths) tests

    valid : (node : Node) → Memᴰ node nodes → Limits s × (node.listens ≡ false → node.own < s.n)
    valid node mem =
        let test : (in_limits s && (node.listens || ltb node.own s.n)) ≡ true =
        every-mem (valid_for s) (and_left (every (valid_for s) nodes) (distinct nodes && (together s.epsilon nodes && lengths)) h) mem in (
          limits-from s (and_left (in_limits s) (node.listens || ltb node.own s.n) test),
          λ station. elim (or_cases node.listens (ltb node.own s.n) (and_right (in_limits s) (node.listens || ltb node.own s.n) test)) [
            | inl q ↦ absurd (clash q station)
            | inr q ↦ ltb-true node.own s.n q
          ],
        )

-- a shelf has its length
pub exact-start : (s : Setup) (nodes : List Node) → good_start s nodes ≡ true → (node : Node) → Memᴰ node nodes → 2 ≤ length node.holdback
unfolding good_start exact_holdback holdback_length
exact-start s nodes h node mem =
    let tests = and_right (every (valid_for s) nodes) _ h in
    let rest = and_right (distinct nodes) _ tests in
    let exact = and_right (together s.epsilon nodes) _ rest in
    let size : length node.holdback ≡ holdback_size s = eqb-true (length node.holdback) (holdback_size s) (every-mem (λ (a : Node). eqb (length a.holdback) (holdback_size s)) exact mem) in
    omega arith

-- a start at which no node has passed the bounds
pub good_start_lem :
    (g : Schedule) (floor from : ℕ) (nodes : List Node) → Group g nodes
    → ((i : ℕ) (node : Node) → get_elem? nodes i ≡ some node → node.clock + (widest_of g).epsilon + (widest_of g).epsilon ≤ floor)
    → Good g floor from (at_start nodes)
unfolding at_start heard_at any
good_start_lem g floor from nodes group early =
    record {
      group = group;
      node = λ i node at. inl (record { early = early i node at; unheard = λ k. refl; uncalled = λ k d at'. absurd (nothing k d at') });
      calls = λ k d at. absurd (nothing k d at);
      unique = λ k l a b p. absurd (nothing k a p);
      kinds = λ k d at. absurd (nothing k d at);
      heard-before = λ i k e. absurd (clash e refl);
    }
  where
    nothing : (k : ℕ) (d : Done) → ◌≡◌ {A = Option Done} (get_elem? [] k) (some d) → ⊥
    nothing k d e = omega (arith, get_elem?-lt {A = Done} [] k e)

pub largest-clock : (nodes : List Node) (i : ℕ) (node : Node) → get_elem? nodes i ≡ some node → node.clock ≤ largest_clock nodes
unfolding largest_clock
largest-clock nodes i node at = largest-map-mem (λ (x : Node). x.clock) (get_elem?-mem nodes i at)

-- one setup
pub same-setup : (s t : Setup) → same_setup s t ≡ true → s ≡ t
unfolding same_setup
same-setup s t h =
    let h1 = and_right (eqb s.n t.n) _ h in
    let h2 = and_right (eqb s.epsilon t.epsilon) _ h1 in
    let n-is = eqb-true s.n t.n (and_left (eqb s.n t.n) _ h) in
    let epsilon-is = eqb-true s.epsilon t.epsilon (and_left (eqb s.epsilon t.epsilon) _ h1) in
    let delta-is = eqb-true s.delta t.delta (and_left (eqb s.delta t.delta) _ h2) in
    let modulus-is = eqb-true s.modulus t.modulus (and_right (eqb s.delta t.delta) _ h2) in
    λ i. record { n = n-is i; epsilon = epsilon-is i; delta = delta-is i; modulus = modulus-is i }

-- the entries, one by one
entries-lengths : (s : Setup) (x : ℕ) (past : List Done) (nodes : List Node) (v : ℕ) (es : List (List ℕ)) (os : List Source) → entries_allowed s x past nodes v es os ≡ true → length es ≡ length os
unfolding entries_allowed
entries-lengths s x past nodes v [] [] h = refl
entries-lengths s x past nodes v [] (o ∷ os) h = absurd (clash h refl)
entries-lengths s x past nodes v (e ∷ es) [] h = absurd (clash h refl)
entries-lengths s x past nodes v (e ∷ es) (o ∷ os) h =
    ap suc (entries-lengths s x past nodes v es os (and_right (entry_allowed s x past nodes v e o) (entries_allowed s x past nodes v es os) h))

entries_at :
    (s : Setup) (x : ℕ) (past : List Done) (nodes : List Node) (v : ℕ) (es : List (List ℕ)) (os : List Source) → entries_allowed s x past nodes v es os ≡ true
    → (k : ℕ) (e : List ℕ) (o : Source) → get_elem? es k ≡ some e → get_elem? os k ≡ some o → entry_allowed s x past nodes v e o ≡ true
unfolding entries_allowed
entries_at s x past nodes v [] os h k e o p q = let z : k < 0 = get_elem?-lt [] k p in absurd (omega arith)
entries_at s x past nodes v (e ∷ es) [] h k b o p q = absurd (clash h refl)
entries_at s x past nodes v (e ∷ es) (o ∷ os) h zero b o' p q =
    let a : e ≡ b = cc in
    let c : o ≡ o' = cc in
    subst (λ (y : Source). entry_allowed s x past nodes v b y ≡ true) c
    (subst (λ (y : List ℕ). entry_allowed s x past nodes v y o ≡ true) a (and_left (entry_allowed s x past nodes v e o) (entries_allowed s x past nodes v es os) h))
entries_at s x past nodes v (e ∷ es) (o ∷ os) h (suc k) b o' p q =
    entries_at s x past nodes v es os (and_right (entry_allowed s x past nodes v e o) (entries_allowed s x past nodes v es os) h) k b o' p q

-- one entry
pub entry-fact :
    (s : Setup) (x floor : ℕ) (past : List Done) (nodes : List Node) (v : ℕ) (bytes : List ℕ) (o : Source)
    → (v ≤ stale_until s x → v + s.epsilon ≤ floor) → entry_allowed s x past nodes v bytes o ≡ true → EntryOk (steady s) floor past nodes v bytes o
entry-fact s x floor past nodes v bytes stale early h = early (leb-true v (stale_until s x) h)
entry-fact s x floor past nodes v bytes (sent_by k) early h = go (get_elem? past k) refl h
  where
    go : (d : Option Done) → get_elem? past k ≡ d → heard_in_time s nodes bytes d ≡ true → SentEntry (steady s) past nodes bytes k
    go none e t = absurd (clash t refl)
    go (some m) e t =
        let a = and_right (sends m) _ t in
        record {
          message = m;
          at = e;
          sent = and_left (sends m) _ t;
          bytes = same_list-true bytes (message_bytes m) (and_left (same_list bytes (message_bytes m)) _ a);
          near_by = leb-true _ _ (and_right (same_list bytes (message_bytes m)) _ a);
        }

moved : (node : Node) (call : Call) → is_accepted (output_of node call) ≡ true → (done_of node call).clock ≡ node.clock + call.step
unfolding done_of moved_clock
moved node call acc = rw acc refl

-- a plain setup has no wider pair
plain-fact : (w : Option Wider) → is_plain w ≡ true → w ≡ none
plain-fact none h = refl
plain-fact (some w) h = absurd (clash h refl)

-- an accepted call that is allowed
legal-fact :
    (s : Setup) (x floor : ℕ) (w : World) (call : Call) (node : Node) → ((v : ℕ) → v ≤ stale_until s x → v + s.epsilon ≤ floor)
    → get_elem? w.nodes call.node ≡ some node → is_accepted (output_of node call) ≡ true → accepted_well s x w call (done_of node call) ≡ true → PlainLegal s floor w call node (done_of node call).clock
unfolding accepted_well plain_call one_setup true_clock step_allowed within hears_allowed
legal-fact s x floor w call node early at acc h =
    record {
      called = due;
      along =
          record {
            at = at;
            called = called-plain s node call due;
            widths = inr (λ memory explained f m. refl);
            together = together-fact s.epsilon (act w call).nodes (and_left (together s.epsilon (act w call).nodes) E h3);
            lengths = entries-lengths s x w.past (act w call).nodes (done_of node call).clock (batch_entries call.batch) call.sources entries;
            entry = λ e bytes o p q.
                entry-fact s x floor w.past (act w call).nodes (done_of node call).clock bytes o (early (done_of node call).clock)
                (entries_at s x w.past (act w call).nodes (done_of node call).clock (batch_entries call.batch) call.sources entries e bytes o p q);
          };
    }
  where
    E : Bool
    E = entries_allowed s x w.past (act w call).nodes (done_of node call).clock (batch_entries call.batch) call.sources

    C : Bool
    C = eqb call.clock ((done_of node call).clock % s.modulus)

    S : Bool
    S = same_setup call.setup s && ((done_of node call).listens || eqb call.own (done_of node call).own)

    K : Bool
    K = leb 1 call.step && leb call.step s.epsilon

    P : Bool
    P = is_plain call.wider && same_list call.spare []

    plain : P ≡ true
    plain = and_left P (S && (C && (K && (together s.epsilon (act w call).nodes && E)))) h

    h0 : (S && (C && (K && (together s.epsilon (act w call).nodes && E)))) ≡ true
    h0 = and_right P (S && (C && (K && (together s.epsilon (act w call).nodes && E)))) h

    h1 : (C && (K && (together s.epsilon (act w call).nodes && E))) ≡ true
    h1 = and_right S (C && (K && (together s.epsilon (act w call).nodes && E))) h0

    h2 : (K && (together s.epsilon (act w call).nodes && E)) ≡ true
    h2 = and_right C (K && (together s.epsilon (act w call).nodes && E)) h1

    h3 : (together s.epsilon (act w call).nodes && E) ≡ true
    h3 = and_right K (together s.epsilon (act w call).nodes && E) h2

    entries : E ≡ true
    entries = and_right (together s.epsilon (act w call).nodes) E h3

    steps : K ≡ true
    steps = and_left K (together s.epsilon (act w call).nodes && E) h2

    one : S ≡ true
    one = and_left S (C && (K && (together s.epsilon (act w call).nodes && E))) h0

    setup-fact : call.setup ≡ s
    setup-fact = same-setup call.setup s (and_left (same_setup call.setup s) ((done_of node call).listens || eqb call.own (done_of node call).own) one)

    own-fact : node.listens ≡ false → call.own ≡ node.own
    own-fact station =
        elim (or_cases (done_of node call).listens (eqb call.own (done_of node call).own) (and_right (same_setup call.setup s) ((done_of node call).listens || eqb call.own (done_of node call).own) one)) [
          | inl q ↦ let listens : node.listens ≡ true = unfold done_of in q in absurd (clash listens station)
          | inr q ↦ eqb-true call.own node.own (unfold done_of in q)
        ]

    clock-fact : call.clock ≡ (done_of node call).clock % s.modulus
    clock-fact = eqb-true call.clock ((done_of node call).clock % s.modulus) (and_left C (K && (together s.epsilon (act w call).nodes && E)) h1)

    due : Due-call s node call (done_of node call).clock
    due = record { accepted = acc; wider-is = plain-fact call.wider (and_left (is_plain call.wider) (same_list call.spare []) plain); spare-is = same_list-true call.spare [] (and_right (is_plain call.wider) (same_list call.spare []) plain); setup-is = setup-fact; own_is = own-fact; clock-is = clock-fact; turn = moved node call acc; step-pos = leb-true 1 call.step (and_left (leb 1 call.step) (leb call.step s.epsilon) steps); step-few = leb-true call.step s.epsilon (and_right (leb 1 call.step) (leb call.step s.epsilon) steps) }

-- a call that is allowed
pub allowed-fact :
    (s : Setup) (x floor : ℕ) (w : World) (call : Call) → ((v : ℕ) → v ≤ stale_until s x → v + s.epsilon ≤ floor) → allowed s x w call ≡ true
    → (node : Node) × (get_elem? w.nodes call.node ≡ some node) × ((is_accepted (output_of node call) ≡ false) ⊎ PlainLegal s floor w call node (done_of node call).clock)
unfolding allowed done_of
allowed-fact s x floor w call early h = go (get_elem? w.nodes call.node) refl h
  where
    decide : (node : Node) → get_elem? w.nodes call.node ≡ some node → (b : Bool) → is_accepted (output_of node call) ≡ b
        → (not b || accepted_well s x w call (done_of node call)) ≡ true → (is_accepted (output_of node call) ≡ false) ⊎ PlainLegal s floor w call node (done_of node call).clock
    decide node at false e t = inl e
    decide node at true e t = inr (legal-fact s x floor w call node early at e t)

    go : (o : Option Node) → get_elem? w.nodes call.node ≡ o → allowed_for s x w call o ≡ true
        → (node : Node) × (get_elem? w.nodes call.node ≡ some node) × ((is_accepted (output_of node call) ≡ false) ⊎ PlainLegal s floor w call node (done_of node call).clock)
    go none e t = absurd (clash t refl)
    go (some node) e t = (node, e, decide node e (is_accepted (output_of node call)) refl t)
