-- A fresh start, of stations and observers: the invariant holds with no clock left out, and no older frame is heard.
-- Assumes nothing.
use Prim.Native.Nat.{ℕ, ◌+◌, ◌%◌, ◌≤◌}
use native.Mathlib.Omega.{arith}
use mathlib.Core.Path.{◌≡◌, refl, sym, ap, ap₂, subst, ◌∙◌}
use mathlib.Core.Logic.{◌⊎◌, inl, inr}
use mathlib.Core.Bool.{Bool, true, false, ◌&&◌, ◌||◌, not, cond}
use mathlib.Core.List.Memᴰ
use mathlib.Core.List.{List, [], ◌∷◌, ◌++◌, Memᴰ}
use mathlib.Core.Option.{Option, none, some}
use lib.Dec.{leb, eqb}
use lib.ListN.{length, drop, get_elem?}
use borrow.Author.Tests.{le-leb, eqb-true}
use Rattle.laws.specs.Lists.{every, any, joined, same_list}
use Rattle.laws.proofs.Numbers.{eq-or-ne, clash, and_intro, and_left, and_right, or_cases, false_of_not, not_of_false}
use Rattle.laws.proofs.Lists.{count_of, index-of-mem, every-mem, every-append-left, every-append-right, same_list-true, mem-select, get_elem?-mem, get_elem?-lt}
use Rattle.model.specs.Setup.{Setup, width}
use Rattle.model.specs.Timestamp.{Timestamp, count_at, trimmed, fresh, replaced, count_own}
use Rattle.model.specs.Frame.{two_bytes, two_at}
use Rattle.model.specs.Holdback.{encode_frames}
use Rattle.model.specs.Schedule.{Schedule, steady, limits_at}
use Rattle.model.specs.Run.{Node, Source, sent_by, stale, Call, Done, World, is_accepted, output_of, done_of, act, act_on, run_from, at_start}
use Rattle.theory.specs.Premises.{good_start, same_timestamp, is_fresh, all_fresh, is_sent, none_stale}
use Rattle.lemmas.proofs.Bounds.{Limits}
use Rattle.lemmas.proofs.Counts.{opened-replaced, fresh-own, fresh-left, replaced-count}
use Rattle.lemmas.proofs.Schedules.{Good as GoodSchedule, limits-good, limits-modulus}
use Rattle.lemmas.proofs.Positions.{placed-none}
use Rattle.theory.proofs.World.{Memory, Tables, reached, Bounded, heard_at, Untouched, AsWide, Group, Good, Legal, EntryOk, act-is}
use Rattle.theory.proofs.Stamps.{own-elsewhere, own-there}
use Rattle.theory.proofs.HearLoop.{Settles}
use Rattle.theory.proofs.Start.{group-start, exact-start}

pub settles-fresh : (g : Schedule) → Settles g 0 0
settles-fresh g = (omega arith, λ v R h k. omega arith)

-- a station has reached its own clock
reached-own : (nodes : List Node) (i : ℕ) (node : Node) → get_elem? nodes i ≡ some node → node.listens ≡ false → 1 ≤ reached nodes node.clock
unfolding reached count_of
reached-own nodes i node at station =
    some-length
    (mem-select (λ (x : Node). not x.listens && leb node.clock x.clock) (get_elem?-mem nodes i at)
    (and_intro (not_of_false station) (le-leb node.clock node.clock (omega arith))))
  where
    some-length : {l : List Node} → Memᴰ node l → 1 ≤ length l
    some-length m = let r = index-of-mem node m in omega (arith, r.1)

-- the test for equal timestamps
same-timestamp : (t u : Timestamp) → same_timestamp t u ≡ true → t ≡ u
unfolding same_timestamp
same-timestamp t u h =
    let h' = and_right (eqb t.r u.r) (eqb t.c u.c && same_list t.kn u.kn) h in
    let r-is = eqb-true t.r u.r (and_left (eqb t.r u.r) (eqb t.c u.c && same_list t.kn u.kn) h) in
    let c-is = eqb-true t.c u.c (and_left (eqb t.c u.c) (same_list t.kn u.kn) h') in
    let kn-is = same_list-true t.kn u.kn (and_right (eqb t.c u.c) (same_list t.kn u.kn) h') in
    λ i. record { r = r-is i; c = c-is i; kn = kn-is i }

-- one fresh node: a station's tables, an observer's last clock, and an empty shelf
pub record FreshNode (s : Setup) (node : Node) : Type 0 where
  pub tables : node.listens ≡ false → trimmed s.epsilon node.tables ≡ fresh s.epsilon (node.clock % s.modulus)
  pub last : node.tables.r ≡ node.clock % s.modulus
  pub empty : two_at node.holdback 0 ≡ 0

pub fresh-node : (s : Setup) (node : Node) → is_fresh s node ≡ true → FreshNode s node
unfolding is_fresh
fresh-node s node h =
    let right = cond node.listens (eqb node.tables.r (node.clock % s.modulus)) (same_timestamp (trimmed s.epsilon node.tables) (fresh s.epsilon (node.clock % s.modulus))) in
    let both = go node.listens refl (and_left right (eqb (two_at node.holdback 0) 0) h) in
    record { tables = both.0; last = both.1; empty = eqb-true (two_at node.holdback 0) 0 (and_right right (eqb (two_at node.holdback 0) 0) h) }
  where
    stamp : same_timestamp (trimmed s.epsilon node.tables) (fresh s.epsilon (node.clock % s.modulus)) ≡ true → trimmed s.epsilon node.tables ≡ fresh s.epsilon (node.clock % s.modulus)
    stamp t = same-timestamp (trimmed s.epsilon node.tables) (fresh s.epsilon (node.clock % s.modulus)) t

    go :
        (b : Bool) → node.listens ≡ b
        → cond b (eqb node.tables.r (node.clock % s.modulus)) (same_timestamp (trimmed s.epsilon node.tables) (fresh s.epsilon (node.clock % s.modulus))) ≡ true
        → (node.listens ≡ false → trimmed s.epsilon node.tables ≡ fresh s.epsilon (node.clock % s.modulus)) × (node.tables.r ≡ node.clock % s.modulus)
    go true e t = ((λ station. absurd (clash e station)), eqb-true node.tables.r (node.clock % s.modulus) t)
    go false e t = ((λ station. stamp t), unfold trimmed fresh in (ap (λ (x : Timestamp). x.r) (stamp t)))

-- an empty shelf of two bytes or more
empty-front : (bytes : List ℕ) → 2 ≤ length bytes → two_at bytes 0 ≡ 0 → bytes ≡ encode_frames [] ++ drop 2 bytes
unfolding two_at encode_frames two_bytes joined
empty-front [] long empty = absurd (omega arith)
empty-front (x ∷ []) long empty = absurd (omega arith)
empty-front (x ∷ y ∷ bytes) long empty =
    let a : x ≡ 0 = omega arith in
    let b : y ≡ 0 = omega arith in
    ap₂ (λ (p q : ℕ). p ∷ q ∷ bytes) a b

-- with the limits of its clock
module _ (g : Schedule) (node : Node) (good : GoodSchedule g) (is-fresh : FreshNode (limits_at g node.clock) node) where
  abbrev s : Setup
  s = limits_at g node.clock

  limits : Limits s
  limits = limits-good g good node.clock

  -- its memory is what a call leaves
  pub memory-fresh : 2 ≤ length node.holdback → Memory g node
  memory-fresh long =
      record {
        r-is = is-fresh.last ∙ ap (λ (B : ℕ). node.clock % B) (limits-modulus g good node.clock);
        queue = [];
        rest = drop 2 node.holdback;
        bytes = empty-front node.holdback long is-fresh.empty;
        placed = placed-none g node.clock;
      }

  module _ (station : node.listens ≡ false) where
    tables-fresh : Tables g node
    tables-fresh = rw (is-fresh.tables station) (fresh-left s.n s.epsilon (node.clock % s.modulus) limits.n_pos limits.epsilon-pos)

    pub fresh-bounded : (nodes : List Node) (i : ℕ) → get_elem? nodes i ≡ some node → Bounded s.epsilon 0 nodes node.clock (fresh s.epsilon (node.clock % s.modulus)).kn
    unfolding count_at
    fresh-bounded nodes i at y h =
        rw (fresh-own s.epsilon x)
        (elim (eq-or-ne y node.clock) [
          | inl e ↦
              subst (λ (u : ℕ). count_at s.epsilon node.clock (count_own s.epsilon x (replaced s.epsilon x)).kn u ≤ reached nodes u) (sym e)
              (omega (
                arith,
                own-there s.epsilon node.clock x (replaced s.epsilon x) wide limits.epsilon-pos,
                replaced-count s.epsilon node.clock x (node.clock + s.epsilon),
                reached-own nodes i node at station,
              ))
          | inr e ↦
              omega (
                arith,
                own-elsewhere s.epsilon node.clock x (replaced s.epsilon x) wide limits.epsilon-pos y e,
                replaced-count s.epsilon node.clock x (y + s.epsilon),
              )
        ])
      where
        x : ℕ
        x = node.clock % s.modulus

        wide : length (replaced s.epsilon x).kn ≡ width s.epsilon
        wide = (opened-replaced s.n s.epsilon x limits.n_pos limits.epsilon-pos).wide

-- all of them
nothing : {A : Type 0} (k : ℕ) (x : A) → ◌≡◌ {A = Option A} (get_elem? [] k) (some x) → ⊥
nothing {A} k x e = omega (arith, get_elem?-lt {A = A} [] k e)

pub good-fresh :
    (g : Schedule) (nodes : List Node) → Group g nodes
    → ((i : ℕ) (node : Node) → get_elem? nodes i ≡ some node → FreshNode (limits_at g node.clock) node × (2 ≤ length node.holdback))
    → Good g 0 0 (at_start nodes)
unfolding at_start heard_at any memory-fresh
good-fresh g nodes group fresh-node-at =
    record {
      group = group;
      node = λ i node at.
          let is-fresh = (fresh-node-at i node at).0 in
          let good = group.limits i node at in
          inr (record {
            memory = memory-fresh g node good is-fresh (fresh-node-at i node at).1;
            members = λ f m. absurd (Memᴰ.not-nil m);
            waiting = λ k m e. absurd (nothing k m e);
            stamp = λ station.
                record {
                  tables = tables-fresh g node good is-fresh station;
                  bounded = subst (λ (t : Timestamp). Bounded (limits_at g node.clock).epsilon 0 nodes node.clock t.kn) (sym (is-fresh.tables station)) (fresh-bounded g node good is-fresh station nodes i at);
                  passed_on = λ k d e. absurd (nothing k d e);
                };
          });
      calls = λ k d e. absurd (nothing k d e);
      unique = λ k l a b e. absurd (nothing k a e);
      kinds = λ k d e. absurd (nothing k d e);
      heard-before = λ i k e. absurd (clash e refl);
    }

-- with one setup
module _ (s : Setup) (nodes : List Node) (start : good_start s nodes ≡ true) (all-fresh : all_fresh s nodes ≡ true) where
  pub fresh_at : (i : ℕ) (node : Node) → get_elem? nodes i ≡ some node → FreshNode s node
  unfolding all_fresh
  fresh_at i node at = fresh-node s node (every-mem (is_fresh s) all-fresh (get_elem?-mem nodes i at))

  pub fresh-plain : Good (steady s) 0 0 (at_start nodes)
  fresh-plain =
      good-fresh (steady s) nodes (group-start s nodes start) (λ i node at. (fresh_at i node at, exact-start s nodes start node (get_elem?-mem nodes i at)))

-- without older frames nothing is left out
sent-entry :
    (g : Schedule) (floor : ℕ) (past : List Done) (nodes : List Node) (v : ℕ) (bytes : List ℕ) (o : Source) → is_sent o ≡ true
    → EntryOk g floor past nodes v bytes o → EntryOk g 0 past nodes v bytes o
unfolding is_sent
sent-entry g floor past nodes v bytes (sent_by k) h entry = entry
sent-entry g floor past nodes v bytes stale h entry = absurd (clash h refl)

pub legal-fresh :
    (g l : Schedule) (floor : ℕ) (w : World) (call : Call) (node found : Node) (v : ℕ) → Legal g l floor w call node found v
    → Untouched g 0 w call.node node ⊎ AsWide g l 0 w call.node node → every is_sent call.sources ≡ true → Legal g l 0 w call node found v
legal-fresh g l floor w call node found v legal widths all-sent =
    record {
      at = legal.at;
      called = legal.called;
      widths = widths;
      together = legal.together;
      lengths = legal.lengths;
      entry = λ e bytes o at o-at.
          sent-entry g floor w.past (act w call).nodes v bytes o (every-mem is_sent all-sent (get_elem?-mem call.sources e o-at))
          (legal.entry e bytes o at o-at);
    }

-- what a test says of all calls of a list it says of the first ones
pub every-before : (test : Done → Bool) (calls : List Call) (w : World) → every test (run_from w calls).past ≡ true → every test w.past ≡ true
unfolding run_from
every-before test [] w h = h
every-before test (call ∷ calls) w h = go (get_elem? w.nodes call.node) refl (every-before test calls (act w call) h)
  where
    go : (o : Option Node) → get_elem? w.nodes call.node ≡ o → every test (act w call).past ≡ true → every test w.past ≡ true
    go none e k =
        let idle : act w call ≡ w = unfold act in (ap (λ (o : Option Node). act_on o w call) e) in
        subst (λ (y : World). every test y.past ≡ true) idle k
    go (some node) e k =
        every-append-left test w.past (done_of node call ∷ []) (subst (λ (y : World). every test y.past ≡ true) (act-is w call node e) k)

-- so there is no older frame among the first calls of a list without one
pub none-stale-before : (calls : List Call) (w : World) → none_stale (run_from w calls).past ≡ true → none_stale w.past ≡ true
unfolding none_stale
none-stale-before calls w h = every-before (λ d. not (is_accepted d.output) || every is_sent d.call.sources) calls w h

-- the entries of the last call
pub last-sent : (w : World) (call : Call) (node : Node) → get_elem? w.nodes call.node ≡ some node → is_accepted (output_of node call) ≡ true → none_stale (act w call).past ≡ true → every is_sent call.sources ≡ true
unfolding none_stale every done_of
last-sent w call node at acc h =
    let test : ((not (is_accepted (output_of node call)) || every is_sent call.sources) && true) ≡ true =
    every-append-right (λ d. not (is_accepted d.output) || every is_sent d.call.sources) w.past (done_of node call ∷ [])
    (subst (λ (y : World). none_stale y.past ≡ true) (act-is w call node at) h) in
    elim (or_cases (not (is_accepted (output_of node call))) (every is_sent call.sources) (and_left (not (is_accepted (output_of node call)) || every is_sent call.sources) true test)) [
      | inl q ↦ absurd (clash acc (false_of_not (is_accepted (output_of node call)) q))
      | inr q ↦ q
    ]
