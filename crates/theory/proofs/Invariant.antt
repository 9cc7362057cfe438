-- An accepted call keeps the invariant: the nodes and calls after it.
-- Assumes nothing.
use Prim.Native.Nat.{ℕ, suc, ◌+◌, ◌%◌, ◌≤◌, ◌<◌}
use native.Mathlib.Omega.{arith}
use mathlib.Core.Path.{◌≡◌, refl, sym, ap, subst, ◌∙◌}
use mathlib.Core.Logic.{inl, inr}
use mathlib.Core.Bool.{Bool, true, false, ◌&&◌, ◌||◌, not, or-false}
use mathlib.Core.List.{List, [], ◌∷◌, ◌++◌, Memᴰ}
use mathlib.Core.Option.{some}
use lib.Dec.{eqb}
use lib.ListN.{length, get_elem?, length-append}
use borrow.Author.Tests.{ne_eqb}
use Rattle.laws.specs.Lists.{any}
use Rattle.laws.proofs.Numbers.{eq-or-ne, and_right, or_cases, not_of_false}
use Rattle.laws.proofs.Lists.{count_of, count_of-set-same, any_append, get_elem?-lt, get_elem?-get_or, get_elem?-append, get_elem?-snoc-cases, mem-of-select, mem-select}
use Rattle.model.specs.Setup.{Setup}
use Rattle.model.specs.Timestamp.{sum, trimmed, count_own, Timestamp}
use Rattle.model.specs.Frame.{Frame}
use Rattle.model.specs.Schedule.{Schedule, limits_at, modulus_of, own_limits, due_along}
use Rattle.model.specs.Wider.{wider_reading, wider_due, wider_due_now, wider_heard_stamp}
use Rattle.model.specs.Run.{Node, Call, Done, World, input_of, is_accepted, output_of, done_of, node_after, act, is_event}
use Rattle.theory.specs.Demand3.{covered, heard_in, is_from}
use Rattle.lemmas.proofs.Schedules.{limits-good}
use Rattle.lemmas.proofs.Positions.{seen-in}
use Rattle.theory.proofs.Event.{done-clock, after-clock, event-stamp, event-made, leaves-tables, tables-left, event-own}
use Rattle.theory.proofs.Received.{heard_on, kept_on, memory-left}
use Rattle.theory.proofs.Entries.{from-entry}
use Rattle.theory.proofs.Reach.{is_station, reached-grows, reached-gains}
use Rattle.theory.proofs.Stamps.{bounded-grows, own-bounded}
use Rattle.theory.proofs.Due.{due-seen}
use Rattle.theory.proofs.HearLoop.{some_inj, covered-sends}
use Rattle.theory.proofs.World.{AllWaiting, Memory, LeftStamp, LeftAt, event_frame, event_due, reached, Bounded, Under, heard_at, Explained, AllExplained, CallEvent, Maker, Settled, Passed-on, NodeOk, Group, AllKinds, Good, Legal, act-is, event-kind, event-of, nodes_after, after-at, after-other, after-together}
use Rattle.theory.proofs.Promises.{Ends, waiting-reads}

module _ (g l : Schedule) (floor from : ℕ) (w : World) (call : Call) (node found : Node) (v : ℕ) (good : Good g floor from w) (legal : Legal g l floor w call node found v) (ends : Ends g l floor from w call node found v) where
  -- the nodes and calls after it
  abbrev node' : Node
  node' = node_after node call.step (output_of node call)

  abbrev nodes' : List Node
  nodes' = nodes_after w.nodes call node

  abbrev past' : List Done
  past' = w.past ++ (done_of node call ∷ [])

  abbrev world' : World
  world' = record { nodes = nodes'; past = past' }

  clock' : node'.clock ≡ v
  clock' = after-clock legal.called

  own' : node'.own ≡ node.own
  unfolding node_after
  own' = refl

  kind' : node'.listens ≡ node.listens
  unfolding node_after
  kind' = refl

  grows : (x : ℕ) → reached w.nodes x ≤ reached nodes' x
  grows x = reached-grows w.nodes x call.node node node' legal.at kind' (omega (arith, clock', legal.called.turn))

  was : (j : ℕ) (a : Node) → get_elem? nodes' j ≡ some a → (b : Node) × (get_elem? w.nodes j ≡ some b) × (a.own ≡ b.own) × (a.listens ≡ b.listens)
  was j a at =
      elim (eq-or-ne call.node j) [
        | inl q ↦
            let e : a ≡ node' = some_inj (sym at ∙ (ap (get_elem? nodes') (sym q) ∙ (after-at w.nodes call node legal.at))) in
            (node, ap (get_elem? w.nodes) (sym q) ∙ legal.at, ap (λ (x : Node). x.own) e ∙ own', ap (λ (x : Node). x.listens) e ∙ kind')
        | inr q ↦ (a, sym (after-other w.nodes call node j q) ∙ at, refl, refl)
      ]

  -- as many stations as before
  stations : count_of is_station nodes' ≡ count_of is_station w.nodes
  stations =
      count_of-set-same is_station w.nodes call.node node' node
      (rw (get_elem?-get_or w.nodes call.node node legal.at) (ap not (sym kind')))

  group' : Group g nodes'
  group' =
      record {
        limits = λ j a at. let r = was j a at in good.group.limits j r.0 r.1;
        distinct = λ i j a b p q x-is y-is e.
            let x = was i a p in
            let y = was j b q in
            good.group.distinct i j x.0 y.0 x.1 y.1 (sym x.3 ∙ x-is) (sym y.3 ∙ y-is) (sym x.2 ∙ (e ∙ y.2));
        together = after-together g l floor w call node found v legal;
        few = omega (arith, stations, good.group.few);
      }

  -- which messages have been heard
  heard-known : (i k : ℕ) → heard_at past' i k ≡ true → k < length w.past
  unfolding heard_at any heard_in done_of
  heard-known i k h =
      elim (or_cases (any (heard_in i k) w.past) (heard_in i k (done_of node call) || false) (sym (any_append (heard_in i k) w.past (done_of node call ∷ [])) ∙ h)) [
        | inl q ↦ good.heard-before i k q
        | inr q ↦
            let a : any (is_from k) call.sources ≡ true =
            and_right (eqb call.node i) (any (is_from k) call.sources)
            (and_right (is_accepted (output_of node call)) (eqb call.node i && any (is_from k) call.sources) (sym (or-false (heard_in i k (done_of node call))) ∙ q)) in
            let e = from-entry k call.sources a in
            get_elem?-lt w.past k (ends.kept.sent-before e.0 k (unfold done_of in e.1)).1
      ]

  heard-other : (j k : ℕ) → (call.node ≡ j → ⊥) → heard_at past' j k ≡ heard_at w.past j k
  unfolding heard_at any heard_in done_of
  heard-other j k ne =
      rw (any_append (heard_in j k) w.past (done_of node call ∷ []), legal.called.accepted, ne_eqb call.node j ne) (or-false (any (heard_in j k) w.past))

  -- earlier calls stand where they stood
  old-at : (k : ℕ) (m : Done) → get_elem? w.past k ≡ some m → get_elem? past' k ≡ some m
  old-at k m at = get_elem?-append w.past (done_of node call ∷ []) k (get_elem?-lt w.past k at) ∙ at

  known_at : (i k : ℕ) (m : Done) → get_elem? past' k ≡ some m → heard_at past' i k ≡ true → get_elem? w.past k ≡ some m
  known_at i k m at hd = sym (get_elem?-append w.past (done_of node call ∷ []) k (heard-known i k hd)) ∙ at

  explained-on :
      (v j : ℕ) (heard : ℕ → Bool) (f : Frame) → ((k : ℕ) → heard k ≡ true → heard_at past' j k ≡ true) → Explained g floor w.past heard v f
      → Explained g floor past' (heard_at past' j) v f
  explained-on v j heard f more (inl h) = inl h
  explained-on v j heard f more (inr x) = inr (x.0, x.1, old-at x.0 x.1 x.2, x.3, more x.0 x.4, x.5, x.6)

  -- the node of an earlier call
  kinds-before : (j : ℕ) (a : Node) → get_elem? w.nodes j ≡ some a → (b : Node) × (get_elem? nodes' j ≡ some b) × (b.listens ≡ a.listens)
  kinds-before j a at =
      elim (eq-or-ne call.node j) [
        | inl q ↦
            let e : a ≡ node = some_inj (sym at ∙ (ap (get_elem? w.nodes) (sym q) ∙ legal.at)) in
            (node', ap (get_elem? nodes') (sym q) ∙ after-at w.nodes call node legal.at, kind' ∙ sym (ap (λ (x : Node). x.listens) e))
        | inr q ↦ (a, after-other w.nodes call node j q ∙ at, refl)
      ]

  kinds' : AllKinds nodes' past'
  kinds' k d at =
      elim (get_elem?-snoc-cases w.past (done_of node call) k at) [
        | inl q ↦
            let r = good.kinds k d q in
            let n = kinds-before d.node r.0 r.1 in
            (n.0, n.1, n.2 ∙ r.2)
        | inr q ↦
            subst (λ (x : Done). (b : Node) × (get_elem? nodes' x.node ≡ some b) × (b.listens ≡ x.listens)) (sym q.1)
            (node', unfold done_of in (after-at w.nodes call node legal.at), unfold done_of in kind')
      ]

  maker' : (d : Done) → Maker w.nodes d → Maker nodes' d
  maker' d mk =
      elim (eq-or-ne call.node d.node) [
        | inl q ↦
            let e : mk.node ≡ node = some_inj (sym mk.at ∙ (ap (get_elem? w.nodes) (sym q) ∙ legal.at)) in
            let c : mk.node.clock ≡ node.clock = ap (λ (x : Node). x.clock) e in
            record {
              node = node';
              at = ap (get_elem? nodes') (sym q) ∙ (after-at w.nodes call node legal.at);
              kind-is = kind' ∙ (sym (ap (λ (x : Node). x.listens) e) ∙ mk.kind-is);
              own_is = own' ∙ (sym (ap (λ (x : Node). x.own) e) ∙ mk.own_is);
              clock-is = omega (arith, mk.clock-is, clock', legal.called.turn);
            }
        | inr q ↦
            record {
              node = mk.node;
              at = after-other w.nodes call node d.node q ∙ mk.at;
              kind-is = mk.kind-is;
              own_is = mk.own_is;
              clock-is = mk.clock-is;
            }
      ]

  new-maker : Maker nodes' (done_of node call)
  new-maker =
      record {
        node = node';
        at = unfold done_of in (after-at w.nodes call node legal.at);
        kind-is = unfold done_of in kind';
        own_is = unfold done_of in own';
        clock-is = omega (arith, clock', done-clock legal.called);
      }

  -- a station's call
  module _ (station : node.listens ≡ false) where
    -- it has reached v, one station more
    gains : reached nodes' v ≡ suc (reached w.nodes v)
    gains =
        reached-gains w.nodes v call.node node node' legal.at (kind' ∙ station)
        (omega (arith, legal.called.turn, legal.called.step-pos)) (omega (arith, clock'))

    event : CallEvent g (done_of node call)
    event = event-made g l node found call ends.limits legal.called station

    own-epsilon : (own_limits l).epsilon ≡ (limits_at g v).epsilon
    own-epsilon = ap (λ (s : Setup). s.epsilon) legal.called.agrees.own

    -- the new counts
    bounded' : Bounded (limits_at g v).epsilon floor nodes' v (event_frame g (done_of node call)).stamp.kn
    bounded' =
        subst (λ (t : Timestamp). Bounded (limits_at g v).epsilon floor nodes' v t.kn) (sym (event-own g l node found call ends.limits legal.called station))
        (subst (λ (e : ℕ). Bounded e floor nodes' v (count_own e (v % modulus_of l) (wider_heard_stamp l (input_of found call))).kn) own-epsilon
        (own-bounded (own_limits l).epsilon floor w.nodes nodes' v (v % modulus_of l) (wider_heard_stamp l (input_of found call)) (ends.stamp station).opened.wide
        (limits-good l ends.good (modulus_of l)).epsilon-pos grows gains (ends.stamp station).bounded))

    new-settled : Settled g floor nodes' (done_of node call)
    new-settled =
        record {
          event = event;
          maker = new-maker;
          bounded = subst (λ (x : ℕ). Bounded (limits_at g x).epsilon floor nodes' x (event_frame g (done_of node call)).stamp.kn) (sym (done-clock legal.called)) bounded';
        }

    -- no call of this station was for this clock before
    first-at : (k : ℕ) (a : Done) → get_elem? w.past k ≡ some a → is_event a ≡ true → a.own ≡ node.own → a.clock ≡ v → ⊥
    first-at k a at made o c =
        let mk = (good.calls k a at made).maker in
        let e : a.node ≡ call.node =
        good.group.distinct a.node call.node mk.node node mk.at legal.at (mk.kind-is ∙ event-kind a made) station (mk.own_is ∙ o) in
        let q : mk.node ≡ node = some_inj (sym mk.at ∙ (ap (get_elem? w.nodes) e ∙ legal.at)) in
        let h : mk.node.clock ≡ node.clock = ap (λ (x : Node). x.clock) q in
        omega (arith, mk.clock-is, legal.called.turn)

  -- where the last call is an event, its node is a station
  last-kind : (d : Done) → d ≡ done_of node call → is_event d ≡ true → node.listens ≡ false
  unfolding done_of
  last-kind d e made = sym (ap (λ (x : Done). x.listens) e) ∙ event-kind d made

  calls' : (k : ℕ) (d : Done) → get_elem? past' k ≡ some d → is_event d ≡ true → Settled g floor nodes' d
  calls' k d at made =
      elim (get_elem?-snoc-cases w.past (done_of node call) k at) [
        | inl q ↦
            let st = good.calls k d q made in
            record {
              event = st.event;
              maker = maker' d st.maker;
              bounded = bounded-grows (limits_at g d.clock).epsilon floor w.nodes nodes' d.clock (event_frame g d).stamp.kn grows st.bounded;
            }
        | inr q ↦ subst (Settled g floor nodes') (sym q.1) (new-settled (last-kind d q.1 made))
      ]

  unique' : (k l : ℕ) (a b : Done) → get_elem? past' k ≡ some a → get_elem? past' l ≡ some b → is_event a ≡ true → is_event b ≡ true → a.own ≡ b.own → a.clock ≡ b.clock → k ≡ l
  unique' k l a b p q x y o c =
      elim (get_elem?-snoc-cases w.past (done_of node call) k p) [
        | inl p' ↦ elim (get_elem?-snoc-cases w.past (done_of node call) l q) [
          | inl q' ↦ good.unique k l a b p' q' x y o c
          | inr q' ↦
              absurd (first-at (last-kind b q'.1 y) k a p' x (o ∙ (ap (λ (d : Done). d.own) q'.1 ∙ unfold done_of in refl)) (c ∙ (ap (λ (d : Done). d.clock) q'.1 ∙ done-clock legal.called)))
        ]
        | inr p' ↦ elim (get_elem?-snoc-cases w.past (done_of node call) l q) [
          | inl q' ↦
              absurd (first-at (last-kind a p'.1 x) l b q' y (sym o ∙ (ap (λ (d : Done). d.own) p'.1 ∙ unfold done_of in refl)) (sym c ∙ (ap (λ (d : Done). d.clock) p'.1 ∙ done-clock legal.called)))
          | inr q' ↦ p'.0 ∙ sym q'.0
        ]
      ]

  -- the other nodes
  other-ok : (j : ℕ) (a : Node) → (call.node ≡ j → ⊥) → NodeOk g floor from w j a → NodeOk g floor from world' j a
  other-ok j a ne (inl u) =
      inl (record {
        early = u.early;
        unheard = λ k. heard-other j k ne ∙ u.unheard k;
        uncalled = λ k d at acc same.
            elim (get_elem?-snoc-cases w.past (done_of node call) k at) [
              | inl q ↦ u.uncalled k d q acc same
              | inr q ↦ ne (unfold done_of in (sym (ap (λ (x : Done). x.node) q.1) ∙ same))
            ];
      })
  other-ok j a ne (inr l) =
      inr (record {
        memory = l.memory;
        members = λ f mem. explained-on a.clock j (heard_at w.past j) f (λ k h. heard-other j k ne ∙ h) (l.members f mem);
        waiting = λ k m at fol hd un. l.waiting k m (known_at j k m at hd) fol (sym (heard-other j k ne) ∙ hd) un;
        stamp = λ station.
            let t = l.stamp station in
            record {
              tables = t.tables;
              bounded = bounded-grows (limits_at g a.clock).epsilon floor w.nodes nodes' a.clock (trimmed (limits_at g a.clock).epsilon a.tables).kn grows t.bounded;
              passed_on = λ k d at made same.
                  elim (get_elem?-snoc-cases w.past (done_of node call) k at) [
                    | inl q ↦ t.passed_on k d q made same
                    | inr q ↦ absurd (ne (unfold done_of in (sym (ap (λ (x : Done). x.node) q.1) ∙ same)))
                  ];
            };
      })

  -- what the call leaves at its node, at its clock
  abbrev memory : Memory g node'
  memory = memory-left g l node found call legal.called

  abbrev u : ℕ
  u = v % modulus_of l

  members' : AllExplained g floor past' (heard_at past' call.node) v (kept_on l v found call)
  members' f mem =
      let r = mem-of-select (λ b. not (wider_due_now l u b)) (heard_on l v found call).queue mem in
      explained-on v call.node (heard_at past' call.node) f (λ k h. h) (ends.queue.members f r.0)

  -- a covered message on the queue that is due later is not delivered
  not-due : (k : ℕ) (m : Done) → get_elem? w.past k ≡ some m → covered from m ≡ true → Memᴰ (event_frame g m) (heard_on l v found call).queue → v < event_due g m
      → wider_due_now l u (event_frame g m) ≡ false
  unfolding wider_due_now wider_due sum
  not-due k m at fol there un =
      let f : Frame = event_frame g m in
      let stands = waiting-reads g l floor from w call node found v good legal k m at (covered-sends from m fol) (omega (arith, un, legal.called.turn, legal.called.step-pos)) in
      let seen =
      seen-in g l v legal.called.agrees (modulus_of l) (heard_on l v found call).queue ends.good
      (omega (arith, (limits-good l ends.good (modulus_of l)).epsilon-pos)) ends.queue.sound f there in
      ne_eqb (due_along l (wider_reading l u f + f.stamp.c)) (modulus_of l)
      (λ e. omega (
        arith,
        un,
        due-seen g l v legal.called.agrees m.clock f stands seen,
      ))

  waiting' : AllWaiting g from past' (heard_at past' call.node) v (kept_on l v found call)
  waiting' k m at fol hd un =
      let old : get_elem? w.past k ≡ some m = known_at call.node k m at hd in
      let there = ends.queue.present k m old fol hd (omega arith) in
      mem-select (λ b. not (wider_due_now l u b)) there (not_of_false (not-due k m old fol there un))

  -- a station's stamp
  module _ (station : node.listens ≡ false) where
    tables-here : trimmed (limits_at g node'.clock).epsilon node'.tables ≡ (event_frame g (done_of node call)).stamp
    tables-here =
        leaves-tables g l node found call ends.limits legal.called station ∙ sym (event-stamp g l node found call ends.limits legal.called station)

    passes_on : (k : ℕ) (d : Done) → get_elem? past' k ≡ some d → is_event d ≡ true → d.node ≡ call.node → Passed-on g d v (event_frame g (done_of node call)).stamp
    passes_on k d at made same =
        let here : (done_of node call).clock ≡ v = done-clock legal.called in
        record {
          last = done_of node call;
          sound = (event station).frame.sound;
          comes =
              elim (get_elem?-snoc-cases w.past (done_of node call) k at) [
                | inl q ↦ inr (ends.kept.later (event-of (done_of node call) (unfold done_of in legal.called.accepted) (unfold done_of in station)) k d q made (unfold done_of in same))
                | inr q ↦ inl q.1
              ];
          under =
              subst (λ (x : ℕ). Under (limits_at g x).epsilon x (event_frame g (done_of node call)).stamp (limits_at g v).epsilon v (event_frame g (done_of node call)).stamp) (sym here)
              (record { sums = omega arith; counts = λ x h. omega arith });
        }

    stamp-ok : LeftStamp g floor world' call.node node'
    stamp-ok =
        record {
          tables = tables-left g l node found call ends.limits legal.called station;
          bounded =
              subst (λ (x : ℕ). Bounded (limits_at g x).epsilon floor nodes' x (trimmed (limits_at g node'.clock).epsilon node'.tables).kn) (sym clock')
              (subst (λ (t : Timestamp). Bounded (limits_at g v).epsilon floor nodes' v t.kn) (sym tables-here) (bounded' station));
          passed_on = λ k d at made same.
              subst (λ (x : ℕ). Passed-on g d x (trimmed (limits_at g node'.clock).epsilon node'.tables)) (sym clock')
              (subst (λ (t : Timestamp). Passed-on g d v t) (sym tables-here) (passes_on k d at made same));
        }

  here-ok : LeftAt g floor from world' call.node node'
  unfolding memory-left
  here-ok =
      record {
        memory = memory;
        members = subst (λ (x : ℕ). AllExplained g floor past' (heard_at past' call.node) x (kept_on l v found call)) (sym clock') members';
        waiting = subst (λ (x : ℕ). AllWaiting g from past' (heard_at past' call.node) x (kept_on l v found call)) (sym clock') waiting';
        stamp = λ station. stamp-ok (sym kind' ∙ station);
      }

  pub step-good : Good g floor from (act w call)
  step-good = subst (Good g floor from) (sym (act-is w call node legal.at))
      (record {
        group = group';
        node = node_ok;
        calls = calls';
        unique = unique';
        kinds = kinds';
        heard-before = λ i k h. omega (arith, heard-known i k h, length-append w.past (done_of node call ∷ []));
      })
    where
      node_ok : (j : ℕ) (a : Node) → get_elem? nodes' j ≡ some a → NodeOk g floor from world' j a
      node_ok j a at =
          elim (eq-or-ne call.node j) [
            | inl q ↦
                let e : a ≡ node' = some_inj (sym at ∙ (ap (get_elem? nodes') (sym q) ∙ (after-at w.nodes call node legal.at))) in
                subst (λ (x : ℕ). NodeOk g floor from world' x a) q (subst (λ (x : Node). NodeOk g floor from world' call.node x) (sym e) (inr here-ok))
            | inr q ↦ other-ok j a q (good.node j a (sym (after-other w.nodes call node j q) ∙ at))
          ]
