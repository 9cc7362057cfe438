-- Demand 2 from fresh stations: every accepted call does what the published program does, reduced modulo B.
-- Assumes nothing.
use Prim.Native.Nat.{ℕ, ◌+◌, ◌≤◌, ◌<◌}
use native.Mathlib.Omega.{arith}
use mathlib.Core.Path.{◌≡◌, refl, sym, ap, subst, ◌∙◌}
use mathlib.Core.Logic.{◌⊎◌, inl, inr}
use mathlib.Core.Bool.{Bool, true, false, cond}
use mathlib.Core.List.{List, [], ◌∷◌, ◌++◌, Memᴰ}
use mathlib.Core.Option.{Option, none, some}
use lib.ListN.{length, take, set, get_elem?}
use lib.Seq.{take-append-le, take-append_seam}
use borrow.Author.Tests.{ne_eqb}
use Rattle.laws.proofs.Numbers.{eq-or-ne, true-or-false, clash, and_intro, and_left, and_right}
use Rattle.laws.proofs.Lists.{get_elem?-lt, get_elem?-set-same, get_elem?-set-other, get_elem?-snoc-cases}
use Rattle.model.specs.Setup.{Setup}
use Rattle.model.specs.Published.{Message, Process, deliverable_by, buffered, advanced, event_of, next_event, message_of, message_due}
use Rattle.model.specs.Run.{Node, Call, Done, World, is_accepted, output_of, done_of, node_after, act, run_from, at_start, is_event, sends}
use Rattle.theory.specs.Premises.{good_start, all_fresh, largest_clock, stale_until, allowed, keeps, none_stale}
use Rattle.theory.specs.Demand2.{Published, messages_heard, outcome_of, publish_on, publish, publish_all, published_start, Matched, Demand2Fresh}
use Rattle.theory.specs.Demand3.{heard_in}
use Rattle.theory.proofs.World.{act-is, after-at, after-other, nodes_after, sends-event, event-accepted, event-kind, event-of, Good}
use Rattle.model.specs.Schedule.{steady}
use Rattle.theory.proofs.Plain.{PlainLegal}
use Rattle.theory.proofs.Event.{done-clock}
use Rattle.theory.proofs.HearLoop.{some_inj}
use Rattle.theory.proofs.Refused.{refused-node, refused-good}
use Rattle.theory.proofs.Promises.{ends}
use Rattle.theory.proofs.Invariant.{step-good}
use Rattle.theory.proofs.Start.{allowed-fact}
use Rattle.theory.proofs.Fresh.{settles-fresh, legal-fresh, none-stale-before, last-sent}
use Rattle.theory.proofs.PublishedRun.{Copies, Twin, Paired, LastAs, sent-as-snoc, ranked-snoc, twin-stays}
use Rattle.theory.proofs.PublishedCall.{heard_here, none-expired, frame_is, same-as, ranked-last, twin-moves}
use Rattle.theory.proofs.PublishedStart.{paired-fresh}

-- what the call sends in the published program
abbrev pub sent_here : Setup → List (Option Message) → Call → ℕ → Process → Option Message
sent_here s sent call v p = cond call.send (some (message_of s.epsilon v p (heard_here sent call) call.payload)) none

-- nothing that the process of a call holds is due before the call's clock
abbrev pub NoneExpired : Setup → Published → Done → Type 0
NoneExpired s u d =
    (p : Process) → get_elem? u.processes d.node ≡ some p
    → (m : Message) → Memᴰ m (buffered p (messages_heard u.sent d.call.sources)) → d.clock ≤ message_due s.epsilon s.delta m

-- an accepted call and the published program as it stands before that
abbrev pub Follows : Setup → Published → Done → Type 0
Follows s u d = Matched deliverable_by s u d × (d.call.step ≡ 1 → NoneExpired s u d)

-- an accepted call of a station
module _ (s : Setup) (w : World) (u : Published) (call : Call) (node : Node) (v : ℕ) (paired : Paired s w u) (legal : PlainLegal s 0 w call node v)
    (p : Process) (p-at : get_elem? u.processes call.node ≡ some p) (twin : Twin s w.past u.sent call.node node p)
    (station : node.listens ≡ false) where
  here : is_event (done_of node call) ≡ true
  here = event-of (done_of node call) (unfold done_of in legal.called.accepted) (unfold done_of in station)

  moved : (done_of node call).clock ≡ v
  moved = done-clock legal.along.called

  pub published :
      publish deliverable_by s u (done_of node call)
      ≡ record {
        processes = set u.processes call.node (advanced deliverable_by s.epsilon s.delta v p (heard_here u.sent call));
        sent = u.sent ++ (sent_here s u.sent call v p ∷ []);
      }
  unfolding publish outcome_of done_of
  published = rw (here, p-at, moved) refl

  -- what is sent is the message
  sent_is : (m : Message) → sent_here s u.sent call v p ≡ some m → (call.send ≡ true) × (message_of s.epsilon v p (heard_here u.sent call) call.payload ≡ m)
  sent_is m e = go call.send refl e
    where
      go :
          (b : Bool) → call.send ≡ b → cond b (some (message_of s.epsilon v p (heard_here u.sent call) call.payload)) none ≡ some m
          → (call.send ≡ true) × (message_of s.epsilon v p (heard_here u.sent call) call.payload ≡ m)
      go true q e = (q, some_inj e)
      go false q e = let z : ◌≡◌ {A = ℕ} 0 1 = cc in absurd (omega arith)

  sent-event : (m : Message) → sent_here s u.sent call v p ≡ some m → m.event ≡ event_of s.epsilon v p (heard_here u.sent call)
  sent-event m e = sym (ap (λ (x : Message). x.event) (sent_is m e).1) ∙ (unfold message_of in refl)

  copies : Copies s (message_of s.epsilon v p (heard_here u.sent call) call.payload) (done_of node call)
  copies =
      record {
        frame = frame_is s w u.sent call node v p paired.good legal paired.sent-as paired.ranked twin station;
        clock-is = unfold message_of event_of next_event in (sym moved);
      }

  last_as : LastAs s (done_of node call) (sent_here s u.sent call v p)
  unfolding sends done_of
  last_as =
      record {
        each = λ h.
            let send : call.send ≡ true = and_right (is_event (done_of node call)) call.send h in (
              message_of s.epsilon v p (heard_here u.sent call) call.payload,
              ap (λ (b : Bool). cond b (some (message_of s.epsilon v p (heard_here u.sent call) call.payload)) none) send,
              copies,
            );
        only = λ m e.
            (and_intro here (sent_is m e).0, subst (λ (x : Message). Copies s x (done_of node call)) (sent_is m e).1 copies);
      }

  abbrev world' : World
  world' = record { nodes = set w.nodes call.node (node_after node call.step (output_of node call)); past = w.past ++ (done_of node call ∷ []) }

  abbrev published' : Published
  published' =
      record {
        processes = set u.processes call.node (advanced deliverable_by s.epsilon s.delta v p (heard_here u.sent call));
        sent = u.sent ++ (sent_here s u.sent call v p ∷ []);
      }

  abbrev Paired-at : ℕ → Node → Type 0
  Paired-at j a = (q : Process) × (get_elem? published'.processes j ≡ some q) × Twin s world'.past published'.sent j a q

  own-twin : Paired-at call.node (node_after node call.step (output_of node call))
  own-twin = (
    advanced deliverable_by s.epsilon s.delta v p (heard_here u.sent call),
    get_elem?-set-same u.processes call.node (advanced deliverable_by s.epsilon s.delta v p (heard_here u.sent call))
        (get_elem?-lt u.processes call.node p-at),
    twin-moves s w u.sent call node v p paired.good legal paired.sent-as paired.ranked twin station (sent_here s u.sent call v p) sent-event,
  )

  quiet : (j : ℕ) → (call.node ≡ j → ⊥) → (k : ℕ) → heard_in j k (done_of node call) ≡ false
  unfolding heard_in done_of
  quiet j ne k = rw (legal.called.accepted, ne_eqb call.node j ne) refl

  other-twin : (j : ℕ) (a : Node) → (call.node ≡ j → ⊥) → get_elem? w.nodes j ≡ some a → a.listens ≡ false → Paired-at j a
  other-twin j a ne at kind =
      let (q, q-at, t) = paired.twins j a at kind in (
        q,
        get_elem?-set-other u.processes call.node j (advanced deliverable_by s.epsilon s.delta v p (heard_here u.sent call)) ne ∙ q-at,
        twin-stays s w.past u.sent j a q (done_of node call) (sent_here s u.sent call v p) paired.sent-as.same_length (paired.good.heard-before j)
            (quiet j ne) (λ m e. unfold done_of in ne) t,
      )

  all-twins : (j : ℕ) (a : Node) → get_elem? world'.nodes j ≡ some a → a.listens ≡ false → Paired-at j a
  all-twins j a at kind =
      elim (eq-or-ne call.node j) [
        | inl e ↦
            let a-is : a ≡ node_after node call.step (output_of node call) =
            some_inj (sym at ∙ (ap (get_elem? world'.nodes) (sym e) ∙ get_elem?-set-same w.nodes call.node (node_after node call.step (output_of node call)) (get_elem?-lt w.nodes call.node legal.along.at))) in
            subst (λ (i : ℕ). Paired-at i a) e (subst (Paired-at call.node) (sym a-is) own-twin)
        | inr e ↦ other-twin j a e (sym (get_elem?-set-other w.nodes call.node j (node_after node call.step (output_of node call)) e) ∙ at) kind
      ]

  pub paired-accepted : Paired s (act w call) (publish deliverable_by s u (done_of node call))
  paired-accepted =
      subst (λ (y : World). Paired s y (publish deliverable_by s u (done_of node call))) (sym (act-is w call node legal.along.at))
      (subst (Paired s world') (sym published)
      (record {
        good = subst (Good (steady s) 0 0) (act-is w call node legal.along.at) (step-good (steady s) (steady s) 0 0 w call node node v paired.good legal.along (ends (steady s) (steady s) 0 0 (settles-fresh (steady s)) w call node node v paired.good legal.along));
        sent-as = sent-as-snoc s w.past u.sent (done_of node call) (sent_here s u.sent call v p) paired.sent-as last_as;
        ranked =
            ranked-snoc s w.past u.sent (done_of node call) (sent_here s u.sent call v p) paired.sent-as.same_length paired.ranked
            (λ k m m' d e m-at d-at here.
            ranked-last s w u.sent call node v p paired.good legal paired.sent-as paired.ranked twin station k m m' d (sent-event m' e) m-at d-at
            (unfold done_of in here));
        twins = all-twins;
      }))

  follows-here : Follows s u (done_of node call)
  unfolding done_of
  follows-here = (
    (p, p-at, same-as s w u.sent call node v p paired.good legal paired.sent-as paired.ranked twin station),
    λ one q q-at m t.
        let same : q ≡ p = some_inj (sym q-at ∙ p-at) in
        subst (λ (n : ℕ). n ≤ message_due s.epsilon s.delta m) (sym moved)
        (none-expired s w u.sent call node v p paired.good legal paired.sent-as paired.ranked twin station one m
        (subst (λ (x : Process). Memᴰ m (buffered x (heard_here u.sent call))) same t)),
  )

-- a call that is no event leaves the published program as it was, and it sends nothing
pub publish-idle : (s : Setup) (u : Published) (d : Done) → is_event d ≡ false → publish deliverable_by s u d ≡ record { processes = u.processes; sent = u.sent ++ (none ∷ []) }
unfolding publish
publish-idle s u d idle = rw idle (go (get_elem? u.processes d.node))
  where
    go : (o : Option Process) → publish_on deliverable_by s u d false o ≡ record { processes = u.processes; sent = u.sent ++ (none ∷ []) }
    go none = refl
    go (some p) = refl

-- a call that is no event: it sends nothing, and leaves every station as it was
module _ (s : Setup) (w : World) (u : Published) (call : Call) (node : Node) (paired : Paired s w u) (at : get_elem? w.nodes call.node ≡ some node)
    (idle : is_event (done_of node call) ≡ false) (good : Good (steady s) 0 0 (act w call))
    (same : (j : ℕ) (a : Node) → get_elem? (nodes_after w.nodes call node) j ≡ some a → a.listens ≡ false
    → (get_elem? w.nodes j ≡ some a) × ((k : ℕ) → heard_in j k (done_of node call) ≡ false)) where
  none-sent : (m : Message) → ◌≡◌ {A = Option Message} none (some m) → ⊥
  none-sent m e = let z : ◌≡◌ {A = ℕ} 0 1 = cc in omega arith

  paired-idle : Paired s (act w call) (publish deliverable_by s u (done_of node call))
  paired-idle =
      subst (λ (y : World). Paired s y (publish deliverable_by s u (done_of node call))) (sym (act-is w call node at))
      (subst (Paired s (record { nodes = nodes_after w.nodes call node; past = w.past ++ (done_of node call ∷ []) })) (sym (publish-idle s u (done_of node call) idle))
      (record {
        good = subst (Good (steady s) 0 0) (act-is w call node at) good;
        sent-as =
            sent-as-snoc s w.past u.sent (done_of node call) none paired.sent-as
            (record { each = λ h. absurd (clash (sends-event (done_of node call) h) idle); only = λ m e. absurd (none-sent m e) });
        ranked =
            ranked-snoc s w.past u.sent (done_of node call) none paired.sent-as.same_length paired.ranked
            (λ k m m' d e. absurd (none-sent m' e));
        twins = λ j a a_at kind.
            let (old, quiet) = same j a a_at kind in
            let (q, q-at, t) = paired.twins j a old kind in (
              q,
              q-at,
              twin-stays s w.past u.sent j a q (done_of node call) none paired.sent-as.same_length (paired.good.heard-before j)
                  quiet (λ m e. absurd (none-sent m e)) t,
            );
      }))

-- a refused call
paired-refused :
    (s : Setup) (w : World) (u : Published) (call : Call) (node : Node) → Paired s w u → get_elem? w.nodes call.node ≡ some node
    → is_accepted (output_of node call) ≡ false → Paired s (act w call) (publish deliverable_by s u (done_of node call))
paired-refused s w u call node paired at refused =
    paired-idle s w u call node paired at (unfold is_event done_of in (rw refused refl)) (refused-good (steady s) 0 0 w call node paired.good at refused)
    (λ j a a_at kind. (same-node j a a_at, λ k. unfold heard_in done_of in (rw refused refl)))
  where
    same-node : (j : ℕ) (a : Node) → get_elem? (nodes_after w.nodes call node) j ≡ some a → get_elem? w.nodes j ≡ some a
    same-node j a a_at =
        elim (eq-or-ne call.node j) [
          | inl e ↦
              let a-is : node_after node call.step (output_of node call) ≡ a = some_inj (sym (after-at w.nodes call node at) ∙ (ap (get_elem? (nodes_after w.nodes call node)) e ∙ a_at)) in
              ap (get_elem? w.nodes) (sym e) ∙ (at ∙ ap some (sym (refused-node node call refused) ∙ a-is))
          | inr e ↦ sym (after-other w.nodes call node j e) ∙ a_at
        ]

-- and an observer's
paired-observed :
    (s : Setup) (w : World) (u : Published) (call : Call) (node : Node) (v : ℕ) → Paired s w u → PlainLegal s 0 w call node v → node.listens ≡ true
    → Paired s (act w call) (publish deliverable_by s u (done_of node call))
paired-observed s w u call node v paired legal listens =
    paired-idle s w u call node paired legal.along.at (unfold is_event done_of in (rw (legal.called.accepted, listens) refl))
    (step-good (steady s) (steady s) 0 0 w call node node v paired.good legal.along (ends (steady s) (steady s) 0 0 (settles-fresh (steady s)) w call node node v paired.good legal.along))
    (λ j a a_at kind. let ne = other j a a_at kind in (sym (after-other w.nodes call node j ne) ∙ a_at, quiet j ne))
  where
    other : (j : ℕ) (a : Node) → get_elem? (nodes_after w.nodes call node) j ≡ some a → a.listens ≡ false → call.node ≡ j → ⊥
    other j a a_at kind e =
        let a-is : node_after node call.step (output_of node call) ≡ a = some_inj (sym (after-at w.nodes call node legal.along.at) ∙ (ap (get_elem? (nodes_after w.nodes call node)) e ∙ a_at)) in
        clash (sym (ap (λ (x : Node). x.listens) a-is) ∙ (unfold node_after in listens)) kind

    quiet : (j : ℕ) → (call.node ≡ j → ⊥) → (k : ℕ) → heard_in j k (done_of node call) ≡ false
    quiet j ne k = unfold heard_in done_of in (rw (legal.called.accepted, ne_eqb call.node j ne) refl)

-- a station that makes an accepted call, and its process
pub record Acting (s : Setup) (w : World) (u : Published) (call : Call) (node : Node) (v : ℕ) : Type 0 where
  pub legal : PlainLegal s 0 w call node v
  pub station : node.listens ≡ false
  pub process : Process
  pub at : get_elem? u.processes call.node ≡ some process
  pub twin : Twin s w.past u.sent call.node node process

-- a call more, and all stations beside their processes after it
pub record OneMore (s : Setup) (w : World) (u : Published) (call : Call) : Type 0 where
  pub node : Node
  pub at : get_elem? w.nodes call.node ≡ some node
  pub paired : Paired s (act w call) (publish deliverable_by s u (done_of node call))
  pub acting : is_event (done_of node call) ≡ true → Acting s w u call node (done_of node call).clock

pub one_more :
    (s : Setup) (x : ℕ) (w : World) (u : Published) (call : Call) → Paired s w u → allowed s x w call ≡ true → none_stale (act w call).past ≡ true
    → OneMore s w u call
one_more s x w u call paired ok fresh = go (allowed-fact s x (stale_until s x + s.epsilon) w call (λ v h. omega arith) ok)
  where
    go :
        (node : Node) × (get_elem? w.nodes call.node ≡ some node)
        × ((is_accepted (output_of node call) ≡ false) ⊎ PlainLegal s (stale_until s x + s.epsilon) w call node (done_of node call).clock)
        → OneMore s w u call
    go (node, at, inl refused) =
        record {
          node = node;
          at = at;
          paired = paired-refused s w u call node paired at refused;
          acting = λ made. absurd (clash (event-accepted (done_of node call) made) (unfold done_of in refused));
        }
    go (node, at, inr legal) =
        by_kind
        (record {
          called = legal.called;
          along =
              legal-fresh (steady s) (steady s) (stale_until s x + s.epsilon) w call node node (done_of node call).clock legal.along (inr (λ memory explained f m. refl))
              (last-sent w call node at legal.called.accepted fresh);
        })
        (true-or-false node.listens)
      where
        by_kind : PlainLegal s 0 w call node (done_of node call).clock → (node.listens ≡ true) ⊎ (node.listens ≡ false) → OneMore s w u call
        by_kind here (inl listens) =
            record {
              node = node;
              at = at;
              paired = paired-observed s w u call node (done_of node call).clock paired here listens;
              acting = λ made. absurd (clash listens (unfold done_of in (event-kind (done_of node call) made)));
            }
        by_kind here (inr station) =
            let (p, p-at, twin) = paired.twins call.node node at station in
            record {
              node = node;
              at = at;
              paired = paired-accepted s w u call node (done_of node call).clock paired here p p-at twin station;
              acting = λ made. record { legal = here; station = station; process = p; at = p-at; twin = twin };
            }

-- what is said of each event of a list of calls, by those before it
abbrev pub EachEvent : (List Done → Done → Type 0) → List Done → Type 0
EachEvent said past = (j : ℕ) (d : Done) → get_elem? past j ≡ some d → is_event d ≡ true → said (take j past) d

pub each_snoc :
    (said : List Done → Done → Type 0) (past : List Done) (d : Done) → EachEvent said past → (is_event d ≡ true → said past d)
    → EachEvent said (past ++ (d ∷ []))
each_snoc said past d each last j e at made =
    elim (get_elem?-snoc-cases past d j at) [
      | inl q ↦
          let h : j < length past = get_elem?-lt past j q in
          subst (λ (l : List Done). said l e) (sym (take-append-le j past (d ∷ []) (omega arith))) (each j e q made)
      | inr q ↦
          subst (λ (n : ℕ). said (take n (past ++ (d ∷ []))) e) (sym q.0)
          (subst (λ (l : List Done). said l e) (sym (take-append_seam past (d ∷ [])))
          (subst (λ (y : Done). said past y) (sym q.1) (last (ap is_event (sym q.1) ∙ made))))
    ]

pub each_none : (said : List Done → Done → Type 0) → EachEvent said []
each_none said j d at = let z : j < 0 = get_elem?-lt [] j at in absurd (omega arith)

-- the calls of a list, one after the other
abbrev pub AllFollow : Setup → Published → List Done → Type 0
AllFollow s start past = EachEvent (λ l d. Follows s (publish_all deliverable_by s start l) d) past

pub publish-snoc : (s : Setup) (past : List Done) (u : Published) (d : Done) → publish_all deliverable_by s u (past ++ (d ∷ [])) ≡ publish deliverable_by s (publish_all deliverable_by s u past) d
unfolding publish_all
publish-snoc s [] u d = refl
publish-snoc s (a ∷ past) u d = publish-snoc s past (publish deliverable_by s u a) d

-- one call more
one_follows :
    (s : Setup) (x : ℕ) (start : Published) (w : World) (call : Call) → Paired s w (publish_all deliverable_by s start w.past) → AllFollow s start w.past
    → allowed s x w call ≡ true → none_stale (act w call).past ≡ true
    → Paired s (act w call) (publish_all deliverable_by s start (act w call).past) × AllFollow s start (act w call).past
one_follows s x start w call paired follow ok fresh =
    let u = publish_all deliverable_by s start w.past in
    let more = one_more s x w u call paired ok fresh in
    let d = done_of more.node call in
    let past_is : (act w call).past ≡ w.past ++ (d ∷ []) = ap (λ (y : World). y.past) (act-is w call more.node more.at) in (
      subst (Paired s (act w call)) (sym (ap (publish_all deliverable_by s start) past_is ∙ publish-snoc s w.past start d)) more.paired,
      subst (AllFollow s start) (sym past_is)
          (each_snoc (λ l e. Follows s (publish_all deliverable_by s start l) e) w.past d follow
          (λ made.
          let a = more.acting made in
          follows-here s w u call more.node d.clock paired a.legal a.process a.at a.twin a.station)),
    )

all-follow :
    (s : Setup) (x : ℕ) (start : Published) (calls : List Call) (w : World) → Paired s w (publish_all deliverable_by s start w.past) → AllFollow s start w.past
    → keeps s x w calls ≡ true → none_stale (run_from w calls).past ≡ true → AllFollow s start (run_from w calls).past
unfolding run_from keeps
all-follow s x start [] w paired follow kept fresh = follow
all-follow s x start (call ∷ calls) w paired follow kept fresh =
    let r = one_follows s x start w call paired follow (and_left (allowed s x w call) (keeps s x (act w call) calls) kept) (none-stale-before calls (act w call) fresh) in
    all-follow s x start calls (act w call) r.0 r.1 (and_right (allowed s x w call) (keeps s x (act w call) calls) kept) fresh

pub fresh-follow :
    (s : Setup) (nodes : List Node) (calls : List Call) → good_start s nodes ≡ true → all_fresh s nodes ≡ true
    → keeps s (largest_clock nodes) (at_start nodes) calls ≡ true → none_stale (run_from (at_start nodes) calls).past ≡ true
    → AllFollow s (published_start s nodes) (run_from (at_start nodes) calls).past
unfolding at_start publish_all
fresh-follow s nodes calls start fresh kept none_old =
    all-follow s (largest_clock nodes) (published_start s nodes) calls (at_start nodes) (paired-fresh s nodes start fresh)
    (each_none (λ l e. Follows s (publish_all deliverable_by s (published_start s nodes) l) e)) kept none_old

pub demand2-fresh : Demand2Fresh
demand2-fresh s nodes calls start fresh kept none_old j d at acc = (fresh-follow s nodes calls start fresh kept none_old j d at acc).0
