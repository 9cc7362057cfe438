-- A refused call: it changes no node, and adds nothing to what is known.
-- Assumes nothing.
use Prim.Native.Nat.{ℕ, zero, suc}
use native.Mathlib.Omega.{arith}
use mathlib.Core.Path.{◌≡◌, refl, sym, ap, subst, ◌∙◌}
use mathlib.Core.Logic.{inl, inr}
use mathlib.Core.Bool.{Bool, true, false, cond, or-false}
use mathlib.Core.List.{List, [], ◌∷◌, ◌++◌}
use mathlib.Core.Option.{Option, none, some}
use lib.Dec.{eqb-suc-zero}
use lib.ListN.{set, get_elem?, length-append}
use lib.Seq.{set-get_or}
use Rattle.laws.specs.Lists.{any}
use Rattle.laws.proofs.Numbers.{clash}
use Rattle.laws.proofs.Lists.{any_append, get_elem?-lt, get_elem?-get_or, get_elem?-append, get_elem?-snoc-cases}
use Rattle.model.specs.Frame.{Frame}
use Rattle.model.specs.Question.{first_no}
use Rattle.model.specs.Tick.{call_questions, refusal, acceptance, tick_by, tick}
use Rattle.model.specs.Observer.{listen_questions, not_listened, listened, listen_by, listen}
use Rattle.model.specs.Schedule.{Schedule, Wider, along}
use Rattle.model.specs.Wider.{wider_acceptance, wider_call_questions, wider_tick_by, tick_in}
use Rattle.model.specs.WiderCalls.{listen_in_questions, wider_listened, wider_listen_by, listen_in}
use Rattle.model.specs.Run.{Node, Call, Done, World, input_of, listening_of, listened_output, is_accepted, output_of, done_of, node_after, moved_clock, act, is_event, lengthened, output_by}
use Rattle.theory.specs.Demand3.{heard_in}
use Rattle.theory.proofs.HearLoop.{covered-sends}
use Rattle.theory.proofs.World.{NodeOk, heard_at, Explained, Good, act-is, sends-event, event-accepted, nodes_after}

-- a refused call leaves its node
pub refused-node : (node : Node) (call : Call) → is_accepted (output_of node call) ≡ false → node_after node call.step (output_of node call) ≡ node
unfolding node_after moved_clock output_of lengthened tick listen tick_in listen_in is_accepted refusal acceptance wider_acceptance input_of not_listened listened wider_listened listening_of listened_output
refused-node node call h = go call.wider h
  where
    found : Node
    found = lengthened call.spare node

    ticked : (k : ℕ) → is_accepted (tick_by k (input_of found call)) ≡ false → node_after node call.step (tick_by k (input_of found call)) ≡ node
    ticked zero e = absurd (clash refl e)
    ticked (suc k) e = rw (eqb-suc-zero k) refl

    ticked-in :
        (g : Schedule) (k : ℕ) → is_accepted (wider_tick_by k g (input_of found call)) ≡ false
        → node_after node call.step (wider_tick_by k g (input_of found call)) ≡ node
    ticked-in g zero e = absurd (clash refl e)
    ticked-in g (suc k) e = rw (eqb-suc-zero k) refl

    heeded :
        (k : ℕ) → is_accepted (listened_output found call (listen_by k (listening_of found call))) ≡ false
        → node_after node call.step (listened_output found call (listen_by k (listening_of found call))) ≡ node
    heeded zero e = absurd (clash refl e)
    heeded (suc k) e = rw (eqb-suc-zero k) refl

    heeded-in :
        (g : Schedule) (k : ℕ) → is_accepted (listened_output found call (wider_listen_by k g (listening_of found call))) ≡ false
        → node_after node call.step (listened_output found call (wider_listen_by k g (listening_of found call))) ≡ node
    heeded-in g zero e = absurd (clash refl e)
    heeded-in g (suc k) e = rw (eqb-suc-zero k) refl

    plain :
        (b : Bool) → is_accepted (cond b (listened_output found call (listen (listening_of found call))) (tick (input_of found call))) ≡ false
        → node_after node call.step (cond b (listened_output found call (listen (listening_of found call))) (tick (input_of found call))) ≡ node
    plain true e = heeded (first_no (listen_questions (listening_of found call))) e
    plain false e = ticked (first_no (call_questions (input_of found call))) e

    both :
        (w : Wider) (b : Bool) → is_accepted (cond b (listened_output found call (listen_in w (listening_of found call))) (tick_in w (input_of found call))) ≡ false
        → node_after node call.step (cond b (listened_output found call (listen_in w (listening_of found call))) (tick_in w (input_of found call))) ≡ node
    both w true e = heeded-in (along call.setup w call.clock) (first_no (listen_in_questions w (listening_of found call))) e
    both w false e = ticked-in (along call.setup w call.clock) (first_no (wider_call_questions w (input_of found call))) e

    go : (w : Option Wider) → is_accepted (output_by w found call) ≡ false → node_after node call.step (output_by w found call) ≡ node
    go none e = plain node.listens e
    go (some w) e = both w node.listens e

refused-heard : (past : List Done) (d : Done) (i k : ℕ) → is_accepted d.output ≡ false → heard_at (past ++ (d ∷ [])) i k ≡ heard_at past i k
unfolding heard_at any heard_in
refused-heard past d i k refused =
    rw (any_append (heard_in i k) past (d ∷ []), refused) (or-false (any (heard_in i k) past))

-- and adds nothing to what is known
good_more :
    (g : Schedule) (floor from : ℕ) (w : World) (d : Done) → Good g floor from w → is_accepted d.output ≡ false
    → (node : Node) × (get_elem? w.nodes d.node ≡ some node) × (node.listens ≡ d.listens)
    → Good g floor from (record { nodes = w.nodes; past = w.past ++ (d ∷ []) })
good_more g floor from w d good refused maker =
    record {
      group = good.group;
      node = λ i a at. node-more i a (good.node i a at);
      calls = λ k e at acc. good.calls k e (old k e at acc) acc;
      unique = λ k l a b p q x y o c. good.unique k l a b (old k a p x) (old l b q y) x y o c;
      kinds = λ k e at.
          elim (get_elem?-snoc-cases w.past d k at) [
            | inl q ↦ good.kinds k e q
            | inr q ↦ subst (λ (x : Done). (node : Node) × (get_elem? w.nodes x.node ≡ some node) × (node.listens ≡ x.listens)) (sym q.1) maker
          ];
      heard-before = λ i k h. omega (arith, good.heard-before i k (sym (heard-same i k) ∙ h), length-append w.past (d ∷ []));
    }
  where
    old : (k : ℕ) (m : Done) → get_elem? (w.past ++ (d ∷ [])) k ≡ some m → is_event m ≡ true → get_elem? w.past k ≡ some m
    old k m at acc =
        elim (get_elem?-snoc-cases w.past d k at) [
          | inl q ↦ q
          | inr q ↦ absurd (clash (ap (λ (x : Done). is_accepted x.output) (sym q.1) ∙ event-accepted m acc) refused)
        ]

    heard-same : (i k : ℕ) → heard_at (w.past ++ (d ∷ [])) i k ≡ heard_at w.past i k
    heard-same i k = refused-heard w.past d i k refused

    explained : (i v : ℕ) (f : Frame) → Explained g floor w.past (heard_at w.past i) v f → Explained g floor (w.past ++ (d ∷ [])) (heard_at (w.past ++ (d ∷ [])) i) v f
    explained i v f (inl h) = inl h
    explained i v f (inr x) =
        inr (x.0, x.1, get_elem?-append w.past (d ∷ []) x.0 (get_elem?-lt w.past x.0 x.2) ∙ x.2, x.3, heard-same i x.0 ∙ x.4, x.5, x.6)

    node-more : (i : ℕ) (a : Node) → NodeOk g floor from w i a → NodeOk g floor from (record { nodes = w.nodes; past = w.past ++ (d ∷ []) }) i a
    node-more i a (inl u) =
        inl (record {
          early = u.early;
          unheard = λ k. heard-same i k ∙ u.unheard k;
          uncalled = λ k e at acc same. u.uncalled k e (old k e at acc) acc same;
        })
    node-more i a (inr l) =
        inr (record {
          memory = l.memory;
          members = λ f mem. explained i a.clock f (l.members f mem);
          waiting = λ k m at fol hd un. l.waiting k m (old k m at (sends-event m (covered-sends from m fol))) fol (sym (heard-same i k) ∙ hd) un;
          stamp = λ station.
              let t = l.stamp station in
              record { tables = t.tables; bounded = t.bounded; passed_on = λ k e at acc same. t.passed_on k e (old k e at acc) acc same };
        })

-- a refused call
pub refused-good :
    (g : Schedule) (floor from : ℕ) (w : World) (call : Call) (node : Node) → Good g floor from w → get_elem? w.nodes call.node ≡ some node
    → is_accepted (output_of node call) ≡ false → Good g floor from (act w call)
refused-good g floor from w call node good at refused =
    subst (Good g floor from) (sym (act-is w call node at))
    (subst (λ (x : List Node). Good g floor from (record { nodes = x; past = w.past ++ (done_of node call ∷ []) })) (sym same_nodes)
    (good_more g floor from w (done_of node call) good (unfold done_of in refused) (node, (unfold done_of in at), (unfold done_of in refl))))
  where
    same_nodes : nodes_after w.nodes call node ≡ w.nodes
    same_nodes =
        ap (set w.nodes call.node) (refused-node node call refused ∙ sym (get_elem?-get_or w.nodes call.node node at))
        ∙ set-get_or w.nodes call.node node
