-- 02, 2.10: demand 3 straight through V: the setup that each node has, what it finds on its shelf when that changes, and the two theorems.
-- Assumes nothing.
use Prim.Native.Nat.{ℕ, zero, suc, ◌+◌, ◌*◌, ◌%◌, ◌≤◌, ◌<◌}
use native.Mathlib.Omega.{arith}
use mathlib.Core.Path.{◌≡◌, refl, sym, ap, ap₂, subst, ◌∙◌}
use mathlib.Core.Logic.{◌⊎◌, inl, inr}
use mathlib.Core.Bool.{Bool, true, false, ◌&&◌, ◌||◌, not, cond}
use mathlib.Core.List.{List, [], ◌∷◌, ◌++◌, Memᴰ}
use mathlib.Core.Option.{Option, none, some}
use lib.Dec.{leb, ltb, eqb}
use lib.ListN.{length, set, get_elem?}
use borrow.Author.Tests.{leb-true, ltb-true, eqb-true, le-ltb}
use Rattle.laws.specs.Lists.{within, every, same_list}
use Rattle.laws.proofs.Numbers.{eq-or-ne, clash, and_left, and_right, or_cases, false-of-no, false_of_not}
use Rattle.laws.proofs.Lists.{every-mem, any-of-false, get_elem?-mem, mem-get_elem?, get_elem?-lt, get_elem?-set-same, get_elem?-set-other, get_elem?-snoc-cases, same_list-true}
use Rattle.model.specs.Setup.{Setup, width, is_member, in_limits, holdback_length}
use Rattle.model.specs.Frame.{Frame}
use Rattle.model.specs.Batch.{batch_entries}
use Rattle.model.specs.Holdback.{cut_by}
use Rattle.model.specs.Tick.{holdback_size}
use Rattle.model.specs.Codec.{frame_of}
use Rattle.model.specs.Schedule.{Schedule, steady, widening, limits_at, modulus_of, Wider, wider_setup, change_near, same_pairs, along, half_of, due_along}
use Rattle.model.specs.Wider.{frame_half, wider_held_bytes, wider_held}
use Rattle.model.specs.Run.{Node, Source, sent_by, stale, Call, Done, World, lengthened, is_accepted, output_of, schedule_by, schedule_of, done_of, node_after, moved_clock, act, at_start, run_from, sends, message_bytes}
use Rattle.theory.specs.Premises.{distinct, together, valid_for, exact_holdback, largest_clock, stale_until, one_setup, true_clock, step_allowed, is_fresh, is_sent, none_stale, same_setup}
use Rattle.theory.specs.Demand3.{covered_from, heard_in}
use Rattle.theory.specs.Changeover.{Changeover, along_all, good_changeover, Phase, older, both, newer, phase_after, phase_setup, wider_for, same_wider, phase_wider, phase_size, well_past, phase_allowed, frozen_until, drift_of, entry_through, entries_through, heard_through, setup_through, accepted_through, allowed_in, allowed_through, phases_by, phases_after, keeps_through, exact_holdbacks, starts_through, fresh_through}
use Rattle.theory.specs.Through.{covered_through, Demand3Through, Demand3FreshThrough}
use Rattle.lemmas.proofs.Counts.{trimmed-wide}
use Rattle.lemmas.proofs.Schedules.{Widens, DueBy, old, new, due-by, limits-widest}
use Rattle.lemmas.proofs.WideFrames.{half_back, wide-held}
use Rattle.lemmas.proofs.WiderReceiving.{queue-kept}
use Rattle.lemmas.proofs.Agreeing.{Agrees}
use Rattle.lemmas.proofs.Positions.{place_at, placed}
use Rattle.theory.proofs.World.{event_frame, heard_at, Explained, AllExplained, Memory, Untouched, AsWide, Called, Legal, Group, SentEntry, EntryOk, act-is, nodes_after, after-at, after-other, event-accepted}
use Rattle.theory.proofs.Received.{kept_on, receive-at, memory-left}
use Rattle.theory.proofs.HearLoop.{Settles, some_inj}
use Rattle.theory.proofs.Refused.{refused-node}
use Rattle.theory.proofs.Start.{distinct-fact, stations-few, same-setup, good_start_lem, largest-clock}
use Rattle.theory.proofs.Fresh.{FreshNode, fresh-node, good-fresh, settles-fresh, none-stale-before, last-sent}
use Rattle.theory.proofs.Stabilize.{Allowed, Legals}
use Rattle.theory.proofs.Demand3.{right_from, Runs, run-promises}
use Rattle.theory.proofs.Changeover.{widens-fact, drift-ahead, same-wider, agrees-call}

-- ---- what a node has on its shelf

-- a memory's frames are what its bytes hold
memory-held : (g : Schedule) (node : Node) (memory : Memory g node) → wider_held g node.holdback ≡ memory.queue
memory-held g node memory = ap (wider_held g) memory.bytes ∙ wide-held g memory.queue (λ f m. (memory.placed.frames f m).wide) memory.rest

-- with a plain setup, of one width
abbrev pub Fits : Changeover → Phase → Node → Type 0
Fits y older node = (memory : Memory (along_all y) node) (f : Frame) → Memᴰ f memory.queue → frame_half (along_all y) f ≡ y.before.epsilon
Fits y both node = Unit
Fits y newer node = (memory : Memory (along_all y) node) (f : Frame) → Memᴰ f memory.queue → frame_half (along_all y) f ≡ y.after.epsilon

-- the schedule of a call by the setup that it has
abbrev pub Has : Changeover → Phase → Schedule → Type 0
Has y older l = l ≡ steady y.before
Has y both l = (f : Frame) → frame_half l f ≡ frame_half (along_all y) f
Has y newer l = l ≡ steady y.after

-- with both pairs all frames are taken for as wide as they are
along-half : (y : Changeover) (v u : ℕ) (count : ℕ) → half_of (along y.before (wider_for y v) u) count ≡ half_of (along_all y) count
unfolding along wider_for
along-half y v u count = go (same_pairs y.before (wider_for y v)) refl
  where
    w : Wider
    w = wider_for y v

    go :
        (b : Bool) → same_pairs y.before w ≡ b
        → half_of (cond b (steady y.before) (widening y.before (wider_setup y.before w) (change_near y.before.modulus u w))) count ≡ half_of (along_all y) count
    go false e = refl
    go true e = sym (either (eqb count (width y.after.epsilon)))
      where
        same : y.after.epsilon ≡ y.before.epsilon
        same = eqb-true y.after.epsilon y.before.epsilon (and_left (eqb y.after.epsilon y.before.epsilon) (eqb y.after.delta y.before.delta) (unfold same_pairs in e))

        either : (b : Bool) → cond b y.after.epsilon y.before.epsilon ≡ y.before.epsilon
        either true = same
        either false = refl

has_both :
    (y : Changeover) (v u : ℕ) (s : Setup) (w : Wider) → same_wider w (wider_for y v) ≡ true → s ≡ y.before → (f : Frame)
    → frame_half (along s w u) f ≡ frame_half (along_all y) f
has_both y v u s w wider same f =
    ap₂ (λ (t : Setup) (x : Wider). half_of (along t x u) (length f.stamp.kn)) same (same-wider w (wider_for y v) wider) ∙ along-half y v u (length f.stamp.kn)

has-by :
    (y : Changeover) (v u : ℕ) (s : Setup) (phase : Phase) (w : Option Wider) → phase_wider y v w ≡ true → s ≡ phase_setup y (phase_after phase w)
    → Has y (phase_after phase w) (schedule_by w s u)
has-by y v u s older none wider same = ap steady same
has-by y v u s both none wider same = ap steady same
has-by y v u s newer none wider same = ap steady same
has-by y v u s older (some w) wider same = has_both y v u s w wider same
has-by y v u s both (some w) wider same = has_both y v u s w wider same
has-by y v u s newer (some w) wider same = has_both y v u s w wider same

-- what a call leaves
module _ (y : Changeover) (l : Schedule) (node found : Node) (call : Call) {v : ℕ} (c : Called (along_all y) l node found call v) where
  abbrev node' : Node
  node' = node_after node call.step (output_of node call)

  left-half : (memory : Memory (along_all y) node') (f : Frame) → Memᴰ f memory.queue → frame_half (along_all y) f ≡ frame_half l f
  unfolding memory-left
  left-half memory f m =
      let here : memory.queue ≡ kept_on l v found call =
      sym (memory-held (along_all y) node' memory) ∙ memory-held (along_all y) node' (memory-left (along_all y) l node found call c) in
      let kept : Memᴰ f (kept_on l v found call) = subst (λ (q : List Frame). Memᴰ f q) here m in
      sym (c.agrees.halves (length f.stamp.kn) ((queue-kept l _ _ _ _ _ (receive-at (along_all y) l node found call c)).frames f kept).wide)

  pub fits_next : (next : Phase) → Has y next l → Fits y next node'
  fits_next older has = λ memory f m. left-half memory f m ∙ ap (λ (h : Schedule). frame_half h f) has
  fits_next both has = tt
  fits_next newer has = λ memory f m. left-half memory f m ∙ ap (λ (h : Schedule). frame_half h f) has

-- ---- both pairs, then the new one: every frame on the shelf is wide

module _ (y : Changeover) (good : Widens y.before y.after) (floor : ℕ) (past : List Done) (heard : ℕ → Bool) (node : Node) (memory : Memory (along_all y) node)
    (explained : AllExplained (along_all y) floor past heard node.clock memory.queue)
    (past-V : y.change + y.after.delta + 2 * y.after.epsilon ≤ node.clock) (thawed : floor + y.after.delta + y.after.epsilon ≤ node.clock)
  where
    -- by either pair
    due-most : (change x : ℕ) → due_along (widening y.before y.after change) x ≤ x + y.after.delta + y.after.epsilon
    due-most change x = go (due-by y.before y.after change x)
      where
        go : DueBy y.before y.after change x (due_along (widening y.before y.after change) x) → due_along (widening y.before y.after change) x ≤ x + y.after.delta + y.after.epsilon
        go (old p q) = omega (arith, q, good.epsilon, good.delta)
        go (new p q) = omega (arith, q)

    wide-all : (f : Frame) → Memᴰ f memory.queue → frame_half (along_all y) f ≡ y.after.epsilon
    wide-all f m = go (explained f m)
      where
        later : modulus_of (along_all y) + node.clock < due_along (placed (along_all y)) (place_at (along_all y) node.clock f + f.stamp.c)
        later = memory.placed.later f m

        most : due_along (placed (along_all y)) (place_at (along_all y) node.clock f + f.stamp.c) ≤ place_at (along_all y) node.clock f + f.stamp.c + y.after.delta + y.after.epsilon
        most = due-most (y.change + modulus_of (along_all y)) (place_at (along_all y) node.clock f + f.stamp.c)

        close : f.stamp.c < y.after.epsilon
        close = omega (arith, (memory.placed.frames f m).close, (limits-widest (along_all y) good node.clock).0)

        go : Explained (along_all y) floor past heard node.clock f → frame_half (along_all y) f ≡ y.after.epsilon
        go (inl h) = absurd (omega (arith, h, later, most, thawed))
        go (inr x) =
            let R : ℕ = x.1.clock in
            let late : y.change ≤ R = omega (arith, x.6, later, most, close, past-V) in
            let half : ℕ = (limits_at (along_all y) R).epsilon in
            let is : half ≡ y.after.epsilon = rw (le-ltb R y.change late) refl in
            let wide : length (event_frame (along_all y) x.1).stamp.kn ≡ width half = unfold event_frame frame_of in (trimmed-wide half _) in
            ap (frame_half (along_all y)) x.5 ∙ (ap (half_of (along_all y)) (wide ∙ ap width is) ∙ half_back (along_all y) y.after.epsilon (inr refl))

-- ---- the widths of what a call opens

module _ (y : Changeover) (good : Widens y.before y.after) (frozen floor : ℕ) (w : World) (i : ℕ) (node : Node) (v : ℕ) (l : Schedule)
    (thaws : frozen ≤ node.clock → y.change + y.after.delta + 2 * y.after.epsilon ≤ node.clock → floor + y.after.delta + y.after.epsilon ≤ node.clock)
  where
    pub widths-by :
        (phase next : Phase) → phase_allowed y frozen node.clock v phase next ≡ true → Has y next l → Fits y phase node
        → AsWide (along_all y) l floor w i node
    unfolding well_past
    widths-by older older h has fits = λ memory explained f m. ap (λ (x : Schedule). frame_half x f) has ∙ sym (fits memory f m)
    widths-by newer newer h has fits = λ memory explained f m. ap (λ (x : Schedule). frame_half x f) has ∙ sym (fits memory f m)
    widths-by older both h has fits = λ memory explained f m. has f
    widths-by both both h has fits = λ memory explained f m. has f
    widths-by both newer h has fits =
        let first : frozen ≤ node.clock = leb-true _ _ (and_left (leb frozen node.clock) _ h) in
        let far : y.change + y.after.delta + 2 * y.after.epsilon ≤ node.clock =
        leb-true _ _ (and_left (leb (y.change + y.after.delta + 2 * y.after.epsilon) node.clock) _ (and_right (leb frozen node.clock) _ h)) in
        λ memory explained f m. ap (λ (x : Schedule). frame_half x f) has
        ∙ sym (wide-all y good floor w.past (heard_at w.past i) node memory explained far (thaws first far) f m)
    widths-by older newer h has fits = absurd (clash h refl)
    widths-by both older h has fits = absurd (clash h refl)
    widths-by newer older h has fits = absurd (clash h refl)
    widths-by newer both h has fits = absurd (clash h refl)

-- ---- all nodes, between calls

-- no accepted call yet
abbrev Uncalled : List Done → ℕ → Type 0
Uncalled past i = (k : ℕ) (d : Done) → get_elem? past k ≡ some d → is_accepted d.output ≡ true → d.node ≡ i → ⊥

-- each node has made no call yet, and its clock lies far below the floor, or its shelf fits its setup
abbrev pub Stages : Changeover → ℕ → List Phase → World → Type 0
Stages y floor phases w =
    (i : ℕ) (node : Node) (phase : Phase) → get_elem? w.nodes i ≡ some node → get_elem? phases i ≡ some phase
    → (Uncalled w.past i × (node.clock + y.after.epsilon + y.after.epsilon ≤ floor)) ⊎ Fits y phase node

uncalled-touch : (y : Changeover) (floor : ℕ) (w : World) (i : ℕ) (node : Node) → Uncalled w.past i → node.clock + y.after.epsilon + y.after.epsilon ≤ floor → Untouched (along_all y) floor w i node
unfolding heard_at heard_in
uncalled-touch y floor w i node never early =
    record {
      early = early;
      unheard = λ k.
          any-of-false (heard_in i k) w.past
          (λ d m.
          let at = mem-get_elem? m in
          false-of-no (heard_in i k d)
          (λ h. never at.0 d at.1 (and_left (is_accepted d.output) _ h)
          (eqb-true d.node i (and_left (eqb d.node i) _ (and_right (is_accepted d.output) _ h)))));
      uncalled = λ k d at made same. never k d at (event-accepted d made) same;
    }

uncalled-more : (past : List Done) (d : Done) (i : ℕ) → Uncalled past i → (is_accepted d.output ≡ true → d.node ≡ i → ⊥) → Uncalled (past ++ (d ∷ [])) i
uncalled-more past d i never late k e at acc same =
    elim (get_elem?-snoc-cases past d k at) [
      | inl q ↦ never k e q acc same
      | inr q ↦ late (ap (λ (x : Done). is_accepted x.output) (sym q.1) ∙ acc) (ap (λ (x : Done). x.node) (sym q.1) ∙ same)
    ]

-- after a call of a node with this setup
module _ (y : Changeover) (floor : ℕ) (phases : List Phase) (w : World) (call : Call) (node : Node) (phase : Phase)
    (at : get_elem? w.nodes call.node ≡ some node) (p-at : get_elem? phases call.node ≡ some phase) (stages : Stages y floor phases w)
  where
    abbrev next : Phase
    next = phase_after phase call.wider

    abbrev done : Done
    done = done_of node call

    phases-are : phases_after phases w call ≡ cond (is_accepted done.output) (set phases call.node next) phases
    unfolding phases_after
    phases-are = ap₂ (phases_by phases call) p-at at

    abbrev Then : List Phase → List Node → Type 0
    Then ps nodes = Stages y floor ps (record { nodes = nodes; past = w.past ++ (done ∷ []) })

    -- a refused call changes nothing
    stages-refused : is_accepted (output_of node call) ≡ false → Then phases (nodes_after w.nodes call node)
    stages-refused refused j a ps a_at ps-at =
        let kept : get_elem? w.nodes j ≡ some a =
        elim (eq-or-ne call.node j) [
          | inl q ↦
              subst (λ (x : ℕ). get_elem? w.nodes x ≡ some a) q
              (at ∙ (ap some (sym (refused-node node call refused)) ∙ (sym (after-at w.nodes call node at) ∙ subst (λ (x : ℕ). get_elem? (nodes_after w.nodes call node) x ≡ some a) (sym q) a_at)))
          | inr q ↦ sym (after-other w.nodes call node j q) ∙ a_at
        ] in
        elim (stages j a ps kept ps-at) [
          | inl s ↦ inl (uncalled-more w.past done j s.0 (λ acc same. clash acc (unfold done_of in refused)), s.1)
          | inr s ↦ inr s
        ]

    stages-accepted : Fits y next (node_after node call.step (output_of node call)) → Then (set phases call.node next) (nodes_after w.nodes call node)
    stages-accepted fits j a ps a_at ps-at =
        elim (eq-or-ne call.node j) [
          | inl q ↦
              let is : node_after node call.step (output_of node call) ≡ a =
              some_inj (sym (after-at w.nodes call node at) ∙ subst (λ (x : ℕ). get_elem? (nodes_after w.nodes call node) x ≡ some a) (sym q) a_at) in
              let p-is : next ≡ ps =
              some_inj (sym (get_elem?-set-same phases call.node next (get_elem?-lt phases call.node p-at)) ∙ subst (λ (x : ℕ). get_elem? (set phases call.node next) x ≡ some ps) (sym q) ps-at) in
              inr (subst (λ (x : Node). Fits y ps x) is (subst (λ (p : Phase). Fits y p (node_after node call.step (output_of node call))) p-is fits))
          | inr q ↦
              elim (stages j a ps (sym (after-other w.nodes call node j q) ∙ a_at) (sym (get_elem?-set-other phases call.node j next q) ∙ ps-at)) [
                | inl s ↦ inl (uncalled-more w.past done j s.0 (λ acc same. q (unfold done_of in same)), s.1)
                | inr s ↦ inr s
              ]
        ]

    -- so all stand as they should after it
    stages-next :
        (is_accepted (output_of node call) ≡ true → Fits y next (node_after node call.step (output_of node call)))
        → Stages y floor (phases_after phases w call) (act w call)
    stages-next fits =
        subst (λ (x : World). Stages y floor (phases_after phases w call) x) (sym (act-is w call node at))
        (subst (λ (ps : List Phase). Then ps (nodes_after w.nodes call node)) (sym phases-are) (go (is_accepted done.output) refl))
      where
        go : (b : Bool) → is_accepted done.output ≡ b → Then (cond b (set phases call.node next) phases) (nodes_after w.nodes call node)
        go true e = stages-accepted (fits (unfold done_of in e))
        go false e = stages-refused (unfold done_of in e)

-- ---- one call

-- the entries, one by one
through-lengths : (y : Changeover) (x : ℕ) (past : List Done) (nodes : List Node) (v : ℕ) (es : List (List ℕ)) (os : List Source) → entries_through y x past nodes v es os ≡ true → length es ≡ length os
unfolding entries_through
through-lengths y x past nodes v [] [] h = refl
through-lengths y x past nodes v [] (o ∷ os) h = absurd (clash h refl)
through-lengths y x past nodes v (e ∷ es) [] h = absurd (clash h refl)
through-lengths y x past nodes v (e ∷ es) (o ∷ os) h =
    ap suc (through-lengths y x past nodes v es os (and_right (entry_through y x past nodes v e o) (entries_through y x past nodes v es os) h))

through-at :
    (y : Changeover) (x : ℕ) (past : List Done) (nodes : List Node) (v : ℕ) (es : List (List ℕ)) (os : List Source) → entries_through y x past nodes v es os ≡ true
    → (k : ℕ) (e : List ℕ) (o : Source) → get_elem? es k ≡ some e → get_elem? os k ≡ some o → entry_through y x past nodes v e o ≡ true
unfolding entries_through
through-at y x past nodes v [] os h k e o p q = let z : k < 0 = get_elem?-lt [] k p in absurd (omega arith)
through-at y x past nodes v (e ∷ es) [] h k b o p q = absurd (clash h refl)
through-at y x past nodes v (e ∷ es) (o ∷ os) h zero b o' p q =
    let a : e ≡ b = cc in
    let c : o ≡ o' = cc in
    subst (λ (z : Source). entry_through y x past nodes v b z ≡ true) c
    (subst (λ (z : List ℕ). entry_through y x past nodes v z o ≡ true) a (and_left (entry_through y x past nodes v e o) (entries_through y x past nodes v es os) h))
through-at y x past nodes v (e ∷ es) (o ∷ os) h (suc k) b o' p q =
    through-at y x past nodes v es os (and_right (entry_through y x past nodes v e o) (entries_through y x past nodes v es os) h) k b o' p q

-- one entry; an older frame by what the list allows of such
entry-through :
    (y : Changeover) (x floor : ℕ) (past : List Done) (nodes : List Node) (v : ℕ) (bytes : List ℕ) (o : Source)
    → (o ≡ stale → v ≤ stale_until y.after x → v + (limits_at (along_all y) v).epsilon ≤ floor) → entry_through y x past nodes v bytes o ≡ true
    → EntryOk (along_all y) floor past nodes v bytes o
entry-through y x floor past nodes v bytes stale early h = early refl (leb-true v (stale_until y.after x) h)
entry-through y x floor past nodes v bytes (sent_by k) early h = go (get_elem? past k) refl h
  where
    go : (d : Option Done) → get_elem? past k ≡ d → heard_through y nodes bytes d ≡ true → SentEntry (along_all y) past nodes bytes k
    go none e t = absurd (clash t refl)
    go (some m) e t =
        let a = and_right (sends m) _ t in
        record {
          message = m;
          at = e;
          sent = and_left (sends m) _ t;
          bytes = same_list-true bytes (message_bytes m) (and_left (same_list bytes (message_bytes m)) _ a);
          near_by = leb-true _ _ (and_right (same_list bytes (message_bytes m)) _ a);
        }

-- an accepted call that is allowed
module _ (y : Changeover) (good : Widens y.before y.after) (x frozen floor : ℕ) (w : World) (call : Call) (node : Node) (phase : Phase)
    (at : get_elem? w.nodes call.node ≡ some node) (acc : is_accepted (output_of node call) ≡ true)
    (test : accepted_through y x frozen phase w call (done_of node call) ≡ true)
  where
    abbrev d : Done
    d = done_of node call

    abbrev g : Schedule
    g = along_all y

    abbrev l : Schedule
    l = schedule_of call

    abbrev found : Node
    found = lengthened call.spare node

    abbrev following : Phase
    following = phase_after phase call.wider

    -- its parts
    abbrev P₁ : Bool
    P₁ = setup_through y frozen phase following call d

    abbrev P₂ : Bool
    P₂ = true_clock y.before call d

    abbrev P₃ : Bool
    P₃ = step_allowed (limits_at g d.clock) call

    abbrev P₄ : Bool
    P₄ = together (drift_of y (act w call).nodes) (act w call).nodes

    abbrev P₅ : Bool
    P₅ = entries_through y x w.past (act w call).nodes d.clock (batch_entries call.batch) call.sources

    parts : (P₁ && (P₂ && (P₃ && (P₄ && P₅)))) ≡ true
    unfolding accepted_through
    parts = test

    t₁ : P₁ ≡ true
    t₁ = and_left P₁ (P₂ && (P₃ && (P₄ && P₅))) parts

    r₁ : (P₂ && (P₃ && (P₄ && P₅))) ≡ true
    r₁ = and_right P₁ (P₂ && (P₃ && (P₄ && P₅))) parts

    t₂ : P₂ ≡ true
    t₂ = and_left P₂ (P₃ && (P₄ && P₅)) r₁

    r₂ : (P₃ && (P₄ && P₅)) ≡ true
    r₂ = and_right P₂ (P₃ && (P₄ && P₅)) r₁

    t₃ : P₃ ≡ true
    t₃ = and_left P₃ (P₄ && P₅) r₂

    r₃ : (P₄ && P₅) ≡ true
    r₃ = and_right P₃ (P₄ && P₅) r₂

    -- the step
    steps : (1 ≤ call.step) × (call.step ≤ (limits_at g d.clock).epsilon)
    unfolding step_allowed within
    steps =
        let e : ℕ = (limits_at g d.clock).epsilon in
        (leb-true 1 call.step (and_left (leb 1 call.step) (leb call.step e) t₃), leb-true call.step e (and_right (leb 1 call.step) (leb call.step e) t₃))

    turn : d.clock ≡ node.clock + call.step
    unfolding done_of moved_clock
    turn = rw acc refl

    last-is : d.last ≡ node.clock
    unfolding done_of
    last-is = refl

    clock-is : call.clock ≡ d.clock % y.before.modulus
    unfolding true_clock
    clock-is = eqb-true _ _ t₂

    agrees : Agrees g d.clock l
    agrees =
        agrees-call y good frozen call d clock-is (omega (arith, turn, last-is, steps.0)) (omega (arith, turn, last-is, steps.1, (limits-widest g good d.clock).0)) phase t₁

    -- its setup
    abbrev S₁ : Bool
    S₁ = phase_allowed y frozen d.last d.clock phase following

    abbrev S₂ : Bool
    S₂ = phase_wider y d.clock call.wider

    abbrev S₃ : Bool
    S₃ = one_setup (phase_setup y following) call d

    setups : (S₁ ≡ true) × (S₂ ≡ true) × (S₃ ≡ true)
    unfolding setup_through
    setups =
        let h = and_right S₁ _ t₁ in
        let h' = and_right S₂ _ h in
        (and_left S₁ _ t₁, and_left S₂ _ h, and_left S₃ _ h')

    has : Has y following l
    unfolding schedule_of one_setup
    has =
        has-by y d.clock call.clock call.setup phase call.wider setups.1
        (same-setup call.setup (phase_setup y following) (and_left (same_setup call.setup (phase_setup y following)) _ setups.2))

    allowed-phase : phase_allowed y frozen node.clock d.clock phase following ≡ true
    allowed-phase = subst (λ (z : ℕ). phase_allowed y frozen z d.clock phase following ≡ true) last-is setups.0

    own_is : node.listens ≡ false → call.own ≡ node.own
    unfolding one_setup done_of
    own_is station =
        elim (or_cases node.listens (eqb call.own node.own) (and_right (same_setup call.setup (phase_setup y following)) _ setups.2)) [
          | inl q ↦ absurd (clash q station)
          | inr q ↦ eqb-true call.own node.own q
        ]

    called : Called g l node found call d.clock
    called =
        record {
          accepted = acc;
          along-is = refl;
          found-is = refl;
          own_is = own_is;
          clock-is = clock-is ∙ ap (λ (B : ℕ). d.clock % B) (sym agrees.modulus);
          turn = turn;
          step-pos = steps.0;
          step-few = steps.1;
          agrees = agrees;
        }

    legal-through :
        Untouched g floor w call.node node ⊎ AsWide g l floor w call.node node
        → ((e : ℕ) → get_elem? call.sources e ≡ some stale → d.clock ≤ stale_until y.after x → d.clock + (limits_at g d.clock).epsilon ≤ floor)
        → Legal g l floor w call node found d.clock
    legal-through widths early =
        record {
          at = at;
          called = called;
          widths = widths;
          together = drift-ahead y good (act w call).nodes (and_left P₄ P₅ r₃);
          lengths = through-lengths y x w.past (act w call).nodes d.clock (batch_entries call.batch) call.sources (and_right P₄ P₅ r₃);
          entry = λ e bytes o p q.
              entry-through y x floor w.past (act w call).nodes d.clock bytes o (λ is. early e (q ∙ ap some is))
              (through-at y x w.past (act w call).nodes d.clock (batch_entries call.batch) call.sources (and_right P₄ P₅ r₃) e bytes o p q);
        }

-- ---- whole lists

-- what a list needs: from a clock `frozen` on no stale frame is left on a shelf that goes over to the new pair
abbrev Thaws : Changeover → ℕ → ℕ → Type 0
Thaws y frozen floor =
    (last : ℕ) → frozen ≤ last → y.change + y.after.delta + 2 * y.after.epsilon ≤ last → floor + y.after.delta + y.after.epsilon ≤ last

module _ (y : Changeover) (good : Widens y.before y.after) (x frozen floor from : ℕ) (settles : Settles (along_all y) floor from) (thaws : Thaws y frozen floor) where
  -- one call, and the setups after it
  one-through :
      (phases : List Phase) (w : World) (call : Call) → Stages y floor phases w → allowed_through y x frozen phases w call ≡ true
      → ((node : Node) → get_elem? w.nodes call.node ≡ some node → is_accepted (output_of node call) ≡ true → (e : ℕ) → get_elem? call.sources e ≡ some stale
      → (done_of node call).clock ≤ stale_until y.after x → (done_of node call).clock + (limits_at (along_all y) (done_of node call).clock).epsilon ≤ floor)
      → Allowed (along_all y) floor from settles w call × Stages y floor (phases_after phases w call) (act w call)
  unfolding allowed_through
  one-through phases w call stages h early = go (get_elem? phases call.node) (get_elem? w.nodes call.node) refl refl h
    where
      go :
          (p : Option Phase) (o : Option Node) → get_elem? phases call.node ≡ p → get_elem? w.nodes call.node ≡ o → allowed_in y x frozen w call p o ≡ true
          → Allowed (along_all y) floor from settles w call × Stages y floor (phases_after phases w call) (act w call)
      go none o e q t = absurd (clash t refl)
      go (some phase) none e q t = absurd (clash t refl)
      go (some phase) (some node) e q t = by (is_accepted (output_of node call)) refl
        where
          by : (b : Bool) → is_accepted (output_of node call) ≡ b → Allowed (along_all y) floor from settles w call × Stages y floor (phases_after phases w call) (act w call)
          by false refused = (
            (node, q, inl refused),
            stages-next y floor phases w call node phase q e stages (λ acc. absurd (clash acc refused)),
          )
          by true acc =
              let test : accepted_through y x frozen phase w call (done_of node call) ≡ true =
              elim (or_cases (not (is_accepted (done_of node call).output)) (accepted_through y x frozen phase w call (done_of node call)) t) [
                | inl z ↦ absurd (clash acc (unfold done_of in (false_of_not (is_accepted (done_of node call).output) z)))
                | inr z ↦ z
              ] in
              let has-now = has y good x frozen floor w call node phase q acc test in
              let widths : Untouched (along_all y) floor w call.node node ⊎ AsWide (along_all y) (schedule_of call) floor w call.node node =
              elim (stages call.node node phase q e) [
                | inl s ↦ inl (uncalled-touch y floor w call.node node s.0 s.1)
                | inr s ↦
                    inr (widths-by y good frozen floor w call.node node (done_of node call).clock (schedule_of call) (thaws node.clock) phase (phase_after phase call.wider)
                    (allowed-phase y good x frozen floor w call node phase q acc test) has-now s)
              ] in (
                (
                  node,
                  q,
                  inr (schedule_of call, lengthened call.spare node, legal-through y good x frozen floor w call node phase q acc test widths (early node q acc)),
                ),
                stages-next y floor phases w call node phase q e stages
                    (λ again. fits_next y (schedule_of call) node (lengthened call.spare node) call (called y good x frozen floor w call node phase q acc test)
                    (phase_after phase call.wider) has-now),
              )

-- ---- the start

nothing : {A : Type 0} (k : ℕ) (z : A) → ◌≡◌ {A = Option A} (get_elem? [] k) (some z) → ⊥
nothing {A} k z e = omega (arith, get_elem?-lt {A = A} [] k e)

group-through : (y : Changeover) (phases : List Phase) (nodes : List Node) → starts_through y phases nodes ≡ true → Widens y.before y.after → Group (along_all y) nodes
unfolding starts_through valid_for is_member
group-through y phases nodes h good =
    record {
      limits = λ i node at. good;
      distinct = distinct-fact nodes apart-nodes;
      together = drift-ahead y good nodes (and_left (together (drift_of y nodes) nodes) (exact_holdbacks y phases nodes) h₃);
      few = stations-few y.after nodes apart-nodes (λ node mem station. below node mem station);
    }
  where
    h₁ : (every (valid_for y.before) nodes && (distinct nodes && (together (drift_of y nodes) nodes && exact_holdbacks y phases nodes))) ≡ true
    h₁ = and_right (good_changeover y) _ h

    h₂ : (distinct nodes && (together (drift_of y nodes) nodes && exact_holdbacks y phases nodes)) ≡ true
    h₂ = and_right (every (valid_for y.before) nodes) _ h₁

    apart-nodes : distinct nodes ≡ true
    apart-nodes = and_left (distinct nodes) _ h₂

    h₃ : (together (drift_of y nodes) nodes && exact_holdbacks y phases nodes) ≡ true
    h₃ = and_right (distinct nodes) _ h₂

    below : (node : Node) → Memᴰ node nodes → node.listens ≡ false → node.own < y.after.n
    below node mem station =
        let test : (in_limits y.before && (node.listens || ltb node.own y.before.n)) ≡ true =
        every-mem (valid_for y.before) (and_left (every (valid_for y.before) nodes) _ h₁) mem in
        elim (or_cases node.listens (ltb node.own y.before.n) (and_right (in_limits y.before) (node.listens || ltb node.own y.before.n) test)) [
          | inl q ↦ absurd (clash q station)
          | inr q ↦ omega (arith, ltb-true node.own y.before.n q, good.n)
        ]

good-at : (y : Changeover) (phases : List Phase) (nodes : List Node) → starts_through y phases nodes ≡ true → Widens y.before y.after
unfolding starts_through
good-at y phases nodes h = widens-fact y (and_left (good_changeover y) _ h)

-- shelves have their length
exact-at : (y : Changeover) (phases : List Phase) (nodes : List Node) → exact_holdbacks y phases nodes ≡ true → (i : ℕ) (node : Node) → get_elem? nodes i ≡ some node → 2 ≤ length node.holdback
unfolding exact_holdbacks exact_holdback holdback_length
exact-at y [] [] h i node at = absurd (nothing i node at)
exact-at y [] (a ∷ nodes) h i node at = absurd (clash h refl)
exact-at y (p ∷ phases) [] h i node at = absurd (clash h refl)
exact-at y (p ∷ phases) (a ∷ nodes) h zero node at =
    let same : a ≡ node = some_inj at in
    let size : length a.holdback ≡ holdback_size (phase_size y p) = eqb-true (length a.holdback) (holdback_size (phase_size y p)) (and_left (eqb (length a.holdback) (holdback_size (phase_size y p))) _ h) in
    subst (λ (z : Node). 2 ≤ length z.holdback) same (omega arith)
exact-at y (p ∷ phases) (a ∷ nodes) h (suc i) node at = exact-at y phases nodes (and_right (eqb (length a.holdback) (holdback_size (phase_size y p))) _ h) i node at

-- ---- the two theorems

settles-through : (y : Changeover) → Widens y.before y.after → (x : ℕ) → Settles (along_all y) (right_from y.after x) (covered_from y.after x)
unfolding right_from covered_from
settles-through y good x = (omega arith, λ v R h k. omega (arith, (limits-widest (along_all y) good v).0))

thaws-after : (y : Changeover) (x : ℕ) → Thaws y (frozen_until y x) (right_from y.after x)
unfolding frozen_until right_from
thaws-after y x last h far = omega arith

legals-through :
    (y : Changeover) (good : Widens y.before y.after) (x : ℕ) (calls : List Call) (phases : List Phase) (w : World) → Stages y (right_from y.after x) phases w
    → keeps_through y x (frozen_until y x) phases w calls ≡ true
    → Legals (along_all y) (right_from y.after x) (covered_from y.after x) (settles-through y good x) w calls
unfolding keeps_through Legals
legals-through y good x [] phases w stages h = tt
legals-through y good x (call ∷ calls) phases w stages h =
    let first = and_left (allowed_through y x (frozen_until y x) phases w call) (keeps_through y x (frozen_until y x) (phases_after phases w call) (act w call) calls) h in
    let rest = and_right (allowed_through y x (frozen_until y x) phases w call) (keeps_through y x (frozen_until y x) (phases_after phases w call) (act w call) calls) h in
    let step = one-through y good x (frozen_until y x) (right_from y.after x) (covered_from y.after x) (settles-through y good x) (thaws-after y x) phases w call stages first
    (λ node at acc e o-at. early (done_of node call).clock) in
    (step.0, legals-through y good x calls (phases_after phases w call) (act w call) step.1 rest)
  where
    early : (v : ℕ) → v ≤ stale_until y.after x → v + (limits_at (along_all y) v).epsilon ≤ right_from y.after x
    early v h = unfold stale_until right_from in (omega (arith, (limits-widest (along_all y) good v).0))

pub runs-through :
    (y : Changeover) (nodes : List Node) (phases : List Phase) (calls : List Call) → starts_through y phases nodes ≡ true
    → keeps_through y (largest_clock nodes) (frozen_until y (largest_clock nodes)) phases (at_start nodes) calls ≡ true
    → Runs (along_all y) (right_from y.after (largest_clock nodes)) (covered_from y.after (largest_clock nodes)) nodes calls
runs-through y nodes phases calls start kept =
    record {
      right = settles-through y good x;
      start = good_start_lem g floor from nodes (group-through y phases nodes start good) early;
      legal = legals-through y good x calls phases (at_start nodes) stages kept;
    }
  where
    x : ℕ
    x = largest_clock nodes

    g : Schedule
    g = along_all y

    floor : ℕ
    floor = right_from y.after x

    from : ℕ
    from = covered_from y.after x

    good : Widens y.before y.after
    good = good-at y phases nodes start

    early : (i : ℕ) (node : Node) → get_elem? nodes i ≡ some node → node.clock + y.after.epsilon + y.after.epsilon ≤ floor
    early i node at = unfold right_from in (omega (arith, largest-clock nodes i node at))

    stages : Stages y floor phases (at_start nodes)
    stages i node phase at p-at = unfold at_start in (inl ((λ k d e. absurd (nothing k d e)), early i node at))

pub demand3-through : Demand3Through
unfolding covered_through
demand3-through y nodes phases calls start kept =
    run-promises (along_all y) (right_from y.after (largest_clock nodes)) (covered_from y.after (largest_clock nodes)) nodes calls
    (runs-through y nodes phases calls start kept)

-- from a fresh start
legals-fresh-through :
    (y : Changeover) (good : Widens y.before y.after) (x : ℕ) (calls : List Call) (phases : List Phase) (w : World) → Stages y 0 phases w
    → keeps_through y x 0 phases w calls ≡ true → none_stale (run_from w calls).past ≡ true → Legals (along_all y) 0 0 (settles-fresh (along_all y)) w calls
unfolding keeps_through run_from Legals
legals-fresh-through y good x [] phases w stages h none_old = tt
legals-fresh-through y good x (call ∷ calls) phases w stages h none_old =
    let first = and_left (allowed_through y x 0 phases w call) (keeps_through y x 0 (phases_after phases w call) (act w call) calls) h in
    let rest = and_right (allowed_through y x 0 phases w call) (keeps_through y x 0 (phases_after phases w call) (act w call) calls) h in
    let step = one-through y good x 0 0 0 (settles-fresh (along_all y)) thaws phases w call stages first early in
    (step.0, legals-fresh-through y good x calls (phases_after phases w call) (act w call) step.1 rest none_old)
  where
    thaws : Thaws y 0 0
    thaws last h far = omega arith

    early :
        (node : Node) → get_elem? w.nodes call.node ≡ some node → is_accepted (output_of node call) ≡ true → (e : ℕ) → get_elem? call.sources e ≡ some stale
        → (done_of node call).clock ≤ stale_until y.after x → (done_of node call).clock + (limits_at (along_all y) (done_of node call).clock).epsilon ≤ 0
    early node at acc e o-at late =
        absurd (clash (every-mem is_sent (last-sent w call node at acc (none-stale-before calls (act w call) none_old)) (get_elem?-mem call.sources e o-at)) (unfold is_sent in refl))

pub runs-fresh-through :
    (y : Changeover) (nodes : List Node) (phases : List Phase) (calls : List Call) → starts_through y phases nodes ≡ true → fresh_through y nodes ≡ true
    → keeps_through y (largest_clock nodes) 0 phases (at_start nodes) calls ≡ true → none_stale (run_from (at_start nodes) calls).past ≡ true
    → Runs (along_all y) 0 0 nodes calls
runs-fresh-through y nodes phases calls start fresh kept none_old =
    record {
      right = settles-fresh g;
      start = good-fresh g nodes (group-through y phases nodes start good) (λ i node at. (fresh-here i node at, exact-at y phases nodes exact i node at));
      legal = legals-fresh-through y good (largest_clock nodes) calls phases (at_start nodes) stages kept none_old;
    }
  where
    g : Schedule
    g = along_all y

    good : Widens y.before y.after
    good = good-at y phases nodes start

    fresh-here : (i : ℕ) (node : Node) → get_elem? nodes i ≡ some node → FreshNode (limits_at g node.clock) node
    fresh-here i node at =
        let all : every (λ (a : Node). is_fresh (limits_at g a.clock) a) nodes ≡ true = unfold fresh_through in fresh in
        fresh-node (limits_at g node.clock) node (every-mem (λ (a : Node). is_fresh (limits_at g a.clock) a) all (get_elem?-mem nodes i at))

    exact : exact_holdbacks y phases nodes ≡ true
    exact =
        unfold starts_through in (
        and_right (together (drift_of y nodes) nodes) _ (and_right (distinct nodes) _ (and_right (every (valid_for y.before) nodes) _ (and_right (good_changeover y) _ start)))
        )

    no_frames_lem : (node : Node) → FreshNode (limits_at g node.clock) node → (memory : Memory g node) (f : Frame) → Memᴰ f memory.queue → ⊥
    no_frames_lem node is-fresh memory f m =
        let empty : wider_held g node.holdback ≡ [] = unfold wider_held wider_held_bytes cut_by in (rw is-fresh.empty refl) in
        mathlib.Core.List.Memᴰ.not-nil (subst (λ (q : List Frame). Memᴰ f q) (sym (memory-held g node memory) ∙ empty) m)

    fits : (phase : Phase) (node : Node) → FreshNode (limits_at g node.clock) node → Fits y phase node
    fits older node is-fresh = λ memory f m. absurd (no_frames_lem node is-fresh memory f m)
    fits both node is-fresh = tt
    fits newer node is-fresh = λ memory f m. absurd (no_frames_lem node is-fresh memory f m)

    stages : Stages y 0 phases (at_start nodes)
    stages i node phase at p-at = inr (fits phase node (fresh-here i node (unfold at_start in at)))

pub demand3-fresh-through : Demand3FreshThrough
demand3-fresh-through y nodes phases calls start fresh kept none_old =
    run-promises (along_all y) 0 0 nodes calls (runs-fresh-through y nodes phases calls start fresh kept none_old)
