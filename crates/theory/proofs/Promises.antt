-- An accepted call: whom it meets, what its hearing comes to, and that it keeps its promises.
-- Assumes nothing.
use Prim.Native.Nat.{Ordering}
use Prim.Native.Nat.{ℕ, zero, suc, ◌+◌, ◌-◌, ◌%◌, ◌≤◌, ◌<◌}
use native.Mathlib.Omega.{arith}
use native.Mathlib.Nat.{zero-add, add-zero, suc-add}
use mathlib.Core.Path.{◌≡◌, refl, sym, ap, subst, ◌∙◌}
use mathlib.Core.Logic.{◌⊎◌, inl, inr}
use mathlib.Core.Bool.{Bool, true, false, ◌||◌, not, cond, or-false}
use mathlib.Core.List.Memᴰ
use mathlib.Core.List.{List, [], ◌∷◌, ◌++◌, map, Memᴰ}
use mathlib.Core.Option.{Option, some}
use lib.ListN.{length, take, get_or, get_elem?}
use lib.Seq.{take_all}
use borrow.Author.Tests.{lt-ltb, le-ltb, eq-eqb}
use Rattle.laws.specs.Lists.{any, select, sort_by, fold_left}
use Rattle.laws.specs.Lex.{lex_compare}
use Rattle.laws.proofs.Numbers.{eq-or-ne, lt-or-ge, or_left, or_cases, not_of_false}
use Rattle.laws.proofs.Lists.{get_elem?-in, get_elem?-lt, get_elem?-get_or, mem-select, mem-of-select}
use Rattle.laws.proofs.Lex.{lex-trans}
use Rattle.laws.proofs.Sorted.{sorted-rekey}
use Rattle.model.specs.Setup.{Setup, width}
use Rattle.model.specs.Timestamp.{Timestamp, count_at, sum, count_own}
use Rattle.model.specs.Frame.{Frame}
use Rattle.model.specs.Batch.{batch_entries}
use Rattle.model.specs.Question.{first_no}
use Rattle.model.specs.Judge.{Asking, Heard, absorb_each}
use Rattle.model.specs.Schedule.{Schedule, limits_at, modulus_of, own_limits, half_of, due_along}
use Rattle.model.specs.Wider.{wider_decode, frame_half, wider_reading, wider_key, wider_key_near, wider_due, wider_held_bytes, wider_due_before, wider_due_now, wider_questions, wider_hear, wider_absorb_by, wider_absorb_all, wider_opening_stamp, wider_heard_stamp}
use Rattle.model.specs.Run.{Node, Source, sent_by, stale, Call, Done, World, input_of, output_of, done_of, node_after, act, is_event, sends, message_bytes}
use Rattle.theory.specs.Premises.{clock_at}
use Rattle.theory.specs.Demand3.{covered, is_from}
use Rattle.theory.specs.Through.{earlier_along, due_here_along, covered_along}
use Rattle.lemmas.proofs.Schedules.{Good as GoodSchedule, limits-good, limits-grow}
use Rattle.lemmas.proofs.WideFrames.{half_back}
use Rattle.lemmas.proofs.WiderQueue.{QueueAlong, opening-along, rest-along, before-along, now-along}
use Rattle.lemmas.proofs.WiderReceiving.{ReceivingAlong}
use Rattle.lemmas.proofs.WiderTick.{opening-stamp-along}
use Rattle.lemmas.proofs.Agreeing.{limits-half, heard-late}
use Rattle.lemmas.proofs.Positions.{place_at, placed_key, Seen, seen-in, seen-order}
use Rattle.theory.proofs.Outputs.{found-listens}
use Rattle.theory.proofs.Cause.{cause-first}
use Rattle.theory.proofs.Event.{done-clock, after-clock, event-made, event-own, event-reads}
use Rattle.theory.proofs.Received.{heard_on, delivered_on, receive-at, delivers-wide, delivers-sorted, delivers-bytes}
use Rattle.theory.proofs.Reach.{reached-some, reached-not-all}
use Rattle.theory.proofs.Stamps.{own-under, own-strict}
use Rattle.theory.proofs.HearLoop.{Settles, Arrival, Entry, Around, Unreached, QueueLoop, StampLoop, TakesOnce, judged-once, observed-once, queue-one, stamp-takes, stamp-one, covered-sends, some_inj}
use Rattle.theory.proofs.Due.{due-seen, due-window-reads}
use Rattle.theory.proofs.Delivery.{Delivers, delivery}
use Rattle.theory.proofs.World.{event_frame, event_due, asking_by, asking_at, least_at, opened_at, overdue_at, event_key, Bounded, Under, heard_at, explained-more, CallEvent, Settled, Passed-on, Good, Legal, SentEntry, Kept, act-is, sends-event, event-kind, nodes_after, after-at, after-other, after-together, OpensQueue, OpensStamp}
use Rattle.theory.proofs.Opening.{node_opens, node-opens-stamp}
use Rattle.theory.proofs.Entries.{heard_to, state_at, stamp_at, state-suc, stamp-suc, state-end, asking-is, stamp-end, heard-suc, state-verdict, from-entry, heard-end}

-- what an accepted call for v has come to: the two halves after its last entry, the stamp of a station, and its promises
pub record Ends (g l : Schedule) (floor from : ℕ) (w : World) (call : Call) (node found : Node) (v : ℕ) : Type 0 where
  pub limits : GoodSchedule g
  pub good : GoodSchedule l
  pub queue : QueueLoop g l floor from w.past v (heard_at (w.past ++ (done_of node call ∷ [])) call.node) (heard_on l v found call).queue
  pub stamp :
      node.listens ≡ false
      → StampLoop l floor w.nodes v (wider_opening_stamp l (v % modulus_of l) found.tables) (wider_heard_stamp l (input_of found call))
  pub kept : Kept g from w.past (done_of node call)

-- the drift limit: in a call for v no node's clock is ε or more ahead of v, by the limits of v, which are no narrower than those of the clock before
none_ahead :
    (g l : Schedule) (floor from : ℕ) (w : World) (call : Call) (node found : Node) (v : ℕ) → Good g floor from w → Legal g l floor w call node found v
    → (i : ℕ) (a : Node) → get_elem? w.nodes i ≡ some a → a.clock < v + (limits_at g v).epsilon
none_ahead g l floor from w call node found v good legal i a at =
    let limits = good.group.limits call.node node legal.at in
    omega (
      arith,
      legal.called.turn,
      legal.called.step-pos,
      good.group.together i call.node a node at legal.at,
      (limits-grow g limits node.clock v (omega (arith, legal.called.turn))).0,
    )

-- the delay limit, beside it: a message of the node i that is heard while that node's clock, after the call, is at most δ past the sending, by the limits
-- of the sending, is not late for v, nor due before it
not_late :
    (g l : Schedule) (floor : ℕ) (w : World) (call : Call) (node found : Node) (v : ℕ) → GoodSchedule g → Legal g l floor w call node found v → (i R c : ℕ) (b : Node)
    → get_elem? (nodes_after w.nodes call node) i ≡ some b → R ≤ b.clock → b.clock ≤ R + (limits_at g R).delta
    → (v ≤ R + (limits_at g v).delta + (limits_at g v).epsilon) × (v ≤ due_along g (R + c))
not_late g l floor w call node found v limits legal i R c b at sent near_by =
    heard-late g limits R b.clock v c sent near_by
    (omega (
      arith,
      after-together g l floor w call node found v legal call.node i (node_after node call.step (output_of node call)) b (after-at w.nodes call node legal.at) at,
      after-clock legal.called,
    ))

-- a message that is due past the clock before the call stands at the place of its true clock
pub waiting-reads :
    (g l : Schedule) (floor from : ℕ) (w : World) (call : Call) (node found : Node) (v : ℕ) → Good g floor from w → Legal g l floor w call node found v
    → (k : ℕ) (m : Done) → get_elem? w.past k ≡ some m → sends m ≡ true → node.clock < event_due g m
    → place_at g v (event_frame g m) ≡ modulus_of g + m.clock
waiting-reads g l floor from w call node found v good legal k m at sent un =
    let st = good.calls k m at (sends-event m sent) in
    let limits = good.group.limits call.node node legal.at in
    event-reads g v m limits st.event
    (omega (arith, st.maker.clock-is, none_ahead g l floor from w call node found v good legal m.node st.maker.node st.maker.at))
    (due-window-reads g limits node.clock v (omega (arith, legal.called.turn)) (omega (arith, legal.called.turn, legal.called.step-few)) m.clock
    (event_frame g m).stamp.c st.event.frame.sound.close un)

module _ (g l : Schedule) (floor from : ℕ) (settles : Settles g floor from) (w : World) (call : Call) (node found : Node) (v : ℕ) (good : Good g floor from w) (legal : Legal g l floor w call node found v) where
  abbrev u : ℕ
  u = v % modulus_of l

  limits-g : GoodSchedule g
  limits-g = good.group.limits call.node node legal.at

  receiving : ReceivingAlong l u (least_at l v found) (asking_at l v found)
  receiving = receive-at g l node found call legal.called

  found-kind : found.listens ≡ node.listens
  found-kind = found-listens call node found legal.called.found-is

  -- whom it meets
  pub around : Around g l w.nodes w.past v
  around =
      record {
        limits = limits-g;
        good = receiving.good;
        agrees = legal.called.agrees;
        below = receiving.below;
        none_ahead = λ x h.
            let r = reached-some w.nodes x h in
            omega (arith, r.3, none_ahead g l floor from w call node found v good legal r.0 r.1 r.2);
        unique = λ k j a b p q x y.
            good.unique k j a b p q (sends-event a x) (sends-event b y);
      }

  pub unreached : node.listens ≡ false → Unreached g w.nodes v
  unreached station x h = omega (arith, reached-not-all w.nodes x call.node node legal.at station (omega (arith, legal.called.turn, legal.called.step-pos)), good.group.few)

  pub entry-at :
      (e : ℕ) (bytes : List ℕ) (o : Source) → get_elem? (batch_entries call.batch) e ≡ some bytes → get_elem? call.sources e ≡ some o
      → Entry g floor w.nodes w.past v bytes o
  entry-at e bytes stale at o-at = legal.entry e bytes stale at o-at
  entry-at e bytes (sent_by k) at o-at = (m, arrival, entry.bytes)
    where
      entry : SentEntry g w.past (act w call).nodes bytes k
      entry = legal.entry e bytes (sent_by k) at o-at

      m : Done
      m = entry.message

      settled : Settled g floor w.nodes m
      settled = good.calls k m entry.at (sends-event m entry.sent)

      near_by : clock_at (get_elem? (nodes_after w.nodes call node) m.node) ≤ m.clock + (limits_at g m.clock).delta
      near_by = subst (λ (x : World). clock_at (get_elem? x.nodes m.node) ≤ m.clock + (limits_at g m.clock).delta) (act-is w call node legal.at) entry.near_by

      late_by :
          (b : Node) → get_elem? (nodes_after w.nodes call node) m.node ≡ some b → m.clock ≤ b.clock
          → (v ≤ m.clock + (limits_at g v).delta + (limits_at g v).epsilon) × (v ≤ event_due g m)
      late_by b b_at sent =
          not_late g l floor w call node found v limits-g legal m.node m.clock (event_frame g m).stamp.c b b_at sent
          (subst (λ (o : Option Node). clock_at o ≤ m.clock + (limits_at g m.clock).delta) b_at near_by)

      late : (v ≤ m.clock + (limits_at g v).delta + (limits_at g v).epsilon) × (v ≤ event_due g m)
      late =
          elim (eq-or-ne call.node m.node) [
            | inl q ↦
                let same : settled.maker.node ≡ node = some_inj (sym settled.maker.at ∙ (ap (get_elem? w.nodes) (sym q) ∙ legal.at)) in
                late_by (node_after node call.step (output_of node call))
                (subst (λ (j : ℕ). get_elem? (nodes_after w.nodes call node) j ≡ some (node_after node call.step (output_of node call))) q (after-at w.nodes call node legal.at))
                (omega (arith, settled.maker.clock-is, ap (λ (x : Node). x.clock) same, after-clock legal.called, legal.called.turn))
            | inr q ↦ late_by settled.maker.node (after-other w.nodes call node m.node q ∙ settled.maker.at) settled.maker.clock-is
          ]

      arrival : Arrival g floor w.nodes w.past v k m
      arrival =
          record {
            at = entry.at;
            sent = entry.sent;
            event = settled.event;
            bounded = settled.bounded;
            not-ahead = omega (arith, settled.maker.clock-is, none_ahead g l floor from w call node found v good legal m.node settled.maker.node settled.maker.at);
            not_late = late.0;
            undue = late.1;
          }

  -- the two halves before entry e
  abbrev pub QueueAt : ℕ → Type 0
  QueueAt e = QueueLoop g l floor from w.past v (heard_to w.past call e) (state_at l v found call e).queue

  abbrev pub StampAt : Timestamp → ℕ → Type 0
  StampAt opening e = StampLoop l floor w.nodes v opening (stamp_at l v found call e)

  -- one entry more
  entry_here :
      (e : ℕ) → e < length (batch_entries call.batch)
      → Entry g floor w.nodes w.past v (get_or (batch_entries call.batch) e []) (get_or call.sources e stale)
  entry_here e h =
      entry-at e (get_or (batch_entries call.batch) e []) (get_or call.sources e stale) (get_elem?-in (batch_entries call.batch) e [] h)
      (get_elem?-in call.sources e stale (omega (arith, legal.lengths)))

  -- it takes a covered message once, as an observer or as a station
  takes-once : TakesOnce g l floor from settles w.nodes w.past v around (asking_at l v found)
  takes-once = go found.listens refl
    where
      go : (b : Bool) → found.listens ≡ b → TakesOnce g l floor from settles w.nodes w.past v around (asking_by b l u)
      go true e = observed-once g l floor from settles w.nodes w.past v around
      go false e = judged-once g l floor from settles w.nodes w.past v around (unreached (sym found-kind ∙ e))

  queue-next : (e : ℕ) → e < length (batch_entries call.batch) → QueueAt e → QueueAt (suc e)
  queue-next e h loop =
      subst (λ (x : Heard). QueueLoop g l floor from w.past v (heard_to w.past call (suc e)) x.queue) (sym (state-suc l v found call e h))
      (queue-one g l floor from settles w.nodes w.past v around (asking_at l v found) takes-once (heard_to w.past call e) (heard_to w.past call (suc e)) (state_at l v found call e)
      (get_or (batch_entries call.batch) e []) (get_or call.sources e stale) loop (entry_here e h) (heard-suc w.past call e (omega (arith, legal.lengths))))

  -- what it starts from
  starts : OpensQueue g floor from w call.node node.clock v (opened_at l v found)
  starts =
      node_opens g l floor from w node found call v limits-g receiving.good legal.called settles.0 (good.node call.node node legal.at) legal.widths

  opened-sound : QueueAlong l u (least_at l v found) (opened_at l v found)
  opened-sound = opening-along l receiving.good u (least_at l v found) found.holdback

  -- a frame on a queue that is a message of the true clock R has its due clock as the node reads it
  due-there :
      (least : ℕ) (queue : List Frame) → modulus_of l + 1 ≤ least + (own_limits l).epsilon → QueueAlong l u least queue → (f : Frame) (R : ℕ) → Memᴰ f queue
      → place_at g v f ≡ modulus_of g + R → due_along l (wider_reading l u f + f.stamp.c) + v ≡ modulus_of l + due_along g (R + f.stamp.c)
  due-there least queue far ok f R there stands =
      due-seen g l v legal.called.agrees R f stands (seen-in g l v legal.called.agrees least queue receiving.good far ok f there)

  -- so has a covered message that is due past the clock before the call
  due-waits :
      (least : ℕ) (queue : List Frame) → modulus_of l + 1 ≤ least + (own_limits l).epsilon → QueueAlong l u least queue → (k : ℕ) (m : Done)
      → Memᴰ (event_frame g m) queue → get_elem? w.past k ≡ some m → covered from m ≡ true → node.clock < event_due g m
      → due_along l (wider_reading l u (event_frame g m) + (event_frame g m).stamp.c) + v ≡ modulus_of l + event_due g m
  due-waits least queue far ok k m there at fol un =
      due-there least queue far ok (event_frame g m) m.clock there (waiting-reads g l floor from w call node found v good legal k m at (covered-sends from m fol) un)

  queue-start : QueueAt 0
  unfolding state_at wider_hear fold_left any wider_due_before wider_due sum
  queue-start =
      record {
        sound = rest-along l receiving.good u (least_at l v found) (opened_at l v found) opened-sound;
        members = λ f mem.
            explained-more g floor w.past (heard_at w.past call.node) (heard_to w.past call 0) v f (λ j h. or_left false h)
            (starts.members f (mem-of-select (λ b. not (wider_due_before l u b)) (opened_at l v found) mem).0);
        present = λ k m at fol hd un.
            let un' : node.clock < event_due g m = omega (arith, un, legal.called.turn, legal.called.step-pos) in
            let there = starts.waiting k m at fol (sym (or-false (heard_at w.past call.node k)) ∙ hd) un' in
            mem-select (λ b. not (wider_due_before l u b)) there
            (not_of_false
            (le-ltb (due_along l (wider_reading l u (event_frame g m) + (event_frame g m).stamp.c)) (modulus_of l)
            (omega (arith, due-waits (least_at l v found) (opened_at l v found) receiving.near opened-sound k m there at fol un', un))));
      }

  pub queue-at : (e : ℕ) → e ≤ length (batch_entries call.batch) → QueueAt e
  queue-at zero h = queue-start
  queue-at (suc e) h = queue-next e (omega arith) (queue-at e (omega arith))

  abbrev many : ℕ
  many = length (batch_entries call.batch)

  heard_all_lem : (k : ℕ) → heard_to w.past call many k ≡ heard_at (w.past ++ (done_of node call ∷ [])) call.node k
  heard_all_lem = heard-end w.past node call legal.called.accepted many (omega (arith, legal.lengths))

  -- after the last entry
  queue-end :
      QueueLoop g l floor from w.past v (heard_at (w.past ++ (done_of node call ∷ [])) call.node) (heard_on l v found call).queue
  queue-end =
      subst (λ (h : Heard). QueueLoop g l floor from w.past v (heard_at (w.past ++ (done_of node call ∷ [])) call.node) h.queue) (sym (state-end l v found call))
      (record {
        sound = all.sound;
        members = λ f mem. explained-more g floor w.past (heard_to w.past call many) (heard_at (w.past ++ (done_of node call ∷ [])) call.node) v f (λ j h. sym (heard_all_lem j) ∙ h) (all.members f mem);
        present = λ k m at fol hd un. all.present k m at fol (heard_all_lem k ∙ hd) un;
      })
    where
      all : QueueAt many
      all = queue-at many (omega arith)

  -- an entry from an earlier call
  entry_of :
      (e k : ℕ) → get_elem? call.sources e ≡ some (sent_by k)
      → (bytes : List ℕ) × (get_elem? (batch_entries call.batch) e ≡ some bytes) × (m : Done) × Arrival g floor w.nodes w.past v k m × (bytes ≡ message_bytes m)
  entry_of e k o-at =
      let at : get_elem? (batch_entries call.batch) e ≡ some (get_or (batch_entries call.batch) e []) =
      get_elem?-in (batch_entries call.batch) e [] (omega (arith, legal.lengths, get_elem?-lt call.sources e o-at)) in
      let r = entry-at e (get_or (batch_entries call.batch) e []) (sent_by k) at o-at in
      (get_or (batch_entries call.batch) e [], at, r.0, r.1, r.2)

  sent-first : (e k : ℕ) → get_elem? call.sources e ≡ some (sent_by k) → (m : Done) × (get_elem? w.past k ≡ some m) × (sends m ≡ true)
  sent-first e k o-at = let r = entry_of e k o-at in (r.2, r.3.at, r.3.sent)

  -- the same, for the message given
  arrival-of :
      (e k : ℕ) (m : Done) → get_elem? call.sources e ≡ some (sent_by k) → get_elem? w.past k ≡ some m
      → Arrival g floor w.nodes w.past v k m × (get_elem? (batch_entries call.batch) e ≡ some (message_bytes m))
  arrival-of e k m o-at at =
      let r = entry_of e k o-at in
      let q : r.2 ≡ m = some_inj (sym r.3.at ∙ at) in
      subst (λ (x : Done). Arrival g floor w.nodes w.past v k x × (get_elem? (batch_entries call.batch) e ≡ some (message_bytes x))) q
      (r.3, r.1 ∙ ap some r.4)

  -- a message that is due before v was heard before this call
  heard-before :
      (k : ℕ) (m : Done) → get_elem? w.past k ≡ some m → event_due g m < v
      → heard_at (w.past ++ (done_of node call ∷ [])) call.node k ≡ true → heard_at w.past call.node k ≡ true
  heard-before k m at before hd =
      elim (or_cases (heard_at w.past call.node k) (any (is_from k) (take many call.sources)) (heard_all_lem k ∙ hd)) [
        | inl q ↦ q
        | inr q ↦
            let r = from-entry k call.sources (rw (take_all many call.sources (omega (arith, legal.lengths))) at q) in
            let a = (arrival-of r.0 k m r.1 at).0 in
            absurd (omega (arith, a.undue, before))
      ]

  hears :
      (e k : ℕ) (m : Done) → get_elem? call.sources e ≡ some (sent_by k) → get_elem? w.past k ≡ some m → covered from m ≡ true
      → get_or (output_of node call).verdicts e 0 ≡ cond (heard_at w.past call.node k || any (is_from k) (take e call.sources)) 16 0
  hears e k m o-at at fol =
      let r = arrival-of e k m o-at at in
      state-verdict l v found call g node legal.called e (message_bytes m) r.1
      ∙ takes-once.verdict (heard_to w.past call e) (state_at l v found call e).queue
      (queue-at e (omega (arith, get_elem?-lt (batch_entries call.batch) e r.1))) k m r.0 fol

  heard-sound : QueueAlong l u (modulus_of l) (heard_on l v found call).queue
  heard-sound = queue-end.sound

  now-far : modulus_of l + 1 ≤ modulus_of l + (own_limits l).epsilon
  now-far = omega (arith, (limits-good l receiving.good (modulus_of l)).epsilon-pos)

  -- what of the covered messages heard here has come due since the clock before this call
  came-due :
      Delivers g floor from w.past (heard_at (w.past ++ (done_of node call ∷ [])) call.node) node.clock v
      (delivered_on l v found call)
  came-due =
      record {
        wide = delivers-wide g l node found call legal.called;
        sorted =
            sorted-rekey (wider_key_near l u) (placed_key g v) (delivered_on l v found call)
            (λ a b m h. seen-order g l v legal.called.agrees a b (seen a m) (seen b h)) (delivers-sorted g l node found call legal.called);
        members = λ f m.
            elim (split f m) [
              | inl q ↦
                  explained-more g floor w.past (heard_at w.past call.node) (heard_at (w.past ++ (done_of node call ∷ [])) call.node) v f
                  (λ j h. sym (heard_all_lem j) ∙ or_left (any (is_from j) (take many call.sources)) h) (starts.members f q.0)
              | inr q ↦ queue-end.members f q.0
            ];
        not-before = λ f R m stands fol.
            elim (split f m) [
              | inl q ↦ starts.later f R q.0 stands fol
              | inr q ↦
                  omega (
                    arith,
                    now-along l u f q.1,
                    due-there (modulus_of l) (heard_on l v found call).queue now-far heard-sound f R q.0 stands,
                    legal.called.turn,
                    legal.called.step-pos,
                  )
            ];
        not-past = λ f R m stands fol.
            elim (split f m) [
              | inl q ↦ omega (arith, before-along l u f q.1, due-there (least_at l v found) (opened_at l v found) receiving.near opened-sound f R q.0 stands)
              | inr q ↦ omega (arith, now-along l u f q.1, due-there (modulus_of l) (heard_on l v found call).queue now-far heard-sound f R q.0 stands)
            ];
        all = λ k m at fol hd lo hi.
            elim (lt-or-ge (event_due g m) v) [
              | inl q ↦
                  let there = starts.waiting k m at fol (heard-before k m at q hd) lo in
                  Memᴰ.append_left (select (wider_due_now l u) (heard_on l v found call).queue)
                  (mem-select (wider_due_before l u) there
                  (unfold wider_due_before wider_due sum in
                  (lt-ltb (due_along l (wider_reading l u (event_frame g m) + (event_frame g m).stamp.c)) (modulus_of l)
                  (omega (arith, due-waits (least_at l v found) (opened_at l v found) receiving.near opened-sound k m there at fol lo)))))
              | inr q ↦
                  let there = queue-end.present k m at fol hd q in
                  Memᴰ.append_right (overdue_at l v found)
                  (mem-select (wider_due_now l u) there
                  (unfold wider_due_now wider_due sum in
                  (eq-eqb (due_along l (wider_reading l u (event_frame g m) + (event_frame g m).stamp.c)) (modulus_of l)
                  (omega (arith, due-waits (modulus_of l) (heard_on l v found call).queue now-far heard-sound k m there at fol lo)))))
            ];
      }
    where
      split :
          (f : Frame) → Memᴰ f (delivered_on l v found call)
          → (Memᴰ f (opened_at l v found) × (wider_due_before l u f ≡ true))
          ⊎ (Memᴰ f (heard_on l v found call).queue × (wider_due_now l u f ≡ true))
      split f m =
          elim (Memᴰ.append_cases (overdue_at l v found) m) [
            | inl q ↦ inl (mem-of-select (wider_due_before l u) (opened_at l v found) q)
            | inr q ↦ inr (mem-of-select (wider_due_now l u) (heard_on l v found call).queue q)
          ]

      seen : (f : Frame) → Memᴰ f (delivered_on l v found call) → Seen g l u f
      seen f m =
          elim (split f m) [
            | inl q ↦ seen-in g l v legal.called.agrees (least_at l v found) (opened_at l v found) receiving.good receiving.near opened-sound f q.0
            | inr q ↦ seen-in g l v legal.called.agrees (modulus_of l) (heard_on l v found call).queue receiving.good now-far heard-sound f q.0
          ]

  delivers-here :
      select (covered_along g from v) (wider_held_bytes g (output_of node call).delivery)
      ≡ map message_bytes (sort_by (earlier_along g) (due_here_along g from (w.past ++ (done_of node call ∷ [])) call.node node.clock v))
  delivers-here =
      ap (select (covered_along g from v)) (delivers-bytes g l node found call legal.called)
      ∙ delivery g floor from node.clock v call.node settles.0 w.past (done_of node call)
      (delivered_on l v found call) limits-g (omega (arith, legal.called.turn))
      (omega (arith, legal.called.turn, legal.called.step-few)) (λ k m at made. (good.calls k m at made).event) good.unique
      (done-clock legal.called) came-due

  delivers :
      select (covered_along g from (done_of node call).clock) (wider_held_bytes g (done_of node call).output.delivery)
      ≡ map message_bytes (sort_by (earlier_along g) (due_here_along g from (w.past ++ (done_of node call ∷ [])) (done_of node call).node (done_of node call).last (done_of node call).clock))
  delivers =
      subst (λ (x : ℕ). select (covered_along g from x) (wider_held_bytes g (done_of node call).output.delivery)
      ≡ map message_bytes (sort_by (earlier_along g) (due_here_along g from (w.past ++ (done_of node call ∷ [])) (done_of node call).node (done_of node call).last x)))
      (sym (done-clock legal.called)) (unfold done_of in delivers-here)

  -- the stamp half, of a station
  module _ (station : node.listens ≡ false) where
    found-station : found.listens ≡ false
    found-station = found-kind ∙ station

    -- what hearing makes of the stamp
    abbrev opening : Timestamp
    opening = wider_opening_stamp l u found.tables

    abbrev heard_stamp : Timestamp
    heard_stamp = wider_heard_stamp l (input_of found call)

    own-epsilon : (own_limits l).epsilon ≡ (limits_at g v).epsilon
    own-epsilon = ap (λ (s : Setup). s.epsilon) legal.called.agrees.own

    starts-stamp : OpensStamp g floor w call.node v opening
    starts-stamp =
        node-opens-stamp g l floor from w node found call v limits-g receiving.good legal.called settles.0 (good.node call.node node legal.at) station

    stamp-next : (opening : Timestamp) (e : ℕ) → e < length (batch_entries call.batch) → StampAt opening e → StampAt opening (suc e)
    stamp-next opening e h loop =
        subst (StampLoop l floor w.nodes v opening) (sym (stamp-suc l v found call e h))
        (subst
        (λ (asking : Asking). StampLoop l floor w.nodes v opening
        (wider_absorb_by l (first_no (asking (state_at l v found call e).queue (get_or (batch_entries call.batch) e []))) u (wider_decode l (get_or (batch_entries call.batch) e [])) (stamp_at l v found call e)))
        (sym (asking-is l v found call receiving.good found-station))
        (stamp-one g l floor from settles w.nodes w.past v around (state_at l v found call e).queue opening (stamp_at l v found call e)
        (get_or (batch_entries call.batch) e []) (get_or call.sources e stale) loop (entry_here e h)))

    stamp-on : (opening : Timestamp) (e n : ℕ) → n + e ≤ length (batch_entries call.batch) → StampAt opening e → StampAt opening (n + e)
    stamp-on opening e zero h loop = rw zero-add loop
    stamp-on opening e (suc n) h loop = rw suc-add (stamp-next opening (n + e) (omega arith) (stamp-on opening e n (omega arith) loop))

    stamp-start : StampAt opening 0
    unfolding stamp_at wider_absorb_all absorb_each
    stamp-start =
        record {
          opened = opening-stamp-along l receiving.good u found.tables;
          bounded = subst (λ (e : ℕ). Bounded e floor w.nodes v opening.kn) (sym own-epsilon) starts-stamp.bounded;
          wider = λ half R f known. known;
        }

    pub stamp-at : (e : ℕ) → e ≤ length (batch_entries call.batch) → StampAt opening e
    stamp-at e h = rw (add-zero e) at (stamp-on opening 0 e (omega arith) stamp-start)

    stamps-end : (opening : Timestamp) → StampAt opening many → StampLoop l floor w.nodes v opening heard_stamp
    stamps-end opening loop = subst (StampLoop l floor w.nodes v opening) (sym (stamp-end l v found call receiving.good found-station legal.called.clock-is)) loop

    stamp-all : StampLoop l floor w.nodes v opening heard_stamp
    stamp-all = stamps-end opening (stamp-at many (omega arith))

    event : CallEvent g (done_of node call)
    event = event-made g l node found call limits-g legal.called station

    -- the new stamp
    own-stamp : (event_frame g (done_of node call)).stamp ≡ count_own (own_limits l).epsilon u heard_stamp
    own-stamp = event-own g l node found call limits-g legal.called station ∙ ap (λ (e : ℕ). count_own e u heard_stamp) (sym own-epsilon)

    frame-half : (m : Done) → CallEvent g m → frame_half g (event_frame g m) ≡ (limits_at g m.clock).epsilon
    frame-half m ev = ap (half_of g) ev.frame.sound.wide ∙ half_back g (limits_at g m.clock).epsilon (limits-half g m.clock)

    here-half : (limits_at g (done_of node call).clock).epsilon ≡ (own_limits l).epsilon
    here-half = ap (λ (x : ℕ). (limits_at g x).epsilon) (done-clock legal.called) ∙ sym own-epsilon

    causes :
        (half R : ℕ) (f : Frame) → frame_half g f ≡ half → Under half R f.stamp (own_limits l).epsilon v heard_stamp
        → lex_compare (wider_key g R f) (event_key g (done_of node call)) ≡ Ordering.lt
    unfolding event_key
    causes half R f is under =
        subst (λ (x : ℕ). lex_compare (wider_key g R f) (wider_key g x (event_frame g (done_of node call))) ≡ Ordering.lt) (sym (done-clock legal.called))
        (cause-first g limits-g half (own_limits l).epsilon R v f (event_frame g (done_of node call)) is (frame-half (done_of node call) event ∙ here-half)
        (omega (arith, event.frame.sound.close, here-half, own-epsilon)) more.sums more.counts
        (subst (λ (t : Timestamp). count_at half R f.stamp.kn v < count_at (own_limits l).epsilon v t.kn v) (sym own-stamp)
        (own-strict (own_limits l).epsilon v u half R f.stamp heard_stamp wide pos under)))
      where
        wide : length heard_stamp.kn ≡ width (own_limits l).epsilon
        wide = stamp-all.opened.wide

        pos : 1 ≤ (own_limits l).epsilon
        pos = (limits-good l receiving.good (modulus_of l)).epsilon-pos

        more : Under half R f.stamp (own_limits l).epsilon v (event_frame g (done_of node call)).stamp
        more =
            subst (λ (t : Timestamp). Under half R f.stamp (own_limits l).epsilon v t) (sym own-stamp)
            (own-under (own_limits l).epsilon v u half R f.stamp heard_stamp wide pos under)

    comes-later :
        (k : ℕ) (a : Done) → get_elem? w.past k ≡ some a → is_event a ≡ true → a.node ≡ call.node
        → lex_compare (event_key g a) (event_key g (done_of node call)) ≡ Ordering.lt
    unfolding event_key
    comes-later k a at acc same =
        elim before.comes [
          | inl q ↦ subst (λ (x : Done). lex_compare (event_key g x) (event_key g (done_of node call)) ≡ Ordering.lt) (sym q) least
          | inr q ↦ lex-trans (event_key g a) (event_key g before.last) (event_key g (done_of node call)) q least
        ]
      where
        before : Passed-on g a v opening
        before = starts-stamp.passed_on k a at acc same

        least : lex_compare (event_key g before.last) (event_key g (done_of node call)) ≡ Ordering.lt
        least =
            let half : ℕ = (limits_at g before.last.clock).epsilon in
            let f : Frame = event_frame g before.last in
            causes half before.last.clock f (ap (half_of g) before.sound.wide ∙ half_back g half (limits-half g before.last.clock))
            (stamp-all.wider half before.last.clock f.stamp
            (subst (λ (e : ℕ). Under half before.last.clock f.stamp e v opening) (sym own-epsilon) before.under))

    takes_first :
        (e k : ℕ) (m : Done) → get_elem? call.sources e ≡ some (sent_by k) → get_elem? w.past k ≡ some m → get_or (output_of node call).verdicts e 0 ≡ 0
        → lex_compare (event_key g m) (event_key g (done_of node call)) ≡ Ordering.lt
    unfolding event_key
    takes_first e k m o-at at zero-at =
        causes (limits_at g m.clock).epsilon m.clock (event_frame g m) (frame-half m r.0.event)
        ((stamps-end (stamp_at l v found call (suc e)) rest).wider (limits_at g m.clock).epsilon m.clock (event_frame g m).stamp taken)
      where
        r : Arrival g floor w.nodes w.past v k m × (get_elem? (batch_entries call.batch) e ≡ some (message_bytes m))
        r = arrival-of e k m o-at at

        inside : e < many
        inside = get_elem?-lt (batch_entries call.batch) e r.1

        verdict : first_no (wider_questions l u (state_at l v found call e).queue (message_bytes m)) ≡ 0
        verdict =
            subst (λ (asking : Asking). first_no (asking (state_at l v found call e).queue (message_bytes m)) ≡ 0) (asking-is l v found call receiving.good found-station)
            (sym (state-verdict l v found call g node legal.called e (message_bytes m) r.1) ∙ zero-at)

        next :
            stamp_at l v found call (suc e)
            ≡ wider_absorb_by l (first_no (wider_questions l u (state_at l v found call e).queue (message_bytes m))) u (wider_decode l (message_bytes m)) (stamp_at l v found call e)
        next =
            rw (get_elem?-get_or (batch_entries call.batch) e [] r.1) at (stamp-suc l v found call e inside)
            ∙ ap (λ (asking : Asking). wider_absorb_by l (first_no (asking (state_at l v found call e).queue (message_bytes m))) u (wider_decode l (message_bytes m)) (stamp_at l v found call e))
            (asking-is l v found call receiving.good found-station)

        taken : Under (limits_at g m.clock).epsilon m.clock (event_frame g m).stamp (own_limits l).epsilon v (stamp_at l v found call (suc e))
        taken =
            subst (λ (t : Timestamp). Under (limits_at g m.clock).epsilon m.clock (event_frame g m).stamp (own_limits l).epsilon v t) (sym next)
            (stamp-takes g l floor from settles w.nodes w.past v around (state_at l v found call e).queue (stamp_at l v found call e) k m r.0 verdict)

        opens : StampAt (stamp_at l v found call (suc e)) (suc e)
        opens =
            let x = stamp-at (suc e) inside in
            record { opened = x.opened; bounded = x.bounded; wider = λ half R f known. known }

        rest : StampAt (stamp_at l v found call (suc e)) many
        rest =
            let q : many - suc e + suc e ≡ many = omega (arith, inside) in
            subst (StampAt (stamp_at l v found call (suc e))) q (stamp-on (stamp_at l v found call (suc e)) (suc e) (many - suc e) (omega (arith, inside)) opens)

  step_kept : Kept g from w.past (done_of node call)
  step_kept =
      record {
        event = λ made. event-made g l node found call limits-g legal.called (here made);
        hearing = unfold done_of in hears;
        delivering = delivers;
        later = λ made. unfold done_of in (comes-later (here made));
        takes = λ made. unfold done_of in (takes_first (here made));
        sent-before = unfold done_of in sent-first;
      }
    where
      here : is_event (done_of node call) ≡ true → node.listens ≡ false
      here made = unfold done_of in (event-kind (done_of node call) made)

  pub ends : Ends g l floor from w call node found v
  ends = record { limits = limits-g; good = receiving.good; queue = queue-end; stamp = stamp-all; kept = step_kept }
