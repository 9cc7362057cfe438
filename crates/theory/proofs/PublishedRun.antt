-- All nodes and all processes of the published program side by side, what they have sent, and how that grows by one call.
-- Assumes nothing.
use Prim.Native.Nat.{ℕ, suc, ◌+◌, ◌%◌, ◌≤◌, ◌<◌}
use native.Mathlib.Omega.{arith}
use mathlib.Core.Path.{◌≡◌, refl, sym, ap, subst, ◌∙◌}
use mathlib.Core.Logic.{inl, inr}
use mathlib.Core.Bool.{Bool, true, false, ◌||◌, cond, or-false}
use mathlib.Core.List.{List, [], ◌∷◌, ◌++◌}
use mathlib.Core.List.{Memᴰ}
use mathlib.Core.Option.{Option, some}
use lib.Dec.{eqb}
use lib.ListN.{length, get_elem?, length-append}
use borrow.Author.Tests.{eqb-true, le-leb}
use Rattle.laws.specs.Lists.{any, apart}
use Rattle.laws.proofs.Numbers.{lt-or-gt, eq-or-ne, and_intro, and_left, and_right, true-or-false}
use Rattle.laws.proofs.Lists.{any_append, get_elem?-lt, get_elem?-append, get_elem?-last, get_elem?-snoc-cases}
use Rattle.laws.proofs.Sorted.{less_by, less-not-same-key}
use Rattle.model.specs.Setup.{Setup, width}
use Rattle.model.specs.Timestamp.{trimmed}
use Rattle.model.specs.Frame.{Frame, encode}
use Rattle.model.specs.Codec.{frame_of}
use Rattle.model.specs.Question.{first_no}
use Rattle.model.specs.Judge.{Asking, Heard, hear_one, judge_questions}
use Rattle.model.specs.Holdback.{held}
use Rattle.model.specs.Published.{Message, Process, rank, same_message, new_ones, message_due}
use Rattle.model.specs.Run.{Node, Source, sent_by, stale, Done, World, sends, message_bytes}
use Rattle.theory.specs.Demand2.{reduced, reduced_frame, messages_heard, Published}
use Rattle.theory.specs.Demand3.{covered, is_from, heard_in}
use Rattle.lemmas.proofs.Bounds.{Limits, FrameOk}
use Rattle.lemmas.proofs.Reading.{near-true}
use Rattle.model.specs.Schedule.{steady}
use Rattle.model.specs.Wider.{wider_questions, wider_hear_one}
use Rattle.model.proofs.ComputingWider.{computing_wider}
use Rattle.theory.proofs.Steadily.{judged-steady}
use Rattle.theory.proofs.World.{sends-event, event-kind, event_frame, heard_at, Good}
use Rattle.theory.proofs.Fresh.{settles-fresh}
use Rattle.theory.proofs.HearLoop.{Arrival, Entry, Around, Unreached, QueueLoop, some_inj, loop-verdict, judged-once, queue-one}
use Rattle.theory.proofs.PublishedEvent.{ReadsTrue, Knows}
use Rattle.theory.proofs.PublishedQueue.{SameMembers, rank-sender}
use Rattle.theory.proofs.PublishedHear.{Incoming, Told, SeenIs, also, News, none_left, again, new, seen-any, seen-again, seen-new, heard-cons, new-ones-again, new-ones-new}

-- the message m of the published program is the frame of the call d
pub record Copies (s : Setup) (m : Message) (d : Done) : Type 0 where
  pub frame : reduced_frame s.modulus m ≡ event_frame (steady s) d
  pub clock-is : m.event.r ≡ d.clock

-- what the published program has sent is what the calls have sent
pub record SentAs (s : Setup) (past : List Done) (sent : List (Option Message)) : Type 0 where
  pub same_length : length sent ≡ length past
  pub each :
      (k : ℕ) (d : Done) → get_elem? past k ≡ some d → sends d ≡ true
      → (m : Message) × (get_elem? sent k ≡ some (some m)) × Copies s m d
  pub only :
      (k : ℕ) (m : Message) → get_elem? sent k ≡ some (some m)
      → (d : Done) × (get_elem? past k ≡ some d) × (sends d ≡ true) × Copies s m d

-- of two messages of one node the one sent first comes first
abbrev pub RankedSent : Setup → List Done → List (Option Message) → Type 0
RankedSent s past sent =
    (k l : ℕ) (m m' : Message) (d d' : Done) → k < l → get_elem? sent k ≡ some (some m) → get_elem? sent l ≡ some (some m')
    → get_elem? past k ≡ some d → get_elem? past l ≡ some d' → d.node ≡ d'.node → less_by (rank s.epsilon) m m' ≡ true

-- a message that is held at v: not ahead of it, and due less than ε before it at most
pub record Waits (s : Setup) (v : ℕ) (m : Message) : Type 0 where
  pub close : m.event.c < s.epsilon
  pub not-ahead : m.event.r < v + s.epsilon
  pub not-long-due : v < message_due s.epsilon s.delta m + s.epsilon

-- a station and its process
pub record Twin (s : Setup) (past : List Done) (sent : List (Option Message)) (i : ℕ) (node : Node) (p : Process) : Type 0 where
  pub number : p.number ≡ node.own
  pub clock-is : p.last.r ≡ node.clock
  pub wide : length p.last.kn ≡ width s.epsilon
  pub stamp : trimmed s.epsilon node.tables ≡ reduced s.modulus p.last
  pub queue : SameMembers s.modulus (held s.epsilon node.holdback) p.buffer
  pub single : apart same_message p.buffer ≡ true
  pub waiting : (m : Message) → Memᴰ m p.buffer → Waits s node.clock m
  pub undue : (m : Message) → Memᴰ m p.buffer → node.clock < message_due s.epsilon s.delta m
  pub from-received : (m : Message) → Memᴰ m p.buffer → Memᴰ m p.received
  pub received : SeenIs sent (heard_at past i) p.received
  pub knows :
      (k : ℕ) (m : Message) (d : Done) → get_elem? sent k ≡ some (some m) → get_elem? past k ≡ some d → d.node ≡ i
      → Knows m.event p.last

-- all stations and their processes
pub record Paired (s : Setup) (w : World) (u : Published) : Type 0 where
  pub good : Good (steady s) 0 0 w
  pub sent-as : SentAs s w.past u.sent
  pub ranked : RankedSent s w.past u.sent
  pub twins :
      (i : ℕ) (node : Node) → get_elem? w.nodes i ≡ some node → node.listens ≡ false
      → (p : Process) × (get_elem? u.processes i ≡ some p) × Twin s w.past u.sent i node p

pub waits-reads : (s : Setup) (v : ℕ) (m : Message) → Limits s → Waits s v m → ReadsTrue s.epsilon s.modulus v m.event.r
waits-reads s v m l h =
    near-true s.epsilon s.modulus v m.event.r l.epsilon-pos (omega (arith, l.modulus-least)) h.not-ahead (omega (arith, l.modulus-least, h))

-- a message that is due later is held until the next clock, at most ε later
pub waits-next : (s : Setup) (v k : ℕ) (m : Message) → k ≤ s.epsilon → v < message_due s.epsilon s.delta m → Waits s v m → Waits s (v + k) m
waits-next s v k m few later h = record { close = h.close; not-ahead = omega (arith, h.not-ahead); not-long-due = omega arith }

-- a copy has its sender
copied-sender : (s : Setup) (m : Message) (d : Done) → Copies s m d → m.sender ≡ d.own
copied-sender s m d c = unfold reduced_frame event_frame frame_of in (ap (λ (f : Frame). f.station) c.frame)

pub same_parts : (m m' : Message) → same_message m m' ≡ true → (m.sender ≡ m'.sender) × (m.event.r ≡ m'.event.r)
unfolding same_message
same_parts m m' h = (
  eqb-true m.sender m'.sender (and_left (eqb m.sender m'.sender) (eqb m.event.r m'.event.r) h),
  eqb-true m.event.r m'.event.r (and_right (eqb m.sender m'.sender) (eqb m.event.r m'.event.r) h),
)

module _ (s : Setup) (w : World) (sent : List (Option Message)) (good : Good (steady s) 0 0 w) (sent-as : SentAs s w.past sent) where
  pub told : Told sent
  told k l m m' at at' same =
      let (d, d-at, d-sends, c) = sent-as.only k m at in
      let (d', d'-at, d'-sends, c') = sent-as.only l m' at' in
      let (senders, clocks) = same_parts m m' same in
      good.unique k l d d' d-at d'-at (sends-event d d-sends) (sends-event d' d'-sends)
      (sym (copied-sender s m d c) ∙ (senders ∙ copied-sender s m' d' c')) (sym c.clock-is ∙ (clocks ∙ c'.clock-is))

  -- messages of one rank are one message
  pub one_rank :
      RankedSent s w.past sent → (k l : ℕ) (m m' : Message) → get_elem? sent k ≡ some (some m) → get_elem? sent l ≡ some (some m')
      → rank s.epsilon m ≡ rank s.epsilon m' → m ≡ m'
  one_rank ranked k l m m' at at' e =
      let (d, d-at, d-sends, c) = sent-as.only k m at in
      let (d', d'-at, d'-sends, c') = sent-as.only l m' at' in
      let maker = (good.calls k d d-at (sends-event d d-sends)).maker in
      let maker' = (good.calls l d' d'-at (sends-event d' d'-sends)).maker in
      let one-node : d.node ≡ d'.node =
      good.group.distinct d.node d'.node maker.node maker'.node maker.at maker'.at
      (maker.kind-is ∙ event-kind d (sends-event d d-sends)) (maker'.kind-is ∙ event-kind d' (sends-event d' d'-sends))
      (maker.own_is ∙ (sym (copied-sender s m d c) ∙ (rank-sender s.epsilon m m' e ∙ (copied-sender s m' d' c' ∙ sym maker'.own_is)))) in
      elim (eq-or-ne k l) [
        | inl q ↦ some_inj (some_inj (sym at ∙ (ap (get_elem? sent) q ∙ at')))
        | inr q ↦
            elim (lt-or-gt k l q) [
              | inl h ↦ absurd (less-not-same-key (rank s.epsilon) m m' (ranked k l m m' d d' h at at' d-at d'-at one-node) e)
              | inr h ↦ absurd (less-not-same-key (rank s.epsilon) m' m (ranked l k m' m d' d h at' at d'-at d-at (sym one-node)) (sym e))
            ]
      ]

  pub copied-ok : (k : ℕ) (m : Message) → get_elem? sent k ≡ some (some m) → FrameOk s (reduced_frame s.modulus m)
  copied-ok k m at =
      let (d, d-at, d-sends, c) = sent-as.only k m at in
      subst (λ (f : Frame). FrameOk s f) (sym c.frame) (good.calls k d d-at (sends-event d d-sends)).event.frame

  -- what is new in a batch, by the verdicts
  module _ (v : ℕ) (Around-here : Around (steady s) (steady s) w.nodes w.past v) (unreached-here : Unreached (steady s) w.nodes v) where
    incoming :
        (k : ℕ) (d : Done) (m : Message) (bytes : List ℕ) → Arrival (steady s) 0 w.nodes w.past v k d → bytes ≡ message_bytes d
        → get_elem? sent k ≡ some (some m) → Copies s m d → Incoming s v sent k m bytes
    incoming k d m bytes a e at c =
        record {
          at = at;
          bytes-are = e ∙ (a.event.bytes a.sent ∙ ap encode (sym c.frame));
          frame = copied-ok k m at;
          not-ahead = omega (arith, a.not-ahead, c.clock-is);
          not_late = omega (arith, a.not_late, c.clock-is);
        }

    verdict-of :
        (k : ℕ) (d : Done) (bytes : List ℕ) (heard : ℕ → Bool) (h : Heard) → Arrival (steady s) 0 w.nodes w.past v k d → bytes ≡ message_bytes d
        → QueueLoop (steady s) (steady s) 0 0 w.past v heard h.queue
        → first_no (judge_questions s (v % s.modulus) h.queue bytes) ≡ cond (heard k) 16 0
    unfolding covered
    verdict-of k d bytes heard h a e loop =
        ap (λ (b : List ℕ). first_no (judge_questions s (v % s.modulus) h.queue b)) e
        ∙ (ap (λ (asking : ℕ → Asking). first_no (asking (v % s.modulus) h.queue (message_bytes d))) (sym (judged-steady s))
        ∙ loop-verdict (steady s) (steady s) 0 0 (settles-fresh (steady s)) w.nodes w.past v Around-here unreached-here heard h.queue loop k d a (and_intro a.sent (le-leb 0 d.clock (omega arith))))

    -- one entry heard, by the plain definitions
    heard-next :
        (heard : ℕ → Bool) (h : Heard) (b : List ℕ)
        → QueueLoop (steady s) (steady s) 0 0 w.past v heard (wider_hear_one (steady s) (v % s.modulus) (wider_questions (steady s) (v % s.modulus)) h b).queue
        → QueueLoop (steady s) (steady s) 0 0 w.past v heard (hear_one s (v % s.modulus) (judge_questions s (v % s.modulus)) h b).queue
    unfolding computing_wider
    heard-next heard h b loop = loop

    pub news-of :
        (entries : List (List ℕ)) (sources : List Source) (heard : ℕ → Bool) (h : Heard) (seen : List Message)
        → QueueLoop (steady s) (steady s) 0 0 w.past v heard h.queue → SeenIs sent heard seen → length entries ≡ length sources
        → ((e : ℕ) (bytes : List ℕ) (o : Source) → get_elem? entries e ≡ some bytes → get_elem? sources e ≡ some o → Entry (steady s) 0 w.nodes w.past v bytes o)
        → News s v sent heard h entries sources (new_ones seen (messages_heard sent sources))
    unfolding messages_heard new_ones is_from
    news-of [] [] heard h seen loop is same entry = none_left
    news-of [] (o ∷ os) heard h seen loop is same entry = absurd (omega arith)
    news-of (b ∷ bs) [] heard h seen loop is same entry = absurd (omega arith)
    news-of (b ∷ bs) (stale ∷ os) heard h seen loop is same entry = absurd (omega (arith, Around-here.limits.epsilon-pos, entry 0 b stale refl refl))
    news-of (b ∷ bs) (sent_by k ∷ os) heard h seen loop is same entry =
        let (d, a, is-d) = entry 0 b (sent_by k) refl refl in
        let (m, at, c) = sent-as.each k d a.at a.sent in
        let verdict = verdict-of k d b heard h a is-d loop in
        let loop' =
        heard-next (also heard k) h b
        (queue-one (steady s) (steady s) 0 0 (settles-fresh (steady s)) w.nodes w.past v Around-here (wider_questions (steady s) (v % s.modulus))
        (judged-once (steady s) (steady s) 0 0 (settles-fresh (steady s)) w.nodes w.past v Around-here unreached-here) heard (also heard k) h b (sent_by k) loop
        (entry 0 b (sent_by k) refl refl) (λ j. refl)) in
        let rest = hear_one s (v % s.modulus) (judge_questions s (v % s.modulus)) h b in
        elim (true-or-false (heard k)) [
          | inl e ↦
              subst (λ (l : List Message). News s v sent heard h (b ∷ bs) (sent_by k ∷ os) l)
              (sym (ap (new_ones seen) (heard-cons sent k m os at) ∙ new-ones-again seen m (messages_heard sent os) (seen-any sent heard seen told is k m at ∙ e)))
              (again k m (incoming k d m b a is-d at c) e (verdict ∙ ap (λ (x : Bool). cond x 16 0) e)
              (news-of bs os (also heard k) rest seen loop' (seen-again sent heard seen k e is) (omega arith) (λ j. entry (suc j))))
          | inr e ↦
              subst (λ (l : List Message). News s v sent heard h (b ∷ bs) (sent_by k ∷ os) l)
              (sym (ap (new_ones seen) (heard-cons sent k m os at) ∙ new-ones-new seen m (messages_heard sent os) (seen-any sent heard seen told is k m at ∙ e)))
              (new k m (incoming k d m b a is-d at c) e (verdict ∙ ap (λ (x : Bool). cond x 16 0) e)
              (news-of bs os (also heard k) rest (m ∷ seen) loop' (seen-new sent heard seen k m at is) (omega arith) (λ j. entry (suc j))))
        ]

-- lists that grow at the end
pub heard-snoc : (past : List Done) (d : Done) (i k : ℕ) → heard_at (past ++ (d ∷ [])) i k ≡ (heard_at past i k || heard_in i k d)
unfolding heard_at any
heard-snoc past d i k = any_append (heard_in i k) past (d ∷ []) ∙ ap (λ (b : Bool). heard_at past i k || b) (or-false (heard_in i k d))

-- a list with one element more still has those it had
pub grown-at : {A : Type 0} (l : List A) (x : A) (k : ℕ) {y : A} → get_elem? l k ≡ some y → get_elem? (l ++ (x ∷ [])) k ≡ some y
grown-at l x k e = get_elem?-append l (x ∷ []) k (get_elem?-lt l k e) ∙ e

-- the last call and what was sent at it
pub record LastAs (s : Setup) (d : Done) (x : Option Message) : Type 0 where
  pub each : sends d ≡ true → (m : Message) × (x ≡ some m) × Copies s m d
  pub only : (m : Message) → x ≡ some m → (sends d ≡ true) × Copies s m d

pub sent-as-snoc : (s : Setup) (past : List Done) (sent : List (Option Message)) (d : Done) (x : Option Message) → SentAs s past sent → LastAs s d x → SentAs s (past ++ (d ∷ [])) (sent ++ (x ∷ []))
sent-as-snoc s past sent d x is last =
    record {
      same_length = length-append sent (x ∷ []) ∙ (ap (λ (n : ℕ). n + 1) is.same_length ∙ sym (length-append past (d ∷ [])));
      each = λ k d' at sends-d.
          elim (get_elem?-snoc-cases past d k at) [
            | inl q ↦ let (m, m-at, c) = is.each k d' q sends-d in (m, grown-at sent x k m-at, c)
            | inr q ↦
                let (m, x-is, c) = last.each (subst (λ (y : Done). sends y ≡ true) q.1 sends-d) in (
                  m,
                  ap (λ (n : ℕ). get_elem? (sent ++ (x ∷ [])) n) (q.0 ∙ sym is.same_length) ∙ (get_elem?-last sent x ∙ ap some x-is),
                  subst (λ (y : Done). Copies s m y) (sym q.1) c,
                )
          ];
      only = λ k m at.
          elim (get_elem?-snoc-cases sent x k at) [
            | inl q ↦ let (d', d-at, sends-d, c) = is.only k m q in (d', grown-at past d k d-at, sends-d, c)
            | inr q ↦
                let (sends-d, c) = last.only m (sym q.1) in
                (d, ap (λ (n : ℕ). get_elem? (past ++ (d ∷ [])) n) (q.0 ∙ is.same_length) ∙ get_elem?-last past d, sends-d, c)
          ];
    }

pub ranked-snoc :
    (s : Setup) (past : List Done) (sent : List (Option Message)) (d : Done) (x : Option Message) → length sent ≡ length past → RankedSent s past sent
    → ((k : ℕ) (m m' : Message) (d' : Done) → x ≡ some m' → get_elem? sent k ≡ some (some m) → get_elem? past k ≡ some d' → d'.node ≡ d.node → less_by (rank s.epsilon) m m' ≡ true)
    → RankedSent s (past ++ (d ∷ [])) (sent ++ (x ∷ []))
ranked-snoc s past sent d x same ranked last k l m m' a b less-kl at-k at-l a_at b_at nodes =
    elim (get_elem?-snoc-cases sent x l at-l) [
      | inl q ↦
          let l-in : l < length past = omega (arith, get_elem?-lt sent l q, same) in
          ranked k l m m' a b less-kl (old-at sent x k (omega arith) at-k) q (old-at past d k (omega arith) a_at) (old-at past d l l-in b_at) nodes
      | inr q ↦
          let b-is : b ≡ d = some_inj (sym b_at ∙ (ap (λ (n : ℕ). get_elem? (past ++ (d ∷ [])) n) (q.0 ∙ same) ∙ get_elem?-last past d)) in
          last k m m' a (sym q.1) (old-at sent x k (omega arith) at-k) (old-at past d k (omega arith) a_at) (nodes ∙ ap (λ (y : Done). y.node) b-is)
    ]
  where
    old-at : {A : Type 0} (xs : List A) (y : A) (j : ℕ) {z : A} → j < length xs → get_elem? (xs ++ (y ∷ [])) j ≡ some z → get_elem? xs j ≡ some z
    old-at xs y j h e = sym (get_elem?-append xs (y ∷ []) j h) ∙ e

-- what was heard is no later call's message
seen-snoc :
    (sent : List (Option Message)) (x : Option Message) (heard heard' : ℕ → Bool) (seen : List Message) → ((k : ℕ) → heard' k ≡ heard k)
    → ((k : ℕ) → heard k ≡ true → k < length sent) → SeenIs sent heard seen → SeenIs (sent ++ (x ∷ [])) heard' seen
seen-snoc sent x heard heard' seen same bound is =
    record {
      into = λ m t. let (k, at, e) = is.into m t in (k, grown-at sent x k at, same k ∙ e);
      back = λ k m at e.
          let old : heard k ≡ true = sym (same k) ∙ e in
          is.back k m (sym (get_elem?-append sent (x ∷ []) k (bound k old)) ∙ at) old;
    }

-- a node that does not move keeps its process
pub twin-stays :
    (s : Setup) (past : List Done) (sent : List (Option Message)) (j : ℕ) (node : Node) (p : Process) (d : Done) (x : Option Message)
    → length sent ≡ length past → ((k : ℕ) → heard_at past j k ≡ true → k < length past) → ((k : ℕ) → heard_in j k d ≡ false)
    → ((m : Message) → x ≡ some m → d.node ≡ j → ⊥) → Twin s past sent j node p → Twin s (past ++ (d ∷ [])) (sent ++ (x ∷ [])) j node p
twin-stays s past sent j node p d x same bound quiet other t =
    record {
      number = t.number;
      clock-is = t.clock-is;
      wide = t.wide;
      stamp = t.stamp;
      queue = t.queue;
      single = t.single;
      waiting = t.waiting;
      undue = t.undue;
      from-received = t.from-received;
      received =
          seen-snoc sent x (heard_at past j) (heard_at (past ++ (d ∷ [])) j) p.received
          (λ k. heard-snoc past d j k ∙ (ap (λ (b : Bool). heard_at past j k || b) (quiet k) ∙ or-false (heard_at past j k)))
          (λ k h. omega (arith, bound k h)) t.received;
      knows = λ k m a at a_at here.
          elim (get_elem?-snoc-cases sent x k at) [
            | inl q ↦
                t.knows k m a q (sym (get_elem?-append past (d ∷ []) k (omega (arith, get_elem?-lt sent k q))) ∙ a_at) here
            | inr q ↦
                let a-is : a ≡ d = some_inj (sym a_at ∙ (ap (λ (n : ℕ). get_elem? (past ++ (d ∷ [])) n) (q.0 ∙ same) ∙ get_elem?-last past d)) in
                absurd (other m (sym q.1) (sym (ap (λ (y : Done). y.node) a-is) ∙ here))
          ];
    }
