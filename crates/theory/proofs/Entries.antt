-- The entries of a call one after the other: what has been heard, and what hearing has made of queue and stamp, before each.
-- Assumes nothing.
use Prim.Native.Nat.{ℕ, suc, ◌%◌, ◌≤◌, ◌<◌}
use native.Mathlib.Omega.{arith}
use mathlib.Core.Path.{◌≡◌, refl, sym, ap, ◌∙◌}
use mathlib.Core.Bool.{Bool, true, false, ◌||◌, or-false}
use mathlib.Core.List.{List, [], ◌∷◌, ◌++◌}
use mathlib.Core.Option.{some}
use lib.ListN.{length, take, get_or, get_elem?}
use lib.Seq.{take-suc, take_all}
use borrow.Author.Tests.{eq-eqb, eqb-true}
use Rattle.laws.specs.Lists.{any, fold_left}
use Rattle.laws.proofs.Lists.{any_append, any-mem, mem-get_elem?}
use Rattle.laws.proofs.Numbers.{clash}
use Rattle.model.specs.Timestamp.{Timestamp}
use Rattle.model.specs.Batch.{batch_entries}
use Rattle.model.specs.Question.{first_no}
use Rattle.model.specs.Judge.{Asking, Heard, absorb_each}
use Rattle.model.specs.Schedule.{Schedule, modulus_of}
use Rattle.model.specs.Wider.{wider_decode, wider_questions, wider_opening_queue, wider_opening, wider_hear_one, wider_hear, wider_absorb_by, wider_absorb_all, wider_opening_stamp, wider_opened, wider_heard_stamp}
use Rattle.model.specs.Run.{Node, Source, sent_by, stale, Call, Done, input_of, is_accepted, output_of, done_of}
use Rattle.theory.specs.Demand3.{heard_in, is_from}
use Rattle.lemmas.proofs.Hearing.{numbers_by}
use Rattle.lemmas.proofs.Schedules.{Good as GoodSchedule}
use Rattle.lemmas.proofs.WiderReceiving.{verdict-along}
use Rattle.lemmas.proofs.WiderTick.{heard-numbers-along}
use Rattle.theory.proofs.Received.{heard_on, verdicts-here}
use Rattle.theory.proofs.World.{Called, heard_at, asking_by, least_by, asking_at, least_at, rest_at}

-- general
or_assoc : (a b c : Bool) → (a || (b || (c || false))) ≡ ((a || b) || c)
or_assoc true b c = refl
or_assoc false true c = refl
or_assoc false false true = refl
or_assoc false false false = refl

-- what has been heard before entry e of the call
abbrev pub heard_to : List Done → Call → ℕ → ℕ → Bool
heard_to past call e k = heard_at past call.node k || any (is_from k) (take e call.sources)

pub heard-suc : (past : List Done) (call : Call) (e : ℕ) → e < length call.sources → (j : ℕ) → heard_to past call (suc e) j ≡ (heard_to past call e j || is_from j (get_or call.sources e stale))
unfolding any
heard-suc past call e h j =
    rw (take-suc call.sources e stale h, any_append (is_from j) (take e call.sources) (get_or call.sources e stale ∷ []))
    (or_assoc (heard_at past call.node j) (any (is_from j) (take e call.sources)) (is_from j (get_or call.sources e stale)))

-- an entry from call k
pub from-entry : (k : ℕ) (sources : List Source) → any (is_from k) sources ≡ true → (e : ℕ) × (get_elem? sources e ≡ some (sent_by k))
unfolding is_from
from-entry k sources h =
    let r = any-mem (is_from k) sources h in
    let e = mem-get_elem? r.1 in
    go r.0 e.0 e.1 r.2
  where
    go : (o : Source) (e : ℕ) → get_elem? sources e ≡ some o → is_from k o ≡ true → (e : ℕ) × (get_elem? sources e ≡ some (sent_by k))
    go (sent_by j) e at h = (e, rw (eqb-true k j h) at)
    go stale e at h = absurd (clash h refl)

-- after its last entry
pub heard-end :
    (past : List Done) (node : Node) (call : Call) → is_accepted (output_of node call) ≡ true → (e : ℕ) → length call.sources ≤ e
    → (k : ℕ) → heard_to past call e k ≡ heard_at (past ++ (done_of node call ∷ [])) call.node k
unfolding heard_at any heard_in done_of
heard-end past node call accepted e all k =
    rw (
      any_append (heard_in call.node k) past (done_of node call ∷ []),
      accepted,
      eq-eqb call.node call.node refl,
      take_all e call.sources all,
      or-false (any (is_from k) call.sources),
    ) refl

-- one entry more
hear-snoc : (l : Schedule) (u : ℕ) (asking : Asking) (h : Heard) (xs : List (List ℕ)) (b : List ℕ) → wider_hear l u asking h (xs ++ (b ∷ [])) ≡ wider_hear_one l u asking (wider_hear l u asking h xs) b
unfolding wider_hear fold_left
hear-snoc l u asking h [] b = refl
hear-snoc l u asking h (x ∷ xs) b = hear-snoc l u asking (wider_hear_one l u asking h x) xs b

-- the verdicts' numbers
abbrev pub numbers_along : Schedule → ℕ → Asking → Heard → List (List ℕ) → List ℕ
numbers_along l u asking h entries = numbers_by asking (wider_hear_one l u asking) h entries

absorb-snoc :
    (l : Schedule) (u : ℕ) (asking : Asking) (h : Heard) (t : Timestamp) (xs : List (List ℕ)) (b : List ℕ)
    → wider_absorb_all l u t (xs ++ (b ∷ [])) (numbers_along l u asking h (xs ++ (b ∷ [])))
    ≡ wider_absorb_by l (first_no (asking (wider_hear l u asking h xs).queue b)) u (wider_decode l b) (wider_absorb_all l u t xs (numbers_along l u asking h xs))
unfolding wider_hear fold_left wider_absorb_all absorb_each numbers_by
absorb-snoc l u asking h t [] b = refl
absorb-snoc l u asking h t (x ∷ xs) b =
    absorb-snoc l u asking (wider_hear_one l u asking h x) (wider_absorb_by l (first_no (asking h.queue x)) u (wider_decode l x) t) xs b

-- a node's call for v, by its schedule
module _ (l : Schedule) (v : ℕ) (found : Node) (call : Call) where
  abbrev entries : List (List ℕ)
  entries = batch_entries call.batch

  abbrev u : ℕ
  u = v % modulus_of l

  -- what hearing starts from, on the queue
  abbrev pub start_here : Heard
  start_here = record { queue = rest_at l v found; verdicts = [] }

  -- what hearing has made of the queue before entry e
  unfoldable pub state_at : ℕ → Heard
  state_at e = wider_hear l u (asking_at l v found) start_here (take e entries)

  -- and of the stamp
  abbrev stamp_of : List (List ℕ) → Timestamp
  stamp_of xs = wider_absorb_all l u (wider_opening_stamp l u found.tables) xs (numbers_along l u (asking_at l v found) start_here xs)

  unfoldable pub stamp_at : ℕ → Timestamp
  stamp_at e = stamp_of (take e entries)

  pub state-suc : (e : ℕ) → e < length entries → state_at (suc e) ≡ wider_hear_one l u (asking_at l v found) (state_at e) (get_or entries e [])
  unfolding state_at
  state-suc e h =
      ap (wider_hear l u (asking_at l v found) start_here) (take-suc entries e [] h)
      ∙ hear-snoc l u (asking_at l v found) start_here (take e entries) (get_or entries e [])

  pub stamp-suc :
      (e : ℕ) → e < length entries
      → stamp_at (suc e)
      ≡ wider_absorb_by l (first_no (asking_at l v found (state_at e).queue (get_or entries e []))) u (wider_decode l (get_or entries e [])) (stamp_at e)
  unfolding state_at stamp_at
  stamp-suc e h =
      ap stamp_of (take-suc entries e [] h)
      ∙ absorb-snoc l u (asking_at l v found) start_here (wider_opening_stamp l u found.tables) (take e entries) (get_or entries e [])

  -- after the last entry
  pub state-end : heard_on l v found call ≡ state_at (length entries)
  unfolding state_at
  state-end = ap (wider_hear l u (asking_at l v found) start_here) (sym (take_all (length entries) entries (omega arith)))

  -- the verdict of an entry, by the state before it
  pub state-verdict :
      (g : Schedule) (node : Node) → Called g l node found call v → (e : ℕ) (bytes : List ℕ) → get_elem? entries e ≡ some bytes
      → get_or (output_of node call).verdicts e 0 ≡ first_no (asking_at l v found (state_at e).queue bytes)
  unfolding state_at
  state-verdict g node c e bytes at =
      ap (λ (x : List ℕ). get_or x e 0) (verdicts-here g l node found call c)
      ∙ verdict-along l u (least_at l v found) (asking_at l v found) found.holdback entries call.verdicts e bytes at

  -- a station's
  module _ (good : GoodSchedule l) (station : found.listens ≡ false) where
    pub asking-is : asking_at l v found ≡ wider_questions l u
    asking-is = ap (λ (b : Bool). asking_by b l u) station

    -- what hearing makes of the stamp, by the clock, and by who hears
    abbrev stamp_by : Bool → ℕ → Timestamp
    stamp_by b x =
        wider_absorb_all l x (wider_opening_stamp l x found.tables) entries
        (numbers_along l x (asking_by b l x) (wider_opening l x (wider_opening_queue l x (least_by b l x found.tables) found.holdback)) entries)

    pub stamp-end : call.clock ≡ u → wider_heard_stamp l (input_of found call) ≡ stamp_at (length entries)
    stamp-end clock-is =
        unfold wider_heard_stamp wider_opened input_of in (
        ap (wider_absorb_all l call.clock (wider_opening_stamp l call.clock found.tables) entries) (heard-numbers-along l good (input_of found call))
        )
        ∙ (ap (stamp_by false) clock-is
        ∙ (ap (λ (b : Bool). stamp_by b u) (sym station)
        ∙ unfold stamp_at in (ap stamp_of (sym (take_all (length entries) entries (omega arith))))))
