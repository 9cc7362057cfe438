-- After an accepted tick, and after an observer's call, from any state, each verdict is the number of its judgement, and what is asked of its batch
-- and verdicts gets a yes: one proof for both, by whatever is asked. Assumes nothing.
use Prim.Native.Nat.{ℕ, ◌≤◌, ◌<◌}
use mathlib.Core.Path.{◌≡◌}
use mathlib.Core.Bool.{Bool, true, ◌&&◌}
use mathlib.Core.List.{List, [], ◌∷◌, ◌++◌}
use mathlib.Core.Option.{some}
use native.Mathlib.Omega.{arith}
use lib.Dec.{leb, eqb, ltb}
use lib.ListN.{length, take, drop, get_or, get_elem?, length-take, length-append}
use lib.Seq.{get_or-take}
use Rattle.laws.specs.Lists.{every, overlay}
use Rattle.laws.proofs.Lists.{every-of-index, get_elem?-in}
use Rattle.model.specs.Setup.{Setup, in_limits, is_member}
use Rattle.model.specs.Frame.{Frame}
use Rattle.model.specs.Batch.{exact_batch, batch_entries}
use Rattle.model.specs.Question.{Question, ask, first_no, ask_setup}
use Rattle.model.specs.Codec.{ask_payload}
use Rattle.model.specs.Judge.{hear, judge_questions, observer_questions}
use Rattle.model.specs.Tick.{Input, holdback_size, holdback_questions, call_questions, heard_of, opening_in, opening, tick}
use Rattle.model.specs.Observer.{Listening, listen_questions, observer_heard, observer_opened, listen}
use Rattle.model.specs.Verdicts.{given}
use Rattle.lemmas.proofs.Questions.{first-yes, other-yes}
use Rattle.lemmas.proofs.Receiving.{hear-length}
use Rattle.lemmas.proofs.OneTick.{accepted-call, no-question-fails, verdicts-are, verdict-byte}
use Rattle.lemmas.proofs.OneListening.{listen-accepted, listen-no-fails, listen-verdicts, listen-verdict}
use Rattle.verdicts.specs.Fit.{VerdictsFit}
use Rattle.verdicts.specs.Judging.{Judging, queue_at, judged_number, tick_judging, listen_judging}
use Rattle.verdicts.proofs.Given.{judged-given, observed-given}

-- what a call has done: its verdicts are written at the front of a buffer, each is its judgement's number, one of those that a judgement gives
pub record Judged (j : Judging) : Type 0 where
  pub exact : exact_batch j.batch ≡ true
  pub heard : List ℕ
  pub buffer : List ℕ
  pub wrote : j.verdicts ≡ overlay heard buffer
  pub as_many : length (batch_entries j.batch) ≤ length heard
  pub byte :
      (position : ℕ) (entry : List ℕ) → get_elem? (batch_entries j.batch) position ≡ some entry
      → get_or j.verdicts position 0 ≡ judged_number j position entry
  pub known : (queue : List Frame) (bytes : List ℕ) → given (first_no (j.asking queue bytes)) ≡ true

module _ (j : Judging) (a : Judged j) where
  abbrev entries : List (List ℕ)
  entries = batch_entries j.batch

  -- there are as many verdicts as entries
  enough : length entries ≤ length j.verdicts
  unfolding overlay
  enough = rw a.wrote (omega (arith, a.as_many, length-append a.heard (drop (length a.heard) a.buffer)))

  -- each that of a judgement
  all-given : every given (take (length entries) j.verdicts) ≡ true
  all-given = every-of-index given (take (length entries) j.verdicts) 0 each
    where
      each : (k : ℕ) → k < length (take (length entries) j.verdicts) → given (get_or (take (length entries) j.verdicts) k 0) ≡ true
      each k h =
          let below : k < length entries = omega (arith, length-take (length entries) j.verdicts) in
          rw (get_or-take (length entries) j.verdicts k 0 below, a.byte k (get_or entries k []) (get_elem?-in entries k [] below))
          (unfold judged_number in a.known (queue_at j k) (get_or entries k []))

  -- what is asked again gets a yes
  pub judged-fit : VerdictsFit j.batch j.verdicts
  judged-fit = record { exact = a.exact; enough = enough; all-given = all-given }

-- the questions behind 1 to 3, of a call that has passed all
behind-three :
    (valid : Bool) (s : Setup) (v : ℕ) (holdback : List ℕ) (rest : List Question) → first_no (ask valid 1 ∷ (holdback_questions s v holdback ++ rest)) ≡ 0
    → (valid ≡ true) × (first_no rest ≡ 0)
behind-three valid s v holdback rest e =
    let e₁ = other-yes valid 0 _ e in
    let e₂ = other-yes (ltb v s.modulus) 1 _ e₁ in
    (first-yes valid 0 _ e, other-yes (eqb (length holdback) (holdback_size s)) 2 _ e₂)

-- a tick
pub tick-asked : (i : Input) → first_no (call_questions i) ≡ 0 → ((in_limits i.setup && is_member i.setup i.own) ≡ true) × (exact_batch i.batch ≡ true)
unfolding call_questions ask_setup ask_payload
tick-asked i e =
    let call = behind-three (in_limits i.setup && is_member i.setup i.own) i.setup i.clock i.holdback _ e in
    (call.0, first-yes (exact_batch i.batch) 4 _ (other-yes (leb (length i.payload) 32) 3 _ call.1))

pub tick-judged : (i : Input) → (tick i).answer.number ≡ 0 → Judged (tick_judging i)
tick-judged i ok =
    let a = accepted-call i ok in
    record {
      exact = (tick-asked i (no-question-fails i ok)).1;
      heard = (heard_of i).verdicts;
      buffer = i.verdicts;
      wrote = verdicts-are i a;
      as_many = unfold heard_of in omega (arith, hear-length i.setup i.clock (judge_questions i.setup i.clock) (opening i) (batch_entries i.batch));
      byte = unfold judged_number queue_at hear in verdict-byte i a;
      known = judged-given i.setup i.clock;
    }

-- an observer's call
listen-asked : (i : Listening) → first_no (listen_questions i) ≡ 0 → exact_batch i.batch ≡ true
unfolding listen_questions
listen-asked i e = first-yes (exact_batch i.batch) 4 _ (behind-three (in_limits i.setup) i.setup i.clock i.holdback _ e).1

pub listen-judged : (i : Listening) → (listen i).number ≡ 0 → Judged (listen_judging i)
listen-judged i ok =
    let a = listen-accepted i ok in
    record {
      exact = listen-asked i (listen-no-fails i ok);
      heard = (observer_heard i).verdicts;
      buffer = i.verdicts;
      wrote = listen-verdicts i a;
      as_many =
          unfold observer_heard in
          omega (
            arith,
            hear-length i.setup i.clock (observer_questions i.setup i.clock) (opening_in i.setup i.clock (observer_opened i)) (batch_entries i.batch),
          );
      byte = unfold judged_number queue_at hear in listen-verdict i a;
      known = observed-given i.setup i.clock;
    }
