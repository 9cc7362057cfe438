-- 02, 2.8: the run of a trace of which nothing is refused: all its calls, made one by one. Assumes nothing.
use Prim.Native.Nat.{ℕ, zero, suc}
use native.Mathlib.Omega.{arith}
use mathlib.Core.Path.{◌≡◌, refl, sym, ap, ap₂, subst, ◌∙◌}
use mathlib.Core.Bool.{Bool, true}
use mathlib.Core.List.{List, [], ◌∷◌, ◌++◌, map}
use lib.Dec.{eqb}
use lib.ListN.{drop}
use borrow.Author.Tests.{eqb-true}
use Rattle.laws.specs.Lists.{every, joined}
use Rattle.laws.proofs.Numbers.{and_left, and_right, cond-true}
use Rattle.laws.proofs.Lists.{every_map}
use Rattle.model.specs.Setup.{Setup}
use Rattle.model.specs.Run.{Done, World, is_accepted, message_bytes, act, run_from}
use Rattle.trace.specs.Trace.{trace_setup, count_length, tick_count, tick_number}
use Rattle.trace.specs.Replay.{stopped}
use Rattle.rehearsal.specs.Step.{group_setup_length, step_number, tick_with}
use Rattle.rehearsal.specs.Group.{new_group, Stepped}
use Rattle.rehearsal.specs.Closing.{figure_lines}
use Rattle.rehearsal.specs.Rehearsal.{group_setup}
use Rattle.rehearsal.specs.Calls.{
  steps_in,
  call_for,
  calls_for,
  group_start,
  made_of,
  done_lines,
  done_verdicts,
  done_number,
  call_lines,
  CallRun,
  unless_refused,
  called_first,
  latest_number,
  calls_made,
  run_of,
  stepped_all,
  refused_with,
  unrefused,
  SameCalls,
  SameRun,
  AllCalls,
  ByCalls,
  calls_text,
  TextByCalls,
}
use Rattle.rehearsal.proofs.ByCalls.{refused-by, none-refused, run-by-calls, text-of-run}

abbrev passed : Stepped → Bool
passed one = eqb one.number 0

abbrev was_accepted : Done → Bool
was_accepted d = is_accepted d.output

-- none is refused, so it does not stop
none-stops : (all : List Stepped) → every passed all ≡ true → refused_with all ≡ 0
unfolding every
none-stops [] h = none-refused
none-stops (one ∷ rest) h =
    refused-by 0 one rest (eqb-true one.number 0 (and_left (passed one) (every passed rest) h))
    ∙ none-stops rest (and_right (passed one) (every passed rest) h)

-- and where it does not stop every step is called
first-called : (a b c : ℕ) (bytes : List ℕ) (w next : World) (more : CallRun) (rest : List (List ℕ)) → (more.number ≡ 0 → more.called ≡ rest)
    → (unless_refused a w (unless_refused b w (called_first bytes (unless_refused c next more)))).number ≡ 0
    → (unless_refused a w (unless_refused b w (called_first bytes (unless_refused c next more)))).called ≡ bytes ∷ rest
first-called zero zero zero bytes w next more rest h e = ap (λ (l : List (List ℕ)). bytes ∷ l) (h e)
first-called zero zero (suc c) bytes w next more rest h e = absurd (omega (arith, e))
first-called zero (suc b) c bytes w next more rest h e = absurd (omega (arith, e))
first-called (suc a) b c bytes w next more rest h e = absurd (omega (arith, e))

all-called : (s : Setup) (steps : List (List ℕ)) (w : World) → (calls_made s w steps).number ≡ 0 → (calls_made s w steps).called ≡ steps
unfolding calls_made
all-called s [] w e = refl
all-called s (bytes ∷ rest) w e =
    let next : World = act w (call_for s w bytes) in
    let sent : List (List ℕ) = map message_bytes w.past in
    first-called (step_number s.n sent bytes) (tick_number (tick_with sent bytes)) (latest_number next) bytes w next (calls_made s next rest) rest (all-called s rest next) e

abbrev is_zero : ℕ → Bool
is_zero n = eqb n 0

-- so each call is accepted
all-accepted : (all : List Stepped) (past : List Done) → every passed all ≡ true → map (λ (one : Stepped). one.number) all ≡ map done_number past
    → every was_accepted past ≡ true
unfolding is_accepted
all-accepted all past h e =
    sym (every_map is_zero done_number past)
    ∙ sym (ap (every is_zero) e)
    ∙ every_map is_zero (λ (one : Stepped). one.number) all
    ∙ h

-- and has its lines
accepted-lines : (past : List Done) → every was_accepted past ≡ true → joined call_lines past ≡ joined done_lines past
unfolding every joined call_lines
accepted-lines [] h = refl
accepted-lines (d ∷ past) h =
    ap₂ (λ (a b : List ℕ). a ++ b) (cond-true (done_lines d) [] (and_left (was_accepted d) (every was_accepted past) h))
    (accepted-lines past (and_right (was_accepted d) (every was_accepted past) h))

same-run : {called called' : List (List ℕ)} {w w' : World} {k k' : ℕ} → called ≡ called' → w ≡ w' → k ≡ k'
    → ◌≡◌ {A = CallRun} (record { called = called; world = w; number = k }) (record { called = called'; world = w'; number = k' })
same-run e f g = rw (e, f, g)

pub by-calls : ByCalls
unfolding unrefused made_of run_of
by-calls s steps h =
    let run : CallRun = run_of s steps in
    let all : List Stepped = stepped_all s (new_group s) steps in
    let ran : SameRun s steps run = run-by-calls s steps in
    let number : run.number ≡ 0 = sym ran.number ∙ none-stops all h in
    let called : run.called ≡ steps = all-called s steps (group_start s steps) number in
    let world : run.world ≡ made_of s steps = ran.made ∙ ap (λ (l : List (List ℕ)). run_from (group_start s steps) (calls_for s (group_start s steps) l)) called in
    let same : SameCalls s steps (made_of s steps)
    = subst (SameCalls s steps) world (subst (λ (l : List (List ℕ)). SameCalls s l run.world) called ran.same) in
    let accepted : every was_accepted (made_of s steps).past ≡ true = all-accepted all (made_of s steps).past h same.numbers in
    record {
      run = same-run called world number;
      accepted = accepted;
      text = same.text ∙ accepted-lines (made_of s steps).past accepted;
      same = same;
    }

pub text-by-calls : TextByCalls
unfolding calls_text
text-by-calls bytes s steps u =
    let behind : List ℕ = drop group_setup_length bytes in
    let k : ℕ = tick_count behind in
    let body : List ℕ = drop count_length behind in
    let all : AllCalls s steps = by-calls s steps u.all in
    let past : List Done = (made_of s steps).past in
    let run : run_of s (steps_in k body) ≡ record { called = steps; world = made_of s steps; number = 0 }
    = ap (run_of s) (sym u.steps-are) ∙ all.run in
    text-of-run bytes
    ∙ ap₂ (λ (a b : ℕ). stopped a (stopped b (calls_text (trace_setup (group_setup bytes)).setup k body))) u.setup u.count
    ∙ ap (λ (x : Setup). calls_text x k body) (sym u.setup-is)
    ∙ ap₂ (λ (r : CallRun) (end : ℕ). joined call_lines r.world.past ++ stopped r.number (stopped end (figure_lines (map done_verdicts r.world.past)))) run u.end
    ∙ ap (λ (l : List ℕ). l ++ figure_lines (map done_verdicts past)) (accepted-lines past all.accepted)
