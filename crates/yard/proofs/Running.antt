-- The steps of a trace, one after the other. Assumes nothing.
use Prim.Native.Nat.{ℕ, suc, ◌+◌, ◌≤◌}
use native.Mathlib.Omega.{arith}
use native.Mathlib.Nat.{zero-add}
use native.Mathlib.Numerals.{add-one}
use mathlib.Core.Path.{◌≡◌, refl, sym, ap, ap₂, ◌∙◌}
use mathlib.Core.Bool.{Bool, true, false}
use mathlib.Core.List.{List, [], ◌∷◌, ◌++◌, map, append_assoc, append-nil}
use lib.Dec.{eqb}
use lib.ListN.{length, take, drop, length-map}
use borrow.Author.Tests.{eqb-true, eqb-false}
use Rattle.laws.specs.Lists.{joined}
use Rattle.laws.proofs.Numbers.{clash}
use Rattle.model.specs.Setup.{Setup}
use Rattle.model.specs.Question.{first_no}
use Rattle.trace.specs.Trace.{end_number}
use Rattle.trace.specs.Replay.{stopped}
use Rattle.rehearsal.specs.Step.{step_end, longest_step}
use Rattle.rehearsal.specs.Group.{Group, new_group, Stepped, stepped}
use Rattle.rehearsal.specs.Rehearsal.{rehearse_steps}
use Rattle.rehearsal.specs.Calls.{stepped_all}
use Rattle.rehearsal.specs.Views.{figures_of, noted_all}
use Rattle.rehearsal.specs.Standing.{group_of, new_rehearsal, Standing, Outcome, outcome_of, outcome_by, Left, left_of, step_left}
use Rattle.rehearsal.specs.declared.step.Rehearsal.{Rehearsal}
use Rattle.rehearsal.specs.declared.step.Rehearsed.{Rehearsed}
use Rattle.rehearsal.proofs.Figuring.{figures-step}
use Rattle.rehearsal.proofs.Whole.{next-whole}
use Rattle.yard.specs.declared.Progress.{Progress}
use Rattle.yard.specs.Running.{begun_group, BySteps, verdicts_by, Buffers, buffers_of, buffers_after, buffers_by, closed_by, Ran, Ended}

-- ---- step by step

-- one step more
by-steps-next : (s : Setup) (before : Stepped) (came : List (List ℕ)) (after : Stepped) (bytes : List ℕ) → BySteps s before came after → after.number ≡ 0
    → BySteps s before (came ++ (bytes ∷ [])) (stepped s after.group bytes)
unfolding BySteps
by-steps-next s before [] after bytes h e = (
  ap (λ (t : Stepped). t.number) h ∙ e,
  ap (λ (t : Stepped). stepped s t.group bytes) h,
)
by-steps-next s before (one ∷ came) after bytes h e = (h.0, by-steps-next s (stepped s before.group one) came after bytes h.1 e)

all-next : (s : Setup) (before : Stepped) (came : List (List ℕ)) (after : Stepped) (bytes : List ℕ) → BySteps s before came after
    → stepped_all s before.group (came ++ (bytes ∷ [])) ≡ stepped_all s before.group came ++ (stepped s after.group bytes ∷ [])
unfolding BySteps stepped_all
all-next s before [] after bytes h = ap (λ (t : Stepped). stepped s t.group bytes ∷ []) h
all-next s before (one ∷ came) after bytes h =
    ap (λ (l : List Stepped). stepped s before.group one ∷ l) (all-next s (stepped s before.group one) came after bytes h.1)

all-long : (s : Setup) (group : Group) (came : List (List ℕ)) → length (stepped_all s group came) ≡ length came
unfolding stepped_all
all-long s group [] = refl
all-long s group (one ∷ came) = ap suc (all-long s (stepped s group one).group came)

map_next : (f : Stepped → List ℕ) (l : List Stepped) (one : Stepped) → map f (l ++ (one ∷ [])) ≡ map f l ++ (f one ∷ [])
map_next f [] one = refl
map_next f (x ∷ l) one = ap (λ (r : List (List ℕ)). f x ∷ r) (map_next f l one)

verdicts-next : (s : Setup) (came : List (List ℕ)) (after : Stepped) (bytes : List ℕ) → BySteps s (begun_group s) came after
    → verdicts_by s (came ++ (bytes ∷ [])) ≡ verdicts_by s came ++ ((stepped s after.group bytes).verdicts ∷ [])
unfolding verdicts_by begun_group
verdicts-next s came after bytes h =
    ap (map (λ (one : Stepped). one.verdicts)) (all-next s (begun_group s) came after bytes h)
    ∙ map_next (λ (one : Stepped). one.verdicts) (stepped_all s (new_group s) came) (stepped s after.group bytes)

verdicts-long : (s : Setup) (came : List (List ℕ)) → length (verdicts_by s came) ≡ length came
unfolding verdicts_by
verdicts-long s came = length-map (stepped_all s (new_group s) came) (λ (one : Stepped). one.verdicts) ∙ all-long s (new_group s) came

-- the steps so far, with the latest
pub record Turned (s : Setup) (number : ℕ) (y : Rehearsal) (figures holdbacks slots : List ℕ) (came : List (List ℕ)) : Type 0 where
  pub last : Stepped
  pub turns : BySteps s (begun_group s) came last
  pub number_is : number ≡ last.number
  pub group : group_of s y holdbacks slots ≡ last.group
  pub figures-are : figures ≡ figures_of (verdicts_by s came)

-- none
pub turned_none : (s : Setup) (y : Rehearsal) (figures holdbacks slots : List ℕ) → group_of s y holdbacks slots ≡ new_group s → figures ≡ figures_of []
    → Turned s 0 y figures holdbacks slots []
unfolding begun_group BySteps verdicts_by stepped_all
turned_none s y figures holdbacks slots e f =
    record { last = begun_group s; turns = refl; number_is = refl; group = e; figures-are = f }

-- and the next
module _ (s : Setup) (y : Rehearsal) (r : Rehearsed) (figures figures' holdbacks slots bytes text holdbacks' slots' text' : List ℕ) (came : List (List ℕ)) where
  pub turned-next : Turned s 0 y figures holdbacks slots came → length came ≡ y.steps
      → outcome_of s r holdbacks' slots' text' ≡ outcome_by (stepped s (group_of s y holdbacks slots) bytes) text
      → figures' ≡ noted_all (y.steps + 1) figures (take r.heard r.verdicts)
      → Turned s r.number r.group figures' holdbacks' slots' (came ++ (bytes ∷ []))
  unfolding outcome_by
  turned-next t count e f =
      let same : stepped s t.last.group bytes ≡ stepped s (group_of s y holdbacks slots) bytes = ap (λ (group : Group). stepped s group bytes) (sym t.group) in
      let verdicts : take r.heard r.verdicts ≡ (stepped s t.last.group bytes).verdicts
      = ap (λ (o : Outcome). o.verdicts) e ∙ ap (λ (one : Stepped). one.verdicts) (sym same) in
      let step : y.steps + 1 ≡ suc (length (verdicts_by s came)) = add-one y.steps ∙ ap suc (sym (verdicts-long s came ∙ count)) in
      record {
        last = stepped s t.last.group bytes;
        turns = by-steps-next s (begun_group s) came t.last bytes t.turns (sym t.number_is);
        number_is = ap (λ (o : Outcome). o.number) e ∙ ap (λ (one : Stepped). one.number) (sym same);
        group = ap (λ (o : Outcome). o.group) e ∙ ap (λ (one : Stepped). one.group) (sym same);
        figures-are =
            f
            ∙ ap (noted_all (y.steps + 1) figures) verdicts
            ∙ figures-step (verdicts_by s came) (stepped s t.last.group bytes).verdicts (y.steps + 1) figures step t.figures-are
            ∙ ap figures_of (sym (verdicts-next s came t.last bytes t.turns));
      }

-- ---- every byte

pub buffers-none : (s : Setup) (y y' : Rehearsal) (holdbacks slots text : List ℕ) → y ≡ y'
    → buffers_of y holdbacks slots text ≡ buffers_by s (buffers_of y' holdbacks slots text) []
unfolding buffers_by
buffers-none s y y' holdbacks slots text e = ap (λ (x : Rehearsal). buffers_of x holdbacks slots text) e

buffers-more : (s : Setup) (b : Buffers) (came : List (List ℕ)) (bytes : List ℕ) → buffers_by s b (came ++ (bytes ∷ [])) ≡ buffers_after s (buffers_by s b came) bytes
unfolding buffers_by
buffers-more s b [] bytes = refl
buffers-more s b (one ∷ came) bytes = buffers-more s (buffers_after s b one) came bytes

module _ (s : Setup) (y : Rehearsal) (r : Rehearsed) (holdbacks slots bytes text holdbacks' slots' text' : List ℕ) (b : Buffers) (came : List (List ℕ)) where
  pub buffers-next : buffers_of y holdbacks slots text ≡ buffers_by s b came → left_of r holdbacks' slots' text' ≡ step_left s y holdbacks slots bytes text
      → buffers_of r.group holdbacks' slots' text' ≡ buffers_by s b (came ++ (bytes ∷ []))
  unfolding buffers_after
  buffers-next so_far e =
      ap (λ (l : Left). buffers_of l.answer.group l.holdbacks l.slots l.text) e
      ∙ ap (λ (x : Buffers). buffers_after s x bytes) so_far
      ∙ sym (buffers-more s b came bytes)

-- between two steps, none was refused yet, and the buffers are as long as they were
pub record Going (s : Setup) (steps : ℕ) (holdbacks₀ slots₀ bytes₀ text₀ holdbacks slots bytes text : List ℕ) (y : Rehearsal) (figures : List ℕ) : Type 0 where
  pub came : List (List ℕ)
  pub turned : Turned s 0 y figures holdbacks slots came
  pub buffers : buffers_of y holdbacks slots text ≡ buffers_by s (buffers_of new_rehearsal holdbacks₀ slots₀ text₀) came
  pub past : drop longest_step bytes ≡ drop longest_step bytes₀
  pub standing : Standing s y holdbacks slots
  pub count : length came ≡ y.steps
  pub most : y.steps ≤ steps
  pub same-queues : length holdbacks ≡ length holdbacks₀
  pub same-slots : length slots ≡ length slots₀
  pub same_bytes : length bytes ≡ length bytes₀
  pub same_text : length text ≡ length text₀

-- ---- where they end

none_more : end_number 0 ≡ 0
unfolding end_number first_no
none_more = refl

module _ (s : Setup) (steps : ℕ) (p : Progress) (holdbacks₀ slots₀ text₀ holdbacks slots text : List ℕ) (came : List (List ℕ)) where
  -- at a step that was refused, or whose lines were not written
  pub ran_to : Turned s p.number p.group p.figures holdbacks slots came → length came ≤ steps
      → buffers_of p.group holdbacks slots text ≡ buffers_by s (buffers_of new_rehearsal holdbacks₀ slots₀ text₀) came
      → Ran s steps p holdbacks₀ slots₀ text₀ holdbacks slots text
  ran_to t h b =
      record {
        came = came;
        more = 0;
        closed = false;
        last = t.last;
        turns = t.turns;
        most = h;
        refused = λ _. t.number_is;
        ended = λ e. t.number_is ∙ e ∙ sym none_more;
        looked = λ _. refl;
        closes = λ e. absurd (clash e refl);
        group = t.group;
        figures = t.figures-are;
        buffers = b;
      }

  -- after the last of them, with the lines of the last in `lines`
  pub ran-all : (lines : List ℕ) → Turned s 0 p.group p.figures holdbacks slots came → length came ≡ steps
      → buffers_of p.group holdbacks slots lines ≡ buffers_by s (buffers_of new_rehearsal holdbacks₀ slots₀ text₀) came
      → Ended p.figures lines text p.number → Ran s steps p holdbacks₀ slots₀ text₀ holdbacks slots text
  ran-all lines t h b end =
      record {
        came = came;
        more = end.more;
        closed = eqb p.number 0;
        last = t.last;
        turns = t.turns;
        most = omega arith;
        refused = λ some. absurd (some (sym t.number_is));
        ended = λ _. end.number_is;
        looked = λ less. absurd (omega arith);
        closes = λ e. (eqb-true p.number 0 e, h);
        group = t.group;
        figures = t.figures-are;
        buffers = closing (eqb p.number 0) refl;
      }
    where
      closing : (closed : Bool) → eqb p.number 0 ≡ closed
          → buffers_of p.group holdbacks slots text ≡ closed_by closed p.figures (buffers_by s (buffers_of new_rehearsal holdbacks₀ slots₀ text₀) came)
      closing true e =
          ap (buffers_of p.group holdbacks slots) (end.lines (eqb-true p.number 0 e)) ∙ ap (closed_by true p.figures) b
      closing false e = ap (buffers_of p.group holdbacks slots) (end.stays (eqb-false p.number 0 e)) ∙ b

-- ---- and their lines are those of the whole text

-- the lines of steps that are taken one by one
unfoldable pub lines_by_steps : Setup → Group → List (List ℕ) → List ℕ
lines_by_steps s group came = joined (λ (one : Stepped). one.text) (stepped_all s group came)

-- each is one whole step
unfoldable pub AllWhole : List (List ℕ) → Type 0
AllWhole [] = Unit
AllWhole (bytes ∷ rest) = (step_end bytes ≡ length bytes) × AllWhole rest

first_good : (s : Setup) (before : Stepped) (came : List (List ℕ)) (after : Stepped) → BySteps s before came after → after.number ≡ 0 → before.number ≡ 0
unfolding BySteps
first_good s before [] after h e = ap (λ (t : Stepped). t.number) h ∙ e
first_good s before (bytes ∷ came) after h e = h.0

-- steps that came whole and were not refused, and whatever follows them: the text has their lines, then those of what follows
pub whole-text : (s : Setup) (k : ℕ) (before after : Stepped) (came verdicts : List (List ℕ)) (rest : List ℕ) → BySteps s before came after → AllWhole came → after.number ≡ 0
    → rehearse_steps s (length came + k) before.group verdicts (joined (λ (bytes : List ℕ). bytes) came ++ rest)
    ≡ lines_by_steps s before.group came ++ rehearse_steps s k after.group (verdicts ++ map (λ (one : Stepped). one.verdicts) (stepped_all s before.group came)) rest
unfolding BySteps AllWhole lines_by_steps stepped_all joined
whole-text s k before after [] verdicts rest h all e =
    rw (zero-add k, append-nil verdicts) (ap (λ (t : Stepped). rehearse_steps s k t.group verdicts rest) h)
whole-text s k before after (bytes ∷ came) verdicts rest h all e =
    let one : Stepped = stepped s before.group bytes in
    let later : List ℕ = joined (λ (m : List ℕ). m) came ++ rest in
    let after_one : List (List ℕ) = map (λ (x : Stepped). x.verdicts) (stepped_all s one.group came) in
    let count : suc (length came) + k ≡ suc (length came + k) = omega arith in
    let good : one.number ≡ 0 = first_good s one came after h.1 e in
    let tail = whole-text s k one after came (verdicts ++ (one.verdicts ∷ [])) rest h.1 all.1 e in
    ap₂ (λ (n : ℕ) (l : List ℕ). rehearse_steps s n before.group verdicts l) count (append_assoc bytes (joined (λ (m : List ℕ). m) came) rest)
    ∙ next-whole s (length came + k) before.group verdicts bytes later all.0
    ∙ ap (λ (n : ℕ). one.text ++ stopped n (rehearse_steps s (length came + k) one.group (verdicts ++ (one.verdicts ∷ [])) later)) good
    ∙ ap (λ (l : List ℕ). one.text ++ l) tail
    ∙ ap (λ (v : List (List ℕ)). one.text ++ (joined (λ (x : Stepped). x.text) (stepped_all s one.group came) ++ rehearse_steps s k after.group v rest))
    (append_assoc verdicts (one.verdicts ∷ []) after_one)
    ∙ sym (append_assoc one.text (joined (λ (x : Stepped). x.text) (stepped_all s one.group came)) (rehearse_steps s k after.group (verdicts ++ (one.verdicts ∷ after_one)) rest))
