-- 02, 2.8: "The run must equal the same calls made one by one." Assumes nothing.
use Prim.Native.Nat.{ℕ, zero, suc, ◌-◌, ◌<◌}
use native.Mathlib.Omega.{arith}
use mathlib.Core.Path.{◌≡◌, refl, sym, ap, ap₂, subst, ◌∙◌}
use mathlib.Core.List.{List, [], ◌∷◌, ◌++◌, map, map-append, append_assoc, append-nil}
use mathlib.Core.Logic.{◌⊎◌, inl, inr}
use mathlib.Core.Option.{some}
use lib.Dec.{eqb}
use lib.ListN.{length, take, drop, get_or, get_elem?, replicate, length-append, length-map, length-replicate, get_or-replicate}
use borrow.Author.Tests.{eq-eqb, ne_eqb}
use Rattle.laws.specs.Lists.{tab, joined}
use Rattle.laws.proofs.Lists.{length-tab, get_or-tab, get_elem?-lt, get_elem?-last, get_elem?-get_or, joined-append}
use Rattle.model.specs.Setup.{Setup}
use Rattle.model.specs.Question.{first_no}
use Rattle.model.specs.Run.{Done, World, message_bytes, act, at_start, run_from}
use Rattle.lemmas.proofs.Questions.{yes-cons, no-cons}
use Rattle.trace.specs.Text.{refused_line}
use Rattle.trace.specs.Trace.{trace_setup, setup_number, count_length, tick_count, end_number, tick_number}
use Rattle.trace.specs.Replay.{stopped}
use Rattle.rehearsal.specs.Step.{group_setup_length, steps_number, step_number, tick_with, step_end}
use Rattle.rehearsal.specs.Group.{Player, Group, new_player, new_group, Stepped, stepped}
use Rattle.rehearsal.specs.Closing.{figure_lines}
use Rattle.rehearsal.specs.Rehearsal.{rehearse_steps, rehearse_from, group_setup, rehearsal}
use Rattle.rehearsal.specs.Calls.{
  steps_in,
  node_at,
  group_nodes,
  call_for,
  calls_for,
  group_start,
  done_verdicts,
  done_number,
  call_lines,
  CallRun,
  unless_refused,
  called_first,
  latest_number,
  calls_made,
  run_of,
  stepped_all,
  group_by,
  refused_with,
  RunByCalls,
  behind_steps,
  calls_text,
  TextOfRun,
}
use Rattle.rehearsal.proofs.MadeStep.{Alike, Same, Made, step-halted, tick-halted, step-made}

-- the first of two numbers that is not 0
abbrev first_or : ℕ → ℕ → ℕ
first_or zero y = y
first_or (suc x) y = suc x

abbrev lines : Stepped → List ℕ
lines one = one.text

abbrev judged : Stepped → List ℕ
judged one = one.verdicts

-- ---- the start

fresh-alike : (s : Setup) (steps : List (List ℕ)) (j : ℕ) → Alike s steps j (new_player s) (node_at s steps j)
unfolding new_player node_at
fresh-alike s steps j = record { station = refl; holdback = refl; first = λ e. refl; later = λ h. absurd (h refl) }

start-same : (s : Setup) (steps : List (List ℕ)) → Same s steps (new_group s) (group_start s steps)
unfolding new_group group_start at_start group_nodes
start-same s steps =
    record {
      players = length-replicate s.n (new_player s);
      nodes = length-tab s.n (node_at s steps);
      sent = refl;
      alike =
          λ j p a p-at a_at.
          subst (λ (q : Player). Alike s steps j q a)
          (sym (get_or-replicate s.n j (new_player s) (new_player s) (below j p p-at)) ∙ get_elem?-get_or (replicate s.n (new_player s)) j (new_player s) p-at)
          (subst (Alike s steps j (new_player s))
          (sym (get_or-tab s.n (node_at s steps) j (node_at s steps 0) (below j p p-at)) ∙ get_elem?-get_or (tab s.n (node_at s steps)) j (node_at s steps 0) a_at)
          (fresh-alike s steps j));
    }
  where
    below : (j : ℕ) (p : Player) → get_elem? (replicate s.n (new_player s)) j ≡ some p → j < s.n
    below j p e = omega (arith, get_elem?-lt (replicate s.n (new_player s)) j e, length-replicate s.n (new_player s))

-- ---- one call after the other

module _ {A : Type 0} (x : A) (l : List A) where
  joined-more : (f : A → List ℕ) {t : List ℕ} (rest : List ℕ) → t ≡ f x → joined f (l ++ (x ∷ [])) ++ rest ≡ joined f l ++ (t ++ rest)
  unfolding joined
  joined-more f {t} rest e =
      ap (λ (all : List ℕ). all ++ rest) (joined-append f l (x ∷ []) ∙ ap (λ (last : List ℕ). joined f l ++ last) (append-nil (f x) ∙ sym e))
      ∙ append_assoc (joined f l) t rest

  map_more : {B : Type 0} (f : A → B) {t : B} (rest : List B) → t ≡ f x → map f (l ++ (x ∷ [])) ++ rest ≡ map f l ++ (t ∷ rest)
  map_more {B} f rest e =
      ap (λ (all : List B). all ++ rest) (map-append f l (x ∷ []))
      ∙ append_assoc (map f l) (f x ∷ []) rest
      ∙ ap (λ (y : B). map f l ++ (y ∷ rest)) (sym e)

latest-is : (w : World) (past : List Done) (d : Done) → w.past ≡ past ++ (d ∷ []) → latest_number w ≡ done_number d
unfolding latest_number
latest-is w past d e =
    let long : length (past ++ (d ∷ [])) - 1 ≡ length (map done_number past) = omega (arith, length-append past (d ∷ []), length-map past done_number) in
    ap (λ (l : List Done). get_or (map done_number l) (length l - 1) 0) e
    ∙ ap₂ (λ (l : List ℕ) (i : ℕ). get_or l i 0) (map-append done_number past (d ∷ [])) long
    ∙ get_elem?-get_or (map done_number past ++ (done_number d ∷ [])) (length (map done_number past)) 0 (get_elem?-last (map done_number past) (done_number d))

-- ---- one step: refused before its call, or called

module _ (s : Setup) (group : Group) (w : World) (bytes : List ℕ) (rest : List (List ℕ)) where
  abbrev one : Stepped
  one = stepped s group bytes

  abbrev next : World
  next = act w (call_for s w bytes)

  record Halted : Type 0 where
    less : ℕ
    number : one.number ≡ suc less
    text : one.text ≡ []
    run : calls_made s w (bytes ∷ rest) ≡ record { called = []; world = w; number = suc less }

  record Called : Type 0 where
    made : Made s rest one w next
    run : calls_made s w (bytes ∷ rest) ≡ called_first bytes (unless_refused one.number next (calls_made s next rest))

  abbrev from_tick : ℕ → CallRun
  from_tick k = unless_refused k w (called_first bytes (unless_refused (latest_number next) next (calls_made s next rest)))

  tried : Same s (bytes ∷ rest) group w → Halted ⊎ Called
  unfolding calls_made
  tried before = by-step (step_number s.n group.sent bytes) refl
    where
      step_same : step_number s.n (map message_bytes w.past) bytes ≡ step_number s.n group.sent bytes
      step_same = ap (λ (sent : List (List ℕ)). step_number s.n sent bytes) (sym before.sent)

      tick-same : tick_number (tick_with (map message_bytes w.past) bytes) ≡ tick_number (tick_with group.sent bytes)
      tick-same = ap (λ (sent : List (List ℕ)). tick_number (tick_with sent bytes)) (sym before.sent)

      by-tick : step_number s.n group.sent bytes ≡ 0 → (k : ℕ) → tick_number (tick_with group.sent bytes) ≡ k → Halted ⊎ Called
      by-tick e zero h =
          let made : Made s rest one w next = step-made s group w bytes rest before e h in
          inr
          (record {
            made = made;
            run =
                ap₂ (λ (j k : ℕ). unless_refused j w (from_tick k)) (step_same ∙ e) (tick-same ∙ h)
                ∙ ap (λ (k : ℕ). called_first bytes (unless_refused k next (calls_made s next rest))) (latest-is next w.past made.done made.past ∙ sym made.number);
          })
      by-tick e (suc m) h =
          let halted = tick-halted s group bytes m e h in
          inl (record { less = m; number = halted.0; text = halted.1; run = ap₂ (λ (j k : ℕ). unless_refused j w (from_tick k)) (step_same ∙ e) (tick-same ∙ h) })

      by-step : (k : ℕ) → step_number s.n group.sent bytes ≡ k → Halted ⊎ Called
      by-step zero e = by-tick e (tick_number (tick_with group.sent bytes)) refl
      by-step (suc m) e =
          let halted = step-halted s group bytes m e in
          inl
          (record {
            less = m;
            number = ap (λ (x : Stepped). x.number) halted;
            text = ap (λ (x : Stepped). x.text) halted;
            run =
                ap (λ (j : ℕ). unless_refused j w (from_tick (tick_number (tick_with (map message_bytes w.past) bytes)))) (step_same ∙ e);
          })

-- ---- all of them, from any group and the same stations on

abbrev numbered : Stepped → ℕ
numbered x = x.number

record Ran (s : Setup) (steps : List (List ℕ)) (group : Group) (w : World) (run : CallRun) : Type 0 where
  behind : List (List ℕ)
  opening : run.called ++ behind ≡ steps
  world : run.world ≡ run_from w (calls_for s w run.called)
  numbers : map done_number run.world.past ≡ map done_number w.past ++ map numbered (stepped_all s group run.called)
  text : joined call_lines run.world.past ≡ joined call_lines w.past ++ joined lines (stepped_all s group run.called)
  verdicts : map done_verdicts run.world.past ≡ map done_verdicts w.past ++ map judged (stepped_all s group run.called)
  same : Same s behind (group_by s group run.called) run.world

-- nothing is called
ran-none : (s : Setup) (steps : List (List ℕ)) (group : Group) (w : World) (number : ℕ) → Same s steps group w
    → Ran s steps group w (record { called = []; world = w; number = number })
unfolding stepped_all group_by calls_for run_from joined
ran-none s steps group w number before =
    record {
      behind = steps;
      opening = refl;
      world = refl;
      numbers = sym (append-nil (map done_number w.past));
      text = sym (append-nil (joined call_lines w.past));
      verdicts = sym (append-nil (map done_verdicts w.past));
      same = before;
    }

-- one is called, and those behind it where it is not refused
module _ (s : Setup) (bytes : List ℕ) (rest : List (List ℕ)) (group : Group) (w : World)
    (made : Made s rest (stepped s group bytes) w (act w (call_for s w bytes))) where
  abbrev first : Stepped
  first = stepped s group bytes

  abbrev later : World
  later = act w (call_for s w bytes)

  ran_first : (more : CallRun) → Ran s rest first.group later more → Ran s (bytes ∷ rest) group w (called_first bytes more)
  unfolding stepped_all group_by calls_for run_from joined
  ran_first more ran =
      let others : List Stepped = stepped_all s first.group more.called in
      record {
        behind = ran.behind;
        opening = ap (λ (l : List (List ℕ)). bytes ∷ l) ran.opening;
        world = ran.world;
        numbers =
            ran.numbers
            ∙ ap (λ (past : List Done). map done_number past ++ map numbered others) made.past
            ∙ map_more made.done w.past done_number (map numbered others) made.number;
        text =
            ran.text
            ∙ ap (λ (past : List Done). joined call_lines past ++ joined lines others) made.past
            ∙ joined-more made.done w.past call_lines (joined lines others) made.text;
        verdicts =
            ran.verdicts
            ∙ ap (λ (past : List Done). map done_verdicts past ++ map judged others) made.past
            ∙ map_more made.done w.past done_verdicts (map judged others) made.verdicts;
        same = ran.same;
      }

  ran-by : (number : ℕ) (more : CallRun) → Ran s rest first.group later more
      → Ran s (bytes ∷ rest) group w (called_first bytes (unless_refused number later more))
  ran-by zero more ran = ran_first more ran
  ran-by (suc m) more ran =
      ran_first (record { called = []; world = later; number = suc m }) (ran-none s rest first.group later (suc m) made.same)

all_made : (s : Setup) (steps : List (List ℕ)) (group : Group) (w : World) → Same s steps group w → Ran s steps group w (calls_made s w steps)
unfolding calls_made
all_made s [] group w before = ran-none s [] group w 0 before
all_made s (bytes ∷ rest) group w before =
    elim (tried s group w bytes rest before) [
      | inl halted ↦ subst (Ran s (bytes ∷ rest) group w) (sym halted.run) (ran-none s (bytes ∷ rest) group w (suc halted.less) before)
      | inr called ↦
          subst (Ran s (bytes ∷ rest) group w) (sym called.run)
          (ran-by s bytes rest group w called.made (stepped s group bytes).number (calls_made s (act w (call_for s w bytes)) rest)
          (all_made s rest (stepped s group bytes).group (act w (call_for s w bytes)) called.made.same))
    ]

-- ---- where it stops

pub refused-by : (number : ℕ) (x : Stepped) (rest : List Stepped) → x.number ≡ number → refused_with (x ∷ rest) ≡ first_or number (refused_with rest)
unfolding refused_with
refused-by zero x rest e = yes-cons (eqb x.number 0) x.number _ (eq-eqb x.number 0 e)
refused-by (suc m) x rest e = no-cons (eqb x.number 0) x.number _ (ne_eqb x.number 0 (λ z. omega (arith, e, z))) ∙ e

pub none-refused : refused_with [] ≡ 0
unfolding refused_with first_no
none-refused = refl

run-number : (number : ℕ) (bytes : List ℕ) (w : World) (more : CallRun) → (called_first bytes (unless_refused number w more)).number ≡ first_or number more.number
run-number zero bytes w more = refl
run-number (suc m) bytes w more = refl

stops : (s : Setup) (steps : List (List ℕ)) (group : Group) (w : World) → Same s steps group w
    → refused_with (stepped_all s group steps) ≡ (calls_made s w steps).number
unfolding calls_made stepped_all
stops s [] group w before = none-refused
stops s (bytes ∷ rest) group w before =
    elim (tried s group w bytes rest before) [
      | inl halted ↦ refused-by (suc halted.less) (stepped s group bytes) _ halted.number ∙ sym (ap (λ (run : CallRun). run.number) halted.run)
      | inr called ↦
          refused-by (stepped s group bytes).number (stepped s group bytes) (stepped_all s (stepped s group bytes).group rest) refl
          ∙ ap (first_or (stepped s group bytes).number) (stops s rest (stepped s group bytes).group (act w (call_for s w bytes)) called.made.same)
          ∙ sym (run-number (stepped s group bytes).number bytes (act w (call_for s w bytes)) (calls_made s (act w (call_for s w bytes)) rest))
          ∙ sym (ap (λ (run : CallRun). run.number) called.run)
    ]

-- of any setup: what is called is in its limits
pub run-by-calls : RunByCalls
unfolding run_of group_start at_start joined
run-by-calls s steps =
    let ran : Ran s steps (new_group s) (group_start s steps) (run_of s steps) = all_made s steps (new_group s) (group_start s steps) (start-same s steps) in
    record {
      behind = ran.behind;
      opening = ran.opening;
      made = ran.world;
      same =
          record {
            numbers = sym ran.numbers;
            text = sym ran.text;
            verdicts = sym ran.verdicts;
            sent = ran.same.sent;
            stations =
                λ j player node p-at a_at.
                let x : Alike s ran.behind j player node = ran.same.alike j player node p-at a_at in record { holdback = x.holdback; tables = x.later };
          };
      number = stops s steps (new_group s) (group_start s steps) (start-same s steps);
    }

-- ---- the whole text

-- the lines of a run, and what follows them
abbrev text_after : CallRun → ℕ → List ℕ
text_after run end = joined call_lines run.world.past ++ stopped run.number (stopped end (figure_lines (map done_verdicts run.world.past)))

-- one is called: its lines, then the line of its refusal or what follows
text-by : (number : ℕ) (bytes : List ℕ) (w next : World) (done : Done) (more : CallRun) (end : ℕ) (text rest : List ℕ) → next.past ≡ w.past ++ (done ∷ []) → text ≡ call_lines done
    → joined call_lines next.past ++ rest ≡ text_after more end
    → joined call_lines w.past ++ (text ++ stopped number rest) ≡ text_after (called_first bytes (unless_refused number next more)) end
text-by zero bytes w next done more end text rest past e h =
    sym (joined-more done w.past call_lines rest e) ∙ ap (λ (l : List Done). joined call_lines l ++ rest) (sym past) ∙ h
text-by (suc m) bytes w next done more end text rest past e h =
    sym (joined-more done w.past call_lines (refused_line (suc m)) e) ∙ ap (λ (l : List Done). joined call_lines l ++ refused_line (suc m)) (sym past)

rehearse-all : (s : Setup) (k : ℕ) (group : Group) (w : World) (bytes : List ℕ) → Same s (steps_in k bytes) group w
    → joined call_lines w.past ++ rehearse_steps s k group (map done_verdicts w.past) bytes
    ≡ text_after (calls_made s w (steps_in k bytes)) (end_number (length (behind_steps k bytes)))
unfolding rehearse_steps steps_in behind_steps calls_made
rehearse-all s zero group w bytes before = refl
rehearse-all s (suc k) group w bytes before =
    let mine : List ℕ = take (step_end bytes) bytes in
    let behind : List ℕ = drop (step_end bytes) bytes in
    let one : Stepped = stepped s group mine in
    let next : World = act w (call_for s w mine) in
    let verdicts : List (List ℕ) = map done_verdicts w.past in
    let end : ℕ = end_number (length (behind_steps k behind)) in
    elim (tried s group w mine (steps_in k behind) before) [
      | inl halted ↦
          ap₂ (λ (text : List ℕ) (number : ℕ). joined call_lines w.past ++ (text ++ stopped number (rehearse_steps s k one.group (verdicts ++ (one.verdicts ∷ [])) behind)))
          halted.text halted.number
          ∙ sym (ap (λ (run : CallRun). text_after run end) halted.run)
      | inr called ↦
          let made : Made s (steps_in k behind) one w next = called.made in
          let judged-next : verdicts ++ (one.verdicts ∷ []) ≡ map done_verdicts next.past
          = sym (ap (map done_verdicts) made.past ∙ sym (append-nil _) ∙ map_more made.done w.past done_verdicts [] made.verdicts) in
          text-by one.number mine w next made.done (calls_made s next (steps_in k behind)) end one.text
          (rehearse_steps s k one.group (verdicts ++ (one.verdicts ∷ [])) behind) made.past made.text
          (ap (λ (all : List (List ℕ)). joined call_lines next.past ++ rehearse_steps s k one.group all behind) judged-next
          ∙ rehearse-all s k one.group next behind made.same)
          ∙ sym (ap (λ (run : CallRun). text_after run end) called.run)
    ]

steps-text : (s : Setup) (k : ℕ) (bytes : List ℕ) → rehearse_steps s k (new_group s) [] bytes ≡ calls_text s k bytes
unfolding calls_text run_of group_start at_start joined
steps-text s k bytes = rehearse-all s k (new_group s) (group_start s (steps_in k bytes)) bytes (start-same s (steps_in k bytes))

pub text-of-run : TextOfRun
unfolding rehearsal rehearse_from
text-of-run bytes =
    let s : Setup = (trace_setup (group_setup bytes)).setup in
    let behind : List ℕ = drop group_setup_length bytes in
    ap (λ (rest : List ℕ). stopped (setup_number group_setup_length (group_setup bytes)) (stopped (steps_number behind) rest))
    (steps-text s (tick_count behind) (drop count_length behind))
