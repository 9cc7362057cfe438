-- The figures of a board's calls, ticks and listener's calls, from any states and with any limits, count their own judgements. Assumes nothing.
use Prim.Native.Nat.{ℕ, ◌-◌, ◌<◌}
use mathlib.Core.Path.{◌≡◌, refl, sym, ap, ap₂, ◌∙◌}
use mathlib.Core.Bool.{true}
use mathlib.Core.List.{List, [], ◌∷◌, ◌++◌, map}
use mathlib.Core.Logic.{⊎_elim}
use lib.ListN.{length, get_or, length-map}
use borrow.Author.Tests.{eq-eqb, eqb-true}
use Rattle.laws.specs.Lists.{every, select, joined, fold_left}
use Rattle.laws.proofs.Numbers.{and_left, and_right, and_intro, true-or-false}
use Rattle.laws.proofs.Lists.{tab-ext, every_drop, select_yes, select_no, select-all, get_elem?-in}
use Rattle.model.specs.Setup.{in_limits, is_member}
use Rattle.model.specs.Batch.{batch_entries}
use Rattle.model.specs.Figures.{column_of, column_at, columns_of, times_in, last_ticks, total_at, empty_figures, keep_figures}
use Rattle.lemmas.proofs.Bounds.{Limits}
use Rattle.lemmas.proofs.Questions.{limits-from}
use Rattle.lemmas.proofs.OneTick.{no-question-fails}
use Rattle.lemmas.proofs.OneListening.{listen-accepted}
use Rattle.lemmas.proofs.WiderCall.{tick-in-passes, listen-in-passes}
use Rattle.verdicts.specs.Judging.{Judging}
use Rattle.verdicts.proofs.Asking.{none-asked}
use Rattle.verdicts.proofs.Judged.{Judged, judged-fit, tick-asked, tick-judged, listen-judged}
use Rattle.verdicts.proofs.JudgedIn.{tick-in-asked, tick-in-judged, listen-in-asked, listen-in-judged}
use Rattle.figures.specs.Statements.{latest, FreshOver, of_bytes, Report, after_report, accepted, counted_in, JudgingCall, by_tick, by_listener, by_tick_in, by_listener_in, judging_of, number_of, is_accepted, report_of, judged_column, judged_in, after_call, Counted, CountsOwnJudgements, CountsTicks, CountsTicksFromAnyBytes}
use Rattle.figures.proofs.Asking.{size-right}
use Rattle.figures.proofs.Counting.{latest-map, length-empty, answers, counts-from-empty, counts-from-any-bytes}

-- ---- one call

-- a call that judged its batch, with n in its limits
module _ (c : JudgingCall) (a : Judged (judging_of c)) (inside : Limits (judging_of c).setup) where
  abbrev j : Judging
  j = judging_of c

  abbrev entries : List (List ℕ)
  entries = batch_entries j.batch

  counted-column : (position : ℕ) → position < length entries → column_at j.setup.n entries j.verdicts position ≡ judged_column j entries position
  unfolding column_at judged_column
  counted-column position h =
      ap (λ (number : ℕ). column_of j.setup.n number (get_or (get_or entries position []) 1 0))
      (a.byte position (get_or entries position []) (get_elem?-in entries position [] h))

  counted : Counted c
  counted =
      record {
        taken_in =
            unfold accepted in
            eq-eqb (keep_figures j.setup.n j.batch j.verdicts empty_figures).number 0
            (answers (report_of c) empty_figures
            ∙ (size-right j.setup.n j.batch j.verdicts empty_figures inside.n_pos inside.n-most length-empty
            ∙ none-asked j.batch j.verdicts (judged-fit j a)));
        as-judged =
            unfold counted_in columns_of judged_in in
            tab-ext (length entries) (column_at j.setup.n entries j.verdicts) (judged_column j entries) counted-column;
      }

pub counts-own-judgements : CountsOwnJudgements
unfolding is_accepted
counts-own-judgements (by_tick i) ok =
    let number = eqb-true (number_of (by_tick i)) 0 ok in
    counted (by_tick i) (tick-judged i number)
    (limits-from i.setup (and_left (in_limits i.setup) (is_member i.setup i.own) (tick-asked i (no-question-fails i number)).0))
counts-own-judgements (by_listener i) ok =
    let number = eqb-true (number_of (by_listener i)) 0 ok in
    counted (by_listener i) (listen-judged i number) (listen-accepted i number).limits
counts-own-judgements (by_tick_in w i) ok =
    let number = eqb-true (number_of (by_tick_in w i)) 0 ok in
    counted (by_tick_in w i) (tick-in-judged w i number) (limits-from i.setup (tick-in-asked w i (tick-in-passes w i number)).0)
counts-own-judgements (by_listener_in w i) ok =
    let number = eqb-true (number_of (by_listener_in w i)) 0 ok in
    counted (by_listener_in w i) (listen-in-judged w i number) (limits-from i.setup (listen-in-asked w i (listen-in-passes w i number)).0)

-- ---- a list of calls

all-reports : (figures : List ℕ) (calls : List JudgingCall) → fold_left after_call figures calls ≡ fold_left after_report figures (map report_of (select is_accepted calls))
unfolding fold_left after_call
all-reports figures [] = unfold select in refl
all-reports figures (c ∷ calls) =
    ⊎_elim
    (λ yes.
    rw yes
    (all-reports (after_report figures (report_of c)) calls
    ∙ ap (λ (l : List JudgingCall). fold_left after_report figures (map report_of l)) (sym (select_yes is_accepted c calls yes))))
    (λ no.
    rw no (all-reports figures calls ∙ ap (λ (l : List JudgingCall). fold_left after_report figures (map report_of l)) (sym (select_no is_accepted c calls no))))
    (true-or-false (is_accepted c))

all-accepted : (calls : List JudgingCall) → every is_accepted (select is_accepted calls) ≡ true
unfolding every
all-accepted [] = unfold select in refl
all-accepted (c ∷ calls) =
    ⊎_elim (λ yes. rw (select_yes is_accepted c calls yes) (and_intro yes (all-accepted calls))) (λ no. rw (select_no is_accepted c calls no) (all-accepted calls))
    (true-or-false (is_accepted c))

-- the reports of accepted calls are all accepted, and count what was judged
taken-all : (calls : List JudgingCall) → every is_accepted calls ≡ true → every accepted (map report_of calls) ≡ true
unfolding every
taken-all [] h = refl
taken-all (c ∷ calls) h =
    and_intro (counts-own-judgements c (and_left (is_accepted c) (every is_accepted calls) h)).taken_in
    (taken-all calls (and_right (is_accepted c) (every is_accepted calls) h))

judged-all : (calls : List JudgingCall) → every is_accepted calls ≡ true → joined counted_in (map report_of calls) ≡ joined judged_in calls
unfolding every joined
judged-all [] h = refl
judged-all (c ∷ calls) h =
    ap₂ ◌++◌ (counts-own-judgements c (and_left (is_accepted c) (every is_accepted calls) h)).as-judged
    (judged-all calls (and_right (is_accepted c) (every is_accepted calls) h))

few-all : (calls : List JudgingCall) → every (λ c. of_bytes (judging_of c).batch) calls ≡ true
    → every (λ c. of_bytes c.batch) (map report_of (select is_accepted calls)) ≡ true
unfolding every
few-all [] h = unfold select in refl
few-all (c ∷ calls) h =
    let rest = few-all calls (and_right (of_bytes (judging_of c).batch) (every (λ d. of_bytes (judging_of d).batch) calls) h) in
    ⊎_elim
    (λ yes. rw (select_yes is_accepted c calls yes) (and_intro (and_left (of_bytes (judging_of c).batch) (every (λ d. of_bytes (judging_of d).batch) calls) h) rest))
    (λ no. rw (select_no is_accepted c calls no) rest)
    (true-or-false (is_accepted c))

-- what is counted of the reports is what was judged in the calls
module _ (figures : List ℕ) (calls : List JudgingCall) where
  abbrev made : List JudgingCall
  made = select is_accepted calls

  taken : select accepted (map report_of made) ≡ map report_of made
  taken = select-all accepted (map report_of made) (taken-all made (all-accepted calls))

  of_calls : FreshOver counted_in (select accepted (map report_of made)) (fold_left after_report figures (map report_of made))
      → FreshOver judged_in made (fold_left after_call figures calls)
  of_calls right column h =
      ap (λ (l : List ℕ). total_at l column) (all-reports figures calls)
      ∙ (right column h
      ∙ ap (λ (l : List ℕ). times_in l column)
      (ap (λ (l : List Report). joined counted_in (latest l)) taken
      ∙ (ap (joined counted_in) (latest-map report_of made)
      ∙ judged-all (latest made) (unfold latest in every_drop is_accepted (length made - last_ticks) made (all-accepted calls)))))

pub counts-ticks : CountsTicks
counts-ticks calls few = of_calls empty_figures calls (counts-from-empty (map report_of (select is_accepted calls)) (few-all calls few))

pub counts-ticks-from-any-bytes : CountsTicksFromAnyBytes
counts-ticks-from-any-bytes figures calls size bytes few many =
    of_calls figures calls
    (counts-from-any-bytes figures (map report_of (select is_accepted calls)) size bytes (few-all calls few)
    (rw (taken figures calls, length-map (select is_accepted calls) report_of) many))
