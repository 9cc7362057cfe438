-- A list of calls with the figures after them: the theorem, with what it counts computed. n 2, ε 2, δ 1, B 14; in the last call δ 2. Assumes nothing.
use Prim.Native.Nat.{ℕ, ◌<◌}
use native.Mathlib.Omega.{arith}
use mathlib.Core.Path.{◌≡◌, refl, ap, ◌∙◌}
use mathlib.Core.Bool.{true, false}
use mathlib.Core.List.{List, [], ◌∷◌, ◌++◌}
use lib.ListN.{replicate}
use Rattle.laws.specs.Lists.{every, select, joined, fold_left}
use Rattle.model.specs.Setup.{Setup}
use Rattle.model.specs.Tick.{Input, holdback_size}
use Rattle.model.specs.Observer.{Listening}
use Rattle.model.specs.Figures.{column_of, figure_of, figure_columns, times_in, total_at, empty_figures}
use Rattle.model.proofs.Computing.{computing}
use Rattle.verdicts.specs.Judging.{queue_at, judged_number}
use Rattle.figures.specs.Statements.{latest, of_bytes, JudgingCall, by_tick, by_listener, is_accepted, judging_of, judged_column, judged_in, after_call}
use Rattle.figures.proofs.Judgements.{counts-ticks}

abbrev setup : ℕ → Setup
setup delta = record { n = 2; epsilon = 2; delta = delta; modulus = 17 }

-- a frame of station 1, r 2, c 0; and one of station 2, which is not below n
abbrev frame : ℕ → List ℕ
frame station = 3 ∷ station ∷ 2 ∷ 0 ∷ 5 ∷ 0 ∷ 1 ∷ 1 ∷ 1 ∷ 0 ∷ 0 ∷ []

abbrev heard : List ℕ
heard = 4 ∷ ((11 ∷ frame 1) ++ ((11 ∷ frame 1) ++ ((11 ∷ frame 2) ++ (1 ∷ 7 ∷ []))))

-- a tick of station 0 for a clock, with tables of r 9, which are mended, and an empty shelf; it hears a frame twice, one of no station and one that is none
abbrev tick_at : ℕ → Input
tick_at clock =
    record {
      setup = setup 1;
      own = 0;
      clock = clock;
      tables = record { r = 9; c = 0; kn = [] };
      holdback = replicate (holdback_size (setup 1)) 0;
      batch = heard;
      send = false;
      payload = [];
      outgoing = replicate 71 0;
      verdicts = replicate 255 0;
      delivery = replicate (holdback_size (setup 1)) 0;
    }

-- a listener's call for clock 3, with another δ
abbrev listening : Listening
listening =
    record {
      setup = setup 2;
      clock = 3;
      last = 2;
      holdback = replicate (holdback_size (setup 2)) 0;
      batch = 1 ∷ 11 ∷ frame 1;
      verdicts = replicate 255 0;
      delivery = replicate (holdback_size (setup 2)) 0;
    }

-- the second is refused by 2
abbrev calls : List JudgingCall
calls = by_tick (tick_at 3) ∷ by_tick (tick_at 17) ∷ by_listener listening ∷ []

few : every (λ c. of_bytes (judging_of c).batch) calls ≡ true
unfolding computing
few = refl

-- of the tick the first frame is taken, the second a repeat, the third has a station not below n, the fourth no form; of the listener's call one is taken
seen : joined judged_in (latest (select is_accepted calls)) ≡ 7 ∷ 13 ∷ 112 ∷ 112 ∷ 7 ∷ []
unfolding computing latest is_accepted judged_in judged_column queue_at judged_number column_of figure_of
seen = refl

abbrev after : List ℕ
after = fold_left after_call empty_figures calls

pub sample-ticks : (total_at after 7 ≡ 2) × ((total_at after 13 ≡ 1) × ((total_at after 112 ≡ 2) × (total_at after 0 ≡ 0)))
unfolding times_in select
sample-ticks =
    let total : (column : ℕ) → column < figure_columns → total_at after column ≡ times_in (7 ∷ 13 ∷ 112 ∷ 112 ∷ 7 ∷ []) column
    = λ column h. counts-ticks calls few column h ∙ ap (λ (l : List ℕ). times_in l column) seen in
    (total 7 (omega arith), (total 13 (omega arith), (total 112 (omega arith), total 0 (omega arith))))
