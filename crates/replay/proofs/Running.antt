-- The ticks of a trace, one after the other. Assumes nothing.
use Prim.Native.Nat.{ℕ, zero, suc, ◌+◌, ◌≤◌}
use native.Mathlib.Omega.{arith}
use native.Mathlib.Nat.{zero-add, add-zero}
use mathlib.Core.Path.{◌≡◌, refl, sym, ap, ap₂, subst, ◌∙◌}
use mathlib.Core.List.{List, [], ◌∷◌, ◌++◌, append_assoc}
use lib.ListN.{length, length-append}
use Rattle.laws.specs.Lists.{joined}
use Rattle.model.specs.Timestamp.{Timestamp, widened, replaced}
use Rattle.model.specs.Question.{first_no}
use Rattle.model.specs.Holdback.{encode_holdback}
use Rattle.model.specs.Tick.{holdback_size}
use Rattle.timestamp.specs.Views.{stamp_of}
use Rattle.stations.specs.declared.Station.{Station}
use Rattle.trace.specs.Trace.{NodeSetup, tick_end, end_number}
use Rattle.trace.specs.Replay.{Turn, stopped, turn_at, begun, replay_ticks}
use Rattle.trace.proofs.Whole.{next-whole}
use Rattle.playing.specs.declared.Played.{Played}
use Rattle.playing.specs.Playing.{Result, result_of, result_by}
use Rattle.replay.specs.declared.Progress.{Progress}
use Rattle.replay.specs.Running.{ByTurns, first_of, Ran}

-- ---- turn by turn

-- one tick more
by-turns-next : (s : NodeSetup) (i : ℕ) (before : Turn) (came : List (List ℕ)) (after : Turn) (bytes : List ℕ) → ByTurns s i before came after → after.number ≡ 0
    → ByTurns s i before (came ++ (bytes ∷ [])) (turn_at (i + length came) s after.tables after.holdback bytes)
unfolding ByTurns
by-turns-next s i before [] after bytes h e = (
  ap (λ (t : Turn). t.number) h ∙ e,
  ap₂ (λ (k : ℕ) (t : Turn). turn_at k s t.tables t.holdback bytes) (sym (add-zero i)) h,
)
by-turns-next s i before (one ∷ came) after bytes h e =
    let rest = by-turns-next s (suc i) (turn_at i s before.tables before.holdback one) came after bytes h.1 e in
    let place : suc i + length came ≡ i + suc (length came) = omega arith in
    (h.0, subst (λ (k : ℕ). ByTurns s (suc i) (turn_at i s before.tables before.holdback one) (came ++ (bytes ∷ [])) (turn_at k s after.tables after.holdback bytes)) place rest)

-- the ticks so far, with the latest
pub record Turned (s : NodeSetup) (number : ℕ) (station : Station) (holdback : List ℕ) : Type 0 where
  pub came : List (List ℕ)
  pub last : Turn
  pub turns : ByTurns s 0 (begun s) came last
  pub count : station.ticks ≡ length came
  pub number_is : number ≡ last.number
  pub tables : stamp_of station.tables ≡ last.tables
  pub queue : holdback ≡ last.holdback

-- none
pub turned_none : (s : NodeSetup) (station : Station) (holdback : List ℕ) → station.ticks ≡ 0 → stamp_of station.tables ≡ widened (replaced s.setup.epsilon 0)
    → holdback ≡ encode_holdback (holdback_size s.setup) [] → Turned s 0 station holdback
unfolding begun ByTurns
turned_none s station holdback i t q =
    record { came = []; last = begun s; turns = refl; count = i; number_is = refl; tables = t; queue = q }

-- and the next
pub turned-next : (s : NodeSetup) (station : Station) (r : Played) (holdback bytes text holdback' text' : List ℕ) → Turned s 0 station holdback → r.station.ticks ≡ suc station.ticks
    → result_of r holdback' text' ≡ result_by (turn_at station.ticks s (stamp_of station.tables) holdback bytes) text → Turned s r.number r.station holdback'
unfolding result_by
turned-next s station r holdback bytes text holdback' text' t i e =
    let came : List (List ℕ) = t.came ++ (bytes ∷ []) in
    let turns = by-turns-next s 0 (begun s) t.came t.last bytes t.turns (sym t.number_is) in
    let same : turn_at (0 + length t.came) s t.last.tables t.last.holdback bytes ≡ turn_at station.ticks s (stamp_of station.tables) holdback bytes
    = ap (λ (k : ℕ). turn_at k s t.last.tables t.last.holdback bytes) (zero-add (length t.came) ∙ sym t.count)
    ∙ ap₂ (λ (x : Timestamp) (q : List ℕ). turn_at station.ticks s x q bytes) (sym t.tables) (sym t.queue) in
    record {
      came = came;
      last = turn_at station.ticks s (stamp_of station.tables) holdback bytes;
      turns = subst (λ (l : Turn). ByTurns s 0 (begun s) came l) same turns;
      count = omega (arith, i, t.count, length-append t.came (bytes ∷ []));
      number_is = ap (λ (x : Result). x.number) e;
      tables = ap (λ (x : Result). x.tables) e;
      queue = ap (λ (x : Result). x.holdback) e;
    }

-- between two ticks, none was refused yet, and the buffers are as long as they were
pub record Going (s : NodeSetup) (ticks : ℕ) (holdback₀ bytes₀ text₀ holdback bytes text : List ℕ) (station : Station) : Type 0 where
  pub turned : Turned s 0 station holdback
  pub most : station.ticks ≤ ticks
  pub size : length holdback ≡ holdback_size s.setup
  pub same_queue : length holdback ≡ length holdback₀
  pub same_bytes : length bytes ≡ length bytes₀
  pub same_text : length text ≡ length text₀

-- ---- where they end

none_more : end_number 0 ≡ 0
unfolding end_number first_no
none_more = refl

first_alone : (x : ℕ) → x ≡ first_of x (end_number 0)
first_alone zero = sym none_more
first_alone (suc x) = refl

-- at a tick that was refused, or whose lines were not written
pub ran_to : (s : NodeSetup) (ticks : ℕ) (p : Progress) (holdback : List ℕ) → Turned s p.number p.station holdback → p.station.ticks ≤ ticks → Ran s ticks p holdback
ran_to s ticks p holdback t h =
    record {
      came = t.came;
      more = 0;
      last = t.last;
      turns = t.turns;
      count = t.count;
      most = h;
      number = t.number_is ∙ first_alone t.last.number;
      looked = λ _. refl;
      tables = t.tables;
      queue = t.queue;
    }

-- after the last of them
pub ran-all : (s : NodeSetup) (ticks : ℕ) (p : Progress) (holdback : List ℕ) (more : ℕ) → Turned s 0 p.station holdback → p.station.ticks ≤ ticks → ticks ≤ p.station.ticks
    → p.number ≡ end_number more → Ran s ticks p holdback
ran-all s ticks p holdback more t h k n =
    record {
      came = t.came;
      more = more;
      last = t.last;
      turns = t.turns;
      count = t.count;
      most = omega arith;
      number = n ∙ ap (λ (x : ℕ). first_of x (end_number more)) t.number_is;
      looked = λ less. absurd (omega arith);
      tables = t.tables;
      queue = t.queue;
    }

-- ---- and their lines are those of the whole text

-- the lines of ticks that are played by turns
unfoldable pub lines_by_turns : NodeSetup → ℕ → Turn → List (List ℕ) → List ℕ
lines_by_turns s i before [] = []
lines_by_turns s i before (bytes ∷ rest) =
    let one : Turn = turn_at i s before.tables before.holdback bytes in one.text ++ lines_by_turns s (suc i) one rest

-- each is one whole tick
unfoldable pub AllWhole : List (List ℕ) → Type 0
AllWhole [] = Unit
AllWhole (bytes ∷ rest) = (tick_end bytes ≡ length bytes) × AllWhole rest

first_good : (s : NodeSetup) (i : ℕ) (before : Turn) (came : List (List ℕ)) (after : Turn) → ByTurns s i before came after → after.number ≡ 0 → before.number ≡ 0
unfolding ByTurns
first_good s i before [] after h e = ap (λ (t : Turn). t.number) h ∙ e
first_good s i before (bytes ∷ came) after h e = h.0

-- ticks that came whole and were not refused, and whatever follows them: the text has their lines, then those of what follows
pub whole-text : (s : NodeSetup) (i k : ℕ) (before after : Turn) (came : List (List ℕ)) (rest : List ℕ) → ByTurns s i before came after → AllWhole came → after.number ≡ 0
    → replay_ticks s i (length came + k) before (joined (λ (bytes : List ℕ). bytes) came ++ rest) ≡ lines_by_turns s i before came ++ replay_ticks s (i + length came) k after rest
unfolding ByTurns AllWhole lines_by_turns joined
whole-text s i k before after [] rest h all e =
    rw (zero-add k, add-zero i) (ap (λ (t : Turn). replay_ticks s i k t rest) h)
whole-text s i k before after (bytes ∷ came) rest h all e =
    let one : Turn = turn_at i s before.tables before.holdback bytes in
    let later : List ℕ = joined (λ (m : List ℕ). m) came ++ rest in
    let count : suc (length came) + k ≡ suc (length came + k) = omega arith in
    let place : suc i + length came ≡ i + suc (length came) = omega arith in
    let good : one.number ≡ 0 = first_good s (suc i) one came after h.1 e in
    let tail = whole-text s (suc i) k one after came rest h.1 all.1 e in
    ap₂ (λ (n : ℕ) (l : List ℕ). replay_ticks s i n before l) count (append_assoc bytes (joined (λ (m : List ℕ). m) came) rest)
    ∙ next-whole s i (length came + k) before bytes later all.0
    ∙ ap (λ (n : ℕ). one.text ++ stopped n (replay_ticks s (suc i) (length came + k) one later)) good
    ∙ ap (λ (l : List ℕ). one.text ++ l) tail
    ∙ ap (λ (n : ℕ). one.text ++ (lines_by_turns s (suc i) one came ++ replay_ticks s n k after rest)) place
    ∙ sym (append_assoc one.text (lines_by_turns s (suc i) one came) (replay_ticks s (i + suc (length came)) k after rest))
