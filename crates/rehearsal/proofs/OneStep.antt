-- A step that is called: what it asks of the tick of its station, and the group that it leaves. Assumes nothing.
use Prim.Native.Nat.{ℕ, zero, suc, ◌+◌, ◌*◌, ◌≤◌, ◌<◌}
use native.Mathlib.Omega.{arith}
use native.Mathlib.Nat.{zero-add}
use native.Mathlib.Numerals.{add-one}
use mathlib.Core.Path.{◌≡◌, refl, sym, ap, ap₂, ◌∙◌}
use mathlib.Core.Bool.{true}
use mathlib.Core.List.{List, [], ◌∷◌, ◌++◌}
use mathlib.Core.Logic.{inl, inr}
use lib.ListN.{length, take, drop, get_or, set, length-append, length-set}
use lib.Seq.{length-take-le, take-append_seam, get_or-set_same, get_or-set_other}
use Rattle.laws.specs.Lists.{any, overlay}
use Rattle.laws.proofs.Numbers.{eq-or-ne}
use Rattle.laws.proofs.Lists.{take-overlay}
use Rattle.model.specs.Setup.{Setup}
use Rattle.model.specs.Timestamp.{Timestamp}
use Rattle.model.specs.Tick.{holdback_size}
use Rattle.lemmas.proofs.Questions.{limits-from, setup-to}
use Rattle.splice.specs.Bytes.{pasted}
use Rattle.text.specs.Text.{Put}
use Rattle.timestamp.specs.Views.{stamp_of}
use Rattle.stations.specs.declared.Station.{Station}
use Rattle.trace.specs.Replay.{turn_at}
use Rattle.playing.specs.Playing.{text_room, Result, result_of, result_by, among, run_numbers}
use Rattle.playing.specs.declared.Played.{Played}
use Rattle.playing.proofs.Refusals.{first-among, none-no}
use Rattle.playing.proofs.Turns.{result-within, result-among, result-sent}
use Rattle.rehearsal.specs.Step.{station_of, heard_count, step_number, tick_with}
use Rattle.rehearsal.specs.Group.{Player, Group, new_player, labelled, Stepped, step_turn, player_after, group_after, called_step, step_by, stepped}
use Rattle.rehearsal.specs.Views.{sent_of, with_frame}
use Rattle.rehearsal.specs.Standing.{player_of, no_station, station_at, queue_of, players_of, group_of, moved_by, Standing, Called, Lent, called_by, Outcome, outcome_of, outcome_by, not_called_by, station_by, left_of, left_called, left_by, step_left}
use Rattle.rehearsal.specs.declared.step.Rehearsal.{Rehearsal}
use Rattle.rehearsal.specs.declared.step.Rehearsed.{Rehearsed}
use Rattle.rehearsal.proofs.Slots.{length-sent, keeps-sent, keeps-kept, step-station}
use Rattle.rehearsal.proofs.Players.{queue_long, players-set, player-at}

-- ---- a text at the start of a buffer

pub put_front : {buffer text after : List ℕ} {end : ℕ} → Put buffer 0 text after end → take end after ≡ text
unfolding pasted
put_front {buffer} {text} {after} {end} put =
    ap₂ (λ (n : ℕ) (l : List ℕ). take n l) (put.ends ∙ zero-add (length text)) put.bytes ∙ take-append_seam text (drop (0 + length text) buffer)

pub put-overlay : {buffer text after : List ℕ} {end : ℕ} → Put buffer 0 text after end → after ≡ overlay text buffer
unfolding pasted overlay
put-overlay {buffer} {text} put = put.bytes ∙ ap (λ (n : ℕ). text ++ drop n buffer) (zero-add (length text))

-- ---- the same in each field

pub same-player : {k k' : ℕ} {t t' : Timestamp} {q q' : List ℕ} → k ≡ k' → t ≡ t' → q ≡ q'
    → ◌≡◌ {A = Player} (record { ticks = k; tables = t; holdback = q }) (record { ticks = k'; tables = t'; holdback = q' })
same-player e f g = rw (e, f, g)

pub same-group : {p p' : List Player} {f f' : List (List ℕ)} → p ≡ p' → f ≡ f'
    → ◌≡◌ {A = Group} (record { stations = p; sent = f }) (record { stations = p'; sent = f' })
same-group e g = rw (e, g)

same_outcome : {n n' : ℕ} {y y' : Group} {v v' : List ℕ} {k k' : ℕ} {t t' : List ℕ} → n ≡ n' → y ≡ y' → v ≡ v' → k ≡ k' → t ≡ t'
    → ◌≡◌ {A = Outcome} (record { number = n; group = y; verdicts = v; size = k; text = t }) (record { number = n'; group = y'; verdicts = v'; size = k'; text = t' })
same_outcome e f g h i = rw (e, f, g, h, i)

same_answer : {n n' : ℕ} {y y' : Rehearsal} {h h' : ℕ} {v v' : List ℕ} {k k' : ℕ} → n ≡ n' → y ≡ y' → h ≡ h' → v ≡ v' → k ≡ k'
    → ◌≡◌ {A = Rehearsed} (record { number = n; group = y; heard = h; verdicts = v; size = k }) (record { number = n'; group = y'; heard = h'; verdicts = v'; size = k' })
same_answer e f g h i = rw (e, f, g, h, i)

same_left : {r r' : Rehearsed} {q q' f f' t t' : List ℕ} → r ≡ r' → q ≡ q' → f ≡ f' → t ≡ t' → left_of r q f t ≡ left_of r' q' f' t'
same_left e f g h = rw (e, f, g, h)

-- ---- the station of a step

module _ (s : Setup) (y : Rehearsal) (holdbacks slots bytes : List ℕ) (called : Called s y holdbacks slots bytes) where
  pub member : station_of bytes < s.n
  member = step-station s.n (sent_of y.steps slots) bytes called.good

  pub place : station_of bytes < 16
  place = omega (arith, member, (limits-from s called.standing.limits).n-most)

  pub place-lent : (at : ℕ) (lines : List ℕ) → at ≡ station_of bytes → text_room ≤ length lines → Lent s at holdbacks lines
  place-lent at lines e h =
      record {
        limits = called.standing.limits;
        small = called.standing.small;
        queues = called.standing.queues;
        member = omega (arith, e, member);
        room = h;
      }

  pub few-ticks : (at : ℕ) → at ≡ station_of bytes → suc (station_at y at).ticks ≤ 1000
  few-ticks at e = omega (arith, called.standing.ticks at (omega (arith, e, place)), called.most)

  here : get_or (group_of s y holdbacks slots).stations (station_of bytes) (new_player s) ≡ player_of (station_at y (station_of bytes)) (queue_of s holdbacks (station_of bytes))
  unfolding group_of
  here = player-at s y.stations holdbacks (station_of bytes) (new_player s) member

  -- its tick is the one that the definition calls
  pub turn_is : (at : ℕ) (tick : List ℕ) → at ≡ station_of bytes → tick ≡ tick_with (sent_of y.steps slots) bytes
      → turn_at (station_at y at).ticks (record { setup = s; own = at }) (stamp_of (station_at y at).tables) (queue_of s holdbacks at) tick
      ≡ step_turn s (group_of s y holdbacks slots) bytes
  unfolding step_turn group_of
  turn_is at tick e t =
      ap₂ (λ (j : ℕ) (l : List ℕ). turn_at (station_at y j).ticks (record { setup = s; own = j }) (stamp_of (station_at y j).tables) (queue_of s holdbacks j) l) e t
      ∙ ap (λ (p : Player). turn_at p.ticks (record { setup = s; own = station_of bytes }) p.tables p.holdback (tick_with (sent_of y.steps slots) bytes)) (sym here)

  -- ---- what it played

  module _ (p : Played) (holdbacks' lines lines' : List ℕ)
      (turned : result_of p (queue_of s holdbacks' (station_of bytes)) lines' ≡ result_by (step_turn s (group_of s y holdbacks slots) bytes) lines) where
    pub lines-within : p.size ≤ length lines'
    lines-within = result-within _ _ lines turned

    pub lines_are : take p.size lines' ≡ (step_turn s (group_of s y holdbacks slots) bytes).text
    unfolding result_by
    lines_are =
        ap₂ (λ (n : ℕ) (l : List ℕ). take n l) (ap (λ (r : Result). r.size) turned) (ap (λ (r : Result). r.text) turned)
        ∙ take-overlay (step_turn s (group_of s y holdbacks slots) bytes).text lines

    pub sent-within : p.sent ≤ length p.outgoing
    unfolding step_turn
    sent-within = result-sent _ _ _ _ _ _ lines turned

    pub number-known : among run_numbers p.number ≡ true
    unfolding step_turn
    number-known =
        result-among _ _ (record { setup = s; own = station_of bytes }) _ _ _ lines
        (record { valid = setup-to s (station_of bytes) (limits-from s called.standing.limits) member; small = called.standing.small })
        (ap (λ (q : Player). length q.holdback) here ∙ queue_long s holdbacks (station_of bytes) called.standing.queues member) turned

    -- ---- what it leaves

    module _ (ticked : p.station.ticks ≡ suc (station_at y (station_of bytes)).ticks)
        (back : holdbacks' ≡ pasted holdbacks (station_of bytes * holdback_size s) (step_turn s (group_of s y holdbacks slots) bytes).holdback)
        (long : length holdbacks' ≡ length holdbacks) (fits : p.sent ≤ 71) {slots' : List ℕ}
        (stored : slots' ≡ with_frame slots y.steps (take p.sent p.outgoing)) {y' : Rehearsal} (moves : y' ≡ moved_by y (station_of bytes) p.station) where
      still : s.n * holdback_size s ≤ length holdbacks'
      still = omega (arith, called.standing.queues, long)

      frame-fits : length (take p.sent p.outgoing) ≤ 71
      frame-fits = omega (arith, length-take-le p.sent p.outgoing sent-within)

      player-is : player_of p.station (queue_of s holdbacks' (station_of bytes))
          ≡ player_after (get_or (group_of s y holdbacks slots).stations (station_of bytes) (new_player s)) (step_turn s (group_of s y holdbacks slots) bytes)
      unfolding player_after result_by
      player-is =
          same-player (ticked ∙ ap (λ (q : Player). suc q.ticks) (sym here)) (ap (λ (r : Result). r.tables) turned) (ap (λ (r : Result). r.holdback) turned)

      stations-are : players_of s (set y.stations (station_of bytes) p.station) holdbacks'
          ≡ set (players_of s y.stations holdbacks) (station_of bytes) (player_of p.station (queue_of s holdbacks' (station_of bytes)))
      unfolding result_by
      stations-are =
          ap (players_of s (set y.stations (station_of bytes) p.station))
          (back ∙ ap (λ (r : Result). pasted holdbacks (station_of bytes * holdback_size s) r.holdback) (sym turned))
          ∙ players-set s holdbacks (station_of bytes) (queue_of s holdbacks' (station_of bytes)) called.standing.queues member
          (queue_long s holdbacks' (station_of bytes) still member) y.stations p.station (omega (arith, place, called.standing.places))

      sent_is : sent_of (suc y.steps) slots' ≡ sent_of y.steps slots ++ (take p.sent p.outgoing ∷ [])
      sent_is =
          ap (sent_of (suc y.steps)) stored
          ∙ keeps-sent called.standing.kept called.most (take p.sent p.outgoing) frame-fits

      frame_is : take p.sent p.outgoing
          ≡ take (step_turn s (group_of s y holdbacks slots) bytes).sent (step_turn s (group_of s y holdbacks slots) bytes).outgoing
      unfolding result_by
      frame_is = ap (λ (r : Result). take r.sent r.outgoing) turned

      -- 02: "a step changes exactly one of them"
      pub group-is : group_of s y' holdbacks' slots' ≡ group_after s (group_of s y holdbacks slots) bytes (step_turn s (group_of s y holdbacks slots) bytes)
      unfolding group_of group_after
      group-is =
          ap (λ (z : Rehearsal). group_of s z holdbacks' slots') moves
          ∙ same-group
          (stations-are ∙ ap (set (players_of s y.stations holdbacks) (station_of bytes)) player-is)
          (sent_is ∙ ap (λ (f : List ℕ). sent_of y.steps slots ++ (f ∷ [])) frame_is)

      ticks-are : (j : ℕ) → j < 16 → (station_at (moved_by y (station_of bytes) p.station) j).ticks ≤ suc y.steps
      ticks-are j h =
          elim (eq-or-ne j (station_of bytes)) [
            | inl e ↦
                omega (
                  arith,
                  called.standing.ticks (station_of bytes) place,
                  ticked,
                  ap (λ (i : ℕ). (get_or (set y.stations (station_of bytes) p.station) i no_station).ticks) e,
                  ap (λ (one : Station). one.ticks) (get_or-set_same y.stations (station_of bytes) p.station no_station (omega (arith, place, called.standing.places))),
                )
            | inr ne ↦
                omega (
                  arith,
                  called.standing.ticks j h,
                  ap (λ (one : Station). one.ticks) (get_or-set_other y.stations (station_of bytes) j p.station no_station ne),
                )
          ]

      pub stands : Standing s y' holdbacks' slots'
      stands =
          rw (moves, stored)
          (record {
            limits = called.standing.limits;
            small = called.standing.small;
            queues = still;
            kept = keeps-kept called.standing.kept called.most (take p.sent p.outgoing) frame-fits;
            places = length-set y.stations (station_of bytes) p.station ∙ called.standing.places;
            ticks = ticks-are;
          })

      pub outcome-is : {heard size : ℕ} {text text' : List ℕ} → heard ≡ heard_count bytes
          → Put text 0 (labelled (station_of bytes) (take p.size lines')) text' size
          → outcome_of s (record { number = p.number; group = y'; heard = heard; verdicts = p.verdicts; size = size }) holdbacks' slots' text'
          ≡ outcome_by (called_by s (group_of s y holdbacks slots) bytes) text
      unfolding outcome_by called_step result_by
      outcome-is {heard} {size} {text} {text'} h put =
          same_outcome (ap (λ (r : Result). r.number) turned) group-is (ap₂ (λ (n : ℕ) (l : List ℕ). take n l) h (ap (λ (r : Result). r.verdicts) turned))
          (put.ends ∙ zero-add (length (labelled (station_of bytes) (take p.size lines'))) ∙ ap (λ (l : List ℕ). length (labelled (station_of bytes) l)) lines_are)
          (put-overlay put ∙ ap (λ (l : List ℕ). overlay (labelled (station_of bytes) l) text) lines_are)

      station-is : p.station ≡ station_by (suc (station_at y (station_of bytes)).ticks) (step_turn s (group_of s y holdbacks slots) bytes).tables
      unfolding result_by
      station-is = ap₂ station_by ticked (ap (λ (r : Result). r.tables) turned)

      -- every byte
      pub left_is : {heard size : ℕ} {text text' : List ℕ} → heard ≡ heard_count bytes
          → Put text 0 (labelled (station_of bytes) (take p.size lines')) text' size
          → left_of (record { number = p.number; group = y'; heard = heard; verdicts = p.verdicts; size = size }) holdbacks' slots' text'
          ≡ left_called s y holdbacks slots bytes text (step_turn s (group_of s y holdbacks slots) bytes)
      unfolding left_called result_by
      left_is {heard} {size} {text} {text'} h put =
          same_left
          (same_answer (ap (λ (r : Result). r.number) turned) (moves ∙ ap (moved_by y (station_of bytes)) station-is) h (ap (λ (r : Result). r.verdicts) turned)
          (put.ends ∙ zero-add (length (labelled (station_of bytes) (take p.size lines'))) ∙ ap (λ (l : List ℕ). length (labelled (station_of bytes) l)) lines_are))
          back (stored ∙ ap (with_frame slots y.steps) frame_is) (put-overlay put ∙ ap (λ (l : List ℕ). overlay (labelled (station_of bytes) l) text) lines_are)

-- ---- and one that is not

module _ (s : Setup) (y : Rehearsal) (holdbacks slots bytes : List ℕ) where
  pub called_is : {number : ℕ} → number ≡ step_number s.n (sent_of y.steps slots) bytes → number ≡ 0
      → called_by s (group_of s y holdbacks slots) bytes ≡ stepped s (group_of s y holdbacks slots) bytes
  unfolding stepped group_of
  called_is e z = ap (λ (m : ℕ). step_by m s (group_of s y holdbacks slots) bytes) (sym z ∙ e)

  pub not-called-is : (number : ℕ) (text : List ℕ) → number ≡ step_number s.n (sent_of y.steps slots) bytes → (number ≡ 0 → ⊥)
      → outcome_of s (not_called_by number y) holdbacks slots text ≡ outcome_by (stepped s (group_of s y holdbacks slots) bytes) text
  unfolding stepped group_of outcome_by overlay
  not-called-is zero text e some = absurd (some refl)
  not-called-is (suc k) text e some = ap (λ (m : ℕ). outcome_by (step_by m s (group_of s y holdbacks slots) bytes) text) e

  -- every byte
  pub left-called : {number : ℕ} (text : List ℕ) → number ≡ step_number s.n (sent_of y.steps slots) bytes → number ≡ 0
      → left_called s y holdbacks slots bytes text (step_turn s (group_of s y holdbacks slots) bytes) ≡ step_left s y holdbacks slots bytes text
  unfolding step_left
  left-called text e z = ap (λ (m : ℕ). left_by m s y holdbacks slots bytes text) (sym z ∙ e)

  pub left-not-called : (number : ℕ) (text : List ℕ) → number ≡ step_number s.n (sent_of y.steps slots) bytes → (number ≡ 0 → ⊥)
      → left_of (not_called_by number y) holdbacks slots text ≡ step_left s y holdbacks slots bytes text
  unfolding step_left
  left-not-called zero text e some = absurd (some refl)
  left-not-called (suc k) text e some = ap (λ (m : ℕ). left_by m s y holdbacks slots bytes text) e

pub step-among : (n : ℕ) (sent : List (List ℕ)) (bytes : List ℕ) → among run_numbers (step_number n sent bytes) ≡ true
unfolding among any step_number
step-among n sent bytes =
    first-among run_numbers _ 5 _ (λ _. refl)
    (first-among run_numbers _ 5 _ (λ _. refl) (first-among run_numbers _ 5 _ (λ _. refl) (ap (among run_numbers) none-no)))

-- ---- how many were called: a step that is not refused is one more

after-called : (s : Setup) (group : Group) (bytes : List ℕ) → (stepped s group bytes).number ≡ 0 → length (stepped s group bytes).group.sent ≡ suc (length group.sent)
unfolding stepped called_step group_after
after-called s group bytes = go (step_number s.n group.sent bytes)
  where
    go : (k : ℕ) → (step_by k s group bytes).number ≡ 0 → length (step_by k s group bytes).group.sent ≡ suc (length group.sent)
    go zero e = length-append group.sent (take (step_turn s group bytes).sent (step_turn s group bytes).outgoing ∷ []) ∙ add-one (length group.sent)
    go (suc k) e = absurd (omega (arith, e))

pub steps_next : (s : Setup) (y : Rehearsal) (r : Rehearsed) (holdbacks slots bytes text holdbacks' slots' text' : List ℕ)
    → outcome_of s r holdbacks' slots' text' ≡ outcome_by (stepped s (group_of s y holdbacks slots) bytes) text → r.number ≡ 0
    → r.group.steps ≡ suc y.steps
unfolding outcome_by group_of
steps_next s y r holdbacks slots bytes text holdbacks' slots' text' e z =
    sym (length-sent r.group.steps slots')
    ∙ ap (λ (o : Outcome). length o.group.sent) e
    ∙ after-called s (group_of s y holdbacks slots) bytes (sym (ap (λ (o : Outcome). o.number) e) ∙ z)
    ∙ ap suc (length-sent y.steps slots)

-- its lines stand in the text
pub outcome-within : (o : Outcome) (one : Stepped) (text : List ℕ) → o ≡ outcome_by one text → o.size ≤ length o.text
unfolding outcome_by overlay
outcome-within o one text e =
    omega (arith, ap (λ (x : Outcome). x.size) e, ap (λ (x : Outcome). length x.text) e, length-append one.text (drop (length one.text) text))
