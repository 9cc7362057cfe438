-- The group before its first step. Assumes nothing.
use Prim.Native.Nat.{ℕ, ◌+◌, ◌*◌, ◌-◌, ◌≤◌, ◌<◌}
use native.Mathlib.Omega.{arith}
use mathlib.Core.Path.{◌≡◌, refl, sym, ap, ◌∙◌}
use mathlib.Core.Bool.{true}
use mathlib.Core.List.{List, [], ◌++◌}
use lib.ListN.{length, take, drop, replicate, length-replicate, get_or-replicate, replicate-append-replicate}
use lib.Seq.{drop_at}
use Rattle.laws.specs.Lists.{padded}
use Rattle.laws.proofs.Lists.{tab-ext, replicate-tab}
use Rattle.model.specs.Setup.{Setup, in_limits, width}
use Rattle.model.specs.Timestamp.{Timestamp, widened, replaced}
use Rattle.model.specs.Holdback.{encode_holdback}
use Rattle.model.specs.Tick.{holdback_size}
use Rattle.lemmas.proofs.Questions.{limits-from}
use Rattle.splice.specs.Bytes.{zeros}
use Rattle.timestamp.specs.Views.{stamp_of}
use Rattle.stations.specs.declared.Station.{Station}
use Rattle.trace.specs.Trace.{largest_holdback}
use Rattle.playing.proofs.Empty.{queue-empty}
use Rattle.rehearsal.specs.Group.{new_player, new_group}
use Rattle.rehearsal.specs.Standing.{player_of, no_station, station_at, queue_of, players_of, group_of, new_rehearsal, Standing}
use Rattle.rehearsal.proofs.Slots.{kept-none, sent-none}
use Rattle.rehearsal.proofs.Players.{queue-within}
use Rattle.rehearsal.proofs.OneStep.{same-player, same-group}

-- ---- the hold-back queues of zeros are empty

drop-zeros : (k m : ℕ) → k ≤ m → drop k (replicate m 0) ≡ zeros (m - k)
drop-zeros k m h =
    let all : k + (m - k) ≡ m = omega arith in
    let whole : zeros k ++ zeros (m - k) ≡ zeros m = replicate-append-replicate k (m - k) 0 ∙ ap zeros all in
    ap (drop k) (sym whole) ∙ drop_at (zeros k) (zeros (m - k)) k (length-replicate {A = ℕ} k 0)

pub queues-empty : (s : Setup) (m j : ℕ) → s.n * holdback_size s ≤ m → j < s.n → queue_of s (replicate m 0) j ≡ encode_holdback (holdback_size s) []
unfolding queue_of
queues-empty s m j h k =
    let inside : j * holdback_size s + holdback_size s ≤ m
    = omega (arith, queue-within s (replicate m 0) j (omega (arith, length-replicate {A = ℕ} m 0)) k, length-replicate {A = ℕ} m 0) in
    ap (take (holdback_size s)) (drop-zeros (j * holdback_size s) m (omega arith))
    ∙ queue-empty s (holdback_size s) (m - j * holdback_size s) refl (omega arith)

-- ---- the group is new

abbrev stamp-with : List ℕ → Timestamp
stamp-with kn = record { r = 0; c = 0; kn = kn }

tables-are : (epsilon : ℕ) → epsilon ≤ 16 → stamp-with (replicate 32 0) ≡ widened (replaced epsilon 0)
unfolding widened replaced width padded
tables-are epsilon h =
    let all : 2 * epsilon + (32 - 2 * epsilon) ≡ 32 = omega arith in
    let long : length (zeros (2 * epsilon)) ≡ 2 * epsilon = length-replicate {A = ℕ} (2 * epsilon) 0 in
    ap stamp-with
    (ap zeros (sym all)
    ∙ sym (replicate-append-replicate (2 * epsilon) (32 - 2 * epsilon) 0)
    ∙ ap (λ (k : ℕ). zeros (2 * epsilon) ++ zeros (32 - k)) (sym long))

module _ (s : Setup) (holdbacks slots : List ℕ) (limits : in_limits s ≡ true) where
  player-new : (j : ℕ) → j < s.n → queue_of s holdbacks j ≡ encode_holdback (holdback_size s) []
      → player_of (station_at new_rehearsal j) (queue_of s holdbacks j) ≡ new_player s
  unfolding new_player
  player-new j h e =
      let most = limits-from s limits in
      let here : station_at new_rehearsal j ≡ record { ticks = 0; tables = record { r = 0; c = 0; kn = replicate 32 0 } }
      = get_or-replicate 16 j (record { ticks = 0; tables = record { r = 0; c = 0; kn = replicate 32 0 } }) no_station (omega (arith, most.n-most)) in
      same-player (ap (λ (one : Station). one.ticks) here) (ap (λ (one : Station). stamp_of one.tables) here ∙ tables-are s.epsilon most.epsilon-most) e

  pub group-new : ((j : ℕ) → j < s.n → queue_of s holdbacks j ≡ encode_holdback (holdback_size s) []) → group_of s new_rehearsal holdbacks slots ≡ new_group s
  unfolding group_of new_group players_of
  group-new empty =
      same-group
      (tab-ext s.n (λ j. player_of (station_at new_rehearsal j) (queue_of s holdbacks j)) (λ j. new_player s) (λ j h. player-new j h (empty j h))
      ∙ sym (replicate-tab s.n (new_player s)))
      (sent-none slots)

  pub stands-new : holdback_size s ≤ largest_holdback → s.n * holdback_size s ≤ length holdbacks → length slots ≡ 72000 → Standing s new_rehearsal holdbacks slots
  stands-new small queues room =
      record {
        limits = limits;
        small = small;
        queues = queues;
        kept = kept-none slots room;
        places = length-replicate 16 (station_at new_rehearsal 0);
        ticks = λ j h. omega (arith, ap (λ (one : Station). one.ticks) (get_or-replicate 16 j (station_at new_rehearsal 0) no_station h));
      }
