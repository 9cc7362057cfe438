-- One station replaced in a list, with its hold-back queue: no other changes. Assumes nothing.
use Prim.Native.Nat.{ℕ, suc, ◌+◌, ◌*◌, ◌≤◌, ◌<◌}
use native.Mathlib.Omega.{arith}
use native.Mathlib.Nat.{add-zero, add-mul, one-mul, mul-le-mul_right}
use native.Mathlib.Numerals.{add-one}
use mathlib.Core.Path.{◌≡◌, refl, sym, ap, ap₂, ◌∙◌}
use mathlib.Core.Bool.{Bool, true, false, cond}
use mathlib.Core.List.{List}
use mathlib.Core.Logic.{inl, inr}
use lib.Dec.{eqb}
use lib.ListN.{length, take, drop, get_or, set}
use lib.Seq.{take_at, get_or-set_same, get_or-set_other}
use borrow.Author.Tests.{eqb-true, eqb-false}
use Rattle.laws.proofs.Numbers.{lt-or-gt}
use Rattle.laws.proofs.Lists.{tab-ext, set-tab, get_or-tab}
use Rattle.model.specs.Setup.{Setup}
use Rattle.model.specs.Tick.{holdback_size}
use Rattle.splice.specs.Bytes.{pasted, part}
use Rattle.splice.proofs.Laws.{length_part, drop-pasted, drop-pasted-after}
use Rattle.stations.specs.declared.Station.{Station}
use Rattle.rehearsal.specs.Group.{Player}
use Rattle.rehearsal.specs.Standing.{player_of, no_station, queue_of, players_of}
use Rattle.rehearsal.proofs.Slots.{part-before}

-- the queue of each station stands in the buffer
pub queue-within : (s : Setup) (holdbacks : List ℕ) (j : ℕ) → s.n * holdback_size s ≤ length holdbacks → j < s.n → j * holdback_size s + holdback_size s ≤ length holdbacks
queue-within s holdbacks j h m =
    let one : suc j ≤ s.n = omega arith in
    omega (arith, mul-le-mul_right (holdback_size s) one, ap (λ (k : ℕ). k * holdback_size s) (add-one j), add-mul j 1 (holdback_size s), one-mul (holdback_size s))

pub queue_long : (s : Setup) (holdbacks : List ℕ) (j : ℕ) → s.n * holdback_size s ≤ length holdbacks → j < s.n → length (queue_of s holdbacks j) ≡ holdback_size s
unfolding queue_of
queue_long s holdbacks j h m = length_part holdbacks (j * holdback_size s) (holdback_size s) (queue-within s holdbacks j h m)

-- a part that starts after what is pasted, and one that is just that
part-after : (l : List ℕ) (from n at : ℕ) (q : List ℕ) → at ≤ length l → at + length q ≤ from → part (pasted l at q) from n ≡ part l from n
part-after l from n at q h k = ap (take n) (drop-pasted-after l at q h from k)

part-here : (l : List ℕ) (n at : ℕ) (q : List ℕ) → at ≤ length l → length q ≡ n → part (pasted l at q) at n ≡ q
part-here l n at q h e =
    ap (take n) (drop-pasted l at q h at 0 (sym (add-zero at)) (omega arith)) ∙ take_at q (drop (at + length q) l) n e

module _ (s : Setup) (holdbacks : List ℕ) (at : ℕ) (q : List ℕ) (queues : s.n * holdback_size s ≤ length holdbacks) (member : at < s.n) (long : length q ≡ holdback_size s) where
  starts : at * holdback_size s ≤ length holdbacks
  starts = omega (arith, queue-within s holdbacks at queues member)

  pub queue-here : queue_of s (pasted holdbacks (at * holdback_size s) q) at ≡ q
  unfolding queue_of
  queue-here = part-here holdbacks (holdback_size s) (at * holdback_size s) q starts long

  -- the multiples of a size are that far apart
  apart_by : (i j : ℕ) → i < j → i * holdback_size s + holdback_size s ≤ j * holdback_size s
  apart_by i j h =
      let one : suc i ≤ j = omega arith in
      omega (arith, mul-le-mul_right (holdback_size s) one, ap (λ (k : ℕ). k * holdback_size s) (add-one i), add-mul i 1 (holdback_size s), one-mul (holdback_size s))

  pub queue-other : (j : ℕ) → (j ≡ at → ⊥) → queue_of s (pasted holdbacks (at * holdback_size s) q) j ≡ queue_of s holdbacks j
  unfolding queue_of
  queue-other j ne =
      elim (lt-or-gt j at ne) [
        | inl h ↦ part-before holdbacks (at * holdback_size s) q (j * holdback_size s) (holdback_size s) starts (apart_by j at h)
        | inr h ↦ part-after holdbacks (j * holdback_size s) (holdback_size s) (at * holdback_size s) q starts (omega (arith, apart_by at j h))
      ]

  -- 02: "a step changes exactly one of them"
  pub players-set : (stations : List Station) (one : Station) → at < length stations
      → players_of s (set stations at one) (pasted holdbacks (at * holdback_size s) q) ≡ set (players_of s stations holdbacks) at (player_of one q)
  unfolding players_of
  players-set stations one h =
      tab-ext s.n _ _ (λ j k. each j (eqb j at) refl)
      ∙ sym (set-tab s.n (λ j. player_of (get_or stations j no_station) (queue_of s holdbacks j)) at (player_of one q))
    where
      each : (j : ℕ) (b : Bool) → eqb j at ≡ b
          → player_of (get_or (set stations at one) j no_station) (queue_of s (pasted holdbacks (at * holdback_size s) q) j)
          ≡ cond b (player_of one q) (player_of (get_or stations j no_station) (queue_of s holdbacks j))
      each j true e =
          let same : j ≡ at = eqb-true j at e in
          rw same (ap₂ player_of (get_or-set_same stations at one no_station h) queue-here)
      each j false e =
          let ne : j ≡ at → ⊥ = eqb-false j at e in
          ap₂ player_of (get_or-set_other stations at j one no_station ne) (queue-other j ne)

-- the station at a place of the list
pub player-at : (s : Setup) (stations : List Station) (holdbacks : List ℕ) (j : ℕ) (d : Player) → j < s.n
    → get_or (players_of s stations holdbacks) j d ≡ player_of (get_or stations j no_station) (queue_of s holdbacks j)
unfolding players_of
player-at s stations holdbacks j d h = get_or-tab s.n (λ i. player_of (get_or stations i no_station) (queue_of s holdbacks i)) j d h
