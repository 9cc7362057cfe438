-- One hold-back queue of those that stand one after the other, lent and put back. Assumes nothing.
use Prim.Native.Nat.{ℕ, ◌+◌, ◌*◌, ◌-◌, ◌≤◌}
use native.Mathlib.Omega.{arith}
use native.Mathlib.Nat.{mul-le-mul_right}
use mathlib.Core.Path.{◌≡◌, ap, ap₂, ◌∙◌}
use mathlib.Core.List.{List, ◌++◌}
use lib.ListN.{length, take, drop}
use borrow.Rule.Slice.PartMut.{mid_of, put_mid, Post-is}
use Rattle.model.specs.Setup.{Setup}
use Rattle.model.specs.Tick.{holdback_size}
use Rattle.lemmas.proofs.Questions.{limits-from, setup-to}
use Rattle.splice.specs.Bytes.{pasted}
use Rattle.trace.specs.Replay.{Turn}
use Rattle.playing.specs.Playing.{Prepared, Result, result_of, result_by}
use Rattle.playing.specs.declared.Played.{Played}
use Rattle.rehearsal.specs.Standing.{queue_of, Lent}
use Rattle.rehearsal.proofs.Players.{queue-within, queue_long, queue-here}

module _ (s : Setup) (at size : ℕ) (holdbacks lines : List ℕ) (lent : Lent s at holdbacks lines) (same : size ≡ holdback_size s) where
  -- it stands in the buffer
  pub lent-within : at * size + size ≤ length holdbacks
  lent-within = rw same (queue-within s holdbacks at lent.queues lent.member)

  pub lent-small : at * size + size ≤ 1048576
  lent-small =
      let below : at ≤ 15 = omega (arith, lent.member, (limits-from s lent.limits).n-most) in
      omega (arith, mul-le-mul_right size below, same, lent.small)

  pub lent_is : mid_of (at * size) (at * size + size - at * size) holdbacks ≡ queue_of s holdbacks at
  unfolding queue_of
  lent_is =
      let all : at * size + size - at * size ≡ holdback_size s = omega (arith, same) in
      let from : at * size ≡ at * holdback_size s = ap (λ (k : ℕ). at * k) same in
      ap₂ (λ (k a : ℕ). take k (drop a holdbacks)) all from

  pub lent-ready : Prepared (record { setup = s; own = at }) (mid_of (at * size) (at * size + size - at * size) holdbacks) lines
  lent-ready =
      record {
        ready = record { valid = setup-to s at (limits-from s lent.limits) lent.member; small = lent.small };
        size = ap length lent_is ∙ queue_long s holdbacks at lent.queues lent.member;
        room = lent.room;
      }

  -- what comes back is as long
  module _ (q : List ℕ) (long : length q ≡ length (mid_of (at * size) (at * size + size - at * size) holdbacks)) where
    as_long : length q ≡ holdback_size s
    as_long = long ∙ ap length lent_is ∙ queue_long s holdbacks at lent.queues lent.member

    back_is : put_mid (at * size) (at * size + size - at * size) holdbacks q ≡ pasted holdbacks (at * holdback_size s) q
    unfolding pasted
    back_is =
        let from : at * size ≡ at * holdback_size s = ap (λ (k : ℕ). at * k) same in
        let end : at * size + size ≡ at * holdback_size s + length q = omega (arith, from, same, as_long) in
        ap₂ (λ (a : ℕ) (r : List ℕ). take a holdbacks ++ (q ++ r)) from
        (Post-is (at * size) (at * size + size) holdbacks (omega arith) ∙ ap (λ (e : ℕ). drop e holdbacks) end)

    pub back-here : queue_of s (put_mid (at * size) (at * size + size - at * size) holdbacks q) at ≡ q
    back-here = ap (λ (l : List ℕ). queue_of s l at) back_is ∙ queue-here s holdbacks at q lent.queues lent.member as_long

    -- it is the queue that a turn leaves
    pub back-pasted : (p : Played) (t : Turn) (lines' : List ℕ) → result_of p q lines' ≡ result_by t lines
        → put_mid (at * size) (at * size + size - at * size) holdbacks q ≡ pasted holdbacks (at * holdback_size s) t.holdback
    unfolding result_by
    back-pasted p t lines' turned = back_is ∙ ap (λ (r : Result). pasted holdbacks (at * holdback_size s) r.holdback) turned
