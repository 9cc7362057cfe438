-- `widernode::hearing::absorb_frame` meets its contract. Assumes nothing.
use Prim.Native.Nat.{ℕ, ◌*◌}
use native.Mathlib.Omega.{arith}
use mathlib.Core.Path.{◌≡◌, sym, ap, ◌∙◌}
use mathlib.Core.Bool.{Bool, false, cond}
use lib.ListN.{length}
use Rattle.model.specs.Timestamp.{Timestamp, trimmed, widened}
use Rattle.model.specs.Frame.{payload_count_at}
use Rattle.model.specs.Wider.{wider_decode, absorb_wide}
use Rattle.setup.specs.Views.{setup_of}
use Rattle.timestamp.specs.Views.{stamp_of}
use Rattle.pairs.specs.Views.{schedule_of}
use Rattle.node.proofs.StampTurns.{counts-wide}
use Rattle.widerqueue.proofs.Shared.{c-same}
use Rattle.widernode.proofs.Times.{Own, own-facts, Given, given, counts-absorbed}
use Rattle.widernode.proofs.hearing.absorb_frame.Goals.{After-counts_part-counts, Start}
use Rattle.widernode.proofs.hearing.absorb_frame.Goals as goal

facts : (c : Start) → Given (schedule_of c.args.p) c.args.clock c.args.frame.now
facts c = given (schedule_of c.args.p) c.args.clock c.args.frame.now c.requires.readable.0

not-listening : (b : Bool) (x y : Timestamp) → b ≡ false → y ≡ cond b x y
not-listening b x y e = rw e

pub returns-then-listens : goal.returns-then-listens
returns-then-listens c = rw c.if-listens.true

pub counts_part-counts-requires : goal.counts_part-counts-requires
counts_part-counts-requires c = let h = facts (goal.at.counts_part-counts-requires c).Start in (omega (arith, c.half_in-half.ensures, h.half-most), omega (arith, ap payload_count_at c.half_in-half.ensures, h.long))

module _ (c : After-counts_part-counts) where
  own : Own (schedule_of c.args.p) (setup_of c.own_limits-own.result)
  own = own-facts (schedule_of c.args.p) c.requires.readable.0.timed.good c.own_limits-own.ensures

  leads : c.c_of-c.result ≡ (wider_decode (schedule_of c.args.p) c.args.frame.now).stamp.c
  leads = c.c_of-c.ensures 0 ∙ c-same (schedule_of c.args.p) 0 c.args.frame.now

  wide : length c.counts_part-counts.result.now ≡ 2 * c.half_in-half.result
  wide =
      ap length c.counts_part-counts.ensures
      ∙ counts-wide c.half_in-half.result c.args.frame.now (omega (arith, ap payload_count_at c.half_in-half.ensures, (facts c.before.before.before.before.before.before.before).long))

pub absorb_into-requires : goal.absorb_into-requires
absorb_into-requires c =
    let h = facts (goal.at.absorb_into-requires c).Start in record {
      epsilon_bound = (
        omega (arith, own (goal.at.absorb_into-requires c).After-counts_part-counts, h.limits.epsilon-most),
        (
          omega (arith, c.half_in-half.ensures, h.half-most),
          (omega (arith, own (goal.at.absorb_into-requires c).After-counts_part-counts, h.limits.modulus-most, h.same), (omega (arith, c.requires.readable.1, h.high, h.limits.modulus-most, h.limits.epsilon-most, h.same), omega (arith, leads (goal.at.absorb_into-requires c).After-counts_part-counts, h.frame.close, h.limits.epsilon-most))),
        ),
      );
      stamp_value = (c.requires.stamp_value ∙ ap (λ (n : ℕ). widened (trimmed n (stamp_of c.args.stamp))) (sym (own (goal.at.absorb_into-requires c).After-counts_part-counts).epsilon), wide (goal.at.absorb_into-requires c).After-counts_part-counts);
    }

pub returns : goal.returns
returns c =
    let g = schedule_of c.args.p in
    let t = stamp_of c.args.stamp in
    let bytes = c.args.frame.now in
    let o = own (goal.at.returns c).After-counts_part-counts in
    let f = wider_decode g bytes in
    c.absorb_into.ensures
    ∙ (ap widened
    (counts-absorbed g c.own_limits-own.result.epsilon c.half_in-half.result c.own_limits-own.result.modulus c.args.reading (trimmed c.own_limits-own.result.epsilon t) bytes c.counts_part-counts.result.now c.c_of-c.result
    c.half_in-half.ensures (leads (goal.at.returns c).After-counts_part-counts) c.counts_part-counts.ensures)
    ∙ ((λ j. widened (absorb_wide (o.epsilon j) (sym (facts (goal.at.returns c).Start).half_is j) (o.modulus j) (trimmed (o.epsilon j) t) (c.requires.readable.1 j) f.stamp))
    ∙ not-listening c.args.listens t _ c.if-listens.false))
