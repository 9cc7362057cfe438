-- `widerqueue::due::cut_due` meets its contract: what is due is the prefix, and the rest is not. Assumes nothing.
use Prim.Native.Nat.{ℕ, ◌+◌}
use native.Mathlib.Omega.{arith}
use mathlib.Core.Path.{ap, ◌∙◌}
use mathlib.Core.List.{List, ◌++◌}
use lib.ListN.{length}
use Rattle.laws.specs.Lists.{leading, overlay}
use Rattle.model.specs.Frame.{Frame}
use Rattle.model.specs.Holdback.{encode_frames, encode_holdback}
use Rattle.model.specs.Schedule.{Schedule, modulus_of}
use Rattle.model.specs.Wider.{wider_held}
use Rattle.pairs.specs.Views.{schedule_of}
use Rattle.holdback.specs.Queue.{Written}
use Rattle.holdback.proofs.Changes.{written_in}
use Rattle.widerqueue.specs.Queue.{Spans, Stands}
use Rattle.widerqueue.proofs.Forms.{spans-written}
use Rattle.widerqueue.proofs.Queues.{count_small, place-spans, recent-now}
use Rattle.widerqueue.proofs.Fronts.{due_under}
use Rattle.widerqueue.proofs.Handing.{due-number, due-room, due-taken, due-left}
use Rattle.widerqueue.proofs.due.cut_due.Goals.{After-front_before-due}
use Rattle.widerqueue.proofs.due.cut_due.Goals as goal

pub front_before-due-requires : goal.front_before-due-requires
front_before-due-requires c =
    record {
      paired = c.requires.paired;
      sound_by = (
        record { least = c.args.p.before.modulus; recent = recent-now (schedule_of c.args.p) c.requires.paired.0; sound = c.requires.buf_value.0 },
        (c.requires.buf_value.1.0, c.requires.buf_value.1.1.count-is),
      );
    }

-- what is due, as a prefix of the queue; the queue and the delivery as they are written
module _ (c : After-front_before-due) where
  abbrev g : Schedule
  g = schedule_of c.args.p

  abbrev b : List ℕ
  b = c.args.buf.now

  abbrev d : List ℕ
  d = c.args.delivery.now

  stands : Stands g b (leading (due_under g c.args.clock (modulus_of g + 1)) (wider_held g b)) c.front_before-due.result.index c.front_before-due.result.at
  stands = c.front_before-due.ensures

  spans : Spans g b c.args.count c.args.end c.front_before-due.result.index c.front_before-due.result.at
  spans =
      place-spans g c.args.clock (modulus_of g) b c.requires.buf_value.0 (due_under g c.args.clock (modulus_of g + 1)) c.requires.buf_value.1.0 c.requires.buf_value.1.1 stands

  written : Written (wider_held g b) b c.args.count c.args.end c.front_before-due.result.index c.front_before-due.result.at
  written = spans-written spans (λ i. omega (arith, c.slice_known-1.given i))

  given : Written (wider_held g d) d c.args.given.index c.args.given.at c.args.given.index c.args.given.at
  given = spans-written c.requires.spans.0 (λ i. omega (arith, c.slice_known-2-1.given i))

pub append_frames-requires : goal.append_frames-requires
append_frames-requires c =
    let place = written_in (written (goal.at.append_frames-requires c).After-front_before-due) in
    let handed = written_in (given (goal.at.append_frames-requires c).After-front_before-due) in record { le_at = (omega arith, (omega arith, omega arith)); at_in_bounds = due-room (g (goal.at.append_frames-requires c).After-front_before-due) c.requires.paired.0 c.args.clock (b (goal.at.append_frames-requires c).After-front_before-due) c.requires.buf_value.0 (stands (goal.at.append_frames-requires c).After-front_before-due) c.requires.paired.1 c.requires.spans.0 c.requires.spans.1 c.requires.p_in_bounds }

pub cut_frames-requires : goal.cut_frames-requires
cut_frames-requires c = let place = written_in (written (goal.at.cut_frames-requires c).After-front_before-due) in record { le_at = (omega arith, (omega arith, omega arith)); index_le_count = ((spans (goal.at.cut_frames-requires c).After-front_before-due).inside, omega (arith, count_small (g (goal.at.cut_frames-requires c).After-front_before-due) c.args.clock (modulus_of (g (goal.at.cut_frames-requires c).After-front_before-due)) (b (goal.at.cut_frames-requires c).After-front_before-due) c.requires.buf_value.0 c.requires.paired.0, c.requires.buf_value.1.1.count-is)) }

pub returns : goal.returns
returns c =
    let kept = c.cut_frames.ensures (wider_held (g (goal.at.returns c).After-front_before-due) (b (goal.at.returns c).After-front_before-due)) (written (goal.at.returns c).After-front_before-due) in
    let handed = c.append_frames.ensures (wider_held (g (goal.at.returns c).After-front_before-due) (b (goal.at.returns c).After-front_before-due)) (wider_held (g (goal.at.returns c).After-front_before-due) (d (goal.at.returns c).After-front_before-due)) c.args.count c.args.end (written (goal.at.returns c).After-front_before-due) (given (goal.at.returns c).After-front_before-due) in record {
      value = due-number (g (goal.at.returns c).After-front_before-due) c.requires.paired.0 c.args.clock (b (goal.at.returns c).After-front_before-due) c.requires.buf_value.0 (stands (goal.at.returns c).After-front_before-due);
      buf_after = kept ∙ ap (encode_holdback (length (b (goal.at.returns c).After-front_before-due))) (due-left (g (goal.at.returns c).After-front_before-due) c.requires.paired.0 c.args.clock (b (goal.at.returns c).After-front_before-due) c.requires.buf_value.0 (stands (goal.at.returns c).After-front_before-due));
      delivery_after = handed
          ∙ ap (λ (q : List Frame). overlay (encode_frames (wider_held (g (goal.at.returns c).After-front_before-due) (d (goal.at.returns c).After-front_before-due) ++ q)) (d (goal.at.returns c).After-front_before-due)) (due-taken (g (goal.at.returns c).After-front_before-due) c.requires.paired.0 c.args.clock (b (goal.at.returns c).After-front_before-due) c.requires.buf_value.0 (stands (goal.at.returns c).After-front_before-due));
    }
