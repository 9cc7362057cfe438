-- `holdback::due::cut_due` meets its contract: what is due is the prefix, and the rest is not. Assumes nothing.
use Rattle.std.proofs.Common.{ℕ, List, ◌++◌, length, ap, ◌∙◌, arith}
use Rattle.setup.specs.Views.{setup_of}
use Rattle.lemmas.proofs.Questions.{limits-from}
use Rattle.lemmas.proofs.Bounds.{Limits}
use Rattle.laws.specs.Lists.{leading, overlay}
use Rattle.model.specs.Setup.{Setup}
use Rattle.model.specs.Frame.{Frame}
use Rattle.model.specs.Holdback.{held, encode_frames, encode_holdback}
use Rattle.model.specs.Poll.{due_within}
use Rattle.holdback.specs.Queue.{Spans, Stands}
use Rattle.holdback.proofs.Cut.{count_small, sound-spans, due-number, due-left, due-taken, due-room}
use Rattle.holdback.proofs.Started.{below-within}
use Rattle.holdback.proofs.due.cut_due.Goals.{After-front_below-due}
use Rattle.holdback.proofs.due.cut_due.Goals as goal

pub front_below-due-requires : goal.front_below-due-requires
front_below-due-requires c =
    let s = setup_of c.args.setup in
    let limits = limits-from s c.requires.setup_value.0 in
    record { setup_value = (c.requires.setup_value.0, omega (arith, limits.epsilon-pos)); sound_by = (record { least = s.modulus; recent = omega (arith, limits.epsilon-pos); sound = c.requires.buf_value.0 }, c.requires.tabled) }

-- what is due, as a prefix of the queue
module _ (c : After-front_below-due) where
  abbrev s : Setup
  s = setup_of c.args.setup

  abbrev b : List ℕ
  b = c.args.buf.now

  limits : Limits s
  limits = limits-from s c.requires.setup_value.0

  stands : Stands s.epsilon b (leading (due_within s c.args.clock 0) (held s.epsilon b)) c.front_below-due.result.index c.front_below-due.result.at
  stands =
      record { frames = c.front_below-due.ensures.frames ∙ below-within s c.args.clock b 0; starts = c.front_below-due.ensures.starts }

  spans : Spans s.epsilon b c.args.count c.args.end c.front_below-due.result.index c.front_below-due.result.at
  spans =
      sound-spans s c.args.clock s.modulus b c.requires.buf_value.0 (due_within s c.args.clock 0) c.args.count c.args.end c.front_below-due.result.index c.front_below-due.result.at
      c.requires.buf_value.1.0 c.requires.buf_value.1.1 c.requires.end_value.0 stands

pub append_prefix-requires : goal.append_prefix-requires
append_prefix-requires c =
    let found = c.front_below-due in record {
      spans = spans (goal.at.append_prefix-requires c).After-front_below-due;
      spans_2 = c.requires.spans.0;
      at_in_bounds = due-room (s (goal.at.append_prefix-requires c).After-front_below-due) c.args.clock c.args.buf.now c.requires.buf_value.0 found.result.index found.result.at (stands (goal.at.append_prefix-requires c).After-front_below-due) (limits (goal.at.append_prefix-requires c).After-front_below-due) c.requires.setup_value.1
          c.requires.spans.0 c.requires.spans.1 c.requires.end_value.1;
    }

pub cut_prefix-requires : goal.cut_prefix-requires
cut_prefix-requires c = record { spans = spans (goal.at.cut_prefix-requires c).After-front_below-due; count_bound = omega (arith, count_small (s (goal.at.cut_prefix-requires c).After-front_below-due) c.args.clock (s (goal.at.cut_prefix-requires c).After-front_below-due).modulus c.args.buf.now c.requires.buf_value.0 c.args.count (limits (goal.at.cut_prefix-requires c).After-front_below-due) c.requires.buf_value.1.1) }

pub returns : goal.returns
returns c =
    let found = c.front_below-due in
    let d = c.args.delivery.now in
    let sound = c.requires.buf_value.0 in
    let kept = c.cut_prefix.ensures in
    let given = c.append_prefix.ensures in record {
      value = due-number (s (goal.at.returns c).After-front_below-due) c.args.clock (b (goal.at.returns c).After-front_below-due) sound found.result.index found.result.at (stands (goal.at.returns c).After-front_below-due);
      buf_after = kept ∙ ap (encode_holdback (length (b (goal.at.returns c).After-front_below-due))) (due-left (s (goal.at.returns c).After-front_below-due) c.args.clock (b (goal.at.returns c).After-front_below-due) sound found.result.index found.result.at (stands (goal.at.returns c).After-front_below-due));
      delivery_after = given
          ∙ ap (λ (q : List Frame). overlay (encode_frames (held (s (goal.at.returns c).After-front_below-due).epsilon d ++ q)) d)
          (due-taken (s (goal.at.returns c).After-front_below-due) c.args.clock (b (goal.at.returns c).After-front_below-due) sound found.result.index found.result.at (stands (goal.at.returns c).After-front_below-due));
    }
