-- `holdback::soundness::sound` meets its contract: the count is in its bound or not, and the walk does the rest. Assumes nothing.
use Rattle.std.proofs.Common.{◌<◌, ◌∙◌, arith}
use Rattle.model.specs.Setup.{depth}
use Rattle.model.specs.Frame.{two_at}
use Rattle.setup.specs.Views.{setup_of}
use Rattle.lemmas.proofs.Questions.{limits-from}
use Rattle.holdback.proofs.Seen.{seen_none}
use Rattle.holdback.proofs.Walks.{walked-no, walked_none, too_many}
use Rattle.holdback.proofs.soundness.sound.Goals as goal

pub depth-requires : goal.depth-requires
depth-requires c =
    let limits = limits-from (setup_of c.args.setup) c.requires.setup_value.0 in
    omega arith

pub returns-then-depth-count : goal.returns-then-depth-count
returns-then-depth-count c =
    let many : depth c.args.setup.n c.args.setup.epsilon c.args.setup.delta < two_at c.args.buf.now 0 = omega (arith, c.two_at-count.ensures, c.depth.ensures, c.if-depth-count.true) in
    walked-no c.emptied.ensures (too_many (setup_of c.args.setup) c.args.clock c.args.least c.args.buf.now many) (c.requires.setup_in_bounds.1.0 ∙ seen_none (setup_of c.args.setup) c.args.clock) c.requires.setup_in_bounds.1.1

pub returns-then-count-eq0 : goal.returns-then-count-eq0
returns-then-count-eq0 c =
    walked_none (record {
      room = c.requires.setup_in_bounds.0;
      count-is = c.two_at-count.ensures;
      few = omega (arith, c.depth.ensures, c.if-depth-count.false);
      empty = c.requires.setup_in_bounds.1.0 ∙ seen_none (setup_of c.args.setup) c.args.clock;
      all-front = c.requires.setup_in_bounds.1.1;
    }) (omega (arith, c.if-count-eq0.true))

pub ceilings_of-ceilings-requires : goal.ceilings_of-ceilings-requires
ceilings_of-ceilings-requires c =
    let limits = limits-from (setup_of c.args.setup) c.requires.setup_value.0 in
    (limits.n-most, limits.epsilon-most)

pub walk_frames-requires : goal.walk_frames-requires
walk_frames-requires c =
    record {
      setup_value = (c.requires.setup_value.0, (c.requires.setup_value.1.0, c.ceilings_of-ceilings.ensures));
      recent = (
        c.requires.setup_value.1.1,
        record {
          room = c.requires.setup_in_bounds.0;
          count-is = c.two_at-count.ensures;
          few = omega (arith, c.depth.ensures, c.if-depth-count.false);
          empty = c.requires.setup_in_bounds.1.0 ∙ seen_none (setup_of c.args.setup) c.args.clock;
          all-front = c.requires.setup_in_bounds.1.1;
        },
      );
    }
