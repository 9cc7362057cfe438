-- `replay::run` meets its contract. Assumes nothing.
use Prim.Native.Nat.{◌≤◌}
use mathlib.Core.Path.{sym, ap, ◌∙◌}
use native.Mathlib.Omega.{arith}
use lib.Seq.{length-take-le}
use Rattle.lemmas.proofs.Questions.{setup-from}
use Rattle.setup.specs.Views.{setup_of}
use Rattle.playing.specs.Playing.{among, run_numbers}
use Rattle.playing.proofs.Refusals.{count-among}
use Rattle.playing.proofs.Empty.{queue-empty}
use Rattle.replay.proofs.run.Given.{Over}
use Rattle.replay.proofs.run.Goals.{After-holdback_length-size}
use Rattle.replay.proofs.run.Goals as goal

pub returns-then-cut-ne0 : goal.returns-then-cut-ne0
returns-then-cut-ne0 g c = ap (among run_numbers) c.count_number-cut.ensures ∙ count-among _

pub holdback_length-size-requires : goal.holdback_length-size-requires
holdback_length-size-requires g c =
    let limits = (setup-from (setup_of c.args.node.setup) c.args.node.own c.requires.valid).0 in
    (limits.n-most, (limits.epsilon-most, limits.delta-most))

-- there is room for the hold-back queue
enough : (g : Over) (c : After-holdback_length-size g) → c.holdback_length-size.result ≤ 65536
enough g c = omega (arith, c.requires.small, c.holdback_length-size.ensures)

pub slice_bounds-play_ticks-end : goal.slice_bounds-play_ticks-end
slice_bounds-play_ticks-end g c = sym (length-take-le _ _ (enough g (goal.at.slice_bounds-play_ticks-end g c).After-holdback_length-size))

pub play_ticks-end-requires : goal.play_ticks-end-requires
play_ticks-end-requires g c =
    record {
      ready = c.requires;
      empty = queue-empty (setup_of c.args.node.setup) c.holdback_length-size.result 65536 c.holdback_length-size.ensures (enough g (goal.at.play_ticks-end-requires g c).After-holdback_length-size);
      space = omega arith;
      room = omega arith;
    }

pub returns : goal.returns
returns g c = c.play_ticks-end.ensures.number_value
