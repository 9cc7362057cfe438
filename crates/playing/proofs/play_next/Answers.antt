-- `playing::play_next` meets its contract. Assumes nothing.
use mathlib.Core.Path.{ap, ◌∙◌}
use native.Mathlib.Numerals.{add-one}
use native.Mathlib.Omega.{arith}
use Rattle.model.specs.Timestamp.{Timestamp}
use Rattle.trace.specs.Views.{node_setup_of}
use Rattle.trace.specs.Replay.{turn, turn_at}
use Rattle.playing.specs.Playing.{result_by}
use Rattle.playing.proofs.play_next.Goals as goal

pub tables_at-tables-requires : goal.tables_at-tables-requires
tables_at-tables-requires c = c.requires.prepared.ready

pub overflow_add-started : goal.overflow_add-started
overflow_add-started c = omega (arith, c.requires.ticks_bound)

pub play-requires : goal.play-requires
play-requires c = c.requires.prepared

pub returns : goal.returns
unfolding turn_at
returns c =
    let a = c.args in
    record { ticks_value = c.play.ensures.ticks_value ∙ add-one a.station.ticks; text_after = c.play.ensures.text_after ∙ ap (λ (t : Timestamp). result_by (turn (node_setup_of a.node) t a.holdback.now a.bytes.now) a.text.now) c.tables_at-tables.ensures }
