-- `trace::lines::put_give_at` meets its contract. Assumes nothing.
use mathlib.Core.Path.{◌≡◌}
use Rattle.lemmas.proofs.Questions.{limits-from}
use Rattle.setup.specs.Views.{setup_of}
use Rattle.timestamp.specs.Ranks.{comparison_of}
use Rattle.trace.specs.Text.{give_text, give_after, frame_from}
use Rattle.text.proofs.Putting.{put_as, room_as}
use Rattle.trace.proofs.Giving.{give_at}
use Rattle.trace.proofs.lines.put_give_at.Goals.{After-payload_part-payload}
use Rattle.trace.proofs.lines.put_give_at.Goals as goal

pub frame_at-frame-requires : goal.frame_at-frame-requires
frame_at-frame-requires c = (limits-from (setup_of c.args.setup) c.requires.two.limits).epsilon-most

pub payload_part-payload-requires : goal.payload_part-payload-requires
payload_part-payload-requires c = (limits-from (setup_of c.args.setup) c.requires.two.limits).epsilon-most

-- the give line, from where its parts were found
line : (c : After-payload_part-payload)
    → give_text c.station_of-station.result c.r_of-r.result c.payload_part-payload.result.now (comparison_of c.compared_at-comparison.result).reason
    ≡ give_after (setup_of c.args.setup) c.args.clock (frame_from c.args.setup.epsilon c.args.delivery.now c.args.last) (frame_from c.args.setup.epsilon c.args.delivery.now c.args.at)
line c =
    let a = c.args in
    give_at (setup_of a.setup) a.clock a.delivery.now a.last a.at c.station_of-station.result c.r_of-r.result c.frame_at-frame.result.now c.payload_part-payload.result.now
    (comparison_of c.compared_at-comparison.result) c.compared_at-comparison.ensures c.frame_at-frame.ensures.0 (c.station_of-station.ensures a.setup.epsilon) (c.r_of-r.ensures a.setup.epsilon) c.payload_part-payload.ensures

pub put_give-requires : goal.put_give-requires
put_give-requires c = room_as c.args.buf.now c.args.end (line (goal.at.put_give-requires c).After-payload_part-payload) c.requires.at_in_bounds

pub returns : goal.returns
returns c = put_as (line (goal.at.returns c).After-payload_part-payload) c.put_give.ensures
