-- `holdback::compare::rank_at` meets its contract: each field is what the frame has. Assumes nothing.
use Rattle.holdback.proofs.compare.rank_at.Goals as goal

pub returns : goal.returns
returns c = λ epsilon i.
    record { reading = c.args.reading; c = c.c_of.ensures epsilon i; station = c.station_of.ensures epsilon i }
