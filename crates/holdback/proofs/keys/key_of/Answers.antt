-- `holdback::keys::key_of` meets its contract. Assumes nothing.
use Rattle.setup.specs.Views.{setup_of}
use Rattle.lemmas.proofs.Questions.{limits-from}
use Rattle.model.specs.Frame.{counts_of}
use Rattle.holdback.proofs.Keyed.{key-made}
use Rattle.holdback.proofs.keys.key_of.Goals as goal

pub newest_counts-newest-requires : goal.newest_counts-newest-requires
newest_counts-newest-requires c =
    let limits = limits-from (setup_of c.args.setup) c.requires.setup_value.0 in
    record { epsilon_bound = (limits.epsilon-most, c.requires.c_lt_epsilon.1); c_lt_epsilon = (c.requires.c_lt_epsilon.0, limits.epsilon-pos) }

pub older_counts-older-requires : goal.older_counts-older-requires
older_counts-older-requires c = record { epsilon_bound = ((limits-from (setup_of c.args.setup) c.requires.setup_value.0).epsilon-most, c.requires.c_lt_epsilon.1); c_lt_epsilon = c.requires.c_lt_epsilon.0 }

pub returns : goal.returns
returns c = key-made (setup_of c.args.setup) c.args.rank (counts_of c.args.setup.epsilon c.args.w.now) c.newest_counts-newest.ensures c.older_counts-older.ensures c.slot.ensures.0
