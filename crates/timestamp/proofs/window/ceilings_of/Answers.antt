-- `timestamp::window::ceilings_of` meets its contract: n in the first part, then 255 past the counts of the last.
-- Assumes nothing.
use mathlib.Core.Path.{refl}
use lib.ListN.{drop, replicate}
use Rattle.timestamp.proofs.Windows.{limits-made}
use Rattle.timestamp.proofs.window.ceilings_of.Goals as goal

pub returns : goal.returns
returns c =
    let a = c.args in
    limits-made a.n a.epsilon c.fill.new.self (drop 32 (replicate 96 0)) c.fill-2.new.self c.requires.1 (c.fill.ensures.after (λ y e. e)) refl
    (c.fill-2.ensures.after (λ y e. e))
