-- What the code asks of a batch and its verdicts, where every question got a yes. Assumes nothing.
use Rattle.std.specs.Prelude.{ℕ, ◌≤◌, ◌≡◌, true, List, length, take}
use Rattle.laws.specs.Lists.{every}
use Rattle.model.specs.Batch.{exact_batch, batch_entries}
use Rattle.model.specs.Verdicts.{given}

pub record VerdictsFit (batch verdicts : List ℕ) : Type 0 where
  pub exact : exact_batch batch ≡ true
  pub enough : length (batch_entries batch) ≤ length verdicts
  pub all-given : every given (take (length (batch_entries batch)) verdicts) ≡ true
