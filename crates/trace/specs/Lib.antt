-- What the contracts of `trace` cite: `Text` has the lines that the replay program writes, `Trace` what it reads, `Views` its setup in these terms, `Replay` the two together.
pub mod Text
pub mod Trace
pub mod Views
pub mod Replay
