-- `Telling` says that a line tells its judgement, `Short` how long it is; `Writing` is about the loop
-- that writes the lines, `Asking` about the questions; `Judged` has the lines of a tick, `Samples` lines computed.
pub mod Telling
pub mod Short
pub mod Writing
pub mod Asking
pub mod Judged
pub mod Samples
