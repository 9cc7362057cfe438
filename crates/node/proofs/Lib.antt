-- `Calls` has the questions of a call, one by one.
pub mod Calls
-- `Times` has the questions 13 to 15 of a frame, one by one.
mod Times
-- `Verdicts` has one frame's verdict by its first no.
pub mod Verdicts
-- `Places` has the queue's buffer within a tick.
pub mod Places
-- `HearTurns` and `StampTurns` have the hearing loop, turn by turn, whatever hears: what is held with the verdicts, and what goes into the stamp.
-- `Turns` has what goes on a node's queue.
pub mod HearTurns
pub mod StampTurns
mod Turns
-- `Nothing` has a call that has nothing to do.
pub mod Nothing
-- `Clocks` has the last clock, and `Shared` what a node and an observer share, from its parts.
pub mod Clocks
pub mod Shared
-- `Finish` has the tick from its parts.
pub mod Finish
