-- `Calls` has the questions of a call, and what an accepted one has passed.
pub mod Calls
-- `Times` has the limits of v as the code has them, and the questions 13 to 15 of a frame, one by one; `Verdicts` its verdict by its first no.
pub mod Times
mod Verdicts
-- `Places` has the queue's buffer within a tick, and `Turns` the hearing loop.
mod Places
mod Turns
-- `Shared` has what a node and an observer share, from its parts.
mod Shared
-- `Tables` has the tables opened, and `Finish` the tick from its parts.
pub mod Tables
mod Finish
