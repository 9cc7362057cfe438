-- `Calls` has the questions of a call, one by one, and `Tables` the tables opened.
mod Calls
mod Tables
-- `Judging` has the questions of a frame, one by one.
mod Judging
-- `Turns` has the hearing loop, turn by turn.
mod Turns
-- `Finish` has the tick from its parts.
pub mod Finish
