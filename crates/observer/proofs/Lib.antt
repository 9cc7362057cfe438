-- `Calls` has the questions of a call, one by one.
pub mod Calls
-- `Finish` has the call from its parts.
pub mod Finish
