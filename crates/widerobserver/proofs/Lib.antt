-- `Calls` has the questions of a call, and what an accepted one has passed.
mod Calls
-- `Finish` has the call from its parts.
mod Finish
