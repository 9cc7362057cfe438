-- 02, 2.8. `Step` has what the rehearsal reads, `Group` what a step does, `Closing` the closing lines, `Rehearsal` the whole text, `Calls` the
-- calls that a trace stands for. `Views` says what the code's buffers hold,
-- `Standing` what the code keeps of a group.
pub mod Step
pub mod Group
pub mod Closing
pub mod Rehearsal
pub mod Calls
pub mod Views
pub mod Standing
