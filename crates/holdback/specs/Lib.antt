-- `Queue` says where the frames of a queue stand, `Keys` what decides their order, `Sound` what soundness asks of each of them, `Seen` what a table of their origins holds,
-- `Starts` what a table of where searches start holds, `Overdue` what is due before v.
pub mod Queue
pub mod Keys
pub mod Sound
pub mod Seen
pub mod Starts
pub mod Overdue
