-- `Queue` says how the frames of a queue stand in its bytes, `Sound` what soundness asks of each of them, `Overdue` what is due before v.
pub mod Queue
pub mod Sound
pub mod Overdue
