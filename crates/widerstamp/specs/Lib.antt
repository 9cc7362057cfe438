-- `Placed` has the larger of counts of two widths, `Keys` the key of a frame by a number of counts.
pub mod Placed
pub mod Keys
