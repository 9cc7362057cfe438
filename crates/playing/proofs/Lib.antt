-- `Fits` is about the room for a tick's lines, `Refusals` about the numbers that a trace can stop with, `Turns` about playing a tick, `Empty` about the hold-back queue before the first.
pub mod Fits
pub mod Refusals
pub mod Turns
pub mod Empty
