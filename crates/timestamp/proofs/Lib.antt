-- For the proofs of this crate and of the crates that use it: the order of two timestamps, and counts found by the clock that they are for.
pub mod Ordered
pub mod Deciding
pub mod Readings
pub mod Steps
-- For the proofs of this crate.
mod Counts
mod Soundness
mod Windows
