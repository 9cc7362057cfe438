-- What is shown of the poll and of the ticks before and after it.
pub mod Foretelling
-- The questions of the call, and how small its answer is.
pub mod Asking
-- For the proofs of this crate: the front of a sound queue.
mod Fronts
