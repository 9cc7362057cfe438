-- For the proofs of this crate and of the crates that use it: frames of any form as they stand in a buffer, and those of both widths.
pub mod Standing
pub mod Shared
pub mod Forms
-- Soundness of frames one after the other; the order, a sound queue, and the times of a frame.
pub mod Parts
pub mod Orders
pub mod Queues
pub mod Times
-- The walk; what is due, and what is handed out.
pub mod Walks
pub mod Fronts
pub mod Releasing
pub mod Handing
