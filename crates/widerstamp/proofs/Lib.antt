-- `Orders` has how the keys of two frames go with the model's, for the proofs of this crate and of the crates that use it.
pub mod Orders
-- For the proofs of this crate.
mod Beside
