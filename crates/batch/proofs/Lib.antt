-- `Walk` has the laws of the walk over a batch, for the proofs of this crate and of the crates that use it; `Held` what the walks by hand share.
pub mod Walk
