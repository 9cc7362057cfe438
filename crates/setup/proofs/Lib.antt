-- For the proofs of this crate and of the crates that use it: the limits of a setup as facts.
pub mod InLimits
