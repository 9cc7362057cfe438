-- `Asking` has the questions of reader and writer, one by one, for the proofs of this crate and of the crates that use it.
pub mod Asking
