-- For the proofs of this crate.
mod Sums
mod Asking
