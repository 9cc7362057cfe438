-- For the proofs of this crate.
mod Sides
