-- `Sides` has how the pair of a width, the pairs of a call and the questions on them go with the model, for the proofs of this crate and of the crates that use it.
pub mod Sides
