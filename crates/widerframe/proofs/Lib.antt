-- `Widths` has the questions of a frame by its own width and by the limits of v, for the proofs of this crate and of the crates that use it.
pub mod Widths
-- `Codecs` has reader and writer as the plain ones of the pair that has the width, for the same.
pub mod Codecs
