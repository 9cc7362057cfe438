-- `Laws` has the laws of `specs/Bytes.antt`'s definitions, for the proofs of this crate and of the crates that use it.
pub mod Laws
