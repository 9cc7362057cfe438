-- `Playing` has what the contracts of `playing` cite.
pub mod Playing
