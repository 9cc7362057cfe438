-- `Bytes` has the definitions that the contracts of `splice` cite.
pub mod Bytes
