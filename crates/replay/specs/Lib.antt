-- `Running` has what the contracts of `replay` cite.
pub mod Running
