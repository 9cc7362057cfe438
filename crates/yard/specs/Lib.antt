-- `Running` has what the contracts of `yard` cite.
pub mod Running
