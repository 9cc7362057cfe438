-- `Starting` is about what stands before the steps of a trace, `Running` about the steps, one after the other.
pub mod Starting
pub mod Running
