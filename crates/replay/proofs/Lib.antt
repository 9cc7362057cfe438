-- `Running` is about the ticks, one after the other.
pub mod Running
