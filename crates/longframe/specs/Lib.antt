-- `Lay` has what the writer's core asks and gives.
pub mod Lay
