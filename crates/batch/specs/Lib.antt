-- `Walk` has the batch by positions.
pub mod Walk
