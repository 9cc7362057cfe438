-- `Given` says how the frames of a delivery stand in its bytes, and where one more goes.
pub mod Given
