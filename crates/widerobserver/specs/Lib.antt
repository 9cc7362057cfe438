-- `States` says what an accepted call has passed.
pub mod States
