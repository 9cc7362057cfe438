-- `Views` says what is asked of a frame by both pairs of limits; `States` what the functions of a tick ask of their arguments, and what they leave.
pub mod Views
pub mod States
