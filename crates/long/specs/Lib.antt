-- `States` says what the functions of an engine's tick ask of their arguments, and what they leave.
pub mod States
