-- `Views` says what the code's values are in the model's terms, `Answers` the same of the tick's answer;
-- `States` what the functions of a tick ask of their arguments, and what they leave.
pub mod Views
pub mod Answers
pub mod States
