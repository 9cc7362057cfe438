-- `Views` says what the arguments of a call are in the model's terms, `Answers` what it answers.
pub mod Views
pub mod Answers
