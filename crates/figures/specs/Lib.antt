-- `Answers` has what the contracts cite; `Statements` what is shown of the figures.
pub mod Answers
pub mod Statements
