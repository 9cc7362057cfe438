-- `Answers` has what the contracts cite; `Statements` what is shown of the poll.
pub mod Answers
pub mod Statements
