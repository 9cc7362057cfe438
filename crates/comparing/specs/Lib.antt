-- `Counted` and `Answers` have what the contracts cite; `Statements` what is shown of the comparison.
pub mod Counted
pub mod Answers
pub mod Statements
