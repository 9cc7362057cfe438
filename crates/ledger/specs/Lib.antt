-- `Answers` has what the contracts cite; `Statements` what is shown of charges and totals.
pub mod Answers
pub mod Statements
