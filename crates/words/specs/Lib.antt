-- `Words` has the words, lines and questions of 02's 2.1, `Answers` what the code answers in these terms; `Statements` is what is shown of the lines.
pub mod Words
pub mod Answers
pub mod Statements
