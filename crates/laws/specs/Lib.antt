pub mod Lists
pub mod Lex
