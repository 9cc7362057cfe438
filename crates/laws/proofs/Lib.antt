pub mod Numbers
pub mod Lists
pub mod Lex
pub mod Sorted
pub mod InsertionSort
