-- `Lay` has what the writer's core asks and gives; `Answers` the answers of reader and writer in the model's terms; `Newest` the newest counts as numbers.
pub mod Lay
pub mod Answers
pub mod Newest
