-- `Own` has 12 by the limits of v beside that by a frame's width, `Answers` the answer of the reader in the model's terms.
pub mod Own
pub mod Answers
