-- `Views` has what the code's pairs say in the model's terms.
pub mod Views
