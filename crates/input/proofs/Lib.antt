-- `Coming` is about reading a part of a trace as it comes.
pub mod Coming
