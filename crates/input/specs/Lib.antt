-- `Coming` has what the contracts of those cite who read a part of a trace as it comes.
pub mod Coming
