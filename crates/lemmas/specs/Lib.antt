-- `Standing` says how frames of any form stand in a buffer.
pub mod Standing
