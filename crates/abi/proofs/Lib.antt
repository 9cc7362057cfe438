-- `Words` has the laws of tables in bytes and of answers in one number, `LongWords` those of an engine's, `Fresh` those of a start,
-- `Charges` those of a charge.
-- `Refusals` says that a refused call changes no byte, `Narrowing` that an engine's tables come to the station's bytes.
mod Words
mod Both
mod LongWords
mod Fresh
mod Charges
pub mod Refusals
pub mod Narrowing
