-- What is shown of the comparison.
pub mod Deciding
-- The questions of the call.
pub mod Asking
-- A count named by its clock.
pub mod Naming
