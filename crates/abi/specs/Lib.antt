-- `Packing` says how numbers and tables stand in bytes and bits at the boundary to C, `Fresh` with what a station, an observer and an engine start,
-- `Charging` what a charge and a total answer, `Refusals` what a refused call gives back, `Narrowing` which bytes of an engine's tables are the station's.
pub mod Packing
pub mod Both
pub mod Fresh
pub mod Charging
pub mod Refusals
pub mod Narrowing
