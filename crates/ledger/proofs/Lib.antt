-- `Reading` is the bytes of tickets and of the ledger as numbers, `Searching` the search for a bale, `Laying` a charge laid down, `Sums` a grower's
-- total; `Charging` proves what `Statements` says.
mod Reading
mod Searching
mod Laying
mod Sums
pub mod ChargingLaws
