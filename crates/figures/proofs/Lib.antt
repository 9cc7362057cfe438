-- `Rows` has rows that stand one behind the other, `Bytes` the figures in bytes, `Columns` where a frame is counted and a row, `Renewing` the totals
-- written one by one, `Asking` the questions; `Window` what a call does to the last rows, `Counting` that the totals are a fresh count, `Judgements`
-- of the calls of a board, `Samples` figures computed.
mod Rows
mod Bytes
mod Columns
mod Renewing
mod Asking
mod Window
pub mod Counting
pub mod Judgements
pub mod Samples
