-- `Given` has the numbers that a judgement gives, `Asking` is about the questions, `Walking` about a loop over both; `Judged` says that an accepted call leaves verdicts that pass
-- them, each the number of its judgement, `JudgedIn` the same of calls with both pairs of limits.
pub mod Given
pub mod Asking
pub mod Walking
pub mod Judged
pub mod JudgedIn
