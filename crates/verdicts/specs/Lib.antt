-- `Judging` has the judgements of a call, `Fit` what its batch and verdicts are once they are asked.
pub mod Judging
pub mod Fit
