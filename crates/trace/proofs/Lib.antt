-- `Putting` is about the parts of a line, `Giving` about the frames of a delivery, `Wording` about the words of a reason, `Ticks` about a tick's bytes, `Whole` about reading them as they come; `Samples` is the sample of 01.
pub mod Putting
pub mod Giving
pub mod Wording
pub mod Ticks
pub mod Whole
pub mod Samples
