-- `Steps` is about a step's bytes, `Whole` about reading them as they come, `Slots` about the frames sent, `Entries` about a step written as a tick,
-- `Labelling` about the labels of its lines, `Figuring` about the closing lines.
-- `Players` and `Lending` are about the stations and their hold-back queues, `OneStep` about a step that is called, `Beginning` about the group
-- before the first.
-- `MadeTick` is about the tick that a step is turned into, `MadeStep` about one step and its call, `ByCalls` about all of them and the whole text, refused or
-- not, `AllCalls` about a trace of which nothing is refused; `Samples` is a trace of two stations.
pub mod Steps
pub mod Whole
pub mod Slots
pub mod Entries
pub mod Labelling
pub mod Figuring
pub mod Players
pub mod Lending
pub mod OneStep
pub mod Beginning
pub mod MadeTick
pub mod MadeStep
pub mod ByCalls
pub mod AllCalls
pub mod Samples
