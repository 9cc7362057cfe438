-- `Queue` says how the frames of an engine's queue stand in its bytes, `Sound` when it is sound.
pub mod Queue
pub mod Sound
