-- What is written reads back the same.
pub mod RoundTrip
-- The frames of a queue by their index, soundness frame by frame, and a search in a sound queue.
pub mod Frames
pub mod Judging
pub mod Searching
-- Bits as a number, the table of origins, the order of frames.
pub mod Bits
pub mod Seen
pub mod Order
pub mod Newest
pub mod Keyed
-- Changes of the bytes; the tests and walks as the code makes them; what is due.
pub mod Changes
pub mod Placed
-- Where a search may start.
pub mod Started
pub mod Testing
pub mod Walks
pub mod Cut
-- What is due before v, handed out.
pub mod Releasing
