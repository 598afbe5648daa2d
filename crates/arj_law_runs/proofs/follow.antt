-- What an event writes, in the journal's own words, in every run.
--
-- Lines of frames and halts are followed one by one, against the frames of the world and which of its nodes are up. Refusals are
-- followed event by event, against halts, labels and Uids that nodes and the journal have alike.
pub mod Telling
pub mod Walking
pub mod Stepping
pub mod Delivering
pub mod Framing
pub mod Happening
pub mod Along
pub mod Frames
pub mod Halts
pub mod Uids
pub mod Labeled
pub mod Gone
pub mod Plain
pub mod Reasons
pub mod Refusing
pub mod Limits
pub mod Shorts
