-- What an accepted event writes, against its own lines and those that may stand between them.
--
-- What a node says is own lines first and then work, whether its step goes through or a stop falls in it; the world adds its own lines
-- and the limit of frames.
pub mod Working
pub mod Saying
pub mod Rising
pub mod Steps
pub mod Framed
pub mod Fitting
pub mod Showing
pub mod Numbers
pub mod Aborts
pub mod Begun
pub mod Labels
pub mod Several
pub mod May
pub mod Adding
pub mod Events
