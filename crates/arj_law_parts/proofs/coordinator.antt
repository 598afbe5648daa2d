-- The one walk over the handlers of a coordinator: what it does at an input, an answer, an acknowledgement and a tick is a trace of small
-- steps, each with its reason (`Trace`, `Walks`). A law on coordinators says what the small steps do with it; `Works` has ready steps for
-- actions at work, roots, the tree and the records that are told.
pub mod Trace
pub mod Walks
pub mod Works
