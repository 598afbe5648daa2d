-- How many bindings a run makes, whatever stops fall in its events.
--
-- A binding is made where naming handles a Bind that it takes. A coordinator sends a Bind where a call or an include begins, and again
-- at a tick for each action that waits for one; a frame is delivered once by a settle, and once by each event that delivers it. So a
-- run of events makes no more bindings than labels allow actions, for each event, and than it has frames. That is fewer than counts of
-- 32 bits tell apart, so that `calls/`'s laws of votes and calls hold of every run of at most 1,000,000 events. It stands on `calls/`,
-- and on `arj_law_parts/steps` for what settles use up and for what leaves coordinators their actions.
pub mod Weights
pub mod CoordBinds
pub mod NamingLight
pub mod Handled
pub mod Steps
pub mod Doings
pub mod Worlds
pub mod Labels
pub mod Events
