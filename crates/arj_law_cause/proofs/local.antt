-- Whose lines an event writes: what coordinators say (`Labels`), handlers and rounds of messages (`Handled`), a step (`Steps`), who began
-- where (`Homes`), an event (`Events`), and so of each run (`Runs`).
pub mod Labels
pub mod Handled
pub mod Steps
pub mod Homes
pub mod Events
pub mod Runs
