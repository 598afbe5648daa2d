-- What coordinators wait for, against what was asked of actions.
--
-- Where a coordinator commits, aborts, tells and asks again, no line answers anything (`Dumb`). As it takes something, each of its calls and
-- includes waits on, or one of them is answered by a line (`Turning`). So each that waits is the last one that was asked of its action, and
-- isn't answered (`Tying`).
pub mod Dumb
pub mod Turning
pub mod Handling
pub mod Knowing
pub mod Tying
pub mod Keeping
pub mod Tied
