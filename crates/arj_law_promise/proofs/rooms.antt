-- Numbers that end, and how far from their end a run stays.
--
-- `Events` goes through the events of a run with what each step raises a number by. `Incs` has of a node's incarnation that this is one at
-- most, at a restart; so the Uids of actions fit their bytes, and lines of `Actions` are in form. `Numbers` has of an action's request
-- numbers that it is five, since answers lead to no more of them than `Reach` says.
pub mod Events
pub mod Incs
pub mod Actions
pub mod Reach
pub mod Numbers
