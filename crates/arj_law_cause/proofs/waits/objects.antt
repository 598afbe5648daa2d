-- Too many objects.
--
-- A root's objects are those that its accepted calls and includes used, in the tree of its coordinator too (`Used`), at each moment
-- (`Keeping`). So calls and includes are refused for too many exactly where the journal counts as many, event by event (`Running`).
pub mod Used
pub mod Keeping
pub mod Running
