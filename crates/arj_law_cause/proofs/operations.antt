-- Calls are answered by their own operations.
--
-- A server answers an Invoke by its operation at the value in place, which is of the object's class (`Serving`). Who takes the answer waits
-- for that Invoke, and writes the line of that operation (`Taking`). So it is of each line of a run (`Running`).
pub mod Serving
pub mod Taking
pub mod Running
