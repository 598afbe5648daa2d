-- The journal of every run in form can be read as a run, and a check of it finds no call whose answer differs.
--
-- Each rule of `arj_reading` at a line follows from what is right there by the book of the lines before it (`proofs/Rules.antt`):
-- labels, parents, ends and commit calls from `arj_law_runs/journal`, as are short paths; objects and operations of calls from
-- `arj_law_serial/whole`, forms of operations and the order of events from `arj_law_serial/joint`. That no call differs is that the
-- journal is serial.
pub mod Rules
pub mod Journals
