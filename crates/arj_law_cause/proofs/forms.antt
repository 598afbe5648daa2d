-- Lines of every run are in form: of frames, stops, refusals and the run, of labels and nodes, and of actions, as laws below this crate say;
-- that a node is up (`Ups`), or that a call is done (`Answers`); and those that name an object, or an action that began (`Coords`, `Rows`,
-- `Parts`, and `Objects` by `Said`). `Lines` puts them together.
pub mod Ups
pub mod Answers
pub mod Said
pub mod Coords
pub mod Rows
pub mod Parts
pub mod Objects
pub mod Shows
pub mod Numbers
pub mod Lines
