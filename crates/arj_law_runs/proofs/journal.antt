-- The journal and what nodes know of it: which lines stand in what order, in every run of the whole protocol.
--
-- A journal is read line by line by a book of the actions that it names, of their ends and of their accesses (`specs/Book.antt`);
-- `specs/Right.antt` says what is right at each line by the book of the lines before it: labels and Uids are new, an action begins in
-- one that is open, it has one end, a top's commit is called once, when all below it has ended, and before it commits, a restart finds
-- the records of tops that weren't aborted, calls are answered to open actions whose commit isn't called, and a commit is told and done
-- after the line that decides it. `specs/Knows.antt` says what each node, record and message knows of the book, and that a
-- coordinator's roots have noted each access; each handler keeps it, wherever a stop falls. It stands on good nodes in every run
-- (`kept/`), and takes from `coordinators/` the labels of coordinators and who takes part in their commits.
pub mod Books
pub mod Effects
pub mod Ties
pub mod Likes
pub mod Endings
pub mod Opens
pub mod Answering
pub mod CoordCalls
pub mod Coords
pub mod Beginning
pub mod Again
pub mod Parts
pub mod Walks
pub mod Begun
pub mod Runs
pub mod Models
pub mod Tops
pub mod Turns
pub mod Paths
pub mod Closed
pub mod Idles
pub mod Nothing
pub mod Owners
