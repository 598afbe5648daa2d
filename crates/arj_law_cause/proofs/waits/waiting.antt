-- What actions wait for, by the events and the journal, and at their nodes.
--
-- A commit is called of a top by its own line (`Called`). Each action of a coordinator stands in the journal, with its end and whether its
-- commit was called (`Acting`), so that what it waits for is what the journal has unanswered (`Waiting`). Then it waits above and below an
-- action, and beside a constituent, at its coordinator exactly where it does by the journal (`Near`), and the causes of the journal and
-- the reasons of nodes are the same as far as they are about waiting (`Reasons`). Event by event so it is in whole runs (`Running`,
-- `Refusing`), and so is what else is kept of moments (`Along`).
pub mod Lists
pub mod Called
pub mod Acting
pub mod Waiting
pub mod Near
pub mod Asked
pub mod Knowing
pub mod Running
pub mod Reasons
pub mod Refusing
pub mod Along
