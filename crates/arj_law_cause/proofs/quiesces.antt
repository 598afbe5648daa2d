-- What quiesces answer and leave, by the journal: limits (`Limits`), who is up and who waits at nodes as the journal has it (`Ties`), lines
-- of a quiesce by themselves (`Journals`), each quiesce that nothing cuts short (`Answered`), a run event by event (`Walked`), the
-- stated round (`Rounds`), that a journal tells how nodes are (`Known`), and what is asked on one node (`Asking`, `Alone`): one call
-- makes one binding at most (`Chain`), a commit none (`Commits`), and what is bound is the last of its object (`Binds`). What is kept from
-- a tick of a node on, by asking and settles (`Spans`), leaves there only calls waiting that are overtaken (`Settled`), and no record
-- (`Unrecorded`): who takes part in a commit was sent something (`Sents`), and is told until it acknowledges (`Tolds`). Also how many
-- messages are sent by what is of a call (`Sends`) or asked in a commit (`Back`), and how many frames by an event (`Framed`).
pub mod Limits
pub mod Ties
pub mod Journals
pub mod Answered
pub mod Walked
pub mod Rounds
pub mod Known
pub mod Asking
pub mod Chain
pub mod Commits
pub mod Binds
pub mod Alone
pub mod Spans
pub mod Settled
pub mod Sents
pub mod Tolds
pub mod Unrecorded
pub mod Sends
pub mod Back
pub mod Framed
