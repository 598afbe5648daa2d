-- What servers do of calls, and vote, is what coordinators know of them, in every run.
--
-- Each overlay at a server is from a call that was sent there and that the server has run (`specs/Servers.antt`), and a coordinator
-- knows of each call that it sent that it is waited for or what became of it (`specs/Coords.antt`): the server refused it, its action
-- can only abort, or its root keeps the call's binding. So a commit's plan uses at a server all that the server wrote for its top, and
-- what servers vote fits. `specs/Worlds.antt` has it of all nodes. No binding has two servers, since naming gives each number once, and
-- a call names a copy that its server has, under its binding or a later one, or an earlier incarnation of the server, since that server
-- answered an Activate of it (`specs/Lived.antt`): both go round with the coordinators' knowledge, by which an answer belongs to one
-- request. Counts of bindings have 32 bits, so all this is of runs in which naming makes fewer bindings (`specs/Bindings.antt`): it is
-- said of the journal.
pub mod ServerCalls
pub mod ServerInvokes
pub mod CoordSteps
pub mod CoordTrees
pub mod CallAnswers
pub mod CommitPlans
pub mod CoordKnown
pub mod CoordCalls
pub mod CoordHeard
pub mod CoordStarts
pub mod CoordEnds
pub mod CoordCommits
pub mod CoordInputs
pub mod CoordSends
pub mod CoordOuts
pub mod WorldWalks
pub mod WorldVotes
pub mod WorldSteps
pub mod WorldMessages
pub mod WorldRuns
pub mod Given
pub mod MadeLines
pub mod LivedWalks
pub mod LivedMessages
pub mod LivedCounts
pub mod LivedRuns
pub mod ChangedCalls
pub mod WholeRuns
pub mod Reaching
