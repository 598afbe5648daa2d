-- What naming, servers and coordinators keep by themselves, whatever messages come, in whatever order.
--
-- It stands on `arj_protocol` and on the laws of `arj_lock`. Each law is the contract of a public function with no parameters that does
-- nothing when it runs.
pub mod Begun
pub mod CallLocks
pub mod CoordInputs
pub mod Decided
pub mod EndsHandled
pub mod SureCalls
pub mod EndsSaid
pub mod EntryLocks
pub mod Gone
pub mod GoodCalls
pub mod GoodConfirm
pub mod GoodCoords
pub mod GoodCopies
pub mod GoodEnds
pub mod GoodNodes
pub mod GoodObjects
pub mod GoodRestart
pub mod GoodServers
pub mod GoodTrees
pub mod InTurn
pub mod KeptCalls
pub mod Keys
pub mod LivesCoords
pub mod LivesKnown
pub mod LivesNamed
pub mod Locked
pub mod Numbered
pub mod ObjectsAsked
pub mod Pairs
pub mod SaidIncs
pub mod Sends
pub mod ServerRuns
pub mod Settled
pub mod Stands
pub mod Stores
pub mod Tellings
pub mod ToldInOrder
pub mod Truths
pub mod TrueSteps
pub mod Voted
