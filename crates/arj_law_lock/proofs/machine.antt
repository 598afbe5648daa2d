-- The lock machine of one object: naming, servers and coordinators with nested actions and serializing units, any part of which may
-- stop, over a net that keeps every message for ever; and the laws that each run of it keeps.
--
-- It stands on nothing. `specs/` has the machine (`State`, `Steps`, `Machine`) and the laws (`Laws`), `proofs/` the invariant in
-- layers: order, then values given the order, then votes given both.
pub mod Paths
pub mod Rows
pub mod Claims
pub mod Later
pub mod Lasts
pub mod NamingSteps
pub mod NamingMore
pub mod ServerSteps
pub mod ActionSteps
pub mod CallSteps
pub mod CommitSteps
pub mod Core
pub mod Order
pub mod AnswerStep
pub mod Roots
pub mod Ordered
pub mod ValueClaims
pub mod ValueLasts
pub mod ValueJoin
pub mod ValueSteps
pub mod ValueActions
pub mod ValueCalls
pub mod ValueLogs
pub mod ValueServers
pub mod ValueMore
pub mod ValueAnswer
pub mod ValueRun
pub mod Tests
pub mod Samples
pub mod Worked
pub mod VoteLasts
pub mod VoteSteps
pub mod VoteRun
pub mod Kept
pub mod Given
pub mod Stands
