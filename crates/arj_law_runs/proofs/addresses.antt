-- Which numbers stand for nodes, wherever they're named: in messages, on disks and in memory, in every run.
--
-- `specs/Addresses.antt` says where a node is named. The laws take a property of numbers that holds of 1, of each node of the header,
-- and of the servers and stores of its objects; it's kept by all that a node does, at each of its effects. A number that stands for
-- nobody, 0, is never sent to: paths have Uids, entries list servers, and a commit asks only whom its root's bindings name, which
-- `specs/Binds.antt` has. It stands on what is known of nodes in every run (`kept/`), on the steps of coordinators (`calls/`) and on
-- `arj_law_parts/moves`.
pub mod Lists
pub mod Servers
pub mod Namings
pub mod Calls
pub mod Begins
pub mod Coords
pub mod CoordHears
pub mod CoordBegins
pub mod Nodes
pub mod BindAnswers
pub mod BindCoords
pub mod BindSteps
pub mod BindPlans
pub mod BindNodes
pub mod BindRuns
pub mod Runs
