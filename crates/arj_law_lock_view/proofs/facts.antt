-- Facts of the protocol alone, in every run, that its view by the lock machine counts on.
--
-- `view/` has laws of whole servers, coordinators and naming, with premises about the protocol's state. What of these isn't among what
-- good nodes keep (`arj_law_runs/kept`) is shown here as relations that each handler keeps, beside good nodes and known Binds
-- (`arj_law_runs/addresses`): of coordinators, of naming and of its answers (`specs/Worlds.antt`).
pub mod Turns
pub mod Waits
pub mod Kept
pub mod Further
pub mod Pieces
pub mod Fresh
pub mod Inner
pub mod Works
pub mod Given
pub mod Wants
pub mod Keeping
pub mod GrantNaming
pub mod GrantAnswers
pub mod GrantCoords
pub mod GrantSteps
pub mod Grants
pub mod LowGrants
pub mod UpperRows
pub mod Acts
pub mod UpperWalks
pub mod Uppers
pub mod Listed
pub mod Entries
pub mod GoodOwners
pub mod GoodNaming
pub mod Onward
pub mod CoordRuns
pub mod Requests
pub mod Homes
pub mod Asked
pub mod PartSteps
pub mod PartCoords
pub mod CommitCoords
pub mod VoteCoords
pub mod LeftCoords
pub mod PartSends
pub mod PartWalks
pub mod Confirms
pub mod States
