pub mod CoordSays
pub mod Follow
pub mod FollowSteps
pub mod Growth
pub mod Leaves
pub mod Maps
pub mod ServerTable
pub mod Steps
pub mod Taken
pub mod Messages
pub mod NamingTable
pub mod Numbers
pub mod PartSays
pub mod Payloads
pub mod Quiet
pub mod Ranks
pub mod Rounds
pub mod States
pub mod RowSteps
mod RowWords
mod RowsOfLimits
mod RowsOfNodes
mod RowsOfOneNode
mod RowsOfRestarts
mod RowsOfStops
pub mod Unknown
