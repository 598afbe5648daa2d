-- How many frames an event sends to each other node: the nodes that commits and records name stand once each (`Ordered`), what a message
-- that a node sends to itself leads to (`Weights`), so that what handlers put out leads to no more (`Handlers`), nor a whole step
-- (`Wholes`), how many frames a step adds to a world (`Counted`), and so an event (`Events`). A hello leads to one question for each
-- action that the node has something of (`Hellos`), a tick and a restart to some for each action at work, each record, and each that is
-- asked about (`Ticks`): these are no more than began (`Begun`). Few events meet no limit (`Fits`, `Light`), as no node is greeted where
-- none came up (`Greeted`).
pub mod Ordered
pub mod Weights
pub mod Handlers
pub mod Wholes
pub mod Counted
pub mod Events
pub mod Fits
pub mod Greeted
pub mod Light
pub mod Hellos
pub mod Ticks
pub mod Begun
