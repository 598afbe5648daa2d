-- Bindings and incarnations in messages, in memory and in lines fit 32 bits, while those of nodes' disks do and naming made few bindings:
-- what a coordinator knows (`Calls`, `Coords`), servers (`Servers`) and naming (`Namings`), each node (`Nodes`), and so every run (`Runs`).
pub mod Fits
pub mod Calls
pub mod Coords
pub mod Servers
pub mod Namings
pub mod Nodes
pub mod Runs
