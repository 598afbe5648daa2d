-- What a store's calls do with the files is the protocol's work on its pair of states, for the nodes' stores and for the naming
-- service's entries alike.
--
-- A store's contracts speak of the pair that its files give (`arj_store`), the protocol of a pair of lists by Uid. `specs/Files.antt`
-- says when these are one. It stands on `arj_store` and the definitions of `arj_protocol`.
pub mod Keys
pub mod Held
pub mod Pairs
pub mod Refused
pub mod Finds
pub mod Lookups
pub mod Numbered
pub mod Sets
