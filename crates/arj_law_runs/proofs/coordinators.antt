-- What each coordinator keeps in every run: room for what it sends of ends and objects, the labels of its actions, and who takes part
-- in its commits.
--
-- It stands on the laws of nodes in every run (`kept/`) and on what can be sent of tolds (`arj_law_parts/told`), and has no code that
-- runs.
pub mod TreeRooms
pub mod CoordRooms
pub mod NewNames
pub mod RunCoords
pub mod CoordUses
pub mod UsesCommits
pub mod RunUses
