-- Frames that are delivered, in whole runs: each goes to a node of the header, which says that it was got or void.
--
-- It stands on `arj_law_runs/addresses`, by which every frame of a run goes to a node, on the laws of single events
-- (`arj_law_parts/steps`), and on the runs of a world with the stops that its disks make (`arj_world`).
pub mod Delivered
pub mod Whole
