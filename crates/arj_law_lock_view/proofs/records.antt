-- Records that come late to naming find nothing prepared of their tops, in every run.
--
-- Naming makes a binding for a top under the write lock of an object's entry, and a Record of it lowers that lock. It must not do so
-- while the top's Confirm has the entry prepared, and a Record may come late, or again. What is so at naming is said by tests that pass
-- (`specs/Tests.antt`); what messages claim by them, for ever (`specs/Claims.antt`), and what coordinators have of the bindings that
-- their roots keep (`specs/Coords.antt`): a root's bindings rise, what its calls were answered under was recorded, and so was each
-- binding that a top asked to record by the time that its Confirm marks the object, unless it included a store. Counts of bindings have
-- 32 bits, so it is of runs in which naming makes fewer.
pub mod Namings
pub mod Ends
pub mod Moves
pub mod Kept
pub mod Steps
pub mod Begins
pub mod Tops
pub mod Plans
pub mod Works
pub mod Whole
pub mod Sends
pub mod CoordsKept
pub mod Quiet
pub mod NamingWalks
pub mod NamingRuns
pub mod Exact
pub mod NamingKept
pub mod Free
