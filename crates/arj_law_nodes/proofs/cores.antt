-- What the files of a node of the program say, by the object store that its parts stand on.
--
-- The laws of runs speak of what disks say, not of files (`arj_model/specs/Disks.antt`), and hold in whichever way of reading files
-- cores say by them what their nodes have on disk (`SaysReadings` of `nodes/`). Parts over an object store do, read as the store has
-- its pairs by the files: here that is said of every store, and so of the cores of the program, which stand on the segment store. It
-- stands on `arj_parts` and `nodes/`.
pub mod Reading
