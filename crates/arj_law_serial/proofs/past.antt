-- Whose end was told somewhere, in every run: that these actions have ended where they began.
--
-- A server and naming are told ends by messages, a request brings ends, and messages stay under way for ever. Each of these ends is of
-- an action that was begun, and that isn't open any more at its coordinator, as long as that is up (`specs/Told.antt`). It stands on
-- good nodes in every run (`arj_law_runs/kept`), with who holds locks and what is prepared (`arj_law_disk_view/running`).
pub mod Tellers
pub mod Handling
pub mod Past
