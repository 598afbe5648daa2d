-- Lines that a call or an include was lost.
--
-- No entry is left without a store, so naming puts none on its disk (`Stored`), and each disk's entries list some (`Keeping`); so each
-- answer to a Bind has a store to load from (`Bound`). So who is answered loses nothing (`Losing`), and each line that something was lost
-- stands in a giveup of its action (`Fitting`), event by event in whole runs (`Running`).
pub mod Stored
pub mod Keeping
pub mod Bound
pub mod Losing
pub mod Fitting
pub mod Running
