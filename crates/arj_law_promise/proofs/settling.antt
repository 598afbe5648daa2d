-- Nothing that is prepared, and no record, is left for ever: what a quiesce and the stated round leave, in every run.
--
-- Whoever has something prepared at a store or at naming was asked for it by a request of its own (`specs/Prepared.antt`), and its
-- coordinator, while that is up in the same incarnation, has ended it or is at its commit. So a question about it is answered. It
-- stands on what is known of records (`arj_law_disk_view/running`), of coordinators and what they sent (`arj_law_lock_view/facts`), of
-- addresses (`arj_law_runs/addresses`) and of whoever waits (`waiting/`), and on what a round leaves where all this is taken as known
-- (`arj_law_runs/resting`).
--
-- And each run shows one outcome of each top: `runs_show_one_outcome` (`specs/Outcomes.antt`). What stores abort of decided tops has
-- its cause in the journal. Of each top that asked a store (`proofs/Cores.antt`): once it is decided the store has something prepared
-- and the record lists it, or its abort has a cause; which each handler keeps (`proofs/Rights.antt`). And naming aborts nothing of a
-- decided top. Of each top that asked naming to mark a store (`proofs/Confirms.antt`): once it is decided it was recorded, naming
-- confirmed it, and what naming acknowledged of it is prepared no more and isn't prepared again; which each handler keeps
-- (`proofs/ConfirmRuns.antt`).
pub mod Asked
pub mod AskedWalks
pub mod Askers
pub mod Settled
pub mod Last
pub mod Causes
pub mod Calms
pub mod Yeses
pub mod Cores
pub mod Trails
pub mod Knowns
pub mod Lights
pub mod Milds
pub mod ConfirmAcks
pub mod ConfirmCases
pub mod ConfirmEnds
pub mod ConfirmDecides
pub mod ConfirmCoords
pub mod ConfirmSteps
pub mod ConfirmTaken
pub mod ConfirmTells
pub mod Unserial
pub mod ConfirmParts
pub mod ConfirmKnown
pub mod Confirms
pub mod NamesLines
pub mod Stills
pub mod Cases
pub mod Steps
pub mod Parts
pub mod Marks
pub mod Moves
pub mod Decides
pub mod Acks
pub mod ConfirmMoves
pub mod Rights
pub mod ConfirmStarts
pub mod ConfirmRuns
pub mod Joins
pub mod JoinRuns
pub mod Stocks
pub mod StockParts
pub mod StockCoords
pub mod StockRuns
pub mod Listings
pub mod ListingNames
pub mod ListingRuns
pub mod Stored
pub mod Waiting
pub mod Idle
pub mod Aborting
