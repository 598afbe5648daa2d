-- A round of messages: what a quiesce leaves, where every node is up in it and no limit is met.
--
-- Whoever waits at a coordinator asks again at the tick. From then on what answers it is under way, the request or its answer, until it
-- is answered: a node that takes a request answers it, a coordinator that takes an answer asks on or ends what waited, and a node sends
-- itself nothing that it doesn't handle in the same step. `specs/Waits.antt` says what is under way, `specs/Rounds.antt` what a quiesce
-- leaves. It stands on `arj_protocol`, on what settles leave (`arj_law_parts/steps`) and on what holds in every run (`kept/`). What is
-- shown of nodes and frames is shown for any relation that each message and tick keeps (`proofs/Flights.antt`, `proofs/Settles.antt`).
pub mod Serving
pub mod Hearing
pub mod Ways
pub mod Effects
pub mod Passing
pub mod Flights
pub mod Worlds
pub mod Fits
pub mod Settles
pub mod Quiesces
pub mod Acting
pub mod Endings
pub mod Quiets
pub mod GiveUps
pub mod Ended
pub mod EndedRuns
pub mod Plain
pub mod PlainRuns
pub mod UpRuns
