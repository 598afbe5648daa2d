-- The commit protocol seen from one object and its entry: nothing is lost and nothing is half.
--
-- Two-phase commit with presumed abort, exclusion and inclusion of stores, constituents of one serializing action, under stops at every
-- disk call and messages that come again at any time. It stands on nothing but numbers and lists. `specs/State.antt` says what the
-- disks and the coordinators have of one object, `specs/Names.antt` what the naming node keeps in memory; `specs/Effects.antt` and
-- `specs/Guards.antt` what a node looks at and what it changes, `specs/Messages.antt` what each message means, and `specs/Core.antt`
-- and `specs/Named.antt` what holds at every moment.
pub mod Acts
pub mod Base
pub mod Beginning
pub mod Booking
pub mod Calm
pub mod Committing
pub mod Confirmed
pub mod Confirming
pub mod Deciding
pub mod Ends
pub mod Entries
pub mod FirstRuns
pub mod History
pub mod Keeps
pub mod Kin
pub mod Listing
pub mod Loading
pub mod Locks
pub mod Mail
pub mod NamingResults
pub mod Opening
pub mod Plain
pub mod PlainActs
pub mod Restarts
pub mod Results
pub mod SmallRuns
pub mod Retaining
pub mod Stages
pub mod Stores
pub mod Taking
