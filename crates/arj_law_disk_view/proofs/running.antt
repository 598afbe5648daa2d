-- Whole runs of the protocol, seen by the disk machine of one object.
--
-- It puts together that nodes are good in every run (`arj_law_runs/kept`), that each handler keeps the disk half of the view (`view/`),
-- and naming's half beside it, of one state of the machine (`names/`). The kinds of actions that the view takes as fixed are those of
-- the actions that were begun (`specs/Kinds.antt`): the object is seen for every kinds that agree with them, so that a later action may
-- have any. What the view takes of the protocol alone is shown here: of records, of who was begun, of the paths of requests, of entries
-- at naming, and of commits under way. What servers vote `arj_law_runs/calls` has, while few bindings were made, as in every run of at
-- most 1,000,000 events (`arj_law_runs/bindings`); that bindings are of naming's incarnation `arj_law_lock_view/facts` gives
-- (`specs/Bindings.antt`). A relation is kept beside the machine's state (`specs/Part.antt`), of what coordinators have of naming's
-- answers and what messages claim of them (`specs/Heard.antt`), and that each decided top had its commit called once
-- (`specs/Decided.antt`), by which commits begin and Confirms are booked, and versions stay short. It is kept where new Confirms are of
-- the next version (`GivesNaming` in `specs/Rest.antt`), which `arj_law_serial/joint` gives by the lock machine in the same run.
pub mod Begun
pub mod Bindings
pub mod BothEach
pub mod Copies
pub mod ChangedParts
pub mod DecidedPaths
pub mod Decides
pub mod Decisions
pub mod EntryKeeps
pub mod EntryRows
pub mod EntryWalks
pub mod HeardAborts
pub mod HeardAll
pub mod HeardAnswers
pub mod HeardAsk
pub mod HeardBinds
pub mod HeardCalled
pub mod HeardCalls
pub mod HeardCoord
pub mod HeardDecides
pub mod HeardLasting
pub mod HeardBehind
pub mod HeardDecisions
pub mod HeardDone
pub mod HeardEnds
pub mod HeardFirst
pub mod HeardGoing
pub mod HeardCommits
pub mod HeardGiveups
pub mod HeardInputs
pub mod HeardKept
pub mod HeardLike
pub mod HeardMessage
pub mod HeardMoved
pub mod HeardOther
pub mod HeardOutcomes
pub mod HeardPlaces
pub mod HeardPlans
pub mod HeardShut
pub mod HeardNext
pub mod HeardPosts
pub mod HeardQuiet
pub mod HeardReplies
pub mod HeardRestart
pub mod HeardTaken
pub mod HeardTick
pub mod HeardRoots
pub mod HeardServe
pub mod HeardStarts
pub mod HeardTops
pub mod HeardUnused
pub mod HeardVotes
pub mod HeardStays
pub mod Holders
pub mod Given
pub mod Kept
pub mod Known
pub mod Included
pub mod IncludedParts
pub mod ListedBack
pub mod LoadTops
pub mod ListedKept
pub mod ListedRuns
pub mod ListedSteps
pub mod Lists
pub mod Means
pub mod Plain
pub mod PlaceWalks
pub mod RecordWalks
pub mod RootPaths
pub mod RowWalks
pub mod SoundCoords
pub mod FirstCommits
pub mod SoundPlans
pub mod Telling
pub mod TopPaths
pub mod FewDecided
pub mod Grows
pub mod Scripts
pub mod StateCoords
pub mod StateInputs
pub mod StateEnds
pub mod StateTicks
