-- What the proofs of this crate name of its own definitions and of the crates below, passed on from one place.
-- Declares nothing.
pub use Rattle.arj_law_parts.specs.moves.Keeps.{Holds, IsSent, KeepsAsked, KeepsFrom, MayGive, label_at}
pub use Rattle.arj_law_parts.specs.moves.Seen.{AreQuiet, In, Within, at, down, posted, said, up, with_node, with_sent}
pub use Rattle.arj_law_parts.specs.moves.Walks.{Up, Walks, halted}
pub use Rattle.arj_law_parts.specs.parts.Actions.{Action, Agree, AreBegun, AreCounted, MayBegin, Stands, act_of, action_of}
pub use Rattle.arj_law_parts.specs.parts.Claims.{AreOfNode, AreTrue, GoesOn, IsClaimed, IsHomeWork, IsOwnRecord, IsSettled}
pub use Rattle.arj_law_parts.specs.parts.Coords.{AreBusy, IsAsking, IsBusy, IsCommitting, IsGoodCoord, IsOver, IsVoting}
pub use Rattle.arj_law_parts.specs.parts.Copies.{HasHeirs, IsGoodCopy, IsLowest, IsTree, Paths}
pub use Rattle.arj_law_parts.specs.parts.Ends.{AllSayEnds, AreOfCommits, IsSure, SaysEndsIn}
pub use Rattle.arj_law_parts.specs.parts.Entries.{HasLockOn, HasPrepared, IsGoodNaming, IsGoodPair, IsOwnState, Past, guard_of, names_after}
pub use Rattle.arj_law_parts.specs.parts.Lives.{Homes, IsAtSo, IsKeptSo, IsKnownSo, IsMovedSo, IsPastZero, IsReached, IsStepSo, NamesAsk}
pub use Rattle.arj_law_parts.specs.parts.Lives.{NamesBound, NamesReply, Reach, home_of}
pub use Rattle.arj_law_parts.specs.parts.Messages.{AllFit, AreOfTops, FitsAsk, FitsAsked, FitsMessage, FitsOther, FitsWork, IsAsker}
pub use Rattle.arj_law_parts.specs.parts.Messages.{IsDecided, IsTopAction, Seals, SealsAsk, SealsAsked, has_commit_of, is_commit}
pub use Rattle.arj_law_parts.specs.parts.Objects.{AreSorted, IsGoodObject, IsToldOf, Untold}
pub use Rattle.arj_law_parts.specs.parts.Rows.{AreGoodRows, HasLock, Told}
pub use Rattle.arj_law_parts.specs.parts.Servers.{AreInTurn, AreOfOthers, AreOrdered, Follows, HasAllBelow, IsBegun, IsGoodServer, IsInTurn}
pub use Rattle.arj_law_parts.specs.parts.Servers.{IsTopOn, has_end_of}
pub use Rattle.arj_law_parts.specs.parts.Tops.{Fits, IsHolder, IsTop, Owners, stands_above}
pub use Rattle.arj_law_parts.specs.parts.Trees.{AreAtHome, AreWhole, HasAllIn, HasLists, IsClosed, IsGoodTree, MayStand}
pub use Rattle.arj_law_parts.specs.steps.Named.{names_of}
pub use Rattle.arj_law_parts.specs.steps.Writes.{Answers, IsAnswered, IsDone, IsOwn, IsRefused, IsRun, IsWhole, Own, asks, halts_for}
pub use Rattle.arj_law_parts.specs.steps.Writes.{node_refusal, refused_to}
pub use Rattle.arj_protocol.specs.Effect.{moved}
pub use Rattle.arj_protocol.specs.Ending.{is_over}
pub use Rattle.arj_protocol.specs.Naming.{told}
pub use Rattle.arj_protocol.specs.Server.{taken_end}
pub use Rattle.arj_protocol.specs.Tree.{is_below}
pub use Rattle.arj_protocol.specs.World.{Asked, says}
pub use Rattle.arj_protocol.specs.Words.which
