-- The protocol seen by the lock machine of one object, part by part: naming, servers, coordinators.
--
-- The machine (`arj_law_lock/machine`) has of one object what naming, servers and coordinators have of it, and its laws are about
-- order, values and held locks. For each object a state of the machine is tied to the protocol place by place; a call of a part is then
-- a run of the machine, allowed step by step, after which the place is seen again. It stands on `arj_protocol`, `arj_law_lock/machine`
-- and what the parts keep (`arj_law_parts/parts`).
pub mod AbortInputSteps
pub mod AbortSteps
pub mod ActingSteps
pub mod AnswerSteps
pub mod AskSteps
pub mod AskedSteps
pub mod BeginSteps
pub mod BesideSteps
pub mod BindSteps
pub mod CallInputSteps
pub mod Looked
pub mod CallingSteps
pub mod CommitSteps
pub mod ConfirmSteps
pub mod CopySteps
pub mod ElseSteps
pub mod CoverSteps
pub mod EndSteps
pub mod EndingSteps
pub mod EverSteps
pub mod FamilySteps
pub mod FirstRows
pub mod FreeSteps
pub mod GivenSteps
pub mod GivingSteps
pub mod HandledSteps
pub mod HeardSteps
pub mod HearingSteps
pub mod IncludeSteps
pub mod InputSteps
pub mod InvokedSteps
pub mod LeftSteps
pub mod ListedSteps
pub mod LogSteps
pub mod MoveSteps
pub mod NamingSteps
pub mod NewSteps
pub mod NoteSteps
pub mod OneSteps
pub mod OutsideSteps
pub mod PassSteps
pub mod PlaceSteps
pub mod PlanSteps
pub mod ReplySteps
pub mod RestartSteps
pub mod RootSteps
pub mod RowSteps
pub mod RunSteps
pub mod SentSteps
pub mod ServerSteps
pub mod ShownSteps
pub mod StartNamingSteps
pub mod StateSteps
pub mod StopSteps
pub mod ToldNamingSteps
pub mod ToldSteps
pub mod TopInputSteps
pub mod TreeSteps
pub mod UndoSteps
pub mod VoteSteps
pub mod VotedSteps
pub mod WholeSteps
