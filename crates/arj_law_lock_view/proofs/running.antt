-- Whole runs of the protocol, seen by the lock machine of one object.
--
-- It puts together what `view/` has of naming, servers and coordinators: one state of the machine is tied to all nodes, up or down, and
-- to every message that was ever sent (`specs/Sees.antt`, `specs/Posts.antt`), for every place of actions in the machine that agrees
-- with those that were begun (`specs/Fixed.antt`); and the journal is tied to that state (`specs/Tied.antt`), by what `journal/` has of
-- each line. What is taken as known of the protocol alone where something comes is named in `specs/Beside.antt`. It stands on
-- `arj_law_runs/kept` for what nodes and messages are by themselves.
pub mod PostSteps
pub mod OtherSteps
pub mod TieSteps
pub mod MoveSteps
pub mod GoodSteps
pub mod FallSteps
pub mod HaltSteps
pub mod WalkSteps
pub mod TopSteps
pub mod ShownSteps
pub mod LeftSteps
pub mod ConfirmSteps
pub mod WhoSteps
pub mod EndedSteps
pub mod HandleSteps
pub mod LineSteps
pub mod RestartSteps
pub mod StartSteps
pub mod RestartWalks
pub mod FirstSteps
pub mod UnitSteps
pub mod CoordSteps
pub mod DecideSteps
pub mod StepSteps
pub mod ToldSteps
pub mod AskedSteps
pub mod RequestSteps
pub mod CallGoes
pub mod TickSteps
pub mod QuerySteps
pub mod CommitGoes
pub mod AckSteps
pub mod BeginGoes
pub mod WorkSteps
pub mod InputGoes
pub mod ShownAnswers
pub mod AnswerGoes
pub mod VoteSteps
pub mod KeptSteps
pub mod NameSteps
