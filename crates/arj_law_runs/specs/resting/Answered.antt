-- Whoever waits goes on waiting for the same, until a line of the journal ends it.
use Rattle.std.specs.Prelude.{⊤, ◌≡◌, ◌⊎◌, ◌++◌, ℕ, Bool, true, false, List, Some, Contains}
use Rattle.std.specs.List.{AllByRecursion}
use Rattle.arj_protocol.specs.Words.{Body, Cause, Header, Label, Line, Uid}
use Rattle.arj_protocol.specs.Words.body
use Rattle.arj_protocol.specs.Words.cause
use Rattle.arj_protocol.specs.Words.event
use Rattle.arj_protocol.specs.Asking.{end_line}
use Rattle.arj_protocol.specs.Call.{CallEnd}
use Rattle.arj_protocol.specs.Coord.{Calling, Committing, Coord, Doing, Idle, Now, doing_of}
use Rattle.arj_protocol.specs.Step.{is_waiting_now}
use Rattle.arj_protocol.specs.Tree.{at_place}
use Rattle.arj_protocol.specs.World.{Asked, World, is_up_at, run_event}
use Rattle.arj_promise.specs.Runs.{Move, Run, all_moved, moved, world_by}
use Rattle.arj_promise.specs.Waiting.{coord_in}
use Rattle.arj_promise.specs.Waiting.{HasAnswer, IsAnswerTo, IsPlainIn, StillWaits}

-- The line ends what the action with this label waited for at node k: it answers it, says that the action was aborted, with the cause, or
-- that an answer was given up, or that the node halted.
pub data EndsWait (k : ℕ) (l : Label) (now : Now) (b : Body) : Type 0 where
  IsAnswered : IsAnswerTo now l b → EndsWait k l now b
  IsAborted : (why : Cause) → b ≡ body.Aborted l why → EndsWait k l now b
  IsGivenUp : (n : ℕ) → b ≡ body.GaveUp l n → EndsWait k l now b
  HasHalted : b ≡ body.Halted k → EndsWait k l now b

-- a line behind the old ones ends what it waited for
pub record HasEnded (k : ℕ) (q : Doing) (old new : List Line) : Type 0 where
  pub more : List Line
  pub line : Line
  pub are : new ≡ old ++ more
  pub there : Contains more line
  pub ends : EndsWait k q.label q.now line.body

-- So it is in every run, from any of its worlds on, whatever stops fall.
abbrev pub RunsAnswerOrWait : Type 0
RunsAnswerOrWait = (hd : Header) (r : Run hd) (ns : List Move) (k : ℕ) (c : Coord) (u : Uid) (q : Doing) → let w = world_by hd r in
    coord_in (at_place k w.nodes) ≡ Some c → doing_of u c ≡ Some q → is_waiting_now q.now ≡ true
    → let v = all_moved ns w in StillWaits v k u q ⊎ HasEnded k q w.lines v.lines

-- ---- in a quiesce

-- so are all lines that a quiesce adds, in any world, whatever stops fall
abbrev pub QuiescesGiveNothingUp : Type 0
QuiescesGiveNothingUp = (e : Asked) (w : World) → e.event ≡ event.Quiesce → w.over ≡ false →
    (more : List Line) × ((run_event e w).lines ≡ w.lines ++ more) × AllByRecursion (IsPlainIn (run_event e w)) more

-- Whoever waits as a quiesce begins waits for the same at its end, or a line of the quiesce answers it: at each node that is up then.
abbrev pub QuiescesAnswerOrLeave : Type 0
QuiescesAnswerOrLeave = (hd : Header) (r : Run hd) (m : Move) (k : ℕ) (c : Coord) (u : Uid) (q : Doing) → let w = world_by hd r in
    m.asked.event ≡ event.Quiesce → w.over ≡ false → is_up_at k (moved m w) ≡ true
    → coord_in (at_place k w.nodes) ≡ Some c → doing_of u c ≡ Some q → is_waiting_now q.now ≡ true → let v = moved m w in
    StillWaits v k u q ⊎ HasAnswer q w.lines v.lines
