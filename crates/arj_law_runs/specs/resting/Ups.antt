-- Who is up stays up, until a line says that the node halted.
use Rattle.std.specs.Prelude.{◌≡◌, ◌⊎◌, ◌++◌, ℕ, true, List, None, Contains}
use Rattle.std.specs.List.{AllByRecursion}
use Rattle.arj_law_parts.specs.steps.Halts.{halted_node}
use Rattle.arj_protocol.specs.Words.{Header, Line}
use Rattle.arj_protocol.specs.Words.body
use Rattle.arj_protocol.specs.World.{is_up_at}
use Rattle.arj_promise.specs.Runs.{Move, Run, all_moved, world_by}
use Rattle.arj_promise.specs.Resting.{AreUp}

-- a line behind the old ones says that the node halted
pub record SaysHalted (k : ℕ) (old new : List Line) : Type 0 where
  pub more : List Line
  pub line : Line
  pub are : new ≡ old ++ more
  pub there : Contains more line
  pub halted : line.body ≡ body.Halted k

-- So it is in every run, from any of its worlds on, whatever stops fall.
abbrev pub RunsStayUp : Type 0
RunsStayUp = (hd : Header) (r : Run hd) (ns : List Move) (k : ℕ) → let w = world_by hd r in is_up_at k w ≡ true → let v = all_moved ns w in
    (is_up_at k v ≡ true) ⊎ SaysHalted k w.lines v.lines

-- no line behind the old ones says that some node halted
abbrev pub NoneHalts : List Line → List Line → Type 0
NoneHalts old new = (more : List Line) × (new ≡ old ++ more) × AllByRecursion (λ (line : Line). halted_node line.body ≡ None) more

-- where every node is up, and none is said to halt from there on, every node is up
abbrev pub AllStayUp : Type 0
AllStayUp = (hd : Header) (r : Run hd) (ns : List Move) → let w = world_by hd r in AreUp w → let v = all_moved ns w in
    NoneHalts w.lines v.lines → AreUp v
