-- Which action a label of a coordinator stands for, and which lines its ends and giveups write.
use Rattle.std.specs.Prelude.{◌≡◌, ◌⊎◌, ℕ, false, List, ◌∷◌, ◌++◌, length, map, Some}
use Rattle.arj_protocol.specs.Ask.{actor}
use Rattle.arj_protocol.specs.Commit.{Machine, left_of}
use Rattle.arj_protocol.specs.Coord.{Committing, Coord, Doing, doing_of, number_of, uid_at}
use Rattle.arj_protocol.specs.Node.{Parts}
use Rattle.arj_protocol.specs.Step.{Node}
use Rattle.arj_protocol.specs.Tree.{Branch, at_place}
use Rattle.arj_protocol.specs.Words.{Body, Event, Label, Line, Uid, name}
use Rattle.arj_protocol.specs.Words.body
use Rattle.arj_protocol.specs.Words.cause
use Rattle.arj_protocol.specs.Words.event
use Rattle.arj_protocol.specs.World.{Asked, World, node_of, run_event}
use Rattle.arj_law_parts.specs.steps.Writes.{IsDone, IsRefusedWith, IsWhole}
use Rattle.arj_protocol.specs.Order.{is_empty}

-- the labels of the actions at work, in order of beginning
abbrev pub names_of : Coord → List Label
names_of c = map (λ (d : Doing). d.label) c.doings

-- Each label that was given is that of the action at work at its number, and there is one for each action.
pub record HasNames (c : Coord) : Type 0 where
  pub named : (l : Label) (j : ℕ) → number_of l c ≡ Some j → (m : Label) × (at_place j (names_of c) ≡ Some m) × (name m ≡ name l)
  pub count : length c.doings ≡ length c.tree.branches

-- and each action stands at the place of its number; and a commit under way waits for some node
pub record KnowsNames (c : Coord) : Type 0 where
  pub names : HasNames c
  pub places : (j : ℕ) (b : Branch) → at_place j c.tree.branches ≡ Some b → actor b.path ≡ uid_at j c
  pub waits : (u : Uid) (d : Doing) (m : Machine) → doing_of u c ≡ Some d → d.now ≡ Committing m → is_empty (left_of m) ≡ false

-- each coordinator that is up knows its labels, and whom its commits wait for
abbrev pub AreNamed : World → Type 0
AreNamed w = (k : ℕ) (n : Node) (t : Parts) → at_place k w.nodes ≡ Some n → n.live ≡ Some t → KnowsNames t.coord

-- The line says, by a label with the action's name, that its commit was called, that it has committed or ended, or that it is
-- doomed; of an abort that it was asked for; and of a giveup, for which node it doesn't wait any more.
abbrev pub IsEndOf : Event → Label → Body → Type 0
IsEndOf (event.Commit l) m b = (b ≡ body.Committing m) ⊎ (b ≡ body.Committed m) ⊎ (b ≡ body.Ended m) ⊎ (b ≡ body.Aborted m cause.Doomed)
IsEndOf (event.Abort l) m b = b ≡ body.Aborted m cause.Asked
IsEndOf (event.GiveUp l) m b = (n : ℕ) × (b ≡ body.GaveUp m n)
IsEndOf _ m b = ⊥

-- the event ends the action of this label, or gives up what it waits for
abbrev pub ends_label : Event → Label → Type 0
ends_label (event.Commit l) m = m ≡ l
ends_label (event.Abort l) m = m ≡ l
ends_label (event.GiveUp l) m = m ≡ l
ends_label _ m = ⊥

-- The line answers the event: where it was done it is its own, or says that the action's node halted; and where it wasn't, with
-- which number it is refused.
pub data AnswersEnd (e : Event) (l : Label) (w : World) (b : Body) : Type 0 where
  OwnEnd : (m : Label) → IsDone e w → name m ≡ name l → IsEndOf e m b → AnswersEnd e l w b
  EndHalted : IsDone e w → b ≡ body.Halted (node_of l w) → AnswersEnd e l w b
  EndRefused : (c : ℕ) → IsRefusedWith e w c → b ≡ body.Refused c → AnswersEnd e l w b

-- among the lines that the event added is one that answers it
pub record IsEndAnswered (e : Event) (l : Label) (old : World) (lines : List Line) : Type 0 where
  pub before : List Line
  pub line : Line
  pub after : List Line
  pub are : lines ≡ old.lines ++ (before ++ line ∷ after)
  pub answers : AnswersEnd e l old line.body

-- a commit, an abort and a giveup write their lines
abbrev pub EndsWriteTheirLines : Type 0
EndsWriteTheirLines = (e : Asked) (l : Label) (w : World) → IsWhole w → AreNamed w → w.over ≡ false → ends_label e.event l →
    IsEndAnswered e.event l w (let v = run_event e w in v.lines)
