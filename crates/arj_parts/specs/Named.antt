-- Actions by their labels, and what a coordinator did about one.
use Rattle.std.specs.Prelude.{◌≡◌, List, ◌++◌, Option, Some, None}
use Rattle.arj_protocol.specs.Ask.{actor}
use Rattle.arj_protocol.specs.Coord.{Coord}
use Rattle.arj_protocol.specs.Effect.{Did, Effect}
use Rattle.arj_protocol.specs.Step.{branch_named}
use Rattle.arj_protocol.specs.Tree.{Branch, branch_of}
use Rattle.arj_protocol.specs.Words.{Uid, Label}

-- the label names this action, which was begun here
pub record NamesOne (l : Label) (c : Coord) (u : Uid) : Type 0 where
  pub branch : Branch
  pub is : branch_named l c ≡ Some branch
  pub of : branch_of u c.tree ≡ Some branch
  pub actor_is : actor branch.path ≡ u

-- the label names this action, or none
abbrev pub NamesAction : Label → Coord → Option Uid → Type 0
NamesAction l c None = branch_named l c ≡ None
NamesAction l c (Some u) = NamesOne l c u

-- the coordinator is the one after this, and its effects stand behind those before
pub record IsAfter (did : Did Coord) (c : Coord) (before after : List Effect) : Type 0 where
  pub part : c ≡ did.part
  pub outs : after ≡ before ++ did.outs
