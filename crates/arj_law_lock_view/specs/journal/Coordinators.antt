-- A coordinator's lines: after each input and each answer the journal with the lines that were said is tied to the machine.
use Rattle.std.specs.Prelude.{◌≡◌, ℕ, List, [], ◌∷◌, Some}
use Rattle.arj_journal.specs.declared.body.Body.{Body}
use Rattle.arj_journal.specs.declared.body.Line.{Line}
use Rattle.arj_model.specs.Actions as model
use Rattle.arj_model.specs.Serial.{Values}
use Rattle.arj_protocol.specs.Words.{Uid}
use Rattle.arj_protocol.specs.Coord.{Coord, Doing, doing_of}
use Rattle.arj_protocol.specs.Effect.{Do, Effect, Say, Send}
use Rattle.arj_protocol.specs.Tree.{Branch, branch_of}
use Rattle.arj_law_lock.specs.machine.State.{State}
use Rattle.arj_law_lock_view.specs.view.Acts.{Acts}
use Rattle.arj_law_lock_view.specs.view.Copies.{Codes}
use Rattle.arj_law_lock_view.specs.journal.Lines.{IsTiedToLines}
use Rattle.arj_law_lock_view.specs.journal.Steps.{AreNamed, IsNamed}

-- ---- what is written, and on what

-- what effects say; their messages may have lines of their own, behind these
abbrev pub bodies_of : List Effect → List Body
bodies_of [] = []
bodies_of (Say b ∷ es) = b ∷ bodies_of es
bodies_of (Send to m ∷ es) = bodies_of es
bodies_of (Do w ∷ es) = bodies_of es

-- Where a step writes: the journal so far, the event in which it does, and the first value of each object.
pub record Page : Type 0 where
  pub lines : List Line
  pub event : ℕ
  pub values : Values

-- the action's label is that of an action of the journal, with its Uid and of its kind
abbrev pub IsLabelled : List Line → Uid → Branch → Doing → Type 0
IsLabelled lines u b d = (a : model.Act) × IsNamed lines d.label a × (a.uid ≡ u) × (a.kind ≡ b.kind)

-- so it is of each action of a coordinator
abbrev pub KnowsLabels : List Line → Coord → Type 0
KnowsLabels lines c = (u : Uid) (b : Branch) (d : Doing) → branch_of u c.tree ≡ Some b → doing_of u c ≡ Some d → IsLabelled lines u b d

-- The journal so far has the coordinator's labels, and is tied to the machine.
pub record IsOnPage (act : Acts) (code : Codes) (x : ℕ) (p : Page) (c : Coord) (S : State) : Type 0 where
  pub named : AreNamed act p.lines
  pub labels : KnowsLabels p.lines c
  pub tied : IsTiedToLines act code p.values x p.lines S
