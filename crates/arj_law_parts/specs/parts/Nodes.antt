-- What holds of a node that is up, with all actions that were begun so far.
use Rattle.std.specs.Prelude.{◌≡◌, ◌⊎◌, true, List, ⊤}
use Rattle.arj_protocol.specs.Words.{Uid, Message, is_on}
use Rattle.arj_protocol.specs.Node.{Parts, Handled, Void, Took}
use Rattle.arj_law_parts.specs.parts.Actions.{Action}
use Rattle.arj_law_parts.specs.parts.Coords.{IsGoodCoord}
use Rattle.arj_law_parts.specs.parts.Copies.{Paths}
use Rattle.arj_law_parts.specs.parts.Messages.{AllFit, AreOfTops, Seals}
use Rattle.arj_law_parts.specs.parts.Servers.{IsGoodServer, KnowsActions}

-- its server and its coordinator are good, and know the actions; what is told again is of tops
pub record IsGoodNode (acts : List Action) (paths : Paths) (t : Parts) : Type 0 where
  pub server : IsGoodServer paths t.server
  pub knows : KnowsActions acts t.server
  pub coord : IsGoodCoord acts paths t.coord
  pub telling : AreOfTops acts t.coord.telling

-- What a node makes of a message: it is good, and what it sends fits. A void message changes nothing.
abbrev pub IsWellHandled : List Action → Paths → Handled → Type 0
IsWellHandled acts paths (Void outs) = ⊤
IsWellHandled acts paths (Took t outs) = IsGoodNode acts paths t × AllFit acts outs

-- the server of the second votes for whom that of the first voted, and for the top of this message alone
abbrev pub VotesOnly : Message → Parts → Parts → Type 0
VotesOnly m t v = (w : Uid) → is_on v.server.voted w ≡ true → (is_on t.server.voted w ≡ true) ⊎ Seals m w

-- so it is behind a message that was taken
abbrev pub VotesOnlyAfter : Message → Parts → Handled → Type 0
VotesOnlyAfter m t (Void outs) = ⊤
VotesOnlyAfter m t (Took v outs) = VotesOnly m t v
