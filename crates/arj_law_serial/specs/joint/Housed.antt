-- Where the actions of a run are: at nodes that are there.
use Rattle.std.specs.Prelude.{◌≡◌, Some}
use Rattle.arj_protocol.specs.Words.{Label}
use Rattle.arj_protocol.specs.Step.{Node}
use Rattle.arj_protocol.specs.World.{Labelled}
use Rattle.arj_law_parts.specs.moves.Keeps.{label_at}
use Rattle.arj_promise.specs.Runs.{Seen}

-- each label that was given is of a node that is there
abbrev pub AreHoused : Seen → Type 0
AreHoused M = (l : Label) (g : Labelled) → label_at l M.labels ≡ Some g → (n : Node) × (M.nodes g.node ≡ Some n)
