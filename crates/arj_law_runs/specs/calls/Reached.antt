-- Worlds that nodes may come to, whatever stops their disks make.
use Rattle.std.specs.Prelude.{◌≤◌, length}
use Rattle.arj_protocol.specs.Words.{Header}
use Rattle.arj_protocol.specs.World.{World}
use Rattle.arj_law_parts.specs.moves.Keeps.{Holds, KeepsAsked}
use Rattle.arj_promise.specs.Runs.{Seen}
use Rattle.arj_law_runs.specs.calls.Bindings.{HasFewBindings}
use Rattle.arj_start.specs.Limits.{most_labels}

-- whatever each handler keeps, wherever a stop falls, holds of the world
abbrev pub Keeping : Header → World → Type 1
Keeping hd w = (P : Seen → Type 0) → KeepsAsked hd P → Holds hd P w

-- And naming made few bindings up to it, and no more labels were given than there may be.
pub record IsReached (hd : Header) (w : World) : Type 1 where
  pub keeping : Keeping hd w
  pub few : HasFewBindings w.lines
  pub labels : length w.labels ≤ most_labels
