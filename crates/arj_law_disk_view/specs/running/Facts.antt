-- What a run's relation has to give beside what is shown of nodes here, so that the disk half of the view is kept.
use Rattle.std.specs.Prelude.{ℕ, List}
use Rattle.arj_protocol.specs.Effect.{Disk}
use Rattle.arj_protocol.specs.Node.{Parts}
use Rattle.arj_law_parts.specs.parts.Actions.{Action, AreBegun, paths_of}
use Rattle.arj_law_parts.specs.parts.Coords.{IsGoodCoord}
use Rattle.arj_law_parts.specs.parts.Ends.{IsSure}
use Rattle.arj_law_runs.specs.kept.Worlds.{IsGoodOf}
use Rattle.arj_law_parts.specs.moves.Seen.{up}
use Rattle.arj_promise.specs.Runs.{Seen}
use Rattle.arj_law_runs.specs.calls.Runs.{ChangesAreCalled}
use Rattle.arj_law_runs.specs.coordinators.Uses.{KnowsUses}
use Rattle.arj_law_disk_view.specs.running.Sound.{VotesFit}

-- What the disk half counts on of votes: an object of which a server votes a state is one that the plan which waits for the vote uses
-- there. `arj_law_runs/calls` gives it while few bindings were made.
abbrev pub GivesVotes : (Seen → Type 0) → Type 0
GivesVotes R = (acts : List Action) (k : ℕ) (d : Disk) (t : Parts) (M : Seen) → R (up k d t M) → IsGoodOf acts (up k d t M) → VotesFit k t M

-- What is known of a node's coordinator in every run in which naming makes few bindings, and by which a top has a part only in what it
-- uses: `arj_law_runs/kept` has that it is good and sure, `arj_law_runs/coordinators` under which paths it was answered, and
-- `arj_law_runs/calls` what was called.
pub record KnowsParts (acts : List Action) (t : Parts) : Type 0 where
  pub begun : AreBegun acts
  pub good : IsGoodCoord acts (paths_of acts) t.coord
  pub sure : IsSure t.coord
  pub uses : KnowsUses t.coord
  pub called : ChangesAreCalled t
