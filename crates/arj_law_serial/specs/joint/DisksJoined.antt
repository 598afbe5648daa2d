-- Excluded in time where a run goes on behind another journal.
use Rattle.std.specs.Prelude.{◌<◌, ◌++◌, ℕ, List}
use Rattle.std.specs.List.{AllByRecursion}
use Rattle.arj_journal.specs.declared.body.Line.{Line}
use Rattle.arj_journal.specs.declared.header.Header.{Header}
use Rattle.arj_law.specs.Joined.{AreJoined, marks_after}
use Rattle.arj_model.specs.Disks.{Disks}
use Rattle.arj_promise.specs.Excluded.{DisksAreInTime, DisksAreInTimeFrom}

-- Where the second journal's run is in time at the end of an event behind all of the first, so are both together.
abbrev pub JoinedRunsAreInTime : Type 0
JoinedRunsAreInTime = (header next : Header) (first second : List Line) (e : ℕ) (disks : Disks) → AreJoined header first next second →
    AllByRecursion (λ (line : Line). line.event < e) first
    → DisksAreInTimeFrom next (marks_after header first) e second disks → DisksAreInTime header e (first ++ second) disks
