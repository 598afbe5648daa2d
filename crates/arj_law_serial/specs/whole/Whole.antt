-- What is known of the protocol alone in every run, all together, for the actions that were begun.
use Rattle.std.specs.Prelude.{ℕ, true, List}
use Rattle.arj_law_parts.specs.parts.Actions.{Action}
use Rattle.arj_promise.specs.Runs.{Seen}
use Rattle.arj_law_runs.specs.calls.Bindings.{AreSaid}
use Rattle.arj_law_runs.specs.journal.Knows.{IsKept}
use Rattle.arj_law_serial.specs.past.Told.{ArePastIn}
use Rattle.arj_law_disk_view.specs.running.Records.{AreRecorded}
use Rattle.arj_law_lock_view.specs.facts.Entries.{HoldsEntry}
use Rattle.arj_law_lock_view.specs.facts.Grants.{GrantsAreKnown}
use Rattle.arj_law_lock_view.specs.facts.Parted.{KnowsParted}
use Rattle.arj_law_lock_view.specs.facts.Requests.{RequestsAreKnown}
use Rattle.arj_law_lock_view.specs.facts.Uppers.{AreUppersOf}
use Rattle.arj_law_lock_view.specs.facts.Worlds.{WorksAreKnown}
use Rattle.arj_law_serial.specs.whole.Aborts.{AbortsAreKnown}
use Rattle.arj_law_serial.specs.whole.Acks.{AcksAreKnown}
use Rattle.arj_law_serial.specs.whole.Avoids.{AvoidsAreKnown}
use Rattle.arj_law_serial.specs.whole.Tops.{HoldsNames, TopsAreKnown}

-- Of naming: its objects are good, and locks are by tops; who is asked about and has something prepared; records; of coordinators who waits
-- and by which numbers, grants, requests, what is avoided, who is part of a commit; the journal, and of whom aborts are told; that who was
-- told to have ended has ended, and who acknowledges; naming's count; and that the object's entry is on the disk.
pub record KnowsWhole (x : ℕ) (begun : List Action) (M : Seen) : Type 0 where
  pub names : AreUppersOf HoldsNames begun M
  pub tops : TopsAreKnown begun M
  pub records : AreRecorded begun M
  pub works : WorksAreKnown M
  pub grants : GrantsAreKnown M
  pub requests : RequestsAreKnown M
  pub parted : KnowsParted begun M
  pub written : IsKept M
  pub aborts : AbortsAreKnown begun M
  pub past : ArePastIn begun M
  pub acks : AcksAreKnown true begun M
  pub avoids : AvoidsAreKnown M
  pub counts : AreSaid M
  pub entry : HoldsEntry x M
