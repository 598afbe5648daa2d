-- Bindings at naming: each is of its incarnation, and their counts are short. And what is known in every run of so many
-- events (`arj_law_runs/bindings`) beside what is kept there.
use Rattle.std.specs.Prelude.{◌≡◌, ◌≤◌, ◌<◌, ◌+◌, ℕ, Some, length}
use Rattle.arj_protocol.specs.Words.{Uid, Binding}
use Rattle.arj_protocol.specs.Named.{Live, Made, Named}
use Rattle.arj_protocol.specs.Naming.{Naming}
use Rattle.arj_protocol.specs.Node.{Parts}
use Rattle.arj_protocol.specs.Order.{at_number, at_uid}
use Rattle.arj_protocol.specs.Step.{Node}
use Rattle.arj_law_runs.specs.calls.Bindings.{AreSaid}
use Rattle.arj_law_runs.specs.calls.Runs.{KnowsFew}
use Rattle.arj_law_runs.specs.coordinators.Uses.{KnowsTops}
use Rattle.arj_law_lock_view.specs.facts.Uppers.{ObjectsAreHeld}
use Rattle.arj_law_runs.specs.kept.Worlds.{IsGood}
use Rattle.arj_law_lock_view.specs.records.Runs.{RecordsRun}
use Rattle.arj_promise.specs.Runs.{Seen}
use Rattle.arj_law_disk_view.specs.names.Lists.{IsShort}
use Rattle.arj_start.specs.Limits.{most_labels}

-- the binding is of this incarnation of naming, and its count is short
pub record IsOwnBinding (inc : ℕ) (b : Binding) : Type 0 where
  pub of : b.inc ≡ inc
  pub short : IsShort b

-- so are an object's live binding and those that were made for tops
pub record HasOwnBindings (inc : ℕ) (o : Named) : Type 0 where
  pub live : (l : Live) → o.live ≡ Some l → IsOwnBinding inc l.binding
  pub made : (u : Uid) (m : Made) → at_uid u o.made ≡ Some m → IsOwnBinding inc m.binding

-- so it is of each object, and the next binding's count is short too
pub record NamesOwn (n : Naming) : Type 0 where
  pub objects : (y : ℕ) (o : Named) → at_number y n.objects ≡ Some o → HasOwnBindings n.inc o
  pub next : n.count + 1 < 4294967296

-- so it is at naming, while it is up
abbrev pub AllNameOwn : Seen → Type 0
AllNameOwn M = (k : ℕ) (n : Node) (t : Parts) (o : Naming) → M.nodes k ≡ Some n → n.live ≡ Some t → t.naming ≡ Some o → NamesOwn o

-- coordinators that are up know who takes part in their tops
abbrev pub AllKnowTops : Seen → Type 0
AllKnowTops M = (k : ℕ) (n : Node) (t : Parts) → M.nodes k ≡ Some n → n.live ≡ Some t → KnowsTops t.coord

-- nodes are good and know their tops, with the objects at naming, and naming counted no more bindings than the journal says; and as long as
-- these are few, Records and Confirms are known
abbrev pub AreGoodCounted : Seen → Type 0
AreGoodCounted M = ((IsGood M × AllKnowTops M) × RecordsRun M) × (ObjectsAreHeld M × AreSaid M)

-- no more labels were given than there may be
abbrev pub HasFewLabels : Seen → Type 0
HasFewLabels M = length M.labels ≤ most_labels

-- few bindings were made, with what is known of calls then, and few labels were given
abbrev pub KnowsScript : Seen → Type 0
KnowsScript M = KnowsFew M × HasFewLabels M
