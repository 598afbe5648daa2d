-- What holds in every run, of which nothing that is prepared is left for ever.
use Rattle.std.specs.Prelude.{◌≡◌, ℕ, List, Some}
use Rattle.arj_protocol.specs.Words.{Header}
use Rattle.arj_protocol.specs.Node.{Parts}
use Rattle.arj_protocol.specs.Step.{Node}
use Rattle.arj_law_parts.specs.parts.Actions.{Action}
use Rattle.arj_law_runs.specs.kept.Worlds.{IsGood, IsGoodOf}
use Rattle.arj_law_parts.specs.moves.Keeps.{KeepsAsked}
use Rattle.arj_promise.specs.Runs.{HeaderFits, Seen}
use Rattle.arj_law_runs.specs.addresses.Addresses.{AreAddressed}
use Rattle.arj_law_runs.specs.addresses.Binds.{BindsAreKnown}
use Rattle.arj_law_disk_view.specs.running.Records.{AreRecorded}
use Rattle.arj_law_runs.specs.resting.Quiet.{SettlesAll}
use Rattle.arj_law_promise.specs.settling.Prepared.{AskersAreSettled, PreparedWereAsked}

-- records are as records are, and whoever has something prepared was asked for it, for the actions that were begun
abbrev pub DisksAreKnown : Seen → Type 0
DisksAreKnown M = (begun : List Action) × IsGoodOf begun M × (AreRecorded begun M × PreparedWereAsked begun M)

-- at each node that is up whoever asked for it has ended, or is at its commit
abbrev pub AskersSettle : Seen → Type 0
AskersSettle M = (j : ℕ) (n : Node) (t : Parts) → M.nodes j ≡ Some n → n.live ≡ Some t → AskersAreSettled M.sent j t.coord

-- With it every number that stands for a node is that of one.
abbrev pub KnowsPrepared : Header → Seen → Type 0
KnowsPrepared hd M = (DisksAreKnown M × ((IsGood M × BindsAreKnown M) × AskersSettle M)) × AreAddressed hd M

-- each handler keeps it, and it gives all that a quiesce takes of records and of what is prepared
abbrev pub HandlersSettle : Type 0
HandlersSettle = (hd : Header) → HeaderFits hd → KeepsAsked hd (KnowsPrepared hd) × SettlesAll hd (KnowsPrepared hd)
