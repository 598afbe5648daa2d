-- Records that come late, in every run in which naming makes few bindings.
use Rattle.std.specs.Prelude.{◌≡◌, ℕ, true, false, List, Some}
use Rattle.arj_lock.proofs.Members as list
use Rattle.arj_protocol.specs.Words.{Binding, Head, Header, ObjectState, asks, entry, is_on}
use Rattle.arj_protocol.specs.Words.ask
use Rattle.arj_protocol.specs.Ask.{top_of}
use Rattle.arj_protocol.specs.Coord.{Coord}
use Rattle.arj_protocol.specs.Named.{Made, Named}
use Rattle.arj_protocol.specs.Naming.{Naming, is_over}
use Rattle.arj_protocol.specs.Node.{Parts}
use Rattle.arj_protocol.specs.Order.{at_number, at_uid, binding_eq}
use Rattle.arj_protocol.specs.Step.{Node}
use Rattle.arj_law_runs.specs.calls.Bindings.{AreSaid, HasFewBindings}
use Rattle.arj_law_runs.specs.calls.Lived.{LivesRun}
use Rattle.arj_law_runs.specs.calls.Runs.{KnowsRun}
use Rattle.arj_law_parts.specs.parts.Actions.{Action}
use Rattle.arj_law_runs.specs.kept.Worlds.{IsGood, IsGoodOf}
use Rattle.arj_law_runs.specs.addresses.Binds.{BindsAreKnown}
use Rattle.arj_law_parts.specs.moves.Keeps.{Holds, Keeps}
use Rattle.arj_promise.specs.Runs.{Run, journal_by, world_by}
use Rattle.arj_law_parts.specs.moves.Seen.{In}
use Rattle.arj_promise.specs.Runs.{Post, Seen}
use Rattle.arj_law_lock_view.specs.facts.Requests.{KnowsRequests}
use Rattle.arj_law_lock_view.specs.facts.Uppers.{AreUppersOf, HoldsObjects}
use Rattle.arj_law_lock_view.specs.records.Claims.{AreAnswered, AreConfirmed, AreFitting, RecordsAreFirst, SentAreKnown}
use Rattle.arj_law_lock_view.specs.records.Coords.{KnowsRecords, KnowsSent}
use Rattle.arj_law_lock_view.specs.records.Tests.{AreBelowLast, Passes, Tests}

-- What a coordinator knows of its Records: of its requests, of what it sent, and for each tests that fit what was answered.
pub record KnowsOfRecords (sent : List Post) (k : ℕ) (c : Coord) : Type 0 where
  pub requests : KnowsRequests sent k c
  pub own : KnowsSent sent k c
  pub records : (T : Tests) → AreFitting T sent → KnowsRecords T sent k c

-- so it is at each node that is up
abbrev pub CoordsKnow : Seen → Type 0
CoordsKnow M = (j : ℕ) (n : Node) (t : Parts) → M.nodes j ≡ Some n → n.live ≡ Some t → KnowsOfRecords M.sent j t.coord

-- coordinators and all that they sent, beside good nodes and known Binds
abbrev pub RecordsSettle : Seen → Type 0
RecordsSettle M = (IsGood M × BindsAreKnown M) × (SentAreKnown M.sent × CoordsKnow M)

-- each handler keeps it
abbrev pub HandlersSettleRecords : Type 0
HandlersSettleRecords = (hd : Header) → Keeps hd RecordsSettle

-- what is known of naming: for each tests that pass there the answers claim what passes; and entries that are prepared were confirmed
abbrev pub AnswersClaim : Seen → Type 0
AnswersClaim M = (T : Tests) → Passes T M → AreAnswered T M.sent

-- each entry that is prepared was confirmed, where Records were first
abbrev pub EntriesConfirmed : Seen → Type 0
EntriesConfirmed M = RecordsAreFirst M.sent → (n : Node) → M.nodes 1 ≡ Some n → AreConfirmed M.sent (let d = n.disk in d.names)

-- both
abbrev pub NamingKnows : Seen → Type 0
NamingKnows M = AnswersClaim M × EntriesConfirmed M

-- what naming holds: objects are good, and of each the bindings that were recorded aren't above the last one
abbrev pub NamingHolds : List Action → Naming → Type 0
NamingHolds acts n = HoldsObjects acts n × ((x : ℕ) (o : Named) → at_number x n.objects ≡ Some o → AreBelowLast o)

-- so it is at node 1, beside good nodes
abbrev pub Below : Seen → Type 0
Below M = (acts : List Action) × IsGoodOf acts M × AreUppersOf NamingHolds acts M

-- so much is known besides, of coordinators, of naming and of its answers
abbrev pub RecordsKnown : Seen → Type 0
RecordsKnown M = ((RecordsSettle M × Below M) × AreSaid M) × NamingKnows M

-- as long as few bindings were made
abbrev pub RecordsRun : Seen → Type 0
RecordsRun M = (IsGood M × AreSaid M) × (HasFewBindings M.lines → (LivesRun M × KnowsRun M) × RecordsKnown M)

-- A Record that came to naming: of the binding that naming made for its top last and didn't record yet, of naming's incarnation, of a path
-- of which nobody was told, by a top that didn't ask the lock by an include.
pub record IsNewRecord (x : ℕ) (h : Head) (b : Binding) (g : ℕ) (n : Naming) : Type 0 where
  pub named : Named
  pub made : Made
  pub there : at_number x n.objects ≡ Some named
  pub of : at_uid (top_of h.path) named.made ≡ Some made
  pub unrecorded : made.recorded ≡ false
  pub same : binding_eq b made.binding ≡ true
  pub untold : is_over h.path n ≡ false
  pub inc : g ≡ n.inc
  pub unasked : is_on named.asked (top_of h.path) ≡ false

-- such a Record is of a top that has no entry of the object prepared
abbrev pub RecordsAreFree : Seen → Type 0
RecordsAreFree M = (q : Node) (t : Parts) (n : Naming) (p : Post) (h : Head) (x : ℕ) (b : Binding) (i g : ℕ) → M.nodes 1 ≡ Some q →
    q.live ≡ Some t → t.naming ≡ Some n → In p M.sent → asks p.message ≡ Some (h, ask.Record x b i g) → IsNewRecord x h b g n
    → (states : List ObjectState) (s : ObjectState) → at_uid (top_of h.path) (let d = q.disk in let e = d.names in e.pend) ≡ Some states →
    list.In s states → s.uid ≡ entry x → ⊥

-- so it is in every such run, wherever disks stop
abbrev pub RunsFreeRecords : Type 0
RunsFreeRecords = (hd : Header) (r : Run hd) → HasFewBindings (journal_by hd r) → Holds hd RecordsAreFree (world_by hd r)
