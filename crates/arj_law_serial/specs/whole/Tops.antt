-- Who is asked about, who has something prepared, and who holds locks on entries: actions that were begun, and aren't nested.
use Rattle.std.specs.Prelude.{⊤, ◌≡◌, ℕ, List, Option, Some, None}
use Rattle.std.specs.List.{AllByRecursion}
use Rattle.arj_protocol.specs.Words.{Ask, Head, ObjectState, Uid, asks}
use Rattle.arj_protocol.specs.Words.ask
use Rattle.arj_protocol.specs.Words.role
use Rattle.arj_protocol.specs.Ask.{actor}
use Rattle.arj_protocol.specs.Effect.{Do, Effect, Pair, Prepare, Send}
use Rattle.arj_protocol.specs.Naming.{Naming}
use Rattle.arj_protocol.specs.Step.{Node}
use Rattle.arj_law_parts.specs.parts.Actions.{Action}
use Rattle.arj_law_parts.specs.parts.Messages.{IsTopAction}
use Rattle.arj_law_parts.specs.moves.Seen.{In}
use Rattle.arj_promise.specs.Runs.{Post, Seen}
use Rattle.arj_law_disk_view.specs.running.Places.{AreEntryRows, asked_about}
use Rattle.arj_law_lock_view.specs.facts.Uppers.{HoldsObjects}

-- naming: objects are good, and locks on entries are by the paths of tops
pub record HoldsNames (acts : List Action) (n : Naming) : Type 0 where
  pub objects : HoldsObjects acts n
  pub entries : AreEntryRows acts n.objects

-- a question is about an action of the node to which it goes, that isn't nested
abbrev pub IsAboutTop : List Action → ℕ → Option Uid → Type 0
IsAboutTop acts to None = ⊤
IsAboutTop acts to (Some u) = (u.node ≡ to) × IsTopAction acts u

-- who asks a store to prepare isn't nested
abbrev pub PreparesTop : List Action → Option (Head × Ask) → Type 0
PreparesTop acts (Some (h, ask.Prepare states)) = IsTopAction acts (actor h.path)
PreparesTop acts _ = ⊤

-- so it is of an effect: what it prepares, asks to prepare, and asks about is of tops
abbrev pub MeansTop : List Action → Effect → Type 0
MeansTop acts (Do (Prepare role.Store u states)) = IsTopAction acts u
MeansTop acts (Send to m) = IsAboutTop acts to (asked_about m) × PreparesTop acts (asks m)
MeansTop acts _ = ⊤

-- who has something prepared isn't nested
abbrev pub HaveTops : List Action → Pair → Type 0
HaveTops acts d = AllByRecursion (λ (e : Uid × List ObjectState). IsTopAction acts e.0) d.pend

-- so it is at each store, and in each message that was sent
pub record TopsAreKnown (acts : List Action) (M : Seen) : Type 0 where
  pub stores : (k : ℕ) (n : Node) → M.nodes k ≡ Some n → HaveTops acts (let d = n.disk in d.store)
  pub sent : (p : Post) → In p M.sent → IsAboutTop acts p.to (asked_about p.message) × PreparesTop acts (asks p.message)
