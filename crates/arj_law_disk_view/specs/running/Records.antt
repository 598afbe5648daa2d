-- Records on disks, and what is told again of them.
use Rattle.std.specs.Prelude.{⊤, ◌≡◌, ◌≢◌, ℕ, List, [], ◌∷◌, Some, Contains}
use Rattle.arj_protocol.specs.Words.{Uid}
use Rattle.arj_protocol.specs.Effect.{Effect, Do, PutIntent, RemoveIntent, Intent}
use Rattle.arj_protocol.specs.Node.{Parts}
use Rattle.arj_protocol.specs.Order.{at_uid, put_uid, without_uid}
use Rattle.arj_protocol.specs.Step.{Node}
use Rattle.arj_protocol.specs.Tree.{root_of}
use Rattle.arj_law_parts.specs.parts.Actions.{Action, act_of}
use Rattle.arj_promise.specs.Runs.{Seen}
use Rattle.arj_law_disk_view.specs.view.Pairs.{AreSorted}

-- the record is of an action that was begun, and has its root
abbrev pub IsRooted : List Action → Uid → Intent → Type 0
IsRooted acts u i = (a : Action) × Contains acts a × (act_of a ≡ u) × (root_of a.path ≡ i.root)

-- so is each record of a disk, and lists some node
pub record AreRooted (acts : List Action) (intents : List (Uid × Intent)) : Type 0 where
  pub sorted : AreSorted intents
  pub each : (u : Uid) (i : Intent) → at_uid u intents ≡ Some i → IsRooted acts u i
  pub listed : (u : Uid) (i : Intent) → at_uid u intents ≡ Some i → i.nodes ≢ []

-- What is told again has its record, and each record is told again; and of each some node's acknowledgement is awaited.
pub record HaveRecords (intents telling : List (Uid × Intent)) : Type 0 where
  pub told : (u : Uid) (j : Intent) → at_uid u telling ≡ Some j → (i : Intent) × (at_uid u intents ≡ Some i)
  pub again : (u : Uid) (i : Intent) → at_uid u intents ≡ Some i → (j : Intent) × (at_uid u telling ≡ Some j)
  pub awaited : (u : Uid) (j : Intent) → at_uid u telling ≡ Some j → j.nodes ≢ []

-- a record that is written is of an action that was begun, and lists some node
abbrev pub WritesRooted : List Action → Effect → Type 0
WritesRooted acts (Do (PutIntent u i)) = IsRooted acts u i × (i.nodes ≢ [])
WritesRooted acts _ = ⊤

-- the records after an effect
abbrev pub recorded : Effect → List (Uid × Intent) → List (Uid × Intent)
recorded (Do (PutIntent u i)) intents = put_uid u i intents
recorded (Do (RemoveIntent u)) intents = without_uid u intents
recorded _ intents = intents

-- after these effects what is told again has its record
abbrev pub LeavesRecords : List Action → List (Uid × Intent) → List Effect → List (Uid × Intent) → Type 0
LeavesRecords acts telling [] intents = HaveRecords intents telling
LeavesRecords acts telling (e ∷ es) intents = WritesRooted acts e × LeavesRecords acts telling es (recorded e intents)

-- a node's records, and while it is up what it tells again
pub record IsRecorded (acts : List Action) (n : Node) : Type 0 where
  pub disk : AreRooted acts (let d = n.disk in d.intents)
  pub live : (t : Parts) → n.live ≡ Some t → HaveRecords (let d = n.disk in d.intents) t.coord.telling × AreSorted t.coord.telling

-- so it is at each node
abbrev pub AreRecorded : List Action → Seen → Type 0
AreRecorded acts M = (k : ℕ) (n : Node) → M.nodes k ≡ Some n → IsRecorded acts n
