-- What messages say of actions and their ends, for ever.
use Rattle.std.specs.Prelude.{◌≡◌, ◌≢◌, ◌⊎◌, ◌&&◌, Bool, List, [], true, false, Option, Some, None, Contains, ⊤}
use Rattle.std.specs.List.{AllByRecursion, list_any}
use Rattle.arj_protocol.specs.Words.{Uid, Path, End, Head, Ask, Message, asks, uid_eq}
use Rattle.arj_protocol.specs.Words.ask
use Rattle.arj_protocol.specs.Words.ending
use Rattle.arj_protocol.specs.Words.kind
use Rattle.arj_protocol.specs.Words.message
use Rattle.arj_protocol.specs.Ask.{actor}
use Rattle.arj_protocol.specs.Effect.{Effect, Say, Send, Do, Work, PutIntent, Intent}
use Rattle.arj_protocol.specs.Tree.{Tree, Branch, branch_of}
use Rattle.arj_law_parts.specs.parts.Actions.{Action, act_of}
use Rattle.arj_law_parts.specs.parts.Servers.{AreOfOthers, HasAllBelow, AreOrdered}

-- the path is that of an action that was begun, and that isn't a serializing one
abbrev pub IsAsker : List Action → Path → Type 0
IsAsker acts p = (a : Action) × Contains acts a × (a.path ≡ p) × (a.kind ≢ kind.Serial)

-- a top, or a serializing action, that was begun
abbrev pub IsTopAction : List Action → Uid → Type 0
IsTopAction acts u = (a : Action) × Contains acts a × (act_of a ≡ u) × (a.kind ≢ kind.Nested)

-- A request is by the path of its action. An Invoke brings no end of its own path, a Vote the ends of all below the top,
-- and both bring ends in order.
abbrev pub FitsAsk : List Action → Head → Ask → Type 0
FitsAsk acts h (ask.Invoke x b i ends op) = IsAsker acts h.path × AreOfOthers h.path ends × AreOrdered acts [] ends
FitsAsk acts h (ask.Vote i ties ends) = IsAsker acts h.path × HasAllBelow acts (actor h.path) ends × AreOrdered acts [] ends
FitsAsk acts h _ = IsAsker acts h.path

-- a told brings ends in order
abbrev pub FitsOther : List Action → Message → Type 0
FitsOther acts (message.Told m) = AreOrdered acts [] m.ends
FitsOther acts _ = ⊤

-- a request fits by its path and what it asks, any other message by what it tells
abbrev pub FitsAsked : List Action → Message → Option (Head × Ask) → Type 0
FitsAsked acts m None = FitsOther acts m
FitsAsked acts m (Some a) = FitsAsk acts a.0 a.1

-- the message fits these actions
abbrev pub FitsMessage : List Action → Message → Type 0
FitsMessage acts m = FitsAsked acts m (asks m)

-- a record is of a top
abbrev pub FitsWork : List Action → Work → Type 0
FitsWork acts (PutIntent u i) = IsTopAction acts u
FitsWork acts _ = ⊤

-- so it is of a message that is sent and of a record that is written
abbrev pub FitsEffect : List Action → Effect → Type 0
FitsEffect acts (Send to m) = FitsMessage acts m
FitsEffect acts (Say b) = ⊤
FitsEffect acts (Do w) = FitsWork acts w

-- each message that is sent fits, and each record that is written
abbrev pub AllFit : List Action → List Effect → Type 0
AllFit acts outs = AllByRecursion (FitsEffect acts) outs

-- records are of tops
abbrev pub AreOfTops : List Action → List (Uid × Intent) → Type 0
AreOfTops acts intents = AllByRecursion (λ (e : Uid × Intent). IsTopAction acts e.0) intents

-- ---- for ever

-- the action ended so
abbrev pub IsDecided : Uid → End → Tree → Type 0
IsDecided u e t = (b : Branch) × (branch_of u t ≡ Some b) × (b.ended ≡ Some e)

-- a commit
abbrev pub is_commit : End → Bool
is_commit ending.Commit = true
is_commit ending.Abort = false

-- a commit of this action is in the list
abbrev pub has_commit_of : Uid → List (Uid × End) → Bool
has_commit_of u ends = list_any (λ (e : Uid × End). uid_eq e.0 u && is_commit e.1) ends

-- A message says of these actions that they committed, or are about to: nothing begins below them any more.
abbrev pub SealsAsk : Head → Ask → Uid → Type 0
SealsAsk h (ask.Invoke x b i ends op) u = has_commit_of u ends ≡ true
SealsAsk h (ask.Vote i ties ends) u = (has_commit_of u ends ≡ true) ⊎ (u ≡ actor h.path)
SealsAsk h _ u = ⊥

-- a told seals whom it tells to be committed
abbrev pub SealsOther : Message → Uid → Type 0
SealsOther (message.Told m) u = has_commit_of u m.ends ≡ true
SealsOther _ u = ⊥

-- a request seals whom it says to have committed
abbrev pub SealsAsked : Message → Option (Head × Ask) → Uid → Type 0
SealsAsked m None u = SealsOther m u
SealsAsked m (Some a) u = SealsAsk a.0 a.1 u

-- the message seals the action
abbrev pub Seals : Message → Uid → Type 0
Seals m u = SealsAsked m (asks m) u
