-- What a node does with a whole message, as far as its naming goes, in the machine of one object.
use Rattle.std.specs.Prelude.{⊤, ◌≡◌, ◌<◌, ◌⊎◌, ℕ, Bool, true, false, List, Option, Some, None, Contains}
use Rattle.arj_protocol.specs.Words.{Ask, End, Head, Message, Uid, asks}
use Rattle.arj_protocol.specs.Words.ask
use Rattle.arj_protocol.specs.Words.confirmed
use Rattle.arj_protocol.specs.Words.message
use Rattle.arj_protocol.specs.Ask.{Reply, asked_by, last_end, response, top_of}
use Rattle.arj_protocol.specs.Confirm.{Grants, Marks}
use Rattle.arj_protocol.specs.Effect.{Disk, Effect, Send}
use Rattle.arj_protocol.specs.Naming.{Naming}
use Rattle.arj_protocol.specs.Node.{Handled, Parts, Took, Void, taken}
use Rattle.arj_protocol.specs.Order.{binding_number}
use Rattle.arj_law_lock.specs.machine.Actions.{Act}
use Rattle.arj_law_lock.specs.machine.State.{State}
use Rattle.arj_law_parts.specs.parts.Frames.{outs_of}
use Rattle.arj_law_parts.specs.parts.Tops.{Owners}
use Rattle.arj_law_lock_view.specs.view.Asks.{ShowsAsk}
use Rattle.arj_law_lock_view.specs.view.Going.{Goes, OnlyNaming, ShowsBound, ShowsNoted}
use Rattle.arj_law_lock_view.specs.view.Namings.{IsAsking, IsConfirming, IsTelling, SeesNaming, ShowsConfirmed}
use Rattle.arj_law_lock_view.specs.view.Serving.{post_to}
use Rattle.arj_law_lock_view.specs.view.Telling.{View}

-- What is known where a message comes: what the run fixes, who owns whom, and the node's disk.
pub record Site : Type 0 where
  pub view : View
  pub owner : Owners
  pub disk : Disk

-- naming, where the node has it
abbrev pub SeesNamingIn : View → State → Option Naming → Type 0
SeesNamingIn v S None = ⊤
SeesNamingIn v S (Some n) = SeesNaming v n S

-- ---- what a message shows

-- A request to naming, about any object: it is of a top. A Bind of this object avoids a binding that was made before, a Record shows what
-- its coordinator heard, and a Confirm shows what was sent for it.
abbrev pub IsRequestShown : Site → Naming → State → Head → Ask → Type 0
IsRequestShown a n S h (ask.Bind y include avoid) =
    IsAsking a.view a.owner h.path n × (y ≡ a.view.x → binding_number avoid < S.naming.bound)
IsRequestShown a n S h (ask.Record y b i g) =
    IsAsking a.view a.owner h.path n × (y ≡ a.view.x → ShowsAsk a.view.family.act a.view.code (post_to a.view h) S (ask.Record y b i g))
IsRequestShown a n S h (ask.Confirm grants excluded included) =
    IsAsking a.view a.owner h.path n × IsConfirming a.view h.path grants a.disk.names n S
IsRequestShown a n S h _ = ⊤

-- of ends that are told naming acts on the last one
abbrev pub IsEndShown : Site → Naming → State → Option (Uid × End) → Type 0
IsEndShown a n S None = ⊤
IsEndShown a n S (Some e) = IsTelling a.view a.owner e.0 e.1 n S

-- so it is of ends that are told
abbrev pub IsOtherShown : Site → Naming → State → Message → Type 0
IsOtherShown a n S (message.Told m) = IsEndShown a n S (last_end m.ends)
IsOtherShown a n S m = ⊤

-- so it is of a request, or of any other message
abbrev pub IsAskedShown : Site → Naming → State → Message → Option (Head × Ask) → Type 0
IsAskedShown a n S m None = IsOtherShown a n S m
IsAskedShown a n S m (Some q) = IsRequestShown a n S q.0 q.1

-- where the node has naming
abbrev pub IsShownBy : Site → State → Message → Option (Head × Ask) → Option Naming → Type 0
IsShownBy a S m q None = ⊤
IsShownBy a S m q (Some n) = IsAskedShown a n S m q

-- ---- what answers show

-- What an answer of naming to this request shows, where the request is about the object.
abbrev pub ShowsNamingReply : View → Head → Ask → State → Reply → Type 0
ShowsNamingReply v h (ask.Bind y include avoid) T (Reply.Bound r) = y ≡ v.x → ShowsBound v.family.act (top_of h.path) avoid T (Some r)
ShowsNamingReply v h (ask.Record y b i g) T (Reply.Noted r) = y ≡ v.x → ShowsNoted b T (Some r)
ShowsNamingReply v h (ask.Confirm grants excluded included) T (Reply.Confirmed r) = ShowsConfirmed v (top_of h.path) grants T (Some r)
ShowsNamingReply v h a T r = ⊤

-- a request that is for naming
abbrev pub is_for_naming : Ask → Bool
is_for_naming (ask.Bind y include avoid) = true
is_for_naming (ask.Record y b i g) = true
is_for_naming (ask.Confirm grants excluded included) = true
is_for_naming _ = false

-- what goes out at such a request is an answer to it, and shown
abbrev pub AreRepliesShown : View → State → List Effect → Option (Head × Ask) → Type 0
AreRepliesShown v T outs None = ⊤
AreRepliesShown v T outs (Some q) = is_for_naming q.1 ≡ true → (to : ℕ) (z : Message) → Contains outs (Send to z) →
    (r : Reply) × (z ≡ response (asked_by q.0) r) × ShowsNamingReply v q.0 q.1 T r

-- The request is a Confirm of this top, which has a grant on the object, and is answered Yes.
pub record IsAnsweredYes (v : View) (from : ℕ) (q : Option (Head × Ask)) (outs : List Effect) (a : Act) : Type 0 where
  pub head : Head
  pub grants : Grants
  pub excluded : Marks
  pub included : Marks
  pub is : q ≡ Some (head, ask.Confirm grants excluded included)
  pub top : a ≡ v.family.act (top_of (let h = head in h.path))
  pub grant : ℕ
  pub given : Contains {X = ℕ × ℕ} grants (v.x, grant)
  pub yes : Contains outs (Send from (response (asked_by head) (Reply.Confirmed confirmed.Yes)))

-- nobody was confirmed anew but so
abbrev pub AreConfirmsAnswered : View → ℕ → State → State → List Effect → Option (Head × Ask) → Type 0
AreConfirmsAnswered v from S T outs q = (a : Act) → T.confirmed a ≡ true → (S.confirmed a ≡ true) ⊎ IsAnsweredYes v from q outs a

-- ---- what the node does with it

-- naming after it
abbrev pub naming_after : Parts → Handled → Option Naming
naming_after t (Void outs) = t.naming
naming_after t (Took u outs) = u.naming

-- A node takes a message: its naming is seen again, what that answers is shown, and whom the machine's naming confirms is answered Yes.
abbrev pub MessagesAreHeard : Type 0
MessagesAreHeard = (a : Site) (t : Parts) (from : ℕ) (m : Message) (S : State)
    → IsShownBy a S m (asks m) t.naming → SeesNamingIn a.view S t.naming
    → let r = taken a.view.node a.disk t from m in Goes S (λ T. SeesNamingIn a.view T (naming_after t r) × OnlyNaming S T
    × AreRepliesShown a.view T (outs_of r) (asks m) × AreConfirmsAnswered a.view from S T (outs_of r) (asks m))
