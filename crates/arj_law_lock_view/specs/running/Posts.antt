-- What each message that was ever sent shows, for ever, of the lock machine's state of one object.
use Rattle.std.specs.Prelude.{⊤, ◌≡◌, ◌<◌, ◌⊎◌, ◌*◌, ℕ, true, List, Option, Some, None, Contains}
use Rattle.arj_protocol.specs.Words.{Ask, Asked, End, Head, Message, Uid, asks}
use Rattle.arj_protocol.specs.Words.ask
use Rattle.arj_protocol.specs.Words.ending
use Rattle.arj_protocol.specs.Words.message
use Rattle.arj_protocol.specs.Ask.{Reply, answers, asked_by, top_of}
use Rattle.arj_protocol.specs.Order.{binding_number}
use Rattle.arj_law_lock.specs.machine.Actions as machine
use Rattle.arj_law_lock.specs.machine.Actions.{Root, is_action, is_top, root}
use Rattle.arj_law_lock.specs.machine.State as machine_state
use Rattle.arj_law_lock.specs.machine.State.{State}
use Rattle.arj_law_parts.specs.parts.Actions.{Action}
use Rattle.arj_protocol.specs.Follow.{ends_in}
use Rattle.arj_law_parts.specs.moves.Seen.{In}
use Rattle.arj_promise.specs.Runs.{Post}
use Rattle.arj_law_lock_view.specs.view.Asks.{ShowsAsk}
use Rattle.arj_law_lock_view.specs.view.Handling.{ShowsReply}
use Rattle.arj_law_lock_view.specs.view.Hearing.{ShowsNamingReply}
use Rattle.arj_law_lock_view.specs.view.Sent.{HaveEnded}
use Rattle.arj_law_lock_view.specs.view.Serving.{IsForServer, post_to}
use Rattle.arj_law_lock_view.specs.view.Telling.{HasEnded, View}
use Rattle.arj_law_lock_view.specs.running.Fixed.{Fixed, view_of}

-- ---- requests

-- What a request to naming shows: a Bind of the object avoids a binding that was made before, a Record says what its coordinator heard,
-- and a Confirm was sent in the machine for each of its grants on the object.
abbrev pub SaysToNaming : View → Head → Ask → State → Type 0
SaysToNaming v h (ask.Bind y include avoid) S = y ≡ v.x → binding_number avoid < S.naming.bound
SaysToNaming v h (ask.Record y b i g) S = y ≡ v.x → ShowsAsk v.family.act v.code (post_to v h) S (ask.Record y b i g)
SaysToNaming v h (ask.Confirm grants excluded included) S = (g : ℕ) → Contains {X = ℕ × ℕ} grants (v.x, g) →
    machine.In (machine_state.Confirm (v.family.act (top_of h.path)) (g * 4294967296)) S.net
SaysToNaming v h _ S = ⊤

-- A request shows what its coordinator did about the object, and brings ends that their actions have.
pub record IsRequestSeen (v : View) (h : Head) (a : Ask) (S : State) : Type 0 where
  pub says : IsForServer v.x a → ShowsAsk v.family.act v.code (post_to v h) S a
  pub names : SaysToNaming v h a S
  pub ended : HaveEnded v (ends_in a) S

-- ---- answers

-- An answer from this node is to a request that was sent to it, and shows what that asked for.
pub record IsAnswerSeen (v : View) (sent : List Post) (p : Post) (r : Asked × Reply) (S : State) : Type 0 where
  pub request : Message
  pub asked : In (record { from = p.to; to = p.from; message = request }) sent
  pub head : Head
  pub ask : Ask
  pub is : asks request ≡ Some (head, ask)
  pub of : asked_by head ≡ r.0
  pub server : ShowsReply v head ask S r.1
  pub naming : ShowsNamingReply v head ask S r.1

-- ---- ends

-- An end that is told is the action's own; or it is told as an abort of a top or a serializing action where the unit is over, or of a top
-- that is committed.
abbrev pub IsToldSo : View → State → Uid → End → Type 0
IsToldSo v S u ending.Commit = HasEnded v S u ending.Commit
IsToldSo v S u ending.Abort = HasEnded v S u ending.Abort
    ⊎ ((((let a = S.action (Root (root (v.family.act u))) in a.stage) ≡ 3) × (is_action (v.family.act u) ≡ true →
    is_top (v.family.act u) ≡ true)) ⊎ ((is_top (v.family.act u) ≡ true) × ((let a = S.action (v.family.act u) in a.stage) ≡ 3)))

-- so it is of all ends
abbrev pub AreToldSo : View → List (Uid × End) → State → Type 0
AreToldSo v ends S = (u : Uid) (e : End) → Contains {X = Uid × End} ends (u, e) → IsToldSo v S u e

-- ---- any message

-- so it is of a told
abbrev pub IsOtherSeen : View → State → Message → Type 0
IsOtherSeen v S (message.Told m) = AreToldSo v m.ends S
IsOtherSeen v S m = ⊤

-- so it is of an answer, or of any other message
abbrev pub IsAnsweredSeen : View → List Post → Post → State → Option (Asked × Reply) → Type 0
IsAnsweredSeen v sent p S None = IsOtherSeen v S p.message
IsAnsweredSeen v sent p S (Some r) = IsAnswerSeen v sent p r S

-- so it is of a request, or of any other message
abbrev pub IsAskedSeen : View → List Post → Post → State → Option (Head × Ask) → Type 0
IsAskedSeen v sent p S None = IsAnsweredSeen v sent p S (answers p.message)
IsAskedSeen v sent p S (Some q) = IsRequestSeen v q.0 q.1 S

-- A message that was sent shows it to whom it was sent.
abbrev pub IsPostSeen : Fixed → ℕ → List Action → List Post → State → Post → Type 0
IsPostSeen f x begun sent S p = IsAskedSeen (view_of f x begun p.to) sent p S (asks p.message)
