-- What servers have of calls that they ran and refused.
use Rattle.std.specs.Prelude.{⊤, ◌≡◌, ◌⊎◌, ◌<◌, ◌++◌, ℕ, Bool, true, false, List, Option, Some, None}
use Rattle.arj_protocol.specs.Words.{Uid, Binding, Asked, is_on, uids_of, writes}
use Rattle.arj_protocol.specs.Ask.{asked_by}
use Rattle.arj_protocol.specs.Copy.{Copy, Over}
use Rattle.arj_protocol.specs.Node.{Parts}
use Rattle.arj_protocol.specs.Order.{at_number, at_uid, binding_less, binding_number}
use Rattle.arj_protocol.specs.Server.{Kept, Server, active_binding, is_told}
use Rattle.arj_protocol.specs.Step.{Node}
use Rattle.arj_lock.proofs.Members as list
use Rattle.arj_promise.specs.Runs.{Post}
use Rattle.arj_law_runs.specs.calls.Calls.{Call, IsAsked, IsRefused, IsSaidToCommit, is_refusal}

-- The server doesn't run the request any more: it was told of the action's end, ran a later request of it, or answers this one as
-- it did, with a refusal or not.
abbrev pub HasDone : Bool → Asked → Server → Type 0
HasDone refused a s = (is_told a.act s ≡ true)
    ⊎ ((k : Kept) × (at_uid a.act s.kept ≡ Some k) × ((a.req < k.req) ⊎ ((k.req ≡ a.req) × (is_refusal k.answer ≡ refused))))

-- where the action with this path wrote the object under this binding: a call that was run here, by an action that committed up to it
pub record IsSource (sent : List Post) (n : ℕ) (s : Server) (x : ℕ) (b : Binding) (holder : List Uid) : Type 0 where
  pub call : Call
  pub from : ℕ
  pub asked : IsAsked sent from n call
  pub object : call.x ≡ x
  pub bound : binding_number call.binding ≡ binding_number b
  pub inc : call.inc ≡ s.inc
  pub writing : writes call.op ≡ true
  pub rest : List Uid
  pub path : uids_of (let h = call.head in h.path) ≡ holder ++ rest
  pub committed : (w : Uid) → is_on rest w ≡ true → IsSaidToCommit sent w
  pub done : HasDone false (asked_by call.head) s
  pub unrefused : IsRefused sent n (asked_by call.head) → ⊥

-- each overlay of a copy has its source
abbrev pub AreFromCalls : List Post → ℕ → Server → Type 0
AreFromCalls sent n s = (x : ℕ) (c : Copy) (e : Over) → at_number x s.objects ≡ Some c → list.In e c.stack →
    IsSource sent n s x c.binding e.holder

-- this holds of a server that is up
abbrev pub IsSoUp : (Server → Type 0) → Option Parts → Type 0
IsSoUp Q None = ⊤
IsSoUp Q (Some t) = Q t.server

-- a later incarnation of the node's server, or this one, and while it is up this holds of it
abbrev pub Since : ℕ → (Server → Type 0) → Node → Type 0
Since i Q n = (let d = n.disk in i < d.inc) ⊎ ((let d = n.disk in i ≡ d.inc) × IsSoUp Q n.live)

-- the server won't run the call: it answers it with a refusal, or the object's binding is above the call's
abbrev pub IsPast : Call → Server → Type 0
IsPast c s = HasDone true (asked_by c.head) s ⊎ (binding_less c.binding (active_binding c.x s) ≡ true)

-- who was refused asked for a call that won't be run any more
pub record IsRefusal (sent : List Post) (n : ℕ) (m : Node) (a : Asked) : Type 0 where
  pub call : Call
  pub from : ℕ
  pub asked : IsAsked sent from n call
  pub same : asked_by call.head ≡ a
  pub past : Since call.inc (IsPast call) m

-- so it is of all who were refused
abbrev pub AreRefusals : List Post → ℕ → Node → Type 0
AreRefusals sent n m = (a : Asked) → IsRefused sent n a → IsRefusal sent n m a

-- the object has a copy under this binding or a greater one
abbrev pub HasReached : ℕ → Binding → Server → Type 0
HasReached x b s = (c : Copy) × (at_number x s.objects ≡ Some c) × (binding_less c.binding b ≡ false)

-- a call names an earlier incarnation of its server, or this one, in which the object has a copy there under the call's binding or a
-- greater one
abbrev pub HaveReached : List Post → ℕ → Node → Type 0
HaveReached sent n m = (from : ℕ) (c : Call) → IsAsked sent from n c → Since c.inc (HasReached c.x c.binding) m

-- two calls with one request are of one operation, on one object, under one binding and of one incarnation
abbrev pub AreOneCall : List Post → Type 0
AreOneCall sent = (from from2 to to2 : ℕ) (c e : Call) → IsAsked sent from to c → IsAsked sent from2 to2 e →
    asked_by c.head ≡ asked_by e.head → (c.x ≡ e.x) × (c.binding ≡ e.binding) × (c.inc ≡ e.inc) × (c.op ≡ e.op)
