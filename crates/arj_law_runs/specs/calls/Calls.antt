-- Calls as servers are asked to run them, and what was sent about them.
use Rattle.std.specs.Prelude.{◌≡◌, ◌⊎◌, ℕ, Bool, true, false, List, Option, Some, None, if◌then◌else◌, Contains}
use Rattle.arj_protocol.specs.Words.{Uid, Binding, Head, Asked, Ask, Op, Message, InvokedReply, asks}
use Rattle.arj_protocol.specs.Words.ask
use Rattle.arj_protocol.specs.Words.ending
use Rattle.arj_protocol.specs.Words.invoked
use Rattle.arj_protocol.specs.Ask.{Reply, answers}
use Rattle.arj_law_parts.specs.parts.Ends.{brought, told_by}
use Rattle.arj_law_parts.specs.moves.Seen.{In}
use Rattle.arj_promise.specs.Runs.{Post}

-- a call: who asks, the object, and under which binding in which incarnation of the server
pub record Call : Type 0 where
  pub head : Head
  pub x : ℕ
  pub binding : Binding
  pub inc : ℕ
  pub op : Op

-- the call that a request is, if it is one
abbrev pub call_in : Head → Ask → Option Call
call_in h (ask.Invoke x b i ends op) = Some (record { head = h; x = x; binding = b; inc = i; op = op })
call_in h _ = None

-- so it is of what a message asks
abbrev pub call_by : Option (Head × Ask) → Option Call
call_by None = None
call_by (Some a) = call_in a.0 a.1

-- the call that a message is, if it is one
abbrev pub call_of : Message → Option Call
call_of m = call_by (asks m)

-- one node asked another to run the call
pub record IsAsked (sent : List Post) (from to : ℕ) (c : Call) : Type 0 where
  pub message : Message
  pub posted : In (record { from = from; to = to; message = message }) sent
  pub call : call_of message ≡ Some c

-- an answer to a call, other than that it was done
abbrev pub is_refusal : InvokedReply → Bool
is_refusal (invoked.Answered a) = false
is_refusal _ = true

-- so it is of an answer of any kind
abbrev pub refuses : Reply → Bool
refuses (Reply.Invoked r) = is_refusal r
refuses _ = false

-- the request that an answer refuses
abbrev pub refused_by : Option (Asked × Reply) → Option Asked
refused_by None = None
refused_by (Some a) = if refuses a.1 then Some a.0 else None

-- the request that a message refuses, if it does
abbrev pub refusal_of : Message → Option Asked
refusal_of m = refused_by (answers m)

-- this node refused the request
pub record IsRefused (sent : List Post) (from : ℕ) (a : Asked) : Type 0 where
  pub to : ℕ
  pub message : Message
  pub posted : In (record { from = from; to = to; message = message }) sent
  pub refusal : refusal_of message ≡ Some a

-- a message says that the action committed
pub record IsSaidToCommit (sent : List Post) (u : Uid) : Type 0 where
  pub post : Post
  pub posted : In post sent
  pub said : Contains (brought post.message) (u, ending.Commit) ⊎ Contains (told_by post.message) (u, ending.Commit)
