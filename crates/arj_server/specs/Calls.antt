-- What a server does at each message, as the protocol has it, and the answers as messages.
use Rattle.std.specs.Prelude.{ℕ, ◌==◌, if◌then◌else◌, Option, Some, None}
use Rattle.arj_msg.specs.declared.message.Activate.{Activate}
use Rattle.arj_msg.specs.declared.message.Activated.{Activated}
use Rattle.arj_msg.specs.declared.message.Head.{Head}
use Rattle.arj_msg.specs.declared.message.Invoke.{Invoke}
use Rattle.arj_msg.specs.declared.message.Invoked.{Invoked}
use Rattle.arj_msg.specs.declared.message.InvokedReply.{InvokedReply}
use Rattle.arj_msg.specs.declared.message.Told.{Told}
use Rattle.arj_msg.specs.declared.message.Vote.{Vote}
use Rattle.arj_msg.specs.declared.message.Voted.{Voted}
use Rattle.arj_msg.specs.declared.message.VotedReply.{VotedReply}
use Rattle.arj_protocol.specs.Ask.{actor, asked_by}
use Rattle.arj_protocol.specs.Copy.{invoke_copy}
use Rattle.arj_protocol.specs.Effect.{Served, Did}
use Rattle.arj_protocol.specs.Order.{at_number, at_uid}
use Rattle.arj_protocol.specs.Server as server
use Rattle.arj_protocol.specs.Server.{Server, Kept}

-- each message as the call that it is, at node n
abbrev pub activated : ℕ → Activate → Server → Served Server ℕ
activated n m s = server.activate n m.head.path m.binding m.state s

-- an Invoke as the call that it is
abbrev pub invoked : ℕ → Invoke → Server → Served Server InvokedReply
invoked n m s = server.invoke n m.head m.x m.binding m.server_inc m.ends m.op s

-- a Vote
abbrev pub voted : ℕ → Vote → Server → Served Server VotedReply
voted n m s = server.vote n m.head.path m.server_inc m.objects m.ends s

-- a told
abbrev pub told : ℕ → Told → Server → Did Server
told n m s = server.told n m.ends s

-- each answer as the message that it is
abbrev pub activated_by : Head → ℕ → Activated
activated_by h inc = record { asked = asked_by h; server_inc = inc }

-- the answer to an Invoke
abbrev pub invoked_by : Head → InvokedReply → Invoked
invoked_by h r = record { asked = asked_by h; reply = r }

-- the answer to a Vote
abbrev pub voted_by : Head → VotedReply → Voted
voted_by h r = record { asked = asked_by h; reply = r }

-- an operation on the object's copy, without ends and without a kept answer
abbrev pub ran : ℕ → Invoke → Server → Served Server InvokedReply
ran n m s = server.on_copy m.x (invoke_copy n m.head.path m.x m.op) s (at_number m.x s.objects)

-- the answer that was kept, if this is the request that it answers
abbrev pub same_request : ℕ → Option Kept → Option InvokedReply
same_request req None = None
same_request req (Some k) = if k.req == req then Some k.answer else None

-- the answer that was kept for this request, if there is one
abbrev pub answer_kept : Head → Server → Option InvokedReply
answer_kept h s = same_request h.req (at_uid (actor h.path) s.kept)
