-- How a call ends by the answer to its Invoke.
use Rattle.std.specs.Prelude.{◌≡◌, ℕ, ⊤}
use Rattle.arj_msg.specs.declared.message.InvokedReply.{InvokedReply}
use Rattle.arj_msg.specs.declared.message.InvokedReply.TheVariants as invoked
use Rattle.arj_protocol.specs.Ask.{Reply}
use Rattle.arj_protocol.specs.Call.{CallEnd, Answered, Conflict, Changed}

-- how a call ends by what its server answers
abbrev pub invoked_end : ℕ → InvokedReply → CallEnd
invoked_end server (invoked.Answered a) = Answered a
invoked_end server (invoked.Conflict holder m) = Conflict holder m server
invoked_end server (invoked.Changed w) = Changed server w

-- the call ends so, if the answer is one to an Invoke
abbrev pub EndsInvoke : ℕ → CallEnd → Reply → Type 0
EndsInvoke server e (Reply.Invoked r) = e ≡ invoked_end server r
EndsInvoke server e _ = ⊤
