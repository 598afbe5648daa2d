-- What an operation on an active object came to.
use Rattle.std.specs.Prelude.{ℕ, List, [], Option, Some, None, Result, Ok, Err}
use Rattle.arj_base.specs.Path.{uids_of}
use Rattle.arj_base.specs.Rows.{last_uid}
use Rattle.arj_base.specs.Uid.{object}
use Rattle.arj_manager.specs.Ran.{grant_said}
use Rattle.arj_manager.specs.declared.fault.ManagerFault.{ManagerFault}
use Rattle.arj_manager.specs.declared.fault.ManagerFault.TheVariants as fault
use Rattle.arj_manager.specs.declared.ran.Ran.{Ran}
use Rattle.arj_msg.specs.declared.message.Invoke.{Invoke}
use Rattle.arj_msg.specs.declared.message.InvokedReply.{InvokedReply}
use Rattle.arj_msg.specs.declared.message.InvokedReply.TheVariants as invoked
use Rattle.arj_msg.specs.declared.message.What.TheVariants as what
use Rattle.arj_protocol.specs.Effect.{Effect}
use Rattle.arj_protocol.specs.Order.{unbound}

-- the line of its lock, where that was granted or rose
abbrev pub lines_of : ℕ → Invoke → Result (Option Ran) ManagerFault → List Effect
lines_of n m (Ok (Some ran)) = grant_said n (last_uid (uids_of m.head.path)) (object m.x) ran.granted
lines_of n m _ = []

-- what it is answered, where it is
abbrev pub reply_of : Result (Option Ran) ManagerFault → Option InvokedReply
reply_of (Ok (Some ran)) = Some (invoked.Answered ran.answer)
reply_of (Ok None) = Some (invoked.Changed (what.Bind unbound unbound))
reply_of (Err (fault.Conflict holder mode)) = Some (invoked.Conflict holder mode)
reply_of (Err fault.WrongOp) = None
reply_of (Err fault.Payload) = None
reply_of (Err fault.Memory) = None
