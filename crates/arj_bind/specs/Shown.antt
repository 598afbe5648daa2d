-- Goals, steps and ends of calls as the protocol has them.
use Rattle.std.specs.Prelude.{◌+◌, get_or, drop}
use Rattle.arj_protocol.specs.Call as call
use Rattle.arj_protocol.specs.Ask as ask
use Rattle.arj_bind.specs.declared.at.At.{At}
use Rattle.arj_bind.specs.declared.at.At.TheVariants as at
use Rattle.arj_bind.specs.declared.goal.CallEnd.{CallEnd}
use Rattle.arj_bind.specs.declared.goal.CallEnd.TheVariants as end
use Rattle.arj_bind.specs.declared.goal.Goal.{Goal}
use Rattle.arj_bind.specs.declared.goal.Goal.TheVariants as goal
use Rattle.arj_bind.specs.declared.moved.Moved.{Moved}
use Rattle.arj_bind.specs.declared.moved.Next.{Next}
use Rattle.arj_bind.specs.declared.moved.Next.TheVariants as next
use Rattle.arj_bind.specs.declared.reply.Reply.{Reply}
use Rattle.arj_bind.specs.declared.reply.Reply.TheVariants as reply

-- a goal
abbrev pub goal_of : Goal → call.Goal
goal_of (goal.Call o) = call.Run o
goal_of (goal.Include s) = call.Include s

-- an end
abbrev pub end_of : CallEnd → call.CallEnd
end_of (end.Answered a) = call.Answered a
end_of (end.Included s) = call.Included s
end_of (end.Conflict holder m n) = call.Conflict holder m n
end_of (end.Changed n w) = call.Changed n w
end_of (end.Lost n sent) = call.Lost n sent

-- a step; the stores behind the one that is asked are left
abbrev pub at_of : At → call.At
at_of (at.Bind s) = call.AtBind s.avoid
at_of (at.Load s) = call.AtLoad s.known (get_or s.known.stores s.place 0) (drop (s.place + 1) s.known.stores)
at_of (at.Activate s) = call.AtActivate s.known s.state
at_of (at.Record s) = call.AtNote s.known s.inc
at_of (at.Invoke s) = call.AtInvoke s.known s.inc

-- what follows
abbrev pub next_of : Next → call.CallStep
next_of (next.On a) = call.On (at_of a)
next_of (next.Ended e) = call.Ended (end_of e)

-- what follows with what is kept
abbrev pub moved_of : Moved → call.Moved
moved_of m = record { step = next_of m.next; kept = m.kept }

-- an answer
abbrev pub reply_of : Reply → ask.Reply
reply_of (reply.Bound r) = ask.Bound r
reply_of (reply.Loaded r) = ask.Loaded r
reply_of (reply.Activated i) = ask.Activated i
reply_of (reply.Recorded r) = ask.Noted r
reply_of (reply.Invoked r) = ask.Invoked r
