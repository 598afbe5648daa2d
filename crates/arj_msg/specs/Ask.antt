-- Requests as who asks and what is asked.
use Rattle.std.specs.Prelude.{Option, Some, None}
use Rattle.arj_msg.specs.declared.ask.Ask.{Ask}
use Rattle.arj_msg.specs.declared.ask.Ask.TheVariants as ask
use Rattle.arj_msg.specs.declared.message.Head.{Head}
use Rattle.arj_msg.specs.declared.message.Message.{Message}
use Rattle.arj_msg.specs.declared.message.Message.TheVariants as of

-- the head and the request of a message, if it is one
abbrev pub asks : Message → Option (Head × Ask)
asks (of.Bind m) = Some (m.head, ask.Bind m.x m.include m.avoid)
asks (of.Load m) = Some (m.head, ask.Load m.x)
asks (of.Activate m) = Some (m.head, ask.Activate m.binding m.state)
asks (of.RecordMsg m) = Some (m.head, ask.Record m.x m.binding m.server_inc m.naming_inc)
asks (of.Invoke m) = Some (m.head, ask.Invoke m.x m.binding m.server_inc m.ends m.op)
asks (of.Vote m) = Some (m.head, ask.Vote m.server_inc m.objects m.ends)
asks (of.Prepare m) = Some (m.head, ask.Prepare m.states)
asks (of.Confirm m) = Some (m.head, ask.Confirm m.objects m.excluded m.included)
asks _ = None

-- a request as a message
abbrev pub request : Head → Ask → Message
request h (ask.Bind x include avoid) = of.Bind (record { head = h; x = x; include = include; avoid = avoid })
request h (ask.Load x) = of.Load (record { head = h; x = x })
request h (ask.Activate binding state) = of.Activate (record { head = h; binding = binding; state = state })
request h (ask.Record x binding server naming) =
    of.RecordMsg (record { head = h; x = x; binding = binding; server_inc = server; naming_inc = naming })
request h (ask.Invoke x binding server ends op) =
    of.Invoke (record { head = h; x = x; binding = binding; server_inc = server; ends = ends; op = op })
request h (ask.Vote server objects ends) = of.Vote (record { head = h; server_inc = server; objects = objects; ends = ends })
request h (ask.Prepare states) = of.Prepare (record { head = h; states = states })
request h (ask.Confirm objects excluded included) =
    of.Confirm (record { head = h; objects = objects; excluded = excluded; included = included })
