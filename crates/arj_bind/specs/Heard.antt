-- What a message is to the steps of a call, and what it leaves.
use Rattle.std.specs.Prelude.{ℕ, ◌+◌, Bool, false, ◌&&◌, ◌==◌, if◌then◌else◌, List, [], Option, Some, None, option_map, min}
use Rattle.arj_base.specs.declared.binding.Binding.{Binding}
use Rattle.arj_base.specs.declared.uid.Uid.{Uid}
use Rattle.arj_msg.specs.declared.message.Asked.{Asked}
use Rattle.arj_msg.specs.declared.message.BoundReply.{BoundReply}
use Rattle.arj_msg.specs.declared.message.BoundReply.TheVariants as bound
use Rattle.arj_msg.specs.declared.message.Message.{Message}
use Rattle.arj_protocol.specs.Ask.{Reply, answers, reply_kind, ask_kind}
use Rattle.arj_protocol.specs.Asking.{waits_for_call, keeps_after, is_ended, granted_by}
use Rattle.arj_protocol.specs.Call.{Known, Goal, At, AtBind, AtLoad, AtActivate, AtNote, AtInvoke, Steps, CallStep, CallEnd, Moved}
use Rattle.arj_protocol.specs.Call.{answered, given_up, has_changed, spoils, ask_at}
use Rattle.arj_protocol.specs.Call as call
use Rattle.arj_protocol.specs.Coord.{Keeping, Grant, is_call}
use Rattle.arj_bind.specs.Shown.{end_of}
use Rattle.arj_bind.specs.declared.step.CallStep.{CallStep as Taken}
use Rattle.arj_bind.specs.declared.step.CallStep.TheVariants as taken

-- the stores that an answer of naming tells with a binding
abbrev pub told_stores : BoundReply → List ℕ
told_stores (bound.Live b server i g stores) = stores
told_stores (bound.Make b server g stores) = stores
told_stores _ = []

-- the same of any answer
abbrev pub stores_of : Reply → List ℕ
stores_of (Reply.Bound r) = told_stores r
stores_of _ = []

-- the same of an answer, if there is one
abbrev pub stores_told : Option Reply → List ℕ
stores_told None = []
stores_told (Some r) = stores_of r

-- the answer that a message is
abbrev pub reply_in : Message → Option Reply
reply_in m = option_map (λ (e : Asked × Reply). e.1) (answers m)

-- the stores that a message tells with a binding
abbrev pub stores_in : Message → List ℕ
stores_in m = stores_told (reply_in m)

-- what the answer to the bind told
abbrev pub known_in : At → Option Known
known_in (AtBind avoid) = None
known_in (AtLoad k s rest) = Some k
known_in (AtActivate k st) = Some k
known_in (AtNote k i) = Some k
known_in (AtInvoke k i) = Some k

-- the binding of what is kept
abbrev pub binding_in : Option Known → Option Binding
binding_in None = None
binding_in (Some k) = Some k.binding

-- ---- messages

-- the answer, where the steps wait for it
abbrev pub awaited : ℕ → Steps → Option (Asked × Reply) → Option Reply
awaited from s None = None
awaited from s (Some e) = if waits_for_call from e.0 e.1 s then Some e.1 else None

-- what a message answers to the request that waits
abbrev pub heard_in : ℕ → Message → Steps → Option Reply
heard_in from m s = awaited from s (answers m)

-- the number of the request that an answer answers, where it is of the kind for which the step waits
abbrev pub req_of : ℕ → Goal → At → Option (Asked × Reply) → Option ℕ
req_of x g a None = None
req_of x g a (Some e) = if reply_kind e.1 == ask_kind (ask_at x g [] a) then Some (e.0.req) else None

-- this is the answer to the request of number `req` at `node`
abbrev pub is_awaited : Option ℕ → ℕ → ℕ → ℕ → Bool
is_awaited None req node from = false
is_awaited (Some asked) req node from = (req == asked) && (node == from)

-- the lock that an answer grants
abbrev pub granted_in : Uid → ℕ → Option (Asked × Reply) → Option Grant
granted_in top x None = None
granted_in top x (Some e) = granted_by top x e.1

-- ---- what follows

-- The steps go on, or they ended, or the message is none to them.
pub data Came : Type 0 where
  Onward : Steps → Came
  Ended : CallEnd → Came
  Foreign : Steps → Came

-- the same as the code has it
abbrev pub came_of : Taken → Came
came_of (taken.On s) = Onward s
came_of (taken.Ended e) = Ended (end_of e)
came_of (taken.Foreign s) = Foreign s

-- the number of the next request; the last one of 32 bits stands still
abbrev pub req_after : ℕ → ℕ
req_after n = min (n + 1) 4294967295

-- the steps go on to this one, with the next number
abbrev pub steps_at : Steps → At → Steps
steps_at s at = record s { req = req_after s.req; at = at }

-- what follows a step of the protocol
abbrev pub came_by : Steps → CallStep → Came
came_by s (call.On at) = Onward (steps_at s at)
came_by s (call.Ended e) = Ended e

-- what follows, and what the root keeps from then on
pub record Heard : Type 0 where
  pub came : Came
  pub keeping : Keeping

-- what follows, and the keeping with what is kept then
abbrev pub heard_as : Keeping → Steps → Moved → Heard
heard_as k s m = record { came = came_by s m.step; keeping = keeps_after s.goal (has_changed m.step) m.kept k }

-- after the answer that a message is, if it is one
abbrev pub hears : Bool → Keeping → Steps → Option Reply → Heard
hears free k s None = record { came = Foreign s; keeping = k }
hears free k s (Some r) = heard_as k s (answered free k.kept s.goal s.at r)

-- after a giveup
abbrev pub gives_up : Keeping → Steps → Heard
gives_up k s = record { came = came_by s (given_up s.at); keeping = keeps_after s.goal (is_ended (given_up s.at) && spoils s.at) k.kept k }

-- ---- keeping

-- what is left of a keeping while a call works on what is kept; an include leaves it
abbrev pub lent : Goal → Keeping → Keeping
lent g k = if is_call g then record k { kept = None } else k

-- what is kept, with another list of stores
abbrev pub with_list : Option Known → List ℕ → Option Known
with_list None stores = None
with_list (Some k) stores = Some (record k { stores = stores })
