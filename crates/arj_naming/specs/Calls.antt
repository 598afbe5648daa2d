-- How messages to naming read as the protocol's arguments.
use Rattle.std.specs.Prelude.{◌≤◌, ◌==◌, ◌||◌, ℕ, Bool, map, filter, length, Option, Some, None}
use Rattle.std.specs.List.{AllByRecursion, list_any}
use Rattle.arj_base.specs.declared.mode.End.{End}
use Rattle.arj_base.specs.declared.uid.Uid.{Uid}
use Rattle.arj_naming.specs.Entries.{IsOnce}
use Rattle.arj_msg.specs.InForm.{IsNode}
use Rattle.arj_msg.specs.declared.message.Bind.{Bind}
use Rattle.arj_msg.specs.declared.message.Bound.{Bound}
use Rattle.arj_msg.specs.declared.message.Confirmed.{Confirmed}
use Rattle.arj_msg.specs.declared.message.Head.{Head}
use Rattle.arj_msg.specs.declared.message.Recorded.{Recorded}
use Rattle.arj_msg.specs.declared.message.BoundReply.{BoundReply}
use Rattle.arj_msg.specs.declared.message.RecordMsg.{RecordMsg}
use Rattle.arj_msg.specs.declared.message.RecordedReply.{RecordedReply}
use Rattle.arj_msg.specs.declared.message.Confirm.{Confirm}
use Rattle.arj_msg.specs.declared.message.ConfirmedReply.{ConfirmedReply}
use Rattle.arj_msg.specs.declared.message.Told.{Told}
use Rattle.arj_protocol.specs.Ask.{asked_by, last_end}
use Rattle.arj_protocol.specs.Confirm as protocol
use Rattle.arj_protocol.specs.Effect.{Pair, Served, Did, did_nothing}
use Rattle.arj_protocol.specs.Naming.{Naming, bind, note, told}

-- a Bind, as the protocol's call
abbrev pub bind_by : Bind → Pair → Naming → Served Naming BoundReply
bind_by m d n = bind m.head.path m.x m.include m.avoid d n

-- a Record
abbrev pub note_by : RecordMsg → Naming → Served Naming RecordedReply
note_by m n = note m.head.path m.x m.binding m.server_inc m.naming_inc n

-- a Confirm
abbrev pub confirm_by : Confirm → Pair → Naming → Served Naming ConfirmedReply
confirm_by m d n = protocol.confirm m.head.path m.objects m.excluded m.included d n

-- of a list of ends naming acts on the last one
abbrev pub told_last : Option (Uid × End) → Pair → Naming → Did Naming
told_last None d n = did_nothing n
told_last (Some e) d n = told e.0 e.1 d n

-- so of a told
abbrev pub told_by : Told → Pair → Naming → Did Naming
told_by m d n = told_last (last_end m.ends) d n

-- whether a Confirm excludes or includes a store at an object
abbrev pub is_marked : Confirm → ℕ → Bool
is_marked m x = list_any (λ (k : ℕ × ℕ). k.0 == x) m.excluded || list_any (λ (k : ℕ × ℕ). k.0 == x) m.included

-- A Confirm may be handled: its objects are few enough for one byte to count them, none at which it excludes or includes
-- a store stands twice, and what it includes are nodes.
pub record IsSingle (m : Confirm) : Type 0 where
  pub few : length m.objects ≤ 255
  pub once : IsOnce (map (λ (g : ℕ × ℕ). g.0) (filter (λ (g : ℕ × ℕ). is_marked m g.0) m.objects))
  pub nodes : AllByRecursion (λ (k : ℕ × ℕ). IsNode k.1) m.included

-- answers to who asked
abbrev pub bound_to : Head → BoundReply → Bound
bound_to h r = record { asked = asked_by h; reply = r }

-- the answer to a Record
abbrev pub recorded_to : Head → RecordedReply → Recorded
recorded_to h r = record { asked = asked_by h; reply = r }

-- the answer to a Confirm
abbrev pub confirmed_to : Head → ConfirmedReply → Confirmed
confirmed_to h r = record { asked = asked_by h; reply = r }
