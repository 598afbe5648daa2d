-- The requests: the kind is one byte before each (`Message`); then a head, and the body.
use Rattle.arj_msg.specs.Format.{Format, both, shaped, list}
use Rattle.arj_msg.specs.Fields.{node, object, number4, binding, flag, ends, long_list}
use Rattle.arj_msg.specs.State.{state}
use Rattle.arj_msg.specs.Head.{head}
use Rattle.arj_msg.specs.Operation.{operation}
use Rattle.arj_msg.specs.declared.message.Bind.{Bind}
use Rattle.arj_msg.specs.declared.message.Load.{Load}
use Rattle.arj_msg.specs.declared.message.Activate.{Activate}
use Rattle.arj_msg.specs.declared.message.RecordMsg.{RecordMsg}
use Rattle.arj_msg.specs.declared.message.Invoke.{Invoke}
use Rattle.arj_msg.specs.declared.message.Vote.{Vote}
use Rattle.arj_msg.specs.declared.message.Prepare.{Prepare}
use Rattle.arj_msg.specs.declared.message.Confirm.{Confirm}

-- asks naming for a server, or an entry for an include: head, object, include or not, binding to avoid
unfoldable pub bind : Format Bind
bind = shaped (λ p. record {
  head = p.0;
  x = p.1.0;
  include = p.1.1.0;
  avoid =
      p.1.1.1;
}) (λ m. (m.head, (m.x, (m.include, m.avoid)))) (both head (both object (both flag binding)))

-- asks a store for the committed state of an object: head, object
unfoldable pub load : Format Load
load = shaped (λ p. record { head = p.0; x = p.1 }) (λ m. (m.head, m.x)) (both head object)

-- gives a server a copy of an object: head, binding, state
unfoldable pub activate : Format Activate
activate = shaped (λ p. record {
  head = p.0;
  binding = p.1.0;
  state =
      p.1.1;
}) (λ m. (m.head, (m.binding, m.state))) (both head (both binding state))

-- tells naming that a binding is in use: head, object, binding, incarnations of the server and of naming
unfoldable pub record_msg : Format RecordMsg
record_msg = shaped (λ p. record {
  head = p.0;
  x = p.1.0;
  binding = p.1.1.0;
  server_inc = p.1.1.1.0;
  naming_inc =
      p.1.1.1.1;
}) (λ m. (m.head, (m.x, (m.binding, (m.server_inc, m.naming_inc))))) (both head (both object (both binding (both number4 number4))))

-- asks a server for one operation: head, object, binding, server's incarnation, ends, operation
unfoldable pub invoke : Format Invoke
invoke = shaped (λ p. record {
  head = p.0;
  x = p.1.0;
  binding = p.1.1.0;
  server_inc = p.1.1.1.0;
  ends = p.1.1.1.1.0;
  op =
      p.1.1.1.1.1;
}) (λ m. (m.head, (m.x, (m.binding, (m.server_inc, (m.ends, m.op)))))) (both head (both object (both binding (both number4 (both ends operation)))))

-- asks a server for its vote: head, server's incarnation, objects with their bindings, ends
unfoldable pub vote : Format Vote
vote = shaped (λ p. record {
  head = p.0;
  server_inc = p.1.0;
  objects = p.1.1.0;
  ends =
      p.1.1.1;
}) (λ m. (m.head, (m.server_inc, (m.objects, m.ends)))) (both head (both number4 (both (list (both object binding)) ends)))

-- asks a store to prepare states: head, the states
unfoldable pub prepare : Format Prepare
prepare = shaped (λ p. record { head = p.0; states = p.1 }) (λ m. (m.head, m.states)) (both head (list state))

-- asks naming to confirm grants: head, objects with naming's incarnations, exclusions, inclusions
unfoldable pub confirm : Format Confirm
confirm = shaped (λ p. record {
  head = p.0;
  objects = p.1.0;
  excluded = p.1.1.0;
  included =
      p.1.1.1;
}) (λ m. (m.head, (m.objects, (m.excluded, m.included)))) (both head (both (list (both object number4)) (both (long_list (both object node)) (long_list (both object node)))))
