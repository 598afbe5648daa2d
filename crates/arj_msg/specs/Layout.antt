-- A message: its kind, from 1 to 20, in one byte, and what the kind says.
use Rattle.std.specs.Prelude.{◌≡◌, ◌≢◌, ◌≤◌, ℕ, List, [], ◌∷◌, ◌++◌, take, length, ⊤}
use Rattle.std.specs.List.{concat}
use Rattle.std.proofs.Common.{inl, inr}
use Rattle.arj_msg.specs.Format.{Format, both, shaped, Case, case, OneOf, choice}
use Rattle.arj_msg.specs.Fields.{node, number4, uid, flag, ends}
use Rattle.arj_msg.specs.Requests.{bind, load, activate, record_msg, invoke, vote, prepare, confirm}
use Rattle.arj_msg.specs.Answers.{bound, loaded, activated, recorded, invoked, voted, prepared, confirmed}
use Rattle.arj_msg.specs.declared.message.Told.{Told}
use Rattle.arj_msg.specs.declared.message.Acked.{Acked}
use Rattle.arj_msg.specs.declared.message.Query.{Query}
use Rattle.arj_msg.specs.declared.message.Hello.{Hello}
use Rattle.arj_msg.specs.declared.fault.MsgFault.{MsgFault}
use Rattle.arj_msg.specs.declared.fault.MsgFault.TheVariants as fault
use Rattle.arj_msg.specs.declared.message.Message.{Message}
use Rattle.arj_msg.specs.declared.message.Message.TheVariants as of

-- tells of ends: the root of the actions, whether an Acked is waited for, and the ends
unfoldable pub told : Format Told
told = shaped (λ p. record { root = p.0; ack = p.1.0; ends = p.1.1 }) (λ m. (m.root, (m.ack, m.ends))) (both uid (both flag ends))

-- a Told about this action has been heard: the Uid of the action
unfoldable pub acked : Format Acked
acked = shaped (λ p. record { act = p }) (λ m. m.act) uid

-- asks how an action ended: the Uid of the action
unfoldable pub query : Format Query
query = shaped (λ p. record { act = p }) (λ m. m.act) uid

-- a node is up again: the node, and its incarnation
unfoldable pub hello : Format Hello
hello = shaped (λ p. record { node = p.0; inc = p.1 }) (λ m. (m.node, m.inc)) (both node number4)

-- kinds 1 to 20: each of the eight requests with its answer behind it, then the four without such a head
abbrev pub message_cases : List (Case Message)
message_cases =
    case bind of.Bind ∷ case bound of.Bound
    ∷ case load of.Load ∷ case loaded of.Loaded
    ∷ case activate of.Activate ∷ case activated of.Activated
    ∷ case record_msg of.RecordMsg ∷ case recorded of.Recorded
    ∷ case invoke of.Invoke ∷ case invoked of.Invoked
    ∷ case vote of.Vote ∷ case voted of.Voted
    ∷ case prepare of.Prepare ∷ case prepared of.Prepared
    ∷ case confirm of.Confirm ∷ case confirmed of.Confirmed
    ∷ case told of.Told ∷ case acked of.Acked
    ∷ case query of.Query ∷ case hello of.Hello ∷ []

-- a message as one of the kinds, by its place among them
abbrev pub message_parts : Message → OneOf message_cases
message_parts (of.Bind m) = inl m
message_parts (of.Bound m) = inr (inl m)
message_parts (of.Load m) = inr (inr (inl m))
message_parts (of.Loaded m) = inr (inr (inr (inl m)))
message_parts (of.Activate m) = inr (inr (inr (inr (inl m))))
message_parts (of.Activated m) = inr (inr (inr (inr (inr (inl m)))))
message_parts (of.RecordMsg m) = inr (inr (inr (inr (inr (inr (inl m))))))
message_parts (of.Recorded m) = inr (inr (inr (inr (inr (inr (inr (inl m)))))))
message_parts (of.Invoke m) = inr (inr (inr (inr (inr (inr (inr (inr (inl m))))))))
message_parts (of.Invoked m) = inr (inr (inr (inr (inr (inr (inr (inr (inr (inl m)))))))))
message_parts (of.Vote m) = inr (inr (inr (inr (inr (inr (inr (inr (inr (inr (inl m))))))))))
message_parts (of.Voted m) = inr (inr (inr (inr (inr (inr (inr (inr (inr (inr (inr (inl m)))))))))))
message_parts (of.Prepare m) = inr (inr (inr (inr (inr (inr (inr (inr (inr (inr (inr (inr (inl m))))))))))))
message_parts (of.Prepared m) = inr (inr (inr (inr (inr (inr (inr (inr (inr (inr (inr (inr (inr (inl m)))))))))))))
message_parts (of.Confirm m) = inr (inr (inr (inr (inr (inr (inr (inr (inr (inr (inr (inr (inr (inr (inl m))))))))))))))
message_parts (of.Confirmed m) = inr (inr (inr (inr (inr (inr (inr (inr (inr (inr (inr (inr (inr (inr (inr (inl m)))))))))))))))
message_parts (of.Told m) = inr (inr (inr (inr (inr (inr (inr (inr (inr (inr (inr (inr (inr (inr (inr (inr (inl m))))))))))))))))
message_parts (of.Acked m) = inr (inr (inr (inr (inr (inr (inr (inr (inr (inr (inr (inr (inr (inr (inr (inr (inr (inl m)))))))))))))))))
message_parts (of.Query m) =
    inr (inr (inr (inr (inr (inr (inr (inr (inr (inr (inr (inr (inr (inr (inr (inr (inr (inr (inl m))))))))))))))))))
message_parts (of.Hello m) =
    inr (inr (inr (inr (inr (inr (inr (inr (inr (inr (inr (inr (inr (inr (inr (inr (inr (inr (inr (inl m)))))))))))))))))))

-- a message: its kind in one byte, from 1 to 20, and what is behind it
unfoldable pub message : Format Message
message = choice 1 message_cases message_parts

-- ---- what the contracts speak of

-- the one spelling of a message
abbrev pub message_bytes : Message → List ℕ
message_bytes m = message.spell m

-- the fields of that spelling, in order
abbrev pub message_fields : Message → List (List ℕ)
message_fields m = message.fields m

-- a message in form: nodes 1 to 16, objects 1 to 256, counts that fit their bytes, at most 192 bytes of a register,
-- states whose payload restores in a class of objects or says that one is gone
abbrev pub MessageInForm : Message → Type 0
MessageInForm m = message.Fits m

-- the first k fields of a message, one behind the other
abbrev pub front : Message → ℕ → List ℕ
front m k = concat (take k (message_fields m))

-- The bytes are no message. Those before place p are the first fields of some message in form, and no more of them
-- are the first fields of any.
pub record IsFaultAt (bytes : List ℕ) (p : ℕ) : Type 0 where
  pub none : (m : Message) → MessageInForm m → message_bytes m ≢ bytes
  pub like : Message
  pub in_form : MessageInForm like
  pub count : ℕ
  pub rest : List ℕ
  pub parts : bytes ≡ front like count ++ rest
  pub here : length (front like count) ≡ p
  pub furthest : (m : Message) (k : ℕ) (more : List ℕ) → MessageInForm m → bytes ≡ front m k ++ more → length (front m k) ≤ p

-- what a fault says of the bytes: one of memory says nothing, one at a place that they fail there
abbrev pub FaultOf : List ℕ → MsgFault → Type 0
FaultOf bytes fault.Memory = ⊤
FaultOf bytes (fault.At p) = IsFaultAt bytes p
