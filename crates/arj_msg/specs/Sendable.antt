-- Of a message in form, what the types of code don't say: with this a message of code is in form.
use Rattle.std.specs.Prelude.{◌≤◌, length, ⊤}
use Rattle.arj_base.specs.declared.state.ObjectState.{ObjectState}
use Rattle.arj_class.specs.declared.op.Answer.{Answer}
use Rattle.arj_class.specs.declared.op.Answer.TheVariants as answered
use Rattle.arj_class.specs.declared.limits.TheConstants.{REGISTER_BYTES}
use Rattle.arj_class.specs.Forms.{OpInForm}
use Rattle.arj_msg.specs.State.{Restores}
use Rattle.arj_msg.specs.InForm.{IsNode, IsObject, AreFew, AreMany}
use Rattle.arj_msg.specs.declared.message.Message.{Message}
use Rattle.arj_msg.specs.declared.message.Message.TheVariants as of
use Rattle.arj_msg.specs.declared.message.BoundReply.{BoundReply}
use Rattle.arj_msg.specs.declared.message.BoundReply.TheVariants as bound_as
use Rattle.arj_msg.specs.declared.message.LoadedReply.{LoadedReply}
use Rattle.arj_msg.specs.declared.message.LoadedReply.TheVariants as loaded_as
use Rattle.arj_msg.specs.declared.message.InvokedReply.{InvokedReply}
use Rattle.arj_msg.specs.declared.message.InvokedReply.TheVariants as invoked_as
use Rattle.arj_msg.specs.declared.message.VotedReply.{VotedReply}
use Rattle.arj_msg.specs.declared.message.VotedReply.TheVariants as voted_as
use Rattle.arj_msg.specs.declared.message.PreparedReply.{PreparedReply}
use Rattle.arj_msg.specs.declared.message.PreparedReply.TheVariants as prepared_as
use Rattle.arj_msg.specs.declared.message.ConfirmedReply.{ConfirmedReply}
use Rattle.arj_msg.specs.declared.message.ConfirmedReply.TheVariants as confirmed_as

-- some value of its class that its format holds is saved to its payload
abbrev pub StateSends : ObjectState → Type 0
StateSends s = Restores s.format s.class s.payload

-- bytes are those of a register
abbrev pub AnswerSends : Answer → Type 0
AnswerSends (answered.Text bytes) = length bytes ≤ REGISTER_BYTES
AnswerSends _ = ⊤

-- a server and stores are nodes
abbrev pub BoundSends : BoundReply → Type 0
BoundSends (bound_as.Live binding server server_inc naming_inc stores) = IsNode server × AreFew IsNode stores
BoundSends (bound_as.Make binding server naming_inc stores) = IsNode server × AreFew IsNode stores
BoundSends (bound_as.Write naming_inc stores) = AreFew IsNode stores
BoundSends (bound_as.Conflict holder mode) = ⊤

-- a state restores
abbrev pub LoadedSends : LoadedReply → Type 0
LoadedSends (loaded_as.State state) = StateSends state
LoadedSends (loaded_as.InDoubt holder) = ⊤

-- an answer of an operation sends
abbrev pub InvokedSends : InvokedReply → Type 0
InvokedSends (invoked_as.Answered answer) = AnswerSends answer
InvokedSends _ = ⊤

-- at most 255 states, each restores
abbrev pub VotedSends : VotedReply → Type 0
VotedSends (voted_as.Yes states) = AreFew StateSends states
VotedSends (voted_as.Changed what) = ⊤

-- an object is one
abbrev pub PreparedSends : PreparedReply → Type 0
PreparedSends prepared_as.Yes = ⊤
PreparedSends (prepared_as.InDoubt x holder) = IsObject x
PreparedSends (prepared_as.Old x held) = IsObject x

-- an object is one, a node is one
abbrev pub ConfirmedSends : ConfirmedReply → Type 0
ConfirmedSends (confirmed_as.NoStores x) = IsObject x
ConfirmedSends (confirmed_as.Listed x node) = IsObject x × IsNode node
ConfirmedSends _ = ⊤

-- the table, kind by kind
abbrev pub IsSendable : Message → Type 0
IsSendable (of.Bind m) = IsObject m.x
IsSendable (of.Bound m) = BoundSends m.reply
IsSendable (of.Load m) = IsObject m.x
IsSendable (of.Loaded m) = LoadedSends m.reply
IsSendable (of.Activate m) = StateSends m.state
IsSendable (of.RecordMsg m) = IsObject m.x
IsSendable (of.Invoke m) = IsObject m.x × (length m.ends ≤ 255) × OpInForm m.op
IsSendable (of.Invoked m) = InvokedSends m.reply
IsSendable (of.Vote m) = AreFew (λ o. IsObject o.0) m.objects × (length m.ends ≤ 255)
IsSendable (of.Voted m) = VotedSends m.reply
IsSendable (of.Prepare m) = AreFew StateSends m.states
IsSendable (of.Prepared m) = PreparedSends m.reply
IsSendable (of.Confirm m) =
    AreFew (λ g. IsObject g.0) m.objects × AreMany (λ k. IsObject k.0 × IsNode k.1) m.excluded × AreMany (λ k. IsObject k.0 × IsNode k.1) m.included
IsSendable (of.Confirmed m) = ConfirmedSends m.reply
IsSendable (of.Told m) = length m.ends ≤ 255
IsSendable (of.Hello m) = IsNode m.node
IsSendable _ = ⊤
