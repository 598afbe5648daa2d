-- Which messages are in form, kind by kind. That a number fits its bytes is said too: of numbers in code their types say
-- it.
use Rattle.std.specs.Prelude.{ℕ, ◌≤◌, ◌<◌, List, length, ⊤}
use Rattle.std.specs.List.{AllByRecursion}
use Rattle.arj_base.specs.declared.mode.End.{End}
use Rattle.arj_base.specs.declared.state.ObjectState.{ObjectState}
use Rattle.arj_base.specs.declared.uid.Uid.{Uid}
use Rattle.arj_base.specs.Path.{uids_of}
use Rattle.arj_base.specs.State.{StateInForm}
use Rattle.arj_base.specs.Uid.{UidFits}
use Rattle.arj_class.specs.declared.limits.TheConstants.{REGISTER_BYTES}
use Rattle.arj_class.specs.declared.op.Op.{Op}
use Rattle.arj_class.specs.declared.op.Op.TheVariants.{Get, Add, Set, Put, Deposit, Withdraw, Len, Push, Pop, GetKey, PutPair, Remove, Create}
use Rattle.arj_class.specs.declared.op.Op.TheVariants.{Destroy}
use Rattle.arj_class.specs.declared.op.Answer.{Answer}
use Rattle.arj_class.specs.declared.op.Answer.TheVariants as answered
use Rattle.arj_class.specs.Forms.{OpInForm}
use Rattle.arj_msg.specs.Fields.{BindingFits}
use Rattle.arj_msg.specs.State.{Restores}
use Rattle.arj_msg.specs.declared.message.Head.{Head}
use Rattle.arj_msg.specs.declared.message.Asked.{Asked}
use Rattle.arj_msg.specs.declared.message.Message.{Message}
use Rattle.arj_msg.specs.declared.message.Message.TheVariants as of
use Rattle.arj_msg.specs.declared.message.What.{What}
use Rattle.arj_msg.specs.declared.message.What.TheVariants as what
use Rattle.arj_msg.specs.declared.message.BoundReply.{BoundReply}
use Rattle.arj_msg.specs.declared.message.BoundReply.TheVariants as bound_as
use Rattle.arj_msg.specs.declared.message.LoadedReply.{LoadedReply}
use Rattle.arj_msg.specs.declared.message.LoadedReply.TheVariants as loaded_as
use Rattle.arj_msg.specs.declared.message.RecordedReply.{RecordedReply}
use Rattle.arj_msg.specs.declared.message.RecordedReply.TheVariants as recorded_as
use Rattle.arj_msg.specs.declared.message.InvokedReply.{InvokedReply}
use Rattle.arj_msg.specs.declared.message.InvokedReply.TheVariants as invoked_as
use Rattle.arj_msg.specs.declared.message.VotedReply.{VotedReply}
use Rattle.arj_msg.specs.declared.message.VotedReply.TheVariants as voted_as
use Rattle.arj_msg.specs.declared.message.PreparedReply.{PreparedReply}
use Rattle.arj_msg.specs.declared.message.PreparedReply.TheVariants as prepared_as
use Rattle.arj_msg.specs.declared.message.ConfirmedReply.{ConfirmedReply}
use Rattle.arj_msg.specs.declared.message.ConfirmedReply.TheVariants as confirmed_as

-- 1 to 16
abbrev pub IsNode : ℕ → Type 0
IsNode n = (1 ≤ n) × (n ≤ 16)

-- 1 to 256
abbrev pub IsObject : ℕ → Type 0
IsObject x = (1 ≤ x) × (x ≤ 256)

-- a number of four bytes
abbrev pub IsShort : ℕ → Type 0
IsShort n = n < 4294967296

-- a number of eight bytes
abbrev pub IsLong : ℕ → Type 0
IsLong n = n < 18446744073709551616

-- at most 255 items, each such
abbrev pub AreFew : {A : Type 0} → (A → Type 0) → List A → Type 0
AreFew P items = (length items ≤ 255) × AllByRecursion P items

-- fewer than 65,536 items, each such
abbrev pub AreMany : {A : Type 0} → (A → Type 0) → List A → Type 0
AreMany P items = (length items < 65536) × AllByRecursion P items

-- A path has 1 to 16 Uids and 1 or 2 tops by its type.
abbrev pub HeadFits : Head → Type 0
HeadFits h = AllByRecursion UidFits (uids_of h.path) × IsShort h.req

-- the Uid of who had asked and the request number fit their bytes
abbrev pub AskedFits : Asked → Type 0
AskedFits a = UidFits a.act × IsShort a.req

-- at most 255 ends, each of a Uid that fits its bytes
abbrev pub EndsFit : List (Uid × End) → Type 0
EndsFit ends = AreFew (λ e. UidFits e.0) ends

-- a state in form, whose payload restores in its class and format: that of an object, or of one that is gone
abbrev pub StateFits : ObjectState → Type 0
StateFits s = StateInForm s × Restores s.format s.class s.payload

-- numbers of an operation fit eight bytes, a register is put what it can hold, and what is created is there and in form
abbrev pub OpFits : Op → Type 0
OpFits Get = ⊤
OpFits (Add n) = IsLong n
OpFits (Set n) = IsLong n
OpFits (Put bytes) = length bytes ≤ REGISTER_BYTES
OpFits (Deposit n) = IsLong n
OpFits (Withdraw n) = IsLong n
OpFits Len = ⊤
OpFits (Push n) = IsLong n
OpFits Pop = ⊤
OpFits (GetKey k) = IsLong k
OpFits (PutPair k v) = IsLong k × IsLong v
OpFits (Remove k) = IsLong k
OpFits (Create v) = OpInForm (Create v)
OpFits Destroy = ⊤

-- a number that an operation answers fits eight bytes, and bytes are those of a register
abbrev pub AnswerFits : Answer → Type 0
AnswerFits (answered.Number n) = IsLong n
AnswerFits (answered.Text bytes) = length bytes ≤ REGISTER_BYTES
AnswerFits _ = ⊤

-- what an action had and what it met now, incarnations or bindings, fit their bytes
abbrev pub WhatFits : What → Type 0
WhatFits (what.Inc had now) = IsShort had × IsShort now
WhatFits (what.Bind had now) = BindingFits had × BindingFits now

-- of a reply to a Bind: bindings, incarnations and Uids fit, a server is a node, stores are few nodes
abbrev pub BoundFits : BoundReply → Type 0
BoundFits (bound_as.Live binding server server_inc naming_inc stores) =
    BindingFits binding × IsNode server × IsShort server_inc × IsShort naming_inc × AreFew IsNode stores
BoundFits (bound_as.Make binding server naming_inc stores) = BindingFits binding × IsNode server × IsShort naming_inc × AreFew IsNode stores
BoundFits (bound_as.Write naming_inc stores) = IsShort naming_inc × AreFew IsNode stores
BoundFits (bound_as.Conflict holder mode) = UidFits holder

-- of a reply to a Load: the state fits, or the Uid of the holder
abbrev pub LoadedFits : LoadedReply → Type 0
LoadedFits (loaded_as.State state) = StateFits state
LoadedFits (loaded_as.InDoubt holder) = UidFits holder

-- of a reply to a RecordMsg: what changed fits
abbrev pub RecordedFits : RecordedReply → Type 0
RecordedFits recorded_as.Yes = ⊤
RecordedFits (recorded_as.Changed what) = WhatFits what

-- of a reply to an Invoke: the answer of the operation fits, the Uid of the holder, or what changed
abbrev pub InvokedFits : InvokedReply → Type 0
InvokedFits (invoked_as.Answered answer) = AnswerFits answer
InvokedFits (invoked_as.Conflict holder mode) = UidFits holder
InvokedFits (invoked_as.Changed what) = WhatFits what

-- of a reply to a Vote: at most 255 states that fit, or what changed
abbrev pub VotedFits : VotedReply → Type 0
VotedFits (voted_as.Yes states) = AreFew StateFits states
VotedFits (voted_as.Changed what) = WhatFits what

-- of a reply to a Prepare: the object is one, and its holder or its held version fits
abbrev pub PreparedFits : PreparedReply → Type 0
PreparedFits prepared_as.Yes = ⊤
PreparedFits (prepared_as.InDoubt x holder) = IsObject x × UidFits holder
PreparedFits (prepared_as.Old x held) = IsObject x × IsLong held

-- of a reply to a Confirm: the holder fits, or what changed; an object is one, a node is one
abbrev pub ConfirmedFits : ConfirmedReply → Type 0
ConfirmedFits confirmed_as.Yes = ⊤
ConfirmedFits (confirmed_as.Conflict holder mode) = UidFits holder
ConfirmedFits (confirmed_as.Changed what) = WhatFits what
ConfirmedFits (confirmed_as.NoStores x) = IsObject x
ConfirmedFits (confirmed_as.Listed x node) = IsObject x × IsNode node

-- kind by kind: each field of the message is allowed, and fits its bytes
abbrev pub IsInForm : Message → Type 0
IsInForm (of.Bind m) = HeadFits m.head × IsObject m.x × BindingFits m.avoid
IsInForm (of.Bound m) = AskedFits m.asked × BoundFits m.reply
IsInForm (of.Load m) = HeadFits m.head × IsObject m.x
IsInForm (of.Loaded m) = AskedFits m.asked × LoadedFits m.reply
IsInForm (of.Activate m) = HeadFits m.head × BindingFits m.binding × StateFits m.state
IsInForm (of.Activated m) = AskedFits m.asked × IsShort m.server_inc
IsInForm (of.RecordMsg m) = HeadFits m.head × IsObject m.x × BindingFits m.binding × IsShort m.server_inc × IsShort m.naming_inc
IsInForm (of.Recorded m) = AskedFits m.asked × RecordedFits m.reply
IsInForm (of.Invoke m) = HeadFits m.head × IsObject m.x × BindingFits m.binding × IsShort m.server_inc × EndsFit m.ends × OpFits m.op
IsInForm (of.Invoked m) = AskedFits m.asked × InvokedFits m.reply
IsInForm (of.Vote m) = HeadFits m.head × IsShort m.server_inc × AreFew (λ o. IsObject o.0 × BindingFits o.1) m.objects × EndsFit m.ends
IsInForm (of.Voted m) = AskedFits m.asked × VotedFits m.reply
IsInForm (of.Prepare m) = HeadFits m.head × AreFew StateFits m.states
IsInForm (of.Prepared m) = AskedFits m.asked × PreparedFits m.reply
IsInForm (of.Confirm m) =
    HeadFits m.head × AreFew (λ g. IsObject g.0 × IsShort g.1) m.objects × AreMany (λ k. IsObject k.0 × IsNode k.1) m.excluded × AreMany (λ k. IsObject k.0 × IsNode k.1) m.included
IsInForm (of.Confirmed m) = AskedFits m.asked × ConfirmedFits m.reply
IsInForm (of.Told m) = UidFits m.root × EndsFit m.ends
IsInForm (of.Acked m) = UidFits m.act
IsInForm (of.Query m) = UidFits m.act
IsInForm (of.Hello m) = IsNode m.node × IsShort m.inc
