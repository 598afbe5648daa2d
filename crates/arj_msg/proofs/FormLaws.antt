-- A message is in form exactly where the table of its kind says so.
use Rattle.std.proofs.Common.{◌≡◌, ◌↔◌, ℕ, ◌≤◌, Bool, true, false, ◌&&◌, nat_le, List, [], ◌∷◌, length, refl, arith}
use Rattle.std.specs.Prelude.{min}
use Rattle.std.specs.List.{AllByRecursion}
use Rattle.std.proofs.lemmas.List.{length-take-le}
use Rattle.std.proofs.lemmas.Bool.{and_parts, leb-true, le-leb}
use Rattle.arj_base.specs.declared.binding.Binding.{Binding}
use Rattle.arj_base.specs.declared.mode.Mode.{Mode}
use Rattle.arj_base.specs.declared.mode.Mode.TheVariants as mode
use Rattle.arj_base.specs.declared.mode.End.{End}
use Rattle.arj_base.specs.declared.mode.End.TheVariants as end
use Rattle.arj_base.specs.declared.path.Path.{Path}
use Rattle.arj_base.specs.declared.state.ObjectState.{ObjectState}
use Rattle.arj_base.specs.declared.uid.Uid.{Uid}
use Rattle.arj_base.specs.Path.{uids_of, tops_of}
use Rattle.arj_base.specs.Uid.{UidFits}
use Rattle.arj_class.specs.declared.limits.TheConstants.{REGISTER_BYTES}
use Rattle.arj_class.specs.Forms.{OpInForm}
use Rattle.arj_class.specs.declared.value.Value.{Value}
use Rattle.arj_class.specs.declared.op.Op.{Op}
use Rattle.arj_class.specs.declared.op.Op.TheVariants as op
use Rattle.arj_class.specs.declared.op.Answer.{Answer}
use Rattle.arj_class.specs.declared.op.Answer.TheVariants as answered
use Rattle.arj_msg.specs.Format.{Format, between, byte, both, list, nothing}
use Rattle.arj_msg.specs.Fields.{node, object, number2, number4, number8, uid, binding, flag, mode as mode_form, outcome, ends, long_list}
use Rattle.arj_msg.specs.Fields.{BindingFits}
use Rattle.arj_msg.specs.State.{state, object_class, payload_in, value_there}
use Rattle.arj_msg.specs.Head.{path, head, asked}
use Rattle.arj_msg.specs.Operation.{operation, answer, text}
use Rattle.arj_msg.specs.Requests as ask
use Rattle.arj_msg.specs.Answers as tell
use Rattle.arj_msg.specs.Replies.{changed, bound_reply, loaded_reply, recorded_reply, invoked_reply, voted_reply, prepared_reply}
use Rattle.arj_msg.specs.Replies.{confirmed_reply}
use Rattle.arj_msg.specs.Layout.{message, MessageInForm, told, acked, query, hello}
use Rattle.arj_msg.specs.InForm.{IsNode, IsObject, IsShort, IsLong, AreFew, AreMany, HeadFits, AskedFits, EndsFit, StateFits, OpFits}
use Rattle.arj_msg.specs.InForm.{AnswerFits, WhatFits, BoundFits, LoadedFits, RecordedFits, InvokedFits, VotedFits, PreparedFits}
use Rattle.arj_msg.specs.InForm.{ConfirmedFits, IsInForm}
use Rattle.arj_msg.specs.declared.message.Head.{Head}
use Rattle.arj_msg.specs.declared.message.Asked.{Asked}
use Rattle.arj_msg.specs.declared.message.Message.{Message}
use Rattle.arj_msg.specs.declared.message.Message.TheVariants as of
use Rattle.arj_msg.specs.declared.message.What.{What}
use Rattle.arj_msg.specs.declared.message.What.TheVariants as what
use Rattle.arj_msg.specs.declared.message.BoundReply.{BoundReply}
use Rattle.arj_msg.specs.declared.message.BoundReply.TheVariants as bound_as
use Rattle.arj_msg.specs.declared.message.LoadedReply.{LoadedReply}
use Rattle.arj_msg.specs.declared.message.LoadedReply.TheVariants as loaded_as
use Rattle.arj_msg.specs.declared.message.RecordedReply.{RecordedReply}
use Rattle.arj_msg.specs.declared.message.RecordedReply.TheVariants as recorded_as
use Rattle.arj_msg.specs.declared.message.InvokedReply.{InvokedReply}
use Rattle.arj_msg.specs.declared.message.InvokedReply.TheVariants as invoked_as
use Rattle.arj_msg.specs.declared.message.VotedReply.{VotedReply}
use Rattle.arj_msg.specs.declared.message.VotedReply.TheVariants as voted_as
use Rattle.arj_msg.specs.declared.message.PreparedReply.{PreparedReply}
use Rattle.arj_msg.specs.declared.message.PreparedReply.TheVariants as prepared_as
use Rattle.arj_msg.specs.declared.message.ConfirmedReply.{ConfirmedReply}
use Rattle.arj_msg.specs.declared.message.ConfirmedReply.TheVariants as confirmed_as
use Rattle.arj_msg.proofs.ValueLaws.{there_coded, coded_there}

same : {P : Type 0} → P ↔ P
same = (λ p. p, λ p. p)

-- two facts side by side
two : {P Q R S : Type 0} → P ↔ Q → R ↔ S → (P × R) ↔ (Q × S)
two a b = (λ h. (a.0 h.0, b.0 h.1), λ h. (a.1 h.0, b.1 h.1))

-- a fact beside one that always holds
beside : {P Q R : Type 0} → R → P ↔ Q → (P × R) ↔ Q
beside r a = (λ h. a.0 h.0, λ q. (a.1 q, r))

after : {P Q R : Type 0} → R → P ↔ Q → (R × P) ↔ Q
after r a = (λ h. a.0 h.1, λ q. (r, a.1 q))

-- facts nested to the right, and flat
flat3 : {A B C P Q R : Type 0} → A ↔ P → B ↔ Q → C ↔ R → (A × (B × C)) ↔ (P × Q × R)
flat3 a b c = (λ h. (a.0 h.0, b.0 h.1.0, c.0 h.1.1), λ h. (a.1 h.0, (b.1 h.1, c.1 h.2)))

flat4 : {A B C D P Q R S : Type 0} → A ↔ P → B ↔ Q → C ↔ R → D ↔ S → (A × (B × (C × D))) ↔ (P × Q × R × S)
flat4 a b c d = (λ h. (a.0 h.0, b.0 h.1.0, c.0 h.1.1.0, d.0 h.1.1.1), λ h. (a.1 h.0, (b.1 h.1, (c.1 h.2, d.1 h.3))))

flat5 : {A B C D E P Q R S T : Type 0} → A ↔ P → B ↔ Q → C ↔ R → D ↔ S → E ↔ T → (A × (B × (C × (D × E)))) ↔ (P × Q × R × S × T)
flat5 a b c d e =
    (λ h. (a.0 h.0, b.0 h.1.0, c.0 h.1.1.0, d.0 h.1.1.1.0, e.0 h.1.1.1.1), λ h. (a.1 h.0, (b.1 h.1, (c.1 h.2, (d.1 h.3, e.1 h.4)))))

flat6 : {A B C D E F P Q R S T U : Type 0} → A ↔ P → B ↔ Q → C ↔ R → D ↔ S → E ↔ T → F ↔ U →
    (A × (B × (C × (D × (E × F))))) ↔ (P × Q × R × S × T × U)
flat6 a b c d e f =
    (λ h. (a.0 h.0, b.0 h.1.0, c.0 h.1.1.0, d.0 h.1.1.1.0, e.0 h.1.1.1.1.0, f.0 h.1.1.1.1.1), λ h. (a.1 h.0, (b.1 h.1, (c.1 h.2, (d.1 h.3, (e.1 h.4, f.1 h.5))))))

both_hold : (a b : Bool) → a ≡ true → b ≡ true → (a && b) ≡ true
both_hold true b x y = y
both_hold false b x y = x

within : (low high n : ℕ) → (between low high n ≡ true) ↔ ((low ≤ n) × (n ≤ high))
within low high n = (
  λ h. let p =
      and_parts (nat_le low n) (nat_le n high) h in (leb-true low n p.0, leb-true n high p.1),
  λ h. both_hold (nat_le low n) (nat_le n high) (le-leb low n h.0) (le-leb n high h.1),
)

every : {A : Type 0} (P Q : A → Type 0) → ((a : A) → P a ↔ Q a) → (xs : List A) → AllByRecursion P xs ↔ AllByRecursion Q xs
every P Q one [] = same
every P Q one (x ∷ xs) = two (one x) (every P Q one xs)

node_iff : (n : ℕ) → node.Fits n ↔ IsNode n
unfolding node byte
node_iff n = within 1 16 n

object_iff : (x : ℕ) → object.Fits x ↔ IsObject x
unfolding object
object_iff x = within 1 256 x

short_iff : (n : ℕ) → number4.Fits n ↔ IsShort n
unfolding number4
short_iff n = same

long_iff : (n : ℕ) → number8.Fits n ↔ IsLong n
unfolding number8
long_iff n = same

uid_iff : (u : Uid) → uid.Fits u ↔ UidFits u
unfolding uid
uid_iff u = same

binding_iff : (b : Binding) → binding.Fits b ↔ BindingFits b
unfolding binding
binding_iff b = same

state_iff : (s : ObjectState) → state.Fits s ↔ StateFits s
unfolding state
state_iff s = same

flag_fits : (b : Bool) → flag.Fits b
unfolding flag byte
flag_fits true = refl
flag_fits false = refl

mode_fits : (m : Mode) → mode_form.Fits m
unfolding mode_form byte
mode_fits mode.Read = refl
mode_fits mode.Exclude = refl
mode_fits mode.Write = refl

outcome_fits : (e : End) → outcome.Fits e
unfolding outcome byte
outcome_fits end.Abort = refl
outcome_fits end.Commit = refl

few_iff : {A : Type 0} (f : Format A) (Q : A → Type 0) → ((a : A) → f.Fits a ↔ Q a) → (xs : List A) → (list f).Fits xs ↔ AreFew Q xs
unfolding byte
few_iff f Q one xs =
    (λ h. (((within 0 255 (length xs)).0 h.0).1, (every f.Fits Q one xs).0 h.1.1), λ h. ((within 0 255 (length xs)).1 (omega arith, h.0), (refl, (every f.Fits Q one xs).1 h.1)))

many_iff : {A : Type 0} (f : Format A) (Q : A → Type 0) → ((a : A) → f.Fits a ↔ Q a) → (xs : List A) → (long_list f).Fits xs ↔ AreMany Q xs
unfolding number2
many_iff f Q one xs = (λ h. (h.0, (every f.Fits Q one xs).0 h.1.1), λ h. (h.0, (refl, (every f.Fits Q one xs).1 h.1)))

ends_iff : (es : List (Uid × End)) → ends.Fits es ↔ EndsFit es
ends_iff es = few_iff (both uid outcome) (λ e. UidFits e.0) (λ e. beside (outcome_fits e.1) (uid_iff e.0)) es

uids_long : (p : Path) → length (uids_of p) ≡ p.len
uids_long p = let most = p.most in let whole = p.whole in length-take-le p.len p.uids (omega (arith, most, whole))

pub path_counts : (p : Path) →
    (1 ≤ length (uids_of p)) × (length (uids_of p) ≤ 16) × (1 ≤ tops_of p) × (tops_of p ≤ 2) × (tops_of p ≤ length (uids_of p))
path_counts p = (
  let some = p.some in omega (arith, uids_long p, some),
  let most = p.most in omega (arith, uids_long p, most),
  p.one_top,
  p.two_tops,
  let inside = p.within in omega (arith, uids_long p, inside),
)

path_iff : (p : Path) → path.Fits p ↔ AllByRecursion UidFits (uids_of p)
unfolding path byte
path_iff p = (λ h. (every uid.Fits UidFits uid_iff (uids_of p)).0 h.1.0.1, λ h. ((within 1 16 (length (uids_of p))).1 count, ((refl, (every uid.Fits UidFits uid_iff (uids_of p)).1 h), (within 1 (min (length (uids_of p)) 2) (tops_of p)).1 tops)))
  where
    count : (1 ≤ length (uids_of p)) × (length (uids_of p) ≤ 16)
    count = (let some = p.some in omega (arith, uids_long p, some), let most = p.most in omega (arith, uids_long p, most))

    tops : (1 ≤ tops_of p) × (tops_of p ≤ min (length (uids_of p)) 2)
    tops = (p.one_top, let inside = p.within in let few = p.two_tops in omega (arith, uids_long p, inside, few))

head_iff : (h : Head) → head.Fits h ↔ HeadFits h
unfolding head
head_iff h = two (path_iff h.path) (short_iff h.req)

asked_iff : (a : Asked) → asked.Fits a ↔ AskedFits a
unfolding asked
asked_iff a = two (uid_iff a.act) (short_iff a.req)

text_iff : (bytes : List ℕ) → text.Fits bytes ↔ (length bytes ≤ REGISTER_BYTES)
unfolding text
text_iff bytes = same

there_iff : (v : Value) → value_there.Fits v ↔ OpInForm (op.Create v)
unfolding value_there object_class payload_in byte
there_iff v = (λ h. (h.1.1, there_coded v h.0), λ h. (coded_there v h.1, (refl, h.0)))

op_iff : (o : Op) → operation.Fits o ↔ OpFits o
unfolding operation nothing
op_iff op.Get = same
op_iff (op.Add n) = long_iff n
op_iff (op.Set n) = long_iff n
op_iff (op.Put bytes) = text_iff bytes
op_iff (op.Deposit n) = long_iff n
op_iff (op.Withdraw n) = long_iff n
op_iff op.Len = same
op_iff (op.Push n) = long_iff n
op_iff op.Pop = same
op_iff (op.GetKey k) = long_iff k
op_iff (op.PutPair k v) = two (long_iff k) (long_iff v)
op_iff (op.Remove k) = long_iff k
op_iff (op.Create v) = there_iff v
op_iff op.Destroy = same

answer_iff : (a : Answer) → answer.Fits a ↔ AnswerFits a
unfolding answer nothing
answer_iff answered.Done = same
answer_iff (answered.Number n) = long_iff n
answer_iff (answered.Text bytes) = text_iff bytes
answer_iff answered.Over = same
answer_iff answered.Short = same
answer_iff answered.Full = same
answer_iff answered.Nothing = same
answer_iff answered.There = same
answer_iff answered.Gone = same

what_iff : (w : What) → changed.Fits w ↔ WhatFits w
unfolding changed
what_iff (what.Inc had now) = two (short_iff had) (short_iff now)
what_iff (what.Bind had now) = two (binding_iff had) (binding_iff now)

bound_iff : (r : BoundReply) → bound_reply.Fits r ↔ BoundFits r
unfolding bound_reply
bound_iff (bound_as.Live b s si ni stores) =
    flat5 (binding_iff b) (node_iff s) (short_iff si) (short_iff ni) (few_iff node IsNode node_iff stores)
bound_iff (bound_as.Make b s ni stores) = flat4 (binding_iff b) (node_iff s) (short_iff ni) (few_iff node IsNode node_iff stores)
bound_iff (bound_as.Write ni stores) = two (short_iff ni) (few_iff node IsNode node_iff stores)
bound_iff (bound_as.Conflict holder m) = beside (mode_fits m) (uid_iff holder)

loaded_iff : (r : LoadedReply) → loaded_reply.Fits r ↔ LoadedFits r
unfolding loaded_reply
loaded_iff (loaded_as.State s) = state_iff s
loaded_iff (loaded_as.InDoubt holder) = uid_iff holder

recorded_iff : (r : RecordedReply) → recorded_reply.Fits r ↔ RecordedFits r
unfolding recorded_reply nothing
recorded_iff recorded_as.Yes = same
recorded_iff (recorded_as.Changed w) = what_iff w

invoked_iff : (r : InvokedReply) → invoked_reply.Fits r ↔ InvokedFits r
unfolding invoked_reply
invoked_iff (invoked_as.Answered a) = answer_iff a
invoked_iff (invoked_as.Conflict holder m) = beside (mode_fits m) (uid_iff holder)
invoked_iff (invoked_as.Changed w) = what_iff w

voted_iff : (r : VotedReply) → voted_reply.Fits r ↔ VotedFits r
unfolding voted_reply
voted_iff (voted_as.Yes states) = few_iff state StateFits state_iff states
voted_iff (voted_as.Changed w) = what_iff w

prepared_iff : (r : PreparedReply) → prepared_reply.Fits r ↔ PreparedFits r
unfolding prepared_reply nothing
prepared_iff prepared_as.Yes = same
prepared_iff (prepared_as.InDoubt x holder) = two (object_iff x) (uid_iff holder)
prepared_iff (prepared_as.Old x held) = two (object_iff x) (long_iff held)

confirmed_iff : (r : ConfirmedReply) → confirmed_reply.Fits r ↔ ConfirmedFits r
unfolding confirmed_reply nothing
confirmed_iff confirmed_as.Yes = same
confirmed_iff (confirmed_as.Conflict holder m) = beside (mode_fits m) (uid_iff holder)
confirmed_iff (confirmed_as.Changed w) = what_iff w
confirmed_iff (confirmed_as.NoStores x) = object_iff x
confirmed_iff (confirmed_as.Listed x n) = two (object_iff x) (node_iff n)

mark_iff : (k : ℕ × ℕ) → (object.Fits k.0 × node.Fits k.1) ↔ (IsObject k.0 × IsNode k.1)
mark_iff k = two (object_iff k.0) (node_iff k.1)

pub message_iff : (m : Message) → MessageInForm m ↔ IsInForm m
unfolding message ask.bind ask.load ask.activate ask.record_msg ask.invoke ask.vote ask.prepare ask.confirm tell.bound tell.loaded tell.activated tell.recorded tell.invoked tell.voted tell.prepared tell.confirmed told acked query hello
message_iff (of.Bind m) = flat3 (head_iff m.head) (object_iff m.x) (after (flag_fits m.include) (binding_iff m.avoid))
message_iff (of.Bound m) = two (asked_iff m.asked) (bound_iff m.reply)
message_iff (of.Load m) = two (head_iff m.head) (object_iff m.x)
message_iff (of.Loaded m) = two (asked_iff m.asked) (loaded_iff m.reply)
message_iff (of.Activate m) = flat3 (head_iff m.head) (binding_iff m.binding) (state_iff m.state)
message_iff (of.Activated m) = two (asked_iff m.asked) (short_iff m.server_inc)
message_iff (of.RecordMsg m) =
    flat5 (head_iff m.head) (object_iff m.x) (binding_iff m.binding) (short_iff m.server_inc) (short_iff m.naming_inc)
message_iff (of.Recorded m) = two (asked_iff m.asked) (recorded_iff m.reply)
message_iff (of.Invoke m) =
    flat6 (head_iff m.head) (object_iff m.x) (binding_iff m.binding) (short_iff m.server_inc) (ends_iff m.ends) (op_iff m.op)
message_iff (of.Invoked m) = two (asked_iff m.asked) (invoked_iff m.reply)
message_iff (of.Vote m) =
    flat4 (head_iff m.head) (short_iff m.server_inc) (few_iff (both object binding) (λ o. IsObject o.0 × BindingFits o.1) (λ o. two (object_iff o.0) (binding_iff o.1)) m.objects) (ends_iff m.ends)
message_iff (of.Voted m) = two (asked_iff m.asked) (voted_iff m.reply)
message_iff (of.Prepare m) = two (head_iff m.head) (few_iff state StateFits state_iff m.states)
message_iff (of.Prepared m) = two (asked_iff m.asked) (prepared_iff m.reply)
message_iff (of.Confirm m) =
    flat4 (head_iff m.head) (few_iff (both object number4) (λ g. IsObject g.0 × IsShort g.1) (λ g. two (object_iff g.0) (short_iff g.1)) m.objects) (many_iff (both object node) (λ k. IsObject k.0 × IsNode k.1) mark_iff m.excluded) (many_iff (both object node) (λ k. IsObject k.0 × IsNode k.1) mark_iff m.included)
message_iff (of.Confirmed m) = two (asked_iff m.asked) (confirmed_iff m.reply)
message_iff (of.Told m) = two (uid_iff m.root) (after (flag_fits m.ack) (ends_iff m.ends))
message_iff (of.Acked m) = uid_iff m.act
message_iff (of.Query m) = uid_iff m.act
message_iff (of.Hello m) = two (node_iff m.node) (short_iff m.inc)
