-- A message in form is sendable.
use Rattle.std.proofs.Common.{List, [], ◌∷◌}
use Rattle.std.specs.List.{AllByRecursion}
use Rattle.arj_class.specs.Forms.{OpInForm}
use Rattle.arj_class.specs.declared.op.Op.{Op}
use Rattle.arj_class.specs.declared.op.Op.TheVariants as op
use Rattle.arj_class.specs.declared.op.Answer.{Answer}
use Rattle.arj_class.specs.declared.op.Answer.TheVariants as answered
use Rattle.arj_msg.specs.InForm.{IsObject, IsShort, AreFew, StateFits, OpFits, AnswerFits, BoundFits, LoadedFits, InvokedFits, VotedFits}
use Rattle.arj_msg.specs.InForm.{PreparedFits, ConfirmedFits, IsInForm}
use Rattle.arj_msg.specs.Fields.{BindingFits}
use Rattle.arj_msg.specs.Layout.{MessageInForm}
use Rattle.arj_msg.specs.Sendable.{StateSends, AnswerSends, BoundSends, LoadedSends, InvokedSends, VotedSends, PreparedSends}
use Rattle.arj_msg.specs.Sendable.{ConfirmedSends, IsSendable}
use Rattle.arj_msg.specs.declared.message.Message.{Message}
use Rattle.arj_msg.specs.declared.message.Message.TheVariants as of
use Rattle.arj_msg.specs.declared.message.BoundReply.{BoundReply}
use Rattle.arj_msg.specs.declared.message.BoundReply.TheVariants as bound_as
use Rattle.arj_msg.specs.declared.message.LoadedReply.{LoadedReply}
use Rattle.arj_msg.specs.declared.message.LoadedReply.TheVariants as loaded_as
use Rattle.arj_msg.specs.declared.message.InvokedReply.{InvokedReply}
use Rattle.arj_msg.specs.declared.message.InvokedReply.TheVariants as invoked_as
use Rattle.arj_msg.specs.declared.message.VotedReply.{VotedReply}
use Rattle.arj_msg.specs.declared.message.VotedReply.TheVariants as voted_as
use Rattle.arj_msg.specs.declared.message.PreparedReply.{PreparedReply}
use Rattle.arj_msg.specs.declared.message.PreparedReply.TheVariants as prepared_as
use Rattle.arj_msg.specs.declared.message.ConfirmedReply.{ConfirmedReply}
use Rattle.arj_msg.specs.declared.message.ConfirmedReply.TheVariants as confirmed_as
use Rattle.arj_msg.proofs.FormLaws.{message_iff}

all_weaker : {A : Type 0} (P Q : A → Type 0) → ((a : A) → P a → Q a) → (xs : List A) → AllByRecursion P xs → AllByRecursion Q xs
all_weaker P Q one [] all = all
all_weaker P Q one (x ∷ xs) all = (one x all.0, all_weaker P Q one xs all.1)

few_weaker : {A : Type 0} (P Q : A → Type 0) → ((a : A) → P a → Q a) → (xs : List A) → AreFew P xs → AreFew Q xs
few_weaker P Q one xs few = (few.0, all_weaker P Q one xs few.1)

op_sends : (o : Op) → OpFits o → OpInForm o
op_sends (op.Put bytes) fits = fits
op_sends op.Get fits = tt
op_sends (op.Add n) fits = tt
op_sends (op.Set n) fits = tt
op_sends (op.Deposit n) fits = tt
op_sends (op.Withdraw n) fits = tt
op_sends op.Len fits = tt
op_sends (op.Push n) fits = tt
op_sends op.Pop fits = tt
op_sends (op.GetKey k) fits = tt
op_sends (op.PutPair k v) fits = tt
op_sends (op.Remove k) fits = tt
op_sends (op.Create v) fits = fits
op_sends op.Destroy fits = tt

answer_sends : (a : Answer) → AnswerFits a → AnswerSends a
answer_sends answered.Done fits = tt
answer_sends (answered.Number n) fits = tt
answer_sends (answered.Text bytes) fits = fits
answer_sends answered.Over fits = tt
answer_sends answered.Short fits = tt
answer_sends answered.Full fits = tt
answer_sends answered.Nothing fits = tt
answer_sends answered.There fits = tt
answer_sends answered.Gone fits = tt

bound_sends : (r : BoundReply) → BoundFits r → BoundSends r
bound_sends (bound_as.Live b s si ni stores) fits = (fits.1, fits.4)
bound_sends (bound_as.Make b s ni stores) fits = (fits.1, fits.3)
bound_sends (bound_as.Write ni stores) fits = fits.1
bound_sends (bound_as.Conflict holder m) fits = tt

loaded_sends : (r : LoadedReply) → LoadedFits r → LoadedSends r
loaded_sends (loaded_as.State s) fits = fits.1
loaded_sends (loaded_as.InDoubt holder) fits = tt

invoked_sends : (r : InvokedReply) → InvokedFits r → InvokedSends r
invoked_sends (invoked_as.Answered a) fits = answer_sends a fits
invoked_sends (invoked_as.Conflict holder m) fits = tt
invoked_sends (invoked_as.Changed w) fits = tt

voted_sends : (r : VotedReply) → VotedFits r → VotedSends r
voted_sends (voted_as.Yes states) fits = few_weaker StateFits StateSends (λ s one. one.1) states fits
voted_sends (voted_as.Changed w) fits = tt

prepared_sends : (r : PreparedReply) → PreparedFits r → PreparedSends r
prepared_sends prepared_as.Yes fits = tt
prepared_sends (prepared_as.InDoubt x holder) fits = fits.0
prepared_sends (prepared_as.Old x held) fits = fits.0

confirmed_sends : (r : ConfirmedReply) → ConfirmedFits r → ConfirmedSends r
confirmed_sends confirmed_as.Yes fits = tt
confirmed_sends (confirmed_as.Conflict holder m) fits = tt
confirmed_sends (confirmed_as.Changed w) fits = tt
confirmed_sends (confirmed_as.NoStores x) fits = fits
confirmed_sends (confirmed_as.Listed x n) fits = fits

table_sends : (m : Message) → IsInForm m → IsSendable m
table_sends (of.Bind m) fits = fits.1
table_sends (of.Bound m) fits = bound_sends m.reply fits.1
table_sends (of.Load m) fits = fits.1
table_sends (of.Loaded m) fits = loaded_sends m.reply fits.1
table_sends (of.Activate m) fits = fits.2.1
table_sends (of.Activated m) fits = tt
table_sends (of.RecordMsg m) fits = fits.1
table_sends (of.Recorded m) fits = tt
table_sends (of.Invoke m) fits = (fits.1, fits.4.0, op_sends m.op fits.5)
table_sends (of.Invoked m) fits = invoked_sends m.reply fits.1
table_sends (of.Vote m) fits =
    (few_weaker (λ o. IsObject o.0 × BindingFits o.1) (λ o. IsObject o.0) (λ o one. one.0) m.objects fits.2, fits.3.0)
table_sends (of.Voted m) fits = voted_sends m.reply fits.1
table_sends (of.Prepare m) fits = few_weaker StateFits StateSends (λ s one. one.1) m.states fits.1
table_sends (of.Prepared m) fits = prepared_sends m.reply fits.1
table_sends (of.Confirm m) fits =
    (few_weaker (λ g. IsObject g.0 × IsShort g.1) (λ g. IsObject g.0) (λ g one. one.0) m.objects fits.1, fits.2, fits.3)
table_sends (of.Confirmed m) fits = confirmed_sends m.reply fits.1
table_sends (of.Told m) fits = fits.1.0
table_sends (of.Acked m) fits = tt
table_sends (of.Query m) fits = tt
table_sends (of.Hello m) fits = fits.0

pub in_form_sends : (m : Message) → MessageInForm m → IsSendable m
in_form_sends m fits = table_sends m ((message_iff m).0 fits)
