-- The laws of what is answered.
use Rattle.std.proofs.Common.{◌≡◌, refl, arith}
use Rattle.arj_msg.specs.declared.message.What.{What}
use Rattle.arj_msg.specs.declared.message.What.TheVariants as what
use Rattle.arj_msg.specs.declared.message.BoundReply.{BoundReply}
use Rattle.arj_msg.specs.declared.message.BoundReply.TheVariants as bound_as
use Rattle.arj_msg.specs.declared.message.LoadedReply.{LoadedReply}
use Rattle.arj_msg.specs.declared.message.LoadedReply.TheVariants as loaded_as
use Rattle.arj_msg.specs.declared.message.RecordedReply.{RecordedReply}
use Rattle.arj_msg.specs.declared.message.RecordedReply.TheVariants as recorded_as
use Rattle.arj_msg.specs.declared.message.InvokedReply.{InvokedReply}
use Rattle.arj_msg.specs.declared.message.InvokedReply.TheVariants as invoked_as
use Rattle.arj_msg.specs.declared.message.VotedReply.{VotedReply}
use Rattle.arj_msg.specs.declared.message.VotedReply.TheVariants as voted_as
use Rattle.arj_msg.specs.declared.message.PreparedReply.{PreparedReply}
use Rattle.arj_msg.specs.declared.message.PreparedReply.TheVariants as prepared_as
use Rattle.arj_msg.specs.declared.message.ConfirmedReply.{ConfirmedReply}
use Rattle.arj_msg.specs.declared.message.ConfirmedReply.TheVariants as confirmed_as
use Rattle.arj_msg.specs.Format.{made_by}
use Rattle.arj_msg.specs.Fields.{node, binding, mode}
use Rattle.arj_msg.specs.State.{state}
use Rattle.arj_msg.specs.Operation.{answer}
use Rattle.arj_msg.specs.Replies.{changed, changed_cases, changed_parts, bound_reply, bound_reply_cases, bound_reply_parts, loaded_reply}
use Rattle.arj_msg.specs.Replies.{loaded_reply_cases, loaded_reply_parts, recorded_reply, recorded_reply_cases, recorded_reply_parts}
use Rattle.arj_msg.specs.Replies.{invoked_reply, invoked_reply_cases, invoked_reply_parts, voted_reply, voted_reply_cases}
use Rattle.arj_msg.specs.Replies.{voted_reply_parts, prepared_reply, prepared_reply_cases, prepared_reply_parts, confirmed_reply}
use Rattle.arj_msg.specs.Replies.{confirmed_reply_cases, confirmed_reply_parts}
use Rattle.arj_msg.proofs.Laws.{Lawful}
use Rattle.arj_msg.proofs.FieldLaws.{node_lawful, object_lawful, number4_lawful, number8_lawful, binding_lawful, uid_lawful, mode_lawful}
use Rattle.arj_msg.proofs.FieldLaws.{both_lawful, list_lawful, nothing_lawful}
use Rattle.arj_msg.proofs.OperationLaws.{answer_lawful}
use Rattle.arj_msg.proofs.StateLaws.{state_lawful}
use Rattle.arj_msg.proofs.CaseLaws.{by_case, choice_lawful}

changed_back : (r : What) → made_by changed_cases (changed_parts r) ≡ r
changed_back (what.Inc had now) = refl
changed_back (what.Bind had now) = refl

pub changed_lawful : Lawful changed
unfolding changed
changed_lawful =
    choice_lawful 0 changed_cases changed_parts (omega arith) ((both_lawful number4_lawful number4_lawful), ((both_lawful binding_lawful binding_lawful), tt))
    (by_case changed_cases (λ s. changed_parts (made_by changed_cases s) ≡ s) ((λ p. refl), ((λ p. refl), tt))) changed_back

bound_reply_back : (r : BoundReply) → made_by bound_reply_cases (bound_reply_parts r) ≡ r
bound_reply_back (bound_as.Live binding server server_inc naming_inc stores) = refl
bound_reply_back (bound_as.Make binding server naming_inc stores) = refl
bound_reply_back (bound_as.Write naming_inc stores) = refl
bound_reply_back (bound_as.Conflict holder mode) = refl

pub bound_reply_lawful : Lawful bound_reply
unfolding bound_reply
bound_reply_lawful =
    choice_lawful 0 bound_reply_cases bound_reply_parts (omega arith) ((both_lawful binding_lawful (both_lawful node_lawful (both_lawful number4_lawful (both_lawful number4_lawful (list_lawful node_lawful))))), ((both_lawful binding_lawful (both_lawful node_lawful (both_lawful number4_lawful (list_lawful node_lawful)))), ((both_lawful number4_lawful (list_lawful node_lawful)), ((both_lawful uid_lawful mode_lawful), tt))))
    (by_case bound_reply_cases (λ s. bound_reply_parts (made_by bound_reply_cases s) ≡ s) ((λ p. refl), ((λ p. refl), ((λ p. refl), ((λ p. refl), tt))))) bound_reply_back

loaded_reply_back : (r : LoadedReply) → made_by loaded_reply_cases (loaded_reply_parts r) ≡ r
loaded_reply_back (loaded_as.State state) = refl
loaded_reply_back (loaded_as.InDoubt holder) = refl

pub loaded_reply_lawful : Lawful loaded_reply
unfolding loaded_reply
loaded_reply_lawful =
    choice_lawful 0 loaded_reply_cases loaded_reply_parts (omega arith) (state_lawful, (uid_lawful, tt))
    (by_case loaded_reply_cases (λ s. loaded_reply_parts (made_by loaded_reply_cases s) ≡ s) ((λ p. refl), ((λ p. refl), tt))) loaded_reply_back

recorded_reply_back : (r : RecordedReply) → made_by recorded_reply_cases (recorded_reply_parts r) ≡ r
recorded_reply_back recorded_as.Yes = refl
recorded_reply_back (recorded_as.Changed what) = refl

pub recorded_reply_lawful : Lawful recorded_reply
unfolding recorded_reply
recorded_reply_lawful =
    choice_lawful 0 recorded_reply_cases recorded_reply_parts (omega arith) (nothing_lawful, (changed_lawful, tt))
    (by_case recorded_reply_cases (λ s. recorded_reply_parts (made_by recorded_reply_cases s) ≡ s) ((λ p. refl), ((λ p. refl), tt))) recorded_reply_back

invoked_reply_back : (r : InvokedReply) → made_by invoked_reply_cases (invoked_reply_parts r) ≡ r
invoked_reply_back (invoked_as.Answered answer) = refl
invoked_reply_back (invoked_as.Conflict holder mode) = refl
invoked_reply_back (invoked_as.Changed what) = refl

pub invoked_reply_lawful : Lawful invoked_reply
unfolding invoked_reply
invoked_reply_lawful =
    choice_lawful 0 invoked_reply_cases invoked_reply_parts (omega arith) (answer_lawful, ((both_lawful uid_lawful mode_lawful), (changed_lawful, tt)))
    (by_case invoked_reply_cases (λ s. invoked_reply_parts (made_by invoked_reply_cases s) ≡ s) ((λ p. refl), ((λ p. refl), ((λ p. refl), tt)))) invoked_reply_back

voted_reply_back : (r : VotedReply) → made_by voted_reply_cases (voted_reply_parts r) ≡ r
voted_reply_back (voted_as.Yes states) = refl
voted_reply_back (voted_as.Changed what) = refl

pub voted_reply_lawful : Lawful voted_reply
unfolding voted_reply
voted_reply_lawful =
    choice_lawful 0 voted_reply_cases voted_reply_parts (omega arith) ((list_lawful state_lawful), (changed_lawful, tt))
    (by_case voted_reply_cases (λ s. voted_reply_parts (made_by voted_reply_cases s) ≡ s) ((λ p. refl), ((λ p. refl), tt))) voted_reply_back

prepared_reply_back : (r : PreparedReply) → made_by prepared_reply_cases (prepared_reply_parts r) ≡ r
prepared_reply_back prepared_as.Yes = refl
prepared_reply_back (prepared_as.InDoubt x holder) = refl
prepared_reply_back (prepared_as.Old x held) = refl

pub prepared_reply_lawful : Lawful prepared_reply
unfolding prepared_reply
prepared_reply_lawful =
    choice_lawful 0 prepared_reply_cases prepared_reply_parts (omega arith) (nothing_lawful, ((both_lawful object_lawful uid_lawful), ((both_lawful object_lawful number8_lawful), tt)))
    (by_case prepared_reply_cases (λ s. prepared_reply_parts (made_by prepared_reply_cases s) ≡ s) ((λ p. refl), ((λ p. refl), ((λ p. refl), tt)))) prepared_reply_back

confirmed_reply_back : (r : ConfirmedReply) → made_by confirmed_reply_cases (confirmed_reply_parts r) ≡ r
confirmed_reply_back confirmed_as.Yes = refl
confirmed_reply_back (confirmed_as.Conflict holder mode) = refl
confirmed_reply_back (confirmed_as.Changed what) = refl
confirmed_reply_back (confirmed_as.NoStores x) = refl
confirmed_reply_back (confirmed_as.Listed x node) = refl

pub confirmed_reply_lawful : Lawful confirmed_reply
unfolding confirmed_reply
confirmed_reply_lawful =
    choice_lawful 0 confirmed_reply_cases confirmed_reply_parts (omega arith) (nothing_lawful, ((both_lawful uid_lawful mode_lawful), (changed_lawful, (object_lawful, ((both_lawful object_lawful node_lawful), tt)))))
    (by_case confirmed_reply_cases (λ s. confirmed_reply_parts (made_by confirmed_reply_cases s) ≡ s) ((λ p. refl), ((λ p. refl), ((λ p. refl), ((λ p. refl), ((λ p. refl), tt)))))) confirmed_reply_back
