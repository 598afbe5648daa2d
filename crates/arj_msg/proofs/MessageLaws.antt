-- The laws of messages.
use Rattle.std.proofs.Common.{◌≡◌, refl, arith}
use Rattle.arj_msg.specs.declared.message.Message.{Message}
use Rattle.arj_msg.specs.declared.message.Message.TheVariants as of
use Rattle.arj_msg.specs.Format.{made_by}
use Rattle.arj_msg.specs.Requests.{bind, load, activate, record_msg, invoke, vote, prepare, confirm}
use Rattle.arj_msg.specs.Answers.{bound, loaded, activated, recorded, invoked, voted, prepared, confirmed}
use Rattle.arj_msg.specs.Layout.{told, acked, query, hello, message, message_cases, message_parts}
use Rattle.arj_msg.proofs.Laws.{Lawful, shaped_lawful}
use Rattle.arj_msg.proofs.FieldLaws.{node_lawful, object_lawful, number4_lawful, binding_lawful, uid_lawful, flag_lawful, ends_lawful}
use Rattle.arj_msg.proofs.FieldLaws.{both_lawful, list_lawful, long_list_lawful}
use Rattle.arj_msg.proofs.OperationLaws.{operation_lawful}
use Rattle.arj_msg.proofs.StateLaws.{state_lawful}
use Rattle.arj_msg.proofs.HeadLaws.{head_lawful, asked_lawful}
use Rattle.arj_msg.proofs.ReplyLaws.{bound_reply_lawful, loaded_reply_lawful, recorded_reply_lawful, invoked_reply_lawful}
use Rattle.arj_msg.proofs.ReplyLaws.{voted_reply_lawful, prepared_reply_lawful, confirmed_reply_lawful}
use Rattle.arj_msg.proofs.CaseLaws.{by_case, choice_lawful}

bind_lawful : Lawful bind
unfolding bind
bind_lawful =
    shaped_lawful _ _ (both_lawful head_lawful (both_lawful object_lawful (both_lawful flag_lawful binding_lawful))) (λ p fits. refl) (λ m fits. refl)

bound_lawful : Lawful bound
unfolding bound
bound_lawful = shaped_lawful _ _ (both_lawful asked_lawful bound_reply_lawful) (λ p fits. refl) (λ m fits. refl)

load_lawful : Lawful load
unfolding load
load_lawful = shaped_lawful _ _ (both_lawful head_lawful object_lawful) (λ p fits. refl) (λ m fits. refl)

loaded_lawful : Lawful loaded
unfolding loaded
loaded_lawful = shaped_lawful _ _ (both_lawful asked_lawful loaded_reply_lawful) (λ p fits. refl) (λ m fits. refl)

activate_lawful : Lawful activate
unfolding activate
activate_lawful = shaped_lawful _ _ (both_lawful head_lawful (both_lawful binding_lawful state_lawful)) (λ p fits. refl) (λ m fits. refl)

activated_lawful : Lawful activated
unfolding activated
activated_lawful = shaped_lawful _ _ (both_lawful asked_lawful number4_lawful) (λ p fits. refl) (λ m fits. refl)

record_msg_lawful : Lawful record_msg
unfolding record_msg
record_msg_lawful =
    shaped_lawful _ _ (both_lawful head_lawful (both_lawful object_lawful (both_lawful binding_lawful (both_lawful number4_lawful number4_lawful)))) (λ p fits. refl) (λ m fits. refl)

recorded_lawful : Lawful recorded
unfolding recorded
recorded_lawful = shaped_lawful _ _ (both_lawful asked_lawful recorded_reply_lawful) (λ p fits. refl) (λ m fits. refl)

invoke_lawful : Lawful invoke
unfolding invoke
invoke_lawful =
    shaped_lawful _ _ (both_lawful head_lawful (both_lawful object_lawful (both_lawful binding_lawful (both_lawful number4_lawful (both_lawful ends_lawful operation_lawful))))) (λ p fits. refl) (λ m fits. refl)

invoked_lawful : Lawful invoked
unfolding invoked
invoked_lawful = shaped_lawful _ _ (both_lawful asked_lawful invoked_reply_lawful) (λ p fits. refl) (λ m fits. refl)

vote_lawful : Lawful vote
unfolding vote
vote_lawful =
    shaped_lawful _ _ (both_lawful head_lawful (both_lawful number4_lawful (both_lawful (list_lawful (both_lawful object_lawful binding_lawful)) ends_lawful))) (λ p fits. refl) (λ m fits. refl)

voted_lawful : Lawful voted
unfolding voted
voted_lawful = shaped_lawful _ _ (both_lawful asked_lawful voted_reply_lawful) (λ p fits. refl) (λ m fits. refl)

prepare_lawful : Lawful prepare
unfolding prepare
prepare_lawful = shaped_lawful _ _ (both_lawful head_lawful (list_lawful state_lawful)) (λ p fits. refl) (λ m fits. refl)

prepared_lawful : Lawful prepared
unfolding prepared
prepared_lawful = shaped_lawful _ _ (both_lawful asked_lawful prepared_reply_lawful) (λ p fits. refl) (λ m fits. refl)

confirm_lawful : Lawful confirm
unfolding confirm
confirm_lawful =
    shaped_lawful _ _ (both_lawful head_lawful (both_lawful (list_lawful (both_lawful object_lawful number4_lawful)) (both_lawful (long_list_lawful (both_lawful object_lawful node_lawful)) (long_list_lawful (both_lawful object_lawful node_lawful))))) (λ p fits. refl) (λ m fits. refl)

confirmed_lawful : Lawful confirmed
unfolding confirmed
confirmed_lawful = shaped_lawful _ _ (both_lawful asked_lawful confirmed_reply_lawful) (λ p fits. refl) (λ m fits. refl)

told_lawful : Lawful told
unfolding told
told_lawful = shaped_lawful _ _ (both_lawful uid_lawful (both_lawful flag_lawful ends_lawful)) (λ p fits. refl) (λ m fits. refl)

acked_lawful : Lawful acked
unfolding acked
acked_lawful = shaped_lawful _ _ uid_lawful (λ p fits. refl) (λ m fits. refl)

query_lawful : Lawful query
unfolding query
query_lawful = shaped_lawful _ _ uid_lawful (λ p fits. refl) (λ m fits. refl)

hello_lawful : Lawful hello
unfolding hello
hello_lawful = shaped_lawful _ _ (both_lawful node_lawful number4_lawful) (λ p fits. refl) (λ m fits. refl)

message_back : (m : Message) → made_by message_cases (message_parts m) ≡ m
message_back (of.Bind m) = refl
message_back (of.Bound m) = refl
message_back (of.Load m) = refl
message_back (of.Loaded m) = refl
message_back (of.Activate m) = refl
message_back (of.Activated m) = refl
message_back (of.RecordMsg m) = refl
message_back (of.Recorded m) = refl
message_back (of.Invoke m) = refl
message_back (of.Invoked m) = refl
message_back (of.Vote m) = refl
message_back (of.Voted m) = refl
message_back (of.Prepare m) = refl
message_back (of.Prepared m) = refl
message_back (of.Confirm m) = refl
message_back (of.Confirmed m) = refl
message_back (of.Told m) = refl
message_back (of.Acked m) = refl
message_back (of.Query m) = refl
message_back (of.Hello m) = refl

pub message_lawful : Lawful message
unfolding message
message_lawful =
    choice_lawful 1 message_cases message_parts (omega arith)
    (bind_lawful, (bound_lawful, (load_lawful, (loaded_lawful, (activate_lawful, (activated_lawful, (record_msg_lawful, (recorded_lawful, (invoke_lawful, (invoked_lawful, (vote_lawful, (voted_lawful, (prepare_lawful, (prepared_lawful, (confirm_lawful, (confirmed_lawful, (told_lawful, (acked_lawful, (query_lawful, (hello_lawful, tt))))))))))))))))))))
    (by_case message_cases (λ s. message_parts (made_by message_cases s) ≡ s)
    ((λ m. refl), ((λ m. refl), ((λ m. refl), ((λ m. refl), ((λ m. refl), ((λ m. refl), ((λ m. refl), ((λ m. refl), ((λ m. refl), ((λ m. refl), ((λ m. refl), ((λ m. refl), ((λ m. refl), ((λ m. refl), ((λ m. refl), ((λ m. refl), ((λ m. refl), ((λ m. refl), ((λ m. refl), ((λ m. refl), tt)))))))))))))))))))))
    message_back
