-- How long a message can be.
use Rattle.std.proofs.Common.{ℕ, ◌+◌, ◌*◌, ◌≤◌, suc, List, [], ◌∷◌, length, ap, arith, inl, inr}
use Rattle.std.specs.List.{flat_map, AllByRecursion}
use Rattle.std.proofs.lemmas.List.{length-append}
use Rattle.std.proofs.lemmas.List.Concat.{flat_map-cons}
use Rattle.arj_base.specs.Path.{uids_of}
use Rattle.arj_msg.specs.Format.{Format, Case, OneOf, spell_one, OneFits, choice, byte, both, shaped, list, nothing}
use Rattle.arj_msg.specs.Fields.{node, object, number2, number4, number8, binding, uid, flag, mode, outcome, ends, long_list}
use Rattle.arj_msg.specs.State.{state, object_class, payload_in, value_there}
use Rattle.arj_msg.specs.Operation.{text, operation, op_cases, op_parts, answer, answer_cases, answer_parts}
use Rattle.arj_msg.specs.Head.{path, path_parts, head, asked}
use Rattle.arj_msg.specs.Replies.{changed, changed_cases, changed_parts, bound_reply, bound_reply_cases, bound_reply_parts, loaded_reply}
use Rattle.arj_msg.specs.Replies.{loaded_reply_cases, loaded_reply_parts, recorded_reply, recorded_reply_cases, recorded_reply_parts}
use Rattle.arj_msg.specs.Replies.{invoked_reply, invoked_reply_cases, invoked_reply_parts, voted_reply, voted_reply_cases}
use Rattle.arj_msg.specs.Replies.{voted_reply_parts, prepared_reply, prepared_reply_cases, prepared_reply_parts, confirmed_reply}
use Rattle.arj_msg.specs.Replies.{confirmed_reply_cases, confirmed_reply_parts}
use Rattle.arj_msg.specs.Requests.{bind, load, activate, record_msg, invoke, vote, prepare, confirm}
use Rattle.arj_msg.specs.Answers.{bound, loaded, activated, recorded, invoked, voted, prepared, confirmed}
use Rattle.arj_msg.specs.Layout.{told, acked, query, hello, message, message_cases, message_parts}
use Rattle.arj_msg.proofs.FieldLaws.{between_le}
use Rattle.arj_msg.proofs.StateLaws.{state_short}
use Rattle.arj_msg.proofs.ValueLaws.{short_payload}

pub record AtMost {A : Type 0} (f : Format A) (n : ℕ) : Type 0 where
  pub most : (a : A) → f.Fits a → length (f.spell a) ≤ n

wider : {A : Type 0} {f : Format A} {n m : ℕ} → n ≤ m → AtMost f n → AtMost f m
wider le at = record { most = λ a fits. omega (arith, le, at.most a fits) }

both_most : {A B : Type 0} {f : Format A} {g : Format B} {n m : ℕ} → AtMost f n → AtMost g m → AtMost (both f g) (n + m)
both_most {f = f} {g = g} at_f at_g =
    record { most = λ p fits. omega (arith, length-append (f.spell p.0) (g.spell p.1), at_f.most p.0 fits.0, at_g.most p.1 fits.1) }

shaped_most : {A B : Type 0} (whole : A → B) (parts : B → A) {f : Format A} {n : ℕ} → AtMost f n → AtMost (shaped whole parts f) n
shaped_most whole parts at = record { most = λ b fits. at.most (parts b) fits }

-- no item of a list has more than 400 bytes
items_most : {A : Type 0} (f : Format A) → AtMost f 400 → (items : List A) → AllByRecursion f.Fits items →
    length (flat_map f.spell items) ≤ 400 * length items
items_most f at [] fits = omega arith
items_most f at (a ∷ items) fits =
    omega (arith, ap length (flat_map-cons f.spell a items), length-append (f.spell a) (flat_map f.spell items), at.most a fits.0, items_most f at items fits.1)

list_most : {A : Type 0} {f : Format A} → AtMost f 400 → AtMost (list f) 102001
unfolding byte
list_most {f = f} at =
    record { most = λ items fits. omega (arith, items_most f at items fits.1.1, (between_le 0 255 (length items) fits.0).1) }

long_list_most : {A : Type 0} {f : Format A} → AtMost f 400 → AtMost (long_list f) 26214002
unfolding number2
long_list_most {f = f} at = record { most = λ items fits. omega (arith, items_most f at items fits.1.1, fits.0) }

abbrev AllAtMost : {A : Type 0} → List (Case A) → ℕ → Type 0
AllAtMost [] n = Unit {0}
AllAtMost (c ∷ cases) n = AtMost c.form n × AllAtMost cases n

one_most : {A : Type 0} (cases : List (Case A)) (n : ℕ) → AllAtMost cases n → (s : OneOf cases) → OneFits cases s →
    length (spell_one cases s) ≤ n
one_most [] n all s fits = absurd s
one_most (c ∷ cases) n all (inl p) fits = all.0.most p fits
one_most (c ∷ cases) n all (inr s) fits = one_most cases n all.1 s fits

choice_most : {A : Type 0} (low : ℕ) (cases : List (Case A)) (parts : A → OneOf cases) (n : ℕ) → AllAtMost cases n →
    AtMost (choice low cases parts) (suc n)
choice_most low cases parts n all = record { most = λ a fits. omega (arith, one_most cases n all (parts a) fits) }

-- ---- the fields

nothing_most : AtMost nothing 0
unfolding nothing
nothing_most = record { most = λ a fits. omega arith }

node_most : AtMost node 1
unfolding node byte
node_most = record { most = λ a fits. omega arith }

object_most : AtMost object 2
unfolding object
object_most = record { most = λ a fits. omega arith }

number4_most : AtMost number4 4
unfolding number4
number4_most = record { most = λ a fits. omega arith }

number8_most : AtMost number8 8
unfolding number8
number8_most = record { most = λ a fits. omega arith }

binding_most : AtMost binding 8
unfolding binding
binding_most = record { most = λ a fits. omega arith }

uid_most : AtMost uid 16
unfolding uid
uid_most = record { most = λ a fits. omega arith }

flag_most : AtMost flag 1
unfolding flag byte
flag_most = record { most = λ a fits. omega arith }

mode_most : AtMost mode 1
unfolding mode byte
mode_most = record { most = λ a fits. omega arith }

outcome_most : AtMost outcome 1
unfolding outcome byte
outcome_most = record { most = λ a fits. omega arith }

text_most : AtMost text 193
unfolding text
text_most = record { most = λ bytes fits. omega (arith, fits) }

state_most : AtMost state 306
unfolding state
state_most = record { most = λ s fits. omega (arith, state_short s fits.1) }

ends_most : AtMost ends 102001
ends_most = list_most (wider (omega arith) (both_most uid_most outcome_most))

there_most : AtMost value_there 259
unfolding value_there object_class payload_in byte
there_most = record { most = λ v fits. omega (arith, short_payload v fits.1.1) }

operation_most : AtMost operation 260
unfolding operation
operation_most =
    choice_most 1 op_cases op_parts 259 (none, (number, (number, (wider (omega arith) text_most, (number, (number, (none, (number, (none, (number, (wider (omega arith) (both_most number8_most number8_most), (number, (there_most, (none, tt))))))))))))))
  where
    number : AtMost number8 259
    number = wider (omega arith) number8_most

    none : AtMost nothing 259
    none = wider (omega arith) nothing_most

answer_most : AtMost answer 194
unfolding answer
answer_most =
    choice_most 0 answer_cases answer_parts 193 (none, (wider (omega arith) number8_most, (text_most, (none, (none, (none, (none, (none, (none, tt)))))))))
  where
    none : AtMost nothing 193
    none = wider (omega arith) nothing_most

path_most : AtMost path 6500
unfolding path byte
path_most = record {
  most = λ p fits.
      let uids = items_most uid (wider (omega arith) uid_most) (uids_of p) fits.1.0.1 in
      omega (arith, uids, (between_le 1 16 (length (uids_of p)) fits.0).1, length-append (flat_map uid.spell (uids_of p)) ((path_parts p).1.1 ∷ []));
}

head_most : AtMost head 7000
unfolding head
head_most = shaped_most _ _ (wider (omega arith) (both_most path_most number4_most))

asked_most : AtMost asked 20
unfolding asked
asked_most = shaped_most _ _ (both_most uid_most number4_most)

-- ---- answers and messages

changed_most : AtMost changed 17
unfolding changed
changed_most =
    choice_most 0 changed_cases changed_parts 16 (wider (omega arith) (both_most number4_most number4_most), (wider (omega arith) (both_most binding_most binding_most), tt))

bound_reply_most : AtMost bound_reply 200000
unfolding bound_reply
bound_reply_most =
    choice_most 0 bound_reply_cases bound_reply_parts 199999 (wider (omega arith) (both_most binding_most (both_most node_most (both_most number4_most (both_most number4_most (list_most (wider (omega arith) node_most)))))), (wider (omega arith) (both_most binding_most (both_most node_most (both_most number4_most (list_most (wider (omega arith) node_most))))), (wider (omega arith) (both_most number4_most (list_most (wider (omega arith) node_most))), (wider (omega arith) (both_most uid_most mode_most), tt))))

loaded_reply_most : AtMost loaded_reply 200000
unfolding loaded_reply
loaded_reply_most =
    choice_most 0 loaded_reply_cases loaded_reply_parts 199999 (wider (omega arith) state_most, (wider (omega arith) uid_most, tt))

recorded_reply_most : AtMost recorded_reply 200000
unfolding recorded_reply
recorded_reply_most =
    choice_most 0 recorded_reply_cases recorded_reply_parts 199999 (wider (omega arith) nothing_most, (wider (omega arith) changed_most, tt))

invoked_reply_most : AtMost invoked_reply 200000
unfolding invoked_reply
invoked_reply_most =
    choice_most 0 invoked_reply_cases invoked_reply_parts 199999 (wider (omega arith) answer_most, (wider (omega arith) (both_most uid_most mode_most), (wider (omega arith) changed_most, tt)))

voted_reply_most : AtMost voted_reply 200000
unfolding voted_reply
voted_reply_most =
    choice_most 0 voted_reply_cases voted_reply_parts 199999 (wider (omega arith) (list_most (wider (omega arith) state_most)), (wider (omega arith) changed_most, tt))

prepared_reply_most : AtMost prepared_reply 200000
unfolding prepared_reply
prepared_reply_most =
    choice_most 0 prepared_reply_cases prepared_reply_parts 199999 (wider (omega arith) nothing_most, (wider (omega arith) (both_most object_most uid_most), (wider (omega arith) (both_most object_most number8_most), tt)))

confirmed_reply_most : AtMost confirmed_reply 200000
unfolding confirmed_reply
confirmed_reply_most =
    choice_most 0 confirmed_reply_cases confirmed_reply_parts 199999 (wider (omega arith) nothing_most, (wider (omega arith) (both_most uid_most mode_most), (wider (omega arith) changed_most, (wider (omega arith) object_most, (wider (omega arith) (both_most object_most node_most), tt)))))

bind_most : AtMost bind 60000000
unfolding bind
bind_most = shaped_most _ _ (wider (omega arith) (both_most head_most (both_most object_most (both_most flag_most binding_most))))

bound_most : AtMost bound 60000000
unfolding bound
bound_most = shaped_most _ _ (wider (omega arith) (both_most asked_most bound_reply_most))

load_most : AtMost load 60000000
unfolding load
load_most = shaped_most _ _ (wider (omega arith) (both_most head_most object_most))

loaded_most : AtMost loaded 60000000
unfolding loaded
loaded_most = shaped_most _ _ (wider (omega arith) (both_most asked_most loaded_reply_most))

activate_most : AtMost activate 60000000
unfolding activate
activate_most = shaped_most _ _ (wider (omega arith) (both_most head_most (both_most binding_most state_most)))

activated_most : AtMost activated 60000000
unfolding activated
activated_most = shaped_most _ _ (wider (omega arith) (both_most asked_most number4_most))

record_msg_most : AtMost record_msg 60000000
unfolding record_msg
record_msg_most =
    shaped_most _ _ (wider (omega arith) (both_most head_most (both_most object_most (both_most binding_most (both_most number4_most number4_most)))))

recorded_most : AtMost recorded 60000000
unfolding recorded
recorded_most = shaped_most _ _ (wider (omega arith) (both_most asked_most recorded_reply_most))

invoke_most : AtMost invoke 60000000
unfolding invoke
invoke_most =
    shaped_most _ _ (wider (omega arith) (both_most head_most (both_most object_most (both_most binding_most (both_most number4_most (both_most ends_most operation_most))))))

invoked_most : AtMost invoked 60000000
unfolding invoked
invoked_most = shaped_most _ _ (wider (omega arith) (both_most asked_most invoked_reply_most))

vote_most : AtMost vote 60000000
unfolding vote
vote_most = shaped_most _ _ (wider (omega arith) (both_most head_most (both_most number4_most (both_most (list_most (wider (omega arith) (both_most object_most binding_most))) ends_most))))

voted_most : AtMost voted 60000000
unfolding voted
voted_most = shaped_most _ _ (wider (omega arith) (both_most asked_most voted_reply_most))

prepare_most : AtMost prepare 60000000
unfolding prepare
prepare_most = shaped_most _ _ (wider (omega arith) (both_most head_most (list_most (wider (omega arith) state_most))))

prepared_most : AtMost prepared 60000000
unfolding prepared
prepared_most = shaped_most _ _ (wider (omega arith) (both_most asked_most prepared_reply_most))

confirm_most : AtMost confirm 60000000
unfolding confirm
confirm_most =
    shaped_most _ _ (wider (omega arith) (both_most head_most (both_most (list_most (wider (omega arith) (both_most object_most number4_most))) (both_most (long_list_most (wider (omega arith) (both_most object_most node_most))) (long_list_most (wider (omega arith) (both_most object_most node_most)))))))

confirmed_most : AtMost confirmed 60000000
unfolding confirmed
confirmed_most = shaped_most _ _ (wider (omega arith) (both_most asked_most confirmed_reply_most))

told_most : AtMost told 60000000
unfolding told
told_most = shaped_most _ _ (wider (omega arith) (both_most uid_most (both_most flag_most ends_most)))

acked_most : AtMost acked 60000000
unfolding acked
acked_most = shaped_most _ _ (wider (omega arith) uid_most)

query_most : AtMost query 60000000
unfolding query
query_most = shaped_most _ _ (wider (omega arith) uid_most)

hello_most : AtMost hello 60000000
unfolding hello
hello_most = shaped_most _ _ (wider (omega arith) (both_most node_most number4_most))

pub message_most : AtMost message 60000001
unfolding message
message_most =
    choice_most 1 message_cases message_parts 60000000 (bind_most, (bound_most, (load_most, (loaded_most, (activate_most, (activated_most, (record_msg_most, (recorded_most, (invoke_most, (invoked_most, (vote_most, (voted_most, (prepare_most, (prepared_most, (confirm_most, (confirmed_most, (told_most, (acked_most, (query_most, (hello_most, tt))))))))))))))))))))
