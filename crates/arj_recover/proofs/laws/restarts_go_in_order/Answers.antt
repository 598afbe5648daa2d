use Rattle.std.proofs.Common.{◌≡◌, ◌∙◌, ◌∷◌, ◌++◌, List, map, ap, append_assoc}
use Rattle.arj_protocol.specs.Effect.{Effect, Do, Look}
use Rattle.arj_protocol.specs.Node.{prepared_actions, query_about}
use Rattle.arj_protocol.specs.Order.{uid_set, without_number}
use Rattle.arj_protocol.specs.Step.{hello_to, naming_at, naming_back, numbers_to, recovered_records, tolds_again}
use Rattle.arj_recover.specs.Done.{begins_again}
use Rattle.arj_recover.proofs.laws.restarts_go_in_order.Goals as goal

-- six rows, each behind those before it
six : (a b c t q h : List Effect) → ((((a ++ b) ++ c) ++ t) ++ q) ++ h ≡ a ++ (b ++ (c ++ (t ++ (q ++ h))))
six a b c t q h =
    append_assoc (((a ++ b) ++ c) ++ t) q h ∙ (append_assoc ((a ++ b) ++ c) t (q ++ h) ∙ (append_assoc (a ++ b) c (t ++ (q ++ h)) ∙ append_assoc a b (c ++ (t ++ (q ++ h)))))

pub returns : goal.returns
returns c = λ hd n inc d. six (begins_again n inc) (naming_back (naming_at n inc d.names)) (Do Look ∷ recovered_records n d.intents) (tolds_again d.intents)
    (map query_about (uid_set (prepared_actions d.store ++ prepared_actions d.names))) (map (hello_to n inc) (without_number n (numbers_to hd.nodes)))
