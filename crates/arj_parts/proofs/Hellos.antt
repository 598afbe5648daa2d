-- Hellos to the other nodes, one behind the other.
use Rattle.std.proofs.Common.{◌≡◌, ◌==◌, ◌∙◌, ◌++◌, ◌∷◌, ℕ, suc, Bool, true, false, not, cond, List, [], map, sym, ap}
use Rattle.std.proofs.lemmas.List.{append-nil, append_assoc, map-append}
use Rattle.std.proofs.lemmas.List.Elements.{filter-append}
use Rattle.arj_node.specs.Outgoing.{effects_of}
use Rattle.arj_node.specs.declared.outgoing.Outgoing.{Outgoing}
use Rattle.arj_node.specs.declared.outgoing.Outgoing.TheVariants as of
use Rattle.arj_parts.proofs.Telling.{sent_one}
use Rattle.arj_protocol.specs.Effect.{Effect}
use Rattle.arj_protocol.specs.Order.{without_number}
use Rattle.arj_protocol.specs.Step.{hello_to, numbers_to}
use Rattle.arj_protocol.specs.Words.message

module _ (n inc : ℕ) where
  -- the hellos to these nodes
  abbrev pub hellos : List ℕ → List Effect
  hellos nodes = map (hello_to n inc) (without_number n nodes)

  one_by : (to : ℕ) (b : Bool) → (to == n) ≡ b → hellos (to ∷ []) ≡ cond (not b) (hello_to n inc to ∷ []) []
  one_by to true is = λ i. map (hello_to n inc) (cond (not (is i)) (to ∷ []) [])
  one_by to false is = λ i. map (hello_to n inc) (cond (not (is i)) (to ∷ []) [])

  pub no_hello : (to : ℕ) (a : List Outgoing) → (to == n) ≡ true → effects_of a ≡ effects_of a ++ hellos (to ∷ [])
  no_hello to a is = sym (append-nil (effects_of a)) ∙ ap (λ es. effects_of a ++ es) (sym (one_by to true is))

  pub one_hello : (to : ℕ) (a b : List Outgoing) → (to == n) ≡ false →
      b ≡ a ++ of.Send to (message.Hello (record { node = n; inc = inc })) ∷ [] → effects_of b ≡ effects_of a ++ hellos (to ∷ [])
  one_hello to a b is are =
      sent_one to (message.Hello (record { node = n; inc = inc })) a b are ∙ ap (λ es. effects_of a ++ es) (sym (one_by to false is))

  -- one node more
  more : (k : ℕ) → hellos (numbers_to k) ++ hellos (suc k ∷ []) ≡ hellos (numbers_to (suc k))
  more k = sym (ap (map (hello_to n inc)) (filter-append (λ m. not (m == n)) (numbers_to k) (suc k ∷ [])) ∙ map-append (hello_to n inc) (without_number n (numbers_to k)) (without_number n (suc k ∷ [])))

  pub next_hello : (k : ℕ) (a b c : List Outgoing) → effects_of b ≡ effects_of a ++ hellos (numbers_to k) →
      effects_of c ≡ effects_of b ++ hellos (suc k ∷ []) → effects_of c ≡ effects_of a ++ hellos (numbers_to (suc k))
  next_hello k a b c before is =
      is ∙ (ap (λ es. es ++ hellos (suc k ∷ [])) before ∙ (append_assoc (effects_of a) (hellos (numbers_to k)) (hellos (suc k ∷ [])) ∙ ap (λ es. effects_of a ++ es) (more k)))
