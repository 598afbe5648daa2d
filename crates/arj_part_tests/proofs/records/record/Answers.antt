use Rattle.std.proofs.Common.{◌≡◌, ◌∙◌, ◌<◌, ℕ, List, [], ◌∷◌, ◌++◌, arith, length, refl, sym, ap, subst}
use Rattle.std.specs.List.Sorted.{IsStrictlySortedBy}
use Rattle.std.specs.Ordering.{nat_cmp}
use Rattle.arj_base.specs.declared.uid.Uid.{Uid}
use Rattle.arj_intent.specs.Records.{IsInForm}
use Rattle.arj_part_tests.proofs.records.record.Goals as goal

made : (root top : Uid) (nodes wanted : List ℕ) → nodes ≡ wanted → IsStrictlySortedBy nat_cmp wanted → length wanted < 256 →
    IsInForm (record { root = root; top = top; nodes = nodes })
made root top nodes wanted is rises few =
    subst (λ ns. IsInForm (record { root = root; top = top; nodes = ns })) (sym is) (record { increasing = rises; few = few })

one_two : IsStrictlySortedBy nat_cmp (1 ∷ 2 ∷ [])
unfolding IsStrictlySortedBy
one_two = ((refl, tt), (tt, tt))

two : IsStrictlySortedBy nat_cmp (2 ∷ [])
unfolding IsStrictlySortedBy
two = (tt, tt)

three : IsStrictlySortedBy nat_cmp (1 ∷ 3 ∷ 16 ∷ [])
unfolding IsStrictlySortedBy
three = ((refl, (refl, tt)), ((refl, tt), (tt, tt)))

pub returns-in_ok-extend-in-First : goal.returns-in_ok-extend-in-First
returns-in_ok-extend-in-First c =
    made _ _ c.extend.new.self (1 ∷ 2 ∷ []) (c.in_ok-extend-in-First.ensures.ok ∙ ap (λ ns. ns ++ (1 ∷ 2 ∷ [])) c.new-nodes.ensures) one_two (omega arith)

pub returns-in_ok-extend-in-Less : goal.returns-in_ok-extend-in-Less
returns-in_ok-extend-in-Less c =
    made _ _ c.extend-in-Less.new.self (2 ∷ []) (c.in_ok-extend-in-Less.ensures.ok ∙ ap (λ ns. ns ++ (2 ∷ [])) c.new-nodes.ensures) two (omega arith)

pub returns-in_ok-extend-in-Member : goal.returns-in_ok-extend-in-Member
returns-in_ok-extend-in-Member c =
    made _ _ c.extend-in-Member.new.self (1 ∷ 3 ∷ 16 ∷ []) (c.in_ok-extend-in-Member.ensures.ok ∙ ap (λ ns. ns ++ (1 ∷ 3 ∷ 16 ∷ [])) c.new-nodes.ensures) three (omega arith)
