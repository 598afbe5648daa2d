use Rattle.std.proofs.Common.{◌≡◌, ◌∙◌, ◌<◌, ℕ, List, [], ◌∷◌, ◌++◌, arith, length, sym, ap, subst}
use Rattle.std.specs.List.Sorted.{IsStrictlySortedBy}
use Rattle.std.specs.Ordering.{nat_cmp}
use Rattle.arj_base.specs.declared.uid.Uid.{Uid}
use Rattle.arj_intent.specs.Records.{IsInForm}
use Rattle.arj_part_tests.proofs.beginnings.record.Goals as goal

made : (root top : Uid) (nodes wanted : List ℕ) → nodes ≡ wanted → IsStrictlySortedBy nat_cmp wanted → length wanted < 256 →
    IsInForm (record { root = root; top = top; nodes = nodes })
made root top nodes wanted is rises few =
    subst (λ ns. IsInForm (record { root = root; top = top; nodes = ns })) (sym is) (record { increasing = rises; few = few })

one : IsStrictlySortedBy nat_cmp (1 ∷ [])
unfolding IsStrictlySortedBy
one = (tt, tt)

pub returns : goal.returns
returns c = made _ _ c.extend.new.self (1 ∷ []) (c.in_ok-extend.ensures.ok ∙ ap (λ ns. ns ++ (1 ∷ [])) c.new-nodes.ensures) one (omega arith)
