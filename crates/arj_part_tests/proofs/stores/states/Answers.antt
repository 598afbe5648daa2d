-- the states are these
use Rattle.std.proofs.Common.{◌≡◌, ◌∙◌, sym, ap, subst, List, [], ◌∷◌, ◌++◌, map}
use Rattle.std.specs.Prelude.{Contains}
use Rattle.arj_base.specs.declared.state.ObjectState.{ObjectState}
use Rattle.arj_base.specs.declared.uid.Uid.{Uid}
use Rattle.arj_disk.specs.declared.slot.Role.{Role}
use Rattle.arj_store.specs.Pair.{AreDistinct, uid_of}
use Rattle.arj_part_tests.specs.Known.{ours}
use Rattle.arj_part_tests.proofs.States.{distinct_none, distinct_one, distinct_two, ours_both, ours_first, ours_none, ours_second}
use Rattle.arj_part_tests.proofs.stores.states.Goals as goal

one : (s : ObjectState) (none some : List ObjectState) → none ≡ [] → some ≡ none ++ s ∷ [] → s ∷ [] ≡ some
one s none some e is = sym (is ∙ ap (λ ss. ss ++ s ∷ []) e)

two : (s t : ObjectState) (none some more : List ObjectState) → none ≡ [] → some ≡ none ++ s ∷ [] → more ≡ some ++ t ∷ []
    → s ∷ t ∷ [] ≡ more
two s t none some more e is be = sym (be ∙ ap (λ ss. ss ++ t ∷ []) (sym (one s none some e is)))

abbrev AreOurs : Role → List ObjectState → Type 0
AreOurs role states = (u : Uid) → Contains (map uid_of states) u → Contains (ours role) u

pub returns-in-None-clause-distinct : goal.returns-in-None-clause-distinct
returns-in-None-clause-distinct c = subst (AreDistinct c.args.role) (sym c.new-states.ensures) (distinct_none c.args.role)

pub returns-in-None-clause-ours : goal.returns-in-None-clause-ours
returns-in-None-clause-ours c = subst (AreOurs c.args.role) (sym c.new-states.ensures) (ours_none c.args.role)

pub returns-in_ok-push-in-None-2-clause-distinct : goal.returns-in_ok-push-in-None-2-clause-distinct
returns-in_ok-push-in-None-2-clause-distinct c = subst (AreDistinct c.args.role)
    (one c.in_ok-state-in-None-2.field-0 c.new-states.result c.push.new.self c.new-states.ensures c.in_ok-push-in-None-2.ensures.ok)
    (distinct_one c.args.role c.in_ok-state-in-None-2.field-0 2 c.in_ok-state-in-None-2.ensures.uid)

pub returns-in_ok-push-in-None-2-clause-ours : goal.returns-in_ok-push-in-None-2-clause-ours
returns-in_ok-push-in-None-2-clause-ours c = subst (AreOurs c.args.role)
    (one c.in_ok-state-in-None-2.field-0 c.new-states.result c.push.new.self c.new-states.ensures c.in_ok-push-in-None-2.ensures.ok)
    (ours_second c.args.role c.in_ok-state-in-None-2.field-0 c.in_ok-state-in-None-2.ensures.uid)

pub returns-in_ok-push-in-Some-clause-distinct : goal.returns-in_ok-push-in-Some-clause-distinct
returns-in_ok-push-in-Some-clause-distinct c = subst (AreDistinct c.args.role)
    (one c.in_ok-state-in-Some.field-0 c.new-states.result c.push-in-Some.new.self c.new-states.ensures c.in_ok-push-in-Some.ensures.ok)
    (distinct_one c.args.role c.in_ok-state-in-Some.field-0 1 c.in_ok-state-in-Some.ensures.uid)

pub returns-in_ok-push-in-Some-clause-ours : goal.returns-in_ok-push-in-Some-clause-ours
returns-in_ok-push-in-Some-clause-ours c = subst (AreOurs c.args.role)
    (one c.in_ok-state-in-Some.field-0 c.new-states.result c.push-in-Some.new.self c.new-states.ensures c.in_ok-push-in-Some.ensures.ok)
    (ours_first c.args.role c.in_ok-state-in-Some.field-0 c.in_ok-state-in-Some.ensures.uid)

pub returns-in_ok-push-in-Some-2-2-clause-distinct : goal.returns-in_ok-push-in-Some-2-2-clause-distinct
returns-in_ok-push-in-Some-2-2-clause-distinct c = subst (AreDistinct c.args.role)
    (two c.in_ok-state-in-Some-2.field-0 c.in_ok-state-in-Some-2-2.field-0 c.new-states.result c.push-in-Some-2.new.self
    c.push-in-Some-2-2.new.self c.new-states.ensures c.in_ok-push-in-Some-2.ensures.ok c.in_ok-push-in-Some-2-2.ensures.ok)
    (distinct_two c.args.role c.in_ok-state-in-Some-2.field-0 c.in_ok-state-in-Some-2-2.field-0 c.in_ok-state-in-Some-2.ensures.uid
    c.in_ok-state-in-Some-2-2.ensures.uid)

pub returns-in_ok-push-in-Some-2-2-clause-ours : goal.returns-in_ok-push-in-Some-2-2-clause-ours
returns-in_ok-push-in-Some-2-2-clause-ours c = subst (AreOurs c.args.role)
    (two c.in_ok-state-in-Some-2.field-0 c.in_ok-state-in-Some-2-2.field-0 c.new-states.result c.push-in-Some-2.new.self
    c.push-in-Some-2-2.new.self c.new-states.ensures c.in_ok-push-in-Some-2.ensures.ok c.in_ok-push-in-Some-2-2.ensures.ok)
    (ours_both c.args.role c.in_ok-state-in-Some-2.field-0 c.in_ok-state-in-Some-2-2.field-0 c.in_ok-state-in-Some-2.ensures.uid
    c.in_ok-state-in-Some-2-2.ensures.uid)
