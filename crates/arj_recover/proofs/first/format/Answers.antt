use Rattle.std.proofs.Common.{◌∙◌, ◌≤◌, List, filter, map, ap, sym, subst, length, OnErr}
use Rattle.std.proofs.lemmas.Result.{on_ok_weaker}
use Rattle.std.specs.List.{AllByRecursion, IsDistinct}
use Rattle.arj_base.specs.State.{state_bytes, StateInForm}
use Rattle.arj_base.specs.Uid.{uid_eq}
use Rattle.arj_disk.specs.declared.slot.Role.TheVariants as role
use Rattle.arj_protocol.specs.Order.{has}
use Rattle.arj_protocol.specs.Step.{first_state, pair_with}
use Rattle.arj_protocol.specs.Words.{ObjectLine, ObjectState}
use Rattle.arj_store.specs.Pair.{AreDistinct, HasFirst, HasOnly, uid_of}
use Rattle.arj_store.proofs.Ends.{on_err}
use Rattle.arj_law_store.specs.store.Files.{IsPairOf}
use Rattle.arj_recover.proofs.FirstPair.{first_pair}
use Rattle.arj_recover.proofs.Firsts.{are_distinct, are_few, distinct_at, firsts_form}
use Rattle.arj_recover.proofs.first.format.Goals as goal

pub format-requires-clause-states : goal.format-requires-clause-states
format-requires-clause-states g c = subst (AreDistinct role.Store)
    (sym (c.in_ok-states.ensures.states ∙ ap (λ (os : List ObjectLine). map (first_state c.args.header.now.format) (filter (λ (o : ObjectLine). has o.stores c.args.node) os)) c.as_slice.ensures)) (are_distinct c.args.node c.args.header.now c.requires.header)

pub format-requires-clause-count : goal.format-requires-clause-count
format-requires-clause-count g c = subst (λ (ss : List ObjectState). length ss ≤ 65535)
    (sym (c.in_ok-states.ensures.states ∙ ap (λ (os : List ObjectLine). map (first_state c.args.header.now.format) (filter (λ (o : ObjectLine). has o.stores c.args.node) os)) c.as_slice.ensures)) (are_few c.args.node c.args.header.now c.requires.header)

-- where memory is wanting before it begins, nothing is there
pub returns-in_err-states-clause-fault : goal.returns-in_err-states-clause-fault
returns-in_err-states-clause-fault g c =
    on_err c.from_residual.result (0, (g.met.O.ObjectStore.blank role.Store (g.D.Disk.file c.args.disk.now) c.requires.empty).1)

pub returns-in_err-states-clause-formed : goal.returns-in_err-states-clause-formed
returns-in_err-states-clause-formed g c = (g.met.O.ObjectStore.blank role.Store (g.D.Disk.file c.args.disk.now) c.requires.empty).0

pub returns-clause-fault : goal.returns-clause-fault
returns-clause-fault g c =
    subst (λ ss. OnErr c.format.result (HasFirst (g.O.ObjectStore.pair (g.D.Disk.file c.format.new.disk) role.Store) ss))
    (c.in_ok-states.ensures.states ∙ ap (λ (os : List ObjectLine). map (first_state c.args.header.now.format) (filter (λ (o : ObjectLine). has o.stores c.args.node) os)) c.as_slice.ensures) c.format.ensures.fault

pub returns-clause-pair : goal.returns-clause-pair
returns-clause-pair g c =
    let are = c.in_ok-states.ensures.states ∙ ap (λ (os : List ObjectLine). map (first_state c.args.header.now.format) (filter (λ (o : ObjectLine). has o.stores c.args.node) os)) c.as_slice.ensures in
    let sizes = subst (AllByRecursion (λ (s : ObjectState). length (state_bytes s) ≤ 65535)) are c.in_ok-states.ensures.sizes in
    on_ok_weaker c.format.result
    (λ (only : HasOnly (g.O.ObjectStore.pair (g.D.Disk.file c.format.new.disk) role.Store) c.in_ok-states.states).
    subst (λ ss. IsPairOf (g.O.ObjectStore.pair (g.D.Disk.file c.format.new.disk) role.Store) (pair_with ss)) are
    (first_pair c.in_ok-states.states
    (subst (AllByRecursion StateInForm) (sym are) (firsts_form c.args.header.now.format c.args.node c.args.header.now.nodes c.args.header.now.objects c.requires.header.objects.0 sizes))
    (g.O.ObjectStore.pair (g.D.Disk.file c.format.new.disk) role.Store)
    (subst (λ (ss : List ObjectState). IsDistinct uid_eq (map uid_of ss)) (sym are) (distinct_at c.args.header.now.format c.args.node c.args.header.now.objects c.requires.header.objects.1)) only)) c.format.ensures.pair
