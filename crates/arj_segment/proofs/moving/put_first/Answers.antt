use Rattle.std.proofs.Common.{◌≡◌, ◌∙◌, ◌++◌, ◌∷◌, [], ◌<◌, arith, length, refl, sym, ap, subst, Some}
use Rattle.arj_segment_file.specs.Format.{IsSegment}
use Rattle.arj_store.proofs.Ends.{on_err}
use Rattle.std.proofs.lemmas.Bool.Decides.{nat_tests}
use Rattle.arj_store.specs.Pair.{HasFirst, HasOnly}
use Rattle.arj_store.specs.Table.{at}
use Rattle.arj_segment.specs.Blank.{formed_of_none, only_none}
use Rattle.arj_segment.specs.Says.{pair_of, segments}
use Rattle.arj_segment.specs.Tables.{KeepsPlaces, SetsEach}
use Rattle.arj_segment.proofs.Begun.{first_end, first_fault, first_pair, first_pend, first_places, first_rest, no_states, segment_is}
use Rattle.arj_segment.proofs.moving.put_first.Goals as goal

pub returns-in_err-file-clause-fault : goal.returns-in_err-file-clause-fault
returns-in_err-file-clause-fault g c =
    let first : HasFirst (pair_of (g.D.Disk.file c.args.disk.now) c.args.role) c.args.states.now =
    (0, only_none c.args.role (g.D.Disk.file c.args.disk.now) c.requires.empty) in
    on_err _ first

pub returns-in_err-file-clause-formed : goal.returns-in_err-file-clause-formed
returns-in_err-file-clause-formed g c = formed_of_none c.args.role (g.D.Disk.file c.args.disk.now) c.requires.empty

pub returns-in_err-objects-clause-fault : goal.returns-in_err-objects-clause-fault
returns-in_err-objects-clause-fault g c =
    let first : HasFirst (pair_of (g.D.Disk.file c.args.disk.now) c.args.role) c.args.states.now =
    (0, only_none c.args.role (g.D.Disk.file c.args.disk.now) c.requires.empty) in
    on_err _ first

pub returns-in_err-objects-clause-formed : goal.returns-in_err-objects-clause-formed
returns-in_err-objects-clause-formed g c = formed_of_none c.args.role (g.D.Disk.file c.args.disk.now) c.requires.empty

pub returns-in_err-put-clause-fault : goal.returns-in_err-put-clause-fault
returns-in_err-put-clause-fault g c =
    let is : IsSegment c.args.role c.as_slice.result.now =
    segment_is c.args.role c.args.states.now c.in_ok-file.ensures.fit c.requires.count c.requires.states c.as_slice.result.now (c.as_slice.ensures ∙ c.in_ok-file.ensures.bytes) in
    on_err _ (first_fault c.args.role c.args.states.now (g.D.Disk.file c.args.disk.now) c.requires.empty c.requires.states.distinct c.requires.count c.as_slice.result.now is refl (g.D.Disk.file c.put.new.disk) c.put.ensures.files)

pub returns-in_err-put-clause-formed : goal.returns-in_err-put-clause-formed
returns-in_err-put-clause-formed g c =
    let some : 0 < length c.args.states.now = grind (arith, nat_tests) in
    let is : IsSegment c.args.role c.as_slice.result.now =
    segment_is c.args.role c.args.states.now c.in_ok-file.ensures.fit c.requires.count c.requires.states c.as_slice.result.now (c.as_slice.ensures ∙ c.in_ok-file.ensures.bytes) in
    first_end c.args.role c.args.states.now (g.D.Disk.file c.args.disk.now) c.requires.empty c.requires.states.distinct c.requires.count c.as_slice.result.now is refl (g.D.Disk.file c.put.new.disk) some c.put.ensures.files

pub returns-in_err-put-clause-others : goal.returns-in_err-put-clause-others
returns-in_err-put-clause-others g c =
    first_rest c.args.role (g.D.Disk.file c.args.disk.now) (g.D.Disk.file c.put.new.disk) c.put.ensures.files.others

pub returns-in_err-set_each-clause-fault : goal.returns-in_err-set_each-clause-fault
returns-in_err-set_each-clause-fault g c =
    let is : IsSegment c.args.role c.as_slice.result.now =
    segment_is c.args.role c.args.states.now c.in_ok-file.ensures.fit c.requires.count c.requires.states c.as_slice.result.now (c.as_slice.ensures ∙ c.in_ok-file.ensures.bytes) in
    on_err _ (first_fault c.args.role c.args.states.now (g.D.Disk.file c.args.disk.now) c.requires.empty c.requires.states.distinct c.requires.count c.as_slice.result.now is refl (g.D.Disk.file c.put.new.disk) c.put.ensures.files)

pub returns-in_err-set_each-clause-formed : goal.returns-in_err-set_each-clause-formed
returns-in_err-set_each-clause-formed g c =
    let some : 0 < length c.args.states.now = grind (arith, nat_tests) in
    let is : IsSegment c.args.role c.as_slice.result.now =
    segment_is c.args.role c.args.states.now c.in_ok-file.ensures.fit c.requires.count c.requires.states c.as_slice.result.now (c.as_slice.ensures ∙ c.in_ok-file.ensures.bytes) in
    first_end c.args.role c.args.states.now (g.D.Disk.file c.args.disk.now) c.requires.empty c.requires.states.distinct c.requires.count c.as_slice.result.now is refl (g.D.Disk.file c.put.new.disk) some c.put.ensures.files

pub returns-in_err-set_each-clause-others : goal.returns-in_err-set_each-clause-others
returns-in_err-set_each-clause-others g c =
    first_rest c.args.role (g.D.Disk.file c.args.disk.now) (g.D.Disk.file c.put.new.disk) c.put.ensures.files.others

pub returns-in_err-push-clause-fault : goal.returns-in_err-push-clause-fault
returns-in_err-push-clause-fault g c =
    let is : IsSegment c.args.role c.as_slice.result.now =
    segment_is c.args.role c.args.states.now c.in_ok-file.ensures.fit c.requires.count c.requires.states c.as_slice.result.now (c.as_slice.ensures ∙ c.in_ok-file.ensures.bytes) in
    on_err _ (first_fault c.args.role c.args.states.now (g.D.Disk.file c.args.disk.now) c.requires.empty c.requires.states.distinct c.requires.count c.as_slice.result.now is refl (g.D.Disk.file c.put.new.disk) c.put.ensures.files)

pub returns-in_err-push-clause-formed : goal.returns-in_err-push-clause-formed
returns-in_err-push-clause-formed g c =
    let some : 0 < length c.args.states.now = grind (arith, nat_tests) in
    let is : IsSegment c.args.role c.as_slice.result.now =
    segment_is c.args.role c.args.states.now c.in_ok-file.ensures.fit c.requires.count c.requires.states c.as_slice.result.now (c.as_slice.ensures ∙ c.in_ok-file.ensures.bytes) in
    first_end c.args.role c.args.states.now (g.D.Disk.file c.args.disk.now) c.requires.empty c.requires.states.distinct c.requires.count c.as_slice.result.now is refl (g.D.Disk.file c.put.new.disk) some c.put.ensures.files

pub returns-in_err-push-clause-others : goal.returns-in_err-push-clause-others
returns-in_err-push-clause-others g c =
    first_rest c.args.role (g.D.Disk.file c.args.disk.now) (g.D.Disk.file c.put.new.disk) c.put.ensures.files.others

pub returns-then-is_empty-clause-pair : goal.returns-then-is_empty-clause-pair
returns-then-is_empty-clause-pair g c =
    let none : length c.args.states.now ≡ 0 = grind (arith, nat_tests) in
    subst (HasOnly (pair_of (g.D.Disk.file c.args.disk.now) c.args.role)) (sym (no_states c.args.states.now none)) (only_none c.args.role (g.D.Disk.file c.args.disk.now) c.requires.empty)

pub returns-then-is_empty-clause-formed : goal.returns-then-is_empty-clause-formed
returns-then-is_empty-clause-formed g c = formed_of_none c.args.role (g.D.Disk.file c.args.disk.now) c.requires.empty

pub returns-clause-keeps : goal.returns-clause-keeps
returns-clause-keeps g c =
    let is : IsSegment c.args.role c.as_slice.result.now =
    segment_is c.args.role c.args.states.now c.in_ok-file.ensures.fit c.requires.count c.requires.states c.as_slice.result.now (c.as_slice.ensures ∙ c.in_ok-file.ensures.bytes) in
    record {
      pending = first_pend c.args.role c.args.states.now (g.D.Disk.file c.args.disk.now) c.requires.empty c.requires.states.distinct c.requires.count c.as_slice.result.now is refl (g.D.Disk.file c.put.new.disk) c.in_ok-put.ensures.ok (at c.args.kept.now.actions) (at c.args.kept.now.holdings) c.requires.keeps.pending;
      committed = subst (λ ks. KeepsPlaces (segments (g.D.Disk.file c.put.new.disk) c.args.role) (at c.set_each.new.table) ks) (sym (c.in_ok-push.ensures.ok ∙ ap (λ ks. ks ++ 1 ∷ []) c.requires.numbers))
          (first_places c.args.role c.args.states.now (g.D.Disk.file c.args.disk.now) c.requires.empty c.requires.states.distinct c.requires.count c.as_slice.result.now is refl (g.D.Disk.file c.put.new.disk) c.in_ok-put.ensures.ok c.in_ok-objects.objects c.in_ok-objects.ensures (at c.args.kept.now.places) (at c.set_each.new.table)
          (subst (λ ks. KeepsPlaces (segments (g.D.Disk.file c.args.disk.now) c.args.role) (at c.args.kept.now.places) ks) c.requires.numbers c.requires.keeps.committed)
          (subst (λ us. SetsEach us (Some 1) (at c.args.kept.now.places) (at c.set_each.new.table)) c.as_slice-2.ensures c.in_ok-set_each.ensures));
    }

pub returns-clause-pair : goal.returns-clause-pair
returns-clause-pair g c =
    let is : IsSegment c.args.role c.as_slice.result.now =
    segment_is c.args.role c.args.states.now c.in_ok-file.ensures.fit c.requires.count c.requires.states c.as_slice.result.now (c.as_slice.ensures ∙ c.in_ok-file.ensures.bytes) in
    first_pair c.args.role c.args.states.now (g.D.Disk.file c.args.disk.now) c.requires.empty c.requires.states.distinct c.requires.count c.as_slice.result.now is refl (g.D.Disk.file c.put.new.disk) c.in_ok-put.ensures.ok

pub returns-clause-formed : goal.returns-clause-formed
returns-clause-formed g c =
    let some : 0 < length c.args.states.now = grind (arith, nat_tests) in
    let is : IsSegment c.args.role c.as_slice.result.now =
    segment_is c.args.role c.args.states.now c.in_ok-file.ensures.fit c.requires.count c.requires.states c.as_slice.result.now (c.as_slice.ensures ∙ c.in_ok-file.ensures.bytes) in
    first_end c.args.role c.args.states.now (g.D.Disk.file c.args.disk.now) c.requires.empty c.requires.states.distinct c.requires.count c.as_slice.result.now is refl (g.D.Disk.file c.put.new.disk) some c.put.ensures.files

pub returns-clause-others : goal.returns-clause-others
returns-clause-others g c = first_rest c.args.role (g.D.Disk.file c.args.disk.now) (g.D.Disk.file c.put.new.disk) c.put.ensures.files.others
