use Rattle.std.proofs.Common.{◌≡◌, ◌∙◌, ◌++◌, ap, sym, subst}
use Rattle.arj_disk.specs.declared.slot.Role.TheVariants.{Names}
use Rattle.arj_naming.specs.Ends.{finished, orphans_by, taken_by}
use Rattle.arj_law_store.specs.store.Files.{IsPairOf}
use Rattle.arj_naming.specs.Said.{said}
use Rattle.arj_naming.proofs.Cuts.{part_all}
use Rattle.arj_naming.proofs.Store.{on_err}
use Rattle.arj_naming.proofs.EndParts.{own_part, others_cut, others_part, pair_is, lines_are, told_part}
use Rattle.arj_protocol.specs.Naming.{told}
use Rattle.arj_naming.proofs.naming.Naming.told_one.Goals as goal

pub returns-in_err-end_own-clause-fault : goal.returns-in_err-end_own-clause-fault
returns-in_err-end_own-clause-fault g c =
    on_err c.from_residual-in_err-end_own.result (own_part c.args.action c.args.end c.args.self.now.pair c.args.self.now.part (g.O.ObjectStore.pair (g.D.Disk.file c.end_own.new.disk) Names) c.in_err-end_own.ensures.fault)

pub returns-in-Err-clause-stopped : goal.returns-in-Err-clause-stopped
returns-in-Err-clause-stopped g c = λ stop.
    let n = c.args.self.now.part in
    let us_are = c.as_slice.ensures ∙ (c.in_ok-plan.ensures.orphans ∙ ((λ i. orphans_by c.args.action (c.in_ok-plan.ensures.taken i) c.self.inside.memory.entries c.self.inside.memory.part)
    ∙ ap (λ k. orphans_by c.args.action (taken_by c.args.action c.args.end k.part) k.pair k.part) c.self.view_is)) in
    others_cut c.args.action c.args.end c.args.self.now.pair n c.as_slice.result.now us_are c.end_own.new.self.pair c.in_ok-end_own.ensures.done.pair c.args.out.now c.end_own.new.out c.in_ok-end_own.ensures.done.lines
    (g.O.ObjectStore.pair (g.D.Disk.file c.abort_all.new.disk) Names) c.abort_all.new.out (c.in-Err.ensures.stopped stop)

pub returns-in-Err-clause-fault : goal.returns-in-Err-clause-fault
returns-in-Err-clause-fault g c =
    let n = c.args.self.now.part in
    let us_are = c.as_slice.ensures ∙ (c.in_ok-plan.ensures.orphans ∙ ((λ i. orphans_by c.args.action (c.in_ok-plan.ensures.taken i) c.self.inside.memory.entries c.self.inside.memory.part)
    ∙ ap (λ k. orphans_by c.args.action (taken_by c.args.action c.args.end k.part) k.pair k.part) c.self.view_is)) in
    others_part c.args.action c.args.end c.args.self.now.pair n c.as_slice.result.now us_are c.end_own.new.self.pair c.in_ok-end_own.ensures.done.pair c.args.out.now c.end_own.new.out c.in_ok-end_own.ensures.done.lines
    (g.O.ObjectStore.pair (g.D.Disk.file c.abort_all.new.disk) Names) c.in-Err.ensures.fault

pub returns-in_err-finish-clause-fault : goal.returns-in_err-finish-clause-fault
returns-in_err-finish-clause-fault g c =
    let n = c.args.self.now.part in
    let us_are = c.as_slice.ensures ∙ (c.in_ok-plan.ensures.orphans ∙ ((λ i. orphans_by c.args.action (c.in_ok-plan.ensures.taken i) c.self.inside.memory.entries c.self.inside.memory.part)
    ∙ ap (λ k. orphans_by c.args.action (taken_by c.args.action c.args.end k.part) k.pair k.part) c.self.view_is)) in
    on_err c.from_residual-in_err-finish.result (part_all (told c.args.action c.args.end c.args.self.now.pair n).outs c.args.self.now.pair (g.O.ObjectStore.pair (g.D.Disk.file c.abort_all.new.disk) Names)
    (subst (IsPairOf (g.O.ObjectStore.pair (g.D.Disk.file c.abort_all.new.disk) Names))
    (pair_is c.args.action c.args.end c.args.self.now.pair n c.as_slice.result.now us_are c.end_own.new.self.pair c.in_ok-end_own.ensures.done.pair c.args.out.now c.end_own.new.out c.in_ok-end_own.ensures.done.lines
    c.abort_all.new.self.pair c.in-Ok.ensures.done.pair) c.in-Ok.ensures.stands.pair))

pub returns-clause-done : goal.returns-clause-done
returns-clause-done g c =
    let n = c.args.self.now.part in
    let us_are = c.as_slice.ensures ∙ (c.in_ok-plan.ensures.orphans ∙ ((λ i. orphans_by c.args.action (c.in_ok-plan.ensures.taken i) c.self.inside.memory.entries c.self.inside.memory.part)
    ∙ ap (λ k. orphans_by c.args.action (taken_by c.args.action c.args.end k.part) k.pair k.part) c.self.view_is)) in
    let taken_is = c.in_ok-plan.ensures.taken ∙ ap (λ k. taken_by c.args.action c.args.end k.part) c.self.view_is in
    let part_is : c.self-2.inside.memory.part ≡ n =
    ap (λ k. k.part) c.self-2.view_is ∙ (c.in-Ok.ensures.done.part ∙ c.in_ok-end_own.ensures.done.part) in
    record {
      part = c.in_ok-finish.ensures.part ∙ ((λ i. (finished c.args.action (taken_is i) (part_is i)).part) ∙ sym (told_part c.args.action c.args.end c.args.self.now.pair n));
      lines = lines_are c.args.action c.args.end c.args.self.now.pair n c.as_slice.result.now us_are c.end_own.new.self.pair c.in_ok-end_own.ensures.done.pair c.args.out.now c.end_own.new.out c.in_ok-end_own.ensures.done.lines
          c.abort_all.new.out c.finish.new.out c.in-Ok.ensures.done.lines (c.in_ok-finish.ensures.lines ∙ (λ i. c.abort_all.new.out ++ said (finished c.args.action (taken_is i) (part_is i)).outs));
      pair = c.in_ok-finish.ensures.entries ∙ (ap (λ k. k.pair) c.self-2.view_is
          ∙ pair_is c.args.action c.args.end c.args.self.now.pair n c.as_slice.result.now us_are c.end_own.new.self.pair c.in_ok-end_own.ensures.done.pair c.args.out.now c.end_own.new.out c.in_ok-end_own.ensures.done.lines
          c.abort_all.new.self.pair c.in-Ok.ensures.done.pair);
    }
