use Rattle.std.proofs.Common.{◌≡◌, ◌∙◌, ◌+◌, ◌∷◌, [], sym, ap, subst, map, Err}
use Rattle.std.proofs.lemmas.List.{nil_from_length}
use Rattle.std.specs.List.{AllByRecursion}
use Rattle.std.specs.Vec.Iter.{into_iter_items, into_iter_len, into_iter_steps}
use Rattle.arj_coord.specs.Shown.{CanBeDone, effect_of}
use Rattle.arj_core.specs.declared.node.CoreFault.TheVariants.{Halted}
use Rattle.arj_parts.specs.Records.{CutsRecords, DoesRecords}
use Rattle.arj_parts.proofs.Performed.{cut_before, cut_behind, does_both, nothing_does, others_both, same_fault}
use Rattle.arj_parts.proofs.performing.perform.Goals as goal

pub loop-effect-preserved : goal.loop-effect-preserved
loop-effect-preserved g c =
    let step : (into_iter_items c.loop-effect.effect-iterator ≡ c.in-Some.effect ∷ into_iter_items c.next.new.self) × (into_iter_len c.next.new.self + 1 ≡ into_iter_len c.loop-effect.effect-iterator) =
    subst (λ r. into_iter_steps c.loop-effect.effect-iterator r c.next.new.self) c.in-Some.is c.next.ensures.steps in
    let first = effect_of c.in-Some.effect ∷ [] in
    let rest = map effect_of (into_iter_items c.next.new.self) in
    let here = g.D.Disk.file c.loop-effect.disk in
    let there = g.D.Disk.file c.perform_one.new.disk in
    record {
      done = λ new now after d. c.loop-effect.invariant.done new now after
          (subst (λ es. DoesRecords es here new c.loop-effect.records now c.loop-effect.outs after) (sym (ap (map effect_of) step.0))
          (does_both first rest here there new c.loop-effect.records c.perform_one.new.records now c.loop-effect.outs c.perform_one.new.outs after c.in_ok-perform_one.ensures.done d));
      halted = λ new after cut. c.loop-effect.invariant.halted new after
          (subst (λ es. CutsRecords es here new c.loop-effect.outs after) (sym (ap (map effect_of) step.0))
          (cut_behind first rest here there new c.loop-effect.records c.perform_one.new.records c.loop-effect.outs c.perform_one.new.outs after c.in_ok-perform_one.ensures.done cut));
      can = (subst (AllByRecursion CanBeDone) step.0 c.loop-effect.invariant.can).1;
      form = c.perform_one.ensures.form;
      others = others_both (g.D.Disk.file c.args.disk.now) here there c.loop-effect.invariant.others c.perform_one.ensures.others;
      stops = c.in_ok-perform_one.ensures.counts.ok ∙ c.loop-effect.invariant.stops;
      arms = c.in_ok-perform_one.ensures.counts.arms ∙ c.loop-effect.invariant.arms;
      last_arm = c.in_ok-perform_one.ensures.counts.last_arm ∙ c.loop-effect.invariant.last_arm;
    }

pub returns-in_err-perform_one-clause-halted : goal.returns-in_err-perform_one-clause-halted
returns-in_err-perform_one-clause-halted g c = λ halted.
    let step : (into_iter_items c.loop-effect.effect-iterator ≡ c.in-Some.effect ∷ into_iter_items c.next.new.self) × (into_iter_len c.next.new.self + 1 ≡ into_iter_len c.loop-effect.effect-iterator) =
    subst (λ r. into_iter_steps c.loop-effect.effect-iterator r c.next.new.self) c.in-Some.is c.next.ensures.steps in
    let fault : c.in_err-perform_one.field-0.0 ≡ Halted =
    same_fault c.from_residual.result c.in_err-perform_one.field-0.0 Halted c.from_residual.ensures.1 halted in
    c.loop-effect.invariant.halted (g.D.Disk.file c.perform_one.new.disk) c.perform_one.new.outs
    (subst (λ es. CutsRecords es (g.D.Disk.file c.loop-effect.disk) (g.D.Disk.file c.perform_one.new.disk) c.loop-effect.outs c.perform_one.new.outs) (sym (ap (map effect_of) step.0))
    (cut_before (effect_of c.in-Some.effect ∷ []) (map effect_of (into_iter_items c.next.new.self)) (g.D.Disk.file c.loop-effect.disk) (g.D.Disk.file c.perform_one.new.disk) c.loop-effect.outs c.perform_one.new.outs
    (c.in_err-perform_one.ensures.halted (ap Err fault))))

pub returns-clause-done : goal.returns-clause-done
returns-clause-done g c =
    let none : into_iter_items c.loop-effect.effect-iterator ≡ [] =
    nil_from_length (into_iter_items c.loop-effect.effect-iterator) (sym c.loop-effect.effect-iterator.rest.ok.0 ∙ c.in-None.ensures.steps.0) in
    c.loop-effect.invariant.done (g.D.Disk.file c.loop-effect.disk) c.loop-effect.records c.loop-effect.outs
    (subst (λ es. DoesRecords (map effect_of es) (g.D.Disk.file c.loop-effect.disk) (g.D.Disk.file c.loop-effect.disk) c.loop-effect.records c.loop-effect.records c.loop-effect.outs c.loop-effect.outs) (sym none)
    (nothing_does (g.D.Disk.file c.loop-effect.disk) c.loop-effect.records c.loop-effect.outs))
