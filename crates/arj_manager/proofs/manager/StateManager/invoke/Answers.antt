use Rattle.std.proofs.Common.{rules, ◌≡◌, ◌∙◌, ap, refl, sym, Some}
use Rattle.arj_protocol.specs.Order.{at_number}
use Rattle.arj_manager.specs.Manager.{invoke_at}
use Rattle.arj_manager.proofs.Puts.{on_err, put_same, put_ran}
use Rattle.arj_manager.proofs.Upkeep.{fault_indexed, ran_indexed}
use Rattle.arj_manager.proofs.manager.StateManager.invoke.Goals as goal

pub returns-in_err-mode-clause-kept : goal.returns-in_err-mode-clause-kept
returns-in_err-mode-clause-kept c =
    on_err c.from_residual.result
    (put_same c.args.x c.self.inside.objects.entries c.args.self.now (c.get_mut.follows.lender c.in-Some.object.now).entries c.in-Some.object.now c.in-Some.object.now c.self.view_is (sym c.in-Some.ensures.value)
    (c.get_mut.follows.holds c.in-Some.object.now).0 refl)

pub invariant_of-self-in_err-mode : goal.invariant_of-self-in_err-mode
invariant_of-self-in_err-mode c =
    fault_indexed c.self.inside.index c.self.inside.index c.args.x c.in-Some.object.now c.in-Some.object.now c.self.inside.objects.entries (c.get_mut.follows.lender c.in-Some.object.now).entries (sym c.in-Some.ensures.value)
    (c.get_mut.follows.holds c.in-Some.object.now).0 refl (λ u y on. on) c.self.invariant

pub returns-in_err-note-clause-kept : goal.returns-in_err-note-clause-kept
returns-in_err-note-clause-kept c =
    on_err c.from_residual-in_err-note.result
    (put_same c.args.x c.self.inside.objects.entries c.args.self.now (c.get_mut.follows.lender c.in-Some.object.now).entries c.in-Some.object.now c.in-Some.object.now c.self.view_is (sym c.in-Some.ensures.value)
    (c.get_mut.follows.holds c.in-Some.object.now).0 refl)

pub invariant_of-self-in_err-note : goal.invariant_of-self-in_err-note
invariant_of-self-in_err-note c =
    fault_indexed c.self.inside.index c.note.new.index c.args.x c.in-Some.object.now c.in-Some.object.now c.self.inside.objects.entries (c.get_mut.follows.lender c.in-Some.object.now).entries (sym c.in-Some.ensures.value)
    (c.get_mut.follows.holds c.in-Some.object.now).0 refl c.note.ensures.stays c.self.invariant

pub returns-in_err-ran-clause-kept : goal.returns-in_err-ran-clause-kept
returns-in_err-ran-clause-kept c =
    on_err c.from_residual-in_err-ran.result
    (put_same c.args.x c.self.inside.objects.entries c.args.self.now (c.get_mut.follows.lender c.run.new.self).entries c.in-Some.object.now c.run.new.self c.self.view_is (sym c.in-Some.ensures.value)
    (c.get_mut.follows.holds c.run.new.self).0 c.in_err-ran.ensures.kept)

pub invariant_of-self-in_err-ran : goal.invariant_of-self-in_err-ran
invariant_of-self-in_err-ran c =
    fault_indexed c.self.inside.index c.note.new.index c.args.x c.in-Some.object.now c.run.new.self c.self.inside.objects.entries (c.get_mut.follows.lender c.run.new.self).entries (sym c.in-Some.ensures.value)
    (c.get_mut.follows.holds c.run.new.self).0 c.in_err-ran.ensures.kept c.note.ensures.stays c.self.invariant

pub returns-clause-copies : goal.returns-clause-copies
returns-clause-copies c =
    put_ran c.args.x c.args.path.now c.args.op.now c.self.inside.objects.entries c.args.self.now (c.get_mut.follows.lender c.run.new.self).entries c.in-Some.object.now c.run.new.self c.in_ok-ran.ran c.self.view_is (sym c.in-Some.ensures.value)
    c.get_mut.ensures.ordered (c.get_mut.follows.holds c.run.new.self).0 c.in_ok-mode.ensures.may c.in_ok-ran.ensures.ran

pub invariant_of-self-2 : goal.invariant_of-self-2
invariant_of-self-2 c =
    ran_indexed c.self.inside.index c.note.new.index 0 c.args.path.now c.args.x c.args.op.now c.in-Some.object.now c.run.new.self c.self.inside.objects.entries (c.get_mut.follows.lender c.run.new.self).entries c.get_mut.ensures.ordered
    (sym c.in-Some.ensures.value) (c.get_mut.follows.holds c.run.new.self).0 c.in_ok-ran.ensures.ran.part c.in_ok-note.ensures.here c.note.ensures.stays c.self.invariant

-- what is against it is what the copy would say
pub returns-in_err-mode-clause-named : goal.returns-in_err-mode-clause-named
returns-in_err-mode-clause-named c holder held is n =
    let at : at_number c.args.x c.args.self.now ≡ Some c.in-Some.object.now = ap (at_number c.args.x) (sym c.self.view_is) ∙ sym c.in-Some.ensures.value in
    ap (λ found. (invoke_at n c.args.path.now c.args.x c.args.op.now c.args.self.now found).reply) at ∙ c.in_err-mode.ensures.named holder held (grind rules) n
