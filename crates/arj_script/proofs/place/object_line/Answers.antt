use Rattle.std.proofs.Common.{◌≡◌, sym, subst, true, false, rules}
use Rattle.arj_journal.specs.ScriptForm.{ObjectsInForm}
use Rattle.arj_script.specs.Grammar.{has_object, insert_object}
use Rattle.arj_script.proofs.Forms.{declared_twice, not_held}
use Rattle.arj_script.proofs.Headers.{insert_in_form}
use Rattle.arj_script.proofs.place.object_line.Goals as goal

pub returns-then-has_number-clause-bad : goal.returns-then-has_number-clause-bad
returns-then-has_number-clause-bad c bad o fits free held =
    declared_twice c.args.nodes c.args.bytes.now c.args.objects.now.items c.in-Some.new o (rw c.in-Some.is at c.in_ok-new.ensures)
    (subst (λ os. has_object c.in-Some.new.x os ≡ true) c.deref.ensures.value (sym c.if-has_number.ensures)) fits free

pub returns-then-not-holds-clause-bad : goal.returns-then-not-holds-clause-bad
returns-then-not-holds-clause-bad c bad o fits free held =
    not_held c.args.nodes c.args.format c.args.bytes.now c.in-Some.new o (rw c.in-Some.is at c.in_ok-new.ensures) c.if-not-holds.ensures fits held

pub returns-clause-in_form : goal.returns-clause-in_form
returns-clause-in_form c all =
    let read = rw c.in-Some.is at c.in_ok-new.ensures in
    let absent : has_object c.in-Some.new.x c.args.objects.now.items ≡ false =
    subst (λ os. has_object c.in-Some.new.x os ≡ false) c.deref.ensures.value (sym c.if-has_number.ensures) in
    let is : c.insert.new.self.items ≡ insert_object c.in-Some.new c.args.objects.now.items = search rules in
    subst (ObjectsInForm c.args.nodes) (sym is) (insert_in_form c.args.nodes c.in-Some.new c.args.objects.now.items read.0 absent all)
