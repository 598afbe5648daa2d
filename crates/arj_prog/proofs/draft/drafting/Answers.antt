-- The line says one thing, and that may not stand here.
use Rattle.std.proofs.Common.{◌≡◌, Some, Err, ap, subst}
use Rattle.std.proofs.lemmas.Result.{err_from_is_err_and}
use Rattle.arj_prog.specs.Lines.{SaidInForm, said_text}
use Rattle.arj_prog.proofs.Alike.{no_line}
use Rattle.arj_script.specs.declared.fault.ScriptFault.TheVariants as script_fault
use Rattle.arj_text.specs.Fields.{IsRead}
use Rattle.arj_prog.proofs.draft.drafting.Goals as goal

pub returns-in_err-take-clause-bad : goal.returns-in_err-take-clause-bad
returns-in_err-take-clause-bad c =
    let p = err_from_is_err_and c.from_residual-in_err-take.result c.from_residual-in_err-take.ensures.1 in
    let read = subst (λ os. IsRead (SaidInForm os) said_text c.args.bytes.now (Some c.in-Some.line)) c.as_slice.ensures (rw c.in-Some.is at c.in_ok-line.ensures) in
    rw (p.1, p.2)
    (λ bad s form fits e.
    let same : c.in_err-take.field-0.0 ≡ script_fault.Bad = cc in
    no_line c.args.draft.now.header.objects c.args.draft.now c.args.bytes.now c.in-Some.line s read (c.in_err-take.ensures.bad (ap (λ y. Err y) same)) form fits e)
