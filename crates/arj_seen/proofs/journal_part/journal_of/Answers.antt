use Rattle.std.proofs.Common.{◌≡◌, ◌∙◌, ◌+◌, Err, length, refl, sym, subst}
use Rattle.std.proofs.lemmas.Result.{err_from_is_err_and}
use Rattle.arj_seen.specs.Input.{IsNumber, NoLine}
use Rattle.arj_seen.proofs.journal_part.journal_of.Goals as goal

pub returns-in_err-line_of-clause-bad : goal.returns-in_err-line_of-clause-bad
returns-in_err-line_of-clause-bad c = λ fault is other.
    let p = err_from_is_err_and c.from_residual.result c.from_residual.ensures.1 in
    let f = c.in_err-line_of.field-0.0 in
    let same : c.from_residual.result ≡ Err f = p.1 ∙ (λ i. Err (p.2 i)) in
    let one = sym is ∙ same in
    let e : fault ≡ f = cc one in
    let h = c.in_err-line_of.ensures.bad f refl (λ m. other (e ∙ m)) in
    let number = c.number_behind-number.result in (
      number,
      e ∙ h.0,
      (
        c.loop-line.lines,
        c.loop-line.rest.now,
        c.loop-line.invariant.in_form,
        c.loop-line.invariant.front,
        NoLine c.in-Some.line.now c.in-Some.behind.now c.in-Some.ensures.0 c.in-Some.ensures.2 h.1,
        subst (λ ls. IsNumber number (c.args.before + (length ls + 1))) c.as_slice.ensures c.number_behind-number.ensures,
      ),
    )
