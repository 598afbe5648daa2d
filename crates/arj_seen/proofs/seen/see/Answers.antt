use Rattle.std.proofs.Common.{rules, length, ◌≡◌, ◌∙◌, ◌+◌, Err, None, refl, sym, subst}
use Rattle.std.proofs.lemmas.Result.{err_from_is_err_and}
use Rattle.arj_script.specs.Grammar.{Start}
use Rattle.arj_seen.specs.Input.{AreScript, HasBadLine, IsRefused}
use Rattle.arj_seen.proofs.Refused.{by_journal}
use Rattle.arj_seen.proofs.seen.see.Goals as goal

pub returns-in_err-lines-clause-refused : goal.returns-in_err-lines-clause-refused
returns-in_err-lines-clause-refused c = λ fault is.
    let bytes = c.args.bytes.now in
    let p = err_from_is_err_and c.from_residual-in_err-lines.result c.from_residual-in_err-lines.ensures.1 in
    let f = c.in_err-lines.field-0.0 in
    let same : c.from_residual-in_err-lines.result ≡ Err f = p.1 ∙ (λ i. Err (p.2 i)) in
    let one = sym is ∙ same in
    let e : fault ≡ f = cc one in
    let read = c.in_ok-header.ensures.read in
    let many : c.len-before.result ≡ length c.in_ok-header.field-0-0.lines.items = search rules in
    subst (IsRefused bytes) (sym e)
    (by_journal bytes f (λ other.
    let h = c.in_err-lines.ensures.bad f refl other in (
      h.0,
      h.1,
      record {
        done = c.in_ok-header.field-0-0.lines.items;
        place = read.1.0;
        header = c.in-Some.header;
        rest = c.in_ok-header.rest.now;
        script = subst (AreScript Start None c.in_ok-header.field-0-0.lines.items read.1.0) c.in-Some.is read.1.1;
        input = read.2;
        bad = subst (λ n. HasBadLine (n + 1) c.in_ok-header.rest.now h.0) many h.2;
      },
    )))
