use Rattle.std.proofs.Common.{◌≡◌, ◌∙◌, ◌++◌, Err, ap, inl, refl, sym}
use Rattle.std.proofs.lemmas.Result.{err_from_is_err_and}
use Rattle.arj_seen.specs.Input.{script_text}
use Rattle.arj_seen.proofs.Scripts.{front_more, script_next}
use Rattle.arj_seen.proofs.script_part.script_of.Goals as goal

pub returns-in_err-take-clause-bad : goal.returns-in_err-take-clause-bad
returns-in_err-take-clause-bad c = λ fault is other.
    let p = err_from_is_err_and c.from_residual.result c.from_residual.ensures.1 in
    let f = c.in_err-take.field-0.0 in
    let same : c.from_residual.result ≡ Err f = p.1 ∙ (λ i. Err (p.2 i)) in
    let one = sym is ∙ same in
    let e : fault ≡ f = cc one in
    let h = c.in_err-take.ensures.bad f refl (λ m. other (e ∙ m)) in
    let items = c.loop-line.script.lines.items in (
      h.0,
      inl (
        e ∙ h.1,
        record {
          done = items;
          place = c.loop-line.reader;
          header = c.loop-line.script.header;
          line = c.in-Some.line.now;
          rest = c.in-Some.behind.now;
          script = c.loop-line.invariant.read;
          whole = c.in-Some.ensures.0;
          bad = h.3;
          other = c.if-is_text.ensures;
          input = c.loop-line.invariant.front ∙ ap (λ r. script_text items ++ r) c.in-Some.ensures.1;
          is = h.2;
        },
      ),
    )

pub loop-line-preserved : goal.loop-line-preserved
loop-line-preserved c =
    let t = c.in_ok-take.ensures.taken c.in-Some.ensures.0 in
    let items = c.loop-line.script.lines.items in
    let behind = c.in-Some.behind.now in
    record {
      header = c.in_ok-take.ensures.header c.loop-line.invariant.header;
      read = script_next c.loop-line.reader c.take.new.reader c.loop-line.script.header c.take.new.script.header items c.take.new.script.lines.items t.1 t.0 c.in-Some.line.now c.loop-line.invariant.read t.4 t.3 c.if-is_text.ensures t.2 t.5 t.6;
      front =
          front_more items t.1 c.in-Some.line.now c.args.bytes.now c.loop-line.rest.now behind t.3 c.loop-line.invariant.front c.in-Some.ensures.1 ∙ ap (λ ls. script_text ls ++ behind) (sym t.2);
    }
