use Rattle.std.proofs.Common.{rules, ◌≡◌, ◌<◌, ◌≤◌, ◌+◌, ◌++◌, ◌∙◌, ap, append-nil, length, subst, sym}
use Rattle.std.specs.Prelude.{OnOk}
use Rattle.arj_last.proofs.Cuts.{next_unreadable, none_unreadable}
use Rattle.arj_last.specs.Told.{broken_text, unreadable_text}
use Rattle.arj_last.proofs.readable.put_unreadable.Goals as goal

pub returns-then-readable-lines : goal.returns-then-readable-lines
returns-then-readable-lines c = λ e.
    let le : length c.args.lines.now ≤ c.args.readable = search rules in
    sym (append-nil c.args.out.now)
    ∙ ap (λ o. c.args.out.now ++ unreadable_text o) (sym (none_unreadable c.args.header.now c.args.lines.now c.args.readable e le))

pub returns : goal.returns
returns c = λ e.
    let lt : c.args.readable < length c.args.lines.now = search rules in
    let one : c.saturating_add.result ≡ c.args.readable + 1 = search rules in
    let next = next_unreadable c.args.header.now c.args.lines.now c.args.readable e lt in
    subst (λ text. OnOk c.put_broken.result (c.put_broken.new.out ≡ c.args.out.now ++ text)) (ap broken_text (one ∙ next.2)
    ∙ sym (ap unreadable_text next.1)) c.put_broken.ensures
