use Rattle.std.proofs.Common.{◌≡◌, map, ◌∙◌, ap, sym, subst}
use Rattle.arj_model.specs.Actions.{tops_in, uids}
use Rattle.arj_model.specs.Table.{granted_row, path_by}
use Rattle.arj_standing.specs.Begun.{links, tops_of_links}
use Rattle.arj_standing.specs.Held.{shown}
use Rattle.arj_standing.proofs.Paths.{by_uid, tops_of, uids_of_links}
use Rattle.arj_standing.proofs.node.granted.Goals as goal

pub returns : goal.returns
returns c = λ us has.
    let path : c.path_of-path.result.now ≡ links (path_by us c.args.action) =
    c.path_of-path.ensures ∙ by_uid us c.args.begun.now has c.args.action in
    let holder : c.in_ok-uids_of.field-0 ≡ uids (path_by us c.args.action) =
    c.in_ok-uids_of.ensures ∙ ap (map (λ k. k.uid)) path ∙ uids_of_links (path_by us c.args.action) in
    let tops : c.tops_of.result ≡ tops_in (path_by us c.args.action) =
    c.tops_of.ensures ∙ ap tops_of_links path ∙ tops_of (path_by us c.args.action) in
    (λ i. record { object = c.args.object; holder = holder i; tops = tops i; mode = c.args.mode })
    ∙ (λ i. granted_row (sym c.if-again.false i) us c.args.action c.args.object c.args.mode)
