use Rattle.std.proofs.Common.{rules, ◌≡◌, true, false}
use Rattle.arj_model.specs.Actions.{committed, recovered}
use Rattle.arj_check.proofs.tops.called_top.Goals as goal
use Rattle.std.proofs.Common.{◌∙◌, ap, sym, cond, slice_get, Some, None}
use Rattle.arj_check.specs.Keys.{is_committed_top}
use Rattle.arj_check.proofs.Survive.{mark_top, top_kept}

pub returns-in_default : goal.returns-in_default
returns-in_default c =
    λ lines has. mark_top (committed lines) (recovered lines) lines c.args.mark.action c.args.mark.at None (sym c.in_default.is ∙ c.kept.ensures ∙ ap (λ xs. slice_get xs c.args.mark.action) has.list)

pub returns-in_default-top : goal.returns-in_default-top
returns-in_default-top c =
    λ lines has. sym (ap (top_kept (committed lines) (recovered lines) c.args.mark.at (Some c.in-Some.action)) c.in_default-top.is) ∙ mark_top (committed lines) (recovered lines) lines c.args.mark.action c.args.mark.at (Some c.in-Some.action) (sym c.in-Some.is ∙ c.kept.ensures ∙ ap (λ xs. slice_get xs c.args.mark.action) has.list)

pub returns-then-not-is_committed : goal.returns-then-not-is_committed
returns-then-not-is_committed c = λ lines has.
    let no : c.is_committed.result ≡ false = search rules in
    let test : false ≡ is_committed_top (committed lines) (recovered lines) c.in-Some-top.top = sym no ∙ c.is_committed.ensures lines has in
    (λ k. cond (test k) (Some (record {
      id = c.in-Some-top.top.number;
      root = c.in-Some.action.root;
      at =
          c.args.mark.at;
    })) None) ∙ sym (ap (top_kept (committed lines) (recovered lines) c.args.mark.at (Some c.in-Some.action)) c.in-Some-top.is) ∙ mark_top (committed lines) (recovered lines) lines c.args.mark.action c.args.mark.at (Some c.in-Some.action) (sym c.in-Some.is ∙ c.kept.ensures ∙ ap (λ xs. slice_get xs c.args.mark.action) has.list)

pub returns : goal.returns
returns c = λ lines has.
    let is : c.is_committed.result ≡ true = search rules in
    let test : true ≡ is_committed_top (committed lines) (recovered lines) c.in-Some-top.top = sym is ∙ c.is_committed.ensures lines has in
    (λ k. cond (test k) (Some (record {
      id = c.in-Some-top.top.number;
      root = c.in-Some.action.root;
      at =
          c.args.mark.at;
    })) None) ∙ sym (ap (top_kept (committed lines) (recovered lines) c.args.mark.at (Some c.in-Some.action)) c.in-Some-top.is) ∙ mark_top (committed lines) (recovered lines) lines c.args.mark.action c.args.mark.at (Some c.in-Some.action) (sym c.in-Some.is ∙ c.kept.ensures ∙ ap (λ xs. slice_get xs c.args.mark.action) has.list)
