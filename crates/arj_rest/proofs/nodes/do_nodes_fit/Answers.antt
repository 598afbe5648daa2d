use Rattle.std.proofs.Common.{◌≡◌, ◌∙◌, ap, sym, true, false}
use Rattle.std.specs.List.{list_all}
use Rattle.arj_rest.proofs.Rests.{fit_test}
use Rattle.arj_rest.specs.Nodes.{line_fits}
use Rattle.arj_rest.proofs.nodes.do_nodes_fit.Goals as goal

pub returns-then-not-few : goal.returns-then-not-few
returns-then-not-few c = λ f. let never : true ≡ false = sym f.few ∙ sym c.are_few-few.ensures ∙ c.if-not-few.true in cc never

pub returns-then-not-fit : goal.returns-then-not-fit
returns-then-not-fit c = λ f.
    let never : true ≡ false = sym f.fits ∙ sym (c.do_lines_fit-fit.ensures ∙ ap (list_all (line_fits c.args.image.now)) c.as_slice.ensures) ∙ c.if-not-fit.true in cc never

pub returns : goal.returns
returns c = fit_test c.are_at_rest.result c.args.image.now (sym c.are_few-few.ensures ∙ c.if-not-few.false)
    (sym (c.do_lines_fit-fit.ensures ∙ ap (list_all (line_fits c.args.image.now)) c.as_slice.ensures) ∙ c.if-not-fit.false) c.are_at_rest.ensures
