use Rattle.std.proofs.Common.{◌∙◌, ap, filter}
use Rattle.arj_protocol.specs.Node.{is_earlier}
use Rattle.arj_serve.proofs.Holding.{hello_handled}
use Rattle.arj_serve.proofs.services.Services.hello.Goals as goal

pub returns : goal.returns
returns g c = λ file lines.
    let o = g.O.ObjectStore in
    let m = c.args.m.now in
    hello_handled o m c.args.self.now c.greet.new.self c.in_ok-held.held c.in_ok-earlier.earlier file lines (λ d stands e. c.in_ok-held.ensures file d stands e)
    (c.in_ok-earlier.ensures ∙ ap (filter (is_earlier m.node m.inc)) c.as_slice.ensures)
    c.greet.ensures
