use Rattle.std.proofs.Common.{◌∙◌, ap, sym, ◌≡◌}
use Rattle.arj_asking.proofs.Sending.{step_asked}
use Rattle.arj_asking.specs.Sent.{asked}
use Rattle.arj_protocol.specs.Tree.{ends_of, root_of}
use Rattle.arj_protocol.specs.Words.{Path}
use Rattle.arj_asking.proofs.requests.of_steps.Goals as goal

pub returns : goal.returns
returns c = λ d tree.
    let s = c.args.steps.now in
    let r = c.in_ok-asked.asked in
    let root_is : c.root.result ≡ root_of s.path = c.root.ensures ∙ ap (λ (p : Path). root_of p) c.path.ensures in
    let ends_are : c.ends.result.now ≡ ends_of (root_of s.path) d.tree = c.ends.ensures ∙ (λ i. ends_of (root_is i) (sym tree i)) in
    (λ i. asked (record { path = c.path.ensures i; invoke = c.invokes.result; node = r.0; request = r.1 }) d)
    ∙ step_asked s d c.ends.result.now c.invokes.result r.0 r.1 ends_are (c.invokes.ensures c.ends.result.now) c.in_ok-asked.ensures.node c.in_ok-asked.ensures.request
