use Rattle.std.proofs.Common.{◌∙◌, ap, ◌≡◌, ◌++◌}
use Rattle.std.proofs.lemmas.Result.{on_ok_weaker}
use Rattle.arj_asking.proofs.Sending.{step_asked}
use Rattle.arj_asking.specs.Sent.{goes_to}
use Rattle.arj_protocol.specs.Coord.{Coord}
use Rattle.arj_protocol.specs.Effect.{Did}
use Rattle.arj_protocol.specs.Tree.{ends_of, root_of}
use Rattle.arj_protocol.specs.Words.{Path}
use Rattle.arj_asking.proofs.requests.send_step.Goals as goal

pub returns-clause-part : goal.returns-clause-part
returns-clause-part c =
    let s = c.args.steps.now in
    let old = c.args.coord.now in
    let r = c.in_ok-asked.asked in
    let root_is : c.root.result ≡ root_of s.path = c.root.ensures ∙ ap (λ (p : Path). root_of p) c.path-path.ensures in
    let ends_are : c.ends.result.now ≡ ends_of (root_of s.path) old.tree =
    c.ends.ensures ∙ (λ i. ends_of (root_is i) (c.tree.ensures i)) in
    on_ok_weaker c.note_sent.result
    (λ sent. sent ∙ (λ i. goes_to (c.path-path.ensures i) c.invokes.result r.0 old)
    ∙ ap (λ (d : Did Coord). d.part) (step_asked s old c.ends.result.now c.invokes.result r.0 r.1 ends_are (c.invokes.ensures c.ends.result.now) c.in_ok-asked.ensures.node c.in_ok-asked.ensures.request))
    c.note_sent.ensures

pub returns-clause-outs : goal.returns-clause-outs
returns-clause-outs c =
    let s = c.args.steps.now in
    let old = c.args.coord.now in
    let r = c.in_ok-asked.asked in
    let root_is : c.root.result ≡ root_of s.path = c.root.ensures ∙ ap (λ (p : Path). root_of p) c.path-path.ensures in
    let ends_are : c.ends.result.now ≡ ends_of (root_of s.path) old.tree =
    c.ends.ensures ∙ (λ i. ends_of (root_is i) (c.tree.ensures i)) in
    on_ok_weaker c.note_sent.result
    (λ sent. c.in_ok-send.ensures
    ∙ ap (λ (d : Did Coord). c.args.outs.now ++ d.outs) (step_asked s old c.ends.result.now c.invokes.result r.0 r.1 ends_are (c.invokes.ensures c.ends.result.now) c.in_ok-asked.ensures.node c.in_ok-asked.ensures.request))
    c.note_sent.ensures
