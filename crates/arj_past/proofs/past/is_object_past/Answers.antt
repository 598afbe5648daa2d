use Rattle.std.proofs.Common.{◌≡◌, ◌∙◌, ◌+◌, arith, map}
use Rattle.arj_last.specs.Survivors.{wrote_of}
use Rattle.arj_model.specs.Last.{writes_of}
use Rattle.arj_past.proofs.Nodes.{of_more, of_none, one_fails}
use Rattle.arj_past.specs.Past.{HoldsPast}
use Rattle.arj_saved.specs.Saved.{disks_of}
use Rattle.arj_past.proofs.past.is_object_past.Goals as goal

pub loop-done-init : goal.loop-done-init
loop-done-init c = λ files o saved is. of_none (λ n. HoldsPast c.args.saved.now.header.now c.args.saved.now.lines.now (disks_of files n) c.args.x)

pub loop-done-preserved : goal.loop-done-preserved
loop-done-preserved c = λ files o saved is.
    let header = c.args.saved.now.header.now in
    let lines = c.args.saved.now.lines.now in
    let stands = saved.stands in
    let are : c.as_slice.result.now ≡ map wrote_of (writes_of lines c.args.x) = c.as_slice.ensures.value ∙ c.in_ok-wrotes.ensures lines stands.changes stands.writes in
    let past : HoldsPast header lines (disks_of files (c.loop-done.done + 1)) c.args.x = rw c.if-not-past.false at (c.in_ok-past.ensures files o saved is are) in
    of_more (λ n. HoldsPast header lines (disks_of files n) c.args.x) c.loop-done.done (c.loop-done.invariant files o saved is) past

pub returns-then-not-past : goal.returns-then-not-past
returns-then-not-past c = λ files o saved is.
    let header = c.args.saved.now.header.now in
    let lines = c.args.saved.now.lines.now in
    let stands = saved.stands in
    let are : c.as_slice.result.now ≡ map wrote_of (writes_of lines c.args.x) = c.as_slice.ensures.value ∙ c.in_ok-wrotes.ensures lines stands.changes stands.writes in
    let isnt : HoldsPast header lines (disks_of files (c.loop-done.done + 1)) c.args.x → ⊥ = rw c.if-not-past.true at (c.in_ok-past.ensures files o saved is are) in
    one_fails (λ n. HoldsPast header lines (disks_of files n) c.args.x) c.loop-done.done header.nodes c.loop-done-test.true isnt

pub returns : goal.returns
returns c = λ files o saved is n some few. c.loop-done.invariant files o saved is n some (omega (arith, few, c.loop-done-test.false))
