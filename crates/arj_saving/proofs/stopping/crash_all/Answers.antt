-- node after node
use Rattle.std.proofs.Common.{◌≤◌, ◌++◌, ◌+◌, ◌∷◌, [], Err, ap, arith, length, refl, subst, sym, take, drop, get_or}
use Rattle.std.proofs.lemmas.List.{length-take-le, take_all, take_more}
use Rattle.arj_saving.proofs.Crashing.{comes_then, crashed_then, cut_at, limit_then, none_crashed}
use Rattle.arj_saving.specs.Stops.{HasCrashed, crashes, moment}
use Rattle.arj_saving.specs.declared.stopping.Stop.TheVariants.{Limit, Memory}
use Rattle.arj_world.proofs.Disks.{same_fault}
use Rattle.arj_saving.proofs.stopping.crash_all.Goals as goal

pub loop-node-init : goal.loop-node-init
loop-node-init g c = none_crashed g.M.Machine (moment c.args.rack.now c.args.machine.now c.args.journal.now) c.requires.going

pub crash-requires-clause-room : goal.crash-requires-clause-room
crash-requires-clause-room g c =
    let i = c.loop-node.invariant in
    omega (arith, i.steps, c.requires.room, c.loop-node-test.true, length-take-le c.loop-node.node-index c.args.nodes.now (omega (arith, c.loop-node-test.true)))

pub crash-requires-clause-going : goal.crash-requires-clause-going
crash-requires-clause-going g c = let i = c.loop-node.invariant in i.going

pub crash-requires-clause-ran : goal.crash-requires-clause-ran
crash-requires-clause-ran g c =
    let i = c.loop-node.invariant in
    let r = c.requires.ran in
    (r.0, r.1, r.2 ++ crashes (take c.loop-node.node-index c.args.nodes.now), i.ran r.0 r.1 r.2 r.3)

pub loop-node-preserved : goal.loop-node-preserved
loop-node-preserved g c =
    let nodes = c.args.nodes.now in
    let k = c.loop-node.node-index in
    let old = moment c.args.rack.now c.args.machine.now c.args.journal.now in
    let now = moment c.loop-node.rack c.loop-node.machine c.loop-node.journal in
    let next = moment c.crash.new.rack c.crash.new.machine c.crash.new.journal in
    subst (λ xs. HasCrashed g.M.Machine xs old next) (sym (take_more nodes k 0 c.loop-node-test.true))
    (crashed_then g.M.Machine (take k nodes) (get_or nodes k 0 ∷ []) old now next c.loop-node.invariant c.in-Ok.ensures.crashed)

pub returns-in-Err-clause-limit : goal.returns-in-Err-clause-limit
returns-in-Err-clause-limit g c is =
    let nodes = c.args.nodes.now in
    let k = c.loop-node.node-index in
    let old = moment c.args.rack.now c.args.machine.now c.args.journal.now in
    let now = moment c.loop-node.rack c.loop-node.machine c.loop-node.journal in
    let next = moment c.crash.new.rack c.crash.new.machine c.crash.new.journal in
    limit_then g.M.Machine nodes (take k nodes) (get_or nodes k 0 ∷ []) (drop (k + 1) nodes) old now next (cut_at nodes k 0 c.loop-node-test.true)
    c.loop-node.invariant (c.in-Err.ensures.limit (ap Err (same_fault (Err c.in-Err.stop) c.in-Err.stop Limit refl is)))

pub returns-in-Err-clause-memory : goal.returns-in-Err-clause-memory
returns-in-Err-clause-memory g c is =
    let nodes = c.args.nodes.now in
    let k = c.loop-node.node-index in
    let old = moment c.args.rack.now c.args.machine.now c.args.journal.now in
    let now = moment c.loop-node.rack c.loop-node.machine c.loop-node.journal in
    comes_then g.M.Machine nodes (take k nodes) (get_or nodes k 0 ∷ []) (drop (k + 1) nodes) old now c.crash.new.rack (cut_at nodes k 0 c.loop-node-test.true)
    c.loop-node.invariant (c.in-Err.ensures.memory (ap Err (same_fault (Err c.in-Err.stop) c.in-Err.stop Memory refl is)))

pub returns-clause-crashed : goal.returns-clause-crashed
returns-clause-crashed g c =
    let nodes = c.args.nodes.now in
    let old = moment c.args.rack.now c.args.machine.now c.args.journal.now in
    let now = moment c.loop-node.rack c.loop-node.machine c.loop-node.journal in
    let ends : length nodes ≤ c.loop-node.node-index = c.loop-node-test.false in
    subst (λ xs. HasCrashed g.M.Machine xs old now) (take_all c.loop-node.node-index nodes ends) c.loop-node.invariant
