use Rattle.std.proofs.Common.{◌≡◌, sym, ap, Err}
use Rattle.arj_core.specs.declared.node.CoreFault.TheVariants.{Halted}
use Rattle.arj_node.proofs.Cores.{down_cut, down_did, none_there}
use Rattle.arj_node.proofs.Handled.{same_fault}
use Rattle.arj_protocol.specs.Step as protocol
use Rattle.arj_node.proofs.node.NodeCore.restart.Goals as goal

pub returns-in_err-parts-clause-halted : goal.returns-in_err-parts-clause-halted
returns-in_err-parts-clause-halted g c = λ halted header n node.
    let fault : c.in_err-parts.field-0.0 ≡ Halted =
    same_fault c.from_residual.result c.in_err-parts.field-0.0 Halted c.from_residual.ensures.1 halted in
    down_cut {P =
    g.row.P.Denot} g.P.Parts header c.args.self.now c.args.self.now.parts (g.D.Disk.file c.args.disk.now) (g.D.Disk.file c.restart.new.disk) protocol.Restart c.args.out.now c.restart.new.out
    (none_there c.args.self.now.parts c.if-is_some.ensures) (none_there c.args.self.now.parts c.if-is_some.ensures) (λ roster d rests. c.in_err-parts.ensures.halted (ap Err fault) header d (sym roster.nodes) rests) n node

pub returns-clause-done : goal.returns-clause-done
returns-clause-done g c =
    λ header n node. down_did {P =
    g.row.P.Denot} g.P.Parts header c.args.self.now c.in_ok-parts.parts (g.D.Disk.file c.args.disk.now) (g.D.Disk.file c.restart.new.disk) protocol.Restart c.args.out.now c.restart.new.out
    (none_there c.args.self.now.parts c.if-is_some.ensures) (λ roster d rests. c.in_ok-parts.ensures.done header d (sym roster.nodes) rests) n node
