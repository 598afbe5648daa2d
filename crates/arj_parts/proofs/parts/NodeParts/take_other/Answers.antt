use Rattle.std.proofs.Common.{ap, Err}
use Rattle.arj_core.specs.declared.node.CoreFault.TheVariants.{Halted}
use Rattle.arj_parts.proofs.Performed.{same_fault}
use Rattle.arj_parts.proofs.parts.NodeParts.take_other.Goals as goal

pub returns-in_ok-told-in-Told-clause-done : goal.returns-in_ok-told-in-Told-clause-done
returns-in_ok-told-in-Told-clause-done g c = rw c.in-Told.is c.in_ok-told-in-Told.ensures.done

pub returns-in_err-told-in-Told-clause-halted : goal.returns-in_err-told-in-Told-clause-halted
returns-in_err-told-in-Told-clause-halted g c = λ halted.
    rw c.in-Told.is (c.in_err-told-in-Told.ensures.halted (ap Err (same_fault c.from_residual.result c.in_err-told-in-Told.field-0.0 Halted c.from_residual.ensures.1 halted)))

pub returns-in-Acked-clause-done : goal.returns-in-Acked-clause-done
returns-in-Acked-clause-done g c = rw c.in-Acked.is c.acknowledge.ensures.done

pub returns-in-Acked-clause-halted : goal.returns-in-Acked-clause-halted
returns-in-Acked-clause-halted g c = rw c.in-Acked.is c.acknowledge.ensures.halted

pub returns-in_ok-query-in-Query-clause-done : goal.returns-in_ok-query-in-Query-clause-done
returns-in_ok-query-in-Query-clause-done g c = rw c.in-Query.is c.in_ok-query-in-Query.ensures.done

pub returns-in_err-query-in-Query-clause-halted : goal.returns-in_err-query-in-Query-clause-halted
returns-in_err-query-in-Query-clause-halted g c = λ halted.
    rw c.in-Query.is (c.in_err-query-in-Query.ensures.halted (ap Err (same_fault c.from_residual-in_err-query-in-Query.result c.in_err-query-in-Query.field-0.0 Halted c.from_residual-in_err-query-in-Query.ensures.1 halted)))

pub returns-in_ok-hello-in-Hello-clause-done : goal.returns-in_ok-hello-in-Hello-clause-done
returns-in_ok-hello-in-Hello-clause-done g c = rw c.in-Hello.is (c.in_ok-hello-in-Hello.ensures (g.D.Disk.file c.args.disk.now) c.args.from)
