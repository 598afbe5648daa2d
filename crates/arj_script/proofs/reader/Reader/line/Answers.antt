use Rattle.std.proofs.Common.{◌∙◌, sym, ap, arith}
use Rattle.arj_base.specs.declared.state.Format.TheVariants as format
use Rattle.arj_script.specs.Grammar.{Objects}
use Rattle.arj_script.specs.Stage.{place_of}
use Rattle.arj_script.proofs.Places.{taken_event, taken_format, taken_nodes, taken_object}
use Rattle.arj_script.proofs.reader.Reader.line.Goals as goal

pub returns-in_ok-nodes-in-Start-clause-taken : goal.returns-in_ok-nodes-in-Start-clause-taken
returns-in_ok-nodes-in-Start-clause-taken c =
    taken_nodes c.args.self.now (Objects (record { nodes = c.in_ok-nodes-in-Start.nodes; objects = c.new-objects.result.items; format = format.Two })) c.args.bytes.now c.in_ok-nodes-in-Start.nodes (sym c.self.view_is ∙ ap place_of c.in-Start.is) (ap (λ os. Objects (record { nodes = c.in_ok-nodes-in-Start.nodes; objects = os; format = format.Two })) c.new-objects.ensures.items) (omega arith) c.in_ok-nodes-in-Start.ensures.ok

pub returns-in_ok-object_line-in-Objects-clause-taken : goal.returns-in_ok-object_line-in-Objects-clause-taken
returns-in_ok-object_line-in-Objects-clause-taken c =
    taken_object c.args.self.now c.args.bytes.now (record { nodes = c.in-Objects.nodes; objects = c.in-Objects.objects.items; format = c.in-Objects.format }) c.object_line.new.objects.items (sym c.self.view_is ∙ ap place_of c.in-Objects.is) (omega arith) c.in_ok-object_line-in-Objects.ensures.ok

pub returns-in_ok-event-in-Running-clause-taken : goal.returns-in_ok-event-in-Running-clause-taken
returns-in_ok-event-in-Running-clause-taken c =
    taken_event c.args.self.now (place_of c.self.inside.stage) c.args.bytes.now c.in_ok-event-in-Running.event (sym c.self.view_is ∙ ap place_of c.in-Running.is) (ap place_of c.in-Running.is) (omega arith) c.in_ok-event-in-Running.ensures.ok
