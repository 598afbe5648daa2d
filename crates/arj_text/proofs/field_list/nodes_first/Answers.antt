use Rattle.std.proofs.Common.{arith}
use Rattle.arj_text.specs.Words.{list_text}
use Rattle.arj_text.specs.Fields.{NodesInForm}
use Rattle.arj_text.proofs.Texts.{none_first, some_first}
use Rattle.arj_text.proofs.Spaceless.{spaceless_nodes}
use Rattle.arj_text.proofs.field_list.nodes_first.Goals as goal

pub returns-in-Some-2 : goal.returns-in-Some-2
returns-in-Some-2 c =
    some_first 32 (NodesInForm c.args.n c.args.most) list_text (λ ns. spaceless_nodes c.args.n c.args.most ns (omega arith)) c.args.bytes.now c.in-Some.word.now c.in-Some.rest.now c.in-Some-2.found c.in-Some.ensures.0 c.in-Some.ensures.1 (rw c.in-Some-2.is at c.in_ok-found.ensures)

pub returns-in-None : goal.returns-in-None
returns-in-None c =
    none_first 32 (NodesInForm c.args.n c.args.most) list_text (λ ns. spaceless_nodes c.args.n c.args.most ns (omega arith)) c.args.bytes.now c.in-Some.word.now c.in-Some.rest.now c.in-Some.ensures.0 c.in-Some.ensures.1 (rw c.in-None.is at c.in_ok-found.ensures)
