use Rattle.std.proofs.Common.{ap, not, ◌&&◌, ◌||◌}
use Rattle.std.specs.Prelude.{is_some}
use Rattle.arj_protocol.specs.Ask.{actor}
use Rattle.arj_protocol.specs.Step.{waits_above, waits_below, sibling_waits, is_below_16, is_misplaced, class_at, lacks_op}
use Rattle.arj_protocol.specs.Tree.{has_open_child, has_many_actions, has_many_objects, is_too_deep}
use Rattle.arj_tree.proofs.Refusals.{begins, calls, includes, commits, aborts}
use Rattle.arj_tree.proofs.laws.refusals_are_the_protocols.Goals as goal
use Rattle.arj_start.specs.Kinds.{is_serial}

pub returns-clause-begin : goal.returns-clause-begin
returns-clause-begin c k b d free =
    begins (is_some b.ended) (waits_above b d) (is_misplaced k b) b.doomed (is_below_16 k && is_too_deep b) (is_below_16 k && has_many_actions b d.tree) free

pub returns-clause-call : goal.returns-clause-call
returns-clause-call c hd x o b d free known has =
    calls (is_some b.ended) (waits_above b d || waits_below b d) (is_serial b.kind) b.doomed (not (is_some (class_at x hd))) (lacks_op o (class_at x hd)) (has_many_objects b x d.tree) free (ap not known) has

pub returns-clause-include : goal.returns-clause-include
returns-clause-include c hd x b d free known =
    includes (is_some b.ended) (waits_above b d || waits_below b d) (is_serial b.kind) b.doomed (not (is_some (class_at x hd))) (has_many_objects b x d.tree) free (ap not known)

pub returns-clause-commit : goal.returns-clause-commit
returns-clause-commit c b d free =
    commits (is_some b.ended) (waits_above b d || waits_below b d || sibling_waits b d) (has_open_child (actor b.path) d.tree) free

pub returns-clause-abort : goal.returns-clause-abort
returns-clause-abort c b d free = aborts (is_some b.ended) (waits_above b d || waits_below b d) free
