-- what an event makes of the nodes, where they were formatted
use Rattle.std.proofs.lemmas.Result.{on_ok_weaker}
use Rattle.arj_nodes.specs.AllNodes.{task}
use Rattle.arj_nodes.proofs.all_nodes.AllNodesMachine.step.Goals as goal

pub run-requires-clause-ran : goal.run-requires-clause-ran
run-requires-clause-ran g c = let r = c.requires.ran in (task r.0 r.1 r.2, r.3)

pub returns-clause-ran : goal.returns-clause-ran
returns-clause-ran g c = on_ok_weaker c.run.result (λ p first header events. p (task first header events)) c.run.ensures.ran

pub returns-clause-labels : goal.returns-clause-labels
returns-clause-labels g c is first header events = c.run.ensures.labels is (task first header events)

pub returns-clause-frames : goal.returns-clause-frames
returns-clause-frames g c is first header events = c.run.ensures.frames is (task first header events)

pub returns-clause-moved : goal.returns-clause-moved
returns-clause-moved g c first header events = c.run.ensures.moved (task first header events)
