-- a turn, by what it gives
use Rattle.std.proofs.Common.{◌+◌, None, Some}
use Rattle.std.proofs.lemmas.Result.{on_ok_weaker}
use Rattle.arj_progrun.proofs.Driven.{nothing_given, same_turn, turn_stepped}
use Rattle.arj_progrun.proofs.InForm.{turn_takes}
use Rattle.arj_progrun.specs.Kept.{standing_of}
use Rattle.arj_progrun.proofs.run.run_turn.Goals as goal

pub step-requires-clause-takes : goal.step-requires-clause-takes
step-requires-clause-takes g c =
    turn_takes g.N.Nodes c.args.turn (g.N.Nodes.stepped c.args.nodes.now c.args.on.now) (standing_of c.args.schedule.now)
    (standing_of c.turn.new.self)
    c.args.schedule.now.nodes c.in-Own.event None c.requires.driven (rw c.in-Own.is at c.in_ok-turn.ensures.gives)

pub step-requires-in-By-clause-takes : goal.step-requires-in-By-clause-takes
step-requires-in-By-clause-takes g c =
    turn_takes g.N.Nodes c.args.turn (g.N.Nodes.stepped c.args.nodes.now c.args.on.now) (standing_of c.args.schedule.now)
    (standing_of c.turn.new.self)
    c.args.schedule.now.nodes c.in-By.event (Some c.in-By.at) c.requires.driven (rw c.in-By.is at c.in_ok-turn.ensures.gives)

pub returns-in-Nothing-clause-ran : goal.returns-in-Nothing-clause-ran
returns-in-Nothing-clause-ran g c plan same going d =
    nothing_given plan c.args.turn (g.N.Nodes.stepped c.args.nodes.now c.args.on.now) (standing_of c.args.schedule.now)
    (standing_of c.turn.new.self) going d
    (same_turn plan c.args.schedule.now.nodes c.args.turn (standing_of c.args.schedule.now) _ same
    (rw c.in-Nothing.is at c.in_ok-turn.ensures.gives))

pub returns-in-Own-clause-ran : goal.returns-in-Own-clause-ran
returns-in-Own-clause-ran g c =
    turn_stepped c.step.result c.args.turn c.in-Own.event None (g.N.Nodes.stepped c.args.nodes.now c.args.on.now)
    (g.N.Nodes.stepped c.step.new.nodes c.step.new.on)
    (standing_of c.args.schedule.now) (standing_of c.turn.new.self) (standing_of c.step.new.schedule) c.args.schedule.now.nodes
    (rw c.in-Own.is at c.in_ok-turn.ensures.gives) c.step.ensures.steps

pub returns-in-Own-clause-within : goal.returns-in-Own-clause-within
returns-in-Own-clause-within g c =
    on_ok_weaker c.step.result (λ keeps. keeps (c.args.turn + 1) c.in_ok-turn.ensures.within) c.step.ensures.within

pub returns-in-By-clause-ran : goal.returns-in-By-clause-ran
returns-in-By-clause-ran g c =
    turn_stepped c.step-in-By.result c.args.turn c.in-By.event (Some c.in-By.at) (g.N.Nodes.stepped c.args.nodes.now c.args.on.now)
    (g.N.Nodes.stepped c.step-in-By.new.nodes c.step-in-By.new.on)
    (standing_of c.args.schedule.now) (standing_of c.turn.new.self) (standing_of c.step-in-By.new.schedule) c.args.schedule.now.nodes
    (rw c.in-By.is at c.in_ok-turn.ensures.gives) c.step-in-By.ensures.steps

pub returns-in-By-clause-within : goal.returns-in-By-clause-within
returns-in-By-clause-within g c =
    on_ok_weaker c.step-in-By.result (λ keeps. keeps (c.args.turn + 1) c.in_ok-turn.ensures.within) c.step-in-By.ensures.within
