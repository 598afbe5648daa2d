-- nodes that are there
use Rattle.std.proofs.Common.{◌≡◌, ◌∙◌, subst, sym}
use Rattle.std.specs.Option.{MatchOption}
use Rattle.arj_nodes.specs.AsMachine.{all_nodes}
use Rattle.arj_saving.specs.Comes.{HasScript}
use Rattle.arj_saving.specs.Saved.{RanScript}
use Rattle.arj_saving.specs.Stops.{moment}
use Rattle.arj_world.proofs.Disks.{some_one}
use Rattle.arj_saving.proofs.imaging.say_nodes.Goals as goal

pub say_stopped-requires : goal.say_stopped-requires
say_stopped-requires g c = record {
  script = subst (λ o. MatchOption o ⊥ (λ all. HasScript (all_nodes g.C.Core g.D.Disk) (moment c.args.rack.now all c.args.journal.now))) c.in-Some.is c.requires.script;
}

pub returns : goal.returns
returns g c all is given first s =
    let same : all ≡ c.in-Some.nodes = some_one all c.in-Some.nodes (sym is ∙ c.in-Some.is) in
    c.say_stopped.ensures given first (subst (λ n. RanScript (all_nodes g.C.Core g.D.Disk) given first (moment c.args.rack.now n c.args.journal.now)) same s)
