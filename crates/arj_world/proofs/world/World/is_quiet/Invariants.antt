-- those that were asked are quiet
use Rattle.std.proofs.Common.{◌≡◌, List, drop}
use Rattle.std.specs.List.{list_all}
use Rattle.arj_journal.specs.declared.header.Header.{Header}
use Rattle.arj_protocol.specs.Step.{Node, is_idle}
use Rattle.arj_world.specs.Stands.{AreSomeNodes}
use Rattle.arj_world.proofs.world.World.is_quiet.Given as goal

abbrev pub invariant-loop-core : goal.invariant-loop-core
invariant-loop-core g l =
    (header : Header) (nodes : List Node) → AreSomeNodes g.C.Core header l.self.cores nodes →
    list_all is_idle nodes ≡ list_all is_idle (drop l.core-index nodes)
