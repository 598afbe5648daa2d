use Rattle.arj_law_nodes.proofs.{cores.Reading.parts_rest, cores.Reading.parts_stand, nodes.Standing.nodes_say}
use Rattle.arj_law_nodes.proofs.cores_cores.cores_say_their_readings.Goals as goal

pub returns : goal.returns
returns g c =
    nodes_say _ _ (record { down = λ header k file d r. parts_rest _ k file d r; up = λ header k one file h s. parts_stand _ k _ file h s })
