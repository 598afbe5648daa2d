-- Where the reader stands, seen as a place of the grammar.
use Rattle.arj_script.specs.declared.stage.Stage.{Stage}
use Rattle.arj_script.specs.declared.stage.Stage.TheVariants as stage
use Rattle.arj_script.specs.Grammar.{Place, Start, Objects, Running}

-- the place of a stage
abbrev pub place_of : Stage → Place
place_of stage.Start = Start
place_of (stage.Objects nodes format objects) = Objects (record { nodes = nodes; objects = objects.items; format = format })
place_of stage.Running = Running
