-- Where the lines that are left lead to, there all of them lead.
use Rattle.std.proofs.Common.{◌-◌}
use Rattle.arj_main.specs.Pieces.{pieces}
use Rattle.arj_main.specs.Places.{Leads}
use Rattle.arj_script.specs.Grammar.{Place, Start}
use Rattle.arj_main.proofs.place.place_of_line.Given as goal

abbrev pub invariant-loop : goal.invariant-loop
invariant-loop l = (to : Place) → Leads l.reader (l.before - l.counter) (pieces 10 l.rest) to → Leads Start l.before (pieces 10 l.script) to
