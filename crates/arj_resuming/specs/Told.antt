-- What a reader of a script tells of events.
use Rattle.std.specs.Prelude.{List, [], ◌∷◌}
use Rattle.arj_journal.specs.declared.event.Event.{Event}
use Rattle.arj_script.specs.declared.reader.Item.{Item}
use Rattle.arj_script.specs.declared.reader.Item.TheVariants as item

-- the event that a line was, if it was one
abbrev pub told_events : Item → List Event
told_events (item.Event e) = e ∷ []
told_events _ = []
