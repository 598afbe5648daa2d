-- What an event asks.
use Rattle.arj_journal.specs.declared.event.Event.{Event}
use Rattle.arj_journal.specs.declared.event.Event.TheVariants as event
use Rattle.arj_journal.specs.declared.event.FrameNo.TheVariants as frame_no
use Rattle.arj_progrun.specs.Client.{Aborts, Ask, Begins, BeginsIn, Calls, Commits, GivesUp, LosesLast, Other, Quiesces, Settles, Ticks}
use Rattle.arj_text.specs.Label.{name}

-- what an event asks
abbrev pub ask_of : Event → Ask
ask_of (event.Begin l n) = Begins (name l) n
ask_of (event.BeginIn l p) = BeginsIn (name l) (name p)
ask_of (event.Call l x op) = Calls (name l) x op
ask_of (event.Commit l) = Commits (name l)
ask_of (event.Abort l) = Aborts (name l)
ask_of (event.GiveUp l) = GivesUp (name l)
ask_of (event.Tick n) = Ticks n
ask_of event.Settle = Settles
ask_of (event.Lose frame_no.Last) = LosesLast
ask_of event.Quiesce = Quiesces
ask_of _ = Other
