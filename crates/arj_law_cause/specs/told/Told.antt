-- What a journal says of why it is so, by the header, by what the run began with, by its events and its own lines alone. Each field but
-- `rounds`, `settles` and `fits` goes event by event: of an event, of what was before it, and of the lines that it wrote.
use Rattle.std.specs.Prelude.{List}
use Rattle.arj_journal.specs.declared.body.Line.{Line}
use Rattle.arj_journal.specs.declared.event.Event.{Event}
use Rattle.arj_journal.specs.declared.header.Header.{Header}
use Rattle.arj_model.specs.Caused.{JHasCauses}
use Rattle.arj_model.specs.Follows.{Follows, Runs}
use Rattle.arj_start.specs.Start.{Start}
use Rattle.arj_law_cause.specs.rounds.Alone.{AloneStep}
use Rattle.arj_law_cause.specs.rounds.Fits.{FewFit}
use Rattle.arj_law_cause.specs.rounds.Quiesces.{QuiescesStep}
use Rattle.arj_law_cause.specs.rounds.Rounds.{EndsRounds}
use Rattle.arj_law_cause.specs.rounds.Sends.{SendsStep}
use Rattle.arj_law_cause.specs.rounds.Settles.{SettlesAnswer}
use Rattle.arj_law_cause.specs.rows.Lines.{ExactStep}
use Rattle.arj_law_cause.specs.waits.replies.Ends.{RepliesStep}

-- What quiesces and settles answer, what rounds of quiesces leave, and how many frames events send.
pub record TellsQuiesces (hd : Header) (st : Start) (es : List Event) (journal : List Line) : Type 0 where
  -- a quiesce in which no node is down, and no limit met, answers whoever waits, but for calls that are overtaken
  pub answers : Runs (QuiescesStep hd) st es journal
  -- a round of such quiesces, with giveups of what waits between them, ends with a line that all is quiet
  pub rounds : EndsRounds hd st es journal
  -- where a node asked again, and nothing is lost since, a settle leaves there only calls waiting that are overtaken
  pub settles : SettlesAnswer hd st es journal
  -- on one node nobody waits for a quiesce: what is asked is answered in its own event
  pub alone : Runs (AloneStep hd) st es journal
  -- an event sends so many frames at most
  pub sends : Runs (SendsStep hd) st es journal
  -- few events meet no limit of frames
  pub fits : FewFit hd es journal

-- All of this, and what each event writes.
pub record TellsItsCauses (hd : Header) (st : Start) (es : List Event) (journal : List Line) : Type 0 where
  -- The journal follows its events: an event is refused for its lowest cause, or as an action is doomed, which the journal dooms; else it
  -- writes its own lines, between them such as may stand there, each answer to what was asked, and its end.
  pub follows : Follows hd st es journal
  -- each line has its cause, by the header, by what the run began with, by the events and by the lines before it
  pub causes : JHasCauses hd st es journal
  -- A line that answers a call or an include says a conflict exactly where a lock stands against it, or a store has another top's state in
  -- doubt: at a place of its span, which on one node is the event itself.
  pub conflicts : Runs (ExactStep hd) st es journal
  -- a line that answers a call or an include is to the one that its action waits for, and behind it that waits for none
  pub replies : Runs (RepliesStep hd) st es journal
  pub quiesces : TellsQuiesces hd st es journal
