-- Each field is a law of its own.
use Rattle.arj_law_parts.proofs.Words
use Words.{Header, journal_by}
use Rattle.arj_law_runs.specs.follow.Frames.{run_events}
use Rattle.arj_promise.specs.Runs.{IsInForm, Run}
use Rattle.arj_law_cause.proofs.quiesces.Alone.{runs_answer_alone}
use Rattle.arj_law_cause.proofs.quiesces.Framed.{runs_send_few}
use Rattle.arj_law_cause.proofs.quiesces.Rounds.{runs_answer, runs_end_rounds}
use Rattle.arj_law_cause.proofs.quiesces.Settled.{runs_settle}
use Rattle.arj_law_cause.proofs.leading.Runs.{runs_fit}
use Rattle.arj_law_cause.proofs.rows.Whole.{conflicts_are_exact}
use Rattle.arj_law_cause.proofs.told.Every.{lines_have_causes}
use Rattle.arj_law_cause.proofs.told.Joined.{journals_follow}
use Rattle.arj_law_cause.proofs.waits.replies.Running.{replies_end}
use Rattle.arj_law_cause.specs.told.Runs.{JournalsTell}
use Rattle.arj_law_cause.specs.told.Told.{TellsQuiesces}

quiesces_told : (hd : Header) (r : Run hd) → IsInForm hd r → TellsQuiesces hd r.start (run_events hd r) (journal_by hd r)
quiesces_told hd r form = record {
  answers = runs_answer hd r form;
  rounds = runs_end_rounds hd r form;
  settles = runs_settle hd r form;
  alone = runs_answer_alone hd r form;
  sends = runs_send_few hd r form;
  fits = runs_fit hd r form;
}

pub journals_tell : JournalsTell
journals_tell hd r form = record {
  follows = journals_follow hd r form;
  causes = lines_have_causes hd r form;
  conflicts = conflicts_are_exact hd r form;
  replies = replies_end hd r form;
  quiesces = quiesces_told hd r form;
}
