use Rattle.arj_law_cause.proofs.kinds.Denied.{denials_fit}
use Rattle.arj_law_cause.proofs.told.Joined.{journals_follow}
use Rattle.arj_law_cause.proofs.causes.denials_have_causes.Goals as goal
use Rattle.arj_law_runs.specs.follow.Frames.{run_events}
use Rattle.arj_promise.specs.Runs.{journal_by}

pub returns : goal.returns
returns c = record { denied = λ hd r form. denials_fit hd r.start (run_events hd r) (journal_by hd r) (journals_follow hd r form) }
