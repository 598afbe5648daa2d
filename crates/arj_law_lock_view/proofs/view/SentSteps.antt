-- What was sent to a server is shown when it comes.
use Rattle.arj_law_lock_view.proofs.view.ShownSteps.{ended_are_shown}
use Rattle.arj_law_lock_view.specs.view.Sent.{SentAreShown}

pub sent_are_shown : SentAreShown
sent_are_shown v h a s S reached whole of fits sent = record {
  reached = reached;
  whole = whole;
  server = of;
  fits = fits;
  says = sent.says;
  wanted = sent.wanted;
  shown = λ u e k fresh. ended_are_shown v u e S (sent.ended u e k);
}
