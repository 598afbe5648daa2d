use Rattle.arj_law_cause.proofs.waits.lost.Running.{giveups_lose}
use Rattle.arj_law_cause.proofs.waiting.giveups_lose_calls.Goals as goal

pub returns : goal.returns
returns c = record { runs = λ hd r form. giveups_lose hd r form }
