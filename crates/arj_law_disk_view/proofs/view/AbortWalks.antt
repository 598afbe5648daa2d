-- A top that is aborted, walked through at its coordinator.
use Rattle.arj_law_parts.proofs.Words
use Words.{◌≡◌, ℕ, true, false, ap, Kind, Voting, Preparing, Confirming, Now, Idle, Calling, Committing}
use Words.kind
use Rattle.arj_law_disk_view.proofs.Terms.{State, is_gone, never, Kinds, Works, WorksBy}

-- an open top isn't at its end
works_open : (x : ℕ) (S : State) (t : ℕ) (now : Now) → WorksBy x S t now → is_gone (S.stage t) ≡ false
works_open x S t Idle w = ap is_gone w
works_open x S t (Calling s) w = ap is_gone w
works_open x S t (Committing (Voting p left)) w = ap is_gone w
works_open x S t (Committing (Preparing p left)) w = ap is_gone w.stage
works_open x S t (Committing (Confirming p)) w = ap is_gone w.stage

pub top_open : (x : ℕ) (tops : Kinds) (S : State) (t : ℕ) (k : Kind) (now : Now) → tops.is_top t ≡ true → Works x tops S t k now →
    is_gone (S.stage t) ≡ false
top_open x tops S t kind.Nested now top w = absurd (never top w)
top_open x tops S t kind.Serial now top w = absurd (never top w.0)
top_open x tops S t kind.Top now top w = works_open x S t now w.1
top_open x tops S t kind.Independent now top w = works_open x S t now w.1
top_open x tops S t kind.Constituent now top w = works_open x S t now w.1
