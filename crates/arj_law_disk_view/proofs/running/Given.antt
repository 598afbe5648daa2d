-- What servers vote is used.
use Rattle.arj_law_parts.proofs.Words
use Words.{List, [], ◌∷◌, inl, inr, ObjectState, Seen}
use Words.list
use Words.commit
use Rattle.arj_law_disk_view.proofs.Terms.{Among, votes_used, KnowsScript, GivesVotes}

pub listed : (s : ObjectState) (states : List ObjectState) → Among s states → list.In s states
listed s [] i = absurd i
listed s (t ∷ ts) (inl same) = inl same
listed s (t ∷ ts) (inr i) = inr (listed s ts i)

pub gives_votes : (R : Seen → Type 0) → GivesVotes (λ M. R M × KnowsScript M)
gives_votes R acts k d t M h good from m a states sent is q p left found now req on s i = let u = votes_used k d t M h.1.0.1.1 from m a
    states sent is q (commit.Voting p left) found now s (listed s states i) in record { used = u.0; found = u.1; server = u.2 }
