-- What a commit uses stays the same at each of its steps.
use Rattle.arj_law_parts.proofs.Words
use Words.{ℕ, List, [], ◌∷◌, PreparedReply, Uid, VotedReply, Reply, Confirming, Machine, Plan, Preparing, Used, Voting, begin_confirm}
use Words.{begin_prepare, begin_vote, marks_store, marks_stores, plan_of, servers_of, stores_left, targets_of, votes_left}
use Words.confirmed
use Words.prepared
use Words.voted
use Words.commit
use Rattle.arj_law_lock_view.proofs.facts.CommitCoords.{IsNext}
use Rattle.arj_protocol.specs.Commit.{answered, given_up, prepared_by, start, voted_by}

-- what holds of what the plan of a commit under way uses
module _ (Q : Uid → List Used → Type 0) where
  abbrev pub UsesSo : Uid → Machine → Type 0
  UsesSo u m = Q u (let p = plan_of m in p.used)

  module _ (u : Uid) where
    confirm_uses : (p : Plan) → Q u p.used → IsNext UsesSo u (begin_confirm p.used p)
    confirm_uses p its = by p.used
      where
        by : (us : List Used) → IsNext UsesSo u (begin_confirm us p)
        by [] = tt
        by (v ∷ vs) = its

    prepare_uses : (p : Plan) → Q u p.used → IsNext UsesSo u (begin_prepare (targets_of p) p)
    prepare_uses p its = by (targets_of p)
      where
        by : (ns : List ℕ) → IsNext UsesSo u (begin_prepare ns p)
        by [] = confirm_uses p its
        by (n ∷ ns) = its

    votes_use : (p : Plan) → Q u p.used → (left : List ℕ) → IsNext UsesSo u (votes_left left p)
    votes_use p its [] = prepare_uses p its
    votes_use p its (n ∷ ns) = its

    stores_use : (p : Plan) → Q u p.used → (left : List ℕ) → IsNext UsesSo u (stores_left left p).step
    stores_use p its [] = confirm_uses p its
    stores_use p its (n ∷ ns) = its

    marks_use : (ns : List ℕ) (p : Plan) → Q u p.used → Q u (marks_stores ns p).used
    marks_use [] p its = its
    marks_use (n ∷ ns) p its = marks_use ns (marks_store n p) its

    -- the start
    pub start_uses : (p : Plan) → Q u p.used → IsNext UsesSo u (start p).step
    start_uses p its = by (servers_of p)
      where
        by : (ns : List ℕ) → IsNext UsesSo u (begin_vote ns p)
        by [] = prepare_uses p its
        by (n ∷ ns) = its

    voted_uses : (from : ℕ) (left : List ℕ) (p : Plan) → Q u p.used → (r : VotedReply) → IsNext UsesSo u (voted_by from left p r).step
    voted_uses from left p its (voted.Yes states) = votes_use (record p { changed = commit.with_states states p.changed }) its _
    voted_uses from left p its (voted.Changed w) = tt

    prepared_uses : (from : ℕ) (left : List ℕ) (p : Plan) → Q u p.used → (r : PreparedReply) →
        IsNext UsesSo u (prepared_by from left p r).step
    prepared_uses from left p its prepared.Yes = stores_use _ its _
    prepared_uses from left p its (prepared.InDoubt x holder) = stores_use (marks_store from p) its _
    prepared_uses from left p its (prepared.Old x v) = tt

    -- an answer
    pub answered_uses : (from : ℕ) (m : Machine) (r : Reply) → UsesSo u m → IsNext UsesSo u (answered from m r).step
    answered_uses from (Voting p left) (Reply.Voted r) its = voted_uses from left p its r
    answered_uses from (Preparing p left) (Reply.Prepared r) its = prepared_uses from left p its r
    answered_uses from (Confirming p) (Reply.Confirmed confirmed.Yes) its = tt
    answered_uses from (Confirming p) (Reply.Confirmed (confirmed.Conflict h m)) its = tt
    answered_uses from (Confirming p) (Reply.Confirmed (confirmed.Changed w)) its = tt
    answered_uses from (Confirming p) (Reply.Confirmed (confirmed.NoStores x)) its = tt
    answered_uses from (Confirming p) (Reply.Confirmed (confirmed.Listed x s)) its = tt
    answered_uses from m r its = its

    -- a giveup
    pub given_uses : (m : Machine) → UsesSo u m → IsNext UsesSo u (given_up m).step
    given_uses (Voting p left) its = tt
    given_uses (Preparing p left) its = stores_use (marks_stores left p) (marks_use left p its) []
    given_uses (Confirming p) its = tt
