-- The steps of a commit keep its action.
use Rattle.std.proofs.Common.{◌≡◌, ℕ, List, [], ◌∷◌, Option, Some, None, refl, subst}
use Rattle.arj_asking.specs.Hearing.{IsOf}
use Rattle.arj_commit.specs.Steps.{heard_by}
use Rattle.arj_protocol.specs.Ask.{Reply, Bound, Loaded, Activated, Noted, Invoked, Voted, Prepared, Confirmed, actor}
use Rattle.arj_protocol.specs.Commit.{Machine, Voting, Preparing, Confirming, Plan, Used, answered, given_up, start, plan_of, begin_confirm}
use Rattle.arj_protocol.specs.Commit.{begin_prepare, begin_vote, servers_of, targets_of, votes_left, stores_left, marks_store, marks_stores}
use Rattle.arj_protocol.specs.Commit.{with_states}
use Rattle.arj_protocol.specs.Order.{without_number, with_number}
use Rattle.arj_protocol.specs.Words.{Asked}
use Rattle.arj_protocol.specs.Words.voted
use Rattle.arj_protocol.specs.Words.prepared
use Rattle.arj_protocol.specs.Words.confirmed

confirm_of : (us : List Used) (p : Plan) → IsOf (actor p.path) (begin_confirm us p)
confirm_of [] p = refl
confirm_of (u ∷ us) p = refl

prepare_of : (ss : List ℕ) (p : Plan) → IsOf (actor p.path) (begin_prepare ss p)
prepare_of [] p = confirm_of p.used p
prepare_of (s ∷ ss) p = refl

vote_of : (ss : List ℕ) (p : Plan) → IsOf (actor p.path) (begin_vote ss p)
vote_of [] p = prepare_of (targets_of p) p
vote_of (s ∷ ss) p = refl

-- where a commit starts
pub start_of : (p : Plan) → IsOf (actor p.path) ((start p).step)
start_of p = vote_of (servers_of p) p

left_of_votes : (ns : List ℕ) (p : Plan) → IsOf (actor p.path) (votes_left ns p)
left_of_votes [] p = prepare_of (targets_of p) p
left_of_votes (n ∷ ns) p = refl

left_of_stores : (ns : List ℕ) (p : Plan) → IsOf (actor p.path) ((stores_left ns p).step)
left_of_stores [] p = confirm_of p.used p
left_of_stores (n ∷ ns) p = refl

answered_of : (from : ℕ) (m : Machine) (r : Reply) → IsOf (actor (plan_of m).path) ((answered from m r).step)
answered_of from (Voting p left) (Voted (voted.Yes states)) =
    left_of_votes (without_number from left) (record p { changed = with_states states p.changed })
answered_of from (Voting p left) (Voted (voted.Changed w)) = tt
answered_of from (Voting p left) (Bound r) = refl
answered_of from (Voting p left) (Loaded r) = refl
answered_of from (Voting p left) (Activated r) = refl
answered_of from (Voting p left) (Noted r) = refl
answered_of from (Voting p left) (Invoked r) = refl
answered_of from (Voting p left) (Prepared r) = refl
answered_of from (Voting p left) (Confirmed r) = refl
answered_of from (Preparing p left) (Prepared prepared.Yes) =
    left_of_stores (without_number from left) (record p { prepared = with_number from p.prepared })
answered_of from (Preparing p left) (Prepared (prepared.InDoubt x holder)) = left_of_stores (without_number from left) (marks_store from p)
answered_of from (Preparing p left) (Prepared (prepared.Old x v)) = tt
answered_of from (Preparing p left) (Bound r) = refl
answered_of from (Preparing p left) (Loaded r) = refl
answered_of from (Preparing p left) (Activated r) = refl
answered_of from (Preparing p left) (Noted r) = refl
answered_of from (Preparing p left) (Invoked r) = refl
answered_of from (Preparing p left) (Voted r) = refl
answered_of from (Preparing p left) (Confirmed r) = refl
answered_of from (Confirming p) (Confirmed confirmed.Yes) = refl
answered_of from (Confirming p) (Confirmed (confirmed.Conflict holder m)) = tt
answered_of from (Confirming p) (Confirmed (confirmed.Changed w)) = tt
answered_of from (Confirming p) (Confirmed (confirmed.NoStores x)) = tt
answered_of from (Confirming p) (Confirmed (confirmed.Listed x s)) = tt
answered_of from (Confirming p) (Bound r) = refl
answered_of from (Confirming p) (Loaded r) = refl
answered_of from (Confirming p) (Activated r) = refl
answered_of from (Confirming p) (Noted r) = refl
answered_of from (Confirming p) (Invoked r) = refl
answered_of from (Confirming p) (Voted r) = refl
answered_of from (Confirming p) (Prepared r) = refl

-- after an answer
pub heard_of : (from : ℕ) (a : Option (Asked × Reply)) (m : Machine) → IsOf (actor (plan_of m).path) ((heard_by from a m).step)
heard_of from None m = refl
heard_of from (Some a) m = answered_of from m a.1

marks_keep : (ss : List ℕ) (p : Plan) → (marks_stores ss p).path ≡ p.path
marks_keep [] p = refl
marks_keep (s ∷ ss) p = marks_keep ss (marks_store s p)

-- after a giveup
pub given_up_of : (m : Machine) → IsOf (actor (plan_of m).path) ((given_up m).step)
given_up_of (Voting p left) = tt
given_up_of (Preparing p left) =
    let q : Plan =
    marks_stores left p in subst (λ path. IsOf (actor path) (begin_confirm q.used q)) (marks_keep left p) (confirm_of q.used q)
given_up_of (Confirming p) = tt
