-- Commits under way know the votes on an object, whatever their coordinator does.
use Rattle.arj_law_parts.proofs.Words
use Words.{◌≡◌, ◌∙◌, ◌&&◌, ◌==◌, ℕ, List, [], ◌∷◌, map, true, refl, sym, ap, inl, inr, and_parts, in_from, Asked, Uid, Reply, actor}
use Words.{reply_kind, ask_kind, last_req, waits_for_commit, Aborts, Asks, CommitStep, Decides, Machine, Stays, Used, ask_of, left_of}
use Words.{plan_of, Coord, Root, doing_of, objects_in, plan_for, root_at, used_of, has, Branch, root_of}
use Words.list
use Words.commit
use Rattle.arj_law_lock_view.proofs.Terms.{State, Acts, Codes, KnowsNext, Side, side_at}
use Rattle.arj_law_lock_view.proofs.facts.CommitCoords.{IsNext, at_acked, at_acts, at_again, at_begins, at_heard}
use Rattle.arj_law_lock_view.proofs.view.VotedSteps.{votes_are_heard, votes_are_lost, votes_set_out, votes_stay}
use Rattle.arj_law_lock_view.specs.facts.Votes.{ActsAreVoted, HeardIsVoted, OthersAreVoted, StaysVoted}
use Rattle.arj_law_lock_view.specs.view.Voted.{KnowsVotes, UsesOnce, voters_left}

-- ---- a plan uses an object once

used_is : (top : Uid) (r : Root) (c : Coord) (xs : List ℕ) (q : Used) → list.In q (map (used_of top r c) xs) → q ≡ used_of top r c q.x
used_is top r c [] q none = absurd none
used_is top r c (x ∷ xs) q (inl is) = sym is ∙ ap (used_of top r c) (ap (λ (z : Used). z.x) is)
used_is top r c (x ∷ xs) q (inr i) = used_is top r c xs q i

uses_once : (w : Side) (b : Branch) (req : ℕ) (c : Coord) → UsesOnce w (plan_for b.path req (root_at (root_of b.path) c) c)
uses_once w b req c q r its other =
    let top = actor b.path in
    let root = root_at (root_of b.path) c in
    let p = plan_for b.path req root c in
    used_is top root c (objects_in top root c) q (in_from q p.used its.there)
    ∙ ap (used_of top root c) (its.about ∙ sym other.about)
    ∙ sym (used_is top root c (objects_in top root c) r (in_from r p.used other.there))

-- ---- steps

module _ (act : Acts) (code : Codes) (x : ℕ) (S : State) where
  abbrev Voted : Uid → Machine → Type 0
  Voted u m = KnowsVotes (side_at act code x u) m S

  next : (u : Uid) (st : CommitStep) → KnowsNext (side_at act code x u) st S → IsNext Voted u st
  next u (Stays m) its = its
  next u (Asks m) its = its
  next u (Decides p) its = tt
  next u (Aborts why p) its = tt

  starts : (c : Coord) (b : Branch) → let p = plan_for b.path (last_req (doing_of (actor b.path) c)) (root_at (root_of b.path) c) c in
      IsNext Voted (actor b.path) (commit.start p).step
  starts c b =
      let p = plan_for b.path (last_req (doing_of (actor b.path) c)) (root_at (root_of b.path) c) c in
      next (actor b.path) (commit.start p).step (votes_set_out (side_at act code x (actor b.path)) p S
      (uses_once (side_at act code x (actor b.path)) b (last_req (doing_of (actor b.path) c)) c) refl)

waits_has : (from : ℕ) (a : Asked) (r : Reply) (m : Machine) → waits_for_commit from a r m ≡ true → has (left_of m) from ≡ true
waits_has from a r m waits = (and_parts (reply_kind r == ask_kind (ask_of m from)) (has (left_of m) from)
    (and_parts (let p = plan_of m in p.req == a.req) ((reply_kind r == ask_kind (ask_of m from)) && has (left_of m) from) waits).1).1

pub heard_is_voted : HeardIsVoted
heard_is_voted act code x from a r intents c S shows votes =
    at_heard (Voted act code x S) c votes from a r intents (λ d m found is waits its. next act code x S a.act (commit.answered from m
    r).step (votes_are_heard (side_at act code x a.act) m from r S (waits_has from a r m waits) (shows d m found is waits) its))

pub acts_are_voted : ActsAreVoted
acts_are_voted act code x i intents c S other votes =
    at_acts (Voted act code x S) c votes (λ u m its. next act code x S u (commit.given_up m).step
    (votes_are_lost (side_at act code x u) m S its)) (starts act code x S c) i intents other

pub others_are_voted : OthersAreVoted
others_are_voted act code x c S votes = (
  λ l k parent. at_begins (Voted act code x S) c votes l k parent,
  λ from u intents. at_acked (Voted act code x S) c votes from u intents,
  λ ds. at_again (Voted act code x S) ds c votes,
)

pub stays_voted : StaysVoted
stays_voted act code x c S T run votes u d m found is =
    votes_stay (side_at act code x u) (plan_of m) (voters_left m) S T run (votes u d m found is)
