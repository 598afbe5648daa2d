-- A commit that waits for votes waits for servers of its plan: kept by all that a coordinator does.
use Rattle.arj_law_parts.proofs.Words
use Words.{◌≡◌, ◌≢◌, ◌==◌, ◌||◌, ℕ, List, [], ◌∷◌, Bool, true, false, cond, not, Option, refl, subst, Asked, Kind, Label, Uid, Reply, actor}
use Words.{again_all, begin_action, heard, last_req, Aborts, Asks, CommitStep, Confirming, Decides, Machine, Plan, Preparing, Stays, Used}
use Words.{Voting, begin_confirm, begin_prepare, begin_vote, servers_of, targets_of, Calling, Committing, Coord, Doing, Idle, Now, doing_of}
use Words.{plan_for, root_at, Intent, acked, has, with_number, without_number, Input, acts, parent_of, root_of}
use Words.confirmed
use Words.prepared
use Words.voted
use Words.commit
use Words.input
use Rattle.arj_law_lock_view.proofs.Terms.{AreLeft, IsLeft}
use Rattle.arj_law_lock_view.proofs.facts.CommitCoords.{AreAt, IsNext, at_acked, at_acts, at_again, at_begins, at_heard}

-- ---- the steps of a commit

-- what a step comes to waits for its servers
abbrev pub StepIsLeft : CommitStep → Type 0
StepIsLeft (Stays k) = IsLeft (Committing k)
StepIsLeft (Asks k) = IsLeft (Committing k)
StepIsLeft _ = Unit {0}

confirm_left : (us : List Used) (p : Plan) → StepIsLeft (begin_confirm us p)
confirm_left [] p = tt
confirm_left (u ∷ us) p = tt

prepare_left : (ns : List ℕ) (p : Plan) → StepIsLeft (begin_prepare ns p)
prepare_left [] p = confirm_left p.used p
prepare_left (n ∷ ns) p = tt

start_left : (ns : List ℕ) (p : Plan) → ((n : ℕ) → has ns n ≡ true → has (servers_of p) n ≡ true) → StepIsLeft (begin_vote ns p)
start_left [] p its = prepare_left (targets_of p) p
start_left (n ∷ ns) p its = its

stores_left : (ns : List ℕ) (p : Plan) → StepIsLeft (commit.stores_left ns p).step
stores_left [] p = confirm_left p.used p
stores_left (n ∷ ns) p = tt

votes_left : (ns : List ℕ) (p : Plan) → ((n : ℕ) → has ns n ≡ true → has (servers_of p) n ≡ true) → StepIsLeft (commit.votes_left ns p)
votes_left [] p its = prepare_left (targets_of p) p
votes_left (n ∷ ns) p its = its

less : (k : ℕ) (ns : List ℕ) (n : ℕ) → has (without_number k ns) n ≡ true → has ns n ≡ true
less k [] n is = is
less k (m ∷ ns) n is = by (m == k) is (less k ns n)
  where
    second : (a b : Bool) → b ≡ true → (a || b) ≡ true
    second true b it = refl
    second false b it = it

    by : (b : Bool) → has (cond (not b) (m ∷ without_number k ns) (without_number k ns)) n ≡ true →
        (has (without_number k ns) n ≡ true → has ns n ≡ true) → has (m ∷ ns) n ≡ true
    by true it ih = second (m == n) (has ns n) (ih it)
    by false it ih = one (m == n) it
      where
        one : (q : Bool) → (q || has (without_number k ns) n) ≡ true → (q || has ns n) ≡ true
        one true e = refl
        one false e = ih e

answer_left : (from : ℕ) (m : Machine) (r : Reply) → IsLeft (Committing m) → StepIsLeft (commit.answered from m r).step
answer_left from (Voting p left) (Reply.Voted (voted.Yes states)) its =
    votes_left (without_number from left) (record p { changed = commit.with_states states p.changed }) (λ n is. its n (less from left n is))
answer_left from (Voting p left) (Reply.Voted (voted.Changed w)) its = tt
answer_left from (Voting p left) (Reply.Bound r) its = its
answer_left from (Voting p left) (Reply.Loaded r) its = its
answer_left from (Voting p left) (Reply.Activated r) its = its
answer_left from (Voting p left) (Reply.Noted r) its = its
answer_left from (Voting p left) (Reply.Invoked r) its = its
answer_left from (Voting p left) (Reply.Prepared r) its = its
answer_left from (Voting p left) (Reply.Confirmed r) its = its
answer_left from (Preparing p left) (Reply.Prepared prepared.Yes) its =
    stores_left (without_number from left) (record p { prepared = with_number from p.prepared })
answer_left from (Preparing p left) (Reply.Prepared (prepared.InDoubt x h)) its =
    stores_left (without_number from left) (commit.marks_store from p)
answer_left from (Preparing p left) (Reply.Prepared (prepared.Old x v)) its = tt
answer_left from (Preparing p left) (Reply.Bound r) its = tt
answer_left from (Preparing p left) (Reply.Loaded r) its = tt
answer_left from (Preparing p left) (Reply.Activated r) its = tt
answer_left from (Preparing p left) (Reply.Noted r) its = tt
answer_left from (Preparing p left) (Reply.Invoked r) its = tt
answer_left from (Preparing p left) (Reply.Voted r) its = tt
answer_left from (Preparing p left) (Reply.Confirmed r) its = tt
answer_left from (Confirming p) (Reply.Confirmed confirmed.Yes) its = tt
answer_left from (Confirming p) (Reply.Confirmed (confirmed.Conflict h m)) its = tt
answer_left from (Confirming p) (Reply.Confirmed (confirmed.Changed w)) its = tt
answer_left from (Confirming p) (Reply.Confirmed (confirmed.NoStores x)) its = tt
answer_left from (Confirming p) (Reply.Confirmed (confirmed.Listed x s)) its = tt
answer_left from (Confirming p) (Reply.Bound r) its = tt
answer_left from (Confirming p) (Reply.Loaded r) its = tt
answer_left from (Confirming p) (Reply.Activated r) its = tt
answer_left from (Confirming p) (Reply.Noted r) its = tt
answer_left from (Confirming p) (Reply.Invoked r) its = tt
answer_left from (Confirming p) (Reply.Voted r) its = tt
answer_left from (Confirming p) (Reply.Prepared r) its = tt

giveup_left : (m : Machine) → StepIsLeft (commit.given_up m).step
giveup_left (Voting p left) = tt
giveup_left (Preparing p left) = stores_left [] (commit.marks_stores left p)
giveup_left (Confirming p) = tt

-- ---- what a coordinator does

abbrev Left : Uid → Machine → Type 0
Left u m = IsLeft (Committing m)

to_at : (c : Coord) → AreLeft c → AreAt Left c
to_at c left u d m found now = subst IsLeft now (left u d found)

from_at : (c : Coord) → AreAt Left c → AreLeft c
from_at c at u d found = by d.now refl
  where
    by : (q : Now) → d.now ≡ q → IsLeft q
    by Idle is = tt
    by (Calling s) is = tt
    by (Committing m) is = at u d m found is

next_left : (u : Uid) (s : CommitStep) → StepIsLeft s → IsNext Left u s
next_left u (Stays m) its = its
next_left u (Asks m) its = its
next_left u (Decides p) its = tt
next_left u (Aborts why p) its = tt

module _ (c : Coord) (left : AreLeft c) where
  pub left_heard : (from : ℕ) (a : Asked) (r : Reply) (intents : List (Uid × Intent)) → AreLeft (heard from a r intents c).part
  left_heard from a r intents = from_at (heard from a r intents c).part (at_heard Left c (to_at c left) from a r intents
      (λ d m found is waits its. next_left a.act (commit.answered from m r).step (answer_left from m r its)))

  pub left_acts : (i : Input) (intents : List (Uid × Intent)) →
      ((l : Label) (q : Kind) (parent : Option Label) → i ≢ input.Begin l q parent) → AreLeft (acts i intents c).part
  left_acts i intents other =
      from_at (acts i intents c).part (at_acts Left c (to_at c left) (λ u m its. next_left u (commit.given_up m).step (giveup_left m))
      (λ b. let p = plan_for b.path (last_req (doing_of (actor b.path) c)) (root_at (root_of b.path) c) c in
      next_left (actor b.path) (commit.start p).step (start_left (servers_of p) p (λ n is. is))) i intents other)

  pub left_acked : (from : ℕ) (u : Uid) (intents : List (Uid × Intent)) → AreLeft (acked from u intents c).part
  left_acked from u intents = from_at (acked from u intents c).part (at_acked Left c (to_at c left) from u intents)

  pub left_begins : (l : Label) (q : Kind) (parent : Option Label) → AreLeft (begin_action l q parent (parent_of parent c) c).part
  left_begins l q parent = from_at (begin_action l q parent (parent_of parent c) c).part (at_begins Left c (to_at c left) l q parent)

pub left_again : (ds : List Doing) (e : Coord) → AreLeft e → AreLeft (again_all ds e).part
left_again ds e t = from_at (again_all ds e).part (at_again Left ds e (to_at e t))
