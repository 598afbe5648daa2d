-- What a commit has asked stays asked by what it comes to, until its top has ended; and who was asked by a committed top took part.
use Rattle.arj_law_parts.proofs.Words
use Words.{arith, ◌≡◌, ◌≢◌, ◌∙◌, ◌+◌, ◌==◌, ◌||◌, ℕ, List, [], ◌∷◌, ◌++◌, Bool, true, false, cond, Option, Some, None, refl, sym, ap, subst}
use Words.{inl, inr, ⊎_elim, is_some, or_cases, eqb-true, uid_cases, in_left, in_right, Ask, End, Path, Uid, Reply, actor, asks_all}
use Words.{asks_node, commits_in, doomed_by, goes_on, root_heard, step_call, step_commit, Answered, CallEnd, CallStep, Changed, Conflict}
use Words.{Ended, Included, Lost, On, Steps, Aborts, Asks, CommitStep, Confirming, Decides, Machine, Plan, Preparing, Stays, Used, Voting}
use Words.{begin_confirm, begin_prepare, confirm_ask, has_record, naming_node, participants, plan_of, servers_of, targets_of, Calling}
use Words.{Committing, Coord, Doing, Idle, change_doing, doing_of, on_doing, on_root, Intent, all_aborted, decide, ended, root_after, has}
use Words.{put_uid, with_number, without_number, Branch, Tree, at_place, branch_of, doomed_at, ended_at, ended_branch, is_own, root_of}
use Words.list
use Words.ask
use Words.confirmed
use Words.ending
use Words.prepared
use Words.voted
use Words.commit
use Rattle.arj_law_lock_view.proofs.Terms
use Terms.{Action, IsBusy, IsVoting, IsTree, Paths, IsSameTree, doomed_same, on_tree, at_others, at_u, doing_other, doing_put, end_tree_on}
use Terms.{doing_here, IsPart, IsSought}
use Rattle.arj_law_lock_view.proofs.view.PlanSteps.{in_set_of}
use Rattle.arj_law_parts.proofs.parts.GoodCoords.{busy_ended}
use Rattle.arj_law_parts.specs.parts.Coords.{AreBusy}

some_is : {A : Type 0} {a b : A} → Some a ≡ Some b → a ≡ b
some_is {A} {a} {b} is = let k : ◌≡◌ {A = Option A} (Some a) (Some b) = is in cc

-- ---- nodes in lists

in_has : (ns : List ℕ) (n : ℕ) → has ns n ≡ true → list.In n ns
in_has [] n is = absurd (cc is)
in_has (m ∷ ns) n is = ⊎_elim (λ same. inl (eqb-true m n same)) (λ rest. inr (in_has ns n rest)) (or_cases (m == n) (has ns n) is)

pub has_in : (ns : List ℕ) (n : ℕ) → list.In n ns → has ns n ≡ true
has_in [] n i = absurd i
has_in (m ∷ ns) n (inl same) = first (m == n) (has ns n) (ap (λ z. m == z) (sym same) ∙ itself m)
  where
    itself : (k : ℕ) → (k == k) ≡ true
    itself k = grind arith

    first : (a b : Bool) → a ≡ true → (a || b) ≡ true
    first true b is = refl
    first false b is = absurd (cc is)
has_in (m ∷ ns) n (inr i) = second (m == n) (has ns n) (has_in ns n i)
  where
    second : (a b : Bool) → b ≡ true → (a || b) ≡ true
    second true b is = refl
    second false b is = is

-- each server of the plan takes part, and so does naming where it has confirmed
server_takes : (p : Plan) (n : ℕ) → has (servers_of p) n ≡ true → has (participants p) n ≡ true
server_takes p n is = has_in (participants p) n (in_set_of n (servers_of p ++ p.prepared ++ naming_node p)
    (in_left n (servers_of p ++ p.prepared) (naming_node p) (in_left n (servers_of p) p.prepared (in_has (servers_of p) n is))))

naming_takes : (p : Plan) → p.confirmed ≡ true → has (participants p) 1 ≡ true
naming_takes p is = has_in (participants p) 1 (in_set_of 1 (servers_of p ++ p.prepared ++ naming_node p) (in_right 1
    (servers_of p ++ p.prepared) (naming_node p) (subst (λ (b : Bool). list.In {X = ℕ} 1 (cond b (1 ∷ []) [])) (sym is) (inl refl))))

-- ---- what a step of a commit has asked

-- all that was sought is sought by this
abbrev pub SeeksOn : Machine → Machine → Type 0
SeeksOn m k = (to : ℕ) (a : Ask) → IsSought m to a → IsSought k to a

-- a step leads to what seeks it, or is decided by a plan in which who was sought takes part
abbrev pub StepsOn : Machine → CommitStep → Type 0
StepsOn m (Stays k) = SeeksOn m k
StepsOn m (Asks k) = SeeksOn m k
StepsOn m (Decides p) = (to : ℕ) (a : Ask) → IsSought m to a → has (participants p) to ≡ true
StepsOn m (Aborts why p) = Unit {0}

-- a vote of a server of the plan
abbrev IsVoteIn : Plan → ℕ → Ask → Type 0
IsVoteIn p to (ask.Vote i ties ends) = has (servers_of p) to ≡ true
IsVoteIn p to _ = ⊥

-- before its Confirm a commit asked for votes alone
voting_asks : (p : Plan) (left : List ℕ) (to : ℕ) (a : Ask) → IsSought (Voting p left) to a → IsVoteIn p to a
voting_asks p left to (ask.Vote i ties ends) is = is
voting_asks p left to (ask.Bind x include avoid) is = absurd is
voting_asks p left to (ask.Load x) is = absurd is
voting_asks p left to (ask.Activate b st) is = absurd is
voting_asks p left to (ask.Record x b i g) is = absurd is
voting_asks p left to (ask.Invoke x b i ends op) is = absurd is
voting_asks p left to (ask.Prepare states) is = absurd is
voting_asks p left to (ask.Confirm grants excluded included) is = absurd is

preparing_asks : (p : Plan) (left : List ℕ) (to : ℕ) (a : Ask) → IsSought (Preparing p left) to a → IsVoteIn p to a
preparing_asks p left to (ask.Vote i ties ends) is = is
preparing_asks p left to (ask.Bind x include avoid) is = absurd is
preparing_asks p left to (ask.Load x) is = absurd is
preparing_asks p left to (ask.Activate b st) is = absurd is
preparing_asks p left to (ask.Record x b i g) is = absurd is
preparing_asks p left to (ask.Invoke x b i ends op) is = absurd is
preparing_asks p left to (ask.Prepare states) is = absurd is
preparing_asks p left to (ask.Confirm grants excluded included) is = absurd is

vote_sought : (p : Plan) (k : Machine) → servers_of (plan_of k) ≡ servers_of p → (to : ℕ) (a : Ask) → IsVoteIn p to a → IsSought k to a
vote_sought p k same to (ask.Vote i ties ends) is = ap (λ (ns : List ℕ). has ns to) same ∙ is
vote_sought p k same to (ask.Bind x include avoid) is = absurd is
vote_sought p k same to (ask.Load x) is = absurd is
vote_sought p k same to (ask.Activate b st) is = absurd is
vote_sought p k same to (ask.Record x b i g) is = absurd is
vote_sought p k same to (ask.Invoke x b i ends op) is = absurd is
vote_sought p k same to (ask.Prepare states) is = absurd is
vote_sought p k same to (ask.Confirm grants excluded included) is = absurd is

vote_takes : (p q : Plan) → servers_of q ≡ servers_of p → (to : ℕ) (a : Ask) → IsVoteIn p to a → has (participants q) to ≡ true
vote_takes p q same to (ask.Vote i ties ends) is = server_takes q to (ap (λ (ns : List ℕ). has ns to) same ∙ is)
vote_takes p q same to (ask.Bind x include avoid) is = absurd is
vote_takes p q same to (ask.Load x) is = absurd is
vote_takes p q same to (ask.Activate b st) is = absurd is
vote_takes p q same to (ask.Record x b i g) is = absurd is
vote_takes p q same to (ask.Invoke x b i ends op) is = absurd is
vote_takes p q same to (ask.Prepare states) is = absurd is
vote_takes p q same to (ask.Confirm grants excluded included) is = absurd is

-- what waits for naming asked for votes too
confirming_takes : (p : Plan) (to : ℕ) (a : Ask) → IsSought (Confirming p) to a →
    has (participants (record p { confirmed = true })) to ≡ true
confirming_takes p to a is = by a is
  where
    named : (b : Ask) → (to ≡ 1) × (b ≡ confirm_ask p) → has (participants (record p { confirmed = true })) to ≡ true
    named b its = ap (has (participants (record p { confirmed = true }))) its.0 ∙ naming_takes (record p { confirmed = true }) refl

    by : (b : Ask) → IsSought (Confirming p) to b → has (participants (record p { confirmed = true })) to ≡ true
    by (ask.Vote i ties ends) its = server_takes (record p { confirmed = true }) to its
    by (ask.Bind x include avoid) its = named (ask.Bind x include avoid) its
    by (ask.Load x) its = named (ask.Load x) its
    by (ask.Activate b st) its = named (ask.Activate b st) its
    by (ask.Record x b i g) its = named (ask.Record x b i g) its
    by (ask.Invoke x b i ends op) its = named (ask.Invoke x b i ends op) its
    by (ask.Prepare states) its = named (ask.Prepare states) its
    by (ask.Confirm grants excluded included) its = named (ask.Confirm grants excluded included) its

-- ---- the steps of a commit

module _ (m : Machine) (p : Plan) (early : (to : ℕ) (a : Ask) → IsSought m to a → IsVoteIn p to a) where
  confirm_on : (us : List Used) (q : Plan) → servers_of q ≡ servers_of p → StepsOn m (begin_confirm us q)
  confirm_on [] q same = λ to a is. vote_takes p q same to a (early to a is)
  confirm_on (u ∷ us) q same = λ to a is. vote_sought p (Confirming (commit.further (1 ∷ []) q)) same to a (early to a is)

  prepare_on : (ns : List ℕ) (q : Plan) → servers_of q ≡ servers_of p → StepsOn m (begin_prepare ns q)
  prepare_on [] q same = confirm_on q.used q same
  prepare_on (n ∷ ns) q same = λ to a is. vote_sought p (Preparing (commit.further (n ∷ ns) q) (n ∷ ns)) same to a (early to a is)

  votes_on : (ns : List ℕ) (q : Plan) → servers_of q ≡ servers_of p → StepsOn m (commit.votes_left ns q)
  votes_on [] q same = prepare_on (targets_of q) q same
  votes_on (n ∷ ns) q same = λ to a is. vote_sought p (Voting q (n ∷ ns)) same to a (early to a is)

  stores_on : (ns : List ℕ) (q : Plan) → servers_of q ≡ servers_of p → StepsOn m (commit.stores_left ns q).step
  stores_on [] q same = confirm_on q.used q same
  stores_on (n ∷ ns) q same = λ to a is. vote_sought p (Preparing q (n ∷ ns)) same to a (early to a is)

marks_same : (ns : List ℕ) (p : Plan) → servers_of (commit.marks_stores ns p) ≡ servers_of p
marks_same [] p = refl
marks_same (n ∷ ns) p = marks_same ns (commit.marks_store n p)

pub answer_on : (from : ℕ) (m : Machine) (r : Reply) → StepsOn m (commit.answered from m r).step
answer_on from (Voting p left) (Reply.Voted (voted.Yes states)) = votes_on (Voting p left) p (voting_asks p left) (without_number from left)
    (record p { changed = commit.with_states states p.changed }) refl
answer_on from (Voting p left) (Reply.Voted (voted.Changed w)) = tt
answer_on from (Voting p left) (Reply.Bound r) = λ to a is. is
answer_on from (Voting p left) (Reply.Loaded r) = λ to a is. is
answer_on from (Voting p left) (Reply.Activated r) = λ to a is. is
answer_on from (Voting p left) (Reply.Noted r) = λ to a is. is
answer_on from (Voting p left) (Reply.Invoked r) = λ to a is. is
answer_on from (Voting p left) (Reply.Prepared r) = λ to a is. is
answer_on from (Voting p left) (Reply.Confirmed r) = λ to a is. is
answer_on from (Preparing p left) (Reply.Prepared prepared.Yes) = stores_on (Preparing p left) p (preparing_asks p left)
    (without_number from left) (record p { prepared = with_number from p.prepared }) refl
answer_on from (Preparing p left) (Reply.Prepared (prepared.InDoubt x h)) =
    stores_on (Preparing p left) p (preparing_asks p left) (without_number from left) (commit.marks_store from p) refl
answer_on from (Preparing p left) (Reply.Prepared (prepared.Old x v)) = tt
answer_on from (Preparing p left) (Reply.Bound r) = λ to a is. is
answer_on from (Preparing p left) (Reply.Loaded r) = λ to a is. is
answer_on from (Preparing p left) (Reply.Activated r) = λ to a is. is
answer_on from (Preparing p left) (Reply.Noted r) = λ to a is. is
answer_on from (Preparing p left) (Reply.Invoked r) = λ to a is. is
answer_on from (Preparing p left) (Reply.Voted r) = λ to a is. is
answer_on from (Preparing p left) (Reply.Confirmed r) = λ to a is. is
answer_on from (Confirming p) (Reply.Confirmed confirmed.Yes) = λ to a is. confirming_takes p to a is
answer_on from (Confirming p) (Reply.Confirmed (confirmed.Conflict h m)) = tt
answer_on from (Confirming p) (Reply.Confirmed (confirmed.Changed w)) = tt
answer_on from (Confirming p) (Reply.Confirmed (confirmed.NoStores x)) = tt
answer_on from (Confirming p) (Reply.Confirmed (confirmed.Listed x s)) = tt
answer_on from (Confirming p) (Reply.Bound r) = λ to a is. is
answer_on from (Confirming p) (Reply.Loaded r) = λ to a is. is
answer_on from (Confirming p) (Reply.Activated r) = λ to a is. is
answer_on from (Confirming p) (Reply.Noted r) = λ to a is. is
answer_on from (Confirming p) (Reply.Invoked r) = λ to a is. is
answer_on from (Confirming p) (Reply.Voted r) = λ to a is. is
answer_on from (Confirming p) (Reply.Prepared r) = λ to a is. is

pub giveup_on : (m : Machine) → StepsOn m (commit.given_up m).step
giveup_on (Voting p left) = tt
giveup_on (Preparing p left) = stores_on (Preparing p left) p (preparing_asks p left) [] (commit.marks_stores left p) (marks_same left p)
giveup_on (Confirming p) = tt

-- ---- from one coordinator to the next

-- who is part stays so
abbrev pub StaysPart : Coord → Coord → Type 0
StaysPart c e = (u : Uid) (to : ℕ) (a : Ask) → IsPart c u to a → IsPart e u to a

pub part_then : (c d e : Coord) → StaysPart c d → StaysPart d e → StaysPart c e
part_then c d e one two u to a is = two u to a (one u to a is)

-- where one action alone changes
pub part_at : (w : Uid) (c e : Coord) → ((u : Uid) → u ≢ w → doing_of u e ≡ doing_of u c) →
    ((u : Uid) (b : Branch) → u ≢ w → branch_of u c.tree ≡ Some b → (d : Branch) × (branch_of u e.tree ≡ Some d) × (d.ended ≡ b.ended)) →
    ((to : ℕ) (a : Ask) → IsPart c w to a → IsPart e w to a) → StaysPart c e
part_at w c e works found its u to a is = ⊎_elim (λ same.
    subst (λ v. IsPart e v to a) (sym same) (its to a (subst (λ v. IsPart c v to a) same is))) (λ other. away other is) (uid_cases u w)
  where
    away : u ≢ w → IsPart c u to a → IsPart e u to a
    away other (inl s) =
        inl (record { doing = s.doing; machine = s.machine; works = works u other ∙ s.works; now = s.now; sought = s.sought })
    away other (inr h) = let f = found u h.branch other h.found in inr (record {
      branch = f.0;
      doing = h.doing;
      found = f.1;
      works = works u other ∙ h.works;
      ended = ap is_some f.2 ∙ h.ended;
      took = λ is. h.took (sym f.2 ∙ is);
    })

-- where none does
pub part_same : (c e : Coord) → ((u : Uid) → doing_of u e ≡ doing_of u c) → ((u : Uid) (b : Branch) → branch_of u c.tree ≡ Some b →
    (d : Branch) × (branch_of u e.tree ≡ Some d) × (d.ended ≡ b.ended)) → StaysPart c e
part_same c e works found u to a (inl s) =
    inl (record { doing = s.doing; machine = s.machine; works = works u ∙ s.works; now = s.now; sought = s.sought })
part_same c e works found u to a (inr h) = let f = found u h.branch h.found in inr (record {
  branch = f.0;
  doing = h.doing;
  found = f.1;
  works = works u ∙ h.works;
  ended = ap is_some f.2 ∙ h.ended;
  took = λ is. h.took (sym f.2 ∙ is);
})

-- roots and tolds don't count
pub part_aside : (c e : Coord) → e.tree ≡ c.tree → e.doings ≡ c.doings → StaysPart c e
part_aside c e tree doings =
    part_same c e (λ u i. cond (is_own u (tree i)) (at_place u.num (doings i)) None) (λ u b found. (b, ap (branch_of u) tree ∙ found, refl))

-- nor does a tree of the same actions
pub part_tree : (c : Coord) (v : Tree) → IsSameTree c.tree v → StaysPart c (record c { tree = v })
part_tree c v same = part_same c (record c { tree = v }) (λ u i. cond (same.own u i) (at_place u.num c.doings) None)
    (λ u b found. (let q = same.forth u b found in (q.0, q.1, sym q.4)))

-- one action's work changes: who took part in its commit stays, and at its commit it goes on
pub part_do : (w : Uid) (f : Doing → Doing) (c : Coord) → ((d : Doing) → (f d).took ≡ d.took) → ((d : Doing) (m : Machine) →
    doing_of w c ≡ Some d → d.now ≡ Committing m → (k : Machine) × ((f d).now ≡ Committing k) × SeeksOn m k) → StaysPart c (on_doing w f c)
part_do w f c took goes = by (doing_of w c) refl
  where
    by : (o : Option Doing) → doing_of w c ≡ o → StaysPart c (change_doing f w c o)
    by None none = λ u to a is. is
    by (Some old) found = part_at w c (change_doing f w c (Some old)) (λ u other. doing_other w u (f old) old c found other)
        (λ u b other at. (b, at, refl)) its
      where
        one : (d : Doing) → doing_of w c ≡ Some d → d ≡ old
        one d at = some_is (sym at ∙ found)

        its : (to : ℕ) (a : Ask) → IsPart c w to a → IsPart (change_doing f w c (Some old)) w to a
        its to a (inl s) = let g = goes old s.machine found (ap (λ (d : Doing). d.now) (sym (one s.doing s.works)) ∙ s.now) in
            inl (record { doing = f old; machine = g.0; works = doing_put w (f old) old c found; now = g.1; sought = g.2 to a s.sought })
        its to a (inr h) = inr (record {
          branch = h.branch;
          doing = f old;
          found = h.found;
          works = doing_put w (f old) old c found;
          ended = h.ended;
          took = λ is. ap (λ ns. has ns to) (took old ∙ ap (λ (d : Doing). d.took) (sym (one h.doing h.works))) ∙ h.took is;
        })

-- ---- ends

doing_off : (w : Uid) (f : Doing → Doing) (c : Coord) (u : Uid) → u ≢ w → doing_of u (on_doing w f c) ≡ doing_of u c
doing_off w f c u other = by (doing_of w c) refl
  where
    by : (o : Option Doing) → doing_of w c ≡ o → doing_of u (change_doing f w c o) ≡ doing_of u c
    by None none = refl
    by (Some old) found = doing_other w u (f old) old c found other

-- an end, at one action and at all others
module _ (w : Uid) (how : End) (c : Coord) where
  abbrev mid : Coord
  mid = record c { tree = ended_at w how c.tree }

  mid_doing : (u : Uid) → doing_of u mid ≡ doing_of u c
  mid_doing u = λ i. cond ((end_tree_on w how c).own u i) (at_place u.num c.doings) None

  pub ended_work : (d : Doing) → doing_of w c ≡ Some d → doing_of w (ended w how c) ≡ Some (record d { now = Idle })
  ended_work d found = doing_here w (λ (x : Doing). record x { now = Idle }) mid d (mid_doing w ∙ found)

  pub ended_off : (u : Uid) → u ≢ w → doing_of u (ended w how c) ≡ doing_of u c
  ended_off u other = doing_off w (λ (x : Doing). record x { now = Idle }) mid u other ∙ mid_doing u

  tree_is : (ended w how c).tree ≡ ended_at w how c.tree
  tree_is = on_tree w (λ (x : Doing). record x { now = Idle }) mid

  pub ended_found : (b : Branch) → branch_of w c.tree ≡ Some b → branch_of w (ended w how c).tree ≡ Some (record b { ended = Some how })
  ended_found b found = ap (branch_of w) tree_is ∙ ap (λ o. branch_of w (ended_branch w how c.tree o)) found ∙ at_u w how c.tree b found

  pub ended_others : (u : Uid) → u ≢ w → branch_of u (ended w how c).tree ≡ branch_of u c.tree
  ended_others u other = ap (branch_of u) tree_is ∙ by (branch_of w c.tree) refl
    where
      by : (o : Option Branch) → branch_of w c.tree ≡ o → branch_of u (ended_branch w how c.tree o) ≡ branch_of u c.tree
      by None none = refl
      by (Some b) found = at_others w how c.tree b found u other

-- who is part is there, and at work
pub part_there : (c : Coord) → AreBusy c → (u : Uid) (to : ℕ) (a : Ask) → IsPart c u to a →
    (b : Branch) × (branch_of u c.tree ≡ Some b) × ((d : Doing) × (doing_of u c ≡ Some d))
part_there c busy u to a (inl s) = let v : IsVoting c.tree u (plan_of s.machine) = subst (IsBusy c.tree u) s.now (busy u s.doing s.works) in
    (v.asking.branch, v.asking.found, (s.doing, s.works))
part_there c busy u to a (inr h) = (h.branch, h.found, (h.doing, h.works))

-- an end of one that isn't part of a commit, or an abort
pub part_ended : (w : Uid) (how : End) (c : Coord) → AreBusy c → (how ≡ ending.Commit → (to : ℕ) (a : Ask) → IsPart c w to a → ⊥) →
    StaysPart c (ended w how c)
part_ended w how c busy none = part_at w c (ended w how c) (ended_off w how c)
    (λ u b other found. (b, ended_others w how c u other ∙ found, refl)) (λ to a is. its how none to a is (part_there c busy w to a is))
  where
    its : (e : End) → (e ≡ ending.Commit → (to : ℕ) (a : Ask) → IsPart c w to a → ⊥) → (to : ℕ) (a : Ask) → IsPart c w to a →
        (b : Branch) × (branch_of w c.tree ≡ Some b) × ((d : Doing) × (doing_of w c ≡ Some d)) → IsPart (ended w e c) w to a
    its ending.Commit never to a is there = absurd (never refl to a is)
    its ending.Abort never to a is (b, found, work) = inr (record {
      branch = record b { ended = Some ending.Abort };
      doing = record work.0 { now = Idle };
      found = ended_found w ending.Abort c b found;
      works = ended_work w ending.Abort c work.0 work.1;
      ended = refl;
      took = λ same. absurd (cc same);
    })

-- a decision: who was asked takes part
pub part_decided : (p : Plan) (c : Coord) → AreBusy c →
    ((to : ℕ) (a : Ask) → IsPart c (actor p.path) to a → has (participants p) to ≡ true) → StaysPart c (decide p c).part
part_decided p c busy its = by (has_record p)
  where
    w : Uid
    w = actor p.path

    e : Coord
    e = ended w ending.Commit c

    f : Coord
    f = on_doing w (λ (d : Doing). record d { took = participants p }) e

    r : Coord
    r = on_root (root_of p.path) (root_after p) f

    here : (to : ℕ) (a : Ask) → IsPart c w to a → IsPart f w to a
    here to a is =
        let t = part_there c busy w to a is in
        inr (record {
          branch = record t.0 { ended = Some ending.Commit };
          doing = record (let x = t.2 in x.0) { now = Idle; took = participants p };
          found =
              ap (branch_of w) (on_tree w (λ (d : Doing). record d { took = participants p }) e) ∙ ended_found w ending.Commit c t.0 t.1;
          works = doing_here w (λ (d : Doing). record d { took = participants p }) e (record (let x = t.2 in x.0) { now = Idle })
              (ended_work w ending.Commit c (let x = t.2 in x.0) (let x = t.2 in x.1));
          ended = refl;
          took = λ same. its to a is;
        })

    so : StaysPart c f
    so = part_at w c f
        (λ u other. doing_off w (λ (d : Doing). record d { took = participants p }) e u other ∙ ended_off w ending.Commit c u other)
        (λ u b other found. (
          b,
          ap (branch_of u) (on_tree w (λ (d : Doing). record d { took = participants p }) e) ∙ ended_others w ending.Commit c u other
              ∙ found,
          refl,
        )) here

    by : (b : Bool) →
        StaysPart c (cond b (record r { telling = put_uid w (record { root = root_of p.path; nodes = participants p }) r.telling }) r)
    by true = part_then c f (record r { telling = put_uid w (record { root = root_of p.path; nodes = participants p }) r.telling }) so
        (part_aside f (record r { telling = put_uid w (record { root = root_of p.path; nodes = participants p }) r.telling }) refl refl)
    by false = part_then c f r so (part_aside f r refl refl)

-- ---- steps of calls and commits

pub part_asked : (p : Path) (req : ℕ) (asked : List (ℕ × Ask)) (c : Coord) → StaysPart c (asks_all p req asked c).part
part_asked p req [] c = λ u to a is. is
part_asked p req (x ∷ rest) c = let d = asks_node p req x c in
    part_then c d.part (asks_all p req rest d.part).part (part_aside c d.part refl refl) (part_asked p req rest d.part)

-- who waits in no commit goes on in a call
pub part_goes : (s : Steps) (c : Coord) → ((d : Doing) (m : Machine) → doing_of (actor s.path) c ≡ Some d → d.now ≡ Committing m → ⊥) →
    StaysPart c (goes_on s c).part
part_goes s c none =
    let e = on_doing (actor s.path) (λ (d : Doing). record d { req = s.req; now = Calling s }) c in
    part_then c e (goes_on s c).part (part_do (actor s.path) (λ (d : Doing). record d { req = s.req; now = Calling s }) c (λ d. refl)
    (λ d m found now. absurd (none d m found now))) (part_aside e (goes_on s c).part refl refl)

pub part_step_call : (s : Steps) (n : CallStep) (c : Coord) →
    ((d : Doing) (m : Machine) → doing_of (actor s.path) c ≡ Some d → d.now ≡ Committing m → ⊥) → StaysPart c (step_call s n c).part
part_step_call s (On at) c none = part_goes (record s { req = s.req + 1; at = at }) c none
part_step_call s (Ended g) c none = by g
  where
    rest : Coord
    rest = on_doing (actor s.path) (λ (d : Doing). record d { now = Idle }) c

    idle : Coord
    idle = on_root (root_of s.path) (root_heard s g) rest

    so : StaysPart c idle
    so = part_then c rest idle (part_do (actor s.path) (λ (d : Doing). record d { now = Idle }) c (λ d. refl)
        (λ d m found now. absurd (none d m found now))) (part_aside rest idle refl refl)

    by : (h : CallEnd) → StaysPart c (doomed_by (actor s.path) h idle)
    by (Answered a) = so
    by (Included st) = so
    by (Conflict h m n) = so
    by (Changed n w) = so
    by (Lost n false) = so
    by (Lost n true) = part_then c idle (record idle { tree = doomed_at (actor s.path) idle.tree }) so
        (part_tree idle (doomed_at (actor s.path) idle.tree) (doomed_same (actor s.path) idle.tree))

-- what a commit's step comes to, for what was asked
abbrev pub ComesTo : CommitStep → ℕ → Ask → Type 0
ComesTo (Stays k) to a = IsSought k to a
ComesTo (Asks k) to a = IsSought k to a
ComesTo (Decides p) to a = has (participants p) to ≡ true
ComesTo (Aborts why p) to a = Unit {0}

pub part_commits : (u : Uid) (k : Machine) (c : Coord) → AreBusy c → ((to : ℕ) (a : Ask) → IsPart c u to a → IsSought k to a) →
    StaysPart c (commits_in u k c)
part_commits u k c busy its = part_at u c (commits_in u k c) (λ w other. doing_off u f c w other)
    (λ w b other found. (b, ap (branch_of w) (on_tree u f c) ∙ found, refl))
    (λ to a is. (let t = part_there c busy u to a is in inl (record {
      doing = f (let x = t.2 in x.0);
      machine = k;
      works = doing_here u f c (let x = t.2 in x.0) (let x = t.2 in x.1);
      now = refl;
      sought = its to a is;
    })))
  where
    f : Doing → Doing
    f d = record d { req = (plan_of k).req; now = Committing k }

pub part_step : (u : Uid) (s : CommitStep) (intents : List (Uid × Intent)) (c : Coord) → AreBusy c → ((p : Plan) → s ≡ Decides p →
    actor p.path ≡ u) → ((to : ℕ) (a : Ask) → IsPart c u to a → ComesTo s to a) → StaysPart c (step_commit u s intents c).part
part_step u (Stays k) intents c busy who its = part_commits u k c busy its
part_step u (Asks k) intents c busy who its = part_then c (commits_in u k c) (step_commit u (Asks k) intents c).part
    (part_commits u k c busy its) (part_asked (plan_of k).path (plan_of k).req (commit.waiting k) (commits_in u k c))
part_step u (Decides p) intents c busy who its = part_decided p c busy (λ to a is. its to a (subst (λ w. IsPart c w to a) (who p refl) is))
part_step u (Aborts why p) intents c busy who its = part_ended u ending.Abort c busy (λ same. absurd (cc same))

-- from a commit under way
pub comes_on : (c : Coord) → AreBusy c → (u : Uid) (d : Doing) (m : Machine) → doing_of u c ≡ Some d → d.now ≡ Committing m →
    (s : CommitStep) → StepsOn m s → (to : ℕ) (a : Ask) → IsPart c u to a → ComesTo s to a
comes_on c busy u d m found now s on to a (inr h) =
    let v : IsVoting c.tree u (plan_of m) = subst (IsBusy c.tree u) now (busy u d found) in
    let bad : true ≡ false = sym h.ended ∙ ap (λ (b : Branch). is_some b.ended) (some_is (sym h.found ∙ v.asking.found))
    ∙ v.asking.opened in
    absurd (cc bad)
comes_on c busy u d m found now s on to a (inl q) = by s on
  where
    same : q.machine ≡ m
    same = machine_is (sym q.now ∙ ap (λ (x : Doing). x.now) (some_is (sym q.works ∙ found)) ∙ now)
      where
        machine_is : {x y : Machine} → Committing x ≡ Committing y → x ≡ y
        machine_is is = cc is

    sought : IsSought m to a
    sought = subst (λ (k : Machine). IsSought k to a) same q.sought

    by : (z : CommitStep) → StepsOn m z → ComesTo z to a
    by (Stays k) it = it to a sought
    by (Asks k) it = it to a sought
    by (Decides p) it = it to a sought
    by (Aborts why p) it = tt

-- aborts one after another
pub part_all : (actions : List Action) (paths : Paths) → IsTree paths → (us : List Uid) (c : Coord) → AreBusy c →
    StaysPart c (all_aborted us c).part
part_all actions paths tree [] c busy = λ u to a is. is
part_all actions paths tree (w ∷ ws) c busy = part_then c (ended w ending.Abort c) (all_aborted ws (ended w ending.Abort c)).part
    (part_ended w ending.Abort c busy (λ same. absurd (cc same)))
    (part_all actions paths tree ws (ended w ending.Abort c) (busy_ended actions paths tree w ending.Abort c busy))
