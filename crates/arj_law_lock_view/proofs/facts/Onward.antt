-- How what an action waits for goes on: its number doesn't fall, and by the same number it asks the same.
use Rattle.arj_law_parts.proofs.Words
use Words.{◌≡◌, ◌≢◌, ◌≤◌, ◌<◌, ◌+◌, ◌++◌, ◌∙◌, arith, ℕ, zero, suc, List, [], ◌∷◌, Bool, true, false, cond, Option, Some, None, refl, sym}
use Words.{ap, subst, ⊎_elim, ⊤, slice_get, uid_cases, Ask, Asked, End, Kind, Label, Path, Uid, Reply, actor, again_all, again_now}
use Words.{asks_all, asks_node, begin_action, call, call_steps, commit_action, commit_open, commit_top, commits_in, doomed_by, give_up}
use Words.{give_up_doing, gives_up, goes_on, heard, heard_by, heard_call, heard_doing, heard_none, heard_now, include, kept_at, last_req}
use Words.{moved_commit, next_req, renewed, root_heard, root_lost, root_moved, step_call, step_commit, waits_for_call, waits_for_commit}
use Words.{Answered, CallEnd, CallStep, Changed, Conflict, Ended, Included, Lost, Moved, On, Steps, answered, given_up, start, Aborts, Asks}
use Words.{CommitStep, Confirming, Decides, Machine, Plan, Preparing, Stays, Used, Voting, ask_of, begin_confirm, begin_prepare, begin_vote}
use Words.{has_record, marks_store, marks_stores, participants, plan_of, servers_of, stores_left, targets_of, votes_left, with_states}
use Words.{Calling, Committing, Coord, Doing, Idle, Now, change_doing, doing_of, is_free, keeping_of, on_doing, on_root, plan_for, root_at}
use Words.{with_keeping, Did, Intent, Served, abort_action, aborts_with, acked, acked_by, acked_left, all_aborted, decide, ended}
use Words.{root_after, at_uid, has, put_uid, unbound, with_number, without_number, Input, acts, branch_named, on_branch, parent_of, Branch}
use Words.{at_place, doomed_at, ended_at, is_own, open_below, root_of, uses_object}
use Words.cause
use Words.confirmed
use Words.ending
use Words.kind
use Words.prepared
use Words.voted
use Words.calls
use Words.commit
use Words.input
use Rattle.arj_law_lock_view.proofs.Terms
use Terms.{Action, IsAsking, IsBusy, IsGoodCoord, IsTree, Paths, AreNumbered, IsNumbered, actor_is, doomed_same, uses_same, doing_other}
use Terms.{end_tree_on, doing_here}

some_is : {A : Type 0} {a b : A} → Some a ≡ Some b → a ≡ b
some_is {A} {a} {b} is = let k : ◌≡◌ {A = Option A} (Some a) (Some b) = is in cc

-- What waits now asks what waited before.
abbrev pub AsksSame : Now → Now → Type 0
AsksSame n Idle = ⊤
AsksSame n (Calling s) = n ≡ Calling s
AsksSame n (Committing m) = (k : Machine) × (n ≡ Committing k) × ((let p = plan_of m in p.path) ≡ (let p = plan_of k in p.path))
    × ((to : ℕ) → ask_of m to ≡ ask_of k to)

-- an action's work goes on to this number, and waits for this
pub record IsLater (d : Doing) (req : ℕ) (n : Now) : Type 0 where
  pub low : d.req ≤ req
  pub same : d.req ≡ req → AsksSame d.now n

asks_itself : (n : Now) → AsksSame n n
asks_itself Idle = tt
asks_itself (Calling s) = refl
asks_itself (Committing m) = (m, refl, refl, λ to. refl)

-- by a greater number it may ask anything
later_more : (d : Doing) (req : ℕ) (n : Now) → d.req < req → IsLater d req n
later_more d req n less = record { low = omega (arith, less); same = λ is. absurd (never d.req req less is) }
  where
    never : (i j : ℕ) → i < j → i ≡ j → ⊥
    never i j less is = omega (arith, less, is)

-- ---- a step of a commit

-- a step from a commit with this machine: where it waits on it asks the same by the same number, else by a greater one
abbrev IsNextOf : Machine → CommitStep → Type 0
IsNextOf k (Stays m) = ((let p = plan_of m in p.req) ≡ (let p = plan_of k in p.req))
    × ((let p = plan_of m in p.path) ≡ (let p = plan_of k in p.path)) × ((to : ℕ) → ask_of m to ≡ ask_of k to)
IsNextOf k (Asks m) = (let p = plan_of k in p.req) < (let p = plan_of m in p.req)
IsNextOf k (Decides p) = ⊤
IsNextOf k (Aborts why p) = ⊤

-- it asks by a greater number than this, if it asks
abbrev AsksMore : ℕ → CommitStep → Type 0
AsksMore n (Stays m) = ⊥
AsksMore n (Asks m) = n < (let p = plan_of m in p.req)
AsksMore n (Decides p) = ⊤
AsksMore n (Aborts why p) = ⊤

next_of : (k : Machine) (st : CommitStep) → AsksMore (let p = plan_of k in p.req) st → IsNextOf k st
next_of k (Stays m) more = absurd more
next_of k (Asks m) more = more
next_of k (Decides p) more = tt
next_of k (Aborts why p) more = tt

above : (n r : ℕ) → r ≡ n → n < r + 1
above n r is = omega (arith, is)

confirms_more : (us : List Used) (p : Plan) (n : ℕ) → p.req ≡ n → AsksMore n (begin_confirm us p)
confirms_more [] p n is = tt
confirms_more (u ∷ us) p n is = above n p.req is

prepares_more : (ts : List ℕ) (p : Plan) (n : ℕ) → p.req ≡ n → AsksMore n (begin_prepare ts p)
prepares_more [] p n is = confirms_more p.used p n is
prepares_more (t ∷ ts) p n is = above n p.req is

votes_more : (ss : List ℕ) (p : Plan) (n : ℕ) → p.req ≡ n → AsksMore n (begin_vote ss p)
votes_more [] p n is = prepares_more (targets_of p) p n is
votes_more (s ∷ ss) p n is = above n p.req is

marked_req : (ss : List ℕ) (p : Plan) → (marks_stores ss p).req ≡ p.req
marked_req [] p = refl
marked_req (s ∷ ss) p = marked_req ss (marks_store s p)

votes_next : (ns left : List ℕ) (p q : Plan) → q.req ≡ p.req → q.path ≡ p.path → ((to : ℕ) → commit.vote_ask q to ≡ commit.vote_ask p to) →
    IsNextOf (Voting p left) (votes_left ns q)
votes_next [] left p q number path same =
    next_of (Voting p left) (begin_prepare (targets_of q) q) (prepares_more (targets_of q) q p.req number)
votes_next (n ∷ ns) left p q number path same = (number, path, same)

stores_next : (ns left : List ℕ) (p q : Plan) → q.req ≡ p.req → q.path ≡ p.path →
    ((to : ℕ) → ask_of (Preparing q ns) to ≡ ask_of (Preparing p left) to) → IsNextOf (Preparing p left) (stores_left ns q).step
stores_next [] left p q number path same = next_of (Preparing p left) (begin_confirm q.used q) (confirms_more q.used q p.req number)
stores_next (n ∷ ns) left p q number path same = (number, path, same)

still : (k : Machine) → IsNextOf k (Stays k)
still k = (refl, refl, λ to. refl)

answer_next : (from : ℕ) (k : Machine) (r : Reply) → IsNextOf k (commit.answered from k r).step
answer_next from (Voting p left) (Reply.Voted (voted.Yes states)) =
    votes_next (without_number from left) left p (record p { changed = with_states states p.changed }) refl refl (λ to. refl)
answer_next from (Voting p left) (Reply.Voted (voted.Changed w)) = tt
answer_next from (Voting p left) (Reply.Bound r) = still (Voting p left)
answer_next from (Voting p left) (Reply.Loaded r) = still (Voting p left)
answer_next from (Voting p left) (Reply.Activated r) = still (Voting p left)
answer_next from (Voting p left) (Reply.Noted r) = still (Voting p left)
answer_next from (Voting p left) (Reply.Invoked r) = still (Voting p left)
answer_next from (Voting p left) (Reply.Prepared r) = still (Voting p left)
answer_next from (Voting p left) (Reply.Confirmed r) = still (Voting p left)
answer_next from (Preparing p left) (Reply.Prepared prepared.Yes) =
    stores_next (without_number from left) left p (record p { prepared = with_number from p.prepared }) refl refl (λ to. refl)
answer_next from (Preparing p left) (Reply.Prepared (prepared.InDoubt x h)) =
    stores_next (without_number from left) left p (marks_store from p) refl refl (λ to. refl)
answer_next from (Preparing p left) (Reply.Prepared (prepared.Old x v)) = tt
answer_next from (Preparing p left) (Reply.Bound r) = still (Preparing p left)
answer_next from (Preparing p left) (Reply.Loaded r) = still (Preparing p left)
answer_next from (Preparing p left) (Reply.Activated r) = still (Preparing p left)
answer_next from (Preparing p left) (Reply.Noted r) = still (Preparing p left)
answer_next from (Preparing p left) (Reply.Invoked r) = still (Preparing p left)
answer_next from (Preparing p left) (Reply.Voted r) = still (Preparing p left)
answer_next from (Preparing p left) (Reply.Confirmed r) = still (Preparing p left)
answer_next from (Confirming p) (Reply.Confirmed confirmed.Yes) = tt
answer_next from (Confirming p) (Reply.Confirmed (confirmed.Conflict h m)) = tt
answer_next from (Confirming p) (Reply.Confirmed (confirmed.Changed w)) = tt
answer_next from (Confirming p) (Reply.Confirmed (confirmed.NoStores x)) = tt
answer_next from (Confirming p) (Reply.Confirmed (confirmed.Listed x s)) = tt
answer_next from (Confirming p) (Reply.Bound r) = still (Confirming p)
answer_next from (Confirming p) (Reply.Loaded r) = still (Confirming p)
answer_next from (Confirming p) (Reply.Activated r) = still (Confirming p)
answer_next from (Confirming p) (Reply.Noted r) = still (Confirming p)
answer_next from (Confirming p) (Reply.Invoked r) = still (Confirming p)
answer_next from (Confirming p) (Reply.Voted r) = still (Confirming p)
answer_next from (Confirming p) (Reply.Prepared r) = still (Confirming p)

giveup_next : (k : Machine) → IsNextOf k (commit.given_up k).step
giveup_next (Voting p left) = tt
giveup_next (Preparing p left) = next_of (Preparing p left) (begin_confirm (marks_stores left p).used (marks_stores left p))
    (confirms_more (marks_stores left p).used (marks_stores left p) p.req (marked_req left p))
giveup_next (Confirming p) = tt

-- ---- a coordinator

still_there : {A : Type 0} (a d : A) (xs : List A) (j : ℕ) → slice_get xs j ≡ Some d → slice_get (xs ++ a ∷ []) j ≡ Some d
still_there a d [] j is = absurd (cc is)
still_there a d (x ∷ xs) zero is = is
still_there a d (x ∷ xs) (suc j) is = still_there a d xs j is

module _ (c : Coord) where
  -- each action's work has gone on
  abbrev pub IsFurther : Coord → Type 0
  IsFurther e = (u : Uid) (d : Doing) → doing_of u c ≡ Some d → (x : Doing) × (doing_of u e ≡ Some x) × IsLater d x.req x.now

  further_same : IsFurther c
  further_same u d found = (d, found, record { low = omega arith; same = λ is. asks_itself d.now })

  further_own : (e f : Coord) → ((u : Uid) → is_own u f.tree ≡ is_own u e.tree) → f.doings ≡ e.doings → IsFurther e → IsFurther f
  further_own e f own doings t u d found = let q = t u d found in (q.0, (λ i. cond (own u i) (at_place u.num (doings i)) None) ∙ q.1, q.2)

  -- another work of one action
  further_do : (u : Uid) (f : Doing → Doing) (e : Coord) → ((d x : Doing) → doing_of u c ≡ Some d → IsLater d x.req x.now → let y = f x in
      IsLater d y.req y.now) → IsFurther e → IsFurther (on_doing u f e)
  further_do u f e its t w d found = ⊎_elim
      (λ (same : w ≡ u). let q = t w d found in (
        f q.0,
        ap (λ v. doing_of v (on_doing u f e)) same ∙ doing_here u f e q.0 (ap (λ v. doing_of v e) (sym same) ∙ q.1),
        its d q.0 (ap (λ v. doing_of v c) (sym same) ∙ found) q.2,
      ))
      (λ other. let q = t w d found in (q.0, left (doing_of u e) refl other ∙ q.1, q.2)) (uid_cases w u)
    where
      left : (o : Option Doing) → doing_of u e ≡ o → w ≢ u → doing_of w (change_doing f u e o) ≡ doing_of w e
      left None none other = refl
      left (Some x) at other = doing_other u w (f x) x e at other

  further_idle : (u : Uid) (e : Coord) → IsFurther e → IsFurther (on_doing u (λ (d : Doing). record d { now = Idle }) e)
  further_idle u e t =
      further_do u (λ (d : Doing). record d { now = Idle }) e (λ d x found later. record { low = later.low; same = λ is. tt }) t

  further_took : (u : Uid) (ns : List ℕ) (e : Coord) → IsFurther e → IsFurther (on_doing u (λ (d : Doing). record d { took = ns }) e)
  further_took u ns e t = further_do u (λ (d : Doing). record d { took = ns }) e (λ d x found later. later) t

  -- it waits in a step of a greater number
  further_goes : (s : Steps) (e : Coord) → ((d : Doing) → doing_of (actor s.path) c ≡ Some d → d.req < s.req) → IsFurther e →
      IsFurther (goes_on s e).part
  further_goes s e more t u d found = further_do (actor s.path) (λ (d : Doing). record d { req = s.req; now = Calling s }) e
      (λ y x at later. later_more y s.req (Calling s) (more y at)) t u d found

  further_step_call : (s : Steps) (n : CallStep) (e : Coord) → ((d : Doing) → doing_of (actor s.path) c ≡ Some d → d.req < s.req + 1) →
      IsFurther e → IsFurther (step_call s n e).part
  further_step_call s (On at) e more t = further_goes (record s { req = s.req + 1; at = at }) e more t
  further_step_call s (Ended g) e more t = by g
    where
      idle : Coord
      idle = on_root (root_of s.path) (root_heard s g) (on_doing (actor s.path) (λ (d : Doing). record d { now = Idle }) e)

      rests : IsFurther idle
      rests u d found = further_idle (actor s.path) e t u d found

      by : (h : CallEnd) → IsFurther (doomed_by (actor s.path) h idle)
      by (Answered a) = rests
      by (Included st) = rests
      by (Conflict h x k) = rests
      by (Changed k w) = rests
      by (Lost k false) = rests
      by (Lost k true) = let q = doomed_same (actor s.path) idle.tree in
          further_own idle (record idle { tree = doomed_at (actor s.path) idle.tree }) q.own refl rests

  further_ended : (u : Uid) (how : End) (e : Coord) → IsFurther e → IsFurther (ended u how e)
  further_ended u how e t = let g = end_tree_on u how e in
      further_idle u (record e { tree = ended_at u how e.tree }) (further_own e (record e { tree = ended_at u how e.tree }) g.own refl t)

  further_all : (us : List Uid) (e : Coord) → IsFurther e → IsFurther (all_aborted us e).part
  further_all [] e t = t
  further_all (u ∷ us) e t = further_all us (ended u ending.Abort e) (further_ended u ending.Abort e t)

  further_asked : (p : Path) (req : ℕ) (asked : List (ℕ × Ask)) (e : Coord) → IsFurther e → IsFurther (asks_all p req asked e).part
  further_asked p req [] e t = t
  further_asked p req (a ∷ rest) e t = further_asked p req rest (asks_node p req a e).part (λ u d found. t u d found)

  further_decide : (p : Plan) (e : Coord) → IsFurther e → IsFurther (decide p e).part
  further_decide p e t = by (has_record p)
    where
      f : Coord
      f = ended (actor p.path) ending.Commit e

      r : Coord
      r = on_root (root_of p.path) (root_after p) (on_doing (actor p.path) (λ (d : Doing). record d { took = participants p }) f)

      its : IsFurther r
      its u d found = further_took (actor p.path) (participants p) f (further_ended (actor p.path) ending.Commit e t) u d found

      by : (b : Bool) → IsFurther
          (cond b (record r { telling = put_uid (actor p.path) (record { root = root_of p.path; nodes = participants p }) r.telling }) r)
      by true = λ u d found. its u d found
      by false = its

  -- ---- commits

  -- what a step comes to is further on than the action's work
  abbrev IsNextStep : Uid → CommitStep → Type 0
  IsNextStep u (Stays m) = (d : Doing) → doing_of u c ≡ Some d → IsLater d (let p = plan_of m in p.req) (Committing m)
  IsNextStep u (Asks m) = (d : Doing) → doing_of u c ≡ Some d → IsLater d (let p = plan_of m in p.req) (Committing m)
  IsNextStep u (Decides p) = ⊤
  IsNextStep u (Aborts why p) = ⊤

  further_commits : (u : Uid) (m : Machine) →
      ((d : Doing) → doing_of u c ≡ Some d → IsLater d (let p = plan_of m in p.req) (Committing m)) → IsFurther (commits_in u m c)
  further_commits u m its =
      further_do u (λ (d : Doing). record d { req = (plan_of m).req; now = Committing m }) c (λ d x found later. its d found) further_same

  further_step : (u : Uid) (st : CommitStep) (intents : List (Uid × Intent)) → IsNextStep u st → IsFurther (step_commit u st intents c).part
  further_step u (Stays m) intents its = further_commits u m its
  further_step u (Asks m) intents its =
      further_asked (plan_of m).path (plan_of m).req (commit.waiting m) (commits_in u m c) (further_commits u m its)
  further_step u (Decides p) intents its = further_decide p c further_same
  further_step u (Aborts why p) intents its = further_ended u ending.Abort c further_same

  -- from a commit under way
  next_step : (u : Uid) (d : Doing) (k : Machine) → doing_of u c ≡ Some d → d.now ≡ Committing k → (let p = plan_of k in p.req) ≡ d.req →
      (st : CommitStep) → IsNextOf k st → IsNextStep u st
  next_step u d k found is number (Stays m) next = λ x at.
      let one : d ≡ x = some_is (sym found ∙ at) in
      subst (λ (y : Doing). IsLater y (let p = plan_of m in p.req) (Committing m)) one (record {
        low = low_is (let p = plan_of m in p.req) (let p = plan_of k in p.req) d.req next.0 number;
        same = λ same. (k, is, next.1, next.2);
      })
    where
      low_is : (i j l : ℕ) → i ≡ j → j ≡ l → l ≤ i
      low_is i j l a b = omega (arith, a, b)
  next_step u d k found is number (Asks m) next = λ x at. later_more x (let p = plan_of m in p.req) (Committing m) (more x.req
      (let p = plan_of k in p.req) (let p = plan_of m in p.req) (number ∙ ap (λ (y : Doing). y.req) (some_is (sym found ∙ at))) next)
    where
      more : (i j l : ℕ) → j ≡ i → j < l → i < l
      more i j l a b = omega (arith, a, b)
  next_step u d k found is number (Decides p) next = tt
  next_step u d k found is number (Aborts why p) next = tt

  -- from one that is called
  first_step : (u : Uid) (st : CommitStep) → ((d : Doing) → doing_of u c ≡ Some d → AsksMore d.req st) → IsNextStep u st
  first_step u (Stays m) more = λ d found. absurd (more d found)
  first_step u (Asks m) more = λ d found. later_more d (let p = plan_of m in p.req) (Committing m) (more d found)
  first_step u (Decides p) more = tt
  first_step u (Aborts why p) more = tt

  -- ---- all that it does

  module _ (actions : List Action) (paths : Paths) (tree : IsTree paths) (good : IsGoodCoord actions paths c)
      (numbered : AreNumbered c) where
    -- a call that waits, with its number
    waits_by : (u : Uid) (d : Doing) (s : Steps) → doing_of u c ≡ Some d → d.now ≡ Calling s → (x : Doing) →
        doing_of (actor s.path) c ≡ Some x → x.req < s.req + 1
    waits_by u d s found is x at =
        let a : IsAsking c.tree u s.path = subst (IsBusy c.tree u) is (good.busy u d found) in
        let one : d ≡ x = some_is (sym found ∙ ap (λ v. doing_of v c) (sym (actor_is actions paths tree u s.path c good a)) ∙ at) in
        above x.req s.req (subst (IsNumbered d.req) is (numbered u d found) ∙ ap (λ (y : Doing). y.req) one)

    commits_by : (u : Uid) (d : Doing) (k : Machine) → doing_of u c ≡ Some d → d.now ≡ Committing k → (let p = plan_of k in p.req) ≡ d.req
    commits_by u d k found is = (subst (IsNumbered d.req) is (numbered u d found)).0

    pub further_heard : (from : ℕ) (a : Asked) (r : Reply) (intents : List (Uid × Intent)) → IsFurther (heard from a r intents c).part
    further_heard from a r intents = by (doing_of a.act c) refl
      where
        now : (d : Doing) → doing_of a.act c ≡ Some d → (q : Now) → d.now ≡ q → IsFurther (heard_now from a r intents c q).part
        now d found Idle is = further_same
        now d found (Calling s) is = one (waits_for_call from a r s)
          where
            m : Moved
            m = answered (is_free (root_of s.path) (actor s.path) s.x c) (kept_at s c) s.goal s.at r

            one : (w : Bool) → IsFurther (cond {A = Served Coord (Unit {0})} w (heard_by (heard_call s r c)) (heard_none c)).part
            one true = further_step_call s m.step (on_root (root_of s.path) (root_moved s r m) c) (waits_by a.act d s found is) further_same
            one false = further_same
        now d found (Committing m) is = one (waits_for_commit from a r m)
          where
            one : (w : Bool) → IsFurther (cond {A = Served Coord (Unit {0})} w
                (heard_by (moved_commit a.act (commit.answered from m r) intents c)) (heard_none c)).part
            one true = further_step a.act (commit.answered from m r).step intents
                (next_step a.act d m found is (commits_by a.act d m found is) (commit.answered from m r).step (answer_next from m r))
            one false = further_same

        by : (o : Option Doing) → doing_of a.act c ≡ o → IsFurther (heard_doing from a r intents c o).part
        by None is = further_same
        by (Some d) is = now d is d.now refl

    further_give_up : (u : Uid) (intents : List (Uid × Intent)) → IsFurther (give_up u intents c).part
    further_give_up u intents = by (doing_of u c) refl
      where
        now : (d : Doing) → doing_of u c ≡ Some d → (q : Now) → d.now ≡ q → IsFurther (gives_up u intents c q).part
        now d found Idle is = further_same
        now d found (Calling s) is = further_step_call s (given_up s.at) (on_root (root_of s.path) (root_lost s (given_up s.at)) c)
            (waits_by u d s found is) further_same
        now d found (Committing m) is = further_step u (commit.given_up m).step intents
            (next_step u d m found is (commits_by u d m found is) (commit.given_up m).step (giveup_next m))

        by : (o : Option Doing) → doing_of u c ≡ o → IsFurther (give_up_doing u intents c o).part
        by None is = further_same
        by (Some d) is = now d is d.now refl

    -- a step by the next number
    next_number : (u : Uid) (d : Doing) → doing_of u c ≡ Some d → d.req < next_req u c
    next_number u d found = above d.req (last_req (doing_of u c)) (ap last_req found)

    pub further_acts : (i : Input) (intents : List (Uid × Intent)) →
        ((l : Label) (q : Kind) (parent : Option Label) → i ≢ input.Begin l q parent) → IsFurther (acts i intents c).part
    further_acts (input.Begin l q parent) intents other = absurd (other l q parent refl)
    further_acts (input.Call l x o) intents other = by (branch_named l c)
      where
        by : (f : Option Branch) → IsFurther (on_branch (λ b. call b.path x o c) c f).part
        by None = further_same
        by (Some b) =
            let p = b.path in
            let r = root_at (root_of p) c in
            let old = keeping_of x r in
            let k = renewed (is_free (root_of p) (actor p) x c) old old.kept in
            let u : Coord = record c { tree = uses_object p x c.tree } in
            let q = uses_same p x c.tree in
            further_goes (call_steps p x o (next_req (actor p) c) r c k) (on_root (root_of p) (with_keeping x k) u) (next_number (actor p))
            (further_own c u q.own refl further_same)
    further_acts (input.Include l x s) intents other = by (branch_named l c)
      where
        by : (f : Option Branch) → IsFurther (on_branch (λ b. include b.path x s c) c f).part
        by None = further_same
        by (Some b) =
            let q = uses_same b.path x c.tree in
            further_goes (start b.path x (calls.Include s) None unbound (next_req (actor b.path) c))
            (record c { tree = uses_object b.path x c.tree }) (next_number (actor b.path))
            (further_own c (record c { tree = uses_object b.path x c.tree }) q.own refl further_same)
    further_acts (input.Commit l) intents other = by (branch_named l c)
      where
        by : (f : Option Branch) → IsFurther (on_branch (λ b. commit_action b intents c) c f).part
        by None = further_same
        by (Some b) = doomed b.doomed
          where
            u : Uid
            u = actor b.path

            plan : Plan
            plan = plan_for b.path (last_req (doing_of u c)) (root_at (root_of b.path) c) c

            top : IsFurther (commit_top b.path intents c).part
            top = further_step u (commit.start plan).step intents
                (first_step u (commit.start plan).step (λ d found. votes_more (servers_of plan) plan d.req (ap last_req found)))

            kinds : (q : Kind) → IsFurther (commit_open b intents c q).part
            kinds kind.Nested = further_ended u ending.Commit c further_same
            kinds kind.Serial = further_ended u ending.Commit c further_same
            kinds kind.Top = top
            kinds kind.Independent = top
            kinds kind.Constituent = top

            doomed : (d : Bool) →
                IsFurther (cond {A = Did Coord} d (aborts_with u cause.Doomed intents c) (commit_open b intents c b.kind)).part
            doomed true = further_ended u ending.Abort c further_same
            doomed false = kinds b.kind
    further_acts (input.Abort l) intents other = by (branch_named l c)
      where
        by : (f : Option Branch) → IsFurther (on_branch (λ b. abort_action (actor b.path) intents c) c f).part
        by None = further_same
        by (Some b) = further_all (open_below (actor b.path) c.tree ++ actor b.path ∷ []) c further_same
    further_acts (input.GiveUp l) intents other = by (branch_named l c)
      where
        by : (f : Option Branch) → IsFurther (on_branch (λ b. give_up (actor b.path) intents c) c f).part
        by None = further_same
        by (Some b) = further_give_up (actor b.path) intents
    further_acts (input.Frame j from m) intents other = further_same
    further_acts input.Tick intents other = further_same
    further_acts input.Restart intents other = further_same
    further_acts input.Crash intents other = further_same
    further_acts (input.Show x) intents other = further_same

  pub further_acked : (from : ℕ) (u : Uid) (intents : List (Uid × Intent)) → IsFurther (acked from u intents c).part
  further_acked from u intents = by (at_uid u c.telling)
    where
      left : (i : Intent) (ns : List ℕ) → IsFurther (acked_left u i intents c ns).part
      left i [] w d found = further_same w d found
      left i (m ∷ ms) w d found = further_same w d found

      by : (o : Option Intent) → IsFurther (acked_by from u intents c o).part
      by None = further_same
      by (Some i) = one (has i.nodes from)
        where
          one : (b : Bool) → IsFurther (cond {A = Served Coord (Unit {0})} b (acked_left u i intents c (without_number from i.nodes))
              (record { part = c; outs = []; reply = None })).part
          one true = left i (without_number from i.nodes)
          one false = further_same

  further_again_from : (ds : List Doing) (e : Coord) → IsFurther e → IsFurther (again_all ds e).part
  further_again_from [] e t = t
  further_again_from (d ∷ ds) e t = further_again_from ds (again_now e d.now).part (now d.now)
    where
      now : (q : Now) → IsFurther (again_now e q).part
      now Idle = t
      now (Calling s) = λ u x found. t u x found
      now (Committing m) = further_asked (plan_of m).path (plan_of m).req (commit.waiting m) e t

  pub further_again : (ds : List Doing) → IsFurther (again_all ds c).part
  further_again ds = further_again_from ds c further_same

  pub further_begins : (l : Label) (q : Kind) (parent : Option Label) → IsFurther (begin_action l q parent (parent_of parent c) c).part
  further_begins l q parent u d found = (d, by (is_own u c.tree) u.num found, record { low = omega arith; same = λ is. asks_itself d.now })
    where
      fresh : Doing
      fresh = record { label = l; req = 0; now = Idle; took = [] }

      by : (b : Bool) (j : ℕ) → cond b (at_place j c.doings) None ≡ Some d → cond b (at_place j (c.doings ++ fresh ∷ [])) None ≡ Some d
      by true zero at = absurd (cc at)
      by true (suc j) at = still_there fresh d c.doings j at
      by false j at = at
