-- Ends that are decided stand, and messages fit more actions.
use Rattle.arj_law_parts.proofs.Words
use Words.{◌≡◌, ◌≢◌, ◌⊎◌, ◌+◌, ◌==◌, ℕ, List, [], ◌∷◌, ◌++◌, Bool, true, false, cond, not, ◌&&◌, ◌||◌, filter, Option, Some, None, refl}
use Words.{sym, ◌∙◌, ap, subst, inl, inr, ⊎_elim, arith, is_some, and_parts, is_on, uid_eq, uid_same, uid_cases, In, in_from, in_to}
use Words.{in_filter, Uid, End, Kind, Path, Asked, Header, Op, Ask, Head, Message, asks, uids_of, Reply, actor, goes_on, call, call_steps}
use Words.{renewed, next_req, include, doomed_by, root_heard, step_call, root_moved, kept_at, heard_call, commits_in, step_commit}
use Words.{moved_commit, commit_top, commit_open, commit_action, last_req, heard_now, heard_doing, heard, heard_by, heard_none}
use Words.{waits_for_call, waits_for_commit, root_lost, gives_up, give_up_doing, give_up, again_now, again_all, Steps, CallStep, On, Ended}
use Words.{CallEnd, Answered, Included, Conflict, Changed, Lost, Moved, answered, given_up, start, Plan, CommitStep, Stays, Asks, Decides}
use Words.{Aborts, plan_of, servers_of, participants, has_record, Coord, Doing, Now, Idle, Calling, Committing, doing_of, on_doing, on_root}
use Words.{root_at, plan_for, keeping_of, with_keeping, is_free, Did, Served, Intent, ended, aborts_with, abort_action, decide, acked}
use Words.{acked_by, acked_left, root_after, at_uid, put_uid, has, without_number, unbound, Input, acts, branch_named, on_branch}
use Words.{refusal_up, refused_by, commit_reasons, abort_reasons, parent_of, Tree, Branch, begun_by, branch_of, ends_of, root_of, at_place}
use Words.{open_below, is_open_below, uses_object, doomed_at, ended_at, ended_branch, has_open_child, path_below, next_uid}
use Words.ask
use Words.ending
use Words.kind
use Words.cause
use Words.message
use Words.calls
use Words.commit
use Words.input
use Rattle.arj_law_parts.proofs.Terms
use Terms.{is_below, Action, IsVoting, IsBusy, IsGoodCoord, Paths, IsTree, IsAsker, FitsAsk, FitsOther, FitsAsked, FitsMessage, IsDecided}
use Terms.{Seals, SealsAsk, SealsAsked, is_commit, has_commit_of, HasAllBelow, IsTopOn, AreOrdered}
use Rattle.arj_law_parts.proofs.parts
use parts.{Sends.asks_all_tree, Sends.again_tree}
use parts.CoordInputs.{named_found, off, off_third}
use parts.GoodCoords.{IsSameTree, uses_same, doomed_same, on_tree, actor_is, answer_step, giveup_step, vote_step, IsStepOf, voting_at}
use parts.GoodTrees.{abort_all, aborted_tree, after, at_others, at_u, ended_b, ends_after, grown_still, in_latest, in_more, placed}
use parts.GoodTrees.{same_ends}
use Rattle.arj_law_parts.specs.parts.Messages.{SealsOther}

never : {P : Type 0} (b : Bool) → b ≡ true → b ≡ false → P
never b holds fails = let no_way : true ≡ false = sym holds ∙ fails in cc

-- ---- from one tree to the next

-- Each end stands, of the same action; and an end that is listed at a root was listed before, or is so now.
pub record Stand (t v : Tree) : Type 0 where
  pub ends : (u : Uid) (e : End) → IsDecided u e t → IsDecided u e v
  pub listed : (r u : Uid) (e : End) → In (u, e) (ends_of r v) → In (u, e) (ends_of r t) ⊎ IsDecided u e v

pub stand_by : (t v : Tree) → t ≡ v → Stand t v
stand_by t v is =
    record { ends = λ u e d. subst (IsDecided u e) is d; listed = λ r u e i. inl (subst (λ x. In (u, e) (ends_of r x)) (sym is) i) }

pub both : (t v w : Tree) → Stand t v → Stand v w → Stand t w
both t v w a b = record {
  ends = λ u e d. b.ends u e (a.ends u e d);
  listed = λ r u e i. ⊎_elim (λ j. ⊎_elim (λ old. inl old) (λ d. inr (b.ends u e d)) (a.listed r u e j)) (λ d. inr d) (b.listed r u e i);
}

pub stand_same : (t v : Tree) → IsSameTree t v → Stand t v
stand_same t v same = record {
  ends = λ u e d. let f = same.forth u d.0 d.1 in (f.0, f.1, sym f.4 ∙ d.2);
  listed = λ r u e i. inl (subst (λ es. In (u, e) es) (same.ends r) i);
}

-- what stands in a list with one more
in_one_more : (x : Uid × End) (es : List (Uid × End)) (y : Uid × End) → In x (es ++ y ∷ []) → In x es ⊎ (y ≡ x)
in_one_more x [] y (inl same) = inr same
in_one_more x [] y (inr i) = absurd i
in_one_more x (e ∷ es) y (inl same) = inl (inl same)
in_one_more x (e ∷ es) y (inr i) = ⊎_elim (λ old. inl (inr old)) (λ new. inr new) (in_one_more x es y i)

-- the end that is new is so
listed_ended : (u : Uid) (e : End) (t : Tree) (r w : Uid) (f : End) → In (w, f) (ends_of r (ended_at u e t)) →
    In (w, f) (ends_of r t) ⊎ ((u ≡ w) × (e ≡ f) × IsDecided u e (ended_at u e t))
listed_ended u e t r w f = by (branch_of u t) refl
  where
    by : (o : Option Branch) → branch_of u t ≡ o → In (w, f) (ends_of r (ended_branch u e t o)) →
        In (w, f) (ends_of r t) ⊎ ((u ≡ w) × (e ≡ f) × IsDecided u e (ended_branch u e t o))
    by None is i = inl i
    by (Some b) is i = ⊎_elim (λ same. inl (subst (λ es. In (w, f) es) same i)) (λ more. ⊎_elim (λ old. inl old)
        (λ new. inr (ap (λ (x : Uid × End). x.0) new, ap (λ (x : Uid × End). x.1) new, (ended_b u e t b is, at_u u e t b is, refl)))
        (in_one_more (w, f) (ends_of r t) (u, e) (subst (λ es. In (w, f) es) more.1 i))) (ends_after u e t b is r)

pub decided_is : (u w : Uid) (e f : End) (t : Tree) → u ≡ w → e ≡ f → IsDecided u e t → IsDecided w f t
decided_is u w e f t same is d = (d.0, ap (λ v. branch_of v t) (sym same) ∙ d.1, d.2 ∙ ap Some is)

-- an action that has ended isn't ended again
pub stand_ended : (u : Uid) (e : End) (t : Tree) → ((b : Branch) → branch_of u t ≡ Some b → is_some b.ended ≡ false) →
    Stand t (ended_at u e t)
stand_ended u e t opened = record {
  ends = λ w f d. by w f d (branch_of u t) refl;
  listed =
      λ r w f i. ⊎_elim (λ old. inl old) (λ new. inr (decided_is u w e f (ended_at u e t) new.0 new.1 new.2)) (listed_ended u e t r w f i);
}
  where
    by : (w : Uid) (f : End) → IsDecided w f t → (o : Option Branch) → branch_of u t ≡ o → IsDecided w f (ended_branch u e t o)
    by w f d None is = d
    by w f d (Some b) is = ⊎_elim (λ same. never (is_some d.0.ended) (ap is_some d.2)
        (opened d.0 (ap (λ v. branch_of v t) (sym same) ∙ d.1))) (λ other. (d.0, at_others u e t b is w other ∙ d.1, d.2)) (uid_cases w u)

-- an action that begins leaves what was decided
pub stand_begins : (k : Kind) (p : Path) (t : Tree) → Stand t (begun_by k p t)
stand_begins k p t = record {
  ends = λ u e d. (d.0, grown_still k p t u d.0 d.1, d.2);
  listed = λ r u e i. inl (subst (λ es. In (u, e) es) (same_ends k p t r) i);
}

-- what was aborted stays so, whoever is aborted
aborted_all : (us : List Uid) (t : Tree) (w : Uid) → IsDecided w ending.Abort t → IsDecided w ending.Abort (abort_all us t)
aborted_all [] t w d = d
aborted_all (u ∷ us) t w d = aborted_all us (ended_at u ending.Abort t) w (by (branch_of u t) refl)
  where
    by : (o : Option Branch) → branch_of u t ≡ o → IsDecided w ending.Abort (ended_branch u ending.Abort t o)
    by None is = d
    by (Some b) is = ⊎_elim (λ same.
        (ended_b u ending.Abort t b is, ap (λ v. branch_of v (after u ending.Abort t b is)) same ∙ at_u u ending.Abort t b is, refl))
        (λ other. (d.0, at_others u ending.Abort t b is w other ∙ d.1, d.2)) (uid_cases w u)

listed_all : (us : List Uid) (t : Tree) (r w : Uid) (f : End) → In (w, f) (ends_of r (abort_all us t)) →
    In (w, f) (ends_of r t) ⊎ IsDecided w f (abort_all us t)
listed_all [] t r w f i = inl i
listed_all (u ∷ us) t r w f i = ⊎_elim (λ j. ⊎_elim (λ old. inl old) (λ new. inr (decided_is u w ending.Abort f (abort_all us
    (ended_at u ending.Abort t)) new.0 new.1 (aborted_all us (ended_at u ending.Abort t) u new.2))) (listed_ended u ending.Abort t r w f j))
    (λ d. inr d) (listed_all us (ended_at u ending.Abort t) r w f i)

stand_all : (us : List Uid) (t : Tree) (w : Uid) (e : End) → (In w us → ⊥) → IsDecided w e t → IsDecided w e (abort_all us t)
stand_all [] t w e off d = d
stand_all (u ∷ us) t w e off d = stand_all us (ended_at u ending.Abort t) w e (λ i. off (inr i)) (by (branch_of u t) refl)
  where
    by : (o : Option Branch) → branch_of u t ≡ o → IsDecided w e (ended_branch u ending.Abort t o)
    by None is = d
    by (Some b) is = (d.0, at_others u ending.Abort t b is w (λ same. off (inl (sym same))) ∙ d.1, d.2)

module _ (actions : List Action) (paths : Paths) (tree : IsTree paths) where
  abbrev Good : Coord → Type 0
  Good c = IsGoodCoord actions paths c

  -- a branch of the list is found by its Uid
  listed_found : (c : Coord) → Good c → (b : Branch) → In b c.tree.branches → branch_of (actor b.path) c.tree ≡ Some b
  listed_found c good b i =
      let p = placed b c.tree.branches i in
      let u : Uid = record { node = c.tree.node; inc = c.tree.inc; num = p.0 } in
      let found : branch_of u c.tree ≡ Some b =
      (λ j. cond (itself c.tree.node j && itself c.tree.inc j) (at_place p.0 c.tree.branches) None) ∙ p.1 in
      ap (λ v. branch_of v c.tree) (good.tree.lists.places u b found) ∙ found
    where
      itself : (n : ℕ) → (n == n) ≡ true
      itself n = grind arith

  pub stand_abort : (u : Uid) (intents : List (Uid × Intent)) (c : Coord) → ((b : Branch) → branch_of u c.tree ≡ Some b →
      is_some b.ended ≡ false) → Good c → Stand c.tree (let d = abort_action u intents c in let e = d.part in e.tree)
  stand_abort u intents c opened good = both c.tree (abort_all us c.tree) (let d = abort_action u intents c in let e = d.part in
      e.tree) (record { ends = λ w e d. stand_all us c.tree w e (λ i. out w e d i) d; listed = λ r w e i. listed_all us c.tree r w e i })
      (stand_by (abort_all us c.tree) (let d = abort_action u intents c in let e = d.part in e.tree) (sym (aborted_tree us c)))
    where
      us : List Uid
      us = open_below u c.tree ++ u ∷ []

      is_open_one : (w : Uid) (e : End) (d : IsDecided w e c.tree) (b : Branch) → In b (filter (is_open_below u) c.tree.branches) →
          actor b.path ≡ w → ⊥
      is_open_one w e d b i same =
          let q = in_filter (is_open_below u) b c.tree.branches i in
          let found = ap (λ v. branch_of v c.tree) (sym same) ∙ listed_found c good b q.0 in
          let k : ◌≡◌ {A = Option Branch} (Some b) (Some d.0) = sym found ∙ d.1 in
          let one : b ≡ d.0 = cc in
          never (not (is_some b.ended)) (and_parts (is_below u b) (not (is_some b.ended)) q.1).1
          (ap not (ap (λ (x : Branch). is_some x.ended) one ∙ ap is_some d.2))

      out : (w : Uid) (e : End) → IsDecided w e c.tree → In w us → ⊥
      out w e d i = ⊎_elim (λ j. ⊎_elim (λ never_in. never_in) (λ f. is_open_one w e d f.0 f.1 f.2)
          (in_latest w (filter (is_open_below u) c.tree.branches) [] j)) (λ same. never (is_some d.0.ended) (ap is_some d.2)
          (opened d.0 (ap (λ v. branch_of v c.tree) same ∙ d.1))) (in_more w (open_below u c.tree) u i)

  -- ---- calls

  pub stand_goes : (s : Steps) (c : Coord) → Stand c.tree (let d = goes_on s c in let e = d.part in e.tree)
  stand_goes s c = stand_by c.tree _ (sym (on_tree (actor s.path) (λ (d : Doing). record d { req = s.req; now = Calling s }) c))

  pub stand_step_call : (s : Steps) (t : CallStep) (c : Coord) → Stand c.tree (let d = step_call s t c in let e = d.part in e.tree)
  stand_step_call s (On at) c = stand_goes (record s { req = s.req + 1; at = at }) c
  stand_step_call s (Ended e) c = by e
    where
      idle : Coord
      idle = on_root (root_of s.path) (root_heard s e) (on_doing (actor s.path) (λ (d : Doing). record d { now = Idle }) c)

      same : Stand c.tree idle.tree
      same = stand_by c.tree idle.tree (sym (on_tree (actor s.path) (λ (d : Doing). record d { now = Idle }) c))

      by : (f : CallEnd) → Stand c.tree (let d = doomed_by (actor s.path) f idle in d.tree)
      by (Answered a) = same
      by (Included st) = same
      by (Conflict h m n) = same
      by (Changed n w) = same
      by (Lost n false) = same
      by (Lost n true) = both c.tree idle.tree (doomed_at (actor s.path) idle.tree) same
          (stand_same idle.tree (doomed_at (actor s.path) idle.tree) (doomed_same (actor s.path) idle.tree))

  -- ---- commits

  -- a voting action is open
  pub voting_open : (c : Coord) (u : Uid) (p : Plan) → IsVoting c.tree u p → (b : Branch) → branch_of u c.tree ≡ Some b →
      is_some b.ended ≡ false
  voting_open c u p v b found = let k : ◌≡◌ {A = Option Branch} (Some v.asking.branch) (Some b) = sym v.asking.found ∙ found in
      let one : v.asking.branch ≡ b = cc in ap (λ (x : Branch). is_some x.ended) (sym one) ∙ v.asking.opened

  pub ended_tree : (u : Uid) (e : End) (c : Coord) → (ended u e c).tree ≡ ended_at u e c.tree
  ended_tree u e c = on_tree u (λ (d : Doing). record d { now = Idle }) (record c { tree = ended_at u e c.tree })

  pub stand_c_ended : (u : Uid) (e : End) (c : Coord) → ((b : Branch) → branch_of u c.tree ≡ Some b → is_some b.ended ≡ false) →
      Stand c.tree (ended u e c).tree
  stand_c_ended u e c opened = both c.tree (ended_at u e c.tree) (ended u e c).tree (stand_ended u e c.tree opened)
      (stand_by (ended_at u e c.tree) (ended u e c).tree (sym (ended_tree u e c)))

  pub stand_decided : (p : Plan) (c : Coord) → ((b : Branch) → branch_of (actor p.path) c.tree ≡ Some b → is_some b.ended ≡ false) →
      Stand c.tree (let d = decide p c in let e = d.part in e.tree)
  stand_decided p c opened = both c.tree e.tree (let d = decide p c in let x = d.part in
      x.tree) (stand_c_ended (actor p.path) ending.Commit c opened) (by (has_record p))
    where
      e : Coord
      e = ended (actor p.path) ending.Commit c

      took : Coord
      took = on_doing (actor p.path) (λ (d : Doing). record d { took = participants p }) e

      r : Coord
      r = on_root (root_of p.path) (root_after p) took

      by : (b : Bool) → Stand e.tree (cond b
          (record r { telling = put_uid (actor p.path) (record { root = root_of p.path; nodes = participants p }) r.telling }) r).tree
      by true = stand_by e.tree _ (sym (on_tree (actor p.path) (λ (d : Doing). record d { took = participants p }) e))
      by false = stand_by e.tree _ (sym (on_tree (actor p.path) (λ (d : Doing). record d { took = participants p }) e))

  pub stand_step_commit : (u : Uid) (p : Plan) (s : CommitStep) (intents : List (Uid × Intent)) (c : Coord) → IsVoting c.tree u p →
      IsStepOf actions paths tree p s → Good c → Stand c.tree (let d = step_commit u s intents c in let e = d.part in e.tree)
  stand_step_commit u p (Stays m) intents c v same good =
      stand_by c.tree _ (sym (on_tree u (λ (d : Doing). record d { req = (plan_of m).req; now = Committing m }) c))
  stand_step_commit u p (Asks m) intents c v same good = stand_by c.tree _ (sym (asks_all_tree (plan_of m).path (plan_of m).req
      (commit.waiting m) (commits_in u m c) ∙ on_tree u (λ (d : Doing). record d { req = (plan_of m).req; now = Committing m }) c))
  stand_step_commit u p (Decides q) intents c v same good = stand_decided q c (λ b f. voting_open c u p v b
      (ap (λ w. branch_of w c.tree) (sym (ap actor same.0 ∙ actor_is actions paths tree u p.path c good v.asking)) ∙ f))
  stand_step_commit u p (Aborts why q) intents c v same good = stand_c_ended u ending.Abort c (voting_open c u p v)

  -- ---- what a coordinator hears, and inputs

  pub stand_heard : (from : ℕ) (a : Asked) (r : Reply) (intents : List (Uid × Intent)) (c : Coord) → Good c →
      Stand c.tree (let d = heard from a r intents c in let e = d.part in e.tree)
  stand_heard from a r intents c good = by (doing_of a.act c) refl
    where
      itself : Stand c.tree c.tree
      itself = stand_by c.tree c.tree refl

      now : (n : Now) → IsBusy c.tree a.act n → Stand c.tree (let d = heard_now from a r intents c n in let e = d.part in e.tree)
      now Idle b = itself
      now (Calling s) b = one (waits_for_call from a r s)
        where
          m : Moved
          m = answered (is_free (root_of s.path) (actor s.path) s.x c) (kept_at s c) s.goal s.at r

          one : (w : Bool) → Stand c.tree (let d = cond {A = Served Coord (Unit {0})} w (heard_by (heard_call s r c)) (heard_none c) in
              let e = d.part in e.tree)
          one true = stand_step_call s m.step (on_root (root_of s.path) (root_moved s r m) c)
          one false = itself
      now (Committing m) b = one (waits_for_commit from a r m)
        where
          one : (w : Bool) → Stand c.tree (let d = cond {A = Served Coord (Unit {0})} w
              (heard_by (moved_commit a.act (commit.answered from m r) intents c)) (heard_none c) in let e = d.part in e.tree)
          one true =
              stand_step_commit a.act (plan_of m) (commit.answered from m r).step intents c b (answer_step actions paths tree from m r) good
          one false = itself

      by : (o : Option Doing) → doing_of a.act c ≡ o → Stand c.tree (let d = heard_doing from a r intents c o in let e = d.part in e.tree)
      by None is = itself
      by (Some d) is = now d.now (good.busy a.act d is)

  pub stand_give_up : (u : Uid) (intents : List (Uid × Intent)) (c : Coord) → Good c →
      Stand c.tree (let d = give_up u intents c in let e = d.part in e.tree)
  stand_give_up u intents c good = by (doing_of u c) refl
    where
      now : (n : Now) → IsBusy c.tree u n → Stand c.tree (let d = gives_up u intents c n in let e = d.part in e.tree)
      now Idle b = stand_by c.tree c.tree refl
      now (Calling s) b = stand_step_call s (given_up s.at) (on_root (root_of s.path) (root_lost s (given_up s.at)) c)
      now (Committing m) b = stand_step_commit u (plan_of m) (commit.given_up m).step intents c b (giveup_step actions paths tree m) good

      by : (o : Option Doing) → doing_of u c ≡ o → Stand c.tree (let d = give_up_doing u intents c o in let e = d.part in e.tree)
      by None is = stand_by c.tree c.tree refl
      by (Some d) is = now d.now (good.busy u d is)

  pub stand_commit : (b : Branch) (intents : List (Uid × Intent)) (c : Coord) → branch_of (actor b.path) c.tree ≡ Some b →
      is_some b.ended ≡ false → has_open_child (actor b.path) c.tree ≡ false → Good c →
      Stand c.tree (let d = commit_action b intents c in let e = d.part in e.tree)
  stand_commit b intents c found opened none good = by b.doomed
    where
      u : Uid
      u = actor b.path

      plan : Plan
      plan = plan_for b.path (last_req (doing_of u c)) (root_at (root_of b.path) c) c

      opened_u : (x : Branch) → branch_of u c.tree ≡ Some x → is_some x.ended ≡ false
      opened_u x f = let k : ◌≡◌ {A = Option Branch} (Some b) (Some x) = sym found ∙ f in let one : b ≡ x = cc in
          ap (λ (y : Branch). is_some y.ended) (sym one) ∙ opened

      top : b.kind ≢ kind.Serial → b.kind ≢ kind.Nested → Stand c.tree (let d = commit_top b.path intents c in let e = d.part in e.tree)
      top unserial unnested = stand_step_commit u plan (commit.start plan).step intents c (voting_at actions paths tree b c found opened
          none unserial unnested good) (vote_step actions paths tree (servers_of plan) plan plan (refl, refl)) good

      kinds : (k : Kind) → b.kind ≡ k → Stand c.tree (let d = commit_open b intents c k in let e = d.part in e.tree)
      kinds kind.Nested is = stand_c_ended u ending.Commit c opened_u
      kinds kind.Serial is = stand_c_ended u ending.Commit c opened_u
      kinds kind.Top is =
          top (λ e. let no_way : kind.Top ≡ kind.Serial = sym is ∙ e in cc) (λ e. let no_way : kind.Top ≡ kind.Nested = sym is ∙ e in cc)
      kinds kind.Independent is = top (λ e. let no_way : kind.Independent ≡ kind.Serial = sym is ∙ e in
          cc) (λ e. let no_way : kind.Independent ≡ kind.Nested = sym is ∙ e in cc)
      kinds kind.Constituent is = top (λ e. let no_way : kind.Constituent ≡ kind.Serial = sym is ∙ e in
          cc) (λ e. let no_way : kind.Constituent ≡ kind.Nested = sym is ∙ e in cc)

      by : (d : Bool) → Stand c.tree (let x = cond {A = Did Coord} d (aborts_with u cause.Doomed intents c)
          (commit_open b intents c b.kind) in let e = x.part in e.tree)
      by true = stand_c_ended u ending.Abort c opened_u
      by false = kinds b.kind refl

  call_tree : (p : Path) (x : ℕ) (o : Op) (c : Coord) → (let d = call p x o c in let e = d.part in e.tree) ≡ uses_object p x c.tree
  call_tree p x o c =
      let r = root_at (root_of p) c in
      let old = keeping_of x r in
      let k = renewed (is_free (root_of p) (actor p) x c) old old.kept in
      let t : Coord = on_root (root_of p) (with_keeping x k) (record c { tree = uses_object p x c.tree }) in
      let s : Steps = call_steps p x o (next_req (actor p) c) r c k in
      on_tree (actor p) (λ (d : Doing). record d { req = s.req; now = Calling s }) t

  include_tree : (p : Path) (x store : ℕ) (c : Coord) → (let d = include p x store c in let e = d.part in e.tree) ≡ uses_object p x c.tree
  include_tree p x store c =
      let s : Steps = start p x (calls.Include store) None unbound (next_req (actor p) c) in
      on_tree (actor p) (λ (d : Doing). record d { req = s.req; now = Calling s }) (record c { tree = uses_object p x c.tree })

  pub stand_acts : (intents : List (Uid × Intent)) (c : Coord) → Good c → (hd : Header) (i : Input) → refusal_up hd i c ≡ None →
      Stand c.tree (let d = acts i intents c in let e = d.part in e.tree)
  stand_acts intents c good hd (input.Begin l k parent) none = stand_begins k (path_below k (parent_of parent c) (next_uid c.tree)) c.tree
  stand_acts intents c good hd (input.Call l x o) none = by (branch_named l c)
    where
      by : (f : Option Branch) → Stand c.tree (let d = on_branch (λ b. call b.path x o c) c f in let e = d.part in e.tree)
      by None = stand_by c.tree c.tree refl
      by (Some b) = both c.tree (uses_object b.path x c.tree) (let d = call b.path x o c in let e = d.part in
          e.tree) (stand_same c.tree (uses_object b.path x c.tree) (uses_same b.path x c.tree))
          (stand_by (uses_object b.path x c.tree) (let d = call b.path x o c in let e = d.part in e.tree) (sym (call_tree b.path x o c)))
  stand_acts intents c good hd (input.Include l x s) none = by (branch_named l c)
    where
      by : (f : Option Branch) → Stand c.tree (let d = on_branch (λ b. include b.path x s c) c f in let e = d.part in e.tree)
      by None = stand_by c.tree c.tree refl
      by (Some b) = both c.tree (uses_object b.path x c.tree) (let d = include b.path x s c in let e = d.part in
          e.tree) (stand_same c.tree (uses_object b.path x c.tree) (uses_same b.path x c.tree)) (stand_by (uses_object b.path x c.tree)
          (let d = include b.path x s c in let e = d.part in e.tree) (sym (include_tree b.path x s c)))
  stand_acts intents c good hd (input.Commit l) none = by (branch_named l c) refl none
    where
      by : (f : Option Branch) → branch_named l c ≡ f → refused_by commit_reasons c f ≡ None →
          Stand c.tree (let d = on_branch (λ b. commit_action b intents c) c f in let e = d.part in e.tree)
      by None is r = stand_by c.tree c.tree refl
      by (Some b) is r =
          let r6 : is_some b.ended ≡ false = (off (commit_reasons b c) r).0 in
          let r9 : has_open_child (actor b.path) c.tree ≡ false = off_third (commit_reasons b c) r in
          stand_commit b intents c (named_found actions paths tree intents c good l b is) r6 r9 good
  stand_acts intents c good hd (input.Abort l) none = by (branch_named l c) refl none
    where
      by : (f : Option Branch) → branch_named l c ≡ f → refused_by abort_reasons c f ≡ None →
          Stand c.tree (let d = on_branch (λ b. abort_action (actor b.path) intents c) c f in let e = d.part in e.tree)
      by None is r = stand_by c.tree c.tree refl
      by (Some b) is r =
          let r6 : is_some b.ended ≡ false = (off (abort_reasons b c) r).0 in
          let found = named_found actions paths tree intents c good l b is in
          stand_abort (actor b.path) intents c (λ x f. let k : ◌≡◌ {A = Option Branch} (Some b) (Some x) = sym found ∙ f in
          let one : b ≡ x = cc in ap (λ (y : Branch). is_some y.ended) (sym one) ∙ r6) good
  stand_acts intents c good hd (input.GiveUp l) none = by (branch_named l c)
    where
      by : (f : Option Branch) → Stand c.tree (let d = on_branch (λ b. give_up (actor b.path) intents c) c f in let e = d.part in e.tree)
      by None = stand_by c.tree c.tree refl
      by (Some b) = stand_give_up (actor b.path) intents c good
  stand_acts intents c good hd (input.Frame k from m) none = stand_by c.tree c.tree refl
  stand_acts intents c good hd input.Tick none = stand_by c.tree c.tree refl
  stand_acts intents c good hd input.Restart none = stand_by c.tree c.tree refl
  stand_acts intents c good hd input.Crash none = stand_by c.tree c.tree refl
  stand_acts intents c good hd (input.Show x) none = stand_by c.tree c.tree refl

  pub stand_acked : (from : ℕ) (u : Uid) (intents : List (Uid × Intent)) (c : Coord) →
      Stand c.tree (let d = acked from u intents c in let e = d.part in e.tree)
  stand_acked from u intents c = by (at_uid u c.telling)
    where
      left : (i : Intent) (ns : List ℕ) → Stand c.tree (let d = acked_left u i intents c ns in let e = d.part in e.tree)
      left i [] = stand_by c.tree c.tree refl
      left i (n ∷ ns) = stand_by c.tree c.tree refl

      by : (o : Option Intent) → Stand c.tree (let d = acked_by from u intents c o in let e = d.part in e.tree)
      by None = stand_by c.tree c.tree refl
      by (Some i) = one (has i.nodes from)
        where
          one : (b : Bool) → Stand c.tree (let x = cond {A = Served Coord (Unit {0})} b (acked_left u i intents c
              (without_number from i.nodes)) (record { part = c; outs = []; reply = None }) in let y = x.part in y.tree)
          one true = left i (without_number from i.nodes)
          one false = stand_by c.tree c.tree refl

  pub stand_again : (ds : List Doing) (c : Coord) → Stand c.tree (let d = again_all ds c in let e = d.part in e.tree)
  stand_again [] c = stand_by c.tree c.tree refl
  stand_again (x ∷ ds) c = let t = again_now c x.now in both c.tree t.part.tree (let q = again_all ds t.part in let y = q.part in
      y.tree) (stand_by c.tree t.part.tree (sym (again_tree c x.now))) (stand_again ds t.part)

-- ---- messages and more actions

commit_later : (u : Uid) (e : Uid × End) (es : List (Uid × End)) → has_commit_of u es ≡ true → has_commit_of u (e ∷ es) ≡ true
commit_later u e es is = by (uid_eq e.0 u && is_commit e.1)
  where
    by : (b : Bool) → (b || has_commit_of u es) ≡ true
    by true = refl
    by false = is

commit_here : (e : Uid × End) (es : List (Uid × End)) → e.1 ≡ ending.Commit → has_commit_of e.0 (e ∷ es) ≡ true
commit_here e es is = λ i. (uid_same e.0 i && is_commit (is i)) || has_commit_of e.0 es

below_more : (a : Action) (acts : List Action) (u : Uid) (ends : List (Uid × End)) → is_on (uids_of a.path) u ≡ false →
    HasAllBelow acts u ends → HasAllBelow (a ∷ acts) u ends
below_more a acts u ends off_it all b k on other = ⊎_elim (λ same. never (is_on (uids_of a.path) u)
    (ap (λ (d : Action). is_on (uids_of d.path) u) same ∙ on) off_it) (λ i. all b (in_to b acts i) on other) (in_from b (a ∷ acts) k)

top_more : (a : Action) (acts : List Action) (u : Uid) → is_on (uids_of a.path) u ≡ false → IsTopOn acts u → IsTopOn (a ∷ acts) u
top_more a acts u off_it top b k on = ⊎_elim (λ same. never (is_on (uids_of a.path) u)
    (ap (λ (d : Action). is_on (uids_of d.path) u) same ∙ on) off_it) (λ i. top b (in_to b acts i) on) (in_from b (a ∷ acts) k)

ordered_more : (a : Action) (acts : List Action) (before es : List (Uid × End)) →
    ((u : Uid) → has_commit_of u es ≡ true → is_on (uids_of a.path) u ≡ false) → AreOrdered acts before es → AreOrdered (a ∷ acts) before es
ordered_more a acts before [] clear ordered = tt
ordered_more a acts before (e ∷ es) clear ordered = (
  λ is. let f = clear e.0 (commit_here e es is) in
      ⊎_elim (λ top. inl (top_more a acts e.0 f top)) (λ all. inr (below_more a acts e.0 before f all)) (ordered.0 is),
  ordered_more a acts (before ++ e ∷ []) es (λ u is. clear u (commit_later u e es is)) ordered.1,
)

asker_more : (a : Action) (acts : List Action) (p : Path) → IsAsker acts p → IsAsker (a ∷ acts) p
asker_more a acts p f = (f.0, in_to f.0 (a ∷ acts) (inr (in_from f.0 acts f.1)), f.2, f.3)

ask_more : (a : Action) (acts : List Action) (h : Head) (q : Ask) → ((u : Uid) → SealsAsk h q u → is_on (uids_of a.path) u ≡ false) →
    FitsAsk acts h q → FitsAsk (a ∷ acts) h q
ask_more a acts h (ask.Bind x i avoid) clear f = asker_more a acts h.path f
ask_more a acts h (ask.Load x) clear f = asker_more a acts h.path f
ask_more a acts h (ask.Activate b st) clear f = asker_more a acts h.path f
ask_more a acts h (ask.Record x b i g) clear f = asker_more a acts h.path f
ask_more a acts h (ask.Invoke x b i ends o) clear f = (asker_more a acts h.path f.0, f.1, ordered_more a acts [] ends clear f.2)
ask_more a acts h (ask.Vote i ties ends) clear f = (
  asker_more a acts h.path f.0,
  below_more a acts (actor h.path) ends (clear (actor h.path) (inr refl)) f.1,
  ordered_more a acts [] ends (λ u is. clear u (inl is)) f.2,
)
ask_more a acts h (ask.Prepare states) clear f = asker_more a acts h.path f
ask_more a acts h (ask.Confirm g e i) clear f = asker_more a acts h.path f

other_more : (a : Action) (acts : List Action) (m : Message) → ((u : Uid) → SealsOther m u → is_on (uids_of a.path) u ≡ false) →
    FitsOther acts m → FitsOther (a ∷ acts) m
other_more a acts (message.Told m) clear f = ordered_more a acts [] m.ends clear f
other_more a acts (message.Acked m) clear f = tt
other_more a acts (message.Query m) clear f = tt
other_more a acts (message.Hello m) clear f = tt
other_more a acts (message.Bind m) clear f = tt
other_more a acts (message.Bound m) clear f = tt
other_more a acts (message.Load m) clear f = tt
other_more a acts (message.Loaded m) clear f = tt
other_more a acts (message.Activate m) clear f = tt
other_more a acts (message.Activated m) clear f = tt
other_more a acts (message.RecordMsg m) clear f = tt
other_more a acts (message.Recorded m) clear f = tt
other_more a acts (message.Invoke m) clear f = tt
other_more a acts (message.Invoked m) clear f = tt
other_more a acts (message.Vote m) clear f = tt
other_more a acts (message.Voted m) clear f = tt
other_more a acts (message.Prepare m) clear f = tt
other_more a acts (message.Prepared m) clear f = tt
other_more a acts (message.Confirm m) clear f = tt
other_more a acts (message.Confirmed m) clear f = tt

pub message_more : (a : Action) (acts : List Action) (m : Message) → ((u : Uid) → Seals m u → is_on (uids_of a.path) u ≡ false) →
    FitsMessage acts m → FitsMessage (a ∷ acts) m
message_more a acts m = by (asks m)
  where
    by : (o : Option (Head × Ask)) → ((u : Uid) → SealsAsked m o u → is_on (uids_of a.path) u ≡ false) → FitsAsked acts m o →
        FitsAsked (a ∷ acts) m o
    by None clear f = other_more a acts m clear f
    by (Some q) clear f = ask_more a acts q.0 q.1 clear f
