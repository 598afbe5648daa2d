-- What a coordinator knows of its calls and Binds stays as calls begin, are answered and given up, as actions commit, end and begin.
use Rattle.arj_law_parts.proofs.Words
use Words.{◌≡◌, ◌≢◌, ◌⊎◌, ◌≤◌, ◌<◌, ◌+◌, ◌==◌, ◌&&◌, ◌||◌, ℕ, zero, suc, List, [], ◌∷◌, ◌++◌, Bool, true, false, cond, Option, Some, None}
use Words.{refl, sym, ◌∙◌, ap, subst, inl, inr, ⊎_elim, arith, length, slice_get, is_some, unwrap_or, list_any, is_eq, nat_cmp, or_cases}
use Words.{or_parts, uid_cases, uid_is, Uid, Answer, Asked, Head, Header, Kind, Label, Op, Path, is_on, uid_eq, uids_of, Reply, actor}
use Words.{top_of, again_all, again_now, begin_action, call, call_steps, commit_action, commit_open, commit_top, commits_in, doomed_by}
use Words.{ends_call, give_up, give_up_doing, gives_up, goes_on, granted_by, heard, heard_by, heard_call, heard_doing, heard_none}
use Words.{heard_now, include, is_ended, keeps_after, kept_at, known_at_start, last_req, moved_commit, next_req, notes_grant, renewed}
use Words.{root_heard, root_lost, step_call, step_commit, waits_for_call, waits_for_commit, was_named, CallEnd, CallStep, Ended, Goal}
use Words.{Include, Known, On, Run, Steps, answered, given_up, has_changed, spoils, start, start_at, Aborts, Asks, CommitStep, Decides}
use Words.{Machine, Plan, Stays, has_record, participants, plan_of, servers_of, Calling, Committing, Coord, Doing, Grant, Idle, Keeping}
use Words.{Now, Root, Said, doing_of, is_free, keeping_of, kept_of, no_keeping, no_root, on_doing, on_root, plan_for, retains, root_at}
use Words.{same_said, with_keeping, Did, Intent, Served, abort_action, aborts_with, acked, acked_by, acked_left, all_aborted, decide, ended}
use Words.{kept_after, keeping_after, root_after, at_number, at_uid, has, put_uid, unbound, without_number, without_uid, Input, acts}
use Words.{branch_named, call_reasons, commit_reasons, is_waiting, is_waiting_now, on_branch, parent_of, refusal_up, refused_by, waits}
use Words.{waits_above, waits_below, Branch, at_place, begun as begun_tree, branch_of, doomed_at, is_own, next_uid, open_below, path_below}
use Words.{root_of, uses_object, put_same as put_number_same, put_other as put_number_other, one_or_two, Post}
use Words.list
use Words.cause
use Words.ending
use Words.kind
use Words.calls
use Words.commit
use Words.input
use Rattle.arj_law_runs.proofs.Terms
use Terms.{Action, IsAsking, IsBusy, IsGoodCoord, IsVoting, IsTree, Paths, AreNumbered, IsNumbered, on_own, behind, named_found, off}
use Terms.{stand_begins, IsStepOf, actor_is, answer_step, giveup_step, on_tree, vote_step, get_more, grown_still, each_at, AnswersAt}
use Terms.{AnswersWaiting, IsThere, KnowsBinds, StandsOn}
use Rattle.arj_law_runs.proofs.addresses
use addresses.{Lists.some_is}
use addresses.BindAnswers.{EndsOn, NextOn, after_there, gives_up_on, kept_now, moved_on}
use addresses.BindCoords.{IsLoose, IsNext, asked_binds, asks_binds, ended_binds, idle_binds, later_doomed, later_uses, root_binds}
use addresses.BindCoords.{same_binds, telling_binds, tree_binds, work_binds}
use Rattle.arj_law_runs.proofs.calls.CommitPlans.{IsNextOf, answer_next, giveup_next, heard_plan, heard_same, vote_next}
use Rattle.arj_law_runs.proofs.calls.CoordCalls.{heard_keeping, kept_put, not_idle, step_is}
use Rattle.arj_law_runs.proofs.calls.CoordCommits.{not_calling}
use Rattle.arj_law_runs.proofs.calls.CoordKnown.{loose_of, roots_work}
use Rattle.arj_law_runs.specs.addresses.Binds.{IsCounted, IsSaid}

-- ---- keepings

-- what is kept of the object that is put, and of others
put_there : (x : ℕ) (k : Keeping) (r : Root) → kept_of x (with_keeping x k r) ≡ k.kept
put_there x k r = ap (λ o. (unwrap_or o no_keeping).kept) (put_number_same x k r.keeping)

put_apart : (x y : ℕ) (k : Keeping) (r : Root) → is_eq (nat_cmp y x) ≡ false → kept_of y (with_keeping x k r) ≡ kept_of y r
put_apart x y k r apart = ap (λ o. (unwrap_or o no_keeping).kept) (put_number_other x y k r.keeping apart)

grant_keeping : (g : Option Grant) (r : Root) → (notes_grant g r).keeping ≡ r.keeping
grant_keeping None r = refl
grant_keeping (Some g) r = refl

grant_said : (g : Option Grant) (r : Root) → (notes_grant g r).said ≡ r.said
grant_said None r = refl
grant_said (Some g) r = refl

after_now : (g : Goal) (b : Bool) (kept : Option Known) (k : Keeping) → (keeps_after g b kept k).kept ≡ kept_now g k.kept kept
after_now (Run o) b kept k = refl
after_now (Include s) b kept k = refl

-- what a commit keeps of an object
commit_keeps : (p : Plan) (x : ℕ) (r : Root) → IsThere (kept_of x r) → IsThere (kept_of x (root_after p r))
commit_keeps p x r there = by (at_number x r.keeping) refl there
  where
    stays : (o : Option Known) → IsThere o → IsThere (kept_after p x o)
    stays None q = absurd q
    stays (Some k) q = tt

    by : (o : Option Keeping) → at_number x r.keeping ≡ o → IsThere (unwrap_or o no_keeping).kept → IsThere (kept_of x (root_after p r))
    by None none q = absurd q
    by (Some k) found q =
        subst (λ o. IsThere (unwrap_or o no_keeping).kept) (sym (each_at (keeping_after p) x r.keeping k found)) (stays k.kept q)

in_either : {A : Type 0} (a b : A) (xs : List A) → list.In a (xs ++ b ∷ []) → list.In a xs ⊎ (b ≡ a)
in_either a b [] (inl same) = inr same
in_either a b [] (inr i) = absurd i
in_either a b (x ∷ xs) (inl same) = inl (inl same)
in_either a b (x ∷ xs) (inr i) = ⊎_elim (λ old. inl (inr old)) (λ new. inr new) (in_either a b xs i)

-- what is answered more
heard_new : (s : Steps) (e : CallEnd) (r : Root) (z : Said) → list.In z (root_heard s e r).said →
    list.In z r.said ⊎ ((record { path = uids_of s.path; x = s.x } ≡ z) × ((a : Answer) × (e ≡ calls.Answered a)))
heard_new s (calls.Answered a) r z i = by (list_any (same_said (record { path = uids_of s.path; x = s.x })) r.said) i
  where
    by : (b : Bool) → list.In z (cond b r (record r { said = r.said ++ record { path = uids_of s.path; x = s.x } ∷ [] })).said →
        list.In z r.said ⊎ ((record { path = uids_of s.path; x = s.x } ≡ z) × ((b : Answer) × (calls.Answered a ≡ calls.Answered b)))
    by true j = inl j
    by false j = ⊎_elim (λ old. inl old) (λ is. inr (is, (a, refl))) (in_either z (record { path = uids_of s.path; x = s.x }) r.said j)
heard_new s (calls.Included st) r z i = inl i
heard_new s (calls.Conflict h m n) r z i = inl i
heard_new s (calls.Changed n w) r z i = inl i
heard_new s (calls.Lost n b) r z i = inl i

module _ (sent : List Post) (k : ℕ) where
  abbrev Knows : Coord → Type 0
  Knows c = KnowsBinds sent k c

  -- ---- calls

  -- an action goes on with a request
  goes_binds : (s : Steps) (t : Coord) → ((d : Doing) → doing_of (actor s.path) t ≡ Some d → d.req < s.req) →
      StandsOn s.goal (kept_of s.x (root_at (root_of s.path) t)) s.at → Knows t → Knows (goes_on s t).part
  goes_binds s t less stands knows =
      asks_binds sent k s.path s.req _ (on_doing (actor s.path) new t) (work_binds sent k (actor s.path) new t next knows)
    where
      new : Doing → Doing
      new q = record q { req = s.req; now = Calling s }

      number : (i j : ℕ) → i < j → i ≤ j
      number i j l = omega (arith, l)

      next : (d : Doing) → doing_of (actor s.path) t ≡ Some d → IsNext sent k t d (new d)
      next d found = record {
        later = number d.req s.req (less d found);
        fresh = λ z now. inl (less d found);
        stands = λ z now. let same : s ≡ z = step_is now in
            subst (λ (y : Steps). StandsOn y.goal (kept_of y.x (root_at (root_of y.path) t)) y.at) same stands;
      }

  -- a root keeps another binding of one object
  keep_binds : (root : Uid) (x : ℕ) (q : Keeping) (g : Root → Root) (c : Coord) → (g (root_at root c)).said ≡ (root_at root c).said →
      (g (root_at root c)).keeping ≡ (root_at root c).keeping
      → (IsThere (kept_of x (root_at root c)) → IsThere q.kept ⊎ IsLoose sent k c root x) → Knows c →
      Knows (on_root root (λ r. with_keeping x q (g r)) c)
  keep_binds root x q g c says same keeps knows = root_binds sent k root (λ r. with_keeping x q (g r)) c
      (λ s i. inl (subst (λ ss. list.In s ss) says i)) (λ y there. by y there (one_or_two x y)) knows
    where
      r : Root
      r = root_at root c

      still : (y : ℕ) → kept_of y (g (root_at root c)) ≡ kept_of y (root_at root c)
      still y = ap (λ m. (unwrap_or (at_number y m) no_keeping).kept) same

      by : (y : ℕ) → IsThere (kept_of y (root_at root c)) → (x ≡ y) ⊎ ((is_eq (nat_cmp y x) ≡ false) × ((x == y) ≡ false)) →
          IsThere (kept_of y (with_keeping x q (g (root_at root c)))) ⊎ IsLoose sent k c root y
      by y there (inl at) = ⊎_elim (λ z. inl (subst (λ n. IsThere (kept_of n (with_keeping x q (g (root_at root c)))))
          at (subst IsThere (sym (put_there x q (g (root_at root c)))) z))) (λ l. inr (subst (IsLoose sent k c root) at l))
          (keeps (subst (λ n. IsThere (kept_of n (root_at root c))) (sym at) there))
      by y there (inr apart) = inl (subst IsThere (sym (put_apart x y q (g (root_at root c)) apart.0 ∙ still y)) there)

  -- a call or an include ends
  over_binds : (s : Steps) (e : CallEnd) (t : Coord) (b : Branch) → branch_of (actor s.path) t.tree ≡ Some b → b.path ≡ s.path →
      EndsOn s.goal (kept_of s.x (root_at (root_of s.path) t)) e → Knows t → Knows (ends_call s e t).part
  over_binds s e t b found path on knows = doomed e (root_binds sent k (root_of s.path) (root_heard s e) mid says
      (λ y there. inl (keeps y there)) (idle_binds sent k (actor s.path) t knows))
    where
      mid : Coord
      mid = on_doing (actor s.path) (λ (d : Doing). record d { now = Idle }) t

      roots : mid.roots ≡ t.roots
      roots = roots_work (actor s.path) (λ (d : Doing). record d { now = Idle }) t

      told : Coord
      told = on_root (root_of s.path) (root_heard s e) mid

      keeps : (y : ℕ) → IsThere (kept_of y (root_at (root_of s.path) mid)) →
          IsThere (kept_of y (root_heard s e (root_at (root_of s.path) mid)))
      keeps y there =
          subst (λ m. IsThere (unwrap_or (at_number y m) no_keeping).kept) (sym (heard_keeping s e (root_at (root_of s.path) mid))) there

      says : (z : Said) → list.In z (root_heard s e (root_at (root_of s.path) mid)).said → list.In z (root_at (root_of s.path) mid).said
          ⊎ IsSaid mid.tree (root_of s.path).num (root_heard s e (root_at (root_of s.path) mid)) z
      says z i = ⊎_elim (λ old. inl old)
          (λ new. inr (subst (IsSaid mid.tree (root_of s.path).num (root_heard s e (root_at (root_of s.path) mid))) new.0 (record {
            branch = b;
            there = ap (branch_of (actor s.path)) (on_tree (actor s.path) (λ (d : Doing). record d { now = Idle }) t) ∙ found;
            path = ap uids_of path;
            of = ap (λ p. let u = root_of p in u.num) path;
            kept = inr (keeps s.x (subst (λ rs. IsThere (kept_of s.x (unwrap_or (at_number (root_of s.path).num rs) no_root))) (sym roots)
                (subst (EndsOn s.goal (kept_of s.x (root_at (root_of s.path) t))) new.1.1 on)));
          }))) (heard_new s e (root_at (root_of s.path) mid) z i)

      doomed : (f : CallEnd) → Knows told → Knows (doomed_by (actor s.path) f told)
      doomed (calls.Answered a) q = q
      doomed (calls.Included st) q = q
      doomed (calls.Conflict h m n) q = q
      doomed (calls.Changed n w) q = q
      doomed (calls.Lost n false) q = q
      doomed (calls.Lost n true) q = tree_binds sent k told (doomed_at (actor s.path) told.tree) (later_doomed (actor s.path) told.tree) q

  step_binds : (s : Steps) (n : CallStep) (t : Coord) (b : Branch) → branch_of (actor s.path) t.tree ≡ Some b → b.path ≡ s.path →
      ((d : Doing) → doing_of (actor s.path) t ≡ Some d → d.req < s.req + 1) → NextOn s.goal (kept_of s.x (root_at (root_of s.path) t)) n →
      Knows t → Knows (step_call s n t).part
  step_binds s (On at) t b found path less on knows = goes_binds (record s { req = s.req + 1; at = at }) t less on knows
  step_binds s (Ended e) t b found path less on knows = over_binds s e t b found path on knows

  -- ---- ends

  pub all_binds : (us : List Uid) (c : Coord) → Knows c → Knows (all_aborted us c).part
  all_binds [] c knows = knows
  all_binds (u ∷ us) c knows = all_binds us (ended u ending.Abort c) (ended_binds sent k u ending.Abort c never_commits knows)
    where
      never_commits : ending.Abort ≡ ending.Commit → (b : Branch) → branch_of u c.tree ≡ Some b → is_some b.ended ≡ false
      never_commits is = let no_way : ending.Abort ≡ ending.Commit = is in cc

  aborts_binds : (u : Uid) (c : Coord) → Knows c → Knows (ended u ending.Abort c)
  aborts_binds u c knows = all_binds (u ∷ []) c knows

  -- ---- commits

  decide_binds : (p : Plan) (c : Coord) → ((b : Branch) → branch_of (actor p.path) c.tree ≡ Some b → is_some b.ended ≡ false) → Knows c →
      Knows (decide p c).part
  decide_binds p c opened knows = by (has_record p)
    where
      e : Coord
      e = ended (actor p.path) ending.Commit c

      ke : Knows e
      ke = ended_binds sent k (actor p.path) ending.Commit c (λ is. opened) knows

      took : Doing → Doing
      took d = record d { took = participants p }

      mid : Coord
      mid = on_doing (actor p.path) (λ (d : Doing). record d { took = participants p }) e

      r : Coord
      r = on_root (root_of p.path) (root_after p) mid

      kr : Knows r
      kr = same_binds sent k (root_of p.path) (root_after p) mid refl (λ x there. commit_keeps p x (root_at (root_of p.path) mid) there)
          (work_binds sent k (actor p.path) took e (λ d found.
          record { later = omega arith; fresh = λ s now. inr (now, refl); stands = λ s now. ke.steps (actor p.path) d s found now }) ke)

      by : (b : Bool) → Knows
          (cond b (record r { telling = put_uid (actor p.path) (record { root = root_of p.path; nodes = participants p }) r.telling }) r)
      by true = telling_binds sent k r (put_uid (actor p.path) (record { root = root_of p.path; nodes = participants p }) r.telling) kr
      by false = kr

  commits_binds : (u : Uid) (m : Machine) (c : Coord) → ((d : Doing) → doing_of u c ≡ Some d → d.req ≤ (plan_of m).req) → Knows c →
      Knows (commits_in u m c)
  commits_binds u m c later knows = work_binds sent k u (λ (d : Doing). record d { req = (plan_of m).req; now = Committing m }) c (λ d
      found. record { later = later d found; fresh = λ s now. absurd (not_calling now); stands = λ s now. absurd (not_calling now) }) knows

  commit_binds : (u : Uid) (p : Plan) (n : CommitStep) (intents : List (Uid × Intent)) (c : Coord) →
      ((d : Doing) → doing_of u c ≡ Some d → d.req ≤ p.req) → IsNextOf p n → ((q : Plan) → n ≡ Decides q → actor q.path ≡ u) →
      ((b : Branch) → branch_of u c.tree ≡ Some b → is_some b.ended ≡ false) → Knows c → Knows (step_commit u n intents c).part
  commit_binds u p (Stays m) intents c later next who opened knows =
      commits_binds u m c (λ d found. number d.req p.req (plan_of m).req (later d found) next.1) knows
    where
      number : (i j l : ℕ) → i ≤ j → j ≤ l → i ≤ l
      number i j l a b = omega (arith, a, b)
  commit_binds u p (Asks m) intents c later next who opened knows = asked_binds sent k (plan_of m).path (plan_of m).req (commit.waiting m)
      (commits_in u m c) (commits_binds u m c (λ d found. number d.req p.req (plan_of m).req (later d found) next.1) knows)
    where
      number : (i j l : ℕ) → i ≤ j → j ≤ l → i ≤ l
      number i j l a b = omega (arith, a, b)
  commit_binds u p (Decides q) intents c later next who opened knows =
      decide_binds q c (λ b found. opened b (ap (λ z. branch_of z c.tree) (sym (who q refl)) ∙ found)) knows
  commit_binds u p (Aborts why q) intents c later next who opened knows = aborts_binds u c knows

decides_path : (acts : List Action) (paths : Paths) (tree : IsTree paths) (p : Plan) (s : CommitStep) → IsStepOf acts paths tree p s →
    (q : Plan) → s ≡ Decides q → q.path ≡ p.path
decides_path acts paths tree p (Decides z) same q is = let e : z ≡ q = decides_is is in ap (λ (y : Plan). y.path) (sym e) ∙ same.0
  where
    decides_is : {a b : Plan} → Decides a ≡ Decides b → a ≡ b
    decides_is is = cc
decides_path acts paths tree p (Stays m) same q is = absurd (cc is)
decides_path acts paths tree p (Asks m) same q is = absurd (cc is)
decides_path acts paths tree p (Aborts why z) same q is = absurd (cc is)

-- an action on whose path nobody waits doesn't wait itself
pub at_rest : (b : Branch) (c : Coord) (d : Doing) → waits_above b c ≡ false → doing_of (actor b.path) c ≡ Some d → (s : Steps) →
    d.now ≡ Calling s → ⊥
at_rest b c d quiet found s now = let no_way : true ≡ false = sym (ap is_waiting_now now) ∙ ap is_waiting (sym found)
    ∙ alone (uids_of b.path) quiet (on_own b.path) in absurd (cc no_way)
  where
    alone : (us : List Uid) → list_any (waits c) us ≡ false → is_on us (actor b.path) ≡ true → waits c (actor b.path) ≡ false
    alone [] e on = let no_way : false ≡ true = on in cc
    alone (x ∷ us) e on = let q = or_parts (waits c x) (list_any (waits c) us) e in ⊎_elim (λ same. ap (waits c) (sym
        (uid_is x (actor b.path) same)) ∙ q.0) (λ rest. alone us q.1 rest) (or_cases (uid_eq x (actor b.path)) (is_on us (actor b.path)) on)

module _ (begun : List Action) (paths : Paths) (tree : IsTree paths) (sent : List Post) (k : ℕ) (c : Coord) (good : IsGoodCoord begun paths
    c) (numbered : AreNumbered c) (works : length c.doings ≡ length c.tree.branches) (knows : KnowsBinds sent k c) where
  -- ---- a call begins

  call_binds : (b : Branch) → branch_of (actor b.path) c.tree ≡ Some b → ((d : Doing) (s : Steps) → doing_of (actor b.path) c ≡ Some d →
      d.now ≡ Calling s → ⊥) → (x : ℕ) (o : Op) → KnowsBinds sent k (call b.path x o c).part
  call_binds b found rest x o = goes_binds sent k (call_steps b.path x o (next_req (actor b.path) c) (root_at root c) c q) t
      (λ d there. number d.req (last_req (doing_of (actor b.path) c)) (sym (ap last_req there))) (subst (λ z. StandsOn (Run o) z (start_at
      (known_at_start (top_of b.path) x (root_at root c) c q.kept) q.avoid)) (sym (kept_put root x q (root_at root c) c)) (stands q.kept))
      (tree_binds sent k kept (uses_object b.path x c.tree) (later_uses b.path x c.tree)
      (keep_binds sent k root x q (λ r. r) c refl refl (λ there. its (is_free root (actor b.path) x c) refl there) knows))
    where
      root : Uid
      root = root_of b.path

      number : (i j : ℕ) → i ≡ j → i < j + 1
      number i j is = omega (arith, is)

      q : Keeping
      q = renewed (is_free root (actor b.path) x c) (keeping_of x (root_at root c)) (keeping_of x (root_at root c)).kept

      kept : Coord
      kept = on_root root (with_keeping x q) c

      t : Coord
      t = on_root root (with_keeping x q) (record c { tree = uses_object b.path x c.tree })

      loose : is_free root (actor b.path) x c ≡ true → IsLoose sent k c root x
      loose free = let l = loose_of begun paths tree c good c.tree (λ w d. d) (actor b.path) b found x free in record {
        spent = l.spent;
        alone = λ w d s at now object call num. ⊎_elim (λ same. rest d s (ap (λ z. doing_of z c) (sym same) ∙ at) now)
            (λ other. l.alone w d s other at now object call num) (uid_cases w (actor b.path));
      }

      its : (free : Bool) → is_free root (actor b.path) x c ≡ free → IsThere (kept_of x (root_at root c)) →
          IsThere (renewed free (keeping_of x (root_at root c)) (keeping_of x (root_at root c)).kept).kept ⊎ IsLoose sent k c root x
      its true free there = inr (loose free)
      its false free there = inl (by (keeping_of x (root_at root c)).kept)
        where
          by : (z : Option Known) → IsThere (renewed false (keeping_of x (root_at root c)) z).kept
          by None = there
          by (Some y) = there

      stands : (z : Option Known) → StandsOn (Run o) z (start_at (known_at_start (top_of b.path) x (root_at root c) c z) q.avoid)
      stands None = tt
      stands (Some y) = one (y.recorded && (was_named (top_of b.path) x y.binding (root_at root c) || retains x (root_at root c) c))
        where
          one : (w : Bool) → StandsOn (Run o) (Some y) (start_at (cond w (Some y) None) q.avoid)
          one true = tt
          one false = tt

  include_binds : (b : Branch) (x n : ℕ) → KnowsBinds sent k (include b.path x n c).part
  include_binds b x n = goes_binds sent k (start b.path x (Include n) None unbound (next_req (actor b.path) c)) (record c
      { tree = uses_object b.path x c.tree }) (λ d there. number d.req (last_req (doing_of (actor b.path) c)) (sym (ap last_req there))) tt
      (tree_binds sent k c (uses_object b.path x c.tree) (later_uses b.path x c.tree) knows)
    where
      number : (i j : ℕ) → i ≡ j → i < j + 1
      number i j is = omega (arith, is)

  -- ---- a call goes a step

  module _ (s : Steps) (d : Doing) (found : doing_of (actor s.path) c ≡ Some d) (now : d.now ≡ Calling s) where
    asking : IsAsking c.tree (actor s.path) s.path
    asking = subst (IsBusy c.tree (actor s.path)) now (good.busy (actor s.path) d found)

    last : (z : Doing) → doing_of (actor s.path) c ≡ Some z → z.req < s.req + 1
    last z at = number z.req s.req
        (ap (λ (y : Doing). y.req) (some_is (sym at ∙ found)) ∙ sym (subst (IsNumbered d.req) now (numbered (actor s.path) d found)))
      where
        number : (i j : ℕ) → i ≡ j → i < j + 1
        number i j is = omega (arith, is)

    abbrev old : Keeping
    old = keeping_of s.x (root_at (root_of s.path) c)

    stands : StandsOn s.goal (kept_of s.x (root_at (root_of s.path) c)) s.at
    stands = knows.steps (actor s.path) d s found now

    moves : (g : Option Grant) (b : Bool) (kept : Option Known) (n : CallStep) → (IsThere (keeping_of s.x (root_at (root_of s.path) c)).kept
        → IsThere kept) → NextOn s.goal (kept_now s.goal (keeping_of s.x (root_at (root_of s.path) c)).kept kept) n
        → KnowsBinds sent k (step_call s n (on_root (root_of s.path)
        (λ r. with_keeping s.x (keeps_after s.goal b kept (keeping_of s.x (root_at (root_of s.path) c))) (notes_grant g r)) c)).part
    moves g b kept n up on =
        let q = keeps_after s.goal b kept old in
        let t = on_root (root_of s.path)
        (λ r. with_keeping s.x (keeps_after s.goal b kept (keeping_of s.x (root_at (root_of s.path) c))) (notes_grant g r)) c in
        step_binds sent k s n t (let a = asking in a.branch) (let a = asking in a.found) (let a = asking in
        a.path) last (subst (λ z. NextOn s.goal z n)
        (sym (kept_put (root_of s.path) s.x q (notes_grant g (root_at (root_of s.path) c)) c ∙ after_now s.goal b kept old)) on)
        (keep_binds sent k (root_of s.path) s.x q (notes_grant g) c (grant_said g (root_at (root_of s.path) c))
        (grant_keeping g (root_at (root_of s.path) c)) (λ there. inl (after_there s.goal b kept old up there)) knows)

    answer_binds : (r : Reply) → AnswersAt s.goal s.at r → KnowsBinds sent k (heard_call s r c).part
    answer_binds r fits = let m = answered (is_free (root_of s.path) (actor s.path) s.x c) (kept_at s c) s.goal s.at r in
        let w = moved_on (is_free (root_of s.path) (actor s.path) s.x c) (kept_at s c) s.goal s.at r fits stands in
        moves (granted_by (top_of s.path) s.x r) (has_changed m.step) m.kept m.step w.keeps w.next

    lost_binds : KnowsBinds sent k (step_call s (given_up s.at) (on_root (root_of s.path) (root_lost s (given_up s.at)) c)).part
    lost_binds = moves None (is_ended (given_up s.at) && spoils s.at) old.kept (given_up s.at) (λ there. there)
        (subst (λ z. NextOn s.goal z (given_up s.at)) (same s.goal) (gives_up_on s.goal old.kept s.at stands))
      where
        same : (g : Goal) → (keeping_of s.x (root_at (root_of s.path) c)).kept
            ≡ kept_now g (keeping_of s.x (root_at (root_of s.path) c)).kept (keeping_of s.x (root_at (root_of s.path) c)).kept
        same (Run o) = refl
        same (Include n) = refl

  -- ---- a commit goes a step

  moved_binds : (u : Uid) (d : Doing) (m : Machine) (p : Plan) (n : CommitStep) (intents : List (Uid × Intent)) → doing_of u c ≡ Some d →
      d.now ≡ Committing m → (plan_of m).req ≤ p.req → IsNextOf p n → IsStepOf begun paths tree (plan_of m) n →
      KnowsBinds sent k (step_commit u n intents c).part
  moved_binds u d m p n intents found now low next same =
      let v : IsVoting c.tree u (plan_of m) = subst (IsBusy c.tree u) now (good.busy u d found) in
      commit_binds sent k u p n intents c (λ z at. number z.req (plan_of m).req p.req
      (ap (λ (y : Doing). y.req) (some_is (sym at ∙ found)) ∙ sym (subst (IsNumbered d.req) now (numbered u d found)).0) low) next
      (λ q is. ap actor (decides_path begun paths tree (plan_of m) n same q is)
      ∙ actor_is begun paths tree u (plan_of m).path c good v.asking)
      (λ b at. ap (λ (z : Branch). is_some z.ended) (sym (some_is (sym v.asking.found ∙ at))) ∙ v.asking.opened) knows
    where
      number : (i j l : ℕ) → i ≡ j → j ≤ l → i ≤ l
      number i j l is low = omega (arith, is, low)

  top_binds : (b : Branch) (intents : List (Uid × Intent)) → branch_of (actor b.path) c.tree ≡ Some b → is_some b.ended ≡ false →
      KnowsBinds sent k (commit_top b.path intents c).part
  top_binds b intents found opened = commit_binds sent k (actor b.path) plan (commit.start plan).step intents c (λ z at. number z.req
      (last_req (doing_of (actor b.path) c)) (sym (ap last_req at))) (vote_next (servers_of plan) plan plan (refl, omega arith, refl, refl))
      (λ q is. ap actor (decides_path begun paths tree plan (commit.start plan).step
      (vote_step begun paths tree (servers_of plan) plan plan (refl, refl)) q is))
      (λ z at. ap (λ (y : Branch). is_some y.ended) (sym (some_is (sym found ∙ at))) ∙ opened) knows
    where
      plan : Plan
      plan = plan_for b.path (last_req (doing_of (actor b.path) c)) (root_at (root_of b.path) c) c

      number : (i j : ℕ) → i ≡ j → i ≤ j
      number i j is = omega (arith, is)

  action_binds : (b : Branch) (intents : List (Uid × Intent)) → branch_of (actor b.path) c.tree ≡ Some b → is_some b.ended ≡ false →
      KnowsBinds sent k (commit_action b intents c).part
  action_binds b intents found opened = by b.doomed
    where
      commits : KnowsBinds sent k (ended (actor b.path) ending.Commit c)
      commits = ended_binds sent k (actor b.path) ending.Commit c
          (λ is z at. ap (λ (y : Branch). is_some y.ended) (sym (some_is (sym found ∙ at))) ∙ opened) knows

      kinds : (q : Kind) → KnowsBinds sent k (commit_open b intents c q).part
      kinds kind.Nested = commits
      kinds kind.Serial = commits
      kinds kind.Top = top_binds b intents found opened
      kinds kind.Independent = top_binds b intents found opened
      kinds kind.Constituent = top_binds b intents found opened

      by : (w : Bool) → KnowsBinds sent k
          (cond {A = Did Coord} w (aborts_with (actor b.path) cause.Doomed intents c) (commit_open b intents c b.kind)).part
      by true = aborts_binds sent k (actor b.path) c knows
      by false = kinds b.kind

  -- ---- what is heard

  pub heard_binds : (from : ℕ) (a : Asked) (r : Reply) (intents : List (Uid × Intent)) → AnswersWaiting from a r c →
      KnowsBinds sent k (heard from a r intents c).part
  heard_binds from a r intents fits = by (doing_of a.act c) refl
    where
      by_now : (d : Doing) → doing_of a.act c ≡ Some d → (n : Now) → d.now ≡ n → KnowsBinds sent k (heard_now from a r intents c n).part
      by_now d found Idle at = knows
      by_now d found (Calling s) at = one (waits_for_call from a r s) refl
        where
          who : actor s.path ≡ a.act
          who = let asking : IsAsking c.tree a.act s.path = subst (IsBusy c.tree a.act) at (good.busy a.act d found) in
              actor_is begun paths tree a.act s.path c good asking

          one : (w : Bool) → waits_for_call from a r s ≡ w →
              KnowsBinds sent k (cond {A = Served Coord (Unit {0})} w (heard_by (heard_call s r c)) (heard_none c)).part
          one true on = answer_binds s d (ap (λ z. doing_of z c) who ∙ found) at r (fits d s found at on)
          one false off_it = knows
      by_now d found (Committing n) at = one (waits_for_commit from a r n)
        where
          one : (w : Bool) → KnowsBinds sent k (cond {A = Served Coord (Unit {0})} w
              (heard_by (moved_commit a.act (commit.answered from n r) intents c)) (heard_none c)).part
          one true = moved_binds a.act d n (heard_plan n r) (commit.answered from n r).step intents found at (heard_same n r).1
              (answer_next from n r) (answer_step begun paths tree from n r)
          one false = knows

      by : (o : Option Doing) → doing_of a.act c ≡ o → KnowsBinds sent k (heard_doing from a r intents c o).part
      by None none = knows
      by (Some d) found = by_now d found d.now refl

  pub acked_binds : (from : ℕ) (u : Uid) (intents : List (Uid × Intent)) → KnowsBinds sent k (acked from u intents c).part
  acked_binds from u intents = by (at_uid u c.telling)
    where
      left : (i : Intent) (ns : List ℕ) → KnowsBinds sent k (acked_left u i intents c ns).part
      left i [] = telling_binds sent k c (without_uid u c.telling) knows
      left i (n ∷ ns) = telling_binds sent k c (put_uid u (record i { nodes = n ∷ ns }) c.telling) knows

      by : (o : Option Intent) → KnowsBinds sent k (acked_by from u intents c o).part
      by None = knows
      by (Some i) = one (has i.nodes from)
        where
          one : (b : Bool) → KnowsBinds sent k (cond {A = Served Coord (Unit {0})} b
              (acked_left u i intents c (without_number from i.nodes)) (record { part = c; outs = []; reply = None })).part
          one true = left i (without_number from i.nodes)
          one false = knows

  -- ---- inputs

  give_up_binds : (u : Uid) (intents : List (Uid × Intent)) → KnowsBinds sent k (give_up u intents c).part
  give_up_binds u intents = by (doing_of u c) refl
    where
      by_now : (d : Doing) → doing_of u c ≡ Some d → (n : Now) → d.now ≡ n → KnowsBinds sent k (gives_up u intents c n).part
      by_now d found Idle at = knows
      by_now d found (Calling s) at =
          let asking : IsAsking c.tree u s.path = subst (IsBusy c.tree u) at (good.busy u d found) in
          lost_binds s d (ap (λ z. doing_of z c) (actor_is begun paths tree u s.path c good asking) ∙ found) at
      by_now d found (Committing n) at = moved_binds u d n (plan_of n) (commit.given_up n).step intents found at (omega arith)
          (giveup_next n) (giveup_step begun paths tree n)

      by : (o : Option Doing) → doing_of u c ≡ o → KnowsBinds sent k (give_up_doing u intents c o).part
      by None none = knows
      by (Some d) found = by_now d found d.now refl

  pub acts_binds : (hd : Header) (i : Input) (intents : List (Uid × Intent)) → refusal_up hd i c ≡ None →
      ((l : Label) (q : Kind) (parent : Option Label) → i ≢ input.Begin l q parent) → KnowsBinds sent k (acts i intents c).part
  acts_binds hd (input.Begin l q parent) intents free other = absurd (other l q parent refl)
  acts_binds hd (input.Call l x o) intents free other = by (branch_named l c) refl free
    where
      by : (f : Option Branch) → branch_named l c ≡ f → refused_by (call_reasons hd x o) c f ≡ None →
          KnowsBinds sent k (on_branch (λ b. call b.path x o c) c f).part
      by None is e = knows
      by (Some b) is e =
          let first = off (call_reasons hd x o b c) e in
          let quiet = (or_parts (waits_above b c) (waits_below b c) (off (behind (call_reasons hd x o b c)) first.1).0).0 in
          call_binds b (named_found begun paths tree intents c good l b is) (λ d s at now. at_rest b c d quiet at s now) x o
  acts_binds hd (input.Include l x s) intents free other = by (branch_named l c)
    where
      by : (f : Option Branch) → KnowsBinds sent k (on_branch (λ b. include b.path x s c) c f).part
      by None = knows
      by (Some b) = include_binds b x s
  acts_binds hd (input.Commit l) intents free other = by (branch_named l c) refl free
    where
      by : (f : Option Branch) → branch_named l c ≡ f → refused_by commit_reasons c f ≡ None →
          KnowsBinds sent k (on_branch (λ b. commit_action b intents c) c f).part
      by None is e = knows
      by (Some b) is e = action_binds b intents (named_found begun paths tree intents c good l b is) (off (commit_reasons b c) e).0
  acts_binds hd (input.Abort l) intents free other = by (branch_named l c)
    where
      by : (f : Option Branch) → KnowsBinds sent k (on_branch (λ b. abort_action (actor b.path) intents c) c f).part
      by None = knows
      by (Some b) = all_binds sent k (open_below (actor b.path) c.tree ++ actor b.path ∷ []) c knows
  acts_binds hd (input.GiveUp l) intents free other = by (branch_named l c)
    where
      by : (f : Option Branch) → KnowsBinds sent k (on_branch (λ b. give_up (actor b.path) intents c) c f).part
      by None = knows
      by (Some b) = give_up_binds (actor b.path) intents
  acts_binds hd (input.Frame j from m) intents free other = knows
  acts_binds hd input.Tick intents free other = knows
  acts_binds hd input.Restart intents free other = knows
  acts_binds hd input.Crash intents free other = knows
  acts_binds hd (input.Show x) intents free other = knows

module _ (sent : List Post) (k : ℕ) where
  -- ---- what is sent again

  pub again_binds : (ds : List Doing) (c : Coord) → KnowsBinds sent k c → KnowsBinds sent k (again_all ds c).part
  again_binds [] c knows = knows
  again_binds (d ∷ ds) c knows = again_binds ds (again_now c d.now).part (now d.now)
    where
      now : (n : Now) → KnowsBinds sent k (again_now c n).part
      now Idle = knows
      now (Calling s) = asks_binds sent k s.path s.req _ c knows
      now (Committing m) = asked_binds sent k (plan_of m).path (plan_of m).req (commit.waiting m) c knows

  -- ---- an action begins

  still : {A : Type 0} (a d : A) (xs : List A) (j : ℕ) → slice_get xs j ≡ Some d → slice_get (xs ++ a ∷ []) j ≡ Some d
  still {A} a d [] j is = let no_way : ◌≡◌ {A = Option A} None (Some d) = is in cc
  still a d (x ∷ xs) zero is = is
  still a d (x ∷ xs) (suc j) is = still a d xs j is

  pub begin_binds : (l : Label) (q : Kind) (parent : Option Label) (c : Coord) → KnowsBinds sent k c →
      KnowsBinds sent k (begin_action l q parent (parent_of parent c) c).part
  begin_binds l q parent c knows = record {
    said = grown.said;
    steps = steps;
    counted = λ p h x include avoid i from is own. more h include (grown.counted p h x include avoid i from is own);
  }
    where
      new : Doing
      new = record { label = l; req = 0; now = Idle; took = [] }

      p : Path
      p = path_below q (parent_of parent c) (next_uid c.tree)

      v : Coord
      v = (begin_action l q parent (parent_of parent c) c).part

      grown : KnowsBinds sent k (record c { tree = begun_tree q (parent_of parent c) c.tree })
      grown = tree_binds sent k c (begun_tree q (parent_of parent c) c.tree) (record {
        own = λ w. refl;
        stays = λ w b is. (b, grown_still q p c.tree w b is, refl);
        aborts = λ w d. (stand_begins q p c.tree).ends w ending.Abort d;
      }) knows

      was : (b : Bool) (j : ℕ) (d : Doing) → cond b (at_place j (c.doings ++ new ∷ [])) None ≡ Some d →
          (cond b (at_place j c.doings) None ≡ Some d) ⊎ (d.now ≡ Idle)
      was true zero d at = let no_way : ◌≡◌ {A = Option Doing} None (Some d) = at in cc
      was true (suc j) d at = ⊎_elim (λ old. inl old) (λ its. inr (ap (λ (z : Doing). z.now) (sym its.1))) (get_more j new d c.doings at)
      was false j d at = let no_way : ◌≡◌ {A = Option Doing} None (Some d) = at in cc

      steps : (u : Uid) (d : Doing) (s : Steps) → cond (is_own u c.tree) (at_place u.num (c.doings ++ new ∷ [])) None ≡ Some d →
          d.now ≡ Calling s → StandsOn s.goal (kept_of s.x (root_at (root_of s.path) c)) s.at
      steps u d s at now =
          ⊎_elim (λ old. knows.steps u d s old now) (λ rest. absurd (not_idle (sym rest ∙ now))) (was (is_own u c.tree) u.num d at)

      there : (b : Bool) (j : ℕ) (d : Doing) → cond b (at_place j c.doings) None ≡ Some d →
          cond b (at_place j (c.doings ++ new ∷ [])) None ≡ Some d
      there true zero d at = let no_way : ◌≡◌ {A = Option Doing} None (Some d) = at in cc
      there true (suc j) d at = still new d c.doings j at
      there false j d at = let no_way : ◌≡◌ {A = Option Doing} None (Some d) = at in cc

      more : (h : Head) (include : Bool) → IsCounted (record c { tree = begun_tree q (parent_of parent c) c.tree }) h include →
          IsCounted v h include
      more h include z = record {
        doing = z.doing;
        found = there (is_own (actor h.path) c.tree) (let u = actor h.path in u.num) z.doing z.found;
        low = z.low;
        last = z.last;
      }
