-- What a coordinator lists and tells of ends is as they were decided.
use Rattle.arj_law_parts.proofs.Words
use Words.{ℕ, ◌≡◌, ◌≢◌, ◌<◌, ◌+◌, ◌==◌, zero, suc, List, [], ◌∷◌, ◌++◌, Bool, true, false, cond, not, ◌&&◌, ◌||◌, map, Option, Some, None}
use Words.{Contains, refl, sym, ◌∙◌, ap, subst, inl, inr, ⊎_elim, arith, is_some, and_parts, or_parts, uid_cases, In, in_from}
use Words.{in_to, Uid, End, Kind, Path, Body, Label, Ask, Asked, Header, Message, request, uid_eq, Reply, actor, begin_action}
use Words.{asks_node, asks_all, call, include, root_moved}
use Words.{kept_at, step_call, heard_call, mark_lines, commits_in, asks_machine, step_commit, moved_commit, commit_top, commit_open}
use Words.{commit_action, last_req, heard_now, heard_doing, heard, heard_by, heard_none, waits_for_call, waits_for_commit, gaveup_lines}
use Words.{root_lost, gives_up, give_up_doing, give_up, again_now, again_all}
use Words.{Ended, Moved, answered, given_up, next_node, start}
use Words.{Plan, Machine, Voting, Preparing, Confirming, CommitStep, Stays, Asks, Decides, Aborts, plan_of, participants, has_record}
use Words.{ask_of, servers_of, nodes_given_up, Coord, new_coord, Doing, Now, Idle, Calling, Committing, doing_of, set_doing, change_doing}
use Words.{on_doing, on_root, root_at, is_free, is_kept_top, is_constituent_branch, plan_for, Do}
use Words.{PutIntent, Did, Intent, Served, says, tell, tell_all, up_to, tolds_by, tolds_of_branch, tolds_of, ended, ends_with}
use Words.{aborts_with, all_aborted, abort_action, decided_told, decide, root_after, acked, acked_by, acked_left, tolds_let_go, let_go}
use Words.{is_deferred, is_kept_commit, root_or_self, took_part, answer_decided, answer_recorded, answer_query, at_uid, has, put_uid}
use Words.{without_number, without_uid, Input, acts, branch_named, on_branch, parent_of, refusal_up, refused_by, commit_reasons}
use Words.{abort_reasons, tolds_again, Tree, Branch, branch_of, ends_of, is_own, at_place, next_uid, path_below, root_of, has_open_child}
use Words.{open_below, ended_at, ended_branch, is_open, is_open_branch, is_committed, ended_so, has_end}
use Words.ending
use Words.kind
use Words.body
use Words.cause
use Words.commit
use Words.input
use Rattle.arj_law_parts.proofs.Terms
use Terms.{is_over, Action, AreCounted, IsVoting, IsBusy, IsGoodCoord, Paths, IsTree, AllSayEnds, AreOfCommits, IsSure, SaysEndsIn}
use Terms.{AreOfTops, IsDecided}
use Rattle.arj_law_parts.proofs.parts
use parts.{Keys.at_in, Sends.again_tree, Sends.asks_all_tree, Truths.put_in, Truths.well_abort}
use parts.CoordInputs.{named_found, off, off_third}
use parts.Decided.{Stand, stand_abort, stand_begins, stand_ended, voting_open}
use parts.GoodCoords.{IsStepOf, actor_is, answer_step, giveup_step, on_tree, vote_step, voting_at}
use parts.GoodTrees.{all_left, aborted_tree, at_u, ended_b, get_more, placed}
use parts.Settled.{doing_other, doing_put, end_tree_on}
use parts.TrueSteps.{not_own, top_in, without_in}
use Rattle.arj_law_parts.specs.parts.Ends.{AreDecided, IsSaidSo, IsToldSo, SaysEnds}
use Rattle.arj_protocol.specs.Follow.{ends_in}
use Rattle.arj_law_parts.proofs.parts.SureCalls.{lists_on, sure_on, sure_same, some_is, idle_not, sure_do, decided_so, over_so, one_so}
use Rattle.arj_law_parts.proofs.parts.SureCalls.{up_to_in, none_in, says_both, says_map, says_flat, says_lines, says_tells}
use Rattle.arj_law_parts.proofs.parts.SureCalls.{says_request, IsSureDid, sure_step, sure_call, sure_include, sure_idle, sure_step_call}

-- ---- ends

says_tolds : (intents : List (Uid × Intent)) (c : Coord) (u : Uid) → ((r : Uid) → AreDecided (ends_of r c.tree) c.tree) →
    ((b : Branch) → branch_of u c.tree ≡ Some b → is_some b.ended ≡ true) → AllSayEnds c.tree (tolds_of intents c u)
says_tolds intents c u lists over = by (branch_of u c.tree)
  where
    kinds : (k : Kind) (p : Path) → AllSayEnds c.tree (tolds_by u k p intents c)
    kinds kind.Nested p = says_tells c.tree (root_of p) false (up_to u (ends_of (root_of p) c.tree))
        _ (λ w e i. decided_so w e c.tree (lists (root_of p) w e (in_to (w, e) (ends_of (root_of p) c.tree)
        (up_to_in u (w, e) (ends_of (root_of p) c.tree) (in_from (w, e) (up_to u (ends_of (root_of p) c.tree)) i)))))
    kinds kind.Serial p = says_tells c.tree u false ((u, ending.Abort) ∷ []) _ (one_so u ending.Abort c.tree over)
    kinds kind.Top p = says_tells c.tree (root_of p) false ((u, ending.Abort) ∷ []) _ (one_so u ending.Abort c.tree over)
    kinds kind.Independent p = says_tells c.tree (root_of p) false ((u, ending.Abort) ∷ []) _ (one_so u ending.Abort c.tree over)
    kinds kind.Constituent p = says_tells c.tree (root_of p) false ((u, ending.Abort) ∷ []) _ (one_so u ending.Abort c.tree over)

    by : (b : Option Branch) → AllSayEnds c.tree (tolds_of_branch u intents c b)
    by None = tt
    by (Some b) = kinds b.kind b.path

ended_is : (u : Uid) (e : End) (c : Coord) → (ended u e c).tree ≡ ended_at u e c.tree
ended_is u e c = on_tree u (λ (d : Doing). record d { now = Idle }) (record c { tree = ended_at u e c.tree })

-- who ended has ended so
ended_decided : (u : Uid) (e : End) (c : Coord) (b : Branch) → branch_of u c.tree ≡ Some b → IsDecided u e (ended u e c).tree
ended_decided u e c b found = subst (IsDecided u e) (sym (ended_is u e c))
    (subst (λ o. IsDecided u e (ended_branch u e c.tree o)) (sym found) (ended_b u e c.tree b found, at_u u e c.tree b found, refl))

over_ended : (u : Uid) (e : End) (c : Coord) (b : Branch) → branch_of u (ended u e c).tree ≡ Some b → is_some b.ended ≡ true
over_ended u e c b found = by (branch_of u c.tree) refl
  where
    by : (o : Option Branch) → branch_of u c.tree ≡ o → is_some b.ended ≡ true
    by None none = let no_way : ◌≡◌ {A = Option Branch} None (Some b) = sym none
        ∙ ap (λ t. branch_of u t) (sym (ap (λ o. ended_branch u e c.tree o) none)) ∙ ap (branch_of u) (sym (ended_is u e c)) ∙ found in cc
    by (Some x) is = let d = ended_decided u e c x is in
        ap (λ (y : Branch). is_some y.ended) (some_is b d.0 (sym found ∙ d.1)) ∙ ap is_some d.2

sure_ended : (u : Uid) (e : End) (c : Coord) → ((b : Branch) → branch_of u c.tree ≡ Some b → is_some b.ended ≡ false) → IsSure c →
    IsSure (ended u e c)
sure_ended u e c opened sure =
    let mid : Coord = record c { tree = ended_at u e c.tree } in
    let g = end_tree_on u e c in
    sure_idle u mid (sure_on c mid (stand_ended u e c.tree opened) g.own refl refl sure)

sure_ends : (u : Uid) (e : End) (f : Label → Body) (intents : List (Uid × Intent)) (c : Coord) →
    ((b : Branch) → branch_of u c.tree ≡ Some b → is_some b.ended ≡ false) → IsSure c → IsSureDid (ends_with u e f intents c)
sure_ends u e f intents c opened sure =
    let s = sure_ended u e c opened sure in (
      s,
      says_both (ended u e c).tree (says u f c) (tolds_of intents (ended u e c) u) (says_lines (ended u e c).tree u f c)
          (says_tolds intents (ended u e c) u s.lists (over_ended u e c)),
    )

telling_do : (u : Uid) (f : Doing → Doing) (c : Coord) → (on_doing u f c).telling ≡ c.telling
telling_do u f c = by (doing_of u c)
  where
    by : (o : Option Doing) → (change_doing f u c o).telling ≡ c.telling
    by None = refl
    by (Some d) = refl

aborted_telling : (us : List Uid) (c : Coord) → (let d = all_aborted us c in let e = d.part in e.telling) ≡ c.telling
aborted_telling [] c = refl
aborted_telling (u ∷ us) c = aborted_telling us (ended u ending.Abort c)
    ∙ telling_do u (λ (d : Doing). record d { now = Idle }) (record c { tree = ended_at u ending.Abort c.tree })

-- who is at its commit after ends was so before
ended_works : (u : Uid) (e : End) (c : Coord) (w : Uid) (d : Doing) (m : Machine) → doing_of w (ended u e c) ≡ Some d →
    d.now ≡ Committing m → doing_of w c ≡ Some d
ended_works u e c w d m at is = by (doing_of u mid) refl at
  where
    mid : Coord
    mid = record c { tree = ended_at u e c.tree }

    f : Doing → Doing
    f x = record x { now = Idle }

    same_doing : doing_of w mid ≡ doing_of w c
    same_doing = let g = end_tree_on u e c in λ i. cond (g.own w i) (at_place w.num c.doings) None

    by : (o : Option Doing) → doing_of u mid ≡ o → doing_of w (change_doing f u mid o) ≡ Some d → doing_of w c ≡ Some d
    by None none found = sym same_doing ∙ found
    by (Some old) there found = ⊎_elim (λ same. idle_not m (ap (λ (x : Doing). x.now) (some_is (f old) d
        (sym (doing_put u (f old) old mid there) ∙ ap (λ v. doing_of v (set_doing u (f old) mid)) (sym same) ∙ found)) ∙ is))
        (λ other. sym same_doing ∙ sym (doing_other u w (f old) old mid there other) ∙ found) (uid_cases w u)

aborted_works : (us : List Uid) (c : Coord) (w : Uid) (d : Doing) (m : Machine) → doing_of w (all_aborted us c).part ≡ Some d →
    d.now ≡ Committing m → doing_of w c ≡ Some d
aborted_works [] c w d m at is = at
aborted_works (u ∷ us) c w d m at is = ended_works u ending.Abort c w d m (aborted_works us (ended u ending.Abort c) w d m at is) is

module _ (actions : List Action) (paths : Paths) (tree : IsTree paths) where
  abbrev Good : Coord → Type 0
  Good c = IsGoodCoord actions paths c

  sure_abort : (u : Uid) (intents : List (Uid × Intent)) (c : Coord) →
      ((b : Branch) → branch_of u c.tree ≡ Some b → is_some b.ended ≡ false) → Good c → IsSure c → IsSureDid (abort_action u intents c)
  sure_abort u intents c opened good sure = (
    its,
    says_both t.tree a.outs _ (lines us c) (says_flat t.tree (tolds_of intents t) us (λ w i. says_tolds intents t w its.lists (over w i))),
  )
    where
      us : List Uid
      us = open_below u c.tree ++ u ∷ []

      a : Did Coord
      a = all_aborted us c

      t : Coord
      t = (all_aborted (open_below u c.tree ++ u ∷ []) c).part

      stand : Stand c.tree (let d = abort_action u intents c in let e = d.part in e.tree)
      stand = stand_abort actions paths tree u intents c opened good

      own : (w : Uid) → is_own w (let d = abort_action u intents c in let e = d.part in e.tree) ≡ is_own w c.tree
      own = let w = well_abort actions paths tree u intents c good in let g = w.on in g.own

      its : IsSure (let d = abort_action u intents c in d.part)
      its = record {
        lists = lists_on c.tree _ stand sure.lists;
        plans = λ w d m at is x e i. stand.ends x e (sure.plans w d m (aborted_works us c w d m at is) is x e i);
        records = λ w i k o.
            stand.ends w ending.Commit (sure.records w i (subst (λ m. Contains m (w, i)) (aborted_telling us c) k) (sym (own w) ∙ o));
      }

      lines : (ws : List Uid) (d : Coord) → AllSayEnds t.tree (all_aborted ws d).outs
      lines [] d = tt
      lines (w ∷ ws) d = says_both t.tree (says w (λ l. body.Aborted l cause.Asked) d)
          _ (says_lines t.tree w (λ l. body.Aborted l cause.Asked) d) (lines ws (ended w ending.Abort d))

      over : (w : Uid) → In w us → (b : Branch) → branch_of w t.tree ≡ Some b → is_some b.ended ≡ true
      over w i b found = let l = all_left paths tree us c.tree good.tree.lists in
          l.done w b i (ap (branch_of w) (sym (aborted_tree us c)) ∙ found)

  -- ---- the decision

  sure_decide : (p : Plan) (c : Coord) (b : Branch) → branch_of (actor p.path) c.tree ≡ Some b → is_some b.ended ≡ false → IsSure c →
      IsSureDid (decide p c)
  sure_decide p c b found opened sure = by (has_record p)
    where
      i : Intent
      i = record { root = root_of p.path; nodes = participants p }

      e : Coord
      e = ended (actor p.path) ending.Commit c

      took : Coord
      took = on_doing (actor p.path) (λ (d : Doing). record d { took = participants p }) e

      r : Coord
      r = on_root (root_of p.path) (root_after p) took

      se : IsSure e
      se = sure_ended (actor p.path) ending.Commit c (λ x f. ap (λ (y : Branch). is_some y.ended) (some_is x b (sym f ∙ found)) ∙ opened)
          sure

      sr : IsSure r
      sr = sure_same took r refl refl refl
          (sure_do (actor p.path) (λ (d : Doing). record d { took = participants p }) e (λ d m f is. se.plans (actor p.path) d m f is) se)

      so : IsDecided (actor p.path) ending.Commit r.tree
      so = subst (IsDecided (actor p.path) ending.Commit) (sym (on_tree (actor p.path) (λ (d : Doing). record d { took = participants p })
          e)) (ended_decided (actor p.path) ending.Commit c b found)

      outs : (v : Tree) → v ≡ r.tree → (w : Bool) → AllSayEnds v (cond w (Do (PutIntent (actor p.path) i) ∷ []) []
          ++ says (actor p.path) body.Committed c ++ map (decided_told (root_of p.path) (actor p.path) p) p.sent)
      outs v same w = says_both v (cond w (Do (PutIntent (actor p.path) i) ∷ []) [] ++ says (actor p.path) body.Committed c)
          _ (says_both v (cond w (Do (PutIntent (actor p.path) i) ∷ []) []) _ (work w) (says_lines v (actor p.path) body.Committed c))
          (says_map v (decided_told (root_of p.path) (actor p.path) p) p.sent (λ n j. one n (has (participants p) n)))
        where
          its : IsDecided (actor p.path) ending.Commit v
          its = subst (IsDecided (actor p.path) ending.Commit) (sym same) so

          work : (x : Bool) → AllSayEnds v (cond x (Do (PutIntent (actor p.path) i) ∷ []) [])
          work true = (its, tt)
          work false = tt

          one : (n : ℕ) (x : Bool) → SaysEndsIn v (cond x (tell (root_of p.path) (has_record p) ((actor p.path, ending.Commit) ∷ []) n)
              (tell (root_of p.path) false ((actor p.path, ending.Abort) ∷ []) n))
          one n true = record { brings = λ w f k. none_in w f k; tells = one_so (actor p.path) ending.Commit v (λ own. its) }
          one n false = record {
            brings = λ w f k. none_in w f k;
            tells = one_so (actor p.path) ending.Abort v (over_so (actor p.path) v (its.0, its.1, ap is_some its.2));
          }

      told : Coord
      told = record r { telling = put_uid (actor p.path) i r.telling }

      by : (w : Bool) → IsSureDid (record {
        part = cond w told r;
        outs = cond w (Do (PutIntent (actor p.path) i) ∷ []) [] ++ says (actor p.path) body.Committed c
            ++ map (decided_told (root_of p.path) (actor p.path) p) p.sent;
      })
      by true = (
        record {
          lists = sr.lists;
          plans = sr.plans;
          records = λ w j k own. ⊎_elim (λ same. subst (λ x. IsDecided x ending.Commit r.tree) (sym same) so)
              (λ old. sr.records w old.0 (in_to (w, old.0) r.telling old.1) own)
              (put_in (actor p.path) i w j r.telling (in_from (w, j) (put_uid (actor p.path) i r.telling) k));
        },
        outs told.tree refl true,
      )
      by false = (sr, outs r.tree refl false)

  -- ---- commits

  asks_sure : (p : Path) (req : ℕ) (as_asked : List (ℕ × Ask)) (c : Coord) → IsSure c →
      ((a : ℕ × Ask) → In a as_asked → AreDecided (ends_in a.1) c.tree) → IsSureDid (asks_all p req as_asked c)
  asks_sure p req [] c sure each = (sure, tt)
  asks_sure p req (a ∷ rest) c sure each =
      let d = asks_node p req a c in
      let r = asks_sure p req rest d.part (sure_same c d.part refl refl refl sure) (λ b i. each b (inr i)) in (
        r.0,
        (
          subst (λ t. SaysEnds t (request (record { path = p; req = req }) a.1)) (sym (asks_all_tree p req rest d.part))
              (says_request c.tree (record { path = p; req = req }) a.1 (each a (inl refl))),
          r.1,
        ),
      )

  asks_machine_sure : (m : Machine) (c : Coord) → IsSure c → AreDecided (let p = plan_of m in p.ends) c.tree → IsSureDid (asks_machine m c)
  asks_machine_sure m c sure so =
      asks_sure (plan_of m).path (plan_of m).req (commit.waiting m) c sure (λ a i. waiting (commit.left_of m) a i)
    where
      by : (q : Machine) (n : ℕ) → AreDecided (let p = plan_of q in p.ends) c.tree → AreDecided (ends_in (ask_of q n)) c.tree
      by (Voting p left) n s u e i = s u e i
      by (Preparing p left) n s u e i = none_in u e i
      by (Confirming p) n s u e i = none_in u e i

      waiting : (ns : List ℕ) (a : ℕ × Ask) → In a (map {A = ℕ} {B = ℕ × Ask} (λ n. (n, ask_of m n)) ns) → AreDecided (ends_in a.1) c.tree
      waiting [] a i = absurd i
      waiting (n ∷ ns) a (inl same) = subst (λ (b : ℕ × Ask). AreDecided (ends_in b.1) c.tree) same (by m n so)
      waiting (n ∷ ns) a (inr i) = waiting ns a i

  commits_sure : (u : Uid) (m : Machine) (c : Coord) → AreDecided (let p = plan_of m in p.ends) c.tree → IsSure c →
      IsSure (commits_in u m c)
  commits_sure u m c so sure = sure_do u (λ (d : Doing). record d { req = (plan_of m).req; now = Committing m }) c (λ d k f is.
      subst (λ (q : Machine). AreDecided (let p = plan_of q in p.ends) c.tree) (let e : ◌≡◌ {A = Now} (Committing m) (Committing k) = is in
      let one : m ≡ k = cc in one) so) sure

  sure_step_commit : (u : Uid) (p : Plan) (s : CommitStep) (intents : List (Uid × Intent)) (c : Coord) → IsVoting c.tree u p →
      IsStepOf actions paths tree p s → AreDecided p.ends c.tree → Good c → IsSure c → IsSureDid (step_commit u s intents c)
  sure_step_commit u p (Stays m) intents c v same so good sure =
      (commits_sure u m c (subst (λ es. AreDecided es c.tree) (sym same.1) so) sure, tt)
  sure_step_commit u p (Asks m) intents c v same so good sure =
      let e = commits_in u m c in
      let now : AreDecided (let q = plan_of m in q.ends) c.tree = subst (λ es. AreDecided es c.tree) (sym same.1) so in
      asks_machine_sure m e (commits_sure u m c now sure) (subst (λ t. AreDecided (let q = plan_of m in q.ends) t)
      (sym (on_tree u (λ (d : Doing). record d { req = (plan_of m).req; now = Committing m }) c)) now)
  sure_step_commit u p (Decides q) intents c v same so good sure =
      let found = ap (λ w. branch_of w c.tree) (ap actor same.0 ∙ actor_is actions paths tree u p.path c good v.asking) ∙ v.asking.found in
      sure_decide q c v.asking.branch found v.asking.opened sure
  sure_step_commit u p (Aborts why q) intents c v same so good sure =
      sure_ends u ending.Abort (λ l. body.Aborted l why) intents c (voting_open actions paths tree c u p v) sure

  sure_moved : (u : Uid) (p : Plan) (m : commit.Marked) (intents : List (Uid × Intent)) (c : Coord) → IsVoting c.tree u p →
      IsStepOf actions paths tree p m.step → AreDecided p.ends c.tree → Good c → IsSure c → IsSureDid (moved_commit u m intents c)
  sure_moved u p m intents c v same so good sure =
      let t = step_commit u m.step intents c in
      let w = sure_step_commit u p m.step intents c v same so good sure in (
        w.0,
        says_both t.part.tree (mark_lines u m.marks c) _ (says_flat t.part.tree (λ (k : ℕ × ℕ). says u (λ l. body.Excluded l k.0 k.1) c)
            m.marks (λ k i. says_lines t.part.tree u (λ l. body.Excluded l k.0 k.1) c)) w.1,
      )

  -- ---- answers and giveups

  abbrev IsSureServed : Served Coord (Unit {0}) → Type 0
  IsSureServed d = IsSure d.part × AllSayEnds (let c = d.part in c.tree) d.outs

  pub sure_heard : (from : ℕ) (a : Asked) (r : Reply) (intents : List (Uid × Intent)) (c : Coord) → Good c → IsSure c →
      IsSureServed (heard from a r intents c)
  sure_heard from a r intents c good sure = by (doing_of a.act c) refl
    where
      now : (d : Doing) → doing_of a.act c ≡ Some d → (n : Now) → d.now ≡ n → IsBusy c.tree a.act n →
          IsSureServed (heard_now from a r intents c n)
      now d found Idle is b = (sure, tt)
      now d found (Calling s) is b = one (waits_for_call from a r s)
        where
          m : Moved
          m = answered (is_free (root_of s.path) (actor s.path) s.x c) (kept_at s c) s.goal s.at r

          one : (w : Bool) → IsSureServed (cond {A = Served Coord (Unit {0})} w (heard_by (heard_call s r c)) (heard_none c))
          one true = let t : Coord = on_root (root_of s.path) (root_moved s r m) c in
              sure_step_call s m.step t (sure_same c t refl refl refl sure)
          one false = (sure, tt)
      now d found (Committing m) is b = one (waits_for_commit from a r m)
        where
          one : (w : Bool) → IsSureServed
              (cond {A = Served Coord (Unit {0})} w (heard_by (moved_commit a.act (commit.answered from m r) intents c)) (heard_none c))
          one true = sure_moved a.act (plan_of m) (commit.answered from m r) intents c b (answer_step actions paths tree from m r)
              (sure.plans a.act d m found is) good sure
          one false = (sure, tt)

      by : (o : Option Doing) → doing_of a.act c ≡ o → IsSureServed (heard_doing from a r intents c o)
      by None is = (sure, tt)
      by (Some d) is = now d is d.now refl (good.busy a.act d is)

  sure_give_up : (u : Uid) (intents : List (Uid × Intent)) (c : Coord) → Good c → IsSure c → IsSureDid (give_up u intents c)
  sure_give_up u intents c good sure = by (doing_of u c) refl
    where
      with_lines : (nodes : List ℕ) (d : Did Coord) → IsSureDid d →
          IsSureDid (record { part = d.part; outs = gaveup_lines u nodes c ++ d.outs })
      with_lines nodes d w = (
        w.0,
        says_both d.part.tree (gaveup_lines u nodes c) d.outs (says_flat d.part.tree (λ n. says u (λ l. body.GaveUp l n) c) nodes
            (λ n i. says_lines d.part.tree u (λ l. body.GaveUp l n) c)) w.1,
      )

      now : (d : Doing) → doing_of u c ≡ Some d → (n : Now) → d.now ≡ n → IsBusy c.tree u n → IsSureDid (gives_up u intents c n)
      now d found Idle is b = (sure, tt)
      now d found (Calling s) is b =
          let t : Coord = on_root (root_of s.path) (root_lost s (given_up s.at)) c in
          let x = step_call s (given_up s.at) t in
          with_lines (next_node s ∷ []) x (sure_step_call s (given_up s.at) t (sure_same c t refl refl refl sure))
      now d found (Committing m) is b = let x = moved_commit u (commit.given_up m) intents c in with_lines (nodes_given_up m) x (sure_moved
          u (plan_of m) (commit.given_up m) intents c b (giveup_step actions paths tree m) (sure.plans u d m found is) good sure)

      by : (o : Option Doing) → doing_of u c ≡ o → IsSureDid (give_up_doing u intents c o)
      by None is = (sure, tt)
      by (Some d) is = now d is d.now refl (good.busy u d is)

  -- ---- what is sent again

  again_doings : (c : Coord) (n : Now) → (let d = again_now c n in let e = d.part in e.doings) ≡ c.doings
  again_doings c Idle = refl
  again_doings c (Calling s) = refl
  again_doings c (Committing m) = asked (plan_of m).path (plan_of m).req (commit.waiting m) c
    where
      asked : (p : Path) (req : ℕ) (as_asked : List (ℕ × Ask)) (c : Coord) →
          (let d = asks_all p req as_asked c in let e = d.part in e.doings) ≡ c.doings
      asked p req [] c = refl
      asked p req (a ∷ rest) c = asked p req rest (asks_node p req a c).part

  again_sure : (ds : List Doing) (c : Coord) → IsSure c → ((d : Doing) → In d ds → (u : Uid) × (doing_of u c ≡ Some d)) →
      IsSureDid (again_all ds c)
  again_sure [] c sure there = (sure, tt)
  again_sure (d ∷ ds) c sure there =
      let a = again_now c d.now in
      let q = again_all ds a.part in
      let w = now d.now refl in
      let same_tree = again_tree c d.now in
      let rest = again_sure ds a.part w.0 (λ e i. let f = there e (inr i) in (f.0, same_doing f.0 ∙ f.1)) in
      (rest.0, says_both q.part.tree a.outs q.outs (subst (λ t. AllSayEnds t a.outs) (sym (again_same ds a.part)) w.1) rest.1)
    where
      same_doing : (u : Uid) → doing_of u (let a = again_now c d.now in a.part) ≡ doing_of u c
      same_doing u = λ i. cond (is_own u (again_tree c d.now i)) (at_place u.num (again_doings c d.now i)) None

      again_same : (es : List Doing) (e : Coord) → (let q = again_all es e in let p = q.part in p.tree) ≡ e.tree
      again_same [] e = refl
      again_same (x ∷ es) e = again_same es (again_now e x.now).part ∙ again_tree e x.now

      now : (n : Now) → d.now ≡ n → IsSureDid (again_now c n)
      now Idle is = (sure, tt)
      now (Calling s) is = sure_step s c sure
      now (Committing m) is = let f = there d (inl refl) in asks_machine_sure m c sure (sure.plans f.0 d m f.1 is)

  pub sure_again : (c : Coord) → IsSure c → IsSureDid (again_all c.doings c)
  sure_again c sure = again_sure c.doings c sure (λ d i. by d (placed d c.doings i))
    where
      same : (n : ℕ) → (n == n) ≡ true
      same n = grind arith

      by : (d : Doing) → (k : ℕ) × (at_place k c.doings ≡ Some d) → (u : Uid) × (doing_of u c ≡ Some d)
      by d p = (
        record { node = c.tree.node; inc = c.tree.inc; num = p.0 },
        (λ i. cond (same c.tree.node i && same c.tree.inc i) (at_place p.0 c.doings) None) ∙ p.1,
      )

  -- ---- inputs

  sure_commit : (b : Branch) (intents : List (Uid × Intent)) (c : Coord) → branch_of (actor b.path) c.tree ≡ Some b →
      is_some b.ended ≡ false → has_open_child (actor b.path) c.tree ≡ false → Good c → IsSure c → IsSureDid (commit_action b intents c)
  sure_commit b intents c found opened none good sure = by b.doomed
    where
      u : Uid
      u = actor b.path

      plan : Plan
      plan = plan_for b.path (last_req (doing_of u c)) (root_at (root_of b.path) c) c

      opened_u : (x : Branch) → branch_of u c.tree ≡ Some x → is_some x.ended ≡ false
      opened_u x f = ap (λ (y : Branch). is_some y.ended) (some_is x b (sym f ∙ found)) ∙ opened

      top : b.kind ≢ kind.Serial → b.kind ≢ kind.Nested → IsSureDid (commit_top b.path intents c)
      top unserial unnested =
          let x = moved_commit u (commit.start plan) intents c in
          let w = sure_moved u plan (commit.start plan) intents c (voting_at actions paths tree b c found opened none unserial unnested
          good) (vote_step actions paths tree (servers_of plan) plan plan (refl, refl)) (sure.lists (root_of b.path)) good sure in
          (w.0, says_both x.part.tree (says u body.Committing c) x.outs (says_lines x.part.tree u body.Committing c) w.1)

      kinds : (k : Kind) → b.kind ≡ k → IsSureDid (commit_open b intents c k)
      kinds kind.Nested is = sure_ends u ending.Commit body.Committed intents c opened_u sure
      kinds kind.Serial is = sure_ends u ending.Commit body.Ended intents c opened_u sure
      kinds kind.Top is =
          top (λ e. let no_way : kind.Top ≡ kind.Serial = sym is ∙ e in cc) (λ e. let no_way : kind.Top ≡ kind.Nested = sym is ∙ e in cc)
      kinds kind.Independent is = top (λ e. let no_way : kind.Independent ≡ kind.Serial = sym is ∙ e in
          cc) (λ e. let no_way : kind.Independent ≡ kind.Nested = sym is ∙ e in cc)
      kinds kind.Constituent is = top (λ e. let no_way : kind.Constituent ≡ kind.Serial = sym is ∙ e in
          cc) (λ e. let no_way : kind.Constituent ≡ kind.Nested = sym is ∙ e in cc)

      by : (w : Bool) → IsSureDid (cond {A = Did Coord} w (aborts_with u cause.Doomed intents c) (commit_open b intents c b.kind))
      by true = sure_ends u ending.Abort (λ l. body.Aborted l cause.Doomed) intents c opened_u sure
      by false = kinds b.kind refl

  pub sure_acts : (intents : List (Uid × Intent)) (c : Coord) → Good c → IsSure c → (hd : Header) (i : Input) → refusal_up hd i c ≡ None →
      ((l : Label) (k : Kind) (parent : Option Label) → i ≢ input.Begin l k parent) → IsSureDid (acts i intents c)
  sure_acts intents c good sure hd (input.Begin l k parent) none other = absurd (other l k parent refl)
  sure_acts intents c good sure hd (input.Call l x o) none other = by (branch_named l c)
    where
      by : (f : Option Branch) → IsSureDid (on_branch (λ b. call b.path x o c) c f)
      by None = (sure, tt)
      by (Some b) = sure_call b.path x o c sure
  sure_acts intents c good sure hd (input.Include l x s) none other = by (branch_named l c)
    where
      by : (f : Option Branch) → IsSureDid (on_branch (λ b. include b.path x s c) c f)
      by None = (sure, tt)
      by (Some b) = sure_include b.path x s c sure
  sure_acts intents c good sure hd (input.Commit l) none other = by (branch_named l c) refl none
    where
      by : (f : Option Branch) → branch_named l c ≡ f → refused_by commit_reasons c f ≡ None →
          IsSureDid (on_branch (λ b. commit_action b intents c) c f)
      by None is e = (sure, tt)
      by (Some b) is e =
          let r6 : is_some b.ended ≡ false = (off (commit_reasons b c) e).0 in
          let r9 : has_open_child (actor b.path) c.tree ≡ false = off_third (commit_reasons b c) e in
          sure_commit b intents c (named_found actions paths tree intents c good l b is) r6 r9 good sure
  sure_acts intents c good sure hd (input.Abort l) none other = by (branch_named l c) refl none
    where
      by : (f : Option Branch) → branch_named l c ≡ f → refused_by abort_reasons c f ≡ None →
          IsSureDid (on_branch (λ b. abort_action (actor b.path) intents c) c f)
      by None is e = (sure, tt)
      by (Some b) is e =
          let r6 : is_some b.ended ≡ false = (off (abort_reasons b c) e).0 in
          let found = named_found actions paths tree intents c good l b is in
          sure_abort (actor b.path) intents c (λ x f. ap (λ (y : Branch). is_some y.ended) (some_is x b (sym f ∙ found)) ∙ r6) good sure
  sure_acts intents c good sure hd (input.GiveUp l) none other = by (branch_named l c)
    where
      by : (f : Option Branch) → IsSureDid (on_branch (λ b. give_up (actor b.path) intents c) c f)
      by None = (sure, tt)
      by (Some b) = sure_give_up (actor b.path) intents c good sure
  sure_acts intents c good sure hd (input.Frame k from m) none other = (sure, tt)
  sure_acts intents c good sure hd input.Tick none other = (sure, tt)
  sure_acts intents c good sure hd input.Restart none other = (sure, tt)
  sure_acts intents c good sure hd input.Crash none other = (sure, tt)
  sure_acts intents c good sure hd (input.Show x) none other = (sure, tt)

-- ---- acknowledgements, queries and records

pub sure_acked : (from : ℕ) (u : Uid) (intents : List (Uid × Intent)) (c : Coord) → IsSure c →
    (let d = acked from u intents c in IsSure d.part × AllSayEnds (let e = d.part in e.tree) d.outs)
sure_acked from u intents c sure = by (at_uid u c.telling) refl
  where
    Sure : Served Coord (Unit {0}) → Type 0
    Sure d = IsSure d.part × AllSayEnds (let e = d.part in e.tree) d.outs

    told_on : (m : List (Uid × Intent)) → ((w : Uid) (j : Intent) → In (w, j) m → (k : Intent) × In (w, k) c.telling) →
        IsSure (record c { telling = m })
    told_on m old = record {
      lists = sure.lists;
      plans = sure.plans;
      records = λ w j k own. let o = old w j (in_from (w, j) m k) in sure.records w o.0 (in_to (w, o.0) c.telling o.1) own;
    }

    gone : (o : Option Intent) → AllSayEnds c.tree (tolds_let_go u (without_uid u intents) c o)
    gone None = tt
    gone (Some i) = one (not (uid_eq i.root u)) (is_over (branch_of i.root c.tree)) refl
      where
        over : (o : Option Branch) → branch_of i.root c.tree ≡ o → is_over o ≡ true → IsToldSo i.root ending.Abort c.tree
        over None at is = let no_way : false ≡ true = is in cc
        over (Some x) at is = λ b found. ap (λ (y : Branch). is_some y.ended) (some_is b x (sym found ∙ at)) ∙ is

        one : (a b : Bool) → is_over (branch_of i.root c.tree) ≡ b → AllSayEnds c.tree
            (cond (a && b) (tell_all i.root false ((i.root, ending.Abort) ∷ []) (let_go i.root (without_uid u intents) c i.nodes)) [])
        one true true is = says_tells c.tree i.root false ((i.root, ending.Abort) ∷ []) (let_go i.root (without_uid u intents) c i.nodes)
            (one_so i.root ending.Abort c.tree (over (branch_of i.root c.tree) refl is))
        one true false is = tt
        one false b is = tt

    left : (i : Intent) → at_uid u c.telling ≡ Some i → (ns : List ℕ) → Sure (acked_left u i intents c ns)
    left i is [] = (told_on (without_uid u c.telling) (λ w j k. (j, without_in u (w, j) c.telling k)), (tt, gone (at_uid u intents)))
    left i is (n ∷ ns) = (
      told_on (put_uid u (record i { nodes = n ∷ ns }) c.telling)
          (λ w j k. ⊎_elim (λ same. (i, subst (λ x. In (x, i) c.telling) (sym same) (at_in u i c.telling is))) (λ old. old)
          (put_in u (record i { nodes = n ∷ ns }) w j c.telling k)),
      tt,
    )

    by : (o : Option Intent) → at_uid u c.telling ≡ o → Sure (acked_by from u intents c o)
    by None is = (sure, tt)
    by (Some i) is = one (has i.nodes from)
      where
        one : (b : Bool) → Sure (cond {A = Served Coord (Unit {0})} b (acked_left u i intents c (without_number from i.nodes))
            (record { part = c; outs = []; reply = None }))
        one true = left i is (without_number from i.nodes)
        one false = (sure, tt)

pub sure_query : (from : ℕ) (u : Uid) (intents : List (Uid × Intent)) (c : Coord) → AreOfCommits intents c.tree →
    AllSayEnds c.tree (answer_query from u intents c)
sure_query from u intents c records = first (is_open u c.tree || is_deferred u intents from) refl
  where
    closed_so : is_open u c.tree ≡ false → IsToldSo u ending.Abort c.tree
    closed_so closed b found = ended (is_some b.ended) (ap is_open_branch (sym found) ∙ closed)
      where
        ended : (x : Bool) → not x ≡ false → x ≡ true
        ended true e = refl
        ended false e = let no_way : true ≡ false = e in cc

    aborts : is_open u c.tree ≡ false → (r : Uid) → AllSayEnds c.tree (tell r false ((u, ending.Abort) ∷ []) from ∷ [])
    aborts closed r = says_tells c.tree r false ((u, ending.Abort) ∷ []) (from ∷ []) (one_so u ending.Abort c.tree (closed_so closed))

    commits : (r : Uid) (ack : Bool) → IsToldSo u ending.Commit c.tree → AllSayEnds c.tree (tell r ack ((u, ending.Commit) ∷ []) from ∷ [])
    commits r ack so = says_tells c.tree r ack ((u, ending.Commit) ∷ []) (from ∷ []) (one_so u ending.Commit c.tree so)

    kept : (o : Option Branch) → branch_of u c.tree ≡ o → ended_so ending.Commit o ≡ true → IsDecided u ending.Commit c.tree
    kept None is e = let no_way : false ≡ true = e in cc
    kept (Some b) is e = (b, is, committed b.ended e)
      where
        committed : (x : Option End) → has_end ending.Commit x ≡ true → x ≡ Some ending.Commit
        committed None f = let no_way : false ≡ true = f in cc
        committed (Some ending.Commit) f = refl
        committed (Some ending.Abort) f = let no_way : false ≡ true = f in cc

    decided : is_open u c.tree ≡ false → AllSayEnds c.tree (answer_decided from u c)
    decided closed = one (is_kept_commit from u c) refl
      where
        one : (b : Bool) → is_kept_commit from u c ≡ b → AllSayEnds c.tree (cond b (tell (root_or_self u (branch_of u c.tree)) false
            ((u, ending.Commit) ∷ []) from ∷ []) (tell (root_or_self u (branch_of u c.tree)) false ((u, ending.Abort) ∷ []) from ∷ []))
        one true is =
            let k = (and_parts (is_kept_top u c) (is_open (root_or_self u (branch_of u c.tree)) c.tree && took_part from (doing_of u c))
            is).0 in
            commits (root_or_self u (branch_of u c.tree)) false
            (λ own. kept (branch_of u c.tree) refl (and_parts (is_constituent_branch (branch_of u c.tree)) (is_committed u c.tree) k).1)
        one false is = aborts closed (root_or_self u (branch_of u c.tree))

    recorded : is_open u c.tree ≡ false → (o : Option Intent) → at_uid u intents ≡ o → AllSayEnds c.tree (answer_recorded from u c o)
    recorded closed None is = decided closed
    recorded closed (Some i) is = one (has i.nodes from)
      where
        one : (b : Bool) → AllSayEnds c.tree (cond b (tell i.root true ((u, ending.Commit) ∷ []) from ∷ []) (answer_decided from u c))
        one true = commits i.root true (λ own. records u i (in_to (u, i) intents (at_in u i intents is)) own)
        one false = decided closed

    first : (b : Bool) → (is_open u c.tree || is_deferred u intents from) ≡ b →
        AllSayEnds c.tree (cond b [] (answer_recorded from u c (at_uid u intents)))
    first true is = tt
    first false is = recorded (or_parts (is_open u c.tree) (is_deferred u intents from) is).0 (at_uid u intents) refl

-- the tolds of records
pub sure_records : (t : Tree) (records : List (Uid × Intent)) → AreOfCommits records t → AllSayEnds t (tolds_again records)
sure_records t [] so = tt
sure_records t (e ∷ es) so = says_both t (tell_all e.1.root true ((e.0, ending.Commit) ∷ []) e.1.nodes) (tolds_again es)
    (says_tells t e.1.root true ((e.0, ending.Commit) ∷ []) e.1.nodes (one_so e.0 ending.Commit t (λ own. so e.0 e.1 (in_to (e.0, e.1)
    (e ∷ es) (inl refl)) own))) (sure_records t es (λ u i k own. so u i (in_to (u, i) (e ∷ es) (inr (in_from (u, i) es k))) own))

-- ---- a coordinator that starts, and an action that begins

pub sure_new : (actions : List Action) (node inc later count : ℕ) (records : List (Uid × Intent)) → AreCounted node inc count actions →
    inc < later → AreOfTops actions records → IsSure (record (new_coord node later) { telling = records })
sure_new actions node inc later count records counted up tops = record {
  lists = λ r u e i. none_in u e i;
  plans = λ u d m at is. none u d at;
  records = λ u i k own.
      absurd (not_own actions node inc later count counted up u own (top_in actions u i records tops (in_from (u, i) records k)));
}
  where
    none : {P : Type 0} (u : Uid) (d : Doing) → doing_of u (record (new_coord node later) { telling = records }) ≡ Some d → P
    none u d at = by (is_own u (let c = new_coord node later in c.tree)) u.num at
      where
        by : {P : Type 0} (b : Bool) (k : ℕ) → cond b (at_place k []) None ≡ Some d → P
        by true zero is = let no_way : ◌≡◌ {A = Option Doing} None (Some d) = is in cc
        by true (suc k) is = let no_way : ◌≡◌ {A = Option Doing} None (Some d) = is in cc
        by false k is = let no_way : ◌≡◌ {A = Option Doing} None (Some d) = is in cc

pub sure_begins : (l : Label) (k : Kind) (parent : Option Label) (c : Coord) → IsSure c →
    IsSure (begin_action l k parent (parent_of parent c) c).part
sure_begins l k parent c sure = record {
  lists = lists_on c.tree _ s sure.lists;
  plans = λ u d m at is w x i. s.ends w x (sure.plans u d m (was (is_own u c.tree) u.num d m at is) is w x i);
  records = λ u i j own. s.ends u ending.Commit (sure.records u i j own);
}
  where
    fresh : Doing
    fresh = record { label = l; req = 0; now = Idle; took = [] }

    s : Stand c.tree (let d = begin_action l k parent (parent_of parent c) c in let e = d.part in e.tree)
    s = stand_begins k (path_below k (parent_of parent c) (next_uid c.tree)) c.tree

    was : (b : Bool) (j : ℕ) (d : Doing) (m : Machine) → cond b (at_place j (c.doings ++ fresh ∷ [])) None ≡ Some d → d.now ≡ Committing m →
        cond b (at_place j c.doings) None ≡ Some d
    was true zero d m at is = let no_way : ◌≡◌ {A = Option Doing} None (Some d) = at in cc
    was true (suc j) d m at is =
        ⊎_elim (λ old. old) (λ new. idle_not m (ap (λ (x : Doing). x.now) new.1 ∙ is)) (get_more j fresh d c.doings at)
    was false j d m at is = at

-- what a message says of what was decided stays so
pub said_on : (c e : Coord) (m : Message) → ((u : Uid) → is_own u e.tree ≡ is_own u c.tree) →
    ((u : Uid) (x : End) → IsDecided u x c.tree → IsDecided u x e.tree) → IsSaidSo c.tree m → IsSaidSo e.tree m
said_on c e m own stands so = record {
  brings = λ u x i its. stands u x (so.brings u x i (sym (own u) ∙ its));
  commits = λ u i its. stands u ending.Commit (so.commits u i (sym (own u) ∙ its));
}

pub said_so : (t : Tree) (m : Message) → SaysEnds t m → IsSaidSo t m
said_so t m s = record { brings = λ u x i own. s.brings u x i; commits = λ u i. s.tells u ending.Commit i }
