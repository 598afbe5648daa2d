-- What a coordinator has of naming's answers, where a top's commit starts, and where a commit gives up in its Prepare.
use Rattle.arj_law_parts.proofs.Words
use Words.{◌≡◌, ℕ, true, false, List, [], ◌∷◌, Option, Some, None, refl, sym, ◌∙◌, ap, find, ObjectState, Uid, object, uid_eq, actor}
use Words.{top_of, commit_top, gaveup_lines, gives_up, last_req, Preparing, Used, Voting, begin_confirm, begin_vote, marks_stores, plan_of}
use Words.{servers_of, Committing, Coord, Doing, doing_of, plan_for, root_at, Did, Disk, says, Parts, uid_number, Branch, branch_of}
use Words.{root_of, Seen}
use Words.body
use Words.commit
use Rattle.arj_law_disk_view.proofs.Terms
use Terms.{IsGood, KnowsFew, Office, up, IsBefore, KnowsNode, IsFirstAt, KnowsMachine, KnowsPlan, Kinds, SeesCoord, SeesBoth, MayGoOn}
use Terms.{Quietly, SeesHeard, SeesPlan, HasHeard, going_of}
use Terms.disk
use Rattle.arj_law_disk_view.proofs.running
use running.{HeardCoord.SaysThen, HeardCoord.mine, HeardGoing.begun_later, HeardGoing.past_begun, HeardPosts.all_flat, HeardShut.shut}
use running.{HeardUnused.heard_unused, SoundPlans.marks_used}
use running.HeardCommits.{goes_step, line_then}
use running.HeardNext.{GoesTo, confirm_to, plan_on, vote_to}
use running.HeardPlans.{begins_later, plain, plan_seen}
use Rattle.arj_law_disk_view.proofs.view.{BeginWalks.before_idle, Frames.node_here}

module _ (x : ℕ) (tops : Kinds) (e k : ℕ) (d : Disk) (t : Parts) (M : Seen) (A : Office) (good : IsGood (up k d t M)) (few : KnowsFew
    (up k d t M)) (knows : KnowsNode tops k d t M) (both : SeesBoth x tops A (up k d t M)) (h : SeesHeard x tops A (up k d t M)) where
  abbrev Heard_by : Did Coord → Type 0
  Heard_by did = (g : HasHeard (SeesHeard x) x tops Quietly A (going_of e k d t did, M)) × MayGoOn x g.office did.part

  -- ---- a commit

  module _ (b : Branch) (found : branch_of (actor b.path) t.coord.tree ≡ Some b) (unended : b.ended ≡ None) (top : tops.is_top
      (uid_number (actor b.path)) ≡ true) (q : Doing) (at_work : doing_of (actor b.path) t.coord ≡ Some q) (before : IsBefore q.now)
      (first : IsFirstAt t.coord (root_of b.path) (actor b.path)) where
    abbrev u : Uid
    u = actor b.path

    abbrev Plan_of : commit.Plan
    Plan_of = plan_for b.path (last_req (doing_of (actor b.path) t.coord)) (root_at (root_of b.path) t.coord) t.coord

    plan : KnowsPlan (actor b.path) Plan_of
    plan = let c = knows.coord in c.starts (actor b.path) b (last_req (doing_of (actor b.path) t.coord)) found top

    seen : SeesPlan x tops u (Voting Plan_of []) A
    seen = plan_seen x tops k d t M A good few knows both h u b found unended top Plan_of [] refl refl

    idle : A.world.disk.stage (uid_number u) ≡ disk.Idle
    idle = before_idle x tops A.world.disk (uid_number u) b.kind q.now before top (sees.working u b q found unended at_work)
      where
        sees : SeesCoord x k d.inc tops t.coord A.world.disk
        sees = let s = both.disks in s.coords k (record { number = k; disk = d; live = Some t }) t
            (node_here M k (record { number = k; disk = d; live = Some t })) refl

    going : (v : Used) (vs : List Used) → (let p = Plan_of in p.used) ≡ v ∷ vs → Heard_by (commit_top b.path d.intents t.coord)
    going v vs is =
        let g : GoesTo Plan_of true (begin_vote (servers_of Plan_of) Plan_of) = vote_to (servers_of Plan_of) Plan_of v vs is in
        goes_step x tops e k d t M A knows both h u b q g.machine found unended at_work top (ap top_of g.path ∙ plan.top_is)
        (plan_on x tops u (Voting Plan_of []) g.machine A g.used g.changed (λ on. refl) seen)
        (λ past. begins_later x tops u Plan_of (plan_of g.machine) [] A (plain x tops k d t M A good few knows both h u b found unended top)
        seen plan.tidy g.used (shut x tops k d t M A knows both u b found top idle first)
        (λ w st at is. absurd (let n : ◌≡◌ {A = Option ObjectState} None (Some st) = ap
        (λ ss. find (λ (s : ObjectState). uid_eq s.uid (object x)) ss) (sym g.changed) ∙ is in cc n)))
        (says u body.Committing t.coord) [] (begin_vote (servers_of Plan_of) Plan_of)
        (λ v. line_then x tops k v A u body.Committing t.coord) g.kind

    pub heard_commit : Heard_by (commit_top b.path d.intents t.coord)
    heard_commit = by (let p = Plan_of in p.used) refl
      where
        by : (us : List Used) → (let p = Plan_of in p.used) ≡ us → Heard_by (commit_top b.path d.intents t.coord)
        by [] is = heard_unused x tops e k d t M A good few knows both h b found unended top q at_work is
        by (v ∷ vs) is = going v vs is

  -- ---- a giveup in a Prepare

  pub heard_give_prepare : (u : Uid) (q : Doing) (p : commit.Plan) (left : List ℕ) → doing_of u t.coord ≡ Some q →
      q.now ≡ Committing (Preparing p left) → Heard_by (gives_up u d.intents t.coord (Committing (Preparing p left)))
  heard_give_prepare u q p left at_work now =
      let n : KnowsMachine tops t.coord u (Preparing p left) = (let c = knows.coord in c.machines u q (Preparing p left) at_work now) in
      let p2 : commit.Plan = marks_stores left p in
      let same = marks_used left p in
      let g : GoesTo p2 false (begin_confirm p2.used p2) = confirm_to p2 false n.used n.more p2.used (same.0 ∙ n.uses) in
      goes_step x tops e k d t M A knows both h u n.branch q g.machine n.found n.unended at_work n.top
      (ap top_of (g.path ∙ same.2) ∙ (let y = n.plan in y.top_is))
      (plan_on x tops u (Preparing p left) g.machine A (g.used ∙ same.0) (g.changed ∙ same.1) g.votes
      (let m = mine x tops k d t M A both h in m.plans u q (Preparing p left) at_work now))
      (λ past. begun_later x A u (plan_of g.machine) (past_begun x tops k d t M A knows both u q (Preparing p left) at_work now refl))
      (gaveup_lines u left t.coord) p2.excluded (begin_confirm p2.used p2) (λ v. all_flat (λ f. SaysThen x tops k v A f)
      (λ j. says u (λ l. body.GaveUp l j) t.coord) left (λ j. line_then x tops k v A u (λ l. body.GaveUp l j) t.coord)) g.kind
