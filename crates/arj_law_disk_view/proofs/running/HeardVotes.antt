-- What a coordinator has of naming's answers, where a server's vote or a store's answer comes to a commit.
use Rattle.arj_law_parts.proofs.Words
use Words.{◌≡◌, ◌≤◌, ◌<◌, ◌==◌, arith, inl, and_parts, ℕ, true, false, List, [], ◌∷◌, Some, refl, sym, ◌∙◌, ap, subst, inr, ⊎_elim, find}
use Words.{uid_is, Asked, Cause, Message}
use Words.{ObjectState, PreparedReply, Uid, object, uid_eq, Reply, answers, top_of, moved_commit, Aborts, Preparing, Used, Voting}
use Words.{changed_of, marks_store, plainly, plan_of, stores_left, targets_of, votes_left, with_states, Committing, Coord, Doing, doing_of}
use Words.{Did, Disk, Parts, uid_number, with_number, without_number, at_place, root_of, number_tells, Seen}
use Words.cause
use Words.prepared
use Words.voted
use Words.commit
use Rattle.arj_law_disk_view.proofs.Terms
use Terms.{found_by, IsGood, KnowsFew, votes_used, Office, never, never_some, some_is, up, IsBefore, KnowsNode, CommitsAt, KnowsMachine}
use Terms.{Among, used_at, Kinds, SeesCoord, SeesBoth, MayGoOn, Quietly, SeesHeard, SeesPlan, HasHeard, going_of, AreOwnStates}
use Terms.{Packed, test_is}
use Terms.disk
use Terms.words
use Rattle.arj_law_disk_view.proofs.names.DecidedRoots.{found_among}
use Rattle.arj_law_disk_view.proofs.running
use running.{Given.listed, HeardCommits.goes_step, HeardCoord.mine, HeardGoing.begun_later, HeardGoing.past_begun}
use running.{HeardInputs.heard_aborted, HeardPlans.begins_later, HeardPlans.plain, HeardShut.shut, SoundPlans.with_all}
use running.HeardNext.{GoesTo, plan_on, prepare_to, stores_to}
use Rattle.arj_law_disk_view.proofs.view.{BeginWalks.before_idle, Frames.node_here}
use Rattle.arj_law_disk_view.specs.running.Decided.{IsPastNumber}
use Rattle.arj_law_parts.specs.moves.Seen.{In}
use Rattle.arj_promise.specs.Starts.{IsPast, next_inc}

module _ (x : ℕ) (tops : Kinds) (e k : ℕ) (d : Disk) (t : Parts) (M : Seen) (A : Office) (good : IsGood (up k d t M))
    (few : KnowsFew (up k d t M)) (knows : KnowsNode tops k d t M) (both : SeesBoth x tops A (up k d t M))
    (h : SeesHeard x tops A (up k d t M)) (u : Uid) (q : Doing) (at_work : doing_of u t.coord ≡ Some q) where
  abbrev Heard_by : Did Coord → Type 0
  Heard_by did = (g : HasHeard (SeesHeard x) x tops Quietly A (going_of e k d t did, M)) × MayGoOn x g.office did.part

  -- the commit is aborted
  pub heard_refused : (m : commit.Machine) (p : commit.Plan) (why : Cause) → q.now ≡ Committing m →
      Heard_by (moved_commit u (plainly (Aborts why p)) d.intents t.coord)
  heard_refused m p why now = let n = (let c = knows.coord in c.machines u q m at_work now) in
      heard_aborted x tops e k d t M A good few knows both h u why n.branch [] n.found n.unended

  -- ---- a vote

  module _ (p : commit.Plan) (left : List ℕ) (now : q.now ≡ Committing (Voting p left)) (from : ℕ) (m : Message) (a : Asked)
      (states : List ObjectState) (posted : In (record { from = from; to = k; message = m }) M.sent)
      (answering : answers m ≡ Some (a, Reply.Voted (voted.Yes states))) (act : a.act ≡ u) (own : AreOwnStates a.act states)
      (written : (g : Packed) → words.In g (A.world.disk.first ∷ A.world.disk.past) → IsPastNumber M.start g.writer) where
    abbrev Next : commit.Plan
    Next = record p { changed = with_states states p.changed }

    n : KnowsMachine tops t.coord u (Voting p left)
    n = let c = knows.coord in c.machines u q (Voting p left) at_work now

    old : SeesPlan x tops u (Voting p left) A
    old = let z = mine x tops k d t M A both h in z.plans u q (Voting p left) at_work now

    -- what is voted was called, and is the top's own
    fresh : (w : Used) (st : ObjectState) → used_at x p.used ≡ Some w → Among st states → st.uid ≡ object x →
        (w.called ≡ true) × (st.writer ≡ u)
    fresh w st at there of =
        let z = votes_used k d t M few.1.1 from m a states posted answering q (Voting p left) (ap (λ y. doing_of y t.coord) act ∙ at_work)
        now st (listed st states there) in
        let same : z.0 ≡ w = some_is z.1 (ap (λ (y : Uid). used_at y.num p.used) of ∙ at) in
        (sym (ap (λ (y : Used). y.called) same) ∙ z.3, own.writer st there ∙ act)

    plan_voted : SeesPlan x tops u (Voting Next left) A
    plan_voted = record {
      top = old.top;
      grants = old.grants;
      changed =
          λ w st at there of. ⊎_elim (λ new. fresh w st at new of) (λ was. old.changed w st at was of) (with_all st states p.changed there);
      list = old.list;
      loaded = old.loaded;
    }

    sees : SeesCoord x k d.inc tops t.coord A.world.disk
    sees = let s = both.disks in
        s.coords k (record { number = k; disk = d; live = Some t }) t (node_here M k (record { number = k; disk = d; live = Some t })) refl

    idle : A.world.disk.stage (uid_number u) ≡ disk.Idle
    idle = before_idle x tops A.world.disk (uid_number u) n.branch.kind q.now (subst IsBefore (sym now) tt) n.top
        (sees.working u n.branch q n.found n.unended at_work)

    at : CommitsAt t.coord (root_of n.branch.path) u
    at = (q, Voting p left, at_work, now, ap root_of (sym n.path))

    -- who acts is somebody, and of this incarnation
    is_new : IsPast M.start u → ⊥
    is_new (inl nobody_is) =
        never_some (found_by u t.coord.tree n.branch n.found).1 (ap (λ (y : Uid). at_place y.num t.coord.tree.branches) nobody_is)
    is_new (inr early) = by (and_parts (u.node == t.coord.tree.node) (u.inc == t.coord.tree.inc)
        (found_by u t.coord.tree n.branch n.found).0)
      where
        low : (i j b : ℕ) → i ≡ j → i < b → b ≤ j → ⊥
        low i j b same less since = omega (arith, same, less, since)

        by : ((u.node == t.coord.tree.node) ≡ true) × ((u.inc == t.coord.tree.inc) ≡ true) → ⊥
        by (node, inc) =
            let at_k : u.node ≡ k = test_is u.node t.coord.tree.node node ∙ sees.node in
            let its : u.inc ≡ d.inc = test_is u.inc t.coord.tree.inc inc ∙ sees.present in
            let less = subst (λ j. u.inc < next_inc M.start j) at_k early in
            low u.inc d.inc (next_inc M.start k) its less knows.since

    abbrev To : List ℕ → Type 0
    To rest = Heard_by (moved_commit u (plainly (votes_left rest Next)) d.intents t.coord)

    -- with the last vote the commit begins
    ends : without_number from left ≡ [] → To []
    ends last =
        let g : GoesTo Next true (votes_left [] Next) = prepare_to (targets_of Next) Next true n.used n.more n.uses in
        goes_step x tops e k d t M A knows both h u n.branch q g.machine n.found n.unended at_work n.top (ap top_of g.path
        ∙ (let y = n.plan in y.top_is)) (plan_on x tops u (Voting Next left) g.machine A g.used g.changed (λ on. refl) plan_voted)
        (λ past. begins_later x tops u p (plan_of g.machine) left A
        (plain x tops k d t M A good few knows both h u n.branch n.found n.unended n.top) old (let y = n.plan in y.tidy) g.used
        (shut x tops k d t M A knows both u n.branch n.found n.top idle (let c = knows.coord in c.alone (root_of n.branch.path) u at))
        (λ w st used found.
        let it : changed_of x Next ≡ Some st = ap (λ ss. find (λ (s : ObjectState). uid_eq s.uid (object x)) ss) (sym g.changed) ∙ found in
        let there = found_among (λ s. uid_eq s.uid (object x)) (with_states states p.changed) st it in
        let c = plan_voted.changed w st (ap (used_at x) (sym g.used) ∙ used) there.0 (uid_is st.uid (object x) there.1) in (
          c.0,
          c.1,
          λ g i same. let w = written g i in
              is_new (subst (IsPast M.start) (number_tells w.0 u (sym w.1 ∙ same)) w.2),
        )))
        [] [] (votes_left [] Next) (λ v. tt) g.kind

    -- and others are waited for
    waits_on : (j : ℕ) (js : List ℕ) → To (j ∷ js)
    waits_on j js = goes_step x tops e k d t M A knows both h u n.branch q (Voting Next (j ∷ js)) n.found n.unended at_work n.top
        (let y = n.plan in y.top_is) (plan_on x tops u (Voting Next left) (Voting Next (j ∷ js)) A refl refl (λ on. refl) plan_voted)
        (λ past. absurd (never refl past)) [] [] (votes_left (j ∷ js) Next) (λ v. tt) (inr refl)

    pub heard_vote : Heard_by (moved_commit u (plainly (votes_left (without_number from left) Next)) d.intents t.coord)
    heard_vote = by (without_number from left) refl
      where
        by : (rest : List ℕ) → without_number from left ≡ rest → To rest
        by [] is = ends is
        by (j ∷ js) is = waits_on j js

  -- ---- a store's answer

  module _ (p : commit.Plan) (left : List ℕ) (now : q.now ≡ Committing (Preparing p left)) where
    -- by a plan that uses and has changed the same
    takes : (z : commit.Plan) (rest : List ℕ) → z.used ≡ p.used → z.changed ≡ p.changed → z.path ≡ p.path →
        Heard_by (moved_commit u (stores_left rest z) d.intents t.coord)
    takes z rest used changed path =
        let n : KnowsMachine tops t.coord u (Preparing p left) = (let c = knows.coord in c.machines u q (Preparing p left) at_work now) in
        let g : GoesTo z false (let y = stores_left rest z in y.step) = stores_to rest z n.used n.more (used ∙ n.uses) in
        goes_step x tops e k d t M A knows both h u n.branch q g.machine n.found n.unended at_work n.top
        (ap top_of (g.path ∙ path) ∙ (let y = n.plan in y.top_is))
        (plan_on x tops u (Preparing p left) g.machine A (g.used ∙ used) (g.changed ∙ changed) g.votes
        (let y = mine x tops k d t M A both h in y.plans u q (Preparing p left) at_work now))
        (λ past. begun_later x A u (plan_of g.machine) (past_begun x tops k d t M A knows both u q (Preparing p left) at_work now refl))
        [] (let y = stores_left rest z in y.marks) (let y = stores_left rest z in y.step) (λ v. tt) g.kind

    pub heard_store : (from : ℕ) (r : PreparedReply) → Heard_by (moved_commit u (commit.prepared_by from left p r) d.intents t.coord)
    heard_store from prepared.Yes = takes (record p { prepared = with_number from p.prepared }) (without_number from left) refl refl refl
    heard_store from (prepared.InDoubt y holder) = takes (marks_store from p) (without_number from left) refl refl refl
    heard_store from (prepared.Old y v) = heard_refused (Preparing p left) p (cause.Old from y v) now
