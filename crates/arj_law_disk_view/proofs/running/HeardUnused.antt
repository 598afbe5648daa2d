-- What a coordinator has of naming's answers, where a top commits that uses nothing: it is committed at once.
use Rattle.arj_law_parts.proofs.Words
use Words.{◌≡◌, ◌≤◌, ◌==◌, ℕ, Bool, true, false, List, [], ◌∷◌, ◌++◌, Option, Some, None, refl, sym, ◌∙◌, ap, subst, ⊎_elim, map, Contains}
use Words.{find, if◌then◌else◌, AllByRecursion, in_from, Uid, is_on, actor, commit_top, last_req, moved_commit, Known, Used, has_record}
use Words.{included_of, joins_left, participants, Committing, Coord, Doing, Idle, Root, Said, doing_of, kept_of, plan_for, root_at}
use Words.{survives, Did, Disk, Do, Effect, InPart, After, Before, Intent, PutIntent, Stop, stopped, decide, decided, decided_told}
use Words.{kept_after, record_work, root_after, says, tell, marked, with_stores, without_stores, Parts, with_coord, has, uid_number, Branch}
use Words.{branch_of, root_of, Post, Seen}
use Words.body
use Words.ending
use Words.commit
use Words.coord
use Rattle.arj_law_disk_view.proofs.Terms
use Terms.{flat_map, IsGood, KnowsFew, Office, never, up, KnowsNode, Kinds, SeesBoth, SeesRootOf, MayGoOn, Quietly, SeesHeard, SeesHeardAt}
use Terms.{HasHeard, going_of}
use Rattle.arj_law_disk_view.proofs.names.{Heard.none_heard, InputBoth.start_unused}
use Rattle.arj_law_disk_view.proofs.running
use running.{HeardAborts.says_say, HeardCoord.mine, HeardCoord.quiet_step, HeardGoing.old_goes_on, HeardQuiet.fixed_in}
use running.HeardDone.{at_decided, call_then, root_then, works_then}
use running.HeardPlans.{apart_from, lives, root_seen, working}
use running.HeardPosts.{Rises, SaysHeard, all_join, all_mapped}
use running.HeardStays.{at_stays, memory_goes, memory_stays}
use Rattle.arj_law_runs.proofs.calls.CommitPlans.{is_used}
use Rattle.arj_law_disk_view.proofs.names.DecidedTrees as tree

-- ---- what a decision says

put_says : (i : ℕ) (u : Uid) (j : Intent) → Rises i (PutIntent u j)
put_says i u j c low = (by, low)
  where
    by : (how : Stop) → i ≤ (stopped how (PutIntent u j) c).inc
    by Before = low
    by After = low
    by (InPart which) = low

pub decide_says : (x i : ℕ) (A : Office) (p : commit.Plan) (c : Coord) →
    AllByRecursion (λ f. SaysHeard x i A f) (let d = decide p c in d.outs)
decide_says x i A p c = all_join Q (record_work u p ++ says u body.Committed c) (map (decided_told (root_of p.path) u p) p.sent)
    (all_join Q (record_work u p) (says u body.Committed c) (work (has_record p)) (says_say x i A u body.Committed c))
    (all_mapped Q (decided_told (root_of p.path) u p) p.sent (λ n. told n (has (participants p) n)))
  where
    u : Uid
    u = actor p.path

    Q : Effect → Type 0
    Q f = SaysHeard x i A f

    work : (z : Bool) →
        AllByRecursion Q (if z then Do (PutIntent u (record { root = root_of p.path; nodes = participants p })) ∷ [] else [])
    work true = ((λ y low. put_says i u (record { root = root_of p.path; nodes = participants p }) y low), tt)
    work false = tt

    told : (n : ℕ) (z : Bool) → Q (if z then tell (root_of p.path) (has_record p) ((u, ending.Commit) ∷ []) n else tell (root_of p.path)
        false ((u, ending.Abort) ∷ []) n)
    told n true = (refl, tt)
    told n false = (refl, tt)

-- ---- nothing used

-- no exclusion and no inclusion changes no list
same_kept : (x : ℕ) (p : commit.Plan) (o : Option Known) → p.excluded ≡ [] → included_of p ≡ [] → kept_after p x o ≡ o
same_kept x p None out within = refl
same_kept x p (Some k) out within =
    λ i. Some (record k { stores = with_stores (marked x (within i)) (without_stores (marked x (out i)) k.stores) })

module _ (x : ℕ) (tops : Kinds) (e k : ℕ) (d : Disk) (t : Parts) (M : Seen) (A : Office) (good : IsGood (up k d t M)) (few : KnowsFew
    (up k d t M)) (knows : KnowsNode tops k d t M) (both : SeesBoth x tops A (up k d t M)) (h : SeesHeard x tops A (up k d t M))
    (b : Branch) (found : branch_of (actor b.path) t.coord.tree ≡ Some b) (unended : b.ended ≡ None)
    (top : tops.is_top (uid_number (actor b.path)) ≡ true) (q : Doing) (at_work : doing_of (actor b.path) t.coord ≡ Some q) where
  abbrev u : Uid
  u = actor b.path

  abbrev r : Root
  r = root_at (root_of b.path) t.coord

  abbrev Plan_of : commit.Plan
  Plan_of = plan_for b.path (last_req (doing_of (actor b.path) t.coord)) (root_at (root_of b.path) t.coord) t.coord

  module _ (none : (plan_for b.path (last_req (doing_of (actor b.path) t.coord)) (root_at (root_of b.path) t.coord) t.coord).used
      ≡ []) where
    -- no call survives in it
    unused : (s : Said) → Contains (let z = root_at (root_of b.path) t.coord in z.said) s → s.x ≡ x → survives u s.path t.coord ≡ true → ⊥
    unused s there of on = by (kept_of x r) refl
      where
        by : (o : Option Known) → kept_of x r ≡ o → ⊥
        by None is = never ((let z = root_seen x tops k d t M A good few knows both h u b found unended top in let l = z.lists in
            l.nothing) is s there of) (lives x tops k d t M A good few knows both h u b found unended top s there on)
        by (Some n) is =
            let z = is_used b.path (last_req (doing_of (actor b.path) t.coord)) r t.coord s n (in_from s r.said there)
            (ap (λ y. kept_of y r) of ∙ is) on in
            let no_way : ◌≡◌ {A = Option Used} None (Some z.0) = ap (λ us. find (λ (y : Used). y.x == s.x) us) (sym none) ∙ z.1 in
            cc no_way

    few_then : (s : Said) → Contains (let z = root_at (root_of b.path) t.coord in z.said) s → s.x ≡ x →
        coord.is_retained s.path (decided u Plan_of t.coord) ≡ true → coord.is_retained s.path t.coord ≡ true
    few_then s there of on = by (is_on s.path u) refl
      where
        by : (z : Bool) → is_on s.path u ≡ z → coord.is_retained s.path t.coord ≡ true
        by false off = tree.retained_off x u Plan_of t.coord b q found unended at_work s.path off on
        by true is = absurd (unused s there of (tree.survives_now x u Plan_of t.coord b q found unended at_work s.path
            (let f = (let c = knows.coord in c.said (root_of b.path) s
            (let w = working x tops k d t M A good few knows both h u b found unended top in w.own) there) in f.once u) is s.path refl on))

    kept_is : kept_of x (root_after Plan_of r) ≡ kept_of x r
    kept_is = tree.kept_then x Plan_of r ∙ same_kept x Plan_of (kept_of x r) refl (λ i. flat_map (joins_left Plan_of) (none i))

    -- what is seen of the coordinator is seen once it has committed the top
    seen_then : (sent : List Post) (B : Office) → SeesHeardAt x k tops sent t.coord B →
        SeesHeardAt x k tops sent (decided u Plan_of t.coord) B
    seen_then sent B p = at_decided x u Plan_of t.coord b q found unended at_work k tops sent B
        (let w = working x tops k d t M A good few knows both h u b found unended top in w.own)
        (λ w. subst (λ z. SeesRootOf x tops (root_of b.path) (decided u Plan_of t.coord) z B)
        (sym (tree.root_now x u Plan_of t.coord b q found unended at_work))
        (root_then x u Plan_of t.coord b q found unended at_work tops (root_of b.path) r (root_after Plan_of r) B refl refl refl refl
        kept_is few_then (p.roots (root_of b.path) (working x tops k d t M A good few knows both h u b found unended top))))
        (λ w is other.
        (p.roots w is, λ s there. apart_from x tops k d t M A good few knows both h u b found unended top w is.own other s there))
        (λ w z s does now of. p.steps w z s does now of)
        (λ w z s does now of call bound. call_then x u Plan_of t.coord b q found unended at_work tops s B.names knows.kinds
        (let w = working x tops k d t M A good few knows both h u b found unended top in w.own) (λ same.
        ap (kept_of x) (tree.root_now x u Plan_of t.coord b q found unended at_work) ∙ kept_is) (p.calls w z s does now of call bound))
        (λ w z m other does now. p.plans w z m does now) p.includes

    pub heard_unused : (g : HasHeard (SeesHeard x) x tops Quietly A (going_of e k d t (commit_top b.path d.intents t.coord), M))
        × MayGoOn x g.office (let did = commit_top b.path d.intents t.coord in did.part)
    heard_unused = subst (λ z. Goal (let y = moved_commit (actor b.path) z d.intents t.coord in
        record { part = y.part; outs = says (actor b.path) body.Committing t.coord ++ y.outs })) (sym (start_unused Plan_of none)) done
      where
        Goal : Did Coord → Type 0
        Goal did = (g : HasHeard (SeesHeard x) x tops Quietly A (going_of e k d t did, M)) × MayGoOn x g.office did.part

        did : Did Coord
        did = record { part = decided u Plan_of t.coord; outs = says u body.Committing t.coord ++ (decide Plan_of t.coord).outs }

        done : Goal (record { part = decided u Plan_of t.coord; outs = says u body.Committing t.coord ++ (decide Plan_of t.coord).outs })
        done = (
          record {
            office = A;
            only = none_heard A;
            both = both;
            along = quiet_step x tops k d t M A both h (with_coord t (decided u Plan_of t.coord))
                (λ N B only fixed more. seen_then N.sent B
                (at_stays x tops A B (fixed_in x tops A (up k d t M) both) fixed (memory_goes A B only) k M.sent N.sent t.coord more
                (λ w own kind. memory_stays tops A B only (tops.root (uid_number w))) (mine x tops k d t M A both h)))
                e (says u body.Committing t.coord ++ (decide Plan_of t.coord).outs) M refl refl
                (all_join (λ f. SaysHeard x d.inc A f) (says u body.Committing t.coord) (decide Plan_of t.coord).outs
                (says_say x d.inc A u body.Committing t.coord) (decide_says x d.inc A Plan_of t.coord));
          },
          old_goes_on x tops k d t M A knows both (decided u Plan_of t.coord) (λ w z m at now past. ⊎_elim (λ old. old.1) (λ idle. absurd
              (let n : Idle ≡ Committing m = sym idle ∙ now in cc)) (works_then x u Plan_of t.coord b q found unended at_work w z at)),
        )
