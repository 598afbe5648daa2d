-- What a coordinator has of naming's answers, where a commit goes on: it asks further, or waits for the answers that are left.
use Rattle.arj_law_parts.proofs.Words
use Words.{◌≡◌, ◌⊎◌, ℕ, true, false, List, [], ◌++◌, Option, Some, None, refl, sym, ◌∙◌, ap, subst, inl, inr, ⊎_elim, Contains, unwrap_or}
use Words.{AllByRecursion, Body, Label, Uid, top_of, asks_machine, commits_in, mark_lines, moved_commit, Asks, CommitStep, Confirming}
use Words.{Machine, Preparing, Stays, Voting, ask_of, plan_of, waiting, Calling, Committing, Coord, Doing, Now, Root, Went, doing_of}
use Words.{kept_of, no_root, root_at, Did, Disk, Effect, say_for, says, Parts, with_coord, at_number, uid_number, Branch, branch_of, is_own}
use Words.{root_of, Post, Seen}
use Words.body
use Rattle.arj_law_disk_view.proofs.Terms
use Terms.{doing_here, roots_work, Office, some_is, up, KnowsNode, IsFixed, Kinds, SeesCoord, OnlyMemory, SeesBoth, SeesRootOf, BeginsLater}
use Terms.{MayGoOn, Quietly, is_voting, ClaimsAsked, SeesHeard, SeesHeardAt, SeesPlan, HasHeard, going_of}
use Rattle.arj_law_disk_view.proofs.names.Heard.{none_heard}
use Rattle.arj_law_disk_view.proofs.running
use running.{HeardCalls.work_cases, HeardGoing.old_goes_on, HeardPosts.all_flat, HeardPosts.all_join, HeardQuiet.fixed_in}
use running.HeardCoord.{SaysThen, mine, quiet_sends}
use running.HeardLike.{call_same, path_on, root_like, same_path, went_to}
use running.HeardStays.{at_stays, memory_goes, memory_stays, plan_stays}
use running.HeardTick.{asked_same, confirm_claims, machine_by}
use Rattle.arj_law_disk_view.proofs.view.{DecideWalks.confirming_of, Doings.doing_tree, Frames.node_here}

-- ---- the coordinator

-- One coordinator comes of another: an action waits in this commit, and nothing else is looked at but the nodes to which something went.
pub record IsAtCommit (u : Uid) (m : Machine) (c e : Coord) : Type 0 where
  pub tree : e.tree ≡ c.tree
  pub doing : Doing
  pub at_work : doing_of u e ≡ Some doing
  pub now : doing.now ≡ Committing m
  pub works : (w : Uid) (q : Doing) → doing_of w e ≡ Some q → (doing_of w c ≡ Some q) ⊎ ((w ≡ u) × (q.now ≡ Committing m))
  pub roots : (w : Uid) → (v : List Went) × (root_at w e ≡ went_to v (root_at w c))

abbrev machine_in : Now → Option Machine
machine_in (Committing m) = Some m
machine_in _ = None

machine_is : {m n : Machine} → Committing m ≡ Committing n → m ≡ n
machine_is same = some_is refl (ap machine_in same)

-- what it has is seen still, where the plan is
pub at_commit : (x k : ℕ) (tops : Kinds) (sent : List Post) (u : Uid) (m : Machine) (c e : Coord) (B : Office) → IsAtCommit u m c e →
    SeesPlan x tops u m B → SeesHeardAt x k tops sent c B → SeesHeardAt x k tops sent e B
at_commit x k tops sent u m c e B at plan p = record {
  roots = λ root w.
      let q = at.roots root in
      let old = p.roots root (record {
        own = sym (ap (is_own root) at.tree) ∙ w.own;
        alone = w.alone;
        unended = λ b found. w.unended b (ap (branch_of root) at.tree ∙ found);
      }) in
      subst (λ z. SeesRootOf x tops root e z B) (sym q.1)
      (root_like c e (λ w. inl (ap (branch_of w) at.tree)) x tops root (root_at root c) q.0 B old);
  steps = λ w q s does now of. ⊎_elim (λ old. p.steps w q s old now of)
      (λ new. absurd (let n : Committing m ≡ Calling s = sym new.1 ∙ now in cc)) (at.works w q does);
  calls = λ w q s does now of call bound. ⊎_elim (λ old. call_same x tops c e s B.names (ap (is_own (top_of s.path)) at.tree)
      (ap (kept_of x) (let r = at.roots (root_of s.path) in r.1)) (p.calls w q s old now of call bound))
      (λ new. absurd (let n : Committing m ≡ Calling s = sym new.1 ∙ now in cc)) (at.works w q does);
  includes = λ root j i. path_on c e (λ w. same_path (branch_of w c.tree) (branch_of w e.tree) (ap (branch_of w) at.tree)) j.path
      (p.includes root j (subst (λ (r : Root). Contains r.joined j) (let q = at.roots root in q.1) i));
  plans = λ w q z does now. ⊎_elim (λ old. p.plans w q z old now)
      (λ new. subst (λ y. SeesPlan x tops y z B) (sym new.0) (subst (λ y. SeesPlan x tops u y B) (machine_is (sym new.1 ∙ now)) plan))
      (at.works w q does);
}

module _ (u : Uid) (m : Machine) (c : Coord) (q : Doing) (found : doing_of u c ≡ Some q) where
  abbrev new : Doing → Doing
  new d = record d { req = (plan_of m).req; now = Committing m }

  -- it waits for answers that are left
  pub stays_at : IsAtCommit u m c (commits_in u m c)
  stays_at = record {
    tree = doing_tree u new c;
    doing = new q;
    at_work = doing_here u new c q found;
    now = refl;
    works = λ w z does.
        ⊎_elim (λ mine. inr (mine.0, ap (λ (y : Doing). y.now) (sym mine.1))) (λ old. inl old) (work_cases u new c q found w z does);
    roots =
        λ w. ((let r = root_at w c in r.went), ap (λ (rs : List (ℕ × Root)). unwrap_or (at_number w.num rs) no_root) (roots_work u new c));
  }

  -- it asks further
  pub asks_at : IsAtCommit u m c (let d = asks_machine m (commits_in u m c) in d.part)
  asks_at =
      let s = asked_same (plan_of m).path (plan_of m).req (waiting m) (commits_in u m c) in
      let z = stays_at in record {
        tree = s.tree ∙ z.tree;
        doing = z.doing;
        at_work = s.works u ∙ z.at_work;
        now = z.now;
        works = λ w y does. z.works w y (sym (s.works w) ∙ does);
        roots = λ w. let r = s.roots w in let y = z.roots w in (r.0, r.1 ∙ ap (went_to r.0) y.1);
      }

-- ---- what is said

module _ (x : ℕ) (tops : Kinds) (k : ℕ) (v : Parts) (A : Office) where
  abbrev Q : Effect → Type 0
  Q f = SaysThen x tops k v A f

  pub line_then : (u : Uid) (f : Label → Body) (c : Coord) → AllByRecursion (λ y. SaysThen x tops k v A y) (says u f c)
  line_then u f c = by (doing_of u c)
    where
      by : (o : Option Doing) → AllByRecursion Q (say_for f o)
      by None = tt
      by (Some d) = (tt, tt)

  marks_then : (u : Uid) (marks : List (ℕ × ℕ)) (c : Coord) → AllByRecursion Q (mark_lines u marks c)
  marks_then u marks c =
      all_flat Q (λ (m : ℕ × ℕ). says u (λ l. body.Excluded l m.0 m.1) c) marks (λ m. line_then u (λ l. body.Excluded l m.0 m.1) c)

-- ---- the step

module _ (x : ℕ) (tops : Kinds) (e k : ℕ) (d : Disk) (t : Parts) (M : Seen) (A : Office) (knows : KnowsNode tops k d t M)
    (both : SeesBoth x tops A (up k d t M)) (h : SeesHeard x tops A (up k d t M)) where
  abbrev Heard_by : Did Coord → Type 0
  Heard_by did = (g : HasHeard (SeesHeard x) x tops Quietly A (going_of e k d t did, M)) × MayGoOn x g.office did.part

  module _ (u : Uid) (b : Branch) (q : Doing) (m : Machine) (found : branch_of u t.coord.tree ≡ Some b) (unended : b.ended ≡ None)
      (at_work : doing_of u t.coord ≡ Some q) (top : tops.is_top (uid_number u) ≡ true) (path : top_of (plan_of m).path ≡ u)
      (plan : SeesPlan x tops u m A)
      (may : is_voting m ≡ false → BeginsLater x A u (plan_of m)) where
    plan_now : (B : Office) → OnlyMemory A B → IsFixed tops B.world.disk → SeesPlan x tops u m B
    plan_now B only fixed = plan_stays x tops A B (fixed_in x tops A (up k d t M) both) fixed (memory_goes A B only) u
        (memory_stays tops A B only (tops.root (uid_number u))) m plan

    -- what is asked claims what it says once the step is done
    asks_then : (v : Coord) → IsAtCommit u m t.coord v → (n : ℕ) (c : Disk) (N : Seen) (B : Office) → OnlyMemory A B → SeesBoth x tops B
        (up k c (with_coord t v) N) → ClaimsAsked x B (Some (record { path = (plan_of m).path; req = (plan_of m).req }, ask_of m n))
    asks_then v at n c N B only now = by m refl
      where
        sees : SeesCoord x k c.inc tops v B.world.disk
        sees = let s = now.disks in s.coords k (record { number = k; disk = c; live = Some (with_coord t v) }) (with_coord t v)
            (node_here N k (record { number = k; disk = c; live = Some (with_coord t v) })) refl

        by : (z : Machine) → m ≡ z → ClaimsAsked x B (Some (record { path = (plan_of z).path; req = (plan_of z).req }, ask_of z n))
        by (Voting p left) is = tt
        by (Preparing p left) is = tt
        by (Confirming p) is = confirm_claims x tops u p B now.named (confirming_of x tops B.world.disk (uid_number u) b.kind at.doing.now
            p top (at.now ∙ ap Committing is) (sees.working u b at.doing (ap (branch_of u) at.tree ∙ found) unended at.at_work))
            (subst (λ y. SeesPlan x tops u y B) is (plan_now B only (fixed_in x tops B (up k c (with_coord t v) N) now)))
            (ap (λ y. top_of (plan_of y).path) (sym is) ∙ path)

    -- the commit goes on
    goes : (did : Did Coord) → IsAtCommit u m t.coord did.part →
        AllByRecursion (λ f. SaysThen x tops k (with_coord t did.part) A f) did.outs → Heard_by did
    goes did at says = (
      record {
        office = A;
        only = none_heard A;
        both = both;
        along = quiet_sends x tops k d t M A both h (with_coord t did.part)
            (λ N B only fixed more. at_commit x k tops N.sent u m t.coord did.part B at (plan_now B only fixed)
            (at_stays x tops A B (fixed_in x tops A (up k d t M) both) fixed (memory_goes A B only) k M.sent N.sent t.coord more
            (λ w own kind. memory_stays tops A B only (tops.root (uid_number w))) (mine x tops k d t M A both h)))
            e did.outs M refl refl says;
      },
      λ w z n does now past. ⊎_elim (λ old. old_goes_on x tops k d t M A knows both t.coord (λ y r s it is on. it) w z n old now past)
          (λ new. let same : m ≡ n = machine_is (sym new.1 ∙ now) in subst (λ y. BeginsLater x A y (plan_of n)) (sym new.0)
          (subst (λ y. BeginsLater x A u (plan_of y)) same (may (ap is_voting same ∙ past)))) (at.works w z does),
    )

    abbrev With : List Effect → List (ℕ × ℕ) → CommitStep → Type 0
    With first marks s = Heard_by (let z = moved_commit u (record { step = s; marks = marks }) d.intents t.coord in
        record { part = z.part; outs = first ++ z.outs })

    -- with lines before, and marks
    pub goes_step : (first : List Effect) (marks : List (ℕ × ℕ)) (step : CommitStep) →
        ((v : Parts) → AllByRecursion (λ f. SaysThen x tops k v A f) first) → (step ≡ Asks m) ⊎ (step ≡ Stays m) → With first marks step
    goes_step first marks step lines kind =
        ⊎_elim (λ is. subst (With first marks) (sym is) asked) (λ is. subst (With first marks) (sym is) stayed) kind
      where
        says : (v : Parts) (outs : List Effect) → AllByRecursion (λ f. SaysThen x tops k v A f) outs →
            AllByRecursion (λ f. SaysThen x tops k v A f) (first ++ (mark_lines u marks t.coord ++ outs))
        says v outs all = all_join (λ f. SaysThen x tops k v A f) first (mark_lines u marks t.coord ++ outs) (lines v)
            (all_join (λ f. SaysThen x tops k v A f) (mark_lines u marks t.coord) outs (marks_then x tops k v A u marks t.coord) all)

        asked : With first marks (Asks m)
        asked =
            let c : Coord = commits_in u m t.coord in
            let v : Coord = (asks_machine m c).part in
            goes (record { part = v; outs = first ++ (mark_lines u marks t.coord ++ (asks_machine m c).outs) })
            (asks_at u m t.coord q at_work)
            (says (with_coord t v) (asks_machine m c).outs
            (machine_by (λ f. SaysThen x tops k (with_coord t v) A f) (λ o. (z : Disk) (N : Seen) (B : Office) → OnlyMemory A B →
            SeesBoth x tops B (up k z (with_coord t v) N) → ClaimsAsked x B o) (λ to w none its. (none, its)) m c
            (asks_then v (asks_at u m t.coord q at_work))))

        stayed : With first marks (Stays m)
        stayed = goes (record { part = commits_in u m t.coord; outs = first ++ (mark_lines u marks t.coord ++ []) })
            (stays_at u m t.coord q at_work) (says (with_coord t (commits_in u m t.coord)) [] tt)
