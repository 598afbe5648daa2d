-- What coordinators have of naming's answers, where an action begins, and where a node ticks.
use Rattle.arj_law_parts.proofs.Words
use Words.{◌≡◌, ◌≤◌, ℕ, zero, suc, ◌==◌, ◌&&◌, if◌then◌else◌, Bool, true, false, List, [], ◌∷◌, ◌++◌, Option, Some, None, refl, sym, ◌∙◌}
use Words.{ap, subst, inl, inr, ⊎_elim, map, cond, is_some, unwrap_or, AllByRecursion, list_any, Ask, End, Head, Kind, Label, Message, Path}
use Words.{Uid, asks, request, uids_of, answers, top_of, again_all, again_now, asks_all, asks_machine, asks_node, begin_action}
use Words.{is_invoke_ask, At, AtActivate, AtBind, AtInvoke, AtLoad, AtNote, Steps, ask_at, next_ask, next_node, Confirming, Machine}
use Words.{Preparing, Used, Voting, ask_of, left_of, plan_of, waiting, Calling, Committing, Coord, Doing, Idle, Now, Root, Went, doing_of}
use Words.{no_root, on_root, root_at, same_went, with_went, Disk, Effect, Send, tick_outs, Parts, holders, query_about, with_coord}
use Words.{at_number, put_number, uid_number, parent_of, tolds_again, at_place, branch_of, ends_of, is_own, root_of}
use Words.{put_same as put_number_same, put_other as put_number_other, request_reads_back, one_or_two, Post, Seen, is_serial}
use Words.ask
use Words.commit
use Words.list
use Rattle.arj_law_disk_view.proofs.Terms
use Terms.{HasPart, Office, has, never, some_is, test_is, test_same, given, up, SeesConfirming, KnowsNode, plan_at, plan_by, used_at, Kinds}
use Terms.{SeesCoord, HasGrant, SeesBoth, StandsOn, Quietly, Named, ClaimsAsked, ClaimsGrants, IsHadBy, SeesHeard, SeesHeardAt, SeesPlan}
use Terms.{SeesStep, HoldsAlong, HoldsFrom, going_of}
use Rattle.arj_law_disk_view.proofs.names.GrantClaims.{grants_are_counted_on}
use Rattle.arj_law_disk_view.proofs.running
use running.{HeardCoord.mine, HeardCoord.quiet_step, HeardQuiet.fixed_in}
use running.HeardLike.{IsLike, at_like, begin_like, went_to}
use running.HeardPosts.{SaysHeard, all_join, queries_say, tolds_say}
use running.HeardStays.{at_stays, memory_goes, memory_stays}
use Rattle.arj_law_disk_view.proofs.view.{DecideWalks.confirming_of, Frames.node_here}
use Rattle.arj_law_disk_view.specs.running.Part.{ticking}

-- ---- an action begins

pub heard_begin : (x : ℕ) (tops : Kinds) (e k : ℕ) (d : Disk) (t : Parts) (l : Label) (how : Kind) (parent : Option Label) (M : Seen)
    (A : Office) → SeesBoth x tops A (up k d t M) → SeesHeard x tops A (up k d t M)
    → HoldsAlong (HoldsFrom (SeesHeard x) x tops Quietly A) (going_of e k d t
    (begin_action l how parent (parent_of parent t.coord) t.coord)) (given l (record { node = k; serial = is_serial how }) M)
heard_begin x tops e k d t l how parent M A both p =
    let did = begin_action l how parent (parent_of parent t.coord) t.coord in
    quiet_step x tops k d t M A both p (with_coord t did.part)
    (λ N B only h more. at_like t.coord did.part (begin_like l how parent (parent_of parent t.coord) t.coord) x k tops N.sent B
    (at_stays x tops A B (fixed_in x tops A (up k d t M) both) h (memory_goes A B only) k M.sent N.sent t.coord more
    (λ u own kind. memory_stays tops A B only (tops.root (uid_number u))) (mine x tops k d t M A both p)))
    e did.outs (given l (record { node = k; serial = is_serial how }) M) refl refl (tt, tt)

-- ---- requests that are sent again

-- the same coordinator, but for the nodes to which something went
pub record IsSame (c e : Coord) : Type 0 where
  pub tree : e.tree ≡ c.tree
  pub works : (u : Uid) → doing_of u e ≡ doing_of u c
  pub roots : (u : Uid) → (w : List Went) × (root_at u e ≡ went_to w (root_at u c))

same_like : (c e : Coord) → IsSame c e → IsLike c e
same_like c e s = record {
  own = λ u. ap (λ z. is_own u z) s.tree;
  branches = λ w. inl (ap (branch_of w) s.tree);
  works = λ u q does. inl (sym (s.works u) ∙ does);
  roots = s.roots;
}

same_itself : (c : Coord) → IsSame c c
same_itself c = record { tree = refl; works = λ u. refl; roots = λ u. ((let r = root_at u c in r.went), refl) }

same_on : (c d e : Coord) → IsSame c d → IsSame d e → IsSame c e
same_on c d e a b = record {
  tree = b.tree ∙ a.tree;
  works = λ u. b.works u ∙ a.works u;
  roots = λ u. let r = b.roots u in let q = a.roots u in (r.0, r.1 ∙ ap (went_to r.0) q.1);
}

went_same : (root : Uid) (w : Went) (c : Coord) → IsSame c (on_root root (with_went w) c)
went_same root w c = record { tree = refl; works = λ u. refl; roots = roots }
  where
    one : (r : Root) (b : Bool) → (v : List Went) × (cond b r (record r { went = r.went ++ w ∷ [] }) ≡ went_to v r)
    one r true = (r.went, refl)
    one r false = (r.went ++ w ∷ [], refl)

    roots : (u : Uid) → (v : List Went) × (root_at u (on_root root (with_went w) c) ≡ went_to v (root_at u c))
    roots u = ⊎_elim
        (λ same. let o = one (root_at root c) (list_any (same_went w) (root_at root c).went) in (
          o.0,
          ap (λ n. unwrap_or (at_number n (put_number root.num (with_went w (root_at root c)) c.roots)) no_root) (sym same)
              ∙ (ap (λ z. unwrap_or z no_root) (put_number_same root.num (with_went w (root_at root c)) c.roots)
              ∙ (o.1 ∙ ap (λ n. went_to o.0 (unwrap_or (at_number n c.roots) no_root)) same)),
        ))
        (λ apart. (
          (root_at u c).went,
          ap (λ z. unwrap_or z no_root) (put_number_other root.num u.num (with_went w (root_at root c)) c.roots apart.0),
        )) (one_or_two root.num u.num)

pub asked_same : (p : Path) (req : ℕ) (requests : List (ℕ × Ask)) (c : Coord) → IsSame c (asks_all p req requests c).part
asked_same p req [] c = same_itself c
asked_same p req (a ∷ more) c =
    let d = asks_node p req a c in
    same_on c d.part (asks_all p req more d.part).part
    (went_same (root_of p) (record { path = uids_of p; node = a.0; invoke = is_invoke_ask a.1 }) c) (asked_same p req more d.part)

now_same : (c : Coord) (n : Now) → IsSame c (again_now c n).part
now_same c Idle = same_itself c
now_same c (Calling s) = let a = next_ask (ends_of (root_of s.path) c.tree) s in
    went_same (root_of s.path) (record { path = uids_of s.path; node = next_node s; invoke = is_invoke_ask a }) c
now_same c (Committing m) = asked_same (plan_of m).path (plan_of m).req (waiting m) c

again_same : (ds : List Doing) (c : Coord) → IsSame c (again_all ds c).part
again_same [] c = same_itself c
again_same (d ∷ ds) c = let t = again_now c d.now in same_on c t.part (again_all ds t.part).part (now_same c d.now) (again_same ds t.part)

-- ---- what they claim

-- a request is no answer
request_asks : (h : Head) (a : Ask) → answers (request h a) ≡ None
request_asks h (ask.Bind x i avoid) = refl
request_asks h (ask.Load x) = refl
request_asks h (ask.Activate b st) = refl
request_asks h (ask.Record x b i g) = refl
request_asks h (ask.Invoke x b i ends op) = refl
request_asks h (ask.Vote i ties ends) = refl
request_asks h (ask.Prepare states) = refl
request_asks h (ask.Confirm grants ex inc) = refl

-- requests say what they claim, whatever is said of a message that is sent
module _ (Q : Effect → Type 0) (C : Option (Head × Ask) → Type 0) (sends : (to : ℕ) (m : Message) → answers m ≡ None → C (asks m) →
    Q (Send to m)) where
  request_by : (p : Path) (req : ℕ) (a : ℕ × Ask) (c : Coord) → C (Some (record { path = p; req = req }, a.1)) →
      AllByRecursion Q (let d = asks_node p req a c in d.outs)
  request_by p req a c claims = let h : Head = record { path = p; req = req } in
      (sends a.0 (request h a.1) (request_asks h a.1) (subst C (sym (request_reads_back h a.1)) claims), tt)

  all_by : (p : Path) (req : ℕ) (requests : List (ℕ × Ask)) (c : Coord) → ((a : ℕ × Ask) → list.In a requests →
      C (Some (record { path = p; req = req }, a.1))) → AllByRecursion Q (let d = asks_all p req requests c in d.outs)
  all_by p req [] c each = tt
  all_by p req (a ∷ more) c each =
      let d = asks_node p req a c in
      all_join Q d.outs (let t = asks_all p req more d.part in
      t.outs) (request_by p req a c (each a (inl refl))) (all_by p req more d.part (λ b i. each b (inr i)))

  -- what a commit asks
  pub machine_by : (m : Machine) (c : Coord) → ((n : ℕ) → C (Some (record { path = (plan_of m).path; req = (plan_of m).req }, ask_of m n)))
      → AllByRecursion Q (let d = asks_machine m c in d.outs)
  machine_by m c claims = all_by (plan_of m).path (plan_of m).req (waiting m) c (λ a i. this a (mapped (left_of m) a i))
    where
      mapped : (ns : List ℕ) (a : ℕ × Ask) → list.In a (map {A = ℕ} {B = ℕ × Ask} (λ n. (n, ask_of m n)) ns) →
          (n : ℕ) × ((n, ask_of m n) ≡ a)
      mapped [] a i = absurd i
      mapped (n ∷ ns) a (inl same) = (n, same)
      mapped (n ∷ ns) a (inr more) = mapped ns a more

      this : (a : ℕ × Ask) → (n : ℕ) × ((n, ask_of m n) ≡ a) → C (Some (record { path = (plan_of m).path; req = (plan_of m).req }, a.1))
      this a (n, same) = subst (λ (b : ℕ × Ask). C (Some (record { path = (plan_of m).path; req = (plan_of m).req }, b.1))) same (claims n)

module _ (x i k : ℕ) (sent : List Post) (A : Office) where
  abbrev Q : Effect → Type 0
  Q e = SaysHeard x i A e

  -- a request says what it claims
  pub request_says : (p : Path) (req : ℕ) (a : ℕ × Ask) (c : Coord) → ClaimsAsked x A (Some (record { path = p; req = req }, a.1)) →
      AllByRecursion Q (let d = asks_node p req a c in d.outs)
  request_says p req a c claims = request_by Q (ClaimsAsked x A) (λ to m none its. (none, its)) p req a c claims

  -- of a step, where it stands on what its top took
  pub step_claims : (s : Steps) (ends : List (Uid × End)) → (s.x ≡ x → SeesStep x k sent s A.names) →
      ClaimsAsked x A (Some (record { path = s.path; req = s.req }, next_ask ends s))
  step_claims s ends sees = by s.at refl
    where
      by : (at : At) → s.at ≡ at → ClaimsAsked x A (Some (record { path = s.path; req = s.req }, ask_at s.x s.goal ends at))
      by (AtBind avoid) is = tt
      by (AtLoad q n rest) is = tt
      by (AtActivate q st) is = tt
      by (AtNote q j) is = λ of. let z = sees of in subst (λ at. StandsOn (uid_number (top_of s.path)) A.names at) is z.stands q.grant refl
      by (AtInvoke q j) is = tt

  -- what a commit asks
  pub machine_says : (m : Machine) (c : Coord) → ((p : commit.Plan) → m ≡ Confirming p →
      ClaimsAsked x A (Some (record { path = (plan_of m).path; req = (plan_of m).req }, commit.confirm_ask p))) →
      AllByRecursion Q (let d = asks_machine m c in d.outs)
  machine_says m c confirms = machine_by Q (ClaimsAsked x A) (λ to z none its. (none, its)) m c (λ n. each m n confirms)
    where
      each : (z : Machine) (n : ℕ) → ((p : commit.Plan) → z ≡ Confirming p →
          ClaimsAsked x A (Some (record { path = (plan_of z).path; req = (plan_of z).req }, commit.confirm_ask p))) →
          ClaimsAsked x A (Some (record { path = (plan_of z).path; req = (plan_of z).req }, ask_of z n))
      each (Voting p left) n all = tt
      each (Preparing p left) n all = tt
      each (Confirming p) n all = all p refl

-- the grant of what a plan uses is named
named_grant : (x : ℕ) (us : List Used) (w : Used) → used_at x us ≡ Some w →
    HasGrant x w.grant (map {A = Used} {B = ℕ × ℕ} (λ u. (u.x, u.grant)) us)
named_grant x [] w at = absurd (cc at)
named_grant x (u ∷ us) w at = by (u.x == x) refl at (named_grant x us w)
  where
    by : (b : Bool) → (u.x == x) ≡ b → cond b (Some u) (used_at x us) ≡ Some w → (used_at x us ≡ Some w → HasGrant x w.grant (map
        {A = Used} {B = ℕ × ℕ} (λ u. (u.x, u.grant)) us)) → HasGrant x w.grant (map {A = Used} {B = ℕ × ℕ} (λ u. (u.x, u.grant)) (u ∷ us))
    by true is h rest = let same : u ≡ w = some_is refl h in inl (λ i. (test_is u.x x is i, ap (λ (z : Used). z.grant) same i))
    by false is h rest = inr (rest h)

-- a Confirm of a commit that waits for naming names its grants
pub confirm_claims : (x : ℕ) (tops : Kinds) (u : Uid) (p : commit.Plan) (A : Office) → Named A →
    SeesConfirming x A.world.disk (uid_number u) p → SeesPlan x tops u (Confirming p) A → top_of p.path ≡ u →
    ClaimsAsked x A (Some (record { path = p.path; req = p.req }, commit.confirm_ask p))
confirm_claims x tops u p A named sees plan top =
    subst (λ w. ClaimsGrants x A (uid_number w) (map {A = Used} {B = ℕ × ℕ} (λ u. (u.x, u.grant)) p.used)) (sym top) (
      sees.begun,
      grants_are_counted_on x (uid_number u) (map {A = Used} {B = ℕ × ℕ} (λ u. (u.x, u.grant)) p.used) A named
          (λ part i had. by (used_at x p.used) refl (subst HasPart sees.plan part) i had),
    )
  where
    by : (o : Option Used) → used_at x p.used ≡ o → HasPart (plan_at x p) → (i : ℕ) → IsHadBy A (uid_number u) i →
        (g : ℕ) × HasGrant x g (map {A = Used} {B = ℕ × ℕ} (λ u. (u.x, u.grant)) p.used) × (g ≤ i)
    by None at (inl wrote) i had = absurd (never wrote (ap (λ o. is_some (let q = plan_by o (commit.changed_of x p) in q.writes)) at))
    by None at (inr (s, on)) i had = absurd (never on (ap (λ o. has s (let q = plan_by o (commit.changed_of x p) in q.joins)) at))
    by (Some w) at part i had = (w.grant, named_grant x p.used w at, plan.grants w i at had)

-- ---- a tick

pub heard_tick : (x : ℕ) (tops : Kinds) (e k : ℕ) (d : Disk) (t : Parts) (M : Seen) (A : Office) → KnowsNode tops k d t M → SeesBoth x tops
    A (up k d t M) → SeesHeard x tops A (up k d t M) → HoldsAlong (HoldsFrom (SeesHeard x) x tops Quietly A) (ticking e k d t) M
heard_tick x tops e k d t M A knows both p =
    let again = again_all t.coord.doings t.coord in
    quiet_step x tops k d t M A both p (with_coord t again.part)
    (λ N B only h more. at_like t.coord again.part (same_like t.coord again.part (again_same t.coord.doings t.coord)) x k tops N.sent B
    (at_stays x tops A B (fixed_in x tops A (up k d t M) both) h (memory_goes A B only) k M.sent N.sent t.coord more
    (λ u own kind. memory_stays tops A B only (tops.root (uid_number u))) here_now))
    e (tick_outs (record { number = k; disk = d; live = Some t }) t) M refl refl
    (all_join IsSaid (again.outs ++ tolds_again t.coord.telling) (map query_about (holders d t))
    (all_join IsSaid again.outs (tolds_again t.coord.telling) (again_says t.coord.doings t.coord (λ q i. placed t.coord.doings q i))
    (tolds_say x d.inc A t.coord.telling)) (queries_say x d.inc A (holders d t)))
  where
    IsSaid : Effect → Type 0
    IsSaid f = SaysHeard x d.inc A f

    here_now : SeesHeardAt x k tops M.sent t.coord A
    here_now = mine x tops k d t M A both p

    sees : SeesCoord x k d.inc tops t.coord A.world.disk
    sees = let s = both.disks in
        s.coords k (record { number = k; disk = d; live = Some t }) t (node_here M k (record { number = k; disk = d; live = Some t })) refl

    -- who is at work stands at a place
    placed : (ds : List Doing) (q : Doing) → list.In q ds → (n : ℕ) × (at_place n ds ≡ Some q)
    placed [] q i = absurd i
    placed (d ∷ ds) q (inl same) = (1, ap Some same)
    placed (d ∷ ds) q (inr more) = let z = placed ds q more in after z.0 z.1
      where
        after : (n : ℕ) → at_place n ds ≡ Some q → (m : ℕ) × (at_place m (d ∷ ds) ≡ Some q)
        after zero at = absurd (cc at)
        after (suc n) at = (suc (suc n), at)

    uid : ℕ → Uid
    uid n = record { node = t.coord.tree.node; inc = t.coord.tree.inc; num = n }

    does_at : (n : ℕ) (q : Doing) → at_place n t.coord.doings ≡ Some q → doing_of (uid n) t.coord ≡ Some q
    does_at n q at = (λ i. if test_same t.coord.tree.node i && test_same t.coord.tree.inc i then at_place n t.coord.doings else None) ∙ at

    again_says : (ds : List Doing) (c : Coord) → ((q : Doing) → list.In q ds → (n : ℕ) × (at_place n t.coord.doings ≡ Some q)) →
        AllByRecursion IsSaid (let r = again_all ds c in r.outs)
    again_says [] c there = tt
    again_says (q ∷ ds) c there =
        let r = again_now c q.now in
        let z = there q (inl refl) in
        all_join IsSaid r.outs (let s = again_all ds r.part in
        s.outs) (by (uid z.0) q (does_at z.0 q z.1) q.now refl) (again_says ds r.part (λ y i. there y (inr i)))
      where
        by : (u : Uid) (q : Doing) → doing_of u t.coord ≡ Some q → (n : Now) → q.now ≡ n →
            AllByRecursion IsSaid (let r = again_now c n in r.outs)
        by u q does Idle is = tt
        by u q does (Calling s) is = let ends = ends_of (root_of s.path) c.tree in
            request_says x d.inc k M.sent A s.path s.req (next_node s, next_ask ends s) c
            (step_claims x d.inc k M.sent A s ends (λ of. here_now.steps u q s does is of))
        by u q does (Committing m) is = machine_says x d.inc k M.sent A m c (λ p same.
            let z = let w = knows.coord in w.machines u q (Confirming p) does (is ∙ ap Committing same) in
            let now : q.now ≡ Committing (Confirming p) = is ∙ ap Committing same in
            subst (λ y. ClaimsAsked x A (Some (record { path = (plan_of y).path; req = (plan_of y).req }, commit.confirm_ask p))) (sym same)
            (confirm_claims x tops u p A both.named (confirming_of x tops A.world.disk (uid_number u) z.branch.kind q.now p z.top now
            (sees.working u z.branch q z.found z.unended does)) (here_now.plans u q (Confirming p) does now) (let y = z.plan in
            y.top_is)))
