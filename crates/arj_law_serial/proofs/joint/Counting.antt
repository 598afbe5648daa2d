-- What a commit has as changed was called in its top: the lock machine has such a call, which isn't undone.
use Rattle.arj_law_parts.proofs.Words
use Words.{arith, Option, length, ◌≡◌, ◌≤◌, ◌⊎◌, ◌||◌, ◌++◌, ℕ, List, [], ◌∷◌, Bool, true, false, None, Some, is_some, refl, sym, ◌∙◌, ap}
use Words.{subst, inl, inr, ⊎_elim, uid_is, in_find, in_to, End, ObjectState, Uid, first_uid, is_on, last_uid, object, uid_eq, uids_of}
use Words.{Confirming, Machine, Preparing, Voting, changed_of, plan_of, Committing, Coord, Doing, doing_of, root_at, branch_of, root_of}
use Words.list
use Rattle.arj_law_serial.proofs.Terms
use Terms.{paths_of, IsBusy, IsVoting, begun_tree, on_own, path_found, path_some, work_there, KnowsRun, node_here, Root, is_action, on}
use Terms.{root, top, Alive, Call, State, start_holds, above_top, by_cases, differ, on_root, top_action, top_of, start_values}
use Terms.{run_all_votes, start_votes, stage_of, SeesMachine, SeesRoot, root_there, Case, IsSeenIn, Spot, view_in, world_at, coord_at}
use Terms.{Fixed, SeesUp, steady}
use Rattle.arj_law_lock.proofs.machine.ValueClaims.{Values}
use Rattle.arj_law_lock.specs.machine.Actions.{Act, In, is_top}
use Rattle.arj_law_lock_view.specs.view.{Actions.IsSteady, Inputs.SeesWhole, Roots.IsSaid}
use Rattle.arj_law_parts.specs.parts.Trees.{HasLists}
use Rattle.arj_law_runs.proofs.calls.{WorldRuns.coord_at as good_at, WorldRuns.says_at, WorldVotes.on_first, WorldVotes.said_commit}
use Rattle.arj_law_runs.specs.calls.{Coords.IsCalledBy, Runs.Trees}

first_of : (us vs : List Uid) → 1 ≤ length us → first_uid (us ++ vs) ≡ first_uid us
first_of [] vs some = absurd (omega (arith, some))
first_of (u ∷ us) vs some = refl

not_ended : (o : Option End) → is_some o ≡ false → o ≡ None
not_ended None is = refl
not_ended (Some e) is = absurd (cc is)

-- an action of a path is of its front, or of what is behind
on_either : (us vs : List Uid) (w : Uid) → is_on (us ++ vs) w ≡ true → (is_on us w ≡ true) ⊎ (is_on vs w ≡ true)
on_either [] vs w o = inr o
on_either (y ∷ us) vs w o = by (uid_eq y w) o (on_either us vs w)
  where
    by : (b : Bool) → (b || is_on (us ++ vs) w) ≡ true → (is_on (us ++ vs) w ≡ true → (is_on us w ≡ true) ⊎ (is_on vs w ≡ true)) →
        ((b || is_on us w) ≡ true) ⊎ (is_on vs w ≡ true)
    by true k rest = inl refl
    by false k rest = rest k

module _ (c : Case) (s : Spot) (seen : IsSeenIn c (world_at s)) (known : KnowsRun (world_at s)) (u : Uid) (d : Doing) (k : Machine)
    (works : doing_of u (coord_at s) ≡ Some d) (now : d.now ≡ Committing k) where
  abbrev f : Fixed
  f = c.fixed

  abbrev S : State
  S = c.state

  abbrev C : Coord
  C = coord_at s

  here : (let M = world_at s in M.nodes) s.node ≡ Some (record { number = s.node; disk = s.disk; live = Some s.parts })
  here = node_here (let M = s.seen in M) s.node (record { number = s.node; disk = s.disk; live = Some s.parts })

  up_now : SeesUp (view_in c s.node) S s.disk s.parts
  up_now = let l = seen.sees in l.nodes s.node (record { number = s.node; disk = s.disk; live = Some s.parts }) here

  whole : SeesWhole f.act f.code c.x C S
  whole = up_now.coord

  good : IsSteady f.act f.paths C
  good = steady c s seen

  voting : IsVoting C.tree u (plan_of k)
  voting = subst (IsBusy C.tree u) now ((let g = good.good in g.busy) u d works)

  found : branch_of u C.tree ≡ Some (let a = voting.asking in a.branch)
  found = let a = voting.asking in a.found

  top_is : is_top (f.act u) ≡ true
  top_is = by k (whole.commits u d k works now)
    where
      by : (j : Machine) → SeesMachine c.x (f.act u) j S → is_top (f.act u) ≡ true
      by (Voting q left) y = (let a = y.0 in a.top)
      by (Preparing q left) y = (let a = y.0 in a.top)
      by (Confirming q) y = (let a = y.0 in a.top)

  -- the machine's top is at its commit
  pub at_commit : (S.action (f.act u)).stage ≡ 1
  at_commit = let a = (let z = whole.coord in z.actions) in
      let e = a.each u (let q = voting.asking in q.branch) d found works (top_action (f.act u) top_is) in e.stage
      ∙ (λ i. stage_of (not_ended (let q = voting.asking in let r = q.branch in r.ended) (let q = voting.asking in q.opened) i) (now i))

  values : Values S
  values = (let l = seen.sees in let r = run_all_votes l.run (start_holds f.first) (start_values f.first) (start_votes f.first) in r.1)

  -- ---- a call of the top that its root was answered

  module _ (a : IsCalledBy (let N = world_at s in N.sent) C (let p = plan_of k in uids_of p.path) c.x) where
    lists : HasLists f.paths C.tree
    lists = let g = good.good in let t = g.tree in t.lists

    branch_path : uids_of (let q = voting.asking in let e = q.branch in e.path) ≡ (let p = plan_of k in uids_of p.path)
    branch_path = ap uids_of (let q = voting.asking in q.path)

    top_path : f.paths u ≡ (let p = plan_of k in uids_of p.path)
    top_path = sym (lists.paths_are u (let q = voting.asking in q.branch) found) ∙ branch_path

    own : is_on (let p = plan_of k in uids_of p.path) u ≡ true
    own = ap (λ (vs : List Uid). is_on vs u) (sym branch_path) ∙ ap (is_on (uids_of (let q = voting.asking in let e = q.branch in e.path)))
        (sym (lists.places u (let q = voting.asking in q.branch) found)) ∙ on_own (let q = voting.asking in let e = q.branch in e.path)

    -- its root is seen
    root_seen : SeesRoot f.act c.x (root_of (let q = voting.asking in let e = q.branch in e.path))
        (root_at (root_of (let q = voting.asking in let e = q.branch in e.path)) C) C.tree S
    root_seen =
        let r = root_there f.act f.paths c.x C S.action good (let z = whole.coord in z.actions) u (let q = voting.asking in
        q.branch) found in
        let rt = root_of (let q = voting.asking in let e = q.branch in e.path) in
        let unit : root (f.act rt) ≡ root (f.act u) = sym (on_root (f.act u) (f.act rt) ((let l = good.alike in l.above) u rt ∙ r.2)) in
        let z = whole.coord in z.roots rt r.0 r.1 (ap first_uid (lists.paths_are rt r.0 r.1) ∙ (let l = good.alike in l.units) rt u unit
        ∙ ap first_uid (sym (lists.paths_are u (let q = voting.asking in q.branch) found)))

    same_root : first_uid ((let p = plan_of k in uids_of p.path) ++ a.rest) ≡ root_of (let q = voting.asking in let e = q.branch in e.path)
    same_root =
        first_of (let p = plan_of k in uids_of p.path) a.rest (path_some (let p = plan_of k in p.path)) ∙ ap first_uid (sym branch_path)

    said : IsSaid f.act (root_of (let q = voting.asking in let e = q.branch in e.path)) (let z = a.answered in z.said) C.tree S
    said = root_seen.said (let z = a.answered in z.said) (in_to (let z = a.answered in z.said) (let r = root_at
        (root_of (let q = voting.asking in let e = q.branch in e.path)) C in r.said) (subst (λ (v : Uid). list.In (let z = a.answered in
        z.said) (let r = root_at v C in r.said)) same_root (let z = a.answered in z.there))) (let z = a.answered in z.object)

    its_path : f.paths (last_uid (let z = a.answered in let y = z.said in y.path)) ≡ (let p = plan_of k in uids_of p.path) ++ a.rest
    its_path = sym (lists.paths_are (last_uid (let z = a.answered in let y = z.said in y.path)) said.branch said.there) ∙ said.path
        ∙ (let z = a.answered in z.path)

    on_path : (v : Uid) → on (f.act (last_uid (let z = a.answered in let y = z.said in y.path))) (f.act v)
        ≡ is_on ((let p = plan_of k in uids_of p.path) ++ a.rest) v
    on_path v = (let l = good.alike in l.above) (last_uid (let z = a.answered in let y = z.said in y.path)) v
        ∙ ap (λ (vs : List Uid). is_on vs v) its_path

    committed : (v : Uid) → is_on a.rest v ≡ true → is_action (f.act v) ≡ true → (S.action (f.act v)).stage ≡ 3
    committed v o act =
        let p : Trees known.0 =
        (paths_of known.0, begun_tree known.0 (let g = known.1 in g.begun), path_found known.0 (let g = known.1 in g.begun)) in
        let knows = known.2 p in
        let j = knows.nodes s.node (record { number = s.node; disk = s.disk; live = Some s.parts }) here in
        let z = said_commit known.0 p.0 p.1 (let N = world_at s in N.sent) knows.senders (let g = known.1 in g.fits) C (good_at known.0 p.0
        p.1 p.2 (world_at s) known.1 knows s.node (record { number = s.node; disk = s.disk; live = Some s.parts }) s.parts here refl)
        (j.coord s.parts refl) (let g = known.1 in g.senders) (says_at known.0 p.0 p.1 p.2 (world_at s) known.1 knows s.node
        (record { number = s.node; disk = s.disk; live = Some s.parts }) s.parts here refl) v (a.own v o) (a.merged v o) in
        let y = work_there C good.works v z.0 z.1 in
        let e = (let q = whole.coord in let r = q.actions in r.each) v z.0 y.0 z.1 y.1 act in
        e.stage ∙ ap (λ (o : Option End). stage_of o (let q = y.0 in q.now)) z.2

    alive : Alive S (f.act (last_uid (let z = a.answered in let y = z.said in y.path)))
    alive v o = by (by_cases (is_action v)) (by_cases (on (f.act u) v))
      where
        three : (n : ℕ) → n ≡ 1 → n ≤ 3
        three n e = omega (arith, e)

        at_most : (n : ℕ) → n ≡ 3 → n ≤ 3
        at_most n e = omega (arith, e)

        behind : is_action v ≡ true → on (f.act u) v ≡ false → (S.action v).stage ≤ 3
        behind act off =
            let g = (let l = good.alike in l.filled) (last_uid (let z = a.answered in let y = z.said in y.path)) v o act in
            let on_v = sym (on_path g.0) ∙ ap (on (f.act (last_uid (let z = a.answered in let y = z.said in y.path)))) (sym g.1) ∙ o in
            ⊎_elim
            (λ (front : is_on (let p = plan_of k in uids_of p.path) g.0 ≡ true). differ
            (ap (on (f.act u)) g.1 ∙ (let l = good.alike in l.above) u g.0 ∙ ap (λ (vs : List Uid). is_on vs g.0) top_path ∙ front) off)
            (λ (rest : is_on a.rest g.0 ≡ true).
            at_most (S.action v).stage (ap (λ (y : Act). (S.action y).stage) g.1 ∙ committed g.0 rest (ap is_action (sym g.1) ∙ act)))
            (on_either (let p = plan_of k in uids_of p.path) a.rest g.0 on_v)

        by : (is_action v ≡ true) ⊎ (is_action v ≡ false) → (on (f.act u) v ≡ true) ⊎ (on (f.act u) v ≡ false) → (S.action v).stage ≤ 3
        by (inr root') x = values.roots v root'
        by (inl act) (inl x) = ⊎_elim (λ (q : v ≡ f.act u). three (S.action v).stage (ap (λ (y : Act). (S.action y).stage) q ∙ at_commit))
            (λ (q : v ≡ Root (root (f.act u))). differ act (ap is_action q)) (above_top (f.act u) v top_is x)
        by (inl act) (inr x) = behind act x

    counted : (e : Call) × In e S.calls × (top e.act ≡ f.act u) × Alive S e.act
    counted = (
      said.call,
      said.called,
      ap top said.by ∙ top_of (f.act (last_uid (let z = a.answered in let y = z.said in y.path))) (f.act u) top_is
          (on_path u ∙ on_first (let p = plan_of k in uids_of p.path) a.rest u own),
      subst (Alive S) (sym said.by) alive,
    )

  -- so it is of what has changed
  pub changed_counted : (st : ObjectState) → changed_of c.x (plan_of k) ≡ Some st →
      (e : Call) × In e S.calls × (top e.act ≡ f.act u) × Alive S e.act
  changed_counted st is =
      let p : Trees known.0 =
      (paths_of known.0, begun_tree known.0 (let g = known.1 in g.begun), path_found known.0 (let g = known.1 in g.begun)) in
      let knows = known.2 p in
      let j = knows.nodes s.node (record { number = s.node; disk = s.disk; live = Some s.parts }) here in
      let l = j.coord s.parts refl in
      let z = l.plans u d k works now in
      let g = in_find (λ (o : ObjectState). uid_eq o.uid (object c.x)) st (let q = plan_of k in q.changed) is in
      counted (subst (λ (y : ℕ). IsCalledBy (let N = world_at s in N.sent) C (let q = plan_of k in uids_of q.path) y)
      (ap (λ (v : Uid). v.num) (uid_is st.uid (object c.x) g.1)) (z.changed st g.0))
