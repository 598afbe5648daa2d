-- What a coordinator does: whom it asks, tells and lists.
use Rattle.arj_law_parts.proofs.Words
use Words.{◌≡◌, ◌∙◌, ◌+◌, ◌==◌, ℕ, List, [], ◌∷◌, ◌++◌, Bool, true, false, cond, not, ◌&&◌, ◌||◌, length, map, filter, nat_le}
use Words.{Option, Some, None, refl, sym, ap, subst, ⊎_elim, unwrap_or, AllByRecursion, flat_map, list_any}
use Words.{uid_cases, Ask, Asked, Body, End, Kind, Label, ObjectState, Op, Path, Uid, uids_of, Reply, actor, top_of}
use Words.{asks_all, asks_machine, asks_node, asks_step, call, call_steps}
use Words.{commits_in, doomed_by, end_line, given_away, goes_on, granted_by}
use Words.{heard_call, include, is_ended, is_invoke_ask, keeps_after, kept_at, known_at_start}
use Words.{mark_lines, moved_commit, next_req, notes_grant, renewed, root_heard, root_lost, root_moved, step_call, step_commit}
use Words.{store_of, was_named, Answered, CallEnd, CallStep, Changed, Conflict, Ended, Goal, Included}
use Words.{Known, Lost, Moved, On, Steps, answered, given_up, has_changed, next_ask, next_node, spoils, start, Aborts, Asks, CommitStep}
use Words.{Confirming, Decides, Machine, Plan, Preparing, Stays, Used, Voting, ask_of, begin_confirm, begin_prepare, begin_vote, changed_of}
use Words.{further, has_record, included_of, is_marked, joins_left, left_of, marks_store, marks_stores, naming_node}
use Words.{participants, plan_of, servers_of, stores_by, stores_left, targets_of, votes_left, with_states, Calling, Committing, Coord}
use Words.{Doing, Grant, Idle, Joined, Keeping, Root, Said, Went, change_doing, doing_of, is_called, is_free, joined_with, joins_on}
use Words.{keeping_of, kept_of, known_for, later_state, no_keeping, no_root, nodes_sent, nothing_known, objects_in, on_doing}
use Words.{on_root, plan_for, retains, root_at, same_join, same_said, same_went, servers_told, set_doing, used_of, used_with, with_keeping}
use Words.{with_said, with_went, Did, Do, Effect, Intent, PutIntent, abort_action}
use Words.{all_aborted, decide, decided_told, ended, ends_with, is_deferred}
use Words.{keeping_after, kept_after, root_after, say_for, says, tell, tell_all, tolds_by, tolds_of}
use Words.{tolds_of_branch, up_to, each, has, number_set, put_uid, unbound, with_number, without_number}
use Words.{Branch, Tree, at_place, branch_of, doomed_at}
use Words.{doomed_branch, ended_at, ended_branch, ends_of, family_of, is_own, open_below, root_of, set_place}
use Words.{marks_at, nat_lt, states_for, uses_object, with_family, with_mark, with_marks}
use Words.body
use Words.cause
use Words.confirmed
use Words.ending
use Words.kind
use Words.prepared
use Words.voted
use Words.calls
use Words.commit
use Rattle.arj_law_runs.proofs.Terms
use Terms.{doomed_same, uses_same, all_at, all_each, all_put as all_put_number, doing_other, doing_put, end_tree_on}
use Terms.{AllOf, AreOf, AskOf, CoordOf, KeptOf, KnownOf, MovedOf, PathOf, ReplyOf, StepOf, AnswersAt, IsThere, KeepsCalled}
use Rattle.arj_law_runs.proofs.addresses
use addresses.{Namings.listed_after}
use addresses.Calls.{answered_of, asks_of, node_of, request_of, start_of}
use addresses.Lists.{all_append, all_filter, all_flat, all_map, all_number, all_numbers, all_placed, all_put, all_set}
use Rattle.arj_law_runs.specs.addresses.Addresses.{CauseOf, EndOf, MachineOf, NowOf, PlanOf, RootOf, SaysOf, StepsOf, StoreOf}
use Rattle.arj_law_runs.specs.addresses.Addresses.{UsedOf}
use Rattle.arj_protocol.specs.{Coord.is_invoked_by, Coord.nodes_of}

module _ (G : ℕ → Type 0) (one : G 1) where
  -- ---- effects

  pub both : (es fs : List Effect) → AllOf G es → AllOf G fs → AllOf G (es ++ fs)
  both es fs a b = all_append _ es fs a b

  flat : {A : Type 0} (f : A → List Effect) (items : List A) → ((x : A) → AllOf G (f x)) → AllOf G (flat_map f items)
  flat f [] each = tt
  flat f (x ∷ xs) each = both (f x) (flat_map f xs) (each x) (flat f xs each)

  pub lines : (u : Uid) (f : Label → Body) (d : Coord) → ((l : Label) → SaysOf G (f l)) → AllOf G (says u f d)
  lines u f d each = by (doing_of u d)
    where
      by : (o : Option Doing) → AllOf G (say_for f o)
      by None = tt
      by (Some x) = (each x.label, tt)

  -- so is the line of a call's end
  end_is : (x : ℕ) (g : Goal) (e : CallEnd) (l : Label) → EndOf G g e → SaysOf G (end_line x g e l)
  end_is x (calls.Run o) (calls.Answered a) l its = tt
  end_is x (calls.Include s) (calls.Answered a) l its = its
  end_is x (calls.Run o) (calls.Included st) l its = absurd its
  end_is x (calls.Include s) (calls.Included st) l its = its
  end_is x g (calls.Conflict holder m n) l its = its
  end_is x g (calls.Changed n w) l its = its
  end_is x g (calls.Lost n sent) l its = its

  pub tells : (root : Uid) (ack : Bool) (ends : List (Uid × End)) (nodes : List ℕ) → AreOf G nodes → AllOf G (tell_all root ack ends nodes)
  tells root ack ends [] all = tt
  tells root ack ends (n ∷ ns) all = ((all.0, (tt, tt)), tells root ack ends ns all.1)

  -- ---- a root

  none_root : RootOf G no_root
  none_root = record { went = tt; joined = tt; keeping = tt }

  pub root_is : (root : Uid) (c : Coord) → CoordOf G c → RootOf G (root_at root c)
  root_is root c k = all_at (RootOf G) no_root none_root root.num c.roots k.roots

  kept_is : (x : ℕ) (r : Root) → RootOf G r → KeptOf G (kept_of x r)
  kept_is x r so = all_at (λ (q : Keeping). KeptOf G q.kept) no_keeping tt x r.keeping so.keeping

  nodes_is : (ws : List Went) → AllByRecursion (λ (w : Went). G w.node) ws → AreOf G (nodes_of ws)
  nodes_is ws all =
      all_numbers G (map (λ (w : Went). w.node) ws) (all_map (λ (w : Went). G w.node) G (λ (w : Went). w.node) ws (λ w s. s) all)

  sent_is : (u : Uid) (r : Root) → RootOf G r → AreOf G (nodes_sent u r)
  sent_is u r so = nodes_is (filter _ r.went) (all_filter (λ (w : Went). G w.node) _ r.went so.went)

  told_is : (u : Uid) (r : Root) (c : Coord) → RootOf G r → AreOf G (servers_told u r c)
  told_is u r c so = nodes_is (filter (is_invoked_by u c) r.went) (all_filter (λ (w : Went). G w.node) (is_invoked_by u c) r.went so.went)

  went_is : (w : Went) (r : Root) → G w.node → RootOf G r → RootOf G (with_went w r)
  went_is w r its so = by (list_any (same_went w) r.went)
    where
      by : (b : Bool) → RootOf G (cond b r (record r { went = r.went ++ w ∷ [] }))
      by true = so
      by false = record { went = all_append _ r.went (w ∷ []) so.went (its, tt); joined = so.joined; keeping = so.keeping }

  said_is : (s : Said) (r : Root) → RootOf G r → RootOf G (with_said s r)
  said_is s r so = by (list_any (same_said s) r.said)
    where
      by : (b : Bool) → RootOf G (cond b r (record r { said = r.said ++ s ∷ [] }))
      by true = so
      by false = record { went = so.went; joined = so.joined; keeping = so.keeping }

  joined_is : (j : Joined) (js : List Joined) → G j.store → AllByRecursion (λ (i : Joined). G i.store) js →
      AllByRecursion (λ (i : Joined). G i.store) (joined_with j js)
  joined_is j [] its all = (its, tt)
  joined_is j (i ∷ js) its all = by (same_join j i) (joined_is j js its all.1)
    where
      by : (b : Bool) → AllByRecursion (λ (h : Joined). G h.store) (joined_with j js) → AllByRecursion (λ (h : Joined). G h.store)
          (cond b (record i { loaded = later_state i.loaded j.loaded } ∷ js) (i ∷ joined_with j js))
      by true ih = all
      by false ih = (all.0, ih)

  keep_is : (x : ℕ) (k : Keeping) (r : Root) → KeptOf G k.kept → RootOf G r → RootOf G (with_keeping x k r)
  keep_is x k r its so = record {
    went = so.went;
    joined = so.joined;
    keeping = all_put_number (λ (q : Keeping). KeptOf G q.kept) x k r.keeping its so.keeping;
  }

  goal_store : (g : Goal) → StoreOf G g → G (store_of g)
  goal_store (calls.Run o) its = absurd its
  goal_store (calls.Include s) its = its

  heard_is : (s : Steps) (e : CallEnd) (r : Root) → EndOf G s.goal e → RootOf G r → RootOf G (root_heard s e r)
  heard_is s (Answered a) r its so = said_is (record { path = uids_of s.path; x = s.x }) r so
  heard_is s (Included st) r its so = record {
    went = so.went;
    joined = joined_is (record { path = uids_of s.path; x = s.x; store = store_of s.goal; loaded = st }) r.joined (goal_store s.goal its)
        so.joined;
    keeping = so.keeping;
  }
  heard_is s (Conflict h m n) r its so = so
  heard_is s (Changed n w) r its so = so
  heard_is s (Lost n b) r its so = so

  after_is : (g : Goal) (spoilt : Bool) (kept : Option Known) (k : Keeping) → KeptOf G kept → KeptOf G k.kept →
      KeptOf G (let q = keeps_after g spoilt kept k in q.kept)
  after_is (calls.Run o) spoilt kept k a b = a
  after_is (calls.Include s) spoilt kept k a b = b

  -- ---- from one coordinator to the next

  pub on_root_is : (root : Uid) (f : Root → Root) (c : Coord) → ((r : Root) → RootOf G r → RootOf G (f r)) → CoordOf G c →
      CoordOf G (on_root root f c)
  on_root_is root f c step k = record {
    node = k.node;
    paths = k.paths;
    works = k.works;
    roots = all_put_number (RootOf G) root.num (f (root_at root c)) c.roots (step (root_at root c) (root_is root c k)) k.roots;
    telling = k.telling;
  }

  on_do_is : (u : Uid) (f : Doing → Doing) (c : Coord) → ((d : Doing) → doing_of u c ≡ Some d → NowOf G (f d).now) → CoordOf G c →
      CoordOf G (on_doing u f c)
  on_do_is u f c so k = by (doing_of u c) refl
    where
      some_is : (a b : Doing) → Some a ≡ Some b → a ≡ b
      some_is a b is = let e : ◌≡◌ {A = Option Doing} (Some a) (Some b) = is in cc

      by : (o : Option Doing) → doing_of u c ≡ o → CoordOf G (change_doing f u c o)
      by None missing = k
      by (Some old) found = record {
        node = k.node;
        paths = k.paths;
        works = λ w d at. ⊎_elim (λ same. subst (λ (q : Doing). NowOf G q.now) (some_is (f old) d
            (sym (doing_put u (f old) old c found) ∙ ap (λ v. doing_of v (set_doing u (f old) c)) (sym same) ∙ at)) (so old found))
            (λ other. k.works w d (sym (doing_other u w (f old) old c found other) ∙ at)) (uid_cases w u);
        roots = k.roots;
        telling = k.telling;
      }

  on_tree_is : (c : Coord) (v : Tree) → ((u : Uid) → is_own u v ≡ is_own u c.tree) → v.node ≡ c.tree.node →
      AllByRecursion (λ (b : Branch). PathOf G b.path) v.branches → CoordOf G c → CoordOf G (record c { tree = v })
  on_tree_is c v own node paths k = record {
    node = subst G (sym node) k.node;
    paths = paths;
    works = λ u d at. k.works u d (sym (same u) ∙ at);
    roots = k.roots;
    telling = k.telling;
  }
    where
      same : (u : Uid) → doing_of u (record c { tree = v }) ≡ doing_of u c
      same u = λ i. cond (own u i) (at_place u.num c.doings) None

  idle_is : (u : Uid) (c : Coord) → CoordOf G c → CoordOf G (on_doing u (λ (d : Doing). record d { now = Idle }) c)
  idle_is u c k = on_do_is u (λ (d : Doing). record d { now = Idle }) c (λ d found. tt) k

  uses_is : (p : Path) (x : ℕ) (c : Coord) → CoordOf G c → CoordOf G (record c { tree = uses_object p x c.tree })
  uses_is p x c k = let same = uses_same p x c.tree in on_tree_is c (uses_object p x c.tree) same.own refl k.paths k

  branch_is : (u : Uid) (b : Branch) (c : Coord) → branch_of u c.tree ≡ Some b → CoordOf G c → PathOf G b.path
  branch_is u b c is k = by (is_own u c.tree) is
    where
      by : (o : Bool) → cond o (at_place u.num c.tree.branches) None ≡ Some b → PathOf G b.path
      by true at = all_placed (λ (q : Branch). PathOf G q.path) u.num c.tree.branches b k.paths at
      by false at = let no_way : ◌≡◌ {A = Option Branch} None (Some b) = at in cc

  doomed_is : (u : Uid) (c : Coord) → CoordOf G c → CoordOf G (record c { tree = doomed_at u c.tree })
  doomed_is u c k = let same = doomed_same u c.tree in
      on_tree_is c (doomed_at u c.tree) same.own (node_is (branch_of u c.tree)) (by (branch_of u c.tree) refl) k
    where
      node_is : (o : Option Branch) → (let t = doomed_branch u c.tree o in t.node) ≡ c.tree.node
      node_is None = refl
      node_is (Some b) = refl

      by : (o : Option Branch) → branch_of u c.tree ≡ o →
          AllByRecursion (λ (b : Branch). PathOf G b.path) (let t = doomed_branch u c.tree o in t.branches)
      by None is = k.paths
      by (Some b) is =
          all_set (λ (q : Branch). PathOf G q.path) u.num (record b { doomed = true }) c.tree.branches (branch_is u b c is k) k.paths

  ended_is : (u : Uid) (e : End) (c : Coord) → CoordOf G c → CoordOf G (ended u e c)
  ended_is u e c k = let g = end_tree_on u e c in idle_is u (record c { tree = ended_at u e c.tree })
      (on_tree_is c (ended_at u e c.tree) g.own (node_is (branch_of u c.tree)) (by (branch_of u c.tree) refl) k)
    where
      listed : Branch → Bool → Tree
      listed b s =
          let m : Tree = record c.tree { branches = set_place u.num (record b { ended = Some e }) c.tree.branches } in
          cond s m (with_family (root_of b.path) (let f = family_of (root_of b.path) m in record f { ends = f.ends ++ (u, e) ∷ [] }) m)

      node_by : (b : Branch) (s : Bool) → (listed b s).node ≡ c.tree.node
      node_by b true = refl
      node_by b false = refl

      node_is : (o : Option Branch) → (let t = ended_branch u e c.tree o in t.node) ≡ c.tree.node
      node_is None = refl
      node_is (Some b) = node_by b (nat_le (length (uids_of b.path)) 1)

      paths_by : (b : Branch) → PathOf G b.path → (s : Bool) → AllByRecursion (λ (q : Branch). PathOf G q.path) (listed b s).branches
      paths_by b its true = all_set (λ (q : Branch). PathOf G q.path) u.num (record b { ended = Some e }) c.tree.branches its k.paths
      paths_by b its false = all_set (λ (q : Branch). PathOf G q.path) u.num (record b { ended = Some e }) c.tree.branches its k.paths

      by : (o : Option Branch) → branch_of u c.tree ≡ o →
          AllByRecursion (λ (b : Branch). PathOf G b.path) (let t = ended_branch u e c.tree o in t.branches)
      by None is = k.paths
      by (Some b) is = paths_by b (branch_is u b c is k) (nat_le (length (uids_of b.path)) 1)

  -- ---- requests

  abbrev pub IsDone : Did Coord → Type 0
  IsDone d = CoordOf G d.part × AllOf G d.outs

  asks_is : (p : Path) (req : ℕ) (a : ℕ × Ask) (c : Coord) → CoordOf G c → PathOf G p → G a.0 → AskOf G a.1 → IsDone (asks_node p req a c)
  asks_is p req a c k path to so = (
    on_root_is (root_of p) (with_went (record { path = uids_of p; node = a.0; invoke = is_invoke_ask a.1 })) c
        (λ r s. went_is (record { path = uids_of p; node = a.0; invoke = is_invoke_ask a.1 }) r to s) k,
    ((to, request_of G one (record { path = p; req = req }) a.1 path so), tt),
  )

  -- ---- calls

  pub step_is : (s : Steps) (c : Coord) → CoordOf G c → StepsOf G s → IsDone (asks_step s c)
  step_is s c k so = asks_is s.path s.req (next_node s, next_ask (ends_of (root_of s.path) c.tree) s) c k so.path
      (node_of G one s.goal s.at so.at) (asks_of G one s.x s.goal (ends_of (root_of s.path) c.tree) s.at)

  goes_is : (s : Steps) (c : Coord) → CoordOf G c → StepsOf G s → IsDone (goes_on s c)
  goes_is s c k so = step_is s (on_doing (actor s.path) (λ (d : Doing). record d { req = s.req; now = Calling s }) c)
      (on_do_is (actor s.path) (λ (d : Doing). record d { req = s.req; now = Calling s }) c (λ d found. so) k) so

  known_is : (top : Uid) (x : ℕ) (r : Root) (c : Coord) (o : Option Known) → KeptOf G o → KeptOf G (known_at_start top x r c o)
  known_is top x r c None so = tt
  known_is top x r c (Some k) so = by (k.recorded && (was_named top x k.binding r || retains x r c))
    where
      by : (b : Bool) → KeptOf G (cond b (Some k) None)
      by true = so
      by false = tt

  renewed_is : (free : Bool) (k : Keeping) (o : Option Known) → KeptOf G k.kept → KeptOf G (let q = renewed free k o in q.kept)
  renewed_is free k None so = so
  renewed_is free k (Some old) so = by (free && k.spoiled)
    where
      by : (b : Bool) → KeptOf G (let q = cond b (given_away k old) k in q.kept)
      by true = tt
      by false = so

  pub call_is : (p : Path) (x : ℕ) (o : Op) (c : Coord) → PathOf G p → CoordOf G c → IsDone (call p x o c)
  call_is p x o c path k =
      let r = root_at (root_of p) c in
      let old = keeping_of x r in
      let kept = renewed (is_free (root_of p) (actor p) x c) old old.kept in
      let its = renewed_is (is_free (root_of p) (actor p) x c) old old.kept (kept_is x r (root_is (root_of p) c k)) in
      let u : Coord = record c { tree = uses_object p x c.tree } in
      goes_is (call_steps p x o (next_req (actor p) c) r c kept) (on_root (root_of p) (with_keeping x kept) u)
      (on_root_is (root_of p) (with_keeping x kept) u (λ q so. keep_is x kept q its so) (uses_is p x c k))
      (record {
        path = path;
        at = start_of G one (calls.Run o) (known_at_start (top_of p) x r c kept.kept) kept.avoid (known_is (top_of p) x r c kept.kept its);
        goal = tt;
      })

  pub include_is : (p : Path) (x s : ℕ) (c : Coord) → PathOf G p → G s → CoordOf G c → IsDone (include p x s c)
  include_is p x s c path store k = goes_is (start p x (calls.Include s) None unbound (next_req (actor p) c))
      (record c { tree = uses_object p x c.tree }) (uses_is p x c k) (record { path = path; at = tt; goal = store })

  pub step_call_is : (s : Steps) (t : CallStep) (c : Coord) → StepsOf G s → CoordOf G c → StepOf G s.goal t → IsDone (step_call s t c)
  step_call_is s (On at) c its k so =
      goes_is (record s { req = s.req + 1; at = at }) c k (record { path = its.path; at = so; goal = its.goal })
  step_call_is s (Ended e) c its k so = (by e, lines (actor s.path) (end_line s.x s.goal e) c (λ l. end_is s.x s.goal e l so))
    where
      i : Coord
      i = on_root (root_of s.path) (root_heard s e) (on_doing (actor s.path) (λ (d : Doing). record d { now = Idle }) c)

      so_far : CoordOf G (on_root (root_of s.path) (root_heard s e) (on_doing (actor s.path) (λ (d : Doing). record d { now = Idle }) c))
      so_far = on_root_is (root_of s.path) (root_heard s e) (on_doing (actor s.path) (λ (d : Doing). record d { now = Idle }) c)
          (λ r q. heard_is s e r so q) (idle_is (actor s.path) c k)

      by : (g : CallEnd) → CoordOf G (doomed_by (actor s.path) g
          (on_root (root_of s.path) (root_heard s e) (on_doing (actor s.path) (λ (d : Doing). record d { now = Idle }) c)))
      by (Answered a) = so_far
      by (Included st) = so_far
      by (Conflict h x n) = so_far
      by (Changed n w) = so_far
      by (Lost n false) = so_far
      by (Lost n true) = doomed_is (actor s.path) i so_far

  granted_is : (o : Option Grant) (r : Root) → RootOf G r → RootOf G (notes_grant o r)
  granted_is None r so = so
  granted_is (Some g) r so = record { went = so.went; joined = so.joined; keeping = so.keeping }

  moved_is : (s : Steps) (r : Reply) (m : Moved) → MovedOf G s.goal m → (q : Root) → RootOf G q → RootOf G (root_moved s r m q)
  moved_is s r m its q so =
      let k = keeping_of s.x q in
      keep_is s.x (keeps_after s.goal (has_changed m.step) m.kept k) (notes_grant (granted_by (top_of s.path) s.x r) q)
      (after_is s.goal (has_changed m.step) m.kept k its.1 (kept_is s.x q so)) (granted_is (granted_by (top_of s.path) s.x r) q so)

  pub heard_call_is : (s : Steps) (r : Reply) (c : Coord) → CoordOf G c → StepsOf G s → AnswersAt s.goal s.at r → ReplyOf G r →
      IsDone (heard_call s r c)
  heard_call_is s r c k so fits rs =
      let m = answered (is_free (root_of s.path) (actor s.path) s.x c) (kept_at s c) s.goal s.at r in
      let its = answered_of G one (is_free (root_of s.path) (actor s.path) s.x c) (kept_at s c) s.goal s.at r so.goal fits
      (kept_is s.x (root_at (root_of s.path) c) (root_is (root_of s.path) c k)) so.at rs in
      step_call_is s m.step (on_root (root_of s.path) (root_moved s r m) c) so
      (on_root_is (root_of s.path) (root_moved s r m) c (moved_is s r m its) k) its.0

  pub lost_is : (s : Steps) (t : CallStep) (q : Root) → RootOf G q → RootOf G (root_lost s t q)
  lost_is s t q so = let k = keeping_of s.x q in let kept = kept_is s.x q so in keep_is s.x
      (keeps_after s.goal (is_ended t && spoils s.at) k.kept k) q (after_is s.goal (is_ended t && spoils s.at) k.kept k kept kept) so

  -- ---- ends

  tolds_is : (intents : List (Uid × Intent)) (c : Coord) (u : Uid) → CoordOf G c → AllOf G (tolds_of intents c u)
  tolds_is intents c u k = by (branch_of u c.tree)
    where
      kinds : (q : Kind) (p : Path) → AllOf G (tolds_by u q p intents c)
      kinds kind.Nested p = tells (root_of p) false (up_to u (ends_of (root_of p) c.tree)) (servers_told u (root_at (root_of p) c) c)
          (told_is u (root_at (root_of p) c) c (root_is (root_of p) c k))
      kinds kind.Serial p = tells u false ((u, ending.Abort) ∷ []) (filter (λ n. not (is_deferred u intents n)) (nodes_sent u (root_at u
          c))) (all_filter G (λ n. not (is_deferred u intents n)) (nodes_sent u (root_at u c)) (sent_is u (root_at u c) (root_is u c k)))
      kinds kind.Top p = tells (root_of p) false ((u, ending.Abort) ∷ []) (nodes_sent u (root_at (root_of p) c))
          (sent_is u (root_at (root_of p) c) (root_is (root_of p) c k))
      kinds kind.Independent p = tells (root_of p) false ((u, ending.Abort) ∷ []) (nodes_sent u (root_at (root_of p) c))
          (sent_is u (root_at (root_of p) c) (root_is (root_of p) c k))
      kinds kind.Constituent p = tells (root_of p) false ((u, ending.Abort) ∷ []) (nodes_sent u (root_at (root_of p) c))
          (sent_is u (root_at (root_of p) c) (root_is (root_of p) c k))

      by : (b : Option Branch) → AllOf G (tolds_of_branch u intents c b)
      by None = tt
      by (Some b) = kinds b.kind b.path

  pub ends_is : (u : Uid) (e : End) (f : Label → Body) (intents : List (Uid × Intent)) (c : Coord) → CoordOf G c →
      ((l : Label) → SaysOf G (f l)) → IsDone (ends_with u e f intents c)
  ends_is u e f intents c k each = (
    ended_is u e c k,
    both (says u f c) (tolds_of intents (ended u e c) u) (lines u f c each) (tolds_is intents (ended u e c) u (ended_is u e c k)),
  )

  all_is : (us : List Uid) (c : Coord) → CoordOf G c → IsDone (all_aborted us c)
  all_is [] c k = (k, tt)
  all_is (u ∷ us) c k = let r = all_is us (ended u ending.Abort c) (ended_is u ending.Abort c k) in
      (r.0, both (says u (λ l. body.Aborted l cause.Asked) c) _ (lines u (λ l. body.Aborted l cause.Asked) c (λ l. tt)) r.1)

  pub abort_is : (u : Uid) (intents : List (Uid × Intent)) (c : Coord) → CoordOf G c → IsDone (abort_action u intents c)
  abort_is u intents c k =
      let us : List Uid = open_below u c.tree ++ u ∷ [] in
      let r = all_is us c k in
      let t = all_aborted us c in (
        r.0,
        both t.outs (flat_map (tolds_of intents t.part) us) r.1 (flat (tolds_of intents t.part) us (λ w. tolds_is intents t.part w r.0)),
      )

  -- ---- commits

  abbrev IsNext : CommitStep → Type 0
  IsNext (Stays m) = MachineOf G m
  IsNext (Asks m) = MachineOf G m
  IsNext (Decides q) = PlanOf G q
  IsNext (Aborts why q) = CauseOf G why

  further_is : (ns : List ℕ) (p : Plan) → AreOf G ns → PlanOf G p → PlanOf G (further ns p)
  further_is ns p all so = record {
    path = so.path;
    used = so.used;
    sent = all_numbers G (p.sent ++ ns) (all_append G p.sent ns so.sent all);
    prepared = so.prepared;
    excluded = so.excluded;
  }

  pub servers_is : (p : Plan) → PlanOf G p → AreOf G (servers_of p)
  servers_is p so = all_numbers G (map (λ (u : Used). u.server) (filter (λ (u : Used). u.called) p.used)) (called p.used so.used)
    where
      called : (us : List Used) → AllByRecursion (UsedOf G) us → AreOf G (map (λ (u : Used). u.server) (filter (λ (u : Used). u.called) us))
      called [] all = tt
      called (u ∷ us) all = by u.called refl (called us all.1)
        where
          by : (b : Bool) → u.called ≡ b → AreOf G (map (λ (v : Used). v.server) (filter (λ (v : Used). v.called) us)) →
              AreOf G (map (λ (v : Used). v.server) (cond b (u ∷ filter (λ (v : Used). v.called) us) (filter (λ (v : Used). v.called) us)))
          by true is ih = (all.0.0 is, ih)
          by false is ih = ih

  targets_is : (p : Plan) → PlanOf G p → AreOf G (targets_of p)
  targets_is p so = all_numbers G (flat_map (λ (u : Used). stores_by u (changed_of u.x p)) p.used)
      (all_flat (UsedOf G) G (λ (u : Used). stores_by u (changed_of u.x p)) p.used (λ u s. by u s (changed_of u.x p)) so.used)
    where
      by : (u : Used) → UsedOf G u → (o : Option ObjectState) → AreOf G (stores_by u o)
      by u s None = s.2
      by u s (Some st) = all_append G u.stores u.joins s.1 s.2

  included_is : (p : Plan) → PlanOf G p → AllByRecursion (λ (m : ℕ × ℕ). G m.1) (included_of p)
  included_is p so = all_flat (UsedOf G) (λ (m : ℕ × ℕ). G m.1) (joins_left p) p.used (λ u s. all_map G (λ (m : ℕ × ℕ). G m.1)
      _ (filter (λ n. not (is_marked u.x n p)) u.joins) (λ n q. q) (all_filter G (λ n. not (is_marked u.x n p)) u.joins s.2)) so.used

  confirm_step : (us : List Used) (q : Plan) → PlanOf G q → IsNext (begin_confirm us q)
  confirm_step [] q so = so
  confirm_step (u ∷ us) q so = (further_is (1 ∷ []) q (one, tt) so, (one, tt), (one, tt))

  prepare_step : (ns : List ℕ) (q : Plan) → AreOf G ns → PlanOf G q → IsNext (begin_prepare ns q)
  prepare_step [] q all so = confirm_step q.used q so
  prepare_step (n ∷ ns) q all so = (further_is (n ∷ ns) q all so, all, all)

  pub vote_step : (ns : List ℕ) (q : Plan) → AreOf G ns → PlanOf G q → IsNext (begin_vote ns q)
  vote_step [] q all so = prepare_step (targets_of q) q (targets_is q so) so
  vote_step (n ∷ ns) q all so = (further_is (n ∷ ns) q all so, all, (all.0, tt))

  stores_step : (ns : List ℕ) (q : Plan) → AreOf G ns → PlanOf G q → IsNext (let m = stores_left ns q in m.step)
  stores_step [] q all so = confirm_step q.used q so
  stores_step (n ∷ ns) q all so = (so, all, all)

  votes_step : (ns : List ℕ) (q : Plan) → AreOf G ns → PlanOf G q → IsNext (votes_left ns q)
  votes_step [] q all so = prepare_step (targets_of q) q (targets_is q so) so
  votes_step (n ∷ ns) q all so = (so, all, (all.0, tt))

  -- stores that are marked are such nodes
  abbrev AreMarked : List (ℕ × ℕ) → Type 0
  AreMarked ms = AllByRecursion (λ (m : ℕ × ℕ). G m.1) ms

  same_plan : (p q : Plan) → q.path ≡ p.path → q.used ≡ p.used → q.sent ≡ p.sent → q.prepared ≡ p.prepared →
      AreMarked q.excluded → PlanOf G p → PlanOf G q
  same_plan p q path used sent stores marks so = record {
    path = subst (PathOf G) (sym path) so.path;
    used = subst (AllByRecursion (UsedOf G)) (sym used) so.used;
    sent = subst (AreOf G) (sym sent) so.sent;
    prepared = subst (AreOf G) (sym stores) so.prepared;
    excluded = marks;
  }

  -- the store is marked
  mark_is : (n : ℕ) (q : Plan) → G n → PlanOf G q → PlanOf G (marks_store n q)
  mark_is n q its so =
      same_plan q (marks_store n q) refl refl refl refl (many (marks_at n q) q.excluded (there (states_for n q)) so.excluded) so
    where
      there : (ss : List ObjectState) → AreMarked (map {A = ObjectState} {B = ℕ × ℕ} (λ st. (st.uid.num, n)) ss)
      there [] = tt
      there (st ∷ ss) = (its, there ss)

      one_more : (m : ℕ × ℕ) (ms : List (ℕ × ℕ)) → G m.1 → AreMarked ms → AreMarked (with_mark m ms)
      one_more m [] new all = (new, tt)
      one_more m (k ∷ ks) new all = by (nat_lt k.0 m.0 || ((k.0 == m.0) && nat_lt k.1 m.1)) (one_more m ks new all.1)
        where
          by : (b : Bool) → AreMarked (with_mark m ks) → AreMarked (cond b (k ∷ with_mark m ks) (m ∷ k ∷ ks))
          by true rest = (all.0, rest)
          by false rest = (new, all)

      many : (ms all : List (ℕ × ℕ)) → AreMarked ms → AreMarked all → AreMarked (with_marks ms all)
      many [] all new old = old
      many (m ∷ ms) all new old = many ms (with_mark m all) new.1 (one_more m all new.0 old)

  marks_is : (ns : List ℕ) (q : Plan) → AreOf G ns → PlanOf G q → PlanOf G (marks_stores ns q)
  marks_is [] q all so = so
  marks_is (n ∷ ns) q all so = marks_is ns (marks_store n q) all.1 (mark_is n q all.0 so)

  pub without_is : (from : ℕ) (ns : List ℕ) → AreOf G ns → AreOf G (without_number from ns)
  without_is from ns all = all_filter G (λ m. not (m == from)) ns all

  pub answer_step : (from : ℕ) (m : Machine) (r : Reply) → G from → MachineOf G m → IsNext (commit.answered from m r).step
  answer_step from (Voting p left) (Reply.Voted (voted.Yes states)) its so =
      votes_step (without_number from left) (record p { changed = with_states states p.changed }) (without_is from left so.1)
      (same_plan p (record p { changed = with_states states p.changed }) refl refl refl refl (let q = so.0 in q.excluded) so.0)
  answer_step from (Voting p left) (Reply.Voted (voted.Changed w)) its so = its
  answer_step from (Preparing p left) (Reply.Prepared prepared.Yes) its so =
      stores_step (without_number from left) (record p { prepared = with_number from p.prepared }) (without_is from left so.1)
      (let q = so.0 in record {
        path = q.path;
        used = q.used;
        sent = q.sent;
        prepared = all_number G from p.prepared its q.prepared;
        excluded = q.excluded;
      })
  answer_step from (Preparing p left) (Reply.Prepared (prepared.InDoubt x h)) its so = stores_step (without_number from left)
      (marks_store from p) (without_is from left so.1) (mark_is from p its so.0)
  answer_step from (Preparing p left) (Reply.Prepared (prepared.Old x v)) its so = its
  answer_step from (Confirming p) (Reply.Confirmed confirmed.Yes) its so =
      same_plan p (record p { confirmed = true }) refl refl refl refl (let q = so.0 in q.excluded) so.0
  answer_step from (Confirming p) (Reply.Confirmed (confirmed.Conflict h m)) its so = one
  answer_step from (Confirming p) (Reply.Confirmed (confirmed.Changed w)) its so = one
  answer_step from (Confirming p) (Reply.Confirmed (confirmed.NoStores x)) its so = tt
  answer_step from (Confirming p) (Reply.Confirmed (confirmed.Listed x s)) its so = tt
  answer_step from (Voting p left) (Reply.Bound r) its so = so
  answer_step from (Voting p left) (Reply.Loaded r) its so = so
  answer_step from (Voting p left) (Reply.Activated r) its so = so
  answer_step from (Voting p left) (Reply.Noted r) its so = so
  answer_step from (Voting p left) (Reply.Invoked r) its so = so
  answer_step from (Voting p left) (Reply.Prepared r) its so = so
  answer_step from (Voting p left) (Reply.Confirmed r) its so = so
  answer_step from (Preparing p left) (Reply.Bound r) its so = so
  answer_step from (Preparing p left) (Reply.Loaded r) its so = so
  answer_step from (Preparing p left) (Reply.Activated r) its so = so
  answer_step from (Preparing p left) (Reply.Noted r) its so = so
  answer_step from (Preparing p left) (Reply.Invoked r) its so = so
  answer_step from (Preparing p left) (Reply.Voted r) its so = so
  answer_step from (Preparing p left) (Reply.Confirmed r) its so = so
  answer_step from (Confirming p) (Reply.Bound r) its so = so
  answer_step from (Confirming p) (Reply.Loaded r) its so = so
  answer_step from (Confirming p) (Reply.Activated r) its so = so
  answer_step from (Confirming p) (Reply.Noted r) its so = so
  answer_step from (Confirming p) (Reply.Invoked r) its so = so
  answer_step from (Confirming p) (Reply.Voted r) its so = so
  answer_step from (Confirming p) (Reply.Prepared r) its so = so

  pub giveup_step : (m : Machine) → MachineOf G m → IsNext (commit.given_up m).step
  giveup_step (Voting p left) so = so.2.0
  giveup_step (Preparing p left) so = stores_step [] (marks_stores left p) tt (marks_is left p so.1 so.0)
  giveup_step (Confirming p) so = one

  -- the stores of which a step says that they are excluded
  abbrev AreMarks : commit.Marked → Type 0
  AreMarks m = AreMarked m.marks

  left_marks : (ns : List ℕ) (q : Plan) → PlanOf G q → AreMarks (stores_left ns q)
  left_marks [] q so = so.excluded
  left_marks (n ∷ ns) q so = tt

  pub answer_marks : (from : ℕ) (m : Machine) (r : Reply) → G from → MachineOf G m → AreMarks (commit.answered from m r)
  answer_marks from (Preparing p left) (Reply.Prepared prepared.Yes) its so = left_marks (without_number from left)
      (record p { prepared = with_number from p.prepared }) (let q = so.0 in record {
        path = q.path;
        used = q.used;
        sent = q.sent;
        prepared = all_number G from p.prepared its q.prepared;
        excluded = q.excluded;
      })
  answer_marks from (Preparing p left) (Reply.Prepared (prepared.InDoubt x h)) its so =
      left_marks (without_number from left) (marks_store from p) (mark_is from p its so.0)
  answer_marks from (Preparing p left) (Reply.Prepared (prepared.Old x v)) its so = tt
  answer_marks from (Voting p left) (Reply.Voted (voted.Yes states)) its so = tt
  answer_marks from (Voting p left) (Reply.Voted (voted.Changed w)) its so = tt
  answer_marks from (Confirming p) (Reply.Confirmed r) its so = tt
  answer_marks from (Voting p left) (Reply.Bound r) its so = tt
  answer_marks from (Voting p left) (Reply.Loaded r) its so = tt
  answer_marks from (Voting p left) (Reply.Activated r) its so = tt
  answer_marks from (Voting p left) (Reply.Noted r) its so = tt
  answer_marks from (Voting p left) (Reply.Invoked r) its so = tt
  answer_marks from (Voting p left) (Reply.Prepared r) its so = tt
  answer_marks from (Voting p left) (Reply.Confirmed r) its so = tt
  answer_marks from (Preparing p left) (Reply.Bound r) its so = tt
  answer_marks from (Preparing p left) (Reply.Loaded r) its so = tt
  answer_marks from (Preparing p left) (Reply.Activated r) its so = tt
  answer_marks from (Preparing p left) (Reply.Noted r) its so = tt
  answer_marks from (Preparing p left) (Reply.Invoked r) its so = tt
  answer_marks from (Preparing p left) (Reply.Voted r) its so = tt
  answer_marks from (Preparing p left) (Reply.Confirmed r) its so = tt
  answer_marks from (Confirming p) (Reply.Bound r) its so = tt
  answer_marks from (Confirming p) (Reply.Loaded r) its so = tt
  answer_marks from (Confirming p) (Reply.Activated r) its so = tt
  answer_marks from (Confirming p) (Reply.Noted r) its so = tt
  answer_marks from (Confirming p) (Reply.Invoked r) its so = tt
  answer_marks from (Confirming p) (Reply.Voted r) its so = tt
  answer_marks from (Confirming p) (Reply.Prepared r) its so = tt

  pub giveup_marks : (m : Machine) → MachineOf G m → AreMarks (commit.given_up m)
  giveup_marks (Voting p left) so = tt
  giveup_marks (Preparing p left) so = left_marks [] (marks_stores left p) (marks_is left p so.1 so.0)
  giveup_marks (Confirming p) so = tt

  ask_is : (m : Machine) (n : ℕ) → MachineOf G m → AskOf G (ask_of m n)
  ask_is (Voting p left) n so = tt
  ask_is (Preparing p left) n so = tt
  ask_is (Confirming p) n so = included_is p so.0

  asked_is : (p : Path) (req : ℕ) (asked : List (ℕ × Ask)) (c : Coord) → PathOf G p → CoordOf G c →
      AllByRecursion (λ (a : ℕ × Ask). G a.0 × AskOf G a.1) asked → IsDone (asks_all p req asked c)
  asked_is p req [] c path k all = (k, tt)
  asked_is p req (a ∷ rest) c path k all =
      let first = asks_is p req a c k path all.0.0 all.0.1 in
      let r = asked_is p req rest (asks_node p req a c).part path first.0 all.1 in
      (r.0, both (asks_node p req a c).outs (asks_all p req rest (asks_node p req a c).part).outs first.1 r.1)

  pub machine_is : (m : Machine) (c : Coord) → CoordOf G c → MachineOf G m → IsDone (asks_machine m c)
  machine_is m c k so = asked_is (plan_of m).path (plan_of m).req (commit.waiting m) c so.0.path k (waits (left_of m) so.1)
    where
      waits : (ns : List ℕ) → AreOf G ns →
          AllByRecursion (λ (a : ℕ × Ask). G a.0 × AskOf G a.1) (map {A = ℕ} {B = ℕ × Ask} (λ n. (n, ask_of m n)) ns)
      waits [] all = tt
      waits (n ∷ ns) all = ((all.0, ask_is m n so), waits ns all.1)

  commits_is : (u : Uid) (m : Machine) (c : Coord) → CoordOf G c → MachineOf G m → CoordOf G (commits_in u m c)
  commits_is u m c k so = on_do_is u (λ (d : Doing). record d { req = (plan_of m).req; now = Committing m }) c (λ d found. so) k

  lists_is : (p : Plan) (r : Root) → PlanOf G p → RootOf G r → RootOf G (root_after p r)
  lists_is p r its so = record {
    went = so.went;
    joined = so.joined;
    keeping = all_each (λ (q : Keeping). KeptOf G q.kept) (keeping_after p) (λ x q s. by x q.kept s) r.keeping so.keeping;
  }
    where
      by : (x : ℕ) (o : Option Known) → KeptOf G o → KeptOf G (kept_after p x o)
      by x None s = tt
      by x (Some k) s = (s.0, listed_after G one x p.excluded (included_of p) k.stores (included_is p its) s.1)

  participants_is : (p : Plan) → PlanOf G p → AreOf G (participants p)
  participants_is p so = all_numbers G (servers_of p ++ p.prepared ++ naming_node p) (all_append G (servers_of p ++ p.prepared)
      (naming_node p) (all_append G (servers_of p) p.prepared (servers_is p so) so.prepared) (by p.confirmed))
    where
      by : (b : Bool) → AreOf G (cond b (1 ∷ []) [])
      by true = (one, tt)
      by false = tt

  decide_is : (p : Plan) (c : Coord) → PlanOf G p → CoordOf G c → IsDone (decide p c)
  decide_is p c so k = by (has_record p)
    where
      i : Intent
      i = record { root = root_of p.path; nodes = participants p }

      e : Coord
      e = ended (actor p.path) ending.Commit c

      took : Coord
      took = on_doing (actor p.path) (λ (d : Doing). record d { took = participants p }) e

      r : Coord
      r = on_root (root_of p.path) (root_after p) took

      ke : CoordOf G e
      ke = ended_is (actor p.path) ending.Commit c k

      kr : CoordOf G r
      kr = on_root_is (root_of p.path) (root_after p) took (λ q s. lists_is p q so s)
          (on_do_is (actor p.path) (λ (d : Doing). record d { took = participants p }) e (λ d found. ke.works (actor p.path) d found) ke)

      told : (ns : List ℕ) → AreOf G ns → AllOf G (map (decided_told (root_of p.path) (actor p.path) p) ns)
      told [] all = tt
      told (n ∷ ns) all = ((each_told (has (participants p) n)).0, told ns all.1)
        where
          each_told : (x : Bool) → AllOf G (cond x (tell (root_of p.path) (has_record p) ((actor p.path, ending.Commit) ∷ []) n)
              (tell (root_of p.path) false ((actor p.path, ending.Abort) ∷ []) n) ∷ [])
          each_told true = ((all.0, (tt, tt)), tt)
          each_told false = ((all.0, (tt, tt)), tt)

      work : (x : Bool) → AllOf G (cond x (Do (PutIntent (actor p.path) i) ∷ []) [])
      work true = (participants_is p so, tt)
      work false = tt

      outs : (w : Bool) → AllOf G (cond w (Do (PutIntent (actor p.path) i) ∷ []) [] ++ says (actor p.path) body.Committed c
          ++ map (decided_told (root_of p.path) (actor p.path) p) p.sent)
      outs w = both (cond w (Do (PutIntent (actor p.path) i) ∷ []) [] ++ says (actor p.path) body.Committed c)
          (map (decided_told (root_of p.path) (actor p.path) p) p.sent) (both (cond w (Do (PutIntent (actor p.path) i) ∷ []) [])
          (says (actor p.path) body.Committed c) (work w) (lines (actor p.path) body.Committed c (λ l. tt))) (told p.sent so.sent)

      by : (w : Bool) → IsDone (record {
        part = cond w (record r { telling = put_uid (actor p.path) i r.telling }) r;
        outs = cond w (Do (PutIntent (actor p.path) i) ∷ []) [] ++ says (actor p.path) body.Committed c
            ++ map (decided_told (root_of p.path) (actor p.path) p) p.sent;
      })
      by true = (
        record {
          node = kr.node;
          paths = kr.paths;
          works = kr.works;
          roots = kr.roots;
          telling = all_put (λ (x : Uid × Intent). AreOf G (let j = x.1 in j.nodes)) (actor p.path) i r.telling (λ w. participants_is p so)
              kr.telling;
        },
        outs true,
      )
      by false = (kr, outs false)

  step_commit_is : (u : Uid) (s : CommitStep) (intents : List (Uid × Intent)) (c : Coord) → CoordOf G c → IsNext s →
      IsDone (step_commit u s intents c)
  step_commit_is u (Stays m) intents c k so = (commits_is u m c k so, tt)
  step_commit_is u (Asks m) intents c k so = machine_is m (commits_in u m c) (commits_is u m c k so) so
  step_commit_is u (Decides p) intents c k so = decide_is p c so k
  step_commit_is u (Aborts why p) intents c k so = ends_is u ending.Abort (λ l. body.Aborted l why) intents c k (λ l. so)

  pub moved_commit_is : (u : Uid) (m : commit.Marked) (intents : List (Uid × Intent)) (c : Coord) → CoordOf G c → IsNext m.step →
      AreMarks m →
      IsDone (moved_commit u m intents c)
  moved_commit_is u m intents c k so marks =
      let t = step_commit u m.step intents c in
      let w = step_commit_is u m.step intents c k so in (
        w.0,
        both (mark_lines u m.marks c) t.outs (said m.marks marks) w.1,
      )
    where
      said : (ms : List (ℕ × ℕ)) → AllByRecursion (λ (x : ℕ × ℕ). G x.1) ms → AllOf G (mark_lines u ms c)
      said [] all = tt
      said (x ∷ ms) all = both (says u (λ l. body.Excluded l x.0 x.1) c) (mark_lines u ms c)
          (lines u (λ l. body.Excluded l x.0 x.1) c (λ l. all.0)) (said ms all.1)

  -- what a plan uses
  used_is : (top : Uid) (r : Root) (c : Coord) (x : ℕ) → KeepsCalled top r c → RootOf G r → UsedOf G (used_of top r c x)
  used_is top r c x keeps so = by (is_called x top r c) refl
    where
      kept : (o : Option Known) → IsThere o → KeptOf G o → KnownOf G (unwrap_or o nothing_known)
      kept None there s = absurd there
      kept (Some k) there s = s

      joins : AreOf G (number_set (map (λ (j : Joined). j.store) (joins_on x top r c)))
      joins = all_numbers G (map (λ (j : Joined). j.store) (joins_on x top r c)) (all_map (λ (j : Joined). G j.store) G
          (λ (j : Joined). j.store) (joins_on x top r c) (λ j s. s) (all_filter (λ (j : Joined). G j.store) _ r.joined so.joined))

      no_call : false ≡ true → G 0
      no_call is = let no_way : false ≡ true = is in cc

      by : (b : Bool) → is_called x top r c ≡ b → UsedOf G (used_with x b top r c (known_for b x r))
      by true is = let s = kept (kept_of x r) (keeps x is) (kept_is x r so) in ((λ called. s.0), s.1, joins)
      by false is = (no_call, tt, joins)

  pub plan_is : (p : Path) (req : ℕ) (r : Root) (c : Coord) → KeepsCalled (actor p) r c → PathOf G p → RootOf G r →
      PlanOf G (plan_for p req r c)
  plan_is p req r c keeps path so =
      record { path = path; used = by (objects_in (actor p) r c); sent = sent_is (actor p) r so; prepared = tt; excluded = tt }
    where
      by : (xs : List ℕ) → AllByRecursion (UsedOf G) (map (used_of (actor p) r c) xs)
      by [] = tt
      by (x ∷ xs) = (used_is (actor p) r c x keeps so, by xs)
