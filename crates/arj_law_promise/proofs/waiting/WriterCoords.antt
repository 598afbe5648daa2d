-- Who wrote what a coordinator has: through all that it does and hears, but for the decision of a commit.
use Rattle.arj_law_parts.proofs.Words
use Words.{◌≡◌, ◌∙◌, ◌++◌, ◌+◌, ℕ, zero, suc, Bool, true, false, cond, List, [], ◌∷◌, map, Option, Some, None, refl, sym, ap, subst, ⊎_elim}
use Words.{IfSome, nat_lt, ◌&&◌, AllByRecursion, list_any, uid_cases, Ask, End, Kind, Label, ObjectState, Op, Path, Uid, uids_of, Reply}
use Words.{actor, top_of, again_all, again_now, asks_all, asks_node, asks_step, begin_action, call, call_steps, commits_in, doomed_by}
use Words.{goes_on, granted_by, heard_call, include, is_ended, is_invoke_ask, keeps_after, kept_at, next_req, notes_grant, renewed}
use Words.{root_heard, root_lost, root_moved, step_call, store_of, Answered, CallEnd, CallStep, Changed, Conflict, Ended, Included, Lost}
use Words.{Moved, On, Steps, answered, has_changed, next_ask, next_node, spoils, start, Machine, Used, plan_of, waiting, Calling}
use Words.{Committing, Coord, Doing, Grant, Idle, Joined, Keeping, Now, Root, Said, Went, change_doing, doing_of, is_free, joined_with}
use Words.{joins_on, keeping_of, later_state, latest_of, loaded_for, no_root, objects_in, on_doing, on_root, or_kept_state, plan_for}
use Words.{root_at, same_join, same_said, same_went, set_doing, used_of, with_keeping, with_said, with_went, Intent, acked, acked_by}
use Words.{acked_left, all_aborted, ended, at_number, at_uid, has, unbound, without_number, Branch, Tree, at_place, doomed_at, ended_at}
use Words.{ends_of, is_own, root_of, uses_object}
use Words.ending
use Words.loaded
use Words.calls
use Rattle.arj_law_promise.proofs.Terms
use Terms.{doomed_same, all_at, all_put, keyed_found, all_filter, CoordIsBy, IsBy, NowIsBy, PlanIsBy, RootIsBy}
use Rattle.arj_law_disk_view.proofs.view.CallWalks.{EndIs, StepIs, lost_is, step_is}
use Rattle.arj_law_parts.proofs.parts
use parts.{GoodCoords.uses_same, GoodTrees.get_more}
use parts.Settled.{doing_other, doing_put, end_tree_on}

module _ (G : Uid → Type 0) where
  abbrev pub Is : ObjectState → Type 0
  Is st = IsBy G st

  abbrev pub So : Coord → Type 0
  So c = CoordIsBy G G c

  -- ---- a root

  pub root_so : (root : Uid) (c : Coord) → So c → RootIsBy G (root_at root c)
  root_so root c so = all_at (RootIsBy G) no_root (record { joined = tt; states = tt }) root.num c.roots so.roots

  went_so : (w : Went) (r : Root) → RootIsBy G r → RootIsBy G (with_went w r)
  went_so w r so = by (list_any (same_went w) r.went)
    where
      by : (b : Bool) → RootIsBy G (cond b r (record r { went = r.went ++ w ∷ [] }))
      by true = so
      by false = record { joined = so.joined; states = so.states }

  said_so : (s : Said) (r : Root) → RootIsBy G r → RootIsBy G (with_said s r)
  said_so s r so = by (list_any (same_said s) r.said)
    where
      by : (b : Bool) → RootIsBy G (cond b r (record r { said = r.said ++ s ∷ [] }))
      by true = so
      by false = record { joined = so.joined; states = so.states }

  later_so : (s t : ObjectState) → Is s → Is t → Is (later_state s t)
  later_so s t a b = by (nat_lt s.version t.version)
    where
      by : (x : Bool) → Is (cond x t s)
      by true = b
      by false = a

  abbrev Loads : Joined → Type 0
  Loads j = Is j.loaded

  joined_so : (j : Joined) (js : List Joined) → Loads j → AllByRecursion Loads js → AllByRecursion Loads (joined_with j js)
  joined_so j [] its all = (its, tt)
  joined_so j (i ∷ js) its all = by (same_join j i) (joined_so j js its all.1)
    where
      by : (b : Bool) → AllByRecursion Loads (joined_with j js) →
          AllByRecursion Loads (cond b (record i { loaded = later_state i.loaded j.loaded } ∷ js) (i ∷ joined_with j js))
      by true ih = (later_so i.loaded j.loaded all.0 its, all.1)
      by false ih = (all.0, ih)

  keep_so : (x : ℕ) (q : Keeping) (r : Root) → RootIsBy G r → RootIsBy G (with_keeping x q r)
  keep_so x q r so = record { joined = so.joined; states = so.states }

  heard_so : (s : Steps) (e : CallEnd) (r : Root) → EndIs Is e → RootIsBy G r → RootIsBy G (root_heard s e r)
  heard_so s (Answered a) r its so = said_so (record { path = uids_of s.path; x = s.x }) r so
  heard_so s (Included st) r its so = record {
    joined = joined_so (record { path = uids_of s.path; x = s.x; store = store_of s.goal; loaded = st }) r.joined its so.joined;
    states = so.states;
  }
  heard_so s (Conflict h m n) r its so = so
  heard_so s (Changed n w) r its so = so
  heard_so s (Lost n b) r its so = so

  granted_so : (o : Option Grant) (r : Root) → RootIsBy G r → RootIsBy G (notes_grant o r)
  granted_so None r so = so
  granted_so (Some g) r so = record { joined = so.joined; states = so.states }

  moved_so : (s : Steps) (r : Reply) (m : Moved) (q : Root) → RootIsBy G q → RootIsBy G (root_moved s r m q)
  moved_so s r m q so =
      let kept = keeping_of s.x q in
      keep_so s.x (keeps_after s.goal (has_changed m.step) m.kept kept) (notes_grant (granted_by (top_of s.path) s.x r) q)
      (granted_so (granted_by (top_of s.path) s.x r) q so)

  pub lost_so : (s : Steps) (t : CallStep) (q : Root) → RootIsBy G q → RootIsBy G (root_lost s t q)
  lost_so s t q so = let kept = keeping_of s.x q in keep_so s.x (keeps_after s.goal (is_ended t && spoils s.at) kept.kept kept) q so

  -- ---- from one coordinator to the next

  pub on_root_so : (root : Uid) (f : Root → Root) (c : Coord) → ((r : Root) → RootIsBy G r → RootIsBy G (f r)) → So c →
      So (on_root root f c)
  on_root_so root f c step so = record {
    works = so.works;
    roots = all_put (RootIsBy G) root.num (f (root_at root c)) c.roots (step (root_at root c) (root_so root c so)) so.roots;
  }

  pub on_do_so : (u : Uid) (f : Doing → Doing) (c : Coord) → ((d : Doing) → doing_of u c ≡ Some d → NowIsBy G u (f d).now) → So c →
      So (on_doing u f c)
  on_do_so u f c its so = by (doing_of u c) refl
    where
      some_is : (a b : Doing) → Some a ≡ Some b → a ≡ b
      some_is a b is = let e : ◌≡◌ {A = Option Doing} (Some a) (Some b) = is in cc

      by : (o : Option Doing) → doing_of u c ≡ o → So (change_doing f u c o)
      by None missing = so
      by (Some old) found = record {
        works = λ w d at. ⊎_elim (λ same. subst (λ v. NowIsBy G v d.now) (sym same) (subst (λ (q : Doing). NowIsBy G u q.now) (some_is (f
            old) d (sym (doing_put u (f old) old c found) ∙ ap (λ v. doing_of v (set_doing u (f old) c)) (sym same) ∙ at)) (its old found)))
            (λ other. so.works w d (sym (doing_other u w (f old) old c found other) ∙ at)) (uid_cases w u);
        roots = so.roots;
      }

  on_tree_so : (c : Coord) (v : Tree) → ((u : Uid) → is_own u v ≡ is_own u c.tree) → So c → So (record c { tree = v })
  on_tree_so c v own so = record { works = λ u d at. so.works u d (sym (same u) ∙ at); roots = so.roots }
    where
      same : (u : Uid) → doing_of u (record c { tree = v }) ≡ doing_of u c
      same u = λ i. cond (own u i) (at_place u.num c.doings) None

  idle_so : (u : Uid) (c : Coord) → So c → So (on_doing u (λ (d : Doing). record d { now = Idle }) c)
  idle_so u c so = on_do_so u (λ (d : Doing). record d { now = Idle }) c (λ d found. tt) so

  uses_so : (p : Path) (x : ℕ) (c : Coord) → So c → So (record c { tree = uses_object p x c.tree })
  uses_so p x c so = let same = uses_same p x c.tree in on_tree_so c (uses_object p x c.tree) same.own so

  doomed_so : (u : Uid) (c : Coord) → So c → So (record c { tree = doomed_at u c.tree })
  doomed_so u c so = let same = doomed_same u c.tree in on_tree_so c (doomed_at u c.tree) same.own so

  pub ended_so : (u : Uid) (e : End) (c : Coord) → So c → So (ended u e c)
  ended_so u e c so = let g = end_tree_on u e c in
      idle_so u (record c { tree = ended_at u e c.tree }) (on_tree_so c (ended_at u e c.tree) g.own so)

  pub all_so : (us : List Uid) (c : Coord) → So c → So (all_aborted us c).part
  all_so [] c so = so
  all_so (u ∷ us) c so = all_so us (ended u ending.Abort c) (ended_so u ending.Abort c so)

  -- ---- requests

  asks_so : (p : Path) (req : ℕ) (a : ℕ × Ask) (c : Coord) → So c → So (asks_node p req a c).part
  asks_so p req a c so = on_root_so (root_of p) (with_went (record { path = uids_of p; node = a.0; invoke = is_invoke_ask a.1 })) c
      (λ r s. went_so (record { path = uids_of p; node = a.0; invoke = is_invoke_ask a.1 }) r s) so

  pub asked_so : (p : Path) (req : ℕ) (asked : List (ℕ × Ask)) (c : Coord) → So c → So (asks_all p req asked c).part
  asked_so p req [] c so = so
  asked_so p req (a ∷ rest) c so = asked_so p req rest (asks_node p req a c).part (asks_so p req a c so)

  step_so : (s : Steps) (c : Coord) → So c → So (asks_step s c).part
  step_so s c so = asks_so s.path s.req (next_node s, next_ask (ends_of (root_of s.path) c.tree) s) c so

  goes_so : (s : Steps) (c : Coord) → So c → So (goes_on s c).part
  goes_so s c so = step_so s (on_doing (actor s.path) (λ (d : Doing). record d { req = s.req; now = Calling s }) c)
      (on_do_so (actor s.path) (λ (d : Doing). record d { req = s.req; now = Calling s }) c (λ d found. tt) so)

  pub call_so : (p : Path) (x : ℕ) (o : Op) (c : Coord) → So c → So (call p x o c).part
  call_so p x o c so =
      let r = root_at (root_of p) c in
      let old = keeping_of x r in
      let kept = renewed (is_free (root_of p) (actor p) x c) old old.kept in
      let u : Coord = record c { tree = uses_object p x c.tree } in
      goes_so (call_steps p x o (next_req (actor p) c) r c kept) (on_root (root_of p) (with_keeping x kept) u)
      (on_root_so (root_of p) (with_keeping x kept) u (λ q its. keep_so x kept q its) (uses_so p x c so))

  pub include_so : (p : Path) (x s : ℕ) (c : Coord) → So c → So (include p x s c).part
  include_so p x s c so = goes_so (start p x (calls.Include s) None unbound (next_req (actor p) c))
      (record c { tree = uses_object p x c.tree }) (uses_so p x c so)

  pub step_call_so : (s : Steps) (t : CallStep) (c : Coord) → So c → StepIs Is t → So (step_call s t c).part
  step_call_so s (On at) c so its = goes_so (record s { req = s.req + 1; at = at }) c so
  step_call_so s (Ended e) c so its = by e
    where
      i : Coord
      i = on_root (root_of s.path) (root_heard s e) (on_doing (actor s.path) (λ (d : Doing). record d { now = Idle }) c)

      so_far : So (on_root (root_of s.path) (root_heard s e) (on_doing (actor s.path) (λ (d : Doing). record d { now = Idle }) c))
      so_far = on_root_so (root_of s.path) (root_heard s e) (on_doing (actor s.path) (λ (d : Doing). record d { now = Idle }) c)
          (λ r q. heard_so s e r its q) (idle_so (actor s.path) c so)

      by : (g : CallEnd) → So (doomed_by (actor s.path) g
          (on_root (root_of s.path) (root_heard s e) (on_doing (actor s.path) (λ (d : Doing). record d { now = Idle }) c)))
      by (Answered a) = so_far
      by (Included st) = so_far
      by (Conflict h x n) = so_far
      by (Changed n w) = so_far
      by (Lost n false) = so_far
      by (Lost n true) = doomed_so (actor s.path) i so_far

  pub heard_call_so : (s : Steps) (r : Reply) (c : Coord) → So c → ((st : ObjectState) → r ≡ Reply.Loaded (loaded.State st) → Is st) →
      So (heard_call s r c).part
  heard_call_so s r c so loads =
      let m = answered (is_free (root_of s.path) (actor s.path) s.x c) (kept_at s c) s.goal s.at r in
      step_call_so s m.step (on_root (root_of s.path) (root_moved s r m) c) (on_root_so (root_of s.path) (root_moved s r m) c
      (moved_so s r m) so) (step_is Is (is_free (root_of s.path) (actor s.path) s.x c) (kept_at s c) s.goal s.at r loads)

  pub given_up_so : (s : Steps) (c : Coord) → So c →
      So (step_call s (calls.given_up s.at) (on_root (root_of s.path) (root_lost s (calls.given_up s.at)) c)).part
  given_up_so s c so = step_call_so s (calls.given_up s.at) (on_root (root_of s.path) (root_lost s (calls.given_up s.at)) c)
      (on_root_so (root_of s.path) (root_lost s (calls.given_up s.at)) c (lost_so s (calls.given_up s.at)) so) (lost_is Is s.at)

  -- ---- commits

  pub commits_so : (u : Uid) (m : Machine) (c : Coord) → So c → NowIsBy G u (Committing m) → So (commits_in u m c)
  commits_so u m c so its = on_do_so u (λ (d : Doing). record d { req = (plan_of m).req; now = Committing m }) c (λ d found. its) so

  -- what a plan loads
  latest_so : (o : Option ObjectState) (js : List Joined) → IfSome o Is → AllByRecursion Loads js → IfSome (latest_of o js) Is
  latest_so None [] its all = tt
  latest_so (Some s) [] its all = its
  latest_so None (j ∷ js) its all = latest_so (Some j.loaded) js all.0 all.1
  latest_so (Some s) (j ∷ js) its all = latest_so (Some (later_state s j.loaded)) js (later_so s j.loaded its all.0) all.1

  loads_from : (x : ℕ) (top : Uid) (r : Root) (c : Coord) → RootIsBy G r → IfSome (loaded_for x top r c) Is
  loads_from x top r c so = by (latest_of None (joins_on x top r c)) (at_number x r.states) refl
      (latest_so None (joins_on x top r c) tt (all_filter Loads _ r.joined so.joined))
    where
      by : (o s : Option ObjectState) → at_number x r.states ≡ s → IfSome o Is → IfSome (or_kept_state o s) Is
      by None s is its = tt
      by (Some st) None is its = its
      by (Some st) (Some t) is its = later_so st t its (keyed_found (λ (n : ℕ) (z : ObjectState). Is z) x r.states t so.states is)

  pub plan_so : (p : Path) (req : ℕ) (r : Root) (c : Coord) → RootIsBy G r → PlanIsBy G (actor p) (plan_for p req r c)
  plan_so p req r c so = record { top = refl; loaded = by (objects_in (actor p) r c); changed = tt }
    where
      by : (xs : List ℕ) → AllByRecursion (λ (u : Used). IfSome u.loaded Is) (map (used_of (actor p) r c) xs)
      by [] = tt
      by (x ∷ xs) = (loads_from x (actor p) r c so, by xs)

  -- ---- acknowledgements, ticks, and actions that begin

  pub acked_so : (from : ℕ) (u : Uid) (intents : List (Uid × Intent)) (c : Coord) → So c → So (acked from u intents c).part
  acked_so from u intents c so = by (at_uid u c.telling)
    where
      left : (i : Intent) (ns : List ℕ) → So (acked_left u i intents c ns).part
      left i [] = record { works = so.works; roots = so.roots }
      left i (m ∷ ms) = record { works = so.works; roots = so.roots }

      by : (o : Option Intent) → So (acked_by from u intents c o).part
      by None = so
      by (Some i) = one (has i.nodes from)
        where
          one : (b : Bool) →
              So (cond b (acked_left u i intents c (without_number from i.nodes)) (record { part = c; outs = []; reply = None })).part
          one true = left i (without_number from i.nodes)
          one false = so

  pub again_so : (ds : List Doing) (c : Coord) → So c → So (again_all ds c).part
  again_so [] c so = so
  again_so (d ∷ ds) c so = again_so ds (again_now c d.now).part (now d.now)
    where
      now : (n : Now) → So (again_now c n).part
      now Idle = so
      now (Calling s) = step_so s c so
      now (Committing m) = asked_so (plan_of m).path (plan_of m).req (waiting m) c so

  pub begins_so : (l : Label) (q : Kind) (parent : Option Label) (above : Option Branch) (c : Coord) → So c →
      So (begin_action l q parent above c).part
  begins_so l q parent above c so = record { works = λ u d at. was (is_own u c.tree) u u.num d at (λ f. so.works u d f); roots = so.roots }
    where
      fresh : Doing
      fresh = record { label = l; req = 0; now = Idle; took = [] }

      was : (b : Bool) (u : Uid) (j : ℕ) (d : Doing) → cond b (at_place j (c.doings ++ fresh ∷ [])) None ≡ Some d →
          (cond b (at_place j c.doings) None ≡ Some d → NowIsBy G u d.now) → NowIsBy G u d.now
      was true u zero d at f = let no_way : ◌≡◌ {A = Option Doing} None (Some d) = at in cc
      was true u (suc j) d at f =
          ⊎_elim (λ old. f old) (λ new. subst (λ (x : Doing). NowIsBy G u x.now) new.1 tt) (get_more j fresh d c.doings at)
      was false u j d at f = let no_way : ◌≡◌ {A = Option Doing} None (Some d) = at in cc
