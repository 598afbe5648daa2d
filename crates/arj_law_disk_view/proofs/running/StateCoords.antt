-- What a coordinator does with states: those that it has, sends and notes are of the form that came.
use Rattle.arj_law_parts.proofs.Words
use Words.{Bool, List, None, Option, Some, [], ap, cond, eqb-true, false, filter, find, map, nat_lt, not, refl, subst}
use Words.{sym, true, ℕ, ⊎_elim, ◌&&◌, ◌++◌, ◌+◌, ◌==◌, ◌||◌, ◌∙◌, ◌∷◌, ◌≡◌, ⊤, IfSome, AllByRecursion, flat_map, list_any, uid_cases}
use Words.{Ask, Asked, Binding, Body, BoundReply, End, Head, InvokedReply, Kind as ActionKind, Label, LoadedReply, ObjectState}
use Words.{Op, Path, RecordedReply, Uid, last_uid, object, request, uid_eq, uids_of, Reply, actor, top_of, asks_all}
use Words.{asks_machine, asks_node, asks_step, call, call_steps, commits_in}
use Words.{doomed_by, end_line, goes_on, granted_by, heard_call}
use Words.{include, is_ended, is_invoke_ask, keeps_after, kept_at, mark_lines, moved_commit}
use Words.{next_req, notes_grant, renewed, root_heard, root_lost, root_moved, step_call, step_commit, store_of}
use Words.{known_at_start, Answered, At, AtActivate, AtBind, AtInvoke, AtLoad, AtNote, CallEnd, CallStep, Changed}
use Words.{Conflict, Ended, Goal, Included, Known, Lost, Moved, On, Steps, activated_by, answered, ask_at, bound_answer, bound_by, finds}
use Words.{given_up, has_changed, invoked_answer, live_known, load_from, loaded_answer, made_by, made_known, moves, named_again, next_ask}
use Words.{next_node, or_lost, other_binding, recorded_answer, same_binding, spoils, start, start_at, two_bindings, two_incs, with_inc}
use Words.{write_known, Aborts, Asks, CommitStep, Confirming, Decides, Machine, Plan, Preparing, Stays, Used, Voting, ask_of, begin_confirm}
use Words.{begin_prepare, begin_vote, changed_of, has_record, left_of, marks_store, marks_stores, participants, plan_of}
use Words.{state_by, state_for, states_for, stores_left, targets_of, votes_left, with_state, with_states, Calling, Committing}
use Words.{Coord, Doing, Grant, Idle, Joined, Keeping, Root, Said, Went, change_doing, doing_of, is_free, joined_with, joins_on}
use Words.{keeping_of, later_state, latest_of, loaded_for, no_root, nodes_sent, objects_in, on_doing, on_root, or_kept_state, plan_for}
use Words.{root_at, same_join, same_said, same_went, servers_told, set_doing, used_of, with_keeping, with_said, with_went, Did, Do, Effect}
use Words.{Intent, PutIntent, abort_action, all_aborted, decide, decided_told, ended, ends_with, is_deferred}
use Words.{root_after, say_for, says, states_after, tell, tell_all, tolds_by, tolds_of, tolds_of_branch, up_to, at_number, binding_eq}
use Words.{binding_less, has, put_number, put_uid, unbound, with_number, without_number}
use Words.{Branch, Tree, at_place, branch_of, doomed_at, ended_at, ends_of, is_own, open_below, root_of, uses_object, and_parts}
use Words.ask
use Words.body
use Words.bound
use Words.cause
use Words.confirmed
use Words.ending
use Words.invoked
use Words.kind
use Words.loaded
use Words.prepared
use Words.recorded
use Words.voted
use Words.calls
use Words.commit
use Rattle.arj_law_disk_view.proofs.Terms
use Terms.{doomed_same, uses_same, all_put as all_put_number, doing_other, doing_put, end_tree_on, all_append, AllSay, CoordIsSo}
use Terms.{Fits, MayKeep, NowIsSo}
use Rattle.arj_law_disk_view.specs.running
use running.States.{AskIsSo, AtIsSo, EndIsSo, MessageIsSo, Own, OwnOf, PlanIsSo, ReplyIsSo, RootIsSo, StepIsSo}
use Rattle.arj_law_parts.proofs.parts
use parts.LivesNamed.{all_at, keyed_found, keyed_put}
use Rattle.arj_law_runs.proofs.addresses.Lists.{all_some}

module _ (F : Fits) (keep : MayKeep F) where
  abbrev V : ObjectState → Type 0
  V st = Own F.voted st

  abbrev Q : ObjectState → Type 0
  Q st = Own F.kept st

  -- a state of this object
  abbrev Of : ℕ → ObjectState → Type 0
  Of x st = OwnOf F.kept x st

  -- ---- effects

  pub both : (es fs : List Effect) → AllSay F es → AllSay F fs → AllSay F (es ++ fs)
  both es fs a b = all_append _ es fs a b

  pub flat : {A : Type 0} (f : A → List Effect) (items : List A) → ((x : A) → AllSay F (f x)) → AllSay F (flat_map f items)
  flat f [] each = tt
  flat f (x ∷ xs) each = both (f x) (flat_map f xs) (each x) (flat f xs each)

  pub lines : (u : Uid) (f : Label → Body) (d : Coord) → AllSay F (says u f d)
  lines u f d = by (doing_of u d)
    where
      by : (o : Option Doing) → AllSay F (say_for f o)
      by None = tt
      by (Some x) = (tt, tt)

  pub tells : (root : Uid) (ack : Bool) (ends : List (Uid × End)) (nodes : List ℕ) → AllSay F (tell_all root ack ends nodes)
  tells root ack ends [] = tt
  tells root ack ends (n ∷ ns) = ((tt, tt), tells root ack ends ns)

  -- ---- a root

  none_root : RootIsSo F no_root
  none_root = record { joined = tt; states = tt }

  pub root_so : (root : Uid) (c : Coord) → CoordIsSo F c → RootIsSo F (root_at root c)
  root_so root c so = all_at (RootIsSo F) no_root none_root root.num c.roots so.roots

  went_so : (w : Went) (r : Root) → RootIsSo F r → RootIsSo F (with_went w r)
  went_so w r so = by (list_any (same_went w) r.went)
    where
      by : (b : Bool) → RootIsSo F (cond b r (record r { went = r.went ++ w ∷ [] }))
      by true = so
      by false = record { joined = so.joined; states = so.states }

  said_so : (s : Said) (r : Root) → RootIsSo F r → RootIsSo F (with_said s r)
  said_so s r so = by (list_any (same_said s) r.said)
    where
      by : (b : Bool) → RootIsSo F (cond b r (record r { said = r.said ++ s ∷ [] }))
      by true = so
      by false = record { joined = so.joined; states = so.states }

  later_so : (y : ℕ) (s t : ObjectState) → Of y s → Of y t → Of y (later_state s t)
  later_so y s t a b = by (nat_lt s.version t.version)
    where
      by : (x : Bool) → Of y (cond x t s)
      by true = b
      by false = a

  joined_so : (j : Joined) (js : List Joined) → Of j.x j.loaded → AllByRecursion (λ (i : Joined). Of i.x i.loaded) js →
      AllByRecursion (λ (i : Joined). Of i.x i.loaded) (joined_with j js)
  joined_so j [] its all = (its, tt)
  joined_so j (i ∷ js) its all = by (same_join j i) refl (joined_so j js its all.1)
    where
      by : (b : Bool) → same_join j i ≡ b → AllByRecursion (λ (h : Joined). Of h.x h.loaded) (joined_with j js) → AllByRecursion
          (λ (h : Joined). Of h.x h.loaded) (cond b (record i { loaded = later_state i.loaded j.loaded } ∷ js) (i ∷ joined_with j js))
      by true same ih =
          let two = (and_parts (uid_eq (last_uid j.path) (last_uid i.path)) ((j.x == i.x) && (j.store == i.store)) same).1 in
          let x_is : j.x ≡ i.x = eqb-true j.x i.x (and_parts (j.x == i.x) (j.store == i.store) two).0 in
          (later_so i.x i.loaded j.loaded all.0 (subst (λ y. Of y j.loaded) x_is its), all.1)
      by false apart ih = (all.0, ih)

  keep_so : (x : ℕ) (q : Keeping) (r : Root) → RootIsSo F r → RootIsSo F (with_keeping x q r)
  keep_so x q r so = record { joined = so.joined; states = so.states }

  heard_so : (s : Steps) (e : CallEnd) (r : Root) → EndIsSo F s.x e → RootIsSo F r → RootIsSo F (root_heard s e r)
  heard_so s (Answered a) r its so = said_so (record { path = uids_of s.path; x = s.x }) r so
  heard_so s (Included st) r its so = record {
    joined = joined_so (record { path = uids_of s.path; x = s.x; store = store_of s.goal; loaded = st }) r.joined
        (keep.loaded st.uid st its.0, its.1) so.joined;
    states = so.states;
  }
  heard_so s (Conflict h m n) r its so = so
  heard_so s (Changed n w) r its so = so
  heard_so s (Lost n b) r its so = so

  granted_so : (o : Option Grant) (r : Root) → RootIsSo F r → RootIsSo F (notes_grant o r)
  granted_so None r so = so
  granted_so (Some g) r so = record { joined = so.joined; states = so.states }

  moved_so : (s : Steps) (r : Reply) (m : Moved) (q : Root) → RootIsSo F q → RootIsSo F (root_moved s r m q)
  moved_so s r m q so =
      let kept = keeping_of s.x q in
      keep_so s.x (keeps_after s.goal (has_changed m.step) m.kept kept) (notes_grant (granted_by (top_of s.path) s.x r) q)
      (granted_so (granted_by (top_of s.path) s.x r) q so)

  pub lost_so : (s : Steps) (t : CallStep) (q : Root) → RootIsSo F q → RootIsSo F (root_lost s t q)
  lost_so s t q so = let kept = keeping_of s.x q in keep_so s.x (keeps_after s.goal (is_ended t && spoils s.at) kept.kept kept) q so

  -- ---- from one coordinator to the next

  pub on_root_so : (root : Uid) (f : Root → Root) (c : Coord) → ((r : Root) → RootIsSo F r → RootIsSo F (f r)) → CoordIsSo F c →
      CoordIsSo F (on_root root f c)
  on_root_so root f c step so = record {
    works = so.works;
    roots = all_put_number (RootIsSo F) root.num (f (root_at root c)) c.roots (step (root_at root c) (root_so root c so)) so.roots;
  }

  on_do_so : (u : Uid) (f : Doing → Doing) (c : Coord) → ((d : Doing) → doing_of u c ≡ Some d → NowIsSo F (f d).now) → CoordIsSo F c →
      CoordIsSo F (on_doing u f c)
  on_do_so u f c its so = by (doing_of u c) refl
    where
      some_is : (a b : Doing) → Some a ≡ Some b → a ≡ b
      some_is a b is = let e : ◌≡◌ {A = Option Doing} (Some a) (Some b) = is in cc

      by : (o : Option Doing) → doing_of u c ≡ o → CoordIsSo F (change_doing f u c o)
      by None missing = so
      by (Some old) found = record {
        works = λ w d at. ⊎_elim (λ same. subst (λ (q : Doing). NowIsSo F q.now) (some_is (f old) d
            (sym (doing_put u (f old) old c found) ∙ ap (λ v. doing_of v (set_doing u (f old) c)) (sym same) ∙ at)) (its old found))
            (λ other. so.works w d (sym (doing_other u w (f old) old c found other) ∙ at)) (uid_cases w u);
        roots = so.roots;
      }

  on_tree_so : (c : Coord) (v : Tree) → ((u : Uid) → is_own u v ≡ is_own u c.tree) → CoordIsSo F c → CoordIsSo F (record c { tree = v })
  on_tree_so c v own so = record { works = λ u d at. so.works u d (sym (same u) ∙ at); roots = so.roots }
    where
      same : (u : Uid) → doing_of u (record c { tree = v }) ≡ doing_of u c
      same u = λ i. cond (own u i) (at_place u.num c.doings) None

  idle_so : (u : Uid) (c : Coord) → CoordIsSo F c → CoordIsSo F (on_doing u (λ (d : Doing). record d { now = Idle }) c)
  idle_so u c so = on_do_so u (λ (d : Doing). record d { now = Idle }) c (λ d found. tt) so

  uses_so : (p : Path) (x : ℕ) (c : Coord) → CoordIsSo F c → CoordIsSo F (record c { tree = uses_object p x c.tree })
  uses_so p x c so = let same = uses_same p x c.tree in on_tree_so c (uses_object p x c.tree) same.own so

  doomed_so : (u : Uid) (c : Coord) → CoordIsSo F c → CoordIsSo F (record c { tree = doomed_at u c.tree })
  doomed_so u c so = let same = doomed_same u c.tree in on_tree_so c (doomed_at u c.tree) same.own so

  ended_so : (u : Uid) (e : End) (c : Coord) → CoordIsSo F c → CoordIsSo F (ended u e c)
  ended_so u e c so = let g = end_tree_on u e c in
      idle_so u (record c { tree = ended_at u e c.tree }) (on_tree_so c (ended_at u e c.tree) g.own so)

  -- ---- requests

  abbrev pub IsDone : Did Coord → Type 0
  IsDone d = CoordIsSo F d.part × AllSay F d.outs

  request_so : (h : Head) (a : Ask) → AskIsSo F a → MessageIsSo F (request h a)
  request_so h (ask.Bind x i avoid) its = (its, tt)
  request_so h (ask.Load x) its = (its, tt)
  request_so h (ask.Activate b st) its = (its, tt)
  request_so h (ask.Record x b i g) its = (its, tt)
  request_so h (ask.Invoke x b i ends o) its = (its, tt)
  request_so h (ask.Vote i ties ends) its = (its, tt)
  request_so h (ask.Prepare states) its = (its, tt)
  request_so h (ask.Confirm g e i) its = (its, tt)

  asks_so : (p : Path) (req : ℕ) (a : ℕ × Ask) (c : Coord) → CoordIsSo F c → AskIsSo F a.1 → IsDone (asks_node p req a c)
  asks_so p req a c so its = (
    on_root_so (root_of p) (with_went (record { path = uids_of p; node = a.0; invoke = is_invoke_ask a.1 })) c
        (λ r s. went_so (record { path = uids_of p; node = a.0; invoke = is_invoke_ask a.1 }) r s) so,
    (request_so (record { path = p; req = req }) a.1 its, tt),
  )

  -- ---- calls

  asked_at : (x : ℕ) (g : Goal) (ends : List (Uid × End)) (at : At) → AtIsSo F x at → AskIsSo F (ask_at x g ends at)
  asked_at x g ends (AtBind avoid) its = tt
  asked_at x g ends (AtLoad q n rest) its = tt
  asked_at x g ends (AtActivate q st) its = its.0
  asked_at x g ends (AtNote q i) its = tt
  asked_at x g ends (AtInvoke q i) its = tt

  pub step_so : (s : Steps) (c : Coord) → CoordIsSo F c → AtIsSo F s.x s.at → IsDone (asks_step s c)
  step_so s c so its = asks_so s.path s.req (next_node s, next_ask (ends_of (root_of s.path) c.tree) s) c so
      (asked_at s.x s.goal (ends_of (root_of s.path) c.tree) s.at its)

  goes_so : (s : Steps) (c : Coord) → CoordIsSo F c → AtIsSo F s.x s.at → IsDone (goes_on s c)
  goes_so s c so its = step_so s (on_doing (actor s.path) (λ (d : Doing). record d { req = s.req; now = Calling s }) c)
      (on_do_so (actor s.path) (λ (d : Doing). record d { req = s.req; now = Calling s }) c (λ d found. its) so) its

  start_so : (x : ℕ) (o : Option Known) (avoid : Binding) → AtIsSo F x (start_at o avoid)
  start_so x None avoid = tt
  start_so x (Some q) avoid = tt

  pub call_so : (p : Path) (x : ℕ) (o : Op) (c : Coord) → CoordIsSo F c → IsDone (call p x o c)
  call_so p x o c so =
      let r = root_at (root_of p) c in
      let old = keeping_of x r in
      let kept = renewed (is_free (root_of p) (actor p) x c) old old.kept in
      let u : Coord = record c { tree = uses_object p x c.tree } in
      goes_so (call_steps p x o (next_req (actor p) c) r c kept) (on_root (root_of p) (with_keeping x kept) u)
      (on_root_so (root_of p) (with_keeping x kept) u (λ q its. keep_so x kept q its) (uses_so p x c so))
      (start_so x (known_at_start (top_of p) x r c kept.kept) kept.avoid)

  pub include_so : (p : Path) (x s : ℕ) (c : Coord) → CoordIsSo F c → IsDone (include p x s c)
  include_so p x s c so = goes_so (start p x (calls.Include s) None unbound (next_req (actor p) c))
      (record c { tree = uses_object p x c.tree }) (uses_so p x c so) tt

  pub step_call_so : (s : Steps) (t : CallStep) (c : Coord) → CoordIsSo F c → StepIsSo F s.x t → IsDone (step_call s t c)
  step_call_so s (On at) c so its = goes_so (record s { req = s.req + 1; at = at }) c so its
  step_call_so s (Ended e) c so its = (by e, lines (actor s.path) (end_line s.x s.goal e) c)
    where
      i : Coord
      i = on_root (root_of s.path) (root_heard s e) (on_doing (actor s.path) (λ (d : Doing). record d { now = Idle }) c)

      so_far : CoordIsSo F (on_root (root_of s.path) (root_heard s e) (on_doing (actor s.path) (λ (d : Doing). record d { now = Idle }) c))
      so_far = on_root_so (root_of s.path) (root_heard s e) (on_doing (actor s.path) (λ (d : Doing). record d { now = Idle }) c)
          (λ r q. heard_so s e r its q) (idle_so (actor s.path) c so)

      by : (g : CallEnd) → CoordIsSo F (doomed_by (actor s.path) g
          (on_root (root_of s.path) (root_heard s e) (on_doing (actor s.path) (λ (d : Doing). record d { now = Idle }) c)))
      by (Answered a) = so_far
      by (Included st) = so_far
      by (Conflict h x n) = so_far
      by (Changed n w) = so_far
      by (Lost n false) = so_far
      by (Lost n true) = doomed_so (actor s.path) i so_far

  -- ---- answers to calls

  abbrev MovedIsSo : ℕ → Moved → Type 0
  MovedIsSo y m = StepIsSo F y m.step

  -- an answer to a step about this object
  abbrev AnswersFor : ℕ → Reply → Type 0
  AnswersFor y (Reply.Loaded (loaded.State st)) = OwnOf F.loaded y st
  AnswersFor y _ = ⊤

  pub answers_for : (y : ℕ) (r : Reply) → ReplyIsSo F r → ((st : ObjectState) → r ≡ Reply.Loaded (loaded.State st) → st.uid.num ≡ y) →
      AnswersFor y r
  answers_for y (Reply.Loaded (loaded.State st)) rs of = (rs, of st refl)
  answers_for y (Reply.Loaded (loaded.InDoubt holder)) rs of = tt
  answers_for y (Reply.Bound r) rs of = tt
  answers_for y (Reply.Activated i) rs of = tt
  answers_for y (Reply.Noted r) rs of = tt
  answers_for y (Reply.Invoked r) rs of = tt
  answers_for y (Reply.Voted r) rs of = tt
  answers_for y (Reply.Prepared r) rs of = tt
  answers_for y (Reply.Confirmed r) rs of = tt

  with_so : (y : ℕ) (i : ℕ) (kept : Known) (at : At) (o : Option ℕ) → AtIsSo F y at → MovedIsSo y (with_inc i kept at o)
  with_so y i kept at None its = its
  with_so y i kept at (Some first) its = by (first == i)
    where
      by : (b : Bool) → MovedIsSo y (cond b (moves (Some kept) at) (finds (Some kept) (Changed kept.server (two_incs first i))))
      by true = its
      by false = tt

  bound_by_so : (y : ℕ) (free : Bool) (q : Known) (at : At) (kept : Option Known) → AtIsSo F y at → MovedIsSo y (bound_by free q at kept)
  bound_by_so y free q at None its = its
  bound_by_so y free q at (Some old) its = by (binding_eq old.binding q.binding)
    where
      same : (o : Option ℕ) → MovedIsSo y (same_binding old q at o)
      same None = its
      same (Some i) = with_so y i (named_again old q) at old.inc its

      other : (b : Bool) → MovedIsSo y (cond b (moves (Some q) at) (finds (Some old) (Changed 1 (two_bindings old.binding q.binding))))
      other true = its
      other false = tt

      by : (b : Bool) → MovedIsSo y (cond b (same_binding old q at q.inc) (other_binding free old q at))
      by true = same q.inc
      by false = other (free && binding_less old.binding q.binding)

  loads_so : (y : ℕ) (q : Known) (stores : List ℕ) → IfSome (load_from q stores) (AtIsSo F y)
  loads_so y q [] = tt
  loads_so y q (s ∷ ss) = tt

  bound_so : (y : ℕ) (free : Bool) (kept : Option Known) (r : BoundReply) → MovedIsSo y (bound_answer free kept r)
  bound_so y free kept (bound.Live b server i n stores) =
      bound_by_so y free (live_known b server i n stores) (AtInvoke (live_known b server i n stores) i) kept tt
  bound_so y free kept (bound.Make b server n stores) =
      by (load_from (made_known b server n stores) stores) (loads_so y (made_known b server n stores) stores)
    where
      by : (o : Option At) → IfSome o (AtIsSo F y) → MovedIsSo y (made_by free (made_known b server n stores) kept o)
      by None its = tt
      by (Some at) its = bound_by_so y free (made_known b server n stores) at kept its
  bound_so y free kept (bound.Write n stores) = by (load_from (write_known n stores) stores) (loads_so y (write_known n stores) stores)
    where
      by : (o : Option At) → IfSome o (AtIsSo F y) → MovedIsSo y (or_lost kept o)
      by None its = tt
      by (Some at) its = its
  bound_so y free kept (bound.Conflict holder m) = tt

  activated_so : (y : ℕ) (q : Known) (i : ℕ) (kept : Option Known) → MovedIsSo y (activated_by q i kept)
  activated_so y q i None = tt
  activated_so y q i (Some old) = by (binding_eq old.binding q.binding)
    where
      by : (b : Bool) → MovedIsSo y (cond b (with_inc i old (AtNote q i) old.inc) (moves (Some old) (AtNote q i)))
      by true = with_so y i old (AtNote q i) old.inc tt
      by false = tt

  noted_so : (y : ℕ) (q : Known) (i : ℕ) (kept : Option Known) (r : RecordedReply) → MovedIsSo y (recorded_answer kept q i r)
  noted_so y q i kept recorded.Yes = tt
  noted_so y q i kept (recorded.Changed w) = tt

  invoked_so : (y : ℕ) (q : Known) (kept : Option Known) (r : InvokedReply) → MovedIsSo y (invoked_answer kept q r)
  invoked_so y q kept (invoked.Answered a) = tt
  invoked_so y q kept (invoked.Conflict holder m) = tt
  invoked_so y q kept (invoked.Changed w) = tt

  loaded_so : (y : ℕ) (kept : Option Known) (q : Known) (s : ℕ) (g : Goal) (r : LoadedReply) → AnswersFor y (Reply.Loaded r) →
      MovedIsSo y (loaded_answer kept q s g r)
  loaded_so y kept q s (calls.Run o) (loaded.State st) rs = rs
  loaded_so y kept q s (calls.Include n) (loaded.State st) rs = rs
  loaded_so y kept q s g (loaded.InDoubt holder) rs = tt

  answered_so : (y : ℕ) (free : Bool) (kept : Option Known) (g : Goal) (at : At) (r : Reply) → AtIsSo F y at → AnswersFor y r →
      MovedIsSo y (answered free kept g at r)
  answered_so y free kept g (AtBind avoid) (Reply.Bound r) so rs = bound_so y free kept r
  answered_so y free kept g (AtLoad q s rest) (Reply.Loaded r) so rs = loaded_so y kept q s g r rs
  answered_so y free kept g (AtActivate q st) (Reply.Activated j) so rs = activated_so y q j kept
  answered_so y free kept g (AtNote q i) (Reply.Noted r) so rs = noted_so y q i kept r
  answered_so y free kept g (AtInvoke q i) (Reply.Invoked r) so rs = invoked_so y q kept r
  answered_so y free kept g (AtBind avoid) (Reply.Loaded r) so rs = so
  answered_so y free kept g (AtBind avoid) (Reply.Activated j) so rs = so
  answered_so y free kept g (AtBind avoid) (Reply.Noted r) so rs = so
  answered_so y free kept g (AtBind avoid) (Reply.Invoked r) so rs = so
  answered_so y free kept g (AtBind avoid) (Reply.Voted r) so rs = so
  answered_so y free kept g (AtBind avoid) (Reply.Prepared r) so rs = so
  answered_so y free kept g (AtBind avoid) (Reply.Confirmed r) so rs = so
  answered_so y free kept g (AtLoad q s rest) (Reply.Bound r) so rs = so
  answered_so y free kept g (AtLoad q s rest) (Reply.Activated j) so rs = so
  answered_so y free kept g (AtLoad q s rest) (Reply.Noted r) so rs = so
  answered_so y free kept g (AtLoad q s rest) (Reply.Invoked r) so rs = so
  answered_so y free kept g (AtLoad q s rest) (Reply.Voted r) so rs = so
  answered_so y free kept g (AtLoad q s rest) (Reply.Prepared r) so rs = so
  answered_so y free kept g (AtLoad q s rest) (Reply.Confirmed r) so rs = so
  answered_so y free kept g (AtActivate q st) (Reply.Bound r) so rs = so
  answered_so y free kept g (AtActivate q st) (Reply.Loaded r) so rs = so
  answered_so y free kept g (AtActivate q st) (Reply.Noted r) so rs = so
  answered_so y free kept g (AtActivate q st) (Reply.Invoked r) so rs = so
  answered_so y free kept g (AtActivate q st) (Reply.Voted r) so rs = so
  answered_so y free kept g (AtActivate q st) (Reply.Prepared r) so rs = so
  answered_so y free kept g (AtActivate q st) (Reply.Confirmed r) so rs = so
  answered_so y free kept g (AtNote q i) (Reply.Bound r) so rs = so
  answered_so y free kept g (AtNote q i) (Reply.Loaded r) so rs = so
  answered_so y free kept g (AtNote q i) (Reply.Activated j) so rs = so
  answered_so y free kept g (AtNote q i) (Reply.Invoked r) so rs = so
  answered_so y free kept g (AtNote q i) (Reply.Voted r) so rs = so
  answered_so y free kept g (AtNote q i) (Reply.Prepared r) so rs = so
  answered_so y free kept g (AtNote q i) (Reply.Confirmed r) so rs = so
  answered_so y free kept g (AtInvoke q i) (Reply.Bound r) so rs = so
  answered_so y free kept g (AtInvoke q i) (Reply.Loaded r) so rs = so
  answered_so y free kept g (AtInvoke q i) (Reply.Activated j) so rs = so
  answered_so y free kept g (AtInvoke q i) (Reply.Noted r) so rs = so
  answered_so y free kept g (AtInvoke q i) (Reply.Voted r) so rs = so
  answered_so y free kept g (AtInvoke q i) (Reply.Prepared r) so rs = so
  answered_so y free kept g (AtInvoke q i) (Reply.Confirmed r) so rs = so

  pub given_up_so : (y : ℕ) (at : At) → StepIsSo F y (given_up at)
  given_up_so y (AtBind avoid) = tt
  given_up_so y (AtLoad q n []) = tt
  given_up_so y (AtLoad q n (m ∷ ms)) = tt
  given_up_so y (AtActivate q st) = tt
  given_up_so y (AtNote q i) = tt
  given_up_so y (AtInvoke q i) = tt

  pub heard_call_so : (s : Steps) (r : Reply) (c : Coord) → CoordIsSo F c → AtIsSo F s.x s.at → AnswersFor s.x r → IsDone (heard_call s r c)
  heard_call_so s r c so its rs =
      let m = answered (is_free (root_of s.path) (actor s.path) s.x c) (kept_at s c) s.goal s.at r in
      step_call_so s m.step (on_root (root_of s.path) (root_moved s r m) c) (on_root_so (root_of s.path) (root_moved s r m) c
      (moved_so s r m) so) (answered_so s.x (is_free (root_of s.path) (actor s.path) s.x c) (kept_at s c) s.goal s.at r its rs)

  -- ---- ends

  tolds_so : (intents : List (Uid × Intent)) (c : Coord) (u : Uid) → AllSay F (tolds_of intents c u)
  tolds_so intents c u = by (branch_of u c.tree)
    where
      kinds : (q : ActionKind) (p : Path) → AllSay F (tolds_by u q p intents c)
      kinds kind.Nested p = tells (root_of p) false (up_to u (ends_of (root_of p) c.tree)) (servers_told u (root_at (root_of p) c) c)
      kinds kind.Serial p =
          tells u false ((u, ending.Abort) ∷ []) (filter (λ n. not (is_deferred u intents n)) (nodes_sent u (root_at u c)))
      kinds kind.Top p = tells (root_of p) false ((u, ending.Abort) ∷ []) (nodes_sent u (root_at (root_of p) c))
      kinds kind.Independent p = tells (root_of p) false ((u, ending.Abort) ∷ []) (nodes_sent u (root_at (root_of p) c))
      kinds kind.Constituent p = tells (root_of p) false ((u, ending.Abort) ∷ []) (nodes_sent u (root_at (root_of p) c))

      by : (b : Option Branch) → AllSay F (tolds_of_branch u intents c b)
      by None = tt
      by (Some b) = kinds b.kind b.path

  pub ends_so : (u : Uid) (e : End) (f : Label → Body) (intents : List (Uid × Intent)) (c : Coord) → CoordIsSo F c →
      IsDone (ends_with u e f intents c)
  ends_so u e f intents c so =
      (ended_so u e c so, both (says u f c) (tolds_of intents (ended u e c) u) (lines u f c) (tolds_so intents (ended u e c) u))

  all_so : (us : List Uid) (c : Coord) → CoordIsSo F c → IsDone (all_aborted us c)
  all_so [] c so = (so, tt)
  all_so (u ∷ us) c so = let r = all_so us (ended u ending.Abort c) (ended_so u ending.Abort c so) in
      (r.0, both (says u (λ l. body.Aborted l cause.Asked) c) _ (lines u (λ l. body.Aborted l cause.Asked) c) r.1)

  pub abort_so : (u : Uid) (intents : List (Uid × Intent)) (c : Coord) → CoordIsSo F c → IsDone (abort_action u intents c)
  abort_so u intents c so =
      let us : List Uid = open_below u c.tree ++ u ∷ [] in
      let r = all_so us c so in
      let t = all_aborted us c in
      (r.0, both t.outs (flat_map (tolds_of intents t.part) us) r.1 (flat (tolds_of intents t.part) us (λ w. tolds_so intents t.part w)))

  -- ---- commits

  abbrev IsNext : CommitStep → Type 0
  IsNext (Stays m) = PlanIsSo F (plan_of m)
  IsNext (Asks m) = PlanIsSo F (plan_of m)
  IsNext (Decides q) = PlanIsSo F q
  IsNext (Aborts why q) = ⊤

  confirm_step : (us : List Used) (q : Plan) → PlanIsSo F q → IsNext (begin_confirm us q)
  confirm_step [] q so = so
  confirm_step (u ∷ us) q so = record { used = so.used; changed = so.changed }

  prepare_step : (ns : List ℕ) (q : Plan) → PlanIsSo F q → IsNext (begin_prepare ns q)
  prepare_step [] q so = confirm_step q.used q so
  prepare_step (n ∷ ns) q so = record { used = so.used; changed = so.changed }

  pub vote_step : (ns : List ℕ) (q : Plan) → PlanIsSo F q → IsNext (begin_vote ns q)
  vote_step [] q so = prepare_step (targets_of q) q so
  vote_step (n ∷ ns) q so = record { used = so.used; changed = so.changed }

  stores_step : (ns : List ℕ) (q : Plan) → PlanIsSo F q → IsNext (let m = stores_left ns q in m.step)
  stores_step [] q so = confirm_step q.used q so
  stores_step (n ∷ ns) q so = so

  votes_step : (ns : List ℕ) (q : Plan) → PlanIsSo F q → IsNext (votes_left ns q)
  votes_step [] q so = prepare_step (targets_of q) q so
  votes_step (n ∷ ns) q so = so

  with_state_so : (s : ObjectState) (every : List ObjectState) → V s → AllByRecursion V every → AllByRecursion V (with_state s every)
  with_state_so s [] its all = (its, tt)
  with_state_so s (t ∷ ts) its all = by (nat_lt t.uid.num s.uid.num) (with_state_so s ts its all.1)
    where
      by : (b : Bool) → AllByRecursion V (with_state s ts) → AllByRecursion V (cond b (t ∷ with_state s ts) (s ∷ t ∷ ts))
      by true ih = (all.0, ih)
      by false ih = (its, all)

  pub with_states_so : (states every : List ObjectState) → AllByRecursion V states → AllByRecursion V every →
      AllByRecursion V (with_states states every)
  with_states_so [] every its all = all
  with_states_so (s ∷ ss) every its all = with_states_so ss (with_state s every) its.1 (with_state_so s every its.0 all)

  marks_so : (ns : List ℕ) (q : Plan) → PlanIsSo F q → PlanIsSo F (marks_stores ns q)
  marks_so [] q so = so
  marks_so (n ∷ ns) q so = marks_so ns (marks_store n q) (record { used = so.used; changed = so.changed })

  pub answer_step : (from : ℕ) (m : Machine) (r : Reply) → PlanIsSo F (plan_of m) → ReplyIsSo F r → IsNext (commit.answered from m r).step
  answer_step from (Voting p left) (Reply.Voted (voted.Yes states)) so rs = votes_step (without_number from left) (record p
      { changed = with_states states p.changed }) (record { used = so.used; changed = with_states_so states p.changed rs so.changed })
  answer_step from (Voting p left) (Reply.Voted (voted.Changed w)) so rs = tt
  answer_step from (Preparing p left) (Reply.Prepared prepared.Yes) so rs = stores_step (without_number from left)
      (record p { prepared = with_number from p.prepared }) (record { used = so.used; changed = so.changed })
  answer_step from (Preparing p left) (Reply.Prepared (prepared.InDoubt x h)) so rs =
      stores_step (without_number from left) (marks_store from p) (record { used = so.used; changed = so.changed })
  answer_step from (Preparing p left) (Reply.Prepared (prepared.Old x v)) so rs = tt
  answer_step from (Confirming p) (Reply.Confirmed confirmed.Yes) so rs = record { used = so.used; changed = so.changed }
  answer_step from (Confirming p) (Reply.Confirmed (confirmed.Conflict h m)) so rs = tt
  answer_step from (Confirming p) (Reply.Confirmed (confirmed.Changed w)) so rs = tt
  answer_step from (Confirming p) (Reply.Confirmed (confirmed.NoStores x)) so rs = tt
  answer_step from (Confirming p) (Reply.Confirmed (confirmed.Listed x s)) so rs = tt
  answer_step from (Voting p left) (Reply.Bound r) so rs = so
  answer_step from (Voting p left) (Reply.Loaded r) so rs = so
  answer_step from (Voting p left) (Reply.Activated r) so rs = so
  answer_step from (Voting p left) (Reply.Noted r) so rs = so
  answer_step from (Voting p left) (Reply.Invoked r) so rs = so
  answer_step from (Voting p left) (Reply.Prepared r) so rs = so
  answer_step from (Voting p left) (Reply.Confirmed r) so rs = so
  answer_step from (Preparing p left) (Reply.Bound r) so rs = so
  answer_step from (Preparing p left) (Reply.Loaded r) so rs = so
  answer_step from (Preparing p left) (Reply.Activated r) so rs = so
  answer_step from (Preparing p left) (Reply.Noted r) so rs = so
  answer_step from (Preparing p left) (Reply.Invoked r) so rs = so
  answer_step from (Preparing p left) (Reply.Voted r) so rs = so
  answer_step from (Preparing p left) (Reply.Confirmed r) so rs = so
  answer_step from (Confirming p) (Reply.Bound r) so rs = so
  answer_step from (Confirming p) (Reply.Loaded r) so rs = so
  answer_step from (Confirming p) (Reply.Activated r) so rs = so
  answer_step from (Confirming p) (Reply.Noted r) so rs = so
  answer_step from (Confirming p) (Reply.Invoked r) so rs = so
  answer_step from (Confirming p) (Reply.Voted r) so rs = so
  answer_step from (Confirming p) (Reply.Prepared r) so rs = so

  pub giveup_step : (m : Machine) → PlanIsSo F (plan_of m) → IsNext (commit.given_up m).step
  giveup_step (Voting p left) so = tt
  giveup_step (Preparing p left) so = stores_step [] (marks_stores left p) (marks_so left p so)
  giveup_step (Confirming p) so = tt

  pub found_so : (test : ObjectState → Bool) (states : List ObjectState) → AllByRecursion V states → IfSome (find test states) V
  found_so test [] all = tt
  found_so test (s ∷ ss) all = by (test s) (found_so test ss all.1)
    where
      by : (b : Bool) → IfSome (find test ss) V → IfSome (cond b (Some s) (find test ss)) V
      by true ih = all.0
      by false ih = ih

  sent_so : (n : ℕ) (p : Plan) → PlanIsSo F p → AllByRecursion Q (states_for n p)
  sent_so n p so = all_some (λ (u : Used). IfSome u.loaded (Of u.x)) Q (state_for n p) p.used
      (λ u its. by u (plain u.x u.loaded its) (changed_of u.x p) (found_so _ p.changed so.changed)) so.used
    where
      plain : (x : ℕ) (l : Option ObjectState) → IfSome l (Of x) → IfSome l Q
      plain x None its = tt
      plain x (Some st) its = its.0

      by : (u : Used) → IfSome u.loaded Q → (o : Option ObjectState) → IfSome o V → IfSome (state_by n u o) Q
      by u its None none = one (has u.joins n)
        where
          one : (b : Bool) → IfSome (cond b u.loaded None) Q
          one true = its
          one false = tt
      by u its (Some st) of = one (has u.stores n || has u.joins n)
        where
          one : (b : Bool) → IfSome (cond b (Some st) None) Q
          one true = keep.voted st.uid st of
          one false = tt

  ask_so : (m : Machine) (n : ℕ) → PlanIsSo F (plan_of m) → AskIsSo F (ask_of m n)
  ask_so (Voting p left) n so = tt
  ask_so (Preparing p left) n so = sent_so n p so
  ask_so (Confirming p) n so = tt

  asked_so : (p : Path) (req : ℕ) (asked : List (ℕ × Ask)) (c : Coord) → CoordIsSo F c →
      AllByRecursion (λ (a : ℕ × Ask). AskIsSo F a.1) asked → IsDone (asks_all p req asked c)
  asked_so p req [] c so all = (so, tt)
  asked_so p req (a ∷ rest) c so all =
      let first = asks_so p req a c so all.0 in
      let r = asked_so p req rest (asks_node p req a c).part first.0 all.1 in
      (r.0, both (asks_node p req a c).outs (asks_all p req rest (asks_node p req a c).part).outs first.1 r.1)

  pub machine_so : (m : Machine) (c : Coord) → CoordIsSo F c → PlanIsSo F (plan_of m) → IsDone (asks_machine m c)
  machine_so m c so its = asked_so (plan_of m).path (plan_of m).req (commit.waiting m) c so (waits (left_of m))
    where
      waits : (ns : List ℕ) → AllByRecursion (λ (a : ℕ × Ask). AskIsSo F a.1) (map {A = ℕ} {B = ℕ × Ask} (λ n. (n, ask_of m n)) ns)
      waits [] = tt
      waits (n ∷ ns) = (ask_so m n its, waits ns)

  commits_so : (u : Uid) (m : Machine) (c : Coord) → CoordIsSo F c → PlanIsSo F (plan_of m) → CoordIsSo F (commits_in u m c)
  commits_so u m c so its = on_do_so u (λ (d : Doing). record d { req = (plan_of m).req; now = Committing m }) c (λ d found. its) so

  states_so : (ss : List ObjectState) (states : List (ℕ × ObjectState)) → AllByRecursion V ss → AllByRecursion
      (λ (e : ℕ × ObjectState). Of e.0 e.1) states → AllByRecursion (λ (e : ℕ × ObjectState). Of e.0 e.1) (states_after ss states)
  states_so [] states its all = all
  states_so (s ∷ ss) states its all =
      states_so ss (put_number s.uid.num s states) its.1 (keyed_put Of s.uid.num s states (keep.voted s.uid s its.0, refl) all)

  after_so : (p : Plan) (r : Root) → PlanIsSo F p → RootIsSo F r → RootIsSo F (root_after p r)
  after_so p r its so = record { joined = so.joined; states = states_so p.changed r.states its.changed so.states }

  decide_so : (p : Plan) (c : Coord) → PlanIsSo F p → CoordIsSo F c → IsDone (decide p c)
  decide_so p c its so = by (has_record p)
    where
      i : Intent
      i = record { root = root_of p.path; nodes = participants p }

      e : Coord
      e = ended (actor p.path) ending.Commit c

      took : Coord
      took = on_doing (actor p.path) (λ (d : Doing). record d { took = participants p }) e

      r : Coord
      r = on_root (root_of p.path) (root_after p) took

      ke : CoordIsSo F e
      ke = ended_so (actor p.path) ending.Commit c so

      kr : CoordIsSo F r
      kr = on_root_so (root_of p.path) (root_after p) took (λ q s. after_so p q its s)
          (on_do_so (actor p.path) (λ (d : Doing). record d { took = participants p }) e (λ d found. ke.works (actor p.path) d found) ke)

      told : (ns : List ℕ) → AllSay F (map (decided_told (root_of p.path) (actor p.path) p) ns)
      told [] = tt
      told (n ∷ ns) = ((each_told (has (participants p) n)).0, told ns)
        where
          each_told : (x : Bool) → AllSay F (cond x (tell (root_of p.path) (has_record p) ((actor p.path, ending.Commit) ∷ []) n)
              (tell (root_of p.path) false ((actor p.path, ending.Abort) ∷ []) n) ∷ [])
          each_told true = ((tt, tt), tt)
          each_told false = ((tt, tt), tt)

      work : (x : Bool) → AllSay F (cond x (Do (PutIntent (actor p.path) i) ∷ []) [])
      work true = (tt, tt)
      work false = tt

      outs : (w : Bool) → AllSay F (cond w (Do (PutIntent (actor p.path) i) ∷ []) [] ++ says (actor p.path) body.Committed c
          ++ map (decided_told (root_of p.path) (actor p.path) p) p.sent)
      outs w = both (cond w (Do (PutIntent (actor p.path) i) ∷ []) [] ++ says (actor p.path) body.Committed c)
          (map (decided_told (root_of p.path) (actor p.path) p) p.sent) (both (cond w (Do (PutIntent (actor p.path) i) ∷ []) [])
          (says (actor p.path) body.Committed c) (work w) (lines (actor p.path) body.Committed c)) (told p.sent)

      by : (w : Bool) → IsDone (record {
        part = cond w (record r { telling = put_uid (actor p.path) i r.telling }) r;
        outs = cond w (Do (PutIntent (actor p.path) i) ∷ []) [] ++ says (actor p.path) body.Committed c
            ++ map (decided_told (root_of p.path) (actor p.path) p) p.sent;
      })
      by true = (record { works = kr.works; roots = kr.roots }, outs true)
      by false = (kr, outs false)

  step_commit_so : (u : Uid) (s : CommitStep) (intents : List (Uid × Intent)) (c : Coord) → CoordIsSo F c → IsNext s →
      IsDone (step_commit u s intents c)
  step_commit_so u (Stays m) intents c so its = (commits_so u m c so its, tt)
  step_commit_so u (Asks m) intents c so its = machine_so m (commits_in u m c) (commits_so u m c so its) its
  step_commit_so u (Decides p) intents c so its = decide_so p c its so
  step_commit_so u (Aborts why p) intents c so its = ends_so u ending.Abort (λ l. body.Aborted l why) intents c so

  pub moved_commit_so : (u : Uid) (m : commit.Marked) (intents : List (Uid × Intent)) (c : Coord) → CoordIsSo F c → IsNext m.step →
      IsDone (moved_commit u m intents c)
  moved_commit_so u m intents c so its =
      let t = step_commit u m.step intents c in
      let w = step_commit_so u m.step intents c so its in (
        w.0,
        both (mark_lines u m.marks c) t.outs
            (flat (λ (x : ℕ × ℕ). says u (λ l. body.Excluded l x.0 x.1) c) m.marks (λ x. lines u (λ l. body.Excluded l x.0 x.1) c)) w.1,
      )

  -- what a plan loads
  latest_so : (x : ℕ) (o : Option ObjectState) (js : List Joined) → IfSome o (Of x) → AllByRecursion (λ (j : Joined). Of x j.loaded) js →
      IfSome (latest_of o js) (Of x)
  latest_so x None [] its all = tt
  latest_so x (Some s) [] its all = its
  latest_so x None (j ∷ js) its all = latest_so x (Some j.loaded) js all.0 all.1
  latest_so x (Some s) (j ∷ js) its all = latest_so x (Some (later_state s j.loaded)) js (later_so x s j.loaded its all.0) all.1

  joins_so : (x : ℕ) (test : Joined → Bool) (js : List Joined) → AllByRecursion (λ (j : Joined). Of j.x j.loaded) js →
      AllByRecursion (λ (j : Joined). Of x j.loaded) (filter (λ (j : Joined). (j.x == x) && test j) js)
  joins_so x test [] all = tt
  joins_so x test (j ∷ js) all = by ((j.x == x) && test j) refl (joins_so x test js all.1)
    where
      by : (b : Bool) → ((j.x == x) && test j) ≡ b → AllByRecursion (λ (h : Joined). Of x h.loaded)
          (filter (λ (h : Joined). (h.x == x) && test h) js) → AllByRecursion (λ (h : Joined). Of x h.loaded)
          (cond b (j ∷ filter (λ (h : Joined). (h.x == x) && test h) js) (filter (λ (h : Joined). (h.x == x) && test h) js))
      by true on ih = (subst (λ y. Of y j.loaded) (eqb-true j.x x (and_parts (j.x == x) (test j) on).0) all.0, ih)
      by false off ih = ih

  loads_from : (x : ℕ) (top : Uid) (r : Root) (c : Coord) → RootIsSo F r → IfSome (loaded_for x top r c) (Of x)
  loads_from x top r c so = by (latest_of None (joins_on x top r c)) (at_number x r.states) refl
      (latest_so x None (joins_on x top r c) tt (joins_so x _ r.joined so.joined))
    where
      by : (o s : Option ObjectState) → at_number x r.states ≡ s → IfSome o (Of x) → IfSome (or_kept_state o s) (Of x)
      by None s is its = tt
      by (Some st) None is its = its
      by (Some st) (Some t) is its = later_so x st t its (keyed_found Of x r.states t so.states is)

  pub plan_so : (p : Path) (req : ℕ) (r : Root) (c : Coord) → RootIsSo F r → PlanIsSo F (plan_for p req r c)
  plan_so p req r c so = record { used = by (objects_in (actor p) r c); changed = tt }
    where
      by : (xs : List ℕ) → AllByRecursion (λ (u : Used). IfSome u.loaded (Of u.x)) (map (used_of (actor p) r c) xs)
      by [] = tt
      by (x ∷ xs) = (loads_from x (actor p) r c so, by xs)
