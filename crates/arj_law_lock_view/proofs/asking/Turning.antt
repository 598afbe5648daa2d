-- A coordinator goes on: which of its calls and includes are answered, and that all others wait on.
use Rattle.arj_law_parts.proofs.Words
use Words.{Answer, Mode, ObjectState, What, Write, is_include, ◌==◌}
use Words.{⊎_elim, ◌≡◌, ◌≢◌, ◌⊎◌, ◌≤◌, ◌+◌, arith, ◌&&◌, ◌||◌, ◌++◌, ◌∙◌, ℕ, zero, suc, Bool, true, false, cond, not, List, [], ◌∷◌}
use Words.{filter, Option, Some, None, refl}
use Words.{sym, ap, subst, inl, inr, ⊤, AllByRecursion, list_any, uid_cases, Ask, Asked, Body, End, Kind, Label, Path, Uid}
use Words.{Reply, actor}
use Words.{again_all, again_now, asks_all, asks_node, commit_action, commit_open, commit_top, commits_in}
use Words.{doomed_by, end_line, gaveup_lines, give_up, give_up_doing, gives_up, goes_on, heard, heard_by, heard_call, heard_doing}
use Words.{heard_none, heard_now}
use Words.{kept_at, last_req, moved_commit, next_node, root_heard, root_lost, root_moved, step_call, step_commit}
use Words.{waits_for_call}
use Words.{waits_for_commit, Answered, CallEnd, CallStep, Changed, Conflict, Ended, Included, Lost, Moved, On, Steps, answered, given_up}
use Words.{Aborts, Asks, At, AtActivate, AtBind, AtInvoke, AtLoad, AtNote, BoundReply, Goal, Known, LoadedReply, Run}
use Words.{activated_by, bound_answer, bound_by, finds, live_known, load_from, loaded_answer, made_by, made_known, moves, named_again}
use Words.{or_lost, other_binding, same_binding, two_bindings, two_incs, with_inc, write_known, binding_eq, binding_less}
use Words.{CommitStep, Decides, Machine, Plan, Stays, has_record, nodes_given_up, participants, plan_of, Calling, Committing}
use Words.{Coord, Doing, Idle, Now}
use Words.{change_doing, doing_of, is_free, on_doing, on_root, plan_for, root_at, Did, Effect, Intent, Served, abort_action}
use Words.{aborts_with, acked, acked_by, acked_left, all_aborted, decide, ended, ends_with, root_after}
use Words.{say_for, says}
use Words.{tell_all, tolds_let_go, at_uid, has, put_uid, without_number, without_uid, Input, acts}
use Words.{branch_named, on_branch}
use Words.{Header, is_on, is_some, uid_eq, uid_is, uids_of, first_reason, refusal_up, refused_by, commit_reasons, servers_of}
use Words.{has_open_child}
use Words.{Branch, branch_of, ended_at, is_own, open_below, root_of, at_place, slice_get}
use Words.body
use Words.cause
use Words.ending
use Words.kind
use Words.bound
use Words.calls
use Words.commit
use Words.input
use Words.invoked
use Words.loaded
use Words.recorded
use Rattle.arj_law_lock_view.proofs.Terms
use Terms.{Action, IsBusy, IsGoodCoord, IsStepOf, IsTree, Paths, answer_step, giveup_step, vote_step, actor_is, doomed_same, doing_other}
use Terms.{end_tree_on, doing_here, on_own}
use Rattle.arj_law_lock_view.proofs.asking.Dumb.{abort_dumb, dumb_both, ends_dumb, gaveup_dumb, moved_dumb, tells_dumb, top_dumb}
use Rattle.arj_law_lock_view.proofs.facts.Onward.{IsFurther}
use Rattle.arj_law_parts.proofs.parts.SaidIncs.{all_flat}
use Rattle.arj_law_parts.proofs.moves.Reasons.{first_not}
use Rattle.arj_protocol.specs.Ending.{is_over, let_go}
use Rattle.arj_protocol.specs.Step.{abort_reasons, is_waiting, is_waiting_now, sibling_waits, waits, waits_above, waits_below}
use Rattle.arj_protocol.specs.Tree.{is_open_below, latest_first}
use Rattle.arj_law_lock_view.specs.asking.Turns.{AreDumb, AreGiveups, CameFrom, EndsSo, IsLike, SaysGiveup, IsOneCall, RestsSo}
use Rattle.arj_law_lock_view.specs.asking.Turns.{IsGivenUp, IsHeardBy, NumbersRise, TurnsSo, Why, calling, is_else, is_giveup, is_reply}

some_is : {A : Type 0} {a b : A} → Some a ≡ Some b → a ≡ b
some_is {A} {a} {b} is = let k : ◌≡◌ {A = Option A} (Some a) (Some b) = is in cc

never : {A : Type 0} {b : Bool} → b ≡ true → b ≡ false → A
never holds fails = let no_way : true ≡ false = sym holds ∙ fails in absurd (cc no_way)

-- ---- lines

says_lined : (u : Uid) (f : Label → Body) (c : Coord) → ((l : Label) → is_giveup (f l) ≡ true) → AreGiveups (says u f c)
says_lined u f c its = by (doing_of u c)
  where
    by : (o : Option Doing) → AreGiveups (say_for f o)
    by None = tt
    by (Some d) = (its d.label, tt)

gaveup_lined : (u : Uid) (ns : List ℕ) (c : Coord) → AreGiveups (gaveup_lines u ns c)
gaveup_lined u ns c = all_flat SaysGiveup (λ n. says u (λ l. body.GaveUp l n) c) ns (λ n. says_lined u (λ l. body.GaveUp l n) c (λ l. refl))

-- ---- by what calls end

-- where a step ends, so it is of its end
abbrev pub StepEnds : (CallEnd → Type 0) → CallStep → Type 0
StepEnds Q (On at) = ⊤
StepEnds Q (Ended e) = Q e

-- An answer ends a call or an include, but for other ends: an include by the state that was loaded, and an Invoke by its answer.
module _ (Q : CallEnd → Type 0) (changed : (n : ℕ) (w : What) → Q (Changed n w)) (conflict : (u : Uid) (m : Mode) (n : ℕ) →
    Q (Conflict u m n))
    (lost : (n : ℕ) (sent : Bool) → Q (Lost n sent)) where
  with_ends : (i : ℕ) (kept : Known) (at : At) (o : Option ℕ) → StepEnds Q (with_inc i kept at o).step
  with_ends i kept at None = tt
  with_ends i kept at (Some first) = by (first == i)
    where
      by : (b : Bool) → StepEnds Q (cond b (moves (Some kept) at) (finds (Some kept) (Changed kept.server (two_incs first i)))).step
      by true = tt
      by false = changed kept.server (two_incs first i)

  bound_ends : (free : Bool) (k : Known) (at : At) (o : Option Known) → StepEnds Q (bound_by free k at o).step
  bound_ends free k at None = tt
  bound_ends free k at (Some old) = by (binding_eq old.binding k.binding)
    where
      same : (o : Option ℕ) → StepEnds Q (same_binding old k at o).step
      same None = tt
      same (Some i) = with_ends i (named_again old k) at old.inc

      other : (b : Bool) →
          StepEnds Q (cond b (moves (Some k) at) (finds (Some old) (Changed 1 (two_bindings old.binding k.binding)))).step
      other true = tt
      other false = changed 1 (two_bindings old.binding k.binding)

      by : (b : Bool) → StepEnds Q (cond b (same_binding old k at k.inc) (other_binding free old k at)).step
      by true = same k.inc
      by false = other (free && binding_less old.binding k.binding)

  named_ends : (free : Bool) (kept : Option Known) (r : BoundReply) → StepEnds Q (bound_answer free kept r).step
  named_ends free kept (bound.Live b server i n stores) =
      bound_ends free (live_known b server i n stores) (AtInvoke (live_known b server i n stores) i) kept
  named_ends free kept (bound.Make b server n stores) = by (load_from (made_known b server n stores) stores)
    where
      by : (o : Option At) → StepEnds Q (made_by free (made_known b server n stores) kept o).step
      by None = lost 1 false
      by (Some at) = bound_ends free (made_known b server n stores) at kept
  named_ends free kept (bound.Write n stores) = by (load_from (write_known n stores) stores)
    where
      by : (o : Option At) → StepEnds Q (or_lost kept o).step
      by None = lost 1 false
      by (Some at) = tt
  named_ends free kept (bound.Conflict holder m) = conflict holder m 1

  taken_ends : (k : Known) (i : ℕ) (kept : Option Known) → StepEnds Q (activated_by k i kept).step
  taken_ends k i None = tt
  taken_ends k i (Some old) = by (binding_eq old.binding k.binding)
    where
      by : (b : Bool) → StepEnds Q (cond b (with_inc i old (AtNote k i) old.inc) (moves (Some old) (AtNote k i))).step
      by true = with_ends i old (AtNote k i) old.inc
      by false = tt

  loaded_ends : (g : Goal) (kept : Option Known) (k : Known) (s : ℕ) (r : LoadedReply) →
      ((st : ObjectState) → is_include g ≡ true → Q (Included st)) → StepEnds Q (loaded_answer kept k s g r).step
  loaded_ends (Run o) kept k s (loaded.State st) included = tt
  loaded_ends (calls.Include n) kept k s (loaded.State st) included = included st refl
  loaded_ends g kept k s (loaded.InDoubt holder) included = conflict holder Write s

  pub answered_ends : (g : Goal) (free : Bool) (kept : Option Known) (at : At) (r : Reply) →
      ((st : ObjectState) → is_include g ≡ true → Q (Included st)) →
      ((k : Known) (i : ℕ) (a : Answer) → at ≡ AtInvoke k i → r ≡ Reply.Invoked (invoked.Answered a) → Q (Answered a)) →
      StepEnds Q (answered free kept g at r).step
  answered_ends g free kept (AtBind avoid) (Reply.Bound r) included its = named_ends free kept r
  answered_ends g free kept (AtLoad k s rest) (Reply.Loaded r) included its = loaded_ends g kept k s r included
  answered_ends g free kept (AtActivate k st) (Reply.Activated i) included its = taken_ends k i kept
  answered_ends g free kept (AtNote k i) (Reply.Noted recorded.Yes) included its = tt
  answered_ends g free kept (AtNote k i) (Reply.Noted (recorded.Changed w)) included its = changed 1 w
  answered_ends g free kept (AtInvoke k i) (Reply.Invoked (invoked.Answered a)) included its = its k i a refl refl
  answered_ends g free kept (AtInvoke k i) (Reply.Invoked (invoked.Conflict holder m)) included its = conflict holder m k.server
  answered_ends g free kept (AtInvoke k i) (Reply.Invoked (invoked.Changed w)) included its = changed k.server w
  answered_ends g free kept at r included its = tt

-- what is given up is lost, where it ends
lost_ends : (u : Uid) (s : Steps) (at : At) → StepEnds (IsGivenUp u s) (given_up at)
lost_ends u s (AtBind avoid) = tt
lost_ends u s (AtLoad k n []) = tt
lost_ends u s (AtLoad k n (x ∷ rest)) = tt
lost_ends u s (AtActivate k st) = tt
lost_ends u s (AtNote k i) = tt
lost_ends u s (AtInvoke k i) = tt

-- ---- what waits

like_itself : (d : Doing) → IsLike d d
like_itself d = record { label = refl; idle = λ is. is; busy = λ s is. (s, is, record { path = refl; object = refl; goal = refl }) }

pub still_there : {A : Type 0} (a d : A) (xs : List A) (j : ℕ) → slice_get (xs ++ a ∷ []) j ≡ Some d →
    (slice_get xs j ≡ Some d) ⊎ ((slice_get xs j ≡ None) × (a ≡ d))
still_there a d [] zero is = inr (refl, some_is is)
still_there a d [] (suc j) is = absurd (cc is)
still_there a d (x ∷ xs) zero is = inl is
still_there a d (x ∷ xs) (suc j) is = still_there a d xs j is

module _ (c : Coord) where
  abbrev pub AllCame : Coord → Type 0
  AllCame e = (u : Uid) (x : Doing) → doing_of u e ≡ Some x → CameFrom c u x

  pub came_same : AllCame c
  came_same u x found = (x, found, like_itself x)

  came_own : (e f : Coord) → ((u : Uid) → is_own u f.tree ≡ is_own u e.tree) → f.doings ≡ e.doings → AllCame e → AllCame f
  came_own e f own doings t u x found = t u x ((λ i. cond (sym (own u) i) (at_place u.num (sym doings i)) None) ∙ found)

  -- another work of one action
  came_do : (u : Uid) (f : Doing → Doing) (e : Coord) → ((y : Doing) → doing_of u e ≡ Some y → CameFrom c u y → CameFrom c u (f y)) →
      AllCame e → AllCame (on_doing u f e)
  came_do u f e its t w x found = ⊎_elim {C = CameFrom c w x}
      (λ same. here same (doing_of u e) refl found) (λ other. t w x (sym (left (doing_of u e) refl other) ∙ found)) (uid_cases w u)
    where
      left : (o : Option Doing) → doing_of u e ≡ o → w ≢ u → doing_of w (change_doing f u e o) ≡ doing_of w e
      left None none other = refl
      left (Some y) at other = doing_other u w (f y) y e at other

      here : w ≡ u → (o : Option Doing) → doing_of u e ≡ o → doing_of w (change_doing f u e (doing_of u e)) ≡ Some x → CameFrom c w x
      here same None none is =
          let no_way : ◌≡◌ {A = Option Doing} None (Some x) = sym none ∙ ap (λ v. doing_of v e) (sym same)
          ∙ (λ i. doing_of w (change_doing f u e (sym none i))) ∙ is in
          absurd (cc no_way)
      here same (Some y) at is =
          let one : f y ≡ x = some_is (sym (doing_here u f e y at) ∙ ap (λ v. doing_of v (on_doing u f e)) (sym same) ∙ is) in
          subst (λ v. CameFrom c v x) (sym same) (subst (CameFrom c u) one (its y at (t u y at)))

  -- it waits for no call
  abbrev pub IsNoCall : Uid → Type 0
  IsNoCall u = (d : Doing) → doing_of u c ≡ Some d → calling d.now ≡ None

  no_steps : {A : Type 0} {n : Now} (s : Steps) → calling n ≡ None → n ≡ Calling s → A
  no_steps s none is = let no_way : ◌≡◌ {A = Option Steps} (Some s) None = ap calling (sym is) ∙ none in absurd (cc no_way)

  -- an action that waits for no call goes on to wait for none
  came_else : (u : Uid) (f : Doing → Doing) (e : Coord) → IsNoCall u → ((y : Doing) → (f y).label ≡ y.label) →
      ((y : Doing) → calling y.now ≡ None → calling (f y).now ≡ None) → AllCame e → AllCame (on_doing u f e)
  came_else u f e none label idle t = came_do u f e (λ y at came. (
    came.0,
    came.1,
    record {
      label = label y ∙ (let l = came.2 in l.label);
      idle = λ is. idle y (let l = came.2 in l.idle is);
      busy = λ s is. no_steps s (none came.0 came.1) is;
    },
  )) t

  came_ended : (u : Uid) (how : End) (e : Coord) → IsNoCall u → AllCame e → AllCame (ended u how e)
  came_ended u how e none t = let g = end_tree_on u how e in
      came_else u (λ (d : Doing). record d { now = Idle }) (record e { tree = ended_at u how e.tree }) none (λ y. refl) (λ y is. refl)
      (came_own e (record e { tree = ended_at u how e.tree }) g.own refl t)

  came_all : (us : List Uid) (e : Coord) → AllByRecursion IsNoCall us → AllCame e → AllCame (all_aborted us e).part
  came_all [] e none t = t
  came_all (u ∷ us) e none t = came_all us (ended u ending.Abort e) none.1 (came_ended u ending.Abort e none.0 t)

  came_asked : (p : Path) (req : ℕ) (asked : List (ℕ × Ask)) (e : Coord) → AllCame e → AllCame (asks_all p req asked e).part
  came_asked p req [] e t = t
  came_asked p req (a ∷ rest) e t = came_asked p req rest (asks_node p req a e).part (λ u x found. t u x found)

  came_decide : (p : Plan) (e : Coord) → IsNoCall (actor p.path) → AllCame e → AllCame (decide p e).part
  came_decide p e none t = by (has_record p)
    where
      f : Coord
      f = ended (actor p.path) ending.Commit e

      r : Coord
      r = on_root (root_of p.path) (root_after p) (on_doing (actor p.path) (λ (d : Doing). record d { took = participants p }) f)

      its : AllCame r
      its u x found = came_else (actor p.path) (λ (d : Doing). record d { took = participants p }) f none (λ y. refl) (λ y is. is)
          (came_ended (actor p.path) ending.Commit e none t) u x found

      by : (b : Bool) → AllCame
          (cond b (record r { telling = put_uid (actor p.path) (record { root = root_of p.path; nodes = participants p }) r.telling }) r)
      by true = λ u x found. its u x found
      by false = its

  -- what a step of a commit decides is the end of its own action
  abbrev IsOfPlan : Uid → CommitStep → Type 0
  IsOfPlan u (Decides p) = actor p.path ≡ u
  IsOfPlan u s = ⊤

  came_step : (u : Uid) (st : CommitStep) (intents : List (Uid × Intent)) → IsNoCall u → IsOfPlan u st →
      AllCame (step_commit u st intents c).part
  came_step u (Stays m) intents none own =
      came_else u (λ (d : Doing). record d { req = (plan_of m).req; now = Committing m }) c none (λ y. refl) (λ y is. refl) came_same
  came_step u (Asks m) intents none own = came_asked (plan_of m).path (plan_of m).req (commit.waiting m) (commits_in u m c)
      (came_else u (λ (d : Doing). record d { req = (plan_of m).req; now = Committing m }) c none (λ y. refl) (λ y is. refl) came_same)
  came_step u (Decides p) intents none own = came_decide p c (subst IsNoCall (sym own) none) came_same
  came_step u (Aborts why p) intents none own = came_ended u ending.Abort c none came_same

  -- ---- calls

  -- a call goes on with another step
  came_goes : (s : Steps) (t : Steps) (d : Doing) (e : Coord) → doing_of (actor s.path) c ≡ Some d → d.now ≡ Calling s → IsOneCall s t →
      AllCame e → AllCame (goes_on t e).part
  came_goes s t d e found is one all u x at =
      came_do (actor t.path) (λ (y : Doing). record y { req = t.req; now = Calling t }) e (λ y there came. (
        came.0,
        came.1,
        record {
          label = (let l = came.2 in l.label);
          idle = λ none. no_steps s none (ap (λ (z : Doing). z.now) (mine came.0 came.1) ∙ is);
          busy = λ q calls. (
            t,
            refl,
            subst (λ (z : Steps). IsOneCall z t)
                (steps_is s q (sym is ∙ ap (λ (z : Doing). z.now) (sym (mine came.0 came.1)) ∙ calls)) one,
          );
        },
      )) all u x at
    where
      mine : (z : Doing) → doing_of (actor t.path) c ≡ Some z → z ≡ d
      mine z there = some_is (sym there ∙ ap (λ p. doing_of (actor p) c) one.path ∙ found)

      steps_is : (a b : Steps) → Calling a ≡ Calling b → a ≡ b
      steps_is a b same = some_is (ap calling same)

  -- ends with a line behind lines
  ends_turn : (W : Why) (u : Uid) (d : Doing) (s : Steps) (g : CallEnd) (front : List Effect) (e : Coord) → doing_of u c ≡ Some d →
      d.now ≡ Calling s →
      actor s.path ≡ u → AreGiveups front → W u s g → doing_of u e ≡ Some d → AllCame e →
      TurnsSo W c (front ++ (step_call s (Ended g) e).outs) (step_call s (Ended g) e).part
  ends_turn W u d s g front e found is own lined why there all =
      EndsSo u d s g front found is lined why (ap (λ (o : Option Doing). front ++ say_for (end_line s.x s.goal g) o)
      (ap (λ v. doing_of v e) own ∙ there)) ended_so
    where
      After : Uid → Doing → Type 0
      After w x = ((w ≡ u) × (x.label ≡ d.label) × (calling x.now ≡ None)) ⊎ ((w ≢ u) × CameFrom c w x)

      idle : Coord
      idle = on_root (root_of s.path) (root_heard s g) (on_doing (actor s.path) (λ (y : Doing). record y { now = Idle }) e)

      rests : (w : Uid) (x : Doing) → doing_of w idle ≡ Some x → After w x
      rests w x at = ⊎_elim {C = After w x} (λ same. inl (same, (here same).0, (here same).1))
          (λ other. inr (other, all w x (sym (left other) ∙ at)))
          (uid_cases w u)
        where
          here : w ≡ u → (x.label ≡ d.label) × (calling x.now ≡ None)
          here same =
              let its : record d { now = Idle } ≡ x = some_is (sym (doing_here (actor s.path) (λ (y : Doing). record y { now = Idle }) e d
              (ap (λ v. doing_of v e) own ∙ there)) ∙ ap (λ v. doing_of v (on_doing (actor s.path) (λ (y : Doing). record y {
                now =
                    Idle;
              }) e))
              (own ∙ sym same) ∙ at) in
              (ap (λ (z : Doing). z.label) (sym its), ap (λ (z : Doing). calling z.now) (sym its))

          left : w ≢ u → doing_of w (on_doing (actor s.path) (λ (y : Doing). record y { now = Idle }) e) ≡ doing_of w e
          left other = by (doing_of (actor s.path) e) refl
            where
              by : (o : Option Doing) → doing_of (actor s.path) e ≡ o →
                  doing_of w (change_doing (λ (y : Doing). record y { now = Idle }) (actor s.path) e o) ≡ doing_of w e
              by None none = refl
              by (Some y) at = doing_other (actor s.path) w (record y { now = Idle }) y e at (λ same. other (same ∙ own))

      ended_so : (w : Uid) (x : Doing) → doing_of w (doomed_by (actor s.path) g idle) ≡ Some x → After w x
      ended_so = by g
        where
          by : (h : CallEnd) → (w : Uid) (x : Doing) → doing_of w (doomed_by (actor s.path) h idle) ≡ Some x → After w x
          by (Answered a) w x at = rests w x at
          by (Included st) w x at = rests w x at
          by (Conflict h m k) w x at = rests w x at
          by (Changed k m) w x at = rests w x at
          by (Lost k false) w x at = rests w x at
          by (Lost k true) w x at = let q = doomed_same (actor s.path) idle.tree in
              rests w x ((λ i. cond (sym (q.own w) i) (at_place w.num idle.doings) None) ∙ at)

  -- ---- all that it does

  module _ (actions : List Action) (paths : Paths) (tree : IsTree paths) (good : IsGoodCoord actions paths c) where
    its_actor : (u : Uid) (d : Doing) (s : Steps) → doing_of u c ≡ Some d → d.now ≡ Calling s → actor s.path ≡ u
    its_actor u d s found is = actor_is actions paths tree u s.path c good (subst (IsBusy c.tree u) is (good.busy u d found))

    -- a commit is of its own action
    its_plan : (u : Uid) (d : Doing) (m : Machine) → doing_of u c ≡ Some d → d.now ≡ Committing m → actor (let p = plan_of m in p.path) ≡ u
    its_plan u d m found is = let v = subst (IsBusy c.tree u) is (good.busy u d found) in
        actor_is actions paths tree u (let p = plan_of m in p.path) c good v.asking

    no_call : (u : Uid) (d : Doing) (m : Machine) → doing_of u c ≡ Some d → d.now ≡ Committing m → IsNoCall u
    no_call u d m found is x at = ap (λ (z : Doing). calling z.now) (some_is (sym at ∙ found)) ∙ ap calling is

    -- a call takes a step
    call_turn : (W : Why) (u : Uid) (d : Doing) (s : Steps) (front : List Effect) (n : CallStep) (e : Coord) → doing_of u c ≡ Some d →
        d.now ≡ Calling s →
        AreGiveups front → AreDumb front → StepEnds (W u s) n → doing_of u e ≡ Some d → AllCame e →
        TurnsSo W c (front ++ (step_call s n e).outs) (step_call s n e).part
    call_turn W u d s front (On at) e found is lined dumb why there all =
        RestsSo (dumb_both front (step_call s (On at) e).outs dumb (tt, tt))
        (came_goes s (record s { req = s.req + 1; at = at }) d e (ap (λ v. doing_of v c) (its_actor u d s found is) ∙ found) is
        (record { path = refl; object = refl; goal = refl }) all)
    call_turn W u d s front (Ended g) e found is lined dumb why there all =
        ends_turn W u d s g front e found is (its_actor u d s found is) lined why there all

    pub heard_turn : (from : ℕ) (a : Asked) (r : Reply) (intents : List (Uid × Intent)) →
        TurnsSo (IsHeardBy from a r) c (heard from a r intents c).outs (heard from a r intents c).part
    heard_turn from a r intents = by (doing_of a.act c) refl
      where
        nothing : TurnsSo (IsHeardBy from a r) c [] c
        nothing = RestsSo tt came_same

        now : (d : Doing) → doing_of a.act c ≡ Some d → (n : Now) → d.now ≡ n →
            TurnsSo (IsHeardBy from a r) c (heard_now from a r intents c n).outs (heard_now from a r intents c n).part
        now d found Idle is = nothing
        now d found (Calling s) is = one (waits_for_call from a r s) refl
          where
            m : Moved
            m = answered (is_free (root_of s.path) (actor s.path) s.x c) (kept_at s c) s.goal s.at r

            Result : Bool → Served Coord (Unit {0})
            Result w = cond {A = Served Coord (Unit {0})} w (heard_by (heard_call s r c)) (heard_none c)

            -- whatever the answer ends is heard
            ends_so : waits_for_call from a r s ≡ true → StepEnds (IsHeardBy from a r a.act s) m.step
            ends_so waits = answered_ends (IsHeardBy from a r a.act s)
                (λ n w. record { act = refl; waits = waits; fits = tt; its = λ x e. absurd (cc e) })
                (λ u q n. record { act = refl; waits = waits; fits = tt; its = λ x e. absurd (cc e) })
                (λ n sent. record { act = refl; waits = waits; fits = tt; its = λ x e. absurd (cc e) })
                s.goal (is_free (root_of s.path) (actor s.path) s.x c) (kept_at s c) s.at r
                (λ st it. record { act = refl; waits = waits; fits = it; its = λ x e. absurd (cc e) })
                (λ k i x at_it it. record {
                  act = refl;
                  waits = waits;
                  fits = tt;
                  its = λ y e. (k, i, at_it, it ∙ ap (λ z. Reply.Invoked (invoked.Answered z)) (let same : x ≡ y = cc e in same));
                })

            one : (w : Bool) → waits_for_call from a r s ≡ w → TurnsSo (IsHeardBy from a r) c (Result w).outs (Result w).part
            one true waits = call_turn (IsHeardBy from a r) a.act d s [] m.step
                (on_root (root_of s.path) (root_moved s r m) c) found is tt tt
                (ends_so waits) found (λ u x at. came_same u x at)
            one false waits = nothing
        now d found (Committing m) is = one (waits_for_commit from a r m)
          where
            st : CommitStep
            st = (commit.answered from m r).step

            own : (s : CommitStep) → IsStepOf actions paths tree (plan_of m) s → IsOfPlan a.act s
            own (Stays k) so = tt
            own (Asks k) so = tt
            own (Decides p) so = ap actor so.0 ∙ its_plan a.act d m found is
            own (Aborts why p) so = tt

            Result : Bool → Served Coord (Unit {0})
            Result w = cond {A = Served Coord (Unit {0})} w (heard_by (moved_commit a.act (commit.answered from m r) intents c))
                (heard_none c)

            one : (w : Bool) → TurnsSo (IsHeardBy from a r) c (Result w).outs (Result w).part
            one true = RestsSo (moved_dumb a.act (commit.answered from m r) intents c)
                (came_step a.act st intents (no_call a.act d m found is)
                (own st (answer_step actions paths tree from m r)))
            one false = nothing

        by : (o : Option Doing) → doing_of a.act c ≡ o → TurnsSo (IsHeardBy from a r) c (heard_doing from a r intents c o).outs
            (heard_doing from a r intents c o).part
        by None is = nothing
        by (Some d) is = now d is d.now refl

    give_turn : (u : Uid) (intents : List (Uid × Intent)) → TurnsSo IsGivenUp c (give_up u intents c).outs (give_up u intents c).part
    give_turn u intents = by (doing_of u c) refl
      where
        now : (d : Doing) → doing_of u c ≡ Some d → (n : Now) → d.now ≡ n →
            TurnsSo IsGivenUp c (gives_up u intents c n).outs (gives_up u intents c n).part
        now d found Idle is = RestsSo tt came_same
        now d found (Calling s) is = call_turn IsGivenUp u d s (gaveup_lines u (next_node s ∷ []) c) (given_up s.at)
            (on_root (root_of s.path) (root_lost s (given_up s.at)) c) found is (gaveup_lined u (next_node s ∷ []) c)
            (gaveup_dumb u (next_node s ∷ []) c) (lost_ends u s s.at) found
            (λ w x at. came_same w x at)
        now d found (Committing m) is =
            RestsSo (dumb_both (gaveup_lines u (nodes_given_up m) c) (moved_commit u (commit.given_up m) intents c).outs
            (gaveup_dumb u (nodes_given_up m) c) (moved_dumb u (commit.given_up m) intents c))
            (came_step u (commit.given_up m).step intents (no_call u d m found is)
            (own (commit.given_up m).step (giveup_step actions paths tree m)))
          where
            own : (s : CommitStep) → IsStepOf actions paths tree (plan_of m) s → IsOfPlan u s
            own (Stays k) so = tt
            own (Asks k) so = tt
            own (Decides p) so = ap actor so.0 ∙ its_plan u d m found is
            own (Aborts why p) so = tt

        by : (o : Option Doing) → doing_of u c ≡ o →
            TurnsSo IsGivenUp c (give_up_doing u intents c o).outs (give_up_doing u intents c o).part
        by None is = RestsSo tt came_same
        by (Some d) is = now d is d.now refl

    -- ---- who doesn't wait

    idle_now : (n : Now) → is_waiting_now n ≡ false → calling n ≡ None
    idle_now Idle is = refl
    idle_now (Calling s) is = absurd (cc is)
    idle_now (Committing m) is = refl

    no_wait : (u : Uid) → waits c u ≡ false → IsNoCall u
    no_wait u is d found = idle_now d.now (ap is_waiting (sym found) ∙ is)

    or_none : (a b : Bool) → (a || b) ≡ false → (a ≡ false) × (b ≡ false)
    or_none true b is = absurd (cc is)
    or_none false b is = (refl, is)

    on_path : (us : List Uid) (u : Uid) → is_on us u ≡ true → list_any (waits c) us ≡ false → IsNoCall u
    on_path [] u on none = absurd (cc on)
    on_path (w ∷ us) u on none = let q = or_none (waits c w) (list_any (waits c) us) none in
        by (uid_eq w u) refl on q.0 (λ o. on_path us u o q.1)
      where
        by : (b : Bool) → uid_eq w u ≡ b → (b || is_on us u) ≡ true → waits c w ≡ false → (is_on us u ≡ true → IsNoCall u) → IsNoCall u
        by true same o one rest = subst IsNoCall (uid_is w u same) (no_wait w one)
        by false other o one rest = rest o

    below_none : (u : Uid) (bs : List Branch) (found : List Uid) → list_any (λ w. is_open_below u w && waits c (actor w.path)) bs ≡ false →
        AllByRecursion IsNoCall found → AllByRecursion IsNoCall (latest_first (filter (is_open_below u) bs) found)
    below_none u [] found none all = all
    below_none u (b ∷ bs) found none all =
        let q = or_none (is_open_below u b && waits c (actor b.path))
        (list_any (λ w. is_open_below u w && waits c (actor w.path)) bs) none in
        by (is_open_below u b) q.0 (λ more given. below_none u bs more q.1 given)
      where
        by : (x : Bool) → (x && waits c (actor b.path)) ≡ false →
            ((more : List Uid) → AllByRecursion IsNoCall more → AllByRecursion IsNoCall (latest_first (filter (is_open_below u) bs) more)) →
            AllByRecursion IsNoCall (latest_first (cond x (b ∷ filter (is_open_below u) bs) (filter (is_open_below u) bs)) found)
        by true one go = go (actor b.path ∷ found) (no_wait (actor b.path) one, all)
        by false one go = go found all

    none_both : (us ws : List Uid) → AllByRecursion IsNoCall us → AllByRecursion IsNoCall ws → AllByRecursion IsNoCall (us ++ ws)
    none_both [] ws a b = b
    none_both (u ∷ us) ws a b = (a.0, none_both us ws a.1 b)

    -- ---- inputs

    commit_turn : (b : Branch) (intents : List (Uid × Intent)) → IsNoCall (actor b.path) →
        TurnsSo IsGivenUp c (commit_action b intents c).outs (commit_action b intents c).part
    commit_turn b intents none = doomed b.doomed
      where
        u : Uid
        u = actor b.path

        plan : Plan
        plan = plan_for b.path (last_req (doing_of u c)) (root_at (root_of b.path) c) c

        own : (s : CommitStep) → IsStepOf actions paths tree plan s → IsOfPlan u s
        own (Stays k) so = tt
        own (Asks k) so = tt
        own (Decides p) so = ap actor so.0
        own (Aborts why p) so = tt

        top : TurnsSo IsGivenUp c (commit_top b.path intents c).outs (commit_top b.path intents c).part
        top = RestsSo (top_dumb b.path intents c)
            (came_step u (commit.start plan).step intents none
            (own (commit.start plan).step (vote_step actions paths tree (servers_of plan) plan plan (refl, refl))))

        ends : (e : End) (f : Label → Body) → ((l : Label) → is_reply (f l) ≡ false) →
            TurnsSo IsGivenUp c (ends_with u e f intents c).outs (ends_with u e f intents c).part
        ends e f its = RestsSo (ends_dumb u e f intents c its) (came_ended u e c none came_same)

        kinds : (q : Kind) → TurnsSo IsGivenUp c (commit_open b intents c q).outs (commit_open b intents c q).part
        kinds kind.Nested = ends ending.Commit body.Committed (λ l. refl)
        kinds kind.Serial = ends ending.Commit body.Ended (λ l. refl)
        kinds kind.Top = top
        kinds kind.Independent = top
        kinds kind.Constituent = top

        Result : Bool → Did Coord
        Result w = cond {A = Did Coord} w (aborts_with u cause.Doomed intents c) (commit_open b intents c b.kind)

        doomed : (w : Bool) → TurnsSo IsGivenUp c (Result w).outs (Result w).part
        doomed true = ends ending.Abort (λ l. body.Aborted l cause.Doomed) (λ l. refl)
        doomed false = kinds b.kind

    abort_turn : (b : Branch) (intents : List (Uid × Intent)) →
        AllByRecursion IsNoCall (open_below (actor b.path) c.tree ++ actor b.path ∷ []) →
        TurnsSo IsGivenUp c (abort_action (actor b.path) intents c).outs (abort_action (actor b.path) intents c).part
    abort_turn b intents none =
        RestsSo (abort_dumb (actor b.path) intents c)
        (came_all (open_below (actor b.path) c.tree ++ actor b.path ∷ []) c none came_same)

    -- who isn't refused doesn't wait
    free_above : (b : Branch) (rest : List (ℕ × Bool)) → first_reason
        ((6, is_some b.ended) ∷ (7, waits_above b c || waits_below b c) ∷ rest) ≡ None →
        (waits_above b c ≡ false) × (waits_below b c ≡ false)
    free_above b rest free =
        let one = first_not 6 (is_some b.ended) ((7, waits_above b c || waits_below b c) ∷ rest) free in
        or_none (waits_above b c) (waits_below b c) (first_not 7 (waits_above b c || waits_below b c) rest one.1).0

    itself : (b : Branch) → waits_above b c ≡ false → IsNoCall (actor b.path)
    itself b none = on_path (uids_of b.path) (actor b.path) (on_own b.path) none

    -- of whom a call or an include is asked
    pub asked_idle : (b : Branch) (rest : List (ℕ × Bool)) →
        first_reason ((6, is_some b.ended) ∷ (7, waits_above b c || waits_below b c) ∷ rest) ≡ None → IsNoCall (actor b.path)
    asked_idle b rest free = itself b (free_above b rest free).0

    -- inputs other than a call, an include, and the beginning of an action
    pub acts_turn : (hd : Header) (i : Input) (intents : List (Uid × Intent)) → is_else i ≡ true → refusal_up hd i c ≡ None →
        TurnsSo IsGivenUp c (acts i intents c).outs (acts i intents c).part
    acts_turn hd (input.Begin l q parent) intents is free = absurd (cc is)
    acts_turn hd (input.Call l x o) intents is free = absurd (cc is)
    acts_turn hd (input.Include l x s) intents is free = absurd (cc is)
    acts_turn hd (input.Commit l) intents is free = by (branch_named l c) free
      where
        by : (f : Option Branch) → refused_by commit_reasons c f ≡ None →
            TurnsSo IsGivenUp c (on_branch (λ b. commit_action b intents c) c f).outs (on_branch (λ b. commit_action b intents c) c f).part
        by None none = absurd (cc none)
        by (Some b) none =
            let one = first_not 6 (is_some b.ended) ((7, (waits_above b c || waits_below b c) || sibling_waits b c)
            ∷ (9, has_open_child (actor b.path) c.tree) ∷ []) none in
            let two = first_not 7 ((waits_above b c || waits_below b c) || sibling_waits b c)
            ((9, has_open_child (actor b.path) c.tree) ∷ []) one.1 in
            let three = or_none (waits_above b c || waits_below b c) (sibling_waits b c) two.0 in
            commit_turn b intents (itself b (or_none (waits_above b c) (waits_below b c) three.0).0)
    acts_turn hd (input.Abort l) intents is free = by (branch_named l c) free
      where
        by : (f : Option Branch) → refused_by abort_reasons c f ≡ None →
            TurnsSo IsGivenUp c (on_branch (λ b. abort_action (actor b.path) intents c) c f).outs
            (on_branch (λ b. abort_action (actor b.path) intents c) c f).part
        by None none = absurd (cc none)
        by (Some b) none =
            let q = free_above b [] none in
            abort_turn b intents (none_both (open_below (actor b.path) c.tree) (actor b.path ∷ [])
            (below_none (actor b.path) (let t = c.tree in t.branches) [] q.1 tt) (itself b q.0, tt))
    acts_turn hd (input.GiveUp l) intents is free = by (branch_named l c)
      where
        by : (f : Option Branch) →
            TurnsSo IsGivenUp c (on_branch (λ b. give_up (actor b.path) intents c) c f).outs
            (on_branch (λ b. give_up (actor b.path) intents c) c f).part
        by None = RestsSo tt came_same
        by (Some b) = give_turn (actor b.path) intents
    acts_turn hd (input.Frame j from m) intents is free = RestsSo tt came_same
    acts_turn hd input.Tick intents is free = RestsSo tt came_same
    acts_turn hd input.Restart intents is free = RestsSo tt came_same
    acts_turn hd input.Crash intents is free = RestsSo tt came_same
    acts_turn hd (input.Show x) intents is free = RestsSo tt came_same

  pub acked_turn : (W : Why) (from : ℕ) (u : Uid) (intents : List (Uid × Intent)) →
      TurnsSo W c (acked from u intents c).outs (acked from u intents c).part
  acked_turn W from u intents = by (at_uid u c.telling)
    where
      gone : (o : Option Intent) → AreDumb (tolds_let_go u (without_uid u intents) c o)
      gone None = tt
      gone (Some i) = one (not (uid_eq i.root u) && is_over (branch_of i.root c.tree))
        where
          one : (b : Bool) →
              AreDumb (cond b (tell_all i.root false ((i.root, ending.Abort) ∷ []) (let_go i.root (without_uid u intents) c i.nodes)) [])
          one true = tells_dumb i.root false ((i.root, ending.Abort) ∷ []) (let_go i.root (without_uid u intents) c i.nodes)
          one false = tt

      left : (i : Intent) (ns : List ℕ) → TurnsSo W c (acked_left u i intents c ns).outs (acked_left u i intents c ns).part
      left i [] = RestsSo (tt, gone (at_uid u intents)) (λ w x at. came_same w x at)
      left i (n ∷ ns) = RestsSo tt (λ w x at. came_same w x at)

      by : (o : Option Intent) → TurnsSo W c (acked_by from u intents c o).outs (acked_by from u intents c o).part
      by None = RestsSo tt came_same
      by (Some i) = one (has i.nodes from)
        where
          Result : Bool → Served Coord (Unit {0})
          Result b = cond {A = Served Coord (Unit {0})} b (acked_left u i intents c (without_number from i.nodes))
              (record { part = c; outs = []; reply = None })

          one : (b : Bool) → TurnsSo W c (Result b).outs (Result b).part
          one true = left i (without_number from i.nodes)
          one false = RestsSo tt came_same

  again_came : (ds : List Doing) (e : Coord) → AllCame e → AllCame (again_all ds e).part
  again_came [] e t = t
  again_came (d ∷ ds) e t = again_came ds (again_now e d.now).part (now d.now)
    where
      now : (q : Now) → AllCame (again_now e q).part
      now Idle = t
      now (Calling s) = λ u x found. t u x found
      now (Committing m) = came_asked (plan_of m).path (plan_of m).req (commit.waiting m) e t

  pub again_turn : (u : Uid) (x : Doing) → doing_of u (again_all c.doings c).part ≡ Some x → CameFrom c u x
  again_turn = again_came c.doings c came_same

-- ---- numbers

pub rise_of : (c e : Coord) → IsFurther c e → NumbersRise c e
rise_of c e further u d x found at = let q = further u d found in
    subst (λ (z : Doing). d.req ≤ z.req) (some_is (sym q.1 ∙ at)) (let l = q.2 in l.low)

pub rise_same : (c : Coord) → NumbersRise c c
rise_same c u d x found at = subst (λ (z : Doing). d.req ≤ z.req) (some_is (sym found ∙ at)) (itself d.req)
  where
    itself : (n : ℕ) → n ≤ n
    itself n = omega arith
