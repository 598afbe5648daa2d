-- What one call or include leads to within an event, where each message of it is to the node itself: naming makes one binding at most, and
-- what waits behind it stands on the last one.
use Rattle.arj_law_parts.proofs.Words
use Words.{◌≡◌, ◌⊎◌, ◌∙◌, ◌≤◌, ◌+◌, ◌==◌, ◌||◌, ◌&&◌, ℕ, zero, suc, Bool, true, false, cond, List, [], ◌∷◌, ◌++◌, refl, sym, ap, subst}
use Words.{arith}
use Words.{⊤, Option, Some, None, inl, inr, ⊎_elim, option_map, list_all, and_parts, map, filter, eqb-true, all_both, AreAll}
use Words.{Ask, Asked, Binding, Body, BoundReply, End, Head, Message, ObjectState, Uid, asks, object, request, Reply, actor, answers}
use Words.{asked_by, last_end}
use Words.{reply_kind, response, heard, heard_by, heard_call, heard_doing, heard_none, heard_now, kept_at, moved_commit, root_heard}
use Words.{root_moved}
use Words.{step_call, step_commit, waits_for_call, waits_for_commit, commits_in, At, AtActivate, AtBind, AtInvoke, AtLoad, AtNote}
use Words.{CallStep, Ended, Goal, Include, Known, On, Run, Steps, answered, bound_by, is_include, live_known, loaded_state, made_known}
use Words.{moves, finds}
use Words.{named_again, other_binding, same_binding, two_bindings, two_incs, with_inc, write_known, Aborts, Asks, Decides, Machine}
use Words.{Marked, Plan, Stays}
use Words.{plan_of, waiting, Calling, Committing, Coord, Doing, Idle, Now, doing_of, is_free, on_doing, on_root, Did, Disk, Do, Effect}
use Words.{InDoubt}
use Words.{Intent, Look, Old, Prep, Prepare, Ready, Already, Say, Send, Served, held_at, holder_of, is_prepared, prepare_answer, confirm}
use Words.{decide, ended}
use Words.{acked, acked_by, acked_left, answer_decided, answer_query, answer_recorded, is_deferred, is_kept_commit, root_after, Naming}
use Words.{Handled, Here, Parts}
use Words.{Ran, Took, Void, ack_told, by_reply, coord_heard, end_states, first_done, first_queued, handle, handle_all, handle_answer}
use Words.{handle_ask, handle_ends}
use Words.{handle_other, holders, if_naming, is_earlier, is_meant, load_by, load_held, most_rounds, naming_told, next_round, prepare_by}
use Words.{prepare_states, query_about, ran, ran_handled, rounds, sends_answer, serve, store_told, taken, whole, with_coord, with_naming}
use Words.{with_server, binding_eq}
use Words.{binding_less, at_uid, has, put_uid, without_number, is_server_effect, is_naming_effect, activate_own, bind_own, confirm_own}
use Words.{ends_own, invoke_own}
use Words.{note_own, told_own, vote_own, ended_at, is_open, root_of}
use Words.list as members
use Words.ask
use Words.body
use Words.bound
use Words.calls
use Words.commit
use Words.ending
use Words.invoked
use Words.loaded
use Words.message
use Words.naming
use Words.prepared
use Words.recorded
use Words.role
use Words.server
use Rattle.arj_law_runs.proofs.bindings.Handled.{outs_of, taken_weigh}
use Rattle.arj_law_runs.proofs.bindings.Weights.{bind_ask, bind_by, binds, weigh}
use Rattle.arj_law_runs.proofs.coordinators.CoordUses.{on_cases}
use Rattle.arj_law_runs.proofs.resting
use resting.{Effects.ran_here, Hearing.all_doing, Hearing.doomed_work, Hearing.end_work}
use Rattle.arj_law_serial.proofs.holding.Says as saying
use Rattle.arj_protocol.proofs.Ranks.{acked_above, heard_above, weaker}
use Rattle.arj_protocol.specs.Rank.{is_above}
use Rattle.arj_law_cause.proofs.bindings.Counted.{is_unbound, light_unbound}

-- ---- effects that answer no Bind

abbrev pub no_bound : Option (Asked × Reply) → Bool
no_bound (Some (a, Reply.Bound r)) = false
no_bound o = true

-- what is sent is no answer to a Bind
abbrev is_other : Effect → Bool
is_other (Send to m) = no_bound (answers m)
is_other e = true

abbrev AllOther : List Effect → Type 0
AllOther es = AreAll is_other es

both_other : (es fs : List Effect) → AllOther es → AllOther fs → AllOther (es ++ fs)
both_other es fs a b = all_both is_other es fs a b

server_other : (n : ℕ) (es : List Effect) → AreAll (is_server_effect n) es → AllOther es
server_other n es own = weaker (is_server_effect n) is_other one es own
  where
    one : (e : Effect) → is_server_effect n e ≡ true → is_other e ≡ true
    one (Say b) is = refl
    one (Do w) is = refl
    one (Send to m) is = absurd (cc is)

naming_other : (es : List Effect) → AreAll is_naming_effect es → AllOther es
naming_other es own = weaker is_naming_effect is_other one es own
  where
    one : (e : Effect) → is_naming_effect e ≡ true → is_other e ≡ true
    one (Say b) is = refl
    one (Do w) is = refl
    one (Send to m) is = absurd (cc is)

above_other : (k : ℕ) → 3 ≤ k → (es : List Effect) → AreAll (is_above k) es → AllOther es
above_other k high es above = weaker (is_above k) is_other one es above
  where
    low : Words.nat_lt k 3 ≡ true → ⊥
    low is = grind (arith, Words.nat_tests, is, high)

    one : (e : Effect) → is_above k e ≡ true → is_other e ≡ true
    one (Send to (message.Bound m)) is = absurd (low is)
    one e is = refl

-- ---- what stands on the last binding

module _ (W : Uid → Type 0) (x : ℕ) (g : Goal) (G : Binding → Type 0) where
  -- a Load of a call is for such a binding
  abbrev OfLoad : Goal → Known → Type 0
  OfLoad (Run o) k = G k.binding
  OfLoad (Include s) k = ⊤

  -- a step that takes or records a binding stands on such a one
  abbrev pub AtFine : At → Type 0
  AtFine (AtLoad k s rest) = OfLoad g k
  AtFine (AtActivate k st) = G k.binding
  AtFine (AtNote k i) = G k.binding
  AtFine at = ⊤

  -- so does an answer that makes a binding; and what asks for one isn't answered by a lock alone
  abbrev pub ReplyFine : Reply → Type 0
  ReplyFine (Reply.Bound (bound.Make b s n ss)) = G b
  ReplyFine (Reply.Bound (bound.Write n ss)) = is_include g ≡ true
  ReplyFine r = ⊤

  abbrev pub AnswerFine : Option (Asked × Reply) → Type 0
  AnswerFine None = ⊤
  AnswerFine (Some a) = W (let q = a.0 in q.act) ⊎ ReplyFine a.1

  abbrev StepFine : CallStep → Type 0
  StepFine (On at) = AtFine at
  StepFine (Ended e) = ⊤

  inc_fine : (i : ℕ) (old : Known) (at : At) → AtFine at → (o : Option ℕ) → StepFine (with_inc i old at o).step
  inc_fine i old at fine None = fine
  inc_fine i old at fine (Some first) = by (first == i)
    where
      by : (b : Bool) → StepFine (cond b (moves (Some old) at) (finds (Some old) (calls.Changed old.server (two_incs first i)))).step
      by true = fine
      by false = tt

  bound_fine : (free : Bool) (k : Known) (at : At) → AtFine at → (o : Option Known) → StepFine (bound_by free k at o).step
  bound_fine free k at fine None = fine
  bound_fine free k at fine (Some old) = by (binding_eq old.binding k.binding)
    where
      same : (i : Option ℕ) → StepFine (same_binding old k at i).step
      same None = fine
      same (Some i) = inc_fine i (named_again old k) at fine old.inc

      other : (b : Bool) → StepFine (cond b (moves (Some k) at) (finds (Some old) (calls.Changed 1
          (two_bindings old.binding k.binding)))).step
      other true = fine
      other false = tt

      by : (b : Bool) → StepFine (cond b (same_binding old k at k.inc) (other_binding free old k at)).step
      by true = same k.inc
      by false = other (free && binding_less old.binding k.binding)

  load_fine : (h : Goal) (k : Known) → G k.binding → OfLoad h k
  load_fine (Run o) k good = good
  load_fine (Include s) k good = tt

  write_fine : (h : Goal) (k : Known) → is_include h ≡ true → OfLoad h k
  write_fine (Run o) k is = absurd (cc is)
  write_fine (Include s) k is = tt

  state_fine : (h : Goal) (kept : Option Known) (k : Known) (st : ObjectState) → OfLoad h k → StepFine (loaded_state kept k st h).step
  state_fine (Run o) kept k st fine = fine
  state_fine (Include s) kept k st fine = tt

  active_fine : (kept : Option Known) (k : Known) (i : ℕ) → G k.binding → StepFine (calls.activated_by k i kept).step
  active_fine None k i fine = fine
  active_fine (Some old) k i fine = by (binding_eq old.binding k.binding)
    where
      by : (b : Bool) → StepFine (cond b (with_inc i old (AtNote k i) old.inc) (moves (Some old) (AtNote k i))).step
      by true = inc_fine i old (AtNote k i) fine old.inc
      by false = fine

  next_fine : (free : Bool) (kept : Option Known) (at : At) (r : Reply) → AtFine at → ReplyFine r →
      StepFine (answered free kept g at r).step
  next_fine free kept (AtBind avoid) (Reply.Bound (bound.Live b s i n ss)) w y =
      bound_fine free (live_known b s i n ss) (AtInvoke (live_known b s i n ss) i) tt kept
  next_fine free kept (AtBind avoid) (Reply.Bound (bound.Make b s n [])) w y = tt
  next_fine free kept (AtBind avoid) (Reply.Bound (bound.Make b s n (t ∷ ts))) w y = bound_fine free (made_known b s n (t ∷ ts))
      (AtLoad (made_known b s n (t ∷ ts)) t ts) (load_fine g (made_known b s n (t ∷ ts)) y) kept
  next_fine free kept (AtBind avoid) (Reply.Bound (bound.Write n [])) w y = tt
  next_fine free kept (AtBind avoid) (Reply.Bound (bound.Write n (t ∷ ts))) w y = write_fine g (write_known n (t ∷ ts)) y
  next_fine free kept (AtBind avoid) (Reply.Bound (bound.Conflict h m)) w y = tt
  next_fine free kept (AtLoad k s rest) (Reply.Loaded (loaded.State st)) w y = state_fine g kept k st w
  next_fine free kept (AtLoad k s rest) (Reply.Loaded (loaded.InDoubt h)) w y = tt
  next_fine free kept (AtActivate k st) (Reply.Activated i) w y = active_fine kept k i w
  next_fine free kept (AtNote k i) (Reply.Noted recorded.Yes) w y = tt
  next_fine free kept (AtNote k i) (Reply.Noted (recorded.Changed z)) w y = tt
  next_fine free kept (AtInvoke k i) (Reply.Invoked (invoked.Answered a)) w y = tt
  next_fine free kept (AtInvoke k i) (Reply.Invoked (invoked.Conflict h m)) w y = tt
  next_fine free kept (AtInvoke k i) (Reply.Invoked (invoked.Changed z)) w y = tt
  next_fine free kept at r w y = w

  -- ---- coordinators

  -- Each action that waits in a call waited before, or in this one, in such a step.
  abbrev pub CoordFine : Coord → Type 0
  CoordFine c = (u : Uid) (q : Doing) (s : Steps) → doing_of u c ≡ Some q → q.now ≡ Calling s →
      (actor s.path ≡ u) × (W u ⊎ ((s.x ≡ x) × (s.goal ≡ g) × AtFine s.at))

  -- the same, of an action that goes on in this step
  pub goes_fine : (s : Steps) (c : Coord) (u : Uid) → actor s.path ≡ u → W u ⊎ ((s.x ≡ x) × (s.goal ≡ g) × AtFine s.at) → CoordFine c →
      CoordFine (Words.goes_on s c).part
  goes_fine s c u who fine all v q w found now = ⊎_elim same (λ other. all v q w other.1 now) (on_cases (actor s.path) f c v q found)
    where
      f : Doing → Doing
      f d = record d { req = s.req; now = Calling s }

      same : (v ≡ actor s.path) × (p : Doing) × (doing_of v c ≡ Some p) × (f p ≡ q) →
          (actor w.path ≡ v) × (W v ⊎ ((w.x ≡ x) × (w.goal ≡ g) × AtFine w.at))
      same e =
          let step : Calling s ≡ Calling w = ap (λ (d : Doing). d.now) e.3 ∙ now in
          let one : s ≡ w = cc step in
          let name : u ≡ v = sym who ∙ sym e.0 in
          subst (λ (z : Steps). (actor z.path ≡ v) × (W v ⊎ ((z.x ≡ x) × (z.goal ≡ g) × AtFine z.at))) one
          (subst (λ z. (actor s.path ≡ z) × (W z ⊎ ((s.x ≡ x) × (s.goal ≡ g) × AtFine s.at))) name (who, fine))

  idle_fine : (v : Uid) (c : Coord) → CoordFine c → CoordFine (on_doing v (λ (d : Doing). record d { now = Idle }) c)
  idle_fine v c all u q s found now = ⊎_elim
      (λ same. let no_way : Idle ≡ Calling s = ap (λ (d : Doing). d.now) same.3 ∙ now in absurd (cc no_way))
      (λ other. all u q s other.1 now) (on_cases v (λ (d : Doing). record d { now = Idle }) c u q found)

  step_fine : (s : Steps) (n : CallStep) (c : Coord) (u : Uid) → actor s.path ≡ u → W u ⊎ ((s.x ≡ x) × (s.goal ≡ g) × StepFine n) →
      CoordFine c →
      CoordFine (step_call s n c).part
  step_fine s (On at) c u who fine all = goes_fine (record s { req = s.req + 1; at = at }) c u who fine all
  step_fine s (Ended e) c u who fine all = λ v q w found now.
      idle_fine (actor s.path) c all v q w (sym (doomed_work (actor s.path) e (on_root (root_of s.path) (root_heard s e)
      (on_doing (actor s.path) (λ (d : Doing). record d { now = Idle }) c)) v) ∙ found) now

  -- a commit leaves no call but those that were
  pub ended_fine : (v : Uid) (h : End) (c : Coord) → CoordFine c → CoordFine (ended v h c)
  ended_fine v h c all = idle_fine v (record c { tree = ended_at v h c.tree }) (λ u q s found now. all u q s (sym (end_work v h c u)
      ∙ found) now)

  commits_fine : (v : Uid) (m : Machine) (c : Coord) → CoordFine c → CoordFine (commits_in v m c)
  commits_fine v m c all u q s found now = ⊎_elim
      (λ same. let no_way : Committing m ≡ Calling s = ap (λ (d : Doing). d.now) same.3 ∙ now in absurd (cc no_way))
      (λ other. all u q s other.1 now) (on_cases v (λ (d : Doing). record d { req = (plan_of m).req; now = Committing m }) c u q found)

  decide_fine : (p : Plan) (c : Coord) → CoordFine c → CoordFine (decide p c).part
  decide_fine p c all u q s found now = by (commit.has_record p) found
    where
      took : Doing → Doing
      took d = record d { took = commit.participants p }

      noted : Coord
      noted = on_doing (actor p.path) took (ended (actor p.path) ending.Commit c)

      noted_fine : (e : Doing) → doing_of u (on_doing (actor p.path) (λ (d : Doing). record d { took = commit.participants p })
          (ended (actor p.path) ending.Commit c)) ≡ Some e → e.now ≡ Calling s →
          (actor s.path ≡ u) × (W u ⊎ ((s.x ≡ x) × (s.goal ≡ g) × AtFine s.at))
      noted_fine e there calling = ⊎_elim
          (λ same. ended_fine (actor p.path) ending.Commit c all u same.1 s same.2 (ap (λ (d : Doing). d.now) same.3 ∙ calling))
          (λ other. ended_fine (actor p.path) ending.Commit c all u e s other.1 calling)
          (on_cases (actor p.path) (λ (d : Doing). record d { took = commit.participants p }) (ended
          (actor p.path) ending.Commit c) u e there)

      by : (b : Bool) → doing_of u (let z = on_root (root_of p.path) (root_after p) (on_doing (actor p.path) (λ (d : Doing).
          record d { took = commit.participants p }) (ended (actor p.path) ending.Commit c)) in cond b (record z {
            telling = put_uid (actor p.path) (record { root = root_of p.path; nodes = commit.participants p }) z.telling;
          }) z) ≡ Some q → (actor s.path ≡ u) × (W u ⊎ ((s.x ≡ x) × (s.goal ≡ g) × AtFine s.at))
      by true there = noted_fine q there now
      by false there = noted_fine q there now

  pub commit_fine : (v : Uid) (m : Marked) (intents : List (Uid × Intent)) (c : Coord) → CoordFine c →
      CoordFine (moved_commit v m intents c).part
  commit_fine v m intents c all = by m.step
    where
      by : (n : Words.CommitStep) → CoordFine (step_commit v n intents c).part
      by (Stays k) = commits_fine v k c all
      by (Asks k) = λ u q s found now. commits_fine v k c all u q s
          (sym (all_doing (plan_of k).path (plan_of k).req (waiting k) (commits_in v k c) u) ∙ found) now
      by (Decides p) = decide_fine p c all
      by (Aborts why p) = ended_fine v ending.Abort c all

  heard_fine : (from : ℕ) (a : Asked) (r : Reply) (intents : List (Uid × Intent)) (c : Coord) → W a.act ⊎ ReplyFine r → CoordFine c →
      CoordFine (heard from a r intents c).part
  heard_fine from a r intents c fine all = by (doing_of a.act c) refl
    where
      called : (d : Doing) (s : Steps) → doing_of a.act c ≡ Some d → d.now ≡ Calling s → CoordFine (heard_call s r c).part
      called d s found is = step_fine s m.step (on_root (root_of s.path) (root_moved s r m) c) a.act old.0 (⊎_elim (λ w. inl w) on_it old.1)
          (λ u q w there now. all u q w there now)
        where
          m : Words.Moved
          m = answered (is_free (root_of s.path) (actor s.path) s.x c) (kept_at s c) s.goal s.at r

          old : (actor s.path ≡ a.act) × (W a.act ⊎ ((s.x ≡ x) × (s.goal ≡ g) × AtFine s.at))
          old = all a.act d s found is

          on_it : (s.x ≡ x) × (s.goal ≡ g) × AtFine s.at → W a.act ⊎ ((s.x ≡ x) × (s.goal ≡ g)
              × StepFine (answered (is_free (root_of s.path) (actor s.path) s.x c) (kept_at s c) s.goal s.at r).step)
          on_it f = ⊎_elim (λ w. inl w) (λ y. inr (
            f.0,
            f.1,
            subst (λ h. StepFine (answered (is_free (root_of s.path) (actor s.path) s.x c) (kept_at s c) h s.at r).step) (sym f.1)
                (next_fine (is_free (root_of s.path) (actor s.path) s.x c) (kept_at s c) s.at r f.2 y),
          )) fine

      now : (d : Doing) → doing_of a.act c ≡ Some d → (n : Now) → d.now ≡ n → CoordFine (heard_now from a r intents c n).part
      now d found Idle is = all
      now d found (Calling s) is = one (waits_for_call from a r s)
        where
          one : (b : Bool) → CoordFine (cond {A = Served Coord (Unit {0})} b (heard_by (heard_call s r c)) (heard_none c)).part
          one true = called d s found is
          one false = all
      now d found (Committing m) is = one (waits_for_commit from a r m)
        where
          one : (b : Bool) → CoordFine
              (cond {A = Served Coord (Unit {0})} b (heard_by (moved_commit a.act (commit.answered from m r) intents c))
              (heard_none c)).part
          one true = commit_fine a.act (commit.answered from m r) intents c all
          one false = all

      by : (o : Option Doing) → doing_of a.act c ≡ o → CoordFine (heard_doing from a r intents c o).part
      by None none = all
      by (Some d) found = now d found d.now refl

  acked_fine : (from : ℕ) (v : Uid) (intents : List (Uid × Intent)) (c : Coord) → CoordFine c → CoordFine (acked from v intents c).part
  acked_fine from v intents c all = by (at_uid v c.telling)
    where
      left : (i : Intent) (ns : List ℕ) → CoordFine (acked_left v i intents c ns).part
      left i [] = all
      left i (n ∷ ns) = all

      one : (i : Intent) (b : Bool) → CoordFine (cond {A = Served Coord (Unit {0})} b (acked_left v i intents c
          (without_number from i.nodes))
          (record { part = c; outs = []; reply = None })).part
      one i true = left i (without_number from i.nodes)
      one i false = all

      by : (o : Option Intent) → CoordFine (acked_by from v intents c o).part
      by None = all
      by (Some i) = one i (has i.nodes from)

  -- ---- a message that is no Bind

  abbrev GoodBy : Handled → Type 0
  GoodBy (Void outs) = AllOther outs
  GoodBy (Took v outs) = CoordFine v.coord × AllOther outs

  module _ (n : ℕ) (d : Disk) (t : Parts) (from : ℕ) (all : CoordFine t.coord) where
    sent : (h : Head) (v : Parts) (outs : List Effect) (r : Reply) → CoordFine v.coord → AllOther outs →
        is_other (Send from (response (asked_by h) r)) ≡ true → GoodBy (sends_answer from h v outs (Some r))
    sent h v outs r fine others is = (fine, both_other outs (Send from (response (asked_by h) r) ∷ []) others (λ i. is i && true))

    served_good : {S R : Type 0} (h : Head) (put : S → Parts) (say : R → Reply) (r : Served S R) → CoordFine (put r.part).coord →
        AllOther r.outs →
        ((y : R) → is_other (Send from (response (asked_by h) (say y))) ≡ true) → GoodBy (Words.served from h put say r)
    served_good {S} {R} h put say r fine others each = by r.reply
      where
        by : (o : Option R) → GoodBy (sends_answer from h (put r.part) r.outs (option_map say o))
        by None = refl
        by (Some y) = sent h (put r.part) r.outs (say y) fine others (each y)

    naming_good : {R : Type 0} (h : Head) (say : R → Reply) (f : Naming → Served Naming R) (o : Option Naming) → ((m : Naming) →
        AllOther (f m).outs) →
        ((y : R) → is_other (Send from (response (asked_by h) (say y))) ≡ true) → GoodBy (if_naming (λ m. Words.served from h
        (with_naming t) say (f m)) o)
    naming_good h say f None others each = refl
    naming_good h say f (Some m) others each = served_good h (with_naming t) say (f m) all (others m) each

    load_good : (h : Head) (y : ℕ) (o : Option Uid) → GoodBy (load_by y d.store from h t o)
    load_good h y (Some holder) = sent h t [] (Reply.Loaded (loaded.InDoubt holder)) all refl refl
    load_good h y None = by (held_at (object y) d.store)
      where
        by : (o : Option ObjectState) → GoodBy (load_held from h t o)
        by None = refl
        by (Some s) = sent h t (Do Look ∷ []) (Reply.Loaded (loaded.State s)) all refl refl

    prepare_good : (h : Head) (states : List ObjectState) → GoodBy (prepare_states n d.store states from h t)
    prepare_good h states = by (is_prepared (actor h.path) d.store)
      where
        new : (a : Prep) → GoodBy (prepare_by n states from h t a)
        new Ready = sent h t (Do Look ∷ Do (Prepare role.Store (actor h.path) states) ∷ Say (body.Prepared n
            (actor h.path) role.Store) ∷ [])
            (Reply.Prepared prepared.Yes) all refl refl
        new (Already u) = refl
        new (Old u v) = sent h t (Do Look ∷ []) (Reply.Prepared (prepared.Old u.num v)) all refl refl
        new (InDoubt u holder) = sent h t (Do Look ∷ []) (Reply.Prepared (prepared.InDoubt u.num holder)) all refl refl

        by : (b : Bool) → GoodBy (cond b (sends_answer from h t [] (Some (Reply.Prepared prepared.Yes)))
            (prepare_by n states from h t (prepare_answer (actor h.path) states d.store)))
        by true = sent h t [] (Reply.Prepared prepared.Yes) all refl refl
        by false = new (prepare_answer (actor h.path) states d.store)

    asked_good : (h : Head) (a : Ask) → bind_ask a ≡ 0 → GoodBy (serve n d t from h a)
    asked_good h (ask.Bind y include avoid) none = let no_way : 1 ≡ 0 = none in absurd (omega (arith, no_way))
    asked_good h (ask.Load y) none = load_good h y (holder_of (object y) d.store)
    asked_good h (ask.Activate b st) none = let r = server.activate n h.path b st t.server in
        served_good h (with_server t) Reply.Activated r all (server_other n r.outs (activate_own n h.path b st t.server)) (λ y. refl)
    asked_good h (ask.Record y b i k) none = naming_good h Reply.Noted (naming.note h.path y b i k) t.naming
        (λ m. naming_other (let r = naming.note h.path y b i k m in r.outs) (note_own h.path y b i k m)) (λ y. refl)
    asked_good h (ask.Invoke y b i ends o) none = let r = server.invoke n h y b i ends o t.server in
        served_good h (with_server t) Reply.Invoked r all (server_other n r.outs (invoke_own n h y b i ends o t.server)) (λ y. refl)
    asked_good h (ask.Vote i ties ends) none = let r = server.vote n h.path i ties ends t.server in
        served_good h (with_server t) Reply.Voted r all (server_other n r.outs (vote_own n h.path i ties ends t.server)) (λ y. refl)
    asked_good h (ask.Prepare states) none = prepare_good h states
    asked_good h (ask.Confirm grants excluded included) none = naming_good h Reply.Confirmed
        (confirm h.path grants excluded included d.names) t.naming
        (λ m. naming_other (let r = confirm h.path grants excluded included d.names m in r.outs)
        (confirm_own h.path grants excluded included d.names m))
        (λ y. refl)

    coord_good : (r : Served Coord (Unit {0})) → CoordFine r.part → AllOther r.outs → GoodBy (coord_heard t r)
    coord_good r fine others = by r.reply
      where
        by : (o : Option (Unit {0})) → GoodBy (by_reply (with_coord t r.part) r.outs o)
        by None = refl
        by (Some u) = (fine, others)

    told_good : (ack : Bool) (ends : List (Uid × End)) (o : Option (Uid × End)) → GoodBy (handle_ends n d t from ack ends o)
    told_good ack ends None = (all, refl)
    told_good ack ends (Some e) = (
      all,
      both_other (store_told n e.0 e.1 d.store ++ names.outs ++ (server.told n ends t.server).outs) (ack_told from e.0 ack)
          (both_other (store_told n e.0 e.1 d.store ++ names.outs) (server.told n ends t.server).outs
          (both_other (store_told n e.0 e.1 d.store) names.outs (stored (is_prepared e.0 d.store) e.1) (named t.naming))
          (server_other n (server.told n ends t.server).outs (ends_own n ends t.server))) (acks ack),
    )
      where
        names : Did (Option Naming)
        names = naming_told e.0 e.1 d.names t.naming

        stored : (b : Bool) (h : End) → AllOther (cond b (end_states n e.0 h) [])
        stored true ending.Commit = refl
        stored true ending.Abort = refl
        stored false h = refl

        named : (o : Option Naming) → AllOther (naming_told e.0 e.1 d.names o).outs
        named None = refl
        named (Some m) = naming_other (let r = naming.told e.0 e.1 d.names m in r.outs) (told_own e.0 e.1 d.names m)

        acks : (b : Bool) → AllOther (ack_told from e.0 b)
        acks true = refl
        acks false = refl

    query_good : (u : Uid) → AllOther (answer_query from u d.intents t.coord)
    query_good u = by (is_open u t.coord.tree || is_deferred u d.intents from) (at_uid u d.intents)
      where
        decided : (b : Bool) → AllOther (cond b
            (Words.tell (Words.root_or_self u (Words.branch_of u t.coord.tree)) false ((u, ending.Commit) ∷ []) from ∷ [])
            (Words.tell (Words.root_or_self u (Words.branch_of u t.coord.tree)) false ((u, ending.Abort) ∷ []) from ∷ []))
        decided true = refl
        decided false = refl

        listed : (i : Intent) (b : Bool) → AllOther (cond b (Words.tell i.root true ((u, ending.Commit) ∷ []) from ∷ [])
            (answer_decided from u t.coord))
        listed i true = refl
        listed i false = decided (is_kept_commit from u t.coord)

        by : (b : Bool) (o : Option Intent) → AllOther (cond b [] (answer_recorded from u t.coord o))
        by true o = refl
        by false None = decided (is_kept_commit from u t.coord)
        by false (Some i) = listed i (has i.nodes from)

    queries_good : (us : List Uid) → AllOther (map query_about us)
    queries_good [] = refl
    queries_good (u ∷ us) = queries_good us

    three : (r : Reply) → 3 ≤ suc (reply_kind r + reply_kind r)
    three (Reply.Bound r) = omega arith
    three (Reply.Loaded r) = omega arith
    three (Reply.Activated i) = omega arith
    three (Reply.Noted r) = omega arith
    three (Reply.Invoked r) = omega arith
    three (Reply.Voted r) = omega arith
    three (Reply.Prepared r) = omega arith
    three (Reply.Confirmed r) = omega arith

    other_good : (m : Message) → GoodBy (handle_other n d t from m)
    other_good (message.Told m) = told_good m.ack m.ends (last_end m.ends)
    other_good (message.Acked m) = coord_good (acked from m.act d.intents t.coord) (acked_fine from m.act d.intents t.coord all)
        (above_other 3 (omega arith) (acked from m.act d.intents t.coord).outs (acked_above 3 from m.act d.intents t.coord (omega arith)))
    other_good (message.Query m) = (all, query_good m.act)
    other_good (message.Hello m) = (all, queries_good (filter (is_earlier m.node m.inc) (holders d t)))
    other_good m = refl

    answer_good : (m : Message) (o : Option (Asked × Reply)) → AnswerFine o → GoodBy (handle_answer n d t from m o)
    answer_good m None fine = other_good m
    answer_good m (Some a) fine = coord_good (heard from a.0 a.1 d.intents t.coord) (heard_fine from a.0 a.1 d.intents t.coord fine all)
        (above_other (suc (reply_kind a.1 + reply_kind a.1)) (three a.1) (heard from a.0 a.1 d.intents t.coord).outs
        (heard_above from a.0 a.1 d.intents t.coord))

    ask_good : (m : Message) (o : Option (Head × Ask)) → bind_by o ≡ 0 → AnswerFine (answers m) → GoodBy (handle_ask n d t from m o)
    ask_good m None none fine = answer_good m (answers m) fine
    ask_good m (Some a) none fine = asked_good a.0 a.1 none

    taken_good : (m : Message) → binds m ≡ 0 → AnswerFine (answers m) → GoodBy (taken n d t from m)
    taken_good m none fine = by (is_meant t m)
      where
        by : (b : Bool) → GoodBy (cond b (handle n d t from m) (Void []))
        by true = ask_good m (asks m) none fine
        by false = refl

  -- ---- rounds

  -- each of these messages is no Bind, and answers as it should
  abbrev pub QueueFine : List Message → Type 0
  QueueFine ms = (m : Message) → members.In m ms → (binds m ≡ 0) × AnswerFine (answers m)

  abbrev Unsaid : List Effect → Type 0
  Unsaid es = (b : Binding) (s : ℕ) → members.In (Say (body.Bound x b s)) es → ⊥

  pub other_fine : (o : Option (Asked × Reply)) → no_bound o ≡ true → AnswerFine o
  other_fine None is = tt
  other_fine (Some (a, Reply.Bound r)) is = absurd (cc is)
  other_fine (Some (a, Reply.Loaded r)) is = inr tt
  other_fine (Some (a, Reply.Activated i)) is = inr tt
  other_fine (Some (a, Reply.Noted r)) is = inr tt
  other_fine (Some (a, Reply.Invoked r)) is = inr tt
  other_fine (Some (a, Reply.Voted r)) is = inr tt
  other_fine (Some (a, Reply.Prepared r)) is = inr tt
  other_fine (Some (a, Reply.Confirmed r)) is = inr tt

  module _ (n : ℕ) where
    same_number : (n == n) ≡ true
    same_number = grind (arith, Words.nat_tests)

    -- what waits was sent, and what is said was said
    pub queue_sent : (v : Parts) (es : List Effect) (d : Disk) (m : Message) → members.In m (ran n v es d).queue → members.In (Send n m) es
    queue_sent v [] d m i = absurd i
    queue_sent v (Do w ∷ es) d m i = inr (queue_sent v es (Words.worked w d) m i)
    queue_sent v (Say b ∷ es) d m i = inr (queue_sent v es d m i)
    queue_sent v (Send to z ∷ es) d m i = by (to == n) refl i (queue_sent v es d m)
      where
        by : (b : Bool) → (to == n) ≡ b → members.In m (cond b (first_queued z (ran n v es d)) (first_done (Send to z)
            (ran n v es d))).queue →
            (members.In m (ran n v es d).queue → members.In (Send n m) es) → members.In (Send n m) (Send to z ∷ es)
        by true same (inl is) ih = inl (λ i. Send (eqb-true to n same i) (is i))
        by true same (inr there) ih = inr (ih there)
        by false apart there ih = inr (ih there)

    pub said_back : (v : Parts) (es : List Effect) (d : Disk) (b : Body) → members.In (Say b) (ran n v es d).outs → members.In (Say b) es
    said_back v [] d b i = absurd i
    said_back v (Do w ∷ es) d b (inl is) = absurd (cc is)
    said_back v (Do w ∷ es) d b (inr i) = inr (said_back v es (Words.worked w d) b i)
    said_back v (Say c ∷ es) d b (inl is) = inl is
    said_back v (Say c ∷ es) d b (inr i) = inr (said_back v es d b i)
    said_back v (Send to z ∷ es) d b i = by (to == n) i (said_back v es d b)
      where
        by : (q : Bool) → members.In (Say b) (cond q (first_queued z (ran n v es d)) (first_done (Send to z) (ran n v es d))).outs →
            (members.In (Say b) (ran n v es d).outs → members.In (Say b) es) → members.In (Say b) (Send to z ∷ es)
        by true there ih = inr (ih there)
        by false (inl is) ih = absurd (cc is)
        by false (inr there) ih = inr (ih there)

    -- effects of no Bind and no new binding
    no_binds : (es : List Effect) (m : Message) → weigh n es ≤ 0 → members.In (Send n m) es → binds m ≡ 0
    no_binds [] m less i = absurd i
    no_binds (e ∷ es) m less (inl is) = by e is less
      where
        zero_of : (a b : ℕ) → a + b ≤ 0 → a ≡ 0
        zero_of a b low = omega (arith, low)

        by : (e : Effect) → e ≡ Send n m → Rattle.arj_law_runs.proofs.bindings.Weights.weight n e + weigh n es ≤ 0 → binds m ≡ 0
        by e same low = zero_of (binds m) (weigh n es) (subst (λ k. k + weigh n es ≤ 0)
            (ap (Rattle.arj_law_runs.proofs.bindings.Weights.weight n) same ∙ (λ i. cond (same_number i) (binds m) 0)) low)
    no_binds (e ∷ es) m less (inr i) = no_binds es m (rest (Rattle.arj_law_runs.proofs.bindings.Weights.weight n e) (weigh n es) less) i
      where
        rest : (a b : ℕ) → a + b ≤ 0 → b ≤ 0
        rest a b low = omega (arith, low)

    all_says : (es : List Effect) (b : Body) → saying.All is_unbound es → members.In (Say b) es → is_unbound b ≡ true
    all_says [] b all i = absurd i
    all_says (e ∷ es) b all (inl is) =
        ap (saying.says is_unbound) (sym is) ∙ (and_parts (saying.says is_unbound e) (list_all (saying.says is_unbound) es) all).0
    all_says (e ∷ es) b all (inr i) = all_says es b (and_parts (saying.says is_unbound e) (list_all (saying.says is_unbound) es) all).1 i

    others_sent : (es : List Effect) (m : Message) → AllOther es → members.In (Send n m) es → no_bound (answers m) ≡ true
    others_sent [] m all i = absurd i
    others_sent (e ∷ es) m all (inl is) = ap is_other (sym is) ∙ (and_parts (is_other e) (list_all is_other es) all).0
    others_sent (e ∷ es) m all (inr i) = others_sent es m (and_parts (is_other e) (list_all is_other es) all).1 i

    -- a node within a step
    abbrev pub RanFine : Ran → Type 0
    RanFine r = CoordFine (let h = r.here in let t = h.parts in t.coord) × QueueFine r.queue × Unsaid r.outs

    ran_fine : (v : Parts) (outs : List Effect) (d : Disk) → CoordFine v.coord → AllOther outs → weigh n outs ≤ 0 → RanFine (ran n v outs d)
    ran_fine v outs d fine others less = (
      subst (λ (h : Here). CoordFine (let t = h.parts in t.coord)) (sym (ran_here n v outs d)) fine,
      λ m i. let j = queue_sent v outs d m i in (no_binds outs m less j, other_fine (answers m) (others_sent outs m others j)),
      λ b s i. let no_way : false ≡ true = all_says outs (body.Bound x b s) (light_unbound n outs less) (said_back v outs d
          (body.Bound x b s) i) in cc no_way,
    )

    one_fine : (m : Message) (h : Here) → CoordFine (let t = h.parts in t.coord) → (binds m ≡ 0) × AnswerFine (answers m) →
        RanFine (ran_handled n h (taken n h.disk h.parts n m))
    one_fine m h fine its = by (taken n h.disk h.parts n m) (taken_good n h.disk h.parts n fine m its.0 its.1)
        (subst (λ k. weigh n (outs_of (taken n h.disk h.parts n m)) ≤ k) its.0 (taken_weigh n h.disk h.parts n m))
      where
        by : (r : Handled) → GoodBy r → weigh n (outs_of r) ≤ 0 → RanFine (ran_handled n h r)
        by (Void outs) good less = ran_fine h.parts outs h.disk fine good less
        by (Took v outs) good less = ran_fine v outs h.disk good.0 good.1 less

    either_in : {A : Type 0} (xs ys : List A) (a : A) → members.In a (xs ++ ys) → members.In a xs ⊎ members.In a ys
    either_in [] ys a i = inr i
    either_in (z ∷ xs) ys a (inl is) = inl (inl is)
    either_in (z ∷ xs) ys a (inr i) = ⊎_elim (λ l. inl (inr l)) (λ r. inr r) (either_in xs ys a i)

    all_fine : (ms : List Message) (h : Here) → CoordFine (let t = h.parts in t.coord) → QueueFine ms → RanFine (handle_all n ms h)
    all_fine [] h fine queue = (fine, (λ m i. absurd i), λ b s i. absurd i)
    all_fine (m ∷ ms) h fine queue =
        let r = ran_handled n h (taken n h.disk h.parts n m) in
        let t = handle_all n ms r.here in
        let one = one_fine m h fine (queue m (inl refl)) in
        let rest = all_fine ms r.here one.0 (λ k i. queue k (inr i)) in (
          rest.0,
          λ k i. ⊎_elim (λ a. one.1 k a) (λ b. rest.1 k b) (either_in r.queue t.queue k i),
          λ b s i. ⊎_elim (λ a. one.2 b s a) (λ c. rest.2 b s c) (either_in r.outs t.outs (Say (body.Bound x b s)) i),
        )

    -- what was said of new bindings is known
    module _ (S : Binding → ℕ → Type 0) where
      abbrev pub OutsFine : List Effect → Type 0
      OutsFine es = (b : Binding) (s : ℕ) → members.In (Say (body.Bound x b s)) es → S b s

      abbrev pub EndFine : Ran → Type 0
      EndFine r = CoordFine (let h = r.here in let t = h.parts in t.coord) × OutsFine r.outs

      pub rounds_fine : (j : ℕ) (r : Ran) → CoordFine (let h = r.here in let t = h.parts in t.coord) → QueueFine r.queue → OutsFine r.outs →
          EndFine (rounds n j r)
      rounds_fine zero r fine queue outs = (fine, outs)
      rounds_fine (suc j) r fine queue outs = by r.queue (rounds_fine j (next_round n r) next.0 next.1
          (λ b s i. ⊎_elim (λ a. outs b s a) (λ c. absurd (next.2 b s c)) (either_in r.outs (handle_all n r.queue r.here).outs (Say
          (body.Bound x b s)) i)))
        where
          next : RanFine (handle_all n r.queue r.here)
          next = all_fine r.queue r.here fine queue

          one : List Message → Ran
          one q = elim q [ [] ↦ r | m ∷ ms ↦ rounds n j (next_round n r) ]

          by : (q : List Message) → EndFine (rounds n j (next_round n r)) → EndFine (one q)
          by [] rest = (fine, outs)
          by (m ∷ ms) rest = rest

      -- ---- one message alone

      whole_from : (t : Parts) (d : Disk) (to : ℕ) (m : Message) → (to == n) ≡ true →
          EndFine (rounds n most_rounds (record { here = record { disk = d; parts = t }; outs = []; queue = m ∷ [] })) →
          EndFine (whole n t (Send to m ∷ []) d)
      whole_from t d to m same = subst (λ b. EndFine (rounds n most_rounds (cond b (first_queued m (ran n t [] d)) (first_done
          (Send to m) (ran n t [] d)))))
          (sym same)

      -- one that is no Bind
      pub whole_one : (t : Parts) (d : Disk) (to : ℕ) (m : Message) → (to == n) ≡ true → CoordFine t.coord → binds m ≡ 0 →
          AnswerFine (answers m) →
          EndFine (whole n t (Send to m ∷ []) d)
      whole_one t d to m same fine none answers_fine = whole_from t d to m same
          (rounds_fine most_rounds (record { here = record { disk = d; parts = t }; outs = []; queue = m ∷ [] }) fine queue
          (λ b s i. absurd i))
        where
          queue : QueueFine (m ∷ [])
          queue k (inl is) = (ap binds (sym is) ∙ none, subst (λ z. AnswerFine (answers z)) is answers_fine)
          queue k (inr i) = absurd i

      -- a Bind, where naming's answer to it is as it should be, and what it says is known
      module _ (h : Head) (include : Bool) (avoid : Binding) (t : Parts) (d : Disk) (fine : CoordFine t.coord)
          (gives : (o : Naming) → t.naming ≡ Some o → (let r = naming.bind h.path x include avoid d.names o in
          ((y : BoundReply) → r.reply ≡ Some y → ReplyFine (Reply.Bound y)) × OutsFine r.outs)) where
        abbrev FirstBy : Handled → Type 0
        FirstBy r = let q = ran_handled n (record { disk = d; parts = t }) r in
            CoordFine (let z = q.here in let p = z.parts in p.coord) × QueueFine q.queue × OutsFine q.outs

        nothing : FirstBy (Void [])
        nothing = (fine, (λ m i. absurd i), λ b s i. absurd i)

        unsent : (es : List Effect) (m : Message) → AreAll is_naming_effect es → members.In (Send n m) es → ⊥
        unsent [] m own i = absurd i
        unsent (e ∷ es) m own (inl is) =
            let no_way : false ≡ true = ap is_naming_effect (sym is) ∙ (and_parts (is_naming_effect e)
            (list_all is_naming_effect es) own).0 in cc no_way
        unsent (e ∷ es) m own (inr i) = unsent es m (and_parts (is_naming_effect e) (list_all is_naming_effect es) own).1 i

        answered_first : (o : Naming) → t.naming ≡ Some o → (y : Option BoundReply) →
            (naming.bind h.path x include avoid d.names o).reply ≡ y →
            FirstBy (sends_answer n h (with_naming t (naming.bind h.path x include avoid d.names o).part)
            (naming.bind h.path x include avoid d.names o).outs (option_map Reply.Bound y))
        answered_first o at None is = nothing
        answered_first o at (Some y) is = (
          subst (λ (z : Here). CoordFine (let p = z.parts in p.coord)) (sym (ran_here n v outs d)) fine,
          λ m i. ⊎_elim (λ a. absurd (unsent r.outs m (bind_own h.path x include avoid d.names o) a)) (λ b. last m b)
              (either_in r.outs (Send n (response (asked_by h) (Reply.Bound y)) ∷ []) (Send n m) (queue_sent v outs d m i)),
          λ b s i. ⊎_elim (λ a. (gives o at).1 b s a) (λ c. absurd (unsaid b s c))
              (either_in r.outs (Send n (response (asked_by h) (Reply.Bound y)) ∷ []) (Say (body.Bound x b s))
              (said_back v outs d (body.Bound x b s) i)),
        )
          where
            r : Served Naming BoundReply
            r = naming.bind h.path x include avoid d.names o

            v : Parts
            v = with_naming t (naming.bind h.path x include avoid d.names o).part

            outs : List Effect
            outs = (naming.bind h.path x include avoid d.names o).outs ++ Send n (response (asked_by h) (Reply.Bound y)) ∷ []

            last : (m : Message) → members.In (Send n m) (Send n (response (asked_by h) (Reply.Bound y)) ∷ []) →
                (binds m ≡ 0) × AnswerFine (answers m)
            last m (inl same) =
                let one : response (asked_by h) (Reply.Bound y) ≡ m = cc same in
                (ap binds (sym one), subst (λ z. AnswerFine (answers z)) one (inr ((gives o at).0 y is)))
            last m (inr i) = absurd i

            unsaid : (b : Binding) (s : ℕ) → members.In (Say (body.Bound x b s)) (Send n (response (asked_by h) (Reply.Bound y)) ∷ []) → ⊥
            unsaid b s (inl same) = cc same
            unsaid b s (inr i) = absurd i

        asked_first : FirstBy (serve n d t n h (ask.Bind x include avoid))
        asked_first = by t.naming refl
          where
            by : (o : Option Naming) → t.naming ≡ o →
                FirstBy (if_naming (λ m. Words.served n h (with_naming t) Reply.Bound (naming.bind h.path x include avoid d.names m)) o)
            by None none = nothing
            by (Some o) at = answered_first o at (naming.bind h.path x include avoid d.names o).reply refl

        first : FirstBy (taken n d t n (request h (ask.Bind x include avoid)))
        first = by (is_meant t (request h (ask.Bind x include avoid)))
          where
            by : (b : Bool) → FirstBy (cond b (handle n d t n (request h (ask.Bind x include avoid))) (Void []))
            by true = subst (λ o. FirstBy (handle_ask n d t n (request h (ask.Bind x include avoid)) o))
                (sym (Words.request_reads_back h (ask.Bind x include avoid))) asked_first
            by false = nothing

        abbrev q : Ran
        q = ran_handled n (record { disk = d; parts = t }) (taken n d t n (request h (ask.Bind x include avoid)))

        rounds_bind : (j : ℕ) → EndFine (rounds n j (record {
          here = record { disk = d; parts = t };
          outs = [];
          queue = request h (ask.Bind x include avoid) ∷ [];
        }))
        rounds_bind zero = (fine, λ b s i. absurd i)
        rounds_bind (suc j) = rounds_fine j (next_round n (record {
          here = record { disk = d; parts = t };
          outs = [];
          queue = request h (ask.Bind x include avoid) ∷ [];
        })) first.0
            (λ m i. ⊎_elim (λ a. first.1 m a) (λ b. absurd b) (either_in q.queue [] m i))
            (λ b s i. ⊎_elim (λ a. first.2 b s a) (λ c. absurd c) (either_in q.outs [] (Say (body.Bound x b s)) i))

        pub whole_bind : (to : ℕ) → (to == n) ≡ true → EndFine (whole n t (Send to (request h (ask.Bind x include avoid)) ∷ []) d)
        whole_bind to same = whole_from t d to (request h (ask.Bind x include avoid)) same (rounds_bind most_rounds)
