-- Stores that a root keeps of an object, and that a plan has of what was called. What is claimed of each store that an answer to a Bind
-- names, and of each that a commit includes, is claimed of these too: along a coordinator's steps.
use Rattle.arj_law_parts.proofs.Words
use Words.{◌≡◌, ◌==◌, ◌&&◌, ◌||◌, ◌++◌, ℕ, List, [], ◌∷◌, Bool, true, false, cond, map, filter, Option, Some, None, refl, sym, ◌∙◌, subst}
use Words.{⊤}
use Words.{flat_map, not, inl, inr, ⊎_elim, list_any, AllByRecursion, In, in_filter, in_map, Uid, Asked, uids_of, Binding, BoundReply}
use Words.{Reply, actor}
use Words.{Answered, CallEnd, Changed, Conflict, Included, Lost, Moved, Goal, Run, Include, Steps, CallStep, CommitStep, At, AtActivate}
use Words.{AtBind}
use Words.{AtInvoke, AtLoad, AtNote, Known, activated_by, answered, binding_eq, bound_answer, bound_by, given_up, has_changed}
use Words.{invoked_answer}
use Words.{is_ended, keeps_after, live_known, load_from, loaded_answer, made_by, made_known, or_lost, other_binding, recorded_answer}
use Words.{recorded_kept, same_binding, spoils, two_bindings, two_incs, with_inc, write_known, named_again, finds, moves, binding_less}
use Words.{waits_for_call, kept_at, Coord, Doing, Now, Idle, Calling, Committing, doing_of, new_coord, Input, Intent, acts, again_all}
use Words.{acked, heard}
use Words.{Grant, Keeping, Root, Said, Went, given_away, granted_by, is_free, is_invoke_ask, kept_of, keeping_of, keeping_after, kept_after}
use Words.{known_for, list_after, no_keeping, no_root, notes_grant, nothing_known, objects_in, plan_for, renewed, root_after, root_at}
use Words.{root_heard}
use Words.{root_lost, root_moved, root_of, same_said, same_went, top_of, used_of, is_called, with_keeping, with_said, with_went, last_req}
use Words.{InvokedReply, LoadedReply, RecordedReply, Marked, Plan, Used, Decides, Stays, Asks, Aborts, begin_confirm, begin_prepare}
use Words.{begin_vote}
use Words.{servers_of, targets_of, included_of, joins_left, is_marked, marked, plan_of, with_stores, without_stores, has, unwrap_or}
use Words.{eqb-true}
use Words.{arith, or_cases, or_right, ◌+◌, Kind, begin_action, parent_of, Path, Entry, Row, Pair, Served, void, Naming, is_over, Named}
use Words.{at_number}
use Words.{Counted, Live, Made, bind_call, bind_made, bind_named, conflict_on, include_asked, live_above, live_asked, made_above}
use Words.{make_asked}
use Words.{next_server, last_uid, at_uid}
use Words.mode
use Words.naming
use Words.bound
use Words.calls
use Words.commit
use Words.input
use Words.invoked
use Words.loaded
use Words.recorded
use Rattle.arj_law_parts.proofs.coordinator
use coordinator.Trace.{AnswersCommit, BeginsCommit, Came, CommitEnds, CommitTurn, GivesCommitUp, Hears, Marks, Move, NewPlan, OldPlan}
use coordinator.Trace.{PlanFrom, PlanMove, Plans, Takes, Trace, plan_keeps, trace_keeps, turned}
use coordinator.Walks.{acked_trace, acts_trace, again_trace, heard_trace}
use coordinator.Works.{KeepsRoots, KeepsWorks, Works, its_root, roots_move, works_begun, works_move, works_new}
use Rattle.arj_law_parts.proofs.parts.{LivesNamed.keyed_at, LivesNamed.keyed_each, LivesNamed.keyed_put, Stores.with_listed}
use Rattle.arj_law_parts.proofs.parts.Stores.{without_listed}

module _ (P : ℕ → ℕ → Type 0) where
  -- of each store of a list of the object's
  abbrev pub Lists : ℕ → List ℕ → Type 0
  Lists x ns = (n : ℕ) → has ns n ≡ true → P x n

  -- of each store of a binding that a root keeps
  abbrev pub KeptLists : ℕ → Option Known → Type 0
  KeptLists x None = ⊤
  KeptLists x (Some k) = Lists x k.stores

  -- of all that it keeps
  abbrev pub RootLists : Root → Type 0
  RootLists r = AllByRecursion (λ (e : ℕ × Keeping). KeptLists e.0 (let k = e.1 in k.kept)) r.keeping

  -- of each store of an answer to a Bind
  abbrev pub BoundLists : ℕ → BoundReply → Type 0
  BoundLists x (bound.Live b server i g stores) = Lists x stores
  BoundLists x (bound.Make b server g stores) = Lists x stores
  BoundLists x (bound.Write g stores) = Lists x stores
  BoundLists x (bound.Conflict holder m) = ⊤

  -- so it is of an answer to the step that waits
  abbrev pub AnswerLists : ℕ → At → Reply → Type 0
  AnswerLists x (AtBind avoid) (Reply.Bound r) = BoundLists x r
  AnswerLists x at r = ⊤

  -- of each store that a plan has of what was called
  abbrev pub PlanLists : Plan → Type 0
  PlanLists p = AllByRecursion (λ (w : Used). Lists w.x w.stores) p.used

  -- of each that it includes
  abbrev pub PlanJoins : Plan → Type 0
  PlanJoins p = (w : Used) → In w p.used → Lists w.x w.joins

  -- of the plan of a commit under way
  abbrev pub NowLists : Now → Type 0
  NowLists Idle = ⊤
  NowLists (Calling s) = ⊤
  NowLists (Committing m) = PlanLists (plan_of m)

  -- a coordinator's commits, and its roots
  pub record AreListed (c : Coord) : Type 0 where
    pub works : Works (λ u d. NowLists d.now) c
    pub roots : AllByRecursion (λ (e : ℕ × Root). RootLists e.1) c.roots

  -- where a call waits for this answer it names such stores
  abbrev pub FitsLists : ℕ → Asked → Reply → Coord → Type 0
  FitsLists from a r c = (d : Doing) (s : Steps) → doing_of a.act c ≡ Some d → d.now ≡ Calling s → waits_for_call from a r s ≡ true →
      AnswerLists s.x s.at r

  -- and commits under way include such
  abbrev pub JoinsAreSo : Coord → Type 0
  JoinsAreSo c = (u : Uid) (d : Doing) (m : commit.Machine) → doing_of u c ≡ Some d → d.now ≡ Committing m → PlanJoins (plan_of m)

  -- ---- one step of a call

  with_so : (x i : ℕ) (kept : Known) (at : At) (o : Option ℕ) → Lists x kept.stores → KeptLists x (with_inc i kept at o).kept
  with_so x i kept at None ko = ko
  with_so x i kept at (Some first) ko = by (first == i)
    where
      by : (b : Bool) → KeptLists x (let m = cond b (moves (Some kept) at)
          (finds (Some kept) (Changed kept.server (two_incs first i))) in m.kept)
      by true = ko
      by false = ko

  by_so : (x : ℕ) (free : Bool) (k : Known) (at : At) (kept : Option Known) → Lists x k.stores → KeptLists x kept →
      KeptLists x (bound_by free k at kept).kept
  by_so x free k at None its ko = its
  by_so x free k at (Some old) its ko = by (binding_eq old.binding k.binding)
    where
      same_so : (o : Option ℕ) → KeptLists x (same_binding old k at o).kept
      same_so None = its
      same_so (Some i) = with_so x i (named_again old k) at old.inc its

      other : (b : Bool) → KeptLists x (let m = cond b (moves (Some k) at)
          (finds (Some old) (Changed 1 (two_bindings old.binding k.binding))) in m.kept)
      other true = its
      other false = ko

      by : (b : Bool) → KeptLists x (let m = cond b (same_binding old k at k.inc) (other_binding free old k at) in m.kept)
      by true = same_so k.inc
      by false = other (free && binding_less old.binding k.binding)

  bound_so : (x : ℕ) (free : Bool) (kept : Option Known) (r : BoundReply) → KeptLists x kept → BoundLists x r →
      KeptLists x (bound_answer free kept r).kept
  bound_so x free kept (bound.Live b server i g stores) ko its =
      by_so x free (live_known b server i g stores) (AtInvoke (live_known b server i g stores) i) kept its ko
  bound_so x free kept (bound.Make b server g stores) ko its = by stores
    where
      by : (ss : List ℕ) → KeptLists x (let m = made_by free (made_known b server g stores) kept
          (load_from (made_known b server g stores) ss) in m.kept)
      by [] = ko
      by (s ∷ ss) = by_so x free (made_known b server g stores) (AtLoad (made_known b server g stores) s ss) kept its ko
  bound_so x free kept (bound.Write g stores) ko its = by stores
    where
      by : (ss : List ℕ) → KeptLists x (let m = or_lost kept (load_from (write_known g stores) ss) in m.kept)
      by [] = ko
      by (s ∷ ss) = ko
  bound_so x free kept (bound.Conflict holder m) ko its = ko

  loaded_so : (x : ℕ) (kept : Option Known) (k : Known) (s : ℕ) (g : Goal) (r : LoadedReply) → KeptLists x kept →
      KeptLists x (loaded_answer kept k s g r).kept
  loaded_so x kept k s (Run o) (loaded.State st) ko = ko
  loaded_so x kept k s (Include n) (loaded.State st) ko = ko
  loaded_so x kept k s g (loaded.InDoubt holder) ko = ko

  active_so : (x : ℕ) (k : Known) (i : ℕ) (kept : Option Known) → KeptLists x kept → KeptLists x (activated_by k i kept).kept
  active_so x k i None ko = tt
  active_so x k i (Some old) ko = by (binding_eq old.binding k.binding)
    where
      by : (b : Bool) → KeptLists x (let m = cond b (with_inc i old (AtNote k i) old.inc) (moves (Some old) (AtNote k i)) in m.kept)
      by true = with_so x i old (AtNote k i) old.inc ko
      by false = ko

  noted_so : (x : ℕ) (kept : Option Known) (k : Known) (i : ℕ) (r : RecordedReply) → KeptLists x kept →
      KeptLists x (recorded_answer kept k i r).kept
  noted_so x None k i recorded.Yes ko = tt
  noted_so x (Some old) k i recorded.Yes ko = by (binding_eq old.binding k.binding)
    where
      by : (b : Bool) → KeptLists x (cond b (Some (record old { recorded = true })) (Some old))
      by true = ko
      by false = ko
  noted_so x kept k i (recorded.Changed w) ko = ko

  invoked_so : (x : ℕ) (kept : Option Known) (k : Known) (r : InvokedReply) → KeptLists x kept → KeptLists x (invoked_answer kept k r).kept
  invoked_so x kept k (invoked.Answered a) ko = ko
  invoked_so x kept k (invoked.Conflict holder m) ko = ko
  invoked_so x kept k (invoked.Changed w) ko = ko

  answered_so : (x : ℕ) (free : Bool) (kept : Option Known) (g : Goal) (at : At) (r : Reply) → KeptLists x kept → AnswerLists x at r →
      KeptLists x (answered free kept g at r).kept
  answered_so x free kept g (AtBind avoid) (Reply.Bound r) ko its = bound_so x free kept r ko its
  answered_so x free kept g (AtLoad k s rest) (Reply.Loaded r) ko its = loaded_so x kept k s g r ko
  answered_so x free kept g (AtActivate k st) (Reply.Activated i) ko its = active_so x k i kept ko
  answered_so x free kept g (AtNote k i) (Reply.Noted r) ko its = noted_so x kept k i r ko
  answered_so x free kept g (AtInvoke k i) (Reply.Invoked r) ko its = invoked_so x kept k r ko
  answered_so x free kept g (AtBind avoid) (Reply.Loaded r) ko its = ko
  answered_so x free kept g (AtBind avoid) (Reply.Activated j) ko its = ko
  answered_so x free kept g (AtBind avoid) (Reply.Noted r) ko its = ko
  answered_so x free kept g (AtBind avoid) (Reply.Invoked r) ko its = ko
  answered_so x free kept g (AtBind avoid) (Reply.Voted r) ko its = ko
  answered_so x free kept g (AtBind avoid) (Reply.Prepared r) ko its = ko
  answered_so x free kept g (AtBind avoid) (Reply.Confirmed r) ko its = ko
  answered_so x free kept g (AtLoad k s rest) (Reply.Bound r) ko its = ko
  answered_so x free kept g (AtLoad k s rest) (Reply.Activated j) ko its = ko
  answered_so x free kept g (AtLoad k s rest) (Reply.Noted r) ko its = ko
  answered_so x free kept g (AtLoad k s rest) (Reply.Invoked r) ko its = ko
  answered_so x free kept g (AtLoad k s rest) (Reply.Voted r) ko its = ko
  answered_so x free kept g (AtLoad k s rest) (Reply.Prepared r) ko its = ko
  answered_so x free kept g (AtLoad k s rest) (Reply.Confirmed r) ko its = ko
  answered_so x free kept g (AtActivate k st) (Reply.Bound r) ko its = ko
  answered_so x free kept g (AtActivate k st) (Reply.Loaded r) ko its = ko
  answered_so x free kept g (AtActivate k st) (Reply.Noted r) ko its = ko
  answered_so x free kept g (AtActivate k st) (Reply.Invoked r) ko its = ko
  answered_so x free kept g (AtActivate k st) (Reply.Voted r) ko its = ko
  answered_so x free kept g (AtActivate k st) (Reply.Prepared r) ko its = ko
  answered_so x free kept g (AtActivate k st) (Reply.Confirmed r) ko its = ko
  answered_so x free kept g (AtNote k i) (Reply.Bound r) ko its = ko
  answered_so x free kept g (AtNote k i) (Reply.Loaded r) ko its = ko
  answered_so x free kept g (AtNote k i) (Reply.Activated j) ko its = ko
  answered_so x free kept g (AtNote k i) (Reply.Invoked r) ko its = ko
  answered_so x free kept g (AtNote k i) (Reply.Voted r) ko its = ko
  answered_so x free kept g (AtNote k i) (Reply.Prepared r) ko its = ko
  answered_so x free kept g (AtNote k i) (Reply.Confirmed r) ko its = ko
  answered_so x free kept g (AtInvoke k i) (Reply.Bound r) ko its = ko
  answered_so x free kept g (AtInvoke k i) (Reply.Loaded r) ko its = ko
  answered_so x free kept g (AtInvoke k i) (Reply.Activated j) ko its = ko
  answered_so x free kept g (AtInvoke k i) (Reply.Noted r) ko its = ko
  answered_so x free kept g (AtInvoke k i) (Reply.Voted r) ko its = ko
  answered_so x free kept g (AtInvoke k i) (Reply.Prepared r) ko its = ko
  answered_so x free kept g (AtInvoke k i) (Reply.Confirmed r) ko its = ko

  -- ---- what a root keeps

  kept_so : (x : ℕ) (r : Root) → RootLists r → KeptLists x (kept_of x r)
  kept_so x r so = keyed_at (λ y (q : Keeping). KeptLists y q.kept) no_keeping x tt r.keeping so

  went_so : (w : Went) (r : Root) → RootLists r → RootLists (with_went w r)
  went_so w r so = by (list_any (same_went w) r.went)
    where
      by : (b : Bool) → RootLists (cond b r (record r { went = r.went ++ w ∷ [] }))
      by true = so
      by false = so

  said_so : (s : Said) (r : Root) → RootLists r → RootLists (with_said s r)
  said_so s r so = by (list_any (same_said s) r.said)
    where
      by : (b : Bool) → RootLists (cond b r (record r { said = r.said ++ s ∷ [] }))
      by true = so
      by false = so

  heard_so : (s : Steps) (e : CallEnd) (r : Root) → RootLists r → RootLists (root_heard s e r)
  heard_so s (Answered a) r so = said_so (record { path = uids_of s.path; x = s.x }) r so
  heard_so s (Included st) r so = so
  heard_so s (Conflict h m n) r so = so
  heard_so s (Changed n w) r so = so
  heard_so s (Lost n b) r so = so

  keep_so : (x : ℕ) (k : Keeping) (r : Root) → KeptLists x k.kept → RootLists r → RootLists (with_keeping x k r)
  keep_so x k r its so = keyed_put (λ y (q : Keeping). KeptLists y q.kept) x k r.keeping its so

  after_so : (x : ℕ) (g : Goal) (spoilt : Bool) (kept : Option Known) (k : Keeping) → KeptLists x kept → KeptLists x k.kept →
      KeptLists x (let q = keeps_after g spoilt kept k in q.kept)
  after_so x (Run o) spoilt kept k a b = a
  after_so x (Include s) spoilt kept k a b = b

  renewed_so : (x : ℕ) (free : Bool) (k : Keeping) (o : Option Known) → KeptLists x k.kept →
      KeptLists x (let q = renewed free k o in q.kept)
  renewed_so x free k None so = so
  renewed_so x free k (Some old) so = by (free && k.spoiled)
    where
      by : (b : Bool) → KeptLists x (let q = cond b (given_away k old) k in q.kept)
      by true = tt
      by false = so

  granted_so : (o : Option Grant) (r : Root) → RootLists r → RootLists (notes_grant o r)
  granted_so None r so = so
  granted_so (Some g) r so = so

  moved_so : (s : Steps) (r : Reply) (m : Moved) → KeptLists s.x m.kept → (q : Root) → RootLists q → RootLists (root_moved s r m q)
  moved_so s r m its q so =
      let k = keeping_of s.x q in
      keep_so s.x (keeps_after s.goal (has_changed m.step) m.kept k) (notes_grant (granted_by (top_of s.path) s.x r) q)
      (after_so s.x s.goal (has_changed m.step) m.kept k its (kept_so s.x q so)) (granted_so (granted_by (top_of s.path) s.x r) q so)

  lost_so : (s : Steps) (t : CallStep) (q : Root) → RootLists q → RootLists (root_lost s t q)
  lost_so s t q so = let k = keeping_of s.x q in let kept = kept_so s.x q so in keep_so s.x
      (keeps_after s.goal (is_ended t && spoils s.at) k.kept k) q (after_so s.x s.goal (is_ended t && spoils s.at) k.kept k kept kept) so

  -- a store that a commit includes is one of what it includes of the object
  in_each : (f : Used → List (ℕ × ℕ)) (m : ℕ × ℕ) (us : List Used) → In m (flat_map f us) → (w : Used) × In w us × In m (f w)
  in_each f m [] i = absurd i
  in_each f m (u ∷ us) i = by (f u) (λ j. j) (in_each f m us) i
    where
      by : (ms : List (ℕ × ℕ)) → (In m ms → In m (f u)) → (In m (flat_map f us) → (w : Used) × In w us × In m (f w)) →
          In m (ms ++ flat_map f us) → (w : Used) × In w (u ∷ us) × In m (f w)
      by [] to rest j = let r = rest j in (r.0, inr r.1, r.2)
      by (k ∷ ks) to rest (inl same) = (u, inl refl, to (inl same))
      by (k ∷ ks) to rest (inr j) = by ks (λ z. to (inr z)) rest j

  has_in : (n : ℕ) (ns : List ℕ) → In n ns → has ns n ≡ true
  has_in n [] i = absurd i
  has_in n (m ∷ ms) (inl same) = λ j. (same_is m n same j) || has ms n
    where
      same_is : (a b : ℕ) → a ≡ b → (a == b) ≡ true
      same_is a b is = grind (arith, is)
  has_in n (m ∷ ms) (inr i) = or_right (m == n) (has ms n) (has_in n ms i)

  joins_of : (p : Plan) → PlanJoins p → (x n : ℕ) → In n (marked x (included_of p)) → P x n
  joins_of p joins x n i =
      let m = in_map (λ (k : ℕ × ℕ). k.1) n (filter (λ (k : ℕ × ℕ). k.0 == x) (included_of p)) i in
      let f = in_filter (λ (k : ℕ × ℕ). k.0 == x) m.0 (included_of p) m.1 in
      let w = in_each (joins_left p) m.0 p.used f.0 in
      let o = in_map {X = ℕ} {Y = ℕ × ℕ} (λ s. (w.0.x, s)) m.0 (filter (λ s. not (is_marked w.0.x s p)) w.0.joins) w.2 in
      let g = in_filter (λ s. not (is_marked w.0.x s p)) o.0 w.0.joins o.1 in
      let same_x : w.0.x ≡ x = (λ j. (o.2 j).0) ∙ eqb-true m.0.0 x f.1 in
      let same_n : o.0 ≡ n = (λ j. (o.2 j).1) ∙ m.2 in
      subst (λ y. P y n) same_x (subst (P w.0.x) same_n (joins w.0 w.1 o.0 (has_in o.0 w.0.joins g.0)))

  lists_so : (p : Plan) → PlanJoins p → (r : Root) → RootLists r → RootLists (root_after p r)
  lists_so p joins r so = keyed_each (λ y (q : Keeping). KeptLists y q.kept) (keeping_after p) (λ x q s. by x q.kept s) r.keeping so
    where
      by : (x : ℕ) (o : Option Known) → KeptLists x o → KeptLists x (kept_after p x o)
      by x None s = tt
      by x (Some k) s = λ n on. ⊎_elim (λ old. s n (without_listed (marked x p.excluded) k.stores n old)) (λ new. joins_of p joins x n new)
          (with_listed (marked x (included_of p)) (without_stores (marked x p.excluded) k.stores) n on)

  -- ---- a commit's plan

  plan_so : (p : Path) (req : ℕ) (r : Root) (c : Coord) → RootLists r → PlanLists (plan_for p req r c)
  plan_so p req r c so = all (objects_in (actor p) r c)
    where
      known : (x : ℕ) (o : Option Known) → KeptLists x o → Lists x (let k = unwrap_or o nothing_known in k.stores)
      known x None s n on = absurd (cc on)
      known x (Some k) s n on = s n on

      one : (x : ℕ) (b : Bool) → Lists x (let k = known_for b x r in k.stores)
      one x false n on = absurd (cc on)
      one x true n on = known x (kept_of x r) (kept_so x r so) n on

      all : (xs : List ℕ) → AllByRecursion (λ (w : Used). Lists w.x w.stores) (map (used_of (actor p) r c) xs)
      all [] = tt
      all (x ∷ xs) = (one x (is_called x (actor p) r c), all xs)

  -- a plan goes on with what it uses
  lists_on : {came : Came} (p q : Plan) → PlanMove came p q → PlanLists p → PlanLists q
  lists_on _ _ (Marks n p) so = so
  lists_on _ _ _ so = so

  joins_on : {came : Came} (p q : Plan) → PlanMove came p q → PlanJoins p → PlanJoins q
  joins_on _ _ (Marks n p) so = so
  joins_on _ _ _ so = so

  plans_so : {c : Coord} {came : Came} {u : Uid} {p q : Plan} {left : List ℕ} → AreListed c → PlanFrom c came u p left → Plans came p q →
      PlanLists q
  plans_so {c} k from plans = plan_keeps PlanLists lists_on plans (before from)
    where
      before : {came : Came} {u : Uid} {p : Plan} {left : List ℕ} → PlanFrom c came u p left → PlanLists p
      before (NewPlan l b intents named) = plan_so b.path (last_req (doing_of (actor b.path) c)) (root_at (root_of b.path) c) c
          (its_root RootLists tt (root_of b.path) c k.roots)
      before (OldPlan u d m found is) = subst NowLists is (k.works u d found)

  -- a commit that is decided as it is called uses nothing
  decides_none : (ns : List ℕ) (q p : Plan) → begin_vote ns q ≡ Decides p → p.used ≡ []
  decides_none (n ∷ ns) q p is = absurd (cc is)
  decides_none [] q p is = by (targets_of q) is
    where
      confirms : (us : List Used) → q.used ≡ us → begin_confirm us q ≡ Decides p → p.used ≡ []
      confirms [] none same = let e : q ≡ p = cc same in subst (λ (z : Plan). z.used ≡ []) e none
      confirms (w ∷ ws) some same = absurd (cc same)

      by : (ts : List ℕ) → begin_prepare ts q ≡ Decides p → p.used ≡ []
      by (t ∷ ts) same = absurd (cc same)
      by [] same = confirms q.used refl same

  called_none : {c : Coord} {came : Came} {u : Uid} {k : Marked} {p : Plan} → CommitTurn c came u k → (l : Words.Label)
      (intents : List (Uid × Intent)) → came ≡ Takes (input.Commit l) intents → k.step ≡ Decides p → p.used ≡ []
  called_none {c} {p = p} (BeginsCommit _ b _ named doomed nested serial) l intents same decides =
      let q = plan_for b.path (last_req (doing_of (actor b.path) c)) (root_at (root_of b.path) c) c in
      decides_none (servers_of q) q p decides
  called_none (AnswersCommit from a r i d m found now waits) l intents same decides = absurd (cc same)
  called_none (GivesCommitUp k b i d m named found now) l intents same decides = absurd (cc same)

  ends_join : {c : Coord} {came : Came} {u : Uid} {p : Plan} → JoinsAreSo c → CommitEnds c came u p → PlanJoins p
  ends_join {c} {p = p} all ends = by ends.from ends.turns ends.decides ends.plans
    where
      by : {came : Came} {u : Uid} {q : Plan} {left : List ℕ} {k : Marked} → PlanFrom c came u q left → CommitTurn c came u k →
          k.step ≡ Decides p → Plans came q p → PlanJoins p
      by (OldPlan u d m found is) turns decides plans = plan_keeps PlanJoins joins_on plans (all u d m found is)
      by (NewPlan l b intents named) turns decides plans = λ w i. absurd (subst (In w) (called_none turns l intents refl decides) i)

  -- ---- a coordinator

  abbrev Fits : Came → Coord → Type 0
  Fits (Hears from a r intents) c = FitsLists from a r c
  Fits _ c = ⊤

  move_so : {c : Coord} {came : Came} → AreListed c → JoinsAreSo c → Fits came c → (e f : Coord) → Move c came e f →
      AreListed e → AreListed f
  move_so {c} {came} k joins fits e f m h =
      record { works = works_move (λ u d. NowLists d.now) works e f m h.works; roots = roots_move RootLists tt roots e f m h.roots }
    where
      works : KeepsWorks (λ u d. NowLists d.now) c came
      works = record {
        fresh = λ u l. tt;
        rests = λ u d so. tt;
        takes = λ u d ns so. so;
        calls = λ s d e is so. tt;
        commits = λ u m d on so. plans_so k on.from on.plans;
      }

      roots : KeepsRoots RootLists c came
      roots = record {
        renews = λ x free r so. keep_so x (renewed free (keeping_of x r) (kept_of x r)) r
            (renewed_so x free (keeping_of x r) (kept_of x r) (kept_so x r so)) so;
        answers = λ from a r intents d s found is waits came so. moved_so s r (turned s r c)
            (answered_so s.x (is_free (root_of s.path) (actor s.path) s.x c) (kept_at s c) s.goal s.at r
            (kept_so s.x (root_at (root_of s.path) c) (its_root RootLists tt (root_of s.path) c k.roots))
            (let z : FitsLists from a r c = subst (λ z. Fits z c) came fits in z d s found is waits)) (root_at (root_of s.path) c) so;
        loses = λ s r so. lost_so s (given_up s.at) r so;
        hears = λ s t f g turn is r so. heard_so s g r so;
        decides = λ u p ends r so. lists_so p (ends_join joins ends) r so;
        sent = λ p req n a e q r so. went_so (record { path = uids_of p; node = n; invoke = is_invoke_ask a }) r so;
      }

  does_so : {c : Coord} {came : Came} {e : Coord} {outs : List Words.Effect} → AreListed c → JoinsAreSo c → Fits came c →
      Trace c came c outs e → AreListed e
  does_so k joins fits t = trace_keeps AreListed (move_so k joins fits) t k

  pub heard_lists : (from : ℕ) (a : Asked) (r : Reply) (intents : List (Uid × Intent)) (c : Coord) → AreListed c → JoinsAreSo c →
      FitsLists from a r c → AreListed (heard from a r intents c).part
  heard_lists from a r intents c k joins fits = does_so k joins fits (heard_trace c from a r intents)

  pub again_lists : (c : Coord) → AreListed c → JoinsAreSo c → AreListed (again_all c.doings c).part
  again_lists c k joins = does_so k joins tt (again_trace c)

  pub acts_lists : (i : Input) (intents : List (Uid × Intent)) (c : Coord) → AreListed c → JoinsAreSo c → AreListed (acts i intents c).part
  acts_lists i intents c k joins = does_so k joins tt (acts_trace c i intents)

  pub acked_lists : (from : ℕ) (u : Uid) (intents : List (Uid × Intent)) (c : Coord) → AreListed c → JoinsAreSo c →
      AreListed (acked from u intents c).part
  acked_lists from u intents c k joins = does_so k joins tt (acked_trace c from u intents)

  pub new_lists : (node inc : ℕ) (records : List (Uid × Intent)) → AreListed (record (new_coord node inc) { telling = records })
  new_lists node inc records = record { works = works_new (λ u d. NowLists d.now) node inc records; roots = tt }

-- ---- it is claimed of more

module _ (P Q : ℕ → ℕ → Type 0) (more : (x n : ℕ) → P x n → Q x n) where
  kept_more : (x : ℕ) (o : Option Known) → KeptLists P x o → KeptLists Q x o
  kept_more x None its = tt
  kept_more x (Some k) its = λ n on. more x n (its n on)

  now_more : (n : Now) → NowLists P n → NowLists Q n
  now_more Idle its = tt
  now_more (Calling s) its = tt
  now_more (Committing m) its = all (plan_of m).used its
    where
      all : (us : List Used) → AllByRecursion (λ (w : Used). Lists P w.x w.stores) us →
          AllByRecursion (λ (w : Used). Lists Q w.x w.stores) us
      all [] its = tt
      all (w ∷ ws) its = ((λ n on. more w.x n (its.0 n on)), all ws its.1)

  root_more : (r : Root) → RootLists P r → RootLists Q r
  root_more r so = all r.keeping so
    where
      all : (ks : List (ℕ × Keeping)) → AllByRecursion (λ (e : ℕ × Keeping). KeptLists P e.0 (let k = e.1 in k.kept)) ks →
          AllByRecursion (λ (e : ℕ × Keeping). KeptLists Q e.0 (let k = e.1 in k.kept)) ks
      all [] its = tt
      all (e ∷ es) its = (kept_more e.0 (let k = e.1 in k.kept) its.0, all es its.1)

  pub lists_more : (c : Coord) → AreListed P c → AreListed Q c
  lists_more c so = record { works = λ u d found. now_more d.now (so.works u d found); roots = all c.roots so.roots }
    where
      all : (rs : List (ℕ × Root)) → AllByRecursion (λ (e : ℕ × Root). RootLists P e.1) rs →
          AllByRecursion (λ (e : ℕ × Root). RootLists Q e.1) rs
      all [] its = tt
      all (e ∷ es) its = (root_more e.1 its.0, all es its.1)

  pub bound_more : (x : ℕ) (r : BoundReply) → BoundLists P x r → BoundLists Q x r
  bound_more x (bound.Live b server i g stores) its = λ n on. more x n (its n on)
  bound_more x (bound.Make b server g stores) its = λ n on. more x n (its n on)
  bound_more x (bound.Write g stores) its = λ n on. more x n (its n on)
  bound_more x (bound.Conflict holder m) its = tt

-- ---- an action begins

pub begins_lists : (P : ℕ → ℕ → Type 0) (l : Words.Label) (how : Kind) (parent : Option Words.Label) (c : Coord) → AreListed P c →
    AreListed P (begin_action l how parent (parent_of parent c) c).part
begins_lists P l how parent c so = record {
  works = works_begun (λ u d. NowLists P d.now) l how parent (parent_of parent c) c (λ u. tt) so.works;
  roots = so.roots;
}

-- ---- naming answers

-- of each number of a list
pub all_has : (P : ℕ → ℕ → Type 0) (x : ℕ) (ns : List ℕ) → AllByRecursion (P x) ns → Lists P x ns
all_has P x [] all n on = absurd (cc on)
all_has P x (m ∷ ms) all n on = ⊎_elim (λ same. subst (P x) (eqb-true m n same) all.0) (λ more. all_has P x ms all.1 n more)
    (or_cases (m == n) (has ms n) on)

module _ (P : ℕ → ℕ → Type 0) (x : ℕ) (path : Path) (e : Entry) (all : Lists P x e.stores) where
  -- what naming answers, if anything, names such stores
  abbrev Gives : Option BoundReply → Type 0
  Gives o = (q : BoundReply) → o ≡ Some q → BoundLists P x q

  one_gives : (r : BoundReply) → BoundLists P x r → Gives (Some r)
  one_gives r its q is = let same : r ≡ q = cc is in subst (BoundLists P x) same its

  none_gives : Gives None
  none_gives q is = let no_way : ◌≡◌ {A = Option BoundReply} None (Some q) = is in absurd (cc no_way)

  named_gives : (inc : ℕ) (include : Bool) (avoid : Binding) (c : Counted) →
      Gives (let r = bind_named inc x path include avoid e c in r.reply)
  named_gives inc true avoid c = by (conflict_on x path mode.Write c.named)
    where
      by : (o : Option Row) → Gives (let r = include_asked inc x path e c o in r.reply)
      by (Some r) = one_gives (bound.Conflict (last_uid r.holder) r.mode) tt
      by None = one_gives (bound.Write inc e.stores) all
  named_gives inc false avoid c = by (live_above avoid c.named.live)
    where
      live : (l : Live) (o : Option Row) → Gives (let r = live_asked inc x path e c l o in r.reply)
      live l (Some r) = one_gives (bound.Conflict (last_uid r.holder) r.mode) tt
      live l None = one_gives (bound.Live l.binding l.server l.inc inc e.stores) all

      made : (m : Option Made) → Gives (let r = bind_made inc x path e c m in r.reply)
      made (Some m) = one_gives (bound.Make m.binding m.server inc e.stores) all
      made None = let s = next_server c.named.turn e.servers in
          one_gives (bound.Make (record { inc = inc; count = c.count + 1 }) s inc e.stores) all

      make : (o : Option Row) → Gives (let r = make_asked inc x path avoid e c o in r.reply)
      make (Some r) = one_gives (bound.Conflict (last_uid r.holder) r.mode) tt
      make None = made (made_above avoid (at_uid (top_of path) c.named.made))

      by : (l : Option Live) → Gives (let r = bind_call inc x path avoid e c l in r.reply)
      by (Some l) = live l (conflict_on x path mode.Read c.named)
      by None = make (conflict_on x path mode.Write c.named)

pub bind_lists : (P : ℕ → ℕ → Type 0) (x : ℕ) (path : Path) (include : Bool) (avoid : Binding) (d : Pair) (n : Naming) →
    Lists P x (let e = naming.listed_entry x d in e.stores) → (q : BoundReply) →
    (let r = naming.bind path x include avoid d n in r.reply) ≡ Some q → BoundLists P x q
bind_lists P x path include avoid d n all = by (is_over path n)
  where
    there : (o : Option Named) → Gives P x path (naming.listed_entry x d) all
        (let r = naming.on_counted x (bind_named n.inc x path include avoid (naming.listed_entry x d)) n o in r.reply)
    there None = none_gives P x path (naming.listed_entry x d) all
    there (Some o) = named_gives P x path (naming.listed_entry x d) all n.inc include avoid (record { named = o; count = n.count })

    by : (b : Bool) → Gives P x path (naming.listed_entry x d) all (let r = cond {A = Served Naming BoundReply} b (void n)
        (naming.on_counted x (bind_named n.inc x path include avoid (naming.listed_entry x d)) n (at_number x n.objects)) in r.reply)
    by true = none_gives P x path (naming.listed_entry x d) all
    by false = there (at_number x n.objects)
