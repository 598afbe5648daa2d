-- What coordinators know of servers, through all that they do.
use Rattle.arj_law_parts.proofs.Words
use Words.{◌≡◌, ◌==◌, arith, ℕ, List, [], ◌∷◌, ◌++◌, Bool, true, false, cond, ◌&&◌, ◌||◌, map, filter, Option, Some, None, refl, sym, subst}
use Words.{eqb-true, min, nat_le, ⊤, unwrap_or, AllByRecursion, list_any, and_parts, Uid, Path, Asked, uids_of, Reply, actor, ask_kind}
use Words.{reply_kind, top_of, known_at_start, renewed, given_away, root_heard, root_moved, kept_at, keeps_after, notes_grant, granted_by}
use Words.{was_named, last_req, heard, waits_for_call, root_lost, is_ended, again_all, is_invoke_ask, Known, Steps, CallStep, CallEnd}
use Words.{Answered, Included, Conflict, Changed, Lost, Moved, Goal, given_up, next_node, next_ask, spoils, has_changed, Used, Plan}
use Words.{Machine, Voting, Preparing, Confirming, plan_of, ask_of, is_at_server, least_of, Coord, new_coord, Doing, Calling, Root, Keeping}
use Words.{Went, Said, Grant, doing_of, root_at, no_keeping, keeping_of, kept_of, is_free, known_for, nothing_known, objects_in, plan_for}
use Words.{retains, used_of, used_with, is_called, with_keeping, with_went, with_said, same_went, same_said, Effect, Intent, root_after}
use Words.{keeping_after, kept_after, acked, binding_number, Input, acts, ends_of, root_of}
use Words.calls
use Rattle.arj_law_parts.proofs.Terms
use Terms.{Homes, Reach, IsAtSo, IsKeptSo, IsKnownSo, IsMovedSo, IsPastZero, IsReached, IsStepSo, NamesAsk, NamesReply}
use Rattle.arj_law_parts.proofs.coordinator
use coordinator.Trace.{Came, Hears, turned, kept_at_start, CallTurn, Answers, GivesUp, Calls, StartsCall, StartsInclude, GoesOn, CallsAgain}
use coordinator.Trace.{PlanFrom, NewPlan, OldPlan, PlanMove, Marks, Plans, plan_keeps, Commits, CommitsOn, CommitsAgain, OfCall, OfCommit}
use coordinator.Trace.{Move, Out, AsksIt, Trace, trace_says}
use coordinator.Walks.{acts_trace, heard_trace, acked_trace, again_trace}
use coordinator.Works.{KeepsWorks, works_move, works_new, KeepsRoots, its_root, roots_move}
use Rattle.arj_law_parts.proofs.parts
use parts.LivesKnown.{answered_so, asks_so, given_up_so, request_so, start_so}
use parts.LivesNamed.{keyed_at, keyed_each, keyed_put}
use Rattle.arj_law_parts.specs.parts.Lives.{AllName, FitsCall, HasReachedSome, IsNowSo, IsRootSo, IsUsedSo, KnowsServers, NamesEffect}

module _ (home : Homes) (reach : Reach) (nobody : home 0 ≡ 0) (early : IsPastZero reach) where
  abbrev Knows : Coord → Type 0
  Knows c = KnowsServers home reach c

  abbrev Root_so : Root → Type 0
  Root_so r = IsRootSo home reach r

  abbrev Doing_so : Uid → Doing → Type 0
  Doing_so u d = IsNowSo home reach d.now

  abbrev Used_so : Plan → Type 0
  Used_so p = AllByRecursion (IsUsedSo home reach) p.used

  -- ---- what a root keeps

  kept_so : (x : ℕ) (r : Root) → IsRootSo home reach r → IsKeptSo home reach x (kept_of x r)
  kept_so x r so = keyed_at (λ y (q : Keeping). IsKeptSo home reach y q.kept) no_keeping x tt r.keeping so

  -- what the root takes note of leaves what it keeps
  went_so : (w : Went) (r : Root) → IsRootSo home reach r → IsRootSo home reach (with_went w r)
  went_so w r so = by (list_any (same_went w) r.went)
    where
      by : (b : Bool) → IsRootSo home reach (cond b r (record r { went = r.went ++ w ∷ [] }))
      by true = so
      by false = so

  said_so : (s : Said) (r : Root) → IsRootSo home reach r → IsRootSo home reach (with_said s r)
  said_so s r so = by (list_any (same_said s) r.said)
    where
      by : (b : Bool) → IsRootSo home reach (cond b r (record r { said = r.said ++ s ∷ [] }))
      by true = so
      by false = so

  heard_so : (s : Steps) (e : CallEnd) (r : Root) → IsRootSo home reach r → IsRootSo home reach (root_heard s e r)
  heard_so s (Answered a) r so = said_so (record { path = uids_of s.path; x = s.x }) r so
  heard_so s (Included st) r so = so
  heard_so s (Conflict h m n) r so = so
  heard_so s (Changed n w) r so = so
  heard_so s (Lost n b) r so = so

  -- what a root keeps of an object
  keep_so : (x : ℕ) (k : Keeping) (r : Root) → IsKeptSo home reach x k.kept → IsRootSo home reach r →
      IsRootSo home reach (with_keeping x k r)
  keep_so x k r its so = keyed_put (λ y (q : Keeping). IsKeptSo home reach y q.kept) x k r.keeping its so

  after_so : (x : ℕ) (g : Goal) (spoilt : Bool) (kept : Option Known) (k : Keeping) → IsKeptSo home reach x kept →
      IsKeptSo home reach x k.kept → IsKeptSo home reach x (let q = keeps_after g spoilt kept k in q.kept)
  after_so x (calls.Run o) spoilt kept k a b = a
  after_so x (calls.Include s) spoilt kept k a b = b

  known_so : (top : Uid) (x : ℕ) (r : Root) (c : Coord) (o : Option Known) → IsKeptSo home reach x o →
      IsKeptSo home reach x (known_at_start top x r c o)
  known_so top x r c None so = tt
  known_so top x r c (Some k) so = by (k.recorded && (was_named top x k.binding r || retains x r c))
    where
      by : (b : Bool) → IsKeptSo home reach x (cond b (Some k) None)
      by true = so
      by false = tt

  renewed_so : (x : ℕ) (free : Bool) (k : Keeping) (o : Option Known) → IsKeptSo home reach x k.kept →
      IsKeptSo home reach x (let q = renewed free k o in q.kept)
  renewed_so x free k None so = so
  renewed_so x free k (Some old) so = by (free && k.spoiled)
    where
      by : (b : Bool) → IsKeptSo home reach x (let q = cond b (given_away k old) k in q.kept)
      by true = tt
      by false = so

  granted_so : (o : Option Grant) (r : Root) → IsRootSo home reach r → IsRootSo home reach (notes_grant o r)
  granted_so None r so = so
  granted_so (Some g) r so = so

  moved_so : (s : Steps) (r : Reply) (m : Moved) → IsMovedSo home reach s.x m → (q : Root) → IsRootSo home reach q →
      IsRootSo home reach (root_moved s r m q)
  moved_so s r m its q so =
      let k = keeping_of s.x q in
      keep_so s.x (keeps_after s.goal (has_changed m.step) m.kept k) (notes_grant (granted_by (top_of s.path) s.x r) q)
      (after_so s.x s.goal (has_changed m.step) m.kept k its.1 (kept_so s.x q so)) (granted_so (granted_by (top_of s.path) s.x r) q so)

  know_lost : (s : Steps) (t : CallStep) (q : Root) → IsRootSo home reach q → IsRootSo home reach (root_lost s t q)
  know_lost s t q so = let k = keeping_of s.x q in let kept = kept_so s.x q so in keep_so s.x
      (keeps_after s.goal (is_ended t && spoils s.at) k.kept k) q (after_so s.x s.goal (is_ended t && spoils s.at) k.kept k kept kept) so

  lists_so : (p : Plan) (r : Root) → IsRootSo home reach r → IsRootSo home reach (root_after p r)
  lists_so p r so = keyed_each (λ y (q : Keeping). IsKeptSo home reach y q.kept) (keeping_after p) (λ x q s. by x q.kept s) r.keeping so
    where
      by : (x : ℕ) (o : Option Known) → IsKeptSo home reach x o → IsKeptSo home reach x (kept_after p x o)
      by x None s = tt
      by x (Some k) s = (s.0, s.1)

  -- ---- commits

  least_so : (P : ℕ → Type 0) → P 0 → (ns : List ℕ) → AllByRecursion P ns → P (least_of ns)
  least_so P none [] all = none
  least_so P none (i ∷ []) all = all.0
  least_so P none (i ∷ j ∷ ns) all = smaller i (least_of (j ∷ ns)) all.0 (least_so P none (j ∷ ns) all.1)
    where
      smaller : (a b : ℕ) → P a → P b → P (min a b)
      smaller a b x y = by (nat_le a b) refl
        where
          left : nat_le a b ≡ true → min a b ≡ a
          left is = grind (arith, is)

          right : nat_le a b ≡ false → min a b ≡ b
          right is = grind (arith, is)

          by : (q : Bool) → nat_le a b ≡ q → P (min a b)
          by true is = subst P (sym (left is)) x
          by false is = subst P (sym (right is)) y

  -- the incarnations of what is at a server
  incs_so : (s : ℕ) (us : List Used) → AllByRecursion (IsUsedSo home reach) us →
      AllByRecursion (HasReachedSome reach s) (map (λ (u : Used). u.inc) (filter (is_at_server s) us))
  incs_so s [] all = tt
  incs_so s (u ∷ us) all = by (is_at_server s u) refl (incs_so s us all.1)
    where
      by : (b : Bool) → is_at_server s u ≡ b →
          AllByRecursion (HasReachedSome reach s) (map (λ (u : Used). u.inc) (filter (is_at_server s) us)) → AllByRecursion
          (HasReachedSome reach s) (map (λ (u : Used). u.inc) (cond b (u ∷ filter (is_at_server s) us) (filter (is_at_server s) us)))
      by true is ih = (
        (
          u.x,
          binding_number u.binding,
          subst (λ n. IsReached reach n u.x u.binding u.inc) (eqb-true u.server s (and_parts u.called (u.server == s) is).1) all.0,
        ),
        ih,
      )
      by false is ih = ih

  machine_so : (m : Machine) (n : ℕ) → Used_so (plan_of m) → NamesAsk home reach n (ask_of m n)
  machine_so (Voting p left) n so = least_so (HasReachedSome reach n) (0, 0, early n 0 0)
      (map (λ (u : Used). u.inc) (filter (is_at_server n) p.used)) (incs_so n p.used so)
  machine_so (Preparing p left) n so = tt
  machine_so (Confirming p) n so = tt

  -- what a plan uses
  used_so : (top : Uid) (r : Root) (c : Coord) (x : ℕ) → IsRootSo home reach r → IsUsedSo home reach (used_of top r c x)
  used_so top r c x so = by (is_called x top r c)
    where
      inc_so : (k : Known) → IsKnownSo home reach x k → IsReached reach k.server x k.binding (unwrap_or k.inc 0)
      inc_so k its = one k.inc refl
        where
          one : (o : Option ℕ) → k.inc ≡ o → IsReached reach k.server x k.binding (unwrap_or o 0)
          one None is = early k.server x (binding_number k.binding)
          one (Some i) is = its.1 i is

      nothing : IsKnownSo home reach x nothing_known
      nothing = (sym nobody, λ i is. let no_way : ◌≡◌ {A = Option ℕ} None (Some i) = is in cc)

      kept : (o : Option Known) → IsKeptSo home reach x o → IsKnownSo home reach x (unwrap_or o nothing_known)
      kept None s = nothing
      kept (Some k) s = s

      by : (b : Bool) → IsUsedSo home reach (used_with x b top r c (known_for b x r))
      by true = inc_so (unwrap_or (kept_of x r) nothing_known) (kept (kept_of x r) (kept_so x r so))
      by false = inc_so nothing_known nothing

  plan_so : (p : Path) (req : ℕ) (r : Root) (c : Coord) → IsRootSo home reach r → Used_so (plan_for p req r c)
  plan_so p req r c so = by (objects_in (actor p) r c)
    where
      by : (xs : List ℕ) → AllByRecursion (IsUsedSo home reach) (map (used_of (actor p) r c) xs)
      by [] = tt
      by (x ∷ xs) = (used_so (actor p) r c x so, by xs)

  -- ---- small steps

  -- what the answer is known to say
  abbrev Fits : Came → Coord → Type 0
  Fits (Hears from a r intents) c = FitsCall home reach from a r c
  Fits _ c = ⊤

  answer_so : (from : ℕ) (a : Asked) (r : Reply) (intents : List (Uid × Intent)) (d : Doing) (s : Steps) (c : Coord) → Knows c →
      FitsCall home reach from a r c → doing_of a.act c ≡ Some d → d.now ≡ Calling s → waits_for_call from a r s ≡ true →
      IsMovedSo home reach s.x (turned s r c)
  answer_so from a r intents d s c k rs found is waits =
      let f = rs d s found is waits in
      let kind = and_parts (reply_kind r == ask_kind (next_ask [] s)) (next_node s == from)
      (and_parts (s.req == a.req) ((reply_kind r == ask_kind (next_ask [] s)) && (next_node s == from)) waits).1 in
      answered_so home reach nobody early s.x (is_free (root_of s.path) (actor s.path) s.x c) (kept_at s c) s.goal s.at r
      (kept_so s.x (root_at (root_of s.path) c) (its_root Root_so tt (root_of s.path) c k.roots))
      (subst (IsNowSo home reach) is (k.works a.act d found))
      (subst (λ n. NamesReply home reach n (next_ask [] s) r) (sym (eqb-true (next_node s) from kind.1)) f.0) f.1

  turn_so : {c : Coord} {came : Came} {s : Steps} {t : CallStep} {e : Coord} → Knows c → Fits came c → CallTurn c came s t e →
      IsStepSo home reach s.x t
  turn_so {c} k fits (Answers from a r intents d s found is waits) = (answer_so from a r intents d s c k fits found is waits).0
  turn_so k fits (GivesUp l b intents d s named found is) =
      given_up_so home reach nobody early s.x s.at (subst (IsNowSo home reach) is (k.works (actor b.path) d found))

  calls_so : {c : Coord} {came : Came} {e : Coord} {u : Uid} {s : Steps} → Knows c → Fits came c → Calls c came e u s →
      IsAtSo home reach s.x s.at
  calls_so {c} k fits (StartsCall l x o b intents named) =
      let r = root_at (root_of b.path) c in
      let kept = kept_at_start b.path x c in
      start_so home reach nobody early x (known_at_start (top_of b.path) x r c kept.kept) kept.avoid
      (known_so (top_of b.path) x r c kept.kept
      (renewed_so x (is_free (root_of b.path) (actor b.path) x c) (keeping_of x r) (kept_of x r)
      (kept_so x r (its_root Root_so tt (root_of b.path) c k.roots))))
  calls_so k fits (StartsInclude l x store b intents named) = tt
  calls_so k fits (GoesOn s t e at turn is) = subst (IsStepSo home reach s.x) is (turn_so k fits turn)
  calls_so k fits (CallsAgain u d s found is) = subst (IsNowSo home reach) is (k.works u d found)

  plans_so : {c : Coord} {came : Came} {u : Uid} {p q : Plan} {left : List ℕ} → Knows c → PlanFrom c came u p left → Plans came p q →
      Used_so q
  plans_so {c} k from plans = plan_keeps Used_so move plans (before from)
    where
      before : {came : Came} {u : Uid} {p : Plan} {left : List ℕ} → PlanFrom c came u p left → Used_so p
      before (NewPlan l b intents named) = plan_so b.path (last_req (doing_of (actor b.path) c)) (root_at (root_of b.path) c) c
          (its_root Root_so tt (root_of b.path) c k.roots)
      before (OldPlan u d m found is) = subst (IsNowSo home reach) is (k.works u d found)

      move : {came : Came} (p q : Plan) → PlanMove came p q → Used_so p → Used_so q
      move _ _ (Marks n p) so = so
      move _ _ _ so = so

  commits_so : {c : Coord} {came : Came} {u : Uid} {m : Machine} → Knows c → Commits c came u m → Used_so (plan_of m)
  commits_so k (CommitsOn u m on) = plans_so k on.from on.plans
  commits_so k (CommitsAgain u d m found is) = subst (IsNowSo home reach) is (k.works u d found)

  move_so : {c : Coord} {came : Came} → Knows c → Fits came c → (e f : Coord) → Move c came e f → Knows e → Knows f
  move_so {c} {came} k fits e f m h =
      record { works = works_move Doing_so works e f m h.works; roots = roots_move Root_so tt roots e f m h.roots }
    where
      works : KeepsWorks Doing_so c came
      works = record {
        fresh = λ u l. tt;
        rests = λ u d so. tt;
        takes = λ u d ns so. so;
        calls = λ s d e is so. calls_so k fits is;
        commits = λ u m d on so. plans_so k on.from on.plans;
      }

      roots : KeepsRoots Root_so c came
      roots = record {
        renews = λ x free r so. keep_so x (renewed free (keeping_of x r) (kept_of x r)) r
            (renewed_so x free (keeping_of x r) (kept_of x r) (kept_so x r so)) so;
        answers = λ from a r intents d s found is waits came so. moved_so s r (turned s r c)
            (answer_so from a r intents d s c k (subst (λ z. Fits z c) came fits) found is waits) (root_at (root_of s.path) c) so;
        loses = λ s r so. know_lost s (given_up s.at) r so;
        hears = λ s t f g turn is r so. heard_so s g r so;
        decides = λ u p ends r so. lists_so p r so;
        sent = λ p req n a e q r so. went_so (record { path = uids_of p; node = n; invoke = is_invoke_ask a }) r so;
      }

  out_so : {c : Coord} {came : Came} → Knows c → Fits came c → (e : Coord) (x : Effect) → Out c came e x → Knows e →
      NamesEffect home reach x
  out_so k fits _ _ (AsksIt _ _ _ _ _ (OfCall u s f e is tree at)) h =
      request_so home reach (next_node s) (record { path = s.path; req = s.req }) (next_ask (ends_of (root_of s.path) e.tree) s)
      (asks_so home reach nobody early s.x s.goal (ends_of (root_of s.path) e.tree) s.at (calls_so k fits is))
  out_so k fits _ _ (AsksIt _ _ _ _ _ (OfCommit u m n e is i tree at)) h =
      request_so home reach n (record { path = (plan_of m).path; req = (plan_of m).req }) (ask_of m n) (machine_so m n (commits_so k is))
  out_so k fits _ _ _ h = tt

  -- what a coordinator did
  knows_so : {c : Coord} {came : Came} {e : Coord} {outs : List Effect} → Knows c → Fits came c → Trace c came c outs e →
      Knows e × AllName home reach outs
  knows_so k fits t = trace_says Knows (move_so k fits) (NamesEffect home reach) (out_so k fits) t k

  pub know_heard : (from : ℕ) (a : Asked) (r : Reply) (intents : List (Uid × Intent)) (c : Coord) → Knows c →
      FitsCall home reach from a r c → let d = heard from a r intents c in Knows d.part × AllName home reach d.outs
  know_heard from a r intents c k rs = knows_so k rs (heard_trace c from a r intents)

  pub know_again : (c : Coord) → Knows c → let d = again_all c.doings c in Knows d.part × AllName home reach d.outs
  know_again c k = knows_so k tt (again_trace c)

  pub know_acts : (i : Input) (intents : List (Uid × Intent)) (c : Coord) → Knows c → let d = acts i intents c in
      Knows d.part × AllName home reach d.outs
  know_acts i intents c k = knows_so k tt (acts_trace c i intents)

  pub know_acked : (from : ℕ) (u : Uid) (intents : List (Uid × Intent)) (c : Coord) → Knows c → let d = acked from u intents c in
      Knows d.part × AllName home reach d.outs
  know_acked from u intents c k = knows_so k tt (acked_trace c from u intents)

  pub know_new : (node inc : ℕ) (records : List (Uid × Intent)) → Knows (record (new_coord node inc) { telling = records })
  know_new node inc records = record { works = works_new Doing_so node inc records; roots = tt }
