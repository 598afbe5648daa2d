-- What a coordinator says is true, and stays so.
use Rattle.arj_law_parts.proofs.Words
use Words.{◌≡◌, ◌⊎◌, ◌+◌, ℕ, List, [], ◌∷◌, ◌++◌, length, Bool, true, false, cond, ◌&&◌, ◌||◌, map, Option, Some, None, refl, sym, ◌∙◌, ap}
use Words.{subst, inl, inr, ⊎_elim, flat_map, and_parts, or_cases, match_ordering, Ordering, Less, Equal, Greater, uid_order, uid_is, In}
use Words.{in_from, in_to, Uid, End, Kind, Path, Op, Body, Label, Ask, Head, request, uid_eq, actor, asks_node, asks_all, asks_step}
use Words.{goes_on, call, call_steps, renewed, include, next_req, doomed_by, root_heard, step_call, mark_lines, commits_in, asks_machine}
use Words.{step_commit, moved_commit, Steps, Goal, At, AtBind, AtLoad, AtActivate, AtNote, AtInvoke, CallStep, On, Ended, CallEnd, Answered}
use Words.{Included, Conflict, Changed, Lost, next_ask, ask_at, start, Plan, Machine, Voting, Preparing, Confirming, CommitStep, Stays}
use Words.{Asks, Decides, Aborts, plan_of, participants, has_record, ask_of, Coord, Doing, Idle, Calling, Committing, doing_of}
use Words.{change_doing, on_doing, on_root, root_at, keeping_of, is_free, with_keeping, Effect, Say, Send, Do, PutIntent, Did, Intent, says}
use Words.{say_for, tell, tell_all, up_to, tolds_by, tolds_of_branch, tolds_of, ended, ends_with, all_aborted, abort_action, decided_told}
use Words.{decide, root_after, has, put_uid, unbound, Tree, Branch, branch_of, ends_of, root_of, has_open_child, open_below, uses_object}
use Words.{doomed_at, doomed_branch, ended_at}
use Words.ask
use Words.ending
use Words.kind
use Words.body
use Words.cause
use Words.calls
use Words.commit
use Rattle.arj_law_parts.proofs.Terms
use Terms.{Action, IsClaimed, AreTrue, GoesOn, IsHomeWork, AreBusy, IsVoting, IsOver, IsCommitting, IsGoodCoord, Paths, IsTree, SealsAsk}
use Terms.{is_commit, has_commit_of, has_end_of}
use Rattle.arj_law_parts.proofs.parts
use parts.GoodCoords.{uses_same, doomed_same, on_tree, actor_is, good_uses, good_abort, good_ended_c, busy_ended, planned, IsStepOf}
use parts.Settled.{place_length, node_on, inc_on, claim_on, over_claim, commit_claim, then_on, same_on, tree_on, doing_put, work_on}
use parts.Settled.{ended_on, end_over}
use Rattle.arj_law_parts.specs.parts.Claims.{IsTrue, IsTrueEffect}

-- ---- maps

pub put_in : (u : Uid) (i : Intent) (w : Uid) (j : Intent) (m : List (Uid × Intent)) → In (w, j) (put_uid u i m) →
    (w ≡ u) ⊎ ((k : Intent) × In (w, k) m)
put_in u i w j [] (inl same) = inl (sym (ap (λ (e : Uid × Intent). e.0) same))
put_in u i w j [] (inr none) = absurd none
put_in u i w j (e ∷ es) is = by (uid_order u e.0) (put_in u i w j es) is
  where
    later : (w ≡ u) ⊎ ((k : Intent) × In (w, k) es) → (w ≡ u) ⊎ ((k : Intent) × In (w, k) (e ∷ es))
    later (inl same) = inl same
    later (inr old) = inr (old.0, inr old.1)

    by : (r : Ordering) → (In (w, j) (put_uid u i es) → (w ≡ u) ⊎ ((k : Intent) × In (w, k) es)) →
        In (w, j) (match_ordering r ((u, i) ∷ e ∷ es) ((e.0, i) ∷ es) (e ∷ put_uid u i es)) → (w ≡ u) ⊎ ((k : Intent) × In (w, k) (e ∷ es))
    by Less ih (inl same) = inl (sym (ap (λ (x : Uid × Intent). x.0) same))
    by Less ih (inr old) = inr (j, old)
    by Equal ih (inl same) = inr (e.1, inl (λ n. ((ap (λ (x : Uid × Intent). x.0) same) n, e.1)))
    by Equal ih (inr old) = inr (j, inr old)
    by Greater ih (inl same) = inr (j, inl same)
    by Greater ih (inr old) = later (ih old)

-- ---- lists of effects

pub true_on : (c e : Coord) → GoesOn c e → (outs : List Effect) → AreTrue c outs → AreTrue e outs
true_on c e g [] all = tt
true_on c e g (Say b ∷ es) all = (tt, true_on c e g es all.1)
true_on c e g (Do w ∷ es) all = (
  subst (λ i. IsHomeWork e.tree.node i w) (inc_on c e g) (subst (λ n. IsHomeWork n c.tree.inc w) (node_on c e g) all.0),
  true_on c e g es all.1,
)
true_on c e g (Send to m ∷ es) all =
    (record { claims = λ u s. claim_on c e g u (all.0.claims u s); plain = all.0.plain }, true_on c e g es all.1)

module _ (c : Coord) where
  pub true_both : (es fs : List Effect) → AreTrue c es → AreTrue c fs → AreTrue c (es ++ fs)
  true_both [] fs a b = b
  true_both (e ∷ es) fs a b = (a.0, true_both es fs a.1 b)

  pub true_map : {A : Type 0} (f : A → Effect) (items : List A) → ((x : A) → In x items → IsTrueEffect c (f x)) → AreTrue c (map f items)
  true_map f [] each = tt
  true_map f (x ∷ xs) each = (each x (inl refl), true_map f xs (λ y i. each y (inr i)))

  pub true_flat : {A : Type 0} (f : A → List Effect) (items : List A) → ((x : A) → AreTrue c (f x)) → AreTrue c (flat_map f items)
  true_flat f [] each = tt
  true_flat f (x ∷ xs) each = true_both (f x) (flat_map f xs) (each x) (true_flat f xs each)

  pub true_says : (u : Uid) (f : Label → Body) (d : Coord) → AreTrue c (says u f d)
  true_says u f d = by (doing_of u d)
    where
      by : (o : Option Doing) → AreTrue c (say_for f o)
      by None = tt
      by (Some x) = (tt, tt)

  -- tolds, where each commit in them is claimed
  pub true_tells : (root : Uid) (ack : Bool) (ends : List (Uid × End)) (nodes : List ℕ) →
      ((u : Uid) → has_commit_of u ends ≡ true → IsClaimed u c) → AreTrue c (tell_all root ack ends nodes)
  true_tells root ack ends nodes claims = true_map (tell root ack ends) nodes (λ n i. record { claims = claims; plain = refl })

-- ---- ends

pub commit_end : (u : Uid) (es : List (Uid × End)) → has_commit_of u es ≡ true → has_end_of u es ≡ true
commit_end u [] is = let no_way : false ≡ true = is in cc
commit_end u (e ∷ es) is = ⊎_elim (λ here. λ i. (and_parts (uid_eq e.0 u) (is_commit e.1) here).0 i || has_end_of u es)
    (λ later. by (uid_eq e.0 u) (commit_end u es later)) (or_cases (uid_eq e.0 u && is_commit e.1) (has_commit_of u es) is)
  where
    by : (b : Bool) → has_end_of u es ≡ true → (b || has_end_of u es) ≡ true
    by true h = refl
    by false h = h

-- no commit is in an abort alone
pub abort_none : {P : Type 0} (u w : Uid) → has_commit_of u ((w, ending.Abort) ∷ []) ≡ true → P
abort_none u w is = by (uid_eq w u) is
  where
    by : {P : Type 0} (b : Bool) → ((b && false) || false) ≡ true → P
    by true e = let no_way : false ≡ true = e in cc
    by false e = let no_way : false ≡ true = e in cc

-- the one commit
pub commit_one : (u w : Uid) → has_commit_of u ((w, ending.Commit) ∷ []) ≡ true → w ≡ u
commit_one u w is = uid_is w u (by (uid_eq w u) is)
  where
    by : (b : Bool) → ((b && true) || false) ≡ true → b ≡ true
    by true e = refl
    by false e = e

front_commit : (u w : Uid) (es : List (Uid × End)) → has_commit_of u (up_to w es) ≡ true → has_commit_of u es ≡ true
front_commit u w [] is = is
front_commit u w (e ∷ es) is = by (uid_eq e.0 w) (front_commit u w es) is
  where
    later : (b : Bool) → has_commit_of u es ≡ true → (b || has_commit_of u es) ≡ true
    later true h = refl
    later false h = h

    by : (b : Bool) → (has_commit_of u (up_to w es) ≡ true → has_commit_of u es ≡ true) →
        has_commit_of u (cond b (e ∷ []) (e ∷ up_to w es)) ≡ true → has_commit_of u (e ∷ es) ≡ true
    by true ih f = ⊎_elim (λ here. λ i. here i || has_commit_of u es) (λ none. let no_way : false ≡ true = none in
        cc) (or_cases (uid_eq e.0 u && is_commit e.1) false f)
    by false ih f = ⊎_elim (λ here. λ i. here i || has_commit_of u es) (λ rest. later (uid_eq e.0 u && is_commit e.1) (ih rest))
        (or_cases (uid_eq e.0 u && is_commit e.1) (has_commit_of u (up_to w es)) f)

-- ---- a request

true_request : (c : Coord) (h : Head) (a : Ask) → ((u : Uid) → SealsAsk h a u → IsClaimed u c) → IsTrue c (request h a)
true_request c h (ask.Bind x i avoid) f = record { claims = f; plain = refl }
true_request c h (ask.Load x) f = record { claims = f; plain = refl }
true_request c h (ask.Activate b st) f = record { claims = f; plain = refl }
true_request c h (ask.Record x b i g) f = record { claims = f; plain = refl }
true_request c h (ask.Invoke x b i ends o) f = record { claims = f; plain = refl }
true_request c h (ask.Vote i ties ends) f = record { claims = f; plain = refl }
true_request c h (ask.Prepare states) f = record { claims = f; plain = refl }
true_request c h (ask.Confirm g e i) f = record { claims = f; plain = refl }

-- the action isn't at its commit
abbrev pub IsFree : Uid → Coord → Type 0
IsFree u c = (d : Doing) (m : Machine) → doing_of u c ≡ Some d → d.now ≡ Committing m → ⊥

module _ (actions : List Action) (paths : Paths) (tree : IsTree paths) where
  abbrev Good : Coord → Type 0
  Good c = IsGoodCoord actions paths c

  -- each commit in a root's list is of an action that is over
  abbrev AreListed : Tree → Type 0
  AreListed t = (r u : Uid) → has_commit_of u (ends_of r t) ≡ true → IsOver u t

  pub listed_of : (c : Coord) → Good c → AreListed c.tree
  listed_of c good r u is = good.tree.lists.over r u (commit_end u (ends_of r c.tree) is)

  -- the coordinator goes on, and what it says is true then
  pub record IsWell (c : Coord) (d : Did Coord) : Type 0 where
    pub on : GoesOn c d.part
    pub outs : AreTrue d.part d.outs

  -- ---- calls

  true_ask : (c : Coord) → AreListed c.tree → (h : Head) (x : ℕ) (g : Goal) (r : Uid) (at : At) →
      IsTrue c (request h (ask_at x g (ends_of r c.tree) at))
  true_ask c listed h x g r at = true_request c h (ask_at x g (ends_of r c.tree) at) (by at)
    where
      by : (a : At) (u : Uid) → SealsAsk h (ask_at x g (ends_of r c.tree) a) u → IsClaimed u c
      by (AtBind avoid) u s = absurd s
      by (AtLoad k n rest) u s = absurd s
      by (AtActivate k st) u s = absurd s
      by (AtNote k i) u s = absurd s
      by (AtInvoke k i) u s = over_claim c u (listed r u s)

  true_step : (s : Steps) (c : Coord) → AreListed c.tree → AreTrue c (asks_step s c).outs
  true_step s c listed = (true_ask c listed (record { path = s.path; req = s.req }) s.x s.goal (root_of s.path) s.at, tt)

  asked_on : (p : Path) (req : ℕ) (a : ℕ × Ask) (c : Coord) → GoesOn c (asks_node p req a c).part
  asked_on p req a c = same_on c (asks_node p req a c).part refl refl refl refl

  pub well_step : (s : Steps) (c : Coord) → AreListed c.tree → IsWell c (asks_step s c)
  well_step s c listed = let on = asked_on s.path s.req (calls.next_node s, next_ask (ends_of (root_of s.path) c.tree) s) c in
      record { on = on; outs = true_on c (asks_step s c).part on (asks_step s c).outs (true_step s c listed) }

  well_after : (c e : Coord) (d : Did Coord) → GoesOn c e → IsWell e d → IsWell c d
  well_after c e d on w = record { on = then_on c e d.part on w.on; outs = w.outs }

  well_goes : (s : Steps) (c : Coord) → IsFree (actor s.path) c → AreListed c.tree → IsWell c (goes_on s c)
  well_goes s c free listed =
      let f : Doing → Doing = λ (d : Doing). record d { req = s.req; now = Calling s } in
      let e : Coord = on_doing (actor s.path) f c in
      well_after c e (goes_on s c) (work_on (actor s.path) f c (λ d m found is. absurd (free d m found is)))
      (well_step s e (subst AreListed (sym (on_tree (actor s.path) f c)) listed))

  uses_on : (p : Path) (x : ℕ) (c : Coord) → GoesOn c (record c { tree = uses_object p x c.tree })
  uses_on p x c = tree_on c (uses_object p x c.tree) (uses_same p x c.tree) refl

  pub well_call : (p : Path) (x : ℕ) (o : Op) (c : Coord) → IsFree (actor p) c → Good c → IsWell c (call p x o c)
  well_call p x o c free good =
      let r = root_at (root_of p) c in
      let old = keeping_of x r in
      let k = renewed (is_free (root_of p) (actor p) x c) old old.kept in
      let u : Coord = record c { tree = uses_object p x c.tree } in
      let t : Coord = on_root (root_of p) (with_keeping x k) u in
      well_after c t (call p x o c) (then_on c u t (uses_on p x c) (same_on u t refl refl refl refl))
      (well_goes (call_steps p x o (next_req (actor p) c) r c k) t free (listed_of u (good_uses actions paths p x c good)))

  pub well_include : (p : Path) (x s : ℕ) (c : Coord) → IsFree (actor p) c → Good c → IsWell c (include p x s c)
  well_include p x s c free good =
      let u : Coord = record c { tree = uses_object p x c.tree } in
      well_after c u (include p x s c) (uses_on p x c) (well_goes (start p x (calls.Include s) None unbound (next_req (actor p) c)) u free
      (listed_of u (good_uses actions paths p x c good)))

  doomed_length : (u : Uid) (t : Tree) → length (let v = doomed_at u t in v.branches) ≡ length t.branches
  doomed_length u t = by (branch_of u t)
    where
      by : (o : Option Branch) → length (let v = doomed_branch u t o in v.branches) ≡ length t.branches
      by None = refl
      by (Some b) = place_length u.num (record b { doomed = true }) t.branches

  pub well_step_call : (s : Steps) (t : CallStep) (c : Coord) → IsFree (actor s.path) c → AreListed c.tree → IsWell c (step_call s t c)
  well_step_call s (On at) c free listed = well_goes (record s { req = s.req + 1; at = at }) c free listed
  well_step_call s (Ended e) c free listed = record { on = by e; outs = true_says (step_call s (Ended e) c).part (actor s.path) _ c }
    where
      u : Uid
      u = actor s.path

      f : Doing → Doing
      f d = record d { now = Idle }

      idle : Coord
      idle = on_root (root_of s.path) (root_heard s e) (on_doing (actor s.path) (λ (d : Doing). record d { now = Idle }) c)

      its : GoesOn c idle
      its = let m : Coord = on_doing (actor s.path) (λ (d : Doing). record d { now = Idle }) c in then_on c m idle (work_on (actor s.path)
          (λ (d : Doing). record d { now = Idle }) c (λ d k found is. absurd (free d k found is))) (same_on m idle refl refl refl refl)

      by : (g : CallEnd) → GoesOn c (doomed_by (actor s.path) g idle)
      by (Answered a) = its
      by (Included st) = its
      by (Conflict h m n) = its
      by (Changed n w) = its
      by (Lost n false) = its
      by (Lost n true) = then_on c idle (record idle { tree = doomed_at (actor s.path) idle.tree }) its (tree_on idle
          (doomed_at (actor s.path) idle.tree) (doomed_same (actor s.path) idle.tree) (doomed_length (actor s.path) idle.tree))

  -- ---- ends

  true_tolds : (intents : List (Uid × Intent)) (c : Coord) (u : Uid) → AreListed c.tree → AreTrue c (tolds_of intents c u)
  true_tolds intents c u listed = by (branch_of u c.tree)
    where
      kinds : (k : Kind) (p : Path) → AreTrue c (tolds_by u k p intents c)
      kinds kind.Nested p = true_tells c (root_of p) false (up_to u (ends_of (root_of p) c.tree))
          _ (λ w is. over_claim c w (listed (root_of p) w (front_commit w u (ends_of (root_of p) c.tree) is)))
      kinds kind.Serial p = true_tells c u false ((u, ending.Abort) ∷ []) _ (λ w is. abort_none w u is)
      kinds kind.Top p = true_tells c (root_of p) false ((u, ending.Abort) ∷ []) _ (λ w is. abort_none w u is)
      kinds kind.Independent p = true_tells c (root_of p) false ((u, ending.Abort) ∷ []) _ (λ w is. abort_none w u is)
      kinds kind.Constituent p = true_tells c (root_of p) false ((u, ending.Abort) ∷ []) _ (λ w is. abort_none w u is)

      by : (b : Option Branch) → AreTrue c (tolds_of_branch u intents c b)
      by None = tt
      by (Some b) = kinds b.kind b.path

  pub well_ends : (u : Uid) (e : End) (f : Label → Body) (intents : List (Uid × Intent)) (c : Coord) → has_open_child u c.tree ≡ false →
      Good c → IsWell c (ends_with u e f intents c)
  well_ends u e f intents c none good = record {
    on = ended_on u e c good.busy;
    outs = true_both (ended u e c) (says u f c) _ (true_says (ended u e c) u f c)
        (true_tolds intents (ended u e c) u (listed_of (ended u e c) (good_ended_c actions paths tree u e c none good)));
  }

  aborted_on : (us : List Uid) (c : Coord) → AreBusy c → GoesOn c (all_aborted us c).part
  aborted_on [] c busy = same_on c c refl refl refl refl
  aborted_on (u ∷ us) c busy = let e = ended u ending.Abort c in then_on c e (all_aborted us e).part (ended_on u ending.Abort c busy)
      (aborted_on us e (busy_ended actions paths tree u ending.Abort c busy))

  aborted_true : (us : List Uid) (c e : Coord) → AreTrue e (all_aborted us c).outs
  aborted_true [] c e = tt
  aborted_true (u ∷ us) c e = true_both e (says u (λ l. body.Aborted l cause.Asked) c) _ (true_says e u (λ l. body.Aborted l cause.Asked) c)
      (aborted_true us (ended u ending.Abort c) e)

  pub well_abort : (u : Uid) (intents : List (Uid × Intent)) (c : Coord) → Good c → IsWell c (abort_action u intents c)
  well_abort u intents c good =
      let us : List Uid = open_below u c.tree ++ u ∷ [] in
      let d = all_aborted us c in
      record {
        on = aborted_on us c good.busy;
        outs = true_both d.part d.outs _ (aborted_true us c d.part) (true_flat d.part (tolds_of intents d.part) us
            (λ w. true_tolds intents d.part w (listed_of d.part (good_abort actions paths tree u intents c good))));
      }

  -- ---- the decision

  pub well_decide : (p : Plan) (c : Coord) → (b : Branch) → branch_of (actor p.path) c.tree ≡ Some b → Good c → IsWell c (decide p c)
  well_decide p c b found good = by (has_record p)
    where
      u : Uid
      u = actor p.path

      i : Intent
      i = record { root = root_of p.path; nodes = participants p }

      f : Doing → Doing
      f d = record d { took = participants p }

      e : Coord
      e = ended (actor p.path) ending.Commit c

      took : Coord
      took = on_doing (actor p.path) (λ (d : Doing). record d { took = participants p }) e

      r : Coord
      r = on_root (root_of p.path) (root_after p) took

      over : IsOver (actor p.path) r.tree
      over = subst (IsOver (actor p.path)) (sym (on_tree (actor p.path) (λ (d : Doing). record d { took = participants p }) e))
          (subst (IsOver (actor p.path)) (sym (on_tree (actor p.path) (λ (d : Doing). record d { now = Idle })
          (record c { tree = ended_at (actor p.path) ending.Commit c.tree }))) (end_over (actor p.path) ending.Commit c.tree b found))

      on : GoesOn c r
      on = then_on c e r (ended_on (actor p.path) ending.Commit c good.busy) (then_on e took r (work_on (actor p.path)
          (λ (d : Doing). record d { took = participants p }) e (λ d m at is. inr (m, is))) (same_on took r refl refl refl refl))

      outs : (v : Coord) → v.tree ≡ r.tree → (w : Bool) → AreTrue v (cond w (Do (PutIntent (actor p.path) i) ∷ []) []
          ++ says (actor p.path) body.Committed c ++ map (decided_told (root_of p.path) (actor p.path) p) p.sent)
      outs v same w = true_both v (cond w (Do (PutIntent (actor p.path) i) ∷ []) [] ++ says (actor p.path) body.Committed c)
          _ (true_both v (cond w (Do (PutIntent (actor p.path) i) ∷ []) []) _ (work w) (true_says v (actor p.path) body.Committed c))
          (true_map v (decided_told (root_of p.path) (actor p.path) p) p.sent (λ n j. one n (has (participants p) n)))
        where
          work : (x : Bool) → AreTrue v (cond x (Do (PutIntent (actor p.path) i) ∷ []) [])
          work true = (let q = over_claim v (actor p.path) (subst (IsOver (actor p.path)) (sym same) over) in (q.0, q.2), tt)
          work false = tt

          one : (n : ℕ) (x : Bool) → IsTrueEffect v (cond x (tell (root_of p.path) (has_record p) ((actor p.path, ending.Commit) ∷ []) n)
              (tell (root_of p.path) false ((actor p.path, ending.Abort) ∷ []) n))
          one n true = record {
            claims =
                λ w is. over_claim v w (subst (IsOver w) (sym same) (subst (λ x. IsOver x r.tree) (commit_one w (actor p.path) is) over));
            plain = refl;
          }
          one n false = record { claims = λ w is. abort_none w (actor p.path) is; plain = refl }

      told : Coord
      told = record r { telling = put_uid (actor p.path) i r.telling }

      by : (w : Bool) → IsWell c (record {
        part = cond w told r;
        outs = cond w (Do (PutIntent (actor p.path) i) ∷ []) [] ++ says (actor p.path) body.Committed c
            ++ map (decided_told (root_of p.path) (actor p.path) p) p.sent;
      })
      by true = record {
        on = then_on c r told on (record {
          settled = λ x s. s;
          own = λ x. refl;
          works = refl;
          branches = refl;
          labels = refl;
          kinds = λ x d f. (d, f, refl);
          told = λ x j k. ⊎_elim (λ same. inr (over_claim told x (subst (λ y. IsOver y r.tree) (sym same) over)))
              (λ old. inl (old.0, in_to (x, old.0) r.telling old.1))
              (put_in (actor p.path) i x j r.telling (in_from (x, j) (put_uid (actor p.path) i r.telling) k));
        });
        outs = outs told refl true;
      }
      by false = record { on = on; outs = outs r refl false }

  -- ---- commits

  -- what a commit asks
  true_machine : (c : Coord) (u : Uid) (m : Machine) → IsVoting c.tree u (plan_of m) → actor (plan_of m).path ≡ u → IsCommitting u c →
      (req n : ℕ) → IsTrue c (request (record { path = (plan_of m).path; req = req }) (ask_of m n))
  true_machine c u (Voting p left) v its at req n = true_request c (record { path = p.path; req = req }) (ask_of (Voting p left) n)
      (λ w s. ⊎_elim (λ is. over_claim c w (v.over w (commit_end w p.ends is)))
      (λ same. subst (λ x. IsClaimed x c) (sym (same ∙ its)) (commit_claim c u v.asking.branch v.asking.found at)) s)
  true_machine c u (Preparing p left) v its at req n =
      true_request c (record { path = p.path; req = req }) (ask_of (Preparing p left) n) (λ w s. absurd s)
  true_machine c u (Confirming p) v its at req n =
      true_request c (record { path = p.path; req = req }) (ask_of (Confirming p) n) (λ w s. absurd s)

  asks_on : (p : Path) (req : ℕ) (as_asked : List (ℕ × Ask)) (c : Coord) → GoesOn c (asks_all p req as_asked c).part
  asks_on p req [] c = same_on c c refl refl refl refl
  asks_on p req (a ∷ rest) c = let d = asks_node p req a c in
      then_on c d.part (asks_all p req rest d.part).part (asked_on p req a c) (asks_on p req rest d.part)

  true_all : (p : Path) (req : ℕ) (as_asked : List (ℕ × Ask)) (c e : Coord) →
      ((a : ℕ × Ask) → In a as_asked → IsTrue e (request (record { path = p; req = req }) a.1)) → AreTrue e (asks_all p req as_asked c).outs
  true_all p req [] c e each = tt
  true_all p req (a ∷ rest) c e each = (each a (inl refl), true_all p req rest (asks_node p req a c).part e (λ b i. each b (inr i)))

  pub well_machine : (c : Coord) (u : Uid) (m : Machine) → IsVoting c.tree u (plan_of m) → actor (plan_of m).path ≡ u → IsCommitting u c →
      IsWell c (asks_machine m c)
  well_machine c u m v its at =
      let on = asks_on (plan_of m).path (plan_of m).req (commit.waiting m) c in
      record {
        on = on;
        outs = true_on c (asks_machine m c).part on (asks_machine m c).outs
            (true_all (plan_of m).path (plan_of m).req (commit.waiting m) c c (λ a i. waiting (commit.left_of m) a i));
      }
    where
      waiting : (ns : List ℕ) (a : ℕ × Ask) → In a (map {A = ℕ} {B = ℕ × Ask} (λ n. (n, ask_of m n)) ns) →
          IsTrue c (request (record { path = (plan_of m).path; req = (plan_of m).req }) a.1)
      waiting [] a i = absurd i
      waiting (n ∷ ns) a (inl same) = subst (λ (b : ℕ × Ask). IsTrue c
          (request (record { path = (plan_of m).path; req = (plan_of m).req }) b.1)) same (true_machine c u m v its at (plan_of m).req n)
      waiting (n ∷ ns) a (inr i) = waiting ns a i

  -- who goes to a commit, with its work entry, is at it
  commits_at : (u : Uid) (m : Machine) (c : Coord) (d : Doing) → doing_of u c ≡ Some d → IsCommitting u (commits_in u m c)
  commits_at u m c d found =
      let f : Doing → Doing = λ (x : Doing). record x { req = (plan_of m).req; now = Committing m } in
      (f d, m, subst (λ o. doing_of u (change_doing f u c o) ≡ Some (f d)) (sym found) (doing_put u (f d) d c found), refl)

  commits_on : (u : Uid) (m : Machine) (c : Coord) → GoesOn c (commits_in u m c)
  commits_on u m c = work_on u (λ (x : Doing). record x { req = (plan_of m).req; now = Committing m }) c (λ d k found is. inr (m, refl))

  well_step_commit : (u : Uid) (p : Plan) (s : CommitStep) (intents : List (Uid × Intent)) (c : Coord) (d : Doing) → doing_of u c ≡ Some d →
      IsVoting c.tree u p → IsStepOf actions paths tree p s → Good c → IsWell c (step_commit u s intents c)
  well_step_commit u p (Stays m) intents c d found v same good = record { on = commits_on u m c; outs = tt }
  well_step_commit u p (Asks m) intents c d found v same good =
      let e = commits_in u m c in
      well_after c e (asks_machine m e) (commits_on u m c) (well_machine e u m (subst (λ t. IsVoting t u (plan_of m))
      (sym (on_tree u (λ (x : Doing). record x { req = (plan_of m).req; now = Committing m }) c)) (planned actions paths tree c.tree u p
      (plan_of m) same v)) (ap actor same.0 ∙ actor_is actions paths tree u p.path c good v.asking) (commits_at u m c d found))
  well_step_commit u p (Decides q) intents c d found v same good = well_decide q c v.asking.branch
      (ap (λ w. branch_of w c.tree) (ap actor same.0 ∙ actor_is actions paths tree u p.path c good v.asking) ∙ v.asking.found) good
  well_step_commit u p (Aborts why q) intents c d found v same good =
      well_ends u ending.Abort (λ l. body.Aborted l why) intents c v.childless good

  pub well_moved : (u : Uid) (p : Plan) (m : commit.Marked) (intents : List (Uid × Intent)) (c : Coord) (d : Doing) →
      doing_of u c ≡ Some d → IsVoting c.tree u p → IsStepOf actions paths tree p m.step → Good c → IsWell c (moved_commit u m intents c)
  well_moved u p m intents c d found v same good =
      let t = step_commit u m.step intents c in
      let w = well_step_commit u p m.step intents c d found v same good in
      record {
        on = w.on;
        outs = true_both t.part (mark_lines u m.marks c) _ (true_flat t.part (λ (k : ℕ × ℕ). says u (λ l. body.Excluded l k.0 k.1) c)
            m.marks (λ k. true_says t.part u (λ l. body.Excluded l k.0 k.1) c)) w.outs;
      }
