-- What becomes of an action that waits: it goes on waiting for the same, or a line says what ends that.
use Rattle.arj_law_parts.proofs.Words
use Words.{◌≡◌, ◌≢◌, ◌⊎◌, ◌∙◌, ◌+◌, ℕ, zero, suc, Bool, true, false, cond, List, [], ◌∷◌, ◌++◌, refl, sym, ap, subst, inl, inr, ⊎_elim}
use Words.{Option, Some, None, map, ⊤, ◌&&◌, ◌||◌, ◌==◌, slice_get, flat_map, list_any, uid_cases, nobody, In, in_left, in_right, Asked}
use Words.{Body, End, Header, Kind, Label, Op, Path, Uid, last_uid, uids_of, Reply, actor, ask_kind, reply_kind, again_all, begin_action}
use Words.{call, call_steps, commit_action, commit_open, commits_in, end_line, ends_call, gaveup_lines, give_up, give_up_doing, gives_up}
use Words.{goes_on, heard, heard_by, heard_call, heard_doing, heard_none, heard_now, include, kept_at, last_req, mark_lines, moved_commit}
use Words.{next_req, renewed, root_heard, root_lost, root_moved, step_call, step_commit, waits_for_call, waits_for_commit, CallEnd}
use Words.{CallStep, Ended, On, Steps, next_node, Aborts, Asks, CommitStep, Confirming, Decides, Machine, Marked, Plan, Preparing, Stays}
use Words.{Voting, ask_of, left_of, nodes_given_up, plan_of, waiting, Calling, Committing, Coord, Doing, Idle, Now, change_doing, doing_of}
use Words.{is_free, keeping_of, on_doing, on_root, plan_for, root_at, with_keeping, Did, Effect, Intent, Say, Served, abort_action}
use Words.{aborts_with, all_aborted, decide, decided_told, ended, record_work, root_after, say_for, says, tolds_of, has, put_uid, unbound}
use Words.{Input, acts, branch_named, first_reason, is_waiting, is_waiting_now, on_branch, refusal_up, waits, waits_above, Branch, at_place}
use Words.{ended_at, is_own, open_below, root_of, uses_object, IsAnswerTo, IsSameWork, eqb-true, and_parts}
use Words.body
use Words.cause
use Words.ending
use Words.kind
use Words.calls
use Words.commit
use Words.input
use Rattle.arj_law_runs.proofs.Terms.{doing_other, doing_put, is_act, EndsWait, IsAborted}
use Rattle.arj_law_parts.proofs.moves.Reasons.{first_not}
use Rattle.arj_law_runs.proofs.{coordinators.CoordUses.some_is, resting.Quiesces.again_doing}
use Rattle.arj_law_runs.proofs.resting.Hearing.{Fits, IsHome, all_doing, answered_fits, doomed_work, end_work}
use Rattle.arj_law_runs.specs.resting.Answered.{IsAnswered}

-- ---- one action at work

other_work : (v : Uid) (f : Doing → Doing) (c : Coord) (u : Uid) → u ≢ v → doing_of u (on_doing v f c) ≡ doing_of u c
other_work v f c u apart = by (doing_of v c) refl
  where
    by : (o : Option Doing) → doing_of v c ≡ o → doing_of u (change_doing f v c o) ≡ doing_of u c
    by None none = refl
    by (Some d) found = doing_other v u (f d) d c found apart

own_work : (v : Uid) (f : Doing → Doing) (c : Coord) (d : Doing) → doing_of v c ≡ Some d → doing_of v (on_doing v f c) ≡ Some (f d)
own_work v f c d found = (λ i. doing_of v (change_doing f v c (found i))) ∙ doing_put v (f d) d c found

ended_other : (v : Uid) (e : End) (c : Coord) (u : Uid) → u ≢ v → doing_of u (ended v e c) ≡ doing_of u c
ended_other v e c u apart =
    other_work v (λ (d : Doing). record d { now = Idle }) (record c { tree = ended_at v e c.tree }) u apart ∙ end_work v e c u

-- ---- what goes on

-- a request more is of the same work
same_steps : (n : Now) (s : Steps) (req : ℕ) (at : calls.At) → IsSameWork n (Calling s) →
    IsSameWork n (Calling (record s { req = req; at = at }))
same_steps (Calling r) s req at same = same
same_steps (Committing m) s req at same = absurd same
same_steps Idle s req at same = absurd same

-- so is a commit in another step
same_commit : (n : Now) (m k : Machine) → IsSameWork n (Committing m) → IsSameWork n (Committing k)
same_commit (Calling r) m k same = absurd same
same_commit (Committing r) m k same = tt
same_commit Idle m k same = absurd same

pub same_waits : (n m : Now) → IsSameWork n m → is_waiting_now m ≡ true
same_waits (Calling r) (Calling s) same = refl
same_waits (Calling r) (Committing m) same = absurd same
same_waits (Calling r) Idle same = absurd same
same_waits (Committing k) (Calling s) same = absurd same
same_waits (Committing k) (Committing m) same = refl
same_waits (Committing k) Idle same = absurd same
same_waits Idle (Calling s) same = absurd same
same_waits Idle (Committing m) same = absurd same
same_waits Idle Idle same = absurd same

-- the action that decides is this one
abbrev IsPathed : Uid → CommitStep → Type 0
IsPathed v (Decides p) = actor p.path ≡ v
IsPathed v (Stays m) = ⊤
IsPathed v (Asks m) = ⊤
IsPathed v (Aborts why p) = ⊤

pathed_of : (from : ℕ) (n : Now) (v : Uid) (step : CommitStep) → Fits from n v step → IsPathed v step
pathed_of from n v (Decides p) fits = fits
pathed_of from n v (Stays m) fits = tt
pathed_of from n v (Asks m) fits = tt
pathed_of from n v (Aborts why p) fits = tt

confirm_pathed : (used : List commit.Used) (p : Plan) (v : Uid) → actor p.path ≡ v → IsPathed v (commit.begin_confirm used p)
confirm_pathed [] p v is = is
confirm_pathed (x ∷ xs) p v is = tt

-- the second reason doesn't hold
abbrev SecondIsnt : List (ℕ × Bool) → Type 0
SecondIsnt [] = ⊤
SecondIsnt (r ∷ []) = ⊤
SecondIsnt (r ∷ q ∷ rs) = q.1 ≡ false

second_free : (rs : List (ℕ × Bool)) → first_reason rs ≡ None → SecondIsnt rs
second_free [] none = tt
second_free (r ∷ []) none = tt
second_free (r ∷ q ∷ rs) none = (first_not q.0 q.1 rs (first_not r.0 r.1 (q ∷ rs) none).1).0

-- nobody waits whose place is none
nobody_waits_not : (c : Coord) → waits c nobody ≡ false
nobody_waits_not c = by (is_own nobody c.tree)
  where
    by : (b : Bool) → is_waiting (cond b None None) ≡ false
    by true = refl
    by false = refl

last_waits : (f : Uid → Bool) (us : List Uid) → f nobody ≡ false → list_any f us ≡ false → f (last_uid us) ≡ false
last_waits f [] none all = none
last_waits f (u ∷ []) none all = first_false (f u) false all
  where
    first_false : (a b : Bool) → (a || b) ≡ false → a ≡ false
    first_false true b is = absurd (cc is)
    first_false false b is = refl
last_waits f (u ∷ w ∷ us) none all = last_waits f (w ∷ us) none (second_false (f u) (list_any f (w ∷ us)) all)
  where
    second_false : (a b : Bool) → (a || b) ≡ false → b ≡ false
    second_false true b is = absurd (cc is)
    second_false false b is = is

module _ (k : ℕ) (l : Label) (u : Uid) (before : Now) where
  -- the action, by its label, waits for the same at the coordinator
  pub record IsStill (c : Coord) : Type 0 where
    pub doing : Doing
    pub does : doing_of u c ≡ Some doing
    pub label : doing.label ≡ l
    pub same : IsSameWork before doing.now

  -- one of these effects says what ends it
  pub record IsSaidIn (outs : List Effect) : Type 0 where
    pub line : Body
    pub said : In (Say line) outs
    pub ends : EndsWait k l before line

  abbrev pub Becomes : Coord → Coord → List Effect → Type 0
  Becomes c e outs = IsStill c → IsStill e ⊎ IsSaidIn outs

  same_still : (c e : Coord) → doing_of u e ≡ doing_of u c → IsStill c → IsStill e
  same_still c e same s = record { doing = s.doing; does = same ∙ s.does; label = s.label; same = s.same }

  in_front : (outs more : List Effect) → IsSaidIn outs → IsSaidIn (outs ++ more)
  in_front outs more s = record { line = s.line; said = in_left (Say s.line) outs more s.said; ends = s.ends }

  behind : (more outs : List Effect) → IsSaidIn outs → IsSaidIn (more ++ outs)
  behind more outs s = record { line = s.line; said = in_right (Say s.line) more outs s.said; ends = s.ends }

  says_it : (f : Label → Body) (c : Coord) → IsStill c → EndsWait k l before (f l) → IsSaidIn (says u f c)
  says_it f c s ends = subst (λ o. IsSaidIn (say_for f o)) (sym s.does)
      (record { line = f s.doing.label; said = inl refl; ends = subst (λ m. EndsWait k l before (f m)) (sym s.label) ends })

  -- ---- calls

  goes_own : (s : Steps) (c : Coord) → u ≡ actor s.path → IsStill c → IsSameWork before (Calling s) → IsStill (goes_on s c).part
  goes_own s c own st same = record {
    doing = f st.doing;
    does = ap (λ v. doing_of u (on_doing v f c)) (sym own) ∙ own_work u f c st.doing st.does;
    label = st.label;
    same = same;
  }
    where
      f : Doing → Doing
      f d = record d { req = s.req; now = Calling s }

  answers_it : (n : Now) (s : Steps) (e : CallEnd) → IsSameWork n (Calling s) → IsAnswerTo n l (end_line s.x s.goal e l)
  answers_it (Calling r) s e same = (e, λ i. end_line (same.0 i) (same.1 i) e l)
  answers_it (Committing m) s e same = absurd same
  answers_it Idle s e same = absurd same

  ends_own : (s : Steps) (e : CallEnd) (c : Coord) → u ≡ actor s.path → IsStill c → IsSameWork before (Calling s) →
      IsSaidIn (ends_call s e c).outs
  ends_own s e c own st same = subst (λ v. IsSaidIn (says v (end_line s.x s.goal e) c)) own
      (says_it (end_line s.x s.goal e) c st (IsAnswered (answers_it before s e same)))

  steps_other : (s : Steps) (step : CallStep) (c : Coord) → u ≢ actor s.path → doing_of u (step_call s step c).part ≡ doing_of u c
  steps_other s (On at) c apart = other_work (actor s.path)
      (λ (d : Doing). record d { req = s.req + 1; now = Calling (record s { req = s.req + 1; at = at }) }) c u apart
  steps_other s (Ended e) c apart = doomed_work (actor s.path) e (on_root (root_of s.path) (root_heard s e) (on_doing (actor s.path)
      (λ (d : Doing). record d { now = Idle }) c)) u ∙ other_work (actor s.path) (λ (d : Doing). record d { now = Idle }) c u apart

  steps_become : (s : Steps) (step : CallStep) (c : Coord) → (u ≡ actor s.path → IsStill c → IsSameWork before (Calling s)) →
      Becomes c (step_call s step c).part (step_call s step c).outs
  steps_become s step c its st = ⊎_elim (λ own. mine own step)
      (λ apart. inl (same_still c (step_call s step c).part (steps_other s step c apart) st)) (uid_cases u (actor s.path))
    where
      mine : u ≡ actor s.path → (t : CallStep) → IsStill (step_call s t c).part ⊎ IsSaidIn (step_call s t c).outs
      mine own (On at) = inl (goes_own (record s { req = s.req + 1; at = at }) c own st (same_steps before s (s.req + 1) at (its own st)))
      mine own (Ended e) = inr (ends_own s e c own st (its own st))

  -- ---- commits

  commits_own : (v : Uid) (m : Machine) (c : Coord) → u ≡ v → IsStill c → IsSameWork before (Committing m) → IsStill (commits_in v m c)
  commits_own v m c own st same = record {
    doing = f st.doing;
    does = ap (λ w. doing_of u (on_doing w f c)) (sym own) ∙ own_work u f c st.doing st.does;
    label = st.label;
    same = same;
  }
    where
      f : Doing → Doing
      f d = record d { req = (plan_of m).req; now = Committing m }

  decided_other : (p : Plan) (c : Coord) → u ≢ actor p.path → doing_of u (decide p c).part ≡ doing_of u c
  decided_other p c apart = by (commit.has_record p) ∙ other_work (actor p.path) (λ (d : Doing). record d { took = commit.participants p })
      (ended (actor p.path) ending.Commit c) u apart ∙ ended_other (actor p.path) ending.Commit c u apart
    where
      took : Coord
      took = on_doing (actor p.path) (λ (d : Doing). record d { took = commit.participants p }) (ended (actor p.path) ending.Commit c)

      r : Coord
      r = on_root (root_of p.path) (root_after p) took

      by : (b : Bool) → doing_of u (cond b
          (record r { telling = put_uid (actor p.path) (record { root = root_of p.path; nodes = commit.participants p }) r.telling }) r)
          ≡ doing_of u took
      by true = refl
      by false = refl

  committed_it : (n : Now) (m : Machine) → IsSameWork n (Committing m) → IsAnswerTo n l (body.Committed l)
  committed_it (Calling r) m same = absurd same
  committed_it (Committing r) m same = refl
  committed_it Idle m same = absurd same

  commit_other : (v : Uid) (step : CommitStep) (intents : List (Uid × Intent)) (c : Coord) → IsPathed v step → u ≢ v →
      doing_of u (step_commit v step intents c).part ≡ doing_of u c
  commit_other v (Stays m) intents c pathed apart =
      other_work v (λ (d : Doing). record d { req = (plan_of m).req; now = Committing m }) c u apart
  commit_other v (Asks m) intents c pathed apart = all_doing (plan_of m).path (plan_of m).req (waiting m) (commits_in v m c) u
      ∙ other_work v (λ (d : Doing). record d { req = (plan_of m).req; now = Committing m }) c u apart
  commit_other v (Decides p) intents c pathed apart = decided_other p c (λ own. apart (own ∙ pathed))
  commit_other v (Aborts why p) intents c pathed apart = ended_other v ending.Abort c u apart

  commit_own : (v : Uid) (step : CommitStep) (intents : List (Uid × Intent)) (c : Coord) → IsPathed v step → u ≡ v → (st : IsStill c) →
      (m : Machine) → IsSameWork before (Committing m) →
      IsStill (step_commit v step intents c).part ⊎ IsSaidIn (step_commit v step intents c).outs
  commit_own v (Stays n) intents c pathed own st m same = inl (commits_own v n c own st (same_commit before m n same))
  commit_own v (Asks n) intents c pathed own st m same =
      inl (same_still (commits_in v n c) (step_commit v (Asks n) intents c).part (all_doing (plan_of n).path (plan_of n).req (waiting n)
      (commits_in v n c) u) (commits_own v n c own st (same_commit before m n same)))
  commit_own v (Decides p) intents c pathed own st m same = inr (in_front
      (record_work (actor p.path) p ++ says (actor p.path) body.Committed c) (map (decided_told (root_of p.path) (actor p.path) p) p.sent)
      (behind (record_work (actor p.path) p) (says (actor p.path) body.Committed c) (subst (λ w. IsSaidIn (says w body.Committed c))
      (own ∙ sym pathed) (says_it body.Committed c st (IsAnswered (committed_it before m same))))))
  commit_own v (Aborts why p) intents c pathed own st m same =
      inr (in_front (says v (λ m. body.Aborted m why) c) (tolds_of intents (ended v ending.Abort c) v)
      (subst (λ w. IsSaidIn (says w (λ m. body.Aborted m why) c)) own (says_it (λ m. body.Aborted m why) c st (IsAborted why refl))))

  moved_become : (v : Uid) (marked : Marked) (intents : List (Uid × Intent)) (c : Coord) → IsPathed v marked.step →
      (u ≡ v → IsStill c → (m : Machine) × IsSameWork before (Committing m)) →
      Becomes c (moved_commit v marked intents c).part (moved_commit v marked intents c).outs
  moved_become v marked intents c pathed its st = ⊎_elim
      (λ own. let m = its own st in ⊎_elim (λ still. inl still) (λ said. inr (behind (mark_lines v marked.marks c)
      (step_commit v marked.step intents c).outs said)) (commit_own v marked.step intents c pathed own st m.0 m.1))
      (λ apart. inl (same_still c (step_commit v marked.step intents c).part (commit_other v marked.step intents c pathed apart) st))
      (uid_cases u v)

  -- ---- answers

  -- the action that waits is the one that is answered
  work_is : (c : Coord) (v : Uid) (q : Doing) (n : Now) → doing_of v c ≡ Some q → q.now ≡ n → u ≡ v → IsStill c → IsSameWork before n
  work_is c v q n found is own st = subst (IsSameWork before)
      (ap (λ (d : Doing). d.now) (some_is st.doing q (sym st.does ∙ ap (λ w. doing_of w c) own ∙ found)) ∙ is) st.same

  pub heard_becomes : (from : ℕ) (a : Asked) (r : Reply) (intents : List (Uid × Intent)) (c : Coord) → IsHome c →
      Becomes c (heard from a r intents c).part (heard from a r intents c).outs
  heard_becomes from a r intents c home = by (doing_of a.act c) refl
    where
      call_so : (q : Doing) (s : Steps) → doing_of a.act c ≡ Some q → q.now ≡ Calling s → (b : Bool) →
          let x : Served Coord (Unit {0}) = cond b (heard_by (heard_call s r c)) (heard_none c) in Becomes c x.part x.outs
      call_so q s found is false = λ st. inl st
      call_so q s found is true = λ st.
          let m = calls.answered (is_free (root_of s.path) (actor s.path) s.x c) (kept_at s c) s.goal s.at r in
          let e : Coord = on_root (root_of s.path) (root_moved s r m) c in
          steps_become s m.step e (λ own still. work_is c a.act q (Calling s) found is (own ∙ home.calls a.act q s found is) st)
          (same_still c e refl st)

      commit_so : (q : Doing) (m : Machine) → doing_of a.act c ≡ Some q → q.now ≡ Committing m → (b : Bool) →
          waits_for_commit from a r m ≡ b → let x : Served Coord (Unit {0}) = cond b
          (heard_by (moved_commit a.act (commit.answered from m r) intents c)) (heard_none c) in Becomes c x.part x.outs
      commit_so q m found is false waits = λ st. inl st
      commit_so q m found is true waits = moved_become a.act (commit.answered from m r) intents c
          (pathed_of from (Committing m) a.act (commit.answered from m r).step
          (answered_fits from a.act m r (home.commits a.act q m found is) (eqb-true (reply_kind r) (ask_kind (ask_of m from)) kinds.0)))
          (λ own still. (m, work_is c a.act q (Committing m) found is own still))
        where
          kinds : ((reply_kind r == ask_kind (ask_of m from)) ≡ true) × (has (left_of m) from ≡ true)
          kinds = and_parts (reply_kind r == ask_kind (ask_of m from)) (has (left_of m) from)
              (and_parts ((plan_of m).req == a.req) ((reply_kind r == ask_kind (ask_of m from)) && has (left_of m) from) waits).1

      now : (q : Doing) (n : Now) → doing_of a.act c ≡ Some q → q.now ≡ n → let x = heard_now from a r intents c n in
          Becomes c x.part x.outs
      now q Idle found is = λ st. inl st
      now q (Calling s) found is = call_so q s found is (waits_for_call from a r s)
      now q (Committing m) found is = commit_so q m found is (waits_for_commit from a r m) refl

      by : (o : Option Doing) → doing_of a.act c ≡ o → let x = heard_doing from a r intents c o in Becomes c x.part x.outs
      by None none = λ st. inl st
      by (Some q) found = now q q.now found refl

  -- ---- inputs

  -- an action that may be asked for something else isn't the one that waits
  apart_of : (c : Coord) (b : Branch) → waits_above b c ≡ false → IsStill c → u ≢ actor b.path
  apart_of c b above st own =
      let idle : waits c (actor b.path) ≡ false = last_waits (waits c) (uids_of b.path) (nobody_waits_not c) above in
      let no_way : true ≡ false = sym (same_waits before st.doing.now st.same) ∙ sym (ap is_waiting st.does) ∙ ap (waits c) own ∙ idle in
      absurd (cc no_way)

  first_false : (a b : Bool) → (a || b) ≡ false → a ≡ false
  first_false true b is = absurd (cc is)
  first_false false b is = refl

  call_same : (p : Path) (x : ℕ) (o : Op) (c : Coord) → u ≢ actor p → doing_of u (call p x o c).part ≡ doing_of u c
  call_same p x o c apart =
      let r = root_at (root_of p) c in
      let old = keeping_of x r in
      let z = renewed (is_free (root_of p) (actor p) x c) old old.kept in
      let e : Coord = on_root (root_of p) (with_keeping x z) (record c { tree = uses_object p x c.tree }) in
      let s = call_steps p x o (next_req (actor p) c) r c z in
      other_work (actor p) (λ (d : Doing). record d { req = s.req; now = Calling s }) e u apart

  include_same : (p : Path) (x s : ℕ) (c : Coord) → u ≢ actor p → doing_of u (include p x s c).part ≡ doing_of u c
  include_same p x s c apart =
      let e : Coord = record c { tree = uses_object p x c.tree } in
      let t = calls.start p x (calls.Include s) None unbound (next_req (actor p) c) in
      other_work (actor p) (λ (d : Doing). record d { req = t.req; now = Calling t }) e u apart

  begin_pathed : (targets : List ℕ) (p : Plan) → IsPathed (actor p.path) (commit.begin_prepare targets p)
  begin_pathed [] p = confirm_pathed p.used p (actor p.path) refl
  begin_pathed (s ∷ ss) p = tt

  start_pathed : (servers : List ℕ) (p : Plan) → IsPathed (actor p.path) (commit.begin_vote servers p)
  start_pathed [] p = begin_pathed (commit.targets_of p) p
  start_pathed (s ∷ ss) p = tt

  commit_same : (b : Branch) (intents : List (Uid × Intent)) (c : Coord) → u ≢ actor b.path →
      doing_of u (commit_action b intents c).part ≡ doing_of u c
  commit_same b intents c apart = by b.doomed
    where
      plan : Plan
      plan = plan_for b.path (last_req (doing_of (actor b.path) c)) (root_at (root_of b.path) c) c

      top : doing_of u (step_commit (actor b.path) (commit.start plan).step intents c).part ≡ doing_of u c
      top = commit_other (actor b.path) (commit.start plan).step intents c (start_pathed (commit.servers_of plan) plan) apart

      kinds : (n : Kind) → doing_of u (commit_open b intents c n).part ≡ doing_of u c
      kinds kind.Nested = ended_other (actor b.path) ending.Commit c u apart
      kinds kind.Serial = ended_other (actor b.path) ending.Commit c u apart
      kinds kind.Top = top
      kinds kind.Independent = top
      kinds kind.Constituent = top

      by : (x : Bool) →
          doing_of u (cond x (aborts_with (actor b.path) cause.Doomed intents c) (commit_open b intents c b.kind)).part ≡ doing_of u c
      by true = ended_other (actor b.path) ending.Abort c u apart
      by false = kinds b.kind

  all_become : (us : List Uid) (c : Coord) → Becomes c (all_aborted us c).part (all_aborted us c).outs
  all_become [] c st = inl st
  all_become (v ∷ vs) c st = ⊎_elim
      (λ own. inr (in_front (says v (λ m. body.Aborted m cause.Asked) c) rest.outs (subst (λ w. IsSaidIn
      (says w (λ m. body.Aborted m cause.Asked) c)) own (says_it (λ m. body.Aborted m cause.Asked) c st (IsAborted cause.Asked refl)))))
      (λ apart. ⊎_elim (λ still. inl still) (λ said. inr (behind (says v (λ m. body.Aborted m cause.Asked) c) rest.outs said))
      (all_become vs e (same_still c e (ended_other v ending.Abort c u apart) st))) (uid_cases u v)
    where
      e : Coord
      e = ended v ending.Abort c

      rest : Did Coord
      rest = all_aborted vs (ended v ending.Abort c)

  -- a giveup of what another action waits for, or of its own
  marks_path : (ss : List ℕ) (p : Plan) → (commit.marks_stores ss p).path ≡ p.path
  marks_path [] p = refl
  marks_path (s ∷ ss) p = marks_path ss (commit.marks_store s p)

  given_pathed : (m : Machine) (v : Uid) → actor (plan_of m).path ≡ v → IsPathed v (commit.given_up m).step
  given_pathed (Voting p left) v is = tt
  given_pathed (Preparing p left) v is =
      confirm_pathed (commit.marks_stores left p).used (commit.marks_stores left p) v (ap actor (marks_path left p) ∙ is)
  given_pathed (Confirming p) v is = tt

  give_up_becomes : (v : Uid) (intents : List (Uid × Intent)) (c : Coord) → IsHome c →
      Becomes c (give_up v intents c).part (give_up v intents c).outs
  give_up_becomes v intents c home = by (doing_of v c) refl
    where
      now : (q : Doing) (n : Now) → doing_of v c ≡ Some q → q.now ≡ n →
          Becomes c (gives_up v intents c n).part (gives_up v intents c n).outs
      now q Idle found is st = inl st
      now q (Calling s) found is st =
          let e : Coord = on_root (root_of s.path) (root_lost s (calls.given_up s.at)) c in
          let t = step_call s (calls.given_up s.at) e in
          ⊎_elim (λ still. inl still) (λ said. inr (behind (gaveup_lines v (next_node s ∷ []) c) t.outs said))
          (steps_become s (calls.given_up s.at) e (λ own still. work_is c v q (Calling s) found is (own ∙ home.calls v q s found is) st)
          (same_still c e refl st))
      now q (Committing m) found is st =
          ⊎_elim (λ still. inl still)
          (λ said. inr (behind (gaveup_lines v (nodes_given_up m) c) (moved_commit v (commit.given_up m) intents c).outs said))
          (moved_become v (commit.given_up m) intents c (given_pathed m v (home.commits v q m found is))
          (λ own still. (m, work_is c v q (Committing m) found is own still)) st)

      by : (o : Option Doing) → doing_of v c ≡ o → Becomes c (give_up_doing v intents c o).part (give_up_doing v intents c o).outs
      by None none st = inl st
      by (Some q) found st = now q q.now found refl st

  pub acts_become : (hd : Header) (i : Input) (intents : List (Uid × Intent)) (c : Coord) → IsHome c → is_act i ≡ true →
      refusal_up hd i c ≡ None → Becomes c (acts i intents c).part (acts i intents c).outs
  acts_become hd (input.Call m x o) intents c home is free st = by (branch_named m c) free
    where
      by : (f : Option Branch) → input.refused_by (input.call_reasons hd x o) c f ≡ None →
          let d = on_branch (λ b. call b.path x o c) c f in IsStill d.part ⊎ IsSaidIn d.outs
      by None none = inl st
      by (Some b) none = let g = second_free (input.call_reasons hd x o b c) none in inl (same_still c (call b.path x o c).part
          (call_same b.path x o c (apart_of c b (first_false (waits_above b c) (input.waits_below b c) g) st)) st)
  acts_become hd (input.Include m x s) intents c home is free st = by (branch_named m c) free
    where
      by : (f : Option Branch) → input.refused_by (input.include_reasons hd x) c f ≡ None →
          let d = on_branch (λ b. include b.path x s c) c f in IsStill d.part ⊎ IsSaidIn d.outs
      by None none = inl st
      by (Some b) none = let g = second_free (input.include_reasons hd x b c) none in inl (same_still c (include b.path x s c).part
          (include_same b.path x s c (apart_of c b (first_false (waits_above b c) (input.waits_below b c) g) st)) st)
  acts_become hd (input.Commit m) intents c home is free st = by (branch_named m c) free
    where
      by : (f : Option Branch) → input.refused_by input.commit_reasons c f ≡ None →
          let d = on_branch (λ b. commit_action b intents c) c f in IsStill d.part ⊎ IsSaidIn d.outs
      by None none = inl st
      by (Some b) none = let g = second_free (input.commit_reasons b c) none in
          inl (same_still c (commit_action b intents c).part (commit_same b intents c (apart_of c b (first_false (waits_above b c)
          (input.waits_below b c) (first_false (waits_above b c || input.waits_below b c) (input.sibling_waits b c) g)) st)) st)
  acts_become hd (input.Abort m) intents c home is free st = by (branch_named m c)
    where
      by : (f : Option Branch) → let d = on_branch (λ b. abort_action (actor b.path) intents c) c f in IsStill d.part ⊎ IsSaidIn d.outs
      by None = inl st
      by (Some b) =
          let us = open_below (actor b.path) c.tree ++ actor b.path ∷ [] in
          ⊎_elim (λ still. inl still) (λ said.
          inr (in_front (all_aborted us c).outs (flat_map (tolds_of intents (all_aborted us c).part) us) said)) (all_become us c st)
  acts_become hd (input.GiveUp m) intents c home is free st = by (branch_named m c)
    where
      by : (f : Option Branch) → let d = on_branch (λ b. give_up (actor b.path) intents c) c f in IsStill d.part ⊎ IsSaidIn d.outs
      by None = inl st
      by (Some b) = give_up_becomes (actor b.path) intents c home st
  acts_become hd (input.Begin m n p) intents c home is free st = absurd (cc is)
  acts_become hd (input.Frame j from m) intents c home is free st = absurd (cc is)
  acts_become hd input.Tick intents c home is free st = absurd (cc is)
  acts_become hd input.Restart intents c home is free st = absurd (cc is)
  acts_become hd input.Crash intents c home is free st = absurd (cc is)
  acts_become hd (input.Show x) intents c home is free st = absurd (cc is)

  -- another action begins
  place_front : (ds es : List Doing) (n : ℕ) (d : Doing) → at_place n ds ≡ Some d → at_place n (ds ++ es) ≡ Some d
  place_front ds es zero d is = absurd (cc is)
  place_front ds es (suc j) d is = at ds j is
    where
      at : (xs : List Doing) (i : ℕ) → slice_get xs i ≡ Some d → slice_get (xs ++ es) i ≡ Some d
      at [] i is = absurd (cc is)
      at (x ∷ xs) zero is = is
      at (x ∷ xs) (suc i) is = at xs i is

  pub begin_still : (m : Label) (how : Kind) (parent : Option Label) (above : Option Branch) (c : Coord) → IsStill c →
      IsStill (begin_action m how parent above c).part
  begin_still m how parent above c st = record { doing = st.doing; does = by (is_own u c.tree) st.does; label = st.label; same = st.same }
    where
      one : Doing
      one = record { label = m; req = 0; now = Idle; took = [] }

      by : (b : Bool) → cond b (at_place u.num c.doings) None ≡ Some st.doing →
          cond b (at_place u.num (c.doings ++ one ∷ [])) None ≡ Some st.doing
      by true is = place_front c.doings (one ∷ []) u.num st.doing is
      by false is = absurd (cc is)

  pub again_still : (c : Coord) → IsStill c → IsStill (again_all c.doings c).part
  again_still c st = same_still c (again_all c.doings c).part (again_doing c.doings c u) st

  pub same_becomes : (c e : Coord) (outs : List Effect) → ((w : Uid) → doing_of w e ≡ doing_of w c) → Becomes c e outs
  same_becomes c e outs same st = inl (same_still c e (same u) st)
