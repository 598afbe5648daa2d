-- How a coordinator's commits end: each by one line, behind lines of what it excludes or gives up.
use Rattle.arj_law_parts.proofs.Words
use Words.{◌≡◌, ◌∙◌, ◌++◌, ℕ, Bool, true, false, cond, List, [], ◌∷◌, map, Option, Some, None, refl, sym, ap, subst, ⊤}
use Words.{AllByRecursion, append_assoc, flat_map, not}
use Words.{Asked, Body, End, Kind, Label, Path, Uid, Reply, actor, Intent}
use Words.{abort_action, aborts_with, all_aborted, commit_action, commit_open, commit_top, commits_in, decide, decided_told}
use Words.{end_line, ended, ends_with, gaveup_lines, give_up, give_up_doing, gives_up, has, has_record, heard, heard_by}
use Words.{heard_call, heard_doing, heard_none, heard_now, last_req, mark_lines, moved_commit, next_node, nodes_given_up, open_below}
use Words.{participants, plan_for, plan_of, record_work, root_at, root_of, say_for, says, servers_of, step_call, step_commit, tell, tolds_of}
use Words.{tolds_by, tolds_of_branch, branch_of, branch_named, on_branch}
use Words.{waits_for_call, waits_for_commit, CallEnd, CallStep, Answered, Included, Conflict, Changed, Lost, Ended, Goal, On, Run}
use Words.{Steps, Aborts, Asks, CommitStep, Decides, Machine, Marked, Plan, Stays, Calling, Committing, Idle, Now, Coord, Doing, doing_of}
use Words.{Branch, Did, Do, Effect, PutIntent, Say, Send, Served, Input, acts, give_up_call}
use Words.body
use Words.calls
use Words.cause
use Words.commit
use Words.ending
use Words.input
use Words.kind
use Rattle.arj_law_lock_view.proofs.Terms.{Action, IsBusy, IsGoodCoord, IsStepOf, IsTree, Paths, answer_step, giveup_step, vote_step, actor_is}
use Rattle.arj_law_runs.proofs.Terms.{all_both, all_flat, all_map, is_top}
use Rattle.arj_law_cause.proofs.waits.commits.Serving.{AreStill, IsQuiet, asks_still, is_of_part, quiet_plain, still_both, tells_still}
use Rattle.arj_law_cause.proofs.waits.commits.Under.{is_front_line}
use Rattle.arj_law_cause.specs.waits.commits.Commits.{ends_commit}

-- no commit ends in the line
abbrev pub rests : Body → Bool
rests b = not (ends_commit b)

pub parts_rest : (b : Body) → is_of_part b ≡ true → rests b ≡ true
parts_rest (body.Committed l) is = absurd (cc is)
parts_rest (body.Aborted l c) is = absurd (cc is)
parts_rest b is = refl

-- the effects end no commit
abbrev pub Rest : List Effect → Type 0
Rest outs = AreStill (IsQuiet rests) outs

-- they say what a commit excludes, or gives up, or work on disks
abbrev pub IsFront : Effect → Type 0
IsFront (Say b) = is_front_line b ≡ true
IsFront (Do w) = ⊤
IsFront (Send to m) = ⊥

abbrev pub AreFront : List Effect → Type 0
AreFront outs = AllByRecursion IsFront outs

-- the line ends the commit of this label
abbrev pub IsEndOf : Label → Body → Type 0
IsEndOf l (body.Committed m) = m ≡ l
IsEndOf l (body.Aborted m c) = m ≡ l
IsEndOf l b = ⊥

-- The effects of a commit's step: it doesn't end, or ends by one line.
pub data EndsOnce (l : Label) (outs : List Effect) : Type 0 where
  Goes : Rest outs → EndsOnce l outs
  Ends : (front behind : List Effect) (b : Body) → AreFront front → Rest behind → IsEndOf l b → outs ≡ front ++ Say b ∷ behind →
      EndsOnce l outs

-- The effects of a coordinator: no commit ends, or the one of an action that waits for it.
pub data Turned (c : Coord) (outs : List Effect) : Type 0 where
  Rests : Rest outs → Turned c outs
  Busy : (u : Uid) (d : Doing) (m : Machine) → doing_of u c ≡ Some d → d.now ≡ Committing m → EndsOnce d.label outs → Turned c outs

-- A commit is called: no commit ends but by the first line, or this one, behind the line of its call.
pub data Calls (b : Branch) (c : Coord) (outs : List Effect) : Type 0 where
  Alone : (line : Body) (rest : List Effect) → outs ≡ Say line ∷ rest → Rest rest → Calls b c outs
  Opens : (d : Doing) (rest : List Effect) → doing_of (actor b.path) c ≡ Some d → is_top b.kind ≡ true →
      outs ≡ Say (body.Committing d.label) ∷ rest → EndsOnce d.label rest → Calls b c outs

-- the input aborts an action, or gives up what it waits for
abbrev pub is_abort_or_giveup : Input → Bool
is_abort_or_giveup (input.Abort l) = true
is_abort_or_giveup (input.GiveUp l) = true
is_abort_or_giveup i = false

-- ---- lines

says_rest : (u : Uid) (f : Label → Body) (c : Coord) → ((l : Label) → rests (f l) ≡ true) → Rest (says u f c)
says_rest u f c its = by (doing_of u c)
  where
    by : (o : Option Doing) → Rest (say_for f o)
    by None = tt
    by (Some d) = (its d.label, tt)

says_front : (u : Uid) (f : Label → Body) (c : Coord) → ((l : Label) → is_front_line (f l) ≡ true) → AreFront (says u f c)
says_front u f c its = by (doing_of u c)
  where
    by : (o : Option Doing) → AreFront (say_for f o)
    by None = tt
    by (Some d) = (its d.label, tt)

says_one : (u : Uid) (f : Label → Body) (c : Coord) (d : Doing) → doing_of u c ≡ Some d → says u f c ≡ Say (f d.label) ∷ []
says_one u f c d found = ap (say_for f) found

tolds_rest : (intents : List (Uid × Intent)) (c : Coord) (u : Uid) → Rest (tolds_of intents c u)
tolds_rest intents c u = by (branch_of u c.tree)
  where
    kinds : (k : Kind) (p : Path) → Rest (tolds_by u k p intents c)
    kinds kind.Nested p = tells_still (IsQuiet rests) (quiet_plain rests parts_rest) _ false _ _
    kinds kind.Serial p = tells_still (IsQuiet rests) (quiet_plain rests parts_rest) _ false _ _
    kinds kind.Top p = tells_still (IsQuiet rests) (quiet_plain rests parts_rest) _ false _ _
    kinds kind.Independent p = tells_still (IsQuiet rests) (quiet_plain rests parts_rest) _ false _ _
    kinds kind.Constituent p = tells_still (IsQuiet rests) (quiet_plain rests parts_rest) _ false _ _

    by : (o : Option Branch) → Rest (tolds_of_branch u intents c o)
    by None = tt
    by (Some b) = kinds b.kind b.path

marks_rest : (u : Uid) (marks : List (ℕ × ℕ)) (c : Coord) → Rest (mark_lines u marks c)
marks_rest u marks c = all_flat (IsQuiet rests) (λ (m : ℕ × ℕ). says u (λ l. body.Excluded l m.0 m.1) c) marks
    (λ m. says_rest u (λ l. body.Excluded l m.0 m.1) c (λ l. refl))

marks_front : (u : Uid) (marks : List (ℕ × ℕ)) (c : Coord) → AreFront (mark_lines u marks c)
marks_front u marks c = all_flat IsFront (λ (m : ℕ × ℕ). says u (λ l. body.Excluded l m.0 m.1) c) marks
    (λ m. says_front u (λ l. body.Excluded l m.0 m.1) c (λ l. refl))

gaveup_rest : (u : Uid) (ns : List ℕ) (c : Coord) → Rest (gaveup_lines u ns c)
gaveup_rest u ns c = all_flat (IsQuiet rests) (λ n. says u (λ l. body.GaveUp l n) c) ns
    (λ n. says_rest u (λ l. body.GaveUp l n) c (λ l. refl))

gaveup_front : (u : Uid) (ns : List ℕ) (c : Coord) → AreFront (gaveup_lines u ns c)
gaveup_front u ns c = all_flat IsFront (λ n. says u (λ l. body.GaveUp l n) c) ns (λ n. says_front u (λ l. body.GaveUp l n) c (λ l. refl))

all_rest : (us : List Uid) (c : Coord) → Rest (all_aborted us c).outs
all_rest [] c = tt
all_rest (u ∷ us) c = still_both (IsQuiet rests) (says u (λ l. body.Aborted l cause.Asked) c) (all_aborted us (ended u ending.Abort c)).outs
    (says_rest u (λ l. body.Aborted l cause.Asked) c (λ l. refl)) (all_rest us (ended u ending.Abort c))

line_rests : (x : ℕ) (g : Goal) (e : CallEnd) (l : Label) → rests (end_line x g e l) ≡ true
line_rests x (Run o) (Answered a) l = refl
line_rests x (calls.Include s) (Answered a) l = refl
line_rests x g (Included s) l = refl
line_rests x g (Conflict h m n) l = refl
line_rests x g (Changed n w) l = refl
line_rests x g (Lost n sent) l = refl

call_rests : (s : Steps) (n : CallStep) (c : Coord) → Rest (step_call s n c).outs
call_rests s (On at) c = (tt, tt)
call_rests s (Ended e) c = says_rest (actor s.path) (end_line s.x s.goal e) c (line_rests s.x s.goal e)

-- ---- the steps of a commit

-- behind lines of what it excludes or gives up
behind_front : (l : Label) (front outs : List Effect) → AreFront front → Rest front → EndsOnce l outs → EndsOnce l (front ++ outs)
behind_front l front outs lined rest (Goes all) = Goes (still_both (IsQuiet rests) front outs rest all)
behind_front l front outs lined rest (Ends more behind b all still its are) =
    Ends (front ++ more) behind b (all_both IsFront front more lined all) still its
    (ap (λ es. front ++ es) are ∙ sym (append_assoc front more (Say b ∷ behind)))

-- what a step of a commit decides is the end of its own action
abbrev IsOfPlan : Uid → CommitStep → Type 0
IsOfPlan u (Decides p) = actor p.path ≡ u
IsOfPlan u s = ⊤

module _ (c : Coord) (u : Uid) (d : Doing) (found : doing_of u c ≡ Some d) (intents : List (Uid × Intent)) where
  decides : (p : Plan) → actor p.path ≡ u → EndsOnce d.label (decide p c).outs
  decides p own = Ends (record_work (actor p.path) p) (map told p.sent) (body.Committed d.label) (work (has_record p))
      (all_map (IsQuiet rests) told p.sent (λ n. each n (has (participants p) n))) refl
      (ap (λ es. record_work (actor p.path) p ++ es ++ map told p.sent)
      (says_one (actor p.path) body.Committed c d (ap (λ v. doing_of v c) own ∙ found))
      ∙ append_assoc (record_work (actor p.path) p) (Say (body.Committed d.label) ∷ []) (map told p.sent))
    where
      told : ℕ → Effect
      told = decided_told (root_of p.path) (actor p.path) p

      work : (b : Bool) →
          AreFront (cond b (Do (PutIntent (actor p.path) (record { root = root_of p.path; nodes = participants p })) ∷ []) [])
      work true = (tt, tt)
      work false = tt

      each : (n : ℕ) (b : Bool) → IsQuiet rests (cond b (tell (root_of p.path) (has_record p) ((actor p.path, ending.Commit) ∷ []) n)
          (tell (root_of p.path) false ((actor p.path, ending.Abort) ∷ []) n))
      each n true = tt
      each n false = tt

  step_ends : (s : CommitStep) → IsOfPlan u s → EndsOnce d.label (step_commit u s intents c).outs
  step_ends (Stays m) own = Goes tt
  step_ends (Asks m) own = Goes (asks_still (IsQuiet rests) (quiet_plain rests parts_rest) (plan_of m).path (plan_of m).req (commit.waiting m) (commits_in u m c))
  step_ends (Decides p) own = decides p own
  step_ends (Aborts why p) own =
      Ends [] (tolds_of intents (ended u ending.Abort c) u) (body.Aborted d.label why) tt
      (tolds_rest intents (ended u ending.Abort c) u) refl
      (ap (λ es. es ++ tolds_of intents (ended u ending.Abort c) u) (says_one u (λ l. body.Aborted l why) c d found))

  pub moved_ends : (m : Marked) → IsOfPlan u m.step → EndsOnce d.label (moved_commit u m intents c).outs
  moved_ends m own = behind_front d.label (mark_lines u m.marks c) (step_commit u m.step intents c).outs (marks_front u m.marks c)
      (marks_rest u m.marks c) (step_ends m.step own)

-- ---- a coordinator

module _ (c : Coord) (actions : List Action) (paths : Paths) (tree : IsTree paths) (good : IsGoodCoord actions paths c) where
  -- a commit is of its own action
  its_plan : (u : Uid) (d : Doing) (m : Machine) → doing_of u c ≡ Some d → d.now ≡ Committing m → actor (let p = plan_of m in p.path) ≡ u
  its_plan u d m found is = let v = subst (IsBusy c.tree u) is (good.busy u d found) in
      actor_is actions paths tree u (let p = plan_of m in p.path) c good v.asking

  pub heard_turned : (from : ℕ) (a : Asked) (r : Reply) (intents : List (Uid × Intent)) → Turned c (heard from a r intents c).outs
  heard_turned from a r intents = by (doing_of a.act c) refl
    where
      now : (d : Doing) → doing_of a.act c ≡ Some d → (n : Now) → d.now ≡ n → Turned c (heard_now from a r intents c n).outs
      now d found Idle is = Rests tt
      now d found (Calling s) is = one (waits_for_call from a r s)
        where
          one : (w : Bool) → Turned c (cond {A = Served Coord (Unit {0})} w (heard_by (heard_call s r c)) (heard_none c)).outs
          one true = Rests (call_rests s _ _)
          one false = Rests tt
      now d found (Committing m) is = one (waits_for_commit from a r m)
        where
          own : (s : CommitStep) → IsStepOf actions paths tree (plan_of m) s → IsOfPlan a.act s
          own (Stays k) so = tt
          own (Asks k) so = tt
          own (Decides p) so = ap actor so.0 ∙ its_plan a.act d m found is
          own (Aborts why p) so = tt

          one : (w : Bool) → Turned c (cond {A = Served Coord (Unit {0})} w
              (heard_by (moved_commit a.act (commit.answered from m r) intents c)) (heard_none c)).outs
          one true = Busy a.act d m found is (moved_ends c a.act d found intents (commit.answered from m r)
              (own (commit.answered from m r).step (answer_step actions paths tree from m r)))
          one false = Rests tt

      by : (o : Option Doing) → doing_of a.act c ≡ o → Turned c (heard_doing from a r intents c o).outs
      by None is = Rests tt
      by (Some d) is = now d is d.now refl

  give_turned : (u : Uid) (intents : List (Uid × Intent)) → Turned c (give_up u intents c).outs
  give_turned u intents = by (doing_of u c) refl
    where
      now : (d : Doing) → doing_of u c ≡ Some d → (n : Now) → d.now ≡ n → Turned c (gives_up u intents c n).outs
      now d found Idle is = Rests tt
      now d found (Calling s) is = Rests (still_both (IsQuiet rests) (gaveup_lines u (next_node s ∷ []) c) (give_up_call s c).outs
          (gaveup_rest u (next_node s ∷ []) c) (call_rests s _ _))
      now d found (Committing m) is = Busy u d m found is
          (behind_front d.label (gaveup_lines u (nodes_given_up m) c) (moved_commit u (commit.given_up m) intents c).outs
          (gaveup_front u (nodes_given_up m) c) (gaveup_rest u (nodes_given_up m) c)
          (moved_ends c u d found intents (commit.given_up m)
          (own (commit.given_up m).step (giveup_step actions paths tree m))))
        where
          own : (s : CommitStep) → IsStepOf actions paths tree (plan_of m) s → IsOfPlan u s
          own (Stays k) so = tt
          own (Asks k) so = tt
          own (Decides p) so = ap actor so.0 ∙ its_plan u d m found is
          own (Aborts why p) so = tt

      by : (o : Option Doing) → doing_of u c ≡ o → Turned c (give_up_doing u intents c o).outs
      by None is = Rests tt
      by (Some d) is = now d is d.now refl

  abort_turned : (b : Branch) (intents : List (Uid × Intent)) → Turned c (abort_action (actor b.path) intents c).outs
  abort_turned b intents =
      let us = open_below (actor b.path) c.tree ++ actor b.path ∷ [] in
      let t = all_aborted us c in
      Rests (still_both (IsQuiet rests) t.outs (flat_map (tolds_of intents t.part) us) (all_rest us c)
      (all_flat (IsQuiet rests) (tolds_of intents t.part) us (λ w. tolds_rest intents t.part w)))

  -- a commit is called
  pub commit_calls : (b : Branch) (intents : List (Uid × Intent)) (d : Doing) → doing_of (actor b.path) c ≡ Some d →
      Calls b c (commit_action b intents c).outs
  commit_calls b intents d found = doomed b.doomed
    where
      u : Uid
      u = actor b.path

      plan : Plan
      plan = plan_for b.path (last_req (doing_of u c)) (root_at (root_of b.path) c) c

      own : (s : CommitStep) → IsStepOf actions paths tree plan s → IsOfPlan u s
      own (Stays k) so = tt
      own (Asks k) so = tt
      own (Decides p) so = ap actor so.0
      own (Aborts why p) so = tt

      ends : (e : End) (f : Label → Body) → Calls b c (ends_with u e f intents c).outs
      ends e f = Alone (f d.label) (tolds_of intents (ended u e c) u)
          (ap (λ es. es ++ tolds_of intents (ended u e c) u) (says_one u f c d found)) (tolds_rest intents (ended u e c) u)

      top : is_top b.kind ≡ true → Calls b c (commit_top b.path intents c).outs
      top is = Opens d (moved_commit u (commit.start plan) intents c).outs found is
          (ap (λ es. es ++ (moved_commit u (commit.start plan) intents c).outs) (says_one u body.Committing c d found))
          (moved_ends c u d found intents (commit.start plan)
          (own (commit.start plan).step (vote_step actions paths tree (servers_of plan) plan plan (refl, refl))))

      kinds : (q : Kind) → b.kind ≡ q → Calls b c (commit_open b intents c q).outs
      kinds kind.Nested is = ends ending.Commit body.Committed
      kinds kind.Serial is = ends ending.Commit body.Ended
      kinds kind.Top is = top (ap is_top is)
      kinds kind.Independent is = top (ap is_top is)
      kinds kind.Constituent is = top (ap is_top is)

      doomed : (w : Bool) → Calls b c (cond {A = Did Coord} w (aborts_with u cause.Doomed intents c) (commit_open b intents c b.kind)).outs
      doomed true = ends ending.Abort (λ l. body.Aborted l cause.Doomed)
      doomed false = kinds b.kind refl

  -- an abort, or a giveup
  pub abort_or_give : (i : Input) (intents : List (Uid × Intent)) → is_abort_or_giveup i ≡ true → Turned c (acts i intents c).outs
  abort_or_give (input.Abort l) intents is = by (branch_named l c)
    where
      by : (f : Option Branch) → Turned c (on_branch (λ b. abort_action (actor b.path) intents c) c f).outs
      by None = Rests tt
      by (Some b) = abort_turned b intents
  abort_or_give (input.GiveUp l) intents is = by (branch_named l c)
    where
      by : (f : Option Branch) → Turned c (on_branch (λ b. give_up (actor b.path) intents c) c f).outs
      by None = Rests tt
      by (Some b) = give_turned (actor b.path) intents
  abort_or_give i intents is = absurd (cc is)
