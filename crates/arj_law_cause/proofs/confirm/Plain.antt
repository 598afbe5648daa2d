-- Which lines a coordinator says that naming, a server or a store has refused a commit: one, first of all, as it takes the answer.
use Rattle.arj_law_parts.proofs.Words
use Words.{⊤, ◌≡◌, ◌∙◌, ◌++◌, not, ℕ, Bool, true, false, cond, List, [], ◌∷◌, map, Option, Some, None, refl, sym, ap}
use Words.{flat_map, Asked, Body, End, Kind, Label, Path, Uid, ConfirmedReply, Reply, actor, Intent, Used}
use Words.{abort_action, aborts_with, all_aborted, commit_action, commit_open, commit_top, commits_in, decide, decided_told, end_line}
use Words.{ended, ends_with}
use Words.{gaveup_lines, give_up, give_up_doing, gives_up, has, has_record, heard, heard_by, heard_call, heard_doing, heard_none}
use Words.{heard_now, last_req}
use Words.{mark_lines, moved_commit, next_node, nodes_given_up, open_below, participants, plan_for, plan_of, record_work, root_at}
use Words.{root_of, say_for, says}
use Words.{servers_of, step_call, step_commit, targets_of, tell, tolds_of, tolds_by, tolds_of_branch, branch_of, branch_named, on_branch}
use Words.{waits_for_call, waits_for_commit, CallEnd, CallStep, Answered, Included, Conflict, Changed, Lost, Ended, Goal, On, Run, Steps}
use Words.{Aborts, Asks, What, differs}
use Words.{CommitStep, Decides, Machine, Marked, Plan, Stays, Voting, Preparing, Confirming, Calling, Committing, Idle, Now, Coord, Doing}
use Words.{doing_of, Branch}
use Words.{without_number, with_number, with_states, Did, Do, Effect, PutIntent, Say, Served, Input, acts, give_up_call, call, include}
use Words.{on_branch}
use Words.body
use Words.calls
use Words.cause
use Words.commit
use Words.confirmed
use Words.ending
use Words.input
use Words.kind
use Words.prepared
use Words.voted
use Rattle.arj_law_parts.specs.moves.Keeps.{is_act}
use Rattle.arj_law_runs.proofs.Terms.{all_flat, all_map}
use Rattle.arj_law_cause.proofs.waits.commits.Serving.{AreStill, IsQuiet, asks_still, is_of_part, quiet_plain, still_both, tells_still}

-- naming has refused a commit, or a server or a store has, since something changed or the state is too late
abbrev pub is_refusal : Body → Bool
is_refusal (body.Aborted l (cause.Old n x v)) = true
is_refusal (body.Aborted l (cause.Conflict u m n)) = true
is_refusal (body.Aborted l (cause.NoStores x)) = true
is_refusal (body.Aborted l (cause.Listed x s)) = true
is_refusal (body.Aborted l (cause.Changed n d)) = true
is_refusal b = false

-- the line says no such thing
abbrev pub plain : Body → Bool
plain b = not (is_refusal b)

-- so it is of these effects
abbrev pub Plain : List Effect → Type 0
Plain outs = AreStill (IsQuiet plain) outs

pub parts_plain : (b : Body) → is_of_part b ≡ true → plain b ≡ true
parts_plain (body.Aborted l c) is = absurd (cc is)
parts_plain b is = refl

pub both : (es fs : List Effect) → Plain es → Plain fs → Plain (es ++ fs)
both es fs a b = still_both (IsQuiet plain) es fs a b

-- ---- lines

says_plain : (u : Uid) (f : Label → Body) (c : Coord) → ((l : Label) → plain (f l) ≡ true) → Plain (says u f c)
says_plain u f c its = by (doing_of u c)
  where
    by : (o : Option Doing) → Plain (say_for f o)
    by None = tt
    by (Some d) = (its d.label, tt)

tolds_plain : (intents : List (Uid × Intent)) (c : Coord) (u : Uid) → Plain (tolds_of intents c u)
tolds_plain intents c u = by (branch_of u c.tree)
  where
    kinds : (k : Kind) (p : Path) → Plain (tolds_by u k p intents c)
    kinds kind.Nested p = tells_still (IsQuiet plain) (quiet_plain plain parts_plain) _ false _ _
    kinds kind.Serial p = tells_still (IsQuiet plain) (quiet_plain plain parts_plain) _ false _ _
    kinds kind.Top p = tells_still (IsQuiet plain) (quiet_plain plain parts_plain) _ false _ _
    kinds kind.Independent p = tells_still (IsQuiet plain) (quiet_plain plain parts_plain) _ false _ _
    kinds kind.Constituent p = tells_still (IsQuiet plain) (quiet_plain plain parts_plain) _ false _ _

    by : (o : Option Branch) → Plain (tolds_of_branch u intents c o)
    by None = tt
    by (Some b) = kinds b.kind b.path

marks_plain : (u : Uid) (marks : List (ℕ × ℕ)) (c : Coord) → Plain (mark_lines u marks c)
marks_plain u marks c = all_flat (IsQuiet plain) (λ (m : ℕ × ℕ). says u (λ l. body.Excluded l m.0 m.1) c) marks
    (λ m. says_plain u (λ l. body.Excluded l m.0 m.1) c (λ l. refl))

gaveup_plain : (u : Uid) (ns : List ℕ) (c : Coord) → Plain (gaveup_lines u ns c)
gaveup_plain u ns c = all_flat (IsQuiet plain) (λ n. says u (λ l. body.GaveUp l n) c) ns
    (λ n. says_plain u (λ l. body.GaveUp l n) c (λ l. refl))

all_plain : (us : List Uid) (c : Coord) → Plain (all_aborted us c).outs
all_plain [] c = tt
all_plain (u ∷ us) c = both (says u (λ l. body.Aborted l cause.Asked) c) (all_aborted us (ended u ending.Abort c)).outs
    (says_plain u (λ l. body.Aborted l cause.Asked) c (λ l. refl)) (all_plain us (ended u ending.Abort c))

line_plain : (x : ℕ) (g : Goal) (e : CallEnd) (l : Label) → plain (end_line x g e l) ≡ true
line_plain x (Run o) (Answered a) l = refl
line_plain x (calls.Include s) (Answered a) l = refl
line_plain x g (Included s) l = refl
line_plain x g (Conflict h m n) l = refl
line_plain x g (Changed n w) l = refl
line_plain x g (Lost n sent) l = refl

call_plain : (s : Steps) (n : CallStep) (c : Coord) → Plain (step_call s n c).outs
call_plain s (On at) c = (tt, tt)
call_plain s (Ended e) c = says_plain (actor s.path) (end_line s.x s.goal e) c (line_plain s.x s.goal e)

-- ---- the steps of a commit

-- the step aborts for no such cause
abbrev IsPlainStep : CommitStep → Type 0
IsPlainStep (Aborts why p) = (l : Label) → plain (body.Aborted l why) ≡ true
IsPlainStep s = ⊤

decide_plain : (p : Plan) (c : Coord) → Plain (decide p c).outs
decide_plain p c = both (record_work (actor p.path) p ++ says (actor p.path) body.Committed c) (map told p.sent)
    (both (record_work (actor p.path) p) (says (actor p.path) body.Committed c) (work (has_record p))
    (says_plain (actor p.path) body.Committed c (λ l. refl)))
    (all_map (IsQuiet plain) told p.sent (λ n. each n (has (participants p) n)))
  where
    told : ℕ → Effect
    told = decided_told (root_of p.path) (actor p.path) p

    work : (b : Bool) →
        Plain (cond b (Do (PutIntent (actor p.path) (record { root = root_of p.path; nodes = participants p })) ∷ []) [])
    work true = (tt, tt)
    work false = tt

    each : (n : ℕ) (b : Bool) → IsQuiet plain (cond b (tell (root_of p.path) (has_record p) ((actor p.path, ending.Commit) ∷ []) n)
        (tell (root_of p.path) false ((actor p.path, ending.Abort) ∷ []) n))
    each n true = tt
    each n false = tt

ends_plain : (u : Uid) (e : End) (f : Label → Body) (intents : List (Uid × Intent)) (c : Coord) → ((l : Label) → plain (f l) ≡ true) →
    Plain (ends_with u e f intents c).outs
ends_plain u e f intents c its =
    both (says u f c) (tolds_of intents (ended u e c) u) (says_plain u f c its) (tolds_plain intents (ended u e c) u)

step_plain : (u : Uid) (s : CommitStep) (intents : List (Uid × Intent)) (c : Coord) → IsPlainStep s → Plain (step_commit u s intents c).outs
step_plain u (Stays m) intents c ok = tt
step_plain u (Asks m) intents c ok = asks_still (IsQuiet plain) (quiet_plain plain parts_plain) (plan_of m).path (plan_of m).req
    (commit.waiting m) (commits_in u m c)
step_plain u (Decides p) intents c ok = decide_plain p c
step_plain u (Aborts why p) intents c ok = ends_plain u ending.Abort (λ l. body.Aborted l why) intents c ok

moved_plain : (u : Uid) (m : Marked) (intents : List (Uid × Intent)) (c : Coord) → IsPlainStep m.step →
    Plain (moved_commit u m intents c).outs
moved_plain u m intents c ok = both (mark_lines u m.marks c) (step_commit u m.step intents c).outs (marks_plain u m.marks c)
    (step_plain u m.step intents c ok)

confirm_step : (us : List Used) (p : Plan) → IsPlainStep (commit.begin_confirm us p)
confirm_step [] p = tt
confirm_step (u ∷ us) p = tt

prepare_step : (ss : List ℕ) (p : Plan) → IsPlainStep (commit.begin_prepare ss p)
prepare_step [] p = confirm_step p.used p
prepare_step (s ∷ ss) p = tt

vote_step : (ss : List ℕ) (p : Plan) → IsPlainStep (commit.begin_vote ss p)
vote_step [] p = prepare_step (targets_of p) p
vote_step (s ∷ ss) p = tt

votes_step : (ns : List ℕ) (p : Plan) → IsPlainStep (commit.votes_left ns p)
votes_step [] p = prepare_step (targets_of p) p
votes_step (n ∷ ns) p = tt

stores_step : (ns : List ℕ) (p : Plan) → IsPlainStep (commit.stores_left ns p).step
stores_step [] p = confirm_step p.used p
stores_step (n ∷ ns) p = tt

given_step : (m : Machine) → IsPlainStep (commit.given_up m).step
given_step (Voting p left) = λ l. refl
given_step (Preparing p left) = stores_step [] (commit.marks_stores left p)
given_step (Confirming p) = λ l. refl

-- why naming's answer ends a commit
abbrev pub why_of : ConfirmedReply → Option (Label → Body)
why_of (confirmed.Conflict u m) = Some (λ l. body.Aborted l (cause.Conflict u m 1))
why_of (confirmed.NoStores x) = Some (λ l. body.Aborted l (cause.NoStores x))
why_of (confirmed.Listed x s) = Some (λ l. body.Aborted l (cause.Listed x s))
why_of q = None

-- The answer says that something changed, where the commit waits for votes, or for naming; so much the line of the refusal names.
pub data IsChange (from : ℕ) (m : Machine) (r : Reply) (w : What) (n : ℕ) : Type 0 where
  Votes : (p : Plan) (left : List ℕ) → m ≡ Voting p left → r ≡ Reply.Voted (voted.Changed w) → n ≡ from → IsChange from m r w n
  Confirms : (p : Plan) → m ≡ Confirming p → r ≡ Reply.Confirmed (confirmed.Changed w) → n ≡ 1 → IsChange from m r w n

-- Of an answer that a commit waits for the step is plain, or it is a refusal, with this line.
pub data Hears (from : ℕ) (u : Uid) (m : Machine) (r : Reply) (intents : List (Uid × Intent)) (c : Coord) (outs : List Effect) :
    Type 0 where
  Goes : Plain outs → Hears from u m r intents c outs
  Refused : (p : Plan) (q : ConfirmedReply) (f : Label → Body) (rest : List Effect) → m ≡ Confirming p → r ≡ Reply.Confirmed q →
      why_of q ≡ Some f → outs ≡ says u f c ++ rest → Plain rest → Hears from u m r intents c outs
  Late : (p : Plan) (left : List ℕ) (x v : ℕ) (rest : List Effect) → m ≡ Preparing p left → r ≡ Reply.Prepared (prepared.Old x v) →
      outs ≡ says u (λ l. body.Aborted l (cause.Old from x v)) c ++ rest → Plain rest → Hears from u m r intents c outs
  Changes : (w : What) (n : ℕ) (rest : List Effect) → IsChange from m r w n →
      outs ≡ says u (λ l. body.Aborted l (cause.Changed n (differs w))) c ++ rest → Plain rest → Hears from u m r intents c outs

hears : (u : Uid) (m : Machine) (from : ℕ) (r : Reply) (intents : List (Uid × Intent)) (c : Coord) →
    Hears from u m r intents c (moved_commit u (commit.answered from m r) intents c).outs
hears u (Voting p left) from (Reply.Voted (voted.Yes states)) intents c =
    Goes (moved_plain u (commit.answered from (Voting p left) (Reply.Voted (voted.Yes states))) intents c (votes_step
    (without_number from left)
    (record p { changed = with_states states p.changed })))
hears u (Voting p left) from (Reply.Voted (voted.Changed w)) intents c =
    Changes w from (tolds_of intents (ended u ending.Abort c) u) (Votes p left refl refl refl) refl
    (tolds_plain intents (ended u ending.Abort c) u)
hears u (Preparing p left) from (Reply.Prepared prepared.Yes) intents c =
    Goes (moved_plain u (commit.answered from (Preparing p left) (Reply.Prepared prepared.Yes)) intents c (stores_step
    (without_number from left)
    (record p { prepared = with_number from p.prepared })))
hears u (Preparing p left) from (Reply.Prepared (prepared.InDoubt x holder)) intents c =
    Goes (moved_plain u (commit.answered from (Preparing p left) (Reply.Prepared (prepared.InDoubt x holder))) intents c
    (stores_step (without_number from left) (commit.marks_store from p)))
hears u (Preparing p left) from (Reply.Prepared (prepared.Old x v)) intents c =
    Late p left x v (tolds_of intents (ended u ending.Abort c) u) refl refl refl (tolds_plain intents (ended u ending.Abort c) u)
hears u (Confirming p) from (Reply.Confirmed confirmed.Yes) intents c =
    Goes (moved_plain u (commit.answered from (Confirming p) (Reply.Confirmed confirmed.Yes)) intents c tt)
hears u (Confirming p) from (Reply.Confirmed (confirmed.Changed w)) intents c =
    Changes w 1 (tolds_of intents (ended u ending.Abort c) u) (Confirms p refl refl refl) refl
    (tolds_plain intents (ended u ending.Abort c) u)
hears u (Confirming p) from (Reply.Confirmed (confirmed.Conflict holder k)) intents c =
    Refused p (confirmed.Conflict holder k) (λ l. body.Aborted l (cause.Conflict holder k 1)) (tolds_of intents
    (ended u ending.Abort c) u) refl
    refl refl refl (tolds_plain intents (ended u ending.Abort c) u)
hears u (Confirming p) from (Reply.Confirmed (confirmed.NoStores x)) intents c =
    Refused p (confirmed.NoStores x) (λ l. body.Aborted l (cause.NoStores x)) (tolds_of intents
    (ended u ending.Abort c) u) refl refl refl refl
    (tolds_plain intents (ended u ending.Abort c) u)
hears u (Confirming p) from (Reply.Confirmed (confirmed.Listed x s)) intents c =
    Refused p (confirmed.Listed x s) (λ l. body.Aborted l (cause.Listed x s)) (tolds_of intents
    (ended u ending.Abort c) u) refl refl refl refl
    (tolds_plain intents (ended u ending.Abort c) u)
hears u m from r intents c = Goes tt

-- ---- a coordinator

-- As an answer is heard the effects are plain, or it refused the commit of the action that waits for it.
pub data Heard (from : ℕ) (a : Asked) (r : Reply) (c : Coord) (outs : List Effect) : Type 0 where
  Rests : Plain outs → Heard from a r c outs
  Ends : (d : Doing) (p : Plan) (q : ConfirmedReply) (f : Label → Body) (rest : List Effect) → doing_of a.act c ≡ Some d →
      d.now ≡ Committing (Confirming p) → waits_for_commit from a r (Confirming p) ≡ true → r ≡ Reply.Confirmed q → why_of q ≡ Some f →
      outs ≡ Say (f d.label) ∷ rest → Plain rest → Heard from a r c outs
  EndsLate : (d : Doing) (p : Plan) (left : List ℕ) (x v : ℕ) (rest : List Effect) → doing_of a.act c ≡ Some d →
      d.now ≡ Committing (Preparing p left) → waits_for_commit from a r (Preparing p left) ≡ true → r ≡ Reply.Prepared (prepared.Old x v) →
      outs ≡ Say (body.Aborted d.label (cause.Old from x v)) ∷ rest → Plain rest → Heard from a r c outs
  EndsChanged : (d : Doing) (m : Machine) (w : What) (n : ℕ) (rest : List Effect) → doing_of a.act c ≡ Some d → d.now ≡ Committing m →
      waits_for_commit from a r m ≡ true → IsChange from m r w n →
      outs ≡ Say (body.Aborted d.label (cause.Changed n (differs w))) ∷ rest → Plain rest → Heard from a r c outs

pub heard_is : (from : ℕ) (a : Asked) (r : Reply) (intents : List (Uid × Intent)) (c : Coord) →
    Heard from a r c (heard from a r intents c).outs
heard_is from a r intents c = by (doing_of a.act c) refl
  where
    now : (d : Doing) → doing_of a.act c ≡ Some d → (n : Now) → d.now ≡ n → Heard from a r c (heard_now from a r intents c n).outs
    now d found Idle is = Rests tt
    now d found (Calling s) is = one (waits_for_call from a r s)
      where
        one : (w : Bool) → Heard from a r c (cond {A = Served Coord (Unit {0})} w (heard_by (heard_call s r c)) (heard_none c)).outs
        one true = Rests (call_plain s _ _)
        one false = Rests tt
    now d found (Committing m) is = one (waits_for_commit from a r m) refl
      where
        ends : waits_for_commit from a r m ≡ true → (outs : List Effect) → Hears from a.act m r intents c outs → Heard from a r c outs
        ends waits outs (Goes ok) = Rests ok
        ends waits outs (Refused p q f rest machine reply why are ok) = Ends d p q f rest found (is ∙ ap Committing machine)
            (ap (waits_for_commit from a r) (sym machine) ∙ waits) reply why
            (are ∙ ap (λ es. es ++ rest) (ap (say_for f) found)) ok
        ends waits outs (Late p left x v rest machine reply are ok) = EndsLate d p left x v rest found (is ∙ ap Committing machine)
            (ap (waits_for_commit from a r) (sym machine) ∙ waits) reply
            (are ∙ ap (λ es. es ++ rest) (ap (say_for (λ l. body.Aborted l (cause.Old from x v))) found)) ok
        ends waits outs (Changes v n rest change are ok) = EndsChanged d m v n rest found is waits change
            (are ∙ ap (λ es. es ++ rest) (ap (say_for (λ l. body.Aborted l (cause.Changed n (differs v)))) found)) ok

        one : (w : Bool) → waits_for_commit from a r m ≡ w → Heard from a r c (cond {A = Served Coord (Unit {0})} w
            (heard_by (moved_commit a.act (commit.answered from m r) intents c)) (heard_none c)).outs
        one true waits = ends waits (moved_commit a.act (commit.answered from m r) intents c).outs (hears a.act m from r intents c)
        one false waits = Rests tt

    by : (o : Option Doing) → doing_of a.act c ≡ o → Heard from a r c (heard_doing from a r intents c o).outs
    by None is = Rests tt
    by (Some d) is = now d is d.now refl

give_plain : (u : Uid) (intents : List (Uid × Intent)) (c : Coord) → Plain (give_up u intents c).outs
give_plain u intents c = by (doing_of u c)
  where
    now : (n : Now) → Plain (gives_up u intents c n).outs
    now Idle = tt
    now (Calling s) = both (gaveup_lines u (next_node s ∷ []) c) (give_up_call s c).outs (gaveup_plain u (next_node s ∷ []) c)
        (call_plain s _ _)
    now (Committing m) = both (gaveup_lines u (nodes_given_up m) c) (moved_commit u (commit.given_up m) intents c).outs
        (gaveup_plain u (nodes_given_up m) c) (moved_plain u (commit.given_up m) intents c (given_step m))

    by : (o : Option Doing) → Plain (give_up_doing u intents c o).outs
    by None = tt
    by (Some d) = now d.now

abort_plain : (u : Uid) (intents : List (Uid × Intent)) (c : Coord) → Plain (abort_action u intents c).outs
abort_plain u intents c =
    let us = open_below u c.tree ++ u ∷ [] in
    let t = all_aborted us c in
    both t.outs (flat_map (tolds_of intents t.part) us) (all_plain us c)
    (all_flat (IsQuiet plain) (tolds_of intents t.part) us (λ w. tolds_plain intents t.part w))

commit_plain : (b : Branch) (intents : List (Uid × Intent)) (c : Coord) → Plain (commit_action b intents c).outs
commit_plain b intents c = doomed b.doomed
  where
    u : Uid
    u = actor b.path

    plan : Plan
    plan = plan_for b.path (last_req (doing_of u c)) (root_at (root_of b.path) c) c

    top : Plain (commit_top b.path intents c).outs
    top = both (says u body.Committing c) (moved_commit u (commit.start plan) intents c).outs (says_plain u body.Committing c (λ l. refl))
        (moved_plain u (commit.start plan) intents c (vote_step (servers_of plan) plan))

    kinds : (q : Kind) → Plain (commit_open b intents c q).outs
    kinds kind.Nested = ends_plain u ending.Commit body.Committed intents c (λ l. refl)
    kinds kind.Serial = ends_plain u ending.Commit body.Ended intents c (λ l. refl)
    kinds kind.Top = top
    kinds kind.Independent = top
    kinds kind.Constituent = top

    doomed : (w : Bool) → Plain (cond {A = Did Coord} w (aborts_with u cause.Doomed intents c) (commit_open b intents c b.kind)).outs
    doomed true = ends_plain u ending.Abort (λ l. body.Aborted l cause.Doomed) intents c (λ l. refl)
    doomed false = kinds b.kind

-- what is asked of it says no such line
pub acts_plain : (i : Input) (intents : List (Uid × Intent)) (c : Coord) → is_act i ≡ true → Plain (acts i intents c).outs
acts_plain (input.Call l x o) intents c is = by (branch_named l c)
  where
    by : (f : Option Branch) → Plain (on_branch (λ b. call b.path x o c) c f).outs
    by None = tt
    by (Some b) = (tt, tt)
acts_plain (input.Include l x n) intents c is = by (branch_named l c)
  where
    by : (f : Option Branch) → Plain (on_branch (λ b. include b.path x n c) c f).outs
    by None = tt
    by (Some b) = (tt, tt)
acts_plain (input.Commit l) intents c is = by (branch_named l c)
  where
    by : (f : Option Branch) → Plain (on_branch (λ b. commit_action b intents c) c f).outs
    by None = tt
    by (Some b) = commit_plain b intents c
acts_plain (input.Abort l) intents c is = by (branch_named l c)
  where
    by : (f : Option Branch) → Plain (on_branch (λ b. abort_action (actor b.path) intents c) c f).outs
    by None = tt
    by (Some b) = abort_plain (actor b.path) intents c
acts_plain (input.GiveUp l) intents c is = by (branch_named l c)
  where
    by : (f : Option Branch) → Plain (on_branch (λ b. give_up (actor b.path) intents c) c f).outs
    by None = tt
    by (Some b) = give_plain (actor b.path) intents c
acts_plain i intents c is = absurd (cc is)
