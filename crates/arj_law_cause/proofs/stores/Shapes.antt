-- Where a coordinator says that an action committed: once among what it does, behind lines and the record, and then it only sends.
use Rattle.arj_law_parts.proofs.Words
use Words.{⊤, ◌≡◌, ◌∙◌, ◌++◌, ℕ, Bool, true, false, cond, List, [], ◌∷◌, map, Option, Some, None, refl, sym, ap}
use Words.{AllByRecursion, append_assoc, flat_map, Asked, Body, End, Kind, Label, Path, Uid, Reply, actor, Intent}
use Words.{abort_action, aborts_with, all_aborted, commit_action, commit_open, commit_top, commits_in, decide, decided_told, end_line}
use Words.{ended, ends_with, gaveup_lines, give_up, give_up_doing, gives_up, has, has_record, heard, heard_by, heard_call, heard_doing}
use Words.{heard_none, heard_now, last_req, mark_lines, moved_commit, next_node, nodes_given_up, open_below, participants, plan_for}
use Words.{plan_of, record_work, root_at, root_of, say_for, says, step_call, step_commit, tell, tell_all, tolds_of, tolds_by}
use Words.{tolds_of_branch, branch_of, branch_named, on_branch, waits_for_call, waits_for_commit, CallEnd, CallStep, Answered, Included}
use Words.{Conflict, Changed, Lost, Ended, Goal, On, Run, Steps, Aborts, Asks, CommitStep, Decides, Marked, Plan, Stays, Calling}
use Words.{Committing, Idle, Now, Coord, Doing, doing_of, Branch, Did, Do, Effect, Work, PutIntent, Say, Send, Served, Input, acts}
use Words.{give_up_call}
use Words.{call, include}
use Words.body
use Words.calls
use Words.cause
use Words.commit
use Words.ending
use Words.input
use Words.kind
use Rattle.arj_law_parts.specs.moves.Keeps.{is_act}
use Rattle.arj_law_runs.proofs.Terms.{all_both, all_flat, all_map}
use Rattle.arj_law_cause.proofs.waits.commits.Serving.{AreStill, IsQuiet, asks_still, is_of_part, quiet_plain, still_both}

-- no action commits by the line
abbrev pub goes : Body → Bool
goes (body.Committed l) = false
goes b = true

-- nor by these effects
abbrev pub Goes : List Effect → Type 0
Goes outs = AreStill (IsQuiet goes) outs

-- a record is written, and nothing else is done on a disk
abbrev pub IsRecord : Work → Type 0
IsRecord (PutIntent u i) = ⊤
IsRecord w = ⊥

-- in front of the line: others, and the record
abbrev pub IsFront : Effect → Type 0
IsFront (Say b) = goes b ≡ true
IsFront (Do w) = IsRecord w
IsFront (Send to m) = ⊥

abbrev pub AreFront : List Effect → Type 0
AreFront outs = AllByRecursion IsFront outs

-- behind it only messages go
abbrev pub IsSend : Effect → Type 0
IsSend (Say b) = ⊥
IsSend (Do w) = ⊥
IsSend (Send to m) = ⊤

abbrev pub AreSends : List Effect → Type 0
AreSends outs = AllByRecursion IsSend outs

-- No action commits by these effects, or one does, so.
pub data Shaped (outs : List Effect) : Type 0 where
  Rests : Goes outs → Shaped outs
  Commits : (front behind : List Effect) (l : Label) → AreFront front → AreSends behind → outs ≡ front ++ Say (body.Committed l) ∷ behind →
      Shaped outs

pub parts_go : (b : Body) → is_of_part b ≡ true → goes b ≡ true
parts_go (body.Committed l) is = absurd (cc is)
parts_go b is = refl

both : (es fs : List Effect) → Goes es → Goes fs → Goes (es ++ fs)
both es fs a b = still_both (IsQuiet goes) es fs a b

front_goes : (es : List Effect) → AreFront es → Goes es
front_goes [] all = tt
front_goes (Say b ∷ es) all = (all.0, front_goes es all.1)
front_goes (Do w ∷ es) all = (tt, front_goes es all.1)
front_goes (Send to m ∷ es) all = absurd all.0

sends_go : (es : List Effect) → AreSends es → Goes es
sends_go [] all = tt
sends_go (Send to m ∷ es) all = (tt, sends_go es all.1)
sends_go (Say b ∷ es) all = absurd all.0
sends_go (Do w ∷ es) all = absurd all.0

-- ---- lines

says_front : (u : Uid) (f : Label → Body) (c : Coord) → ((l : Label) → goes (f l) ≡ true) → AreFront (says u f c)
says_front u f c its = by (doing_of u c)
  where
    by : (o : Option Doing) → AreFront (say_for f o)
    by None = tt
    by (Some d) = (its d.label, tt)

says_go : (u : Uid) (f : Label → Body) (c : Coord) → ((l : Label) → goes (f l) ≡ true) → Goes (says u f c)
says_go u f c its = front_goes (says u f c) (says_front u f c its)

tells_sent : (root : Uid) (ack : Bool) (ends : List (Uid × End)) (ns : List ℕ) → AreSends (tell_all root ack ends ns)
tells_sent root ack ends ns = all_map IsSend (tell root ack ends) ns (λ n. tt)

tolds_sent : (intents : List (Uid × Intent)) (c : Coord) (u : Uid) → AreSends (tolds_of intents c u)
tolds_sent intents c u = by (branch_of u c.tree)
  where
    kinds : (k : Kind) (p : Path) → AreSends (tolds_by u k p intents c)
    kinds kind.Nested p = tells_sent _ false _ _
    kinds kind.Serial p = tells_sent _ false _ _
    kinds kind.Top p = tells_sent _ false _ _
    kinds kind.Independent p = tells_sent _ false _ _
    kinds kind.Constituent p = tells_sent _ false _ _

    by : (o : Option Branch) → AreSends (tolds_of_branch u intents c o)
    by None = tt
    by (Some b) = kinds b.kind b.path

tolds_go : (intents : List (Uid × Intent)) (c : Coord) (u : Uid) → Goes (tolds_of intents c u)
tolds_go intents c u = sends_go (tolds_of intents c u) (tolds_sent intents c u)

marks_front : (u : Uid) (marks : List (ℕ × ℕ)) (c : Coord) → AreFront (mark_lines u marks c)
marks_front u marks c = all_flat IsFront (λ (m : ℕ × ℕ). says u (λ l. body.Excluded l m.0 m.1) c) marks
    (λ m. says_front u (λ l. body.Excluded l m.0 m.1) c (λ l. refl))

gaveup_front : (u : Uid) (ns : List ℕ) (c : Coord) → AreFront (gaveup_lines u ns c)
gaveup_front u ns c = all_flat IsFront (λ n. says u (λ l. body.GaveUp l n) c) ns (λ n. says_front u (λ l. body.GaveUp l n) c (λ l. refl))

all_go : (us : List Uid) (c : Coord) → Goes (all_aborted us c).outs
all_go [] c = tt
all_go (u ∷ us) c = both (says u (λ l. body.Aborted l cause.Asked) c) (all_aborted us (ended u ending.Abort c)).outs
    (says_go u (λ l. body.Aborted l cause.Asked) c (λ l. refl)) (all_go us (ended u ending.Abort c))

line_goes : (x : ℕ) (g : Goal) (e : CallEnd) (l : Label) → goes (end_line x g e l) ≡ true
line_goes x (Run o) (Answered a) l = refl
line_goes x (calls.Include s) (Answered a) l = refl
line_goes x g (Included s) l = refl
line_goes x g (Conflict h m n) l = refl
line_goes x g (Changed n w) l = refl
line_goes x g (Lost n sent) l = refl

call_goes : (s : Steps) (n : CallStep) (c : Coord) → Goes (step_call s n c).outs
call_goes s (On at) c = (tt, tt)
call_goes s (Ended e) c = says_go (actor s.path) (end_line s.x s.goal e) c (line_goes s.x s.goal e)

-- ---- an end

-- behind other lines
behind_front : (front outs : List Effect) → AreFront front → Shaped outs → Shaped (front ++ outs)
behind_front front outs lined (Rests all) = Rests (both front outs (front_goes front lined) all)
behind_front front outs lined (Commits more behind l all sends are) =
    Commits (front ++ more) behind l (all_both IsFront front more lined all) sends
    (ap (λ es. front ++ es) are ∙ sym (append_assoc front more (Say (body.Committed l) ∷ behind)))

-- an action commits, and then messages go
commits_shape : (u : Uid) (c : Coord) (front behind : List Effect) → AreFront front → AreSends behind →
    Shaped (front ++ says u body.Committed c ++ behind)
commits_shape u c front behind lined sends = by (doing_of u c)
  where
    by : (o : Option Doing) → Shaped (front ++ say_for body.Committed o ++ behind)
    by None = Rests (both (front ++ []) behind (both front [] (front_goes front lined) tt) (sends_go behind sends))
    by (Some d) = Commits front behind d.label lined sends (append_assoc front (Say (body.Committed d.label) ∷ []) behind)

decide_shape : (p : Plan) (c : Coord) → Shaped (decide p c).outs
decide_shape p c = commits_shape (actor p.path) c (record_work (actor p.path) p) (map told p.sent) (work (has_record p))
    (all_map IsSend told p.sent (λ n. each n (has (participants p) n)))
  where
    told : ℕ → Effect
    told = decided_told (root_of p.path) (actor p.path) p

    work : (b : Bool) →
        AreFront (cond b (Do (PutIntent (actor p.path) (record { root = root_of p.path; nodes = participants p })) ∷ []) [])
    work true = (tt, tt)
    work false = tt

    each : (n : ℕ) (b : Bool) → IsSend (cond b (tell (root_of p.path) (has_record p) ((actor p.path, ending.Commit) ∷ []) n)
        (tell (root_of p.path) false ((actor p.path, ending.Abort) ∷ []) n))
    each n true = tt
    each n false = tt

ends_go : (u : Uid) (e : End) (f : Label → Body) (intents : List (Uid × Intent)) (c : Coord) → ((l : Label) → goes (f l) ≡ true) →
    Shaped (ends_with u e f intents c).outs
ends_go u e f intents c its =
    Rests (both (says u f c) (tolds_of intents (ended u e c) u) (says_go u f c its) (tolds_go intents (ended u e c) u))

-- ---- the steps of a commit

step_shape : (u : Uid) (s : CommitStep) (intents : List (Uid × Intent)) (c : Coord) → Shaped (step_commit u s intents c).outs
step_shape u (Stays m) intents c = Rests tt
step_shape u (Asks m) intents c = Rests (asks_still (IsQuiet goes) (quiet_plain goes parts_go) (plan_of m).path (plan_of m).req
    (commit.waiting m) (commits_in u m c))
step_shape u (Decides p) intents c = decide_shape p c
step_shape u (Aborts why p) intents c = ends_go u ending.Abort (λ l. body.Aborted l why) intents c (λ l. refl)

moved_shape : (u : Uid) (m : Marked) (intents : List (Uid × Intent)) (c : Coord) → Shaped (moved_commit u m intents c).outs
moved_shape u m intents c =
    behind_front (mark_lines u m.marks c) (step_commit u m.step intents c).outs (marks_front u m.marks c) (step_shape u m.step intents c)

-- ---- a coordinator

-- as it takes an answer
pub heard_shape : (from : ℕ) (a : Asked) (r : Reply) (intents : List (Uid × Intent)) (c : Coord) → Shaped (heard from a r intents c).outs
heard_shape from a r intents c = by (doing_of a.act c)
  where
    now : (n : Now) → Shaped (heard_now from a r intents c n).outs
    now Idle = Rests tt
    now (Calling s) = one (waits_for_call from a r s)
      where
        one : (w : Bool) → Shaped (cond {A = Served Coord (Unit {0})} w (heard_by (heard_call s r c)) (heard_none c)).outs
        one true = Rests (call_goes s _ _)
        one false = Rests tt
    now (Committing m) = one (waits_for_commit from a r m)
      where
        one : (w : Bool) → Shaped (cond {A = Served Coord (Unit {0})} w
            (heard_by (moved_commit a.act (commit.answered from m r) intents c)) (heard_none c)).outs
        one true = moved_shape a.act (commit.answered from m r) intents c
        one false = Rests tt

    by : (o : Option Doing) → Shaped (heard_doing from a r intents c o).outs
    by None = Rests tt
    by (Some d) = now d.now

give_shape : (u : Uid) (intents : List (Uid × Intent)) (c : Coord) → Shaped (give_up u intents c).outs
give_shape u intents c = by (doing_of u c)
  where
    now : (n : Now) → Shaped (gives_up u intents c n).outs
    now Idle = Rests tt
    now (Calling s) = Rests (both (gaveup_lines u (next_node s ∷ []) c) (give_up_call s c).outs
        (front_goes (gaveup_lines u (next_node s ∷ []) c) (gaveup_front u (next_node s ∷ []) c)) (call_goes s _ _))
    now (Committing m) = behind_front (gaveup_lines u (nodes_given_up m) c) (moved_commit u (commit.given_up m) intents c).outs
        (gaveup_front u (nodes_given_up m) c) (moved_shape u (commit.given_up m) intents c)

    by : (o : Option Doing) → Shaped (give_up_doing u intents c o).outs
    by None = Rests tt
    by (Some d) = now d.now

abort_goes : (u : Uid) (intents : List (Uid × Intent)) (c : Coord) → Goes (abort_action u intents c).outs
abort_goes u intents c =
    let us = open_below u c.tree ++ u ∷ [] in
    let t = all_aborted us c in
    both t.outs (flat_map (tolds_of intents t.part) us) (all_go us c)
    (all_flat (IsQuiet goes) (tolds_of intents t.part) us (λ w. tolds_go intents t.part w))

commit_shape : (b : Branch) (intents : List (Uid × Intent)) (c : Coord) → Shaped (commit_action b intents c).outs
commit_shape b intents c = doomed b.doomed
  where
    u : Uid
    u = actor b.path

    plan : Plan
    plan = plan_for b.path (last_req (doing_of u c)) (root_at (root_of b.path) c) c

    top : Shaped (commit_top b.path intents c).outs
    top = behind_front (says u body.Committing c) (moved_commit u (commit.start plan) intents c).outs
        (says_front u body.Committing c (λ l. refl)) (moved_shape u (commit.start plan) intents c)

    kinds : (q : Kind) → Shaped (commit_open b intents c q).outs
    kinds kind.Nested = commits_shape u c [] (tolds_of intents (ended u ending.Commit c) u) tt
        (tolds_sent intents (ended u ending.Commit c) u)
    kinds kind.Serial = ends_go u ending.Commit body.Ended intents c (λ l. refl)
    kinds kind.Top = top
    kinds kind.Independent = top
    kinds kind.Constituent = top

    doomed : (w : Bool) → Shaped (cond {A = Did Coord} w (aborts_with u cause.Doomed intents c) (commit_open b intents c b.kind)).outs
    doomed true = ends_go u ending.Abort (λ l. body.Aborted l cause.Doomed) intents c (λ l. refl)
    doomed false = kinds b.kind

-- as something is asked of it
pub acts_shape : (i : Input) (intents : List (Uid × Intent)) (c : Coord) → is_act i ≡ true → Shaped (acts i intents c).outs
acts_shape (input.Call l x o) intents c is = by (branch_named l c)
  where
    by : (f : Option Branch) → Shaped (on_branch (λ b. call b.path x o c) c f).outs
    by None = Rests tt
    by (Some b) = Rests (tt, tt)
acts_shape (input.Include l x n) intents c is = by (branch_named l c)
  where
    by : (f : Option Branch) → Shaped (on_branch (λ b. include b.path x n c) c f).outs
    by None = Rests tt
    by (Some b) = Rests (tt, tt)
acts_shape (input.Commit l) intents c is = by (branch_named l c)
  where
    by : (f : Option Branch) → Shaped (on_branch (λ b. commit_action b intents c) c f).outs
    by None = Rests tt
    by (Some b) = commit_shape b intents c
acts_shape (input.Abort l) intents c is = by (branch_named l c)
  where
    by : (f : Option Branch) → Shaped (on_branch (λ b. abort_action (actor b.path) intents c) c f).outs
    by None = Rests tt
    by (Some b) = Rests (abort_goes (actor b.path) intents c)
acts_shape (input.GiveUp l) intents c is = by (branch_named l c)
  where
    by : (f : Option Branch) → Shaped (on_branch (λ b. give_up (actor b.path) intents c) c f).outs
    by None = Rests tt
    by (Some b) = give_shape (actor b.path) intents c
acts_shape i intents c is = absurd (cc is)
