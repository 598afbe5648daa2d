-- Records, and what a coordinator tells again, are of tops.
use Rattle.arj_law_parts.proofs.Words
use Words.{◌≡◌, ◌≢◌, ◌+◌, ℕ, List, [], ◌∷◌, ◌++◌, Bool, true, false, cond, Option, Some, None, refl, sym, ◌∙◌, ap, subst, is_some, is_eq}
use Words.{match_ordering, Ordering, Less, Equal, Greater, uid_order, Uid, End, Kind, Path, Asked, Ask, Header, Reply, actor, asks_all}
use Words.{asks_node, goes_on, call, call_steps, renewed, next_req, include, doomed_by, root_heard, step_call, root_moved, kept_at}
use Words.{heard_call, commits_in, step_commit, moved_commit, commit_top, commit_open, commit_action, last_req, heard_now, heard_doing}
use Words.{heard, heard_by, heard_none, waits_for_call, waits_for_commit, root_lost, gives_up, give_up_doing, give_up, again_now, again_all}
use Words.{Steps, CallStep, On, Ended, CallEnd, Answered, Included, Conflict, Changed, Lost, Moved, answered, given_up, start, Plan}
use Words.{CommitStep, Stays, Asks, Decides, Aborts, plan_of, servers_of, participants, has_record, Coord, Doing, Now, Idle, Calling}
use Words.{Committing, doing_of, on_doing, change_doing, on_root, root_at, plan_for, keeping_of, with_keeping, is_free, Did, Served, Intent}
use Words.{Disk, Work, Look, PutInc, Prepare, Commit, Abort, PutIntent, RemoveIntent, Stop, Before, After, InPart, worked, stopped, ended}
use Words.{aborts_with, all_aborted, abort_action, decide, acked, acked_by, acked_left, root_after, at_uid, put_uid, without_uid, has}
use Words.{without_number, unbound, Input, acts, branch_named, on_branch, refusal_up, refused_by, commit_reasons, Branch, branch_of}
use Words.{root_of, open_below, uses_object, ended_at, has_open_child}
use Words.ending
use Words.kind
use Words.cause
use Words.role
use Words.calls
use Words.commit
use Words.input
use Rattle.arj_law_parts.proofs.Terms.{Action, AreBegun, IsVoting, IsBusy, IsGoodCoord, Paths, IsTree, IsTopAction, AreOfTops, FitsWork}
use Rattle.arj_law_parts.proofs.parts
use parts.{Sends.top_begun, Sends.of_top}
use parts.CoordInputs.{named_found, off, off_third}
use parts.GoodCoords.{actor_is, answer_step, giveup_step, vote_step, IsStepOf, voting_at}

-- ---- maps

module _ (acts_all : List Action) where
  put_top : (u : Uid) (i : Intent) (m : List (Uid × Intent)) → IsTopAction acts_all u → AreOfTops acts_all m →
      AreOfTops acts_all (put_uid u i m)
  put_top u i [] its all = (its, tt)
  put_top u i (e ∷ es) its all = by (uid_order u e.0) (put_top u i es its all.1)
    where
      by : (r : Ordering) → AreOfTops acts_all (put_uid u i es) →
          AreOfTops acts_all (match_ordering r ((u, i) ∷ e ∷ es) ((e.0, i) ∷ es) (e ∷ put_uid u i es))
      by Less ih = (its, all)
      by Equal ih = (all.0, all.1)
      by Greater ih = (all.0, ih)

  without_top : (u : Uid) (m : List (Uid × Intent)) → AreOfTops acts_all m → AreOfTops acts_all (without_uid u m)
  without_top u [] all = tt
  without_top u (e ∷ es) all = by (uid_order u e.0) (without_top u es all.1)
    where
      by : (r : Ordering) → AreOfTops acts_all (without_uid u es) → AreOfTops acts_all (cond (is_eq r) es (e ∷ without_uid u es))
      by Less ih = (all.0, ih)
      by Equal ih = all.1
      by Greater ih = (all.0, ih)

  -- ---- work, done or stopped

  pub worked_tops : (w : Work) (d : Disk) → FitsWork acts_all w → AreOfTops acts_all d.intents →
      AreOfTops acts_all (let e = worked w d in e.intents)
  worked_tops Look d fits tops = tops
  worked_tops (PutInc i) d fits tops = tops
  worked_tops (Prepare role.Store u states) d fits tops = tops
  worked_tops (Prepare role.Names u states) d fits tops = tops
  worked_tops (Commit role.Store u) d fits tops = tops
  worked_tops (Commit role.Names u) d fits tops = tops
  worked_tops (Abort role.Store u) d fits tops = tops
  worked_tops (Abort role.Names u) d fits tops = tops
  worked_tops (PutIntent u i) d fits tops = put_top u i d.intents fits tops
  worked_tops (RemoveIntent u) d fits tops = without_top u d.intents tops

  pub stopped_tops : (how : Stop) (w : Work) (d : Disk) → FitsWork acts_all w → AreOfTops acts_all d.intents →
      AreOfTops acts_all (let e = stopped how w d in e.intents)
  stopped_tops Before w d fits tops = tops
  stopped_tops After w d fits tops = worked_tops w d fits tops
  stopped_tops (InPart which) Look d fits tops = tops
  stopped_tops (InPart which) (PutInc i) d fits tops = tops
  stopped_tops (InPart which) (Prepare r u states) d fits tops = tops
  stopped_tops (InPart which) (Commit role.Store u) d fits tops = tops
  stopped_tops (InPart which) (Commit role.Names u) d fits tops = tops
  stopped_tops (InPart which) (Abort r u) d fits tops = tops
  stopped_tops (InPart which) (PutIntent u i) d fits tops = tops
  stopped_tops (InPart which) (RemoveIntent u) d fits tops = tops

-- ---- what stays as it was

pub doing_telling : (u : Uid) (f : Doing → Doing) (c : Coord) → (on_doing u f c).telling ≡ c.telling
doing_telling u f c = by (doing_of u c)
  where
    by : (o : Option Doing) → (change_doing f u c o).telling ≡ c.telling
    by None = refl
    by (Some d) = refl

pub goes_telling : (s : Steps) (c : Coord) → (let d = goes_on s c in let e = d.part in e.telling) ≡ c.telling
goes_telling s c = doing_telling (actor s.path) (λ (d : Doing). record d { req = s.req; now = Calling s }) c

pub step_telling : (s : Steps) (t : CallStep) (c : Coord) → (let d = step_call s t c in let e = d.part in e.telling) ≡ c.telling
step_telling s (On at) c = goes_telling (record s { req = s.req + 1; at = at }) c
step_telling s (Ended e) c = by e
  where
    idle : Coord
    idle = on_root (root_of s.path) (root_heard s e) (on_doing (actor s.path) (λ (d : Doing). record d { now = Idle }) c)

    same : idle.telling ≡ c.telling
    same = doing_telling (actor s.path) (λ (d : Doing). record d { now = Idle }) c

    by : (f : CallEnd) → (let d = doomed_by (actor s.path) f idle in d.telling) ≡ c.telling
    by (Answered a) = same
    by (Included st) = same
    by (Conflict h m n) = same
    by (Changed n w) = same
    by (Lost n false) = same
    by (Lost n true) = same

pub asks_telling : (p : Path) (req : ℕ) (as_asked : List (ℕ × Ask)) (c : Coord) →
    (let d = asks_all p req as_asked c in let e = d.part in e.telling) ≡ c.telling
asks_telling p req [] c = refl
asks_telling p req (a ∷ rest) c = asks_telling p req rest (asks_node p req a c).part

pub ended_telling : (u : Uid) (c : Coord) → (e : End) → (ended u e c).telling ≡ c.telling
ended_telling u c e = doing_telling u (λ (d : Doing). record d { now = Idle }) (record c { tree = ended_at u e c.tree })

pub aborted_telling : (us : List Uid) (c : Coord) → (let d = all_aborted us c in let e = d.part in e.telling) ≡ c.telling
aborted_telling [] c = refl
aborted_telling (u ∷ us) c = aborted_telling us (ended u ending.Abort c) ∙ ended_telling u c ending.Abort

module _ (actions : List Action) (begun : AreBegun actions) (paths : Paths) (tree : IsTree paths) where
  abbrev Good : Coord → Type 0
  Good c = IsGoodCoord actions paths c

  abbrev Tops : Coord → Type 0
  Tops c = AreOfTops actions c.telling

  same_tops : (c e : Coord) → e.telling ≡ c.telling → Tops c → Tops e
  same_tops c e is tops = subst (AreOfTops actions) (sym is) tops

  tops_decide : (p : Plan) (c : Coord) → IsTopAction actions (actor p.path) → Tops c → Tops (decide p c).part
  tops_decide p c its tops = by (has_record p)
    where
      took : Coord
      took = on_doing (actor p.path) (λ (d : Doing). record d { took = participants p }) (ended (actor p.path) ending.Commit c)

      r : Coord
      r = on_root (root_of p.path) (root_after p) took

      now : AreOfTops actions r.telling
      now = subst (AreOfTops actions) (sym (doing_telling (actor p.path) (λ (d : Doing). record d { took = participants p })
          (ended (actor p.path) ending.Commit c) ∙ ended_telling (actor p.path) c ending.Commit)) tops

      by : (b : Bool) → Tops
          (cond b (record r { telling = put_uid (actor p.path) (record { root = root_of p.path; nodes = participants p }) r.telling }) r)
      by true = put_top actions (actor p.path) (record { root = root_of p.path; nodes = participants p }) r.telling its now
      by false = now

  tops_step_commit : (u : Uid) (p : Plan) (s : CommitStep) (intents : List (Uid × Intent)) (c : Coord) → IsVoting c.tree u p →
      IsStepOf actions paths tree p s → Good c → Tops c → Tops (step_commit u s intents c).part
  tops_step_commit u p (Stays m) intents c v same good tops =
      same_tops c (commits_in u m c) (doing_telling u (λ (d : Doing). record d { req = (plan_of m).req; now = Committing m }) c) tops
  tops_step_commit u p (Asks m) intents c v same good tops =
      same_tops c (step_commit u (Asks m) intents c).part (asks_telling (plan_of m).path (plan_of m).req (commit.waiting m)
      (commits_in u m c) ∙ doing_telling u (λ (d : Doing). record d { req = (plan_of m).req; now = Committing m }) c) tops
  tops_step_commit u p (Decides q) intents c v same good tops = tops_decide q c (subst (IsTopAction actions)
      (sym (ap actor same.0 ∙ actor_is actions paths tree u p.path c good v.asking)) (top_begun actions begun paths tree c u p good v)) tops
  tops_step_commit u p (Aborts why q) intents c v same good tops =
      same_tops c (ended u ending.Abort c) (ended_telling u c ending.Abort) tops

  pub tops_heard : (from : ℕ) (a : Asked) (r : Reply) (intents : List (Uid × Intent)) (c : Coord) → Good c → Tops c →
      Tops (heard from a r intents c).part
  tops_heard from a r intents c good tops = by (doing_of a.act c) refl
    where
      now : (n : Now) → IsBusy c.tree a.act n → Tops (heard_now from a r intents c n).part
      now Idle b = tops
      now (Calling s) b = one (waits_for_call from a r s)
        where
          m : Moved
          m = answered (is_free (root_of s.path) (actor s.path) s.x c) (kept_at s c) s.goal s.at r

          one : (w : Bool) → Tops (cond {A = Served Coord (Unit {0})} w (heard_by (heard_call s r c)) (heard_none c)).part
          one true = same_tops c (heard_call s r c).part (step_telling s m.step (on_root (root_of s.path) (root_moved s r m) c)) tops
          one false = tops
      now (Committing m) b = one (waits_for_commit from a r m)
        where
          one : (w : Bool) → Tops (cond {A = Served Coord (Unit {0})} w (heard_by (moved_commit a.act (commit.answered from m r) intents c))
              (heard_none c)).part
          one true = tops_step_commit a.act (plan_of m) (commit.answered from m r).step intents c b
              (answer_step actions paths tree from m r) good tops
          one false = tops

      by : (o : Option Doing) → doing_of a.act c ≡ o → Tops (heard_doing from a r intents c o).part
      by None is = tops
      by (Some d) is = now d.now (good.busy a.act d is)

  tops_give_up : (u : Uid) (intents : List (Uid × Intent)) (c : Coord) → Good c → Tops c → Tops (give_up u intents c).part
  tops_give_up u intents c good tops = by (doing_of u c) refl
    where
      now : (n : Now) → IsBusy c.tree u n → Tops (gives_up u intents c n).part
      now Idle b = tops
      now (Calling s) b = same_tops c (gives_up u intents c (Calling s)).part
          (step_telling s (given_up s.at) (on_root (root_of s.path) (root_lost s (given_up s.at)) c)) tops
      now (Committing m) b =
          tops_step_commit u (plan_of m) (commit.given_up m).step intents c b (giveup_step actions paths tree m) good tops

      by : (o : Option Doing) → doing_of u c ≡ o → Tops (give_up_doing u intents c o).part
      by None is = tops
      by (Some d) is = now d.now (good.busy u d is)

  tops_commit : (b : Branch) (intents : List (Uid × Intent)) (c : Coord) → branch_of (actor b.path) c.tree ≡ Some b →
      is_some b.ended ≡ false → has_open_child (actor b.path) c.tree ≡ false → Good c → Tops c → Tops (commit_action b intents c).part
  tops_commit b intents c found opened none good tops = by b.doomed
    where
      u : Uid
      u = actor b.path

      plan : Plan
      plan = plan_for b.path (last_req (doing_of u c)) (root_at (root_of b.path) c) c

      top : b.kind ≢ kind.Serial → b.kind ≢ kind.Nested → Tops (commit_top b.path intents c).part
      top unserial unnested = tops_step_commit u plan (commit.start plan).step intents c (voting_at actions paths tree b c found opened none
          unserial unnested good) (vote_step actions paths tree (servers_of plan) plan plan (refl, refl)) good tops

      kinds : (k : Kind) → b.kind ≡ k → Tops (commit_open b intents c k).part
      kinds kind.Nested is = same_tops c (ended u ending.Commit c) (ended_telling u c ending.Commit) tops
      kinds kind.Serial is = same_tops c (ended u ending.Commit c) (ended_telling u c ending.Commit) tops
      kinds kind.Top is =
          top (λ e. let no_way : kind.Top ≡ kind.Serial = sym is ∙ e in cc) (λ e. let no_way : kind.Top ≡ kind.Nested = sym is ∙ e in cc)
      kinds kind.Independent is = top (λ e. let no_way : kind.Independent ≡ kind.Serial = sym is ∙ e in
          cc) (λ e. let no_way : kind.Independent ≡ kind.Nested = sym is ∙ e in cc)
      kinds kind.Constituent is = top (λ e. let no_way : kind.Constituent ≡ kind.Serial = sym is ∙ e in
          cc) (λ e. let no_way : kind.Constituent ≡ kind.Nested = sym is ∙ e in cc)

      by : (d : Bool) → Tops (cond {A = Did Coord} d (aborts_with u cause.Doomed intents c) (commit_open b intents c b.kind)).part
      by true = same_tops c (ended u ending.Abort c) (ended_telling u c ending.Abort) tops
      by false = kinds b.kind refl

  pub tops_acts : (intents : List (Uid × Intent)) (c : Coord) → Good c → (hd : Header) (i : Input) → refusal_up hd i c ≡ None → Tops c →
      Tops (acts i intents c).part
  tops_acts intents c good hd (input.Begin l k parent) none tops = tops
  tops_acts intents c good hd (input.Call l x o) none tops = by (branch_named l c)
    where
      by : (f : Option Branch) → Tops (on_branch (λ b. call b.path x o c) c f).part
      by None = tops
      by (Some b) =
          let r = root_at (root_of b.path) c in
          let old = keeping_of x r in
          let k = renewed (is_free (root_of b.path) (actor b.path) x c) old old.kept in
          let t : Coord = on_root (root_of b.path) (with_keeping x k) (record c { tree = uses_object b.path x c.tree }) in
          same_tops c (call b.path x o c).part (goes_telling (call_steps b.path x o (next_req (actor b.path) c) r c k) t) tops
  tops_acts intents c good hd (input.Include l x s) none tops = by (branch_named l c)
    where
      by : (f : Option Branch) → Tops (on_branch (λ b. include b.path x s c) c f).part
      by None = tops
      by (Some b) = same_tops c (include b.path x s c).part (goes_telling (start b.path x (calls.Include s) None unbound
          (next_req (actor b.path) c)) (record c { tree = uses_object b.path x c.tree })) tops
  tops_acts intents c good hd (input.Commit l) none tops = by (branch_named l c) refl none
    where
      by : (f : Option Branch) → branch_named l c ≡ f → refused_by commit_reasons c f ≡ None →
          Tops (on_branch (λ b. commit_action b intents c) c f).part
      by None is e = tops
      by (Some b) is e =
          let r6 : is_some b.ended ≡ false = (off (commit_reasons b c) e).0 in
          let r9 : has_open_child (actor b.path) c.tree ≡ false = off_third (commit_reasons b c) e in
          tops_commit b intents c (named_found actions paths tree intents c good l b is) r6 r9 good tops
  tops_acts intents c good hd (input.Abort l) none tops = by (branch_named l c)
    where
      by : (f : Option Branch) → Tops (on_branch (λ b. abort_action (actor b.path) intents c) c f).part
      by None = tops
      by (Some b) = same_tops c (abort_action (actor b.path) intents c).part
          (aborted_telling (open_below (actor b.path) c.tree ++ actor b.path ∷ []) c) tops
  tops_acts intents c good hd (input.GiveUp l) none tops = by (branch_named l c)
    where
      by : (f : Option Branch) → Tops (on_branch (λ b. give_up (actor b.path) intents c) c f).part
      by None = tops
      by (Some b) = tops_give_up (actor b.path) intents c good tops
  tops_acts intents c good hd (input.Frame k from m) none tops = tops
  tops_acts intents c good hd input.Tick none tops = tops
  tops_acts intents c good hd input.Restart none tops = tops
  tops_acts intents c good hd input.Crash none tops = tops
  tops_acts intents c good hd (input.Show x) none tops = tops

  pub tops_acked : (from : ℕ) (u : Uid) (intents : List (Uid × Intent)) (c : Coord) → Tops c → Tops (acked from u intents c).part
  tops_acked from u intents c tops = by (at_uid u c.telling) refl
    where
      left : (i : Intent) → at_uid u c.telling ≡ Some i → (ns : List ℕ) → Tops (acked_left u i intents c ns).part
      left i is [] = without_top actions u c.telling tops
      left i is (n ∷ ns) =
          put_top actions u (record i { nodes = n ∷ ns }) c.telling (of_top actions begun paths tree u i c.telling tops is) tops

      by : (o : Option Intent) → at_uid u c.telling ≡ o → Tops (acked_by from u intents c o).part
      by None is = tops
      by (Some i) is = one (has i.nodes from)
        where
          one : (b : Bool) → Tops (cond {A = Served Coord (Unit {0})} b (acked_left u i intents c (without_number from i.nodes))
              (record { part = c; outs = []; reply = None })).part
          one true = left i is (without_number from i.nodes)
          one false = tops

  pub tops_again : (ds : List Doing) (c : Coord) → Tops c → Tops (again_all ds c).part
  tops_again [] c tops = tops
  tops_again (d ∷ ds) c tops = let t = again_now c d.now in tops_again ds t.part (same_tops c t.part (now d.now) tops)
    where
      now : (n : Now) → (let x = again_now c n in let e = x.part in e.telling) ≡ c.telling
      now Idle = refl
      now (Calling s) = refl
      now (Committing m) = asks_telling (plan_of m).path (plan_of m).req (commit.waiting m) c
