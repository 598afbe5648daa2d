-- What of a coordinator's tree ends and uses of objects leave as it is, all that it does but a beginning leaves, and but a giveup that dooms.
use Rattle.arj_law_parts.proofs.Words
use Words.{◌≡◌, ◌∙◌, ◌+◌, ◌==◌, ◌&&◌, ℕ, Bool, true, false, cond, List, [], ◌∷◌, ◌++◌, refl, sym, subst, Option, Some, None, Reply, actor, asks_all}
use Words.{asks_node, call, call_steps, commit_action, commit_open, commit_top, commits_in, doomed_by, ends_call, give_up, give_up_doing}
use Words.{gives_up, goes_on, heard, heard_by, heard_call, heard_doing, heard_none, heard_now, include, kept_at, moved_commit, next_req}
use Words.{renewed, root_heard, root_lost, root_moved, step_call, step_commit, waits_for_call, waits_for_commit, Answered, CallEnd}
use Words.{At, AtActivate, AtBind, AtInvoke, AtLoad, AtNote, BoundReply, Goal, Known, LoadedReply, Run, activated_by, bound_answer, bound_by, finds}
use Words.{is_invoke, live_known, load_from, loaded_answer, made_by, made_known, moves, named_again, or_lost, other_binding, same_binding, two_bindings}
use Words.{two_incs, with_inc, write_known, binding_eq, binding_less}
use Words.{CallStep, Changed, Conflict, Ended, Included, Lost, On, Steps, answered, given_up, start, Aborts, Asks, CommitStep, Decides}
use Words.{Plan, Stays, has_record, participants, plan_of, Calling, Committing, Coord, Doing, Idle, Now, doing_of, is_free, keeping_of}
use Words.{on_doing, on_root, root_at, with_keeping, Intent, Served, abort_action, aborts_with, all_aborted, decide, ended, root_after}
use Words.{put_uid, unbound, Input, acts, branch_named, on_branch, Branch, Tree, doomed_at, ended_at, open_below, root_of, uses_object}
use Words.{Asked, Ask, End, Kind, Label, Op, Path, Uid}
use Words.bound
use Words.calls
use Words.commit
use Words.invoked
use Words.loaded
use Words.recorded
use Words.input
use Words.cause
use Words.ending
use Words.kind
use Rattle.arj_law_runs.proofs.Terms.{on_tree}

-- ---- which calls doom their action

-- the step dooms its action as it ends
abbrev dooms : CallStep → Bool
dooms (Ended (Lost n sent)) = sent
dooms st = false

never_by : {b : Bool} → b ≡ false → b ≡ true → ⊥
never_by off is = let no_way : true ≡ false = sym is ∙ off in cc

module _ (free : Bool) where
  with_mild : (i : ℕ) (kept : Known) (at : At) (o : Option ℕ) → dooms (with_inc i kept at o).step ≡ false
  with_mild i kept at None = refl
  with_mild i kept at (Some first) = by (first == i)
    where
      by : (b : Bool) → dooms (cond b (moves (Some kept) at) (finds (Some kept) (Changed kept.server (two_incs first i)))).step ≡ false
      by true = refl
      by false = refl

  bound_mild : (k : Known) (at : At) (o : Option Known) → dooms (bound_by free k at o).step ≡ false
  bound_mild k at None = refl
  bound_mild k at (Some old) = by (binding_eq old.binding k.binding)
    where
      same : (o : Option ℕ) → dooms (same_binding old k at o).step ≡ false
      same None = refl
      same (Some i) = with_mild i (named_again old k) at old.inc

      other : (b : Bool) → dooms (cond b (moves (Some k) at) (finds (Some old) (Changed 1 (two_bindings old.binding k.binding)))).step ≡ false
      other true = refl
      other false = refl

      by : (b : Bool) → dooms (cond b (same_binding old k at k.inc) (other_binding free old k at)).step ≡ false
      by true = same k.inc
      by false = other (free && binding_less old.binding k.binding)

  named_mild : (kept : Option Known) (r : BoundReply) → dooms (bound_answer free kept r).step ≡ false
  named_mild kept (bound.Live b server i n stores) =
      bound_mild (live_known b server i n stores) (AtInvoke (live_known b server i n stores) i) kept
  named_mild kept (bound.Make b server n stores) = by (load_from (made_known b server n stores) stores)
    where
      by : (o : Option At) → dooms (made_by free (made_known b server n stores) kept o).step ≡ false
      by None = refl
      by (Some at) = bound_mild (made_known b server n stores) at kept
  named_mild kept (bound.Write n stores) = by (load_from (write_known n stores) stores)
    where
      by : (o : Option At) → dooms (or_lost kept o).step ≡ false
      by None = refl
      by (Some at) = refl
  named_mild kept (bound.Conflict holder m) = refl

  taken_mild : (k : Known) (i : ℕ) (kept : Option Known) → dooms (activated_by k i kept).step ≡ false
  taken_mild k i None = refl
  taken_mild k i (Some old) = by (binding_eq old.binding k.binding)
    where
      by : (b : Bool) → dooms (cond b (with_inc i old (AtNote k i) old.inc) (moves (Some old) (AtNote k i))).step ≡ false
      by true = with_mild i old (AtNote k i) old.inc
      by false = refl

  loaded_mild : (g : Goal) (kept : Option Known) (k : Known) (s : ℕ) (r : LoadedReply) → dooms (loaded_answer kept k s g r).step ≡ false
  loaded_mild (Run o) kept k s (loaded.State st) = refl
  loaded_mild (calls.Include n) kept k s (loaded.State st) = refl
  loaded_mild g kept k s (loaded.InDoubt holder) = refl

  -- no answer does
  answered_mild : (g : Goal) (kept : Option Known) (at : At) (r : Reply) → dooms (answered free kept g at r).step ≡ false
  answered_mild g kept (AtBind avoid) (Reply.Bound r) = named_mild kept r
  answered_mild g kept (AtLoad k s rest) (Reply.Loaded r) = loaded_mild g kept k s r
  answered_mild g kept (AtActivate k st) (Reply.Activated i) = taken_mild k i kept
  answered_mild g kept (AtNote k i) (Reply.Noted recorded.Yes) = refl
  answered_mild g kept (AtNote k i) (Reply.Noted (recorded.Changed w)) = refl
  answered_mild g kept (AtInvoke k i) (Reply.Invoked (invoked.Answered a)) = refl
  answered_mild g kept (AtInvoke k i) (Reply.Invoked (invoked.Conflict holder m)) = refl
  answered_mild g kept (AtInvoke k i) (Reply.Invoked (invoked.Changed w)) = refl
  answered_mild g kept at r = refl

-- a giveup does where the call waits for its operation
given_up_mild : (at : At) → dooms (given_up at) ≡ is_invoke at
given_up_mild (AtBind avoid) = refl
given_up_mild (AtLoad k s []) = refl
given_up_mild (AtLoad k s (t ∷ ts)) = refl
given_up_mild (AtActivate k st) = refl
given_up_mild (AtNote k i) = refl
given_up_mild (AtInvoke k i) = refl

module _ (P : Tree → Type 0) (ends : (u : Uid) (e : End) (t : Tree) → P t → P (ended_at u e t)) where
  -- the action may be doomed
  abbrev pub MayDoom : Uid → Type 0
  MayDoom u = (t : Tree) → P t → P (doomed_at u t)

  abbrev pub Of : Coord → Type 0
  Of c = P c.tree

  of_same : (c e : Coord) → e.tree ≡ c.tree → Of c → Of e
  of_same c e is its = subst P (sym is) its

  -- ---- calls

  of_goes : (s : Steps) (c : Coord) → Of c → Of (goes_on s c).part
  of_goes s c its = of_same c (on_doing (actor s.path) (λ (d : Doing). record d { req = s.req; now = Calling s }) c)
      (on_tree (actor s.path) (λ (d : Doing). record d { req = s.req; now = Calling s }) c) its

  of_ends_call : (s : Steps) (e : CallEnd) (c : Coord) → (dooms (Ended e) ≡ true → MayDoom (actor s.path)) → Of c → Of (ends_call s e c).part
  of_ends_call s e c may its = by e may
    where
      idle : Coord
      idle = on_root (root_of s.path) (root_heard s e) (on_doing (actor s.path) (λ (d : Doing). record d { now = Idle }) c)

      kept : Of idle
      kept = of_same c (on_doing (actor s.path) (λ (d : Doing). record d { now = Idle }) c)
          (on_tree (actor s.path) (λ (d : Doing). record d { now = Idle }) c) its

      by : (f : CallEnd) → (dooms (Ended f) ≡ true → MayDoom (actor s.path)) → Of (doomed_by (actor s.path) f idle)
      by (Answered a) can = kept
      by (Included st) can = kept
      by (Conflict h m n) can = kept
      by (Changed n w) can = kept
      by (Lost n false) can = kept
      by (Lost n true) can = can refl idle.tree kept

  of_step_call : (s : Steps) (t : CallStep) (c : Coord) → (dooms t ≡ true → MayDoom (actor s.path)) → Of c → Of (step_call s t c).part
  of_step_call s (On at) c may its = of_goes (record s { req = s.req + 1; at = at }) c its
  of_step_call s (Ended e) c may its = of_ends_call s e c may its

  of_heard_call : (s : Steps) (r : Reply) (c : Coord) → Of c → Of (heard_call s r c).part
  of_heard_call s r c its =
      let m = answered (is_free (root_of s.path) (actor s.path) s.x c) (kept_at s c) s.goal s.at r in
      of_step_call s m.step (on_root (root_of s.path) (root_moved s r m) c)
      (λ is. absurd (never_by (answered_mild (is_free (root_of s.path) (actor s.path) s.x c) s.goal (kept_at s c) s.at r) is)) its

  -- ---- ends and commits

  of_end : (u : Uid) (e : End) (c : Coord) → Of c → Of (ended u e c)
  of_end u e c its = of_same (record c { tree = ended_at u e c.tree }) (ended u e c)
      (on_tree u (λ (d : Doing). record d { now = Idle }) (record c { tree = ended_at u e c.tree })) (ends u e c.tree its)

  pub of_all : (us : List Uid) (c : Coord) → Of c → Of (all_aborted us c).part
  of_all [] c its = its
  of_all (u ∷ us) c its = of_all us (ended u ending.Abort c) (of_end u ending.Abort c its)

  of_decided : (p : Plan) (c : Coord) → Of c → Of (decide p c).part
  of_decided p c its = by (has_record p)
    where
      u : Uid
      u = actor p.path

      took : Coord
      took = on_doing u (λ (d : Doing). record d { took = participants p }) (ended u ending.Commit c)

      r : Coord
      r = on_root (root_of p.path) (root_after p) took

      kept : Of r
      kept = of_same (ended u ending.Commit c) took
          (on_tree u (λ (d : Doing). record d { took = participants p }) (ended u ending.Commit c)) (of_end u ending.Commit c its)

      by : (b : Bool) →
          Of (cond b (record r { telling = put_uid u (record { root = root_of p.path; nodes = participants p }) r.telling }) r)
      by true = kept
      by false = kept

  asks_tree : (p : Path) (req : ℕ) (asked : List (ℕ × Ask)) (c : Coord) →
      (let d = asks_all p req asked c in let e = d.part in e.tree) ≡ c.tree
  asks_tree p req [] c = refl
  asks_tree p req (a ∷ rest) c = let d = asks_node p req a c in asks_tree p req rest d.part

  of_step_commit : (u : Uid) (s : CommitStep) (intents : List (Uid × Intent)) (c : Coord) → Of c → Of (step_commit u s intents c).part
  of_step_commit u (Stays m) intents c its =
      of_same c (commits_in u m c) (on_tree u (λ (d : Doing). record d { req = (plan_of m).req; now = Committing m }) c) its
  of_step_commit u (Asks m) intents c its =
      of_same c (step_commit u (Asks m) intents c).part (asks_tree (plan_of m).path (plan_of m).req (commit.waiting m) (commits_in u m c)
      ∙ on_tree u (λ (d : Doing). record d { req = (plan_of m).req; now = Committing m }) c) its
  of_step_commit u (Decides q) intents c its = of_decided q c its
  of_step_commit u (Aborts why q) intents c its = of_end u ending.Abort c its

  pub of_commit : (b : Branch) (intents : List (Uid × Intent)) (c : Coord) → Of c → Of (commit_action b intents c).part
  of_commit b intents c its = by b.doomed
    where
      top : Of (commit_top b.path intents c).part
      top =
          let p = Words.plan_for b.path (Words.last_req (doing_of (actor b.path) c)) (root_at (root_of b.path) c) c in
          of_step_commit (actor b.path) (commit.start p).step intents c its

      kinds : (k : Kind) → Of (commit_open b intents c k).part
      kinds kind.Nested = of_end (actor b.path) ending.Commit c its
      kinds kind.Serial = of_end (actor b.path) ending.Commit c its
      kinds kind.Top = top
      kinds kind.Independent = top
      kinds kind.Constituent = top

      by : (x : Bool) → Of (cond x (aborts_with (actor b.path) cause.Doomed intents c) (commit_open b intents c b.kind)).part
      by true = of_end (actor b.path) ending.Abort c its
      by false = kinds b.kind

  -- ---- answers and giveups

  pub of_heard : (from : ℕ) (a : Asked) (r : Reply) (intents : List (Uid × Intent)) (c : Coord) → Of c → Of (heard from a r intents c).part
  of_heard from a r intents c its = by (doing_of a.act c)
    where
      now : (n : Now) → Of (heard_now from a r intents c n).part
      now Idle = its
      now (Calling s) = one (waits_for_call from a r s)
        where
          one : (w : Bool) → Of (cond {A = Served Coord (Unit {0})} w (heard_by (heard_call s r c)) (heard_none c)).part
          one true = of_heard_call s r c its
          one false = its
      now (Committing m) = one (waits_for_commit from a r m)
        where
          one : (w : Bool) → Of (cond {A = Served Coord (Unit {0})} w (heard_by (moved_commit a.act (commit.answered from m r) intents c))
              (heard_none c)).part
          one true = of_step_commit a.act (commit.answered from m r).step intents c its
          one false = its

      by : (o : Option Doing) → Of (heard_doing from a r intents c o).part
      by None = its
      by (Some d) = now d.now

  -- an action that gives up may be doomed where it waits for an operation
  abbrev pub MayGiveUp : Uid → Coord → Type 0
  MayGiveUp u c = (d : Doing) (s : Steps) → doing_of u c ≡ Some d → d.now ≡ Calling s → is_invoke s.at ≡ true → MayDoom (actor s.path)

  pub of_give_up : (u : Uid) (intents : List (Uid × Intent)) (c : Coord) → MayGiveUp u c → Of c → Of (give_up u intents c).part
  of_give_up u intents c may its = by (doing_of u c) refl
    where
      now : (d : Doing) → doing_of u c ≡ Some d → (n : Now) → d.now ≡ n → Of (gives_up u intents c n).part
      now d does Idle is = its
      now d does (Calling s) is = of_step_call s (given_up s.at) (on_root (root_of s.path) (root_lost s (given_up s.at)) c)
          (λ sent. may d s does is (sym (given_up_mild s.at) ∙ sent)) its
      now d does (Committing m) is = of_step_commit u (commit.given_up m).step intents c its

      by : (o : Option Doing) → doing_of u c ≡ o → Of (give_up_doing u intents c o).part
      by None none = its
      by (Some d) does = now d does d.now refl

  -- ---- inputs

  module _ (uses : (p : Path) (x : ℕ) (t : Tree) → P t → P (uses_object p x t)) (intents : List (Uid × Intent)) (c : Coord)
      (its : Of c) where
    of_call : (b : Branch) (x : ℕ) (o : Op) → Of (call b.path x o c).part
    of_call b x o =
        let p = b.path in
        let r = root_at (root_of p) c in
        let old = keeping_of x r in
        let k = renewed (is_free (root_of p) (actor p) x c) old old.kept in
        of_goes (call_steps p x o (next_req (actor p) c) r c k)
        (on_root (root_of p) (with_keeping x k) (record c { tree = uses_object p x c.tree })) (uses p x c.tree its)

    of_include : (b : Branch) (x s : ℕ) → Of (include b.path x s c).part
    of_include b x s = of_goes (start b.path x (calls.Include s) None unbound (next_req (actor b.path) c))
        (record c { tree = uses_object b.path x c.tree }) (uses b.path x c.tree its)

    pub of_acts : (i : Input) → ((l : Label) (k : Kind) (parent : Option Label) → i ≡ input.Begin l k parent → ⊥) →
        ((l : Label) (b : Branch) → i ≡ input.GiveUp l → branch_named l c ≡ Some b → MayGiveUp (actor b.path) c) → Of (acts i intents c).part
    of_acts (input.Begin l k parent) other may = absurd (other l k parent refl)
    of_acts (input.Call l x o) other may = by (branch_named l c)
      where
        by : (f : Option Branch) → Of (on_branch (λ b. call b.path x o c) c f).part
        by None = its
        by (Some b) = of_call b x o
    of_acts (input.Include l x s) other may = by (branch_named l c)
      where
        by : (f : Option Branch) → Of (on_branch (λ b. include b.path x s c) c f).part
        by None = its
        by (Some b) = of_include b x s
    of_acts (input.Commit l) other may = by (branch_named l c)
      where
        by : (f : Option Branch) → Of (on_branch (λ b. commit_action b intents c) c f).part
        by None = its
        by (Some b) = of_commit b intents c its
    of_acts (input.Abort l) other may = by (branch_named l c)
      where
        by : (f : Option Branch) → Of (on_branch (λ b. abort_action (actor b.path) intents c) c f).part
        by None = its
        by (Some b) = of_all (open_below (actor b.path) c.tree ++ actor b.path ∷ []) c its
    of_acts (input.GiveUp l) other may = by (branch_named l c) refl
      where
        by : (f : Option Branch) → branch_named l c ≡ f → Of (on_branch (λ b. give_up (actor b.path) intents c) c f).part
        by None named = its
        by (Some b) named = of_give_up (actor b.path) intents c (may l b refl named) its
    of_acts (input.Frame k from m) other may = its
    of_acts input.Tick other may = its
    of_acts input.Restart other may = its
    of_acts input.Crash other may = its
    of_acts (input.Show x) other may = its
