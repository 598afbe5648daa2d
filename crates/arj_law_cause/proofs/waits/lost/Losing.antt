-- Where a coordinator says that a call or an include was lost: in a giveup, of that action; no answer that names a store loses one.
use Rattle.arj_law_parts.proofs.Words
use Words.{◌≡◌, ◌∙◌, ◌==◌, ◌&&◌, ◌++◌, ℕ, Bool, true, false, cond, List, [], ◌∷◌, map, Option, Some, None, refl, sym, ap, subst, ⊤, not}
use Words.{flat_map, bytes_eq, bytes_eq-Decides, Asked, Body, BoundReply, Kind, Label, Path, Uid, End}
use Words.{LoadedReply, Reply, actor, Intent, name}
use Words.{abort_action, aborts_with, all_aborted, commit_action, commit_open, commit_top, commits_in, decide, decided_told, end_line, ended}
use Words.{ends_with, gaveup_lines, give_up, give_up_doing, gives_up, has, has_record, heard, heard_by, heard_call, heard_doing, heard_none}
use Words.{heard_now, last_req, mark_lines, moved_commit, next_node, nodes_given_up, open_below, participants, plan_for, plan_of, record_work}
use Words.{root_at, root_of, say_for, says, step_call, step_commit, tell, tolds_of, tolds_by, tolds_of_branch, branch_of}
use Words.{waits_for_call, waits_for_commit, CallEnd, CallStep, Answered, Included, Conflict, Changed, Lost, Ended, Goal, On, Run}
use Words.{Steps, Aborts, Asks, CommitStep, Decides, Marked, Plan, Stays, Calling, Committing, Idle, Now, Coord, Doing, doing_of}
use Words.{Branch, Did, Do, Effect, PutIntent, Served, give_up_call, given_up, kept_at, is_free, on_root, root_lost}
use Words.{At, AtActivate, AtBind, AtInvoke, AtLoad, AtNote, Known, activated_by, answered, binding_eq, binding_less, bound_answer, bound_by}
use Words.{finds, live_known, load_from, loaded_answer, made_by, made_known, moves, named_again, or_lost, other_binding, same_binding}
use Words.{two_bindings, two_incs, with_inc, write_known}
use Words.body
use Words.bound
use Words.calls
use Words.cause
use Words.commit
use Words.ending
use Words.invoked
use Words.kind
use Words.loaded
use Words.recorded
use Rattle.arj_law_runs.proofs.Terms.{all_flat, all_map}
use Rattle.arj_law_cause.proofs.waits.commits.Serving.{AreStill, IsQuiet, asks_still, is_of_part, quiet_plain, still_both, tells_still}
use Rattle.arj_law_cause.proofs.waits.lost.Bound.{BoundFull, ReplyFull}
use Rattle.arj_law_cause.proofs.waits.lost.Stored.{IsFull}
use Rattle.arj_law_cause.specs.waits.lost.Lost.{is_lost}

-- ---- by what calls end

-- a call or an include doesn't end as lost
abbrev pub KeepsIt : CallStep → Type 0
KeepsIt (Ended (Lost n sent)) = ⊥
KeepsIt s = ⊤

with_keeps : (i : ℕ) (kept : Known) (at : At) (o : Option ℕ) → KeepsIt (with_inc i kept at o).step
with_keeps i kept at None = tt
with_keeps i kept at (Some first) = by (first == i)
  where
    by : (b : Bool) → KeepsIt (cond b (moves (Some kept) at) (finds (Some kept) (Changed kept.server (two_incs first i)))).step
    by true = tt
    by false = tt

bound_keeps : (free : Bool) (k : Known) (at : At) (o : Option Known) → KeepsIt (bound_by free k at o).step
bound_keeps free k at None = tt
bound_keeps free k at (Some old) = by (binding_eq old.binding k.binding)
  where
    same : (o : Option ℕ) → KeepsIt (same_binding old k at o).step
    same None = tt
    same (Some i) = with_keeps i (named_again old k) at old.inc

    other : (b : Bool) →
        KeepsIt (cond b (moves (Some k) at) (finds (Some old) (Changed 1 (two_bindings old.binding k.binding)))).step
    other true = tt
    other false = tt

    by : (b : Bool) → KeepsIt (cond b (same_binding old k at k.inc) (other_binding free old k at)).step
    by true = same k.inc
    by false = other (free && binding_less old.binding k.binding)

named_keeps : (free : Bool) (kept : Option Known) (r : BoundReply) → BoundFull r → KeepsIt (bound_answer free kept r).step
named_keeps free kept (bound.Live b server i n stores) full =
    bound_keeps free (live_known b server i n stores) (AtInvoke (live_known b server i n stores) i) kept
named_keeps free kept (bound.Make b server n stores) full = by stores full
  where
    by : (ss : List ℕ) → IsFull ss →
        KeepsIt (made_by free (made_known b server n stores) kept (load_from (made_known b server n stores) ss)).step
    by [] none = absurd none
    by (s ∷ ss) some = bound_keeps free (made_known b server n stores) (AtLoad (made_known b server n stores) s ss) kept
named_keeps free kept (bound.Write n stores) full = by stores full
  where
    by : (ss : List ℕ) → IsFull ss → KeepsIt (or_lost kept (load_from (write_known n stores) ss)).step
    by [] none = absurd none
    by (s ∷ ss) some = tt
named_keeps free kept (bound.Conflict holder m) full = tt

taken_keeps : (k : Known) (i : ℕ) (kept : Option Known) → KeepsIt (activated_by k i kept).step
taken_keeps k i None = tt
taken_keeps k i (Some old) = by (binding_eq old.binding k.binding)
  where
    by : (b : Bool) → KeepsIt (cond b (with_inc i old (AtNote k i) old.inc) (moves (Some old) (AtNote k i))).step
    by true = with_keeps i old (AtNote k i) old.inc
    by false = tt

loaded_keeps : (g : Goal) (kept : Option Known) (k : Known) (s : ℕ) (r : LoadedReply) → KeepsIt (loaded_answer kept k s g r).step
loaded_keeps (Run o) kept k s (loaded.State st) = tt
loaded_keeps (calls.Include n) kept k s (loaded.State st) = tt
loaded_keeps g kept k s (loaded.InDoubt holder) = tt

-- who is answered loses nothing
answered_keeps : (g : Goal) (free : Bool) (kept : Option Known) (at : At) (r : Reply) → ReplyFull r → KeepsIt (answered free kept g at r).step
answered_keeps g free kept (AtBind avoid) (Reply.Bound r) full = named_keeps free kept r full
answered_keeps g free kept (AtLoad k s rest) (Reply.Loaded r) full = loaded_keeps g kept k s r
answered_keeps g free kept (AtActivate k st) (Reply.Activated i) full = taken_keeps k i kept
answered_keeps g free kept (AtNote k i) (Reply.Noted recorded.Yes) full = tt
answered_keeps g free kept (AtNote k i) (Reply.Noted (recorded.Changed w)) full = tt
answered_keeps g free kept (AtInvoke k i) (Reply.Invoked (invoked.Answered a)) full = tt
answered_keeps g free kept (AtInvoke k i) (Reply.Invoked (invoked.Conflict holder m)) full = tt
answered_keeps g free kept (AtInvoke k i) (Reply.Invoked (invoked.Changed w)) full = tt
answered_keeps g free kept at r full = tt

-- ---- lines

part_keeps : (b : Body) → is_of_part b ≡ true → is_lost b ≡ false
part_keeps (body.Lost l n) is = absurd (cc is)
part_keeps b is = refl

-- each line that says nothing lost is quiet
module _ (quiet : Body → Bool) (other : (b : Body) → is_lost b ≡ false → quiet b ≡ true) where
  pub parts_quiet : (b : Body) → is_of_part b ≡ true → quiet b ≡ true
  parts_quiet b is = other b (part_keeps b is)

  abbrev Still : List Effect → Type 0
  Still outs = AreStill (IsQuiet quiet) outs

  both : (es fs : List Effect) → Still es → Still fs → Still (es ++ fs)
  both es fs a b = still_both (IsQuiet quiet) es fs a b

  says_still : (u : Uid) (f : Label → Body) (c : Coord) → ((l : Label) → quiet (f l) ≡ true) → Still (says u f c)
  says_still u f c its = by (doing_of u c)
    where
      by : (o : Option Doing) → Still (say_for f o)
      by None = tt
      by (Some d) = (its d.label, tt)

  tolds_still : (intents : List (Uid × Intent)) (c : Coord) (u : Uid) → Still (tolds_of intents c u)
  tolds_still intents c u = by (branch_of u c.tree)
    where
      kinds : (k : Kind) (p : Path) → Still (tolds_by u k p intents c)
      kinds kind.Nested p = tells_still (IsQuiet quiet) (quiet_plain quiet parts_quiet) _ false _ _
      kinds kind.Serial p = tells_still (IsQuiet quiet) (quiet_plain quiet parts_quiet) _ false _ _
      kinds kind.Top p = tells_still (IsQuiet quiet) (quiet_plain quiet parts_quiet) _ false _ _
      kinds kind.Independent p = tells_still (IsQuiet quiet) (quiet_plain quiet parts_quiet) _ false _ _
      kinds kind.Constituent p = tells_still (IsQuiet quiet) (quiet_plain quiet parts_quiet) _ false _ _

      by : (o : Option Branch) → Still (tolds_of_branch u intents c o)
      by None = tt
      by (Some b) = kinds b.kind b.path

  marks_still : (u : Uid) (marks : List (ℕ × ℕ)) (c : Coord) → Still (mark_lines u marks c)
  marks_still u marks c = all_flat (IsQuiet quiet) (λ (m : ℕ × ℕ). says u (λ l. body.Excluded l m.0 m.1) c) marks
      (λ m. says_still u (λ l. body.Excluded l m.0 m.1) c (λ l. other _ refl))

  gaveup_still : (u : Uid) (ns : List ℕ) (c : Coord) → Still (gaveup_lines u ns c)
  gaveup_still u ns c = all_flat (IsQuiet quiet) (λ n. says u (λ l. body.GaveUp l n) c) ns
      (λ n. says_still u (λ l. body.GaveUp l n) c (λ l. other _ refl))

  all_still : (us : List Uid) (c : Coord) → Still (all_aborted us c).outs
  all_still [] c = tt
  all_still (u ∷ us) c = both (says u (λ l. body.Aborted l cause.Asked) c) (all_aborted us (ended u ending.Abort c)).outs
      (says_still u (λ l. body.Aborted l cause.Asked) c (λ l. other _ refl)) (all_still us (ended u ending.Abort c))

  line_quiet : (x : ℕ) (g : Goal) (e : CallEnd) (l : Label) → KeepsIt (Ended e) → quiet (end_line x g e l) ≡ true
  line_quiet x (Run o) (Answered a) l keeps = other _ refl
  line_quiet x (calls.Include s) (Answered a) l keeps = other _ refl
  line_quiet x g (Included s) l keeps = other _ refl
  line_quiet x g (Conflict h m n) l keeps = other _ refl
  line_quiet x g (Changed n w) l keeps = other _ refl
  line_quiet x g (Lost n sent) l keeps = absurd keeps

  call_still : (s : Steps) (n : CallStep) (c : Coord) → KeepsIt n → Still (step_call s n c).outs
  call_still s (On at) c keeps = (tt, tt)
  call_still s (Ended e) c keeps = says_still (actor s.path) (end_line s.x s.goal e) c (λ l. line_quiet s.x s.goal e l keeps)

  -- ---- commits

  ends_still : (u : Uid) (e : End) (f : Label → Body) (intents : List (Uid × Intent)) (c : Coord) → ((l : Label) → is_lost (f l) ≡ false) →
      Still (ends_with u e f intents c).outs
  ends_still u e f intents c its = both (says u f c) (tolds_of intents (ended u e c) u) (says_still u f c (λ l. other _ (its l)))
      (tolds_still intents (ended u e c) u)

  decide_still : (p : Plan) (c : Coord) → Still (decide p c).outs
  decide_still p c = both (record_work (actor p.path) p ++ says (actor p.path) body.Committed c) (map told p.sent)
      (both (record_work (actor p.path) p) (says (actor p.path) body.Committed c) (work (has_record p))
      (says_still (actor p.path) body.Committed c (λ l. other _ refl)))
      (all_map (IsQuiet quiet) told p.sent (λ n. each n (has (participants p) n)))
    where
      told : ℕ → Effect
      told = decided_told (root_of p.path) (actor p.path) p

      work : (b : Bool) →
          Still (cond b (Do (PutIntent (actor p.path) (record { root = root_of p.path; nodes = participants p })) ∷ []) [])
      work true = (tt, tt)
      work false = tt

      each : (n : ℕ) (b : Bool) → IsQuiet quiet (cond b (tell (root_of p.path) (has_record p) ((actor p.path, ending.Commit) ∷ []) n)
          (tell (root_of p.path) false ((actor p.path, ending.Abort) ∷ []) n))
      each n true = tt
      each n false = tt

  step_still : (u : Uid) (s : CommitStep) (intents : List (Uid × Intent)) (c : Coord) → Still (step_commit u s intents c).outs
  step_still u (Stays m) intents c = tt
  step_still u (Asks m) intents c = asks_still (IsQuiet quiet) (quiet_plain quiet parts_quiet) (plan_of m).path (plan_of m).req
      (commit.waiting m) (commits_in u m c)
  step_still u (Decides p) intents c = decide_still p c
  step_still u (Aborts why p) intents c = ends_still u ending.Abort (λ l. body.Aborted l why) intents c (λ l. refl)

  moved_still : (u : Uid) (m : Marked) (intents : List (Uid × Intent)) (c : Coord) → Still (moved_commit u m intents c).outs
  moved_still u m intents c = both (mark_lines u m.marks c) (step_commit u m.step intents c).outs (marks_still u m.marks c)
      (step_still u m.step intents c)

  pub commit_still : (b : Branch) (intents : List (Uid × Intent)) (c : Coord) → Still (commit_action b intents c).outs
  commit_still b intents c = doomed b.doomed
    where
      u : Uid
      u = actor b.path

      top : Still (commit_top b.path intents c).outs
      top = both (says u body.Committing c) (moved_commit u (commit.start plan) intents c).outs
          (says_still u body.Committing c (λ l. other _ refl)) (moved_still u (commit.start plan) intents c)
        where
          plan : Plan
          plan = plan_for b.path (last_req (doing_of (actor b.path) c)) (root_at (root_of b.path) c) c

      kinds : (q : Kind) → Still (commit_open b intents c q).outs
      kinds kind.Nested = ends_still u ending.Commit body.Committed intents c (λ l. refl)
      kinds kind.Serial = ends_still u ending.Commit body.Ended intents c (λ l. refl)
      kinds kind.Top = top
      kinds kind.Independent = top
      kinds kind.Constituent = top

      doomed : (w : Bool) → Still (cond {A = Did Coord} w (aborts_with u cause.Doomed intents c) (commit_open b intents c b.kind)).outs
      doomed true = ends_still u ending.Abort (λ l. body.Aborted l cause.Doomed) intents c (λ l. refl)
      doomed false = kinds b.kind

  pub abort_still : (b : Branch) (intents : List (Uid × Intent)) (c : Coord) → Still (abort_action (actor b.path) intents c).outs
  abort_still b intents c =
      let us = open_below (actor b.path) c.tree ++ actor b.path ∷ [] in
      let t = all_aborted us c in
      both t.outs (flat_map (tolds_of intents t.part) us) (all_still us c)
      (all_flat (IsQuiet quiet) (tolds_of intents t.part) us (λ w. tolds_still intents t.part w))

  -- ---- answers

  pub heard_still : (from : ℕ) (a : Asked) (r : Reply) (intents : List (Uid × Intent)) (c : Coord) → ReplyFull r →
      Still (heard from a r intents c).outs
  heard_still from a r intents c full = by (doing_of a.act c)
    where
      now : (n : Now) → Still (heard_now from a r intents c n).outs
      now Idle = tt
      now (Calling s) = one (waits_for_call from a r s)
        where
          one : (w : Bool) → Still (cond {A = Served Coord (Unit {0})} w (heard_by (heard_call s r c)) (heard_none c)).outs
          one true = call_still s _ _ (answered_keeps s.goal (is_free (root_of s.path) (actor s.path) s.x c) (kept_at s c) s.at r full)
          one false = tt
      now (Committing m) = one (waits_for_commit from a r m)
        where
          one : (w : Bool) → Still (cond {A = Served Coord (Unit {0})} w
              (heard_by (moved_commit a.act (commit.answered from m r) intents c)) (heard_none c)).outs
          one true = moved_still a.act (commit.answered from m r) intents c
          one false = tt

      by : (o : Option Doing) → Still (heard_doing from a r intents c o).outs
      by None = tt
      by (Some d) = now d.now

  -- ---- giveups

  -- of this label what is lost is quiet
  pub give_still : (u : Uid) (d : Doing) (intents : List (Uid × Intent)) (c : Coord) → doing_of u c ≡ Some d →
      ((s : Steps) → d.now ≡ Calling s → actor s.path ≡ u) → ((n : ℕ) → quiet (body.Lost d.label n) ≡ true) →
      Still (give_up u intents c).outs
  give_still u d intents c found own lost = subst (λ o. Still (give_up_doing u intents c o).outs) (sym found) (by d.now refl)
    where
      ended_still : (s : Steps) (e : CallEnd) (z : Coord) → doing_of (actor s.path) z ≡ Some d → Still (step_call s (Ended e) z).outs
      ended_still s e z at = subst (λ o. Still (say_for (end_line s.x s.goal e) o)) (sym at) (line e, tt)
        where
          line : (g : CallEnd) → quiet (end_line s.x s.goal g d.label) ≡ true
          line (Answered a) = line_quiet s.x s.goal (Answered a) d.label tt
          line (Included st) = line_quiet s.x s.goal (Included st) d.label tt
          line (Conflict h m n) = line_quiet s.x s.goal (Conflict h m n) d.label tt
          line (Changed n w) = line_quiet s.x s.goal (Changed n w) d.label tt
          line (Lost n sent) = lost n

      by : (n : Now) → d.now ≡ n → Still (gives_up u intents c n).outs
      by Idle is = tt
      by (Calling s) is = both (gaveup_lines u (next_node s ∷ []) c) (give_up_call s c).outs (gaveup_still u (next_node s ∷ []) c)
          (step (given_up s.at) (on_root (root_of s.path) (root_lost s (given_up s.at)) c) (ap (λ v. doing_of v c) (own s is) ∙ found))
        where
          step : (n : CallStep) (z : Coord) → doing_of (actor s.path) z ≡ Some d → Still (step_call s n z).outs
          step (On at) z there = (tt, tt)
          step (Ended e) z there = ended_still s e z there
      by (Committing m) is = both (gaveup_lines u (nodes_given_up m) c) (moved_commit u (commit.given_up m) intents c).outs
          (gaveup_still u (nodes_given_up m) c) (moved_still u (commit.given_up m) intents c)

-- ---- which lines

-- nothing is lost
abbrev pub keeps : Body → Bool
keeps b = not (is_lost b)

pub keeps_other : (b : Body) → is_lost b ≡ false → keeps b ≡ true
keeps_other b is = ap not is

-- nothing is lost of another action
abbrev pub loses_of : Label → Body → Bool
loses_of l (body.Lost m n) = bytes_eq (name m) (name l)
loses_of l b = true

pub loses_other : (l : Label) (b : Body) → is_lost b ≡ false → loses_of l b ≡ true
loses_other l (body.Lost m n) is = absurd (cc is)
loses_other l b is = refl

pub same_label : (l m : Label) → name m ≡ name l → bytes_eq (name m) (name l) ≡ true
same_label l m is = (bytes_eq-Decides (name m) (name l)).1 is
