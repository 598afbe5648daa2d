-- What a coordinator hears, and inputs: the states that it keeps are sound.
use Rattle.arj_law_parts.proofs.Words
use Words.{Bool, List, None, Option, Some, [], ap, arith, cond, false, inl, inr, refl, subst, suc}
use Words.{sym, true, zero, ℕ, ⊎_elim, ◌&&◌, ◌++◌, ◌+◌, ◌==◌, ◌∙◌, ◌∷◌, ◌≡◌, AllByRecursion}
use Words.{uid_is, In, Asked, Kind as ActionKind, Label, ObjectState}
use Words.{Uid, object, Reply, actor, again_all, again_now}
use Words.{begin_action, call, commit_action, commit_open, commit_top}
use Words.{gaveup_lines, give_up, give_up_doing, gives_up, heard, heard_by, heard_call}
use Words.{heard_doing, heard_none, heard_now, include, last_req, moved_commit}
use Words.{root_lost, step_call, waits_for_call}
use Words.{waits_for_commit}
use Words.{Ended, Steps, answered}
use Words.{given_up}
use Words.{next_node, start}
use Words.{Plan}
use Words.{nodes_given_up}
use Words.{servers_of, Calling, Committing}
use Words.{Coord, Doing, Idle, Now, doing_of}
use Words.{on_root, plan_for}
use Words.{root_at, Did}
use Words.{Intent, Served, abort_action, aborts_with}
use Words.{says}
use Words.{Input, acts, branch_named, on_branch, parent_of}
use Words.{Branch, at_place, is_own, root_of}
use Words.{is_loaded_for, is_loaded_in, reply_is_meant}
use Words.body
use Words.cause
use Words.ending
use Words.kind
use Words.loaded
use Words.commit
use Words.input
use Rattle.arj_law_disk_view.proofs.Terms
use Terms.{get_more, AllSay, CoordIsSo}
use Terms.{Fits, MayKeep, NowIsSo}
use Rattle.arj_law_disk_view.specs.running
use running.States.{ReplyIsSo}
use Rattle.arj_law_parts.proofs.parts
use parts.{GoodTrees.placed}
use Rattle.arj_law_disk_view.proofs.running.StateCoords.{IsDone, abort_so, answer_step, answers_for, both, call_so, ends_so, flat}
use Rattle.arj_law_disk_view.proofs.running.StateCoords.{given_up_so, giveup_step, heard_call_so, include_so, lines, lost_so}
use Rattle.arj_law_disk_view.proofs.running.StateCoords.{machine_so, moved_commit_so, on_root_so, plan_so, root_so, step_call_so}
use Rattle.arj_law_disk_view.proofs.running.StateCoords.{step_so, vote_step}

module _ (F : Fits) (keep : MayKeep F) where
  -- ---- what a coordinator hears, and inputs

  abbrev pub IsServed : Served Coord (Unit {0}) → Type 0
  IsServed d = CoordIsSo F d.part × AllSay F d.outs

  pub hears_so : (from : ℕ) (a : Asked) (r : Reply) (intents : List (Uid × Intent)) (c : Coord) → CoordIsSo F c →
      reply_is_meant c a r ≡ true → ReplyIsSo F r → IsServed (heard from a r intents c)
  hears_so from a r intents c so meant rs = by (doing_of a.act c) refl
    where
      -- a state for which a call waits is of its object
      of_step : (d : Doing) (s : Steps) → doing_of a.act c ≡ Some d → d.now ≡ Calling s → (st : ObjectState) →
          r ≡ Reply.Loaded (loaded.State st) → st.uid.num ≡ s.x
      of_step d s found is st reply = ap (λ (u : Uid). u.num) (uid_is st.uid (object s.x)
          (sym (ap (is_loaded_for st) found ∙ ap (is_loaded_in st) is) ∙ ap (reply_is_meant c a) (sym reply) ∙ meant))

      now : (d : Doing) → doing_of a.act c ≡ Some d → (n : Now) → d.now ≡ n → NowIsSo F n → IsServed (heard_now from a r intents c n)
      now d found Idle is its = (so, tt)
      now d found (Calling s) is its = each (waits_for_call from a r s)
        where
          each : (w : Bool) → IsServed (cond {A = Served Coord (Unit {0})} w (heard_by (heard_call s r c)) (heard_none c))
          each true = (heard_call_so F keep) s r c so its ((answers_for F keep) s.x r rs (of_step d s found is))
          each false = (so, tt)
      now d found (Committing m) is its = each (waits_for_commit from a r m)
        where
          each : (w : Bool) → IsServed
              (cond {A = Served Coord (Unit {0})} w (heard_by (moved_commit a.act (commit.answered from m r) intents c)) (heard_none c))
          each true = (moved_commit_so F keep) a.act (commit.answered from m r) intents c so ((answer_step F keep) from m r its rs)
          each false = (so, tt)

      by : (o : Option Doing) → doing_of a.act c ≡ o → IsServed (heard_doing from a r intents c o)
      by None is = (so, tt)
      by (Some d) is = now d is d.now refl (so.works a.act d is)

  give_up_so : (u : Uid) (intents : List (Uid × Intent)) (c : Coord) → CoordIsSo F c → (IsDone F keep) (give_up u intents c)
  give_up_so u intents c so = by (doing_of u c) refl
    where
      with_lines : (nodes : List ℕ) (d : Did Coord) → (IsDone F keep) d →
          (IsDone F keep) (record { part = d.part; outs = gaveup_lines u nodes c ++ d.outs })
      with_lines nodes d w = (
        w.0,
        (both F keep) (gaveup_lines u nodes c) d.outs ((flat F keep) (λ n. says u (λ l. body.GaveUp l n) c) nodes (λ n. (lines F keep) u (λ l. body.GaveUp l n) c))
            w.1,
      )

      now : (n : Now) → NowIsSo F n → (IsDone F keep) (gives_up u intents c n)
      now Idle its = (so, tt)
      now (Calling s) its =
          let t : Coord = on_root (root_of s.path) (root_lost s (given_up s.at)) c in
          let x = step_call s (given_up s.at) t in
          with_lines (next_node s ∷ []) x ((step_call_so F keep) s (given_up s.at) t
          ((on_root_so F keep) (root_of s.path) (root_lost s (given_up s.at)) c ((lost_so F keep) s (given_up s.at)) so) ((given_up_so F keep) s.x s.at))
      now (Committing m) its = let x = moved_commit u (commit.given_up m) intents c in
          with_lines (nodes_given_up m) x ((moved_commit_so F keep) u (commit.given_up m) intents c so ((giveup_step F keep) m its))

      by : (o : Option Doing) → doing_of u c ≡ o → (IsDone F keep) (give_up_doing u intents c o)
      by None is = (so, tt)
      by (Some d) is = now d.now (so.works u d is)

  again_so : (ds : List Doing) (c : Coord) → CoordIsSo F c → AllByRecursion (λ (d : Doing). NowIsSo F d.now) ds →
      (IsDone F keep) (again_all ds c)
  again_so [] c so all = (so, tt)
  again_so (d ∷ ds) c so all =
      let a = again_now c d.now in
      let w = now d.now all.0 in
      let q = again_so ds a.part w.0 all.1 in
      (q.0, (both F keep) a.outs (again_all ds a.part).outs w.1 q.1)
    where
      now : (n : Now) → NowIsSo F n → (IsDone F keep) (again_now c n)
      now Idle its = (so, tt)
      now (Calling s) its = (step_so F keep) s c so its
      now (Committing m) its = (machine_so F keep) m c so its

  pub ticks_so : (c : Coord) → CoordIsSo F c → (IsDone F keep) (again_all c.doings c)
  ticks_so c so = again_so c.doings c so (all c.doings (λ d i. i))
    where
      same : (n : ℕ) → (n == n) ≡ true
      same n = grind arith

      found : (d : Doing) → In d c.doings → (u : Uid) × (doing_of u c ≡ Some d)
      found d i = let p = placed d c.doings i in (
        record { node = c.tree.node; inc = c.tree.inc; num = p.0 },
        (λ j. cond (same c.tree.node j && same c.tree.inc j) (at_place p.0 c.doings) None) ∙ p.1,
      )

      all : (ds : List Doing) → ((d : Doing) → In d ds → In d c.doings) → AllByRecursion (λ (d : Doing). NowIsSo F d.now) ds
      all [] there = tt
      all (d ∷ ds) there = (let f = found d (there d (inl refl)) in so.works f.0 d f.1, all ds (λ e i. there e (inr i)))

  commit_so : (b : Branch) (intents : List (Uid × Intent)) (c : Coord) → CoordIsSo F c → (IsDone F keep) (commit_action b intents c)
  commit_so b intents c so = by b.doomed
    where
      u : Uid
      u = actor b.path

      plan : Plan
      plan = plan_for b.path (last_req (doing_of u c)) (root_at (root_of b.path) c) c

      top : (IsDone F keep) (commit_top b.path intents c)
      top =
          let x = moved_commit u (commit.start plan) intents c in
          let w = (moved_commit_so F keep) u (commit.start plan) intents c so ((vote_step F keep) (servers_of plan) plan
          ((plan_so F keep) b.path (last_req (doing_of u c)) (root_at (root_of b.path) c) c ((root_so F keep) (root_of b.path) c so))) in
          (w.0, (both F keep) (says u body.Committing c) x.outs ((lines F keep) u body.Committing c) w.1)

      kinds : (q : ActionKind) → (IsDone F keep) (commit_open b intents c q)
      kinds kind.Nested = (ends_so F keep) u ending.Commit body.Committed intents c so
      kinds kind.Serial = (ends_so F keep) u ending.Commit body.Ended intents c so
      kinds kind.Top = top
      kinds kind.Independent = top
      kinds kind.Constituent = top

      by : (d : Bool) → (IsDone F keep) (cond {A = Did Coord} d (aborts_with u cause.Doomed intents c) (commit_open b intents c b.kind))
      by true = (ends_so F keep) u ending.Abort (λ l. body.Aborted l cause.Doomed) intents c so
      by false = kinds b.kind

  on_named : (l : Label) (f : Branch → Did Coord) (c : Coord) → CoordIsSo F c → ((b : Branch) → (IsDone F keep) (f b)) →
      (IsDone F keep) (on_branch f c (branch_named l c))
  on_named l f c so each = by (branch_named l c)
    where
      by : (o : Option Branch) → (IsDone F keep) (on_branch f c o)
      by None = (so, tt)
      by (Some b) = each b

  -- ---- actions that begin

  pub begins_so : (l : Label) (q : ActionKind) (parent : Option Label) (above : Option Branch) (c : Coord) → CoordIsSo F c →
      (IsDone F keep) (begin_action l q parent above c)
  begins_so l q parent above c so =
      (record { works = λ u d at. was (is_own u c.tree) u.num d at (λ f. so.works u d f); roots = so.roots }, (tt, tt))
    where
      fresh : Doing
      fresh = record { label = l; req = 0; now = Idle; took = [] }

      was : (b : Bool) (j : ℕ) (d : Doing) → cond b (at_place j (c.doings ++ fresh ∷ [])) None ≡ Some d →
          (cond b (at_place j c.doings) None ≡ Some d → NowIsSo F d.now) → NowIsSo F d.now
      was true zero d at f = let no_way : ◌≡◌ {A = Option Doing} None (Some d) = at in cc
      was true (suc j) d at f =
          ⊎_elim (λ old. f old) (λ new. subst (λ (x : Doing). NowIsSo F x.now) new.1 tt) (get_more j fresh d c.doings at)
      was false j d at f = let no_way : ◌≡◌ {A = Option Doing} None (Some d) = at in cc

  pub acts_so : (i : Input) (intents : List (Uid × Intent)) (c : Coord) → CoordIsSo F c → (IsDone F keep) (acts i intents c)
  acts_so (input.Begin l q parent) intents c so = begins_so l q parent (parent_of parent c) c so
  acts_so (input.Call l x o) intents c so = on_named l (λ b. call b.path x o c) c so (λ b. (call_so F keep) b.path x o c so)
  acts_so (input.Include l x s) intents c so = on_named l (λ b. include b.path x s c) c so (λ b. (include_so F keep) b.path x s c so)
  acts_so (input.Commit l) intents c so = on_named l (λ b. commit_action b intents c) c so (λ b. commit_so b intents c so)
  acts_so (input.Abort l) intents c so =
      on_named l (λ b. abort_action (actor b.path) intents c) c so (λ b. (abort_so F keep) (actor b.path) intents c so)
  acts_so (input.GiveUp l) intents c so =
      on_named l (λ b. give_up (actor b.path) intents c) c so (λ b. give_up_so (actor b.path) intents c so)
  acts_so (input.Frame j from m) intents c so = (so, tt)
  acts_so input.Tick intents c so = (so, tt)
  acts_so input.Restart intents c so = (so, tt)
  acts_so input.Crash intents c so = (so, tt)
  acts_so (input.Show x) intents c so = (so, tt)
