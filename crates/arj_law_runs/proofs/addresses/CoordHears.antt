-- Whom a coordinator asks, tells and lists where it hears an answer, and takes an input.
use Rattle.arj_law_parts.proofs.Words
use Words.{◌≡◌, ◌∙◌, ◌+◌, ◌==◌, ℕ, List, [], ◌∷◌, ◌++◌, Bool, true, false, cond, ◌&&◌}
use Words.{Option, Some, None, refl, inl, inr, arith, AllByRecursion}
use Words.{In, Asked, Kind, Label, Uid, Reply, actor, again_all}
use Words.{again_now, commit_action, commit_open, commit_top}
use Words.{gaveup_lines, give_up, give_up_doing, gives_up, heard}
use Words.{heard_by, heard_call, heard_doing, heard_none, heard_now}
use Words.{last_req, moved_commit, root_lost, step_call}
use Words.{waits_for_call, waits_for_commit, Ended}
use Words.{answered, given_up, next_node, start}
use Words.{Plan}
use Words.{nodes_given_up}
use Words.{servers_of, Calling, Committing, Coord}
use Words.{Doing, Idle, Now, doing_of}
use Words.{on_root, plan_for, root_at}
use Words.{Did, Intent, Served, aborts_with}
use Words.{says}
use Words.{each}
use Words.{branch_named, branch_numbered, on_branch, Branch, at_place}
use Words.{root_of}
use Words.body
use Words.cause
use Words.ending
use Words.kind
use Words.commit
use Rattle.arj_law_runs.proofs.Terms
use Terms.{placed}
use Terms.{AllOf, AreOf, CoordOf, PathOf, ReplyOf, AnswersWaiting, KeepsCalled}
use Rattle.arj_law_runs.proofs.addresses
use addresses.Calls.{given_up_of, node_of}
use addresses.Lists.{all_placed}
use Rattle.arj_law_runs.specs.addresses.Addresses.{NowOf, PlanOf}
use Rattle.arj_law_runs.proofs.addresses.Coords.{IsDone, answer_marks, answer_step, both, ends_is, giveup_marks, giveup_step}
use Rattle.arj_law_runs.proofs.addresses.Coords.{heard_call_is, lines, lost_is, machine_is, moved_commit_is, on_root_is, plan_is}
use Rattle.arj_law_runs.proofs.addresses.Coords.{root_is, servers_is, step_call_is, step_is, vote_step}

module _ (G : ℕ → Type 0) (one : G 1) where
  -- ---- what a coordinator hears, and inputs

  abbrev pub IsServed : Served Coord (Unit {0}) → Type 0
  IsServed d = CoordOf G d.part × AllOf G d.outs

  pub heard_of : (from : ℕ) (a : Asked) (r : Reply) (intents : List (Uid × Intent)) (c : Coord) → G from → CoordOf G c → ReplyOf G r →
      AnswersWaiting from a r c → IsServed (heard from a r intents c)
  heard_of from a r intents c its k rs fits = by (doing_of a.act c) refl
    where
      now : (d : Doing) → doing_of a.act c ≡ Some d → (n : Now) → d.now ≡ n → NowOf G n → IsServed (heard_now from a r intents c n)
      now d found Idle at so = (k, tt)
      now d found (Calling s) at so = each (waits_for_call from a r s) refl
        where
          each : (w : Bool) → waits_for_call from a r s ≡ w →
              IsServed (cond {A = Served Coord (Unit {0})} w (heard_by (heard_call s r c)) (heard_none c))
          each true on = (heard_call_is G one) s r c k so (fits d s found at on) rs
          each false off = (k, tt)
      now d found (Committing m) at so = each (waits_for_commit from a r m)
        where
          each : (w : Bool) → IsServed
              (cond {A = Served Coord (Unit {0})} w (heard_by (moved_commit a.act (commit.answered from m r) intents c)) (heard_none c))
          each true =
              (moved_commit_is G one) a.act (commit.answered from m r) intents c k ((answer_step G one) from m r its so) ((answer_marks G one) from m r its so)
          each false = (k, tt)

      by : (o : Option Doing) → doing_of a.act c ≡ o → IsServed (heard_doing from a r intents c o)
      by None is = (k, tt)
      by (Some d) is = now d is d.now refl (k.works a.act d is)

  pub give_up_is : (u : Uid) (intents : List (Uid × Intent)) (c : Coord) → CoordOf G c → (IsDone G one) (give_up u intents c)
  give_up_is u intents c k = by (doing_of u c) refl
    where
      said : (nodes : List ℕ) → AreOf G nodes → AllOf G (gaveup_lines u nodes c)
      said [] all = tt
      said (n ∷ ns) all =
          (both G one) (says u (λ l. body.GaveUp l n) c) (gaveup_lines u ns c) ((lines G one) u (λ l. body.GaveUp l n) c (λ l. all.0))
          (said ns all.1)

      with_lines : (nodes : List ℕ) (d : Did Coord) → AreOf G nodes → (IsDone G one) d →
          (IsDone G one) (record { part = d.part; outs = gaveup_lines u nodes c ++ d.outs })
      with_lines nodes d all w = (w.0, (both G one) (gaveup_lines u nodes c) d.outs (said nodes all) w.1)

      now : (n : Now) → NowOf G n → (IsDone G one) (gives_up u intents c n)
      now Idle so = (k, tt)
      now (Calling s) so =
          let t : Coord = on_root (root_of s.path) (root_lost s (given_up s.at)) c in
          let x = step_call s (given_up s.at) t in
          with_lines (next_node s ∷ []) x (node_of G one s.goal s.at so.at, tt) ((step_call_is G one) s (given_up s.at) t so ((on_root_is G one) (root_of s.path) (root_lost s (given_up s.at)) c
          ((lost_is G one) s (given_up s.at)) k) (given_up_of G one s.goal s.at so.at))
      now (Committing m) so = let x = moved_commit u (commit.given_up m) intents c in
          with_lines (nodes_given_up m) x so.2 ((moved_commit_is G one) u (commit.given_up m) intents c k ((giveup_step G one) m so) ((giveup_marks G one) m so))

      by : (o : Option Doing) → doing_of u c ≡ o → (IsDone G one) (give_up_doing u intents c o)
      by None is = (k, tt)
      by (Some d) is = now d.now (k.works u d is)

  again_is : (ds : List Doing) (c : Coord) → CoordOf G c → AllByRecursion (λ (d : Doing). NowOf G d.now) ds →
      (IsDone G one) (again_all ds c)
  again_is [] c k all = (k, tt)
  again_is (d ∷ ds) c k all =
      let a = again_now c d.now in
      let w = now d.now all.0 in
      let q = again_is ds a.part w.0 all.1 in
      (q.0, (both G one) a.outs (again_all ds a.part).outs w.1 q.1)
    where
      now : (n : Now) → NowOf G n → (IsDone G one) (again_now c n)
      now Idle so = (k, tt)
      now (Calling s) so = (step_is G one) s c k so
      now (Committing m) so = (machine_is G one) m c k so

  pub again_of : (c : Coord) → CoordOf G c → (IsDone G one) (again_all c.doings c)
  again_of c k = again_is c.doings c k (all c.doings (λ d i. i))
    where
      same : (n : ℕ) → (n == n) ≡ true
      same n = grind arith

      found : (d : Doing) → In d c.doings → (u : Uid) × (doing_of u c ≡ Some d)
      found d i = let p = placed d c.doings i in (
        record { node = c.tree.node; inc = c.tree.inc; num = p.0 },
        (λ j. cond (same c.tree.node j && same c.tree.inc j) (at_place p.0 c.doings) None) ∙ p.1,
      )

      all : (ds : List Doing) → ((d : Doing) → In d ds → In d c.doings) → AllByRecursion (λ (d : Doing). NowOf G d.now) ds
      all [] there = tt
      all (d ∷ ds) there = (let f = found d (there d (inl refl)) in k.works f.0 d f.1, all ds (λ e i. there e (inr i)))

  pub commit_is : (b : Branch) (intents : List (Uid × Intent)) (c : Coord) → KeepsCalled (actor b.path) (root_at (root_of b.path) c) c →
      PathOf G b.path → CoordOf G c → (IsDone G one) (commit_action b intents c)
  commit_is b intents c keeps path k = by b.doomed
    where
      u : Uid
      u = actor b.path

      plan : Plan
      plan = plan_for b.path (last_req (doing_of u c)) (root_at (root_of b.path) c) c

      its : PlanOf G (plan_for b.path (last_req (doing_of u c)) (root_at (root_of b.path) c) c)
      its = (plan_is G one) b.path (last_req (doing_of u c)) (root_at (root_of b.path) c) c keeps path ((root_is G one) (root_of b.path) c k)

      top : (IsDone G one) (commit_top b.path intents c)
      top =
          let x = moved_commit u (commit.start plan) intents c in
          let w = (moved_commit_is G one) u (commit.start plan) intents c k ((vote_step G one) (servers_of plan) plan ((servers_is G one) plan its) its) tt in
          (w.0, (both G one) (says u body.Committing c) x.outs ((lines G one) u body.Committing c (λ l. tt)) w.1)

      kinds : (q : Kind) → (IsDone G one) (commit_open b intents c q)
      kinds kind.Nested = (ends_is G one) u ending.Commit body.Committed intents c k (λ l. tt)
      kinds kind.Serial = (ends_is G one) u ending.Commit body.Ended intents c k (λ l. tt)
      kinds kind.Top = top
      kinds kind.Independent = top
      kinds kind.Constituent = top

      by : (d : Bool) → (IsDone G one) (cond {A = Did Coord} d (aborts_with u cause.Doomed intents c) (commit_open b intents c b.kind))
      by true = (ends_is G one) u ending.Abort (λ l. body.Aborted l cause.Doomed) intents c k (λ l. tt)
      by false = kinds b.kind

  pub named_is : (c : Coord) (o : Option ℕ) (b : Branch) → branch_numbered c o ≡ Some b → CoordOf G c → PathOf G b.path
  named_is c None b is k = let no_way : ◌≡◌ {A = Option Branch} None (Some b) = is in cc
  named_is c (Some j) b is k = all_placed (λ (q : Branch). PathOf G q.path) j c.tree.branches b k.paths is

  pub on_named : (l : Label) (f : Branch → Did Coord) (c : Coord) → CoordOf G c →
      ((b : Branch) → branch_named l c ≡ Some b → PathOf G b.path → (IsDone G one) (f b)) →
      (IsDone G one) (on_branch f c (branch_named l c))
  on_named l f c k each = by (branch_named l c) refl
    where
      by : (o : Option Branch) → branch_named l c ≡ o → (IsDone G one) (on_branch f c o)
      by None is = (k, tt)
      by (Some b) is = each b is (named_is c _ b is k)
