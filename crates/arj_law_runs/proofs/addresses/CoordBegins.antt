-- Whom a coordinator asks, tells and lists where an action begins, and where it is acknowledged and queried.
use Rattle.arj_law_parts.proofs.Words
use Words.{◌≡◌, ◌+◌, ℕ, zero, suc, List, [], ◌∷◌, ◌++◌, Bool, true, false, cond, not, ◌&&◌, ◌||◌}
use Words.{Option, Some, None, refl, subst, ⊎_elim, ⊤, IfSome, AllByRecursion}
use Words.{End, Kind, Label, Uid, uid_eq, actor}
use Words.{begin_action, call, commit_action}
use Words.{give_up}
use Words.{include}
use Words.{Coord}
use Words.{Doing, Idle}
use Words.{new_coord}
use Words.{root_at}
use Words.{Intent, Served, abort_action, acked, acked_by, acked_left}
use Words.{answer_decided, answer_query, answer_recorded, ended, is_deferred, is_kept_commit}
use Words.{let_go, root_or_self, tell, tell_all, tolds_let_go}
use Words.{at_uid, each, has, put_uid, without_number, without_uid, Input, acts}
use Words.{begin_refusal, branch_named, parent_of, tolds_again, Branch, at_place, branch_of}
use Words.{is_open, is_own, next_uid, path_below, root_of}
use Words.ending
use Words.input
use Rattle.arj_law_runs.proofs.Terms
use Terms.{get_more}
use Terms.{AllOf, AreOf, CoordOf, PathOf, KeepsCalled}
use Rattle.arj_law_runs.proofs.addresses
use addresses.{Begins.below_is, Begins.shallow}
use addresses.Lists.{all_append, all_at_uid, all_filter, all_put}
use addresses.Lists.{all_without}
use Rattle.arj_law_runs.specs.addresses.Addresses.{NowOf}
use Rattle.arj_protocol.specs.{Ending.is_over}
use Rattle.arj_law_runs.proofs.addresses.Coords.{IsDone, abort_is, both, call_is, include_is}
use Rattle.arj_law_runs.proofs.addresses.CoordHears.{IsServed, commit_is, give_up_is, named_is}
use Rattle.arj_law_runs.proofs.addresses.Coords.{tells, without_is}
use Rattle.arj_law_runs.proofs.addresses.CoordHears.{on_named}

module _ (G : ℕ → Type 0) (one : G 1) where
  -- ---- actions that begin

  pub begin_of : (l : Label) (q : Kind) (parent : Option Label) (c : Coord) → begin_refusal q c parent ≡ None → CoordOf G c →
      (IsDone G one) (begin_action l q parent (parent_of parent c) c)
  begin_of l q parent c free k = (
    record {
      node = k.node;
      paths = all_append _ c.tree.branches
          (record { path = path_below q (parent_of parent c) (next_uid c.tree); kind = q; ended = None; doomed = false } ∷ []) k.paths
          (below_is G q (parent_of parent c) (next_uid c.tree) (shallow q c parent free) k.node (above parent), tt);
      works = λ u d at. was (is_own u c.tree) u.num d at (λ f. k.works u d f);
      roots = k.roots;
      telling = k.telling;
    },
    (tt, tt),
  )
    where
      fresh : Doing
      fresh = record { label = l; req = 0; now = Idle; took = [] }

      above : (o : Option Label) → IfSome (parent_of o c) (λ (b : Branch). PathOf G b.path)
      above None = tt
      above (Some p) = by (branch_named p c) refl
        where
          by : (o : Option Branch) → branch_named p c ≡ o → IfSome o (λ (b : Branch). PathOf G b.path)
          by None is = tt
          by (Some b) is = (named_is G one) c _ b is k

      was : (b : Bool) (j : ℕ) (d : Doing) → cond b (at_place j (c.doings ++ fresh ∷ [])) None ≡ Some d →
          (cond b (at_place j c.doings) None ≡ Some d → NowOf G d.now) → NowOf G d.now
      was true zero d at f = let no_way : ◌≡◌ {A = Option Doing} None (Some d) = at in cc
      was true (suc j) d at f =
          ⊎_elim (λ old. f old) (λ new. subst (λ (x : Doing). NowOf G x.now) new.1 tt) (get_more j fresh d c.doings at)
      was false j d at f = let no_way : ◌≡◌ {A = Option Doing} None (Some d) = at in cc

  -- an include names a node, and of what a commit has called its root keeps bindings
  abbrev pub Needs : Input → Coord → Type 0
  Needs (input.Begin l q parent) c = ⊥
  Needs (input.Include l x s) c = G s
  Needs (input.Commit l) c = (b : Branch) → branch_named l c ≡ Some b → KeepsCalled (actor b.path) (root_at (root_of b.path) c) c
  Needs _ c = ⊤

  pub acts_of : (i : Input) (intents : List (Uid × Intent)) (c : Coord) → Needs i c → CoordOf G c → (IsDone G one) (acts i intents c)
  acts_of (input.Begin l q parent) intents c its k = absurd its
  acts_of (input.Call l x o) intents c its k =
      (on_named G one) l (λ b. call b.path x o c) c k (λ b is path. (call_is G one) b.path x o c path k)
  acts_of (input.Include l x s) intents c its k =
      (on_named G one) l (λ b. include b.path x s c) c k (λ b is path. (include_is G one) b.path x s c path its k)
  acts_of (input.Commit l) intents c its k =
      (on_named G one) l (λ b. commit_action b intents c) c k (λ b is path. (commit_is G one) b intents c (its b is) path k)
  acts_of (input.Abort l) intents c its k =
      (on_named G one) l (λ b. abort_action (actor b.path) intents c) c k (λ b is path. (abort_is G one) (actor b.path) intents c k)
  acts_of (input.GiveUp l) intents c its k =
      (on_named G one) l (λ b. give_up (actor b.path) intents c) c k (λ b is path. (give_up_is G one) (actor b.path) intents c k)
  acts_of (input.Frame j from m) intents c its k = (k, tt)
  acts_of input.Tick intents c its k = (k, tt)
  acts_of input.Restart intents c its k = (k, tt)
  acts_of input.Crash intents c its k = (k, tt)
  acts_of (input.Show x) intents c its k = (k, tt)

  -- ---- acknowledgements and queries

  abbrev AreRecords : List (Uid × Intent) → Type 0
  AreRecords intents = AllByRecursion (λ (e : Uid × Intent). AreOf G (let i = e.1 in i.nodes)) intents

  pub acked_of : (from : ℕ) (u : Uid) (intents : List (Uid × Intent)) (c : Coord) → AreRecords intents → CoordOf G c →
      (IsServed G one) (acked from u intents c)
  acked_of from u intents c records k = by (at_uid u c.telling) refl
    where
      told : (m : List (Uid × Intent)) → AreRecords m → CoordOf G (record c { telling = m })
      told m all = record { node = k.node; paths = k.paths; works = k.works; roots = k.roots; telling = all }

      gone : (o : Option Intent) → IfSome o (λ (i : Intent). AreOf G i.nodes) → AllOf G (tolds_let_go u (without_uid u intents) c o)
      gone None its = tt
      gone (Some i) its = each (not (uid_eq i.root u) && is_over (branch_of i.root c.tree))
        where
          each : (b : Bool) →
              AllOf G (cond b (tell_all i.root false ((i.root, ending.Abort) ∷ []) (let_go i.root (without_uid u intents) c i.nodes)) [])
          each true = (tells G one) i.root false ((i.root, ending.Abort) ∷ []) (let_go i.root (without_uid u intents) c i.nodes)
              (all_filter G _ i.nodes its)
          each false = tt

      recorded : (o : Option Intent) → at_uid u intents ≡ o → IfSome o (λ (i : Intent). AreOf G i.nodes)
      recorded None is = tt
      recorded (Some i) is = all_at_uid (λ (j : Intent). AreOf G j.nodes) u i intents records is

      left : (i : Intent) (ns : List ℕ) → AreOf G ns → (IsServed G one) (acked_left u i intents c ns)
      left i [] all = (
        told (without_uid u c.telling) (all_without _ u c.telling k.telling),
        (tt, gone (at_uid u intents) (recorded (at_uid u intents) refl)),
      )
      left i (n ∷ ns) all = (
        told (put_uid u (record i { nodes = n ∷ ns }) c.telling) (all_put (λ (x : Uid × Intent). AreOf G (let j = x.1 in j.nodes)) u
            (record i { nodes = n ∷ ns }) c.telling (λ w. all) k.telling),
        tt,
      )

      by : (o : Option Intent) → at_uid u c.telling ≡ o → (IsServed G one) (acked_by from u intents c o)
      by None is = (k, tt)
      by (Some i) is = each (has i.nodes from)
        where
          each : (b : Bool) →
              (IsServed G one) (cond {A = Served Coord (Unit {0})} b (acked_left u i intents c (without_number from i.nodes))
              (record { part = c; outs = []; reply = None }))
          each true = left i (without_number from i.nodes)
              ((without_is G one) from i.nodes (all_at_uid (λ (j : Intent). AreOf G j.nodes) u i c.telling k.telling is))
          each false = (k, tt)

  pub query_of : (from : ℕ) (u : Uid) (intents : List (Uid × Intent)) (c : Coord) → G from → AllOf G (answer_query from u intents c)
  query_of from u intents c its = by (is_open u c.tree || is_deferred u intents from)
    where
      told : (root : Uid) (ack : Bool) (e : End) → AllOf G (tell root ack ((u, e) ∷ []) from ∷ [])
      told root ack e = ((its, (tt, tt)), tt)

      decided : AllOf G (answer_decided from u c)
      decided = each (is_kept_commit from u c)
        where
          each : (b : Bool) → AllOf G (cond b (tell (root_or_self u (branch_of u c.tree)) false ((u, ending.Commit) ∷ []) from ∷ [])
              (tell (root_or_self u (branch_of u c.tree)) false ((u, ending.Abort) ∷ []) from ∷ []))
          each true = told (root_or_self u (branch_of u c.tree)) false ending.Commit
          each false = told (root_or_self u (branch_of u c.tree)) false ending.Abort

      recorded : (o : Option Intent) → AllOf G (answer_recorded from u c o)
      recorded None = decided
      recorded (Some i) = each (has i.nodes from)
        where
          each : (b : Bool) → AllOf G (cond b (tell i.root true ((u, ending.Commit) ∷ []) from ∷ []) (answer_decided from u c))
          each true = told i.root true ending.Commit
          each false = decided

      by : (b : Bool) → AllOf G (cond b [] (answer_recorded from u c (at_uid u intents)))
      by true = tt
      by false = recorded (at_uid u intents)

  pub told_again_of : (telling : List (Uid × Intent)) → AreRecords telling → AllOf G (tolds_again telling)
  told_again_of [] all = tt
  told_again_of (e ∷ es) all = let i = e.1 in (both G one) (tell_all i.root true ((e.0, ending.Commit) ∷ []) i.nodes) (tolds_again es)
      ((tells G one) i.root true ((e.0, ending.Commit) ∷ []) i.nodes all.0) (told_again_of es all.1)

  pub new_of : (node inc : ℕ) (records : List (Uid × Intent)) → G node → AreRecords records →
      CoordOf G (record (new_coord node inc) { telling = records })
  new_of node inc records its all = record {
    node = its;
    paths = tt;
    works = λ u d at. nothing (is_own u (let c = new_coord node inc in c.tree)) u.num d at;
    roots = tt;
    telling = all;
  }
    where
      nothing : (b : Bool) (j : ℕ) (d : Doing) → cond b (at_place j []) None ≡ Some d → NowOf G d.now
      nothing true zero d is = let no_way : ◌≡◌ {A = Option Doing} None (Some d) = is in cc
      nothing true (suc j) d is = let no_way : ◌≡◌ {A = Option Doing} None (Some d) = is in cc
      nothing false j d is = let no_way : ◌≡◌ {A = Option Doing} None (Some d) = is in cc
