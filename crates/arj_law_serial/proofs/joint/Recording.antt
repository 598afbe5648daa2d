-- Records that a step writes, of tops whose commits waited for naming's confirmation, at their coordinator; and those that it removes.
use Rattle.arj_law_parts.proofs.Words
use Words.{◌≡◌, ◌⊎◌, ◌==◌, ℕ, List, [], ◌∷◌, ◌++◌, Bool, true, false, cond, Option, Some, None, is_some, refl, sym, ◌∙◌, ap, subst, inl}
use Words.{inr, ⊎_elim, map, ⊤, if◌then◌else◌, AllByRecursion, flat_map, list_all, and_parts, Asked, Body, End, Kind, Label, Message, Uid}
use Words.{asks, Reply, actor, answers, again_all, call, include, commit_action, commit_open, commit_top, commits_in, gaveup_lines, give_up}
use Words.{give_up_doing, gives_up, heard, heard_by, heard_call, heard_doing, heard_none, heard_now, last_req, mark_lines, moved_commit}
use Words.{root_lost, root_moved, step_call, step_commit, kept_at, waits_for_call, waits_for_commit, answered, given_up, next_node, Aborts}
use Words.{Asks, CommitStep, Confirming, Decides, Machine, Marked, Plan, Preparing, Stays, Used, Voting, begin_confirm, begin_prepare}
use Words.{begin_vote, has_record, participants, marks_stores, marks_store, nodes_given_up, plan_of, servers_of, stores_left, targets_of}
use Words.{votes_left, with_states, Calling, Committing, Coord, Doing, Idle, Now, doing_of, is_free, on_root, plan_for, root_at, Abort}
use Words.{After, Before, Commit, Did, Disk, Do, Effect, InPart, Intent, in_part, Look, Prepare, PutInc, PutIntent, RemoveIntent, Say, Send}
use Words.{Served, Stop, Work, stopped, worked, abort_action, answer_query, acked, acked_by, acked_left, aborts_with, all_aborted}
use Words.{decided_told, ended, ends_with, says, tolds_let_go, tolds_of, tick_outs, Parts, Took, handle, holders, query_about, at_uid}
use Words.{with_number, without_number, without_uid, AreAll, Input, Node, acts, branch_named, on_branch, tolds_again, Branch, open_below}
use Words.{root_of, Seen}
use Words.list
use Words.body
use Words.cause
use Words.ending
use Words.kind
use Words.message
use Words.voted
use Words.prepared
use Words.confirmed
use Words.commit
use Words.role
use Words.order
use Words.input
use Rattle.arj_law_serial.proofs.Terms
use Terms.{without_in, at, posted, said, up, Up, Walks, halted, KnowsNode, Kinds, node_here, all_join, is_for_parts, coordinated}
use Terms.{handled_answer, is_acked, is_answer, is_query, response_is, took_heard, Leaves, message_left, leaves, IsRecordedAt}
use Rattle.arj_law_disk_view.proofs.running
use running.{SoundPlans.marks_used, Telling.again_plain}
use running.Plain.{Plain, plain_again, plain_query, plain_aborted, plain_asks, plain_both, plain_decided, plain_gaveup, plain_let_go}
use running.Plain.{plain_marks, plain_says, plain_step, plain_tolds_all, plain_tolds_of}
use Rattle.arj_law_parts.proofs.parts.Truths.{put_in}

-- ---- what is written

-- the commit of the top waits for naming
pub record IsConfirming (c : Coord) (u : Uid) : Type 0 where
  pub doing : Doing
  pub plan : Plan
  pub works : doing_of u c ≡ Some doing
  pub now : doing.now ≡ Committing (Confirming plan)

abbrev pub Puts : (Uid → Type 0) → (Uid → Type 0) → Effect → Type 0
Puts C D (Do (PutIntent u i)) = C u
Puts C D (Do (RemoveIntent u)) = D u
Puts C D _ = ⊤

-- whoever it is
abbrev pub anyone : Uid → Type 0
anyone u = ⊤

-- records are written of such tops only, and removed of such
abbrev pub PutsOnly : (Uid → Type 0) → (Uid → Type 0) → List Effect → Type 0
PutsOnly C D outs = AllByRecursion (Puts C D) outs

module _ (C D : Uid → Type 0) where
  pub plainly : (es : List Effect) → Plain es → PutsOnly C D es
  plainly [] plain = tt
  plainly (Say b ∷ es) plain = (tt, plainly es plain)
  plainly (Send to m ∷ es) plain = (tt, plainly es plain)
  plainly (Do Look ∷ es) plain = (tt, plainly es plain)
  plainly (Do (PutInc i) ∷ es) plain = (tt, plainly es plain)
  plainly (Do (Prepare r u states) ∷ es) plain = (tt, plainly es plain)
  plainly (Do (Commit r u) ∷ es) plain = (tt, plainly es plain)
  plainly (Do (Abort r u) ∷ es) plain = (tt, plainly es plain)
  plainly (Do (PutIntent u i) ∷ es) plain = absurd (cc plain)
  plainly (Do (RemoveIntent u) ∷ es) plain = absurd (cc plain)

  joined : (xs ys : List Effect) → PutsOnly C D xs → PutsOnly C D ys → PutsOnly C D (xs ++ ys)
  joined xs ys a b = all_join (Puts C D) xs ys a b

  -- ---- a commit

  -- one that is decided with a record is of such a top
  abbrev Fits : CommitStep → Type 0
  Fits (Decides p) = has_record p ≡ true → C (actor p.path)
  Fits _ = ⊤

  step_puts : (u : Uid) (s : CommitStep) (intents : List (Uid × Intent)) (c : Coord) → Fits s →
      PutsOnly C D (let d = step_commit u s intents c in d.outs)
  step_puts u (Stays m) intents c fits = tt
  step_puts u (Asks m) intents c fits = plainly (let d = step_commit u (Asks m) intents c in
      d.outs) (plain_asks (let p = plan_of m in p.path) (let p = plan_of m in p.req) (commit.waiting m) (commits_in u m c))
  step_puts u (Aborts why p) intents c fits =
      plainly (let d = step_commit u (Aborts why p) intents c in d.outs) (let e = ended u ending.Abort c in plain_both
      (says u (λ l. body.Aborted l why) c) (tolds_of intents e u) (plain_says u (λ l. body.Aborted l why) c) (plain_tolds_of intents e u))
  step_puts u (Decides p) intents c fits = by (has_record p) refl
    where
      rest : Plain (says (actor p.path) body.Committed c ++ map (decided_told (root_of p.path) (actor p.path) p) p.sent)
      rest = plain_both (says (actor p.path) body.Committed c) (map (decided_told (root_of p.path) (actor p.path) p) p.sent)
          (plain_says (actor p.path) body.Committed c) (plain_decided (root_of p.path) (actor p.path) p p.sent)

      by : (b : Bool) → has_record p ≡ b →
          PutsOnly C D ((if b then Do (PutIntent (actor p.path) (record { root = root_of p.path; nodes = participants p })) ∷ [] else [])
          ++ says (actor p.path) body.Committed c ++ map (decided_told (root_of p.path) (actor p.path) p) p.sent)
      by true is =
          (fits is, plainly (says (actor p.path) body.Committed c ++ map (decided_told (root_of p.path) (actor p.path) p) p.sent) rest)
      by false is = plainly (says (actor p.path) body.Committed c ++ map (decided_told (root_of p.path) (actor p.path) p) p.sent) rest

  moved_puts : (u : Uid) (m : Marked) (intents : List (Uid × Intent)) (c : Coord) → Fits m.step →
      PutsOnly C D (let d = moved_commit u m intents c in d.outs)
  moved_puts u m intents c fits = joined (mark_lines u m.marks c) (let d = step_commit u m.step intents c in
      d.outs) (plainly (mark_lines u m.marks c) (plain_marks u m.marks c)) (step_puts u m.step intents c fits)

  -- a plan that uses something asks naming first
  to_confirm : (us : List Used) (p : Plan) (v : Used) (vs : List Used) → us ≡ v ∷ vs → Fits (begin_confirm us p)
  to_confirm [] p v vs is = absurd (cc is)
  to_confirm (u ∷ us) p v vs is = tt

  to_prepare : (ss : List ℕ) (p : Plan) (v : Used) (vs : List Used) → p.used ≡ v ∷ vs → Fits (begin_prepare ss p)
  to_prepare [] p v vs is = to_confirm p.used p v vs is
  to_prepare (s ∷ ss) p v vs is = tt

  votes_next : (left : List ℕ) (p : Plan) (v : Used) (vs : List Used) → p.used ≡ v ∷ vs → Fits (votes_left left p)
  votes_next [] p v vs is = to_prepare (targets_of p) p v vs is
  votes_next (n ∷ ns) p v vs is = tt

  stores_next : (left : List ℕ) (p : Plan) (v : Used) (vs : List Used) → p.used ≡ v ∷ vs → Fits (let k = stores_left left p in k.step)
  stores_next [] p v vs is = to_confirm p.used p v vs is
  stores_next (n ∷ ns) p v vs is = tt

  answers_fit : (m : Machine) (from : ℕ) (r : Reply) (v : Used) (vs : List Used) → (let p = plan_of m in p.used) ≡ v ∷ vs →
      ((p : Plan) → m ≡ Confirming p → C (actor p.path)) → Fits (let j = commit.answered from m r in j.step)
  answers_fit (Voting p left) from (Reply.Voted (voted.Yes states)) v vs is of =
      votes_next (without_number from left) (record p { changed = with_states states p.changed }) v vs is
  answers_fit (Voting p left) from (Reply.Voted (voted.Changed w)) v vs is of = tt
  answers_fit (Voting p left) from (Reply.Bound r) v vs is of = tt
  answers_fit (Voting p left) from (Reply.Loaded r) v vs is of = tt
  answers_fit (Voting p left) from (Reply.Activated r) v vs is of = tt
  answers_fit (Voting p left) from (Reply.Noted r) v vs is of = tt
  answers_fit (Voting p left) from (Reply.Invoked r) v vs is of = tt
  answers_fit (Voting p left) from (Reply.Prepared r) v vs is of = tt
  answers_fit (Voting p left) from (Reply.Confirmed r) v vs is of = tt
  answers_fit (Preparing p left) from (Reply.Prepared prepared.Yes) v vs is of =
      stores_next (without_number from left) (record p { prepared = with_number from p.prepared }) v vs is
  answers_fit (Preparing p left) from (Reply.Prepared (prepared.InDoubt y holder)) v vs is of =
      stores_next (without_number from left) (marks_store from p) v vs is
  answers_fit (Preparing p left) from (Reply.Prepared (prepared.Old y n)) v vs is of = tt
  answers_fit (Preparing p left) from (Reply.Bound r) v vs is of = tt
  answers_fit (Preparing p left) from (Reply.Loaded r) v vs is of = tt
  answers_fit (Preparing p left) from (Reply.Activated r) v vs is of = tt
  answers_fit (Preparing p left) from (Reply.Noted r) v vs is of = tt
  answers_fit (Preparing p left) from (Reply.Invoked r) v vs is of = tt
  answers_fit (Preparing p left) from (Reply.Voted r) v vs is of = tt
  answers_fit (Preparing p left) from (Reply.Confirmed r) v vs is of = tt
  answers_fit (Confirming p) from (Reply.Confirmed confirmed.Yes) v vs is of = λ has. of p refl
  answers_fit (Confirming p) from (Reply.Confirmed (confirmed.Conflict a n)) v vs is of = tt
  answers_fit (Confirming p) from (Reply.Confirmed (confirmed.Changed d)) v vs is of = tt
  answers_fit (Confirming p) from (Reply.Confirmed (confirmed.NoStores y)) v vs is of = tt
  answers_fit (Confirming p) from (Reply.Confirmed (confirmed.Listed y n)) v vs is of = tt
  answers_fit (Confirming p) from (Reply.Bound r) v vs is of = tt
  answers_fit (Confirming p) from (Reply.Loaded r) v vs is of = tt
  answers_fit (Confirming p) from (Reply.Activated r) v vs is of = tt
  answers_fit (Confirming p) from (Reply.Noted r) v vs is of = tt
  answers_fit (Confirming p) from (Reply.Invoked r) v vs is of = tt
  answers_fit (Confirming p) from (Reply.Voted r) v vs is of = tt
  answers_fit (Confirming p) from (Reply.Prepared r) v vs is of = tt

  gives_fit : (m : Machine) (v : Used) (vs : List Used) → (let p = plan_of m in p.used) ≡ v ∷ vs →
      Fits (let j = commit.given_up m in j.step)
  gives_fit (Voting p left) v vs is = tt
  gives_fit (Preparing p left) v vs is =
      to_confirm (let q = marks_stores left p in q.used) (marks_stores left p) v vs ((marks_used left p).0 ∙ is)
  gives_fit (Confirming p) v vs is = tt

  -- a plan that was asked of nobody has no record
  starts_fit : (ss : List ℕ) (p : Plan) → has_record p ≡ false → Fits (begin_vote ss p)
  starts_fit (s ∷ ss) p none = tt
  starts_fit [] p none = prepares (targets_of p)
    where
      confirms : (us : List Used) → Fits (begin_confirm us p)
      confirms [] = λ has. absurd (cc (sym has ∙ none))
      confirms (u ∷ us) = tt

      prepares : (ts : List ℕ) → Fits (begin_prepare ts p)
      prepares [] = confirms p.used
      prepares (t ∷ ts) = tt

-- ---- a coordinator

-- its commits use something, each by its top's path
abbrev pub AreOfTheirs : Coord → Type 0
AreOfTheirs c = (u : Uid) (d : Doing) (m : Machine) → doing_of u c ≡ Some d → d.now ≡ Committing m →
    (actor (let p = plan_of m in p.path) ≡ u) × ((v : Used) × (vs : List Used) × ((let p = plan_of m in p.used) ≡ v ∷ vs))

-- so it is at a node that is known
pub are_theirs : (tops : Kinds) (k : ℕ) (d : Disk) (t : Parts) (M : Seen) → KnowsNode tops k d t M → AreOfTheirs t.coord
are_theirs tops k d t M n u q m works now =
    (let z = n.coord in let y = z.machines u q m works now in ((let p = y.plan in p.actor_is), (y.used, y.more, y.uses)))

module _ (D : Uid → Type 0) (c : Coord) (theirs : AreOfTheirs c) (intents : List (Uid × Intent)) where
  abbrev C : Uid → Type 0
  C u = IsConfirming c u

  -- the machine that waits
  waits_so : (u : Uid) (d : Doing) (m : Machine) → doing_of u c ≡ Some d → d.now ≡ Committing m → (p : Plan) → m ≡ Confirming p →
      C (actor p.path)
  waits_so u d m works now p is = subst C (sym (ap (λ (k : Machine). actor (let q = plan_of k in q.path)) (sym is)
      ∙ (theirs u d m works now).0)) (record { doing = d; plan = p; works = works; now = now ∙ ap Committing is })

  pub heard_puts : (from : ℕ) (a : Asked) (r : Reply) → PutsOnly C D (let h = heard from a r intents c in h.outs)
  heard_puts from a r = by (doing_of a.act c) refl
    where
      now : (d : Doing) → doing_of a.act c ≡ Some d → (n : Now) → d.now ≡ n →
          PutsOnly C D (let h = heard_now from a r intents c n in h.outs)
      now d works Idle is = tt
      now d works (Calling s) is = one (waits_for_call from a r s)
        where
          one : (w : Bool) →
              PutsOnly C D (let h = cond {A = Served Coord (Unit {0})} w (heard_by (heard_call s r c)) (heard_none c) in h.outs)
          one true = (let m = answered (is_free (root_of s.path) (actor s.path) s.x c) (kept_at s c) s.goal s.at r in
              plainly C D (let h = heard_call s r c in h.outs) (plain_step s m.step (on_root (root_of s.path) (root_moved s r m) c)))
          one false = tt
      now d works (Committing m) is = one (waits_for_commit from a r m)
        where
          one : (w : Bool) → PutsOnly C D (let h = cond {A = Served Coord (Unit {0})} w
              (heard_by (moved_commit a.act (commit.answered from m r) intents c)) (heard_none c) in h.outs)
          one true = (let t = theirs a.act d m works is in moved_puts C D a.act (commit.answered from m r) intents c
              (answers_fit C D m from r t.1.0 t.1.1 t.1.2 (waits_so a.act d m works is)))
          one false = tt

      by : (o : Option Doing) → doing_of a.act c ≡ o → PutsOnly C D (let h = heard_doing from a r intents c o in h.outs)
      by None is = tt
      by (Some d) is = now d is d.now refl

  give_up_puts : (u : Uid) → PutsOnly C D (let t = give_up u intents c in t.outs)
  give_up_puts u = by (doing_of u c) refl
    where
      now : (d : Doing) → doing_of u c ≡ Some d → (n : Now) → d.now ≡ n → PutsOnly C D (let t = gives_up u intents c n in t.outs)
      now d works Idle is = tt
      now d works (Calling s) is = plainly C D (let t = gives_up u intents c (Calling s) in t.outs) (plain_both (gaveup_lines u
          (next_node s ∷ []) c) (let t = step_call s (given_up s.at) (on_root (root_of s.path) (root_lost s (given_up s.at)) c) in t.outs)
          (plain_gaveup u (next_node s ∷ []) c) (plain_step s (given_up s.at) (on_root (root_of s.path) (root_lost s (given_up s.at)) c)))
      now d works (Committing m) is = (let t = theirs u d m works is in joined C D (gaveup_lines u (nodes_given_up m) c)
          (let e = moved_commit u (commit.given_up m) intents c in e.outs) (plainly C D (gaveup_lines u (nodes_given_up m) c)
          (plain_gaveup u (nodes_given_up m) c)) (moved_puts C D u (commit.given_up m) intents c (gives_fit C D m t.1.0 t.1.1 t.1.2)))

      by : (o : Option Doing) → doing_of u c ≡ o → PutsOnly C D (let t = give_up_doing u intents c o in t.outs)
      by None is = tt
      by (Some d) is = now d is d.now refl

  end_puts : (u : Uid) (how : End) (line : Label → Body) → PutsOnly C D (let t = ends_with u how line intents c in t.outs)
  end_puts u how line = plainly C D (let t = ends_with u how line intents c in t.outs) (let e = ended u how c in
      plain_both (says u line c) (tolds_of intents e u) (plain_says u line c) (plain_tolds_of intents e u))

  commit_puts : (b : Branch) → PutsOnly C D (let t = commit_action b intents c in t.outs)
  commit_puts b = by b.doomed
    where
      plan : Plan
      plan = plan_for b.path (last_req (doing_of (actor b.path) c)) (root_at (root_of b.path) c) c

      top : PutsOnly C D (let t = commit_top b.path intents c in t.outs)
      top = joined C D (says (actor b.path) body.Committing c) (let t = moved_commit (actor b.path) (commit.start plan) intents c in
          t.outs) (plainly C D (says (actor b.path) body.Committing c) (plain_says (actor b.path) body.Committing c))
          (moved_puts C D (actor b.path) (commit.start plan) intents c (starts_fit C D (servers_of plan) plan refl))

      kinds : (k : Kind) → PutsOnly C D (let t = commit_open b intents c k in t.outs)
      kinds kind.Nested = end_puts (actor b.path) ending.Commit body.Committed
      kinds kind.Serial = end_puts (actor b.path) ending.Commit body.Ended
      kinds kind.Top = top
      kinds kind.Independent = top
      kinds kind.Constituent = top

      by : (d : Bool) → PutsOnly C D
          (let t = cond {A = Did Coord} d (aborts_with (actor b.path) cause.Doomed intents c) (commit_open b intents c b.kind) in t.outs)
      by true = end_puts (actor b.path) ending.Abort (λ l. body.Aborted l cause.Doomed)
      by false = kinds b.kind

  pub acts_put : (i : Input) → PutsOnly C D (let t = acts i intents c in t.outs)
  acts_put (input.Begin l k parent) = (tt, tt)
  acts_put (input.Call l x o) = by (branch_named l c)
    where
      by : (f : Option Branch) → PutsOnly C D (let t = on_branch (λ b. call b.path x o c) c f in t.outs)
      by None = tt
      by (Some b) = (tt, tt)
  acts_put (input.Include l x s) = by (branch_named l c)
    where
      by : (f : Option Branch) → PutsOnly C D (let t = on_branch (λ b. include b.path x s c) c f in t.outs)
      by None = tt
      by (Some b) = (tt, tt)
  acts_put (input.Commit l) = by (branch_named l c)
    where
      by : (f : Option Branch) → PutsOnly C D (let t = on_branch (λ b. commit_action b intents c) c f in t.outs)
      by None = tt
      by (Some b) = commit_puts b
  acts_put (input.Abort l) = by (branch_named l c)
    where
      by : (f : Option Branch) → PutsOnly C D (let t = on_branch (λ b. abort_action (actor b.path) intents c) c f in t.outs)
      by None = tt
      by (Some b) =
          let us = open_below (actor b.path) c.tree ++ actor b.path ∷ [] in
          let t = all_aborted us c in
          plainly C D (t.outs ++ flat_map (tolds_of intents t.part) us)
          (plain_both t.outs (flat_map (tolds_of intents t.part) us) (plain_aborted us c) (plain_tolds_all intents t.part us))
  acts_put (input.GiveUp l) = by (branch_named l c)
    where
      by : (f : Option Branch) → PutsOnly C D (let t = on_branch (λ b. give_up (actor b.path) intents c) c f in t.outs)
      by None = tt
      by (Some b) = give_up_puts (actor b.path)
  acts_put (input.Frame k from m) = tt
  acts_put input.Tick = tt
  acts_put input.Restart = tt
  acts_put input.Crash = tt
  acts_put (input.Show x) = tt

  pub acked_puts : (from : ℕ) (u : Uid) → D u → PutsOnly C D (let a = acked from u intents c in a.outs)
  acked_puts from u may = by (at_uid u c.telling)
    where
      left : (i : Intent) (ns : List ℕ) → PutsOnly C D (let a = acked_left u i intents c ns in a.outs)
      left i [] = (
        may,
        plainly C D (tolds_let_go u (without_uid u intents) c (at_uid u intents))
            (plain_let_go u (without_uid u intents) c (at_uid u intents)),
      )
      left i (n ∷ ns) = tt

      one : (i : Intent) (b : Bool) → PutsOnly C D (let a = cond {A = Served Coord (Unit {0})} b
          (acked_left u i intents c (without_number from i.nodes)) (record { part = c; outs = []; reply = None }) in a.outs)
      one i true = left i (without_number from i.nodes)
      one i false = tt

      by : (o : Option Intent) → PutsOnly C D (let a = acked_by from u intents c o in a.outs)
      by None = tt
      by (Some i) = one i (order.has i.nodes from)

-- ---- what stands on disks

-- each has one that had one before, or is such a top
abbrev pub AreRecordedBy : (Uid → Type 0) → Seen → Seen → Type 0
AreRecordedBy C M N = (u : Uid) → IsRecordedAt N u → IsRecordedAt M u ⊎ C u

module _ (C : Uid → Type 0) (M : Seen) (k : ℕ) where
  abbrev Here : Disk → Type 0
  Here d = (u : Uid) (i : Intent) → list.In {X = Uid × Intent} (u, i) d.intents → IsRecordedAt M u ⊎ C u

  -- of the other nodes nothing is new
  abbrev Others : Seen → Type 0
  Others N = (j : ℕ) (n : Node) → (j == k) ≡ false → N.nodes j ≡ Some n →
      (m : Node) × (M.nodes j ≡ Some m) × ((let d = n.disk in d.intents) ≡ (let d = m.disk in d.intents))

  worked_here : (D : Uid → Type 0) (w : Work) (d : Disk) → Puts C D (Do w) → Here d → Here (worked w d)
  worked_here D Look d puts h = h
  worked_here D (PutInc i) d puts h = h
  worked_here D (Prepare role.Store u states) d puts h = h
  worked_here D (Prepare role.Names u states) d puts h = h
  worked_here D (Commit role.Store u) d puts h = h
  worked_here D (Commit role.Names u) d puts h = h
  worked_here D (Abort role.Store u) d puts h = h
  worked_here D (Abort role.Names u) d puts h = h
  worked_here D (PutIntent u i) d puts h =
      λ w j there. ⊎_elim (λ same. inr (subst C (sym same) puts)) (λ old. h w old.0 old.1) (put_in u i w j d.intents there)
  worked_here D (RemoveIntent u) d puts h = λ w j there. h w j (without_in u (w, j) d.intents there)

  part_here : (which : Uid → Bool) (w : Work) (d : Disk) → Here d → Here (in_part which w d)
  part_here which Look d h = h
  part_here which (PutInc i) d h = h
  part_here which (Prepare role u states) d h = h
  part_here which (Commit role.Store u) d h = h
  part_here which (Commit role.Names u) d h = h
  part_here which (Abort role u) d h = h
  part_here which (PutIntent u i) d h = h
  part_here which (RemoveIntent u) d h = h

  stopped_here : (D : Uid → Type 0) (how : Stop) (w : Work) (d : Disk) → Puts C D (Do w) → Here d → Here (stopped how w d)
  stopped_here D Before w d puts h = h
  stopped_here D After w d puts h = worked_here D w d puts h
  stopped_here D (InPart which) w d puts h = part_here which w d h

  -- this node in another state
  pub recorded_at : (d : Disk) (live : Option Parts) (N Z : Seen) → ((j : ℕ) → Z.nodes j ≡ (at k d live N).nodes j) → Others N → Here d →
      AreRecordedBy C M Z
  recorded_at d live N Z same_nodes others h u r = by (r.place == k) refl (sym (same_nodes r.place) ∙ r.here)
    where
      by : (b : Bool) → (r.place == k) ≡ b → cond b (Some (record { number = k; disk = d; live = live })) (N.nodes r.place) ≡ Some r.node →
          IsRecordedAt M u ⊎ C u
      by true is here = (let same : record { number = k; disk = d; live = live } ≡ r.node = cc here in
          h u r.intent (subst (λ (n : Node). list.In {X = Uid × Intent} (u, r.intent) (let c = n.disk in c.intents)) (sym same) r.there))
      by false is here = (let o = others r.place r.node is here in inl (record {
        place = r.place;
        node = o.0;
        intent = r.intent;
        here = o.1;
        there = subst (λ (es : List (Uid × Intent)). list.In {X = Uid × Intent} (u, r.intent) es) o.2 r.there;
      }))

  pub records_walk : (D : Uid → Type 0) (e : ℕ) (v : Parts) (es : List Effect) (d : Disk) (N : Seen) → Others N → PutsOnly C D es → Here d →
      Walks (AreRecordedBy C M) e k es (Up (AreRecordedBy C M) k v) d N
  records_walk D e v [] d N others puts h = recorded_at d (Some v) N (up k d v N) (λ j. refl) others h
  records_walk D e v (Do w ∷ es) d N others puts h = (
    λ how. recorded_at (stopped how w d) None N (halted e k (stopped how w d) N) (λ j. refl) others (stopped_here D how w d puts.0 h),
    records_walk D e v es (worked w d) N others puts.1 (worked_here D w d puts.0 h),
  )
  records_walk D e v (Say b ∷ es) d N others puts h = records_walk D e v es d (said e (b ∷ []) N) others puts.1 h
  records_walk D e v (Send to m ∷ es) d N others puts h =
      λ more quiet. records_walk D e v es d (said e more (posted (record { from = k; to = to; message = m }) N)) others puts.1 h

-- a step from where this node was so
module _ (C : Uid → Type 0) (k : ℕ) (d : Disk) (live : Option Parts) (M : Seen) where
  pub here_then : Here C (at k d live M) k d
  here_then u i there = inl (record {
    place = k;
    node = record { number = k; disk = d; live = live };
    intent = i;
    here = node_here M k (record { number = k; disk = d; live = live });
    there = there;
  })

  pub others_then : Others C (at k d live M) k M
  others_then j n other is = (n, (λ i. cond (other i) (Some (record { number = k; disk = d; live = live })) (M.nodes j)) ∙ is, refl)

-- ---- whole handlers

-- where a node's coordinator has its commits so
module _ (D : Uid → Type 0) (k : ℕ) (d : Disk) (t : Parts) (theirs : AreOfTheirs t.coord) where
  abbrev Confirms : Uid → Type 0
  Confirms u = IsConfirming t.coord u

  left_put : (outs : List Effect) → AreAll leaves outs → PutsOnly Confirms D outs
  left_put [] all = tt
  left_put (Say b ∷ es) all = (tt, left_put es (and_parts (leaves (Say b)) (list_all leaves es) all).1)
  left_put (Send to m ∷ es) all = (tt, left_put es all)
  left_put (Do Look ∷ es) all = (tt, left_put es all)
  left_put (Do (PutInc i) ∷ es) all = absurd (cc all)
  left_put (Do (Prepare r u states) ∷ es) all = (tt, left_put es all)
  left_put (Do (Commit r u) ∷ es) all = (tt, left_put es all)
  left_put (Do (Abort r u) ∷ es) all = (tt, left_put es all)
  left_put (Do (PutIntent u i) ∷ es) all = absurd (cc all)
  left_put (Do (RemoveIntent u) ∷ es) all = absurd (cc all)

  pub message_puts : (from : ℕ) (m : Message) (v : Parts) (outs : List Effect) → handle k d t from m ≡ Took v outs →
      ((u : Uid) → m ≡ message.Acked (record { act = u }) → D u) → PutsOnly Confirms D outs
  message_puts from m v outs takes may = by (is_for_parts m) refl
    where
      coordinator : (o : Option (Uid × Bool)) → coordinated m ≡ o → is_for_parts m ≡ false → PutsOnly Confirms D outs
      coordinator None none off = hears (answers m) refl (is_answer m none off)
        where
          hears : (o : Option (Asked × Reply)) → answers m ≡ o → is_some o ≡ true → PutsOnly Confirms D outs
          hears None of some = absurd (cc some)
          hears (Some a) of some =
              let n = subst (λ (w : Message). handle k d t from w ≡ Took v outs) (response_is m a of) takes in
              let q = took_heard t v (heard from a.0 a.1 d.intents t.coord) outs (sym (handled_answer k d t from a.0 a.1) ∙ n) in
              subst (λ (es : List Effect). PutsOnly Confirms D es) q.1 (heard_puts D t.coord theirs d.intents from a.0 a.1)
      coordinator (Some (w, true)) of off =
          let n = subst (λ (y : Message). handle k d t from y ≡ Took v outs) (is_acked m w of) takes in
          let q = took_heard t v (acked from w d.intents t.coord) outs n in
          subst (λ (es : List Effect). PutsOnly Confirms D es) q.1 (acked_puts D t.coord theirs d.intents from w (may w (is_acked m w of)))
      coordinator (Some (w, false)) of off =
          let n = subst (λ (y : Message). handle k d t from y ≡ Took v outs) (is_query m w of) takes in
          let taken : Took t (answer_query from w d.intents t.coord) ≡ Took v outs = n in
          let same : answer_query from w d.intents t.coord ≡ outs = cc taken in
          subst (λ (es : List Effect). PutsOnly Confirms D es) same
          (plainly Confirms D (answer_query from w d.intents t.coord) (plain_query from w d.intents t.coord))

      by : (b : Bool) → is_for_parts m ≡ b → PutsOnly Confirms D outs
      by true mine = let l = (subst (Leaves t from (asks m)) takes (message_left k d t from m mine)).0 in left_put outs l.plain
      by false mine = coordinator (coordinated m) refl mine

  pub tick_puts : PutsOnly Confirms D (tick_outs (record { number = k; disk = d; live = Some t }) t)
  tick_puts =
      let r = again_all t.coord.doings t.coord in
      joined Confirms D (r.outs ++ tolds_again t.coord.telling) (map query_about (holders d t))
      (plainly Confirms D (r.outs ++ tolds_again t.coord.telling) (plain_both r.outs (tolds_again t.coord.telling)
      (again_plain [] t.coord.doings t.coord) (plain_again t.coord.telling))) (queries (holders d t))
    where
      queries : (us : List Uid) → PutsOnly Confirms D (map query_about us)
      queries [] = tt
      queries (u ∷ us) = (tt, queries us)
