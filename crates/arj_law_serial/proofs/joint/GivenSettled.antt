-- Where both machines of an object stand in one state: nobody is in doubt by the lock machine, where by the disk machine nobody who is
-- confirmed is undecided.
use Rattle.arj_law_parts.proofs.Words
use Words.{◌≡◌, ◌⊎◌, ◌≤◌, ◌||◌, ℕ, List, Bool, true, false, Option, Some, None, is_some, refl, sym, ◌∙◌, ap, subst, inl, inr, ⊎_elim, arith}
use Words.{in_to, End, Header, Kind, ObjectState, Uid, Reply, actor, asked_by, response, Calling, Committing, Doing, Idle, Now, doing_of}
use Words.{Intent, is_prepared, Parts, at_uid, uid_number, Node, Branch, Tree, branch_of, Seen}
use Words.list
use Words.confirmed
use Words.ending
use Words.kind
use Words.commit
use Rattle.arj_law_serial.proofs.Terms
use Terms.{Act, acts, first_values, Action, act_of, at_in, work_there, IsMemory, IsUp, undecided, bool_cases, never, SeesConfirming}
use Terms.{SeesPreparing, nodes_of, ClaimsAsked, Works, WorksBy, is_top, is_action, top, Alive, Call, State, top_action, stage_of, AreOne}
use Terms.{Fixed, view_of, IsPast, SeesDown, SeesMemory, SeesUp}
use Terms.disk
use Terms.machine
use Rattle.arj_law_disk.specs.machine.State.{open_by}
use Rattle.arj_law_lock.specs.machine.{Actions.In, Steps.NobodyInDoubt}
use Rattle.arj_law_lock_view.specs.running.Sees.{ArePast, IsOverIn, WasAnsweredYes, WasConfirmed}
use Rattle.arj_law_serial.proofs.joint
use joint.{Given.AreBeside, GivenLight.never_light, Surviving.IsTopThere, Surviving.top_there, Writing.VotedIn, Writing.planned_voted}
use joint.GivenTops.{begun_of, committed_there, core, disk_of, holds, node_of, places}
use Rattle.arj_law_serial.proofs.order.Order.{top_plain}
use Rattle.arj_law_disk.specs.machine.Messages as mail
use Rattle.arj_law_serial.proofs.joint.Starting.{stands_for}

-- ---- outcomes that are open

or_true : (b : Bool) → (b || true) ≡ true
or_true true = refl
or_true false = refl

module _ (S : disk.State) (t : ℕ) (off : disk.decided S t ≡ false) where
  -- with a record
  recorded_open : (nodes : List ℕ) → S.intent t ≡ Some nodes → undecided S t ≡ true
  recorded_open nodes is = (λ i. open_by (off i) (S.stage t) (is i)) ∙ or_true (disk.is_open (S.stage t))

  -- in its commit
  preparing_open : S.stage t ≡ disk.Preparing → undecided S t ≡ true
  preparing_open is = λ i. open_by (off i) (is i) (S.intent t)

  confirming_open : S.stage t ≡ disk.Confirming → undecided S t ≡ true
  confirming_open is = λ i. open_by (off i) (is i) (S.intent t)

-- ---- a top that isn't over by the lock machine

module _ (hd : Header) (f : Fixed) (x : ℕ) (begun : List Action) (S : State) (M : Seen) (b : AreBeside hd f x begun S M) (alone : (z : ℕ) →
    (let A = b.office in let D = A.world.disk in D.conf z) ≡ true → undecided (let A = b.office in A.world.disk) z ≡ true → ⊥) where
  abbrev D : disk.State
  D = disk_of hd f x begun S M b

  module _ (a : Act) (in_acts : list.In a (acts M.lines)) (top_kind : is_top a.kind ≡ true) (c : Call) (there : In c S.calls)
      (write : c.write ≡ true) (its : top c.act ≡ f.act a.uid) (alive : Alive S c.act)
      (conf : S.confirmed (f.act a.uid) ≡ true) (one : 1 ≤ (let k = S.action (f.act a.uid) in k.stage))
      (two : (let k = S.action (f.act a.uid) in k.stage) ≤ 2) (commits : D.begun (uid_number a.uid) ≡ true)
      (taken : undecided D (uid_number a.uid) ≡ true → (D.conf (uid_number a.uid) ≡ true) ⊎ (D.light (uid_number a.uid) ≡ true)) where
    abbrev u : Uid
    u = a.uid

    abbrev t : ℕ
    t = uid_number a.uid

    abbrev m : machine.Act
    m = f.act a.uid

    acts_so : is_action m ≡ true
    acts_so = top_action m (let p = places hd f x begun S M b in p.tops a (in_to a (acts M.lines) in_acts) ∙ top_kind)

    node : (n : Node) × (M.nodes u.node ≡ Some n)
    node = node_of hd f x begun S M b a in_acts

    not_ended : (let k = S.action m in k.stage) ≡ 3 ⊎ (let k = S.action m in k.stage) ≡ 4 → ⊥
    not_ended (inl e) = omega (arith, two, e)
    not_ended (inr e) = omega (arith, two, e)

    -- it is one of these actions, which isn't past
    past_not : (v : ℕ) (tree : Tree) → v ≡ u.node → ArePast (view_of f x begun v) tree S → (r : Branch) × (branch_of u tree ≡ Some r)
    past_not v tree same past =
        let z = begun_of hd f x begun S M b a in_acts in
        ⊎_elim
        (λ (here : (r : Branch) × (branch_of (act_of z.0) tree ≡ Some r)). (here.0, ap (λ (w : Uid). branch_of w tree) (sym z.2) ∙ here.1))
        (λ (old : IsPast (view_of f x begun v) (act_of z.0) S).
        absurd (not_ended (subst (λ (w : Uid). (let k = S.action (f.act w) in k.stage) ≡ 3 ⊎ (let k = S.action (f.act w) in k.stage)
        ≡ 4) z.2 (old.ended (ap (λ (w : Uid). is_action (f.act w)) z.2 ∙ acts_so)))))
        (past z.0 z.1 (ap (λ (w : Uid). w.node) z.2 ∙ sym same))

    one_there : AreOne f.act
    one_there = let s = b.seen in let g = s.agrees in let w = g.whole in let l = w.alike in l.one

    plain_light : D.light t ≡ true → (let p = D.plan t in p.writes) ≡ None
    plain_light on = let k = core hd f x begun S M b in k.light.plain t on

    -- ---- its node is down

    down : SeesDown (view_of f x begun u.node) S (let n = node.0 in n.disk) → (let n = node.0 in n.live) ≡ None → ⊥
    down s dead = ⊎_elim waiting not_ended (let h = s.stopped in h.each u r.0 r.1 acts_so)
      where
        r : (r : Branch) × (branch_of u s.tree ≡ Some r)
        r = past_not u.node s.tree refl s.past

        waiting : s.last ≡ Some u → ⊥
        waiting last = by (at_uid u (let n = node.0 in let d = n.disk in d.intents)) refl (s.decided u last)
          where
            stage : (let k = S.action m in k.stage) ≡ 2
            stage = (let h = s.stopped in h.top u last).3

            by : (o : Option Intent) → at_uid u (let n = node.0 in let d = n.disk in d.intents) ≡ o → is_some o ≡ true → ⊥
            by None at some = cc some
            by (Some i) at some = ⊎_elim done unsaid (bool_cases (disk.decided D t))
              where
                done : disk.decided D t ≡ true → ⊥
                done on = not_ended
                    (inl (committed_there hd f x begun S M b a in_acts (top_plain a.kind top_kind) (b.early u node.0 node.1 dead on)))

                unsaid : disk.decided D t ≡ false → ⊥
                unsaid off =
                    let k = b.both in
                    let e = k.disks in
                    let q = e.records u.node node.0 node.1 in
                    let yet = recorded_open D t off i.nodes (q.is u refl ∙ ap nodes_of at) in
                    ⊎_elim
                    (λ on. alone t on yet)
                    (λ light.
                    let p = b.planned.records u (record {
                      place = u.node;
                      node = node.0;
                      intent = i;
                      here = node.1;
                      there = at_in u i (let n = node.0 in let d = n.disk in d.intents) at;
                    }) in
                    let voted : VotedIn f S u None = subst (VotedIn f S u) (plain_light light)
                    (planned_voted f x S (let A = b.office in A.world) u one_there p (omega (arith, stage)) (omega (arith, stage))) in
                    voted c there write its alive)
                    (taken yet)

    -- ---- its node is up

    module _ (p : Parts) (live : (let n = node.0 in n.live) ≡ Some p)
        (s : SeesUp (view_of f x begun u.node) S (let n = node.0 in n.disk) p) where
      r : (r : Branch) × (branch_of u (let q = p.coord in q.tree) ≡ Some r)
      r = past_not u.node (let q = p.coord in q.tree) refl s.past

      up_good : IsUp begun M.sent M.labels u.node (let n = node.0 in let d = n.disk in d.inc) p
      up_good = let e = b.seen in let g = e.good in let w = g.places u.node node.0 node.1 in
          subst (IsMemory begun M.sent M.labels u.node (let n = node.0 in let d = n.disk in d.inc)) live w.memory

      work : (q : Doing) × (doing_of u p.coord ≡ Some q)
      work = work_there p.coord (let g = up_good in let h = g.faithful in h.works) u r.0 r.1

      stage : (let k = S.action m in k.stage) ≡ stage_of (let y = r.0 in y.ended) (let q = work.0 in q.now)
      stage = (let w = s.coord in let z = w.coord in let y = z.actions in let e = y.each u r.0 work.0 r.1 work.1 acts_so in e.stage)

      undecided_here : (g : disk.Stage) → D.stage t ≡ g → disk.is_gone g ≡ false → disk.decided D t ≡ false
      undecided_here g is off = ⊎_elim (λ on. absurd (never (ap disk.is_gone (sym is)
          ∙ (let k = core hd f x begun S M b in k.coordinators.decided_closed t on)) off)) (λ still. still) (bool_cases (disk.decided D t))

      confirming : (q : commit.Plan) → (let w = work.0 in w.now) ≡ Committing (commit.Confirming q) → (let k = S.action m in k.stage) ≡ 1 →
          SeesConfirming x D t q → ⊥
      confirming q now is w =
          let off = undecided_here disk.Confirming w.stage refl in
          let yet = confirming_open D t off w.stage in
          ⊎_elim
          (λ on. alone t on yet)
          (λ light. never_light f x S (let A = b.office in A.world) u one_there q (let e = b.seen in let l = e.sees in l.run) w
          (b.voted u.node node.0 p node.1 live u work.0 (commit.Confirming q) work.1 now)
          (let y = s.coord in y.commits u work.0 (commit.Confirming q) work.1 now)
          is conf (plain_light light) c there write its alive)
          (taken yet)

      preparing : (q : commit.Plan) (left : List ℕ) → SeesPreparing x D t q left → ⊥
      preparing q left w =
          let off = undecided_here disk.Preparing w.stage refl in
          let k = core hd f x begun S M b in
          ⊎_elim
          (λ on. never (ap disk.is_sealed (sym w.stage) ∙ k.coordinators.conf_sealed t on) refl)
          (λ light. never (ap disk.is_sealed (sym w.stage) ∙ k.coordinators.light_sealed t light) refl)
          (taken (preparing_open D t off w.stage))

      working : (q : commit.Machine) → (let w = work.0 in w.now) ≡ Committing q → (let k = S.action m in k.stage) ≡ 1 →
          WorksBy x D t (Committing q) → ⊥
      working (commit.Voting q left) now is w = never (ap disk.is_idle w) (let k = core hd f x begun S M b in k.fresh.begun t commits)
      working (commit.Preparing q left) now is w = preparing q left w
      working (commit.Confirming q) now is w = confirming q now is w

      a_top : (let o = b.tops in o.is_top t) ≡ true
      a_top = let k = b.both in let e = k.disks in (e.kinds t commits).0

      by_kind : (k : Kind) (now : Now) → Works x b.tops D t k now → WorksBy x D t now
      by_kind kind.Nested now w = absurd (never a_top w)
      by_kind kind.Serial now w = absurd (never a_top w.0)
      by_kind kind.Top now w = w.1
      by_kind kind.Independent now w = w.1
      by_kind kind.Constituent now w = w.1

      up : ⊥
      up = by (let y = r.0 in y.ended) refl (let q = work.0 in q.now) refl stage
        where
          works : (let y = r.0 in y.ended) ≡ None → WorksBy x D t (let q = work.0 in q.now)
          works unended = by_kind (let y = r.0 in y.kind) (let q = work.0 in q.now) (let k = b.both in let e = k.disks in
              let z = e.coords u.node node.0 p node.1 live in z.working u r.0 work.0 r.1 unended work.1)

          by : (e : Option End) → (let y = r.0 in y.ended) ≡ e → (now : Now) → (let q = work.0 in q.now) ≡ now →
              (let k = S.action m in k.stage) ≡ stage_of e now → ⊥
          by (Some ending.Commit) is now at has = not_ended (inl has)
          by (Some ending.Abort) is now at has = not_ended (inr has)
          by None is (Committing q) at has = working q at has (subst (WorksBy x D t) at (works is))
          by None is (Calling q) at has = omega (arith, one, has)
          by None is Idle at has = omega (arith, one, has)

    pub never_open : ⊥
    never_open = by (let n = node.0 in n.live) refl (let e = b.seen in let l = e.sees in l.nodes u.node node.0 node.1)
      where
        by : (o : Option Parts) → (let n = node.0 in n.live) ≡ o → SeesMemory (view_of f x begun u.node) S (let n = node.0 in n.disk) o → ⊥
        by None live s = down s live
        by (Some p) live s = up p live s

  -- ---- nobody is in doubt

  module _ (naming : Node) (first : M.nodes 1 ≡ Some naming) (c : Call) (there : In c S.calls) (write : c.write ≡ true)
      (alive : Alive S c.act) (conf : S.confirmed (top c.act) ≡ true) (two : (let k = S.action (top c.act) in k.stage) ≤ 2) where
    k : IsTopThere f.act M.lines (top c.act)
    k = top_there f x begun S M b.seen (first_values hd) (stands_for (first_values hd) M.start.marks x f b.agrees.1.0) c there

    abbrev a : Act
    a = k.its

    abbrev y : machine.Act
    y = f.act (let z = k.its in z.uid)

    is : machine.is_top y ≡ true
    is = let p = places hd f x begun S M b in p.tops a (in_to a (acts M.lines) k.there) ∙ k.kind

    conf_here : S.confirmed y ≡ true
    conf_here = ap S.confirmed k.place ∙ conf

    two_here : (let z = S.action y in z.stage) ≤ 2
    two_here = subst (λ (z : machine.Act). (let e = S.action z in e.stage) ≤ 2) (sym k.place) two

    one_here : 1 ≤ (let z = S.action y in z.stage)
    one_here = let h = holds hd f x begun S M b in (h.tops y is).asked conf_here

    doubt : D.begun (uid_number (let z = k.its in z.uid)) ≡ true → (undecided D (uid_number (let z = k.its in z.uid)) ≡ true →
        (D.conf (uid_number (let z = k.its in z.uid)) ≡ true) ⊎ (D.light (uid_number (let z = k.its in z.uid)) ≡ true)) → ⊥
    doubt commits taken = never_open a k.there k.kind c there write (sym k.place) alive conf_here one_here two_here commits taken

    answered : WasAnsweredYes x M.sent (let z = k.its in z.uid) → ⊥
    answered w =
        let e = b.both in
        let s = e.disks in
        let request = subst (λ o. ClaimsAsked x b.tops (let A = b.office in A.world) M.lines (let p = w.post in p.from) (let p = w.post in
        p.to) (let p = w.post in p.message) o) w.is (s.posts w.post w.there) in
        let who : actor (let h = w.head in h.path) ≡ (let z = k.its in z.uid) = request.0 ∙ w.top in
        let said = s.posts (record {
          from = (let p = w.post in p.to);
          to = (let p = w.post in p.from);
          message = response (asked_by w.head) (Reply.Confirmed confirmed.Yes);
        }) w.yes in
        let means = (let v = s.whole in v.mail) (mail.Confirmed (uid_number (actor (let h = w.head in h.path)))) said in
        doubt (ap (λ (z : Uid). D.begun (uid_number z)) (sym who) ∙ means.0) (subst (λ (z : Uid). undecided D (uid_number z) ≡ true →
        (D.conf (uid_number z) ≡ true) ⊎ (D.light (uid_number z) ≡ true)) who means.1)

    prepared : is_prepared (let z = k.its in z.uid) (let d = naming.disk in d.names) ≡ true → ⊥
    prepared on = by (at_uid (let z = k.its in z.uid) (let d = naming.disk in d.names.pend)) refl on
      where
        by : (o : Option (List ObjectState)) → at_uid (let z = k.its in z.uid) (let d = naming.disk in d.names.pend) ≡ o →
            is_some o ≡ true → ⊥
        by None at some = cc some
        by (Some states) at some = let e = b.both in let s = e.disks in let q = s.entry naming first in
            doubt (q.begun (let z = k.its in z.uid) states at) (q.taken (let z = k.its in z.uid) states at)

    over : IsOverIn y S → ⊥
    over (inl three) = let z = two_here in omega (arith, three, z)
    over (inr closed) = let h = holds hd f x begun S M b in let g = (h.tops y is).goes one_here two_here in omega (arith, closed, g)

    in_doubt : ⊥
    in_doubt = by ((let e = b.seen in let l = e.sees in l.confirms 1 naming first).1 refl (let z = k.its in z.uid) is conf_here)
      where
        by : WasConfirmed f x S M.sent naming.disk (let z = k.its in z.uid) → ⊥
        by (inl w) = answered w
        by (inr (inl on)) = prepared on
        by (inr (inr o)) = over o

  pub nobody_in_doubt : (naming : Node) → M.nodes 1 ≡ Some naming → NobodyInDoubt S
  nobody_in_doubt naming first c there write alive conf two = absurd (in_doubt naming first c there write alive conf two)
