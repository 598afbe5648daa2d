-- A coordinator is acknowledged: the machine waits, a record that is removed leaves all else, and an end that is told then is shown.
use Rattle.arj_law_parts.proofs.Words
use Words.{◌≡◌, ◌∙◌, ◌&&◌, ℕ, List, [], ◌∷◌, not, Bool, true, false, cond, Option, Some, None, refl, sym, subst, inl, inr, is_eq, and_parts}
use Words.{append-nil, in_from, in_to, Uid, uid_eq, uid_order, Coord, After, Before, Disk, InPart, Intent, RemoveIntent, Served, worked}
use Words.{acked, acked_by, acked_left, let_go, tell, tell_all, tolds_let_go, with_coord, at_uid, has, put_uid, without_number, without_uid}
use Words.{AreAll, Branch, branch_of, Post}
use Words.list
use Words.ending
use Rattle.arj_law_lock_view.proofs.Terms
use Terms.{Run, State, Stops, Up, Walks, halted, SeesWhole, View, Case, HoldsNamingIn, IsSeenIn, Spot, view_in, world_at, coord_at}
use Terms.{records_at, Fixed, IsToldSo, HaveConfirms, AreRecordsOf, SeesLocks, SeesUp, AreTied, IsSeenSo}
use Terms.machine_run as machine
use Terms.each
use Rattle.arj_law_lock_view.proofs.running
use running.{HaltSteps.halt_up, QuerySteps.ended_seen, QuerySteps.told_one, TieSteps.tied_now, WalkSteps.AreSendsSeen, WalkSteps.IsSendSeen}
use running.GoodSteps.{good_node, its, steady}
use running.NameSteps.{confirms_down, confirms_more, confirms_same}
use running.OtherSteps.{confirms_of, SeesOthers, here_of, others_of, reached_of, with_here}
use running.RestartWalks.{is_no_work, quiet_walk}
use Rattle.arj_law_lock_view.proofs.view.CallInputSteps.{acks_are_taken}
use Rattle.arj_law_lock_view.specs.running.Asking.{AcksGo, HasWholeRoots}
use Rattle.arj_protocol.specs.Ending.{is_over}

-- what is left of entries was there
in_without : {X : Type 0} (u w : Uid) (x : X) (m : List (Uid × X)) → list.In {X = Uid × X} (w, x) (without_uid u m) →
    list.In {X = Uid × X} (w, x) m
in_without {X = X} u w x [] there = there
in_without {X = X} u w x (e ∷ es) there = by (is_eq (uid_order u e.0)) there (λ there. in_without u w x es there)
  where
    by : (b : Bool) → list.In {X = Uid × X} (w, x) (cond b es (e ∷ without_uid u es)) →
        (list.In {X = Uid × X} (w, x) (without_uid u es) → list.In {X = Uid × X} (w, x) es) → list.In {X = Uid × X} (w, x) (e ∷ es)
    by true there ih = inr there
    by false (inl same) ih = inl same
    by false (inr there) ih = inr (ih there)

module _ (c : Case) (s : Spot) (is_seen : IsSeenIn c (world_at s)) (holds : HoldsNamingIn c s.node (let t = s.parts in t.naming)) (from : ℕ)
    (u : Uid) (roots : HasWholeRoots s u) where
  abbrev f : Fixed
  f = c.fixed

  abbrev k : ℕ
  k = s.node

  abbrev S : State
  S = c.state

  abbrev C : Coord
  C = coord_at s

  abbrev v : View
  v = view_in c k

  abbrev js : List (Uid × Intent)
  js = records_at s

  abbrev sent : List Post
  sent = let M = s.seen in M.sent

  here : SeesUp v S s.disk s.parts
  here = here_of f c.x c.begun k s.disk (Some s.parts) S s.seen is_seen.sees

  others : SeesOthers f c.x c.begun k S s.seen
  others = others_of f c.x c.begun k s.disk (Some s.parts) S s.seen is_seen.sees

  abbrev rest : List (Uid × Intent)
  rest = without_uid u js

  -- a record is removed
  fewer : AreRecordsOf v None rest S
  fewer w i there =
      here.records w i (in_to {X = Uid × Intent} (w, i) js (in_without u w i js (in_from {X = Uid × Intent} (w, i) rest there)))

  removed : SeesUp v S (worked (RemoveIntent u) s.disk) s.parts
  removed = record {
    server = here.server;
    coord = here.coord;
    naming = here.naming;
    inc = here.inc;
    place = here.place;
    home = here.home;
    past = here.past;
    records = fewer;
  }

  -- the coordinator waits for fewer
  told : (d : Disk) (m : List (Uid × Intent)) → SeesUp v S d s.parts → SeesWhole f.act f.code c.x (record C { telling = m }) S →
      SeesUp v S d (with_coord s.parts (record C { telling = m }))
  told d m z whole = record {
    server = z.server;
    coord = whole;
    naming = z.naming;
    inc = z.inc;
    place = z.place;
    home = z.home;
    past = z.past;
    records = z.records;
  }

  -- whom the node has confirmed
  have : HaveConfirms f c.x k S sent s.disk (Some s.parts)
  have = confirms_of f c.x c.begun k s.disk (Some s.parts) S s.seen is_seen.sees

  halt : (e : ℕ) (d : Disk) → (let z = s.disk in d.inc ≡ z.inc) → (let z = s.disk in d.names ≡ z.names) → SeesUp v S d s.parts →
      (T : State) × SeesLocks f c.x c.begun T (halted e k d s.seen) × AreTied f c.x (let N = halted e k d s.seen in N.lines) T × Run S T
  halt e d inc names z = halt_up f c.x c.begun k e S S d s.parts s.seen (steady c s is_seen) (let n = good_node c s is_seen in
      let g = n.coord in g.known) ((let q = its c s is_seen in q.server) ∙ sym inc) (let q = its c s is_seen in
      q.node) holds others z (confirms_down f c.x k S sent s.disk d (Some s.parts) names have) (tied_now c (world_at s) is_seen)

  stop : (e : ℕ) → Stops (IsSeenSo c) e k (RemoveIntent u) s.disk s.seen
  stop e Before agrees = halt e s.disk refl refl here
  stop e After agrees = halt e (worked (RemoveIntent u) s.disk) refl refl removed
  stop e (InPart which) agrees = halt e s.disk refl refl here

  -- ---- what is told then

  let_go_seen : (o : Option Intent) → at_uid u js ≡ o → AreSendsSeen f c.x c.begun k S sent (tolds_let_go u rest C o)
  let_go_seen None at = tt
  let_go_seen (Some i) at = by (not (uid_eq i.root u) && is_over (branch_of i.root C.tree)) refl
    where
      so : (o : Option Branch) → branch_of i.root C.tree ≡ o → is_over o ≡ true → IsToldSo v S i.root ending.Abort
      so None found over = absurd (cc over)
      so (Some b) found over = ended_seen c s is_seen i.root b found over (roots i b at found)

      by : (b : Bool) → (not (uid_eq i.root u) && is_over (branch_of i.root C.tree)) ≡ b → AreSendsSeen f c.x c.begun k S sent
          (cond b (tell_all i.root false ((i.root, ending.Abort) ∷ []) (let_go i.root rest C i.nodes)) [])
      by true is = each.all_map (IsSendSeen f c.x c.begun k S sent) (tell i.root false ((i.root, ending.Abort) ∷ []))
          (let_go i.root rest C i.nodes) (λ n. told_one c s is_seen i.root false i.root ending.Abort n
          (so (branch_of i.root C.tree) refl (and_parts (not (uid_eq i.root u)) (is_over (branch_of i.root C.tree)) is).1))
      by false is = tt

  let_go_quiet : (o : Option Intent) → AreAll is_no_work (tolds_let_go u rest C o)
  let_go_quiet None = refl
  let_go_quiet (Some i) = by (not (uid_eq i.root u) && is_over (branch_of i.root C.tree))
    where
      sends : (ns : List ℕ) → AreAll is_no_work (tell_all i.root false ((i.root, ending.Abort) ∷ []) ns)
      sends [] = refl
      sends (n ∷ ns) = sends ns

      by : (b : Bool) → AreAll is_no_work (cond b (tell_all i.root false ((i.root, ending.Abort) ∷ []) (let_go i.root rest C i.nodes)) [])
      by true = sends (let_go i.root rest C i.nodes)
      by false = refl

  -- ---- the walk

  abbrev AckWalks : ℕ → Served Coord (Unit {0}) → Type 0
  AckWalks e D = Walks (IsSeenSo c) e k D.outs (Up (IsSeenSo c) k (with_coord s.parts D.part)) s.disk s.seen

  -- nothing is removed
  stay : (e : ℕ) (m : List (Uid × Intent)) → SeesWhole f.act f.code c.x (record C { telling = m }) S →
      Up (IsSeenSo c) k (with_coord s.parts (record C { telling = m })) s.disk s.seen
  stay e m whole agrees = (
    S,
    with_here f c.x c.begun k s.disk (Some (with_coord s.parts (record C { telling = m }))) S s.seen others (told s.disk m here whole)
        (confirms_same f c.x k S sent s.disk s.disk s.parts (with_coord s.parts (record C { telling = m })) refl refl have),
    is_seen.tied,
    machine.stay,
  )

  goes_left : (e : ℕ) (i : Intent) (ns : List ℕ) → SeesWhole f.act f.code c.x (let g = acked_left u i js C ns in g.part) S →
      AckWalks e (acked_left u i js C ns)
  goes_left e i [] whole =
      let d = worked (RemoveIntent u) s.disk in
      let P = IsSeenSo c in
      let m = without_uid u C.telling in
      let E = record C { telling = m } in
      let outs = tolds_let_go u rest C (at_uid u js) in (
        stop e,
        subst (λ es. Walks P e k es (Up P k (with_coord s.parts E)) d s.seen) (append-nil outs) (quiet_walk f c.x c.begun k e P
            (Up P k (with_coord s.parts E)) S sent d outs [] (let_go_quiet (at_uid u js)) (let_go_seen (at_uid u js) refl)
            (λ N w o now agrees. (
              S,
              with_here f c.x c.begun k d (Some (with_coord s.parts E)) S N o (told d m removed whole) (confirms_more f c.x k S sent N.sent
                  w d (Some (with_coord s.parts E)) (confirms_same f c.x k S sent s.disk d s.parts (with_coord s.parts E) refl refl have)),
              now.tied,
              machine.stay,
            )) s.seen (λ r i. i) others (tied_now c (world_at s) is_seen)),
      )
  goes_left e i (n ∷ ns) whole = stay e (put_uid u (record i { nodes = n ∷ ns }) C.telling) whole

  goes_by : (e : ℕ) (o : Option Intent) → SeesWhole f.act f.code c.x (let g = acked_by from u js C o in g.part) S →
      AckWalks e (acked_by from u js C o)
  goes_by e None whole = stay e C.telling whole
  goes_by e (Some i) whole = by (has i.nodes from) whole
    where
      by : (t : Bool) → SeesWhole f.act f.code c.x (let g = cond {A = Served Coord (Unit {0})} t (acked_left u i js C (without_number from
          i.nodes)) (record { part = C; outs = []; reply = None }) in g.part) S → AckWalks e (cond {A = Served Coord (Unit {0})} t
          (acked_left u i js C (without_number from i.nodes)) (record { part = C; outs = []; reply = None }))
      by true whole = goes_left e i (without_number from i.nodes) whole
      by false whole = stay e C.telling whole

  pub ack_goes : (e : ℕ) → AckWalks e (acked from u js C)
  ack_goes e =
      goes_by e (at_uid u C.telling) (acks_are_taken f.act f.code c.x from u js C S (reached_of f c.x c.begun k S s.seen others) here.coord)

pub acks_go : AcksGo
acks_go c s e from u is_seen holds roots = ack_goes c s is_seen holds from u roots e
